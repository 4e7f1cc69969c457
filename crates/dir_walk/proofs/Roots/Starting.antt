-- What is walked from a traversal root, by where the way to it ended.
use Rattle.std.proofs.Common.{◌≡◌, ℕ, List, [], ◌∷◌, ◌++◌, Bool, true, false, ◌&&◌, ◌||◌, Option, Some, None, Err, refl, sym, ap, subst, ◌∙◌, append_assoc, arith}
use Rattle.std.specs.Prelude.{if◌then◌else◌}
use Rattle.std.proofs.lemmas.List.{append-nil}
use Rattle.gitbase_core.specs.Path.{components, ends_in_slash, is_empty, path_joined_with_slash}
use Rattle.gitbase_core.proofs.Names.{IsName, AreNames, AreNames-components}
use Rattle.worktree_fs.specs.declared.answers.ListError.{ListError}
use Rattle.worktree_fs.specs.Answers.{list_of}
use Rattle.worktree_fs.specs.Paths.{root_joined_with_relative, slash_joined_components}
use Rattle.worktree_fs.proofs.Paths.Spelled.{component_from, grown-is, grown-components}
use Rattle.worktree_stack.specs.Reading.{TreeAndObjects}
use Rattle.worktree_stack.specs.Setup.{StackSetup}
use Rattle.dir_classify.specs.declared.classify.Outcome.{Outcome as Class}
use Rattle.dir_classify.specs.declared.entry.Kind.{Kind}
use Rattle.dir_classify.specs.declared.entry.Kind.TheVariants.{Directory}
use Rattle.dir_classify.specs.Chosen.{WalkOptions}
use Rattle.dir_classify.specs.Class.{class, enters}
use Rattle.dir_classify.specs.Enters.{can_recurse, is_walkable_kind, may_recurse_by_status}
use Rattle.dir_classify.specs.Entries.{entry_with_outcome}
use Rattle.dir_classify.specs.Evidence.{PathEvidence}
use Rattle.dir_classify.specs.Kinds.{is_plain_directory_kind, is_symlink_kind}
use Rattle.dir_classify.specs.Layers.{WalkSetting, evidence_from_setting_and_sources, index_kinds_at_path, kind_of_node_at, kind_on_disk_if_asked}
use Rattle.dir_classify.specs.Rooted.{end_of_way_to_root}
use Rattle.dir_classify.specs.Way.{EndOfWayToRoot, end_of_way_through_components, end_of_way_from_worktree_root, end_of_way_at_path, end_of_way_at_worktree_root}
use Rattle.dir_walk.specs.Root.{is_worktree_root_non_directory, enters_traversal_root, look_at_traversal_root, walk_result_with_single_entry, disk_kind_of_traversal_root, walk_result_from_traversal_root}
use Rattle.dir_walk.specs.Rooting.{IsNormalRootPath}
use Rattle.dir_walk.specs.Walked.{walk_result_of_entered_path}
use Rattle.dir_walk.specs.WalkRefused.{IsEnteredRootUnlistable, IsClassedAsDirectoryWithoutDisk}
use Rattle.dir_walk.proofs.Roots.HeldRoots.{held-root}

-- ---- the path that a way comes to

joined-full : (d name : List ℕ) → IsName name → is_empty (path_joined_with_slash d name) ≡ false
joined-full [] [] is = absurd (let some = is.some in omega (arith, some))
joined-full [] (b ∷ name) is = refl
joined-full (a ∷ d) name is = go (ends_in_slash (a ∷ d))
  where
    go : (b : Bool) → is_empty (if b then (a ∷ d) ++ name else (a ∷ d) ++ 47 ∷ name) ≡ false
    go true = refl
    go false = refl

module _ (o : WalkOptions) (ev : PathEvidence) (kinds : List ℕ → Option Kind) where
  abbrev step : EndOfWayToRoot → List ℕ → EndOfWayToRoot
  step r name = end_of_way_at_path o ev kinds r.in_repository r.is_unread (path_joined_with_slash r.path name)

  -- a way that came to its end is spelled by the components that it went through
  onward-path : (r : EndOfWayToRoot) (names : List (List ℕ)) → AreNames names → r.path ≡ slash_joined_components (components r.path) → (end_of_way_through_components o ev kinds r names).whole ≡ true → (end_of_way_through_components o ev kinds r names).path ≡ slash_joined_components (components r.path ++ names)
  onward-path r [] are is whole = is ∙ ap slash_joined_components (sym (append-nil (components r.path)))
  onward-path r (name ∷ names) are is whole = go (is_empty r.path || enters o r.class r.in_repository) whole
      (onward-path (step r name) names are.1
      (grown-is r.path name is (component_from name are.0) ∙ ap slash_joined_components (sym (grown-components r.path name is (component_from name are.0)))))
    where
      go : (b : Bool) → (if b then end_of_way_through_components o ev kinds (step r name) names else record r { whole = false }).whole ≡ true
          → ((end_of_way_through_components o ev kinds (step r name) names).whole ≡ true → (end_of_way_through_components o ev kinds (step r name) names).path ≡ slash_joined_components (components (path_joined_with_slash r.path name) ++ names))
          → (if b then end_of_way_through_components o ev kinds (step r name) names else record r { whole = false }).path ≡ slash_joined_components (components r.path ++ name ∷ names)
      go true w later =
          later w
          ∙ ap (λ (l : List (List ℕ)). slash_joined_components (l ++ names)) (grown-components r.path name is (component_from name are.0))
          ∙ ap slash_joined_components (append_assoc (components r.path) (name ∷ []) names)
      go false w later = absurd (cc w)

  pub way-path : (root : List ℕ) → root ≡ slash_joined_components (components root) → (end_of_way_from_worktree_root o ev kinds (components root)).whole ≡ true → (end_of_way_from_worktree_root o ev kinds (components root)).path ≡ root
  unfolding end_of_way_from_worktree_root
  way-path root is whole = onward-path (end_of_way_at_worktree_root o ev kinds) (components root) (AreNames-components root) refl whole ∙ sym is

  onward-some : (r : EndOfWayToRoot) (names : List (List ℕ)) → AreNames names → is_empty r.path ≡ false → is_empty (end_of_way_through_components o ev kinds r names).path ≡ false
  onward-some r [] are some = some
  onward-some r (name ∷ names) are some = go (is_empty r.path || enters o r.class r.in_repository) (onward-some (step r name) names are.1 (joined-full r.path name are.0))
    where
      go : (b : Bool) → is_empty (end_of_way_through_components o ev kinds (step r name) names).path ≡ false → is_empty (if b then end_of_way_through_components o ev kinds (step r name) names else record r { whole = false }).path ≡ false
      go true later = later
      go false later = some

  -- it comes to the worktree root for that alone
  pub way-empty : (root : List ℕ) → root ≡ slash_joined_components (components root) → is_empty (end_of_way_from_worktree_root o ev kinds (components root)).path ≡ is_empty root
  unfolding end_of_way_from_worktree_root
  way-empty [] is = refl
  way-empty (b ∷ root) is = go (components (b ∷ root)) refl (AreNames-components (b ∷ root))
    where
      go : (names : List (List ℕ)) → components (b ∷ root) ≡ names → AreNames names → is_empty (end_of_way_through_components o ev kinds (end_of_way_at_worktree_root o ev kinds) names).path ≡ false
      go [] e are = absurd (let f : b ∷ root ≡ [] = is ∙ ap slash_joined_components e in cc f)
      go (name ∷ names) e are = onward-some (step (end_of_way_at_worktree_root o ev kinds) name) names are.1 (joined-full [] name are.0)

-- ---- from where the way ended

pub and-split : (a b : Bool) → (a && b) ≡ true → (a ≡ true) × (b ≡ true)
and-split true b e = (refl, e)
and-split false b e = absurd (cc e)

pub bare : (path : List ℕ) → is_empty path ≡ true → path ≡ []
bare [] e = refl
bare (b ∷ path) e = absurd (cc e)

-- nothing is known of the worktree root in the index
pub unindexed : (given : WalkSetting) (made : Option StackSetup) (s : TreeAndObjects) → ((evidence_from_setting_and_sources given made s).in_index []).up_to_date ≡ None
unfolding evidence_from_setting_and_sources index_kinds_at_path
unindexed given made s = refl

followed-root : (given : WalkSetting) (made : Option StackSetup) (s : TreeAndObjects) → (evidence_from_setting_and_sources given made s).followed [] ≡ kind_of_node_at s.tree (root_joined_with_relative given.root []) true
unfolding evidence_from_setting_and_sources
followed-root given made s = refl

-- what a way's class is
module _ (o : WalkOptions) (ev : PathEvidence) (kinds : List ℕ → Option Kind) where
  onward-class : (r : EndOfWayToRoot) (names : List (List ℕ)) → r.class ≡ class o ev r.path (kinds r.path) None → let w = end_of_way_through_components o ev kinds r names in w.class ≡ class o ev w.path (kinds w.path) None
  onward-class r [] is = is
  onward-class r (name ∷ names) is = go (is_empty r.path || enters o r.class r.in_repository) (onward-class (step o ev kinds r name) names refl)
    where
      go : (b : Bool) → (let w = end_of_way_through_components o ev kinds (step o ev kinds r name) names in w.class ≡ class o ev w.path (kinds w.path) None)
          → let w = if b then end_of_way_through_components o ev kinds (step o ev kinds r name) names else record r { whole = false } in w.class ≡ class o ev w.path (kinds w.path) None
      go true later = later
      go false later = is

  pub way-class : (names : List (List ℕ)) → let w = end_of_way_from_worktree_root o ev kinds names in w.class ≡ class o ev w.path (kinds w.path) None
  unfolding end_of_way_from_worktree_root
  way-class names = onward-class (end_of_way_at_worktree_root o ev kinds) names refl

module _ (given : WalkSetting) (made : Option StackSetup) (s : TreeAndObjects) (root : List ℕ) (shape : IsNormalRootPath root) (into : enters_traversal_root given.options (evidence_from_setting_and_sources given made s) (end_of_way_to_root given made s root) ≡ true) where
  abbrev o : WalkOptions
  o = given.options

  abbrev ev : PathEvidence
  ev = evidence_from_setting_and_sources given made s

  abbrev kinds : List ℕ → Option Kind
  kinds = λ path. kind_on_disk_if_asked given s.tree path true

  abbrev way : EndOfWayToRoot
  way = end_of_way_to_root given made s root

  parts : (way.whole ≡ true) × (can_recurse way.class.status (disk_kind_of_traversal_root ev way) way.class.pathspec_match o.for_deletion way.in_repository ≡ true)
  parts = and-split way.whole (can_recurse way.class.status (disk_kind_of_traversal_root ev way) way.class.pathspec_match o.for_deletion way.in_repository) into

  path-is : way.path ≡ root
  path-is = way-path o ev kinds root shape.spelled_is parts.0

  class-is : way.class ≡ class o ev root (kind_of_node_at s.tree (root_joined_with_relative given.root root) false) None
  class-is = way-class o ev kinds (components root) ∙ ap (λ (p : List ℕ). class o ev p (kinds p) None) path-is

  -- what is walked is the directory at the traversal root
  pub walked-way : walk_result_from_traversal_root given made s root ≡ Some (walk_result_of_entered_path o ev root way.class (look_at_traversal_root given s.tree root))
  walked-way =
      ap (λ (b : Bool). if b then Some (walk_result_of_entered_path o ev way.path way.class (look_at_traversal_root given s.tree way.path)) else if is_worktree_root_non_directory way then None else Some (walk_result_with_single_entry (entry_with_outcome way.path way.class))) into
      ∙ ap (λ (p : List ℕ). Some (walk_result_of_entered_path o ev p way.class (look_at_traversal_root given s.tree p))) path-is

  abbrev open_by : Option Kind → Option Kind → Bool
  open_by followed k = is_walkable_kind (if is_empty root && is_symlink_kind k && is_plain_directory_kind followed then Some Directory else k) way.in_repository

  -- the kind by which it is entered
  open-is : open_by (kind_of_node_at s.tree (root_joined_with_relative given.root root) true) way.class.disk_kind ≡ true
  open-is =
      followed root way.class.disk_kind
      ∙ ap (λ (p : List ℕ). is_walkable_kind (if is_empty p && is_symlink_kind way.class.disk_kind && is_plain_directory_kind (ev.followed []) then Some Directory else way.class.disk_kind) way.in_repository) (sym path-is)
      ∙ (and-split (is_walkable_kind (disk_kind_of_traversal_root ev way) way.in_repository) (may_recurse_by_status way.class.status way.class.pathspec_match o.for_deletion) parts.1).0
    where
      followed : (p : List ℕ) (k : Option Kind)
          → is_walkable_kind (if is_empty p && is_symlink_kind k && is_plain_directory_kind (kind_of_node_at s.tree (root_joined_with_relative given.root p) true) then Some Directory else k) way.in_repository
          ≡ is_walkable_kind (if is_empty p && is_symlink_kind k && is_plain_directory_kind (ev.followed []) then Some Directory else k) way.in_repository
      followed [] k = ap (λ (x : Option Kind). is_walkable_kind (if is_symlink_kind k && is_plain_directory_kind x then Some Directory else k) way.in_repository) (sym (followed-root given made s))
      followed (b ∷ p) k = refl

  -- where its names cannot be listed, its class has it as a directory that it is not
  pub broken-way : (path : List ℕ) (why : ListError) → path ≡ root_joined_with_relative given.root root → list_of (look_at_traversal_root given s.tree root) ≡ Err why → IsEnteredRootUnlistable given made s root why path
  broken-way path why at unlisted =
      record {
        path_is = at;
        entered = into;
        node = unlisted;
        held =
            subst (IsClassedAsDirectoryWithoutDisk o ev root) (sym class-is)
            (held-root o ev s.tree root (root_joined_with_relative given.root root) why way.in_repository (ap (λ (c : Class). open_by (kind_of_node_at s.tree (root_joined_with_relative given.root root) true) c.disk_kind) (sym class-is) ∙ open-is) unlisted);
      }
