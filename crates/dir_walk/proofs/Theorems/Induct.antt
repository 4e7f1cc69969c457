-- Induction over the tree, once: a claim on what a walk gives, by the cases of which that is made.
use Rattle.std.proofs.Common.{◌≡◌, ℕ, List, [], ◌∷◌, Bool, true, false, cond, not, ◌||◌, Option, Some, None, refl, ◌∙◌}
use Rattle.std.specs.Str.{bytes_eq}
use Rattle.std.specs.List.{AllByRecursion, IsDistinct, list_any}
use Rattle.std.proofs.lemmas.Cmp.{nat_list_eq_equiv}
use Rattle.gitbase_core.specs.Path.{ends_in_slash, is_prefix_by_whole_components, path_joined_with_slash}
use Rattle.glob_rules.specs.declared.ignore.Kind.{Kind as IgnoredAs}
use Rattle.worktree_fs.specs.Naming.{IsValidEntryName, IsValidTree, AreValidTrees}
use Rattle.worktree_fs.specs.Tree.{Node, Names, file, link, directory, other, none, named, entry_names_in_order, found}
use Rattle.dir_classify.specs.declared.classify.Outcome.{Outcome as Class}
use Rattle.dir_classify.specs.declared.entry.Entry.{Entry}
use Rattle.dir_classify.specs.declared.entry.Kind.{Kind}
use Rattle.dir_classify.specs.Chosen.{WalkOptions}
use Rattle.dir_classify.specs.Class.{class, outcome_by_ignore_kind, outcome_of_dot_git, outcome_of_indexed_path, outcome_of_unindexed_path, outcome_without_possible_match, outcome_of_linked_worktree, ruling_of_dot_git, enters, is_path_named_dot_git, index_and_disk_agree_on_directory, is_in_worktree_set, outcome_of_unentered_path, ruling_unless_worktree_root, kind_by_index_caller_or_disk}
use Rattle.dir_classify.specs.Entries.{entry_with_outcome}
use Rattle.dir_classify.specs.Evidence.{PathEvidence}
use Rattle.dir_classify.specs.Kinds.{is_dir, is_some_directory_kind}
use Rattle.dir_classify.specs.declared.excludes.Ruling.{Ruling}
use Rattle.dir_walk.specs.Emissions.{is_empty_directory_property}
use Rattle.dir_walk.specs.Walked.{WalkResult, add_asked_path_if, merge_walk_results, walk_result_of_broken_path, child_asks_ignore_rules, outcome_of_child, walk_result_of_closed_directory, walk_result_of_directory_by_names, walk_result_of_empty_directory, walk_result_if_entered_else_leaf, item, walk_result_of_all_children, walk_result_of_leaf_entry, walk_result_of_unentered_path, empty_walk_result, report_of}
use Rattle.dir_walk.proofs.Places.Beneath.{prefix-apart, prefix-down, prefix-self, prefix-up}
use Rattle.dir_walk.proofs.Places.JoinedPaths.{joined-ends}
use Rattle.dir_walk.proofs.Order.Lists.{or_left, or_right}
use Rattle.dir_walk.proofs.Places.Located.{Apart, Inside, LieIn, LieIn-asking, LieIn-both, LieIn-broken, LieIn-closed, LieIn-empty, LieIn-leaf, LieIn-nothing, LieIn-weaker, at_or_beneath}

-- A claim on what paths give that pass a test holds of all that a walk gives where it holds in each of these cases.
pub record Cases (o : WalkOptions) (ev : PathEvidence) (P : (List ℕ → Bool) → WalkResult → Type 0) : Type 0 where
  pub at_nothing : (lies : List ℕ → Bool) → P lies empty_walk_result
  pub at_broken : (lies : List ℕ → Bool) (path : List ℕ) → lies path ≡ true → P lies (walk_result_of_broken_path path)
  pub at_asking : (lies : List ℕ → Bool) (b : Bool) (path : List ℕ) (w : WalkResult) → lies path ≡ true → P lies w → P lies (add_asked_path_if b path w)
  pub at_leaf : (lies : List ℕ → Bool) (e : Entry) → lies e.rela_path ≡ true → P lies (walk_result_of_leaf_entry o e)
  pub at_empty : (lies : List ℕ → Bool) (d : List ℕ) (c : Class) → lies d ≡ true → P lies (walk_result_of_empty_directory o ev d c)
  pub at_both : (here there lies : List ℕ → Bool) (a b : WalkResult) → Apart here there lies → LieIn here a → LieIn there b → P here a → P there b → P lies (merge_walk_results a b)
  pub at_closed : (below : List ℕ → Bool) (d : List ℕ) (c : Class) (w : WalkResult) → Inside d below → is_empty_directory_property c.property ≡ false → LieIn below w → P below w
      → P (at_or_beneath d) (walk_result_of_closed_directory o ev d c w)

-- ---- no class is that of a directory without names by itself

-- the index says of no path that it is a directory without names
abbrev pub NoneEmpty : PathEvidence → Type 0
NoneEmpty ev = (p : List ℕ) → is_empty_directory_property (ev.in_index p).sparse ≡ false

either-clear : (b : Bool) (x y : Class) → is_empty_directory_property x.property ≡ false → is_empty_directory_property y.property ≡ false → is_empty_directory_property (cond b x y).property ≡ false
either-clear true x y h k = h
either-clear false x y h k = k

by_rules-clear : (o : WalkOptions) (ev : PathEvidence) (path : List ℕ) (k : Option Kind) (kind : Option IgnoredAs) → is_empty_directory_property (outcome_by_ignore_kind o ev path k kind).property ≡ false
by_rules-clear o ev path k None = either-clear (is_some_directory_kind k) _ _ refl refl
by_rules-clear o ev path k (Some kind) = refl

pub class-clear : (o : WalkOptions) (ev : PathEvidence) → NoneEmpty ev → (path : List ℕ) (known on_disk : Option Kind) → is_empty_directory_property (class o ev path known on_disk).property ≡ false
unfolding class
class-clear o ev clear path known on_disk =
    let k : Option Kind = kind_by_index_caller_or_disk ev path known on_disk in
    let ruling : Ruling = ruling_unless_worktree_root o ev path k in
    either-clear (is_path_named_dot_git o.ignore_case path) (outcome_of_dot_git o ev path known (ruling_of_dot_git o ev path known)) _ refl
    (either-clear (not (ev.can_match path (is_dir known))) (outcome_without_possible_match known) _ refl
    (either-clear (is_in_worktree_set o path) (outcome_of_linked_worktree ev path k) _ refl
    (either-clear (index_and_disk_agree_on_directory (ev.in_index path) k) (outcome_of_indexed_path o ev path k) (outcome_of_unindexed_path o ev path k ruling) (clear path) (by_rules-clear o ev path k ruling.kind))))

-- ---- the names of a directory

-- a path lies under one of the names
abbrev pub under : List ℕ → List (List ℕ) → List ℕ → Bool
under d names p = list_any (λ q. is_prefix_by_whole_components (path_joined_with_slash d q) p) names

either : {P : Type 0} (a b : Bool) → (a || b) ≡ true → (a ≡ true → P) → (b ≡ true → P) → P
either true b e f g = f refl
either false b e f g = g e

under-up : (d : List ℕ) (names : List (List ℕ)) (p : List ℕ) → AllByRecursion IsValidEntryName names → ends_in_slash d ≡ false → under d names p ≡ true → is_prefix_by_whole_components d p ≡ true
under-up d [] p all plain e = absurd (cc e)
under-up d (q ∷ names) p all plain e =
    either (is_prefix_by_whole_components (path_joined_with_slash d q) p) (under d names p) e (prefix-up d q p all.0 plain) (under-up d names p all.1 plain)

under-down : (d : List ℕ) (names : List (List ℕ)) (p : List ℕ) → AllByRecursion IsValidEntryName names → under d names p ≡ true → is_prefix_by_whole_components p d ≡ false
under-down d [] p all e = absurd (cc e)
under-down d (q ∷ names) p all e = either (is_prefix_by_whole_components (path_joined_with_slash d q) p) (under d names p) e (prefix-down d q p all.0) (under-down d names p all.1)

-- under other names it lies apart, either way round
apart-under : (d q : List ℕ) (names : List (List ℕ)) (x y : List ℕ) → IsValidEntryName q → AllByRecursion IsValidEntryName names → ends_in_slash d ≡ false → AllByRecursion (λ r. bytes_eq q r ≡ false) names
    → is_prefix_by_whole_components (path_joined_with_slash d q) x ≡ true → under d names y ≡ true → (is_prefix_by_whole_components x y ≡ false) × (is_prefix_by_whole_components y x ≡ false)
apart-under d q [] x y is all plain differ e f = absurd (cc f)
apart-under d q (r ∷ names) x y is all plain differ e f =
    either (is_prefix_by_whole_components (path_joined_with_slash d r) y) (under d names y) f
    (λ k. (prefix-apart d q r x y is all.0 plain differ.0 e k, prefix-apart d r q y x all.0 is plain (nat_list_eq_equiv.symm r q ∙ differ.0) k e))
    (apart-under d q names x y is all.1 plain differ.1 e)

apart-names : (d q : List ℕ) (names : List (List ℕ)) → IsValidEntryName q → AllByRecursion IsValidEntryName names → ends_in_slash d ≡ false → AllByRecursion (λ r. bytes_eq q r ≡ false) names
    → Apart (at_or_beneath (path_joined_with_slash d q)) (under d names) (under d (q ∷ names))
apart-names d q names is all plain differ =
    record {
      in_here = λ p h. or_left (is_prefix_by_whole_components (path_joined_with_slash d q) p) (under d names p) h;
      in_there = λ p h. or_right (is_prefix_by_whole_components (path_joined_with_slash d q) p) (under d names p) h;
      one = λ x y h k. (apart-under d q names x y is all plain differ h k).0;
      other = λ x y h k. (apart-under d q names y x is all plain differ k h).1;
    }

inside-names : (d : List ℕ) (names : List (List ℕ)) → AllByRecursion IsValidEntryName names → ends_in_slash d ≡ false → Inside d (under d names)
inside-names d names all plain = record { up = λ p. under-up d names p all plain; down = λ p. under-down d names p all }

-- ---- the induction

module _ (o : WalkOptions) (ev : PathEvidence) (P : (List ℕ → Bool) → WalkResult → Type 0) (cases : Cases o ev P) (clear : NoneEmpty ev) where
  -- the claim, and where the paths lie
  abbrev Claim : (List ℕ → Bool) → WalkResult → Type 0
  Claim lies w = LieIn lies w × P lies w

  branch : (lies : List ℕ → Bool) (b : Bool) (v w : WalkResult) → Claim lies v → Claim lies w → Claim lies (cond b v w)
  branch lies true v w h k = h
  branch lies false v w h k = k

  asked : (path : List ℕ) (b : Bool) (w : WalkResult) → Claim (at_or_beneath path) w → Claim (at_or_beneath path) (add_asked_path_if b path w)
  asked path b w h =
      let is : at_or_beneath path path ≡ true = prefix-self path in
      (LieIn-asking (at_or_beneath path) b path w is h.0, cases.at_asking (at_or_beneath path) b path w is h.1)

  at_leaf : (path : List ℕ) (c : Class) → Claim (at_or_beneath path) (walk_result_of_unentered_path o ev path c)
  at_leaf path c =
      let e : Entry = entry_with_outcome path (outcome_of_unentered_path o ev path c) in
      (LieIn-leaf o (at_or_beneath path) e (prefix-self path), cases.at_leaf (at_or_beneath path) e (prefix-self path))

  at_broken : (path : List ℕ) → Claim (at_or_beneath path) (walk_result_of_broken_path path)
  at_broken path = (LieIn-broken (at_or_beneath path) path (prefix-self path), cases.at_broken (at_or_beneath path) path (prefix-self path))

  at_other : (path : List ℕ) (b : Bool) (c : Class) → Claim (at_or_beneath path) (add_asked_path_if b path (walk_result_if_entered_else_leaf o ev path c (walk_result_of_broken_path path)))
  at_other path b c = asked path b (walk_result_if_entered_else_leaf o ev path c (walk_result_of_broken_path path)) (branch (at_or_beneath path) (enters o c false) (walk_result_of_broken_path path) (walk_result_of_unentered_path o ev path c) (at_broken path) (at_leaf path c))

  at_directory : (d : List ℕ) (c : Class) (names : Names) (w : WalkResult) → is_empty_directory_property c.property ≡ false → AllByRecursion IsValidEntryName (entry_names_in_order names) → ends_in_slash d ≡ false
      → Claim (under d (entry_names_in_order names)) w → Claim (at_or_beneath d) (walk_result_of_directory_by_names o ev d c names w)
  at_directory d c none w own each plain h =
      (LieIn-empty o ev (at_or_beneath d) d c (prefix-self d), cases.at_empty (at_or_beneath d) d c (prefix-self d))
  at_directory d c (named name node rest) w own each plain h =
      let below : List ℕ → Bool = under d (entry_names_in_order (named name node rest)) in
      let inside : Inside d below = inside-names d (entry_names_in_order (named name node rest)) each plain in
      (LieIn-closed o ev d c w (LieIn-weaker below (at_or_beneath d) w inside.up h.0), cases.at_closed below d c w inside own h.0 h.1)

  mutual
    unfolding item IsDistinct

    pub at_item : (path : List ℕ) (node : Node) → ends_in_slash path ≡ false → IsValidTree node → LieIn (at_or_beneath path) (item o ev path node) × P (at_or_beneath path) (item o ev path node)
    at_item path (file bytes) plain tree = at_other path (child_asks_ignore_rules o ev path (found (file bytes))) (outcome_of_child o ev path (found (file bytes)))
    at_item path (link target) plain tree = at_other path (child_asks_ignore_rules o ev path (found (link target))) (outcome_of_child o ev path (found (link target)))
    at_item path other plain tree = at_other path (child_asks_ignore_rules o ev path (found other)) (outcome_of_child o ev path (found other))
    at_item path (directory names) plain tree =
        let c : Class = outcome_of_child o ev path (found (directory names)) in
        let w : WalkResult = walk_result_of_directory_by_names o ev path c names (walk_result_of_all_children o ev path names) in
        asked path (child_asks_ignore_rules o ev path (found (directory names))) (walk_result_if_entered_else_leaf o ev path c w)
        (branch (at_or_beneath path) (enters o c false) w (walk_result_of_unentered_path o ev path c)
        (at_directory path c names (walk_result_of_all_children o ev path names) (class-clear o ev clear path None _) tree.0.each plain (at_items path names plain tree.0.each tree.0.distinct tree.1))
        (at_leaf path c))

    pub at_items : (d : List ℕ) (names : Names) → ends_in_slash d ≡ false → AllByRecursion IsValidEntryName (entry_names_in_order names) → IsDistinct bytes_eq (entry_names_in_order names) → AreValidTrees names
        → LieIn (under d (entry_names_in_order names)) (walk_result_of_all_children o ev d names) × P (under d (entry_names_in_order names)) (walk_result_of_all_children o ev d names)
    at_items d none plain each distinct trees = (LieIn-nothing (under d []), cases.at_nothing (under d []))
    at_items d (named name node rest) plain each distinct trees =
        let here : List ℕ → Bool = at_or_beneath (path_joined_with_slash d name) in
        let there : List ℕ → Bool = under d (entry_names_in_order rest) in
        let lies : List ℕ → Bool = under d (name ∷ entry_names_in_order rest) in
        let apart : Apart here there lies = apart-names d name (entry_names_in_order rest) each.0 each.1 plain distinct.0 in
        let first = at_item (path_joined_with_slash d name) node (joined-ends d name each.0) trees.0 in
        let others = at_items d rest plain each.1 distinct.1 trees.1 in (
          LieIn-both lies (item o ev (path_joined_with_slash d name) node) (walk_result_of_all_children o ev d rest)
              (LieIn-weaker here lies (item o ev (path_joined_with_slash d name) node) apart.in_here first.0) (LieIn-weaker there lies (walk_result_of_all_children o ev d rest) apart.in_there others.0),
          cases.at_both here there lies (item o ev (path_joined_with_slash d name) node) (walk_result_of_all_children o ev d rest) apart first.0 others.0 first.1 others.1,
        )

  -- the claim for what a directory gives that is entered
  pub at_report : (d : List ℕ) (c : Class) (names : Names) → ends_in_slash d ≡ false → is_empty_directory_property c.property ≡ false → IsValidTree (directory names)
      → LieIn (at_or_beneath d) (report_of o ev d c names) × P (at_or_beneath d) (report_of o ev d c names)
  at_report d c names plain own tree =
      at_directory d c names (walk_result_of_all_children o ev d names) own tree.0.each plain (at_items d names plain tree.0.each tree.0.distinct tree.1)
