-- The way through the components of a traversal root.
use Rattle.std.proofs.Common.{◌≡◌, ◌∙◌, ◌<◌, ◌+◌, ap, sym, ℕ, List, [], ◌∷◌, ◌++◌, Bool, true, false, Option, Some, None, refl, length, append_assoc, arith}
use Rattle.std.specs.Prelude.{is_some}
use Rattle.gitbase_core.specs.Path.{components, path_joined_with_slash}
use Rattle.worktree_fs.specs.Kept.{KeepsTreeAndListCounts}
use Rattle.worktree_fs.specs.Paths.{IsSinglePathComponent, root_joined_with_relative, slash_joined_components}
use Rattle.worktree_fs.specs.Tree.{Names}
use Rattle.worktree_fs.specs.declared.worktree.Worktree.{Ghosts as WorktreeOf}
use Rattle.worktree_fs.proofs.Paths.Spelled.{grown-is, grown-components}
use Rattle.dir_classify.specs.declared.entry.Kind.{Kind}
use Rattle.dir_classify.specs.declared.entry.Kind.TheVariants.{Untrackable, File, Symlink, Directory, Repository}
use Rattle.dir_classify.specs.declared.error.Error.{Error}
use Rattle.dir_classify.specs.declared.error.Error.TheVariants as errors
use Rattle.dir_classify.specs.declared.error.MetadataWhy.TheVariants as metadata
use Rattle.dir_classify.specs.Kinds.{is_symlink_kind}
use Rattle.dir_classify.specs.Layers.{WalkSetting, kind_of_node_at}
use Rattle.dir_classify.specs.Refused.{HoldsIfFaultError}
use Rattle.dir_classify.specs.Rooted.{IsPathOnWayToRoot}
use Rattle.dir_classify.proofs.WayAsked.{grown-some}
use Rattle.dir_walk.specs.Root.{TraversalRootResult, missing, through_link, rooted, continue_past_component, traversal_root_of_normal_path, traversal_root_through_components}
use Rattle.dir_walk.specs.Rooting.{IsErrorOfRootResult, IsFullPathOfFront, IsAbsentErrorAtPath, IsLinkTestOfExistingNode, IsMetadataErrorAtPath, IsErrorOfRootComponents}

past-plain : (full : List ℕ) (at : ℕ) (kind : Option Kind) (further : TraversalRootResult) → is_some kind ≡ true → is_symlink_kind kind ≡ false → continue_past_component full at kind further ≡ further
past-plain full at None further some plain = absurd (cc some)
past-plain full at (Some Symlink) further some plain = absurd (cc plain)
past-plain full at (Some Untrackable) further some plain = refl
past-plain full at (Some File) further some plain = refl
past-plain full at (Some Directory) further some plain = refl
past-plain full at (Some Repository) further some plain = refl

past-link : (full : List ℕ) (at : ℕ) (kind : Option Kind) (further : TraversalRootResult) → is_symlink_kind kind ≡ true → continue_past_component full at kind further ≡ through_link at
past-link full at None further link = absurd (cc link)
past-link full at (Some Symlink) further link = refl
past-link full at (Some Untrackable) further link = absurd (cc link)
past-link full at (Some File) further link = absurd (cc link)
past-link full at (Some Directory) further link = absurd (cc link)
past-link full at (Some Repository) further link = absurd (cc link)

-- a fault of the way is one of what it stands in
pub through-fault : (root path : List ℕ) (e : Error) (Failed Failed' Store : Type 0) → IsErrorOfRootComponents root path e → (Failed → Failed') → HoldsIfFaultError Failed Store e → HoldsIfFaultError Failed' Store e
through-fault root path errors.Interrupted F F' S about more h = absurd about
through-fault root path (errors.WorktreeRootIsFile p) F F' S about more h = absurd about
through-fault root path (errors.NormalizeRoot p) F F' S about more h = absurd about
through-fault root path (errors.SymlinkInRoot whole worktree_root i) F F' S about more h = tt
through-fault root path (errors.ExcludesAccess e) F F' S about more h = absurd about
through-fault root path (errors.ReadDir p why) F F' S about more h = absurd about
through-fault root path (errors.DirEntry p) F F' S about more h = absurd about
through-fault root path (errors.SymlinkMetadata p metadata.Absent) F F' S about more h = tt
through-fault root path (errors.SymlinkMetadata p metadata.Fault) F F' S about more h = more h
through-fault root path (errors.TooDeep p) F F' S about more h = absurd about
through-fault root path errors.OutOfMemory F F' S about more h = tt

-- The way stands behind some components of a path, and from there comes to what it comes to from the worktree root.
pub record IsRootward {W : Type 0} (w : WorktreeOf W) (w0 w1 : W) (given : WalkSetting) (path way : List ℕ) (index : ℕ) (rest : List ℕ) : Type 0 where
  pub keeps : KeepsTreeAndListCounts w w0 w1
  pub unread : w.reads w1 ≡ w.reads w0
  pub count : index + length (components rest) ≡ length (components path)
  pub spelled_is : way ≡ slash_joined_components (components way)
  pub split : components path ≡ components way ++ components rest
  pub leads : (t : Names) → w.told w0 ≡ Some t → traversal_root_through_components given t (rooted path) way index (components rest) ≡ traversal_root_of_normal_path given t path

module _ {W : Type 0} (w : WorktreeOf W) (w0 w1 w2 : W) (given : WalkSetting) (path way name rest left : List ℕ) (index : ℕ)
    (at : IsRootward w w0 w1 given path way index rest)
    (rest_is : components rest ≡ name ∷ components left) (component : IsSinglePathComponent name) where
  abbrev grown : List ℕ
  grown = path_joined_with_slash way name

  abbrev full : List ℕ
  full = root_joined_with_relative given.root grown

  -- what the way comes to, by the kind of the next component
  step : (t : Names) → w.told w0 ≡ Some t
      → continue_past_component full index (kind_of_node_at t full false) (traversal_root_through_components given t (rooted path) grown (index + 1) (components left)) ≡ traversal_root_of_normal_path given t path
  step t told = ap (λ (l : List (List ℕ)). traversal_root_through_components given t (rooted path) way index l) (sym rest_is) ∙ at.leads t told

  grown-split : components path ≡ components grown ++ components left
  grown-split =
      at.split
      ∙ ap (λ (l : List (List ℕ)). components way ++ l) rest_is
      ∙ sym (append_assoc (components way) (name ∷ []) (components left))
      ∙ ap (λ (l : List (List ℕ)). l ++ components left) (sym (grown-components way name at.spelled_is component))

  leads-grown : IsPathOnWayToRoot path grown
  leads-grown =
      record {
        spelled_is = grown-is way name at.spelled_is component ∙ ap slash_joined_components (sym (grown-components way name at.spelled_is component));
        rest = components left;
        components_are = grown-split;
      }

  front-at : (at_full : List ℕ) → at_full ≡ full → IsFullPathOfFront given.root path at_full
  front-at at_full is = record { front = grown; leads = leads-grown; beneath = grown-some grown (components way) name (grown-components way name at.spelled_is component); full_is = is }

  pub front : IsFullPathOfFront given.root path full
  front = front-at full refl

  pub index-low : index < length (components path)
  index-low = let count = at.count in let one = ap (λ (l : List (List ℕ)). length l) rest_is in omega (arith, count, one)

  pub rootward-grown : KeepsTreeAndListCounts w w1 w2 → w.reads w2 ≡ w.reads w1 → (link : Bool) → link ≡ false → ((t : Names) → w.told w1 ≡ Some t → IsLinkTestOfExistingNode (kind_of_node_at t full false) link)
      → IsRootward w w0 w2 given path grown (index + 1) left
  rootward-grown keeps unread link plain past =
      record {
        keeps = record {
          tree = keeps.tree ∙ at.keeps.tree;
          faults = let a = at.keeps.faults in let b = keeps.faults in omega (arith, a, b);
          list_faults = keeps.list_faults ∙ at.keeps.list_faults;
          reads = let a = at.keeps.reads in let b = keeps.reads in omega (arith, a, b);
          lists = keeps.lists ∙ at.keeps.lists;
          precomposes = keeps.precomposes ∙ at.keeps.precomposes;
        };
        unread = unread ∙ at.unread;
        count = let count = at.count in let one = ap (λ (l : List (List ℕ)). length l) rest_is in omega (arith, count, one);
        spelled_is = leads-grown.spelled_is;
        split = grown-split;
        leads = λ t told.
            let is = past t (at.keeps.tree ∙ told) in
            sym (past-plain full index (kind_of_node_at t full false) (traversal_root_through_components given t (rooted path) grown (index + 1) (components left)) is.0 (sym is.1 ∙ plain)) ∙ step t told;
      }

  -- a link on the way
  pub rootward-link : (link : Bool) → link ≡ true → ((t : Names) → w.told w1 ≡ Some t → IsLinkTestOfExistingNode (kind_of_node_at t full false) link)
      → (t : Names) → w.told w0 ≡ Some t → traversal_root_of_normal_path given t path ≡ through_link index
  rootward-link link is past t told =
      sym (step t told) ∙ past-link full index (kind_of_node_at t full false) (traversal_root_through_components given t (rooted path) grown (index + 1) (components left)) (sym (past t (at.keeps.tree ∙ told)).1 ∙ is)

  -- nothing there, or a fault
  pub rootward-about : (e : Error) → IsMetadataErrorAtPath full e → IsErrorOfRootComponents given.root path e
  rootward-about errors.Interrupted h = absurd h
  rootward-about (errors.WorktreeRootIsFile p) h = absurd h
  rootward-about (errors.NormalizeRoot p) h = absurd h
  rootward-about (errors.SymlinkInRoot whole worktree_root i) h = absurd h
  rootward-about (errors.ExcludesAccess e) h = absurd h
  rootward-about (errors.ReadDir p why) h = absurd h
  rootward-about (errors.DirEntry p) h = absurd h
  rootward-about (errors.SymlinkMetadata p why) h = front-at p h
  rootward-about (errors.TooDeep p) h = absurd h
  rootward-about errors.OutOfMemory h = tt

  pub rootward-refused : (t : Names) → w.told w0 ≡ Some t → (e : Error) → IsAbsentErrorAtPath (kind_of_node_at t full false) full e → IsErrorOfRootResult (traversal_root_of_normal_path given t path) e
  rootward-refused t told errors.Interrupted h = absurd h
  rootward-refused t told (errors.WorktreeRootIsFile p) h = absurd h
  rootward-refused t told (errors.NormalizeRoot p) h = absurd h
  rootward-refused t told (errors.SymlinkInRoot whole worktree_root i) h = absurd h
  rootward-refused t told (errors.ExcludesAccess e) h = absurd h
  rootward-refused t told (errors.ReadDir p why) h = absurd h
  rootward-refused t told (errors.DirEntry p) h = absurd h
  rootward-refused t told (errors.SymlinkMetadata p metadata.Absent) h =
      sym (step t told)
      ∙ ap (λ (k : Option Kind). continue_past_component full index k (traversal_root_through_components given t (rooted path) grown (index + 1) (components left))) h.1
      ∙ ap missing (sym h.0)
  rootward-refused t told (errors.SymlinkMetadata p metadata.Fault) h = tt
  rootward-refused t told (errors.TooDeep p) h = absurd h
  rootward-refused t told errors.OutOfMemory h = tt
