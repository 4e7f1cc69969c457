-- Why the class of a traversal root has it as a directory that it is not, and why a worktree root is none.
use Rattle.std.proofs.Common.{◌≡◌, ◌≢◌, ◌⊎◌, inl, inr, ℕ, List, [], Bool, true, false, not, ◌&&◌, Option, Some, None, Err, refl, sym, ap, ◌∙◌}
use Rattle.std.specs.Prelude.{option_map, if◌then◌else◌}
use Rattle.glob_rules.specs.declared.ignore.Kind.{Kind as IgnoredAs}
use Rattle.gitbase_core.specs.Path.{is_empty}
use Rattle.worktree_fs.specs.Tree.{Names, LookupResult, look, found, absent, too_many_links, file, link, directory, other}
use Rattle.worktree_fs.specs.Answers.{kind_of_lookup, list_of}
use Rattle.worktree_fs.specs.declared.answers.ListError.{ListError}
use Rattle.worktree_fs.specs.declared.answers.NodeKind.{NodeKind}
use Rattle.worktree_fs.specs.declared.answers.NodeKind.TheVariants as nodes
use Rattle.worktree_fs.proofs.Routes.Follow.{look-follow}
use Rattle.dir_classify.specs.declared.entry.Kind.{Kind}
use Rattle.dir_classify.specs.declared.entry.Kind.TheVariants.{Directory, Repository, Untrackable, File, Symlink}
use Rattle.dir_classify.specs.declared.classify.Outcome.{Outcome}
use Rattle.dir_classify.specs.declared.excludes.Ruling.{Ruling}
use Rattle.dir_classify.specs.Chosen.{WalkOptions, finds_bare_repositories_in_ignored}
use Rattle.dir_classify.specs.Class.{class, outcome_of_path_of_known_kind, outcome_of_dot_git, outcome_without_possible_match, outcome_of_linked_worktree, outcome_of_indexed_path, outcome_of_unindexed_path, outcome_by_ignore_kind, outcome_of_untracked_directory, outcome_of_untracked_non_directory, deletion_finds_repositories_in_ignored, upgrade, is_in_worktree_set, index_and_disk_agree_on_directory, is_path_named_dot_git, kind_by_index_caller_or_disk, ruling_unless_worktree_root, ruling_of_dot_git}
use Rattle.dir_classify.specs.Enters.{is_walkable_kind, is_ignored_status}
use Rattle.dir_classify.specs.Evidence.{PathEvidence}
use Rattle.std.specs.Option.{option_or}
use Rattle.dir_classify.specs.Kinds.{from_node_kind, is_plain_directory_kind, is_symlink_kind, is_repository_kind, is_dir, is_some_directory_kind}
use Rattle.dir_classify.specs.Layers.{kind_of_node_at}
use Rattle.dir_classify.proofs.Onward.{no-dot_git}
use Rattle.dir_walk.specs.WalkRefused.{IsClassedAsDirectoryWithoutDisk}

directory-holds : (kind : Option Kind) → is_plain_directory_kind kind ≡ true → is_some_directory_kind kind ≡ true
directory-holds (Some Directory) e = refl
directory-holds (Some Repository) e = refl
directory-holds (Some Untrackable) e = absurd (cc e)
directory-holds (Some File) e = absurd (cc e)
directory-holds (Some Symlink) e = absurd (cc e)
directory-holds None e = absurd (cc e)

-- ---- what holds names by its class

module _ (o : WalkOptions) (ev : PathEvidence) (path : List ℕ) (known : Option Kind) where
  abbrev kind : Option Kind
  kind = kind_by_index_caller_or_disk ev path known None

  abbrev Held : Outcome → Type 0
  Held c = IsClassedAsDirectoryWithoutDisk o ev path c ⊎ (is_some_directory_kind known ≡ true)

  first-known : (k : Option Kind) → option_or k None ≡ k
  first-known None = refl
  first-known (Some k) = refl

  held-kind : (c : Outcome) → is_some_directory_kind kind ≡ true → Held c
  held-kind c e = go (ev.in_index path).up_to_date refl e
    where
      go : (u : Option Kind) → (ev.in_index path).up_to_date ≡ u → is_some_directory_kind (option_or u (option_or known None)) ≡ true → Held c
      go None is f = inr (ap is_some_directory_kind (sym (first-known known)) ∙ f)
      go (Some Directory) is f = inl (inl is)
      go (Some Repository) is f = inl (inr (inl is))
      go (Some Untrackable) is f = absurd (cc f)
      go (Some File) is f = absurd (cc f)
      go (Some Symlink) is f = absurd (cc f)

  held-indexed : (c : Outcome) (a b : Bool) → is_plain_directory_kind kind ≡ a → is_some_directory_kind (if a && b then upgrade o ev kind path false else kind) ≡ true → Held c
  held-indexed c true b is e = held-kind c (directory-holds kind is)
  held-indexed c false b is e = held-kind c e

  held-free : (c : Outcome) (b : Bool) → is_some_directory_kind kind ≡ b → is_some_directory_kind (if b then outcome_of_untracked_directory o ev path kind else outcome_of_untracked_non_directory ev path kind).disk_kind ≡ true → Held c
  held-free c true is e = held-kind c is
  held-free c false is e = held-kind c e

  -- an ignored path has the kind that is known, or deletion saw a repository there
  sought : (finds sees : Bool) → let k = if finds then (if sees then Some Repository else kind) else kind in is_some_directory_kind k ≡ true → (is_some_directory_kind kind ≡ true) ⊎ (is_repository_kind k ≡ true)
  sought false sees e = inl e
  sought true true e = inr refl
  sought true false e = inl e

  held-ignored : (c : Outcome) → is_ignored_status c.status ≡ true → (is_some_directory_kind kind ≡ true) ⊎ (is_repository_kind c.disk_kind ≡ true) → Held c
  held-ignored c ignored (inl holds) = held-kind c holds
  held-ignored c ignored (inr repository) = inl (inr (inr (inr (ignored, repository))))

  held-rules : (ruling : Ruling) (excluded : Option IgnoredAs) → is_some_directory_kind (outcome_by_ignore_kind o ev path kind excluded).disk_kind ≡ true → Held (record (outcome_by_ignore_kind o ev path kind excluded) { origin = ruling.origin })
  held-rules ruling (Some excluded) e = held-ignored (record (outcome_by_ignore_kind o ev path kind (Some excluded)) { origin = ruling.origin }) refl (sought (deletion_finds_repositories_in_ignored o) _ e)
  held-rules ruling None e = held-free (record (outcome_by_ignore_kind o ev path kind None) { origin = ruling.origin }) (is_some_directory_kind kind) refl e

  held-cases : (worktree indexed : Bool) (ruling : Ruling) → is_in_worktree_set o path ≡ worktree
      → let c = if worktree then outcome_of_linked_worktree ev path kind else if indexed then outcome_of_indexed_path o ev path kind else outcome_of_unindexed_path o ev path kind ruling in is_some_directory_kind c.disk_kind ≡ true → Held c
  held-cases true indexed ruling is e = inl (inr (inr (inl is)))
  held-cases false true ruling is e = held-indexed (outcome_of_indexed_path o ev path kind) (is_plain_directory_kind kind) (is_repository_kind (ev.in_index path).kind) refl e
  held-cases false false ruling is e = held-rules ruling ruling.kind e

  -- what its class has as holding names is held so, or known as such
  pub held-class : is_some_directory_kind (class o ev path known None).disk_kind ≡ true → Held (class o ev path known None)
  unfolding class
  held-class e = go (is_path_named_dot_git o.ignore_case path) (ev.can_match path (is_dir known)) e
    where
      go : (dot can : Bool) → let c = if dot then outcome_of_dot_git o ev path known (ruling_of_dot_git o ev path known) else if not can then outcome_without_possible_match known else outcome_of_path_of_known_kind o ev path kind in is_some_directory_kind c.disk_kind ≡ true → Held c
      go true can f = inr f
      go false false f = inr f
      go false true f = held-cases (is_in_worktree_set o path) (index_and_disk_agree_on_directory (ev.in_index path) kind) (ruling_unless_worktree_root o ev path kind) refl f

-- ---- what is known as a directory holds names by its class at the worktree root

upgraded-holds : (b : Bool) → is_some_directory_kind (if b then Some Repository else Some Directory) ≡ true
upgraded-holds true = refl
upgraded-holds false = refl

module _ (o : WalkOptions) (ev : PathEvidence) (none : (ev.in_index []).up_to_date ≡ None) where
  holds-indexed : (b : Bool) → is_some_directory_kind (if b then upgrade o ev (Some Directory) [] false else Some Directory) ≡ true
  holds-indexed true = upgraded-holds _
  holds-indexed false = refl

  holds-rules : (ruling : Ruling) (excluded : Option IgnoredAs) → is_some_directory_kind (outcome_by_ignore_kind o ev [] (Some Directory) excluded).disk_kind ≡ true
  holds-rules ruling None = upgraded-holds _
  holds-rules ruling (Some excluded) = go (deletion_finds_repositories_in_ignored o)
    where
      go : (b : Bool) → is_some_directory_kind (if b then upgrade o ev (Some Directory) [] (finds_bare_repositories_in_ignored o.for_deletion) else Some Directory) ≡ true
      go true = upgraded-holds _
      go false = refl

  holds-cases : (can worktree indexed : Bool) (ruling : Ruling)
      → is_some_directory_kind (if not can then outcome_without_possible_match (Some Directory) else if worktree then outcome_of_linked_worktree ev [] (Some Directory) else if indexed then outcome_of_indexed_path o ev [] (Some Directory) else outcome_of_unindexed_path o ev [] (Some Directory) ruling).disk_kind ≡ true
  holds-cases false worktree indexed ruling = refl
  holds-cases true true indexed ruling = refl
  holds-cases true false true ruling = holds-indexed (is_repository_kind (ev.in_index []).kind)
  holds-cases true false false ruling = holds-rules ruling ruling.kind

  holds-root : is_some_directory_kind (class o ev [] (Some Directory) None).disk_kind ≡ true
  unfolding class
  holds-root =
      ap (λ (dot : Bool). is_some_directory_kind (if dot then outcome_of_dot_git o ev [] (Some Directory) (ruling_of_dot_git o ev [] (Some Directory)) else if not (ev.can_match [] (Some true)) then outcome_without_possible_match (Some Directory) else outcome_of_path_of_known_kind o ev [] (kind_by_index_caller_or_disk ev [] (Some Directory) None)).disk_kind) (no-dot_git o.ignore_case)
      ∙ ap (λ (u : Option Kind). is_some_directory_kind (if not (ev.can_match [] (Some true)) then outcome_without_possible_match (Some Directory) else outcome_of_path_of_known_kind o ev [] (option_or u (Some Directory))).disk_kind) none
      ∙ holds-cases (ev.can_match [] (Some true)) (is_in_worktree_set o []) (index_and_disk_agree_on_directory (ev.in_index []) (Some Directory)) (ruling_unless_worktree_root o ev [] (Some Directory))

  -- a worktree root that its class does not have as holding names is no directory
  pub no-directory : (t : Names) (top : List ℕ) → is_some_directory_kind (class o ev [] (kind_of_node_at t top false) None).disk_kind ≡ false → kind_of_lookup (look t top false) ≢ Some nodes.Directory
  no-directory t top out is =
      let kind_is : kind_of_node_at t top false ≡ Some Directory = ap (λ (n : Option NodeKind). option_map from_node_kind n) is in
      let there : is_some_directory_kind (class o ev [] (kind_of_node_at t top false) None).disk_kind ≡ true = ap (λ (k : Option Kind). is_some_directory_kind (class o ev [] k None).disk_kind) kind_is ∙ holds-root in
      absurd (let e : false ≡ true = sym out ∙ there in cc e)

-- ---- a traversal root that is entered and cannot be listed

pub named-directory : (at : LookupResult) → is_some_directory_kind (option_map from_node_kind (kind_of_lookup at)) ≡ true → (names : Names) × (at ≡ found (directory names))
named-directory (found (directory names)) e = (names, refl)
named-directory (found (link target)) e = absurd (cc e)
named-directory (found (file bytes)) e = absurd (cc e)
named-directory (found other) e = absurd (cc e)
named-directory absent e = absurd (cc e)
named-directory too_many_links e = absurd (cc e)

open-holds : (kind : Option Kind) (in_repository : Bool) → is_walkable_kind kind in_repository ≡ true → is_some_directory_kind kind ≡ true
open-holds (Some Directory) in_repository e = refl
open-holds (Some Repository) in_repository e = refl
open-holds (Some Untrackable) in_repository e = absurd (cc e)
open-holds (Some File) in_repository e = absurd (cc e)
open-holds (Some Symlink) in_repository e = absurd (cc e)
open-holds None in_repository e = absurd (cc e)

directory-node : (at : LookupResult) → is_plain_directory_kind (option_map from_node_kind (kind_of_lookup at)) ≡ true → (names : Names) × (at ≡ found (directory names))
directory-node at e = named-directory at (directory-holds (option_map from_node_kind (kind_of_lookup at)) e)

-- it is open by its class, or as a link to a directory
opened : (empty : Bool) (kind followed : Option Kind) (in_repository : Bool) → is_walkable_kind (if empty && is_symlink_kind kind && is_plain_directory_kind followed then Some Directory else kind) in_repository ≡ true
    → (is_some_directory_kind kind ≡ true) ⊎ ((empty ≡ true) × (is_plain_directory_kind followed ≡ true))
opened false kind followed in_repository e = inl (open-holds kind in_repository e)
opened true kind followed in_repository e = go (is_symlink_kind kind) (is_plain_directory_kind followed) refl e
  where
    go : (a b : Bool) → is_plain_directory_kind followed ≡ b → is_walkable_kind (if a && b then Some Directory else kind) in_repository ≡ true → (is_some_directory_kind kind ≡ true) ⊎ ((true ≡ true) × (is_plain_directory_kind followed ≡ true))
    go true true is f = inr (refl, is)
    go true false is f = inl (open-holds kind in_repository f)
    go false b is f = inl (open-holds kind in_repository f)

module _ (o : WalkOptions) (ev : PathEvidence) (t : Names) (path full : List ℕ) (why : ListError) where
  unlisted-both : (follow : Bool) {X : Type 0} → list_of (look t full follow) ≡ Err why → ((names : Names) × (look t full false ≡ found (directory names))) → X
  unlisted-both true e at = absurd (let g : list_of (found (directory at.0)) ≡ Err why = ap list_of (sym (look-follow at.0 t full at.1)) ∙ e in cc g)
  unlisted-both false e at = absurd (let g : list_of (found (directory at.0)) ≡ Err why = ap list_of (sym at.1) ∙ e in cc g)

  unlisted-followed : (follow : Bool) {X : Type 0} → follow ≡ true → list_of (look t full follow) ≡ Err why → is_plain_directory_kind (option_map from_node_kind (kind_of_lookup (look t full true))) ≡ true → X
  unlisted-followed false is e d = absurd (cc is)
  unlisted-followed true is e d = let at = directory-node (look t full true) d in absurd (let g : list_of (found (directory at.0)) ≡ Err why = ap list_of (sym at.1) ∙ e in cc g)

  pub held-root : (in_repository : Bool) → let c = class o ev path (kind_of_node_at t full false) None in
      is_walkable_kind (if is_empty path && is_symlink_kind c.disk_kind && is_plain_directory_kind (kind_of_node_at t full true) then Some Directory else c.disk_kind) in_repository ≡ true
      → list_of (look t full (is_empty path)) ≡ Err why → IsClassedAsDirectoryWithoutDisk o ev path c
  held-root in_repository into unlisted = by (opened (is_empty path) (class o ev path (kind_of_node_at t full false) None).disk_kind (kind_of_node_at t full true) in_repository into)
    where
      by : (is_some_directory_kind (class o ev path (kind_of_node_at t full false) None).disk_kind ≡ true) ⊎ ((is_empty path ≡ true) × (is_plain_directory_kind (kind_of_node_at t full true) ≡ true)) → IsClassedAsDirectoryWithoutDisk o ev path (class o ev path (kind_of_node_at t full false) None)
      by (inr at) = unlisted-followed (is_empty path) at.0 unlisted at.1
      by (inl holds) = go (held-class o ev path (kind_of_node_at t full false) holds)
        where
          go : IsClassedAsDirectoryWithoutDisk o ev path (class o ev path (kind_of_node_at t full false) None) ⊎ (is_some_directory_kind (kind_of_node_at t full false) ≡ true) → IsClassedAsDirectoryWithoutDisk o ev path (class o ev path (kind_of_node_at t full false) None)
          go (inl held) = held
          go (inr is) = unlisted-both (is_empty path) unlisted (named-directory (look t full false) is)
