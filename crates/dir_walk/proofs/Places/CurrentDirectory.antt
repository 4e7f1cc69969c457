-- The directory that must not go in deletion, and what a link in the worktree root's place leads to, by the evidence on a tree.
use Rattle.std.proofs.Common.{◌≡◌, ℕ, List, [], Bool, true, false, ◌&&◌, Option, Some, None, refl, sym, ap, ◌∙◌}
use Rattle.std.specs.Prelude.{if◌then◌else◌, is_some, option_and_then}
use Rattle.gitbase_core.specs.Path.{is_empty, normalized, without_leading_slashes}
use Rattle.worktree_fs.specs.Changes.{real_path}
use Rattle.worktree_stack.specs.Reading.{TreeAndObjects}
use Rattle.worktree_stack.specs.Setup.{StackSetup}
use Rattle.dir_classify.specs.declared.entry.Kind.{Kind}
use Rattle.dir_classify.specs.declared.entry.Kind.TheVariants.{Directory}
use Rattle.dir_classify.specs.declared.classify.RootOutcome.{RootOutcome}
use Rattle.dir_classify.specs.Kinds.{is_plain_directory_kind, is_symlink_kind}
use Rattle.dir_classify.specs.Layers.{WalkSetting, protected_current_directory, evidence_from_setting_and_sources, kind_of_node_at, rest_behind_directory}
use Rattle.dir_classify.specs.Rooted.{reached_of_root_outcome}
use Rattle.dir_walk.specs.Root.{disk_kind_of_traversal_root}

module _ (given : WalkSetting) (made : Option StackSetup) (s : TreeAndObjects) where
  -- what follows the real path of the worktree root in that of the current directory, made normal
  abbrev behind : Option (List ℕ) → Option (List ℕ)
  behind real = option_and_then (λ rest. normalized (without_leading_slashes rest)) (option_and_then (λ r. rest_behind_directory r given.current_dir) real)

  blocked-is : (evidence_from_setting_and_sources given made s).blocked ≡ protected_current_directory given.options s.tree given.root given.current_dir
  unfolding evidence_from_setting_and_sources
  blocked-is = refl

  pub not-deleting : is_some given.options.for_deletion ≡ false → (evidence_from_setting_and_sources given made s).blocked ≡ None
  not-deleting e = blocked-is ∙ ap (λ (b : Bool). if b then behind (real_path s.tree given.root given.current_dir) else None) e

  -- by the real path of the worktree root
  pub deleting : (real : Option (List ℕ)) → is_some given.options.for_deletion ≡ true → real ≡ real_path s.tree given.root given.current_dir
      → (evidence_from_setting_and_sources given made s).blocked ≡ behind real
  deleting real e is =
      blocked-is
      ∙ ap (λ (b : Bool). if b then behind (real_path s.tree given.root given.current_dir) else None) e
      ∙ ap behind (sym is)

  pub followed-is : (evidence_from_setting_and_sources given made s).followed [] ≡ kind_of_node_at s.tree given.root true
  unfolding evidence_from_setting_and_sources
  followed-is = refl

  -- a link in the worktree root's place counts as a directory where it leads to one
  module _ (r : RootOutcome) where
    abbrev k : Option Kind
    k = r.outcome.disk_kind

    as-link : (a b c : Bool) → (a && b) ≡ true → (if a && b && c then Some Directory else k) ≡ (if c then Some Directory else k)
    as-link true true c e = refl
    as-link true false c e = absurd (cc e)
    as-link false b c e = absurd (cc e)

    as-other : (a b c : Bool) → (a && b) ≡ false → (if a && b && c then Some Directory else k) ≡ k
    as-other true true c e = absurd (cc e)
    as-other true false c e = refl
    as-other false b c e = refl

    pub link-kind : (leads : Bool) → (is_empty r.path && is_symlink_kind r.outcome.disk_kind) ≡ true → leads ≡ is_plain_directory_kind (kind_of_node_at s.tree given.root true)
        → disk_kind_of_traversal_root (evidence_from_setting_and_sources given made s) (reached_of_root_outcome r false) ≡ (if leads then Some Directory else r.outcome.disk_kind)
    link-kind leads link is =
        as-link (is_empty r.path) (is_symlink_kind k) (is_plain_directory_kind ((evidence_from_setting_and_sources given made s).followed [])) link
        ∙ ap (λ (x : Option Kind). if is_plain_directory_kind x then Some Directory else k) followed-is
        ∙ ap (λ (b : Bool). if b then Some Directory else k) (sym is)

    pub other-kind : (is_empty r.path && is_symlink_kind r.outcome.disk_kind) ≡ false → disk_kind_of_traversal_root (evidence_from_setting_and_sources given made s) (reached_of_root_outcome r false) ≡ r.outcome.disk_kind
    other-kind other = as-other (is_empty r.path) (is_symlink_kind k) (is_plain_directory_kind ((evidence_from_setting_and_sources given made s).followed [])) other
