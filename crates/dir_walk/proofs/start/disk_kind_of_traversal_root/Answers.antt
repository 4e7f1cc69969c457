use Rattle.std.proofs.Common.{◌∙◌, sym, ap, Bool, Some}
use Rattle.std.specs.Prelude.{if◌then◌else◌}
use Rattle.dir_classify.specs.declared.entry.Kind.TheVariants.{Directory}
use Rattle.dir_classify.specs.Layers.{setting_of_shared}
use Rattle.dir_walk.proofs.Places.CurrentDirectory.{link-kind, other-kind}
use Rattle.dir_walk.proofs.start.disk_kind_of_traversal_root.Goals as goal

pub returns-then-not-is_worktree_root_symlink-clause-kind : goal.returns-then-not-is_worktree_root_symlink-clause-kind
returns-then-not-is_worktree_root_symlink-clause-kind g c = λ made s told quiet.
    sym (other-kind (setting_of_shared g.M.Matcher c.args.shared.now) made s c.args.reached.now (sym c.is_worktree_root_symlink.ensures ∙ c.if-not-is_worktree_root_symlink.true))

pub returns-then-branch-clause-kind : goal.returns-then-branch-clause-kind
returns-then-branch-clause-kind g c = λ made s told quiet.
    sym
    (link-kind (setting_of_shared g.M.Matcher c.args.shared.now) made s c.args.reached.now c.in_ok-is_directory_following_links.field-0 (sym c.is_worktree_root_symlink.ensures ∙ c.if-not-is_worktree_root_symlink.false) (c.in_ok-is_directory_following_links.ensures.is s.tree told quiet)
    ∙ ap (λ (b : Bool). if b then Some Directory else c.args.reached.now.outcome.disk_kind) c.if-branch.true)

pub returns-clause-kind : goal.returns-clause-kind
returns-clause-kind g c = λ made s told quiet.
    sym
    (link-kind (setting_of_shared g.M.Matcher c.args.shared.now) made s c.args.reached.now c.in_ok-is_directory_following_links.field-0 (sym c.is_worktree_root_symlink.ensures ∙ c.if-not-is_worktree_root_symlink.false) (c.in_ok-is_directory_following_links.ensures.is s.tree told quiet)
    ∙ ap (λ (b : Bool). if b then Some Directory else c.args.reached.now.outcome.disk_kind) c.if-branch.false)
