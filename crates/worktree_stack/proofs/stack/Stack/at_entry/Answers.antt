use Rattle.std.proofs.Common.{Bool, Option, subst}
use Rattle.std.specs.Prelude.{OnOk}
use Rattle.gitbase_core.specs.Path.{components}
use Rattle.worktree_fs.specs.PathStack.{delegate_calls_of_lookup}
use Rattle.worktree_stack.specs.HeldOut.{KeepsLowestAppendsCheckoutLists}
use Rattle.worktree_stack.specs.Stacked.{setup_of_stack}
use Rattle.worktree_stack.specs.ChecksOut.{LooksUpMakingDirectories}
use Rattle.worktree_stack.specs.LooksUp.{LooksUpPath}
use Rattle.worktree_stack.specs.Lookups.{is_dir_by_mode}
use Rattle.worktree_stack.specs.Making.{is_symlink_by_mode, mkdir_count_of_stack, checkout_lookup_options}
use Rattle.worktree_stack.proofs.stack.Stack.at_entry.Goals as goal

pub returns-clause-checks_out : goal.returns-clause-checks_out
returns-clause-checks_out g c checkout is =
    let W = g.W.Worktree in
    let F = g.F.Find in
    let a = c.args in
    subst (λ (k : Option Bool). LooksUpMakingDirectories W F a.worktree.now c.at_path.new.worktree a.objects.now c.at_path.new.objects checkout a.relative.now k (is_symlink_by_mode a.mode) a.self.now c.at_path.new.self c.at_path.result) c.entry_mode.ensures.is_dir
    (subst (λ (b : Bool). LooksUpMakingDirectories W F a.worktree.now c.at_path.new.worktree a.objects.now c.at_path.new.objects checkout a.relative.now (is_dir_by_mode c.entry_mode.result) b a.self.now c.at_path.new.self c.at_path.result) c.entry_mode.ensures.is_link
    (c.at_path.ensures.checks_out checkout is))

pub returns-clause-looks_up : goal.returns-clause-looks_up
returns-clause-looks_up g c keeps =
    subst (λ (k : Option Bool). LooksUpPath g.W.Worktree g.F.Find c.args.worktree.now c.at_path.new.worktree c.args.objects.now c.at_path.new.objects c.args.relative.now k c.args.self.now c.at_path.new.self c.at_path.result) c.entry_mode.ensures.is_dir
    (c.at_path.ensures.looks_up keeps)

pub returns-clause-held : goal.returns-clause-held
returns-clause-held g c checkout is s tells =
    let a = c.args in
    subst (λ (k : Option Bool). OnOk c.at_path.result (KeepsLowestAppendsCheckoutLists (setup_of_stack a.self.now) (checkout_lookup_options checkout (g.W.Worktree.precomposes a.worktree.now) a.self.now.root k) (mkdir_count_of_stack a.self.now) s (delegate_calls_of_lookup a.self.now.at (components a.relative.now)) a.self.now.attributes c.at_path.new.self.attributes)) c.entry_mode.ensures.is_dir
    (c.at_path.ensures.held checkout is s tells)
