-- The root is pushed as the directory of the empty path; where a directory is pushed nothing is done.
use Rattle.std.proofs.Common.{◌∙◌, refl, sym}
use Rattle.worktree_fs.proofs.Routes.Lookups.{on_ok}
use Rattle.worktree_stack.specs.Moments.{worktree_store_and_stack}
use Rattle.worktree_stack.proofs.CheckOut.HeldOut.{adds-root, adds-rooted}
use Rattle.worktree_stack.proofs.Lookup.Asked.{root-asks}
use Rattle.worktree_stack.proofs.Lookup.SeeingOn.{sees-root, sees-rooted}
use Rattle.worktree_stack.proofs.stack.Stack.push_root_with_rules.Goals as goal

pub returns-then-is_root_pushed-clause-sees : goal.returns-then-is_root_pushed-clause-sees
returns-then-is_root_pushed-clause-sees g c =
    sees-rooted (g.W.Worktree.told c.args.worktree.now) (g.F.Find.holds c.args.objects.now) c.args.self.now (sym c.is_root_pushed.ensures ∙ c.if-is_root_pushed.true)

pub returns-then-is_root_pushed-clause-lists : goal.returns-then-is_root_pushed-clause-lists
returns-then-is_root_pushed-clause-lists g c way s tells =
    adds-rooted way s c.args.self.now (sym c.is_root_pushed.ensures ∙ c.if-is_root_pushed.true)

pub returns-clause-asks : goal.returns-clause-asks
returns-clause-asks g c =
    root-asks g.W.Worktree (worktree_store_and_stack c.args.worktree.now c.args.objects.now c.args.self.now) (worktree_store_and_stack c.args.worktree.now c.args.objects.now c.make_deepest_current.new.self) (worktree_store_and_stack c.push_directory.new.worktree c.push_directory.new.objects c.push_directory.new.self)
    c.make_deepest_current.ensures (sym c.is_root_pushed.ensures ∙ c.if-is_root_pushed.false) refl c.push_directory.ensures.asks

pub returns-clause-sees : goal.returns-clause-sees
returns-clause-sees g c =
    sees-root (g.W.Worktree.told c.args.worktree.now) (g.F.Find.holds c.args.objects.now) c.args.self.now c.make_deepest_current.new.self c.push_directory.new.self.attributes c.push_directory.result
    (sym c.is_root_pushed.ensures ∙ c.if-is_root_pushed.false) c.make_deepest_current.ensures c.push_directory.ensures.pushes.sees

pub returns-clause-lists : goal.returns-clause-lists
returns-clause-lists g c way s tells =
    on_ok c.push_directory.result
    (λ pushed. adds-root way s c.args.self.now c.make_deepest_current.new.self c.push_directory.new.self.attributes (sym c.is_root_pushed.ensures ∙ c.if-is_root_pushed.false) c.make_deepest_current.ensures pushed)
    (c.push_directory.ensures.pushes.lists s tells)
