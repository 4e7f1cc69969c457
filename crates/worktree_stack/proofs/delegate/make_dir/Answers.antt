use Rattle.std.proofs.Common.{false, arith}
use Rattle.worktree_stack.proofs.CheckOut.Preparing.{outcome-told, partly-kept, ok-unless, made-there, made-changed, replaced-made}
use Rattle.worktree_stack.proofs.delegate.make_dir.Goals as goal

pub returns : goal.returns
returns g c =
    let W = g.W.Worktree in
    let now = c.make_dir.ensures in
    record {
      done = λ t told. outcome-told c.make_dir.result _ _ _ (now.answer t told) (now.made t told) c.saturating_add.ensures;
      there = λ t told keeps. made-there c.make_dir.result (W.precomposes c.args.worktree.now) t c.args.path.now (g.met.W.Worktree.is_tree c.args.worktree.now t told) keeps (now.answer t told);
      partly = λ t told. partly-kept c.make_dir.result false t c.args.path.now _ _ _ _ told now.kept;
      cause = now.cause;
      unfaulted = ok-unless _ c.make_dir.result now.unfaulted;
      calls = omega (arith, c.saturating_add.ensures);
      most_calls = omega (arith, c.saturating_add.ensures);
      asked = c.saturating_add.ensures;
      changes = record { untold = now.untold; faults = now.faults; list_faults = now.list_faults; reads = now.reads; lists = now.lists; precomposes = now.precomposes };
      changed = λ t after told told1 keeps. replaced-made false (made-changed c.make_dir.result (W.precomposes c.args.worktree.now) t after c.args.path.now _ _ (g.met.W.Worktree.is_tree c.args.worktree.now t told) keeps (now.answer t told) (now.made t told) now.kept told told1);
    }
