use Rattle.std.proofs.Common.{◌≡◌, ◌++◌, List, ℕ, length}
use Rattle.worktree_report.specs.Written.{AppendsWholeBytes}
use Rattle.worktree_report.proofs.write_whole.write_all_bytes.Given as goal

abbrev pub invariant-loop-rest : goal.invariant-loop-rest
invariant-loop-rest g l =
    let written = g.S.Sink.written in
    let refusals = g.S.Sink.refusals in
    record {
      front : List ℕ;
      parts : l.bytes ≡ front ++ l.rest;
      so_far : AppendsWholeBytes (written l.fn.sink) (written l.sink) front;
      unrefused : refusals l.sink ≡ refusals l.fn.sink;
    }

abbrev pub decreases-loop-rest : goal.decreases-loop-rest
decreases-loop-rest g l = length l.rest
