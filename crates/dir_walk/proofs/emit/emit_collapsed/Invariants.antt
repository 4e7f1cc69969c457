use Rattle.std.proofs.Common.{take, ◌≡◌, []}
use Rattle.dir_classify.specs.Chosen.{walk_options_of}
use Rattle.dir_walk.specs.Emits.{AddsEmissionsAndCounts, count_held_emitted_collapsed}
use Rattle.dir_walk.specs.Kept.{KeepsDelegateRunning}
use Rattle.dir_walk.specs.Puts.{AddsNoHiddenEmission, AddsEmissionsWithinRoom, count_held_at_path}
use Rattle.dir_walk.proofs.emit.emit_collapsed.Given as goal

abbrev pub invariant-loop-entry : goal.invariant-loop-entry
invariant-loop-entry g l =
    let d = g.D.Delegate in
    record {
      delegate : KeepsDelegateRunning d l.fn.delegate l.delegate;
      kept_on : d.breaks l.delegate ≡ d.breaks l.fn.delegate;
      so_far : AddsEmissionsAndCounts (d.given l.fn.delegate) (d.given l.delegate) l.fn.outcome l.outcome (count_held_emitted_collapsed (walk_options_of l.options) l.status (take l.entry-index l.held)) l.entry-index 0;
      puts : AddsEmissionsWithinRoom (λ path. count_held_at_path path (take l.entry-index l.held)) (d.given l.fn.delegate) (d.given l.delegate) l.fn.outcome l.outcome [];
      filtered : AddsNoHiddenEmission (walk_options_of l.options) (d.given l.fn.delegate) (d.given l.delegate);
      entered : l.outcome.read_dir_calls ≡ l.fn.outcome.read_dir_calls;
    }
