-- Top calls that end in a refusal.
use Rattle.std.proofs.Common.{◌≡◌, ◌≤◌, ℕ, List, Result, Err, refl, arith}
use Rattle.worktree_fs.specs.declared.sink.Sink.{Ghosts as SinkOf}
use Rattle.worktree_report.specs.declared.refusal.Refusal.{Refusal}
use Rattle.worktree_report.specs.Ends.{TopCallEnds, ReportsRefusalOrMemory}

pub Ends-refused : {S E : Type 0} {s : SinkOf S} {e : SinkOf E} {s0 : S} {e0 e1 : E} {usage : List ℕ} {refusal : Refusal} {status : ℕ}
    (answer : Result (List ℕ) Refusal) → answer ≡ Err refusal → ReportsRefusalOrMemory e e0 e1 usage refusal status → e.refusals e0 ≤ e.refusals e1
    → TopCallEnds s e s0 s0 e0 e1 usage answer status
Ends-refused answer is told later = rw is (record { by = (refl, told); refusals = omega arith; err_refusals = later })
