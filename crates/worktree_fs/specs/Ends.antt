-- Interrupts and sinks as contracts see them, and what is planned to happen at a call of one.
use Rattle.std.specs.Prelude.{ℕ, ◌-◌, length, take, Bool, false, if◌then◌else◌, nat_le, ◌==◌, not, ◌&&◌, List, ◌++◌, Option, Some, None}
pub use Rattle.gitbase_core.specs.Causes.{saturating_increment, saturating_sum}

-- whether a call, by its number from 1, is the planned one or comes after it
abbrev pub is_call_at_or_after_planned : Option ℕ → ℕ → Bool
is_call_at_or_after_planned None call = false
is_call_at_or_after_planned (Some first) call = nat_le first call

-- an interrupt that is raised from a planned question on
pub record PlannedInterruptModel : Type 0 where
  pub first : Option ℕ
  pub questions : ℕ
  pub raised : ℕ

-- after one more question
abbrev pub interrupt_after_question : PlannedInterruptModel → PlannedInterruptModel
interrupt_after_question asked = record {
  first = asked.first;
  questions = saturating_increment asked.questions;
  raised = if is_call_at_or_after_planned asked.first (saturating_increment asked.questions) then saturating_increment asked.raised else asked.raised;
}

-- the same one, never asked yet
abbrev pub interrupt_with_counts_reset : PlannedInterruptModel → PlannedInterruptModel
interrupt_with_counts_reset asked = record { first = asked.first; questions = 0; raised = 0 }

-- the counts of an interrupt
pub record InterruptCounts : Type 0 where
  pub questions : ℕ
  pub raised : ℕ

-- a sink that takes so many bytes, and fails from a planned write on
pub record MemorySinkModel : Type 0 where
  pub written : List ℕ
  pub room : ℕ
  pub first_fault : Option ℕ
  pub writes : ℕ
  pub refusals : ℕ

-- whether the next write fails
abbrev pub is_next_write_failing : MemorySinkModel → Bool
is_next_write_failing sink = is_call_at_or_after_planned sink.first_fault (saturating_increment sink.writes)

-- after one more write: what there is room for was taken, unless it failed
abbrev pub sink_after_write : MemorySinkModel → List ℕ → MemorySinkModel
sink_after_write sink piece =
    if is_next_write_failing sink then record {
      written = sink.written;
      room = sink.room;
      first_fault = sink.first_fault;
      writes = saturating_increment sink.writes;
      refusals = saturating_increment sink.refusals;
    }
    else record {
      written = sink.written ++ take sink.room piece;
      room = sink.room - length piece;
      first_fault = sink.first_fault;
      writes = saturating_increment sink.writes;
      refusals = if sink.room == 0 && not (length piece == 0) then saturating_increment sink.refusals else sink.refusals;
    }
