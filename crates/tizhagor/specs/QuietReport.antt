-- The report of a work tree that is found, where the worktree did not fail for it, as it is written.
use Rattle.std.specs.Prelude.{◌≡◌, ◌⊎◌, ℕ, List, Bool, Option, Some, option_map, Result, Ok, Err, IfOk, IfErr, OnOk}
use Rattle.dir_walk.specs.Kept.{AsksInterruptPerRaise, KeepsWorktree}
use Rattle.git_setup.specs.declared.found.Found.{Found}
use Rattle.worktree_fs.specs.declared.interrupt.Interrupt.{Ghosts as InterruptOf}
use Rattle.worktree_fs.specs.declared.worktree.Worktree.{Ghosts as WorktreeOf}
use Rattle.worktree_fs.specs.Causes.{CountIncreasedOrSaturated, CountNotIncreased}
use Rattle.worktree_fs.specs.Tree.{Names}
use Rattle.worktree_report.specs.Asked.{IsSetupValidAtRoot, sources_of_tree_and_setup, report_text_of_setup}
use Rattle.worktree_report.specs.Behind.{MakesReportTextFirst, RefusesTextWithCause}
use Rattle.worktree_report.specs.declared.refusal.Refusal.{Refusal}
use Rattle.worktree_report.specs.declared.refusal.Refusal.TheVariants as refusals
use Rattle.tizhagor.specs.declared.written.Writing.{Writing}
use Rattle.tizhagor.specs.Writing.{text_formatted_for_output}

-- the bytes that are written for the report, over a tree
abbrev pub formatted_report_of_found : Bool → Names → Found → Writing → Option (List ℕ)
formatted_report_of_found composes t here writing = option_map (text_formatted_for_output writing) (report_text_of_setup composes t here.root here.setup)

-- it can be had
abbrev pub IsFoundSetupValidForReport : Bool → Names → Found → Type 0
IsFoundSetupValidForReport composes t here = IsSetupValidAtRoot composes (sources_of_tree_and_setup t here.setup) here.root here.setup

-- The bytes of a text that was made while the count of faults came from `before` to `now`: none where it rose, or stands at its last value.
abbrev pub IsFormattedUnlessFaultsRose : ℕ → ℕ → Writing → Result (List ℕ) Refusal → Result (List ℕ) Refusal → Type 0
IsFormattedUnlessFaultsRose before now writing (Ok text) answer =
    (CountIncreasedOrSaturated before now × (answer ≡ Err refusals.Fault))
    ⊎ (CountNotIncreased before now × ((answer ≡ Ok (text_formatted_for_output writing text)) ⊎ (answer ≡ Err refusals.OutOfMemory)))
IsFormattedUnlessFaultsRose before now writing (Err e) answer = answer ≡ Err e

-- What making it says, where a worktree was `w0` and is `w1`, and an interrupt was `i0` and is `i1`.
pub record ReportsWithoutHiddenFault {W I : Type 0} (w : WorktreeOf W) (i : InterruptOf I) (w0 w1 : W) (i0 i1 : I) (writing : Writing) (here : Found) (answer : Result (List ℕ) Refusal) : Type 0 where
  -- Over a told tree it is exactly the report that the setup asks for.
  pub gives : (t : Names) → w.told w0 ≡ Some t → IfOk answer (λ bytes. formatted_report_of_found (w.precomposes w0) t here writing ≡ Some bytes)
  -- no fault was counted, one that the walk swallows among them
  pub unfaulted : OnOk answer (CountNotIncreased (w.faults w0) (w.faults w1))
  -- one report was made, and behind it nothing was asked
  pub made : OnOk answer (MakesReportTextFirst w i (w.precomposes w0) w0 w1 i0 i1 here.root here.setup 0)
  pub refused : IfErr answer (RefusesTextWithCause w i (w.precomposes w0) w0 w1 i0 i1 here.root here.setup 0)
  pub worktree : KeepsWorktree w w0 w1
  pub interrupt : AsksInterruptPerRaise i i0 i1
  pub listed : OnOk answer (w.list_faults w1 ≡ w.list_faults w0)
  pub calm : OnOk answer (i.raised i1 ≡ i.raised i0)
