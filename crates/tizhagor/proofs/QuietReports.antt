-- What follows of a report that is given where the worktree did not fail for it.
use Rattle.std.proofs.Common.{inl, inr, ℕ, List, option_map, Result, Ok, Err, ap, sym, refl, subst, arith}
use Rattle.git_setup.specs.declared.found.Found.{Found}
use Rattle.worktree_fs.specs.declared.interrupt.Interrupt.{Ghosts as InterruptOf}
use Rattle.worktree_fs.specs.declared.worktree.Worktree.{Ghosts as WorktreeOf}
use Rattle.worktree_fs.specs.Causes.{CountIncreasedOrSaturated, CountNotIncreased}
use Rattle.worktree_fs.specs.Kept.{KeepsTreeAndListCounts}
use Rattle.worktree_report.specs.Behind.{MakesReportTextFirst}
use Rattle.worktree_report.specs.Reported.{MakesTextBySetup}
use Rattle.worktree_report.specs.declared.refusal.Refusal.{Refusal}
use Rattle.worktree_report.specs.declared.refusal.Refusal.TheVariants as refusals
use Rattle.tizhagor.specs.declared.written.Writing.{Writing}
use Rattle.tizhagor.specs.QuietReport.{IsFormattedUnlessFaultsRose, ReportsWithoutHiddenFault}
use Rattle.tizhagor.specs.Writing.{text_formatted_for_output}

module _ {W I : Type 0} (w : WorktreeOf W) (i : InterruptOf I) (w0 w1 : W) (i0 i1 : I) (writing : Writing) (here : Found) where
  -- nothing is asked behind the report
  asks_none : KeepsTreeAndListCounts w w1 w1
  asks_none = record { tree = refl; faults = omega arith; list_faults = refl; reads = omega arith; lists = refl; precomposes = refl }

  made_first : (text : List ℕ) → MakesTextBySetup w i (w.precomposes w0) w0 w1 i0 i1 here.root here.setup (Ok text) → MakesReportTextFirst w i (w.precomposes w0) w0 w1 i0 i1 here.root here.setup 0
  made_first text texts = record { between = w1; text = text; made = texts; asks = asks_none; reads = omega arith }

  -- there is no report
  refused : (e : Refusal) → MakesTextBySetup w i (w.precomposes w0) w0 w1 i0 i1 here.root here.setup (Err e) → ReportsWithoutHiddenFault w i w0 w1 i0 i1 writing here (Err e)
  refused e texts =
      record {
        gives = λ t told. tt;
        unfaulted = tt;
        made = tt;
        refused = inr (inr texts);
        worktree = texts.worktree;
        interrupt = texts.interrupt;
        listed = tt;
        calm = tt;
      }

  -- a fault was counted for it
  failed : (text : List ℕ) → MakesTextBySetup w i (w.precomposes w0) w0 w1 i0 i1 here.root here.setup (Ok text) → CountIncreasedOrSaturated (w.faults w0) (w.faults w1) → ReportsWithoutHiddenFault w i w0 w1 i0 i1 writing here (Err refusals.Fault)
  failed text texts rose =
      record {
        gives = λ t told. tt;
        unfaulted = tt;
        made = tt;
        refused = inr (inl (refl, record { first = made_first text texts; rose = rose }));
        worktree = texts.worktree;
        interrupt = texts.interrupt;
        listed = tt;
        calm = tt;
      }

  -- memory was wanted for its bytes
  unwritten : (text : List ℕ) → MakesTextBySetup w i (w.precomposes w0) w0 w1 i0 i1 here.root here.setup (Ok text) → ReportsWithoutHiddenFault w i w0 w1 i0 i1 writing here (Err refusals.OutOfMemory)
  unwritten text texts =
      record {
        gives = λ t told. tt;
        unfaulted = tt;
        made = tt;
        refused = inl refl;
        worktree = texts.worktree;
        interrupt = texts.interrupt;
        listed = tt;
        calm = tt;
      }

  given : (text : List ℕ) → MakesTextBySetup w i (w.precomposes w0) w0 w1 i0 i1 here.root here.setup (Ok text) → CountNotIncreased (w.faults w0) (w.faults w1) → ReportsWithoutHiddenFault w i w0 w1 i0 i1 writing here (Ok (text_formatted_for_output writing text))
  given text texts quiet =
      record {
        gives = λ t told. ap (option_map (text_formatted_for_output writing)) (texts.gives t told quiet);
        unfaulted = quiet;
        made = made_first text texts;
        refused = tt;
        worktree = texts.worktree;
        interrupt = texts.interrupt;
        listed = texts.listed;
        calm = texts.calm;
      }

  pub reports : (answer result : Result (List ℕ) Refusal) → MakesTextBySetup w i (w.precomposes w0) w0 w1 i0 i1 here.root here.setup answer → IsFormattedUnlessFaultsRose (w.faults w0) (w.faults w1) writing answer result
      → ReportsWithoutHiddenFault w i w0 w1 i0 i1 writing here result
  reports (Ok text) result texts is =
      elim is [
        | inl rose ↦ subst (λ (r : Result (List ℕ) Refusal). ReportsWithoutHiddenFault w i w0 w1 i0 i1 writing here r) (sym rose.1) (failed text texts rose.0)
        | inr calm ↦ elim calm.1 [
          | inl same ↦ subst (λ (r : Result (List ℕ) Refusal). ReportsWithoutHiddenFault w i w0 w1 i0 i1 writing here r) (sym same) (given text texts calm.0)
          | inr wants ↦ subst (λ (r : Result (List ℕ) Refusal). ReportsWithoutHiddenFault w i w0 w1 i0 i1 writing here r) (sym wants) (unwritten text texts)
        ]
      ]
  reports (Err e) result texts is = subst (λ (r : Result (List ℕ) Refusal). ReportsWithoutHiddenFault w i w0 w1 i0 i1 writing here r) (sym is) (refused e texts)
