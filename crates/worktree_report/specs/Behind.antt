-- In which order a text comes that a report is made for, and why there is none: the setup first, then the report, and all else
-- behind it.
use Rattle.std.specs.Prelude.{◌≡◌, ◌⊎◌, ◌≤◌, ◌+◌, ℕ, List, true, Bool, Some, Result, Ok, Err}
use Rattle.worktree_fs.specs.declared.interrupt.Interrupt.{Ghosts as InterruptOf}
use Rattle.worktree_fs.specs.declared.worktree.Worktree.{Ghosts as WorktreeOf}
use Rattle.worktree_fs.specs.Causes.{CountIncreasedOrSaturated, CountIncrementedOrSaturated}
use Rattle.worktree_fs.specs.Kept.{KeepsTreeAndListCounts}
use Rattle.worktree_fs.specs.Tree.{Names, look}
use Rattle.worktree_report.specs.declared.setup.Setup.{Setup}
use Rattle.worktree_report.specs.declared.refusal.Refusal.{Refusal}
use Rattle.worktree_report.specs.declared.refusal.Refusal.TheVariants as refusals
use Rattle.worktree_report.specs.Converted.{MayComeFromReadingSetup}
use Rattle.worktree_report.specs.Reported.{MakesTextBySetup}
use Rattle.worktree_report.specs.SetupAt.{setup_of_file_looked_at}
use Rattle.worktree_report.specs.Words.{RootAndSetupPaths}

-- ---- by a setup

-- One report was made, first of all, and all that making it says holds; then the worktree was asked for nodes and files alone, and so
-- many files were read at most.
pub record MakesReportTextFirst {W I : Type 0} (w : WorktreeOf W) (i : InterruptOf I) (composes : Bool) (w0 w1 : W) (i0 i1 : I) (root : List ℕ) (setup : Setup) (most : ℕ) : Type 0 where
  pub between : W
  pub text : List ℕ
  pub made : MakesTextBySetup w i composes w0 between i0 i1 root setup (Ok text)
  pub asks : KeepsTreeAndListCounts w between w1
  pub reads : w.reads w1 ≤ w.reads between + most

-- And the worktree failed, while the report was made or behind that.
pub record FailsWhileMakingText {W I : Type 0} (w : WorktreeOf W) (i : InterruptOf I) (composes : Bool) (w0 w1 : W) (i0 i1 : I) (root : List ℕ) (setup : Setup) (most : ℕ) : Type 0 where
  pub first : MakesReportTextFirst w i composes w0 w1 i0 i1 root setup most
  pub rose : CountIncreasedOrSaturated (w.faults w0) (w.faults w1)

-- Why there is no text that a report is made for: for want of memory, as the worktree failed while there was a report, behind which so
-- many files are read at most, or as there is no report.
abbrev pub RefusesTextWithCause : {W I : Type 0} → WorktreeOf W → InterruptOf I → Bool → W → W → I → I → List ℕ → Setup → ℕ → Refusal → Type 0
RefusesTextWithCause w i composes w0 w1 i0 i1 root setup most refusal =
    (refusal ≡ refusals.OutOfMemory)
    ⊎ (((refusal ≡ refusals.Fault) × FailsWhileMakingText w i composes w0 w1 i0 i1 root setup most)
    ⊎ MakesTextBySetup w i composes w0 w1 i0 i1 root setup (Err refusal))

-- ---- at some places

-- one file was read, and nothing was listed, made or removed; looks are not counted
pub record ReadsOneFileOnly {W : Type 0} (w : WorktreeOf W) (before now : W) : Type 0 where
  pub tree : w.told now ≡ w.told before
  pub faults : w.faults before ≤ w.faults now
  pub list_faults : w.list_faults now ≡ w.list_faults before
  pub reads : CountIncrementedOrSaturated (w.reads before) (w.reads now)
  pub lists : w.lists now ≡ w.lists before
  pub precomposes : w.precomposes now ≡ w.precomposes before

-- The setup was read once, before any other file and before anything was listed; no fault of that is hidden; and then `Then` holds of it
-- and of the worktree as it was by then. Where the tree is told the setup is the one that was read in it.
pub record HoldsBehindReadSetup {W : Type 0} (w : WorktreeOf W) (w0 : W) (places : RootAndSetupPaths) (Then : Setup → W → Type 0) : Type 0 where
  pub setup : Setup
  pub read : (t : Names) → w.told w0 ≡ Some t → setup_of_file_looked_at (look t places.setup true) ≡ Ok setup
  pub loaded : W
  pub once : ReadsOneFileOnly w w0 loaded
  pub unfaulted : w.faults loaded ≡ w.faults w0
  pub made : Then setup loaded

-- A text, or why there is none, comes by the setup that was read; or a refusal as that was read, where no other file was read, nothing was
-- listed, and the interrupt was not asked.
abbrev pub AnswersBehindReadSetup : {W I : Type 0} → WorktreeOf W → W → W → I → I → RootAndSetupPaths → (Setup → W → Type 0) → Result (List ℕ) Refusal → Type 0
AnswersBehindReadSetup w w0 w1 i0 i1 places Then (Ok text) = HoldsBehindReadSetup w w0 places Then
AnswersBehindReadSetup w w0 w1 i0 i1 places Then (Err refusal) = (MayComeFromReadingSetup refusal × ReadsOneFileOnly w w0 w1 × (i1 ≡ i0)) ⊎ HoldsBehindReadSetup w w0 places Then
