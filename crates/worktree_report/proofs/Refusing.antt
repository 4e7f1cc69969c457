-- A text that a report is made for, or none, comes in its order.
use Rattle.std.proofs.Common.{◌≡◌, ◌≤◌, ◌+◌, ℕ, List, true, inl, inr, Some, Result, Ok, Err, refl, arith}
use Rattle.gitbase_core.specs.declared.find.Find.{Ghosts as FindOf}
use Rattle.worktree_fs.specs.declared.interrupt.Interrupt.{Ghosts as InterruptOf}
use Rattle.worktree_fs.specs.declared.worktree.Worktree.{Ghosts as WorktreeOf}
use Rattle.worktree_fs.specs.Causes.{CountIncreasedOrSaturated, CountIncrementedOrSaturated}
use Rattle.worktree_fs.specs.Kept.{KeepsTreeAndListCounts}
use Rattle.worktree_fs.specs.Tree.{Names, look}
use Rattle.worktree_report.specs.declared.refusal.Refusal.{Refusal}
use Rattle.worktree_report.specs.declared.report.Report.{Report}
use Rattle.worktree_report.specs.declared.setup.Setup.{Setup}
use Rattle.worktree_report.specs.Behind.{HoldsBehindReadSetup, FailsWhileMakingText, AnswersBehindReadSetup, MakesReportTextFirst}
use Rattle.worktree_report.specs.Converted.{MayComeFromReadingSetup}
use Rattle.worktree_report.specs.Lines.{text_of_report}
use Rattle.worktree_report.specs.Reported.{MakesReportBySetup}
use Rattle.worktree_report.specs.SetupAt.{setup_of_file_looked_at}
use Rattle.worktree_report.specs.Words.{RootAndSetupPaths}
use Rattle.worktree_report.proofs.Answered.{Texts-ok}

module _ {W F I : Type 0} {w : WorktreeOf W} {f : FindOf F} {i : InterruptOf I} {w0 between w1 : W} {o0 o1 : F} {i0 i1 : I} {root : List ℕ} {setup : Setup} where
  -- there is a report, and more is asked behind it
  pub MakesFirst-is : (most : ℕ) (r : Report) → MakesReportBySetup w f i w0 between o0 o1 i0 i1 root setup (Ok r) → f.holds o0 ≡ Some setup.blobs → KeepsTreeAndListCounts w between w1 → w.reads w1 ≤ w.reads between + most
      → MakesReportTextFirst w i (w.precomposes w0) w0 w1 i0 i1 root setup most
  MakesFirst-is most r reports held asks reads =
      record { between = between; text = text_of_report setup.options r; made = Texts-ok r (text_of_report setup.options r) reports held refl; asks = asks; reads = reads }

  -- and the worktree fails behind it
  pub FailsMeanwhile-behind : (most : ℕ) (r : Report) → MakesReportBySetup w f i w0 between o0 o1 i0 i1 root setup (Ok r) → f.holds o0 ≡ Some setup.blobs → KeepsTreeAndListCounts w between w1 → w.reads w1 ≤ w.reads between + most
      → CountIncreasedOrSaturated (w.faults between) (w.faults w1) → FailsWhileMakingText w i (w.precomposes w0) w0 w1 i0 i1 root setup most
  FailsMeanwhile-behind most r reports held asks reads rose =
      record { first = MakesFirst-is most r reports held asks reads; rose = let earlier = reports.worktree.faults in omega (arith, earlier, rose) }

module _ {W I : Type 0} {w : WorktreeOf W} {w0 w1 : W} {i0 : I} {places : RootAndSetupPaths} where
  -- the setup is not read
  pub InOrder-unread : (refusal : Refusal) (Then : Setup → W → Type 0) → MayComeFromReadingSetup refusal
      → w.told w1 ≡ w.told w0 → w.faults w0 ≤ w.faults w1 → w.list_faults w1 ≡ w.list_faults w0 → CountIncrementedOrSaturated (w.reads w0) (w.reads w1) → w.lists w1 ≡ w.lists w0
      → w.precomposes w1 ≡ w.precomposes w0 → AnswersBehindReadSetup w w0 w1 i0 i0 places Then (Err refusal)
  InOrder-unread refusal Then of tree faults listed once lists composes =
      inl (of, record { tree = tree; faults = faults; list_faults = listed; reads = once; lists = lists; precomposes = composes }, refl)

module _ {W I : Type 0} (w : WorktreeOf W) (w0 w1 w2 : W) (i0 i1 : I) (places : RootAndSetupPaths) where
  -- it is, and then there is a text or a refusal by it
  pub InOrder-made : (setup : Setup) (answer : Result (List ℕ) Refusal) (Then : Setup → W → Type 0) → ((t : Names) → w.told w0 ≡ Some t → setup_of_file_looked_at (look t places.setup true) ≡ Ok setup)
      → w.told w1 ≡ w.told w0 → w.faults w0 ≤ w.faults w1 → w.faults w1 ≡ w.faults w0 → w.list_faults w1 ≡ w.list_faults w0 → CountIncrementedOrSaturated (w.reads w0) (w.reads w1) → w.lists w1 ≡ w.lists w0
      → w.precomposes w1 ≡ w.precomposes w0 → Then setup w1 → AnswersBehindReadSetup w w0 w2 i0 i1 places Then answer
  InOrder-made setup answer Then read tree faults unfaulted listed once lists composes made = go answer
    where
      by_setup : HoldsBehindReadSetup w w0 places Then
      by_setup =
          record {
            setup = setup;
            read = read;
            loaded = w1;
            once = record { tree = tree; faults = faults; list_faults = listed; reads = once; lists = lists; precomposes = composes };
            unfaulted = unfaulted;
            made = made;
          }

      go : (answer : Result (List ℕ) Refusal) → AnswersBehindReadSetup w w0 w2 i0 i1 places Then answer
      go (Ok text) = by_setup
      go (Err refusal) = inr by_setup
