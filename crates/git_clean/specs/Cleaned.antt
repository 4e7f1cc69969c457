-- What would go of a work tree.
use Rattle.std.specs.Prelude.{◌≡◌, ℕ, List, Bool, Option, Some, option_map, Result, IfOk, IfErr, OnOk}
use Rattle.worktree_fs.specs.declared.interrupt.Interrupt.{Ghosts as InterruptOf}
use Rattle.worktree_fs.specs.declared.worktree.Worktree.{Ghosts as WorktreeOf}
use Rattle.worktree_fs.specs.Causes.{CountNotIncreased}
use Rattle.worktree_fs.specs.Tree.{Names}
use Rattle.dir_walk.specs.Kept.{AsksInterruptPerRaise, KeepsWorktree}
use Rattle.worktree_report.specs.declared.refusal.Refusal.{Refusal}
use Rattle.worktree_report.specs.declared.report.Report.{Report}
use Rattle.worktree_report.specs.declared.report.ReportEntry.{ReportEntry}
use Rattle.worktree_report.specs.declared.setup.Setup.{Setup}
use Rattle.worktree_report.specs.Asked.{sources_of_tree_and_setup, report_of}
use Rattle.worktree_report.specs.Behind.{MakesReportTextFirst, RefusesTextWithCause}
use Rattle.worktree_report.specs.Orderly.{IsReportInOrder}
use Rattle.ls_files.specs.declared.options.NamedSpec.{NamedSpec}
use Rattle.git_clean.specs.declared.options.Cleaning.{Cleaning}
use Rattle.git_clean.specs.Lines.{text}
use Rattle.git_clean.specs.Ruled.{entries_ignored_by_sole_patterns}
use Rattle.git_clean.specs.Scenes.{scene_of_setup_and_entries}

-- ---- by the entries of a report

-- what `git clean -n` prints, where the patterns of `-e` have had their say about the entries
unfoldable pub dry_run_text_of_ruled_entries : Cleaning → List ℕ → List NamedSpec → Setup → List ReportEntry → List ℕ
dry_run_text_of_ruled_entries c prefix named setup found = text (scene_of_setup_and_entries c prefix named setup found)

-- with `-x` the patterns of `-e` are the only rules
unfoldable pub dry_run_text_of_entries : Cleaning → List ℕ → List NamedSpec → Setup → List ReportEntry → List ℕ
dry_run_text_of_entries c prefix named setup found = dry_run_text_of_ruled_entries c prefix named setup (entries_ignored_by_sole_patterns c setup found)

-- ---- over a tree

-- what `git clean -n` prints by a report: of this the entries alone count
abbrev pub dry_run_text_of_report : Cleaning → List ℕ → List NamedSpec → Setup → Report → List ℕ
dry_run_text_of_report c prefix named setup report = dry_run_text_of_entries c prefix named setup report.entries

-- what would go of the work tree at `root` in a tree: by the report that the setup asks for
abbrev pub dry_run_text_over_tree : Bool → Names → List ℕ → Setup → Cleaning → List ℕ → List NamedSpec → Option (List ℕ)
dry_run_text_over_tree composes t root setup c prefix named =
    option_map (dry_run_text_of_report c prefix named setup) (report_of composes (sources_of_tree_and_setup t setup) root setup)

-- Whatever a worktree tells, it is what would go by some report of the work tree at `root` that is in order.
pub record IsDryRunTextBySomeReport (composes : Bool) (told : Option Names) (root : List ℕ) (setup : Setup) (c : Cleaning) (prefix : List ℕ) (named : List NamedSpec) (made : List ℕ) : Type 0 where
  pub report : Report
  pub orderly : IsReportInOrder composes told root setup report
  pub is : made ≡ dry_run_text_of_report c prefix named setup report

-- What is told of a cleaning, or why nothing is, where a worktree was `w0` and is `w1`, and an interrupt was `i0` and is `i1`. `composes`
-- says whether the worktree composes names.
pub record AnswersCleanDryRun {W I : Type 0} (w : WorktreeOf W) (i : InterruptOf I) (composes : Bool) (w0 w1 : W) (i0 i1 : I) (root : List ℕ) (setup : Setup)
    (c : Cleaning) (prefix : List ℕ) (named : List NamedSpec) (answer : Result (List ℕ) Refusal) : Type 0 where
  -- Over a told tree it is exactly what would go.
  pub gives : (t : Names) → w.told w0 ≡ Some t → IfOk answer (λ made. dry_run_text_over_tree composes t root setup c prefix named ≡ Some made)
  pub by_report : IfOk answer (IsDryRunTextBySomeReport composes (w.told w0) root setup c prefix named)
  -- no fault was counted, one that the walk swallows among them
  pub unfaulted : OnOk answer (CountNotIncreased (w.faults w0) (w.faults w1))
  -- one report was made, and behind it nothing was asked
  pub made : OnOk answer (MakesReportTextFirst w i composes w0 w1 i0 i1 root setup 0)
  pub refused : IfErr answer (RefusesTextWithCause w i composes w0 w1 i0 i1 root setup 0)
  pub worktree : KeepsWorktree w w0 w1
  pub interrupt : AsksInterruptPerRaise i i0 i1
  pub listed : OnOk answer (w.list_faults w1 ≡ w.list_faults w0)
  pub calm : OnOk answer (i.raised i1 ≡ i.raised i0)
