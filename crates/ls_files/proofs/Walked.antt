-- What is listed by a report that is made for it.
use Rattle.std.proofs.Common.{◌≡◌, ℕ, List, inl, inr, Some, option_map, Ok, Err, ap, refl, sym, ◌∙◌, arith}
use Rattle.gitbase_core.specs.declared.find.Find.{Ghosts as FindOf}
use Rattle.worktree_fs.specs.declared.interrupt.Interrupt.{Ghosts as InterruptOf}
use Rattle.worktree_fs.specs.declared.worktree.Worktree.{Ghosts as WorktreeOf}
use Rattle.worktree_fs.specs.Causes.{CountIncreasedOrSaturated, CountNotIncreased}
use Rattle.worktree_fs.specs.Kept.{KeepsTreeAndListCounts}
use Rattle.worktree_report.specs.declared.error.ReportError.{ReportError}
use Rattle.worktree_report.specs.declared.refusal.Refusal.{Refusal}
use Rattle.worktree_report.specs.declared.refusal.Refusal.TheVariants as refusals
use Rattle.worktree_report.specs.declared.report.Report.{Report}
use Rattle.worktree_report.specs.declared.report.ReportEntry.{ReportEntry}
use Rattle.worktree_report.specs.declared.setup.Setup.{Setup}
use Rattle.worktree_report.specs.Asked.{sources_of_tree_and_setup}
use Rattle.worktree_report.specs.Behind.{MakesReportTextFirst}
use Rattle.worktree_report.specs.Converted as converted
use Rattle.worktree_report.specs.Reported.{MakesReportBySetup}
use Rattle.worktree_report.proofs.Answered.{told-blobs, Texts-refused}
use Rattle.worktree_report.proofs.Refusing.{MakesFirst-is}
use Rattle.worktree_report.proofs.ReportMade.{report_is}
use Rattle.ls_files.specs.declared.listed.Listed.{Listed}
use Rattle.ls_files.specs.declared.options.Listing.{Listing}
use Rattle.ls_files.specs.declared.options.NamedSpec.{NamedSpec}
use Rattle.ls_files.specs.Listed as words

asks-none : {W : Type 0} (w : WorktreeOf W) (x : W) → KeepsTreeAndListCounts w x x
asks-none w x = record { tree = refl; faults = omega arith; list_faults = refl; reads = omega arith; lists = refl; precomposes = refl }

module _ {W F I : Type 0} {w : WorktreeOf W} {f : FindOf F} {i : InterruptOf I} {w0 w1 : W} {o0 o1 : F} {i0 i1 : I} {root : List ℕ} {setup : Setup} where
  -- the report comes first, and nothing behind it
  first : (r : Report) → MakesReportBySetup w f i w0 w1 o0 o1 i0 i1 root setup (Ok r) → f.holds o0 ≡ Some setup.blobs → MakesReportTextFirst w i (w.precomposes w0) w0 w1 i0 i1 root setup 0
  first r made held = MakesFirst-is 0 r made held (asks-none w w1) (omega arith)

module _ {W F I : Type 0} {w : WorktreeOf W} {f : FindOf F} {i : InterruptOf I} {w0 w1 : W} {o0 o1 : F} {i0 i1 : I} {root : List ℕ} {setup : Setup} {l : Listing} {prefix : List ℕ} {named : List NamedSpec} where
  -- what is listed, where nothing failed
  pub ListsWalked-ok : (r : Report) (found : List ReportEntry) (out : Listed) → MakesReportBySetup w f i w0 w1 o0 o1 i0 i1 root setup (Ok r) → f.holds o0 ≡ Some setup.blobs
      → found ≡ r.entries → out ≡ words.output_and_errors_of_report_entries l prefix named setup found → CountNotIncreased (w.faults w0) (w.faults w1)
      → words.ListsByWalkReport w i (w.precomposes w0) w0 w1 i0 i1 root setup l prefix named (Ok out)
  ListsWalked-ok r found out made held same found_is quiet =
      let is : out ≡ words.output_and_errors_of_report l prefix named setup r = found_is ∙ ap (words.output_and_errors_of_report_entries l prefix named setup) same in
      record {
        gives = λ t told.
            ap (option_map (words.output_and_errors_of_report l prefix named setup)) (report_is (made.gives (sources_of_tree_and_setup t setup) (told-blobs setup held told) quiet))
            ∙ ap (λ (x : Listed). Some x) (sym is);
        by_report = record { report = r; orderly = made.orderly; is = is };
        unfaulted = quiet;
        made = first r made held;
        refused = tt;
        worktree = made.worktree;
        interrupt = made.interrupt;
        listed = made.listed;
        calm = made.calm;
      }

  -- there is a report, and the worktree failed while it was made
  pub ListsWalked-failed : (r : Report) → MakesReportBySetup w f i w0 w1 o0 o1 i0 i1 root setup (Ok r) → f.holds o0 ≡ Some setup.blobs → CountIncreasedOrSaturated (w.faults w0) (w.faults w1)
      → words.ListsByWalkReport w i (w.precomposes w0) w0 w1 i0 i1 root setup l prefix named (Err refusals.Fault)
  ListsWalked-failed r made held rose =
      record {
        gives = λ t told. tt;
        by_report = tt;
        unfaulted = tt;
        made = tt;
        refused = inr (inl (refl, record { first = first r made held; rose = rose }));
        worktree = made.worktree;
        interrupt = made.interrupt;
        listed = tt;
        calm = tt;
      }

  -- the refusal that stands for that of a report
  pub ListsWalked-refused : (e : ReportError) (refusal : Refusal) → MakesReportBySetup w f i w0 w1 o0 o1 i0 i1 root setup (Err e) → f.holds o0 ≡ Some setup.blobs
      → CountNotIncreased (f.faults o0) (f.faults o1) → refusal ≡ converted.refusal_of_report_error e
      → words.ListsByWalkReport w i (w.precomposes w0) w0 w1 i0 i1 root setup l prefix named (Err refusal)
  ListsWalked-refused e refusal made held kept same =
      record {
        gives = λ t told. tt;
        by_report = tt;
        unfaulted = tt;
        made = tt;
        refused = inr (inr (Texts-refused e refusal made held kept same));
        worktree = made.worktree;
        interrupt = made.interrupt;
        listed = tt;
        calm = tt;
      }
