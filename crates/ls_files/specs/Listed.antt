-- What is listed of a work tree, and what is told of path specs.
use Rattle.std.specs.Prelude.{◌≡◌, ℕ, List, [], ◌++◌, Bool, Option, Some, option_map, Result, IfOk, IfErr, OnOk, if◌then◌else◌}
use Rattle.std.specs.Bool.{MatchBool}
use Rattle.gitbase_core.specs.declared.entry.IndexEntry.{IndexEntry}
use Rattle.gitbase_core.specs.Path.{is_empty}
use Rattle.glob_rules.specs.PathSpec.{PathSpec}
use Rattle.worktree_fs.specs.declared.interrupt.Interrupt.{Ghosts as InterruptOf}
use Rattle.worktree_fs.specs.declared.worktree.Worktree.{Ghosts as WorktreeOf}
use Rattle.worktree_fs.specs.Causes.{CountNotIncreased}
use Rattle.worktree_fs.specs.Tree.{Names}
use Rattle.dir_walk.specs.Kept.{AsksInterruptPerRaise, KeepsWorktree}
use Rattle.worktree_report.specs.declared.refusal.Refusal.{Refusal}
use Rattle.worktree_report.specs.declared.refusal.Refusal.TheVariants as refusals
use Rattle.worktree_report.specs.declared.report.Report.{Report}
use Rattle.worktree_report.specs.declared.report.ReportEntry.{ReportEntry}
use Rattle.worktree_report.specs.declared.setup.Setup.{Setup}
use Rattle.worktree_report.specs.Asked.{sources_of_tree_and_setup, report_of}
use Rattle.worktree_report.specs.Behind.{MakesReportTextFirst, RefusesTextWithCause}
use Rattle.worktree_report.specs.Orderly.{IsReportInOrder}
use Rattle.ls_files.specs.declared.listed.Listed.{Listed}
use Rattle.ls_files.specs.declared.options.Listing.{Listing}
use Rattle.ls_files.specs.declared.options.NamedSpec.{NamedSpec}
use Rattle.ls_files.specs.Alone.{filter_names_if_only_patterns, options_without_ignored_if_only_patterns}
use Rattle.ls_files.specs.Cached.{text_of_listed_index}
use Rattle.ls_files.specs.Choices.{listed_index_entries, needs_worktree_walk}
use Rattle.ls_files.specs.IgnoredDirectories.{names_of_ignored_with_directories, has_ignored_and_directories_options}
use Rattle.ls_files.specs.Killed.{sorted_killed_names, lines_of_killed_names}
use Rattle.ls_files.specs.Others.{sorted_untracked_names, lines_of_untracked_names}
use Rattle.ls_files.specs.Unmatched.{unmatched_specs_message, places_of_names_and_entries}

-- ---- by the entries of a report

-- what the index does not have: by the path specs, except where ignored directories are shown
abbrev pub untracked_or_ignored_names : Listing → Setup → List NamedSpec → List ReportEntry → List (List ℕ)
untracked_or_ignored_names l setup named found =
    if has_ignored_and_directories_options l then names_of_ignored_with_directories l setup found
    else filter_names_if_only_patterns l setup (sorted_untracked_names (options_without_ignored_if_only_patterns l) setup.index setup.specs named found)

-- the same, where it is asked for
abbrev pub untracked_or_ignored_names_if_others : Listing → Setup → List NamedSpec → List ReportEntry → List (List ℕ)
untracked_or_ignored_names_if_others l setup named found = if l.others then untracked_or_ignored_names l setup named found else []

-- what lies in its way, where that is asked for
abbrev pub killed_names_if_listed : Listing → List IndexEntry → List PathSpec → List NamedSpec → List ReportEntry → List (List ℕ)
killed_names_if_listed l entries specs named found = if l.killed then sorted_killed_names l entries specs named found else []

-- what the index does not have comes first, and then what lies in its way
abbrev pub lines_of_others_killed_and_index : Listing → List ℕ → List PathSpec → List IndexEntry → List (List ℕ) → List (List ℕ) → List ℕ
lines_of_others_killed_and_index l prefix specs entries names ways =
    lines_of_untracked_names l prefix names ++ lines_of_killed_names l prefix ways ++ text_of_listed_index l prefix specs entries

-- with `--error-unmatch` what is told of path specs that are about nothing listed; else no bytes
abbrev pub unmatched_specs_text_for_listed : Listing → List NamedSpec → List IndexEntry → List (List ℕ) → List (List ℕ) → List ℕ
unmatched_specs_text_for_listed l named entries names ways =
    if l.error_unmatch then unmatched_specs_message named (places_of_names_and_entries (listed_index_entries l entries) (names ++ ways)) else []

-- the output, and what is told of path specs: `names` are what the index does not have, `ways` what lies in its way
abbrev pub output_and_errors_of_all_listed : Listing → List ℕ → List NamedSpec → List PathSpec → List IndexEntry → List (List ℕ) → List (List ℕ) → Listed
output_and_errors_of_all_listed l prefix named specs entries names ways =
    record { out = lines_of_others_killed_and_index l prefix specs entries names ways; err = unmatched_specs_text_for_listed l named entries names ways }

-- the same by the entries of a report and the index of the setup
unfoldable pub output_and_errors_of_report_entries : Listing → List ℕ → List NamedSpec → Setup → List ReportEntry → Listed
output_and_errors_of_report_entries l prefix named setup found =
    output_and_errors_of_all_listed l prefix named setup.specs setup.index (untracked_or_ignored_names_if_others l setup named found)
    (killed_names_if_listed l setup.index setup.specs named found)

-- "--error-unmatch: .. treat this as an error (return 1)"
abbrev pub status : Listed → ℕ
status made = if is_empty made.err then 0 else 1

-- ---- over a tree

-- the same by a whole report, of which the entries alone matter
abbrev pub output_and_errors_of_report : Listing → List ℕ → List NamedSpec → Setup → Report → Listed
output_and_errors_of_report l prefix named setup report = output_and_errors_of_report_entries l prefix named setup report.entries

-- what is listed of the work tree at `root` in a tree: by the report that the setup asks for
abbrev pub output_and_errors_of_worktree : Bool → Names → List ℕ → Setup → Listing → List ℕ → List NamedSpec → Option Listed
output_and_errors_of_worktree composes t root setup l prefix named =
    option_map (output_and_errors_of_report l prefix named setup) (report_of composes (sources_of_tree_and_setup t setup) root setup)

-- Whatever a worktree tells, it is what is listed by some report of the work tree at `root` that is in order.
pub record IsListedBySomeReport (composes : Bool) (told : Option Names) (root : List ℕ) (setup : Setup) (l : Listing) (prefix : List ℕ) (named : List NamedSpec) (made : Listed) : Type 0 where
  pub report : Report
  pub orderly : IsReportInOrder composes told root setup report
  pub is : made ≡ output_and_errors_of_report l prefix named setup report

-- What is listed by a report that is made for it, or why nothing is, where a worktree was `w0` and is `w1`, and an interrupt was `i0` and
-- is `i1`. `composes` says whether the worktree composes names.
pub record ListsByWalkReport {W I : Type 0} (w : WorktreeOf W) (i : InterruptOf I) (composes : Bool) (w0 w1 : W) (i0 i1 : I) (root : List ℕ) (setup : Setup)
    (l : Listing) (prefix : List ℕ) (named : List NamedSpec) (answer : Result Listed Refusal) : Type 0 where
  -- Over a told tree it is exactly what is to be listed.
  pub gives : (t : Names) → w.told w0 ≡ Some t → IfOk answer (λ made. output_and_errors_of_worktree composes t root setup l prefix named ≡ Some made)
  pub by_report : IfOk answer (IsListedBySomeReport composes (w.told w0) root setup l prefix named)
  -- no fault was counted, one that the walk swallows among them
  pub unfaulted : OnOk answer (CountNotIncreased (w.faults w0) (w.faults w1))
  -- one report was made, and behind it nothing was asked
  pub made : OnOk answer (MakesReportTextFirst w i composes w0 w1 i0 i1 root setup 0)
  pub refused : IfErr answer (RefusesTextWithCause w i composes w0 w1 i0 i1 root setup 0)
  pub worktree : KeepsWorktree w w0 w1
  pub interrupt : AsksInterruptPerRaise i i0 i1
  pub listed : OnOk answer (w.list_faults w1 ≡ w.list_faults w0)
  pub calm : OnOk answer (i.raised i1 ≡ i.raised i0)

-- What is listed of the index alone, or the want of memory for it; nothing was asked.
pub record ListsIndexOnly {W I : Type 0} (w0 w1 : W) (i0 i1 : I) (setup : Setup) (l : Listing) (prefix : List ℕ) (named : List NamedSpec) (answer : Result Listed Refusal) : Type 0 where
  pub gives : IfOk answer (λ made. made ≡ output_and_errors_of_report_entries l prefix named setup [])
  pub refused : IfErr answer (λ e. e ≡ refusals.OutOfMemory)
  pub worktree : w1 ≡ w0
  pub interrupt : i1 ≡ i0

-- a report is made where what stands in the work tree is asked for, and there alone
abbrev pub ListsFilesOfWorktree : {W I : Type 0} → WorktreeOf W → InterruptOf I → Bool → W → W → I → I → List ℕ → Setup → Listing → List ℕ → List NamedSpec → Result Listed Refusal → Type 0
ListsFilesOfWorktree w i composes w0 w1 i0 i1 root setup l prefix named answer =
    MatchBool (needs_worktree_walk l) (ListsByWalkReport w i composes w0 w1 i0 i1 root setup l prefix named answer) (ListsIndexOnly w0 w1 i0 i1 setup l prefix named answer)
