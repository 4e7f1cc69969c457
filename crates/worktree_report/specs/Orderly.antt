-- What holds of a report and of its text over any worktree, whatever failed.
use Rattle.std.specs.Prelude.{◌≡◌, ◌≤◌, ◌-◌, ◌^◌, min, ℕ, Bool, List, [], map, length, false, Option, Some, None, Ok, is_some, true}
use Rattle.std.specs.List.{AllByRecursion}
use Rattle.worktree_fs.specs.Paths.{root_joined_with_relative}
use Rattle.worktree_fs.specs.Tree.{Names}
use Rattle.dir_walk.specs.Distinct.{IsStrictlyAscendingByPath}
use Rattle.dir_walk.specs.Puts.{count_hidden_emissions}
use Rattle.dir_walk.specs.Rooting.{IsNormalizedRoot}
use Rattle.dir_walk.specs.Walks.{AddsPathsFromRootOnce}
use Rattle.worktree_report.specs.declared.known.Known.{Known}
use Rattle.worktree_report.specs.declared.report.Report.{Report}
use Rattle.worktree_report.specs.declared.report.ReportEntry.{ReportEntry}
use Rattle.worktree_report.specs.declared.setup.Setup.{Setup}
use Rattle.worktree_report.specs.Asked.{walk_setting_of_setup, walk_options_of_setup}
use Rattle.worktree_report.specs.Lines.{text_of_report}
use Rattle.worktree_report.specs.Loading.{known_submodules_in_tree}
use Rattle.worktree_report.specs.Submodules.{emission_of_report_entry, submodule_facts_if_known}

-- The entries ascend strictly by path, so that none stands twice, and are none that the options hide; `returned_entries` is their
-- number, of no more than were seen. Their paths are at or
-- beneath a traversal root that was asked for and that the report names, or there is one at most, on the way to it. With each
-- stands the submodule at its path by what is known of submodules: over a told tree what the tree tells, and nothing where
-- the setup does not ask for submodules.
pub record IsReportInOrder (composes : Bool) (told : Option Names) (root : List ℕ) (setup : Setup) (r : Report) : Type 0 where
  pub ascends : IsStrictlyAscendingByPath (map emission_of_report_entry r.entries)
  pub filtered : count_hidden_emissions (walk_options_of_setup composes setup) (map emission_of_report_entry r.entries) ≡ 0
  pub counted : r.outcome.returned_entries ≡ min (length r.entries) (2 ^ 64 - 1)
  pub seen : min r.outcome.returned_entries (2 ^ 32 - 1) ≤ r.outcome.seen_entries
  pub start : List ℕ
  pub asked : IsNormalizedRoot (walk_setting_of_setup composes root setup) setup.root start
  pub named : r.root ≡ root_joined_with_relative root start
  pub once : AddsPathsFromRootOnce start (Some []) (Some (map emission_of_report_entry r.entries))
  pub known : Option Known
  pub known_is : (t : Names) → told ≡ Some t → known_submodules_in_tree t root setup ≡ Ok known
  pub asked_for : setup.options.submodules ≡ true → is_some known ≡ true
  pub unasked : setup.options.submodules ≡ false → known ≡ None
  pub facts : AllByRecursion (λ (entry : ReportEntry). entry.facts ≡ submodule_facts_if_known known entry.entry.rela_path) r.entries

-- this is the text of such a report
pub record IsTextOfReportInOrder (composes : Bool) (told : Option Names) (root : List ℕ) (setup : Setup) (text : List ℕ) : Type 0 where
  pub made : Report
  pub orderly : IsReportInOrder composes told root setup made
  pub text_is : text ≡ text_of_report setup.options made
