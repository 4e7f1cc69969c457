-- What a report says of submodules.
use Rattle.std.specs.Prelude.{ℕ, List, map, Bool, true, false, Option, Some, None, option_map, Result, Ok, Err}
use Rattle.git_config_lite.specs.Sections.{Section}
use Rattle.glob_rules.specs.PathSpec.{PathSpec}
use Rattle.submodule.specs.Access.{name_by_path}
use Rattle.submodule.specs.Active.{is_active}
use Rattle.dir_classify.specs.declared.entry.Entry.{Entry}
use Rattle.dir_classify.specs.declared.entry.Status.{Status}
use Rattle.dir_walk.specs.declared.report.Report.{Report as WalkReport}
use Rattle.dir_walk.specs.Emissions.{Emission}
use Rattle.worktree_report.specs.declared.facts.Activity.{Activity}
use Rattle.worktree_report.specs.declared.facts.Activity.TheVariants.{Active, Inactive, Invalid}
use Rattle.worktree_report.specs.declared.facts.Facts.{Facts}
use Rattle.worktree_report.specs.declared.known.Known.{Known}
use Rattle.worktree_report.specs.declared.modules.Modules.{Modules}
use Rattle.worktree_report.specs.declared.report.Report.{Report}
use Rattle.worktree_report.specs.declared.report.ReportEntry.{ReportEntry}

-- active or not, or the text that should say so and is no boolean
abbrev pub activity_of_answer : Result Bool (List ℕ) → Activity
activity_of_answer (Ok true) = Active
activity_of_answer (Ok false) = Inactive
activity_of_answer (Err text) = Invalid text

-- a submodule, and whether it is active by the specs and the values of a configuration
abbrev pub facts_of_submodule_name : Option (List PathSpec) → List Section → List ℕ → Facts
facts_of_submodule_name specs config name = record { name = name; active = activity_of_answer (is_active specs config name) }

-- The submodule at a path: the first that `.gitmodules` names whose path, one that may be given, is this.
abbrev pub facts_of_submodule_at_path : Option (List PathSpec) → Modules → List ℕ → Option Facts
facts_of_submodule_at_path specs modules path = option_map (facts_of_submodule_name specs modules.config.sections) (name_by_path path modules.file.sections)

-- the same, where it is known; else no path is that of a submodule
abbrev pub submodule_facts_if_known : Option Known → List ℕ → Option Facts
submodule_facts_if_known None path = None
submodule_facts_if_known (Some known) path = facts_of_submodule_at_path known.platform known.modules path

-- an entry of a report, of its parts
abbrev pub report_entry_of_parts : Entry → Option Status → Option Facts → ReportEntry
report_entry_of_parts entry collapsed facts = record { entry = entry; collapsed = collapsed; facts = facts }

-- an entry of a walk, with the submodule at its path
abbrev pub report_entry_with_submodule : Option Known → Emission → ReportEntry
report_entry_with_submodule known emission = report_entry_of_parts emission.0 emission.1 (submodule_facts_if_known known emission.0.rela_path)

-- such an entry without what is said of submodules
abbrev pub emission_of_report_entry : ReportEntry → Emission
emission_of_report_entry entry = (entry.entry, entry.collapsed)

-- what a walk gave, with the submodules
abbrev pub report_with_submodules : Option Known → WalkReport → Report
report_with_submodules known walked = record { entries = map (report_entry_with_submodule known) walked.entries; outcome = walked.outcome; root = walked.root }
