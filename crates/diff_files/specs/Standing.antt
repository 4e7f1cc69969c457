-- How what stands at the path of an entry is, as `git ls-files -d` and `-m` ask: git-ls-files(1).
--
-- Otherwise than `git diff-files`, they look at what stands behind a link, heed no configuration of submodules, and compare bytes
-- wherever neither the mode nor the size tells.
use Rattle.std.specs.Prelude.{ℕ, ◌%◌, ◌^◌, List, Bool, not, ◌&&◌, ◌||◌, ◌==◌, Option, Some, None, Result, if◌then◌else◌}
use Rattle.gitbase_core.specs.Entry.{mode_bits, assume_valid_flag}
use Rattle.gitbase_core.specs.Kinds.{entry_has_flag}
use Rattle.gitbase_core.specs.Path.{path_joined_with_slash}
use Rattle.gitbase_core.specs.declared.entry.IndexEntry.{IndexEntry}
use Rattle.git_index.specs.declared.stat.Detail.{Detail}
use Rattle.diff_files.specs.declared.change.PathChange.{PathChange}
use Rattle.diff_files.specs.declared.change.PathChange.TheVariants as changes
use Rattle.diff_files.specs.declared.comparison.Comparison.{Comparison}
use Rattle.diff_files.specs.declared.error.Unsupported.{Unsupported}
use Rattle.diff_files.specs.declared.error.Unsupported.TheVariants as forms
use Rattle.diff_files.specs.declared.judged.Judged.{Judged}
use Rattle.diff_files.specs.declared.judged.Judged.TheVariants as judge
use Rattle.diff_files.specs.declared.stats.node_stat.NodeStat.{NodeStat}
use Rattle.diff_files.specs.Fields.{differs_from_entry_mode, is_changed_by_mode_or_stat, is_racy}
use Rattle.diff_files.specs.KeptStats.{TreeAndStats}
use Rattle.diff_files.specs.Modes.{is_directory_mode}
use Rattle.diff_files.specs.States.{addition_of_node, change_to_differing_node, is_skipped_unless_present_in_sparse, has_submodule_file_type, judge_racy_node, resolve_judged_change}
use Rattle.diff_files.specs.Stats.{StatsByPath}
use Rattle.diff_files.specs.There.{has_node_named_dot_git}

-- another size is kept; one of 0 tells nothing, since git keeps it also of what it did not look at
abbrev pub has_other_nonzero_size : Detail → NodeStat → Bool
has_other_nonzero_size d at = not (d.stat.size == 0) && not (d.stat.size == at.size % 2 ^ 32)

-- the mode or the size tells that it is another
abbrev pub differs_in_mode_or_size : Comparison → IndexEntry → Detail → NodeStat → Bool
differs_in_mode_or_size o e d at = differs_from_entry_mode o (mode_bits e.mode) at.mode || has_other_nonzero_size d at

-- a field differs, or it may have changed unseen
abbrev pub needs_byte_comparison : Comparison → IndexEntry → Detail → NodeStat → Bool
needs_byte_comparison o e d at = is_changed_by_mode_or_stat o e d at || is_racy o d

-- how a file differs from its entry, by the stat fields and where they leave it open by its bytes
abbrev pub judge_file_for_ls_files : StatsByPath → Comparison → List ℕ → IndexEntry → Detail → NodeStat → Judged
judge_file_for_ls_files told o full e d at =
    if differs_in_mode_or_size o e d at then judge.Known (change_to_differing_node o e at)
    else if needs_byte_comparison o e d at then judge_racy_node told o full e at
    else judge.Known changes.Same

-- of a submodule a directory stands there, in which no repository may be: its state would have to be asked
abbrev pub judge_submodule_for_ls_files : StatsByPath → Comparison → List ℕ → IndexEntry → NodeStat → Judged
judge_submodule_for_ls_files told o full e at =
    if not (is_directory_mode at.mode) then judge.Known (change_to_differing_node o e at)
    else if has_node_named_dot_git told full then judge.Refused forms.Repository
    else judge.Known changes.Same

-- a path that is to be added later is not in the index, so what stands there is new
unfoldable pub judge_node_for_ls_files : StatsByPath → Comparison → List ℕ → IndexEntry → Detail → NodeStat → Judged
judge_node_for_ls_files told o full e d at =
    if d.intent_to_add then judge.Known (addition_of_node o e at)
    else if has_submodule_file_type e then judge_submodule_for_ls_files told o full e at
    else judge_file_for_ls_files told o full e d at

-- what is assumed to be unchanged is, if it is there
unfoldable pub judge_stat_for_ls_files : StatsByPath → Comparison → List ℕ → IndexEntry → Detail → Option NodeStat → Judged
judge_stat_for_ls_files told o full e d None = judge.Known changes.Deleted
judge_stat_for_ls_files told o full e d (Some at) =
    if entry_has_flag assume_valid_flag e then judge.Known changes.Same else judge_node_for_ls_files told o full e d at

-- how what stands at a path differs from the entry
abbrev pub judge_path_for_ls_files : StatsByPath → Comparison → List ℕ → IndexEntry → Detail → Judged
judge_path_for_ls_files told o full e d = judge_stat_for_ls_files told o full e d (told.stat_at full)

-- how what stands there differs from its entry, or the form that is not answered
abbrev pub change_for_ls_files_modified : TreeAndStats → List ℕ → Comparison → IndexEntry → Detail → Result PathChange Unsupported
change_for_ls_files_modified s root o e d = resolve_judged_change s.tree (path_joined_with_slash root e.path) e.id (judge_path_for_ls_files s.stats o (path_joined_with_slash root e.path) e d)

-- whether anything stands there
abbrev pub deleted_unless_present : Option NodeStat → PathChange
deleted_unless_present None = changes.Deleted
deleted_unless_present (Some at) = changes.Same

-- whether anything stands at the path of an entry below a root
abbrev pub change_for_ls_files_deleted : StatsByPath → List ℕ → IndexEntry → PathChange
change_for_ls_files_deleted told root e = deleted_unless_present (told.stat_at (path_joined_with_slash root e.path))

-- the entry is passed over, by what stands at its path below a root
abbrev pub is_effectively_skipped_below_root : StatsByPath → List ℕ → Comparison → IndexEntry → Bool
is_effectively_skipped_below_root told root o e = is_skipped_unless_present_in_sparse told o (path_joined_with_slash root e.path) e
