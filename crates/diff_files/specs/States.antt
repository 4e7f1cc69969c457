-- How the path of an entry changed: git-diff-files(1), by what is told of the nodes.
use Rattle.std.specs.Prelude.{ℕ, List, Bool, true, false, not, ◌&&◌, ◌||◌, ◌==◌, bytes_eq, Option, Some, None, is_some, Result, Ok, Err, if◌then◌else◌}
use Rattle.gitbase_core.specs.Entry.{mode_bits, assume_valid_flag, skip_worktree_flag}
use Rattle.gitbase_core.specs.Kinds.{entry_has_flag}
use Rattle.gitbase_core.specs.Path.{path_joined_with_slash}
use Rattle.gitbase_core.specs.declared.entry.IndexEntry.{IndexEntry}
use Rattle.git_index.specs.declared.stat.Detail.{Detail}
use Rattle.git_index.specs.Blobs.{blob_id}
use Rattle.worktree_fs.specs.Tree.{Names, LookupResult, absent, directory, file, found, link, look, other, too_many_links}
use Rattle.diff_files.specs.declared.change.PathChange.{PathChange}
use Rattle.diff_files.specs.declared.change.PathChange.TheVariants as changes
use Rattle.diff_files.specs.declared.comparison.Comparison.{Comparison}
use Rattle.diff_files.specs.declared.comparison.Submodules.{Submodules}
use Rattle.diff_files.specs.declared.comparison.Submodules.TheVariants as subs
use Rattle.diff_files.specs.declared.error.Unsupported.{Unsupported}
use Rattle.diff_files.specs.declared.error.Unsupported.TheVariants as forms
use Rattle.diff_files.specs.declared.judged.Judged.{Judged}
use Rattle.diff_files.specs.declared.judged.Judged.TheVariants as judge
use Rattle.diff_files.specs.declared.stats.node_stat.NodeStat.{NodeStat}
use Rattle.diff_files.specs.Fields.{is_changed_by_mode_or_stat, is_racy}
use Rattle.diff_files.specs.Modes.{is_directory_mode, is_symlink_mode, is_submodule_mode, file_type_bits, git_mode_of_node_in_place_of}
use Rattle.diff_files.specs.Stats.{StatsByPath}
use Rattle.diff_files.specs.There.{has_node_named_dot_git, stat_unless_behind_link}

-- ---- what stands there

-- the entry of a submodule
abbrev pub has_submodule_file_type : IndexEntry → Bool
has_submodule_file_type e = is_submodule_mode (mode_bits e.mode)

-- the mode that git has for a node in the place of an entry
abbrev pub git_mode_in_place_of_entry : Comparison → IndexEntry → NodeStat → ℕ
git_mode_in_place_of_entry o e at = git_mode_of_node_in_place_of o (mode_bits e.mode) at.mode

-- another kind of mode is a change of the type
abbrev pub modified_or_type_changed : ℕ → ℕ → PathChange
modified_or_type_changed old new = if file_type_bits old == file_type_bits new then changes.Modified new else changes.TypeChanged new

-- how a path changed whose node is not as its entry has it
abbrev pub change_to_differing_node : Comparison → IndexEntry → NodeStat → PathChange
change_to_differing_node o e at = modified_or_type_changed (mode_bits e.mode) (git_mode_in_place_of_entry o e at)

-- how a path changed at which an addition is to come
abbrev pub addition_of_node : Comparison → IndexEntry → NodeStat → PathChange
addition_of_node o e at = changes.Added (git_mode_in_place_of_entry o e at)

-- ---- by the stat fields

-- a directory is what a submodule has that is not checked out, and in the place of anything else it is nothing
abbrev pub change_to_directory : Comparison → IndexEntry → Detail → NodeStat → PathChange
change_to_directory o e d at =
    if not (has_submodule_file_type e) then changes.Deleted
    else if d.intent_to_add then addition_of_node o e at
    else changes.Same

-- in a directory no repository may stand: its state would have to be asked
abbrev pub judge_directory_at_entry : StatsByPath → Comparison → List ℕ → IndexEntry → Detail → NodeStat → Judged
judge_directory_at_entry told o full e d at =
    if has_node_named_dot_git told full then judge.Refused forms.Repository else judge.Known (change_to_directory o e d at)

-- a link leads where the blob of an entry says
abbrev pub has_target_with_blob_id : List ℕ → Option (List ℕ) → Bool
has_target_with_blob_id id None = false
has_target_with_blob_id id (Some target) = bytes_eq (blob_id target) id

-- how a link differs from its entry: by its target
abbrev pub judge_link_by_target : StatsByPath → Comparison → List ℕ → IndexEntry → NodeStat → Judged
judge_link_by_target told o full e at =
    if has_target_with_blob_id e.id (told.target_at full) then judge.Known changes.Same else judge.Known (change_to_differing_node o e at)

-- where a file may have changed unseen its bytes are compared, and of a link where it leads
unfoldable pub judge_racy_node : StatsByPath → Comparison → List ℕ → IndexEntry → NodeStat → Judged
judge_racy_node told o full e at =
    if is_symlink_mode at.mode then judge_link_by_target told o full e at
    else if o.converts then judge.Refused forms.Conversion
    else judge.ByBytes (change_to_differing_node o e at)

-- any difference of the fields is a change, also where the bytes are the same; of a submodule there is no directory
abbrev pub is_submodule_or_has_changed_fields : Comparison → IndexEntry → Detail → NodeStat → Bool
is_submodule_or_has_changed_fields o e d at = has_submodule_file_type e || is_changed_by_mode_or_stat o e d at

-- what is no directory; a path that is to be added later is not in the index, so what stands there is new
abbrev pub judge_non_directory : StatsByPath → Comparison → List ℕ → IndexEntry → Detail → NodeStat → Judged
judge_non_directory told o full e d at =
    if d.intent_to_add then judge.Known (addition_of_node o e at)
    else if is_submodule_or_has_changed_fields o e d at then judge.Known (change_to_differing_node o e at)
    else if is_racy o d then judge_racy_node told o full e at
    else judge.Known changes.Same

-- how a node differs from the entry; where there is none, the path is deleted
unfoldable pub judge_entry_by_stat : StatsByPath → Comparison → List ℕ → IndexEntry → Detail → Option NodeStat → Judged
judge_entry_by_stat told o full e d None = judge.Known changes.Deleted
judge_entry_by_stat told o full e d (Some at) = if is_directory_mode at.mode then judge_directory_at_entry told o full e d at else judge_non_directory told o full e d at

-- ---- of an entry

-- a skipped entry is not looked at; in a sparse checkout git takes the mark from one whose path is there
abbrev pub is_skipped_unless_present_in_sparse : StatsByPath → Comparison → List ℕ → IndexEntry → Bool
is_skipped_unless_present_in_sparse told o full e = entry_has_flag skip_worktree_flag e && not (o.sparse_checkout && is_some (told.stat_at full))

-- nor is one that is to be taken as unchanged
abbrev pub is_assumed_valid_or_skipped : StatsByPath → Comparison → List ℕ → IndexEntry → Bool
is_assumed_valid_or_skipped told o full e = entry_has_flag assume_valid_flag e || is_skipped_unless_present_in_sparse told o full e

-- changes of submodules are told
abbrev pub are_submodules_reported : Submodules → Bool
are_submodules_reported subs.Told = true
are_submodules_reported subs.MayBeLeftOut = false
are_submodules_reported subs.LeftOut = false

-- submodules are left out
abbrev pub are_submodules_left_out : Submodules → Bool
are_submodules_left_out subs.Told = false
are_submodules_left_out subs.MayBeLeftOut = false
are_submodules_left_out subs.LeftOut = true

-- submodules are left out: "Using "all" hides all changes to submodules"
abbrev pub is_left_out_submodule : Comparison → IndexEntry → Bool
is_left_out_submodule o e = has_submodule_file_type e && are_submodules_left_out o.submodules

-- what is new where a submodule is to be added later and none stands
abbrev pub addition_in_place_of_submodule : Comparison → IndexEntry → Option NodeStat → PathChange
addition_in_place_of_submodule o e None = changes.Same
addition_in_place_of_submodule o e (Some at) = if is_directory_mode at.mode then changes.Same else addition_of_node o e at

-- of a submodule that is left out nothing is told, but for what is new in the place of one
unfoldable pub ignored : StatsByPath → Comparison → List ℕ → IndexEntry → Detail → Judged
ignored told o root e d = if d.intent_to_add then judge.Known (addition_in_place_of_submodule o e (stat_unless_behind_link told root e.path)) else judge.Known changes.Same

-- a submodule that the configuration may leave out
abbrev pub is_submodule_maybe_left_out : Comparison → IndexEntry → Bool
is_submodule_maybe_left_out o e = has_submodule_file_type e && not (are_submodules_reported o.submodules)

-- how an entry is judged: left out, ignored, or compared
unfoldable pub judge_compared_entry : StatsByPath → Comparison → List ℕ → IndexEntry → Detail → Judged
judge_compared_entry told o root e d =
    if is_assumed_valid_or_skipped told o (path_joined_with_slash root e.path) e then judge.Known changes.Same
    else if is_left_out_submodule o e then ignored told o root e d
    else if is_submodule_maybe_left_out o e then judge.Refused forms.IgnoredSubmodule
    else judge_entry_by_stat told o (path_joined_with_slash root e.path) e d (stat_unless_behind_link told root e.path)

-- an entry of a path that is merged
abbrev pub is_merged : IndexEntry → Bool
is_merged e = e.stage == 0

-- "-2 / --ours": of a path that is not merged the second stage is compared, where there is one
abbrev pub is_merged_or_ours_entry : IndexEntry → Bool
is_merged_or_ours_entry e = is_merged e || e.stage == 2

-- an entry against what stands at its path
abbrev pub judge_merged_or_ours_entry : StatsByPath → Comparison → List ℕ → IndexEntry → Detail → Judged
judge_merged_or_ours_entry told o root e d = if is_merged_or_ours_entry e then judge_compared_entry told o root e d else judge.Known changes.Same

-- the mode of what stands at a path that is not merged; 0 where nothing does, and for a directory in the place of anything but a submodule
unfoldable pub judge_unmerged_at_node : StatsByPath → Comparison → List ℕ → IndexEntry → NodeStat → Judged
judge_unmerged_at_node told o full e at =
    if not (is_directory_mode at.mode) || has_submodule_file_type e then judge.Known (changes.Unmerged (git_mode_in_place_of_entry o e at))
    else if has_node_named_dot_git told full then judge.Refused forms.Repository
    else judge.Known (changes.Unmerged 0)

-- what is told of a path that is not merged, by what stands there
abbrev pub judge_unmerged_by_stat : StatsByPath → Comparison → List ℕ → IndexEntry → Option NodeStat → Judged
judge_unmerged_by_stat told o full e None = judge.Known (changes.Unmerged 0)
judge_unmerged_by_stat told o full e (Some at) = judge_unmerged_at_node told o full e at

-- the entry that tells that its path is not merged: the first one
abbrev pub is_first_unmerged_entry : IndexEntry → Bool → Bool
is_first_unmerged_entry e first = not (is_merged e) && first

-- the first entry of a path that is not merged tells that
abbrev pub judge_unmerged_entry : StatsByPath → Comparison → List ℕ → Bool → IndexEntry → Judged
judge_unmerged_entry told o root first e =
    if is_first_unmerged_entry e first then judge_unmerged_by_stat told o (path_joined_with_slash root e.path) e (stat_unless_behind_link told root e.path) else judge.Known changes.Same

-- ---- by the bytes

-- bytes that the blob of an entry has
abbrev pub unchanged_if_bytes_match_id : List ℕ → PathChange → List ℕ → PathChange
unchanged_if_bytes_match_id id otherwise bytes = if bytes_eq (blob_id bytes) id then changes.Same else otherwise

-- what is no file any more differs
abbrev pub change_by_comparing_bytes : List ℕ → PathChange → LookupResult → PathChange
change_by_comparing_bytes id otherwise (found (file bytes)) = unchanged_if_bytes_match_id id otherwise bytes
change_by_comparing_bytes id otherwise (found (directory names)) = otherwise
change_by_comparing_bytes id otherwise (found (link target)) = otherwise
change_by_comparing_bytes id otherwise (found other) = otherwise
change_by_comparing_bytes id otherwise absent = otherwise
change_by_comparing_bytes id otherwise too_many_links = otherwise

-- what was judged, with the bytes at the path where they are asked for
abbrev pub resolve_judged_change : Names → List ℕ → List ℕ → Judged → Result PathChange Unsupported
resolve_judged_change t full id (judge.Known change) = Ok change
resolve_judged_change t full id (judge.Refused form) = Err form
resolve_judged_change t full id (judge.ByBytes otherwise) = Ok (change_by_comparing_bytes id otherwise (look t full false))
