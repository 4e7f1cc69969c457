-- A tree of files in memory, its index and its setup, and how much there is to report of it.
use Rattle.std.specs.Prelude.{◌≡◌, ◌≤◌, ◌==◌, ◌&&◌, ◌/◌, ◌%◌, ℕ, zero, suc, Bool, false, nat_lt, List, [], ◌∷◌, ◌++◌, map, length, replicate, codes, decimal, Option, Some, option_map, if◌then◌else◌}
use Rattle.std.specs.Result.{result_ok}
use Rattle.std.specs.Cmp.Lexicographic.{slice_cmp}
use Rattle.std.specs.Ordering.{nat_cmp}
use Rattle.std.specs.BTreeSet.{insert_key}
use Rattle.gitbase_core.specs.Entry.{regular_file_mode}
use Rattle.gitbase_core.specs.Path.{components}
use Rattle.gitbase_core.specs.declared.entry.IndexEntry.{IndexEntry}
use Rattle.worktree_fs.specs.Causes.{saturating_sum}
use Rattle.worktree_fs.specs.Grow.{node_with_descendant_added, entries_of_node_if_directory}
use Rattle.worktree_fs.specs.Tree.{Names, file, directory, none}
use Rattle.dir_walk.specs.declared.report.Report.{Report}
use Rattle.worktree_report.specs.declared.refusal.Refusal.{Refusal}
use Rattle.worktree_report.specs.declared.refusal.Refusal.TheVariants as refusals
use Rattle.worktree_report.specs.declared.setup.Setup.{Setup}
use Rattle.worktree_report.specs.Asked.{sources_of_tree_and_setup, walk_report_of_setup}
use Rattle.worktree_report.specs.Lines.{outcome_line}
use Rattle.worktree_report.specs.SetupText.{parse_setup_text}
use Rattle.gitbase_core.specs.Steps.{◌>>=◌}

-- ---- the files

-- the path of the file with a number, from 0, relative to the worktree root: there are a hundred files to a directory
abbrev pub relative_path_of_file : ℕ → List ℕ
relative_path_of_file i = codes "d" ++ decimal (i / 100) ++ codes "/f" ++ decimal i

-- the worktree root, and the whole path of a file
abbrev pub worktree_root : List ℕ
worktree_root = codes "/w"

-- `/w/d0/f7` for file 7: its path beneath the worktree root `/w`
abbrev pub full_path_of_file : ℕ → List ℕ
full_path_of_file i = codes "/w/" ++ relative_path_of_file i

-- the tree of so many files, none of which has bytes
unfoldable pub tree_of_file_count : ℕ → Names
tree_of_file_count zero = none
tree_of_file_count (suc i) = entries_of_node_if_directory (Some (node_with_descendant_added (components (full_path_of_file i)) (file []) (Some (directory (tree_of_file_count i)))))

-- ---- the index

-- every tenth file of every other directory is tracked
abbrev pub is_file_number_tracked : ℕ → Bool
is_file_number_tracked i = nat_lt (i % 200) 100 && i % 10 == 0

-- some paths in the order of their bytes, with that of a file in its place, where it is tracked
abbrev pub insert_path_if_tracked : List (List ℕ) → ℕ → List (List ℕ)
insert_path_if_tracked paths i = if is_file_number_tracked i then insert_key (slice_cmp nat_cmp) paths (relative_path_of_file i) else paths

-- the paths of the tracked ones of so many files, in the order of their bytes
unfoldable pub tracked_paths_of_file_count : ℕ → List (List ℕ)
tracked_paths_of_file_count zero = []
tracked_paths_of_file_count (suc i) = insert_path_if_tracked (tracked_paths_of_file_count i) i

-- the entry of a file that was not looked at
abbrev pub index_entry_of_path : List ℕ → IndexEntry
index_entry_of_path path = record { path = path; stage = 0; mode = record { 0 = regular_file_mode }; flags = record { 0 = 0 }; id = replicate 20 0 }

-- the index of so many files: one entry for each that is tracked, ascending by the bytes of its path
abbrev pub index_of_file_count : ℕ → List IndexEntry
index_of_file_count n = map index_entry_of_path (tracked_paths_of_file_count n)

-- ---- the report

-- The git directory lies elsewhere, files whose number ends in 7 are ignored, and directories of untracked files and of
-- ignored ones are folded.
abbrev pub text_of_generated_setup : List ℕ
text_of_generated_setup = codes "git_dir /g\nglobal f*7\noption emit_untracked collapse\noption emit_ignored collapse\n"

-- a setup whose index tracks every tenth file of every other directory, in place of what it had
abbrev replace_index_of_setup : ℕ → Setup → Setup
replace_index_of_setup n setup = record setup { index = index_of_file_count n }

-- the setup of that text, with the entries of the index
unfoldable pub setup_of_file_count : ℕ → Option Setup
setup_of_file_count n = option_map (replace_index_of_setup n) (result_ok (parse_setup_text text_of_generated_setup))

-- the report of the tree; no name of it is composed
abbrev pub report_of_file_count : ℕ → Option Report
report_of_file_count n = do
  setup ← setup_of_file_count n
  walk_report_of_setup false (sources_of_tree_and_setup (tree_of_file_count n) setup) worktree_root setup

-- how many files there are, how many lines the report has, and how much was walked
abbrev pub lines_of_generated_report : ℕ → Report → List ℕ
lines_of_generated_report n r = codes "generated " ++ decimal n ++ codes " lines " ++ decimal (length r.entries) ++ 10 ∷ [] ++ outcome_line r.outcome

-- the text for so many files
abbrev pub text_of_generated_report : ℕ → Option (List ℕ)
text_of_generated_report n = option_map (lines_of_generated_report n) (report_of_file_count n)

-- This is the text for so many files, and the interrupt was asked at least as often as directories are counted, or its count
-- stands at its last value.
pub record IsGeneratedTextWithQuestions (n questions0 questions1 : ℕ) (text : List ℕ) : Type 0 where
  pub made : Report
  pub is : report_of_file_count n ≡ Some made
  pub text_is : text ≡ lines_of_generated_report n made
  pub asked : saturating_sum questions0 made.outcome.read_dir_calls ≤ questions1

-- a refusal that may come
abbrev pub IsRefusalOfGenerating : Refusal → Type 0
IsRefusalOfGenerating refusals.Interrupted = Unit {0}
IsRefusalOfGenerating refusals.Usage = ⊥
IsRefusalOfGenerating (refusals.Setup line) = ⊥
IsRefusalOfGenerating (refusals.Misread which) = ⊥
IsRefusalOfGenerating (refusals.Walk word path) = ⊥
IsRefusalOfGenerating refusals.Fault = ⊥
IsRefusalOfGenerating refusals.Output = ⊥
IsRefusalOfGenerating refusals.OutOfMemory = Unit {0}
