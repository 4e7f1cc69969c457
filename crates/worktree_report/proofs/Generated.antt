-- A tree of files in memory, file by file, and its report.
use Rattle.std.proofs.Common.{◌≡◌, ◌+◌, ℕ, List, [], Bool, false, Some, Ok, refl, sym, ap, ◌∙◌, add-one}
use Rattle.gitbase_core.specs.Path.{components}
use Rattle.worktree_fs.specs.Composed.{nfc_if_composing}
use Rattle.worktree_fs.specs.Grow.{node_with_descendant_added, entries_of_node_if_directory}
use Rattle.worktree_fs.specs.Tree.{Node, Names, file, directory, none}
use Rattle.worktree_report.specs.Generate.{index_of_file_count, full_path_of_file, report_of_file_count, setup_of_file_count, text_of_generated_setup, tracked_paths_of_file_count, tree_of_file_count, insert_path_if_tracked, worktree_root}
use Rattle.worktree_report.specs.SetupText.{parse_setup_text}
use Rattle.worktree_report.specs.Asked.{sources_of_tree_and_setup, walk_report_of_setup}
use Rattle.worktree_report.specs.declared.setup.Setup.{Setup}
use Rattle.gitbase_core.specs.declared.entry.IndexEntry.{IndexEntry}
use Rattle.dir_walk.specs.declared.report.Report.{Report}
use Rattle.std.specs.Prelude.{option_and_then}

pub tree_of-more : (n : ℕ) (before after : Names) (composes : Bool) (path : List ℕ) → composes ≡ false → before ≡ tree_of_file_count n → path ≡ full_path_of_file n
    → directory after ≡ node_with_descendant_added (components (nfc_if_composing composes path)) (file []) (Some (directory before)) → after ≡ tree_of_file_count (n + 1)
unfolding tree_of_file_count
tree_of-more n before after composes path plain is named added =
    rw add-one
    (ap (λ (node : Node). entries_of_node_if_directory (Some node)) added
    ∙ ap (λ (b : Bool). entries_of_node_if_directory (Some (node_with_descendant_added (components (nfc_if_composing b path)) (file []) (Some (directory before))))) plain
    ∙ ap (λ (p : List ℕ). entries_of_node_if_directory (Some (node_with_descendant_added (components p) (file []) (Some (directory before))))) named
    ∙ ap (λ (t : Names). entries_of_node_if_directory (Some (node_with_descendant_added (components (full_path_of_file n)) (file []) (Some (directory t))))) is)

pub tree_of-none : none ≡ tree_of_file_count 0
unfolding tree_of_file_count
tree_of-none = refl

pub tracked_paths-more : (n : ℕ) (before after : List (List ℕ)) → before ≡ tracked_paths_of_file_count n → after ≡ insert_path_if_tracked before n → after ≡ tracked_paths_of_file_count (n + 1)
unfolding tracked_paths_of_file_count
tracked_paths-more n before after is added = rw add-one (added ∙ ap (λ (paths : List (List ℕ)). insert_path_if_tracked paths n) is)

pub tracked_paths-none : [] ≡ tracked_paths_of_file_count 0
unfolding tracked_paths_of_file_count
tracked_paths-none = refl

-- the setup of the text, with the entries of so many files
pub generated_setup-is : (n : ℕ) (setup : Setup) (index : List IndexEntry) → parse_setup_text text_of_generated_setup ≡ Ok setup → index ≡ index_of_file_count n → setup_of_file_count n ≡ Some (record setup { index = index })
unfolding setup_of_file_count
generated_setup-is n setup index read is = rw (read, is) refl

-- the report by that setup over the tree of so many files
pub generated_report-is : (n : ℕ) (t : Names) (setup : Setup) (r : Report) → setup_of_file_count n ≡ Some setup → t ≡ tree_of_file_count n
    → walk_report_of_setup false (sources_of_tree_and_setup t setup) worktree_root setup ≡ Some r → report_of_file_count n ≡ Some r
generated_report-is n t setup r named grown_is made =
    ap (option_and_then (λ (s : Setup). walk_report_of_setup false (sources_of_tree_and_setup (tree_of_file_count n) s) worktree_root s)) named
    ∙ ap (λ (x : Names). walk_report_of_setup false (sources_of_tree_and_setup x setup) worktree_root setup) (sym grown_is) ∙ made
