-- Which nodes stay where they lie.
use Rattle.std.specs.Prelude.{◌≡◌, ℕ, List, Bool, true, false, ◌&&◌, bytes_eq, Option, Some, None}
use Rattle.std.specs.List.{list_any}
use Rattle.dir_classify.specs.declared.entry.Entry.{Entry}
use Rattle.dir_classify.specs.declared.entry.Kind.{Kind}
use Rattle.dir_classify.specs.declared.entry.Kind.TheVariants.{Untrackable, File, Symlink, Directory, Repository}
use Rattle.clean_plan.specs.declared.what.OtherNodes.{OtherNodes}
use Rattle.clean_plan.specs.declared.what.OtherNodes.TheVariants.{Go, Stay}
use Rattle.clean_plan.specs.Paths.{is_text_in_list}

-- a node is no file, link or directory
abbrev pub is_untrackable_kind : Option Kind → Bool
is_untrackable_kind None = false
is_untrackable_kind (Some Untrackable) = true
is_untrackable_kind (Some File) = false
is_untrackable_kind (Some Symlink) = false
is_untrackable_kind (Some Directory) = false
is_untrackable_kind (Some Repository) = false

-- a node of this kind stays, unless a directory above it goes as a whole
abbrev pub keeps_untrackable_kind : OtherNodes → Option Kind → Bool
keeps_untrackable_kind Go kind = false
keeps_untrackable_kind Stay kind = is_untrackable_kind kind

-- an entry is that of such a node, at this path
abbrev pub is_kept_untrackable_at_path : OtherNodes → List ℕ → Entry → Bool
is_kept_untrackable_at_path others path e = keeps_untrackable_kind others e.disk_kind && bytes_eq path e.rela_path

-- some entry is
abbrev pub has_kept_untrackable_at_path : OtherNodes → List Entry → List ℕ → Bool
has_kept_untrackable_at_path others entries path = list_any (is_kept_untrackable_at_path others path) entries

-- these are the paths of such entries
abbrev pub ArePathsOfKeptUntrackables : OtherNodes → List Entry → List (List ℕ) → Type 0
ArePathsOfKeptUntrackables others entries paths = (path : List ℕ) → is_text_in_list path paths ≡ has_kept_untrackable_at_path others entries path
