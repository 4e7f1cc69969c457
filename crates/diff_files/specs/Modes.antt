-- Modes: of a node, as inode(7) has them, and of an entry, as git writes them.
use Rattle.std.specs.Prelude.{ℕ, ◌/◌, ◌%◌, Bool, not, ◌&&◌, ◌==◌, if◌then◌else◌}
use Rattle.gitbase_core.specs.Entry.{sparse_directory_mode, regular_file_mode, executable_file_mode, symlink_mode, gitlink_mode}
use Rattle.diff_files.specs.declared.comparison.Comparison.{Comparison}

-- the four bits above the permissions tell the kind of a node
abbrev pub file_type_bits : ℕ → ℕ
file_type_bits mode = (mode / 4096) % 16

-- of a regular file
abbrev pub is_regular_file_mode : ℕ → Bool
is_regular_file_mode mode = file_type_bits mode == 8

-- of a symbolic link
abbrev pub is_symlink_mode : ℕ → Bool
is_symlink_mode mode = file_type_bits mode == 10

-- of a directory
abbrev pub is_directory_mode : ℕ → Bool
is_directory_mode mode = file_type_bits mode == 4

-- of an entry alone: the commit of a submodule
abbrev pub is_submodule_mode : ℕ → Bool
is_submodule_mode mode = file_type_bits mode == 14

-- "only the owner's bit" counts
abbrev pub owner_executable_bit : ℕ → ℕ
owner_executable_bit mode = (mode / 64) % 2

-- of what its owner may execute
abbrev pub is_owner_executable : ℕ → Bool
is_owner_executable mode = owner_executable_bit mode == 1

-- the mode that git has for a node: of a link, of the directory of a submodule, of a file; a directory without permissions and what is
-- none of these have what git's rule makes of them
abbrev pub git_mode_of_node_mode : ℕ → ℕ
git_mode_of_node_mode mode =
    if is_symlink_mode mode then symlink_mode
    else if mode == sparse_directory_mode then sparse_directory_mode
    else if is_directory_mode mode then gitlink_mode
    else if is_owner_executable mode then executable_file_mode
    else regular_file_mode

-- a file in the place of an entry of some mode: git-config(1), `core.symlinks`: "If false, symbolic links are checked out as small plain
-- files that contain the link text", and `core.fileMode`: "Tells Git if the executable bit of files in the working tree is to be honored"
abbrev pub git_mode_of_file_in_place_of : Comparison → ℕ → ℕ → ℕ
git_mode_of_file_in_place_of o old mode =
    if not o.symlinks && is_symlink_mode old then old
    else if o.file_mode then git_mode_of_node_mode mode
    else if is_regular_file_mode old then old
    else regular_file_mode

-- the mode that git has for a node in the place of an entry of some mode
unfoldable pub git_mode_of_node_in_place_of : Comparison → ℕ → ℕ → ℕ
git_mode_of_node_in_place_of o old mode = if is_regular_file_mode mode then git_mode_of_file_in_place_of o old mode else git_mode_of_node_mode mode
