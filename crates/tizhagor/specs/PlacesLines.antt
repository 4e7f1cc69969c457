-- Why no work tree is found, or why its repository is not read: the line.
use Rattle.std.specs.Prelude.{ℕ, List, [], ◌++◌, codes}
use Rattle.git_places.specs.declared.error.PlacesError.{PlacesError}
use Rattle.git_places.specs.declared.error.PlacesError.TheVariants as errors
use Rattle.tizhagor.specs.Parts.{bad_config_line, fault_line_without_path, optional_in_file_ending, out_of_memory_line, bad_config_value_line, text_with_optional_file, text_with_escaped_path}

-- begins with `fatal: ` and ends in a line feed; in git's words where git says so too, with paths and values escaped
abbrev pub line_of_places_error : PlacesError → List ℕ
line_of_places_error errors.NoRepository = codes "fatal: not a git repository (or any of the parent directories): .git\n"
line_of_places_error (errors.Border path) =
    text_with_escaped_path (codes "fatal: not a git repository (or any parent up to mount point ") path (codes "); stopping at filesystem boundary (GIT_DISCOVERY_ACROSS_FILESYSTEM not set)\n")
line_of_places_error (errors.NoDirectory path) = text_with_escaped_path (codes "fatal: failed to stat '") path (codes "': No such file or directory\n")
line_of_places_error (errors.Bare path) = codes "fatal: this operation must be run in a work tree\n"
line_of_places_error (errors.GitFileForm path) = text_with_escaped_path (codes "fatal: invalid gitfile format: ") path (codes "\n")
line_of_places_error (errors.GitFileTarget path) = text_with_escaped_path (codes "fatal: not a git repository: ") path (codes "\n")
line_of_places_error (errors.OddHead path) =
    text_with_escaped_path (codes "fatal: '") path (codes "' may be another HEAD to git; make it a file of one line, 'ref: refs/heads/BRANCH' or an id\n")
line_of_places_error (errors.CommonDir path) = text_with_escaped_path (codes "fatal: '") path (codes "' names no directory\n")
line_of_places_error (errors.Version path value) = text_with_optional_file (codes "fatal: Expected git repo version <= 1, found ") value [] path
line_of_places_error (errors.Extension path key) = text_with_optional_file (codes "fatal: unknown repository extension found: ") key [] path
line_of_places_error (errors.Sha256 path) = codes "fatal: a repository with ids of SHA-256 is not read" ++ optional_in_file_ending path
line_of_places_error (errors.Value path key) = bad_config_value_line path key
line_of_places_error (errors.Config path line) = bad_config_line path line
line_of_places_error (errors.NoWorkTree path) = text_with_escaped_path (codes "fatal: core.worktree names no directory: '") path (codes "'\n")
line_of_places_error errors.Fault = fault_line_without_path
line_of_places_error errors.OutOfMemory = out_of_memory_line
