-- Why the configurations, or the rules files that they name, are not read: the line.
use Rattle.std.specs.Prelude.{ℕ, List, codes}
use Rattle.git_config_files.specs.declared.error.FilesError.{FilesError}
use Rattle.git_config_files.specs.declared.error.FilesError.TheVariants as errors
use Rattle.tizhagor.specs.Parts.{bad_config_line, variable_not_heeded_line, fault_line_without_path, dubious_ownership_line, out_of_memory_line, bad_config_value_line, text_with_optional_file, text_with_escaped_path}

-- begins with `fatal: ` and ends in a line feed; a file, a variable or a value in it is escaped
abbrev pub line_of_files_error : FilesError → List ℕ
line_of_files_error (errors.Config path line) = bad_config_line path line
line_of_files_error (errors.Include path) = text_with_escaped_path (codes "fatal: missing value for 'include.path' in file ") path (codes "\n")
line_of_files_error (errors.NoFile path) = text_with_escaped_path (codes "fatal: '") path (codes "' is no file\n")
line_of_files_error (errors.Home path) = text_with_escaped_path (codes "fatal: failed to expand user dir in file ") path (codes "\n")
line_of_files_error (errors.UserDir path value) = text_with_optional_file (codes "fatal: failed to expand user dir in: '") value (codes "'") path
line_of_files_error (errors.Condition path) = text_with_escaped_path (codes "fatal: includeIf 'hasconfig:' is not read in file ") path (codes "\n")
line_of_files_error (errors.Depth path) = text_with_escaped_path (codes "fatal: exceeded maximum include depth (10) at file ") path (codes "\n")
line_of_files_error (errors.Value path key) = bad_config_value_line path key
line_of_files_error (errors.Elsewhere name) = variable_not_heeded_line name
line_of_files_error (errors.Foreign path) = dubious_ownership_line path
line_of_files_error errors.Fault = fault_line_without_path
line_of_files_error errors.OutOfMemory = out_of_memory_line
