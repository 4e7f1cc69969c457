-- Why the index is not read: the line, behind the path of its file.
use Rattle.std.specs.Prelude.{ℕ, List, ◌++◌, codes}
use Rattle.gitbase_core.specs.declared.index.IndexError.{IndexError}
use Rattle.gitbase_core.specs.declared.index.IndexError.TheVariants as order
use Rattle.git_index.specs.declared.error.IndexFileError.{IndexFileError}
use Rattle.git_index.specs.declared.error.IndexFileError.TheVariants as errors
use Rattle.tizhagor.specs.Parts.{out_of_memory_line, text_with_number, text_with_escaped_path, text_with_number_from_one}

-- what mends a broken index file: it is kept under another name, since nothing else may have what was staged
abbrev pub index_repair_advice : List ℕ
index_repair_advice = codes "; move it away, and make it anew from HEAD with 'git reset'\n"

-- how the file is outside its grammar, behind its path
abbrev pub index_file_error_reason : IndexFileError → List ℕ
index_file_error_reason errors.Short = codes ": index file smaller than expected" ++ index_repair_advice
index_file_error_reason errors.Signature = codes ": index file corrupt: bad signature" ++ index_repair_advice
index_file_error_reason (errors.Version version) = text_with_number (codes ": index file corrupt: bad index version ") version (codes "\n")
index_file_error_reason errors.Sum = codes ": index file corrupt: bad index file sha1 signature" ++ index_repair_advice
index_file_error_reason (errors.Entry at) = text_with_number_from_one (codes ": index file corrupt: entry ") at index_repair_advice
index_file_error_reason errors.Extensions = codes ": index file corrupt: bad extensions" ++ index_repair_advice
index_file_error_reason errors.Split = codes ": the index is split; join it with 'git update-index --no-split-index'\n"
index_file_error_reason (errors.Unknown name) = text_with_escaped_path (codes ": index uses ") name (codes " extension, which we do not understand\n")
index_file_error_reason (errors.Directory at) = text_with_number_from_one (codes ": index file corrupt: directory at entry ") at index_repair_advice
index_file_error_reason errors.OutOfMemory = out_of_memory_line

-- which rule an entry breaks
abbrev pub index_entry_error_reason : IndexError → List ℕ
index_entry_error_reason (order.Path at) = text_with_number_from_one (codes ": index file corrupt: bad path at entry ") at index_repair_advice
index_entry_error_reason (order.ModePath at) = text_with_number_from_one (codes ": index file corrupt: bad mode at entry ") at index_repair_advice
index_entry_error_reason (order.NotAscending at) = text_with_number_from_one (codes ": unordered entries in index: entry ") at index_repair_advice
index_entry_error_reason (order.Stage at) = text_with_number_from_one (codes ": unordered stage entries in index: entry ") at index_repair_advice
