-- What an answer says of what is to be read.
use Rattle.std.specs.Prelude.{Result}
use Rattle.worktree_fs.specs.declared.answers.ReadError.{ReadError}
use Rattle.worktree_fs.specs.declared.answers.ReadError.TheVariants as read
use Rattle.git_places.specs.Answers.{IsFoundOrOutOfMemory}
use Rattle.git_config_files.specs.declared.error.FilesError.{FilesError}
use Rattle.git_config_files.specs.declared.error.FilesError.TheVariants as errors

-- the answer is what is found, or that memory is wanted; it is never `Fault`, since no worktree is asked
abbrev pub AgreesUnlessFaultOrOutOfMemory : {A : Type 0} → Result A FilesError → Result A FilesError → Type 0
AgreesUnlessFaultOrOutOfMemory result found = IsFoundOrOutOfMemory errors.Fault errors.OutOfMemory result found

-- the refusal that a refused look at the worktree is
abbrev pub files_error_of_read_error : ReadError → FilesError
files_error_of_read_error read.Fault = errors.Fault
files_error_of_read_error read.OutOfMemory = errors.OutOfMemory
