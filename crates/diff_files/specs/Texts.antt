-- Why no differences are told.
use Rattle.std.specs.Prelude.{ℕ, List, codes}
use Rattle.gitbase_core.specs.declared.entry.IndexEntry.{IndexEntry}
use Rattle.worktree_fs.specs.declared.answers.ReadError.{ReadError}
use Rattle.worktree_fs.specs.declared.answers.ReadError.TheVariants as reads
use Rattle.diff_files.specs.declared.error.DiffError.{DiffError}
use Rattle.diff_files.specs.declared.error.DiffError.TheVariants as errors
use Rattle.diff_files.specs.declared.error.Unanswered.{Unanswered}
use Rattle.diff_files.specs.declared.error.Unsupported.{Unsupported}
use Rattle.diff_files.specs.declared.error.Unsupported.TheVariants as forms

-- a form that is not answered, which an entry has
abbrev pub unanswered_form_of_entry : Unsupported → IndexEntry → Unanswered
unanswered_form_of_entry form e = record { form = form; path = e.path }

-- the error of a read that failed
abbrev pub diff_error_of_read_error : ReadError → DiffError
diff_error_of_read_error reads.Fault = errors.Fault
diff_error_of_read_error reads.OutOfMemory = errors.OutOfMemory

-- what is told of a form that is not answered, before the path
abbrev pub unsupported_text : Unsupported → List ℕ
unsupported_text forms.Repository = codes "diff-files is not supported where a repository stands"
unsupported_text forms.Conversion = codes "diff-files is not supported where bytes are converted"
unsupported_text forms.IgnoredSubmodule = codes "diff-files is not supported for ignored submodules"
unsupported_text forms.SparseIndex = codes "diff-files is not supported for a sparse index"
unsupported_text forms.Details = codes "diff-files has no stat fields of an entry"
