-- Why what changed is not listed.
use Rattle.std.specs.Prelude.{◌≡◌, Result, Ok, Err}
use Rattle.diff_files.specs.declared.error.Unsupported.{Unsupported}
use Rattle.worktree_fs.specs.declared.answers.ReadError.{ReadError}
use Rattle.worktree_fs.specs.declared.answers.ReadError.TheVariants as reads
use Rattle.ls_files.specs.declared.changed_error.ChangedError.{ChangedError}
use Rattle.ls_files.specs.declared.changed_error.ChangedError.TheVariants as errors

-- the refusal that a refused look at the worktree is
abbrev pub changed_error_of_read_error : ReadError → ChangedError
changed_error_of_read_error reads.Fault = errors.Fault
changed_error_of_read_error reads.OutOfMemory = errors.OutOfMemory

-- a form is refused where the definition does; want of memory and faults stand apart
abbrev pub RefusesUnsupportedAsDefined : {A : Type 0} → Result A Unsupported → ChangedError → Type 0
RefusesUnsupportedAsDefined told (errors.Unsupported form) = told ≡ Err form
RefusesUnsupportedAsDefined told errors.Fault = Unit {0}
RefusesUnsupportedAsDefined told errors.OutOfMemory = Unit {0}

-- an answer is what a definition says: its value, or the form that is not answered; want of memory and faults stand apart
abbrev pub AnswersAsDefined : {A : Type 0} → Result A Unsupported → Result A ChangedError → Type 0
AnswersAsDefined told (Ok given) = told ≡ Ok given
AnswersAsDefined told (Err e) = RefusesUnsupportedAsDefined told e

-- it holds, unless something outside is said to have failed
abbrev pub HoldsUnlessFault : {A : Type 0} → Result A ChangedError → Type 0 → Type 0
HoldsUnlessFault (Ok given) Holds = Holds
HoldsUnlessFault (Err (errors.Unsupported form)) Holds = Holds
HoldsUnlessFault (Err errors.Fault) Holds = Unit {0}
HoldsUnlessFault (Err errors.OutOfMemory) Holds = Holds
