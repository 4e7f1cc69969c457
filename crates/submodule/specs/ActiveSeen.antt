-- What the calls on activity answer. Want of memory is always free.
use Rattle.std.specs.Prelude.{◌≡◌, ℕ, List, Bool, Result, Ok, Err}
use Rattle.std.specs.Borrow.{Bor}
use Rattle.git_config_lite.specs.declared.error.ValueError.{ValueError}
use Rattle.glob_rules.specs.declared.pathspec.Error.{Error as SpecError}
use Rattle.glob_rules.specs.declared.pathspec.Error.TheVariants as spec_errors
use Rattle.glob_rules.specs.PathSpec.{PathSpec}
use Rattle.submodule.specs.Active.{NameAndActive}
use Rattle.submodule.specs.declared.is_active_platform.Error.{Error}
use Rattle.submodule.specs.declared.is_active_platform.Error.TheVariants as errors

-- the spec of the value of this number
abbrev pub SpecResultAgrees : ℕ → Result PathSpec Error → Result PathSpec SpecError → Type 0
SpecResultAgrees number (Ok spec) given = given ≡ Ok spec
SpecResultAgrees number (Err (errors.ParsePattern value at)) given = (value ≡ number) × (given ≡ Err (spec_errors.Parse at))
SpecResultAgrees number (Err (errors.NormalizePattern value)) given = (value ≡ number) × (given ≡ Err spec_errors.Normalize)
SpecResultAgrees number (Err errors.OutOfMemory) given = Unit {0}

-- a refusal that is not want of memory is the one that is given
abbrev pub ErrorAgreesUnlessOutOfMemory : {T : Type 0} → Error → Result T Error → Type 0
ErrorAgreesUnlessOutOfMemory (errors.ParsePattern value at) given = given ≡ Err (errors.ParsePattern value at)
ErrorAgreesUnlessOutOfMemory (errors.NormalizePattern value) given = given ≡ Err (errors.NormalizePattern value)
ErrorAgreesUnlessOutOfMemory errors.OutOfMemory given = Unit {0}

-- an answer is the one that is given, and so is the refusal of a value
abbrev pub ActiveResultAgrees : {T : Type 0} → Result T Error → Result T Error → Type 0
ActiveResultAgrees (Ok answer) given = given ≡ Ok answer
ActiveResultAgrees (Err e) given = ErrorAgreesUnlessOutOfMemory e given

-- an answer, or the text that is refused
abbrev pub active_result_with_error_text : Result Bool ValueError → Result Bool (List ℕ)
active_result_with_error_text (Ok answer) = Ok answer
active_result_with_error_text (Err e) = Err e.input.now

-- an item of `NamesAndActive`, with the bytes it borrows: those of the name, and of a text that is refused
abbrev pub name_and_active_of_references : Bor (List ℕ) × Result Bool ValueError → NameAndActive
name_and_active_of_references state = (state.0.now, active_result_with_error_text state.1)
