-- What the calls that answer of a submodule give. Want of memory is always free.
use Rattle.std.specs.Prelude.{◌≡◌, ℕ, List, Option, Result, Ok, Err}
use Rattle.std.specs.Borrow.{Bor}
use Rattle.git_config_lite.specs.Sections.{Configuration}
use Rattle.submodule.specs.declared.init.Error.{Error as InitError}
use Rattle.submodule.specs.declared.init.Error.TheVariants as init_errors
use Rattle.submodule.specs.declared.branch.Branch.{Branch}
use Rattle.submodule.specs.declared.branch.Error.{Error as BranchError}
use Rattle.submodule.specs.declared.branch.Error.TheVariants as branch_errors
use Rattle.submodule.specs.declared.update.Error.{Error as UpdateError}
use Rattle.submodule.specs.declared.update.Error.TheVariants as update_errors
use Rattle.submodule.specs.declared.url.Url.{Url}
use Rattle.submodule.specs.declared.url.Error.{Error as UrlRefusal}
use Rattle.submodule.specs.declared.url.Error.TheVariants as url_errors
use Rattle.submodule.specs.declared.path.Error.{Error as PathError}
use Rattle.submodule.specs.declared.path.Error.TheVariants as path_errors
use Rattle.submodule.specs.declared.field.FieldError.{FieldError}
use Rattle.submodule.specs.declared.field.FieldError.TheVariants as field_errors

-- a file is the configuration that is given, and a refusal has the line that is given
abbrev pub FileResultAgrees : Result Configuration InitError → Result Configuration ℕ → Type 0
FileResultAgrees (Ok file) given = given ≡ Ok file
FileResultAgrees (Err (init_errors.Parse line)) given = given ≡ Err line
FileResultAgrees (Err init_errors.OutOfMemory) given = Unit {0}

-- a path has the bytes that are given; a refusal is the one that is given, with its name and text
abbrev pub PathResultAgrees : Result (Bor (List ℕ)) PathError → Result (List ℕ) PathError → Type 0
PathResultAgrees (Ok path) given = given ≡ Ok path.now
PathResultAgrees (Err (path_errors.Missing name)) given = given ≡ Err (path_errors.Missing name)
PathResultAgrees (Err (path_errors.Absolute name path)) given = given ≡ Err (path_errors.Absolute name path)
PathResultAgrees (Err (path_errors.OutsideOfWorktree name path)) given = given ≡ Err (path_errors.OutsideOfWorktree name path)
PathResultAgrees (Err path_errors.OutOfMemory) given = Unit {0}

-- a url is the one that is given; so is the refusal of one that is missing or cannot be read
abbrev pub UrlFieldResultAgrees : Result Url UrlRefusal → Result Url UrlRefusal → Type 0
UrlFieldResultAgrees (Ok url) given = given ≡ Ok url
UrlFieldResultAgrees (Err (url_errors.Missing name)) given = given ≡ Err (url_errors.Missing name)
UrlFieldResultAgrees (Err (url_errors.Parse name e)) given = given ≡ Err (url_errors.Parse name e)
UrlFieldResultAgrees (Err url_errors.OutOfMemory) given = Unit {0}

-- an update is the one that is given; so is the refusal of an invalid text or of a forbidden command
abbrev pub UpdateFieldResultAgrees : {T : Type 0} → Result T UpdateError → Result T UpdateError → Type 0
UpdateFieldResultAgrees (Ok update) given = given ≡ Ok update
UpdateFieldResultAgrees (Err (update_errors.Invalid name text)) given = given ≡ Err (update_errors.Invalid name text)
UpdateFieldResultAgrees (Err (update_errors.CommandForbiddenInModulesConfiguration name command)) given = given ≡ Err (update_errors.CommandForbiddenInModulesConfiguration name command)
UpdateFieldResultAgrees (Err update_errors.OutOfMemory) given = Unit {0}

-- a branch, or that none is set, is what is given; so is the refusal of a text that names none
abbrev pub BranchFieldResultAgrees : Result (Option Branch) BranchError → Result (Option Branch) BranchError → Type 0
BranchFieldResultAgrees (Ok branch) given = given ≡ Ok branch
BranchFieldResultAgrees (Err (branch_errors.Refspec name text e)) given = given ≡ Err (branch_errors.Refspec name text e)
BranchFieldResultAgrees (Err branch_errors.OutOfMemory) given = Unit {0}

-- what `ignore` or `fetchRecurseSubmodules` says is what is given; so is the refusal of its text
abbrev pub FieldResultAgrees : {T : Type 0} → Result (Option T) FieldError → Result (Option T) FieldError → Type 0
FieldResultAgrees (Ok answer) given = given ≡ Ok answer
FieldResultAgrees (Err (field_errors.Invalid field name text)) given = given ≡ Err (field_errors.Invalid field name text)
FieldResultAgrees (Err field_errors.OutOfMemory) given = Unit {0}
