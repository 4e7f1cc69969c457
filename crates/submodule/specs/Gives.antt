-- What the calls answer that copy what they found. Want of memory is always free.
use Rattle.std.specs.Prelude.{◌≡◌, Option, Some, None, Result, Ok, Err}
use Rattle.submodule.specs.declared.branch.Branch.{Branch}
use Rattle.submodule.specs.declared.branch.RefspecError.{RefspecError}
use Rattle.submodule.specs.declared.branch.RefspecError.TheVariants as refspec_errors
use Rattle.submodule.specs.declared.update.Update.{Update}
use Rattle.submodule.specs.declared.update.UpdateParseError.{UpdateParseError}
use Rattle.submodule.specs.declared.update.UpdateParseError.TheVariants as update_errors
use Rattle.submodule.specs.declared.url.Url.{Url}
use Rattle.submodule.specs.declared.url.UrlError.{UrlError}
use Rattle.submodule.specs.declared.url.UrlError.TheVariants as url_errors

-- a branch is the one that the text names, and a text is invalid only where it names none
abbrev pub BranchParseAgrees : Result Branch RefspecError → Option Branch → Type 0
BranchParseAgrees (Ok branch) given = given ≡ Some branch
BranchParseAgrees (Err refspec_errors.Invalid) given = given ≡ None
BranchParseAgrees (Err refspec_errors.OutOfMemory) given = Unit {0}

-- an update is the one that the text says, and a text is invalid only where it says none
abbrev pub UpdateParseAgrees : Result Update UpdateParseError → Option Update → Type 0
UpdateParseAgrees (Ok update) given = given ≡ Some update
UpdateParseAgrees (Err update_errors.Invalid) given = given ≡ None
UpdateParseAgrees (Err update_errors.OutOfMemory) given = Unit {0}

-- a url has the parts that are given; an empty host or a wrong port is refused where that is given
abbrev pub UrlParseAgrees : Result Url UrlError → Result Url UrlError → Type 0
UrlParseAgrees (Ok url) given = given ≡ Ok url
UrlParseAgrees (Err url_errors.EmptyHost) given = given ≡ Err url_errors.EmptyHost
UrlParseAgrees (Err url_errors.Port) given = given ≡ Err url_errors.Port
UrlParseAgrees (Err url_errors.OutOfMemory) given = Unit {0}
