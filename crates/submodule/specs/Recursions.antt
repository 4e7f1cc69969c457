-- What `fetchRecurseSubmodules` says: a boolean, or the word `on-demand`.
use Rattle.std.specs.Prelude.{ℕ, List, codes, bytes_eq, Bool, true, false, Option, Some, option_map, Result, Ok, Err, if◌then◌else◌}
use Rattle.std.specs.Borrow.{Bor}
use Rattle.submodule.specs.declared.fetch_recurse.FetchRecurse.{FetchRecurse}
use Rattle.submodule.specs.declared.fetch_recurse.FetchRecurse.TheVariants.{OnDemand, Always, Never}

-- true is `Always` and false `Never`; no boolean is `OnDemand`
abbrev pub fetch_recurse_of_boolean : Bool → FetchRecurse
fetch_recurse_of_boolean true = Always
fetch_recurse_of_boolean false = Never

-- by what the value is as a boolean, or its text where it is none
abbrev pub fetch_recurse_of_boolean_or_text : Result (Option Bool) (List ℕ) → Result (Option FetchRecurse) (List ℕ)
fetch_recurse_of_boolean_or_text (Ok answer) = Ok (option_map fetch_recurse_of_boolean answer)
fetch_recurse_of_boolean_or_text (Err text) = if bytes_eq text (codes "on-demand") then Ok (Some OnDemand) else Err text

-- an answer, or the text that is refused
abbrev pub fetch_recurse_result_of_reference : Result (Option FetchRecurse) (Bor (List ℕ)) → Result (Option FetchRecurse) (List ℕ)
fetch_recurse_result_of_reference (Ok answer) = Ok answer
fetch_recurse_result_of_reference (Err text) = Err text.now
