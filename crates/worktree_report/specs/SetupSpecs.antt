-- The path specs of a setup.
use Rattle.std.specs.Prelude.{ℕ, List, Bool, true, false, ◌&&◌, Option, is_some, option_to_list}
use Rattle.std.specs.List.{flat_map}
use Rattle.std.specs.Result.{result_ok}
use Rattle.glob_rules.specs.PathSpec.{PathSpec}
use Rattle.glob_rules.specs.PathSpecText.{parse_path_spec}

-- the path spec of a text, where it is one; with the flag letters fold in each, whatever it says
abbrev pub parse_spec : Bool → List ℕ → Option PathSpec
parse_spec folds text = result_ok (parse_path_spec folds text)

-- a text is a path spec, whether letters fold or not
abbrev pub is_valid_spec : List ℕ → Bool
is_valid_spec text = is_some (parse_spec false text) && is_some (parse_spec true text)

-- the path specs of some texts, in their order
abbrev pub parse_valid_specs : Bool → List (List ℕ) → List PathSpec
parse_valid_specs folds texts = flat_map (λ text. option_to_list (parse_spec folds text)) texts
