-- What a variable of the environment says as a boolean.
use Rattle.std.specs.Prelude.{ℕ, Bool, false, codes, List, [], ◌∷◌, Option, Some, None, Result, Ok, Err}
use Rattle.git_config_lite.specs.Booleans.{parse_boolean}
use Rattle.git_config_lite.specs.Sections.{Section}
use Rattle.git_config_lite.specs.declared.metadata.Source.TheVariants as sources
use Rattle.git_places.specs.declared.error.PlacesError.{PlacesError}
use Rattle.git_places.specs.declared.error.PlacesError.TheVariants as errors

-- a text as the value of a key by itself
abbrev pub sections_with_lone_value : List ℕ → List Section
sections_with_lone_value text =
    record {
      name = codes "a";
      subsection = None;
      meta = record { source = sources.Env; path = None };
      entries = record { key = codes "k"; value = Some text } ∷ [];
    } ∷ []

-- the boolean, or `Value` with the name of the variable, which stands in no file
abbrev pub boolean_or_value_error : List ℕ → Option Bool → Result Bool PlacesError
boolean_or_value_error name None = Err (errors.Value None name)
boolean_or_value_error name (Some b) = Ok b

-- no where the variable is not set; a text that is no boolean is refused
abbrev pub boolean_of_variable_or_false : List ℕ → Option (List ℕ) → Result Bool PlacesError
boolean_of_variable_or_false name None = Ok false
boolean_of_variable_or_false name (Some text) = boolean_or_value_error name (parse_boolean text)
