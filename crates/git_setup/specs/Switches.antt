-- What the configuration says of how names compare, and of a sparse work tree.
use Rattle.std.specs.Prelude.{ℕ, Bool, true, false, not, ◌&&◌, List, codes, Option, Some, None, Result, Ok, Err}
use Rattle.git_config_lite.specs.Lookups.{last_boolean_value}
use Rattle.git_config_lite.specs.Sections.{Section}
use Rattle.git_places.specs.Format.{file_of_last_section_with_key}
use Rattle.git_setup.specs.Steps.{◌>>=◌}
use Rattle.git_setup.specs.declared.error.GitRefusal.{GitRefusal}
use Rattle.git_setup.specs.declared.error.GitRefusal.TheVariants as errors
use Rattle.git_setup.specs.declared.switches.Switches.{Switches}

-- a key that is not set means the usual; a text that is no boolean is refused by its file and the key's name
abbrev pub boolean_default_or_refusal : Option (List ℕ) → List ℕ → Bool → Result (Option Bool) (List ℕ) → Result Bool GitRefusal
boolean_default_or_refusal file name usual (Ok None) = Ok usual
boolean_default_or_refusal file name usual (Ok (Some truth)) = Ok truth
boolean_default_or_refusal file name usual (Err text) = Err (errors.Boolean file name)

-- what the key `section.key` says as a boolean, the usual answer where nothing does; one that is no boolean is refused by its file and
-- this name
abbrev pub read_boolean_or_default : List Section → List ℕ → List ℕ → List ℕ → Bool → Result Bool GitRefusal
read_boolean_or_default sections section key name usual = boolean_default_or_refusal (file_of_last_section_with_key section key sections) name usual (last_boolean_value section None key sections)

-- `core.ignoreCase`; whether a skipped entry that is in the work tree counts as one that is not skipped; and `core.quotePath`, which is
-- usually true
unfoldable pub read_case_sparse_and_quote_switches : List Section → Result Switches GitRefusal
read_case_sparse_and_quote_switches sections = do
  folds ← read_boolean_or_default sections (codes "core") (codes "ignorecase") (codes "core.ignoreCase") false
  sparse ← read_boolean_or_default sections (codes "core") (codes "sparsecheckout") (codes "core.sparseCheckout") false
  expects ← read_boolean_or_default sections (codes "sparse") (codes "expectfilesoutsideofpatterns") (codes "sparse.expectFilesOutsideOfPatterns") false
  quotes ← read_boolean_or_default sections (codes "core") (codes "quotepath") (codes "core.quotePath") true
  Ok (record { ignore_case = folds; looks_for_skipped = sparse && not expects; quote_path = quotes })
