-- The path specs that are asked for.
use Rattle.std.specs.Prelude.{ℕ, List, [], ◌∷◌, ◌++◌, Bool, true, not, ◌&&◌, map, codes, ok_or, Result, Ok, Err, if◌then◌else◌}
use Rattle.std.specs.List.{list_any}
use Rattle.gitbase_core.specs.Path.{is_empty}
use Rattle.glob_rules.specs.PathSpec.{PathSpec}
use Rattle.glob_rules.specs.PathSpecText.{parse_path_spec}
use Rattle.glob_rules.specs.declared.pathspec.Error.{Error}
use Rattle.glob_rules.specs.declared.pathspec.Error.TheVariants as faults
use Rattle.git_setup.specs.Placed.{path_below_root, split_pathspec_into_magic_and_path, resolve_pathspec_from_top}
use Rattle.gitbase_core.specs.Steps.{and_then}
use Rattle.git_setup.specs.Steps.{◌>>=◌}
use Rattle.git_setup.specs.declared.error.GitRefusal.{GitRefusal}
use Rattle.git_setup.specs.declared.error.GitRefusal.TheVariants as errors
use Rattle.git_setup.specs.declared.pathspecs.AskedSpecs.{AskedSpecs}
use Rattle.git_setup.specs.declared.each.AskedSpec.{AskedSpec}
use Rattle.git_setup.specs.declared.written.Written.{Written}

-- ---- what is asked for

-- a text that is asked for is told as it is
abbrev pub written_pathspec_of_text : List ℕ → Written
written_pathspec_of_text text = record { told = text; text = text }

-- the text asks for what is not to be meant
abbrev pub has_exclude_magic : List ℕ → Bool
has_exclude_magic text = (split_pathspec_into_magic_and_path text).excludes

-- the text asks for paths, not against them: it has none of `:!`, `:^` and `:(exclude)`
abbrev pub is_positive_pathspec : List ℕ → Bool
is_positive_pathspec text = not (has_exclude_magic text)

-- The directory `prefix` of the work tree itself is meant: where no text is asked for, unless it is the top, and where each excludes.
abbrev pub is_current_directory_implied : List ℕ → List (List ℕ) → Bool
is_current_directory_implied prefix [] = not (is_empty prefix)
is_current_directory_implied prefix (text ∷ texts) = not (list_any is_positive_pathspec (text ∷ texts))

-- it is told by its path, or, behind texts that exclude, as a dot
abbrev pub name_of_current_directory_spec : List ℕ → List (List ℕ) → List ℕ
name_of_current_directory_spec prefix [] = prefix ++ 47 ∷ []
name_of_current_directory_spec prefix (text ∷ texts) = codes "."

-- the directory as a path spec: `:(literal).`, so that no byte of its name reads as a wildcard
abbrev pub current_directory_pathspec : List ℕ → List (List ℕ) → Written
current_directory_pathspec prefix texts = record { told = name_of_current_directory_spec prefix texts; text = codes ":(literal)." }

-- the texts, and behind them the directory where it is meant: gitglossary(7), "pathspec", and the commands that look there
unfoldable pub pathspecs_with_implied_current_directory : Bool → List ℕ → List (List ℕ) → List Written
pathspecs_with_implied_current_directory prefers prefix texts =
    if prefers && is_current_directory_implied prefix texts then map written_pathspec_of_text texts ++ current_directory_pathspec prefix texts ∷ [] else map written_pathspec_of_text texts

-- ---- path specs

-- a text that is no path spec, or one of a path that leads out of the work tree
abbrev pub parsed_spec_or_refusal : List ℕ → Result PathSpec Error → Result PathSpec GitRefusal
parsed_spec_or_refusal text (Ok spec) = Ok spec
parsed_spec_or_refusal text (Err (faults.Parse at)) = Err (errors.PathSpec text)
parsed_spec_or_refusal text (Err faults.Normalize) = Err (errors.OutsidePath text)
parsed_spec_or_refusal text (Err faults.OutOfMemory) = Err errors.OutOfMemory

-- the path spec of a text from a directory of the work tree
abbrev pub parse_pathspec_from_prefix : Bool → List ℕ → List ℕ → List ℕ → Result PathSpec GitRefusal
parse_pathspec_from_prefix folds root prefix text = and_then (λ whole. parsed_spec_or_refusal text (parse_path_spec folds whole)) (resolve_pathspec_from_top root prefix text)

-- the path specs of some texts behind others, or the first that is refused
abbrev pub parse_all_pathspecs : Bool → List ℕ → List ℕ → List PathSpec → List Written → Result (List PathSpec) GitRefusal
parse_all_pathspecs folds root prefix done [] = Ok done
parse_all_pathspecs folds root prefix done (w ∷ written) =
    and_then (λ spec. parse_all_pathspecs folds root prefix (done ++ spec ∷ []) written) (parse_pathspec_from_prefix folds root prefix w.text)

-- one path spec for a search of its own, with the text that it is told by
abbrev pub single_spec_with_text : List ℕ → PathSpec → AskedSpec
single_spec_with_text told spec = record { text = told; spec = spec ∷ [] }

-- a path spec by itself, with the text that tells of it
abbrev pub parse_single_spec_with_text : Bool → List ℕ → List ℕ → Written → Result AskedSpec GitRefusal
parse_single_spec_with_text folds root prefix w = and_then (λ spec. Ok (single_spec_with_text w.told spec)) (parse_pathspec_from_prefix folds root prefix w.text)

-- a search of its own for each text, in order and behind those done, or the first refusal
abbrev pub parse_each_pathspec_alone : Bool → List ℕ → List ℕ → List AskedSpec → List Written → Result (List AskedSpec) GitRefusal
parse_each_pathspec_alone folds root prefix done [] = Ok done
parse_each_pathspec_alone folds root prefix done (w ∷ written) =
    and_then (λ alone. parse_each_pathspec_alone folds root prefix (done ++ alone ∷ []) written) (parse_single_spec_with_text folds root prefix w)

-- all together, and each by itself
unfoldable pub parse_specs_together_and_each : Bool → List ℕ → List ℕ → List Written → Result AskedSpecs GitRefusal
parse_specs_together_and_each folds root prefix written = do
  all ← parse_all_pathspecs folds root prefix [] written
  each ← parse_each_pathspec_alone folds root prefix [] written
  Ok (record { all = all; each = each })

-- the directory has to be in the work tree
abbrev pub needs_directory_in_work_tree : Bool → List (List ℕ) → Bool
needs_directory_in_work_tree prefers [] = prefers
needs_directory_in_work_tree prefers (text ∷ texts) = true

-- where no path spec is asked for: all is meant
abbrev pub empty_asked_specs : AskedSpecs
empty_asked_specs = record { all = []; each = [] }

-- the path specs of some texts from a directory
abbrev pub parse_pathspec_arguments : Bool → Bool → List ℕ → List ℕ → List (List ℕ) → Result AskedSpecs GitRefusal
parse_pathspec_arguments prefers folds root directory texts =
    if needs_directory_in_work_tree prefers texts
    then and_then (λ prefix. parse_specs_together_and_each folds root prefix (pathspecs_with_implied_current_directory prefers prefix texts)) (ok_or (path_below_root root directory) (errors.OutsideRoot directory root))
    else Ok empty_asked_specs
