-- Each key, what stands behind it, and the others: the order of the loop plays no part.
use Rattle.std.proofs.Common.{◌≡◌, ℕ, List, [], ◌∷◌, ◌++◌, Result, Ok, Err, refl, ap, sym, ◌∙◌, append_assoc}
use Rattle.std.proofs.lemmas.List.{append-nil}
use Rattle.git_config_lite.specs.Sections.{Section}
use Rattle.worktree_fs.specs.Tree.{Names}
use Rattle.git_config_files.specs.Conditions.{IncludeContext}
use Rattle.git_config_files.specs.Files.{ConfiguredFile, keys_of_files_behind_done, keys_of_files_with_includes}
use Rattle.git_config_files.specs.Includes.{ReadKeysAtPath, expand_includes_behind_done_keys, keys_included_by_key, read_keys_expanding_includes_to_depth, expand_includes_of_keys}
use Rattle.gitbase_core.specs.Steps.{and_then}
use Rattle.git_config_files.specs.declared.error.FilesError.{FilesError}

abbrev good : List Section → Result (List Section) FilesError
good l = Ok l

whole : (done : List Section) (key : Section) (more : List Section) (r : Result (List Section) FilesError)
    → and_then (λ (rest : List Section). Ok ((done ++ key ∷ more) ++ rest)) r
    ≡ and_then (λ (rest : List Section). Ok (done ++ rest)) (and_then (λ (rest : List Section). Ok ((key ∷ more) ++ rest)) r)
whole done key more (Err e) = refl
whole done key more (Ok rest) = ap good (append_assoc done (key ∷ more) rest)

one : (t : Names) (known : IncludeContext) (follow : ReadKeysAtPath) (from : List ℕ) (done : List Section) (key : Section) (keys : List Section) (b : Result (List Section) FilesError)
    → ((now : List Section) → expand_includes_behind_done_keys t known follow from now keys ≡ and_then (λ (rest : List Section). Ok (now ++ rest)) (expand_includes_of_keys t known follow from keys))
    → and_then (λ (more : List Section). expand_includes_behind_done_keys t known follow from (done ++ key ∷ more) keys) b
    ≡ and_then (λ (rest : List Section). Ok (done ++ rest)) (and_then (λ (more : List Section). and_then (λ (rest : List Section). Ok ((key ∷ more) ++ rest)) (expand_includes_of_keys t known follow from keys)) b)
one t known follow from done key keys (Err e) rest_is = refl
one t known follow from done key keys (Ok more) rest_is = rest_is (done ++ key ∷ more) ∙ whole done key more (expand_includes_of_keys t known follow from keys)

pub after_is : (t : Names) (known : IncludeContext) (follow : ReadKeysAtPath) (from : List ℕ) (done keys : List Section)
    → expand_includes_behind_done_keys t known follow from done keys ≡ and_then (λ (rest : List Section). Ok (done ++ rest)) (expand_includes_of_keys t known follow from keys)
unfolding expand_includes_behind_done_keys expand_includes_of_keys
after_is t known follow from done [] = ap good (sym (append-nil done))
after_is t known follow from done (key ∷ keys) = one t known follow from done key keys (keys_included_by_key t known follow from key) (λ now. after_is t known follow from now keys)

-- of a whole file the same
alike : (r : Result (List Section) FilesError) → and_then (λ (rest : List Section). Ok ([] ++ rest)) r ≡ r
alike (Err e) = refl
alike (Ok rest) = refl

pub placed_is : (t : Names) (known : IncludeContext) (follow : ReadKeysAtPath) (from : List ℕ) (keys : List Section)
    → expand_includes_behind_done_keys t known follow from [] keys ≡ expand_includes_of_keys t known follow from keys
placed_is t known follow from keys = after_is t known follow from [] keys ∙ alike (expand_includes_of_keys t known follow from keys)

-- ---- the same of several files

follows : (done more : List Section) (r : Result (List Section) FilesError)
    → and_then (λ (rest : List Section). Ok ((done ++ more) ++ rest)) r
    ≡ and_then (λ (rest : List Section). Ok (done ++ rest)) (and_then (λ (rest : List Section). Ok (more ++ rest)) r)
follows done more (Err e) = refl
follows done more (Ok rest) = ap good (append_assoc done more rest)

one_file : (t : Names) (known : IncludeContext) (done : List Section) (files : List ConfiguredFile) (b : Result (List Section) FilesError)
    → ((now : List Section) → keys_of_files_behind_done t known now files ≡ and_then (λ (rest : List Section). Ok (now ++ rest)) (keys_of_files_with_includes t known files))
    → and_then (λ (more : List Section). keys_of_files_behind_done t known (done ++ more) files) b
    ≡ and_then (λ (rest : List Section). Ok (done ++ rest)) (and_then (λ (more : List Section). and_then (λ (rest : List Section). Ok (more ++ rest)) (keys_of_files_with_includes t known files)) b)
one_file t known done files (Err e) rest_is = refl
one_file t known done files (Ok more) rest_is = rest_is (done ++ more) ∙ follows done more (keys_of_files_with_includes t known files)

stacked_after : (t : Names) (known : IncludeContext) (done : List Section) (files : List ConfiguredFile)
    → keys_of_files_behind_done t known done files ≡ and_then (λ (rest : List Section). Ok (done ++ rest)) (keys_of_files_with_includes t known files)
stacked_after t known done [] = ap good (sym (append-nil done))
stacked_after t known done (at ∷ files) = one_file t known done files (read_keys_expanding_includes_to_depth t known at.source 11 at.path) (λ now. stacked_after t known now files)

pub stacked_is : (t : Names) (known : IncludeContext) (files : List ConfiguredFile) → keys_of_files_behind_done t known [] files ≡ keys_of_files_with_includes t known files
stacked_is t known files = stacked_after t known [] files ∙ alike (keys_of_files_with_includes t known files)
