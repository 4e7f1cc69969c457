-- A file that is not too deep.
use Rattle.std.proofs.Common.{◌≡◌, ℕ, List, [], zero, suc, Option, Some, None, Result, Ok, Err, true, refl, ap, subst, sym}
use Rattle.git_config_lite.specs.declared.metadata.Source.{Source}
use Rattle.git_config_lite.specs.Sections.{Section}
use Rattle.worktree_fs.specs.declared.worktree.Worktree.{Ghosts as WorktreeOf}
use Rattle.worktree_fs.specs.Tree.{Names}
use Rattle.git_config_files.specs.Conditions.{IncludeContext}
use Rattle.git_places.specs.Answers.{IsFoundOrFailed}
use Rattle.git_config_files.specs.Finds.{AnswersFromWorktree}
use Rattle.git_config_files.specs.Includes.{ReadKeysAtPath, expand_includes_behind_done_keys, expand_includes_of_keys, keys_with_includes_of_text, parse_keys_of_file, read_keys_expanding_includes_to_depth, read_optional_file_text, depth_error_if_file_exists}
use Rattle.git_config_files.proofs.Laws.{placed_is}
use Rattle.gitbase_core.specs.Steps.{and_then}
use Rattle.git_config_files.specs.declared.error.FilesError.{FilesError}
use Rattle.git_config_files.specs.declared.error.FilesError.TheVariants as errors

-- what a file says, where its keys are gone through one by one
abbrev pub in_order : Names → IncludeContext → ReadKeysAtPath → Source → List ℕ → Option (List ℕ) → Result (List Section) FilesError
in_order t known follow source path None = Ok []
in_order t known follow source path (Some bytes) = and_then (expand_includes_behind_done_keys t known follow path []) (parse_keys_of_file source path bytes)

same_keys : (t : Names) (known : IncludeContext) (follow : ReadKeysAtPath) (path : List ℕ) (r : Result (List Section) FilesError)
    → and_then (expand_includes_behind_done_keys t known follow path []) r ≡ and_then (expand_includes_of_keys t known follow path) r
same_keys t known follow path (Err e) = refl
same_keys t known follow path (Ok keys) = placed_is t known follow path keys

same_file : (t : Names) (known : IncludeContext) (follow : ReadKeysAtPath) (source : Source) (path : List ℕ) (r : Result (Option (List ℕ)) FilesError)
    → and_then (in_order t known follow source path) r ≡ and_then (keys_with_includes_of_text t known follow source path) r
same_file t known follow source path (Err e) = refl
same_file t known follow source path (Ok None) = refl
same_file t known follow source path (Ok (Some bytes)) = same_keys t known follow path (parse_keys_of_file source path bytes)

-- what is found may be said in other words
pub found_as : {W A : Type 0} (w : WorktreeOf W) (before now : W) (found other : Names → Result A FilesError) (result : Result A FilesError)
    → ((t : Names) → found t ≡ other t) → AnswersFromWorktree w before now found result → AnswersFromWorktree w before now other result
found_as {A = A} w before now found other result same finds =
    record {
      gives = λ t told. subst (λ (r : Result A FilesError). IsFoundOrFailed errors.Fault errors.OutOfMemory result r) (same t) (finds.gives t told);
      cause = finds.cause;
      unfaulted = finds.unfaulted;
      keeps = finds.keeps;
    }

deeper : (t : Names) (known : IncludeContext) (source : Source) (below : ℕ) (path : List ℕ)
    → and_then (in_order t known (read_keys_expanding_includes_to_depth t known source below) source path) (read_optional_file_text t path) ≡ read_keys_expanding_includes_to_depth t known source (suc below) path
unfolding read_keys_expanding_includes_to_depth
deeper t known source below path = same_file t known (read_keys_expanding_includes_to_depth t known source below) source path (read_optional_file_text t path)

pub stepped : {W : Type 0} (w : WorktreeOf W) (before now : W) (known : IncludeContext) (source : Source) (levels below : ℕ) (path : List ℕ) (result : Result (List Section) FilesError)
    → levels ≡ suc below
    → AnswersFromWorktree w before now (λ t. and_then (in_order t known (read_keys_expanding_includes_to_depth t known source below) source path) (read_optional_file_text t path)) result
    → AnswersFromWorktree w before now (λ t. read_keys_expanding_includes_to_depth t known source levels path) result
stepped w before now known source levels below path result e finds =
    subst (λ (n : ℕ). AnswersFromWorktree w before now (λ t. read_keys_expanding_includes_to_depth t known source n path) result) (sym e)
    (found_as w before now _ (λ t. read_keys_expanding_includes_to_depth t known source (suc below) path) result (λ t. deeper t known source below path) finds)

-- a file that is refused is refused at every depth
pub refused : (t : Names) (known : IncludeContext) (source : Source) (levels : ℕ) (path : List ℕ) (e : FilesError)
    → read_optional_file_text t path ≡ Err e → read_keys_expanding_includes_to_depth t known source levels path ≡ Err e
unfolding read_keys_expanding_includes_to_depth
refused t known source zero path e is = ap (and_then (depth_error_if_file_exists path)) is
refused t known source (suc levels) path e is = ap (and_then (keys_with_includes_of_text t known (read_keys_expanding_includes_to_depth t known source levels) source path)) is
