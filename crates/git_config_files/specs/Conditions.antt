-- Which conditions of an include hold: git-config(1), "Conditional includes".
use Rattle.std.specs.Prelude.{ℕ, Bool, true, false, ◌&&◌, ◌||◌, ◌++◌, codes, drop, length, nat_eq, nat_lt, take, bytes_eq, is_some, List, [], ◌∷◌, Option, Some, None, Result, Ok, Err, if◌then◌else◌, unwrap_or}
use Rattle.std.specs.List.{ends_with}
use Rattle.gitbase_core.specs.Path.{is_absolute, parent}
use Rattle.gitbase_core.specs.Text.{eq_ignore_case}
use Rattle.glob_rules.specs.Glob.{matches}
use Rattle.glob_rules.specs.Rule.{wild_mode_of_rules}
use Rattle.glob_rules.specs.declared.Case.{Case}
use Rattle.glob_rules.specs.declared.Case.TheVariants as cases
use Rattle.worktree_fs.specs.Changes.{real_path}
use Rattle.worktree_fs.specs.Repository.{text_after_prefix}
use Rattle.worktree_fs.specs.Tree.{Names, is_empty}
use Rattle.git_config_files.specs.declared.error.FilesError.{FilesError}
use Rattle.git_config_files.specs.declared.error.FilesError.TheVariants as errors

-- a repository: its git directory without links and as it is spelled, and the branch, if there is one
pub record Repository : Type 0 where
  pub git : List ℕ
  pub spelled : List ℕ
  pub branch : Option (List ℕ)

-- by what includes are judged: the repository, where one is known, and the home, as it is spelled and without links
pub record IncludeContext : Type 0 where
  pub repository : Option Repository
  pub home : Option (List ℕ)
  pub real_home : Option (List ℕ)

-- ---- patterns

-- a pattern that ends in a slash means all that lies beneath
abbrev pub pattern_with_stars_after_slash : List ℕ → List ℕ
pattern_with_stars_after_slash pattern = if ends_with nat_eq pattern (47 ∷ []) then pattern ++ codes "**" else pattern

-- a pattern that begins with a `~` begins with the home, if there is one
abbrev pub pattern_with_tilde_expanded : Option (List ℕ) → Option (List ℕ) → List ℕ → List ℕ
pattern_with_tilde_expanded None rest pattern = pattern
pattern_with_tilde_expanded (Some home) None pattern = pattern
pattern_with_tilde_expanded (Some home) (Some rest) pattern = home ++ rest

-- one that is not absolute then may lie anywhere
abbrev pub with_double_star_unless_absolute : List ℕ → List ℕ
with_double_star_unless_absolute pattern = if is_absolute pattern then pattern else codes "**/" ++ pattern

-- `~` becomes the home, a pattern that is not absolute gets `**/` in front, and one that ends in `/` gets `**` behind
abbrev pub expanded_gitdir_pattern : Option (List ℕ) → List ℕ → List ℕ
expanded_gitdir_pattern home pattern = pattern_with_stars_after_slash (with_double_star_unless_absolute (pattern_with_tilde_expanded home (text_after_prefix (codes "~") pattern) pattern))

-- a wildcard pattern matches the whole path, where `*` and `?` take no slash
abbrev pub pattern_matches_path : Case → List ℕ → List ℕ → Bool
pattern_matches_path case pattern text = matches (wild_mode_of_rules case) pattern text

-- ---- `gitdir:` and `gitdir/i:`

-- two texts are equal, with or without regard to the case of letters
abbrev pub is_equal_in_case_mode : Case → List ℕ → List ℕ → Bool
is_equal_in_case_mode cases.Sensitive a b = bytes_eq a b
is_equal_in_case_mode cases.Fold a b = eq_ignore_case a b

-- what a text has behind a front; none where it does not begin so
abbrev pub text_after_prefix_in_case_mode : Case → List ℕ → List ℕ → Option (List ℕ)
text_after_prefix_in_case_mode case front text =
    if nat_lt (length text) (length front) then None
    else if is_equal_in_case_mode case (take (length front) text) front then Some (drop (length front) text) else None

-- no pattern matches where there is no text
abbrev pub pattern_matches_optional_text : Case → List ℕ → Option (List ℕ) → Bool
pattern_matches_optional_text case pattern None = false
pattern_matches_optional_text case pattern (Some text) = pattern_matches_path case pattern text

-- a pattern beneath a directory: an empty one, and one that ends in a slash, mean all that lies beneath
abbrev pub with_double_star_if_directory : List ℕ → List ℕ
with_double_star_if_directory rest = if is_empty rest || ends_with nat_eq rest (47 ∷ []) then rest ++ codes "**" else rest

-- either spelling of the git directory may match
abbrev pub either_git_directory_passes : Repository → (List ℕ → Bool) → Bool
either_git_directory_passes here test = test here.git || test here.spelled

-- a pattern beneath a directory matches the git directory without links, which has to lie there, or as it is spelled
abbrev pub git_directory_matches_beneath : Repository → Case → List ℕ → List ℕ → Option (List ℕ) → Bool
git_directory_matches_beneath here case front pattern None = false
git_directory_matches_beneath here case front pattern (Some real) =
    pattern_matches_path case pattern real || pattern_matches_optional_text case pattern (text_after_prefix_in_case_mode case front here.spelled)

-- the directory of a file, with a slash behind it
abbrev pub parent_directory_with_slash : List ℕ → List ℕ
parent_directory_with_slash file = unwrap_or (parent file) [] ++ 47 ∷ []

-- a pattern that begins with `./` is one beneath the directory of the file, whose path without links this is; the directory itself is no
-- pattern
abbrev pub git_directory_matches_beside_file : Repository → Case → List ℕ → List ℕ → Bool
git_directory_matches_beside_file here case file rest =
    git_directory_matches_beneath here case (parent_directory_with_slash file) (with_double_star_if_directory rest) (text_after_prefix_in_case_mode case (parent_directory_with_slash file) here.git)

-- whether what stands behind a `~` is the name of a user
abbrev pub begins_with_user_name : Option (List ℕ) → Bool
begins_with_user_name None = false
begins_with_user_name (Some []) = false
begins_with_user_name (Some (b ∷ rest)) = if nat_eq b 47 then false else true

-- whether a path is one that is not expanded here: `~USER` and `%(prefix)/`
abbrev pub begins_with_unsupported_home : List ℕ → Bool
begins_with_unsupported_home path = begins_with_user_name (text_after_prefix (codes "~") path) || is_some (text_after_prefix (codes "%(prefix)/") path)

-- a home that is the empty text, which is no path, in a pattern that begins with it
abbrev pub expands_to_empty_home : Option (List ℕ) → Option (List ℕ) → Bool
expands_to_empty_home None rest = false
expands_to_empty_home (Some home) None = false
expands_to_empty_home (Some home) (Some rest) = is_empty home

-- whether a pattern begins with a home that cannot be asked for
abbrev pub needs_unavailable_home : Option (List ℕ) → List ℕ → Bool
needs_unavailable_home home pattern = begins_with_unsupported_home pattern || expands_to_empty_home home (text_after_prefix (codes "~") pattern)

-- whether the git directory is where a pattern of the file `from` says
abbrev pub git_directory_matches_pattern : Names → Repository → Option (List ℕ) → List ℕ → Case → Option (List ℕ) → List ℕ → Bool
git_directory_matches_pattern t here home from case (Some rest) pattern = git_directory_matches_beside_file here case (unwrap_or (real_path t from (47 ∷ [])) from) rest
git_directory_matches_pattern t here home from case None pattern = either_git_directory_passes here (pattern_matches_path case (expanded_gitdir_pattern home pattern))

-- where no repository is known, no such condition holds
abbrev pub gitdir_condition_holds_if_repository : Names → Option (List ℕ) → List ℕ → Case → List ℕ → Option Repository → Result Bool FilesError
gitdir_condition_holds_if_repository t home from case pattern None = Ok false
gitdir_condition_holds_if_repository t home from case pattern (Some here) =
    if needs_unavailable_home home pattern then Err (errors.Home from)
    else Ok (git_directory_matches_pattern t here home from case (text_after_prefix (codes "./") pattern) pattern)

-- the git directory lies where the pattern says, with `~` as the home without links; refused where the home cannot be had
abbrev pub gitdir_condition_holds : Names → IncludeContext → List ℕ → Case → List ℕ → Result Bool FilesError
gitdir_condition_holds t known from case pattern = gitdir_condition_holds_if_repository t known.real_home from case pattern known.repository

-- ---- `onbranch:`

-- `onbranch:` holds where the branch matches, by the case of letters; a pattern that ends in `/` means all branches beneath
abbrev pub branch_matches_pattern : Option (List ℕ) → List ℕ → Bool
branch_matches_pattern None pattern = false
branch_matches_pattern (Some branch) pattern = pattern_matches_path cases.Sensitive (pattern_with_stars_after_slash pattern) branch

-- the branch of the repository; none where no repository is known or its `HEAD` names no branch
abbrev pub branch_of_optional_repository : Option Repository → Option (List ℕ)
branch_of_optional_repository None = None
branch_of_optional_repository (Some here) = here.branch

-- ---- all of them

-- what is said by what stands behind a mark, or by the rest where the mark does not stand there
abbrev pub answer_by_prefix_or_rest : Option (List ℕ) → (List ℕ → Result Bool FilesError) → Result Bool FilesError → Result Bool FilesError
answer_by_prefix_or_rest None said rest = rest
answer_by_prefix_or_rest (Some text) said rest = said text

-- a condition on the branch; one that asks for the configuration is not read, and one that is not known does not hold
abbrev pub non_gitdir_condition_holds : IncludeContext → List ℕ → List ℕ → Result Bool FilesError
non_gitdir_condition_holds known from condition =
    answer_by_prefix_or_rest (text_after_prefix (codes "onbranch:") condition) (λ pattern. Ok (branch_matches_pattern (branch_of_optional_repository known.repository) pattern))
    (answer_by_prefix_or_rest (text_after_prefix (codes "hasconfig:remote.*.url:") condition) (λ text. Err (errors.Condition from)) (Ok false))

-- whether a condition of the file `from` holds
abbrev pub include_condition_holds : Names → IncludeContext → List ℕ → List ℕ → Result Bool FilesError
include_condition_holds t known from condition =
    answer_by_prefix_or_rest (text_after_prefix (codes "gitdir:") condition) (gitdir_condition_holds t known from cases.Sensitive)
    (answer_by_prefix_or_rest (text_after_prefix (codes "gitdir/i:") condition) (gitdir_condition_holds t known from cases.Fold) (non_gitdir_condition_holds known from condition))
