-- What the layers below say of paths: all that the class of a path is judged by, and all that a walk is.
--
-- Paths are relative to the worktree root, which is the empty path.
use Rattle.std.specs.Prelude.{ℕ, Bool, false, not, ◌&&◌, List, Option, Some, None}
use Rattle.std.specs.Str.{bytes_eq}
use Rattle.glob_rules.specs.declared.pathspec.Match.{Match}
use Rattle.dir_classify.specs.declared.entry.Kind.{Kind}
use Rattle.dir_classify.specs.declared.excludes.Ruling.{Ruling}
use Rattle.dir_classify.specs.declared.index.InIndex.{InIndex}

-- no rule decided
abbrev pub ruling_without_rule : Ruling
ruling_without_rule = record { kind = None; origin = None }

-- Whether a path, links followed, leads to a repository, and whether it leads to the git directory of the worktree itself.
pub record RepositoryTestResult : Type 0 where
  pub is_git : Bool
  pub is_own : Bool

-- it leads to a repository of its own
abbrev pub is_foreign_repository : RepositoryTestResult → Bool
is_foreign_repository at = at.is_git && not at.is_own

-- what a path is asked by is a function of it, and where needed of whether it is a directory: `None` where that is unknown
pub record PathEvidence : Type 0 where
  -- what the index says of a path
  pub in_index : List ℕ → InIndex
  -- whether a path spec may match a path or something beneath it, by what is known of whether it is a directory
  pub can_match : List ℕ → Option Bool → Bool
  -- how the path specs match it
  pub matched : List ℕ → Option Bool → Option Match
  -- whether they match all that lies beneath a directory
  pub covers : List ℕ → Bool
  -- whether ignore rules are given
  pub is_ruled : Bool
  -- what they say of a path
  pub ruling : List ℕ → Option Bool → Ruling
  -- some rules file that the rules of a path come from is refused
  pub is_unread : List ℕ → Bool
  -- the kind of the node at a path, a link there followed
  pub followed : List ℕ → Option Kind
  -- what a path leads to, and what `.git` in it leads to
  pub repository_at : List ℕ → RepositoryTestResult
  pub repository_in : List ℕ → RepositoryTestResult
  -- in deletion, the directory that must not go, as it is the current one
  pub blocked : Option (List ℕ)

-- a directory is the one that must not go
abbrev pub is_optional_path_equal : Option (List ℕ) → List ℕ → Bool
is_optional_path_equal None path = false
is_optional_path_equal (Some blocked) path = bytes_eq path blocked

-- it equals the directory that deletion must leave in place; none does where nothing is to be protected
abbrev pub is_protected_current_directory : PathEvidence → List ℕ → Bool
is_protected_current_directory ev path = is_optional_path_equal ev.blocked path
