-- How often the worktree is read to find repositories.
use Rattle.std.proofs.Common.{◌≡◌, ◌≤◌, ℕ, ◌+◌, List, [], ◌∷◌, ◌++◌, Bool, true, false, ◌||◌, refl, arith}
use Rattle.dir_classify.specs.Chosen.{WalkOptions, finds_bare_repositories_in_ignored}
use Rattle.dir_classify.specs.Reads.{most_reads_on_way, most_reads_to_classify_path, most_reads_of_repository_test}

-- ---- for the class of a path

-- at a directory that is a submodule in the index
pub most-indexed : (o : WalkOptions) → most_reads_of_repository_test o.recurse_repositories false ≤ most_reads_to_classify_path o
most-indexed o = go o.recurse_repositories (o.classify_untracked_bare_repositories || finds_bare_repositories_in_ignored o.for_deletion)
  where
    go : (a b : Bool) → most_reads_of_repository_test a false ≤ most_reads_of_repository_test a b
    go true b = omega arith
    go false true = omega arith
    go false false = omega arith

-- at an untracked directory
pub most-untracked : (o : WalkOptions) → most_reads_of_repository_test o.recurse_repositories o.classify_untracked_bare_repositories ≤ most_reads_to_classify_path o
most-untracked o = go o.recurse_repositories o.classify_untracked_bare_repositories (finds_bare_repositories_in_ignored o.for_deletion)
  where
    go : (a b c : Bool) → most_reads_of_repository_test a b ≤ most_reads_of_repository_test a (b || c)
    go true b c = omega arith
    go false true c = omega arith
    go false false true = omega arith
    go false false false = omega arith

-- at an ignored path
pub most-ignored : (o : WalkOptions) → most_reads_of_repository_test o.recurse_repositories (finds_bare_repositories_in_ignored o.for_deletion) ≤ most_reads_to_classify_path o
most-ignored o = go o.recurse_repositories o.classify_untracked_bare_repositories (finds_bare_repositories_in_ignored o.for_deletion)
  where
    go : (a b c : Bool) → most_reads_of_repository_test a c ≤ most_reads_of_repository_test a (b || c)
    go true b c = omega arith
    go false true true = omega arith
    go false true false = omega arith
    go false false c = omega arith

-- nothing where repositories are walked into
pub most-none : (o : WalkOptions) → o.recurse_repositories ≡ true → most_reads_to_classify_path o ≡ 0
most-none o on = rw on refl

-- ---- on the way

pub most-once : (most : ℕ) (names : List (List ℕ)) → most ≤ most_reads_on_way most names
most-once most [] = omega arith
most-once most (name ∷ names) = omega arith

pub most-longer : (most : ℕ) (names rest : List (List ℕ)) → most_reads_on_way most names ≤ most_reads_on_way most (names ++ rest)
most-longer most [] rest = most-once most rest
most-longer most (name ∷ names) rest = omega (arith, most-longer most names rest)

pub most-further : (most : ℕ) (names : List (List ℕ)) (name : List ℕ) → most_reads_on_way most (names ++ name ∷ []) ≡ most_reads_on_way most names + most
most-further most [] name = refl
most-further most (n ∷ names) name = omega (arith, most-further most names name)

pub most-nowhere : (names : List (List ℕ)) → most_reads_on_way 0 names ≡ 0
most-nowhere [] = refl
most-nowhere (name ∷ names) = omega (arith, most-nowhere names)
