-- The most files that are read to find repositories.
use Rattle.std.specs.Prelude.{ℕ, ◌+◌, Bool, ◌||◌, if◌then◌else◌, List, [], ◌∷◌}
use Rattle.dir_classify.specs.Chosen.{WalkOptions, finds_bare_repositories_in_ignored}

-- To look for a repository at a path, where repositories are not walked into: whether `.git` in it leads to one is told by three files
-- at most, the one there, and `commondir` and `HEAD` of the git directory; and so it is of the path itself, where bare ones are looked
-- for too.
abbrev pub most_reads_of_repository_test : (recurses hard : Bool) → ℕ
most_reads_of_repository_test recurses hard = if recurses then 0 else if hard then 6 else 3

-- For the class of a path, where a repository is looked for once at most: for bare ones too, where untracked directories or, in
-- deletion, ignored paths are tested for being one.
abbrev pub most_reads_to_classify_path : WalkOptions → ℕ
most_reads_to_classify_path o = most_reads_of_repository_test o.recurse_repositories (o.classify_untracked_bare_repositories || finds_bare_repositories_in_ignored o.for_deletion)

-- For the classes of the worktree root and of the paths through some components, by the most for each of them.
abbrev pub most_reads_on_way : ℕ → List (List ℕ) → ℕ
most_reads_on_way most [] = most
most_reads_on_way most (name ∷ names) = most + most_reads_on_way most names
