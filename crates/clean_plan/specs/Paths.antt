-- Lists of paths.
use Rattle.std.specs.Prelude.{ℕ, List, Bool, not, map, filter}
use Rattle.std.specs.Cmp.Lexicographic.{slice_cmp}
use Rattle.std.specs.List.Sorted.{IsStrictlySortedBy}
use Rattle.std.specs.Ordering.{nat_cmp}
use Rattle.std.specs.Borrow.{Bor}
pub use Rattle.gitbase_core.specs.Among.{is_text_in_list}

-- what is lent
abbrev pub borrowed_bytes : Bor (List ℕ) → List ℕ
borrowed_bytes text = text.now

-- the bytes of paths
abbrev pub borrowed_byte_strings : List (Bor (List ℕ)) → List (List ℕ)
borrowed_byte_strings texts = map borrowed_bytes texts

-- a path is none of these
abbrev pub is_path_not_among : List (List ℕ) → List ℕ → Bool
is_path_not_among others path = not (is_text_in_list path others)

-- the paths but for these others, in their order
abbrev pub paths_without_others : List (List ℕ) → List (List ℕ) → List (List ℕ)
paths_without_others others paths = filter (is_path_not_among others) paths

-- they ascend strictly, byte by byte, so that none stands twice
abbrev pub AscendsStrictly : List (List ℕ) → Type 0
AscendsStrictly paths = IsStrictlySortedBy (slice_cmp nat_cmp) paths
