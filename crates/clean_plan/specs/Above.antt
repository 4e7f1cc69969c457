-- The directories above a path.
use Rattle.std.specs.Prelude.{◌≡◌, ◌⊎◌, ℕ, zero, suc, List, [], ◌∷◌, Bool, true, false, ◌&&◌, if◌then◌else◌, length, take}
use Rattle.std.specs.List.{list_any}
use Rattle.gitbase_core.specs.Path.{is_beneath_directory}

-- the fronts of a path that have fewer bytes than so many, the longest first
unfoldable pub prefixes_shorter_than_length : ℕ → List ℕ → List (List ℕ)
prefixes_shorter_than_length zero path = []
prefixes_shorter_than_length (suc n) path = take n path ∷ prefixes_shorter_than_length n path

-- among these fronts is a directory above the path, one that it lies beneath, that passes a test
abbrev pub any_ancestor_below_length_passes : (List ℕ → Bool) → ℕ → List ℕ → Bool
any_ancestor_below_length_passes test n path = list_any (λ d. is_beneath_directory d path && test d) (prefixes_shorter_than_length n path)

-- some directory above a path passes a test
abbrev pub any_ancestor_passes : (List ℕ → Bool) → List ℕ → Bool
any_ancestor_passes test path = any_ancestor_below_length_passes test (length path) path

-- of such a front that passes a test, the longest, how many bytes it has and one more; 0 where there is none
unfoldable pub length_past_longest_passing_ancestor : (List ℕ → Bool) → ℕ → List ℕ → ℕ
length_past_longest_passing_ancestor test zero path = 0
length_past_longest_passing_ancestor test (suc n) path = if is_beneath_directory (take n path) path && test (take n path) then suc n else length_past_longest_passing_ancestor test n path

-- A path is the first of those above another, or that one itself, that passes a test: it passes, or is the last, and none above
-- it passes.
pub record IsFirstPassingAncestorOrSelf (test : List ℕ → Bool) (path target : List ℕ) : Type 0 where
  pub which : (target ≡ path) ⊎ ((is_beneath_directory target path ≡ true) × (test target ≡ true))
  pub none_above : any_ancestor_passes test target ≡ false

-- No directory above a known path passes a test; and it does itself, if it is said to.
pub record NoAncestorButMaybeSelfPasses (test : List ℕ → Bool) (path : List ℕ) (passes : Bool) : Type 0 where
  pub none_above : any_ancestor_passes test path ≡ false
  pub passed : passes ≡ true → test path ≡ true
