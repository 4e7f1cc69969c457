-- The classes on the way from the worktree root to a traversal root.
use Rattle.std.specs.Prelude.{◌≡◌, ◌≤◌, ℕ, ◌+◌, Bool, true, false, ◌||◌, if◌then◌else◌, List, [], ◌∷◌, ◌++◌, Option, None}
use Rattle.gitbase_core.specs.Path.{is_empty, path_joined_with_slash}
use Rattle.worktree_fs.specs.Paths.{slash_joined_components}
use Rattle.worktree_stack.specs.declared.error.AtPathError.{AtPathError}
use Rattle.dir_classify.specs.declared.entry.Kind.{Kind}
use Rattle.dir_classify.specs.declared.classify.Outcome.{Outcome}
use Rattle.dir_classify.specs.Chosen.{WalkOptions}
use Rattle.dir_classify.specs.Evidence.{PathEvidence}
use Rattle.dir_classify.specs.Faults.{IsRefusedByKindAsRead, IsOutcomeWithRulesRead}
use Rattle.dir_classify.specs.Kinds.{is_repository_kind}
use Rattle.dir_classify.specs.Class.{class, asks_ignore_rules, asks_unreadable_rules, enters}
use Rattle.dir_classify.specs.Question.{question_about_path_on_way}

-- The path that was classed last, its class, whether the worktree root is seen as a repository, and whether the path is the
-- whole traversal root; and whether the rules of some path on the way were asked and cannot be read.
pub record EndOfWayToRoot : Type 0 where
  pub path : List ℕ
  pub class : Outcome
  pub in_repository : Bool
  pub whole : Bool
  pub is_unread : Bool

-- the class of a path on the way, by the kind of each path on disk: that is known, and the disk is not asked
abbrev pub outcome_of_path_on_way : WalkOptions → PathEvidence → (List ℕ → Option Kind) → List ℕ → Outcome
outcome_of_path_on_way o ev kind_at path = class o ev path (kind_at path) None

-- its class asks the ignore rules, and a rules file above it is refused; its kind is known beforehand from the disk
abbrev pub asks_unreadable_rules_on_way : WalkOptions → PathEvidence → (List ℕ → Option Kind) → List ℕ → Bool
asks_unreadable_rules_on_way o ev kind_at path = asks_unreadable_rules o ev path (kind_at path) None

-- one path further
abbrev pub end_of_way_at_path : WalkOptions → PathEvidence → (List ℕ → Option Kind) → Bool → Bool → List ℕ → EndOfWayToRoot
end_of_way_at_path o ev kind_at in_repository unread path =
    record { path = path; class = outcome_of_path_on_way o ev kind_at path; in_repository = in_repository; whole = true; is_unread = unread || asks_unreadable_rules_on_way o ev kind_at path }

-- where the way stands, with the rules of all paths on it read
abbrev pub end_of_way_with_rules_read : List ℕ → Outcome → Bool → Bool → EndOfWayToRoot
end_of_way_with_rules_read path c in_repository whole = record { path = path; class = c; in_repository = in_repository; whole = whole; is_unread = false }

-- the way goes on beneath a path
abbrev pub way_continues_beneath : WalkOptions → List ℕ → Outcome → Bool → Bool
way_continues_beneath o path c in_repository = is_empty path || enters o c in_repository

-- On from a path through the components left, as long as the path reached is one that is entered. Of the worktree root that is not
-- asked.
abbrev pub end_of_way_through_components : WalkOptions → PathEvidence → (List ℕ → Option Kind) → EndOfWayToRoot → List (List ℕ) → EndOfWayToRoot
end_of_way_through_components o ev kind_at r [] = r
end_of_way_through_components o ev kind_at r (name ∷ names) =
    if way_continues_beneath o r.path r.class r.in_repository
    then end_of_way_through_components o ev kind_at (end_of_way_at_path o ev kind_at r.in_repository r.is_unread (path_joined_with_slash r.path name)) names
    else record r { whole = false }

-- the worktree root
abbrev pub end_of_way_at_worktree_root : WalkOptions → PathEvidence → (List ℕ → Option Kind) → EndOfWayToRoot
end_of_way_at_worktree_root o ev kind_at = end_of_way_at_path o ev kind_at (is_repository_kind (outcome_of_path_on_way o ev kind_at []).disk_kind) false []

-- Where the way from the worktree root through some components ends.
unfoldable pub end_of_way_from_worktree_root : WalkOptions → PathEvidence → (List ℕ → Option Kind) → List (List ℕ) → EndOfWayToRoot
end_of_way_from_worktree_root o ev kind_at names = end_of_way_through_components o ev kind_at (end_of_way_at_worktree_root o ev kind_at) names

-- a path on the way counts where its class asks the rules by its kind
unfoldable pub count_asking_rules_at_path : WalkOptions → PathEvidence → (List ℕ → Option Kind) → List ℕ → ℕ
count_asking_rules_at_path o ev kind_at path = if asks_ignore_rules o ev path (kind_at path) None then 1 else 0

-- how many paths on the way do, behind the one with the first components
abbrev pub count_asking_rules_behind_path : WalkOptions → PathEvidence → (List ℕ → Option Kind) → (first names : List (List ℕ)) → ℕ
count_asking_rules_behind_path o ev kind_at first [] = 0
count_asking_rules_behind_path o ev kind_at first (name ∷ names) =
    count_asking_rules_at_path o ev kind_at (slash_joined_components (first ++ name ∷ [])) + count_asking_rules_behind_path o ev kind_at (first ++ name ∷ []) names

-- ---- with faults

-- The class of a path on the way by what was read, with all rules read that are asked by that, where the faults were `before` and are `now`.
abbrev pub IsOutcomeOnWayAsRead : (before now : ℕ) → WalkOptions → PathEvidence → (List ℕ → Option Kind) → List ℕ → Outcome → Type 0
IsOutcomeOnWayAsRead before now o ev kind_at path c = IsOutcomeWithRulesRead before now (question_about_path_on_way o path) ev (kind_at path) c

-- The way ends there by what was read, where it stands at a path with this class and these components are left: on through the next
-- one exactly as long as the path reached is one that is entered. The faults were `before` at the path and are `now` at the end, so
-- that a fault was counted for each question that was misread.
abbrev pub EndsWayFromPathAsRead : (before now : ℕ) → WalkOptions → PathEvidence → (List ℕ → Option Kind) → List ℕ → Outcome → Bool → List (List ℕ) → EndOfWayToRoot → Type 0
EndsWayFromPathAsRead before now o ev kind_at path c in_repository [] r = (before ≤ now) × (r ≡ end_of_way_with_rules_read path c in_repository true)
EndsWayFromPathAsRead before now o ev kind_at path c in_repository (name ∷ names) r =
    (way_continues_beneath o path c in_repository ≡ true
    → (next : Outcome) × (then_ : ℕ) × IsOutcomeOnWayAsRead before then_ o ev kind_at (path_joined_with_slash path name) next × EndsWayFromPathAsRead then_ now o ev kind_at (path_joined_with_slash path name) next in_repository names r)
    × (way_continues_beneath o path c in_repository ≡ false → (before ≤ now) × (r ≡ end_of_way_with_rules_read path c in_repository false))

-- Where the way from the worktree root through some components ends by what was read.
abbrev pub EndsWayFromRootAsRead : (before now : ℕ) → WalkOptions → PathEvidence → (List ℕ → Option Kind) → List (List ℕ) → EndOfWayToRoot → Type 0
EndsWayFromRootAsRead before now o ev kind_at names r =
    (first : Outcome) × (then_ : ℕ) × IsOutcomeOnWayAsRead before then_ o ev kind_at [] first × EndsWayFromPathAsRead then_ now o ev kind_at [] first (is_repository_kind first.disk_kind) names r

-- The way is refused so by what was read: it came to a path, goes on beneath it, and of the next one the rules were asked by the kind
-- that was read there.
pub record IsRefusedOnWayAsRead (before now : ℕ) (o : WalkOptions) (ev : PathEvidence) (kind_at : List ℕ → Option Kind) (names : List (List ℕ)) (e : AtPathError) : Type 0 where
  pub first : List (List ℕ)
  pub name : List ℕ
  pub left : List (List ℕ)
  pub names_are : names ≡ first ++ name ∷ left
  pub above : EndOfWayToRoot
  pub then_ : ℕ
  pub reaches : EndsWayFromRootAsRead before then_ o ev kind_at first above
  pub whole : above.whole ≡ true
  pub goes : way_continues_beneath o above.path above.class above.in_repository ≡ true
  pub asked : IsRefusedByKindAsRead then_ now (λ kind. asks_ignore_rules o ev (path_joined_with_slash above.path name) kind None) (kind_at (path_joined_with_slash above.path name)) e
