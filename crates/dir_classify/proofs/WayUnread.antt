-- Where the rules of a path on the way to a traversal root cannot be read.
use Rattle.std.proofs.Common.{◌≡◌, ◌∙◌, ap, sym, ℕ, List, [], ◌∷◌, Bool, true, false, ◌&&◌, ◌||◌, Option, None, refl, inl, inr, arith}
use Rattle.std.specs.Prelude.{◌⊎◌, if◌then◌else◌}
use Rattle.gitbase_core.specs.Path.{path_joined_with_slash}
use Rattle.worktree_fs.specs.Causes.{CountIncreasedOrSaturated, CountNotIncreased}
use Rattle.worktree_stack.specs.Reading.{TreeAndObjects}
use Rattle.worktree_stack.specs.Setup.{StackSetup}
use Rattle.dir_classify.specs.declared.classify.Outcome.{Outcome}
use Rattle.dir_classify.specs.declared.entry.Kind.{Kind}
use Rattle.dir_classify.specs.Chosen.{WalkOptions}
use Rattle.dir_classify.specs.Class.{asks_ignore_rules as asks_of}
use Rattle.dir_classify.specs.Evidence.{PathEvidence}
use Rattle.dir_classify.specs.Layers.{WalkSetting, evidence_from_setting_and_sources, is_some_rules_file_unread, kind_on_disk_if_asked}
use Rattle.dir_classify.specs.Way.{EndOfWayToRoot, way_continues_beneath, end_of_way_through_components, end_of_way_at_path, end_of_way_with_rules_read, asks_unreadable_rules_on_way}

pub yes-no : (b : Bool) → b ≡ true → b ≡ false → ⊥
yes-no true e f = cc f
yes-no false e f = cc e

pub quiet-not : (n0 n1 : ℕ) → CountNotIncreased n0 n1 → CountIncreasedOrSaturated n0 n1 → ⊥
quiet-not n0 n1 quiet more = omega (arith, quiet, more)

pub either-unread : (P Q R S : Type 0) → (P → R) → (Q → S) → P ⊎ Q → R ⊎ S
either-unread P Q R S f g (inl p) = inl (f p)
either-unread P Q R S f g (inr q) = inr (g q)

pub unread-is : (given : WalkSetting) (made : Option StackSetup) (s : TreeAndObjects) (path : List ℕ) → (evidence_from_setting_and_sources given made s).is_unread path ≡ is_some_rules_file_unread made s path
unfolding evidence_from_setting_and_sources
unread-is given made s path = refl

pub unread-way : (given : WalkSetting) (now old : Option StackSetup) (s : TreeAndObjects) (path : List ℕ) → now ≡ old
    → asks_of given.options (evidence_from_setting_and_sources given now s) path (kind_on_disk_if_asked given s.tree path true) None ≡ true → is_some_rules_file_unread now s path ≡ true
    → asks_unreadable_rules_on_way given.options (evidence_from_setting_and_sources given old s) (λ p. kind_on_disk_if_asked given s.tree p true) path ≡ true
unread-way given now old s path same asks unread =
    ap (λ (m : Option StackSetup). asks_unreadable_rules_on_way given.options (evidence_from_setting_and_sources given m s) (λ p. kind_on_disk_if_asked given s.tree p true) path) (sym same)
    ∙ ap (λ b. b && (evidence_from_setting_and_sources given now s).is_unread path) asks ∙ unread-is given now s path ∙ unread

-- once they cannot, that stays so
pub unread-onward : (o : WalkOptions) (ev : PathEvidence) (kinds : List ℕ → Option Kind) (r : EndOfWayToRoot) (names : List (List ℕ)) → r.is_unread ≡ true → (end_of_way_through_components o ev kinds r names).is_unread ≡ true
unread-onward o ev kinds r [] e = e
unread-onward o ev kinds r (name ∷ names) e =
    go (unread-onward o ev kinds (end_of_way_at_path o ev kinds r.in_repository r.is_unread (path_joined_with_slash r.path name)) names (ap (λ b. b || asks_unreadable_rules_on_way o ev kinds (path_joined_with_slash r.path name)) e))
    (way_continues_beneath o r.path r.class r.in_repository)
  where
    go : (end_of_way_through_components o ev kinds (end_of_way_at_path o ev kinds r.in_repository r.is_unread (path_joined_with_slash r.path name)) names).is_unread ≡ true → (b : Bool) → (if b then end_of_way_through_components o ev kinds (end_of_way_at_path o ev kinds r.in_repository r.is_unread (path_joined_with_slash r.path name)) names else record r { whole = false }).is_unread ≡ true
    go ih true = ih
    go ih false = e

pub unread-step : (o : WalkOptions) (ev : PathEvidence) (kinds : List ℕ → Option Kind) (path name : List ℕ) (names : List (List ℕ)) (c : Outcome) (in_repository : Bool)
    → way_continues_beneath o path c in_repository ≡ true → asks_unreadable_rules_on_way o ev kinds (path_joined_with_slash path name) ≡ true → (end_of_way_through_components o ev kinds (end_of_way_with_rules_read path c in_repository true) (name ∷ names)).is_unread ≡ true
unread-step o ev kinds path name names c in_repository goes unread = go (way_continues_beneath o path c in_repository) goes
  where
    go : (b : Bool) → b ≡ true
        → (if b then end_of_way_through_components o ev kinds (end_of_way_at_path o ev kinds in_repository false (path_joined_with_slash path name)) names else record (end_of_way_with_rules_read path c in_repository true) { whole = false }).is_unread ≡ true
    go true e = unread-onward o ev kinds (end_of_way_at_path o ev kinds in_repository false (path_joined_with_slash path name)) names unread
    go false e = absurd (cc e)
