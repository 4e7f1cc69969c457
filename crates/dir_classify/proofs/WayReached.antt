-- How far the way to a traversal root came by what was read.
use Rattle.std.proofs.Common.{◌≡◌, ◌≤◌, ◌∙◌, ap, sym, ℕ, List, [], ◌∷◌, ◌++◌, Bool, true, Option, refl, subst, arith}
use Rattle.gitbase_core.specs.Path.{path_joined_with_slash}
use Rattle.dir_classify.specs.declared.classify.Outcome.{Outcome}
use Rattle.dir_classify.specs.declared.entry.Kind.{Kind}
use Rattle.dir_classify.specs.Chosen.{WalkOptions}
use Rattle.dir_classify.specs.Evidence.{PathEvidence}
use Rattle.dir_classify.specs.Kinds.{is_repository_kind}
use Rattle.dir_classify.specs.Way.{EndsWayFromPathAsRead, IsOutcomeOnWayAsRead, EndsWayFromRootAsRead, EndOfWayToRoot, way_continues_beneath, end_of_way_with_rules_read}
use Rattle.dir_classify.proofs.WayUnread.{yes-no}

class-earlier : (before then_ now : ℕ) (o : WalkOptions) (ev : PathEvidence) (kinds : List ℕ → Option Kind) (path : List ℕ) (c : Outcome) → before ≤ then_
    → IsOutcomeOnWayAsRead then_ now o ev kinds path c → IsOutcomeOnWayAsRead before now o ev kinds path c
class-earlier before then_ now o ev kinds path c later is =
    record {
      judged = record { failed = is.judged.failed; counted = omega (arith, later, is.judged.counted); class_is = is.judged.class_is };
      read = is.read;
    }

-- one component further
ends-grown : (before then_ now : ℕ) (o : WalkOptions) (ev : PathEvidence) (kinds : List ℕ → Option Kind) (p path name : List ℕ) (d c next : Outcome) (here in_repository : Bool) (names : List (List ℕ))
    → way_continues_beneath o path c in_repository ≡ true → IsOutcomeOnWayAsRead then_ now o ev kinds (path_joined_with_slash path name) next
    → EndsWayFromPathAsRead before then_ o ev kinds p d here names (end_of_way_with_rules_read path c in_repository true)
    → EndsWayFromPathAsRead before now o ev kinds p d here (names ++ name ∷ []) (end_of_way_with_rules_read (path_joined_with_slash path name) next in_repository true)
ends-grown before then_ now o ev kinds p path name d c next here in_repository [] goes is end =
    let same = end.1 in
    let goes_here = sym (ap (λ (r : EndOfWayToRoot). way_continues_beneath o r.path r.class r.in_repository) same) ∙ goes in
    let class_here = subst (λ (r : EndOfWayToRoot). IsOutcomeOnWayAsRead before now o ev kinds (path_joined_with_slash r.path name) next) same (class-earlier before then_ now o ev kinds (path_joined_with_slash path name) next end.0 is) in (
      λ yes. (next, now, class_here, (omega arith, ap (λ (r : EndOfWayToRoot). end_of_way_with_rules_read (path_joined_with_slash r.path name) next r.in_repository true) same)),
      λ no. absurd (yes-no (way_continues_beneath o p d here) goes_here no),
    )
ends-grown before then_ now o ev kinds p path name d c next here in_repository (n ∷ names) goes is end = (
  λ yes.
      let on = end.0 yes in
      (on.0, on.1, on.2, ends-grown on.1 then_ now o ev kinds (path_joined_with_slash p n) path name on.0 c next here in_repository names goes is on.3),
  λ no. absurd (yes-no true refl (ap (λ (r : EndOfWayToRoot). r.whole) (end.1 no).1)),
)

pub reached-grown : (before then_ now : ℕ) (o : WalkOptions) (ev : PathEvidence) (kinds : List ℕ → Option Kind) (path name : List ℕ) (c next : Outcome) (in_repository : Bool) (names : List (List ℕ))
    → way_continues_beneath o path c in_repository ≡ true → IsOutcomeOnWayAsRead then_ now o ev kinds (path_joined_with_slash path name) next
    → EndsWayFromRootAsRead before then_ o ev kinds names (end_of_way_with_rules_read path c in_repository true)
    → EndsWayFromRootAsRead before now o ev kinds (names ++ name ∷ []) (end_of_way_with_rules_read (path_joined_with_slash path name) next in_repository true)
reached-grown before then_ now o ev kinds path name c next in_repository names goes is at = (
  at.0,
  at.1,
  at.2,
  ends-grown at.1 then_ now o ev kinds [] path name at.0 c next (is_repository_kind at.0.disk_kind) in_repository names goes is at.3,
)
