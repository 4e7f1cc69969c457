-- Where the way to a traversal root ends lies at each path on it, or beneath.
use Rattle.std.proofs.Common.{◌≡◌, ◌∙◌, ap, sym, ℕ, List, [], ◌∷◌, Bool, true, false, Option}
use Rattle.std.proofs.lemmas.List.{append-nil}
use Rattle.std.specs.Prelude.{if◌then◌else◌}
use Rattle.gitbase_core.specs.Path.{components, path_joined_with_slash}
use Rattle.gitbase_core.proofs.Names.{AreNames}
use Rattle.worktree_fs.specs.Paths.{IsSinglePathComponent, slash_joined_components}
use Rattle.worktree_fs.proofs.Paths.Spelled.{component_from, grown-components, grown-is}
use Rattle.dir_classify.specs.declared.classify.Outcome.{Outcome}
use Rattle.dir_classify.specs.declared.entry.Kind.{Kind}
use Rattle.dir_classify.specs.Chosen.{WalkOptions}
use Rattle.dir_classify.specs.Evidence.{PathEvidence}
use Rattle.dir_classify.specs.Rooted.{IsPathOnWayToRoot}
use Rattle.dir_classify.specs.Way.{EndOfWayToRoot, way_continues_beneath, end_of_way_through_components, end_of_way_at_path, end_of_way_with_rules_read}
use Rattle.dir_classify.proofs.WayAsked.{leads-further}

leads-itself : (path : List ℕ) → path ≡ slash_joined_components (components path) → IsPathOnWayToRoot path path
leads-itself path is = record { spelled_is = is; rest = []; components_are = sym (append-nil (components path)) }

joined-spelled : (path name : List ℕ) → path ≡ slash_joined_components (components path) → IsSinglePathComponent name → path_joined_with_slash path name ≡ slash_joined_components (components (path_joined_with_slash path name))
joined-spelled path name is component = grown-is path name is component ∙ ap slash_joined_components (sym (grown-components path name is component))

pub leads-onward : (o : WalkOptions) (ev : PathEvidence) (kinds : List ℕ → Option Kind) (r : EndOfWayToRoot) (names : List (List ℕ)) → r.path ≡ slash_joined_components (components r.path) → AreNames names
    → IsPathOnWayToRoot (end_of_way_through_components o ev kinds r names).path r.path
leads-onward o ev kinds r [] is are = leads-itself r.path is
leads-onward o ev kinds r (name ∷ names) is are =
    let component = component_from name are.0 in
    go component (leads-onward o ev kinds (end_of_way_at_path o ev kinds r.in_repository r.is_unread (path_joined_with_slash r.path name)) names (joined-spelled r.path name is component) are.1) (way_continues_beneath o r.path r.class r.in_repository)
  where
    go : IsSinglePathComponent name → IsPathOnWayToRoot (end_of_way_through_components o ev kinds (end_of_way_at_path o ev kinds r.in_repository r.is_unread (path_joined_with_slash r.path name)) names).path (path_joined_with_slash r.path name) → (b : Bool)
        → IsPathOnWayToRoot (if b then end_of_way_through_components o ev kinds (end_of_way_at_path o ev kinds r.in_repository r.is_unread (path_joined_with_slash r.path name)) names else record r { whole = false }).path r.path
    go component ih true =
        leads-further _ (path_joined_with_slash r.path name) r.path ih.rest ih.components_are
        (record { spelled_is = is; rest = name ∷ []; components_are = grown-components r.path name is component })
    go component ih false = leads-itself r.path is

-- where it goes on beneath a path, at or beneath the next one too
pub leads-next : (o : WalkOptions) (ev : PathEvidence) (kinds : List ℕ → Option Kind) (path name : List ℕ) (names : List (List ℕ)) (c : Outcome) (in_repository : Bool)
    → way_continues_beneath o path c in_repository ≡ true → path ≡ slash_joined_components (components path) → IsSinglePathComponent name → AreNames names
    → IsPathOnWayToRoot (end_of_way_through_components o ev kinds (end_of_way_with_rules_read path c in_repository true) (name ∷ names)).path (path_joined_with_slash path name)
leads-next o ev kinds path name names c in_repository goes is component are = go (way_continues_beneath o path c in_repository) goes
  where
    go : (b : Bool) → b ≡ true
        → IsPathOnWayToRoot (if b then end_of_way_through_components o ev kinds (end_of_way_at_path o ev kinds in_repository false (path_joined_with_slash path name)) names else record (end_of_way_with_rules_read path c in_repository true) { whole = false }).path
        (path_joined_with_slash path name)
    go true e = leads-onward o ev kinds (end_of_way_at_path o ev kinds in_repository false (path_joined_with_slash path name)) names (joined-spelled path name is component) are
    go false e = absurd (cc e)
