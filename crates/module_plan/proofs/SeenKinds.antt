-- Nodes that were looked at, in the order of their paths.
use Rattle.std.proofs.Common.{◌≡◌, ℕ, List, [], ◌∷◌, Option, Some, None, false, cond, refl, sym, ap, ◌∙◌, subst}
use Rattle.std.specs.Prelude.{IfSome}
use Rattle.std.specs.List.{AllByRecursion}
use Rattle.std.specs.BTreeMap.{insert_entry}
use Rattle.std.specs.Map.{lookup}
use Rattle.std.specs.Cmp.Lexicographic.{slice_cmp}
use Rattle.std.specs.Ordering.{nat_cmp, is_eq, match_ordering}
use Rattle.std.specs.declared.cmp.Ordering.{Ordering}
use Rattle.std.specs.declared.cmp.Ordering.TheVariants.{Less, Equal, Greater}
use Rattle.std.proofs.lemmas.Map.Lookups.{exact_bytes}
use Rattle.worktree_fs.specs.Answers.{kind_of_lookup}
use Rattle.worktree_fs.specs.Tree.{Names, look}
use Rattle.worktree_fs.specs.declared.answers.NodeKind.{NodeKind}
use Rattle.module_plan.specs.Ways.{AreRecordedKindsRight}

abbrev by_bytes : List ℕ → List ℕ → Ordering
by_bytes = slice_cmp nat_cmp

abbrev kind_at : Names → List ℕ → Option NodeKind
kind_at t path = kind_of_lookup (look t path false)

-- they are of these kinds in a tree
abbrev Are : Names → List (List ℕ × Option NodeKind) → Type 0
Are t seen = AllByRecursion (λ (one : List ℕ × Option NodeKind). one.1 ≡ kind_of_lookup (look t one.0 false)) seen

found : (t : Names) (path : List ℕ) (seen : List (List ℕ × Option NodeKind)) (kind : Option NodeKind) → Are t seen
    → lookup (λ other. is_eq (by_bytes path other)) seen ≡ Some kind → kind ≡ kind_at t path
found t path [] kind are e = absurd (cc e)
found t path (one ∷ seen) kind are e = go (by_bytes path one.0) refl e (found t path seen kind are.1)
  where
    go : (o : Ordering) → by_bytes path one.0 ≡ o → cond (is_eq o) (Some one.1) (lookup (λ other. is_eq (by_bytes path other)) seen) ≡ Some kind
        → (lookup (λ other. is_eq (by_bytes path other)) seen ≡ Some kind → kind ≡ kind_at t path) → kind ≡ kind_at t path
    go Less k is later = later is
    go Equal k is later = let same : one.1 ≡ kind = cc is in sym same ∙ are.0 ∙ ap (kind_at t) (sym (exact_bytes path one.0 k))
    go Greater k is later = later is

more : (t : Names) (path : List ℕ) (kind : Option NodeKind) (seen : List (List ℕ × Option NodeKind)) → Are t seen → kind ≡ kind_at t path → Are t (insert_entry by_bytes seen path kind)
more t path kind [] are is = (is, tt)
more t path kind (other ∷ seen) are is = go (by_bytes path other.0) refl (more t path kind seen are.1 is)
  where
    go : (o : Ordering) → by_bytes path other.0 ≡ o → Are t (insert_entry by_bytes seen path kind)
        → Are t (match_ordering o ((path, kind) ∷ other ∷ seen) ((other.0, kind) ∷ seen) (other ∷ insert_entry by_bytes seen path kind))
    go Less k later = (is, are)
    go Equal k later = (is ∙ ap (kind_at t) (exact_bytes path other.0 k), are.1)
    go Greater k later = (are.0, later)

-- what is found at a path is the kind of the node that stands there
pub found_seen : (t : Names) (path : List ℕ) (seen : List (List ℕ × Option NodeKind)) (kind : Option (Option NodeKind)) → AreRecordedKindsRight (Some t) seen
    → kind ≡ lookup (λ other. is_eq (by_bytes path other)) seen → IfSome kind (λ k. k ≡ kind_of_lookup (look t path false))
found_seen t path seen None are e = tt
found_seen t path seen (Some kind) are e = found t path seen kind (are t refl) (sym e)

-- one more
pub seen_more : (told : Option Names) (path : List ℕ) (kind : Option NodeKind) (seen now : List (List ℕ × Option NodeKind)) → AreRecordedKindsRight told seen
    → ((t : Names) → told ≡ Some t → kind ≡ kind_of_lookup (look t path false)) → now ≡ insert_entry by_bytes seen path kind → AreRecordedKindsRight told now
seen_more told path kind seen now are is e = subst (AreRecordedKindsRight told) (sym e) (λ t tells. more t path kind seen (are t tells) (is t tells))
