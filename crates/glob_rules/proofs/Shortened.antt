-- What many paths have in common is one path that is shortened from path to path.
use Rattle.std.proofs.Common.{◌≡◌, ℕ, Bool, true, ◌&&◌, not, List, [], ◌∷◌, ◌++◌, length, take, Some, refl, ap, sym, ◌∙◌, subst, arith, append-nil}
use Rattle.std.specs.Prelude.{find}
use Rattle.std.proofs.lemmas.Bool.{and_parts}
use Rattle.std.proofs.lemmas.List.{append_assoc}
use Rattle.glob_rules.specs.declared.Case.TheVariants.{Sensitive}
use Rattle.glob_rules.specs.PathSpec.{PathSpec, is_prefix_by_whole_components}
use Rattle.glob_rules.specs.PathSpecs.{is_prefix_of_each_path, longest_common_prefix_path, stems_of_positive_specs, IsLongestCommonPrefixPath}
use Rattle.glob_rules.specs.PathSpecSteps.{shortened_to_common_prefix}
use Rattle.glob_rules.proofs.Longest.{prefix_front, longest_of}
use Rattle.glob_rules.proofs.Stems.{counted, stems_first}
use Rattle.glob_rules.proofs.Cuts.{prefix_itself, prefix_then, prefix_of_longer}

and_both : (a b : Bool) → a ≡ true → b ≡ true → (a && b) ≡ true
and_both a b h k = rw (h, k) refl

common_shorter : (paths : List (List ℕ)) (a f : List ℕ) → is_prefix_by_whole_components Sensitive a f ≡ true → is_prefix_of_each_path paths f ≡ true → is_prefix_of_each_path paths a ≡ true
common_shorter [] a f short h = refl
common_shorter (path ∷ paths) a f short h =
    let parts = and_parts (is_prefix_by_whole_components Sensitive f path) (is_prefix_of_each_path paths f) h in
    and_both (is_prefix_by_whole_components Sensitive a path) (is_prefix_of_each_path paths a) (prefix_then a f path short parts.0) (common_shorter paths a f short parts.1)

common_more : (paths : List (List ℕ)) (one front : List ℕ) → is_prefix_of_each_path paths front ≡ true → is_prefix_by_whole_components Sensitive front one ≡ true
    → is_prefix_of_each_path (paths ++ one ∷ []) front ≡ true
common_more [] one front h k = and_both (is_prefix_by_whole_components Sensitive front one) true k refl
common_more (path ∷ paths) one front h k =
    let parts = and_parts (is_prefix_by_whole_components Sensitive front path) (is_prefix_of_each_path paths front) h in
    and_both (is_prefix_by_whole_components Sensitive front path) (is_prefix_of_each_path (paths ++ one ∷ []) front) parts.0 (common_more paths one front parts.1 k)

common_less : (paths : List (List ℕ)) (one front : List ℕ) → is_prefix_of_each_path (paths ++ one ∷ []) front ≡ true
    → (is_prefix_of_each_path paths front ≡ true) × (is_prefix_by_whole_components Sensitive front one ≡ true)
common_less [] one front h = (refl, (and_parts (is_prefix_by_whole_components Sensitive front one) true h).0)
common_less (path ∷ paths) one front h =
    let parts = and_parts (is_prefix_by_whole_components Sensitive front path) (is_prefix_of_each_path (paths ++ one ∷ []) front) h in
    let more = common_less paths one front parts.1 in
    (and_both (is_prefix_by_whole_components Sensitive front path) (is_prefix_of_each_path paths front) parts.0 more.0, more.1)

-- with one path more
longest_then : (path : List ℕ) (paths : List (List ℕ)) (one front : List ℕ) → IsLongestCommonPrefixPath (path ∷ paths) front
    → IsLongestCommonPrefixPath (path ∷ paths ++ one ∷ []) (longest_common_prefix_path (front ∷ one ∷ []))
longest_then path paths one front h =
    let now = longest_common_prefix_path (front ∷ one ∷ []) in
    let found = longest_of front (one ∷ []) in
    let parts = and_parts (is_prefix_by_whole_components Sensitive now front) (is_prefix_of_each_path (one ∷ []) now) found.0 in
    let last = and_parts (is_prefix_by_whole_components Sensitive now one) true parts.1 in
    let own = and_parts (is_prefix_by_whole_components Sensitive front path) (is_prefix_of_each_path paths front) h.0 in (
      common_more (path ∷ paths) one now (common_shorter (path ∷ paths) now front parts.0 h.0) last.0,
      λ other k.
          let less = common_less (path ∷ paths) one other k in
          let first = and_parts (is_prefix_by_whole_components Sensitive other path) (is_prefix_of_each_path paths other) less.0 in
          let of_front = prefix_of_longer other front path first.0 own.0 (h.1 other less.0) in
          found.1 other (and_both (is_prefix_by_whole_components Sensitive other front) (is_prefix_of_each_path (one ∷ []) other) of_front (and_both (is_prefix_by_whole_components Sensitive other one) true less.1 refl)),
    )

longest_all : (path : List ℕ) (paths more : List (List ℕ)) (front : List ℕ) → IsLongestCommonPrefixPath (path ∷ paths) front
    → IsLongestCommonPrefixPath (path ∷ paths ++ more) (shortened_to_common_prefix front more)
longest_all path paths [] front h = subst (λ (ps : List (List ℕ)). IsLongestCommonPrefixPath (path ∷ ps) front) (sym (append-nil paths)) h
longest_all path paths (one ∷ more) front h =
    subst (λ (ps : List (List ℕ)). IsLongestCommonPrefixPath (path ∷ ps) (shortened_to_common_prefix front (one ∷ more))) (append_assoc paths (one ∷ []) more)
    (longest_all path (paths ++ one ∷ []) more (longest_common_prefix_path (front ∷ one ∷ [])) (longest_then path paths one front h))

only_one : (path : List ℕ) (paths : List (List ℕ)) (a b : List ℕ) → IsLongestCommonPrefixPath (path ∷ paths) a → IsLongestCommonPrefixPath (path ∷ paths) b → a ≡ b
only_one path paths a b h k =
    let front_a = prefix_front a path (and_parts (is_prefix_by_whole_components Sensitive a path) (is_prefix_of_each_path paths a) h.0).0 in
    let front_b = prefix_front b path (and_parts (is_prefix_by_whole_components Sensitive b path) (is_prefix_of_each_path paths b) k.0).0 in
    let size : length a ≡ length b = omega (arith, h.1 b k.0, k.1 a h.0) in
    sym front_a.is ∙ ap (λ (n : ℕ). take n path) size ∙ front_b.is

longest_itself : (path : List ℕ) → IsLongestCommonPrefixPath (path ∷ []) path
longest_itself path = (
  and_both (is_prefix_by_whole_components Sensitive path path) true (prefix_itself path) refl,
  λ other h. (prefix_front other path (and_parts (is_prefix_by_whole_components Sensitive other path) true h).0).fits,
)

said_once : (path : List ℕ) (paths : List (List ℕ)) (front : List ℕ) → IsLongestCommonPrefixPath (path ∷ path ∷ paths) front → IsLongestCommonPrefixPath (path ∷ paths) front
said_once path paths front h = (
  (and_parts (is_prefix_by_whole_components Sensitive front path) (is_prefix_of_each_path (path ∷ paths) front) h.0).1,
  λ other k.
      let first = and_parts (is_prefix_by_whole_components Sensitive other path) (is_prefix_of_each_path paths other) k in
      h.1 other (and_both (is_prefix_by_whole_components Sensitive other path) (is_prefix_of_each_path (path ∷ paths) other) first.0 k),
)

shortened_is : (path : List ℕ) (paths : List (List ℕ)) → shortened_to_common_prefix path (path ∷ paths) ≡ longest_common_prefix_path (path ∷ paths)
shortened_is path paths =
    only_one path paths (shortened_to_common_prefix path (path ∷ paths)) (longest_common_prefix_path (path ∷ paths))
    (said_once path paths (shortened_to_common_prefix path (path ∷ paths)) (longest_all path [] (path ∷ paths) path (longest_itself path))) (longest_of path paths)

-- the first positive spec's stem, shortened from spec to spec
pub shortened_first : (specs : List PathSpec) (first : PathSpec) (path : List ℕ) → find (λ (s : PathSpec). not s.is_excluded) specs ≡ Some first → path ≡ counted first
    → shortened_to_common_prefix path (stems_of_positive_specs specs) ≡ longest_common_prefix_path (stems_of_positive_specs specs)
shortened_first specs first path h is =
    let begun = stems_first specs first h in
    let same : stems_of_positive_specs specs ≡ path ∷ begun.0 = begun.1 ∙ ap (λ (p : List ℕ). p ∷ begun.0) (sym is) in
    subst (λ (all : List (List ℕ)). shortened_to_common_prefix path all ≡ longest_common_prefix_path all) (sym same) (shortened_is path begun.0)
