-- Where a path may be cut, so that what stands before is a prefix of it.
use Rattle.std.proofs.Common.{◌≡◌, ℕ, zero, suc, ◌+◌, ◌-◌, ◌≤◌, ◌<◌, Bool, true, false, cond, ◌&&◌, ◌||◌, List, [], ◌∷◌, ◌++◌, length, take, drop, map, nat_eq, Some, None, is_some, inl, inr, refl, ap, sym, ◌∙◌, subst, arith, append-nil}
use Rattle.std.specs.Str.{bytes_eq}
use Rattle.std.specs.List.{common_prefix_len}
use Rattle.std.proofs.lemmas.Bool.{and_parts, or_right, cases_Bool, cond-true, cond-false, false≢true}
use Rattle.std.proofs.lemmas.List.{append_assoc, take-append-drop, take-append-le, drop-append-le, length-take-le, take-take}
use Rattle.std.proofs.lemmas.Bool.Decides.{Decides-eqb}
use Rattle.std.proofs.lemmas.List.Sums.{common_prefix_len-le}
use Rattle.std.proofs.lemmas.Slice.Eq.{bytes_eq-Decides}
use Rattle.gitbase_core.specs.Path.{is_empty}
use Rattle.glob_rules.specs.declared.Case.TheVariants.{Sensitive}
use Rattle.glob_rules.specs.Class.{lowercased_if_folding}
use Rattle.glob_rules.specs.Rule.{is_empty_or_root_path, rest_without_separating_slash}
use Rattle.glob_rules.specs.PathSpec.{is_beneath_in_case_mode, is_prefix_by_whole_components}
use Rattle.glob_rules.specs.PathSpecs.{is_prefix_of_each_path, longest_front_passing_test, longest_common_prefix_path}
use Rattle.glob_rules.specs.PathSpecSteps.{is_cut_at_component_boundary}
use Rattle.glob_rules.proofs.Fronts.{same_parts, beneath_parts}
use Rattle.glob_rules.proofs.Longest.{prefix_front}

both_true : (e r s t : Bool) → t ≡ true → ((e || (t && r)) || (t && s)) ≡ (e || (r || s))
both_true true r s true h = refl
both_true false r s true h = refl
both_true e r s false h = absurd (false≢true h)

-- a front of a path is a prefix of it where it is empty, or the path may be cut behind it
pub prefix_is : (front rest : List ℕ) → is_prefix_by_whole_components Sensitive front (front ++ rest) ≡ (is_empty front || is_cut_at_component_boundary front rest)
prefix_is front rest =
    ap (λ (t : Bool). (is_empty front || t) || is_beneath_in_case_mode Sensitive front (front ++ rest)) (same_parts Sensitive front front rest refl)
    ∙ ap (λ (t : Bool). (is_empty front || (bytes_eq (map (lowercased_if_folding Sensitive) front) (map (lowercased_if_folding Sensitive) front) && is_empty rest)) || t) (beneath_parts Sensitive front front rest refl)
    ∙ both_true (is_empty front) (is_empty rest) (is_some (rest_without_separating_slash (is_empty_or_root_path front) rest)) (bytes_eq (map (lowercased_if_folding Sensitive) front) (map (lowercased_if_folding Sensitive) front))
    ((bytes_eq-Decides (map (lowercased_if_folding Sensitive) front) (map (lowercased_if_folding Sensitive) front)).1 refl)

-- of what is cut off the first byte counts
pub cut_tail : (front : List ℕ) (x : ℕ) (xs ys : List ℕ) → is_cut_at_component_boundary front (x ∷ xs) ≡ is_cut_at_component_boundary front (x ∷ ys)
cut_tail front x xs ys = go (is_empty_or_root_path front) (nat_eq x 47)
  where
    go : (t b : Bool) → is_some (cond t (Some (x ∷ xs)) (cond b (Some xs) None)) ≡ is_some (cond t (Some (x ∷ ys)) (cond b (Some ys) None))
    go true b = refl
    go false true = refl
    go false false = refl

-- a prefix of a path, by what follows it
pub record Led (front path : List ℕ) : Type 0 where
  pub rest : List ℕ
  pub left_over : drop (length front) path ≡ rest
  pub whole : path ≡ front ++ rest
  pub cut : (is_empty front || is_cut_at_component_boundary front rest) ≡ true

pub led : (front path : List ℕ) → is_prefix_by_whole_components Sensitive front path ≡ true → Led front path
led front path h =
    let f = prefix_front front path h in
    let is : path ≡ front ++ drop (length front) path =
    sym (take-append-drop (length front) path) ∙ ap (λ (p : List ℕ). p ++ drop (length front) path) f.is in
    record {
      rest = drop (length front) path;
      left_over = refl;
      whole = is;
      cut = sym (prefix_is front (drop (length front) path)) ∙ ap (λ (p : List ℕ). is_prefix_by_whole_components Sensitive front p) (sym is) ∙ h;
    }

by_rest : (front path rest : List ℕ) → path ≡ front ++ rest → (is_empty front || is_cut_at_component_boundary front rest) ≡ true → is_prefix_by_whole_components Sensitive front path ≡ true
by_rest front path rest whole cut = ap (λ (p : List ℕ). is_prefix_by_whole_components Sensitive front p) whole ∙ prefix_is front rest ∙ cut

pub prefix_itself : (path : List ℕ) → is_prefix_by_whole_components Sensitive path path ≡ true
prefix_itself path = by_rest path path [] (sym (append-nil path)) (or_right (is_empty path) (is_cut_at_component_boundary path []) refl)

-- a prefix of a prefix
pub prefix_then : (a b c : List ℕ) → is_prefix_by_whole_components Sensitive a b ≡ true → is_prefix_by_whole_components Sensitive b c ≡ true → is_prefix_by_whole_components Sensitive a c ≡ true
prefix_then a b c h k = let one = led a b h in let two = led b c k in go one.rest one.whole one.cut two.rest two.whole
  where
    go : (r : List ℕ) → b ≡ a ++ r → (is_empty a || is_cut_at_component_boundary a r) ≡ true → (s : List ℕ) → c ≡ b ++ s → is_prefix_by_whole_components Sensitive a c ≡ true
    go [] whole cut s behind = subst (λ (p : List ℕ). is_prefix_by_whole_components Sensitive p c ≡ true) (whole ∙ append-nil a) k
    go (x ∷ r) whole cut s behind =
        by_rest a c (x ∷ r ++ s) (behind ∙ ap (λ (p : List ℕ). p ++ s) whole ∙ append_assoc a (x ∷ r) s)
        (ap (λ (t : Bool). is_empty a || t) (cut_tail a x (r ++ s) r) ∙ cut)

-- of two prefixes of a path the shorter is one of the longer
pub prefix_of_longer : (a f path : List ℕ) → is_prefix_by_whole_components Sensitive a path ≡ true → is_prefix_by_whole_components Sensitive f path ≡ true → length a ≤ length f
    → is_prefix_by_whole_components Sensitive a f ≡ true
prefix_of_longer a f path h k short =
    let one = led a path h in
    let two = led f path k in
    let front = prefix_front a path h in
    let cut_f : take (length a) f ≡ a =
    sym (take-append-le (length a) f two.rest short) ∙ ap (λ (p : List ℕ). take (length a) p) (sym two.whole) ∙ front.is in
    let is : f ≡ a ++ drop (length a) f = sym (take-append-drop (length a) f) ∙ ap (λ (p : List ℕ). p ++ drop (length a) f) cut_f in
    let left : one.rest ≡ drop (length a) f ++ two.rest =
    sym one.left_over ∙ ap (λ (p : List ℕ). drop (length a) p) two.whole ∙ drop-append-le (length a) f two.rest short in
    go (drop (length a) f) is two.rest (ap (λ (r : List ℕ). is_empty a || is_cut_at_component_boundary a r) (sym left) ∙ one.cut)
  where
    go : (m : List ℕ) → f ≡ a ++ m → (s : List ℕ) → (is_empty a || is_cut_at_component_boundary a (m ++ s)) ≡ true → is_prefix_by_whole_components Sensitive a f ≡ true
    go [] is s cut = by_rest a f [] is (or_right (is_empty a) (is_cut_at_component_boundary a []) refl)
    go (x ∷ m) is s cut = by_rest a f (x ∷ m) is (ap (λ (t : Bool). is_empty a || t) (cut_tail a x m (m ++ s)) ∙ cut)

-- ---- what two paths have in common

-- a front that two paths have in common is not longer than the bytes that they have in common
pub within_same : (k : ℕ) (xs ys : List ℕ) → k ≤ length xs → k ≤ length ys → take k xs ≡ take k ys → k ≤ common_prefix_len nat_eq xs ys
within_same zero xs ys left right same = omega arith
within_same (suc k) [] ys left right same = absurd (omega arith)
within_same (suc k) (x ∷ xs) [] left right same = absurd (omega arith)
within_same (suc k) (x ∷ xs) (y ∷ ys) left right same =
    let first : x ≡ y = cc in
    let more : take k xs ≡ take k ys = cc in
    let deep = within_same k xs ys (omega arith) (omega arith) more in
    let tied : nat_eq x y ≡ true = (Decides-eqb x y).1 first in
    omega (arith, cond-true {A = ℕ} (nat_eq x y) (1 + common_prefix_len nat_eq xs ys) 0 tied)

one_more : (n a b : ℕ) (xs ys : List ℕ) → a ≡ b → take n xs ≡ take n ys → take (1 + n) (a ∷ xs) ≡ take (1 + n) (b ∷ ys)
one_more n a b xs ys first rest =
    ap (λ (k : ℕ). take k (a ∷ xs)) {x = 1 + n} {y = suc n} (omega arith)
    ∙ ap (λ (x : ℕ). x ∷ take n xs) first
    ∙ ap (λ (r : List ℕ). b ∷ r) rest
    ∙ ap (λ (k : ℕ). take k (b ∷ ys)) {x = suc n} {y = 1 + n} (omega arith)

same_here : (x y : ℕ) (xs ys : List ℕ) → take (common_prefix_len nat_eq xs ys) xs ≡ take (common_prefix_len nat_eq xs ys) ys
    → take (common_prefix_len nat_eq (x ∷ xs) (y ∷ ys)) (x ∷ xs) ≡ take (common_prefix_len nat_eq (x ∷ xs) (y ∷ ys)) (y ∷ ys)
same_here x y xs ys more = go (nat_eq x y) refl
  where
    go : (b : Bool) → nat_eq x y ≡ b → take (cond b (1 + common_prefix_len nat_eq xs ys) 0) (x ∷ xs) ≡ take (cond b (1 + common_prefix_len nat_eq xs ys) 0) (y ∷ ys)
    go false h = refl
    go true h = let same : x ≡ y = (Decides-eqb x y).0 h in one_more (common_prefix_len nat_eq xs ys) x y xs ys same more

pub same_front : (xs ys : List ℕ) → take (common_prefix_len nat_eq xs ys) xs ≡ take (common_prefix_len nat_eq xs ys) ys
same_front [] ys = refl
same_front (x ∷ xs) [] = refl
same_front (x ∷ xs) (y ∷ ys) = same_here x y xs ys (same_front xs ys)

pub same_shorter : (k : ℕ) (xs ys : List ℕ) → k ≤ common_prefix_len nat_eq xs ys → take k xs ≡ take k ys
same_shorter k xs ys short =
    let n = common_prefix_len nat_eq xs ys in
    sym (take-take k n xs short) ∙ ap (λ (p : List ℕ). take k p) (same_front xs ys) ∙ take-take k n ys short

not_empty : (k : ℕ) (xs : List ℕ) → 0 < k → k ≤ length xs → is_empty (take k xs) ≡ false
not_empty zero xs some fits = absurd (omega arith)
not_empty (suc k) [] some fits = absurd (omega arith)
not_empty (suc k) (x ∷ xs) some fits = refl

pub front_is : (k : ℕ) (xs : List ℕ) → 0 < k → k ≤ length xs → is_prefix_by_whole_components Sensitive (take k xs) xs ≡ is_cut_at_component_boundary (take k xs) (drop k xs)
front_is k xs some fits =
    ap (λ (p : List ℕ). is_prefix_by_whole_components Sensitive (take k xs) p) (sym (take-append-drop k xs))
    ∙ prefix_is (take k xs) (drop k xs)
    ∙ ap (λ (t : Bool). t || is_cut_at_component_boundary (take k xs) (drop k xs)) (not_empty k xs some fits)

and_true : (a b : Bool) → (a && (b && true)) ≡ (a && b)
and_true true true = refl
and_true true false = refl
and_true false b = refl

-- whether a front is one of both
pub common_at : (k : ℕ) (xs ys : List ℕ) → 0 < k → k ≤ common_prefix_len nat_eq xs ys
    → is_prefix_of_each_path (xs ∷ ys ∷ []) (take k xs) ≡ (is_cut_at_component_boundary (take k xs) (drop k xs) && is_cut_at_component_boundary (take k ys) (drop k ys))
common_at k xs ys some short =
    let le = common_prefix_len-le nat_eq xs ys in
    and_true (is_prefix_by_whole_components Sensitive (take k xs) xs) (is_prefix_by_whole_components Sensitive (take k xs) ys)
    ∙ ap (λ (t : Bool). t && is_prefix_by_whole_components Sensitive (take k xs) ys) (front_is k xs some (omega (arith, le)))
    ∙ ap (λ (p : List ℕ). is_cut_at_component_boundary (take k xs) (drop k xs) && is_prefix_by_whole_components Sensitive p ys) (same_shorter k xs ys short)
    ∙ ap (λ (t : Bool). is_cut_at_component_boundary (take k xs) (drop k xs) && t) (front_is k ys some (omega (arith, le)))

-- no front that is longer than the bytes that they have in common is
pub common_beyond : (k : ℕ) (xs ys : List ℕ) → common_prefix_len nat_eq xs ys < k → k ≤ length xs → is_prefix_of_each_path (xs ∷ ys ∷ []) (take k xs) ≡ false
common_beyond k xs ys long fits =
    elim (cases_Bool (is_prefix_of_each_path (xs ∷ ys ∷ []) (take k xs))) [
      | inl passes ↦
          (let own = and_parts (is_prefix_by_whole_components Sensitive (take k xs) xs) (is_prefix_by_whole_components Sensitive (take k xs) ys && true) passes in
          let other = and_parts (is_prefix_by_whole_components Sensitive (take k xs) ys) true own.1 in
          let front = prefix_front (take k xs) ys other.0 in
          let size = length-take-le k xs fits in
          absurd (omega (arith, within_same k xs ys fits (omega (arith, front.fits, size)) (sym (ap (λ (n : ℕ). take n ys) (sym size) ∙ front.is)))))
      | inr fails ↦ fails
    ]

longest_more : (test : List ℕ → Bool) (path : List ℕ) (n d : ℕ) → ((k : ℕ) → n < k → k ≤ d + n → test (take k path) ≡ false)
    → longest_front_passing_test test path n ≡ longest_front_passing_test test path (d + n)
unfolding longest_front_passing_test
longest_more test path n zero none = ap (λ (k : ℕ). longest_front_passing_test test path k) {x = n} {y = 0 + n} (omega arith)
longest_more test path n (suc d) none =
    longest_more test path n d (λ k low high. none k low (omega arith))
    ∙ sym (cond-false (test (take (suc (d + n)) path)) (take (suc (d + n)) path) (longest_front_passing_test test path (d + n)) (none (suc (d + n)) (omega arith) (omega arith)))
    ∙ ap (λ (k : ℕ). longest_front_passing_test test path k) {x = suc (d + n)} {y = suc d + n} (omega arith)

pub common_begins : (xs ys : List ℕ) (n : ℕ) → n ≡ common_prefix_len nat_eq xs ys → longest_front_passing_test (is_prefix_of_each_path (xs ∷ ys ∷ [])) xs n ≡ longest_common_prefix_path (xs ∷ ys ∷ [])
common_begins xs ys n is =
    let le = common_prefix_len-le nat_eq xs ys in
    let whole : (length xs - n) + n ≡ length xs = omega (arith, is, le) in
    longest_more (is_prefix_of_each_path (xs ∷ ys ∷ [])) xs n (length xs - n) (λ k low high. common_beyond k xs ys (omega (arith, is)) (omega (arith, whole)))
    ∙ ap (λ (m : ℕ). longest_front_passing_test (is_prefix_of_each_path (xs ∷ ys ∷ [])) xs m) whole
