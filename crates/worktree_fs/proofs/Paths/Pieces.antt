-- How a text and several texts come apart into the components of a path.
use Rattle.std.proofs.Common.{◌≡◌, slice_index, ◌==◌, ℕ, zero, suc, ◌+◌, ◌-◌, ◌<◌, ◌≤◌, Bool, true, false, not, List, [], ◌∷◌, ◌++◌, length, take, drop, get_or, set, map, filter, refl, ap, sym, ◌∙◌, arith, append_assoc, Bor, eqb, drop-cons, subst, if◌then◌else◌, cond}
use Rattle.std.specs.List.{slice_split, onto_first}
use Rattle.std.proofs.lemmas.Bool.Decides.{nat_tests}
use Rattle.std.proofs.lemmas.List.{append-nil, map-append, nil_from_length, take_more, take_more_set}
use Rattle.std.proofs.lemmas.Bool.{eqb-true}
use Rattle.std.proofs.lemmas.List.Sums.{count_by-le-length}
use Rattle.std.proofs.lemmas.List.Splits.{length-slice_split}
use Rattle.gitbase_core.specs.Path.{components}
use Rattle.worktree_fs.specs.Tree.{is_empty, is_nil}
use Rattle.worktree_fs.specs.Route.{components_of_texts_last_first, begins_with_component, AllBeginWithComponent}
use Rattle.worktree_fs.proofs.Paths.Texts.{some_parts}
use Rattle.worktree_fs.proofs.Paths.Parts.{parts_cut, parts_whole}

abbrev full : List ℕ → Bool
full component = not (is_empty component)

-- the first component of a text ends before its first slash
pub pieces_cut : (text : List ℕ) (i : ℕ) → begins_with_component text ≡ true → i < length text → ((k : ℕ) → k < i → get_or text k 0 ≡ 47 → ⊥) → get_or text i 0 ≡ 47 → components text ≡ take i text ∷ components (drop i text)
pieces_cut [] i first lt free at = absurd (omega arith)
pieces_cut (b ∷ bs) zero first lt free at = absurd (grind (arith, nat_tests))
pieces_cut (b ∷ bs) (suc i) first lt free at =
    let s : suc i + 1 ≡ suc (suc i) = omega arith in
    ap (filter full) (parts_cut (b ∷ bs) (suc i) lt free at)
    ∙ ap (λ k. take (suc i) (b ∷ bs) ∷ components (drop k (b ∷ bs))) s
    ∙ ap (λ (l : List (List ℕ)). take (suc i) (b ∷ bs) ∷ l) (sym (ap components (drop-cons (b ∷ bs) (suc i) 0 lt) ∙ ap (λ c. components (c ∷ drop (suc (suc i)) (b ∷ bs))) at))

-- or is all of the text
pub pieces_whole : (text : List ℕ) → begins_with_component text ≡ true → ((k : ℕ) → k < length text → get_or text k 0 ≡ 47 → ⊥) → components text ≡ text ∷ []
pieces_whole [] first free = absurd (cc first)
pieces_whole (b ∷ bs) first free = ap (filter full) (parts_whole (b ∷ bs) free)

-- what begins with a component has one
pub some_component : (text : List ℕ) → begins_with_component text ≡ true → (x : List ℕ) × (xs : List (List ℕ)) × (components text ≡ x ∷ xs)
some_component [] first = absurd (cc first)
some_component (b ∷ bs) first =
    let some = some_parts bs in
    let is : not (b == 47) ≡ true = first in
    (b ∷ some.0, filter full some.1, ap (λ t. filter full (if t then [] ∷ slice_split (λ c. c == 47) bs else onto_first b (slice_split (λ c. c == 47) bs))) (is_not (b == 47) is) ∙ ap (λ (l : List (List ℕ)). filter full (onto_first b l)) some.2)
  where
    is_not : (t : Bool) → not t ≡ true → t ≡ false
    is_not false e = refl
    is_not true e = sym e

pub all_components-push : (texts : List (List ℕ)) (text : List ℕ) → components_of_texts_last_first (texts ++ text ∷ []) ≡ components text ++ components_of_texts_last_first texts
all_components-push [] text = sym (append-nil (components text))
all_components-push (t ∷ texts) text = ap (λ (l : List (List ℕ)). l ++ components t) (all_components-push texts text) ∙ append_assoc (components text) (components_of_texts_last_first texts) (components t)

AllBegin-push : (texts : List (List ℕ)) (text : List ℕ) → AllBeginWithComponent texts → begins_with_component text ≡ true → AllBeginWithComponent (texts ++ text ∷ [])
AllBegin-push [] text all first = (first, tt)
AllBegin-push (t ∷ texts) text all first = (all.0, AllBegin-push texts text all.1 first)

AllBegin-pop : (texts : List (List ℕ)) (text : List ℕ) → AllBeginWithComponent (texts ++ text ∷ []) → AllBeginWithComponent texts × (begins_with_component text ≡ true)
AllBegin-pop [] text all = (tt, all.0)
AllBegin-pop (t ∷ texts) text all =
    let more = AllBegin-pop texts text all.1 in
    ((all.0, more.0), more.1)

-- the first texts
abbrev pub first_texts : List (Bor (List ℕ)) → ℕ → List (List ℕ)
first_texts texts n = map (λ t. t.now) (take n texts)

abbrev pub left : List (Bor (List ℕ)) → ℕ → List (List ℕ)
left texts n = components_of_texts_last_first (first_texts texts n)

texts-last : (texts : List (Bor (List ℕ))) (n : ℕ) (d : Bor (List ℕ)) → n < length texts → first_texts texts (n + 1) ≡ first_texts texts n ++ (get_or texts n d).now ∷ []
texts-last texts n d lt =
    ap (map (λ (t : Bor (List ℕ)). t.now)) (take_more texts n d lt) ∙ map-append (λ (t : Bor (List ℕ)). t.now) (take n texts) (get_or texts n d ∷ [])

texts-set : (texts : List (Bor (List ℕ))) (n : ℕ) (t : Bor (List ℕ)) → n < length texts → first_texts (set texts n t) (n + 1) ≡ first_texts texts n ++ t.now ∷ []
texts-set texts n t lt =
    ap (map (λ (t : Bor (List ℕ)). t.now)) (take_more_set texts n t lt) ∙ map-append (λ (t : Bor (List ℕ)). t.now) (take n texts) (t ∷ [])

-- one text more
pub left-set : (texts : List (Bor (List ℕ))) (n : ℕ) (t : Bor (List ℕ)) → n < length texts → left (set texts n t) (n + 1) ≡ components t.now ++ left texts n
left-set texts n t lt = ap components_of_texts_last_first (texts-set texts n t lt) ∙ all_components-push (first_texts texts n) t.now

pub begin-set : (texts : List (Bor (List ℕ))) (n : ℕ) (t : Bor (List ℕ)) → n < length texts → AllBeginWithComponent (first_texts texts n) → begins_with_component t.now ≡ true → AllBeginWithComponent (first_texts (set texts n t) (n + 1))
begin-set texts n t lt all first = subst AllBeginWithComponent (sym (texts-set texts n t lt)) (AllBegin-push (first_texts texts n) t.now all first)

back_one : (n : ℕ) → (n ≡ 0 → ⊥) → n ≡ n - 1 + 1
back_one n h = omega arith

-- the last text, and those before it
module _ (texts : List (Bor (List ℕ))) (n : ℕ) (d : Bor (List ℕ)) (not_none : n ≡ 0 → ⊥) (fits : n ≤ length texts) where
  last : first_texts texts n ≡ first_texts texts (n - 1) ++ (get_or texts (n - 1) d).now ∷ []
  last = ap (first_texts texts) (back_one n not_none) ∙ texts-last texts (n - 1) d (omega arith)

  pub left-last : left texts n ≡ components (get_or texts (n - 1) d).now ++ left texts (n - 1)
  left-last = ap components_of_texts_last_first last ∙ all_components-push (first_texts texts (n - 1)) (get_or texts (n - 1) d).now

  pub begin-last : AllBeginWithComponent (first_texts texts n) → begins_with_component (get_or texts (n - 1) d).now ≡ true
  begin-last all = (AllBegin-pop (first_texts texts (n - 1)) (get_or texts (n - 1) d).now (subst AllBeginWithComponent last all)).1

  pub begin-before : AllBeginWithComponent (first_texts texts n) → AllBeginWithComponent (first_texts texts (n - 1))
  begin-before all = (AllBegin-pop (first_texts texts (n - 1)) (get_or texts (n - 1) d).now (subst AllBeginWithComponent last all)).0

  -- the last text gives its last component
  pub left-taken : (component rest : List ℕ) → components (get_or texts (n - 1) d).now ≡ component ∷ components rest → rest ≡ [] → left texts n ≡ component ∷ left texts (n - 1)
  left-taken component rest is none =
      left-last ∙ ap (λ (l : List (List ℕ)). l ++ left texts (n - 1)) (is ∙ ap (λ (r : List ℕ). component ∷ components r) none)

  -- the last text gives its first component, and keeps the rest
  pub left-cut : (component : List ℕ) (rest : Bor (List ℕ)) → components (get_or texts (n - 1) d).now ≡ component ∷ components rest.now → left texts n ≡ component ∷ left (set texts (n - 1) rest) n
  left-cut component rest is =
      left-last ∙ ap (λ (l : List (List ℕ)). l ++ left texts (n - 1)) is
      ∙ ap (λ (l : List (List ℕ)). component ∷ l) (sym (ap (left (set texts (n - 1) rest)) (back_one n not_none) ∙ left-set texts (n - 1) rest (omega arith)))

  pub begin-cut : (rest : Bor (List ℕ)) → AllBeginWithComponent (first_texts texts n) → begins_with_component rest.now ≡ true → AllBeginWithComponent (first_texts (set texts (n - 1) rest) n)
  begin-cut rest all first =
      subst (λ k. AllBeginWithComponent (first_texts (set texts (n - 1) rest) k)) (sym (back_one n not_none)) (begin-set texts (n - 1) rest (omega arith) (begin-before all) first)

-- nothing is left exactly where there are no texts
pub left-is_nil : (texts : List (Bor (List ℕ))) (n : ℕ) → n ≤ length texts → AllBeginWithComponent (first_texts texts n) → eqb n 0 ≡ is_nil (left texts n)
left-is_nil texts zero fits all = refl
left-is_nil texts (suc n) fits all =
    let d : Bor (List ℕ) = record { ref_ptr = (0, 0); now = [] } in
    let some = some_component (get_or texts (suc n - 1) d).now (begin-last texts (suc n) d (omega arith) fits all) in
    let e : is_nil (left texts (suc n)) ≡ false = ap is_nil (left-last texts (suc n) d (omega arith) fits ∙ ap (λ (l : List (List ℕ)). l ++ left texts (suc n - 1)) some.2) in
    grind (arith, nat_tests)

pub some_text : (text : List ℕ) (b : Bool) → b ≡ eqb (length text) 0 → b ≡ false → 0 < length text
some_text [] b is not = absurd cc
some_text (c ∷ text) b is not = omega arith

pub no_text : (text : List ℕ) (b : Bool) → b ≡ eqb (length text) 0 → b ≡ true → text ≡ []
no_text text b is ends = nil_from_length text (eqb-true (length text) 0 (sym is ∙ ends))

few : (l : List (List ℕ)) → length (filter full l) ≤ length l
few [] = omega arith
few (component ∷ l) = go (few l) (full component)
  where
    go : length (filter full l) ≤ length l → (b : Bool) → length (cond b (component ∷ filter full l) (filter full l)) ≤ length (component ∷ l)
    go ih true = omega arith
    go ih false = omega arith

pub pieces_few : (text : List ℕ) → length (components text) ≤ length text + 1
pieces_few text =
    omega (arith, few (slice_split (λ b. b == 47) text), length-slice_split (λ b. b == 47) text, count_by-le-length (λ b. b == 47) text)

-- a text of which the first byte is no slash begins with a component
pub begins-from : (text : List ℕ) → 0 < length text → (slice_index text 0 == 47) ≡ false → begins_with_component text ≡ true
begins-from [] some first = absurd (omega arith)
begins-from (b ∷ text) some first = ap not first
