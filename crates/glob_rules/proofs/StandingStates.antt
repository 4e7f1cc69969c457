-- The table of what stands has its states.
use Rattle.std.proofs.Common.{◌≡◌, ℕ, Bool, true, false, cond, ◌||◌, List, [], ◌∷◌, ◌++◌, Option, Some, None, bytes_eq, refl, ap, sym, ◌∙◌}
use Rattle.std.specs.Prelude.{is_some, option_map}
use Rattle.std.specs.Borrow.{Bor}
use Rattle.std.specs.Cmp.Lexicographic.{slice_cmp, nat_list_eq_equiv}
use Rattle.std.specs.Map.{lookup}
use Rattle.std.specs.Ordering.{nat_cmp, is_eq}
use Rattle.std.proofs.lemmas.Map.Text.{is_eq-slice_cmp}
use Rattle.glob_rules.specs.declared.attributes.Assignment.{Assignment}
use Rattle.glob_rules.specs.declared.attributes.word.Assigned.{Assigned}
use Rattle.glob_rules.specs.AttributeValues.{state_of_name, has_assigned_name}
use Rattle.glob_rules.specs.Standing.{state_in_reference_table, TableHasAllStates, dereferenced_assignments}

pub stands-state : (name : List ℕ) (standing : List Assigned) → has_assigned_name name standing ≡ is_some (state_of_name name standing)
stands-state name [] = refl
stands-state name (a ∷ standing) = go (bytes_eq name a.name) (stands-state name standing)
  where
    go : (b : Bool) → has_assigned_name name standing ≡ is_some (state_of_name name standing) → (b || has_assigned_name name standing) ≡ is_some (cond b (Some a.state) (state_of_name name standing))
    go true e = refl
    go false e = e

-- the table for a reference
abbrev Table : Type 0
Table = List (Bor (List ℕ) × Bor Assignment)

-- what the table has under a name
abbrev row_at : Table → List ℕ → Option (Bor Assignment)
row_at states name = lookup (λ (key : Bor (List ℕ)). is_eq (slice_cmp nat_cmp name key.now)) states

some-map : (row : Option (Bor Assignment)) → is_some (option_map (λ (state : Bor Assignment). state.now) row) ≡ is_some row
some-map None = refl
some-map (Some row) = refl

-- whether the table has a name says whether something stands of it
pub there_or_not : (states : Table) (standing : List Assigned) (name : List ℕ) (there : Bool) → TableHasAllStates states standing → there ≡ is_some (row_at states name) → has_assigned_name name standing ≡ there
there_or_not states standing name there has e =
    stands-state name standing ∙ ap is_some (sym (has name)) ∙ some-map (row_at states name) ∙ sym e

or_false : (a b : Bool) → (a || b) ≡ false → (a ≡ false) × (b ≡ false)
or_false true b e = absurd (cc)
or_false false b e = (refl, e)

-- the state of a name once more stands
state_in-last : (name : List ℕ) (standing : List Assigned) (a : Assigned) → has_assigned_name a.name standing ≡ false → state_of_name name (standing ++ a ∷ []) ≡ cond (bytes_eq a.name name) (Some a.state) (state_of_name name standing)
state_in-last name [] a new = ap (λ (b : Bool). cond b (Some a.state) None) (nat_list_eq_equiv.symm name a.name)
state_in-last name (first ∷ standing) a new = go (bytes_eq name first.name) refl (state_in-last name standing a)
  where
    go : (b : Bool) → bytes_eq name first.name ≡ b
        → (has_assigned_name a.name standing ≡ false → state_of_name name (standing ++ a ∷ []) ≡ cond (bytes_eq a.name name) (Some a.state) (state_of_name name standing))
        → cond b (Some first.state) (state_of_name name (standing ++ a ∷ [])) ≡ cond (bytes_eq a.name name) (Some a.state) (cond b (Some first.state) (state_of_name name standing))
    go true e more =
        let apart : bytes_eq a.name name ≡ false = nat_list_eq_equiv.symm a.name name ∙ nat_list_eq_equiv.congr name first.name a.name e ∙ nat_list_eq_equiv.symm first.name a.name ∙ (or_false _ _ new).0 in
        sym (ap (λ (b : Bool). cond b (Some a.state) (Some first.state)) apart)
    go false e more = more (or_false (bytes_eq a.name first.name) (has_assigned_name a.name standing) new).1

mapped : (b : Bool) (state : Bor Assignment) (row : Option (Bor Assignment))
    → option_map (λ (s : Bor Assignment). s.now) (cond b (Some state) row) ≡ cond b (Some state.now) (option_map (λ (s : Bor Assignment). s.now) row)
mapped true state row = refl
mapped false state row = refl

-- the table with one row more
pub has-more : (before after : Table) (standing : List Assigned) (a : Assigned) (key : Bor (List ℕ)) (state : Bor Assignment) → key.now ≡ a.name → state.now ≡ a.state
    → TableHasAllStates before standing → has_assigned_name a.name standing ≡ false
    → ((q : Bor (List ℕ)) → row_at after q.now ≡ cond (is_eq (slice_cmp nat_cmp key.now q.now)) (Some state) (row_at before q.now))
    → TableHasAllStates after (standing ++ a ∷ [])
has-more before after standing a key state named has has_before new row name =
    ap (option_map (λ (s : Bor Assignment). s.now)) (row (record key { now = name }))
    ∙ mapped (is_eq (slice_cmp nat_cmp key.now name)) state (row_at before name)
    ∙ ap (λ (b : Bool). cond b (Some state.now) (state_in_reference_table before name)) (is_eq-slice_cmp key.now name)
    ∙ ap (λ (k : List ℕ). cond (bytes_eq k name) (Some state.now) (state_in_reference_table before name)) named
    ∙ ap (λ (s : Assignment). cond (bytes_eq a.name name) (Some s) (state_in_reference_table before name)) has
    ∙ ap (λ (s : Option Assignment). cond (bytes_eq a.name name) (Some a.state) s) (has_before name)
    ∙ sym (state_in-last name standing a new)

-- what references refer to, with one more
pub told-last : (said : List (Bor Assigned)) (one : Bor Assigned) → dereferenced_assignments (said ++ one ∷ []) ≡ dereferenced_assignments said ++ one.now ∷ []
told-last [] one = refl
told-last (first ∷ said) one = ap (λ (rest : List Assigned). first.now ∷ rest) (told-last said one)
