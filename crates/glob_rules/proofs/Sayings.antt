-- What is said at once may as well be put before what is said next, since macros stand in one another no deeper than there are macros.
use Rattle.std.proofs.Common.{◌≡◌, ◌≤◌, ◌+◌, ◌⊎◌, inl, inr, ℕ, zero, suc, Bool, true, false, cond, ◌||◌, List, [], ◌∷◌, ◌++◌, length, reverse, Option, Some, None, bytes_eq, refl, ap, sym, ◌∙◌, arith}
use Rattle.std.specs.BTreeMap.{is_at}
use Rattle.std.specs.Cmp.Lexicographic.{slice_cmp, nat_list_eq_equiv}
use Rattle.std.specs.Ordering.{nat_cmp, is_eq}
use Rattle.std.specs.Prelude.{unwrap_or}
use Rattle.std.specs.declared.cmp.Ordering.{Ordering}
use Rattle.std.specs.declared.cmp.Ordering.TheVariants.{Less, Equal, Greater}
use Rattle.std.proofs.lemmas.Map.Lookups.{exact_bytes}
use Rattle.std.proofs.lemmas.List.Folds.{list_any-append}
use Rattle.glob_rules.specs.declared.attributes.word.Assigned.{Assigned}
use Rattle.glob_rules.specs.Attributes.{AttributeList, MacroDefinition}
use Rattle.glob_rules.specs.AttributeValues.{first_body_or_other, macro_body_in_list, macro_body_in_first_list, is_set_state, macro_assignments_if_set, has_assigned_name, apply_assignments_with_expansion, apply_assignments_to_depth, count_of_macros}

-- what a macro counts where its name does not stand
abbrev pub weight : (List Assigned → ℕ) → List Assigned → MacroDefinition → ℕ
weight w standing macro = cond (has_assigned_name macro.0 standing) 0 (w macro.1)

abbrev pub weights : (List Assigned → ℕ) → List Assigned → List MacroDefinition → ℕ
weights w standing [] = 0
weights w standing (macro ∷ macros) = weight w standing macro + weights w standing macros

-- what the macros of lists count whose names do not stand
abbrev pub unsaid : (List Assigned → ℕ) → List Assigned → List AttributeList → ℕ
unsaid w standing [] = 0
unsaid w standing (list ∷ lists) = weights w standing list.macros + unsaid w standing lists

each_said-append : (into : List Assigned → List Assigned → List Assigned) (lists : List AttributeList) (standing front back : List Assigned)
    → apply_assignments_with_expansion into lists standing (front ++ back) ≡ apply_assignments_with_expansion into lists (apply_assignments_with_expansion into lists standing front) back
each_said-append into lists standing [] back = refl
each_said-append into lists standing (a ∷ front) back =
    each_said-append into lists (cond (has_assigned_name a.name standing) standing (into (standing ++ a ∷ []) (macro_assignments_if_set lists a))) front back

-- what is said in two parts
pub saying-append : (depth : ℕ) (lists : List AttributeList) (standing front back : List Assigned)
    → apply_assignments_to_depth depth lists standing (front ++ back) ≡ apply_assignments_to_depth depth lists (apply_assignments_to_depth depth lists standing front) back
unfolding apply_assignments_to_depth
saying-append zero lists standing front back = each_said-append (λ standing body. standing) lists standing front back
saying-append (suc depth) lists standing front back = each_said-append (apply_assignments_to_depth depth lists) lists standing front back

pub saying-nothing : (depth : ℕ) (lists : List AttributeList) (standing : List Assigned) → apply_assignments_to_depth depth lists standing [] ≡ standing
unfolding apply_assignments_to_depth
saying-nothing zero lists standing = refl
saying-nothing (suc depth) lists standing = refl

-- a name that the order finds is the same
same_name : (name other : List ℕ) → is_at (slice_cmp nat_cmp name) other ≡ true → name ≡ other
same_name name other e = go (slice_cmp nat_cmp name other) refl e
  where
    go : (o : Ordering) → slice_cmp nat_cmp name other ≡ o → is_eq o ≡ true → name ≡ other
    go Less f g = absurd (cc)
    go Equal f g = exact_bytes name other f
    go Greater f g = absurd (cc)

some_injective : {X : Type 0} {x y : X} → Some x ≡ Some y → x ≡ y
some_injective {x = x} e = ap (λ o. unwrap_or o x) e

or_true : (b : Bool) → (b || true) ≡ true
or_true true = refl
or_true false = refl

stands-more : (name : List ℕ) (standing more : List Assigned) → has_assigned_name name standing ≡ true → has_assigned_name name (standing ++ more) ≡ true
stands-more name standing more e =
    list_any-append (λ (a : Assigned). bytes_eq name a.name) standing more
    ∙ ap (λ (b : Bool). b || has_assigned_name name more) e

pub stands-last : (standing : List Assigned) (a : Assigned) → has_assigned_name a.name (standing ++ a ∷ []) ≡ true
stands-last standing a =
    list_any-append (λ (b : Assigned). bytes_eq a.name b.name) standing (a ∷ [])
    ∙ ap (λ (b : Bool). has_assigned_name a.name standing || (b || false)) (nat_list_eq_equiv.refl a.name)
    ∙ or_true (has_assigned_name a.name standing)

module _ (w : List Assigned → ℕ) where
  weight-stands : (standing : List Assigned) (macro : MacroDefinition) → has_assigned_name macro.0 standing ≡ true → weight w standing macro ≡ 0
  weight-stands standing macro e = ap (λ b. cond {A = ℕ} b 0 (w macro.1)) e

  weight-open : (standing : List Assigned) (macro : MacroDefinition) → has_assigned_name macro.0 standing ≡ false → weight w standing macro ≡ w macro.1
  weight-open standing macro e = ap (λ b. cond {A = ℕ} b 0 (w macro.1)) e

  -- a macro counts no more where more stands
  weight-more : (standing more : List Assigned) (macro : MacroDefinition) → weight w (standing ++ more) macro ≤ weight w standing macro
  weight-more standing more macro = go (has_assigned_name macro.0 standing) refl (has_assigned_name macro.0 (standing ++ more)) refl
    where
      go : (b : Bool) → has_assigned_name macro.0 standing ≡ b → (d : Bool) → has_assigned_name macro.0 (standing ++ more) ≡ d → weight w (standing ++ more) macro ≤ weight w standing macro
      go true e d f = let none = weight-stands (standing ++ more) macro (stands-more macro.0 standing more e) in omega (arith, none)
      go false e true f = let none = weight-stands (standing ++ more) macro f in omega (arith, none)
      go false e false f =
          let after = weight-open (standing ++ more) macro f in
          let before = weight-open standing macro e in
          omega (arith, after, before)

  weights-more : (standing more : List Assigned) (macros : List MacroDefinition) → weights w (standing ++ more) macros ≤ weights w standing macros
  weights-more standing more [] = omega arith
  weights-more standing more (macro ∷ macros) =
      let first = weight-more standing more macro in
      let rest = weights-more standing more macros in
      omega (arith, first, rest)

  pub unsaid-more : (standing more : List Assigned) (lists : List AttributeList) → unsaid w (standing ++ more) lists ≤ unsaid w standing lists
  unsaid-more standing more [] = omega arith
  unsaid-more standing more (list ∷ lists) =
      let first = weights-more standing more list.macros in
      let rest = unsaid-more standing more lists in
      omega (arith, first, rest)

  -- a macro counts nothing any more once its name stands
  weights-less : (name : List ℕ) (body standing more : List Assigned) (macros : List MacroDefinition)
      → macro_body_in_list name macros ≡ Some body → has_assigned_name name standing ≡ false → has_assigned_name name (standing ++ more) ≡ true
      → weights w (standing ++ more) macros + w body ≤ weights w standing macros
  weights-less name body standing more [] found before after = absurd (cc)
  weights-less name body standing more (macro ∷ macros) found before after = go (is_at (slice_cmp nat_cmp name) macro.0) refl (λ other. weights-less name body standing more macros other before after)
    where
      go : (b : Bool) → is_at (slice_cmp nat_cmp name) macro.0 ≡ b → (macro_body_in_list name macros ≡ Some body → weights w (standing ++ more) macros + w body ≤ weights w standing macros) → weights w (standing ++ more) (macro ∷ macros) + w body ≤ weights w standing (macro ∷ macros)
      go true e others =
          let same : name ≡ macro.0 = same_name name macro.0 e in
          let one : Some macro.1 ≡ Some body = sym (ap (λ (b : Bool). cond b (Some macro.1) (macro_body_in_list name macros)) e) ∙ found in
          let is : w macro.1 ≡ w body = ap w (some_injective one) in
          let none = weight-stands (standing ++ more) macro (sym (ap (λ (n : List ℕ). has_assigned_name n (standing ++ more)) same) ∙ after) in
          let open_ = weight-open standing macro (sym (ap (λ (n : List ℕ). has_assigned_name n standing) same) ∙ before) in
          let rest = weights-more standing more macros in
          omega (arith, is, none, open_, rest)
      go false e others =
          let first = weight-more standing more macro in
          let other : macro_body_in_list name macros ≡ Some body = sym (ap (λ (b : Bool). cond b (Some macro.1) (macro_body_in_list name macros)) e) ∙ found in
          let rest = others other in
          omega (arith, first, rest)

  pub unsaid-less : (name : List ℕ) (body standing more : List Assigned) (lists : List AttributeList)
      → macro_body_in_first_list name lists ≡ Some body → has_assigned_name name standing ≡ false → has_assigned_name name (standing ++ more) ≡ true
      → unsaid w (standing ++ more) lists + w body ≤ unsaid w standing lists
  unsaid-less name body standing more [] found before after = absurd (cc)
  unsaid-less name body standing more (list ∷ lists) found before after = go (macro_body_in_list name list.macros) refl (λ other. unsaid-less name body standing more lists other before after)
    where
      go : (o : Option (List Assigned)) → macro_body_in_list name list.macros ≡ o → (macro_body_in_first_list name lists ≡ Some body → unsaid w (standing ++ more) lists + w body ≤ unsaid w standing lists) → unsaid w (standing ++ more) (list ∷ lists) + w body ≤ unsaid w standing (list ∷ lists)
      go None e others =
          let first = weights-more standing more list.macros in
          let other : macro_body_in_first_list name lists ≡ Some body = sym (ap (λ (o : Option (List Assigned)). first_body_or_other o (macro_body_in_first_list name lists)) e) ∙ found in
          let rest = others other in
          omega (arith, first, rest)
      go (Some one) e others =
          let same : Some one ≡ Some body = sym (ap (λ (o : Option (List Assigned)). first_body_or_other o (macro_body_in_first_list name lists)) e) ∙ found in
          let first = weights-less name body standing more list.macros (e ∙ same) before after in
          let rest = unsaid-more standing more lists in
          omega (arith, first, rest)

  each_said-shrinks : (into : List Assigned → List Assigned → List Assigned) (lists : List AttributeList)
      → ((standing said : List Assigned) → unsaid w (into standing said) lists ≤ unsaid w standing lists)
      → (standing said : List Assigned) → unsaid w (apply_assignments_with_expansion into lists standing said) lists ≤ unsaid w standing lists
  each_said-shrinks into lists shrinks standing [] = omega arith
  each_said-shrinks into lists shrinks standing (a ∷ said) =
      let next = cond (has_assigned_name a.name standing) standing (into (standing ++ a ∷ []) (macro_assignments_if_set lists a)) in
      let first : unsaid w next lists ≤ unsaid w standing lists = go (has_assigned_name a.name standing) in
      let rest = each_said-shrinks into lists shrinks next said in
      omega (arith, first, rest)
    where
      go : (b : Bool) → unsaid w (cond b standing (into (standing ++ a ∷ []) (macro_assignments_if_set lists a))) lists ≤ unsaid w standing lists
      go true = omega arith
      go false =
          let inside = shrinks (standing ++ a ∷ []) (macro_assignments_if_set lists a) in
          let more = unsaid-more standing (a ∷ []) lists in
          omega (arith, inside, more)

  pub saying-shrinks : (depth : ℕ) (lists : List AttributeList) (standing said : List Assigned) → unsaid w (apply_assignments_to_depth depth lists standing said) lists ≤ unsaid w standing lists
  unfolding apply_assignments_to_depth
  saying-shrinks zero lists standing said = each_said-shrinks (λ standing body. standing) lists (λ s b. omega arith) standing said
  saying-shrinks (suc depth) lists standing said = each_said-shrinks (apply_assignments_to_depth depth lists) lists (saying-shrinks depth lists) standing said

-- a macro counts one
abbrev pub as_one : List Assigned → ℕ
as_one body = 1

-- nothing follows, or what a macro stands for
pub follows-cases : (lists : List AttributeList) (a : Assigned) → (macro_assignments_if_set lists a ≡ []) ⊎ ((body : List Assigned) × (macro_body_in_first_list a.name lists ≡ Some body) × (macro_assignments_if_set lists a ≡ reverse body))
follows-cases lists a = go (is_set_state a.state) refl (macro_body_in_first_list a.name lists) refl
  where
    go : (b : Bool) → is_set_state a.state ≡ b → (o : Option (List Assigned)) → macro_body_in_first_list a.name lists ≡ o
        → (macro_assignments_if_set lists a ≡ []) ⊎ ((body : List Assigned) × (macro_body_in_first_list a.name lists ≡ Some body) × (macro_assignments_if_set lists a ≡ reverse body))
    go false e o f = inl (ap (λ (b : Bool). cond b (reverse (unwrap_or (macro_body_in_first_list a.name lists) [])) []) e)
    go true e None f = inl (ap (λ (b : Bool). cond b (reverse (unwrap_or (macro_body_in_first_list a.name lists) [])) []) e ∙ ap (λ (o : Option (List Assigned)). reverse (unwrap_or o [])) f)
    go true e (Some body) f = inr (body, f, ap (λ (b : Bool). cond b (reverse (unwrap_or (macro_body_in_first_list a.name lists) [])) []) e ∙ ap (λ (o : Option (List Assigned)). reverse (unwrap_or o [])) f)

-- two ways to say what follows, that are the same where no more than so many macros are left
each_said-same : (into other : List Assigned → List Assigned → List Assigned) (lists : List AttributeList) (left : ℕ)
    → ((standing said : List Assigned) → unsaid as_one (into standing said) lists ≤ unsaid as_one standing lists)
    → ((standing : List Assigned) (a : Assigned) → unsaid as_one standing lists ≤ left → has_assigned_name a.name standing ≡ false
    → into (standing ++ a ∷ []) (macro_assignments_if_set lists a) ≡ other (standing ++ a ∷ []) (macro_assignments_if_set lists a))
    → (standing said : List Assigned) → unsaid as_one standing lists ≤ left → apply_assignments_with_expansion into lists standing said ≡ apply_assignments_with_expansion other lists standing said
each_said-same into other lists left shrinks same standing [] fits = refl
each_said-same into other lists left shrinks same standing (a ∷ said) fits =
    each_said-same into other lists left shrinks same (next into (has_assigned_name a.name standing)) said (fewer (has_assigned_name a.name standing))
    ∙ ap (λ (s : List Assigned). apply_assignments_with_expansion other lists s said) (both (has_assigned_name a.name standing) refl)
  where
    next : (List Assigned → List Assigned → List Assigned) → Bool → List Assigned
    next way b = cond b standing (way (standing ++ a ∷ []) (macro_assignments_if_set lists a))

    fewer : (b : Bool) → unsaid as_one (cond b standing (into (standing ++ a ∷ []) (macro_assignments_if_set lists a))) lists ≤ left
    fewer true = fits
    fewer false =
        let inside = shrinks (standing ++ a ∷ []) (macro_assignments_if_set lists a) in
        let more = unsaid-more as_one standing (a ∷ []) lists in
        omega (arith, inside, more, fits)

    both : (b : Bool) → has_assigned_name a.name standing ≡ b → cond b standing (into (standing ++ a ∷ []) (macro_assignments_if_set lists a)) ≡ cond b standing (other (standing ++ a ∷ []) (macro_assignments_if_set lists a))
    both true e = refl
    both false e = same standing a fits e

-- where a macro follows, one fewer is left
one_fewer : (lists : List AttributeList) (standing : List Assigned) (a : Assigned) (body : List Assigned) → macro_body_in_first_list a.name lists ≡ Some body → has_assigned_name a.name standing ≡ false
    → unsaid as_one (standing ++ a ∷ []) lists + 1 ≤ unsaid as_one standing lists
one_fewer lists standing a body found before = unsaid-less as_one a.name body standing (a ∷ []) lists found before (stands-last standing a)

-- no deeper than there are macros is deep enough
pub deep_enough : (depth : ℕ) (lists : List AttributeList) (standing said : List Assigned) → unsaid as_one standing lists ≤ depth → apply_assignments_to_depth (suc depth) lists standing said ≡ apply_assignments_to_depth depth lists standing said
unfolding apply_assignments_to_depth
deep_enough zero lists standing said fits = each_said-same (apply_assignments_to_depth zero lists) (λ s b. s) lists zero (saying-shrinks as_one zero lists) same standing said fits
  where
    same : (s : List Assigned) (a : Assigned) → unsaid as_one s lists ≤ zero → has_assigned_name a.name s ≡ false → apply_assignments_to_depth zero lists (s ++ a ∷ []) (macro_assignments_if_set lists a) ≡ s ++ a ∷ []
    same s a few open_ = elim (follows-cases lists a) [
      | inl none ↦ ap (apply_assignments_to_depth zero lists (s ++ a ∷ [])) none
      | inr some ↦ let fewer = one_fewer lists s a some.0 some.1 open_ in absurd (omega (arith, fewer, few))
    ]
deep_enough (suc depth) lists standing said fits =
    each_said-same (apply_assignments_to_depth (suc depth) lists) (apply_assignments_to_depth depth lists) lists (suc depth) (saying-shrinks as_one (suc depth) lists) (same (λ s said few. deep_enough depth lists s said few)) standing said fits
  where
    same : ((s said : List Assigned) → unsaid as_one s lists ≤ depth → apply_assignments_to_depth (suc depth) lists s said ≡ apply_assignments_to_depth depth lists s said)
        → (s : List Assigned) (a : Assigned) → unsaid as_one s lists ≤ suc depth → has_assigned_name a.name s ≡ false
        → apply_assignments_to_depth (suc depth) lists (s ++ a ∷ []) (macro_assignments_if_set lists a) ≡ apply_assignments_to_depth depth lists (s ++ a ∷ []) (macro_assignments_if_set lists a)
    same less s a few open_ = elim (follows-cases lists a) [
      | inl none ↦ ap (apply_assignments_to_depth (suc depth) lists (s ++ a ∷ [])) none ∙ sym (ap (apply_assignments_to_depth depth lists (s ++ a ∷ [])) none ∙ saying-nothing depth lists (s ++ a ∷ []))
      | inr some ↦ let fewer = one_fewer lists s a some.0 some.1 open_ in less (s ++ a ∷ []) (macro_assignments_if_set lists a) (omega (arith, fewer, few))
    ]

-- what is said of a name that stands is not heard
pub saying-stands : (depth : ℕ) (lists : List AttributeList) (standing said : List Assigned) (a : Assigned) → has_assigned_name a.name standing ≡ true → apply_assignments_to_depth depth lists standing (a ∷ said) ≡ apply_assignments_to_depth depth lists standing said
unfolding apply_assignments_to_depth
saying-stands zero lists standing said a e = ap (λ (b : Bool). apply_assignments_with_expansion (λ s body. s) lists (cond b standing (standing ++ a ∷ [])) said) e
saying-stands (suc depth) lists standing said a e =
    ap (λ (b : Bool). apply_assignments_with_expansion (apply_assignments_to_depth depth lists) lists (cond b standing (apply_assignments_to_depth depth lists (standing ++ a ∷ []) (macro_assignments_if_set lists a))) said) e

-- what is said of another name stands, and what follows may as well be put before what is said next
pub saying-new : (depth : ℕ) (lists : List AttributeList) (standing said : List Assigned) (a : Assigned) → unsaid as_one standing lists ≤ depth → has_assigned_name a.name standing ≡ false
    → apply_assignments_to_depth depth lists standing (a ∷ said) ≡ apply_assignments_to_depth depth lists (standing ++ a ∷ []) (macro_assignments_if_set lists a ++ said)
unfolding apply_assignments_to_depth
saying-new zero lists standing said a fits e =
    ap (λ (b : Bool). apply_assignments_with_expansion (λ s body. s) lists (cond b standing (standing ++ a ∷ [])) said) e
    ∙ sym (nothing (follows-cases lists a))
  where
    nothing : (macro_assignments_if_set lists a ≡ []) ⊎ ((body : List Assigned) × (macro_body_in_first_list a.name lists ≡ Some body) × (macro_assignments_if_set lists a ≡ reverse body))
        → apply_assignments_with_expansion (λ s body. s) lists (standing ++ a ∷ []) (macro_assignments_if_set lists a ++ said) ≡ apply_assignments_with_expansion (λ s body. s) lists (standing ++ a ∷ []) said
    nothing (inl none) = ap (λ (f : List Assigned). apply_assignments_with_expansion (λ s body. s) lists (standing ++ a ∷ []) (f ++ said)) none
    nothing (inr some) = let fewer = one_fewer lists standing a some.0 some.1 e in absurd (omega (arith, fewer, fits))
saying-new (suc depth) lists standing said a fits e =
    ap (λ (b : Bool). apply_assignments_with_expansion (apply_assignments_to_depth depth lists) lists (cond b standing (apply_assignments_to_depth depth lists (standing ++ a ∷ []) (macro_assignments_if_set lists a))) said) e
    ∙ ap (λ (s : List Assigned). apply_assignments_with_expansion (apply_assignments_to_depth depth lists) lists s said) (inside (follows-cases lists a))
    ∙ sym (each_said-append (apply_assignments_to_depth depth lists) lists (standing ++ a ∷ []) (macro_assignments_if_set lists a) said)
  where
    inside : (macro_assignments_if_set lists a ≡ []) ⊎ ((body : List Assigned) × (macro_body_in_first_list a.name lists ≡ Some body) × (macro_assignments_if_set lists a ≡ reverse body))
        → apply_assignments_to_depth depth lists (standing ++ a ∷ []) (macro_assignments_if_set lists a) ≡ apply_assignments_to_depth (suc depth) lists (standing ++ a ∷ []) (macro_assignments_if_set lists a)
    inside (inl none) = ap (apply_assignments_to_depth depth lists (standing ++ a ∷ [])) none ∙ saying-nothing depth lists (standing ++ a ∷ []) ∙ sym (ap (apply_assignments_to_depth (suc depth) lists (standing ++ a ∷ [])) none)
    inside (inr some) = let fewer = one_fewer lists standing a some.0 some.1 e in sym (deep_enough depth lists (standing ++ a ∷ []) (macro_assignments_if_set lists a) (omega (arith, fewer, fits)))

-- no more macros are left than there are
weights-count : (standing : List Assigned) (macros : List MacroDefinition) → weights as_one standing macros ≤ length macros
weights-count standing [] = omega arith
weights-count standing (macro ∷ macros) =
    let first : weight as_one standing macro ≤ 1 = go (has_assigned_name macro.0 standing) in
    let rest = weights-count standing macros in
    omega (arith, first, rest)
  where
    go : (b : Bool) → cond {A = ℕ} b 0 1 ≤ 1
    go true = omega arith
    go false = omega arith

pub unsaid-count : (standing : List Assigned) (lists : List AttributeList) → unsaid as_one standing lists ≤ count_of_macros lists
unsaid-count standing [] = omega arith
unsaid-count standing (list ∷ lists) =
    let first = weights-count standing list.macros in
    let rest = unsaid-count standing lists in
    omega (arith, first, rest)
