-- What the rules were asked on the way to a traversal root.
use Rattle.std.proofs.Common.{◌≡◌, ◌≤◌, ◌+◌, ◌∙◌, ap, sym, subst, ℕ, List, [], ◌∷◌, ◌++◌, length, Bool, true, false, Option, Some, None, Ok, Err, refl, inl, inr, append_assoc, arith}
use Rattle.std.specs.Prelude.{◌⊎◌, Result, OnOk, is_some, if◌then◌else◌}
use Rattle.std.specs.Str.{bytes_eq}
use Rattle.std.proofs.lemmas.List.{append-nil, length-append}
use Rattle.gitbase_core.specs.Path.{components, is_empty}
use Rattle.worktree_fs.specs.Causes.{CountIncreasedOrSaturated, saturating_increment as one_more}
use Rattle.worktree_fs.specs.Paths.{longest_common_prefix, is_nil, slash_joined_components, all_but_last}
use Rattle.worktree_fs.specs.PathStack.{IsNothingOrProperAncestor}
use Rattle.worktree_fs.proofs.Trees.Grown.{same_name}
use Rattle.worktree_stack.specs.Lookups.{directories_kept_by_lookup}
use Rattle.worktree_stack.specs.Stacked.{StackModel, pushed_directories}
use Rattle.dir_classify.specs.declared.classify.RootOutcome.{RootOutcome}
use Rattle.dir_classify.specs.declared.error.Error.{Error}
use Rattle.dir_classify.specs.Excludes.{setup_of_optional_stack, lookup_count_of_stack, directories_pushed_in_stack, has_attributes_if_given}
use Rattle.dir_classify.specs.Kept.{AsksRulesOnceAboutPath, AsksRulesAtMostOnce, LeavesPushedByFirstCalls, StandsAtPathIfGiven, LeavesRulesUnasked}
use Rattle.dir_classify.specs.Reads.{most_reads_on_way}
use Rattle.dir_classify.specs.Rooted.{AsksRulesOnWay, AsksRulesOnWayOrNot, IsPathOnWayToRoot, StandsAtPathAbove}
use Rattle.dir_classify.proofs.Most.{most-further, most-longer, most-once}

-- ---- what lies on the way to a path lies on the way to those beneath it

-- what is left of a list before its last element, and of a longer one
front-more : {A : Type 0} (xs ys : List A) → (zs : List A) × (all_but_last (xs ++ ys) ≡ all_but_last xs ++ zs)
front-more [] ys = (all_but_last ys, refl)
front-more (x ∷ []) [] = ([], refl)
front-more (x ∷ []) (y ∷ ys) = (x ∷ all_but_last (y ∷ ys), refl)
front-more (x ∷ y ∷ xs) ys = let rest = front-more (y ∷ xs) ys in (rest.0, ap (λ l. x ∷ l) rest.1)

pub on-way-further : (at : Option (List (List ℕ))) (names more : List (List ℕ)) → IsNothingOrProperAncestor at names → IsNothingOrProperAncestor at (names ++ more)
on-way-further None names more is = tt
on-way-further (Some pushed) names more is =
    let rest = front-more names more in
    record { rest = is.rest ++ rest.0; joined = rest.1 ∙ ap (λ l. l ++ rest.0) is.joined ∙ append_assoc pushed is.rest rest.0 }

common-self : (xs ys : List (List ℕ)) → longest_common_prefix xs (xs ++ ys) ≡ xs
common-self [] ys = refl
common-self (x ∷ xs) ys = go (common-self xs ys) (bytes_eq x x) (same_name x x refl)
  where
    go : longest_common_prefix xs (xs ++ ys) ≡ xs → (b : Bool) → b ≡ true → (if b then x ∷ longest_common_prefix xs (xs ++ ys) else []) ≡ x ∷ xs
    go ih true e = ap (λ (l : List (List ℕ)). x ∷ l) ih
    go ih false e = absurd (cc e)

-- what lies on the way to a path stays pushed in its lookup
stays-on-way : (at : Option (List (List ℕ))) (names : List (List ℕ)) → IsNothingOrProperAncestor at names → directories_kept_by_lookup at names ≡ at
stays-on-way None names is = refl
stays-on-way (Some pushed) names is = ap Some (ap (longest_common_prefix pushed) is.joined ∙ common-self pushed is.rest)

pub leads-further : (root path first : List ℕ) (rest : List (List ℕ)) → components root ≡ components path ++ rest → IsPathOnWayToRoot path first → IsPathOnWayToRoot root first
leads-further root path first rest split leads =
    record { spelled_is = leads.spelled_is; rest = leads.rest ++ rest; components_are = split ∙ ap (λ l. l ++ rest) leads.components_are ∙ append_assoc (components first) leads.rest rest }

-- exactly the directories above a path are pushed where rules stand at it
pushed-above : (o : Option StackModel) (path : List ℕ) → StandsAtPathIfGiven o path → directories_pushed_in_stack o ≡ Some (all_but_last (components path))
pushed-above None path at = absurd at
pushed-above (Some s) path at = at.at

stands : {T E : Type 0} {P : Type 0} (result : Result T E) → P → OnOk result P
stands (Ok t) p = p
stands (Err e) p = tt

-- a path with a component is not empty
pub nothing-more : (front rest : List (List ℕ)) (name : List ℕ) → [] ≡ front ++ name ∷ rest → ⊥
nothing-more [] rest name e = cc e
nothing-more (x ∷ front) rest name e = cc e

pub grown-some : (next : List ℕ) (front : List (List ℕ)) (name : List ℕ) → components next ≡ front ++ name ∷ [] → is_empty next ≡ false
grown-some [] front name e = absurd (nothing-more front [] name e)
grown-some (b ∷ bytes) front name e = refl

-- ---- how often they were asked

counted-on : (p0 p1 p2 : ℕ) (first then_ : List (List ℕ)) (name : List ℕ) → p1 ≤ p0 + length first + 1 → p2 ≡ one_more p1 → p2 ≤ p0 + length (first ++ (then_ ++ name ∷ [])) + 1
counted-on p0 p1 p2 first then_ name most once =
    let all : length (first ++ (then_ ++ name ∷ [])) ≡ length first + length (then_ ++ name ∷ []) = length-append first (then_ ++ name ∷ []) in
    let more : length (then_ ++ name ∷ []) ≡ length then_ + 1 = length-append then_ (name ∷ []) in
    omega (arith, most, once, all, more)

some-more : (names : List (List ℕ)) (name : List ℕ) → is_nil (names ++ name ∷ []) ≡ false
some-more [] name = refl
some-more (x ∷ names) name = refl

-- ---- one path further

module _ {F T E : Type 0} (most : ℕ) (path name next : List ℕ) (r0 r1 r2 : ℕ) (o0 o1 o2 : F) (old now new : Option StackModel) (result : Result T E)
    (made : setup_of_optional_stack now ≡ setup_of_optional_stack old) (grown : components next ≡ components path ++ name ∷ []) (next_is : next ≡ slash_joined_components (components next)) where
  more : most_reads_on_way most (components next) ≡ most_reads_on_way most (components path) + most
  more = ap (most_reads_on_way most) grown ∙ most-further most (components path) name

  next-itself : IsPathOnWayToRoot next next
  next-itself = record { spelled_is = next_is; rest = []; components_are = sym (append-nil (components next)) }

  way-later : AsksRulesOnWay {T = Unit {0}} {E = Error} most path r0 r1 old now (Ok tt) → LeavesRulesUnasked most r1 r2 o1 o2 now new → AsksRulesOnWay most next r0 r2 old new result
  way-later a b =
      record {
        given = a.given;
        first = a.first;
        beneath = a.beneath;
        last = a.last;
        leads = leads-further next path a.last (name ∷ []) grown a.leads;
        behind = a.behind;
        asked_one = subst (λ (o : Option StackModel). CountIncreasedOrSaturated (lookup_count_of_stack old) (lookup_count_of_stack o)) (sym b.same) a.asked_one;
        at_most = subst (λ (o : Option StackModel). lookup_count_of_stack o ≤ lookup_count_of_stack old + length a.behind.rest + 1) (sym b.same) a.at_most;
        looked_up = stands result (subst (λ (o : Option StackModel). StandsAtPathIfGiven o a.last) (sym b.same) a.looked_up);
        on_way = subst (λ (o : Option StackModel). IsNothingOrProperAncestor (directories_pushed_in_stack o) (components a.last)) (sym b.same) a.on_way;
        before = a.before;
        before_is = a.before_is;
        leaves = subst (λ (o : Option StackModel). LeavesPushedByFirstCalls a.last a.before (directories_pushed_in_stack o)) (sym b.same) a.leaves;
        reads = λ alone.
            let all : length (pushed_directories (directories_pushed_in_stack new)) ≡ length (pushed_directories (directories_pushed_in_stack now)) = ap (λ (o : Option StackModel). length (pushed_directories (directories_pushed_in_stack o))) b.same in
            omega (arith, b.reads, all, a.reads alone, more);
      }

  way-first : LeavesRulesUnasked (most_reads_on_way most (components path)) r0 r1 o0 o1 old now → AsksRulesOnceAboutPath most next r1 r2 now new result → AsksRulesOnWay most next r0 r2 old new result
  way-first a b =
      record {
        given = subst (λ (o : Option StackModel). is_some o ≡ true) a.same b.given;
        first = next;
        beneath = grown-some next (components path) name grown;
        last = next;
        leads = next-itself;
        behind = next-itself;
        asked_one = let same = ap lookup_count_of_stack a.same in let once = b.once in omega (arith, same, once);
        at_most = let same = ap lookup_count_of_stack a.same in let once = b.once in omega (arith, same, once);
        looked_up = b.looked_up;
        on_way = b.on_way;
        before = directories_pushed_in_stack now;
        before_is = inl (refl, ap directories_pushed_in_stack a.same);
        leaves = b.leaves;
        reads = λ alone.
            let stay : length (pushed_directories (directories_kept_by_lookup (directories_pushed_in_stack now) (components next))) ≡ length (pushed_directories (directories_kept_by_lookup (directories_pushed_in_stack old) (components next))) =
            ap (λ (o : Option StackModel). length (pushed_directories (directories_kept_by_lookup (directories_pushed_in_stack o) (components next)))) a.same in
            omega (arith, a.reads, stay, b.reads (ap (λ (o : Option StackModel). has_attributes_if_given (setup_of_optional_stack o)) a.same ∙ alone), more);
      }

  way-on : AsksRulesOnWay {T = Unit {0}} {E = Error} most path r0 r1 old now (Ok tt) → AsksRulesOnceAboutPath most next r1 r2 now new result → AsksRulesOnWay most next r0 r2 old new result
  unfolding leads-further
  way-on a b =
      let leads : IsPathOnWayToRoot next a.last = leads-further next path a.last (name ∷ []) grown a.leads in
      record {
        given = a.given;
        first = a.first;
        beneath = a.beneath;
        last = next;
        leads = next-itself;
        behind = leads-further next a.last a.first leads.rest leads.components_are a.behind;
        asked_one = let some = a.asked_one in let once = b.once in omega (arith, some, once);
        at_most = counted-on (lookup_count_of_stack old) (lookup_count_of_stack now) (lookup_count_of_stack new) a.behind.rest a.leads.rest name a.at_most b.once;
        looked_up = b.looked_up;
        on_way = b.on_way;
        before = directories_pushed_in_stack now;
        before_is = inr (a.last, a.behind, leads, pushed-above now a.last a.looked_up);
        leaves = b.leaves;
        reads = λ alone.
            let way : IsNothingOrProperAncestor (directories_pushed_in_stack now) (components next) = subst (IsNothingOrProperAncestor (directories_pushed_in_stack now)) (sym leads.components_are) (on-way-further (directories_pushed_in_stack now) (components a.last) leads.rest a.on_way) in
            let stay : length (pushed_directories (directories_kept_by_lookup (directories_pushed_in_stack now) (components next))) ≡ length (pushed_directories (directories_pushed_in_stack now)) =
            ap (λ (at : Option (List (List ℕ))). length (pushed_directories at)) (stays-on-way (directories_pushed_in_stack now) (components next) way) in
            omega (arith, stay, a.reads alone, b.reads (ap has_attributes_if_given made ∙ alone), more);
      }

  pub way-asked : AsksRulesOnWayOrNot {T = Unit {0}} {E = Error} most path r0 r1 o0 o1 old now (Ok tt) → AsksRulesAtMostOnce most next r1 r2 o1 o2 now new result → AsksRulesOnWayOrNot most next r0 r2 o0 o2 old new result
  way-asked (inl a) (inl b) = inl (record { same = b.same ∙ a.same; store = b.store ∙ a.store; reads = omega (arith, a.reads, b.reads, more) })
  way-asked (inl a) (inr b) = inr (way-first a b)
  way-asked (inr a) (inl b) = inr (way-later a b)
  way-asked (inr a) (inr b) = inr (way-on a b)

-- the rules before a path is looked up
pub stands-above : {F : Type 0} (most : ℕ) (path name next : List ℕ) (r0 r1 : ℕ) (o0 o1 : F) (old now : Option StackModel) → components next ≡ components path ++ name ∷ []
    → AsksRulesOnWayOrNot {T = Unit {0}} {E = Error} most path r0 r1 o0 o1 old now (Ok tt) → (now ≡ old) ⊎ StandsAtPathAbove next old now
unfolding leads-further
stands-above most path name next r0 r1 o0 o1 old now grown (inl a) = inl a.same
stands-above most path name next r0 r1 o0 o1 old now grown (inr a) =
    inr (record {
      first = a.first;
      beneath = a.beneath;
      last = a.last;
      leads = leads-further next path a.last (name ∷ []) grown a.leads;
      above = some-more a.leads.rest name;
      behind = a.behind;
      asked_one = a.asked_one;
      at_most = a.at_most;
      looked_up = a.looked_up;
    })

-- ---- the whole way

-- they were not asked on a part of it
pub unasked-root : {F : Type 0} (most : ℕ) (all names rest : List (List ℕ)) {r0 r1 : ℕ} {o0 o1 : F} {old new : Option StackModel} → all ≡ names ++ rest
    → LeavesRulesUnasked (most_reads_on_way most names) r0 r1 o0 o1 old new → LeavesRulesUnasked (most_reads_on_way most all) r0 r1 o0 o1 old new
unasked-root most all names rest split a =
    let whole : most_reads_on_way most all ≡ most_reads_on_way most (names ++ rest) = ap (most_reads_on_way most) split in
    record { same = a.same; store = a.store; reads = omega (arith, a.reads, whole, most-longer most names rest) }

-- nor of its first path
pub unasked-first : {F : Type 0} (most : ℕ) (all : List (List ℕ)) {r0 r1 : ℕ} {o0 o1 : F} {old new : Option StackModel} → LeavesRulesUnasked most r0 r1 o0 o1 old new → LeavesRulesUnasked (most_reads_on_way most all) r0 r1 o0 o1 old new
unasked-first most all a = record { same = a.same; store = a.store; reads = omega (arith, a.reads, most-once most all) }

pub way-root : {F T E : Type 0} (most : ℕ) (root path : List ℕ) (rest : List (List ℕ)) (r0 r1 : ℕ) (o0 o1 : F) (old new : Option StackModel) (result : Result T E)
    → components root ≡ components path ++ rest → AsksRulesOnWayOrNot most path r0 r1 o0 o1 old new result → AsksRulesOnWayOrNot most root r0 r1 o0 o1 old new result
way-root most root path rest r0 r1 o0 o1 old new result split (inl a) = inl (unasked-root most (components root) (components path) rest split a)
way-root most root path rest r0 r1 o0 o1 old new result split (inr a) =
    inr (record {
      given = a.given;
      first = a.first;
      beneath = a.beneath;
      last = a.last;
      leads = leads-further root path a.last rest split a.leads;
      behind = a.behind;
      asked_one = a.asked_one;
      at_most = a.at_most;
      looked_up = a.looked_up;
      on_way = a.on_way;
      before = a.before;
      before_is = a.before_is;
      leaves = a.leaves;
      reads = λ alone.
          let whole : most_reads_on_way most (components root) ≡ most_reads_on_way most (components path ++ rest) = ap (most_reads_on_way most) split in
          omega (arith, a.reads alone, whole, most-longer most (components path) rest);
    })

-- whatever was answered, and whatever was refused
pub way-answered : {F T U : Type 0} (most : ℕ) (path : List ℕ) (r0 r1 : ℕ) (o0 o1 : F) (old new : Option StackModel) (t : T) (u : U)
    → AsksRulesOnWayOrNot {T = T} {E = Error} most path r0 r1 o0 o1 old new (Ok t) → AsksRulesOnWayOrNot {T = U} {E = Error} most path r0 r1 o0 o1 old new (Ok u)
way-answered most path r0 r1 o0 o1 old new t u (inl a) = inl a
way-answered most path r0 r1 o0 o1 old new t u (inr a) =
    inr (record {
      given = a.given;
      first = a.first;
      beneath = a.beneath;
      last = a.last;
      leads = a.leads;
      behind = a.behind;
      asked_one = a.asked_one;
      at_most = a.at_most;
      looked_up = a.looked_up;
      on_way = a.on_way;
      before = a.before;
      before_is = a.before_is;
      leaves = a.leaves;
      reads = a.reads;
    })

pub way-refused : {F T U : Type 0} (most : ℕ) (path : List ℕ) (r0 r1 : ℕ) (o0 o1 : F) (old new : Option StackModel) (e : Error)
    → AsksRulesOnWayOrNot {T = T} {E = Error} most path r0 r1 o0 o1 old new (Err e) → AsksRulesOnWayOrNot {T = U} {E = Error} most path r0 r1 o0 o1 old new (Err e)
way-refused most path r0 r1 o0 o1 old new e (inl a) = inl a
way-refused most path r0 r1 o0 o1 old new e (inr a) =
    inr (record {
      given = a.given;
      first = a.first;
      beneath = a.beneath;
      last = a.last;
      leads = a.leads;
      behind = a.behind;
      asked_one = a.asked_one;
      at_most = a.at_most;
      looked_up = tt;
      on_way = a.on_way;
      before = a.before;
      before_is = a.before_is;
      leaves = a.leaves;
      reads = a.reads;
    })

-- memory was refused before the next path was asked about
pub way-stopped : {F : Type 0} (most : ℕ) (path : List ℕ) (r0 r1 : ℕ) (o0 o1 : F) (old new : Option StackModel) (e : Error)
    → AsksRulesOnWayOrNot {T = Unit {0}} {E = Error} most path r0 r1 o0 o1 old new (Ok tt) → AsksRulesOnWayOrNot {T = RootOutcome} {E = Error} most path r0 r1 o0 o1 old new (Err e)
way-stopped most path r0 r1 o0 o1 old new e (inl a) = inl a
way-stopped most path r0 r1 o0 o1 old new e (inr a) =
    inr (record {
      given = a.given;
      first = a.first;
      beneath = a.beneath;
      last = a.last;
      leads = a.leads;
      behind = a.behind;
      asked_one = a.asked_one;
      at_most = a.at_most;
      looked_up = tt;
      on_way = a.on_way;
      before = a.before;
      before_is = a.before_is;
      leaves = a.leaves;
      reads = λ alone. omega (arith, a.reads alone);
    })
