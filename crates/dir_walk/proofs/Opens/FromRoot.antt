-- What is opened, read and given from a traversal root on.
use Rattle.std.proofs.Common.{◌≡◌, ℕ, ◌+◌, ◌-◌, ◌≤◌, max, List, [], ◌∷◌, ◌++◌, true, false, Option, Some, None, Result, Err, inl, inr, length, append_assoc, refl, sym, subst, ap, ◌∙◌, arith}
use Rattle.std.proofs.lemmas.List.{length-append}
use Rattle.gitbase_core.specs.Path.{components, is_empty}
use Rattle.worktree_fs.specs.declared.interrupt.Interrupt.{Ghosts as InterruptOf}
use Rattle.worktree_fs.specs.declared.worktree.Worktree.{Ghosts as WorktreeOf}
use Rattle.worktree_fs.specs.Causes.{saturating_sum}
use Rattle.worktree_fs.specs.Paths.{longest_common_prefix, slash_joined_components, all_but_last}
use Rattle.worktree_fs.specs.PathStack.{IsNothingOrProperAncestor}
use Rattle.worktree_stack.proofs.Lookup.Looking.{length-fronts}
use Rattle.worktree_stack.specs.Lookups.{one_if_refused}
use Rattle.worktree_stack.specs.Stacked.{StackModel, pushed_directories}
use Rattle.dir_classify.specs.declared.entry.Entry.{Entry}
use Rattle.dir_classify.specs.Chosen.{WalkOptions}
use Rattle.dir_classify.specs.Excludes.{setup_of_optional_stack, directories_pushed_in_stack, has_attributes_if_given}
use Rattle.dir_classify.specs.Reads.{most_reads_on_way, most_reads_to_classify_path}
use Rattle.dir_classify.specs.Rooted.{AsksRulesOnWayOrNot, IsPathOnWayToRoot}
use Rattle.dir_classify.proofs.Most.{most-none, most-nowhere}
use Rattle.dir_classify.proofs.WayAsked.{on-way-further, way-root}
use Rattle.dir_walk.specs.declared.handed.Stop.{Stop}
use Rattle.dir_walk.specs.declared.handed.Stop.TheVariants.{Broken, Refused}
use Rattle.dir_walk.specs.declared.outcome.Outcome.{Outcome}
use Rattle.dir_walk.specs.declared.strategy.Strategy.{Strategy}
use Rattle.dir_walk.specs.declared.strategy.Strategy.TheVariants.{AtOnce, Held}
use Rattle.dir_walk.specs.Emissions.{Emission}
use Rattle.dir_walk.specs.Opens.{CountsListingsByStrategy, OpensFromTraversalRoot, OpensTraversalRoot, count_pushed_on_way, count_refused_walk}
use Rattle.dir_walk.specs.Puts.{AddsEmissionsWithinRoom, count_held_at_path}
use Rattle.dir_walk.specs.Unopened.{count_too_deep_in_walk, count_unlisted_in_walk}
use Rattle.dir_walk.proofs.Order.Lists.{and_left}
use Rattle.dir_walk.proofs.Opens.Opening.{front-all, pushed-most}
use Rattle.dir_walk.proofs.Gives.Putting.{Puts-as, Puts-over}

-- ---- the way to the traversal root

last-of : (names : List (List ℕ)) → (last : List (List ℕ)) × (names ≡ all_but_last names ++ last)
last-of [] = ([], refl)
last-of (name ∷ []) = (name ∷ [], refl)
last-of (name ∷ next ∷ names) = let more = last-of (next ∷ names) in (more.0, ap (λ (l : List (List ℕ)). name ∷ l) more.1)

-- what is pushed on the way to a directory is held for it
held-on-way : (at : Option (List (List ℕ))) (names : List (List ℕ)) → IsNothingOrProperAncestor at names → length (pushed_directories at) ≤ count_pushed_on_way at names
held-on-way None names way = omega arith
held-on-way (Some held) names way =
    let last = last-of names in
    let front : longest_common_prefix held names ≡ held =
    ap (longest_common_prefix held) (last.1 ∙ ap (λ (l : List (List ℕ)). l ++ last.0) way.joined ∙ append_assoc held way.rest last.0) ∙ front-all held (way.rest ++ last.0) in
    omega (arith, length-fronts held, ap {B = ℕ} (λ (l : List (List ℕ)). length l) front)

-- what is pushed on the way to a path is on the way to those that it leads to
on-way-to : (root : List ℕ) {path : List ℕ} (new : Option StackModel) → IsPathOnWayToRoot root path → IsNothingOrProperAncestor (directories_pushed_in_stack new) (components path) → IsNothingOrProperAncestor (directories_pushed_in_stack new) (components root)
on-way-to root {path} new leads way = subst (IsNothingOrProperAncestor (directories_pushed_in_stack new)) (sym leads.components_are) (on-way-further (directories_pushed_in_stack new) (components path) leads.rest way)

-- nothing is read to find repositories
most-way : (most : ℕ) (names : List (List ℕ)) → most ≡ 0 → most_reads_on_way most names ≡ 0
most-way most names none = ap (λ (n : ℕ). most_reads_on_way n names) none ∙ most-nowhere names

-- the classes on the way read at most once for each directory there whose rules are held then
asks-on-way : {F T E : Type 0} (most : ℕ) (root : List ℕ) (reads0 reads1 : ℕ) (o0 o1 : F) (old new : Option StackModel) (result : Result T E) → most ≡ 0 → has_attributes_if_given (setup_of_optional_stack old) ≡ false
    → AsksRulesOnWayOrNot most root reads0 reads1 o0 o1 old new result → reads1 ≤ reads0 + count_pushed_on_way (directories_pushed_in_stack new) (components root) + one_if_refused result
asks-on-way most root reads0 reads1 o0 o1 old new result none alone (inl unasked) = omega (arith, unasked.reads, most-way most (components root) none)
asks-on-way most root reads0 reads1 o0 o1 old new result none alone (inr asked) = omega (arith, asked.reads alone, most-way most (components root) none, held-on-way (directories_pushed_in_stack new) (components root) (on-way-to root new asked.leads asked.on_way))

-- what is pushed on the way to a directory lies above it, or is the worktree root
above-last : (names : List (List ℕ)) → length (all_but_last names) ≤ length names - 1
above-last [] = omega arith
above-last (name ∷ []) = omega arith
above-last (name ∷ next ∷ names) = omega (arith, above-last (next ∷ names))

pushed-above : (at : Option (List (List ℕ))) (names : List (List ℕ)) → IsNothingOrProperAncestor at names → length (pushed_directories at) ≤ max (length names) 1
pushed-above None names way = omega arith
pushed-above (Some held) names way = omega (arith, length-fronts held, above-last names, ap {B = ℕ} (λ (l : List (List ℕ)). length l) way.joined, length-append held way.rest)

-- no rules are asked of the worktree root, so where some are there is a component
some-names : (names rest : List (List ℕ)) (first : List ℕ) → first ≡ slash_joined_components names → is_empty first ≡ false → 1 ≤ length (names ++ rest)
some-names [] rest first is some = absurd (let e : is_empty first ≡ true = ap is_empty is in let f : false ≡ true = sym some ∙ e in cc f)
some-names (name ∷ names) rest first is some = omega arith

-- so the classes on the way read at most once for each component
asks-above : {F T E : Type 0} (most : ℕ) (root : List ℕ) (reads0 reads1 : ℕ) (o0 o1 : F) (old new : Option StackModel) (result : Result T E) → most ≡ 0 → has_attributes_if_given (setup_of_optional_stack old) ≡ false
    → AsksRulesOnWayOrNot most root reads0 reads1 o0 o1 old new result → reads1 ≤ reads0 + length (components root) + one_if_refused result
asks-above most root reads0 reads1 o0 o1 old new result none alone (inl unasked) = omega (arith, unasked.reads, most-way most (components root) none)
asks-above most root reads0 reads1 o0 o1 old new result none alone (inr asked) =
    let some : 1 ≤ length (components asked.first ++ asked.behind.rest) = some-names (components asked.first) asked.behind.rest asked.first asked.behind.spelled_is asked.beneath in
    let last : length (components asked.last) ≡ length (components asked.first ++ asked.behind.rest) = ap {B = ℕ} (λ (l : List (List ℕ)). length l) asked.behind.components_are in
    let same : length (components root) ≡ length (components asked.last ++ asked.leads.rest) = ap {B = ℕ} (λ (l : List (List ℕ)). length l) asked.leads.components_are in
    omega (arith, asked.reads alone, most-way most (components root) none, pushed-above (directories_pushed_in_stack new) (components root) (on-way-to root new asked.leads asked.on_way), some, last, same, length-append (components asked.last) asked.leads.rest)

-- what was asked on the way to where it ended was asked on the way to the traversal root
pub asks-from : {F T E : Type 0} {most : ℕ} {root path : List ℕ} {reads0 reads1 : ℕ} {o0 o1 : F} {old new : Option StackModel} {result : Result T E} → IsPathOnWayToRoot root path
    → AsksRulesOnWayOrNot most path reads0 reads1 o0 o1 old new result → AsksRulesOnWayOrNot most root reads0 reads1 o0 o1 old new result
asks-from {most = most} {root = root} {path = path} {reads0 = reads0} {reads1 = reads1} {o0 = o0} {o1 = o1} {old = old} {new = new} {result = result} leads asks =
    way-root most root path leads.rest reads0 reads1 o0 o1 old new result leads.components_are asks

-- ---- what is opened

-- nothing is listed
pub listed-none : (strategy : Strategy) {before now : ℕ} → now ≡ before → CountsListingsByStrategy strategy before now 0
listed-none Held same = λ small. omega (arith, same, small)
listed-none AtOnce same = omega (arith, same)

-- or nothing before
pub listed-later : (strategy : Strategy) {before mid : ℕ} (now opened : ℕ) → mid ≡ before → CountsListingsByStrategy strategy mid now opened → CountsListingsByStrategy strategy before now opened
listed-later Held now opened same listed = λ small. omega (arith, same, small, listed (omega (arith, same, small)))
listed-later AtOnce now opened same listed = omega (arith, same, listed)

-- a traversal root is to be entered, and a refusal comes first
pub opens-not : {W I : Type 0} (strategy : Strategy) (w : WorktreeOf W) (i : InterruptOf I) (o : WalkOptions) (w0 w1 : W) (i0 i1 : I) (a : Outcome) (at : Option StackModel) (names : List (List ℕ)) (deep : ℕ) {Within : ℕ → Type 0} → ((n : ℕ) → n ≡ 0 → Within n) → w.lists w1 ≡ w.lists w0
    → w.reads w1 ≡ w.reads w0 → saturating_sum (i.questions i0) (deep + (i.raised i1 - i.raised i0)) ≤ i.questions i1 → OpensTraversalRoot w i w0 w1 i0 i1 a a strategy o at at names 1 deep Within
opens-not AtOnce w i o w0 w1 i0 i1 a at names deep none lists reads asked =
    record { enters = record { opened = 0; counted = λ small. omega (arith, small); asked = omega (arith, asked); within = none 0 refl }; listed = omega (arith, lists) }
opens-not Held w i o w0 w1 i0 i1 a at names deep none lists reads asked =
    record {
      opened = 0;
      opens = record { listed = λ small. omega (arith, lists, small); counted = λ small. omega (arith, small); asked = omega (arith, asked) };
      within = none 0 refl;
      reads = λ on alone. omega (arith, reads);
    }

module _ {W F I T U E : Type 0} {w : WorktreeOf W} {i : InterruptOf I} {o : WalkOptions} {w0 w2 : W} (w1 : W) {o0 o1 : F} (strategy : Strategy) {i0 : I} {a b : Outcome} {old mid : Option StackModel} {root : List ℕ} {reached : Result U E}
    (asks : AsksRulesOnWayOrNot (most_reads_to_classify_path o) root (w.reads w0) (w.reads w1) o0 o1 old mid reached) where
  -- the way to the traversal root ended before it, or it is not entered
  pub opens-short : {Within : ℕ → Type 0} → Within 0 → (result : Result T Stop) → count_too_deep_in_walk result ≡ 0 → w.lists w2 ≡ w.lists w0 → w.reads w2 ≡ w.reads w1 → b.read_dir_calls ≡ a.read_dir_calls → one_if_refused reached ≤ count_refused_walk result
      → OpensFromTraversalRoot w i w0 w2 i0 i0 a b strategy o (setup_of_optional_stack old) root result Within
  opens-short none result level lists reads counted fits =
      record {
        opened = 0;
        listed = listed-none strategy lists;
        counted = λ small. omega (arith, counted, small);
        asked = omega (arith, level);
        within = none;
        reads = λ held on alone. omega (arith, asks-above (most_reads_to_classify_path o) root (w.reads w0) (w.reads w1) o0 o1 old mid reached (most-none o (and_left o.recurse_repositories _ on)) alone asks, reads, fits);
      }

-- what is opened is opened between calls that list and read nothing
pub opens-around : {W I : Type 0} (strategy : Strategy) (w : WorktreeOf W) (i : InterruptOf I) (o : WalkOptions) (w0 w1 w2 : W) (i0 i1 : I) (a b c : Outcome) (old new : Option StackModel) (names : List (List ℕ)) (less spare high deep : ℕ)
    {First Within : ℕ → Type 0} → ((n : ℕ) → First n → Within n) → w.lists w1 ≡ w.lists w0 → w.reads w1 ≡ w.reads w0 → c.read_dir_calls ≡ b.read_dir_calls → less ≤ spare → deep ≤ high
    → OpensTraversalRoot w i w1 w2 i0 i1 a b strategy o old new names less high First → OpensTraversalRoot w i w0 w2 i0 i1 a c strategy o old new names spare deep Within
opens-around Held w i o w0 w1 w2 i0 i1 a b c old new names less spare high deep so lists reads read fits low one =
    record {
      opened = one.opened;
      opens = record {
        listed = λ small. omega (arith, lists, small, one.opens.listed (omega (arith, lists, small)));
        counted = λ small. omega (arith, read, one.opens.counted small);
        asked = omega (arith, one.opens.asked, low);
      };
      within = so one.opened one.within;
      reads = λ on alone. omega (arith, reads, fits, one.reads on alone);
    }
opens-around AtOnce w i o w0 w1 w2 i0 i1 a b c old new names less spare high deep so lists reads read fits low one =
    record {
      enters = record { opened = one.enters.opened; counted = λ small. omega (arith, read, one.enters.counted small); asked = omega (arith, one.enters.asked, low); within = so one.enters.opened one.enters.within };
      listed = omega (arith, lists, one.listed);
    }

pub refused-same : (S T : Type 0) (stop : Stop) → count_refused_walk {T = S} (Err stop) ≤ count_refused_walk {T = T} (Err stop)
refused-same S T (Refused e) = omega arith
refused-same S T Broken = omega arith

pub unlisted-same : (S T : Type 0) (stop : Stop) → count_unlisted_in_walk {T = S} (Err stop) ≤ count_unlisted_in_walk {T = T} (Err stop)
unlisted-same S T (Refused e) = omega arith
unlisted-same S T Broken = omega arith

pub deep-same : (S T : Type 0) (stop : Stop) → count_too_deep_in_walk {T = T} (Err stop) ≤ count_too_deep_in_walk {T = S} (Err stop)
deep-same S T (Refused e) = omega arith
deep-same S T Broken = omega arith

-- it is entered
pub opens-entered : {W F I T U E : Type 0} {w : WorktreeOf W} {i : InterruptOf I} {o : WalkOptions} {w0 : W} (w1 w2 : W) {o0 o1 : F} (strategy : Strategy) {i0 : I} {a b : Outcome} {old mid : Option StackModel} {root : List ℕ} {reached : Result U E}
    → AsksRulesOnWayOrNot (most_reads_to_classify_path o) root (w.reads w0) (w.reads w1) o0 o1 old mid reached
    → {w3 : W} {i1 : I} (new : Option StackModel) (result : Result T Stop) {First Within : ℕ → Type 0} → ((n : ℕ) → First n → Within n) → setup_of_optional_stack mid ≡ setup_of_optional_stack old → w.lists w2 ≡ w.lists w0 → w.reads w2 ≡ w.reads w1 → one_if_refused reached ≡ 0
    → OpensTraversalRoot w i w2 w3 i0 i1 a b strategy o mid new (components root) (count_refused_walk result) (count_too_deep_in_walk result) First → OpensFromTraversalRoot w i w0 w3 i0 i1 a b strategy o (setup_of_optional_stack old) root result Within
opens-entered {w = w} {o = o} {w0 = w0} w1 w2 {o0 = o0} {o1 = o1} Held {old = old} {mid = mid} {root = root} {reached = reached} asks new result so made lists reads answered one =
    record {
      opened = one.opened;
      listed = λ small. omega (arith, lists, small, one.opens.listed (omega (arith, lists, small)));
      counted = one.opens.counted;
      asked = one.opens.asked;
      within = so one.opened one.within;
      reads = λ held on alone.
          omega (
            arith,
            asks-on-way (most_reads_to_classify_path o) root (w.reads w0) (w.reads w1) o0 o1 old mid reached (most-none o (and_left o.recurse_repositories _ on)) alone asks,
            one.reads on (ap has_attributes_if_given made ∙ alone),
            pushed-most (directories_pushed_in_stack new) (components root),
            reads,
            answered,
          );
    }
opens-entered w1 w2 AtOnce asks new result so made lists reads answered one =
    record {
      opened = one.enters.opened;
      listed = omega (arith, lists, one.listed);
      counted = one.enters.counted;
      asked = one.enters.asked;
      within = so one.enters.opened one.enters.within;
      reads = λ held. absurd (cc held);
    }

-- ---- what is given

-- what was handed up, if anything, is put out
pub Puts-out : {room : List ℕ → ℕ} {a b c : Option (List Emission)} {i j k : Outcome} (up : List Entry) → AddsEmissionsWithinRoom room a b i j up → AddsEmissionsWithinRoom (λ path. count_held_at_path path up) b c j k [] → AddsEmissionsWithinRoom room a c i k []
Puts-out {room} {a} {b} {c} {i} {j} {k} up one two =
    Puts-over room (λ path. 0) room a b c i j k up [] one (Puts-as (λ path. count_held_at_path path up) (λ path. 0 + count_held_at_path path up) b c j k [] two (λ path. omega arith)) (λ path. omega arith)
