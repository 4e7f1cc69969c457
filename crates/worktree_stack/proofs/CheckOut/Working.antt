-- How the steps of a checkout follow each other.
use Rattle.std.specs.Prelude.{◌≡◌, ℕ, zero, suc, ◌+◌, List, [], ◌∷◌, ◌++◌, replicate, Option, Some, None}
use Rattle.std.proofs.Common.{refl, sym, ap, ◌∙◌, subst, arith}
use Rattle.gitbase_core.specs.Objects.{ObjectsById}
use Rattle.worktree_fs.specs.PathStack.{DelegateCall, push, push_directory, pop_directory, delegate_calls_to_push_root}
use Rattle.worktree_fs.specs.Tree.{Names}
use Rattle.worktree_fs.specs.declared.answers.MakeAnswer.{MakeAnswer}
use Rattle.worktree_fs.specs.declared.answers.MakeAnswer.TheVariants as makes
use Rattle.worktree_fs.specs.declared.worktree.Worktree.{Ghosts as WorktreeOf}
use Rattle.worktree_stack.specs.declared.statistics.DelegateStatistics.{DelegateStatistics}
use Rattle.worktree_stack.specs.declared.statistics.RulesStatistics.{RulesStatistics}
use Rattle.worktree_stack.specs.declared.statistics.Statistics.{Statistics}
use Rattle.worktree_stack.specs.Checkout.{DirectoryOutcome, EqualsDirectoryOutcome}
use Rattle.worktree_stack.specs.Counted.{delegate_counts_after_call, delegate_counts_after_calls, rules_counts_after_readings, rules_counts_after_calls, rules_counts_of_kind}
use Rattle.worktree_stack.specs.Making.{CheckoutLookupOptions, MakesAndReadsByCalls, outcome_of_checkout_calls, rules_counts_after_checkout_calls, number_of_directories_to_make, outcome_of_pushed_component, outcome_before_checkout, next_outcome_if_made, with_zero_mkdir_count}
use Rattle.worktree_stack.specs.Reading.{TreeAndObjects, Tells, RulesKind, of_attributes, of_ignore, readings_of_directory}
use Rattle.worktree_stack.specs.Setup.{StackSetup}
use Rattle.worktree_stack.specs.Stacked.{StackModel, setup_of_stack}
use Rattle.worktree_stack.specs.Steps.{CountsReadRulesOfKind, CountsReadRules, CarriesOutCalls}

-- ---- what comes of calls and more behind them

-- every component is pushed, whatever came of those before it
abbrev pub ran : CheckoutLookupOptions → DirectoryOutcome → List DelegateCall → DirectoryOutcome
ran way p [] = p
ran way p (push path is_last ∷ calls) = ran way (outcome_of_pushed_component way p path is_last) calls
ran way p (push_directory path ∷ calls) = ran way p calls
ran way p (pop_directory ∷ calls) = ran way p calls

module _ (way : CheckoutLookupOptions) where
  checked-append : (p : DirectoryOutcome) (a b : List DelegateCall) → (outcome_of_checkout_calls way p a).answer ≡ makes.Made → outcome_of_checkout_calls way p (a ++ b) ≡ outcome_of_checkout_calls way (outcome_of_checkout_calls way p a) b
  checked-append p [] b is = refl
  checked-append p (push path is_last ∷ a) b is =
      go (outcome_of_pushed_component way p path is_last) (outcome_of_pushed_component way p path is_last).answer refl (checked-append (outcome_of_pushed_component way p path is_last) a b) is
    where
      go : (here : DirectoryOutcome) (answer : MakeAnswer) → here.answer ≡ answer
          → ((outcome_of_checkout_calls way here a).answer ≡ makes.Made → outcome_of_checkout_calls way here (a ++ b) ≡ outcome_of_checkout_calls way (outcome_of_checkout_calls way here a) b)
          → (next_outcome_if_made here (outcome_of_checkout_calls way here a) answer).answer ≡ makes.Made
          → next_outcome_if_made here (outcome_of_checkout_calls way here (a ++ b)) answer ≡ outcome_of_checkout_calls way (next_outcome_if_made here (outcome_of_checkout_calls way here a) answer) b
      go here makes.Made e more is = more is
      go here makes.Exists e more is = absurd (cc (sym e ∙ is))
      go here makes.NoParent e more is = absurd (cc (sym e ∙ is))
  checked-append p (push_directory path ∷ a) b is = checked-append p a b is
  checked-append p (pop_directory ∷ a) b is = checked-append p a b is

  pub ran-checked : (p : DirectoryOutcome) (a : List DelegateCall) → (outcome_of_checkout_calls way p a).answer ≡ makes.Made → ran way p a ≡ outcome_of_checkout_calls way p a
  ran-checked p [] is = refl
  ran-checked p (push path is_last ∷ a) is =
      go (outcome_of_pushed_component way p path is_last) (outcome_of_pushed_component way p path is_last).answer refl (ran-checked (outcome_of_pushed_component way p path is_last) a) is
    where
      go : (here : DirectoryOutcome) (answer : MakeAnswer) → here.answer ≡ answer → ((outcome_of_checkout_calls way here a).answer ≡ makes.Made → ran way here a ≡ outcome_of_checkout_calls way here a)
          → (next_outcome_if_made here (outcome_of_checkout_calls way here a) answer).answer ≡ makes.Made → ran way here a ≡ next_outcome_if_made here (outcome_of_checkout_calls way here a) answer
      go here makes.Made e more is = more is
      go here makes.Exists e more is = absurd (cc (sym e ∙ is))
      go here makes.NoParent e more is = absurd (cc (sym e ∙ is))
  ran-checked p (push_directory path ∷ a) is = ran-checked p a is
  ran-checked p (pop_directory ∷ a) is = ran-checked p a is

  made_on-append : (a b : List DelegateCall) → number_of_directories_to_make way (a ++ b) ≡ number_of_directories_to_make way a + number_of_directories_to_make way b
  made_on-append [] b = omega arith
  made_on-append (push path is_last ∷ a) b = omega (arith, made_on-append a b)
  made_on-append (push_directory path ∷ a) b = made_on-append a b
  made_on-append (pop_directory ∷ a) b = made_on-append a b

  count-append : (kind : RulesKind) (made : StackSetup) (objects : ObjectsById) (p : DirectoryOutcome) (s : RulesStatistics) (a b : List DelegateCall)
      → rules_counts_after_checkout_calls kind made way objects p s (a ++ b) ≡ rules_counts_after_checkout_calls kind made way objects (ran way p a) (rules_counts_after_checkout_calls kind made way objects p s a) b
  count-append kind made objects p s [] b = refl
  count-append kind made objects p s (push path is_last ∷ a) b = count-append kind made objects (outcome_of_pushed_component way p path is_last) s a b
  count-append kind made objects p s (push_directory path ∷ a) b = count-append kind made objects p (rules_counts_after_readings kind (record { tree = p.tree; objects = objects }) s (readings_of_directory made path)) a b
  count-append kind made objects p s (pop_directory ∷ a) b = count-append kind made objects p s a b

prepared-same : (p : DirectoryOutcome) (calls : ℕ) → makes.Made ≡ p.answer → calls ≡ p.calls → p ≡ outcome_before_checkout p.tree calls
prepared-same p calls answer counted =
    ap (λ (a : MakeAnswer). record { answer = a; tree = p.tree; calls = p.calls }) (sym answer) ∙ ap (outcome_before_checkout p.tree) (sym counted)

pub where-same : (here : DirectoryOutcome) (answer : MakeAnswer) → next_outcome_if_made here here answer ≡ here
where-same here makes.Made = refl
where-same here makes.Exists = refl
where-same here makes.NoParent = refl

-- what was done on a way and then on another
pub works-then : {W : Type 0} (w : WorktreeOf W) {wa wb wc : W} (holds : Option ObjectsById) (way : CheckoutLookupOptions) (made : StackSetup) (a b : List DelegateCall) (n0 n1 n2 : ℕ) (s0 s1 s2 : Statistics)
    → MakesAndReadsByCalls w wa wb holds way a made n0 n1 s0 s1 → MakesAndReadsByCalls w wb wc holds way b made n1 n2 s1 s2 → MakesAndReadsByCalls w wa wc holds way (a ++ b) made n0 n2 s0 s2
works-then w {wa} {wb} {wc} holds way made a b n0 n1 n2 s0 s1 s2 first second =
    record {
      tree = λ t told.
          let p : DirectoryOutcome = outcome_of_checkout_calls way (outcome_before_checkout t n0) a in
          let x : EqualsDirectoryOutcome p (w.told wb) n1 makes.Made = first.tree t told in
          subst (λ (q : DirectoryOutcome). EqualsDirectoryOutcome q (w.told wc) n2 makes.Made) (sym (joined t x)) (second.tree p.tree x.tree_is);
      read = λ s tells kind.
          let p : DirectoryOutcome = outcome_of_checkout_calls way (outcome_before_checkout s.tree n0) a in
          let x : EqualsDirectoryOutcome p (w.told wb) n1 makes.Made = first.tree s.tree tells.tree_is in
          let after : TreeAndObjects = record { tree = p.tree; objects = s.objects } in
          second.read after (record { tree_is = x.tree_is; objects_are = tells.objects_are }) kind
          ∙ ap (λ (c : RulesStatistics). rules_counts_after_checkout_calls kind made way s.objects (outcome_before_checkout p.tree n1) c b) (first.read s tells kind)
          ∙ sym (count-append way kind made s.objects (outcome_before_checkout s.tree n0) (rules_counts_of_kind kind s0) a b
          ∙ ap (λ (q : DirectoryOutcome). rules_counts_after_checkout_calls kind made way s.objects q (rules_counts_after_checkout_calls kind made way s.objects (outcome_before_checkout s.tree n0) (rules_counts_of_kind kind s0) a) b)
          (ran-checked way (outcome_before_checkout s.tree n0) a (sym x.answer_is) ∙ prepared-same p n1 x.answer_is x.calls_are));
      least = omega (arith, first.least, second.least);
      most = omega (arith, first.most, second.most, made_on-append way a b);
    }
  where
    joined : (t : Names) → EqualsDirectoryOutcome (outcome_of_checkout_calls way (outcome_before_checkout t n0) a) (w.told wb) n1 makes.Made
        → outcome_of_checkout_calls way (outcome_before_checkout t n0) (a ++ b) ≡ outcome_of_checkout_calls way (outcome_before_checkout (outcome_of_checkout_calls way (outcome_before_checkout t n0) a).tree n1) b
    joined t x =
        checked-append way (outcome_before_checkout t n0) a b (sym x.answer_is)
        ∙ ap (λ (q : DirectoryOutcome). outcome_of_checkout_calls way q b) (prepared-same (outcome_of_checkout_calls way (outcome_before_checkout t n0) a) n1 x.answer_is x.calls_are)

-- ---- calls that push no component

abbrev pub AreUnpushed : List DelegateCall → Type 0
AreUnpushed [] = Unit {0}
AreUnpushed (push path is_last ∷ calls) = ⊥
AreUnpushed (push_directory path ∷ calls) = AreUnpushed calls
AreUnpushed (pop_directory ∷ calls) = AreUnpushed calls

pub unpushed-front : (a b : List DelegateCall) → AreUnpushed (a ++ b) → AreUnpushed a
unpushed-front [] b are = tt
unpushed-front (push path is_last ∷ a) b are = absurd are
unpushed-front (push_directory path ∷ a) b are = unpushed-front a b are
unpushed-front (pop_directory ∷ a) b are = unpushed-front a b are

pub unpushed-root : (at : Option (List (List ℕ))) → AreUnpushed (delegate_calls_to_push_root at)
unpushed-root None = tt
unpushed-root (Some names) = tt

pub unpushed-pops : (n : ℕ) → AreUnpushed (replicate n pop_directory)
unpushed-pops zero = tt
unpushed-pops (suc n) = unpushed-pops n

unpushed-checked : (way : CheckoutLookupOptions) (p : DirectoryOutcome) (calls : List DelegateCall) → AreUnpushed calls → outcome_of_checkout_calls way p calls ≡ p
unpushed-checked way p [] are = refl
unpushed-checked way p (push path is_last ∷ calls) are = absurd are
unpushed-checked way p (push_directory path ∷ calls) are = unpushed-checked way p calls are
unpushed-checked way p (pop_directory ∷ calls) are = unpushed-checked way p calls are

unpushed-count : (way : CheckoutLookupOptions) (kind : RulesKind) (made : StackSetup) (objects : ObjectsById) (p : DirectoryOutcome) (s : RulesStatistics) (calls : List DelegateCall) → AreUnpushed calls
    → rules_counts_after_checkout_calls kind made way objects p s calls ≡ rules_counts_after_calls kind made (record { tree = p.tree; objects = objects }) s calls
unpushed-count way kind made objects p s [] are = refl
unpushed-count way kind made objects p s (push path is_last ∷ calls) are = absurd are
unpushed-count way kind made objects p s (push_directory path ∷ calls) are = unpushed-count way kind made objects p (rules_counts_after_readings kind (record { tree = p.tree; objects = objects }) s (readings_of_directory made path)) calls are
unpushed-count way kind made objects p s (pop_directory ∷ calls) are = unpushed-count way kind made objects p s calls are

pub unmade-counts : (d : DelegateStatistics) (calls : List DelegateCall) → record (delegate_counts_after_calls d calls) { num_mkdir_calls = 0 } ≡ delegate_counts_after_calls (record d { num_mkdir_calls = 0 }) calls
unmade-counts d [] = refl
unmade-counts d (push path is_last ∷ calls) = unmade-counts (delegate_counts_after_call d (push path is_last)) calls
unmade-counts d (push_directory path ∷ calls) = unmade-counts (delegate_counts_after_call d (push_directory path)) calls
unmade-counts d (pop_directory ∷ calls) = unmade-counts (delegate_counts_after_call d pop_directory) calls

pub mkdirs-same : (d : DelegateStatistics) (calls : List DelegateCall) → (delegate_counts_after_calls d calls).num_mkdir_calls ≡ d.num_mkdir_calls
mkdirs-same d [] = refl
mkdirs-same d (push path is_last ∷ calls) = mkdirs-same (delegate_counts_after_call d (push path is_last)) calls
mkdirs-same d (push_directory path ∷ calls) = mkdirs-same (delegate_counts_after_call d (push_directory path)) calls
mkdirs-same d (pop_directory ∷ calls) = mkdirs-same (delegate_counts_after_call d pop_directory) calls

pub read-untold : (told : Option Names) (holds : Option ObjectsById) (made : StackSetup) (calls : List DelegateCall) (a b : Statistics) → CountsReadRules told holds made calls a b → CountsReadRules None None made calls a b
read-untold told holds made calls a b read kind =
    let r : CountsReadRulesOfKind told holds kind made calls (rules_counts_of_kind kind a) (rules_counts_of_kind kind b) = read kind in
    record { tried = r.tried; buffers = r.buffers; most_buffers = r.most_buffers; files = r.files; most_files = r.most_files; exact = λ s tells. absurd (nothing s tells) }
  where
    nothing : (s : TreeAndObjects) → Tells None None s → ⊥
    nothing s tells = clash tells.tree_is
      where
        clash : {t : Names} → None ≡ Some t → ⊥
        clash e = cc e

-- what is read is not what is counted of directories that are made
pub plain-read : (told : Option Names) (holds : Option ObjectsById) (made : StackSetup) (calls : List DelegateCall) (old new : StackModel)
    → CountsReadRules told holds made calls (with_zero_mkdir_count old).statistics (with_zero_mkdir_count new).statistics → CountsReadRules told holds made calls old.statistics new.statistics
plain-read told holds made calls old new read of_attributes = read of_attributes
plain-read told holds made calls old new read of_ignore = read of_ignore

pub bare-read : (told : Option Names) (holds : Option ObjectsById) (made : StackSetup) (calls : List DelegateCall) (old new : StackModel)
    → CountsReadRules told holds made calls old.statistics new.statistics → CountsReadRules told holds made calls (with_zero_mkdir_count old).statistics (with_zero_mkdir_count new).statistics
bare-read told holds made calls old new read of_attributes = read of_attributes
bare-read told holds made calls old new read of_ignore = read of_ignore

pub carries-unmade : (told : Option Names) (holds : Option ObjectsById) (calls : List DelegateCall) (old new : StackModel) → CarriesOutCalls told holds calls old new → CarriesOutCalls None None calls (with_zero_mkdir_count old) (with_zero_mkdir_count new)
carries-unmade told holds calls old new carries =
    record {
      setup = carries.setup;
      left = carries.left;
      counted = ap (λ (d : DelegateStatistics). record d { num_mkdir_calls = 0 }) carries.counted ∙ unmade-counts old.statistics.delegate calls;
      read = bare-read None None (setup_of_stack old) calls old new (read-untold told holds (setup_of_stack old) calls old.statistics new.statistics carries.read);
    }

module _ {W : Type 0} (w : WorktreeOf W) {w0 w1 : W} (holds : Option ObjectsById) (way : CheckoutLookupOptions) (tree : w.told w1 ≡ w.told w0) where
  pub works-unpushed : (calls : List DelegateCall) (made : StackSetup) (n0 n1 : ℕ) (old new : Statistics) → AreUnpushed calls → n1 ≡ n0 → CountsReadRules (w.told w0) holds made calls old new
      → MakesAndReadsByCalls w w0 w1 holds way calls made n0 n1 old new
  works-unpushed calls made n0 n1 old new are same read =
      record {
        tree = λ t told.
            subst (λ (p : DirectoryOutcome). EqualsDirectoryOutcome p (w.told w1) n1 makes.Made) (sym (unpushed-checked way (outcome_before_checkout t n0) calls are))
            (record { answer_is = refl; tree_is = tree ∙ told; calls_are = same });
        read = λ s tells kind.
            let r : CountsReadRulesOfKind (w.told w0) holds kind made calls (rules_counts_of_kind kind old) (rules_counts_of_kind kind new) = read kind in
            r.exact s tells ∙ sym (unpushed-count way kind made s.objects (outcome_before_checkout s.tree n0) (rules_counts_of_kind kind old) calls are);
        least = omega (arith, same);
        most = omega (arith, same);
      }
