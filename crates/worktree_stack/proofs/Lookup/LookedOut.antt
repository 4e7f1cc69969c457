-- A lookup that makes the directories on its way, as a whole.
use Rattle.std.specs.Prelude.{◌≡◌, ℕ, ◌≤◌, ◌||◌, ◌&&◌, not, Bool, true, false, List, [], length, Option, Some, None, is_some, Ok, Err}
use Rattle.std.proofs.Common.{arith, inr, refl, sym, ap, ◌∙◌, subst}
use Rattle.gitbase_core.specs.Objects.{ObjectsById}
use Rattle.gitbase_core.specs.Path.{components}
use Rattle.gitbase_core.specs.declared.find.Find.{Ghosts as FindOf}
use Rattle.std.specs.List.{list_any}
use Rattle.worktree_fs.specs.Paths.{is_dot_or_dot_dot, is_relative_without_dots}
use Rattle.worktree_fs.specs.PathStack.{DelegateCall, delegate_calls_of_lookup, IsNothingOrProperAncestor}
use Rattle.worktree_fs.specs.Tree.{Names, is_absolute}
use Rattle.worktree_fs.specs.declared.worktree.Worktree.{Ghosts as WorktreeOf}
use Rattle.worktree_stack.specs.declared.error.AtPathError.{AtPathError}
use Rattle.worktree_stack.specs.declared.error.AtPathError.TheVariants as errors
use Rattle.worktree_stack.specs.declared.state.Checkout.{Checkout}
use Rattle.worktree_stack.specs.ChecksOut.{AreDirectoriesBelowRoot, LooksUpMakingDirectories, IsInStepWithDirectoriesPresent, components_pushed_by_lookup}
use Rattle.worktree_stack.specs.Counted.{with_lookup_counted, rules_counts_of_kind}
use Rattle.worktree_stack.specs.GoesOn.{RunsCheckoutCalls, KeepsStackInStep}
use Rattle.worktree_stack.specs.Lookups.{StandsAtPath, directories_kept_by_lookup}
use Rattle.worktree_stack.specs.Making.{CheckoutLookupOptions, MakesAndReadsByCalls, mkdir_count_of_stack, outcome_before_checkout, checkout_lookup_options, with_zero_mkdir_count}
use Rattle.worktree_stack.specs.Reading.{TreeAndObjects, RulesKind, of_attributes, of_ignore}
use Rattle.worktree_stack.specs.SeenNames.{attribute_names_read_in_checkout}
use Rattle.worktree_stack.specs.Setup.{StackSetup, Setup, setup_of_held_ignore_rules}
use Rattle.worktree_stack.specs.Stacked.{StackModel, setup_of_stack, pushed_directories}
use Rattle.worktree_stack.specs.Steps.{CarriesOutCalls}
use Rattle.worktree_stack.proofs.Lookup.Carrying.{carries-then, read-none}
use Rattle.worktree_stack.proofs.CheckOut.Halting.{halts-then, works-behind}
use Rattle.worktree_stack.proofs.Lookup.Looking.{fewer-stay}
use Rattle.worktree_stack.proofs.CheckOut.Preparing.{some-same}
use Rattle.worktree_stack.proofs.Lookup.Seeing.{sees-none}
use Rattle.worktree_stack.proofs.CheckOut.Within.{sources-same}
use Rattle.worktree_stack.proofs.CheckOut.Working.{works-unpushed}

-- a state that makes directories tells no excludes
pub keeps-none : (made : StackSetup) (checkout : Checkout) → made.checkout ≡ Some checkout → made.ignore ≡ None → (is_some made.ignore || not (is_some made.checkout)) ≡ true → ⊥
keeps-none made checkout some none e =
    never (sym (ap (λ (i : Option Setup). is_some i || not (is_some made.checkout)) none ∙ ap (λ (c : Option Checkout). not (is_some c)) some) ∙ e)
  where
    never : false ≡ true → ⊥
    never x = cc x

pub same-checkout : {a b : Checkout} (o : Option Checkout) → o ≡ Some a → o ≡ Some b → a ≡ b
same-checkout o x y = cc

pub never-both : (o : Option Checkout) (checkout : Checkout) → o ≡ Some checkout → o ≡ None → ⊥
never-both o checkout a b = cc

not_both : (b : Bool) → b ≡ false → b ≡ true → ⊥
not_both true e f = cc e
not_both false e f = cc f

objects-same : {a b : ObjectsById} → Some a ≡ Some b → a ≡ b
objects-same e = cc e

-- a normal path has no component `.` or `..`
pub no-dots : (path : List ℕ) → is_relative_without_dots path ≡ true → list_any is_dot_or_dot_dot (components path) ≡ false
no-dots path e = go (is_absolute path) (list_any is_dot_or_dot_dot (components path)) e
  where
    go : (a b : Bool) → (not a && not b) ≡ true → b ≡ false
    go a false e = refl
    go true true e = absurd (cc e)
    go false true e = absurd (cc e)

counted-none : (old : StackModel) (kind : RulesKind) → rules_counts_of_kind kind (with_lookup_counted old).statistics ≡ rules_counts_of_kind kind old.statistics
counted-none old of_attributes = refl
counted-none old of_ignore = refl

module _ {W F : Type 0} (w : WorktreeOf W) (f : FindOf F) (w0 w1 : W) (o0 o1 : F) (checkout : Checkout) (path : List ℕ) (kind : Option Bool) (is_link : Bool) where
  -- a path that is not normal is refused at once
  pub checks-not-normal : (old new : StackModel) → w1 ≡ w0 → o1 ≡ o0 → new ≡ with_lookup_counted old → is_relative_without_dots path ≡ false → LooksUpMakingDirectories {T = Unit {0}} w f w0 w1 o0 o1 checkout path kind is_link old new (Err errors.NotNormal)
  checks-not-normal old new same_w same_o counted not_normal =
      subst (λ (x : W). LooksUpMakingDirectories {T = Unit {0}} w f w0 x o0 o1 checkout path kind is_link old new (Err errors.NotNormal)) (sym same_w)
      (subst (λ (x : F). LooksUpMakingDirectories {T = Unit {0}} w f w0 w0 o0 x checkout path kind is_link old new (Err errors.NotNormal)) (sym same_o)
      (subst (λ (s : StackModel). LooksUpMakingDirectories {T = Unit {0}} w f w0 w0 o0 o0 checkout path kind is_link old s (Err errors.NotNormal)) (sym counted)
      (record {
        made = refl;
        levels = λ level. level;
        sees = sees-none (w.told w0) (f.holds o0) (λ s. attribute_names_read_in_checkout (setup_of_stack old) (checkout_lookup_options checkout (w.precomposes w0) old.root kind) s.objects (outcome_before_checkout s.tree (mkdir_count_of_stack old)) (delegate_calls_of_lookup old.at (components path))) old.attributes errors.NotNormal;
        looked_up = tt;
        is_dir = tt;
        answered = tt;
        unanswered = refl;
        on_way = λ normal. absurd (not_both (is_relative_without_dots path) not_normal normal);
        normal = λ e. (refl, refl, refl, refl);
        platforms = refl;
        stays = fewer-stay old.at (components path);
        store_untouched = λ none. refl;
        tested = tt;
        carried = tt;
        works = tt;
        halted = λ normal. absurd (not_both (is_relative_without_dots path) not_normal normal);
        untold = λ none. none;
        in_step = λ s0 s1 tells0 tells1 may same within.
            subst (λ (s : TreeAndObjects). IsInStepWithDirectoriesPresent s (with_lookup_counted old)) (sources-same s0 s1 (some-same (sym tells1.tree_is ∙ tells0.tree_is)) (objects-same (sym tells1.objects_are ∙ tells0.objects_are)))
            (record { in_step = within.in_step; there = within.there });
        there = λ s0 s1 tells0 tells1 may within. subst (λ (t : Names). AreDirectoriesBelowRoot old.root t (pushed_directories old.at)) (some-same (sym tells0.tree_is ∙ tells1.tree_is)) within.there;
        last_there = λ s0 s1 tells0 tells1 keeps makes. inr tt;
      })))

  module _ (old : StackModel) (checkout_is : old.checkout ≡ Some checkout) (alone : old.ignore ≡ None) (normal : is_relative_without_dots path ≡ true) where
    abbrev way : CheckoutLookupOptions
    way = checkout_lookup_options checkout (w.precomposes w0) old.root kind

    abbrev mid : StackModel
    mid = with_lookup_counted old

    abbrev calls : List DelegateCall
    calls = delegate_calls_of_lookup old.at (components path)

    first-carried : CarriesOutCalls None None [] (with_zero_mkdir_count old) (with_zero_mkdir_count mid)
    first-carried = record { setup = refl; left = refl; counted = refl; read = read-none None None (setup_of_stack old) (with_zero_mkdir_count old).statistics (with_zero_mkdir_count mid).statistics (λ k. counted-none (with_zero_mkdir_count old) k) }

    first-works : MakesAndReadsByCalls w w0 w0 (f.holds o0) way [] (setup_of_stack old) (mkdir_count_of_stack old) (mkdir_count_of_stack mid) old.statistics mid.statistics
    first-works = works-unpushed w (f.holds o0) way refl [] (setup_of_stack old) (mkdir_count_of_stack old) (mkdir_count_of_stack mid) old.statistics mid.statistics tt refl (read-none (w.told w0) (f.holds o0) (setup_of_stack old) old.statistics mid.statistics (counted-none old))

    within-old : (s : TreeAndObjects) → IsInStepWithDirectoriesPresent s old → IsInStepWithDirectoriesPresent s mid
    within-old s x = record { in_step = x.in_step; there = x.there }

    -- refused on the way
    pub checks-refused : (new : StackModel) (e : AtPathError) → RunsCheckoutCalls w f w0 w1 o0 o1 way is_link checkout.validate.protect_windows calls (components_pushed_by_lookup old.at (components path)) mid new (Err e)
        → IsNothingOrProperAncestor new.at (components path) → length (pushed_directories (directories_kept_by_lookup old.at (components path))) ≤ length (pushed_directories new.at) → KeepsStackInStep w f w0 w1 o0 o1 way (components path) (components_pushed_by_lookup old.at (components path)) mid new (Err e)
        → LooksUpMakingDirectories {T = Unit {0}} w f w0 w1 o0 o1 checkout path kind is_link old new (Err e)
    checks-refused new e goes on_way stays within =
        record {
          made = goes.made;
          levels = goes.levels;
          sees = goes.sees;
          looked_up = tt;
          is_dir = tt;
          answered = tt;
          unanswered = goes.answered;
          on_way = λ is. on_way;
          normal = λ is. absurd (not_both (is_relative_without_dots path) is normal);
          platforms = goes.platforms;
          stays = stays;
          store_untouched = goes.store_untouched;
          tested = tt;
          carried = tt;
          works = tt;
          halted = λ is. halts-then w f way is_link checkout.validate.protect_windows (f.holds o0) [] calls old mid new first-carried first-works refl _ _ _ _ (λ rose. rose) (λ rose. rose) (omega arith) refl [] (components_pushed_by_lookup old.at (components path)) tt refl e goes.halted;
          untold = goes.alters.untold;
          in_step = λ s0 s1 tells0 tells1 may same x. within.in_step (ap setup_of_held_ignore_rules alone) (no-dots path normal) s0 s1 tells0 tells1 may same (within-old s0 x);
          there = λ s0 s1 tells0 tells1 may x. within.there (ap setup_of_held_ignore_rules alone) (no-dots path normal) s0 s1 tells0 tells1 may (within-old s0 x);
          last_there = λ s0 s1 tells0 tells1 keeps makes. within.last_there (no-dots path normal) s0 s1 tells0 tells1 keeps makes;
        }

    -- answered
    pub checks-answered : (went new : StackModel) → new ≡ record went { is_dir = kind; is_answered = true }
        → RunsCheckoutCalls w f w0 w1 o0 o1 way is_link checkout.validate.protect_windows calls (components_pushed_by_lookup old.at (components path)) mid went (Ok tt)
        → StandsAtPath went (components path) → length (pushed_directories (directories_kept_by_lookup old.at (components path))) ≤ length (pushed_directories went.at) → KeepsStackInStep w f w0 w1 o0 o1 way (components path) (components_pushed_by_lookup old.at (components path)) mid went (Ok tt)
        → LooksUpMakingDirectories {T = Unit {0}} w f w0 w1 o0 o1 checkout path kind is_link old new (Ok tt)
    checks-answered went new same goes looked_up stays within =
        subst (λ (s : StackModel). LooksUpMakingDirectories {T = Unit {0}} w f w0 w1 o0 o1 checkout path kind is_link old s (Ok tt)) (sym same)
        (record {
          made = goes.made;
          levels = goes.levels;
          sees = goes.sees;
          looked_up = record { at = looked_up.at; current = looked_up.current };
          is_dir = refl;
          answered = refl;
          unanswered = tt;
          on_way = λ is. tt;
          normal = λ is. absurd (not_both (is_relative_without_dots path) is normal);
          platforms = goes.platforms;
          stays = stays;
          store_untouched = goes.store_untouched;
          tested = goes.tested;
          carried = recarried (carries-then None None [] calls (with_zero_mkdir_count old) (with_zero_mkdir_count mid) (with_zero_mkdir_count went) first-carried goes.carried);
          works = works-behind w f way is_link checkout.validate.protect_windows (f.holds o0) [] calls old mid went first-carried first-works refl calls (mkdir_count_of_stack went) went.statistics goes.works;
          halted = λ is. tt;
          untold = goes.alters.untold;
          in_step = λ s0 s1 tells0 tells1 may same x. let y = within.in_step (ap setup_of_held_ignore_rules alone) (no-dots path normal) s0 s1 tells0 tells1 may same (within-old s0 x) in record { in_step = y.in_step; there = y.there };
          there = λ s0 s1 tells0 tells1 may x. within.there (ap setup_of_held_ignore_rules alone) (no-dots path normal) s0 s1 tells0 tells1 may (within-old s0 x);
          last_there = λ s0 s1 tells0 tells1 keeps makes. within.last_there (no-dots path normal) s0 s1 tells0 tells1 keeps makes;
        })
      where
        recarried : CarriesOutCalls None None calls (with_zero_mkdir_count old) (with_zero_mkdir_count went) → CarriesOutCalls None None calls (with_zero_mkdir_count old) (with_zero_mkdir_count (record went { is_dir = kind; is_answered = true }))
        recarried c = record { setup = c.setup; left = c.left; counted = c.counted; read = c.read }
