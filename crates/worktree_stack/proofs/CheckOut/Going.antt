-- Steps of a checkout that go through one after the other, or are refused.
use Rattle.std.specs.Prelude.{◌≡◌, ℕ, ◌≤◌, ◌+◌, Bool, List, [], ◌∷◌, ◌++◌, length, Option, None, Result, Ok, Err, OnOk, IfErr}
use Rattle.std.proofs.Common.{inl, inr, refl, sym, ap, ◌∙◌, subst, append_assoc, arith}
use Rattle.std.proofs.lemmas.List.{length-append}
use Rattle.gitbase_core.specs.Objects.{ObjectsById}
use Rattle.gitbase_core.specs.declared.find.Find.{Ghosts as FindOf}
use Rattle.worktree_fs.specs.Causes.{CountIncreasedOrSaturated}
use Rattle.worktree_fs.specs.Kept.{KeepsTreeAndListCounts, KeepsStoredObjects}
use Rattle.worktree_fs.specs.Paths.{slash_joined_components}
use Rattle.worktree_fs.specs.PathStack.{DelegateCall, push, deepest_components_or_root, pushed_directory_paths}
use Rattle.worktree_fs.specs.Tree.{Names}
use Rattle.worktree_fs.specs.declared.answers.MakeAnswer.TheVariants as makes
use Rattle.worktree_fs.specs.declared.worktree.Worktree.{Ghosts as WorktreeOf}
use Rattle.worktree_stack.specs.declared.error.AtPathError.{AtPathError}
use Rattle.worktree_stack.specs.declared.error.AtPathError.TheVariants as errors
use Rattle.worktree_stack.specs.declared.statistics.DelegateStatistics.{DelegateStatistics}
use Rattle.worktree_stack.specs.declared.statistics.Statistics.{Statistics}
use Rattle.worktree_stack.specs.Checkout.{DirectoryOutcome, EqualsDirectoryOutcome, KeepsListingsAndReads}
use Rattle.worktree_stack.specs.ChecksOut.{StopsCheckout, number_of_pushed_components}
use Rattle.worktree_stack.specs.Asked.{number_of_all_files_asked_by_calls}
use Rattle.worktree_stack.specs.Counted.{rules_counts_of_kind}
use Rattle.worktree_stack.specs.GoesOn.{MayAlterTreeButNotList, RunsCheckoutCalls, PushesComponentInCheckout, with_mkdir_count}
use Rattle.worktree_stack.specs.Lookups.{stack_after_pushing_component}
use Rattle.worktree_stack.specs.Making.{CheckoutLookupOptions, MakesAndReadsByCalls, outcome_of_checkout_calls, mkdir_count_of_stack, outcome_of_pushed_component, outcome_before_checkout, with_zero_mkdir_count}
use Rattle.worktree_stack.specs.Placed.{StopsReadingAtFile, StopsReadingAtBlob, StopsReadingForMemory}
use Rattle.worktree_stack.specs.Reading.{RulesKind, of_attributes, of_ignore, readings_of_directory}
use Rattle.worktree_stack.specs.Refused.{IsDirectoryReadingRefused, IsFileRefusedForDirectory, IsBlobRefusedForDirectory}
use Rattle.worktree_stack.specs.SeenNames.{AppendsReadNamesAsSeen, attribute_names_read_by_calls}
use Rattle.worktree_stack.specs.Setup.{StackSetup}
use Rattle.worktree_stack.specs.Stacked.{StackModel, HasCountsOfPushedDirectories, setup_of_stack}
use Rattle.worktree_stack.specs.Steps.{CountsRefusedDirectoryReading, CarriesOutCalls, StopsAfterCalls, StopsAtRefusedDirectory, StopsLookupByError, refused_call_as_list}
use Rattle.worktree_stack.proofs.Lookup.Asked.{asked-append, asked-front}
use Rattle.worktree_stack.proofs.Lookup.Carrying.{carries-then, carries-left, carries-none, read-none}
use Rattle.worktree_stack.proofs.CheckOut.Halting.{fine-both, pushes-append, unpushed-none, passed-none, halts-more, halts-then, works-behind}
use Rattle.worktree_stack.proofs.Lookup.LookedUp.{store-then}
use Rattle.worktree_stack.proofs.Refusals.{rose-earlier}
use Rattle.worktree_stack.proofs.Lookup.Seeing.{sees-nothing}
use Rattle.worktree_stack.proofs.Lookup.SeeingOn.{out-front, out-then, sees-unpushed}
use Rattle.worktree_stack.proofs.CheckOut.Stepping.{carries-stepped}
use Rattle.worktree_stack.proofs.CheckOut.Working.{AreUnpushed, unpushed-front, unmade-counts, read-untold, carries-unmade, works-unpushed, where-same}

pub alters-then : {W : Type 0} (w : WorktreeOf W) (a b c : W) → MayAlterTreeButNotList w a b → MayAlterTreeButNotList w b c → MayAlterTreeButNotList w a c
alters-then w a b c first second =
    record {
      untold = λ none. second.untold (first.untold none);
      faults = omega (arith, first.faults, second.faults);
      list_faults = second.list_faults ∙ first.list_faults;
      reads = omega (arith, first.reads, second.reads);
      lists = second.lists ∙ first.lists;
      precomposes = second.precomposes ∙ first.precomposes;
    }

alters-asked : {W : Type 0} (w : WorktreeOf W) (a b : W) → KeepsTreeAndListCounts w a b → MayAlterTreeButNotList w a b
alters-asked w a b x =
    record { untold = λ none. x.tree ∙ none; faults = x.faults; list_faults = x.list_faults; reads = x.reads; lists = x.lists; precomposes = x.precomposes }

alters-changed : {W : Type 0} (w : WorktreeOf W) (a b : W) → KeepsListingsAndReads w a b → MayAlterTreeButNotList w a b
alters-changed w a b x =
    record { untold = x.untold; faults = x.faults; list_faults = x.list_faults; reads = omega (arith, x.reads); lists = x.lists; precomposes = x.precomposes }

same-counts : (old : StackModel) (name : List ℕ) (kind : RulesKind) (count : ℕ) → rules_counts_of_kind kind (with_mkdir_count (stack_after_pushing_component old name) count).statistics ≡ rules_counts_of_kind kind old.statistics
same-counts old name of_attributes count = refl
same-counts old name of_ignore count = refl

module _ {W F : Type 0} (w : WorktreeOf W) (f : FindOf F) (way : CheckoutLookupOptions) (is_link protects : Bool) where
  -- ---- steps

  -- one step behind others that went through
  module _ {wa wb wc : W} {oa ob oc : F} {a b : List DelegateCall} {na nb : List (List ℕ)} {s0 s1 s2 : StackModel} where
    pub goes-then : (r : Result (Unit {0}) AtPathError) → RunsCheckoutCalls w f wa wb oa ob way is_link protects a na s0 s1 (Ok tt) → RunsCheckoutCalls w f wb wc ob oc way is_link protects b nb s1 s2 r
        → RunsCheckoutCalls w f wa wc oa oc way is_link protects (a ++ b) (na ++ nb) s0 s2 r
    goes-then r first second =
        record {
          made = second.made ∙ first.made;
          carried = both r (carries-then None None a b (with_zero_mkdir_count s0) (with_zero_mkdir_count s1) (with_zero_mkdir_count s2) first.carried) second.carried;
          works = both r (works-behind w f way is_link protects (f.holds oa) a b s0 s1 s2 first.carried first.works first.is_dir b (mkdir_count_of_stack s2) s2.statistics) (as-held r (λ h. MakesAndReadsByCalls w wb wc h way b (setup_of_stack s1) (mkdir_count_of_stack s1) (mkdir_count_of_stack s2) s1.statistics s2.statistics) second.works);
          tested = both r (fine-both is_link protects na nb first.tested) second.tested;
          many = both r (λ (n : number_of_pushed_components b ≡ length nb). omega (arith, first.many, n, pushes-append a b, length-append na nb)) second.many;
          halted = halts r second.halted;
          is_dir = second.is_dir ∙ first.is_dir;
          answered = second.answered ∙ first.answered;
          platforms = second.platforms ∙ first.platforms;
          levels = λ level. second.levels (first.levels level);
          sees = out-then w (f.holds oa) (f.holds ob) way (setup_of_stack s0) (setup_of_stack s1) a b (mkdir_count_of_stack s0) (mkdir_count_of_stack s1) s0.statistics s1.statistics s0.attributes s1.attributes s2.attributes r first.leaves_store.holds first.made first.works first.sees second.sees;
          store_untouched = λ none. second.store_untouched (ap (λ (m : StackSetup). m.mappings) first.made ∙ none) ∙ first.store_untouched none;
          asked = omega (arith, first.asked, second.asked, ap (λ (m : StackSetup). number_of_all_files_asked_by_calls m b) first.made, asked-append (setup_of_stack s0) a b);
          alters = alters-then w wa wb wc first.alters second.alters;
          leaves_store = store-then f oa ob oc first.leaves_store second.leaves_store;
        }
      where
        both : {P Q : Type 0} (r : Result (Unit {0}) AtPathError) → (P → Q) → OnOk r P → OnOk r Q
        both (Ok v) g p = g p
        both (Err e) g p = tt

        as-held : (r : Result (Unit {0}) AtPathError) (P : Option ObjectsById → Type 0) → OnOk r (P (f.holds ob)) → OnOk r (P (f.holds oa))
        as-held (Ok v) P p = subst P first.leaves_store.holds p
        as-held (Err e) P p = tt

        halts : (r : Result (Unit {0}) AtPathError)
            → IfErr r (StopsCheckout w wb wc (f.holds ob) way is_link protects (CountIncreasedOrSaturated (w.faults wb) (w.faults wc)) (CountIncreasedOrSaturated (f.faults ob) (f.faults oc)) b nb s1 s2)
            → IfErr r (StopsCheckout w wa wc (f.holds oa) way is_link protects (CountIncreasedOrSaturated (w.faults wa) (w.faults wc)) (CountIncreasedOrSaturated (f.faults oa) (f.faults oc)) (a ++ b) (na ++ nb) s0 s2)
        halts (Ok v) h = tt
        halts (Err e) h =
            halts-then w f way is_link protects (f.holds oa) a b s0 s1 s2 first.carried first.works first.is_dir _ _ _ _
            (rose-earlier (w.faults wa) (w.faults wb) (w.faults wc) first.alters.faults)
            (rose-earlier (f.faults oa) (f.faults ob) (f.faults oc) first.leaves_store.faults) first.alters.faults first.alters.precomposes na nb first.tested first.many e
            (subst (λ (h : Option ObjectsById). StopsCheckout w wb wc h way is_link protects (CountIncreasedOrSaturated (w.faults wb) (w.faults wc)) (CountIncreasedOrSaturated (f.faults ob) (f.faults oc)) b nb s1 s2 e) first.leaves_store.holds h)

  -- what was refused has not come to the calls behind it
  pub goes-more : {w0 w1 : W} {o0 o1 : F} {calls : List DelegateCall} {names : List (List ℕ)} {old new : StackModel} (e : AtPathError) (more : List DelegateCall) (names' : List (List ℕ))
      → RunsCheckoutCalls w f w0 w1 o0 o1 way is_link protects calls names old new (Err e) → RunsCheckoutCalls w f w0 w1 o0 o1 way is_link protects (calls ++ more) (names ++ names') old new (Err e)
  goes-more {w0} {w1} {o0} {o1} {calls} {names} {old} {new} e more names' g =
      record {
        made = g.made;
        carried = tt;
        works = tt;
        tested = tt;
        many = tt;
        halted = halts-more w f way is_link protects (f.holds o0) _ _ calls more names names' old new e g.halted;
        is_dir = g.is_dir;
        answered = g.answered;
        platforms = g.platforms;
        levels = g.levels;
        sees = out-front (w.told w0) (f.holds o0) way (setup_of_stack old) (mkdir_count_of_stack old) calls more old.attributes new.attributes e g.sees;
        store_untouched = g.store_untouched;
        asked = omega (arith, g.asked, asked-front (setup_of_stack old) (calls ++ more) calls more refl);
        alters = g.alters;
        leaves_store = g.leaves_store;
      }

  -- the same of other calls and components, which are these
  pub goes-as : {w0 w1 : W} {o0 o1 : F} {calls calls' : List DelegateCall} {names names' : List (List ℕ)} {old new : StackModel} (r : Result (Unit {0}) AtPathError) → calls' ≡ calls → names' ≡ names
      → RunsCheckoutCalls w f w0 w1 o0 o1 way is_link protects calls names old new r → RunsCheckoutCalls w f w0 w1 o0 o1 way is_link protects calls' names' old new r
  goes-as {w0} {w1} {o0} {o1} {calls} {calls'} {names} {names'} {old} {new} r same also g =
      subst (λ (c : List DelegateCall). RunsCheckoutCalls w f w0 w1 o0 o1 way is_link protects c names' old new r) (sym same)
      (subst (λ (n : List (List ℕ)). RunsCheckoutCalls w f w0 w1 o0 o1 way is_link protects calls n old new r) (sym also) g)

  -- nothing is done
  pub goes-nothing : (w0 : W) (o0 : F) (s : StackModel) → RunsCheckoutCalls w f w0 w0 o0 o0 way is_link protects [] [] s s (Ok tt)
  goes-nothing w0 o0 s =
      let carried : CarriesOutCalls None None [] (with_zero_mkdir_count s) (with_zero_mkdir_count s) = carries-none None None (with_zero_mkdir_count s) (with_zero_mkdir_count s) refl refl refl in
      record {
        made = refl;
        carried = carried;
        works = works-unpushed w (f.holds o0) way refl [] (setup_of_stack s) (mkdir_count_of_stack s) (mkdir_count_of_stack s) s.statistics s.statistics tt refl (read-none (w.told w0) (f.holds o0) (setup_of_stack s) s.statistics s.statistics (λ kind. refl));
        tested = tt;
        many = refl;
        halted = tt;
        is_dir = refl;
        answered = refl;
        platforms = refl;
        levels = λ level. level;
        sees = sees-nothing (w.told w0) (f.holds o0) (λ t. []) s.attributes s.attributes (Ok tt) refl (λ t. refl);
        store_untouched = λ none. refl;
        asked = omega arith;
        alters = record { untold = λ none. none; faults = omega arith; list_faults = refl; reads = omega arith; lists = refl; precomposes = refl };
        leaves_store = record { holds = refl; faults = omega arith };
      }

  -- the deepest directory is current then
  pub goes-left : {w0 w1 : W} {o0 o1 : F} {calls : List DelegateCall} {names : List (List ℕ)} {old mid new : StackModel} → RunsCheckoutCalls w f w0 w1 o0 o1 way is_link protects calls names old mid (Ok tt)
      → new ≡ record mid { current = deepest_components_or_root mid.at } → RunsCheckoutCalls w f w0 w1 o0 o1 way is_link protects calls names old new (Ok tt)
  goes-left {w0} {w1} {o0} {o1} {calls} {names} {old} {mid} {new} g left =
      let there : RunsCheckoutCalls w f w0 w1 o0 o1 way is_link protects calls names old (record mid { current = deepest_components_or_root mid.at }) (Ok tt) =
      record {
        made = g.made;
        carried = carries-left None None calls (with_zero_mkdir_count old) (with_zero_mkdir_count mid) (with_zero_mkdir_count (record mid { current = deepest_components_or_root mid.at })) g.carried refl;
        works = g.works;
        tested = g.tested;
        many = g.many;
        halted = tt;
        is_dir = g.is_dir;
        answered = g.answered;
        platforms = g.platforms;
        levels = g.levels;
        sees = g.sees;
        store_untouched = g.store_untouched;
        asked = g.asked;
        alters = g.alters;
        leaves_store = g.leaves_store;
      } in
      subst (λ (s : StackModel). RunsCheckoutCalls w f w0 w1 o0 o1 way is_link protects calls names old s (Ok tt)) (sym left) there

  -- ---- calls that push no component

  module _ {w0 w1 : W} {o0 o1 : F} (calls : List DelegateCall) (old new : StackModel) (are : AreUnpushed calls) (asks : KeepsTreeAndListCounts w w0 w1) (stores : KeepsStoredObjects f o0 o1) where
    unpushed-stops : (TF SF : Type 0) (n : mkdir_count_of_stack new ≡ mkdir_count_of_stack old) (e : AtPathError) → StopsLookupByError (w.told w0) (f.holds o0) TF SF calls old new e
        → StopsCheckout w w0 w1 (f.holds o0) way is_link protects TF SF calls [] old new e
    unpushed-stops TF SF n e = go e
      where
        bare-stopped : (done : List DelegateCall) (begun : Option DelegateCall) → StopsAfterCalls calls old new done begun → StopsAfterCalls calls (with_zero_mkdir_count old) (with_zero_mkdir_count new) done begun
        bare-stopped done begun s =
            record {
              unmade = s.unmade;
              front = s.front;
              left = s.left;
              counted = ap (λ (d : DelegateStatistics). record d { num_mkdir_calls = 0 }) s.counted ∙ unmade-counts old.statistics.delegate (done ++ refused_call_as_list begun);
              current = s.current;
              is_dir = s.is_dir;
            }

        done-unpushed : (done : List DelegateCall) (begun : Option DelegateCall) → StopsAfterCalls calls old new done begun → AreUnpushed done
        done-unpushed done begun s = unpushed-front done (refused_call_as_list begun ++ s.unmade) (subst AreUnpushed (s.front ∙ append_assoc done (refused_call_as_list begun) s.unmade) are)

        at : (Holds : List ℕ → Type 0) (Counts : List ℕ → Statistics → Statistics → Type 0) (e : AtPathError)
            → ((d : List ℕ) → Holds d → IsDirectoryReadingRefused (w.told w1) (f.holds o0) TF SF (setup_of_stack old) d e) → ((d : List ℕ) (b : Statistics) → Counts d b new.statistics → CountsRefusedDirectoryReading (w.told w1) (f.holds o0) (setup_of_stack old) d b new.statistics e)
            → StopsAtRefusedDirectory (w.told w0) (f.holds o0) calls old new Holds Counts → StopsCheckout w w0 w1 (f.holds o0) way is_link protects TF SF calls [] old new e
        at Holds Counts e so also s =
            inr (inl (record {
              directory = s.directory;
              behind = [];
              done = s.done;
              before = s.before;
              stopped = bare-stopped s.done _ s.stopped;
              passed = passed-none is_link protects [] s.done (unpushed-none s.done (done-unpushed s.done _ s.stopped));
              read = read-untold (w.told w0) (f.holds o0) (setup_of_stack old) s.done old.statistics s.before s.read;
              works = works-unpushed w (f.holds o0) way asks.tree s.done (setup_of_stack old) (mkdir_count_of_stack old) (mkdir_count_of_stack new) old.statistics s.before (done-unpushed s.done _ s.stopped) n s.read;
              tried = also s.directory s.before s.tried;
              refused = so s.directory s.refused;
            }))

        go : (e : AtPathError) → StopsLookupByError (w.told w0) (f.holds o0) TF SF calls old new e → StopsCheckout w w0 w1 (f.holds o0) way is_link protects TF SF calls [] old new e
        go errors.NotNormal s = absurd s
        go (errors.Component why) s = absurd s
        go (errors.Collision path) s = absurd s
        go (errors.Directory path why) s = absurd s
        go (errors.RulesFile path why) s =
            at _ _ (errors.RulesFile path why)
            (λ d r. subst (λ (t : Option Names). IsFileRefusedForDirectory t (f.holds o0) TF (setup_of_stack old) path why d) (sym asks.tree) r)
            (λ d b c. subst (λ (t : Option Names). StopsReadingAtFile t (f.holds o0) path (readings_of_directory (setup_of_stack old) d) b new.statistics) (sym asks.tree) c) s
        go (errors.Blob id why) s =
            at _ _ (errors.Blob id why)
            (λ d r. subst (λ (t : Option Names). IsBlobRefusedForDirectory t (f.holds o0) SF (setup_of_stack old) id why d) (sym asks.tree) r)
            (λ d b c. subst (λ (t : Option Names). StopsReadingAtBlob t (f.holds o0) id (readings_of_directory (setup_of_stack old) d) b new.statistics) (sym asks.tree) c) s
        go errors.OutOfMemory (inl s) =
            inr (inr (record {
              memory = refl;
              behind = [];
              done = s.done;
              stopped = bare-stopped s.done _ s.stopped;
              passed = passed-none is_link protects [] s.done (unpushed-none s.done (done-unpushed s.done _ s.stopped));
              read = read-untold (w.told w0) (f.holds o0) (setup_of_stack old) s.done old.statistics new.statistics s.read;
              works = works-unpushed w (f.holds o0) way asks.tree s.done (setup_of_stack old) (mkdir_count_of_stack old) (mkdir_count_of_stack new) old.statistics new.statistics (done-unpushed s.done _ s.stopped) n s.read;
            }))
        go errors.OutOfMemory (inr s) =
            at _ _ errors.OutOfMemory (λ d r. tt)
            (λ d b c. subst (λ (t : Option Names). StopsReadingForMemory t (f.holds o0) (readings_of_directory (setup_of_stack old) d) b new.statistics) (sym asks.tree) c) s

    pub goes-unpushed : (r : Result (Unit {0}) AtPathError) → setup_of_stack new ≡ setup_of_stack old → OnOk r (CarriesOutCalls (w.told w0) (f.holds o0) calls old new)
        → IfErr r (StopsLookupByError (w.told w0) (f.holds o0) (CountIncreasedOrSaturated (w.faults w0) (w.faults w1)) (CountIncreasedOrSaturated (f.faults o0) (f.faults o1)) calls old new)
        → mkdir_count_of_stack new ≡ mkdir_count_of_stack old → new.is_dir ≡ old.is_dir → new.is_answered ≡ old.is_answered → new.statistics.platforms ≡ old.statistics.platforms → (HasCountsOfPushedDirectories old → HasCountsOfPushedDirectories new)
        → AppendsReadNamesAsSeen (w.told w0) (f.holds o0) (λ s. attribute_names_read_by_calls (setup_of_stack old) s calls) old.attributes new.attributes r
        → ((setup_of_stack old).mappings ≡ [] → o1 ≡ o0)
        → w.reads w1 ≤ w.reads w0 + number_of_all_files_asked_by_calls (setup_of_stack old) calls
        → RunsCheckoutCalls w f w0 w1 o0 o1 way is_link protects calls [] old new r
    goes-unpushed r made carried stopped n is_dir answered platforms levels seen untouched asked =
        record {
          made = made;
          carried = each r (carries-unmade (w.told w0) (f.holds o0) calls old new) carried;
          works = each r (λ c. works-unpushed w (f.holds o0) way asks.tree calls (setup_of_stack old) (mkdir_count_of_stack old) (mkdir_count_of_stack new) old.statistics new.statistics are n c.read) carried;
          tested = fine r;
          many = ok r (unpushed-none calls are);
          halted = refused r stopped;
          is_dir = is_dir;
          answered = answered;
          platforms = platforms;
          levels = levels;
          sees = sees-unpushed (w.told w0) (f.holds o0) way (setup_of_stack old) (mkdir_count_of_stack old) calls old.attributes new.attributes r are seen;
          store_untouched = untouched;
          asked = asked;
          alters = alters-asked w w0 w1 asks;
          leaves_store = stores;
        }
      where
        each : {P Q : Type 0} (r : Result (Unit {0}) AtPathError) → (P → Q) → OnOk r P → OnOk r Q
        each (Ok v) g p = g p
        each (Err e) g p = tt

        ok : {P : Type 0} (r : Result (Unit {0}) AtPathError) → P → OnOk r P
        ok (Ok v) p = p
        ok (Err e) p = tt

        fine : (r : Result (Unit {0}) AtPathError) → OnOk r (Unit {0})
        fine (Ok v) = tt
        fine (Err e) = tt

        refused : (r : Result (Unit {0}) AtPathError) → IfErr r (StopsLookupByError (w.told w0) (f.holds o0) (CountIncreasedOrSaturated (w.faults w0) (w.faults w1)) (CountIncreasedOrSaturated (f.faults o0) (f.faults o1)) calls old new)
            → IfErr r (StopsCheckout w w0 w1 (f.holds o0) way is_link protects (CountIncreasedOrSaturated (w.faults w0) (w.faults w1)) (CountIncreasedOrSaturated (f.faults o0) (f.faults o1)) calls [] old new)
        refused (Ok v) s = tt
        refused (Err e) s = unpushed-stops _ _ n e s

  -- ---- one component

  module _ (o0 : F) (old new : StackModel) (name : List ℕ) (is_last : Bool) where
    one-made : {w1 : W} (t : Names) → EqualsDirectoryOutcome (outcome_of_pushed_component way (outcome_before_checkout t (mkdir_count_of_stack old)) (slash_joined_components (deepest_components_or_root old.at ++ name ∷ [])) is_last) (w.told w1) (mkdir_count_of_stack new) makes.Made
        → EqualsDirectoryOutcome (outcome_of_checkout_calls way (outcome_before_checkout t (mkdir_count_of_stack old)) (push (slash_joined_components (deepest_components_or_root old.at ++ name ∷ [])) is_last ∷ [])) (w.told w1) (mkdir_count_of_stack new) makes.Made
    one-made {w1} t is =
        let here : DirectoryOutcome = outcome_of_pushed_component way (outcome_before_checkout t (mkdir_count_of_stack old)) (slash_joined_components (deepest_components_or_root old.at ++ name ∷ [])) is_last in
        subst (λ (p : DirectoryOutcome). EqualsDirectoryOutcome p (w.told w1) (mkdir_count_of_stack new) makes.Made) (sym (where-same here here.answer)) is

    pub goes-pushed : {w0 w1 : W} (r : Result (Unit {0}) AtPathError) → PushesComponentInCheckout w w0 w1 way is_link protects name is_last old new r
        → RunsCheckoutCalls w f w0 w1 o0 o0 way is_link protects (push (slash_joined_components (deepest_components_or_root old.at ++ name ∷ [])) is_last ∷ []) (name ∷ []) old new r
    goes-pushed {w0} {w1} (Ok tt) p =
        let onto : (P : StackModel → Type 0) → P (with_mkdir_count (stack_after_pushing_component old name) (mkdir_count_of_stack new)) → P new = λ P x. subst P (sym p.passed) x in
        record {
          made = onto (λ (s : StackModel). setup_of_stack s ≡ setup_of_stack old) refl;
          carried = carries-stepped None None (with_zero_mkdir_count old) (with_zero_mkdir_count new) name (slash_joined_components (deepest_components_or_root old.at ++ name ∷ [])) is_last (ap with_zero_mkdir_count p.passed);
          works = record {
            tree = λ t told. one-made t (p.made t told);
            read = λ s tells kind. ap (λ (x : StackModel). rules_counts_of_kind kind x.statistics) p.passed ∙ same-counts old name kind (mkdir_count_of_stack new);
            least = p.least;
            most = omega (arith, p.most);
          };
          tested = (p.tested, tt);
          many = refl;
          halted = tt;
          is_dir = onto (λ (s : StackModel). s.is_dir ≡ old.is_dir) refl;
          answered = onto (λ (s : StackModel). s.is_answered ≡ old.is_answered) refl;
          platforms = onto (λ (s : StackModel). s.statistics.platforms ≡ old.statistics.platforms) refl;
          levels = onto (λ (s : StackModel). HasCountsOfPushedDirectories old → HasCountsOfPushedDirectories s) (λ level. level);
          sees = sees-nothing (w.told w0) (f.holds o0) (λ t. []) old.attributes new.attributes (Ok tt) (onto (λ (s : StackModel). s.attributes ≡ old.attributes) refl) (λ t. refl);
          store_untouched = λ none. refl;
          asked = omega (arith, p.changes.reads);
          alters = alters-changed w w0 w1 p.changes;
          leaves_store = record { holds = refl; faults = omega arith };
        }
    goes-pushed {w0} {w1} (Err e) p = elim p.refused [
      | inl (memory, same, left) ↦
          (let onto : (P : StackModel → Type 0) → P (record old { current = deepest_components_or_root old.at }) → P new = λ P x. subst P (sym left) x in
          let counts : new.statistics ≡ old.statistics = onto (λ (s : StackModel). s.statistics ≡ old.statistics) refl in
          let untouched : w.told w1 ≡ w.told w0 = ap w.told same in
          record {
            made = onto (λ (s : StackModel). setup_of_stack s ≡ setup_of_stack old) refl;
            carried = tt;
            works = tt;
            tested = tt;
            many = tt;
            halted = inr (inr (record {
              memory = memory;
              behind = name ∷ [];
              done = [];
              stopped = record {
                unmade = push (slash_joined_components (deepest_components_or_root old.at ++ name ∷ [])) is_last ∷ [];
                front = refl;
                left = onto (λ (s : StackModel). pushed_directory_paths s.at ≡ pushed_directory_paths old.at) refl;
                counted = ap (λ (s : Statistics). record s.delegate { num_mkdir_calls = 0 }) counts;
                current = onto (λ (s : StackModel). s.current ≡ deepest_components_or_root s.at) refl;
                is_dir = onto (λ (s : StackModel). s.is_dir ≡ old.is_dir) refl;
              };
              passed = passed-none is_link protects (name ∷ []) [] refl;
              read = read-none None None (setup_of_stack old) old.statistics new.statistics (λ kind. ap (rules_counts_of_kind kind) counts);
              works = works-unpushed w (f.holds o0) way untouched [] (setup_of_stack old) (mkdir_count_of_stack old) (mkdir_count_of_stack new) old.statistics new.statistics tt
                  (ap (λ (s : Statistics). s.delegate.num_mkdir_calls) counts) (read-none (w.told w0) (f.holds o0) (setup_of_stack old) old.statistics new.statistics (λ kind. ap (rules_counts_of_kind kind) counts));
            }));
            is_dir = onto (λ (s : StackModel). s.is_dir ≡ old.is_dir) refl;
            answered = onto (λ (s : StackModel). s.is_answered ≡ old.is_answered) refl;
            platforms = onto (λ (s : StackModel). s.statistics.platforms ≡ old.statistics.platforms) refl;
            levels = onto (λ (s : StackModel). HasCountsOfPushedDirectories old → HasCountsOfPushedDirectories s) (λ level. level);
            sees = sees-nothing (w.told w0) (f.holds o0) (λ t. []) old.attributes new.attributes (Err e) (onto (λ (s : StackModel). s.attributes ≡ old.attributes) refl) (λ t. refl);
            store_untouched = λ none. refl;
            asked = omega (arith, p.changes.reads);
            alters = alters-changed w w0 w1 p.changes;
            leaves_store = record { holds = refl; faults = omega arith };
          })
      | inr (left, why) ↦
          (let onto : (P : StackModel → Type 0) → P (record (with_mkdir_count (stack_after_pushing_component old name) (mkdir_count_of_stack new)) { current = deepest_components_or_root old.at }) → P new = λ P x. subst P (sym left) x in
          let counts : (kind : RulesKind) → rules_counts_of_kind kind new.statistics ≡ rules_counts_of_kind kind old.statistics = λ kind. ap (λ (s : StackModel). rules_counts_of_kind kind s.statistics) left ∙ same-counts old name kind (mkdir_count_of_stack new) in
          record {
            made = onto (λ (s : StackModel). setup_of_stack s ≡ setup_of_stack old) refl;
            carried = tt;
            works = tt;
            tested = tt;
            many = tt;
            halted = inl (record {
              directory = deepest_components_or_root old.at;
              name = name;
              behind = [];
              is_last = is_last;
              done = [];
              middle = w0;
              count = mkdir_count_of_stack old;
              stopped = record {
                unmade = [];
                front = refl;
                left = onto (λ (s : StackModel). pushed_directory_paths s.at ≡ pushed_directory_paths old.at) refl;
                counted = ap (λ (s : StackModel). (with_zero_mkdir_count s).statistics.delegate) left;
                current = onto (λ (s : StackModel). s.current ≡ deepest_components_or_root s.at) refl;
                is_dir = onto (λ (s : StackModel). s.is_dir ≡ old.is_dir) refl;
              };
              passed = passed-none is_link protects (name ∷ []) [] refl;
              read = read-none None None (setup_of_stack old) old.statistics new.statistics counts;
              works = works-unpushed w (f.holds o0) way refl [] (setup_of_stack old) (mkdir_count_of_stack old) (mkdir_count_of_stack old) old.statistics new.statistics tt refl
                  (read-none (w.told w0) (f.holds o0) (setup_of_stack old) old.statistics new.statistics counts);
              later = omega arith;
              composes = refl;
              refused = why;
            });
            is_dir = onto (λ (s : StackModel). s.is_dir ≡ old.is_dir) refl;
            answered = onto (λ (s : StackModel). s.is_answered ≡ old.is_answered) refl;
            platforms = onto (λ (s : StackModel). s.statistics.platforms ≡ old.statistics.platforms) refl;
            levels = onto (λ (s : StackModel). HasCountsOfPushedDirectories old → HasCountsOfPushedDirectories s) (λ level. level);
            sees = sees-nothing (w.told w0) (f.holds o0) (λ t. []) old.attributes new.attributes (Err e) (onto (λ (s : StackModel). s.attributes ≡ old.attributes) refl) (λ t. refl);
            store_untouched = λ none. refl;
            asked = omega (arith, p.changes.reads);
            alters = alters-changed w w0 w1 p.changes;
            leaves_store = record { holds = refl; faults = omega arith };
          })
    ]
