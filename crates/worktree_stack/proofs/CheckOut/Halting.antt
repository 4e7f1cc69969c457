-- Steps of a checkout that are refused, behind others that went through.
use Rattle.std.specs.Prelude.{◌≡◌, ℕ, ◌+◌, ◌≤◌, Bool, List, [], ◌∷◌, ◌++◌, length, Option, None}
use Rattle.std.proofs.Common.{inl, inr, refl, sym, ap, ◌∙◌, subst, append_assoc, arith}
use Rattle.std.proofs.lemmas.List.{append-nil, length-append}
use Rattle.gitbase_core.specs.Objects.{ObjectsById}
use Rattle.gitbase_core.specs.declared.find.Find.{Ghosts as FindOf}
use Rattle.worktree_fs.specs.PathStack.{DelegateCall, push, push_directory, pop_directory}
use Rattle.worktree_fs.specs.declared.worktree.Worktree.{Ghosts as WorktreeOf}
use Rattle.worktree_stack.specs.declared.error.AtPathError.{AtPathError}
use Rattle.worktree_stack.specs.declared.error.AtPathError.TheVariants as errors
use Rattle.worktree_stack.specs.declared.statistics.Statistics.{Statistics}
use Rattle.worktree_stack.specs.ChecksOut.{MayCheckOutComponents, StopsCheckout, HasPushedValidComponents, number_of_pushed_components}
use Rattle.worktree_stack.specs.Making.{CheckoutLookupOptions, MakesAndReadsByCalls, mkdir_count_of_stack, with_zero_mkdir_count}
use Rattle.worktree_stack.specs.Refused.{IsDirectoryReadingRefused}
use Rattle.worktree_stack.specs.Setup.{StackSetup}
use Rattle.worktree_stack.specs.Stacked.{StackModel, setup_of_stack}
use Rattle.worktree_stack.specs.Steps.{CountsReadRules, CountsRefusedDirectoryReading, CarriesOutCalls, StopsAfterCalls, refused_call_as_list}
use Rattle.worktree_stack.proofs.Lookup.Carrying.{read-then, stopped-after}
use Rattle.worktree_stack.proofs.Refusals.{file-weaker, blob-weaker}
use Rattle.worktree_stack.proofs.CheckOut.Working.{works-then, AreUnpushed, plain-read}

pub fine-both : (is_link protects : Bool) (a b : List (List ℕ)) → MayCheckOutComponents is_link protects a → MayCheckOutComponents is_link protects b → MayCheckOutComponents is_link protects (a ++ b)
fine-both is_link protects [] b x y = y
fine-both is_link protects (name ∷ a) b x y = (x.0, fine-both is_link protects a b x.1 y)

-- ---- components that were pushed

pub pushes-append : (a b : List DelegateCall) → number_of_pushed_components (a ++ b) ≡ number_of_pushed_components a + number_of_pushed_components b
pushes-append [] b = omega arith
pushes-append (push path is_last ∷ a) b = omega (arith, pushes-append a b)
pushes-append (push_directory path ∷ a) b = pushes-append a b
pushes-append (pop_directory ∷ a) b = pushes-append a b

pub unpushed-none : (calls : List DelegateCall) → AreUnpushed calls → number_of_pushed_components calls ≡ 0
unpushed-none [] are = refl
unpushed-none (push path is_last ∷ calls) are = absurd are
unpushed-none (push_directory path ∷ calls) are = unpushed-none calls are
unpushed-none (pop_directory ∷ calls) are = unpushed-none calls are

module _ (is_link protects : Bool) where
  -- none was pushed
  pub passed-none : (names : List (List ℕ)) (done : List DelegateCall) → number_of_pushed_components done ≡ 0 → HasPushedValidComponents is_link protects names done names
  passed-none names done none = record { passed = []; split = refl; tested = tt; many = none }

  -- more are left
  pub passed-more : (names more : List (List ℕ)) (done : List DelegateCall) (left : List (List ℕ)) → HasPushedValidComponents is_link protects names done left → HasPushedValidComponents is_link protects (names ++ more) done (left ++ more)
  passed-more names more done left p =
      record { passed = p.passed; split = ap (λ (l : List (List ℕ)). l ++ more) p.split ∙ append_assoc p.passed left more; tested = p.tested; many = p.many }

  -- others were pushed before them
  pub passed-then : (first names : List (List ℕ)) (a done : List DelegateCall) (left : List (List ℕ)) → MayCheckOutComponents is_link protects first → number_of_pushed_components a ≡ length first
      → HasPushedValidComponents is_link protects names done left → HasPushedValidComponents is_link protects (first ++ names) (a ++ done) left
  passed-then first names a done left fine many p =
      record {
        passed = first ++ p.passed;
        split = ap (λ (l : List (List ℕ)). first ++ l) p.split ∙ sym (append_assoc first p.passed left);
        tested = fine-both is_link protects first p.passed fine p.tested;
        many = omega (arith, many, p.many, pushes-append a done, length-append first p.passed);
      }

pub stopped-more : (calls more : List DelegateCall) (old new : StackModel) (done : List DelegateCall) (begun : Option DelegateCall) → StopsAfterCalls calls old new done begun → StopsAfterCalls (calls ++ more) old new done begun
stopped-more calls more old new done begun s =
    let own : List DelegateCall = refused_call_as_list begun in
    record {
      unmade = s.unmade ++ more;
      front = ap (λ (l : List DelegateCall). l ++ more) s.front ∙ append_assoc (done ++ own) s.unmade more;
      left = s.left;
      counted = s.counted;
      current = s.current;
      is_dir = s.is_dir;
    }

module _ {W F : Type 0} (w : WorktreeOf W) (f : FindOf F) (way : CheckoutLookupOptions) (is_link protects : Bool) where
  pub halts-more : {w0 w1 : W} (holds : Option ObjectsById) (TF SF : Type 0) (calls more : List DelegateCall) (names names' : List (List ℕ)) (old new : StackModel) (e : AtPathError)
      → StopsCheckout w w0 w1 holds way is_link protects TF SF calls names old new e → StopsCheckout w w0 w1 holds way is_link protects TF SF (calls ++ more) (names ++ names') old new e
  halts-more holds TF SF calls more names names' old new e (inl h) =
      inl (record {
        directory = h.directory;
        name = h.name;
        behind = h.behind ++ names';
        is_last = h.is_last;
        done = h.done;
        middle = h.middle;
        count = h.count;
        stopped = stopped-more calls more (with_zero_mkdir_count old) (with_zero_mkdir_count new) h.done _ h.stopped;
        passed = passed-more is_link protects names names' h.done (h.name ∷ h.behind) h.passed;
        read = h.read;
        works = h.works;
        later = h.later;
        composes = h.composes;
        refused = h.refused;
      })
  halts-more holds TF SF calls more names names' old new e (inr (inl h)) =
      inr (inl (record {
        directory = h.directory;
        behind = h.behind ++ names';
        done = h.done;
        before = h.before;
        stopped = stopped-more calls more (with_zero_mkdir_count old) (with_zero_mkdir_count new) h.done _ h.stopped;
        passed = passed-more is_link protects names names' h.done h.behind h.passed;
        read = h.read;
        works = h.works;
        tried = h.tried;
        refused = h.refused;
      }))
  halts-more holds TF SF calls more names names' old new e (inr (inr h)) =
      inr (inr (record {
        memory = h.memory;
        behind = h.behind ++ names';
        done = h.done;
        stopped = stopped-more calls more (with_zero_mkdir_count old) (with_zero_mkdir_count new) h.done _ h.stopped;
        passed = passed-more is_link protects names names' h.done h.behind h.passed;
        read = h.read;
        works = h.works;
      }))

  module _ {wa wb : W} (holds : Option ObjectsById) (a b : List DelegateCall) (s0 s1 s2 : StackModel)
      (carried : CarriesOutCalls None None a (with_zero_mkdir_count s0) (with_zero_mkdir_count s1)) (works : MakesAndReadsByCalls w wa wb holds way a (setup_of_stack s0) (mkdir_count_of_stack s0) (mkdir_count_of_stack s1) s0.statistics s1.statistics)
      (same : s1.is_dir ≡ s0.is_dir) where
    stopped-then : (done : List DelegateCall) (begun : Option DelegateCall) → StopsAfterCalls b (with_zero_mkdir_count s1) (with_zero_mkdir_count s2) done begun
        → StopsAfterCalls (a ++ b) (with_zero_mkdir_count s0) (with_zero_mkdir_count s2) (a ++ done) begun
    stopped-then done begun s =
        stopped-after None None (a ++ b) a b [] (with_zero_mkdir_count s0) (with_zero_mkdir_count s1) (with_zero_mkdir_count s2) (ap (λ (l : List DelegateCall). a ++ l) (sym (append-nil b))) carried same done begun s

    made-same : setup_of_stack s1 ≡ setup_of_stack s0
    made-same = carried.setup

    read-behind : (done : List DelegateCall) (s : Statistics) → CountsReadRules None None (setup_of_stack s1) done s1.statistics s → CountsReadRules None None (setup_of_stack s0) (a ++ done) s0.statistics s
    read-behind done s read =
        read-then None None (setup_of_stack s0) a done s0.statistics s1.statistics s (plain-read None None (setup_of_stack s0) a s0 s1 carried.read)
        (subst (λ (m : StackSetup). CountsReadRules None None m done s1.statistics s) made-same read)

    pub works-behind : {wd : W} (done : List DelegateCall) (n : ℕ) (s : Statistics) → MakesAndReadsByCalls w wb wd holds way done (setup_of_stack s1) (mkdir_count_of_stack s1) n s1.statistics s
        → MakesAndReadsByCalls w wa wd holds way (a ++ done) (setup_of_stack s0) (mkdir_count_of_stack s0) n s0.statistics s
    works-behind {wd} done n s next =
        works-then w holds way (setup_of_stack s0) a done (mkdir_count_of_stack s0) (mkdir_count_of_stack s1) n s0.statistics s1.statistics s works
        (subst (λ (m : StackSetup). MakesAndReadsByCalls w wb wd holds way done m (mkdir_count_of_stack s1) n s1.statistics s) made-same next)

    pub halts-then : {wc : W} (TF TF' SF SF' : Type 0) → (TF → TF') → (SF → SF') → w.faults wa ≤ w.faults wb → w.precomposes wb ≡ w.precomposes wa → (na nb : List (List ℕ)) → MayCheckOutComponents is_link protects na → number_of_pushed_components a ≡ length na
        → (e : AtPathError) → StopsCheckout w wb wc holds way is_link protects TF SF b nb s1 s2 e → StopsCheckout w wa wc holds way is_link protects TF' SF' (a ++ b) (na ++ nb) s0 s2 e
    halts-then {wc} TF TF' SF SF' tree store low composes na nb fine many e (inl h) =
        inl (record {
          directory = h.directory;
          name = h.name;
          behind = h.behind;
          is_last = h.is_last;
          done = a ++ h.done;
          middle = h.middle;
          count = h.count;
          stopped = stopped-then h.done _ h.stopped;
          passed = passed-then is_link protects na nb a h.done (h.name ∷ h.behind) fine many h.passed;
          read = read-behind h.done s2.statistics h.read;
          works = works-behind h.done h.count s2.statistics h.works;
          later = omega (arith, low, h.later);
          composes = h.composes ∙ composes;
          refused = h.refused;
        })
    halts-then {wc} TF TF' SF SF' tree store low composes na nb fine many e (inr (inl h)) =
        inr (inl (record {
          directory = h.directory;
          behind = h.behind;
          done = a ++ h.done;
          before = h.before;
          stopped = stopped-then h.done _ h.stopped;
          passed = passed-then is_link protects na nb a h.done h.behind fine many h.passed;
          read = read-behind h.done h.before h.read;
          works = works-behind h.done (mkdir_count_of_stack s2) h.before h.works;
          tried = subst (λ (m : StackSetup). CountsRefusedDirectoryReading (w.told wc) holds m h.directory h.before s2.statistics e) made-same h.tried;
          refused = weaker h.directory e (subst (λ (m : StackSetup). IsDirectoryReadingRefused (w.told wc) holds TF SF m h.directory e) made-same h.refused);
        }))
      where
        weaker : (d : List ℕ) (e : AtPathError) → IsDirectoryReadingRefused (w.told wc) holds TF SF (setup_of_stack s0) d e → IsDirectoryReadingRefused (w.told wc) holds TF' SF' (setup_of_stack s0) d e
        weaker d errors.NotNormal r = r
        weaker d (errors.Component why) r = r
        weaker d (errors.Collision path) r = r
        weaker d (errors.Directory path why) r = r
        weaker d (errors.RulesFile path why) r = file-weaker (w.told wc) holds TF TF' tree _ _ path why r
        weaker d (errors.Blob id why) r = blob-weaker (w.told wc) holds SF SF' store _ _ id why r
        weaker d errors.OutOfMemory r = r
    halts-then {wc} TF TF' SF SF' tree store low composes na nb fine many e (inr (inr h)) =
        inr (inr (record {
          memory = h.memory;
          behind = h.behind;
          done = a ++ h.done;
          stopped = stopped-then h.done _ h.stopped;
          passed = passed-then is_link protects na nb a h.done h.behind fine many h.passed;
          read = read-behind h.done s2.statistics h.read;
          works = works-behind h.done (mkdir_count_of_stack s2) s2.statistics h.works;
        }))
