-- A job over a fork is one over what was forked, once the fork is absorbed.
use Rattle.std.proofs.Common.{◌≡◌, ◌≤◌, ℕ, inl, List, Option, Result, Ok, Err, IfErr, refl, ◌∙◌, arith}
use Rattle.std.proofs.lemmas.Result.{IfErr-weaker}
use Rattle.gitbase_core.specs.declared.find.Find.{Ghosts as FindOf}
use Rattle.worktree_fs.specs.declared.interrupt.Interrupt.{Ghosts as InterruptOf}
use Rattle.worktree_fs.specs.declared.worktree.Worktree.{Ghosts as WorktreeOf}
use Rattle.worktree_fs.specs.Causes.{CountIncreasedOrSaturated, CountNotIncreased, saturating_sum}
use Rattle.worktree_stack.specs.Reading.{TreeAndObjects}
use Rattle.worktree_stack.specs.Setup.{StackSetup}
use Rattle.worktree_stack.specs.Stacked.{StackModel}
use Rattle.dir_classify.specs.declared.classify.Outcome.{Outcome as Class}
use Rattle.dir_classify.specs.declared.error.Error.{Error}
use Rattle.dir_classify.specs.declared.error.Error.TheVariants as errors
use Rattle.dir_classify.specs.declared.error.ReadWhy.TheVariants as whys
use Rattle.dir_classify.specs.Chosen.{WalkOptions}
use Rattle.dir_classify.specs.Excludes.{setup_of_optional_stack, IsStackInStepIfGiven}
use Rattle.dir_classify.specs.Layers.{WalkSetting}
use Rattle.dir_classify.specs.Refused.{HoldsIfFaultError}
use Rattle.dir_classify.proofs.Refusals.{OnFault-weaker}
use Rattle.dir_walk.specs.declared.delegate.Delegate.{Ghosts as DelegateOf}
use Rattle.dir_walk.specs.declared.handed.Handed.{Handed}
use Rattle.dir_walk.specs.declared.handed.Stop.{Stop}
use Rattle.dir_walk.specs.declared.handed.Stop.TheVariants.{Broken, Refused}
use Rattle.dir_walk.specs.declared.outcome.Outcome.{Outcome}
use Rattle.dir_walk.specs.Given.{HoldsOfErrorIfRefused, HoldsUnlessRefused}
use Rattle.dir_walk.specs.Jobs.{WalksDirectoryAsJob}
use Rattle.dir_walk.specs.Kept.{HoldsIfInterrupted, HoldsIfListingFault}
use Rattle.dir_walk.specs.Moments.{WalkState}
use Rattle.dir_walk.specs.Refused.{IsErrorOfEnteredDirectory}
use Rattle.dir_walk.specs.Told.{IsWalkOverSources}
use Rattle.dir_walk.specs.WalkSteps.{OpensAtMostEntered, StepWalksOverAnyWorktree, StepWalksOverSources, at_directory, CountsOpenedDirectories}
use Rattle.dir_walk.proofs.Gives.Emitting.{Within-none}
use Rattle.dir_walk.proofs.Gives.HandedOn.{DirectoryRefuses-weaker}
use Rattle.dir_walk.proofs.Opens.Keeping.{AsksStore-same, KeepsDelegate-same}
use Rattle.dir_walk.proofs.Refused.Refusals.{refused-any}
use Rattle.dir_walk.proofs.Places.Rooms.{Hands-none}

-- ---- counts of forks

-- a fork counts from nothing on, and what it counted is added
rose-more : (a x b y : ℕ) → x ≡ 0 → b ≡ saturating_sum a y → CountIncreasedOrSaturated x y → CountIncreasedOrSaturated a b
rose-more a x b y none more rose = omega (arith, none, more, rose)

quiet-fork : (a x b y : ℕ) → x ≡ 0 → b ≡ saturating_sum a y → CountNotIncreased a b → CountNotIncreased x y
quiet-fork a x b y none more quiet = omega (arith, none, more, quiet)

-- nothing is added
stays-more : (a x b y : ℕ) → x ≡ 0 → b ≡ saturating_sum a y → a ≤ b → y ≡ x → b ≡ a
stays-more a x b y none more later same = omega (arith, none, more, later, same)

unless-weaker : {T : Type 0} {P Q : Type 0} (result : Result T Stop) → (P → Q) → HoldsUnlessRefused result P → HoldsUnlessRefused result Q
unless-weaker (Ok done) f p = f p
unless-weaker (Err Broken) f p = f p
unless-weaker (Err (Refused e)) f p = tt

interrupt-weaker : (P Q : Type 0) (e : Error) → (P → Q) → HoldsIfInterrupted P e → HoldsIfInterrupted Q e
interrupt-weaker P Q errors.Interrupted f h = f h
interrupt-weaker P Q (errors.WorktreeRootIsFile root) f h = tt
interrupt-weaker P Q (errors.NormalizeRoot root) f h = tt
interrupt-weaker P Q (errors.SymlinkInRoot whole worktree_root index) f h = tt
interrupt-weaker P Q (errors.SymlinkMetadata full why) f h = tt
interrupt-weaker P Q (errors.ExcludesAccess x) f h = tt
interrupt-weaker P Q (errors.TooDeep at) f h = tt
interrupt-weaker P Q (errors.ReadDir at why) f h = tt
interrupt-weaker P Q (errors.DirEntry at) f h = tt
interrupt-weaker P Q errors.OutOfMemory f h = tt

caused-weaker : {T : Type 0} (P Q P' Q' : Type 0) (result : Result T Stop) → (P → P') → (Q → Q') → IfErr result (HoldsOfErrorIfRefused (HoldsIfFaultError P Q)) → IfErr result (HoldsOfErrorIfRefused (HoldsIfFaultError P' Q'))
caused-weaker P Q P' Q' (Ok done) f g h = tt
caused-weaker P Q P' Q' (Err Broken) f g h = tt
caused-weaker P Q P' Q' (Err (Refused e)) f g h = OnFault-weaker P Q P' Q' e f g h

raised-weaker : {T : Type 0} (P Q : Type 0) (result : Result T Stop) → (P → Q) → IfErr result (HoldsOfErrorIfRefused (HoldsIfInterrupted P)) → IfErr result (HoldsOfErrorIfRefused (HoldsIfInterrupted Q))
raised-weaker P Q (Ok done) f h = tt
raised-weaker P Q (Err Broken) f h = tt
raised-weaker P Q (Err (Refused e)) f h = interrupt-weaker P Q e f h

listing-more : (P Q : Type 0) (e : Error) → (P → Q) → HoldsIfListingFault P e → HoldsIfListingFault Q e
listing-more P Q errors.Interrupted f h = tt
listing-more P Q (errors.WorktreeRootIsFile at) f h = tt
listing-more P Q (errors.NormalizeRoot root) f h = tt
listing-more P Q (errors.SymlinkInRoot whole worktree_root index) f h = tt
listing-more P Q (errors.SymlinkMetadata full why) f h = tt
listing-more P Q (errors.ExcludesAccess x) f h = tt
listing-more P Q (errors.TooDeep at) f h = tt
listing-more P Q (errors.ReadDir at whys.Absent) f h = tt
listing-more P Q (errors.ReadDir at whys.NotADirectory) f h = tt
listing-more P Q (errors.ReadDir at whys.Fault) f h = f h
listing-more P Q (errors.DirEntry at) f h = f h
listing-more P Q errors.OutOfMemory f h = tt

listing-weaker : {T : Type 0} (P Q : Type 0) (result : Result T Stop) → (P → Q) → IfErr result (HoldsOfErrorIfRefused (HoldsIfListingFault P)) → IfErr result (HoldsOfErrorIfRefused (HoldsIfListingFault Q))
listing-weaker P Q (Ok done) f h = tt
listing-weaker P Q (Err Broken) f h = tt
listing-weaker P Q (Err (Refused e)) f h = listing-more P Q e f h

-- a directory that is walked is a job, of which the walk alone counts what is opened
pub job-directory : {W F I D : Type 0} {w : WorktreeOf W} {f : FindOf F} {i : InterruptOf I} {d : DelegateOf D} {before now : WalkState W F I D} {given : WalkSetting} {blocked : Option (List ℕ)} {levels : ℕ} {path : List ℕ} {class : Class} {result : Result Handed Stop} {o : WalkOptions} {names : List (List ℕ)} {own : ℕ}
    → StepWalksOverSources w f d before now given blocked levels (at_directory path class) result → StepWalksOverAnyWorktree w f i d before now given levels (at_directory path class) result
    → CountsOpenedDirectories w i o names own before now result (OpensAtMostEntered w f d before now given blocked levels (at_directory path class) result)
    → WalksDirectoryAsJob w f i d before now given blocked levels path class result
job-directory told walks opens = record { told = told; walks = walks; opens = record { opened = opens.opened; counted = opens.opens.counted; asked = opens.opens.asked; within = opens.within } }

module _ {W F I D : Type 0} (w : WorktreeOf W) (f : FindOf F) (i : InterruptOf I) (d : DelegateOf D) where
  -- ---- no memory for a fork

  pub job-memory : {w0 : W} {o0 : F} {i0 : I} {rules : Option StackModel} {d0 : D} {start : Outcome} {given : WalkSetting} {blocked : Option (List ℕ)} {levels : ℕ} {path : List ℕ} {class : Class}
      → WalksDirectoryAsJob w f i d (record { worktree = w0; objects = o0; interrupt = i0; delegate = d0; rules = rules; outcome = start }) (record { worktree = w0; objects = o0; interrupt = i0; delegate = d0; rules = rules; outcome = start }) given blocked levels path class (Err (Refused errors.OutOfMemory))
  job-memory {d0 = d0} =
      record {
        told = record {
          gives = λ made s stands quiet default limit level. tt;
          part = λ made s stands quiet default. Within-none (d.given d0) (d.given d0) _ _ _ _ refl refl;
          refused = λ made s stands default limit level. inl tt;
        };
        walks = record {
          about = λ limit level. tt;
          found = λ s told. tt;
          caused = record { fault = tt; interrupt = tt; listing = tt; listed = tt; calm = tt };
          worktree = record { tree = refl; faults = omega arith; list_faults = omega arith; reads = omega arith; lists = omega arith; precomposes = refl };
          store = AsksStore-same;
          interrupt = record { questions = omega arith; raised = omega arith };
          hands = Hands-none refl refl refl;
          delegate = KeepsDelegate-same;
          filtered = refl;
          heeds = record { broken = tt; stopped = tt; unbroken = refl; kept_on = tt };
        };
        opens = record { opened = 0; counted = λ small. omega (arith, small); asked = omega arith; within = λ made s stands quiet default. omega arith };
      }

  -- ---- over a fork of the worktree

  module _ {x0 x1 w1 : W} (w0 : W) {o0 o1 : F} {i0 i1 : I} {rules rules_now : Option StackModel} {d0 d1 : D} {start stop : Outcome} (given : WalkSetting) {blocked : Option (List ℕ)} {levels : ℕ} (path : List ℕ) (class : Class) (result : Result Handed Stop)
      (tree0 : w.told x0 ≡ w.told w0) (faults0 : w.faults x0 ≡ 0) (list_faults0 : w.list_faults x0 ≡ 0)
      (tree1 : w.told w1 ≡ w.told w0) (faults1 : w.faults w1 ≡ saturating_sum (w.faults w0) (w.faults x1)) (later : w.faults w0 ≤ w.faults w1)
      (list_faults1 : w.list_faults w1 ≡ saturating_sum (w.list_faults w0) (w.list_faults x1)) (list_later : w.list_faults w0 ≤ w.list_faults w1) (read_later : w.reads w0 ≤ w.reads w1) (lists1 : w.lists w1 ≡ w.lists w0) (precomposes1 : w.precomposes w1 ≡ w.precomposes w0) where
    pub job-worktree : WalksDirectoryAsJob w f i d (record { worktree = x0; objects = o0; interrupt = i0; delegate = d0; rules = rules; outcome = start }) (record { worktree = x1; objects = o1; interrupt = i1; delegate = d1; rules = rules_now; outcome = stop }) given blocked levels path class result → WalksDirectoryAsJob w f i d (record { worktree = w0; objects = o0; interrupt = i0; delegate = d0; rules = rules; outcome = start }) (record { worktree = w1; objects = o1; interrupt = i1; delegate = d1; rules = rules_now; outcome = stop }) given blocked levels path class result
    job-worktree job =
        let on_fork : (made : Option StackSetup) (s : TreeAndObjects) → IsWalkOverSources given (w.told w0) (f.holds o0) rules blocked made s → IsWalkOverSources given (w.told x0) (f.holds o0) rules blocked made s =
        λ made s stands. record { tree = tree0 ∙ stands.tree; objects = stands.objects; made_is = stands.made_is; in_step = stands.in_step; blocked_is = stands.blocked_is } in
        let no_fault : CountNotIncreased (w.faults w0) (w.faults w1) → CountNotIncreased (w.faults x0) (w.faults x1) = quiet-fork (w.faults w0) (w.faults x0) (w.faults w1) (w.faults x1) faults0 faults1 in
        let rose : CountIncreasedOrSaturated (w.faults x0) (w.faults x1) → CountIncreasedOrSaturated (w.faults w0) (w.faults w1) = rose-more (w.faults w0) (w.faults x0) (w.faults w1) (w.faults x1) faults0 faults1 in
        record {
          told = record {
            gives = λ made s stands quiet default limit level. job.told.gives made s (on_fork made s stands) (no_fault quiet) default limit level;
            part = λ made s stands quiet default. job.told.part made s (on_fork made s stands) (no_fault quiet) default;
            refused = λ made s stands default limit level.
                let P : Type 0 = CountIncreasedOrSaturated (w.faults x0) (w.faults x1) in
                let Q : Type 0 = CountIncreasedOrSaturated (w.faults w0) (w.faults w1) in
                IfErr-weaker result (HoldsOfErrorIfRefused (IsErrorOfEnteredDirectory given made s limit P path class)) (HoldsOfErrorIfRefused (IsErrorOfEnteredDirectory given made s limit Q path class))
                (refused-any (IsErrorOfEnteredDirectory given made s limit P path class) (IsErrorOfEnteredDirectory given made s limit Q path class) (λ e. DirectoryRefuses-weaker given made s limit P Q path class e rose))
                (job.told.refused made s (on_fork made s stands) default limit level);
          };
          walks = record {
            about = job.walks.about;
            found = λ s told. job.walks.found s (tree0 ∙ told);
            caused = record {
              fault = caused-weaker (CountIncreasedOrSaturated (w.faults x0) (w.faults x1)) (CountIncreasedOrSaturated (f.faults o0) (f.faults o1)) (CountIncreasedOrSaturated (w.faults w0) (w.faults w1)) (CountIncreasedOrSaturated (f.faults o0) (f.faults o1)) result rose (λ h. h) job.walks.caused.fault;
              interrupt = job.walks.caused.interrupt;
              listing = listing-weaker (CountIncreasedOrSaturated (w.list_faults x0) (w.list_faults x1)) (CountIncreasedOrSaturated (w.list_faults w0) (w.list_faults w1)) result
                  (rose-more (w.list_faults w0) (w.list_faults x0) (w.list_faults w1) (w.list_faults x1) list_faults0 list_faults1) job.walks.caused.listing;
              listed = unless-weaker result (stays-more (w.list_faults w0) (w.list_faults x0) (w.list_faults w1) (w.list_faults x1) list_faults0 list_faults1 list_later) job.walks.caused.listed;
              calm = job.walks.caused.calm;
            };
            worktree = record { tree = tree1; faults = later; list_faults = list_later; reads = read_later; lists = omega (arith, lists1); precomposes = precomposes1 };
            store = job.walks.store;
            interrupt = job.walks.interrupt;
            hands = job.walks.hands;
            delegate = job.walks.delegate;
            filtered = job.walks.filtered;
            heeds = job.walks.heeds;
          };
          opens = record { opened = job.opens.opened; counted = job.opens.counted; asked = job.opens.asked; within = λ made s stands quiet default. job.opens.within made s (on_fork made s stands) (no_fault quiet) default };
        }

  -- ---- over a fork of the store

  module _ {w0 w1 : W} {x0 x1 o1 : F} (o0 : F) {i0 i1 : I} {rules rules_now : Option StackModel} {d0 d1 : D} {start stop : Outcome} (given : WalkSetting) {blocked : Option (List ℕ)} {levels : ℕ} (path : List ℕ) (class : Class) (result : Result Handed Stop)
      (holds0 : f.holds x0 ≡ f.holds o0) (faults0 : f.faults x0 ≡ 0)
      (holds1 : f.holds o1 ≡ f.holds o0) (faults1 : f.faults o1 ≡ saturating_sum (f.faults o0) (f.faults x1)) (later : f.faults o0 ≤ f.faults o1) where
    pub job-store : WalksDirectoryAsJob w f i d (record { worktree = w0; objects = x0; interrupt = i0; delegate = d0; rules = rules; outcome = start }) (record { worktree = w1; objects = x1; interrupt = i1; delegate = d1; rules = rules_now; outcome = stop }) given blocked levels path class result → WalksDirectoryAsJob w f i d (record { worktree = w0; objects = o0; interrupt = i0; delegate = d0; rules = rules; outcome = start }) (record { worktree = w1; objects = o1; interrupt = i1; delegate = d1; rules = rules_now; outcome = stop }) given blocked levels path class result
    job-store job =
        let in_fork : (made : Option StackSetup) (s : TreeAndObjects) → IsWalkOverSources given (w.told w0) (f.holds o0) rules blocked made s → IsWalkOverSources given (w.told w0) (f.holds x0) rules blocked made s =
        λ made s stands. record { tree = stands.tree; objects = λ some. holds0 ∙ stands.objects some; made_is = stands.made_is; in_step = stands.in_step; blocked_is = stands.blocked_is } in
        record {
          told = record {
            gives = λ made s stands quiet default limit level. job.told.gives made s (in_fork made s stands) quiet default limit level;
            part = λ made s stands quiet default. job.told.part made s (in_fork made s stands) quiet default;
            refused = λ made s stands default limit level. job.told.refused made s (in_fork made s stands) default limit level;
          };
          walks = record {
            about = job.walks.about;
            found = λ s told. rw holds0 at (job.walks.found s told);
            caused = record {
              fault = caused-weaker (CountIncreasedOrSaturated (w.faults w0) (w.faults w1)) (CountIncreasedOrSaturated (f.faults x0) (f.faults x1)) (CountIncreasedOrSaturated (w.faults w0) (w.faults w1)) (CountIncreasedOrSaturated (f.faults o0) (f.faults o1)) result (λ h. h)
                  (rose-more (f.faults o0) (f.faults x0) (f.faults o1) (f.faults x1) faults0 faults1) job.walks.caused.fault;
              interrupt = job.walks.caused.interrupt;
              listing = job.walks.caused.listing;
              listed = job.walks.caused.listed;
              calm = job.walks.caused.calm;
            };
            worktree = job.walks.worktree;
            store = record { holds = holds1; faults = later };
            interrupt = job.walks.interrupt;
            hands = job.walks.hands;
            delegate = job.walks.delegate;
            filtered = job.walks.filtered;
            heeds = job.walks.heeds;
          };
          opens = record { opened = job.opens.opened; counted = job.opens.counted; asked = job.opens.asked; within = λ made s stands quiet default. job.opens.within made s (in_fork made s stands) quiet default };
        }

  -- ---- over a fork of the interrupt

  module _ {w0 w1 : W} {o0 o1 : F} {x0 x1 i1 : I} (i0 : I) {rules rules_now : Option StackModel} {d0 d1 : D} {start stop : Outcome} (given : WalkSetting) {blocked : Option (List ℕ)} {levels : ℕ} (path : List ℕ) (class : Class) (result : Result Handed Stop)
      (questions0 : i.questions x0 ≡ 0) (raised0 : i.raised x0 ≡ 0)
      (questions1 : i.questions i1 ≡ saturating_sum (i.questions i0) (i.questions x1)) (raised1 : i.raised i1 ≡ saturating_sum (i.raised i0) (i.raised x1)) (later : i.raised i0 ≤ i.raised i1) where
    pub job-interrupt : WalksDirectoryAsJob w f i d (record { worktree = w0; objects = o0; interrupt = x0; delegate = d0; rules = rules; outcome = start }) (record { worktree = w1; objects = o1; interrupt = x1; delegate = d1; rules = rules_now; outcome = stop }) given blocked levels path class result → WalksDirectoryAsJob w f i d (record { worktree = w0; objects = o0; interrupt = i0; delegate = d0; rules = rules; outcome = start }) (record { worktree = w1; objects = o1; interrupt = i1; delegate = d1; rules = rules_now; outcome = stop }) given blocked levels path class result
    job-interrupt job =
        record {
          told = record {
            gives = job.told.gives;
            part = job.told.part;
            refused = job.told.refused;
          };
          walks = record {
            about = job.walks.about;
            found = job.walks.found;
            caused = record {
              fault = job.walks.caused.fault;
              interrupt = raised-weaker (CountIncreasedOrSaturated (i.raised x0) (i.raised x1)) (CountIncreasedOrSaturated (i.raised i0) (i.raised i1)) result (rose-more (i.raised i0) (i.raised x0) (i.raised i1) (i.raised x1) raised0 raised1) job.walks.caused.interrupt;
              listing = job.walks.caused.listing;
              listed = job.walks.caused.listed;
              calm = unless-weaker result (stays-more (i.raised i0) (i.raised x0) (i.raised i1) (i.raised x1) raised0 raised1 later) job.walks.caused.calm;
            };
            worktree = job.walks.worktree;
            store = job.walks.store;
            interrupt = record { questions = omega (arith, job.walks.interrupt.questions, questions0, questions1, raised0, raised1); raised = later };
            hands = job.walks.hands;
            delegate = job.walks.delegate;
            filtered = job.walks.filtered;
            heeds = job.walks.heeds;
          };
          opens = record { opened = job.opens.opened; counted = job.opens.counted; asked = omega (arith, job.opens.asked, questions0, questions1, raised0, raised1); within = job.opens.within };
        }

  -- ---- with rules that are made alike

  pub job-rules : {w0 w1 : W} {o0 o1 : F} {i0 i1 : I} {rules rules_now fresh fresh_now : Option StackModel} {d0 d1 : D} {start stop : Outcome} {given : WalkSetting} {blocked : Option (List ℕ)} {levels : ℕ} {path : List ℕ} {class : Class} {result : Result Handed Stop}
      → setup_of_optional_stack fresh ≡ setup_of_optional_stack rules → ((s : TreeAndObjects) → IsStackInStepIfGiven s fresh)
      → WalksDirectoryAsJob w f i d (record { worktree = w0; objects = o0; interrupt = i0; delegate = d0; rules = fresh; outcome = start }) (record { worktree = w1; objects = o1; interrupt = i1; delegate = d1; rules = fresh_now; outcome = stop }) given blocked levels path class result → WalksDirectoryAsJob w f i d (record { worktree = w0; objects = o0; interrupt = i0; delegate = d0; rules = rules; outcome = start }) (record { worktree = w1; objects = o1; interrupt = i1; delegate = d1; rules = rules_now; outcome = stop }) given blocked levels path class result
  job-rules {w0} {o0 = o0} {rules = rules} {fresh = fresh} {given = given} {blocked = blocked} alike step job =
      let with_fresh : (made : Option StackSetup) (s : TreeAndObjects) → IsWalkOverSources given (w.told w0) (f.holds o0) rules blocked made s → IsWalkOverSources given (w.told w0) (f.holds o0) fresh blocked made s =
      λ made s stands. record { tree = stands.tree; objects = stands.objects; made_is = alike ∙ stands.made_is; in_step = step s; blocked_is = stands.blocked_is } in
      record {
        told = record {
          gives = λ made s stands quiet default limit level. job.told.gives made s (with_fresh made s stands) quiet default limit level;
          part = λ made s stands quiet default. job.told.part made s (with_fresh made s stands) quiet default;
          refused = λ made s stands default limit level. job.told.refused made s (with_fresh made s stands) default limit level;
        };
        walks = record {
          about = λ limit level. rw alike at (job.walks.about limit level);
          found = λ s told. rw alike at (job.walks.found s told);
          caused = job.walks.caused;
          worktree = job.walks.worktree;
          store = job.walks.store;
          interrupt = job.walks.interrupt;
          hands = job.walks.hands;
          delegate = job.walks.delegate;
          filtered = job.walks.filtered;
          heeds = job.walks.heeds;
        };
        opens = record { opened = job.opens.opened; counted = job.opens.counted; asked = job.opens.asked; within = λ made s stands quiet default. job.opens.within made s (with_fresh made s stands) quiet default };
      }
