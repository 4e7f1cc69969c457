-- What a walk answers, with what a setup asks for.
use Rattle.std.proofs.Common.{◌≡◌, ◌≤◌, ℕ, List, [], Bool, true, Option, Result, IfOk, IfErr, refl, sym, ap, ◌∙◌, subst, Err, inl, inr, arith}
use Rattle.std.proofs.lemmas.Result.{IfOk-weaker}
use Rattle.gitbase_core.specs.declared.find.Find.{Ghosts as FindOf}
use Rattle.worktree_fs.specs.declared.interrupt.Interrupt.{Ghosts as InterruptOf}
use Rattle.worktree_fs.specs.declared.worktree.Worktree.{Ghosts as WorktreeOf}
use Rattle.worktree_fs.specs.Causes.{CountIncreasedOrSaturated, CountNotIncreased}
use Rattle.worktree_stack.specs.Reading.{TreeAndObjects}
use Rattle.worktree_stack.specs.Setup.{StackSetup}
use Rattle.worktree_stack.specs.Stacked.{StackModel}
use Rattle.dir_classify.specs.declared.error.Error.{Error}
use Rattle.dir_classify.specs.declared.error.Error.TheVariants.{OutOfMemory}
use Rattle.dir_classify.specs.Chosen.{WalkOptions}
use Rattle.dir_classify.specs.Excludes.{setup_of_optional_stack, has_attributes_if_given, IsStackInStepIfGiven, TellsTreeAndObjects}
use Rattle.dir_classify.specs.Layers.{WalkSetting}
use Rattle.dir_walk.specs.declared.outcome.Outcome.{Outcome}
use Rattle.dir_walk.specs.declared.report.Report.{Report}
use Rattle.dir_walk.specs.declared.strategy.Strategy.{Strategy}
use Rattle.dir_walk.specs.declared.strategy.Strategy.TheVariants.{AtOnce, Held}
use Rattle.dir_walk.specs.Opens.{CountsListingsByStrategy}
use Rattle.dir_walk.specs.Reports.{IsReportOverAnyWorktree, IsSafeReport}
use Rattle.dir_walk.specs.Root.{rooted, find_traversal_root, walk_over_sources}
use Rattle.dir_walk.specs.Unopened.{count_unlisted_in_answer}
use Rattle.dir_walk.specs.WalkRefused.{default_without_refusals, IsUnenteredNonDirectoryRoot, HoldsIfRootIsFileError, DelegateDefaultAndRefusalCounts, IsWholeWalkErrorByInput, IsWholeWalkErrorByTree, IsWholeWalkErrorBySources}
use Rattle.dir_walk.specs.Walkable.{HasReportOrIsWalkable}
use Rattle.dir_walk.specs.Walks.{most_opened_in_walk, Tells, WalksWorktreeWithCauses}
use Rattle.worktree_report.specs.declared.setup.Setup.{Setup}
use Rattle.worktree_report.specs.Asked.{walk_setting_of_setup, walk_options_of_setup, current_dir_or_root, git_dir_or_default, sources_of_tree_and_setup, walk_setting_of_parts}
use Rattle.worktree_report.specs.Excluding.{stack_setup_if_excludes_option}
use Rattle.worktree_report.specs.Reported.{WalksBySetup}

-- what a walk is given is what the setup asks for
pub asked_is : (composes : Bool) (root : List ℕ) (setup : Setup) (options : WalkOptions) (has_lookup : Bool) (git_dir current_dir : List ℕ)
    → options ≡ walk_options_of_setup composes setup → has_lookup ≡ setup.options.ignore_case → git_dir ≡ git_dir_or_default root setup.git_dir → current_dir ≡ current_dir_or_root root setup.current_dir
    → walk_setting_of_parts setup.specs root options setup.index has_lookup git_dir current_dir ≡ walk_setting_of_setup composes root setup
asked_is composes root setup options has_lookup git_dir current_dir options_are lookup_is git_dir_is current_dir_is =
    ap (λ (x : WalkOptions). walk_setting_of_parts setup.specs root x setup.index has_lookup git_dir current_dir) options_are
    ∙ ap (λ (x : Bool). walk_setting_of_parts setup.specs root (walk_options_of_setup composes setup) setup.index x git_dir current_dir) lookup_is
    ∙ ap (λ (x : List ℕ). walk_setting_of_parts setup.specs root (walk_options_of_setup composes setup) setup.index setup.options.ignore_case x current_dir) git_dir_is
    ∙ ap (λ (x : List ℕ). walk_setting_of_parts setup.specs root (walk_options_of_setup composes setup) setup.index setup.options.ignore_case (git_dir_or_default root setup.git_dir) x) current_dir_is

-- and so a walk of what it is given is one of what the setup asks for
pub walks-asked : {W F I T : Type 0} {w : WorktreeOf W} {f : FindOf F} {i : InterruptOf I} {w0 w1 : W} {o0 o1 : F} {i0 i1 : I} {old new : Option StackModel} {strategy : Strategy} {explicit : Option (List ℕ)} {limit : ℕ} {recursion : DelegateDefaultAndRefusalCounts} {outcome_of : T → Outcome} {path_of : T → List ℕ} {result : Result T Error} {x y : WalkSetting}
    → x ≡ y → WalksWorktreeWithCauses w f i w0 w1 o0 o1 i0 i1 old new strategy x explicit limit recursion outcome_of path_of result → WalksWorktreeWithCauses w f i w0 w1 o0 o1 i0 i1 old new strategy y explicit limit recursion outcome_of path_of result
walks-asked {w = w} {f = f} {i = i} {w0 = w0} {w1 = w1} {o0 = o0} {o1 = o1} {i0 = i0} {i1 = i1} {old = old} {new = new} {strategy = strategy} {explicit = explicit} {limit = limit} {recursion = recursion} {outcome_of = outcome_of} {path_of = path_of} {result = result} e h =
    subst (λ (x : WalkSetting). WalksWorktreeWithCauses w f i w0 w1 o0 o1 i0 i1 old new strategy x explicit limit recursion outcome_of path_of result) e h

-- what is told is told of the rules of the setup
tells_of : {W F : Type 0} {w : WorktreeOf W} {f : FindOf F} {w0 : W} {o0 : F} {old : Option StackModel} {m : Option StackSetup} → setup_of_optional_stack old ≡ m → ((s : TreeAndObjects) → IsStackInStepIfGiven s old)
    → (s : TreeAndObjects) → TellsTreeAndObjects (w.told w0) (f.holds o0) m s → Tells w f w0 o0 old s
tells_of {w = w} {f = f} {w0 = w0} {o0 = o0} made step s told = record { tells = subst (λ m. TellsTreeAndObjects (w.told w0) (f.holds o0) m s) (sym made) told; in_step = step s }

-- a walk by the rules of the setup, which are in step with anything as nothing is pushed, makes its report
pub Reports-walked : {W F I : Type 0} {w : WorktreeOf W} {f : FindOf F} {i : InterruptOf I} {w0 w1 : W} {o0 o1 : F} {i0 i1 : I} {old new : Option StackModel} {root : List ℕ} {setup : Setup} {result : Result Report Error}
    → setup_of_optional_stack old ≡ stack_setup_if_excludes_option root setup → ((s : TreeAndObjects) → IsStackInStepIfGiven s old)
    → ((s : TreeAndObjects) → Tells w f w0 o0 old s → CountNotIncreased (w.faults w0) (w.faults w1) → IfOk result (IsSafeReport (walk_setting_of_setup (w.precomposes w0) root setup) (setup_of_optional_stack old) s setup.root setup.depth))
    → IfOk result (IsReportOverAnyWorktree (walk_setting_of_setup (w.precomposes w0) root setup) setup.root)
    → WalksWorktreeWithCauses w f i w0 w1 o0 o1 i0 i1 old new setup.options.strategy (walk_setting_of_setup (w.precomposes w0) root setup) setup.root setup.depth default_without_refusals (λ (r : Report). r.outcome) (λ (r : Report). r.root) result
    → WalksBySetup w f i w0 w1 o0 o1 i0 i1 root setup result
Reports-walked {w = w} {f = f} {w0 = w0} {o0 = o0} {o1 = o1} {root = root} {setup = setup} {result = result} made step gives any walks =
    record {
      gives = λ s told quiet. subst (λ m. IfOk result (IsSafeReport (walk_setting_of_setup (w.precomposes w0) root setup) m s setup.root setup.depth)) made (gives s (tells_of {w = w} {f = f} made step s told) quiet);
      ordered = IfOk-weaker result _ _ (λ r whole. whole.ordered) any;
      counted = IfOk-weaker result _ _ (λ r whole. whole.counted) any;
      filtered = IfOk-weaker result _ _ (λ r whole. whole.filtered) any;
      seen = IfOk-weaker result _ _ (λ r whole. whole.seen) any;
      once = IfOk-weaker result _ _ (λ r whole. whole.once) any;
      named = walks.named;
      about = subst (λ m. IfErr result (IsWholeWalkErrorByInput (walk_setting_of_setup (w.precomposes w0) root setup) m setup.root setup.depth)) made walks.about;
      found = λ s told. subst (λ m. IfErr result (IsWholeWalkErrorByTree (walk_setting_of_setup (w.precomposes w0) root setup) m setup.root (f.holds o0) s)) made (walks.found s told);
      cause = walks.cause;
      interrupted = walks.interrupted;
      listing = walks.listing;
      no_root = λ t told quiet.
          subst
          (λ m. IfErr result (HoldsIfRootIsFileError ((find_traversal_root (walk_setting_of_setup (w.precomposes w0) root setup) t setup.root ≡ rooted []) × IsUnenteredNonDirectoryRoot (walk_setting_of_setup (w.precomposes w0) root setup) m (sources_of_tree_and_setup t setup) default_without_refusals)))
          made (walks.no_root (sources_of_tree_and_setup t setup) told quiet);
      refused = λ s told quiet.
          subst (λ m. IfErr result (IsWholeWalkErrorBySources (walk_setting_of_setup (w.precomposes w0) root setup) m s setup.root setup.depth (CountIncreasedOrSaturated (f.faults o0) (f.faults o1)))) made
          (walks.refused s (tells_of {w = w} {f = f} made step s told) refl quiet);
      complete = λ s told quiet stored calm valid.
          walks.complete s (tells_of {w = w} {f = f} made step s told) refl quiet stored calm (subst (λ m. HasReportOrIsWalkable (walk_setting_of_setup (w.precomposes w0) root setup) m s setup.root setup.depth) (sym made) valid);
      worktree = walks.worktree;
      store = walks.store;
      interrupt = walks.interrupt;
      listed = walks.listed;
      calm = walks.calm;
      opens =
          record {
            opened = walks.opens.opened;
            within = λ s told quiet.
                subst (λ m. walks.opens.opened ≤ most_opened_in_walk setup.depth (walk_over_sources (walk_setting_of_setup (w.precomposes w0) root setup) m s setup.root) (count_unlisted_in_answer result)) made
                (walks.opens.within s (tells_of {w = w} {f = f} made step s told) refl quiet);
            listed = walks.opens.listed;
            asked = walks.opens.asked;
            counted = walks.opens.counted;
            reads = λ over_itself rules_alone no_attributes. walks.opens.reads over_itself rules_alone (ap has_attributes_if_given made ∙ no_attributes);
          };
    }

-- where nothing is listed, no directory is opened
pub unlisted_so : (strategy : Strategy) (before now : ℕ) → now ≡ before → CountsListingsByStrategy strategy before now 0
unlisted_so Held before now same = λ few. omega (arith, few, same)
unlisted_so AtOnce before now same = omega (arith, same)

-- memory may be wanted before anything is asked
pub Reports-memory : {W F I : Type 0} (w : WorktreeOf W) (f : FindOf F) (i : InterruptOf I) (w0 : W) (o0 : F) (i0 : I) (root : List ℕ) (setup : Setup)
    → WalksBySetup w f i w0 w0 o0 o0 i0 i0 root setup (Err OutOfMemory)
Reports-memory w f i w0 o0 i0 root setup =
    record {
      gives = λ s told quiet. tt;
      ordered = tt;
      counted = tt;
      filtered = tt;
      seen = tt;
      once = tt;
      named = λ t told quiet. tt;
      about = inl tt;
      found = λ s told. inr tt;
      cause = tt;
      interrupted = tt;
      listing = tt;
      no_root = λ t told quiet. tt;
      refused = λ s told quiet. inl tt;
      complete = λ s told quiet stored calm valid. refl;
      worktree = record { tree = refl; faults = omega arith; list_faults = omega arith; reads = omega arith; lists = omega arith; precomposes = refl };
      store = record { holds = refl; faults = omega arith };
      interrupt = record { questions = omega arith; raised = omega arith };
      listed = tt;
      calm = tt;
      opens =
          record {
            opened = 0;
            within = λ s told quiet. omega arith;
            listed = unlisted_so setup.options.strategy (w.lists w0) (w.lists w0) refl;
            asked = omega arith;
            counted = tt;
            reads = λ over_itself rules_alone no_attributes. inl refl;
          };
    }
