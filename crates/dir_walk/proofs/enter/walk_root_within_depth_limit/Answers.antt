-- The traversal root lies too deep, or is walked as any directory with the levels that are left.
use Rattle.std.proofs.Common.{◌≡◌, ◌∙◌, sym, ◌+◌, ◌-◌, ℕ, inl, inr, ap, refl, arith, rules}
use Rattle.dir_classify.specs.Chosen.{walk_options_of}
use Rattle.dir_classify.specs.Excludes.{setup_of_optional_stack}
use Rattle.dir_classify.specs.Layers.{setting_of_shared, evidence_from_setting_and_sources}
use Rattle.worktree_fs.specs.Causes.{CountIncreasedOrSaturated}
use Rattle.dir_walk.specs.declared.strategy.Strategy.TheVariants.{AtOnce, Held}
use Rattle.dir_walk.specs.Report.{count_components}
use Rattle.dir_walk.specs.Told.{walk_result_of_directory_over_sources, look_at_entered_directory}
use Rattle.dir_walk.proofs.Gives.Emitting.{Within-none}
use Rattle.dir_walk.proofs.Opens.FromRoot.{opens-not}
use Rattle.dir_walk.proofs.Opens.Keeping.{AsksStore-same, KeepsDelegate-same, KeepsRules-same}
use Rattle.dir_walk.proofs.Refused.Refusals.{IsAbout-root, Refuses-deep}
use Rattle.dir_walk.proofs.Places.Rooms.{Hands-none}
use Rattle.dir_walk.proofs.Roots.RootSteps.{root-any, root-told}
use Rattle.dir_walk.proofs.Folding.Steps.{entered-among}
use Rattle.dir_walk.proofs.enter.walk_root_within_depth_limit.Goals as goal

-- ---- it lies too deep

pub returns-then-depth-depth_limit-clause-told : goal.returns-then-depth-depth_limit-clause-told
returns-then-depth-depth_limit-clause-told g c =
    record {
      gives = λ made s stands quiet default. tt;
      part = λ made s stands quiet default. Within-none _ _ _ _ _ _ refl refl;
      refused = λ made s stands default.
          let a = c.args in
          let w = g.W.Worktree in
          let given = setting_of_shared g.M.Matcher a.shared.now in
          let d = a.place.now.path in
          inr (Refuses-deep given made s a.depth_limit (CountIncreasedOrSaturated (w.faults a.parts.now.worktree.now) (w.faults a.parts.now.worktree.now))
          (CountIncreasedOrSaturated (g.I.Interrupt.raised a.parts.now.interrupt.now) (g.I.Interrupt.raised c.too_deep_or_interrupted_error.new.interrupt))
          (walk_result_of_directory_over_sources given made s d a.class.now) d c.too_deep_or_interrupted_error.result
          (omega (arith, c.if-depth-depth_limit.true, c.count_components-depth.ensures, ap {B = ℕ} count_components c.path.ensures.path))
          (inl (entered-among (walk_options_of a.shared.now.options) (evidence_from_setting_and_sources given made s) d a.class.now (look_at_entered_directory given s.tree d)))
          (rw c.requires.root at c.too_deep_or_interrupted_error.ensures.deep));
    }

pub returns-then-depth-depth_limit-clause-walks : goal.returns-then-depth-depth_limit-clause-walks
returns-then-depth-depth_limit-clause-walks g c =
    record {
      about =
          let a = c.args in
          IsAbout-root (setup_of_optional_stack a.parts.now.excludes.now) a.shared.now.worktree_root.now a.place.now.path a.depth_limit _ c.too_deep_or_interrupted_error.result c.path.ensures.normal c.path.ensures.spelled
          (omega (arith, c.if-depth-depth_limit.true, c.count_components-depth.ensures, ap {B = ℕ} count_components c.path.ensures.path))
          (rw c.requires.root at c.too_deep_or_interrupted_error.ensures.deep);
      found = search rules;
      hands = Hands-none refl refl refl;
      filtered = refl;
      ends = record {
        worktree = record { tree = refl; faults = omega arith; list_faults = omega arith; reads = omega arith; lists = omega arith; precomposes = refl };
        store = AsksStore-same;
        rules = KeepsRules-same;
        interrupt = c.too_deep_or_interrupted_error.ensures.interrupt;
        delegate = KeepsDelegate-same;
        heeds = record { broken = tt; stopped = tt; unbroken = refl; kept_on = tt };
        caused = search rules;
      };
    }

pub returns-then-depth-depth_limit-clause-opens : goal.returns-then-depth-depth_limit-clause-opens
returns-then-depth-depth_limit-clause-opens g c = opens-not c.args.strategy _ _ _ _ _ _ _ _ _ _ _ (λ n none made s stands quiet default. omega (arith, none)) refl refl c.too_deep_or_interrupted_error.ensures.asked

-- ---- all is walked over the worktree

pub returns-in-Held-clause-told : goal.returns-in-Held-clause-told
returns-in-Held-clause-told g c = root-told (omega (arith, c.if-depth-depth_limit.false, c.count_components-depth.ensures, ap {B = ℕ} count_components c.path.ensures.path)) c.walk_directory.ensures.told

pub returns-in-Held-clause-walks : goal.returns-in-Held-clause-walks
returns-in-Held-clause-walks g c = root-any (omega (arith, c.if-depth-depth_limit.false, c.count_components-depth.ensures, ap {B = ℕ} count_components c.path.ensures.path)) c.walk_directory.ensures.rules c.walk_directory.ensures.walks

pub returns-in-Held-clause-opens : goal.returns-in-Held-clause-opens
returns-in-Held-clause-opens g c =
    let level : (c.args.depth_limit - c.count_components-depth.result) + count_components c.args.place.now.path ≡ c.args.depth_limit =
    omega (arith, c.if-depth-depth_limit.false, c.count_components-depth.ensures, ap {B = ℕ} count_components c.path.ensures.path) in
    rw c.in-Held.is (rw level at c.walk_directory.ensures.opens)

pub returns-in-Held-clause-unmapped : goal.returns-in-Held-clause-unmapped
returns-in-Held-clause-unmapped g c = λ held. c.walk_directory.ensures.unmapped

-- ---- each name is a job

pub returns-in-AtOnce-clause-told : goal.returns-in-AtOnce-clause-told
returns-in-AtOnce-clause-told g c = root-told (omega (arith, c.if-depth-depth_limit.false, c.count_components-depth.ensures, ap {B = ℕ} count_components c.path.ensures.path)) c.walk_root_directory_by_jobs.ensures.told

pub returns-in-AtOnce-clause-walks : goal.returns-in-AtOnce-clause-walks
returns-in-AtOnce-clause-walks g c = root-any (omega (arith, c.if-depth-depth_limit.false, c.count_components-depth.ensures, ap {B = ℕ} count_components c.path.ensures.path)) c.walk_root_directory_by_jobs.ensures.rules c.walk_root_directory_by_jobs.ensures.walks

pub returns-in-AtOnce-clause-opens : goal.returns-in-AtOnce-clause-opens
returns-in-AtOnce-clause-opens g c =
    let level : (c.args.depth_limit - c.count_components-depth.result) + count_components c.args.place.now.path ≡ c.args.depth_limit =
    omega (arith, c.if-depth-depth_limit.false, c.count_components-depth.ensures, ap {B = ℕ} count_components c.path.ensures.path) in
    rw c.in-AtOnce.is (rw level at c.walk_root_directory_by_jobs.ensures.opens)

pub returns-in-AtOnce-clause-unmapped : goal.returns-in-AtOnce-clause-unmapped
returns-in-AtOnce-clause-unmapped g c = λ held. absurd (let other : AtOnce ≡ Held = sym c.in-AtOnce.is ∙ held in cc other)
