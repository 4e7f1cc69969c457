-- What every walk says, by how it ended.
use Rattle.std.proofs.Common.{◌≡◌, inl, inr, ℕ, List, [], true, false, Option, Some, None, Result, Ok, Err, refl, ap, ◌∙◌, ◌≤◌, arith}
use Rattle.std.specs.Prelude.{◌⊎◌}
use Rattle.gitbase_core.specs.declared.find.Find.{Ghosts as FindOf}
use Rattle.worktree_fs.specs.declared.interrupt.Interrupt.{Ghosts as InterruptOf}
use Rattle.worktree_fs.specs.declared.worktree.Worktree.{Ghosts as WorktreeOf}
use Rattle.worktree_fs.specs.Causes.{CountIncreasedOrSaturated, CountNotIncreased}
use Rattle.worktree_fs.specs.Kept.{KeepsTreeAndListCounts}
use Rattle.worktree_fs.specs.Paths.{root_joined_with_relative}
use Rattle.worktree_fs.specs.Tree.{Names}
use Rattle.worktree_stack.specs.Lookups.{one_if_refused}
use Rattle.worktree_stack.specs.Reading.{TreeAndObjects}
use Rattle.worktree_stack.specs.Setup.{StackSetup}
use Rattle.worktree_stack.specs.Stacked.{StackModel}
use Rattle.dir_classify.specs.declared.error.Error.{Error}
use Rattle.dir_classify.specs.declared.error.Error.TheVariants as errors
use Rattle.dir_classify.specs.Excludes.{setup_of_optional_stack, maps_rules_files_to_blobs}
use Rattle.dir_classify.specs.Layers.{WalkSetting}
use Rattle.dir_classify.specs.Refused.{HoldsIfFaultError}
use Rattle.dir_walk.specs.declared.handed.Stop.{Stop}
use Rattle.dir_walk.specs.declared.handed.Stop.TheVariants.{Refused}
use Rattle.dir_walk.specs.declared.outcome.Outcome.{Outcome}
use Rattle.dir_walk.specs.declared.strategy.Strategy.{Strategy}
use Rattle.dir_walk.specs.declared.delegate.Delegate.{Ghosts as DelegateOf}
use Rattle.dir_walk.specs.declared.strategy.Strategy.TheVariants.{Held}
use Rattle.dir_walk.specs.Kept.{HoldsIfInterrupted, HoldsIfListingFault}
use Rattle.dir_walk.specs.Root.{Walk, rooted, find_traversal_root, walk_over_sources}
use Rattle.dir_walk.specs.Rooting.{IsErrorOfRootResult, IsNormalizedRoot, IsErrorOfTraversalRoot}
use Rattle.dir_walk.specs.WalkRefused.{IsUnenteredNonDirectoryRoot, HoldsIfRootIsFileError, HoldsIfNothingStarted, DelegateDefaultAndRefusalCounts, IsErrorFromRootWithinLimit, IsErrorFromRootByTree, IsErrorFromRootBySources}
use Rattle.dir_walk.specs.Walks.{KeepsStateAtEnd, OpensAtMostEnteredInWalk, CountsOpenedInWholeWalk, most_opened_in_walk, ReadsAtMostPerDirectory, Tells, WalksWorktreeWithCauses}
use Rattle.dir_walk.proofs.Refused.Refusals.{rose-or}
use Rattle.dir_walk.proofs.Walked.CallByCall.{Before-asked, Ends-after, unlisted}
use Rattle.dir_walk.proofs.Theorems.Walkable.{valid-memory}
use Rattle.dir_walk.proofs.Opens.Keeping.{AsksStore-same, KeepsRules-same}
use Rattle.dir_walk.proofs.Opens.Overall.{opens-nothing}
use Rattle.dir_walk.proofs.Refused.Shallow.{shallow-outside}
use Rattle.dir_walk.proofs.Roots.Unstarted.{no-start-weaker, on-no-start}

-- ---- there is no traversal root

interrupt-outside : (P : Type 0) (given : WalkSetting) (explicit : Option (List ℕ)) (e : Error) → IsErrorOfTraversalRoot given explicit e → HoldsIfInterrupted P e
interrupt-outside P given explicit errors.Interrupted h = absurd h
interrupt-outside P given explicit (errors.WorktreeRootIsFile root) h = tt
interrupt-outside P given explicit (errors.NormalizeRoot root) h = tt
interrupt-outside P given explicit (errors.SymlinkInRoot whole worktree_root index) h = tt
interrupt-outside P given explicit (errors.SymlinkMetadata full why) h = tt
interrupt-outside P given explicit (errors.ExcludesAccess x) h = tt
interrupt-outside P given explicit (errors.TooDeep at) h = tt
interrupt-outside P given explicit (errors.ReadDir at why) h = tt
interrupt-outside P given explicit (errors.DirEntry at) h = tt
interrupt-outside P given explicit errors.OutOfMemory h = tt

listing-outside : (P : Type 0) (given : WalkSetting) (explicit : Option (List ℕ)) (e : Error) → IsErrorOfTraversalRoot given explicit e → HoldsIfListingFault P e
listing-outside P given explicit errors.Interrupted h = tt
listing-outside P given explicit (errors.WorktreeRootIsFile root) h = tt
listing-outside P given explicit (errors.NormalizeRoot root) h = tt
listing-outside P given explicit (errors.SymlinkInRoot whole worktree_root index) h = tt
listing-outside P given explicit (errors.SymlinkMetadata full why) h = tt
listing-outside P given explicit (errors.ExcludesAccess x) h = tt
listing-outside P given explicit (errors.TooDeep at) h = tt
listing-outside P given explicit (errors.ReadDir at why) h = absurd h
listing-outside P given explicit (errors.DirEntry at) h = absurd h
listing-outside P given explicit errors.OutOfMemory h = tt

no_root-outside : (P : Type 0) (given : WalkSetting) (explicit : Option (List ℕ)) (e : Error) → IsErrorOfTraversalRoot given explicit e → HoldsIfRootIsFileError P e
no_root-outside P given explicit errors.Interrupted h = tt
no_root-outside P given explicit (errors.WorktreeRootIsFile root) h = absurd h
no_root-outside P given explicit (errors.NormalizeRoot root) h = tt
no_root-outside P given explicit (errors.SymlinkInRoot whole worktree_root index) h = tt
no_root-outside P given explicit (errors.SymlinkMetadata full why) h = tt
no_root-outside P given explicit (errors.ExcludesAccess x) h = tt
no_root-outside P given explicit (errors.TooDeep at) h = tt
no_root-outside P given explicit (errors.ReadDir at why) h = tt
no_root-outside P given explicit (errors.DirEntry at) h = tt
no_root-outside P given explicit errors.OutOfMemory h = tt

module _ {W F I T : Type 0} (w : WorktreeOf W) (f : FindOf F) (i : InterruptOf I) {w0 w1 : W} {o0 : F} {i0 : I} {r0 : Option StackModel} (strategy : Strategy) (given : WalkSetting) (explicit : Option (List ℕ)) (limit : ℕ) (recursion : DelegateDefaultAndRefusalCounts) (outcome_of : T → Outcome) (path_of : T → List ℕ)
    (keeps : KeepsTreeAndListCounts w w0 w1) (reads : w.reads w1 ≡ w.reads w0) where
  pub walks-outside : (e : Error) → IsErrorOfTraversalRoot given explicit e → ((t : Names) → w.told w0 ≡ Some t → IsErrorOfRootResult (find_traversal_root given t explicit) e)
      → ((before now : ℕ) → HoldsIfFaultError (CountIncreasedOrSaturated (w.faults w0) (w.faults w1)) (CountIncreasedOrSaturated before now) e) → WalksWorktreeWithCauses w f i w0 w1 o0 o0 i0 i0 r0 r0 strategy given explicit limit recursion outcome_of path_of (Err e)
  walks-outside e about ends fault =
      record {
        about = inl about;
        cause = fault (f.faults o0) (f.faults o0);
        interrupted = interrupt-outside (CountIncreasedOrSaturated (i.raised i0) (i.raised i0)) given explicit e about;
        listing = listing-outside (CountIncreasedOrSaturated (w.list_faults w0) (w.list_faults w1)) given explicit e about;
        found = λ s told. inl (ends s.tree told);
        refused = λ s tells by quiet. inl (ends s.tree tells.tells.tree_is);
        unstarted = on-no-start (keeps.lists, refl) e;
        no_root = λ s told quiet. no_root-outside ((find_traversal_root given s.tree explicit ≡ rooted []) × IsUnenteredNonDirectoryRoot given (setup_of_optional_stack r0) s recursion) given explicit e about;
        complete = λ s tells by quiet store_quiet calm is.
            valid-memory s (setup_of_optional_stack r0) given explicit limit (w.faults w0) (w.faults w1) (f.faults o0) (f.faults o0) (i.raised i0) (i.raised i0) e (fault (f.faults o0) (f.faults o0))
            (interrupt-outside (CountIncreasedOrSaturated (i.raised i0) (i.raised i0)) given explicit e about) (inl (ends s.tree tells.tells.tree_is)) quiet store_quiet calm is;
        named = λ t told quiet. tt;
        named_so = λ t told. tt;
        worktree = unlisted (Before-asked {f = f} {o = o0} {rules = r0} keeps).worktree;
        store = AsksStore-same;
        unmapped = λ held none. refl;
        rules = KeepsRules-same;
        interrupt = record { questions = omega arith; raised = omega arith };
        listed = tt;
        calm = tt;
        opens = opens-nothing strategy keeps.lists reads (λ s tells by quiet. omega arith) (shallow-outside given explicit e about);
      }

-- ---- where it began

-- at the traversal root, or for a fault at the worktree root
began-at : {Is Top : Type 0} (n0 n1 n2 : ℕ) → n1 ≤ n2 → (CountNotIncreased n0 n1 → Is) → Is ⊎ Top → Is ⊎ (Top × CountIncreasedOrSaturated n0 n2)
began-at {Is} {Top} n0 n1 n2 more exact way = go way (rose-or n0 n1)
  where
    go : Is ⊎ Top → CountNotIncreased n0 n1 ⊎ CountIncreasedOrSaturated n0 n1 → Is ⊎ (Top × CountIncreasedOrSaturated n0 n2)
    go (inl is) said = inl is
    go (inr top) (inl quiet) = inl (exact quiet)
    go (inr top) (inr rose) = inr (top, omega (arith, rose, more))

-- ---- it was refused on the way from there

no_root-start : (P Q : Type 0) (made : Option StackSetup) (top root : List ℕ) (limit : ℕ) (e : Error) → IsErrorFromRootWithinLimit made top root limit e → (root ≡ [] → P → Q) → HoldsIfRootIsFileError P e → HoldsIfRootIsFileError Q e
no_root-start P Q made top root limit errors.Interrupted about f h = tt
no_root-start P Q made top root limit (errors.WorktreeRootIsFile path) about f h = f about.1 h
no_root-start P Q made top root limit (errors.NormalizeRoot path) about f h = tt
no_root-start P Q made top root limit (errors.SymlinkInRoot path worktree_root index) about f h = tt
no_root-start P Q made top root limit (errors.SymlinkMetadata path why) about f h = tt
no_root-start P Q made top root limit (errors.ExcludesAccess x) about f h = tt
no_root-start P Q made top root limit (errors.TooDeep path) about f h = tt
no_root-start P Q made top root limit (errors.ReadDir path why) about f h = tt
no_root-start P Q made top root limit (errors.DirEntry path) about f h = tt
no_root-start P Q made top root limit errors.OutOfMemory about f h = tt

module _ {W F I D T : Type 0} (w : WorktreeOf W) (f : FindOf F) (i : InterruptOf I) (d : DelegateOf D) {w0 w1 w2 : W} {o0 o2 : F} {i0 i2 : I} {r0 r2 : Option StackModel} {d0 d2 : D}
    (strategy : Strategy) (given : WalkSetting) (explicit : Option (List ℕ)) (limit : ℕ) (recursion : DelegateDefaultAndRefusalCounts) (outcome_of : T → Outcome) (path_of : T → List ℕ) (root : List ℕ) (keeps : KeepsTreeAndListCounts w w0 w1) (normalized_is : IsNormalizedRoot given explicit root)
    (rooted_is : (t : Names) → w.told w0 ≡ Some t → CountNotIncreased (w.faults w0) (w.faults w1) → find_traversal_root given t explicit ≡ rooted root) where
  pub walks-refused : (e : Error) → KeepsStateAtEnd {T = Unit {0}} w f i d w1 w2 o0 o2 i0 i2 r0 r2 d0 d2 (Err (Refused e)) → IsErrorFromRootWithinLimit (setup_of_optional_stack r0) given.root root limit e
      → ((s : TreeAndObjects) → w.told w1 ≡ Some s.tree → IsErrorFromRootByTree given.root (f.holds o0) s (setup_of_optional_stack r0) e)
      → ((s : TreeAndObjects) → Tells w f w1 o0 r0 s → recursion.is_default ≡ true → CountNotIncreased (w.faults w1) (w.faults w2)
      → IsErrorFromRootBySources given (setup_of_optional_stack r0) s root limit (CountIncreasedOrSaturated (f.faults o0) (f.faults o2)) e)
      → ((s : TreeAndObjects) → w.told w1 ≡ Some s.tree → CountNotIncreased (w.faults w1) (w.faults w2) → HoldsIfRootIsFileError (IsUnenteredNonDirectoryRoot given (setup_of_optional_stack r0) s recursion) e)
      → HoldsIfNothingStarted ((w.lists w2 ≡ w.lists w1) × (i2 ≡ i0)) e
      → (strategy ≡ Held → maps_rules_files_to_blobs (setup_of_optional_stack r0) ≡ false → o2 ≡ o0)
      → CountsOpenedInWholeWalk w i w0 w2 i0 i2 strategy given (setup_of_optional_stack r0) explicit outcome_of path_of (Err e) (OpensAtMostEnteredInWalk {T = T} w f w0 w2 o0 r0 recursion given explicit limit (Err e))
      → WalksWorktreeWithCauses w f i w0 w2 o0 o2 i0 i2 r0 r2 strategy given explicit limit recursion outcome_of path_of (Err e)
  walks-refused e here about found refused no_root unstarted unmapped opens =
      let ends = Ends-after w f i d (Err (Refused e)) (Before-asked keeps) here in
      let later : (s : TreeAndObjects) → Tells w f w0 o0 r0 s → Tells w f w1 o0 r0 s =
      λ s tells. record { tells = record { tree_is = keeps.tree ∙ tells.tells.tree_is; objects_are = tells.tells.objects_are }; in_step = tells.in_step } in
      let first : CountNotIncreased (w.faults w0) (w.faults w2) → CountNotIncreased (w.faults w0) (w.faults w1) = λ quiet. omega (arith, quiet, here.worktree.faults) in
      let second : CountNotIncreased (w.faults w0) (w.faults w2) → CountNotIncreased (w.faults w1) (w.faults w2) = λ quiet. omega (arith, quiet, keeps.faults) in
      record {
        about = inr (root, normalized_is, about);
        cause = ends.caused.fault;
        interrupted = ends.caused.interrupt;
        listing = ends.caused.listing;
        found = λ s told. inr (found s (keeps.tree ∙ told));
        refused = λ s tells by quiet. inr (root, rooted_is s.tree tells.tells.tree_is (first quiet), refused s (later s tells) by (second quiet));
        no_root = λ s told quiet.
            no_root-start (IsUnenteredNonDirectoryRoot given (setup_of_optional_stack r0) s recursion) ((find_traversal_root given s.tree explicit ≡ rooted []) × IsUnenteredNonDirectoryRoot given (setup_of_optional_stack r0) s recursion) (setup_of_optional_stack r0) given.root root limit e about
            (λ top node. (rooted_is s.tree told (first quiet) ∙ ap rooted top, node)) (no_root s (keeps.tree ∙ told) (second quiet));
        unstarted = no-start-weaker (λ same. (same.0 ∙ keeps.lists, same.1)) e unstarted;
        complete = λ s tells by quiet store_quiet calm is.
            valid-memory s (setup_of_optional_stack r0) given explicit limit (w.faults w0) (w.faults w2) (f.faults o0) (f.faults o2) (i.raised i0) (i.raised i2) e ends.caused.fault ends.caused.interrupt
            (inr (root, rooted_is s.tree tells.tells.tree_is (first quiet), refused s (later s tells) by (second quiet))) quiet store_quiet calm is;
        named = λ t told quiet. tt;
        named_so = λ t told. tt;
        worktree = ends.worktree;
        store = ends.store;
        unmapped = unmapped;
        rules = ends.rules;
        interrupt = ends.interrupt;
        listed = tt;
        calm = tt;
        opens = opens;
      }

  -- or it was done, or broken off
  pub walks-done : (r : T) → path_of r ≡ root_joined_with_relative given.root root → ((t : Names) → w.told w0 ≡ Some t → (find_traversal_root given t explicit ≡ rooted root) ⊎ (root ≡ [])) → (stop : Result (Unit {0}) Stop) → KeepsStateAtEnd w f i d w1 w2 o0 o2 i0 i2 r0 r2 d0 d2 stop → w.list_faults w2 ≡ w.list_faults w1 → i.raised i2 ≡ i.raised i0
      → (strategy ≡ Held → maps_rules_files_to_blobs (setup_of_optional_stack r0) ≡ false → o2 ≡ o0)
      → CountsOpenedInWholeWalk w i w0 w2 i0 i2 strategy given (setup_of_optional_stack r0) explicit outcome_of path_of (Ok r) (OpensAtMostEnteredInWalk {T = T} w f w0 w2 o0 r0 recursion given explicit limit (Ok r)) → WalksWorktreeWithCauses w f i w0 w2 o0 o2 i0 i2 r0 r2 strategy given explicit limit recursion outcome_of path_of (Ok r)
  walks-done r full_is way stop here lists calm unmapped opens =
      let ends = Ends-after w f i d stop (Before-asked keeps) here in
      record {
        about = tt;
        cause = tt;
        interrupted = tt;
        listing = tt;
        found = λ s told. tt;
        refused = λ s tells by quiet. tt;
        no_root = λ s told quiet. tt;
        unstarted = tt;
        complete = λ s tells by quiet store_quiet raised is. tt;
        named = λ t told quiet. (root, rooted_is t told (omega (arith, quiet, here.worktree.faults)), full_is);
        named_so = λ t told. (root, began-at (w.faults w0) (w.faults w1) (w.faults w2) here.worktree.faults (rooted_is t told) (way t told), full_is);
        worktree = ends.worktree;
        store = ends.store;
        unmapped = unmapped;
        rules = ends.rules;
        interrupt = ends.interrupt;
        listed = lists ∙ keeps.list_faults;
        calm = calm;
        opens = opens;
      }

-- ---- a walk by another name

-- want of memory may come with one more
spare-more : (limit : ℕ) (walk : Option Walk) → most_opened_in_walk limit walk 0 ≤ most_opened_in_walk limit walk 1
spare-more limit None = omega arith
spare-more limit (Some walk) = omega arith

-- a refusal names no root
reads-refused : {S T : Type 0} (given : WalkSetting) (explicit : Option (List ℕ)) (path_of : S → List ℕ) (other_path_of : T → List ℕ) (result : Result S Error) (e : Error) (before now opened : ℕ)
    → one_if_refused result ≤ 1 → ReadsAtMostPerDirectory given explicit path_of result before now opened → ReadsAtMostPerDirectory given explicit other_path_of (Err e) before now opened
reads-refused given explicit path_of other_path_of result e before now opened fits (inl same) = inl same
reads-refused given explicit path_of other_path_of result e before now opened fits (inr h) = inr (h.0, record { normalized = h.1.normalized; named = tt }, omega (arith, h.2, fits))

-- the same root is named
reads-more : {S T : Type 0} (given : WalkSetting) (explicit : Option (List ℕ)) (path_of : S → List ℕ) (other_path_of : T → List ℕ) (r : S) (t : T) (before now opened : ℕ) → other_path_of t ≡ path_of r
    → ReadsAtMostPerDirectory given explicit path_of (Ok r) before now opened → ReadsAtMostPerDirectory given explicit other_path_of (Ok t) before now opened
reads-more given explicit path_of other_path_of r t before now opened path (inl same) = inl same
reads-more given explicit path_of other_path_of r t before now opened path (inr h) = inr (h.0, record { normalized = h.1.normalized; named = path ∙ h.1.named }, h.2)

module _ {W F I S T : Type 0} (w : WorktreeOf W) (f : FindOf F) (i : InterruptOf I) {w0 w1 : W} {o0 o1 : F} {i0 i1 : I} {r0 r1 : Option StackModel} (strategy : Strategy) (given : WalkSetting) (explicit : Option (List ℕ)) (limit : ℕ) (recursion : DelegateDefaultAndRefusalCounts)
    (outcome_of : S → Outcome) (path_of : S → List ℕ) (other_of : T → Outcome) (other_path_of : T → List ℕ) where
  -- what is refused is handed on
  pub walks-other : (e : Error) → WalksWorktreeWithCauses {T = S} w f i w0 w1 o0 o1 i0 i1 r0 r1 strategy given explicit limit recursion outcome_of path_of (Err e) → WalksWorktreeWithCauses {T = T} w f i w0 w1 o0 o1 i0 i1 r0 r1 strategy given explicit limit recursion other_of other_path_of (Err e)
  walks-other e h =
      record {
        about = h.about;
        cause = h.cause;
        interrupted = h.interrupted;
        listing = h.listing;
        found = h.found;
        refused = h.refused;
        no_root = h.no_root;
        unstarted = h.unstarted;
        complete = h.complete;
        named = λ t told quiet. tt;
        named_so = λ t told. tt;
        worktree = h.worktree;
        store = h.store;
        unmapped = h.unmapped;
        rules = h.rules;
        interrupt = h.interrupt;
        listed = tt;
        calm = tt;
        opens = record {
          opened = h.opens.opened;
          listed = h.opens.listed;
          asked = h.opens.asked;
          counted = tt;
          within = h.opens.within;
          reads = λ held on alone. reads-refused given explicit path_of other_path_of (Err e) e (w.reads w0) (w.reads w1) h.opens.opened (omega arith) (h.opens.reads held on alone);
        };
      }

  -- what is done is done with something more in the answer
  pub walks-more : (r : S) (t : T) → other_of t ≡ outcome_of r → other_path_of t ≡ path_of r → WalksWorktreeWithCauses {T = S} w f i w0 w1 o0 o1 i0 i1 r0 r1 strategy given explicit limit recursion outcome_of path_of (Ok r)
      → WalksWorktreeWithCauses {T = T} w f i w0 w1 o0 o1 i0 i1 r0 r1 strategy given explicit limit recursion other_of other_path_of (Ok t)
  walks-more r t counts path h =
      record {
        about = tt;
        cause = tt;
        interrupted = tt;
        listing = tt;
        found = λ s told. tt;
        refused = λ s tells by quiet. tt;
        no_root = λ s told quiet. tt;
        unstarted = tt;
        complete = λ s tells by quiet store_quiet calm is. tt;
        named = λ t told quiet. let n = h.named t told quiet in (n.0, n.1, path ∙ n.2);
        named_so = λ t told. let n = h.named_so t told in (n.0, n.1, path ∙ n.2);
        worktree = h.worktree;
        store = h.store;
        unmapped = h.unmapped;
        rules = h.rules;
        interrupt = h.interrupt;
        listed = h.listed;
        calm = h.calm;
        opens = record {
          opened = h.opens.opened;
          listed = h.opens.listed;
          asked = h.opens.asked;
          counted = ap {B = ℕ} (λ (x : Outcome). x.read_dir_calls) counts ∙ h.opens.counted;
          within = h.opens.within;
          reads = λ held on alone. reads-more given explicit path_of other_path_of r t (w.reads w0) (w.reads w1) h.opens.opened path (h.opens.reads held on alone);
        };
      }

  -- what was done may want memory afterwards
  pub walks-memory : (r : S) → WalksWorktreeWithCauses {T = S} w f i w0 w1 o0 o1 i0 i1 r0 r1 strategy given explicit limit recursion outcome_of path_of (Ok r)
      → WalksWorktreeWithCauses {T = T} w f i w0 w1 o0 o1 i0 i1 r0 r1 strategy given explicit limit recursion other_of other_path_of (Err errors.OutOfMemory)
  walks-memory r h =
      record {
        about = inl tt;
        cause = tt;
        interrupted = tt;
        listing = tt;
        found = λ s told. inl tt;
        refused = λ s tells by quiet. inl tt;
        no_root = λ s told quiet. tt;
        unstarted = tt;
        complete = λ s tells by quiet store_quiet calm is. refl;
        named = λ t told quiet. tt;
        named_so = λ t told. tt;
        worktree = h.worktree;
        store = h.store;
        unmapped = h.unmapped;
        rules = h.rules;
        interrupt = h.interrupt;
        listed = tt;
        calm = tt;
        opens = record {
          opened = h.opens.opened;
          listed = h.opens.listed;
          asked = h.opens.asked;
          counted = tt;
          within = λ s tells by quiet. let most = h.opens.within s tells by quiet in let more = spare-more limit (walk_over_sources given (setup_of_optional_stack r0) s explicit) in omega (arith, most, more);
          reads = λ held on alone. reads-refused given explicit path_of other_path_of (Ok r) errors.OutOfMemory (w.reads w0) (w.reads w1) h.opens.opened (omega arith) (h.opens.reads held on alone);
        };
      }
