-- How often the worktree is asked on the way to a path.
use Rattle.std.specs.Prelude.{◌≡◌, ◌≤◌, ℕ, zero, suc, ◌+◌, false, List, [], ◌∷◌, ◌++◌, length, replicate, Option, Some, None, is_some, Result, Ok, Err, IsErrAnd}
use Rattle.std.proofs.Common.{arith, refl, ap, ◌∙◌, subst}
use Rattle.worktree_fs.specs.Paths.{root_joined_with_relative, slash_joined_components}
use Rattle.worktree_fs.specs.PathStack.{DelegateCall, push_directory, pop_directory, delegate_calls_of_component, delegate_calls_to_push_root, delegate_calls_of_lookup, deepest_components_or_root}
use Rattle.gitbase_core.specs.declared.find.Find.{Ghosts as FindOf}
use Rattle.worktree_fs.specs.declared.worktree.Worktree.{Ghosts as WorktreeOf}
use Rattle.worktree_stack.specs.Asked.{number_of_all_files_asked_by_calls}
use Rattle.worktree_stack.specs.Counted.{with_lookup_counted, number_of_worktree_places, number_of_files_in_readings, places_if_same_kind}
use Rattle.worktree_stack.specs.declared.error.AtPathError.{AtPathError}
use Rattle.worktree_stack.specs.Lookups.{one_if_refused, directories_kept_by_lookup, stack_after_pushing_component}
use Rattle.worktree_stack.specs.Moments.{WorktreeStoreAndStack}
use Rattle.worktree_stack.specs.StackSteps.{BoundsWorktreeReads, PushKeepsSetupAndTree}
use Rattle.gitbase_core.specs.Path.{path_joined_with_slash}
use Rattle.worktree_stack.specs.declared.ignore_source.Source.{Source}
use Rattle.worktree_stack.specs.declared.ignore_source.Source.TheVariants.{IdMapping, WorktreeThenIdMappingIfNotSkipped}
use Rattle.worktree_stack.specs.Reading.{RulesPlace, RulesReading, RulesKind, of_attributes, of_ignore, attribute_readings_of_directory, ignore_places_by_source, ignore_places_of_directory, ignore_readings_of_directory, places_of_readings, readings_of_directory}
use Rattle.worktree_stack.specs.Setup.{AttributesSetup, StackSetup, Setup, has_attributes, blob_id_mapped_to_path}
use Rattle.worktree_stack.specs.Stacked.{StackModel, setup_of_stack, pushed_directories}
use Rattle.worktree_stack.proofs.Lookup.Carrying.{files-append}
use Rattle.worktree_stack.proofs.Rules.Readings.{files-two}

of-kind : (kind : RulesKind) (places : List RulesPlace) → number_of_worktree_places (places_if_same_kind of_attributes kind places) + number_of_worktree_places (places_if_same_kind of_ignore kind places) ≡ number_of_worktree_places places
of-kind of_attributes places = omega arith
of-kind of_ignore places = omega arith

of-kinds : (readings : List RulesReading) → number_of_files_in_readings of_attributes readings + number_of_files_in_readings of_ignore readings ≡ number_of_worktree_places (places_of_readings readings)
of-kinds [] = refl
of-kinds (r ∷ readings) = omega (arith, of-kind r.kind r.places, of-kinds readings, files-two r.places (places_of_readings readings))

module _ (made : StackSetup) where
  pub asked-append : (a b : List DelegateCall) → number_of_all_files_asked_by_calls made (a ++ b) ≡ number_of_all_files_asked_by_calls made a + number_of_all_files_asked_by_calls made b
  asked-append a b = omega (arith, files-append of_attributes made a b, files-append of_ignore made a b)

  -- as often as in the calls that come first
  pub asked-front : (calls done rest : List DelegateCall) → calls ≡ done ++ rest → number_of_all_files_asked_by_calls made done ≤ number_of_all_files_asked_by_calls made calls
  asked-front calls done rest split = omega (arith, ap (number_of_all_files_asked_by_calls made) split, asked-append done rest)

  pub asked-directory : (d : List ℕ) → number_of_worktree_places (places_of_readings (readings_of_directory made d)) ≡ number_of_all_files_asked_by_calls made (push_directory d ∷ [])
  asked-directory d = omega (arith, of-kinds (readings_of_directory made d))

  pub asked-pops : (n : ℕ) → number_of_all_files_asked_by_calls made (replicate n pop_directory) ≡ 0
  asked-pops zero = refl
  asked-pops (suc n) = asked-pops n

-- for ignore rules alone a directory is asked at most one file
pub read-once : (made : StackSetup) (d : List ℕ) → has_attributes made ≡ false → number_of_worktree_places (places_of_readings (readings_of_directory made d)) ≤ 1
read-once made d alone = go made.attributes made.ignore alone
  where
    placed : (source : Source) (whole path : List ℕ) (id : Option (List ℕ)) → number_of_worktree_places (ignore_places_by_source source whole path id) ≤ 1
    placed IdMapping whole path None = omega arith
    placed IdMapping whole path (Some id) = omega arith
    placed WorktreeThenIdMappingIfNotSkipped whole path None = omega arith
    placed WorktreeThenIdMappingIfNotSkipped whole path (Some id) = omega arith

    go : (attributes : Option AttributesSetup) (ignore : Option Setup) → is_some attributes ≡ false → number_of_worktree_places (places_of_readings (attribute_readings_of_directory made attributes d ++ ignore_readings_of_directory made ignore d)) ≤ 1
    go (Some setup) ignore e = absurd (cc e)
    go None None e = omega arith
    go None (Some setup) e =
        let places : List RulesPlace = ignore_places_of_directory made setup d in
        omega (arith, placed setup.source (root_joined_with_relative made.root (path_joined_with_slash d setup.file_name)) (path_joined_with_slash d setup.file_name) (blob_id_mapped_to_path made.mappings (path_joined_with_slash d setup.file_name)), files-two places [])

-- ---- what a directory asks, pushed as a step

module _ {W F : Type 0} (w : WorktreeOf W) (before mid now : WorktreeStoreAndStack W F) where
  -- the root, which was not pushed
  pub root-asks : mid.stack ≡ record before.stack { current = deepest_components_or_root before.stack.at } → is_some before.stack.at ≡ false → mid.worktree ≡ before.worktree
      → BoundsWorktreeReads w mid now (push_directory (slash_joined_components mid.stack.current) ∷ []) 0 1
      → BoundsWorktreeReads w before now (delegate_calls_to_push_root before.stack.at) 0 (length (delegate_calls_to_push_root before.stack.at))
  root-asks left none same asks =
      let one : w.reads now.worktree ≤ w.reads before.worktree + number_of_all_files_asked_by_calls (setup_of_stack before.stack) (push_directory (slash_joined_components (deepest_components_or_root before.stack.at)) ∷ []) =
      subst (λ (x : StackModel). w.reads now.worktree ≤ w.reads before.worktree + number_of_all_files_asked_by_calls (setup_of_stack x) (push_directory (slash_joined_components x.current) ∷ [])) left
      (subst (λ (x : W). w.reads now.worktree ≤ w.reads x + number_of_all_files_asked_by_calls (setup_of_stack mid.stack) (push_directory (slash_joined_components mid.stack.current) ∷ [])) same asks.asked) in
      record {
        asked = subst (λ (calls : List DelegateCall). w.reads now.worktree ≤ w.reads before.worktree + number_of_all_files_asked_by_calls (setup_of_stack before.stack) calls) (root before.stack.at none) one;
        reads = λ alone.
            let once : 1 ≡ length (delegate_calls_to_push_root before.stack.at) = ap length (root before.stack.at none) in
            omega (arith, ap w.reads same, once, asks.reads (ap (λ (x : StackModel). has_attributes (setup_of_stack x)) left ∙ alone));
      }
    where
      root : (at : Option (List (List ℕ))) → is_some at ≡ false → push_directory (slash_joined_components (deepest_components_or_root at)) ∷ [] ≡ delegate_calls_to_push_root at
      root None e = refl
      root (Some names) e = absurd (cc e)

  -- a directory further down
  pub step-asks : (name : List ℕ) → mid.stack ≡ stack_after_pushing_component before.stack name → mid.worktree ≡ before.worktree → BoundsWorktreeReads w mid now (push_directory (slash_joined_components mid.stack.current) ∷ []) 0 1
      → BoundsWorktreeReads w before now (delegate_calls_of_component (deepest_components_or_root before.stack.at) name false) 0 1
  step-asks name is same asks =
      let one : w.reads now.worktree ≤ w.reads before.worktree + number_of_all_files_asked_by_calls (setup_of_stack before.stack) (push_directory (slash_joined_components (deepest_components_or_root before.stack.at ++ name ∷ [])) ∷ []) =
      subst (λ (x : StackModel). w.reads now.worktree ≤ w.reads before.worktree + number_of_all_files_asked_by_calls (setup_of_stack x) (push_directory (slash_joined_components x.current) ∷ [])) is
      (subst (λ (x : W). w.reads now.worktree ≤ w.reads x + number_of_all_files_asked_by_calls (setup_of_stack mid.stack) (push_directory (slash_joined_components mid.stack.current) ∷ [])) same asks.asked) in
      record {
        asked = one;
        reads = λ alone. omega (arith, ap w.reads same, asks.reads (ap (λ (x : StackModel). has_attributes (setup_of_stack x)) is ∙ alone));
      }

-- one is counted for a refusal
pub one-refused : {T E : Type 0} (r : Result T E) (e : E) → IsErrAnd r (λ x. x ≡ e) → one_if_refused r ≡ 1
one-refused (Ok v) e said = absurd said
one-refused (Err x) e said = refl

-- ---- steps one behind another

-- nothing is asked
pub asks-none : {W F : Type 0} (w : WorktreeOf W) (m : WorktreeStoreAndStack W F) (n : ℕ) → BoundsWorktreeReads w m m [] n n
asks-none w m n = record { asked = omega arith; reads = λ alone. omega arith }

-- calls that come first, and then nothing is asked
pub asks-front : {W F : Type 0} (w : WorktreeOf W) (before mid now : WorktreeStoreAndStack W F) (done rest calls : List DelegateCall) → calls ≡ done ++ rest → mid.worktree ≡ now.worktree
    → (least most enough : ℕ) → most ≤ enough → BoundsWorktreeReads w before mid done least most → BoundsWorktreeReads w before now calls least enough
asks-front w before mid now done rest calls split same least most enough up asks =
    record {
      asked = omega (arith, ap w.reads same, asks.asked, asked-front (setup_of_stack before.stack) calls done rest split);
      reads = λ alone. omega (arith, ap w.reads same, asks.reads alone, up);
    }

-- calls behind others, which more may follow
pub asks-then : {W F : Type 0} (w : WorktreeOf W) (f : FindOf F) (before mid now : WorktreeStoreAndStack W F) (first next calls more : List DelegateCall) → calls ≡ (first ++ next) ++ more
    → (least middle further enough : ℕ) → middle + further ≤ enough → PushKeepsSetupAndTree {T = Unit {0}} w f before mid (Ok tt)
    → BoundsWorktreeReads w before mid first least middle → BoundsWorktreeReads w mid now next 0 further → BoundsWorktreeReads w before now calls least enough
asks-then w f before mid now first next calls more split least middle further enough up keeps one two =
    record {
      asked = omega (
        arith,
        one.asked,
        two.asked,
        ap (λ (m : StackSetup). number_of_all_files_asked_by_calls m next) keeps.made,
        asked-append (setup_of_stack before.stack) first next,
        asked-front (setup_of_stack before.stack) calls (first ++ next) more split,
      );
      reads = λ alone. omega (arith, one.reads alone, two.reads (ap has_attributes keeps.made ∙ alone), up);
    }

-- the root, directories that are popped, and what is left of a path
pub asks-whole : {W F : Type 0} (w : WorktreeOf W) (f : FindOf F) (before rooted popped now : WorktreeStoreAndStack W F) (first : List DelegateCall) (n : ℕ) (below calls : List DelegateCall) → calls ≡ first ++ replicate n pop_directory ++ below
    → popped.worktree ≡ rooted.worktree → PushKeepsSetupAndTree {T = Unit {0}} w f before popped (Ok tt)
    → (one left further least most : ℕ) → least + one + further ≤ most + left
    → BoundsWorktreeReads w before rooted first 0 one → BoundsWorktreeReads w popped now below left further → BoundsWorktreeReads w before now calls least most
asks-whole w f before rooted popped now first n below calls split same keeps one left further least most fits root rest =
    let made : StackSetup = setup_of_stack before.stack in
    record {
      asked = omega (
        arith,
        root.asked,
        rest.asked,
        ap w.reads same,
        ap (λ (m : StackSetup). number_of_all_files_asked_by_calls m below) keeps.made,
        ap (number_of_all_files_asked_by_calls made) split,
        asked-append made (first ++ replicate n pop_directory) below,
        asked-append made first (replicate n pop_directory),
        asked-pops made n,
      );
      reads = λ alone. omega (arith, root.reads alone, rest.reads (ap has_attributes keeps.made ∙ alone), ap w.reads same, fits);
    }

-- the root was refused
pub asks-cut : {W F T : Type 0} (w : WorktreeOf W) (before now : WorktreeStoreAndStack W F) (more calls : List DelegateCall) (r : Result T AtPathError) (parts : List (List ℕ)) → calls ≡ delegate_calls_to_push_root before.stack.at ++ more
    → before.stack.at ≡ None → one_if_refused r ≡ 1 → BoundsWorktreeReads w before now (delegate_calls_to_push_root before.stack.at) 0 (length (delegate_calls_to_push_root before.stack.at))
    → BoundsWorktreeReads w before now calls (length (pushed_directories (directories_kept_by_lookup before.stack.at parts))) (length (pushed_directories now.stack.at) + one_if_refused r)
asks-cut w before now more calls r parts split none one asks =
    let root : length (delegate_calls_to_push_root before.stack.at) ≡ 1 = ap (λ (at : Option (List (List ℕ))). length (delegate_calls_to_push_root at)) none in
    let empty : length (pushed_directories (directories_kept_by_lookup before.stack.at parts)) ≡ 0 = ap (λ (at : Option (List (List ℕ))). length (pushed_directories (directories_kept_by_lookup at parts))) none in
    record {
      asked = omega (arith, asks.asked, asked-front (setup_of_stack before.stack) calls (delegate_calls_to_push_root before.stack.at) more split);
      reads = λ alone. omega (
        arith,
        asks.reads alone,
        root,
        empty,
        one,
      );
    }

-- a lookup that was counted first
pub asked-as : {W : Type 0} (w : WorktreeOf W) (w0 w1 : W) (names : List (List ℕ)) (old mid : StackModel) → mid ≡ with_lookup_counted old → w.reads w1 ≤ w.reads w0 + number_of_all_files_asked_by_calls (setup_of_stack mid) (delegate_calls_of_lookup mid.at names)
    → w.reads w1 ≤ w.reads w0 + number_of_all_files_asked_by_calls (setup_of_stack old) (delegate_calls_of_lookup old.at names)
asked-as w w0 w1 names old mid is asked = subst (λ (s : StackModel). w.reads w1 ≤ w.reads w0 + number_of_all_files_asked_by_calls (setup_of_stack s) (delegate_calls_of_lookup s.at names)) is asked
