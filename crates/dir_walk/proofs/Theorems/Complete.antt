-- A tree that has a report is walked, unless something fails, is raised, or wants memory.
use Rattle.std.proofs.Common.{◌≡◌, ◌⊎◌, inl, inr, ℕ, ◌<◌, List, [], ◌∷◌, Bool, true, false, ◌||◌, Option, Some, None, Err, refl, sym, ap, subst, ◌∙◌, arith}
use Rattle.std.specs.Prelude.{IsSomeAnd, is_some, nat_lt}
use Rattle.std.specs.List.{list_any}
use Rattle.std.specs.Str.{bytes_eq}
use Rattle.std.specs.Cmp.Lexicographic.{same_text}
use borrow.Author.Tests.{lt-ltb}
use Rattle.gitbase_core.specs.Path.{components}
use Rattle.worktree_fs.specs.Tree.{Names}
use Rattle.worktree_fs.specs.Causes.{CountNotIncreased, CountIncreasedOrSaturated}
use Rattle.worktree_fs.specs.declared.answers.ListError.{ListError}
use Rattle.worktree_fs.specs.declared.answers.ListError.TheVariants as lists
use Rattle.worktree_stack.specs.declared.error.AtPathError.{AtPathError}
use Rattle.worktree_stack.specs.declared.error.AtPathError.TheVariants as inner
use Rattle.worktree_stack.specs.declared.error.RulesWhy.TheVariants as whys
use Rattle.worktree_stack.specs.declared.error.BlobWhy.TheVariants as blob_whys
use Rattle.worktree_stack.specs.Refused as lookups
use Rattle.worktree_stack.specs.Setup.{StackSetup}
use Rattle.worktree_stack.specs.Reading.{TreeAndObjects, RulesRefusal, of_file, of_blob, rules_texts_of_directory}
use Rattle.dir_classify.specs.declared.error.Error.{Error}
use Rattle.dir_classify.specs.declared.error.Error.TheVariants as errors
use Rattle.dir_classify.specs.declared.error.MetadataWhy.TheVariants as metadata
use Rattle.dir_classify.specs.declared.error.ReadWhy.TheVariants as reads
use Rattle.dir_classify.specs.Evidence.{PathEvidence}
use Rattle.dir_classify.specs.Layers.{WalkSetting, evidence_from_setting_and_sources, is_some_rules_file_unread}
use Rattle.dir_classify.specs.Refused.{HoldsIfFaultError}
use Rattle.dir_classify.specs.Rooted.{end_of_way_to_root}
use Rattle.dir_walk.specs.Kept.{HoldsIfInterrupted}
use Rattle.dir_walk.specs.Refused.{IsIndexedDirectoryUnlistable, IsLookupErrorOfAskedPath, IsTooDeepToEnter, is_text_in_list, is_entered_or_broken}
use Rattle.dir_walk.specs.declared.report.Report.{Report}
use Rattle.dir_walk.specs.Report.{count_components, is_walk_result_refused, report}
use Rattle.dir_walk.specs.Root.{look_at_traversal_root, rooted, find_traversal_root, walk_result_from_traversal_root}
use Rattle.dir_walk.specs.Rooting.{IsErrorOfRootResult}
use Rattle.dir_walk.specs.Walked.{WalkResult}
use Rattle.dir_walk.specs.WalkRefused.{IsEnteredRootUnlistable, IsRulesErrorOnWayToRoot, IsErrorFromRootBySources, IsWholeWalkErrorBySources, walk_result_or_empty}
use Rattle.dir_walk.proofs.Order.Counts.{or-right}
use Rattle.dir_walk.proofs.Order.Lists.{same_some}
use Rattle.dir_walk.proofs.Places.NormalRoots.{root-shape}
use Rattle.dir_walk.proofs.Refused.Refusals.{broken-among as broken-at}
use Rattle.dir_walk.proofs.Gives.Reported.{report-of}
use Rattle.dir_walk.proofs.Roots.Starting.{walked-way}
use Rattle.dir_walk.proofs.Refused.Unread.{told-so, unread-ancestor}
use Rattle.dir_walk.proofs.Walked.WalkedAt.{same_root, walk-split}

-- ---- what makes a walk refused

pub not-failed : {A : Type 0} → A ⊎ ⊥ → A
not-failed (inl a) = a
not-failed (inr e) = absurd e

any-implies : {X : Type 0} (p q : X → Bool) (xs : List X) → ((x : X) → p x ≡ true → q x ≡ true) → list_any p xs ≡ true → list_any q xs ≡ true
any-implies p q [] implies e = absurd (cc e)
any-implies p q (x ∷ xs) implies e = go (any-implies p q xs implies) (p x) refl e
  where
    go : (list_any p xs ≡ true → list_any q xs ≡ true) → (b : Bool) → p x ≡ b → (b || list_any p xs) ≡ true → (q x || list_any q xs) ≡ true
    go later true is f = ap (λ b. b || list_any q xs) (implies x is)
    go later false is f = or-right (q x) (list_any q xs) (later f)

deep_or_broken : ℕ → WalkResult → Bool
deep_or_broken limit w = list_any (λ d. nat_lt limit (count_components d)) w.entered || list_any (λ d. true) w.broken

entered-refused : (limit : ℕ) (ev : PathEvidence) (w : WalkResult) → deep_or_broken limit w ≡ true → is_walk_result_refused limit ev w ≡ true
unfolding deep_or_broken
entered-refused limit ev w e = ap (λ b. b || list_any ev.is_unread w.asked) e

-- what is among the broken paths, or is to be entered and lies too deep, makes a walk refused
broken-among : (limit : ℕ) (w : WalkResult) (path : List ℕ) → is_text_in_list path w.broken ≡ true → deep_or_broken limit w ≡ true
unfolding deep_or_broken
broken-among limit w path e = or-right (list_any (λ d. nat_lt limit (count_components d)) w.entered) (list_any (λ d. true) w.broken) (any-implies (bytes_eq path) (λ d. true) w.broken (λ d is. refl) e)

deep-among : (limit : ℕ) (w : WalkResult) (path : List ℕ) → limit < count_components path → is_entered_or_broken path w ≡ true → deep_or_broken limit w ≡ true
unfolding deep_or_broken
deep-among limit w path deep e = go (is_text_in_list path w.entered) refl e
  where
    is_deep : nat_lt limit (count_components path) ≡ true
    is_deep = lt-ltb limit (count_components path) deep

    go : (b : Bool) → is_text_in_list path w.entered ≡ b → (b || is_text_in_list path w.broken) ≡ true → deep_or_broken limit w ≡ true
    go true is f =
        ap (λ b. b || list_any (λ d. true) w.broken)
        (any-implies (bytes_eq path) (λ d. nat_lt limit (count_components d)) w.entered (λ d same. ap (λ (q : List ℕ). nat_lt limit (count_components q)) (sym (same_text path d (sym same))) ∙ is_deep) is)
    go false is f = broken-among limit w path f

deep-refused : (limit : ℕ) (ev : PathEvidence) (w : WalkResult) (path : List ℕ) → limit < count_components path → is_entered_or_broken path w ≡ true → is_walk_result_refused limit ev w ≡ true
deep-refused limit ev w path deep e = entered-refused limit ev w (deep-among limit w path deep e)

unread-refused : (t : Names) (ev : PathEvidence) (root : List ℕ) (limit : ℕ) (w : WalkResult) (why : ListError) (path : List ℕ) → IsIndexedDirectoryUnlistable t ev root w ⊥ why path → is_walk_result_refused limit ev w ≡ true
unread-refused t ev root limit w why path h = entered-refused limit ev w (broken-among limit w h.below (not-failed h.broken))

-- and so does what is asked about and cannot be read
asked-refused : (limit : ℕ) (ev : PathEvidence) (w : WalkResult) (path : List ℕ) → is_text_in_list path w.asked ≡ true → ev.is_unread path ≡ true → is_walk_result_refused limit ev w ≡ true
unfolding deep_or_broken
asked-refused limit ev w path e unread =
    or-right (deep_or_broken limit w) (list_any ev.is_unread w.asked) (any-implies (bytes_eq path) ev.is_unread w.asked (λ d same. ap ev.is_unread (sym (same_text path d (sym same))) ∙ unread) e)

unread-is : (given : WalkSetting) (made : Option StackSetup) (s : TreeAndObjects) (path : List ℕ) → (evidence_from_setting_and_sources given made s).is_unread path ≡ is_some_rules_file_unread made s path
unfolding evidence_from_setting_and_sources
unread-is given made s path = refl

module _ (s : TreeAndObjects) (rules : StackSetup) (given : WalkSetting) (limit before now store_before store_now : ℕ) (w : WalkResult) (quiet : CountNotIncreased before now) (store_quiet : CountNotIncreased store_before store_now) where
  ev : PathEvidence
  ev = evidence_from_setting_and_sources given (Some rules) s

  unread : (path : List ℕ) (Holds : List ℕ → Type 0) (refusal : RulesRefusal) → is_text_in_list path w.asked ≡ true → lookups.HoldsOfSomeAncestor (components path) Holds
      → ((d : List ℕ) → Holds d → rules_texts_of_directory rules s d ≡ Err refusal) → is_walk_result_refused limit ev w ≡ true
  unfolding ev
  unread path Holds refusal asked h is = asked-refused limit ev w path asked (unread-is given (Some rules) s path ∙ unread-ancestor s rules path Holds refusal h is)

  access-refused : (e : AtPathError) → lookups.HoldsOnFaultError (CountIncreasedOrSaturated before now) (CountIncreasedOrSaturated store_before store_now) e → IsLookupErrorOfAskedPath s rules w ⊥ e → is_walk_result_refused limit (evidence_from_setting_and_sources given (Some rules) s) w ≡ true
  unfolding ev
  access-refused inner.NotNormal cause h = absurd h.access.on_way
  access-refused (inner.Component why) cause h = absurd h.access.on_way
  access-refused (inner.Collision path) cause h = absurd h.access.on_way
  access-refused (inner.Directory path why) cause h = absurd h.access.on_way
  access-refused (inner.RulesFile path whys.Link) cause h = unread h.path _ (of_file path whys.Link) (not-failed h.asked) h.refused (λ d r. r.why_is.1 s (told-so s))
  access-refused (inner.RulesFile path whys.LinkLimit) cause h = unread h.path _ (of_file path whys.LinkLimit) (not-failed h.asked) h.refused (λ d r. r.why_is s (told-so s))
  access-refused (inner.RulesFile path whys.Special) cause h = unread h.path _ (of_file path whys.Special) (not-failed h.asked) h.refused (λ d r. r.why_is s (told-so s))
  access-refused (inner.RulesFile path whys.Fault) cause h = absurd (omega (arith, cause, quiet))
  access-refused (inner.Blob id blob_whys.Missing) cause h = unread h.path _ (of_blob id blob_whys.Missing) (not-failed h.asked) h.refused (λ d r. r.why_is s (told-so s))
  access-refused (inner.Blob id blob_whys.NotABlob) cause h = unread h.path _ (of_blob id blob_whys.NotABlob) (not-failed h.asked) h.refused (λ d r. r.why_is s (told-so s))
  access-refused (inner.Blob id blob_whys.Fault) cause h = absurd (omega (arith, cause, store_quiet))
  access-refused inner.OutOfMemory cause h = absurd (h.access.some_memory refl)

no-access : (s : TreeAndObjects) (made : Option StackSetup) (given : WalkSetting) (limit before now store_before store_now : ℕ) (w : WalkResult) (e : AtPathError) → CountNotIncreased before now → CountNotIncreased store_before store_now
    → lookups.HoldsOnFaultError (CountIncreasedOrSaturated before now) (CountIncreasedOrSaturated store_before store_now) e → IsSomeAnd made (λ rules. IsLookupErrorOfAskedPath s rules w ⊥ e) → is_walk_result_refused limit (evidence_from_setting_and_sources given made s) w ≡ true
no-access s None given limit before now store_before store_now w e quiet store_quiet cause h = absurd h
no-access s (Some rules) given limit before now store_before store_now w e quiet store_quiet cause h = access-refused s rules given limit before now store_before store_now w quiet store_quiet e cause h

-- ---- what is walked from a traversal root

module _ (s : TreeAndObjects) (made : Option StackSetup) (given : WalkSetting) (explicit : Option (List ℕ)) (limit before now store_before store_now raised_before raised_now : ℕ) where
  abbrev all : PathEvidence
  all = evidence_from_setting_and_sources given made s

  -- where the report is defined, nothing of the walk is refused
  record IsDefined : Type 0 where
    root : List ℕ
    w : WalkResult
    rooted_is : find_traversal_root given s.tree explicit ≡ rooted root
    walked_is : walk_result_from_traversal_root given made s root ≡ Some w
    read : (end_of_way_to_root given made s root).is_unread ≡ false
    whole : is_walk_result_refused limit all w ≡ false

  or-none : (a b : Bool) → (a || b) ≡ false → (a ≡ false) × (b ≡ false)
  or-none true b f = absurd (cc f)
  or-none false b f = (refl, f)

  defined : (r : Option Report) → report given made s explicit limit ≡ r → is_some r ≡ true → IsDefined
  defined None is e = absurd (cc e)
  defined (Some r) is e =
      let of = report-of given made s explicit limit r is in
      let at = walk-split given made s explicit of.walk of.walk_is in
      let parts = or-none of.walk.is_way_unread (is_walk_result_refused limit all of.walk.gives) of.defined in
      record { root = of.walk.root; w = of.walk.gives; rooted_is = at.rooted_is; walked_is = at.walked_is; read = sym at.unread_is ∙ parts.0; whole = parts.1 }

  module _ (quiet : CountNotIncreased before now) (store_quiet : CountNotIncreased store_before store_now) (calm : CountNotIncreased raised_before raised_now) (d : IsDefined) where
    refused : {X : Type 0} → is_walk_result_refused limit all d.w ≡ true → X
    refused e = absurd (let f : false ≡ true = sym d.whole ∙ e in cc f)

    -- what is refused of the walk is refused of what is walked
    of-walk : (R : WalkResult → Type 0) → R (walk_result_or_empty (walk_result_from_traversal_root given made s d.root)) → R d.w
    of-walk R h = subst (λ (v : Option WalkResult). R (walk_result_or_empty v)) d.walked_is h

    broken : {X : Type 0} (why : ListError) (path : List ℕ) → IsEnteredRootUnlistable given made s d.root why path → X
    broken why path h =
        refused (entered-refused limit all d.w (broken-among limit d.w d.root
        (ap (λ (w : WalkResult). is_text_in_list d.root w.broken) (same_some (sym d.walked_is ∙ walked-way given made s d.root (root-shape given s.tree explicit d.root d.rooted_is) h.entered))
        ∙ broken-at given.options all d.root (end_of_way_to_root given made s d.root).class (look_at_traversal_root given s.tree d.root) why h.node)))

    start-memory : (e : Error) → HoldsIfFaultError (CountIncreasedOrSaturated before now) (CountIncreasedOrSaturated store_before store_now) e → HoldsIfInterrupted (CountIncreasedOrSaturated raised_before raised_now) e → IsErrorFromRootBySources given made s d.root limit (CountIncreasedOrSaturated store_before store_now) e → e ≡ errors.OutOfMemory
    start-memory errors.Interrupted cause raised h = absurd (omega (arith, raised, calm))
    start-memory (errors.WorktreeRootIsFile path) cause raised h = absurd (let f = sym h.not_walked ∙ d.walked_is in cc f)
    start-memory (errors.NormalizeRoot path) cause raised h = absurd h
    start-memory (errors.SymlinkInRoot path top index) cause raised h = absurd h
    start-memory (errors.SymlinkMetadata path why) cause raised h = absurd h
    start-memory (errors.ExcludesAccess e) cause raised h = access made refl h
      where
        unread : {X : Type 0} → ((end_of_way_to_root given made s d.root).is_unread ≡ true) ⊎ CountIncreasedOrSaturated store_before store_now → X
        unread (inl is) = absurd (let f : false ≡ true = sym d.read ∙ is in cc f)
        unread (inr more) = absurd (omega (arith, more, store_quiet))

        access : {X : Type 0} (m : Option StackSetup) → made ≡ m → IsSomeAnd m (λ rules. IsRulesErrorOnWayToRoot given made s d.root rules (CountIncreasedOrSaturated store_before store_now) e ⊎ IsLookupErrorOfAskedPath s rules (walk_result_or_empty (walk_result_from_traversal_root given made s d.root)) ⊥ e) → X
        access None is k = absurd k
        access (Some rules) is (inl k) = unread k.unread
        access (Some rules) is (inr k) =
            refused (ap (λ (m : Option StackSetup). is_walk_result_refused limit (evidence_from_setting_and_sources given m s) d.w) is ∙ access-refused s rules given limit before now store_before store_now d.w quiet store_quiet e cause (of-walk (λ v. IsLookupErrorOfAskedPath s rules v ⊥ e) k))
    start-memory (errors.TooDeep path) cause raised h =
        let k = of-walk (λ v. IsTooDeepToEnter given.root limit v ⊥ path) h in refused (deep-refused limit all d.w k.below k.deep (not-failed k.to_enter))
    start-memory (errors.ReadDir path reads.Absent) cause raised (inl h) = broken lists.Absent path h
    start-memory (errors.ReadDir path reads.NotADirectory) cause raised (inl h) = broken lists.NotADirectory path h
    start-memory (errors.ReadDir path reads.Absent) cause raised (inr h) = refused (unread-refused s.tree all given.root limit d.w lists.Absent path (of-walk (λ v. IsIndexedDirectoryUnlistable s.tree all given.root v ⊥ lists.Absent path) h))
    start-memory (errors.ReadDir path reads.NotADirectory) cause raised (inr h) = refused (unread-refused s.tree all given.root limit d.w lists.NotADirectory path (of-walk (λ v. IsIndexedDirectoryUnlistable s.tree all given.root v ⊥ lists.NotADirectory path) h))
    start-memory (errors.ReadDir path reads.Fault) cause raised h = absurd (omega (arith, cause, quiet))
    start-memory (errors.DirEntry path) cause raised h = absurd (omega (arith, cause, quiet))
    start-memory errors.OutOfMemory cause raised h = refl

    start-of : (root : List ℕ) (e : Error) → find_traversal_root given s.tree explicit ≡ rooted root → HoldsIfFaultError (CountIncreasedOrSaturated before now) (CountIncreasedOrSaturated store_before store_now) e → HoldsIfInterrupted (CountIncreasedOrSaturated raised_before raised_now) e → IsErrorFromRootBySources given made s root limit (CountIncreasedOrSaturated store_before store_now) e → e ≡ errors.OutOfMemory
    start-of root e is cause raised h = start-memory e cause raised (subst (λ (p : List ℕ). IsErrorFromRootBySources given made s p limit (CountIncreasedOrSaturated store_before store_now) e) (same_root (sym is ∙ d.rooted_is)) h)

    -- there is a traversal root
    no-end : (e : Error) → HoldsIfFaultError (CountIncreasedOrSaturated before now) (CountIncreasedOrSaturated store_before store_now) e → IsErrorOfRootResult (find_traversal_root given s.tree explicit) e → e ≡ errors.OutOfMemory
    no-end errors.Interrupted cause h = absurd h
    no-end (errors.WorktreeRootIsFile path) cause h = absurd h
    no-end (errors.NormalizeRoot path) cause h = absurd (let f = sym h ∙ d.rooted_is in cc f)
    no-end (errors.SymlinkInRoot path top index) cause h = absurd (let f = sym h ∙ d.rooted_is in cc f)
    no-end (errors.SymlinkMetadata path metadata.Absent) cause h = absurd (let f = sym h ∙ d.rooted_is in cc f)
    no-end (errors.SymlinkMetadata path metadata.Fault) cause h = absurd (omega (arith, cause, quiet))
    no-end (errors.ExcludesAccess e) cause h = absurd h
    no-end (errors.TooDeep path) cause h = absurd h
    no-end (errors.ReadDir path why) cause h = absurd h
    no-end (errors.DirEntry path) cause h = absurd h
    no-end errors.OutOfMemory cause h = refl

  -- where nothing failed and nothing was raised, want of memory alone is left
  pub only-memory : (e : Error) → HoldsIfFaultError (CountIncreasedOrSaturated before now) (CountIncreasedOrSaturated store_before store_now) e → HoldsIfInterrupted (CountIncreasedOrSaturated raised_before raised_now) e → IsWholeWalkErrorBySources given made s explicit limit (CountIncreasedOrSaturated store_before store_now) e
      → CountNotIncreased before now → CountNotIncreased store_before store_now → CountNotIncreased raised_before raised_now → is_some (report given made s explicit limit) ≡ true → e ≡ errors.OutOfMemory
  only-memory e cause raised (inl h) quiet store_quiet calm is = no-end quiet store_quiet calm (defined (report given made s explicit limit) refl is) e cause h
  only-memory e cause raised (inr h) quiet store_quiet calm is = start-of quiet store_quiet calm (defined (report given made s explicit limit) refl is) h.0 e h.1 cause raised h.2
