-- Refusals on the way up: from a name to its directory, and from a directory to its name.
use Rattle.std.proofs.Common.{◌≡◌, ◌⊎◌, inl, inr, ℕ, ◌<◌, ◌≤◌, ◌+◌, List, Bool, true, false, ◌||◌, Option, Some, None, Err, refl, sym, ap, subst, ◌∙◌}
use borrow.Author.Tests.{ltb-true}
use Rattle.std.specs.Prelude.{IsSomeAnd, Result, IfErr, nat_lt}
use Rattle.std.proofs.lemmas.Bool.{ltb-false}
use Rattle.std.proofs.lemmas.Result.{IfErr-weaker}
use Rattle.std.specs.Str.{bytes_eq}
use Rattle.std.proofs.lemmas.Cmp.{nat_list_eq_equiv}
use Rattle.gitbase_core.specs.Objects.{ObjectsById}
use Rattle.worktree_fs.specs.declared.answers.ListError.{ListError}
use Rattle.worktree_fs.specs.declared.answers.ListError.TheVariants as lists
use Rattle.worktree_fs.specs.Answers.{list_of}
use Rattle.worktree_fs.specs.Causes.{CountIncreasedOrSaturated, CountNotIncreased, saturating_increment}
use Rattle.gitbase_core.specs.Path.{components, is_empty}
use Rattle.worktree_fs.specs.Paths.{is_relative_without_dots, root_joined_with_relative, slash_joined_components}
use Rattle.worktree_fs.specs.Tree.{LookupResult, look, found, absent, too_many_links, file, link, directory, other}
use Rattle.worktree_stack.specs.declared.error.AtPathError.{AtPathError}
use Rattle.worktree_stack.specs.Setup.{StackSetup}
use Rattle.worktree_stack.specs.Reading.{TreeAndObjects}
use Rattle.dir_classify.specs.declared.classify.Outcome.{Outcome as Class}
use Rattle.dir_classify.specs.declared.entry.Kind.TheVariants.{Directory}
use Rattle.dir_classify.specs.declared.error.Error.{Error}
use Rattle.dir_classify.specs.declared.error.Error.TheVariants as errors
use Rattle.dir_classify.specs.declared.error.ReadWhy.TheVariants as reads
use Rattle.dir_classify.specs.Chosen.{WalkOptions}
use Rattle.dir_classify.specs.Evidence.{PathEvidence}
use Rattle.dir_classify.specs.Layers.{WalkSetting, evidence_from_setting_and_sources}
use Rattle.dir_classify.specs.Refused as classes
use Rattle.dir_walk.specs.declared.handed.Stop.{Stop}
use Rattle.dir_walk.specs.declared.handed.Stop.TheVariants.{Refused, Broken}
use Rattle.dir_walk.specs.Given.{HoldsOfErrorIfRefused}
use Rattle.dir_walk.specs.Kept.{RefusesOnlyOutOfMemory}
use Rattle.dir_walk.specs.Refused.{is_text_in_list, is_entered_or_broken, IsIndexedDirectoryUnlistable, IsLookupErrorWithinLimit, IsLookupErrorOfAskedPath, IsLookupErrorByTree, IsWalkErrorWithinLimit, IsWalkErrorFromRoot, IsWalkErrorByTree, IsTooDeepOrInterruptedError, IsErrorOfOpeningDirectory, IsWalkErrorByWalkResult, IsErrorOfEnteredDirectory}
use Rattle.dir_walk.specs.Report.{count_components}
use Rattle.dir_walk.specs.Told.{walk_result_of_directory_over_sources, look_at_entered_directory, look_at_name}
use Rattle.dir_walk.specs.Walked.{WalkResult, walk_result_of_entered_path, add_asked_path_if}
use Rattle.dir_walk.proofs.Order.Counts.{or-right}

-- ---- from one result to another that has its paths

pub record HasPaths (v w : WalkResult) : Type 0 where
  pub entered : (path : List ℕ) → is_text_in_list path v.entered ≡ true → is_text_in_list path w.entered ≡ true
  pub broken : (path : List ℕ) → is_text_in_list path v.broken ≡ true → is_text_in_list path w.broken ≡ true
  pub asked : (path : List ℕ) → is_text_in_list path v.asked ≡ true → is_text_in_list path w.asked ≡ true

enter_within : (v w : WalkResult) (path : List ℕ) → HasPaths v w → is_entered_or_broken path v ≡ true → is_entered_or_broken path w ≡ true
enter_within v w path within h = go (is_text_in_list path v.entered) refl h
  where
    go : (b : Bool) → is_text_in_list path v.entered ≡ b → (b || is_text_in_list path v.broken) ≡ true → is_entered_or_broken path w ≡ true
    go true e f = ap (λ b. b || is_text_in_list path w.broken) (within.entered path e)
    go false e f = or-right (is_text_in_list path w.entered) (is_text_in_list path w.broken) (within.broken path f)

-- what was shown of one holds of the other, unless the worktree failed
or_failed : {A B P Q : Type 0} → (A → B) ⊎ Q → (P → Q) → A ⊎ P → B ⊎ Q
or_failed (inl f) g (inl a) = inl (f a)
or_failed (inr q) g (inl a) = inr q
or_failed f g (inr p) = inr (g p)

module _ (v w : WalkResult) (P Q : Type 0) (within : HasPaths v w ⊎ Q) (f : P → Q) where
  enters-or : (path : List ℕ) → (is_entered_or_broken path v ≡ true) ⊎ P → (is_entered_or_broken path w ≡ true) ⊎ Q
  enters-or path h = go within
    where
      go : HasPaths v w ⊎ Q → (is_entered_or_broken path w ≡ true) ⊎ Q
      go (inl is) = or_failed (inl (enter_within v w path is)) f h
      go (inr q) = inr q

  broken-or : (path : List ℕ) → (is_text_in_list path v.broken ≡ true) ⊎ P → (is_text_in_list path w.broken ≡ true) ⊎ Q
  broken-or path h = go within
    where
      go : HasPaths v w ⊎ Q → (is_text_in_list path w.broken ≡ true) ⊎ Q
      go (inl is) = or_failed (inl (is.broken path)) f h
      go (inr q) = inr q

  asked-or : (path : List ℕ) → (is_text_in_list path v.asked ≡ true) ⊎ P → (is_text_in_list path w.asked ≡ true) ⊎ Q
  asked-or path h = go within
    where
      go : HasPaths v w ⊎ Q → (is_text_in_list path w.asked ≡ true) ⊎ Q
      go (inl is) = or_failed (inl (is.asked path)) f h
      go (inr q) = inr q

  access-within : (s : TreeAndObjects) (made : Option StackSetup) (e : AtPathError) → IsSomeAnd made (λ rules. IsLookupErrorOfAskedPath s rules v P e) → IsSomeAnd made (λ rules. IsLookupErrorOfAskedPath s rules w Q e)
  access-within s None e h = absurd h
  access-within s (Some rules) e h = record { path = h.path; normal = h.normal; asked = asked-or h.path h.asked; access = h.access; refused = h.refused }

  module _ (given : WalkSetting) (made : Option StackSetup) (s : TreeAndObjects) (limit : ℕ) where
    broken-within : (why : ListError) (path : List ℕ) → IsIndexedDirectoryUnlistable s.tree (evidence_from_setting_and_sources given made s) given.root v P why path → IsIndexedDirectoryUnlistable s.tree (evidence_from_setting_and_sources given made s) given.root w Q why path
    broken-within why path h = record { below = h.below; path_is = h.path_is; node = h.node; indexed = h.indexed; broken = broken-or h.below h.broken }

    -- to a result with more paths, and to a longer time in which the worktree may have failed
    pub Refuses-within : (e : Error) → IsWalkErrorByWalkResult given made s limit P v e → IsWalkErrorByWalkResult given made s limit Q w e
    Refuses-within errors.Interrupted h = tt
    Refuses-within (errors.WorktreeRootIsFile path) h = absurd h
    Refuses-within (errors.NormalizeRoot path) h = absurd h
    Refuses-within (errors.SymlinkInRoot path root index) h = absurd h
    Refuses-within (errors.SymlinkMetadata path why) h = absurd h
    Refuses-within (errors.ExcludesAccess e) h = access-within s made e h
    Refuses-within (errors.TooDeep path) h = record { below = h.below; path_is = h.path_is; deep = h.deep; to_enter = enters-or h.below h.to_enter }
    Refuses-within (errors.ReadDir path reads.Absent) h = broken-within lists.Absent path h
    Refuses-within (errors.ReadDir path reads.NotADirectory) h = broken-within lists.NotADirectory path h
    Refuses-within (errors.ReadDir path reads.Fault) h = tt
    Refuses-within (errors.DirEntry path) h = tt
    Refuses-within errors.OutOfMemory h = tt

pub HasPaths-same : (v w : WalkResult) → w ≡ v → HasPaths v w
HasPaths-same v w is = let R : WalkResult → Type 0 = λ x. HasPaths v x in subst R (sym is) (record { entered = λ p h. h; broken = λ p h. h; asked = λ p h. h })

pub HasPaths-asking : (b : Bool) (path : List ℕ) (w : WalkResult) → HasPaths w (add_asked_path_if b path w)
HasPaths-asking true path w = record { entered = λ p h. h; broken = λ p h. h; asked = λ p h. or-right (bytes_eq p path) (is_text_in_list p w.asked) h }
HasPaths-asking false path w = record { entered = λ p h. h; broken = λ p h. h; asked = λ p h. h }

-- ---- the refusal of a class

pub IsAbout-class : (made : Option StackSetup) (root : List ℕ) (limit : ℕ) (path : List ℕ) (e : Error) → is_relative_without_dots path ≡ true → count_components path ≤ limit + 1 → classes.IsClassErrorAboutPath made path e → IsWalkErrorWithinLimit made root limit e
IsAbout-class made root limit path errors.Interrupted normal near about = tt
IsAbout-class made root limit path (errors.WorktreeRootIsFile p) normal near about = absurd about
IsAbout-class made root limit path (errors.NormalizeRoot p) normal near about = absurd about
IsAbout-class made root limit path (errors.SymlinkInRoot p r i) normal near about = absurd about
IsAbout-class made root limit path (errors.SymlinkMetadata p why) normal near about = absurd about
IsAbout-class made root limit path (errors.ExcludesAccess e) normal near about = go made about
  where
    go : (k : Option StackSetup) → classes.IsClassErrorAboutPath k path (errors.ExcludesAccess e) → IsSomeAnd k (λ rules. IsLookupErrorWithinLimit limit rules e)
    go None a = absurd a
    go (Some rules) a = record { path = path; normal = normal; near = near; access = a }
IsAbout-class made root limit path (errors.TooDeep p) normal near about = absurd about
IsAbout-class made root limit path (errors.ReadDir p why) normal near about = absurd about
IsAbout-class made root limit path (errors.DirEntry p) normal near about = absurd about
IsAbout-class made root limit path errors.OutOfMemory normal near about = tt

pub IsInTree-class : (root : List ℕ) (holds : Option ObjectsById) (s : TreeAndObjects) (made : Option StackSetup) (path : List ℕ) (e : Error) → is_relative_without_dots path ≡ true → classes.IsClassErrorAboutPath made path e → (holds ≡ Some s.objects → classes.IsErrorOfUnreadableRules s made path e) → IsWalkErrorByTree root holds s made e
IsInTree-class root holds s made path errors.Interrupted normal about refused = tt
IsInTree-class root holds s made path (errors.WorktreeRootIsFile p) normal about refused = tt
IsInTree-class root holds s made path (errors.NormalizeRoot p) normal about refused = tt
IsInTree-class root holds s made path (errors.SymlinkInRoot p r i) normal about refused = tt
IsInTree-class root holds s made path (errors.SymlinkMetadata p why) normal about refused = tt
IsInTree-class root holds s made path (errors.ExcludesAccess e) normal about refused = go made about refused
  where
    go : (k : Option StackSetup) → classes.IsClassErrorAboutPath k path (errors.ExcludesAccess e) → (holds ≡ Some s.objects → classes.IsErrorOfUnreadableRules s k path (errors.ExcludesAccess e)) → IsSomeAnd k (λ rules. holds ≡ Some s.objects → IsLookupErrorByTree s rules e)
    go None a r = absurd a
    go (Some rules) a r = λ known. record { path = path; normal = normal; access = a; refused = r known }
IsInTree-class root holds s made path (errors.TooDeep p) normal about refused = tt
IsInTree-class root holds s made path (errors.ReadDir p why) normal about refused = absurd about
IsInTree-class root holds s made path (errors.DirEntry p) normal about refused = tt
IsInTree-class root holds s made path errors.OutOfMemory normal about refused = tt

-- a class that asks the rules is one of a path that asks them, unless the worktree failed
pub Refuses-class : (given : WalkSetting) (made : Option StackSetup) (s : TreeAndObjects) (limit : ℕ) (Failed Asks : Type 0) (w : WalkResult) (path : List ℕ) (e : Error) → is_relative_without_dots path ≡ true → classes.IsClassErrorAboutPath made path e → classes.IsErrorOfUnreadableRules s made path e
    → classes.HoldsIfExcludesError Asks e ⊎ Failed → (Asks → is_text_in_list path w.asked ≡ true) → IsWalkErrorByWalkResult given made s limit Failed w e
Refuses-class given made s limit Failed Asks w path errors.Interrupted normal about refused asks among = tt
Refuses-class given made s limit Failed Asks w path (errors.WorktreeRootIsFile p) normal about refused asks among = absurd about
Refuses-class given made s limit Failed Asks w path (errors.NormalizeRoot p) normal about refused asks among = absurd about
Refuses-class given made s limit Failed Asks w path (errors.SymlinkInRoot p r i) normal about refused asks among = absurd about
Refuses-class given made s limit Failed Asks w path (errors.SymlinkMetadata p why) normal about refused asks among = absurd about
Refuses-class given made s limit Failed Asks w path (errors.ExcludesAccess e) normal about refused asks among = go made about refused
  where
    here : Asks ⊎ Failed → (is_text_in_list path w.asked ≡ true) ⊎ Failed
    here (inl a) = inl (among a)
    here (inr f) = inr f

    go : (k : Option StackSetup) → classes.IsClassErrorAboutPath k path (errors.ExcludesAccess e) → classes.IsErrorOfUnreadableRules s k path (errors.ExcludesAccess e) → IsSomeAnd k (λ rules. IsLookupErrorOfAskedPath s rules w Failed e)
    go None a r = absurd a
    go (Some rules) a r = record { path = path; normal = normal; asked = here asks; access = a; refused = r }
Refuses-class given made s limit Failed Asks w path (errors.TooDeep p) normal about refused asks among = absurd about
Refuses-class given made s limit Failed Asks w path (errors.ReadDir p why) normal about refused asks among = absurd about
Refuses-class given made s limit Failed Asks w path (errors.DirEntry p) normal about refused asks among = tt
Refuses-class given made s limit Failed Asks w path errors.OutOfMemory normal about refused asks among = tt

-- ---- the refusal of what lies too deep

pub IsAbout-deep : (made : Option StackSetup) (root path : List ℕ) (limit : ℕ) (Raised : Type 0) (e : Error) → is_relative_without_dots path ≡ true → path ≡ slash_joined_components (components path) → count_components path ≡ limit + 1 → IsTooDeepOrInterruptedError (root_joined_with_relative root path) Raised e
    → IsWalkErrorWithinLimit made root limit e
IsAbout-deep made root path limit Raised errors.Interrupted normal spelled_is deep h = tt
IsAbout-deep made root path limit Raised (errors.WorktreeRootIsFile p) normal spelled_is deep h = absurd h
IsAbout-deep made root path limit Raised (errors.NormalizeRoot p) normal spelled_is deep h = absurd h
IsAbout-deep made root path limit Raised (errors.SymlinkInRoot p r i) normal spelled_is deep h = absurd h
IsAbout-deep made root path limit Raised (errors.SymlinkMetadata p why) normal spelled_is deep h = absurd h
IsAbout-deep made root path limit Raised (errors.ExcludesAccess e) normal spelled_is deep h = absurd h
IsAbout-deep made root path limit Raised (errors.TooDeep p) normal spelled_is deep h = record { below = path; path_is = h; normal = normal; spelled_is = spelled_is; first = deep }
IsAbout-deep made root path limit Raised (errors.ReadDir p why) normal spelled_is deep h = absurd h
IsAbout-deep made root path limit Raised (errors.DirEntry p) normal spelled_is deep h = absurd h
IsAbout-deep made root path limit Raised errors.OutOfMemory normal spelled_is deep h = tt

pub IsAbout-root : (made : Option StackSetup) (top root : List ℕ) (limit : ℕ) (Raised : Type 0) (e : Error) → is_relative_without_dots root ≡ true → root ≡ slash_joined_components (components root) → limit < count_components root → IsTooDeepOrInterruptedError (root_joined_with_relative top root) Raised e
    → IsWalkErrorFromRoot made top root limit e
IsAbout-root made top root limit Raised errors.Interrupted normal spelled_is deep h = inl tt
IsAbout-root made top root limit Raised (errors.WorktreeRootIsFile p) normal spelled_is deep h = absurd h
IsAbout-root made top root limit Raised (errors.NormalizeRoot p) normal spelled_is deep h = absurd h
IsAbout-root made top root limit Raised (errors.SymlinkInRoot p r i) normal spelled_is deep h = absurd h
IsAbout-root made top root limit Raised (errors.SymlinkMetadata p why) normal spelled_is deep h = absurd h
IsAbout-root made top root limit Raised (errors.ExcludesAccess e) normal spelled_is deep h = absurd h
IsAbout-root made top root limit Raised (errors.TooDeep p) normal spelled_is deep h = inr (p, refl, record { path_is = h; normal = normal; spelled_is = spelled_is; deep = deep })
IsAbout-root made top root limit Raised (errors.ReadDir p why) normal spelled_is deep h = absurd h
IsAbout-root made top root limit Raised (errors.DirEntry p) normal spelled_is deep h = absurd h
IsAbout-root made top root limit Raised errors.OutOfMemory normal spelled_is deep h = inl tt

pub Refuses-deep : (given : WalkSetting) (made : Option StackSetup) (s : TreeAndObjects) (limit : ℕ) (Failed Raised : Type 0) (w : WalkResult) (path : List ℕ) (e : Error) → limit < count_components path → (is_entered_or_broken path w ≡ true) ⊎ Failed → IsTooDeepOrInterruptedError (root_joined_with_relative given.root path) Raised e
    → IsWalkErrorByWalkResult given made s limit Failed w e
Refuses-deep given made s limit Failed Raised w path errors.Interrupted deep enter h = tt
Refuses-deep given made s limit Failed Raised w path (errors.WorktreeRootIsFile p) deep enter h = absurd h
Refuses-deep given made s limit Failed Raised w path (errors.NormalizeRoot p) deep enter h = absurd h
Refuses-deep given made s limit Failed Raised w path (errors.SymlinkInRoot p r i) deep enter h = absurd h
Refuses-deep given made s limit Failed Raised w path (errors.SymlinkMetadata p why) deep enter h = absurd h
Refuses-deep given made s limit Failed Raised w path (errors.ExcludesAccess e) deep enter h = absurd h
Refuses-deep given made s limit Failed Raised w path (errors.TooDeep p) deep enter h = record { below = path; path_is = h; deep = deep; to_enter = enter }
Refuses-deep given made s limit Failed Raised w path (errors.ReadDir p why) deep enter h = absurd h
Refuses-deep given made s limit Failed Raised w path (errors.DirEntry p) deep enter h = absurd h
Refuses-deep given made s limit Failed Raised w path errors.OutOfMemory deep enter h = tt

-- ---- a listing that is refused

pub IsInTree-open : (holds : Option ObjectsById) (s : TreeAndObjects) (made : Option StackSetup) (root path : List ℕ) (e : Error) → IsErrorOfOpeningDirectory (root_joined_with_relative root path) (look s.tree (root_joined_with_relative root path) (is_empty path)) e
    → IsWalkErrorByTree root holds s made e
IsInTree-open holds s made root path errors.Interrupted h = tt
IsInTree-open holds s made root path (errors.WorktreeRootIsFile p) h = tt
IsInTree-open holds s made root path (errors.NormalizeRoot p) h = tt
IsInTree-open holds s made root path (errors.SymlinkInRoot p r i) h = tt
IsInTree-open holds s made root path (errors.SymlinkMetadata p why) h = tt
IsInTree-open holds s made root path (errors.ExcludesAccess e) h = absurd h
IsInTree-open holds s made root path (errors.TooDeep p) h = tt
IsInTree-open holds s made root path (errors.ReadDir p reads.Absent) h = record { below = path; path_is = h.0; node = ap (λ (q : List ℕ). list_of (look s.tree q (is_empty path))) h.0 ∙ h.1 }
IsInTree-open holds s made root path (errors.ReadDir p reads.NotADirectory) h = record { below = path; path_is = h.0; node = ap (λ (q : List ℕ). list_of (look s.tree q (is_empty path))) h.0 ∙ h.1 }
IsInTree-open holds s made root path (errors.ReadDir p reads.Fault) h = tt
IsInTree-open holds s made root path (errors.DirEntry p) h = tt
IsInTree-open holds s made root path errors.OutOfMemory h = tt

-- what is entered and cannot be listed is broken
pub broken-among : (o : WalkOptions) (ev : PathEvidence) (path : List ℕ) (c : Class) (at : LookupResult) (why : ListError) → list_of at ≡ Err why → is_text_in_list path (walk_result_of_entered_path o ev path c at).broken ≡ true
broken-among o ev path c absent why e = ap (λ b. b || false) (nat_list_eq_equiv.refl path)
broken-among o ev path c too_many_links why e = ap (λ b. b || false) (nat_list_eq_equiv.refl path)
broken-among o ev path c (found (file bytes)) why e = ap (λ b. b || false) (nat_list_eq_equiv.refl path)
broken-among o ev path c (found (link target)) why e = ap (λ b. b || false) (nat_list_eq_equiv.refl path)
broken-among o ev path c (found other) why e = ap (λ b. b || false) (nat_list_eq_equiv.refl path)
broken-among o ev path c (found (directory names)) why e = absurd (cc e)

-- A refusal of a directory that is entered is one of its name, where its class is known, or the worktree failed. `same` says that its
-- path is not the worktree root's.
pub Refuses-directory : (given : WalkSetting) (made : Option StackSetup) (s : TreeAndObjects) (limit : ℕ) (P Q : Type 0) (w : WalkResult) (p : List ℕ) (c : Class) (e : Error) → look_at_entered_directory given s.tree p ≡ look_at_name given s.tree p → HasPaths (walk_result_of_directory_over_sources given made s p c) w ⊎ Q → (P → Q)
    → ((why : ListError) → list_of (look_at_name given s.tree p) ≡ Err why → ((evidence_from_setting_and_sources given made s).in_index p).up_to_date ≡ Some Directory) → IsErrorOfEnteredDirectory given made s limit P p c e → IsWalkErrorByWalkResult given made s limit Q w e
Refuses-directory given made s limit P Q w p c e same within f indexed (inr h) = Refuses-within (walk_result_of_directory_over_sources given made s p c) w P Q within f given made s limit e h
Refuses-directory given made s limit P Q w p c e same within f indexed (inl h) = go e h
  where
    unlisted : (why : ListError) (path : List ℕ) → path ≡ root_joined_with_relative given.root p → list_of (look_at_entered_directory given s.tree p) ≡ Err why → IsIndexedDirectoryUnlistable s.tree (evidence_from_setting_and_sources given made s) given.root w Q why path
    unlisted why path is e1 =
        let named : list_of (look_at_name given s.tree p) ≡ Err why = ap list_of (sym same) ∙ e1 in
        record {
          below = p;
          path_is = is;
          node = ap (λ (q : List ℕ). list_of (look s.tree q false)) is ∙ named;
          indexed = indexed why named;
          broken = broken-or (walk_result_of_directory_over_sources given made s p c) w P Q within f p (inl (broken-among given.options (evidence_from_setting_and_sources given made s) p c (look_at_entered_directory given s.tree p) why e1));
        }

    go : (x : Error) → IsErrorOfOpeningDirectory (root_joined_with_relative given.root p) (look_at_entered_directory given s.tree p) x → IsWalkErrorByWalkResult given made s limit Q w x
    go errors.Interrupted o = tt
    go (errors.WorktreeRootIsFile path) o = absurd o
    go (errors.NormalizeRoot path) o = absurd o
    go (errors.SymlinkInRoot path root index) o = absurd o
    go (errors.SymlinkMetadata path why) o = absurd o
    go (errors.ExcludesAccess x) o = absurd o
    go (errors.TooDeep path) o = absurd o
    go (errors.ReadDir path reads.Absent) o = unlisted lists.Absent path o.0 o.1
    go (errors.ReadDir path reads.NotADirectory) o = unlisted lists.NotADirectory path o.0 o.1
    go (errors.ReadDir path reads.Fault) o = tt
    go (errors.DirEntry path) o = tt
    go errors.OutOfMemory o = tt

-- ---- over how a walk ended

-- want of memory may come at any time
pub memory-any : (P : Error → Type 0) → P errors.OutOfMemory → (stop : Stop) → HoldsOfErrorIfRefused (λ e. e ≡ errors.OutOfMemory) stop → HoldsOfErrorIfRefused P stop
memory-any P h (Refused e) is = subst P (sym is) h
memory-any P h Broken is = tt

-- what is refused for want of memory alone
pub memory-only : {T : Type 0} (r : Result T Stop) (P : Error → Type 0) → P errors.OutOfMemory → RefusesOnlyOutOfMemory r → IfErr r (HoldsOfErrorIfRefused P)
memory-only r P h = IfErr-weaker r (HoldsOfErrorIfRefused (λ e. e ≡ errors.OutOfMemory)) (HoldsOfErrorIfRefused P) (memory-any P h)

pub refused-any : (P Q : Error → Type 0) → ((e : Error) → P e → Q e) → (stop : Stop) → HoldsOfErrorIfRefused P stop → HoldsOfErrorIfRefused Q stop
refused-any P Q f (Refused e) h = f e h
refused-any P Q f Broken h = tt

pub either : {A B C : Type 0} → (A → C) → (B → C) → A ⊎ B → C
either f g (inl a) = f a
either f g (inr b) = g b

-- what is refused within a traversal root that lies no deeper than the limit
pub about-from : {T : Type 0} (made : Option StackSetup) (top root : List ℕ) (limit : ℕ) (r : Result T Stop) → IfErr r (HoldsOfErrorIfRefused (IsWalkErrorWithinLimit made top limit)) → IfErr r (HoldsOfErrorIfRefused (IsWalkErrorFromRoot made top root limit))
about-from made top root limit r = IfErr-weaker r (HoldsOfErrorIfRefused (IsWalkErrorWithinLimit made top limit)) (HoldsOfErrorIfRefused (IsWalkErrorFromRoot made top root limit)) (refused-any (IsWalkErrorWithinLimit made top limit) (IsWalkErrorFromRoot made top root limit) (λ e about. inl about))

-- a count rose, or it did not
pub rose-or : (before now : ℕ) → CountNotIncreased before now ⊎ CountIncreasedOrSaturated before now
rose-or before now = go (nat_lt now (saturating_increment before)) refl
  where
    go : (b : Bool) → nat_lt now (saturating_increment before) ≡ b → CountNotIncreased before now ⊎ CountIncreasedOrSaturated before now
    go true e = inl (ltb-true now (saturating_increment before) e)
    go false e = inr (ltb-false now (saturating_increment before) e)

-- what is refused of a name is refused of its directory
pub DirectoryRefuses-name : (given : WalkSetting) (made : Option StackSetup) (s : TreeAndObjects) (limit : ℕ) (P Q : Type 0) (v : WalkResult) (d : List ℕ) (c : Class) → HasPaths v (walk_result_of_directory_over_sources given made s d c) → (P → Q) → (stop : Stop) → HoldsOfErrorIfRefused (IsWalkErrorByWalkResult given made s limit P v) stop
    → HoldsOfErrorIfRefused (IsErrorOfEnteredDirectory given made s limit Q d c) stop
DirectoryRefuses-name given made s limit P Q v d c within f stop h =
    refused-any (IsWalkErrorByWalkResult given made s limit P v) (IsErrorOfEnteredDirectory given made s limit Q d c) (λ e r. inr (Refuses-within v (walk_result_of_directory_over_sources given made s d c) P Q (inl within) f given made s limit e r)) stop h
