-- What a lookup of an entry tells of the rules above it.
use Rattle.std.proofs.Common.{◌≡◌, ◌∙◌, ap, ℕ, List, [], ◌∷◌, ◌++◌, map, Bool, true, false, not, ◌&&◌, if◌then◌else◌, Option, Some, None, is_some, Result, Ok, Err, IsErrOf, refl, sym, subst, inl, inr}
use Rattle.std.specs.List.{list_all}
use Rattle.gitbase_core.specs.Objects.{ObjectsById}
use Rattle.gitbase_core.specs.Path.{components}
use Rattle.gitbase_core.specs.Steps.{and_then}
use Rattle.gitbase_core.specs.declared.entry.IndexEntry.{IndexEntry}
use Rattle.gitbase_core.specs.declared.find.Find.{Ghosts as FindOf}
use Rattle.worktree_fs.specs.declared.worktree.Worktree.{Ghosts as WorktreeOf}
use Rattle.worktree_fs.specs.Causes.{CountIncreasedOrSaturated}
use Rattle.worktree_fs.specs.Kept.{KeepsTreeAndListCounts}
use Rattle.worktree_fs.specs.Paths.{all_but_last, all_prefixes_shortest_first, is_relative_without_dots, slash_joined_components}
use Rattle.worktree_fs.specs.Tree.{Names}
use Rattle.worktree_report.specs.declared.setup.Setup.{Setup}
use Rattle.worktree_stack.specs.Excludes.{ExcludeDecision, exclude, is_excluding_decision, rule_of_decision}
use Rattle.worktree_stack.specs.LooksUp.{LookupLeavesWorktree, LooksUpPath}
use Rattle.worktree_stack.specs.Lookups.{StandsAtPath}
use Rattle.worktree_stack.specs.Reading.{RulesRefusal, TreeAndObjects, Tells, is_read_without_refusal, rules_texts_of_directory, rulebook_of_stack_setup}
use Rattle.worktree_stack.specs.Refused.{HoldsOfSomeAncestor, ExplainsLookupError}
use Rattle.worktree_stack.specs.Setup.{StackSetup, excluded_kind}
use Rattle.worktree_stack.specs.Stacked.{IsInStepWithTree, StackModel, setup_of_stack, pushed_directories}
use Rattle.worktree_stack.specs.declared.error.AtPathError.{AtPathError}
use Rattle.worktree_stack.specs.declared.error.AtPathError.TheVariants as lookups
use Rattle.worktree_stack.specs.declared.error.BlobWhy.TheVariants as blobs
use Rattle.worktree_stack.specs.declared.error.RulesWhy.TheVariants as files
use Rattle.ls_files.specs.Excluded.{are_rules_above_read, is_path_normal_and_rules_read, do_rules_exclude_path, exclusion_or_unread, excluded_error_of_lookup_error, exclusion_of_index_entry, excluded_entries_appended, append_entry_if_excluded}
use Rattle.ls_files.specs.Finds.{FindsInWorktree, AnswersFoundUnlessFault}
use Rattle.ls_files.specs.declared.excluded_error.ExcludedError.{ExcludedError}
use Rattle.ls_files.specs.declared.excluded_error.ExcludedError.TheVariants as errors

-- ---- the rule that decides

-- it excludes where it says what becomes of a path
pub positive-is : (x : Option ExcludeDecision) → is_some (excluded_kind (rule_of_decision x)) ≡ is_excluding_decision x
positive-is None = refl
positive-is (Some d) = by_sign d.rule.pattern.is_negative
  where
    by_sign : (negative : Bool) → is_some (if negative then None else Some d.rule.kind) ≡ not negative
    by_sign true = refl
    by_sign false = refl

-- ---- what stays

pub asks-left : {W : Type 0} (w : WorktreeOf W) (a b : W) → LookupLeavesWorktree true w a b → KeepsTreeAndListCounts w a b
asks-left w a b h = record { tree = h.tree refl; faults = h.faults; list_faults = h.list_faults; reads = h.reads; lists = h.lists; precomposes = h.precomposes }

-- ---- all rules above a path are read

and-both : (a b : Bool) → a ≡ true → b ≡ true → (a && b) ≡ true
and-both true b e f = f
and-both false b e f = e

and-left : (a b : Bool) → a ≡ false → (a && b) ≡ false
and-left true b e = absurd (cc e)
and-left false b e = refl

and-right : (a b : Bool) → b ≡ false → (a && b) ≡ false
and-right true b e = e
and-right false b e = refl

read-at : (s : TreeAndObjects) (stack : StackModel) (made : StackSetup) (path : List ℕ) → setup_of_stack stack ≡ made → IsInStepWithTree s stack → StandsAtPath stack (components path) → are_rules_above_read made s (components path) ≡ true
read-at s stack made path made_is step at =
    let read : StackSetup → List (List (List ℕ)) → Bool = λ m directories. list_all (λ directory. is_read_without_refusal (rules_texts_of_directory m s (slash_joined_components directory))) directories in
    let now : read (setup_of_stack stack) (pushed_directories stack.at) ≡ true = step.are_read in
    let all : read (setup_of_stack stack) (all_prefixes_shortest_first (all_but_last (components path))) ≡ true = ap (λ (a : Option (List (List ℕ))). read (setup_of_stack stack) (pushed_directories a)) (sym at.at) ∙ now in
    ap (λ (m : StackSetup). read m (all_prefixes_shortest_first (all_but_last (components path)))) (sym made_is) ∙ all

read-answered : {W F : Type 0} {w : WorktreeOf W} {f : FindOf F} {w0 w1 : W} {o0 o1 : F} {path : List ℕ} {kind : Option Bool} {old new : StackModel} {T : Type 0} {done : T}
    → (s : TreeAndObjects) → Tells (w.told w0) (f.holds o0) s → IsInStepWithTree s old
    → LooksUpPath w f w0 w1 o0 o1 path kind old new (Ok done) → is_path_normal_and_rules_read (setup_of_stack old) s path ≡ true
read-answered {path = path} {old = old} {new = new} s tells step h = go (is_relative_without_dots path) refl
  where
    go : (b : Bool) → is_relative_without_dots path ≡ b → is_path_normal_and_rules_read (setup_of_stack old) s path ≡ true
    go true normal =
        and-both (is_relative_without_dots path) (are_rules_above_read (setup_of_stack old) s (components path)) normal
        (read-at s new (setup_of_stack old) path h.made (h.in_step s tells step) h.looked_up)
    go false normal = let clash = (h.normal normal).0 in absurd (cc clash)

-- ---- some rules are not

all-map : {X Y : Type 0} (p : Y → Bool) (f : X → Y) (xs : List X) → list_all p (map f xs) ≡ list_all (λ x. p (f x)) xs
all-map p f [] = refl
all-map p f (x ∷ xs) = ap (λ b. p (f x) && b) (all-map p f xs)

tail_is : {X : Type 0} {x y : X} {xs ys : List X} → x ∷ xs ≡ y ∷ ys → xs ≡ ys
tail_is e = cc

head_is : {X : Type 0} {x y : X} {xs ys : List X} → x ∷ xs ≡ y ∷ ys → x ≡ y
head_is e = cc

-- a test that a front fails is failed by the fronts together
all-front : (p : List (List ℕ) → Bool) (names front rest : List (List ℕ)) → names ≡ front ++ rest → p front ≡ false → list_all p (all_prefixes_shortest_first names) ≡ false
all-front p [] [] rest e fails = ap (λ b. b && true) fails
all-front p (name ∷ names) [] rest e fails = ap (λ b. b && list_all p (map (λ f. name ∷ f) (all_prefixes_shortest_first names))) fails
all-front p [] (x ∷ front) rest e fails = absurd (cc e)
all-front p (name ∷ names) (x ∷ front) rest e fails =
    and-right (p []) (list_all p (map (λ f. name ∷ f) (all_prefixes_shortest_first names)))
    (all-map p (λ f. name ∷ f) (all_prefixes_shortest_first names) ∙ all-front (λ f. p (name ∷ f)) names front rest (tail_is e) (ap (λ (n : List ℕ). p (n ∷ front)) (head_is e) ∙ fails))

unread-above : (s : TreeAndObjects) (made : StackSetup) (path : List ℕ) (refusal : RulesRefusal) (Holds : List ℕ → Type 0) → HoldsOfSomeAncestor (components path) Holds
    → ((d : List ℕ) → Holds d → rules_texts_of_directory made s d ≡ Err refusal) → is_path_normal_and_rules_read made s path ≡ false
unread-above s made path refusal Holds h is =
    and-right (is_relative_without_dots path) (are_rules_above_read made s (components path))
    (all-front (λ directory. is_read_without_refusal (rules_texts_of_directory made s (slash_joined_components directory))) (all_but_last (components path)) h.ancestor h.rest h.above (ap is_read_without_refusal (is (slash_joined_components h.ancestor) h.holds)))

-- what comes of such a path
unread-is : (made : StackSetup) (s : TreeAndObjects) (path : List ℕ) (is_dir : Bool) → is_path_normal_and_rules_read made s path ≡ false → exclusion_or_unread made s path is_dir ≡ Err errors.Unread
unfolding exclusion_or_unread
unread-is made s path is_dir fails = ap (λ (b : Bool). if b then Ok (do_rules_exclude_path made s path is_dir) else Err errors.Unread) fails

read-is : (made : StackSetup) (s : TreeAndObjects) (path : List ℕ) (is_dir excluded : Bool) → is_path_normal_and_rules_read made s path ≡ true → excluded ≡ do_rules_exclude_path made s path is_dir → exclusion_or_unread made s path is_dir ≡ Ok excluded
unfolding exclusion_or_unread
read-is made s path is_dir excluded reads is = ap (λ (b : Bool). if b then Ok (do_rules_exclude_path made s path is_dir) else Err errors.Unread) reads ∙ ap Ok (sym is)

-- what a stack says that stands at a path
abbrev Says : StackModel → Bool → Type 0
Says stack excluded =
    (known : TreeAndObjects) → IsInStepWithTree known stack → (relative : List ℕ) → StandsAtPath stack (components relative)
    → excluded ≡ is_excluding_decision (exclude (rulebook_of_stack_setup (setup_of_stack stack) known) (components relative) stack.is_dir)

gives-read : {W F T : Type 0} {w : WorktreeOf W} {f : FindOf F} {w0 w1 : W} {o0 o1 : F} {kind : Option Bool} {old new : StackModel} {done : T}
    → (s : TreeAndObjects) (path : List ℕ) (is_dir excluded : Bool) (platform : StackModel) → Tells (w.told w0) (f.holds o0) s → IsInStepWithTree s old
    → kind ≡ Some is_dir → platform ≡ new → LooksUpPath w f w0 w1 o0 o1 path kind old new (Ok done) → Says platform excluded → exclusion_or_unread (setup_of_stack old) s path is_dir ≡ Ok excluded
gives-read {old = old} {new = new} s path is_dir excluded platform tells step kind_is platform_is h says =
    let now : Says new excluded = subst (λ (stack : StackModel). Says stack excluded) platform_is says in
    let is = now s (h.in_step s tells step) path h.looked_up in
    read-is (setup_of_stack old) s path is_dir excluded (read-answered s tells step h)
    (is
    ∙ ap (λ (m : StackSetup). is_excluding_decision (exclude (rulebook_of_stack_setup m s) (components path) new.is_dir)) h.made
    ∙ ap (λ (d : Option Bool). is_excluding_decision (exclude (rulebook_of_stack_setup (setup_of_stack old) s) (components path) d)) (h.is_dir ∙ kind_is))

abbrev Stopped : StackSetup → TreeAndObjects → List ℕ → Bool → AtPathError → Type 0
Stopped made s path is_dir refused = AnswersFoundUnlessFault {A = Bool} (Err (excluded_error_of_lookup_error refused)) (exclusion_or_unread made s path is_dir)

-- a refused lookup of a path that is normal
stopped-by : (s : TreeAndObjects) (made : StackSetup) (path : List ℕ) (is_dir : Bool) (told : Option Names) (holds : Option ObjectsById) (TreeFailed StoreFailed : Type 0) (error : AtPathError) → Tells told holds s
    → ExplainsLookupError told holds TreeFailed StoreFailed made (components path) error → (StoreFailed → ⊥) → Stopped made s path is_dir error
stopped-by s made path is_dir told holds TreeFailed StoreFailed lookups.NotNormal tells refused none = absurd refused
stopped-by s made path is_dir told holds TreeFailed StoreFailed (lookups.Component why) tells refused none = absurd refused
stopped-by s made path is_dir told holds TreeFailed StoreFailed (lookups.Collision p) tells refused none = absurd refused
stopped-by s made path is_dir told holds TreeFailed StoreFailed (lookups.Directory p why) tells refused none = absurd refused
stopped-by s made path is_dir told holds TreeFailed StoreFailed (lookups.RulesFile p files.Link) tells refused none =
    inl (unread-is made s path is_dir (unread-above s made path _ _ refused (λ d r. r.why_is.1 s tells)))
stopped-by s made path is_dir told holds TreeFailed StoreFailed (lookups.RulesFile p files.LinkLimit) tells refused none =
    inl (unread-is made s path is_dir (unread-above s made path _ _ refused (λ d r. r.why_is s tells)))
stopped-by s made path is_dir told holds TreeFailed StoreFailed (lookups.RulesFile p files.Special) tells refused none =
    inl (unread-is made s path is_dir (unread-above s made path _ _ refused (λ d r. r.why_is s tells)))
stopped-by s made path is_dir told holds TreeFailed StoreFailed (lookups.RulesFile p files.Fault) tells refused none = inr (inl refl)
stopped-by s made path is_dir told holds TreeFailed StoreFailed (lookups.Blob id blobs.Missing) tells refused none =
    inl (unread-is made s path is_dir (unread-above s made path _ _ refused (λ d r. r.why_is s tells)))
stopped-by s made path is_dir told holds TreeFailed StoreFailed (lookups.Blob id blobs.NotABlob) tells refused none =
    inl (unread-is made s path is_dir (unread-above s made path _ _ refused (λ d r. r.why_is s tells)))
stopped-by s made path is_dir told holds TreeFailed StoreFailed (lookups.Blob id blobs.Fault) tells refused none = inr (inl refl)
stopped-by s made path is_dir told holds TreeFailed StoreFailed lookups.OutOfMemory tells refused none = inr (inr refl)

err_of : {T : Type 0} (e other : AtPathError) → IsErrOf {T = T} (Err e) other → e ≡ other
err_of e other is = cc is

stopped-refused : {W F T : Type 0} {w : WorktreeOf W} {f : FindOf F} {w0 w1 : W} {o0 o1 : F} {kind : Option Bool} {old new : StackModel} {error : AtPathError}
    → (s : TreeAndObjects) (path : List ℕ) (is_dir : Bool) → Tells (w.told w0) (f.holds o0) s → (CountIncreasedOrSaturated (f.faults o0) (f.faults o1) → ⊥)
    → LooksUpPath {T = T} w f w0 w1 o0 o1 path kind old new (Err error) → Stopped (setup_of_stack old) s path is_dir error
stopped-refused {T = T} {w = w} {f = f} {w0 = w0} {w1 = w1} {o0 = o0} {o1 = o1} {old = old} {error = error} s path is_dir tells none h = go (is_relative_without_dots path) refl
  where
    go : (b : Bool) → is_relative_without_dots path ≡ b → Stopped (setup_of_stack old) s path is_dir error
    go true normal =
        stopped-by s (setup_of_stack old) path is_dir (w.told w0) (f.holds o0) (CountIncreasedOrSaturated (w.faults w0) (w.faults w1)) (CountIncreasedOrSaturated (f.faults o0) (f.faults o1)) error tells (h.refused normal) none
    go false normal =
        let unread = unread-is (setup_of_stack old) s path is_dir (and-left (is_relative_without_dots path) (are_rules_above_read (setup_of_stack old) s (components path)) normal) in
        inl (unread ∙ ap (λ (x : AtPathError). Err (excluded_error_of_lookup_error x)) (sym (err_of error lookups.NotNormal (h.normal normal).0)))

-- ---- a fault has its cause

cause-by : (names : List (List ℕ)) (made : StackSetup) (told : Option Names) (holds : Option ObjectsById) (TreeFailed StoreFailed : Type 0) (error : AtPathError) → (StoreFailed → ⊥)
    → ExplainsLookupError told holds TreeFailed StoreFailed made names error → excluded_error_of_lookup_error error ≡ errors.Fault → TreeFailed
cause-by names made told holds TreeFailed StoreFailed lookups.NotNormal none refused is = absurd refused
cause-by names made told holds TreeFailed StoreFailed (lookups.Component why) none refused is = absurd refused
cause-by names made told holds TreeFailed StoreFailed (lookups.Collision p) none refused is = absurd refused
cause-by names made told holds TreeFailed StoreFailed (lookups.Directory p why) none refused is = absurd refused
cause-by names made told holds TreeFailed StoreFailed (lookups.RulesFile p files.Link) none refused is = absurd (cc is)
cause-by names made told holds TreeFailed StoreFailed (lookups.RulesFile p files.LinkLimit) none refused is = absurd (cc is)
cause-by names made told holds TreeFailed StoreFailed (lookups.RulesFile p files.Special) none refused is = absurd (cc is)
cause-by names made told holds TreeFailed StoreFailed (lookups.RulesFile p files.Fault) none refused is = refused.holds.why_is
cause-by names made told holds TreeFailed StoreFailed (lookups.Blob id blobs.Missing) none refused is = absurd (cc is)
cause-by names made told holds TreeFailed StoreFailed (lookups.Blob id blobs.NotABlob) none refused is = absurd (cc is)
cause-by names made told holds TreeFailed StoreFailed (lookups.Blob id blobs.Fault) none refused is = absurd (none refused.holds.why_is)
cause-by names made told holds TreeFailed StoreFailed lookups.OutOfMemory none refused is = absurd (cc is)

cause-refused : {W F T : Type 0} {w : WorktreeOf W} {f : FindOf F} {w0 w1 : W} {o0 o1 : F} {path : List ℕ} {kind : Option Bool} {old new : StackModel} {error : AtPathError}
    → (CountIncreasedOrSaturated (f.faults o0) (f.faults o1) → ⊥)
    → LooksUpPath {T = T} w f w0 w1 o0 o1 path kind old new (Err error) → excluded_error_of_lookup_error error ≡ errors.Fault → CountIncreasedOrSaturated (w.faults w0) (w.faults w1)
cause-refused {T = T} {w = w} {f = f} {w0 = w0} {w1 = w1} {o0 = o0} {o1 = o1} {path = path} {old = old} {error = error} none h is = go (is_relative_without_dots path) refl
  where
    go : (b : Bool) → is_relative_without_dots path ≡ b → CountIncreasedOrSaturated (w.faults w0) (w.faults w1)
    go true normal =
        cause-by (components path) (setup_of_stack old) (w.told w0) (f.holds o0) (CountIncreasedOrSaturated (w.faults w0) (w.faults w1)) (CountIncreasedOrSaturated (f.faults o0) (f.faults o1)) error none (h.refused normal) is
    go false normal =
        let unread : errors.Unread ≡ errors.Fault = ap excluded_error_of_lookup_error (sym (err_of error lookups.NotNormal (h.normal normal).0)) ∙ is in absurd (cc unread)

-- ---- what a lookup finds

no_fault : {T : Type 0} (x : T) → IsErrOf {T = T} {E = ExcludedError} (Ok x) errors.Fault → ⊥
no_fault x is = absurd (cc is)

stop_is : {T : Type 0} (e other : ExcludedError) → IsErrOf {T = T} (Err e) other → e ≡ other
stop_is e other is = cc is

-- a tree that is told, with a store, is what rules are read from
abbrev read_with : ObjectsById → Names → TreeAndObjects
read_with objects t = record { tree = t; objects = objects }

-- where it is answered
pub answered-finds : {W F T : Type 0} (w : WorktreeOf W) (f : FindOf F) {w0 w1 : W} {o0 o1 : F} {path : List ℕ} {kind : Option Bool} {old new : StackModel} {done : T}
    → (asked : List ℕ) (is_dir : Bool) (objects : ObjectsById) (excluded : Bool) (platform : StackModel) → f.holds o0 ≡ Some objects → ((t : Names) → w.told w0 ≡ Some t → IsInStepWithTree (read_with objects t) old)
    → kind ≡ Some is_dir → platform ≡ new → path ≡ asked → w.faults w1 ≡ w.faults w0 → KeepsTreeAndListCounts w w0 w1
    → LooksUpPath w f w0 w1 o0 o1 path kind old new (Ok done) → Says platform excluded → FindsInWorktree w w0 w1 (λ t. exclusion_or_unread (setup_of_stack old) (read_with objects t) asked is_dir) (Ok excluded)
answered-finds w f {w0 = w0} {w1 = w1} {o0 = o0} {o1 = o1} {kind = kind} {old = old} {new = new} {done = done} asked is_dir objects excluded platform holds step kind_is platform_is path_is unfaulted asks h says =
    let there = subst (λ (p : List ℕ). LooksUpPath w f w0 w1 o0 o1 p kind old new (Ok done)) path_is h in
    record {
      gives = λ t told. gives-read (read_with objects t) asked is_dir excluded platform (record { tree_is = told; objects_are = holds }) (step t told) kind_is platform_is there says;
      cause = λ is. absurd (no_fault excluded is);
      unfaulted = unfaulted;
      keeps = asks;
    }

-- and where it is refused
pub refused-finds : {W F T : Type 0} (w : WorktreeOf W) (f : FindOf F) {w0 w1 : W} {o0 o1 : F} {path : List ℕ} {kind : Option Bool} {old new : StackModel} {error : AtPathError}
    → (asked : List ℕ) (is_dir : Bool) (objects : ObjectsById) (stop : ExcludedError) → f.holds o0 ≡ Some objects → (CountIncreasedOrSaturated (f.faults o0) (f.faults o1) → ⊥)
    → path ≡ asked → stop ≡ excluded_error_of_lookup_error error → KeepsTreeAndListCounts w w0 w1
    → LooksUpPath {T = T} w f w0 w1 o0 o1 path kind old new (Err error) → FindsInWorktree w w0 w1 (λ t. exclusion_or_unread (setup_of_stack old) (read_with objects t) asked is_dir) (Err stop)
refused-finds {T = T} w f {w0 = w0} {w1 = w1} {o0 = o0} {o1 = o1} {kind = kind} {old = old} {new = new} {error = error} asked is_dir objects stop holds none path_is stop_eq asks h =
    let there = subst (λ (p : List ℕ). LooksUpPath {T = T} w f w0 w1 o0 o1 p kind old new (Err error)) path_is h in
    let found : FindsInWorktree w w0 w1 (λ t. exclusion_or_unread (setup_of_stack old) (read_with objects t) asked is_dir) (Err (excluded_error_of_lookup_error error)) =
    record {
      gives = λ t told. stopped-refused (read_with objects t) asked is_dir (record { tree_is = told; objects_are = holds }) none there;
      cause = λ is. cause-refused none there (stop_is (excluded_error_of_lookup_error error) errors.Fault is);
      unfaulted = tt;
      keeps = asks;
    } in
    subst (λ (x : ExcludedError). FindsInWorktree w w0 w1 (λ t. exclusion_or_unread (setup_of_stack old) (read_with objects t) asked is_dir) (Err x)) (sym stop_eq) found

-- the stack stays in step with what is told
pub steps-on : {W F T : Type 0} (w : WorktreeOf W) (f : FindOf F) {w0 w1 : W} {o0 o1 : F} {path : List ℕ} {kind : Option Bool} {old new : StackModel} {result : Result T AtPathError}
    → (objects : ObjectsById) → f.holds o0 ≡ Some objects → ((t : Names) → w.told w0 ≡ Some t → IsInStepWithTree (read_with objects t) old)
    → LooksUpPath w f w0 w1 o0 o1 path kind old new result → (t : Names) → w.told w0 ≡ Some t → IsInStepWithTree (read_with objects t) new
steps-on w f objects holds step h t told = h.in_step (read_with objects t) (record { tree_is = told; objects_are = holds }) (step t told)

-- ---- one entry more

pub one-more : (t : Names) (root : List ℕ) (setup : Setup) (made now : StackSetup) (done next : List IndexEntry) (e : IndexEntry) (entries : List IndexEntry) (excluded : Bool)
    → now ≡ made → exclusion_of_index_entry t root setup now e ≡ Ok excluded → next ≡ append_entry_if_excluded done e excluded
    → excluded_entries_appended t root setup made next entries ≡ excluded_entries_appended t root setup made done (e ∷ entries)
one-more t root setup made now done next e entries excluded same is next_is =
    ap (λ (d : List IndexEntry). excluded_entries_appended t root setup made d entries) next_is
    ∙ sym (ap (and_then (λ (x : Bool). excluded_entries_appended t root setup made (append_entry_if_excluded done e x) entries)) (ap (λ (m : StackSetup). exclusion_of_index_entry t root setup m e) (sym same) ∙ is))
