-- What a lookup of a path tells of the rules above it.
use Rattle.std.proofs.Common.{◌≡◌, ◌∙◌, ap, ℕ, List, [], ◌∷◌, ◌++◌, map, Bool, true, false, ◌&&◌, if◌then◌else◌, Option, Some, None, option_map, Result, Ok, Err, IfOk, IsErrOf, refl, sym, subst, inl, inr}
use Rattle.std.specs.FinMap.{empty}
use Rattle.std.specs.List.{list_all}
use Rattle.gitbase_core.specs.Path.{components}
use Rattle.gitbase_core.specs.declared.find.Find.{Ghosts as FindOf}
use Rattle.git_places.specs.Answers.{IsFoundOrFailed}
use Rattle.worktree_fs.specs.declared.worktree.Worktree.{Ghosts as WorktreeOf}
use Rattle.worktree_fs.specs.Causes.{CountIncreasedOrSaturated}
use Rattle.worktree_fs.specs.Kept.{KeepsTreeAndListCounts}
use Rattle.worktree_fs.specs.Paths.{all_but_last, all_prefixes_shortest_first, is_relative_without_dots, slash_joined_components}
use Rattle.worktree_fs.specs.Tree.{Names}
use Rattle.worktree_stack.specs.Excludes.{ExcludeDecision, exclude, origin_of_decision, rule_of_decision}
use Rattle.worktree_stack.specs.LooksUp.{LookupLeavesWorktree, LooksUpPath}
use Rattle.worktree_stack.specs.Lookups.{StandsAtPath}
use Rattle.worktree_stack.specs.Reading.{RulesRefusal, TreeAndObjects, Tells, is_read_without_refusal, rules_texts_of_directory, rulebook_of_stack_setup}
use Rattle.worktree_stack.specs.Refused.{HoldsOfSomeAncestor, ExplainsLookupError}
use Rattle.worktree_stack.specs.Setup.{StackSetup}
use Rattle.worktree_stack.specs.Stacked.{IsInStepWithTree, StackModel, setup_of_stack, pushed_directories}
use Rattle.worktree_stack.specs.declared.error.AtPathError.{AtPathError}
use Rattle.worktree_stack.specs.declared.error.AtPathError.TheVariants as errors
use Rattle.worktree_stack.specs.declared.error.BlobWhy.TheVariants as blobs
use Rattle.worktree_stack.specs.declared.error.RulesWhy.TheVariants as files
use Rattle.check_ignore.specs.Deciding.{are_rules_files_above_readable, found_rule_of_decision, is_normal_path_with_readable_rules, found_rule_of_origin_and_hit, look_up_deciding_rule, deciding_rule_in_tree, tree_without_objects, stop_of_lookup_error}
use Rattle.check_ignore.specs.Finds.{FindsInTree}
use Rattle.check_ignore.specs.declared.asked.AskedPath.{AskedPath}
use Rattle.check_ignore.specs.declared.found_rule.FoundRule.{FoundRule}
use Rattle.check_ignore.specs.declared.stop.Stop.{Stop}
use Rattle.check_ignore.specs.declared.stop.Stop.TheVariants as stops

-- ---- the rule by its two parts

-- both parts are of one decision
pub joined-is : (x : Option ExcludeDecision) → found_rule_of_origin_and_hit (origin_of_decision x) (rule_of_decision x) ≡ option_map found_rule_of_decision x
joined-is None = refl
joined-is (Some d) = refl

pub if_ok-to : {A E : Type 0} {P Q : A → Type 0} (r : Result A E) → ((x : A) → P x → Q x) → IfOk r P → IfOk r Q
if_ok-to (Ok x) f h = f x h
if_ok-to (Err e) f h = tt

-- ---- what stays

pub asks-left : {W : Type 0} (w : WorktreeOf W) (a b : W) → LookupLeavesWorktree true w a b → KeepsTreeAndListCounts w a b
asks-left w a b h = record { tree = h.tree refl; faults = h.faults; list_faults = h.list_faults; reads = h.reads; lists = h.lists; precomposes = h.precomposes }

-- ---- all rules above a path are read

and-both : (a b : Bool) → a ≡ true → b ≡ true → (a && b) ≡ true
and-both true b e f = f
and-both false b e f = e

and-left : (a b : Bool) → a ≡ false → (a && b) ≡ false
and-left true b e = absurd (cc e)
and-left false b e = refl

and-right : (a b : Bool) → b ≡ false → (a && b) ≡ false
and-right true b e = e
and-right false b e = refl

read-at : (t : Names) (s : StackModel) (made : StackSetup) (path : List ℕ) → setup_of_stack s ≡ made → IsInStepWithTree (tree_without_objects t) s → StandsAtPath s (components path) → are_rules_files_above_readable made (tree_without_objects t) (components path) ≡ true
read-at t s made path made_is step at =
    let read : StackSetup → List (List (List ℕ)) → Bool = λ m directories. list_all (λ directory. is_read_without_refusal (rules_texts_of_directory m (tree_without_objects t) (slash_joined_components directory))) directories in
    let now : read (setup_of_stack s) (pushed_directories s.at) ≡ true = step.are_read in
    let all : read (setup_of_stack s) (all_prefixes_shortest_first (all_but_last (components path))) ≡ true = ap (λ (a : Option (List (List ℕ))). read (setup_of_stack s) (pushed_directories a)) (sym at.at) ∙ now in
    ap (λ (m : StackSetup). read m (all_prefixes_shortest_first (all_but_last (components path)))) (sym made_is) ∙ all

pub read-answered : {W F : Type 0} {w : WorktreeOf W} {f : FindOf F} {w0 w1 : W} {o0 o1 : F} {path : List ℕ} {kind : Option Bool} {old new : StackModel} {T : Type 0} {done : T}
    → (t : Names) → w.told w0 ≡ Some t → f.holds o0 ≡ Some empty → IsInStepWithTree (tree_without_objects t) old
    → LooksUpPath w f w0 w1 o0 o1 path kind old new (Ok done) → is_normal_path_with_readable_rules t (setup_of_stack old) path ≡ true
read-answered {path = path} {old = old} {new = new} t told holds step h = go (is_relative_without_dots path) refl
  where
    go : (b : Bool) → is_relative_without_dots path ≡ b → is_normal_path_with_readable_rules t (setup_of_stack old) path ≡ true
    go true normal =
        and-both (is_relative_without_dots path) (are_rules_files_above_readable (setup_of_stack old) (tree_without_objects t) (components path)) normal
        (read-at t new (setup_of_stack old) path h.made (h.in_step (tree_without_objects t) (record { tree_is = told; objects_are = holds }) step) h.looked_up)
    go false normal = let clash = (h.normal normal).0 in absurd (cc clash)

-- ---- some rules are not

all-map : {X Y : Type 0} (p : Y → Bool) (f : X → Y) (xs : List X) → list_all p (map f xs) ≡ list_all (λ x. p (f x)) xs
all-map p f [] = refl
all-map p f (x ∷ xs) = ap (λ b. p (f x) && b) (all-map p f xs)

tail_is : {X : Type 0} {x y : X} {xs ys : List X} → x ∷ xs ≡ y ∷ ys → xs ≡ ys
tail_is e = cc

head_is : {X : Type 0} {x y : X} {xs ys : List X} → x ∷ xs ≡ y ∷ ys → x ≡ y
head_is e = cc

-- a test that a front fails is failed by the fronts together
all-front : (p : List (List ℕ) → Bool) (names front rest : List (List ℕ)) → names ≡ front ++ rest → p front ≡ false → list_all p (all_prefixes_shortest_first names) ≡ false
all-front p [] [] rest e fails = ap (λ b. b && true) fails
all-front p (name ∷ names) [] rest e fails = ap (λ b. b && list_all p (map (λ f. name ∷ f) (all_prefixes_shortest_first names))) fails
all-front p [] (x ∷ front) rest e fails = absurd (cc e)
all-front p (name ∷ names) (x ∷ front) rest e fails =
    and-right (p []) (list_all p (map (λ f. name ∷ f) (all_prefixes_shortest_first names)))
    (all-map p (λ f. name ∷ f) (all_prefixes_shortest_first names) ∙ all-front (λ f. p (name ∷ f)) names front rest (tail_is e) (ap (λ (n : List ℕ). p (n ∷ front)) (head_is e) ∙ fails))

unread-above : (t : Names) (made : StackSetup) (path : List ℕ) (refusal : RulesRefusal) (Holds : List ℕ → Type 0) → HoldsOfSomeAncestor (components path) Holds
    → ((d : List ℕ) → Holds d → rules_texts_of_directory made (tree_without_objects t) d ≡ Err refusal) → is_normal_path_with_readable_rules t made path ≡ false
unread-above t made path refusal Holds h is =
    and-right (is_relative_without_dots path) (are_rules_files_above_readable made (tree_without_objects t) (components path))
    (all-front (λ directory. is_read_without_refusal (rules_texts_of_directory made (tree_without_objects t) (slash_joined_components directory))) (all_but_last (components path)) h.ancestor h.rest h.above (ap is_read_without_refusal (is (slash_joined_components h.ancestor) h.holds)))

-- what comes of such a path
unread-is : (t : Names) (made : StackSetup) (a : AskedPath) (is_dir : Bool) → is_normal_path_with_readable_rules t made a.path ≡ false → look_up_deciding_rule t made a is_dir ≡ Err (stops.Unread a.text)
unfolding look_up_deciding_rule
unread-is t made a is_dir e = ap (λ (b : Bool). if b then Ok (deciding_rule_in_tree t made a.path is_dir) else Err (stops.Unread a.text)) e

pub read-is : (t : Names) (made : StackSetup) (a : AskedPath) (is_dir : Bool) (rule : Option FoundRule) → is_normal_path_with_readable_rules t made a.path ≡ true → rule ≡ deciding_rule_in_tree t made a.path is_dir → look_up_deciding_rule t made a is_dir ≡ Ok rule
unfolding look_up_deciding_rule
read-is t made a is_dir rule e is = ap (λ (b : Bool). if b then Ok (deciding_rule_in_tree t made a.path is_dir) else Err (stops.Unread a.text)) e ∙ ap Ok (sym is)

-- what a stack says that stands at a path
abbrev Says : StackModel → Option FoundRule → Type 0
Says s rule =
    (known : TreeAndObjects) → IsInStepWithTree known s → (relative : List ℕ) → StandsAtPath s (components relative)
    → rule ≡ option_map found_rule_of_decision (exclude (rulebook_of_stack_setup (setup_of_stack s) known) (components relative) s.is_dir)

pub gives-read : {W F T : Type 0} {w : WorktreeOf W} {f : FindOf F} {w0 w1 : W} {o0 o1 : F} {kind : Option Bool} {old new : StackModel} {done : T}
    → (t : Names) (a : AskedPath) (is_dir : Bool) (rule : Option FoundRule) (platform : StackModel) → w.told w0 ≡ Some t → f.holds o0 ≡ Some empty → IsInStepWithTree (tree_without_objects t) old
    → kind ≡ Some is_dir → platform ≡ new → LooksUpPath w f w0 w1 o0 o1 a.path kind old new (Ok done) → Says platform rule → look_up_deciding_rule t (setup_of_stack old) a is_dir ≡ Ok rule
gives-read {old = old} {new = new} t a is_dir rule platform told holds step kind_is platform_is h says =
    let tells : Tells _ _ (tree_without_objects t) = record { tree_is = told; objects_are = holds } in
    let now : Says new rule = subst (λ (s : StackModel). Says s rule) platform_is says in
    let is = now (tree_without_objects t) (h.in_step (tree_without_objects t) tells step) a.path h.looked_up in
    read-is t (setup_of_stack old) a is_dir rule (read-answered t told holds step h)
    (is
    ∙ ap (λ (m : StackSetup). option_map found_rule_of_decision (exclude (rulebook_of_stack_setup m (tree_without_objects t)) (components a.path) new.is_dir)) h.made
    ∙ ap (λ (d : Option Bool). option_map found_rule_of_decision (exclude (rulebook_of_stack_setup (setup_of_stack old) (tree_without_objects t)) (components a.path) d)) (h.is_dir ∙ kind_is))

abbrev Stopped : Names → StackSetup → AskedPath → Bool → AtPathError → Type 0
Stopped t made a is_dir e = IsFoundOrFailed {A = Option FoundRule} stops.Fault stops.OutOfMemory (Err (stop_of_lookup_error a.text e)) (look_up_deciding_rule t made a is_dir)

-- a refused lookup of a path that is normal
stopped-by : (t : Names) (made : StackSetup) (a : AskedPath) (is_dir : Bool) (told : Option Names) (holds : _) (TreeFailed StoreFailed : Type 0) (e : AtPathError) → Tells told holds (tree_without_objects t)
    → ExplainsLookupError told holds TreeFailed StoreFailed made (components a.path) e → Stopped t made a is_dir e
stopped-by t made a is_dir told holds TreeFailed StoreFailed errors.NotNormal tells refused = absurd refused
stopped-by t made a is_dir told holds TreeFailed StoreFailed (errors.Component why) tells refused = absurd refused
stopped-by t made a is_dir told holds TreeFailed StoreFailed (errors.Collision p) tells refused = absurd refused
stopped-by t made a is_dir told holds TreeFailed StoreFailed (errors.Directory p why) tells refused = absurd refused
stopped-by t made a is_dir told holds TreeFailed StoreFailed (errors.RulesFile p files.Link) tells refused =
    inl (unread-is t made a is_dir (unread-above t made a.path _ _ refused (λ d r. r.why_is.1 (tree_without_objects t) tells)))
stopped-by t made a is_dir told holds TreeFailed StoreFailed (errors.RulesFile p files.LinkLimit) tells refused =
    inl (unread-is t made a is_dir (unread-above t made a.path _ _ refused (λ d r. r.why_is (tree_without_objects t) tells)))
stopped-by t made a is_dir told holds TreeFailed StoreFailed (errors.RulesFile p files.Special) tells refused =
    inl (unread-is t made a is_dir (unread-above t made a.path _ _ refused (λ d r. r.why_is (tree_without_objects t) tells)))
stopped-by t made a is_dir told holds TreeFailed StoreFailed (errors.RulesFile p files.Fault) tells refused = inr (inl refl)
stopped-by t made a is_dir told holds TreeFailed StoreFailed (errors.Blob id blobs.Missing) tells refused =
    inl (unread-is t made a is_dir (unread-above t made a.path _ _ refused (λ d r. r.why_is (tree_without_objects t) tells)))
stopped-by t made a is_dir told holds TreeFailed StoreFailed (errors.Blob id blobs.NotABlob) tells refused =
    inl (unread-is t made a is_dir (unread-above t made a.path _ _ refused (λ d r. r.why_is (tree_without_objects t) tells)))
stopped-by t made a is_dir told holds TreeFailed StoreFailed (errors.Blob id blobs.Fault) tells refused = inr (inl refl)
stopped-by t made a is_dir told holds TreeFailed StoreFailed errors.OutOfMemory tells refused = inr (inr refl)

err_of : {T : Type 0} (e other : AtPathError) → IsErrOf {T = T} (Err e) other → e ≡ other
err_of e other is = cc is

pub stopped-refused : {W F T : Type 0} {w : WorktreeOf W} {f : FindOf F} {w0 w1 : W} {o0 o1 : F} {kind : Option Bool} {old new : StackModel} {e : AtPathError}
    → (t : Names) (a : AskedPath) (is_dir : Bool) → w.told w0 ≡ Some t → f.holds o0 ≡ Some empty
    → LooksUpPath {T = T} w f w0 w1 o0 o1 a.path kind old new (Err e) → Stopped t (setup_of_stack old) a is_dir e
stopped-refused {T = T} {w = w} {f = f} {w0 = w0} {w1 = w1} {o0 = o0} {o1 = o1} {old = old} {e = e} t a is_dir told holds h = go (is_relative_without_dots a.path) refl
  where
    go : (b : Bool) → is_relative_without_dots a.path ≡ b → Stopped t (setup_of_stack old) a is_dir e
    go true normal =
        stopped-by t (setup_of_stack old) a is_dir (w.told w0) (f.holds o0) (CountIncreasedOrSaturated (w.faults w0) (w.faults w1)) (CountIncreasedOrSaturated (f.faults o0) (f.faults o1)) e
        (record { tree_is = told; objects_are = holds }) (h.refused normal)
    go false normal =
        let unread = unread-is t (setup_of_stack old) a is_dir (and-left (is_relative_without_dots a.path) (are_rules_files_above_readable (setup_of_stack old) (tree_without_objects t) (components a.path)) normal) in
        inl (unread ∙ ap (λ (x : AtPathError). Err (stop_of_lookup_error a.text x)) (sym (err_of e errors.NotNormal (h.normal normal).0)))

-- ---- a fault has its cause

cause-by : (text : List ℕ) (names : List (List ℕ)) (made : StackSetup) (told : Option Names) (holds : _) (TreeFailed StoreFailed : Type 0) (e : AtPathError) → (StoreFailed → ⊥)
    → ExplainsLookupError told holds TreeFailed StoreFailed made names e → stop_of_lookup_error text e ≡ stops.Fault → TreeFailed
cause-by text names made told holds TreeFailed StoreFailed errors.NotNormal none refused is = absurd refused
cause-by text names made told holds TreeFailed StoreFailed (errors.Component why) none refused is = absurd refused
cause-by text names made told holds TreeFailed StoreFailed (errors.Collision p) none refused is = absurd refused
cause-by text names made told holds TreeFailed StoreFailed (errors.Directory p why) none refused is = absurd refused
cause-by text names made told holds TreeFailed StoreFailed (errors.RulesFile p files.Link) none refused is = absurd (cc is)
cause-by text names made told holds TreeFailed StoreFailed (errors.RulesFile p files.LinkLimit) none refused is = absurd (cc is)
cause-by text names made told holds TreeFailed StoreFailed (errors.RulesFile p files.Special) none refused is = absurd (cc is)
cause-by text names made told holds TreeFailed StoreFailed (errors.RulesFile p files.Fault) none refused is = refused.holds.why_is
cause-by text names made told holds TreeFailed StoreFailed (errors.Blob id blobs.Missing) none refused is = absurd (cc is)
cause-by text names made told holds TreeFailed StoreFailed (errors.Blob id blobs.NotABlob) none refused is = absurd (cc is)
cause-by text names made told holds TreeFailed StoreFailed (errors.Blob id blobs.Fault) none refused is = absurd (none refused.holds.why_is)
cause-by text names made told holds TreeFailed StoreFailed errors.OutOfMemory none refused is = absurd (cc is)

pub cause-refused : {W F T : Type 0} {w : WorktreeOf W} {f : FindOf F} {w0 w1 : W} {o0 o1 : F} {path : List ℕ} {kind : Option Bool} {old new : StackModel} {e : AtPathError}
    → (text : List ℕ) → (CountIncreasedOrSaturated (f.faults o0) (f.faults o1) → ⊥)
    → LooksUpPath {T = T} w f w0 w1 o0 o1 path kind old new (Err e) → stop_of_lookup_error text e ≡ stops.Fault → CountIncreasedOrSaturated (w.faults w0) (w.faults w1)
cause-refused {T = T} {w = w} {f = f} {w0 = w0} {w1 = w1} {o0 = o0} {o1 = o1} {path = path} {old = old} {e = e} text none h is = go (is_relative_without_dots path) refl
  where
    go : (b : Bool) → is_relative_without_dots path ≡ b → CountIncreasedOrSaturated (w.faults w0) (w.faults w1)
    go true normal =
        cause-by text (components path) (setup_of_stack old) (w.told w0) (f.holds o0) (CountIncreasedOrSaturated (w.faults w0) (w.faults w1)) (CountIncreasedOrSaturated (f.faults o0) (f.faults o1)) e none (h.refused normal) is
    go false normal =
        let unread : stops.Unread text ≡ stops.Fault = ap (stop_of_lookup_error text) (sym (err_of e errors.NotNormal (h.normal normal).0)) ∙ is in absurd (cc unread)

-- ---- what a lookup finds

no_fault : {T : Type 0} (x : T) → IsErrOf {T = T} {E = Stop} (Ok x) stops.Fault → ⊥
no_fault x is = absurd (cc is)

stop_is : {T : Type 0} (e other : Stop) → IsErrOf {T = T} (Err e) other → e ≡ other
stop_is e other is = cc is

-- where it is answered
pub answered-finds : {W F T : Type 0} (w : WorktreeOf W) (f : FindOf F) {w0 w1 : W} {o0 o1 : F} {path : List ℕ} {kind : Option Bool} {old new : StackModel} {done : T}
    → (a : AskedPath) (is_dir : Bool) (rule : Option FoundRule) (platform : StackModel) → f.holds o0 ≡ Some empty → ((s : TreeAndObjects) → IsInStepWithTree s old)
    → kind ≡ Some is_dir → platform ≡ new → path ≡ a.path → w.faults w1 ≡ w.faults w0 → KeepsTreeAndListCounts w w0 w1
    → LooksUpPath w f w0 w1 o0 o1 path kind old new (Ok done) → Says platform rule → FindsInTree w w0 w1 (λ t. look_up_deciding_rule t (setup_of_stack old) a is_dir) (Ok rule)
answered-finds w f {w0 = w0} {w1 = w1} {o0 = o0} {o1 = o1} {kind = kind} {old = old} {new = new} {done = done} a is_dir rule platform holds step kind_is platform_is path_is unfaulted asks h says =
    let there = subst (λ (p : List ℕ). LooksUpPath w f w0 w1 o0 o1 p kind old new (Ok done)) path_is h in
    record {
      gives = λ t told. gives-read t a is_dir rule platform told holds (step (tree_without_objects t)) kind_is platform_is there says;
      cause = λ is. absurd (no_fault rule is);
      unfaulted = unfaulted;
      keeps = asks;
    }

-- and where it is refused
pub refused-finds : {W F T : Type 0} (w : WorktreeOf W) (f : FindOf F) {w0 w1 : W} {o0 o1 : F} {path : List ℕ} {kind : Option Bool} {old new : StackModel} {e : AtPathError}
    → (a : AskedPath) (is_dir : Bool) (stop : Stop) → f.holds o0 ≡ Some empty → (CountIncreasedOrSaturated (f.faults o0) (f.faults o1) → ⊥)
    → path ≡ a.path → stop ≡ stop_of_lookup_error a.text e → KeepsTreeAndListCounts w w0 w1
    → LooksUpPath {T = T} w f w0 w1 o0 o1 path kind old new (Err e) → FindsInTree w w0 w1 (λ t. look_up_deciding_rule t (setup_of_stack old) a is_dir) (Err stop)
refused-finds {T = T} w f {w0 = w0} {w1 = w1} {o0 = o0} {o1 = o1} {kind = kind} {old = old} {new = new} {e = e} a is_dir stop holds none path_is stop_eq asks h =
    let there = subst (λ (p : List ℕ). LooksUpPath {T = T} w f w0 w1 o0 o1 p kind old new (Err e)) path_is h in
    let found : FindsInTree w w0 w1 (λ t. look_up_deciding_rule t (setup_of_stack old) a is_dir) (Err (stop_of_lookup_error a.text e)) =
    record {
      gives = λ t told. stopped-refused t a is_dir told holds there;
      cause = λ is. cause-refused a.text none there (stop_is (stop_of_lookup_error a.text e) stops.Fault is);
      unfaulted = tt;
      keeps = asks;
    } in
    subst (λ (s : Stop). FindsInTree w w0 w1 (λ t. look_up_deciding_rule t (setup_of_stack old) a is_dir) (Err s)) (sym stop_eq) found
