-- How the steps by which a directory comes to be at a path follow each other.
use Rattle.std.proofs.Common.{◌≡◌, ◌⊎◌, inl, inr, ◌≤◌, ◌+◌, ℕ, Bool, true, false, Option, Some, None, List, [], ◌∷◌, Result, Ok, Err, IfOk, reverse, if◌then◌else◌, refl, sym, ap, subst, ◌∙◌, arith}
use Rattle.std.specs.Prelude.{OnOk, OnErr, IsErrOf}
use Rattle.gitbase_core.specs.Causes.{saturating_increment as one_more}
use Rattle.std.proofs.lemmas.Result.{on_err_weaker, IfOk-weaker}
use Rattle.worktree_fs.specs.Answers.{kind_of_lookup, HoldsUnlessFault}
use Rattle.worktree_fs.specs.MadeAndRemoved.{DirectoryMadeAtPath, NodeRemovedAtPath}
use Rattle.worktree_fs.specs.Changes.{answer_to_make_dir, entries_after_make_dir, answer_to_remove_node, entries_after_remove_node, node_without_descendant, reversed_names_last_one_composed, slash_before_each_reversed_name, make_answer_of_add_error, entries_with_directory_added}
use Rattle.worktree_fs.specs.Grow.{add_error_at_path, entries_of_node_if_directory}
use Rattle.worktree_fs.specs.declared.memory.grow.AddError.{AddError}
use Rattle.worktree_fs.specs.Naming.{IsValidTree}
use Rattle.worktree_fs.specs.Tree.{Names, PathResolution, reached, missing, nowhere, endless, Node, file, link, directory, other, none, is_directory, resolution_of_path, look, lookup_result_of_resolution}
use Rattle.worktree_fs.specs.declared.answers.MakeAnswer.{MakeAnswer}
use Rattle.worktree_fs.specs.declared.answers.ReadError.{ReadError}
use Rattle.worktree_fs.specs.declared.worktree.Worktree.{Ghosts as WorktreeOf}
use Rattle.worktree_fs.specs.declared.answers.MakeAnswer.TheVariants as makes
use Rattle.worktree_fs.specs.declared.answers.NodeKind.{NodeKind}
use Rattle.worktree_fs.specs.declared.answers.NodeKind.TheVariants as kinds
use Rattle.worktree_fs.specs.declared.answers.RemoveAnswer.TheVariants as removes
use Rattle.worktree_fs.proofs.Trees.Changed.{makes-there, removes-gone}
use Rattle.worktree_fs.proofs.Routes.Lookups.{on_ok}
use Rattle.worktree_stack.specs.declared.error.AtPathError.{AtPathError}
use Rattle.worktree_stack.specs.Checkout.{DirectoryOutcome, EqualsDirectoryOutcome, IsUnchangedOrUnlinked, KeepsListingsAndReads, EnsuresDirectory, IsTreeAfterEnsuringDirectory, LeadsToDirectory, IsLastNameComposed, ExplainsMissingDirectory, CreatesLeadingDirectory, CountsOneOrTwoMkdirs, CountsAtMostOneMkdir, outcome_of_make_dir, outcome_of_unlink_then_make, outcome_by_existing_kind}
use Rattle.worktree_stack.proofs.Refusals.{rose-earlier}

module _ {W : Type 0} (w : WorktreeOf W) where
  pub Changes-join : {a b c : W} → KeepsListingsAndReads w a b → KeepsListingsAndReads w b c → KeepsListingsAndReads w a c
  Changes-join x y = record {
    untold = λ none. y.untold (x.untold none);
    faults = omega (arith, x.faults, y.faults);
    list_faults = y.list_faults ∙ x.list_faults;
    reads = y.reads ∙ x.reads;
    lists = y.lists ∙ x.lists;
    precomposes = y.precomposes ∙ x.precomposes;
  }

-- an answer, with what was told and counted
pub outcome-told : (result : Result MakeAnswer ReadError) (outcome : DirectoryOutcome) (told : Option Names) (calls : ℕ) → IfOk result (λ answer. answer ≡ outcome.answer)
    → OnOk result (told ≡ Some outcome.tree) → calls ≡ outcome.calls → IfOk result (EqualsDirectoryOutcome outcome told calls)
outcome-told (Ok answer) outcome told calls is tree counted = record { answer_is = is; tree_is = tree; calls_are = counted }
outcome-told (Err error) outcome told calls is tree counted = tt

-- a tree that stayed where a call failed
pub partly-kept : {T E : Type 0} (result : Result T E) (unlinks : Bool) (t : Names) (path : List ℕ) (calls again : ℕ) (before now : Option Names) → before ≡ Some t → OnErr result (now ≡ before)
    → OnErr result (IsUnchangedOrUnlinked unlinks t path calls again now)
partly-kept (Ok x) unlinks t path calls again before now told kept = tt
partly-kept (Err e) unlinks t path calls again before now told kept = inl (kept ∙ told)

-- an answer that hides no failure
pub ok-unless : {T : Type 0} (P : Type 0) (result : Result T ReadError) → HoldsUnlessFault result P → OnOk result P
ok-unless P (Ok x) holds = holds
ok-unless P (Err e) holds = tt

-- a directory that was made is there
pub made-there : (result : Result MakeAnswer ReadError) (composes : Bool) (t : Names) (path : List ℕ) → IsValidTree (directory t) → IsLastNameComposed composes path
    → IfOk result (λ answer. answer ≡ answer_to_make_dir composes t (resolution_of_path t path false))
    → IfOk result (λ answer. answer ≡ makes.Made → LeadsToDirectory (entries_after_make_dir composes t (resolution_of_path t path false)) path)
made-there result composes t path tree keeps = IfOk-weaker result _ _ (λ answer given is.
    let made : DirectoryMadeAtPath path t (entries_after_make_dir composes t (resolution_of_path t path false)) = makes-there composes t path tree (keeps t) (sym given ∙ is) in
    (made.names, none, made.is))

-- a path with the kind of a directory leads to one
pub directory-leads : (t : Names) (path : List ℕ) → kind_of_lookup (look t path false) ≡ Some kinds.Directory → LeadsToDirectory t path
directory-leads t path = go (resolution_of_path t path false)
  where
    go : (at : PathResolution) → kind_of_lookup (lookup_result_of_resolution at) ≡ Some kinds.Directory → (names : List (List ℕ)) × (inner : Names) × (at ≡ reached names (directory inner))
    go (reached names (file bytes)) e = absurd (cc e)
    go (reached names (link target)) e = absurd (cc e)
    go (reached names (directory inner)) e = (names, inner, refl)
    go (reached names other) e = absurd (cc e)
    go (missing names rest) e = absurd (cc e)
    go nowhere e = absurd (cc e)
    go endless e = absurd (cc e)

-- where something is no directory is made, and the tree stays
pub exists-stays : (composes : Bool) (t : Names) (at : PathResolution) → answer_to_make_dir composes t at ≡ makes.Exists → entries_after_make_dir composes t at ≡ t
exists-stays composes t (reached names node) e = refl
exists-stays composes t (missing names []) e = go (add_error_at_path t (slash_before_each_reversed_name (reversed_names_last_one_composed composes names))) e
  where
    go : (refusal : Option AddError) → make_answer_of_add_error refusal ≡ makes.Exists → entries_with_directory_added refusal t (slash_before_each_reversed_name (reversed_names_last_one_composed composes names)) ≡ t
    go None e = absurd (cc e)
    go (Some refusal) e = refl
exists-stays composes t (missing names (piece ∷ rest)) e = refl
exists-stays composes t nowhere e = refl
exists-stays composes t endless e = refl

-- and where there is no directory for it to be in
noparent-stays : (composes : Bool) (t : Names) (at : PathResolution) → answer_to_make_dir composes t at ≡ makes.NoParent → entries_after_make_dir composes t at ≡ t
noparent-stays composes t (reached names node) e = refl
noparent-stays composes t (missing names []) e = go (add_error_at_path t (slash_before_each_reversed_name (reversed_names_last_one_composed composes names))) e
  where
    go : (refusal : Option AddError) → make_answer_of_add_error refusal ≡ makes.NoParent → entries_with_directory_added refusal t (slash_before_each_reversed_name (reversed_names_last_one_composed composes names)) ≡ t
    go None e = absurd (cc e)
    go (Some refusal) e = refl
noparent-stays composes t (missing names (piece ∷ rest)) e = refl
noparent-stays composes t nowhere e = refl
noparent-stays composes t endless e = refl

pub some-same : {A : Type 0} {a b : A} → Some a ≡ Some b → a ≡ b
some-same e = cc

-- what a tree became where a directory was asked to be made
pub made-changed : (result : Result MakeAnswer ReadError) (composes : Bool) (t now : Names) (path : List ℕ) (before after : Option Names) → IsValidTree (directory t) → IsLastNameComposed composes path
    → IfOk result (λ answer. answer ≡ answer_to_make_dir composes t (resolution_of_path t path false)) → OnOk result (after ≡ Some (entries_after_make_dir composes t (resolution_of_path t path false))) → OnErr result (after ≡ before)
    → before ≡ Some t → after ≡ Some now → (now ≡ t) ⊎ DirectoryMadeAtPath path t now
made-changed (Ok makes.Made) composes t now path before after tree keeps given made kept told told1 =
    inr (subst (DirectoryMadeAtPath path t) (some-same (sym made ∙ told1)) (makes-there composes t path tree (keeps t) (sym given)))
made-changed (Ok makes.Exists) composes t now path before after tree keeps given made kept told told1 =
    inl (sym (some-same (sym made ∙ told1)) ∙ exists-stays composes t (resolution_of_path t path false) (sym given))
made-changed (Ok makes.NoParent) composes t now path before after tree keeps given made kept told told1 =
    inl (sym (some-same (sym made ∙ told1)) ∙ noparent-stays composes t (resolution_of_path t path false) (sym given))
made-changed (Err e) composes t now path before after tree keeps given made kept told told1 = inl (some-same (sym told1 ∙ kept ∙ told))

pub replaced-made : {t now : Names} {path : List ℕ} (unlinks : Bool) → (now ≡ t) ⊎ DirectoryMadeAtPath path t now → IsTreeAfterEnsuringDirectory unlinks path t now
replaced-made unlinks (inl same) = inl same
replaced-made unlinks (inr made) = inr (inl made)

-- where nothing may be removed the tree stayed, or a directory was made
pub replaced-plain : {t now : Names} {path : List ℕ} → IsTreeAfterEnsuringDirectory false path t now → (now ≡ t) ⊎ DirectoryMadeAtPath path t now
replaced-plain (inl same) = inl same
replaced-plain (inr (inl made)) = inr made
replaced-plain (inr (inr removed)) = absurd (cc removed.0)

-- a tree of which a node was asked to be removed
removed-or-same : (t : Names) (path : List ℕ) → IsValidTree (directory t) → NodeRemovedAtPath path t (entries_after_remove_node t (resolution_of_path t path false)) ⊎ (entries_after_remove_node t (resolution_of_path t path false) ≡ t)
removed-or-same t path tree = go (resolution_of_path t path false) refl
  where
    leaf : (names : List (List ℕ)) (node : Node) (b : Bool) → is_directory node ≡ b → resolution_of_path t path false ≡ reached names node
        → NodeRemovedAtPath path t (entries_after_remove_node t (resolution_of_path t path false)) ⊎ (entries_after_remove_node t (resolution_of_path t path false) ≡ t)
    leaf names node true is at = inr (ap (entries_after_remove_node t) at ∙ ap (λ b. if b then t else entries_of_node_if_directory (Some (node_without_descendant (reverse names) (directory t)))) is)
    leaf names node false is at = inl (removes-gone t path tree (ap answer_to_remove_node at ∙ ap (λ b. if b then removes.IsDirectory else removes.Removed) is))

    go : (at : PathResolution) → resolution_of_path t path false ≡ at → NodeRemovedAtPath path t (entries_after_remove_node t (resolution_of_path t path false)) ⊎ (entries_after_remove_node t (resolution_of_path t path false) ≡ t)
    go (reached names node) is = leaf names node (is_directory node) refl is
    go (missing names rest) is = inr (ap (entries_after_remove_node t) is)
    go nowhere is = inr (ap (entries_after_remove_node t) is)
    go endless is = inr (ap (entries_after_remove_node t) is)

-- what a tree became where a directory was asked to be made in the place of a node that was asked to be removed
pub removed-changed : (t now : Names) (path : List ℕ) → IsValidTree (directory t) → (now ≡ entries_after_remove_node t (resolution_of_path t path false)) ⊎ DirectoryMadeAtPath path (entries_after_remove_node t (resolution_of_path t path false)) now
    → IsTreeAfterEnsuringDirectory true path t now
removed-changed t now path tree after = elim (removed-or-same t path tree) [
  | inl removed ↦ inr (inr (refl, entries_after_remove_node t (resolution_of_path t path false), removed, after))
  | inr same ↦ replaced-made true (subst (λ (m : Names). (now ≡ m) ⊎ DirectoryMadeAtPath path m now) same after)
]

-- a node that is no directory is in the way
pub in-the-way : (unlinks composes : Bool) (t : Names) (path : List ℕ) (calls : ℕ) (kind : NodeKind) → (kind ≡ kinds.Directory → ⊥)
    → outcome_of_unlink_then_make unlinks composes t path calls ≡ outcome_by_existing_kind unlinks composes t path calls (Some kind)
in-the-way unlinks composes t path calls kinds.File differs = refl
in-the-way unlinks composes t path calls kinds.Symlink differs = refl
in-the-way unlinks composes t path calls kinds.Directory differs = absurd (differs refl)
in-the-way unlinks composes t path calls kinds.Untrackable differs = refl

-- what an answer says where a call gave it
pub given : {T E : Type 0} (P : T → Type 0) (result : Result T E) (answer : T) → result ≡ Ok answer → IfOk result P → P answer
given P result answer is holds = subst (λ (r : Result _ _). IfOk r P) is holds

-- an error that was handed on is the one that was met
pub met-error : {T U E : Type 0} (met error : E) → IsErrOf {T = T} (Err met) error → IsErrOf {T = U} (Err met) error
met-error met error is = ap Err (same is)
  where
    same : {T : Type 0} → IsErrOf {T = T} (Err met) error → met ≡ error
    same e = cc e

-- an answer is no error
pub is-answer : {T E : Type 0} (answer : T) (error : E) → IsErrOf (Ok answer) error → ⊥
is-answer answer error e = cc e

-- what is done of a tree is what is done of an equal outcome
pub outcome-same : (result : Result MakeAnswer ReadError) (a b : DirectoryOutcome) (told : Option Names) (calls : ℕ) → a ≡ b → IfOk result (EqualsDirectoryOutcome a told calls) → IfOk result (EqualsDirectoryOutcome b told calls)
outcome-same result a b told calls e was = subst (λ (p : DirectoryOutcome). IfOk result (EqualsDirectoryOutcome p told calls)) e was

module _ {W : Type 0} (w : WorktreeOf W) (path : List ℕ) where
  -- a directory is made behind a removal
  pub prepares-removed : {w0 w1 w2 : W} {calls0 calls1 : ℕ} {result : Result MakeAnswer ReadError} → ((t : Names) → w.told w0 ≡ Some t → IsValidTree (directory t)) → KeepsListingsAndReads w w0 w1
      → w.faults w1 ≡ w.faults w0 → ((t : Names) → w.told w0 ≡ Some t → w.told w1 ≡ Some (entries_after_remove_node t (resolution_of_path t path false)))
      → EnsuresDirectory w w1 w2 false path (λ t. outcome_of_make_dir (w.precomposes w1) t path calls0) calls0 calls1 (calls0 + 1) (one_more calls0) (λ n. n ≡ one_more calls0) result
      → EnsuresDirectory w w0 w2 true path (λ t. outcome_of_unlink_then_make true (w.precomposes w0) t path calls0) calls0 calls1 (calls0 + 1) (one_more calls0) (CountsAtMostOneMkdir calls0) result
  prepares-removed {w0} {w1} {w2} {calls0} {calls1} {result} tree first unfaulted removed made = record {
    done = λ t told. outcome-same result _ _ (w.told w2) calls1 (ap (λ b. outcome_of_make_dir b (entries_after_remove_node t (resolution_of_path t path false)) path calls0) first.precomposes)
        (made.done (entries_after_remove_node t (resolution_of_path t path false)) (removed t told));
    there = λ t told keeps. IfOk-weaker result _ _ (λ answer there is. subst (λ b. LeadsToDirectory (outcome_of_make_dir b (entries_after_remove_node t (resolution_of_path t path false)) path calls0).tree path) first.precomposes (there is))
        (made.there (entries_after_remove_node t (resolution_of_path t path false)) (removed t told) (subst (λ b. IsLastNameComposed b path) (sym first.precomposes) keeps));
    partly = λ t told. on_err_weaker result (left t) (made.partly (entries_after_remove_node t (resolution_of_path t path false)) (removed t told));
    cause = λ is. rose-earlier (w.faults w0) (w.faults w1) (w.faults w2) first.faults (made.cause is);
    unfaulted = on_ok result (λ e. e ∙ unfaulted) made.unfaulted;
    calls = made.calls;
    most_calls = made.most_calls;
    asked = inr made.asked;
    changes = Changes-join w first made.changes;
    changed = λ t now told told1 keeps. removed-changed t now path (tree t told)
        (replaced-plain (made.changed (entries_after_remove_node t (resolution_of_path t path false)) now (removed t told) told1 (subst (λ b. IsLastNameComposed b path) (sym first.precomposes) keeps)));
  }
    where
      left : (t : Names) → IsUnchangedOrUnlinked false (entries_after_remove_node t (resolution_of_path t path false)) path calls1 (one_more calls0) (w.told w2) → IsUnchangedOrUnlinked true t path calls1 (one_more calls0) (w.told w2)
      left t partly = elim partly [
        | inl is ↦ inr (refl, made.asked, is)
        | inr (never, counted, is) ↦ absurd (cc never)
      ]

  -- a step behind others that left the tree as it was
  pub prepares-behind : {w0 w1 w2 : W} {calls0 calls1 calls2 middle most again : ℕ} {Asked Before : ℕ → Type 0} {result : Result MakeAnswer ReadError} (unlinks : Bool) (outcome before : Names → DirectoryOutcome) → KeepsListingsAndReads w w0 w1
      → w.faults w1 ≡ w.faults w0 → ((t : Names) → w.told w0 ≡ Some t → (w.told w1 ≡ Some t) × (outcome t ≡ before t)) → calls0 ≤ calls1 → middle ≤ most → ((n : ℕ) → Asked n → Before n)
      → EnsuresDirectory w w1 w2 unlinks path outcome calls1 calls2 middle again Asked result → EnsuresDirectory w w0 w2 unlinks path before calls0 calls2 most again Before result
  prepares-behind {w0} {w1} {w2} {calls0} {calls1} {calls2} {middle} {most} {again} {Asked} {Before} {result} unlinks outcome before first unfaulted same begun less also next = record {
    done = λ t told. outcome-same result _ _ (w.told w2) calls2 (same t told).1 (next.done t (same t told).0);
    there = λ t told keeps. IfOk-weaker result _ _ (λ answer leads is. subst (λ (p : DirectoryOutcome). LeadsToDirectory p.tree path) (same t told).1 (leads is))
        (next.there t (same t told).0 (subst (λ b. IsLastNameComposed b path) (sym first.precomposes) keeps));
    partly = λ t told. next.partly t (same t told).0;
    cause = λ is. rose-earlier (w.faults w0) (w.faults w1) (w.faults w2) first.faults (next.cause is);
    unfaulted = on_ok result (λ e. e ∙ unfaulted) next.unfaulted;
    calls = omega (arith, begun, next.calls);
    most_calls = omega (arith, less, next.most_calls);
    asked = also calls2 next.asked;
    changes = Changes-join w first next.changes;
    changed = λ t now told told1 keeps. next.changed t now (same t told).0 told1 (subst (λ b. IsLastNameComposed b path) (sym first.precomposes) keeps);
  }

  -- a call that fails leaves what was, and where nothing may be removed no more is said of it
  pub prepares-more : {w0 w1 : W} {calls0 calls1 most again : ℕ} {Asked : ℕ → Type 0} {result : Result MakeAnswer ReadError} (unlinks : Bool) (outcome : Names → DirectoryOutcome)
      → EnsuresDirectory w w0 w1 false path outcome calls0 calls1 most again Asked result → EnsuresDirectory w w0 w1 unlinks path outcome calls0 calls1 most again Asked result
  prepares-more {w0} {w1} {calls0} {calls1} {most} {again} {Asked} {result} unlinks outcome made = record {
    done = made.done;
    there = made.there;
    partly = λ t told. on_err_weaker result (λ (partly : IsUnchangedOrUnlinked false t path calls1 again (w.told w1)). elim partly [
      | inl is ↦ inl is
      | inr (never, counted, is) ↦ absurd (cc never)
    ]) (made.partly t told);
    cause = made.cause;
    unfaulted = made.unfaulted;
    calls = made.calls;
    most_calls = made.most_calls;
    asked = made.asked;
    changes = made.changes;
    changed = λ t now told told1 keeps. replaced-made unlinks (replaced-plain (made.changed t now told told1 keeps));
  }

  -- nothing is made, and the tree stays
  pub prepares-nothing : {w0 w1 : W} (calls : ℕ) (answer : MakeAnswer) (unlinks : Bool) (outcome : Names → DirectoryOutcome) → KeepsListingsAndReads w w0 w1 → w.faults w1 ≡ w.faults w0 → w.told w1 ≡ w.told w0
      → ((t : Names) → w.told w0 ≡ Some t → outcome t ≡ record { answer = answer; tree = t; calls = calls })
      → ((t : Names) → w.told w0 ≡ Some t → answer ≡ makes.Made → LeadsToDirectory t path)
      → EnsuresDirectory w w0 w1 unlinks path outcome calls calls (calls + 1) (one_more calls) (CountsAtMostOneMkdir calls) (Ok answer)
  prepares-nothing {w0} {w1} calls answer unlinks outcome changes unfaulted told_is same leads = record {
    done = λ t told.
        let is : outcome t ≡ record { answer = answer; tree = t; calls = calls } = same t told in
        record { answer_is = sym (ap (λ (p : DirectoryOutcome). p.answer) is); tree_is = told_is ∙ told ∙ sym (ap (λ (p : DirectoryOutcome). Some p.tree) is); calls_are = sym (ap (λ (p : DirectoryOutcome). p.calls) is) };
    there = λ t told keeps is. subst (λ (tree : Names). LeadsToDirectory tree path) (sym (ap (λ (p : DirectoryOutcome). p.tree) (same t told))) (leads t told is);
    partly = λ t told. tt;
    cause = λ is. absurd (is-answer answer _ is);
    unfaulted = unfaulted;
    calls = omega arith;
    most_calls = omega arith;
    asked = inl refl;
    changes = changes;
    changed = λ t now told told1 keeps. inl (some-same (sym told1 ∙ told_is ∙ told));
  }

  -- a directory that is to be there is refused
  pub creates-refused : {w0 w1 : W} {calls0 calls1 : ℕ} {result : Result MakeAnswer ReadError} {unlinks : Bool} {outcome : Names → DirectoryOutcome} (error : AtPathError)
      → EnsuresDirectory w w0 w1 unlinks path outcome calls0 calls1 (calls0 + 2) (one_more (one_more calls0)) (CountsOneOrTwoMkdirs calls0) result
      → ExplainsMissingDirectory w w0 w1 unlinks path calls0 calls1 error → CreatesLeadingDirectory w w0 w1 unlinks path calls0 calls1 (Err error)
  creates-refused error prepares refused = record {
    made = λ t told. tt;
    there = λ t told keeps. tt;
    refused = refused;
    unfaulted = tt;
    asked = prepares.asked;
    calls = prepares.calls;
    most_calls = prepares.most_calls;
    changes = prepares.changes;
    changed = prepares.changed;
  }
