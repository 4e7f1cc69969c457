use Rattle.std.proofs.Common.{◌≡◌, ◌∙◌, rules, Bool, true, Result, Ok, Err, List, ℕ, Some, None, false, refl, sym, ap, subst, if◌then◌else◌, OnOk, OnErr, IfOk}
use Rattle.std.specs.Prelude.{MatchResult}
use Rattle.worktree_fs.specs.Tree.{Names, look, resolution_of_path}
use Rattle.worktree_fs.specs.MadeAndRemoved.{AnswersMakeInExistingParent, NodeRemovedAtPath}
use Rattle.worktree_fs.specs.Answers.{ListsDirectoryNamesInAnyOrder, ListErrorFitsLookup}
use Rattle.worktree_fs.specs.Memory.{MemoryWorktreeModel, ListsDirectoryNamesInOrder, tree_if_valid, is_next_call_planned_to_fail}
use Rattle.worktree_fs.specs.declared.memory.plan.CallKind.TheVariants as calls
use Rattle.worktree_fs.specs.Changes.{answer_to_make_dir, entries_after_make_dir, answer_to_remove_node, entries_after_remove_node}
use Rattle.worktree_fs.specs.declared.answers.ListError.{ListError}
use Rattle.worktree_fs.specs.declared.answers.ReadError.{ReadError}
use Rattle.worktree_fs.specs.declared.answers.ReadError.TheVariants as errors
use Rattle.worktree_fs.specs.declared.answers.RemoveAnswer.{RemoveAnswer}
use Rattle.worktree_fs.proofs.Lists.Distinct.{lists_names}
use Rattle.worktree_fs.proofs.Trees.Tested.{told_is}
use Rattle.worktree_fs.proofs.memory.MemoryWorktreeWorktree.TheImpl.Goals as goal

lists : (is_reversed : _) (at : _) (r : Result (List (List ℕ)) ListError) → MatchResult r (ListsDirectoryNamesInOrder is_reversed at) (ListErrorFitsLookup at) → MatchResult r (ListsDirectoryNamesInAnyOrder at) (ListErrorFitsLookup at)
lists is_reversed at (Ok listed) h = lists_names is_reversed at listed h
lists is_reversed at (Err error) h = h

pub list-tells : goal.list-tells
list-tells c = record {
  answer = λ t told.
      lists c.args.self.now.is_reversed (look t c.args.path.now c.args.follow) c.result
      (subst (λ (n : Names). MatchResult c.result (ListsDirectoryNamesInOrder c.args.self.now.is_reversed (look n c.args.path.now c.args.follow)) (ListErrorFitsLookup (look n c.args.path.now c.args.follow))) (told_is c.args.self.now.tree t told) c.ensures.answer);
  names = c.ensures.names;
  composed = c.ensures.kept;
  tree = ap (λ (m : MemoryWorktreeModel). tree_if_valid m.tree) c.ensures.state;
  cause = c.ensures.counts.cause;
  unfaulted = c.ensures.counts.unfaulted;
  faults = c.ensures.counts.faults_later;
  list_cause = c.ensures.counts.list_cause;
  list_faults = c.ensures.counts.list_faults_later;
  list_faults_kept = c.ensures.counts.list_faults_kept;
  reads = ap (λ (m : MemoryWorktreeModel). m.reads) c.ensures.state;
  lists = ap (λ (m : MemoryWorktreeModel). m.lists) c.ensures.state;
  lists_later = c.ensures.counts.lists_later;
  precomposes = ap (λ (m : MemoryWorktreeModel). m.composes) c.ensures.state;
}

pub read-tells : goal.read-tells
read-tells c = record {
  answer = search rules;
  bytes = search rules;
  into = c.ensures.into;
  link = c.ensures.link;
  tree = ap (λ (m : MemoryWorktreeModel). tree_if_valid m.tree) c.ensures.state;
  cause = search rules;
  unfaulted = search rules;
  faults = c.ensures.later;
  list_faults = ap (λ (m : MemoryWorktreeModel). m.list_faults) c.ensures.state;
  reads = ap (λ (m : MemoryWorktreeModel). m.reads) c.ensures.state;
  reads_later = c.ensures.reads_later;
  lists = ap (λ (m : MemoryWorktreeModel). m.lists) c.ensures.state;
  precomposes = ap (λ (m : MemoryWorktreeModel). m.composes) c.ensures.state;
}

made_of : {T P Q : Type 0} (r : Result T ReadError) → (P → Q) → OnOk r P → OnOk r Q
made_of (Ok answer) f p = f p
made_of (Err error) f p = tt

kept_of : {T P Q : Type 0} (r : Result T ReadError) → (P → Q) → OnErr r P → OnErr r Q
kept_of (Ok answer) f p = tt
kept_of (Err error) f p = f p

told_clash : (t : Names) → tree_if_valid t ≡ Some t → tree_if_valid t ≡ None → ⊥
told_clash t e f = cc

pub make_dir-tells : goal.make_dir-tells
make_dir-tells c = record {
  answer = λ t told. subst (λ (n : Names). IfOk c.result (λ answer. answer ≡ answer_to_make_dir c.args.self.now.composes n (resolution_of_path n c.args.path.now false))) (told_is c.args.self.now.tree t told) c.ensures.answer;
  inside = λ t told. subst (λ (n : Names). IfOk c.result (AnswersMakeInExistingParent c.args.self.now.composes n c.args.path.now)) (told_is c.args.self.now.tree t told) c.ensures.inside;
  made = λ t told. made_of c.result (λ (is : c.new.self.now.tree ≡ entries_after_make_dir c.args.self.now.composes c.args.self.now.tree (resolution_of_path c.args.self.now.tree c.args.path.now false)).
      c.ensures.told ∙ ap Some (is ∙ ap (λ (n : Names). entries_after_make_dir c.args.self.now.composes n (resolution_of_path n c.args.path.now false)) (told_is c.args.self.now.tree t told))) c.ensures.made;
  kept = kept_of c.result (λ (is : c.new.self.now.tree ≡ c.args.self.now.tree). ap tree_if_valid is) c.ensures.refused;
  untold = λ none. absurd (told_clash c.args.self.now.tree c.ensures.told_before none);
  cause = search rules;
  unfaulted = search rules;
  faults = c.ensures.later;
  list_faults = ap (λ (m : MemoryWorktreeModel). m.list_faults) c.ensures.rest;
  reads = ap (λ (m : MemoryWorktreeModel). m.reads) c.ensures.rest;
  lists = ap (λ (m : MemoryWorktreeModel). m.lists) c.ensures.rest;
  precomposes = ap (λ (m : MemoryWorktreeModel). m.composes) c.ensures.rest;
}

-- a removal that was planned to fail, or was made
module _ (answer : RemoveAnswer) (old after : Names) where
  abbrev faulted : Bool → Result RemoveAnswer ReadError
  faulted b = if b then Err errors.Fault else Ok answer

  answered : (b : Bool) (r : Result RemoveAnswer ReadError) → r ≡ faulted b → IfOk r (λ a. a ≡ answer)
  answered true r e = subst (λ (x : Result RemoveAnswer ReadError). IfOk x (λ a. a ≡ answer)) (sym e) tt
  answered false r e = subst (λ (x : Result RemoveAnswer ReadError). IfOk x (λ a. a ≡ answer)) (sym e) refl

  changed : (b : Bool) (r : Result RemoveAnswer ReadError) (new : Names) → r ≡ faulted b → new ≡ (if b then old else after) → OnOk r (new ≡ after)
  changed true r new e f = subst (λ (x : Result RemoveAnswer ReadError). OnOk x (new ≡ after)) (sym e) tt
  changed false r new e f = subst (λ (x : Result RemoveAnswer ReadError). OnOk x (new ≡ after)) (sym e) f

  unchanged : (b : Bool) (r : Result RemoveAnswer ReadError) (new : Names) → r ≡ faulted b → new ≡ (if b then old else after) → OnErr r (new ≡ old)
  unchanged true r new e f = subst (λ (x : Result RemoveAnswer ReadError). OnErr x (new ≡ old)) (sym e) f
  unchanged false r new e f = subst (λ (x : Result RemoveAnswer ReadError). OnErr x (new ≡ old)) (sym e) tt

pub remove_node-tells : goal.remove_node-tells
remove_node-tells c =
    let old = c.args.self.now.tree in
    let new = c.new.self.now.tree in
    let at = resolution_of_path old c.args.path.now false in
    let planned = is_next_call_planned_to_fail c.args.self.now calls.RemoveNode in
    let after = entries_after_remove_node old at in
    record {
      answer = λ t told. subst (λ (n : Names). IfOk c.result (λ answer. answer ≡ answer_to_remove_node (resolution_of_path n c.args.path.now false))) (told_is old t told)
          (answered (answer_to_remove_node at) old after planned c.result c.ensures.answer);
      removed = λ t told. made_of c.result (λ (is : new ≡ after). c.ensures.told ∙ ap Some (is ∙ ap (λ (n : Names). entries_after_remove_node n (resolution_of_path n c.args.path.now false)) (told_is old t told)))
          (changed (answer_to_remove_node at) old after planned c.result new c.ensures.answer c.ensures.tree);
      gone = λ t now told told_now removed.
          subst (λ (n : Names). NodeRemovedAtPath c.args.path.now n now) (told_is old t told)
          (subst (λ (n : Names). NodeRemovedAtPath c.args.path.now old n) (told_is new now told_now) (c.ensures.gone removed));
      kept = kept_of c.result (λ (is : new ≡ old). ap tree_if_valid is) (unchanged (answer_to_remove_node at) old after planned c.result new c.ensures.answer c.ensures.tree);
      untold = λ none. absurd (told_clash old c.ensures.told_before none);
      cause = search rules;
      unfaulted = search rules;
      faults = c.ensures.later;
      list_faults = ap (λ (m : MemoryWorktreeModel). m.list_faults) c.ensures.rest;
      reads = ap (λ (m : MemoryWorktreeModel). m.reads) c.ensures.rest;
      lists = ap (λ (m : MemoryWorktreeModel). m.lists) c.ensures.rest;
      precomposes = ap (λ (m : MemoryWorktreeModel). m.composes) c.ensures.rest;
    }
