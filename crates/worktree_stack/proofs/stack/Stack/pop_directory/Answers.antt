-- The rules of the deepest directory are popped with it, and the call is counted.
use Rattle.std.proofs.Common.{◌≡◌, ◌∙◌, Option, ap, sym, subst, rules}
use Rattle.worktree_stack.specs.HeldOut.{AreLowestLists}
use Rattle.worktree_fs.specs.PathStack.{parent_of_deepest_directory, pop_directory}
use Rattle.worktree_stack.specs.declared.statistics.Statistics.{Statistics}
use Rattle.worktree_stack.specs.Counted.{delegate_counts_after_call}
use Rattle.worktree_stack.specs.Setup.{HeldAttributeLists, held_attribute_lists, seen_attribute_names, held_without_lists_of_directory}
use Rattle.worktree_stack.specs.Stacked.{setup_of_stack}
use Rattle.worktree_stack.proofs.Lookup.InStep.{popped}
use Rattle.worktree_stack.proofs.CheckOut.HeldOut.{lowest-popped}
use Rattle.worktree_stack.proofs.Lookup.Levels.{popped-level}
use Rattle.worktree_stack.proofs.Lookup.Seeing.{names-popped}
use Rattle.worktree_stack.proofs.CheckOut.Stepping.{carries-pop}
use Rattle.worktree_stack.proofs.stack.Stack.pop_directory.Goals as goal

pub returns-clause-pops : goal.returns-clause-pops
returns-clause-pops c =
    let old = c.args.self.now in
    let new = c.count_popped_directory.new.self in
    let same : new.attributes ≡ held_without_lists_of_directory c.deepest_pushed_directory.result.now old.attributes = search rules in
    let at : new.at ≡ parent_of_deepest_directory old.at = search rules in
    let counts : new.statistics ≡ record old.statistics { delegate = delegate_counts_after_call old.statistics.delegate pop_directory } = search rules in
    let made : setup_of_stack new ≡ setup_of_stack old = search rules in
    record {
      made = made;
      is_dir = search rules;
      answered = search rules;
      platforms = ap (λ (s : Statistics). s.platforms) counts;
      no_mkdirs = ap (λ (s : Statistics). s.delegate.num_mkdir_calls) counts;
      in_step = λ s in_step. popped s old new (search rules) (search rules) (search rules) (search rules) in_step;
      levels = popped-level old new (search rules) (search rules) (search rules);
      dropped = subst (λ (held : Option HeldAttributeLists). AreLowestLists (held_attribute_lists held) (held_attribute_lists old.attributes)) (sym same) (lowest-popped c.deepest_pushed_directory.result.now old.attributes);
      names = ap seen_attribute_names same ∙ names-popped c.deepest_pushed_directory.result.now old.attributes;
      carried = λ told holds. carries-pop told holds old new made at counts;
    }
