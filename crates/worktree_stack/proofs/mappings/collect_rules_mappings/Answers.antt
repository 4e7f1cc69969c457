use Rattle.std.proofs.Common.{◌≡◌, ◌∙◌, List, Option, ap, arith}
use Rattle.std.proofs.lemmas.List.{take_all}
use Rattle.gitbase_core.specs.declared.entry.IndexEntry.{IndexEntry}
use Rattle.worktree_stack.specs.Mappings.{are_mapping_paths_ascending, rules_file_mappings_of_index}
use Rattle.worktree_stack.specs.Setup.{AttributesSetup, Setup, setup_of_held_attributes, setup_of_held_ignore_rules}
use Rattle.worktree_stack.specs.Stacked.{held_attributes_of_state, held_ignore_rules_of_state}
use Rattle.worktree_stack.proofs.Rules.FromIndex.{ascending_mappings}
use Rattle.worktree_stack.proofs.mappings.collect_rules_mappings.Goals as goal

pub returns-clause-ascending : goal.returns-clause-ascending
returns-clause-ascending c =
    let attributes : Option AttributesSetup = setup_of_held_attributes (held_attributes_of_state c.args.state.now) in
    let ignore : Option Setup = setup_of_held_ignore_rules (held_ignore_rules_of_state c.args.state.now) in
    let all : c.loop-entry.mappings.items ≡ rules_file_mappings_of_index c.args.case attributes ignore c.args.index.now =
    c.loop-entry.invariant
    ∙ ap (λ (es : List IndexEntry). rules_file_mappings_of_index c.args.case attributes ignore es)
    (take_all c.loop-entry.entry-index c.entries-entry-items.result.now (omega (arith, c.loop-entry-test.false)) ∙ c.entries-entry-items.ensures.same) in
    ap are_mapping_paths_ascending all ∙ ascending_mappings c.args.case attributes ignore c.args.index.now c.entries-entry-items.ensures.index
