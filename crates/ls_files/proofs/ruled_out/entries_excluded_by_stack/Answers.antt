use Rattle.std.proofs.Common.{◌+◌, ◌∙◌, ◌∷◌, List, ap, drop, refl, rules, sym}
use Rattle.std.proofs.lemmas.List.{drop_more}
use Rattle.gitbase_core.specs.declared.entry.IndexEntry.{IndexEntry}
use Rattle.worktree_report.specs.Asked.{sources_of_tree_and_setup}
use Rattle.worktree_stack.specs.Stacked.{setup_of_stack}
use Rattle.ls_files.specs.Excluded.{excluded_entries_appended}
use Rattle.ls_files.proofs.RuledOut.{one-more}
use Rattle.ls_files.proofs.ruled_out.entries_excluded_by_stack.Goals as goal

pub loop-entry-init : goal.loop-entry-init
loop-entry-init g c =
    record {
      made = refl;
      in_step = λ t told. c.requires.in_step (sources_of_tree_and_setup t c.args.setup.now);
      same = λ t told. ap (λ (done : List IndexEntry). excluded_entries_appended t c.args.root.now c.args.setup.now (setup_of_stack c.args.stack.now) done c.args.entries.now) c.new-done.ensures;
      unfaulted = refl;
      keeps = search rules;
    }

pub loop-entry-preserved : goal.loop-entry-preserved
loop-entry-preserved g c =
    let finds = c.in_ok-excluded.ensures.finds in
    let invariant = c.loop-entry.invariant in
    record {
      made = c.in_ok-excluded.ensures.made ∙ invariant.made;
      in_step = λ t told. c.in_ok-excluded.ensures.in_step t (sym finds.keeps.tree ∙ told);
      same = λ t told.
          let next = drop_more c.args.entries.now c.loop-entry.entry-index c.entry-item.result c.loop-entry-test.true ∙ ap (λ (e : IndexEntry). e ∷ drop (c.loop-entry.entry-index + 1) c.args.entries.now) (sym c.entry-item.is) in
          one-more t c.args.root.now c.args.setup.now (setup_of_stack c.args.stack.now) _ c.loop-entry.done _ c.entry-item.result (drop (c.loop-entry.entry-index + 1) c.args.entries.now) _
          invariant.made (finds.gives t (invariant.keeps.tree ∙ told)) c.in_ok-push_copy_if_excluded.ensures
          ∙ ap (λ (entries : List IndexEntry). excluded_entries_appended t c.args.root.now c.args.setup.now (setup_of_stack c.args.stack.now) c.loop-entry.done entries) (sym next)
          ∙ invariant.same t told;
      unfaulted = finds.unfaulted ∙ invariant.unfaulted;
      keeps = search rules;
    }
