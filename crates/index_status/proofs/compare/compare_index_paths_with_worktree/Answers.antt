use Rattle.std.proofs.Common.{arith, drop, ◌+◌, ◌∙◌, Option, subst, sym}
use Rattle.std.proofs.lemmas.List.{drop_all}
use Rattle.std.proofs.lemmas.Result.{err_from_is_err_and}
use Rattle.index_status.proofs.Alongside.{along-done, along-entry, along-start, next-left, paired-told, possible-rows, unless-later}
use Rattle.index_status.proofs.Conflicts.{conflicted-rows}
use Rattle.index_status.proofs.Ordered.{ascending-rows}
use Rattle.gitbase_core.specs.Path.{components}
use Rattle.worktree_fs.specs.Tree.{Names}
use Rattle.index_status.specs.Rows.{first_entries_of_paths}
use Rattle.index_status.specs.States.{IsStateOfEntry}
use Rattle.index_status.specs.Ways.{KnowsWayToPath}
use Rattle.index_status.proofs.compare.compare_index_paths_with_worktree.Goals as goal

pub loop-entry-init : goal.loop-entry-init
loop-entry-init g c = (
  along-start g.W.Worktree c.args.worktree.now c.args.worktree_root.now c.args.index.now c.entries-entry-items.result.now c.new-made.result.items
      c.entries-entry-items.ensures.same c.new-made.ensures.items,
  record { bar = tt; led = tt },
)

pub add_row_unless_path_repeats-requires : goal.add_row_unless_path_repeats-requires
add_row_unless_path_repeats-requires g c =
    record {
      known =
          subst (λ (told : Option Names). KnowsWayToPath told c.args.worktree_root.now c.loop-entry.known.barred (components c.loop-entry.known.path.now))
          (sym c.loop-entry.invariant.0.keeps.tree) c.loop-entry.invariant.1;
    }

pub loop-entry-preserved : goal.loop-entry-preserved
loop-entry-preserved g c = (
  along-entry g.W.Worktree c.args.worktree.now c.loop-entry.worktree c.add_row_unless_path_repeats.new.worktree c.args.worktree_root.now c.args.index.now
      (drop c.loop-entry.entry-index c.entries-entry-items.result.now) c.loop-entry.made.items c.loop-entry.invariant.0 c.entry-item.result
      (drop (c.loop-entry.entry-index + 1) c.entries-entry-items.result.now)
      (next-left c.entries-entry-items.result.now c.loop-entry.entry-index c.entry-item.result c.loop-entry-test.true c.entry-item.is)
      c.in_ok-more.ensures.reads c.in_ok-more.more.items c.in_ok-more.ensures.keeps c.in_ok-more.ensures.more c.in_ok-more.ensures.read c.in_ok-more.ensures.unfaulted,
  subst (λ (told : Option Names). KnowsWayToPath told c.args.worktree_root.now c.in_ok-more.led.barred (components c.in_ok-more.led.path.now)) c.loop-entry.invariant.0.keeps.tree
      c.in_ok-more.ensures.known,
)

pub returns-in_err-more-clause-unfaulted : goal.returns-in_err-more-clause-unfaulted
returns-in_err-more-clause-unfaulted g c =
    let p = err_from_is_err_and c.from_residual.result c.from_residual.ensures.1 in
    rw (p.1, p.2) (unless-later _ _ c.in_err-more.field-0.0 (λ same. same ∙ c.loop-entry.invariant.0.unfaulted) c.in_err-more.ensures.unfaulted)

pub returns-clause-states : goal.returns-clause-states
returns-clause-states g c = λ t told.
    paired-told (g.W.Worktree.told c.args.worktree.now) t c.args.worktree_root.now (first_entries_of_paths c.args.index.now) c.loop-entry.made.items told
    (along-done g.W.Worktree c.args.worktree.now c.loop-entry.worktree c.args.worktree_root.now c.args.index.now
    (drop c.loop-entry.entry-index c.entries-entry-items.result.now) c.loop-entry.made.items c.loop-entry.invariant.0
    (drop_all c.loop-entry.entry-index c.entries-entry-items.result.now c.loop-entry-test.false))

pub returns-clause-possible : goal.returns-clause-possible
returns-clause-possible g c =
    possible-rows (g.W.Worktree.told c.args.worktree.now) c.args.worktree_root.now c.args.index.now c.loop-entry.made.items
    (along-done g.W.Worktree c.args.worktree.now c.loop-entry.worktree c.args.worktree_root.now c.args.index.now
    (drop c.loop-entry.entry-index c.entries-entry-items.result.now) c.loop-entry.made.items c.loop-entry.invariant.0
    (drop_all c.loop-entry.entry-index c.entries-entry-items.result.now c.loop-entry-test.false))

pub returns-clause-ascends : goal.returns-clause-ascends
returns-clause-ascends g c =
    ascending-rows (IsStateOfEntry (g.W.Worktree.told c.args.worktree.now) c.args.worktree_root.now) c.args.index.now c.loop-entry.made.items
    c.entries-entry-items.ensures.index
    (along-done g.W.Worktree c.args.worktree.now c.loop-entry.worktree c.args.worktree_root.now c.args.index.now
    (drop c.loop-entry.entry-index c.entries-entry-items.result.now) c.loop-entry.made.items c.loop-entry.invariant.0
    (drop_all c.loop-entry.entry-index c.entries-entry-items.result.now c.loop-entry-test.false))

pub returns-clause-conflicted : goal.returns-clause-conflicted
returns-clause-conflicted g c =
    conflicted-rows c.args.index.now c.loop-entry.made.items c.entries-entry-items.ensures.index
    (possible-rows (g.W.Worktree.told c.args.worktree.now) c.args.worktree_root.now c.args.index.now c.loop-entry.made.items
    (along-done g.W.Worktree c.args.worktree.now c.loop-entry.worktree c.args.worktree_root.now c.args.index.now
    (drop c.loop-entry.entry-index c.entries-entry-items.result.now) c.loop-entry.made.items c.loop-entry.invariant.0
    (drop_all c.loop-entry.entry-index c.entries-entry-items.result.now c.loop-entry-test.false)))

pub returns-clause-read : goal.returns-clause-read
returns-clause-read g c = c.loop-entry.invariant.0.read

pub returns-clause-unfaulted : goal.returns-clause-unfaulted
returns-clause-unfaulted g c = c.loop-entry.invariant.0.unfaulted

pub returns-clause-reads : goal.returns-clause-reads
returns-clause-reads g c = let few = c.loop-entry.invariant.0.reads in omega (arith, few)
