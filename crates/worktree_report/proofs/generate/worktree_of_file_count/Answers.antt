use Rattle.std.proofs.Common.{ap, ◌∙◌}
use Rattle.worktree_fs.specs.Memory.{MemoryWorktreeModel}
use Rattle.worktree_report.proofs.Generated.{tree_of-more, tree_of-none}
use Rattle.worktree_report.proofs.generate.worktree_of_file_count.Goals as goal

pub loop-number-init : goal.loop-number-init
loop-number-init c =
    record {
      tree = ap (λ (m : MemoryWorktreeModel). m.tree) c.new-tree.ensures.new ∙ tree_of-none;
      composes = ap (λ (m : MemoryWorktreeModel). m.composes) c.new-tree.ensures.new;
      faults = ap (λ (m : MemoryWorktreeModel). m.faults) c.new-tree.ensures.new;
    }

pub loop-number-preserved : goal.loop-number-preserved
loop-number-preserved c =
    let added = c.in-Ok.ensures in
    record {
      tree =
          tree_of-more c.loop-number.number c.loop-number.tree.tree c.add.new.self.tree c.loop-number.tree.composes c.as_bytes.result.now
          c.loop-number.invariant.composes c.loop-number.invariant.tree (c.as_bytes.ensures ∙ c.in_ok-path.ensures) added.added;
      composes = ap (λ (m : MemoryWorktreeModel). m.composes) added.rest ∙ c.loop-number.invariant.composes;
      faults = ap (λ (m : MemoryWorktreeModel). m.faults) added.rest ∙ c.loop-number.invariant.faults;
    }
