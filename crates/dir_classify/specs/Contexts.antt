-- What the class of a path leaves of a context.
use Rattle.std.specs.Prelude.{◌≡◌}
use Rattle.dir_classify.specs.declared.context.Context.{Context}

-- The interrupt is as it was; the loans are the same, and what is lent to be read only too.
pub record KeepsContextLoans {W F I M : Type 0} (old new : Context W F I M) : Type 0 where
  pub interrupt : new.interrupt.now ≡ old.interrupt.now
  pub same_worktree : new.worktree.ghost_name ≡ old.worktree.ghost_name
  pub same_objects : new.objects.ghost_name ≡ old.objects.ghost_name
  pub same_interrupt : new.interrupt.ghost_name ≡ old.interrupt.ghost_name
  pub same_excludes : new.excludes.ghost_name ≡ old.excludes.ghost_name
  pub same_pathspec : new.pathspec ≡ old.pathspec
  pub same_index : new.index ≡ old.index
  pub same_lookup : new.ignore_case_index_lookup ≡ old.ignore_case_index_lookup
  pub same_git_dir : new.git_dir_realpath ≡ old.git_dir_realpath
  pub same_current_dir : new.current_dir ≡ old.current_dir
  pub same_traversal_root : new.explicit_traversal_root ≡ old.explicit_traversal_root
  pub same_limit : new.depth_limit ≡ old.depth_limit
