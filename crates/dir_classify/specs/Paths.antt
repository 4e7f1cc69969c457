-- Paths below the worktree root.
pub use Rattle.worktree_fs.specs.Paths.{root_joined_with_relative}
