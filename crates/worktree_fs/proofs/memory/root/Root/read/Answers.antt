use Rattle.std.proofs.Common.{rules}
use Rattle.worktree_fs.proofs.Routes.Followed.{read-unfollowed}
use Rattle.worktree_fs.proofs.memory.root.Root.read.Goals as goal

pub returns-clause-link : goal.returns-clause-link
returns-clause-link c = read-unfollowed c.args.self.now c.args.path.now c.args.follow c.read_found_into.result (search rules)
