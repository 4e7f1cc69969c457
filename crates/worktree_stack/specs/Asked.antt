-- How often a lookup asks the worktree for rules files.
use Rattle.std.specs.Prelude.{ℕ, ◌+◌, List}
use Rattle.worktree_fs.specs.PathStack.{DelegateCall}
use Rattle.worktree_stack.specs.Counted.{number_of_files_asked_by_calls}
use Rattle.worktree_stack.specs.Reading.{of_attributes, of_ignore}
use Rattle.worktree_stack.specs.Setup.{StackSetup}

-- how many files of either kind are asked on the way at most
abbrev pub number_of_all_files_asked_by_calls : StackSetup → List DelegateCall → ℕ
number_of_all_files_asked_by_calls made calls = number_of_files_asked_by_calls of_attributes made calls + number_of_files_asked_by_calls of_ignore made calls
