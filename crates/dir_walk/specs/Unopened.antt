-- What a refusal says of a directory that was not opened, or that was refused to be.
use Rattle.std.specs.Prelude.{ℕ, Result, Ok, Err}
use Rattle.dir_classify.specs.declared.error.Error.{Error}
use Rattle.dir_classify.specs.declared.error.Error.TheVariants as errors
use Rattle.dir_walk.specs.declared.handed.Stop.{Stop}
use Rattle.dir_walk.specs.declared.handed.Stop.TheVariants.{Refused, Broken}

-- One for what lies too deep, which is not opened; the interrupt was asked before.
abbrev pub count_too_deep_error : Error → ℕ
count_too_deep_error errors.Interrupted = 0
count_too_deep_error (errors.WorktreeRootIsFile path) = 0
count_too_deep_error (errors.NormalizeRoot path) = 0
count_too_deep_error (errors.SymlinkInRoot path worktree_root index) = 0
count_too_deep_error (errors.SymlinkMetadata path why) = 0
count_too_deep_error (errors.ExcludesAccess e) = 0
count_too_deep_error (errors.TooDeep path) = 1
count_too_deep_error (errors.ReadDir path why) = 0
count_too_deep_error (errors.DirEntry path) = 0
count_too_deep_error errors.OutOfMemory = 0

-- One where a listing was refused, and where that may have been for want of memory.
abbrev pub count_unlisted_error : Error → ℕ
count_unlisted_error errors.Interrupted = 0
count_unlisted_error (errors.WorktreeRootIsFile path) = 0
count_unlisted_error (errors.NormalizeRoot path) = 0
count_unlisted_error (errors.SymlinkInRoot path worktree_root index) = 0
count_unlisted_error (errors.SymlinkMetadata path why) = 0
count_unlisted_error (errors.ExcludesAccess e) = 0
count_unlisted_error (errors.TooDeep path) = 0
count_unlisted_error (errors.ReadDir path why) = 1
count_unlisted_error (errors.DirEntry path) = 1
count_unlisted_error errors.OutOfMemory = 1

-- of how a walk ended: none where it was done or broken off
abbrev pub count_too_deep_in_walk : {T : Type 0} → Result T Stop → ℕ
count_too_deep_in_walk (Ok done) = 0
count_too_deep_in_walk (Err (Refused error)) = count_too_deep_error error
count_too_deep_in_walk (Err Broken) = 0

abbrev pub count_unlisted_in_walk : {T : Type 0} → Result T Stop → ℕ
count_unlisted_in_walk (Ok done) = 0
count_unlisted_in_walk (Err (Refused error)) = count_unlisted_error error
count_unlisted_in_walk (Err Broken) = 0

-- and of its answer
abbrev pub count_too_deep_in_answer : {T : Type 0} → Result T Error → ℕ
count_too_deep_in_answer (Ok answer) = 0
count_too_deep_in_answer (Err error) = count_too_deep_error error

abbrev pub count_unlisted_in_answer : {T : Type 0} → Result T Error → ℕ
count_unlisted_in_answer (Ok answer) = 0
count_unlisted_in_answer (Err error) = count_unlisted_error error
