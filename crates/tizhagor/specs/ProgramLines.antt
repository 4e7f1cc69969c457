-- Why there is no text by a setup: the line.
use Rattle.std.specs.Prelude.{ℕ, List, codes}
use Rattle.worktree_report.specs.declared.refusal.WalkWord.{WalkWord}
use Rattle.worktree_report.specs.declared.refusal.WalkWord.TheVariants as words
use Rattle.worktree_report.specs.declared.refusal.Misread.{Misread}
use Rattle.worktree_report.specs.declared.refusal.Misread.TheVariants as misread
use Rattle.worktree_report.specs.declared.refusal.Refusal.{Refusal}
use Rattle.worktree_report.specs.declared.refusal.Refusal.TheVariants as refusals
use Rattle.tizhagor.specs.Parts.{bad_config_line, fault_line_without_path, out_of_memory_line, output_refused_line, text_with_number, text_with_escaped_path}

-- what a walk is refused for, before the path
abbrev pub phrase_of_walk_refusal : WalkWord → List ℕ
phrase_of_walk_refusal words.RootIsFile = codes "fatal: the top of the work tree is no directory: '"
phrase_of_walk_refusal words.OutsideRoot = codes "fatal: outside the work tree: '"
phrase_of_walk_refusal words.SymlinkInRoot = codes "fatal: beyond a symbolic link: '"
phrase_of_walk_refusal words.MissingRoot = codes "fatal: nothing is there: '"
phrase_of_walk_refusal words.AbsentDirectory = codes "fatal: directory is gone: '"
phrase_of_walk_refusal words.NotADirectory = codes "fatal: no longer a directory: '"
phrase_of_walk_refusal words.RulesFile = codes "fatal: ignore rules are not read: '"
phrase_of_walk_refusal words.Blob = codes "fatal: a skipped .gitignore is not checked out, and objects are not read; git ls-files -s names it by '"
phrase_of_walk_refusal words.Lookup = codes "fatal: ignore rules cannot be asked: '"
phrase_of_walk_refusal words.TooDeep = codes "fatal: deeper than --depth (256 where it is not said, at most 1000): '"

-- where what tells of submodules is outside its grammar: in a configuration, in `.gitmodules`, or in `submodule.active`
abbrev pub line_of_misread_submodules : Misread → List ℕ
line_of_misread_submodules (misread.Config at line) = text_with_number (codes "fatal: bad config line ") line (text_with_number (codes " in configuration ") at (codes "\n"))
line_of_misread_submodules (misread.Modules line) = bad_config_line (codes ".gitmodules") line
line_of_misread_submodules (misread.ActiveSpec at) = text_with_number (codes "fatal: bad config value for 'submodule.active': value ") at (codes "\n")

-- Of these the first three: a command is not interrupted by `main`, and no command answers that its words or its setup text are none.
abbrev pub line_of_program_refusal : Refusal → List ℕ
line_of_program_refusal refusals.Interrupted = codes "fatal: interrupted\n"
line_of_program_refusal refusals.Usage = codes "fatal: nothing is asked\n"
line_of_program_refusal (refusals.Setup line) = text_with_number (codes "fatal: bad setup line ") line (codes "\n")
line_of_program_refusal (refusals.Walk word path) = text_with_escaped_path (phrase_of_walk_refusal word) path (codes "'\n")
line_of_program_refusal (refusals.Misread which) = line_of_misread_submodules which
line_of_program_refusal refusals.Fault = fault_line_without_path
line_of_program_refusal refusals.Output = output_refused_line
line_of_program_refusal refusals.OutOfMemory = out_of_memory_line

-- what an interrupt has a shell say, and git's number for all else
abbrev pub status_of_program_refusal : Refusal → ℕ
status_of_program_refusal refusals.Interrupted = 130
status_of_program_refusal refusals.Usage = 128
status_of_program_refusal (refusals.Setup line) = 128
status_of_program_refusal (refusals.Walk word path) = 128
status_of_program_refusal (refusals.Misread which) = 128
status_of_program_refusal refusals.Fault = 128
status_of_program_refusal refusals.Output = 128
status_of_program_refusal refusals.OutOfMemory = 128
