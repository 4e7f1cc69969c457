-- Why there is no text: the status and the line of each refusal.
use Rattle.std.specs.Prelude.{ℕ, List, Bool, true, false, if◌then◌else◌, codes, ◌++◌, Result, Ok, Err}
use Rattle.git_places.specs.Answers.{map_error}
use Rattle.git_setup.specs.declared.error.GitRefusal.{GitRefusal}
use Rattle.git_setup.specs.declared.error.GitRefusal.TheVariants as git
use Rattle.worktree_fs.specs.declared.answers.ReadError.{ReadError}
use Rattle.worktree_fs.specs.declared.answers.ReadError.TheVariants as read
use Rattle.worktree_report.specs.Escapes.{path_escaped}
use Rattle.worktree_report.specs.declared.refusal.Refusal.{Refusal}
use Rattle.worktree_report.specs.declared.refusal.Refusal.TheVariants as refusals
use Rattle.ls_files.specs.Wrong.{message_of_wrong_listing}
use Rattle.command_line.specs.Misuses.{message_of_misuse}
use Rattle.check_ignore.specs.Told.{told}
use Rattle.check_ignore.specs.Wrong as checks
use Rattle.check_ignore.specs.declared.stop.Stop.{Stop}
use Rattle.check_ignore.specs.declared.stop.Stop.TheVariants as stops
use Rattle.command_line.specs.declared.misuse.Misuse.{Misuse}
use Rattle.command_line.specs.declared.misuse.Misuse.TheVariants as misuses
use Rattle.tizhagor.specs.declared.refusal.CommandRefusal.{CommandRefusal}
use Rattle.tizhagor.specs.declared.refusal.CommandRefusal.TheVariants as errors
use Rattle.tizhagor.specs.declared.refusal.Unchecked.{Unchecked}
use Rattle.tizhagor.specs.declared.refusal.Unchecked.TheVariants as unchecked
use Rattle.tizhagor.specs.declared.refusal.Uncompared.{Uncompared}
use Rattle.tizhagor.specs.declared.refusal.Uncompared.TheVariants as reasons
use Rattle.diff_files.specs.Texts.{unsupported_text}
use Rattle.diff_files.specs.declared.error.DiffError.{DiffError}
use Rattle.diff_files.specs.declared.error.DiffError.TheVariants as differences
use Rattle.diff_files.specs.declared.error.Unanswered.{Unanswered}
use Rattle.tizhagor.specs.CleanLines.{message_of_wrong_clean}
use Rattle.tizhagor.specs.FilesLines.{line_of_files_error}
use Rattle.tizhagor.specs.IndexLines.{index_entry_error_reason, index_file_error_reason}
use Rattle.tizhagor.specs.Parts.{variable_not_heeded_line, fault_line_with_path, fault_line_without_path, dubious_ownership_line, out_of_memory_line, bad_config_value_line, text_with_escaped_path}
use Rattle.tizhagor.specs.PlacesLines.{line_of_places_error}
use Rattle.tizhagor.specs.ProgramLines.{line_of_program_refusal, status_of_program_refusal}

-- the worktree failed, and counted it
abbrev pub fault : CommandRefusal
fault = errors.Program refusals.Fault

-- want of memory
abbrev pub memory : CommandRefusal
memory = errors.Program refusals.OutOfMemory

-- ---- the refusal that stands for one of a part

-- that a question to the worktree has no answer: it failed, or memory was wanted
abbrev pub here_refusal_of_read_error : ReadError → CommandRefusal
here_refusal_of_read_error read.Fault = fault
here_refusal_of_read_error read.OutOfMemory = memory

-- that words ask for nothing
abbrev pub here_refusal_of_misuse : Misuse → CommandRefusal
here_refusal_of_misuse (misuses.Word topic wrong word) = errors.Words (misuses.Word topic wrong word)
here_refusal_of_misuse misuses.OutOfMemory = memory

-- that no setup is found
abbrev pub here_refusal_of_git_refusal : GitRefusal → CommandRefusal
here_refusal_of_git_refusal (git.Elsewhere name) = errors.Git (git.Elsewhere name)
here_refusal_of_git_refusal (git.Places e) = errors.Git (git.Places e)
here_refusal_of_git_refusal (git.Foreign path) = errors.Git (git.Foreign path)
here_refusal_of_git_refusal (git.IndexNode path) = errors.Git (git.IndexNode path)
here_refusal_of_git_refusal (git.IndexFile path e) = errors.Git (git.IndexFile path e)
here_refusal_of_git_refusal (git.IndexEntry path e) = errors.Git (git.IndexEntry path e)
here_refusal_of_git_refusal (git.Files e) = errors.Git (git.Files e)
here_refusal_of_git_refusal (git.Boolean path key) = errors.Git (git.Boolean path key)
here_refusal_of_git_refusal (git.SparseDirectory path) = errors.Git (git.SparseDirectory path)
here_refusal_of_git_refusal (git.OutsideRoot directory root) = errors.Git (git.OutsideRoot directory root)
here_refusal_of_git_refusal (git.PathSpec text) = errors.Git (git.PathSpec text)
here_refusal_of_git_refusal (git.OutsidePath text) = errors.Git (git.OutsidePath text)
here_refusal_of_git_refusal (git.Prefix text prefix) = errors.Git (git.Prefix text prefix)
here_refusal_of_git_refusal (git.SubmoduleCase path) = errors.Git (git.SubmoduleCase path)
here_refusal_of_git_refusal git.Fault = fault
here_refusal_of_git_refusal git.OutOfMemory = memory

-- what was found stays; of git's refusals a fault and want of memory become the program's, and all others are told as git's
abbrev pub git_result_with_here_refusal : {A : Type 0} → Result A GitRefusal → Result A CommandRefusal
git_result_with_here_refusal answer = map_error here_refusal_of_git_refusal answer

-- that a work tree is not compared with its index
abbrev pub here_refusal_of_diff_error : DiffError → CommandRefusal
here_refusal_of_diff_error (differences.Unsupported refused) = errors.Uncompared (reasons.Form refused)
here_refusal_of_diff_error differences.Fault = fault
here_refusal_of_diff_error differences.OutOfMemory = memory

-- that nothing is answered of paths in the work tree at `root`
abbrev pub here_refusal_of_check_ignore_stop : List ℕ → Stop → CommandRefusal
here_refusal_of_check_ignore_stop root stops.SparseIndex = errors.Unchecked (unchecked.Stopped root stops.SparseIndex)
here_refusal_of_check_ignore_stop root stops.BadQuotes = errors.Unchecked (unchecked.Stopped root stops.BadQuotes)
here_refusal_of_check_ignore_stop root stops.Empty = errors.Unchecked (unchecked.Stopped root stops.Empty)
here_refusal_of_check_ignore_stop root (stops.Magic text) = errors.Unchecked (unchecked.Stopped root (stops.Magic text))
here_refusal_of_check_ignore_stop root (stops.Elsewhere text) = errors.Unchecked (unchecked.Stopped root (stops.Elsewhere text))
here_refusal_of_check_ignore_stop root (stops.Prefix text) = errors.Unchecked (unchecked.Stopped root (stops.Prefix text))
here_refusal_of_check_ignore_stop root (stops.Outside text) = errors.Unchecked (unchecked.Stopped root (stops.Outside text))
here_refusal_of_check_ignore_stop root (stops.Beyond text) = errors.Unchecked (unchecked.Stopped root (stops.Beyond text))
here_refusal_of_check_ignore_stop root (stops.Inside text place) = errors.Unchecked (unchecked.Stopped root (stops.Inside text place))
here_refusal_of_check_ignore_stop root (stops.Slash text) = errors.Unchecked (unchecked.Stopped root (stops.Slash text))
here_refusal_of_check_ignore_stop root (stops.Everything text file line) = errors.Unchecked (unchecked.Stopped root (stops.Everything text file line))
here_refusal_of_check_ignore_stop root (stops.Unread text) = errors.Unchecked (unchecked.Stopped root (stops.Unread text))
here_refusal_of_check_ignore_stop root stops.Fault = fault
here_refusal_of_check_ignore_stop root stops.OutOfMemory = memory

-- that there is no text by a setup
abbrev pub program_result_with_here_refusal : {A : Type 0} → Result A Refusal → Result A CommandRefusal
program_result_with_here_refusal (Ok text) = Ok text
program_result_with_here_refusal (Err e) = Err (errors.Program e)

-- a refusal that may come while a work tree and its setup are looked for
abbrev pub MayComeBeforeSetupIsFound : CommandRefusal → Type 0
MayComeBeforeSetupIsFound (errors.Words misuse) = ⊥
MayComeBeforeSetupIsFound (errors.Absent directory) = Unit {0}
MayComeBeforeSetupIsFound (errors.NotADirectory directory) = Unit {0}
MayComeBeforeSetupIsFound (errors.NotAtTop root) = Unit {0}
MayComeBeforeSetupIsFound errors.Elsewhere = Unit {0}
MayComeBeforeSetupIsFound (errors.Git refusal) = Unit {0}
MayComeBeforeSetupIsFound (errors.Listing wrong) = Unit {0}
MayComeBeforeSetupIsFound (errors.ExcludeFile name) = Unit {0}
MayComeBeforeSetupIsFound (errors.Uncompared reason) = Unit {0}
MayComeBeforeSetupIsFound (errors.Unchecked reason) = Unit {0}
MayComeBeforeSetupIsFound (errors.Cleaning wrong) = Unit {0}
MayComeBeforeSetupIsFound (errors.Program refusals.Interrupted) = ⊥
MayComeBeforeSetupIsFound (errors.Program refusals.Usage) = ⊥
MayComeBeforeSetupIsFound (errors.Program (refusals.Setup line)) = ⊥
MayComeBeforeSetupIsFound (errors.Program (refusals.Walk word path)) = ⊥
MayComeBeforeSetupIsFound (errors.Program (refusals.Misread which)) = ⊥
MayComeBeforeSetupIsFound (errors.Program refusals.Fault) = Unit {0}
MayComeBeforeSetupIsFound (errors.Program refusals.Output) = ⊥
MayComeBeforeSetupIsFound (errors.Program refusals.OutOfMemory) = Unit {0}

-- ---- statuses

-- the exit status: 129 for wrong words and 128 for all else, as git has them; 130 for an interrupt, as a shell has it
abbrev pub status_of : CommandRefusal → ℕ
status_of (errors.Words misuse) = 129
status_of (errors.Absent directory) = 128
status_of (errors.NotADirectory directory) = 128
status_of (errors.NotAtTop root) = 128
status_of errors.Elsewhere = 128
status_of (errors.Git refusal) = 128
status_of (errors.Listing wrong) = 128
status_of (errors.ExcludeFile name) = 128
status_of (errors.Uncompared reason) = 128
status_of (errors.Unchecked reason) = 128
status_of (errors.Cleaning wrong) = 128
status_of (errors.Program refusal) = status_of_program_refusal refusal

-- ---- lines

-- why no setup is found; begins with `fatal: `, ends in a line feed, and escapes the paths in it
abbrev pub line_of_git_refusal : GitRefusal → List ℕ
line_of_git_refusal (git.Elsewhere name) = variable_not_heeded_line name
line_of_git_refusal (git.Places e) = line_of_places_error e
line_of_git_refusal (git.Foreign path) = dubious_ownership_line path
line_of_git_refusal (git.IndexNode path) = text_with_escaped_path (codes "fatal: '") path (codes "' is no file\n")
line_of_git_refusal (git.IndexFile path e) = text_with_escaped_path (codes "fatal: ") path (index_file_error_reason e)
line_of_git_refusal (git.IndexEntry path e) = text_with_escaped_path (codes "fatal: ") path (index_entry_error_reason e)
line_of_git_refusal (git.Files e) = line_of_files_error e
line_of_git_refusal (git.Boolean path key) = bad_config_value_line path key
line_of_git_refusal (git.SparseDirectory path) =
    text_with_escaped_path (codes "fatal: the index leaves out directory '") path (codes "', and something is there; undo it with 'git sparse-checkout reapply --no-sparse-index'\n")
line_of_git_refusal (git.OutsideRoot directory root) =
    text_with_escaped_path (codes "fatal: '") directory (text_with_escaped_path (codes "' is outside repository at '") root (codes "'\n"))
line_of_git_refusal (git.PathSpec text) = text_with_escaped_path (codes "fatal: bad pathspec '") text (codes "'\n")
line_of_git_refusal (git.OutsidePath text) = text_with_escaped_path (codes "fatal: '") text (codes "' is outside repository\n")
line_of_git_refusal (git.Prefix text prefix) =
    text_with_escaped_path (codes "fatal: pathspec '") text (text_with_escaped_path (codes "' is not read from directory '") prefix (codes "'; write it from the top, with ':/'\n"))
line_of_git_refusal (git.SubmoduleCase path) =
    text_with_escaped_path (codes "fatal: nothing to remove is named with core.ignoreCase and a submodule; ask git: '") path (codes "'\n")
line_of_git_refusal git.Fault = fault_line_without_path
line_of_git_refusal git.OutOfMemory = out_of_memory_line

-- a form is not answered, at the path of an entry
abbrev pub unsupported_form_line : Unanswered → List ℕ
unsupported_form_line refused = text_with_escaped_path ((codes "fatal: " ++ unsupported_text refused.form) ++ codes ": '") refused.path (codes "'\n")

-- git's line for options that exclude each other, or the form that is not supported here with its path
abbrev pub line_of_comparison_refusal : Uncompared → List ℕ
line_of_comparison_refusal reasons.Exclusive = codes "fatal: options '--name-only', '--name-status', '--check', and '-s' cannot be used together\n"
line_of_comparison_refusal (reasons.Form refused) = unsupported_form_line refused

-- the words alone, before `fatal: ` is put in front and they are escaped
abbrev pub text_of_check_ignore_refusal : Unchecked → List ℕ
text_of_check_ignore_refusal (unchecked.Wrong wrong) = checks.message_of_wrong_check wrong
text_of_check_ignore_refusal (unchecked.Stopped root stop) = told root stop

-- control bytes and backslashes of paths are escaped, as in every line
abbrev pub line_of_check_ignore_refusal : Unchecked → List ℕ
line_of_check_ignore_refusal reason = text_with_escaped_path (codes "fatal: ") (text_of_check_ignore_refusal reason) (codes "\n")

-- the line on standard error, its line feed included
abbrev pub line_of_refusal : CommandRefusal → List ℕ
line_of_refusal (errors.Words misuse) = message_of_misuse misuse
line_of_refusal (errors.Absent directory) = text_with_escaped_path (codes "fatal: cannot change to '") directory (codes "': No such file or directory\n")
line_of_refusal (errors.NotADirectory directory) = text_with_escaped_path (codes "fatal: cannot change to '") directory (codes "': Not a directory\n")
line_of_refusal (errors.NotAtTop root) = text_with_escaped_path (codes "fatal: what is to be deleted is told at the top of the work tree; call it there: '") root (codes "'\n")
line_of_refusal errors.Elsewhere = codes "fatal: clean is not supported with -C: it works in the current directory\n"
line_of_refusal (errors.Git refusal) = line_of_git_refusal refusal
line_of_refusal (errors.Listing wrong) = codes "fatal: " ++ message_of_wrong_listing wrong ++ codes "\n"
line_of_refusal (errors.ExcludeFile name) = text_with_escaped_path (codes "fatal: cannot use ") name (codes " as an exclude file\n")
line_of_refusal (errors.Uncompared reason) = line_of_comparison_refusal reason
line_of_refusal (errors.Unchecked reason) = line_of_check_ignore_refusal reason
line_of_refusal (errors.Cleaning wrong) = codes "fatal: " ++ message_of_wrong_clean wrong ++ codes "\n"
line_of_refusal (errors.Program refusal) = line_of_program_refusal refusal

-- whether the worktree, the owners or the stats failed
abbrev pub is_fault_refusal : CommandRefusal → Bool
is_fault_refusal (errors.Words misuse) = false
is_fault_refusal (errors.Absent directory) = false
is_fault_refusal (errors.NotADirectory directory) = false
is_fault_refusal (errors.NotAtTop root) = false
is_fault_refusal errors.Elsewhere = false
is_fault_refusal (errors.Git refusal) = false
is_fault_refusal (errors.Listing wrong) = false
is_fault_refusal (errors.ExcludeFile name) = false
is_fault_refusal (errors.Uncompared reason) = false
is_fault_refusal (errors.Unchecked reason) = false
is_fault_refusal (errors.Cleaning wrong) = false
is_fault_refusal (errors.Program refusals.Interrupted) = false
is_fault_refusal (errors.Program refusals.Usage) = false
is_fault_refusal (errors.Program (refusals.Setup line)) = false
is_fault_refusal (errors.Program (refusals.Walk word path)) = false
is_fault_refusal (errors.Program (refusals.Misread which)) = false
is_fault_refusal (errors.Program refusals.Fault) = true
is_fault_refusal (errors.Program refusals.Output) = false
is_fault_refusal (errors.Program refusals.OutOfMemory) = false

-- the line of a refusal; that of a fault names the path of the worktree's first one, where there is a name for it
abbrev pub line_of_refusal_with_fault_path : List ℕ → CommandRefusal → List ℕ
line_of_refusal_with_fault_path first refusal = if is_fault_refusal refusal then fault_line_with_path first else line_of_refusal refusal
