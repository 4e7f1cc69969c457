-- What the words of a command line ask for, by the first of them.
use Rattle.std.specs.Prelude.{◌≡◌, ℕ, List, [], ◌∷◌, Bool, true, false, codes, Some, None, if◌then◌else◌}
use Rattle.std.specs.Str.{bytes_eq}
use Rattle.worktree_fs.specs.declared.interrupt.Interrupt.{Ghosts as InterruptOf}
use Rattle.worktree_fs.specs.declared.sink.Sink.{Ghosts as SinkOf}
use Rattle.worktree_fs.specs.declared.worktree.Worktree.{Ghosts as WorktreeOf}
use Rattle.worktree_fs.specs.Causes.{CountNotIncreased}
use Rattle.worktree_fs.specs.Tree.{Names}
use Rattle.clean_plan.specs.Run as clean
use Rattle.index_status.specs.Run as status
use Rattle.module_plan.specs.Run as modules
use Rattle.report_cli.specs.declared.dispatch.Call.{Call}
use Rattle.report_cli.specs.declared.dispatch.Call.TheVariants as calls
use Rattle.worktree_report.specs.Ends.{TopCallAnswersAndEnds}
use Rattle.worktree_report.specs.Run as report
use Rattle.worktree_report.specs.Words.{parse_command_words}

-- the words ask that names are composed: the first one is `composed`
abbrev pub composes : List (List ℕ) → Bool
composes [] = false
composes (word ∷ words) = bytes_eq word (codes "composed")

-- the words, without one `composed` before them
abbrev pub words_after_optional_composed : List (List ℕ) → List (List ℕ)
words_after_optional_composed [] = []
words_after_optional_composed (word ∷ words) = if bytes_eq word (codes "composed") then words else word ∷ words

-- the call that a word names; any other word is for the report
abbrev pub call_of_command_word : List ℕ → Call
call_of_command_word word =
    if bytes_eq word (codes "clean") then calls.Clean
    else if bytes_eq word (codes "modules") then calls.Modules
    else if bytes_eq word (codes "status") then calls.Status
    else calls.Report

-- the call that the first word names; no words at all ask for the report
abbrev pub call_of_first_word : List (List ℕ) → Call
call_of_first_word [] = calls.Report
call_of_first_word (word ∷ words) = call_of_command_word word

-- the call by the first word behind an optional `composed`
abbrev pub call_by_first_word_after_composed : List (List ℕ) → Call
call_by_first_word_after_composed words = call_of_first_word (words_after_optional_composed words)

-- the words ask nothing of the call: they are not as its usage has them
abbrev pub WordsMissCallUsage : Call → Bool → List (List ℕ) → Type 0
WordsMissCallUsage calls.Clean composes words = clean.request_of_words composes words ≡ None
WordsMissCallUsage calls.Modules composes words = modules.root_and_setup_of_modules_command composes words ≡ None
WordsMissCallUsage calls.Status composes words = status.root_and_setup_of_status_words composes words ≡ None
WordsMissCallUsage calls.Report composes words = parse_command_words composes words ≡ None

-- the bytes are those that the words ask for, over the tree `t`
abbrev pub IsOutputOfCall : Call → Bool → Names → List (List ℕ) → List ℕ → Type 0
IsOutputOfCall calls.Clean composes t words text = clean.IsPlanTextOfWords composes t words text
IsOutputOfCall calls.Modules composes t words text = modules.modules_plan_text_for_words composes t words ≡ Some text
IsOutputOfCall calls.Status composes t words text = status.status_text_of_words composes t words ≡ Some text
IsOutputOfCall calls.Report composes t words text = report.text_of_command_words composes t words ≡ Some text

-- What a call says of the count of faults where it ends with 0: that none was counted, and, where it makes a report, that the count
-- does not stand at its last value. A report alone is given with faults that the walk goes on with.
abbrev pub CountsNoFaultForCall : Call → ℕ → ℕ → Type 0
CountsNoFaultForCall calls.Clean before now = (now ≡ before) × CountNotIncreased before now
CountsNoFaultForCall calls.Modules before now = now ≡ before
CountsNoFaultForCall calls.Status before now = (now ≡ before) × CountNotIncreased before now
CountsNoFaultForCall calls.Report before now = Unit {0}

-- what has to be known of that count besides, so that its output is said
abbrev pub OutputNeedsNoFaultForCall : Call → ℕ → ℕ → Type 0
OutputNeedsNoFaultForCall calls.Clean before now = Unit {0}
OutputNeedsNoFaultForCall calls.Modules before now = Unit {0}
OutputNeedsNoFaultForCall calls.Status before now = Unit {0}
OutputNeedsNoFaultForCall calls.Report before now = CountNotIncreased before now

-- a call came to an answer to its words, and ended as that answer does
abbrev pub CallRunsToItsAnswer : {W I S E : Type 0} → WorktreeOf W → InterruptOf I → SinkOf S → SinkOf E → W → W → I → I → S → S → E → E → Bool → List (List ℕ) → ℕ → Call → Type 0
CallRunsToItsAnswer w i s e w0 w1 i0 i1 s0 s1 e0 e1 composes words ends calls.Clean =
    TopCallAnswersAndEnds s e s0 s1 e0 e1 clean.usage (clean.AnswersOptionalCleanRequest w i w0 w1 i0 i1 (clean.request_of_words composes words)) ends
CallRunsToItsAnswer w i s e w0 w1 i0 i1 s0 s1 e0 e1 composes words ends calls.Modules =
    TopCallAnswersAndEnds s e s0 s1 e0 e1 modules.usage (modules.AnswersPlanWithoutInterrupt w i w0 w1 i0 i1 (modules.root_and_setup_of_modules_command composes words)) ends
CallRunsToItsAnswer w i s e w0 w1 i0 i1 s0 s1 e0 e1 composes words ends calls.Status =
    TopCallAnswersAndEnds s e s0 s1 e0 e1 status.usage (status.AnswersOptionalStatusRequest w i w0 w1 i0 i1 (status.root_and_setup_of_status_words composes words)) ends
CallRunsToItsAnswer w i s e w0 w1 i0 i1 s0 s1 e0 e1 composes words ends calls.Report =
    TopCallAnswersAndEnds s e s0 s1 e0 e1 report.usage (report.AnswersParsedCommand w i w0 w1 i0 i1 (parse_command_words composes words)) ends

-- the words ask for something that can be had
abbrev pub AreValidWordsOfCall : Call → Bool → Names → List (List ℕ) → Type 0
AreValidWordsOfCall calls.Clean = clean.AreValidCleanWords
AreValidWordsOfCall calls.Modules = modules.AreWordsValidInTree
AreValidWordsOfCall calls.Status = status.AreValidStatusWords
AreValidWordsOfCall calls.Report = report.AreWordsValidInTree
