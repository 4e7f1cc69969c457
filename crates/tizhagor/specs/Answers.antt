-- The text that the words ask for, or why there is none.
use Rattle.std.specs.Prelude.{◌≡◌, ◌⊎◌, ℕ, List, Bool, Option, Some, Result, Ok, Err, IfOk, IfErr, if◌then◌else◌}
use Rattle.worktree_fs.specs.declared.interrupt.Interrupt.{Ghosts as InterruptOf}
use Rattle.worktree_fs.specs.declared.owners.Owners.{Ghosts as OwnersOf}
use Rattle.worktree_fs.specs.declared.worktree.Worktree.{Ghosts as WorktreeOf}
use Rattle.worktree_fs.specs.Causes.{CountIncreasedOrSaturated}
use Rattle.worktree_fs.specs.Kept.{KeepsTreeAndListCounts}
use Rattle.worktree_fs.specs.KeptOwners.{KeepsOwnershipAnswers}
use Rattle.worktree_fs.specs.Owners.{OwnershipByPath}
use Rattle.worktree_fs.specs.Tree.{Names}
use Rattle.worktree_report.specs.declared.refusal.Refusal.{Refusal}
use Rattle.command_line.specs.Forms.{style_for_output}
use Rattle.command_line.specs.Helps.{help_text_of_topic, version_line}
use Rattle.command_line.specs.Requests.{asks, is_misuse, parse_request_words, seen}
use Rattle.command_line.specs.declared.command.Command.{Command}
use Rattle.command_line.specs.declared.command.Command.TheVariants as commands
use Rattle.command_line.specs.declared.command.Request.{Request}
use Rattle.command_line.specs.declared.misuse.Misuse.TheVariants.{Word}
use Rattle.command_line.specs.declared.misuse.Wrong.{Wrong}
use Rattle.command_line.specs.declared.verb.Topic.{Topic}
use Rattle.git_places.specs.Variables.{EnvironmentVariable}
use Rattle.git_places.specs.Answers.{IsFoundOrFailed, HoldsUnlessFault}
use Rattle.git_setup.specs.declared.asked.Asked.{Asked}
use Rattle.git_setup.specs.declared.found.Found.{Found}
use Rattle.ls_files.specs.Choices.{needs_worktree_walk}
use Rattle.ls_files.specs.Excluded.{lists_only_ignored_index_entries}
use Rattle.tizhagor.specs.declared.answer.Called.{Called}
use Rattle.tizhagor.specs.declared.answer.Demand.{Demand}
use Rattle.tizhagor.specs.declared.answer.Demand.TheVariants as demands
use Rattle.tizhagor.specs.declared.call.Call.{Call}
use Rattle.tizhagor.specs.declared.refusal.CommandRefusal.{CommandRefusal}
use Rattle.tizhagor.specs.declared.call.Call.TheVariants as calls
use Rattle.tizhagor.specs.declared.refusal.CommandRefusal.TheVariants.{Program, Words}
use Rattle.tizhagor.specs.declared.written.Writing.{Writing}
use Rattle.tizhagor.specs.declared.written.Writing.TheVariants as writings
use Rattle.tizhagor.specs.declared.reply.Reply.{Reply}
use Rattle.tizhagor.specs.Asking.{request_with_call_options, found_around_asked_directory}
use Rattle.tizhagor.specs.Both.{ls_files_command_of_walk_alone}
use Rattle.tizhagor.specs.Checks.{FindsReplyOverTreeAndOwners}
use Rattle.tizhagor.specs.TreeWords.{WorkTreeCommand, AnswersCommandOfFound, cleaning_of, listing_of, report_of, found_for_work_tree_command}
use Rattle.tizhagor.specs.Replies.{HoldsOfOutputOfPlainReply}
use Rattle.tizhagor.specs.RuleWords.{RuleCommand, checking_of, excluding_of, rule_command_reply_around}
use Rattle.tizhagor.specs.StatWords.{StatCommand, changes_of, differences_of, states_of}
use Rattle.tizhagor.specs.Refusals.{fault, memory, MayComeBeforeSetupIsFound}
use Rattle.tizhagor.specs.Texts.{MakesTextOfCall}
use Rattle.tizhagor.specs.Writing.{text_formatted_for_output}

-- The root and the setup were found first, by asking for nodes, files and owners alone, and no fault of that is hidden; then `Then` holds
-- of them and of the worktree as it was by then. Where the tree and the owners are told they are the ones that are found in them. The
-- owners were asked for nothing else.
pub record HoldsAfterFindingWorkTree {W O : Type 0} (w : WorktreeOf W) (o : OwnersOf O) (w0 : W) (o0 o1 : O) (found : Names → OwnershipByPath → Result Found CommandRefusal) (Then : Found → W → Type 0) : Type 0 where
  pub here : Found
  pub is : (t : Names) (owned : OwnershipByPath) → w.told w0 ≡ Some t → o.told o0 ≡ Some owned → found t owned ≡ Ok here
  pub loaded : W
  pub asks : KeepsTreeAndListCounts w w0 loaded
  pub unfaulted : w.faults loaded ≡ w.faults w0
  pub owners : KeepsOwnershipAnswers o o0 o1
  pub owners_unfaulted : o.faults o1 ≡ o.faults o0
  pub made : Then here loaded

-- They were not found: over a told tree and told owners as these have it, or for want of memory, or as the worktree failed, or the owners,
-- which they counted; no other refusal hides a fault. Nothing was listed, and the interrupt was not asked.
pub record RefusesFindingWorkTree {W I O : Type 0} (w : WorktreeOf W) (o : OwnersOf O) (w0 w1 : W) (i0 i1 : I) (o0 o1 : O) (found : Names → OwnershipByPath → Result Found CommandRefusal) (e : CommandRefusal) : Type 0 where
  pub is : (t : Names) (owned : OwnershipByPath) → w.told w0 ≡ Some t → o.told o0 ≡ Some owned → IsFoundOrFailed {A = Found} fault memory (Err e) (found t owned)
  pub of : MayComeBeforeSetupIsFound e
  pub cause : e ≡ fault → CountIncreasedOrSaturated (w.faults w0) (w.faults w1) ⊎ CountIncreasedOrSaturated (o.faults o0) (o.faults o1)
  pub unfaulted : HoldsUnlessFault {A = Found} fault (Err e) (w.faults w1 ≡ w.faults w0)
  pub owners_unfaulted : HoldsUnlessFault {A = Found} fault (Err e) (o.faults o1 ≡ o.faults o0)
  pub asks : KeepsTreeAndListCounts w w0 w1
  pub owners : KeepsOwnershipAnswers o o0 o1
  pub interrupt : i1 ≡ i0

-- what a call says of its text or its refusal, by what was found
abbrev pub MakesCallTextAfterFound : {W I : Type 0} → WorktreeOf W → InterruptOf I → W → I → I → Call → Result (List ℕ) Refusal → Found → W → Type 0
MakesCallTextAfterFound w i w1 i0 i1 call answer here loaded = MakesTextOfCall w i loaded w1 i0 i1 here.root here.setup answer call

-- There is no text by what was found.
pub record RefusesTextAfterFound {W I O : Type 0} (w : WorktreeOf W) (i : InterruptOf I) (o : OwnersOf O) (w0 w1 : W) (i0 i1 : I) (o0 o1 : O) (found : Names → OwnershipByPath → Result Found CommandRefusal) (call : Call) (e : CommandRefusal) : Type 0 where
  pub refusal : Refusal
  pub e_is : e ≡ Program refusal
  pub by : HoldsAfterFindingWorkTree w o w0 o0 o1 found (MakesCallTextAfterFound w i w1 i0 i1 call (Err refusal))

-- The text of a call, or why there is none: by what was found, or as nothing was.
abbrev pub AnswersCallText : {W I O : Type 0} → WorktreeOf W → InterruptOf I → OwnersOf O → W → W → I → I → O → O → (Names → OwnershipByPath → Result Found CommandRefusal) → Call → Result (List ℕ) CommandRefusal → Type 0
AnswersCallText w i o w0 w1 i0 i1 o0 o1 found call (Ok text) = HoldsAfterFindingWorkTree w o w0 o0 o1 found (MakesCallTextAfterFound w i w1 i0 i1 call (Ok text))
AnswersCallText w i o w0 w1 i0 i1 o0 o1 found call (Err e) = RefusesFindingWorkTree w o w0 w1 i0 i1 o0 o1 found e ⊎ RefusesTextAfterFound w i o w0 w1 i0 i1 o0 o1 found call e

-- The bytes are those that are written for a text of the call.
pub record FormatsBytesOfCallText {W I O : Type 0} (w : WorktreeOf W) (i : InterruptOf I) (o : OwnersOf O) (w0 w1 : W) (i0 i1 : I) (o0 o1 : O) (found : Names → OwnershipByPath → Result Found CommandRefusal) (call : Call) (writing : Writing) (bytes : List ℕ) : Type 0 where
  pub text : List ℕ
  pub bytes_is : bytes ≡ text_formatted_for_output writing text
  pub by : AnswersCallText w i o w0 w1 i0 i1 o0 o1 found call (Ok text)

-- There was a text, and memory was wanted for the bytes that are written for it.
pub record LacksMemoryToFormatText {W I O : Type 0} (w : WorktreeOf W) (i : InterruptOf I) (o : OwnersOf O) (w0 w1 : W) (i0 i1 : I) (o0 o1 : O) (found : Names → OwnershipByPath → Result Found CommandRefusal) (call : Call) (e : CommandRefusal) : Type 0 where
  pub text : List ℕ
  pub e_is : e ≡ memory
  pub by : AnswersCallText w i o w0 w1 i0 i1 o0 o1 found call (Ok text)

-- The bytes for a call, or why there are none.
abbrev pub AnswersCallBytes : {W I O : Type 0} → WorktreeOf W → InterruptOf I → OwnersOf O → W → W → I → I → O → O → (Names → OwnershipByPath → Result Found CommandRefusal) → Call → Writing → Result (List ℕ) CommandRefusal → Type 0
AnswersCallBytes w i o w0 w1 i0 i1 o0 o1 found call writing (Ok bytes) = FormatsBytesOfCallText w i o w0 w1 i0 i1 o0 o1 found call writing bytes
AnswersCallBytes w i o w0 w1 i0 i1 o0 o1 found call writing (Err e) = AnswersCallText w i o w0 w1 i0 i1 o0 o1 found call (Err e) ⊎ LacksMemoryToFormatText w i o w0 w1 i0 i1 o0 o1 found call e

-- ---- git's own words

-- what is said of a reply or a refusal of it, by what was found
abbrev pub AnswersCommandAfterFound : {W I : Type 0} → WorktreeOf W → InterruptOf I → W → I → I → WorkTreeCommand → Result Reply Refusal → Found → W → Type 0
AnswersCommandAfterFound w i w1 i0 i1 word answer here loaded = AnswersCommandOfFound w i loaded w1 i0 i1 here answer word

-- There is no reply by what was found.
pub record RefusesCommandAfterFound {W I O : Type 0} (w : WorktreeOf W) (i : InterruptOf I) (o : OwnersOf O) (w0 w1 : W) (i0 i1 : I) (o0 o1 : O) (found : Names → OwnershipByPath → Result Found CommandRefusal) (word : WorkTreeCommand) (e : CommandRefusal) : Type 0 where
  pub refusal : Refusal
  pub e_is : e ≡ Program refusal
  pub by : HoldsAfterFindingWorkTree w o w0 o0 o1 found (AnswersCommandAfterFound w i w1 i0 i1 word (Err refusal))

-- What is said for one of git's own words, or why nothing is: by what was found, or as nothing was.
abbrev pub AnswersWorkTreeCommand : {W I O : Type 0} → WorktreeOf W → InterruptOf I → OwnersOf O → W → W → I → I → O → O → (Names → OwnershipByPath → Result Found CommandRefusal) → WorkTreeCommand → Result Reply CommandRefusal → Type 0
AnswersWorkTreeCommand w i o w0 w1 i0 i1 o0 o1 found word (Ok reply) = HoldsAfterFindingWorkTree w o w0 o0 o1 found (AnswersCommandAfterFound w i w1 i0 i1 word (Ok reply))
AnswersWorkTreeCommand w i o w0 w1 i0 i1 o0 o1 found word (Err e) = RefusesFindingWorkTree w o w0 w1 i0 i1 o0 o1 found e ⊎ RefusesCommandAfterFound w i o w0 w1 i0 i1 o0 o1 found word e

-- ---- what is always the same

-- A text that is always the same, or the want of memory for it; nothing was asked for it.
pub record AnswersFixedText {W I O : Type 0} (w0 w1 : W) (i0 i1 : I) (o0 o1 : O) (text : List ℕ) (answer : Result (List ℕ) CommandRefusal) : Type 0 where
  pub gives : IfOk answer (λ bytes. bytes ≡ text)
  pub refused : IfErr answer (λ e. e ≡ memory)
  pub worktree : w1 ≡ w0
  pub interrupt : i1 ≡ i0
  pub owners : o1 ≡ o0

-- ---- what the words ask for

-- what is asked for: a call, with what it asks of the work tree and how its text is written; one of git's own words; one that
-- asks which rules decide; a word that is told by stats too; a word of a walk and one that is told by stats; or a text that is always the
-- same
pub data CommandTask : Type 0 where
  call_of : Call → Asked → Writing → CommandTask
  word_of : WorkTreeCommand → Asked → CommandTask
  check_of : RuleCommand → Asked → CommandTask
  compare_of : StatCommand → Asked → CommandTask
  both_of : WorkTreeCommand → StatCommand → Asked → CommandTask
  fixed_text_task : List ℕ → CommandTask

-- what a demand asks for
abbrev pub task_of_demand : Demand → CommandTask
task_of_demand (demands.Call call asked writing) = call_of call (request_with_call_options call asked) writing
task_of_demand (demands.State asked writing) = both_of (report_of writing) (states_of writing) asked
task_of_demand (demands.Files asked wants) =
    if lists_only_ignored_index_entries wants.listing then check_of (excluding_of wants) asked else word_of (listing_of wants) asked
task_of_demand (demands.Changed asked wants standings) =
    if needs_worktree_walk wants.listing then both_of (ls_files_command_of_walk_alone wants) (changes_of wants standings) asked else compare_of (changes_of wants standings) asked
task_of_demand (demands.Clean asked wants) = word_of (cleaning_of wants) asked
task_of_demand (demands.Check asked checking) = check_of (checking_of checking) asked
task_of_demand (demands.Compare asked comparing) = compare_of (differences_of comparing) asked
task_of_demand (demands.Help topic) = fixed_text_task (help_text_of_topic topic)
task_of_demand demands.Version = fixed_text_task version_line

-- what a command asks for; `takes_colors` says whether the output takes colours
abbrev pub task_of_command : Bool → Command → CommandTask
task_of_command takes_colors (commands.Report asked form) = task_of_demand (demands.Call calls.Report asked (writings.Lines (style_for_output form takes_colors)))
task_of_command takes_colors (commands.Plan asked what finding form) = task_of_demand (demands.Call (calls.Plan what finding) asked (writings.Paths form.end))
task_of_command takes_colors (commands.Modules asked) = task_of_demand (demands.Call calls.Modules asked writings.AsItIs)
task_of_command takes_colors (commands.State asked form by_stat) =
    if by_stat then task_of_demand (demands.State asked (writings.Lines (style_for_output form takes_colors)))
    else task_of_demand (demands.Call calls.State asked (writings.Lines (style_for_output form takes_colors)))
task_of_command takes_colors (commands.Files asked wants) = task_of_demand (demands.Files asked wants)
task_of_command takes_colors (commands.Changed asked wants standings) = task_of_demand (demands.Changed asked wants standings)
task_of_command takes_colors (commands.Clean asked wants) = task_of_demand (demands.Clean asked wants)
task_of_command takes_colors (commands.Check asked checking) = task_of_demand (demands.Check asked checking)
task_of_command takes_colors (commands.Compare asked comparing) = task_of_demand (demands.Compare asked comparing)
task_of_command takes_colors (commands.Help topic) = task_of_demand (demands.Help topic)
task_of_command takes_colors commands.Version = task_of_demand demands.Version

-- where the program was called: the current directory and the variables of the environment, whether the output takes colours, and what
-- the input holds
pub record CallEnvironment : Type 0 where
  pub current : List ℕ
  pub variables : List EnvironmentVariable
  pub takes_colors : Bool
  pub input : List ℕ

-- a call with these values, as the system gave them to the program
abbrev pub call_environment_of_fields : List ℕ → List EnvironmentVariable → Bool → List ℕ → CallEnvironment
call_environment_of_fields current variables takes_colors input = record { current = current; variables = variables; takes_colors = takes_colors; input = input }

-- what contracts see of a call of the code, but for its words
abbrev pub call_environment_of_called : Called → CallEnvironment
call_environment_of_called called = call_environment_of_fields called.current.now called.variables.now called.takes_colors called.input.now

-- the work tree and the setup that `report`, `plan`, `modules` or `state` work on, around the directory of `-C` or the current one;
-- or the first refusal, as of a deletion that is asked for elsewhere than at the top
abbrev pub found_in_call_environment : CallEnvironment → Option (List ℕ) → Asked → Names → OwnershipByPath → Result Found CommandRefusal
found_in_call_environment place directory asked t owned = found_around_asked_directory t owned place.current place.variables directory asked

-- the same for `ls-files`, `clean` and the report of `state --by-stat`; wrong options of the first two are refused here too
abbrev pub found_for_command_in_environment : CallEnvironment → Option (List ℕ) → WorkTreeCommand → Asked → Names → OwnershipByPath → Result Found CommandRefusal
found_for_command_in_environment place directory word asked t owned = found_for_work_tree_command t owned place.current place.variables directory asked word

-- what `check-ignore`, with this standard input, or `ls-files -i -c` says, or the first refusal
abbrev pub rule_command_reply_in_environment : CallEnvironment → Option (List ℕ) → RuleCommand → Asked → Names → OwnershipByPath → Result Reply CommandRefusal
rule_command_reply_in_environment place directory word asked t owned = rule_command_reply_around t owned place.current place.variables directory asked place.input word

-- what a task is answered with; what is told by stats too is answered beside these
abbrev pub AnswersTaskWithoutStats : {W I O : Type 0} → WorktreeOf W → InterruptOf I → OwnersOf O → W → W → I → I → O → O → CallEnvironment → Option (List ℕ) → Result Reply CommandRefusal → CommandTask → Type 0
AnswersTaskWithoutStats w i o w0 w1 i0 i1 o0 o1 place directory answer (call_of call asked writing) = HoldsOfOutputOfPlainReply (AnswersCallBytes w i o w0 w1 i0 i1 o0 o1 (found_in_call_environment place directory asked) call writing) answer
AnswersTaskWithoutStats w i o w0 w1 i0 i1 o0 o1 place directory answer (word_of word asked) = AnswersWorkTreeCommand w i o w0 w1 i0 i1 o0 o1 (found_for_command_in_environment place directory word asked) word answer
AnswersTaskWithoutStats w i o w0 w1 i0 i1 o0 o1 place directory answer (check_of wants asked) = FindsReplyOverTreeAndOwners w o w0 w1 o0 o1 (rule_command_reply_in_environment place directory wants asked) answer × (i1 ≡ i0)
AnswersTaskWithoutStats w i o w0 w1 i0 i1 o0 o1 place directory answer (compare_of comparing asked) = ⊥
AnswersTaskWithoutStats w i o w0 w1 i0 i1 o0 o1 place directory answer (both_of word stat asked) = ⊥
AnswersTaskWithoutStats w i o w0 w1 i0 i1 o0 o1 place directory answer (fixed_text_task text) = HoldsOfOutputOfPlainReply (AnswersFixedText w0 w1 i0 i1 o0 o1 text) answer

-- the words ask for this
abbrev pub WordsParseToRequest : List (List ℕ) → Request → Type 0
WordsParseToRequest words request = parse_request_words words ≡ asks request.directory (seen request.command)

-- The words ask for something, and this is the answer to it.
pub record AnswersParsedWordsWithoutStats {W I O : Type 0} (w : WorktreeOf W) (i : InterruptOf I) (o : OwnersOf O) (w0 w1 : W) (i0 i1 : I) (o0 o1 : O) (place : CallEnvironment) (words : List (List ℕ)) (answer : Result Reply CommandRefusal) : Type 0 where
  pub request : Request
  pub asked : WordsParseToRequest words request
  pub answers : AnswersTaskWithoutStats w i o w0 w1 i0 i1 o0 o1 place request.directory answer (task_of_command place.takes_colors request.command)

-- a word is wrong
pub record WordsAreMisuse (words : List (List ℕ)) : Type 0 where
  pub topic : Topic
  pub wrong : Wrong
  pub word : List ℕ
  pub is : parse_request_words words ≡ is_misuse topic wrong word

-- The words ask for nothing, and the answer names the first that is wrong; nothing was asked for it.
pub record AnswersMisuseOfWords {W I O : Type 0} (w0 w1 : W) (i0 i1 : I) (o0 o1 : O) (words : List (List ℕ)) (answer : Result Reply CommandRefusal) : Type 0 where
  pub misuse : WordsAreMisuse words
  pub answer_is : answer ≡ Err (Words (Word misuse.topic misuse.wrong misuse.word))
  pub worktree : w1 ≡ w0
  pub interrupt : i1 ≡ i0
  pub owners : o1 ≡ o0

-- Memory was wanted for the words; nothing was asked.
pub record LacksMemoryForWords {W I O : Type 0} (w0 w1 : W) (i0 i1 : I) (o0 o1 : O) (answer : Result Reply CommandRefusal) : Type 0 where
  pub answer_is : answer ≡ Err memory
  pub worktree : w1 ≡ w0
  pub interrupt : i1 ≡ i0
  pub owners : o1 ≡ o0

-- the words ask for what needs no stats and this is the answer, or one of them is wrong, or memory was wanted for them
abbrev pub AnswersWordsWithoutStats : {W I O : Type 0} → WorktreeOf W → InterruptOf I → OwnersOf O → W → W → I → I → O → O → CallEnvironment → List (List ℕ) → Result Reply CommandRefusal → Type 0
AnswersWordsWithoutStats w i o w0 w1 i0 i1 o0 o1 place words answer =
    AnswersParsedWordsWithoutStats w i o w0 w1 i0 i1 o0 o1 place words answer ⊎ (AnswersMisuseOfWords w0 w1 i0 i1 o0 o1 words answer ⊎ LacksMemoryForWords w0 w1 i0 i1 o0 o1 answer)
