-- What the words of a command line ask for.
use Rattle.std.specs.Prelude.{◌≡◌, ℕ, List, [], ◌∷◌, Bool, true, ◌||◌, nat_eq, ⊤, codes, Option, Some, None, Result, Ok, Err, if◌then◌else◌}
use Rattle.std.specs.List.{starts_with}
use Rattle.std.specs.Str.{bytes_eq}
use Rattle.clean_plan.specs.declared.what.Finding.{Finding}
use Rattle.clean_plan.specs.declared.what.What.{What}
use Rattle.git_clean.specs.declared.options.Cleaning.{Cleaning}
use Rattle.git_setup.specs.declared.asked.Asked.{Asked}
use Rattle.ls_files.specs.declared.options.Listing.{Listing}
use Rattle.ls_files.specs.declared.standings.DeletedModifiedChoice.{DeletedModifiedChoice}
use Rattle.worktree_report.specs.declared.setup.SetupOptions.{SetupOptions}
use Rattle.command_line.specs.declared.check_options.CheckAsked.{CheckAsked}
use Rattle.command_line.specs.declared.clean_options.Force.{Force}
use Rattle.command_line.specs.declared.compare_options.Comparing.{Comparing}
use Rattle.command_line.specs.declared.command.Command as code
use Rattle.command_line.specs.declared.command.Command.TheVariants as commands
use Rattle.command_line.specs.declared.command.Request.{Request}
use Rattle.command_line.specs.declared.draft.Draft.{Draft}
use Rattle.command_line.specs.declared.form.Form.{Form}
use Rattle.command_line.specs.declared.misuse.Misuse.{Misuse}
use Rattle.command_line.specs.declared.misuse.Misuse.TheVariants as misuses
use Rattle.command_line.specs.declared.misuse.Wrong.{Wrong}
use Rattle.command_line.specs.declared.misuse.Wrong.TheVariants as wrongs
use Rattle.command_line.specs.declared.verb.Topic.{Topic}
use Rattle.command_line.specs.declared.verb.Topic.TheVariants as topics
use Rattle.command_line.specs.declared.verb.Verb.{Verb}
use Rattle.command_line.specs.declared.verb.Verb.TheVariants as verbs
use Rattle.command_line.specs.ChangeWords.{standings_of_deleted_modified_flags}
use Rattle.command_line.specs.RulesGiven.{RulesGiven}
use Rattle.command_line.specs.Readings.{CommandWordsReading, said, wrong, read_command_words}
use Rattle.command_line.specs.Verbs.{prefers_current_directory, verb_of_word}

-- what is asked of a work tree
pub record WorkTreeRequest : Type 0 where
  pub options : SetupOptions
  pub paths : List (List ℕ)
  pub depth : ℕ
  pub prefers_current : Bool

-- what is asked of a work tree, as contracts see it
abbrev pub work_tree_request_of_asked : Asked → WorkTreeRequest
work_tree_request_of_asked asked = record { options = asked.options; paths = asked.paths.items; depth = asked.depth; prefers_current = asked.prefers_current }

-- what is to be done
pub data Command : Type 0 where
  report : WorkTreeRequest → Form → Command
  plan : WorkTreeRequest → What → Finding → Form → Command
  modules : WorkTreeRequest → Command
  state : WorkTreeRequest → Form → Bool → Command
  files : WorkTreeRequest → Listing → RulesGiven → Command
  changed : WorkTreeRequest → Listing → RulesGiven → DeletedModifiedChoice → Command
  clean : WorkTreeRequest → Cleaning → Force → List (List ℕ) → Command
  compare : WorkTreeRequest → Comparing → Command
  check : WorkTreeRequest → CheckAsked → Command
  help : Topic → Command
  version : Command

-- what a command of the code is to do
abbrev pub seen : code.Command → Command
seen (commands.Report asked form) = report (work_tree_request_of_asked asked) form
seen (commands.Plan asked what finding form) = plan (work_tree_request_of_asked asked) what finding form
seen (commands.Modules asked) = modules (work_tree_request_of_asked asked)
seen (commands.State asked form by_stat) = state (work_tree_request_of_asked asked) form by_stat
seen (commands.Files asked wants) = files (work_tree_request_of_asked asked) wants.listing wants.rules
seen (commands.Changed asked wants standings) = changed (work_tree_request_of_asked asked) wants.listing wants.rules standings
seen (commands.Clean asked wants) = clean (work_tree_request_of_asked asked) wants.cleaning wants.force wants.patterns.items
seen (commands.Compare asked comparing) = compare (work_tree_request_of_asked asked) comparing
seen (commands.Check asked checking) = check (work_tree_request_of_asked asked) checking
seen (commands.Help topic) = help topic
seen commands.Version = version

-- what words from the command on ask for; or the first word that is wrong, how, and what is asked for so far
pub data CommandOrMisuse : Type 0 where
  does : Command → CommandOrMisuse
  misuses_word : Topic → Wrong → List ℕ → CommandOrMisuse

-- git's own words have no bound but the highest that there is here
abbrev pub given_depth_or_deepest_by_verb : Verb → ℕ → ℕ
given_depth_or_deepest_by_verb verbs.Report depth = depth
given_depth_or_deepest_by_verb verbs.Plan depth = depth
given_depth_or_deepest_by_verb verbs.Modules depth = depth
given_depth_or_deepest_by_verb verbs.State depth = depth
given_depth_or_deepest_by_verb verbs.Files depth = 1000
given_depth_or_deepest_by_verb verbs.Clean depth = 1000
given_depth_or_deepest_by_verb verbs.Compare depth = 1000
given_depth_or_deepest_by_verb verbs.Check depth = 1000

-- what the words of a command ask of a work tree
abbrev pub work_tree_request_of_draft : Verb → Draft → List (List ℕ) → WorkTreeRequest
work_tree_request_of_draft verb draft paths = record { options = draft.options; paths = paths; depth = given_depth_or_deepest_by_verb verb draft.depth; prefers_current = prefers_current_directory verb }

-- a path spec asks for directories too: git-clean(1), "-d"
abbrev pub clean_request_of_directories_if_paths : Cleaning → List (List ℕ) → Cleaning
clean_request_of_directories_if_paths cleaning [] = cleaning
clean_request_of_directories_if_paths cleaning (path ∷ paths) = record cleaning { directories = true }

-- what changed is listed too, where that is asked for
abbrev pub ls_files_or_changed_command : Option DeletedModifiedChoice → WorkTreeRequest → Listing → RulesGiven → Command
ls_files_or_changed_command None want listing rules = files want listing rules
ls_files_or_changed_command (Some standings) want listing rules = changed want listing rules standings

-- the command of a verb, where its words are right
abbrev pub command_of_verb_and_draft : Verb → Draft → List (List ℕ) → RulesGiven → Command
command_of_verb_and_draft verbs.Report draft paths rules = report (work_tree_request_of_draft verbs.Report draft paths) draft.form
command_of_verb_and_draft verbs.Plan draft paths rules = plan (work_tree_request_of_draft verbs.Plan draft paths) draft.what draft.finding draft.form
command_of_verb_and_draft verbs.Modules draft paths rules = modules (work_tree_request_of_draft verbs.Modules draft paths)
command_of_verb_and_draft verbs.State draft paths rules = state (work_tree_request_of_draft verbs.State draft paths) draft.form draft.by_stat
command_of_verb_and_draft verbs.Files draft paths rules = ls_files_or_changed_command (standings_of_deleted_modified_flags draft.changes) (work_tree_request_of_draft verbs.Files draft paths) draft.listing rules
command_of_verb_and_draft verbs.Clean draft paths rules = clean (work_tree_request_of_draft verbs.Clean draft paths) (clean_request_of_directories_if_paths draft.cleaning paths) draft.force rules.patterns
command_of_verb_and_draft verbs.Compare draft paths rules = compare (work_tree_request_of_draft verbs.Compare draft paths) draft.comparing
command_of_verb_and_draft verbs.Check draft paths rules = check (work_tree_request_of_draft verbs.Check draft paths) draft.checking

-- what a command is to do, by what its words say
abbrev pub command_from_draft : Verb → Draft → List (List ℕ) → RulesGiven → Command
command_from_draft verb draft paths rules = if draft.is_help then help (topics.Of verb) else command_of_verb_and_draft verb draft paths rules

-- the answer by what was read of the words
abbrev command_or_misuse_of_reading : Verb → CommandWordsReading → CommandOrMisuse
command_or_misuse_of_reading verb (said draft paths rules) = does (command_from_draft verb draft paths rules)
command_or_misuse_of_reading verb (wrong how word) = misuses_word (topics.Of verb) how word

-- the words behind a command
abbrev pub parse_words_of_verb : Verb → List (List ℕ) → CommandOrMisuse
parse_words_of_verb verb words = command_or_misuse_of_reading verb (read_command_words verb words)

-- a word before any command is wrong
abbrev pub misuse_before_command : Wrong → List ℕ → CommandOrMisuse
misuse_before_command how word = misuses_word topics.Whole how word

-- a word that asks for the help text
abbrev pub is_help_word : List ℕ → Bool
is_help_word word = bytes_eq word (codes "-h") || bytes_eq word (codes "--help")

-- what is wrong with a first word that is no command
abbrev pub error_of_unknown_first_word : List ℕ → Wrong
error_of_unknown_first_word word =
    if bytes_eq word (codes "-C") then wrongs.SecondDirectory
    else if starts_with nat_eq word (codes "-") then wrongs.UnknownOption
    else wrongs.UnknownCommand

-- the answer of a verb to the words behind it; where none is named, which word is wrong
abbrev command_of_optional_verb_or_misuse : Option Verb → List ℕ → List (List ℕ) → CommandOrMisuse
command_of_optional_verb_or_misuse (Some verb) word words = parse_words_of_verb verb words
command_of_optional_verb_or_misuse None word words = misuse_before_command (error_of_unknown_first_word word) word

-- the words that begin with this one
abbrev pub parse_command_from_first_word : List ℕ → List (List ℕ) → CommandOrMisuse
parse_command_from_first_word word words =
    if is_help_word word then does (help topics.Whole)
    else if bytes_eq word (codes "--version") then does version
    else command_of_optional_verb_or_misuse (verb_of_word word) word words

-- the words from the command on
abbrev pub parse_command_words : List (List ℕ) → CommandOrMisuse
parse_command_words [] = misuse_before_command wrongs.NoCommand []
parse_command_words (word ∷ words) = parse_command_from_first_word word words

-- what is asked for, and in which directory
pub data RequestOrMisuse : Type 0 where
  asks : Option (List ℕ) → Command → RequestOrMisuse
  is_misuse : Topic → Wrong → List ℕ → RequestOrMisuse

-- what is asked, in the directory that `-C` names
abbrev pub request_in_directory : Option (List ℕ) → CommandOrMisuse → RequestOrMisuse
request_in_directory directory (does command) = asks directory command
request_in_directory directory (misuses_word topic how word) = is_misuse topic how word

-- an empty directory is the current one
abbrev pub directory_unless_empty : List ℕ → Option (List ℕ)
directory_unless_empty [] = None
directory_unless_empty (b ∷ bytes) = Some (b ∷ bytes)

-- the words behind `-C`
abbrev pub parse_directory_and_command : List (List ℕ) → RequestOrMisuse
parse_directory_and_command [] = request_in_directory None (misuse_before_command wrongs.NoValue (codes "-C"))
parse_directory_and_command (word ∷ words) = request_in_directory (directory_unless_empty word) (parse_command_words words)

-- the words of a command line
abbrev pub parse_request_words : List (List ℕ) → RequestOrMisuse
parse_request_words [] = request_in_directory None (parse_command_words [])
parse_request_words (word ∷ words) = if bytes_eq word (codes "-C") then parse_directory_and_command words else request_in_directory None (parse_command_words (word ∷ words))

-- ---- an answer of the code is the one that is defined, unless memory was wanting

-- a misuse is what the answer says is wrong; of want of memory nothing is said
abbrev pub IsMisuseOfAnswerOrOutOfMemory : Misuse → CommandOrMisuse → Type 0
IsMisuseOfAnswerOrOutOfMemory misuses.OutOfMemory answer = ⊤
IsMisuseOfAnswerOrOutOfMemory (misuses.Word topic how word) answer = answer ≡ misuses_word topic how word

-- the command, or what is wrong, is that of the answer
abbrev pub IsCommandOrMisuseOfAnswer : Result code.Command Misuse → CommandOrMisuse → Type 0
IsCommandOrMisuseOfAnswer (Ok command) answer = answer ≡ does (seen command)
IsCommandOrMisuseOfAnswer (Err misuse) answer = IsMisuseOfAnswerOrOutOfMemory misuse answer

-- the directory is the one that is wanted; only want of memory is refused
abbrev pub IsDirectoryUnlessOutOfMemory : Result (Option (List ℕ)) Misuse → Option (List ℕ) → Type 0
IsDirectoryUnlessOutOfMemory (Ok directory) wanted = wanted ≡ directory
IsDirectoryUnlessOutOfMemory (Err misuse) wanted = misuse ≡ misuses.OutOfMemory

-- the same of a misuse, where a directory may be named
abbrev pub IsMisuseOfRequestOrOutOfMemory : Misuse → RequestOrMisuse → Type 0
IsMisuseOfRequestOrOutOfMemory misuses.OutOfMemory asking = ⊤
IsMisuseOfRequestOrOutOfMemory (misuses.Word topic how word) asking = asking ≡ is_misuse topic how word

-- the request, or what is wrong, is what is asked
abbrev pub IsRequestOrMisuseOfWords : Result Request Misuse → RequestOrMisuse → Type 0
IsRequestOrMisuseOfWords (Ok request) asking = asking ≡ asks request.directory (seen request.command)
IsRequestOrMisuseOfWords (Err misuse) asking = IsMisuseOfRequestOrOutOfMemory misuse asking
