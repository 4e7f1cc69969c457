-- What `check-ignore` says of a work tree.
use Rattle.std.specs.Prelude.{ℕ, List, [], not, length, Option, Some, None, Result, Ok, Err}
use Rattle.gitbase_core.specs.Steps.{and_then}
use Rattle.check_ignore.specs.Input.{answer_of_paths_or_stdin}
use Rattle.check_ignore.specs.Wrong.{first_option_error}
use Rattle.check_ignore.specs.declared.answer.Answered.{Answered}
use Rattle.check_ignore.specs.declared.options.Checking.{Checking}
use Rattle.check_ignore.specs.declared.options.NamedRules.{NamedRules}
use Rattle.check_ignore.specs.declared.options.OuterRules.{OuterRules}
use Rattle.check_ignore.specs.declared.stop.Stop.{Stop}
use Rattle.check_ignore.specs.declared.stop.Stop.TheVariants as stops
use Rattle.check_ignore.specs.declared.wrong.WrongCheck.{WrongCheck}
use Rattle.command_line.specs.declared.check_options.CheckAsked.{CheckAsked}
use Rattle.git_places.specs.Variables.{EnvironmentVariable}
use Rattle.git_setup.specs.Checked as setups
use Rattle.git_setup.specs.declared.asked.Asked.{Asked}
use Rattle.git_setup.specs.declared.checked.Checked.{Checked}
use Rattle.git_setup.specs.declared.checked.NamedFile.{NamedFile}
use Rattle.git_setup.specs.declared.checked.OuterFiles.{OuterFiles}
use Rattle.worktree_fs.specs.Owners.{OwnershipByPath}
use Rattle.worktree_fs.specs.Tree.{Names}
use Rattle.tizhagor.specs.declared.compare.Placed.{Placed}
use Rattle.tizhagor.specs.declared.refusal.CommandRefusal.{CommandRefusal}
use Rattle.tizhagor.specs.declared.refusal.CommandRefusal.TheVariants as errors
use Rattle.tizhagor.specs.declared.refusal.Unchecked.TheVariants as reasons
use Rattle.tizhagor.specs.declared.reply.Reply.{Reply}
use Rattle.tizhagor.specs.Comparing.{find_work_tree_and_repository_places}
use Rattle.tizhagor.specs.Refusals.{git_result_with_here_refusal, here_refusal_of_check_ignore_stop}

-- the answer is no where no rule decides
abbrev pub reply_of_check_ignore_paths : Answered → Reply
reply_of_check_ignore_paths answered = record { out = answered.text; err = []; is_no = not answered.is_any }

-- the answer as a reply, or why `check-ignore` stopped, with the top of the work tree unless it is a fault or want of memory
abbrev pub reply_of_check_ignore_answer : List ℕ → Result Answered Stop → Result Reply CommandRefusal
reply_of_check_ignore_answer root (Ok answered) = Ok (reply_of_check_ignore_paths answered)
reply_of_check_ignore_answer root (Err stop) = Err (here_refusal_of_check_ignore_stop root stop)

-- what is asked, with what the configuration says
abbrev pub check_options_with_configuration : Checking → Checked → Checking
check_options_with_configuration checking here = record checking { quote_path = here.quote_path; ignore_case = here.ignore_case }

-- the rules of the files outside the work tree
abbrev pub named_rules_of_file : Option NamedFile → Option NamedRules
named_rules_of_file None = None
named_rules_of_file (Some file) = Some (record { name = file.name; bytes = file.bytes })

-- the user's rules (`core.excludesFile`) and those of `info/exclude`, each under the name that git shows; none where no file is
-- there
abbrev pub outer_rules_of_files : OuterFiles → OuterRules
outer_rules_of_files files = record { user = named_rules_of_file files.user; repository = named_rules_of_file files.repository }

-- what is said of paths, of the words or of an input, by what was read
abbrev pub check_ignore_reply_of_paths : Names → CheckAsked → List (List ℕ) → List ℕ → Checked → Result Reply CommandRefusal
check_ignore_reply_of_paths t wants paths input here =
    reply_of_check_ignore_answer here.root (answer_of_paths_or_stdin t here.root here.prefix here.index (outer_rules_of_files here.outer) (check_options_with_configuration wants.checking here) paths input)

-- the configuration, the rules outside the work tree, and the index unless `--no-index` leaves it; or git's first refusal
abbrev pub check_ignore_setup_of_placed : Names → Placed → CheckAsked → Result Checked CommandRefusal
check_ignore_setup_of_placed t placed wants = git_result_with_here_refusal (setups.read_check_ignore_setup t placed.places placed.around wants.leaves_index)

-- what is said of the paths of a work tree whose repository is found; or the first refusal, of what is read and then of the paths
abbrev pub check_ignore_reply_of_placed : Names → Placed → Asked → CheckAsked → List ℕ → Result Reply CommandRefusal
check_ignore_reply_of_placed t placed asked wants input = and_then (λ (here : Checked). check_ignore_reply_of_paths t wants asked.paths.items input here) (check_ignore_setup_of_placed t placed wants)

-- refused before the index and the rules are read where an option is wrong; else what is said
abbrev pub check_ignore_reply_or_wrong_options : Names → Placed → Asked → CheckAsked → List ℕ → Option WrongCheck → Result Reply CommandRefusal
check_ignore_reply_or_wrong_options t placed asked wants input None = check_ignore_reply_of_placed t placed asked wants input
check_ignore_reply_or_wrong_options t placed asked wants input (Some wrong) = Err (errors.Unchecked (reasons.Wrong wrong))

-- the same, with the first wrong option as git looks for it, as `--stdin` beside paths or no path at all
abbrev pub check_ignore_reply_if_options_valid : Names → Placed → Asked → CheckAsked → List ℕ → Result Reply CommandRefusal
check_ignore_reply_if_options_valid t placed asked wants input = check_ignore_reply_or_wrong_options t placed asked wants input (first_option_error wants.checking (length asked.paths.items))

-- What is said in the work tree around a directory, or the first refusal: of the work tree, of the words, of what is read, and then of
-- the paths.
abbrev pub check_ignore_reply_around_directory : Names → OwnershipByPath → List ℕ → List EnvironmentVariable → Option (List ℕ) → Asked → CheckAsked → List ℕ → Result Reply CommandRefusal
check_ignore_reply_around_directory t owned current variables directory asked wants input =
    and_then (λ (placed : Placed). check_ignore_reply_if_options_valid t placed asked wants input) (find_work_tree_and_repository_places t owned current variables directory)
