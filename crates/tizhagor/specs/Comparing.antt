-- What `diff-files`, and `state` with `--by-stat`, say of what changed in a work tree.
use Rattle.std.specs.Prelude.{ℕ, List, [], Bool, false, not, ◌&&◌, ◌||◌, codes, Option, Some, None, Result, Ok, Err, if◌then◌else◌}
use Rattle.gitbase_core.specs.Path.{is_empty}
use Rattle.gitbase_core.specs.Steps.{and_then}
use Rattle.command_line.specs.declared.compare_options.Comparing.{Comparing}
use Rattle.command_line.specs.declared.compare_options.Ignoring.{Ignoring}
use Rattle.command_line.specs.declared.compare_options.Ignoring.TheVariants as ignorings
use Rattle.diff_files.specs.Differences.{diff_files_text, differences_of_text}
use Rattle.diff_files.specs.Stats.{StatsByPath}
use Rattle.diff_files.specs.declared.answer.Differences.{Differences}
use Rattle.diff_files.specs.declared.comparison.Comparison.{Comparison}
use Rattle.diff_files.specs.declared.comparison.Form.{Form}
use Rattle.diff_files.specs.declared.comparison.Form.TheVariants as forms
use Rattle.diff_files.specs.declared.comparison.Submodules.{Submodules}
use Rattle.diff_files.specs.declared.comparison.Submodules.TheVariants as subs
use Rattle.diff_files.specs.declared.error.DiffError.{DiffError}
use Rattle.diff_files.specs.declared.error.Unanswered.{Unanswered}
use Rattle.diff_files.specs.declared.stats.node_stat.NodeStat.{NodeStat}
use Rattle.git_places.specs.Places.{RepositoryPlaces}
use Rattle.git_places.specs.Surroundings.{Surroundings}
use Rattle.git_places.specs.Variables.{EnvironmentVariable, surroundings_of_variables}
use Rattle.git_setup.specs.Compared as setups
use Rattle.git_setup.specs.IndexAt.{path_of_index_file}
use Rattle.git_setup.specs.declared.asked.Asked.{Asked}
use Rattle.git_setup.specs.declared.compared.Compared.{Compared}
use Rattle.git_setup.specs.declared.error.GitRefusal.{GitRefusal}
use Rattle.git_setup.specs.declared.settings.Settings.{Settings}
use Rattle.worktree_fs.specs.Changes.{real_path}
use Rattle.worktree_fs.specs.Owners.{OwnershipByPath}
use Rattle.worktree_fs.specs.Tree.{Names}
use Rattle.tizhagor.specs.declared.compare.ChangeLines.{ChangeLines}
use Rattle.tizhagor.specs.declared.compare.ChangeLines.TheVariants as lines
use Rattle.tizhagor.specs.declared.compare.Placed.{Placed}
use Rattle.tizhagor.specs.declared.refusal.CommandRefusal.{CommandRefusal}
use Rattle.tizhagor.specs.declared.refusal.CommandRefusal.TheVariants as errors
use Rattle.tizhagor.specs.declared.refusal.Uncompared.TheVariants as reasons
use Rattle.tizhagor.specs.declared.reply.Reply.{Reply}
use Rattle.tizhagor.specs.declared.written.Writing.{Writing}
use Rattle.tizhagor.specs.Asking.{resolve_directory_or_current}
use Rattle.tizhagor.specs.Refusals.{git_result_with_here_refusal, here_refusal_of_diff_error}
use Rattle.tizhagor.specs.Replies.{plain_reply}
use Rattle.tizhagor.specs.StateLines.{diff_options_without_submodules, state_lines_over_tree_and_stats}

-- ---- where

-- where the repository lies; git's refusal is told as such, a fault and want of memory as those of the program
abbrev pub places_result_with_here_refusal : Result RepositoryPlaces GitRefusal → Result RepositoryPlaces CommandRefusal
places_result_with_here_refusal answer = git_result_with_here_refusal answer

-- the places beside the variables and the directory by which they were found; never refused
abbrev pub placed_of_fields : Surroundings → RepositoryPlaces → Result Placed CommandRefusal
placed_of_fields around places = Ok (record { around = around; places = places })

-- where the work tree around this directory and its repository lie, by the variables that git heeds; or git's refusal
abbrev pub find_repository_from_directory : Names → OwnershipByPath → List EnvironmentVariable → List ℕ → Result Placed CommandRefusal
find_repository_from_directory t owned variables directory =
    and_then (placed_of_fields (surroundings_of_variables directory variables)) (places_result_with_here_refusal (setups.find_repository_places t owned (surroundings_of_variables directory variables)))

-- the work tree around a directory, and where its repository lies
unfoldable pub find_work_tree_and_repository_places : Names → OwnershipByPath → List ℕ → List EnvironmentVariable → Option (List ℕ) → Result Placed CommandRefusal
find_work_tree_and_repository_places t owned current variables directory = and_then (find_repository_from_directory t owned variables) (resolve_directory_or_current t current directory)

-- ---- when the index was written

-- when what a node holds last changed, in seconds; 0 where there is no node
abbrev pub mtime_or_zero : Option NodeStat → ℕ
mtime_or_zero None = 0
mtime_or_zero (Some at) = at.mtime

-- the same by the stats of a path; 0 where nothing is there, which is no refusal
abbrev pub mtime_of_path : StatsByPath → List ℕ → Result ℕ CommandRefusal
mtime_of_path told path = Ok (mtime_or_zero (told.stat_at path))

-- the same where there may be no path at all: 0 without one
abbrev pub mtime_of_optional_path : StatsByPath → Option (List ℕ) → Result ℕ CommandRefusal
mtime_of_optional_path told None = Ok 0
mtime_of_optional_path told (Some real) = mtime_of_path told real

-- the file that the path of the index leads to; 0 where there is none
abbrev pub index_mtime_of_git_dir : Names → StatsByPath → List ℕ → Result ℕ CommandRefusal
index_mtime_of_git_dir t told git = mtime_of_optional_path told (real_path t (path_of_index_file git) (codes "/"))

-- ---- the comparison

-- the index with its details, the settings and the path specs, as they are read from the repository; or git's first refusal
abbrev pub comparison_inputs_of_placed : Names → Placed → Asked → Result Compared CommandRefusal
comparison_inputs_of_placed t placed asked = git_result_with_here_refusal (setups.read_comparison_setup t placed.places placed.around asked.paths.items)

-- beside `--name-status` and `--name-only` `--raw` says nothing; with none of them it is as with `--raw`
abbrev pub diff_form_of_request : Comparing → Form
diff_form_of_request comparing = if comparing.statuses then forms.NameStatus else if comparing.names then forms.NameOnly else forms.Raw

-- "Using this option overrides any settings of the ignore option in git-config or gitmodules"
abbrev pub submodules_mode_of_ignore_setting : Ignoring → Bool → Submodules
submodules_mode_of_ignore_setting ignorings.Nothing ignores = subs.Told
submodules_mode_of_ignore_setting ignorings.All ignores = subs.LeftOut
submodules_mode_of_ignore_setting ignorings.Configured ignores = if ignores then subs.MayBeLeftOut else subs.Told

-- the words say the form, `-z` and, if they do, how submodules count, the configuration all else;
-- `time` is when the index was written
abbrev pub comparison_of_request_and_settings : Comparing → Settings → ℕ → Comparison
comparison_of_request_and_settings comparing settings time =
    record {
      form = diff_form_of_request comparing;
      ends_in_nul = comparing.ends_in_nul;
      quote_path = settings.quote_path;
      file_mode = settings.nodes.file_mode;
      symlinks = settings.nodes.symlinks;
      trust_ctime = settings.nodes.trust_ctime;
      check_stat = settings.nodes.check_stat;
      sparse_checkout = settings.looks_for_skipped;
      converts = settings.converts;
      submodules = submodules_mode_of_ignore_setting comparing.ignoring settings.ignores_submodules;
      index_time = time;
    }

-- ---- what is said

-- With `--exit-code` and with `--quiet` the answer is no where something changed, and with `--quiet` nothing is written.
abbrev pub diff_reply_of_differences : Comparing → Differences → Reply
diff_reply_of_differences comparing made =
    record {
      out = if comparing.is_quiet then [] else made.out;
      err = [];
      is_no = (comparing.tells_changes || comparing.is_quiet) && not (is_empty made.out);
    }

-- what the code told of differences, as a reply, or why it told nothing, a fault or want of memory among the reasons
abbrev pub reply_of_differences : Comparing → Result Differences DiffError → Result Reply CommandRefusal
reply_of_differences comparing (Ok made) = Ok (diff_reply_of_differences comparing made)
reply_of_differences comparing (Err e) = Err (here_refusal_of_diff_error e)

-- the same where nothing fails: the one reason is a form that is not supported here, at the path of an entry
abbrev pub reply_of_differences_or_unsupported : Comparing → Result Differences Unanswered → Result Reply CommandRefusal
reply_of_differences_or_unsupported comparing (Ok made) = Ok (diff_reply_of_differences comparing made)
reply_of_differences_or_unsupported comparing (Err refused) = Err (errors.Uncompared (reasons.Form refused))

-- what is said of a work tree and its index, where that was written at a time
abbrev pub diff_files_reply_of_comparison : Names → StatsByPath → Comparing → Compared → ℕ → Result Reply CommandRefusal
diff_files_reply_of_comparison t told comparing compared time =
    reply_of_differences_or_unsupported comparing
    (differences_of_text
    (diff_files_text (record { tree = t; stats = told }) compared.root compared.index compared.details (comparison_of_request_and_settings comparing compared.settings time)
    compared.specs))

-- ---- in the words of `state`

-- the lines that the code made, as output alone, or why it made none, a fault or want of memory among the reasons
abbrev pub reply_of_state_lines : Result (List ℕ) DiffError → Result Reply CommandRefusal
reply_of_state_lines (Ok text) = Ok (plain_reply text)
reply_of_state_lines (Err e) = Err (here_refusal_of_diff_error e)

-- the same where nothing fails: the one reason is a form that is not supported here, at the path of an entry
abbrev pub reply_of_state_lines_or_unsupported : Result (List ℕ) Unanswered → Result Reply CommandRefusal
reply_of_state_lines_or_unsupported (Ok text) = Ok (plain_reply text)
reply_of_state_lines_or_unsupported (Err refused) = Err (errors.Uncompared (reasons.Form refused))

-- the lines of `state --by-stat` for paths of the index that changed, without submodules; or a form that is not supported here
abbrev pub state_reply_by_stat : Names → StatsByPath → Writing → Compared → ℕ → Result Reply CommandRefusal
state_reply_by_stat t told writing compared time =
    reply_of_state_lines_or_unsupported
    (state_lines_over_tree_and_stats (record { tree = t; stats = told }) compared.root compared.index compared.details (comparison_of_request_and_settings diff_options_without_submodules compared.settings time)
    compared.specs writing)

-- ---- in the lines that are asked for

-- what changed, in the lines of `diff-files` or in those of `state`; `time` is when the index was written
abbrev pub diff_files_or_state_lines_reply : Names → StatsByPath → ChangeLines → Compared → ℕ → Result Reply CommandRefusal
diff_files_or_state_lines_reply t told (lines.Differences comparing) compared time = diff_files_reply_of_comparison t told comparing compared time
diff_files_or_state_lines_reply t told (lines.States writing) compared time = state_reply_by_stat t told writing compared time

-- what is said where the index was written at `time`: what the comparison needs is read first, or refused
abbrev pub comparison_reply_at_index_time : Names → StatsByPath → Placed → Asked → ChangeLines → ℕ → Result Reply CommandRefusal
comparison_reply_at_index_time t told placed asked wanted time =
    and_then (λ (compared : Compared). diff_files_or_state_lines_reply t told wanted compared time) (comparison_inputs_of_placed t placed asked)

-- what is said once the repository is found: the time of the index file is asked for before the index is read
abbrev pub comparison_reply_of_placed : Names → StatsByPath → Placed → Asked → ChangeLines → Result Reply CommandRefusal
comparison_reply_of_placed t told placed asked wanted =
    and_then (λ (time : ℕ). comparison_reply_at_index_time t told placed asked wanted time) (index_mtime_of_git_dir t told placed.places.git)

-- "options '--name-only', '--name-status', '--check', and '-s' cannot be used together"
abbrev pub asks_name_only_and_name_status : ChangeLines → Bool
asks_name_only_and_name_status (lines.Differences comparing) = comparing.names && comparing.statuses
asks_name_only_and_name_status (lines.States writing) = false

-- `--name-only` beside `--name-status` is refused before the index is read; else what is said
abbrev pub comparison_reply_if_options_agree : Names → StatsByPath → Placed → Asked → ChangeLines → Result Reply CommandRefusal
comparison_reply_if_options_agree t told placed asked wanted =
    if asks_name_only_and_name_status wanted then Err (errors.Uncompared reasons.Exclusive) else comparison_reply_of_placed t told placed asked wanted

-- what is said of the work tree around a directory, or the first refusal
abbrev pub comparison_reply_around_directory : Names → OwnershipByPath → StatsByPath → List ℕ → List EnvironmentVariable → Option (List ℕ) → Asked → ChangeLines → Result Reply CommandRefusal
comparison_reply_around_directory t owned told current variables directory asked wanted =
    and_then (λ (placed : Placed). comparison_reply_if_options_agree t told placed asked wanted) (find_work_tree_and_repository_places t owned current variables directory)
