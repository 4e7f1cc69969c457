-- How one word of a command is read.
use Rattle.std.specs.Prelude.{ℕ, ◌+◌, List, [], ◌∷◌, Bool, true, false, ◌==◌, ◌||◌, length, position, take, drop, codes, Option, Some, None, if◌then◌else◌}
use Rattle.std.specs.Str.{bytes_eq}
use Rattle.clean_plan.specs.declared.what.Finding.TheVariants as findings
use Rattle.clean_plan.specs.declared.what.What.TheVariants as whats
use Rattle.dir_classify.specs.declared.options.CollapsedEntriesEmissionMode.{CollapsedEntriesEmissionMode}
use Rattle.dir_classify.specs.declared.options.EmissionMode.{EmissionMode}
use Rattle.dir_classify.specs.declared.options.EmissionMode.TheVariants.{Matching}
use Rattle.dir_classify.specs.declared.options.ForDeletionMode.{ForDeletionMode}
use Rattle.dir_walk.specs.declared.strategy.Strategy.TheVariants.{Held, AtOnce}
use Rattle.worktree_report.specs.SetupDepth.{parse_depth_limit}
use Rattle.command_line.specs.declared.choice.Choice.TheVariants as choices
use Rattle.command_line.specs.declared.draft.Draft.{Draft}
use Rattle.command_line.specs.declared.form.Color.TheVariants.{Auto, Always, Never}
use Rattle.command_line.specs.declared.form.LineEnd.TheVariants.{Nul}
use Rattle.command_line.specs.declared.form.Wording.TheVariants.{Letters}
use Rattle.command_line.specs.declared.misuse.Wrong.TheVariants as wrongs
use Rattle.command_line.specs.declared.opt.Opt.{Opt}
use Rattle.command_line.specs.declared.opt.Opt.TheVariants as opts
use Rattle.command_line.specs.declared.rules_given.Ruling.TheVariants as rulings
use Rattle.command_line.specs.declared.step.Next.{Next}
use Rattle.command_line.specs.declared.step.Next.TheVariants as nexts
use Rattle.command_line.specs.declared.step.Step.{Step}
use Rattle.command_line.specs.declared.step.Step.TheVariants.{Said, Path, Rules, Wrong as is_wrong}
use Rattle.command_line.specs.declared.verb.Verb.{Verb}
use Rattle.command_line.specs.declared.verb.Verb.TheVariants as verbs
use Rattle.command_line.specs.Checkings.{check_ignore_option_of_name, check_ignore_option_of_letter}
use Rattle.command_line.specs.Choices.{ls_files_option_of_name, ls_files_option_of_letter}
use Rattle.command_line.specs.Comparings.{diff_files_option_of_name, diff_files_option_of_letter, parse_ignore_submodules_value}
use Rattle.command_line.specs.declared.compare_options.CompareChoice.TheVariants as compare_choices
use Rattle.command_line.specs.declared.compare_options.Ignoring.{Ignoring}
use Rattle.command_line.specs.declared.compare_options.Ignoring.TheVariants as ignorings
use Rattle.command_line.specs.Cleanings.{clean_option_of_name, clean_option_of_letter, lacks_line_feed_and_trailing_blank}
use Rattle.command_line.specs.Drafts.{with_report_switch, with_untracked_emission_mode, with_ignored_emission_mode, with_collapsed_emission_mode, with_for_deletion_mode, with_config_permissions, with_walk_strategy, with_line_wording, with_line_end, with_color_choice, with_removal_scope, with_repository_finding, with_walk_depth, with_ls_files_choice, with_clean_choice, with_force_added_or_dropped, with_diff_files_choice, with_check_ignore_choice, with_stat_comparison, with_help_requested}
use Rattle.command_line.specs.Options.{option_of_name, option_of_letter, command_has_option, parse_emission_mode, parse_collapsed_mode, parse_for_deletion_mode}
use Rattle.command_line.specs.Verbs.{needs_double_dash_before_paths, takes_paths}

-- something more is said, and the next word may be anything
abbrev pub step_with_draft : Draft → Step
step_with_draft draft = Said draft nexts.Any

-- this is told of submodules
abbrev pub step_setting_ignore_submodules : Ignoring → Draft → Step
step_setting_ignore_submodules ignoring draft = step_with_draft (with_diff_files_choice (compare_choices.Ignores ignoring) true draft)

-- an option without a value
abbrev pub step_of_option_without_value : Opt → Draft → Step
step_of_option_without_value (opts.With switch) draft = step_with_draft (with_report_switch switch true draft)
step_of_option_without_value (opts.Without switch) draft = step_with_draft (with_report_switch switch false draft)
step_of_option_without_value opts.Untracked draft = step_with_draft (with_untracked_emission_mode Matching draft)
step_of_option_without_value opts.Ignored draft = step_with_draft (with_ignored_emission_mode (Some Matching) draft)
step_of_option_without_value opts.Collapsed draft = is_wrong wrongs.NoValue
step_of_option_without_value opts.Deletion draft = is_wrong wrongs.NoValue
step_of_option_without_value opts.Permissions draft = is_wrong wrongs.NoValue
step_of_option_without_value opts.Strategy draft = is_wrong wrongs.NoValue
step_of_option_without_value opts.Depth draft = Said draft nexts.Depth
step_of_option_without_value opts.IgnoredToo draft = step_with_draft (with_removal_scope whats.UntrackedAndIgnored draft)
step_of_option_without_value opts.IgnoredAlone draft = step_with_draft (with_removal_scope whats.IgnoredOnly draft)
step_of_option_without_value opts.NonBare draft = step_with_draft (with_repository_finding findings.NonBare draft)
step_of_option_without_value opts.ByStat draft = step_with_draft (with_stat_comparison draft)
step_of_option_without_value opts.Nul draft = step_with_draft (with_line_end Nul draft)
step_of_option_without_value opts.Plain draft = step_with_draft (with_line_wording Letters draft)
step_of_option_without_value opts.Color draft = step_with_draft (with_color_choice Always draft)
step_of_option_without_value opts.NoColor draft = step_with_draft (with_color_choice Never draft)
step_of_option_without_value opts.Help draft = step_with_draft (with_help_requested draft)
step_of_option_without_value (opts.Chooses choice) draft = step_with_draft (with_ls_files_choice choice true draft)
step_of_option_without_value (opts.Drops choice) draft = step_with_draft (with_ls_files_choice choice false draft)
step_of_option_without_value (opts.Cleans choice is_on) draft = step_with_draft (with_clean_choice choice is_on draft)
step_of_option_without_value (opts.Forces is_on) draft = step_with_draft (with_force_added_or_dropped is_on draft)
step_of_option_without_value opts.Pattern draft = Said draft nexts.Pattern
step_of_option_without_value opts.ExcludeFrom draft = Said draft nexts.File
step_of_option_without_value opts.Standard draft = Rules (with_ls_files_choice choices.ExcludesStandard true draft) rulings.Standard
step_of_option_without_value (opts.Compares choice is_on) draft = step_with_draft (with_diff_files_choice choice is_on draft)
step_of_option_without_value (opts.Checks choice is_on) draft = step_with_draft (with_check_ignore_choice choice is_on draft)
step_of_option_without_value opts.RulesFile draft = is_wrong wrongs.Left
step_of_option_without_value opts.Submodules draft = step_setting_ignore_submodules ignorings.All draft
step_of_option_without_value opts.Left draft = is_wrong wrongs.Left

-- ---- values

-- untracked paths in a mode, where the value names one
abbrev step_of_optional_untracked_mode : Option EmissionMode → Draft → Step
step_of_optional_untracked_mode (Some mode) draft = step_with_draft (with_untracked_emission_mode mode draft)
step_of_optional_untracked_mode None draft = is_wrong wrongs.UnknownValue

-- the step of `-u`, or of its long name, with a value
abbrev pub step_of_untracked_value : List ℕ → Draft → Step
step_of_untracked_value value draft = step_of_optional_untracked_mode (parse_emission_mode value) draft

-- ignored paths in a mode, where the value names one
abbrev step_of_optional_ignored_mode : Option EmissionMode → Draft → Step
step_of_optional_ignored_mode (Some mode) draft = step_with_draft (with_ignored_emission_mode (Some mode) draft)
step_of_optional_ignored_mode None draft = is_wrong wrongs.UnknownValue

-- the step of `--ignored` with its value
abbrev pub step_of_ignored_value : List ℕ → Draft → Step
step_of_ignored_value value draft = if bytes_eq value (codes "no") then step_with_draft (with_ignored_emission_mode None draft) else step_of_optional_ignored_mode (parse_emission_mode value) draft

-- what a folded directory covers, where the value names a mode
abbrev step_of_optional_collapsed_mode : Option CollapsedEntriesEmissionMode → Draft → Step
step_of_optional_collapsed_mode (Some mode) draft = step_with_draft (with_collapsed_emission_mode (Some mode) draft)
step_of_optional_collapsed_mode None draft = is_wrong wrongs.UnknownValue

-- the step of `--collapsed` with its value
abbrev pub step_of_collapsed_value : List ℕ → Draft → Step
step_of_collapsed_value value draft = if bytes_eq value (codes "no") then step_with_draft (with_collapsed_emission_mode None draft) else step_of_optional_collapsed_mode (parse_collapsed_mode value) draft

-- looking for what must not be deleted, where the value names a mode
abbrev step_of_optional_for_deletion_mode : Option ForDeletionMode → Draft → Step
step_of_optional_for_deletion_mode (Some mode) draft = step_with_draft (with_for_deletion_mode (Some mode) draft)
step_of_optional_for_deletion_mode None draft = is_wrong wrongs.UnknownValue

-- the step of `--for-deletion` with its value
abbrev pub step_of_for_deletion_value : List ℕ → Draft → Step
step_of_for_deletion_value value draft = if bytes_eq value (codes "no") then step_with_draft (with_for_deletion_mode None draft) else step_of_optional_for_deletion_mode (parse_for_deletion_mode value) draft

-- what is safe in a repository of anybody is all, since nothing that is read is run
abbrev pub step_of_permissions_value : List ℕ → Draft → Step
step_of_permissions_value value draft =
    if bytes_eq value (codes "isolated") then step_with_draft (with_config_permissions true draft)
    else if bytes_eq value (codes "secure") || bytes_eq value (codes "all") then step_with_draft (with_config_permissions false draft)
    else is_wrong wrongs.UnknownValue

-- the step of `--strategy` with its value
abbrev pub step_of_strategy_value : List ℕ → Draft → Step
step_of_strategy_value value draft =
    if bytes_eq value (codes "held") then step_with_draft (with_walk_strategy Held draft)
    else if bytes_eq value (codes "at-once") then step_with_draft (with_walk_strategy AtOnce draft)
    else is_wrong wrongs.UnknownValue

-- the step of `--color` with its value
abbrev pub step_of_color_value : List ℕ → Draft → Step
step_of_color_value value draft =
    if bytes_eq value (codes "auto") then step_with_draft (with_color_choice Auto draft)
    else if bytes_eq value (codes "always") then step_with_draft (with_color_choice Always draft)
    else if bytes_eq value (codes "never") then step_with_draft (with_color_choice Never draft)
    else is_wrong wrongs.UnknownValue

-- a limit of the depth, where the value is a number
abbrev step_of_optional_depth : Option ℕ → Draft → Step
step_of_optional_depth (Some depth) draft = step_with_draft (with_walk_depth depth draft)
step_of_optional_depth None draft = is_wrong wrongs.NotADepth

-- a decimal number from 0 to 1000, without zeros in front
abbrev pub step_of_depth_value : List ℕ → Draft → Step
step_of_depth_value value draft = step_of_optional_depth (parse_depth_limit value) draft

-- a pattern, which is the end of a word
abbrev pub step_of_exclude_pattern : List ℕ → Draft → Step
step_of_exclude_pattern value draft = if lacks_line_feed_and_trailing_blank value then Rules draft (rulings.Pattern (length value)) else is_wrong wrongs.Pattern

-- the name of a file of rules, which is the end of a word
abbrev pub step_of_exclude_from_file : List ℕ → Draft → Step
step_of_exclude_from_file value draft = Rules draft (rulings.File (length value))

-- the name of the rules files of directories: `.gitignore`, or another, which is not answered here
abbrev pub step_of_exclude_per_directory_value : List ℕ → Draft → Step
step_of_exclude_per_directory_value value draft =
    if bytes_eq value (codes ".gitignore") then step_with_draft (with_ls_files_choice choices.ExcludesDirectories true draft) else is_wrong wrongs.Left

-- submodules are ignored so, where the value names how
abbrev step_of_optional_ignore_submodules : Option Ignoring → Draft → Step
step_of_optional_ignore_submodules (Some ignoring) draft = step_setting_ignore_submodules ignoring draft
step_of_optional_ignore_submodules None draft = is_wrong wrongs.UnknownValue

-- the step of `--ignore-submodules` with its value
abbrev pub step_of_ignore_submodules_value : List ℕ → Draft → Step
step_of_ignore_submodules_value value draft = step_of_optional_ignore_submodules (parse_ignore_submodules_value value) draft

-- an option with a value
abbrev pub step_of_option_with_value : Opt → List ℕ → Draft → Step
step_of_option_with_value opts.Untracked value draft = step_of_untracked_value value draft
step_of_option_with_value opts.Ignored value draft = step_of_ignored_value value draft
step_of_option_with_value opts.Collapsed value draft = step_of_collapsed_value value draft
step_of_option_with_value opts.Deletion value draft = step_of_for_deletion_value value draft
step_of_option_with_value opts.Permissions value draft = step_of_permissions_value value draft
step_of_option_with_value opts.Strategy value draft = step_of_strategy_value value draft
step_of_option_with_value opts.Depth value draft = step_of_depth_value value draft
step_of_option_with_value opts.Color value draft = step_of_color_value value draft
step_of_option_with_value opts.Pattern value draft = step_of_exclude_pattern value draft
step_of_option_with_value opts.ExcludeFrom value draft = step_of_exclude_from_file value draft
step_of_option_with_value opts.RulesFile value draft = step_of_exclude_per_directory_value value draft
step_of_option_with_value opts.Submodules value draft = step_of_ignore_submodules_value value draft
step_of_option_with_value opts.Left value draft = is_wrong wrongs.Left
step_of_option_with_value other value draft = is_wrong wrongs.TakesNoValue

-- ---- names

-- an option, if a command has it
abbrev pub option_if_command_has_it : Verb → Option Opt → Option Opt
option_if_command_has_it verb None = None
option_if_command_has_it verb (Some opt) = if command_has_option verb opt then Some opt else None

-- the option of a name that a command has
abbrev pub command_option_of_name : Verb → List ℕ → Option Opt
command_option_of_name verbs.Files name = ls_files_option_of_name name
command_option_of_name verbs.Clean name = clean_option_of_name name
command_option_of_name verbs.Compare name = diff_files_option_of_name name
command_option_of_name verbs.Check name = check_ignore_option_of_name name
command_option_of_name verbs.Report name = option_if_command_has_it verbs.Report (option_of_name name)
command_option_of_name verbs.Plan name = option_if_command_has_it verbs.Plan (option_of_name name)
command_option_of_name verbs.Modules name = option_if_command_has_it verbs.Modules (option_of_name name)
command_option_of_name verbs.State name = option_if_command_has_it verbs.State (option_of_name name)

-- the step of an option without a value, where its name is known
abbrev step_without_value_or_unknown_option : Option Opt → Draft → Step
step_without_value_or_unknown_option (Some opt) draft = step_of_option_without_value opt draft
step_without_value_or_unknown_option None draft = is_wrong wrongs.UnknownOption

-- the step of a long option without a value
abbrev pub step_of_long_name : Verb → List ℕ → Draft → Step
step_of_long_name verb name draft = step_without_value_or_unknown_option (command_option_of_name verb name) draft

-- the step of an option with a value, where its name is known
abbrev step_with_value_or_unknown_option : Option Opt → List ℕ → Draft → Step
step_with_value_or_unknown_option (Some opt) value draft = step_of_option_with_value opt value draft
step_with_value_or_unknown_option None value draft = is_wrong wrongs.UnknownOption

-- the step of a long option with its value
abbrev pub step_of_long_name_with_value : Verb → List ℕ → List ℕ → Draft → Step
step_of_long_name_with_value verb name value draft = step_with_value_or_unknown_option (command_option_of_name verb name) value draft

-- the step of a long option, with a value where it has an equals sign
abbrev step_of_option_split_at_equals : Verb → List ℕ → Option ℕ → Draft → Step
step_of_option_split_at_equals verb text None draft = step_of_long_name verb text draft
step_of_option_split_at_equals verb text (Some place) draft = step_of_long_name_with_value verb (take place text) (drop (place + 1) text) draft

-- what stands behind `--`: a name, and a value behind the first `=`
abbrev pub step_of_long_option : Verb → List ℕ → Draft → Step
step_of_long_option verb text draft = step_of_option_split_at_equals verb text (position (λ b. b == 61) text) draft

-- ---- letters

-- the option of a letter that a command has
abbrev pub command_option_of_letter : Verb → ℕ → Option Opt
command_option_of_letter verbs.Files letter = ls_files_option_of_letter letter
command_option_of_letter verbs.Clean letter = clean_option_of_letter letter
command_option_of_letter verbs.Compare letter = diff_files_option_of_letter letter
command_option_of_letter verbs.Check letter = check_ignore_option_of_letter letter
command_option_of_letter verbs.Report letter = option_if_command_has_it verbs.Report (option_of_letter letter)
command_option_of_letter verbs.Plan letter = option_if_command_has_it verbs.Plan (option_of_letter letter)
command_option_of_letter verbs.Modules letter = option_if_command_has_it verbs.Modules (option_of_letter letter)
command_option_of_letter verbs.State letter = option_if_command_has_it verbs.State (option_of_letter letter)

-- `u` and a value behind it in its word, or nothing
abbrev pub step_of_untracked_letter : List ℕ → Draft → Step
step_of_untracked_letter [] draft = step_of_option_without_value opts.Untracked draft
step_of_untracked_letter (b ∷ value) draft = step_of_untracked_value (b ∷ value) draft

-- a letter and a pattern behind it in its word, or in the next
abbrev pub step_of_pattern_letter : ℕ → List ℕ → Draft → Step
step_of_pattern_letter letter [] draft = Said draft (nexts.LetterPattern letter)
step_of_pattern_letter letter (b ∷ value) draft = step_of_exclude_pattern (b ∷ value) draft

-- a letter and the name of a file of rules behind it in its word, or in the next
abbrev pub step_of_file_letter : ℕ → List ℕ → Draft → Step
step_of_file_letter letter [] draft = Said draft (nexts.LetterFile letter)
step_of_file_letter letter (b ∷ value) draft = step_of_exclude_from_file (b ∷ value) draft

-- the draft of a step; the one before where the step is another
abbrev draft_of_step_or_fallback : Draft → Step → Draft
draft_of_step_or_fallback draft (Said now next) = now
draft_of_step_or_fallback draft other = draft

-- the draft behind a letter that takes no value
abbrev pub draft_with_letter_option : Opt → Draft → Draft
draft_with_letter_option opt draft = draft_of_step_or_fallback draft (step_of_option_without_value opt draft)

-- what stands behind the letter of an option in its word is the option's value
abbrev pub takes_rest_of_word_as_value : Opt → Bool
takes_rest_of_word_as_value opts.Untracked = true
takes_rest_of_word_as_value opts.Pattern = true
takes_rest_of_word_as_value opts.ExcludeFrom = true
takes_rest_of_word_as_value other = false

-- the step of a letter whose value is the rest of its word
abbrev pub step_of_letter_with_rest : Opt → ℕ → List ℕ → Draft → Step
step_of_letter_with_rest opts.Pattern letter text draft = step_of_pattern_letter letter text draft
step_of_letter_with_rest opts.ExcludeFrom letter text draft = step_of_file_letter letter text draft
step_of_letter_with_rest other letter text draft = step_of_untracked_letter text draft

-- an option of git's that is refused by name
abbrev pub is_unsupported_option : Opt → Bool
is_unsupported_option opts.Left = true
is_unsupported_option other = false

-- the step of a letter: its value is the rest of the word, it is refused, or the letters behind it go on
abbrev pub step_of_letter_and_rest : Option Opt → ℕ → List ℕ → (Draft → Step) → Draft → Step
step_of_letter_and_rest None letter text onward draft = is_wrong (wrongs.UnknownSwitch letter)
step_of_letter_and_rest (Some opt) letter text onward draft =
    if takes_rest_of_word_as_value opt then step_of_letter_with_rest opt letter text draft
    else if is_unsupported_option opt then is_wrong (wrongs.LeftSwitch letter)
    else onward (draft_with_letter_option opt draft)

-- letters, each an option; `u`, `e`, `x` and `X` take what is behind them as their value
unfoldable pub step_of_letters : Verb → List ℕ → Draft → Step
step_of_letters verb [] draft = step_with_draft draft
step_of_letters verb (letter ∷ text) draft = step_of_letter_and_rest (command_option_of_letter verb letter) letter text (λ d. step_of_letters verb text d) draft

-- ---- words

-- a path, where the command takes paths
abbrev pub path : Verb → Step
path verb = if takes_paths verb then Path else is_wrong wrongs.Paths

-- a word that is no option and stands before `--`
abbrev pub step_of_path_before_double_dash : Verb → Step
step_of_path_before_double_dash verb = if needs_double_dash_before_paths verb then is_wrong wrongs.Undashed else path verb

-- what stands behind `--`
abbrev pub step_after_two_dashes : Verb → List ℕ → Draft → Step
step_after_two_dashes verb [] draft = Said draft nexts.Paths
step_after_two_dashes verb (b ∷ text) draft = step_of_long_option verb (b ∷ text) draft

-- what stands behind the first `-`
abbrev pub step_after_one_dash : Verb → List ℕ → Draft → Step
step_after_one_dash verb [] draft = step_of_path_before_double_dash verb
step_after_one_dash verb (b ∷ text) draft = if b == 45 then step_after_two_dashes verb text draft else step_of_letters verb (b ∷ text) draft

-- A word that may be an option: `--` ends the options, `--NAME` and `--NAME=VALUE` are one, `-LETTERS` some; a `-` alone, and what does
-- not begin with one, is a path.
abbrev pub step_of_option_or_path : Verb → List ℕ → Draft → Step
step_of_option_or_path verb [] draft = step_of_path_before_double_dash verb
step_of_option_or_path verb (b ∷ text) draft = if b == 45 then step_after_one_dash verb text draft else step_of_path_before_double_dash verb

-- what a word says, by what was said before it
abbrev pub step_of_word : Verb → Next → List ℕ → Draft → Step
step_of_word verb nexts.Any word draft = step_of_option_or_path verb word draft
step_of_word verb nexts.Depth word draft = step_of_depth_value word draft
step_of_word verb nexts.Pattern word draft = step_of_exclude_pattern word draft
step_of_word verb (nexts.LetterPattern letter) word draft = step_of_exclude_pattern word draft
step_of_word verb nexts.File word draft = step_of_exclude_from_file word draft
step_of_word verb (nexts.LetterFile letter) word draft = step_of_exclude_from_file word draft
step_of_word verb nexts.Paths word draft = path verb
