-- The patterns of `-x` and those of files of `-X`, where no other rules stand beside them: git-ls-files(1).
use Rattle.std.specs.Prelude.{ℕ, List, [], ◌∷◌, Bool, false, not, ◌&&◌, ◌||◌, filter, slice_index, take, Option, Some, None, if◌then◌else◌}
use Rattle.std.specs.List.{list_any}
use Rattle.gitbase_core.specs.Path.{is_slash}
use Rattle.glob_rules.specs.Ignore.{MatchedRule, RulesList, rule_of_last_matching_list}
use Rattle.glob_rules.specs.declared.Case.{Case}
use Rattle.worktree_report.specs.Excluding.{ignore_rules_of_text}
use Rattle.worktree_report.specs.declared.setup.Setup.{Setup}
use Rattle.worktree_stack.specs.Mappings.{case_by_ignore_case}
use Rattle.ls_files.specs.declared.options.Listing.{Listing}
use Rattle.ls_files.specs.Choices.{uses_per_directory_ignore_rules}
use Rattle.ls_files.specs.Others.{directories_above_path, directory_place_of_path}
use Rattle.ls_files.specs.Places.{PathWithDirectoryFlag}
use Rattle.ls_files.specs.Unmatched.{place_from_name}

-- there are patterns, and the walk asks no rules
abbrev pub has_patterns_without_standard_or_directory_rules : Listing → Bool
has_patterns_without_standard_or_directory_rules l = l.patterns && not (uses_per_directory_ignore_rules l)

-- so each path that the index does not have is looked at, whether it is excluded or not
abbrev pub options_without_ignored_if_only_patterns : Listing → Listing
options_without_ignored_if_only_patterns l = if has_patterns_without_standard_or_directory_rules l then record l { ignored = false } else l

-- a pattern matches, and it is none with `!`
abbrev pub is_excluding_hit : Option MatchedRule → Bool
is_excluding_hit None = false
is_excluding_hit (Some hit) = not hit.pattern.is_negative

-- the last pattern that matches a path excludes it
abbrev pub last_match_excludes_place : List RulesList → Case → PathWithDirectoryFlag → Bool
last_match_excludes_place rules case place = is_excluding_hit (rule_of_last_matching_list rules place.path (Some place.holds_names) case)

-- the same of a directory, which patterns with a slash at their end match too
abbrev pub last_match_excludes_directory : List RulesList → Case → List ℕ → Bool
last_match_excludes_directory rules case directory = last_match_excludes_place rules case (directory_place_of_path directory)

-- the directory that ends before a byte of a path is
abbrev pub is_excluded_directory_ending_at : List RulesList → Case → List ℕ → ℕ → Bool
is_excluded_directory_ending_at rules case path at = is_slash (slice_index path at) && last_match_excludes_directory rules case (take at path)

-- a directory on the way to a path is excluded: no pattern takes up again what lies in it
abbrev pub is_below_excluded_directory : List RulesList → Case → List ℕ → Bool
is_below_excluded_directory rules case path = list_any (last_match_excludes_directory rules case) (directories_above_path path)

-- patterns alone exclude a path, or a directory above it
abbrev pub is_excluded : List RulesList → Case → PathWithDirectoryFlag → Bool
is_excluded rules case place = is_below_excluded_directory rules case place.path || last_match_excludes_place rules case place

-- a name is shown: one that is not excluded, and with `-i` one that is
abbrev pub is_name_kept_by_patterns : Listing → List RulesList → Case → List ℕ → Bool
is_name_kept_by_patterns l rules case name =
    if l.ignored then is_excluded rules case (place_from_name name) else not (is_excluded rules case (place_from_name name))

-- those of a setup: those of files, and above them those of the command line
abbrev pub rules_from_setup_patterns : Setup → List RulesList
rules_from_setup_patterns setup = ignore_rules_of_text false setup.globals ∷ ignore_rules_of_text false setup.overrides ∷ []

-- of some names those that are shown, by the patterns of a setup; `core.ignoreCase` says how letters compare
abbrev pub names_kept_by_setup_patterns : Listing → Setup → List (List ℕ) → List (List ℕ)
names_kept_by_setup_patterns l setup names = filter (is_name_kept_by_patterns l (rules_from_setup_patterns setup) (case_by_ignore_case setup.options.ignore_case)) names

-- of the names of what the index does not have those that are shown
abbrev pub filter_names_if_only_patterns : Listing → Setup → List (List ℕ) → List (List ℕ)
filter_names_if_only_patterns l setup names = if has_patterns_without_standard_or_directory_rules l then names_kept_by_setup_patterns l setup names else names
