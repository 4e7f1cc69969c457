-- Path specs that no path is matched by: git-ls-files(1), "--error-unmatch: If any <file> does not appear in the index, treat this as an error
-- (return 1)."
use Rattle.std.specs.Prelude.{ℕ, List, [], ◌++◌, Bool, true, false, not, ◌&&◌, ◌||◌, ◌==◌, nat_lt, codes, map, Option, Some, None, if◌then◌else◌}
use Rattle.std.specs.List.{flat_map, list_any}
use Rattle.gitbase_core.specs.Path.{ends_in_slash, is_empty, without_trailing_slash}
use Rattle.gitbase_core.specs.declared.entry.IndexEntry.{IndexEntry}
use Rattle.glob_rules.specs.PathSpecs.{match_of_path_by_specs}
use Rattle.glob_rules.specs.declared.pathspec.Match.{Match}
use Rattle.ls_files.specs.declared.options.NamedSpec.{NamedSpec}
use Rattle.ls_files.specs.Cached.{is_submodule_or_sparse_directory}
use Rattle.ls_files.specs.Places.{PathWithDirectoryFlag}

-- a spec that excludes matches nothing by itself: it takes out, or another has to match
abbrev pub is_match_by_exclusion : Match → Bool
is_match_by_exclusion m = m.excluded || m.sequence_number == 0

-- a spec matches, and does not exclude
abbrev pub is_some_match_not_excluding : Option Match → Bool
is_some_match_not_excluding None = false
is_some_match_not_excluding (Some m) = not (is_match_by_exclusion m)

-- how a spec alone matches a path
abbrev pub match_of_single_spec : PathWithDirectoryFlag → NamedSpec → Option Match
match_of_single_spec place named = match_of_path_by_specs named.spec place.path (Some place.holds_names)

-- a spec that does not exclude matches a path
abbrev pub does_single_spec_include_place : PathWithDirectoryFlag → NamedSpec → Bool
does_single_spec_include_place place named = is_some_match_not_excluding (match_of_single_spec place named)

-- one of some specs does
abbrev pub does_any_spec_include_place : List NamedSpec → PathWithDirectoryFlag → Bool
does_any_spec_include_place all place = list_any (does_single_spec_include_place place) all

-- how a spec alone matches a path makes it what the spec is about
abbrev pub does_match_count_for_spec : List NamedSpec → PathWithDirectoryFlag → Option Match → Bool
does_match_count_for_spec all place None = false
does_match_count_for_spec all place (Some m) = if is_match_by_exclusion m then does_any_spec_include_place all place else true

-- A path is what a spec is about: the spec matches it; or it excludes, and another matches the path, which it may then take out.
abbrev pub counts_as_match_of_spec : List NamedSpec → NamedSpec → PathWithDirectoryFlag → Bool
counts_as_match_of_spec all named place = does_match_count_for_spec all place (match_of_single_spec place named)

-- some path is what the spec is about
abbrev pub has_matching_place : List NamedSpec → List PathWithDirectoryFlag → NamedSpec → Bool
has_matching_place all places named = list_any (counts_as_match_of_spec all named) places

-- no path is what the spec is about, which `--error-unmatch` makes an error
abbrev pub is_spec_without_match : List NamedSpec → List PathWithDirectoryFlag → NamedSpec → Bool
is_spec_without_match all places named = not (has_matching_place all places named)

-- ---- the paths that are looked at

-- the path of an entry, that of a directory by its mode: a submodule, or a directory of a sparse index
abbrev pub place_of_index_entry : IndexEntry → PathWithDirectoryFlag
place_of_index_entry e = record { path = e.path; holds_names = is_submodule_or_sparse_directory e }

-- a name that ends in a slash is that of a directory
abbrev pub place_from_name : List ℕ → PathWithDirectoryFlag
place_from_name name = record { path = without_trailing_slash name; holds_names = ends_in_slash name }

-- names of what the index does not have, and behind them entries that are chosen
abbrev pub places_of_names_and_entries : List IndexEntry → List (List ℕ) → List PathWithDirectoryFlag
places_of_names_and_entries entries names = map place_from_name names ++ map place_of_index_entry entries

-- ---- the lines

-- a control byte but a tab and a line feed is shown as a question mark
abbrev pub is_shown_as_question_mark : ℕ → Bool
is_shown_as_question_mark b = (nat_lt b 32 || b == 127) && (not (b == 9) && not (b == 10))

-- a byte of a path spec as an error shows it
abbrev pub control_byte_as_question_mark : ℕ → ℕ
control_byte_as_question_mark b = if is_shown_as_question_mark b then 63 else b

-- git's words in front of a path spec that no path is matched by
unfoldable pub unmatched_line_prefix : List ℕ
unmatched_line_prefix = codes "error: pathspec '"

-- git's words behind it, and the end of the line
unfoldable pub unmatched_line_suffix : List ℕ
unmatched_line_suffix = codes "' did not match any file(s) known to git\n"

-- git's last line of such an error
unfoldable pub git_add_hint_line : List ℕ
git_add_hint_line = codes "Did you forget to 'git add'?\n"

-- the line that tells of a spec, as it was written
abbrev pub unmatched_spec_line : NamedSpec → List ℕ
unmatched_spec_line named = unmatched_line_prefix ++ map control_byte_as_question_mark named.text ++ unmatched_line_suffix

-- that line for a spec that is about no path, and no bytes for any other
abbrev pub spec_line_if_unmatched : List NamedSpec → List PathWithDirectoryFlag → NamedSpec → List ℕ
spec_line_if_unmatched all places named = if is_spec_without_match all places named then unmatched_spec_line named else []

-- a line for each spec that is about no path
abbrev pub lines_of_unmatched_specs : List NamedSpec → List PathWithDirectoryFlag → List ℕ
lines_of_unmatched_specs all places = flat_map (spec_line_if_unmatched all places) all

-- and a last one, where there are any
abbrev pub append_hint_if_nonempty : List ℕ → List ℕ
append_hint_if_nonempty lines = if is_empty lines then [] else lines ++ git_add_hint_line

-- all that is told of path specs; no bytes where each is about some path
abbrev pub unmatched_specs_message : List NamedSpec → List PathWithDirectoryFlag → List ℕ
unmatched_specs_message all places = append_hint_if_nonempty (lines_of_unmatched_specs all places)
