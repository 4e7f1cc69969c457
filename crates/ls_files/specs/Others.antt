-- What a work tree holds besides the index, by the entries of a report: git-ls-files(1), "OPTIONS".
use Rattle.std.specs.Prelude.{ℕ, List, [], ◌∷◌, ◌++◌, Bool, true, false, not, ◌&&◌, ◌||◌, find, slice_index, take, Option, Some, None, bytes_eq, codes, is_some, nat_eq, option_map, option_and_then, if◌then◌else◌}
use Rattle.std.specs.List.{ends_with, flat_map, list_any}
use Rattle.std.specs.Option.{option_or}
use Rattle.gitbase_core.specs.Index.{first_entry_at_path, entry_range_with_path_prefix}
use Rattle.gitbase_core.specs.Path.{basename, is_slash}
use Rattle.gitbase_core.specs.declared.entry.IndexEntry.{IndexEntry}
use Rattle.glob_rules.specs.PathSpec.{PathSpec}
use Rattle.glob_rules.specs.PathSpecs.{match_of_path_by_specs}
use Rattle.glob_rules.specs.declared.pathspec.Match.{Match}
use Rattle.glob_rules.specs.declared.pathspec.MatchKind.{MatchKind}
use Rattle.glob_rules.specs.declared.pathspec.MatchKind.TheVariants.{Always, Prefix, WildcardMatch, Verbatim}
use Rattle.dir_classify.specs.Kinds.{is_some_directory_kind}
use Rattle.dir_classify.specs.declared.entry.Entry.{Entry}
use Rattle.dir_classify.specs.declared.entry.Kind.{Kind}
use Rattle.dir_classify.specs.declared.entry.Kind.TheVariants.{Untrackable, File, Symlink, Directory, Repository}
use Rattle.dir_classify.specs.declared.entry.Status.{Status}
use Rattle.dir_classify.specs.declared.entry.Status.TheVariants.{Pruned, Tracked, Ignored, Untracked}
use Rattle.worktree_report.specs.SetupMeant.{insert_paths_in_order}
use Rattle.worktree_report.specs.declared.report.ReportEntry.{ReportEntry}
use Rattle.ls_files.specs.declared.options.Listing.{Listing}
use Rattle.ls_files.specs.declared.options.NamedSpec.{NamedSpec}
use Rattle.ls_files.specs.Choices.{uses_per_directory_ignore_rules}
use Rattle.ls_files.specs.Cached.{do_specs_match_path}
use Rattle.ls_files.specs.Lines.{line_of_untracked_path}
use Rattle.ls_files.specs.Places.{PathWithDirectoryFlag}

-- a directory with a slash behind its path
abbrev pub name : PathWithDirectoryFlag → List ℕ
name place = if place.holds_names then place.path ++ 47 ∷ [] else place.path

-- ---- directories

-- a path as that of a directory, whatever stands there
abbrev pub directory_place_of_path : List ℕ → PathWithDirectoryFlag
directory_place_of_path path = record { path = path; holds_names = true }

-- the directories above a path, the highest first; some bytes of it stand before the others
abbrev pub directories_above_behind_prefix : List ℕ → List ℕ → List (List ℕ)
directories_above_behind_prefix passed [] = []
directories_above_behind_prefix passed (b ∷ rest) =
    if is_slash b then passed ∷ directories_above_behind_prefix (passed ++ b ∷ []) rest else directories_above_behind_prefix (passed ++ b ∷ []) rest

-- all that lead to a path, for `a/b/c` both `a` and `a/b`; a slash at its end makes it one of them
abbrev pub directories_above_path : List ℕ → List (List ℕ)
directories_above_path path = directories_above_behind_prefix [] path

-- an entry of the index lies beneath a directory, by its name
abbrev pub has_index_entry_beneath : List IndexEntry → List ℕ → Bool
has_index_entry_beneath entries name = is_some (entry_range_with_path_prefix name entries)

-- ---- directories that path specs take out

-- a path spec matches, and takes out what it matches
abbrev pub is_excluded_match : Option Match → Bool
is_excluded_match None = false
is_excluded_match (Some m) = m.excluded

-- a name means the directory itself, or the one above
abbrev pub is_dot_or_dot_dot : List ℕ → Bool
is_dot_or_dot_dot name = bytes_eq name (46 ∷ []) || bytes_eq name (46 ∷ 46 ∷ [])

-- a spec was written with `.` or `..` at its end, where git reads a slash
abbrev pub ends_in_dot_component : NamedSpec → Bool
ends_in_dot_component named = is_dot_or_dot_dot (basename named.text)

-- such a spec, as `:(exclude,glob)b/**/`, is about `b/` too, and not about `b`
abbrev pub ends_in_double_star_slash : NamedSpec → Bool
ends_in_double_star_slash named = ends_with nat_eq named.text (codes "**/")

-- a spec takes out a path, that of a directory or not
abbrev pub spec_excludes_path : NamedSpec → List ℕ → Bool → Bool
spec_excludes_path named path is_dir = is_excluded_match (match_of_path_by_specs named.spec path (Some is_dir))

-- It takes out a directory as one that is asked for: it would take out no file at the same path, or was written with `.` or `..` at its end,
-- where git reads a slash.
abbrev pub spec_excludes_path_as_directory : NamedSpec → List ℕ → Bool
spec_excludes_path_as_directory named d = spec_excludes_path named d true && (ends_in_dot_component named || not (spec_excludes_path named d false))

-- A spec takes out a directory itself: git asks it for the name, which has a slash at the end. So `:!b*/` and `:!b?` take out `b`, and match
-- no file in it.
abbrev pub excludes_directory_itself : List ℕ → List ℕ → NamedSpec → Bool
excludes_directory_itself name d named = spec_excludes_path named name (ends_in_double_star_slash named) || spec_excludes_path_as_directory named d

-- git does not look into a directory of which the index has nothing, where one of the path specs takes that out
abbrev pub do_specs_skip_unindexed_directory : List IndexEntry → List NamedSpec → List ℕ → Bool
do_specs_skip_unindexed_directory entries all d = list_any (excludes_directory_itself (name (directory_place_of_path d)) d) all && not (has_index_entry_beneath entries (name (directory_place_of_path d)))

-- the directory that ends before a byte of a name is such a one
abbrev pub do_specs_skip_directory_ending_at : List IndexEntry → List NamedSpec → List ℕ → ℕ → Bool
do_specs_skip_directory_ending_at entries all name at = is_slash (slice_index name at) && do_specs_skip_unindexed_directory entries all (take at name)

-- git does not come to what has a name: it is that of such a directory, or lies in one
abbrev pub lies_in_spec_skipped_directory : List IndexEntry → List NamedSpec → List ℕ → Bool
lies_in_spec_skipped_directory entries all name = list_any (do_specs_skip_unindexed_directory entries all) (directories_above_path name)

-- ---- an entry by itself

-- where the walk found an entry; a repository counts as a directory there
abbrev pub place_of_report_entry : Entry → PathWithDirectoryFlag
place_of_report_entry e = record { path = e.rela_path; holds_names = is_some_directory_kind e.disk_kind }

-- "-o: Show other (i.e. untracked) files in the output", "-i: Show only ignored files in the output"
abbrev pub is_status_listed : Listing → Status → Bool
is_status_listed l Untracked = not l.ignored
is_status_listed l (Ignored kind) = l.ignored
is_status_listed l Tracked = false
is_status_listed l Pruned = false

-- directories without anything are shown with `--directory`, unless `--no-empty-directory` is said
abbrev pub lists_empty_directories : Listing → Bool
lists_empty_directories l = l.directories && l.empty_directories

-- a file, a link or a repository; and such a directory
abbrev pub is_kind_listed : Listing → Option Kind → Bool
is_kind_listed l None = false
is_kind_listed l (Some Untrackable) = false
is_kind_listed l (Some File) = true
is_kind_listed l (Some Symlink) = true
is_kind_listed l (Some Repository) = true
is_kind_listed l (Some Directory) = lists_empty_directories l

-- the options ask for what has such a status and is of such a kind; path specs are not asked yet
abbrev pub is_entry_listable : Listing → Entry → Bool
is_entry_listable l e = is_status_listed l e.status && is_kind_listed l e.disk_kind

-- the path specs match it, with a slash behind it if it is a directory
abbrev pub do_specs_match_report_entry : List PathSpec → Entry → Bool
do_specs_match_report_entry specs e = do_specs_match_path specs (name (place_of_report_entry e)) (is_some_directory_kind e.disk_kind)

-- so is one that git comes to
abbrev pub is_matched_outside_skipped_directory : List IndexEntry → List PathSpec → List NamedSpec → Entry → Bool
is_matched_outside_skipped_directory entries specs all e = do_specs_match_report_entry specs e && not (lies_in_spec_skipped_directory entries all (name (place_of_report_entry e)))

-- an entry is shown by itself: the options ask for it, the path specs match it, and git comes to it
abbrev pub is_report_entry_listed : Listing → List IndexEntry → List PathSpec → List NamedSpec → Entry → Bool
is_report_entry_listed l entries specs all e = is_entry_listable l e && is_matched_outside_skipped_directory entries specs all e

-- where it is, if it is shown by itself
abbrev pub place_of_entry_if_listed : Listing → List IndexEntry → List PathSpec → List NamedSpec → Entry → Option PathWithDirectoryFlag
place_of_entry_if_listed l entries specs all e = if is_report_entry_listed l entries specs all e then Some (place_of_report_entry e) else None

-- ---- a directory in the place of what it holds

-- a match of any path: the spec has the empty path, or no spec is positive and none excludes
abbrev pub is_always_match : MatchKind → Bool
is_always_match Always = true
is_always_match Prefix = false
is_always_match WildcardMatch = false
is_always_match Verbatim = false

-- The path specs match a directory, with a slash behind it. Where one names it, and what it holds is ignored, the directory may be ignored
-- itself: then it is not shown.
abbrev pub does_match_allow_folded_directory : Bool → Option Match → Bool
does_match_allow_folded_directory ignored None = false
does_match_allow_folded_directory ignored (Some m) = not m.excluded && (not ignored || is_always_match m.kind)

-- the same of a name alone: nothing of the index lies beneath it, and the path specs match it
abbrev pub may_name_stand_for_contents : List IndexEntry → List PathSpec → Bool → List ℕ → Bool
may_name_stand_for_contents entries specs ignored name = not (has_index_entry_beneath entries name) && does_match_allow_folded_directory ignored (match_of_path_by_specs specs name (Some true))

-- "--directory: If a whole directory is classified as "other", show just its name with a trailing slash and not its whole contents": the
-- index has nothing in it
abbrev pub may_directory_stand_for_contents : List IndexEntry → List PathSpec → Bool → List ℕ → Bool
may_directory_stand_for_contents entries specs ignored directory = may_name_stand_for_contents entries specs ignored (name (directory_place_of_path directory))

-- the directory that ends before a byte of a path is
abbrev pub may_path_prefix_stand_for_contents : List IndexEntry → List PathSpec → Bool → List ℕ → ℕ → Bool
may_path_prefix_stand_for_contents entries specs ignored path at = is_slash (slice_index path at) && may_directory_stand_for_contents entries specs ignored (take at path)

-- the index does not have it, no rule excludes it, and the walk does not leave it out
abbrev pub is_untracked_status : Status → Bool
is_untracked_status Untracked = true
is_untracked_status (Ignored kind) = false
is_untracked_status Tracked = false
is_untracked_status Pruned = false

-- with rules, a directory may be ignored itself unless what lies in it is untracked: a `.git` is pruned in either
abbrev pub may_parent_be_ignored : Listing → Status → Bool
may_parent_be_ignored l status = uses_per_directory_ignore_rules l && not (is_untracked_status status)

-- an entry shows that a directory is not empty: any, but with "--no-empty-directory: Do not list empty directories" one alone that is shown
abbrev pub fills_directories_above : Listing → List IndexEntry → List PathSpec → List NamedSpec → Entry → Bool
fills_directories_above l entries specs all e = l.directories && (l.empty_directories || is_report_entry_listed l entries specs all e)

-- the highest directory above an entry that is shown in its place
abbrev pub highest_directory_standing_for_contents : List IndexEntry → List PathSpec → Bool → List ℕ → Option (List ℕ)
highest_directory_standing_for_contents entries specs ignored path = find (may_directory_stand_for_contents entries specs ignored) (directories_above_path path)

-- unless git does not come to it
abbrev pub directory_place_unless_skipped : List IndexEntry → List NamedSpec → List ℕ → Option PathWithDirectoryFlag
directory_place_unless_skipped entries all d = if lies_in_spec_skipped_directory entries all (name (directory_place_of_path d)) then None else Some (directory_place_of_path d)

-- the directory that is shown for an entry; none without `--directory`, or where git does not come to it
abbrev pub directory_standing_for_entry : Listing → List IndexEntry → List PathSpec → List NamedSpec → Entry → Option PathWithDirectoryFlag
directory_standing_for_entry l entries specs all e =
    if fills_directories_above l entries specs all e then option_and_then (directory_place_unless_skipped entries all) (highest_directory_standing_for_contents entries specs (may_parent_be_ignored l e.status) e.rela_path) else None

-- ---- what is shown

-- an entry of the index stands at the path itself
abbrev pub has_index_entry_at : List IndexEntry → List ℕ → Bool
has_index_entry_at entries path = is_some (first_entry_at_path path entries)

-- no path of the index is any other
abbrev pub name_of_place_unless_indexed : List IndexEntry → PathWithDirectoryFlag → Option (List ℕ)
name_of_place_unless_indexed entries place = if has_index_entry_at entries place.path then None else Some (name place)

-- what is shown for an entry: a directory above it, else the entry by itself, if it is shown
abbrev pub place_listed_for_entry : Listing → List IndexEntry → List PathSpec → List NamedSpec → Entry → Option PathWithDirectoryFlag
place_listed_for_entry l entries specs all e = option_or (directory_standing_for_entry l entries specs all e) (place_of_entry_if_listed l entries specs all e)

-- the name of what is shown for an entry, unless the index has its path
abbrev pub untracked_name_for_entry : Listing → List IndexEntry → List PathSpec → List NamedSpec → Entry → Option (List ℕ)
untracked_name_for_entry l entries specs all e = option_and_then (name_of_place_unless_indexed entries) (place_listed_for_entry l entries specs all e)

-- some names, with one in front if it is given
abbrev pub prepend_name_if_some : Option (List ℕ) → List (List ℕ) → List (List ℕ)
prepend_name_if_some None names = names
prepend_name_if_some (Some name) names = name ∷ names

-- those of all entries of a report, in its order; a directory comes once for each entry that it stands for
abbrev pub untracked_names_of_report : Listing → List IndexEntry → List PathSpec → List NamedSpec → List ReportEntry → List (List ℕ)
untracked_names_of_report l entries specs all [] = []
untracked_names_of_report l entries specs all (e ∷ found) = prepend_name_if_some (untracked_name_for_entry l entries specs all e.entry) (untracked_names_of_report l entries specs all found)

-- the names of what is shown, in the order of their bytes, each once
abbrev pub sorted_untracked_names : Listing → List IndexEntry → List PathSpec → List NamedSpec → List ReportEntry → List (List ℕ)
sorted_untracked_names l entries specs all found = insert_paths_in_order [] (untracked_names_of_report l entries specs all found)

-- the lines of what the index does not have, in the order of the names
abbrev pub lines_of_untracked_names : Listing → List ℕ → List (List ℕ) → List ℕ
lines_of_untracked_names l prefix names = flat_map (line_of_untracked_path l prefix) names
