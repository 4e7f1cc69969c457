-- What path specs say of a directory that lies among what they are about: gitglossary(7), "pathspec".
--
-- A directory stands here as its path, and as its name, which has a slash at the end. With `w` the directory may be taken as a whole; with
-- `w/x/f` beside it git looks further down, and names what lies in `w` by itself. With `w/` or `w*` beside those it takes `w` after all.
use Rattle.std.specs.Prelude.{ℕ, List, [], ◌∷◌, Bool, true, false, not, ◌==◌, ◌&&◌, ◌||◌, nat_eq, Option, Some, None, is_none, unwrap_or}
use Rattle.std.specs.List.{before_first, list_any, starts_with}
use Rattle.gitbase_core.specs.Path.{basename, strip_directory_prefix}
use Rattle.glob_rules.specs.Glob.{is_glob_special_byte}
use Rattle.glob_rules.specs.PathSpec.{PathSpec}
use Rattle.glob_rules.specs.PathSpecs.{can_match, common_directory_of_specs, match_of_path_by_specs, is_including_match}
use Rattle.glob_rules.specs.declared.pathspec.Match.{Match}
use Rattle.glob_rules.specs.declared.pathspec.MatchKind.{MatchKind}
use Rattle.glob_rules.specs.declared.pathspec.MatchKind.TheVariants.{Always, Prefix, WildcardMatch, Verbatim}
use Rattle.ls_files.specs.declared.options.NamedSpec.{NamedSpec}
use Rattle.ls_files.specs.Others.{ends_in_dot_component, is_excluded_match}

-- ---- matches

-- the path lies beneath that of the spec, or the spec has none
abbrev pub is_always_or_prefix_match_kind : MatchKind → Bool
is_always_or_prefix_match_kind Always = true
is_always_or_prefix_match_kind Prefix = true
is_always_or_prefix_match_kind WildcardMatch = false
is_always_or_prefix_match_kind Verbatim = false

-- the wildcards of the spec match, and not its bytes alone or a directory above the path
abbrev pub is_wildcard_match_kind : MatchKind → Bool
is_wildcard_match_kind Always = false
is_wildcard_match_kind Prefix = false
is_wildcard_match_kind WildcardMatch = true
is_wildcard_match_kind Verbatim = false

-- the wildcards of a spec that asks for paths match: one that excludes does not count
abbrev pub is_including_wildcard_match : Option Match → Bool
is_including_wildcard_match None = false
is_including_wildcard_match (Some m) = not m.excluded && is_wildcard_match_kind m.kind

-- the spec is about the path itself
abbrev pub is_including_match_of_path_itself : Option Match → Bool
is_including_match_of_path_itself None = false
is_including_match_of_path_itself (Some m) = not (m.excluded || is_always_or_prefix_match_kind m.kind)

-- it is about all beneath a directory above, or takes out
abbrev pub excludes_or_matches_all_beneath : Option Match → Bool
excludes_or_matches_all_beneath None = false
excludes_or_matches_all_beneath (Some m) = m.excluded || is_always_or_prefix_match_kind m.kind

-- ---- specs that settle

-- A spec asks for a directory: it matches no file at this path, or was written with `.` or `..` at the end, where git reads a slash.
abbrev pub spec_matches_only_as_directory : List ℕ → NamedSpec → Bool
spec_matches_only_as_directory d named = ends_in_dot_component named || is_none (match_of_path_by_specs named.spec d (Some false))

-- such a spec is about a directory itself
abbrev pub spec_means_directory_itself : List ℕ → NamedSpec → Bool
spec_means_directory_itself d named = is_including_match_of_path_itself (match_of_path_by_specs named.spec d (Some true)) && spec_matches_only_as_directory d named

-- A spec settles that a directory goes as a whole: it has a slash at its end, as the name has, or wildcards that match the name.
abbrev pub spec_takes_directory_whole : List ℕ → List ℕ → NamedSpec → Bool
spec_takes_directory_whole name d named = is_including_wildcard_match (match_of_path_by_specs named.spec name (Some false)) || spec_means_directory_itself d named

-- ---- specs that lead further down

-- what stands of the first component with wildcards before these, in a spec as it was written
abbrev pub component_text_before_wildcard : List ℕ → List ℕ
component_text_before_wildcard text = basename (before_first is_glob_special_byte text)

-- it has no words or signs before its path
abbrev pub is_spec_without_magic : List ℕ → Bool
is_spec_without_magic [] = true
is_spec_without_magic (b ∷ text) = not (b == 58)

-- the directory that all its matches lie in
abbrev pub common_directory_of_spec : NamedSpec → List ℕ
common_directory_of_spec named = unwrap_or (common_directory_of_specs named.spec) []

-- the rest of a path does not begin as the spec does; where there is no rest, as the path lies elsewhere, nothing is said
abbrev pub starts_unlike_front : List ℕ → Option (List ℕ) → Bool
starts_unlike_front front None = false
starts_unlike_front front (Some rest) = not (starts_with nat_eq rest front)

-- a spec with wildcards is about names that begin otherwise than that of the directory: `u*` than `w`
abbrev pub directory_differs_from_wildcard_start : List ℕ → NamedSpec → Bool
directory_differs_from_wildcard_start d named = is_spec_without_magic named.text && starts_unlike_front (component_text_before_wildcard named.text) (strip_directory_prefix (common_directory_of_spec named) d)

-- a spec is about what may lie further down in a directory
abbrev pub spec_may_match_deeper : List ℕ → List ℕ → NamedSpec → Bool
spec_may_match_deeper name d named =
    can_match named.spec d
    && not (spec_takes_directory_whole name d named || (excludes_or_matches_all_beneath (match_of_path_by_specs named.spec name (Some true)) || directory_differs_from_wildcard_start d named))

-- ---- all of them

-- the specs match a directory, and none leads further down
abbrev pub is_included_and_none_match_deeper : List PathSpec → List NamedSpec → List ℕ → List ℕ → Bool
is_included_and_none_match_deeper specs named name d = is_including_match (match_of_path_by_specs specs name (Some true)) && not (list_any (spec_may_match_deeper name d) named)

-- none takes it out, and one settles it, or it is matched as a whole
abbrev pub specs_take_directory_whole : List PathSpec → List NamedSpec → List ℕ → List ℕ → Bool
specs_take_directory_whole specs named name d =
    not (is_excluded_match (match_of_path_by_specs specs name (Some true))) && (list_any (spec_takes_directory_whole name d) named || is_included_and_none_match_deeper specs named name d)
