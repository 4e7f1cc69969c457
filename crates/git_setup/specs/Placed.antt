-- A path spec from a directory of the work tree, as it is from the top: gitglossary(7), "pathspec".
use Rattle.std.specs.Prelude.{ℕ, ◌++◌, Bool, true, false, not, ◌&&◌, ◌||◌, List, [], ◌∷◌, drop, take_while, Option, Some, None, ok_or, Result, Ok, Err, bytes_eq, codes, ◌==◌, if◌then◌else◌}
use Rattle.std.specs.Char.{is_ascii_alphabetic}
use Rattle.std.specs.List.{list_any, before_first, after_first, prefix_len}
use Rattle.gitbase_core.specs.Path.{path_with_trailing_slash, ends_in_slash, is_empty, is_absolute, is_slash, path_joined_with_slash, normalized, strip_directory_prefix}
use Rattle.glob_rules.specs.Glob.{is_glob_special_byte}
use Rattle.glob_rules.specs.Marks.{colon, open_parenthesis}
use Rattle.glob_rules.specs.PathSpecText.{is_closing_parenthesis, is_exclude_mark, is_short_magic_mark, comma_separated_words}
use Rattle.glob_rules.specs.Rule.{strip_leading_byte}
use Rattle.gitbase_core.specs.Steps.{and_then}
use Rattle.git_setup.specs.declared.error.GitRefusal.{GitRefusal}
use Rattle.git_setup.specs.declared.error.GitRefusal.TheVariants as errors
use Rattle.git_setup.specs.declared.placed.SpecText.{SpecText}

-- a magic word is one of these, byte for byte: `Top` is not `top`
abbrev pub has_word : List ℕ → List (List ℕ) → Bool
has_word word words = list_any (λ said. bytes_eq said word) words

-- a path alone
abbrev pub parse_pathspec_without_magic : List ℕ → SpecText
parse_pathspec_without_magic path = record { front = codes "::"; path = path; is_top = false; is_literal = false; folds = false; excludes = false }

-- a text that is left as it is
abbrev pub pathspec_text_left_unchanged : List ℕ → SpecText
pathspec_text_left_unchanged text = record { front = []; path = text; is_top = true; is_literal = false; folds = false; excludes = false }

-- a spec as `:(top,icase)a*`: the words stay in front of it, and tell how its path is placed
abbrev pub spec_text_by_magic_words : List ℕ → List ℕ → SpecText
spec_text_by_magic_words inside path =
    record {
      front = codes ":(" ++ inside ++ codes ")";
      path = path;
      is_top = has_word (codes "top") (comma_separated_words inside);
      is_literal = has_word (codes "literal") (comma_separated_words inside);
      folds = has_word (codes "icase") (comma_separated_words inside);
      excludes = has_word (codes "exclude") (comma_separated_words inside);
    }

-- by what stands behind `:(`
abbrev pub parse_long_magic_pathspec : List ℕ → SpecText
parse_long_magic_pathspec rest = if list_any is_closing_parenthesis rest then spec_text_by_magic_words (before_first is_closing_parenthesis rest) (after_first is_closing_parenthesis rest) else pathspec_text_left_unchanged (codes ":(" ++ rest)

-- a spec as `:/!a*`: `/` means `top`, `!` and `^` mean `exclude`; a colon ends the marks, written or not
abbrev pub spec_text_by_magic_marks : List ℕ → List ℕ → SpecText
spec_text_by_magic_marks marks path =
    record {
      front = codes ":" ++ marks ++ codes ":";
      path = path;
      is_top = list_any is_slash marks;
      is_literal = false;
      folds = false;
      excludes = list_any is_exclude_mark marks;
    }

-- by what stands behind `:`, where no parenthesis comes next
abbrev pub parse_short_magic_pathspec : List ℕ → SpecText
parse_short_magic_pathspec rest = spec_text_by_magic_marks (take_while is_short_magic_mark rest) (strip_leading_byte colon (drop (prefix_len is_short_magic_mark rest) rest)).1

-- by what stands behind the first colon: `(` begins the long form, anything else is of the short one
abbrev pub parse_magic_pathspec : List ℕ → SpecText
parse_magic_pathspec [] = parse_short_magic_pathspec []
parse_magic_pathspec (b ∷ rest) = if b == open_parenthesis then parse_long_magic_pathspec rest else parse_short_magic_pathspec (b ∷ rest)

-- the empty text is none of a path spec, and is left as it is
abbrev pub split_pathspec_into_magic_and_path : List ℕ → SpecText
split_pathspec_into_magic_and_path [] = pathspec_text_left_unchanged []
split_pathspec_into_magic_and_path (b ∷ rest) = if b == colon then parse_magic_pathspec rest else parse_pathspec_without_magic (b ∷ rest)

-- ---- from the top

-- what an absolute path has behind that of the top, if it is there or beneath
abbrev pub path_below_root : List ℕ → List ℕ → Option (List ℕ)
path_below_root root path = if bytes_eq path root then Some [] else strip_directory_prefix root path

-- an absolute path without empty components, `.` and `..`; a slash at its end stays, and so does a path that leads out
abbrev pub normalized_or_same_keeping_slash : List ℕ → Option (List ℕ) → List ℕ
normalized_or_same_keeping_slash path None = path
normalized_or_same_keeping_slash path (Some normal) = if ends_in_slash path then path_with_trailing_slash normal else normal

-- for example `/a/./b/../c/` is `/a/c/`
abbrev pub normalized_path_keeping_slash : List ℕ → List ℕ
normalized_path_keeping_slash path = normalized_or_same_keeping_slash path (normalized path)

-- whether the bytes of a directory would mean something else in front of the path: as a pattern, or without regard to case
abbrev pub would_prefix_match_differently : SpecText → List ℕ → Bool
would_prefix_match_differently p prefix = (not p.is_literal && list_any is_glob_special_byte prefix) || (p.folds && list_any is_ascii_alphabetic prefix)

-- a relative path, from a directory of the work tree
abbrev pub relative_spec_path_from_top : List ℕ → List ℕ → SpecText → Result (List ℕ) GitRefusal
relative_spec_path_from_top text prefix p =
    if is_empty prefix then Ok p.path
    else if would_prefix_match_differently p prefix then Err (errors.Prefix text prefix)
    else Ok (path_joined_with_slash prefix p.path)

-- the path of a spec from the top, by the text of the spec, which names it where it is refused
abbrev pub spec_path_from_top : List ℕ → List ℕ → List ℕ → SpecText → Result (List ℕ) GitRefusal
spec_path_from_top root text prefix p =
    if p.is_top then Ok p.path
    else if is_absolute p.path then ok_or (path_below_root root (normalized_path_keeping_slash p.path)) (errors.OutsidePath text)
    else relative_spec_path_from_top text prefix p

-- the magic, and behind it the path from the top; a spec that cannot be placed is refused by its text
abbrev pub spec_text_from_top : List ℕ → List ℕ → List ℕ → SpecText → Result (List ℕ) GitRefusal
spec_text_from_top root text prefix p = and_then (λ path. Ok (p.front ++ path)) (spec_path_from_top root text prefix p)

-- the text of a path spec from the top
unfoldable pub resolve_pathspec_from_top : List ℕ → List ℕ → List ℕ → Result (List ℕ) GitRefusal
resolve_pathspec_from_top root prefix text = spec_text_from_top root text prefix (split_pathspec_into_magic_and_path text)
