-- What a line of a setup says by itself.
use Rattle.std.specs.Prelude.{ℕ, List, [], ◌∷◌, Bool, true, false, not, ◌&&◌, ◌||◌, ◌==◌, codes, Option, Some, None, option_map, option_and_then, is_some, if◌then◌else◌}
use Rattle.std.specs.Str.{bytes_eq}
use Rattle.std.specs.List.{list_any}
use Rattle.gitbase_core.specs.Path.{is_empty, is_absolute}
use Rattle.worktree_report.specs.declared.setup.line.SetupLine.{SetupLine}
use Rattle.worktree_report.specs.declared.setup.line.SetupLine.TheVariants.{Skipped, Sets, Indexes, Stores, OverrideRule, GlobalRule, Specifies, SetsApart, Configures}
use Rattle.worktree_report.specs.Escapes.{unescape_path}
use Rattle.worktree_report.specs.SetupFields.{WordAndRest, split_at_first_space}
use Rattle.worktree_report.specs.SetupDepth.{parse_depth_limit}
use Rattle.worktree_report.specs.SetupOptions.{parse_option_line}
use Rattle.worktree_report.specs.SetupIndex.{parse_index_entry}
use Rattle.worktree_report.specs.SetupSpecs.{is_valid_spec}
use Rattle.worktree_report.specs.SetupFiles.{parse_blob_line, parse_config_line}
use Rattle.worktree_report.specs.Words.{is_absolute_without_dots}

-- an empty line, or a comment
abbrev pub is_empty_or_comment_line : List ℕ → Bool
is_empty_or_comment_line [] = true
is_empty_or_comment_line (b ∷ _) = b == 35

-- a traversal root may be any bytes but none, as far as they have no NUL
abbrev pub is_valid_root_value : List ℕ → Bool
is_valid_root_value rest = not (is_empty rest) && not (list_any (λ b. b == 0) rest)

-- what may stand once behind its keyword: the depth limit, the traversal root, and the places of the git directory and of the
-- current one
abbrev pub is_valid_setting_allowed_once : WordAndRest → Bool
is_valid_setting_allowed_once fields =
    if bytes_eq fields.word (codes "depth") then is_some (parse_depth_limit fields.rest)
    else if bytes_eq fields.word (codes "root") then is_valid_root_value fields.rest
    else if bytes_eq fields.word (codes "git_dir") || bytes_eq fields.word (codes "current_dir") then is_absolute_without_dots fields.rest
    else false

-- it is kept as an option of that name is, and no option has such a name
abbrev pub parse_single_setting_line : WordAndRest → Option SetupLine
parse_single_setting_line fields = if is_valid_setting_allowed_once fields then Some (Sets (record { name = fields.word; value = fields.rest })) else None

-- a directory that is a worktree of its own, by its escaped path relative to the worktree root
abbrev pub parse_worktree_path_if_relative : List ℕ → Option SetupLine
parse_worktree_path_if_relative path = if is_absolute path then None else Some (SetsApart path)

-- none where the path is absolute, or a backslash in it is not followed by two hexadecimal digits
abbrev pub parse_worktree_line : List ℕ → Option SetupLine
parse_worktree_line rest = option_and_then parse_worktree_path_if_relative (unescape_path rest)

-- a path spec as it stands, which has to parse both with letters folded and without
abbrev pub parse_spec_line : List ℕ → Option SetupLine
parse_spec_line text = if is_valid_spec text then Some (Specifies text) else None

-- a blob behind its keyword, or a configuration
abbrev pub parse_blob_config_or_single_line : WordAndRest → Option SetupLine
parse_blob_config_or_single_line fields =
    if bytes_eq fields.word (codes "blob") then option_map Stores (parse_blob_line fields.rest)
    else if bytes_eq fields.word (codes "config") then option_map Configures (parse_config_line fields.rest)
    else parse_single_setting_line fields

-- a path spec behind its keyword, or such a directory
abbrev pub parse_spec_worktree_or_file_line : WordAndRest → Option SetupLine
parse_spec_worktree_or_file_line fields =
    if bytes_eq fields.word (codes "spec") then parse_spec_line fields.rest
    else if bytes_eq fields.word (codes "worktree") then parse_worktree_line fields.rest
    else parse_blob_config_or_single_line fields

-- an ignore rule behind its keyword; any bytes are one, none too
abbrev pub parse_rule_or_later_line : WordAndRest → Option SetupLine
parse_rule_or_later_line fields =
    if bytes_eq fields.word (codes "override") then Some (OverrideRule fields.rest)
    else if bytes_eq fields.word (codes "global") then Some (GlobalRule fields.rest)
    else parse_spec_worktree_or_file_line fields

-- a keyword, a space and the rest
abbrev pub parse_line_by_keyword : WordAndRest → Option SetupLine
parse_line_by_keyword fields =
    if bytes_eq fields.word (codes "option") then option_map Sets (parse_option_line fields.rest)
    else if bytes_eq fields.word (codes "index") then option_map Indexes (parse_index_entry fields.rest)
    else parse_rule_or_later_line fields

-- what a line says by itself; none where it says nothing
abbrev pub parse_setup_line : List ℕ → Option SetupLine
parse_setup_line line = if is_empty_or_comment_line line then Some Skipped else option_and_then parse_line_by_keyword (split_at_first_space line)
