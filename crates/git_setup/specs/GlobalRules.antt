-- The rules that come behind those of all directories.
use Rattle.std.specs.Prelude.{ℕ, List, [], ◌∷◌, ◌++◌, ◌-◌, ◌==◌, length, nat_eq, slice_index, Option, Some, None, if◌then◌else◌}
use Rattle.std.specs.List.{starts_with}
use Rattle.git_config_files.specs.Rules.{RulesOutsideWorkTree, RulesFile}
use Rattle.git_setup.specs.BelowTop.{exempt_top_from_star_rules}

-- some lines, with a line feed behind the last one too
abbrev pub lines_with_final_newline : List ℕ → List ℕ
lines_with_final_newline [] = []
lines_with_final_newline (b ∷ bytes) = if slice_index (b ∷ bytes) (length (b ∷ bytes) - 1) == 10 then b ∷ bytes else (b ∷ bytes) ++ 10 ∷ []

-- the rules of a file, to which others may be appended; no bytes where there is no file
abbrev pub text_of_optional_rules_file : Option RulesFile → List ℕ
text_of_optional_rules_file None = []
text_of_optional_rules_file (Some file) = lines_with_final_newline file.bytes

-- a byte order mark, as UTF-8 has it
abbrev pub byte_order_mark : List ℕ
byte_order_mark = 239 ∷ 187 ∷ 191 ∷ []

-- Each file is without its byte order mark by now. The search takes one from the front of its rules: where a file had two, the second
-- belongs to its first rule, as in git, and has another in front of it.
abbrev pub double_byte_order_mark : List ℕ → List ℕ
double_byte_order_mark rules = if starts_with nat_eq rules byte_order_mark then byte_order_mark ++ rules else rules

-- those of the user, and behind them those of the repository, as they leave the top alone
unfoldable pub combined_global_rules : RulesOutsideWorkTree → List ℕ
combined_global_rules rules = double_byte_order_mark (exempt_top_from_star_rules (text_of_optional_rules_file rules.user ++ text_of_optional_rules_file rules.repository))
