-- The setup text: which lines are in its grammar, and what they say together.
use Rattle.std.specs.Prelude.{ℕ, ◌+◌, List, [], ◌∷◌, ◌++◌, length, Bool, true, false, ◌==◌, Option, Some, None, Result, Ok, Err, is_some, if◌then◌else◌}
use Rattle.std.specs.List.{slice_split}
use Rattle.gitbase_core.specs.Index.{index_error_of_next_entry}
use Rattle.worktree_report.specs.declared.setup.line.SetupLine.{SetupLine}
use Rattle.worktree_report.specs.declared.setup.line.SetupLine.TheVariants.{Skipped, Sets, Indexes, Stores, OverrideRule, GlobalRule, Specifies, SetsApart, Configures}
use Rattle.worktree_report.specs.declared.setup.Setup.{Setup}
use Rattle.worktree_report.specs.SetupKeywords.{parse_setup_line}
use Rattle.worktree_report.specs.SetupMeant.{setup_from_draft}
use Rattle.worktree_report.specs.SetupOptions.{is_option_set}
use Rattle.worktree_report.specs.SetupSaid.{SetupDraft, empty_setup_draft, merge_setup_drafts}

-- what a line says beside others; a rule is a line of its own in the text that it belongs to
abbrev pub draft_of_setup_line : Option SetupLine → SetupDraft
draft_of_setup_line None = empty_setup_draft
draft_of_setup_line (Some Skipped) = empty_setup_draft
draft_of_setup_line (Some (Sets o)) = record empty_setup_draft { options = o ∷ [] }
draft_of_setup_line (Some (Indexes e)) = record empty_setup_draft { index = e ∷ [] }
draft_of_setup_line (Some (Stores given)) = record empty_setup_draft { blobs = given ∷ [] }
draft_of_setup_line (Some (OverrideRule rule)) = record empty_setup_draft { overrides = rule ++ 10 ∷ [] }
draft_of_setup_line (Some (GlobalRule rule)) = record empty_setup_draft { globals = rule ++ 10 ∷ [] }
draft_of_setup_line (Some (Specifies text)) = record empty_setup_draft { specs = text ∷ [] }
draft_of_setup_line (Some (SetsApart path)) = record empty_setup_draft { worktrees = path ∷ [] }
draft_of_setup_line (Some (Configures named)) = record empty_setup_draft { configs = named ∷ [] }

-- what lines say together
unfoldable pub draft_of_lines : List (List ℕ) → SetupDraft
draft_of_lines [] = empty_setup_draft
draft_of_lines (line ∷ lines) = merge_setup_drafts (draft_of_setup_line (parse_setup_line line)) (draft_of_lines lines)

-- a line says nothing, sets again what is set, or gives an entry that may not follow the earlier ones
abbrev pub is_line_refused_behind_draft : SetupDraft → Option SetupLine → Bool
is_line_refused_behind_draft earlier None = true
is_line_refused_behind_draft earlier (Some Skipped) = false
is_line_refused_behind_draft earlier (Some (Sets o)) = is_option_set o.name earlier.options
is_line_refused_behind_draft earlier (Some (Indexes e)) = is_some (index_error_of_next_entry earlier.index e)
is_line_refused_behind_draft earlier (Some (Stores given)) = false
is_line_refused_behind_draft earlier (Some (OverrideRule rule)) = false
is_line_refused_behind_draft earlier (Some (GlobalRule rule)) = false
is_line_refused_behind_draft earlier (Some (Specifies text)) = false
is_line_refused_behind_draft earlier (Some (SetsApart path)) = false
is_line_refused_behind_draft earlier (Some (Configures named)) = false

-- what is said with one more line, where that is in the grammar
abbrev pub add_setup_line : SetupDraft → Option SetupLine → Option SetupDraft
add_setup_line earlier line = if is_line_refused_behind_draft earlier line then None else Some (merge_setup_drafts earlier (draft_of_setup_line line))

-- the number of the first line outside the grammar
unfoldable pub number_of_first_bad_line : List (List ℕ) → List (List ℕ) → Option ℕ
number_of_first_bad_line earlier [] = None
number_of_first_bad_line earlier (line ∷ lines) = if is_line_refused_behind_draft (draft_of_lines earlier) (parse_setup_line line) then Some (length earlier + 1) else number_of_first_bad_line (earlier ++ line ∷ []) lines

-- ---- the whole text

-- the bytes between line feeds; behind a last line feed there is an empty line that says nothing
abbrev pub split_at_line_feeds : List ℕ → List (List ℕ)
split_at_line_feeds bytes = slice_split (λ b. b == 10) bytes

-- what the lines mean, or the first that is outside the grammar
abbrev pub setup_unless_bad_line : SetupDraft → Option ℕ → Result Setup ℕ
setup_unless_bad_line all (Some line) = Err line
setup_unless_bad_line all None = Ok (setup_from_draft all)

-- The setup that a text means, or the number of its first line outside the grammar.
unfoldable pub parse_setup_text : List ℕ → Result Setup ℕ
parse_setup_text bytes = setup_unless_bad_line (draft_of_lines (split_at_line_feeds bytes)) (number_of_first_bad_line [] (split_at_line_feeds bytes))
