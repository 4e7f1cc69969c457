-- The lines of index paths and their states.
use Rattle.std.specs.Prelude.{ℕ, List, [], ◌∷◌, ◌++◌, codes, Option, Some, None}
use Rattle.std.specs.List.{flat_map}
use Rattle.worktree_report.specs.declared.setup.SetupOptions.{SetupOptions}
use Rattle.worktree_report.specs.Escapes.{path_escaped}
use Rattle.worktree_report.specs.Lines.{text_of_report}
use Rattle.index_status.specs.declared.path_state.PathState.{PathState}
use Rattle.index_status.specs.declared.path_state.PathState.TheVariants as states
use Rattle.index_status.specs.declared.report_beside.IndexStatus.{IndexStatus}
use Rattle.index_status.specs.Rows.{PathAndState}

-- the word of a state; what is the same is not told
abbrev pub word_of_path_state : PathState → Option (List ℕ)
word_of_path_state states.Same = None
word_of_path_state states.Modified = Some (codes "modified")
word_of_path_state states.Deleted = Some (codes "deleted")
word_of_path_state states.TypeChanged = Some (codes "typechanged")
word_of_path_state states.Conflicted = Some (codes "conflicted")
word_of_path_state states.Skipped = Some (codes "skipped")
word_of_path_state states.Unchecked = Some (codes "unchecked")

-- a word, a tab, and the path
abbrev pub line_of_optional_state_word : Option (List ℕ) → List ℕ → List ℕ
line_of_optional_state_word None path = []
line_of_optional_state_word (Some word) path = word ++ 9 ∷ [] ++ path_escaped path ++ 10 ∷ []

-- the line of a path and its state, if that is told
unfoldable pub line_unless_state_same : PathAndState → List ℕ
line_unless_state_same row = line_of_optional_state_word (word_of_path_state row.1) row.0

-- The text of the states: a line for each path whose state is told, in the order of the paths.
abbrev pub lines_of_states_not_same : List PathAndState → List ℕ
lines_of_states_not_same rows = flat_map line_unless_state_same rows

-- and behind it the text of the report
abbrev pub states_and_report_text : SetupOptions → IndexStatus → List ℕ
states_and_report_text options status = lines_of_states_not_same status.paths.items ++ text_of_report options status.report
