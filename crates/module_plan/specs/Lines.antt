-- The lines of a plan.
use Rattle.std.specs.Prelude.{ℕ, List, [], ◌∷◌, ◌++◌, codes}
use Rattle.std.specs.List.{flat_map}
use Rattle.module_plan.specs.declared.step.Skipped.{Skipped}
use Rattle.module_plan.specs.declared.step.Step.{Step}
use Rattle.module_plan.specs.declared.step.StepKind.{StepKind}
use Rattle.module_plan.specs.declared.step.StepKind.TheVariants as kinds
use Rattle.module_plan.specs.declared.step.Why.{Why}
use Rattle.module_plan.specs.declared.step.Why.TheVariants as whys
use Rattle.worktree_report.specs.Escapes.{path_escaped, path_escaped_in_word}

-- the word of a kind of step
abbrev pub word_of_step_kind : StepKind → List ℕ
word_of_step_kind kinds.Checkout = codes "checkout"
word_of_step_kind kinds.Rebase = codes "rebase"
word_of_step_kind kinds.Merge = codes "merge"
word_of_step_kind (kinds.Command command) = codes "command"

-- a tab and a path or a command
abbrev pub tab_and_escaped_bytes : List ℕ → List ℕ
tab_and_escaped_bytes bytes = 9 ∷ path_escaped bytes

-- a tab and a name, in which a space is escaped too, as in the words of a report
abbrev pub tab_and_escaped_name : List ℕ → List ℕ
tab_and_escaped_name name = 9 ∷ path_escaped_in_word name

-- the command, where one is to be run
abbrev pub command_column_if_any : StepKind → List ℕ
command_column_if_any kinds.Checkout = []
command_column_if_any kinds.Rebase = []
command_column_if_any kinds.Merge = []
command_column_if_any (kinds.Command command) = tab_and_escaped_bytes command

-- what is to be done, the path, the name and the command, if there is one, with a tab between each two
unfoldable pub line_of_step : Step → List ℕ
line_of_step step = word_of_step_kind step.kind ++ tab_and_escaped_bytes step.path ++ tab_and_escaped_name step.name ++ command_column_if_any step.kind ++ 10 ∷ []

-- the word that says why a submodule is left out
abbrev pub word_of_skip_reason : Why → List ℕ
word_of_skip_reason whys.BadActive = codes "bad-active"
word_of_skip_reason whys.Inactive = codes "inactive"
word_of_skip_reason whys.BadPath = codes "bad-path"
word_of_skip_reason whys.Root = codes "root"
word_of_skip_reason whys.DotGit = codes "dot-git"
word_of_skip_reason whys.BadUpdate = codes "bad-update"
word_of_skip_reason whys.SharedCommand = codes "shared-command"
word_of_skip_reason whys.NoUpdate = codes "no-update"
word_of_skip_reason whys.BadUrl = codes "bad-url"
word_of_skip_reason whys.SamePath = codes "same-path"
word_of_skip_reason whys.Link = codes "link"
word_of_skip_reason whys.NotADirectory = codes "not-a-directory"

-- `skip` and why, a tab, and the name
unfoldable pub line_of_skipped : Skipped → List ℕ
line_of_skipped one = codes "skip " ++ word_of_skip_reason one.why ++ tab_and_escaped_name one.name ++ 10 ∷ []

-- The text of a plan: a line for each step, and behind them one for each submodule that is left out.
abbrev pub text_of_plan : List Step → List Skipped → List ℕ
text_of_plan steps skipped = flat_map line_of_step steps ++ flat_map line_of_skipped skipped
