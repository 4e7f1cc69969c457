-- What is answered of all paths that are asked about.
use Rattle.std.specs.Prelude.{ℕ, List, [], ◌∷◌, ◌++◌, false, ◌||◌, is_some, Option, Result, Ok}
use Rattle.gitbase_core.specs.declared.entry.IndexEntry.{IndexEntry}
use Rattle.gitbase_core.specs.Steps.{and_then}
use Rattle.worktree_fs.specs.Tree.{Names}
use Rattle.check_ignore.specs.Deciding.{drop_negative_unless_verbose, deciding_rule_unless_tracked}
use Rattle.check_ignore.specs.Finds.{◌>>=◌}
use Rattle.check_ignore.specs.Lines.{line}
use Rattle.check_ignore.specs.Links.{parse_nonempty_asked_paths}
use Rattle.check_ignore.specs.Tracked.{refuse_sparse_index, refuse_paths_in_submodules}
use Rattle.check_ignore.specs.declared.answer.Answered.{Answered}
use Rattle.check_ignore.specs.declared.asked.AskedPath.{AskedPath}
use Rattle.check_ignore.specs.declared.options.Checking.{Checking}
use Rattle.check_ignore.specs.declared.options.OuterRules.{OuterRules}
use Rattle.check_ignore.specs.declared.found_rule.FoundRule.{FoundRule}
use Rattle.check_ignore.specs.declared.stop.Stop.{Stop}

-- nothing is written, and no rule decides
abbrev pub empty_answer : Answered
empty_answer = record { text = []; is_any = false }

-- what one path adds
abbrev pub answer_with_other_appended : Answered → Answered → Answered
answer_with_other_appended done now = record { text = done.text ++ now.text; is_any = done.is_any || now.is_any }

-- what is answered of a path by the rule that decides about it
abbrev pub answer_of_deciding_rule : Names → List ℕ → OuterRules → Checking → AskedPath → Option FoundRule → Answered
answer_of_deciding_rule t root outer c a rule = record { text = line t root outer c a.text rule; is_any = is_some rule }

-- and by all rules
unfoldable pub answer_of_asked_path : Names → List ℕ → List IndexEntry → OuterRules → Checking → AskedPath → Result Answered Stop
answer_of_asked_path t root index outer c a = do
  rule ← deciding_rule_unless_tracked t root index outer c a
  Ok (answer_of_deciding_rule t root outer c a (drop_negative_unless_verbose c rule))

-- some paths behind others
abbrev pub append_answers_of_paths : Names → List ℕ → List IndexEntry → OuterRules → Checking → Answered → List AskedPath → Result Answered Stop
append_answers_of_paths t root index outer c done [] = Ok done
append_answers_of_paths t root index outer c done (a ∷ asked) =
    and_then (λ now. append_answers_of_paths t root index outer c (answer_with_other_appended done now) asked) (answer_of_asked_path t root index outer c a)

-- What is answered of paths in the directory `prefix` of the work tree at `root`, or the first refusal.
unfoldable pub check_ignore_answer : Names → List ℕ → List ℕ → List IndexEntry → OuterRules → Checking → List (List ℕ) → Result Answered Stop
check_ignore_answer t root prefix index outer c texts = do
  whole ← refuse_sparse_index index
  asked ← parse_nonempty_asked_paths t root prefix texts
  outside ← refuse_paths_in_submodules asked index
  append_answers_of_paths t root index outer c empty_answer asked
