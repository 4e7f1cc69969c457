-- What is read of a directory that is pushed: what is said of attributes, and then its ignore rules.
use Rattle.std.specs.Prelude.{◌≡◌, ℕ, List, Result, Ok, Err}
use Rattle.std.proofs.Common.{ap, subst, ◌∙◌}
use Rattle.gitbase_core.specs.declared.find.Find.{Ghosts as FindOf}
use Rattle.worktree_fs.specs.declared.worktree.Worktree.{Ghosts as WorktreeOf}
use Rattle.worktree_fs.specs.Paths.{slash_joined_components}
use Rattle.worktree_stack.specs.declared.error.AtPathError.{AtPathError}
use Rattle.worktree_stack.specs.declared.statistics.Statistics.{Statistics}
use Rattle.worktree_stack.specs.Placed.{AnswersReadings}
use Rattle.worktree_stack.specs.Reading.{RulesReading, attribute_readings_of_directory, ignore_readings_of_directory, readings_of_directory}
use Rattle.worktree_stack.specs.Setup.{StackSetup}
use Rattle.worktree_stack.specs.Stacked.{StackModel, setup_of_stack}
use Rattle.worktree_stack.proofs.Rules.Pushing.{counted-push, reads-counted}
use Rattle.worktree_stack.proofs.Rules.Readings.{reads-cut, reads-then}

module _ {W F : Type 0} (w : WorktreeOf W) (f : FindOf F) (w0 w1 : W) (o0 o1 : F) (old counted after : StackModel) (is : counted ≡ counted-push old) where
  -- the readings of attributes were done once the directory was counted
  pub attributes-read : (r : Result (Unit {0}) AtPathError)
      → AnswersReadings w f w0 w1 o0 o1 (attribute_readings_of_directory (setup_of_stack counted) (setup_of_stack counted).attributes (slash_joined_components counted.current)) counted.statistics after.statistics r
      → AnswersReadings w f w0 w1 o0 o1 (attribute_readings_of_directory (setup_of_stack old) (setup_of_stack old).attributes (slash_joined_components old.current)) old.statistics after.statistics r
  attributes-read r read = reads-counted w f w0 w1 o0 o1 old counted (λ m d. attribute_readings_of_directory m m.attributes d) after.statistics r is read

  -- one of them was refused
  pub rules-unread : (e : AtPathError)
      → AnswersReadings {T = Unit {0}} w f w0 w1 o0 o1 (attribute_readings_of_directory (setup_of_stack counted) (setup_of_stack counted).attributes (slash_joined_components counted.current)) counted.statistics after.statistics (Err e)
      → AnswersReadings {T = Unit {0}} w f w0 w1 o0 o1 (readings_of_directory (setup_of_stack old) (slash_joined_components old.current)) old.statistics after.statistics (Err e)
  rules-unread e read =
      let made : StackSetup = setup_of_stack old in
      reads-cut w f w0 w1 o0 o1 (attribute_readings_of_directory made made.attributes (slash_joined_components old.current)) (ignore_readings_of_directory made made.ignore (slash_joined_components old.current)) old.statistics after.statistics e (attributes-read (Err e) read)

  -- they were done, and then that of the ignore rules was, or was refused
  pub rules-read : (w2 : W) (o2 : F) (s2 : Statistics) (r : Result (Unit {0}) AtPathError) → setup_of_stack after ≡ setup_of_stack old → after.current ≡ old.current
      → AnswersReadings {T = Unit {0}} w f w0 w1 o0 o1 (attribute_readings_of_directory (setup_of_stack counted) (setup_of_stack counted).attributes (slash_joined_components counted.current)) counted.statistics after.statistics (Ok tt)
      → AnswersReadings w f w1 w2 o1 o2 (ignore_readings_of_directory (setup_of_stack after) (setup_of_stack after).ignore (slash_joined_components after.current)) after.statistics s2 r
      → AnswersReadings w f w0 w2 o0 o2 (readings_of_directory (setup_of_stack old) (slash_joined_components old.current)) old.statistics s2 r
  rules-read w2 o2 s2 r made_is current_is first second =
      let made : StackSetup = setup_of_stack old in
      let ignore : List RulesReading = ignore_readings_of_directory made made.ignore (slash_joined_components old.current) in
      let ignore_is : ignore_readings_of_directory (setup_of_stack after) (setup_of_stack after).ignore (slash_joined_components after.current) ≡ ignore =
      ap (λ (m : StackSetup). ignore_readings_of_directory m m.ignore (slash_joined_components after.current)) made_is ∙ ap (λ (n : List (List ℕ)). ignore_readings_of_directory made made.ignore (slash_joined_components n)) current_is in
      reads-then w f w0 w1 w2 o0 o1 o2 (attribute_readings_of_directory made made.attributes (slash_joined_components old.current)) ignore old.statistics after.statistics s2 tt (attributes-read (Ok tt) first) r
      (subst (λ (rs : List RulesReading). AnswersReadings w f w1 w2 o1 o2 rs after.statistics s2 r) ignore_is second)
