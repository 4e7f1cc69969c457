-- Steps in the order of their paths.
use Rattle.std.specs.Prelude.{List, [], ◌∷◌, Bool, if◌then◌else◌}
use Rattle.std.specs.Cmp.Lexicographic.{slice_cmp}
use Rattle.std.specs.Ordering.{nat_cmp, is_lt}
use Rattle.module_plan.specs.declared.step.Step.{Step}

-- the path of a step is below that of another, byte by byte
abbrev pub is_before_by_path : Step → Step → Bool
is_before_by_path a b = is_lt (slice_cmp nat_cmp a.path b.path)

-- a step behind all those whose paths are below its own
abbrev pub insert_step_by_path : Step → List Step → List Step
insert_step_by_path step [] = step ∷ []
insert_step_by_path step (next ∷ steps) = if is_before_by_path next step then next ∷ insert_step_by_path step steps else step ∷ next ∷ steps

-- in ascending order of the paths
unfoldable pub sort_steps_by_path : List Step → List Step
sort_steps_by_path [] = []
sort_steps_by_path (step ∷ steps) = insert_step_by_path step (sort_steps_by_path steps)
