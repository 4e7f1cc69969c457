-- What a plan is made from, by a setup and the report that it asks for.
use Rattle.std.specs.Prelude.{ℕ, List, Option, drop, length}
use Rattle.gitbase_core.specs.Path.{path_with_trailing_slash}
use Rattle.worktree_report.specs.declared.setup.Setup.{Setup}
use Rattle.clean_plan.specs.declared.what.Wanted.{Wanted}
use Rattle.clean_plan.specs.Asked.{CleanPlanInputs}

-- A traversal root as it reads from the root of the work tree: what its whole path has behind that and a slash.
abbrev pub traversal_root_relative_to_work_tree : List ℕ → List ℕ → List ℕ
traversal_root_relative_to_work_tree root whole = drop (length (path_with_trailing_slash root)) whole

-- what is asked for, by a setup, a traversal root, and where the current directory is in the work tree
abbrev pub plan_inputs_of_setup : Wanted → Setup → List ℕ → Option (List ℕ) → CleanPlanInputs
plan_inputs_of_setup wanted setup start current =
    record {
      what = wanted.what;
      others = wanted.others;
      taken_out = wanted.taken_out;
      fold = setup.options.ignore_case;
      index = setup.index;
      specs = setup.specs;
      start = start;
      current = current;
    }
