-- What a plan is made from.
use Rattle.std.specs.Prelude.{ℕ, List, Bool, Option, is_some}
use Rattle.gitbase_core.specs.declared.entry.IndexEntry.{IndexEntry}
use Rattle.glob_rules.specs.PathSpec.{PathSpec}
use Rattle.clean_plan.specs.declared.inputs.Cleaning.{Cleaning}
use Rattle.clean_plan.specs.declared.what.OtherNodes.{OtherNodes}
use Rattle.clean_plan.specs.declared.what.TakenOut.{TakenOut}
use Rattle.clean_plan.specs.declared.what.What.{What}

-- what is asked of a plan
pub record CleanPlanInputs : Type 0 where
  -- which paths may go
  pub what : What
  -- what becomes of nodes that are no files, links or directories
  pub others : OtherNodes
  -- and of what lies in directories that the path specs take out
  pub taken_out : TakenOut
  -- letters fold in paths of the index
  pub fold : Bool
  pub index : List IndexEntry
  -- the path specs
  pub specs : List PathSpec
  -- the traversal root, relative to that of the work tree
  pub start : List ℕ
  -- the current directory as it reads from the work tree's root, where it lies in the work tree
  pub current : Option (List ℕ)

-- what is asked for, by what it is made from
abbrev pub plan_inputs_of_cleaning : Cleaning → CleanPlanInputs
plan_inputs_of_cleaning cleaning =
    record {
      what = cleaning.what;
      others = cleaning.others;
      taken_out = cleaning.taken_out;
      fold = is_some cleaning.lookup.now;
      index = cleaning.index.now;
      specs = cleaning.specs.now;
      start = cleaning.start.now;
      current = cleaning.current.now;
    }
