-- The paths that are planned for those of entries.
use Rattle.std.specs.Prelude.{◌≡◌, ℕ, List, Bool, true}
use Rattle.clean_plan.specs.Above.{IsFirstPassingAncestorOrSelf}
use Rattle.clean_plan.specs.Paths.{is_text_in_list}

-- a path is planned for one of some paths, where directories go as a whole that pass a test
pub record IsOutermostTargetOfSomePath (test : List ℕ → Bool) (done : List (List ℕ)) (target : List ℕ) : Type 0 where
  pub path : List ℕ
  pub is_done : is_text_in_list path done ≡ true
  pub is_target : IsFirstPassingAncestorOrSelf test path target

-- one of some paths is planned for a path
pub record HasOutermostTargetAmong (test : List ℕ → Bool) (path : List ℕ) (targets : List (List ℕ)) : Type 0 where
  pub target : List ℕ
  pub is_there : is_text_in_list target targets ≡ true
  pub is_target : IsFirstPassingAncestorOrSelf test path target

-- these are the paths that are planned for some paths
pub record AreOutermostTargetsOfPaths (test : List ℕ → Bool) (done targets : List (List ℕ)) : Type 0 where
  pub from : (target : List ℕ) → is_text_in_list target targets ≡ true → IsOutermostTargetOfSomePath test done target
  pub each : (path : List ℕ) → is_text_in_list path done ≡ true → HasOutermostTargetAmong test path targets
