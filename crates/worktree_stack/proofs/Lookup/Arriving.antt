-- A lookup arrives where what is left of its path does.
use Rattle.std.specs.Prelude.{◌≡◌, ◌++◌, ℕ, List, length, Option, Result, OnOk, OnErr}
use Rattle.std.proofs.Common.{ap, subst, arith}
use Rattle.worktree_fs.specs.PathStack.{IsNothingOrProperAncestor, deepest_components_or_root}
use Rattle.worktree_stack.specs.declared.error.AtPathError.{AtPathError}
use Rattle.worktree_stack.specs.Lookups.{StandsAtPath, directories_kept_by_lookup}
use Rattle.worktree_stack.specs.StackSteps.{ArrivesAtPathOrOnWay, ArrivesKeepingDeepest}
use Rattle.worktree_stack.specs.Stacked.{StackModel}
use Rattle.worktree_stack.proofs.Lookup.Looking.{IsStaying, length-pushed, root-length, stay_names, whole}

module _ (at at1 at2 : Option (List (List ℕ))) (parts left : List (List ℕ)) (s : IsStaying at at1 at2 parts left) where
  pub arrives-whole : (new : StackModel) (r : Result (Unit {0}) AtPathError) {old : StackModel} → old.at ≡ at2 → ArrivesKeepingDeepest (deepest_components_or_root at2 ++ left) old new r → ArrivesAtPathOrOnWay parts (directories_kept_by_lookup at parts) new r
  arrives-whole new r {old} is below =
      record {
        looked_up = subst (λ names. OnOk r (StandsAtPath new names)) (whole at at1 at2 parts left s) below.looked_up;
        on_way = subst (λ names. OnErr r (IsNothingOrProperAncestor new.at names)) (whole at at1 at2 parts left s) below.on_way;
        stays = omega (
          arith,
          below.stays,
          ap (λ (d : Option (List (List ℕ))). length (deepest_components_or_root d)) is,
          root-length at parts,
          length-pushed new.at below.some,
          ap length (stay_names at at1 at2 parts left s),
        );
      }
