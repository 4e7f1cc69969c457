-- A lookup of a checkout keeps a stack in step.
use Rattle.std.specs.Prelude.{◌≡◌, ℕ, false, List, [], ◌∷◌, ◌++◌, length, drop, Option, Some, None, Result, Err, OnOk}
use Rattle.std.specs.List.{list_any}
use Rattle.std.proofs.Common.{inl, inr, refl, sym, ap, ◌∙◌, subst}
use Rattle.std.proofs.lemmas.List.{append-nil, take-append-drop}
use Rattle.gitbase_core.specs.Objects.{ObjectsById}
use Rattle.gitbase_core.specs.Path.{components}
use Rattle.gitbase_core.specs.declared.find.Find.{Ghosts as FindOf}
use Rattle.worktree_fs.specs.Paths.{all_prefixes_shortest_first, is_dot_or_dot_dot, root_joined_with_relative, slash_joined_components}
use Rattle.worktree_fs.specs.PathStack.{shared_proper_ancestor_components, deepest_components_or_root}
use Rattle.worktree_fs.specs.Tree.{Names}
use Rattle.worktree_fs.proofs.Paths.Fronts.{kept-names}
use Rattle.worktree_fs.specs.declared.worktree.Worktree.{Ghosts as WorktreeOf}
use Rattle.worktree_stack.specs.declared.error.AtPathError.{AtPathError}
use Rattle.worktree_stack.specs.Checkout.{LeadsToDirectory}
use Rattle.worktree_stack.specs.ChecksOut.{ReadSameInDirectories, AreDirectoriesBelowRoot, IsInStepWithDirectoriesPresent, MayMakeDirectories}
use Rattle.worktree_stack.specs.GoesOn.{KeepsStackInStep, LookupKeepsHeldRules, HoldsForPresentTree, LeavesLastComponentDirectory, AreNextComponentsOfPath}
use Rattle.worktree_stack.specs.Lookups.{directories_kept_by_lookup}
use Rattle.worktree_stack.specs.Making.{CheckoutLookupOptions}
use Rattle.worktree_stack.specs.Reading.{TreeAndObjects, Tells}
use Rattle.worktree_stack.specs.Setup.{StackSetup}
use Rattle.worktree_stack.specs.Stacked.{StackModel, HoldsRulesOfTree, IsInStepWithTree, setup_of_stack, pushed_directories}
use Rattle.worktree_stack.proofs.CheckOut.Holding.{keeping-first}
use Rattle.worktree_stack.proofs.CheckOut.Plain.{there-front}
use Rattle.worktree_stack.proofs.CheckOut.Preparing.{some-same}

-- what stays pushed is there, where all that was pushed is
pub there-staying : (root : List ℕ) (t : Names) (at : Option (List (List ℕ))) (parts : List (List ℕ)) → AreDirectoriesBelowRoot root t (pushed_directories at) → AreDirectoriesBelowRoot root t (pushed_directories (directories_kept_by_lookup (Some (deepest_components_or_root at)) parts))
there-staying root t None [] are = (tt, tt)
there-staying root t None (n ∷ parts) are = (tt, tt)
there-staying root t (Some names) parts are =
    let n = length (shared_proper_ancestor_components names parts) in
    there-front root t (shared_proper_ancestor_components names parts) (drop n names)
    (subst (λ (l : List (List ℕ)). AreDirectoriesBelowRoot root t (all_prefixes_shortest_first l)) (sym (ap (λ (l : List (List ℕ)). l ++ drop n names) (sym (kept-names names parts)) ∙ take-append-drop n names)) are)

pub sources-same : (a b : TreeAndObjects) → b.tree ≡ a.tree → b.objects ≡ a.objects → a ≡ b
sources-same a b tree objects =
    ap (λ (t : Names). record { tree = t; objects = a.objects }) (sym tree) ∙ ap (λ (o : ObjectsById). record { tree = b.tree; objects = o }) (sym objects)

module _ {W F : Type 0} (w : WorktreeOf W) (f : FindOf F) (way : CheckoutLookupOptions) where
  -- nothing was changed
  pub within-same : {w0 w1 : W} {o0 o1 : F} (names left : List (List ℕ)) (old new : StackModel) (e : AtPathError) → w.told w1 ≡ w.told w0 → f.holds o1 ≡ f.holds o0 → setup_of_stack new ≡ setup_of_stack old → new.at ≡ old.at
      → ((s : TreeAndObjects) → Tells (w.told w0) (f.holds o0) s → IsInStepWithTree s old → IsInStepWithTree s new) → KeepsStackInStep w f w0 w1 o0 o1 way names left old new (Err e)
  within-same {w0} {w1} {o0} {o1} names left old new e tree holds made at step =
      record {
        in_step = λ alone normal s0 s1 tells0 tells1 may same within.
            let is : s0 ≡ s1 = equal s0 s1 tells0 tells1 in
            subst (λ (s : TreeAndObjects). IsInStepWithDirectoriesPresent s new) is (record { in_step = step s0 tells0 within.in_step; there = there s0.tree within.there });
        there = λ alone normal s0 s1 tells0 tells1 may within. subst (λ (s : TreeAndObjects). AreDirectoriesBelowRoot new.root s.tree (pushed_directories new.at)) (equal s0 s1 tells0 tells1) (there s0.tree within.there);
        last_there = λ normal s0 s1 tells0 tells1 keeps makes. inr tt;
      }
    where
      equal : (s0 s1 : TreeAndObjects) → Tells (w.told w0) (f.holds o0) s0 → Tells (w.told w1) (f.holds o1) s1 → s0 ≡ s1
      equal s0 s1 tells0 tells1 =
          sources-same s0 s1 (some-same (sym tells1.tree_is ∙ tree ∙ tells0.tree_is)) (some-objects (sym tells1.objects_are ∙ holds ∙ tells0.objects_are))
        where
          some-objects : {a b : ObjectsById} → Some a ≡ Some b → a ≡ b
          some-objects e = cc e

      there : (t : Names) → AreDirectoriesBelowRoot old.root t (pushed_directories old.at) → AreDirectoriesBelowRoot new.root t (pushed_directories new.at)
      there t are = subst (λ (at : Option (List (List ℕ))). AreDirectoriesBelowRoot new.root t (pushed_directories at)) (sym at) (subst (λ (root : List ℕ). AreDirectoriesBelowRoot root t (pushed_directories old.at)) (sym (ap (λ (m : StackSetup). m.root) made)) are)

  -- what is left of a path was gone
  pub within-gone : {w0 wm w1 : W} {o0 om o1 : F} (names left : List (List ℕ)) (relative : List ℕ) (old mid new : StackModel) (r : Result (Unit {0}) AtPathError) → components relative ≡ names
      → setup_of_stack mid ≡ setup_of_stack old → setup_of_stack new ≡ setup_of_stack mid → old.root ≡ way.root → w.told wm ≡ w.told w0 → f.holds om ≡ f.holds o0 → f.holds o1 ≡ f.holds om
      → deepest_components_or_root mid.at ++ left ≡ names → (left ≡ [] → deepest_components_or_root mid.at ≡ [])
      → ((s : TreeAndObjects) → Tells (w.told w0) (f.holds o0) s → IsInStepWithTree s old → IsInStepWithTree s mid)
      → ((t : Names) → AreDirectoriesBelowRoot old.root t (pushed_directories old.at) → AreDirectoriesBelowRoot old.root t (pushed_directories mid.at))
      → LookupKeepsHeldRules w f wm w1 om way left mid new r → LeavesLastComponentDirectory w w1 way (deepest_components_or_root mid.at) left r → KeepsStackInStep w f w0 w1 o0 o1 way names left old new r
  within-gone {w0} {wm} {w1} {o0} {om} {o1} names left relative old mid new r is made made1 root tree holds holds1 whole ends step stays keeps last =
      record {
        in_step = λ alone normal s0 s1 tells0 tells1 may same within.
            let k : HoldsForPresentTree (setup_of_stack mid) s0 s1.tree new.at new.attributes new.ignore = gone alone normal s0 s1 tells0 tells1 may within in
            record {
              in_step = subst (λ (m : StackSetup). HoldsRulesOfTree m s1 (pushed_directories new.at) new.attributes new.ignore) (sym made1)
                  (k.holds s1 (some-objects (sym tells1.objects_are ∙ holds1 ∙ holds ∙ tells0.objects_are)) refl (subst (λ (m : StackSetup). ReadSameInDirectories m s0.tree s1.tree (pushed_directories new.at)) (sym made) same));
              there = subst (λ (m : StackSetup). AreDirectoriesBelowRoot m.root s1.tree (pushed_directories new.at)) (sym made1) k.there;
            };
        there = λ alone normal s0 s1 tells0 tells1 may within.
            let k : HoldsForPresentTree (setup_of_stack mid) s0 s1.tree new.at new.attributes new.ignore = gone alone normal s0 s1 tells0 tells1 may within in
            subst (λ (m : StackSetup). AreDirectoriesBelowRoot m.root s1.tree (pushed_directories new.at)) (sym made1) k.there;
        last_there = λ normal s0 s1 tells0 tells1 kept makes.
            elim (last.last s1.tree tells1.tree_is makes relative (is ∙ sym whole) (ap (list_any is_dot_or_dot_dot) is ∙ normal) kept) [
              | inl none ↦ inl (sym whole ∙ ap (λ (l : List (List ℕ)). deepest_components_or_root mid.at ++ l) none ∙ append-nil (deepest_components_or_root mid.at) ∙ ends none)
              | inr leads ↦ inr (subst (λ n. OnOk r (LeadsToDirectory s1.tree (root_joined_with_relative way.root (slash_joined_components n)))) whole leads)
            ];
      }
    where
      some-objects : {a b : ObjectsById} → Some a ≡ Some b → a ≡ b
      some-objects e = cc e

      may-on : (setup_of_stack old).ignore ≡ None → list_any is_dot_or_dot_dot names ≡ false → AreNextComponentsOfPath way (setup_of_stack mid) mid.at left
      may-on alone normal =
          record {
            whole = relative;
            behind = [];
            parts = is ∙ sym whole ∙ ap (λ (l : List (List ℕ)). deepest_components_or_root mid.at ++ l) (sym (append-nil left));
            normal = ap (list_any is_dot_or_dot_dot) is ∙ normal;
            root = ap (λ (m : StackSetup). m.root) made ∙ root;
            alone = ap (λ (m : StackSetup). m.ignore) made ∙ alone;
          }

      gone : (setup_of_stack old).ignore ≡ None → list_any is_dot_or_dot_dot names ≡ false → (s0 s1 : TreeAndObjects) → Tells (w.told w0) (f.holds o0) s0 → Tells (w.told w1) (f.holds o1) s1 → MayMakeDirectories s0.tree way left r → IsInStepWithDirectoriesPresent s0 old
          → HoldsForPresentTree (setup_of_stack mid) s0 s1.tree new.at new.attributes new.ignore
      gone alone normal s0 s1 tells0 tells1 may within =
          keeps.gone s0 s0.tree s1.tree (tree ∙ tells0.tree_is) (holds ∙ tells0.objects_are) tells1.tree_is (may-on alone normal) may.keeps may.plain
          (keeping-first (setup_of_stack mid) s0 (ap (λ (m : StackSetup). m.ignore) made ∙ alone) mid.at mid.attributes mid.ignore (ap (λ (m : StackSetup). m.ignore) made ∙ alone) (step s0 tells0 within.in_step)
          (subst (λ (m : StackSetup). AreDirectoriesBelowRoot m.root s0.tree (pushed_directories mid.at)) (sym made) (stays s0.tree within.there)))
