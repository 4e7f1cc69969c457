-- What stays, and what was asked, when steps follow one another.
use Rattle.std.proofs.Common.{◌≡◌, ◌≤◌, ◌+◌, ◌∙◌, ap, ℕ, List, [], ◌∷◌, false, Option, Some, Ok, Err, refl, inl, inr, arith}
use Rattle.std.specs.Prelude.{not, Result}
use Rattle.gitbase_core.specs.Objects.{ObjectsById}
use Rattle.worktree_fs.specs.Causes.{CountIncreasedOrSaturated, CountNotIncreased}
use Rattle.worktree_fs.specs.Kept.{KeepsTreeAndListCounts}
use Rattle.worktree_fs.specs.Paths.{is_nil}
use Rattle.worktree_fs.specs.Tree.{Names}
use Rattle.worktree_fs.specs.declared.worktree.Worktree.{Ghosts as WorktreeOf}
use Rattle.worktree_stack.specs.Reading.{TreeAndObjects}
use Rattle.worktree_stack.specs.Setup.{StackSetup, RulesFileMapping}
use Rattle.worktree_stack.specs.Stacked.{StackModel}
use Rattle.dir_classify.specs.Excludes.{setup_of_optional_stack, maps_rules_files_to_blobs, TellsTreeAndObjects}
use Rattle.dir_classify.specs.Kept.{AsksWorktreeForRules, AsksRulesAtMostOnce, LeavesRulesUnasked}

pub asks-same : {W : Type 0} (w : WorktreeOf W) (w0 : W) → KeepsTreeAndListCounts w w0 w0
asks-same w w0 = record { tree = refl; faults = omega arith; list_faults = refl; reads = omega arith; lists = refl; precomposes = refl }

pub asks-then : {W : Type 0} (w : WorktreeOf W) (w0 w1 w2 : W) → AsksWorktreeForRules w w0 w1 → AsksWorktreeForRules w w1 w2 → AsksWorktreeForRules w w0 w2
asks-then w w0 w1 w2 a b =
    record {
      tree = b.tree ∙ a.tree;
      faults = omega (arith, a.faults, b.faults);
      list_faults = b.list_faults ∙ a.list_faults;
      reads = omega (arith, a.reads, b.reads);
      lists = b.lists ∙ a.lists;
      precomposes = b.precomposes ∙ a.precomposes;
    }

-- without a fault in all there was none in a part
pub quiet-first : (n0 n1 n2 : ℕ) → n0 ≤ n1 → n1 ≤ n2 → CountNotIncreased n0 n2 → CountNotIncreased n0 n1
quiet-first n0 n1 n2 a b quiet = omega (arith, a, b, quiet)

pub quiet-second : (n0 n1 n2 : ℕ) → n0 ≤ n1 → n1 ≤ n2 → CountNotIncreased n0 n2 → CountNotIncreased n1 n2
quiet-second n0 n1 n2 a b quiet = omega (arith, a, b, quiet)

-- the same tree is told
pub tells-then : (told0 told1 : Option Names) (holds : Option ObjectsById) (made : Option StackSetup) (s : TreeAndObjects) → told1 ≡ told0 → TellsTreeAndObjects told0 holds made s → TellsTreeAndObjects told1 holds made s
tells-then told0 told1 holds made s same tells = record { tree_is = same ∙ tells.tree_is; objects_are = tells.objects_are }

-- a fault that was counted in a part was counted in all
pub increased-later : (n0 n1 n2 : ℕ) → n0 ≤ n1 → CountIncreasedOrSaturated n1 n2 → CountIncreasedOrSaturated n0 n2
increased-later n0 n1 n2 a more = omega (arith, a, more)

-- no rules file is mapped to a blob, then the store is not asked
pub nothing-mapped : (made : StackSetup) → maps_rules_files_to_blobs (Some made) ≡ false → made.mappings ≡ []
nothing-mapped made none = go made.mappings none
  where
    go : (mappings : List RulesFileMapping) → not (is_nil mappings) ≡ false → mappings ≡ []
    go [] e = refl
    go (m ∷ rest) e = absurd (cc e)

pub unmapped-then : {F : Type 0} {o0 o1 o2 : F} (old now : Option StackModel) → setup_of_optional_stack now ≡ setup_of_optional_stack old
    → (maps_rules_files_to_blobs (setup_of_optional_stack old) ≡ false → o1 ≡ o0) → (maps_rules_files_to_blobs (setup_of_optional_stack now) ≡ false → o2 ≡ o1) → maps_rules_files_to_blobs (setup_of_optional_stack old) ≡ false → o2 ≡ o0
unmapped-then old now same a b none = b (ap (λ (m : Option StackSetup). maps_rules_files_to_blobs m) same ∙ none) ∙ a none

-- ---- about which path the rules were asked

pub unasked-later : {F : Type 0} (most : ℕ) (r0 r1 r2 : ℕ) (o0 o1 : F) (old new : Option StackModel) → r1 ≡ r0 → LeavesRulesUnasked most r1 r2 o0 o1 old new → LeavesRulesUnasked most r0 r2 o0 o1 old new
unasked-later most r0 r1 r2 o0 o1 old new same asked = record { same = asked.same; store = asked.store; reads = omega (arith, same, asked.reads) }

-- they were, and then the worktree was read to find repositories
pub at-most : {F T U E : Type 0} (most : ℕ) (path : List ℕ) (r0 r1 r2 : ℕ) (o0 o1 : F) (old new : Option StackModel) (t : T) (u : U) → r2 ≤ r1 + most
    → AsksRulesAtMostOnce {T = T} {E = E} 0 path r0 r1 o0 o1 old new (Ok t) → AsksRulesAtMostOnce {T = U} {E = E} most path r0 r2 o0 o1 old new (Ok u)
at-most most path r0 r1 r2 o0 o1 old new t u more (inl asked) = inl (record { same = asked.same; store = asked.store; reads = omega (arith, more, asked.reads) })
at-most most path r0 r1 r2 o0 o1 old new t u more (inr asked) =
    inr (record { given = asked.given; once = asked.once; looked_up = asked.looked_up; on_way = asked.on_way; leaves = asked.leaves; reads = λ alone. omega (arith, more, asked.reads alone) })

-- they were, and a later step was refused
pub at-most-stopped : {F T U E : Type 0} (most : ℕ) (path : List ℕ) (r0 r1 r2 : ℕ) (o0 o1 : F) (old new : Option StackModel) (t : T) (e : E) → r2 ≤ r1 + most
    → AsksRulesAtMostOnce {T = T} {E = E} 0 path r0 r1 o0 o1 old new (Ok t) → AsksRulesAtMostOnce {T = U} {E = E} most path r0 r2 o0 o1 old new (Err e)
at-most-stopped most path r0 r1 r2 o0 o1 old new t e more (inl asked) = inl (record { same = asked.same; store = asked.store; reads = omega (arith, more, asked.reads) })
at-most-stopped most path r0 r1 r2 o0 o1 old new t e more (inr asked) =
    inr (record { given = asked.given; once = asked.once; looked_up = tt; on_way = asked.on_way; leaves = asked.leaves; reads = λ alone. omega (arith, more, asked.reads alone) })

-- they were asked and refused
pub at-most-refused : {F T U E : Type 0} (most : ℕ) (path : List ℕ) (r0 r1 : ℕ) (o0 o1 : F) (old new : Option StackModel) (e : E)
    → AsksRulesAtMostOnce {T = T} {E = E} 0 path r0 r1 o0 o1 old new (Err e) → AsksRulesAtMostOnce {T = U} {E = E} most path r0 r1 o0 o1 old new (Err e)
at-most-refused most path r0 r1 o0 o1 old new e (inl asked) = inl (record { same = asked.same; store = asked.store; reads = omega (arith, asked.reads) })
at-most-refused most path r0 r1 o0 o1 old new e (inr asked) = inr (record { given = asked.given; once = asked.once; looked_up = tt; on_way = asked.on_way; leaves = asked.leaves; reads = λ alone. omega (arith, asked.reads alone) })

-- before they were asked, the worktree was not read
pub at-most-later : {F T E : Type 0} (most : ℕ) (path : List ℕ) (r0 r1 r2 : ℕ) (o0 o1 : F) (old new : Option StackModel) (result : Result T E) → r1 ≡ r0
    → AsksRulesAtMostOnce most path r1 r2 o0 o1 old new result → AsksRulesAtMostOnce most path r0 r2 o0 o1 old new result
at-most-later most path r0 r1 r2 o0 o1 old new result same (inl asked) = inl (unasked-later most r0 r1 r2 o0 o1 old new same asked)
at-most-later most path r0 r1 r2 o0 o1 old new result same (inr asked) =
    inr (record { given = asked.given; once = asked.once; looked_up = asked.looked_up; on_way = asked.on_way; leaves = asked.leaves; reads = λ alone. omega (arith, same, asked.reads alone) })

-- the worktree was not read
pub read-not : {r0 r1 : ℕ} (most : ℕ) → r1 ≡ r0 → r1 ≤ r0 + most
read-not most same = omega (arith, same)

-- or not before it was read to find repositories
pub read-then : {r0 r1 r2 : ℕ} (most : ℕ) → r2 ≤ r1 + most → r1 ≡ r0 → r2 ≤ r0 + most
read-then most more same = omega (arith, more, same)
