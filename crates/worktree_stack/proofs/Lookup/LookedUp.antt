-- What a lookup does, by its parts.
use Rattle.std.specs.Prelude.{◌≡◌, ℕ, Bool, true, false, List, [], Option, Err}
use Rattle.worktree_fs.specs.PathStack.{delegate_calls_of_lookup}
use Rattle.worktree_stack.specs.Steps.{CarriesOutCalls}
use Rattle.worktree_stack.proofs.Lookup.Carrying.{read-none}
use Rattle.std.proofs.Common.{refl, sym, ◌∙◌, subst, arith}
use Rattle.gitbase_core.specs.Objects.{ObjectsById}
use Rattle.gitbase_core.specs.declared.find.Find.{Ghosts as FindOf}
use Rattle.worktree_fs.specs.declared.worktree.Worktree.{Ghosts as WorktreeOf}
use Rattle.gitbase_core.specs.Path.{components}
use Rattle.worktree_fs.specs.Tree.{Names}
use Rattle.worktree_fs.specs.Paths.{is_relative_without_dots}
use Rattle.worktree_stack.specs.declared.error.AtPathError.TheVariants as errors
use Rattle.worktree_stack.specs.Counted.{with_lookup_counted, rules_counts_of_kind}
use Rattle.worktree_fs.specs.Kept.{KeepsTreeAndListCounts, KeepsStoredObjects}
use Rattle.worktree_stack.specs.LooksUp.{LooksUpPath}
use Rattle.worktree_stack.specs.Reading.{TreeAndObjects, Tells, RulesKind, of_attributes, of_ignore}
use Rattle.worktree_stack.specs.Stacked.{StackModel, setup_of_stack}
use Rattle.worktree_stack.specs.SeenNames.{attribute_names_read_by_calls}
use Rattle.worktree_stack.proofs.Lookup.Looking.{fewer-stay}
use Rattle.worktree_stack.proofs.Lookup.Seeing.{sees-none}

pub not_both : (b : Bool) → b ≡ false → b ≡ true → ⊥
not_both true e f = cc e
not_both false e f = cc f

pub carries-counted : (told : Option Names) (holds : Option ObjectsById) (old : StackModel) → CarriesOutCalls told holds [] old (with_lookup_counted old)
carries-counted told holds old =
    record { setup = refl; left = refl; counted = refl; read = read-none told holds (setup_of_stack old) old.statistics (with_lookup_counted old).statistics same }
  where
    same : (kind : RulesKind) → rules_counts_of_kind kind (with_lookup_counted old).statistics ≡ rules_counts_of_kind kind old.statistics
    same of_attributes = refl
    same of_ignore = refl

-- a path that is not normal is refused at once
pub not-normal : {W F T : Type 0} (w : WorktreeOf W) (f : FindOf F) (w0 : W) (o0 : F) (path : List ℕ) (kind : Option Bool) (old new : StackModel)
    → new ≡ with_lookup_counted old → is_relative_without_dots path ≡ false
    → LooksUpPath {W = W} {F = F} {T = T} w f w0 w0 o0 o0 path kind old new (Err errors.NotNormal)
not-normal {W} {F} {T} w f w0 o0 path kind old new counted not_normal =
    let there : LooksUpPath {W = W} {F = F} {T = T} w f w0 w0 o0 o0 path kind old (with_lookup_counted old) (Err errors.NotNormal) =
    record {
      made = refl;
      in_step = λ s tells in_step. in_step;
      levels = λ level. level;
      sees = sees-none (w.told w0) (f.holds o0) (λ s. attribute_names_read_by_calls (setup_of_stack old) s (delegate_calls_of_lookup old.at (components path))) old.attributes errors.NotNormal;
      looked_up = tt;
      is_dir = tt;
      answered = tt;
      unanswered = refl;
      on_way = λ normal. absurd (not_both (is_relative_without_dots path) not_normal normal);
      normal = λ e. (refl, refl, refl, refl);
      refused = λ normal. absurd (not_both (is_relative_without_dots path) not_normal normal);
      untouched = λ e. refl;
      store_untouched = λ e. refl;
      platforms = refl;
      carried = tt;
      stopped = λ normal. absurd (not_both (is_relative_without_dots path) not_normal normal);
      stays = fewer-stay old.at (components path);
      reads = λ alone. omega (arith, fewer-stay old.at (components path));
    } in
    subst (λ (s : StackModel). LooksUpPath {W = W} {F = F} {T = T} w f w0 w0 o0 o0 path kind old s (Err errors.NotNormal)) (sym counted) there

pub leaves-then : {W : Type 0} (w : WorktreeOf W) (a b c : W) → KeepsTreeAndListCounts w a b → KeepsTreeAndListCounts w b c → KeepsTreeAndListCounts w a c
leaves-then w a b c first second =
    record {
      tree = second.tree ∙ first.tree;
      faults = omega (arith, first.faults, second.faults);
      list_faults = second.list_faults ∙ first.list_faults;
      reads = omega (arith, first.reads, second.reads);
      lists = second.lists ∙ first.lists;
      precomposes = second.precomposes ∙ first.precomposes;
    }

pub store-then : {F : Type 0} (f : FindOf F) (a b c : F) → KeepsStoredObjects f a b → KeepsStoredObjects f b c → KeepsStoredObjects f a c
store-then f a b c first second = record { holds = second.holds ∙ first.holds; faults = omega (arith, first.faults, second.faults) }

-- what is told before a call was told before that
pub tells-before : (told told' : Option Names) (holds holds' : Option ObjectsById) (s : TreeAndObjects) → told' ≡ told → holds' ≡ holds → Tells told holds s → Tells told' holds' s
tells-before told told' holds holds' s a b tells = record { tree_is = a ∙ tells.tree_is; objects_are = b ∙ tells.objects_are }
