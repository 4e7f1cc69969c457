-- Directories are opened in a directory name by name, no more than it enters within the limit.
use Rattle.std.proofs.Common.{◌≡◌, ℕ, ◌+◌, ◌≤◌, ◌<◌, List, true, false, Option, Some, take, get_or, length, ◌∙◌, arith}
use Rattle.gitbase_core.specs.Path.{ends_in_slash, path_joined_with_slash}
use Rattle.gitbase_core.specs.declared.find.Find.{Ghosts as FindOf}
use Rattle.worktree_fs.specs.declared.worktree.Worktree.{Ghosts as WorktreeOf}
use Rattle.worktree_fs.specs.Causes.{CountNotIncreased}
use Rattle.worktree_fs.specs.Kept.{KeepsStoredObjects}
use Rattle.worktree_stack.specs.Reading.{TreeAndObjects}
use Rattle.worktree_stack.specs.Setup.{StackSetup}
use Rattle.worktree_stack.specs.Stacked.{StackModel}
use Rattle.dir_classify.specs.declared.classify.Outcome.{Outcome as Class}
use Rattle.dir_classify.specs.Kept.{KeepsRulesInStep}
use Rattle.dir_classify.specs.Layers.{WalkSetting}
use Rattle.dir_walk.specs.declared.delegate.Delegate.{Ghosts as DelegateOf}
use Rattle.dir_walk.specs.Kept.{KeepsDelegateRunning, KeepsWorktree}
use Rattle.dir_walk.specs.Opens.{OpensAtMostWalkedEntered}
use Rattle.dir_walk.specs.Report.{count_components}
use Rattle.dir_walk.specs.Told.{IsWalkOverSources, walk_result_of_directory_over_sources, walk_result_of_name_over_sources}
use Rattle.dir_walk.proofs.Folding.Listed.{HasNames, entered-close, entered-name}
use Rattle.dir_walk.proofs.Folding.Named.{entered_by, entered_more}
use Rattle.dir_walk.proofs.Folding.Steps.{Stands-later}

-- so many were opened at most under the names so far
abbrev pub EntersSoFar : {W F D : Type 0} → WorktreeOf W → FindOf F → DelegateOf D → W → W → F → Option StackModel → D → WalkSetting → Option (List ℕ) → ℕ → List ℕ → List (List ℕ) → ℕ → Type 0
EntersSoFar w f d w0 w1 o0 rules d0 given blocked limit path taken opened =
    (made : Option StackSetup) (s : TreeAndObjects) → IsWalkOverSources given (w.told w0) (f.holds o0) rules blocked made s → CountNotIncreased (w.faults w0) (w.faults w1) → d.is_default d0 ≡ true → opened ≤ entered_by given made s limit path taken

module _ {W F D : Type 0} {w : WorktreeOf W} {f : FindOf F} {dl : DelegateOf D} {w0 w1 w2 : W} {o0 o1 : F} {old mid : Option StackModel} {d0 d1 : D} (given : WalkSetting) (blocked : Option (List ℕ)) (limit : ℕ) (path : List ℕ) (names : List (List ℕ)) (i : ℕ) (q : List ℕ)
    (inside : i < length names) (is : q ≡ get_or names i q) (tree : KeepsWorktree w w0 w1) (store : KeepsStoredObjects f o0 o1) (rules : KeepsRulesInStep w f w0 o0 old mid) (delegate : KeepsDelegateRunning dl d0 d1) (more : w.faults w1 ≤ w.faults w2) where
  -- one name is walked after these
  pub enters-more : (m n : ℕ) → EntersSoFar w f dl w0 w1 o0 old d0 given blocked limit path (take i names) m → OpensAtMostWalkedEntered w f dl w1 w2 o1 mid d1 given blocked limit (λ made s. walk_result_of_name_over_sources given made s (path_joined_with_slash path q)) 0 n
      → EntersSoFar w f dl w0 w2 o0 old d0 given blocked limit path (take (i + 1) names) (m + n)
  enters-more m n so_far here = λ made s stands quiet default.
      let first : CountNotIncreased (w.faults w0) (w.faults w1) = omega (arith, quiet, more) in
      let second : CountNotIncreased (w.faults w1) (w.faults w2) = let k = tree.faults in omega (arith, quiet, k) in
      let one = so_far made s stands first default in
      let two = here made s (Stands-later given mid tree.tree store.holds rules.made rules.in_step stands) second (delegate.default ∙ default) in
      entered_more given made s limit path names i m n q inside is one (omega (arith, two))

  -- or the walk ends at it
  pub enters-last : count_components path ≤ limit → (class : Class) (spare : ℕ) → ((s : TreeAndObjects) → w.told w0 ≡ Some s.tree → HasNames given s.tree path names) → ends_in_slash path ≡ false
      → (m n : ℕ) → EntersSoFar w f dl w0 w1 o0 old d0 given blocked limit path (take i names) m → OpensAtMostWalkedEntered w f dl w1 w2 o1 mid d1 given blocked limit (λ made s. walk_result_of_name_over_sources given made s (path_joined_with_slash path q)) spare n
      → OpensAtMostWalkedEntered w f dl w0 w2 o0 old d0 given blocked limit (λ made s. walk_result_of_directory_over_sources given made s path class) spare (m + n)
  enters-last low class spare has_names plain m n so_far here = λ made s stands quiet default.
      let first : CountNotIncreased (w.faults w0) (w.faults w1) = omega (arith, quiet, more) in
      let second : CountNotIncreased (w.faults w1) (w.faults w2) = let k = tree.faults in omega (arith, quiet, k) in
      let has = has_names s stands.tree in
      let one = so_far made s stands first default in
      let two = here made s (Stands-later given mid tree.tree store.holds rules.made rules.in_step stands) second (delegate.default ∙ default) in
      entered-name given made s path class names has.lists has.are plain has.some limit i m n spare q low inside is one two

-- all names were walked
pub enters-all : {W F D : Type 0} (w : WorktreeOf W) (f : FindOf F) (dl : DelegateOf D) (w0 w1 : W) (o0 : F) (old : Option StackModel) (d0 : D) (given : WalkSetting) (blocked : Option (List ℕ)) (limit : ℕ) (path : List ℕ) (names : List (List ℕ)) (i : ℕ)
    → count_components path ≤ limit → length names ≤ i → (class : Class) (spare : ℕ) → ((s : TreeAndObjects) → w.told w0 ≡ Some s.tree → HasNames given s.tree path names) → ends_in_slash path ≡ false
    → (n : ℕ) → EntersSoFar w f dl w0 w1 o0 old d0 given blocked limit path (take i names) n → OpensAtMostWalkedEntered w f dl w0 w1 o0 old d0 given blocked limit (λ made s. walk_result_of_directory_over_sources given made s path class) spare n
enters-all w f dl w0 w1 o0 old d0 given blocked limit path names i low past class spare has_names plain n so_far = λ made s stands quiet default.
    let has = has_names s stands.tree in entered-close given made s path class names has.lists has.are plain has.some limit i n spare low past (so_far made s stands quiet default)
