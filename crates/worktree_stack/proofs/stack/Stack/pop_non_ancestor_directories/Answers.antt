-- Directories are popped as long as one is not above the path.
use Rattle.std.proofs.Common.{◌≡◌, ◌+◌, ◌<◌, ◌∙◌, ◌++◌, ◌∷◌, [], ℕ, replicate, sym, ap, arith}
use Rattle.gitbase_core.specs.Path.{components}
use Rattle.worktree_fs.specs.PathStack.{number_of_directories_to_pop, pop_directory}
use Rattle.worktree_stack.specs.Lookups.{directories_kept_by_lookup}
use Rattle.worktree_stack.proofs.Lookup.Surplus.{staying-up, surplus-up, staying-all}
use Rattle.worktree_stack.proofs.CheckOut.Stepping.{replicate-more}
use Rattle.worktree_stack.proofs.Lookup.Popping.{pops-as, pops-then}
use Rattle.worktree_stack.proofs.stack.Stack.pop_non_ancestor_directories.Goals as goal

pub loop-preserved : goal.loop-preserved
loop-preserved c =
    let parts = components c.args.relative.now in
    let at = c.loop.self.at in
    let some : 0 < number_of_directories_to_pop at parts = omega (arith, c.loop.invariant.left, c.loop-test.true) in
    let up : number_of_directories_to_pop c.pop_directory.new.self.at parts + 1 ≡ number_of_directories_to_pop at parts = ap (λ d. number_of_directories_to_pop d parts + 1) c.pop_directory.ensures.at ∙ surplus-up at parts some in
    record {
      stays = ap (λ d. directories_kept_by_lookup d parts) c.pop_directory.ensures.at ∙ staying-up at parts some ∙ c.loop.invariant.stays;
      left = omega (arith, up, c.loop.invariant.left);
      undropped = λ none. let never : ◌≡◌ {A = ℕ} 0 1 = omega (arith, none, c.loop-test.true) in absurd (cc never);
      pops =
          pops-as (replicate c.loop.counter pop_directory ++ pop_directory ∷ []) (replicate (c.loop.counter + 1) pop_directory) c.args.self.now c.pop_directory.new.self (sym (replicate-more c.loop.counter pop_directory))
          (pops-then (replicate c.loop.counter pop_directory) (pop_directory ∷ []) c.args.self.now c.loop.self c.pop_directory.new.self c.loop.invariant.pops c.pop_directory.ensures.pops);
    }

pub returns-clause-at : goal.returns-clause-at
returns-clause-at c =
    staying-all c.loop.self.at (components c.args.relative.now) (omega (arith, c.loop.invariant.left, c.loop-test.false, c.loop.auto.counter-end)) ∙ c.loop.invariant.stays

pub returns-clause-pops : goal.returns-clause-pops
returns-clause-pops c =
    let all : number_of_directories_to_pop c.args.self.now.at (components c.args.relative.now) ≡ c.loop.counter = omega (arith, c.loop-test.false, c.loop.auto.counter-end, c.count_directories_to_pop-end.ensures) in
    pops-as (replicate c.loop.counter pop_directory) (replicate (number_of_directories_to_pop c.args.self.now.at (components c.args.relative.now)) pop_directory) c.args.self.now c.loop.self (ap (λ n. replicate n pop_directory) all) c.loop.invariant.pops

pub returns-clause-undropped : goal.returns-clause-undropped
returns-clause-undropped c none = c.loop.invariant.undropped (c.count_directories_to_pop-end.ensures ∙ none)
