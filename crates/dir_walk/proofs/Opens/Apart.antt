-- What is opened where subtrees are walked over forks, one call after another.
use Rattle.std.proofs.Common.{◌≡◌, ℕ, ◌+◌, ◌-◌, ◌≤◌, refl, arith}
use Rattle.worktree_fs.specs.declared.interrupt.Interrupt.{Ghosts as InterruptOf}
use Rattle.worktree_fs.specs.declared.worktree.Worktree.{Ghosts as WorktreeOf}
use Rattle.worktree_fs.specs.Causes.{saturating_sum}
use Rattle.dir_walk.specs.declared.outcome.Outcome.{Outcome}
use Rattle.dir_walk.specs.Opens.{EntersBoundedDirectoriesOverForks, CountsOpenedAndTooDeep, OpensDirectoriesMostlyOverForks}

module _ {W I : Type 0} {w : WorktreeOf W} {i : InterruptOf I} where
  -- nothing is opened
  pub apart-none : {w0 w1 : W} {i0 i1 : I} {a b : Outcome} {deep : ℕ} {Within : ℕ → Type 0} → Within 0 → w.lists w1 ≡ w.lists w0 → b.read_dir_calls ≡ a.read_dir_calls → saturating_sum (i.questions i0) (deep + (i.raised i1 - i.raised i0)) ≤ i.questions i1
      → OpensDirectoriesMostlyOverForks w i w0 w1 i0 i1 a b 0 deep Within
  apart-none none lists read asked = record { enters = record { opened = 0; counted = λ small. omega (arith, read, small); asked = omega (arith, asked); within = none }; listed = omega (arith, lists) }

  -- a job is done after a call that opened nothing, and what it opened is absorbed
  pub apart-job : {w0 w1 : W} {i0 i1 : I} {a b : Outcome} {deep : ℕ} {First Within : ℕ → Type 0} → ((n : ℕ) → First n → Within n) → EntersBoundedDirectoriesOverForks i i0 i1 a b deep First → w.lists w1 ≡ w.lists w0 → OpensDirectoriesMostlyOverForks w i w0 w1 i0 i1 a b 0 deep Within
  apart-job so enters lists =
      record { enters = record { opened = enters.opened; counted = enters.counted; asked = enters.asked; within = so enters.opened enters.within }; listed = omega (arith, lists) }

  pub apart-then : {w0 w1 w2 : W} {i0 i1 i2 : I} {a b c : Outcome} {own deep : ℕ} {First Then Within : ℕ → Type 0} → ((m n : ℕ) → First m → Then n → Within (m + n))
      → OpensDirectoriesMostlyOverForks w i w0 w1 i0 i1 a b own 0 First → OpensDirectoriesMostlyOverForks w i w1 w2 i1 i2 b c 0 deep Then → OpensDirectoriesMostlyOverForks w i w0 w2 i0 i2 a c own deep Within
  apart-then both one two =
      record {
        enters = record {
          opened = one.enters.opened + two.enters.opened;
          counted = λ small. let first = one.enters.counted small in omega (arith, first, two.enters.counted (omega (arith, first)));
          asked = omega (arith, one.enters.asked, two.enters.asked);
          within = both one.enters.opened two.enters.opened one.enters.within two.enters.within;
        };
        listed = omega (arith, one.listed, two.listed);
      }

  -- and then nothing more
  pub apart-end : {w0 w1 : W} {i0 i1 : I} {a b c : Outcome} {own deep : ℕ} {First Within : ℕ → Type 0} → ((n : ℕ) → First n → Within n) → OpensDirectoriesMostlyOverForks w i w0 w1 i0 i1 a b own 0 First → c.read_dir_calls ≡ b.read_dir_calls → deep ≡ 0
      → OpensDirectoriesMostlyOverForks w i w0 w1 i0 i1 a c own deep Within
  apart-end so one read none =
      record {
        enters = record { opened = one.enters.opened; counted = λ small. omega (arith, read, one.enters.counted small); asked = omega (arith, one.enters.asked, none); within = so one.enters.opened one.enters.within };
        listed = one.listed;
      }

  -- the traversal root itself is opened, or that is refused
  pub apart-tried : {w0 w1 : W} {i0 i1 : I} {a b : Outcome} {opened deep : ℕ} {Within : ℕ → Type 0} → Within opened → CountsOpenedAndTooDeep w i w0 w1 i0 i1 a b opened deep → w.lists w1 ≤ w.lists w0 + 1
      → OpensDirectoriesMostlyOverForks w i w0 w1 i0 i1 a b 1 deep Within
  apart-tried {opened = opened} within opens once = record { enters = record { opened = opened; counted = opens.counted; asked = opens.asked; within = within }; listed = once }

  pub apart-one : {w0 w1 : W} {i0 i1 : I} {a b : Outcome} → CountsOpenedAndTooDeep w i w0 w1 i0 i1 a b 1 0 → w.lists w1 ≤ w.lists w0 + 1 → OpensDirectoriesMostlyOverForks w i w0 w1 i0 i1 a b 1 0 (λ n. n ≡ 1)
  apart-one opens once = record { enters = record { opened = 1; counted = opens.counted; asked = opens.asked; within = refl }; listed = once }
