-- A whole walk: there is no traversal root or no room for its path, or the walk from there was done, broken off or refused.
use Rattle.std.proofs.Common.{◌≡◌, List, ℕ, ◌≤◌, ◌∙◌, ap, sym, refl, arith, Some, Ok, Err}
use Rattle.std.proofs.lemmas.Result.{err_from_is_err_and}
use Rattle.worktree_fs.specs.Causes.{CountNotIncreased}
use Rattle.worktree_fs.specs.Paths.{root_joined_with_relative}
use Rattle.worktree_fs.specs.Tree.{Names}
use Rattle.dir_classify.specs.declared.error.Error.TheVariants as errors
use Rattle.dir_classify.specs.Layers.{setting_of_shared}
use Rattle.dir_walk.specs.declared.handed.Stop.TheVariants.{Broken}
use Rattle.dir_walk.specs.declared.outcome.Outcome.{Outcome}
use Rattle.dir_walk.specs.Opens.{count_refused_walk}
use Rattle.dir_walk.specs.Root.{rooted, find_traversal_root}
use Rattle.dir_walk.specs.Rooting.{IsNormalizedRoot}
use Rattle.dir_walk.specs.Unopened.{count_too_deep_error, count_too_deep_in_walk, count_unlisted_error, count_unlisted_in_walk}
use Rattle.dir_walk.specs.WalkRefused.{default_and_refusal_counts_of_delegate}
use Rattle.dir_walk.specs.Walks.{IsNormalizedRootNamedByAnswer}
use Rattle.dir_walk.proofs.Gives.FeedsSo.{feeds-broken, feeds-done, feeds-nothing, feeds-refused}
use Rattle.dir_walk.proofs.Opens.Overall.{enters-walk, opens-whole, refused-most}
use Rattle.dir_walk.proofs.Roots.Unstarted.{no-start-weaker}
use Rattle.dir_walk.proofs.Walked.WalksSo.{walks-done, walks-outside, walks-refused}
use Rattle.dir_walk.proofs.function.walk_context_parts.Goals as goal

pub returns-in_err-root-clause-walks : goal.returns-in_err-root-clause-walks
returns-in_err-root-clause-walks g c =
    let a = c.args in
    let p = err_from_is_err_and c.from_residual.result c.from_residual.ensures.1 in
    let refused = c.in_err-root.ensures in
    let given = setting_of_shared g.M.Matcher a.shared.now in
    rw (p.1, p.2)
    (record {
      walks_worktree =
          walks-outside g.W.Worktree g.F.Find g.I.Interrupt a.strategy given a.explicit.now a.depth_limit (default_and_refusal_counts_of_delegate g.D.Delegate a.parts.now.delegate.now a.parts.now.delegate.now) (λ r. r.0) (λ r. r.1) refused.keeps refused.reads c.in_err-root.field-0.0
          refused.about refused.refused refused.fault;
      feeds = feeds-nothing g.W.Worktree g.F.Find g.D.Delegate given a.explicit.now a.depth_limit c.in_err-root.field-0.0;
    })

pub returns-in_err-full-clause-walks : goal.returns-in_err-full-clause-walks
returns-in_err-full-clause-walks g c =
    let a = c.args in
    let p = err_from_is_err_and c.from_residual-in_err-full.result c.from_residual-in_err-full.ensures.1 in
    let found = c.in_ok-root.ensures in
    let given = setting_of_shared g.M.Matcher a.shared.now in
    rw (p.1, p.2)
    (record {
      walks_worktree =
          walks-outside g.W.Worktree g.F.Find g.I.Interrupt a.strategy given a.explicit.now a.depth_limit (default_and_refusal_counts_of_delegate g.D.Delegate a.parts.now.delegate.now a.parts.now.delegate.now) (λ r. r.0) (λ r. r.1) found.keeps found.reads errors.OutOfMemory tt
          (λ t told. tt) (λ before now. tt);
      feeds = feeds-nothing g.W.Worktree g.F.Find g.D.Delegate given a.explicit.now a.depth_limit errors.OutOfMemory;
    })

pub returns-in-Ok-clause-walks : goal.returns-in-Ok-clause-walks
returns-in-Ok-clause-walks g c =
    let a = c.args in
    let w = g.W.Worktree in
    let f = g.F.Find in
    let i = g.I.Interrupt in
    let d = g.D.Delegate in
    let recursion = default_and_refusal_counts_of_delegate d a.parts.now.delegate.now c.walk_from_traversal_root.new.parts.delegate.now in
    let given = setting_of_shared g.M.Matcher a.shared.now in
    let root = c.as_bytes-2.result.now in
    let found = c.in_ok-root.ensures in
    let normal : IsNormalizedRoot given a.explicit.now root = rw c.as_bytes-2.ensures found.asked in
    let rooted_is : (t : Names) → w.told a.parts.now.worktree.now ≡ Some t → CountNotIncreased (w.faults a.parts.now.worktree.now) (w.faults c.find_traversal_root.new.worktree) → find_traversal_root given t a.explicit.now ≡ rooted root =
    λ t told quiet. found.root t told quiet ∙ ap rooted (sym c.as_bytes-2.ensures) in
    let from = c.in-Ok.ensures in
    let zeros = c.default-parts.ensures in
    let full_is : c.in_ok-full.full ≡ root_joined_with_relative given.root root = c.in_ok-full.ensures ∙ ap (root_joined_with_relative given.root) (c.as_bytes.ensures ∙ sym c.as_bytes-2.ensures) in
    let is_root : IsNormalizedRootNamedByAnswer given a.explicit.now (λ (r : Outcome × List ℕ). r.1) (Ok (c.walk_from_traversal_root.new.parts.outcome.now, c.in_ok-full.full)) root = record { normalized = normal; named = full_is } in
    let none : count_refused_walk c.walk_from_traversal_root.result ≤ 0 = rw c.in-Ok.is (omega arith) in
    let listed : count_unlisted_in_walk c.walk_from_traversal_root.result ≤ 0 = rw c.in-Ok.is (omega arith) in
    record {
      walks_worktree =
          walks-done w f i d a.strategy given a.explicit.now a.depth_limit recursion (λ r. r.0) (λ r. r.1) root found.keeps normal rooted_is (c.walk_from_traversal_root.new.parts.outcome.now, c.in_ok-full.full) full_is (rw c.as_bytes-2.ensures found.way) (Ok tt) from.leaves.ends from.leaves.ends.caused.listed from.leaves.ends.caused.calm c.walk_from_traversal_root.ensures.unmapped
          (opens-whole a.strategy found.keeps.lists found.reads
          (enters-walk {T = Outcome × List ℕ} w f d recursion given a.explicit.now a.depth_limit root (Ok (c.walk_from_traversal_root.new.parts.outcome.now, c.in_ok-full.full)) (count_unlisted_in_walk c.walk_from_traversal_root.result) found.keeps from.leaves.ends.worktree.faults refl rooted_is listed)
          c.walk_from_traversal_root.result (Ok (c.walk_from_traversal_root.new.parts.outcome.now, c.in_ok-full.full)) zeros.0 is_root refl none (omega arith) c.walk_from_traversal_root.ensures.opens);
      feeds =
          feeds-done w f d a.parts.now.worktree.now c.find_traversal_root.new.worktree c.walk_from_traversal_root.new.parts.worktree.now a.parts.now.objects.now a.parts.now.excludes.now a.parts.now.delegate.now c.walk_from_traversal_root.new.parts.delegate.now given a.explicit.now a.depth_limit root c.default-parts.result c.walk_from_traversal_root.new.parts.outcome.now
          found.keeps from.leaves.ends.worktree.faults normal rooted_is from.leaves.ends.delegate c.walk_from_traversal_root.ensures.leaves.puts c.walk_from_traversal_root.ensures.leaves.filtered zeros.0 zeros.1.0 zeros.1.1 c.in_ok-full.full full_is from.leaves.ends.heeds.kept_on
          (λ s told. g.met.W.Worktree.is_tree a.parts.now.worktree.now s.tree told) from.told.gives;
    }

pub returns-in-Err-Broken-clause-walks : goal.returns-in-Err-Broken-clause-walks
returns-in-Err-Broken-clause-walks g c =
    let a = c.args in
    let w = g.W.Worktree in
    let f = g.F.Find in
    let i = g.I.Interrupt in
    let d = g.D.Delegate in
    let recursion = default_and_refusal_counts_of_delegate d a.parts.now.delegate.now c.walk_from_traversal_root.new.parts.delegate.now in
    let given = setting_of_shared g.M.Matcher a.shared.now in
    let root = c.as_bytes-2.result.now in
    let found = c.in_ok-root.ensures in
    let normal : IsNormalizedRoot given a.explicit.now root = rw c.as_bytes-2.ensures found.asked in
    let rooted_is : (t : Names) → w.told a.parts.now.worktree.now ≡ Some t → CountNotIncreased (w.faults a.parts.now.worktree.now) (w.faults c.find_traversal_root.new.worktree) → find_traversal_root given t a.explicit.now ≡ rooted root =
    λ t told quiet. found.root t told quiet ∙ ap rooted (sym c.as_bytes-2.ensures) in
    let from = rw c.in-Err-Broken.field-0-is at c.in-Err-Broken.ensures in
    let zeros = c.default-parts.ensures in
    let full_is : c.in_ok-full.full ≡ root_joined_with_relative given.root root = c.in_ok-full.ensures ∙ ap (root_joined_with_relative given.root) (c.as_bytes.ensures ∙ sym c.as_bytes-2.ensures) in
    let is_root : IsNormalizedRootNamedByAnswer given a.explicit.now (λ (r : Outcome × List ℕ). r.1) (Ok (c.walk_from_traversal_root.new.parts.outcome.now, c.in_ok-full.full)) root = record { normalized = normal; named = full_is } in
    let none : count_refused_walk c.walk_from_traversal_root.result ≤ 0 = rw (c.in-Err-Broken.is, c.in-Err-Broken.field-0-is) (omega arith) in
    let listed : count_unlisted_in_walk c.walk_from_traversal_root.result ≤ 0 = rw (c.in-Err-Broken.is, c.in-Err-Broken.field-0-is) (omega arith) in
    record {
      walks_worktree =
          walks-done w f i d a.strategy given a.explicit.now a.depth_limit recursion (λ r. r.0) (λ r. r.1) root found.keeps normal rooted_is (c.walk_from_traversal_root.new.parts.outcome.now, c.in_ok-full.full) full_is (rw c.as_bytes-2.ensures found.way) (Err Broken) from.leaves.ends from.leaves.ends.caused.listed from.leaves.ends.caused.calm c.walk_from_traversal_root.ensures.unmapped
          (opens-whole a.strategy found.keeps.lists found.reads
          (enters-walk {T = Outcome × List ℕ} w f d recursion given a.explicit.now a.depth_limit root (Ok (c.walk_from_traversal_root.new.parts.outcome.now, c.in_ok-full.full)) (count_unlisted_in_walk c.walk_from_traversal_root.result) found.keeps from.leaves.ends.worktree.faults refl rooted_is listed)
          c.walk_from_traversal_root.result (Ok (c.walk_from_traversal_root.new.parts.outcome.now, c.in_ok-full.full)) zeros.0 is_root refl none (omega arith) c.walk_from_traversal_root.ensures.opens);
      feeds =
          feeds-broken w f d a.parts.now.worktree.now c.find_traversal_root.new.worktree c.walk_from_traversal_root.new.parts.worktree.now a.parts.now.objects.now a.parts.now.excludes.now a.parts.now.delegate.now c.walk_from_traversal_root.new.parts.delegate.now given a.explicit.now a.depth_limit root c.default-parts.result c.walk_from_traversal_root.new.parts.outcome.now
          found.keeps from.leaves.ends.worktree.faults normal rooted_is from.leaves.ends.delegate c.walk_from_traversal_root.ensures.leaves.puts c.walk_from_traversal_root.ensures.leaves.filtered zeros.0 zeros.1.0 zeros.1.1 c.in_ok-full.full full_is from.leaves.ends.heeds
          (λ s tells by quiet v is. from.told.part s tells quiet by v is);
    }

pub returns-clause-walks : goal.returns-clause-walks
returns-clause-walks g c =
    let a = c.args in
    let w = g.W.Worktree in
    let f = g.F.Find in
    let i = g.I.Interrupt in
    let d = g.D.Delegate in
    let recursion = default_and_refusal_counts_of_delegate d a.parts.now.delegate.now c.walk_from_traversal_root.new.parts.delegate.now in
    let given = setting_of_shared g.M.Matcher a.shared.now in
    let root = c.as_bytes-2.result.now in
    let found = c.in_ok-root.ensures in
    let normal : IsNormalizedRoot given a.explicit.now root = rw c.as_bytes-2.ensures found.asked in
    let rooted_is : (t : Names) → w.told a.parts.now.worktree.now ≡ Some t → CountNotIncreased (w.faults a.parts.now.worktree.now) (w.faults c.find_traversal_root.new.worktree) → find_traversal_root given t a.explicit.now ≡ rooted root =
    λ t told quiet. found.root t told quiet ∙ ap rooted (sym c.as_bytes-2.ensures) in
    let from = rw c.in-Err-Refused.field-0-is at c.in-Err-Refused.ensures in
    let e = c.in-Err-Refused.error in
    let unlisted : count_unlisted_in_walk c.walk_from_traversal_root.result ≤ count_unlisted_error e = rw (c.in-Err-Refused.is, c.in-Err-Refused.field-0-is) (omega arith) in
    let low : count_too_deep_error e ≤ count_too_deep_in_walk c.walk_from_traversal_root.result = rw (c.in-Err-Refused.is, c.in-Err-Refused.field-0-is) (omega arith) in
    record {
      walks_worktree =
          walks-refused w f i d a.strategy given a.explicit.now a.depth_limit recursion (λ r. r.0) (λ r. r.1) root found.keeps normal rooted_is e from.leaves.ends from.caused.about from.caused.found
          (λ s tells by quiet. from.told.refused s tells quiet by) from.no_root (no-start-weaker (λ same. (same.0, same.1)) e from.unstarted) c.walk_from_traversal_root.ensures.unmapped
          (opens-whole a.strategy found.keeps.lists found.reads
          (enters-walk {T = Outcome × List ℕ} w f d recursion given a.explicit.now a.depth_limit root (Err e) (count_unlisted_in_walk c.walk_from_traversal_root.result) found.keeps from.leaves.ends.worktree.faults refl rooted_is unlisted)
          c.walk_from_traversal_root.result (Err e) c.default-parts.ensures.0 (record { normalized = normal; named = tt }) tt (refused-most c.walk_from_traversal_root.result) low c.walk_from_traversal_root.ensures.opens);
      feeds =
          feeds-refused w f d a.parts.now.worktree.now c.find_traversal_root.new.worktree c.walk_from_traversal_root.new.parts.worktree.now a.parts.now.objects.now a.parts.now.excludes.now a.parts.now.delegate.now c.walk_from_traversal_root.new.parts.delegate.now given a.explicit.now a.depth_limit root c.default-parts.result c.walk_from_traversal_root.new.parts.outcome.now
          found.keeps from.leaves.ends.worktree.faults normal rooted_is from.leaves.ends.delegate c.walk_from_traversal_root.ensures.leaves.puts c.walk_from_traversal_root.ensures.leaves.filtered e from.leaves.ends.heeds
          (λ s tells by quiet v is. from.told.part s tells quiet by v is) (no-start-weaker (λ same. same.2) e from.unstarted);
    }
