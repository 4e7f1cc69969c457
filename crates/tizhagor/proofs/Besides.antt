-- One step behind another, over a worktree and what is asked for stats, and over owners before them.
use Rattle.std.proofs.Common.{◌≡◌, inl, inr, ℕ, List, Result, Ok, Err, IfErr, refl, sym, ap, ◌∙◌, subst, arith}
use Rattle.gitbase_core.specs.declared.entry.IndexEntry.{IndexEntry}
use Rattle.command_line.specs.declared.compare_options.Comparing.{Comparing}
use Rattle.diff_files.specs.Differences.{FindsDifferences, diff_files_text, differences_of_text}
use Rattle.diff_files.specs.KeptStats.{KeepsToldStats}
use Rattle.diff_files.specs.Stats.{StatsByPath}
use Rattle.diff_files.specs.declared.answer.Differences.{Differences}
use Rattle.diff_files.specs.declared.comparison.Comparison.{Comparison}
use Rattle.diff_files.specs.declared.error.DiffError.{DiffError}
use Rattle.diff_files.specs.declared.error.DiffError.TheVariants as differences
use Rattle.diff_files.specs.declared.stats.Stats.{Ghosts as StatsOf}
use Rattle.git_index.specs.declared.stat.Detail.{Detail}
use Rattle.git_places.specs.Answers.{IsFoundOrFailed, HoldsUnlessFault}
use Rattle.git_places.proofs.Passes.{passes}
use Rattle.glob_rules.specs.PathSpec.{PathSpec}
use Rattle.worktree_fs.specs.declared.owners.Owners.{Ghosts as OwnersOf}
use Rattle.worktree_fs.specs.declared.worktree.Worktree.{Ghosts as WorktreeOf}
use Rattle.worktree_fs.specs.Causes.{CountIncreasedOrSaturated}
use Rattle.worktree_fs.specs.Kept.{KeepsTreeAndListCounts}
use Rattle.worktree_fs.specs.Owners.{OwnershipByPath}
use Rattle.worktree_fs.specs.Tree.{Names}
use Rattle.tizhagor.specs.declared.refusal.CommandRefusal.{CommandRefusal}
use Rattle.tizhagor.specs.declared.reply.Reply.{Reply}
use Rattle.tizhagor.specs.declared.written.Writing.{Writing}
use Rattle.tizhagor.specs.Compares.{FindsOverTreeAndStats, FindsOverTreeOwnersAndStats}
use Rattle.tizhagor.specs.Comparing.{reply_of_differences, reply_of_differences_or_unsupported, reply_of_state_lines_or_unsupported, reply_of_state_lines}
use Rattle.tizhagor.specs.Finds.{FindsHereResultOverTreeAndOwners}
use Rattle.tizhagor.specs.Refusals.{fault, memory, here_refusal_of_diff_error, MayComeBeforeSetupIsFound}
use Rattle.tizhagor.specs.StateLines.{MakesStateLinesByStat, state_lines_over_tree_and_stats}

-- ---- answers

err_is : {A : Type 0} (a b : CommandRefusal) → ◌≡◌ {A = Result A CommandRefusal} (Err a) (Err b) → a ≡ b
err_is a b e = cc

no_err : {A : Type 0} (a : A) (e : CommandRefusal) → ◌≡◌ {A = Result A CommandRefusal} (Ok a) (Err e) → ⊥
no_err a e is = absurd cc

same_err : {A B : Type 0} (a b : CommandRefusal) → ◌≡◌ {A = Result A CommandRefusal} (Err a) (Err b) → ◌≡◌ {A = Result B CommandRefusal} (Err a) (Err b)
same_err a b e = ap Err (err_is a b e)

unless_any : {A P : Type 0} (answer : Result A CommandRefusal) → P → HoldsUnlessFault fault answer P
unless_any (Ok given) holds = holds
unless_any (Err e) holds = inr holds

unless_weaker : {A P Q : Type 0} (answer : Result A CommandRefusal) → (P → Q) → HoldsUnlessFault fault answer P → HoldsUnlessFault fault answer Q
unless_weaker (Ok given) to holds = to holds
unless_weaker (Err e) to holds = elim holds [ inl is ↦ inl is | inr known ↦ inr (to known) ]

-- ---- what stays

asks_then : {W : Type 0} (w : WorktreeOf W) (w0 w1 w2 : W) → KeepsTreeAndListCounts w w0 w1 → KeepsTreeAndListCounts w w1 w2 → KeepsTreeAndListCounts w w0 w2
asks_then w w0 w1 w2 first next =
    let faults0 = first.faults in
    let faults1 = next.faults in
    let reads0 = first.reads in
    let reads1 = next.reads in
    record {
      tree = next.tree ∙ first.tree;
      faults = omega (arith, faults0, faults1);
      list_faults = next.list_faults ∙ first.list_faults;
      reads = omega (arith, reads0, reads1);
      lists = next.lists ∙ first.lists;
      precomposes = next.precomposes ∙ first.precomposes;
    }

stats_then : {D : Type 0} (d : StatsOf D) (d0 d1 d2 : D) → KeepsToldStats d d0 d1 → KeepsToldStats d d1 d2 → KeepsToldStats d d0 d2
stats_then d d0 d1 d2 first next =
    let faults0 = first.faults in
    let faults1 = next.faults in
    record { told = next.told ∙ first.told; faults = omega (arith, faults0, faults1) }

-- ---- over a worktree and stats

module _ {W D : Type 0} (w : WorktreeOf W) (d : StatsOf D) where
  -- where the first gives something, the whole is what the next finds
  pub goes_on : {A B : Type 0} (w0 w1 w2 : W) (d0 d1 d2 : D) (given : A) (found : Names → StatsByPath → Result A CommandRefusal) (next whole : Names → StatsByPath → Result B CommandRefusal) (answer : Result B CommandRefusal)
      → ((t : Names) (told : StatsByPath) → found t told ≡ Ok given → whole t told ≡ next t told)
      → FindsOverTreeAndStats {A = A} w d w0 w1 d0 d1 found (Ok given) → FindsOverTreeAndStats {A = B} w d w1 w2 d1 d2 next answer → FindsOverTreeAndStats {A = B} w d w0 w2 d0 d2 whole answer
  goes_on {B = B} w0 w1 w2 d0 d1 d2 given found next whole answer same first then =
      record {
        gives = λ t told tree tells.
            subst (λ (r : Result B CommandRefusal). IsFoundOrFailed fault memory answer r) (sym (same t told (first.gives t told tree tells)))
            (then.gives t told (first.keeps.tree ∙ tree) (first.stats.told ∙ tells));
        cause = λ is. elim (then.cause is) [
          | inl rose ↦ inl (subst (λ (n : ℕ). CountIncreasedOrSaturated n (w.faults w2)) first.unfaulted rose)
          | inr rose ↦ inr (subst (λ (n : ℕ). CountIncreasedOrSaturated n (d.faults d2)) first.stats_unfaulted rose)
        ];
        unfaulted = unless_weaker answer (λ is. is ∙ first.unfaulted) then.unfaulted;
        stats_unfaulted = unless_weaker answer (λ is. is ∙ first.stats_unfaulted) then.stats_unfaulted;
        keeps = asks_then w w0 w1 w2 first.keeps then.keeps;
        stats = stats_then d d0 d1 d2 first.stats then.stats;
      }

  -- a refusal of the first is one of the whole
  pub stops : {A B : Type 0} (w0 w1 : W) (d0 d1 : D) (e : CommandRefusal) (found : Names → StatsByPath → Result A CommandRefusal) (whole : Names → StatsByPath → Result B CommandRefusal)
      → ((t : Names) (told : StatsByPath) → found t told ≡ Err e → whole t told ≡ Err e)
      → FindsOverTreeAndStats {A = A} w d w0 w1 d0 d1 found (Err e) → FindsOverTreeAndStats {A = B} w d w0 w1 d0 d1 whole (Err e)
  stops w0 w1 d0 d1 e found whole to h =
      record {
        gives = λ t told tree tells. passes fault memory e (found t told) (whole t told) (h.gives t told tree tells) (to t told);
        cause = λ is. h.cause (same_err _ _ is);
        unfaulted = h.unfaulted;
        stats_unfaulted = h.stats_unfaulted;
        keeps = h.keeps;
        stats = h.stats;
      }

  -- what is said of differences
  pub of_differences : (w0 w1 : W) (d0 d1 : D) (root : List ℕ) (entries : List IndexEntry) (details : List Detail) (o : Comparison) (specs : List PathSpec) (comparing : Comparing) (answer : Result Differences DiffError)
      → FindsDifferences w d w0 w1 d0 d1 root entries details o specs answer
      → FindsOverTreeAndStats {A = Reply} w d w0 w1 d0 d1 (λ t told. reply_of_differences_or_unsupported comparing (differences_of_text (diff_files_text (record { tree = t; stats = told }) root entries details o specs))) (reply_of_differences comparing answer)
  of_differences w0 w1 d0 d1 root entries details o specs comparing (Ok made) h =
      record {
        gives = λ t told tree tells. ap (reply_of_differences_or_unsupported comparing) (h.gives (record { tree = t; stats = told }) (tree, tells));
        cause = λ is. absurd (no_err _ _ is);
        unfaulted = h.unfaulted.0;
        stats_unfaulted = h.unfaulted.1;
        keeps = h.worktree;
        stats = h.stats;
      }
  of_differences w0 w1 d0 d1 root entries details o specs comparing (Err (differences.Unsupported refused)) h =
      record {
        gives = λ t told tree tells. inl (ap (reply_of_differences_or_unsupported comparing) (h.gives (record { tree = t; stats = told }) (tree, tells)));
        cause = λ is. absurd cc;
        unfaulted = inr h.unfaulted.0;
        stats_unfaulted = inr h.unfaulted.1;
        keeps = h.worktree;
        stats = h.stats;
      }
  of_differences w0 w1 d0 d1 root entries details o specs comparing (Err differences.Fault) h =
      record {
        gives = λ t told tree tells. inr (inl refl);
        cause = λ is. h.cause refl;
        unfaulted = inl refl;
        stats_unfaulted = inl refl;
        keeps = h.worktree;
        stats = h.stats;
      }
  of_differences w0 w1 d0 d1 root entries details o specs comparing (Err differences.OutOfMemory) h =
      record {
        gives = λ t told tree tells. inr (inr refl);
        cause = λ is. absurd cc;
        unfaulted = inr h.unfaulted.0;
        stats_unfaulted = inr h.unfaulted.1;
        keeps = h.worktree;
        stats = h.stats;
      }

  -- and of states
  pub of_states : (w0 w1 : W) (d0 d1 : D) (root : List ℕ) (entries : List IndexEntry) (details : List Detail) (o : Comparison) (specs : List PathSpec) (writing : Writing) (answer : Result (List ℕ) DiffError)
      → MakesStateLinesByStat w d w0 w1 d0 d1 root entries details o specs writing answer
      → FindsOverTreeAndStats {A = Reply} w d w0 w1 d0 d1 (λ t told. reply_of_state_lines_or_unsupported (state_lines_over_tree_and_stats (record { tree = t; stats = told }) root entries details o specs writing)) (reply_of_state_lines answer)
  of_states w0 w1 d0 d1 root entries details o specs writing (Ok made) h =
      record {
        gives = λ t told tree tells. ap reply_of_state_lines_or_unsupported (h.gives (record { tree = t; stats = told }) (tree, tells));
        cause = λ is. absurd (no_err _ _ is);
        unfaulted = h.unfaulted.0;
        stats_unfaulted = h.unfaulted.1;
        keeps = h.worktree;
        stats = h.stats;
      }
  of_states w0 w1 d0 d1 root entries details o specs writing (Err (differences.Unsupported refused)) h =
      record {
        gives = λ t told tree tells. inl (ap reply_of_state_lines_or_unsupported (h.gives (record { tree = t; stats = told }) (tree, tells)));
        cause = λ is. absurd cc;
        unfaulted = inr h.unfaulted.0;
        stats_unfaulted = inr h.unfaulted.1;
        keeps = h.worktree;
        stats = h.stats;
      }
  of_states w0 w1 d0 d1 root entries details o specs writing (Err differences.Fault) h =
      record {
        gives = λ t told tree tells. inr (inl refl);
        cause = λ is. h.cause refl;
        unfaulted = inl refl;
        stats_unfaulted = inl refl;
        keeps = h.worktree;
        stats = h.stats;
      }
  of_states w0 w1 d0 d1 root entries details o specs writing (Err differences.OutOfMemory) h =
      record {
        gives = λ t told tree tells. inr (inr refl);
        cause = λ is. absurd cc;
        unfaulted = inr h.unfaulted.0;
        stats_unfaulted = inr h.unfaulted.1;
        keeps = h.worktree;
        stats = h.stats;
      }

pub of_diff-is : (comparing : Comparing) (answer : Result Differences DiffError) → IfErr (reply_of_differences comparing answer) MayComeBeforeSetupIsFound
of_diff-is comparing (Ok made) = tt
of_diff-is comparing (Err (differences.Unsupported refused)) = tt
of_diff-is comparing (Err differences.Fault) = tt
of_diff-is comparing (Err differences.OutOfMemory) = tt

pub of_states-is : (answer : Result (List ℕ) DiffError) → IfErr (reply_of_state_lines answer) MayComeBeforeSetupIsFound
of_states-is (Ok text) = tt
of_states-is (Err (differences.Unsupported refused)) = tt
of_states-is (Err differences.Fault) = tt
of_states-is (Err differences.OutOfMemory) = tt

-- ---- behind owners

module _ {W O D : Type 0} (w : WorktreeOf W) (o : OwnersOf O) (d : StatsOf D) where
  pub behind_owners : {A B : Type 0} (w0 w1 w2 : W) (o0 o1 : O) (d0 d1 : D) (given : A) (found : Names → OwnershipByPath → Result A CommandRefusal) (next : Names → StatsByPath → Result B CommandRefusal)
      (whole : Names → OwnershipByPath → StatsByPath → Result B CommandRefusal) (answer : Result B CommandRefusal)
      → ((t : Names) (owned : OwnershipByPath) (told : StatsByPath) → found t owned ≡ Ok given → whole t owned told ≡ next t told)
      → FindsHereResultOverTreeAndOwners {A = A} w o w0 w1 o0 o1 found (Ok given) → FindsOverTreeAndStats {A = B} w d w1 w2 d0 d1 next answer → IfErr answer MayComeBeforeSetupIsFound
      → FindsOverTreeOwnersAndStats {A = B} w o d w0 w2 o0 o1 d0 d1 whole answer
  behind_owners {B = B} w0 w1 w2 o0 o1 d0 d1 given found next whole answer same first then of =
      record {
        gives = λ t owned told tree owns tells.
            subst (λ (r : Result B CommandRefusal). IsFoundOrFailed fault memory answer r) (sym (same t owned told (first.gives t owned tree owns)))
            (then.gives t told (first.keeps.tree ∙ tree) tells);
        of = of;
        cause = λ is. elim (then.cause is) [
          | inl rose ↦ inl (subst (λ (n : ℕ). CountIncreasedOrSaturated n (w.faults w2)) first.unfaulted rose)
          | inr rose ↦ inr (inr rose)
        ];
        unfaulted = unless_weaker answer (λ is. is ∙ first.unfaulted) then.unfaulted;
        owners_unfaulted = unless_any answer first.owners_unfaulted;
        stats_unfaulted = then.stats_unfaulted;
        keeps = asks_then w w0 w1 w2 first.keeps then.keeps;
        owners = first.owners;
        stats = then.stats;
      }

  pub stops_before : {A B : Type 0} (w0 w1 : W) (o0 o1 : O) (d0 : D) (e : CommandRefusal) (found : Names → OwnershipByPath → Result A CommandRefusal) (whole : Names → OwnershipByPath → StatsByPath → Result B CommandRefusal)
      → ((t : Names) (owned : OwnershipByPath) (told : StatsByPath) → found t owned ≡ Err e → whole t owned told ≡ Err e)
      → FindsHereResultOverTreeAndOwners {A = A} w o w0 w1 o0 o1 found (Err e) → MayComeBeforeSetupIsFound e → FindsOverTreeOwnersAndStats {A = B} w o d w0 w1 o0 o1 d0 d0 whole (Err e)
  stops_before w0 w1 o0 o1 d0 e found whole to h of =
      record {
        gives = λ t owned told tree owns tells. passes fault memory e (found t owned) (whole t owned told) (h.gives t owned tree owns) (to t owned told);
        of = of;
        cause = λ is. elim (h.cause (same_err _ _ is)) [ inl rose ↦ inl rose | inr rose ↦ inr (inl rose) ];
        unfaulted = h.unfaulted;
        owners_unfaulted = h.owners_unfaulted;
        stats_unfaulted = inr refl;
        keeps = h.keeps;
        owners = h.owners;
        stats = record { told = refl; faults = omega arith };
      }
