-- The disk tells nothing of what it holds, and its counts are those of its own clauses.
use Rattle.std.proofs.Common.{◌≡◌, Option, Some, None, Ok, Err, refl, sym, subst, ap, IfOk, OnErr, Result}
use Rattle.worktree_fs.specs.Tree.{Names}
use Rattle.worktree_fs.specs.Disk.{DiskWorktreeModel, with_counts_reset}
use Rattle.worktree_fs.specs.declared.answers.ReadError.{ReadError}
use Rattle.worktree_fs.proofs.Trees.KeptNames.{kept-listing}
use Rattle.worktree_fs.proofs.disk.DiskWorktreeWorktree.TheImpl.Goals as goal

clash : (t : Names) → ◌≡◌ {A = Option Names} None (Some t) → ⊥
clash t e = cc

-- what stays of nothing stays on a refusal too
stays : {T : Type 0} (r : Result T ReadError) → OnErr r (◌≡◌ {A = Option Names} None None)
stays (Ok answer) = tt
stays (Err error) = refl

pub kind-tells : goal.kind-tells
kind-tells g c = record {
  answer = λ t told. absurd (clash t told);
  tree = refl;
  cause = c.ensures.counts.cause;
  unfaulted = c.ensures.counts.unfaulted;
  faults = c.ensures.counts.later;
  list_faults = ap (λ (d : DiskWorktreeModel). d.list_faults) c.ensures.state;
  reads = ap (λ (d : DiskWorktreeModel). d.reads) c.ensures.state;
  lists = ap (λ (d : DiskWorktreeModel). d.lists) c.ensures.state;
  precomposes = ap (λ (d : DiskWorktreeModel). d.composes) c.ensures.state;
}

pub kind_following-tells : goal.kind_following-tells
kind_following-tells g c = record {
  answer = λ t told. absurd (clash t told);
  tree = refl;
  cause = c.ensures.counts.cause;
  unfaulted = c.ensures.counts.unfaulted;
  faults = c.ensures.counts.later;
  list_faults = ap (λ (d : DiskWorktreeModel). d.list_faults) c.ensures.state;
  reads = ap (λ (d : DiskWorktreeModel). d.reads) c.ensures.state;
  lists = ap (λ (d : DiskWorktreeModel). d.lists) c.ensures.state;
  precomposes = ap (λ (d : DiskWorktreeModel). d.composes) c.ensures.state;
}

pub real_path-tells : goal.real_path-tells
real_path-tells g c = record {
  answer = λ t told. absurd (clash t told);
  tree = refl;
  cause = c.ensures.counts.cause;
  unfaulted = c.ensures.counts.unfaulted;
  faults = c.ensures.counts.later;
  list_faults = ap (λ (d : DiskWorktreeModel). d.list_faults) c.ensures.state;
  reads = ap (λ (d : DiskWorktreeModel). d.reads) c.ensures.state;
  lists = ap (λ (d : DiskWorktreeModel). d.lists) c.ensures.state;
  precomposes = ap (λ (d : DiskWorktreeModel). d.composes) c.ensures.state;
}

pub list-tells : goal.list-tells
list-tells g c = record {
  answer = λ t told. absurd (clash t told);
  names = c.ensures.names;
  composed = kept-listing c.args.self.now.composes c.result c.ensures.names c.ensures.kept;
  tree = refl;
  cause = c.ensures.counts.cause;
  unfaulted = c.ensures.counts.unfaulted;
  faults = c.ensures.counts.faults_later;
  list_cause = c.ensures.counts.list_cause;
  list_faults = c.ensures.counts.list_faults_later;
  list_faults_kept = c.ensures.counts.list_faults_kept;
  reads = ap (λ (d : DiskWorktreeModel). d.reads) c.ensures.state;
  lists = ap (λ (d : DiskWorktreeModel). d.lists) c.ensures.state;
  lists_later = c.ensures.counts.lists_later;
  precomposes = ap (λ (d : DiskWorktreeModel). d.composes) c.ensures.state;
}

pub read-tells : goal.read-tells
read-tells g c = record {
  answer = λ t told. absurd (clash t told);
  bytes = λ t told. absurd (clash t told);
  into = c.ensures.into;
  link = c.ensures.link;
  tree = refl;
  cause = c.ensures.counts.cause;
  unfaulted = c.ensures.counts.unfaulted;
  faults = c.ensures.counts.later;
  list_faults = ap (λ (d : DiskWorktreeModel). d.list_faults) c.ensures.state;
  reads = ap (λ (d : DiskWorktreeModel). d.reads) c.ensures.state;
  reads_later = c.ensures.reads_later;
  lists = ap (λ (d : DiskWorktreeModel). d.lists) c.ensures.state;
  precomposes = ap (λ (d : DiskWorktreeModel). d.composes) c.ensures.state;
}

pub make_dir-tells : goal.make_dir-tells
make_dir-tells g c = record {
  answer = λ t told. absurd (clash t told);
  inside = λ t told. absurd (clash t told);
  made = λ t told. absurd (clash t told);
  kept = stays c.result;
  untold = λ none. refl;
  cause = c.ensures.counts.cause;
  unfaulted = c.ensures.counts.unfaulted;
  faults = c.ensures.counts.later;
  list_faults = ap (λ (d : DiskWorktreeModel). d.list_faults) c.ensures.state;
  reads = ap (λ (d : DiskWorktreeModel). d.reads) c.ensures.state;
  lists = ap (λ (d : DiskWorktreeModel). d.lists) c.ensures.state;
  precomposes = ap (λ (d : DiskWorktreeModel). d.composes) c.ensures.state;
}

pub remove_node-tells : goal.remove_node-tells
remove_node-tells g c = record {
  answer = λ t told. absurd (clash t told);
  removed = λ t told. absurd (clash t told);
  gone = λ t now told told_now removed. absurd (clash t told);
  kept = stays c.result;
  untold = λ none. refl;
  cause = c.ensures.counts.cause;
  unfaulted = c.ensures.counts.unfaulted;
  faults = c.ensures.counts.later;
  list_faults = ap (λ (d : DiskWorktreeModel). d.list_faults) c.ensures.state;
  reads = ap (λ (d : DiskWorktreeModel). d.reads) c.ensures.state;
  lists = ap (λ (d : DiskWorktreeModel). d.lists) c.ensures.state;
  precomposes = ap (λ (d : DiskWorktreeModel). d.composes) c.ensures.state;
}

-- what is true of what was answered
given : {T E : Type 0} (P : T → Type 0) (r : Result T E) (answer : T) → r ≡ Ok answer → P answer → IfOk r P
given P r answer is p = subst (λ r. IfOk r P) (sym is) p

pub fork-tells : goal.fork-tells
fork-tells g c =
    let d : DiskWorktreeModel = c.args.self.now in
    record {
      tree = given (λ (fork : DiskWorktreeModel). ◌≡◌ {A = Option Names} None None) c.result (with_counts_reset d) c.ensures refl;
      faults = given (λ (fork : DiskWorktreeModel). fork.faults ≡ 0) c.result (with_counts_reset d) c.ensures refl;
      list_faults = given (λ (fork : DiskWorktreeModel). fork.list_faults ≡ 0) c.result (with_counts_reset d) c.ensures refl;
      reads = given (λ (fork : DiskWorktreeModel). fork.reads ≡ 0) c.result (with_counts_reset d) c.ensures refl;
      lists = given (λ (fork : DiskWorktreeModel). fork.lists ≡ 0) c.result (with_counts_reset d) c.ensures refl;
      precomposes = given (λ (fork : DiskWorktreeModel). fork.composes ≡ d.composes) c.result (with_counts_reset d) c.ensures refl;
    }
