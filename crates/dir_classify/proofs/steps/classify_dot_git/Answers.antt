use Rattle.std.proofs.Common.{◌≡◌, ◌∙◌, ap, sym, refl, None, false, ◌&&◌, arith}
use Rattle.std.specs.Prelude.{is_some}
use Rattle.std.proofs.lemmas.Result.{err_from_is_err_and}
use Rattle.dir_classify.specs.Chosen.{walk_options_of}
use Rattle.dir_classify.specs.Class.{outcome_of_dot_git, ruling_of_dot_git}
use Rattle.dir_classify.specs.Excludes.{setup_of_optional_stack}
use Rattle.dir_classify.specs.Faults.{no_question_failed, evidence_as_read}
use Rattle.dir_classify.specs.Layers.{setting_of_shared, evidence_from_setting_and_sources, kind_on_disk_if_asked}
use Rattle.dir_classify.specs.Question.{question_about_dot_git}
use Rattle.dir_classify.specs.Reads.{most_reads_to_classify_path}
use Rattle.dir_classify.proofs.Classed.{asked-so, classed-as-judged}
use Rattle.dir_classify.proofs.Fitting.{dot_git-none, dot_git-nothing, not-true}
use Rattle.dir_classify.proofs.Judging.{unruled}
use Rattle.dir_classify.proofs.Keeping.{asks-same, at-most, at-most-refused, read-not}
use Rattle.dir_classify.proofs.Refusals.{on-access, on-access-by}
use Rattle.dir_classify.proofs.Ruled.{dot_git-unasked, dot_git-unruled, dot_git-asked, dot_git-read, dot_git-asks}
use Rattle.dir_classify.proofs.Upgrades.{judged-unread}
use Rattle.dir_classify.proofs.steps.classify_dot_git.Goals as goal

pub returns-then-not-is_for_deletion : goal.returns-then-not-is_for_deletion
returns-then-not-is_for_deletion g c = λ ask_disk.
    let o = walk_options_of c.args.shared.now.options in
    let given = setting_of_shared g.M.Matcher c.args.shared.now in
    let made = setup_of_optional_stack c.args.excludes.now in
    let path = c.args.rela_path.now in
    let off = sym c.is_for_deletion.ensures ∙ c.if-not-is_for_deletion.true in
    unruled g.W.Worktree g.F.Find c.args.worktree.now c.args.worktree.now c.args.objects.now c.args.excludes.now given (question_about_dot_git o path c.args.disk_kind ask_disk) c.outcome_of_dot_git.result
    (asks-same g.W.Worktree c.args.worktree.now) (read-not (most_reads_to_classify_path o) refl)
    (λ s told quiet. c.outcome_of_dot_git.ensures made s ∙ dot_git-unasked o (evidence_from_setting_and_sources given made s) path c.args.disk_kind off)
    (λ s told. let ev = evidence_from_setting_and_sources given made s in
    judged-unread _ _ (λ _ read. outcome_of_dot_git o read path c.args.disk_kind (ruling_of_dot_git o read path c.args.disk_kind)) ev (kind_on_disk_if_asked given s.tree path ask_disk) c.outcome_of_dot_git.result (omega arith)
    (c.outcome_of_dot_git.ensures made s ∙ dot_git-unasked o (evidence_as_read no_question_failed ev) path c.args.disk_kind off))
    (λ s kind. rw off refl)
    (λ s no. refl) (λ no. refl)
    (λ s no. (refl, c.outcome_of_dot_git.ensures made s ∙ dot_git-unasked o (evidence_from_setting_and_sources given made s) path c.args.disk_kind off))

pub returns-in_err-ruling : goal.returns-in_err-ruling
returns-in_err-ruling g c = λ ask_disk.
    let o = walk_options_of c.args.shared.now.options in
    let given = setting_of_shared g.M.Matcher c.args.shared.now in
    let made = setup_of_optional_stack c.args.excludes.now in
    let path = c.args.rela_path.now in
    let on = sym c.is_for_deletion.ensures ∙ c.if-not-is_for_deletion.false in
    let asked = c.in_err-ruling.ensures in
    let e = c.in_err-ruling.field-0.0 in
    let p = err_from_is_err_and c.from_residual.result c.from_residual.ensures.1 in
    rw (p.1, p.2)
    (record {
      class = λ s tells step quiet. tt;
      read = λ s tells step quiet. tt;
      swallowed = λ s tells step. tt;
      unruled = λ s told quiet no. tt;
      asking = record {
        about = asked.asking.about;
        refused = asked.asking.refused;
        stopped = asked.asking.stopped;
        cause = asked.asking.cause;
        keeps = asked.asking.keeps;
        store = asked.asking.store;
        unmapped = asked.asking.unmapped;
        rules = asked.asking.rules;
        reads = at-most-refused (most_reads_to_classify_path o) path _ _ _ _ _ _ e asked.asking.reads;
      };
      asked = λ s told.
          asked-so _ _ (λ _. is_some o.for_deletion && (evidence_from_setting_and_sources given made s).is_ruled) (kind_on_disk_if_asked given s.tree path ask_disk) _ e asked.asking.keeps.faults
          (on-access-by made path _ (dot_git-asks o given made s on) e asked.asking.about) asked.asking.cause;
      unsought = λ s tells step quiet no. at-most-refused 0 path _ _ _ _ _ _ e asked.asking.reads;
      sought = tt;
      early = on-access _ (at-most-refused 0 path _ _ _ _ _ _ e asked.asking.reads) e;
      spared = λ s never.
          let kept = asked.untouched (dot_git-none o given made s on (never None)) in
          record { same = kept.rules; store = kept.store; reads = read-not (most_reads_to_classify_path o) (ap g.W.Worktree.reads kept.worktree) };
      memory = λ s never.
          let off = dot_git-none o given made s on (never None) in
          on-access-by made path ⊥ (λ some. absurd (let no = sym some ∙ off in cc no)) e asked.asking.about;
      unasked = λ s told quiet no.
          let kept = asked.untouched (dot_git-none o given made s on no) in
          record { same = kept.rules; store = kept.store; reads = read-not (most_reads_to_classify_path o) (ap g.W.Worktree.reads kept.worktree) };
      unread = λ s told quiet no none_sought. ap g.W.Worktree.reads (asked.untouched (dot_git-none o given made s on no)).worktree;
      untouched = λ s no. asked.untouched (dot_git-nothing o given made s on no);
      certain = λ s no. tt;
    })

pub returns : goal.returns
returns g c = λ ask_disk.
    let o = walk_options_of c.args.shared.now.options in
    let given = setting_of_shared g.M.Matcher c.args.shared.now in
    let made = setup_of_optional_stack c.args.excludes.now in
    let path = c.args.rela_path.now in
    let on = sym c.is_for_deletion.ensures ∙ c.if-not-is_for_deletion.false in
    let asked = c.in_ok-ruling.ensures in
    let result = c.outcome_of_dot_git-2.result in
    record {
      class = λ s tells step quiet.
          c.outcome_of_dot_git-2.ensures made s
          ∙ dot_git-asked o given made s path c.args.disk_kind c.in_ok-ruling.ruling c.is_dir-is_dir.result on c.is_dir-is_dir.ensures (asked.ruling s tells step);
      read = λ s tells step quiet. dot_git-read o given made s path (asked.read s tells step);
      swallowed = λ s tells step. let ev = evidence_from_setting_and_sources given made s in
          classed-as-judged _ _ (question_about_dot_git o path c.args.disk_kind ask_disk) ev (kind_on_disk_if_asked given s.tree path ask_disk) result
          (judged-unread _ _ (λ _ read. outcome_of_dot_git o read path c.args.disk_kind (ruling_of_dot_git o read path c.args.disk_kind)) ev (kind_on_disk_if_asked given s.tree path ask_disk) result asked.asking.keeps.faults
          (c.outcome_of_dot_git-2.ensures made s ∙ dot_git-asked o given made s path c.args.disk_kind c.in_ok-ruling.ruling c.is_dir-is_dir.result on c.is_dir-is_dir.ensures (asked.ruling s tells step)))
          (λ kind. dot_git-read o given made s path (asked.read s tells step))
          (λ kind no.
          let kept = asked.untouched (dot_git-none o given made s on no) in
          record { same = kept.rules; store = kept.store; reads = read-not (most_reads_to_classify_path o) (ap g.W.Worktree.reads kept.worktree) });
      unruled = λ s told quiet no.
          c.outcome_of_dot_git-2.ensures made s
          ∙ ap (outcome_of_dot_git o (evidence_from_setting_and_sources given made s) path c.args.disk_kind) (asked.no_rules (dot_git-none o given made s on no))
          ∙ dot_git-unruled o (evidence_from_setting_and_sources given made s) path c.args.disk_kind no;
      asking = record {
        about = tt;
        refused = λ s tells. tt;
        stopped = tt;
        cause = tt;
        keeps = asked.asking.keeps;
        store = asked.asking.store;
        unmapped = asked.asking.unmapped;
        rules = asked.asking.rules;
        reads = at-most (most_reads_to_classify_path o) path _ _ _ _ _ _ _ c.in_ok-ruling.ruling result (read-not (most_reads_to_classify_path o) refl) asked.asking.reads;
      };
      asked = λ s told. tt;
      unsought = λ s tells step quiet no. at-most 0 path _ _ _ _ _ _ _ c.in_ok-ruling.ruling result (read-not 0 refl) asked.asking.reads;
      sought = λ no. at-most 0 path _ _ _ _ _ _ _ c.in_ok-ruling.ruling result (read-not 0 refl) asked.asking.reads;
      early = tt;
      spared = λ s never.
          let kept = asked.untouched (dot_git-none o given made s on (never None)) in
          record { same = kept.rules; store = kept.store; reads = read-not (most_reads_to_classify_path o) (ap g.W.Worktree.reads kept.worktree) };
      memory = λ s never. tt;
      unasked = λ s told quiet no.
          let kept = asked.untouched (dot_git-none o given made s on no) in
          record { same = kept.rules; store = kept.store; reads = read-not (most_reads_to_classify_path o) (ap g.W.Worktree.reads kept.worktree) };
      unread = λ s told quiet no none_sought. ap g.W.Worktree.reads (asked.untouched (dot_git-none o given made s on no)).worktree;
      untouched = λ s no. asked.untouched (dot_git-nothing o given made s on no);
      certain = λ s no.
          let off : (is_some o.for_deletion && (evidence_from_setting_and_sources given made s).is_ruled) ≡ false = not-true _ no in
          c.outcome_of_dot_git-2.ensures made s
          ∙ ap (outcome_of_dot_git o (evidence_from_setting_and_sources given made s) path c.args.disk_kind) (asked.no_rules (dot_git-none o given made s on off))
          ∙ dot_git-unruled o (evidence_from_setting_and_sources given made s) path c.args.disk_kind off;
    }
