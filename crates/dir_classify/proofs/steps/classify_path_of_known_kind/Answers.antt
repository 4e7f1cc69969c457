use Rattle.std.proofs.Common.{◌∙◌, ap, sym, refl, false, true, None, arith, rules}
use Rattle.dir_classify.specs.declared.excludes.Ruling.{Ruling}
use Rattle.dir_classify.specs.Chosen.{walk_options_of}
use Rattle.dir_classify.specs.declared.index.InIndex.{InIndex}
use Rattle.dir_classify.specs.Class.{asks_rules_with_known_kind, outcome_of_path_of_known_kind, outcome_of_indexed_path, outcome_of_unindexed_path, skips_repository_test, index_and_disk_agree_on_directory, is_directory_of_indexed_submodule, tests_unindexed_for_repository}
use Rattle.dir_classify.specs.Excludes.{setup_of_optional_stack}
use Rattle.dir_classify.specs.Faults.{no_question_failed, evidence_as_read}
use Rattle.dir_classify.specs.Layers.{setting_of_shared, evidence_from_setting_and_sources, kind_on_disk_if_asked}
use Rattle.dir_classify.specs.Question.{question_about_known_kind}
use Rattle.dir_classify.specs.Reads.{most_reads_to_classify_path}
use Rattle.dir_classify.proofs.Classed.{asked-so, classed-as-judged}
use Rattle.dir_classify.proofs.Fitting.{worktree-case, indexed-case, unindexed-case, unasked-worktree, unasked-indexed, asks-unindexed, indexed-as, read-case, in_index-of, none-asked, idle-indexed, idle-unindexed}
use Rattle.dir_classify.proofs.Judging.{unruled}
use Rattle.dir_classify.proofs.Keeping.{asks-same, asks-then, quiet-first, quiet-second, at-most, at-most-refused, at-most-stopped, read-not, read-then}
use Rattle.dir_classify.proofs.Refusals.{OnAccess-weaker, on-access}
use Rattle.dir_classify.proofs.Ruled.{judged-unindexed, ruling-none}
use Rattle.dir_classify.proofs.Sought.{idle-indexed-sought, idle-unindexed-sought}
use Rattle.std.proofs.lemmas.Result.{err_from_is_err_and}
use Rattle.dir_classify.proofs.Upgrades.{judged-as, judged-unread}
use Rattle.dir_classify.proofs.steps.classify_path_of_known_kind.Goals as goal

pub returns-then-is_in_worktree_set : goal.returns-then-is_in_worktree_set
returns-then-is_in_worktree_set g c = λ ask_disk.
    let o = walk_options_of c.args.shared.now.options in
    let given = setting_of_shared g.M.Matcher c.args.shared.now in
    let made = setup_of_optional_stack c.args.excludes.now in
    let path = c.args.rela_path.now in
    let is = sym c.is_in_worktree_set.ensures ∙ c.if-is_in_worktree_set.true in
    unruled g.W.Worktree g.F.Find c.args.worktree.now c.args.worktree.now c.args.objects.now c.args.excludes.now given (question_about_known_kind o path c.args.kind ask_disk) c.outcome_of_linked_worktree.result
    (asks-same g.W.Worktree c.args.worktree.now) (read-not (most_reads_to_classify_path o) refl)
    (λ s told quiet. c.outcome_of_linked_worktree.ensures made s ∙ worktree-case o (evidence_from_setting_and_sources given made s) path c.args.kind is)
    (λ s told. let ev = evidence_from_setting_and_sources given made s in
    judged-unread _ _ (λ _ read. outcome_of_path_of_known_kind o read path c.args.kind) ev (kind_on_disk_if_asked given s.tree path ask_disk) c.outcome_of_linked_worktree.result (omega arith)
    (c.outcome_of_linked_worktree.ensures made s ∙ worktree-case o (evidence_as_read no_question_failed ev) path c.args.kind is))
    (λ s kind. unasked-worktree o (evidence_from_setting_and_sources given made s) path c.args.kind is)
    (λ s no. refl) (λ no. refl)
    (λ s no. (refl, c.outcome_of_linked_worktree.ensures made s ∙ worktree-case o (evidence_from_setting_and_sources given made s) path c.args.kind is))

pub returns-then-index_and_disk_agree_on_directory : goal.returns-then-index_and_disk_agree_on_directory
returns-then-index_and_disk_agree_on_directory g c = λ ask_disk.
    let o = walk_options_of c.args.shared.now.options in
    let given = setting_of_shared g.M.Matcher c.args.shared.now in
    let made = setup_of_optional_stack c.args.excludes.now in
    let path = c.args.rela_path.now in
    let kind = c.args.kind in
    let none = sym c.is_in_worktree_set.ensures ∙ c.if-is_in_worktree_set.false in
    let is = sym c.index_and_disk_agree_on_directory.ensures ∙ c.if-index_and_disk_agree_on_directory.true in
    let then = c.in_ok-class.ensures.classifies in
    unruled g.W.Worktree g.F.Find c.args.worktree.now c.classify_indexed_path.new.worktree c.args.objects.now c.args.excludes.now given (question_about_known_kind o path kind ask_disk) c.in_ok-class.class
    then.keeps then.reads_most
    (λ s told quiet. then.class s told quiet made
    ∙ indexed-case o (evidence_from_setting_and_sources given made s) path kind none (indexed-as given made s path c.args.entry kind true c.requires.entry is))
    (λ s told. let ev = evidence_from_setting_and_sources given made s in let od = kind_on_disk_if_asked given s.tree path ask_disk in
    judged-as _ _ (λ _ read. outcome_of_indexed_path o read path kind) (λ _ read. outcome_of_path_of_known_kind o read path kind) ev od c.in_ok-class.class
    (λ d failed. indexed-case o (evidence_as_read failed ev) path kind none (indexed-as given made s path c.args.entry kind true c.requires.entry is))
    (then.swallowed s told made od))
    (λ s d. unasked-indexed o (evidence_from_setting_and_sources given made s) path kind none (indexed-as given made s path c.args.entry kind true c.requires.entry is))
    (λ s no. ap g.W.Worktree.reads (then.unasked
    (ap (λ (e : InIndex). skips_repository_test o (is_directory_of_indexed_submodule e kind)) (c.requires.entry ∙ sym (in_index-of given made s path))
    ∙ idle-indexed-sought o (evidence_from_setting_and_sources given made s) path kind none (indexed-as given made s path c.args.entry kind true c.requires.entry is) no)))
    (λ no. ap g.W.Worktree.reads (then.sought no))
    (λ s no. let ev = evidence_from_setting_and_sources given made s in
    let idle = ap (λ (e : InIndex). skips_repository_test o (is_directory_of_indexed_submodule e kind)) (c.requires.entry ∙ sym (in_index-of given made s path))
    ∙ idle-indexed o ev path kind none (indexed-as given made s path c.args.entry kind true c.requires.entry is) no in
    (then.unasked idle, c.in_ok-class.ensures.certain idle made s ∙ indexed-case o ev path kind none (indexed-as given made s path c.args.entry kind true c.requires.entry is)))

pub returns : goal.returns
returns g c = λ ask_disk.
    let o = walk_options_of c.args.shared.now.options in
    let given = setting_of_shared g.M.Matcher c.args.shared.now in
    let made = setup_of_optional_stack c.args.excludes.now in
    let path = c.args.rela_path.now in
    let kind = c.args.kind in
    let none = sym c.is_in_worktree_set.ensures ∙ c.if-is_in_worktree_set.false in
    let not_indexed = sym c.index_and_disk_agree_on_directory.ensures ∙ c.if-index_and_disk_agree_on_directory.false in
    let not_found = ap (λ (e : InIndex). index_and_disk_agree_on_directory e kind) (sym c.requires.entry) ∙ not_indexed in
    let first = c.in_ok-ruling.ensures in
    let then = c.in_ok-class-2.ensures.classifies in
    record {
      class = λ s tells step quiet.
          then.class s (first.asking.keeps.tree ∙ tells.tree_is) (quiet-second _ _ _ first.asking.keeps.faults then.keeps.faults quiet) made
          ∙ ap (λ (r : Ruling). outcome_of_unindexed_path o (evidence_from_setting_and_sources given made s) path kind r) (first.ruling s tells step (quiet-first _ _ _ first.asking.keeps.faults then.keeps.faults quiet))
          ∙ unindexed-case o (evidence_from_setting_and_sources given made s) path kind none (indexed-as given made s path c.args.entry kind false c.requires.entry not_indexed);
      read = λ s tells step quiet. read-case given made s path kind none not_found (first.read s tells step);
      swallowed = λ s tells step. let od = kind_on_disk_if_asked given s.tree path ask_disk in
          classed-as-judged _ _ (question_about_known_kind o path kind ask_disk) (evidence_from_setting_and_sources given made s) od c.in_ok-class-2.class
          (judged-unindexed _ _ _ o (evidence_from_setting_and_sources given made s) path kind od c.in_ok-ruling.ruling c.in_ok-class-2.class none
          (indexed-as given made s path c.args.entry kind false c.requires.entry not_indexed) (first.swallowed s tells step) (then.swallowed s (first.asking.keeps.tree ∙ tells.tree_is) made od))
          (λ d. read-case given made s path kind none not_found (first.read s tells step))
          (λ d no.
          let kept = first.untouched (none-asked given made s path kind none not_found no) in
          record { same = kept.rules; store = kept.store; reads = read-then (most_reads_to_classify_path o) then.reads_most (ap g.W.Worktree.reads kept.worktree) });
      unruled = λ s told quiet no.
          let off = none-asked given made s path kind none not_found no in
          then.class s (first.asking.keeps.tree ∙ told) (quiet-second _ _ _ first.asking.keeps.faults then.keeps.faults quiet) made
          ∙ ap (λ (r : Ruling). outcome_of_unindexed_path o (evidence_from_setting_and_sources given made s) path kind r) (first.no_rules off ∙ ruling-none given made s path kind off)
          ∙ unindexed-case o (evidence_from_setting_and_sources given made s) path kind none (indexed-as given made s path c.args.entry kind false c.requires.entry not_indexed);
      asking = record {
        about = tt;
        refused = λ s tells. tt;
        stopped = tt;
        cause = tt;
        keeps = asks-then g.W.Worktree c.args.worktree.now c.ruling_unless_worktree_root.new.worktree c.classify_unindexed_path.new.worktree first.asking.keeps then.keeps;
        store = first.asking.store;
        unmapped = first.asking.unmapped;
        rules = record { made = first.asking.rules.made; in_step = first.asking.rules.in_step };
        reads = at-most (most_reads_to_classify_path o) path _ _ _ _ _ _ _ c.in_ok-ruling.ruling c.in_ok-class-2.class then.reads_most first.asking.reads;
      };
      asked = λ s told. tt;
      unsought = λ s tells step quiet no.
          let idle = idle-unindexed-sought o (evidence_from_setting_and_sources given made s) path kind c.in_ok-ruling.ruling none
          (indexed-as given made s path c.args.entry kind false c.requires.entry not_indexed) (first.ruling s tells step (quiet-first _ _ _ first.asking.keeps.faults then.keeps.faults quiet)) no in
          at-most 0 path _ _ _ _ _ _ _ c.in_ok-ruling.ruling c.in_ok-class-2.class (read-not 0 (ap g.W.Worktree.reads (then.unasked idle))) first.asking.reads;
      sought = λ no. at-most 0 path _ _ _ _ _ _ _ c.in_ok-ruling.ruling c.in_ok-class-2.class (read-not 0 (ap g.W.Worktree.reads (then.sought no))) first.asking.reads;
      early = tt;
      spared = λ s never.
          let kept = first.untouched (none-asked given made s path kind none not_found (never None)) in
          record { same = kept.rules; store = kept.store; reads = read-then (most_reads_to_classify_path o) then.reads_most (ap g.W.Worktree.reads kept.worktree) };
      memory = λ s never. tt;
      unasked = λ s told quiet no.
          let kept = first.untouched (none-asked given made s path kind none not_found no) in
          record { same = kept.rules; store = kept.store; reads = read-then (most_reads_to_classify_path o) then.reads_most (ap g.W.Worktree.reads kept.worktree) };
      unread = λ s told quiet no none_sought.
          let off = none-asked given made s path kind none not_found no in
          let idle = idle-unindexed-sought o (evidence_from_setting_and_sources given made s) path kind c.in_ok-ruling.ruling none
          (indexed-as given made s path c.args.entry kind false c.requires.entry not_indexed) (first.no_rules off ∙ ruling-none given made s path kind off) none_sought in
          ap g.W.Worktree.reads (then.unasked idle ∙ (first.untouched off).worktree);
      untouched = λ s no.
          let parts = idle-unindexed given made s path kind none not_found no in
          let kept = first.untouched parts.0 in
          let same = then.unasked
          (ap (λ (r : Ruling). skips_repository_test o (tests_unindexed_for_repository o kind r.kind)) (first.no_rules parts.0) ∙ parts.1) in
          record { worktree = same ∙ kept.worktree; store = kept.store; rules = kept.rules };
      certain = λ s no.
          let parts = idle-unindexed given made s path kind none not_found no in
          let none_ruled = first.no_rules parts.0 in
          c.in_ok-class-2.ensures.certain (ap (λ (r : Ruling). r.kind) none_ruled) parts.1 made s
          ∙ ap (λ (r : Ruling). outcome_of_unindexed_path o (evidence_from_setting_and_sources given made s) path kind r) (none_ruled ∙ ruling-none given made s path kind parts.0)
          ∙ unindexed-case o (evidence_from_setting_and_sources given made s) path kind none (indexed-as given made s path c.args.entry kind false c.requires.entry not_indexed);
    }

pub returns-in_err-ruling : goal.returns-in_err-ruling
returns-in_err-ruling g c = λ ask_disk.
    let o = walk_options_of c.args.shared.now.options in
    let given = setting_of_shared g.M.Matcher c.args.shared.now in
    let made = setup_of_optional_stack c.args.excludes.now in
    let path = c.args.rela_path.now in
    let kind = c.args.kind in
    let none = sym c.is_in_worktree_set.ensures ∙ c.if-is_in_worktree_set.false in
    let not_indexed = sym c.index_and_disk_agree_on_directory.ensures ∙ c.if-index_and_disk_agree_on_directory.false in
    let not_found = ap (λ (e : InIndex). index_and_disk_agree_on_directory e kind) (sym c.requires.entry) ∙ not_indexed in
    let first = c.in_err-ruling.ensures in
    let e = c.in_err-ruling.field-0.0 in
    let p = err_from_is_err_and c.from_residual-in_err-ruling.result c.from_residual-in_err-ruling.ensures.1 in
    rw (p.1, p.2)
    (record {
      class = λ s tells step quiet. tt;
      read = λ s tells step quiet. tt;
      swallowed = λ s tells step. tt;
      unruled = λ s told quiet no. tt;
      asking = record {
        about = first.asking.about;
        refused = first.asking.refused;
        stopped = first.asking.stopped;
        cause = first.asking.cause;
        keeps = first.asking.keeps;
        store = first.asking.store;
        unmapped = first.asking.unmapped;
        rules = first.asking.rules;
        reads = at-most-refused (most_reads_to_classify_path o) path _ _ _ _ _ _ e first.asking.reads;
      };
      asked = λ s told.
          asked-so _ _ (λ _. asks_rules_with_known_kind o (evidence_from_setting_and_sources given made s) path kind) (kind_on_disk_if_asked given s.tree path ask_disk) _ e first.asking.keeps.faults
          (OnAccess-weaker _ _ e (asks-unindexed given made s path kind none not_found) first.asked) first.asking.cause;
      unsought = λ s tells step quiet no. at-most-refused 0 path _ _ _ _ _ _ e first.asking.reads;
      sought = tt;
      early = on-access _ (at-most-refused 0 path _ _ _ _ _ _ e first.asking.reads) e;
      spared = λ s never.
          let kept = first.untouched (none-asked given made s path kind none not_found (never None)) in
          record { same = kept.rules; store = kept.store; reads = read-not (most_reads_to_classify_path o) (ap g.W.Worktree.reads kept.worktree) };
      memory = λ s never.
          let off = none-asked given made s path kind none not_found (never None) in
          OnAccess-weaker _ ⊥ e (λ on. absurd (let no = sym on ∙ off in cc no)) first.asked;
      unasked = λ s told quiet no.
          let kept = first.untouched (none-asked given made s path kind none not_found no) in
          record { same = kept.rules; store = kept.store; reads = read-not (most_reads_to_classify_path o) (ap g.W.Worktree.reads kept.worktree) };
      unread = λ s told quiet no none_sought. ap g.W.Worktree.reads (first.untouched (none-asked given made s path kind none not_found no)).worktree;
      untouched = λ s no. first.untouched (idle-unindexed given made s path kind none not_found no).0;
      certain = λ s no. tt;
    })

pub returns-in_err-class-2 : goal.returns-in_err-class-2
unfolding evidence_from_setting_and_sources
returns-in_err-class-2 g c = λ ask_disk.
    let o = walk_options_of c.args.shared.now.options in
    let given = setting_of_shared g.M.Matcher c.args.shared.now in
    let made = setup_of_optional_stack c.args.excludes.now in
    let path = c.args.rela_path.now in
    let kind = c.args.kind in
    let none = sym c.is_in_worktree_set.ensures ∙ c.if-is_in_worktree_set.false in
    let not_indexed = sym c.index_and_disk_agree_on_directory.ensures ∙ c.if-index_and_disk_agree_on_directory.false in
    let not_found = ap (λ (e : InIndex). index_and_disk_agree_on_directory e kind) (sym c.requires.entry) ∙ not_indexed in
    let first = c.in_ok-ruling.ensures in
    let then = c.in_err-class-2.ensures.classifies in
    record {
      class = search rules;
      read = search rules;
      swallowed = search rules;
      unruled = search rules;
      asking = record {
        about = search rules;
        refused = search rules;
        stopped = search rules;
        cause = search rules;
        keeps = search rules;
        store = search rules;
        unmapped = search rules;
        rules = search rules;
        reads =
            let p = err_from_is_err_and c.from_residual-in_err-class-2.result c.from_residual-in_err-class-2.ensures.1 in
            rw (p.1, p.2) (at-most-stopped (most_reads_to_classify_path o) path _ _ _ _ _ _ _ c.in_ok-ruling.ruling _ then.reads_most first.asking.reads);
      };
      asked = search rules;
      unsought = λ s tells step quiet no.
          let p = err_from_is_err_and c.from_residual-in_err-class-2.result c.from_residual-in_err-class-2.ensures.1 in
          let idle = idle-unindexed-sought o (evidence_from_setting_and_sources given made s) path kind c.in_ok-ruling.ruling none
          (indexed-as given made s path c.args.entry kind false c.requires.entry not_indexed) (first.ruling s tells step (quiet-first _ _ _ first.asking.keeps.faults then.keeps.faults quiet)) no in
          rw (p.1, p.2) (at-most-stopped 0 path _ _ _ _ _ _ _ c.in_ok-ruling.ruling _ (read-not 0 (ap g.W.Worktree.reads (then.unasked idle))) first.asking.reads);
      sought = search rules;
      early = search rules;
      spared = λ s never.
          let kept = first.untouched (none-asked given made s path kind none not_found (never None)) in
          record { same = kept.rules; store = kept.store; reads = read-then (most_reads_to_classify_path o) then.reads_most (ap g.W.Worktree.reads kept.worktree) };
      memory = search rules;
      unasked = λ s told quiet no.
          let kept = first.untouched (none-asked given made s path kind none not_found no) in
          record { same = kept.rules; store = kept.store; reads = read-then (most_reads_to_classify_path o) then.reads_most (ap g.W.Worktree.reads kept.worktree) };
      unread = λ s told quiet no none_sought.
          let off = none-asked given made s path kind none not_found no in
          let idle = idle-unindexed-sought o (evidence_from_setting_and_sources given made s) path kind c.in_ok-ruling.ruling none
          (indexed-as given made s path c.args.entry kind false c.requires.entry not_indexed) (first.no_rules off ∙ ruling-none given made s path kind off) none_sought in
          ap g.W.Worktree.reads (then.unasked idle ∙ (first.untouched off).worktree);
      untouched = search rules;
      certain = search rules;
    }
