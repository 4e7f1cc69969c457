use Rattle.std.proofs.Common.{◌∙◌, ap, sym, Some, None, Option}
use Rattle.glob_rules.specs.declared.ignore.Kind.{Kind as IgnoredAs}
use Rattle.dir_classify.specs.declared.classify.Outcome.{Outcome}
use Rattle.dir_classify.specs.Chosen.{walk_options_of}
use Rattle.dir_classify.specs.Class.{outcome_by_ignore_kind, outcome_of_unindexed_path, skips_repository_test, tests_unindexed_for_repository}
use Rattle.dir_classify.specs.Faults.{evidence_as_read}
use Rattle.dir_classify.specs.Layers.{setting_of_shared, evidence_from_setting_and_sources}
use Rattle.dir_classify.proofs.Upgrades.{judged-as, judged-with}
use Rattle.dir_classify.proofs.repository_cases.classify_unindexed_path.Goals as goal

pub returns-in_ok-class-in-Some-clause-classifies : goal.returns-in_ok-class-in-Some-clause-classifies
returns-in_ok-class-in-Some-clause-classifies g c = record {
  class = λ s told quiet made.
      ap (λ (x : Outcome). record x { origin = c.args.ruling.origin }) (c.in_ok-class-in-Some.ensures.classifies.class s told quiet made)
      ∙ ap (λ (x : Option IgnoredAs). record (outcome_by_ignore_kind (walk_options_of c.args.shared.now.options) (evidence_from_setting_and_sources (setting_of_shared g.M.Matcher c.args.shared.now) made s) c.args.rela_path.now c.args.kind x) { origin = c.args.ruling.origin }) (sym c.in-Some.is);
  swallowed = λ s told made on_disk.
      let ev = evidence_from_setting_and_sources (setting_of_shared g.M.Matcher c.args.shared.now) made s in
      judged-as _ _ (λ _ read. record (outcome_by_ignore_kind (walk_options_of c.args.shared.now.options) read c.args.rela_path.now c.args.kind (Some c.in-Some.excluded)) { origin = c.args.ruling.origin })
      (λ _ read. outcome_of_unindexed_path (walk_options_of c.args.shared.now.options) read c.args.rela_path.now c.args.kind c.args.ruling) ev on_disk _
      (λ k failed. ap (λ (x : Option IgnoredAs). record (outcome_by_ignore_kind (walk_options_of c.args.shared.now.options) (evidence_as_read failed ev) c.args.rela_path.now c.args.kind x) { origin = c.args.ruling.origin }) (sym c.in-Some.is))
      (judged-with _ _ (λ (x : Outcome). record x { origin = c.args.ruling.origin }) (λ _ read. outcome_by_ignore_kind (walk_options_of c.args.shared.now.options) read c.args.rela_path.now c.args.kind (Some c.in-Some.excluded))
      ev on_disk c.in_ok-class-in-Some.class (c.in_ok-class-in-Some.ensures.classifies.swallowed s told made on_disk));
  keeps = c.in_ok-class-in-Some.ensures.classifies.keeps;
  reads_most = c.in_ok-class-in-Some.ensures.classifies.reads_most;
  unasked = λ idle.
      let o = walk_options_of c.args.shared.now.options in
      c.in_ok-class-in-Some.ensures.classifies.unasked (ap (λ (x : Option IgnoredAs). skips_repository_test o (tests_unindexed_for_repository o c.args.kind x)) (sym c.in-Some.is) ∙ idle);
  sought = λ no. c.in_ok-class-in-Some.ensures.classifies.sought no;
}

pub returns-in_ok-class-in-None-clause-classifies : goal.returns-in_ok-class-in-None-clause-classifies
returns-in_ok-class-in-None-clause-classifies g c = record {
  class = λ s told quiet made.
      ap (λ (x : Outcome). record x { origin = c.args.ruling.origin }) (c.in_ok-class-in-None.ensures.classifies.class s told quiet made)
      ∙ ap (λ (x : Option IgnoredAs). record (outcome_by_ignore_kind (walk_options_of c.args.shared.now.options) (evidence_from_setting_and_sources (setting_of_shared g.M.Matcher c.args.shared.now) made s) c.args.rela_path.now c.args.kind x) { origin = c.args.ruling.origin }) (sym c.in-None.is);
  swallowed = λ s told made on_disk.
      let ev = evidence_from_setting_and_sources (setting_of_shared g.M.Matcher c.args.shared.now) made s in
      judged-as _ _ (λ _ read. record (outcome_by_ignore_kind (walk_options_of c.args.shared.now.options) read c.args.rela_path.now c.args.kind None) { origin = c.args.ruling.origin })
      (λ _ read. outcome_of_unindexed_path (walk_options_of c.args.shared.now.options) read c.args.rela_path.now c.args.kind c.args.ruling) ev on_disk _
      (λ k failed. ap (λ (x : Option IgnoredAs). record (outcome_by_ignore_kind (walk_options_of c.args.shared.now.options) (evidence_as_read failed ev) c.args.rela_path.now c.args.kind x) { origin = c.args.ruling.origin }) (sym c.in-None.is))
      (judged-with _ _ (λ (x : Outcome). record x { origin = c.args.ruling.origin }) (λ _ read. outcome_by_ignore_kind (walk_options_of c.args.shared.now.options) read c.args.rela_path.now c.args.kind None)
      ev on_disk c.in_ok-class-in-None.class (c.in_ok-class-in-None.ensures.classifies.swallowed s told made on_disk));
  keeps = c.in_ok-class-in-None.ensures.classifies.keeps;
  reads_most = c.in_ok-class-in-None.ensures.classifies.reads_most;
  unasked = λ idle.
      let o = walk_options_of c.args.shared.now.options in
      c.in_ok-class-in-None.ensures.classifies.unasked (ap (λ (x : Option IgnoredAs). skips_repository_test o (tests_unindexed_for_repository o c.args.kind x)) (sym c.in-None.is) ∙ idle);
  sought = λ no. c.in_ok-class-in-None.ensures.classifies.sought no;
}
