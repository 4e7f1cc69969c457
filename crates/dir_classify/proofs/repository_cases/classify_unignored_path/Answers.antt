use Rattle.std.proofs.Common.{◌∙◌, ap, sym, None, refl, arith, rules}
use Rattle.dir_classify.specs.Chosen.{walk_options_of}
use Rattle.dir_classify.specs.Class.{outcome_by_ignore_kind, outcome_of_untracked_directory, outcome_of_unignored_path, skips_repository_test}
use Rattle.dir_classify.specs.Faults.{evidence_as_read}
use Rattle.dir_classify.specs.Layers.{setting_of_shared, evidence_from_setting_and_sources}
use Rattle.dir_classify.proofs.ByParts.{other-class, other-judged, directory-by-rules}
use Rattle.dir_classify.proofs.Upgrades.{judged-as}
use Rattle.dir_classify.proofs.repository_cases.classify_unignored_path.Goals as goal

pub returns-then-is_some_directory_kind-clause-classifies : goal.returns-then-is_some_directory_kind-clause-classifies
returns-then-is_some_directory_kind-clause-classifies g c = record {
  class = λ s told quiet made.
      c.in_ok-class.ensures.classifies.class s told quiet made
      ∙ directory-by-rules (walk_options_of c.args.shared.now.options) (evidence_from_setting_and_sources (setting_of_shared g.M.Matcher c.args.shared.now) made s) c.args.rela_path.now c.args.kind (sym c.is_some_directory_kind.ensures ∙ c.if-is_some_directory_kind.true);
  swallowed = λ s told made on_disk.
      judged-as _ _ (λ _ ev. outcome_of_untracked_directory (walk_options_of c.args.shared.now.options) ev c.args.rela_path.now c.args.kind) (λ _ ev. outcome_by_ignore_kind (walk_options_of c.args.shared.now.options) ev c.args.rela_path.now c.args.kind None)
      (evidence_from_setting_and_sources (setting_of_shared g.M.Matcher c.args.shared.now) made s) on_disk c.in_ok-class.class
      (λ k failed. directory-by-rules (walk_options_of c.args.shared.now.options) (evidence_as_read failed (evidence_from_setting_and_sources (setting_of_shared g.M.Matcher c.args.shared.now) made s)) c.args.rela_path.now c.args.kind (sym c.is_some_directory_kind.ensures ∙ c.if-is_some_directory_kind.true))
      (c.in_ok-class.ensures.classifies.swallowed s told made on_disk);
  keeps = c.in_ok-class.ensures.classifies.keeps;
  reads_most = c.in_ok-class.ensures.classifies.reads_most;
  unasked = λ idle. c.in_ok-class.ensures.classifies.unasked (ap (skips_repository_test (walk_options_of c.args.shared.now.options)) (sym (sym c.is_some_directory_kind.ensures ∙ c.if-is_some_directory_kind.true)) ∙ idle);
  sought = c.in_ok-class.ensures.classifies.sought;
}

pub returns-clause-classifies : goal.returns-clause-classifies
returns-clause-classifies g c = record {
  class = λ s told quiet made.
      c.outcome_of_unignored_path.ensures ∙ ap (λ status. outcome_of_unignored_path status c.args.entry c.args.kind c.pathspec_match_of_path-found.result) c.untracked_or_pruned_by_pathspec_match.ensures
      ∙ other-class (setting_of_shared g.M.Matcher c.args.shared.now) made s c.args.rela_path.now c.args.full.now c.requires.full c.args.entry c.requires.entry c.args.kind
      c.pathspec_match_of_path-found.result (c.pathspec_match_of_path-found.ensures made s) (sym c.is_some_directory_kind.ensures ∙ c.if-is_some_directory_kind.false);
  swallowed = λ s told made on_disk.
      rw (c.outcome_of_unignored_path.ensures, c.untracked_or_pruned_by_pathspec_match.ensures)
      (other-judged (setting_of_shared g.M.Matcher c.args.shared.now) made s c.args.rela_path.now c.args.full.now c.requires.full c.args.entry c.requires.entry c.args.kind
      c.pathspec_match_of_path-found.result (c.pathspec_match_of_path-found.ensures made s) _ _ (omega arith) (sym c.is_some_directory_kind.ensures ∙ c.if-is_some_directory_kind.false) on_disk);
  keeps = search rules;
  reads_most = omega arith;
  unasked = λ idle. refl;
  sought = λ no. refl;
}

pub returns-then-is_some_directory_kind-clause-certain : goal.returns-then-is_some_directory_kind-clause-certain
returns-then-is_some_directory_kind-clause-certain g c = λ idle made s.
    let is = sym c.is_some_directory_kind.ensures ∙ c.if-is_some_directory_kind.true in
    c.in_ok-class.ensures.certain (ap (skips_repository_test (walk_options_of c.args.shared.now.options)) (sym is) ∙ idle) made s
    ∙ directory-by-rules (walk_options_of c.args.shared.now.options) (evidence_from_setting_and_sources (setting_of_shared g.M.Matcher c.args.shared.now) made s) c.args.rela_path.now c.args.kind is

pub returns-clause-certain : goal.returns-clause-certain
returns-clause-certain g c = λ idle made s.
    c.outcome_of_unignored_path.ensures ∙ ap (λ status. outcome_of_unignored_path status c.args.entry c.args.kind c.pathspec_match_of_path-found.result) c.untracked_or_pruned_by_pathspec_match.ensures
    ∙ other-class (setting_of_shared g.M.Matcher c.args.shared.now) made s c.args.rela_path.now c.args.full.now c.requires.full c.args.entry c.requires.entry c.args.kind
    c.pathspec_match_of_path-found.result (c.pathspec_match_of_path-found.ensures made s) (sym c.is_some_directory_kind.ensures ∙ c.if-is_some_directory_kind.false)
