use Rattle.std.proofs.Common.{◌∙◌, ap, sym}
use Rattle.dir_classify.specs.Chosen.{walk_options_of}
use Rattle.dir_classify.specs.Class.{may_have_tested_for_repository}
use Rattle.dir_classify.specs.declared.classify.Outcome.{Outcome}
use Rattle.dir_classify.specs.Layers.{setting_of_shared}
use Rattle.dir_classify.proofs.ByParts.{indexed-class, indexed-judged, indexed-still}
use Rattle.dir_classify.proofs.Sought.{sought-indexed}
use Rattle.dir_classify.proofs.repository_cases.classify_indexed_path.Goals as goal

pub returns-clause-classifies : goal.returns-clause-classifies
returns-clause-classifies g c = record {
  class = λ s told quiet made.
      c.outcome_of_index_entry.ensures
      ∙ indexed-class (setting_of_shared g.M.Matcher c.args.shared.now) made s c.args.rela_path.now c.args.full.now c.requires.full c.args.entry c.requires.entry c.args.kind
      c.pathspec_match_of_path-found.result (c.pathspec_match_of_path-found.ensures made s) c.in_ok-disk_kind.disk_kind (c.in_ok-disk_kind.ensures.kind s.tree told quiet);
  swallowed = λ s told made on_disk.
      rw c.outcome_of_index_entry.ensures
      (indexed-judged (setting_of_shared g.M.Matcher c.args.shared.now) made s c.args.rela_path.now c.args.full.now c.requires.full c.args.entry c.requires.entry c.args.kind
      c.pathspec_match_of_path-found.result (c.pathspec_match_of_path-found.ensures made s) _ _ on_disk c.in_ok-disk_kind.disk_kind (c.in_ok-disk_kind.ensures.swallowed s.tree told));
  keeps = c.in_ok-disk_kind.ensures.keeps;
  reads_most = c.in_ok-disk_kind.ensures.reads_most;
  unasked = c.in_ok-disk_kind.ensures.unasked;
  sought = λ no.
      let o = walk_options_of c.args.shared.now.options in
      c.in_ok-disk_kind.ensures.unasked
      (sought-indexed o c.args.entry c.args.kind c.in_ok-disk_kind.disk_kind c.pathspec_match_of_path-found.result c.in_ok-disk_kind.ensures.either
      (ap (λ (x : Outcome). may_have_tested_for_repository o x) (sym c.outcome_of_index_entry.ensures) ∙ no));
}

pub returns-clause-certain : goal.returns-clause-certain
returns-clause-certain g c = λ idle made s.
    c.outcome_of_index_entry.ensures
    ∙ indexed-still (setting_of_shared g.M.Matcher c.args.shared.now) made s c.args.rela_path.now c.args.full.now c.requires.full c.args.entry c.requires.entry c.args.kind
    c.pathspec_match_of_path-found.result (c.pathspec_match_of_path-found.ensures made s) c.in_ok-disk_kind.disk_kind (c.in_ok-disk_kind.ensures.certain idle) idle
