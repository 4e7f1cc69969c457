use Rattle.std.proofs.Common.{◌∙◌, ap, sym, arith, rules}
use Rattle.dir_classify.specs.Chosen.{walk_options_of}
use Rattle.dir_classify.specs.Class.{may_have_tested_for_repository}
use Rattle.dir_classify.specs.declared.classify.Outcome.{Outcome}
use Rattle.dir_classify.specs.Layers.{setting_of_shared}
use Rattle.dir_classify.proofs.ByParts.{directory-class, directory-judged, directory-still}
use Rattle.dir_classify.proofs.Sought.{sought-directory}
use Rattle.dir_classify.proofs.Most.{most-untracked}
use Rattle.dir_classify.proofs.repository_cases.classify_untracked_directory.Goals as goal

pub returns-clause-classifies : goal.returns-clause-classifies
returns-clause-classifies g c = record {
  class = λ s told quiet made.
      c.outcome_of_unignored_path.ensures
      ∙ directory-class (setting_of_shared g.M.Matcher c.args.shared.now) made s c.args.rela_path.now c.args.full.now c.requires.full c.args.entry c.requires.entry c.args.kind
      c.pathspec_match_of_path-found.result (c.pathspec_match_of_path-found.ensures made s) c.in_ok-disk_kind.disk_kind (rw c.finds_bare_in_untracked_directories-hard.ensures at (c.in_ok-disk_kind.ensures.kind s.tree told quiet));
  swallowed = λ s told made on_disk.
      rw c.outcome_of_unignored_path.ensures
      (directory-judged (setting_of_shared g.M.Matcher c.args.shared.now) made s c.args.rela_path.now c.args.full.now c.requires.full c.args.entry c.requires.entry c.args.kind
      c.pathspec_match_of_path-found.result (c.pathspec_match_of_path-found.ensures made s) _ _ on_disk c.in_ok-disk_kind.disk_kind (rw c.finds_bare_in_untracked_directories-hard.ensures at (c.in_ok-disk_kind.ensures.swallowed s.tree told)));
  keeps = c.in_ok-disk_kind.ensures.keeps;
  reads_most = omega (arith, rw c.finds_bare_in_untracked_directories-hard.ensures at c.in_ok-disk_kind.ensures.reads_most, most-untracked (walk_options_of c.args.shared.now.options));
  unasked = c.in_ok-disk_kind.ensures.unasked;
  sought = λ no.
      let o = walk_options_of c.args.shared.now.options in
      c.in_ok-disk_kind.ensures.unasked
      (sought-directory o c.args.entry c.args.kind c.in_ok-disk_kind.disk_kind c.pathspec_match_of_path-found.result c.requires.directory c.in_ok-disk_kind.ensures.either
      (ap (λ (x : Outcome). may_have_tested_for_repository o x) (sym c.outcome_of_unignored_path.ensures) ∙ no));
}

pub returns-clause-certain : goal.returns-clause-certain
returns-clause-certain g c = λ idle made s.
    c.outcome_of_unignored_path.ensures
    ∙ directory-still (setting_of_shared g.M.Matcher c.args.shared.now) made s c.args.rela_path.now c.args.full.now c.requires.full c.args.entry c.requires.entry c.args.kind
    c.pathspec_match_of_path-found.result (c.pathspec_match_of_path-found.ensures made s) c.in_ok-disk_kind.disk_kind (c.in_ok-disk_kind.ensures.certain idle) idle

pub returns-in_err-disk_kind-clause-classifies : goal.returns-in_err-disk_kind-clause-classifies
returns-in_err-disk_kind-clause-classifies g c = record {
  class = search rules;
  swallowed = search rules;
  keeps = c.in_err-disk_kind.ensures.keeps;
  reads_most = omega (arith, rw c.finds_bare_in_untracked_directories-hard.ensures at c.in_err-disk_kind.ensures.reads_most, most-untracked (walk_options_of c.args.shared.now.options));
  unasked = c.in_err-disk_kind.ensures.unasked;
  sought = search rules;
}
