use Rattle.std.proofs.Common.{◌∙◌, sym}
use Rattle.clean_plan.proofs.Reached.{front-slash}
use Rattle.clean_plan.proofs.closed.has_spec_excluded_ancestor_of_length.Goals as goal

pub specs_exclude_with_or_without_slash-requires-clause-name : goal.specs_exclude_with_or_without_slash-requires-clause-name
specs_exclude_with_or_without_slash-requires-clause-name c =
    front-slash c.args.path.now c.args.at c.requires (sym c.has_ancestor_of_length.ensures ∙ c.if-not-has_ancestor_of_length.false) (sym c.is_empty_or_root_path.ensures ∙ c.if-is_empty_or_root_path.false)
