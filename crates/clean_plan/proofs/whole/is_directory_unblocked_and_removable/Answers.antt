use Rattle.std.proofs.Common.{◌∙◌, sym}
use Rattle.clean_plan.proofs.Reached.{front-slash}
use Rattle.clean_plan.proofs.whole.is_directory_unblocked_and_removable.Goals as goal

pub is_nonroot_path_protected_from_clean-requires-clause-prefix : goal.is_nonroot_path_protected_from_clean-requires-clause-prefix
is_nonroot_path_protected_from_clean-requires-clause-prefix c = front-slash c.args.path.now c.args.at c.requires.front c.requires.above (sym c.is_empty_or_root_path.ensures ∙ c.if-is_empty_or_root_path.false)
