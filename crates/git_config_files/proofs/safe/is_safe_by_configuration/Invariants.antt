use Rattle.std.proofs.Common.{◌≡◌}
use Rattle.git_config_files.specs.Safe.{is_safe_after_values, is_safe_by_configuration}
use Rattle.git_config_files.proofs.safe.is_safe_by_configuration.Given as goal

abbrev pub invariant-loop-text : goal.invariant-loop-text
invariant-loop-text l = is_safe_after_values l.home l.path l.safe l.text-iterator ≡ is_safe_by_configuration l.home l.path l.config.sections
