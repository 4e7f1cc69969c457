use Rattle.std.proofs.Common.{◌≡◌, []}
use Rattle.git_config_files.specs.Stack as words
use Rattle.git_config_files.proofs.appearance.files_in_order_of_appearance.Given as goal

abbrev pub invariant-loop-key : goal.invariant-loop-key
invariant-loop-key l = words.files_in_order_of_appearance l.met l.key-iterator ≡ words.files_in_order_of_appearance [] l.file.sections
