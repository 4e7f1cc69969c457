use Rattle.std.proofs.Common.{◌≡◌, codes, find}
use Rattle.submodule.specs.Overrides.{value}
use Rattle.submodule.specs.Access.{is_value_this_valid_path, name_by_path}
use Rattle.submodule.proofs.file.File.first_name_with_path.Given as goal

abbrev pub invariant-loop-name : goal.invariant-loop-name
invariant-loop-name l = find (λ name. is_value_this_valid_path l.relative_path (value name (codes "path") l.self.sections)) l.name-iterator ≡ name_by_path l.relative_path l.self.sections
