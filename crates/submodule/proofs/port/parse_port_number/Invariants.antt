use Rattle.std.proofs.Common.{◌≡◌, length}
use Rattle.submodule.specs.Urls.{port_number_if_valid}
use Rattle.submodule.specs.Digits.{parse_port_number_after}
use Rattle.submodule.proofs.port.parse_port_number.Given as goal

abbrev pub invariant-loop-rest : goal.invariant-loop-rest
invariant-loop-rest l = parse_port_number_after l.number l.rest ≡ port_number_if_valid l.text

abbrev pub decreases-loop-rest : goal.decreases-loop-rest
decreases-loop-rest l = length l.rest
