use Rattle.submodule.proofs.Ports.{whole}
use Rattle.submodule.proofs.port.parse_port_number.Goals as goal

pub loop-rest-init : goal.loop-rest-init
loop-rest-init c = whole c.args.text.now
