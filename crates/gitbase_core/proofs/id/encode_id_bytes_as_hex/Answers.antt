use Rattle.std.proofs.Common.{sym, arith, ◌≡◌}
use Rattle.hex.specs.Hex.{encode_lower}
use Rattle.gitbase_core.proofs.IdText.{id_of_hex-encode_lower}
use Rattle.gitbase_core.proofs.id.encode_id_bytes_as_hex.Goals as goal

pub returns-clause-read_back : goal.returns-clause-read_back
returns-clause-read_back c =
    let written : c.encode_to_slice.new.output ≡ encode_lower c.as_slice.result.now = rw c.unwrap.ensures at c.encode_to_slice.ensures.written in
    rw (written, c.as_slice.ensures) (sym (id_of_hex-encode_lower c.args.bytes.now c.told-bytes (λ k. let fits = c.fits-bytes k in omega arith)))
