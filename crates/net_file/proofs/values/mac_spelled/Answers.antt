use Rattle.{byteorder.specs.Numbers.big_from-lt, std.proofs.Common.{◌<◌, arith, get_or, ℕ}}
use Rattle.net_file.proofs.values.mac_spelled.Goals as goal

pub from_number-requires : goal.from_number-requires
from_number-requires c =
    let octets = c.args.octets.now in
    let fits : (i : ℕ) → get_or octets i 0 < 256 = λ i. omega (arith, c.type_inv.octets i) in
    rw c.read_u48.ensures (big_from-lt 0 6 octets fits)
