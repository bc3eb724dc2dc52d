use Rattle.{byteorder.specs.Numbers.big_from-lt, std.proofs.{Common.{◌+◌, ◌<◌, arith, drop, get_or, ℕ}, lemmas.List.get_or-drop}}
use Rattle.pcf_codec.proofs.fields.read_mac.Goals as goal

pub from_number-requires : goal.from_number-requires
from_number-requires c =
    let octets = c.args.octets.now in
    let fits : (i : ℕ) → get_or (drop c.args.at octets) i 0 < 256 = λ i. rw get_or-drop (omega (arith, c.type_inv.octets (c.args.at + i))) in
    rw (c.read_u48.ensures, c.from.ensures) (big_from-lt 0 6 (drop c.args.at octets) fits)
