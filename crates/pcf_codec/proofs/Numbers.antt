-- Numbers of octets.
use Rattle.{byteorder.specs.Endian.{big_bytes, big_number}, pcf_codec.specs.Fields.field, std.proofs.Math.Seq.drop-append_seam}
use Rattle.{byteorder.specs.Numbers.big_number-reads_back, std.proofs.Common.{◌++◌, ◌<◌, ◌^◌, ◌∙◌, ◌≡◌, List, ap, length, sym, ℕ}}

-- a number that was written behind some octets is read there
pub read_behind : (front rest : List ℕ) (at size x : ℕ) → length front ≡ at → x < 256 ^ size → field at size (front ++ (big_bytes size x ++ rest)) ≡ x
read_behind front rest at size x is less =
    rw (sym is)
    (ap (big_number size) (drop-append_seam front (big_bytes size x ++ rest))
    ∙ big_number-reads_back size x rest less)
