use Rattle.std.proofs.Common.{arith}
use Rattle.hex.proofs.Pairs.{decode_start}
use Rattle.trace_text.proofs.Lowering.{decipher_more, deciphered}
use Rattle.trace_text.proofs.frames.decode.Goals as goal

pub octets-init : goal.octets-init
octets-init c = record {
  read = λ low. decode_start c.args.text.now c.args.octets.now;
  spoilt =
      λ high. absurd (omega arith);
}

pub octets-preserved : goal.octets-preserved
octets-preserved c =
    decipher_more c.args.text.now c.octets.octets c.octets.i c.octets.greatest c.digit_value-high.result c.digit_value-low.result c.greatest_of-greatest.result
    (omega (arith, c.requires)) (omega arith) c.digit_value-high.ensures c.digit_value-low.ensures c.greatest_of-greatest.ensures.low
    c.greatest_of-greatest.ensures.high c.octets.invariant

pub returns : goal.returns
returns c =
    deciphered c.args.text.now c.octets.octets c.octets.i c.octets.greatest (omega (arith, c.requires)) (omega arith) c.octets.invariant.read
    c.octets.invariant.spoilt
