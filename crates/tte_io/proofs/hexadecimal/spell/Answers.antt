use Rattle.{hex.{proofs.Pairs.{encode_done, encode_step}, specs.Hex.lower_digits}, std.proofs.{Common.{◌∙◌, ap, arith, slice_index}, lemmas.Nat.and_mask}}
use Rattle.tte_io.proofs.hexadecimal.spell.Goals as goal

pub octets-preserved : goal.octets-preserved
octets-preserved c =
    let octet = slice_index c.args.octets.now c.octets.i in
    encode_step lower_digits c.args.octets.now c.octets.text c.octets.i _ _ (omega arith) (omega arith) c.digit_of-high.ensures
    (c.digit_of-low.ensures ∙ ap (slice_index lower_digits) (and_mask octet 4)) c.octets.invariant

pub returns : goal.returns
returns c = encode_done lower_digits _ _ c.octets.i (omega arith) (omega arith) c.octets.invariant
