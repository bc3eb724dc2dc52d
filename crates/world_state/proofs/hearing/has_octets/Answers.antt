use Rattle.pcf_codec.{proofs.Spellings.{Fits, spells, spelt_read}, specs.Encoded.encoded}
use Rattle.world_state.proofs.WorldSteps.{control_octets}
use Rattle.world_state.proofs.hearing.has_octets.Goals as goal

pub returns : goal.returns
returns c =
    let p = c.args.frame.now in
    let fits : Fits p = record {
      destination = c.is_address.ensures;
      source = c.is_address-2.ensures;
      cycle = c.is_short.ensures;
      members = c.is_short-2.ensures;
      clock = c.is_long.ensures;
    } in
    control_octets (spells p fits) (spelt_read (encoded p) p (spells p fits))
