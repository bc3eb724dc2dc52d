use Rattle.std.proofs.Common.{arith}
use Rattle.pcf_codec.{proofs.Spellings.{Fits, padding, spells, spelt_read, writes}, specs.Encoded.encoded}
use Rattle.pcf_codec.proofs.pcf.encode.Goals as goal

pub returns : goal.returns
returns c =
    let p = c.args.frame.now in
    let wrote = writes p c.number.result c.number-2.result c.kind_code.result
    c.write_u48.new.buf c.write_u48-2.new.buf c.write_u16.new.buf c.write_u32.new.buf c.write_u32-2.new.buf c.write_u64.new.buf
    c.number.ensures.value c.number-2.ensures.value c.kind_code.ensures
    c.write_u48.ensures c.write_u48-2.ensures c.write_u16.ensures c.write_u32.ensures c.write_u32-2.ensures c.write_u64.ensures in
    let fits : Fits p = record {
      destination = omega (arith, c.number.ensures.value, c.number.ensures.bound);
      source = omega (arith, c.number-2.ensures.value, c.number-2.ensures.bound);
      cycle = omega arith;
      members = omega arith;
      clock = omega arith;
    } in
    record {
      exact = wrote;
      spelling = rw wrote (spells p fits);
      padding = rw wrote (padding p);
      round_trip = rw wrote (spelt_read (encoded p) p (spells p fits));
    }
