use Rattle.std.proofs.{Common.{◌+◌, ◌≡◌, arith, sym, take}, lemmas.Grind.common_steps}
use Rattle.pcf_codec.{proofs.Sequences.feeds, specs.Reading.{fed, holding, refused, waiting}}
use Rattle.pcf_codec.proofs.reader.PcfReader.feed.Goals as goal

pub returns-then-held-count-lt-PCF_LENGTH-clause-stands : goal.returns-then-held-count-lt-PCF_LENGTH-clause-stands
returns-then-held-count-lt-PCF_LENGTH-clause-stands c =
    let step : holding (take (c.in-Filling.held + c.fill-count.result) c.fill-count.new.octets) ≡ fed c.args.self.now c.args.piece.now = grind
    (arith, common_steps) in
    λ stream given r. rw (sym step) at (feeds c.args.self.now c.args.piece.now stream given r)

pub returns-in-Ok-clause-stands : goal.returns-in-Ok-clause-stands
returns-in-Ok-clause-stands c =
    let step : waiting c.in-Ok.frame ≡ fed c.args.self.now c.args.piece.now = grind (arith, common_steps) in
    λ stream given r. rw (sym step) at (feeds c.args.self.now c.args.piece.now stream given r)

pub returns-in-Err-clause-stands : goal.returns-in-Err-clause-stands
returns-in-Err-clause-stands c =
    let step : refused c.in-Err.refusal ≡ fed c.args.self.now c.args.piece.now = grind (arith, common_steps) in
    λ stream given r. rw (sym step) at (feeds c.args.self.now c.args.piece.now stream given r)
