use Rattle.{std.proofs.Common.{◌∙◌, rules}}
use Rattle.run_law.proofs.plain.places.place.Place.of_plain.Goals as goal

pub returns-in-Permanent : goal.returns-in-Permanent
returns-in-Permanent c = rw c.in-Permanent.is (c.of_permanence.ensures c.in-Permanent.verdict)

pub returns-in-Compressed : goal.returns-in-Compressed
returns-in-Compressed c = rw c.in-Compressed.is (c.of_emission.ensures c.args.members c.in-Compressed.members c.in-Compressed.verdict (search rules))

pub returns-in-TtSent : goal.returns-in-TtSent
returns-in-TtSent c =
    rw c.in-TtSent.is (c.of_dispatch.ensures c.args.members
    ∙ (rw c.from-in-TtSent.ensures))
