use Rattle.{std.proofs.Common.{◌∙◌, refl}, tte_traces.proofs.storms_lemmas.summary_lemmas.Counting.added}
use Rattle.tte_traces.proofs.storms.summary.tally.Tally.add.Goals as goal

pub returns-in-Compressed : goal.returns-in-Compressed
returns-in-Compressed c notes note line so_far = added c.self.inside.counts _ c.args.counted note (rw c.in-Compressed.is refl) line notes (c.self.view_is
    ∙ so_far)

pub returns-in-Corrected : goal.returns-in-Corrected
returns-in-Corrected c notes note line so_far = added c.self.inside.counts _ c.args.counted note (rw c.in-Corrected.is refl) line notes (c.self.view_is
    ∙ so_far)

pub returns-in-Lost : goal.returns-in-Lost
returns-in-Lost c notes note line so_far = added c.self.inside.counts _ c.args.counted note (rw c.in-Lost.is refl) line notes (c.self.view_is ∙ so_far)

pub returns-in-TtSent : goal.returns-in-TtSent
returns-in-TtSent c notes note line so_far = added c.self.inside.counts _ c.args.counted note (rw c.in-TtSent.is refl) line notes (c.self.view_is ∙ so_far)

pub returns-in-Accepted : goal.returns-in-Accepted
returns-in-Accepted c notes note line so_far = added c.self.inside.counts _ c.args.counted note (rw c.in-Accepted.is refl) line notes (c.self.view_is ∙ so_far)

pub returns-in-Delivered : goal.returns-in-Delivered
returns-in-Delivered c notes note line so_far = added c.self.inside.counts _ c.args.counted note (rw c.in-Delivered.is refl) line notes (c.self.view_is
    ∙ so_far)

pub returns-in-Dropped : goal.returns-in-Dropped
returns-in-Dropped c notes note line so_far = added c.self.inside.counts _ c.args.counted note (rw (c.in-Dropped.is, c.count_drop.ensures.more) refl) line notes
    (c.self.view_is ∙ so_far)

pub returns-in-Unlisted : goal.returns-in-Unlisted
returns-in-Unlisted c notes note line so_far = added c.self.inside.counts _ c.args.counted note (rw c.in-Unlisted.is refl) line notes (c.self.view_is ∙ so_far)
