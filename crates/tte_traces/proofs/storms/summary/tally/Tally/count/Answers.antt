use Rattle.tte_traces.proofs.storms.summary.tally.Tally.count.Goals as goal

pub returns : goal.returns
returns c notes so_far = c.add.ensures notes c.args.note.now c.counted_as.ensures so_far
