use Rattle.lens_overview.proofs.telling.told_by.Goals as goal

pub take_records-requires-clause-report : goal.take_records-requires-clause-report
take_records-requires-clause-report c = c.requires.read.some

pub take_records-requires-clause-none : goal.take_records-requires-clause-none
take_records-requires-clause-none c notes end r = record { index = c.requires.read.index notes end r; news = c.in-Ok.ensures.items }

pub returns : goal.returns
returns c notes end r = (c.in_ok-take_records.ensures notes end r).news
