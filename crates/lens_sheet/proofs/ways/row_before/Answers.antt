use Rattle.lens_sheet.{proofs.Loaded.{before_of, none_before}, specs.Going.Enters}
use Rattle.lens_latency.specs.Trips.{IsFirstOf}
use Rattle.std.proofs.{Common.subst, lemmas.Bool.false≢true}
use Rattle.lens_sheet.proofs.ways.row_before.Goals as goal

pub returns-clause-before : goal.returns-clause-before
returns-clause-before c =
    before_of c.args.network.now c.requires.rules c.requires.row.0 c.args.entry.now c.row_into.result c.requires.row.1
    (λ e. false≢true (c.if-leaves_sender.ensures.1 e))
    (subst (λ d. IsFirstOf c.args.network.now (Enters c.args.entry.now.row.vl d) c.row_into.result) c.source.ensures c.row_into.ensures.first)

pub returns-clause-none : goal.returns-clause-none
returns-clause-none c =
    none_before c.args.network.now c.requires.rules c.requires.row.0 c.args.entry.now c.row_into.result c.requires.row.1
    (λ e. false≢true (c.if-leaves_sender.ensures.1 e))
    (subst (λ d. IsFirstOf c.args.network.now (Enters c.args.entry.now.row.vl d) c.row_into.result) c.source.ensures c.row_into.ensures.first)
