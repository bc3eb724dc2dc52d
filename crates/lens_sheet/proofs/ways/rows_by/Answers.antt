use Rattle.std.proofs.{Common.refl, lemmas.Bool.false≢true}
use Rattle.lens_sheet.proofs.Loaded.{comes_by, comes_not}
use Rattle.lens_sheet.proofs.ways.rows_by.Goals as goal

pub returns-then-is_last : goal.returns-then-is_last
returns-then-is_last c =
    let last = c.if-is_last.ensures.0 refl in
    let lead = c.rows_to.ensures in
    comes_by c.args.network.now c.requires.rules c.args.vl c.args.row.0 c.entry_of-entry.result lead.0 c.rows_to.result c.entry_of-entry.ensures.is last.0 last.1
    lead.1 lead.2

pub returns-else-is_last : goal.returns-else-is_last
returns-else-is_last c =
    comes_not c.args.vl c.entry_of-entry.ensures.is (λ own end. false≢true (c.if-is_last.ensures.1 (own, end)))
