use Rattle.audit_devices.proofs.Kept.{in_index}
use Rattle.audit_law.proofs.law_lemmas.Owed.{IsOfFirst, first_of_more, first_of_next, first_of_none}
use Rattle.audit_law.{specs.law.FirstDebts.TellsFirst}
use Rattle.audit_sweep.proofs.{records_lemmas.dispatches_lemmas.Dispatches.no_row}
use Rattle.audit_sweep.proofs.{unpaid_lemmas.dispatches_lemmas.RowDebts.{IsByRow, all_rows}}
use Rattle.audit_sweep.specs.unpaid.dispatches.{Debtors.scenario_of, Frames.IsBy}
use Rattle.std.proofs.Common.{◌+◌, Option, slice_index_or, subst, sym, ℕ}
use Rattle.audit_sweep.proofs.unpaid.dispatches.debtor.RowDebtor.first_on.Goals as goal

pub rows-init : goal.rows-init
rows-init c befallen hs known =
    let s = scenario_of c.args.self.now befallen in
    first_of_none s hs c.args.self.now.until (IsByRow s hs c.args.link c.on-rows.result.now)

pub first_by-requires-clause-row : goal.first_by-requires-clause-row
first_by-requires-clause-row c =
    let are = c.on-rows.ensures c.args.self.now.network.now c.requires.fit.exits in
    are.sound _ (in_index c.on-rows.result.now c.rows.row-index no_row c.rows-test.true)

pub rows-preserved : goal.rows-preserved
rows-preserved c befallen hs known =
    let s = scenario_of c.args.self.now befallen in
    let until = c.args.self.now.until in
    let link = c.args.link in
    let rows = c.on-rows.result.now in
    let n = c.rows.row-index in
    let one = c.first_by.result in
    subst (λ (r : Option ℕ). TellsFirst s hs until (IsOfFirst (IsByRow s hs link rows) (n + 1)) r)
    (sym c.earlier_of-first.ensures)
    (first_of_next s hs until (IsByRow s hs link rows) n c.rows.first one (c.rows.invariant befallen hs known)
    (first_of_more s hs until (IsBy s hs link (slice_index_or rows n no_row)) (IsByRow s hs link rows n) one
    (λ o is. (c.rows-test.true, is)) (λ o is owed. is.1) (c.first_by.ensures befallen hs known)))

pub returns : goal.returns
returns c befallen hs known =
    all_rows (scenario_of c.args.self.now befallen) hs c.args.self.now.until c.rows.row-index c.args.link c.on-rows.result.now c.rows.first
    (c.on-rows.ensures c.args.self.now.network.now c.requires.fit.exits) c.rows-test.false (c.rows.invariant befallen hs known)
