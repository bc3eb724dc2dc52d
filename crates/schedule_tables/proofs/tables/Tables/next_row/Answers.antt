use Rattle.schedule_tables.{specs.TablesOf.AreTimedRows}
use Rattle.schedule_tables.proofs.SlotLemmas.{IsBoundOf, has_no_next_row, is_next_row, is_no_next_row, no_row, some_row}
use Rattle.schedule_tables.proofs.tables.Tables.next_row.Goals.{else-eq-via-else-eq, else-eq-via-then-eq+else-next-bound, in-None, in-Some+in_ok-get-in-Some}
use Rattle.{schedule_tables.specs.Slots.AreSlotsOf, std.proofs.{Common.{arith, length, refl, sym}, lemmas.Bool.{eqb-false, eqb-true}}}
use Rattle.schedule_tables.proofs.tables.Tables.next_row.Goals as goal

pub returns-then-next-bound-clause-next : goal.returns-then-next-bound-clause-next
returns-then-next-bound-clause-next c n tables =
    let after = c.args.after in
    let place = c.match-after.place in
    let of : IsBoundOf n after place = elim c.match-after.branch [
      | in-Some+in_ok-get-in-Some w ↦
          let timed = w.in_ok-get-in-Some.field-0.now in
          let found = w.in_ok-get-in-Some.ensures.lookup in
          let rows : AreTimedRows n (length n.row) w.deref.result.now = rw w.deref.ensures.value tables.rows in
          some_row after place w.in-Some.row timed rows w.in-Some.is w.place-is found.3.0 found.1
      | in-None w ↦ no_row n after place w.in-None.is (rw w.place-is refl)
    ] in
    let slots : AreSlotsOf n c.deref-2.result.now = rw c.deref-2.ensures.value tables.slots in
    is_next_row n c.args.device c.args.cycle after place (omega arith) slots tables.periods of
    (eqb-true _ _ (sym c.if-eq.ensures)) c.if-next-bound.true (c.in_ok-next.ensures.first slots.order)

pub returns-in_err-next-clause-none : goal.returns-in_err-next-clause-none
returns-in_err-next-clause-none c n tables =
    let after = c.args.after in
    let place = c.match-after.place in
    let of : IsBoundOf n after place = elim c.match-after.branch [
      | in-Some+in_ok-get-in-Some w ↦
          let timed = w.in_ok-get-in-Some.field-0.now in
          let found = w.in_ok-get-in-Some.ensures.lookup in
          let rows : AreTimedRows n (length n.row) w.deref.result.now = rw w.deref.ensures.value tables.rows in
          some_row after place w.in-Some.row timed rows w.in-Some.is w.place-is found.3.0 found.1
      | in-None w ↦ no_row n after place w.in-None.is (rw w.place-is refl)
    ] in
    let slots : AreSlotsOf n c.deref-2.result.now = rw c.deref-2.ensures.value tables.slots in
    rw c.from_residual-in_err-next.ensures (has_no_next_row n c.args.device c.args.cycle after place slots
    tables.periods of
    (c.in_err-next.ensures.none slots.order))

pub returns-else-eq-clause-none : goal.returns-else-eq-clause-none
returns-else-eq-clause-none c n tables =
    let after = c.args.after in
    let place = c.match-after.place in
    let of : IsBoundOf n after place = elim c.match-after.branch [
      | in-Some+in_ok-get-in-Some w ↦
          let timed = w.in_ok-get-in-Some.field-0.now in
          let found = w.in_ok-get-in-Some.ensures.lookup in
          let rows : AreTimedRows n (length n.row) w.deref.result.now = rw w.deref.ensures.value tables.rows in
          some_row after place w.in-Some.row timed rows w.in-Some.is w.place-is found.3.0 found.1
      | in-None w ↦ no_row n after place w.in-None.is (rw w.place-is refl)
    ] in
    let slots : AreSlotsOf n c.deref-2.result.now = rw c.deref-2.ensures.value tables.slots in
    is_no_next_row c.args.device c.args.cycle after place slots tables.periods of
    (λ same_device same_residue.
    elim c.else-eq.branch [
      | else-eq-via-then-eq+else-next-bound w ↦ w.if-next-bound.false same_residue
      | else-eq-via-else-eq w ↦ eqb-false _ _ (sym w.if-eq.ensures) same_device
    ])
    (c.in_ok-next.ensures.first slots.order)
