use Rattle.end_system.proofs.Words.{◌∙◌, ◌≡◌, AreInOrder, List, Slot, Some, amount_most, ap, arith, length, refl, slice_get, slice_get_read, subst, sym}
use Rattle.schedule_tables.specs.Slots.{AreBelow, IsFirstSlot}
use Rattle.end_system.proofs.{Ripe.at_least}
use Rattle.end_system.proofs.{RowSearch.{few_cycles, first_here, first_later, is_of, next_block, slot_at, slot_offset}}
use Rattle.end_system.proofs.rows.OwnRows.first_from.Goals as goal

pub overflow_add-first : goal.overflow_add-first
overflow_add-first c =
    let h = few_cycles c.args.first _ c.requires.first (at_least c.requires.range.cycle) in omega (arith, h)

pub dispatch_of-requires-in-None-clause-first : goal.dispatch_of-requires-in-None-clause-first
dispatch_of-requires-in-None-clause-first c =
    next_block c.args.first _ c.requires.first (amount_most c.requires.range.cycle)

pub dispatch_of-requires-clause-offset : goal.dispatch_of-requires-clause-offset
dispatch_of-requires-clause-offset c =
    let are = c.requires.rows.3 in
    let order : AreInOrder c.deref.result.now = rw c.deref.ensures.value are.slots.order in
    let found : IsFirstSlot c.args.self.now.slots.items c.args.bound c.in-Some.slot = rw (← c.deref.ensures.value) (c.in-Some.ensures.first order) in
    slot_offset c.requires.rows.1 c.requires.rows.2 (is_of c.in-Some.slot are found.there)

pub dispatch_of-requires-in-None-clause-offset : goal.dispatch_of-requires-in-None-clause-offset
dispatch_of-requires-in-None-clause-offset c =
    let slot = c.in_ok-slot-in-None.slot.now in
    let found = c.in_ok-slot-in-None.ensures.lookup in
    let at : slice_get c.args.self.now.slots.items 0 ≡ Some slot = subst (λ (xs : List Slot). slice_get xs 0 ≡ Some slot) c.deref-in-None.ensures.value
    (slice_get_read c.deref-in-None.result.now (length c.deref-in-None.result.now) 0 slot refl found.3.0 found.1) in
    slot_offset c.requires.rows.1 c.requires.rows.2 (slot_at 0 slot c.requires.rows.3 at)

pub returns-in-Some : goal.returns-in-Some
returns-in-Some c =
    let rows = c.args.self.now in
    let next = c.dispatch_of.result in
    let are = c.requires.rows.3 in
    let order : AreInOrder c.deref.result.now = rw c.deref.ensures.value are.slots.order in
    let slot : IsFirstSlot rows.slots.items c.args.bound c.in-Some.slot = rw (← c.deref.ensures.value) (c.in-Some.ensures.first order) in
    let found : IsFirstSlot rows.slots.items c.args.bound next.slot = rw c.dispatch_of.ensures.slot slot in
    first_here c.args.own.now c.args.adjustment.0 c.args.first c.args.bound next are c.requires.same found
    c.requires.whole (is_of next.slot are found.there).residue c.dispatch_of.ensures.cycle c.dispatch_of.ensures.at

pub returns-in_ok-slot-in-None : goal.returns-in_ok-slot-in-None
returns-in_ok-slot-in-None c =
    let rows = c.args.self.now in
    let next = c.dispatch_of-in-None.result in
    let are = c.requires.rows.3 in
    let order : AreInOrder c.deref.result.now = rw c.deref.ensures.value are.slots.order in
    let none : AreBelow rows.slots.items c.args.bound = rw (← c.deref.ensures.value) (c.in-None.ensures.none order) in
    let slot = c.in_ok-slot-in-None.slot.now in
    let found = c.in_ok-slot-in-None.ensures.lookup in
    let at : slice_get rows.slots.items 0 ≡ Some slot = subst (λ (xs : List Slot). slice_get xs 0 ≡ Some slot) c.deref-in-None.ensures.value
    (slice_get_read c.deref-in-None.result.now (length c.deref-in-None.result.now) 0 slot refl found.3.0 found.1) in
    let there : slice_get rows.slots.items 0 ≡ Some next.slot = at ∙ ap (λ (s : Slot). Some s) (sym c.dispatch_of-in-None.ensures.slot) in
    first_later c.args.own.now c.args.adjustment.0 c.args.first c.args.bound next are c.requires.same none
    c.requires.whole there (slot_at 0 next.slot are there).residue c.dispatch_of-in-None.ensures.cycle
    c.dispatch_of-in-None.ensures.at
