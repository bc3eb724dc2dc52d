use Rattle.std.proofs.{Common.{◌≡◌, Some, length, refl}, lemmas.Option.slice_get_read}
use Rattle.audit_law.proofs.events_lemmas.Histories.{looked_up}
use Rattle.std.specs.Prelude.{slice_get}
use Rattle.audit_law.proofs.events.history.EventHistory.is_cut.Goals as goal

pub returns-in-Some : goal.returns-in-Some
returns-in-Some c = λ network all h has.
    let history = c.args.self.now in
    let told = c.in-Some.told.now in
    let place = c.way_place.result in
    let found = c.in-Some.ensures.lookup in
    let at : slice_get history.ways.items place ≡ Some told =
    rw c.deref.ensures.value at (slice_get_read c.deref.result.now (length c.deref.result.now) place told refl
    found.3.0 found.1) in
    let tells = h.ways c.args.link c.args.way told (rw c.way_place.ensures at at) in
    looked_up c.args.time c.at.result h tells.cut c.at.ensures
