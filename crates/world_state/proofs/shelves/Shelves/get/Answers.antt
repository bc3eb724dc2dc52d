use Rattle.std.proofs.{Common.{◌∙◌, ◌≡◌, None, Some, ap, length, refl, sym}, lemmas.Option.{slice_get_past, slice_get_read}}
use Rattle.std.specs.{List.slice_get, Option.option_and_then}
use Rattle.world_state.{proofs.Placings.found_there, specs.Shelves.{at_place, frame_at}}
use Rattle.world_state.proofs.shelves.Shelves.get.Goals as goal

pub returns-in-Some-clause-is : goal.returns-in-Some-clause-is
returns-in-Some-clause-is c =
    let spot = c.args.spot in
    let at : slice_get c.self.inside.shelves.items spot.device.0 ≡ Some c.in-Some.shelf.now =
    rw c.deref.ensures.value at (slice_get_read c.deref.result.now (length c.deref.result.now) spot.device.0
    c.in-Some.shelf.now refl c.in-Some.ensures.lookup.3.0
    c.in-Some.ensures.lookup.1) in
    let found = c.find.ensures in
    found ∙ sym (ap (option_and_then (at_place spot.vl.0)) at) ∙ ap (λ w. frame_at w spot) c.self.view_is

pub returns-in-Some-clause-held : goal.returns-in-Some-clause-held
returns-in-Some-clause-held c =
    rw (sym c.self.view_is) (found_there c.self.inside.shelves.items c.args.spot c.self.invariant)

pub returns-in-None-clause-is : goal.returns-in-None-clause-is
returns-in-None-clause-is c =
    let spot = c.args.spot in
    let at : slice_get c.self.inside.shelves.items spot.device.0 ≡ None =
    rw c.deref.ensures.value at (slice_get_past c.deref.result.now spot.device.0 c.in-None.ensures.lookup.3) in
    rw (sym c.self.view_is) (sym (ap (option_and_then (at_place spot.vl.0)) at))

pub returns-in-None-clause-held : goal.returns-in-None-clause-held
returns-in-None-clause-held c =
    rw (sym c.self.view_is) (found_there c.self.inside.shelves.items c.args.spot c.self.invariant)
