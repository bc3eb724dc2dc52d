use Rattle.std.{proofs.{Common.{◌∙◌, ap, length, refl, sym}, lemmas.Option.slice_get_read}}
use Rattle.tte_units.proofs.general_lemmas.Lists.{set_same}
use Rattle.world_state.{proofs.Placings.{longer_in, longer_shelved}, specs.Shelves.{Shelved}}
use Rattle.world_state.proofs.shelves.Shelves.reserve.Goals as goal

pub invariant_of-self : goal.invariant_of-self
invariant_of-self c =
    let ss = c.self.inside.shelves.items in
    let d = c.args.spot.device.0 in
    let lt = rw (sym c.self.view_is) at c.in-Ok.ensures.there in
    let at = slice_get_read ss (length ss) d c.index_mut.result.now refl lt c.index_mut.ensures.value in
    longer_shelved ss d c.self.invariant at c.reserve.ensures.longer

pub returns-in-Ok-clause-items : goal.returns-in-Ok-clause-items
returns-in-Ok-clause-items c =
    let ss = c.self.inside.shelves.items in
    let d = c.args.spot.device.0 in
    let lt = rw (sym c.self.view_is) at c.in-Ok.ensures.there in
    let at = slice_get_read ss (length ss) d c.index_mut.result.now refl lt c.index_mut.ensures.value in
    longer_in ss d at c.reserve.ensures.longer ∙ ap Shelved.items
    c.self.view_is ∙ c.in-Ok.ensures.items

pub returns-in-Ok-clause-place : goal.returns-in-Ok-clause-place
returns-in-Ok-clause-place c =
    rw (set_same c.self.inside.shelves.items c.args.spot.device.0 c.reserve.new.self
    (rw (sym c.self.view_is) at c.in-Ok.ensures.there)) c.reserve.ensures.there
