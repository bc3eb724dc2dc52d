use Rattle.std.{proofs.{Common.{length, refl, slice_get, sym}, lemmas.Option.slice_get_read}}
use Rattle.world_state.{proofs.Placings.{has_shelf, is_within, put_at, put_shelved}}
use Rattle.world_state.proofs.shelves.Shelves.put.Goals as goal

pub put-requires : goal.put-requires
put-requires c =
    let ss = c.self.inside.shelves.items in
    let one = c.args.one in
    let d = one.device.0 in
    let room = rw (sym c.self.view_is) at c.requires in
    let lt = has_shelf ss d one.vl.0 (slice_get ss d) refl room in
    let at = slice_get_read ss (length ss) d c.index_mut.result.now refl lt c.index_mut.ensures.value in
    is_within ss d one.vl.0 at room

pub invariant_of-self : goal.invariant_of-self
invariant_of-self c =
    let ss = c.self.inside.shelves.items in
    let one = c.args.one in
    let d = one.device.0 in
    let lt = has_shelf ss d one.vl.0 (slice_get ss d) refl (rw (sym c.self.view_is) at c.requires) in
    let at = slice_get_read ss (length ss) d c.index_mut.result.now refl lt c.index_mut.ensures.value in
    rw c.put.ensures (put_shelved ss one c.self.invariant at)

pub returns : goal.returns
returns c =
    let ss = c.self.inside.shelves.items in
    let one = c.args.one in
    let d = one.device.0 in
    let room = rw (sym c.self.view_is) at c.requires in
    let lt = has_shelf ss d one.vl.0 (slice_get ss d) refl room in
    let at = slice_get_read ss (length ss) d c.index_mut.result.now refl lt c.index_mut.ensures.value in
    rw (sym c.self.view_is) (rw (sym c.put.ensures) at (put_at ss one
    c.self.invariant at (is_within ss d one.vl.0 at room)))
