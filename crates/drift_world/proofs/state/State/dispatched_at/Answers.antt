use Rattle.drift_world.proofs.Locals.{way_by}
use Rattle.drift_world.proofs.Words.{◌<◌, ◌∙◌, None, Some, WayNow, ap, is_parent_of, length, slice_get_within, subst}
use Rattle.schedule_tables.proofs.SlotLemmas.{one_entry}
use Rattle.world_state.specs.Acting.{IsDispatched, dispatched_by}
use Rattle.drift_world.proofs.state.State.dispatched_at.Goals as goal

pub returns-in_err-hand : goal.returns-in_err-hand
returns-in_err-hand g c = λ s entry of is.
    let w = c.args.self.now in
    subst (λ e. IsDispatched s w.stored.items w.time c.args.device e c.args.cycle c.from_residual.result)
    (one_entry c.args.network.now c.args.row.0 c.entry_of-entry.result entry c.entry_of-entry.ensures.is is)
    (record { hand = None; of_hand = c.in_err-hand.ensures; is = c.from_residual.ensures })

pub returns : goal.returns
returns g c = λ s entry of is.
    let w = c.args.self.now in
    let network = c.args.network.now in
    let device = c.args.device in
    let found = c.entry_of-entry.result in
    let link = found.row.link in
    let here : link.0 < length s.network.link =
    rw of.same at (slice_get_within network.link link.0 found.link c.entry_of-entry.ensures.is.link) in
    let way = rw of.same at c.way_from-way.ensures in
    let cut = ap WayNow.cut (way_by s w.time w.ups.items w.downs.items link (is_parent_of s.network device link) of.ways
    here way) in
    subst (λ e. IsDispatched s w.stored.items w.time device e c.args.cycle (Some c.dispatched.result))
    (one_entry network c.args.row.0 found entry c.entry_of-entry.ensures.is is)
    (record {
      hand = Some c.in_ok-hand.hand;
      of_hand = c.in_ok-hand.ensures;
      is = ap Some (c.dispatched.ensures ∙ ap (λ b. dispatched_by b device found c.args.cycle c.in_ok-hand.hand) cut);
    })
