use Rattle.drift_world.proofs.{Locals.{departure_is, way_by}, Signals.{have_octets, left_octets}}
use Rattle.drift_world.proofs.{Turned.{departed_late, departed_none}}
use Rattle.drift_world.proofs.{Words.{is_parent_of, length, slice_get_read, subst, sym}}
use Rattle.world_law.proofs.giving.GivenParts.{some_same}
use Rattle.drift_world.proofs.Words.{◌<◌, ◌∙◌, DeviceId, LinkId, Some, WayNow, ap, arith}
use Rattle.{world_state.specs.Leaving.port_entry}
use Rattle.drift_world.proofs.state.State.departure.Goals as goal

pub returns-clause-octets : goal.returns-clause-octets
returns-clause-octets g c =
    let network = c.args.network.now in
    subst have_octets (sym c.departed.ensures)
    (left_octets network c.reading_of-reading.result c.way_from-way.result.cut (port_entry c.args.place c.args.frame c.args.given))

pub returns-clause-late : goal.returns-clause-late
returns-clause-late g c =
    rw c.departed.ensures (departed_late c.args.network.now c.reading_of-reading.result c.way_from-way.result.cut
    (port_entry c.args.place c.args.frame c.args.given))

pub returns-clause-none : goal.returns-clause-none
returns-clause-none g c =
    let network = c.args.network.now in
    rw c.departed.ensures (departed_none network c.reading_of-reading.result c.way_from-way.result.cut
    (port_entry c.args.place c.args.frame c.args.given))

pub returns-clause-is : goal.returns-clause-is
returns-clause-is g c = λ s of.
    let w = c.args.self.now in
    let device : DeviceId = record { 0 = c.args.place.device } in
    let link : LinkId = record { 0 = c.args.place.link } in
    let there : device.0 < length s.network.device = rw of.same at c.requires.device in
    let here : link.0 < length s.network.link = rw of.same at c.requires.link in
    let len = w.broken.ok.0 in
    let many = c.requires.sized.broken in
    let within = c.requires.device in
    let sound = some_same _ _ _ (of.broken device there)
    (slice_get_read w.broken.items w.broken.len device.0 c.index.result.now w.broken.ok.0 (omega arith) c.index.ensures)
    ∙ c.if-index.false in
    let clock = of.clocks device there in
    let own = c.reading_of-reading.ensures in
    let read = own.2 ∙ ap (λ k. g.C.Clock.reading k w.time) (some_same _ _ _ own.1 clock.1) ∙ sym (clock.2 w.time (omega arith)) in
    let way = rw of.same at c.way_from-way.ensures in
    let cut = ap WayNow.cut (way_by s w.time w.ups.items w.downs.items link (is_parent_of s.network device link) of.ways
    here way) in
    ap Some c.departed.ensures ∙ departure_is s w.time (port_entry c.args.place c.args.frame c.args.given) of.same sound read cut
