-- Each frame of the schedule takes its time, and from cycle to cycle a row keeps its pace.
use Rattle.precision_law.proofs.{records.RunViews.{view_of, view_with}}
use Rattle.precision_law.proofs.traffic_lemmas.{ports.Dispatched.{dispatches_are_in_spans, dispatches_are_of_rows}}
use Rattle.precision_law.proofs.traffic_lemmas.delivery.{Delivering.fields_fit, Forwarding.Brings, Taken.takings_are_so}
use Rattle.precision_law.proofs.traffic_lemmas.delivery.{Coming.{delay_lies, on_port, takings_come_by_rows}}
use Rattle.precision_law.proofs.traffic_lemmas.{faults.Channels.good_sources, ports.Cycles.same_hull}
use Rattle.precision_law.proofs.traffic_lemmas.schedule.Rows.{rows_go_once}
use Rattle.precision_law.proofs.traffic_lemmas.Words.{◌*◌, ◌+ℤ◌, ◌+◌, ◌<◌, ◌∙◌, ◌≡◌, ◌≤ℤ◌, ◌≤◌, DeviceId, Entry}
use Rattle.precision_law.proofs.traffic_lemmas.Words.{Happening, Hull, IsGood, IsIn, IsView, Sizes, Some}
use Rattle.precision_law.proofs.traffic_lemmas.Words.{Stands, View, VlId, amount, ap, arith, before_narrow, has_before}
use Rattle.precision_law.proofs.traffic_lemmas.Words.{hull_of, in_range, inr, ints, link_at, pos, port_time, room}
use Rattle.precision_law.proofs.traffic_lemmas.Words.{same_some, source_of, suc, sym, time_of, within_run, zero}
use Rattle.precision_law.proofs.traffic_lemmas.Words.{ℕ}
use Rattle.precision_law.specs.{Sizes.HaveRoom}
use Rattle.precision_law.specs.traffic.Latency.{DeliveriesKeepPace, DeliveriesTakeTheirTime, HasCorrectSender}
use Rattle.precision_law.specs.traffic.Latency.{IsDeliveryBy, IsDispatchOn}
use Rattle.run_law.specs.scenario.Ways.{delay_at}
use Rattle.schedule_tables.specs.Windows.{arrival_of}

-- ---- by the hull of the frame's cycle

-- what goes at this place of the cycle goes within the hull, but for an error
record GoesInHull (v : View) (cycle place late at : ℕ) : Type 0 where
  pub before : Stands v cycle
  pub least : (before.hull.least +ℤ pos place) ≤ℤ (pos at +ℤ pos v.sizes.reach)
  pub most : pos at ≤ℤ ((before.hull.greatest +ℤ pos (place + late)) +ℤ pos v.sizes.reach)

-- a dispatch does
dispatched_in_hull : Brings → {v : View} {vl : VlId} {cycle : ℕ} {f : Happening} {device : DeviceId} {first : Entry}
    → IsView v → IsIn f v.records → IsGood v device → IsDispatchOn v.scenario.network vl cycle f device first
    → GoesInHull v cycle (amount first.row.offset) 0 (time_of f)
dispatched_in_hull brings {v} {vl} {cycle} {f} {device} {first} is there good d =
    let n = v.scenario.network in
    let sent = dispatches_are_of_rows v f device d.link d.cause vl cycle is there d.is in
    let span = dispatches_are_in_spans brings.blocks v f device d.link d.cause vl cycle is good sent in
    let same = (rows_go_once n d.row.place sent.place first sent.entry is.lawful.rules d.row.is sent.row
    (d.row.of_vl ∙ sym sent.of_vl) (d.row.by ∙ sym sent.by)).1 in
    let offset : amount first.row.offset ≡ amount sent.entry.row.offset =
    rw same in
    record {
      before = span.span.block.before;
      least = omega (arith, ints, span.not_early);
      most = omega (arith, ints, span.not_late);
    }

-- what left by a row comes by the row's port time and its wire's delay later
comes_in_hull : (s : Sizes) (hull : Hull) (offset port wire jitter delay sent came : ℕ)
    → (hull.least +ℤ pos offset) ≤ℤ (pos sent +ℤ pos s.reach)
    → pos sent ≤ℤ ((hull.greatest +ℤ pos offset) +ℤ pos s.reach)
    → came ≡ sent + port + delay → wire ≤ delay → delay ≤ wire + jitter
    → ((hull.least +ℤ pos (offset + port + wire)) ≤ℤ (pos came +ℤ pos s.reach))
    × (pos came ≤ℤ ((hull.greatest +ℤ pos (offset + port + wire + jitter)) +ℤ pos s.reach))
comes_in_hull s hull offset port wire jitter delay sent came least most at short long =
    (omega (arith, ints), omega (arith, ints))

-- a delivery goes so
delivered_in_hull : Brings → {v : View} {vl : VlId} {cycle : ℕ} {z : Happening} {receiver : DeviceId} {last : Entry}
    → IsView v → IsIn z v.records → IsGood v receiver → HasCorrectSender v.scenario vl v.until
    → IsDeliveryBy v.scenario.network vl cycle z receiver last
    → GoesInHull v cycle (arrival_of last) (amount last.link.jitter) (time_of z)
delivered_in_hull brings {v} {vl} {cycle} {z} {receiver} {last} is there good sender d =
    let s = v.scenario in
    let n = s.network in
    let taking = takings_are_so v z receiver d.link d.cause vl cycle is there (inr d.is) in
    let row = taking.by_row in
    let put = taking.putting in
    let sources = good_sources brings.channels vl sender.of_vl is sender.there sender.correct in
    let fine = sources row.place row.entry row.row row.of_vl in
    let fit = fields_fit is.lawful.range in
    let comes = takings_come_by_rows brings.blocks brings.senders v z receiver d.link d.cause vl cycle is fit good
    taking fine in
    let span = dispatches_are_in_spans brings.blocks v put (source_of row.entry) d.link comes.from vl cycle is fine
    comes.dispatch in
    let same = (rows_go_once n d.row.place row.place last row.entry is.lawful.rules d.row.is row.row
    (d.row.of_vl ∙ sym row.of_vl) (d.row.by ∙ sym row.by)).1 in
    let port = on_port v d.link z.octets row.row row.by taking.whole in
    let linked : link_at n d.link ≡ Some row.entry.link =
    rw row.by at row.row.link in
    let range = in_range n row.place row.entry is.lawful.range row.row in
    let delay = delay_lies d.link row.entry.link taking.way (time_of put) is.lawful linked range.link.wire.least
    range.link.jitter.least in
    let offsets : amount comes.dispatch.entry.row.offset ≡ amount row.entry.row.offset =
    rw comes.same in
    let before = span.span.block.before in
    let at : time_of z ≡ time_of put + port_time row.entry + delay_at s d.link taking.way (time_of put) =
    omega (arith, taking.at) in
    let c = comes_in_hull v.sizes before.hull (amount row.entry.row.offset) (port_time row.entry)
    (amount row.entry.link.wire) (amount row.entry.link.jitter) _ (time_of put) (time_of z)
    (omega (arith, ints, span.not_early)) (omega (arith, ints, span.not_late)) at delay.0 delay.1 in
    let goes : GoesInHull v cycle (arrival_of row.entry) (amount row.entry.link.jitter) (time_of z) =
    record { before = before; least = c.0; most = c.1 } in
    rw same goes

-- ---- latency

-- two instants of one narrow hull
record AreOneHullApart (s : Sizes) (place other late at came : ℕ) : Type 0 where
  pub least : at + other ≤ came + place + (s.spread + 2 * s.reach)
  pub most : came + place ≤ at + other + late + (s.spread + 2 * s.reach)

one_hull_apart : {v : View} {cycle : ℕ} (place : ℕ) {other late : ℕ} (at : ℕ) {came : ℕ}
    → GoesInHull v cycle place 0 at → GoesInHull v cycle other late came
    → AreOneHullApart v.sizes place other late at came
one_hull_apart {v} {cycle} place at one two =
    let narrow = before_narrow one.before in
    let same = same_hull v cycle two.before one.before in
    let bottom = ap (λ (w : Hull). w.least) same in
    let top = ap (λ (w : Hull). w.greatest) same in
    record {
      least = omega (arith, ints, one.most, two.least);
      most = omega (arith, ints, one.least, two.most);
    }

-- the error is less than the precision
small_error : {s : Sizes} → HaveRoom s → s.spread + 2 * s.reach < s.precision
small_error space = omega (arith, space.eight_errors, space.errors.reach_is, space.errors.clock_is)

pub deliveries_take_their_time : Brings → DeliveriesTakeTheirTime
deliveries_take_their_time brings s mark ns to beta up path vl cycle f z device end first last i j lt le d e good has =
    let w = time_of z in
    let channel = brings.channels.sound s w up.lawful in
    let at = view_with w channel.0 beta up path le channel.1 in
    let v = view_of s w channel.0 beta at.cut.front in
    let there = at.cut.has z j (omega arith) in
    let taking = takings_are_so v z end e.link e.cause vl cycle at.is there (inr e.is) in
    let sent = dispatched_in_hull brings at.is (at.cut.has f i lt) good d in
    let came = delivered_in_hull brings at.is there taking.correct has e in
    let a = one_hull_apart (amount first.row.offset) (time_of f) sent came in
    record { least = a.least; most = a.most; small = small_error (room at.is) }

-- ---- from cycle to cycle

-- hulls keep apart by their cycles, but for an error a cycle
record AreCyclesApart (s : Sizes) (cycles : ℕ) (hull later : Hull) : Type 0 where
  pub least : (hull.least +ℤ pos (cycles * s.cycle)) ≤ℤ (later.least +ℤ pos (cycles * s.reach))
  pub most : later.greatest ≤ℤ ((hull.greatest +ℤ pos (cycles * s.cycle)) +ℤ pos (cycles * s.reach))

cycles_apart : {v : View} (cycle cycles : ℕ) (hull later : Hull) → IsView v → hull_of v cycle ≡ Some hull
    → hull_of v (cycle + cycles) ≡ Some later → AreCyclesApart v.sizes cycles hull later
cycles_apart {v} cycle zero hull later is one two =
    let here : cycle + 0 ≡ cycle = omega arith in
    let same = same_some (hull_of v cycle) hull later one (rw here at two) in
    let bottom = ap (λ (w : Hull). w.least) same in
    let top = ap (λ (w : Hull). w.greatest) same in
    record { least = omega (arith, ints); most = omega (arith, ints) }
cycles_apart {v} cycle (suc cycles) hull later is one two =
    let next : cycle + suc cycles ≡ suc (cycle + cycles) = omega arith in
    let has = has_before v (cycle + cycles) later (within_run is)
    (rw next at two) in
    let apart = cycles_apart cycle cycles hull has.before is one has.is_before in
    record {
      least = omega (arith, ints, apart.least, has.follows.least);
      most = omega (arith, ints, apart.most, has.follows.most);
    }

-- two instants at one place of two cycles
record AreInPace (s : Sizes) (cycles late at came : ℕ) : Type 0 where
  pub least : at + cycles * s.cycle ≤ came + (late + s.spread + (cycles + 2) * s.reach)
  pub most : came ≤ at + cycles * s.cycle + (late + s.spread + (cycles + 2) * s.reach)

in_pace : {v : View} (cycle cycles : ℕ) {place late : ℕ} (at : ℕ) {came : ℕ} → IsView v
    → GoesInHull v cycle place late at → GoesInHull v (cycle + cycles) place late came
    → AreInPace v.sizes cycles late at came
in_pace cycle cycles at is one two =
    let narrow = before_narrow one.before in
    let later = before_narrow two.before in
    let apart = cycles_apart cycle cycles one.before.hull two.before.hull is one.before.is_hull two.before.is_hull in
    record {
      least = omega (arith, ints, apart.least, one.most, two.least);
      most = omega (arith, ints, apart.most, one.least, two.most);
    }

pub deliveries_keep_pace : Brings → DeliveriesKeepPace
deliveries_keep_pace brings s mark ns until beta up is_beta vl cycle cycles z y receiver entry i j early le d e sender =
    let w = time_of y in
    let channel = brings.channels.sound s w up.lawful in
    let at = view_with w channel.0 beta up is_beta le channel.1 in
    let v = view_of s w channel.0 beta at.cut.front in
    let there = at.cut.has y j (omega arith) in
    let taking = takings_are_so v y receiver e.link e.cause vl (cycle + cycles) at.is there (inr e.is) in
    let one = delivered_in_hull brings at.is (at.cut.has z i early) taking.correct sender d in
    let two = delivered_in_hull brings at.is there taking.correct sender e in
    let p = in_pace cycle cycles (time_of z) at.is one two in
    record { least = p.least; most = p.most }
