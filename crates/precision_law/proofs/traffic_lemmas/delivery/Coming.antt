-- Frames of the schedule that come to devices: from where and when they come, and what they show.
use Rattle.std.proofs.{Common.{◌^◌, length-append, replicate}, lemmas.List.length-replicate}
use Rattle.byteorder.specs.Endian.{big_bytes}
use Rattle.net_plan.specs.{Padding.padded, declared.event.What.TheVariants.Send}
use Rattle.pcf_codec.proofs.Numbers.{read_behind}
use Rattle.precision_law.proofs.traffic_lemmas.{delivery.Taken.{from_cause, left_control, put_on, takings_are_so}}
use Rattle.precision_law.proofs.traffic_lemmas.{spans.Spans.synchronised_keep_time}
use Rattle.precision_law.proofs.traffic_lemmas.Words
use Words.{if◌then◌else◌, ◌*◌, ◌++◌, ◌+ℤ◌, ◌+◌, ◌<ℤ◌, ◌<◌, ◌==◌, ◌∙◌, ◌∷◌, ◌≡◌, ◌≤ℤ◌, ◌≤◌, ◌⊎◌, Bool, BringsBlocks}
use Words.{DeviceId, Entry, Event, FieldsFit, Happening, HasGoodSources, IsEntry, IsGood, IsIn, IsInSpan, IsRowDispatch}
use Words.{IsTaking, IsTimedAt, IsView, KeepsRules, Link, LinkId, List, Network, None, NoteBody, Scenario}
use Words.{SendersAreBroken, Signal, Some, Up, View, VirtualLink, VlId, Way, [], amount, ap, append_assoc, arith}
use Words.{arrives_at, before_narrow, before_of, begins_late, block_ends, both_ways, by_lt_z, cases_lt, cause_of}
use Words.{closed, earlier, eq-eqb, eqb-true, false, false_from_ne_true, field, filter, founded_at, in_filter, in_parts}
use Words.{in_range, inl, inr, ints, is_accepted, last_in, last_or, launched, length, link_at, numbered, octet_time}
use Words.{option_map_or, port_time, pos, refl, room, same_some, shown_at, slice_get, source_of, subst, suc, sym}
use Words.{time_of, timed, true, tt_frame_by, within_run, zero, ℕ}
use Rattle.precision_law.proofs.traffic_lemmas.ports.{Cycles.hulls_grow}
use Rattle.precision_law.proofs.traffic_lemmas.ports.Dispatched.{dispatches_are_in_spans, dispatches_are_of_rows}
use Rattle.precision_law.proofs.traffic_lemmas.ports.Dispatched.{hull_proper}
use Rattle.run_law.proofs.{law.FirstDeliveries.{by_number, given, last_is, sets_wire}, records.Order.from_earlier}
use Rattle.precision_law.proofs.traffic_lemmas.schedule.{Rows.{rows_are_in_time, rows_go_once}}
use Rattle.precision_law.proofs.traffic_lemmas.schedule.{Values.{cycle_whole, so_far, so_far_in}}
use Rattle.precision_law.specs.traffic.{Dispatched.DispatchesAreWhole}
use Rattle.precision_law.specs.traffic.{Passed.{ArrivalsAreInWindows, ArrivesInSpan, FramesArriveInSpans, OctetsComeSo}}
use Rattle.precision_law.specs.traffic.Coming
use Coming.{BeginsAtSender, DispatchesBegin, SpansAreApart, TakingsBegin, TakingsComeByRows}
use Rattle.run_law.specs.{control.Wires.{signal_of, time_on_port}, declared.outside.Outside.TheVariants.Wire}
use Rattle.run_law.specs.{law.{FirstLaws.IsLawful, Safety.IsFirstDispatch}}
use Rattle.run_law.specs.{records.{Frames.{mac_of, tt_frame}, Happenings.{octets_by, octets_from}}}
use Rattle.run_law.specs.{scenario.Ways.{delay_at, is_cut, wire_of, wire_set}}
use Rattle.schedule_tables.specs.{Windows.arrival_of, declared.rule.Rule.TheVariants.VlIdsDiffer}
use Rattle.run_law.specs.declared.note.NoteBody.TheVariants as notes

-- ---- when frames of the schedule arrive: wire delays

-- between the nominal delay and that with the jitter
abbrev LiesOn : Link → ℕ → Type 0
LiesOn l delay = (amount l.wire ≤ delay) × (delay ≤ amount l.wire + amount l.jitter)

-- each wire delay that an event sets lies so
set_delay_lies : {s : Scenario} (link : LinkId) (l : Link) (way : Way) → IsLawful s → link_at s.network link ≡ Some l
    → pos 1 ≤ℤ l.wire.0 → pos 0 ≤ℤ l.jitter.0 → (e : Event) → IsIn e s.events → (d : ℕ)
    → wire_set link way e.what ≡ Some d → LiesOn l d
set_delay_lies {s} link l way lawful there least spread e i d is =
    let set = sets_wire link way e.what d is in
    let known = given s e lawful i in
    let other : ((set.delay.0 <ℤ l.wire.0) ⊎ ((l.wire.0 +ℤ l.jitter.0) <ℤ set.delay.0)) → ⊥ = λ far. known.within Wire (record {
      link = link;
      way = set.way;
      delay = set.delay;
      what = set.is;
      other = closed (λ k. (set.delay.0 <ℤ k.wire.0) ⊎ ((k.wire.0 +ℤ k.jitter.0) <ℤ set.delay.0))
          (link_at s.network link) l there far;
    }) in
    by_lt_z set.delay.0 l.wire.0
    (λ short. absurd (other (inl short)))
    (λ long. by_lt_z (l.wire.0 +ℤ l.jitter.0) set.delay.0
    (λ far. absurd (other (inr far)))
    (λ near. (omega (arith, ints, set.sets), omega (arith, ints, set.sets))))

-- so does the wire delay at any time
pub delay_lies : {s : Scenario} (link : LinkId) (l : Link) (way : Way) (t : ℕ) → IsLawful s
    → link_at s.network link ≡ Some l → pos 1 ≤ℤ l.wire.0 → pos 0 ≤ℤ l.jitter.0 → LiesOn l (delay_at s link way t)
delay_lies {s} link l way t lawful there least spread =
    let nominal : wire_of s.network link ≡ amount l.wire = rw there in
    last_is (LiesOn l) s (wire_set link way) (wire_of s.network link) t (omega arith, omega arith)
    (set_delay_lies link l way lawful there least spread)

-- ---- arrivals

pub frames_arrive_in_spans : BringsBlocks → FramesArriveInSpans
frames_arrive_in_spans brings v h device link cause vl cycle way is good d in_run =
    let n = v.scenario.network in
    let u = arrives_at v h link way d.entry in
    let here = dispatches_are_in_spans brings v h device link cause vl cycle is good d in
    let block = here.span.block in
    let range = in_range n d.place d.entry is.lawful.range d.row in
    let at : link_at n link ≡ Some d.entry.link = rw d.by at d.row.link in
    let delay = delay_lies link d.entry.link way (time_of h) is.lawful at range.link.wire.least
    range.link.jitter.least in
    let times = rows_are_in_time v d.place d.entry is d.row in
    let narrow = before_narrow block.before in
    let ends = block_ends v cycle block.next block.before.hull block.before.is_hull block.is_over in
    let space = room is in
    let late : pos u ≤ℤ ((block.before.hull.greatest +ℤ pos (arrival_of d.entry + amount d.entry.link.jitter)) +ℤ pos v.sizes.reach) = omega
    (arith, ints, here.not_late, delay.1) in
    let span : IsInSpan v cycle u = record {
      block = record {
        before = block.before;
        next = block.next;
        is_over = block.is_over;
        from = omega (arith, block.from);
        to = omega (arith, ints, times.tolerates, times.ends, space.eight_errors);
        in_run = in_run;
      };
      early = omega (arith, ints, times.tolerates, times.ends, space.eight_errors);
    } in
    record {
      span = span;
      shows = λ receiver with_time.
          let keep = synchronised_keep_time brings v cycle u span receiver is with_time in (
            omega (arith, ints, keep.shows.least, here.not_early, delay.0, space.errors.reach_is),
            omega (arith, ints, keep.shows.most, space.errors.reach_is),
          );
    }

pub arrivals_are_in_windows : ArrivalsAreInWindows
arrivals_are_in_windows v place cycle u entry receiver is row arrives with_time =
    let z = shown_at v receiver u in
    let shows = arrives.shows receiver with_time in
    let times = rows_are_in_time v place entry is row in
    let space = room is in
    let far = so_far z (cycle * v.sizes.cycle) v.sizes.cycle (omega (arith, ints, shows.0, times.begins, space.eight_errors))
    (omega (arith, ints, shows.1, times.tolerates, times.ends, space.eight_errors)) in
    let is_far = so_far_in v.scenario.network v.sizes.cycle z cycle far.0 (cycle_whole is) far.1 far.2 in
    record {
      in_cycle = is_far.cycle_is;
      not_before = omega (arith, ints, is_far.place_is, far.1, shows.0);
      not_behind = omega (arith, ints, is_far.place_is, far.1, shows.1);
    }

-- ---- where the octets of a dispatch come from, and how many they are: the frame that a sender makes

-- octets that fit are padded to the size
padded_length : (size : ℕ) (octets : List ℕ) → length octets ≤ size → length (padded size octets) ≡ size
padded_length size octets fits = grind (arith, length-append, replicate, length, length-replicate)

-- how long the head of a frame is
head_length : (a b c d e : ℕ) → length (big_bytes 4 a ++ (big_bytes 2 b ++ (big_bytes 6 c ++ (big_bytes 2 d ++ big_bytes 4 e)))) ≡ 18
head_length a b c d e = grind (arith, length-append)

-- a frame has the length of its virtual link
pub made_length : (network : Network) (vl : VirtualLink) (cycle : ℕ) → 60 ≤ vl.length → length (tt_frame_by network vl cycle) ≡ vl.length
made_length network vl cycle least =
    let head = head_length network.marker vl.id (mac_of network vl.sender) vl.ethertype cycle in
    padded_length vl.length
    (big_bytes 4 network.marker ++ (big_bytes 2 vl.id ++ (big_bytes 6 (mac_of network vl.sender) ++ (big_bytes 2 vl.ethertype ++ big_bytes 4 cycle))))
    (omega arith)

-- ---- where octets come from

-- of a list in two parts what is earlier than the second part is in the first
in_first : (front rest : List Happening) (h : Happening) (t : ℕ) → ((g : Happening) → IsIn g rest → t ≤ time_of g) → IsIn h (front ++ rest) → time_of h < t
    → IsIn h front
in_first front rest h t late i lt = elim (in_parts h front rest i) [
  | inl l ↦ l
  | inr r ↦
      (let up = late h r in absurd (omega arith))
]

pub octets_come_so : OctetsComeSo
octets_come_so v h device link cause vl cycle is d =
    let s = v.scenario in
    let n = s.network in
    let t = time_of h in
    let found = founded_at s v.records h is.run.founded d.there in
    let split = before_of is found in
    let own : h.octets ≡ (if cause == 0 then tt_frame n vl cycle else octets_from found.front cause) =
    ap (λ x. x.octets) found.due.same ∙ ap (octets_by n found.front) d.is in
    elim d.at_hand [
      | inl made ↦
          grind (arith, eq-eqb, tt_frame_by, option_map_or, slice_get, n.vl, found.front)
      | inr passed ↦
          let has = passed.1 in
          let taken = has.taken in
          let there = from_earlier t v.records taken (last_there (λ g. is_accepted device d.entry.row.vl g.note.body) (earlier t v.records) taken has.last) in
          let before = in_first found.front split.rest taken t split.later (subst (IsIn taken) split.whole there.0)
          there.1 in
          let at_front = by_number s found.front taken found.founded before in
          let front_number : numbered found.front cause ≡ Some taken = ap (numbered found.front) has.number ∙ at_front in
          let later = not_zero found.front cause taken front_number in
          inr (record {
            switch = passed.0;
            taken = taken;
            there = there.0;
            number = ap (numbered v.records) has.number ∙ by_number s v.records taken is.run.founded there.0;
            earlier = there.1;
            last = rw (sym d.of_vl) has.last;
            link = has.link;
            from = has.from;
            is = has.is ∙ ap (λ x. notes.Accepted device has.link has.from x cycle) d.of_vl;
            frame =
                own ∙ ap (λ b. if b then tt_frame n vl cycle else octets_from found.front cause) later
                ∙ from_cause found.front cause taken front_number;
          })
    ]
  where
    last_there : (p : Happening → Bool) (hs : List Happening) (g : Happening) → last_or None (filter p hs) ≡ Some g → IsIn g hs
    last_there p hs g e = elim (last_in None (filter p hs) g e) [ inl none ↦ absurd cc | inr i ↦ in_filter p hs g i ]

    not_zero : (hs : List Happening) (number : ℕ) (g : Happening) → numbered hs number ≡ Some g → (number == 0) ≡ false
    not_zero hs zero g e = absurd cc
    not_zero hs (suc number) g e = false_from_ne_true (suc number == 0)
        (λ same. (let wrong = eqb-true (suc number) 0 same in absurd (omega arith)))

-- ---- lengths

-- two rows of one virtual link have it
pub same_vl : {network : Network} {place other : ℕ} {entry second : Entry} → IsEntry network place entry
    → IsEntry network other second → entry.row.vl ≡ second.row.vl → entry.vl ≡ second.vl
same_vl {network} {entry} {second} one two same =
    same_some (slice_get network.vl entry.row.vl.0) entry.vl second.vl one.vl
    (rw same two.vl)

pub dispatches_are_whole : DispatchesAreWhole
dispatches_are_whole v h device link cause vl cycle is d =
    elim (octets_come_so v h device link cause vl cycle is d) [
      | inl made ↦
          let range = in_range v.scenario.network d.place d.entry is.lawful.range d.row in
          rw made.frame (made_length v.scenario.network d.entry.vl cycle range.vl.length_least)
      | inr passed ↦
          let taking = takings_are_so v passed.taken device passed.link passed.from vl cycle is passed.there (inl passed.is) in
          let vls = same_vl taking.by_row.row d.row (taking.by_row.of_vl ∙ sym d.of_vl) in
          rw passed.frame (taking.whole ∙ ap (λ x. x.length) vls)
    ]

-- ---- what a frame of the schedule shows

-- what the frame shows
pub record ShowsOf (network : Network) (vl : VirtualLink) (octets : List ℕ) : Type 0 where
  pub marker : field 0 4 octets ≡ network.marker
  pub id : field 4 2 octets ≡ vl.id
  pub ethertype : field 12 2 octets ≡ vl.ethertype

-- the frame shows its numbers
pub frame_shows : (network : Network) (vl : VirtualLink) (cycle : ℕ) → network.marker < 2 ^ 32 → vl.id < 2 ^ 16 → vl.ethertype < 2 ^ 16
    → ShowsOf network vl (tt_frame_by network vl cycle)
frame_shows network vl cycle marker id ethertype = grind (arith, replicate, length, tt_frame_by, append_assoc, length-append, field, read_behind)

-- ---- dispatches

-- a dispatch shows its virtual link's id
pub dispatch_shows : {v : View} {h : Happening} {device : DeviceId} {link : LinkId} {cause : ℕ} {vl : VlId}
    {cycle : ℕ} → IsView v → FieldsFit v.scenario.network → (d : IsRowDispatch v h device link cause vl cycle)
    → field 4 2 h.octets ≡ d.entry.vl.id
dispatch_shows {v} {h} {device} {link} {cause} {vl} {cycle} is fit d =
    elim (octets_come_so v h device link cause vl cycle is d) [
      | inl made ↦
          let at = d.entry.row.vl.0 in
          ap (field 4 2) made.frame
          ∙ (frame_shows v.scenario.network d.entry.vl cycle fit.marker (fit.ids at d.entry.vl d.row.vl) (fit.types at d.entry.vl d.row.vl)).id
      | inr passed ↦
          let taking = takings_are_so v passed.taken device passed.link passed.from vl cycle is passed.there (inl passed.is) in
          let vls = same_vl taking.by_row.row d.row (taking.by_row.of_vl ∙ sym d.of_vl) in
          ap (field 4 2) passed.frame ∙ sym taking.by_row.id_is ∙ ap (λ x. x.id) vls
    ]

-- ---- where the frames come from that devices take: spans

pub spans_are_apart : SpansAreApart
spans_are_apart v n zero t u is lt one two = absurd (omega arith)
spans_are_apart v n (suc k) t u is lt one two =
    let b = two.block.before.hull in
    let grow = hulls_grow n (suc k) one.block.before.hull b is lt one.block.before.is_hull two.block.before.is_hull in
    let late = begins_late k two.block.before is in
    let proper = hull_proper (suc k) b is two.block.before.is_hull in
    omega (arith, ints, one.early, two.block.from)

-- ---- ids

-- two virtual links of one id are one
pub same_id : (network : Network) (i j : VlId) (x y : VirtualLink) → KeepsRules network → slice_get network.vl i.0 ≡ Some x → slice_get network.vl j.0 ≡ Some y
    → x.id ≡ y.id → i ≡ j
same_id network i j x y keeps one two same =
    elim (cases_lt i.0 j.0) [
      | inl lt ↦ absurd (keeps VlIdsDiffer j.0 i.0 x y lt one two (sym same))
      | inr ge ↦ elim (cases_lt j.0 i.0) [
        | inl lt ↦ absurd (keeps VlIdsDiffer i.0 j.0 y x lt two one same)
        | inr le ↦ (let equal : i.0 ≡ j.0 = omega arith in rw equal)
      ]
    ]

-- ---- rows

-- the frame was put by a dispatch of the row in some cycle
record PutByRow (v : View) (h : Happening) (device : DeviceId) (link : LinkId) (cause : ℕ) (vl : VlId) (cycle : ℕ)
    (taking : IsTaking v h device link cause vl cycle) : Type 0 where
  pub from : ℕ
  pub number : ℕ
  pub dispatch : IsRowDispatch v taking.putting (source_of taking.by_row.entry) link from vl number
  pub same : dispatch.entry ≡ taking.by_row.entry

module _ (a b : LinkId) (way turned : Way) (one two : Signal)
    (e : Some (put_on a way one) ≡ Some (put_on b turned two)) where
  -- the link of what is put
  same_link : a ≡ b
  same_link = ap (λ l. l.link) (same_some (Some (put_on a way one)) (put_on a way one)
      (put_on b turned two) refl e)

  -- and its way
  same_turn : way ≡ turned
  same_turn = ap (λ l. l.way) (same_some (Some (put_on a way one)) (put_on a way one)
      (put_on b turned two) refl e)

-- what `send` events put goes up
sent_up : (cut : Bool) (link by : LinkId) (turned : Way) (signal other : Signal)
    → (if cut then None else Some (put_on link Up signal)) ≡ Some (put_on by turned other) → (link ≡ by) × (Up ≡ turned)
sent_up true link by turned signal other e = absurd cc
sent_up false link by turned signal other e = (same_link link by Up turned signal other e, same_turn link by Up turned signal other e)

-- the record that put the octets is a dispatch of the row
put_by_row : SendersAreBroken → {v : View} {h : Happening} {device : DeviceId} {link : LinkId} {cause : ℕ}
    {vl : VlId} {cycle : ℕ} → IsView v → FieldsFit v.scenario.network
    → (taking : IsTaking v h device link cause vl cycle) → IsGood v (source_of taking.by_row.entry)
    → (body : NoteBody) → taking.putting.note.body ≡ body
    → launched v.scenario taking.putting (time_of taking.putting) body
    ≡ Some (put_on link taking.way (timed h.octets)) → PutByRow v h device link cause vl cycle taking
put_by_row broken {h} {link} is fit taking fine (notes.Left d l c clock) same put =
    absurd (left_control taking.putting.frame l _ link taking.way h.octets put)
put_by_row broken {v} {h} {device} {link} {cause} {vl} {cycle} is fit taking fine (notes.TtSent d l c other number)
    same put =
    let n = v.scenario.network in
    let entry = taking.by_row.entry in
    let sent = dispatches_are_of_rows v taking.putting d l c other number is taking.put_there same in
    let links = same_link l link _ taking.way _ _ put in
    let ids = sym (dispatch_shows is fit sent) ∙ ap (field 4 2) (sym taking.octets)
    ∙ sym taking.by_row.id_is in
    let vls = same_id n sent.entry.row.vl entry.row.vl sent.entry.vl entry.vl is.lawful.rules sent.row.vl
    taking.by_row.row.vl ids in
    let rows = rows_go_once n sent.place taking.by_row.place sent.entry entry is.lawful.rules sent.row taking.by_row.row vls
    (sent.by ∙ links ∙ sym taking.by_row.by) in
    let devices = sym sent.leaves ∙ ap source_of rows.1 in
    let own = sym sent.of_vl ∙ vls ∙ taking.by_row.of_vl in
    by d l other devices links own sent rows.1
  where
    by : (d : DeviceId) (l : LinkId) (other : VlId) → d ≡ source_of taking.by_row.entry → l ≡ link → other ≡ vl
        → (sent : IsRowDispatch v taking.putting d l c other number) → sent.entry ≡ taking.by_row.entry → PutByRow v h device link cause vl cycle taking
    by d l other devices links own sent entries =
        let from_d = subst (λ x. (y : IsRowDispatch v taking.putting x l c other number) × (y.entry ≡ taking.by_row.entry)) devices (sent, entries)
        in
        let from_l = rw links at from_d in
        let from_vl = rw own at from_l in
        record { from = c; number = number; dispatch = from_vl.0; same = from_vl.1 }
put_by_row broken {v} {h} {link} is fit taking fine (notes.Event line (Send l octets)) same put =
    let entry = taking.by_row.entry in
    let up = sent_up (is_cut v.scenario l Up (time_of taking.putting)) l link taking.way (signal_of octets) (timed h.octets) put in
    let at : link_at v.scenario.network l ≡ Some entry.link =
    rw (taking.by_row.by ∙ sym up.0) at taking.by_row.row.link in
    let bad = broken v taking.putting line l octets entry.link is taking.put_there same at in
    let source : source_of entry ≡ entry.link.child = rw (taking.by_row.on_way ∙ sym up.1) in
    absurd (both_ways _ (rw source at fine) bad)
put_by_row broken is fit taking fine body same put = absurd cc

-- how long the frame is on its port
pub on_port : (v : View) {place : ℕ} {entry : Entry} (link : LinkId) (octets : List ℕ)
    → IsEntry v.scenario.network place entry → entry.row.link ≡ link → length octets ≡ entry.vl.length
    → time_on_port v.scenario.network link (timed octets) ≡ port_time entry
on_port v link octets row by whole = grind (arith, option_map_or, length, octet_time, link_at)

pub takings_come_by_rows : BringsBlocks → SendersAreBroken → TakingsComeByRows
takings_come_by_rows brings broken v h device link cause vl cycle is fit good taking fine =
    let entry = taking.by_row.entry in
    let put = put_by_row broken is fit taking fine taking.putting.note.body refl taking.put in
    let port = on_port v link h.octets taking.by_row.row taking.by_row.by taking.whole in
    let ports : port_time put.dispatch.entry ≡ port_time entry = ap port_time put.same in
    let at : arrives_at v taking.putting link taking.way put.dispatch.entry ≡ time_of h = omega (arith, taking.at) in
    let arrives = frames_arrive_in_spans brings v taking.putting (source_of entry) link put.from vl put.number taking.way is fine put.dispatch
    (omega (arith, within_run is h taking.there)) in
    let here : ArrivesInSpan v put.number (time_of h) entry = rw put.same at (rw at at arrives) in
    let timed : IsTimedAt v device (time_of h) = record { good = good; synchronised = taking.synchronised } in
    let window = arrivals_are_in_windows v taking.by_row.place put.number (time_of h) entry device is taking.by_row.row here timed in
    let cycles = sym window.in_cycle ∙ sym taking.in_cycle in
    let moved = subst (λ c. (y : IsRowDispatch v taking.putting (source_of entry) link put.from vl c) × (y.entry ≡ entry)) cycles (put.dispatch, put.same)
    in
    record { from = put.from; dispatch = moved.0; same = moved.1; in_span = rw cycles at here }

-- ---- back to the sender

-- by the time of the dispatch
begins_below : BringsBlocks → SendersAreBroken → (bound : ℕ) {v : View} (h : Happening) (device : DeviceId)
    (link : LinkId) (cause : ℕ) {vl : VlId} (of_vl : VirtualLink) {cycle : ℕ} → IsView v
    → FieldsFit v.scenario.network → IsGood v device → HasGoodSources v vl
    → slice_get v.scenario.network.vl vl.0 ≡ Some of_vl → IsRowDispatch v h device link cause vl cycle
    → time_of h < bound → BeginsAtSender v h vl of_vl cycle
begins_below brings broken zero h device link cause of_vl is fit good sources there d lt = absurd (omega arith)
begins_below brings broken (suc bound) {v} h device link cause {vl} of_vl {cycle} is fit good sources there d lt =
    let own = same_some (slice_get v.scenario.network.vl vl.0) d.entry.vl of_vl
    (rw d.of_vl at d.row.vl) there in
    elim (octets_come_so v h device link cause vl cycle is d) [
      | inl made ↦
          let sender = sym made.sender ∙ ap (λ x. x.sender) own in
          let begins : IsFirstDispatch vl of_vl cycle (notes.TtSent device link cause vl cycle) = (sender, made.first, refl, refl) in
          record {
            first = h;
            back = record { causes = []; chain = tt; begins = refl };
            begins = subst (IsFirstDispatch vl of_vl cycle) (sym d.is) begins;
            whole = made.frame ∙ ap (λ x. tt_frame_by v.scenario.network x cycle) own;
          }
      | inr passed ↦
          let taking = takings_are_so v passed.taken device passed.link passed.from vl cycle is passed.there (inl passed.is) in
          let fine = sources taking.by_row.place taking.by_row.entry taking.by_row.row taking.by_row.of_vl in
          let comes = takings_come_by_rows brings broken v passed.taken device passed.link passed.from vl cycle is fit good taking fine in
          let rest = begins_below brings broken bound taking.putting (source_of taking.by_row.entry) passed.link
          comes.from of_vl is fit fine sources
          there comes.dispatch (omega (arith, taking.at, passed.earlier)) in
          let first_cause : numbered v.records (cause_of h.note.body) ≡ Some passed.taken = rw d.is
          passed.number in
          let second_cause : numbered v.records (cause_of passed.taken.note.body) ≡ Some taking.putting = ap (λ b. numbered v.records (cause_of b))
          passed.is ∙ taking.number in
          record {
            first = rest.first;
            back = record {
              causes = passed.taken ∷ taking.putting ∷ rest.back.causes;
              chain = (first_cause, (second_cause, rest.back.chain));
              begins = rest.back.begins;
            };
            begins = rest.begins;
            whole = passed.frame ∙ taking.octets ∙ rest.whole;
          }
    ]

pub dispatches_begin : BringsBlocks → SendersAreBroken → DispatchesBegin
dispatches_begin brings broken v h device link cause vl of_vl cycle is fit good sources there d =
    begins_below brings broken (time_of h + 1) h device link cause of_vl is fit good sources there d (omega arith)

pub takings_begin : BringsBlocks → SendersAreBroken → TakingsBegin
takings_begin brings broken v h device link cause vl of_vl cycle is fit good sources there taking =
    let fine = sources taking.by_row.place taking.by_row.entry taking.by_row.row taking.by_row.of_vl in
    let comes = takings_come_by_rows brings broken v h device link cause vl cycle is fit good taking fine in
    let rest = dispatches_begin brings broken v taking.putting (source_of taking.by_row.entry) link comes.from vl of_vl cycle is fit fine sources there
    comes.dispatch in
    record {
      first = rest.first;
      back = record { causes = taking.putting ∷ rest.back.causes; chain = (taking.is_cause, rest.back.chain); begins = rest.back.begins };
      begins = rest.begins;
      whole = taking.octets ∙ rest.whole;
    }
