-- The rules that the rows of a planned network keep.
use Rattle.precision_law.proofs.traffic_lemmas.faults.Channels.{one_channel}
use Rattle.lens_plan.proofs.{Attempts.limit_by, Courses.not_to_sender, Leading.{no_end, no_switch, relay_is}}
use Rattle.lens_plan.proofs.{Serving.{ItsCourse, by_link, by_target, first_of, its_courses, last_of, trial_by}}
use Rattle.lens_plan.proofs.PlannedRows.{HasEntry, IsNew, IsSound, base, course, course_at, each_there, entry_of}
use Rattle.lens_plan.proofs.PlannedRows.{entry_there, ground_of, in_links, in_order, item, link_no, of_items, offset_is}
use Rattle.lens_plan.proofs.PlannedRows.{old_there, old_vl, parts_at, planned, row_at, seat_of, sender_is, source_is}
use Rattle.lens_plan.proofs.PlannedRows.{target_is, vl_at, vl_no, way_is}
use Rattle.lens_plan.specs.declared.places.{best.Attempt.Attempt, offsets.Taken.Taken, placing.{Placed.Placed}}
use Rattle.lens_plan.specs.{joining.Planned.{rows_from, vls_of}, messages.{Message.Message}}
use Rattle.lens_plan.specs.places.{Filling.taken_of, Offsets.{Hits, Meets, ends_at}, Placing.{IsOrdered, delay_on, port_on, slot_of}, Scoring.{is_last, limit_of, schedule_end}, Spacing.IsPhaseBy, There.taken_by, Trying.start_of}
use Rattle.net_plan.proofs.SameIds.{same_link, same_vl}
use Rattle.net_plan.specs.{Bounds.gamma_of, Places.{IsEndSystem, IsRoleOf, IsSwitchOf, device_at, is_end_system, link_at}, Ranges.{IsDeviceInRange, IsInRange}}
use Rattle.net_plan.specs.declared.{ids.{DeviceId.DeviceId, LinkId.LinkId, VlId.VlId}, network.Network.Network, tables.{Device.Device, Link.Link, Row.Row, VirtualLink.VirtualLink}}
use Rattle.net_plan.specs.declared.tables.{Role.TheVariants.Relay, Way.{Way, TheVariants.{Down, Up}}}
use Rattle.schedule_tables.specs.{Entries.{IsEntry, source_by, source_of, target_by, target_of}, declared.entry.Entry.Entry}
use Rattle.schedule_tables.specs.Schedule.{Coincide, ComesInTime, EndsInCycle, Enters, EntersAnew, EntersOn, GoesByBothChannels, GoesOnceByLink, HasEndSystemAsSender, HasPeriod, HasSource, IsClearBefore, IsSwitch, LeavesOn, StandsApart, VlIdIsNew, VlNameIsNew}
use Rattle.schedule_tables.specs.{Windows.{port_time, window_end}, declared.rule.Rule.TheVariants.{BothChannels, Forwarding, Joints, LinksOnce, Periods, ScheduleStart, Senders, Sources, Spacing, Targets, VlIdsDiffer, VlNamesDiffer, WindowEnds}}
use Rattle.std.proofs.Common.{◌%◌, ◌*◌, ◌+◌, ◌<◌, ◌∙◌, ◌∷◌, ◌≡◌, ◌≢◌, ◌≤◌, ◌⊎◌, Bool, List, None, Option, Some, [], ap, arith, false, inl, inr, is_some, length, min, not, refl, subst, sym, ℕ, ⊎_elim}
use Rattle.std.proofs.{Math.Nat.{le-max_left, min_comm}, lemmas.{Bool.{cases_eq, cases_lt}, List.Elements.Contains-append_right, Option.{slice_get-get_or, slice_get_within}}}
use Rattle.std.specs.{List.{Contains}, Option.{option_map_or, unwrap_or}, Prelude.{IfSome, slice_get}}
use Rattle.tte_units.proofs.general_lemmas.{Lists.in_all, Options.{closed, opened, some_same}}
use Rattle.tte_units.specs.{Amount.amount, OctetTime.octet_time, declared.frames.channel.Channel.{Channel, TheVariants.{A}}}

coincide_back : (v w : VirtualLink) → Coincide v w → Coincide w v
coincide_back v w same = subst (λ (n : ℕ). w.phase % n ≡ v.phase % n) (min_comm v.period w.period) (sym same)

switch_by : (o : Option Channel) (b : Bool) (c : Channel) → is_some o ≡ not b → o ≡ Some c → b ≡ false
switch_by o b c same is = grind (arith, same, is)

-- a switch of a channel is a switch
switch_is : {network : Network} (c : Channel) (d : DeviceId) → IsInRange network → IsSwitchOf network c d
    → IsSwitch network d
switch_is {network} c d range switch =
    let o = opened (λ (x : Device). x.channel ≡ Some c) (device_at network d) switch in
    let ranged = in_all IsDeviceInRange network.device d.0 o.0 range.devices o.1 in
    closed (λ (x : Device). is_end_system x.role ≡ false) (device_at network d) o.0 o.1
    (switch_by o.0.channel (is_end_system o.0.role) c ranged.switches o.2)

contains_at : {X : Type 0} (xs : List X) (x : X) → Contains xs x → (k : ℕ) × (slice_get xs k ≡ Some x)
contains_at xs x (k, within, is) = (k, slice_get-get_or xs k x within ∙ ap (λ y. Some y) is)

module _ (network : Network) (ms : List Message) (ids : List ℕ) (attempts : List Attempt) (s : IsSound network ms ids attempts) where
  abbrev p_net : Network
  p_net = planned network ms ids attempts s

  abbrev New : ℕ → Entry → Type 0
  New k e = IsNew network ms ids attempts s k e

  module _ (k : ℕ) (e : Entry) (n : New k e) where
    link_same : (course link : Link) → link_at network n.p.hop.link ≡ Some course → course ≡ e.link
    link_same course link at = some_same course e.link (link_at network n.p.hop.link) at n.link

    -- ---- the window

    own : ItsCourse network (seat_of network ms ids attempts s k e n).0 n.m n.a (seat_of network ms ids attempts s k e n).1 (ground_of network ms ids attempts s k e n) n.p
    own = course network ms ids attempts s k e n

    port_is : port_on network n.m.length n.p.hop.link ≡ port_time e
    port_is =
        ap (λ (o : Option Link). option_map_or (λ l. (n.m.length + 24) * octet_time l.speed) o 0) n.link
        ∙ ap (λ (v : VirtualLink). (v.length + 24) * octet_time e.link.speed) (sym n.vl)

    end_is : n.p.end ≡ window_end p_net e
    end_is =
        let end = own.course.end in
        let port = port_is in
        let delay : delay_on network n.p.hop.link ≡ amount e.link.wire + amount e.link.jitter =
        ap (λ (o : Option Link). option_map_or (λ l. amount l.wire + amount l.jitter) o 0) n.link in
        let offset = offset_is network ms ids attempts s k e n in
        omega (arith, end, port, delay, offset)

    in_cycle : window_end p_net e + 4 * amount network.precision ≤ amount network.cycle
    in_cycle =
        let seat = seat_of network ms ids attempts s k e n in
        let it = item network ms ids attempts s k e n in
        let tr = trial_by seat.1.base network n.m seat.0 n.a.phase in
        let time = in_all (λ p. p.end ≤ limit_of tr p.hop) n.a.placed.items it.0 n.p seat.1.time it.1 in
        let limit = limit_by (is_last network n.p.hop) (unwrap_or n.m.by (schedule_end network)) (schedule_end network) in
        let room = (s.keeps ScheduleStart 0).ends in
        let end = end_is in
        omega (arith, time, limit, room, end)

  pub ends_in_cycle : (place : ℕ) → EndsInCycle p_net place
  ends_in_cycle place e is =
      elim (entry_of network ms ids attempts s place e is) [
        | inl old ↦ s.keeps WindowEnds place e old
        | inr n ↦ in_cycle place e n
      ]

  -- ---- the virtual links

  pub has_period : (place : ℕ) → HasPeriod p_net place
  has_period place vl at =
      elim (parts_at network.vl (vls_of ms ids attempts) place vl at) [
        | inl old ↦ s.keeps Periods place vl old
        | inr (j, past, there) ↦
            let v = vl_at ms ids attempts j vl there in
            let seat = s.seat j v.m v.a v.at_m v.at_a in
            subst (λ (x : VirtualLink). Contains (1 ∷ 2 ∷ 4 ∷ 8 ∷ 16 ∷ 32 ∷ 64 ∷ []) x.period × (x.phase < x.period)) (sym v.is)
            (s.period j v.m v.at_m, phase_within v.m.phase v.m.period v.a.phase (s.phase j v.m v.at_m) seat.1.phase)
      ]
    where
      phase_within : (given : Option ℕ) (period phase : ℕ) → IfSome given (λ n. n < period) → IsPhaseBy period given phase → phase < period
      phase_within None period phase asked is = is
      phase_within (Some n) period phase asked is = omega (arith, asked, is)

  pub has_sender : (place : ℕ) → HasEndSystemAsSender p_net place
  has_sender place vl at =
      elim (parts_at network.vl (vls_of ms ids attempts) place vl at) [
        | inl old ↦ s.keeps Senders place vl old
        | inr (j, past, there) ↦
            let v = vl_at ms ids attempts j vl there in
            subst (λ (x : VirtualLink). IsEndSystem network x.sender) (sym v.is) (s.sender j v.m v.at_m)
      ]

  -- ---- once by a link

  pub goes_once : (place : ℕ) → GoesOnceByLink p_net place
  goes_once place k earlier row below at there same links =
      elim (parts_at network.row (rows_from network (length network.vl) attempts) place row there) [
        | inl new_is_old ↦
            elim (parts_at network.row (rows_from network (length network.vl) attempts) k earlier at) [
              | inl old ↦ s.keeps LinksOnce place k earlier row below old new_is_old same links
              | inr (i, past, late) ↦ let within = slice_get_within network.row place row new_is_old in absurd (omega (arith, below, past, within))
            ]
        | inr (i, past, new) ↦
            let r = row_at network (length network.vl) attempts i row new in
            elim (parts_at network.row (rows_from network (length network.vl) attempts) k earlier at) [
              | inl old ↦
                  let within = old_vl network ms ids attempts s k earlier old in
                  let number : row.vl.0 ≡ length network.vl + r.j = ap (λ (x : Row). x.vl.0) r.is in
                  let numbers : row.vl.0 ≡ earlier.vl.0 = ap (λ (v : VlId). v.0) same in
                  absurd (omega (arith, within, number, numbers))
              | inr (h, before, late) ↦
                  let q = row_at network (length network.vl) attempts h earlier late in
                  let one : row.vl.0 ≡ length network.vl + r.j = ap (λ (x : Row). x.vl.0) r.is in
                  let other : earlier.vl.0 ≡ length network.vl + q.j = ap (λ (x : Row). x.vl.0) q.is in
                  let numbers : row.vl.0 ≡ earlier.vl.0 = ap (λ (v : VlId). v.0) same in
                  let turns : q.j ≡ r.j = omega (arith, one, other, numbers) in
                  let mine : q.a ≡ r.a = some_same q.a r.a (slice_get attempts r.j) (subst (λ (j : ℕ). slice_get attempts j ≡ Some q.a) turns q.at_a) r.at_a in
                  let at_q = subst (λ a. slice_get (in_order network a) q.i ≡ Some q.p) mine q.at_p in
                  let bases : base network attempts q.j ≡ base network attempts r.j = ap (base network attempts) turns in
                  let place_r = r.place in
                  let place_q = q.place in
                  let less = in_links network r.a q.i r.i q.p r.p (omega (arith, below, past, before, place_r, place_q, bases)) at_q r.at_p in
                  let here : row.link ≡ r.p.hop.link = ap (λ (x : Row). x.link) r.is in
                  let there_too : earlier.link ≡ q.p.hop.link = ap (λ (x : Row). x.link) q.is in
                  let equal : r.p.hop.link.0 ≡ q.p.hop.link.0 = ap (λ (l : LinkId). l.0) (sym here ∙ links ∙ there_too) in
                  absurd (omega (arith, less, equal))
            ]
      ]

  -- ---- where the rows of a message go

  -- a link with its child in a channel is one of it
  child_on : (link : LinkId) (l : Link) (c : Channel) → link_at network link ≡ Some l → IsSwitchOf network c l.child → IsSwitchOf network c l.parent
  child_on link l c at switch =
      let joins = s.keeps Joints link.0 l at in
      ⊎_elim
      (λ (end : IsEndSystem network l.child). absurd (no_switch c l.child s.range end switch))
      (λ (relay : IsRoleOf network Relay joins.0 l.child).
      let same = one_channel network joins.0 c l.child (relay_is network joins.0 l.child relay) switch in
      subst (λ x. IsSwitchOf network x l.parent) same joins.1)
      joins.2

  -- and one with its parent in it has its child there, if it is a switch
  parent_on : (link : LinkId) (l : Link) (c : Channel) → link_at network link ≡ Some l → IsSwitchOf network c l.parent → IsSwitch network l.child
      → IsSwitchOf network c l.child
  parent_on link l c at switch child =
      let joins = s.keeps Joints link.0 l at in
      ⊎_elim
      (λ (end : IsEndSystem network l.child). absurd (no_end network l.child child end))
      (λ (relay : IsRoleOf network Relay joins.0 l.child).
      let same = one_channel network joins.0 c l.parent joins.1 switch in
      subst (λ x. IsSwitchOf network x l.child) same (relay_is network joins.0 l.child relay))
      joins.2

  -- each row of a message has an entry
  entry_for : (j : ℕ) (m : Message) (a : Attempt) → slice_get ms j ≡ Some m → slice_get attempts j ≡ Some a → (l : ℕ) (q : Placed)
      → slice_get a.placed.items l ≡ Some q → HasEntry network ms ids attempts s j m a q
  entry_for j m a at_m at_a l q at =
      let seat = s.seat j m a at_m at_a in
      let g = s.ground j m at_m in
      let all = its_courses network seat.0 m a seat.1 g in
      let i = in_all (ItsCourse network seat.0 m a seat.1 g) a.placed.items l q all at in
      let within = slice_get_within network.link q.hop.link.0 i.course.link i.course.at in
      let there = each_there network a l q at within
      (λ r h at_r same. by_link network seat.0 m a seat.1 g r q (in_all (ItsCourse network seat.0 m a seat.1 g) a.placed.items h r all at_r) i
      (same_link r.hop.link q.hop.link same)) in
      entry_there network ms ids attempts s j m a there.0 q i.course.link at_m at_a there.1 i.course.at

  module _ (k : ℕ) (e : Entry) (n : New k e) where
    abbrev Its : Placed → Type 0
    Its p =
        ItsCourse network (seat_of network ms ids attempts s k e n).0 n.m n.a (seat_of network ms ids attempts s k e n).1
        (ground_of network ms ids attempts s k e n) p

    its : (l : ℕ) (q : Placed) → slice_get n.a.placed.items l ≡ Some q → Its q
    its l q at = course_at network ms ids attempts s k e n l q at

    one_by_link : (p q : Placed) → Its p → Its q → p.hop.link ≡ q.hop.link → p ≡ q
    one_by_link p q one other link =
        by_link network (seat_of network ms ids attempts s k e n).0 n.m n.a (seat_of network ms ids attempts s k e n).1
        (ground_of network ms ids attempts s k e n) p q one other link

    -- a row that enters a switch of a channel is on it
    enters_on : (q : Placed) (i : Its q) (c : Channel) → IsSwitchOf network c (target_by q.hop.way i.course.link) → i.channel ≡ c
    enters_on q i c switch = by q.hop.way refl
      where
        by : (w : Way) → q.hop.way ≡ w → i.channel ≡ c
        by Up up =
            one_channel network i.channel c i.course.link.parent i.course.on
            (subst (IsSwitchOf network c) (ap (λ w. target_by w i.course.link) up) switch)
        by Down down =
            one_channel network i.channel c i.course.link.parent i.course.on
            (child_on q.hop.link i.course.link c i.course.at (subst (IsSwitchOf network c) (ap (λ w. target_by w i.course.link) down) switch))

    -- the switch that it enters is of its channel
    switch_on : (q : Placed) (i : Its q) → IsSwitch network (target_by q.hop.way i.course.link) → IsSwitchOf network i.channel (target_by q.hop.way i.course.link)
    switch_on q i switch = by q.hop.way refl
      where
        by : (w : Way) → q.hop.way ≡ w → IsSwitchOf network i.channel (target_by q.hop.way i.course.link)
        by Up up = subst (IsSwitchOf network i.channel) (sym (ap (λ w. target_by w i.course.link) up)) i.course.on
        by Down down =
            let child = ap (λ w. target_by w i.course.link) down in
            subst (IsSwitchOf network i.channel) (sym child)
            (parent_on q.hop.link i.course.link i.channel i.course.at i.course.on (subst (IsSwitch network) child switch))

    one_by_target : (p q : Placed) (one : Its p) (other : Its q) → one.channel ≡ other.channel
        → target_by p.hop.way one.course.link ≡ target_by q.hop.way other.course.link → p ≡ q
    one_by_target p q one other channels same =
        by_target network (seat_of network ms ids attempts s k e n).0 n.m n.a (seat_of network ms ids attempts s k e n).1
        (ground_of network ms ids attempts s k e n) p q one other channels same

    -- each of the message's rows has an entry
    entry_by : (l : ℕ) (q : Placed) → slice_get n.a.placed.items l ≡ Some q → HasEntry network ms ids attempts s n.j n.m n.a q
    entry_by l q at = entry_for n.j n.m n.a n.at_m n.at_a l q at

    own_at : Its n.p
    own_at = course network ms ids attempts s k e n

    link_own : own_at.course.link ≡ e.link
    link_own = some_same own_at.course.link e.link (link_at network n.p.hop.link) own_at.course.at n.link

    source_own : source_of e ≡ source_by n.p.hop.way own_at.course.link
    source_own = source_is network ms ids attempts s k e n ∙ ap (source_by n.p.hop.way) (sym link_own)

    target_own : target_of e ≡ target_by n.p.hop.way own_at.course.link
    target_own = target_is network ms ids attempts s k e n ∙ ap (target_by n.p.hop.way) (sym link_own)

    -- the row before it
    record HasBefore : Type 0 where
      pub l : ℕ
      pub q : Placed
      pub at : slice_get n.a.placed.items l ≡ Some q
      pub link : Link
      pub at_link : link_at network q.hop.link ≡ Some link
      pub target : target_by q.hop.way link ≡ source_of e
      pub switch : IsSwitchOf network own_at.channel (source_of e)
      pub behind : q.end < n.p.offset

    before_it : ((source_of e ≡ e.vl.sender) × (start_of (trial_by (seat_of network ms ids attempts s k e n).1.base network n.m
        (seat_of network ms ids attempts s k e n).0 n.a.phase) ≤ n.p.offset)) ⊎ HasBefore
    before_it =
        elim own_at.course.behind [
          | inl (sends, late, none) ↦ inl (source_own ∙ sends ∙ sym (sender_is network ms ids attempts s k e n), late)
          | inr (q, link, qs, before, at_link, target, switch, behind) ↦
              let among = own_at.among q (subst (λ (xs : List Placed). Contains xs q) (sym before) (Contains-append_right qs (q ∷ []) q (0, omega arith, refl))) in
              let at = contains_at n.a.placed.items q among in
              inr (record {
                l = at.0;
                q = q;
                at = at.1;
                link = link;
                at_link = at_link;
                target = target ∙ sym source_own;
                switch = subst (IsSwitchOf network own_at.channel) (sym source_own) switch;
                behind = behind;
              })
        ]

    not_late : n.p.offset ≤ n.p.end
    not_late =
        let seat = seat_of network ms ids attempts s k e n in
        let it = item network ms ids attempts s k e n in
        (in_all IsOrdered n.a.placed.items it.0 n.p seat.1.ordered it.1).0

    sourced : IsEntry p_net k e → (source_of e ≡ e.vl.sender) ⊎ (IsSwitch p_net (source_of e) × ((h : ℕ) × (h ≢ k) × Enters p_net h e.row.vl (source_of e)))
    sourced is =
        elim before_it [
          | inl first ↦ inl first.0
          | inr b ↦
              let there = entry_by b.l b.q b.at in
              let links = some_same there.e.link b.link (link_at network b.q.hop.link) there.link b.at_link in
              let target : target_of there.e ≡ source_of e =
              ap (λ (r : Row). target_by r.way there.e.link) there.row ∙ ap (target_by b.q.hop.way) links ∙ b.target in
              let vl : there.e.row.vl ≡ e.row.vl = ap (λ (r : Row). r.vl) there.row ∙ sym (ap (λ (r : Row). r.vl) n.row) in
              inr (
                switch_is own_at.channel (source_of e) s.range b.switch,
                (there.k, not_same b there is, record { entry = there.e; is = there.is; same_vl = vl; target = target }),
              )
        ]
      where
        not_same : (b : HasBefore) (there : HasEntry network ms ids attempts s n.j n.m n.a b.q) → IsEntry p_net k e → there.k ≢ k
        not_same b there is at =
            let rows = some_same there.e.row e.row (slice_get p_net.row k)
            (subst (λ (h : ℕ). slice_get p_net.row h ≡ Some there.e.row) at there.is.row) is.row in
            let links = sym (ap (λ (r : Row). r.link) there.row) ∙ ap (λ (r : Row). r.link) rows ∙ ap (λ (r : Row). r.link) n.row in
            let one = one_by_link b.q n.p (its b.l b.q b.at) own_at links in
            let behind = b.behind in
            let ends : b.q.end ≡ n.p.end = ap (λ (p : Placed). p.end) one in
            let order = not_late in
            omega (arith, behind, ends, order)

    -- ---- beside another row of the message

    module _ (h : ℕ) (f : Entry) (o : New h f) (same_vl : e.row.vl ≡ f.row.vl) where
      turns : o.j ≡ n.j
      turns =
          let one = vl_no network ms ids attempts s k e n in
          let other = vl_no network ms ids attempts s h f o in
          let equal : e.row.vl.0 ≡ f.row.vl.0 = ap (λ (v : VlId). v.0) same_vl in
          omega (arith, one, other, equal)

      mine : o.a ≡ n.a
      mine = some_same o.a n.a (slice_get attempts n.j) (subst (λ (j : ℕ). slice_get attempts j ≡ Some o.a) turns o.at_a) n.at_a

      at_order : slice_get (in_order network n.a) o.i ≡ Some o.p
      at_order = subst (λ x. slice_get (in_order network x) o.i ≡ Some o.p) mine o.at_p

      other_item : (l : ℕ) × (slice_get n.a.placed.items l ≡ Some o.p)
      other_item = of_items network n.a o.i o.p at_order

      other_at : Its o.p
      other_at = its other_item.0 o.p other_item.1

      other_link : other_at.course.link ≡ f.link
      other_link = some_same other_at.course.link f.link (link_at network o.p.hop.link) other_at.course.at o.link

      other_target : target_of f ≡ target_by o.p.hop.way other_at.course.link
      other_target = target_is network ms ids attempts s h f o ∙ ap (target_by o.p.hop.way) (sym other_link)

      -- rows that enter one device on one channel are one
      one_row : own_at.channel ≡ other_at.channel → target_of e ≡ target_of f → n.p ≡ o.p
      one_row channels target = one_by_target n.p o.p own_at other_at channels (sym target_own ∙ target ∙ other_target)

      -- but an earlier one goes by another link
      never_one : h < k → n.p ≡ o.p → ⊥
      never_one below one =
          let bases : base network attempts o.j ≡ base network attempts n.j = ap (base network attempts) turns in
          let place = n.place in
          let place_o = o.place in
          let less = in_links network n.a o.i n.i o.p n.p (omega (arith, below, place, place_o, bases)) at_order n.at_p in
          let equal : n.p.hop.link.0 ≡ o.p.hop.link.0 = ap (λ (p : Placed). p.hop.link.0) one in
          omega (arith, less, equal)

      -- the row that enters the source of this one is that before it
      behind_other : target_of f ≡ source_of e → source_of e ≢ e.vl.sender → window_end p_net f < amount e.row.offset
      behind_other target other =
          elim before_it [
            | inl first ↦ absurd (other first.0)
            | inr b ↦
                let i = its b.l b.q b.at in
                let links = some_same i.course.link b.link (link_at network b.q.hop.link) i.course.at b.at_link in
                let there : target_by b.q.hop.way i.course.link ≡ source_of e = ap (target_by b.q.hop.way) links ∙ b.target in
                let one = enters_on b.q i own_at.channel (subst (IsSwitchOf network own_at.channel) (sym there) b.switch) in
                let here : target_by o.p.hop.way other_at.course.link ≡ source_of e = sym other_target ∙ target in
                let two = enters_on o.p other_at own_at.channel (subst (IsSwitchOf network own_at.channel) (sym here) b.switch) in
                let same = one_by_target o.p b.q other_at i (two ∙ sym one) (here ∙ sym there) in
                let ends = end_is h f o in
                let equal : o.p.end ≡ b.q.end = ap (λ (p : Placed). p.end) same in
                let behind = b.behind in
                let offset = offset_is network ms ids attempts s k e n in
                omega (arith, ends, equal, behind, offset)
          ]

  -- an old row and a new one are not of one virtual link
  not_both : (k h : ℕ) (e f : Entry) → New k e → IsEntry network h f → e.row.vl ≡ f.row.vl → ⊥
  not_both k h e f n old same =
      let number = vl_no network ms ids attempts s k e n in
      let within = old_vl network ms ids attempts s h f.row old.row in
      let equal : e.row.vl.0 ≡ f.row.vl.0 = ap (λ (v : VlId). v.0) same in
      omega (arith, number, within, equal)

  -- ---- the rules of rows

  pub has_source : (place : ℕ) → HasSource p_net place
  has_source place e is =
      elim (entry_of network ms ids attempts s place e is) [
        | inr n ↦ sourced place e n is
        | inl old ↦ elim (s.keeps Sources place e old) [
          | inl sender ↦ inl sender
          | inr (switch, (h, other, enters)) ↦
              inr (
                switch,
                (
                  h,
                  other,
                  record {
                    entry = enters.entry;
                    is = old_there network ms ids attempts s h enters.entry enters.is;
                    same_vl = enters.same_vl;
                    target = enters.target;
                  },
                ),
              )
        ]
      ]

  pub comes_in_time : (place : ℕ) → ComesInTime p_net place
  comes_in_time place = record {
    from_sender = λ e is source. elim (entry_of network ms ids attempts s place e is) [
      | inl old ↦ (s.keeps Forwarding place).from_sender e old source
      | inr n ↦ elim (before_it place e n) [
        | inl first ↦
            let late = first.1 in
            let begin = le-max_left (amount network.tt_start) (unwrap_or n.m.after 0) in
            let offset = offset_is network ms ids attempts s place e n in
            (omega (arith, late, begin, offset))
        | inr b ↦
            let sender = source ∙ sender_is network ms ids attempts s place e n in
            absurd (no_switch (own_at place e n).channel n.m.sender s.range (s.sender n.j n.m n.at_m)
            (subst (IsSwitchOf network (own_at place e n).channel) sender b.switch))
      ]
    ];
    from_switch = λ h f e entering is same other target. elim (entry_of network ms ids attempts s place e is) [
      | inl old ↦ elim (entry_of network ms ids attempts s h f entering) [
        | inl too ↦ (s.keeps Forwarding place).from_switch h f e too old same other target
        | inr o ↦ absurd (not_both h place f e o old (sym same))
      ]
      | inr n ↦ elim (entry_of network ms ids attempts s h f entering) [
        | inl too ↦ absurd (not_both place h e f n too same)
        | inr o ↦ behind_other place e n h f o same target other
      ]
    ];
  }

  pub enters_anew : (place : ℕ) → EntersAnew p_net place
  enters_anew place = record {
    no_sender = λ e is same. elim (entry_of network ms ids attempts s place e is) [
      | inl old ↦ (s.keeps Targets place).no_sender e old same
      | inr n ↦
          let own = own_at place e n in
          let g = ground_of network ms ids attempts s place e n in
          let seat = seat_of network ms ids attempts s place e n in
          let tr = trial_by seat.1.base network n.m seat.0 n.a.phase in
          not_to_sender network g.trees own.channel n.m.sender (g.from own.channel) (g.path own.channel) tr (start_of tr) (g.no_switch own.channel) n.p own.course
          (sym (target_own place e n) ∙ same ∙ sender_is network ms ids attempts s place e n)
    ];
    switches = λ h f e below was is same switch target. elim (entry_of network ms ids attempts s place e is) [
      | inl old ↦ elim (entry_of network ms ids attempts s h f was) [
        | inl too ↦ (s.keeps Targets place).switches h f e below too old same switch target
        | inr o ↦ not_both h place f e o old (sym same)
      ]
      | inr n ↦ elim (entry_of network ms ids attempts s h f was) [
        | inl too ↦ not_both place h e f n too same
        | inr o ↦
            let own = own_at place e n in
            let other = other_at place e n h f o same in
            let on = switch_on place e n n.p own (subst (IsSwitch network) (target_own place e n) switch) in
            let here : target_by n.p.hop.way own.course.link ≡ target_by o.p.hop.way other.course.link =
            sym (target_own place e n) ∙ target ∙ other_target place e n h f o same in
            let channels = enters_on place e n o.p other own.channel (subst (IsSwitchOf network own.channel) here on) in
            never_one place e n h f o same below (one_row place e n h f o same (sym channels) target)
      ]
    ];
    end_systems = λ h f e channel below was is same end on_f on_e target. elim (entry_of network ms ids attempts s place e is) [
      | inl old ↦ elim (entry_of network ms ids attempts s h f was) [
        | inl too ↦ (s.keeps Targets place).end_systems h f e channel below too old same end on_f on_e target
        | inr o ↦ not_both h place f e o old (sym same)
      ]
      | inr n ↦ elim (entry_of network ms ids attempts s h f was) [
        | inl too ↦ not_both place h e f n too same
        | inr o ↦
            let own = own_at place e n in
            let other = other_at place e n h f o same in
            let one = one_channel network own.channel channel own.course.link.parent own.course.on
            (subst (λ (l : Link). IsSwitchOf network channel l.parent) (sym (link_own place e n)) on_e) in
            let two = one_channel network other.channel channel other.course.link.parent other.course.on
            (subst (λ (l : Link). IsSwitchOf network channel l.parent) (sym (other_link place e n h f o same)) on_f) in
            never_one place e n h f o same below (one_row place e n h f o same (one ∙ sym two) target)
      ]
    ];
  }

  -- ---- both channels

  leaves_old : (vl : VlId) (channel : Channel) (d : DeviceId) → LeavesOn network vl channel d → LeavesOn p_net vl channel d
  leaves_old vl channel d l = record {
    place = l.place;
    entry = l.entry;
    is = old_there network ms ids attempts s l.place l.entry l.is;
    same_vl = l.same_vl;
    on_channel = l.on_channel;
    source = l.source;
  }

  enters_old : (vl : VlId) (channel : Channel) (d : DeviceId) → EntersOn network vl channel d → EntersOn p_net vl channel d
  enters_old vl channel d l = record {
    place = l.place;
    entry = l.entry;
    is = old_there network ms ids attempts s l.place l.entry l.is;
    same_vl = l.same_vl;
    on_channel = l.on_channel;
    target = l.target;
  }

  vl_by : (place j : ℕ) → place ≡ length network.vl + j → (v : VlId) → v ≡ record { 0 = length network.vl + j } → v ≡ record { 0 = place }
  vl_by place j is v own = own ∙ ap (λ (n : ℕ). let x : VlId = record { 0 = n } in x) (sym is)

  module _ (place j : ℕ) (m : Message) (a : Attempt) (is : place ≡ length network.vl + j) (at_m : slice_get ms j ≡ Some m)
      (at_a : slice_get attempts j ≡ Some a) where
    leaves_new : (channel : Channel) → LeavesOn p_net (record { 0 = place }) channel m.sender
    leaves_new channel =
        let seat = s.seat j m a at_m at_a in
        let r = s.some j m at_m in
        let f = first_of network seat.0 m a seat.1 (s.ground j m at_m) channel r.0 r.1 (s.others j m at_m r.0 r.1) in
        let at = contains_at a.placed.items f.0 f.2 in
        let there = entry_for j m a at_m at_a at.0 f.0 at.1 in
        let links = some_same f.1 there.e.link (link_at network f.0.hop.link) f.3 there.link in
        record {
          place = there.k;
          entry = there.e;
          is = there.is;
          same_vl = vl_by place j is there.e.row.vl (ap (λ (x : Row). x.vl) there.row);
          on_channel = subst (λ (l : Link). IsSwitchOf network channel l.parent) links f.4;
          source = ap (λ (x : Row). source_by x.way there.e.link) there.row ∙ ap (source_by f.0.hop.way) (sym links) ∙ f.5;
        }

    enters_new : (channel : Channel) (receiver : DeviceId) → Contains m.receivers receiver → EntersOn p_net (record { 0 = place }) channel receiver
    enters_new channel receiver of =
        let seat = s.seat j m a at_m at_a in
        let f = last_of network seat.0 m a seat.1 (s.ground j m at_m) channel receiver of (s.others j m at_m receiver of) in
        let at = contains_at a.placed.items f.0 f.2 in
        let there = entry_for j m a at_m at_a at.0 f.0 at.1 in
        let links = some_same f.1 there.e.link (link_at network f.0.hop.link) f.3 there.link in
        record {
          place = there.k;
          entry = there.e;
          is = there.is;
          same_vl = vl_by place j is there.e.row.vl (ap (λ (x : Row). x.vl) there.row);
          on_channel = subst (λ (l : Link). IsSwitchOf network channel l.parent) links f.4;
          target = ap (λ (x : Row). target_by x.way there.e.link) there.row ∙ ap (target_by f.0.hop.way) (sym links) ∙ f.5;
        }

  -- an end system that a row of a message enters is a receiver
  is_receiver : (k : ℕ) (e : Entry) (n : New k e) (d : DeviceId) → IsEndSystem network d → target_of e ≡ d → Contains n.m.receivers d
  is_receiver k e n d end target =
      let own = own_at k e n in
      let links = some_same own.enters.link own.course.link (link_at network n.p.hop.link) own.enters.at own.course.at in
      let there : target_by n.p.hop.way own.enters.link ≡ d = ap (target_by n.p.hop.way) links ∙ sym (target_own k e n) ∙ target in
      elim own.enters.target [
        | inl same ↦ subst (Contains n.m.receivers) (sym same ∙ there) own.of_message
        | inr switch ↦ absurd (no_switch own.channel d s.range end (subst (IsSwitchOf network own.channel) there switch))
      ]

  pub both_channels : (place : ℕ) → GoesByBothChannels p_net place
  both_channels place = record {
    leaves = λ vl channel at. elim (parts_at network.vl (vls_of ms ids attempts) place vl at) [
      | inl old ↦ leaves_old (record { 0 = place }) channel vl.sender ((s.keeps BothChannels place).leaves vl channel old)
      | inr (j, past, there) ↦
          let v = vl_at ms ids attempts j vl there in
          subst (λ (x : VirtualLink). LeavesOn p_net (record { 0 = place }) channel x.sender) (sym v.is)
          (leaves_new place j v.m v.a past v.at_m v.at_a channel)
    ];
    enters = λ vl at. elim (parts_at network.vl (vls_of ms ids attempts) place vl at) [
      | inl old ↦
          let it = (s.keeps BothChannels place).enters vl old in
          (it.0, it.1, it.2, enters_old (record { 0 = place }) it.0 it.1 it.3)
      | inr (j, past, there) ↦
          let v = vl_at ms ids attempts j vl there in
          let r = s.some j v.m v.at_m in
          (A, r.0, s.receivers j v.m v.at_m r.0 r.1, enters_new place j v.m v.a past v.at_m v.at_a A r.0 r.1)
    ];
    same = λ d channel other end enters. elim (entry_of network ms ids attempts s enters.place enters.entry enters.is) [
      | inl old ↦
          enters_old (record { 0 = place }) other d
          ((s.keeps BothChannels place).same d channel other end (record {
            place = enters.place;
            entry = enters.entry;
            is = old;
            same_vl = enters.same_vl;
            on_channel = enters.on_channel;
            target = enters.target;
          }))
      | inr n ↦
          let number = vl_no network ms ids attempts s enters.place enters.entry n in
          let own : enters.entry.row.vl.0 ≡ place = ap (λ (v : VlId). v.0) enters.same_vl in
          enters_new place n.j n.m n.a (omega (arith, number, own)) n.at_m n.at_a other d
          (is_receiver enters.place enters.entry n d end enters.target)
    ];
  }

  -- ---- spacing

  module _ (k : ℕ) (e : Entry) (n : New k e) (t : Taken) (f : Entry) (link : e.row.link ≡ f.row.link) (way : e.row.way ≡ f.row.way)
      (together : Coincide e.vl f.vl) where
    -- a row clear of the other stands apart from it
    clear_of : Contains (seat_of network ms ids attempts s k e n).0 t → t.slot.link ≡ f.row.link → t.slot.way ≡ f.row.way → t.slot.period ≡ f.vl.period
        → t.slot.phase ≡ f.vl.phase → t.slot.port ≡ port_time f → t.offset ≡ amount f.row.offset → IsClearBefore p_net f e ⊎ IsClearBefore p_net e f
    clear_of among links ways period phase port offset =
        let seat = seat_of network ms ids attempts s k e n in
        let gamma = gamma_of network in
        let slot = slot_of (trial_by seat.1.base network n.m seat.0 n.a.phase) n.p.hop in
        let at = contains_at seat.0 t among in
        let clear : ¬ Hits gamma slot n.p.offset t = in_all (λ r. ¬ Hits gamma slot n.p.offset r) seat.0 at.0 t (own k e n).course.clear at.1 in
        let own_vl : (n.a.phase % min n.m.period f.vl.period) ≡ (f.vl.phase % min n.m.period f.vl.period) =
        subst (λ (v : VirtualLink). v.phase % min v.period f.vl.period ≡ f.vl.phase % min v.period f.vl.period) n.vl together in
        let phases : (n.a.phase % min n.m.period t.slot.period) ≡ (t.slot.phase % min n.m.period t.slot.period) =
        subst (λ (x : ℕ). n.a.phase % min n.m.period x ≡ t.slot.phase % min n.m.period x) (sym period)
        (subst (λ (x : ℕ). n.a.phase % min n.m.period f.vl.period ≡ x % min n.m.period f.vl.period) (sym phase) own_vl) in
        let meets : Meets slot t.slot = record {
          link = sym (link_no network ms ids attempts s k e n) ∙ link ∙ sym links;
          way = sym (way_is network ms ids attempts s k e n) ∙ way ∙ sym ways;
          phase = phases;
        } in
        let own_port = port_is k e n in
        let own_offset = offset_is network ms ids attempts s k e n in
        elim (cases_lt t.offset (n.p.offset + slot.port + gamma)) [
          | inr ge ↦ inr (omega (arith, ge, own_port, own_offset, offset))
          | inl ahead ↦ elim (cases_lt n.p.offset (ends_at gamma t)) [
            | inr ge ↦ inl (omega (arith, ge, own_offset, offset, port))
            | inl behind ↦ absurd (clear (record { meets = meets; ahead = ahead; behind = behind }))
          ]
        ]

  either_way : {X Y : Type 0} → X ⊎ Y → Y ⊎ X
  either_way (inl x) = inr x
  either_way (inr y) = inl y

  pub stands_apart : (place : ℕ) → StandsApart p_net place
  stands_apart place k f e below was is link way together =
      elim (entry_of network ms ids attempts s place e is) [
        | inl old ↦ elim (entry_of network ms ids attempts s k f was) [
          | inl too ↦ s.keeps Spacing place k f e below too old link way together
          | inr o ↦
              let within = slice_get_within network.row place e.row old.row in
              let past = o.place in
              absurd (omega (arith, below, within, past))
        ]
        | inr n ↦ elim (entry_of network ms ids attempts s k f was) [
          | inl too ↦
              clear_of place e n (taken_by f) f link way together (s.there_in n.j n.m n.a n.at_m n.at_a k f too) refl refl refl refl refl refl
          | inr o ↦ elim (cases_eq o.j n.j) [
            | inl same ↦
                let one = vl_no network ms ids attempts s place e n in
                let other = vl_no network ms ids attempts s k f o in
                let vls = same_vl e.row.vl f.row.vl (omega (arith, one, other, same)) in
                absurd (goes_once place k f.row e.row below was.row is.row vls link)
            | inr apart ↦ elim (s.apart o.j n.j o.m n.m o.a n.a o.at_m n.at_m o.at_a n.at_a apart) [
              | inl earlier ↦
                  let it = item network ms ids attempts s k f o in
                  clear_of place e n (taken_of network o.m o.a.phase o.p) f link way together (earlier it.0 o.p it.1)
                  (sym (link_no network ms ids attempts s k f o)) (sym (way_is network ms ids attempts s k f o))
                  (ap (λ (v : VirtualLink). v.period) (sym o.vl)) (ap (λ (v : VirtualLink). v.phase) (sym o.vl)) (port_is k f o)
                  (sym (offset_is network ms ids attempts s k f o))
              | inr later ↦
                  let it = item network ms ids attempts s place e n in
                  either_way (clear_of k f o (taken_of network n.m n.a.phase n.p) e (sym link) (sym way) (coincide_back e.vl f.vl together) (later it.0 n.p it.1)
                  (sym (link_no network ms ids attempts s place e n)) (sym (way_is network ms ids attempts s place e n))
                  (ap (λ (v : VirtualLink). v.period) (sym n.vl)) (ap (λ (v : VirtualLink). v.phase) (sym n.vl)) (port_is place e n)
                  (sym (offset_is network ms ids attempts s place e n)))
            ]
          ]
        ]
      ]

  -- ---- names and ids

  pub names_new : (place : ℕ) → VlNameIsNew p_net place
  names_new place k earlier vl below was is =
      elim (parts_at network.vl (vls_of ms ids attempts) place vl is) [
        | inl old ↦ elim (parts_at network.vl (vls_of ms ids attempts) k earlier was) [
          | inl too ↦ s.keeps VlNamesDiffer place k earlier vl below too old
          | inr (i, past, there) ↦ let within = slice_get_within network.vl place vl old in absurd (omega (arith, below, past, within))
        ]
        | inr (j, past, there) ↦
            let v = vl_at ms ids attempts j vl there in
            let own : vl.name ≡ v.m.name = ap (λ (x : VirtualLink). x.name) v.is in
            elim (parts_at network.vl (vls_of ms ids attempts) k earlier was) [
              | inl too ↦ λ same. s.names_new j v.m v.at_m k earlier too (sym own ∙ same)
              | inr (i, before, here) ↦
                  let w = vl_at ms ids attempts i earlier here in
                  let other : earlier.name ≡ w.m.name = ap (λ (x : VirtualLink). x.name) w.is in
                  λ same. s.names_apart i j w.m v.m (omega (arith, below, past, before)) w.at_m v.at_m (sym own ∙ same ∙ other)
            ]
      ]

  pub ids_new : (place : ℕ) → VlIdIsNew p_net place
  ids_new place k earlier vl below was is =
      elim (parts_at network.vl (vls_of ms ids attempts) place vl is) [
        | inl old ↦ elim (parts_at network.vl (vls_of ms ids attempts) k earlier was) [
          | inl too ↦ s.keeps VlIdsDiffer place k earlier vl below too old
          | inr (i, past, there) ↦ let within = slice_get_within network.vl place vl old in absurd (omega (arith, below, past, within))
        ]
        | inr (j, past, there) ↦
            let v = vl_at ms ids attempts j vl there in
            let own : vl.id ≡ v.id = ap (λ (x : VirtualLink). x.id) v.is in
            elim (parts_at network.vl (vls_of ms ids attempts) k earlier was) [
              | inl too ↦ λ same. s.ids_new j v.id v.at_id k earlier too (sym own ∙ same)
              | inr (i, before, here) ↦
                  let w = vl_at ms ids attempts i earlier here in
                  let other : earlier.id ≡ w.id = ap (λ (x : VirtualLink). x.id) w.is in
                  λ same. s.ids_apart i j w.id v.id (omega (arith, below, past, before)) w.at_id v.at_id (sym own ∙ same ∙ other)
            ]
      ]
