-- Decisions: whether the record of a frame that is dispatched, leaves a device, or is lost is due.
use Rattle.std.proofs.{lemmas.Option.slice_get_within}
use Rattle.std.proofs.Common
use Common.{◌%◌, ◌*◌, ◌+◌, ◌<◌, ◌∙◌, ◌≡◌, ◌≤◌, ◌⊎◌, List, Some, ap, arith, false, inl, inr, length, pos, refl}
use Common.{slice_get, subst, sym, true, ℕ}
use Rattle.net_plan.specs.{Places.link_at, Rules.IsChildOf}
use Rattle.net_plan.specs.declared.{event.What.TheVariants.Send, ids.{DeviceId.DeviceId, LinkId.LinkId, VlId.VlId}}
use Rattle.net_plan.specs.declared.{network.Network.Network}
use Rattle.net_plan.specs.declared.{tables.{Link.Link, Row.Row, VirtualLink.VirtualLink, Way.TheVariants.Up}}
use Rattle.precision_law.proofs.traffic_lemmas.existence_lemmas.{bounds.Weights.{bound, cycle_of_dispatch}}
use Rattle.precision_law.proofs.traffic_lemmas.existence_lemmas.decisions.Places.{HasCaused, HasDropped, OfFive}
use Rattle.precision_law.proofs.traffic_lemmas.existence_lemmas.decisions.Places.{OfThree, OfTwo, arrives, by_five}
use Rattle.precision_law.proofs.traffic_lemmas.existence_lemmas.decisions.Places.{by_three, by_two, cause_decided}
use Rattle.precision_law.proofs.traffic_lemmas.existence_lemmas.decisions.Places.{caused, decided_below, decided_in}
use Rattle.precision_law.proofs.traffic_lemmas.existence_lemmas.decisions.Places.{decided_within, dropped_decided}
use Rattle.precision_law.proofs.traffic_lemmas.existence_lemmas.decisions.Places.{is_synchronised, members_by}
use Rattle.precision_law.proofs.traffic_lemmas.existence_lemmas.decisions.Places.{reaches_decided, same_link, same_vl}
use Rattle.run_law.proofs.{runs.SameSteps.same_arrival}
use Rattle.run_law.proofs.scenario.Decisions
use Decisions.{IsDecided, decided_and, decided_by, decided_false, decided_le, decided_or, decided_same, decided_some}
use Decisions.{decided_true, same_device}
use Rattle.run_law.specs.{device.{LocalClocks.Reaches, States.state_before}}
use Rattle.run_law.specs.{records.{Happenings.{Happening, numbered, time_of}, Ranks.{key, rank}}}
use Rattle.run_law.specs.{runs.DueRecords.IsCaused}
use Rattle.run_law.specs.control.{Leaving.{Departs, Departure, Gives, Passes, departure, leaves, on_cut_way, too_old}}
use Rattle.run_law.specs.control.{Losses.{IsDispatchedOn, IsDropped, IsLost, IsSendLost}}
use Rattle.run_law.specs.declared.{judgement.Reason.{Reason, TheVariants.Old}, note.NoteBody.NoteBody}
use Rattle.run_law.specs.declared.{steps.Arrival.Arrival}
use Rattle.run_law.specs.scenario.{Devices.{IsParentOf, is_end}, Scenarios.{Scenario, is_broken}}
use Rattle.run_law.specs.scenario.{Ways.{hold_at, is_cut, way_from}}
use Rattle.run_law.specs.timed.{Dispatching.{Dispatches, HasAccepted, HasAtHand, IsUp, Sends, last_accepted}}
use Rattle.run_law.specs.timed.{Receptions.ArrivesAs}
use Rattle.schedule_tables.{proofs.SlotLemmas.one_entry}
use Rattle.schedule_tables.{specs.{Entries.{IsEntry, source_of}, Windows.OccursIn, declared.entry.Entry.Entry}}
use Rattle.tte_units.{proofs.general_lemmas.Options.one as same_some}
use Rattle.tte_units.{specs.{Amount.{amount, units_of}, declared.frames.pcf.Pcf.Pcf}}
use Rattle.run_law.specs.declared.note.NoteBody.TheVariants as notes
use Rattle.run_law.specs.declared.steps.Arrival.TheVariants as arrivals

-- ---- decisions: whether the record of a frame that leaves a device is due: what gives a frame to a link

module _ (network : Network) (device : DeviceId) (link : LinkId) where
  child : IsDecided (IsChildOf network device link)
  child = decided_some (link_at network link) (λ l. l.child ≡ device) (λ l. same_device l.child device)

  parent : IsDecided (IsParentOf network device link)
  parent = decided_some (link_at network link) (λ l. l.parent ≡ device) (λ l. same_device l.parent device)

passes : (network : Network) (device : DeviceId) (by link : LinkId) → IsDecided (Passes network device by link)
passes network device by link = grind (arith, decided_by, decided_and, decided_true, decided_or, parent, child)

gives : (network : Network) (body : NoteBody) (device : DeviceId) (link : LinkId) → IsDecided (Gives network body device link)
gives network (notes.Sent master cycle) device link = decided_and (same_device device master) (child network device link)
gives network (notes.Compressed cm opened at cycle members verdict) device link = decided_and (same_device device cm) (parent network device link)
gives network (notes.Arrived relay by cause clock) device link = decided_and (same_device device relay) (passes network device by link)
gives network other device link = inr (λ h. h)

-- ---- what becomes of a frame when it leaves

-- a frame leaves, and this becomes of it
abbrev pub HasDeparture : Scenario → List Happening → DeviceId → ℕ → LinkId → ℕ → Type 0
HasDeparture s hs device t link cause = (is : Departure) × Departs s hs device t link cause is

-- the record gives a frame to the link, which leaves at the time
abbrev LeavesThen : Scenario → Happening → DeviceId → ℕ → LinkId → Type 0
LeavesThen s g device t link =
    Gives s.network g.note.body device link
    × ((t ≡ time_of g + hold_at s link (way_from s.network device link) (time_of g)) × (is_broken s device t ≡ false))

module _ (s : Scenario) (hs : List Happening) (device : DeviceId) (t : ℕ) (link : LinkId) (cause : ℕ) where
  there : (g : Happening) → numbered hs cause ≡ Some g → (frame : Pcf) → g.frame ≡ Some frame → LeavesThen s g device t link
      → HasDeparture s hs device t link cause
  there g e frame of h = (
    departure s device link frame (time_of g) t,
    record {
      giving = g;
      there = e;
      gives = h.0;
      frame = frame;
      of_frame = of;
      held = h.1.0;
      correct = h.1.1;
      becomes = refl;
    },
  )

  back : (g : Happening) → numbered hs cause ≡ Some g → HasDeparture s hs device t link cause → LeavesThen s g device t link
  back g e h =
      rw (sym (same_some (numbered hs cause) h.1.giving g h.1.there e)) (h.1.gives, (h.1.held, h.1.correct))

  framed : (g : Happening) → numbered hs cause ≡ Some g → HasDeparture s hs device t link cause → (frame : Pcf) × (g.frame ≡ Some frame)
  framed g e h = (h.1.frame, rw (sym (same_some (numbered hs cause) h.1.giving g h.1.there e)) h.1.of_frame)

  pub departs : IsDecided (HasDeparture s hs device t link cause)
  departs =
      decided_in (numbered hs cause) (λ g e. decided_in g.frame (λ frame of. decided_by (there g e frame of) (back g e)
      (decided_and (gives s.network g.note.body device link)
      (decided_and (decided_same t (time_of g + hold_at s link (way_from s.network device link) (time_of g))) (decided_false (is_broken s device t)))))
      (framed g e)) (λ h. (h.1.giving, h.1.there))

-- ---- a frame leaves

abbrev HasLeft : Scenario → List Happening → ℕ → ℕ → ℕ → ℕ → Type 0
HasLeft s hs t d l cause = (clock : ℕ) × Departs s hs (record { 0 = d }) t (record { 0 = l }) cause (leaves clock)

left_by : {s : Scenario} {hs : List Happening} {t : ℕ} (d l : ℕ) {cause : ℕ} (is : Departure)
    → Departs s hs (record { 0 = d }) t (record { 0 = l }) cause is → IsDecided (HasLeft s hs t d l cause)
left_by d l (leaves clock) a = inl (clock, a)
left_by {s} {hs} {t} d l {cause} other a =
    inr (λ h. cc)

pub left_decided : (s : Scenario) (hs : List Happening) (t : ℕ) (ks : List ℕ) → IsDecided (HasCaused s hs t 8 ks)
left_decided s hs t ks =
    by_three s hs t 8 (HasLeft s hs t) (λ d l cause h. caused s hs t (notes.Left (record { 0 = d }) (record { 0 = l }) cause h.0) h.1) says
    (λ d l cause. decided_within (departs s hs (record { 0 = d }) t (record { 0 = l }) cause)
    (λ any. left_by d l any.0 any.1)
    (λ h. (leaves h.0, h.1))) ks
  where
    says : (body : NoteBody) → IsCaused s hs (units_of t) body → rank body ≡ 8 → OfThree (HasLeft s hs t) (key (members_by s hs body) body)
    says (notes.Left device link cause clock) is ranked = (clock, is)
    says other is ranked = absurd (omega arith)

-- ---- a frame ends at its leaving

module _ (s : Scenario) (hs : List Happening) (device : DeviceId) (t : ℕ) (link : LinkId) (cause : ℕ) where
  pub old_decided : IsDecided (Departs s hs device t link cause too_old)
  old_decided =
      decided_within (departs s hs device t link cause) (λ any. by any.0 any.1) (λ d. (too_old, d))
    where
      by : (is : Departure) → Departs s hs device t link cause is → IsDecided (Departs s hs device t link cause too_old)
      by too_old a = inl a
      by (leaves clock) a = inr (λ d. cc)
      by on_cut_way a = inr (λ d. cc)

  pub cut_decided : IsDecided (Departs s hs device t link cause on_cut_way)
  cut_decided =
      decided_within (departs s hs device t link cause) (λ any. by any.0 any.1) (λ d. (on_cut_way, d))
    where
      by : (is : Departure) → Departs s hs device t link cause is → IsDecided
          (Departs s hs device t link cause on_cut_way)
      by on_cut_way a = inl a
      by (leaves clock) a = inr (λ d. cc)
      by too_old a = inr (λ d. cc)

-- ---- decisions: whether the record of a master's frame, or of a time-triggered frame that is dispatched, is due

-- ---- a master's frame

is_up : (s : Scenario) (hs : List Happening) (device : DeviceId) (t : ℕ) → IsDecided (IsUp s hs device t)
is_up s hs device t =
    decided_by (λ h. record { synchronised = h.0; correct = h.1 }) (λ r. (r.synchronised, r.correct))
    (decided_and (is_synchronised (state_before s hs device t)) (decided_false (is_broken s device t)))

sends : (s : Scenario) (hs : List Happening) (device : DeviceId) (t cycle : ℕ) → IsDecided (Sends s hs device t cycle)
sends s hs device t cycle = grind (arith, decided_by, decided_and, decided_true, is_up, decided_le, reaches_decided)

abbrev HasSent : Scenario → List Happening → ℕ → ℕ → ℕ → Type 0
HasSent s hs t d cycle = Sends s hs (record { 0 = d }) t cycle

pub sent_decided : (s : Scenario) (hs : List Happening) (t : ℕ) (ks : List ℕ) → IsDecided (HasCaused s hs t 5 ks)
sent_decided s hs t ks =
    by_two s hs t 5 (HasSent s hs t) (λ d cycle h. caused s hs t (notes.Sent (record { 0 = d }) cycle) h) says
    (λ d cycle. sends s hs (record { 0 = d }) t cycle) ks
  where
    says : (body : NoteBody) → IsCaused s hs (units_of t) body → rank body ≡ 5 → OfTwo (HasSent s hs t) (key (members_by s hs body) body)
    says (notes.Sent device cycle) is ranked = is
    says other is ranked = absurd (omega arith)

-- ---- what a device has at hand

accepts : (device : DeviceId) (vl : VlId) (cycle : ℕ) (body : NoteBody)
    → IsDecided ((link : LinkId) × (from : ℕ) × (body ≡ notes.Accepted device link from vl cycle))
accepts device vl cycle (notes.Accepted other link from of_vl number) =
    decided_by
    (λ h. (
      link,
      from,
      rw h.0
          (ap (λ v. notes.Accepted device link from v number) h.1.0
          ∙ ap (λ n. notes.Accepted device link from vl n) h.1.1),
    ))
    (λ h. (cc, (cc, cc))) (decided_and (same_device other device)
    (decided_and (same_vl of_vl vl) (decided_same number cycle)))
accepts device vl cycle other = inr (λ h. cc)

has_accepted : (hs : List Happening) (device : DeviceId) (vl : VlId) (t cause cycle : ℕ) → IsDecided (HasAccepted hs device vl t cause cycle)
has_accepted hs device vl t cause cycle =
    decided_in (last_accepted hs device vl t) (λ taken e. decided_by
    (λ h. record { taken = taken; last = e; number = h.0; link = h.1.0; from = h.1.1; is = h.1.2 })
    (λ r. let one = same_some (last_accepted hs device vl t) r.taken taken r.last e in
    (r.number ∙ ap (λ h. h.note.number) one, (r.link, r.from, rw (sym one) r.is)))
    (decided_and (decided_same cause taken.note.number) (accepts device vl cycle taken.note.body))) (λ r. (r.taken, r.last))

at_hand : (s : Scenario) (hs : List Happening) (device : DeviceId) (entry : Entry) (t cause cycle : ℕ)
    → IsDecided (HasAtHand s.network hs device entry t cause cycle)
at_hand s hs device entry t cause cycle =
    decided_or (decided_and (same_device entry.vl.sender device) (decided_same cause 0))
    (decided_and (decided_false (is_end s.network device)) (has_accepted hs device entry.row.vl t cause cycle))

-- ---- the rows

occurs : (vl : VirtualLink) (cycle : ℕ) → IsDecided (OccursIn vl cycle)
occurs vl cycle =
    decided_by (λ h. record { begun = h.0; in_phase = h.1 }) (λ r. (r.begun, r.in_phase))
    (decided_and (decided_le 1 cycle) (decided_same (cycle % vl.period) vl.phase))

module _ (s : Scenario) (hs : List Happening) (device : DeviceId) (t : ℕ) (link : LinkId) (cause : ℕ) (vl : VlId) (cycle : ℕ) where
  -- the entry's frame of the cycle is dispatched by the device on the link
  abbrev IsDispatched : Entry → Type 0
  IsDispatched entry =
      (entry.row.link ≡ link) × ((entry.row.vl ≡ vl) × ((source_of entry ≡ device) × (OccursIn entry.vl cycle × (IsUp s hs device t
      × (Reaches s hs device (pos (cycle * amount s.network.cycle + amount entry.row.offset)) t × HasAtHand s.network hs device entry t cause cycle)))))

  dispatched : (entry : Entry) → IsDecided (IsDispatched entry)
  dispatched entry =
      decided_and (same_link entry.row.link link) (decided_and (same_vl entry.row.vl vl) (decided_and (same_device (source_of entry) device)
      (decided_and (occurs entry.vl cycle) (decided_and (is_up s hs device t)
      (decided_and (reaches_decided s hs device (pos (cycle * amount s.network.cycle + amount entry.row.offset)) t)
      (at_hand s hs device entry t cause cycle))))))

  -- so is that of the row at the place
  abbrev IsRowAt : ℕ → Type 0
  IsRowAt place = (entry : Entry) × IsEntry s.network place entry × IsDispatched entry

  row_is : (place : ℕ) (row : Row) → slice_get s.network.row place ≡ Some row → (h : IsRowAt place) → h.0.row ≡ row
  row_is place row e h = same_some (slice_get s.network.row place) h.0.row row h.1.row e

  row_at : (place : ℕ) → IsDecided (IsRowAt place)
  row_at place =
      decided_in (slice_get s.network.row place)
      (λ row e. decided_in (slice_get s.network.vl row.vl.0)
      (λ v f. decided_in (slice_get s.network.link row.link.0)
      (λ l g. of_entry row e v f l g)
      (λ h. (h.0.link, rw (row_is place row e h) at h.1.link)))
      (λ h. (h.0.vl, rw (row_is place row e h) at h.1.vl)))
      (λ h. (h.0.row, h.1.row))
    where
      of_entry : (row : Row) → slice_get s.network.row place ≡ Some row → (v : VirtualLink) → slice_get s.network.vl row.vl.0 ≡ Some v
          → (l : Link) → slice_get s.network.link row.link.0 ≡ Some l → IsDecided (IsRowAt place)
      of_entry row e v f l g =
          let entry : Entry = record { row = row; vl = v; link = l } in
          let is : IsEntry s.network place entry = record { row = e; vl = f; link = g } in
          decided_by (λ c. (entry, is, c)) (λ h. subst IsDispatched (one_entry s.network place h.0 entry h.1 is) h.2)
          (dispatched entry)

  pub dispatches_decided : IsDecided (Dispatches s hs device t link cause vl cycle)
  dispatches_decided = decided_by there back (decided_below IsRowAt row_at (length s.network.row))
    where
      there : (place : ℕ) × (place < length s.network.row) × IsRowAt place → Dispatches s hs device t link cause vl cycle
      there (place, lt, (entry, is, (by, (of_vl, (is_left, (occurs, (up, (reached, at_hand)))))))) = record {
        place = place;
        entry = entry;
        row = is;
        by = by;
        of_vl = of_vl;
        leaves = is_left;
        occurs = occurs;
        up = up;
        reached = reached;
        at_hand = at_hand;
      }

      back : Dispatches s hs device t link cause vl cycle → (place : ℕ) × (place < length s.network.row) × IsRowAt place
      back d = (
        d.place,
        slice_get_within s.network.row d.place d.entry.row d.row.row,
        (d.entry, d.row, (d.by, (d.of_vl, (d.leaves, (d.occurs, (d.up, (d.reached, d.at_hand))))))),
      )

-- ---- a frame is dispatched

abbrev HasTtSent : Scenario → List Happening → ℕ → ℕ → ℕ → ℕ → ℕ → ℕ → Type 0
HasTtSent s hs t d l cause vl cycle = IsDispatchedOn s hs (record { 0 = d }) t (record { 0 = l }) cause (record { 0 = vl }) cycle

dispatched_on : (s : Scenario) (hs : List Happening) (t d l cause vl cycle : ℕ) → IsDecided (HasTtSent s hs t d l cause vl cycle)
dispatched_on s hs t d l cause vl cycle =
    decided_by (λ h. record { dispatches = h.0; whole = h.1 }) (λ r. (r.dispatches, r.whole))
    (decided_and (dispatches_decided s hs (record { 0 = d }) t (record { 0 = l }) cause (record { 0 = vl }) cycle)
    (decided_false (is_cut s (record { 0 = l }) (way_from s.network (record { 0 = d }) (record { 0 = l })) t)))

pub tt_sent_decided : (s : Scenario) (hs : List Happening) (t : ℕ) (ks : List ℕ) → IsDecided (HasCaused s hs t 10 ks)
tt_sent_decided s hs t ks =
    by_five s hs t 10 (HasTtSent s hs t)
    (λ d l cause vl cycle h. caused s hs t (notes.TtSent (record { 0 = d }) (record { 0 = l }) cause (record { 0 = vl }) cycle) h) says
    (dispatched_on s hs t) ks
  where
    says : (body : NoteBody) → IsCaused s hs (units_of t) body → rank body ≡ 10 → OfFive (HasTtSent s hs t) (key (members_by s hs body) body)
    says (notes.TtSent device link cause vl cycle) is ranked = is
    says other is ranked = absurd (omega arith)

-- ---- decisions: whether the record of a frame that is lost, or dropped, is due: a frame meets a cut way

-- the body is that of a `send` event on the link
abbrev SendsOn : LinkId → NoteBody → Type 0
SendsOn link body = (line : ℕ) × (octets : List ℕ) × (body ≡ notes.Event line (Send link octets))

sends_on : (link : LinkId) (body : NoteBody) → IsDecided (SendsOn link body)
sends_on link (notes.Event line (Send other octets)) =
    decided_by (λ e. (line, octets, rw e)) (λ h. cc) (same_link other link)
sends_on link other = inr (λ h. cc)

module _ (s : Scenario) (hs : List Happening) (device : DeviceId) (t : ℕ) (link : LinkId) (cause : ℕ) where
  -- the device is the child of the link, whose way up is cut
  abbrev IsCutBelow : Type 0
  IsCutBelow = (way : Link) × (slice_get s.network.link link.0 ≡ Some way) × ((device ≡ way.child) × (is_cut s link Up t ≡ true))

  cut_below : IsDecided IsCutBelow
  cut_below =
      decided_in (slice_get s.network.link link.0) (λ way e. decided_by (λ h. (way, e, h))
      (λ h. rw (same_some (slice_get s.network.link link.0) h.0 way h.1 e) at h.2)
      (decided_and (same_device device way.child) (decided_true (is_cut s link Up t)))) (λ h. (h.0, h.1))

  send_lost : IsDecided (IsSendLost s hs device t link cause)
  send_lost =
      decided_by
      (λ h. record {
        event = h.0.0;
        is = h.0.1;
        line = h.0.2.0;
        octets = h.0.2.1;
        sends = h.0.2.2;
        way = h.1.0;
        there = h.1.1;
        by = h.1.2.0;
        cut = h.1.2.1;
      })
      (λ r. ((r.event, r.is, (r.line, r.octets, r.sends)), (r.way, r.there, (r.by, r.cut))))
      (decided_and (cause_decided hs t cause (λ h. SendsOn link h.note.body) (λ h. sends_on link h.note.body)) cut_below)

  -- a row's frame is dispatched
  abbrev HasDispatch : Type 0
  HasDispatch = (vl : VlId) × (cycle : ℕ) × Dispatches s hs device t link cause vl cycle

  -- that of the virtual link, in a cycle below the bound
  abbrev IsDispatchedFor : ℕ → Type 0
  IsDispatchedFor v = (cycle : ℕ) × (cycle < bound s t hs) × Dispatches s hs device t link cause (record { 0 = v }) cycle

  vl_within : (vl : VlId) (cycle : ℕ) → Dispatches s hs device t link cause vl cycle → vl.0 < length s.network.vl
  vl_within vl cycle d = rw d.of_vl at (slice_get_within s.network.vl d.entry.row.vl.0 d.entry.vl d.row.vl)

  dispatched_for : (v : ℕ) → IsDecided (IsDispatchedFor v)
  dispatched_for v =
      decided_below (λ cycle. Dispatches s hs device t link cause (record { 0 = v }) cycle)
      (λ cycle. dispatches_decided s hs device t link cause (record { 0 = v }) cycle) (bound s t hs)

  dispatch_decided : 1 ≤ amount s.network.cycle → IsDecided HasDispatch
  dispatch_decided some =
      decided_by (λ h. (record { 0 = h.0 }, h.2.0, h.2.2))
      (λ h. (h.0.0, vl_within h.0 h.1 h.2, (h.1, cycle_of_dispatch some h.2, h.2)))
      (decided_below IsDispatchedFor dispatched_for (length s.network.vl))

  lost : 1 ≤ amount s.network.cycle → IsDecided (IsLost s hs device t link cause)
  lost some =
      decided_or (cut_decided s hs device t link cause) (decided_or (decided_by there (λ h. ((h.0, h.1, h.2), h.3))
      (decided_and (dispatch_decided some) (decided_true (is_cut s link (way_from s.network device link) t)))) send_lost)
    where
      there : HasDispatch × (is_cut s link (way_from s.network device link) t ≡ true)
          → (vl : VlId) × (cycle : ℕ) × Dispatches s hs device t link cause vl cycle × (is_cut s link (way_from s.network device link) t ≡ true)
      there h = (h.0.0, h.0.1, h.0.2, h.1)

abbrev HasLost : Scenario → List Happening → ℕ → ℕ → ℕ → ℕ → Type 0
HasLost s hs t d l cause = IsLost s hs (record { 0 = d }) t (record { 0 = l }) cause

pub lost_decided : (s : Scenario) → 1 ≤ amount s.network.cycle → (hs : List Happening) (t : ℕ) (ks : List ℕ) → IsDecided (HasCaused s hs t 9 ks)
lost_decided s some hs t ks =
    by_three s hs t 9 (HasLost s hs t) (λ d l cause h. caused s hs t (notes.Lost (record { 0 = d }) (record { 0 = l }) cause) h) says
    (λ d l cause. lost s hs (record { 0 = d }) t (record { 0 = l }) cause some) ks
  where
    says : (body : NoteBody) → IsCaused s hs (units_of t) body → rank body ≡ 9 → OfThree (HasLost s hs t) (key (members_by s hs body) body)
    says (notes.Lost device link cause) is ranked = is
    says other is ranked = absurd (omega arith)

-- ---- a frame is dropped

abbrev HasDrop : Scenario → List Happening → ℕ → ℕ → ℕ → ℕ → Type 0
HasDrop s hs t d l cause = (reason : Reason) × IsDropped s hs (record { 0 = d }) t (record { 0 = l }) cause reason

-- what arrives is dropped
abbrev IsRefused : Scenario → List Happening → DeviceId → ℕ → LinkId → ℕ → Type 0
IsRefused s hs device t link cause = (reason : Reason) × ArrivesAs s hs device t link cause (arrivals.Dropped reason)

module _ (s : Scenario) (hs : List Happening) (device : DeviceId) (t : ℕ) (link : LinkId) (cause : ℕ) where
  refused_by : (is : Arrival) → ArrivesAs s hs device t link cause is → IsDecided (IsRefused s hs device t link cause)
  refused_by (arrivals.Dropped reason) a = inl (reason, a)
  refused_by other a = inr (λ h. let one = same_arrival a h.1 in cc)

  refused : IsDecided (IsRefused s hs device t link cause)
  refused =
      decided_within (arrives s hs device t link cause) (λ any. refused_by any.0 any.1)
      (λ h. (arrivals.Dropped h.0, h.1))

-- a frame ends at its arrival, when it is permanent, or at its leaving
abbrev IsEnded : Scenario → List Happening → ℕ → ℕ → ℕ → ℕ → Type 0
IsEnded s hs t d l cause =
    IsRefused s hs (record { 0 = d }) t (record { 0 = l }) cause
    ⊎ (HasDropped s hs (record { 0 = d }) t (record { 0 = l }) cause ⊎ Departs s hs (record { 0 = d }) t (record { 0 = l }) cause too_old)

drop : (s : Scenario) (hs : List Happening) (t d l cause : ℕ) → IsDecided (HasDrop s hs t d l cause)
drop s hs t d l cause =
    decided_by there back (decided_or (refused s hs (record { 0 = d }) t (record { 0 = l }) cause)
    (decided_or (dropped_decided s hs (record { 0 = d }) t (record { 0 = l }) cause) (old_decided s hs (record { 0 = d }) t (record { 0 = l }) cause)))
  where
    there : IsEnded s hs t d l cause → HasDrop s hs t d l cause
    there (inl a) = (a.0, inl a.1)
    there (inr (inl p)) = (p.0, inr (inl (p.1, p.2)))
    there (inr (inr o)) = (Old, inr (inr (o, refl)))

    back : HasDrop s hs t d l cause → IsEnded s hs t d l cause
    back (reason, inl a) = inl (reason, a)
    back (reason, inr (inl p)) = inr (inl (reason, p.0, p.1))
    back (reason, inr (inr o)) = inr (inr o.0)

pub drop_decided : (s : Scenario) (hs : List Happening) (t : ℕ) (ks : List ℕ) → IsDecided (HasCaused s hs t 13 ks)
drop_decided s hs t ks =
    by_three s hs t 13 (HasDrop s hs t) (λ d l cause h. caused s hs t (notes.Dropped (record { 0 = d }) (record { 0 = l }) cause h.0) h.1) says (drop s hs t) ks
  where
    says : (body : NoteBody) → IsCaused s hs (units_of t) body → rank body ≡ 13 → OfThree (HasDrop s hs t) (key (members_by s hs body) body)
    says (notes.Dropped device link cause reason) is ranked = (reason, is)
    says other is ranked = absurd (omega arith)
