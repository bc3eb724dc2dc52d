-- How a switch stands after a step: a frame heard, collected or dispatched, or a correction point.
use Rattle.std.proofs.{Common.All}
use Rattle.std.proofs.{lemmas.List.{Elements.{All-append, Contains-push, Contains-push_cases}, get_or_default}}
use Rattle.compression.specs.{Clusters.{Point, point_at}, declared.taken.Taken.Taken}
use Rattle.run_law.proofs.control.Verdicts.{in_time_not, tells_by as enough}
use Rattle.switch_ports.proofs.{EachRow.all_each, Emissions.{IsBit, master_is}, Ranges.expected_most}
use Rattle.switch_ports.proofs.{RowKeys.{distinct, fit_closed, of_closed}}
use Rattle.switch_ports.proofs.Dispatching.{IsNextOf, awaits_called, called_stands, departs_each, its_awaits, later_by}
use Rattle.switch_ports.proofs.Dispatching.{next_of}
use Rattle.run_law.specs.{declared.steps.{Act.Act, Ripe.Ripe}, machines.{Answers.{IsActOf, with_done}, Calls.HasDue}}
use Rattle.run_law.specs.control.{Collections.ripe_by_role, Hearing.{heard_by_schedule, heard_enough}}
use Rattle.run_law.specs.control.{Permanence.IsCollectionOutcome}
use Rattle.switch_ports.proofs.{SwitchStates.{IsComing, expected_is, fair_frame, hears_stands, joins_stands}}
use Rattle.switch_ports.proofs.Pending
use Pending.{EmitsNone, correction_pending, first_dispatch, nothing_due, value_reached, window_is}
use Rattle.switch_ports.proofs.Words
use Words.{if◌then◌else◌, ◌&&◌, ◌*ℤ◌, ◌*◌, ◌++◌, ◌+ℤ◌, ◌+◌, ◌-ℤ◌, ◌<ℤ◌, ◌<◌, ◌==◌, ◌^◌, ◌∙◌, ◌∷◌, ◌≡◌, ◌≤ℤ◌, ◌≤◌, ◌⊎◌}
use Words.{All-contains, All-contains_itself, AreChained, AreClusters, Awaits, AwaitsIn, AwaitsSo, Bool, Changes}
use Words.{Channel, ClockTask, Collecting, Contains, Contains-append_left, Contains-append_right, Departure, Departures}
use Words.{DeviceId, Dispatch, HasCollected, HasDepartures, HeardFrame, Held, IfSome, Integrating, IsDeparture, IsFair}
use Words.{IsSmall, IsSomeAnd, Joining, KnowsNext, List, MayCall, Members, Moment, Network, Node, None, Off, Option}
use Words.{Pcf, Phase, RowId, Some, Standing, StandsAs, State, Switch, SyncPlan, Synchronised, TakenFrame, Units, []}
use Words.{acting, after_permanence, amount, amount_most, ap, arith, best_on, called, correcting, correction_value}
use Words.{dispatching, doing, eqb-true, expected_at, expected_by, false, further, get_or, heard_as, held_in, in_head}
use Words.{inl, inr, ints, is_cm, is_timed, its_amount, last_cycle, length, master_of, mul-le-mul_right, nat_le, neg_ℤ}
use Words.{next_point, observation_window, plan_of, point_in, pos, reading_for, refl, ripe_as, subst, suc, sym, through}
use Words.{true, value_of, zero, ℕ, ℤ}
use Rattle.switch_ports.specs.{Leaving.closed, Members.member_numbers}
use Rattle.switch_ports.specs.{Steps.{CollectsSo, Dispatches, DispatchesSo, HearsSo}}
use Rattle.sync_state.specs.{Integration.Integrates, Verdicts.IsNear, membership.Members.count_of}
use Rattle.tte_units.proofs.general_lemmas.Bools.{not_both}
use Rattle.compression.specs.declared.taken.Taken.TheVariants as takens
use Rattle.run_law.specs.declared.steps.Ripe.TheVariants as ripe

-- ---- how a compression master stands when it has collected a frame

one_at : (P : Point → Type 0) (x : Point) → P x → (k : ℕ) (d : Point) → k < 1 → P (get_or (x ∷ []) k d)
one_at P x h zero d lt = h
one_at P x h (suc k) d lt = absurd (omega (arith, lt))

one_all : (P : Point → Type 0) (x : Point) → P x → All P (x ∷ [])
one_all P x h = λ k d lt. one_at P x h k d lt

points_front : (P : Point → Type 0) (xs ys : List Point) → All P (xs ++ ys) → All P xs
points_front P xs ys all = λ k d lt. All-contains P (xs ++ ys) (get_or xs k d) all (Contains-append_left xs ys (get_or xs k d) (All-contains_itself xs k d lt))

point_last : (P : Point → Type 0) (xs : List Point) (x : Point) → All P (xs ++ x ∷ []) → P x
point_last P xs x all = All-contains P (xs ++ x ∷ []) x all (Contains-append_right xs (x ∷ []) x (in_head x []))

module _ {s : Switch} (new : Switch) {network : Network} {device : DeviceId} {node : Node} (frame : Pcf)
    (point : Units) (is : Ripe) (st : StandsAs s network device node) where
  -- it is collected so
  pub taken_so : CollectsSo s frame point new is → IsCollectionOutcome network node.points
      (point_at point.0 (master_of frame.members.0) frame.cycle) is
  taken_so h =
      let held = st.collects.collected in
      record {
        taken = h.taken;
        collected = record {
          clusters = held.done ++ s.collector.waiting;
          are = subst (λ w. AreClusters w node.points (held.done ++ s.collector.waiting)) (window_is st)
              held.clusters;
          is = h.role node.points node.emitted (held.done ++ s.collector.waiting) held held.clusters;
        };
        becomes = h.becomes;
      }

  -- the facts of a collector with one more point
  with_one : is_cm network device ≡ true → IsBit network frame.members → pos 0 ≤ℤ point.0
      → CollectsSo s frame point new is → new.collector.ow ≡ s.collector.ow → new.collector.calc ≡ s.collector.calc
      → (new.collector.earliest ≡ point.0) ⊎ (new.collector.earliest ≡ s.collector.earliest)
      → HasCollected new.collector network device (node.points
      ++ point_at point.0 (master_of frame.members.0) frame.cycle ∷ []) node.emitted
  with_one cm bit zero_on h ow calc early =
      let p = point_at point.0 (master_of frame.members.0) frame.cycle in
      record {
        collected = h.stands node.points node.emitted st.collects.collected;
        window = ow ∙ st.collects.window;
        calc = calc ∙ st.collects.calc;
        idle = λ n. absurd (not_both _ cm n);
        earliest = λ limit low points emitted. elim early [
          | inl e ↦ subst (λ z. z ≤ℤ limit) (sym e) (point_last (λ q. q.reading ≤ℤ limit) node.points p points)
          | inr e ↦ subst (λ z. z ≤ℤ limit) (sym e)
              (st.collects.earliest limit low (points_front (λ q. q.reading ≤ℤ limit) node.points (p ∷ []) points)
              emitted)
        ];
        masters =
            All-append (λ q. Contains (member_numbers network) q.master) node.points (p ∷ []) st.collects.masters
            (one_all (λ q. Contains (member_numbers network) q.master) p
            (subst (Contains (member_numbers network)) (sym (master_is bit))
            bit.there));
        from_zero = All-append (λ q. pos 0 ≤ℤ q.reading) node.points (p ∷ []) st.collects.from_zero
            (one_all (λ q. pos 0 ≤ℤ q.reading) p zero_on);
      }

-- the switch with this collector, as the device with these points
with_collector : {s : Switch} {collector : Collecting} {network : Network} {device : DeviceId} {node : Node}
    (moment : Moment) (phase : Phase) {points : List Point} → StandsAs s network device node
    → node.last.reading.0 ≤ℤ moment.reading.0 → HasCollected collector network device points node.emitted
    → StandsAs (record s { collector = collector }) network device
    (called moment phase (record node { points = points }))
with_collector moment phase st later has = record {
  accepted = st.accepted;
  site = st.site;
  sound = st.sound;
  standing = st.standing;
  plan = st.plan;
  heard = st.heard;
  changed = st.changed;
  corrects = st.corrects;
  done = st.done;
  begun = through _ _ _ st.begun later;
  small = st.small;
  steady =
      λ timed. let o = st.steady timed in record {
        number = o.number;
        lower = o.lower;
        upper = further _ _ _ _ o.upper later;
        joined = o.joined;
        fair = o.fair;
      };
  intake = st.intake;
  collects = has;
  departs = st.departs;
  awaits = awaits_called moment st later;
}

module _ {s : Switch} (new : Switch) {network : Network} {device : DeviceId} {node : Node} (moment : Moment)
    (phase : Phase) (channel : Option Channel) (frame : Pcf) (point : Units) (is : Ripe)
    (st : StandsAs s network device node) where
  by_taken : node.last.reading.0 ≤ℤ moment.reading.0 → is_cm network device ≡ true → IsBit network frame.members
      → pos 0 ≤ℤ point.0 → (h : CollectsSo s frame point new is) (t : Taken) → h.taken ≡ t
      → StandsAs (record s { collector = new.collector }) network device
      (called moment phase (after_permanence node moment channel frame point (ripe_by_role t)))
  by_taken later cm bit zero_on h takens.Opened e =
      let c = h.opened e in
      with_collector moment phase st later
      (with_one new frame point is st cm bit zero_on h (ap (λ (v : Collecting). v.ow) c)
      (ap (λ (v : Collecting). v.calc) c)
      (inl (ap (λ (v : Collecting). v.earliest) c)))
  by_taken later cm bit zero_on h takens.Joined e =
      let c = h.joined e in
      with_collector moment phase st later
      (with_one new frame point is st cm bit zero_on h (ap (λ (v : Collecting). v.ow) c)
      (ap (λ (v : Collecting). v.calc) c)
      (inl (ap (λ (v : Collecting). v.earliest) c)))
  by_taken later cm bit zero_on h takens.Repeat e =
      let c = h.ignored (inl e) in
      with_collector moment phase st later
      (with_one new frame point is st cm bit zero_on h (ap (λ (v : Collecting). v.ow) c)
      (ap (λ (v : Collecting). v.calc) c)
      (inr (ap (λ (v : Collecting). v.earliest) c)))
  by_taken later cm bit zero_on h takens.OtherCycle e =
      with_collector moment phase st later
      (subst (λ v. HasCollected v network device node.points node.emitted) (sym (h.ignored (inr e)))
      st.collects)

  -- the switch stands as the device that has collected the frame
  pub collected_stands : node.last.reading.0 ≤ℤ moment.reading.0 → is_cm network device ≡ true
      → IsBit network frame.members → pos 0 ≤ℤ point.0 → CollectsSo s frame point new is
      → StandsAs new network device (called moment phase (after_permanence node moment channel frame point is))
  collected_stands later cm bit zero_on h =
      subst (λ x. StandsAs new network device
      (called moment phase (after_permanence node moment channel frame point x))) (sym h.becomes)
      (subst (λ x. StandsAs x network device
      (called moment phase (after_permanence node moment channel frame point (ripe_by_role h.taken))))
      (sym h.rest)
      (by_taken later cm bit zero_on h h.taken refl))

-- ---- how a switch stands when it has dispatched a row's frame: rows

departure_closed : {network : Network} {device : DeviceId} {taken : List TakenFrame} {d : Departure} (b : Bool)
    → IsDeparture network device taken d → IsDeparture network device taken
    (if b then record d { awaited = None } else d)
departure_closed false is = is
departure_closed true is = grind (arith, fit_closed)

departs_closed : {network : Network} {device : DeviceId} (place : ℕ) {old new : Departures} {taken : List TakenFrame}
    → Changes (closed place) old new → HasDepartures network device old taken → HasDepartures network device new taken
departs_closed place {taken} changes h =
    departs_each taken changes (λ d. of_closed d (d.of.place == place))
    (λ d is. departure_closed (d.of.place == place) is) h

module _ (rows : List Departure) (lasts : List (Option ℕ)) where
  -- the place of a row that is there
  its_place : (d : Departure) → AreChained rows lasts → (there : Contains rows d) → d.of.place ≡ there.0
  its_place d chained (k, lt, at) = ap (λ (x : Departure). x.of.place) (sym at) ∙ chained.places k d lt

  -- one row is at a place
  one_place : (a b : Departure) → AreChained rows lasts → Contains rows a → Contains rows b → a.of.place ≡ b.of.place
      → a ≡ b
  one_place a b chained (k, lt, at) (j, inside, here) e =
      let same : k ≡ j = sym (its_place a chained (k, lt, at)) ∙ e ∙ its_place b chained (j, inside, here) in
      sym at ∙ ap (λ n. get_or rows n a) same ∙ get_or_default rows j a b inside ∙ here

  -- and a row is at one place
  one_row : (a b : Departure) → AreChained rows lasts → Contains rows a → Contains rows b → a.of.row.0 ≡ b.of.row.0
      → a.of.place ≡ b.of.place
  one_row a b chained (k, lt, at) (j, inside, here) e =
      let other : get_or rows j a ≡ b = get_or_default rows j a b inside ∙ here in
      let same : k ≡ j = distinct k j a chained lt inside
      (ap (λ (x : Departure). x.of.row.0) at ∙ e ∙ ap (λ (x : Departure). x.of.row.0) (sym other)) in
      its_place a chained (k, lt, at) ∙ same ∙ sym (its_place b chained (j, inside, here))

not_equal : (a b : ℕ) → (a == b) ≡ false → a ≡ b → ⊥
not_equal a b e h = grind (arith, e, h)

awaits_closed : {s : Switch} {network : Network} {device : DeviceId} {node : Node} {next : Dispatch} (d : Departure)
    (b : Bool) → StandsAs s network device node → IsNextOf s network node next → (d.of.place == next.place) ≡ b
    → Contains s.departures.rows.items d → AwaitsSo node.changed node.done d
    → AwaitsSo node.changed (node.done ++ dispatching next.row next.cycle ∷ [])
    (if b then record d { awaited = None } else d)
awaits_closed {s} {network} {device} {node} {next} d true st n e here h held = (
  λ f. absurd cc,
  λ come.
      let place : next.place ≡ n.d.of.place = ap (λ (x : Dispatch). x.place) n.is in
      let mine : d ≡ n.d = one_place s.departures.rows.items s.departures.lasts.items d n.d st.departs.ready.chained here n.there
      (eqb-true d.of.place next.place e ∙ place) in
      let awaits = its_awaits s network device node st n.sync in
      let first = held_in (amount network.cycle) n.d.of next.cycle in
      let there = (All-contains (AwaitsSo node.changed node.done) s.departures.rows.items n.d awaits.each n.there first).0 n.awaited in
      let same : Some held ≡ Some first = sym come.is ∙ ap (λ (x : Departure). x.held) mine ∙ there.is in
      let one : held ≡ first = cc in
      let row : next.row ≡ d.of.row = ap (λ (x : Dispatch). x.row) n.is ∙ ap (λ (x : Departure). x.of.row) (sym mine) in
      let deed : dispatching next.row next.cycle ≡ dispatching d.of.row held.cycle =
      ap (λ (r : RowId). dispatching r next.cycle) row ∙ ap (λ (x : Held). dispatching d.of.row x.cycle) (sym one) in
      absurd (come.not_yet (subst (Contains (node.done ++ dispatching next.row next.cycle ∷ [])) deed
      (Contains-push node.done (dispatching next.row next.cycle)))),
)
awaits_closed {s} {node} {next} d false st n e here h held = (
  λ f.
      let come = (h held).0 f in record {
        is = come.is;
        ahead = come.ahead;
        not_yet = λ there. elim (Contains-push_cases node.done (dispatching next.row next.cycle) (dispatching d.of.row held.cycle) there) [
          | inl old ↦ come.not_yet old
          | inr new ↦
              let row : next.row ≡ d.of.row = cc in
              let its_row : d.of.row.0 ≡ n.d.of.row.0 = ap (λ (r : RowId). r.0) (sym row) ∙ ap (λ (x : Dispatch). x.row.0) n.is in
              not_equal d.of.place next.place e
              (one_row s.departures.rows.items s.departures.lasts.items d n.d st.departs.ready.chained here n.there its_row
              ∙ ap (λ (x : Dispatch). x.place) (sym n.is))
        ];
      },
  λ come. (h held).1 (record {
    is = come.is;
    ahead = come.ahead;
    not_yet = λ there. come.not_yet (Contains-append_left node.done (dispatching next.row next.cycle ∷ []) (dispatching d.of.row held.cycle) there);
  }),
)

-- the row that dispatches next is there
pub next_inside : {s : Switch} {network : Network} {device : DeviceId} {node : Node} (o : Option Dispatch)
    → StandsAs s network device node → s.departures.next ≡ o
    → IfSome o (λ next. next.place < length s.departures.rows.items)
next_inside None st e = tt
next_inside {s} {network} {device} {node} (Some next) st e =
    let n = next_of s network device node next st e in
    let place : next.place ≡ n.there.0 = ap (λ (x : Dispatch). x.place) n.is
    ∙ its_place s.departures.rows.items s.departures.lasts.items n.d st.departs.ready.chained n.there in
    subst (λ k. k < length s.departures.rows.items) (sym place) n.there.1

passed_more : (network : Network) (node : Node) (next : Dispatch) (x y : ℤ) (row : RowId) (cycle : ℕ) → x ≤ℤ y
    → ((row : RowId) (cycle : ℕ) → Contains node.done (dispatching row cycle) → value_of network (dispatching row cycle) ≤ℤ x)
    → value_of network (dispatching next.row next.cycle) ≤ℤ y → Contains (node.done ++ dispatching next.row next.cycle ∷ []) (dispatching row cycle)
    → value_of network (dispatching row cycle) ≤ℤ y
passed_more network node next x y row cycle le passed reached there =
    elim (Contains-push_cases node.done (dispatching next.row next.cycle) (dispatching row cycle) there) [
      | inl old ↦ through _ _ _ (passed row cycle old) le
      | inr new ↦ subst (λ deed. value_of network deed ≤ℤ y) new reached
    ]

back_in : (state : State) {network : Network} {ds : Departures} {adjustment changed : ℤ} {done : List ClockTask}
    {x : ℤ} → state ≡ Synchronised → Awaits network ds adjustment changed done x
    → AwaitsIn state network ds adjustment changed done x
back_in state {network} {ds} {adjustment} {changed} {done} {x} e h =
    subst (λ z. AwaitsIn z network ds adjustment changed done x) (sym e) h

corrected_before : (node : Node) (next : Dispatch) (cycle : ℕ) → ((cycle : ℕ) → Contains node.done (correcting cycle) → cycle < node.standing.number)
    → Contains (node.done ++ dispatching next.row next.cycle ∷ []) (correcting cycle) → cycle < node.standing.number
corrected_before node next cycle done there =
    elim (Contains-push_cases node.done (dispatching next.row next.cycle) (correcting cycle) there) [
      | inl old ↦ done cycle old
      | inr new ↦ absurd cc
    ]

module _ (s new : Switch) (network : Network) (device : DeviceId) (node : Node) (moment : Moment) where
  -- the switch that has done the dispatch
  dispatched_stands : {next : Dispatch} → StandsAs s network device node → node.last.reading.0 ≤ℤ moment.reading.0
      → s.departures.next ≡ Some next → reading_for network node
      (doing (dispatching next.row next.cycle)) ≤ℤ moment.reading.0 → Dispatches s next new
      → StandsAs (record s { departures = new.departures }) network device
      (called moment acting (with_done node (dispatching next.row next.cycle)))
  dispatched_stands {next} st later e due h =
      let n = next_of s network device node next st e in
      let awaits = its_awaits s network device node st n.sync in
      let adjustment : s.sync.adjustment.0 ≡ node.standing.adjustment.0 =
      ap (λ (x : Standing). x.adjustment.0) (sym st.standing) in
      record {
        accepted = st.accepted;
        site = st.site;
        sound = st.sound;
        standing = st.standing;
        plan = st.plan;
        heard = st.heard;
        changed = st.changed;
        corrects = st.corrects;
        done = λ cycle there. corrected_before node next cycle st.done there;
        begun = through _ _ _ st.begun later;
        small = st.small;
        steady =
            λ timed. let o = st.steady timed in record {
              number = o.number;
              lower = o.lower;
              upper = further _ _ _ _ o.upper later;
              joined = o.joined;
              fair = o.fair;
            };
        intake = st.intake;
        collects = st.collects;
        departs = departs_closed next.place h.changes st.departs;
        awaits =
            back_in node.standing.state {network = network} {ds = new.departures} {adjustment = node.standing.adjustment.0} {changed = node.changed}
            {done = node.done ++ dispatching next.row next.cycle ∷ []} n.sync
            (record {
              each = all_each (λ d. Contains s.departures.rows.items d × AwaitsSo node.changed node.done d)
                  (AwaitsSo node.changed (node.done ++ dispatching next.row next.cycle ∷ [])) h.changes.rows
                  (λ d both. awaits_closed d (d.of.place == next.place) st n refl both.0 both.1)
                  (λ k d lt. (All-contains_itself s.departures.rows.items k d lt, awaits.each k d lt));
              next = subst (λ z. KnowsNext z new.departures) adjustment h.knows;
              passed = λ row cycle there. passed_more network node next _ _ row cycle
                  (later_by node.last.reading.0 moment.reading.0 node.standing.adjustment.0 later)
                  awaits.passed (value_reached _ node.standing.adjustment.0 moment.reading.0 due) there;
            });
      }

  -- where no collection and no correction is due, it does the dispatch that comes next
  pub dispatch_acts : (act : Act) {o : Option Units} (next : Option Dispatch) → StandsAs s network device node
      → MayCall network device node moment acting → EmitsNone s moment.reading.0 o
      → IfSome s.corrects_at (λ at. moment.reading.0 <ℤ at.0) → HasDue network device node moment.reading.0
      → s.departures.next ≡ next → DispatchesSo s next act new
      → (after : Node) × IsActOf network device node moment act after × StandsAs new network device after
  dispatch_acts act None st may none later due e h =
      absurd (nothing_due s network device node st none later e due)
  dispatch_acts act (Some next) st may none later due e (is, h) =
      let first = first_dispatch s network device node next st may none later e due in
      let after = called moment acting (with_done node (dispatching next.row next.cycle)) in (
        after,
        subst (λ a. IsActOf network device node moment a after) (sym is) (first, refl),
        subst (λ x. StandsAs x network device after) (sym h.rest)
            (dispatched_stands st may.later.reading e first.due h),
      )

-- ---- when a frame tells a device the time

both : (t c n l : ℕ) → (nat_le t c && nat_le n l) ≡ true → (t ≤ c) × (n ≤ l)
both t c n l e = grind (arith, e)

-- what integrates a device in this state
integrates_in : (plan : SyncPlan) (precision : ℤ) (state : State) (adjustment point : ℤ) (cycle : ℕ) (members : Members)
    → ripe_as (heard_as plan precision state adjustment point cycle members) ≡ ripe.Integrates → (state ≡ Integrating)
    × ((plan.threshold ≤ count_of members) × (cycle ≤ last_cycle))
integrates_in plan precision Off adjustment point cycle members e = absurd cc
integrates_in plan precision Integrating adjustment point cycle members e = (refl, both _ _ _ _ (enough _ e))
integrates_in plan precision Joining adjustment point cycle members e = absurd (in_time_not _ e)
integrates_in plan precision Synchronised adjustment point cycle members e = absurd (in_time_not _ e)

pub integrates_so : (s : Standing) (plan : SyncPlan) (precision point : ℤ) (frame : Pcf) → s.plan ≡ plan
    → ripe_as (heard_as plan precision s.state s.adjustment.0 point frame.cycle frame.members) ≡ ripe.Integrates → Integrates s frame
integrates_so s plan precision point frame is e =
    let i = integrates_in plan precision s.state s.adjustment.0 point frame.cycle frame.members e in
    record { integrating = i.0; enough = rw is i.1.0; in_time = i.1.1 }

-- ---- what becomes of a frame that a device hears

abbrev pub IsHearing : Ripe → Type 0
IsHearing is = (is ≡ ripe.Within) ⊎ ((is ≡ ripe.Outside) ⊎ ((is ≡ ripe.Integrates) ⊎ (is ≡ ripe.Ignored)))

timed_kind : (b : Bool) → IsHearing (ripe_as (heard_by_schedule b))
timed_kind true = inl refl
timed_kind false = inr (inl refl)

enough_kind : (b : Bool) → IsHearing (ripe_as (heard_enough b))
enough_kind true = inr (inr (inl refl))
enough_kind false = inr (inr (inr refl))

heard_kind : (plan : SyncPlan) (precision : ℤ) (state : State) (adjustment point : ℤ) (cycle : ℕ) (members : Members)
    → IsHearing (ripe_as (heard_as plan precision state adjustment point cycle members))
heard_kind plan precision Off adjustment point cycle members = inr (inr (inr refl))
heard_kind plan precision Integrating adjustment point cycle members = enough_kind _
heard_kind plan precision Joining adjustment point cycle members = timed_kind _
heard_kind plan precision Synchronised adjustment point cycle members = timed_kind _

module _ (s : Switch) (network : Network) (device : DeviceId) (node : Node) (point : ℤ) (cycle : ℕ)
    (members : Members) where
  -- the switch hears as its network says
  heard_same : StandsAs s network device node
      → heard_as s.site.plan s.site.precision.0 s.sync.state s.sync.adjustment.0 point cycle members ≡ heard_as
      (plan_of network device) network.precision.0 node.standing.state node.standing.adjustment.0 point cycle members
  heard_same st =
      ap (λ p. heard_as p s.site.precision.0 s.sync.state s.sync.adjustment.0 point cycle members)
      st.site.plan
      ∙ ap (λ (u : Units). heard_as (plan_of network device) u.0 s.sync.state s.sync.adjustment.0 point cycle
      members) st.site.precision
      ∙ ap (λ (x : Standing). heard_as (plan_of network device) network.precision.0 x.state x.adjustment.0 point
      cycle members) (sym st.standing)

  -- and so it answers
  pub heard_so : (is : Ripe) → StandsAs s network device node
      → is ≡ ripe_as (heard_as s.site.plan s.site.precision.0 s.sync.state s.sync.adjustment.0 point cycle members)
      → is ≡ ripe_as
      (heard_as (plan_of network device) (observation_window network) node.standing.state node.standing.adjustment.0
      point cycle members)
  heard_so is st e =
      e ∙ ap ripe_as (heard_same st)
      ∙ ap (λ z. ripe_as (heard_as (plan_of network device) z node.standing.state node.standing.adjustment.0
      point cycle members))
      (its_amount st.accepted.range.precision)

-- the switch stands as the device that has heard the frame
pub heard_stands : {s : Switch} (new : Switch) {network : Network} {device : DeviceId} {node : Node}
    {moment : Moment} {phase : Phase} (channel : Option Channel) (frame : Pcf) {point : Units} (is : Ripe)
    → StandsAs s network device node → MayCall network device node moment phase → IsComing network moment point → is
    ≡ ripe_as
    (heard_as s.site.plan s.site.precision.0 s.sync.state s.sync.adjustment.0 point.0 frame.cycle frame.members)
    → HearsSo s moment channel frame point new is → StandsAs new network device
    (called moment phase (after_permanence node moment channel frame point is))
heard_stands {s} new {network} {device} {node} {moment} {phase} channel frame {point} is st may coming e hears =
    let same : is ≡ ripe_as (heard_as (plan_of network device) network.precision.0 node.standing.state node.standing.adjustment.0 point.0 frame.cycle
    frame.members) =
    e ∙ ap ripe_as (heard_same s network device node point.0 frame.cycle frame.members st) in
    let goes : Ripe → Type 0 = λ (x : Ripe). HearsSo s moment channel frame point new x
    → StandsAs new network device (called moment phase (after_permanence node moment channel frame point x)) in
    elim (subst IsHearing (sym same) (heard_kind (plan_of network device) network.precision.0 node.standing.state node.standing.adjustment.0 point.0 frame.cycle
    frame.members)) [
      | inl w ↦
          subst goes (sym w) (λ h. hears_stands new moment phase channel frame point true st may.later.reading h
          (λ timed lt yes_. fair_frame frame st may coming timed lt (sym w ∙ same))) hears
      | inr (inl o) ↦
          subst goes (sym o) (λ h. hears_stands new moment phase channel frame point false st may.later.reading h
          (λ timed lt never. absurd (let f : false ≡ true = never in cc))) hears
      | inr (inr (inl j)) ↦
          let joined = integrates_in (plan_of network device) network.precision.0 node.standing.state node.standing.adjustment.0 point.0 frame.cycle
          frame.members (sym same ∙ j) in
          subst goes (sym j) (λ h. joins_stands st may coming joined.1.1 h) hears
      | inr (inr (inr i)) ↦
          subst goes (sym i) (λ h. subst (λ x. StandsAs x network device (called moment phase node)) (sym h)
          (called_stands s network device node moment phase st may.later.reading)) hears
    ]

-- ---- how a switch stands when its correction point has come

pub timed_next : (state : State) (number cycle : ℕ) → point_in state number ≡ Some cycle → (is_timed state ≡ true) × (number ≡ cycle)
timed_next Off number cycle e = absurd cc
timed_next Integrating number cycle e = absurd cc
timed_next Joining number cycle e = (refl, cc)
timed_next Synchronised number cycle e = (refl, cc)

number_some : (o : Option ℕ) (n limit : ℕ) → o ≡ Some n → n ≤ limit → IsSomeAnd o (λ k. k ≤ limit)
number_some o n limit e h = subst (λ (p : Option ℕ). IsSomeAnd p (λ k. k ≤ limit)) (sym e) h

-- the number of the next correction point
pub number_within : {s : Switch} {network : Network} {device : DeviceId} {node : Node} (cycle : ℕ)
    → StandsAs s network device node → next_point s.sync ≡ Some cycle
    → IsSomeAnd (next_point s.sync) (λ n. n ≤ last_cycle + 2)
number_within cycle st e = grind (arith, next_point, timed_next, number_some, last_cycle)

near_by : (n l r e p : ℕ) (x point adjustment prec two : ℤ) → n ≤ l + 1 → l ≡ 2 ^ 20 + 2 ^ 17 → r ≤ 2 ^ 40 → e ≤ 2 ^ 43 → p ≤ 2 ^ 40 → prec ≡ pos p
    → two ≡ pos (2 * r) → x ≡ (pos (n * r) +ℤ pos e)
    → neg_ℤ (pos (2 ^ 41)) ≤ℤ point → point ≤ℤ pos (2 ^ 60 + 2 ^ 51) → (point +ℤ adjustment) ≤ℤ (x +ℤ prec) → x ≤ℤ ((point +ℤ adjustment) +ℤ two)
    → IsSmall (x -ℤ point) × IsSmall ((x -ℤ point) -ℤ adjustment)
near_by n l r e p x point adjustment prec two a is b d pm q t xe low high h k =
    let more : n * r ≤ (l + 1) * r = mul-le-mul_right r a in
    let most : (l + 1) * r ≤ (2 ^ 20 + 2 ^ 17 + 1) * r = rw is (omega arith) in (
      (omega (arith, ints, more, most, b, d, xe, low, high), omega (arith, ints, more, most, b, d, xe, low, high)),
      (omega (arith, ints, more, most, b, d, pm, q, h, xe), omega (arith, ints, more, most, b, d, t, k, xe)),
    )

near_frame : {network : Network} {device : DeviceId} {s : Switch} {node : Node} {frame : HeardFrame}
    → StandsAs s network device node → IsFair network node.standing frame → IsNear node.standing frame
near_frame {network} {device} {node} {frame} st f =
    let en = ap (λ q. expected_at q node.standing.number) st.plan ∙ expected_is device
    node.standing.number st.accepted in
    let r = its_amount st.accepted.range.cycle in
    let n = near_by node.standing.number last_cycle (amount network.cycle) (expected_by network device) (amount network.precision)
    (expected_at node.standing.plan node.standing.number) frame.point.0 node.standing.adjustment.0 network.precision.0 (pos 2 *ℤ network.cycle.0)
    f.cycle refl (amount_most st.accepted.range.cycle) (expected_most device st.accepted.range)
    (amount_most st.accepted.range.precision)
    (its_amount st.accepted.range.precision) (omega (arith, ints, r)) en f.point.low f.point.high f.behind f.ahead in
    record { difference = n.0; deviation = n.1 }

if_mapped : {X : Type 0} (P Q : X → Type 0) (o : Option X) → ((x : X) → P x → Q x) → IfSome o P → IfSome o Q
if_mapped P Q None f h = tt
if_mapped P Q (Some x) f h = f x h

-- what is heard is near, where the correction point is to come
pub is_near : {s : Switch} {network : Network} {device : DeviceId} {node : Node} (at : Units) (ch : Channel)
    → StandsAs s network device node → s.corrects_at ≡ Some at → IfSome (best_on ch s.heard) (IsNear s.sync)
is_near {s} {network} {device} {node} at ch st e =
    let p = correction_pending {s = s} {network = network} {device = device} {node = node} at st e in
    let t = timed_next node.standing.state node.standing.number p.0 p.3 in
    let lt : node.changed <ℤ correction_value network node.standing.number = subst (λ n. node.changed <ℤ correction_value network n) (sym t.1) p.1.1.ahead
    in
    subst (λ x. IfSome (best_on ch s.heard) (IsNear x)) st.standing
    (if_mapped (IsFair network node.standing) (IsNear node.standing) (best_on ch s.heard) (λ f fair. near_frame st fair)
    ((st.steady t.0).fair lt ch))

-- the reading that is reached
pub some_due : (o : Option Units) (reading : ℤ) → IsSomeAnd o (λ at. at.0 ≤ℤ reading) → (at : Units) × (o ≡ Some at) × (at.0 ≤ℤ reading)
some_due None reading some = absurd some
some_due (Some at) reading some = (at, refl, some)
