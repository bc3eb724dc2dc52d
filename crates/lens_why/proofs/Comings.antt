-- What the records of a run and the states of its devices come from.
use Rattle.std.{specs.{List.last_or, Option.option_map_or, Prelude.fold}}
use Rattle.std.proofs.Common
use Common.{if◌then◌else◌, ◌&&◌, ◌++◌, ◌<◌, ◌==◌, ◌∙◌, ◌∷◌, ◌≡◌, ◌≤◌, ◌⊎◌, Bool, List, None, Option, Some, [], ap}
use Common.{arith, false, filter, inl, inr, nat_lt, refl, subst, sym, true, ℕ}
use Rattle.std.proofs.lemmas.{Bool.{eqb-true, false_from_ne_true, le-ltb, ltb-false, ltb-true}}
use Rattle.std.proofs.lemmas.{List.{Elements.filter-append, append-nil}}
use Rattle.audit_devices.specs.Keeping.{records_before}
use Rattle.lens_why.{proofs.LastRecords.parted_there}
use Rattle.lens_why.specs.{Decisions.IsStateSince, Grounds.unsynchronised_ground}
use Rattle.lens_why.specs.{Seeking.{is_turning_on, turns, turns_before}}
use Rattle.net_plan.specs.declared.{ids.{DeviceId.DeviceId, LinkId.LinkId, VlId.VlId}, network.Network.Network}
use Rattle.precision_law.proofs.traffic_lemmas.spans.Spans.{turned_on_by}
use Rattle.run_law.proofs.records.Order.{has_passed, time_before}
use Rattle.run_law.proofs.{runs.{Lacking.behind_first, Places.{in_left, in_right}}}
use Rattle.run_law.proofs.law.FirstDeliveries
use FirstDeliveries.{accepted_in, by_number, founded_at, front_founded, in_filter, none_kept, number_is, numbered_front}
use FirstDeliveries.{numbered_in, numbered_within}
use Rattle.run_law.specs.{control.Losses.{IsDropped, IsLost}}
use Rattle.run_law.specs.{declared.{judgement.{Reason.Reason, Why.Why}, note.{Note.Note, NoteBody.NoteBody}}}
use Rattle.run_law.specs.{device.{StateChanges.ChangesState, States.{state_before, state_with}}}
use Rattle.run_law.specs.{runs.{DueRecords.{IsCaused, IsDue}, Runs.IsFounded}}
use Rattle.run_law.specs.{scenario.{Devices.start_of, Scenarios.{Scenario, is_turned_on_at}}}
use Rattle.run_law.specs.{timed.Dispatching.Dispatches}
use Rattle.run_law.specs.records.{Causes.cause_of, Happenings.{Happening, earlier, happenings, numbered, time_of}}
use Rattle.run_law.specs.records.{Order.IsIn, Ranks.{key, members_in, place_of, rank}}
use Rattle.sync_state.specs.{Standing.state_at_start, declared.state.State.{State, TheVariants.{Integrating, Joining}}}
use Rattle.tte_audit.specs.Report.{scenario_of}
use Rattle.tte_reports.specs.Reports.{IsReportOf}
use Rattle.tte_units.{proofs.general_lemmas.{Bools.none_shorter, Lists.last_pushed}}
use Rattle.tte_units.{specs.{Amount.amount, declared.units.Units.Units}}
use Rattle.net_plan.specs.declared.event.What.TheVariants as events
use Rattle.run_law.specs.declared.judgement.Why.TheVariants as whys
use Rattle.run_law.specs.declared.note.NoteBody.TheVariants as notes

-- ---- each record of a run comes from none, or from an earlier one

-- the number is 0, or one of these records has it
abbrev pub IsNoneOrThere : List Happening → ℕ → Type 0
IsNoneOrThere hs cause = (cause ≡ 0) ⊎ ((g : Happening) × (numbered hs cause ≡ Some g))

module _ (s : Scenario) (ps : List Happening) (founded : IsFounded place_of (IsDue s) ps) where
  of_dispatch : (device : DeviceId) (t : ℕ) (link : LinkId) (cause : ℕ) (vl : VlId) (cycle : ℕ) → Dispatches s ps device t link cause vl cycle
      → IsNoneOrThere ps cause
  of_dispatch device t link cause vl cycle d =
      elim d.at_hand [
        | inl sender ↦ inl sender.1
        | inr has ↦
            let taken = has.1.taken in
            let found = by_number s ps taken founded (accepted_in has.1) in
            inr (taken, subst (λ n. numbered ps n ≡ Some taken) (sym has.1.number) found)
      ]

  of_lost : (device : DeviceId) (t : ℕ) (link : LinkId) (cause : ℕ) → IsLost s ps device t link cause → IsNoneOrThere ps cause
  of_lost device t link cause (inl d) = inr (d.giving, d.there)
  of_lost device t link cause (inr (inl d)) = of_dispatch device t link cause d.0 d.1 d.2
  of_lost device t link cause (inr (inr d)) = inr (d.event, d.is.there)

  of_dropped : (device : DeviceId) (t : ℕ) (link : LinkId) (cause : ℕ) (reason : Reason) → IsDropped s ps device t link cause reason → IsNoneOrThere ps cause
  of_dropped device t link cause reason (inl a) = inr (a.putting, a.there)
  of_dropped device t link cause reason (inr (inl p)) = inr (p.1.permanent.arrival, p.1.permanent.there)
  of_dropped device t link cause reason (inr (inr d)) = inr (d.0.giving, d.0.there)

  of_state : (device : DeviceId) (t : ℕ) (state : State) (cause : ℕ) (why : Why) → ChangesState s ps device t state cause why → IsNoneOrThere ps cause
  of_state device t state cause whys.On c = inr (c.2.1, c.2.2.there)
  of_state device t state cause whys.Frame c = inr (c.1.0, c.1.1.there)
  of_state device t state cause whys.Correction c = inr (c.2.3, c.2.4.there)
  of_state device t state cause whys.SyncClique c = inl c.1
  of_state device t state cause whys.AsyncClique c = inl c.1

  -- what causes a record is among those before it
  pub caused_in : (time : Units) (body : NoteBody) → IsCaused s ps time body → IsNoneOrThere ps (cause_of body)
  caused_in time (notes.Event line what) c = inl refl
  caused_in time (notes.Arrived device link cause clock) c =
      elim c.taken [ inl a ↦ inr (a.putting, a.there) | inr b ↦ elim b [ inl a ↦ inr (a.putting, a.there) | inr a ↦ inr (a.putting, a.there) ] ]
  caused_in time (notes.Permanent device link cause point verdict) c = inr (c.permanent.arrival, c.permanent.there)
  caused_in time (notes.Compressed device opened at cycle members verdict) c = inl refl
  caused_in time (notes.Sent device cycle) c = inl refl
  caused_in time (notes.Corrected device cycle by adjustment) c = inl refl
  caused_in time (notes.State device state cause why) c = of_state device (amount time) state cause why c
  caused_in time (notes.Left device link cause clock) c = inr (c.giving, c.there)
  caused_in time (notes.Lost device link cause) c = of_lost device (amount time) link cause c
  caused_in time (notes.TtSent device link cause vl cycle) c = of_dispatch device (amount time) link cause vl cycle c.dispatches
  caused_in time (notes.Accepted device link cause vl cycle) c = inr (c.putting, c.there)
  caused_in time (notes.Delivered device link cause vl cycle) c = inr (c.putting, c.there)
  caused_in time (notes.Dropped device link cause reason) c = of_dropped device (amount time) link cause reason c
  caused_in time (notes.Clock device reading adjustment state) c = inl refl

-- the record of this number comes from none, or from one of a lower number
abbrev pub ComesFromEarlier : List Happening → ℕ → Happening → Type 0
ComesFromEarlier hs n h = (cause_of h.note.body ≡ 0) ⊎ ((g : Happening) × (numbered hs (cause_of h.note.body) ≡ Some g) × (cause_of h.note.body < n))

pub comes_from_earlier : (s : Scenario) (hs : List Happening) → IsFounded place_of (IsDue s) hs → (n : ℕ) (h : Happening) → numbered hs n ≡ Some h
    → ComesFromEarlier hs n h
comes_from_earlier s hs founded n h there =
    let cause = cause_of h.note.body in
    let at = founded_at s hs h founded (numbered_in hs n h there) in
    let number = number_is s hs n h founded there in
    elim (caused_in s at.front at.founded h.note.time h.note.body at.due.cause) [
      | inl none ↦ inl none
      | inr g ↦
          let within = numbered_within at.front cause g.0 g.1 in
          let whole : numbered hs cause ≡ Some g.0 = subst (λ t. numbered t cause ≡ Some g.0) (sym at.whole)
          (numbered_front at.front (h ∷ at.rest) cause g.0 g.1) in
          inr (g.0, whole, omega (arith, within, at.due.number, number))
    ]

-- ---- the state of a device, and the record that brought it to it: one record

-- a record that changes the device's state leaves it in one, whatever it was in
left_so : (device : DeviceId) (a b : State) (body : NoteBody) → turns device body ≡ true → state_with device a body ≡ state_with device b body
left_so device a b (notes.State other state cause why) e = ap (λ (t : Bool). if t then state else a) e ∙ sym (ap (λ (t : Bool). if t then state else b) e)
left_so device a b body e = ap (λ (t : Bool). if t then Joining else a) e ∙ sym (ap (λ (t : Bool). if t then Joining else b) e)

-- another one leaves it as it was
kept_so : (device : DeviceId) (a : State) (body : NoteBody) → turns device body ≡ false → state_with device a body ≡ a
kept_so device a (notes.State other state cause why) e = ap (λ (t : Bool). if t then state else a) e
kept_so device a body e = ap (λ (t : Bool). if t then Joining else a) e

and_all : (b : Bool) → (b && true) ≡ b
and_all true = refl
and_all false = refl

-- ---- records in their order

-- the last of those that change the device's state left it in this; or there is none, and it is as it was
abbrev LeavesIn : DeviceId → State → List Happening → State → Type 0
LeavesIn device start turning state =
    ((turning ≡ []) × (state ≡ start))
    ⊎ ((front : List Happening) × (g : Happening) × (turning ≡ front ++ g ∷ []) × ((old : State) → state_with device old g.note.body ≡ state))

module _ (device : DeviceId) where
  abbrev turning : Happening → Bool
  turning g = turns device g.note.body

  abbrev after : State → List Happening → State
  after start hs = fold (λ state h. state_with device state h.note.body) start hs

  left_in : (start : State) (hs : List Happening) → LeavesIn device start (filter turning hs) (after start hs)
  left_in start [] = inl (refl, refl)
  left_in start (h ∷ hs) = by (turning h) refl (left_in (state_with device start h.note.body) hs)
    where
      kept : (b : Bool) → turning h ≡ b → filter turning (h ∷ hs) ≡ (if b then h ∷ filter turning hs else filter turning hs)
      kept b e = ap (λ (c : Bool). if c then h ∷ filter turning hs else filter turning hs) e

      by : (b : Bool) → turning h ≡ b
          → LeavesIn device (state_with device start h.note.body) (filter turning hs) (after (state_with device start h.note.body) hs)
          → LeavesIn device start (filter turning (h ∷ hs)) (after (state_with device start h.note.body) hs)
      by true e (inl (none, is)) =
          inr ([], h, kept true e ∙ ap (λ (xs : List Happening). h ∷ xs) none, λ old. left_so device old start h.note.body e ∙ sym is)
      by true e (inr (front, g, parts, is)) = inr (h ∷ front, g, kept true e ∙ ap (λ (xs : List Happening). h ∷ xs) parts, is)
      by false e (inl (none, is)) = inl (kept false e ∙ none, is ∙ kept_so device start h.note.body e)
      by false e (inr (front, g, parts, is)) = inr (front, g, kept false e ∙ parts, is)

  module _ (t : ℕ) where
    abbrev early : Happening → Bool
    early g = nat_lt (time_of g) t

    abbrev sought : Happening → Bool
    sought g = turns_before device t (time_of g) g.note.body

    -- where those that are sought are those of earlier times that change the state, they are kept so
    same_kept : (hs : List Happening) → ((g : Happening) → IsIn g hs → sought g ≡ (early g && turning g))
        → filter sought hs ≡ filter turning (filter early hs)
    same_kept [] same = refl
    same_kept (g ∷ hs) same =
        ap (λ (b : Bool). if b then g ∷ filter sought hs else filter sought hs) (same g (inl refl))
        ∙ by (early g) refl (same_kept hs (λ x i. same x (inr i)))
      where
        by : (b : Bool) → early g ≡ b → filter sought hs ≡ filter turning (filter early hs)
            → (if early g && turning g then g ∷ filter sought hs else filter sought hs) ≡ filter turning (filter early (g ∷ hs))
        by true e rest = rw e (ap (λ (xs : List Happening). if turning g then g ∷ xs else xs) rest)
        by false e rest = rw e rest

-- ---- the records before one

module _ (network : Network) (octets : List ℕ) (ns : List Note) (end : Units) (of : IsReportOf network octets ns end) (number : ℕ) (h : Happening)
    (there : numbered (happenings network ns) number ≡ Some h) (device : DeviceId) where
  abbrev own : Scenario
  own = scenario_of network ns

  abbrev all : List Happening
  all = happenings network ns

  abbrev before : List Happening
  before = (parted_there of number h there).before

  abbrev later : List Happening
  later = (parted_there of number h there).later

  abbrev start : State
  start = state_at_start (start_of network device)

  parts : all ≡ before ++ h ∷ later
  parts = (parted_there of number h there).parts

  founded : IsFounded place_of (IsDue own) (before ++ h ∷ later)
  founded = subst (IsFounded place_of (IsDue own)) parts of.run.founded

  -- those behind the record are of no earlier time
  not_early : (x : Happening) → IsIn x (h ∷ later) → nat_lt (time_of x) (time_of h) ≡ false
  not_early x (inl same) = le-ltb (time_of x) (time_of h) (omega (arith, ap time_of same))
  not_early x (inr i) =
      le-ltb (time_of x) (time_of h) (time_before (time_of h) (time_of x) (rank h.note.body ∷ key (members_in h) h.note.body)
      (rank x.note.body ∷ key (members_in x) x.note.body) (behind_first place_of (IsDue own) before later h x founded i))

  earlier_same : earlier (time_of h) all ≡ earlier (time_of h) before
  earlier_same =
      ap (filter (early device (time_of h))) parts
      ∙ filter-append (early device (time_of h)) before (h ∷ later)
      ∙ ap (λ (gs : List Happening). earlier (time_of h) before ++ gs) (none_kept (early device (time_of h)) (h ∷ later) not_early)
      ∙ append-nil (earlier (time_of h) before)

  -- an event turns on a device that comes to its state so
  on_at : (g : Happening) → IsIn g before → (state : State) (cause : ℕ) → g.note.body ≡ notes.State device state cause whys.On
      → is_turned_on_at own device (time_of g) ≡ true
  on_at g i state cause is =
      let at = founded_at own before g (front_founded place_of (IsDue own) before (h ∷ later) founded) i in
      let c : ChangesState own at.front device (time_of g) state cause whys.On = subst (IsCaused own at.front g.note.time) is at.due.cause in
      let e = c.2.1 in
      let on = founded_at own at.front e at.founded (numbered_in at.front cause e c.2.2.there) in
      let caused : IsCaused own on.front e.note.time (notes.Event c.2.0 (events.On device)) =
      subst (IsCaused own on.front e.note.time) c.2.3 on.due.cause in
      ap (is_turned_on_at own device) (sym c.2.2.same_time) ∙ turned_on_by own device caused

  module _ (off : is_turned_on_at own device (time_of h) ≡ false) where
    -- so where none does at the record's time, none before it does
    not_on : (g : Happening) → IsIn g before → (body : NoteBody) → g.note.body ≡ body → time_of g ≡ time_of h → (turns device body && is_turning_on body) ≡ false
    not_on g i (notes.State other state cause whys.On) is at =
        false_from_ne_true (device.0 == other.0 && true) (λ e.
        let id : ℕ → DeviceId = λ n. record { 0 = n } in
        let same : other ≡ device = ap id (sym (eqb-true device.0 other.0 (sym (and_all (device.0 == other.0)) ∙ e))) in
        let on = on_at g i state cause (subst (λ (d : DeviceId). g.note.body ≡ notes.State d state cause whys.On) same is) in
        never (sym off ∙ ap (is_turned_on_at own device) (sym at) ∙ on))
      where
        never : false ≡ true → ⊥
        never e = cc
    not_on g i (notes.State other state cause why) is at = none_shorter (device.0 == other.0)
    not_on g i body is at = none_shorter (turns device body)

    only_early : (g : Happening) → IsIn g before → sought device (time_of h) g ≡ (early device (time_of h) g && turning device g)
    only_early g i = by (early device (time_of h) g) refl
      where
        ahead : time_of g ≤ time_of h
        ahead = time_before (time_of g) (time_of h) (rank g.note.body ∷ key (members_in g) g.note.body) (rank h.note.body ∷ key (members_in h) h.note.body)
            ((founded before later h refl).0 g i)

        by : (b : Bool) → early device (time_of h) g ≡ b → sought device (time_of h) g ≡ (early device (time_of h) g && turning device g)
        by true e = rw e (and_all (turning device g))
        by false e =
            let late = ltb-false (time_of g) (time_of h) e in
            rw e (not_on g i g.note.body refl (omega (arith, ahead, late)))

    state_is : state_before own all device (time_of h) ≡ after device start (earlier (time_of h) before)
    state_is =
        ap (λ (b : Bool). if b then Integrating else after device start (earlier (time_of h) all)) off
        ∙ ap (after device start) earlier_same

    sought_is : filter (sought device (time_of h)) (records_before (place_of h) all) ≡ filter (turning device) (earlier (time_of h) before)
    sought_is =
        ap (filter (sought device (time_of h))) (parted_there of number h there).are
        ∙ same_kept device (time_of h) before only_early

    abbrev number_of : List Happening → ℕ
    number_of gs = option_map_or (λ (g : Happening). g.note.number) (last_or None gs) 0

    since_off : LeavesIn device start (filter (turning device) (earlier (time_of h) before)) (after device start (earlier (time_of h) before))
        → IsStateSince own all h device (unsynchronised_ground own all h device)
    since_off (inl (none, is)) = inr (inl (ap number_of (sought_is ∙ none), state_is ∙ is))
    since_off (inr (front, g, parted, is)) =
        let i : IsIn g (filter (turning device) (earlier (time_of h) before)) = subst (IsIn g) (sym parted) (in_right g front (g ∷ []) (inl refl)) in
        let j = in_filter (turning device) (earlier (time_of h) before) g i in
        let k = in_filter (early device (time_of h)) before g j in
        let last = ap number_of (sought_is ∙ parted) ∙ ap (λ (o : Option Happening). option_map_or (λ (x : Happening). x.note.number) o 0) (last_pushed None front g) in
        inr (inr (record {
          bringing = g;
          there = ap (numbered all) last ∙ by_number own all g of.run.founded (subst (IsIn g) (sym parts) (in_left g before (h ∷ later) k));
          earlier = ltb-true (time_of g) (time_of h) (has_passed (early device (time_of h)) before g j);
          changes = has_passed (turning device) (earlier (time_of h) before) g i;
          leaves = λ old. is old ∙ sym state_is;
        }))

  by_start : (b : Bool) → is_turned_on_at own device (time_of h) ≡ b → IsStateSince own all h device (unsynchronised_ground own all h device)
  by_start true on = inl (on, ap (λ (b : Bool). if b then Integrating else after device start (earlier (time_of h) all)) on)
  by_start false off = since_off off (left_in device start (earlier (time_of h) before))

  -- the state that is told is the one in which the record came to it, which is told too
  pub since_so : IsStateSince own all h device (unsynchronised_ground own all h device)
  since_so = by_start (is_turned_on_at own device (time_of h)) refl
