-- An event befalls before all else of its instant: what is under way then, and what is due.
use Rattle.std.proofs.lemmas.Option.{slice_get_within}
use Rattle.tte_units.proofs.general_lemmas.Lists.{pushed}
use Rattle.world_law.proofs.runs.{Agreement.{arrives_same, broken_same, hold_same, reach_same}}
use Rattle.world_law.proofs.runs.Worlds.{agree_back, event_cause, event_place, none_to_come, numbered_more}
use Rattle.world_law.proofs.runs.Worlds.{numbered_still}
use Rattle.{run_law.specs.scenario.Hypothesis.breaks_at, std.proofs.lemmas.Bool.{le-leb, lt-leb}, world_law.specs.source.Agreeing.Agree}
use Rattle.world_law.proofs.steps_lemmas.Words.{◌&&◌, ◌++◌, ◌+◌, ◌<◌, ◌==◌, ◌||◌, ◌↔◌, ◌∙◌, ◌∷◌, ◌≡◌, ◌≤◌, ◌⊎◌, AreAtPorts, AreOnWires, AreSettled, AreWaiting}
use Rattle.world_law.proofs.steps_lemmas.Words.{AtPort, Bool, DeviceId, Event, Gives, Happening, IsBefore, IsCaused, IsEventBody, IsIn, IsOnWire, IsOwnSource}
use Rattle.world_law.proofs.steps_lemmas.Words.{IsPermanent, IsWaitingFor, LinkId, List, Network, NoteBody, OnWire, Scenario, Some, Units, Waiting, [], amount}
use Rattle.world_law.proofs.steps_lemmas.Words.{ap, arith, behind, cases_lt, false, filter_no, filter_yes, inl, inr, ints, is_broken, is_turned_on_at, length}
use Rattle.world_law.proofs.steps_lemmas.Words.{list_any, members_in, nat_le, numbered, numbered_in, or_none, own_time, place_of, port_place}
use Rattle.world_law.proofs.steps_lemmas.Words.{rank, refl, ripe_place, scenario, subst, sym, time_of, true, turns_on, way_from, wire_place, ℕ}
use Rattle.world_law.specs.world.World.{IsForward}
use Rattle.run_law.specs.declared.judgement.Why.TheVariants as whys
use Rattle.run_law.specs.declared.note.NoteBody.TheVariants as notes

-- what the step starts from
pub record IsBefalling (network : Network) (f g : DeviceId → ℕ → ℕ) (past : List Event) (event : Event)
    (hs : List Happening) (frontier : List ℕ) (now : ℕ)
    (ev : Happening) : Type 0 where
  pub at : amount event.time ≡ now
  pub agree : (t : ℕ) → t < now → Agree network f g past (past ++ event ∷ []) t
  pub sooner : (h : Happening) → IsIn h hs → (time_of h < now) ⊎ ((time_of h ≡ now) × IsEventBody h.note.body)
  pub early : (p : List ℕ) → IsBefore p frontier → IsBefore p (now ∷ 2 ∷ [])
  pub over : (p : List ℕ) → IsBefore p (now ∷ []) → IsBefore p frontier
  pub ev_at : time_of ev ≡ now
  pub ev_is : ev.note.body ≡ notes.Event (length past + 1) event.what

-- ---- records of the instant are those of events

low_rank : (body : NoteBody) → rank body < 2 → IsEventBody body
low_rank (notes.Event line what) few = tt
low_rank other few = absurd (omega arith)

pub before_others : (h : Happening) (now : ℕ) → IsBefore (place_of h) (now ∷ 2 ∷ []) → (time_of h < now) ⊎ ((time_of h ≡ now) × IsEventBody h.note.body)
before_others h now (inl lt) = inl lt
before_others h now (inr (e, inl few)) = inr (e, low_rank h.note.body few)
before_others h now (inr (e, inr (r, none))) = absurd none

-- the scenarios agree up to each time before
pub agree_before : (network : Network) (f g : DeviceId → ℕ → ℕ) (past : List Event) (event : Event) {now : ℕ} (t : ℕ)
    → amount event.time ≡ now
    → ((device : DeviceId) (x : ℕ) → x ≤ now → g device x ≡ f device x) → t < now → Agree network f g past (past ++ event ∷ []) t
agree_before network f g past event t at reads lt = grind (arith, filter_no, nat_le, amount, lt-leb)

-- ---- wires

pub wires_apply : {network : Network} {f g : DeviceId → ℕ → ℕ} {past : List Event} {event : Event}
    {hs : List Happening} {frontier : List ℕ} {now : ℕ} {ev : Happening} {pending : Bool} {wires : List OnWire}
    → IsBefalling network f g past event hs frontier now ev
    → ((e : OnWire) → IsIn e wires → (it : IsOnWire (scenario network f past) hs e) → time_of it.putting ≡ now → ⊥)
    → IsForward (scenario network f past) → AreOnWires (scenario network f past) hs frontier now pending wires
    → AreOnWires (scenario network g (past ++ event ∷ [])) (hs ++ ev ∷ []) (now ∷ 2 ∷ []) now true wires
wires_apply {hs} {frontier} {now} {ev} m earlier_all forward are = record {
  real = λ e i.
      let was = are.real e i in
      let it = was.0 in
      elim (m.sooner it.putting (numbered_in hs e.cause it.putting it.there)) [
        | inl lt ↦ (
          record {
            putting = it.putting;
            there = numbered_still hs ev e.cause it.there;
            arrives = arrives_same it.putting e.device e.link e.at e.signal (m.agree (time_of it.putting) lt)
                (omega arith) it.arrives;
          },
          λ open_ at. (omega arith),
          λ b. was.2 (worked e b),
        )
        | inr same ↦ absurd (earlier_all e i it same.0)
      ];
  all = λ t device link cause a old_one not.
      elim (numbered_more hs ev cause a.there) [
        | inr new ↦ absurd (old_one refl (sym (ap time_of new.1) ∙ m.ev_at))
        | inl there ↦ elim (m.sooner a.putting (numbered_in hs cause a.putting there)) [
          | inr same ↦ absurd (old_one refl same.0)
          | inl lt ↦
              let back = arrives_same a.putting device link t a.signal
              (agree_back (m.agree (time_of a.putting) lt)) (omega arith) a.arrives in
              are.all t device link cause (record { putting = a.putting; there = there; signal = a.signal; arrives = back })
              (λ open_ at. (omega arith)) (λ b. not (m.early _ b))
        ]
      ];
}
  where
    worked : (e : OnWire) → IsBefore (wire_place e) (now ∷ 2 ∷ []) → IsBefore (wire_place e) frontier
    worked e (inl lt) = m.over (wire_place e) (inl lt)
    worked e (inr (t, inl few)) = absurd (omega arith)
    worked e (inr (t, inr (r, none))) = absurd none

-- ---- ports

no_gift : (network : Network) (body : NoteBody) (device : DeviceId) (link : LinkId) → Gives network body device link → IsEventBody body → ⊥
no_gift network (notes.Sent master cycle) device link gives is = is
no_gift network (notes.Compressed cm opened at cycle members verdict) device link gives is = is
no_gift network (notes.Arrived relay by cause clock) device link gives is = is
no_gift network other device link gives is = gives

pub ports_apply : {network : Network} {f g : DeviceId → ℕ → ℕ} {past : List Event} {event : Event}
    {hs : List Happening} {frontier : List ℕ} {now : ℕ} {ev : Happening} {ports : List AtPort}
    → IsBefalling network f g past event hs frontier now ev → AreAtPorts (scenario network f past) hs frontier ports
    → AreAtPorts (scenario network g (past ++ event ∷ [])) (hs ++ ev ∷ []) (now ∷ 2 ∷ []) ports
ports_apply {network} {f} {g} {past} {event} {hs} {frontier} {now} {ev} m are = record {
  real = λ e i.
      let was = are.real e i in
      let it = was.0 in
      elim (m.sooner it.giving (numbered_in hs e.cause it.giving it.there)) [
        | inr same ↦ absurd (not_event it.giving e.device e.link it.gave.gives same.1)
        | inl lt ↦
            let a = m.agree (time_of it.giving) lt in
            let held = hold_same network f g past (past ++ event ∷ []) (time_of it.giving) (time_of it.giving) e.link (way_from network e.device e.link) a
            (omega arith) in (
              record {
                giving = it.giving;
                there = numbered_still hs ev e.cause it.there;
                gave = record {
                  gives = it.gave.gives;
                  held = it.gave.held ∙ (rw held);
                  of_frame = it.gave.of_frame;
                  read = it.gave.read ∙ a.reads e.device (time_of it.giving) (omega arith);
                };
              },
              λ b. was.1 (worked e b),
            )
      ];
  all = λ t device link cause d not.
      elim (numbered_more hs ev cause d.there) [
        | inr new ↦ absurd (not_event ev device link (rw new.1 d.gives)
            (subst IsEventBody (sym m.ev_is) tt))
        | inl there ↦ elim (m.sooner d.giving (numbered_in hs cause d.giving there)) [
          | inr same ↦ absurd (not_event d.giving device link d.gives same.1)
          | inl lt ↦
              let held = hold_same network f g past (past ++ event ∷ []) (time_of d.giving) (time_of d.giving) link (way_from network device link)
              (m.agree (time_of d.giving) lt) (omega arith) in
              are.all t device link cause
              (record { giving = d.giving; there = there; gives = d.gives; held = d.held ∙ (rw (sym held)) })
              (λ b. not (m.early _ b))
        ]
      ];
}
  where
    not_event : (h : Happening) (device : DeviceId) (link : LinkId) → Gives network h.note.body device link → IsEventBody h.note.body → ⊥
    not_event h device link gives is = no_gift network h.note.body device link gives is

    worked : (e : AtPort) → IsBefore (port_place e) (now ∷ 2 ∷ []) → IsBefore (port_place e) frontier
    worked e (inl lt) = m.over (port_place e) (inl lt)
    worked e (inr (t, inl few)) = absurd (omega arith)
    worked e (inr (t, inr (r, none))) = absurd none

-- ---- what waits

permanent_to : {n : Network} {f g : DeviceId → ℕ → ℕ} {events more : List Event} {hs : List Happening}
    (js : List Happening) {t : ℕ} {device : DeviceId} {link : LinkId} {cause : ℕ} {frame : _} {point : Units}
    → Agree n f g events more t → (p : IsPermanent (scenario n f events) hs device t link cause frame point)
    → numbered js cause ≡ Some p.arrival → IsPermanent (scenario n g more) js device t link cause frame point
permanent_to {n} {f} {g} {events} {more} js {t} {device} a p there =
    let from = p.reached.from_on in
    record {
      arrival = p.arrival;
      there = there;
      from = p.from;
      clock = p.clock;
      arrived = p.arrived;
      of_frame = p.of_frame;
      waits = p.waits;
      at_point = p.at_point ∙ (rw (a.reads device (time_of p.arrival) (omega (arith, ints))));
      reached = reach_same n f g events more t device a (omega arith) p.reached;
      correct = sym (broken_same t device a (omega arith)) ∙ p.correct;
    }

no_arrival : (network : Network) (h : Happening) {body : NoteBody} (device : DeviceId) (link : LinkId) (from clock : ℕ)
    → h.note.body ≡ body
    → body ≡ notes.Arrived device link from clock → IsEventBody h.note.body → ⊥
no_arrival network h device link from clock e arrived is = subst IsEventBody (e ∙ arrived) is

ripe_early : (now t : ℕ) (e : Waiting) → IsBefore (ripe_place t e) (now ∷ 2 ∷ []) → t < now
ripe_early now t e (inl lt) = lt
ripe_early now t e (inr (same, inl few)) = absurd (omega arith)
ripe_early now t e (inr (same, inr (r, none))) = absurd none

or_assoc : (a b c : Bool) → (a || (b || c)) ≡ ((a || b) || c)
or_assoc true b c = refl
or_assoc false b c = refl

any_more : {X : Type 0} (q : X → Bool) (xs : List X) (x : X) → list_any q (xs ++ x ∷ []) ≡ (list_any q xs || q x)
any_more q [] x = or_none (q x)
any_more q (y ∷ xs) x = rw (any_more q xs x) (or_assoc (q y) (list_any q xs) (q x))

module _ (network : Network) (f g : DeviceId → ℕ → ℕ) (past : List Event) (event : Event) (now : ℕ)
    (device : DeviceId) where
  pub turned_more : is_turned_on_at (scenario network g (past ++ event ∷ [])) device now ≡
      (is_turned_on_at (scenario network f past) device now || (turns_on device event.what && amount event.time ==
      now))
  turned_more = any_more (λ e. turns_on device e.what && amount e.time == now) past event

  pub broken_more : amount event.time ≡ now → is_broken (scenario network g (past ++ event ∷ [])) device now
      ≡ (is_broken (scenario network f past) device now || breaks_at device.0 event.what)
  broken_more at = grind (arith, list_any, filter_yes, nat_le, amount, le-leb, any_more, scenario)

first_false : (a b : Bool) → (a || b) ≡ false → a ≡ false
first_false true b e = e
first_false false b e = refl

pub waiting_apply : {network : Network} {f g : DeviceId → ℕ → ℕ} {past : List Event} {event : Event}
    {hs : List Happening} {frontier : List ℕ} {now : ℕ} {ev : Happening} {waiting : List Waiting}
    (new : List Waiting) → IsBefalling network f g past event hs frontier now ev
    → AreWaiting (scenario network f past) hs frontier now waiting
    → ((e : Waiting) → IsIn e new ↔ (IsIn e waiting × (is_broken (scenario network g (past ++ event
    ∷ [])) e.device now ≡ false))) → AreWaiting (scenario network g (past ++ event ∷ [])) (hs ++ ev ∷ [])
    (now ∷ 2 ∷ []) now new
waiting_apply {network} {f} {g} {past} {event} {hs} {now} {ev} new m are kept =
    record {
      real = λ e i.
          let it = are.real e ((kept e).0 i).0 in
          elim (m.sooner it.arrival (numbered_in hs e.cause it.arrival it.there)) [
            | inr same ↦ absurd (no_arrival network it.arrival e.device e.link it.awaited.from it.awaited.clock refl
                it.awaited.arrived
                same.1)
            | inl lt ↦
                let a = m.agree (time_of it.arrival) lt in
                let w = it.awaited in
                record {
                  arrival = it.arrival;
                  there = numbered_still hs ev e.cause it.there;
                  awaited = record {
                    from = w.from;
                    clock = w.clock;
                    arrived = w.arrived;
                    of_frame = w.of_frame;
                    waits = w.waits;
                    at_point = w.at_point
                        ∙ (rw (a.reads e.device (time_of it.arrival) (omega arith)));
                  };
                }
          ];
      later = λ e i t x b.
          let lt = ripe_early now t e b in
          let p = x.permanent in
          elim (numbered_more hs ev e.cause p.there) [
            | inr fresh ↦ no_arrival network ev e.device e.link p.from p.clock (rw fresh.1) p.arrived
                (subst IsEventBody (sym m.ev_is) tt)
            | inl there ↦
                are.later e ((kept e).0 i).0 t
                (record {
                  frame = x.frame;
                  permanent = permanent_to hs (agree_back (m.agree t lt)) p there;
                })
                (m.over (ripe_place t e) (inl lt))
          ];
      sound = λ e i. ((kept e).0 i).1;
      all = λ e it sound not.
          elim (numbered_more hs ev e.cause it.there) [
            | inr fresh ↦ absurd (no_arrival network ev e.device e.link it.awaited.from it.awaited.clock
                (rw fresh.1) it.awaited.arrived (subst IsEventBody (sym m.ev_is) tt))
            | inl there ↦ elim (m.sooner it.arrival (numbered_in hs e.cause it.arrival there)) [
              | inr same ↦ absurd (no_arrival network it.arrival e.device e.link it.awaited.from it.awaited.clock refl
                  it.awaited.arrived
                  same.1)
              | inl lt ↦
                  let a = m.agree (time_of it.arrival) lt in
                  let w = it.awaited in
                  let was : IsWaitingFor (scenario network f past) hs e = record {
                    arrival = it.arrival;
                    there = there;
                    awaited = record {
                      from = w.from;
                      clock = w.clock;
                      arrived = w.arrived;
                      of_frame = w.of_frame;
                      waits = w.waits;
                      at_point = w.at_point
                          ∙ (rw (sym (a.reads e.device (time_of it.arrival) (omega arith))));
                    };
                  } in
                  let here = first_false (is_broken (scenario network f past) e.device now) (breaks_at e.device.0 event.what)
                  (sym (broken_more network f g past event now e.device m.at) ∙ sound) in
                  (kept e).1 (
                    are.all e was here (λ t x b.
                        let under = m.early (ripe_place t e) b in
                        let less = ripe_early now t e under in
                        not t (record {
                          frame = x.frame;
                          permanent = permanent_to (hs ++ ev ∷ [])
                              (m.agree t less) x.permanent (numbered_still hs ev e.cause x.permanent.there);
                        }) under),
                    sound,
                  )
            ]
          ];
    }

-- ---- nothing else is due up to it

-- a record that comes from a source of that rank is that of an event
pub own_event : (s : Scenario) (js : List Happening) (t members : ℕ) (body : NoteBody) (k : ℕ) (ws : List ℕ) → IsOwnSource s js t members body (t ∷ k ∷ ws)
    → k < 2 → IsEventBody body
own_event s js t m (notes.Event line what) k ws o few = tt
own_event s js t m (notes.State d state cause whys.SyncClique) k ws o few = grind arith
own_event s js t m other k ws o few = grind arith

event_there : (network : Network) (g : DeviceId → ℕ → ℕ) (past : List Event) (event : Event) (js : List Happening)
    (y : Happening) {now : ℕ}
    → amount event.time ≡ now → time_of y ≡ now → IsEventBody y.note.body → IsCaused (scenario network g (past ++ event ∷ [])) js y.note.time y.note.body
    → IsBefore (place_of y) (behind (now ∷ 1 ∷ (length past + 1) ∷ []))
event_there network g past event js y at y_at is caused =
    grind (arith, event_cause, scenario, length, pushed, slice_get_within, behind, event_place, cases_lt)

pub nothing_due : (network : Network) (g : DeviceId → ℕ → ℕ) (past : List Event) (event : Event) (js : List Happening)
    {now : ℕ} → amount event.time ≡ now
    → AreSettled (scenario network g (past ++ event ∷ [])) js [] (behind (now ∷ 1 ∷ (length past + 1) ∷ [])) (now ∷ 2 ∷ []) now
nothing_due network g past event js {now} at = none_to_come (λ front y not due worked.
    let s = scenario network g (past ++ event ∷ []) in
    let own = own_time s (js ++ front) (time_of y) (members_in y) y.note.body worked.0 worked.1 in
    let here = rw own.2 at worked.1 in
    elim (rw own.2 at worked.3) [
      | inl lt ↦ not (inl lt)
      | inr (e_at, inl few) ↦ not
          (event_there network g past event (js ++ front) y at e_at
          (own_event s (js ++ front) (time_of y) (members_in y) y.note.body own.0 own.1 here few) due.cause)
      | inr (e_at, inr (r, nothing)) ↦ nothing_before own.1 nothing
    ])
  where
    nothing_before : (ws : List ℕ) → IsBefore ws [] → ⊥
    nothing_before ws b = b
