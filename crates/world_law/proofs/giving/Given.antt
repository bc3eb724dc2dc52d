-- The first of what is to come is given: the world stands again.
use Rattle.run_law.proofs.{law.FirstDeliveries.numbered_next, runs.NetworkRuns.one_more}
use Rattle.world_law.proofs.{lists.Lists.behind_yes, rows.AtHand.frames_by_others}
use Rattle.world_law.proofs.devices.{Working.worked_on}
use Rattle.world_law.proofs.devices.Standing
use Standing.{adjustments_plain, changes_at_plain, filter_plain, plains_parts, states_plain, told_by_others}
use Rattle.world_law.proofs.runs.Worlds.{AreSettled, acting_back, arrives_later, arriving_more, departing_more}
use Rattle.world_law.proofs.runs.Worlds.{earlier_still, first_is_next, gives_rank, length_is, no_higher, none_pending}
use Rattle.world_law.proofs.runs.Worlds.{numbered_more, numbered_still}
use Rattle.world_law.proofs.runs.{TaskPlaces.acts_before}
use Rattle.world_law.specs.world.World.{AreUntold, Befell, IsActedUpTo, IsAtRest, IsJustTold, Stored, is_turning, note_of}
use Rattle.std.proofs.lemmas.{List.length_push, Option.slice_get_cases}
use Rattle.world_law.proofs.Words.{◌++◌, ◌+◌, ◌<◌, ◌∙◌, ◌∷◌, ◌≡◌, ◌⊎◌, AreAtPorts, AreOfNetwork, AreOnWires, AreWaiting}
use Rattle.world_law.proofs.Words.{AtPort, Bool, Device, DeviceId, Happening, Integrating, IsActedOut, IsActing, IsBefore}
use Rattle.world_law.proofs.Words.{IsHeld, IsIn, IsJoiningNow, IsKept, IsSource, List, Network}
use Rattle.world_law.proofs.Words.{NoSourceBefore, Node, Note, NoteBody, OnWire, Pcf, Scenario, Some, World}
use Rattle.world_law.proofs.Words.{Task, Waiting, [], act_place, adjustment_after, amount, ap, append-nil, append_assoc, arith, before_behind}
use Rattle.world_law.proofs.Words.{before_next_time, behind, cases_Bool, chain, changed_at, clock_place, device_at, earlier, ends_stretch, eqb-true, false}
use Rattle.world_law.proofs.Words.{filter, filter_map, happening, happenings, in_left, in_parts, in_right, inl, inr, ints}
use Rattle.world_law.proofs.Words.{is_joined_by, key, length, members_in, nat_le, never_self, no_cluster}
use Rattle.world_law.proofs.Words.{numbered, numbers_end, observation_window, place_of, plains, point_by, points_of, port_place, rank, refl}
use Rattle.world_law.proofs.Words.{ripe_place, state_after, state_before, subst, suc, sym, time_of, true, units_of, up_to, wire_place, ℕ}
use Rattle.world_law.proofs.runs.Over.{StandsOver, over_of}
use Rattle.world_law.{proofs.giving.Storing.stored_then, specs.world.Moves.{AreAwaited, AreGiven, ArePut, AreTaken, GivenStep, StandsAt}}
use Rattle.world_law.proofs.giving.GivenAs.{coming_then}
use Rattle.world_law.proofs.giving.GivenParts.{IsGiving, over_itself, same_permanent, some_same, up_to_place, worked_by_then}
use Rattle.world_law.specs.{device.Plain.with_number, world.World.IsDueAs}
use Rattle.run_law.specs.declared.judgement.Judgement.TheVariants as judgements
use Rattle.run_law.specs.declared.note.NoteBody.TheVariants as kinds

-- ---- what the records tell but for a number

up_to_by : (js gs : List Happening) (t : ℕ) → plains js ≡ plains gs → plains (up_to t js) ≡ plains (up_to t gs)
up_to_by js gs t same =
    let p = λ (h : Happening). nat_le (time_of h) t in
    sym (filter_plain p p (λ h. refl) js) ∙ ap (λ l. filter p l) same ∙ filter_plain p p (λ h. refl) gs

module _ (s : Scenario) (js gs : List Happening) (device : DeviceId) (t : ℕ) (same : plains js ≡ plains gs) where
  states_by : state_after s (up_to t js) device ≡ state_after s (up_to t gs) device
  states_by =
      sym (states_plain s (up_to t js) device) ∙ ap (λ l. state_after s l device)
      (up_to_by js gs t same) ∙ states_plain s (up_to t gs) device

  adjustments_by : adjustment_after s (up_to t js) device ≡ adjustment_after s (up_to t gs) device
  adjustments_by =
      sym (adjustments_plain s (up_to t js) device) ∙ ap (λ l. adjustment_after s l device)
      (up_to_by js gs t same)
      ∙ adjustments_plain s (up_to t gs) device

-- ---- whom a frame of its own tells the time

ends_joined : (device : DeviceId) (body : NoteBody) → is_joined_by device body ≡ true → ends_stretch device body ≡ true
ends_joined device (kinds.State other state cause why) e = absurd cc
ends_joined device body e = e

joined_points : (hs : List Happening) (z : Happening) (device : DeviceId) → is_joined_by device z.note.body ≡ true → points_of (hs ++ z ∷ []) device ≡ []
joined_points hs z device joins = ap (filter_map (λ h. point_by device h h.note.body))
    (behind_yes (λ h. ends_stretch device h.note.body) hs z (ends_joined device z.note.body joins))

joined_place : (z : Happening) (device : DeviceId) {now : ℕ} → time_of z ≡ now → (body : NoteBody) → z.note.body ≡ body
    → rank body ≡ 4
    → is_joined_by device body ≡ true → IsBefore (act_place now device) (place_of z)
joined_place z device {now} at (kinds.Compressed other opened out cycle members judgements.Integrates) e four joins =
    subst (λ l. IsBefore (act_place now device) l)
    (sym (ap (λ b. time_of z ∷ rank b ∷ key (members_in z) b) e
    ∙ ap (λ n. n ∷ 4 ∷ other.0 ∷ key_rest (members_in z) (kinds.Compressed other opened out cycle members
    judgements.Integrates)) at))
    (inr (refl, inr (refl, inr (eqb-true device.0 other.0 joins, tt))))
  where
    key_rest : ℕ → NoteBody → List ℕ
    key_rest m (kinds.Compressed d o t c k v) =
        amount o ∷ amount t ∷ c ∷ k.0 ∷ Rattle.run_law.specs.records.Ranks.sign o.0 ∷ Rattle.run_law.specs.records.Ranks.sign t.0 ∷ []
    key_rest m other = []
joined_place z device at (kinds.Permanent other link cause point judgements.Integrates) e four joins =
    absurd (omega (arith, four))
joined_place z device at other e four joins = absurd (let bad : false ≡ true = joins in cc)

-- a device that looked for the common time, and has no points, does not act
gone_acts : {s : Scenario} {hs : List Happening} {device : DeviceId} {now : ℕ} {task : Task}
    → state_before s hs device now ≡ Integrating → points_of hs device ≡ [] → IsActing s hs now device task → ⊥
gone_acts {s} looking none (IsActing.emits sent verdict e) =
    no_cluster (observation_window s.network) e.clusters e.cluster
    (rw none at e.are) e.there
gone_acts looking none (IsActing.sends cycle d) =
    let bad = sym looking ∙ d.up.synchronised in cc
gone_acts {s} {hs} {device} {now} looking none (IsActing.corrects cycle c) =
    cc
gone_acts looking none (IsActing.dispatches link cause vl cycle d) =
    let bad = sym looking ∙ d.up.synchronised in cc

changes_by : (js gs : List Happening) (device : DeviceId) (t : ℕ) → plains js ≡ plains gs → changed_at js device t ≡ changed_at gs device t
changes_by js gs device t same = sym (changes_at_plain js device t) ∙ ap (λ l. changed_at l device t) same ∙ changes_at_plain gs device t

module _ {s : Scenario} {hs : List Happening} {z : Happening} {rest : List Happening} {from to : List ℕ} {now : ℕ}
    (g : IsGiving s hs z rest from to now) {n : ℕ} (is : n ≡ length hs + 1) where
  -- the source is worked off, though the record is given
  worked_yet : {w : List ℕ} → IsSource s (hs ++ with_number n z ∷ []) w → IsBefore w (behind (place_of z))
      → IsBefore w to
  worked_yet {w} source under = worked_by_then g (with_number n z ∷ []) (over_itself z n) source under

  here_then : {cause : ℕ} → cause ≡ n → numbered (hs ++ with_number n z ∷ []) cause ≡ Some (with_number n z)
  here_then {cause} e = numbered_next hs [] (with_number n z) cause (e ∙ is)

  there_still : {h : Happening} (cause : ℕ) → numbered hs cause ≡ Some h → numbered (hs ++ with_number n z ∷ [])
      cause ≡ Some h
  there_still {h} cause there = numbered_still hs (with_number n z) cause there

  -- ---- wires

  wires_then : {wires new : List OnWire} → AreOnWires s hs to now false wires → ArePut s (with_number n z) n wires new
      → AreOnWires s (hs ++ with_number n z ∷ []) (behind (place_of z)) now false new
  wires_then {wires} {new} are put = record {
    real = λ e i. elim (put.real e i) [
      | inl old ↦
          let was = are.real e old in
          let there = there_still e.cause was.0.there in
          let source = IsSource.arriving e.at e.device e.link e.cause
          (record { putting = was.0.putting; there = there; signal = e.signal; arrives = was.0.arrives }) in (
            record { putting = was.0.putting; there = there; arrives = was.0.arrives },
            λ open_. absurd cc,
            λ b. was.2
                (worked_yet source b),
          )
      | inr it ↦
          let later = arrives_later g.forward it.1 in (
            record { putting = with_number n z; there = here_then it.0; arrives = it.1 },
            λ open_. absurd cc,
            λ b. elim (no_higher e.at 2 (time_of z) (rank z.note.body) _ (key (members_in z) z.note.body) (up_to_place (wire_place e) (place_of z) b)) [
              | inl lt ↦ omega arith
              | inr same ↦ omega (arith, same.0)
            ],
          )
    ];
    all = λ t device link cause a told not.
        elim (arriving_more hs (with_number n z) a) [
          | inl old ↦ let found =
              are.all t device link cause old (λ open_. absurd cc) (λ b. not (g.are.not_past z (inl refl) _ b)) in (found.0, put.kept found.0 found.1, found.2)
          | inr it ↦
              let found = put.all device link t it.1.0 it.1.1 in
              (found.0, found.1, found.2 ∙ ap (λ k. t ∷ 2 ∷ device.0 ∷ link.0 ∷ k ∷ []) (is ∙ sym it.0))
        ];
  }

  -- ---- ports

  ports_then : {ports new : List AtPort} → AreAtPorts s hs to ports → AreGiven s (with_number n z) n ports new
      → AreAtPorts s (hs ++ with_number n z ∷ []) (behind (place_of z)) new
  ports_then {ports} {new} are put = record {
    real = λ e i. elim (put.real e i) [
      | inl old ↦
          let was = are.real e old in
          let there = there_still e.cause was.0.there in
          let source = IsSource.departing e.at e.device e.link e.cause
          (record { giving = was.0.giving; there = there; gives = was.0.gave.gives; held = was.0.gave.held }) in
          (record { giving = was.0.giving; there = there; gave = was.0.gave }, λ b. was.1 (worked_yet source b))
      | inr it ↦
          let low = gives_rank s.network z.note.body e.device e.link it.1.gives in
          let held = it.1.held in (
            record { giving = with_number n z; there = here_then it.0; gave = it.1 },
            λ b. elim (no_higher e.at 8 (time_of z) (rank z.note.body) _ (key (members_in z) z.note.body) (up_to_place (port_place e) (place_of z) b)) [
              | inl lt ↦ omega arith
              | inr same ↦ omega (arith, same.1)
            ],
          )
    ];
    all = λ t device link cause d not.
        elim (departing_more hs (with_number n z) d) [
          | inl old ↦ let found = are.all t device link cause old (λ b. not (g.are.not_past z (inl refl) _ b)) in (found.0, put.kept found.0 found.1, found.2)
          | inr it ↦
              let found = put.all device link it.1 in (
                found.0,
                found.1,
                found.2 ∙ ap (λ u. u ∷ 8 ∷ device.0 ∷ link.0 ∷ n ∷ []) (sym it.2) ∙ ap
                    (λ k. t ∷ 8 ∷ device.0 ∷ link.0 ∷ k ∷ [])
                    (is ∙ sym it.0),
              )
        ];
  }

  -- ---- what waits

  waiting_then : {waiting new : List Waiting} → AreWaiting s hs to now waiting
      → AreAwaited s (with_number n z) n waiting new
      → AreWaiting s (hs ++ with_number n z ∷ []) (behind (place_of z)) now new
  waiting_then {waiting} {new} are put = record {
    real = λ e i. elim (put.real e i) [
      | inl old ↦ let was = are.real e old in record {
        arrival = was.arrival;
        there =
            there_still e.cause was.there;
        awaited = was.awaited;
      }
      | inr it ↦ record { arrival = with_number n z; there = here_then it.0; awaited = it.1 }
    ];
    later = λ e i t r b.
        let p = r.permanent in
        elim (put.real e i) [
          | inl old ↦
              let was = are.real e old in
              let arrival = some_same was.arrival p.arrival _ (there_still e.cause was.there) p.there in
              let there = was.there ∙ ap Some arrival in
              let frame = some_same r.frame e.frame _ p.of_frame (rw (sym arrival) was.awaited.of_frame) in
              let at = ripe_with t e r.frame frame in
              let yet = worked_yet (IsSource.ripening t e.device e.link e.cause e.point r)
              (subst (λ q. IsBefore q (behind (place_of z))) (sym at) b) in
              are.later e old t (record { frame = r.frame; permanent = same_permanent hs p there })
              (rw at at yet)
          | inr it ↦
              let arrival = some_same (with_number n z) p.arrival _ (here_then it.0) p.there in
              let two : rank z.note.body ≡ 2 = ap (λ h. rank h.note.body) arrival ∙ ap rank p.arrived in
              let from = p.reached.from_on in
              let at : time_of z ≡ time_of p.arrival = ap time_of arrival in
              elim (no_higher t 3 (time_of z) (rank z.note.body) _ (key (members_in z) z.note.body) (up_to_place (ripe_place t e) (place_of z) b)) [
                | inl lt ↦ omega (arith, ints)
                | inr same ↦ omega (arith, same.1)
              ]
        ];
    sound = λ e i. elim (put.real e i)
        [ inl old ↦ are.sound e old | inr it ↦ rw (g.are.of_now z (inl refl)) at it.2 ];
    all = λ e it sound not.
        elim (numbered_more hs (with_number n z) e.cause it.there) [
          | inl old ↦
              put.kept e (are.all e (record { arrival = it.arrival; there = old; awaited = it.awaited }) sound (λ t r b.
              not t (record {
                frame = r.frame;
                permanent = same_permanent _ r.permanent
                    (there_still e.cause r.permanent.there);
              })
              (g.are.not_past z (inl refl) (ripe_place t e) b)))
          | inr new_one ↦
              put.all e (new_one.0 ∙ sym is) (rw new_one.1 it.awaited)
              (rw (g.are.of_now z (inl refl)) sound)
        ];
  }
    where
      ripe_with : (t : ℕ) (e : Waiting) (frame : Pcf) → frame ≡ e.frame → t ∷ 3 ∷ e.device.0 ∷ amount e.point ∷ frame.members.0 ∷ e.link.0 ∷ e.cause
          ∷ [] ≡ ripe_place t e
      ripe_with t e frame same = rw same

  -- ---- devices

  alone_now : (y : Happening) → IsIn y (with_number n z ∷ []) → time_of y ≡ now
  alone_now y (inl e) = ap time_of e ∙ g.are.of_now z (inl refl)
  alone_now y (inr none) = absurd none

  -- where the acts of the device are before what follows the record, what acts by the records with it, acts by those before
  act_back : {device : DeviceId} → IsBefore (act_place now device) (behind (place_of z)) → {task : Task}
      → IsActing s (hs ++ with_number n z ∷ []) now device task → IsActing s hs now device task
  act_back {device} b a =
      search (arith, no_higher, rank, key, up_to_place, place_of, acting_back, alone_now)

  acted_then : {up : ℕ} {device : DeviceId} (node : Node) → IsActedUpTo s hs now device node to up
      → IsActedUpTo s (hs ++ with_number n z ∷ []) now device node (behind (place_of z)) up
  acted_then node (inr over) = inr (over.0, λ p b. g.are.not_past z (inl refl) p (over.1 p b))
  acted_then {device} node (inl still) =
      inl (
        still.0,
        λ task b a.
            still.1 task (worked_yet (IsSource.acting now device task a) b)
            (act_back (acts_before s.network now device task (behind (place_of z)) b) a),
      )

  out_then : {device : DeviceId} → IsActedOut s hs now device to → IsActedOut s (hs ++ with_number n z ∷ []) now device
      (behind (place_of z))
  out_then {device} out =
      let past = g.are.not_past z (inl refl) (act_place now device) out.past in
      record { past = past; all = λ task a. g.are.not_past z (inl refl) _ (out.all task (act_back past a)) }

  -- a device whose own frame tells it the time has no frame left once the record of that is given
  joins_then : {device : DeviceId} → IsJoiningNow s hs (z ∷ rest) device now → IsActedOut s (hs ++ with_number n z ∷ []) now device (behind (place_of z))
      ⊎ (IsJustTold s ((hs ++ with_number n z ∷ []) ++ rest) device now ⊎ IsJoiningNow s (hs ++ with_number n z ∷ []) rest device now)
  joins_then {device} j =
      let same = earlier_still now hs (with_number n z ∷ [])
      (λ y i. let t = alone_now y i in omega arith) in
      let looking : state_before s (hs ++ with_number n z ∷ []) device now ≡ Integrating = rw same j.looking in
      elim j.there [
        | inr more ↦ inr (inr (record { looking = looking; by = j.by; there = more; sent = j.sent; joins = j.joins }))
        | inl is_z ↦
            let four : rank z.note.body ≡ 4 = rw (sym is_z) j.sent in
            let joins : is_joined_by device z.note.body ≡ true = rw (sym is_z) j.joins in
            inl (record {
              past = chain (act_place now device) (place_of z) (behind (place_of z))
                  (joined_place z device (g.are.of_now z (inl refl)) z.note.body refl four joins)
                  (before_behind (place_of z));
              all = λ task a. absurd (gone_acts looking (joined_points hs (with_number n z) device joins) a);
            })
      ]

  -- the records, those to come too, tell what they told but for its number
  alike_then : plains (hs ++ z ∷ rest) ≡ plains ((hs ++ with_number n z ∷ []) ++ rest)
  alike_then = plains_parts hs (z ∷ rest) ∙ sym (plains_parts hs (with_number n z ∷ rest)) ∙ ap plains (sym (append_assoc hs (with_number n z ∷ []) rest))

  earlier_then : earlier now (hs ++ z ∷ rest) ≡ earlier now ((hs ++ with_number n z ∷ []) ++ rest)
  earlier_then =
      search (arith, earlier_still, earlier)

  -- each of them is one of those before, but for its number, and the other way round
  one_then : (h : Happening) → IsIn h ((hs ++ with_number n z ∷ []) ++ rest) → (y : Happening) × IsIn y (hs ++ z ∷ rest) × (time_of y ≡ time_of h)
      × (y.note.body ≡ h.note.body)
  one_then h i = elim (in_parts h hs (with_number n z ∷ rest) (rw (append_assoc hs (with_number n z ∷ []) rest) at i)) [
    | inl old ↦ (h, in_left h hs (z ∷ rest) old, refl, refl)
    | inr (inl e) ↦ (z, in_right z hs (z ∷ rest) (inl refl), ap time_of (sym e), ap (λ k. k.note.body) (sym e))
    | inr (inr more) ↦ (h, in_right h hs (z ∷ rest) (inr more), refl, refl)
  ]

  one_before : (h : Happening) → IsIn h (hs ++ z ∷ rest) → (y : Happening) × IsIn y ((hs ++ with_number n z ∷ []) ++ rest) × (time_of y ≡ time_of h)
      × (y.note.body ≡ h.note.body)
  one_before h i =
      let over : (y : Happening) → IsIn y (hs ++ with_number n z ∷ rest) → IsIn y ((hs ++ with_number n z ∷ []) ++ rest) = λ y j.
      rw (append_assoc hs (with_number n z ∷ []) rest) j in
      elim (in_parts h hs (z ∷ rest) i) [
        | inl old ↦ (h, over h (in_left h hs (with_number n z ∷ rest) old), refl, refl)
        | inr (inl e) ↦ (
          with_number n z,
          over _ (in_right _ hs (with_number n z ∷ rest) (inl refl)),
          ap time_of (sym e),
          rw (sym e),
        )
        | inr (inr more) ↦ (h, over h (in_right h hs (with_number n z ∷ rest) (inr more)), refl, refl)
      ]

  kept_then : {M : Type 0} {stands : M → Network → DeviceId → Node → Type 0} {device : DeviceId} {machine : M}
      → IsKept stands s hs (z ∷ rest) to now device machine
      → IsKept stands s (hs ++ with_number n z ∷ []) rest (behind (place_of z)) now device machine
  kept_then {device} k =
      let later = earlier_then in
      record {
        node = k.node;
        is = k.is;
        sound = k.sound;
        up = k.up;
        acted = acted_then k.node k.acted;
        told =
            λ over. elim (k.told over) [
              | inl out ↦ inl (out_then out)
              | inr (inl just) ↦ inr (inl (record {
                looking =
                    rw (sym later) just.looking;
                other = just.other;
              }))
              | inr (inr joining) ↦ joins_then joining
            ];
        left = told_by_others _ alike_then k.left;
        taken = k.taken ∙ frames_by_others s _ _ device alike_then;
        worked = worked_on _ (behind (place_of z)) (changes_by _ _ device k.up alike_then) (g.are.not_past z (inl refl)) k.worked;
        bare = k.bare;
        ready = k.ready;
        still = λ same h i at.
            let y = one_then h i in subst (IsAtRest s device now) y.3 (k.still same y.0 y.1 (y.2 ∙ at));
        turned = λ on.
            let was = k.turned on in
            record {
              off = rw (sym later) was.off;
              number = was.number;
              event = was.event;
              befell = record { there = there_still was.number was.befell.there; same_time = was.befell.same_time };
              turned = λ b.
                  let by = was.turned (g.are.begun z (inl refl)) in
                  let y = one_before by.by by.there in
                  record { by = y.0; there = y.1; at = y.2 ∙ by.at; turning = ap (is_turning device) y.3 ∙ by.turning };
            };
        cleared = k.cleared;
        phase = λ at p b. g.are.not_past z (inl refl) p (k.phase at p b);
      }

  held_then : {M : Type 0} {stands : M → Network → DeviceId → Node → Type 0} {device : DeviceId} {machine : M}
      → IsHeld stands s hs (z ∷ rest) to now device machine
      → IsHeld stands s (hs ++ with_number n z ∷ []) rest (behind (place_of z)) now device machine
  held_then (inl k) = inl (kept_then k)
  held_then {device} (inr k) = search (arith, states_by, alike_then, adjustments_by)

  -- ---- events

  untold_then : {pending : Bool} {befell : List Befell} → pending ≡ false → AreUntold hs to now pending befell
      → AreUntold (hs ++ with_number n z ∷ []) (behind (place_of z)) now pending befell
  untold_then told untold =
      none_pending told (untold.none told)
      (λ number h it. g.are.not_past z (inl refl) (now ∷ 2 ∷ []) (g.are.begun z (inl refl)))

  known_then : AreOfNetwork s (hs ++ z ∷ rest) → AreOfNetwork s ((hs ++ with_number n z ∷ []) ++ rest)
  known_then known = search (arith, one_then)

-- where something is settled, no event is pending
settled_told : {hs : List Happening} {to : List ℕ} {now : ℕ} {pending : Bool} {befell : List Befell}
    → AreUntold hs to now pending befell → IsBefore (now ∷ 2 ∷ []) to → pending ≡ false
settled_told {now} {pending} untold begun =
    elim (cases_Bool pending) [ inr told ↦ told | inl open_ ↦ absurd (never_self (now ∷ 2 ∷ []) (untold.early open_ (now ∷ 2 ∷ []) begun)) ]

-- ---- the step

pub device_in : (network : Network) (device : DeviceId) → device.0 < length network.device → (is : Device) × (device_at network device ≡ Some is)
device_in network device lt =
    elim (slice_get_cases network.device device.0).1 [
      | inl it ↦ (it.0, it.2)
      | inr ge ↦ absurd (omega (arith, ge.0))
    ]

-- it is given: then the frontier is behind it
pub given_from : {C M : Type 0} {reading : C → ℕ → ℕ} {stands : M → Network → DeviceId → Node → Type 0}
    {s : Scenario} {world : World C M} {notes : List Note} (z : Happening) (rest : List Happening) {from to : List ℕ}
    {wires : List OnWire} {ports : List AtPort} {waiting : List Waiting} {stored : List Stored}
    (old : StandsOver reading stands s world notes from to) → world.settled ≡ z ∷ rest
    → NoSourceBefore s (happenings s.network notes) to (place_of z)
    → ArePut s (happening s.network (happenings s.network notes) (note_of notes z)) (length notes + 1) world.wires wires
    → AreGiven s (happening s.network (happenings s.network notes) (note_of notes z)) (length notes + 1) world.ports
    ports
    → AreAwaited s (happening s.network (happenings s.network notes) (note_of notes z)) (length notes + 1) world.waiting
    waiting
    → AreTaken (happening s.network (happenings s.network notes) (note_of notes z)) (length notes + 1) world.stored
    stored
    → StandsAt reading stands s
    (record world {
      wires = wires;
      ports = ports;
      waiting = waiting;
      stored = stored;
      settled = rest;
      given = world.given + 1;
    }) (notes ++ note_of notes z ∷ []) (behind (place_of z))
given_from {stands} {s} {world} {notes} z rest {from} {to} {wires} {ports} {waiting}
    {stored} old settled none put given awaited
    taken =
    let hs = happenings s.network notes in
    let n = length notes + 1 in
    let x = with_number n z in
    let number : n ≡ length hs + 1 = rw (length_is s notes) in
    let are : AreSettled s hs (z ∷ rest) from to world.now = rw settled at old.are in
    let due : IsDueAs s hs z = rw (append-nil hs) at (are.founded [] rest z refl).1 in
    let is_x = sym (ap (with_number n) due.same) in
    let back : hs ++ x ∷ [] ≡ happenings s.network (notes ++ note_of notes z ∷ []) = rw (sym is_x)
    (sym (one_more s.network notes (note_of notes z))) in
    let giving : IsGiving s hs z rest from to world.now =
    record { forward = old.forward; are = are; first = none; past = λ p b. old.on p (old.of_now p b) } in
    let then_ = behind (place_of z) in
    let told = settled_told old.untold (are.begun z (inl refl)) in
    let over : (p : List ℕ) → IsBefore p from → IsBefore p then_ = λ p b. are.not_past z (inl refl) p (old.on p b) in
    let room : length notes + suc (length rest) < numbers_end = rw settled at old.room in
    let pushed = length_push notes (note_of notes z) in
    let founded = old.run.founded in
    let told_wires : AreOnWires s hs to world.now false world.wires = rw told at old.wires in (
      record {
        same = old.same;
        range = old.range;
        rules = old.rules;
        forward = old.forward;
        steady = old.steady;
        precise = old.precise;
        frontier = then_;
        run = first_is_next notes old.run are none;
        of_now = λ p b. over p (old.of_now p b);
        not_later =
            λ p b. rw (are.of_now z (inl refl)) at (before_next_time p (time_of z)
            (rank z.note.body ∷ (key (members_in z) z.note.body ++ 0 ∷ [])) b);
        limit = old.limit;
        lines = old.lines;
        given = rw old.given (sym pushed);
        ended = old.ended;
        befallen = record {
          past = old.befallen.past;
          told = λ i e at. over _ (old.befallen.told i e at);
          begun = old.befallen.begun;
          sent = old.befallen.sent;
        };
        clocks = old.clocks;
        broken = old.broken;
        ways = old.ways;
        room = omega arith;
        known =
            rw back at (known_then giving number (rw settled at old.known));
        devices = λ device lt.
            let k = old.devices device lt in (
              k.0,
              k.1,
              rw back at (held_then giving number (rw settled at k.2)),
            );
        early = λ fresh. absurd (never_self (world.now ∷ 2 ∷ []) (old.early fresh (world.now ∷ 2 ∷ []) (are.begun z (inl refl))));
        untold =
            rw back at (untold_then giving number told old.untold);
        wires =
            rw told (rw back at (wires_then giving number told_wires (rw is_x at put)));
        ports =
            rw back at (ports_then giving number old.ports (rw is_x at given));
        waiting =
            rw back at (waiting_then giving number old.waiting (rw is_x at awaited));
        stored =
            rw back at (stored_then refl old.stored (rw is_x at taken));
        are =
            rw (sym back) (coming_then (record { giving = giving; one = refl; founded = founded }));
        shown = λ device lt ended. (
          λ b.
              let is = device_in s.network device lt in
              let source = IsSource.ending (units_of world.now) device is.0 is.1 ((old.ended (units_of world.now)).1 (ended, refl)) in
              (old.shown device lt ended).0 (worked_yet giving number source b),
          λ less. are.not_past z (inl refl) (clock_place world.now device) ((old.shown device lt ended).1 less),
        );
      },
      refl,
    )

-- so it is where the source's own record is given
pub given_step : {C M : Type 0} (reading : C → ℕ → ℕ) (stands : M → Network → DeviceId → Node → Type 0)
    → GivenStep reading stands
given_step reading stands s world notes z rest wires ports waiting stored old settled none put given awaited taken =
    given_from z rest (over_of old) settled none put given awaited taken
