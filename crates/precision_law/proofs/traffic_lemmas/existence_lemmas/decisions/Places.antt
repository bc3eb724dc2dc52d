-- Decisions at a place: on values, on when a clock reaches one, and on the records of frames.
use Rattle.std.{specs.Option.option_map_or}
use Rattle.std.proofs.{lemmas.{Bool.cases_eq, Int.{by_lt_z, ints}}}
use Rattle.std.proofs.Common
use Common.{◌+◌, ◌-ℤ◌, ◌<ℤ◌, ◌<◌, ◌∙◌, ◌∷◌, ◌≡◌, ◌≤ℤ◌, Any, List, None, Option, Some, [], ap, arith, false, inl, inr}
use Common.{length, negsuc, pos, refl, subst, suc, sym, true, zero, ℕ, ℤ}
use Rattle.compression.{proofs.Times.one_list_of_clusters}
use Rattle.compression.{specs.{Clusters.Cluster, Emission.compressed, declared.compressed.Compressed.Compressed}}
use Rattle.drift_clock.specs.{Reach.IsReach, transparent.Points.point_of}
use Rattle.net_plan.specs.declared.{ids.{DeviceId.DeviceId, LinkId.LinkId, VlId.VlId}, tables.Way.TheVariants.Up}
use Rattle.precision_law.proofs.traffic_lemmas.existence_lemmas.Sweep.{HasDue}
use Rattle.run_law.proofs.{control.Verdicts.{never_dropped, some_outcome}}
use Rattle.run_law.proofs.{runs.SameSteps.{same_arrival, same_point, same_ripening}}
use Rattle.run_law.proofs.scenario.Decisions
use Decisions.{IsDecided, decided_and, decided_any, decided_by, decided_false, decided_less_int, decided_same}
use Decisions.{decided_true, same_device}
use Rattle.run_law.specs.{runs.DueRecords.{IsArrivedRecord, IsCaused, IsDue}}
use Rattle.run_law.specs.{scenario.{Devices.is_cm, Scenarios.{Scenario, is_broken}, Ways.{delay_at, receiver_of}}}
use Rattle.run_law.specs.{timed.Receptions.{ArrivesAs, arrival_of}}
use Rattle.run_law.specs.control.{Collections.{observation_window, points_of}, Emissions.Emits}
use Rattle.run_law.specs.control.{Permanence.{BecomesPermanent, before_permanence, ripe_as, waits_for}}
use Rattle.run_law.specs.control.{Wires.{Arrives, Launch, launched, time_on_port}}
use Rattle.run_law.specs.declared.{judgement.{Judgement.Judgement, Reason.Reason}, note.{Note.Note, NoteBody.NoteBody}}
use Rattle.run_law.specs.declared.{steps.{Arrival.Arrival, Ripe.Ripe}}
use Rattle.run_law.specs.device.{LocalClocks.{Reaches, changed_at, local_at_change}}
use Rattle.run_law.specs.device.{States.{adjustment_at_hearing, adjustment_before, state_at_hearing}}
use Rattle.run_law.specs.records.{Causes.IsOfThisTime}
use Rattle.run_law.specs.records.{Happenings.{Happening, frame_by, frame_from, happening, numbered, time_of}}
use Rattle.run_law.specs.records.{Ranks.{key, members_in, place_of, rank, sign}}
use Rattle.sync_state.specs.declared.state.State.{State, TheVariants.{Integrating, Joining, Off, Synchronised}}
use Rattle.tte_units.{proofs.{Amounts.units_are, general_lemmas.Options.{one, one as same_some}}}
use Rattle.tte_units.{specs.{Amount.{amount, units_of}, declared.{frames.pcf.Pcf.Pcf, units.Units.Units}}}
use Rattle.run_law.specs.declared.judgement.Judgement.TheVariants as judgements
use Rattle.run_law.specs.declared.note.NoteBody.TheVariants as notes
use Rattle.run_law.specs.declared.steps.Arrival.TheVariants as arrivals
use Rattle.run_law.specs.declared.steps.Ripe.TheVariants as ripe

-- ---- decisions on values: equalities, and searches below a bound: equalities

pub same_int : (a b : ℤ) → IsDecided (a ≡ b)
same_int (pos m) (pos n) = elim (cases_eq m n) [ inl e ↦ inl (ap pos e) | inr ne ↦ inr (λ e. absurd (ne cc)) ]
same_int (negsuc m) (negsuc n) = elim (cases_eq m n) [ inl e ↦ inl (ap negsuc e) | inr ne ↦ inr (λ e. absurd (ne cc)) ]
same_int (pos m) (negsuc n) = inr (λ e. cc)
same_int (negsuc m) (pos n) = inr (λ e. cc)

parts : (x y : ℕ) (xs ys : List ℕ) → x ∷ xs ≡ y ∷ ys → (x ≡ y) × (xs ≡ ys)
parts x y xs ys e = (cc, cc)

pub same_list : (xs ys : List ℕ) → IsDecided (xs ≡ ys)
same_list [] [] = inl refl
same_list [] (y ∷ ys) = inr (λ e. cc)
same_list (x ∷ xs) [] = inr (λ e. cc)
same_list (x ∷ xs) (y ∷ ys) =
    decided_by (λ h. rw h.0 (ap (λ l. y ∷ l) h.1)) (parts x y xs ys)
    (decided_and (decided_same x y) (same_list xs ys))

pub same_link : (a b : LinkId) → IsDecided (a ≡ b)
same_link a b =
    decided_by (λ e. rw e) (λ e. rw e) (decided_same a.0 b.0)

pub same_vl : (a b : VlId) → IsDecided (a ≡ b)
same_vl a b = decided_by (λ e. rw e) (λ e. rw e) (decided_same a.0 b.0)

-- the option has a value that equals this one
pub same_some_by : {X : Type 0} (o : Option X) (y : X) → ((x : X) → IsDecided (x ≡ y)) → IsDecided (o ≡ Some y)
same_some_by None y each = inr (λ e. cc)
same_some_by (Some x) y each = decided_by (λ e. ap Some e) (λ e. cc) (each x)

-- ---- states

pub is_joining : (st : State) → IsDecided (st ≡ Joining)
is_joining Off = inr (λ e. cc)
is_joining Integrating = inr (λ e. cc)
is_joining Joining = inl refl
is_joining Synchronised = inr (λ e. cc)

pub is_synchronised : (st : State) → IsDecided (st ≡ Synchronised)
is_synchronised Off = inr (λ e. cc)
is_synchronised Integrating = inr (λ e. cc)
is_synchronised Joining = inr (λ e. cc)
is_synchronised Synchronised = inl refl

-- ---- by the one value that is in question

-- what implies a decided fact, and is decided where it holds
pub decided_within : {P Q : Type 0} → IsDecided P → (P → IsDecided Q) → (Q → P) → IsDecided Q
decided_within (inl p) each up = each p
decided_within (inr none) each up = inr (λ q. none (up q))

-- what speaks of the value of an option
pub decided_in : {X Q : Type 0} (o : Option X) → ((x : X) → o ≡ Some x → IsDecided Q) → (Q → (x : X) × (o ≡ Some x)) → IsDecided Q
decided_in {X} {Q} o each has = by o refl
  where
    by : (p : Option X) → o ≡ p → IsDecided Q
    by None e = inr (λ q. let there = has q in absurd (none there.0 (sym e ∙ there.1)))
      where
        none : (x : X) → None ≡ Some x → ⊥
        none x e = cc
    by (Some x) e = each x e

-- some number below the bound is so
pub decided_below : (P : ℕ → Type 0) → ((n : ℕ) → IsDecided (P n)) → (bound : ℕ) → IsDecided ((n : ℕ) × (n < bound) × P n)
decided_below P each zero = inr (λ h. let lt = h.1 in absurd (omega arith))
decided_below P each (suc bound) =
    elim (each bound) [
      | inl p ↦ inl (bound, omega arith, p)
      | inr fails ↦
          elim (decided_below P each bound) [
            | inl h ↦ (let lt = h.1 in inl (h.0, omega arith, h.2))
            | inr none ↦ inr (λ h. let lt = h.1 in elim (cases_eq h.0 bound) [
              | inl e ↦ fails (subst P e h.2)
              | inr ne ↦ none (h.0, omega arith, h.2)
            ])
          ]
    ]

-- ---- a decision at a place is one on the bodies that are caused there

-- the members of the frame that a record of this body has, as a number
abbrev pub members_by : Scenario → List Happening → NoteBody → ℕ
members_by s hs body = option_map_or (λ frame. frame.members.0) (frame_by s.network hs body) 0

-- a record of this body is caused at the time, and is of this rank and key
pub record IsCausedAt (s : Scenario) (hs : List Happening) (t r : ℕ) (ks : List ℕ) (body : NoteBody) : Type 0 where
  pub caused : IsCaused s hs (units_of t) body
  pub ranked : rank body ≡ r
  pub keyed : key (members_by s hs body) body ≡ ks

-- some record of this rank and key is caused at the time
abbrev pub HasCaused : Scenario → List Happening → ℕ → ℕ → List ℕ → Type 0
HasCaused s hs t r ks = (body : NoteBody) × IsCausedAt s hs t r ks body

-- a body that is caused has its own rank and key
pub caused : (s : Scenario) (hs : List Happening) (t : ℕ) (body : NoteBody) → IsCaused s hs (units_of t) body
    → HasCaused s hs t (rank body) (key (members_by s hs body) body)
caused s hs t body is = (body, record { caused = is; ranked = refl; keyed = refl })

-- ---- from bodies to records, and back

due_there : {s : Scenario} {hs : List Happening} {t r : ℕ} {ks : List ℕ} → HasCaused s hs t r ks
    → HasDue place_of (IsDue s) hs (t ∷ r ∷ ks)
due_there {s} {hs} {t} {r} has =
    let body = has.0 in
    let note : Note = record { number = length hs + 1; time = units_of t; body = body } in (
      happening s.network hs note,
      record { number = refl; same = refl; begun = omega (arith, ints); cause = has.1.caused },
      rw has.1.ranked (ap (λ l. t ∷ r ∷ l) has.1.keyed),
    )

pub place_parts : (a b x y : ℕ) (us vs : List ℕ) → a ∷ b ∷ us ≡ x ∷ y ∷ vs → (a ≡ x) × ((b ≡ y) × (us ≡ vs))
place_parts a b x y us vs e = (cc, (cc, cc))

caused_there : (s : Scenario) (hs : List Happening) (t r : ℕ) (ks : List ℕ) → HasDue place_of (IsDue s) hs (t ∷ r ∷ ks) → HasCaused s hs t r ks
caused_there s hs t r ks has =
    let x = has.0 in
    let at = place_parts (time_of x) (rank x.note.body) t r (key (members_in x) x.note.body) ks has.2 in
    let shows : members_in x ≡ members_by s hs x.note.body = ap members_in has.1.same in (
      x.note.body,
      record {
        caused = rw (units_are x.note.time t has.1.begun at.0) at has.1.cause;
        ranked = at.1.0;
        keyed = rw (sym shows) at.1.1;
      },
    )

-- whether a record is due at a place, by what is caused there
pub due_decided : (s : Scenario) (hs : List Happening) (t r : ℕ) (ks : List ℕ) → IsDecided (HasCaused s hs t r ks)
    → IsDecided (HasDue place_of (IsDue s) hs (t ∷ r ∷ ks))
due_decided s hs t r ks is =
    decided_by (due_there) (caused_there s hs t r ks) is

-- ---- a rank, by what the keys of its records say

abbrev pub OfOne : (ℕ → Type 0) → List ℕ → Type 0
OfOne P (a ∷ []) = P a
OfOne P other = ⊥

abbrev pub OfTwo : (ℕ → ℕ → Type 0) → List ℕ → Type 0
OfTwo P (a ∷ b ∷ []) = P a b
OfTwo P other = ⊥

abbrev pub OfThree : (ℕ → ℕ → ℕ → Type 0) → List ℕ → Type 0
OfThree P (a ∷ b ∷ c ∷ []) = P a b c
OfThree P other = ⊥

abbrev pub OfFive : (ℕ → ℕ → ℕ → ℕ → ℕ → Type 0) → List ℕ → Type 0
OfFive P (a ∷ b ∷ c ∷ d ∷ e ∷ []) = P a b c d e
OfFive P other = ⊥

module _ (s : Scenario) (hs : List Happening) (t r : ℕ) where
  -- each body of the rank that is caused says so by its key
  abbrev pub Says : (List ℕ → Type 0) → Type 0
  Says Q = (body : NoteBody) → IsCaused s hs (units_of t) body → rank body ≡ r → Q (key (members_by s hs body) body)

  pub by_keys : (Q : List ℕ → Type 0) → ((ks : List ℕ) → Q ks → HasCaused s hs t r ks) → Says Q → ((ks : List ℕ) → IsDecided (Q ks))
      → (ks : List ℕ) → IsDecided (HasCaused s hs t r ks)
  by_keys Q there says decide ks = decided_by (there ks) (λ has. subst Q has.1.keyed (says has.0 has.1.caused has.1.ranked)) (decide ks)

  pub by_one : (P : ℕ → Type 0) → ((a : ℕ) → P a → HasCaused s hs t r (a ∷ [])) → Says (OfOne P) → ((a : ℕ) → IsDecided (P a))
      → (ks : List ℕ) → IsDecided (HasCaused s hs t r ks)
  by_one P there says each = by_keys (OfOne P) made says decide
    where
      made : (ks : List ℕ) → OfOne P ks → HasCaused s hs t r ks
      made (a ∷ []) p = there a p
      made other p = absurd p

      decide : (ks : List ℕ) → IsDecided (OfOne P ks)
      decide (a ∷ []) = each a
      decide other = inr (λ p. p)

  pub by_two : (P : ℕ → ℕ → Type 0) → ((a b : ℕ) → P a b → HasCaused s hs t r (a ∷ b ∷ [])) → Says (OfTwo P) → ((a b : ℕ) → IsDecided (P a b))
      → (ks : List ℕ) → IsDecided (HasCaused s hs t r ks)
  by_two P there says each = by_keys (OfTwo P) made says decide
    where
      made : (ks : List ℕ) → OfTwo P ks → HasCaused s hs t r ks
      made (a ∷ b ∷ []) p = there a b p
      made other p = absurd p

      decide : (ks : List ℕ) → IsDecided (OfTwo P ks)
      decide (a ∷ b ∷ []) = each a b
      decide other = inr (λ p. p)

  pub by_three : (P : ℕ → ℕ → ℕ → Type 0) → ((a b c : ℕ) → P a b c → HasCaused s hs t r (a ∷ b ∷ c ∷ [])) → Says (OfThree P)
      → ((a b c : ℕ) → IsDecided (P a b c)) → (ks : List ℕ) → IsDecided (HasCaused s hs t r ks)
  by_three P there says each = by_keys (OfThree P) made says decide
    where
      made : (ks : List ℕ) → OfThree P ks → HasCaused s hs t r ks
      made (a ∷ b ∷ c ∷ []) p = there a b c p
      made other p = absurd p

      decide : (ks : List ℕ) → IsDecided (OfThree P ks)
      decide (a ∷ b ∷ c ∷ []) = each a b c
      decide other = inr (λ p. p)

  pub by_five : (P : ℕ → ℕ → ℕ → ℕ → ℕ → Type 0) → ((a b c d e : ℕ) → P a b c d e → HasCaused s hs t r (a ∷ b ∷ c ∷ d ∷ e ∷ []))
      → Says (OfFive P) → ((a b c d e : ℕ) → IsDecided (P a b c d e)) → (ks : List ℕ) → IsDecided (HasCaused s hs t r ks)
  by_five P there says each = by_keys (OfFive P) made says decide
    where
      made : (ks : List ℕ) → OfFive P ks → HasCaused s hs t r ks
      made (a ∷ b ∷ c ∷ d ∷ e ∷ []) p = there a b c d e p
      made other p = absurd p

      decide : (ks : List ℕ) → IsDecided (OfFive P ks)
      decide (a ∷ b ∷ c ∷ d ∷ e ∷ []) = each a b c d e
      decide other = inr (λ p. p)

-- ---- what is said of the record that is a cause

-- some record of this time with this number is so
pub cause_decided : (hs : List Happening) (t cause : ℕ) (Q : Happening → Type 0) → ((h : Happening) → IsDecided (Q h))
    → IsDecided ((h : Happening) × IsOfThisTime hs t cause h × Q h)
cause_decided hs t cause Q each =
    decided_in (numbered hs cause) (λ g e. decided_by (there g e) (back g e) (decided_and (decided_same (time_of g) t) (each g))) (λ h. (h.0, h.1.there))
  where
    there : (g : Happening) → numbered hs cause ≡ Some g → (time_of g ≡ t) × Q g → (h : Happening) × IsOfThisTime hs t cause h × Q h
    there g e h = (g, record { there = e; same_time = h.0 }, h.1)

    back : (g : Happening) → numbered hs cause ≡ Some g → (h : Happening) × IsOfThisTime hs t cause h × Q h → (time_of g ≡ t) × Q g
    back g e h = rw (sym (one (numbered hs cause) h.0 g h.1.there e)) (h.1.same_time, h.2)

-- ---- decisions: when a clock reaches a value

at_most_int : (a b : ℤ) → IsDecided (a ≤ℤ b)
at_most_int a b = by_lt_z b a (λ lt. inr (λ le. absurd (omega (arith, ints)))) (λ le. inl le)

-- at no time below n, from `from` on, it has come to the value
abbrev NotYet : (ℕ → ℕ) → ℤ → ℤ → ℕ → Type 0
NotYet reading from v n = (x : ℕ) → x < n → from ≤ℤ pos x → pos (reading x) <ℤ v

not_yet : (reading : ℕ → ℕ) (from v : ℤ) (n : ℕ) → IsDecided (NotYet reading from v n)
not_yet reading from v zero = inl (λ x lt begun. absurd (omega arith))
not_yet reading from v (suc n) =
    elim (not_yet reading from v n) [
      | inr fails ↦ inr (λ all. fails (λ x lt begun. all x (omega arith) begun))
      | inl all ↦
          elim (at_most_int from (pos n)) [
            | inr later ↦ inl (λ x lt begun. by x lt begun all (λ e. absurd (later (rw e at begun))))
            | inl begun ↦
                elim (decided_less_int (pos (reading n)) v) [
                  | inl less ↦ inl (λ x lt b. by x lt b all (λ e. rw e less))
                  | inr fails ↦ inr (λ each. fails (each n (omega arith) begun))
                ]
          ]
    ]
  where
    by : (x : ℕ) → x < suc n → from ≤ℤ pos x → NotYet reading from v n → (x ≡ n → pos (reading x) <ℤ v) → pos (reading x) <ℤ v
    by x lt begun all here =
        elim (cases_eq x n) [
          | inl e ↦ here e
          | inr ne ↦ all x (omega arith) begun
        ]

pub reach_decided : (reading : ℕ → ℕ) (from v : ℤ) (t : ℕ) → IsDecided (IsReach reading from v (pos t))
reach_decided reading from v t =
    decided_by
    (λ h. record { from_on = h.0; reached = h.1.0; not_before = λ x begun lt. h.1.1 x (omega (arith, ints)) begun })
    (λ r. (r.from_on, (r.reached, λ x lt begun. r.not_before x begun (omega (arith, ints)))))
    (decided_and (at_most_int from (pos t)) (decided_and (at_most_int v (pos (reading t))) (not_yet reading from v t)))

pub reaches_decided : (s : Scenario) (hs : List Happening) (device : DeviceId) (v : ℤ) (t : ℕ) → IsDecided (Reaches s hs device v t)
reaches_decided s hs device v t =
    decided_by (λ h. record { below = h.0; reach = h.1 }) (λ r. (r.below, r.reach))
    (decided_and (decided_less_int (local_at_change s hs device t) v)
    (reach_decided (s.reading device) (pos (changed_at hs device t)) (v -ℤ (adjustment_before s hs device t).0) t))

-- ---- decisions: whether the record of a frame that arrives, and is taken, is due: what becomes of what arrives

-- something arrives, and this becomes of it
abbrev pub HasArrival : Scenario → List Happening → DeviceId → ℕ → LinkId → ℕ → Type 0
HasArrival s hs device t link cause = (is : Arrival) × ArrivesAs s hs device t link cause is

-- the launch goes to the device by the link, and is there at the time
abbrev GoesThere : Scenario → Happening → DeviceId → ℕ → LinkId → Launch → Type 0
GoesThere s g device t link l =
    (l.link ≡ link) × ((receiver_of s.network link l.way ≡ Some device)
    × (t ≡ time_of g + time_on_port s.network link l.signal + delay_at s link l.way (time_of g)))

module _ (s : Scenario) (hs : List Happening) (device : DeviceId) (t : ℕ) (link : LinkId) (cause : ℕ) where
  launch_there : (g : Happening) → numbered hs cause ≡ Some g → (l : Launch) → launched s g (time_of g) g.note.body ≡ Some l
      → GoesThere s g device t link l → HasArrival s hs device t link cause
  launch_there g e l put h = (
    arrival_of s hs device t link cause l.signal,
    record {
      putting = g;
      there = e;
      signal = l.signal;
      arrives = record {
        way = l.way;
        put = put ∙ ap (λ x. Some (let y : Launch = record { link = x; way = l.way; signal = l.signal } in y)) h.0;
        receiver = h.1.0;
        at = h.1.1;
      };
      becomes = refl;
    },
  )

  put_by : (g : Happening) → numbered hs cause ≡ Some g → (h : HasArrival s hs device t link cause) → Arrives s g device link t h.1.signal
  put_by g e h = rw (same_some (numbered hs cause) h.1.putting g h.1.there e) at h.1.arrives

  there_launch : (g : Happening) → numbered hs cause ≡ Some g → (l : Launch) → launched s g (time_of g) g.note.body ≡ Some l
      → HasArrival s hs device t link cause → GoesThere s g device t link l
  there_launch g e l put h =
      let a = put_by g e h in
      let same = same_some (launched s g (time_of g) g.note.body) (record { link = link; way = a.way; signal = h.1.signal }) l a.put put in (
        sym (ap (λ x. x.link) same),
        (
          rw (sym same) a.receiver,
          rw (sym same) a.at,
        ),
      )

  goes_there : (g : Happening) (l : Launch) → IsDecided (GoesThere s g device t link l)
  goes_there g l =
      decided_and (same_link l.link link) (decided_and (same_some_by (receiver_of s.network link l.way) device (λ d. same_device d device))
      (decided_same t (time_of g + time_on_port s.network link l.signal + delay_at s link l.way (time_of g))))

  pub arrives : IsDecided (HasArrival s hs device t link cause)
  arrives =
      decided_in (numbered hs cause)
      (λ g e. decided_in (launched s g (time_of g) g.note.body)
      (λ l put. decided_by (launch_there g e l put) (there_launch g e l put) (goes_there g l))
      (λ h. (record { link = link; way = (put_by g e h).way; signal = h.1.signal }, (put_by g e h).put)))
      (λ h. (h.1.putting, h.1.there))

-- ---- a protocol control frame is taken

abbrev HasArrived : Scenario → List Happening → ℕ → ℕ → ℕ → ℕ → Type 0
HasArrived s hs t d l cause = (clock : ℕ) × IsArrivedRecord s hs (record { 0 = d }) t (record { 0 = l }) cause clock

-- what arrives is taken, and this becomes of it
abbrev IsTakenAs : Scenario → List Happening → ℕ → ℕ → ℕ → ℕ → Arrival → Type 0
IsTakenAs s hs t d l cause is = ArrivesAs s hs (record { 0 = d }) t (record { 0 = l }) cause is

module _ (s : Scenario) (hs : List Happening) (t d l cause : ℕ) where
  -- an arrival at which a frame is taken
  waits_or_passes : HasArrived s hs t d l cause → HasArrival s hs (record { 0 = d }) t (record { 0 = l }) cause
  waits_or_passes h =
      elim h.1.taken [
        | inl a ↦ (arrivals.Waits h.1.frame h.1.point, a)
        | inr (inl a) ↦ (arrivals.Passes h.1.frame h.1.way, a)
        | inr (inr a) ↦ (arrivals.PassesAndWaits h.1.frame h.1.way h.1.point, a)
      ]

  arrived_by : (is : Arrival) → IsTakenAs s hs t d l cause is → IsDecided (HasArrived s hs t d l cause)
  arrived_by (arrivals.Waits frame point) a =
      inl (frame.clock, record { frame = frame; point = point; way = Up; taken = inl a; shows = refl })
  arrived_by (arrivals.Passes frame way) a =
      inl (frame.clock, record { frame = frame; point = units_of 0; way = way; taken = inr (inl a); shows = refl })
  arrived_by (arrivals.PassesAndWaits frame way point) a =
      inl (frame.clock, record { frame = frame; point = point; way = way; taken = inr (inr a); shows = refl })
  arrived_by other a = grind (arith, same_arrival)

pub arrived_decided : (s : Scenario) (hs : List Happening) (t : ℕ) (ks : List ℕ) → IsDecided (HasCaused s hs t 2 ks)
arrived_decided s hs t ks =
    by_three s hs t 2 (HasArrived s hs t) (λ d l cause h. caused s hs t (notes.Arrived (record { 0 = d }) (record { 0 = l }) cause h.0) h.1) says
    (λ d l cause. decided_within (arrives s hs (record { 0 = d }) t (record { 0 = l }) cause) (λ any. arrived_by s hs t d l cause any.0 any.1)
    (waits_or_passes s hs t d l cause)) ks
  where
    says : (body : NoteBody) → IsCaused s hs (units_of t) body → rank body ≡ 2 → OfThree (HasArrived s hs t) (key (members_by s hs body) body)
    says (notes.Arrived device link cause clock) is ranked = (clock, is)
    says other is ranked = absurd (omega arith)

-- ---- a switch takes a time-triggered frame

abbrev HasAccepted : Scenario → List Happening → ℕ → ℕ → ℕ → ℕ → Type 0
HasAccepted s hs t d l cause = (vl : VlId) × (cycle : ℕ) × IsTakenAs s hs t d l cause (arrivals.Accepted vl cycle)

accepted_by : {s : Scenario} {hs : List Happening} {t : ℕ} (d l : ℕ) {cause : ℕ} (is : Arrival)
    → IsTakenAs s hs t d l cause is → IsDecided (HasAccepted s hs t d l cause)
accepted_by d l (arrivals.Accepted vl cycle) a = inl (vl, cycle, a)
accepted_by d l other a =
    inr (λ h. let one = same_arrival a h.2 in cc)

pub accepted_decided : (s : Scenario) (hs : List Happening) (t : ℕ) (ks : List ℕ) → IsDecided (HasCaused s hs t 11 ks)
accepted_decided s hs t ks =
    by_three s hs t 11 (HasAccepted s hs t) (λ d l cause h. caused s hs t (notes.Accepted (record { 0 = d }) (record { 0 = l }) cause h.0 h.1) h.2) says
    (λ d l cause. decided_within (arrives s hs (record { 0 = d }) t (record { 0 = l }) cause)
    (λ any. accepted_by d l any.0 any.1)
    (λ h. (arrivals.Accepted h.0 h.1, h.2))) ks
  where
    says : (body : NoteBody) → IsCaused s hs (units_of t) body → rank body ≡ 11 → OfThree (HasAccepted s hs t) (key (members_by s hs body) body)
    says (notes.Accepted device link cause vl cycle) is ranked = (vl, cycle, is)
    says other is ranked = absurd (omega arith)

-- ---- an end system takes one

abbrev HasDelivered : Scenario → List Happening → ℕ → ℕ → ℕ → ℕ → Type 0
HasDelivered s hs t d l cause = (vl : VlId) × (cycle : ℕ) × IsTakenAs s hs t d l cause (arrivals.Delivered vl cycle)

delivered_by : {s : Scenario} {hs : List Happening} {t : ℕ} (d l : ℕ) {cause : ℕ} (is : Arrival)
    → IsTakenAs s hs t d l cause is → IsDecided (HasDelivered s hs t d l cause)
delivered_by d l (arrivals.Delivered vl cycle) a = inl (vl, cycle, a)
delivered_by d l other a =
    inr (λ h. let one = same_arrival a h.2 in cc)

pub delivered_decided : (s : Scenario) (hs : List Happening) (t : ℕ) (ks : List ℕ) → IsDecided (HasCaused s hs t 12 ks)
delivered_decided s hs t ks =
    by_three s hs t 12 (HasDelivered s hs t) (λ d l cause h. caused s hs t (notes.Delivered (record { 0 = d }) (record { 0 = l }) cause h.0 h.1) h.2) says
    (λ d l cause. decided_within (arrives s hs (record { 0 = d }) t (record { 0 = l }) cause)
    (λ any. delivered_by d l any.0 any.1)
    (λ h. (arrivals.Delivered h.0 h.1, h.2))) ks
  where
    says : (body : NoteBody) → IsCaused s hs (units_of t) body → rank body ≡ 12 → OfThree (HasDelivered s hs t) (key (members_by s hs body) body)
    says (notes.Delivered device link cause vl cycle) is ranked = (vl, cycle, is)
    says other is ranked = absurd (omega arith)

-- ---- decisions: whether the record of a compression master's frame is due

-- what the key of a record says of the frame that is sent
abbrev numbers_of : Compressed → List ℕ
numbers_of c = amount c.opened ∷ amount c.at ∷ c.cycle ∷ c.members.0 ∷ sign c.opened.0 ∷ sign c.at.0 ∷ []

-- the clusters of the device's present stretch
abbrev clusters_of : Scenario → List Happening → DeviceId → List Cluster
clusters_of s hs device = (one_list_of_clusters (observation_window s.network) (points_of hs device)).0

-- the frame of the cluster
abbrev sent_for : Scenario → Cluster → Compressed
sent_for s c = compressed (observation_window s.network) (pos (amount s.network.calc)) c

-- the device emits a frame with these numbers
abbrev HasEmission : Scenario → List Happening → ℕ → DeviceId → List ℕ → Type 0
HasEmission s hs t device ks = (sent : Compressed) × (verdict : Judgement) × Emits s hs device t sent verdict × (numbers_of sent ≡ ks)

-- the frame of the cluster is emitted at the time, and has these numbers
abbrev IsOfCluster : Scenario → ℕ → DeviceId → List ℕ → Cluster → Type 0
IsOfCluster s t device ks c = IsReach (s.reading device) (pos 0) (sent_for s c).at.0 (pos t) × (numbers_of (sent_for s c) ≡ ks)

of_cluster : (s : Scenario) (t : ℕ) (device : DeviceId) (ks : List ℕ) (c : Cluster) → IsDecided (IsOfCluster s t device ks c)
of_cluster s t device ks c = decided_and (reach_decided (s.reading device) (pos 0) (sent_for s c).at.0 t) (same_list (numbers_of (sent_for s c)) ks)

-- the device is a correct compression master, and such is the frame of one of its clusters
abbrev EmitsSome : Scenario → List Happening → ℕ → DeviceId → List ℕ → Type 0
EmitsSome s hs t device ks = (is_cm s.network device ≡ true) × ((is_broken s device t ≡ false) × Any (IsOfCluster s t device ks) (clusters_of s hs device))

emission : (s : Scenario) (hs : List Happening) (t : ℕ) (device : DeviceId) (ks : List ℕ) → IsDecided (HasEmission s hs t device ks)
emission s hs t device ks =
    decided_by there back (decided_and (decided_true (is_cm s.network device)) (decided_and (decided_false (is_broken s device t))
    (decided_any (IsOfCluster s t device ks) (of_cluster s t device ks) (clusters_of s hs device))))
  where
    there : EmitsSome s hs t device ks → HasEmission s hs t device ks
    there (cm, (correct, (k, c, lt, at, is))) = (
      sent_for s c,
      _,
      record {
        cm = cm;
        correct = correct;
        clusters = clusters_of s hs device;
        are = (one_list_of_clusters (observation_window s.network) (points_of hs device)).1;
        cluster = c;
        there = (k, lt, at);
        is = refl;
        reached = is.0;
        heard = refl;
      },
      is.1,
    )

    back : HasEmission s hs t device ks → EmitsSome s hs t device ks
    back h =
        let e = h.2 in
        let at = e.there in
        let here : Any (IsOfCluster s t device ks) e.clusters = (
          at.0,
          e.cluster,
          at.1,
          at.2,
          (rw e.is at e.reached, ap numbers_of (sym e.is) ∙ h.3),
        ) in
        let one = (one_list_of_clusters (observation_window s.network) (points_of hs device)).2 e.clusters e.are in
        (e.cm, (e.correct, subst (Any (IsOfCluster s t device ks)) one here))

-- the key is of such a frame
abbrev HasCompressed : Scenario → List Happening → ℕ → List ℕ → Type 0
HasCompressed s hs t [] = ⊥
HasCompressed s hs t (d ∷ ks) = HasEmission s hs t (record { 0 = d }) ks

pub compressed_decided : (s : Scenario) (hs : List Happening) (t : ℕ) (ks : List ℕ) → IsDecided (HasCaused s hs t 4 ks)
compressed_decided s hs t = by_keys s hs t 4 (HasCompressed s hs t) made says decide
  where
    made : (ks : List ℕ) → HasCompressed s hs t ks → HasCaused s hs t 4 ks
    made [] h = absurd h
    made (d ∷ ks) h = (
      notes.Compressed (record { 0 = d }) h.0.opened h.0.at h.0.cycle h.0.members h.1,
      record { caused = h.2; ranked = refl; keyed = rw h.3 },
    )

    says : (body : NoteBody) → IsCaused s hs (units_of t) body → rank body ≡ 4 → HasCompressed s hs t (key (members_by s hs body) body)
    says (notes.Compressed device opened at cycle members verdict) is ranked =
        (record { opened = opened; at = at; cycle = cycle; members = members }, verdict, is, refl)
    says other is ranked = absurd (omega arith)

    decide : (ks : List ℕ) → IsDecided (HasCompressed s hs t ks)
    decide [] = inr (λ h. h)
    decide (d ∷ ks) = emission s hs t (record { 0 = d }) ks

-- ---- decisions: whether the record of a frame that is permanent is due, and what becomes of the frame

-- ---- a frame is permanent

-- the frame of the record with this number is permanent, and this becomes of it
abbrev pub HasOutcome : Scenario → List Happening → DeviceId → ℕ → LinkId → ℕ → Type 0
HasOutcome s hs device t link cause = (point : Units) × (is : Ripe) × BecomesPermanent s hs device t link cause point is

-- the body is that of an arrival at the device by the link
record IsArrivalAt (device : DeviceId) (link : LinkId) (body : NoteBody) : Type 0 where
  pub from : ℕ
  pub clock : ℕ
  pub is : body ≡ notes.Arrived device link from clock

arrival_at : (device : DeviceId) (link : LinkId) (body : NoteBody) → IsDecided (IsArrivalAt device link body)
arrival_at device link (notes.Arrived other by from clock) =
    decided_by
    (λ h. record {
      from = from;
      clock = clock;
      is = rw h.0 (ap (λ l. notes.Arrived device l from clock) h.1);
    })
    (λ r. (cc, cc)) (decided_and (same_device other device) (same_link by link))
arrival_at device link other = inr (λ r. cc)

point_from : Scenario → Happening → DeviceId → ℕ → Units
point_from s g device clock = record { 0 = point_of (pos (s.reading device (time_of g))) clock s.network.dmax.0 }

-- the device waits for the frame, and its reading is first at least the frame's point
abbrev IsReady : Scenario → Happening → DeviceId → ℕ → LinkId → ℕ → Type 0
IsReady s g device t link clock =
    (waits_for s.network device link ≡ true)
    × (IsReach (s.reading device) (pos (time_of g)) (point_from s g device clock).0 (pos t) × (is_broken s device t ≡ false))

module _ (s : Scenario) (hs : List Happening) (device : DeviceId) (t : ℕ) (link : LinkId) (cause : ℕ) where
  there : (g : Happening) → numbered hs cause ≡ Some g → (a : IsArrivalAt device link g.note.body) → (frame : Pcf) → g.frame ≡ Some frame
      → IsReady s g device t link a.clock → HasOutcome s hs device t link cause
  unfolding point_from
  there g e a frame of h =
      let point = point_from s g device a.clock in
      let judged = before_permanence hs device t link cause frame point in
      let is = some_outcome s.network device (state_at_hearing s judged device t) (adjustment_at_hearing s judged device t).0 (points_of judged device)
      frame point.0 in (
        point,
        is.0,
        record {
          frame = frame;
          permanent = record {
            arrival = g;
            there = e;
            from = a.from;
            clock = a.clock;
            arrived = a.is;
            of_frame = of;
            waits = h.0;
            at_point = refl;
            reached = h.1.0;
            correct = h.1.1;
          };
          becomes = is.1;
        },
      )

  found : (g : Happening) → numbered hs cause ≡ Some g → (h : HasOutcome s hs device t link cause) → h.2.permanent.arrival ≡ g
  found g e h = same_some (numbered hs cause) h.2.permanent.arrival g h.2.permanent.there e

  arrives_there : (g : Happening) → numbered hs cause ≡ Some g → HasOutcome s hs device t link cause → IsArrivalAt device link g.note.body
  arrives_there g e h =
      let p = h.2.permanent in
      record { from = p.from; clock = p.clock; is = rw (sym (found g e h)) p.arrived }

  framed : (g : Happening) → numbered hs cause ≡ Some g → HasOutcome s hs device t link cause → (frame : Pcf) × (g.frame ≡ Some frame)
  framed g e h = (h.2.frame, rw (sym (found g e h)) h.2.permanent.of_frame)

  back : (g : Happening) → numbered hs cause ≡ Some g → (a : IsArrivalAt device link g.note.body) → HasOutcome s hs device t link cause
      → IsReady s g device t link a.clock
  unfolding point_from
  back g e a h =
      let p = h.2.permanent in
      let one = found g e h in
      let bodies =
      sym p.arrived ∙ ap (λ x. x.note.body) one ∙ a.is in
      let clocks : p.clock ≡ a.clock = cc in
      let value =
      p.at_point ∙ ap (λ x. (point_from s x device p.clock).0) one ∙ ap (λ c. (point_from s g device c).0) clocks in
      let from = rw one at p.reached in
      (p.waits, (rw value at from, p.correct))

  is_ready : (g : Happening) (clock : ℕ) → IsDecided (IsReady s g device t link clock)
  is_ready g clock =
      decided_and (decided_true (waits_for s.network device link))
      (decided_and (reach_decided (s.reading device) (pos (time_of g)) (point_from s g device clock).0 t) (decided_false (is_broken s device t)))

  pub outcome_decided : IsDecided (HasOutcome s hs device t link cause)
  outcome_decided =
      decided_in (numbered hs cause)
      (λ g e. decided_within (arrival_at device link g.note.body)
      (λ a. decided_in g.frame (λ frame of. decided_by (there g e a frame of) (back g e a) (is_ready g a.clock)) (framed g e))
      (arrives_there g e))
      (λ h. (h.2.permanent.arrival, h.2.permanent.there))

-- ---- a frame is judged

judgement_in : (is : Ripe) → IsDecided ((verdict : Judgement) × (is ≡ ripe_as verdict))
judgement_in ripe.Opened = inl (judgements.Opened, refl)
judgement_in ripe.Joined = inl (judgements.Joined, refl)
judgement_in ripe.Repeat = inl (judgements.Repeat, refl)
judgement_in ripe.Within = inl (judgements.Within, refl)
judgement_in ripe.Outside = inl (judgements.Outside, refl)
judgement_in ripe.Integrates = inl (judgements.Integrates, refl)
judgement_in ripe.Ignored = inl (judgements.Ignored, refl)
judgement_in (ripe.Dropped reason) = inr (λ h. never_dropped h.0 reason h.1)

-- the members of the frame of the record with this number, as a number
abbrev members_from : List Happening → ℕ → ℕ
members_from hs cause = option_map_or (λ frame. frame.members.0) (frame_from hs cause) 0

-- the frame is permanent and judged, with this amount as its point and with these members
abbrev HasJudged : Scenario → List Happening → ℕ → ℕ → ℕ → ℕ → ℕ → ℕ → Type 0
HasJudged s hs t d p members l cause =
    (point : Units) × (verdict : Judgement) × BecomesPermanent s hs (record { 0 = d }) t (record { 0 = l }) cause point (ripe_as verdict)
    × ((amount point ≡ p) × (members_from hs cause ≡ members))

module _ (s : Scenario) (hs : List Happening) (t d p members l cause : ℕ) (r : HasOutcome s hs (record { 0 = d }) t (record { 0 = l }) cause) where
  -- the outcome's point and members are these
  abbrev AreShown : Type 0
  AreShown = (amount r.0 ≡ p) × (members_from hs cause ≡ members)

  shown : (verdict : Judgement) → r.1 ≡ ripe_as verdict → AreShown → HasJudged s hs t d p members l cause
  shown verdict is e = (r.0, verdict, rw is at r.2, e)

  are_shown : HasJudged s hs t d p members l cause → AreShown
  are_shown h =
      let one = same_point s hs t (record { 0 = d }) (record { 0 = l }) cause r.2.permanent h.2.permanent in
      (ap amount one ∙ h.3.0, h.3.1)

  judged_by : IsDecided (HasJudged s hs t d p members l cause)
  judged_by =
      decided_within (judgement_in r.1)
      (λ v. decided_by (shown v.0 v.1) are_shown (decided_and (decided_same (amount r.0) p) (decided_same (members_from hs cause) members)))
      (λ h. (h.1, same_ripening s hs t (record { 0 = d }) (record { 0 = l }) cause r.2 h.2))

pub permanent_decided : (s : Scenario) (hs : List Happening) (t : ℕ) (ks : List ℕ) → IsDecided (HasCaused s hs t 3 ks)
permanent_decided s hs t ks =
    by_five s hs t 3 (HasJudged s hs t) made says (λ d p members l cause. decided_within (outcome_decided s hs (record { 0 = d }) t (record { 0 = l }) cause)
    (judged_by s hs t d p members l cause) (λ h. (h.0, ripe_as h.1, h.2))) ks
  where
    made : (d p members l cause : ℕ) → HasJudged s hs t d p members l cause → HasCaused s hs t 3 (d ∷ p ∷ members ∷ l ∷ cause ∷ [])
    made d p members l cause h = (
      notes.Permanent (record { 0 = d }) (record { 0 = l }) cause h.0 h.1,
      record {
        caused = h.2;
        ranked = refl;
        keyed = rw h.3.0 (ap (λ n. d ∷ p ∷ n ∷ l ∷ cause ∷ []) h.3.1);
      },
    )

    says : (body : NoteBody) → IsCaused s hs (units_of t) body → rank body ≡ 3 → OfFive (HasJudged s hs t) (key (members_by s hs body) body)
    says (notes.Permanent device link cause point verdict) is ranked = (point, verdict, is, (refl, refl))
    says other is ranked = absurd (omega arith)

-- ---- a frame is dropped when it is permanent

-- the frame is permanent, and is dropped for the reason
abbrev pub HasDropped : Scenario → List Happening → DeviceId → ℕ → LinkId → ℕ → Type 0
HasDropped s hs device t link cause = (reason : Reason) × (point : Units) × BecomesPermanent s hs device t link cause point (ripe.Dropped reason)

module _ (s : Scenario) (hs : List Happening) (device : DeviceId) (t : ℕ) (link : LinkId) (cause : ℕ) where
  dropped_by : {point : Units} (is : Ripe) → BecomesPermanent s hs device t link cause point is
      → IsDecided (HasDropped s hs device t link cause)
  dropped_by {point} (ripe.Dropped reason) b = inl (reason, point, b)
  dropped_by other b =
      inr (λ h. let one = same_ripening s hs t device link cause b h.2 in cc)

  pub dropped_decided : IsDecided (HasDropped s hs device t link cause)
  dropped_decided =
      decided_within (outcome_decided s hs device t link cause) (λ r. dropped_by r.1 r.2)
      (λ h. (h.1, ripe.Dropped h.0, h.2))
