-- The sound channel delivers: up to its compression master, and down from it.
use Rattle.precision_law.proofs.{clocks.Readings.reach_is_there, words.Std.{inl, inr, ints, le-ltb, nat_lt, not, option_and_then, pos, refl, subst, true, ℕ, ℤ}}
use Rattle.precision_law.proofs.{faults.{Masters.good_is_correct, Sound.sound_switches_begin_on}}
use Rattle.precision_law.proofs.words.{Laws.{IsGood, IsOpen, IsPermanentAt, IsSoundSwitch, IsView, View}}
use Rattle.precision_law.proofs.words.Runs.{start_of, state_after, state_before, state_with, time_of, wire_of}
use Rattle.precision_law.proofs.words.Runs.{with_clock}
use Rattle.{precision_law.proofs.records.Views.{room, steady}, tte_units.specs.declared.frames.pcf.PcfKind.TheVariants.Integration}
use Rattle.precision_law.proofs.words.Plans.{DeviceId, Integrating, IsReach, LinkId, Network, Pcf, State, amount, device_at, point_of, state_at_start}
use Rattle.precision_law.proofs.words.Runs.{BeginsOn, ChangesState, Happening, IsCaused, IsIn, NoteBody, Reason, Why, earlier, first_reason, founded_at}
use Rattle.precision_law.proofs.words.Runs.{frame_fault, in_filter, is_cold_start, is_joined_by, is_of_other_member, is_off, is_turned_on_at, standpoint}
use Rattle.precision_law.proofs.words.Std.{◌&&◌, ◌+◌, ◌==◌, ◌∷◌, ◌≡◌, ◌≤◌, Bool, List, None, [], ap, arith, by_lt_z, eq-eqb, false, fold, if◌then◌else◌}
use Rattle.run_law.proofs.device.States.{joined_or}
use Rattle.run_law.specs.declared.judgement.Why.TheVariants as whys
use Rattle.run_law.specs.declared.note.NoteBody.TheVariants as notes

-- ---- the switches of the sound channel are on

state_is_on : (s : _) (ps : List Happening) (t : ℕ) (device : DeviceId) (state : State) (cause : ℕ) (why : Why) → ChangesState s ps device t state cause why
    → is_off state ≡ false
state_is_on s ps t device state cause whys.On c = ap is_off c.0
state_is_on s ps t device state cause why c = ap is_off c.0

pub stays_on : {v : View} (device : DeviceId) (h : Happening) (old : State) (body : NoteBody) → IsView v
    → IsIn h v.records → h.note.body ≡ body → is_off old ≡ false → is_off (state_with device old body) ≡ false
stays_on {v} device h old (notes.State other state cause why) is i same on =
    let at = founded_at v.scenario v.records h is.run.founded i in
    let changes : ChangesState v.scenario at.front other (time_of h) state cause why = subst (IsCaused v.scenario at.front h.note.time) same at.due.cause in
    elim (device.0 == other.0) as (λ b. is_off (if b then state else old) ≡ false) [
      | true ↦ state_is_on v.scenario at.front (time_of h) other state cause why changes
      | false ↦ on
    ]
stays_on device h old body is i same on = joined_or (is_joined_by device body) old on

fold_on : {v : View} (device : DeviceId) (hs : List Happening) (old : State) → IsView v
    → ((h : Happening) → IsIn h hs → IsIn h v.records) → is_off old ≡ false
    → is_off (fold (λ state h. state_with device state h.note.body) old hs) ≡ false
fold_on device [] old is all on = on
fold_on device (h ∷ hs) old is all on =
    fold_on device hs (state_with device old h.note.body) is (λ g i. all g (inr i))
    (stays_on device h old h.note.body is (all h (inl refl)) refl on)

starts_on : (network : Network) (device : DeviceId) → BeginsOn network device → is_off (state_at_start (start_of network device)) ≡ false
starts_on network device on = grind (arith, device_at, is_off, state_at_start, option_and_then)

pub sound_switch_on : {v : View} (device : DeviceId) (t : ℕ) → IsView v → IsSoundSwitch v device
    → is_off (state_before v.scenario v.records device t) ≡ false
sound_switch_on {v} device t is switch =
    let starts = starts_on v.scenario.network device (sound_switches_begin_on v device is switch) in
    elim (is_turned_on_at v.scenario device t) as (λ b. is_off (if b then Integrating else state_after v.scenario (earlier t v.records) device) ≡ false) [
      | true ↦ refl
      | false ↦ fold_on device (earlier t v.records) (state_at_start (start_of v.scenario.network device)) is
          (λ h i. in_filter (λ h. nat_lt (time_of h) t) v.records h i) starts
    ]

-- ---- no fault

-- what correct devices send
pub record IsClean (n : Network) (frame : Pcf) : Type 0 where
  pub kind : frame.kind ≡ Integration
  pub priority : frame.priority ≡ n.priority
  pub domain : frame.domain ≡ n.domain

none_holds : (a b c d e f : Bool) (p q r s t u : Reason) → a ≡ false → b ≡ false → c ≡ false → d ≡ false → e ≡ false → f ≡ false
    → first_reason ((a, p) ∷ (b, q) ∷ (c, r) ∷ (d, s) ∷ (e, t) ∷ (f, u) ∷ []) ≡ None
none_holds false false false false false false p q r s t u ea eb ec ed ee ef = refl
none_holds a b c d e f p q r s t u ea eb ec ed ee ef = absurd cc

taking_part : (off broken : Bool) → off ≡ false → broken ≡ false → not (not off && not broken) ≡ false
taking_part false false a b = refl
taking_part off broken a b = absurd cc

same_domain : (a b c d : ℕ) → a ≡ b → c ≡ d → not (a == b && c == d) ≡ false
same_domain a b c d one other = rw (eq-eqb a b one) (ap (λ x. not x) (eq-eqb c d other))

-- the device is on, and its gate is open, while a trip that begins at the time may last
abbrev pub IsReady : View → DeviceId → ℕ → Type 0
IsReady v device t0 =
    (u : ℕ) → t0 ≤ u → u + v.sizes.path ≤ t0 + v.sizes.dmax → (is_off (state_before v.scenario v.records device u) ≡ false) × IsOpen v device u

pub no_fault : {v : View} (device : DeviceId) (link : LinkId) (u clock : ℕ) {frame : Pcf} → IsView v
    → IsClean v.scenario.network frame → IsGood v device → u ≤ v.until
    → is_off (state_before v.scenario v.records device u) ≡ false → IsOpen v device u
    → is_of_other_member v.scenario.network device link frame.members ≡ false
    → clock + wire_of v.scenario.network link ≤ amount v.scenario.network.dmax
    → frame_fault v.scenario.network device link (standpoint v.scenario v.records device u) (with_clock clock frame)
    ≡ None
no_fault device link u clock is clean good within on is_open member small =
    grind (arith, standpoint, none_holds, taking_part, good_is_correct, is_cold_start, same_domain, le-ltb, amount, wire_of)

-- ---- permanence

-- what has arrived will be permanent
pub record WillBePermanent (v : View) (last : Happening) (device : DeviceId) (clock : ℕ) : Type 0 where
  pub point : ℤ
  pub q : ℕ
  pub permanent : IsPermanentAt v last device point q
  pub same : permanent.clock ≡ clock

pub will_be_permanent : {v : View} (last : Happening) (device : DeviceId) (link : LinkId) (cause clock : ℕ)
    → IsView v → last.note.body ≡ notes.Arrived device link cause clock → clock ≤ v.sizes.dmax
    → WillBePermanent v last device clock
will_be_permanent {v} last device link cause clock is body small =
    let reading = v.scenario.reading device in
    let a = time_of last in
    let point = point_of (pos (reading a)) clock (pos v.sizes.dmax) in
    let space = room is in
    let of_reach : (q : ℕ) → IsReach reading (pos a) point (pos q) → WillBePermanent v last device clock = λ q reach.
    record {
      point = point;
      q = q;
      permanent = record { link = link; from = cause; clock = clock; is = body; at_point = refl; reached = reach };
      same = refl;
    } in
    by_lt_z (pos (reading a)) point
    (λ below.
    let cycles = space.cycles in
    let errors = space.eight_errors in
    let reach_is = space.errors.reach_is in
    let there = reach_is_there v.sizes reading a a point (a + v.sizes.cycle) (steady v is device) (omega arith)
    (omega arith) below
    (omega (arith, ints, (steady v is device).slow a (a + v.sizes.cycle) (omega arith) (omega arith))) in
    of_reach there.0 there.3)
    (λ enough. of_reach a (record { from_on = omega (arith, ints); reached = enough; not_before = λ y from_y y_before. absurd (omega (arith, ints)) }))
