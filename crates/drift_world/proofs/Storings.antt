-- What waits, what switches hold and which devices are off once a record is given, as its law asks.
use Rattle.std.{proofs.{Common.{arith, fold}, lemmas.Bool.{not-true, not_from_false}}, specs.Prelude.MatchBool}
use Rattle.compression.specs.Clusters.{point_at}
use Rattle.drift_clock.specs.transparent.Points.{point_of}
use Rattle.drift_world.proofs.Words
use Words.{if◌then◌else◌, ◌&&◌, ◌++◌, ◌==◌, ◌∙◌, ◌∷◌, ◌≡◌, ◌⊎◌, Accepted, Arrived, Bool, DeviceId, Giving, Happening}
use Words.{HasItsOctets, Holding, IsCaused, IsDue, IsIn, IsPermutation, IsPermutation-map, IsPermutation-sym}
use Words.{IsStoredBy, LinkId, List, Network, None, NoteBody, Off, Option, Pcf, Scenario, Some, Timed, Units, VlId}
use Words.{Waiting, Waits, [], amount, and_parts, any_in, ap, append_assoc, both_ways, eq-eqb, eqb-true, false}
use Words.{false_from_ne_true, filter, in_filter, in_parts, in_permuted, inl, inr, is_broken, is_mapped}
use Words.{is_turned_on_at, map, nat_lt, not, numbered_in, octets_in, octets_of, pos, refl, same_Some, stored_as, subst}
use Words.{sym, time_of, true, turns_on, waiting_as, ℕ, ℤ}
use Rattle.net_plan.{proofs.SameIds.one_device, specs.declared.event.{Event.Event, What.TheVariants.On}}
use Rattle.precision_law.proofs.traffic_lemmas.spans.Spans.{ripe_integrates}
use Rattle.run_law.proofs.{control.Verdicts.role_not, law.FirstDeliveries.in_at, records.Members.{from_map, in_kept}}
use Rattle.run_law.proofs.{scenario.Devices.on_by}
use Rattle.run_law.specs.{declared.judgement.{Judgement.TheVariants.Integrates, Reason.Reason, Why.Why}}
use Rattle.run_law.specs.{records.Happenings.earlier, runs.DueRecords.IsEventRecord}
use Rattle.run_law.specs.{scenario.{Devices.{is_cm, plan_of, start_of}, Faults.BeginsOn}, timed.Dispatching.is_accepted}
use Rattle.run_law.specs.control.{Collections.{master_of, observation_window, point_fault, points_of}}
use Rattle.run_law.specs.control.{Corrections.next_cycle, Hearing.heard_as}
use Rattle.run_law.specs.control.Permanence
use Permanence.{BecomesPermanent, IsCollectedOrDropped, before_permanence, ripe_as, waits_for}
use Rattle.run_law.specs.device.{StateChanges.ChangesState}
use Rattle.run_law.specs.device.States
use States.{adjustment_at_hearing, has_joined_at, state_at_hearing, state_before, state_with}
use Rattle.sync_state.specs.{Standing.{point_in, state_at_start}, declared.{plan.SyncPlan.SyncPlan, state.State.State}}
use Rattle.tte_units.specs.declared.frames.members.Members.{Members}
use Rattle.world_law.{proofs.devices.Unmoved.{joins_no_other, keeps_state}}
use Rattle.world_law.{specs.{device.Own.moves, world.{Moves.{AreAwaited, AreTaken}, World.{IsAwaitedFor, Stored}}}}
use Rattle.world_state.specs.{Frames.IsOneMore, Giving.{awaited_by, giver_of, waits_from}}
use Rattle.world_state.specs.{Storing.{IsHeldInstead, IsStoredFor, is_held_of}}
use Rattle.run_law.specs.declared.judgement.Why.TheVariants as whys
use Rattle.run_law.specs.declared.note.NoteBody.TheVariants as notes
use Rattle.run_law.specs.declared.steps.Ripe.TheVariants as ripe

-- ---- what waits by a record, as its law asks for it

-- an arrival, or another record, by which nothing waits
record IsArrival (body : NoteBody) : Type 0 where
  device : DeviceId
  link : LinkId
  cause : ℕ
  clock : ℕ
  is : body ≡ Arrived device link cause clock

record IsNone (body : NoteBody) : Type 0 where
  none : (network : Network) (broken : Bool) (frame : Option Pcf) (reading number : ℕ) → awaited_by network broken body frame reading number ≡ None
  apart : (device : DeviceId) (link : LinkId) (cause clock : ℕ) → body ≡ Arrived device link cause clock → ⊥

arrival_or_none : (body : NoteBody) → IsArrival body ⊎ IsNone body
arrival_or_none (Arrived device link cause clock) = inl (record { device = device; link = link; cause = cause; clock = clock; is = refl })
arrival_or_none other = inr (record { none = λ n b f r k. refl; apart = λ d l c k e. absurd cc })

split : (b w : Bool) → (not b && w) ≡ true → (b ≡ false) × (w ≡ true)
split true w e = absurd cc
split false true e = (refl, refl)
split false false e = absurd cc

same_waiting : (e f : Waiting) → e.device ≡ f.device → e.link ≡ f.link → e.cause ≡ f.cause → e.frame ≡ f.frame → e.point.0 ≡ f.point.0 → e ≡ f
same_waiting e f device link cause frame point = grind arith

-- nothing waits by it
pub none_awaited : (s : Scenario) (x : Happening) (number : ℕ) (old : List Waiting)
    → ((e : Waiting) → IsAwaitedFor s x e → is_broken s e.device (time_of x) ≡ false → ⊥) → AreAwaited s x number old old
none_awaited s x number old none = record { real = λ e there. inl there; kept = λ e there. there; all = λ e cause for sound. absurd (none e for sound) }

module _ (s : Scenario) {now : ℕ} (x : Happening) {number : ℕ} (giving : Giving) (at : time_of x ≡ now) (by : giver_of x.note.body ≡ Some giving.device)
    (numbered : giving.number ≡ number) (frame : x.frame ≡ Some giving.frame) (read : giving.reading ≡ s.reading giving.device now)
    (broken : giving.broken ≡ is_broken s giving.device now) (old new : List Waits) where
  reads_so : giving.reading ≡ s.reading giving.device (time_of x)
  reads_so = read ∙ ap (s.reading giving.device) (sym at)

  broken_so : giving.broken ≡ is_broken s giving.device (time_of x)
  broken_so = broken ∙ ap (is_broken s giving.device) (sym at)

  module _ {link : LinkId} {cause clock : ℕ} (is : x.note.body ≡ Arrived giving.device link cause clock) where
    abbrev one : Waits
    one = waits_from s.network giving.device link clock giving.reading giving.number giving.frame

    -- whatever waits by it is this one
    only : (e : Waiting) → e.cause ≡ number → IsAwaitedFor s x e → (e ≡ waiting_as one) × (e.device ≡ giving.device) × (e.link ≡ link)
    only e cause_is for =
        let device : e.device ≡ giving.device = cc in
        let links : e.link ≡ link = cc in
        let clocks : for.clock ≡ clock = cc in
        let frames : e.frame ≡ giving.frame = same_Some _ _ (sym for.of_frame ∙ frame) in
        let points : e.point.0 ≡ point_of (pos giving.reading) clock s.network.dmax.0 =
        for.at_point ∙ ap (λ (d : DeviceId). point_of (pos (s.reading d (time_of x))) for.clock s.network.dmax.0) device
        ∙ ap (λ k. point_of (pos (s.reading giving.device (time_of x))) k s.network.dmax.0) clocks
        ∙ ap (λ r. point_of (pos r) clock s.network.dmax.0) (sym reads_so) in
        (same_waiting e (waiting_as one) device links (cause_is ∙ sym numbered) frames points, device, links)

    arrival_waits : (b : Bool) → (not giving.broken && waits_for s.network giving.device link) ≡ b
        → IsOneMore (if b then Some one else None) old new → AreAwaited s x number (map waiting_as old) (map waiting_as new)
    arrival_waits false e more = subst (λ l. AreAwaited s x number (map waiting_as old) (map waiting_as l)) (sym more)
        (none_awaited s x number (map waiting_as old) (λ w for sound.
        let o = only (record w { cause = number }) refl (record {
          from = for.from;
          clock = for.clock;
          arrived = for.arrived;
          of_frame = for.of_frame;
          waits = for.waits;
          at_point = for.at_point;
        }) in
        let whole : giving.broken ≡ false = broken_so ∙ ap (λ d. is_broken s d (time_of x)) (sym o.1) ∙ sound in
        let wait : waits_for s.network giving.device link ≡ true =
        ap (λ d. waits_for s.network d link) (sym o.1) ∙ ap (waits_for s.network w.device) (sym o.2) ∙ for.waits in
        let both : (not giving.broken && waits_for s.network giving.device link) ≡ true =
        ap (λ c. not c && waits_for s.network giving.device link) whole ∙ wait in
        absurd cc))
    arrival_waits true e more =
        let parts = split giving.broken (waits_for s.network giving.device link) e in
        let mapped : IsPermutation (waiting_as one ∷ map waiting_as old) (map waiting_as new) = IsPermutation-map waiting_as (one ∷ old) new more in
        record {
          real = λ w there.
              elim (in_permuted _ _ w (IsPermutation-sym _ _ mapped) there) [
                | inr before ↦ inl before
                | inl own ↦ inr (subst (λ v. (v.cause ≡ number) × IsAwaitedFor s x v
                    × (is_broken s v.device (time_of x) ≡ false)) (sym own) (
                      numbered,
                      record {
                        from = cause;
                        clock = clock;
                        arrived = is;
                        of_frame = frame;
                        waits = parts.1;
                        at_point = ap (λ r. point_of (pos r) clock s.network.dmax.0) reads_so;
                      },
                      sym broken_so ∙ parts.0,
                    ))
              ];
          kept = λ w there. in_permuted _ _ w mapped (inr there);
          all = λ w cause_is for sound. in_permuted _ _ w mapped (inl (only w cause_is for).0);
        }

  -- what waits by it
  pub awaits : IsOneMore (awaited_by s.network giving.broken x.note.body (Some giving.frame) giving.reading giving.number) old new
      → AreAwaited s x number (map waiting_as old) (map waiting_as new)
  awaits more =
      elim (arrival_or_none x.note.body) [
        | inl a ↦
            let device : a.device ≡ giving.device = same_Some _ _ (ap giver_of (sym a.is) ∙ by) in
            let is : x.note.body ≡ Arrived giving.device a.link a.cause a.clock = a.is ∙ ap (λ (d : DeviceId). Arrived d a.link a.cause a.clock) device in
            arrival_waits is _ refl
            (subst (λ b. IsOneMore (awaited_by s.network giving.broken b (Some giving.frame) giving.reading giving.number) old new) is more)
        | inr a ↦
            subst (λ l. AreAwaited s x number (map waiting_as old) (map waiting_as l))
            (sym (rw (a.none s.network giving.broken (Some giving.frame) giving.reading giving.number) at more))
            (none_awaited s x number (map waiting_as old) (λ w for sound. a.apart w.device w.link for.from for.clock for.arrived))
      ]

-- ---- what switches hold once a record is given, as its law asks for it: lists that are mapped and filtered

record IsPassed {X : Type 0} (q : X → Bool) (xs : List X) (x : X) : Type 0 where
  was : IsIn x xs
  passes : q x ≡ true

out_of_filter : {X : Type 0} (q : X → Bool) (xs : List X) (x : X) → IsIn x (filter q xs) → IsPassed q xs x
out_of_filter q [] x there = absurd there
out_of_filter {X} q (y ∷ xs) x there = by_test (q y) refl (λ i. out_of_filter q xs x i) there
  where
    by_test : (b : Bool) → q y ≡ b → (IsIn x (filter q xs) → IsPassed q xs x) → IsIn x (if b then y ∷ filter q xs else filter q xs) → IsPassed q (y ∷ xs) x
    by_test true is more (inl e) = record { was = inl e; passes = ap q e ∙ is }
    by_test true is more (inr rest) = let of = more rest in record { was = inr of.was; passes = of.passes }
    by_test false is more rest = let of = more rest in record { was = inr of.was; passes = of.passes }

-- ---- no frame is taken

none_taken : (x : Happening) (number : ℕ) (held : List Stored) → ((device : DeviceId) (vl : VlId) → is_accepted device vl x.note.body ≡ false)
    → AreTaken x number held held
none_taken x number held none = grind (arith, both_ways)

-- ---- one is

same_both : (a b c d : ℕ) → (a == b && c == d) ≡ true → (a ≡ b) × (c ≡ d)
same_both a b c d e = grind (arith, eqb-true)

module _ (network : Network) (x : Happening) (number : ℕ) (held new : List Holding) (one : Holding) (instead : IsHeldInstead one held new)
    (by : (device : DeviceId) (vl : VlId) → is_accepted device vl x.note.body ≡ (device.0 == one.device.0 && vl.0 == one.vl.0)) (numbered : one.number ≡ number)
    (own : x.octets ≡ octets_of network one.octets) where
  one_taken : AreTaken x number (map (stored_as network) held) (map (stored_as network) new)
  one_taken = record {
    real = λ e there.
        let of = from_map (stored_as network) new e there in
        elim (in_permuted _ _ of.0 (IsPermutation-sym _ _ instead) of.1) [
          | inl fresh ↦
              let same = of.2 ∙ ap (stored_as network) fresh in
              inr (rw same (
                by one.device one.vl ∙ itself,
                numbered,
                sym own,
              ))
          | inr old ↦
              let was = out_of_filter (λ h. not (is_held_of one.device one.vl h)) held of.0 old in
              inl (rw of.2 (
                is_mapped (stored_as network) held of.0 was.was,
                by of.0.device of.0.vl ∙ not-true _ was.passes,
              ))
        ];
    kept = λ e there not_taken.
        let of = from_map (stored_as network) held e there in
        let is = rw of.2 at not_taken in
        rw of.2 (is_mapped (stored_as network) new of.0
        (in_permuted _ _ of.0 instead
        (inr (in_kept (λ h. not (is_held_of one.device one.vl h)) held of.0 of.1
        (not_from_false _ (sym (by of.0.device of.0.vl) ∙ is))))));
    all = λ device vl is.
        let same = same_both device.0 one.device.0 vl.0 one.vl.0 (sym (by device vl) ∙ is) in (
          stored_as network one,
          is_mapped (stored_as network) new one (in_permuted _ _ one instead (inl refl)),
          rw (sym same.0),
          rw (sym same.1),
        );
  }
    where
      itself : (one.device.0 == one.device.0 && one.vl.0 == one.vl.0) ≡ true
      itself = rw (eq-eqb one.device.0 one.device.0 refl) (eq-eqb one.vl.0 one.vl.0 refl)

-- ---- by the record

by_accepted : (network : Network) (x : Happening) (number : ℕ) (held new : List Holding) (device : DeviceId) (vl : VlId) (octets : Option Timed)
    → ((other : DeviceId) (of_vl : VlId) → is_accepted other of_vl x.note.body ≡ (other.0 == device.0 && of_vl.0 == vl.0))
    → (octets ≡ None → ⊥) → x.octets ≡ octets_in network octets → IsStoredFor device vl octets number held new
    → AreTaken x number (map (stored_as network) held) (map (stored_as network) new)
by_accepted network x number held new device vl None by some own stored = absurd (some refl)
by_accepted network x number held new device vl (Some octets) by some own stored =
    one_taken network x number held new (record { device = device; vl = vl; number = number; octets = octets }) stored by refl own

has_some : (device : DeviceId) (link : _) (cause : ℕ) (vl : VlId) (cycle : ℕ) (octets : Option Timed)
    → HasItsOctets (Accepted device link cause vl cycle) octets → octets ≡ None → ⊥
has_some device link cause vl cycle None has e = has
has_some device link cause vl cycle (Some o) has e = cc

module _ (network : Network) (x : Happening) (number : ℕ) (held new : List Holding) where
  same_taken : new ≡ held → ((device : DeviceId) (vl : VlId) → is_accepted device vl x.note.body ≡ false)
      → AreTaken x number (map (stored_as network) held) (map (stored_as network) new)
  same_taken same none =
      rw same (none_taken x number (map (stored_as network) held) none)

  -- what the switch took by it is held, and nothing else changes
  pub taken_by : (body : NoteBody) (octets : Option Timed) → x.note.body ≡ body → HasItsOctets body octets
      → x.octets ≡ octets_in network octets → IsStoredBy body octets number held new
      → AreTaken x number (map (stored_as network) held) (map (stored_as network) new)
  taken_by (Accepted d l c v k) octets is has own stored = by_accepted network x number held new d v octets
      (λ other of_vl. ap (is_accepted other of_vl) is) (has_some d l c v k octets has) own stored
  taken_by other octets is has own same = same_taken same (λ device vl. ap (is_accepted device vl) is)

-- ---- a device that began off, and that no event turned on, is off: what hears nothing joins by nothing

-- of a frame of a device that is off nothing comes that tells it the time
off_hears : (plan : SyncPlan) (precision : ℤ) (adjustment point : ℤ) (cycle : ℕ) (members : Members) (state : State) → state ≡ Off
    → Integrates ≡ heard_as plan precision state adjustment point cycle members → ⊥
off_hears plan precision adjustment point cycle members Off off e = cc
off_hears plan precision adjustment point cycle members other off e = cc

-- ---- no record moves it

none_joined : (device : DeviceId) (t : ℕ) (hs : List Happening) → ((h : Happening) → IsIn h hs → moves device h.note.body ≡ false)
    → has_joined_at hs device t ≡ false
none_joined device t [] still = refl
none_joined device t (h ∷ hs) still = grind (arith, time_of, joins_no_other, (none_joined device t hs (λ g i. still g (inr i))))

unmoved : (device : DeviceId) (first : State) (hs : List Happening) → ((h : Happening) → IsIn h hs → moves device h.note.body ≡ false)
    → fold (λ state h. state_with device state h.note.body) first hs ≡ first
unmoved device first [] still = refl
unmoved device first (h ∷ hs) still =
    rw (keeps_state device first h.note.body (still h (inl refl)))
    (unmoved device first hs (λ g i. still g (inr i)))

module _ (s : Scenario) (device : DeviceId) (begins : state_at_start (start_of s.network device) ≡ Off)
    (never : (e : Event) → IsIn e s.events → e.what ≡ On device → ⊥) where
  -- no event turns it on at a time
  pub not_on : (t : ℕ) → is_turned_on_at s device t ≡ false
  not_on t = false_from_ne_true (is_turned_on_at s device t) (λ on.
      let found = any_in (λ e. turns_on device e.what && amount e.time == t) s.events on in
      let parts = and_parts (turns_on device found.0.what) (amount found.0.time == t) found.2 in
      never found.0 found.1 (on_by device found.0.what parts.0))

  -- while no record has moved it, it is off
  off_then : (hs : List Happening) (t : ℕ) → ((h : Happening) → IsIn h hs → moves device h.note.body ≡ false) → state_before s hs device t ≡ Off
  off_then hs t still =
      rw (not_on t)
      (unmoved device (state_at_start (start_of s.network device)) (earlier t hs)
      (λ h i. still h (in_filter (λ g. nat_lt (time_of g) t) hs h i))
      ∙ begins)

  off_at_hearing : (hs : List Happening) (t : ℕ) → ((h : Happening) → IsIn h hs → moves device h.note.body ≡ false) → state_at_hearing s hs device t ≡ Off
  off_at_hearing hs t still = rw (none_joined device t hs still) (off_then hs t still)

  no_point : (hs : List Happening) (t : ℕ) {cycle : ℕ} → ((h : Happening) → IsIn h hs → moves device h.note.body ≡ false)
      → point_in (state_before s hs device t) (next_cycle s hs device t) ≡ Some cycle → ⊥
  no_point hs t {cycle} still e =
      let bad : None ≡ Some cycle = sym (ap (λ z. point_in z (next_cycle s hs device t)) (off_then hs t still)) ∙ e in cc

  no_frame : {hs : List Happening} {t : ℕ} {link : LinkId} {cause : ℕ} {point : Units}
      → ((h : Happening) → IsIn h hs → moves device h.note.body ≡ false) → BecomesPermanent s hs device t link cause point ripe.Integrates → ⊥
  no_frame {hs} {t} {link} {cause} {point} still c =
      let judged = before_permanence hs device t link cause c.frame point in
      let kept : (h : Happening) → IsIn h judged → moves device h.note.body ≡ false = λ h i. still h (in_filter _ hs h i) in
      from judged kept (is_cm s.network device) c.becomes
    where
      from : (judged : List Happening) → ((h : Happening) → IsIn h judged → moves device h.note.body ≡ false) → (b : Bool) → MatchBool b
          (IsCollectedOrDropped s.network (points_of judged device)
          (point_at point.0 (master_of c.frame.members.0) c.frame.cycle)
          (point_fault s.network (state_at_hearing s judged device t)
          (adjustment_at_hearing s judged device t).0 point.0 c.frame.cycle)
          ripe.Integrates)
          (ripe.Integrates ≡ ripe_as (heard_as (plan_of s.network device) (observation_window s.network) (state_at_hearing s judged device t)
          (adjustment_at_hearing s judged device t).0 point.0 c.frame.cycle c.frame.members)) → ⊥
      from judged kept false e =
          off_hears (plan_of s.network device) (observation_window s.network) (adjustment_at_hearing s judged device t).0
          point.0 c.frame.cycle c.frame.members (state_at_hearing s judged device t) (off_at_hearing judged t kept) (ripe_integrates _ e)
      from judged kept true e =
          collected (point_fault s.network (state_at_hearing s judged device t)
          (adjustment_at_hearing s judged device t).0 point.0 c.frame.cycle) e
        where
          collected : (o : Option Reason) → IsCollectedOrDropped s.network (points_of judged device)
              (point_at point.0 (master_of c.frame.members.0) c.frame.cycle) o
              ripe.Integrates → ⊥
          collected None it = role_not it.taken it.becomes
          collected (Some reason) it = cc

  -- nor does the next
  no_change : (hs : List Happening) (t : ℕ) (state : State) (cause : ℕ) (why : Why) → ((h : Happening) → IsIn h hs → moves device h.note.body ≡ false)
      → ((h : Happening) → IsIn h hs → (line : ℕ) → h.note.body ≡ notes.Event line (On device) → ⊥) → ChangesState s hs device t state cause why → ⊥
  no_change hs t state cause whys.On still untold c = untold c.2.1 (numbered_in hs cause c.2.1 c.2.2.there) c.2.0 c.2.3
  no_change hs t state cause whys.Frame still untold c =
      let h = c.1.0 in
      let no = joins_no_other device h.note.body (still h (numbered_in hs cause h c.1.1.there)) in
      let bad = sym no ∙ c.1.2 in cc
  no_change hs t state cause whys.Correction still untold c = let bad = sym (off_then hs t still) ∙ c.1 in cc
  no_change hs t state cause whys.SyncClique still untold c = no_point hs t still c.2.1.next
  no_change hs t state cause whys.AsyncClique still untold c = no_point hs t still c.2.1.next

  stays : (hs : List Happening) (time : Units) (body : NoteBody) → ((h : Happening) → IsIn h hs → moves device h.note.body ≡ false)
      → ((h : Happening) → IsIn h hs → (line : ℕ) → h.note.body ≡ notes.Event line (On device) → ⊥) → IsCaused s hs time body → moves device body ≡ true → ⊥
  stays hs time (notes.State other state cause why) still untold c own =
      no_change hs (amount time) state cause why still untold
      (rw (one_device device other own) at c)
  stays hs time (notes.Corrected other cycle by adjustment) still untold c own =
      no_point hs (amount time) still
      (rw (one_device device other own) at c.corrected).next
  stays hs time (notes.Permanent other link cause point Integrates) still untold c own =
      no_frame still
      (rw (one_device device other own) at c)
  stays hs time (notes.Compressed other opened at cycle members Integrates) still untold c own =
      let e = rw (one_device device other own) at c in
      off_hears (plan_of s.network device) (observation_window s.network)
      (adjustment_at_hearing s hs device (amount time)).0 at.0 cycle members
      (state_at_hearing s hs device (amount time)) (off_at_hearing hs (amount time) still) e.heard
  stays hs time other still untold c own = absurd cc

  -- the record of an event that turns it on is not there
  untold_by : (h : Happening) {ps : List Happening} → IsDue s ps h → (line : ℕ) → h.note.body ≡ notes.Event line (On device) → ⊥
  untold_by h {ps} due line is =
      let r : IsEventRecord s.events h.note.time line (On device) = subst (IsCaused s ps h.note.time) is due.cause in
      never r.event (in_at s.events r.before r.event r.is) (sym r.same)

  -- so no record of a list, of which each is due given those before it, moves the device
  from : (ps qs : List Happening) → ((front rest : List Happening) (z : Happening) → ps ++ qs ≡ front ++ z ∷ rest → IsDue s front z)
      → ((h : Happening) → IsIn h ps → moves device h.note.body ≡ false)
      → ((h : Happening) → IsIn h ps → (line : ℕ) → h.note.body ≡ notes.Event line (On device) → ⊥)
      → (h : Happening) → IsIn h qs → moves device h.note.body ≡ false
  from ps [] founded still untold h i = absurd i
  from ps (q ∷ qs) founded still untold h i =
      let due = founded ps qs q refl in
      let here = false_from_ne_true (moves device q.note.body)
      (stays ps q.note.time q.note.body still untold due.cause) in
      elim i [
        | inl same ↦ rw same here
        | inr more ↦
            from (ps ++ q ∷ []) qs (λ front rest z e. founded front rest z (sym (append_assoc ps (q ∷ []) qs) ∙ e))
            (λ g j. elim (in_parts g ps (q ∷ []) j) [
              | inl l ↦ still g l
              | inr (inl same) ↦ rw same here
              | inr (inr none) ↦ absurd none
            ])
            (λ g j line is. elim (in_parts g ps (q ∷ []) j) [
              | inl l ↦ untold g l line is
              | inr (inl same) ↦ untold_by q due line (rw (sym same) is)
              | inr (inr none) ↦ absurd none
            ])
            h more
      ]

  pub stays_off : (hs : List Happening) → ((front rest : List Happening) (z : Happening) → hs ≡ front ++ z ∷ rest → IsDue s front z) → (t : ℕ)
      → state_before s hs device t ≡ Off
  stays_off hs founded t = off_then hs t (from [] hs founded (λ h i. absurd i) (λ h i line is. absurd i))

-- a device that does not begin on begins off
pub begins_off : (s : Scenario) (device : DeviceId) → (BeginsOn s.network device → ⊥) → state_at_start (start_of s.network device) ≡ Off
begins_off s device not = grind arith
