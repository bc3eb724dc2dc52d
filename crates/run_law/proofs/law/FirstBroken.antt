-- A broken device is still.
use Rattle.{pcf_codec.specs.declared.refusal.PcfRefusal.PcfRefusal, run_law.specs.{control.Wires.{Signal, timed}, declared.judgement.Reason.TheVariants.Off}}
use Rattle.run_law.proofs.Words.{◌++◌, ◌∷◌, ◌≡◌, Arrival, ArrivesAs, ChangesState, DeviceId, Happening, Integrates, IsArrivedRecord, IsCaused, IsDropped}
use Rattle.run_law.proofs.Words.{IsDue, IsFounded, LinkId, List, Network, NoteBody, Ok, Option, Pcf, Reason, Scenario, Some, Standpoint, State, Units, Why}
use Rattle.run_law.proofs.Words.{amount, ap, arrival_of, control, control_arrival, eqb-true, false, frame_fault, frame_or_fault, inl, inr}
use Rattle.{run_law.proofs.Words.{is_broken, is_joined_by, is_off, not, place_of, refl, standpoint, subst, sym, true, ℕ}, std.specs.Prelude.{Err, Result}}
use Rattle.run_law.{proofs.law.FirstDeliveries.{founded_at, numbered_front, numbered_in}}
use Rattle.run_law.{specs.timed.Arrivals.{octets_fault, octets_or_fault, timed_arrival}}
use Rattle.run_law.specs.{control.{Losses.IsLost}, records.Causes.{IsOfThisTime, device_of}, timed.Receptions.last_taken}
use Rattle.{run_law.specs.law.FirstLaws.{BrokenAreStill, IsLeftToBroken}, std.proofs.{Common.arith, lemmas.Bool.{and_right, both_ways, not_from_true}}}
use Rattle.run_law.specs.declared.judgement.Why.TheVariants as whys
use Rattle.run_law.specs.declared.note.NoteBody.TheVariants as notes
use Rattle.run_law.specs.declared.steps.Arrival.TheVariants as arrivals

-- ---- what comes to a broken device

module _ (network : Network) (device : DeviceId) (link : LinkId) (at : Standpoint) where
  -- a device that takes no part drops what comes to it
  pub off_control : (frame : Result Pcf PcfRefusal) → at.takes_part ≡ false
      → control_arrival network device link at frame ≡ arrivals.Dropped Off
  off_control (Err refusal) off = rw off
  off_control (Ok frame) off =
      let fault : frame_fault network device link at frame ≡ Some Off = rw off refl in
      ap (frame_or_fault network device link at frame) fault

  -- the same of any other frame
  off_timed : (octets : List ℕ) (last : _ → Option ℕ) → at.takes_part ≡ false
      → timed_arrival network device link at octets last ≡ arrivals.Dropped Off
  off_timed octets last off =
      let fault : octets_fault network at octets ≡ Some Off = rw off refl in
      ap (octets_or_fault network device link at octets last) fault

-- and of whatever comes to it
off_arrival : (s : Scenario) (ps : List Happening) (t : ℕ) (device : DeviceId) (link : LinkId) (cause : ℕ) (signal : Signal)
    → (standpoint s ps device t).takes_part ≡ false → arrival_of s ps device t link cause signal ≡ arrivals.Dropped Off
off_arrival s ps t device link cause (control frame) off = off_control s.network device link (standpoint s ps device t) frame off
off_arrival s ps t device link cause (timed octets) off =
    off_timed s.network device link (standpoint s ps device t) octets (last_taken ps device t link cause) off

-- so what comes to a broken device is dropped
dropped_off : {s : Scenario} {ps : List Happening} {t : ℕ} {device : DeviceId} {link : LinkId} {cause : ℕ}
    {a : Arrival} → is_broken s device t ≡ true → ArrivesAs s ps device t link cause a → a ≡ arrivals.Dropped Off
dropped_off broken comes = grind (arith, standpoint, and_right, not, is_off, is_broken, not_from_true, off_arrival)

-- ---- what is correct is not broken

-- the device of a record is this one
broken_of : (s : Scenario) (t : ℕ) (d device : DeviceId) → Some d ≡ Some device → is_broken s device t ≡ true → is_broken s d t ≡ true
broken_of s t d device of broken = let same : device ≡ d = cc in rw same at broken

module _ (s : Scenario) (ps : List Happening) (time : Units) (device : DeviceId) where
  -- a frame tells a correct device the time
  joined_correct : (body : NoteBody) → is_joined_by device body ≡ true → IsCaused s ps time body
      → is_broken s device (amount time) ≡ false
  joined_correct (notes.Permanent other link cause point Integrates) joined caused =
      let same : other ≡ device =
      rw (sym (eqb-true device.0 other.0 joined)) in
      rw same at caused.permanent.correct
  joined_correct (notes.Compressed other opened at cycle members Integrates) joined caused =
      let same : other ≡ device =
      rw (sym (eqb-true device.0 other.0 joined)) in
      rw same at caused.correct
  joined_correct other joined caused = absurd cc

  -- a device that is corrected is correct
  corrected_correct : (cycle : ℕ) (by adjustment : Units) (body : NoteBody)
      → body ≡ notes.Corrected device cycle by adjustment → IsCaused s ps time body
      → is_broken s device (amount time) ≡ false
  corrected_correct cycle by adjustment body is caused =
      let there : IsCaused s ps time (notes.Corrected device cycle by adjustment) =
      subst (IsCaused s ps time) is caused in
      there.corrected.correct

-- the record with a cause of this time was due
caused_at : (s : Scenario) {ps : List Happening} {t cause : ℕ} {h : Happening} → IsFounded place_of (IsDue s) ps
    → IsOfThisTime ps t cause h → (before : List Happening) × IsCaused s before h.note.time h.note.body
caused_at s {ps} {cause} {h} founded there =
    let at = founded_at s ps h founded (numbered_in ps cause h there.there) in
    (at.front, at.due.cause)

module _ (s : Scenario) (ps : List Happening) (t : ℕ) (device : DeviceId) where
  -- a device that changes its state is correct
  changes_correct : (state : State) (cause : ℕ) (why : Why) → IsFounded place_of (IsDue s) ps
      → ChangesState s ps device t state cause why → is_broken s device t ≡ false
  changes_correct state cause whys.On founded c = c.1
  changes_correct state cause whys.Frame founded c =
      let from = caused_at s founded c.1.1 in
      rw c.1.1.same_time at (joined_correct s from.0 c.1.0.note.time device c.1.0.note.body c.1.2 from.1)
  changes_correct state cause whys.Correction founded c =
      let from = caused_at s founded c.2.4 in
      rw c.2.4.same_time at (corrected_correct s from.0 c.2.3.note.time device c.2.0 c.2.1 c.2.2 c.2.3.note.body c.2.5
      from.1)
  changes_correct state cause whys.SyncClique founded c = c.2.1.correct
  changes_correct state cause whys.AsyncClique founded c = c.2.1.correct

  -- ---- the records of a broken device

  -- nothing arrives at it that is not dropped
  no_arrived : {link : LinkId} {cause clock : ℕ} → is_broken s device t ≡ true
      → IsArrivedRecord s ps device t link cause clock → ⊥
  no_arrived broken a = elim a.taken [
    | inl waits ↦ let e = dropped_off broken waits in cc
    | inr (inl passes) ↦ let e = dropped_off broken passes in cc
    | inr (inr both) ↦ let e = dropped_off broken both in cc
  ]

  -- what it drops it drops since it is off
  dropped_since : {link : LinkId} {cause : ℕ} (reason : Reason) → is_broken s device t ≡ true
      → IsDropped s ps device t link cause reason → reason ≡ Off
  dropped_since reason broken (inl comes) = let e = dropped_off broken comes in cc
  dropped_since reason broken (inr (inl ripens)) =
      absurd (both_ways (is_broken s device t) ripens.1.permanent.correct broken)
  dropped_since reason broken (inr (inr departs)) = absurd (both_ways (is_broken s device t) departs.0.correct broken)

module _ (s : Scenario) (ps qs : List Happening) where
  -- what it loses its `send` events put on a cut way
  lost_since : {t : ℕ} {device : DeviceId} {link : LinkId} {cause : ℕ} → is_broken s device t ≡ true
      → IsLost s ps device t link cause → IsLeftToBroken (ps ++ qs) (notes.Lost device link cause)
  lost_since {t} {device} broken (inl departs) = absurd (both_ways (is_broken s device t) departs.correct broken)
  lost_since {t} {device} broken (inr (inl dispatches)) =
      absurd (both_ways (is_broken s device t) dispatches.2.up.correct broken)
  lost_since {cause} broken (inr (inr sent)) =
      (sent.event, sent.line, sent.octets, numbered_front ps qs cause sent.event sent.is.there, sent.sends)

  -- of a device that is broken at the time only these records are due
  left_by : (time : Units) (device : DeviceId) (body : NoteBody) → IsFounded place_of (IsDue s) ps
      → device_of body ≡ Some device → is_broken s device (amount time) ≡ true → IsCaused s ps time body
      → IsLeftToBroken (ps ++ qs) body
  left_by time device (notes.Event line what) founded of broken c = absurd cc
  left_by time device (notes.Arrived d link cause clock) founded of broken c =
      absurd (no_arrived s ps (amount time) d (broken_of s (amount time) d device of broken) c)
  left_by time device (notes.Permanent d link cause point verdict) founded of broken c =
      absurd (both_ways _ c.permanent.correct (broken_of s (amount time) d device of broken))
  left_by time device (notes.Compressed d opened at cycle members verdict) founded of broken c =
      absurd (both_ways _ c.correct (broken_of s (amount time) d device of broken))
  left_by time device (notes.Sent d cycle) founded of broken c =
      absurd (both_ways _ c.up.correct (broken_of s (amount time) d device of broken))
  left_by time device (notes.Corrected d cycle by adjustment) founded of broken c =
      absurd (both_ways _ c.corrected.correct (broken_of s (amount time) d device of broken))
  left_by time device (notes.State d state cause why) founded of broken c =
      absurd (both_ways _ (changes_correct s ps (amount time) d state cause why founded c)
      (broken_of s (amount time) d device of broken))
  left_by time device (notes.Left d link cause clock) founded of broken c =
      absurd (both_ways _ c.correct (broken_of s (amount time) d device of broken))
  left_by time device (notes.Lost d link cause) founded of broken c =
      lost_since (broken_of s (amount time) d device of broken) c
  left_by time device (notes.TtSent d link cause vl cycle) founded of broken c =
      absurd (both_ways _ c.dispatches.up.correct (broken_of s (amount time) d device of broken))
  left_by time device (notes.Accepted d link cause vl cycle) founded of broken c =
      let e = dropped_off (broken_of s (amount time) d device of broken) c in absurd cc
  left_by time device (notes.Delivered d link cause vl cycle) founded of broken c =
      let e = dropped_off (broken_of s (amount time) d device of broken) c in absurd cc
  left_by time device (notes.Dropped d link cause reason) founded of broken c =
      dropped_since s ps (amount time) d reason (broken_of s (amount time) d device of broken) c
  left_by time device (notes.Clock d reading adjustment state) founded of broken c = tt

-- the law: a broken device is still
pub broken_are_still : BrokenAreStill
broken_are_still s mark ns h device run i of broken =
    let at = founded_at s _ h run.founded i in
    rw at.whole (left_by s at.front (h ∷ at.rest) h.note.time device h.note.body at.founded of broken at.due.cause)
