-- Decisions: whether the record of a correction, of an event, or of a clock at the end is due.
use Rattle.std.proofs.Common
use Common.{◌+ℤ◌, ◌∙◌, ◌≡◌, Any, List, Some, ap, arith, false, inl, inr, pos, refl, slice_get, suc, zero, ℕ}
use Rattle.net_plan.specs.declared.{event.{Event.Event, What.{TheVariants.End, What}}, ids.DeviceId.DeviceId}
use Rattle.net_plan.specs.declared.{tables.Device.Device}
use Rattle.precision_law.proofs.traffic_lemmas.existence_lemmas.decisions.Places.{HasCaused, OfOne, by_one, caused}
use Rattle.precision_law.proofs.traffic_lemmas.existence_lemmas.decisions.Places.{decided_in, decided_within}
use Rattle.precision_law.proofs.traffic_lemmas.existence_lemmas.decisions.Places.{members_by, reaches_decided, same_int}
use Rattle.sync_state.proofs.{VerdictLemmas.one_verdict, membership_lemmas.SummaryLemmas.one_summary}
use Rattle.run_law.proofs.{control.Summaries.{summary_of, verdict_of}}
use Rattle.run_law.proofs.scenario.Decisions
use Decisions.{IsDecided, at_integration, decided_and, decided_any, decided_by, decided_false}
use Rattle.run_law.specs.{control.Corrections.{ComesToCorrection, correction_value, heard_since, standing_before}}
use Rattle.run_law.specs.{declared.note.NoteBody.NoteBody}
use Rattle.run_law.specs.{device.{LocalClocks.Reaches, States.{adjustment_after, adjustment_before, state_after}}}
use Rattle.run_law.specs.{records.{Happenings.{Happening, up_to}, Ranks.{key, rank}}}
use Rattle.run_law.specs.{runs.DueRecords.{EndsAt, IsCaused, IsClockRecord, IsCorrectedRecord, IsEventRecord}}
use Rattle.run_law.specs.{scenario.Scenarios.{Scenario, is_broken}}
use Rattle.sync_state.specs.{Standing.{Standing, next_point}, Verdicts.HasVerdict, membership.Summary.Summary}
use Rattle.sync_state.specs.declared.{state.State.State}
use Rattle.sync_state.specs.declared.answers.Verdict.{TheVariants.{AsyncClique, Cleared, Corrected, SyncClique}}
use Rattle.sync_state.specs.declared.answers.Verdict.{Verdict}
use Rattle.tte_units.{proofs.general_lemmas.Options.{one, one as same_some}}
use Rattle.tte_units.{specs.{Amount.units_of, declared.units.Units.Units}}
use Rattle.run_law.specs.declared.note.NoteBody.TheVariants as notes

-- ---- decisions: to what a correction point comes, and whether the record of a correction is due

-- ---- each point comes to a verdict

verdict_there : (s : Standing) (heard : Summary) → (verdict : Verdict) × HasVerdict s heard verdict
verdict_there s heard =
    elim (at_integration s) [
      | inl at ↦ (Cleared, at)
      | inr not ↦
          elim (verdict_of s heard not) [
            | inl corrects ↦ (Corrected corrects.0, corrects.1)
            | inr (inl none) ↦ (SyncClique, none)
            | inr (inr out) ↦ (AsyncClique, out)
          ]
    ]

-- ---- a correction point comes

-- a correction point of the device comes at the time, and comes to this
abbrev pub HasPoint : Scenario → List Happening → DeviceId → ℕ → Type 0
HasPoint s hs device t = (cycle : ℕ) × (verdict : Verdict) × ComesToCorrection s hs device t cycle verdict

module _ (s : Scenario) (hs : List Happening) (device : DeviceId) (t : ℕ) where
  there : (cycle : ℕ) → next_point (standing_before s hs device t) ≡ Some cycle
      → Reaches s hs device (correction_value s.network cycle) t × (is_broken s device t ≡ false) → HasPoint s hs device t
  there cycle e h =
      let heard = summary_of (heard_since s hs device t) in
      let verdict = verdict_there (standing_before s hs device t) heard.0 in (
        cycle,
        verdict.0,
        record { next = e; reached = h.0; correct = h.1; summary = heard.0; heard = heard.1; comes = verdict.1 },
      )

  back : (cycle : ℕ) → next_point (standing_before s hs device t) ≡ Some cycle → HasPoint s hs device t
      → Reaches s hs device (correction_value s.network cycle) t × (is_broken s device t ≡ false)
  back cycle e h =
      let c = h.2 in
      let one = same_some (next_point (standing_before s hs device t)) h.0 cycle c.next e in
      (rw one at c.reached, c.correct)

  pub point_decided : IsDecided (HasPoint s hs device t)
  point_decided =
      decided_in (next_point (standing_before s hs device t)) (λ cycle e. decided_by (there cycle e) (back cycle e)
      (decided_and (reaches_decided s hs device (correction_value s.network cycle) t) (decided_false (is_broken s device t))))
      (λ h. (h.0, h.2.next))

  -- points at one time come to one verdict
  pub one_outcome : (n m : ℕ) (v w : Verdict) → ComesToCorrection s hs device t n v → ComesToCorrection s hs device t m w → v ≡ w
  one_outcome n m v w a b =
      let heard = one_summary (heard_since s hs device t) b.summary a.summary b.heard a.heard in
      one_verdict (standing_before s hs device t) a.summary v w a.comes
      (rw heard at b.comes)

-- ---- a correction

abbrev HasCorrection : Scenario → List Happening → ℕ → ℕ → Type 0
HasCorrection s hs t d = (cycle : ℕ) × (by : Units) × (adjustment : Units) × IsCorrectedRecord s hs (record { 0 = d }) t cycle by adjustment

correction_by : {s : Scenario} {hs : List Happening} {t : ℕ} (d : ℕ) {cycle : ℕ} (verdict : Verdict)
    → ComesToCorrection s hs (record { 0 = d }) t cycle verdict → IsDecided (HasCorrection s hs t d)
correction_by {s} {hs} {t} d {cycle} (Corrected by) c =
    inl (cycle, by, record { 0 = (adjustment_before s hs (record { 0 = d }) t).0 +ℤ by.0 }, record { corrected = c; sum = refl })
correction_by {s} {hs} {t} d {cycle} other c =
    inr (λ h. let one = one_outcome s hs (record { 0 = d }) t cycle h.0 _ (Corrected h.1) c h.3.corrected in cc)

pub corrected_decided : (s : Scenario) (hs : List Happening) (t : ℕ) (ks : List ℕ) → IsDecided (HasCaused s hs t 6 ks)
corrected_decided s hs t ks =
    by_one s hs t 6 (HasCorrection s hs t) (λ d h. caused s hs t (notes.Corrected (record { 0 = d }) h.0 h.1 h.2) h.3) says
    (λ d. decided_within (point_decided s hs (record { 0 = d }) t) (λ p. correction_by d p.1 p.2)
    (λ h. (h.0, Corrected h.1, h.3.corrected))) ks
  where
    says : (body : NoteBody) → IsCaused s hs (units_of t) body → rank body ≡ 6 → OfOne (HasCorrection s hs t) (key (members_by s hs body) body)
    says (notes.Corrected device cycle by adjustment) is ranked = (cycle, by, adjustment, is)
    says other is ranked = absurd (omega arith)

-- ---- decisions: whether the record of an event, or of a device's clock at the end, is due: an event

-- the line has an event of this time
abbrev HasEvent : Scenario → ℕ → ℕ → Type 0
HasEvent s t line = (what : What) × IsEventRecord s.events (units_of t) line what

at_line : (s : Scenario) (t line : ℕ) → IsDecided (HasEvent s t line)
at_line s t zero = inr (λ h. let is = h.1.line_is in absurd (omega arith))
at_line s t (suc n) =
    decided_in (slice_get s.events n)
    (λ event e. decided_by (there event e) (back event e) (same_int (pos t) event.time.0))
    (λ h. (h.1.event, here h))
  where
    here : (h : HasEvent s t (suc n)) → slice_get s.events n ≡ Some h.1.event
    here h =
        let is = h.1.line_is in
        let same : h.1.before ≡ n = omega arith in
        rw same at h.1.is

    there : (event : Event) → slice_get s.events n ≡ Some event → pos t ≡ event.time.0 → HasEvent s t (suc n)
    there event e at = (
      event.what,
      record {
        event = event;
        before = n;
        line_is = omega arith;
        is = e;
        at = rw at;
        same = refl;
      },
    )

    back : (event : Event) → slice_get s.events n ≡ Some event → HasEvent s t (suc n) → pos t ≡ event.time.0
    back event e h = ap (λ u. u.0) h.1.at ∙ ap (λ (x : Event). x.time.0)
        (one (slice_get s.events n) h.1.event event (here h) e)

pub event_decided : (s : Scenario) (hs : List Happening) (t : ℕ) (ks : List ℕ) → IsDecided (HasCaused s hs t 1 ks)
event_decided s hs t ks = by_one s hs t 1 (HasEvent s t) (λ line h. caused s hs t (notes.Event line h.0) h.1) says (at_line s t) ks
  where
    says : (body : NoteBody) → IsCaused s hs (units_of t) body → rank body ≡ 1 → OfOne (HasEvent s t) (key (members_by s hs body) body)
    says (notes.Event line what) is ranked = (what, is)
    says other is ranked = absurd (omega arith)

-- ---- a clock at the end

pub is_end : (what : What) → IsDecided (what ≡ End)
is_end End = inl refl
is_end other = inr (λ e. cc)

end_at : (t : ℕ) → Event
end_at t = record { time = units_of t; what = End }

same_end : (t : ℕ) (event : Event) → IsDecided (event ≡ end_at t)
unfolding end_at
same_end t event = grind (arith, decided_by, decided_and, same_int, is_end)

ends_at : (events : List Event) (t : ℕ) → IsDecided (EndsAt events (units_of t))
unfolding end_at
ends_at events t = decided_by there back (decided_any (λ event. event ≡ end_at t) (same_end t) events)
  where
    there : Any (λ event. event ≡ end_at t) events → EndsAt events (units_of t)
    there (k, event, lt, at, same) = (k, lt, rw same at at)

    back : EndsAt events (units_of t) → Any (λ event. event ≡ end_at t) events
    back (k, lt, at) = (k, end_at t, lt, at, refl)

-- the time is that of the end, and the device is one of the network
abbrev HasClock : Scenario → List Happening → ℕ → ℕ → Type 0
HasClock s hs t d = (reading : Units) × (adjustment : Units) × (state : State) × IsClockRecord s hs (record { 0 = d }) (units_of t) reading adjustment state

clock : (s : Scenario) (hs : List Happening) (t d : ℕ) → IsDecided (HasClock s hs t d)
clock s hs t d =
    decided_in (slice_get s.network.device d) (λ device e. decided_by
    (λ ends. shown device e ends) (λ h. h.3.ends) (ends_at s.events t)) (λ h. (h.3.is, h.3.there))
  where
    shown : (device : Device) → slice_get s.network.device d ≡ Some device → EndsAt s.events (units_of t) → HasClock s hs t d
    shown device e ends = (
      units_of (s.reading (record { 0 = d }) t),
      adjustment_after s (up_to t hs) (record { 0 = d }),
      state_after s (up_to t hs) (record { 0 = d }),
      record { is = device; there = e; ends = ends; reads = refl; adjusted = refl; in_state = refl },
    )

pub clock_decided : (s : Scenario) (hs : List Happening) (t : ℕ) (ks : List ℕ) → IsDecided (HasCaused s hs t 14 ks)
clock_decided s hs t ks =
    by_one s hs t 14 (HasClock s hs t) (λ d h. caused s hs t (notes.Clock (record { 0 = d }) h.0 h.1 h.2) h.3) says (clock s hs t) ks
  where
    says : (body : NoteBody) → IsCaused s hs (units_of t) body → rank body ≡ 14 → OfOne (HasClock s hs t) (key (members_by s hs body) body)
    says (notes.Clock device reading adjustment state) is ranked = (reading, adjustment, state, is)
    says other is ranked = absurd (omega arith)
