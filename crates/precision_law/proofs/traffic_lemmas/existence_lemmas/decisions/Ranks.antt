-- It is decided whether a record is due at a place, that of a new state too.
use Rattle.std.proofs.{Common.{◌<◌, ◌∷◌, ◌≡◌, ◌≤◌, ◌⊎◌, List, [], arith, false, inl, inr, refl, subst, sym, true, ℕ}}
use Rattle.std.proofs.{lemmas.Bool.cases_eq}
use Rattle.net_plan.specs.declared.{event.What.TheVariants.On, ids.DeviceId.DeviceId}
use Rattle.precision_law.proofs.traffic_lemmas.existence_lemmas.{Sweep.HasDue}
use Rattle.precision_law.proofs.traffic_lemmas.existence_lemmas.decisions.Changes
use Changes.{clock_decided, corrected_decided, event_decided, one_outcome, point_decided}
use Rattle.precision_law.proofs.traffic_lemmas.existence_lemmas.decisions.Dispatches
use Dispatches.{drop_decided, left_decided, lost_decided, sent_decided, tt_sent_decided}
use Rattle.precision_law.proofs.traffic_lemmas.existence_lemmas.decisions.Places
use Places.{HasCaused, OfTwo, accepted_decided, arrived_decided, by_two, cause_decided, caused, compressed_decided}
use Places.{decided_within, delivered_decided, due_decided, is_joining, members_by, permanent_decided}
use Rattle.run_law.proofs.scenario.Decisions
use Decisions.{IsDecided, decided_and, decided_by, decided_false, decided_or, decided_same, decided_true, same_device}
use Rattle.run_law.specs.{control.Corrections.ComesToCorrection, declared.{judgement.Why.Why, note.NoteBody.NoteBody}}
use Rattle.run_law.specs.{device.{StateChanges.ChangesState, States.{is_joined_by, state_before}}}
use Rattle.run_law.specs.{records.{Causes.IsOfThisTime, Happenings.Happening, Ranks.{key, place_of, rank}}}
use Rattle.run_law.specs.{runs.DueRecords.{IsCaused, IsDue}, scenario.Scenarios.{Scenario, is_broken}}
use Rattle.sync_state.specs.declared.{answers.Verdict.{TheVariants.{AsyncClique, SyncClique}, Verdict}}
use Rattle.sync_state.specs.declared.{state.State.{State, TheVariants.{Integrating, Joining, Synchronised}}}
use Rattle.tte_units.specs.{Amount.{amount, units_of}, declared.units.Units.Units}
use Rattle.run_law.specs.declared.judgement.Why.TheVariants as whys
use Rattle.run_law.specs.declared.note.NoteBody.TheVariants as notes

-- ---- decisions: whether the record of a device's new state is due: the records that change a state

-- the record turns the device on
abbrev TurnsOn : DeviceId → Happening → Type 0
TurnsOn device h = (line : ℕ) × (h.note.body ≡ notes.Event line (On device))

turns_on : (device : DeviceId) (body : NoteBody) → IsDecided ((line : ℕ) × (body ≡ notes.Event line (On device)))
turns_on device (notes.Event line (On other)) =
    decided_by (λ e. (line, rw e)) (λ h. cc) (same_device other device)
turns_on device other = inr (λ h. cc)

-- the record corrects the device's clock
abbrev Corrects : DeviceId → Happening → Type 0
Corrects device h = (cycle : ℕ) × (by : Units) × (adjustment : Units) × (h.note.body ≡ notes.Corrected device cycle by adjustment)

corrects : (device : DeviceId) (body : NoteBody)
    → IsDecided ((cycle : ℕ) × (by : Units) × (adjustment : Units) × (body ≡ notes.Corrected device cycle by adjustment))
corrects device (notes.Corrected other cycle by adjustment) =
    decided_by (λ e. (cycle, by, adjustment, rw e))
    (λ h. cc) (same_device other device)
corrects device other = inr (λ h. cc)

-- ---- the ways to a new state

module _ (s : Scenario) (hs : List Happening) (t d cause : ℕ) where
  abbrev device : DeviceId
  device = record { 0 = d }

  abbrev IsTurnedOn : Type 0
  IsTurnedOn = (is_broken s device t ≡ false) × ((h : Happening) × IsOfThisTime hs t cause h × TurnsOn device h)

  abbrev IsToldTime : Type 0
  IsToldTime = (h : Happening) × IsOfThisTime hs t cause h × (is_joined_by device h.note.body ≡ true)

  abbrev IsFirstCorrected : Type 0
  IsFirstCorrected = (state_before s hs device t ≡ Joining) × ((h : Happening) × IsOfThisTime hs t cause h × Corrects device h)

  -- a correction point comes to the clique, which has no cause in the report
  abbrev IsInClique : Verdict → Type 0
  IsInClique verdict = (cause ≡ 0) × ((cycle : ℕ) × ComesToCorrection s hs device t cycle verdict)

  abbrev IsOneOfThese : Type 0
  IsOneOfThese = IsTurnedOn ⊎ (IsToldTime ⊎ (IsFirstCorrected ⊎ (IsInClique SyncClique ⊎ IsInClique AsyncClique)))

  abbrev HasState : Type 0
  HasState = (state : State) × (why : Why) × ChangesState s hs device t state cause why

  there : IsOneOfThese → HasState
  there (inl h) = (Integrating, whys.On, (refl, h.0, (h.1.2.0, h.1.0, h.1.1, h.1.2.1)))
  there (inr (inl h)) = (Joining, whys.Frame, (refl, h))
  there (inr (inr (inl h))) = (Synchronised, whys.Correction, (refl, h.0, (h.1.2.0, h.1.2.1, h.1.2.2, h.1.0, h.1.1, h.1.2.3)))
  there (inr (inr (inr (inl h)))) = (Integrating, whys.SyncClique, (refl, h.0, h.1))
  there (inr (inr (inr (inr h)))) = (Integrating, whys.AsyncClique, (refl, h.0, h.1))

  back : (state : State) (why : Why) → ChangesState s hs device t state cause why → IsOneOfThese
  back state whys.On c = inl (c.1, (c.2.1, c.2.2, (c.2.0, c.2.3)))
  back state whys.Frame c = inr (inl c.1)
  back state whys.Correction c = inr (inr (inl (c.1, (c.2.3, c.2.4, (c.2.0, c.2.1, c.2.2, c.2.5)))))
  back state whys.SyncClique c = inr (inr (inr (inl (c.1, c.2))))
  back state whys.AsyncClique c = inr (inr (inr (inr (c.1, c.2))))

  sync_clique : IsDecided ((cycle : ℕ) × ComesToCorrection s hs device t cycle SyncClique)
  sync_clique = decided_within (point_decided s hs device t) (λ p. by p.0 p.1 p.2) (λ h. (h.0, SyncClique, h.1))
    where
      by : (cycle : ℕ) (v : Verdict) → ComesToCorrection s hs device t cycle v → IsDecided ((n : ℕ) × ComesToCorrection s hs device t n SyncClique)
      by cycle SyncClique c = inl (cycle, c)
      by cycle other c = inr (λ h. let one = one_outcome s hs device t cycle h.0 _ SyncClique c h.1 in cc)

  async_clique : IsDecided ((cycle : ℕ) × ComesToCorrection s hs device t cycle AsyncClique)
  async_clique = decided_within (point_decided s hs device t) (λ p. by p.0 p.1 p.2) (λ h. (h.0, AsyncClique, h.1))
    where
      by : (cycle : ℕ) (v : Verdict) → ComesToCorrection s hs device t cycle v → IsDecided ((n : ℕ) × ComesToCorrection s hs device t n AsyncClique)
      by cycle AsyncClique c = inl (cycle, c)
      by cycle other c = inr (λ h. let one = one_outcome s hs device t cycle h.0 _ AsyncClique c h.1 in cc)

  new_state : IsDecided HasState
  new_state =
      decided_by there (λ h. back h.0 h.1 h.2)
      (decided_or (decided_and (decided_false (is_broken s device t)) (cause_decided hs t cause (TurnsOn device) (λ h. turns_on device h.note.body)))
      (decided_or (cause_decided hs t cause (λ h. is_joined_by device h.note.body ≡ true) (λ h. decided_true (is_joined_by device h.note.body)))
      (decided_or (decided_and (is_joining (state_before s hs device t)) (cause_decided hs t cause (Corrects device) (λ h. corrects device h.note.body)))
      (decided_or (decided_and (decided_same cause 0) sync_clique) (decided_and (decided_same cause 0) async_clique)))))

pub state_decided : (s : Scenario) (hs : List Happening) (t : ℕ) (ks : List ℕ) → IsDecided (HasCaused s hs t 7 ks)
state_decided s hs t ks =
    by_two s hs t 7 (HasState s hs t) (λ d cause h. caused s hs t (notes.State (record { 0 = d }) h.0 cause h.1) h.2) says (new_state s hs t) ks
  where
    says : (body : NoteBody) → IsCaused s hs (units_of t) body → rank body ≡ 7 → OfTwo (HasState s hs t) (key (members_by s hs body) body)
    says (notes.State device state cause why) is ranked = (state, why, is)
    says other is ranked = absurd (omega arith)

-- ---- it is decided whether a record is due at a place

-- the ranks are those from 1 to 14
pub record IsRank (r : ℕ) : Type 0 where
  pub least : 1 ≤ r
  pub below : r < 15

pub is_rank : (body : NoteBody) → IsRank (rank body)
is_rank (notes.Event line what) = record { least = omega arith; below = omega arith }
is_rank other = record { least = omega arith; below = omega arith }

module _ (s : Scenario) (hs : List Happening) (t : ℕ) (ks : List ℕ) where
  abbrev AtRank : ℕ → Type 0
  AtRank r = IsDecided (HasCaused s hs t r ks)

  -- by this rank, or by those above it
  at_rank : (r k : ℕ) → AtRank k → k ≤ r → (k < r → AtRank r) → AtRank r
  at_rank r k here from above =
      elim (cases_eq r k) [
        | inl same ↦ subst AtRank (sym same) here
        | inr other ↦ above (omega arith)
      ]

  no_rank : (r : ℕ) → (IsRank r → ⊥) → AtRank r
  no_rank r none = inr (λ has. none (subst IsRank has.1.ranked (is_rank has.0)))

  by_rank : 1 ≤ amount s.network.cycle → (r : ℕ) → AtRank r
  by_rank some r =
      elim (cases_eq r 0) [
        | inl zeroth ↦ no_rank r (λ is. let least = is.least in omega arith)
        | inr other ↦
            at_rank r 1 (event_decided s hs t ks) (omega arith)
            (λ a. at_rank r 2 (arrived_decided s hs t ks) (omega arith)
            (λ b. at_rank r 3 (permanent_decided s hs t ks) (omega arith)
            (λ c. at_rank r 4 (compressed_decided s hs t ks) (omega arith)
            (λ d. at_rank r 5 (sent_decided s hs t ks) (omega arith)
            (λ e. at_rank r 6 (corrected_decided s hs t ks) (omega arith)
            (λ f. at_rank r 7 (state_decided s hs t ks) (omega arith)
            (λ g. at_rank r 8 (left_decided s hs t ks) (omega arith)
            (λ h. at_rank r 9 (lost_decided s some hs t ks) (omega arith)
            (λ i. at_rank r 10 (tt_sent_decided s hs t ks) (omega arith)
            (λ j. at_rank r 11 (accepted_decided s hs t ks) (omega arith)
            (λ k. at_rank r 12 (delivered_decided s hs t ks) (omega arith)
            (λ l. at_rank r 13 (drop_decided s hs t ks) (omega arith)
            (λ m. at_rank r 14 (clock_decided s hs t ks) (omega arith)
            (λ n. no_rank r (λ is. let below = is.below in omega arith)))))))))))))))
      ]

pub place_decided : (s : Scenario) → 1 ≤ amount s.network.cycle → (hs : List Happening) (p : List ℕ) → IsDecided (HasDue place_of (IsDue s) hs p)
place_decided s some hs [] = inr (λ has. cc)
place_decided s some hs (t ∷ []) = inr (λ has. cc)
place_decided s some hs (t ∷ r ∷ ks) = due_decided s hs t r ks (by_rank s hs t ks some r)
