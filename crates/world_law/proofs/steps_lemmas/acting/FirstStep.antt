-- The step by which a joiner has its first correction, and has the common time from then on.
use Rattle.world_law.proofs.putting.{Near.frames_aside, Placing.{IsShownPair, causes_given, change_of, pair_put}}
use Rattle.world_law.proofs.putting.{Putting.{IsPair, two_by}}
use Rattle.world_law.proofs.steps_lemmas.acting.{CorrectSteps.{IsCorrecting, corrected_worked}, Correcting.joiner_over}
use Rattle.world_law.proofs.steps_lemmas.acting.{Kept.{bare_act, frames_put, kept_over, out_by_acts, ready_after}}
use Rattle.world_law.proofs.steps_lemmas.acting.{Over.IsOver, Work.{all_earlier, at_correction}}
use Rattle.world_law.proofs.steps_lemmas.acting.OneAct.{StageAt, as_put, fresh_above, no_row_of, one_caused, taken_then}
use Rattle.world_law.proofs.steps_lemmas.acting.Points.{IsCorrectedSo, IsGrown, all_point, at_point, corrected_cause}
use Rattle.world_law.proofs.steps_lemmas.acting.Points.{grown_more, grown_one, no_frames, none_at_point, not_on}
use Rattle.world_law.proofs.steps_lemmas.Words.{StandsHere, IsSource}
use Rattle.world_law.proofs.steps_lemmas.Words.{◌++◌, ◌+ℤ◌, ◌+◌, ◌<◌, ◌∙◌, ◌∷◌, ◌≡◌, ◌≤◌, ◌⊎◌, ChangesState, Corrected, DeviceId, Happening}
use Rattle.world_law.proofs.steps_lemmas.Words.{HasCleared, IsActing, IsAllOfIt, IsCaused, IsIn, IsKept, IsNoTaking}
use Rattle.world_law.proofs.steps_lemmas.Words.{IsOfThisTime, IsOwnSource, IsSet, Joining, List, Network, Node, Note, NoteBody, Scenario, Some}
use Rattle.world_law.proofs.steps_lemmas.Words.{Stands, StandsBehind, State, Synchronised, Units, World, [], ap}
use Rattle.world_law.proofs.steps_lemmas.Words.{arith, bears_on, behind, both_ways, correcting, doing, false, frames_taken}
use Rattle.world_law.proofs.steps_lemmas.Words.{happenings, held_aside, in_left, in_parts, inl, inr}
use Rattle.world_law.proofs.steps_lemmas.Words.{is_turned_on_at, known_aside, length}
use Rattle.world_law.proofs.steps_lemmas.Words.{moment_of, moves_no_other, ne_eqb, none_in, numbers_end, place_of}
use Rattle.world_law.proofs.steps_lemmas.Words.{point_number, rank, record_of, refl}
use Rattle.world_law.proofs.steps_lemmas.Words.{Why, put_length, subst, sym, time_of, two_shown, units_of}
use Rattle.world_law.proofs.steps_lemmas.Words.{ℕ, acts_on, devices_then}
use Rattle.run_law.specs.records.Causes.{device_of}
use Rattle.world_law.proofs.steps_lemmas.Words.{changed_at, rows_place, second}
use Rattle.run_law.specs.declared.judgement.Why.TheVariants as whys
use Rattle.run_law.specs.declared.note.NoteBody.TheVariants as kinds
use Rattle.run_law.specs.declared.steps.Act.TheVariants as acts

-- ---- two records are put in, the second a change of state that follows the first

-- the first record is that of the device's act at this place, and the second follows it
pub record IsActPair (s : Scenario) (hs mid : List Happening) (now r : ℕ) (more : List ℕ) (device : DeviceId)
    (body : NoteBody) (state : State)
    (why : Why) : Type 0 where
  pub own : (m : ℕ) → IsOwnSource s (hs ++ []) now m body (now ∷ r ∷ more)
  pub here : IsSource s (hs ++ []) (now ∷ r ∷ more)
  pub caused : IsCaused s (hs ++ []) (units_of now) body
  pub stands : place_of (record_of s.network hs [] now body) ≡ now ∷ r ∷ more
  pub acts : 6 ≡ r → now ∷ r ∷ more ≡ rows_place now device
  pub apart : (other : DeviceId) → (other.0 ≡ device.0 → ⊥) → (bears_on other body ≡ false) × IsNoTaking other body
  pub of_it : device_of body ≡ Some device
  pub follows : (why ≡ whys.Frame) ⊎ (why ≡ whys.Correction)
  pub changes : IsOfThisTime (hs ++ record_of s.network hs [] now body ∷ mid) now (length hs + 1)
      (record_of s.network hs [] now body)
      → ChangesState s (hs ++ record_of s.network hs [] now body ∷ mid) device now state (length hs + 1) why

pub two_go_by : {C M : Type 0} {reading : C → ℕ → ℕ} {stands : M → Network → DeviceId → Node → Type 0} {s : Scenario}
    {world : World C M} {notes : List Note} {device : DeviceId} {machine after : M} {node : Node} {machines : List M}
    {settled : List Happening} {body : NoteBody} {state : State} {why : Why} {r : ℕ} {more : List ℕ}
    (c : StandsHere reading stands s world notes r more) → StageAt stands s
    (happenings s.network notes) world.settled world.now device machine node r more
    → (q : IsShownPair s.network (happenings s.network notes) world.now body device state why world.settled settled)
    → length notes + length world.settled + 2 < numbers_end
    → IsActPair s (happenings s.network notes) q.mid world.now r more device body state why
    → IsAllOfIt s (happenings s.network notes)
    (pair_put s.network (happenings s.network notes) world.now body q.mid device state why q.back)
    (world.now ∷ r ∷ more)
    → IsKept stands s (happenings s.network notes)
    (pair_put s.network (happenings s.network notes) world.now body q.mid device state why q.back)
    (behind (world.now ∷ r ∷ more)) world.now device after
    → IsSet device.0 after world.machines machines
    → StandsBehind reading stands s (record world { early = false; machines = machines; settled = settled }) notes
    (world.now ∷ r ∷ more)
two_go_by {C} {M} {reading} {stands} {s} {world} {notes} {device} {machine} {after} {node} {machines} {settled} {body} {state} {why} {r} {more} c st q room a all kept set =
    let hs = happenings s.network notes in
    let now = world.now in
    let coming = world.settled in
    let w = record_of s.network hs [] now body in
    let v = change_of s.network hs now body q.mid device state why in
    let here = now ∷ r ∷ more in
    let high = st.late in
    let low = st.low in
    let ranks : rank body ≡ r = ap second a.stands in
    let pair : IsPair s r more q = record {
      one = one_caused [] coming st
          (λ z i. absurd i) q.first a.caused a.own a.here
          (fresh_above [] coming st w (omega arith));
      no_event = λ one. omega arith;
      low = low;
      acts = a.acts;
      is_of = a.of_it;
      follows = a.follows;
      changes = a.changes;
    } in
    let long = put_length (w ∷ q.mid) q.back v in
    let between : length coming ≡ length (q.mid ++ q.back) = ap length q.parts in
    let one_more : length ((w ∷ q.mid) ++ q.back) ≡ length (q.mid ++ q.back) + 1 = omega arith in
    let apart_v : (other : DeviceId) → (other.0 ≡ device.0 → ⊥) → bears_on other v.note.body ≡ false = λ other not. ne_eqb other.0 device.0 not in
    rw q.shows (acts_on c high low (omega arith) (two_by pair all)
    (known_aside hs (w ∷ q.mid) q.back v (λ other le. moves_no_other other v.note.body
    (apart_v other (λ e. let lt = st.of_it in omega arith)))
    (rw q.parts at (known_aside hs [] coming w (λ other le. no_row_of s device other body st.of_it a.apart le)
    c.old.known)))
    (devices_then c device (λ other not task same. not (st.own other task same)) set (inl kept)
    (λ other m not held.
    let y = a.apart other not in
    held_aside s hs (w ∷ q.mid) q.back v other (apart_v other not) refl
    (frames_aside s hs (w ∷ q.mid) q.back v other (apart_v other not) (λ at. refl))
    (rw q.parts at (held_aside s hs [] coming w other y.0 refl (frames_aside s hs [] coming w other y.0 y.1) held)))))

-- ---- a joiner's first correction

pub first_goes_by : {C M : Type 0} {reading : C → ℕ → ℕ} {stands : M → Network → DeviceId → Node → Type 0}
    {s : Scenario} {world : World C M} {notes : List Note} {old : Stands reading stands s world notes}
    {device : DeviceId} {machine after : M} {cycle : ℕ} {by : Units} {adjustment : Units} {machines : List M}
    {settled : List Happening} → IsCorrecting reading stands s world notes old device machine after cycle
    (Corrected by) Joining adjustment machines settled → StandsBehind reading stands s
    (record world { early = false; machines = machines; settled = settled }) notes
    (rows_place world.now device)
first_goes_by {reading} {stands} {s} {world} {notes} {old} {device} {machine} {after} {cycle} {by} {adjustment}
    {settled} x =
    let hs = happenings s.network notes in
    let now = world.now in
    let on = x.on in
    let node = on.node in
    let st = on.st in
    let act = on.did in
    let first = act.1.0 in
    let heard = act.1.1.0 in
    let is = act.1.1.2 in
    let point_is = point_number node.standing.state node.standing.number cycle first.pending.1.own in
    let joining : node.standing.state ≡ Joining = sym (x.stood node st.is).0 in
    let sum : adjustment ≡ act.0.standing.adjustment = (x.stands_then act.0 act.2).1 in
    let sum_is : adjustment.0 ≡ (node.standing.adjustment.0 +ℤ by.0) = rw sum (rw is) in
    let off = not_on st.work point_is.0 in
    let point = at_point s now cycle first act.1.1.1 in
    let ready = ready_after s act.0 (acts.Correct cycle (Corrected by)) st.work.ready st.steady st.precise st.wide
    on.may act.1
    (rw is) in
    let body = kinds.Corrected device cycle by adjustment in
    let q : IsShownPair s.network hs now body device Synchronised whys.Correction world.settled settled =
    rw x.put.2.2 (two_shown s.network hs now body device Synchronised whys.Correction (omega arith) (omega arith)
    st.moving.are.after (causes_given st.moving (omega arith)) x.put.1 x.put.2.1) in
    let w = record_of s.network hs [] now body in
    let v = change_of s.network hs now body q.mid device Synchronised whys.Correction in
    let new = pair_put s.network hs now body q.mid device Synchronised whys.Correction q.back in
    let st3 : StageAt stands s hs (q.mid ++ q.back) now device machine node 6 (device.0 ∷ []) =
    rw q.parts at st in
    let so : IsCorrectedSo s device (now + 1) node w cycle by adjustment (moment_of s device now) = record {
      body = refl;
      before = omega arith;
      timed = point_is.0;
      number = point_is.1;
      sum = sym sum_is;
      reads = refl;
    } in
    let quiet = no_frames s now cycle first.pending.0 point in
    let over : IsOver s (hs ++ new) now device act.0 = rw is
    (joiner_over [] q.mid q.back v (length hs + 1) heard st3.work off st.calm.off
    st.calm.broken refl (rw q.parts at q.first) so joining refl
    (omega arith) quiet) in
    let cleared : HasCleared act.0 = subst HasCleared (sym is) (λ m there. absurd (none_in (correcting m) there)) in
    let six : 5 ≤ rank w.note.body = omega arith in
    let g1 : IsGrown s hs world.settled (w ∷ world.settled) now device =
    grown_one [] world.settled st.work (as_put now w refl (omega arith)) six in
    let g2 : IsGrown s hs world.settled new now device = grown_more (w ∷ q.mid) q.back
    (rw (sym q.parts) g1)
    (as_put now v refl (omega arith)) (omega arith) in
    let mid_now : (z : Happening) → IsIn z (w ∷ q.mid) → time_of z ≡ now = λ z i.
    g1.of_now z (rw q.parts (in_left z (w ∷ q.mid) q.back i)) in
    let due = corrected_cause hs [] world.settled by
    adjustment st point sum_is q.first in
    two_go_by on.here st q on.room
    (record {
      own = λ m. refl;
      here = IsSource.acting now device (doing (correcting cycle))
          (IsActing.corrects cycle (at_correction [] cycle st.work (λ z i. absurd i) point.pending point.due));
      caused = due;
      stands = refl;
      acts = λ six. refl;
      apart = λ other not. (ne_eqb other.0 device.0 not, λ at. refl);
      of_it = refl;
      follows = inr refl;
      changes = λ there.
          let same = all_earlier s hs (w ∷ q.mid) world.settled now mid_now (λ z i. (st.work.of_now z i).0) in (
            refl,
            rw same (sym st.work.left.state ∙ joining),
            (cycle, by, adjustment, w, there, refl),
          );
    })
    (all_point st.work point g2 (w, inl refl, refl))
    (kept_over stands {hs = hs} {new = new} {frontier = behind (rows_place now device)} after act.2 st.work.sound over
    ready cleared
    (rw is (taken_then [] world.settled w st refl
    (λ at. refl) ∙ ap (λ (l : List Happening). frames_taken s (hs ++ w ∷ l) device) q.parts
    ∙ frames_put s hs (w ∷ q.mid) q.back now v device
    (λ h i. elim (in_parts h hs (w ∷ (q.mid ++ q.back)) i) [
      | inl given ↦ st.work.past h (in_left h hs world.settled given)
      | inr come ↦ let at = g1.of_now h (rw q.parts come) in omega arith
    ]) refl (λ at. refl)))
    (bare_act s.network device node (moment_of s device now) (acts.Correct cycle (Corrected by)) act.0 act.1 st.bare)
    (λ on. absurd (both_ways (is_turned_on_at s device now) off on)) (rw is)
    st.calm.falls (corrected_worked heard by (changed_at (hs ++ new) device (now + 1)) st is) st.reach
    (inl (out_by_acts s hs now device
    (none_at_point cycle old.range old.rules st.steady st.work point.pending point.due)))) x.set
