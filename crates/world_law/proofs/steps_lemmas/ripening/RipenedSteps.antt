-- A frame that waits is permanent: its machine is asked, and one record comes of it.
use Rattle.net_plan.specs.Ranges.{IsLinkInRange}
use Rattle.run_law.{specs.{control.Permanence.BecomesPermanent, records.Happenings.frame_from}}
use Rattle.run_law.proofs.control.Verdicts.{never_dropped}
use Rattle.world_law.proofs.{frames.Proper.{IsReceiver, of_master, received}, giving.GivenParts.up_to_place}
use Rattle.world_law.proofs.{putting.{Moving.{StandsHere, shown_still, stays}, Near.{frames_aside, placed_back}}}
use Rattle.world_law.proofs.steps_lemmas.ripening.Answered.{IsAsked, answered, dropped_kept, high_now, joined_kept}
use Rattle.world_law.proofs.steps_lemmas.ripening.Answered.{may_be_asked, not_before_high, placed_high, quiet_kept}
use Rattle.world_law.proofs.steps_lemmas.ripening.Ripens.{IsByRole, IsRipe, come_of, permanent_at, reach_by, reach_now}
use Rattle.world_law.proofs.steps_lemmas.ripening.Ripens.{ripe_more, ripening_at}
use Rattle.run_law.proofs.{runs.{Determined.same_units, SameSteps.{no_launch, same_ripening}}}
use Rattle.tte_units.proofs.general_lemmas.Lists.{in_all}
use Rattle.world_law.{specs.{source.Sources.IsRipening, steps.Ripening.{HasRipened, ripe_bodies}}}
use Rattle.world_law.proofs.putting.{Placing.{causes_given, change_of, pair_put, same_record}, Putting.{IsPair, two_by}}
use Rattle.world_law.proofs.steps_lemmas.Words
use Words.{◌++◌, ◌+◌, ◌<◌, ◌∙◌, ◌∷◌, ◌≡◌, ◌≤ℤ◌, ◌≤◌, ◌⊎◌, AreOfNetwork, ArePutIn, AreSettled, AreWaiting, Bool}
use Words.{ComesFirst, DeviceId, Down, Happening, IsAllOfIt, IsBefore, IsDue, IsFounded, IsHeld, IsIn, IsInRange}
use Words.{IsKept, IsNoTaking, IsOfMaster, IsOne, IsOwnSource, IsParentOf, IsPermanenceOutcomeAt, IsPermanent, IsSet}
use Words.{IsSource, IsUnfollowed, IsWaitingFor, IsWithout, Joining, Judgement, LinkId, List, Network, Node, Note}
use Words.{NoteBody, Pcf, Reason, Ripe, Scenario, Some, Stands, StandsBehind, Units, Up, Waiting, Way, World, []}
use Words.{amount, ap, are_past, arith, bears_on, before_behind, behind, both_ways, comes_first, devices_then, due_of}
use Words.{eq-eqb, false, happenings, held_aside, in_left, in_right, inl, inr, is_broken, is_cm, is_last, key}
use Words.{known_aside, last_unfollowed, length, length_is, members_in, moment_of, moves_no_other, ne_eqb, never_self}
use Words.{no_higher, no_task_at, numbered_front, numbered_in, numbered_within, numbers_end, one_by, one_shown, parted}
use Words.{place_of, ports_still, pos, put_length, rank, record_of, refl, ripe_as, ripe_place, settled_as, slice_get}
use Words.{some_same, stands_on, subst, sym, time_of, true, two_shown, wires_still, ℕ}
use Rattle.world_law.proofs.steps_lemmas.ripening.{Judged.{Hears, IsKindOf, becomes_now, outcome_kind}}
use Rattle.run_law.specs.declared.judgement.Judgement.TheVariants as judgements
use Rattle.run_law.specs.declared.judgement.Why.TheVariants as whys
use Rattle.run_law.specs.declared.note.NoteBody.TheVariants as kinds
use Rattle.run_law.specs.declared.steps.Ripe.TheVariants as ripe

-- ---- what comes of the source of a frame that is permanent: one record, at its place

-- ---- the kinds of record that have such a source

record IsOwnPermanent (t m : ℕ) (body : NoteBody) (here : List ℕ) : Type 0 where
  pub device : DeviceId
  pub link : LinkId
  pub cause : ℕ
  pub point : Units
  pub verdict : Judgement
  pub is : body ≡ kinds.Permanent device link cause point verdict
  pub at : here ≡ t ∷ 3 ∷ device.0 ∷ amount point ∷ m ∷ link.0 ∷ cause ∷ []

record IsOwnDrop (s : Scenario) (js : List Happening) (t : ℕ) (body : NoteBody) (here : List ℕ) : Type 0 where
  pub device : DeviceId
  pub link : LinkId
  pub cause : ℕ
  pub reason : Reason
  pub is : body ≡ kinds.Dropped device link cause reason
  pub point : Units
  pub becomes : BecomesPermanent s js device t link cause point (ripe.Dropped reason)
  pub at : here ≡ t ∷ 3 ∷ device.0 ∷ amount point ∷ becomes.frame.members.0 ∷ link.0 ∷ cause ∷ []

pub rank_at : {now t k : ℕ} {more ws : List ℕ} → now ∷ 3 ∷ more ≡ t ∷ k ∷ ws → 3 ≡ k
rank_at e = cc

kind_at : (s : Scenario) (js : List Happening) (t m now : ℕ) (body : NoteBody) (more : List ℕ) → IsOwnSource s js t m body (now ∷ 3 ∷ more)
    → IsOwnPermanent t m body (now ∷ 3 ∷ more) ⊎ IsOwnDrop s js t body (now ∷ 3 ∷ more)
kind_at s js t m now (kinds.Permanent device link cause point verdict) more o =
    inl (record { device = device; link = link; cause = cause; point = point; verdict = verdict; is = refl; at = o })
kind_at s js t m now (kinds.Dropped device link cause reason) more (inr (inl o)) =
    inr (record { device = device; link = link; cause = cause; reason = reason; is = refl; point = o.0; becomes = o.1; at = o.2 })
kind_at s js t m now (kinds.Dropped device link cause reason) more (inl o) = absurd (grind arith)
kind_at s js t m now (kinds.Dropped device link cause reason) more (inr (inr o)) = absurd (grind arith)
kind_at s js t m now (kinds.State device state cause whys.SyncClique) more o = absurd (grind arith)
kind_at s js t m now other more o = absurd (grind arith)

-- ---- one thing becomes of it

pub record IsHere (now t : ℕ) (e : Waiting) (device : DeviceId) (link : LinkId) (cause : ℕ) : Type 0 where
  pub time : t ≡ now
  pub by : device ≡ e.device
  pub on : link ≡ e.link
  pub from : cause ≡ e.cause

is_here : (now t d a m l c : ℕ) (e : Waiting) (device : DeviceId) (link : LinkId) → device.0 ≡ d → link.0 ≡ l → now ∷ 3 ∷ ripe_more e ≡ t ∷ 3 ∷ d ∷ a ∷ m ∷ l
    ∷ c ∷ [] → IsHere now t e device link c
is_here now t d a m l c e device link dev of_link at = grind arith

moved_here : {s : Scenario} {js : List Happening} {now t : ℕ} {e : Waiting} {device : DeviceId} {link : LinkId}
    {cause : ℕ} {point : Units} {is : Ripe} → IsHere now t e device link cause
    → BecomesPermanent s js device t link cause point is → BecomesPermanent s js e.device now e.link e.cause point is
moved_here h b = grind arith

pub one_outcome : {s : Scenario} {hs coming : List Happening} (f : List Happening) {now t : ℕ}
    {e : Waiting} {node : Node} {device : DeviceId} {link : LinkId} {cause : ℕ} {point : Units} (is : Ripe)
    {other : Ripe} → IsRipe s hs coming now e → Hears s hs e.device now node
    → IsPermanenceOutcomeAt s.network e.device node e.frame e.point is
    → ((h : Happening) → IsIn h f → IsBefore (place_of h) (now ∷ 3 ∷ ripe_more e) → ⊥)
    → IsHere now t e device link cause → BecomesPermanent s (hs ++ f) device t link cause point other → other ≡ is
one_outcome {s} {hs} {coming} f {now} {e} {node} {point} is {other} r hears so after h b =
    same_ripening s (hs ++ f) now e.device e.link e.cause (moved_here h b)
    (becomes_now s hs coming f now e node is r after hears so)

-- ---- so its record is at the place

module _ {s : Scenario} {hs coming : List Happening} (coming2 : List Happening) {now : ℕ} {e : Waiting}
    {node : Node} where
  -- where it is permanent
  pub permanent_all : (w : Happening) (verdict : Judgement) → IsRipe s hs coming now e
      → Hears s hs e.device now node → IsPermanenceOutcomeAt s.network e.device node e.frame e.point
      (ripe_as verdict) → ((h : Happening) → IsIn h coming2 → IsBefore (place_of h) (now ∷ 3 ∷ ripe_more e) → ⊥)
      → (z : Happening) → IsIn z coming2 → place_of z ≡ now ∷ 3 ∷ ripe_more e
      → IsAllOfIt s hs coming2 (now ∷ 3 ∷ ripe_more e)
  permanent_all w verdict r hears so after z there at front back y whole before none due own =
      let inside : (h : Happening) → IsIn h front → IsBefore (place_of h) (now ∷ 3 ∷ ripe_more e) → ⊥ = λ h i.
      after h (rw whole (in_left h front back i)) in
      elim (kind_at s (hs ++ front) (time_of y) (members_in y) now y.note.body (ripe_more e) own) [
        | inl p ↦ (
          z,
          there,
          at ∙ p.at ∙ sym (rw p.is),
        )
        | inr d ↦
            let h = is_here now (time_of y) d.device.0 (amount d.point) d.becomes.frame.members.0 d.link.0 d.cause e
            d.device d.link refl refl d.at in
            absurd (never_dropped verdict d.reason
            (one_outcome front (ripe_as verdict) r hears so
            inside h d.becomes))
      ]

  -- where it is dropped
  pub dropped_all : (reason : Reason) → IsRipe s hs coming now e → Hears s hs e.device now node
      → IsPermanenceOutcomeAt s.network e.device node e.frame e.point (ripe.Dropped reason)
      → ((h : Happening) → IsIn h coming2 → IsBefore (place_of h) (now ∷ 3 ∷ ripe_more e) → ⊥) → (z : Happening)
      → IsIn z coming2 → place_of z ≡ now ∷ 13 ∷ e.device.0 ∷ e.link.0 ∷ e.cause ∷ []
      → IsAllOfIt s hs coming2 (now ∷ 3 ∷ ripe_more e)
  dropped_all reason r hears so after z there at front back y whole before none due own =
      grind (arith, place_of, ripe_more, in_left, kind_at, time_of, members_in, is_here, amount, rank, key, never_dropped, one_outcome, ripe_as)

-- ---- no other drop is there yet

place_drop : {t : ℕ} (m : ℕ) {now d l c : ℕ} (body : NoteBody) → now ∷ 13 ∷ d ∷ l ∷ c ∷ [] ≡ t ∷ rank body ∷ key m body
    → (other : DeviceId) × (link : LinkId) × (cause : ℕ)
    × (reason : Reason)
    × (body ≡ kinds.Dropped other link cause reason) × (other.0 ≡ d) × (link.0 ≡ l) × (cause ≡ c)
place_drop m (kinds.Dropped device link cause reason) e = (device, link, cause, reason, refl, cc, cc, cc)
place_drop m other e = absurd (grind arith)

same_place : {s : Scenario} {js : List Happening} {t : ℕ} {device : DeviceId} {link : LinkId} {cause : ℕ} {a b : Pcf}
    {p q : Units} → IsPermanent s js device t link cause a p → IsPermanent s js device t link cause b q
    → (a ≡ b) × (p ≡ q)
same_place x y = grind (arith, some_same)

-- a drop at the place of this frame's would come from this very source, which is not worked off
pub drop_fresh : {s : Scenario} {hs coming : List Happening} {now : ℕ} {e : Waiting}
    (r : IsRipe s hs coming now e) (permanent : (f : List Happening)
    → IsPermanent s (hs ++ f) e.device now e.link e.cause e.frame e.point) (y : Happening) → IsIn y coming
    → now ∷ 13 ∷ e.device.0 ∷ e.link.0 ∷ e.cause ∷ [] ≡ place_of y → ⊥
drop_fresh {s} {hs} {coming} {now} {e} r permanent y i at =
    search (arith, place_drop, parted, some_same, numbered_front, no_launch, same_place, never_self, no_higher)

-- ---- a frame that waits is permanent: the source is first

pub ripening_first : {C M : Type 0} {reading : C → ℕ → ℕ} {stands : M → Network → DeviceId → Node → Type 0}
    {s : Scenario} {world : World C M} {notes : List Note} (e : Waiting) {old : Stands reading stands s world notes}
    → IsIn e world.waiting → e.point.0 ≤ℤ pos (s.reading e.device world.now)
    → ComesFirst reading stands s world notes old (ripe_place world.now e)
    → StandsHere reading stands s world notes 3 (ripe_more e) × IsRipe s (happenings s.network notes) world.settled world.now e
ripening_first {s} {world} {notes} e {old} i reached first =
    let hs = happenings s.network notes in
    let now = world.now in
    let it = old.waiting.real e i in
    let past = (are_past old).past in
    let le = past it.arrival (numbered_in hs e.cause it.arrival it.there) in
    let sound = old.waiting.sound e i in
    let reach = reach_by old.frontier now it first.none (old.waiting.later e i) sound le reached in
    let c = comes_first old 3 (ripe_more e) (inr (refl, inl (omega arith))) refl
    (old.waiting.later e i now (ripening_at s hs e now it reach sound)) first in (
      c,
      record {
        moving = c.moving;
        run = c.run;
        past = past;
        befallen = c.befallen;
        range = old.range;
        steady = old.steady e.device;
        limit = old.limit;
        it = it;
        reached = reached;
        later = c.waiting.later e i;
        sound = sound;
      },
    )

-- ---- what waits then

same_places : {t u d e a b m n l k c f : ℕ} → t ∷ 3 ∷ d ∷ a ∷ m ∷ l ∷ c ∷ [] ≡ u ∷ 3 ∷ e ∷ b ∷ n ∷ k ∷ f ∷ [] → (t ≡ u) × (d ≡ e) × (l ≡ k) × (c ≡ f)
same_places same = (cc, cc, cc, cc)

-- a frame that waits at this very place is this one, by its number
ripens_too : {s : Scenario} {hs : List Happening} {now : ℕ} (e : Waiting) {f : Waiting}
    → IsPermanent s hs e.device now e.link e.cause e.frame e.point → IsWaitingFor s hs f
    → ripe_place now f ≡ ripe_place now e → IsRipening s hs now f.device f.link f.cause f.point
ripens_too {s} {hs} {now} e {f} p it at =
    let same = same_places at in
    let d = sym same.1 in
    let l = sym same.2 in
    let c = sym same.3 in
    let device : e.device ≡ f.device = rw d in
    let link : e.link ≡ f.link = rw l in
    let q : IsPermanent s hs f.device now f.link f.cause e.frame e.point = rw c at (rw link at (rw device at p)) in
    let arrival = some_same it.arrival q.arrival _ it.there q.there in
    let frame = some_same f.frame e.frame _ it.awaited.of_frame (rw arrival q.of_frame) in
    let bodies =
    sym it.awaited.arrived ∙ ap (λ h. h.note.body) arrival ∙ q.arrived in
    let clock : it.awaited.clock ≡ q.clock = cc in
    let point = same_units e.point f.point (q.at_point
    ∙ ap (λ h. Rattle.drift_clock.specs.transparent.Points.point_of (pos (s.reading f.device (time_of h))) q.clock s.network.dmax.0) (sym arrival)
    ∙ ap (λ n. Rattle.drift_clock.specs.transparent.Points.point_of (pos (s.reading f.device (time_of it.arrival))) n
    s.network.dmax.0) (sym clock)
    ∙ sym it.awaited.at_point) in
    record { frame = e.frame; permanent = rw point at q }

pub waiting_ripe : {s : Scenario} {hs coming : List Happening} {now : ℕ} {e : Waiting}
    {waiting : List Waiting} (new : List Waiting) → IsRipe s hs coming now e
    → AreWaiting s hs (now ∷ 3 ∷ ripe_more e) now waiting → IsWithout (ripe_place now) (ripe_place now e) waiting new
    → AreWaiting s hs (behind (now ∷ 3 ∷ ripe_more e)) now new
waiting_ripe {s} {hs} {now} {e} new r are without =
    let here = now ∷ 3 ∷ ripe_more e in
    let permanent = permanent_at s hs e now r.it (reach_now r) r.sound in
    record {
      real = λ f i. are.real f ((without f).0 i).0;
      later = λ f i t x b.
          let was = (without f).0 i in
          elim (up_to_place (ripe_place t f) here b) [
            | inr yet ↦ are.later f was.0 t x yet
            | inl place ↦
                let time : t ≡ now = (same_places place).0 in
                was.1 (rw time at place)
          ];
      sound = λ f i. are.sound f ((without f).0 i).0;
      all = λ f it sound not.
          (without f).1 (
            are.all f it sound (λ t x b. not t x (stays here (ripe_place t f) b)),
            λ at. not now (ripens_too e permanent it at)
                (subst (λ q. IsBefore q (behind here)) (sym at) (before_behind here)),
          );
    }

-- ---- the world stands behind it, with what is to come then

ripened_behind : {C M : Type 0} {reading : C → ℕ → ℕ} {stands : M → Network → DeviceId → Node → Type 0}
    {s : Scenario} {world : World C M} {notes : List Note} {e : Waiting} {after : M} {machines : List M}
    (waiting : List Waiting) {settled : List Happening} (c : StandsHere reading stands s world notes 3 (ripe_more e))
    → IsRipe s (happenings s.network notes) world.settled world.now e
    → IsSet e.device.0 after world.machines machines → IsWithout (ripe_place world.now)
    (ripe_place world.now e) world.waiting waiting → length notes + length settled < numbers_end
    → AreSettled s (happenings s.network notes) settled (world.now ∷ 3 ∷ ripe_more e)
    (behind (world.now ∷ 3 ∷ ripe_more e)) world.now
    → AreOfNetwork s (happenings s.network notes ++ settled) → IsKept stands s (happenings s.network notes) settled
    (behind (world.now ∷ 3 ∷ ripe_more e)) world.now e.device after
    → ((device : DeviceId) (machine : M) → (device.0 ≡ e.device.0 → ⊥)
    → IsHeld stands s (happenings s.network notes) world.settled (behind (world.now ∷ 3
    ∷ ripe_more e)) world.now device machine
    → IsHeld stands s (happenings s.network notes) settled (behind (world.now ∷ 3
    ∷ ripe_more e)) world.now device machine) → StandsBehind reading stands s
    (record world { early = false; machines = machines; waiting = waiting; settled = settled }) notes
    (ripe_place world.now e)
ripened_behind {stands} {s} {world} {notes} {e} {after} {machines} waiting {settled} c r set without room are known
    kept others =
    let more = ripe_more e in
    stands_on c machines world.shown room are known
    (devices_then c e.device (λ other not. no_task_at s.network world.now other 3 more (inl (omega arith))) set
    (inl kept)
    others)
    (wires_still c (λ two. omega arith)) (ports_still c (λ eight. omega arith))
    (waiting_ripe waiting r c.waiting without) (shown_still c (omega arith))

-- ---- its device is one of the network

-- a frame waits at a device of the network
pub waits_within : (s : Scenario) (hs : List Happening) (e : Waiting) → IsWaitingFor s hs e → IsFounded place_of (IsDue s) hs → IsInRange s.network
    → e.device.0 < length s.network.device
waits_within s hs e it founded range =
    let c = come_of s hs e it founded in
    by_way c.so.arrives.way (received s.network e.device e.link c.so.arrives.way c.so.arrives.receiver)
  where
    by_way : (way : Way) → IsReceiver s.network e.device e.link way → e.device.0 < length s.network.device
    by_way Up v =
        rw v.is at (in_all (IsLinkInRange s.network) s.network.link e.link.0 v.joint range.links v.there).parent
    by_way Down v =
        rw v.is at (in_all (IsLinkInRange s.network) s.network.link e.link.0 v.joint range.links v.there).child

pub in_network : {s : Scenario} {hs coming : List Happening} {now : ℕ} {e : Waiting}
    → IsRipe s hs coming now e → e.device.0 < length s.network.device
in_network {s} {hs} {e} r = waits_within s hs e r.it r.run.founded r.range

-- ---- the record

frame_is : {s : Scenario} {hs : List Happening} (front : List Happening) {coming : List Happening}
    {now : ℕ} {e : Waiting} → IsRipe s hs coming now e
    → frame_from (hs ++ front) e.cause ≡ Some e.frame
frame_is {hs} front {e} r =
    rw (numbered_front hs front e.cause r.it.arrival r.it.there)
    r.it.awaited.of_frame

module _ {s : Scenario} {hs coming : List Happening} {now : ℕ} {e : Waiting} where
  few_cause : IsRipe s hs coming now e → e.cause ≤ length hs
  few_cause r = let lt = numbered_within hs e.cause r.it.arrival r.it.there in omega arith

  permanent_in : (r : IsRipe s hs coming now e) (f : List Happening)
      → IsPermanent s (hs ++ f) e.device now e.link e.cause e.frame e.point
  permanent_in r f = search (arith, numbered_front, reach_now)

here_place : (t now : ℕ) {m : ℕ} (e : Waiting) (verdict : Judgement) (body : NoteBody) → body ≡ kinds.Permanent e.device
    e.link e.cause e.point verdict
    → m ≡ e.frame.members.0 → t ≡ now → t ∷ rank body ∷ key m body ≡ now ∷ 3 ∷ ripe_more e
here_place t now {m} e verdict body is members at =
    rw at (ap (λ b. now ∷ rank b ∷ key m b) is
    ∙ ap (λ n. now ∷ 3 ∷ e.device.0 ∷ amount e.point ∷ n ∷ e.link.0 ∷ e.cause ∷ []) members)

role_by : (cm : Bool) (verdict : Judgement) → IsKindOf cm (ripe_as verdict)
    → is_last (kinds.Permanent (record { 0 = 0 }) (record { 0 = 0 }) 0 (record { 0 = pos 0 }) verdict) ≡ true → IsByRole cm verdict
role_by true judgements.Opened kind last = tt
role_by true judgements.Joined kind last = tt
role_by true judgements.Repeat kind last = tt
role_by false judgements.Within kind last = tt
role_by false judgements.Outside kind last = tt
role_by false judgements.Integrates kind last = absurd cc
role_by false judgements.Ignored kind last = tt
role_by by_cm verdict kind last = absurd kind

last_by : (device : DeviceId) (link : LinkId) (cause : ℕ) (point : Units) (verdict : Judgement)
    → is_last (kinds.Permanent (record { 0 = 0 }) (record { 0 = 0 }) 0 (record { 0 = pos 0 }) verdict) ≡ true
    → is_last (kinds.Permanent device link cause point verdict) ≡ true
last_by device link cause point judgements.Integrates e = absurd cc
last_by device link cause point other e = refl

bears_not : (device : DeviceId) (e : Waiting) (verdict : Judgement) (body : NoteBody) → (device.0 ≡ e.device.0 → ⊥)
    → body ≡ kinds.Permanent e.device e.link e.cause e.point verdict → bears_on device body ≡ false
bears_not device e verdict body ne is = ap (bears_on device) is ∙ ne_eqb device.0 e.device.0 ne

rank_not : (a b : Happening) {now : ℕ} {more : List ℕ} → place_of a ≡ now ∷ 3 ∷ more → 4 ≤ rank b.note.body → place_of
    a ≡ place_of b → ⊥
rank_not a b at high same = grind (arith, time_of, rank, key, members_in)

-- ---- what is common to all outcomes

pub record IsStep {C M : Type 0} (reading : C → ℕ → ℕ) (stands : M → Network → DeviceId → Node → Type 0) (s : Scenario)
    (world : World C M) (notes : List Note) (e : Waiting) (machine after : M) (result : Ripe) (machines : List M)
    (waiting : List Waiting) : Type 0 where
  pub c : StandsHere reading stands s world notes 3 (ripe_more e)
  pub r : IsRipe s (happenings s.network notes) world.settled world.now e
  pub k : IsKept stands s (happenings s.network notes) world.settled (world.now ∷ 3 ∷ ripe_more e) world.now
      e.device machine
  pub master : IsParentOf s.network e.device e.link → IsOfMaster s.network e.device e.link e.frame.members
  pub has : HasRipened stands s.network e.device (moment_of s e.device world.now) e.link e.frame e.point result machine after
  pub set : IsSet e.device.0 after world.machines machines
  pub without : IsWithout (ripe_place world.now) (ripe_place world.now e) world.waiting waiting
  pub room : length notes + length world.settled + 2 < numbers_end

module _ {C M : Type 0} (reading : C → ℕ → ℕ) (stands : M → Network → DeviceId → Node → Type 0) (s : Scenario)
    (world : World C M) (notes : List Note) (e : Waiting) (machine after : M) (machines : List M) (waiting : List Waiting) where
  -- the world stands behind it with these to come
  abbrev Behind : List Happening → Type 0
  Behind settled =
      StandsBehind reading stands s (record world { early = false; machines = machines; waiting = waiting; settled = settled })
      notes (ripe_place world.now e)

  one_behind : {result : Ripe} (x : IsStep reading stands s world notes e machine after result machines waiting)
      {front back : List Happening} {w : Happening} → world.settled ≡ front ++ back
      → IsOne s (happenings s.network notes) front back world.now 3 (ripe_more e) w
      → IsUnfollowed s (happenings s.network notes) world.now w.note.body
      → IsAllOfIt s (happenings s.network notes) (front ++ w ∷ back) (world.now ∷ 3 ∷ ripe_more e)
      → ((device : DeviceId) → (device.0 ≡ e.device.0 → ⊥) → bears_on device w.note.body ≡ false)
      → ((device : DeviceId) → IsNoTaking device w.note.body)
      → IsKept stands s (happenings s.network notes) (front ++ w ∷ back) (behind (world.now ∷ 3 ∷ ripe_more e)) world.now
      e.device after → Behind (front ++ w ∷ back)
  one_behind x {front} {back} {w} parts one last all misses none kept =
      let hs = happenings s.network notes in
      let now = world.now in
      let old = x.c.old in
      let long = put_length front back w in
      let parts_length : length world.settled ≡ length (front ++ back) = ap length parts in
      let room = x.room in
      let is_in = in_network x.r in
      ripened_behind waiting x.c x.r x.set x.without
      (omega arith)
      (one_by one last all)
      (known_aside hs front back w
      (λ device le. moves_no_other device w.note.body (misses device (λ same. omega arith)))
      (rw parts at old.known)) kept
      (λ device m ne held. held_aside s hs front back w device (misses device ne) one.at
      (frames_aside s hs front back w device (misses device ne) (none device))
      (rw parts at held))

  -- ---- the frame is collected, or heard

  quiet_step : (verdict : Judgement) (settled : List Happening)
      → IsStep reading stands s world notes e machine after (ripe_as verdict) machines waiting
      → is_last (kinds.Permanent (record { 0 = 0 }) (record { 0 = 0 }) 0 (record { 0 = pos 0 }) verdict) ≡ true
      → ArePutIn s.network (happenings s.network notes) world.now
      (kinds.Permanent e.device e.link e.cause e.point verdict ∷ []) world.settled settled → Behind settled
  quiet_step verdict settled x last (mid, put, done) =
      let hs = happenings s.network notes in
      let now = world.now in
      let old = x.c.old in
      let here = now ∷ 3 ∷ ripe_more e in
      let body = kinds.Permanent e.device e.link e.cause e.point verdict in
      let shown = one_shown s.network hs now body (few_cause x.r)
      put in
      let front = shown.front in
      let back = shown.back in
      let w = record_of s.network hs front now body in
      let r : IsRipe s hs (front ++ back) now e =
      rw shown.parts at x.r in
      let k : IsKept stands s hs (front ++ back) (now ∷ 3 ∷ ripe_more e) now e.device machine =
      rw shown.parts at x.k in
      let a = answered after (ripe_as verdict) r k x.master x.has in
      let kind = outcome_kind s.network e.device k.node.standing.state k.node.standing.adjustment.0 k.node.points e.frame
      e.point.0 (ripe_as verdict) a.outcome in
      let role = role_by (is_cm s.network e.device) verdict kind last in
      let of_frame = frame_is front r in
      let members : members_in w ≡ e.frame.members.0 =
      rw of_frame in
      let place = here_place now now e verdict body refl members refl in
      let high = high_now r in
      let under : (z : Happening) → IsIn z front → IsBefore (place_of z) here → ⊥ = λ z i.
      r.moving.are.after z (in_left z front back i) in
      let becomes = becomes_now s hs (front ++ back) front now e k.node (ripe_as verdict) r under a.hears
      a.outcome in
      let not_under : IsBefore (place_of w) here → ⊥ = λ b.
      never_self here (subst (λ q. IsBefore q here) place b) in
      let one : IsOne s hs front back now 3 (ripe_more e) w = record {
        moving = r.moving;
        given = old.run.founded;
        at = refl;
        due = due_of s hs front now body becomes;
        before = shown.before;
        none = shown.none;
        fresh = λ y i same. rank_not w y place (high y (in_right y front back i)).1 same;
        mine = sym (here_place now now e verdict body refl members refl);
        here =
            IsSource.ripening now e.device e.link e.cause e.point
            (record { frame = e.frame; permanent = permanent_in r front });
        aside = λ z i device same hears. omega (arith, rank_at same);
      } in
      let after_all : (z : Happening) → IsIn z (front ++ w ∷ back) → IsBefore (place_of z) here → ⊥ = λ z i b.
      elim (placed_high now front back w high z i) [
        | inl same ↦ not_under (subst (λ h. IsBefore (place_of h) here) same b)
        | inr h ↦ not_before_high now (ripe_more e) z h.0 h.1 b
      ] in
      subst Behind (sym (done ∙ shown.shows))
      (one_behind x shown.parts one
      (last_unfollowed s hs now body (last_by e.device e.link e.cause e.point verdict last))
      (permanent_all (front ++ w ∷ back) w verdict r a.hears a.outcome
      after_all w (in_right w front (w ∷ back) (inl refl)) place)
      (λ device ne. bears_not device e verdict body ne refl) (λ device z. refl)
      (quiet_kept front back w verdict r k a role refl of_frame refl place
      shown.before))

  -- ---- the frame is dropped

  dropped_step : (reason : Reason) (settled : List Happening)
      → IsStep reading stands s world notes e machine after (ripe.Dropped reason) machines waiting
      → ArePutIn s.network (happenings s.network notes) world.now (kinds.Dropped e.device e.link e.cause reason ∷ [])
      world.settled settled → Behind settled
  dropped_step reason settled x (mid, put, done) =
      let hs = happenings s.network notes in
      let now = world.now in
      let old = x.c.old in
      let here = now ∷ 3 ∷ ripe_more e in
      let body = kinds.Dropped e.device e.link e.cause reason in
      let shown = one_shown s.network hs now body (few_cause x.r)
      put in
      let front = shown.front in
      let back = shown.back in
      let w = record_of s.network hs front now body in
      let r : IsRipe s hs (front ++ back) now e =
      rw shown.parts at x.r in
      let k : IsKept stands s hs (front ++ back) (now ∷ 3 ∷ ripe_more e) now e.device machine =
      rw shown.parts at x.k in
      let a = answered after (ripe.Dropped reason) r k x.master
      x.has in
      let high = high_now r in
      let under : (z : Happening) → IsIn z front → IsBefore (place_of z) here → ⊥ = λ z i.
      r.moving.are.after z (in_left z front back i) in
      let becomes = becomes_now s hs (front ++ back) front now e k.node (ripe.Dropped reason) r under a.hears
      a.outcome in
      let one : IsOne s hs front back now 3 (ripe_more e) w = record {
        moving = r.moving;
        given = old.run.founded;
        at = refl;
        due = due_of s hs front now body (inr (inl (e.point, becomes)));
        before = shown.before;
        none = shown.none;
        fresh = λ y i same.
            drop_fresh r
            (λ f. permanent_in r f) y (in_right y front back i) same;
        mine = inr (inl (e.point, becomes, refl));
        here =
            IsSource.ripening now e.device e.link e.cause e.point
            (record { frame = e.frame; permanent = permanent_in r front });
        aside = λ z i device same hears. omega (arith, rank_at same);
      } in
      let after_all : (z : Happening) → IsIn z (front ++ w ∷ back) → IsBefore (place_of z) here → ⊥ = λ z i b.
      elim (placed_high now front back w high z i) [
        | inl same ↦ not_before_high now (ripe_more e) w refl (omega arith)
            (rw same at b)
        | inr h ↦ not_before_high now (ripe_more e) z h.0 h.1 b
      ] in
      subst Behind (sym (done ∙ shown.shows))
      (one_behind x shown.parts one (last_unfollowed s hs now body refl)
      (dropped_all (front ++ w ∷ back) reason r a.hears a.outcome after_all w
      (in_right w front (w ∷ back) (inl refl)) refl)
      (λ device ne. refl) (λ device z. refl)
      (dropped_kept front back w reason r k a refl (λ z. refl)))

  -- ---- it tells the time

  joined_step : (settled : List Happening)
      → IsStep reading stands s world notes e machine after ripe.Integrates machines waiting
      → ArePutIn s.network (happenings s.network notes) world.now
      (kinds.Permanent e.device e.link e.cause e.point judgements.Integrates
      ∷ kinds.State e.device Joining (length notes + 1) whys.Frame ∷ []) world.settled settled → Behind settled
  joined_step settled x put =
      let hs = happenings s.network notes in
      let now = world.now in
      let old = x.c.old in
      let r = x.r in
      let k = x.k in
      let here = now ∷ 3 ∷ ripe_more e in
      let n = length hs + 1 in
      let body = kinds.Permanent e.device e.link e.cause e.point judgements.Integrates in
      let v_body = kinds.State e.device Joining n whys.Frame in
      let few = few_cause r in
      let w = record_of s.network hs [] now body in
      let of_frame = frame_is [] r in
      let members : members_in w ≡ e.frame.members.0 =
      rw of_frame in
      let place = here_place now now e judgements.Integrates body refl members refl in
      let shown_at : place_of (settled_as s.network hs now body) ≡ here =
      ap place_of (sym (same_record s.network hs [] now body few)) ∙ place in
      let q = two_shown s.network hs now body e.device Joining whys.Frame few (omega arith)
      (λ z i b. r.moving.are.after z i (subst (λ q. IsBefore (place_of z) q) shown_at b))
      (causes_given r.moving (omega arith)) put.1
      (rw (length_is s notes) at put.2.1) in
      let v = change_of s.network hs now body q.mid e.device Joining whys.Frame in
      let a = answered after ripe.Integrates r k x.master x.has in
      let high = high_now r in
      let becomes = becomes_now s hs world.settled [] now e k.node ripe.Integrates r (λ z i. absurd i) a.hears
      a.outcome in
      let not_under : IsBefore (place_of w) here → ⊥ = λ b.
      never_self here (subst (λ q. IsBefore q here) place b) in
      let one : IsOne s hs [] world.settled now 3 (ripe_more e) w = record {
        moving = r.moving;
        given = old.run.founded;
        at = refl;
        due = due_of s hs [] now body becomes;
        before = λ z i. absurd i;
        none = q.first;
        fresh = λ y i same. rank_not w y place (high y i).1 same;
        mine = sym (here_place now now e judgements.Integrates body refl members refl);
        here =
            IsSource.ripening now e.device e.link e.cause e.point
            (record { frame = e.frame; permanent = permanent_in r [] });
        aside = λ z i device same hears. omega (arith, rank_at same);
      } in
      let p : IsPair s 3 (ripe_more e) q = record {
        one = one;
        no_event = λ r1. omega arith;
        low = omega arith;
        acts = λ six. absurd (omega arith);
        is_of = refl;
        follows = inl refl;
        changes = λ there. (refl, (w, there, eq-eqb e.device.0 e.device.0 refl));
      } in
      let then_ = pair_put s.network hs now body q.mid e.device Joining whys.Frame q.back in
      let high_one : (z : Happening) → IsIn z (w ∷ (q.mid ++ q.back)) → (z ≡ w)
      ⊎ ((time_of z ≡ now) × (4 ≤ rank z.note.body)) = λ z i.
      placed_high now [] world.settled w high z (rw q.parts i) in
      let after_all : (z : Happening) → IsIn z then_ → IsBefore (place_of z) here → ⊥ = λ z i b.
      elim (placed_back [] (w ∷ q.mid) q.back v z i) [
        | inl same ↦ not_before_high now (ripe_more e) v refl (omega arith)
            (rw same at b)
        | inr more ↦ elim (high_one z more) [
          | inl same ↦ not_under (subst (λ h. IsBefore (place_of h) here) same b)
          | inr h ↦ not_before_high now (ripe_more e) z h.0 h.1 b
        ]
      ] in
      let long = put_length (w ∷ q.mid) q.back v in
      let same_parts : length world.settled ≡ length (q.mid ++ q.back) = ap length q.parts in
      let one_more : length ((w ∷ q.mid) ++ q.back) ≡ length (q.mid ++ q.back) + 1 = omega arith in
      let room = x.room in
      let is_in = in_network r in
      let misses : (device : DeviceId) → (device.0 ≡ e.device.0 → ⊥) → bears_on device body ≡ false = λ device ne.
      bears_not device e judgements.Integrates body ne refl in
      let stays_out : (device : DeviceId) → (device.0 ≡ e.device.0 → ⊥) → bears_on device v_body ≡ false = λ device ne.
      ne_eqb device.0 e.device.0 ne in
      let far_off : (device : DeviceId) → length s.network.device ≤ device.0 → device.0 ≡ e.device.0 → ⊥ = λ device le same.
      omega arith in
      subst Behind (sym (put.2.2 ∙ q.shows))
      (ripened_behind waiting x.c r x.set x.without
      (omega arith)
      (two_by p
      (permanent_all then_ w judgements.Integrates r a.hears a.outcome after_all
      w (inl refl) place))
      (known_aside hs (w ∷ q.mid) q.back v
      (λ device le. moves_no_other device v_body (stays_out device (far_off device le)))
      (rw q.parts at (known_aside hs [] world.settled w (λ device le. moves_no_other device body
      (misses device (far_off device le))) old.known)))
      (joined_kept q.mid q.back w v r k a old.precise refl of_frame refl
      q.parts refl refl q.none)
      (λ device m ne held. held_aside s hs (w ∷ q.mid) q.back v device (stays_out device ne) refl
      (frames_aside s hs (w ∷ q.mid) q.back v device (stays_out device ne) (λ z. refl))
      (rw q.parts at (held_aside s hs [] world.settled w device (misses device ne) refl
      (frames_aside s hs [] world.settled w device (misses device ne) (λ z. refl)) held))))

  -- ---- whatever becomes of it

  by_result : (result : Ripe) (settled : List Happening) → IsStep reading stands s world notes e machine after result machines waiting
      → ArePutIn s.network (happenings s.network notes) world.now
      (ripe_bodies (length notes + 1) e.device e.link e.cause e.point result) world.settled settled → Behind settled
  by_result ripe.Opened settled x put = quiet_step judgements.Opened settled x refl put
  by_result ripe.Joined settled x put = quiet_step judgements.Joined settled x refl put
  by_result ripe.Repeat settled x put = quiet_step judgements.Repeat settled x refl put
  by_result ripe.Within settled x put = quiet_step judgements.Within settled x refl put
  by_result ripe.Outside settled x put = quiet_step judgements.Outside settled x refl put
  by_result ripe.Integrates settled x put = joined_step settled x put
  by_result ripe.Ignored settled x put = quiet_step judgements.Ignored settled x refl put
  by_result (ripe.Dropped reason) settled x put = dropped_step reason settled x put

-- the first frame that waits, to whose point its device's reading has come, is permanent: its records are to come
pub ripened_step : {C M : Type 0} {reading : C → ℕ → ℕ} {stands : M → Network → DeviceId → Node → Type 0} (s : Scenario)
    {world : World C M} {notes : List Note} (e : Waiting) {machine after : M} (result : Ripe) {machines : List M}
    (waiting : List Waiting) (settled : List Happening) {old : Stands reading stands s world notes}
    → IsIn e world.waiting → e.point.0 ≤ℤ pos (s.reading e.device world.now)
    → ComesFirst reading stands s world notes old (ripe_place world.now e)
    → slice_get world.machines e.device.0 ≡ Some machine
    → HasRipened stands s.network e.device (moment_of s e.device world.now) e.link e.frame e.point result machine after
    → IsSet e.device.0 after world.machines machines
    → IsWithout (ripe_place world.now) (ripe_place world.now e) world.waiting waiting
    → ArePutIn s.network (happenings s.network notes) world.now
    (ripe_bodies (length notes + 1) e.device e.link e.cause e.point result) world.settled settled
    → StandsBehind reading stands s
    (record world { early = false; machines = machines; waiting = waiting; settled = settled }) notes
    (ripe_place world.now e)
ripened_step {C} {M} {reading} {stands} s {world} {notes} e {machine} {after} result {machines} waiting settled {old} i
    reached first at has set without
    put =
    let hs = happenings s.network notes in
    let it = old.waiting.real e i in
    let start = ripening_first e i reached first in
    let c = start.0 in
    let r = start.1 in
    let held = c.devices e.device (in_network r) in
    let same = some_same held.0 machine _ held.1 at in
    elim (rw same at held.2) [
      | inr out ↦ absurd (both_ways (is_broken s e.device world.now) r.sound out.broken)
      | inl k ↦
          by_result reading stands s world notes e machine after machines waiting result settled (record {
            c = c;
            r = r;
            k = k;
            master = λ parent.
                of_master s hs it.arrival e.device e.link it.awaited.from it.awaited.clock old.range old.rules
                old.befallen.sent old.run.founded (numbered_in hs e.cause it.arrival it.there) it.awaited.arrived
                it.awaited.of_frame parent;
            has = has;
            set = set;
            without = without;
            room = first.room;
          }) put
    ]

-- ---- the machine of the device at which a frame is permanent may be asked what becomes of it

-- the machine stands for its device, and may be asked
pub record MayAsk {C M : Type 0} (stands : M → Network → DeviceId → Node → Type 0) (s : Scenario) (world : World C M) (notes : List Note)
    (e : Waiting) : Type 0 where
  pub within : e.device.0 < length s.network.device
  pub machine : M
  pub there : slice_get world.machines e.device.0 ≡ Some machine
  pub node : Node
  pub is : stands machine s.network e.device node
  pub asked : IsAsked s (happenings s.network notes) world.now e node

pub may_ask : {C M : Type 0} (reading : C → ℕ → ℕ) (stands : M → Network → DeviceId → Node → Type 0) (s : Scenario) (world : World C M) (notes : List Note)
    (e : Waiting) (old : Stands reading stands s world notes) → IsIn e world.waiting → e.point.0 ≤ℤ pos (s.reading e.device world.now)
    → ComesFirst reading stands s world notes old (ripe_place world.now e) → MayAsk stands s world notes e
may_ask reading stands s world notes e old i reached first =
    let hs = happenings s.network notes in
    let start = ripening_first e i reached first in
    let r = start.1 in
    let within = in_network r in
    let held = (start.0).devices e.device within in
    let it = old.waiting.real e i in
    elim held.2 [
      | inr out ↦ absurd (both_ways (is_broken s e.device world.now) r.sound out.broken)
      | inl k ↦ record {
        within = within;
        machine = held.0;
        there = held.1;
        node = k.node;
        is = k.is;
        asked = may_be_asked r k (λ parent.
            of_master s hs it.arrival e.device e.link it.awaited.from it.awaited.clock old.range old.rules
            old.befallen.sent old.run.founded
            (numbered_in hs e.cause it.arrival it.there) it.awaited.arrived it.awaited.of_frame parent);
      }
    ]
