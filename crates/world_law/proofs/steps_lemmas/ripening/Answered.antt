-- The machine answers for a frame that is permanent, and its device is kept, told the time by it or not.
use Rattle.std.proofs.Common.{Contains}
use Rattle.compression.proofs.Times.{one_list_of_clusters}
use Rattle.run_law.{proofs.{control.Verdicts.looking_ripe, device.States.joined_or}}
use Rattle.run_law.specs.{declared.judgement.Judgement.TheVariants.Integrates, device.States.joined_adjustment}
use Rattle.run_law.specs.{machines.Calls.{IsHearing, MayRipen, order_of_phase}}
use Rattle.sync_state.specs.Integration.{joined_by}
use Rattle.world_law.{specs.{device.Told.change_in, steps.Ripening.HasRipened}}
use Rattle.world_law.proofs.{devices.{Standing.tell_owned, Working.{HasRested, rested}}}
use Rattle.world_law.proofs.{frames.Proper.{link_of, received}, giving.GivenParts.up_to_place}
use Rattle.world_law.proofs.{runs.Worlds.{frame_source, late_of}}
use Rattle.world_law.proofs.putting.{Moving.{stays, turned_by}, Placing.causes_given}
use Rattle.world_law.proofs.putting.Near
use Near.{before_aside, changed_aside, earlier_aside, frames_aside, left_aside, placed_back, still_aside}
use Rattle.world_law.proofs.steps_lemmas.{hearing.{Calling.ranked_so, Receptions.frames_placed}}
use Rattle.world_law.proofs.steps_lemmas.Words
use Words.{if◌then◌else◌, ◌&&◌, ◌++◌, ◌+ℤ◌, ◌+◌, ◌-◌, ◌<ℤ◌, ◌<◌, ◌^◌, ◌||◌, ◌∙◌, ◌∷◌, ◌≡◌, ◌≤ℤ◌, ◌≤◌, ◌⊎◌, AllBefore}
use Words.{AllByRecursion, AsState, Bool, Compressed, DeviceId, Happening, HasDoneFrom, HasDoneTask, HasSentFrom}
use Words.{HasTurnedOn, Integrating, IsAlike, IsAtRest, IsBefore, IsIn, IsKept, IsLeft, IsNoTaking, IsOfMaster}
use Words.{IsParentOf, IsPending, IsPermanenceOutcomeAt, IsSteady, IsWaiting, Joining, Judgement, LinkId, List, MayCall}
use Words.{Moment, Network, Node, None, NoneBefore, NoteBody, Pcf, Phase, Point, Reason, Ripe, Scenario, Some, State}
use Words.{Task, Units, Waiting, [], act_place, adjustment_after, adjustment_with, after_permanence, all_up_to, amount}
use Words.{and_right, ap, append_assoc, arith, before_behind, behind, both_ways, called, cases_Bool, cases_lt, chain}
use Words.{changed_at, changes_adjustment, channel_of_link, correcting, correction_value, cycle_after, cycle_in, doing}
use Words.{earlier, earlier_still, emitting, eq-eqb, eqb-true, false, filter, fold, fold-append, frames_taken}
use Words.{has_cleared, has_joined_at, heard_since, hearing_by, in_left, in_parts, in_right, inl, inr, int_le, int_lt}
use Words.{integration_cycle, ints, is_broken, is_cm, is_integration_cycle, is_joined_by, is_off, is_timed}
use Words.{is_turned_on_at, key, last_or, length, local_in, lt-ltb, master_of, members_in, moment_of, moves, nat_lt}
use Words.{natural, never_self, next_in, next_is_up_to, no_higher, no_later_breaks, no_task_at, none_in, not}
use Words.{not_on_after, not_turned_on, observation_window, option_map_or, place_of, plan_of, point_at, pos, rank}
use Words.{rank_of_call, reading_for, recorded_cycle, refl, ripe_as, ripening, self, state_after, state_before}
use Words.{state_with, subst, sym, taken_in, task_place, time_of, true, turned_aside, undone_alike, value_of}
use Words.{waiting_alike, whole, with_joined, ℕ}
use Rattle.world_law.proofs.steps_lemmas.ripening.{Called.left_called, Clustered.{old_or_open, open_later}}
use Rattle.world_law.proofs.steps_lemmas.ripening.Judged
use Judged.{Hears, IsTold, all_high, cleared_told, ends_in, hears_before, hears_told, last_behind, not_yet}
use Judged.{outcome_kind, still_on, stirs, was_on}
use Rattle.world_law.proofs.steps_lemmas.ripening.Ripens
use Ripens.{IsByRole, IsFirst, IsLateKind, IsMere, IsRipe, IsSame, all_late, behind_it, come_of, emitted_no_later}
use Ripens.{filter_rest, fold_rest, in_time, is_grown, late_mere, left_grown, maps_rest, may_ripen, mere_adjustment}
use Ripens.{mere_changes, mere_cycle, mere_hears, mere_joins, not_beyond, own_skip, points_by_role, points_no_later}
use Ripens.{points_not, rest_ends, ripe_more, same_by_role, sooner_of, sound_of}
use Rattle.run_law.specs.declared.judgement.Judgement.TheVariants as judgements
use Rattle.run_law.specs.declared.judgement.Why.TheVariants as whys
use Rattle.run_law.specs.declared.note.NoteBody.TheVariants as kinds
use Rattle.run_law.specs.declared.steps.Ripe.TheVariants as ripe

-- ---- the device of a frame that is permanent, and tells it no time, is kept: where it stands before the call

-- a device that stands at this instant: it has not acted, or a frame has told it the time
pub record IsYet (s : Scenario) (hs coming : List Happening) (now up : ℕ) (e : Waiting) : Type 0 where
  pub stands : (up ≡ now) ⊎ ((up ≡ now + 1) × IsTold s hs coming now e)

under_act : (now d : ℕ) (more : List ℕ) → IsBefore (now ∷ 3 ∷ more) (now ∷ 4 ∷ d ∷ [])
under_act now d more = inr (refl, inl (omega arith))

module _ {M : Type 0} {stands : M → Network → DeviceId → Node → Type 0} {s : Scenario} {hs coming : List Happening}
    {now : ℕ} {e : Waiting} {machine : M} (r : IsRipe s hs coming now e) where
  pub is_yet : (k : IsKept stands s hs coming (now ∷ 3 ∷ ripe_more e) now e.device machine) → IsYet s hs coming now k.up e
  is_yet k =
      let here = now ∷ 3 ∷ ripe_more e in
      let not_acted : IsBefore (act_place now e.device) here → ⊥ = λ b.
      never_self here (chain here (act_place now e.device) here (under_act now e.device.0 (ripe_more e)) b) in
      record {
        stands = elim k.acted [
          | inl yet ↦ inl yet.0
          | inr over ↦ elim (k.told over.0) [
            | inl out ↦ absurd (not_acted out.past)
            | inr (inl just) ↦ inr (
              over.0,
              record {
                ripe = r;
                just = just;
                turned = λ on. let was = k.turned on in was.turned r.moving.later;
              },
            )
            | inr (inr joining) ↦ absurd (both_ways _ (late_of r.moving.are joining.by joining.there)
                (frame_source joining.by.note.body joining.sent))
          ]
        ];
      }

  -- and rests
  pub rests_yet : (k : IsKept stands s hs coming (now ∷ 3 ∷ ripe_more e) now e.device machine)
      → HasRested s e.device k.node (changed_at (hs ++ coming) e.device k.up) k.up
  rests_yet k =
      search (arith, rested, never_self, chain, under_act)

done_alike : (node new : Node) (task : Task) → new.done ≡ node.done → new.emitted ≡ node.emitted → HasDoneTask node task → HasDoneTask new task
done_alike node new (emitting sent) done emitted did = rw emitted did
done_alike node new (doing deed) done emitted did = rw done did

-- ---- its tasks

-- the device after the call has what it had, but for later emissions
pub record IsCarriedOn (s : Scenario) (e : Waiting) (node new : Node) : Type 0 where
  pub same : IsSame node new
  pub waiting : (sent : Compressed) → IsWaiting s.network e.device new sent → IsWaiting s.network e.device node sent ⊎ ((e.point.0 +ℤ pos 1) ≤ℤ sent.at.0)
  pub bare : is_cm s.network e.device ≡ false → new.points ≡ node.points

alike_of : {node new : Node} → IsSame node new → IsAlike node new
alike_of s = grind arith

task_carried : {s : Scenario} {e : Waiting} {node new : Node} (task : Task) → IsCarriedOn s e node new
    → IsPending s.network e.device new task → (IsPending s.network e.device node task
    × (reading_for s.network node task ≡ reading_for s.network new task))
    ⊎ ((e.point.0 +ℤ pos 1) ≤ℤ reading_for s.network new task)
task_carried (emitting sent) c p =
    elim (c.waiting sent p.1) [ inl old ↦ inl ((sym c.same.broken ∙ p.0, old), refl) | inr later ↦ inr later ]
task_carried (doing deed) c p = grind (arith, undone_alike, alike_of, value_of)

pub before_place : (p : List ℕ) (now : ℕ) (more : List ℕ) → IsBefore p (now ∷ 3 ∷ []) → IsBefore p (now ∷ 3 ∷ more)
before_place [] now more b = tt
before_place (x ∷ xs) now more (inl lt) = inl lt
before_place (x ∷ []) now more (inr (e, b)) = inr (e, tt)
before_place (x ∷ y ∷ ys) now more (inr (e, inl lt)) = inr (e, inl lt)
before_place (x ∷ y ∷ ys) now more (inr (e, inr b)) = absurd b.1

-- what is to come once the record is put in, as the device sees it
pub record IsNext (s : Scenario) (hs coming coming2 : List Happening) (now up : ℕ) (device : DeviceId) (new : Node) : Type 0 where
  pub left : IsLeft s (hs ++ coming2) device up new
  pub change : changed_at (hs ++ coming2) device up ≡ changed_at (hs ++ coming) device up
  pub before : state_before s (hs ++ coming) device now ≡ state_before s (hs ++ coming2) device now
  pub still : ((h : Happening) → IsIn h (hs ++ coming) → time_of h ≡ now → IsAtRest s device now h.note.body)
      → (h : Happening) → IsIn h (hs ++ coming2) → time_of h ≡ now → IsAtRest s device now h.note.body
  pub turned : (frontier : List ℕ) → HasTurnedOn s hs coming frontier device now
      → HasTurnedOn s hs coming2 frontier device now
  pub frames : frames_taken s (hs ++ coming) device ≡ frames_taken s (hs ++ coming2) device

pub kept_next : {M : Type 0} {stands : M → Network → DeviceId → Node → Type 0} {s : Scenario}
    {hs coming coming2 : List Happening} {now : ℕ} {e : Waiting} {machine : M} (after : M)
    (new : Node) (r : IsRipe s hs coming now e)
    (k : IsKept stands s hs coming (now ∷ 3 ∷ ripe_more e) now e.device machine)
    → stands after s.network e.device (called (moment_of s e.device now) ripening new)
    → IsCarriedOn s e k.node (called (moment_of s e.device now) ripening new)
    → IsNext s hs coming coming2 now k.up e.device (called (moment_of s e.device now) ripening new)
    → IsKept stands s hs coming2 (behind (now ∷ 3 ∷ ripe_more e)) now e.device after
kept_next {stands} {s} {hs} {coming} {coming2} {now} {e} {machine} after base r k is c n =
    let more = ripe_more e in
    let new = called (moment_of s e.device now) ripening base in
    let here = now ∷ 3 ∷ more in
    let yet = is_yet r k in
    let rests = rests_yet r k in
    let a = alike_of c.same in
    let soon = in_time r in
    let adjusted : new.standing.adjustment ≡ k.node.standing.adjustment = rw c.same.standing in
    let change = n.change in
    let done_so : HasDoneFrom s.network (s.reading e.device) e.device new (changed_at (hs ++ coming2) e.device k.up) k.up k.up = record {
      undone = λ deed u x from lt.
          rw adjusted (rests.done.undone deed (undone_alike s.network e.device k.node new a u) x (omega arith) lt);
      done = λ deed there.
          let x = rests.done.done deed (rw c.same.done at there) in (
            x.0,
            omega (arith, x.1),
            x.2,
            rw adjusted x.3,
          );
    } in
    let sent_so : HasSentFrom s e.device new k.up k.up = record {
      unsent = λ sent w x lt. elim (c.waiting sent w) [
        | inl old ↦ rests.sent.unsent sent old x lt
        | inr later ↦ elim yet.stands [
          | inl now_is ↦
              let under = not_beyond r x (omega (arith, lt, now_is)) in
              omega (arith, ints)
          | inr over ↦ absurd (both_ways (is_cm s.network e.device) over.1.just.other w.cm)
        ]
      ];
      sent = λ sent there. rests.sent.sent sent (rw c.same.emitted at there);
    } in
    let did_then : (task : Task) → HasDoneTask k.node task → HasDoneTask new task = λ task. done_alike k.node new task c.same.done c.same.emitted in
    record {
      node = new;
      is = is;
      sound = k.sound;
      up = k.up;
      acted = elim k.acted [
        | inr over ↦ inr (over.0, λ p b. stays here p (over.1 p b))
        | inl still ↦
            inl (
              still.0,
              λ task b acts.
                  elim (up_to_place (task_place s.network now e.device task) here b) [
                    | inr was ↦ did_then task (still.1 task was acts)
                    | inl at ↦ absurd (no_task_at s.network now e.device 3 more (inl (omega arith)) task at)
                  ],
            )
      ];
      told = λ over. elim yet.stands [
        | inl same ↦ absurd (omega arith)
        | inr told ↦ inr (inl (record { looking = sym n.before ∙ told.1.just.looking; other = told.1.just.other }))
      ];
      left = n.left;
      taken = c.same.taken ∙ k.taken ∙ n.frames;
      worked = record {
        undone = done_so.undone;
        done = λ deed there.
            let x = k.worked.done deed (rw c.same.done at there) in (
              x.0,
              omega (arith, x.1),
              stays here (task_place s.network x.0 e.device (doing deed)) x.2,
              rw adjusted x.3,
            );
        unsent = sent_so.unsent;
        sent = λ sent there.
            let x = k.worked.sent sent (rw c.same.emitted at there) in
            (x.0, stays here (task_place s.network x.0 e.device (emitting sent)) x.1, x.2);
      };
      bare = λ other. (c.bare other ∙ (k.bare other).0, c.same.emitted ∙ (k.bare other).1);
      ready = record {
        time = omega (arith, ints);
        begun = omega (arith, ints);
        last = refl;
        undone = λ task p x lt. elim (task_carried task c p) [
          | inl it ↦ rw it.1 at (k.ready.undone task it.0 x lt)
          | inr later ↦ let under = not_beyond r x lt in omega (arith, ints)
        ];
        in_time = λ task p. elim (task_carried task c p) [
          | inl it ↦ rw it.1 at (k.ready.in_time task it.0)
          | inr later ↦ omega (arith, ints)
        ];
      };
      still = λ same. n.still (k.still same);
      turned = λ on. n.turned (behind here) (turned_by r.moving (k.turned on));
      cleared = λ cycle there.
          rw c.same.standing (k.cleared cycle (rw c.same.done at there));
      phase = λ at p b. chain p here (behind here) (before_place p now more b) (before_behind here);
    }

-- ---- the frame is dropped, or tells another device something

pub next_aside : {s : Scenario} (hs front back : List Happening) (now : ℕ) {up : ℕ} {device : DeviceId}
    (w : Happening) {new : Node} → Rattle.world_law.specs.device.Own.bears_on device w.note.body ≡ false
    → IsNoTaking device w.note.body → IsLeft s (hs ++ (front ++ back)) device up new
    → IsNext s hs (front ++ back) (front ++ w ∷ back) now up device new
next_aside {s} hs front back now {up} {device} w {new} misses none left = record {
  left = left_aside s hs front back w device misses left;
  change = sym (changed_aside s hs front back w device misses up);
  before = before_aside s hs front back w device misses now;
  still = still_aside s hs front back w device now (Rattle.world_law.proofs.devices.Standing.moves_no_other device w.note.body misses);
  turned = λ frontier it. turned_aside s hs front back w device it (earlier_aside s hs front back w device misses now);
  frames = frames_aside s hs front back w device misses none;
}

pub carried_called : (s : Scenario) (e : Waiting) (node : Node) (now : ℕ) → IsCarriedOn s e node (called (moment_of s e.device now) ripening node)
carried_called s e node now = grind (arith, waiting_alike, called, moment_of, ripening)

-- ---- the frame is collected, or heard

all_rec : (P : Point → Type 0) (xs : List Point) → ((x : Point) → IsIn x xs → P x) → AllByRecursion P xs
all_rec P [] holds = tt
all_rec P (x ∷ xs) holds = (holds x (inl refl), all_rec P xs (λ y i. holds y (inr i)))

-- an emission of the device with one more point is one of before, or a later one
with_point_waiting : (s : Scenario) (e : Waiting) (node : Node) {new : Node} (p : Point) {sent : Compressed}
    → p.reading ≡ e.point.0 → new.points ≡ node.points ++ p ∷ [] → new.emitted ≡ node.emitted
    → pos 1 ≤ℤ pos (amount s.network.calc) → ((q : Point) → IsIn q node.points → q.reading ≤ℤ e.point.0)
    → IsWaiting s.network e.device new sent → IsWaiting s.network e.device node sent
    ⊎ ((e.point.0 +ℤ pos 1) ≤ℤ sent.at.0)
with_point_waiting s e node p {sent} at points emitted some no_later w =
    let ow = observation_window s.network in
    let whole : pos 0 ≤ℤ ow = omega (arith, ints) in
    let old = one_list_of_clusters ow node.points in
    let up = all_rec (λ q. q.reading ≤ℤ p.reading) node.points (λ q i. let le = no_later q i in omega (arith, ints)) in
    elim (old_or_open (length node.points) ow node.points old.0 w.clusters p w.cluster (omega arith) whole up old.1
    (rw points at w.are) w.there) [
      | inl there ↦
          inl (record {
            cm = w.cm;
            clusters = old.0;
            are = old.1;
            cluster = w.cluster;
            there = there;
            is = w.is;
            not_yet = λ given. w.not_yet (rw emitted given);
          })
      | inr open_ ↦
          let later = open_later (pos (amount s.network.calc)) whole open_ in
          inr (rw w.is (omega (arith, ints)))
    ]

module _ {s : Scenario} {hs coming : List Happening} {now : ℕ} {e : Waiting} where
  calc_some : IsRipe s hs coming now e → pos 1 ≤ℤ pos (amount s.network.calc)
  calc_some r = grind (arith, natural, ints)

  pub carried_by_role : (node : Node) (verdict : Judgement) → IsRipe s hs coming now e
      → IsByRole (is_cm s.network e.device) verdict → (is_cm s.network e.device ≡ true → (q : Point)
      → IsIn q node.points → q.reading ≤ℤ e.point.0) → IsCarriedOn s e node
      (called (moment_of s e.device now) ripening (after_permanence node (moment_of s e.device now) (channel_of_link
      s.network e.link) e.frame e.point (ripe_as verdict)))
  carried_by_role node verdict r role no_later =
      let moment = moment_of s e.device now in
      let same = same_by_role s.network e.device node moment ripening e.link e.point e.frame
      (is_cm s.network e.device) verdict role in
      record {
        same = same;
        waiting = λ sent w.
            with_point_waiting s e node (point_at e.point.0 (master_of e.frame.members.0) e.frame.cycle) refl
            (points_by_role s.network e.device node moment ripening e.link e.point e.frame verdict
            (rw w.cm at role))
            same.emitted (calc_some r) (no_later w.cm) w;
        bare = λ other. points_not s.network e.device node moment ripening e.link e.point e.frame verdict
            (rw other at role);
      }

keep_of : (a b : Bool) → (a ≡ false) ⊎ (a ≡ b) → (not a || b) ≡ true
keep_of false b so = refl
keep_of true b (inl e) = absurd cc
keep_of true b (inr e) = sym e

role_still : (cm : Bool) (device : DeviceId) {body : NoteBody} (link : _) (cause : ℕ) (point : Units)
    (verdict : Judgement)
    → body ≡ kinds.Permanent device link cause point verdict
    → IsByRole cm verdict → (is_joined_by device body ≡ false) × (moves device body ≡ false) × (changes_adjustment device body ≡ false)
    × (Rattle.run_law.specs.control.Collections.ends_stretch device body ≡ false)
role_still cm device link cause point verdict e role = grind (arith, is_joined_by, moves, changes_adjustment)

pub next_by_role : {M : Type 0} {stands : M → Network → DeviceId → Node → Type 0} {s : Scenario}
    {hs coming : List Happening} {now : ℕ} {e : Waiting} {machine : M} (w : Happening)
    (verdict : Judgement) (r : IsRipe s hs coming now e)
    (k : IsKept stands s hs coming (now ∷ 3 ∷ ripe_more e) now e.device machine) → Hears s hs e.device now k.node
    → IsByRole (is_cm s.network e.device) verdict → w.note.body
    ≡ kinds.Permanent e.device e.link e.cause e.point verdict → w.frame ≡ Rattle.std.proofs.Common.Some e.frame
    → time_of w ≡ now → IsNext s hs coming (w ∷ coming) now k.up e.device
    (called (moment_of s e.device now) ripening (after_permanence k.node (moment_of s e.device now) (channel_of_link
    s.network e.link) e.frame e.point (ripe_as verdict)))
next_by_role {stands} {s} {hs} {coming} {now} {e} {machine} w verdict r k hears role body of_frame at =
    let device = e.device in
    let yet = is_yet r k in
    let late = all_late r.moving r.run.within in
    let quiet = role_still (is_cm s.network device) device e.link e.cause e.point verdict body role in
    let first : IsFirst s coming device k.up w = record {
      mere = λ z i. late_mere device z.note.body (late z i);
      open_ = λ cm z i. elim yet.stands [
        | inl now_is ↦ rest_ends s device now z.note.body (late z i)
            (k.still now_is z (Rattle.run_law.proofs.runs.Places.in_right z hs coming i) (r.moving.are.of_now z i))
        | inr over ↦ absurd (both_ways (is_cm s.network device) over.1.just.other cm)
      ];
      still = quiet.1;
      goes_on = quiet.3;
    } in
    let grown = is_grown s device k.node (moment_of s device now) ripening w e.link e.cause e.point verdict of_frame
    body role in
    let keep : is_timed k.node.standing.state ≡ true
    → (not (has_cleared s (hs ++ coming) device k.up k.up) || has_cleared s (hs ++ coming) device k.up (time_of w)) ≡ true =
    grind (arith, keep_of, yet.stands, has_cleared, cleared_told) in
    let a = tell_owned s (hs ++ w ∷ coming) (hs ++ coming) device k.up (own_skip device k.up hs coming w quiet.1) in
    let same_earlier =
    earlier_still now hs coming (λ z i. omega arith)
    ∙ sym (earlier_still now hs (w ∷ coming) (λ z i. elim i [
      | inl same ↦ (let t : time_of z ≡ time_of w = ap time_of same in omega arith)
      | inr b ↦ omega arith
    ])) in
    record {
      left = left_grown hs first keep grown k.left;
      change = a.change;
      before =
          rw same_earlier;
      still = still_aside s hs [] coming w device now quiet.1;
      turned = λ frontier2 it. turned_aside s hs [] coming w device it (rw same_earlier);
      frames = frames_placed s hs [] coming w device (λ z. ap (taken_in device z) body) (λ h i. sooner_of r w h at i);
    }

-- ---- the device that a frame tells the time is kept

-- the record tells the device the time at this instant, and what stands behind it says nothing to the device but of its
-- state, which is that of a joiner
pub record IsJoin (s : Scenario) (hs zs : List Happening) (device : DeviceId) (now : ℕ) (w : Happening) (link : LinkId) (cause : ℕ) (point : Units)
    (frame : Pcf) : Type 0 where
  pub body : w.note.body ≡ kinds.Permanent device link cause point Integrates
  pub of_frame : w.frame ≡ Some frame
  pub at : time_of w ≡ now
  pub whole : earlier (now + 1) (hs ++ w ∷ zs) ≡ hs ++ w ∷ zs
  pub mere : (z : Happening) → IsIn z zs → IsMere device z.note.body
  pub joining : state_after s (hs ++ w ∷ zs) device ≡ Joining

-- what a fold makes of the lists
at_join : {B : Type 0} (f : B → Happening → B) (z : B) (hs zs : List Happening) (w : Happening) → ((h : Happening) → IsIn h zs → (b : B) → f b h ≡ b)
    → fold f z (hs ++ w ∷ zs) ≡ f (fold f z hs) w
at_join f z hs zs w same = ap (fold f z) (sym (append_assoc hs (w ∷ []) zs)) ∙ fold_rest f z (hs ++ w ∷ []) zs same ∙ fold-append f z hs (w ∷ [])

module _ {s : Scenario} {hs zs : List Happening} {device : DeviceId} {now : ℕ} {w : Happening} {link : LinkId}
    {cause : ℕ} {point : Units} {frame : Pcf} where
  pub joined_changes : IsJoin s hs zs device now w link cause point frame
      → changed_at (hs ++ w ∷ zs) device (now + 1) ≡ now
  joined_changes j =
      let p = λ (h : Happening). changes_adjustment device h.note.body in
      let changes : p w ≡ true = ap (changes_adjustment device) j.body ∙ self device in
      rw j.whole
      (ap (λ l. option_map_or time_of (last_or None l) 0)
      (ap (filter p) (sym (append_assoc hs (w ∷ []) zs))
      ∙ filter_rest p (hs ++ w ∷ []) zs (λ z i. mere_changes device z.note.body (j.mere z i))
      ∙ Rattle.world_law.proofs.lists.Lists.filter_yes p hs w changes)
      ∙ ap (λ o. option_map_or time_of o 0) (last_behind (filter p hs) [] w None) ∙ j.at)

  pub left_joined : (node : Node) (moment : Moment) (phase : Phase)
      → IsJoin s hs zs device now w link cause point frame → moment.reading.0 ≡ pos (s.reading device now)
      → node.standing.plan ≡ plan_of s.network device → node.broken ≡ is_broken s device (now + 1)
      → is_turned_on_at s device (now + 1) ≡ false → is_cm s.network device ≡ false
      → IsLeft s (hs ++ w ∷ zs) device (now + 1) (called moment phase (with_joined node moment frame point))
  left_joined node moment phase j reads plan broken off other =
      let js = hs ++ w ∷ zs in
      let u = now + 1 in
      let e = j.body in
      let joined : is_joined_by device w.note.body ≡ true = ap (is_joined_by device) e ∙ self device in
      let of_cycle : cycle_in w ≡ frame.cycle = rw j.of_frame in
      let adjusted : adjustment_after s js device ≡ joined_adjustment s device (cycle_in w) point =
      grind (arith, at_join, adjustment_with, cycle_in, mere_adjustment, adjustment_after, self) in
      let integration : integration_cycle js device ≡ Some (cycle_in w) =
      grind (arith, at_join, is_joined_by, cycle_in, mere_joins, integration_cycle) in
      let recorded : recorded_cycle js device ≡ cycle_in w =
      grind (arith, at_join, cycle_after, mere_cycle, recorded_cycle, cycle_in, self) in
      let changed = joined_changes j in
      let change : change_in device js ≡ now =
      rw (sym j.whole) changed in
      let at : u - 1 ≡ now = omega arith in
      let local : local_in s device js ≡ (pos (s.reading device now) +ℤ (adjustment_after s js device).0) =
      rw change in
      let v = correction_value s.network (recorded_cycle js device) in
      let none = and_right (is_integration_cycle js device) _
      (ap (λ z. int_lt z v && int_le v (pos (s.reading device (u - 1)) +ℤ (adjustment_after s js device).0)) local
      ∙ ap (λ n. int_lt (pos (s.reading device now) +ℤ (adjustment_after s js device).0) v
      && int_le v (pos (s.reading device n) +ℤ (adjustment_after s js device).0)) at
      ∙ not_yet (pos (s.reading device now) +ℤ (adjustment_after s js device).0) v) in
      let own : joined_adjustment s device (cycle_in w) point ≡ (joined_by node.standing.plan frame point).adjustment =
      rw of_cycle (ap
      (λ p. (joined_by p frame point).adjustment) (sym plan)) in
      let p = λ (h : Happening). nat_lt (time_of h) u && changes_adjustment device h.note.body in
      let here : p w ≡ true = rw (lt-ltb (time_of w) u (let w_now = j.at in omega arith))
      (ap (changes_adjustment device) e ∙ self device) in
      let since = behind_it p hs zs w here
      (λ h i. and_right (nat_lt (time_of h) u) _ (mere_changes device h.note.body (j.mere h i))) in
      let k = λ (h : Happening). not (has_cleared s js device u u) || has_cleared s js device u (time_of h) in
      let hear = λ (h : Happening). hearing_by s.network device h h.note.body in
      let anew : heard_since s js device u ≡ [] = rw since
      (maps_rest hear [] (filter k zs) (λ h i. mere_hears s.network device h h.note.body
      (j.mere h (Rattle.run_law.proofs.law.FirstDeliveries.in_filter k zs h i))))
      in
      record {
        counted = record {
          plan = plan;
          adjustment = sym own ∙ sym adjusted ∙ ap (λ l. adjustment_after s l device) (sym j.whole);
          integrated = sym (rw of_cycle) ∙ sym integration ∙ ap
              (λ l. integration_cycle l device) (sym j.whole);
          number = grind (arith, recorded_cycle, next_in);
          changed = grind (arith, local_in);
          heard = λ timed. sym anew;
          started = grind (arith, integration_cycle, recorded_cycle, cycle_in);
          broken = broken;
        };
        state = sym j.joining ∙ ap (λ l. state_after s l device) (sym j.whole) ∙ sym
            (not_turned_on s js device u off);
        points = λ cm. absurd (both_ways (is_cm s.network device) other cm);
      }

-- ---- a device that a frame tells the time was looking for it

looking_of : (b : Bool) (state : State) → Integrating ≡ (if b then Joining else state) → state ≡ Integrating
looking_of true state e = absurd cc
looking_of false state e = sym e

pub was_looking : {s : Scenario} {hs : List Happening} {now : ℕ} (e : Waiting) {node : Node}
    → Hears s hs e.device now node → is_cm s.network e.device ≡ false
    → Rattle.run_law.specs.machines.Answers.IsPermanenceOutcomeAt s.network e.device node e.frame e.point
    ripe.Integrates → state_before s hs e.device now ≡ Integrating
was_looking e hears other so =
    grind (arith, looking_ripe, plan_of, observation_window, is_cm, looking_of, has_joined_at, state_before)

-- ---- it is kept

pub kept_joined : {M : Type 0} {stands : M → Network → DeviceId → Node → Type 0} {s : Scenario}
    {hs coming zs : List Happening} {now : ℕ} {e : Waiting} {machine : M} (after : M)
    {w : Happening} (r : IsRipe s hs coming now e)
    (k : IsKept stands s hs coming (now ∷ 3 ∷ ripe_more e) now e.device machine) → stands after s.network e.device
    (called (moment_of s e.device now) ripening (with_joined k.node (moment_of s e.device now) e.frame e.point))
    → is_cm s.network e.device ≡ false → pos 0 ≤ℤ s.network.precision.0
    → state_before s hs e.device now ≡ Integrating → IsJoin s hs zs e.device now w e.link e.cause e.point e.frame
    → ((z : Happening) → IsIn z zs → time_of z ≡ now) →
    ((frontier2 : List ℕ) → HasTurnedOn s hs coming frontier2 e.device now
    → HasTurnedOn s hs (w ∷ zs) frontier2 e.device now) → frames_taken s (hs ++ coming) e.device
    ≡ frames_taken s (hs ++ w ∷ zs) e.device → IsKept stands s hs (w ∷ zs)
    (behind (now ∷ 3 ∷ ripe_more e)) now e.device after
kept_joined {s} {hs} {zs} {now} {e} after {w} r k is other precise looking j times turns frames =
    let device = e.device in
    let moment = moment_of s device now in
    let new = called moment ripening (with_joined k.node moment e.frame e.point) in
    let here = now ∷ 3 ∷ ripe_more e in
    let sound = k.left.counted.broken
    ∙ same_breaks k.up (elim k.acted [ inl yet ↦ inl yet.0 | inr over ↦ inr over.0 ]) in
    let changed = joined_changes j in
    let at = j.at in
    let same : earlier now (hs ++ w ∷ zs) ≡ earlier now hs = grind (arith, earlier_still, time_of) in
    let off = not_on_after (now + 1) device r.befallen (omega arith) in
    record {
      node = new;
      is = is;
      sound = k.sound;
      up = now + 1;
      acted = inr (refl, λ p b. chain p here (behind here) (before_place p now (ripe_more e) b) (before_behind here));
      told = λ over.
          inr (inl (record {
            looking = rw same looking;
            other = other;
          }));
      left = left_joined k.node moment ripening j refl k.left.counted.plan sound off other;
      taken = k.taken ∙ frames;
      worked = record {
        undone = λ deed u x from lt.
            let now_is : x ≡ now = omega arith in
            let ahead = u.ahead in
            rw now_is (omega (arith, ints));
        done = λ deed there. absurd (none_in deed there);
        unsent = λ sent waits x lt. absurd (both_ways (is_cm s.network device) other waits.cm);
        sent = λ sent there. absurd (none_in sent there);
      };
      bare = λ not_cm. (refl, refl);
      ready = record {
        time = omega (arith, ints);
        begun = omega (arith, ints);
        last = refl;
        undone = λ task p x lt. later_task task p x (omega arith);
        in_time = λ task p. let late = later_task task p now (omega arith) in omega (arith, ints);
      };
      still = λ same_up. absurd (too_soon now same_up);
      turned = λ on. turns (behind here) (turned_by r.moving (k.turned on));
      cleared = λ cycle there. absurd (none_in (correcting cycle) there);
      phase = λ at p b. chain p here (behind here) (before_place p now (ripe_more e) b) (before_behind here);
    }
  where
    same_breaks : (up : ℕ) → (up ≡ now) ⊎ (up ≡ now + 1) → is_broken s e.device up ≡ is_broken s e.device (now + 1)
    same_breaks up (inl at) = ap (is_broken s e.device) at ∙ sym (no_later_breaks s _ now (now + 1) e.device r.befallen (omega arith))
    same_breaks up (inr at) = ap (is_broken s e.device) at

    too_soon : (now : ℕ) → now + 1 ≡ now → ⊥
    too_soon now e = omega arith

    later_task : (task : Task)
        → IsPending s.network e.device (called (moment_of s e.device now) ripening (with_joined k.node (moment_of s e.device now) e.frame e.point)) task
        → (x : ℕ) → x ≤ now → pos (s.reading e.device x) <ℤ reading_for s.network
        (called (moment_of s e.device now) ripening (with_joined k.node (moment_of s e.device now) e.frame e.point)) task
    later_task (emitting sent) p x le = absurd (both_ways (is_cm s.network e.device) other p.1.cm)
    later_task (doing deed) p x le =
        let ahead = p.1.ahead in
        let fell = r.steady.never_falls x now le in
        omega (arith, ints)

-- ---- the machine answers, and its device is kept, whatever becomes of the frame

-- A device that a world keeps may be called, as its source comes.

pub may_call : {M : Type 0} {stands : M → Network → DeviceId → Node → Type 0} {s : Scenario}
    {hs coming : List Happening} {frontier : List ℕ} {now : ℕ} {device : DeviceId} {machine : M} (phase : Phase)
    (more : List ℕ) (k : IsKept stands s hs coming frontier now device machine)
    → IsSteady (s.reading device) (amount s.network.precision) → now ≤ 2 ^ 60
    → (IsBefore (now ∷ rank_of_call phase ∷ more) frontier → ⊥)
    → MayCall s.network device k.node (moment_of s device now) phase
may_call {s} {now} phase more k steady limit waits =
    let last = whole k.node.last.time.0 k.ready.begun in
    let time = k.ready.time in
    let read = k.ready.last in
    let fell = steady.never_falls (amount k.node.last.time) now (omega (arith, ints)) in
    let low = steady.low now limit in
    record {
      later = record {
        time = time;
        reading = omega (arith, ints);
        early_enough = omega (arith, ints);
        low_enough = omega (arith, ints);
      };
      in_order = λ same.
          let at : k.node.last.time.0 ≡ pos now = sym (ap (λ u. u.0) same) in
          let a = ranked_so phase in
          let b = ranked_so k.node.phase in
          elim (cases_lt (order_of_phase phase) (order_of_phase k.node.phase)) [
            | inr ge ↦ ge
            | inl lt ↦ absurd (waits (k.phase at (now ∷ rank_of_call phase ∷ more) (inr (refl, inl (omega arith)))))
          ];
      all_done = λ before task p.
          let lt : amount k.node.last.time < now = omega (arith, ints) in
          rw read (k.ready.undone task p (amount k.node.last.time) lt);
      in_time = λ task p. k.ready.in_time task p;
    }

-- ---- the machine answers

-- what the machine answered of its device, and how it stands
pub record IsAnswered {M : Type 0} (stands : M → Network → DeviceId → Node → Type 0) (s : Scenario) (hs : List Happening) (now : ℕ) (e : Waiting) (node : Node)
    (after : M) (result : Ripe) : Type 0 where
  pub hears : Hears s hs e.device now node
  pub outcome : IsPermanenceOutcomeAt s.network e.device node e.frame e.point result
  pub is : stands after s.network e.device (called (moment_of s e.device now) ripening
      (after_permanence node (moment_of s e.device now) (channel_of_link s.network e.link) e.frame e.point result))

both_flags : (a b : Bool) → Rattle.std.specs.Prelude.◌&&◌ (Rattle.std.specs.Prelude.not a) (Rattle.std.specs.Prelude.not b) ≡ true → (a ≡ false) × (b ≡ false)
both_flags false false e = (refl, refl)
both_flags false true e = absurd cc
both_flags true b e = absurd cc

pub hears_now : {M : Type 0} {stands : M → Network → DeviceId → Node → Type 0} {s : Scenario}
    {hs coming : List Happening} {now : ℕ} {e : Waiting} {machine : M}
    (r : IsRipe s hs coming now e) (k : IsKept stands s hs coming (now ∷ 3 ∷ ripe_more e) now e.device machine)
    → Hears s hs e.device now k.node
hears_now {stands} {s} {hs} {coming} {e} {machine} r k =
    let yet = is_yet r k in
    elim yet.stands [
      | inl here ↦ hears_before r (rw here at k.left) (k.still here)
      | inr over ↦ hears_told over.1 (rw over.0 at k.left)
    ]

-- what the machine is asked may be asked
pub record IsAsked (s : Scenario) (hs : List Happening) (now : ℕ) (e : Waiting) (node : Node) : Type 0 where
  pub hears : Hears s hs e.device now node
  pub call : MayCall s.network e.device node (moment_of s e.device now) ripening
  pub hearing : IsHearing s.network e.device node
  pub ripens : MayRipen s.network e.device node (moment_of s e.device now) e.link e.frame e.point

module _ {M : Type 0} {stands : M → Network → DeviceId → Node → Type 0} {s : Scenario} {hs coming : List Happening}
    {now : ℕ} {e : Waiting} {machine : M} where
  pub may_be_asked : (r : IsRipe s hs coming now e)
      (k : IsKept stands s hs coming (now ∷ 3 ∷ ripe_more e) now e.device machine)
      → (IsParentOf s.network e.device e.link → IsOfMaster s.network e.device e.link e.frame.members)
      → IsAsked s hs now e k.node
  may_be_asked r k master =
      let device = e.device in
      let yet = is_yet r k in
      let hears = hears_now r k in
      let c = come_of s hs e r.it r.run.founded in
      let sound = sound_of r.it c in
      let arrival = r.it.arrival in
      let t0 = time_of arrival in
      let flags = both_flags (is_off (state_before s c.front device t0)) (is_broken s device t0) sound.takes_part in
      let at = link_of s.network device e.link c.so.arrives.way
      (received s.network device e.link c.so.arrives.way c.so.arrives.receiver) in
      let le = r.past arrival (Rattle.run_law.proofs.law.FirstDeliveries.numbered_in hs e.cause arrival r.it.there) in
      let inside : (h : Happening) → IsIn h c.front → IsIn h hs =
      λ h i. rw c.whole (in_left h c.front (arrival ∷ c.rest) i) in
      let on = still_on c.front t0 device r.run (λ p b. chain p (now ∷ []) (now ∷ 3 ∷ ripe_more e) b (inr (refl, tt))) r.befallen le inside flags.0 flags.1 in
      let broken = k.left.counted.broken ∙ elim yet.stands [
        | inl here ↦ ap (is_broken s device) here ∙ k.sound
        | inr over ↦ ap (is_broken s device) over.0 ∙ no_later_breaks s _ now (now + 1) device r.befallen
            (omega arith) ∙ k.sound
      ] in
      let hearing : IsHearing s.network device k.node = record {
        linked = (e.link, at);
        on = ap is_off hears.state ∙ joined_or (has_joined_at hs device now) (state_before s hs device now) on;
        sound = broken;
      } in
      let call = may_call ripening (ripe_more e) k r.steady r.limit (never_self (now ∷ 3 ∷ ripe_more e)) in
      let points : (p : Point) → IsIn p k.node.points → p.reading ≤ℤ e.point.0 =
      λ p i. elim (cases_Bool (is_cm s.network device)) [
        | inl cm ↦ points_no_later r (all_late r.moving r.run.within) p
            (rw (k.left.points cm) at i)
        | inr other ↦ absurd (rw (k.bare other).0 at i)
      ] in
      let emitted : (x : Compressed) → Contains k.node.emitted x → x.at.0 ≤ℤ e.point.0 =
      λ x there. elim (cases_Bool (is_cm s.network device)) [
        | inl cm ↦ elim yet.stands [
          | inl here ↦ emitted_no_later r
              (rw here at (rests_yet r k).sent) x there
          | inr over ↦ absurd (both_ways (is_cm s.network device) over.1.just.other cm)
        ]
        | inr other ↦ absurd (Rattle.compression.proofs.Growth.in_none x
            (rw (k.bare other).1 at there))
      ] in
      record { hears = hears; call = call; hearing = hearing; ripens = may_ripen r k.ready master points emitted }

  pub answered : (after : M) (result : Ripe) (r : IsRipe s hs coming now e)
      (k : IsKept stands s hs coming (now ∷ 3 ∷ ripe_more e) now e.device machine)
      → (IsParentOf s.network e.device e.link → IsOfMaster s.network e.device e.link e.frame.members)
      → HasRipened stands s.network e.device (moment_of s e.device now) e.link e.frame e.point result machine after
      → IsAnswered stands s hs now e k.node after result
  answered after result r k master has =
      search (arith, may_be_asked)

-- ---- places of what is to come

pub not_before_high : (now : ℕ) (more : List ℕ) (z : Happening) → time_of z ≡ now → 4 ≤ rank z.note.body → IsBefore (place_of z) (now ∷ 3 ∷ more) → ⊥
not_before_high now more z at high b = grind (arith, no_higher, time_of, rank, key, members_in)

-- each of those to come, with one more put in, stands so
pub placed_high : (now : ℕ) (front back : List Happening) (w : Happening)
    → ((z : Happening) → IsIn z (front ++ back) → (time_of z ≡ now) × (4 ≤ rank z.note.body))
    → (z : Happening) → IsIn z (front ++ w ∷ back) → (z ≡ w) ⊎ ((time_of z ≡ now) × (4 ≤ rank z.note.body))
placed_high now front back w high z i = elim (placed_back [] front back w z i) [ inl same ↦ inl same | inr was ↦ inr (high z was) ]

pub high_now : {s : Scenario} {hs coming : List Happening} {now : ℕ} {e : Waiting}
    → IsRipe s hs coming now e → (z : Happening) → IsIn z coming
    → (time_of z ≡ now) × (4 ≤ rank z.note.body)
high_now {s} {hs} {coming} {now} r z i =
    (r.moving.are.of_now z i, all_high r z i)

-- ---- the frame is collected, or heard

pub quiet_kept : {M : Type 0} {stands : M → Network → DeviceId → Node → Type 0} {s : Scenario} {hs : List Happening}
    (front back : List Happening) {now : ℕ} {e : Waiting} {machine after : M} (w : Happening)
    (verdict : Judgement) (r : IsRipe s hs (front ++ back) now e)
    (k : IsKept stands s hs (front ++ back) (now ∷ 3 ∷ ripe_more e) now e.device machine)
    → IsAnswered stands s hs now e k.node after (ripe_as verdict) → IsByRole (is_cm s.network e.device) verdict
    → w.note.body ≡ kinds.Permanent e.device e.link e.cause e.point verdict → w.frame ≡ Some e.frame
    → time_of w ≡ now → place_of w ≡ now ∷ 3 ∷ ripe_more e → AllBefore place_of front (place_of w)
    → IsKept stands s hs (front ++ w ∷ back) (behind (now ∷ 3 ∷ ripe_more e)) now e.device after
quiet_kept {s} {hs} [] back {now} {e} {after} w verdict r k a role body of_frame at place before =
    kept_next after
    (after_permanence k.node (moment_of s e.device now) (channel_of_link s.network e.link) e.frame e.point (ripe_as verdict)) r k a.is
    (carried_by_role k.node verdict r role (λ cm q i.
    points_no_later r (all_late r.moving r.run.within) q
    (rw (k.left.points cm) at i)))
    (next_by_role w verdict r k a.hears role body of_frame at)
quiet_kept (f ∷ front) back w verdict r k a role body of_frame at place before =
    absurd (r.moving.are.after f (inl refl) (subst (λ q. IsBefore (place_of f) q) place (before f (inl refl))))

-- ---- it is dropped

pub dropped_kept : {M : Type 0} {stands : M → Network → DeviceId → Node → Type 0} {s : Scenario}
    {hs : List Happening} (front back : List Happening) {now : ℕ} {e : Waiting}
    {machine after : M} (w : Happening) (reason : Reason) (r : IsRipe s hs (front ++ back) now e)
    (k : IsKept stands s hs (front ++ back) (now ∷ 3 ∷ ripe_more e) now e.device machine)
    → IsAnswered stands s hs now e k.node after (ripe.Dropped reason)
    → Rattle.world_law.specs.device.Own.bears_on e.device w.note.body ≡ false → IsNoTaking e.device w.note.body
    → IsKept stands s hs (front ++ w ∷ back) (behind (now ∷ 3 ∷ ripe_more e)) now e.device after
dropped_kept {s} {hs} front back {now} {e} {after} w reason r k a misses none =
    kept_next after k.node r k a.is (carried_called s e k.node now)
    (next_aside hs front back now w misses none
    (left_called (moment_of s e.device now) ripening k.left))

-- ---- it tells the time

stirs_state : (device : DeviceId) (body : NoteBody) → IsLateKind body → stirs device body ≡ true → (it : AsState body) × (device.0 ≡ it.device.0)
stirs_state device (kinds.State other state cause why) late e =
    (record { device = other; state = state; cause = cause; why = why; is = refl }, eqb-true device.0 other.0 e)
stirs_state device other late e = absurd (grind arith)

pub joined_kept : {M : Type 0} {stands : M → Network → DeviceId → Node → Type 0} {s : Scenario}
    {hs back : List Happening} (f2 back2 : List Happening) {now : ℕ} {e : Waiting}
    {machine after : M} (w v : Happening) (r : IsRipe s hs back now e)
    (k : IsKept stands s hs back (now ∷ 3 ∷ ripe_more e) now e.device machine)
    → IsAnswered stands s hs now e k.node after ripe.Integrates → pos 0 ≤ℤ s.network.precision.0
    → w.note.body ≡ kinds.Permanent e.device e.link e.cause e.point judgements.Integrates → w.frame ≡ Some e.frame
    → time_of w ≡ now → back ≡ f2 ++ back2 → v.note.body ≡ kinds.State e.device Joining (length hs + 1) whys.Frame
    → time_of v ≡ now → NoneBefore place_of back2 (place_of v)
    → IsKept stands s hs ((w ∷ f2) ++ v ∷ back2) (behind (now ∷ 3 ∷ ripe_more e)) now e.device after
joined_kept {s} {hs} {back} f2 back2 {now} {e} {after} w v r k a precise body of_frame at parts v_body v_at none =
    let device = e.device in
    let n = length hs + 1 in
    let zs = f2 ++ v ∷ back2 in
    let late = all_late r.moving r.run.within in
    let kind = outcome_kind s.network device k.node.standing.state k.node.standing.adjustment.0 k.node.points e.frame e.point.0
    ripe.Integrates a.outcome in
    let other : is_cm s.network device ≡ false = elim (cases_Bool (is_cm s.network device)) [
      | inr no_cm ↦ no_cm
      | inl cm ↦ absurd (rw cm at kind)
    ] in
    let was : (z : Happening) → IsIn z (f2 ++ back2) → IsIn z back = λ z i. rw parts i in
    let of : (z : Happening) → IsIn z zs → (time_of z ≡ now) × IsMere device z.note.body = λ z i. elim (placed_back [] f2 back2 v z i) [
      | inl same ↦ (
        ap time_of same ∙ v_at,
        rw same (subst (IsMere device) (sym v_body) tt),
      )
      | inr old ↦ (r.moving.are.of_now z (was z old), late_mere device z.note.body (late z (was z old)))
    ] in
    let past : (h : Happening) → IsIn h (hs ++ w ∷ zs) → time_of h ≤ now = λ h i. elim (in_parts h hs (w ∷ zs) i) [
      | inl given ↦ r.past h given
      | inr (inl same) ↦ (let t : time_of h ≡ time_of w = ap time_of same in omega arith)
      | inr (inr more) ↦ let t = (of h more).0 in omega arith
    ] in
    let sets : (old : State) → state_with device old v.note.body ≡ Joining = λ old.
    ap (state_with device old) v_body ∙ ap (λ (b : Bool). if b then Joining else old) (eq-eqb device.0 device.0 refl) in
    let rests : (h : Happening) → IsIn h back2 → state_with device Joining h.note.body ≡ Joining = λ h i.
    let x = was h (in_right h f2 back2 i) in
    elim (cases_Bool (stirs device h.note.body)) [
      | inr quiet ↦ was_on device Joining h.note.body quiet
      | inl stirred ↦
          let st = stirs_state device h.note.body (late h x) stirred in
          let few = causes_given r.moving (omega arith) h x st.0 in
          let same = st.1 in
          let under : IsBefore (now ∷ 7 ∷ st.0.device.0 ∷ st.0.cause ∷ []) (now ∷ 7 ∷ device.0 ∷ n ∷ []) =
          inr (refl, inr (refl, inr (sym same, inl (omega arith)))) in
          let h_at : place_of h ≡ now ∷ 7 ∷ st.0.device.0 ∷ st.0.cause ∷ [] =
          rw (r.moving.are.of_now h x)
          (ap (λ b. now ∷ rank b ∷ key (members_in h) b) st.0.is) in
          let v_is : place_of v ≡ now ∷ 7 ∷ device.0 ∷ n ∷ [] =
          rw v_at
          (ap (λ b. now ∷ rank b ∷ key (members_in v) b) v_body) in
          absurd (none h i (subst (λ q. IsBefore q (place_of v)) (sym h_at)
          (subst (λ q. IsBefore (now ∷ 7 ∷ st.0.device.0 ∷ st.0.cause ∷ []) q) (sym v_is) under)))
    ] in
    let joining : state_after s (hs ++ w ∷ zs) device ≡ Joining =
    rw (sym (append_assoc hs (w ∷ f2) (v ∷ back2)))
    (ends_in device _ Joining (hs ++ w ∷ f2) back2 v sets rests) in
    let j : IsJoin s hs zs device now w e.link e.cause e.point e.frame = record {
      body = body;
      of_frame = of_frame;
      at = at;
      whole = next_is_up_to now (hs ++ w ∷ zs) ∙ all_up_to now (hs ++ w ∷ zs) past;
      mere = λ z i. (of z i).1;
      joining = joining;
    } in
    let whole : w ∷ back ≡ (w ∷ f2) ++ back2 = rw parts in
    let early : (l : List Happening) → ((z : Happening) → IsIn z l → time_of z ≡ now) → earlier now (hs ++ l) ≡ earlier now hs = λ l times.
    earlier_still now hs l (λ z i. let t = times z i in omega arith) in
    let states = λ (l : List Happening). state_after s l device in
    let times_back : (z : Happening) → IsIn z back → time_of z ≡ now = λ z i. r.moving.are.of_now z i in
    let times_one : (z : Happening) → IsIn z (w ∷ back) → time_of z ≡ now = λ z i. elim i [
      | inl same ↦ ap time_of same ∙ at
      | inr more ↦ times_back z more
    ] in
    let times_two : (z : Happening) → IsIn z (w ∷ zs) → time_of z ≡ now = λ z i. elim i [ inl same ↦ ap time_of same ∙ at | inr more ↦ (of z more).0 ] in
    kept_joined after r k a.is other precise (was_looking e a.hears other a.outcome) j (λ z i. (of z i).0)
    (λ frontier2 it.
    let first : HasTurnedOn s hs (w ∷ back) frontier2 device now =
    turned_aside s hs [] back w device it (ap states (early back times_back ∙ sym (early (w ∷ back) times_one))) in
    turned_aside s hs (w ∷ f2) back2 v device (rw whole at first)
    (ap states (ap (λ l. earlier now (hs ++ l)) (sym whole) ∙ early (w ∷ back) times_one ∙ sym
    (early (w ∷ zs) times_two))))
    (frames_placed s hs [] back w device (λ z. ap (taken_in device z) body) (λ h i. sooner_of r w h at i)
    ∙ ap (λ (l : List Happening). frames_taken s (hs ++ l) device) whole
    ∙ frames_placed s hs (w ∷ f2) back2 v device (λ z. ap (taken_in device z) v_body) (λ h i. elim (in_parts h hs ((w ∷ f2) ++ back2) i) [
      | inl given ↦ let past = r.past h given in omega arith
      | inr more ↦ let t = times_one h (subst (λ l. IsIn h l) (sym whole) more) in omega (arith, t, v_at)
    ]))
