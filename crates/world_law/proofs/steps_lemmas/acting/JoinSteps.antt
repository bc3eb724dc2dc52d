-- A compression master emits a frame that tells it the time itself, and the frontier goes by.
use Rattle.run_law.proofs.control.Verdicts.{heard_integrates}
use Rattle.world_law.proofs.steps_lemmas.Words.{turned_by, HasCleared, HasDoneTask, HasTurnedOn, Integrating, IsActing, IsAtRest, IsBefore, IsIn}
use Rattle.world_law.proofs.steps_lemmas.Words.{IsSet, IsSource, Joining, Judgement, List, Moment, Network, Node, Note, NoteBody, Scenario, Stands}
use Rattle.world_law.proofs.steps_lemmas.Words.{StandsBehind, Task, World, ℕ, [], ap, append-nil, arith, bears_on, behind, both_ways, cases_Bool}
use Rattle.world_law.proofs.steps_lemmas.Words.{correcting, doing, emitting, eq-eqb, eqb-true, false, frames_taken, happenings}
use Rattle.world_law.proofs.steps_lemmas.Words.{in_left, in_parts, in_right, inl, inr, is_turned_on_at, length, moment_of, ne_eqb, none_in}
use Rattle.world_law.proofs.steps_lemmas.Words.{observation_window, place_of, plan_of, rank, record_of, refl, ripe_as, state_before}
use Rattle.world_law.proofs.steps_lemmas.Words.{◌++◌, ◌+◌, ◌∙◌, ◌∷◌, ◌≡◌, ◌≤◌, ArePutIn, AsState, Compressed, DeviceId, Emits, Happening}
use Rattle.world_law.proofs.{putting.Placing.{IsShownPair, causes_given, change_of, pair_put}}
use Rattle.world_law.proofs.steps_lemmas.{Words.{subst, sym, time_of, true, turned_aside, two_shown}}
use Rattle.world_law.proofs.steps_lemmas.acting.{Correcting.{ChangesIt, joined_over}, FirstStep.two_go_by}
use Rattle.world_law.proofs.steps_lemmas.acting.{Kept.{bare_act, frames_put, kept_over, ready_after}, Over.IsOver}
use Rattle.world_law.proofs.steps_lemmas.acting.OneAct.{IsActOn, all_one, as_put, emission_body, emission_rest}
use Rattle.world_law.proofs.steps_lemmas.acting.OneAct.{taken_then}
use Rattle.world_law.proofs.steps_lemmas.acting.Work.{IsAtWork, all_earlier, earlier_put, emits, node_emitted}
use Rattle.world_law.proofs.steps_lemmas.acting.Work.{own_judgement, put_now}
use Rattle.run_law.specs.declared.judgement.Judgement.TheVariants as judgements
use Rattle.run_law.specs.declared.judgement.Why.TheVariants as whys
use Rattle.run_law.specs.declared.note.NoteBody.TheVariants as kinds
use Rattle.run_law.specs.declared.steps.Act.TheVariants as acts
use Rattle.run_law.specs.declared.steps.Ripe.TheVariants as ripe

-- A compression master that emits a frame by which it joins: what bears on it.

-- ---- who joins, was looking for the common time

pub joins_so : (v : Judgement) → ripe_as v ≡ ripe.Integrates → v ≡ judgements.Integrates
joins_so judgements.Integrates e = refl
joins_so other e = absurd cc

-- ---- what bears on it behind its frame

-- while the device acts, what is to come bears on it only as its frames, or by a change of its state as it was turned on
pub bears_so : (s : Scenario) (device : DeviceId) {now : ℕ} (y : Happening) → 4 ≤ rank y.note.body → time_of y ≡ now
    → IsAtRest s device now y.note.body
    → ((c : Compressed) (u : Judgement) → y.note.body ≡ emission_body device c u → ⊥) → bears_on device y.note.body ≡ true
    → ChangesIt device (now + 1) y × AsState y.note.body
bears_so s device {now} y late at rest not bears = by_body y.note.body refl (subst (IsAtRest s device now) refl rest)
    bears
  where
    by_body : (body : NoteBody) → y.note.body ≡ body → IsAtRest s device now body → bears_on device body ≡ true → ChangesIt device (now + 1) y
        × AsState y.note.body
    by_body (kinds.Permanent other link cause point verdict) e r b =
        absurd (let k : rank y.note.body ≡ 3 = ap rank e in omega arith)
    by_body (kinds.Compressed other opened out cycle members u) e r b =
        absurd (not (record { opened = opened; at = out; cycle = cycle; members = members }) u
        (e ∙ (rw (sym (eqb-true device.0 other.0 b)))))
    by_body (kinds.Corrected other cycle by adjustment) e (inl still) b = absurd (both_ways _ still b)
    by_body (kinds.Corrected other cycle by adjustment) e (inr on) b = absurd (cc)
    by_body (kinds.State other state cause why) e r b = (
      record {
        state = state;
        cause = cause;
        why = why;
        is = e ∙ (rw (sym (eqb-true device.0 other.0 b)));
        before = omega arith;
      },
      record { device = other; state = state; cause = cause; why = why; is = e },
    )
    by_body other e r b = absurd (cc)

-- ---- it looks for the time until then

-- a device that looks for the common time neither sends nor comes to a correction, nor dispatches
pub still_looking : {s : Scenario} {hs coming : List Happening} (front : List Happening) {now : ℕ}
    {device : DeviceId} {node : Node} → IsAtWork s hs coming now device node → node.standing.state ≡ Integrating
    → ((z : Happening) → IsIn z front → time_of z ≡ now) → state_before s (hs ++ front) device now ≡ Integrating
still_looking {s} {hs} {coming} front {now} {device} w looking also =
    rw (all_earlier s hs front coming now also (λ z i. (w.of_now z i).0)) (sym w.left.state ∙ looking)

-- what a step starts from by which the master joins
pub record IsJoining {C M : Type 0} (reading : C → ℕ → ℕ) (stands : M → Network → DeviceId → Node → Type 0) (s : Scenario) (world : World C M)
    (notes : List Note) (old : Stands reading stands s world notes) (device : DeviceId) (machine after : M) (sent : Compressed) (machines : List M)
    (settled : List Happening) : Type 0 where
  pub on : IsActOn reading stands s world notes old device machine after (acts.Emit sent ripe.Integrates)
  pub set : IsSet device.0 after world.machines machines
  pub put : ArePutIn s.network (happenings s.network notes) world.now (emission_body device sent judgements.Integrates
      ∷ kinds.State device Joining (length (happenings s.network notes) + 1) whys.Frame ∷ []) world.settled settled

-- a change of state whose cause is given stands before that which the frame brings
early_change : (n now : ℕ) {device : DeviceId} {z : Happening} (v : Happening) (c : ChangesIt device (now + 1) z)
    → time_of z ≡ now → c.cause ≤ n → place_of v ≡ now ∷ 7 ∷ device.0 ∷ (n + 1) ∷ []
    → IsBefore (place_of z) (place_of v)
early_change n now {device} {z} v c at le place =
    search (arith, place_of)

-- then it has done nothing yet
none_done : (network : Network) (device : DeviceId) (node : Node) (moment : Moment) (sent : Compressed) (task : Task)
    → HasDoneTask (node_emitted network device node moment sent judgements.Integrates) task → ⊥
none_done network device node moment sent (emitting c) has = none_in c has
none_done network device node moment sent (doing deed) has = none_in deed has

pub join_goes_by : {C M : Type 0} {reading : C → ℕ → ℕ} {stands : M → Network → DeviceId → Node → Type 0}
    {s : Scenario} {world : World C M} {notes : List Note} {old : Stands reading stands s world notes}
    {device : DeviceId} {machine after : M} {sent : Compressed} {machines : List M} {settled : List Happening}
    → IsJoining reading stands s world notes old device machine after sent machines settled
    → StandsBehind reading stands s (record world { early = false; machines = machines; settled = settled }) notes
    (world.now ∷ 4 ∷ emission_rest device sent)
join_goes_by {reading} {stands} {s} {world} {notes} {old} {device} {machine} {after} {sent} {settled} x =
    let hs = happenings s.network notes in
    let now = world.now in
    let on = x.on in
    let node = on.node in
    let st = on.st in
    let moment = moment_of s device now in
    let act = on.did in
    let first = act.1.0 in
    let v_is = joins_so (own_judgement s.network device node sent) (sym act.1.1) in
    let looking =
    heard_integrates (plan_of s.network device) (observation_window s.network) node.standing.state node.standing.adjustment.0 sent.at.0 sent.cycle sent.members
    v_is in
    let is = act.1.2 in
    let more = emission_rest device sent in
    let at = now ∷ 4 ∷ more in
    let body = emission_body device sent judgements.Integrates in
    let resting : (h : Happening) → IsIn h world.settled → IsAtRest s device now h.note.body = λ h i.
    st.work.still h (in_right h hs world.settled i) (st.work.of_now h i).0 in
    let sole = causes_given st.moving (omega arith) in
    let q : IsShownPair s.network hs now body device Joining whys.Frame world.settled settled =
    rw x.put.2.2 (two_shown s.network hs now body device Joining whys.Frame (omega arith) (omega arith)
    st.moving.are.after sole x.put.1 x.put.2.1) in
    let n = length hs in
    let w = record_of s.network hs [] now body in
    let v = change_of s.network hs now body q.mid device Joining whys.Frame in
    let new = pair_put s.network hs now body q.mid device Joining whys.Frame q.back in
    let put1 = as_put now w refl (omega arith) in
    let new1_now : (z : Happening) → IsIn z (w ∷ (q.mid ++ q.back)) → time_of z ≡ now = λ z i.
    (put_now [] world.settled st.work put1 z
    (rw q.parts i)).0 in
    let e : Emits s (hs ++ []) device now sent judgements.Integrates =
    rw v_is at (emits [] world.settled sent st.work refl first.pending first.due) in
    let lone_frame : (y : Happening) → IsIn y world.settled → (c : Compressed) (u : Judgement) → y.note.body ≡ emission_body device c u → ⊥ = λ y i c u same.
    let high = st.above y i in
    let four : rank y.note.body ≡ 4 = ap rank same in
    omega arith in
    let in_mid : (z : Happening) → IsIn z q.mid → IsIn z world.settled = λ z i. rw q.parts (in_left z q.mid q.back i) in
    let in_rest : (z : Happening) → IsIn z q.back → IsIn z world.settled =
    λ z i. rw q.parts (in_right z q.mid q.back i) in
    let changes_it : (z : Happening) → IsIn z world.settled → bears_on device z.note.body ≡ true → ChangesIt device (now + 1) z = λ z i b.
    (bears_so s device z (st.work.of_now z i).1 (st.work.of_now z i).0 (resting z i) (lone_frame z i) b).0 in
    let over : IsOver s (hs ++ new) now device act.0 = rw is
    (joined_over s hs [] q.mid q.back now device node w v sent (n + 1) moment st.work.left.counted.plan
    (st.work.left.counted.broken ∙ sym st.calm.broken) st.calm.off st.calm.falls refl refl refl refl refl refl
    (λ z i b. changes_it z (in_mid z i) b)
    (λ z i. elim (cases_Bool (bears_on device z.note.body)) [
      | inr none ↦ none
      | inl b ↦
          let c = changes_it z (in_rest z i) b in
          let it : AsState z.note.body = record { device = device; state = c.state; cause = c.cause; why = c.why; is = c.is } in
          absurd (q.none z i (early_change n now v c
          (st.work.of_now z (in_rest z i)).0 (sole z (in_rest z i) it) refl))
    ])) in
    let ready = ready_after s act.0 (acts.Emit sent ripe.Integrates) st.work.ready st.steady st.precise st.wide on.may
    act.1
    (rw is) in
    let cleared : HasCleared act.0 = subst HasCleared (sym is) (λ m there. absurd (none_in (correcting m) there)) in
    let new_now : (z : Happening) → IsIn z new → time_of z ≡ now = λ z i. elim (in_parts z (w ∷ q.mid) (v ∷ q.back) i) [
      | inl f ↦ new1_now z (in_left z (w ∷ q.mid) q.back f)
      | inr (inl same) ↦ ap time_of same
      | inr (inr b) ↦ new1_now z (in_right z (w ∷ q.mid) q.back b)
    ] in
    let there = inl refl in
    let here = behind at in
    let none_w : (at : _) → Rattle.world_law.specs.device.Takings.taken_in device at w.note.body ≡ [] = λ at. refl in
    let earlier2 =
    all_earlier s hs (w ∷ (q.mid ++ q.back)) new now new1_now new_now in
    let turned : is_turned_on_at s device now ≡ true → HasTurnedOn s hs new here device now = λ on.
    turned_aside s hs (w ∷ q.mid) q.back v device
    (rw q.parts at (turned_aside s hs [] world.settled w device
    (turned_by st.moving (st.turned on))
    (rw (earlier_put [] world.settled st.work put1))))
    (rw earlier2) in
    two_go_by on.here st q on.room
    (record {
      own = λ m. refl;
      here = IsSource.acting now device (emitting sent) (IsActing.emits sent judgements.Integrates e);
      caused = e;
      stands = refl;
      acts = λ six. absurd (omega arith);
      apart = λ other not. (ne_eqb other.0 device.0 not, λ at. refl);
      of_it = refl;
      follows = inl refl;
      changes = λ there. (refl, (w, there, eq-eqb device.0 device.0 refl));
    })
    (all_one s hs new {now = now} {r = 4} {more = more} w (omega arith) (omega arith) there refl)
    (kept_over stands after act.2 st.work.sound over ready cleared
    (rw is (taken_then [] world.settled w st refl none_w
    ∙ ap (λ l. frames_taken s (hs ++ w ∷ l) device) q.parts
    ∙ frames_put s hs (w ∷ q.mid) q.back now v device
    (λ h i. elim (in_parts h hs (w ∷ (q.mid ++ q.back)) i) [
      | inl given_one ↦ st.work.past h (in_left h hs world.settled given_one)
      | inr later_one ↦ let at = new1_now h later_one in omega arith
    ]) refl (λ at. refl)))
    (bare_act s.network device node moment (acts.Emit sent ripe.Integrates) act.0 act.1 st.bare)
    turned (rw is) st.calm.falls
    (λ task has. absurd (none_done s.network device node moment sent task (rw is at has)))
    st.reach
    (inr (record {
      looking = rw (sym (append-nil hs))
          (still_looking [] st.work looking (λ z i. absurd i));
      by = w;
      there = there;
      sent = refl;
      joins = eq-eqb device.0 device.0 refl;
    }))) x.set
