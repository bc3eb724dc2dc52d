-- The steps by which a device comes to its correction point.
use Rattle.run_law.specs.machines.Answers.{after_correction}
use Rattle.world_law.{specs.{steps.Acting.correction_bodies, world.Calls.IsStateOf}}
use Rattle.world_law.proofs.{putting.{Moving.{settled_moves, stays}, Putting.corrected_unfollowed}}
use Rattle.world_law.proofs.steps_lemmas.{Words.{with_clique, ℕ}}
use Rattle.world_law.proofs.steps_lemmas.acting.{Kept.{IsBare, bare_act, kept_over, out_by_acts, ready_after}}
use Rattle.world_law.proofs.steps_lemmas.acting.{Over.IsOver}
use Rattle.world_law.proofs.steps_lemmas.acting.Correcting.{cleared_more, cleared_over, clique_change, clique_over}
use Rattle.world_law.proofs.steps_lemmas.acting.Correcting.{corrected_over, still_now}
use Rattle.world_law.proofs.steps_lemmas.acting.OneAct.{IsActOn, IsActRecordAt, StageAt, as_put, one_goes_by}
use Rattle.world_law.proofs.steps_lemmas.acting.OneAct.{still_came, taken_then, turned_then}
use Rattle.world_law.proofs.steps_lemmas.acting.Points.{HasOutcome, IsAtPoint, IsClique, IsCorrectedSo, all_point}
use Rattle.world_law.proofs.steps_lemmas.acting.Points.{at_point, clique_record, corrected_record, grown_none}
use Rattle.world_law.proofs.steps_lemmas.acting.Points.{grown_one, no_frames, none_at_point, not_on}
use Rattle.world_law.proofs.steps_lemmas.Words.{StandsHere, turned_by, ◌++◌, ◌+ℤ◌, ◌+◌, ◌<◌, ◌∙◌, ◌∷◌, ◌≡◌, ◌≤◌, ArePutIn, AsyncClique, Cleared, Corrected, DeviceId}
use Rattle.world_law.proofs.steps_lemmas.Words.{Happening, HasCleared, Integrating, IsBefore, IsIn, IsNoTaking, IsReadyAt, IsSet}
use Rattle.world_law.proofs.steps_lemmas.Words.{IsShownPut, Joining, List, Network, Node, Note, NoteBody, Scenario, Stands, StandsBehind}
use Rattle.world_law.proofs.steps_lemmas.Words.{State, Summary, SyncClique, Synchronised, Units, Verdict, Why, World, [], acting, adjustment_by}
use Rattle.world_law.proofs.steps_lemmas.Words.{arith, behind, called, correcting, doing, earlier_still, ends_stretch}
use Rattle.world_law.proofs.steps_lemmas.Words.{false, happenings, if◌then◌else◌, in_right, inl, inr, length}
use Rattle.world_law.proofs.steps_lemmas.Words.{moment_of, none_in, numbers_end, one_shown, place_of, point_number, rank, acts_on, devices_then}
use Rattle.world_law.proofs.steps_lemmas.Words.{record_of, refl, state_by, subst, sym, true}
use Rattle.world_law.proofs.steps_lemmas.Words.{◌⊎◌, Bool, Compressed, Contains-push_cases, HadComeTo, HasDoneTask, Moment, Task, before_behind}
use Rattle.world_law.proofs.steps_lemmas.Words.{change_still, changed_at, emitting, is_synchronised, rows_place, task_place}
use Rattle.std.proofs.Common.{Contains}
use Rattle.run_law.specs.declared.note.NoteBody.TheVariants as kinds
use Rattle.run_law.specs.declared.steps.Act.TheVariants as acts

-- what a step starts from by which the device comes to its correction point
pub record IsCorrecting {C M : Type 0} (reading : C → ℕ → ℕ) (stands : M → Network → DeviceId → Node → Type 0) (s : Scenario) (world : World C M)
    (notes : List Note) (old : Stands reading stands s world notes) (device : DeviceId) (machine after : M) (cycle : ℕ) (verdict : Verdict) (was : State)
    (adjustment : Units) (machines : List M) (settled : List Happening) : Type 0 where
  pub on : IsActOn reading stands s world notes old device machine after (acts.Correct cycle verdict)
  pub before : Units
  pub stood : IsStateOf stands s.network device machine was before
  pub state : State
  pub stands_then : IsStateOf stands s.network device after state adjustment
  pub set : IsSet device.0 after world.machines machines
  pub put : ArePutIn s.network (happenings s.network notes) world.now
      (correction_bodies (length (happenings s.network notes) + 1) device was cycle adjustment verdict) world.settled settled

-- the device behind its correction point
pub record IsThen {M : Type 0} (stands : M → Network → DeviceId → Node → Type 0) (s : Scenario) (hs new : List Happening) (now : ℕ) (device : DeviceId)
    (machine : M)
    (node after : Node) : Type 0 where
  pub is : stands machine s.network device after
  pub over : IsOver s (hs ++ new) now device after
  pub ready : IsReadyAt (s.reading device) s.network device after now
  pub cleared : HasCleared after
  pub taken : after.taken ≡ node.taken
  pub bare : IsBare s.network device after
  pub phase : after.phase ≡ acting
  pub worked : (task : Task) → HasDoneTask after task
      → HadComeTo s device after (changed_at (hs ++ new) device (now + 1)) now task ⊎ IsBefore (task_place s.network now device task) (behind (rows_place now device))

-- ---- with one record

one_point_step : {C M : Type 0} {reading : C → ℕ → ℕ} {stands : M → Network → DeviceId → Node → Type 0}
    {s : Scenario} {world : World C M} {notes : List Note} {device : DeviceId} {machine after : M} {node then_ : Node}
    {machines : List M} {settled : List Happening} {body : NoteBody} {cycle : ℕ} {heard : Summary} {verdict : Verdict}
    (c : StandsHere reading stands s world notes 6 (device.0 ∷ [])) → StageAt stands s (happenings s.network notes) world.settled world.now device machine node 6
    (device.0 ∷ []) → (p : IsShownPut s.network (happenings s.network notes) world.now body world.settled settled)
    → length notes + length world.settled + 2 < numbers_end → 5 ≤ rank body
    → IsActRecordAt s (happenings s.network notes) p.front p.back world.now device body (rows_place world.now device)
    → IsNoTaking device body → IsAtPoint s device world.now node cycle heard verdict
    → HasOutcome (p.front ++ record_of s.network (happenings s.network notes) p.front world.now body
    ∷ p.back) world.now device verdict → IsThen stands s (happenings s.network notes)
    (p.front ++ record_of s.network (happenings s.network notes) p.front world.now body
    ∷ p.back) world.now device after node then_ → IsSet device.0 after world.machines machines
    → StandsBehind reading stands s (record world { early = false; machines = machines; settled = settled }) notes
    (rows_place world.now device)
one_point_step {stands} {s} {world} {notes} {device} {machine} {after} {node} {body} {cycle} c st p room late a
    takes point out it
    set =
    let hs = happenings s.network notes in
    let now = world.now in
    let w = record_of s.network hs p.front now body in
    let st2 : StageAt stands s hs (p.front ++ p.back) now device machine node 6 (device.0 ∷ []) =
    rw p.parts at st in
    let put = as_put now w refl (omega arith) in
    let none = none_at_point cycle c.old.range c.old.rules st2.steady st2.work point.pending point.due in
    one_goes_by c st p (omega arith) a
    (all_point st2.work point
    (grown_one p.front p.back st2.work put late) out) set
    (kept_over stands after it.is st2.work.sound it.over it.ready it.cleared
    (it.taken ∙ taken_then p.front p.back w st2 refl takes)
    it.bare
    (turned_then p.front p.back st2 put) it.phase
    st.calm.falls it.worked st.reach
    (inl (out_by_acts s hs now device none)))

-- ---- what it has done then

kept_of : {X : Type 0} (b : Bool) (xs : List X) (x : X) → Contains (if b then xs else []) x → Contains xs x
kept_of true xs x has = has
kept_of false xs x has = absurd (none_in x has)

-- a correction leaves what it sent of its points
pub corrected_done : (node : Node) (moment : Moment) (heard : Summary) (by : Units) (task : Task)
    → HasDoneTask (called moment acting (after_correction node moment heard 0 (Corrected by))) task
    → (c : Compressed) × (task ≡ emitting c) × Contains node.emitted c
corrected_done node moment heard by (emitting c) has = (c, refl, kept_of (is_synchronised node.standing.state) node.emitted c has)
corrected_done node moment heard by (doing deed) has = absurd (none_in deed has)

-- so it had come to it sooner, or that is worked off
pub corrected_worked : {M : Type 0} {stands : M → Network → DeviceId → Node → Type 0} {s : Scenario}
    {hs coming : List Happening} {now : ℕ} {device : DeviceId} {machine : M} {node : Node}
    {after : Node} (heard : Summary) (by : Units) (changed : ℕ)
    → StageAt stands s hs coming now device machine node 6 (device.0 ∷ []) → after
    ≡ called (moment_of s device now) acting (after_correction node (moment_of s device now) heard 0 (Corrected by))
    → (task : Task) → HasDoneTask after task → HadComeTo s device after changed now task
    ⊎ IsBefore (task_place s.network now device task) (behind (rows_place now device))
corrected_worked {s} {now} {device} {node} heard by changed st is task has =
    search (arith, corrected_done, stays)

-- a device that clears what it has heard, has done that too
cleared_done : (s : Scenario) (now : ℕ) (device : DeviceId) (node : Node) (moment : Moment) (heard : Summary) (cycle : ℕ) (task : Task)
    → HasDoneTask (called moment acting (after_correction node moment heard cycle Cleared)) task
    → HasDoneTask node task ⊎ (task_place s.network now device task ≡ rows_place now device)
cleared_done s now device node moment heard cycle (emitting c) has = inl has
cleared_done s now device node moment heard cycle (doing deed) has = elim (Contains-push_cases node.done (correcting cycle) deed has) [
  | inl old ↦ inl old
  | inr e ↦ inr (rw (sym e))
]

-- one that finds itself outside the others had done what it has
clique_done : (node : Node) (moment : Moment) (heard : Summary) (verdict : Verdict) (task : Task)
    → HasDoneTask (called moment acting (with_clique node heard verdict)) task → HasDoneTask node task
clique_done node moment heard verdict (emitting c) has = absurd (none_in c has)
clique_done node moment heard verdict (doing deed) has = has

-- what it had done is so still
still_worked : {M : Type 0} {stands : M → Network → DeviceId → Node → Type 0} {s : Scenario}
    {hs coming : List Happening} {now : ℕ} {device : DeviceId} {machine : M} {node : Node}
    (after : Node) {changed : ℕ} → StageAt stands s hs coming now device machine node 6 (device.0 ∷ [])
    → after.standing.adjustment ≡ node.standing.adjustment → changed_at (hs ++ coming) device now ≡ changed
    → (task : Task) → HasDoneTask node task → HadComeTo s device after changed now task
    ⊎ IsBefore (task_place s.network now device task) (behind (rows_place now device))
still_worked {s} {hs} {coming} {now} {device} {node} after {changed} st adjustment same task has =
    search (arith, still_came, stays)

-- ---- with none: a joiner clears what it has heard

module _ {C M : Type 0} {reading : C → ℕ → ℕ} {stands : M → Network → DeviceId → Node → Type 0} {s : Scenario}
    {world : World C M} {notes : List Note} {old : Stands reading stands s world notes} {device : DeviceId}
    {machine : M} where
  pub cleared_goes_by : {after : M} {cycle : ℕ} {was : State} {adjustment : Units} {machines : List M}
      {settled : List Happening}
      → IsCorrecting reading stands s world notes old device machine after cycle Cleared was adjustment machines
      settled
      → StandsBehind reading stands s (record world { early = false; machines = machines; settled = settled }) notes
      (rows_place world.now device)
  cleared_goes_by {after} {cycle} {machines} {settled} x =
      let hs = happenings s.network notes in
      let now = world.now in
      let on = x.on in
      let node = on.node in
      let st = on.st in
      let act = on.did in
      let first = act.1.0 in
      let heard = act.1.1.0 in
      let to = act.1.1.1 in
      let is = act.1.1.2 in
      let timed = (point_number node.standing.state node.standing.number cycle first.pending.1.own).0 in
      let off = not_on st.work timed in
      let point = at_point s now cycle first to in
      let quiet = no_frames s now cycle first.pending.0 point in
      let ready = ready_after s act.0 (acts.Correct cycle Cleared) st.work.ready st.steady st.precise st.wide on.may act.1
      (rw is) in
      let there = called (moment_of s device now) acting
      (after_correction node (moment_of s device now) heard cycle Cleared) in
      let over : IsOver s (hs ++ world.settled) now device act.0 =
      rw is (cleared_over cycle (moment_of s device now) heard st.work off st.calm.off st.calm.broken st.calm.falls
      st.cleared
      to.verdict_is
      first.pending.1 first.due (st.work.ready.in_time (doing (correcting cycle)) first.pending) st.wide quiet) in
      let cleared : HasCleared act.0 = subst HasCleared (sym is)
      (cleared_more node (moment_of s device now) heard
      (point_number node.standing.state node.standing.number cycle first.pending.1.own).1 st.cleared) in
      let here = now ∷ 6 ∷ (device.0 ∷ []) in
      let none = none_at_point cycle old.range old.rules st.steady st.work
      first.pending first.due in
      let kept = kept_over stands after act.2 st.work.sound
      over ready cleared (rw is st.taken)
      (bare_act s.network device node (moment_of s device now) (acts.Correct cycle Cleared) act.0 act.1 st.bare)
      (λ on. turned_by st.moving (st.turned on))
      (rw is) st.calm.falls
      (λ task has. elim (cleared_done s now device node (moment_of s device now) heard cycle task
      (rw is at has)) [
        | inl did ↦ still_worked act.0 st
            (rw is)
            (sym (change_still (hs ++ world.settled) device now (now + 1) (omega arith) (still_now st.work off)))
            task did
        | inr at ↦ inr (subst (λ q. IsBefore q (behind here)) (sym at) (before_behind here))
      ])
      st.reach (inl (out_by_acts s hs now device none)) in
      rw x.put (acts_on on.here (omega arith) (omega arith) old.room
      (settled_moves st.moving
      (all_point st.work point
      (grown_none s hs world.settled now device (λ z i. (st.work.of_now z i).0)) tt))
      old.known
      (devices_then on.here device (λ other not task same. not (st.own other task same)) x.set (inl kept)
      (λ other m not held. held)))

  -- ---- it finds itself outside the others

  clique_step : {after : M} {cycle : ℕ} {was : State} {adjustment : Units} {machines : List M}
      {settled : List Happening} {verdict : Verdict} {why : Why}
      → IsCorrecting reading stands s world notes old device machine after cycle verdict was adjustment machines
      settled → IsClique verdict why → ArePutIn s.network (happenings s.network notes) world.now
      (kinds.State device Integrating 0 why ∷ []) world.settled settled
      → ((new : List Happening) (z : Happening) → IsIn z new → place_of z ≡ world.now ∷ 7 ∷ device.0 ∷ 0 ∷ []
      → HasOutcome new world.now device verdict) → ((node then_ : Node) (heard : Summary) → then_
      ≡ called (moment_of s device world.now) acting (after_correction node (moment_of s device world.now) heard
      cycle verdict) → then_ ≡ called (moment_of s device world.now) acting (with_clique node heard verdict))
      → ((x : State) → state_by x verdict ≡ Integrating) → ((a : Units) → adjustment_by a verdict ≡ a)
      → ends_stretch device (kinds.State device Integrating 0 why) ≡ true
      → StandsBehind reading stands s (record world { early = false; machines = machines; settled = settled }) notes
      (rows_place world.now device)
  clique_step {after} {cycle} {settled} {verdict} {why} x clique put outcome node_is lost kept ends
      =
      let hs = happenings s.network notes in
      let now = world.now in
      let on = x.on in
      let node = on.node in
      let st = on.st in
      let act = on.did in
      let first = act.1.0 in
      let heard = act.1.1.0 in
      let is = node_is node act.0 heard act.1.1.2 in
      let timed = (point_number node.standing.state node.standing.number cycle first.pending.1.own).0 in
      let off = not_on st.work timed in
      let point = at_point s now cycle first act.1.1.1 in
      let ready = ready_after s act.0 (acts.Correct cycle verdict) st.work.ready st.steady st.precise st.wide on.may act.1
      (rw is) in
      let body = kinds.State device Integrating 0 why in
      let p : IsShownPut s.network hs now body world.settled settled =
      rw put.2 (one_shown s.network hs now body (omega arith) put.1) in
      let w = record_of s.network hs p.front now body in
      let new = p.front ++ w ∷ p.back in
      let st2 : StageAt stands s hs (p.front ++ p.back) now device machine node 6 (device.0 ∷ []) =
      rw p.parts at st in
      let as_it = as_put now w refl (omega arith) in
      let over : IsOver s (hs ++ new) now device act.0 =
      rw is (clique_over hs p.front p.back 0 why (moment_of s device now) heard verdict st2.work off
      st2.calm.off st2.calm.broken
      as_it p.none (lost node.standing.state) (kept node.standing.adjustment) refl ends) in
      let cleared : HasCleared act.0 =
      subst HasCleared (sym is) (λ n there. let less = st.cleared n there in omega arith) in
      one_point_step on.here st p on.room (omega arith)
      (clique_record hs p.front p.back verdict st2 off
      point clique p.none) (λ at. refl)
      point
      (outcome new w (in_right w p.front (w ∷ p.back) (inl refl)) refl)
      (record {
        is = act.2;
        over = over;
        ready = ready;
        cleared = cleared;
        taken = rw is;
        bare = bare_act s.network device node (moment_of s device now) (acts.Correct cycle verdict) act.0 act.1 st.bare;
        phase = rw is;
        worked = λ task has.
            still_worked act.0 st2
            (rw is (kept node.standing.adjustment))
            (sym (clique_change hs p.front p.back 0 why st2.work off as_it p.none refl)) task
            (clique_done node (moment_of s device now) heard verdict task
            (rw is at has));
      }) x.set

  pub alone_goes_by : {after : M} {cycle : ℕ} {was : State} {adjustment : Units} {machines : List M}
      {settled : List Happening}
      → IsCorrecting reading stands s world notes old device machine after cycle SyncClique was adjustment machines
      settled
      → StandsBehind reading stands s (record world { early = false; machines = machines; settled = settled }) notes
      (rows_place world.now device)
  alone_goes_by x =
      clique_step x IsClique.alone x.put
      (λ new z i e. (z, i, e)) (λ node then_ heard e. e) (λ y. refl) (λ a. refl)
      (Rattle.std.proofs.lemmas.Bool.eq-eqb device.0 device.0 refl)

  pub outnumbered_goes_by : {after : M} {cycle : ℕ} {was : State} {adjustment : Units} {machines : List M}
      {settled : List Happening}
      → IsCorrecting reading stands s world notes old device machine after cycle AsyncClique was adjustment machines
      settled
      → StandsBehind reading stands s (record world { early = false; machines = machines; settled = settled }) notes
      (rows_place world.now device)
  outnumbered_goes_by x =
      clique_step x IsClique.outnumbered x.put
      (λ new z i e. (z, i, e)) (λ node then_ heard e. e) (λ y. refl) (λ a. refl)
      (Rattle.std.proofs.lemmas.Bool.eq-eqb device.0 device.0 refl)

-- ---- it corrects its clock

not_joining : Synchronised ≡ Joining → ⊥
not_joining e = cc

pub corrected_goes_by : {C M : Type 0} {reading : C → ℕ → ℕ} {stands : M → Network → DeviceId → Node → Type 0}
    {s : Scenario} {world : World C M} {notes : List Note} {old : Stands reading stands s world notes}
    {device : DeviceId} {machine after : M} {cycle : ℕ} {by : Units} {adjustment : Units} {machines : List M}
    {settled : List Happening} → IsCorrecting reading stands s world notes old device machine after cycle
    (Corrected by) Synchronised adjustment machines settled
    → StandsBehind reading stands s (record world { early = false; machines = machines; settled = settled }) notes
    (rows_place world.now device)
corrected_goes_by {reading} {stands} {s} {world} {notes} {old} {device} {machine} {after} {cycle} {by} {adjustment}
    {settled} x =
    let hs = happenings s.network notes in
    let now = world.now in
    let on = x.on in
    let node = on.node in
    let st = on.st in
    let act = on.did in
    let first = act.1.0 in
    let heard = act.1.1.0 in
    let is = act.1.1.2 in
    let point_is = point_number node.standing.state node.standing.number cycle first.pending.1.own in
    let synchronised = sym (x.stood node st.is).0 in
    let sum : adjustment ≡ act.0.standing.adjustment = (x.stands_then act.0 act.2).1 in
    let sum_is : adjustment.0 ≡ (node.standing.adjustment.0 +ℤ by.0) = rw sum (rw is) in
    let off = not_on st.work point_is.0 in
    let point = at_point s now cycle first act.1.1.1 in
    let ready = ready_after s act.0 (acts.Correct cycle (Corrected by)) st.work.ready st.steady st.precise st.wide
    on.may act.1
    (rw is) in
    let body = kinds.Corrected device cycle by adjustment in
    let p : IsShownPut s.network hs now body world.settled settled =
    rw x.put.2 (one_shown s.network hs now body (omega arith) x.put.1) in
    let w = record_of s.network hs p.front now body in
    let new = p.front ++ w ∷ p.back in
    let st2 : StageAt stands s hs (p.front ++ p.back) now device machine node 6 (device.0 ∷ []) =
    rw p.parts at st in
    let so : IsCorrectedSo s device (now + 1) node w cycle by adjustment (moment_of s device now) =
    record { body = refl; before = omega arith; timed = point_is.0; number = point_is.1; sum = sym sum_is; reads = refl } in
    let quiet = no_frames s now cycle first.pending.0 point in
    let over : IsOver s (hs ++ new) now device act.0 = rw is
    (corrected_over p.front p.back heard st2.work off st2.calm.off st2.calm.broken
    (as_put now w refl (omega arith)) p.none so synchronised quiet) in
    let cleared : HasCleared act.0 = subst HasCleared (sym is) (λ n there. absurd (none_in (correcting n) there)) in
    let lone = corrected_unfollowed s hs now device cycle by adjustment (λ joining.
    let same = earlier_still now hs world.settled (λ z i. omega arith) in
    not_joining (sym synchronised ∙ st.work.left.state
    ∙ (rw same joining))) in
    one_point_step on.here st p on.room (omega arith)
    (corrected_record hs p.front p.back by adjustment st2
    off point sum_is p.none lone)
    (λ at. refl) point
    (w, in_right w p.front (w ∷ p.back) (inl refl), refl)
    (record {
      is = act.2;
      over = over;
      ready = ready;
      cleared = cleared;
      taken = rw is;
      bare = bare_act s.network device node (moment_of s device now) (acts.Correct cycle (Corrected by)) act.0 act.1 st.bare;
      phase = rw is;
      worked = corrected_worked heard by (changed_at (hs ++ new) device (now + 1)) st2 is;
    }) x.set
