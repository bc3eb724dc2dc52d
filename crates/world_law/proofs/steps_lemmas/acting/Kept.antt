-- A device that acts at an instant: what it does first, what it dispatches, and how it is kept.
use Rattle.run_law.{proofs.law.FirstDeliveries.in_filter, specs.records.Ranks.sign}
use Rattle.schedule_tables.specs.{Dispatches.dispatch_order, Entries.IsEntry}
use Rattle.world_law.proofs.{acts.{Acting.acted, Dues.{act_due, came_not, done_or, present}, Ready.acting_last}}
use Rattle.world_law.proofs.{runs.Agreement.{in_earlier, last_within}}
use Rattle.world_law.proofs.{devices.Working.{came_sooner, done_by, sent_by}, growing.Growing.place_first}
use Rattle.world_law.proofs.{putting.{Idle.drop_one, Moving.IsNext}}
use Rattle.world_law.proofs.{rows.{AtHand.{taken_parts, taken_same}, Dispatching.{dispatches_so, one_row, told_alike}}}
use Rattle.world_law.proofs.steps_lemmas.Words
use Words.{if◌then◌else◌, ◌++◌, ◌+◌, ◌<◌, ◌^◌, ◌∙◌, ◌∷◌, ◌≡◌, ◌≤ℤ◌, ◌≤◌, ◌⊎◌, Act, AsyncClique, Bool, Cleared}
use Words.{ComesFirst, Corrected, DeviceId, Dispatches, Entry, HadComeTo, Happening, HasCleared, HasDoneFrom}
use Words.{HasDoneTask, HasSentFrom, HasTaskBy, HasTurnedOn, HasWorkedTo, IsActOf, IsActedOut, IsActing, IsAllOfIt}
use Words.{IsBefore, IsCaused, IsFirstTask, IsIn, IsJoiningNow, IsKept, IsLawful, IsNoTaking, IsOwnSource, IsPending}
use Words.{IsReadyAt, IsSource, IsSteady, LinkId, List, MayCall, Moment, Network, Node, Note, NoteBody, Pcf, RowId}
use Words.{Scenario, Stands, SyncClique, Task, Units, VlId, World, [], act_place, acting, amount, ap, append-nil}
use Words.{append_assoc, arith, before_behind, behind, both_ways, chain, changed_at, changed_before, correcting}
use Words.{dispatch_body, dispatches_same, dispatching, doing, earlier, earlier_still, emitting, false, frames_taken}
use Words.{happenings, in_left, in_right, inl, inr, ints, is_broken, is_cm, is_cut, is_synchronised, is_turned_on_at}
use Words.{le-ltb, length, local_before, members_in, moment_of, nat_lt, place_of, placed_so, points_same, pos}
use Words.{quiet_rest, rank, reading_for, refl, rows_place, same_device, sending, subst, sym, task_place, time_of, true}
use Words.{unsigned_abs, way_from, whole, ℕ}
use Rattle.world_law.proofs.steps_lemmas.acting.{Complete.same_told, Over.IsOver}
use Rattle.world_law.proofs.steps_lemmas.acting.Work
use Work.{IsAtWork, all_earlier, at_correction, emits, not_over, own_judgement, reaches, sends}
use Rattle.world_law.specs.{device.{Growing.IsFromZero, Takings.taken_by}}
use Rattle.world_law.specs.{steps.Acting.{place_of_act, rank_of_act, task_of}}
use Rattle.run_law.specs.declared.judgement.Why.TheVariants as whys
use Rattle.run_law.specs.declared.note.NoteBody.TheVariants as kinds
use Rattle.run_law.specs.declared.steps.Act.TheVariants as acts

-- ---- a device dispatches one row from one place of its order at an instant: so all that is due from there is the record that tells
-- of it.

-- ---- it is told

-- by these records the device dispatches the row at this place of its order, and a record of this body tells of it
pub record TellsRow (s : Scenario) (js : List Happening) (now : ℕ) (device : DeviceId) (order : List ℕ) (body : NoteBody) : Type 0 where
  pub link : LinkId
  pub cause : ℕ
  pub vl : VlId
  pub cycle : ℕ
  pub dispatches : Dispatches s js device now link cause vl cycle
  pub at : dispatch_order s.network (record { 0 = dispatches.place }) ≡ order
  pub is : body ≡ dispatch_body s device now link cause vl cycle

order_is : {network : Network} {place : ℕ} {entry : Entry} → IsEntry network place entry
    → dispatch_order network (record { 0 = place }) ≡ amount entry.row.offset ∷ entry.row.link.0 ∷ place ∷ []
order_is {place} is =
    rw is.row

-- a place in the order tells the link
one_link : {s : Scenario} {js : List Happening} {device : DeviceId} {now : ℕ} {link : LinkId} (other : LinkId)
    {cause : ℕ} (from : ℕ) {vl : VlId} (with : VlId) {cycle : ℕ} (number : ℕ) (order : List ℕ)
    (d : Dispatches s js device now link cause vl cycle) (e : Dispatches s js device now other from with number)
    → dispatch_order s.network (record { 0 = d.place }) ≡ order
    → dispatch_order s.network (record { 0 = e.place }) ≡ order → link ≡ other
one_link other from with number order d e one two =
    search (arith, order_is)

-- so what is dispatched from the same place by records of the instant is told by the same
same_row : {s : Scenario} (hs new front : List Happening) {now : ℕ} {device : DeviceId} {order : List ℕ}
    {body : NoteBody} {link : LinkId} {cause : ℕ} {vl : VlId} {cycle : ℕ} → IsLawful s (hs ++ new) device
    → ((z : Happening) → IsIn z new → time_of z ≡ now) → ((z : Happening) → IsIn z front → time_of z ≡ now)
    → TellsRow s (hs ++ new) now device order body → (d : Dispatches s (hs ++ front) device now link cause vl cycle)
    → dispatch_order s.network (record { 0 = d.place }) ≡ order
    → body ≡ dispatch_body s device now link cause vl cycle
same_row {s} hs new front {now} {device} {order} {link} {cause} {vl} {cycle} law of_now also t d place =
    let x = dispatches_same s (hs ++ front) (hs ++ new) now device link cause vl cycle (all_earlier s hs front new now also of_now) d in
    let links = one_link link cause vl cycle order t.dispatches x.0 t.at (rw x.1 place) in
    let one = one_row link cause vl cycle law links t.dispatches x.0 in
    t.is ∙ told_alike link cause vl cycle law.rules t.dispatches x.0 one.0 one.1

-- ---- what comes from the place of a row

-- its cause, of a dispatch at this place
abbrev IsOfRow : Scenario → List Happening → List ℕ → LinkId → ℕ → Bool → DeviceId → ℕ → Type 0
IsOfRow s js order link cause cut device now =
    (vl : VlId) × (cycle : ℕ) × (d : Dispatches s js device now link cause vl cycle) × (is_cut s link (way_from s.network device link) now ≡ cut)
    × (dispatch_order s.network (record { 0 = d.place }) ≡ order)

-- what causes a record that comes from the place of a row
abbrev IsRowCause : Scenario → List Happening → ℕ → DeviceId → List ℕ → NoteBody → Type 0
IsRowCause s js now device order (kinds.Lost other link cause) = (other ≡ device) × IsOfRow s js order link cause true device now
IsRowCause s js now device order (kinds.TtSent other link cause vl cycle) =
    (other ≡ device) × ((d : Dispatches s js device now link cause vl cycle) × (is_cut s link (way_from s.network device link) now ≡ false)
    × (dispatch_order s.network (record { 0 = d.place }) ≡ order))
IsRowCause s js now device order other = ⊥

at_row : {now t d e : ℕ} {order other : List ℕ} → now ∷ 6 ∷ d ∷ order ≡ t ∷ 6 ∷ e ∷ other → (t ≡ now) × (e ≡ d)
    × (other ≡ order)
at_row same = (cc, cc, cc)

-- a correction stands at no row
no_row : {now t d e : ℕ} {order : List ℕ} → 1 ≤ length order → now ∷ 6 ∷ d ∷ order ≡ t ∷ 6 ∷ e ∷ [] → ⊥
no_row {now} {t} {d} {e} {order} long same =
    let none : 0 ≡ length order = ap length (at_row same).2 in
    omega arith

module _ (s : Scenario) (js : List Happening) (now : ℕ) (device : DeviceId) (order : List ℕ) (time : Units)
    (m : ℕ) where
  row_cause : (body : NoteBody) → 1 ≤ length order → IsOwnSource s js (amount time) m body
      (now ∷ 6 ∷ device.0 ∷ order) → IsCaused s js time body
      → (amount time ≡ now) × IsRowCause s js now device order body
  row_cause (kinds.Lost other link cause) long (inr (inl own)) c =
      let e = at_row own.4 in
      let same = same_device other device e.1 in (
        e.0,
        (
          same,
          rw (sym e.0) (rw (sym same) (own.0, own.1, own.2, own.3, e.2)),
        ),
      )
  row_cause (kinds.TtSent other link cause vl cycle) long own c =
      let e = at_row own.1 in
      let same = same_device other device e.1 in (
        e.0,
        (
          same,
          rw (sym e.0) (rw (sym same) (own.0, c.whole, e.2)),
        ),
      )
  row_cause (kinds.Lost other link cause) long (inl own) c = absurd (grind arith)
  row_cause (kinds.Lost other link cause) long (inr (inr own)) c = absurd (grind arith)
  row_cause (kinds.Corrected other cycle by adjustment) long own c =
      absurd (no_row long own)
  row_cause (kinds.State other state cause whys.SyncClique) long own c =
      absurd (no_row long own.1)
  row_cause (kinds.State other state cause whys.AsyncClique) long own c =
      absurd (no_row long own.1)
  row_cause other long own c = absurd (grind arith)

-- ---- all of it is there

-- what comes from the place of the row stands where the record that tells of it does
row_found : {s : Scenario} (hs new front : List Happening) {now : ℕ} {device : DeviceId} {order : List ℕ}
    (w y : Happening) → IsLawful s (hs ++ new) device → ((z : Happening) → IsIn z new → time_of z ≡ now)
    → ((z : Happening) → IsIn z front → time_of z ≡ now) → TellsRow s (hs ++ new) now device order w.note.body
    → time_of w ≡ now → time_of y ≡ now → (body : NoteBody) → y.note.body ≡ body
    → IsRowCause s (hs ++ front) now device order body → place_of w ≡ place_of y
row_found {s} hs new front {now} {device} w y law of_now also t at_w at (kinds.Lost other link cause) is c =
    let x = c.1 in
    same_told s device link cause x.0 x.1 w y (same_row hs new front law of_now also t x.2 x.4)
    (is ∙ (rw c.0
    (sym (rw x.3)))) at_w at
row_found {s} hs new front {now} {device} w y law of_now also t at_w at (kinds.TtSent other link cause vl cycle) is c =
    let x = c.1 in
    same_told s device link cause vl cycle w y (same_row hs new front law of_now also t x.0 x.2)
    (is ∙ (rw c.0
    (sym (rw x.1)))) at_w at
row_found hs new front w y law of_now also t at_w at rest is c = absurd c

pub all_row : {s : Scenario} (hs new : List Happening) {now : ℕ} {device : DeviceId} {order : List ℕ} (w : Happening)
    → IsLawful s (hs ++ new) device → ((z : Happening) → IsIn z new → time_of z ≡ now)
    → TellsRow s (hs ++ new) now device order w.note.body → IsIn w new → 1 ≤ length order
    → IsAllOfIt s hs new (now ∷ 6 ∷ device.0 ∷ order)
all_row {s} hs new {now} {device} {order} w law of_now t there long front back y e all none due own =
    let c = row_cause s (hs ++ front) now device order y.note.time (members_in y) y.note.body long own due.cause in
    let also : (z : Happening) → IsIn z front → time_of z ≡ now = λ z i.
    of_now z (rw e (in_left z front back i)) in
    (w, there, row_found hs new front w y law of_now also t (of_now w there) c.0 y.note.body refl c.1)

-- ---- what a device does first at an instant comes first: no source and no record to come is between the place where its acts of
-- this rank begin and that.

-- ---- where an act stands

-- its place behind the device
abbrev pub act_more : Network → Act → List ℕ
act_more network (acts.Emit sent heard) =
    amount sent.opened ∷ amount sent.at ∷ sent.cycle ∷ sent.members.0 ∷ sign sent.opened.0 ∷ sign sent.at.0 ∷ []
act_more network (acts.Send frame) = frame.cycle ∷ []
act_more network (acts.Correct cycle verdict) = []
act_more network (acts.Dispatch row cycle) = dispatch_order network row

abbrev pub act_rest : Network → DeviceId → Act → List ℕ
act_rest network device act = device.0 ∷ act_more network act

pub act_stands : (network : Network) (now : ℕ) (device : DeviceId) (act : Act)
    → task_place network now device (task_of act) ≡ now ∷ rank_of_act act ∷ act_rest network device act
act_stands network now device (acts.Send frame) = refl
act_stands network now device act = refl

pub late_rank : (act : Act) → 4 ≤ rank_of_act act
late_rank (acts.Send frame) = omega arith
late_rank act = omega arith

pub low_rank : (act : Act) → rank_of_act act ≤ 6
low_rank (acts.Send frame) = omega arith
low_rank act = omega arith

-- its task is the first of those that are due
pub first_of : (network : Network) (device : DeviceId) (node : Node) (moment : Moment) (act : Act) (new : Node) → IsActOf network device node moment act new
    → IsFirstTask network device node moment.reading.0 (task_of act)
first_of network device node moment (acts.Send frame) new is =
    rw (ap (λ (f : Pcf). f.cycle) is.2) is.1
first_of network device node moment (acts.Emit sent heard) new is = is.0
first_of network device node moment (acts.Correct cycle verdict) new is = is.0
first_of network device node moment (acts.Dispatch row cycle) new is = is.0

-- ---- between where the acts of its rank begin and its own place

between : (t now k r d : ℕ) (ws more v : List ℕ) → v ≡ t ∷ k ∷ ws → IsBefore v (now ∷ r ∷ d ∷ more) → (IsBefore v (now ∷ r ∷ d ∷ []) → ⊥)
    → (t ≡ now) × (k ≡ r) × ((rest : List ℕ) × (ws ≡ d ∷ rest))
between t now k r d ws more v is b not =
    at ws (rw is at b) (λ x. not (rw is x))
  where
    at : (ws : List ℕ) → IsBefore (t ∷ k ∷ ws) (now ∷ r ∷ d ∷ more) → (IsBefore (t ∷ k ∷ ws) (now ∷ r ∷ d ∷ []) → ⊥)
        → (t ≡ now) × (k ≡ r) × ((rest : List ℕ) × (ws ≡ d ∷ rest))
    at ws (inl lt) not = absurd (not (inl lt))
    at ws (inr (e, inl lt)) not = absurd (not (inr (e, inl lt)))
    at [] (inr (e, inr (f, b))) not = absurd (not (inr (e, inr (f, tt))))
    at (w ∷ ws) (inr (e, inr (f, inl lt))) not = absurd (not (inr (e, inr (f, inl lt))))
    at (w ∷ ws) (inr (e, inr (f, inr (same, b)))) not = (e, f, (ws, rw same))

-- what a step starts from by which a device that is kept does its first task
pub record IsActFirst {M : Type 0} (stands : M → Network → DeviceId → Node → Type 0) (s : Scenario) (hs coming : List Happening)
    (frontier : List ℕ) (now : ℕ) (device : DeviceId) (machine : M) (task : Task) : Type 0 where
  pub kept : IsKept stands s hs coming frontier now device machine
  pub up : kept.up ≡ now
  pub first : IsFirstTask s.network device kept.node (pos (s.reading device now)) task
  pub zero : IsFromZero s.network device kept.node
  pub lawful : IsLawful s (hs ++ coming) device
  pub of_now : (z : Happening) → IsIn z coming → time_of z ≡ now
  pub past : (h : Happening) → IsIn h (hs ++ coming) → time_of h ≤ now
  pub late : (z : Happening) → IsIn z coming → 4 ≤ rank z.note.body

module _ {M : Type 0} {stands : M → Network → DeviceId → Node → Type 0} {s : Scenario} {hs coming : List Happening}
    {frontier : List ℕ} {now : ℕ} {device : DeviceId} {machine : M} {task : Task} where
  -- no act of the device that is not worked off stands before it
  act_none : {other : Task} → IsActFirst stands s hs coming frontier now device machine task
      → IsActing s hs now device other → IsBefore (task_place s.network now device other)
      (task_place s.network now device task) → (IsBefore (task_place s.network now device other) frontier → ⊥) → ⊥
  act_none {other} x a b not =
      let k = x.kept in
      let same =
      sym (earlier_still now hs coming (λ z i. omega arith)) in
      let points = sym (points_same coming hs device
      (λ z i. (quiet_rest s device now z.note.body (k.still x.up z (in_right z hs coming i) (x.of_now z i)), x.late z i))) in
      let w = present k x.up in
      elim (done_or k.node other) [
        | inr undone ↦
            let due = act_due w (record { taken = k.taken; past = x.past; lawful = x.lawful }) same points a undone in
            place_first s.network now device other x.zero x.first due.0 due.1 b
        | inl did ↦
            came_not w same a
            (rw x.up at (came_sooner now k.worked other did not))
      ]

  -- no source is between, that is not worked off
  act_sources : {r : ℕ} {more : List ℕ} → IsActFirst stands s hs coming frontier now device machine task
      → task_place s.network now device task ≡ now ∷ r ∷ device.0 ∷ more → 4 ≤ r → r ≤ 6 → {v : List ℕ}
      → IsSource s hs v → (IsBefore v frontier → ⊥) → IsBefore v (now ∷ r ∷ device.0 ∷ more)
      → (IsBefore v (now ∷ r ∷ device.0 ∷ []) → ⊥) → ⊥
  act_sources {r} {more} x place late low {v} (IsSource.arriving t d link cause a) not b from =
      let at = between t now 2 r device.0 _ more v refl b from in let two = at.1 in omega arith
  act_sources {r} {more} x place late low {v} (IsSource.ripening t d link cause point a) not b from =
      let at = between t now 3 r device.0 _ more v refl b from in omega arith
  act_sources {r} {more} x place late low {v} (IsSource.departing t d link cause a) not b from =
      let at = between t now 8 r device.0 _ more v refl b from in omega arith
  act_sources {r} {more} x place late low {v} (IsSource.following t cause h it) not b from =
      let at = between t now 2 r device.0 [] more v refl b from in omega arith
  act_sources {r} {more} x place late low {v} (IsSource.befalling time line what it) not b from =
      let at = between _ now 1 r device.0 [] more v refl b from in omega arith
  act_sources {r} {more} x place late low {v} (IsSource.ending time d is there it) not b from =
      let at = between _ now 14 r device.0 _ more v refl b from in omega arith
  act_sources {r} {more} x place late low {v} (IsSource.acting t d other a) not b from =
      let p = placed_so s.network t d other in
      let at = between t now p.rank r device.0 (d.0 ∷ p.rest) more v p.is b from in
      let its : d.0 ≡ device.0 = let e = at.2.1 in cc in
      let own = same_device d device its in
      let there : task_place s.network t d other ≡ task_place s.network now device other =
      rw at.0
      (rw own) in
      act_none x (rw own at (rw at.0 at a))
      (subst (λ q. IsBefore (task_place s.network now device other) q) (sym place)
      (subst (λ q. IsBefore q (now ∷ r ∷ device.0 ∷ more)) there b))
      (rw there at not)

-- so it comes first
pub act_next : {C M : Type 0} {reading : C → ℕ → ℕ} {stands : M → Network → DeviceId → Node → Type 0}
    {s : Scenario} {world : World C M} {notes : List Note} {old : Stands reading stands s world notes}
    {device : DeviceId} {machine : M} (act : Act) → ComesFirst reading stands s world notes old
    (place_of_act world.now device act) → ((z : Happening) → IsIn z world.settled
    → rank_of_act act < rank z.note.body) → IsActFirst stands s
    (happenings s.network notes) world.settled old.frontier world.now device machine (task_of act)
    → (IsBefore (world.now ∷ rank_of_act act ∷ act_rest s.network device act) old.frontier → ⊥)
    → IsNext old (world.now ∷ rank_of_act act ∷ act_rest s.network device act)
act_next {stands} {s} {world} {notes} {old} {device} {machine} act first apart x waits =
    let high = late_rank act in
    record {
      later = inr (refl, inl (omega arith));
      waits = waits;
      first = λ v source not b.
          elim (Rattle.run_law.proofs.runs.Places.before_or_not v (place_of_act world.now device act)) [
            | inl sooner ↦ first.none v source not sooner
            | inr from ↦
                act_sources x (act_stands s.network world.now device act) high (low_rank act) source not
                b from
          ];
      after = λ z i b.
          elim b [
            | inl lt ↦ omega arith
            | inr c ↦ elim c.1 [ inl less ↦ omega arith | inr d ↦ omega arith ]
          ];
    }

-- ---- a device that is kept and has something due at the present instant is at work

-- the last change before the next unit of time is not after this one
pub changed_soon : (hs : List Happening) (device : DeviceId) (now : ℕ) → changed_at hs device (now + 1) ≤ now
changed_soon hs device now =
    search (arith, last_within, earlier, in_earlier, in_filter)

module _ {M : Type 0} {stands : M → Network → DeviceId → Node → Type 0} {s : Scenario} {hs coming : List Happening}
    {frontier : List ℕ} {now : ℕ} {device : DeviceId} {machine : M} where
  -- how a device stands that is kept, and has something due, is not that its instant is over
  pub up_now : (k : IsKept stands s hs coming frontier now device machine)
      → ((p : List ℕ) → IsBefore p frontier → IsBefore p ((now + 1) ∷ [])) → HasTaskBy s device k.node now
      → (k.up ≡ now) × ((task : Task) → IsBefore (task_place s.network now device task) frontier
      → IsActing s hs now device task → HasDoneTask k.node task)
  up_now k later due = elim k.acted [
    | inl yet ↦ yet
    | inr over ↦
        let le : now + 1 ≤ k.up = omega (arith, over.0) in
        absurd (not_over (hs ++ coming) now
        (rw over.0 at (done_by now k.worked later (now + 1) le)) (sent_by now k.worked later (now + 1) le)
        (changed_soon (hs ++ coming) device now) due)
  ]

  -- ---- it is at work

  pub at_work : (k : IsKept stands s hs coming frontier now device machine)
      → ((p : List ℕ) → IsBefore p frontier → IsBefore p ((now + 1) ∷ []))
      → ((z : Happening) → IsIn z coming → time_of z ≡ now)
      → ((h : Happening) → IsIn h (hs ++ coming) → time_of h ≤ now)
      → ((z : Happening) → IsIn z coming → 4 ≤ rank z.note.body) → k.up ≡ now → IsAtWork s hs coming now device k.node
  at_work k later of past late up =
      search (arith, done_by, sent_by)

-- ---- its acts are not worked off

-- a task that is due is an act
pub task_acts : {s : Scenario} {hs coming : List Happening} {now : ℕ} {device : DeviceId} {node : Node} (task : Task)
    → IsLawful s (hs ++ coming) device → node.taken ≡ frames_taken s (hs ++ coming) device
    → IsAtWork s hs coming now device node → IsPending s.network device node task
    → reading_for s.network node task ≤ℤ pos (s.reading device now) → IsActing s hs now device task
task_acts {s} {hs} {coming} {now} {device} {node} (emitting c) law taken w p due =
    rw (append-nil hs) at (IsActing.emits c (own_judgement s.network device node c) (emits [] coming c w refl p due))
task_acts {s} {hs} {coming} {now} {device} {node} (doing (sending cycle)) law taken w p due =
    rw (append-nil hs) at (IsActing.sends cycle (sends [] cycle w (λ z i. absurd i) p due))
task_acts {s} {hs} {coming} {now} {device} {node} (doing (correcting cycle)) law taken w p due =
    rw (append-nil hs) at (IsActing.corrects cycle (at_correction [] cycle w (λ z i. absurd i) p due))
task_acts {s} {hs} {coming} {now} {device} (doing (dispatching row cycle)) law taken w p due =
    let frame = p.1.own.1 in
    let d = dispatches_so law w.past taken (record { synchronised = sym w.left.state ∙ p.1.own.0; correct = w.sound })
    frame (reaches w p.1 due) in
    let e = dispatches_same s (hs ++ coming) hs now device frame.entry.row.link d.0 frame.entry.row.vl cycle
    (earlier_still now hs coming (λ z i. omega arith)) d.2.0 in
    rw (ap (λ (n : ℕ). let r : RowId = record { 0 = n } in r) (e.1 ∙ d.2.1)) at (IsActing.dispatches
    frame.entry.row.link d.0 frame.entry.row.vl cycle e.0)

-- what is done is not to be done
pub undone_task : (network : Network) (device : DeviceId) (node : Node) (task : Task) → IsPending network device node task → HasDoneTask node task → ⊥
undone_task network device node (emitting sent) p did = p.1.not_yet did
undone_task network device node (doing deed) p did = p.1.not_yet did

-- so a task that is due is not worked off
pub acts_wait : {M : Type 0} {stands : M → Network → DeviceId → Node → Type 0} {s : Scenario}
    {hs coming : List Happening} {frontier : List ℕ} {now : ℕ} {device : DeviceId} {machine : M}
    (k : IsKept stands s hs coming frontier now device machine) (task : Task) → IsLawful s (hs ++ coming) device
    → ((p : List ℕ) → IsBefore p frontier → IsBefore p ((now + 1) ∷ []))
    → ((z : Happening) → IsIn z coming → time_of z ≡ now)
    → ((h : Happening) → IsIn h (hs ++ coming) → time_of h ≤ now)
    → ((z : Happening) → IsIn z coming → 4 ≤ rank z.note.body) → IsPending s.network device k.node task
    → reading_for s.network k.node task ≤ℤ pos (s.reading device now)
    → IsBefore (task_place s.network now device task) frontier → ⊥
acts_wait {stands} {s} {hs} {coming} {frontier} {now} {device} {machine} k task law later of past late pending due b =
    let up = up_now k later (task, pending, due) in
    undone_task s.network device k.node task pending
    (up.1 task b (task_acts task law k.taken (at_work k later of past
    late up.0) pending due))

-- ---- a device that has acted is kept, as its new node says: it may be called, and is ready again

pub may_act_now : (s : Scenario) (device : DeviceId) (node : Node) (now : ℕ) → IsReadyAt (s.reading device) s.network device node now
    → IsSteady (s.reading device) (amount s.network.precision) → now ≤ 2 ^ 60 → MayCall s.network device node (moment_of s device now) acting
may_act_now s device node now ready steady limit = grind (arith, whole, amount, ints, acting_last, reading_for)

pub ready_after : (s : Scenario) {device : DeviceId} {node : Node} (new : Node) {now : ℕ} (act : Act)
    → IsReadyAt (s.reading device) s.network device node now
    → IsSteady (s.reading device) (amount s.network.precision) → pos 0 ≤ℤ s.network.precision.0
    → s.network.precision.0 ≤ℤ pos (amount s.network.cycle)
    → MayCall s.network device node (moment_of s device now) acting
    → IsActOf s.network device node (moment_of s device now) act new → new.last ≡ moment_of s device now
    → IsReadyAt (s.reading device) s.network device new now
ready_after s {device} {node} new {now} act ready steady precise wide may is last =
    let carried = acted s.network device node (moment_of s device now) act new may wide is in
    let time : new.last.time.0 ≡ pos now = rw last in
    record {
      time = omega (arith, ints);
      begun = omega (arith, ints);
      last = rw last ((rw (sym (ap unsigned_abs time))));
      undone = λ task p x lt.
          elim (carried task p) [
            | inl old ↦ rw old.1 (ready.undone task old.0 x lt)
            | inr far ↦ let fell = steady.never_falls x now (omega arith) in omega (arith, ints)
          ];
      in_time = λ task p.
          elim (carried task p) [
            | inl old ↦ rw old.1 (ready.in_time task old.0)
            | inr far ↦ omega (arith, ints)
          ];
    }

-- ---- what it took

earlier_same : (t : ℕ) (ps b : List Happening) (w : Happening) → t ≤ time_of w → earlier t (ps ++ w ∷ b) ≡ earlier t (ps ++ b)
earlier_same t ps b w le = drop_one (λ h. nat_lt (time_of h) t) ps b w (le-ltb (time_of w) t le)

-- a record of the instant that is no taking changes nothing of it
pub frames_put : (s : Scenario) (hs front back : List Happening) (now : ℕ) (w : Happening) (device : DeviceId)
    → ((h : Happening) → IsIn h (hs ++ (front ++ back)) → time_of h ≤ now) → time_of w ≡ now → IsNoTaking device w.note.body
    → frames_taken s (hs ++ (front ++ back)) device ≡ frames_taken s (hs ++ (front ++ w ∷ back)) device
frames_put s hs front back now w device past at takes =
    let old = (hs ++ front) ++ back in
    let mid = (hs ++ front) ++ w ∷ back in
    rw (sym (append_assoc hs front back))
    (taken_same device (local_before s old device) (local_before s mid device) old
    (λ h i. let early = past h (rw (append_assoc hs front back) at i) in
    rw (sym (earlier_same (time_of h) (hs ++ front) back w (omega arith))))
    ∙ taken_parts device (local_before s mid device) (hs ++ front) back
    ∙ ap (λ l. taken_by device (local_before s mid device) (hs ++ front) ++ (l ++ taken_by device
    (local_before s mid device) back))
    (sym (takes (local_before s mid device (time_of w))))
    ∙ sym (taken_parts device (local_before s mid device) (hs ++ front) (w ∷ back))
    ∙ (rw (append_assoc hs front (w ∷ back))))

-- ---- where it is no compression master

-- only a compression master has points, and sends for them
abbrev pub IsBare : Network → DeviceId → Node → Type 0
IsBare network device node = is_cm network device ≡ false → (node.points ≡ []) × (node.emitted ≡ [])

none_kept : {X : Type 0} (b : Bool) (xs : List X) → xs ≡ [] → (if b then xs else []) ≡ []
none_kept true xs e = e
none_kept false xs e = refl

-- it is so after an act too
pub bare_act : (network : Network) (device : DeviceId) (node : Node) (moment : Moment) (act : Act) (new : Node) → IsActOf network device node moment act new
    → IsBare network device node → IsBare network device new
bare_act network device node moment (acts.Send frame) new is bare = subst (IsBare network device) (sym is.3) bare
bare_act network device node moment (acts.Emit sent heard) new is bare = λ other. absurd (both_ways (is_cm network device) other is.0.pending.1.cm)
bare_act network device node moment (acts.Correct cycle (Corrected by)) new is bare = grind (arith, none_kept, is_synchronised)
bare_act network device node moment (acts.Correct cycle SyncClique) new is bare = subst (IsBare network device) (sym is.1.2) (λ other. (refl, refl))
bare_act network device node moment (acts.Correct cycle AsyncClique) new is bare = subst (IsBare network device) (sym is.1.2) (λ other. (refl, refl))
bare_act network device node moment (acts.Correct cycle Cleared) new is bare = subst (IsBare network device) (sym is.1.2) bare
bare_act network device node moment (acts.Dispatch row cycle) new is bare = subst (IsBare network device) (sym is.1) bare

-- ---- it is kept

no_step : {now : ℕ} → now ≡ now + 1 → ⊥
no_step e = omega arith

-- where it has done so by the times, and what it has done at the instant is before the frontier
pub to_worked : {s : Scenario} {device : DeviceId} {node : Node} {changed up : ℕ} (now : ℕ) (frontier : List ℕ)
    → HasDoneFrom s.network (s.reading device) device node changed up (now + 1)
    → HasSentFrom s device node up (now + 1) → ((task : Task) → HasDoneTask node task
    → HadComeTo s device node changed now task ⊎ IsBefore (task_place s.network now device task) frontier)
    → changed ≤ now → ((x y : ℕ) → x ≤ y → s.reading device x ≤ s.reading device y)
    → IsBefore (act_place now device) frontier → HasWorkedTo s device node changed up frontier
to_worked {s} {device} now frontier done sent worked le falls past =
    let over : (x : ℕ) (task : Task) → x < now → IsBefore (task_place s.network x device task) frontier = λ x task lt.
    chain (task_place s.network x device task) (act_place now device) frontier (inl lt) past in
    record {
      undone = done.undone;
      done = λ deed there. elim (worked (doing deed) there) [
        | inl sooner ↦ (sooner.0, sooner.1, over sooner.0 (doing deed) sooner.2, sooner.3)
        | inr gone ↦
            let x = done.done deed there in
            let fell = falls x.0 now (omega (arith, x.2)) in
            (now, le, gone, omega (arith, ints, x.3))
      ];
      unsent = sent.unsent;
      sent = λ c there. elim (worked (emitting c) there) [
        | inl sooner ↦ (sooner.0, over sooner.0 (emitting c) sooner.1, sooner.2)
        | inr gone ↦
            let x = sent.sent c there in
            let fell = falls x.0 now (omega (arith, x.1)) in
            (now, gone, omega (arith, ints, x.2))
      ];
    }

-- the last call of its machine was not later than such a frontier
pub acted_phase : (node : Node) (device : DeviceId) (now : ℕ) (frontier : List ℕ) → node.phase ≡ acting
    → IsBefore (act_place now device) frontier
    → (p : List ℕ) → IsBefore p (now ∷ Rattle.world_law.specs.world.World.rank_of_call node.phase ∷ [])
    → IsBefore p frontier
acted_phase node device now frontier phase past p b =
    chain p (act_place now device) frontier
    (chain p (now ∷ 4 ∷ []) (act_place now device)
    (rw phase at b) (inr (refl, inr (refl, tt)))) past

-- while the instant is not over for it
pub kept_on : {M : Type 0} (stands : M → Network → DeviceId → Node → Type 0) {s : Scenario} {hs new : List Happening}
    (frontier : List ℕ) {now : ℕ} {device : DeviceId} (machine : M) {after : Node}
    → stands machine s.network device after → IsAtWork s hs new now device after → HasCleared after
    → after.taken ≡ frames_taken s (hs ++ new) device → IsBare s.network device after
    → (is_turned_on_at s device now ≡ true → HasTurnedOn s hs new frontier device now) → after.phase ≡ acting
    → IsBefore (act_place now device) frontier → ((x y : ℕ) → x ≤ y → s.reading device x ≤ s.reading device y)
    → ((task : Task) → IsBefore (task_place s.network now device task) frontier → IsActing s hs now device task
    → HasDoneTask after task) → ((task : Task) → HasDoneTask after task
    → HadComeTo s device after (changed_at (hs ++ new) device now) now task
    ⊎ IsBefore (task_place s.network now device task) frontier) → IsKept stands s hs new frontier now device machine
kept_on stands {hs} {new} frontier {now} {device} machine {after} is work cleared taken bare turned phase past falls
    did worked = search (arith, no_step, to_worked, changed_before, acted_phase)

-- no row of it is dispatched at the instant
abbrev pub NoneDispatched : Scenario → List Happening → ℕ → DeviceId → Type 0
NoneDispatched s hs now device =
    (other : List Happening) → ((z : Happening) → IsIn z other → time_of z ≡ now) → (link : _) (cause : ℕ) (vl : _) (cycle : ℕ)
    → Dispatches s (hs ++ other) device now link cause vl cycle → ⊥

-- so its acts are worked off behind its correction point
pub out_by_acts : (s : Scenario) (hs : List Happening) (now : ℕ) (device : DeviceId) → NoneDispatched s hs now device
    → IsActedOut s hs now device (behind (rows_place now device))
out_by_acts s hs now device none = record { past = inr (refl, inl (omega arith)); all = all_of }
  where
    all_of : (task : Task) → IsActing s hs now device task → IsBefore (task_place s.network now device task) (behind (rows_place now device))
    all_of task (IsActing.emits sent verdict e) = inr (refl, inl (omega arith))
    all_of task (IsActing.sends cycle d) = inr (refl, inl (omega arith))
    all_of task (IsActing.corrects cycle c) = before_behind (rows_place now device)
    all_of task (IsActing.dispatches link cause vl cycle d) =
        absurd (none [] (λ z i. absurd i) link cause vl cycle
        (rw (append-nil hs) d))

-- and where it is over: its acts are worked off, or its own frame tells it the time
pub kept_over : {M : Type 0} (stands : M → Network → DeviceId → Node → Type 0) {s : Scenario}
    {hs new : List Happening} {frontier : List ℕ} {now : ℕ} {device : DeviceId} (machine : M) {after : Node}
    → stands machine s.network device after → is_broken s device now ≡ false → IsOver s (hs ++ new) now device after
    → IsReadyAt (s.reading device) s.network device after now → HasCleared after
    → after.taken ≡ frames_taken s (hs ++ new) device → IsBare s.network device after
    → (is_turned_on_at s device now ≡ true → HasTurnedOn s hs new frontier device now) → after.phase ≡ acting
    → ((x y : ℕ) → x ≤ y → s.reading device x ≤ s.reading device y)
    → ((task : Task) → HasDoneTask after task → HadComeTo s device after (changed_at (hs
    ++ new) device (now + 1)) now task ⊎ IsBefore (task_place s.network now device task) frontier)
    → IsBefore (act_place now device) frontier → IsActedOut s hs now device frontier ⊎ IsJoiningNow s hs new device now
    → IsKept stands s hs new frontier now device machine
kept_over stands {hs} {new} {frontier} {now} {device} machine {after} is sound over ready cleared taken bare turned
    phase falls worked past out = record {
      node = after;
      is = is;
      sound = sound;
      up = now + 1;
      acted = inr (
        refl,
        λ p b. chain p (act_place now device) frontier (chain p (now ∷ 3 ∷ []) (act_place now device) b
            (inr (refl, inl (omega arith)))) past,
      );
      told = λ same. elim out [ inl all ↦ inl all | inr joining ↦ inr (inr joining) ];
      left = over.left;
      taken = taken;
      worked = to_worked now frontier over.done over.sent worked (changed_soon (hs ++ new) device now) falls past;
      bare = bare;
      ready = ready;
      still = λ same. absurd (no_step (sym same));
      turned = turned;
      cleared = cleared;
      phase = λ at. acted_phase after device now frontier phase past;
    }
