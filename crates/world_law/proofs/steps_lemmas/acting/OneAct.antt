-- A device acts once, as by sending or emitting a frame: its record is put in, and how all stands then.
use Rattle.std.proofs.lemmas.Option.{same_Some}
use Rattle.run_law.{proofs.runs.Places.{before_or_not, nothing_between}, specs.records.Ranks.sign}
use Rattle.schedule_tables.specs.{Dispatches.dispatch_order, declared.rule.Rule.TheVariants.ScheduleStart}
use Rattle.world_law.proofs.{acts.Dues.{IsDueTask, act_due, done_or}, devices.Working.came_sooner}
use Rattle.world_law.proofs.{putting.{Moving.{StandsHere, stands_here, stays, up_on}, Near.frames_aside}}
use Rattle.world_law.proofs.{runs.Worlds.own_here}
use Rattle.world_law.proofs.{growing.Growing.{IsCorrection, what_is_left}, rows.Dispatching.{founded_with, lawful}}
use Rattle.world_law.proofs.putting.{Putting.one_well}
use Rattle.world_law.proofs.steps_lemmas.{growing.FromZero.kept_from_zero, steps.Passed.no_task}
use Rattle.world_law.proofs.steps_lemmas.Words
use Words.{◌++◌, ◌+◌, ◌<◌, ◌^◌, ◌∙◌, ◌∷◌, ◌≡◌, ◌≤ℤ◌, ◌≤◌, ◌⊎◌, Act, AllBefore, ArePutIn, ClockTask, ComesFirst}
use Words.{Compressed, Contains-push_cases, DeviceId, HadComeTo, Happening, HasActed, HasCleared, HasDoneTask}
use Words.{HasTaskBy, HasTurnedOn, Integrating, IsActOf, IsActing, IsAllOfIt, IsAtRest, IsBefore, IsCaused, IsDeedOf}
use Words.{IsDue, IsDueNow, IsFirstTask, IsFounded, IsHeld, IsIn, IsKept, IsLawful, IsMoving, IsNoTaking, IsOne}
use Words.{IsOwnSource, IsPending, IsSet, IsShownPut, IsSource, IsSteady, IsUnfollowed, Judgement, List, MayCall}
use Words.{Moment, Network, Node, None, NoneBefore, Note, NoteBody, Pcf, Ripe, RowId, Scenario, Some, Stands}
use Words.{StandsBehind, Task, World, [], act_place, acting, acts_first, acts_on, amount, ap, are_past, arith, bears_on}
use Words.{before_behind, behind, called, cause_of, chain, changed_at, correcting, devices_then, dispatching, doing}
use Words.{due_of, earlier_still, emitting, false, frames_taken, happenings, hearing_by, hears, held_aside, in_left}
use Words.{in_parts, in_right, inl, inr, ints, is_at_source, is_last, is_turned_on_at, known_aside, last_unfollowed}
use Words.{length, members_in, moment_of, moves, moves_no_other, natural, ne_eqb, no_later_breaks, not_on_after}
use Words.{numbers_end, of_device, one_by, one_shown, place_of, points_same, pos, put_length, quiet_rest, rank}
use Words.{reading_for, record_of, refl, ripe_as, same_device, second, sending, slice_get, subst, sym, task_place}
use Words.{time_of, true, turned_aside, turned_by, units_of, with_done, ℕ}
use Rattle.world_law.proofs.steps_lemmas.acting.{Over.IsCalm}
use Rattle.world_law.proofs.steps_lemmas.acting.Kept
use Kept.{IsBare, TellsRow, act_more, act_next, act_rest, act_stands, acts_wait, all_row, at_work, bare_act, first_of}
use Kept.{frames_put, kept_on, late_rank, low_rank, may_act_now, ready_after, up_now}
use Rattle.world_law.proofs.steps_lemmas.acting.Work
use Work.{IsAtWork, IsEmitted, IsPutAs, StaysBy, earlier_put, emits, emits_on, is_emitted, node_emitted, own_judgement}
use Work.{sends, sends_on}
use Rattle.world_law.specs.{device.{Growing.IsFromZero, Told.change_in}}
use Rattle.world_law.specs.{steps.Acting.{Acts, joining_bodies, place_of_act, rank_of_act, task_of}}
use Rattle.world_law.specs.{world.Outcomes.judged_as}
use Rattle.run_law.specs.declared.judgement.Judgement.TheVariants as judgements
use Rattle.run_law.specs.declared.judgement.Why.TheVariants as whys
use Rattle.run_law.specs.declared.note.NoteBody.TheVariants as kinds
use Rattle.run_law.specs.declared.steps.Act.TheVariants as acts
use Rattle.run_law.specs.declared.steps.Ripe.TheVariants as ripe

-- ---- a device acts at the source that comes first: how all stands then, and how the world stands with its record put in

-- a device that has something due at the source that comes first, which stands at this place: all that is to come has a
-- higher rank
pub record StageAt {M : Type 0} (stands : M → Network → DeviceId → Node → Type 0) (s : Scenario) (hs coming : List Happening) (now : ℕ)
    (device : DeviceId) (machine : M) (node : Node) (r : ℕ) (more : List ℕ) : Type 0 where
  pub of_it : device.0 < length s.network.device
  pub is : stands machine s.network device node
  pub task : HasTaskBy s device node now
  pub taken : node.taken ≡ frames_taken s (hs ++ coming) device
  pub turned : is_turned_on_at s device now ≡ true → HasTurnedOn s hs coming (now ∷ r ∷ more) device now
  pub cleared : HasCleared node
  pub bare : IsBare s.network device node
  pub moving : IsMoving s hs coming now r more
  pub above : (z : Happening) → IsIn z coming → r < rank z.note.body
  pub late : 4 ≤ r
  pub low : r ≤ 6
  pub reach : IsBefore (act_place now device) (behind (now ∷ r ∷ more))
  pub own : (other : DeviceId) (task : Task) → task_place s.network now other task ≡ now ∷ r ∷ more → other.0 ≡ device.0
  pub given : IsFounded place_of (IsDue s) hs
  pub before : AllBefore place_of hs (now ∷ r ∷ more)
  pub work : IsAtWork s hs coming now device node
  pub worked : (task : Task) → HasDoneTask node task
      → HadComeTo s device node (changed_at (hs ++ coming) device now) now task ⊎ IsBefore (task_place s.network now device task) (now ∷ r ∷ more)
  pub zero : IsFromZero s.network device node
  pub calm : IsCalm s hs coming now device
  pub steady : IsSteady (s.reading device) (amount s.network.precision)
  pub precise : pos 0 ≤ℤ s.network.precision.0
  pub lawful : IsLawful s (hs ++ coming) device
  pub wide : s.network.precision.0 ≤ℤ pos (amount s.network.cycle)
  pub limit : now ≤ 2 ^ 60

-- where the act stands
abbrev pub StageOf : {M : Type 0} → (M → Network → DeviceId → Node → Type 0) → Scenario → List Happening → List Happening → ℕ → DeviceId
    → M → Node → Act → Type 0
StageOf stands s hs coming now device machine node act =
    StageAt stands s hs coming now device machine node (rank_of_act act) (act_rest s.network device act)

reaches_acts : (network : Network) (now : ℕ) (device : DeviceId) (act : Act)
    → IsBefore (act_place now device) (behind (now ∷ rank_of_act act ∷ act_rest network device act))
reaches_acts network now device act =
    search (arith, chain, behind, act_stands, acts_first, before_behind)

-- so it is where a world stands, and the device acts
pub stage_of : {C M : Type 0} (reading : C → ℕ → ℕ) (stands : M → Network → DeviceId → Node → Type 0) (s : Scenario) (world : World C M) (notes : List Note)
    (old : Stands reading stands s world notes) (device : DeviceId) (machine after : M) (act : Act) → device.0 < length s.network.device
    → ComesFirst reading stands s world notes old (place_of_act world.now device act)
    → ((z : Happening) → IsIn z world.settled → rank_of_act act < rank z.note.body) → slice_get world.machines device.0 ≡ Some machine
    → IsDueNow stands s.network device (moment_of s device world.now) machine
    → HasActed stands s.network device (moment_of s device world.now) act machine after
    → (node : Node) × StandsHere reading stands s world notes (rank_of_act act) (act_rest s.network device act)
    × StageOf stands s (happenings s.network notes) world.settled world.now device machine node act
stage_of {C} {M} reading stands s world notes old device machine after act lt first apart there due acted =
    let hs = happenings s.network notes in
    let m = old.devices device lt in
    let same = same_Some m.0 machine (sym m.1 ∙ there) in
    held (rw same at m.2)
  where
    late : (z : Happening) → IsIn z world.settled → 4 ≤ rank z.note.body
    late z i = let more = apart z i in let high = late_rank act in omega arith

    upto : (h : Happening) → IsIn h (happenings s.network notes ++ world.settled) → time_of h ≤ world.now
    upto h i =
        let past = are_past old in
        elim (in_parts h (happenings s.network notes) world.settled i) [
          | inl one ↦ past.past h one
          | inr two ↦ let at = old.are.of_now h two in omega arith
        ]

    held : IsHeld stands s (happenings s.network notes) world.settled old.frontier world.now device machine
        → (node : Node) × StandsHere reading stands s world notes (rank_of_act act) (act_rest s.network device act)
        × StageOf stands s (happenings s.network notes) world.settled world.now device machine node act
    held (inr out) = absurd (let task = due out.node out.is in no_task s.network device out.node task.0 out.shows task.1)
    held (inl k) =
        let hs = happenings s.network notes in
        let now = world.now in
        let task = due k.node k.is in
        let past = are_past old in
        let up = up_now k old.not_later task in
        let may = may_act_now s device k.node now k.ready (old.steady device) old.limit in
        let did = acted k.node k.is may task in
        let law = lawful reading stands s world notes old device in
        let first_task = first_of s.network device k.node (moment_of s device now) act did.0 did.1 in
        let place = act_stands s.network now device act in
        let at = now ∷ rank_of_act act ∷ act_rest s.network device act in
        let high = late_rank act in
        let zero = kept_from_zero stands s hs world.settled old.frontier now device machine k law in
        let waits : IsBefore at old.frontier → ⊥ = λ b.
        acts_wait k (task_of act) law old.not_later old.are.of_now upto late first_task.pending
        first_task.due (rw place b) in
        let next = act_next act first apart (record {
          kept = k;
          up = up.0;
          first = first_task;
          zero = zero;
          lawful = law;
          of_now = old.are.of_now;
          past = upto;
          late = late;
        }) waits in
        let c = stands_here old (rank_of_act act) (act_rest s.network device act) next in
        let whole = natural s.network.precision.0 old.precise in
        let ends = (old.rules ScheduleStart 0).ends in (
          k.node,
          c,
          record {
            of_it = lt;
            is = k.is;
            task = task;
            taken = k.taken;
            turned = λ on.
                let was = k.turned on in
                record {
                  off = was.off;
                  number = was.number;
                  event = was.event;
                  befell = was.befell;
                  turned = λ b. was.turned (old.untold.done c.told was.number was.event was.befell);
                };
            cleared = k.cleared;
            bare = k.bare;
            moving = c.moving;
            above = apart;
            late = high;
            low = low_rank act;
            own = λ other u e. of_device s.network now other u device.0 (rank_of_act act) (act_more s.network act) e;
            reach = reaches_acts s.network now device act;
            given = old.run.founded;
            before = c.run.within;
            work = at_work k old.not_later old.are.of_now
                upto late up.0;
            worked = λ other has. elim (before_or_not (task_place s.network now device other) old.frontier) [
              | inl gone ↦ inr (up_on old (rank_of_act act) (act_rest s.network device act) next
                  (task_place s.network now device other) gone)
              | inr not ↦ inl (rw up.0 at (came_sooner now k.worked other has not))
            ];
            zero = zero;
            calm = record {
              falls = (old.steady device).never_falls;
              off = not_on_after (now + 1) device old.befallen (omega arith);
              broken = no_later_breaks s old.frontier now (now + 1) device old.befallen (omega arith);
              turned = λ on. let was = k.turned on in was.turned (old.untold.done c.told was.number was.event was.befell);
            };
            steady = old.steady device;
            precise = old.precise;
            lawful = law;
            wide = omega (arith, ints);
            limit = old.limit;
          },
        )

-- what a step starts from by which the device acts so: where it stands, and what it is then
pub record IsActOn {C M : Type 0} (reading : C → ℕ → ℕ) (stands : M → Network → DeviceId → Node → Type 0)
    (s : Scenario) (world : World C M) (notes : List Note) (old : Stands reading stands s world notes)
    (device : DeviceId) (machine after : M) (act : Act) : Type 0 where
  pub room : length notes + length world.settled + 2 < numbers_end
  pub node : Node
  pub here : StandsHere reading stands s world notes (rank_of_act act) (act_rest s.network device act)
  pub st : StageOf stands s (happenings s.network notes) world.settled world.now device machine node act
  pub may : MayCall s.network device node (moment_of s device world.now) acting
  pub did : (new : Node) × IsActOf s.network device node (moment_of s device world.now) act new
      × stands after s.network device new

pub acts_on_it : {C M : Type 0} {reading : C → ℕ → ℕ} {stands : M → Network → DeviceId → Node → Type 0} {s : Scenario}
    {world : World C M} {notes : List Note} {device : DeviceId} {after : M} {bodies : List NoteBody}
    {old : Stands reading stands s world notes} (a : Acts reading stands s world notes old device after bodies)
    → IsActOn reading stands s world notes old device a.machine after a.act
acts_on_it {reading} {stands} {s} {world} {notes} {device} {after} {old} a =
    let x = stage_of reading stands s world notes old device a.machine after a.act a.of_it a.first a.apart a.there a.due a.acted in
    let st = x.2 in
    let may = may_act_now s device x.0 world.now st.work.ready st.steady st.limit in
    record { room = a.first.room; node = x.0; here = x.1; st = st; may = may; did = a.acted x.0 st.is may st.task }

-- ---- its record

-- what the device hears or moves by, behind all frames of the instant, is not to come while it acts
pub nothing_aside : (s : Scenario) (device : DeviceId) (now : ℕ) (body : NoteBody) → 5 ≤ rank body → IsAtRest s device now body → hears device body ≡ true → ⊥
nothing_aside s device now (kinds.State other Integrating cause whys.SyncClique) late rest e = grind arith
nothing_aside s device now (kinds.State other state cause whys.SyncClique) late rest e = grind arith
nothing_aside s device now (kinds.State other state cause whys.AsyncClique) late rest e = grind arith
nothing_aside s device now other late rest e = grind arith

-- a record of this body comes from the device's act at this place, is caused by it, and bears on no other device
pub record IsActRecordAt (s : Scenario) (hs front back : List Happening) (now : ℕ) (device : DeviceId) (body : NoteBody) (at : List ℕ) : Type 0 where
  pub own : (m : ℕ) → IsOwnSource s (hs ++ front) now m body at
  pub here : IsSource s (hs ++ front) at
  pub caused : IsCaused s (hs ++ front) (units_of now) body
  pub fresh : (y : Happening) → IsIn y back → place_of (record_of s.network hs front now body) ≡ place_of y → ⊥
  pub apart : (other : DeviceId) → (other.0 ≡ device.0 → ⊥) → (bears_on other body ≡ false) × IsNoTaking other body
  pub lone : IsUnfollowed s hs now body

module _ {M : Type 0} {stands : M → Network → DeviceId → Node → Type 0} {s : Scenario}
    {hs : List Happening} (front back : List Happening) {now : ℕ} {device : DeviceId} {machine : M}
    {node : Node} where
  -- nothing to come stands where a record of the act's own rank does
  pub fresh_above : {r : ℕ} {more : List ℕ} → StageAt stands s hs
      (front ++ back) now device machine node r more → (w : Happening) → rank w.note.body ≤ r
      → (y : Happening) → IsIn y back → place_of w ≡ place_of y → ⊥
  fresh_above st w le y i e =
      let high = st.above y (in_right y front back i) in
      let same : rank w.note.body ≡ rank y.note.body = ap second e in
      omega arith

  -- nothing to come rests on what the device hears
  pub nothing_heard : {r : ℕ} {more : List ℕ} → StageAt stands s hs
      (front ++ back) now device machine node r more → (y : Happening) → IsIn y back
      → hears device y.note.body ≡ true → ⊥
  nothing_heard st y i e =
      let there = in_right y front back i in
      nothing_aside s device now y.note.body (omega arith)
      (st.work.still y (in_right y hs (front ++ back) there) (st.work.of_now y there).0) e

  pub one_caused : {body : NoteBody} {r : ℕ} {more : List ℕ} → StageAt stands s hs
      (front ++ back) now device machine node r more
      → AllBefore place_of front (place_of (record_of s.network hs front now body))
      → NoneBefore place_of back (place_of (record_of s.network hs front now body))
      → IsCaused s (hs ++ front) (units_of now) body
      → ((m : ℕ) → IsOwnSource s (hs ++ front) now m body (now ∷ r ∷ more))
      → IsSource s (hs ++ front) (now ∷ r ∷ more)
      → ((y : Happening) → IsIn y back → place_of (record_of s.network hs front now body) ≡ place_of y → ⊥)
      → IsOne s hs front back now r more (record_of s.network hs front now body)
  one_caused {body} st before none caused own here fresh = record {
    moving = st.moving;
    given = st.given;
    at = refl;
    due = due_of s hs front now body caused;
    before = before;
    none = none;
    fresh = fresh;
    mine = own (members_in (record_of s.network hs front now body));
    here = here;
    aside = λ x i other same yes_it.
        let e = same_device other device (st.own other (doing (correcting 0)) (sym same)) in
        nothing_heard st x i (rw e at yes_it);
  }

  one_act : {body : NoteBody} {r : ℕ} {more : List ℕ} → StageAt stands s hs
      (front ++ back) now device machine node r more
      → AllBefore place_of front (place_of (record_of s.network hs front now body))
      → NoneBefore place_of back (place_of (record_of s.network hs front now body))
      → IsActRecordAt s hs front back now device body (now ∷ r ∷ more)
      → IsOne s hs front back now r more (record_of s.network hs front now body)
  one_act st before none a = one_caused st before none a.caused a.own a.here a.fresh

  -- the records with it are founded
  pub lawful_then : {body : NoteBody} {r : ℕ} {more : List ℕ}
      → StageAt stands s hs (front ++ back) now device machine node r more
      → AllBefore place_of front (place_of (record_of s.network hs front now body))
      → NoneBefore place_of back (place_of (record_of s.network hs front now body))
      → IsActRecordAt s hs front back now device body (now ∷ r ∷ more)
      → IsLawful s (hs ++ (front ++ record_of s.network hs front now body ∷ back)) device
  lawful_then {body} {r} {more} st before none a =
      let at = now ∷ r ∷ more in
      let well = one_well (one_act st before none a) a.lone in
      record {
        range = st.lawful.range;
        rules = st.lawful.rules;
        steady = st.lawful.steady;
        founded = founded_with s hs (front ++ record_of s.network hs front now body ∷ back) at st.given st.before
            well.stands well.after;
      }

-- ---- the world with the record put in

pub no_row_of : (s : Scenario) (device other : DeviceId) (body : NoteBody) → device.0 < length s.network.device
    → ((e : DeviceId) → (e.0 ≡ device.0 → ⊥) → (bears_on e body ≡ false) × IsNoTaking e body)
    → length s.network.device ≤ other.0 → moves other body ≡ false
no_row_of s device other body lt apart le = moves_no_other other body (apart other (λ e. omega arith)).0

pub one_goes_by : {C M : Type 0} {reading : C → ℕ → ℕ} {stands : M → Network → DeviceId → Node → Type 0}
    {s : Scenario} {world : World C M} {notes : List Note} {device : DeviceId} {machine after : M} {node : Node}
    {machines : List M} {settled : List Happening} {body : NoteBody} {r : ℕ} {more : List ℕ}
    (c : StandsHere reading stands s world notes r more) → StageAt stands s
    (happenings s.network notes) world.settled world.now device machine node r more
    → (p : IsShownPut s.network (happenings s.network notes) world.now body world.settled settled)
    → length notes + length world.settled + 1 < numbers_end
    → IsActRecordAt s (happenings s.network notes) p.front p.back world.now device body (world.now ∷ r ∷ more)
    → IsAllOfIt s (happenings s.network notes) (p.front
    ++ record_of s.network (happenings s.network notes) p.front world.now body ∷ p.back) (world.now ∷ r ∷ more)
    → IsSet device.0 after world.machines machines → IsKept stands s (happenings s.network notes)
    (p.front ++ record_of s.network (happenings s.network notes) p.front world.now body ∷ p.back)
    (behind (world.now ∷ r ∷ more)) world.now device after
    → StandsBehind reading stands s (record world { early = false; machines = machines; settled = settled }) notes
    (world.now ∷ r ∷ more)
one_goes_by {C} {M} {reading} {stands} {s} {world} {notes} {device} {machine} {after} {node} {machines} {settled} {body} {r} {more} c st p room a all set kept =
    let hs = happenings s.network notes in
    let now = world.now in
    let front = p.front in
    let back = p.back in
    let w = record_of s.network hs front now body in
    let one = one_act {stands = stands} front back {machine = machine} {node = node} (rw p.parts at st) p.before p.none
    a in
    let long = put_length front back w in
    let same_long : length world.settled ≡ length (front ++ back) = ap length p.parts in
    rw p.shows (acts_on c st.late st.low (omega arith) (one_by one a.lone all)
    (known_aside hs front back w (λ other le. no_row_of s device other body st.of_it a.apart le)
    (rw p.parts at c.old.known))
    (devices_then c device (λ other not task same. not (st.own other task same)) set (inl kept)
    (λ other m not held.
    let x = a.apart other not in
    held_aside s hs front back w other x.0 refl (frames_aside s hs front back w other x.0 x.1)
    (rw p.parts at held))))

-- ---- a device sends the frame of a cycle: a record put in

pub as_put : (now : ℕ) (w : Happening) → time_of w ≡ now → 4 ≤ rank w.note.body → IsPutAs now w
as_put now w at late = record { at = at; late = late }

module _ {M : Type 0} {stands : M → Network → DeviceId → Node → Type 0} {s : Scenario}
    {hs : List Happening} (front back : List Happening) {now : ℕ} {device : DeviceId} {machine : M}
    {node : Node} where
  -- what it took, and that it was turned on, are told by the records with the new one
  pub taken_then : (w : Happening) {r : ℕ} {more : List ℕ}
      → StageAt stands s hs (front ++ back) now device machine node r more → time_of w ≡ now
      → IsNoTaking device w.note.body → node.taken ≡ frames_taken s (hs ++ (front ++ w ∷ back)) device
  taken_then w st at none =
      st.taken ∙ frames_put s hs front back now w device st.work.past at none

  pub turned_then : {w : Happening} {r : ℕ} {more : List ℕ}
      → StageAt stands s hs (front ++ back) now device machine node r more → IsPutAs now w
      → is_turned_on_at s device now ≡ true → HasTurnedOn s hs (front ++ w ∷ back) (behind (now ∷ r ∷ more)) device now
  turned_then {w} st p on =
      turned_aside s hs front back w device (turned_by st.moving (st.turned on))
      (rw (earlier_put front back st.work p))

  -- ---- it sends

  pub sending_record : {cycle : ℕ} → StageAt stands s hs (front ++ back) now device machine node 5
      (device.0 ∷ cycle ∷ []) → IsPending s.network device node (doing (sending cycle))
      → reading_for s.network node (doing (sending cycle)) ≤ℤ pos (s.reading device now)
      → IsActRecordAt s hs front back now device (kinds.Sent device cycle) (now ∷ 5 ∷ device.0 ∷ cycle ∷ [])
  sending_record {cycle} st pending due =
      let d = sends front cycle st.work
      (λ z i. (st.work.of_now z (in_left z front back i)).0) pending due in
      record {
        own = λ m. refl;
        here = IsSource.acting now device (doing (sending cycle))
            (IsActing.sends cycle d);
        caused = d;
        fresh = fresh_above front back st
            (record_of s.network hs front now (kinds.Sent device cycle)) (omega arith);
        apart = λ other not. (refl, λ at. refl);
        lone = last_unfollowed s hs now (kinds.Sent device cycle) refl;
      }

-- the node that has sent, among the records with its own
pub record HasSentIt {M : Type 0} (stands : M → Network → DeviceId → Node → Type 0) (s : Scenario) (hs new : List Happening) (now : ℕ) (device : DeviceId)
    (machine : M) (node after : Node) : Type 0 where
  pub is : stands machine s.network device after
  pub work : IsAtWork s hs new now device after
  pub cleared : HasCleared after
  pub taken : after.taken ≡ frames_taken s (hs ++ new) device
  pub phase : after.phase ≡ acting

pub has_sent_it : {M : Type 0} {stands : M → Network → DeviceId → Node → Type 0} {s : Scenario} {hs : List Happening}
    (front back : List Happening) {now : ℕ} {device : DeviceId} {machine : M} (then_ : M)
    {node : Node} {after : Node} (frame : Pcf) {cycle : ℕ}
    → StageAt stands s hs (front ++ back) now device machine node 5 (device.0 ∷ cycle ∷ [])
    → IsFirstTask s.network device node (moment_of s device now).reading.0 (doing (sending cycle))
    → IsActOf s.network device node (moment_of s device now) (acts.Send frame) after
    → after ≡ called (moment_of s device now) acting (with_done node (sending cycle))
    → stands then_ s.network device after → HasSentIt stands s hs
    (front ++ (record_of s.network hs front now (kinds.Sent device cycle)) ∷ back) now device then_ node after
has_sent_it {stands} {s} {hs} front back {now} {device} {machine} then_ {node} {after} frame {cycle} st
    first act is stood =
    let w = record_of s.network hs front now (kinds.Sent device cycle) in
    let moment = moment_of s device now in
    let may = may_act_now s device node now st.work.ready st.steady st.limit in
    let ready = ready_after s after (acts.Send frame) st.work.ready st.steady st.precise st.wide may act
    (rw is) in
    let there = called moment acting (with_done node (sending cycle)) in
    let work = sends_on front back cycle moment st.work (as_put now w refl (omega arith)) refl first.due
    (rw is at ready) in
    let cleared : HasCleared there = λ n has. elim (Contains-push_cases node.done (sending cycle) (correcting n) has) [
      | inl old ↦ st.cleared n old
      | inr e ↦ absurd cc
    ] in
    record {
      is = stood;
      work = rw is work;
      cleared = subst HasCleared (sym is) cleared;
      taken = rw is (taken_then front back w
          st refl (λ at. refl));
      phase = rw is;
    }

-- it has done what it had done, and that deed
pub did_deed : (s : Scenario) (now : ℕ) (device : DeviceId) (node : Node) {new : Node} (moment : Moment)
    (deed : ClockTask) (task : Task)
    → new ≡ called moment acting (with_done node deed) → HasDoneTask new task
    → HasDoneTask node task ⊎ (task_place s.network now device task ≡ task_place s.network now device (doing deed))
did_deed s now device node moment deed (emitting sent) is has = inl (rw is at has)
did_deed s now device node moment deed (doing other) is has =
    elim (Contains-push_cases node.done deed other (rw is at has)) [
      | inl old ↦ inl old
      | inr e ↦ inr (rw (sym e))
    ]

-- ---- a device acts, and puts one record: how it stands then, as the frontier goes by

-- what the act makes of the device, where its record is put between these
pub record IsMadeSo {M : Type 0} (stands : M → Network → DeviceId → Node → Type 0) (s : Scenario) (hs front back : List Happening) (now : ℕ)
    (device : DeviceId) (after : M) (node then_ : Node) (body : NoteBody) (at : List ℕ) : Type 0 where
  pub so : IsActRecordAt s hs front back now device body at
  pub told : (order : List ℕ) → at ≡ now ∷ 6 ∷ device.0 ∷ order
      → TellsRow s (hs ++ (front ++ record_of s.network hs front now body ∷ back)) now device order body
  pub it : HasSentIt stands s hs (front ++ record_of s.network hs front now body ∷ back) now device after node then_

-- what a step starts from by which the device acts so, and puts one record
pub record IsOneAct {C M : Type 0} (reading : C → ℕ → ℕ) (stands : M → Network → DeviceId → Node → Type 0) (s : Scenario) (world : World C M)
    (notes : List Note) (old : Stands reading stands s world notes) (device : DeviceId) (machine after : M) (machines : List M)
    (settled : List Happening) (act : Act) : Type 0 where
  pub on : IsActOn reading stands s world notes old device machine after act
  pub apart : IsCorrection (task_of act) → ⊥
  pub adjustment : on.did.0.standing.adjustment ≡ on.node.standing.adjustment
  pub did : (task : Task) → HasDoneTask on.did.0 task → HasDoneTask on.node task
      ⊎ (task_place s.network world.now device task ≡ world.now ∷ rank_of_act act ∷ act_rest s.network device act)
  pub body : NoteBody
  pub at_place : rank_of_act act ≤ 5 → (front : List Happening)
      → place_of (record_of s.network (happenings s.network notes) front world.now body) ≡ world.now ∷ rank_of_act act ∷ act_rest s.network device act
  pub late : 4 ≤ rank body
  pub causes : cause_of body ≤ length (happenings s.network notes)
  pub set : IsSet device.0 after world.machines machines
  pub put : ArePutIn s.network (happenings s.network notes) world.now (body ∷ []) world.settled settled
  pub makes : (front back : List Happening) → world.settled ≡ front ++ back
      → StageOf stands s (happenings s.network notes) (front ++ back) world.now device machine on.node act
      → NoneBefore place_of back (place_of (record_of s.network (happenings s.network notes) front world.now body))
      → IsMadeSo stands s (happenings s.network notes) front back world.now device after on.node on.did.0 body
      (world.now ∷ rank_of_act act ∷ act_rest s.network device act)

shown_act : {C M : Type 0} {reading : C → ℕ → ℕ} {stands : M → Network → DeviceId → Node → Type 0} {s : Scenario}
    {world : World C M} {notes : List Note} {old : Stands reading stands s world notes} {device : DeviceId}
    {machine after : M} {machines : List M} {settled : List Happening} {act : Act}
    (x : IsOneAct reading stands s world notes old device machine after machines settled act)
    → IsShownPut s.network (happenings s.network notes) world.now x.body world.settled settled
shown_act {s} {world} {notes} x =
    rw x.put.2 (one_shown s.network (happenings s.network notes) world.now x.body x.causes x.put.1)

-- ---- all that is due at its place is to come

module _ (s : Scenario) (js : List Happening) (t m now r : ℕ) (more : List ℕ) where
  -- what comes from an emission or a sending is of its kind
  of_its_kind : (body : NoteBody) → IsOwnSource s js t m body (now ∷ r ∷ more) → 4 ≤ r → r ≤ 5
      → is_at_source body ≡ true
  of_its_kind (kinds.State device state cause whys.SyncClique) o late low = grind arith
  of_its_kind other o late low = grind arith

-- so its record is all of it
pub all_one : (s : Scenario) (hs new : List Happening) {now r : ℕ} {more : List ℕ} (w : Happening) → 4 ≤ r → r ≤ 5
    → IsIn w new
    → place_of w ≡ now ∷ r ∷ more → IsAllOfIt s hs new (now ∷ r ∷ more)
all_one s hs new {now} {r} {more} w late low there at front back y e all none due own =
    search (arith, of_its_kind, own_here)

row_long : (network : Network) (device : DeviceId) (node : Node) (row : RowId) (cycle : ℕ) → IsDeedOf network device node (dispatching row cycle)
    → 1 ≤ length (dispatch_order network row)
row_long network device node row cycle own =
    let three : length (dispatch_order network row) ≡ 3 =
    rw own.1.is.row in
    omega arith

all_of_act : {s : Scenario} (hs new : List Happening) (now : ℕ) {device : DeviceId} (node then_ : Node) (act : Act)
    (w : Happening) → IsActOf s.network device node (moment_of s device now) act then_
    → IsLawful s (hs ++ new) device → ((z : Happening) → IsIn z new → time_of z ≡ now)
    → ((order : List ℕ) → now ∷ rank_of_act act ∷ act_rest s.network device act ≡ now ∷ 6 ∷ device.0 ∷ order
    → TellsRow s (hs ++ new) now device order w.note.body) → (IsCorrection (task_of act) → ⊥) → IsIn w new
    → (rank_of_act act ≤ 5 → place_of w ≡ now ∷ rank_of_act act ∷ act_rest s.network device act)
    → IsAllOfIt s hs new (now ∷ rank_of_act act ∷ act_rest s.network device act)
all_of_act {s} hs new now {device} node then_ (acts.Dispatch row cycle) w acted law of_now told apart there at =
    all_row hs new w law of_now (told (dispatch_order s.network row) refl) there
    (row_long s.network device node row cycle acted.0.pending.1.own)
all_of_act {s} hs new now {device} node then_ (acts.Send frame) w acted law of_now told apart there at =
    all_one s hs new w (omega arith) (omega arith) there (at (omega arith))
all_of_act {s} hs new now {device} node then_ (acts.Emit sent heard) w acted law of_now told apart there at =
    all_one s hs new w (omega arith) (omega arith) there (at (omega arith))
all_of_act hs new now node then_ (acts.Correct cycle verdict) w acted law of_now told apart there at = absurd (apart tt)

-- ---- what it has done

-- its clock had come to a task as before
pub still_came : (s : Scenario) (device : DeviceId) (node then_ : Node) {changed again : ℕ} (now : ℕ) (task : Task)
    → then_.standing.adjustment ≡ node.standing.adjustment
    → changed ≡ again → HadComeTo s device node changed now task → HadComeTo s device then_ again now task
still_came s device node then_ now (emitting sent) adjustment same x = x
still_came s device node then_ now (doing deed) adjustment same x = (
  x.0,
  rw same at x.1,
  x.2,
  rw adjustment x.3,
)

-- ---- the steps

-- it acts, and the frontier goes by
pub act_goes_by : {C M : Type 0} {reading : C → ℕ → ℕ} {stands : M → Network → DeviceId → Node → Type 0}
    {s : Scenario} {world : World C M} {notes : List Note} {old : Stands reading stands s world notes}
    {device : DeviceId} {machine after : M} {machines : List M} {settled : List Happening} {act : Act}
    → IsOneAct reading stands s world notes old device machine after machines settled act
    → StandsBehind reading stands s (record world { early = false; machines = machines; settled = settled }) notes
    (world.now ∷ rank_of_act act ∷ act_rest s.network device act)
act_goes_by {C} {M} {stands} {s} {world} {notes} {old} {device} {machine} {after} {act} x =
    let hs = happenings s.network notes in
    let now = world.now in
    let on = x.on in
    let then_ = on.did.0 in
    let at = now ∷ (rank_of_act act) ∷ (act_rest s.network device act) in
    let here = behind at in
    let p = shown_act x in
    let w = record_of s.network hs p.front now x.body in
    let new = p.front ++ w ∷ p.back in
    let st2 : StageOf stands s hs (p.front ++ p.back) now device machine on.node act =
    rw p.parts at on.st in
    let made = x.makes p.front p.back p.parts st2 p.none in
    let it = made.it in
    let put = as_put now w refl x.late in
    let earlier_same = earlier_put p.front p.back st2.work put in
    let law = lawful_then p.front p.back st2 p.before
    p.none made.so in
    let none_due : (task : Task) → IsDueTask s device then_ now task → IsBefore (task_place s.network now device task) here → ⊥ = λ task due b.
    let far = what_is_left s.network now device then_ act task old.range old.rules on.st.zero on.may on.did.1 x.apart
    due.0 due.1
    in
    nothing_between at (task_place s.network now device task)
    (subst (λ q. IsBefore q (task_place s.network now device task)) (act_stands s.network now device act) far) b in
    let turned =
    turned_then p.front p.back st2 put in
    let same = sym (earlier_still now hs new (λ z i. let t = (it.work.of_now z i).0 in omega arith)) in
    let points = sym (points_same new hs device (λ z i. let t = it.work.of_now z i in
    (quiet_rest s device now z.note.body (it.work.still z (in_right z hs new i) t.0), t.1))) in
    let due_of_act : (task : Task) → IsActing s hs now device task → (HasDoneTask then_ task → ⊥) → IsDueTask s device then_ now task = λ task a not.
    act_due (record { left = it.work.left; sound = it.work.sound })
    (record { taken = it.taken; past = it.work.past; lawful = law }) same points a not in
    let worked : (task : Task) → HasDoneTask then_ task
    → HadComeTo s device then_ (changed_at (hs ++ new) device now) now task ⊎ IsBefore (task_place s.network now device task) here = λ task has.
    elim (x.did task has) [
      | inr e ↦ inr (subst (λ q. IsBefore q here) (sym e) (before_behind at))
      | inl before ↦ elim (st2.worked task before) [
        | inl sooner ↦ inl (still_came s device on.node then_ now task x.adjustment (ap (change_in device) earlier_same)
            sooner)
        | inr gone ↦ inr (stays at (task_place s.network now device task) gone)
      ]
    ] in
    let there = in_right w p.front (w ∷ p.back) (inl refl) in
    one_goes_by on.here on.st p (omega arith) made.so
    (all_of_act hs new now on.node then_ act w on.did.1 law (λ z i. (it.work.of_now z i).0) made.told x.apart there
    (λ low. x.at_place low p.front))
    x.set
    (kept_on stands here after it.is it.work it.cleared it.taken
    (bare_act s.network device on.node (moment_of s device now) act then_ on.did.1 on.st.bare) turned it.phase on.st.reach on.st.calm.falls
    (λ task b a. elim (done_or then_ task) [ inl did ↦ did | inr not ↦ absurd (none_due task (due_of_act task a not) b) ]) worked)

-- ---- the steps by which a compression master emits the frame of a collection, and does not join by it: judgements

judged_back : (v : Judgement) → judged_as (ripe_as v) ≡ v
judged_back judgements.Opened = refl
judged_back other = refl

-- the master stays as it is but for what it hears
abbrev pub KeepsBy : Ripe → Type 0
KeepsBy ripe.Within = Unit {0}
KeepsBy ripe.Outside = Unit {0}
KeepsBy ripe.Ignored = Unit {0}
KeepsBy other = ⊥

stays_of : (v : Judgement) → KeepsBy (ripe_as v) → StaysBy v
stays_of judgements.Opened k = k
stays_of other k = k

none_joined_by : (n : ℕ) (device : DeviceId) (heard : Ripe) → KeepsBy heard → joining_bodies n device heard ≡ []
none_joined_by n device ripe.Integrates k = absurd k
none_joined_by n device other k = refl

last_by : (device : DeviceId) (c : Compressed) (v : Judgement) → StaysBy v → is_last (kinds.Compressed device c.opened c.at c.cycle c.members v) ≡ true
last_by device c judgements.Integrates s = absurd s
last_by device c other s = refl

-- the record of the emission
abbrev pub emission_body : DeviceId → Compressed → Judgement → NoteBody
emission_body device c v = kinds.Compressed device c.opened c.at c.cycle c.members v

-- ---- its record, and its node

-- where its emission stands
abbrev pub emission_rest : DeviceId → Compressed → List ℕ
emission_rest device c = device.0 ∷ amount c.opened ∷ amount c.at ∷ c.cycle ∷ c.members.0 ∷ sign c.opened.0 ∷ sign c.at.0 ∷ []

emission_record : {M : Type 0} {stands : M → Network → DeviceId → Node → Type 0} {s : Scenario} {hs : List Happening}
    (front back : List Happening) {now : ℕ} {device : DeviceId} {machine : M} {node : Node}
    (sent : Compressed) → StageAt stands s hs (front ++ back) now device machine node 4
    (emission_rest device sent) → IsPending s.network device node (emitting sent)
    → sent.at.0 ≤ℤ pos (s.reading device now) → StaysBy (own_judgement s.network device node sent)
    → IsActRecordAt s hs front back now device (emission_body device sent (own_judgement s.network device node sent))
    (now ∷ 4 ∷ emission_rest device sent)
emission_record {stands} {s} {hs} front back {now} {device} {machine} {node} sent st pending due stays =
    let v = own_judgement s.network device node sent in
    let body = emission_body device sent v in
    let e = emits front back sent st.work refl pending due in
    record {
      own = λ m. refl;
      here = IsSource.acting now device (emitting sent)
          (IsActing.emits sent v e);
      caused = e;
      fresh = fresh_above front back st
          (record_of s.network hs front now body)
          (omega arith);
      apart = λ other not. (ne_eqb other.0 device.0 not, λ at. refl);
      lone = last_unfollowed s hs now body (last_by device sent v stays);
    }

-- what stands behind it is no frame that is heard
hears_none : (s : Scenario) (device : DeviceId) (y : Happening) (body : NoteBody) → 4 < rank body → hearing_by s.network device y body ≡ None
hears_none s device y (kinds.Permanent other link cause point verdict) late = absurd (omega arith)
hears_none s device y (kinds.Compressed other opened at cycle members verdict) late = absurd (omega arith)
hears_none s device y other late = refl

has_emitted_it : {M : Type 0} {stands : M → Network → DeviceId → Node → Type 0} {s : Scenario} {hs : List Happening}
    (front back : List Happening) {now : ℕ} {device : DeviceId} {machine : M} (then_ : M)
    {node : Node} {after : Node} (sent : Compressed) (heard : Ripe)
    → StageAt stands s hs (front ++ back) now device machine node 4 (emission_rest device sent)
    → IsFirstTask s.network device node (moment_of s device now).reading.0 (emitting sent)
    → IsActOf s.network device node (moment_of s device now) (acts.Emit sent heard) after
    → after ≡ node_emitted s.network device node (moment_of s device now) sent
    (own_judgement s.network device node sent) → StaysBy (own_judgement s.network device node sent)
    → stands then_ s.network device after → HasSentIt stands s hs
    (front
    ++ (record_of s.network hs front now (emission_body device sent (own_judgement s.network device node sent)))
    ∷ back) now device then_ node after
has_emitted_it {stands} {s} {hs} front back {now} {device} {machine} then_ {node} {after} sent heard st
    first act is stays stood =
    let v = own_judgement s.network device node sent in
    let w = record_of s.network hs front now (emission_body device sent v) in
    let moment = moment_of s device now in
    let x : IsEmitted s.network device node after w sent = rw is
    (is_emitted s.network device node moment w sent v stays refl refl) in
    let may = may_act_now s device node now st.work.ready st.steady st.limit in
    let last : after.last ≡ moment = rw is (called_last s.network device node moment sent v) in
    let ready = ready_after s after (acts.Emit sent heard) st.work.ready st.steady st.precise st.wide may act last in
    record {
      is = stood;
      work = emits_on front back st.work (as_put now w refl (omega arith)) x
          (λ z i. hears_none s device z z.note.body (st.above z (in_right z front back i))) first.due ready;
      cleared = λ n has. rw x.but.standing (st.cleared n (rw x.done at has));
      taken = x.taken ∙ taken_then front back w st refl (λ at. refl);
      phase = rw is (called_phase s.network device node moment sent v);
    }
  where
    called_last : (network : Network) (device : DeviceId) (node : Node) (moment : _) (sent : Compressed) (v : Judgement)
        → (node_emitted network device node moment sent v).last ≡ moment
    called_last network device node moment sent v = refl

    called_phase : (network : Network) (device : DeviceId) (node : Node) (moment : _) (sent : Compressed) (v : Judgement)
        → (node_emitted network device node moment sent v).phase ≡ acting
    called_phase network device node moment sent v = refl

-- it has done what it had done, and that emission
did_emission : (s : Scenario) (now : ℕ) {device : DeviceId} {node after : Node} {w : Happening} {sent : Compressed}
    (task : Task) → IsEmitted s.network device node after w sent → HasDoneTask after task
    → HasDoneTask node task ⊎ (task_place s.network now device task ≡ now ∷ 4 ∷ emission_rest device sent)
did_emission s now (doing deed) x has = inl (rw x.done at has)
did_emission s now {device} {node} {sent} (emitting c) x has =
    elim (Contains-push_cases node.emitted sent c (rw x.emitted at has)) [
      | inl old ↦ inl old
      | inr e ↦ inr (rw (sym e))
    ]

-- ---- the step

-- the master emits, and stays as it is
pub emits_one : {C M : Type 0} {reading : C → ℕ → ℕ} {stands : M → Network → DeviceId → Node → Type 0} {s : Scenario}
    {world : World C M} {notes : List Note} {old : Stands reading stands s world notes} {device : DeviceId}
    {machine after : M} {machines : List M} (settled : List Happening) (sent : Compressed) (heard : Ripe) → KeepsBy heard
    → (on : IsActOn reading stands s world notes old device machine after (acts.Emit sent heard))
    → IsSet device.0 after world.machines machines → ArePutIn s.network (happenings s.network notes) world.now
    (kinds.Compressed device sent.opened sent.at sent.cycle sent.members (judged_as heard)
    ∷ joining_bodies (length (happenings s.network notes) + 1) device heard) world.settled settled
    → IsOneAct reading stands s world notes old device machine after machines settled (acts.Emit sent heard)
emits_one {reading} {stands} {s} {world} {notes} {old} {device} {machine} {after} settled sent heard keeps on set put =
    let hs = happenings s.network notes in
    let now = world.now in
    let node = on.node in
    let act = on.did in
    let first = act.1.0 in
    let v = own_judgement s.network device node sent in
    let is = act.1.2
    ∙ (rw act.1.1) in
    let stays = stays_of v (subst KeepsBy act.1.1 keeps) in
    let body = emission_body device sent v in
    let w0 = record_of s.network hs [] now body in
    let emitted : IsEmitted s.network device node act.0 w0 sent =
    rw is (is_emitted s.network device node (moment_of s device now) w0 sent v stays refl refl) in
    record {
      on = on;
      apart = λ x. x;
      adjustment = rw emitted.but.standing;
      did = λ task has. did_emission s now task emitted has;
      body = body;
      at_place = λ low front. refl;
      late = omega arith;
      causes = omega arith;
      set = set;
      put =
          rw (ap judged_as act.1.1 ∙ judged_back v) at (rw (none_joined_by (length hs + 1) device heard keeps) at put);
      makes = λ front back parts st2 none. record {
        so = emission_record front back sent st2 first.pending first.due stays;
        told = λ order e. (let four : 4 ≡ 6 = ap second e in absurd (omega arith));
        it = has_emitted_it front back after sent heard st2 first act.1 is stays act.2;
      };
    }
