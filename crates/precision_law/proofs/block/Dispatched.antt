-- Good masters dispatch the frames of each cycle.
use Rattle.precision_law.proofs.{block.Onward.{hull_ordered, reaches_in_block}, clocks.Epochs.joiner_waits}
use Rattle.precision_law.proofs.{words.Blocks.{master_is_end, not_turned_on_then, old_point, turned_at}}
use Rattle.precision_law.proofs.words.Blocks.{HasPoint, before_narrow, earlier_in_block, early_show, has_corrected, has_lost, joining_of_setting, looking_by}
use Rattle.precision_law.proofs.words.Clocks.{before_of, before_place, earlier_before, frames_come_first, good_is_correct, in_earlier, natural_of, one_more}
use Rattle.{precision_law.proofs.words.Clocks.{reaches_front, room, same_device, setting_is, sizes_are}, run_law.specs.timed.Dispatching.Sends}
use Rattle.precision_law.proofs.words.Laws.{BlocksGoSo, HasTimeAt, IsClique, IsDispatch, IsFirm, IsFirstMaster, IsGood, IsInBlock, IsOldAt, IsView, Stands}
use Rattle.precision_law.proofs.words.Laws.{MastersDispatch, View, first_correction, has_time, is_correction, last_dispatch, last_setting, state_left}
use Rattle.precision_law.proofs.words.Plans.{Corrected, Device, DeviceId, Event, Integrating, Joining, State, Synchronised, Verdict, amount, device_at}
use Rattle.precision_law.proofs.words.{Plans.{state_at_start, units_of}, Std.{option_and_then, option_map_or, pos, refl, subst, suc, sym, true, zero, ℕ}}
use Rattle.precision_law.proofs.words.Runs.{BeginsOn, ChangesState, Happening, Integrates, IsCaused, IsDue, IsFoundedAt, IsIn, NotOff, Note, NoteBody, Reaches}
use Rattle.precision_law.proofs.words.Runs.{is_synchronised, TurnsOn, Why, due_is_there, earlier, founded_at, happening, in_at, in_left, is_joined_by, is_turned_on_at, numbered}
use Rattle.precision_law.proofs.words.Runs.{numbered_in, parted, place_of, split, start_of, state_after, state_before, state_with, time_of}
use Rattle.precision_law.proofs.words.Std.{◌*◌, ◌+ℤ◌, ◌+◌, ◌<ℤ◌, ◌<◌, ◌==◌, ◌∙◌, ◌∷◌, ◌≡◌, ◌≤◌, Bool, IsNone, IsSomeAnd, List, None, Option, Some, [], ap}
use Rattle.precision_law.proofs.words.Std.{arith, both_ways, cases_Bool, cases_lt, false, false_from_ne_true, fold, if◌then◌else◌, inl, inr, ints, length, negsuc}
use Rattle.run_law.specs.declared.judgement.Why.TheVariants as whys
use Rattle.run_law.specs.declared.note.NoteBody.TheVariants as notes

-- ---- a device that begins on stays synchronised while it comes to no clique

-- no clique takes the time from the device before this time
abbrev pub NoCliqueBefore : View → DeviceId → ℕ → Type 0
NoCliqueBefore v device t =
    (h : Happening) (state : State) (cause : ℕ) (why : Why) → IsIn h v.records → time_of h < t → h.note.body ≡ notes.State device state cause why → IsClique why
    → ⊥

starts_synchronised : (o : Option Device) → IsSomeAnd o (λ d. IsNone d.start → ⊥) → state_at_start (option_and_then (λ d. d.start) o) ≡ Synchronised
starts_synchronised None on = absurd on
starts_synchronised (Some d) on = grind (arith, state_at_start)

kept_state : (b : Bool) (state : State) → (b ≡ true → state ≡ Synchronised) → (if b then state else Synchronised) ≡ Synchronised
kept_state true state same = same refl
kept_state false state same = refl

-- an event turns on no device that began on
never_turned_on : {v : View} (device : DeviceId) (event : Event) → IsView v → BeginsOn v.scenario.network device
    → IsIn event v.scenario.events → TurnsOn device event → ⊥
never_turned_on {v} device event is on i turns =
    let at = parted event v.scenario.events i in
    is.lawful.within at.0 at.1 event at.2 NotOff (record { device = device; what = turns; known = inl on })

module _ (v : View) (device : DeviceId) (t : ℕ) (is : IsView v) (on : BeginsOn v.scenario.network device) (none : NoCliqueBefore v device t)
    (before : (w : ℕ) → w < t → state_left v device w ≡ Synchronised) where
  -- it is synchronised when something comes
  pub was_synchronised : (w : ℕ) (hs : List Happening) → earlier w hs ≡ earlier w v.records → w < t → state_before v.scenario hs device w ≡ Synchronised
  was_synchronised w hs same lt =
      let quiet = false_from_ne_true (is_turned_on_at v.scenario device w) (λ turned.
      (let x = turned_at v.scenario device w turned in never_turned_on device x.event is on x.there x.turns)) in
      rw quiet
      (ap (λ x. state_after v.scenario x device) same ∙ before w lt)

  then_synchronised : (h : Happening) → (at : IsFoundedAt v.scenario v.records h) → time_of h < t
      → state_before v.scenario at.front device (time_of h) ≡ Synchronised
  then_synchronised h at lt = was_synchronised (time_of h) at.front (earlier_before (before_of is at)) lt

  -- so no frame tells it the time
  pub never_joins : (h : Happening) → IsIn h v.records → time_of h < t → is_joined_by device h.note.body ≡ true → ⊥
  never_joins h i lt joined =
      let at = founded_at v.scenario v.records h is.run.founded i in
      let looks = looking_by v.scenario at.front h.note.time device h.note.body joined at.due.cause in
      let both = sym (then_synchronised h at lt) ∙ looks in cc

  -- and no record changes its state
  pub never_changes : (h : Happening) (state : State) (cause : ℕ) (why : Why) → IsIn h v.records → time_of h < t
      → h.note.body ≡ notes.State device state cause why → ⊥
  never_changes h state cause why i lt body = by why body (subst (IsCaused v.scenario at.front h.note.time) body at.due.cause)
    where
      at : IsFoundedAt v.scenario v.records h
      at = founded_at v.scenario v.records h is.run.founded i

      in_all : (g : Happening) → numbered at.front cause ≡ Some g → IsIn g v.records
      in_all g e = subst (IsIn g) (sym at.whole) (in_left g at.front (h ∷ at.rest) (numbered_in at.front cause g e))

      by : (why : Why) → h.note.body ≡ notes.State device state cause why → ChangesState v.scenario at.front device (time_of h) state cause why → ⊥
      by whys.On body c =
          let g = c.2.1 in
          let found = founded_at v.scenario v.records g is.run.founded (in_all g c.2.2.there) in
          let r = subst (IsCaused v.scenario found.front g.note.time) c.2.3 found.due.cause in
          never_turned_on device r.event is on (in_at v.scenario.events r.before r.event r.is) (sym r.same)
      by whys.Frame body c = never_joins c.1.0 (in_all c.1.0 c.1.1.there) (omega (arith, c.1.1.same_time)) c.1.2
      by whys.Correction body c = (let both = sym (then_synchronised h at lt) ∙ c.1 in cc)
      by whys.SyncClique body c = none h state cause whys.SyncClique i lt body tt
      by whys.AsyncClique body c = none h state cause whys.AsyncClique i lt body tt

  stays_by : (h : Happening) (body : NoteBody) → IsIn h v.records → time_of h < t → h.note.body ≡ body → state_with device Synchronised body ≡ Synchronised
  stays_by h (notes.State other state cause why) i lt same =
      kept_state (device.0 == other.0) state (λ own. absurd (never_changes h state cause why i lt
      (same ∙ ap (λ d. notes.State d state cause why) (same_device device other own))))
  stays_by h (notes.Permanent other link cause point Integrates) i lt same =
      kept_state (device.0 == other.0) Joining (λ own. absurd (never_joins h i lt (ap (is_joined_by device) same ∙ own)))
  stays_by h (notes.Compressed other opened own cycle members Integrates) i lt same =
      kept_state (device.0 == other.0) Joining (λ mine. absurd (never_joins h i lt (ap (is_joined_by device) same ∙ mine)))
  stays_by h body i lt same = refl

  all_stay : (hs : List Happening) → ((h : Happening) → IsIn h hs → state_with device Synchronised h.note.body ≡ Synchronised) → (start : State)
      → start ≡ Synchronised → fold (λ state h. state_with device state h.note.body) start hs ≡ Synchronised
  all_stay [] each start same = same
  all_stay (h ∷ hs) each start same =
      all_stay hs (λ g i. each g (inr i)) (state_with device start h.note.body) (rw same (each h (inl refl)))

  stays_now : state_left v device t ≡ Synchronised
  stays_now =
      all_stay (earlier t v.records) (λ h i. (let back = in_earlier t v.records h i in stays_by h h.note.body back.0 back.1 refl))
      (state_at_start (start_of v.scenario.network device)) (starts_synchronised (device_at v.scenario.network device) on)

pub stays_synchronised : {v : View} (device : DeviceId) (bound t : ℕ) → IsView v → t ≤ bound
    → BeginsOn v.scenario.network device → NoCliqueBefore v device t → state_left v device t ≡ Synchronised
stays_synchronised {v} device zero t is le on none =
    stays_now v device t is on none (λ w lt. absurd (omega arith))
stays_synchronised {v} device (suc bound) t is le on none =
    stays_now v device t is on none (λ w lt. stays_synchronised device bound w is (omega arith) on
    (λ h state cause why i early. none h state cause why i (omega arith)))

-- a device that is to keep the time has kept it up to a block
pub firm_kept : {v : View} {n : ℕ} (before : Stands v n) {device : DeviceId} → IsFirm v device
    → NoCliqueBefore v device before.next
firm_kept before {device} firm h state cause why i early body clique =
    before.kept h device state cause why i early body clique firm

-- ---- before the correction points of a block

-- a good device that began on and kept the time up to the block, and an instant of the block before its correction points
pub record IsCalm (v : View) (n t : ℕ) (block : IsInBlock v n t) (device : DeviceId) (b : ℕ) : Type 0 where
  pub before : pos b <ℤ (first_correction v.sizes block.before.hull +ℤ pos v.sizes.reach)
  pub to : b ≤ t
  pub kept : NoCliqueBefore v device block.before.next
  pub good : IsGood v device
  pub on : BeginsOn v.scenario.network device

-- an instant of the block before its correction points
abbrev pub IsEarly : (v : View) (n t : ℕ) → IsInBlock v n t → ℕ → Type 0
IsEarly v n t block b = (pos b <ℤ (first_correction v.sizes block.before.hull +ℤ pos v.sizes.reach)) × (b ≤ t)

module _ (goes : BlocksGoSo) (v : View) (n t : ℕ) (block : IsInBlock v n t) (device : DeviceId) (b : ℕ) where
  -- no device has a correction point by then
  pub early_point : (w cycle : ℕ) (verdict : Verdict) → IsView v → IsEarly v n t block b → block.before.next ≤ w → w ≤ b
      → HasPoint v w device cycle verdict → ⊥
  early_point w cycle verdict is early from le p =
      let here = earlier_in_block v n t w block from (omega (arith, early.1)) in
      let late = (old_point (goes v n w here is) p).1.not_early in
      omega (arith, ints, early.0)

  -- so the clock of a good device that is synchronised by then was set before the block
  pub set_before : (w : ℕ) → IsView v → IsEarly v n t block b → IsGood v device → w ≤ b + 1
      → is_synchronised (state_left v device w) ≡ true → (o : Option Happening) → last_setting (earlier w v.records) device ≡ o
      → option_map_or (λ h. pos (time_of h)) o (negsuc 0) <ℤ pos block.before.next
  set_before w is early good le synchronised None e = omega (arith, ints)
  set_before w is early good le synchronised (Some h) e =
      let set = setting_is v device w h e in
      let to : time_of h ≤ b = omega (arith, set.early) in
      elim (cases_lt (time_of h) block.before.next) [
        | inl lt ↦ omega (arith, ints)
        | inr from ↦ elim (cases_Bool (is_correction h.note.body)) [
          | inr joined ↦
              let joins = joining_of_setting device h.note.body set.sets joined in
              absurd (both_ways _ (joiner_waits device w h is e joins) synchronised)
          | inl corrected ↦
              let c = has_corrected device h is good set.there set.sets corrected in
              absurd (early_point (time_of h) c.cycle (Corrected c.by) is early from to c.point)
        ]
      ]

  pub old_early : (w : ℕ) → IsView v → IsEarly v n t block b → IsGood v device → w ≤ b + 1
      → is_synchronised (state_left v device w) ≡ true → IsOldAt v block.before.next device w
  old_early w is early good le synchronised =
      set_before w is early good le synchronised (last_setting (earlier w v.records) device) refl

  -- a calm device has no correction point by then
  pub no_point : (w cycle : ℕ) (verdict : Verdict) → IsView v → IsCalm v n t block device b → block.before.next ≤ w → w ≤ b
      → HasPoint v w device cycle verdict → ⊥
  no_point w cycle verdict is at from le p = early_point w cycle verdict is (at.before, at.to) from le p

  pub no_clique : (w : ℕ) → IsView v → IsCalm v n t block device b → w ≤ b + 1 → NoCliqueBefore v device w
  no_clique w is at le h state cause why i lt body clique = elim (cases_lt (time_of h) block.before.next) [
    | inl early ↦ at.kept h state cause why i early body clique
    | inr from ↦
        let lost = has_lost device h state cause why is at.good i body clique in
        no_point (time_of h) lost.cycle lost.verdict is at from (omega arith) lost.point
  ]

  -- it is synchronised
  pub synchronised_then : (w : ℕ) → IsView v → IsCalm v n t block device b → w ≤ b + 1 → state_left v device w ≡ Synchronised
  synchronised_then w is at le = stays_synchronised device w w is (omega arith) at.on (no_clique w is at le)

  pub synchronised_before : (q : ℕ) (hs : List Happening) → IsView v → IsCalm v n t block device b → earlier q hs ≡ earlier q v.records → q ≤ b
      → state_before v.scenario hs device q ≡ Synchronised
  synchronised_before q hs is at same le =
      was_synchronised v device (b + 1) is at.on (no_clique (b + 1) is at (omega arith))
      (λ w lt. synchronised_then w is at (omega arith)) q hs same
      (omega arith)

  pub joins_never : (h : Happening) → IsView v → IsCalm v n t block device b → IsIn h v.records → time_of h ≤ b → is_joined_by device h.note.body ≡ true → ⊥
  joins_never h is at i le joined =
      never_joins v device (b + 1) is at.on (no_clique (b + 1) is at (omega arith))
      (λ w lt. synchronised_then w is at (omega arith)) h i
      (omega arith) joined

  pub changes_never : (h : Happening) (state : State) (cause : ℕ) (why : Why) → IsView v → IsCalm v n t block device b → IsIn h v.records → time_of h ≤ b
      → h.note.body ≡ notes.State device state cause why → ⊥
  changes_never h state cause why is at i le body =
      never_changes v device (b + 1) is at.on (no_clique (b + 1) is at (omega arith))
      (λ w lt. synchronised_then w is at (omega arith)) h state cause why
      i (omega arith) body

  -- nothing sets its clock in the block by then
  old_by : (w : ℕ) → IsView v → IsCalm v n t block device b → w ≤ b + 1 → (o : Option Happening) → last_setting (earlier w v.records) device ≡ o
      → option_map_or (λ h. pos (time_of h)) o (negsuc 0) <ℤ pos block.before.next
  old_by w is at le None e = omega (arith, ints)
  old_by w is at le (Some h) e =
      let set = setting_is v device w h e in
      let to : time_of h ≤ b = omega (arith, set.early) in
      elim (cases_lt (time_of h) block.before.next) [
        | inl lt ↦ omega (arith, ints)
        | inr from ↦ elim (cases_Bool (is_correction h.note.body)) [
          | inr joined ↦ absurd (joins_never h is at set.there to (joining_of_setting device h.note.body set.sets joined))
          | inl corrected ↦
              let c = has_corrected device h is at.good set.there set.sets corrected in
              absurd (no_point (time_of h) c.cycle (Corrected c.by) is at from to c.point)
        ]
      ]

  -- so its clock was set before the block
  pub old_then : (w : ℕ) → IsView v → IsCalm v n t block device b → w ≤ b + 1 → IsOldAt v block.before.next device w
  old_then w is at le = old_by w is at le (last_setting (earlier w v.records) device) refl

-- ---- the dispatch

-- where a good synchronised master reaches the beginning of a cycle, it sends
pub sends_there : {v : View} {device : DeviceId} {u : ℕ} (cycle : ℕ) → IsView v → u ≤ v.until
    → IsFirstMaster v device → 1 ≤ cycle → state_left v device u ≡ Synchronised
    → Reaches v.scenario v.records device (pos (cycle * amount v.scenario.network.cycle)) u
    → (h : Happening) × IsDispatch v h device cycle × (time_of h ≡ u)
sends_there {v} {device} {u} cycle is le master begun synchronised reaches =
    let s = v.scenario in
    let at = split place_of (IsDue s) v.records (u ∷ 5 ∷ device.0 ∷ cycle ∷ []) is.run.founded in
    let before = before_place v u (5 ∷ device.0 ∷ cycle ∷ []) at in
    let timed : has_time (state_left v device u) ≡ true = ap has_time synchronised in
    let state = ap (λ b. if b then Integrating else state_after s (earlier u at.front) device)
    (not_turned_on_then device u is timed) ∙ ap
    (λ hs. state_after s hs device) (earlier_before before) ∙ synchronised in
    let sends : Sends s at.front device u cycle = record {
      master = master.master;
      up = record { synchronised = state; correct = good_is_correct v device u master.good le };
      begun = begun;
      reached = reaches_front before reaches;
    } in
    let note : Note = record { number = length at.front + 1; time = units_of u; body = notes.Sent device cycle } in
    let x = happening s.network at.front note in
    let due : IsDue s at.front x = record { number = refl; same = refl; begun = omega (arith, ints); cause = sends } in
    (x, record { there = due_is_there at is.run due (inl (omega arith)); is = refl; good = master.good }, refl)

-- at the last dispatch an old clock has reached the beginning of the cycle
pub masters_dispatch : BlocksGoSo → MastersDispatch
masters_dispatch goes v n t block device is late master =
    let s = v.scenario in
    let before = block.before in
    let last = last_dispatch v.sizes before.hull in
    let natural =
    natural_of last before.next (omega (arith, ints, early_show n before is, hull_ordered n before is, room is)) in
    let b = natural.0 in
    let from : before.next ≤ b =
    omega (arith, ints, natural.1, early_show n before is, hull_ordered n before is, room is) in
    let calm : IsCalm v n t block device b = record {
      before = omega (arith, ints, natural.1, frames_come_first v.sizes before.hull (room is) (before_narrow before));
      to = omega (arith, ints, natural.1);
      kept = firm_kept before {device = device} (inl
          (record { end = master_is_end v device master.master; good = master.good }));
      good = master.good;
      on = master.on;
    } in
    let synchronised = λ (w : ℕ) (le : w ≤ b + 1). synchronised_then goes v n t block device b w is calm le in
    let has_next : HasTimeAt v device before.next = record {
      good = master.good;
      timed =
          ap has_time (synchronised before.next (omega arith));
    } in
    let found = reaches_in_block b v.sizes.cycle before is has_next from
    (old_then goes v n t block device b b is calm (omega arith)) (omega arith)
    (omega (arith, ints, natural.1)) (omega (arith, ints, natural.1)) in
    let u = found.0 in
    let until : u ≤ v.until = omega (arith, found.2, calm.to, block.in_run) in
    let value_is : pos (n * v.sizes.cycle + v.sizes.cycle) ≡ pos (suc n * amount s.network.cycle) =
    ap pos (sym (one_more n v.sizes.cycle) ∙ ap (λ c. suc n * c) (sizes_are is).cycle) in
    let sent = sends_there {u = u} (suc n) is until master (omega arith) (synchronised u (omega (arith, found.2)))
    (rw (sym value_is) found.3) in
    (sent.0, sent.1, omega (arith, ints, sent.2, found.2, natural.1))
