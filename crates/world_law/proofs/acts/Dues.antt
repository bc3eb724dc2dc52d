-- What devices have still to do at an instant, and that none of it is before what a world has under way.
use Rattle.std.proofs.{Common.{◌<◌, Contains, negsuc, true}}
use Rattle.std.proofs.{lemmas.{Bool.cases_eq, List.Elements.{Contains-append_left, Contains-push, Contains-push_cases}}}
use Rattle.net_plan.specs.declared.tables.Role.{Role}
use Rattle.run_law.{proofs.law.FirstDeliveries.numbered_front}
use Rattle.run_law.specs.{control.Corrections.standing_before, declared.judgement.Why.TheVariants.On}
use Rattle.run_law.specs.{scenario.Devices.{has_role, start_of}}
use Rattle.sync_state.specs.Standing.{state_at_start}
use Rattle.tte_units.proofs.general_lemmas.Lists.{none_in}
use Rattle.world_law.{specs.world.Moves.{NothingBefore, NothingComesBefore}}
use Rattle.world_law.proofs.{acts.Acting.{IsUnmoved, point_number}, giving.GivenParts.no_later_breaks}
use Rattle.world_law.proofs.{lists.{Lists.{behind_no, map_none}, Orders.cases_int}}
use Rattle.world_law.proofs.{rows.{AtHand.{has_frame, value_is}, Dispatching.{IsLawful, dispatching_task, lawful}}}
use Rattle.world_law.proofs.Words
use Words.{◌++◌, ◌+◌, ◌-ℤ◌, ◌<ℤ◌, ◌∙◌, ◌∷◌, ◌≡◌, ◌≤ℤ◌, ◌≤◌, ◌⊎◌, AreOfNetwork, Bool, ClockTask, Compressed, Device}
use Words.{DeviceId, Dispatches, Emits, HadComeTo, Happening, HasDoneTask, HaveBefallen, Integrating, IsActing}
use Words.{IsAtCorrection, IsBefore, IsDue, IsFounded, IsHeld, IsIn, IsKept, IsLeft, IsPending, IsSendLost, Judgement}
use Words.{LinkId, List, Network, Node, None, Note, NoteBody, Off, Reaches, RowId, Scenario, Sends, Some, Stands, State}
use Words.{Task, VlId, World, [], act_place, adjustment_before, after_last, ap, append-nil, append_assoc, arith}
use Words.{before_later, by_number, cases_Bool, cases_lt, chain, changed_at, correcting, device_at, dispatch_body}
use Words.{dispatching, doing, earlier, emitting, ends_stretch, false, filter, filter_map, frames_taken, happenings}
use Words.{in_filter, in_left, in_parts, in_right, inl, inr, ints, is_accepted, is_at_source, is_broken, is_cut}
use Words.{is_timed, is_turning, last_in, length, moves, nat_lt, never_both, next_cycle, numbered, option_map_or}
use Words.{place_of, plan_of, point_by, point_in, points_of, pos, rank, reading_for, refl, sending, slice_get_within}
use Words.{state_after, state_before, state_with, subst, sym, task_place, time_of, value_of, way_from, ℕ, ℤ}
use Rattle.world_law.proofs.devices.{Standing.{IsPast, IsQuiet, IsWorked, are_past, at_rest, by_last, quiet_rest}}
use Rattle.world_law.proofs.devices.{Unmoved.keeps_state, Working.came_sooner}
use Rattle.world_law.proofs.runs.{Agreement.in_earlier}
use Rattle.world_law.proofs.runs.{Foremost.{NoActBefore, acting_task, none_but_acts, not_on_after}}
use Rattle.world_law.proofs.runs.{TaskPlaces.{acts_before, placed_so}}
use Rattle.world_law.proofs.runs.Worlds
use Worlds.{dispatches_same, earlier_still, frame_source, of_high_rank, reaches_back, settled_of, up_back}
use Rattle.run_law.specs.declared.note.NoteBody.TheVariants as kinds

-- ---- what a device at the present instant has not done of what is due, it has still to do: a list has a thing or not

pub contains_or : {X : Type 0} (x : X) → ((y : X) → (y ≡ x) ⊎ (y ≡ x → ⊥)) → (xs : List X) → Contains xs x ⊎ (Contains xs x → ⊥)
contains_or {X} x same xs =
    by_last (λ l. Contains l x ⊎ (Contains l x → ⊥)) (inr (λ c. none_in x c)) (λ l y known. elim (same y) [
      | inl e ↦ inl (rw (sym e) (Contains-push l y))
      | inr other ↦ elim known [
        | inl c ↦ inl (Contains-append_left l (y ∷ []) x c)
        | inr none ↦ inr (λ c. elim (Contains-push_cases l y x c) [ inl old ↦ none old | inr e ↦ other e ])
      ]
    ]) xs

same_deed : (c d : ClockTask) → (d ≡ c) ⊎ (d ≡ c → ⊥)
same_deed (sending m) (sending n) = elim (cases_eq n m) [ inl e ↦ inl (ap sending e) | inr other ↦ inr (λ e. other (let f : n ≡ m = cc in f)) ]
same_deed (correcting m) (correcting n) = elim (cases_eq n m) [ inl e ↦ inl (ap correcting e) | inr other ↦ inr (λ e. other (let f : n ≡ m = cc in f)) ]
same_deed (dispatching row m) (dispatching other n) = grind (arith, cases_eq, dispatching)
same_deed c d = inr (λ e. cc)

same_int : (a b : ℤ) → (a ≡ b) ⊎ (a ≡ b → ⊥)
same_int (pos m) (pos n) = elim (cases_eq m n) [
  | inl e ↦ inl (ap pos e)
  | inr other ↦
      inr (λ e. other (omega (arith, ints)))
]
same_int (negsuc m) (negsuc n) = elim (cases_eq m n) [
  | inl e ↦ inl (ap negsuc e)
  | inr other ↦
      inr (λ e. other (omega (arith, ints)))
]
same_int (pos m) (negsuc n) = inr (λ e. omega (arith, ints))
same_int (negsuc m) (pos n) = inr (λ e. omega (arith, ints))

same_frame : (c d : Compressed) → (d ≡ c) ⊎ (d ≡ c → ⊥)
same_frame c d = grind (arith, same_int, cases_eq)

-- a device has done a task or not
pub done_or : (node : Node) (task : Task) → HasDoneTask node task ⊎ (HasDoneTask node task → ⊥)
done_or node (emitting sent) = contains_or sent (same_frame sent) node.emitted
done_or node (doing deed) = contains_or deed (same_deed deed) node.done

-- ---- a device as the records leave it at the instant

-- it is sound
pub record IsPresent (s : Scenario) (js : List Happening) (now : ℕ) (device : DeviceId) (node : Node) : Type 0 where
  pub left : IsLeft s js device now node
  pub sound : is_broken s device now ≡ false

-- and has taken what they say, which are lawful and no later
pub record HasItsFrames (s : Scenario) (js : List Happening) (now : ℕ) (device : DeviceId) (node : Node) : Type 0 where
  pub taken : node.taken ≡ frames_taken s js device
  pub past : (h : Happening) → IsIn h js → time_of h ≤ now
  pub lawful : IsLawful s js device

-- the task is due of it
abbrev pub IsDueTask : Scenario → DeviceId → Node → ℕ → Task → Type 0
IsDueTask s device node now task = IsPending s.network device node task × (reading_for s.network node task ≤ℤ pos (s.reading device now))

pub same_standing : {s : Scenario} {hs : List Happening} {device : DeviceId} {t : ℕ} {node : Node}
    → IsLeft s hs device t node → is_timed node.standing.state ≡ true → node.standing ≡ standing_before s hs device t
same_standing left is = grind (arith, plan_of, state_before, adjustment_before)

module _ {s : Scenario} {js : List Happening} {now : ℕ} {device : DeviceId} {node : Node} where
  -- its clock is at the value that is reached
  read_so : {v : ℤ} → IsPresent s js now device node → Reaches s js device v now
      → (v -ℤ node.standing.adjustment.0) ≤ℤ pos (s.reading device now)
  read_so {v} w r =
      rw w.left.counted.adjustment r.reach.reached

  ahead_so : {v : ℤ} → IsPresent s js now device node → Reaches s js device v now → node.changed <ℤ v
  ahead_so {v} w r = rw w.left.counted.changed r.below

  pub sending_due : {cycle : ℕ} → IsPresent s js now device node → Sends s js device now cycle
      → (Contains node.done (sending cycle) → ⊥) → IsDueTask s device node now (doing (sending cycle))
  sending_due w d not = search (arith, ahead_so, read_so)

-- by other records that leave it the same points
pub emitting_due : {s : Scenario} {js gs : List Happening} {now : ℕ} {device : DeviceId} {node : Node}
    {c : Compressed} {verdict : Judgement} → IsPresent s js now device node
    → points_of gs device ≡ points_of js device → Emits s gs device now c verdict → (Contains node.emitted c → ⊥)
    → IsDueTask s device node now (emitting c)
emitting_due {s} w points e not = search arith

pub correcting_due : {s : Scenario} {js : List Happening} {now : ℕ} {device : DeviceId} {node : Node} {cycle : ℕ}
    → IsPresent s js now device node → IsAtCorrection s js now device cycle
    → (Contains node.done (correcting cycle) → ⊥) → IsDueTask s device node now (doing (correcting cycle))
correcting_due {s} {js} {now} {device} {node} {cycle} w c not =
    search (arith, point_number, is_timed, same_standing, ahead_so, read_so)

pub dispatching_due : {s : Scenario} {js : List Happening} {now : ℕ} {device : DeviceId} {node : Node}
    {link : LinkId} {cause : ℕ} {vl : VlId} {cycle : ℕ} → IsPresent s js now device node
    → HasItsFrames s js now device node → (d : Dispatches s js device now link cause vl cycle)
    → (Contains node.done (dispatching (record { 0 = d.place }) cycle) → ⊥)
    → IsDueTask s device node now (doing (dispatching (record { 0 = d.place }) cycle))
dispatching_due {s} {js} {now} {device} {node} {cycle} w f d not =
    let row : RowId = record { 0 = d.place } in
    let reached : Reaches s js device (value_of s.network (dispatching row cycle)) now =
    rw (value_is row cycle d.row) d.reached in
    let frame = has_frame (record {
      range = f.lawful.range;
      rules = f.lawful.rules;
      steady = f.lawful.steady;
      founded = f.lawful.founded;
      past = f.past;
      taken = f.taken;
      is = d.row;
      leaves = d.leaves;
      reached = d.reached;
    }) d.occurs d.at_hand in (
      (
        w.left.counted.broken ∙ w.sound,
        record {
          own = (w.left.state ∙ d.up.synchronised, frame);
          ahead = ahead_so w reached;
          not_yet = not;
        },
      ),
      read_so w reached,
    )

-- ---- all kinds

-- what acts by records that leave the device as it is, and is not done, is due of it
pub act_due : {s : Scenario} {js hs : List Happening} {now : ℕ} {device : DeviceId} {node : Node} {task : Task}
    → IsPresent s js now device node → HasItsFrames s js now device node → earlier now hs ≡ earlier now js
    → points_of hs device ≡ points_of js device → IsActing s hs now device task → (HasDoneTask node task → ⊥)
    → IsDueTask s device node now task
act_due w f same points (IsActing.emits sent verdict e) not = emitting_due w points e not
act_due {s} {js} {hs} {now} {device} {node} w f same points (IsActing.sends cycle d) not =
    search (arith, sending_due, up_back, reaches_back)
act_due {s} {js} {hs} {now} {device} w f same points (IsActing.corrects cycle c) not =
    correcting_due w
    (record {
      next = rw same at c.next;
      reached = reaches_back s hs js now device same c.reached;
      correct = c.correct;
    }) not
act_due {s} {js} {hs} {now} {device} {node} w f same points (IsActing.dispatches link cause vl cycle d) not =
    let e = dispatches_same s hs js now device link cause vl cycle same d in
    rw e.1 at (dispatching_due w f e.0
    (λ there. not (rw e.1 at there)))

-- nor had its clock come to what is reached at the instant before it
had_not : {s : Scenario} {js : List Happening} {now : ℕ} {device : DeviceId} {node : Node} {v : ℤ}
    → IsPresent s js now device node → Reaches s js device v now → (x : ℕ) → changed_at js device now ≤ x → x < now
    → (v -ℤ node.standing.adjustment.0) ≤ℤ pos (s.reading device x) → ⊥
had_not {s} {device} {v} w r x from lt at =
    never_both _ _ (r.reach.not_before x (omega (arith, ints)) (omega (arith, ints)))
    (rw w.left.counted.adjustment at at)

pub came_not : {s : Scenario} {js hs : List Happening} {now : ℕ} {device : DeviceId} {node : Node} {task : Task}
    → IsPresent s js now device node → earlier now hs ≡ earlier now js → IsActing s hs now device task
    → HadComeTo s device node (changed_at js device now) now task → ⊥
came_not w same (IsActing.emits sent verdict e) x =
    never_both _ _ (e.reached.not_before x.0 (omega (arith, ints)) (omega (arith, ints, x.1))) x.2
came_not {s} {js} {hs} {now} {device} w same (IsActing.sends cycle d) x =
    had_not w (reaches_back s hs js now device same d.reached) x.0 x.1 x.2 x.3
came_not {s} {js} {hs} {now} {device} w same (IsActing.corrects cycle c) x =
    had_not w (reaches_back s hs js now device same c.reached) x.0 x.1 x.2 x.3
came_not {s} {js} {hs} {now} {device} w same (IsActing.dispatches link cause vl cycle d) x =
    had_not w
    (rw (sym (value_is (record { 0 = d.place }) cycle d.row)) at (reaches_back s hs js now device same d.reached))
    x.0 x.1 x.2 x.3

-- ---- a dispatch is told apart from other losses by its cause

pub same_some : {x y : Happening} → Some x ≡ Some y → x ≡ y
same_some e = cc

none_some : {x : Happening} → None ≡ Some x → ⊥
none_some e = cc

-- an event of the instant is the cause of no dispatch
pub send_apart : {s : Scenario} (hs coming : List Happening) {js : List Happening} {device : DeviceId} {now : ℕ}
    {link other : LinkId} {cause : ℕ} {vl : VlId} {cycle : ℕ} → IsFounded place_of (IsDue s) hs
    → ((z : Happening) → IsIn z coming → time_of z ≡ now)
    → ((h : Happening) → numbered js cause ≡ Some h → numbered (hs ++ coming) cause ≡ Some h)
    → IsSendLost s js device now link cause → Dispatches s (hs ++ coming) device now other cause vl cycle → ⊥
send_apart {s} hs coming {device} {now} founded of_now on lost d =
    let event = on lost.event lost.is.there in
    let all = hs ++ coming in
    let same : earlier now all ≡ earlier now hs = earlier_still now hs coming (λ z i. let at = of_now z i in
    omega arith) in
    elim d.at_hand [
      | inl sender ↦ none_some (subst (λ n. numbered all n ≡ Some lost.event) sender.1 event)
      | inr took ↦ elim (last_in None (filter (λ h. is_accepted device d.entry.row.vl h.note.body) (earlier now all)) took.1.taken took.1.last) [
        | inl none ↦ none_some none
        | inr i ↦
            let inside = subst (λ l. IsIn took.1.taken l) same
            (in_filter (λ h. is_accepted device d.entry.row.vl h.note.body) (earlier now all) took.1.taken i) in
            let lt : time_of took.1.taken < now = in_earlier now hs took.1.taken inside in
            let there : IsIn took.1.taken hs = in_filter (λ h. Rattle.std.specs.Prelude.nat_lt (time_of h) now) hs took.1.taken inside in
            let it = subst (λ n. numbered all n ≡ Some took.1.taken) (sym took.1.number)
            (numbered_front hs coming took.1.taken.note.number took.1.taken (by_number s hs took.1.taken founded there)) in
            let same : lost.event ≡ took.1.taken = same_some (sym event ∙ it) in
            let at = lost.is.same_time in
            let times : time_of lost.event ≡ time_of took.1.taken = ap time_of same in
            omega arith
      ]
    ]

module _ (s : Scenario) (device : DeviceId) (now : ℕ) (link : LinkId) (cause : ℕ) (vl : VlId) (cycle : ℕ) where
  -- what a record that tells of a dispatch says
  pub dispatch_told : {body : NoteBody} → body ≡ dispatch_body s device now link cause vl cycle
      → (body ≡ kinds.Lost device link cause) ⊎ (body ≡ kinds.TtSent device link cause vl cycle)
  dispatch_told e = grind (arith, cases_Bool, is_cut, way_from)

  -- the record of a dispatch stands behind all others of the acts
  pub dispatch_late : 9 ≤ rank (dispatch_body s device now link cause vl cycle)
  dispatch_late =
      search (arith, rank)

-- ---- where nothing that a world has under way is before a place, and nothing to come, no act of a device that is not worked off
-- is before it.

-- ---- records behind the acts of their instant, which leave the device at rest, do not change its points

unmoved_stretch : (device : DeviceId) (body : NoteBody) → moves device body ≡ false → ends_stretch device body ≡ false
unmoved_stretch device (kinds.State other state cause On) e = refl
unmoved_stretch device (kinds.State other state cause why) e = e
unmoved_stretch device (kinds.Corrected other cycle by adjustment) e = refl
unmoved_stretch device other e = e

pub turning_stretch : (device : DeviceId) (body : NoteBody) → is_turning device body ≡ true → ends_stretch device body ≡ false
turning_stretch device (kinds.State other Integrating cause On) e = refl
turning_stretch device other e = absurd cc

quiet_stretch : (device : DeviceId) (body : NoteBody) → IsQuiet device body → ends_stretch device body ≡ false
quiet_stretch device body (inl e) = unmoved_stretch device body e
quiet_stretch device body (inr e) = turning_stretch device body e

pub points_same : (zs hs : List Happening) (device : DeviceId) → ((z : Happening) → IsIn z zs → IsQuiet device z.note.body × (4 ≤ rank z.note.body))
    → points_of (hs ++ zs) device ≡ points_of hs device
points_same [] hs device quiet = rw (append-nil hs)
points_same (z ∷ zs) hs device quiet =
    grind (
      arith,
      point_by,
      ends_stretch,
      points_of,
      append_assoc,
      filter_map,
      behind_no,
      quiet_stretch,
      map_none,
      after_last,
      of_high_rank,
      (points_same zs (hs ++ z ∷ []) device (λ y i. quiet y (inr i))),
    )

-- ---- a device that the network does not have does nothing

no_device : (network : Network) (device : DeviceId) (is : Device) → length network.device ≤ device.0 → device_at network device ≡ Some is → ⊥
no_device network device is le there = let lt = slice_get_within network.device device.0 is there in omega arith

no_role : (network : Network) (kind : Role → Bool) (device : DeviceId) → length network.device ≤ device.0 → has_role network kind device ≡ true → ⊥
no_role network kind device le = grind (arith, device_at, option_map_or, no_device)

off_of_none : (network : Network) (device : DeviceId) → length network.device ≤ device.0 → state_at_start (start_of network device) ≡ Off
off_of_none network device le = grind (arith, device_at, no_device)

never_moved : (device : DeviceId) (old : State) (hs : List Happening) → ((h : Happening) → IsIn h hs → moves device h.note.body ≡ false)
    → Rattle.std.specs.Prelude.fold (λ state h. state_with device state h.note.body) old hs ≡ old
never_moved device old [] still = refl
never_moved device old (h ∷ hs) still =
    rw (keeps_state device old h.note.body (still h (inl refl))) (never_moved device old hs (λ g i. still g (inr i)))

module _ {s : Scenario} {hs : List Happening} (device : DeviceId) (t : ℕ) where
  state_of_none : length s.network.device ≤ device.0 → AreOfNetwork s hs → state_before s hs device t ≡ Off
  state_of_none le known = grind (arith, state_after, earlier, never_moved, in_filter, nat_lt, time_of, off_of_none)

  pub none_acts : {task : Task} → length s.network.device ≤ device.0 → AreOfNetwork s hs
      → IsActing s hs t device task → ⊥
  none_acts le known (IsActing.sends cycle d) = no_role s.network _ device le d.master
  none_acts le known (IsActing.emits sent verdict e) = no_role s.network _ device le e.cm
  none_acts le known (IsActing.corrects cycle c) =
      let none =
      sym (ap (λ z. point_in z (next_cycle s hs device t)) (state_of_none le known)) ∙ c.next in cc
  none_acts le known (IsActing.dispatches link cause vl cycle d) =
      let bad = sym (state_of_none le known) ∙ d.up.synchronised in cc

  -- ---- nor does a broken one

  pub broken_acts : {task : Task} → is_broken s device t ≡ true → IsActing s hs t device task → ⊥
  broken_acts broken (IsActing.sends cycle d) = let bad = sym broken ∙ d.up.correct in cc
  broken_acts broken (IsActing.emits sent verdict e) = let bad = sym broken ∙ e.correct in cc
  broken_acts broken (IsActing.corrects cycle c) = let bad = sym broken ∙ c.correct in cc
  broken_acts broken (IsActing.dispatches link cause vl cycle d) =
      let bad = sym broken ∙ d.up.correct in cc

  -- ---- and one that looks for the common time acts only by emissions

  looking_acts : {task : Task} → state_before s hs device t ≡ Integrating → IsActing s hs t device task
      → (sent : Compressed) × (verdict : Judgement) × Emits s hs device t sent verdict
  looking_acts looking (IsActing.emits sent verdict e) = (sent, verdict, e)
  looking_acts looking (IsActing.sends cycle d) =
      absurd (cc)
  looking_acts looking (IsActing.corrects cycle c) =
      absurd (cc)
  looking_acts looking (IsActing.dispatches link cause vl cycle d) =
      absurd (cc)

-- ---- a device that is kept

-- what is looked at: a task of the device is not due before the place
abbrev IsIdleBefore : Scenario → DeviceId → ℕ → Node → List ℕ → Type 0
IsIdleBefore s device now node p =
    (t : ℕ) → now ≤ t → (task : Task) → IsPending s.network device node task → reading_for s.network node task ≤ℤ pos (s.reading device t)
    → IsBefore (task_place s.network t device task) p → ⊥

-- and what is to come is behind all acts of the instant that are before it; and where what stands at its source is to come,
-- no place that is not worked off is before it
pub record IsBehind (coming : List Happening) (frontier : List ℕ) (now : ℕ) (p : List ℕ) : Type 0 where
  pub of_now : (z : Happening) → IsIn z coming → time_of z ≡ now
  pub late : (z : Happening) → IsIn z coming → (device : DeviceId) → IsBefore (act_place now device) p → 4 ≤ rank z.note.body
  pub none : (t : ℕ) (device : DeviceId) → now < t → IsBefore (act_place t device) p → coming ≡ []
  pub lone : (z : Happening) → IsIn z coming → rank z.note.body ≡ 4 → (w : List ℕ) → (IsBefore w frontier → ⊥)
      → IsBefore w p → ⊥

-- how it is at the present instant
pub present : {M : Type 0} {stands : M → Network → DeviceId → Node → Type 0} {s : Scenario}
    {hs coming : List Happening} {frontier : List ℕ} {now : ℕ} {device : DeviceId} {machine : M}
    (k : IsKept stands s hs coming frontier now device machine) → k.up ≡ now
    → IsPresent s (hs ++ coming) now device k.node
present {s} {hs} {coming} {device} k up =
    record { left = rw up at k.left; sound = k.sound }

pub kept_no_act : {M : Type 0} {stands : M → Network → DeviceId → Node → Type 0} {s : Scenario}
    {hs coming : List Happening} {frontier p : List ℕ} {now t : ℕ} {device : DeviceId} {machine : M}
    (k : IsKept stands s hs coming frontier now device machine) {task : Task} → IsLawful s (hs ++ coming) device
    → IsBehind coming frontier now p → IsPast hs now → (IsBefore (now ∷ 2 ∷ []) p → IsWorked hs frontier now)
    → HaveBefallen s frontier now → ((q : List ℕ) → IsBefore q frontier → IsBefore q ((now + 1) ∷ [])) → now ≤ t
    → IsIdleBefore s device now k.node p → IsActing s hs t device task
    → (IsBefore (task_place s.network t device task) frontier → ⊥) → IsBefore (task_place s.network t device task) p → ⊥
kept_no_act {M} {stands} {s} {hs} {coming} {frontier} {p} {now} {t} {device} {machine} k {task} law behind_it
    past worked befallen later le idle a not b =
    elim (cases_lt now t) [
      | inr ge ↦ let same : t ≡ now =
          omega arith in at_present (rw same at a)
          (rw same at not)
          (rw same at b)
      | inl lt ↦
          let empty = behind_it.none t device lt (acts_before s.network t device task p b) in
          let k0 : (x : IsKept stands s hs [] frontier now device machine)
          × (x.node ≡ k.node) = rw (sym empty) (k, refl)
          in
          let idle0 : IsIdleBefore s device now k0.0.node p = rw k0.1 idle in
          let law0 : IsLawful s hs device = rw (ap (λ (l : List Happening). hs ++ l) empty ∙ append-nil hs) at law in
          afterwards lt k0.0 idle0 law0
    ]
  where
    at_present : IsActing s hs now device task → (IsBefore (task_place s.network now device task) frontier → ⊥)
        → IsBefore (task_place s.network now device task) p → ⊥
    at_present a not b =
        let js = hs ++ coming in
        let past_all : (h : Happening) → IsIn h js → time_of h ≤ now = λ h i. elim (in_parts h hs coming i) [
          | inl given ↦ past.past h given
          | inr fresh ↦ omega arith
        ] in
        let same = earlier_still now hs coming (λ z i. omega arith) in
        elim k.acted [
          | inl yet ↦
              let points = points_same coming hs device
              (λ z i. (
                quiet_rest s device now z.note.body (k.still yet.0 z (in_right z hs coming i) (behind_it.of_now z i)),
                behind_it.late z i device (acts_before s.network now device task p b),
              )) in
              let w = present k yet.0 in
              elim (done_or k.node task) [
                | inr undone ↦
                    let due = act_due w (record { taken = k.taken; past = past_all; lawful = law }) (sym same)
                    (sym points) a undone in
                    idle now (omega arith) task due.0 due.1 b
                | inl did ↦
                    came_not w (sym same) a
                    (rw yet.0 at (came_sooner now k.worked task did not))
              ]
          | inr over ↦ elim (k.told over.0) [
            | inl out ↦ not (out.all task a)
            | inr (inr joining) ↦ behind_it.lone joining.by joining.there joining.sent (task_place s.network now device task) not b
            | inr (inl just) ↦
                let e = looking_acts device now (rw (sym same) just.looking) a in
                cc
          ]
        ]

    afterwards : now < t → (k0 : IsKept stands s hs [] frontier now device machine)
        → IsIdleBefore s device now k0.node p → IsLawful s hs device → ⊥
    afterwards lt k0 idle0 law0 =
        let sooner : (k : ℕ) (ws : List ℕ) → IsBefore (now ∷ k ∷ ws) p = λ k ws. chain (now ∷ k ∷ ws) (task_place s.network t device task) p (inl lt) b in
        let rest = at_rest k0 befallen past (worked (sooner 2 []))
        (record { later = later; falls = law0.steady.never_falls })
        (λ other pending. elim (cases_int (pos (s.reading device now)) (reading_for s.network k0.node other)) [
          | inl less ↦ less
          | inr ge ↦
              let at = placed_so s.network now device other in
              absurd (idle0 now (omega arith) other pending ge (rw at.is (sooner at.rank (device.0 ∷ at.rest))))
        ]) in
        let u : IsUnmoved s hs device rest.from t = record {
          le = omega arith;
          still = λ h i from before. rest.still h i from;
          not_on = rest.off;
          not_on_later = not_on_after t device befallen lt;
          not_broken = no_later_breaks s frontier now t device befallen le
              ∙ sym (no_later_breaks s frontier now rest.from device befallen rest.le);
          never_falls = law0.steady.never_falls;
        } in
        let taken = k0.taken ∙ (rw (append-nil hs)) in
        let due = acting_task u rest.left rest.done rest.sent
        (λ link cause vl cycle d. dispatching_task u rest.left rest.done law0
        (λ h i. omega arith) taken d) a in
        idle0 t le due.0 due.1 due.2 (rw due.3 b)

-- ---- all devices

behind_of : (coming : List Happening) (frontier : List ℕ) (now : ℕ) (p : List ℕ)
    → ((z : Happening) → IsIn z coming → time_of z ≡ now)
    → ((z : Happening) → IsIn z coming → is_at_source z.note.body ≡ true → IsBefore (place_of z) frontier)
    → ((z : Happening) → IsIn z coming → IsBefore (place_of z) p → ⊥) → IsBehind coming frontier now p
behind_of coming frontier now p of worked after = record {
  of_now = of;
  late = λ z i device b. elim (cases_lt (rank z.note.body) 4) [
    | inr ge ↦ ge
    | inl low ↦ absurd (after z i (chain (place_of z) (act_place now device) p (inr (of z i, inl (omega arith))) b))
  ];
  none = λ t device lt b. from t device lt b coming of after;
  lone = λ z i four w not b. after z i
      (chain (place_of z) w p (before_later (place_of z) w frontier (worked z i (frame_source z.note.body four)) not)
      b);
}
  where
    from : (t : ℕ) (device : DeviceId) → now < t → IsBefore (act_place t device) p → (l : List Happening) → ((z : Happening) → IsIn z l → time_of z ≡ now)
        → ((z : Happening) → IsIn z l → IsBefore (place_of z) p → ⊥) → l ≡ []
    from t device lt b [] of_l seen = refl
    from t device lt b (z ∷ l) of_l seen =
        let at = of_l z (inl refl) in absurd (seen z (inl refl)
        (chain (place_of z) (act_place t device) p (inl (omega arith)) b))

held_no_act : {M : Type 0} {stands : M → Network → DeviceId → Node → Type 0} {s : Scenario}
    {hs coming : List Happening} {frontier p : List ℕ} {now t : ℕ} {device : DeviceId} {machine : M} {task : Task}
    → IsHeld stands s hs coming frontier now device machine → IsLawful s (hs ++ coming) device
    → IsBehind coming frontier now p → IsPast hs now → (IsBefore (now ∷ 2 ∷ []) p → IsWorked hs frontier now)
    → HaveBefallen s frontier now → ((q : List ℕ) → IsBefore q frontier → IsBefore q ((now + 1) ∷ [])) → now ≤ t
    → ((node : Node) → stands machine s.network device node → IsIdleBefore s device now node p)
    → IsActing s hs t device task → (IsBefore (task_place s.network t device task) frontier → ⊥)
    → IsBefore (task_place s.network t device task) p → ⊥
held_no_act (inl k) law behind_it past worked befallen later le idle a not b =
    kept_no_act k law behind_it past worked befallen later le (idle k.node k.is) a not b
held_no_act {s} {hs} {frontier} {now} {t} {device} (inr k) law behind_it past worked befallen later le idle a not b =
    broken_acts device t (no_later_breaks s frontier now t device befallen le ∙ k.broken) a

module _ {C M : Type 0} (reading : C → ℕ → ℕ) (stands : M → Network → DeviceId → Node → Type 0) where
  no_acts : {s : Scenario} {world : World C M} {notes : List Note} {p : List ℕ}
      (old : Stands reading stands s world notes) → ((z : Happening) → IsIn z world.settled → IsBefore (place_of z) p
      → ⊥) → NothingBefore stands s world p → NoActBefore s (happenings s.network notes) old.frontier p
  no_acts {s} {world} {notes} {p} old after none t device task a not b =
      let hs = happenings s.network notes in
      let over : (q : List ℕ) → IsBefore q (world.now ∷ []) → IsBefore q old.frontier =
      λ q x. old.of_now q x in
      let le : world.now ≤ t = elim (cases_lt t
      world.now) [ inl lt ↦ absurd (not (over (task_place s.network t device task) (inl lt))) | inr ge ↦ ge ] in
      elim (cases_lt device.0 (length s.network.device)) [
        | inl lt ↦
            let m = old.devices device lt in
            held_no_act m.2 (lawful reading stands s world notes old device)
            (behind_of world.settled old.frontier world.now p old.are.of_now (settled_of old.are).worked after)
            (are_past old)
            (λ two. elim (cases_Bool world.pending) [ inr told ↦ old.untold.done told | inl open_ ↦ absurd (none.befell open_ two) ]) old.befallen old.not_later le
            (λ node is u from other pending due before. none.acting device m.0 node other m.1 is pending u from due
            before) a not b
        | inr ge ↦ none_acts device t ge
            (record { unmoved = λ d far h i. old.known.unmoved d far h (in_left h hs world.settled i); never_on = old.known.never_on }) a
      ]

  pub nothing_comes_before : NothingComesBefore reading stands
  nothing_comes_before s world notes p old after none w source not b =
      none_but_acts old none (no_acts old after none) source not b
