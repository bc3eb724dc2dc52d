-- Records that tell the same up to a source leave devices, and what is due, the same.
use Rattle.run_law.specs.{control.Corrections.standing_before, device.States.is_off, records.Happenings.octets_by}
use Rattle.sync_state.specs.membership.Summary.{Summarizes}
use Rattle.world_law.{specs.world.World.{IsDueAs, IsOut}}
use Rattle.world_law.proofs.{giving.GivenParts.same_permanent}
use Rattle.world_law.proofs.{putting.{Idle.{drop_one, fold_skip, numbered_prefix}, Numberless.timed_by, PutIn.at_place}}
use Rattle.world_law.proofs.{rows.AtHand.{IsNoTaking, taken_parts, taken_same}}
use Rattle.world_law.proofs.Words
use Words.{if◌then◌else◌, ◌&&◌, ◌++◌, ◌<◌, ◌==◌, ◌||◌, ◌∙◌, ◌∷◌, ◌≡◌, ◌≤◌, ◌⊎◌, AreOfNetwork, Arrival, ArrivesAs}
use Words.{BecomesPermanent, Bool, ChangesState, ComesToCorrection, Compressed, Departs, Departure, DeviceId}
use Words.{Dispatches, Emits, Happening, HasTurnedOn, Integrating, IsActing, IsAtRest, IsBefore, IsCaused, IsDropped}
use Words.{IsDue, IsForward, IsFounded, IsHeld, IsIn, IsJoiningNow, IsKept, IsLeft, IsLost, IsOwnSource, IsSendLost}
use Words.{IsSource, Judgement, LinkId, List, Network, Node, None, Note, NoteBody, Pcf, Reason, Ripe, Scenario, Send}
use Words.{Signal, Some, Standpoint, State, Units, Verdict, VlId, Why, [], adjustment_after, adjustment_at_hearing}
use Words.{adjustment_with, amount, and_right, ap, append_assoc, arith, arrival_of, bears_on, before_permanence, borne}
use Words.{by_number, cases_lt, cases_order, cause_of, chain, changed_at, control, correcting, cycle_in, dispatching}
use Words.{doing, earlier, emitting, eq-eqb, eqb-true, false, false_from_ne_true, filter, filter-append, frame_by}
use Words.{frames_taken, happening, heard_as, heard_since, in_filter, in_left, in_parts, in_right, inl, inr}
use Words.{is_accepted, is_at_source, is_before, is_broken, is_joined_by, is_taken_before, is_turned_on_at, last_in}
use Words.{last_taken, le-ltb, length, list_any, local_before, members_in, moves, nat_le, nat_lt, next_point, not}
use Words.{numbered, numbered_within, observation_window, place_of, plan_of, points_of, rank, refl, sending}
use Words.{state_after, state_at_hearing, state_before, state_with, subst, sym, taken_by, task_place, time_of, timed}
use Words.{true, up_to, ℕ}
use Rattle.world_law.proofs.devices.{Unmoved.{joins_no_other, keeps_adjustment, keeps_state}, Working.worked_on}
use Rattle.world_law.proofs.devices.Standing
use Standing.{TellAlike, heard_alike, left_alike, moves_no_other, points_alike, tell_alike}
use Rattle.world_law.proofs.runs.Worlds
use Worlds.{arrival_of_it, arrives_later, departure_of_it, dispatches_back, dispatches_same, earlier_still, gives_rank}
use Worlds.{numbered_parts, point_of_it, reaches_back, ripening_of_it, standing_in, up_back}
use Rattle.run_law.specs.declared.judgement.Why.TheVariants as whys
use Rattle.run_law.specs.declared.note.NoteBody.TheVariants as notes

-- ---- what a record says of its frame and octets is told by the records that are given

abbrev pub standpoint_in : Scenario → DeviceId → ℕ → List Happening → Standpoint
standpoint_in s device t w = record {
  takes_part = not (is_off (if is_turned_on_at s device t then Integrating else state_after s w device)) && not (is_broken s device t);
  state = if is_turned_on_at s device t then Integrating else state_after s w device;
  reading = s.reading device t;
  adjustment = (adjustment_after s w device).0;
}

-- ---- its frame

module _ (network : Network) (known : ℕ) (js gs : List Happening) where
  pub frame_alike : (body : NoteBody) → ((n : ℕ) → n ≤ known → numbered js n ≡ numbered gs n) → cause_of body ≤ known
      → frame_by network js body ≡ frame_by network gs body
  frame_alike (notes.Event line (Send link octets)) given le = refl
  frame_alike (notes.Left device link cause clock) given le =
      rw (given cause le)
  frame_alike (notes.Arrived device link cause clock) given le =
      rw (given cause le)
  frame_alike (notes.Permanent device link cause point verdict) given le =
      rw (given cause le)
  frame_alike other given le = refl

  pub octets_alike : (body : NoteBody) → ((n : ℕ) → n ≤ known → numbered js n ≡ numbered gs n)
      → cause_of body ≤ known → octets_by network js body ≡ octets_by network gs body
  octets_alike (notes.Event line (Send link octets)) given le = refl
  octets_alike (notes.TtSent device link cause vl cycle) given le =
      rw (given cause le)
  octets_alike (notes.Accepted device link cause vl cycle) given le =
      rw (given cause le)
  octets_alike (notes.Delivered device link cause vl cycle) given le =
      rw (given cause le)
  octets_alike other given le = refl

pub happening_alike : (network : Network) (known : ℕ) (js gs : List Happening) (note : Note) → ((n : ℕ) → n ≤ known → numbered js n ≡ numbered gs n)
    → cause_of note.body ≤ known → happening network js note ≡ happening network gs note
happening_alike network known js gs note given le = grind (arith, frame_alike, frame_by, octets_alike)

-- ---- a device on which a record does not bear stands with it as without it

-- ---- each record of the longer list is one of the shorter, or the new one, and the other way round

pub placed_back : (hs front back : List Happening) (w h : Happening) → IsIn h (hs ++ (front ++ w ∷ back)) → (h ≡ w) ⊎ IsIn h (hs ++ (front ++ back))
placed_back hs front back w h i =
    elim (in_parts h hs (front ++ w ∷ back) i) [
      | inl given ↦ inr (in_left h hs (front ++ back) given)
      | inr more ↦ elim (in_parts h front (w ∷ back) more) [
        | inl f ↦ inr (in_right h hs (front ++ back) (in_left h front back f))
        | inr (inl e) ↦ inl e
        | inr (inr b) ↦ inr (in_right h hs (front ++ back) (in_right h front back b))
      ]
    ]

pub in_placed : (front back : List Happening) (w h : Happening) → IsIn h (front ++ back) → IsIn h (front ++ w ∷ back)
in_placed front back w h i =
    elim (in_parts h front back i) [ inl f ↦ in_left h front (w ∷ back) f | inr b ↦ in_right h front (w ∷ back) (inr b) ]

pub placed_on : (hs front back : List Happening) (w h : Happening) → IsIn h (hs ++ (front ++ back)) → IsIn h (hs ++ (front ++ w ∷ back))
placed_on hs front back w h i =
    elim (in_parts h hs (front ++ back) i) [
      | inl given ↦ in_left h hs (front ++ w ∷ back) given
      | inr more ↦ in_right h hs (front ++ w ∷ back) (in_placed front back w h more)
    ]

-- a record that moves no device that the network lacks is put in
pub known_aside : {s : Scenario} (hs front back : List Happening) (w : Happening)
    → ((device : DeviceId) → length s.network.device ≤ device.0 → moves device w.note.body ≡ false)
    → AreOfNetwork s (hs ++ (front ++ back)) → AreOfNetwork s (hs ++ (front ++ w ∷ back))
known_aside hs front back w still are = record {
  unmoved = λ device le h i.
      elim (placed_back hs front back w h i) [
        | inl e ↦ rw e (still device le)
        | inr was ↦ are.unmoved device le h was
      ];
  never_on = are.never_on;
}

module _ (s : Scenario) (hs front back : List Happening) (w : Happening) (device : DeviceId) where
  -- no other record of the instant moves the device: this one must not
  pub still_aside : (now : ℕ) → moves device w.note.body ≡ false
      → ((h : Happening) → IsIn h (hs ++ (front ++ back)) → time_of h ≡ now → IsAtRest s device now h.note.body)
      → (h : Happening) → IsIn h (hs ++ (front ++ w ∷ back)) → time_of h ≡ now → IsAtRest s device now h.note.body
  still_aside now rests still h i now_is =
      elim (placed_back hs front back w h i) [
        | inl e ↦ inl (rw e rests)
        | inr was ↦ still h was now_is
      ]

  pub turned_aside : {frontier : List ℕ} {now : ℕ} → HasTurnedOn s hs (front ++ back) frontier device now
      → state_after s (earlier now (hs ++ (front ++ back))) device ≡ state_after s (earlier now (hs ++ (front ++ w ∷ back))) device
      → HasTurnedOn s hs (front ++ w ∷ back) frontier device now
  turned_aside it same = search (arith, placed_on)

  joining_aside : {now : ℕ} → IsJoiningNow s hs (front ++ back) device now → IsJoiningNow s hs (front ++ w ∷ back) device now
  joining_aside j =
      record { looking = j.looking; by = j.by; there = in_placed front back w j.by j.there; sent = j.sent; joins = j.joins }

module _ (s : Scenario) (hs front back : List Happening) (w : Happening) (device : DeviceId) (misses : bears_on device w.note.body ≡ false) where
  borne_aside : borne device (hs ++ (front ++ back)) ≡ borne device (hs ++ (front ++ w ∷ back))
  borne_aside =
      ap (borne device) (sym (append_assoc hs front back)) ∙ sym (drop_one (λ h. bears_on device h.note.body) (hs ++ front) back w misses)
      ∙ ap (borne device) (append_assoc hs front (w ∷ back))

  pub left_aside : {t : ℕ} {node : Node} → IsLeft s (hs ++ (front ++ back)) device t node → IsLeft s
      (hs ++ (front ++ w ∷ back)) device t node
  left_aside left = left_alike (hs ++ (front ++ w ∷ back)) borne_aside left

  tells_aside : (t : ℕ) → TellAlike s (hs ++ (front ++ back)) (hs ++ (front ++ w ∷ back)) device t
  tells_aside t = tell_alike s (hs ++ (front ++ back)) (hs ++ (front ++ w ∷ back)) device t borne_aside

  pub changed_aside : (t : ℕ) → changed_at (hs ++ (front ++ back)) device t ≡ changed_at (hs ++ (front ++ w ∷ back)) device t
  changed_aside t = (tells_aside t).change

  -- the state of the records of earlier times
  pub earlier_aside : (t : ℕ) → state_after s (earlier t (hs ++ (front ++ back))) device ≡ state_after s (earlier t (hs ++ (front ++ w ∷ back))) device
  earlier_aside t = (tells_aside t).state

  pub before_aside : (t : ℕ) → state_before s (hs ++ (front ++ back)) device t ≡ state_before s (hs ++ (front ++ w ∷ back)) device t
  before_aside t = rw (earlier_aside t)

  pub stated_aside : (t : ℕ) → state_after s (up_to t (hs ++ (front ++ back))) device ≡ state_after s (up_to t (hs ++ (front ++ w ∷ back))) device
  stated_aside t =
      rw (sym (append_assoc hs front back))
      (sym (fold_skip (λ state h. state_with device state h.note.body) (λ h. nat_le (time_of h) t) (hs ++ front) back w
      (λ old. keeps_state device old w.note.body (moves_no_other device w.note.body misses)) _)
      ∙ (rw (append_assoc hs front (w ∷ back))))

  pub adjusted_aside : (t : ℕ) → adjustment_after s (up_to t (hs ++ (front ++ back))) device
      ≡ adjustment_after s (up_to t (hs ++ (front ++ w ∷ back))) device
  adjusted_aside t =
      rw (sym (append_assoc hs front back))
      (sym (fold_skip (λ adjustment h. adjustment_with s device (cycle_in h) adjustment h.note.body)
      (λ h. nat_le (time_of h) t) (hs ++ front) back w
      (λ old. keeps_adjustment s device (cycle_in w) old w.note.body (moves_no_other device w.note.body misses)) _)
      ∙ (rw (append_assoc hs front (w ∷ back))))

  -- what the device took is told alike, where it takes nothing by the record
  pub frames_aside : IsNoTaking device w.note.body → frames_taken s (hs ++ (front ++ back)) device ≡ frames_taken s (hs ++ (front ++ w ∷ back)) device
  frames_aside takes =
      let old = (hs ++ front) ++ back in
      let new = (hs ++ front) ++ w ∷ back in
      rw (sym (append_assoc hs front back))
      (taken_same device (local_before s old device) (local_before s new device) old
      (λ h i. rw (tell_alike s old new device (time_of h) (sym
      (drop_one (λ g. bears_on device g.note.body) (hs ++ front) back w misses))).adjustment)
      ∙ taken_parts device (local_before s new device) (hs ++ front) back
      ∙ ap (λ l. taken_by device (local_before s new device)
      (hs ++ front) ++ (l ++ taken_by device (local_before s new device) back))
      (sym (takes (local_before s new device (time_of w))))
      ∙ sym (taken_parts device (local_before s new device) (hs ++ front) (w ∷ back))
      ∙ (rw (append_assoc hs front (w ∷ back))))

  -- ---- the device

  pub kept_aside : {M : Type 0} {stands : M → Network → DeviceId → Node → Type 0} {frontier : List ℕ} {now : ℕ}
      {machine : M} → time_of w ≡ now
      → frames_taken s (hs ++ (front ++ back)) device ≡ frames_taken s (hs ++ (front ++ w ∷ back)) device
      → IsKept stands s hs (front ++ back) frontier now device machine
      → IsKept stands s hs (front ++ w ∷ back) frontier now device machine
  kept_aside {frontier} {now} at frames k = record {
    node = k.node;
    is = k.is;
    sound = k.sound;
    up = k.up;
    acted = k.acted;
    told = λ over. elim (k.told over) [
      | inl past ↦ inl past
      | inr (inl just) ↦ inr (inl (record { looking = sym (before_aside now) ∙ just.looking; other = just.other }))
      | inr (inr joining) ↦ inr (inr (joining_aside s hs front back w device joining))
    ];
    left = left_aside k.left;
    taken = k.taken ∙ frames;
    worked = worked_on _ frontier (changed_aside k.up) (λ p b. b) k.worked;
    bare = k.bare;
    ready = k.ready;
    still = λ same. still_aside s hs front back w device now (moves_no_other device w.note.body misses) (k.still same);
    turned = λ on. turned_aside s hs front back w device (k.turned on) (earlier_aside now);
    cleared = k.cleared;
    phase = k.phase;
  }

  pub out_aside : {M : Type 0} {stands : M → Network → DeviceId → Node → Type 0} {frontier : List ℕ}
      {now : ℕ} {machine : M}
      → IsOut stands s hs (front ++ back) frontier now device machine
      → IsOut stands s hs (front ++ w ∷ back) frontier now device machine
  out_aside {now} k = search (arith, stated_aside, adjusted_aside)

  -- the device, sound or broken, stands with the record as without it
  pub held_aside : {M : Type 0} {stands : M → Network → DeviceId → Node → Type 0} {frontier : List ℕ}
      {now : ℕ} {machine : M}
      → time_of w ≡ now
      → frames_taken s (hs ++ (front ++ back)) device ≡ frames_taken s (hs ++ (front ++ w ∷ back)) device
      → IsHeld stands s hs (front ++ back) frontier now device machine
      → IsHeld stands s hs (front ++ w ∷ back) frontier now device machine
  held_aside at frames (inl k) = inl (kept_aside at frames k)
  held_aside at frames (inr k) = inr (out_aside k)

-- ---- what is due by one of two lists of records that tell the same up to a source is due by the other

-- ---- kinds of records

-- does what is due rest on what the device hears and collects at the very instant?
abbrev pub hears : DeviceId → NoteBody → Bool
hears device (notes.Compressed other opened at cycle members verdict) = device.0 == other.0
hears device (notes.Corrected other cycle by adjustment) = device.0 == other.0
hears device (notes.State other state cause whys.SyncClique) = device.0 == other.0
hears device (notes.State other state cause whys.AsyncClique) = device.0 == other.0
hears device other = false

-- does a change of state for this reason follow a record of its instant?
abbrev pub is_following : Why → Bool
is_following whys.On = true
is_following whys.Frame = true
is_following whys.Correction = true
is_following other = false

abbrev pub is_follower : NoteBody → Bool
is_follower (notes.State device state cause why) = is_following why
is_follower other = false

pub record AsFollower (body : NoteBody) : Type 0 where
  pub device : DeviceId
  pub state : State
  pub cause : ℕ
  pub why : Why
  pub is : body ≡ notes.State device state cause why
  pub following : is_following why ≡ true

pub follower_or_not : (body : NoteBody) → AsFollower body ⊎ (is_follower body ≡ false)
follower_or_not (notes.State device state cause whys.On) =
    inl (record { device = device; state = state; cause = cause; why = whys.On; is = refl; following = refl })
follower_or_not (notes.State device state cause whys.Frame) =
    inl (record { device = device; state = state; cause = cause; why = whys.Frame; is = refl; following = refl })
follower_or_not (notes.State device state cause whys.Correction) =
    inl (record { device = device; state = state; cause = cause; why = whys.Correction; is = refl; following = refl })
follower_or_not (notes.State device state cause whys.SyncClique) = inr refl
follower_or_not (notes.State device state cause whys.AsyncClique) = inr refl
follower_or_not other = inr refl

-- ---- lists that tell the same

-- the device has heard and collected the same
pub record HearsAlike (s : Scenario) (js gs : List Happening) (device : DeviceId) (t : ℕ) : Type 0 where
  pub heard : heard_since s js device t ≡ heard_since s gs device t
  pub points : points_of js device ≡ points_of gs device
  pub state : state_at_hearing s js device t ≡ state_at_hearing s gs device t
  pub adjustment : adjustment_at_hearing s js device t ≡ adjustment_at_hearing s gs device t

-- the records agree at the time: in the first n of them, in those of earlier times, and up to the source at this place
-- in what was taken and in what judges a frame that is permanent; and in what each device heard on which the record that
-- is put in does not bear
pub record AreNear (s : Scenario) (t n : ℕ) (at : List ℕ) (put : NoteBody) (js gs : List Happening) : Type 0 where
  pub first : (i : ℕ) → i ≤ n → numbered js i ≡ numbered gs i
  pub before : earlier t js ≡ earlier t gs
  pub taken : (device : DeviceId) (link : LinkId) (cause : ℕ) (vl : VlId) → (IsBefore at (t ∷ 2 ∷ device.0 ∷ link.0 ∷ cause ∷ []) → ⊥)
      → last_taken js device t link cause vl ≡ last_taken gs device t link cause vl
  pub judged : (device : DeviceId) (link : LinkId) (cause : ℕ) (frame : Pcf) (point : Units)
      → (IsBefore at (t ∷ 3 ∷ device.0 ∷ amount point ∷ frame.members.0 ∷ link.0 ∷ cause ∷ []) → ⊥)
      → before_permanence js device t link cause frame point ≡ before_permanence gs device t link cause frame point
  pub hearing : (device : DeviceId) → bears_on device put ≡ false → HearsAlike s js gs device t

pub near_back : {s : Scenario} {t n : ℕ} {at : List ℕ} {put : NoteBody} {js gs : List Happening} → AreNear s t n at put
    js gs → AreNear s t n at put gs js
near_back a = grind arith

-- ---- each kind

module _ (s : Scenario) (js gs : List Happening) (t : ℕ) (device : DeviceId) where
  comes_near : {cycle : ℕ} {verdict : Verdict} → earlier t js ≡ earlier t gs → HearsAlike s js gs device t
      → ComesToCorrection s js device t cycle verdict → ComesToCorrection s gs device t cycle verdict
  comes_near {cycle} {verdict} before h d =
      let same : standing_before s js device t ≡ standing_before s gs device t = ap (standing_in s device t) before in
      record {
        next = subst (λ x. next_point x ≡ Some cycle) same d.next;
        reached = reaches_back s js gs t device before d.reached;
        correct = d.correct;
        summary = d.summary;
        heard = subst (Summarizes d.summary) h.heard d.heard;
        comes = rw same at d.comes;
      }

  emits_near : {sent : Compressed} {verdict : Judgement} → HearsAlike s js gs device t
      → Emits s js device t sent verdict → Emits s gs device t sent verdict
  emits_near h e = grind (arith, observation_window, heard_as, plan_of, adjustment_at_hearing, state_at_hearing)

  departs_near : {link : LinkId} {cause : ℕ} {is : Departure} → numbered js cause ≡ numbered gs cause
      → Departs s js device t link cause is → Departs s gs device t link cause is
  departs_near same d = grind arith

  pub arrival_near : (link : LinkId) (cause : ℕ) (signal : Signal) → earlier t js ≡ earlier t gs
      → ((vl : VlId) → last_taken js device t link cause vl ≡ last_taken gs device t link cause vl)
      → arrival_of s js device t link cause signal ≡ arrival_of s gs device t link cause signal
  arrival_near link cause (control frame) before taken =
      rw before
  arrival_near link cause (timed octets) before taken =
      search (arith, timed_by, earlier)

module _ (s : Scenario) (t n : ℕ) (at : List ℕ) (put : NoteBody) (js gs : List Happening) (device : DeviceId)
    (link : LinkId) (cause : ℕ) where
  arrives_near : (is : Arrival) → AreNear s t n at put js gs → cause ≤ n
      → (IsBefore at (t ∷ 2 ∷ device.0 ∷ link.0 ∷ cause ∷ []) → ⊥) → ArrivesAs s js device t link cause is
      → ArrivesAs s gs device t link cause is
  arrives_near is a le under x = record {
    putting = x.putting;
    there = sym (a.first cause le) ∙ x.there;
    signal = x.signal;
    arrives = x.arrives;
    becomes = x.becomes ∙ arrival_near s js gs t device link cause x.signal a.before
        (λ vl. a.taken device link cause vl under);
  }

  ripens_near : (point : Units) (is : Ripe) → AreNear s t n at put js gs → cause ≤ n
      → (r : BecomesPermanent s js device t link cause point is)
      → (IsBefore at (t ∷ 3 ∷ device.0 ∷ amount point ∷ r.frame.members.0 ∷ link.0 ∷ cause ∷ []) → ⊥)
      → (other : BecomesPermanent s gs device t link cause point is) × (other.frame ≡ r.frame)
  ripens_near point is a le r under = (
    record {
      frame = r.frame;
      permanent = same_permanent gs r.permanent (sym (a.first cause le) ∙ r.permanent.there);
      becomes = rw (a.judged device link cause r.frame point under) at r.becomes;
    },
    refl,
  )

module _ (s : Scenario) (js gs : List Happening) (t : ℕ) (device : DeviceId) (link : LinkId) (cause : ℕ) where
  send_near : numbered js cause ≡ numbered gs cause → IsSendLost s js device t link cause
      → IsSendLost s gs device t link cause
  send_near same l = grind arith

  lost_near : earlier t js ≡ earlier t gs → numbered js cause ≡ numbered gs cause → IsLost s js device t link cause
      → IsLost s gs device t link cause
  lost_near before same (inl d) = inl (departs_near s js gs t device same d)
  lost_near before same (inr (inl d)) = inr (inl (d.0, d.1, dispatches_back gs before d.2, d.3))
  lost_near before same (inr (inr l)) = inr (inr (send_near same l))

-- a place of a lower rank is not behind the source either
pub lower_rank : (at : List ℕ) (t k r : ℕ) (us ws : List ℕ) → k < r → (IsBefore at (t ∷ r ∷ ws) → ⊥) → IsBefore at (t ∷ k ∷ us) → ⊥
lower_rank at t k r us ws lt not b = not (chain at (t ∷ k ∷ us) (t ∷ r ∷ ws) b (inr (refl, inl lt)))

dropped_near : (s : Scenario) {t n : ℕ} (m : ℕ) {at : List ℕ} {put : NoteBody} {js gs : List Happening}
    (device : DeviceId) (link : LinkId) (cause : ℕ)
    (reason : Reason) (p : List ℕ) → AreNear s t n at put js gs → cause ≤ n → IsOwnSource s js t m (notes.Dropped device link cause reason) p
    → (IsBefore at p → ⊥) → IsDropped s js device t link cause reason → IsDropped s gs device t link cause reason
dropped_near s {t} {n} m {at} {put} {js} {gs} device link cause reason p a le (inl o) under c =
    inl (arrives_near s t n at put js gs device link cause _ a le (rw o.0 at under) o.1)
dropped_near s {t} {n} m {at} {put} {js} {gs} device link cause reason p a le (inr (inl o)) under c =
    inr (inl (o.0, (ripens_near s t n at put js gs device link cause o.0 _ a le o.1 (rw o.2 at under)).0))
dropped_near s m device link cause reason p a le (inr (inr o)) under (inl c) = grind (arith, arrives_near, lower_rank)
dropped_near s m device link cause reason p a le (inr (inr o)) under (inr (inl c)) =
    grind (arith, ripens_near, lower_rank, amount)
dropped_near s {t} m {js} {gs} device link cause reason p a le (inr (inr o)) under (inr (inr c)) =
    inr (inr (departs_near s js gs t device (a.first cause le) c.0, c.1))

-- ---- what causes a record whose source is not behind the place

module _ {s : Scenario} {n : ℕ} (m : ℕ) {at : List ℕ} {put : NoteBody} {js gs : List Happening} (time : Units) where
  pub caused_near : (body : NoteBody) (p : List ℕ) → AreNear s (amount time) n at put js gs
      → is_at_source body ≡ false → is_follower body ≡ false
      → ((device : DeviceId) → hears device body ≡ true → bears_on device put ≡ false) → cause_of body ≤ n
      → IsOwnSource s js (amount time) m body p → (IsBefore at p → ⊥) → IsCaused s js time body
      → IsCaused s gs time body
  caused_near (notes.Event line what) p a there follows free le o under c = c
  caused_near (notes.Compressed device opened on cycle members verdict) p a there follows free le o under c =
      emits_near s js gs (amount time) device (a.hearing device (free device (eq-eqb device.0 device.0 refl))) c
  caused_near (notes.Sent device cycle) p a there follows free le o under c =
      grind (arith, up_back, amount, reaches_back)
  caused_near (notes.Corrected device cycle by adjustment) p a there follows free le o under c =
      search (arith, comes_near)
  caused_near (notes.State device state cause whys.SyncClique) p a there follows free le o under c =
      grind (arith, comes_near, amount, eq-eqb)
  caused_near (notes.State device state cause whys.AsyncClique) p a there follows free le o under c =
      grind (arith, comes_near, amount, eq-eqb)
  caused_near (notes.Lost device link cause) p a there follows free le o under c =
      lost_near s js gs (amount time) device link cause a.before (a.first cause le) c
  caused_near (notes.TtSent device link cause vl cycle) p a there follows free le o under c =
      record { dispatches = dispatches_back gs a.before c.dispatches; whole = c.whole }
  caused_near (notes.Accepted device link cause vl cycle) p a there follows free le o under c =
      arrives_near s (amount time) n at put js gs device link cause _ a le
      (rw o at under) c
  caused_near (notes.Delivered device link cause vl cycle) p a there follows free le o under c =
      arrives_near s (amount time) n at put js gs device link cause _ a le
      (rw o at under) c
  caused_near (notes.Dropped device link cause reason) p a there follows free le o under c =
      dropped_near s m device link cause reason p a le o under c
  caused_near other p a there follows free le o under c = absurd cc

-- and its own source
pub own_near : (s : Scenario) {t n : ℕ} (m : ℕ) {at : List ℕ} {put : NoteBody} {js gs : List Happening}
    (body : NoteBody) (p : List ℕ)
    → AreNear s t n at put js gs → cause_of body ≤ n → (IsBefore at p → ⊥) → IsOwnSource s js t m body p → IsOwnSource s gs t m body p
own_near s {t} m {js} {gs} (notes.Lost device link cause) p a le under (inl d) =
    inl (d.0, departs_near s js gs t device (a.first cause le) d.1)
own_near s {t} {n} m {js} {gs} (notes.Lost device link cause) p a le under (inr (inl d)) =
    let e = dispatches_same s js gs t device link cause d.0 d.1 a.before d.2 in
    inr (inl (
      d.0,
      d.1,
      e.0,
      d.3,
      d.4 ∙ ap (λ n. task_place s.network t device
          (doing (dispatching (record { 0 = n }) d.1))) (sym e.1),
    ))
own_near s {t} m {js} {gs} (notes.Lost device link cause) p a le under (inr (inr l)) =
    inr (inr (l.0, send_near s js gs t device link cause (a.first cause le) l.1))
own_near s {t} {n} m {at} {put} {js} {gs} (notes.Dropped device link cause reason) p a le under (inl x) =
    inl (x.0, arrives_near s t n at put js gs device link cause _ a le (rw x.0 at under) x.1)
own_near s {t} {n} m {at} {put} {js} {gs} (notes.Dropped device link cause reason) p a le under (inr (inl x)) =
    let r = ripens_near s t n at put js gs device link cause x.0 _ a le x.1 (rw x.2 at under) in
    inr (inl (x.0, r.0, x.2 ∙ ap (λ f. t ∷ 3 ∷ device.0 ∷ amount x.0 ∷ f.members.0 ∷ link.0 ∷ cause ∷ []) (sym r.1)))
own_near s {t} m {js} {gs} (notes.Dropped device link cause reason) p a le under (inr (inr x)) =
    inr (inr (x.0, departs_near s js gs t device (a.first cause le) x.1))
own_near s m (notes.State device state cause whys.SyncClique) p a le under o = o
own_near s {t} {n} m {js} {gs} (notes.TtSent device link cause vl cycle) p a le under o =
    let e = dispatches_same s js gs t device link cause vl cycle a.before o.0 in
    (e.0, o.1 ∙ ap (λ n. task_place s.network t device (doing (dispatching (record { 0 = n }) cycle))) (sym e.1))
own_near s m other p a le under o = o

-- the own source of a record that is caused is a source
pub own_source : (s : Scenario) (js : List Happening) (time : Units) (m : ℕ) (body : NoteBody) (p : List ℕ) → is_at_source body ≡ false
    → IsCaused s js time body → IsOwnSource s js (amount time) m body p → IsSource s js p
own_source s js time m (notes.Event line what) p there c o = at_place s js o (IsSource.befalling time line what c)
own_source s js time m (notes.Compressed device opened at cycle members verdict) p there c o =
    at_place s js o (IsSource.acting (amount time) device (emitting _) (IsActing.emits _ verdict c))
own_source s js time m (notes.Sent device cycle) p there c o =
    at_place s js o (IsSource.acting (amount time) device (doing (sending cycle)) (IsActing.sends cycle c))
own_source s js time m (notes.Corrected device cycle by adjustment) p there c o =
    at_place s js o (IsSource.acting (amount time) device (doing (correcting _))
    (IsActing.corrects cycle (point_of_it c.corrected)))
own_source s js time m (notes.State device state cause whys.On) p there c o =
    at_place s js o (IsSource.following (amount time) cause c.2.1 c.2.2)
own_source s js time m (notes.State device state cause whys.Frame) p there c o =
    at_place s js o (IsSource.following (amount time) cause c.1.0 c.1.1)
own_source s js time m (notes.State device state cause whys.Correction) p there c o =
    at_place s js o (IsSource.following (amount time) cause c.2.3 c.2.4)
own_source s js time m (notes.State device state cause whys.SyncClique) p there c o =
    at_place s js o.1 (IsSource.acting (amount time) device (doing (correcting _))
    (IsActing.corrects c.2.0 (point_of_it c.2.1)))
own_source s js time m (notes.State device state cause whys.AsyncClique) p there c o =
    at_place s js o.1 (IsSource.acting (amount time) device (doing (correcting _))
    (IsActing.corrects c.2.0 (point_of_it c.2.1)))
own_source s js time m (notes.Lost device link cause) p there c (inl o) =
    at_place s js o.0 (IsSource.departing (amount time) device link cause
    (departure_of_it o.1))
own_source s js time m (notes.Lost device link cause) p there c (inr (inl o)) =
    at_place s js o.4 (IsSource.acting (amount time) device (doing (dispatching (record { 0 = o.2.place }) o.1))
    (IsActing.dispatches link cause o.0 o.1 o.2))
own_source s js time m (notes.Lost device link cause) p there c (inr (inr o)) =
    at_place s js o.0 (IsSource.following (amount time) cause o.1.event o.1.is)
own_source s js time m (notes.TtSent device link cause vl cycle) p there c o =
    at_place s js o.1 (IsSource.acting (amount time) device (doing (dispatching (record { 0 = o.0.place }) cycle))
    (IsActing.dispatches link cause vl cycle o.0))
own_source s js time m (notes.Accepted device link cause vl cycle) p there c o =
    at_place s js o (IsSource.arriving (amount time) device link cause (arrival_of_it c))
own_source s js time m (notes.Delivered device link cause vl cycle) p there c o =
    at_place s js o (IsSource.arriving (amount time) device link cause (arrival_of_it c))
own_source s js time m (notes.Dropped device link cause reason) p there c (inl o) =
    at_place s js o.0 (IsSource.arriving (amount time) device link cause
    (arrival_of_it o.1))
own_source s js time m (notes.Dropped device link cause reason) p there c (inr (inl o)) =
    at_place s js o.2 (IsSource.ripening (amount time) device link cause o.0
    (ripening_of_it s js (amount time) device link cause o.0 _ o.1))
own_source s js time m (notes.Dropped device link cause reason) p there c (inr (inr o)) =
    at_place s js o.0 (IsSource.departing (amount time) device link cause
    (departure_of_it o.1))
own_source s js time m other p there c o = absurd cc

-- ---- causes are given

-- records to come are of the time, and of this rank or a higher one
abbrev pub AreFrom : ℕ → ℕ → List Happening → Type 0
AreFrom now r zs = (z : Happening) → IsIn z zs → (time_of z ≡ now) × (r ≤ rank z.note.body)

rank_up_to : (t r k : ℕ) (more ws : List ℕ) → (IsBefore (t ∷ r ∷ more) (t ∷ k ∷ ws) → ⊥) → k ≤ r
rank_up_to t r k more ws not = elim (cases_lt r k) [ inl lt ↦ absurd (not (inr (refl, inl lt))) | inr le ↦ le ]

module _ {s : Scenario} (hs zs : List Happening) (now r : ℕ) where
  departs_given : {t : ℕ} {device : DeviceId} {link : LinkId} {cause : ℕ} {is : Departure} → AreFrom now r zs → 8 ≤ r
      → Departs s (hs ++ zs) device t link cause is → cause ≤ length hs
  departs_given {device} {link} {cause} from high d =
      elim (numbered_parts hs zs d.giving cause d.there) [
        | inl old ↦ let lt = numbered_within hs cause d.giving old in omega arith
        | inr new ↦ let it = from d.giving new in let low = gives_rank s.network d.giving.note.body device link
            d.gives in absurd (omega (arith, it.1))
      ]

  arrives_given : {device : DeviceId} {link : LinkId} {cause : ℕ} {is : Arrival} → IsForward s → AreFrom now r zs
      → ArrivesAs s (hs ++ zs) device now link cause is → cause ≤ length hs
  arrives_given {cause} forward from a =
      elim (numbered_parts hs zs a.putting cause a.there) [
        | inl old ↦ let lt = numbered_within hs cause a.putting old in omega arith
        | inr new ↦
            let it = from a.putting new in
            let later = arrives_later forward a.arrives in absurd (omega (arith, it.0))
      ]

  ripens_given : {t : ℕ} {device : DeviceId} {link : LinkId} {cause : ℕ} {point : Units} {is : Ripe}
      → AreFrom now r zs → 3 ≤ r → BecomesPermanent s (hs ++ zs) device t link cause point is → cause ≤ length hs
  ripens_given {cause} from high x =
      let p = x.permanent in
      elim (numbered_parts hs zs p.arrival cause p.there) [
        | inl old ↦ let lt = numbered_within hs cause p.arrival old in omega arith
        | inr new ↦ let it = from p.arrival new in let two : rank p.arrival.note.body ≡ 2 = ap rank p.arrived in
            absurd (omega (arith, it.1))
      ]

  send_given : {t : ℕ} {device : DeviceId} {link : LinkId} {cause : ℕ} → AreFrom now r zs → 2 ≤ r
      → IsSendLost s (hs ++ zs) device t link cause → cause ≤ length hs
  send_given {cause} from high l =
      elim (numbered_parts hs zs l.event cause l.is.there) [
        | inl old ↦ let lt = numbered_within hs cause l.event old in omega arith
        | inr new ↦ let it = from l.event new in let one : rank l.event.note.body ≡ 1 = ap rank l.sends in
            absurd (omega (arith, it.1))
      ]

  pub dispatches_given : {device : DeviceId} {link : LinkId} {cause : ℕ} {vl : VlId} {cycle : ℕ}
      → IsFounded place_of (IsDue s) hs → AreFrom now r zs → Dispatches s (hs ++ zs) device now link cause vl cycle
      → cause ≤ length hs
  dispatches_given {device} founded from d =
      elim d.at_hand [
        | inl sender ↦ omega (arith, sender.1)
        | inr took ↦
            let same = earlier_still now hs zs (λ z i. let it = from z i in omega (arith, it.0)) in
            elim (last_in None (filter (λ h. is_accepted device d.entry.row.vl h.note.body) (earlier now hs))
            took.1.taken (rw same at took.1.last)) [
              | inl none ↦ absurd cc
              | inr i ↦
                  let there = in_filter _ hs took.1.taken (in_filter _ (earlier now hs) took.1.taken i) in
                  let lt = numbered_within hs took.1.taken.note.number took.1.taken
                  (by_number s hs took.1.taken founded there) in
                  omega (arith, took.1.number)
            ]
      ]

-- the cause of a late record is given, where all that is to come is late
module _ (s : Scenario) (hs zs : List Happening) (time : Units) where
  pub known_cause : (body : NoteBody) → IsForward s → IsFounded place_of (IsDue s) hs → AreFrom (amount time) 8 zs
      → 8 ≤ rank body → IsCaused s (hs ++ zs) time body → cause_of body ≤ length hs
  known_cause (notes.Left device link cause clock) forward founded late high c =
      departs_given hs zs (amount time) 8 late (omega arith) c
  known_cause (notes.Lost device link cause) forward founded late high (inl d) =
      departs_given hs zs (amount time) 8 late (omega arith) d
  known_cause (notes.Lost device link cause) forward founded late high (inr (inl d)) =
      dispatches_given hs zs (amount time) 8 founded late d.2
  known_cause (notes.Lost device link cause) forward founded late high (inr (inr l)) =
      send_given hs zs (amount time) 8 late (omega arith) l
  known_cause (notes.TtSent device link cause vl cycle) forward founded late high c =
      dispatches_given hs zs (amount time) 8 founded late c.dispatches
  known_cause (notes.Accepted device link cause vl cycle) forward founded late high c =
      arrives_given hs zs (amount time) 8 forward late c
  known_cause (notes.Delivered device link cause vl cycle) forward founded late high c =
      arrives_given hs zs (amount time) 8 forward late c
  known_cause (notes.Dropped device link cause reason) forward founded late high (inl a) =
      arrives_given hs zs (amount time) 8 forward late a
  known_cause (notes.Dropped device link cause reason) forward founded late high (inr (inl x)) =
      ripens_given hs zs (amount time) 8 late (omega arith) x.1
  known_cause (notes.Dropped device link cause reason) forward founded late high (inr (inr d)) =
      departs_given hs zs (amount time) 8 late (omega arith) d.0
  known_cause other forward founded late high c = omega arith

module _ (s : Scenario) (hs zs : List Happening) (time : Units) (m r : ℕ) (more : List ℕ) where
  -- the cause of a record whose source is not behind the place is given, if it does not follow a record of the instant
  pub known_near : (body : NoteBody) (p : List ℕ) → IsForward s → IsFounded place_of (IsDue s) hs
      → AreFrom (amount time) r zs → 2 ≤ r → is_at_source body ≡ false → is_follower body ≡ false
      → IsOwnSource s (hs ++ zs) (amount time) m body p → (IsBefore (amount time ∷ r ∷ more) p → ⊥)
      → IsCaused s (hs ++ zs) time body → cause_of body ≤ length hs
  known_near (notes.State device state cause whys.SyncClique) p forward founded from late there follows o under c =
      let e = c.1 in omega arith
  known_near (notes.State device state cause whys.AsyncClique) p forward founded from late there follows o under c =
      omega arith
  known_near (notes.Lost device link cause) p forward founded from late there follows (inl o) under c =
      let high = rank_up_to (amount time) r 8 more (device.0 ∷ link.0 ∷ cause ∷ [])
      (rw o.0 at under) in
      departs_given hs zs (amount time) r from high o.1
  known_near (notes.Lost device link cause) p forward founded from late there follows (inr (inl o)) under c =
      dispatches_given hs zs (amount time) r founded from o.2
  known_near (notes.Lost device link cause) p forward founded from late there follows (inr (inr o)) under c =
      send_given hs zs (amount time) r from late o.1
  known_near (notes.TtSent device link cause vl cycle) p forward founded from late there follows o under c =
      dispatches_given hs zs (amount time) r founded from c.dispatches
  known_near (notes.Accepted device link cause vl cycle) p forward founded from late there follows o under c =
      arrives_given hs zs (amount time) r forward from c
  known_near (notes.Delivered device link cause vl cycle) p forward founded from late there follows o under c =
      arrives_given hs zs (amount time) r forward from c
  known_near (notes.Dropped device link cause reason) p forward founded from late there follows (inl o) under c =
      arrives_given hs zs (amount time) r forward from o.1
  known_near (notes.Dropped device link cause reason) p forward founded from late there follows (inr (inl o)) under c =
      let high = rank_up_to (amount time) r 3 more (device.0 ∷ amount o.0 ∷ o.1.frame.members.0 ∷ link.0 ∷ cause ∷ [])
      (rw o.2 at under) in
      ripens_given hs zs (amount time) r from high o.1
  known_near (notes.Dropped device link cause reason) p forward founded from late there follows (inr (inr o)) under c =
      let high = rank_up_to (amount time) r 8 more (device.0 ∷ link.0 ∷ cause ∷ [])
      (rw o.0 at under) in
      departs_given hs zs (amount time) r from high o.1
  known_near other p forward founded from late there follows o under c = grind arith

-- ---- what follows a record of the instant

-- the record of this number is the same, or one of the same body and time
abbrev pub IsThere : List Happening → ℕ → Happening → Type 0
IsThere gs cause h = (g : Happening) × (numbered gs cause ≡ Some g) × (g.note.body ≡ h.note.body)
    × (time_of g ≡ time_of h)

-- so it causes the same change of state
pub changes_given : (s : Scenario) (js gs : List Happening) (device : DeviceId) (t : ℕ) (state : State) (cause : ℕ)
    (why : Why) → earlier t js ≡ earlier t gs
    → ((h : Happening) → numbered js cause ≡ Some h → IsThere gs cause h) → is_following why ≡ true
    → ChangesState s js device t state cause why
    → ChangesState s gs device t state cause why
changes_given s js gs device t state cause whys.On before there f c =
    let x = there c.2.1 c.2.2.there in
    (c.0, c.1, (c.2.0, x.0, record { there = x.1; same_time = x.3 ∙ c.2.2.same_time }, x.2 ∙ c.2.3))
changes_given s js gs device t state cause whys.Frame before there f c =
    let x = there c.1.0 c.1.1.there in
    (c.0, (x.0, record { there = x.1; same_time = x.3 ∙ c.1.1.same_time }, ap (is_joined_by device) x.2 ∙ c.1.2))
changes_given s js gs device t state cause whys.Correction before there f c =
    search arith
changes_given s js gs device t state cause whys.SyncClique before there f c = absurd cc
changes_given s js gs device t state cause whys.AsyncClique before there f c = absurd cc

-- ---- so the record is due by both

-- what is due comes from this source, not behind the place, of a record that both have, and reads nothing of the one that is put in
pub record IsAsideOf (s : Scenario) (js : List Happening) (n : ℕ) (at : List ℕ) (put : NoteBody) (time : Units) (m : ℕ) (body : NoteBody)
    (p : List ℕ) : Type 0 where
  pub not_there : is_at_source body ≡ false
  pub free : (device : DeviceId) → hears device body ≡ true → bears_on device put ≡ false
  pub few : cause_of body ≤ n
  pub own : IsOwnSource s js (amount time) m body p
  pub under : IsBefore at p → ⊥

module _ {s : Scenario} {n : ℕ} {at : List ℕ} {put : NoteBody} {js gs : List Happening} {p : List ℕ} where
  pub caused_aside : {m : ℕ} {time : Units} {body : NoteBody} → AreNear s (amount time) n at put js gs → IsAsideOf s js n at put time m body p
      → IsCaused s js time body → IsCaused s gs time body
  caused_aside {m} {time} {body} a i c = elim (follower_or_not body) [
    | inr plain ↦ caused_near m time body p a i.not_there plain i.free i.few i.own i.under c
    | inl f ↦
        rw f.is (changes_given s js gs f.device (amount time) f.state f.cause f.why a.before
        (λ h e. (h, sym (a.first f.cause (rw f.is at i.few)) ∙ e, refl, refl)) f.following
        (rw f.is at c))
  ]

  pub own_aside : {m : ℕ} {time : Units} {body : NoteBody} → AreNear s (amount time) n at put js gs → IsAsideOf s js n at put time m body p
      → IsOwnSource s gs (amount time) m body p
  own_aside {m} {time} {body} a i = own_near s m body p a i.few i.under i.own

  -- a record that is due by the one list is due by the other
  pub due_aside : {x : Happening} → AreNear s (time_of x) n at put js gs → IsAsideOf s js n at put x.note.time (members_in x) x.note.body p
      → IsDueAs s js x → IsDueAs s gs x
  due_aside {x} a i due = record {
    same = due.same ∙ happening_alike s.network n js gs x.note a.first i.few;
    begun = due.begun;
    cause = caused_aside a i due.cause;
  }

-- ---- the records with one more at its place among them tell the same up to its source

-- a place that is not before another is not by the test
pub not_is : (p q : List ℕ) → (IsBefore p q → ⊥) → is_before p q ≡ false
not_is p [] not = refl
not_is [] (y ∷ ys) not = absurd (not tt)
not_is (x ∷ xs) (y ∷ ys) not =
    elim (cases_order x y) [
      | inr (inl lt) ↦ absurd (not (inl lt))
      | inr (inr gt) ↦
          rw (le-ltb x y (omega arith))
          (ap (λ b. b && is_before xs ys) (false_from_ne_true (x == y) (λ f. let same = eqb-true x y f in
          absurd (omega arith))))
      | inl e ↦
          rw (le-ltb x y (omega arith))
          (and_right (x == y) (is_before xs ys) (not_is xs ys (λ b. not (inr (e, b)))))
    ]

pub filter_none : (q : Happening → Bool) (xs : List Happening) → ((h : Happening) → IsIn h xs → q h ≡ false) → filter q xs ≡ []
filter_none q [] none = refl
filter_none q (x ∷ xs) none = rw (none x (inl refl)) (filter_none q xs (λ h i. none h (inr i)))

any_skip : (p : Happening → Bool) (xs bs : List Happening) (w : Happening) → p w ≡ false → list_any p (xs ++ bs) ≡ list_any p (xs ++ w ∷ bs)
any_skip p [] bs w e = sym (rw e)
any_skip p (x ∷ xs) bs w e = rw (any_skip p xs bs w e)

-- the record stands at its place in the instant, not before the source, before those behind it; and no arrival up to the
-- source comes after it
pub record IsPlaced (t : ℕ) (at : List ℕ) (c : List Happening) (w : Happening) : Type 0 where
  pub now : time_of w ≡ t
  pub of_time : (y : Happening) → IsIn y c → time_of y ≡ t
  pub over : (y : Happening) → IsIn y c → IsBefore (place_of w) (place_of y)
  pub least : IsBefore (place_of w) at → ⊥
  pub takes : (device : DeviceId) (vl : VlId) (link : LinkId) (cause : ℕ) → (IsBefore at (t ∷ 2 ∷ device.0 ∷ link.0 ∷ cause ∷ []) → ⊥)
      → is_taken_before device vl t link cause (time_of w) w.note.body ≡ false

-- nothing of it is before a place that is not behind the source
none_judged : (at p : List ℕ) (w : Happening) (xs : List Happening) → (IsBefore (place_of w) at → ⊥) → (IsBefore at p → ⊥)
    → ((y : Happening) → IsIn y xs → (y ≡ w) ⊎ IsBefore (place_of w) (place_of y)) → filter (λ h. is_before (place_of h) p) xs ≡ []
none_judged at p w xs least under over =
    let from : IsBefore (place_of w) p → ⊥ = λ b. elim (Rattle.run_law.proofs.runs.Places.either_way at (place_of w)) [
      | inl lt ↦ under (chain at (place_of w) p lt b)
      | inr (inl e) ↦ under (rw e b)
      | inr (inr gt) ↦ least gt
    ] in
    filter_none (λ h. is_before (place_of h) p) xs (λ h i. not_is (place_of h) p (λ b. elim (over h i) [
      | inl e ↦ from (rw e at b)
      | inr lt ↦ from (chain (place_of w) (place_of h) p lt b)
    ]))

pub hearing_placed : (s : Scenario) (t : ℕ) (ps c : List Happening) (w : Happening) (device : DeviceId)
    → earlier t (ps ++ c) ≡ earlier t (ps ++ w ∷ c) → bears_on device w.note.body ≡ false → HearsAlike s (ps ++ c) (ps ++ w ∷ c) device t
hearing_placed s t ps c w device before misses =
    let js = ps ++ c in
    let gs = ps ++ w ∷ c in
    let bear = sym (drop_one (λ h. bears_on device h.note.body) ps c w misses) in
    let still = moves_no_other device w.note.body misses in
    let joined = any_skip (λ h. time_of h == t && is_joined_by device h.note.body) ps c w
    (and_right (time_of w == t) (is_joined_by device w.note.body) (joins_no_other device w.note.body still)) in
    record {
      heard = heard_alike s js gs device t bear;
      points = points_alike js gs device bear;
      state =
          rw joined
          (rw before);
      adjustment =
          sym (fold_skip (λ adjustment h. adjustment_with s device (cycle_in h) adjustment h.note.body)
          (λ h. nat_lt (time_of h) t || is_joined_by device h.note.body) ps c w (λ old. keeps_adjustment s device (cycle_in w) old w.note.body still) _);
    }

-- with it and without it they tell the same
pub two_placed : (s : Scenario) {t : ℕ} {at : List ℕ} (ps : List Happening) {c : List Happening} {w : Happening} → IsPlaced t at c w
    → AreNear s t (length ps) at w.note.body (ps ++ c) (ps ++ w ∷ c)
two_placed s {t} {at} ps {c} {w} p =
    let late : (y : Happening) → IsIn y c → t ≤ time_of y = λ y i. let e = p.of_time y i in omega arith in
    let with_w : (y : Happening) → IsIn y (w ∷ c) → t ≤ time_of y = λ y i. elim i [
      | inl e ↦ let same : time_of y ≡ time_of w = ap time_of e in let now = p.now in omega arith
      | inr more ↦ late y more
    ] in
    let before = earlier_still t ps c late ∙ sym (earlier_still t ps (w ∷ c) with_w) in
    record {
      first = λ i le. numbered_prefix ps c i le ∙ sym (numbered_prefix ps (w ∷ c) i le);
      before = before;
      taken = λ device link cause vl under.
          sym (rw (drop_one (λ h. is_taken_before device vl t link cause (time_of h) h.note.body) ps c w
          (p.takes device vl link cause under)));
      judged = λ device link cause frame point under.
          let place = t ∷ 3 ∷ device.0 ∷ amount point ∷ frame.members.0 ∷ link.0 ∷ cause ∷ [] in
          let q = λ (h : Happening). is_before (place_of h) place in
          let old = none_judged at place w c p.least under (λ y i. inr (p.over y i)) in
          let new = none_judged at place w (w ∷ c) p.least under (λ y i. elim i
          [ inl e ↦ inl e | inr more ↦ inr (p.over y more) ]) in
          filter-append q ps c ∙ (rw (old ∙ sym new) (sym (filter-append q ps (w ∷ c))));
      hearing = λ device misses. hearing_placed s t ps c w device before misses;
    }
