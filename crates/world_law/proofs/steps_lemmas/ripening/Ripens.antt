-- When the first frame that waits is permanent, and which devices it leaves as they stand.
use Rattle.std.proofs.Common.{Contains, arith, get_or}
use Rattle.drift_clock.specs.Reach.{IsReach}
use Rattle.run_law.{proofs.{records.Order.{all_of, given_of}, scenario.Devices.correct_before}}
use Rattle.run_law.{specs.{control.Corrections.heard_by, machines.{Answers.hearings, Calls.MayRipen}}}
use Rattle.world_law.{specs.{device.Own.own, source.{First.NoSourceBefore, Sources.IsRipening}}}
use Rattle.world_law.proofs.{Words.{in_left, is_at_source, parted}, acts.Dues.turning_stretch}
use Rattle.world_law.proofs.{frames.Proper.{HasCome, IsSound, has_come, is_sound, link_of, received}}
use Rattle.world_law.proofs.{putting.Moving.off_source}
use Rattle.world_law.proofs.devices.{Standing.{cleared_alike, gives_no_point, hears_nothing, tell_owned}}
use Rattle.world_law.proofs.devices.Unmoved
use Unmoved.{changes_no_other, earlier_no, earlier_yes, joins_no_other, keeps_cycle, own_no}
use Rattle.world_law.proofs.steps_lemmas.Words
use Words.{if◌then◌else◌, ◌&&◌, ◌++◌, ◌+ℤ◌, ◌+◌, ◌-◌, ◌<ℤ◌, ◌<◌, ◌==◌, ◌^◌, ◌||◌, ◌∙◌, ◌∷◌, ◌≡◌, ◌≤ℤ◌, ◌≤◌, Bool}
use Words.{Compressed, DeviceId, Happening, HasSentFrom, HaveBefallen, Hearing, IsAtRest, IsBefore, IsCaused, IsDue}
use Words.{IsIn, IsInRange, IsLeft, IsMoving, IsOfMaster, IsOfThisTime, IsOwnSource, IsParentOf, IsPermanent, IsReadyAt}
use Words.{IsRun, IsSource, IsSteady, IsWaitingFor, Judgement, LinkId, List, Moment, Network, Node, None, NoteBody}
use Words.{Option, Pcf, Phase, Point, Scenario, Some, Units, Waiting, [], adjustment_before, adjustment_with}
use Words.{after_last, after_more, after_permanence, amount, ap, append-nil, append_assoc, bears_on, behind_yes, called}
use Words.{cases_Bool, cases_int, cases_lt, changed_at, changes_adjustment, channel_of_link, cons_option, cycle_after}
use Words.{cycle_in, earlier, ends_stretch, eqb-true, false, filter, filter-append, filter_map, filter_map-append, fold}
use Words.{founded_at, has_cleared, heard_since, hearing_by, in_parts, inl, inr, ints, is_broken, is_cm, is_joined_by}
use Words.{is_timed, keeps_adjustment, key, master_of, members_in, moment_of, moves, moves_no_other, nat_lt, natural}
use Words.{no_higher, not, numbered_in, numbered_parts, option_map, option_map_or, option_to_list, place_of, point_at}
use Words.{point_by, point_of, points_of, pos, rank, recorded_cycle, refl, ripe_as, ripe_place, same_device, same_kept}
use Words.{self, since_at, standpoint, subst, suc, sym, time_of, true, unsigned_abs, zero, ℕ, ℤ}
use Rattle.run_law.specs.declared.judgement.Judgement.TheVariants as judgements
use Rattle.run_law.specs.declared.judgement.Why.TheVariants as whys
use Rattle.run_law.specs.declared.note.NoteBody.TheVariants as kinds

-- ---- records that do not bear on a device, but for what they say of its state

-- the record does not bear on the device, or it is of a state
abbrev pub IsMere : DeviceId → NoteBody → Type 0
IsMere device (kinds.State other state cause why) = Unit {0}
IsMere device other = bears_on device other ≡ false

pub mere_joins : (device : DeviceId) (body : NoteBody) → IsMere device body → is_joined_by device body ≡ false
mere_joins device (kinds.State other state cause why) m = refl
mere_joins device other m = joins_no_other device other (moves_no_other device other m)

pub mere_changes : (device : DeviceId) (body : NoteBody) → IsMere device body → changes_adjustment device body ≡ false
mere_changes device (kinds.State other state cause why) m = refl
mere_changes device other m = changes_no_other device other (moves_no_other device other m)

pub mere_adjustment : (s : Scenario) (device : DeviceId) (cycle : ℕ) (old : Units) (body : NoteBody) → IsMere device body
    → adjustment_with s device cycle old body ≡ old
mere_adjustment s device cycle old (kinds.State other state cause why) m = refl
mere_adjustment s device cycle old other m = keeps_adjustment s device cycle old other (moves_no_other device other m)

pub mere_cycle : (device : DeviceId) (next : ℕ) (h : Happening) (body : NoteBody) → IsMere device body → cycle_after device next h body ≡ next
mere_cycle device next h (kinds.State other state cause why) m = refl
mere_cycle device next h other m = keeps_cycle device next h other (moves_no_other device other m)

pub mere_hears : (network : Network) (device : DeviceId) (h : Happening) (body : NoteBody) → IsMere device body → hearing_by network device h body ≡ None
mere_hears network device h (kinds.State other state cause why) m = refl
mere_hears network device h other m = hears_nothing network device h other m

pub mere_point : (device : DeviceId) (h : Happening) (body : NoteBody) → IsMere device body → point_by device h body ≡ None
mere_point device h (kinds.State other state cause why) m = refl
mere_point device h other m = gives_no_point device h other m

-- ---- lists with more at the end

-- what none of those at the end changes
pub fold_rest : {B : Type 0} (f : B → Happening → B) (z : B) (xs zs : List Happening) → ((h : Happening) → IsIn h zs → (b : B) → f b h ≡ b)
    → fold f z (xs ++ zs) ≡ fold f z xs
fold_rest f z [] [] same = refl
fold_rest {B} f z [] (y ∷ zs) same = ap (λ b. fold f b zs) (same y (inl refl) z) ∙ fold_rest f z [] zs
    (λ h i. same h (inr i))
fold_rest f z (x ∷ xs) zs same = fold_rest f (f z x) xs zs same

pub filter_rest : {X : Type 0} (p : X → Bool) (xs zs : List X) → ((x : X) → IsIn x zs → p x ≡ false) → filter p (xs ++ zs) ≡ filter p xs
filter_rest p [] [] none = refl
filter_rest {X} p [] (z ∷ zs) none =
    rw (none z (inl refl)) (filter_rest p [] zs (λ x i. none x (inr i)))
filter_rest {X} p (x ∷ xs) zs none = rw (filter_rest p xs zs none)

pub maps_rest : {X Y : Type 0} (f : X → Option Y) (xs zs : List X) → ((x : X) → IsIn x zs → f x ≡ None) → filter_map f (xs ++ zs) ≡ filter_map f xs
maps_rest f [] [] none = refl
maps_rest {X} {Y} f [] (z ∷ zs) none = rw (none z (inl refl)) (maps_rest f [] zs (λ x i. none x (inr i)))
maps_rest {X} {Y} f (x ∷ xs) zs none = ap (cons_option (f x)) (maps_rest f xs zs none)

-- behind the one that passes
pub behind_it : {X : Type 0} (p : X → Bool) (xs zs : List X) (w : X) → p w ≡ true → ((x : X) → IsIn x zs → p x ≡ false) → after_last p (xs ++ w ∷ zs) ≡ zs
behind_it {X} p xs zs w yes_it none =
    ap (after_last p) (sym (append_assoc xs (w ∷ []) zs))
    ∙ after_more p (xs ++ w ∷ []) zs none
    ∙ (rw (behind_yes p xs w yes_it))

-- what is mapped of one more
pub maps_one : {X Y : Type 0} (f : X → Option Y) (xs : List X) (x : X) → filter_map f (xs ++ x ∷ []) ≡ filter_map f xs ++ option_to_list (f x)
maps_one {X} {Y} f xs x = grind (arith, filter_map-append, filter_map, cons_option, option_to_list)

-- ---- a record that does not move the device

-- of records before a time, one that does not move the device is none of its own
pub own_skip : (device : DeviceId) (t : ℕ) (hs zs : List Happening) (w : Happening) → moves device w.note.body ≡ false
    → own device (earlier t (hs ++ w ∷ zs)) ≡ own device (earlier t (hs ++ zs))
own_skip device t [] zs w still = grind (arith, cases_lt, time_of, earlier_yes, own_no, earlier, earlier_no)
own_skip device t (h ∷ hs) zs w still = grind (arith, nat_lt, time_of, earlier, moves, (own_skip device t hs zs w still))

-- ---- a device after a frame that is permanent and tells it no time stands as the records leave it, with that of the frame put in

-- the device hears what the record has, or nothing
abbrev pub heard_more : Network → DeviceId → Happening → Node → List Hearing
heard_more network device w node = node.heard ++ option_to_list (hearing_by network device w w.note.body)

-- the node with one more record that does not move it
pub record IsGrown (s : Scenario) (device : DeviceId) (w : Happening) (node new : Node) : Type 0 where
  pub standing : new.standing ≡ node.standing
  pub changed : new.changed ≡ node.changed
  pub broken : new.broken ≡ node.broken
  pub heard : new.heard ≡ heard_more s.network device w node
  pub points : is_cm s.network device ≡ true → new.points ≡ node.points ++ option_to_list (point_by device w w.note.body)

-- the record is put in before those that are to come, which say nothing to the device but of its state
pub record IsFirst (s : Scenario) (zs : List Happening) (device : DeviceId) (t : ℕ) (w : Happening) : Type 0 where
  pub mere : (z : Happening) → IsIn z zs → IsMere device z.note.body
  pub open_ : is_cm s.network device ≡ true → (z : Happening) → IsIn z zs → ends_stretch device z.note.body ≡ false
  pub still : moves device w.note.body ≡ false
  pub goes_on : ends_stretch device w.note.body ≡ false

abbrev keep : Scenario → List Happening → DeviceId → ℕ → Happening → Bool
keep s hs device t h = not (has_cleared s hs device t t) || has_cleared s hs device t (time_of h)

changes_at : (device : DeviceId) (t : ℕ) (h : Happening) → changes_adjustment device h.note.body ≡ false
    → (nat_lt (time_of h) t && changes_adjustment device h.note.body) ≡ false
changes_at device t h e = Rattle.std.proofs.lemmas.Bool.and_right (nat_lt (time_of h) t) _ e

filter_one : {X : Type 0} (q : X → Bool) (xs zs : List X) (w : X) → q w ≡ true → filter q ((xs ++ w ∷ []) ++ zs) ≡ (filter q xs ++ w ∷ []) ++ filter q zs
filter_one {X} q xs zs w e =
    filter-append q (xs ++ w ∷ []) zs
    ∙ (rw (Rattle.world_law.proofs.lists.Lists.filter_yes q xs w e))

pub heard_grown : {s : Scenario} (hs : List Happening) {zs : List Happening} {device : DeviceId} {t : ℕ}
    {w : Happening} → IsFirst s zs device t w → keep s (hs ++ zs) device t w ≡ true
    → heard_since s (hs ++ w ∷ zs) device t ≡ heard_since s (hs ++ zs) device t
    ++ option_to_list (hearing_by s.network device w w.note.body)
heard_grown {s} hs {zs} {device} {t} {w} first kept =
    let f = λ (h : Happening). hearing_by s.network device h h.note.body in
    let p = λ (h : Happening). nat_lt (time_of h) t && changes_adjustment device h.note.body in
    let a = tell_owned s (hs ++ w ∷ zs) (hs ++ zs) device t (own_skip device t hs zs w first.still) in
    let with_it = keep s (hs ++ w ∷ zs) device t in
    let without = keep s (hs ++ zs) device t in
    let same : (h : Happening) → with_it h ≡ without h = grind (arith, not, has_cleared, time_of, cleared_alike) in
    let none : (h : Happening) → IsIn h zs → p h ≡ false = λ h i. changes_at device t h (mere_changes device h.note.body (first.mere h i)) in
    let silent : (h : Happening) → IsIn h (filter without zs) → f h ≡ None = λ h i.
    mere_hears s.network device h h.note.body (first.mere h (Rattle.run_law.proofs.law.FirstDeliveries.in_filter without zs h i)) in
    let base = after_last p hs in
    let since : since_at device t (hs ++ w ∷ zs) ≡ (base ++ w ∷ []) ++ zs =
    grind (arith, after_last, append_assoc, after_more, changes_at) in
    let was = after_more p hs zs none in
    ap (filter_map f) (same_kept with_it without (since_at device t (hs ++ w ∷ zs)) (λ h i. same h))
    ∙ ap (λ l. filter_map f (filter without l)) since
    ∙ ap (filter_map f) (filter_one without base zs w kept)
    ∙ maps_rest f (filter without base ++ w ∷ []) (filter without zs) silent
    ∙ maps_one f (filter without base) w
    ∙ ap (λ l. l ++ option_to_list (f w)) (sym (maps_rest f (filter without base) (filter without zs) silent)
    ∙ ap (filter_map f) (sym (filter-append without base zs)) ∙ ap (λ l. filter_map f (filter without l)) (sym was))

pub points_grown : {s : Scenario} (hs : List Happening) {zs : List Happening} {device : DeviceId} {t : ℕ}
    {w : Happening} → IsFirst s zs device t w → is_cm s.network device ≡ true
    → points_of (hs ++ w ∷ zs) device ≡ points_of (hs ++ zs) device ++ option_to_list (point_by device w w.note.body)
points_grown hs {zs} {device} {w} first cm =
    let f = λ (h : Happening). point_by device h h.note.body in
    let p = λ (h : Happening). ends_stretch device h.note.body in
    let none : (h : Happening) → IsIn h zs → f h ≡ None = λ h i. mere_point device h h.note.body (first.mere h i) in
    let base = after_last p hs in
    ap (filter_map f) (ap (after_last p) (sym (append_assoc hs (w ∷ []) zs)) ∙ after_more p (hs ++ w ∷ []) zs (first.open_ cm)
    ∙ ap (λ l. l ++ zs) (Rattle.world_law.proofs.lists.Lists.behind_no p hs w first.goes_on))
    ∙ maps_rest f (base ++ w ∷ []) zs none
    ∙ maps_one f base w
    ∙ (rw (sym (maps_rest f base zs none) ∙ ap (filter_map f) (sym (after_more p hs zs (first.open_ cm)))))

pub left_grown : {s : Scenario} (hs : List Happening) {zs : List Happening} {device : DeviceId} {t : ℕ}
    {w : Happening} {node new : Node} → IsFirst s zs device t w
    → (is_timed node.standing.state ≡ true → keep s (hs ++ zs) device t w ≡ true) → IsGrown s device w node new
    → IsLeft s (hs ++ zs) device t node → IsLeft s (hs ++ w ∷ zs) device t new
left_grown {s} hs {zs} {device} {t} {w} {node} {new} first kept grown left =
    let a = tell_owned s (hs ++ zs) (hs ++ w ∷ zs) device t (sym (own_skip device t hs zs w first.still)) in
    record {
      counted = record {
        plan = rw grown.standing left.counted.plan;
        adjustment = rw grown.standing (left.counted.adjustment ∙ a.adjustment);
        integrated = rw grown.standing (left.counted.integrated ∙ a.integration);
        number = grind (arith, recorded_cycle, earlier, cleared_alike, has_cleared, a.cycle);
        changed = grind (arith, adjustment_before, a.change, changed_at, a.adjustment);
        heard = grind (arith, option_to_list, hearing_by, heard_grown);
        started = grind (arith, recorded_cycle, earlier, a.integration, a.cycle);
        broken = grown.broken ∙ left.counted.broken;
      };
      state = rw grown.standing (left.state ∙ (rw a.state));
      points = λ cm.
          grown.points cm ∙ (rw (left.points cm)
          (sym (points_grown hs first cm)));
    }

-- ---- what the machine makes of the frame

-- how the verdict is, where the device collects, and where it does not
abbrev pub IsByRole : Bool → Judgement → Type 0
IsByRole true judgements.Opened = Unit {0}
IsByRole true judgements.Joined = Unit {0}
IsByRole true judgements.Repeat = Unit {0}
IsByRole false judgements.Within = Unit {0}
IsByRole false judgements.Outside = Unit {0}
IsByRole false judgements.Ignored = Unit {0}
IsByRole cm other = ⊥

heard_so : (network : Network) (device : DeviceId) (link : LinkId) (cause : ℕ) (point : Units) (w : Happening) (frame : Pcf) (within : Bool)
    → w.frame ≡ Some frame → hearings (channel_of_link network link) frame.cycle frame.members point within
    ≡ option_to_list (if device.0 == device.0 then option_map (λ channel. heard_by channel w point within) (channel_of_link network link) else None)
heard_so network device link cause point w frame within of_frame =
    grind (arith, cycle_in, option_map_or, members_in, option_to_list, option_map, channel_of_link, self)

point_so : (device : DeviceId) (link : LinkId) (cause : ℕ) (point : Units) (w : Happening) (frame : Pcf) → w.frame ≡ Some frame
    → point_at point.0 (master_of frame.members.0) frame.cycle ∷ []
    ≡ option_to_list (if device.0 == device.0 then Some (point_at point.0 (master_of (members_in w)) (cycle_in w)) else None)
point_so device link cause point w frame of_frame = grind (arith, cycle_in, option_map_or, members_in, point_at, master_of, option_to_list, self)

-- what the call leaves as it was
pub record IsSame (node new : Node) : Type 0 where
  pub standing : new.standing ≡ node.standing
  pub changed : new.changed ≡ node.changed
  pub broken : new.broken ≡ node.broken
  pub taken : new.taken ≡ node.taken
  pub done : new.done ≡ node.done
  pub emitted : new.emitted ≡ node.emitted

not_joining : (b : Bool) → IsByRole b judgements.Integrates → ⊥
not_joining true r = r
not_joining false r = r

module _ (network : Network) (device : DeviceId) (node : Node) (moment : Moment) (phase : Phase) (link : LinkId)
    (point : Units) (frame : Pcf) where
  pub same_by_role : (cm : Bool) (verdict : Judgement) → IsByRole cm verdict → IsSame node
      (called moment phase (after_permanence node moment (channel_of_link network link) frame point (ripe_as
      verdict)))
  same_by_role cm judgements.Integrates r = absurd (not_joining cm r)
  same_by_role cm other r = grind arith

  -- its points, where it collects, and where it does not
  pub points_by_role : (verdict : Judgement) → IsByRole true verdict →
      (called moment phase (after_permanence node moment (channel_of_link network link) frame point (ripe_as
      verdict))).points ≡ node.points ++ point_at point.0 (master_of frame.members.0) frame.cycle ∷ []
  points_by_role judgements.Opened r = refl
  points_by_role judgements.Joined r = refl
  points_by_role judgements.Repeat r = refl
  points_by_role other r = absurd r

  pub points_not : (verdict : Judgement) → IsByRole false verdict →
      (called moment phase (after_permanence node moment (channel_of_link network link) frame point (ripe_as
      verdict))).points ≡ node.points
  points_not judgements.Within r = refl
  points_not judgements.Outside r = refl
  points_not judgements.Ignored r = refl
  points_not other r = absurd r

pub is_grown : (s : Scenario) (device : DeviceId) (node : Node) (moment : Moment) (phase : Phase) (w : Happening) (link : LinkId) (cause : ℕ) (point : Units)
    {frame : Pcf}
    (verdict : Judgement) → w.frame ≡ Some frame → w.note.body ≡ kinds.Permanent device link cause point verdict → IsByRole (is_cm s.network device) verdict
    → IsGrown s device w node (called moment phase (after_permanence node moment (channel_of_link s.network link) frame point (ripe_as verdict)))
is_grown s device node moment phase w link cause point verdict of_frame body role =
    grind (arith, option_to_list, hearing_by, point_by, called, after_permanence, channel_of_link, ripe_as, is_cm, append-nil, heard_so, point_so)

-- ---- the first frame that waits, whose point its device's reading has come to, is permanent at this very time, and may be so

-- What is to come where the first frame that waits is permanent.

-- no frame is permanent by it, nothing compressed and nothing corrected; a state is that of an event or of a frame
abbrev pub IsLateKind : NoteBody → Type 0
IsLateKind (kinds.Permanent device link cause point verdict) = ⊥
IsLateKind (kinds.Compressed device opened at cycle members verdict) = ⊥
IsLateKind (kinds.Corrected device cycle by adjustment) = ⊥
IsLateKind (kinds.State device state cause whys.On) = Unit {0}
IsLateKind (kinds.State device state cause whys.Frame) = Unit {0}
IsLateKind (kinds.State device state cause why) = ⊥
IsLateKind other = Unit {0}

-- a record of the instant that is before the place has no higher rank
pub given_low : (hs : List Happening) {now : ℕ} (more : List ℕ)
    → ((h : Happening) → IsIn h hs → IsBefore (place_of h) (now ∷ 3 ∷ more))
    → (h : Happening) → IsIn h hs → time_of h ≡ now → rank h.note.body ≤ 3
given_low hs {now} more within h i at =
    search (arith, no_higher, rank, key)

not_late : {t now k : ℕ} (ws more w0 : List ℕ) → w0 ≡ t ∷ k ∷ ws → t ≡ now → 3 < k → IsBefore w0 (now ∷ 3 ∷ more) → ⊥
not_late ws more w0 e at late b = elim (rw e at b) [
  | inl lt ↦ omega arith
  | inr c ↦ elim c.1 [ inl lt ↦ omega arith | inr d ↦ let same = d.0 in omega arith ]
]

module _ (s : Scenario) (hs front : List Happening) where
  -- no correction of the instant is given yet, and none that is to come stands at its source
  corrected_none : {t : ℕ} {now : ℕ} {cause : ℕ} (cycle : ℕ) (device : DeviceId) (by adjustment : _) {h : Happening}
      → ((h : Happening) → IsIn h hs → time_of h ≡ now → rank h.note.body ≤ 3)
      → ((z : Happening) → IsIn z front → is_at_source z.note.body ≡ false) → t ≡ now
      → IsOfThisTime (hs ++ front) t cause h → h.note.body ≡ kinds.Corrected device cycle by adjustment → ⊥
  corrected_none {cause} cycle device by adjustment {h} low off at it body =
      elim (numbered_parts hs front h cause it.there) [
        | inl given ↦
            let six : rank h.note.body ≡ 6 = ap rank body in
            let le = low h (numbered_in hs cause h given) (it.same_time ∙ at) in
            omega arith
        | inr more ↦ absurd (let bad : true ≡ false = ap is_at_source (sym body) ∙ off h more in cc)
      ]

  -- each is of such a kind
  late_kind : {now t : ℕ} (members : ℕ) (more : List ℕ) (time : _) (body : NoteBody) (w0 : List ℕ)
      → ((h : Happening) → IsIn h hs → time_of h ≡ now → rank h.note.body ≤ 3)
      → ((z : Happening) → IsIn z front → is_at_source z.note.body ≡ false) → is_at_source body ≡ false → t ≡ now
      → amount time ≡ t → IsOwnSource s (hs ++ front) t members body w0 → IsCaused s (hs ++ front) time body
      → IsBefore w0 (now ∷ 3 ∷ more) → IsLateKind body
  late_kind m more time (kinds.Permanent device link cause point verdict) w0 low off here at same own c b =
      absurd cc
  late_kind m more time (kinds.Compressed device opened at_ cycle of_masters verdict) w0 low off here at same
      own c b = absurd cc
  late_kind m more time (kinds.Corrected device cycle by adjustment) w0 low off here at same own c b = absurd cc
  late_kind {now} m more time (kinds.State device state cause whys.Correction) w0 low off here at same own c b =
      corrected_none c.2.0 device c.2.1 c.2.2 low off (same ∙ at) c.2.4 c.2.5
  late_kind {now} {t} m more time (kinds.State device state cause whys.SyncClique) w0 low off here at same own c b =
      not_late _ more w0 own.1 at (omega arith) b
  late_kind {now} {t} m more time (kinds.State device state cause whys.AsyncClique) w0 low off here at same own c b =
      not_late _ more w0 own.1 at (omega arith) b
  late_kind m more time other w0 low off here at same own c b = tt

pub all_late : {s : Scenario} {hs coming : List Happening} {now : ℕ} {more : List ℕ}
    → IsMoving s hs coming now 3 more → ((h : Happening) → IsIn h hs → IsBefore (place_of h) (now ∷ 3 ∷ more))
    → (y : Happening) → IsIn y coming → IsLateKind y.note.body
all_late {s} {hs} {coming} {now} {more} m within y i =
    let split = parted y coming i in
    let by = m.are.by split.0 split.1 y split.2 in
    let due = (m.are.founded split.0 split.1 y split.2).1 in
    late_kind s hs split.0 (members_in y) more y.note.time y.note.body by.0 (given_low hs more within)
    (λ z j. off_source m z (rw split.2 (in_left z split.0 (y ∷ split.1) j))) (off_source m y i)
    (m.are.of_now y i) refl by.1 due.cause by.3

-- so it says nothing to a device but of its state
pub late_mere : (device : DeviceId) (body : NoteBody) → IsLateKind body → IsMere device body
late_mere device (kinds.State other state cause why) late = tt
late_mere device other late = grind arith

still_ends : (device : DeviceId) (body : NoteBody) → IsLateKind body → Rattle.world_law.specs.device.Own.moves device body ≡ false
    → ends_stretch device body ≡ false
still_ends device (kinds.State other state cause whys.On) late e = refl
still_ends device (kinds.State other state cause whys.Frame) late e = e
still_ends device other late e = grind arith

pub rest_ends : (s : Scenario) (device : DeviceId) (now : ℕ) (body : NoteBody) → IsLateKind body → IsAtRest s device now body → ends_stretch device body ≡ false
rest_ends s device now body late (inl still) = still_ends device body late still
rest_ends s device now body late (inr on) = turning_stretch device body on.0

-- where it stands among those of the time
abbrev pub ripe_more : Waiting → List ℕ
ripe_more e = e.device.0 ∷ amount e.point ∷ e.frame.members.0 ∷ e.link.0 ∷ e.cause ∷ []

-- the frame waits, its point is reached, and the frontier is at it
pub record IsRipe (s : Scenario) (hs coming : List Happening) (now : ℕ) (e : Waiting) : Type 0 where
  pub moving : IsMoving s hs coming now 3 (ripe_more e)
  pub run : IsRun place_of (IsDue s) (now ∷ 3 ∷ ripe_more e) hs
  pub past : (h : Happening) → IsIn h hs → time_of h ≤ now
  pub befallen : HaveBefallen s (now ∷ 3 ∷ ripe_more e) now
  pub range : IsInRange s.network
  pub steady : IsSteady (s.reading e.device) (amount s.network.precision)
  pub limit : now ≤ 2 ^ 60
  pub it : IsWaitingFor s hs e
  pub reached : e.point.0 ≤ℤ pos (s.reading e.device now)
  pub later : (t : ℕ) → IsRipening s hs t e.device e.link e.cause e.point → IsBefore (ripe_place t e) (now ∷ 3 ∷ ripe_more e) → ⊥
  pub sound : is_broken s e.device now ≡ false

-- no record is later
pub sooner_of : {s : Scenario} {hs coming : List Happening} {now : ℕ} {e : Waiting}
    → IsRipe s hs coming now e → (w h : Happening) → time_of w ≡ now → IsIn h (hs ++ coming)
    → time_of h ≤ time_of w
sooner_of {hs} {coming} r w h at i = elim (in_parts h hs coming i) [
  | inl given ↦ let past = r.past h given in omega arith
  | inr more ↦ let same = r.moving.are.of_now h more in omega arith
]

-- ---- what came

pub come_of : (s : Scenario) (hs : List Happening) (e : Waiting) (it : IsWaitingFor s hs e) → Rattle.run_law.specs.runs.Runs.IsFounded place_of (IsDue s) hs
    → HasCome s hs it.arrival e.device e.link it.awaited.from it.awaited.clock e.frame
come_of s hs e it founded =
    search (arith, has_come, numbered_in)

pub sound_of : {s : Scenario} {hs : List Happening} {e : Waiting} (it : IsWaitingFor s hs e)
    (c : HasCome s hs it.arrival e.device e.link it.awaited.from it.awaited.clock e.frame)
    → IsSound s.network e.device e.link (standpoint s c.front e.device (time_of it.arrival)) c.so.came e.frame
sound_of {s} {e} it c =
    is_sound c.so.taken

-- its point is not before the reading at its arrival
point_late : (reading clock : ℕ) (dmax point : Units) → point.0 ≡ point_of (pos reading) clock dmax.0 → clock ≤ amount dmax → pos 0 ≤ℤ dmax.0
    → pos reading ≤ℤ point.0
point_late reading clock dmax point at le some =
    let whole = natural dmax.0 some in
    omega (arith, ints)

pub arrived_before : {s : Scenario} {hs : List Happening} {e : Waiting} (it : IsWaitingFor s hs e)
    → IsInRange s.network → Rattle.run_law.specs.runs.Runs.IsFounded place_of (IsDue s) hs
    → pos (s.reading e.device (time_of it.arrival)) ≤ℤ e.point.0
arrived_before {s} {hs} {e} it range founded =
    let c = come_of s hs e it founded in
    let clock = (sound_of it c).clock in
    let least = range.dmax.least in
    point_late (s.reading e.device (time_of it.arrival)) it.awaited.clock s.network.dmax e.point it.awaited.at_point
    (rw c.shows clock) (omega (arith, ints))

-- ---- when its reading comes to it

first_reach : (reading : ℕ → ℕ) (v : ℤ) (from n : ℕ) → v ≤ℤ pos (reading (from + n)) → (t : ℕ) × IsReach reading (pos from) v (pos t) × (t ≤ from + n)
first_reach reading v from zero le = grind (arith, ints)
first_reach reading v from (suc n) le =
    elim (cases_int (pos (reading from)) v) [
      | inr here ↦ (
        from,
        record { from_on = omega (arith, ints); reached = here; not_before = λ x ge lt. absurd (omega (arith, ints)) },
        omega arith,
      )
      | inl below ↦
          let moved : from + suc n ≡ (from + 1) + n = omega arith in
          let more = first_reach reading v (from + 1) n (rw moved at le) in
          let bound = more.2 in
          let start = more.1.from_on in (
            more.0,
            record {
              from_on = omega (arith, ints);
              reached = more.1.reached;
              not_before = λ x ge lt. elim (cases_lt from x) [
                | inl past ↦ more.1.not_before x (omega (arith, ints)) lt
                | inr no_later ↦ let same : from ≡ x = omega (arith, ints) in rw same at below
              ];
            },
            omega arith,
          )
    ]

abbrev pub permanent_at : (s : Scenario) (hs : List Happening) (e : Waiting) (t : ℕ) (it : IsWaitingFor s hs e)
    → IsReach (s.reading e.device) (pos (time_of it.arrival)) e.point.0 (pos t) → is_broken s e.device t ≡ false
    → IsPermanent s hs e.device t e.link e.cause e.frame e.point
permanent_at s hs e t it reach sound = record {
  arrival = it.arrival;
  there = it.there;
  from = it.awaited.from;
  clock = it.awaited.clock;
  arrived = it.awaited.arrived;
  of_frame = it.awaited.of_frame;
  waits = it.awaited.waits;
  at_point = it.awaited.at_point;
  reached = reach;
  correct = sound;
}

abbrev pub ripening_at : (s : Scenario) (hs : List Happening) (e : Waiting) (t : ℕ) (it : IsWaitingFor s hs e)
    → IsReach (s.reading e.device) (pos (time_of it.arrival)) e.point.0 (pos t) → is_broken s e.device t ≡ false
    → IsRipening s hs t e.device e.link e.cause e.point
ripening_at s hs e t it reach sound = record { frame = e.frame; permanent = permanent_at s hs e t it reach sound }

module _ {s : Scenario} {hs : List Happening} (frontier : List ℕ) (now : ℕ) {e : Waiting} (it : IsWaitingFor s hs e)
    (first : NoSourceBefore s hs frontier (now ∷ 3 ∷ ripe_more e)) where
  -- before now its reading had not come to its point
  pub below_by : ((t : ℕ) → IsRipening s hs t e.device e.link e.cause e.point → IsBefore (ripe_place t e) frontier → ⊥)
      → is_broken s e.device now ≡ false → (x : ℕ) → time_of it.arrival ≤ x → x < now
      → pos (s.reading e.device x) <ℤ e.point.0
  below_by later sound x from lt =
      elim (cases_int (pos (s.reading e.device x)) e.point.0) [
        | inl under ↦ under
        | inr over ↦
            let t0 = time_of it.arrival in
            let n = x - t0 in
            let whole : x ≡ t0 + n = omega arith in
            let reach = first_reach (s.reading e.device) e.point.0 t0 n
            (rw whole at over) in
            let bound = reach.2 in
            let sooner : reach.0 < now = omega arith in
            let correct = correct_before s e.device reach.0 now (omega arith) sound in
            absurd (first (ripe_place reach.0 e) (IsSource.ripening reach.0 e.device e.link e.cause e.point
            (ripening_at s hs e reach.0 it reach.1 correct))
            (later reach.0 (ripening_at s hs e reach.0 it reach.1 correct)) (inl sooner))
      ]

  pub reach_by : ((t : ℕ) → IsRipening s hs t e.device e.link e.cause e.point → IsBefore (ripe_place t e) frontier → ⊥)
      → is_broken s e.device now ≡ false → time_of it.arrival ≤ now → e.point.0 ≤ℤ pos (s.reading e.device now)
      → IsReach (s.reading e.device) (pos (time_of it.arrival)) e.point.0 (pos now)
  reach_by later sound le reached = search (arith, below_by)

pub below : {s : Scenario} {hs coming : List Happening} {now : ℕ} {e : Waiting} (r : IsRipe s hs coming now e) (x : ℕ)
    → time_of r.it.arrival ≤ x → x < now → pos (s.reading e.device x) <ℤ e.point.0
below {now} {e} r x from lt = below_by (now ∷ 3 ∷ ripe_more e) now r.it (λ w source waits b. waits b) r.later r.sound x
    from lt

module _ {s : Scenario} {hs coming : List Happening} {now : ℕ} {e : Waiting}
    (r : IsRipe s hs coming now e) where
  pub reach_now : IsReach (s.reading e.device) (pos (time_of r.it.arrival)) e.point.0 (pos now)
  reach_now =
      reach_by (now ∷ 3 ∷ ripe_more e) now r.it (λ w source waits b. waits b) r.later r.sound
      (r.past r.it.arrival (numbered_in hs e.cause r.it.arrival r.it.there)) r.reached

  -- before now its reading had not gone beyond its point
  pub not_beyond : (x : ℕ) → x < now → pos (s.reading e.device x) ≤ℤ e.point.0
  not_beyond x lt =
      let t0 = time_of r.it.arrival in
      elim (cases_lt x t0) [
        | inr from ↦ let under = below r x from lt in omega (arith, ints)
        | inl sooner ↦
            let fell = r.steady.never_falls x t0 (omega (arith, sooner)) in
            let late = arrived_before r.it r.range r.run.founded in
            omega (arith, ints)
      ]

  -- and it is now less than a precision beyond it
  pub in_time : pos (s.reading e.device now) <ℤ (e.point.0 +ℤ s.network.precision.0)
  in_time =
      let some = r.range.precision.least in
      let whole = natural s.network.precision.0 (omega (arith, ints, some)) in
      let le = r.past r.it.arrival (numbered_in hs e.cause r.it.arrival r.it.there) in
      elim (cases_lt (time_of r.it.arrival) now) [
        | inl lt ↦
            let under = below r (now - 1) (omega arith) (omega arith) in
            let jump = r.steady.no_jump (now - 1) in
            let same : now - 1 + 1 ≡ now = omega arith in
            let jumped : s.reading e.device now < s.reading e.device (now - 1) + amount s.network.precision =
            rw same at jump in
            omega (arith, ints)
        | inr ge ↦
            let same : time_of r.it.arrival ≡ now = omega arith in
            let late = rw same at (arrived_before r.it r.range r.run.founded) in
            omega (arith, ints)
      ]

-- ---- all that it has collected and sent is no later

in_dropped : {X : Type 0} (n : ℕ) (xs : List X) (x : X) → IsIn x (Rattle.std.specs.Prelude.drop n xs) → IsIn x xs
in_dropped zero xs x i = i
in_dropped (suc n) [] x i = absurd i
in_dropped (suc n) (y ∷ xs) x i = inr (in_dropped n xs x i)

-- a point of a permanence
by_permanence : (device : DeviceId) (h : Happening) {p : Point} (body : NoteBody) → point_by device h body ≡ Some p
    → (other : DeviceId) × (link : _) × (cause : ℕ) × (point : Units) × (verdict : _) × (body ≡ kinds.Permanent other link cause point verdict)
    × (device.0 ≡ other.0) × (p.reading ≡ point.0)
by_permanence device h {p} (kinds.Permanent other link cause point verdict) e =
    elim (cases_Bool (Rattle.std.specs.Prelude.◌==◌ device.0 other.0)) [
      | inl own ↦
          let is =
          sym (ap (λ b. Rattle.std.specs.Prelude.if◌then◌else◌ b
          (Some (point_at point.0 (master_of (members_in h)) (cycle_in h))) None) own) ∙ e in
          let same : point_at point.0 (master_of (members_in h)) (cycle_in h) ≡ p = cc in
          (other, link, cause, point, verdict, refl, eqb-true device.0 other.0 own, sym (ap (λ q. q.reading) same))
      | inr misses ↦
          absurd (let bad =
          sym (ap (λ b. Rattle.std.specs.Prelude.if◌then◌else◌ b
          (Some (point_at point.0 (master_of (members_in h)) (cycle_in h))) None) misses)
          ∙ e in cc)
    ]
by_permanence device h other e = absurd cc

no_late_point : {body : NoteBody} (other : DeviceId) (link : _) (cause : ℕ) (point : Units) (verdict : _) → IsLateKind
    body
    → body ≡ kinds.Permanent other link cause point verdict → ⊥
no_late_point other link cause point verdict late e = subst IsLateKind e late

less_amount : (a b : Units) → pos 0 ≤ℤ b.0 → amount a ≤ amount b → a.0 ≤ℤ b.0
less_amount a b some le = grind (arith, unsigned_abs, amount, natural, ints)

points_before : (now a b : ℕ) (xs ys : List ℕ) {d c : ℕ} → d ≡ c → IsBefore (now ∷ 3 ∷ d ∷ a ∷ xs)
    (now ∷ 3 ∷ c ∷ b ∷ ys) → a ≤ b
points_before now a b xs ys e (inl lt) = absurd (omega arith)
points_before now a b xs ys e (inr (t, inl lt)) = absurd (omega arith)
points_before now a b xs ys e (inr (t, inr (r, inl lt))) = absurd (omega arith)
points_before now a b xs ys e (inr (t, inr (r, inr (same, inl lt)))) = omega arith
points_before now a b xs ys e (inr (t, inr (r, inr (same, inr (eq, more))))) = omega arith

module _ {s : Scenario} {hs coming : List Happening} {now : ℕ} where
  pub points_no_later : {e : Waiting} (r : IsRipe s hs coming now e)
      → ((z : Happening) → IsIn z coming → IsLateKind z.note.body) → (p : Point)
      → IsIn p (points_of (hs ++ coming) e.device) → p.reading ≤ℤ e.point.0
  points_no_later {e} r late p i =
      let from = given_of (λ h. point_by e.device h h.note.body)
      (after_last (λ h. ends_stretch e.device h.note.body) (hs ++ coming)) p i in
      let h = from.0 in
      let of = by_permanence e.device h h.note.body from.2 in
      elim (in_parts h hs coming (in_dropped _ (hs ++ coming) h from.1)) [
        | inr more ↦ absurd (no_late_point of.0 of.1 of.2 of.3 of.4 (late h more) of.5)
        | inl given ↦
            let due = (founded_at s hs h r.run.founded given).due in
            let c = rw of.5 at due.cause in
            let reached =
            rw (same_device of.0 e.device (sym of.6)) at c.permanent.reached.reached in
            let le = r.past h given in
            let is = of.7 in
            let late_point = arrived_before r.it r.range r.run.founded in
            elim (cases_lt (time_of h) now) [
              | inl lt ↦ let under = not_beyond r (time_of h) lt in omega (arith, ints)
              | inr ge ↦
                  let before = r.run.within h given in
                  let placed : IsBefore (now ∷ 3 ∷ of.0.0 ∷ amount of.3 ∷ members_in h ∷ of.1.0 ∷ of.2 ∷ [])
                  (now ∷ 3 ∷ ripe_more e) =
                  grind (arith, key, members_in, of.5, h.note.body) in
                  let amounts = points_before now (amount of.3) (amount e.point) (members_in h ∷ of.1.0 ∷ of.2 ∷ [])
                  (e.frame.members.0 ∷ e.link.0 ∷ e.cause ∷ []) (sym of.6) placed in
                  let less = less_amount of.3 e.point (omega (arith, ints)) amounts in
                  omega (arith, ints)
            ]
      ]

  pub emitted_no_later : {up : ℕ} {e : Waiting} {node : Node} (r : IsRipe s hs coming now e)
      → HasSentFrom s e.device node up now → (c : Compressed) → Contains node.emitted c → c.at.0 ≤ℤ e.point.0
  emitted_no_later r sent c there =
      let x = sent.sent c there in
      let reached = x.2 in
      let under = not_beyond r x.0 x.1 in
      omega (arith, ints)

  -- ---- so it may be permanent

  pub may_ripen : {e : Waiting} {node : Node} (r : IsRipe s hs coming now e)
      → IsReadyAt (s.reading e.device) s.network e.device node now
      → (IsParentOf s.network e.device e.link → IsOfMaster s.network e.device e.link e.frame.members)
      → ((p : Point) → IsIn p node.points → p.reading ≤ℤ e.point.0)
      → ((c : Compressed) → Contains node.emitted c → c.at.0 ≤ℤ e.point.0)
      → MayRipen s.network e.device node (moment_of s e.device now) e.link e.frame e.point
  may_ripen {e} {node} r ready master points emitted =
      let c = come_of s hs e r.it r.run.founded in
      let sound = sound_of r.it c in
      let late = arrived_before r.it r.range r.run.founded in
      record {
        at = link_of s.network e.device e.link c.so.arrives.way
            (received s.network e.device e.link c.so.arrives.way c.so.arrives.receiver);
        waits = r.it.awaited.waits;
        reached = r.reached;
        in_time = in_time r;
        kind = sound.kind;
        priority = sound.priority;
        domain = sound.domain;
        clock = sound.clock;
        from_below = master;
        not_before = λ before.
            let last = natural node.last.time.0 ready.begun in
            let lt : amount node.last.time < now = omega (arith, ints) in
            let under = not_beyond r (amount node.last.time) lt in
            let read = ready.last in
            omega (arith, ints);
        from_zero = omega (arith, ints);
        after_points = all_of (λ p. p.reading ≤ℤ e.point.0) node.points points;
        after_emitted = λ k d lt. emitted (get_or node.emitted k d)
            (Rattle.std.proofs.lemmas.List.Elements.All-contains_itself node.emitted k d lt);
      }
