-- What a device hears, and has heard since its last correction point: frames of compression masters.
use Rattle.net_plan.proofs.SameIds.{one_device}
use Rattle.precision_law.proofs.{trips.Legs.{emission_shows, frames_down_are_of_cms}}
use Rattle.precision_law.proofs.records.{Behind.behind_last, Points.{before_of, earlier_before}, Times.AreSorted}
use Rattle.precision_law.proofs.records.{Views.in_order}
use Rattle.precision_law.proofs.words.Laws
use Laws.{AreBeforeCorrections, HearingsAreOfFrames, HearsBy, IsOfHearer, IsView, View, expectation, last_setting}
use Rattle.precision_law.proofs.words.Plans
use Plans.{Channel, DeviceId, Down, HeardFrame, Hearing, IsBest, IsDeviceInRange, Joints, LinkId, Members, Network, Pcf}
use Plans.{Point, Relay, Role, Taken, Units, all_at, amount, compression_time, device_at, is_end_system, link_at}
use Plans.{opened, within_on}
use Rattle.precision_law.proofs.words.Runs
use Runs.{Happening, Integrates, IsCaused, IsCollectedOrDropped, IsIn, IsPermanenceOutcome, Judgement, NoteBody}
use Runs.{Outside, Reason, Scenario, Within, adjustment_after, cause_of, changes_adjustment, channel_of}
use Runs.{channel_of_link, correction_value, cycle_in, expected_by, founded_at, frame_by, has_cleared, heard_by}
use Runs.{heard_since, hearing_by, in_filter, in_left, in_parts, in_right, is_cm, is_cm_role, is_integration_cycle}
use Runs.{is_parent_of, is_relay_role, members_in, next_cycle, numbered, numbered_front, numbered_in, recorded_cycle}
use Runs.{ripe_as, ripe_by_role, time_of, waits_for, way_to}
use Rattle.precision_law.proofs.words.Std
use Std.{if◌then◌else◌, ◌&&◌, ◌++◌, ◌+ℤ◌, ◌+◌, ◌-◌, ◌<◌, ◌==◌, ◌||◌, ◌∙◌, ◌∷◌, ◌≡◌, ◌≤◌, Bool, List, MatchBool-at_true}
use Std.{None, Option, Some, [], after_last, and_from, ap, append_assoc, arith, both_ways, eqb-true, false}
use Std.{false_from_ne_true, filter, inl, inr, int_le, int_lt, lt-ltb, nat_lt, not, not-true, option_and_then}
use Std.{option_map, option_map_or, pos, refl, subst, sym, true, ℕ, ℤ}
use Rattle.run_law.proofs.records.Order.{given_of, has_passed}
use Rattle.tte_units.proofs.general_lemmas.Options.{mapped, passed}
use Rattle.compression.specs.declared.taken.Taken.TheVariants as taken
use Rattle.run_law.specs.declared.note.NoteBody.TheVariants as notes
use Rattle.run_law.specs.declared.steps.Ripe.TheVariants as ripe

-- ---- what a device has heard since its last correction point: what depends on earlier records alone

abbrev pub cleared_by : Scenario → DeviceId → ℕ → List Happening → Bool
cleared_by s device by es =
    is_integration_cycle es device
    && (int_lt (pos (s.reading device (option_map_or time_of (last_setting es device) 0)) +ℤ (adjustment_after s es device).0)
    (correction_value s.network (recorded_cycle es device))
    && int_le (correction_value s.network (recorded_cycle es device)) (pos (s.reading device (by - 1)) +ℤ (adjustment_after s es device).0))

pub same_cleared : {v : View} (device : DeviceId) {t : ℕ} (by : ℕ) {front : List Happening}
    → AreBeforeCorrections v t front → has_cleared v.scenario front device t by
    ≡ has_cleared v.scenario v.records device t by
same_cleared {v} device by split = ap (cleared_by v.scenario device by) (earlier_before split)

pub same_next : {v : View} (device : DeviceId) {t : ℕ} {front : List Happening} → AreBeforeCorrections v t front
    → next_cycle v.scenario front device t ≡ next_cycle v.scenario v.records device t
same_next {v} device {t} split =
    rw (earlier_before split)

-- ---- hearings

-- a record before the corrections of a time, by which the device heard this since its last correction point
pub record IsHearingOf (v : View) (device : DeviceId) (t : ℕ) (front : List Happening) (hearing : Hearing) : Type 0 where
  pub h : Happening
  pub there : IsIn h front
  pub shows : hearing_by v.scenario.network device h h.note.body ≡ Some hearing
  pub since : (x : Happening) → IsIn x front → time_of x < t → changes_adjustment device x.note.body ≡ true → time_of x ≤ time_of h
  pub cleared : has_cleared v.scenario front device t t ≡ true → has_cleared v.scenario front device t (time_of h) ≡ true

-- of sorted records those of a front are not later than those behind it
front_first : (ps qs : List Happening) (x h : Happening) → AreSorted (ps ++ qs) → IsIn x ps → IsIn h qs → time_of x ≤ time_of h
front_first [] qs x h order a b = absurd a
front_first (p ∷ ps) qs x h order (inl same) b = (let up = order.0 h (in_right h ps qs b) in rw same up)
front_first (p ∷ ps) qs x h order (inr more) b = front_first ps qs x h order.1 more b

pub hearing_of : {v : View} (device : DeviceId) {t : ℕ} {front : List Happening} (hearing : Hearing) → IsView v
    → AreBeforeCorrections v t front → IsIn hearing (heard_since v.scenario front device t)
    → IsHearingOf v device t front hearing
hearing_of {v} device {t} {front} hearing is split i =
    let set = λ (h : Happening). nat_lt (time_of h) t && changes_adjustment device h.note.body in
    let late = λ (h : Happening). not (has_cleared v.scenario front device t t) || has_cleared v.scenario front device t (time_of h) in
    let since = after_last set front in
    let made = given_of (λ h. hearing_by v.scenario.network device h h.note.body) (filter late since) hearing i in
    let h = made.0 in
    let in_since = in_filter late since h made.1 in
    let cut = behind_last set front in
    let all = split.whole ∙ ap (λ hs. hs ++ split.rest) cut.whole ∙ append_assoc cut.front since split.rest in
    record {
      h = h;
      there = subst (IsIn h) (sym cut.whole) (in_right h cut.front since in_since);
      shows = made.2;
      since = λ x j lt changes. elim (in_parts x cut.front since (subst (IsIn x) cut.whole j)) [
        | inr behind ↦ absurd (both_ways (set x) (cut.others x behind)
            (and_from (nat_lt (time_of x) t) (changes_adjustment device x.note.body) (lt-ltb (time_of x) t lt) changes))
        | inl ahead ↦ front_first cut.front (since ++ split.rest) x h (subst AreSorted all (in_order is)) ahead
            (in_left h since split.rest in_since)
      ];
      cleared = λ c. subst (λ b. (not b || has_cleared v.scenario front device t (time_of h)) ≡ true) c
          (has_passed late since h made.1);
    }

-- ---- what is heard

-- what is chosen by a test is there where the test holds
if_some : {X : Type 0} (b : Bool) (o : Option X) (x : X) → (if b then o else None) ≡ Some x → (b ≡ true) × (o ≡ Some x)
if_some true o x e = (refl, e)
if_some false o x e = absurd cc

-- who hears judges so of what is within its time, and of what is not
pub record Judges (judgement : Judgement) (within : Bool) : Type 0 where
  pub hearer : IsOfHearer judgement
  pub outside : within ≡ false → judgement ≡ Within → ⊥
  pub inside : within ≡ true → judgement ≡ Within

within_says : Judges Within true
within_says = record { hearer = tt; outside = λ e w. cc; inside = λ e. refl }

outside_says : Judges Outside false
outside_says = record { hearer = tt; outside = λ e w. cc; inside = λ e. cc }

-- the record by which a device heard this, and its judgement
pub record HearsThis (v : View) (device : DeviceId) (h : Happening) (hearing : Hearing) : Type 0 where
  pub judgement : Judgement
  pub judges : Judges judgement hearing.within
  pub hears : HearsBy v device hearing.channel hearing.frame.point.0 judgement h
  pub members : members_in h ≡ hearing.frame.members.0

-- a record by which a device hears a frame at a point, on the channel that is there
hears_on : (v : View) (device : DeviceId) (h : Happening) (hearing : Hearing) {judgement : Judgement} {within : Bool}
    (point : Units) (o : Option Channel) → Judges judgement within
    → ((channel : Channel) → o ≡ Some channel → HearsBy v device channel point.0 judgement h)
    → option_map (λ channel. heard_by channel h point within) o ≡ Some hearing → HearsThis v device h hearing
hears_on v device h hearing {judgement} {within} point o judges how e =
    let at = mapped (λ c. heard_by c h point within) o hearing e in
    subst (HearsThis v device h) at.2 (record { judgement = judgement; judges = judges; hears = how at.0 at.1; members = refl })

module _ (v : View) (device : DeviceId) (h : Happening) (hearing : Hearing) where
  -- what the record of a frame that came says
  from_afar : (other : DeviceId) (link : LinkId) (cause : ℕ) (point : Units) (judgement : Judgement) (within : Bool) → Judges judgement within
      → IsIn h v.records → h.note.body ≡ notes.Permanent other link cause point judgement
      → (if device.0 == other.0 then option_map (λ channel. heard_by channel h point within) (channel_of_link v.scenario.network link) else None) ≡ Some hearing
      → HearsThis v device h hearing
  from_afar other link cause point judgement within judges i same e =
      let both = if_some (device.0 == other.0) _ hearing e in
      let mine = same ∙ ap (λ d. notes.Permanent d link cause point judgement) (one_device device other both.0) in
      hears_on v device h hearing point (channel_of_link v.scenario.network link) judges
      (λ channel of. record { there = i; how = inl (link, cause, point, mine, of, refl) }) both.1

  -- what the record of a frame that was sent says
  from_itself : (other : DeviceId) (opened point : Units) (cycle : ℕ) (members : Members) (judgement : Judgement) (within : Bool) → Judges judgement within
      → IsIn h v.records → h.note.body ≡ notes.Compressed other opened point cycle members judgement
      → (if device.0 == other.0 then option_map (λ channel. heard_by channel h point within) (channel_of v.scenario.network device) else None) ≡ Some hearing
      → HearsThis v device h hearing
  from_itself other opened point cycle members judgement within judges i same e =
      let both = if_some (device.0 == other.0) _ hearing e in
      let mine = same ∙ ap (λ d. notes.Compressed d opened point cycle members judgement)
      (one_device device other both.0) in
      hears_on v device h hearing point (channel_of v.scenario.network device) judges
      (λ channel of. record { there = i; how = inr (opened, point, cycle, members, mine, of, refl) }) both.1

  pub hears_by : (body : NoteBody) → IsIn h v.records → h.note.body ≡ body → hearing_by v.scenario.network device h body ≡ Some hearing
      → HearsThis v device h hearing
  hears_by (notes.Permanent other link cause point Within) = from_afar other link cause point Within true within_says
  hears_by (notes.Permanent other link cause point Outside) = from_afar other link cause point Outside false outside_says
  hears_by (notes.Compressed other opened point cycle members Within) = from_itself other opened point cycle members Within true within_says
  hears_by (notes.Compressed other opened point cycle members Outside) = from_itself other opened point cycle members Outside false outside_says
  hears_by body = λ i same e. absurd cc

-- the best frame of a channel was heard
pub best_is_heard : {heard : List Hearing} {channel : Channel} {frame : HeardFrame} → IsBest heard channel frame
    → IsIn (within_on channel frame) heard
best_is_heard {channel} {frame} best =
    subst (IsIn (within_on channel frame)) (sym best.is_heard) (in_right (within_on channel frame) best.before (within_on channel frame ∷ best.after)
    (inl refl))

-- ---- what a device hears is a frame that a compression master sent: who hears

-- a judgement of one who hears is no role in a collection
role_not_heard : (j : Judgement) (t : Taken) → IsOfHearer j → ripe_as j ≡ ripe_by_role t → ⊥
role_not_heard Within taken.Opened h e = absurd cc
role_not_heard Within t h e = absurd cc
role_not_heard Outside taken.Opened h e = absurd cc
role_not_heard Outside t h e = absurd cc
role_not_heard Integrates taken.Opened h e = absurd cc
role_not_heard Integrates t h e = absurd cc
role_not_heard other t h e = absurd h

drop_not_heard : (j : Judgement) (reason : Reason) → IsOfHearer j → ripe_as j ≡ ripe.Dropped reason → ⊥
drop_not_heard Within reason h e = absurd cc
drop_not_heard Outside reason h e = absurd cc
drop_not_heard Integrates reason h e = absurd cc
drop_not_heard other reason h e = absurd h

not_collected : (n : Network) (points : List Point) (point : Point) (fault : Option Reason) (j : Judgement) → IsOfHearer j
    → IsCollectedOrDropped n points point fault (ripe_as j) → ⊥
not_collected n points point (Some reason) j h e = drop_not_heard j reason h e
not_collected n points point None j h so = role_not_heard j so.taken h so.becomes

-- a device that hears is no compression master
pub hearer_not_cm : (n : Network) (device : DeviceId) (state : _) (adjustment : ℤ) (points : List Point) (frame : Pcf) (point : ℤ) (j : Judgement)
    → IsOfHearer j → IsPermanenceOutcome n device state adjustment points frame point (ripe_as j) → is_cm n device ≡ false
hearer_not_cm n device state adjustment points frame point j h so =
    false_from_ne_true (is_cm n device) (λ at. not_collected n points _ _ j h (MatchBool-at_true _ _ at so))

-- a switch that is no compression master is a relay
switch_is_relay : (role : Role) → is_cm_role role ≡ false → is_end_system role ≡ false → is_relay_role role ≡ true
switch_is_relay Relay a b = refl
switch_is_relay role a b = absurd cc

-- so it receives on a way down
hearer_down : {v : View} (device : DeviceId) (link : LinkId) → IsView v → is_cm v.scenario.network device ≡ false
    → waits_for v.scenario.network device link ≡ true → way_to v.scenario.network device link ≡ Down
hearer_down {v} device link is cm waits =
    rw (false_from_ne_true (is_parent_of v.scenario.network device link) (λ parent.
    let n = v.scenario.network in
    let l = passed (λ k. k.parent.0 == device.0) (link_at n link) parent in
    let same : l.0.parent ≡ device = ap (λ i. let d : DeviceId = record { 0 = i } in d)
    (eqb-true l.0.parent.0 device.0 l.2) in
    let joint = is.lawful.rules Joints link.0 l.0 l.1 in
    let p = opened (λ d. d.channel ≡ Some joint.0) (device_at n l.0.parent) joint.1 in
    let known = all_at IsDeviceInRange n.device l.0.parent.0 p.0 is.lawful.range.devices p.1 in
    let dev : device_at n device ≡ Some p.0 = ap (device_at n) (sym same) ∙ p.1 in
    let cm_p = sym (rw dev) ∙ cm in
    let not_end = not-true (is_end_system p.0.role) (sym known.switches ∙ (rw p.2)) in
    let relay = ap (λ o. option_map_or (λ d. is_relay_role d.role) o false) dev ∙ switch_is_relay p.0.role cm_p
    not_end in
    let wrong : waits_for n device link ≡ false = rw (relay, parent) refl in
    both_ways (waits_for n device link) wrong waits))

-- ---- what is heard

expected_is : {v : View} (device : DeviceId) (b : Bool) → IsView v → is_cm v.scenario.network device ≡ b
    → expected_by v.scenario.network device ≡ (if b then v.sizes.dmax + v.sizes.compression else expectation v.sizes)
expected_is device b is cm = grind (arith, amount, compression_time, expectation)

pub hearings_are_of_frames : HearingsAreOfFrames
hearings_are_of_frames v device channel point judgement h is hearer hears = elim hears.how [
  | inl far ↦
      let cause = far.1 in
      let found = founded_at v.scenario v.records h is.run.founded hears.there in
      let ripens = subst (IsCaused v.scenario found.front h.note.time) far.3 found.due.cause in
      let p = ripens.permanent in
      let in_all : IsIn p.arrival v.records = subst (IsIn p.arrival) (sym found.whole)
      (in_left p.arrival found.front (h ∷ found.rest) (numbered_in found.front cause p.arrival p.there)) in
      let not_cm = hearer_not_cm v.scenario.network device _ _ _ ripens.frame far.2.0 judgement hearer ripens.becomes in
      let down = hearer_down device far.0 is not_cm p.waits in
      let from_cm = frames_down_are_of_cms v p.arrival device far.0 p.from p.clock is in_all p.arrived down in
      let framed : h.frame ≡ p.arrival.frame = ap (λ x. x.frame) found.due.same ∙ ap
      (frame_by v.scenario.network found.front) far.3
      ∙ ap (λ o. option_and_then (λ x. x.frame) o) p.there in
      let by_h : cause_of h.note.body ≡ cause = ap cause_of far.3 in
      let there_all : numbered v.records (cause_of h.note.body) ≡ Some p.arrival =
      rw (sym by_h) at (rw (sym found.whole) at (numbered_front found.front (h ∷ found.rest) cause _ p.there)) in
      let earlier_arrival = (before_of is found).only p.arrival (numbered_in found.front cause p.arrival p.there) in (
        from_cm.first,
        record {
          cm = from_cm.cm;
          emission = rw (sym framed) at from_cm.emission;
          of_channel = sym (from_cm.same_channel device far.0 p.from p.clock p.arrived) ∙ far.4;
          hears = inr (record {
            ripe = h;
            there = hears.there;
            link = far.0;
            cause = cause;
            at = far.2;
            verdict = judgement;
            is = far.3;
            down = down;
            back = record { causes = p.arrival ∷ from_cm.back.causes; chain = (there_all, from_cm.back.chain); begins = from_cm.back.begins };
            ripe_at = refl;
            reading = far.5;
            due = expected_is device false is not_cm;
          });
        },
        (omega (arith, from_cm.in_order)),
      )
  | inr own ↦
      let found = founded_at v.scenario v.records h is.run.founded hears.there in
      let emits = subst (IsCaused v.scenario found.front h.note.time) own.4 found.due.cause in
      let shown = emission_shows h device own.0 own.1 own.2 own.3 judgement is hears.there own.4 in (
        h,
        record {
          cm = device;
          emission = record {
            there = hears.there;
            opened = own.0;
            at = own.1;
            verdict = judgement;
            is = own.4
                ∙ ap (λ c. notes.Compressed device own.0 own.1 c own.3 judgement) shown.0
                ∙ ap (λ m. notes.Compressed device own.0 own.1 (cycle_in h) (record { 0 = m }) judgement) shown.1;
          };
          of_channel = own.5;
          hears = inl (record { same = refl; at_once = refl; reading = own.6; due = expected_is device true is emits.cm });
        },
        omega arith,
      )
]
