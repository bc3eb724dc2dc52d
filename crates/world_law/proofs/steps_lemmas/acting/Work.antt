-- A device that has something due at the present instant is at work, before it acts and after.
use Rattle.run_law.specs.{machines.Answers.{after_emission, hearings}, records.Frames.integration_frame}
use Rattle.run_law.specs.{scenario.Devices.channel_of, timed.Dispatching.Sends}
use Rattle.sync_state.specs.membership.Summary.{Summarizes}
use Rattle.tte_units.proofs.general_lemmas.Bools.{kept_flag}
use Rattle.world_law.{specs.source.Sources.IsAtCorrection}
use Rattle.world_law.proofs.{acts.{Acting.done_more, Dues.same_standing}, devices.Standing.{IsQuiet, quiet_joins}}
use Rattle.world_law.proofs.{putting.Near.placed_back}
use Rattle.world_law.proofs.steps_lemmas.Words
use Words.{if◌then◌else◌, ◌&&◌, ◌++◌, ◌+◌, ◌||◌, ◌∙◌, ◌∷◌, ◌≡◌, ◌≤ℤ◌, ◌≤◌, ◌⊎◌, Bool, Channel, ClockTask, ComesTo}
use Words.{ComesToCorrection, Compressed, Contains-append_left, Contains-push_cases, DeviceId, Emits, Happening}
use Words.{HasDoneFrom, HasSentFrom, HasTaskBy, Hearing, Integrating, IsAlike, IsAtRest, IsIn, IsLeft, IsPending}
use Words.{IsReadyAt, IsUndone, Judgement, List, Moment, Network, Node, None, Option, Pcf, Reaches, Scenario, Some}
use Words.{Summary, Units, Verdict, [], acting, adjustment_after, adjustment_at_hearing, adjustment_before, and_right}
use Words.{ap, append-nil, append_assoc, arith, behind_no, by_last, called, cases_lt, changed_at, changed_before}
use Words.{changes_adjustment, cleared_in, cons_option, correcting, doing, earlier, earlier_still, emitting, false}
use Words.{filter, filter_map, filter_map-append, filter_yes, has_joined_at, heard_as, heard_since, hearing_by, in_left}
use Words.{in_parts, in_right, inl, inr, integration_cycle, ints, is_broken, is_joined_by, is_timed, is_turned_on_at}
use Words.{le-ltb, list_any, local_in, lt-ltb, moves, nat_lt, never_both, next_in, not, observation_window, option_map}
use Words.{option_map_or, option_to_list, or_left, or_none, plan_of, point_number, points_of, points_same, pos}
use Words.{quiet_rest, rank, reaches_back, reading_for, recorded_cycle, refl, ripe_as, same_before, same_kept, self}
use Words.{sending, since_at, state_after, state_at_hearing, state_before, subst, sym, time_of, true, undone_alike}
use Words.{up_back, value_of, waiting_alike, with_done, ℕ}
use Rattle.run_law.specs.declared.judgement.Judgement.TheVariants as judgements
use Rattle.run_law.specs.declared.note.NoteBody.TheVariants as kinds

-- ---- a device that has something due at the present instant: how it stands before it acts, and what is due then

-- Records of the present instant that do not move a device leave it as it was before the instant, but for what it has heard.

-- ---- what is heard at an instant

-- what the device hears by these records
abbrev pub heard_by_these : Scenario → DeviceId → List Happening → List Hearing
heard_by_these s device zs = filter_map (λ h. hearing_by s.network device h h.note.body) zs

maps_on : {X Y : Type 0} (f : X → Option Y) (xs : List X) (x : X) → filter_map f (xs ++ x ∷ []) ≡ filter_map f xs ++ filter_map f (x ∷ [])
maps_on f xs x = filter_map-append f xs (x ∷ [])

one_heard : (s : Scenario) (hs : List Happening) (device : DeviceId) (t : ℕ) (h : Happening) → time_of h ≡ t
    → heard_since s (hs ++ h ∷ []) device t ≡ heard_since s hs device t ++ heard_by_these s device (h ∷ [])
one_heard s hs device t h at =
    let le : t ≤ time_of h = omega arith in
    let w = earlier t hs in
    let late : (nat_lt (time_of h) t && changes_adjustment device h.note.body) ≡ false = rw (le-ltb (time_of h) t le) in
    let k = λ (g : Happening). not (cleared_in s device w t) || cleared_in s device w (time_of g) in
    let f = λ (g : Happening). hearing_by s.network device g g.note.body in
    rw (same_before t hs h le)
    (rw (behind_no (λ g. nat_lt (time_of g) t && changes_adjustment device g.note.body) hs h late)
    (ap (filter_map f) (filter_yes k (since_at device t hs) h (rw at (kept_flag (cleared_in s device w t))))
    ∙ maps_on f (filter k (since_at device t hs)) h))

append_all : (a b c : List Hearing) → (a ++ b) ++ c ≡ a ++ (b ++ c)
append_all a b c = append_assoc a b c

-- records of the instant are heard behind those before
pub heard_more : (s : Scenario) (hs : List Happening) (device : DeviceId) (t : ℕ) (zs : List Happening) → ((z : Happening) → IsIn z zs → time_of z ≡ t)
    → heard_since s (hs ++ zs) device t ≡ heard_since s hs device t ++ heard_by_these s device zs
heard_more s hs device t zs =
    by_last (λ l. ((z : Happening) → IsIn z l → time_of z ≡ t)
    → heard_since s (hs ++ l) device t ≡ heard_since s hs device t ++ heard_by_these s device l)
    (λ of. rw (append-nil hs) (sym (append-nil (heard_since s hs device t))))
    (λ l z same of.
    rw (sym (append_assoc hs l (z ∷ [])))
    (one_heard s (hs ++ l) device t z (of z (in_right z l (z ∷ []) (inl refl)))
    ∙ (rw (same (λ y i. of y (in_left y l (z ∷ []) i)))
    (append_all (heard_since s hs device t) (heard_by_these s device l) (heard_by_these s device (z ∷ []))
    ∙ (rw (sym (maps_on (λ h. hearing_by s.network device h h.note.body) l z)))))))
    zs

by_option : (o : Option Hearing) (front back : List Hearing) → (o ≡ None) ⊎ (back ≡ []) → front ++ cons_option o back ≡ (front ++ back) ++ option_to_list o
by_option None front back either = sym (append-nil (front ++ back))
by_option (Some x) front back (inl e) = absurd cc
by_option (Some x) front back (inr e) =
    ap (λ l. front ++ x ∷ l) e
    ∙ ap (λ (l : List Hearing). l ++ x ∷ []) (sym (append-nil front) ∙ ap (λ (l : List Hearing). front ++ l) (sym e))

-- one more record between them, behind which none is heard, is heard behind all
pub heard_put : (s : Scenario) (hs front back : List Happening) (device : DeviceId) {t : ℕ} (w : Happening)
    → ((z : Happening) → IsIn z (front ++ back) → time_of z ≡ t) → time_of w ≡ t
    → (hearing_by s.network device w w.note.body ≡ None) ⊎ (heard_by_these s device back ≡ [])
    → heard_since s (hs ++ (front ++ w ∷ back)) device t ≡ heard_since s (hs ++ (front ++ back)) device t ++ option_to_list
    (hearing_by s.network device w w.note.body)
heard_put s hs front back device {t} w of at either =
    let f = λ (h : Happening). hearing_by s.network device h h.note.body in
    let all : (z : Happening) → IsIn z (front ++ w ∷ back) → time_of z ≡ t = λ z i. elim (in_parts z front (w ∷ back) i) [
      | inl one ↦ of z (in_left z front back one)
      | inr (inl e) ↦ ap time_of e ∙ at
      | inr (inr one) ↦ of z (in_right z front back one)
    ] in
    heard_more s hs device t (front ++ w ∷ back) all
    ∙ (rw (filter_map-append f front (w ∷ back)
    ∙ by_option (f w) (heard_by_these s device front) (heard_by_these s device back) either
    ∙ ap (λ l. l ++ option_to_list (f w)) (sym (filter_map-append f front back)))
    (sym (append_all (heard_since s hs device t) (heard_by_these s device (front ++ back)) (option_to_list (f w)))
    ∙ (rw (sym (heard_more s hs device t (front ++ back) of)))))

-- ---- how the device stands

-- a node that differs in nothing that is told by earlier records
pub record IsSameBut (node new : Node) : Type 0 where
  pub standing : new.standing ≡ node.standing
  pub broken : new.broken ≡ node.broken
  pub changed : new.changed ≡ node.changed
  pub points : new.points ≡ node.points

-- stands as it did, where the records differ only at the instant
pub left_now : {s : Scenario} {hs : List Happening} (gs : List Happening) {device : DeviceId} {now : ℕ}
    {node new : Node} → earlier now hs ≡ earlier now gs → IsSameBut node new
    → (is_timed node.standing.state ≡ true → new.heard ≡ heard_since s gs device now)
    → points_of hs device ≡ points_of gs device → IsLeft s hs device now node → IsLeft s gs device now new
left_now gs same but heard points left =
    grind (arith, is_timed, adjustment_after, integration_cycle, next_in, local_in, recorded_cycle, is_turned_on_at, state_after)

-- the points are the same with one more record between those of the instant
pub points_put : (s : Scenario) (hs front back : List Happening) (now : ℕ) (device : DeviceId) (w : Happening)
    → ((z : Happening) → IsIn z (front ++ back) → IsAtRest s device now z.note.body × (4 ≤ rank z.note.body)) → IsQuiet device w.note.body
    → 4 ≤ rank w.note.body → points_of (hs ++ (front ++ back)) device ≡ points_of (hs ++ (front ++ w ∷ back)) device
points_put s hs front back now device w rest quiet late =
    points_same (front ++ back) hs device (λ z i. let x = rest z i in (quiet_rest s device now z.note.body x.0, x.1))
    ∙ sym (points_same (front ++ w ∷ back) hs device (λ z i. elim (in_parts z front (w ∷ back) i) [
      | inl one ↦ let x = rest z (in_left z front back one) in (quiet_rest s device now z.note.body x.0, x.1)
      | inr (inl e) ↦ rw e (quiet, late)
      | inr (inr one) ↦ let x = rest z (in_right z front back one) in (quiet_rest s device now z.note.body x.0, x.1)
    ]))

-- how a device stands that acts at the instant and has not come to a correction at it, nor joined
pub record IsAtWork (s : Scenario) (hs coming : List Happening) (now : ℕ) (device : DeviceId) (node : Node) : Type 0 where
  pub left : IsLeft s (hs ++ coming) device now node
  pub done : HasDoneFrom s.network (s.reading device) device node (changed_at (hs ++ coming) device now) now (now + 1)
  pub sent : HasSentFrom s device node now (now + 1)
  pub ready : IsReadyAt (s.reading device) s.network device node now
  pub still : (h : Happening) → IsIn h (hs ++ coming) → time_of h ≡ now → IsAtRest s device now h.note.body
  pub past : (h : Happening) → IsIn h (hs ++ coming) → time_of h ≤ now
  pub of_now : (z : Happening) → IsIn z coming → (time_of z ≡ now) × (4 ≤ rank z.note.body)
  pub sound : is_broken s device now ≡ false

-- ---- from what is kept of it

-- the instant is not over for a device that has a task due at it
pub not_over : {s : Scenario} (hs : List Happening) {device : DeviceId} (now : ℕ) {high : ℕ} {node : Node}
    → HasDoneFrom s.network (s.reading device) device node (changed_at hs device (now + 1)) (now + 1) high
    → HasSentFrom s device node (now + 1) high → changed_at hs device (now + 1) ≤ now → HasTaskBy s device node now
    → ⊥
not_over hs now done sent le (emitting c, p, due) = never_both _ _ (sent.unsent c p.1 now (omega arith)) due
not_over hs now done sent le (doing deed, p, due) = never_both _ _ (done.undone deed p.1 now le (omega arith)) due

-- ---- what is due is caused

-- what the device has still to do, and at whose value its clock is, its clock reaches
pub reaches : {s : Scenario} {hs coming : List Happening} {now : ℕ} {device : DeviceId} {node : Node}
    {deed : ClockTask} → IsAtWork s hs coming now device node → IsUndone s.network device node deed
    → reading_for s.network node (doing deed) ≤ℤ pos (s.reading device now)
    → Reaches s (hs ++ coming) device (value_of s.network deed) now
reaches {s} {hs} {coming} {now} {device} {deed} w undone due =
    let le = changed_before (hs ++ coming) device now in
    record {
      below = rw w.left.counted.changed at undone.ahead;
      reach = record {
        from_on = omega (arith, ints);
        reached = rw w.left.counted.adjustment at due;
        not_before = λ x from lt.
            rw w.left.counted.adjustment at (w.done.undone deed undone x (omega (arith, ints)) (omega (arith, ints)));
      };
    }

-- records of the instant do not count for what a clock reaches at it
pub all_earlier : (s : Scenario) (hs coming other : List Happening) (now : ℕ) → ((z : Happening) → IsIn z coming → time_of z ≡ now)
    → ((z : Happening) → IsIn z other → time_of z ≡ now) → earlier now (hs ++ coming) ≡ earlier now (hs ++ other)
all_earlier s hs coming other now of also =
    earlier_still now hs coming (λ z i. omega arith) ∙ sym (earlier_still now hs other (λ z i. omega arith))

module _ {s : Scenario} {hs coming : List Happening} (other : List Happening) {now : ℕ} {device : DeviceId}
    {node : Node}
    (cycle : ℕ) where
  -- a master that has to send, sends
  pub sends : IsAtWork s hs coming now device node → ((z : Happening) → IsIn z other → time_of z ≡ now)
      → IsPending s.network device node (doing (sending cycle))
      → reading_for s.network node (doing (sending cycle)) ≤ℤ pos (s.reading device now)
      → Sends s (hs ++ other) device now cycle
  sends w also pending due =
      let same = all_earlier s hs coming other now (λ z i. (w.of_now z i).0) also in
      record {
        master = pending.1.own.0;
        up = up_back s (hs ++ coming) (hs ++ other) now device same
            (record { synchronised = sym w.left.state ∙ pending.1.own.1; correct = sym w.left.counted.broken ∙ pending.0 });
        begun = pending.1.own.2;
        reached = reaches_back s (hs ++ coming) (hs ++ other) now device same (reaches w pending.1 due);
      }

  -- ---- corrections

  -- a device that has its correction point before it is at it
  pub at_correction : IsAtWork s hs coming now device node → ((z : Happening) → IsIn z other → time_of z ≡ now)
      → IsPending s.network device node (doing (correcting cycle))
      → reading_for s.network node (doing (correcting cycle)) ≤ℤ pos (s.reading device now)
      → IsAtCorrection s (hs ++ other) now device cycle
  at_correction w also pending due =
      let same = all_earlier s hs coming other now (λ z i. (w.of_now z i).0) also in
      let timed = (point_number node.standing.state node.standing.number cycle pending.1.own).0 in
      let standing = same_standing w.left timed in
      record {
        next = rw same at (rw standing at pending.1.own);
        reached = reaches_back s (hs ++ coming) (hs ++ other) now device same (reaches w pending.1 due);
        correct = w.sound;
      }

  -- and it comes to what the device makes of it, by records by which it has heard the same
  pub comes : {heard : Summary} {verdict : Verdict} → IsAtWork s hs coming now device node
      → ((z : Happening) → IsIn z other → time_of z ≡ now)
      → heard_since s (hs ++ coming) device now ≡ heard_since s (hs ++ other) device now
      → IsPending s.network device node (doing (correcting cycle))
      → reading_for s.network node (doing (correcting cycle)) ≤ℤ pos (s.reading device now)
      → ComesTo node heard verdict → ComesToCorrection s (hs ++ other) device now cycle verdict
  comes {heard} {verdict} w also hears pending due to =
      let same = all_earlier s hs coming other now (λ z i. (w.of_now z i).0) also in
      let timed = (point_number node.standing.state node.standing.number cycle pending.1.own).0 in
      let at = at_correction w also pending due in
      record {
        next = at.next;
        reached = at.reached;
        correct = at.correct;
        summary = heard;
        heard = subst (Summarizes heard) (w.left.counted.heard timed ∙ hears) to.summary;
        comes = rw same at (rw (same_standing w.left timed) at to.verdict_is);
      }

-- ---- emissions

none_any : (p : Happening → Bool) (js : List Happening) → ((h : Happening) → IsIn h js → p h ≡ false) → list_any p js ≡ false
none_any p [] all = refl
none_any p (h ∷ js) all = rw (all h (inl refl)) (none_any p js (λ g i. all g (inr i)))

-- no frame tells the device the time at the instant
pub none_joined : (js : List Happening) (device : DeviceId) (now : ℕ)
    → ((h : Happening) → IsIn h js → time_of h ≡ now → is_joined_by device h.note.body ≡ false) → has_joined_at js device now ≡ false
none_joined js device now all = grind (arith, none_any, time_of, is_joined_by, cases_lt, and_right)

-- then the device hears as it stands before the instant
pub hears_state : (s : Scenario) (js : List Happening) (device : DeviceId) (now : ℕ)
    → ((h : Happening) → IsIn h js → time_of h ≡ now → is_joined_by device h.note.body ≡ false)
    → state_at_hearing s js device now ≡ state_before s js device now
hears_state s js device now all = rw (none_joined js device now all)

pub hears_adjustment : (s : Scenario) (js : List Happening) (device : DeviceId) (now : ℕ) → ((h : Happening) → IsIn h js → time_of h ≤ now)
    → ((h : Happening) → IsIn h js → time_of h ≡ now → is_joined_by device h.note.body ≡ false)
    → adjustment_at_hearing s js device now ≡ adjustment_before s js device now
hears_adjustment s js device now past all = grind (arith, adjustment_after, same_kept, nat_lt, time_of, is_joined_by, cases_lt, or_left, lt-ltb, or_none)

-- how it hears a frame of its own
abbrev pub own_judgement : Network → DeviceId → Node → Compressed → Judgement
own_judgement network device node sent =
    heard_as (plan_of network device) (observation_window network) node.standing.state node.standing.adjustment.0 sent.at.0 sent.cycle sent.members

-- a compression master that has to emit, emits, by the records given and a front of those to come
pub emits : {s : Scenario} {hs coming : List Happening} (front back : List Happening) {now : ℕ} {device : DeviceId}
    {node : Node} (sent : Compressed) → IsAtWork s hs coming now device node → coming ≡ front ++ back
    → IsPending s.network device node (emitting sent) → sent.at.0 ≤ℤ pos (s.reading device now)
    → Emits s (hs ++ front) device now sent (own_judgement s.network device node sent)
emits {s} {hs} {coming} front back {now} {device} {node} sent w e pending due =
    let inside : (h : Happening) → IsIn h (hs ++ front) → IsIn h (hs ++ coming) = λ h i.
    rw (append_assoc hs front back ∙ ap (λ (l : List Happening). hs ++ l) (sym e)) at (in_left h (hs ++ front) back
    i) in
    let behind_of : (z : Happening) → IsIn z back → IsIn z coming = λ z i. rw e (in_right z front back i) in
    let points : points_of (hs ++ coming) device ≡ points_of (hs ++ front) device =
    grind (arith, points_of, append_assoc, points_same, quiet_rest, in_right) in
    let same = all_earlier s hs coming front now (λ z i. (w.of_now z i).0)
    (λ z i. (w.of_now z (rw e (in_left z front back i))).0) in
    let joins : (h : Happening) → IsIn h (hs ++ front) → time_of h ≡ now → is_joined_by device h.note.body ≡ false = λ h i at.
    quiet_joins device h.note.body (quiet_rest s device now h.note.body (w.still h (inside h i) at)) in
    let state =
    w.left.state ∙ ap (λ l. if is_turned_on_at s device now then Integrating else state_after s l device) same
    ∙ sym (hears_state s (hs ++ front) device now joins) in
    let adjustment =
    w.left.counted.adjustment ∙ ap (λ l. adjustment_after s l device) same
    ∙ sym (hears_adjustment s (hs ++ front) device now (λ h i. w.past h (inside h i)) joins) in
    record {
      cm = pending.1.cm;
      correct = w.sound;
      clusters = pending.1.clusters;
      are = rw (w.left.points pending.1.cm ∙ points) at pending.1.are;
      cluster = pending.1.cluster;
      there = pending.1.there;
      is = pending.1.is;
      reached = record {
        from_on = omega (arith, ints);
        reached = due;
        not_before =
            λ x from lt. w.sent.unsent sent pending.1 x (omega (arith, ints));
      };
      heard = grind (arith, heard_as, plan_of, observation_window, state_at_hearing);
    }

-- ---- a device that has acted, and has more to do at the instant, is at work still: the record is put in

-- it is of the instant, and stands behind the frames that are heard, or is the device's own
pub record IsPutAs (now : ℕ) (w : Happening) : Type 0 where
  pub at : time_of w ≡ now
  pub late : 4 ≤ rank w.note.body

module _ {s : Scenario} {hs : List Happening} (front back : List Happening) {now : ℕ} {device : DeviceId} {node : Node}
  where
    pub put_now : {w : Happening} → IsAtWork s hs (front ++ back) now device node → IsPutAs now w → (z : Happening)
        → IsIn z (front ++ w ∷ back) → (time_of z ≡ now) × (4 ≤ rank z.note.body)
    put_now {w} work p z i = elim (placed_back [] front back w z i) [
      | inl e ↦ rw e (p.at, p.late)
      | inr was ↦ work.of_now z was
    ]

    pub earlier_put : {w : Happening} → IsAtWork s hs (front ++ back) now device node → IsPutAs now w
        → earlier now (hs ++ (front ++ back)) ≡ earlier now (hs ++ (front ++ w ∷ back))
    earlier_put {w} work p =
        all_earlier s hs (front ++ back) (front ++ w ∷ back) now (λ z i. (work.of_now z i).0)
        (λ z i. (put_now work p z i).0)

    pub left_on : {after : Node} {w : Happening} → IsAtWork s hs (front ++ back) now device node → IsPutAs now w
        → IsSameBut node after → moves device w.note.body ≡ false
        → after.heard ≡ node.heard ++ option_to_list (hearing_by s.network device w w.note.body)
        → (hearing_by s.network device w w.note.body ≡ None) ⊎ (heard_by_these s device back ≡ [])
        → IsLeft s (hs ++ (front ++ w ∷ back)) device now after
    left_on {w} work p but still heard either =
        let same = earlier_put work p in
        let put =
        heard_put s hs front back device w (λ z i. (work.of_now z i).0) p.at either in
        left_now (hs ++ (front ++ w ∷ back)) same but
        (λ timed. heard ∙ (rw (work.left.counted.heard timed) (sym put)))
        (points_put s hs front back now device w (λ z i. let x = work.of_now z i in
        (work.still z (in_right z hs (front ++ back) i) x.0, x.1)) (inl still) p.late)
        work.left

    -- what the device has done and sent since, and its readiness, given apart
    pub goes_on : {after : Node} {w : Happening} → IsAtWork s hs (front ++ back) now device node → IsPutAs now w
        → IsLeft s (hs ++ (front ++ w ∷ back)) device now after → moves device w.note.body ≡ false
        → HasDoneFrom s.network (s.reading device) device after (changed_at (hs ++ (front ++ back)) device now) now
        (now + 1) → HasSentFrom s device after now (now + 1) → IsReadyAt (s.reading device) s.network device after now
        → IsAtWork s hs (front ++ w ∷ back) now device after
    goes_on {after} {w} work p left still done sent ready =
        record {
          left = left;
          done = rw (earlier_put work p) at done;
          sent = sent;
          ready = ready;
          still = λ h i at. elim (placed_back hs front back w h i) [
            | inl e ↦ inl (rw e still)
            | inr was ↦ work.still h was at
          ];
          past = λ h i. elim (placed_back hs front back w h i) [
            | inl e ↦ let here : time_of h ≡ time_of w = ap time_of e in let at = p.at in omega arith
            | inr was ↦ work.past h was
          ];
          of_now = put_now work p;
          sound = work.sound;
        }

-- ---- a deed is done

pub does : {network : Network} {reading : ℕ → ℕ} {device : DeviceId} {node : Node} {changed t : ℕ} (moment : Moment)
    (deed : ClockTask) → HasDoneFrom network reading device node changed t (t + 1) → changed ≤ t
    → reading_for network node (doing deed) ≤ℤ pos (reading t)
    → HasDoneFrom network reading device (called moment acting (with_done node deed)) changed t (t + 1)
does {network} {reading} {device} {node} {t} moment deed has le due = record {
  undone = λ other u x from lt. has.undone other
      (undone_alike network device node (called moment acting (with_done node deed)) (done_more node moment deed) u)
      x from lt;
  done = λ other there.
      elim (Contains-push_cases node.done deed other there) [
        | inl old ↦ has.done other old
        | inr e ↦ (t, le, omega arith, rw e at due)
      ];
}

pub sent_alike : {s : Scenario} {device : DeviceId} {node : Node} (after : Node) {low high : ℕ}
    → after.points ≡ node.points → after.emitted ≡ node.emitted → HasSentFrom s device node low high
    → HasSentFrom s device after low high
sent_alike {s} {device} {node} after points emitted has = record {
  unsent = λ c u x lt. has.unsent c (waiting_alike s.network device node after points
      (λ d there. rw emitted there) u) x lt;
  sent = λ c there. has.sent c (rw emitted at there);
}

-- it sends: how it stands
pub sends_on : {s : Scenario} {hs : List Happening} (front back : List Happening) {now : ℕ} {device : DeviceId}
    {node : Node} {w : Happening} (cycle : ℕ) (moment : Moment) → IsAtWork s hs (front ++ back) now device node
    → IsPutAs now w → w.note.body ≡ kinds.Sent device cycle
    → reading_for s.network node (doing (sending cycle)) ≤ℤ pos (s.reading device now)
    → IsReadyAt (s.reading device) s.network device (called moment acting (with_done node (sending cycle))) now
    → IsAtWork s hs (front ++ w ∷ back) now device (called moment acting (with_done node (sending cycle)))
sends_on {s} {hs} front back {now} {device} {node} {w} cycle moment work p e due ready =
    let after = called moment acting (with_done node (sending cycle)) in
    let none : hearing_by s.network device w w.note.body ≡ None = ap (hearing_by s.network device w) e in
    let still : moves device w.note.body ≡ false = ap (moves device) e in
    goes_on front back work p
    (left_on front back work p
    (record { standing = refl; broken = refl; changed = refl; points = refl }) still
    (sym (append-nil node.heard) ∙ ap (λ o. node.heard ++ option_to_list o) (sym none)) (inl none))
    still
    (does moment (sending cycle) work.done
    (changed_before (hs ++ (front ++ back)) device now) due) (sent_alike after refl refl work.sent) ready

-- A compression master that has emitted, and has not joined by its own frame, is at work still.

-- ---- what it hears of its own frame

-- the hearing of a frame, if it is one, by a channel, if there is one
abbrev heard_of : Option Channel → Units → Bool → Option Pcf → Option Hearing
heard_of channel point within frame =
    option_map (λ c. let h : Hearing = record {
      channel = c;
      frame = record {
        cycle = option_map_or (λ f. f.cycle) frame 0;
        members = record { 0 = option_map_or (λ f. f.members.0) frame 0 };
        point = point;
      };
      within = within;
    } in h) channel

module _ (network : Network) (device : DeviceId) (w : Happening) (sent : Compressed)
    (of_frame : w.frame ≡ Some (integration_frame network device sent.cycle sent.members)) where
  heard_within : option_to_list
      (hearing_by network device w (kinds.Compressed device sent.opened sent.at sent.cycle sent.members
      judgements.Within)) ≡ hearings (channel_of network device) sent.cycle sent.members sent.at true
  heard_within =
      rw (self device)
      (rw of_frame)

  heard_outside : option_to_list
      (hearing_by network device w (kinds.Compressed device sent.opened sent.at sent.cycle sent.members
      judgements.Outside)) ≡ hearings (channel_of network device) sent.cycle sent.members sent.at false
  heard_outside =
      rw (self device)
      (rw of_frame)

pub none_heard : (s : Scenario) (device : DeviceId) (zs : List Happening) → ((z : Happening) → IsIn z zs → hearing_by s.network device z z.note.body ≡ None)
    → heard_by_these s device zs ≡ []
none_heard s device [] all = refl
none_heard s device (z ∷ zs) all =
    rw (all z (inl refl)) (none_heard s device zs (λ y i. all y (inr i)))

-- ---- an emission, by which it does not join

-- the device stays as it is but for what it hears
abbrev pub StaysBy : Judgement → Type 0
StaysBy judgements.Within = Unit {0}
StaysBy judgements.Outside = Unit {0}
StaysBy judgements.Ignored = Unit {0}
StaysBy other = ⊥

-- the device after it
abbrev pub node_emitted : Network → DeviceId → Node → Moment → Compressed → Judgement → Node
node_emitted network device node moment sent v = called moment acting (after_emission network device node moment sent (ripe_as v))

-- what counts of it
pub record IsEmitted (network : Network) (device : DeviceId) (node after : Node) (w : Happening) (sent : Compressed) : Type 0 where
  pub but : IsSameBut node after
  pub done : after.done ≡ node.done
  pub taken : after.taken ≡ node.taken
  pub emitted : after.emitted ≡ node.emitted ++ sent ∷ []
  pub heard : after.heard ≡ node.heard ++ option_to_list (hearing_by network device w w.note.body)
  pub still : moves device w.note.body ≡ false

module _ (network : Network) (device : DeviceId) (node : Node) where
  pub is_emitted : (moment : Moment) (w : Happening) (sent : Compressed) (v : Judgement) → StaysBy v
      → w.note.body ≡ kinds.Compressed device sent.opened sent.at sent.cycle sent.members v
      → w.frame ≡ Some (integration_frame network device sent.cycle sent.members)
      → IsEmitted network device node (node_emitted network device node moment sent v) w sent
  is_emitted moment w sent judgements.Within stays e of_frame =
      grind (arith, heard_within, option_to_list, hearing_by, moves)
  is_emitted moment w sent judgements.Outside stays e of_frame =
      grind (arith, heard_outside, option_to_list, hearing_by, moves)
  is_emitted moment w sent judgements.Ignored stays e of_frame =
      grind (arith, append-nil, option_to_list, hearing_by, moves)
  is_emitted moment w sent other stays e of_frame = absurd stays

  alike_by : {after : Node} {w : Happening} {sent : Compressed} → IsEmitted network device node after w sent
      → IsAlike node after
  alike_by x = grind arith

done_alike : {network : Network} {reading : ℕ → ℕ} {device : DeviceId} {node after : Node} {changed low high : ℕ}
    → IsAlike node after → after.done ≡ node.done → HasDoneFrom network reading device node changed low high
    → HasDoneFrom network reading device after changed low high
done_alike {network} {reading} {device} {node} {after} a done has = record {
  undone = λ deed u x from lt.
      rw a.standing (has.undone deed (undone_alike network device node after a u) x from lt);
  done = λ deed there.
      let x = has.done deed (rw done at there) in (
        x.0,
        x.1,
        x.2,
        rw a.standing x.3,
      );
}

-- it emits: how it stands
pub emits_on : {s : Scenario} {hs : List Happening} (front back : List Happening) {now : ℕ} {device : DeviceId}
    {node after : Node} {w : Happening} {sent : Compressed} → IsAtWork s hs (front ++ back) now device node
    → IsPutAs now w → IsEmitted s.network device node after w sent
    → ((z : Happening) → IsIn z back → hearing_by s.network device z z.note.body ≡ None)
    → sent.at.0 ≤ℤ pos (s.reading device now) → IsReadyAt (s.reading device) s.network device after now
    → IsAtWork s hs (front ++ w ∷ back) now device after
emits_on {s} {hs} front back {now} {device} {node} {after} {sent} work p x none due ready =
    goes_on front back work p
    (left_on front back work p x.but x.still x.heard (inr (none_heard s device back none))) x.still
    (done_alike
    (alike_by s.network device node x) x.done work.done)
    (record {
      unsent = λ c u y lt. work.sent.unsent c
          (waiting_alike s.network device node after x.but.points
          (λ d there. rw x.emitted (Contains-append_left node.emitted (sent ∷ []) d there)) u) y lt;
      sent = λ c there. elim (Contains-push_cases node.emitted sent c (rw x.emitted at there)) [
        | inl old ↦ work.sent.sent c old
        | inr e ↦ (now, omega arith, rw e at due)
      ];
    }) ready
