-- Records are put in at their places among what is to come, and have their numbers once given.
use Rattle.net_plan.specs.declared.event.What.TheVariants.{End}
use Rattle.run_law.specs.records.Happenings.{happening}
use Rattle.world_law.{specs.{device.Plain.with_number, world.{Moves.{IsPutIn, settled_as}, World.IsDueAs}}}
use Rattle.world_law.proofs.{devices.Standing.{heard_plain, plains_parts, points_plain}, giving.GivenParts.up_to_place}
use Rattle.world_law.proofs.{runs.Worlds.{AreSettled, at_least, earlier_still, numbered_parts, own_here}}
use Rattle.world_law.proofs.putting.{Idle.{drop_one, numbered_prefix}}
use Rattle.world_law.proofs.putting.Near.{AreFrom, AreNear, AsFollower, IsAsideOf, IsPlaced, IsThere, caused_near}
use Rattle.world_law.proofs.putting.Near.{changes_given, due_aside, follower_or_not, happening_alike, hears, in_placed}
use Rattle.world_law.proofs.putting.Near.{is_follower, is_following, known_near, near_back, not_is, own_aside, own_near}
use Rattle.world_law.proofs.putting.Near.{own_source, two_placed}
use Rattle.world_law.proofs.Words
use Words.{◌++◌, ◌+◌, ◌<◌, ◌∙◌, ◌∷◌, ◌≡◌, ◌≤◌, ◌⊎◌, AllBefore, ChangesState, DeviceId, Happening, IsBefore, IsCaused}
use Words.{IsDue, IsForward, IsFounded, IsIn, IsOwnSource, IsSource, LinkId, List, Network, NoneBefore, Note, NoteBody}
use Words.{Option, Pcf, Scenario, Some, State, Units, VlId, Why, [], amount, ap, append_assoc, arith, bears_on}
use Words.{before_behind, behind, both_ways, cases_Bool, cases_order, cause_of, chain, either_way, eqb-true, false}
use Words.{in_left, in_parts, in_right, inl, inr, ints, is_at_source, is_before, is_joined_by, is_taken_before, key}
use Words.{length, length-append, members_in, never_self, numbered, numbered_within, parted, place_of, plain, plains}
use Words.{rank, refl, rows_place, slice_get, subst, suc, sym, time_of, true, units_of, zero, ℕ}
use Rattle.world_law.proofs.putting.{Moving.{IsAllOfIt, IsMoving, not_far, off_source, stays}}
use Rattle.world_law.proofs.putting.{Numberless.{hearing_adjustment_plain, hearing_state_plain, last_taken_plain}}
use Rattle.world_law.proofs.putting.{PutIn.{own_time, split_three, split_two}}
use Rattle.world_law.proofs.runs.{TaskPlaces.second}
use Rattle.run_law.specs.declared.judgement.Why.TheVariants as whys
use Rattle.run_law.specs.declared.note.NoteBody.TheVariants as notes

-- ---- a record has its number once it is given: what is due of the others does not rest on that

-- the two are one record, but for the number
abbrev pub AreOne : Happening → Happening → Type 0
AreOne z g = with_number 0 z ≡ with_number 0 g

same_body : (z g : Happening) → AreOne z g → z.note.body ≡ g.note.body
same_body z g one = ap (λ h. h.note.body) one

same_time : (z g : Happening) → AreOne z g → time_of z ≡ time_of g
same_time z g one = ap time_of one

pub same_place : (z g : Happening) → AreOne z g → place_of z ≡ place_of g
same_place z g one = ap place_of one

plains_given : (hs f : List Happening) (z g : Happening) → AreOne z g → plains (hs ++ z ∷ f) ≡ plains (hs ++ g ∷ f)
plains_given hs f z g one =
    plains_parts hs (z ∷ f) ∙ (rw (ap plain one) (sym (plains_parts hs (g ∷ f))))

of_now : (f : List Happening) (z : Happening) {now : ℕ} → time_of z ≡ now
    → ((y : Happening) → IsIn y f → time_of y ≡ now) → (y : Happening) → IsIn y (z ∷ f)
    → now ≤ time_of y
of_now f z at others y (inl e) = let t : time_of y ≡ time_of z = ap time_of e in omega arith
of_now f z at others y (inr more) = omega arith

-- the records with the one and with the other tell the same of all up to its place; no record is put in
pub near_given : (s : Scenario) (hs f : List Happening) (z g : Happening) (now : ℕ) → AreOne z g → time_of z ≡ now
    → ((y : Happening) → IsIn y f → time_of y ≡ now)
    → AreNear s now (length hs) (place_of z) (notes.Event 0 End) (hs ++ z ∷ f) (hs ++ g ∷ f)
near_given s hs f z g now one at others =
    let js = hs ++ z ∷ f in
    let gs = hs ++ g ∷ f in
    let same = plains_given hs f z g one in
    let at_g = sym (same_time z g one) ∙ at in
    record {
      first = λ i le. numbered_prefix hs (z ∷ f) i le ∙ sym (numbered_prefix hs (g ∷ f) i le);
      before = earlier_still now hs (z ∷ f) (of_now f z at others) ∙ sym
          (earlier_still now hs (g ∷ f) (of_now f g at_g others));
      taken = λ device link cause vl under.
          sym (last_taken_plain js device now link cause vl) ∙ (rw same
          (last_taken_plain gs device now link cause vl));
      judged = λ device link cause frame point under.
          let p = now ∷ 3 ∷ device.0 ∷ amount point ∷ frame.members.0 ∷ link.0 ∷ cause ∷ [] in
          let not_z = not_is (place_of z) p under in
          drop_one (λ h. is_before (place_of h) p) hs f z not_z
          ∙ sym (drop_one (λ h. is_before (place_of h) p) hs f g (ap (λ q. is_before q p) (sym (same_place z g one)) ∙ not_z));
      hearing = λ device misses. record {
        heard = sym (heard_plain s js device now) ∙ (rw same (heard_plain s gs device now));
        points = sym (points_plain js device) ∙ (rw same (points_plain gs device));
        state =
            sym (hearing_state_plain s js device now) ∙ (rw same
            (hearing_state_plain s gs device now));
        adjustment =
            sym (hearing_adjustment_plain s js device now) ∙ (rw same
            (hearing_adjustment_plain s gs device now));
      };
    }

-- ---- what follows a record

-- the record of each number is the same, or the one in the place of the other
numbers_given : (hs f : List Happening) (z g : Happening) → AreOne z g → (cause : ℕ) (h : Happening) → numbered (hs ++ z ∷ f) cause ≡ Some h
    → IsThere (hs ++ g ∷ f) cause h
numbers_given hs f z g one zero h e = absurd cc
numbers_given [] f z g one (suc zero) h e =
    let is : z ≡ h = cc in
    (g, refl, sym (same_body z g one) ∙ (rw is), sym (same_time z g one) ∙ ap time_of is)
numbers_given [] f z g one (suc (suc i)) h e = (h, e, refl, refl)
numbers_given (x ∷ hs) f z g one (suc zero) h e = (h, e, refl, refl)
numbers_given (x ∷ hs) f z g one (suc (suc i)) h e = numbers_given hs f z g one (suc i) h e

own_follower : (s : Scenario) (js gs : List Happening) (t m : ℕ) (device : DeviceId) (state : State) (cause : ℕ) (why : Why) (p : List ℕ)
    → is_following why ≡ true → IsOwnSource s js t m (notes.State device state cause why) p → IsOwnSource s gs t m (notes.State device state cause why) p
own_follower s js gs t m device state cause whys.SyncClique p f o = grind arith
own_follower s js gs t m device state cause why p f o = grind arith

abbrev made : Note → Option Pcf → List ℕ → Happening
made note frame octets = record { note = note; frame = frame; octets = octets }

-- a change of state has no frame
follower_same : (network : Network) (js gs : List Happening) (note : Note) → AsFollower note.body → happening network js note ≡ happening network gs note
follower_same network js gs note f =
    search (arith, made)

-- ---- so what is due by the one is due by the other, and of the same source

-- it stands behind its source, which is not behind the record's place
pub record IsBehindIt (s : Scenario) (js : List Happening) (z y : Happening) (p : List ℕ) : Type 0 where
  pub at : time_of y ≡ time_of z
  pub not_there : is_at_source y.note.body ≡ false
  pub own : IsOwnSource s js (time_of y) (members_in y) y.note.body p
  pub under : IsBefore (place_of z) p → ⊥

module _ (s : Scenario) (hs f : List Happening) (z g : Happening) (one : AreOne z g) (forward : IsForward s) (given : IsFounded place_of (IsDue s) hs)
    (high : 2 ≤ rank z.note.body) (from : AreFrom (time_of z) (rank z.note.body) (z ∷ f)) where
  near_at : {t : ℕ} → t ≡ time_of z → AreNear s t (length hs) (place_of z) (notes.Event 0 End) (hs ++ z ∷ f)
      (hs ++ g ∷ f)
  near_at e =
      rw e (near_given s hs f z g (time_of z) one refl (λ y i. (from y (inr i)).0))

  few_given : {y : Happening} {p : List ℕ} → IsBehindIt s (hs ++ z ∷ f) z y p → IsDueAs s (hs ++ z ∷ f) y → is_follower y.note.body ≡ false
      → cause_of y.note.body ≤ length hs
  few_given {y} {p} b due plain =
      search (arith, known_near, rank, key)

  pub due_given : {y : Happening} {p : List ℕ} → IsBehindIt s (hs ++ z ∷ f) z y p → IsDueAs s (hs ++ z ∷ f) y → IsDueAs s (hs ++ g ∷ f) y
  due_given {y} {p} b due = elim (follower_or_not y.note.body) [
    | inr plain ↦
        let few = few_given b due plain in
        let near = near_at b.at in
        record {
          same = due.same ∙ happening_alike s.network (length hs) (hs ++ z ∷ f) (hs ++ g ∷ f) y.note near.first few;
          begun = due.begun;
          cause = caused_near (members_in y) y.note.time y.note.body p near
              b.not_there plain (λ device yes_it. refl) few b.own b.under due.cause;
        }
    | inl x ↦ record {
      same = due.same ∙ follower_same s.network (hs ++ z ∷ f) (hs ++ g ∷ f) y.note x;
      begun = due.begun;
      cause = rw x.is (changes_given s (hs ++ z ∷ f) (hs ++ g ∷ f) x.device (time_of y) x.state x.cause x.why
          (near_at b.at).before
          (numbers_given hs f z g one x.cause) x.following (rw x.is at due.cause));
    }
  ]

  pub own_given : {y : Happening} {p : List ℕ} → IsBehindIt s (hs ++ z ∷ f) z y p → IsDueAs s (hs ++ z ∷ f) y
      → IsOwnSource s (hs ++ g ∷ f) (time_of y) (members_in y) y.note.body p
  own_given {y} {p} b due = elim (follower_or_not y.note.body) [
    | inr plain ↦ own_near s (members_in y) y.note.body p
        (near_at b.at) (few_given b due plain) b.under b.own
    | inl x ↦ rw x.is (own_follower s (hs ++ z ∷ f) (hs ++ g ∷ f) (time_of y) (members_in y) x.device x.state x.cause
        x.why p x.following
        (rw x.is at b.own))
  ]

-- ---- a record is put in at its place among what is to come, and the change of state that follows it

-- Changes of state among records, and the number of a record put in.

-- the record is a change of state
pub record AsState (body : NoteBody) : Type 0 where
  pub device : DeviceId
  pub state : State
  pub cause : ℕ
  pub why : Why
  pub is : body ≡ notes.State device state cause why

-- a record of this rank is a change of state
pub seven : (body : NoteBody) → AsState body ⊎ (rank body ≡ 7 → ⊥)
seven (notes.State device state cause why) = inl (record { device = device; state = state; cause = cause; why = why; is = refl })
seven other = inr (λ e. omega arith)

get_here : (ps rest : List Happening) (w : Happening) → slice_get (ps ++ w ∷ rest) (length ps) ≡ Some w
get_here [] rest w = refl
get_here (h ∷ ps) rest w = get_here ps rest w

-- a record behind so many has the next number
pub numbered_here : (ps rest : List Happening) (w : Happening) → numbered (ps ++ w ∷ rest) (suc (length ps)) ≡ Some w
numbered_here ps rest w = get_here ps rest w

-- a record of this body that is to come, given those before it
abbrev pub record_of : Network → List Happening → List Happening → ℕ → NoteBody → Happening
record_of network hs front now body = settled_as network (hs ++ front) now body

-- the record is due where it is caused
pub due_of : (s : Scenario) (hs front : List Happening) (now : ℕ) (body : NoteBody) → IsCaused s (hs ++ front) (units_of now) body
    → IsDueAs s (hs ++ front) (record_of s.network hs front now body)
due_of s hs front now body cause = record { same = refl; begun = omega (arith, ints); cause = cause }

-- where its cause is given, it is that of those given
pub same_record : (network : Network) (hs front : List Happening) (now : ℕ) (body : NoteBody) → cause_of body ≤ length hs
    → record_of network hs front now body ≡ settled_as network hs now body
same_record network hs front now body few =
    search (arith, happening_alike, numbered_prefix)

-- one more is to come with it
pub put_length : (front back : List Happening) (w : Happening) → length (front ++ w ∷ back) ≡ length (front ++ back) + 1
put_length front back w = grind (arith, length-append, length)

-- the record stands at its place among what is to come
pub record IsShownPut (network : Network) (hs : List Happening) (now : ℕ) (body : NoteBody) (coming settled : List Happening) : Type 0 where
  pub front : List Happening
  pub back : List Happening
  pub parts : coming ≡ front ++ back
  pub before : AllBefore place_of front (place_of (record_of network hs front now body))
  pub none : NoneBefore place_of back (place_of (record_of network hs front now body))
  pub shows : settled ≡ front ++ record_of network hs front now body ∷ back

pub one_shown : (network : Network) (hs : List Happening) (now : ℕ) (body : NoteBody)
    {coming settled : List Happening} → cause_of body ≤ length hs
    → IsPutIn (settled_as network hs now body) coming settled → IsShownPut network hs now body coming settled
one_shown network hs now body few put =
    let same = same_record network hs put.front now body few in
    let place : place_of (settled_as network hs now body) ≡ place_of (record_of network hs put.front now body) = ap place_of (sym same) in
    record {
      front = put.front;
      back = put.back;
      parts = put.was;
      before = subst (AllBefore place_of put.front) place put.before;
      none = subst (NoneBefore place_of put.back) place put.none;
      shows = put.is ∙ (rw (sym same));
    }

-- ---- a record that comes first, and the change of state that follows it: its number is the next

abbrev pub change_of : Network → List Happening → ℕ → NoteBody → List Happening → DeviceId → State → Why → Happening
change_of network hs now body mid device state why =
    record_of network hs (record_of network hs [] now body ∷ mid) now (notes.State device state (length hs + 1) why)

-- the two among what is to come
abbrev pub pair_put : Network → List Happening → ℕ → NoteBody → List Happening → DeviceId → State → Why → List Happening
    → List Happening
pair_put network hs now body mid device state why back =
    record_of network hs [] now body ∷ (mid ++ change_of network hs now body mid device state why ∷ back)

-- the first stands before all that is to come, the change behind what is between
pub record IsShownPair (network : Network) (hs : List Happening) (now : ℕ) (body : NoteBody) (device : DeviceId) (state : State) (why : Why)
    (coming settled : List Happening) : Type 0 where
  pub first : NoneBefore place_of coming (place_of (record_of network hs [] now body))
  pub mid : List Happening
  pub back : List Happening
  pub parts : coming ≡ mid ++ back
  pub before : AllBefore place_of (record_of network hs [] now body ∷ mid)
      (place_of (change_of network hs now body mid device state why))
  pub none : NoneBefore place_of back (place_of (change_of network hs now body mid device state why))
  pub fresh : (y : Happening) → IsIn y back → place_of (change_of network hs now body mid device state why) ≡ place_of y
      → ⊥
  pub shows : settled ≡ pair_put network hs now body mid device state why back

first_of : (front back : List Happening) (p : List ℕ) → AllBefore place_of front p → ((z : Happening) → IsIn z (front ++ back) → IsBefore (place_of z) p → ⊥)
    → front ≡ []
first_of [] back p before above = refl
first_of (x ∷ front) back p before above = absurd (above x (inl refl) (before x (inl refl)))

-- what is put in first stands first where nothing to come is before it; and no change of the device has its number as its cause yet
pub two_shown : (network : Network) (hs : List Happening) (now : ℕ) (body : NoteBody) (device : DeviceId)
    (state : State) (why : Why) {coming put_one settled : List Happening} → cause_of body ≤ length hs → rank body < 7
    → ((z : Happening) → IsIn z coming → IsBefore (place_of z) (place_of (settled_as network hs now body)) → ⊥)
    → ((z : Happening) → IsIn z coming → (it : AsState z.note.body) → it.cause ≤ length hs)
    → IsPutIn (settled_as network hs now body) coming put_one
    → IsPutIn (settled_as network hs now (notes.State device state (length hs + 1) why)) put_one settled
    → IsShownPair network hs now body device state why coming settled
two_shown network hs now body device state why {coming} few low above sole put put2 =
    let same = same_record network hs [] now body few in
    let none_first = first_of put.front put.back (place_of (settled_as network hs now body)) put.before
    (λ z i. above z (rw put.was i)) in
    let rest = sym (put.was ∙ ap (λ l. l ++ put.back) none_first) in
    let one_is =
    sym (put.is ∙ ap (λ l. l ++ settled_as network hs now body ∷ put.back) none_first
    ∙ ap (λ h. h ∷ put.back) (sym same) ∙ ap (λ l. w ∷ l) rest) ∙ put2.was in
    let x = behind_it put2.front put2.back one_is put2.none in
    record {
      first = λ z i b. above z i (subst (λ q. IsBefore (place_of z) q) (ap place_of same) b);
      mid = x.0;
      back = put2.back;
      parts = x.2;
      before = rw x.1 at put2.before;
      none = put2.none;
      fresh = λ y there e.
          let of_rank : 7 ≡ rank y.note.body = ap second e in
          elim (seven y.note.body) [
            | inr none ↦ none (sym of_rank)
            | inl it ↦
                let places = e
                ∙ ap (λ b. time_of y ∷ rank b ∷ Rattle.run_law.specs.records.Ranks.key
                (Rattle.run_law.specs.records.Ranks.members_in y) b) it.is in
                let cause : length hs + 1 ≡ it.cause = cc in
                let most = sole y (rw x.2 (in_right y x.0 put2.back there)) it in
                omega arith
          ];
      shows = put2.is
          ∙ ap (λ l. l ++ settled_as network hs now (notes.State device state (length hs + 1) why)
          ∷ put2.back) x.1;
    }
  where
    w : Happening
    w = record_of network hs [] now body

    change_place : List ℕ
    change_place = now ∷ 7 ∷ device.0 ∷ (length hs + 1) ∷ []

    behind_it : (front back : List Happening) → w ∷ coming ≡ front ++ back → NoneBefore place_of back change_place
        → (mid : List Happening) × (front ≡ w ∷ mid) × (coming ≡ mid ++ back)
    behind_it [] back e none = absurd (none w (rw (sym e) (inl refl)) (inr (refl, inl low)))
    behind_it (x ∷ mid) back e none =
        let is : w ≡ x = cc in
        let rest : coming ≡ mid ++ back = cc in
        (mid, rw (sym is), rest)

-- ---- what is to come with a record put in at its place, whichever source of the instant it comes from

-- ---- no record stands before its own source

module _ (s : Scenario) (js : List Happening) (t m : ℕ) where
  -- for all kinds
  pub least_of_own : (body : NoteBody) (q : List ℕ) → IsOwnSource s js t m body q
      → IsBefore (t ∷ rank body ∷ key m body) q → ⊥
  least_of_own (notes.State device state cause whys.SyncClique) q o b = grind (arith, never_self)
  least_of_own other q o b = grind (arith, never_self)

  -- ---- what a device hears

  -- what a device hears at the instant bears, behind its source, only on what its own correction point brings
  pub hears_source : (device : DeviceId) (body : NoteBody) (p : List ℕ) → is_at_source body ≡ false
      → hears device body ≡ true → IsOwnSource s js t m body p → p ≡ t ∷ 6 ∷ device.0 ∷ []
  hears_source device (notes.State other state cause whys.SyncClique) p there e o =
      o.1 ∙ ap (λ (i : ℕ). t ∷ 6 ∷ i ∷ []) (sym (eqb-true device.0 other.0 e))
  hears_source device (notes.State other state cause whys.AsyncClique) p there e o =
      o.1 ∙ ap (λ (i : ℕ). t ∷ 6 ∷ i ∷ []) (sym (eqb-true device.0 other.0 e))
  hears_source device other p there e o = absurd cc

pub at_or_behind : (at q : List ℕ) → (IsBefore q at → ⊥) → (at ≡ q) ⊎ IsBefore at q
at_or_behind at q not = elim (either_way at q) [ inl lt ↦ inr lt | inr (inl e) ↦ inl e | inr (inr gt) ↦ absurd (not gt) ]

-- ---- what is to come, up to a source

-- the record comes from a source that is not behind this place
abbrev pub ComesUpTo : Scenario → List Happening → List ℕ → Happening → Type 0
ComesUpTo s js at y = (q : List ℕ) × IsOwnSource s js (time_of y) (members_in y) y.note.body q × IsSource s js q × (IsBefore q at ⊎ (q ≡ at))

abbrev pub IsFound : List Happening → Happening → Type 0
IsFound new y = (z : Happening) × IsIn z new × (place_of z ≡ place_of y)

-- what is to come is of the instant and not before the source at this place; each stands after those before it, is due
-- given them, and comes from a source that is before this one or is this one; and each that is due by a source before
-- this one is at its place, or is to be put in yet
pub record IsWell (s : Scenario) (hs coming : List Happening) (now r : ℕ) (more : List ℕ) (Yet : Happening → Type 0) : Type 0 where
  pub of_now : (z : Happening) → IsIn z coming → time_of z ≡ now
  pub after : (z : Happening) → IsIn z coming → IsBefore (place_of z) (now ∷ r ∷ more) → ⊥
  pub stands : (f rest : List Happening) (z : Happening) → coming ≡ f ++ z ∷ rest → AllBefore place_of f (place_of z) × IsDueAs s (hs ++ f) z
  pub by : (f rest : List Happening) (z : Happening) → coming ≡ f ++ z ∷ rest → ComesUpTo s (hs ++ f) (now ∷ r ∷ more) z
  pub full : (f rest : List Happening) (y : Happening) → coming ≡ f ++ rest → AllBefore place_of f (place_of y) → NoneBefore place_of rest (place_of y)
      → (IsBefore (place_of y) (now ∷ r ∷ more) → ⊥) → IsDueAs s (hs ++ f) y → time_of y ≡ now → (p : List ℕ)
      → IsOwnSource s (hs ++ f) (time_of y) (members_in y) y.note.body p → IsSource s (hs ++ f) p → IsBefore p (now ∷ r ∷ more) → IsFound coming y ⊎ Yet y

-- where the source comes first, what is to come is so
pub well_of : {s : Scenario} {hs coming : List Happening} {now r : ℕ} {more : List ℕ}
    → IsMoving s hs coming now r more → IsWell s hs coming now r more (λ y. ⊥)
well_of m =
    search arith

-- ---- a record that is put in

-- the record is due at its place among those to come, not before the source, and taken up; no arrival up to the source
-- comes after it; and it bears on no device whose correction point is before it, nor on one of which what that brings is to
-- come behind it
pub record IsPlacing (s : Scenario) (hs front back : List Happening) (now r : ℕ) (more : List ℕ) (w : Happening) : Type 0 where
  pub forward : IsForward s
  pub late : 2 ≤ r
  pub given : IsFounded place_of (IsDue s) hs
  pub at : time_of w ≡ now
  pub due : IsDueAs s (hs ++ front) w
  pub before : AllBefore place_of front (place_of w)
  pub none : NoneBefore place_of back (place_of w)
  pub fresh : (y : Happening) → IsIn y back → place_of w ≡ place_of y → ⊥
  pub least : IsBefore (place_of w) (now ∷ r ∷ more) → ⊥
  pub taken : ComesUpTo s (hs ++ front) (now ∷ r ∷ more) w
  pub takes : (device : DeviceId) (vl : VlId) (link : LinkId) (cause : ℕ) → (IsBefore (now ∷ r ∷ more) (now ∷ 2 ∷ device.0 ∷ link.0 ∷ cause ∷ []) → ⊥)
      → is_taken_before device vl now link cause (time_of w) w.note.body ≡ false
  pub apart : (device : DeviceId) → IsBefore (rows_place now device) (now ∷ r ∷ more) → bears_on device w.note.body ≡ false
  pub aside : (x : Happening) → IsIn x back → (device : DeviceId) → hears device x.note.body ≡ true → bears_on device w.note.body ≡ false

-- so many stand before it
abbrev pub before_it : List Happening → List Happening → ℕ
before_it hs front = length (hs ++ front)

-- what is behind it does not stand at a source up to this one
pub not_at_source : (s : Scenario) (js : List Happening) (now r : ℕ) (more : List ℕ) (w y : Happening) (q : List ℕ)
    → (IsBefore (place_of w) (now ∷ r ∷ more) → ⊥) → IsBefore (place_of w) (place_of y) → (IsBefore (now ∷ r ∷ more) q → ⊥)
    → IsOwnSource s js (time_of y) (members_in y) y.note.body q → is_at_source y.note.body ≡ false
not_at_source s js now r more w y q least over under own = elim (cases_Bool (is_at_source y.note.body)) [
  | inr no_it ↦ no_it
  | inl is ↦
      let here = own_here s js (time_of y) (members_in y) y.note.body q is own in
      let far : IsBefore (place_of w) q = rw here over in
      absurd (elim (at_or_behind (now ∷ r ∷ more) (place_of w) least) [
        | inl e ↦ under (rw e far)
        | inr lt ↦ under (chain (now ∷ r ∷ more) (place_of w) q lt far)
      ])
]

pub under_at : {at q : List ℕ} → IsBefore q at ⊎ (q ≡ at) → IsBefore at q → ⊥
under_at {at} {q} (inl yet) lt = never_self at (chain at q at lt yet)
under_at {at} (inr up) lt = never_self at (rw up at lt)

-- where the cause does not follow a record of the instant, it is given
few_at : {s : Scenario} (hs front zs : List Happening) {now : ℕ} (r : ℕ) (more : List ℕ) {y : Happening} (q : List ℕ)
    → IsForward s → 2 ≤ r → IsFounded place_of (IsDue s) hs → AreFrom now r zs → time_of y ≡ now
    → is_at_source y.note.body ≡ false → (IsBefore (now ∷ r ∷ more) q → ⊥)
    → IsOwnSource s (hs ++ zs) (time_of y) (members_in y) y.note.body q → IsDueAs s (hs ++ zs) y
    → is_follower y.note.body ≡ false → cause_of y.note.body ≤ before_it hs front
few_at hs front zs r more q forward late given from now_is not_there under own due plain =
    grind (arith, known_near, members_in, length-append)

joined_there : (device : DeviceId) (body : NoteBody) → is_joined_by device body ≡ true → is_at_source body ≡ true
joined_there device (notes.Permanent other link cause point verdict) e = refl
joined_there device (notes.Compressed other opened at cycle members verdict) e = refl
joined_there device other e = absurd cc

-- what a change of state follows is the record of an event, or stands at its source
change_cause : (s : Scenario) (js : List Happening) (device : DeviceId) (t : ℕ) (state : State) (cause : ℕ) (why : Why) → is_following why ≡ true
    → ChangesState s js device t state cause why → (h : Happening) × (numbered js cause ≡ Some h)
    × ((rank h.note.body ≡ 1) ⊎ (is_at_source h.note.body ≡ true))
change_cause s js device t state cause whys.On f c = (c.2.1, c.2.2.there, inl (ap rank c.2.3))
change_cause s js device t state cause whys.Frame f c = (c.1.0, c.1.1.there, inr (joined_there device c.1.0.note.body c.1.2))
change_cause s js device t state cause whys.Correction f c = (c.2.3, c.2.4.there, inr (ap is_at_source c.2.5))
change_cause s js device t state cause whys.SyncClique f c = absurd cc
change_cause s js device t state cause whys.AsyncClique f c = absurd cc

-- so it follows one of the first, where those behind are of no event and stand behind their sources
few_first : (s : Scenario) (ps zs : List Happening) (time : Units) {body : NoteBody}
    → ((h : Happening) → IsIn h zs → (2 ≤ rank h.note.body) × (is_at_source h.note.body ≡ false)) → AsFollower body
    → IsCaused s (ps ++ zs) time body → cause_of body ≤ length ps
few_first s ps zs time {body} late f c =
    let it = change_cause s (ps ++ zs) f.device (amount time) f.state f.cause f.why f.following (rw f.is at c)
    in
    let e : cause_of body ≡ f.cause = ap cause_of f.is in
    elim (numbered_parts ps zs it.0 f.cause it.1) [
      | inl old ↦ let lt = numbered_within ps f.cause it.0 old in omega arith
      | inr new ↦
          let at = late it.0 new in
          absurd (elim it.2 [ inl one ↦ let two = at.0 in omega arith | inr is ↦ both_ways _ at.1 is ])
    ]

-- a change of state that follows nothing has no cause
no_cause : (s : Scenario) (js : List Happening) (device : DeviceId) (t : ℕ) (state : State) (cause : ℕ) (why : Why) → is_following why ≡ false
    → ChangesState s js device t state cause why → cause ≡ 0
no_cause s js device t state cause whys.SyncClique f c = grind arith
no_cause s js device t state cause why f c = grind arith

-- so the causes of the changes of state that are to come before a turn are given
pub causes_given : {s : Scenario} {hs coming : List Happening} {now r : ℕ} {more : List ℕ}
    → IsMoving s hs coming now r more → 2 ≤ r → (z : Happening) → IsIn z coming → (it : AsState z.note.body) → it.cause ≤ length hs
causes_given {s} {hs} {coming} {now} {r} {more} m some z i it =
    let split = parted z coming i in
    let due = (m.are.founded split.0 split.1 z split.2).1 in
    let inside : (h : Happening) → IsIn h split.0 → IsIn h coming =
    λ h j. rw split.2 (in_left h split.0 (z ∷ split.1) j) in
    let late : (h : Happening) → IsIn h split.0 → (2 ≤ rank h.note.body) × (is_at_source h.note.body ≡ false) = λ h j.
    let low = at_least h now r more (m.are.of_now h (inside h j)) (m.are.after h (inside h j)) in
    (omega arith, off_source m h (inside h j)) in
    elim (follower_or_not z.note.body) [
      | inl f ↦
          let few = few_first s hs split.0 z.note.time late f due.cause in
          let e : cause_of z.note.body ≡ it.cause = ap cause_of it.is in omega arith
      | inr other ↦
          let none = no_cause s (hs ++ split.0) it.device (amount z.note.time) it.state it.cause it.why (ap is_follower (sym it.is) ∙ other)
          (subst (λ b. IsCaused s (hs ++ split.0) z.note.time b) it.is due.cause) in
          omega arith
    ]

follows_it : (body : NoteBody) (k : ℕ) → ((rank body ≡ 7) × (cause_of body ≡ k)) ⊎ (rank body ≡ 7 → cause_of body ≡ k → ⊥)
follows_it body k = grind (arith, cases_order, rank, cause_of)

pub all_from : {s : Scenario} {hs coming : List Happening} {now r : ℕ} {more : List ℕ} {Yet : Happening → Type 0}
    → IsWell s hs coming now r more Yet → AreFrom now r coming
all_from {now} {r} {more} well z i = (well.of_now z i, at_least z now r more (well.of_now z i) (well.after z i))

-- what was to be put in yet is found, or is to be put in still; and so is what follows the record that is put in
pub record IsCarried (s : Scenario) (hs front back : List Happening) (now : ℕ) (w : Happening) (Yet Then : Happening → Type 0) : Type 0 where
  pub same : (f rest : List Happening) (y : Happening) → front ≡ f ++ rest → IsDueAs s (hs ++ f) y → time_of y ≡ now → Yet y
      → IsFound (front ++ w ∷ back) y ⊎ Then y
  pub moved : (c d : List Happening) (y : Happening) → back ≡ c ++ d → IsDueAs s (hs ++ (front ++ w ∷ c)) y → time_of y ≡ now
      → (rank y.note.body ≡ 7 → cause_of y.note.body ≡ before_it hs front + 1 → ⊥) → Yet y → IsFound (front ++ w ∷ back) y ⊎ Then y
  pub new : (c d : List Happening) (y : Happening) → back ≡ c ++ d → IsDueAs s (hs ++ (front ++ w ∷ c)) y → time_of y ≡ now → rank y.note.body ≡ 7
      → cause_of y.note.body ≡ before_it hs front + 1 → IsFound (front ++ w ∷ back) y ⊎ Then y

module _ {s : Scenario} {hs front back : List Happening} {now r : ℕ} {more : List ℕ} {w : Happening} {Yet : Happening → Type 0}
    (well : IsWell s hs (front ++ back) now r more Yet) (p : IsPlacing s hs front back now r more w) where
  over_it : (y : Happening) → IsIn y back → IsBefore (place_of w) (place_of y)
  over_it y i =
      elim (either_way (place_of w) (place_of y)) [ inl lt ↦ lt | inr (inl e) ↦ absurd (p.fresh y i e) | inr (inr gt) ↦ absurd (p.none y i gt) ]

  -- the two lists, up to some of those behind it
  pub two_at : {t : ℕ} (c d : List Happening) → back ≡ c ++ d → t ≡ now
      → AreNear s t (before_it hs front) (now ∷ r ∷ more) w.note.body (hs ++ (front ++ c)) (hs ++ (front ++ w ∷ c))
  two_at c d e now_is =
      let n = before_it hs front in
      let at = now ∷ r ∷ more in
      let inside : (y : Happening) → IsIn y c → IsIn y back = λ y i. rw e (in_left y c d i) in
      let it : IsPlaced now at c w = record {
        now = p.at;
        of_time = λ y i. well.of_now y (in_right y front back (inside y i));
        over = λ y i. over_it y (inside y i);
        least = p.least;
        takes = p.takes;
      } in
      rw now_is (rw (append_assoc hs front c) at (rw (append_assoc hs front (w ∷ c)) at (two_placed s (hs ++ front)
      it)))

  -- each that is behind it is of no event, and stands behind its source
  late_back : (h : Happening) → IsIn h back → (2 ≤ rank h.note.body) × (is_at_source h.note.body ≡ false)
  late_back h i =
      search (arith, parted, all_from, in_right, not_at_source, over_it, under_at)

  -- a record to come behind it stands aside of it
  aside_back : (c d : List Happening) (x : Happening) → back ≡ c ++ x ∷ d → (by : ComesUpTo s (hs ++ (front ++ c)) (now ∷ r ∷ more) x)
      → IsDueAs s (hs ++ (front ++ c)) x → IsAsideOf s (hs ++ (front ++ c)) (before_it hs front) (now ∷ r ∷ more) w.note.body x.note.time
      (members_in x) x.note.body by.0
  aside_back c d x e by due =
      let here : IsIn x back = rw e (in_right x c (x ∷ d) (inl refl)) in
      let whole : front ++ back ≡ (front ++ c) ++ x ∷ d = rw e (sym (append_assoc front c (x ∷ d))) in
      let from : AreFrom now r (front ++ c) = λ z i. all_from well z
      (rw whole (in_left z (front ++ c) (x ∷ d) i)) in
      let not_there = (late_back x here).1 in
      record {
        not_there = not_there;
        free = p.aside x here;
        few = elim (follower_or_not x.note.body) [
          | inl f ↦ few_first s (hs ++ front) c x.note.time
              (λ h i. late_back h (rw e (in_left h c (x ∷ d) i))) f
              (rw (append_assoc hs front c) due.cause)
          | inr plain ↦ few_at hs front (front ++ c) r more by.0 p.forward p.late p.given from
              (well.of_now x (in_right x front back here)) not_there
              (under_at by.3) by.1 due plain
        ];
        own = by.1;
        under = under_at by.3;
      }

  -- all that is to come then is of the instant and not before the source
  put_from : (z : Happening) → IsIn z (front ++ w ∷ back) → (time_of z ≡ now) × (IsBefore (place_of z) (now ∷ r ∷ more) → ⊥)
  put_from z i =
      elim (in_parts z front (w ∷ back) i) [
        | inl f ↦ (well.of_now z (in_left z front back f), well.after z (in_left z front back f))
        | inr (inl e) ↦ rw e (p.at, p.least)
        | inr (inr b) ↦ (well.of_now z (in_right z front back b), well.after z (in_right z front back b))
      ]

  -- what is due behind it, by a source before this one, and does not follow it, stands aside of it
  aside_new : (c d : List Happening) (y : Happening) (q : List ℕ) → back ≡ c ++ d → IsBefore (place_of w) (place_of y) → time_of y ≡ now
      → IsBefore q (now ∷ r ∷ more) → IsOwnSource s (hs ++ (front ++ w ∷ c)) (time_of y) (members_in y) y.note.body q
      → (rank y.note.body ≡ 7 → cause_of y.note.body ≡ before_it hs front + 1 → ⊥) → IsDueAs s (hs ++ (front ++ w ∷ c)) y
      → IsAsideOf s (hs ++ (front ++ w ∷ c)) (before_it hs front) (now ∷ r ∷ more) w.note.body y.note.time (members_in y) y.note.body q
  aside_new c d y q e over now_is before own other due =
      let at = now ∷ r ∷ more in
      let js = hs ++ (front ++ w ∷ c) in
      let under : IsBefore at q → ⊥ = λ lt. never_self at (chain at q at lt before) in
      let not_there = not_at_source s js now r more w y q p.least over under own in
      let inside : (z : Happening) → IsIn z c → IsIn z back = λ z i. rw e (in_left z c d i) in
      let from : AreFrom now r (front ++ w ∷ c) = λ z i.
      let it = put_from z (elim (in_parts z front (w ∷ c) i) [
        | inl f ↦ in_left z front (w ∷ back) f
        | inr (inl same) ↦ in_right z front (w ∷ back) (inl same)
        | inr (inr b) ↦ in_right z front (w ∷ back) (inr (inside z b))
      ]) in
      (it.0, at_least z now r more it.0 it.1) in
      record {
        not_there = not_there;
        free = λ device yes_it.
            let act = hears_source s js (time_of y) (members_in y) device y.note.body q not_there yes_it own
            ∙ ap (λ (t : ℕ). t ∷ 6 ∷ device.0 ∷ []) now_is in
            p.apart device (rw act at before);
        few = elim (follower_or_not y.note.body) [
          | inr plain ↦ few_at hs front (front ++ w ∷ c) r more q p.forward p.late p.given from now_is not_there under
              own due plain
          | inl f ↦
              let ps = (hs ++ front) ++ w ∷ [] in
              let parts : js ≡ ps ++ c = sym (append_assoc hs front (w ∷ c)) ∙ sym (append_assoc (hs ++ front) (w ∷ []) c) in
              let most = few_first s ps c y.note.time (λ h i. late_back h (inside h i)) f
              (rw parts at due.cause) in
              let long = length-append (hs ++ front) (w ∷ []) in
              let one : length (w ∷ []) ≡ 1 = refl in
              elim (cases_order (cause_of y.note.body) (before_it hs front + 1)) [
                | inl same ↦ absurd (other (ap rank f.is) same)
                | inr (inl less) ↦ omega arith
                | inr (inr over_all) ↦ absurd (omega arith)
              ]
        ];
        own = own;
        under = under;
      }

  -- ---- each stands, and is taken up

  stands_put : (f rest : List Happening) (y : Happening) → front ++ w ∷ back ≡ f ++ y ∷ rest
      → AllBefore place_of f (place_of y) × IsDueAs s (hs ++ f) y × ComesUpTo s (hs ++ f) (now ∷ r ∷ more) y
  stands_put f rest y e =
      let at = now ∷ r ∷ more in
      elim (split_three front back w f rest y e) [
        | inl it ↦
            let whole = ap (λ (l : List Happening). l ++ back) it.1 ∙ append_assoc f (y ∷ it.0) back in
            let was = well.stands f (it.0 ++ back) y whole in
            (was.0, was.1, well.by f (it.0 ++ back) y whole)
        | inr (inl it) ↦
            subst (λ h. AllBefore place_of f (place_of h) × IsDueAs s (hs ++ f) h × ComesUpTo s (hs ++ f) at h) it.1
            (subst (λ l. AllBefore place_of l (place_of w) × IsDueAs s (hs ++ l) w × ComesUpTo s (hs ++ l) at w) it.0
            (p.before, p.due, p.taken))
        | inr (inr it) ↦
            let c = it.0 in
            let whole : front ++ back ≡ (front ++ c) ++ y ∷ rest = rw it.2 (sym (append_assoc front c (y ∷ rest))) in
            let was = well.stands (front ++ c) rest y whole in
            let by = well.by (front ++ c) rest y whole in
            let here : IsIn y back = rw it.2 (in_right y c (y ∷ rest) (inl refl)) in
            let two = two_at c (y ∷ rest) it.2 (well.of_now y (in_right y front back here)) in
            let aside = aside_back c rest y it.2 by was.1 in
            let due = due_aside two aside was.1 in
            let own = own_aside two aside in
            let source = own_source s (hs ++ (front ++ w ∷ c)) y.note.time (members_in y) y.note.body by.0 aside.not_there due.cause own in
            let all : AllBefore place_of (front ++ w ∷ c) (place_of y) = λ h i. elim (in_parts h front (w ∷ c) i) [
              | inl g ↦ was.0 h (in_left h front c g)
              | inr (inl same) ↦ rw same (over_it y here)
              | inr (inr b) ↦ was.0 h (in_right h front c b)
            ] in
            rw it.1 (all, due, (by.0, own, source, by.3))
      ]

  -- ---- and nothing else is due

  full_at : (Then : Happening → Type 0) → IsCarried s hs front back now w Yet Then → (f rest : List Happening) (y : Happening)
      → front ++ w ∷ back ≡ f ++ rest → AllBefore place_of f (place_of y) → NoneBefore place_of rest (place_of y) → (IsBefore (place_of y) (now ∷ r ∷ more) → ⊥)
      → IsDueAs s (hs ++ f) y → time_of y ≡ now → (q : List ℕ) → IsOwnSource s (hs ++ f) (time_of y) (members_in y) y.note.body q
      → IsSource s (hs ++ f) q → IsBefore q (now ∷ r ∷ more) → IsFound (front ++ w ∷ back) y ⊎ Then y
  full_at Then carry f rest y e before none not due now_is q own source under =
      let n = before_it hs front in
      elim (split_two front back w f rest e) [
        | inl it ↦
            let whole : front ++ back ≡ f ++ (it.0 ++ back) = rw it.1 (append_assoc f it.0 back) in
            let not_w : IsBefore (place_of w) (place_of y) → ⊥ = none w
            (rw it.2 (in_right w it.0 (w ∷ back) (inl refl))) in
            let least : NoneBefore place_of (it.0 ++ back) (place_of y) = λ h i. elim (in_parts h it.0 back i) [
              | inl g ↦ none h (rw it.2 (in_left h it.0 (w ∷ back) g))
              | inr b ↦ λ lt. not_w (chain (place_of w) (place_of h) (place_of y) (over_it h b) lt)
            ] in
            elim (well.full f (it.0 ++ back) y whole before least not due now_is q own source under) [
              | inr yet ↦ carry.same f it.0 y it.1 due now_is yet
              | inl found ↦ inl (found.0, in_placed front back w found.0 found.1, found.2)
            ]
        | inr it ↦
            let c = it.0 in
            let due_c = rw it.1 at due in
            let own_c = rw it.1 at own in
            let all : AllBefore place_of (front ++ w ∷ c) (place_of y) = rw it.1 at before in
            elim (follows_it y.note.body (n + 1)) [
              | inl it_follows ↦ carry.new c rest y it.2 due_c now_is it_follows.0 it_follows.1
              | inr other ↦
                  let over = all w (in_right w front (w ∷ c) (inl refl)) in
                  let two = near_back
                  (two_at c rest it.2 now_is) in
                  let aside = aside_new c rest y q it.2 over now_is under own_c other due_c in
                  let was = due_aside two aside due_c in
                  let from = own_aside two aside in
                  let src = own_source s (hs ++ (front ++ c)) y.note.time (members_in y) y.note.body q aside.not_there was.cause from in
                  let whole : front ++ back ≡ (front ++ c) ++ rest = rw it.2 (sym (append_assoc front c rest)) in
                  elim (well.full (front ++ c) rest y whole (λ h i. all h (in_placed front c w h i)) none not was now_is q from src under) [
                    | inr yet ↦ carry.moved c rest y it.2 due_c now_is other yet
                    | inl found ↦ inl (found.0, in_placed front back w found.0 found.1, found.2)
                  ]
            ]
      ]

  -- what is to come is well with the record put in
  pub placed_well : {Then : Happening → Type 0} → IsCarried s hs front back now w Yet Then → IsWell s hs (front ++ w ∷ back) now r more Then
  placed_well {Then} carry = record {
    of_now = λ z i. (put_from z i).0;
    after = λ z i. (put_from z i).1;
    stands = λ f rest y e. let it = stands_put f rest y e in (it.0, it.1);
    by = λ f rest y e. (stands_put f rest y e).2;
    full = full_at Then carry;
  }

-- ---- and so it is settled, as the frontier goes by the source

of_the_instant : (s : Scenario) (js : List Happening) (now r : ℕ) (more : List ℕ) (y : Happening) (q : List ℕ)
    → IsOwnSource s js (time_of y) (members_in y) y.note.body q → IsBefore q (now ∷ r ∷ more)
    → (IsBefore (place_of y) (now ∷ r ∷ more) → ⊥) → time_of y ≡ now
of_the_instant s js now r more y q own under not =
    search (arith, own_time)

-- all that is due from the source itself is there too
pub settled_by : {s : Scenario} {hs coming : List Happening} {now r : ℕ} {more : List ℕ}
    → IsWell s hs coming now r more (λ y. ⊥) → IsBefore (now ∷ 2 ∷ []) (now ∷ r ∷ more)
    → ((z : Happening) → IsIn z coming → is_at_source z.note.body ≡ true
    → IsBefore (place_of z) (behind (now ∷ r ∷ more))) → IsAllOfIt s hs coming (now ∷ r ∷ more)
    → AreSettled s hs coming (now ∷ r ∷ more) (behind (now ∷ r ∷ more)) now
settled_by {s} {hs} {now} {r} {more} well later worked all =
    let at = now ∷ r ∷ more in
    record {
      of_now = well.of_now;
      after = well.after;
      founded = well.stands;
      by = λ f rest z e.
          let was = well.by f rest z e in (
            was.0,
            was.1,
            was.2,
            elim was.3 [
              | inl lt ↦ stays at was.0 lt
              | inr same ↦ rw same (before_behind at)
            ],
          );
      full = λ f rest y e before none not due off. elim (up_to_place off.0 at off.3) [
        | inl here ↦ all f rest y e before none due
            (rw here at off.1)
        | inr under ↦
            elim (well.full f rest y e before none not due (of_the_instant s (hs ++ f) now r more y off.0 off.1 under not) off.0 off.1 off.2 under)
            [ inl found ↦ found | inr never ↦ absurd never ]
      ];
      not_past = λ z i. not_far at (place_of z) (well.after z i);
      worked = worked;
      begun = λ z i. stays at (now ∷ 2 ∷ []) later;
    }
