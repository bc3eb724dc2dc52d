-- The turns of sources: of what a device does, of frames, and of clocks that are shown at the end.
use Rattle.run_law.specs.{control.Leaving.{Departure, leaves, on_cut_way, too_old}, declared.steps.Arrival.Arrival}
use Rattle.run_law.specs.{records.Happenings.frame_from}
use Rattle.world_law.proofs.{giving.{Given.given_from, GivenParts.{source_kinds, up_to_place}}}
use Rattle.world_law.proofs.{runs.{Over.stand_of, Worlds.late_of}}
use Rattle.world_law.proofs.{steps_lemmas.ripening.{RipenedSteps.ripened_step, Ripens.ripe_more}}
use Rattle.world_law.proofs.steps_lemmas.{hearing.HeardSteps.heard_step}
use Rattle.world_law.proofs.steps_lemmas.{steps.{LeftSteps.left_step, Passed.clock_step}}
use Rattle.world_law.proofs.steps_lemmas.Words
use Words.{if◌then◌else◌, ◌++◌, ◌+◌, ◌<◌, ◌∙◌, ◌∷◌, ◌≡◌, ◌≤◌, ◌⊎◌, Act, ArePutIn, AtPort, Bool, Compressed, DeviceId}
use Words.{Happening, IsBefore, IsIn, LinkId, List, Network, Node, NoneBefore, Note, NoteBody, Ripe, Scenario, Some}
use Words.{Stands, StandsBehind, State, Units, Waiting, World, [], amount, ap, append-nil, arith, arrival_body}
use Words.{before_behind, behind, both_ways, chain, false, happenings, in_left, in_parts, in_right, inl, inr}
use Words.{is_at_source, is_broken, is_cut, length, place_of, port_place, rank, refl, second, settled_as, subst, sym}
use Words.{time_of, true, way_from, wire_place, ℕ}
use Rattle.world_law.proofs.steps_lemmas.acting.{ActedSteps.acted_step}
use Rattle.world_law.proofs.steps_lemmas.acting.{Kept.{act_rest, act_stands, late_rank, low_rank}}
use Rattle.world_law.specs.{world.{Moves.StandsAt, Outcomes.{departure_body, judged_as}}}
use Rattle.world_law.specs.steps.{Acting.{AreActBodies, first_bodies, joining_bodies, rank_of_act}}
use Rattle.world_law.specs.steps.{Ripening.ripe_bodies, Steps.departure_now}
use Rattle.world_law.specs.steps.Turns
use Turns.{ActedTurn, ClockTurn, HeardTurn, IsTurn, LeftTurn, RipenedTurn, TurnsBy, next_note, starts_there}
use Rattle.run_law.specs.declared.note.NoteBody.TheVariants as kinds
use Rattle.run_law.specs.declared.steps.Act.TheVariants as acts
use Rattle.run_law.specs.declared.steps.Arrival.TheVariants as arrivals
use Rattle.run_law.specs.declared.steps.Ripe.TheVariants as ripe
use Rattle.sync_state.specs.declared.answers.Verdict.TheVariants as verdicts
use Rattle.sync_state.specs.declared.state.State.TheVariants as states

-- ---- the turn of a source, which is worked off with its records to come: what stands there is given: what is put in

-- each that is there then was there, or is one of these
pub put_is : (network : Network) (hs : List Happening) (now : ℕ) (bodies : List NoteBody) (old new : List Happening)
    → ArePutIn network hs now bodies old new
    → (z : Happening) → IsIn z new → IsIn z old
    ⊎ ((body : NoteBody) × IsIn body bodies × (z ≡ settled_as network hs now body))
put_is network hs now [] old new put z i = inl (rw put at i)
put_is network hs now (body ∷ bodies) old new (mid, first, rest) z i =
    elim (put_is network hs now bodies mid new rest z i) [
      | inr more ↦ inr (more.0, inr more.1, more.2)
      | inl there ↦ elim (in_parts z first.front (settled_as network hs now body ∷ first.back)
          (rw first.is at there)) [
            | inl f ↦ inl (rw first.was (in_left z first.front first.back f))
            | inr (inl e) ↦ inr (body, inl refl, e)
            | inr (inr b) ↦ inl (rw first.was (in_right z first.front first.back b))
          ]
    ]

-- what is put in behind a place is so with a record before all others that stands there
put_behind : (network : Network) (hs : List Happening) (now : ℕ) (bodies : List NoteBody) (z : Happening)
    (old new : List Happening)
    → ((body : NoteBody) → IsIn body bodies → IsBefore (place_of z) (place_of (settled_as network hs now body)))
    → ArePutIn network hs now bodies old new → ArePutIn network hs now bodies (z ∷ old) (z ∷ new)
put_behind network hs now [] z old new later put = rw put
put_behind network hs now (body ∷ bodies) z old new later (mid, first, rest) = (
  z ∷ mid,
  record {
    front = z ∷ first.front;
    back = first.back;
    was = rw first.was;
    is = rw first.is;
    before = λ h i. elim i [
      | inl e ↦ rw e (later body (inl refl))
      | inr more ↦ first.before h more
    ];
    none = first.none;
  },
  put_behind network hs now bodies z mid new (λ other i. later other (inr i)) rest,
)

-- ---- the turn

-- the rank of a source
abbrev pub IsTurnRank : ℕ → Type 0
IsTurnRank r = (2 ≡ r) ⊎ ((3 ≡ r) ⊎ ((8 ≡ r) ⊎ ((14 ≡ r) ⊎ ((4 ≤ r) × (r ≤ 6)))))

-- what does not stand at its source does not stand where one does
late_apart : (z : Happening) {now r : ℕ} {more : List ℕ} → IsTurnRank r → is_at_source z.note.body ≡ false
    → place_of z ≡ now ∷ r ∷ more → ⊥
late_apart z {r} kind late at =
    search (arith, rank, second, source_kinds)

-- the records of a source: the first stands where the source does, and the others behind it, or all come later
pub data AreThere (network : Network) (hs : List Happening) (now : ℕ) (at : List ℕ) : List NoteBody → Type 0 where
  first : (body : NoteBody) (others : List NoteBody) → is_at_source body ≡ true
      → place_of (settled_as network hs now body) ≡ at
      → ((other : NoteBody) → IsIn other others → IsBefore at (place_of (settled_as network hs now other)))
      → AreThere network hs now at (body ∷ others)
  later : (bodies : List NoteBody) → ((body : NoteBody) → IsIn body bodies → is_at_source body ≡ false)
      → AreThere network hs now at bodies

-- a record that is the only one
pub one_there : {network : Network} {hs : List Happening} {now : ℕ} {at : List ℕ} (body : NoteBody)
    → is_at_source body ≡ true → place_of (settled_as network hs now body) ≡ at → AreThere network hs now at (body ∷ [])
one_there body own place = AreThere.first body [] own place (λ other i. absurd i)

pub one_later : {network : Network} {hs : List Happening} {now : ℕ} {at : List ℕ} (body : NoteBody)
    → is_at_source body ≡ false → AreThere network hs now at (body ∷ [])
one_later body late = AreThere.later (body ∷ []) (λ other i. elim i [
  | inl e ↦ ap is_at_source e ∙ late
  | inr none ↦ absurd none
])

-- two, of which the second stands behind the first
pub two_there : {network : Network} {hs : List Happening} {now r : ℕ} {more : List ℕ} (body change : NoteBody)
    → is_at_source body ≡ true → place_of (settled_as network hs now body) ≡ now ∷ r ∷ more → r < rank change
    → AreThere network hs now (now ∷ r ∷ more) (body ∷ change ∷ [])
two_there {r} body change own place less = AreThere.first body (change ∷ []) own place (λ other i. elim i [
  | inl e ↦ inr (refl, inl (rw e less))
  | inr none ↦ absurd none
])

module _ {network : Network} {hs : List Happening} {now : ℕ} {at : List ℕ} where
  there_of : (body : NoteBody) (others : List NoteBody) → is_at_source body ≡ true
      → AreThere network hs now at (body ∷ others) → (place_of (settled_as network hs now body) ≡ at)
      × ((other : NoteBody) → IsIn other others → IsBefore at (place_of (settled_as network hs now other)))
  there_of body others is (AreThere.first x more own place behind_it) = (place, behind_it)
  there_of body others is (AreThere.later bodies late) =
      absurd (both_ways _ (late body (inl refl)) is)

  late_each : {bodies : List NoteBody} → starts_there bodies ≡ false → AreThere network hs now at bodies
      → (body : NoteBody) → IsIn body bodies → is_at_source body ≡ false
  late_each none (AreThere.first x more own place behind_it) body i =
      absurd (both_ways _ none own)
  late_each none (AreThere.later all late) body i = late body i

none_starts : (bodies : List NoteBody) → ((body : NoteBody) → IsIn body bodies → is_at_source body ≡ false)
    → starts_there bodies ≡ false
none_starts [] late = refl
none_starts (body ∷ bodies) late = late body (inl refl)

-- where the first of them is of a higher rank, none stands where the source does
pub high_starts : {network : Network} {hs : List Happening} {now r : ℕ} {rest : List ℕ} {bodies : List NoteBody}
    → AreThere network hs now (now ∷ r ∷ rest) bodies
    → ((body : NoteBody) (others : List NoteBody) → bodies ≡ body ∷ others → r < rank body)
    → starts_there bodies ≡ false
high_starts {r} (AreThere.first x more own place behind_it) high =
    let same : rank x ≡ r = ap second place in
    let above = high x more refl in
    absurd (omega arith)
high_starts (AreThere.later all late) high = none_starts all late

-- the source is worked off: the world stands with its records to come
abbrev IsStepOf : {C M : Type 0} → (C → ℕ → ℕ) → (M → Network → DeviceId → Node → Type 0) → Scenario → List Note
    → List NoteBody → World C M → List Happening → List ℕ → Type 0
IsStepOf reading stands s notes bodies mid coming at =
    (settled : List Happening) → ArePutIn s.network (happenings s.network notes) mid.now bodies coming settled
    → StandsBehind reading stands s (record mid { settled = settled }) notes at

-- a record that stands where the source does is put in before all that is to come
put_first : {network : Network} {hs : List Happening} {now : ℕ} {at : List ℕ} {bodies : List NoteBody} {body : NoteBody}
    {others : List NoteBody} (coming settled : List Happening) → bodies ≡ body ∷ others → is_at_source body ≡ true
    → NoneBefore place_of coming at → AreThere network hs now at bodies → ArePutIn network hs now others coming settled
    → ArePutIn network hs now bodies coming (settled_as network hs now body ∷ settled)
put_first {network} {hs} {now} {at} {body} {others} coming settled is own none there put =
    let z = settled_as network hs now body in
    let it = there_of body others own (rw is at there) in
    rw is (
      z ∷ coming,
      record {
        front = [];
        back = coming;
        was = refl;
        is = refl;
        before = λ h i. absurd i;
        none = rw (sym it.0) at none;
      },
      put_behind network hs now others z coming settled
          (λ other i. rw (sym it.0) at (it.1 other i)) put,
    )

-- with the records that stand there given, the world stands behind the source
turn_by : {C M : Type 0} {reading : C → ℕ → ℕ} {stands : M → Network → DeviceId → Node → Type 0} {s : Scenario}
    {world : World C M} {notes : List Note} (old : Stands reading stands s world notes) (r : ℕ) {rest : List ℕ}
    → IsTurnRank r → {bodies : List NoteBody} (mid : World C M) {new : World C M} {more : List Note}
    → mid.settled ≡ world.settled → NoneBefore place_of world.settled (world.now ∷ r ∷ rest)
    → AreThere s.network (happenings s.network notes) mid.now (world.now ∷ r ∷ rest) bodies
    → IsStepOf reading stands s notes bodies mid world.settled (world.now ∷ r ∷ rest)
    → IsTurn s notes bodies mid new more → StandsAt reading stands s new (notes ++ more) (behind (world.now ∷ r ∷ rest))
turn_by {reading} {stands} {s} {world} {notes} old r {rest} kind mid {new} {more} same none there step
    (IsTurn.gives body others is own g) =
    let hs = happenings s.network notes in
    let at = world.now ∷ r ∷ rest in
    let z = settled_as s.network hs mid.now body in
    let place = (there_of body others own (rw is at there)).0 in
    let behind_it = step (z ∷ new.settled)
    (put_first world.settled new.settled is own none
    there (rw same at g.put)) in
    let then_ = given_from z new.settled behind_it refl
    (λ w source waits b. waits (chain w at (behind at) (rw (sym place) b) (before_behind at)))
    g.launched.wires g.launched.ports g.launched.waiting g.launched.stored in
    let after : World _ _ = record mid {
      wires = new.wires;
      ports = new.ports;
      waiting = new.waiting;
      stored = new.stored;
      settled = new.settled;
      given = mid.given + 1;
    } in
    subst (λ x. StandsAt reading stands s x (notes ++ more) (behind at)) (sym g.same)
    (subst (λ l. StandsAt reading stands s after (notes ++ l) (behind at)) (sym g.note)
    (subst (λ q. StandsAt reading stands s after (notes ++ next_note notes mid.now body ∷ []) (behind q)) place then_))
turn_by {reading} {stands} {s} {world} {notes} old r {rest} kind {bodies} mid {new} {more} same none there step
    (IsTurn.puts not_there g) =
    let at = world.now ∷ r ∷ rest in
    let put = rw same at g.put in
    let off : (z : Happening) → IsIn z new.settled → is_at_source z.note.body ≡ false = λ z i.
    elim (put_is s.network (happenings s.network notes) mid.now bodies world.settled new.settled put z i) [
      | inl was ↦ late_of old.are z was
      | inr it ↦ rw it.2 (late_each not_there there it.0 it.1)
    ] in
    let behind_it = step new.settled put in
    subst (λ x. StandsAt reading stands s x (notes ++ more) (behind at)) (sym g.same)
    (subst (λ l. StandsAt reading stands s (record mid { settled = new.settled }) l (behind at))
    (sym (rw g.none (append-nil notes)))
    (stand_of behind_it (λ z i b. elim (up_to_place (place_of z) at b) [
      | inl e ↦ late_apart z kind (off z i) e
      | inr lt ↦ behind_it.are.after z i lt
    ])))

-- the turn of a source: its own record is the next once the others are put in, and may be given
pub turn_of : {C M : Type 0} {reading : C → ℕ → ℕ} {stands : M → Network → DeviceId → Node → Type 0} {s : Scenario}
    {world : World C M} {notes : List Note} (old : Stands reading stands s world notes) (r : ℕ) {rest : List ℕ}
    → IsTurnRank r → {bodies : List NoteBody} (mid : World C M) → mid.settled ≡ world.settled
    → NoneBefore place_of world.settled (world.now ∷ r ∷ rest)
    → AreThere s.network (happenings s.network notes) mid.now (world.now ∷ r ∷ rest) bodies
    → IsStepOf reading stands s notes bodies mid world.settled (world.now ∷ r ∷ rest)
    → TurnsBy reading stands s notes bodies mid (world.now ∷ r ∷ rest)
turn_of {s} {world} {notes} old r {rest} kind mid same none there step = record {
  next = λ body others is own after put.
      let hs = happenings s.network notes in
      let z = settled_as s.network hs mid.now body in
      let behind_it = step (z ∷ after) (put_first world.settled after is own none there
      (rw same at put)) in
      record {
        same = behind_it.same;
        range = behind_it.range;
        steady = behind_it.steady;
        limit = behind_it.limit;
        given = behind_it.given;
        clocks = behind_it.clocks;
        broken = behind_it.broken;
        ways = behind_it.ways;
        founded = behind_it.run.founded;
        due = rw (append-nil hs) at (behind_it.are.founded [] after z refl).1;
      };
  then_stands = λ new more turn. turn_by old r kind mid same none there step turn;
}

-- ---- the turns of what a device does by itself

-- a broken way makes a dispatch a loss: neither stands where the act does
dispatch_there : {network : Network} {hs : List Happening} {now : ℕ} {at : List ℕ} (cut : Bool) (lost sent : NoteBody)
    → is_at_source lost ≡ false → is_at_source sent ≡ false
    → AreThere network hs now at ((if cut then lost else sent) ∷ [])
dispatch_there true lost sent x y = one_later lost x
dispatch_there false lost sent x y = one_later sent y

joining_there : (s : Scenario) (hs : List Happening) (now number : ℕ) (device : DeviceId)
    (sent : Compressed) (heard : Ripe)
    → AreThere s.network hs now (now ∷ 4 ∷ act_rest s.network device (acts.Emit sent heard))
    (kinds.Compressed device sent.opened sent.at sent.cycle sent.members (judged_as heard)
    ∷ joining_bodies number device heard)
joining_there s hs now number device sent ripe.Integrates = two_there _ _ refl refl (omega arith)
joining_there s hs now number device sent heard = one_there _ refl refl

first_there : (s : Scenario) (hs : List Happening) (now number : ℕ) (device : DeviceId) (cycle : ℕ)
    (by adjustment : Units)
    (was : State) → AreThere s.network hs now (now ∷ 6 ∷ device.0 ∷ [])
    (kinds.Corrected device cycle by adjustment ∷ first_bodies number device was)
first_there s hs now number device cycle by adjustment states.Joining = two_there _ _ refl refl (omega arith)
first_there s hs now number device cycle by adjustment was = one_there _ refl refl

act_there : (s : Scenario) (hs : List Happening) (now : ℕ) (device : DeviceId) (was : State) (adjustment : Units)
    (act : Act) (bodies : List NoteBody) → AreActBodies s hs now device was adjustment act bodies
    → AreThere s.network hs now (now ∷ rank_of_act act ∷ act_rest s.network device act) bodies
act_there s hs now device was adjustment (acts.Send frame) bodies are =
    rw are (one_there _ refl refl)
act_there s hs now device was adjustment (acts.Emit sent heard) bodies are =
    rw are (joining_there s hs now (length hs + 1) device sent heard)
act_there s hs now device was adjustment (acts.Correct cycle (verdicts.Corrected by)) bodies are =
    rw are (first_there s hs now (length hs + 1) device cycle by adjustment was)
act_there s hs now device was adjustment (acts.Correct cycle verdicts.SyncClique) bodies are =
    rw are (one_later _ refl)
act_there s hs now device was adjustment (acts.Correct cycle verdicts.AsyncClique) bodies are =
    rw are (one_later _ refl)
act_there s hs now device was adjustment (acts.Correct cycle verdicts.Cleared) bodies are =
    AreThere.later bodies (λ b i. absurd (rw are at i))
act_there s hs now device was adjustment (acts.Dispatch row cycle) bodies are =
    rw are.4 (dispatch_there (is_cut s are.0.row.link (way_from s.network device are.0.row.link) now) _ _ refl refl)

-- where the first of its records is of a higher rank than any act, none of them stands where it is done
pub act_starts_late : (s : Scenario) (hs : List Happening) (now : ℕ) (device : DeviceId) (was : State)
    (adjustment : Units) (act : Act) (bodies : List NoteBody) → AreActBodies s hs now device was adjustment act bodies
    → ((body : NoteBody) (others : List NoteBody) → bodies ≡ body ∷ others → 6 < rank body)
    → starts_there bodies ≡ false
act_starts_late s hs now device was adjustment act bodies are high =
    search (arith, low_rank, high_starts, act_there)

-- nothing to come of a higher rank stands before it
none_above : (now r : ℕ) (more : List ℕ) (zs : List Happening) → ((z : Happening) → IsIn z zs → time_of z ≡ now)
    → ((z : Happening) → IsIn z zs → r < rank z.note.body)
    → NoneBefore place_of zs (now ∷ r ∷ more)
none_above now r more zs of above z i (inl lt) = omega arith
none_above now r more zs of above z i (inr (e, inl lt)) = omega arith
none_above now r more zs of above z i (inr (e, inr (f, b))) = omega arith

pub acted_turn : {C M : Type 0} (reading : C → ℕ → ℕ) (stands : M → Network → DeviceId → Node → Type 0)
    → ActedTurn reading stands
acted_turn reading stands s world notes device after bodies machines old a set =
    let now = world.now in
    let r = rank_of_act a.act in
    let rest = act_rest s.network device a.act in
    let acted = record world { early = false; machines = machines } in
    rw (act_stands s.network now device a.act) (turn_of old r (inr (inr (inr (inr (late_rank a.act, low_rank a.act)))))
    acted refl
    (none_above now r rest world.settled old.are.of_now a.apart)
    (act_there s (happenings s.network notes) now device a.was a.adjustment a.act bodies a.are)
    (λ settled put. acted_step reading stands s settled a set put))

-- ---- the turns of what leaves, arrives and is permanent: a frame leaves

left_there : (network : Network) (hs : List Happening) (now : ℕ) (e : AtPort) (is : Departure)
    → AreThere network hs now (now ∷ 8 ∷ e.device.0 ∷ e.link.0 ∷ e.cause ∷ []) (departure_body e is ∷ [])
left_there network hs now e (leaves clock) = one_there _ refl refl
left_there network hs now e too_old = one_later _ refl
left_there network hs now e on_cut_way = one_later _ refl

-- of a broken device none does
left_or_none : {network : Network} {hs : List Happening} {now : ℕ} {at : List ℕ} {body : NoteBody} (broken : Bool)
    → AreThere network hs now at (body ∷ []) → AreThere network hs now at (if broken then [] else body ∷ [])
left_or_none true there = AreThere.later [] (λ other i. absurd i)
left_or_none false there = there

pub left_turn : {C M : Type 0} (reading : C → ℕ → ℕ) (stands : M → Network → DeviceId → Node → Type 0)
    → LeftTurn reading stands
left_turn reading stands s world notes e ports old i at foremost without =
    let now = world.now in
    let rest = e.device.0 ∷ e.link.0 ∷ e.cause ∷ [] in
    let place : port_place e ≡ now ∷ 8 ∷ rest = rw at in
    let is = departure_now s e now in
    rw place (turn_of old 8 (inr (inr (inl refl))) (record world { ports = ports; early = false }) refl
    (subst (λ q. NoneBefore place_of world.settled q) place foremost.after)
    (left_or_none (is_broken s e.device now)
    (left_there s.network (happenings s.network notes) now e is))
    (λ settled put. left_step reading stands s world notes e ports settled i at foremost without put))

-- ---- a frame arrives

heard_there_too : (network : Network) (hs : List Happening) (now : ℕ) (device : DeviceId) (link : LinkId)
    (cause : ℕ) (is : Arrival)
    → AreThere network hs now (now ∷ 2 ∷ device.0 ∷ link.0 ∷ cause ∷ []) (arrival_body device link cause is ∷ [])
heard_there_too network hs now device link cause (arrivals.PassesAndWaits frame way point) = one_there _ refl refl
heard_there_too network hs now device link cause (arrivals.Dropped reason) = one_later _ refl
heard_there_too network hs now device link cause (arrivals.Accepted vl cycle) = one_later _ refl
heard_there_too network hs now device link cause (arrivals.Delivered vl cycle) = one_later _ refl
heard_there_too network hs now device link cause other = one_there _ refl refl

pub heard_turn : {C M : Type 0} (reading : C → ℕ → ℕ) (stands : M → Network → DeviceId → Node → Type 0)
    → HeardTurn reading stands
heard_turn reading stands s world notes e machine heard octets result machines wires old i at foremost there octets_of may
    hears set without =
    let rest = e.device.0 ∷ e.link.0 ∷ e.cause ∷ [] in
    let place : wire_place e ≡ world.now ∷ 2 ∷ rest = rw at in
    let arrived = record world { early = false; machines = machines; wires = wires } in
    subst (λ q. TurnsBy reading stands s notes (arrival_body e.device e.link e.cause result ∷ []) arrived q) (sym place)
    (turn_of old 2 (inl refl) arrived refl (subst (λ q. NoneBefore place_of world.settled q) place foremost.after)
    (heard_there_too s.network (happenings s.network notes) world.now e.device e.link e.cause result)
    (λ settled put. heard_step s e result wires
    settled i at
    foremost there octets_of may hears set without put))

-- ---- a frame is permanent

judged_there : (hs : List Happening) (now : ℕ) (e : Waiting) → frame_from hs e.cause ≡ Some e.frame
    → now ∷ 3 ∷ e.device.0 ∷ amount e.point
    ∷ Rattle.std.specs.Option.option_map_or (λ f. f.members.0) (frame_from hs e.cause) 0 ∷ e.link.0 ∷ e.cause ∷ []
    ≡ now ∷ 3 ∷ ripe_more e
judged_there hs now e frame =
    rw frame

ripe_there : (network : Network) (hs : List Happening) (now number : ℕ) (e : Waiting)
    → frame_from hs e.cause ≡ Some e.frame → (is : Ripe)
    → AreThere network hs now (now ∷ 3 ∷ ripe_more e) (ripe_bodies number e.device e.link e.cause e.point is)
ripe_there network hs now number e frame (ripe.Dropped reason) = one_later _ refl
ripe_there network hs now number e frame ripe.Integrates =
    two_there _ _ refl (judged_there hs now e frame) (omega arith)
ripe_there network hs now number e frame other = one_there _ refl (judged_there hs now e frame)

pub ripened_turn : {C M : Type 0} (reading : C → ℕ → ℕ) (stands : M → Network → DeviceId → Node → Type 0)
    → RipenedTurn reading stands
ripened_turn reading stands s world notes e machine ripe result machines waiting old i reached foremost there has set
    without =
    let it = old.waiting.real e i in
    let frame : frame_from (happenings s.network notes) e.cause ≡ Some e.frame =
    rw it.there
    it.awaited.of_frame in
    turn_of old 3 (inr (inl refl))
    (record world { early = false; machines = machines; waiting = waiting }) refl foremost.after
    (ripe_there s.network (happenings s.network notes) world.now (length notes + 1) e frame result)
    (λ settled put. ripened_step s e result waiting settled i
    reached foremost there has set without put)

-- ---- the clock of a device is shown at the end, and its record is given

pub clock_turn : {C M : Type 0} (reading : C → ℕ → ℕ) (stands : M → Network → DeviceId → Node → Type 0)
    → ClockTurn reading stands
clock_turn reading stands s world notes device machine state adjustment old lt ended shown foremost there stood =
    turn_of old 14 {rest = (device.0 ∷ [])} (inr (inr (inr (inl refl))))
    (record world { early = false; shown = world.shown + 1 })
    refl foremost.after (one_there _ refl refl)
    (λ settled put. clock_step s device state adjustment settled lt ended shown
    foremost there stood put)
