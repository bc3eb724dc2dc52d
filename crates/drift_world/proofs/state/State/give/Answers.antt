use Rattle.drift_world.proofs.{Givings.{changes_since, popped_world, unchanged, with_first}, Signals.sound_same}
use Rattle.drift_world.proofs.{Words.{settled_at, subst, sym, units_of, world_of}}
use Rattle.{world_law.{proofs.giving.Given.given_step, specs.{steps.Turns.IsNext, world.World.IsDueAs}}, drift_world.proofs.Words.{IsOwn, Scenario, Some, append-nil, map}}
use Rattle.drift_world.{proofs.state.State.give.Goals.After-unwrap-first, specs.declared.state.State.State}
use Rattle.drift_world.proofs.Words.{◌++◌, ◌+◌, ◌∙◌, ◌∷◌, ◌≡◌, HasItsOctets, List, NoSourceBefore, Note, Settled}
use Rattle.drift_world.proofs.Words.{Stands, StandsAt, World, [], ap, behind, happenings, keeps, note_of, place_of, refl}
use Rattle.std.{proofs.lemmas.List.Elements.{All-head, All-tail}, specs.Prelude.{All, option_to_list}}
use Rattle.drift_world.proofs.state.State.give.Given as given
use Rattle.drift_world.proofs.state.State.give.Goals as goal

heads : {x y : Settled} {xs ys : List Settled} → x ∷ xs ≡ y ∷ ys → x ≡ y
heads e = cc

-- the first of what is settled was taken out
whole_is : (g : given.Over) (c : After-unwrap-first g) → c.args.self.now.settled.items ≡ c.unwrap-first.result ∷ c.pop_front.new.self.items
whole_is g c = c.pop_front.ensures.items ∙ ap (λ o. option_to_list o ++ c.pop_front.new.self.items) c.unwrap-first.ensures

pub returns-in-Err-clause-sound : goal.returns-in-Err-clause-sound
returns-in-Err-clause-sound g c =
    let room = c.in-Err.ensures in
    sound_same _ c.requires.sound refl refl refl refl refl refl refl refl room.entries room.waiting
    c.requires.sound.fit.octets

pub returns-in-Err-clause-unmoved : goal.returns-in-Err-clause-unmoved
returns-in-Err-clause-unmoved g c = λ n. unchanged n c.args.self.now _ refl refl refl refl c.in-Err.ensures.waiting

pub give_first-requires-clause-sound : goal.give_first-requires-clause-sound
give_first-requires-clause-sound g c =
    let room = c.make_room.ensures in
    let whole = whole_is g (goal.at.give_first-requires-clause-sound g c).After-unwrap-first in
    let octets = All-tail (λ z. HasItsOctets z.body z.octets) c.unwrap-first.result c.pop_front.new.self.items
    (subst (All (λ z. HasItsOctets z.body z.octets)) whole c.requires.sound.fit.octets) in
    sound_same _ c.requires.sound refl refl refl refl refl refl refl refl room.entries room.waiting
    octets

pub give_first-requires-clause-octets : goal.give_first-requires-clause-octets
give_first-requires-clause-octets g c =
    let whole = whole_is g (goal.at.give_first-requires-clause-octets g c).After-unwrap-first in
    All-head (λ z. HasItsOctets z.body z.octets) c.unwrap-first.result c.pop_front.new.self.items
    (subst (All (λ z. HasItsOctets z.body z.octets)) whole c.requires.sound.fit.octets)

-- the first of what is settled is the next record, also once it is taken out
next_of : (g : given.Over) (c : After-unwrap-first g) {s : Scenario} {notes : List Note}
    → Stands g.C.Clock.reading (keeps g.M.Machine.stands) s (world_of c.args.network.now c.args.self.now) notes
    → IsNext g.C.Clock.reading s notes
    (world_of c.args.network.now (record c.args.self.now {
      under_way = c.make_room.new.under_way;
      waiting = c.make_room.new.waiting;
      stored = c.make_room.new.stored;
      settled = c.pop_front.new.self;
    })) c.unwrap-first.result.body
    × IsOwn s.network c.args.network.now c.args.self.now.time (happenings s.network notes) (Some c.unwrap-first.result)
next_of g c {s} {notes} old =
    let w = c.args.self.now in
    let hs = happenings s.network notes in
    let z = settled_at c.args.network.now w.time c.unwrap-first.result in
    let rest = map (settled_at c.args.network.now w.time) c.pop_front.new.self.items in
    let due : IsDueAs s hs z = rw (append-nil hs) at (old.are.founded [] rest z
    (ap (map (settled_at c.args.network.now w.time)) (whole_is g c))).1 in (
      record {
        same = old.same;
        range = old.range;
        steady = old.steady;
        limit = old.limit;
        given = old.given;
        clocks = old.clocks;
        broken = old.broken;
        ways = old.ways;
        founded = old.run.founded;
        due = rw due.same at due;
      },
      due.same,
    )

pub give_first-requires-clause-next : goal.give_first-requires-clause-next
give_first-requires-clause-next g c =
    let run = c.requires.running in
    let it = next_of g (goal.at.give_first-requires-clause-next g c).After-unwrap-first run.is in
    record { s = run.s; notes = run.notes; next = it.0; own = it.1 }

pub give_first-requires-clause-capacity : goal.give_first-requires-clause-capacity
give_first-requires-clause-capacity g c =
    let whole = whole_is g (goal.at.give_first-requires-clause-capacity g c).After-unwrap-first in
    rw (c.first_waiter-device.ensures c.unwrap-first.result c.pop_front.new.self.items
    whole) at c.in_default.ensures.capacity

pub give_first-requires-clause-place : goal.give_first-requires-clause-place
give_first-requires-clause-place g c =
    let whole = whole_is g (goal.at.give_first-requires-clause-place g c).After-unwrap-first in
    rw (c.first_taker-spot.ensures c.unwrap-first.result c.pop_front.new.self.items whole) at c.in_default.ensures.place

pub returns-clause-stands : goal.returns-clause-stands
returns-clause-stands g c = λ s notes other rest is.
    let w = c.args.self.now in
    let K = g.C.Clock in
    let stands = keeps g.M.Machine.stands in
    let network = c.args.network.now in
    let room = c.make_room.ensures in
    let first = c.unwrap-first.result in
    let note = c.give_first.new.note in
    let new = c.give_first.new.self in
    let whole = whole_is g (goal.at.returns-clause-stands g c).After-unwrap-first in
    let popped : State _ _ = record w {
      under_way = c.make_room.new.under_way;
      waiting = c.make_room.new.waiting;
      stored = c.make_room.new.stored;
      settled = c.pop_front.new.self;
    } in
    let z = settled_at network w.time first in
    let rest_is = map (settled_at network w.time) c.pop_front.new.self.items in
    let Steps = λ (q : World _ _). (o : Stands K.reading stands s q notes)
    → NoSourceBefore s (happenings s.network notes) o.frontier (place_of z)
    → StandsAt K.reading stands s (world_of network new) (notes ++ note_of notes z ∷ []) (behind (place_of z)) in
    let gave : State _ _ = record popped {
      under_way = new.under_way;
      waiting = new.waiting;
      stored = new.stored;
      given = w.given + 1;
    } in
    let by : (it : IsNext K.reading s notes (world_of network popped) first.body
    × IsOwn s.network network w.time (happenings s.network notes) (Some first)) → Steps (with_first network popped first) = λ it o none.
    let launched = c.give_first.ensures.launched s notes it.0 it.1 in
    rw c.give_first.ensures.same (given_step K.reading stands s (with_first network popped first) notes z rest_is
    (world_of network gave).wires
    (world_of network gave).ports (world_of network gave).waiting (world_of network gave).stored o refl none launched.wires
    launched.ports launched.waiting launched.stored) in
    let step : (o : Stands K.reading stands s (world_of network w) notes)
    → NoSourceBefore s (happenings s.network notes) o.frontier (place_of z)
    → StandsAt K.reading stands s (world_of network new) (notes ++ note_of notes z ∷ []) (behind (place_of z)) = λ o none.
    subst Steps (popped_world network w popped room.entries room.waiting room.stored whole refl)
    (by (next_of g (goal.at.returns-clause-stands g c).After-unwrap-first o)) o none in
    let Gives = λ (f : Settled). (o : Stands K.reading stands s (world_of network w) notes)
    → NoSourceBefore s (happenings s.network notes) o.frontier (place_of (settled_at network w.time f))
    → (note ≡ note_of notes (settled_at network w.time f))
    × StandsAt K.reading stands s (world_of network new) (notes ++ note ∷ [])
    (behind (place_of (settled_at network w.time f))) in
    let given : Gives first = λ o none.
    let same = c.give_first.ensures.note
    ∙ ap (λ k. let n : Note = record { number = k + 1; time = units_of w.time; body = first.body } in n) o.given in (
      same,
      rw same (step o none),
    ) in
    subst Gives (heads (sym whole ∙ is)) given

pub returns-clause-others : goal.returns-clause-others
returns-clause-others g c =
    let w = c.args.self.now in
    rw c.give_first.ensures.note (changes_since w refl refl refl refl c.make_room.ensures.waiting
    c.give_first.ensures.others)
