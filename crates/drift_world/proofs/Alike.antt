-- A world stands also where its lists have what they had in another order.
use Rattle.drift_world.proofs.Words.{◌++◌, ◌↔◌, ◌∙◌, ◌≡◌, AtPort, Happening, IsIn, List, Meaning, Note, NoteBody, OnWire}
use Rattle.drift_world.proofs.Words.{Scenario, Stands, StandsAt, World, behind, inl, inr, refl, ℕ}
use Rattle.world_law.specs.{steps.Turns.{IsTurn, TurnsBy}, world.Moves.{AreGiven, ArePut}}

module _ {C M : Type 0} (reading : C → ℕ → ℕ) (stands : Meaning M) (s : Scenario) (world : World C M)
    (notes : List Note) where
  -- other wires and ports, with the same on them and at them
  with_lists : (wires : List OnWire) (ports : List AtPort)
      → ((e : OnWire) → IsIn e wires ↔ IsIn e world.wires) → ((e : AtPort) → IsIn e ports ↔ IsIn e world.ports)
      → (it : Stands reading stands s world notes)
      → (new : Stands reading stands s (record world { wires = wires; ports = ports }) notes)
      × (new.frontier ≡ it.frontier)
  with_lists wires ports on at it = (
    record {
      same = it.same;
      range = it.range;
      rules = it.rules;
      forward = it.forward;
      steady = it.steady;
      precise = it.precise;
      frontier = it.frontier;
      run = it.run;
      of_now = it.of_now;
      not_later = it.not_later;
      limit = it.limit;
      lines = it.lines;
      given = it.given;
      ended = it.ended;
      befallen = it.befallen;
      clocks = it.clocks;
      broken = it.broken;
      ways = it.ways;
      room = it.room;
      known = it.known;
      devices = it.devices;
      early = it.early;
      untold = it.untold;
      wires = record {
        real = λ e there. it.wires.real e ((on e).0 there);
        all = λ t device link cause a late waits. let found = it.wires.all t device link cause a late waits in
            (found.0, (on found.0).1 found.1, found.2);
      };
      ports = record {
        real = λ e there. it.ports.real e ((at e).0 there);
        all = λ t device link cause d waits. let found = it.ports.all t device link cause d waits in
            (found.0, (at found.0).1 found.1, found.2);
      };
      waiting = it.waiting;
      stored = it.stored;
      are = it.are;
      shown = it.shown;
    },
    refl,
  )

  -- and so with its frontier at a place
  pub ports_at : (ports : List AtPort) {p : List ℕ} → ((e : AtPort) → IsIn e ports ↔ IsIn e world.ports)
      → StandsAt reading stands s world notes p → StandsAt reading stands s
      (record world { ports = ports }) notes p
  ports_at ports at one =
      let new = with_lists world.wires ports (λ e. (λ i. i, λ i. i)) at one.0 in
      (new.0, new.1 ∙ one.1)

-- so does a turn from such a world
module _ {C M : Type 0} (reading : C → ℕ → ℕ) (stands : Meaning M) (s : Scenario) (notes : List Note) (mid : World C M)
    (wires : List OnWire) (ports : List AtPort) (on : (e : OnWire) → IsIn e wires ↔ IsIn e mid.wires)
    (at : (e : AtPort) → IsIn e ports ↔ IsIn e mid.ports) where
  put_alike : {x : Happening} {number : ℕ} {new : List OnWire} → ArePut s x number wires new
      → ArePut s x number mid.wires new
  put_alike put = record {
    real = λ e there. elim (put.real e there) [
      | inl was ↦ inl ((on e).0 was)
      | inr more ↦ inr more
    ];
    kept = λ e there. put.kept e ((on e).1 there);
    all = put.all;
  }

  given_alike : {x : Happening} {number : ℕ} {new : List AtPort} → AreGiven s x number ports new
      → AreGiven s x number mid.ports new
  given_alike given = record {
    real = λ e there. elim (given.real e there) [
      | inl was ↦ inl ((at e).0 was)
      | inr more ↦ inr more
    ];
    kept = λ e there. given.kept e ((at e).1 there);
    all = given.all;
  }

  pub turns_alike : {bodies : List NoteBody} {place : List ℕ} → TurnsBy reading stands s notes bodies mid place
      → TurnsBy reading stands s notes bodies (record mid { wires = wires; ports = ports }) place
  turns_alike {bodies} {place} turn = record {
    next = λ body others is source rest put.
        let n = turn.next body others is source rest put in
        record {
          same = n.same;
          range = n.range;
          steady = n.steady;
          limit = n.limit;
          given = n.given;
          clocks = n.clocks;
          broken = n.broken;
          ways = n.ways;
          founded = n.founded;
          due = n.due;
        };
    then_stands = turned;
  }
    where
      turned : (new : World C M) (more : List Note)
          → IsTurn s notes bodies (record mid { wires = wires; ports = ports }) new more
          → StandsAt reading stands s new (notes ++ more) (behind place)
      turned new more (IsTurn.gives body others is source g) =
          turn.then_stands new more (IsTurn.gives body others is source (record {
            note = g.note;
            launched = record {
              wires = put_alike g.launched.wires;
              ports = given_alike g.launched.ports;
              waiting = g.launched.waiting;
              stored = g.launched.stored;
            };
            put = g.put;
            same = g.same;
          }))
      turned new more (IsTurn.puts late g) =
          let base : World C M = record mid { settled = new.settled } in
          let it = turn.then_stands base more (IsTurn.puts late (record { none = g.none; put = g.put; same = refl })) in
          let so = with_lists reading stands s base (notes ++ more) wires ports on at it.0 in
          rw g.same (so.0, so.1 ∙ it.1)
