use Rattle.std.specs.Prelude.{All}
use Rattle.drift_world.proofs.{Beginnings.{any_mapped, found, waits_more, ways_more}, Events.turned_on_is}
use Rattle.drift_world.proofs.{Signals.{apart_kept, below_more, ways_short}, Timings.{clock_elsewhere, waits_elsewhere}}
use Rattle.drift_world.proofs.Words.{not, scenario, subst, sym, true, turns_on, unsigned_abs, waiting_as, way_as}
use Rattle.drift_world.proofs.Words.{world_of, ℕ}
use Rattle.world_law.{proofs.steps_lemmas.steps.{Applied.applied_step, AppliedParts.broken_more}}
use Rattle.world_law.{specs.{source.Applying.note_of_event, world.Outcomes.also_befell}}
use Rattle.drift_world.proofs.Words.{◌++◌, ◌+◌, ◌<◌, ◌∙◌, ◌∷◌, ◌≡◌, AreApart, Bool, Down, List, Note, Some, Up, What}
use Rattle.drift_world.proofs.Words.{World, [], amount, ap, arith, breaks_at, ints, is_turned_on_at, keeps, length, list_any, map}
use Rattle.{net_plan.specs.{Belonging.IsOfNetwork, declared.ids.DeviceId.DeviceId}, world_law.specs.world.World.Befell}
use Rattle.run_law.specs.declared.note.NoteBody.TheVariants as kinds
use Rattle.drift_world.proofs.state.State.apply.Goals as goal

pub returns-clause-sound : goal.returns-clause-sound
returns-clause-sound g c =
    let z = c.requires.sound.sized in
    let time = c.requires.time in
    record {
      sized = record {
        clocks = c.set_rate.ensures.length ∙ z.clocks;
        machines = c.befall_machines.ensures.length ∙ z.machines;
        broken = c.set_broken.ensures.length ∙ z.broken;
        ups = c.set_way.ensures.length ∙ z.ups;
        downs = c.set_way-2.ensures.length ∙ z.downs;
        stepped = λ k d lt. let stepped = c.set_rate.ensures.stepped k d lt in omega (arith, ints);
        limit = z.limit;
        shown = omega arith;
      };
      under_way = c.requires.sound.under_way;
      fit = record {
        ups = ways_short c.args.self.now.ups.items c.set_way.new.ways.items Up c.args.event.now.what c.requires.short c.set_way.ensures.length
            c.set_way.ensures.each c.requires.sound.fit.ups;
        downs = ways_short c.args.self.now.downs.items c.set_way-2.new.ways.items Down c.args.event.now.what c.requires.short c.set_way-2.ensures.length
            c.set_way-2.ensures.each c.requires.sound.fit.downs;
        octets = c.requires.sound.fit.octets;
        below = λ e there. let was = c.requires.sound.fit.below e there in omega arith;
        waits_below = subst (All (λ w. w.cause < c.args.self.now.given + 1 + 1)) (sym c.drop_waiting.ensures)
            (below_more (c.args.self.now.given + 1) (λ w. not (breaks_at w.device.0 c.args.event.now.what)) c.args.self.now.waiting.items
            c.requires.sound.fit.waits_below);
        apart = subst AreApart (sym c.drop_waiting.ensures)
            (apart_kept (λ w. not (breaks_at w.device.0 c.args.event.now.what)) c.args.self.now.waiting.items c.requires.sound.fit.apart);
      };
    }

pub returns-clause-stands : goal.returns-clause-stands
returns-clause-stands g c = λ f h past notes old follows may.
    let w = c.args.self.now in
    let K = g.C.Clock in
    let stands = keeps g.M.Machine.stands in
    let network = c.args.network.now in
    let world = world_of network w in
    let event = c.args.event.now in
    let z = c.requires.sound.sized in
    let at : amount event.time ≡ w.time = ap unsigned_abs c.requires.time in
    let s = scenario network f past in
    let step = applied_step K.reading stands network f h past event world notes c.set_rate.new.clocks.items c.befall_machines.new.machines.items
    c.set_broken.new.broken.items
    (map way_as c.set_way.new.ways.items) (map way_as c.set_way-2.new.ways.items) (map waiting_as c.drop_waiting.new.waiting.items) old c.requires.open
    c.requires.time may c.requires.early
    (let given = old.given in let few = c.if-self.false in omega arith)
    follows.same follows.steady
    (λ device lt.
    let own = found w.clocks.items device.0 (let many = z.clocks in omega arith) in
    (_, c.set_rate.ensures.each device own.0 own.1, λ t late. follows.reads device own.0 own.1 t late))
    follows.forward
    (record {
      still = λ device machine there.
          c.befall_machines.ensures.each network device machine (is_turned_on_at s device w.time) there
          (λ broke. turned_on_is K.reading stands s world notes old c.requires.early follows.begun device ∙ any_mapped device w.befell.items
          ∙ ap (list_any (λ b. turns_on device b.what)) (sym c.as_slice.ensures.value) ∙ sym (c.breaks_on-on.ensures device broke));
    })
    (λ device lt. c.set_broken.ensures.each device _ (old.broken device lt) ∙ ap Some (sym (broken_more network f h past event w.time device at)))
    (ways_more network f h past event at w.ups.items w.downs.items c.set_way.new.ways.items c.set_way-2.new.ways.items z.ups z.downs old.ways
    c.set_way.ensures.each c.set_way-2.ensures.each)
    (λ e. rw c.drop_waiting.ensures (waits_more network f h past event at w.waiting.items old.waiting.sound e)) in
    let after : List Befell → Bool → World _ _ = λ befell over. record world {
      clocks = c.set_rate.new.clocks.items;
      machines = c.befall_machines.new.machines.items;
      broken = c.set_broken.new.broken.items;
      ups = map way_as c.set_way.new.ways.items;
      downs = map way_as c.set_way-2.new.ways.items;
      waiting = map waiting_as c.drop_waiting.new.waiting.items;
      pending = true;
      befell = befell;
      lines = w.lines + 1;
      given = w.given + 1;
      ended = over;
      shown = 0;
    } in
    let then_ = scenario network h (past ++ event ∷ []) in
    let befell_is = c.in_ok-keep_befallen.ensures.ok ∙ ap (λ n. world.befell ++ also_befell (n + 1) event.what) old.given in
    let note : ℕ → ℕ → What → Note = λ number line what. record { number = number + 1; time = event.time; body = kinds.Event (line + 1) what } in
    let note_is : note w.given w.lines c.args.event.now.what ≡ note_of_event notes past event =
    rw old.given (ap (λ n. note (length notes) n c.args.event.now.what) old.lines)
    in (
      note_is,
      rw note_is (rw c.ends-self.ensures (rw befell_is step)),
    )

pub returns-clause-others : goal.returns-clause-others
returns-clause-others g c = λ device there away.
    let many = c.requires.sound.sized.clocks in (
      clock_elsewhere g.C.Clock.after_step c.args.self.now.clocks.items c.set_rate.new.clocks.items device c.args.event.now.time c.args.event.now.what
          (omega arith) away c.set_rate.ensures.each,
      c.befall_machines.ensures.others device away,
      waits_elsewhere c.args.self.now.waiting.items device c.args.event.now.what c.drop_waiting.ensures away,
    )

pub befall_machines-requires : goal.befall_machines-requires
befall_machines-requires g c =
    let machines = c.requires.sound.sized.machines in
    let mine : (device : DeviceId) → device.0 < length c.args.network.now.device → device.0 < length c.args.self.now.machines.items =
    λ device of. omega arith in
    record {
      turned_on = λ device is. mine device (subst (IsOfNetwork c.args.network.now) is c.requires.of_network);
      broken = λ device is. mine device (subst (IsOfNetwork c.args.network.now) is c.requires.of_network);
    }

pub set_rate-requires : goal.set_rate-requires
set_rate-requires g c =
    let z = c.requires.sound.sized in
    let clocks = z.clocks in
    let limit = z.limit in
    let time = c.requires.time in
    let mine : (device : DeviceId) → device.0 < length c.args.network.now.device → device.0 < length c.args.self.now.clocks.items =
    λ device of. omega arith in
    record {
      there = λ device rate is. mine device (subst (IsOfNetwork c.args.network.now) is c.requires.of_network);
      slow = c.requires.slow;
      stepped = λ k d lt. let stepped = z.stepped k d lt in omega (arith, ints);
      limit = omega (arith, ints);
    }

pub returns-clause-clocks : goal.returns-clause-clocks
returns-clause-clocks g c = c.set_rate.ensures.each
