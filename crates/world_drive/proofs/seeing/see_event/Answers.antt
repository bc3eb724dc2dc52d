use Rattle.world_drive.proofs.Drives.{puts_memory, puts_on, puts_so_far}
use Rattle.world_drive.proofs.{Words.{◌++◌, ◌∷◌, CutsAtEvent, None, SeesEvent, [], told_by}}
use Rattle.world_drive.proofs.Earlier
use Earlier.{asked_for, befell, come_after, cut_at, cut_before, cut_event, match_on, may_befall, on_ok, same_number}
use Earlier.{seen_event}
use Rattle.world_drive.proofs.seeing.see_event.Goals as goal

pub see_until-requires-clause-seen : goal.see_until-requires-clause-seen
see_until-requires-clause-seen g c =
    let m = c.requires.may in record { events = m.events; notes = m.notes; old = m.old; stands = m.next.stands; sees = m.sees }

pub see_until-requires-clause-asked : goal.see_until-requires-clause-asked
see_until-requires-clause-asked g c =
    let m = c.requires.may in asked_for c.args.network.now c.args.world.now m.events m.notes c.args.event.now m.next

pub returns-in-Err-clause-sees : goal.returns-in-Err-clause-sees
returns-in-Err-clause-sees g c events notes old n b =
    cut_before c.args.network.now c.args.world.now events notes c.args.event.now n g.O.Observer.stops c.in-Err.cut old (told_by g.K.Sink c.see_until.new.out)
    (c.in-Err.ensures.sees events notes old n.stands b)

pub returns-in-Err-clause-puts : goal.returns-in-Err-clause-puts
returns-in-Err-clause-puts g c = c.in-Err.ensures.puts

pub befall-requires : goal.befall-requires
befall-requires g c =
    let m = c.requires.may in
    record {
      may = may_befall c.args.network.now c.args.world.now m.events m.notes c.args.event.now m.next g.O.Observer.sees c.see_until.new.world
          c.see_until.new.observer m.old (told_by g.K.Sink c.see_until.new.out)
          (c.in-Ok.ensures.sees m.events m.notes m.old m.next.stands m.sees) c.in-Ok.ensures.reached c.args.line m.number;
    }

pub event-requires-clause-may : goal.event-requires-clause-may
event-requires-clause-may g c =
    let network = c.args.network.now in
    let m = c.requires.may in
    let s = c.in-Ok.ensures.sees m.events m.notes m.old m.next.stands m.sees in
    record {
      events = m.events;
      notes = m.notes ++ s.more;
      old = m.old;
      befell = befell network c.args.world.now m.events m.notes c.args.event.now m.next g.O.Observer.sees c.see_until.new.world c.see_until.new.observer m.old
          (told_by g.K.Sink c.see_until.new.out) s c.in-Ok.ensures.reached c.befall.new.self c.in-Ok-befall.note c.args.line m.number
          (c.in-Ok-befall.ensures.stands network m.events (m.notes ++ s.more) s.stands m.next.may.within)
          c.in-Ok-befall.ensures.note c.befall.ensures.still;
      sees = s.sees;
    }

pub returns-in-Ok-befall-clause-sees : goal.returns-in-Ok-befall-clause-sees
returns-in-Ok-befall-clause-sees g c events notes old n b =
    let network = c.args.network.now in
    let world = c.args.world.now in
    let event = c.args.event.now in
    let see = g.O.Observer.sees in
    let stop = g.O.Observer.stops in
    let next = c.see_until.new.world in
    let seen = c.see_until.new.observer in
    let put = told_by g.K.Sink c.see_until.new.out in
    let new = told_by g.K.Sink c.event.new.out in
    let after = c.befall.new.self in
    let note = c.in-Ok-befall.note in
    let line = c.args.line in
    let s = c.in-Ok.ensures.sees events notes old n.stands b in
    let ns = notes ++ s.more in
    let reached = c.in-Ok.ensures.reached in
    let number = same_number line c.requires.may.next.stands n.stands c.requires.may.number in
    let stands = c.in-Ok-befall.ensures.stands network events ns s.stands n.may.within in
    let is = c.in-Ok-befall.ensures.note in
    let still = c.befall.ensures.still in
    match_on c.event.result (λ _. see network (events ++ event ∷ []) (ns ++ note ∷ []) None old new c.event.new.self)
    (λ _. SeesEvent see network events notes event after c.event.new.self old new)
    (λ cut. stop network (events ++ event ∷ []) (ns ++ note ∷ []) cut old new) (λ cut. CutsAtEvent stop network events notes event cut old new)
    (λ _ sees. seen_event network world events notes event n see next seen old put s reached after note line number stands is still c.event.new.self new
    sees)
    (λ cut stops. cut_event network world events notes event n see next seen old put s reached after note line number stands is still stop cut new stops)
    (c.event.ensures.goes events ns old
    (befell network world events notes event n see next seen old put s reached after note line number stands is still) s.sees)

pub returns-in-Ok-befall-clause-reached : goal.returns-in-Ok-befall-clause-reached
returns-in-Ok-befall-clause-reached g c =
    let network = c.args.network.now in
    let m = c.requires.may in
    let s = c.in-Ok.ensures.sees m.events m.notes m.old m.next.stands m.sees in
    on_ok c.event.result _
    (come_after network c.args.world.now m.events m.notes c.args.event.now m.next g.O.Observer.sees c.see_until.new.world c.see_until.new.observer m.old
    (told_by g.K.Sink c.see_until.new.out) s c.in-Ok.ensures.reached c.befall.new.self c.in-Ok-befall.note c.args.line m.number
    (c.in-Ok-befall.ensures.stands network m.events (m.notes ++ s.more) s.stands m.next.may.within)
    c.in-Ok-befall.ensures.note c.befall.ensures.still)

pub returns-in-Ok-befall-clause-puts : goal.returns-in-Ok-befall-clause-puts
returns-in-Ok-befall-clause-puts g c =
    puts_on c.event.result (puts_so_far (tt {0}) c.in-Ok.ensures.puts) c.event.ensures.puts

pub returns-in-Err-befall-clause-sees : goal.returns-in-Err-befall-clause-sees
returns-in-Err-befall-clause-sees g c events notes old n b =
    let network = c.args.network.now in
    let put = told_by g.K.Sink c.see_until.new.out in
    let s = c.in-Ok.ensures.sees events notes old n.stands b in
    cut_at network c.args.world.now events notes c.args.event.now n g.O.Observer.sees c.see_until.new.world c.see_until.new.observer old put s
    g.O.Observer.stops _ (g.met.O.Observer.cut network events (notes ++ s.more) None old put c.see_until.new.observer s.sees)

pub returns-in-Err-befall-clause-puts : goal.returns-in-Err-befall-clause-puts
returns-in-Err-befall-clause-puts g c = puts_memory (puts_so_far (tt {0}) c.in-Ok.ensures.puts)
