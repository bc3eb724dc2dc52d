use Rattle.world_drive.{specs.Observing.instant_of}
use Rattle.world_drive.proofs.{exact_lemmas.Worlds.below_amount}
use Rattle.world_drive.proofs.Drives
use Drives.{cut_here, cut_in_instant, cut_one, puts_cut, puts_more, puts_none, puts_well, seen_instant, seen_none}
use Drives.{seen_one, seen_until}
use Rattle.world_drive.proofs.Earlier
use Earlier.{asked_limit, asked_still, end_stays, fewer, given_before, past_near, past_order, room_now, underway_now}
use Earlier.{way_reached}
use Rattle.world_drive.proofs.Words.{◌++◌, ◌+◌, ◌∙◌, ◌∷◌, ◌≡◌, IsUnderwayAt, List, None, NoteValue, Some, StandsExact, [], amount, ap, arith}
use Rattle.world_drive.proofs.{Words.{go_on, inl, inr, ints, refl, subst, sym, told_by}, exact_lemmas.Given.{comes_before, comes_to, given_none, is_before}}
use Rattle.world_drive.proofs.{Words.{◌<ℤ◌, Option, Start, Units, pos, units_of, ℕ}, seeing.see_until.Goals.{In-Ok-true, In-Ok-true-record}}
use Rattle.net_plan.specs.declared.event.Event.{Event as EventValue}
use Rattle.{std.specs.Prelude.Bool, world_drive.specs.Observing.IsGiven}
use Rattle.world_drive.proofs.seeing.see_until.Given as given
use Rattle.world_drive.proofs.seeing.see_until.Goals as goal

pub notes-init : goal.notes-init
notes-init g c = record {
  sees = λ events notes old a b.
      seen_none g.O.Observer.sees None (amount c.args.until) c.args.observer.now old
      (told_by g.K.Sink c.args.out.now) a b;
  asked = c.requires.asked;
  way = λ open_. inl refl;
  puts = puts_none g.K.Sink c.args.out.now;
}

pub next_given-requires : goal.next_given-requires
next_given-requires g c =
    let network = c.args.network.now in
    let u = c.requires.seen in
    let h = c.notes.invariant.sees u.events u.notes u.old u.stands u.sees in
    let asked = c.notes.invariant.asked in
    record { may = record { limit = asked_limit network c.args.until c.notes.world h.stands asked; ended = asked.ended } }

-- ---- the next record

came : (g : given.Over) (c : In-Ok-true g)
    → (c.next_given.new.note.time ≡ units_of c.next_given.new.self.now) × (c.next_given.new.note.time.0 <ℤ c.args.until.0)
came g c =
    comes_before c.notes.world c.next_given.new.self c.args.until c.in-Ok-true.field-0 c.next_given.new.note c.in-Ok-true.ensures.reached
    c.in-Ok-true.field-0-test

soon : (g : given.Over) (c : In-Ok-true g) → pos c.next_given.new.self.now <ℤ c.args.until.0
soon g c = is_before c.next_given.new.note c.next_given.new.self.now c.args.until.0 (came g c)

-- it is given behind these
next_is : (g : given.Over) (c : In-Ok-true g) (events : List EventValue) (notes : List NoteValue)
    → StandsExact c.args.network.now c.notes.world events notes
    → IsGiven c.args.network.now c.next_given.new.self None events notes c.next_given.new.note
next_is g c events notes stands =
    given_before c.args.network.now events notes c.next_given.new.note c.args.until c.in-Ok-true.field-0 c.in-Ok-true.field-0-test
    (c.in-Ok-true.ensures.stands c.args.network.now events notes stands) (came g c)

-- where the end of its instant is asked for, the instant is under way
under_way : (g : given.Over) (c : In-Ok-true-record g) (events : List EventValue) (notes : List NoteValue) {time : Units}
    → time ≡ c.next_given.new.note.time → pos c.next_given.new.self.now <ℤ c.args.until.0
    → StandsExact c.args.network.now c.notes.world events notes
    → IsGiven c.args.network.now c.next_given.new.self None events notes c.next_given.new.note
    → IsUnderwayAt c.args.network.now c.next_given.new.self events (notes ++ c.next_given.new.note ∷ []) time
under_way g c events notes time_is before stands next =
    subst (λ (u : Units). IsUnderwayAt c.args.network.now c.next_given.new.self events (notes ++ c.next_given.new.note ∷ []) u) (sym time_is)
    (underway_now notes c.next_given.new.note next.stands next.at (c.in-Ok-true-record.ensures.asks c.in-Ok-true-record.field-0-test)
    (room_now c.args.network.now c.args.until c.notes.world stands next.stands before c.notes.invariant.asked))

-- and the observer waits for its end
waits : (g : given.Over) (c : In-Ok-true-record g) (events : List EventValue) (notes : List NoteValue) (old : Start _) {time : Units}
    → time ≡ c.next_given.new.note.time → IsGiven c.args.network.now c.next_given.new.self None events notes c.next_given.new.note
    → g.O.Observer.sees c.args.network.now events notes None old (told_by g.K.Sink c.notes.out) c.notes.observer
    → g.O.Observer.sees c.args.network.now events (notes ++ c.next_given.new.note ∷ []) (Some (amount time)) old
    (told_by g.K.Sink c.record.new.out) c.record.new.self
waits g c events notes old time_is next sees =
    let see = λ (instant : Option ℕ). g.O.Observer.sees c.args.network.now events (notes ++ c.next_given.new.note ∷ []) instant old
    (told_by g.K.Sink c.record.new.out) c.record.new.self in
    subst (λ (u : Units). see (Some (amount u))) (sym time_is)
    (subst (λ (asks : Bool). see (instant_of None asks c.next_given.new.note.time)) c.in-Ok-true-record.field-0-test
    (c.in-Ok-true-record.ensures.goes events notes None old next sees))

pub record-requires-clause-may : goal.record-requires-clause-may
record-requires-clause-may g c =
    let u = c.requires.seen in
    let h = c.notes.invariant.sees u.events u.notes u.old u.stands u.sees in
    record {
      events = u.events;
      notes = u.notes ++ h.more;
      instant = None;
      old = u.old;
      given = next_is g (goal.at.record-requires-clause-may g c).In-Ok-true u.events (u.notes ++ h.more) h.stands;
      sees = h.sees;
    }

pub see_instant-requires-clause-seen : goal.see_instant-requires-clause-seen
see_instant-requires-clause-seen g c =
    let at = goal.at.see_instant-requires-clause-seen g c in
    let time_is = ap (λ (n : NoteValue). n.time) c.note.view_is in
    let u = c.requires.seen in
    let h = c.notes.invariant.sees u.events u.notes u.old u.stands u.sees in
    let ns = u.notes ++ h.more in
    let next = next_is g at.In-Ok-true u.events ns h.stands in
    record {
      events = u.events;
      notes = ns ++ c.next_given.new.note ∷ [];
      old = u.old;
      at = under_way g at.In-Ok-true-record u.events ns time_is (soon g at.In-Ok-true) h.stands next;
      sees = waits g at.In-Ok-true-record u.events ns u.old time_is next h.sees;
    }

pub notes-smaller : goal.notes-smaller
notes-smaller g c = c.in-Ok-true.ensures.fewer c.in-Ok-true.field-0-test

pub notes-preserved : goal.notes-preserved
notes-preserved g c =
    let network = c.args.network.now in
    let until = c.args.until in
    let sink = g.K.Sink in
    let see = g.O.Observer.sees in
    let note = c.next_given.new.note in
    let world = c.notes.world in
    let next = c.next_given.new.self in
    let at = (goal.at.notes-preserved g c).In-Ok-true in
    let before = soon g at in
    let u = c.requires.seen in
    let own = c.notes.invariant.sees u.events u.notes u.old u.stands u.sees in
    let first = next_is g at u.events (u.notes ++ own.more) own.stands in
    record {
      sees = λ events notes old a b.
          let h = c.notes.invariant.sees events notes old a b in
          let gave = next_is g at events (notes ++ h.more) h.stands in
          let saw = subst (λ asks. see network events ((notes ++ h.more) ++ note ∷ []) (instant_of None asks note.time) old
          (told_by sink c.record.new.out) c.record.new.self) c.in-Ok-false-record.field-0-test
          (c.in-Ok-false-record.ensures.goes events (notes ++ h.more) None old gave h.sees) in
          seen_one see network events notes None (amount until) world c.notes.observer old (told_by sink c.notes.out) h note next
          (below_amount next.now until.0 before) gave.stands c.record.new.self (told_by sink c.record.new.out) saw;
      asked = asked_still own.stands first.stands (omega (arith, ints, before)) c.notes.invariant.asked;
      way = λ open_. inr (inl before);
      puts = puts_more c.in-Ok-false-record.field-0 c.notes.invariant.puts c.in-Ok-false-record.ensures.puts;
    }

pub notes-smaller-in-Ok : goal.notes-smaller-in-Ok
notes-smaller-in-Ok g c =
    let at = goal.at.notes-smaller-in-Ok g c in
    let time_is = ap (λ (n : NoteValue). n.time) c.note.view_is in
    let u = c.requires.seen in
    let h = c.notes.invariant.sees u.events u.notes u.old u.stands u.sees in
    let ns = u.notes ++ h.more in
    let next = next_is g at.In-Ok-true u.events ns h.stands in
    let s = c.in-Ok.ensures.sees u.events (ns ++ c.next_given.new.note ∷ []) u.old
    (under_way g at.In-Ok-true-record u.events ns time_is (soon g at.In-Ok-true) h.stands next)
    (waits g at.In-Ok-true-record u.events ns u.old time_is next h.sees) in
    fewer s.more c.next_given.new.note h.stands s.stands

pub notes-preserved-in-Ok : goal.notes-preserved-in-Ok
notes-preserved-in-Ok g c =
    let network = c.args.network.now in
    let until = c.args.until in
    let sink = g.K.Sink in
    let see = g.O.Observer.sees in
    let note = c.next_given.new.note in
    let world = c.notes.world in
    let next = c.next_given.new.self in
    let time = c.note.inside.time in
    let time_is : time ≡ note.time = ap (λ (n : NoteValue). n.time) c.note.view_is in
    let at = goal.at.notes-preserved-in-Ok g c in
    let before = soon g at.In-Ok-true in
    let u = c.requires.seen in
    let own = c.notes.invariant.sees u.events u.notes u.old u.stands u.sees in
    let ns = u.notes ++ own.more in
    let first = next_is g at.In-Ok-true u.events ns own.stands in
    let past = c.see_instant.new.world in
    let on = c.in-Ok.ensures.past in
    let s = c.in-Ok.ensures.sees u.events (ns ++ note ∷ []) u.old
    (under_way g at.In-Ok-true-record u.events ns time_is before own.stands first)
    (waits g at.In-Ok-true-record u.events ns u.old time_is first own.sees) in
    let others : (ms : List NoteValue) × StandsExact network past u.events ms = ((ns ++ note ∷ []) ++ s.more, s.stands) in
    record {
      sees = λ events notes old a b.
          let h = c.notes.invariant.sees events notes old a b in
          let gave = next_is g at.In-Ok-true events (notes ++ h.more) h.stands in
          let s = c.in-Ok.ensures.sees events ((notes ++ h.more) ++ note ∷ []) old
          (under_way g at.In-Ok-true-record events (notes ++ h.more) time_is before h.stands gave)
          (waits g at.In-Ok-true-record events (notes ++ h.more) old time_is gave h.sees) in
          let same = ap amount (time_is ∙ gave.at) in
          let below = below_amount next.now until.0 before in
          seen_instant see network events notes None (amount until) world c.notes.observer old (told_by sink c.notes.out) h note next
          below gave.stands time past c.see_instant.new.observer (told_by sink c.see_instant.new.out) (omega (arith, same, below)) s;
      asked = asked_still own.stands others.1 (past_order next past until before on) c.notes.invariant.asked;
      way = λ open_.
          past_near c.args.world.now next past until before ((go_on u.stands others.1).unended open_) on;
      puts = puts_more (tt {0})
          (puts_more c.in-Ok-true-record.field-0 c.notes.invariant.puts c.in-Ok-true-record.ensures.puts)
          c.in-Ok.ensures.puts;
    }

pub returns-in-Err-see_instant-clause-sees : goal.returns-in-Err-see_instant-clause-sees
returns-in-Err-see_instant-clause-sees g c events notes old a b =
    let network = c.args.network.now in
    let until = c.args.until in
    let sink = g.K.Sink in
    let note = c.next_given.new.note in
    let next = c.next_given.new.self in
    let time = c.note.inside.time in
    let time_is : time ≡ note.time = ap (λ (n : NoteValue). n.time) c.note.view_is in
    let at = goal.at.returns-in-Err-see_instant-clause-sees g c in
    let before = soon g at.In-Ok-true in
    let h = c.notes.invariant.sees events notes old a b in
    let ns = notes ++ h.more in
    let gave = next_is g at.In-Ok-true events ns h.stands in
    let k = c.in-Err-see_instant.ensures.sees events (ns ++ note ∷ []) old
    (under_way g at.In-Ok-true-record events ns time_is before h.stands gave)
    (waits g at.In-Ok-true-record events ns old time_is gave h.sees) in
    let same = ap amount (time_is ∙ gave.at) in
    let below = below_amount next.now until.0 before in
    cut_in_instant g.O.Observer.sees network events notes None (amount until) c.notes.world c.notes.observer old (told_by sink c.notes.out) h note next below
    gave.stands g.O.Observer.stops c.in-Err-see_instant.cut (amount time + 1) (told_by sink c.see_instant.new.out) (omega (arith, same, below)) k

pub returns-in-Err-see_instant-clause-puts : goal.returns-in-Err-see_instant-clause-puts
returns-in-Err-see_instant-clause-puts g c =
    let sink = g.K.Sink in
    puts_cut c.in-Err-see_instant.cut
    (puts_more c.in-Ok-true-record.field-0 c.notes.invariant.puts c.in-Ok-true-record.ensures.puts)
    c.in-Err-see_instant.ensures.puts

pub returns-in-Err-record-clause-sees : goal.returns-in-Err-record-clause-sees
returns-in-Err-record-clause-sees g c events notes old a b =
    let next = c.next_given.new.self in
    let at = (goal.at.returns-in-Err-record-clause-sees g c).In-Ok-true in
    let h = c.notes.invariant.sees events notes old a b in
    let gave = next_is g at events (notes ++ h.more) h.stands in
    cut_one g.O.Observer.sees c.args.network.now events notes None (amount c.args.until) c.notes.world c.notes.observer old
    (told_by g.K.Sink c.notes.out) h c.next_given.new.note next (below_amount next.now c.args.until.0 (soon g at)) gave.stands
    g.O.Observer.stops c.in-Err-record.cut (told_by g.K.Sink c.record.new.out)
    (c.in-Err-record.ensures.goes events (notes ++ h.more) None old gave h.sees)

pub returns-in-Err-record-clause-puts : goal.returns-in-Err-record-clause-puts
returns-in-Err-record-clause-puts g c =
    puts_cut c.in-Err-record.cut c.notes.invariant.puts c.in-Err-record.ensures.puts

pub returns-in-Ok-false-clause-sees : goal.returns-in-Ok-false-clause-sees
returns-in-Ok-false-clause-sees g c events notes old a b =
    let network = c.args.network.now in
    let until = c.args.until in
    let next = c.next_given.new.self in
    let h = c.notes.invariant.sees events notes old a b in
    let ns = notes ++ h.more in
    seen_until until c.args.world.now h
    (given_none network events ns next c.in-Ok-false.field-0 c.next_given.new.note c.in-Ok-false.field-0-test
    (c.in-Ok-false.ensures.stands network events ns h.stands))
    (λ ended lt.
    let same = (end_stays a h.stands ended).1 in
    (c.in-Ok-false.ensures.complete network events ns h.stands (omega (arith, ints, same, lt)) c.in-Ok-false.field-0-test).run)

pub returns-in-Ok-false-clause-reached : goal.returns-in-Ok-false-clause-reached
returns-in-Ok-false-clause-reached g c =
    let network = c.args.network.now in
    let next = c.next_given.new.self in
    let u = c.requires.seen in
    let h = c.notes.invariant.sees u.events u.notes u.old u.stands u.sees in
    way_reached c.args.until next u.stands h.stands c.notes.invariant.way
    (comes_to c.notes.world next c.args.until c.in-Ok-false.field-0 c.next_given.new.note c.in-Ok-false.ensures.reached c.in-Ok-false.field-0-test)

pub returns-in-Ok-false-clause-puts : goal.returns-in-Ok-false-clause-puts
returns-in-Ok-false-clause-puts g c = puts_well (tt {0}) c.notes.invariant.puts

pub returns-in-Err-clause-sees : goal.returns-in-Err-clause-sees
returns-in-Err-clause-sees g c events notes old a b =
    let h = c.notes.invariant.sees events notes old a b in
    cut_here g.O.Observer.sees c.args.network.now events notes None (amount c.args.until) c.notes.world c.notes.observer old
    (told_by g.K.Sink c.notes.out) h g.O.Observer.stops _
    (g.met.O.Observer.cut c.args.network.now events (notes ++ h.more) None old (told_by g.K.Sink c.notes.out) c.notes.observer h.sees)
