use Rattle.drift_world.{specs.Running.next_of}
use Rattle.drift_world.proofs.{Turning.comes_up_to}
use Rattle.drift_world.proofs.{Words.{keeps_clock_laws, reading_of, scenario, subst, sym, world_of}}
use Rattle.precision_law.{proofs.traffic_lemmas.safety_lemmas.Lawful.before}
use Rattle.precision_law.{specs.traffic.safety.{Headline.IsSafeFront, Under.IsUnder}}
use Rattle.drift_world.proofs.Words.{◌++◌, ◌∷◌, ◌≡◌, Bool, Err, IfOk, IsLawful, IsRunOf, List, Network, Note, Ok, Result}
use Rattle.drift_world.proofs.Words.{Scenario, Stands, World, [], amount, ap, arith, begins_at_zero, false, given_by, ints, keeps}
use Rattle.drift_world.proofs.world.World.next_given.Given as given
use Rattle.drift_world.proofs.world.World.next_given.Goals as goal

-- the view is that of the network that is answered
viewed : (g : given.Over) (c : goal.After-next g) → world_of c.network.result.now c.self.inside.state ≡ c.args.self.now
viewed g c = rw c.network.ensures.value c.self.view_is

pub returns-then-until-from_amount-clause-complete : goal.returns-then-until-from_amount-clause-complete
returns-then-until-from_amount-clause-complete g c = λ network events notes under lt none.
    let now = ap World.now c.self.view_is in
    let test = c.if-until-from_amount.true in
    let is = c.from_amount.ensures.whole in
    absurd (omega (arith, ints))

pub returns-clause-stands : goal.returns-clause-stands
returns-clause-stands g c = λ network events notes under.
    let K = g.C.Clock in
    let S = g.M.Machine.stands in
    let s = scenario network (reading_of K.fresh K.after_step K.reading network events) events in
    let old = rw (sym (viewed g c)) at under in
    let new = rw c.network.ensures.value at (c.next.ensures.kept.stands_then s notes old.is) in
    record {
      is = new;
      clocks = λ device there. rw c.next.ensures.kept.after.clocks (old.clocks device there);
      of_network = old.of_network;
      times = old.times;
      within = old.within;
    }

-- the laws of the clocks
lawful : (g : given.Over) → IsLawful g.C.Clock.fresh g.C.Clock.after_step g.C.Clock.reading g.C.Clock.grain_of g.C.Clock.count
lawful g = record {
  has_grain = g.met.C.Clock.has_grain;
  keeps_grain = g.met.C.Clock.keeps_grain;
  reads_count = g.met.C.Clock.reads_count;
  counts_time = g.met.C.Clock.counts_time;
  keeps_count = g.met.C.Clock.keeps_count;
  drifts = g.met.C.Clock.drifts;
}

-- what holds where there is no more
where_none : {E : Type 0} (P Q : Type 0) (r : Result Bool E) → (P → Q) → IfOk r (λ more. more ≡ false → P) → IfOk r (λ more. more ≡ false → Q)
where_none P Q (Ok more) step it = λ none. step (it none)
where_none P Q (Err e) step it = it

pub returns-clause-complete : goal.returns-clause-complete
returns-clause-complete g c = λ network events notes under lt.
    let K = g.C.Clock in
    let S = g.M.Machine.stands in
    let f = reading_of K.fresh K.after_step K.reading network events in
    let s = scenario network f events in
    let old = rw (sym (viewed g c)) at under in
    let whole = rw c.amount.ensures.value at (c.next.ensures.complete s notes old.is) in
    let admitted : IsUnder network events = record {
      range = under.is.range;
      rules = under.is.rules;
      of_network = under.of_network;
      times = under.times;
      within = under.within;
    } in
    where_none (IsRunOf network f events (amount c.args.until ∷ []) notes)
    (IsSafeFront K.fresh K.after_step K.reading network events (amount c.args.until) notes) c.next.result
    (before K.fresh K.after_step K.reading
    (keeps_clock_laws K.fresh K.after_step K.reading K.grain_of K.count (lawful g))
    (begins_at_zero K.fresh K.after_step K.reading K.grain_of K.count (lawful g)) (amount c.args.until) notes
    admitted) whole

pub returns-clause-reached : goal.returns-clause-reached
returns-clause-reached g c =
    let K = g.C.Clock in
    let S = g.M.Machine.stands in
    let own = c.self.inside.accepted.now in
    let new = c.next.new.self in
    let Steps = λ (n : Network). (s : Scenario) (notes : List Note) → Stands K.reading (keeps S) s
    (world_of n c.self.inside.state) notes
    → Stands K.reading (keeps S) s (world_of n new) (notes ++ given_by (next_of c.next.result c.next.new.note)) in
    rw c.self.view_is at (comes_up_to _ c.next.result c.next.new.note c.args.until c.amount.result
    c.amount.ensures.whole c.next.ensures.kept.after
    c.self.invariant.running (subst Steps c.network.ensures.value c.next.ensures.kept.stands_then)
    c.next.ensures.says)
