use Rattle.drift_world.{specs.{Turns.{IsPassed, IsWhole, PassSays}, declared.state.State.State}}
use Rattle.drift_world.proofs.{Foremost.of_world, Nearings.passing_nears, Turning.{passed_same, passes, whole_run}}
use Rattle.drift_world.proofs.{Words.{inl, inr, keeps, refl, true, world_of, ℕ}}
use Rattle.drift_world.proofs.{state.State.pass_on.Goals.After-pass_to}
use Rattle.drift_world.proofs.Words.{◌+◌, ◌<◌, ◌^◌, ◌∙◌, ◌≡◌, ◌≤◌, ◌⊎◌, List, Note, Scenario, Stands, StandsOn, Turn, ap, arith, both_ways, false}
use Rattle.drift_world.proofs.state.State.pass_on.Given as given
use Rattle.drift_world.proofs.state.State.pass_on.Goals as goal

-- where no time may pass, the time is the last
last : (time until now : ℕ) (ended : _) → (ended ≡ true ⊎ ((ended ≡ false) × (2 ^ 60 < time))) → now < time → time ≤ until → until ≤ 2 ^ 60 + 1
    → (ended ≡ true → until ≤ now + 1) → time ≡ until
last time until now ended (inl is) later within limit most = let le = most is in omega arith
last time until now ended (inr far) later within limit most = let gt = far.1 in omega arith

-- where nothing is under way before the time, time passes
still : (g : given.Over) (c : After-pass_to g)
    → StandsOn g.C.Clock.reading g.M.Machine.stands c.args.network.now c.args.self.now c.pass_to.new.self
still g c s notes old =
    let sound = c.requires.may.well.sound in
    (c.pass_to.ensures.stands c.args.network.now s notes old
    (of_world g.M.Machine.stands old
    sound.sized sound.under_way c.requires.nothing)).0

passed : (g : given.Over) (c : After-pass_to g) (turn : Turn) → PassSays c.args.self.now c.pass_to.new.self c.args.until turn
    → ((s : Scenario) (notes : List Note) → Stands g.C.Clock.reading (keeps g.M.Machine.stands) s
    (world_of c.args.network.now c.args.self.now) notes
    → IsWhole s notes c.args.until turn)
    → IsPassed g.C.Clock.last_step g.C.Clock.reading g.M.Machine.stands c.args.network.now c.args.until c.args.self.now c.pass_to.new.self turn
passed g c turn says whole =
    let r = c.requires in
    let same = c.pass_to.ensures.same in
    let later = r.later in
    let time = ap State.time same in
    record {
      well = passes r.may.well r.nothing later
          (omega (arith, c.if-time-gt-LAST.false)) same
          (c.pass_to.ensures.sound c.args.network.now r.may.well.sound) (still g c);
      still = still g c;
      whole = whole;
      says = says;
      same = passed_same c.args.self.now c.pass_to.new.self c.args.time true same;
      later = omega arith;
    }

pub returns-then-self-clause-passed : goal.returns-then-self-clause-passed
returns-then-self-clause-passed g c =
    let r = c.requires in
    record {
      well = r.may.well;
      still = λ s notes is. is;
      whole = λ s notes old.
          rw (last c.args.time c.args.until c.args.self.now.time c.args.self.now.ended c.then-self.either r.later
          r.within r.may.limit r.may.ended) at (whole_run r.may.well.sound r.nothing
          r.empty r.later old);
      says = λ early most. elim c.then-self.either [
        | inl is ↦ absurd (both_ways c.args.self.now.ended early is)
        | inr far ↦ let gt = far.1 in let within = r.within in absurd (omega arith)
      ];
      same = refl;
      later = omega arith;
    }

pub returns-then-time-until-clause-passed : goal.returns-then-time-until-clause-passed
returns-then-time-until-clause-passed g c =
    let time = ap State.time c.pass_to.ensures.same in
    let less = c.if-time-until.true in
    passed g (goal.at.returns-then-time-until-clause-passed g c).After-pass_to _ (
      omega arith,
      ap State.given c.pass_to.ensures.same,
    ) (λ s notes is. tt)

pub returns-else-time-until-clause-passed : goal.returns-else-time-until-clause-passed
returns-else-time-until-clause-passed g c =
    let r = c.requires in
    let within = r.within in
    let not_less = c.if-time-until.false in
    let at : c.args.time ≡ c.args.until = omega arith in
    passed g (goal.at.returns-else-time-until-clause-passed g c).After-pass_to _
    (λ early most. record { time = ap State.time c.pass_to.ensures.same ∙ at; early = ap State.early c.pass_to.ensures.same })
    (λ s notes old. rw at at (whole_run r.may.well.sound r.nothing
    r.empty r.later old))

pub returns-then-time-until-clause-nears : goal.returns-then-time-until-clause-nears
returns-then-time-until-clause-nears g c =
    let r = c.requires in
    passing_nears g.C.Clock.last_step g.C.Clock.reading g.M.Machine.stands c.args.network.now c.args.until c.args.time _ c.args.self.now
    (returns-then-time-until-clause-passed g c).well c.pass_to.ensures.same r.later
    r.within
