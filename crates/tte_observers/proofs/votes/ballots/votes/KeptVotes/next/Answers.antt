use Rattle.{std.proofs.Common.{◌<◌, ◌^◌, ◌∙◌, ◌≡◌, ap, arith}, tte_observers.specs.votes.{ballots.Keeping.key_of, tmr.Vote.payload_of}}
use Rattle.tte_observers.proofs.votes_lemmas.ballots_lemmas.Ballots
use Ballots.{filled, first_cast, first_given, none_in, none_left, place_of_key}
use Rattle.tte_observers.proofs.votes.ballots.votes.KeptVotes.next.Goals as goal

pub cast-requires-in-Some : goal.cast-requires-in-Some
cast-requires-in-Some c = (
  omega arith,
  c.cast.ensures.others 1 (λ e. cc) ∙ ap (λ v. payload_of v 1) c.clear.ensures,
)

pub cast-requires-in-Some-2 : goal.cast-requires-in-Some-2
cast-requires-in-Some-2 c = (
  omega arith,
  c.cast-in-Some.ensures.others 2 (λ e. cc) ∙ c.cast.ensures.others 2 (λ e. cc) ∙ ap (λ v. payload_of v 2) c.clear.ensures,
)

pub returns-in-Some-clause-next : goal.returns-in-Some-clause-next
returns-in-Some-clause-next c = λ network voters notes from held.
    let was = c.args.self.now in
    let key = c.in-Some.key in
    let seats = c.in-Some.seats in
    let cycle = c.cycle_of.result in
    let device = c.device_of.result in
    let e = c.cycle_of.ensures in
    let d = c.device_of.ensures in
    let small : cycle < 2 ^ 32 = c.cycle_of.type_inv in
    let few : device.0 < 2 ^ 32 = omega (arith, d) in
    let at : key ≡ key_of cycle device = place_of_key key cycle device.0 e d in
    let found = c.in-Some.ensures in
    let cast =
    first_cast network voters was.voters notes from key was.frames was.ballots c.pop_first.new.self seats held found.value found.least found.updates cycle
    device
    small few at in
    first_given network voters was.voters notes from key was.frames was.ballots c.pop_first.new.self seats held found.value found.least found.updates cycle
    device
    c.cast-in-Some-2.new.ballot small few at
    (filled network notes c.clear.new.self c.cast.new.ballot c.cast-in-Some.new.ballot c.cast-in-Some-2.new.ballot cast
    c.clear.ensures
    (c.cast.ensures.casts network notes held.frames) (c.cast-in-Some.ensures.casts network notes held.frames)
    (c.cast-in-Some-2.ensures.casts network notes held.frames))

pub returns-in-None-clause-next : goal.returns-in-None-clause-next
returns-in-None-clause-next c = λ network voters notes from held.
    none_left (none_in c.args.self.now.ballots.entries c.in-None.ensures.variant.1) held
