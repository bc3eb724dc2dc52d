use Rattle.std.proofs.Common.{◌∙◌, ap, sym}
use Rattle.tte_observers.{proofs.votes_lemmas.ballots_lemmas.Ballots.ballots_none}
use Rattle.tte_observers.{specs.votes.ballots.Keeping.delivery_in}
use Rattle.tte_observers.proofs.votes.ballots.keeping.take_record.Goals as goal

pub returns-in-Some : goal.returns-in-Some
returns-in-Some c hs h are body last = c.take.ensures hs h are (ap delivery_in body ∙ sym c.in-Some.ensures) last

pub returns-in-None : goal.returns-in-None
returns-in-None c hs h are body last = ballots_none hs h c.args.voters c.args.ballots.now (ap delivery_in body ∙ sym c.in-None.ensures) are
