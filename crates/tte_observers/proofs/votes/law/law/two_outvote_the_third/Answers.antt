use Rattle.tte_observers.proofs.votes_lemmas.law_lemmas.Outvoted.{two_outvote_the_third}
use Rattle.tte_observers.proofs.votes.law.law.two_outvote_the_third.Goals as goal

pub returns : goal.returns
returns c = two_outvote_the_third
