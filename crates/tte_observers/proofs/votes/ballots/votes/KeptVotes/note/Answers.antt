use Rattle.std.proofs.Common.{refl}
use Rattle.tte_observers.proofs.votes_lemmas.ballots_lemmas.Ballots.{more_taken}
use Rattle.tte_observers.proofs.votes.ballots.votes.KeptVotes.note.Goals as goal

pub returns : goal.returns
returns c = λ network voters notes holds number.
    more_taken c.take_record.result c.args.self.now.voters c.take_record.new.ballots c.args.note.now
    refl holds number (c.in-Ok.ensures.keeps network notes holds.frames) c.take_record.ensures
