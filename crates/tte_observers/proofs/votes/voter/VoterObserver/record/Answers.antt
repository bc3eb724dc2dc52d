use Rattle.tte_observers.proofs.votes_lemmas.VoteLines.{number_given}
use Rattle.tte_observers.proofs.votes_lemmas.{Words.{◌++◌, ◌+◌, ◌∷◌, ◌≡◌, HoldsVotes, Note, [], length, subst, sym}}
use Rattle.tte_observers.proofs.votes.voter.VoterObserver.record.Goals as goal

pub returns-in-Ok-clause-goes : goal.returns-in-Ok-clause-goes
returns-in-Ok-clause-goes g c = λ events notes instant old given seen.
    let network = c.args._network.now in
    let number = number_given notes c.args.note.now given.stands in
    record {
      votes = subst (λ (n : Note). HoldsVotes network old.observer.votes.voters (notes ++ n ∷ []) c.note-2.new.self) c.note.ensures
          (c.in-Ok.ensures network old.observer.votes.voters notes seen.votes
          (subst (λ (n : Note). n.number ≡ length notes + 1) (sym c.note.ensures) number));
      nothing = seen.nothing;
    }
