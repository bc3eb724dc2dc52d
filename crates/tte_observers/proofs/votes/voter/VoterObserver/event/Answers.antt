use Rattle.tte_observers.proofs.votes_lemmas.Words.{◌++◌, ◌+◌, ◌∷◌, ◌≡◌, HoldsVotes, Note, [], ap, length, subst, sym}
use Rattle.tte_observers.proofs.votes.voter.VoterObserver.event.Goals as goal

pub returns-in-Ok-clause-goes : goal.returns-in-Ok-clause-goes
returns-in-Ok-clause-goes g c = λ events notes old befell seen.
    let network = c.args._network.now in
    let number : c.args.note.now.number ≡ length notes + 1 = ap (λ (n : Note). n.number) befell.is in
    record {
      votes = subst (λ (n : Note). HoldsVotes network old.observer.votes.voters (notes ++ n ∷ []) c.note-2.new.self) c.note.ensures
          (c.in-Ok.ensures network old.observer.votes.voters notes seen.votes
          (subst (λ (n : Note). n.number ≡ length notes + 1) (sym c.note.ensures) number));
      nothing = seen.nothing;
    }
