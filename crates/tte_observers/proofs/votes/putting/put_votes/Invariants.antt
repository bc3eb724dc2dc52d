use Rattle.tte_observers.proofs.votes_lemmas.VoteLines.{lines_to}
use Rattle.tte_observers.proofs.votes_lemmas.Words.{◌^◌, ◌≡◌, ◌≤◌, HoldsVotes, List, PutsLines, happenings, shown_by, ℕ}
use Rattle.tte_observers.specs.{declared.votes.law.voters.Voters.{Voters as VotersValue}, votes.ballots.Keeping.{HoldsFrom, kept_count}}
use Rattle.run_law.specs.declared.note.Note.{Note as NoteValue}
use Rattle.tte_observers.proofs.votes.putting.put_votes.Given as goal

abbrev pub invariant-ballots : goal.invariant-ballots
invariant-ballots g l = record {
  votes : (voters : VotersValue) (notes : List NoteValue) → HoldsVotes l.network voters notes l.fn.votes
      → (from : ℕ) × HoldsFrom l.network voters notes from l.votes
      × PutsLines (lines_to l.network voters (happenings l.network notes) from) (shown_by g.K.Sink l.fn.out) (shown_by g.K.Sink l.out)
      × (from ≤ 2 ^ 64);
  quiet : g.K.Sink.faults l.out ≡ g.K.Sink.faults l.fn.out;
}

abbrev pub decreases-ballots : goal.decreases-ballots
decreases-ballots g l = kept_count l.votes
