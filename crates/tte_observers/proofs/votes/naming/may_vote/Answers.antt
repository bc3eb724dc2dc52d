use Rattle.tte_observers.proofs.votes_lemmas.{VoteLines.vl_read, Words.sym}
use Rattle.tte_observers.proofs.votes.naming.may_vote.Goals as goal

pub returns : goal.returns
returns c =
    let vls = c.args.network.now.vl in
    let read = vl_read c.as_slice-vls.result.now vls in
    let a = c.index-vls-voters.result in
    let b = c.index-vls-voters-2.result in
    let d = c.index-vls-voters-3.result in (
      a,
      b,
      d,
      record {
        first = read c.args.voters.first.0 a c.as_slice-vls.ensures c.requires.first c.index-vls-voters.is;
        second = read c.args.voters.second.0 b c.as_slice-vls.ensures c.requires.second c.index-vls-voters-2.is;
        third = read c.args.voters.third.0 d c.as_slice-vls.ensures c.requires.third c.index-vls-voters-3.is;
        told = sym c.are_matches.ensures;
      },
    )
