use Rattle.std.proofs.Common.{◌∙◌, ◌≡◌, Some, false, inl, inr, subst, sym, true}
use Rattle.tte_observers.{proofs.votes.tmr.ballot.Ballot.result.Goals.{else-equals, then-equals}, specs.votes.tmr.Vote.{AreEqual, IsVote, Votes}}
use Rattle.tte_observers.proofs.votes_lemmas.tmr_lemmas.Votes.{denied, vote_first, vote_second}
use Rattle.tte_observers.proofs.votes.tmr.ballot.Ballot.result.Goals as goal

pub returns-then-equals-2-clause-means : goal.returns-then-equals-2-clause-means
returns-then-equals-2-clause-means c =
    let v : Votes = record { first = c.self.inside.first; second = c.self.inside.second; third = c.self.inside.third } in
    elim c.if-equals.branch [
      | then-equals w ↦ subst (λ x. IsVote x (Some 0)) c.self.view_is
          (vote_first v (inl (c.equals.ensures.means.0 w.if-equals.true)))
      | else-equals w ↦ subst (λ x. IsVote x (Some 0)) c.self.view_is
          (vote_first v (inr (w.equals-else-equals.ensures.means.0 (sym w.value-is ∙ c.if-equals-2.true))))
    ]

pub returns-then-equals-3-clause-means : goal.returns-then-equals-3-clause-means
returns-then-equals-3-clause-means c =
    let v : Votes = record { first = c.self.inside.first; second = c.self.inside.second; third = c.self.inside.third } in
    let both : AreEqual v.second v.third = c.equals-else-equals-2.ensures.means.0 c.if-equals-3.true in
    elim c.if-equals.branch [
      | then-equals w ↦ let no : true ≡ false = sym w.if-equals.true ∙ (sym w.value-is ∙ c.if-equals-2.false) in absurd cc
      | else-equals w ↦ subst (λ x. IsVote x (Some 1)) c.self.view_is
          (vote_second v (denied c.equals.result c.equals.ensures.means.1 w.if-equals.false)
          (denied w.equals-else-equals.result w.equals-else-equals.ensures.means.1 (sym w.value-is ∙ c.if-equals-2.false)) both)
    ]
