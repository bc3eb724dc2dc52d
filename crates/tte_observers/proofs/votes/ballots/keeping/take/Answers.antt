use Rattle.std.{proofs.Common.{◌∙◌, ◌≡◌, Some, ap, subst, sym, ℕ}, specs.{BTreeMap.Updates, Ordering.nat_cmp}}
use Rattle.tte_observers.proofs.votes_lemmas.ballots_lemmas.Ballots.{ballots_more, ballots_other}
use Rattle.tte_observers.specs.{declared.votes.ballots.seats.Seats.Seats, votes.ballots.Keeping.{key_of, seats_at, seats_with}}
use Rattle.tte_observers.proofs.votes.ballots.keeping.take.Goals as goal

pub returns-then-not-is_voter : goal.returns-then-not-is_voter
returns-then-not-is_voter c hs h are taken last =
    ballots_other hs h c.args.voters c.args.ballots.now c.args.delivery taken (sym c.is_voter.ensures ∙ c.if-not-is_voter.true) are

pub returns-in-Ok : goal.returns-in-Ok
returns-in-Ok c hs h are taken last =
    let old = c.args.ballots.now in
    let new = c.insert.new.self in
    let d = c.args.delivery in
    let seats : c.seats_with-seats.result ≡ seats_with c.args.voters d.vl c.args.number (seats_at old (key_of d.cycle d.device)) = c.seats_with-seats.ensures
    ∙ ap (seats_with c.args.voters d.vl c.args.number) (c.seats_at.ensures ∙ ap (seats_at old) c.key_of-key.ensures.value) in
    let put : Updates nat_cmp old new (key_of d.cycle d.device) (Some (seats_with c.args.voters d.vl c.args.number
    (seats_at old (key_of d.cycle d.device)))) =
    subst (λ (x : Seats). Updates nat_cmp old new (key_of d.cycle d.device) (Some x)) seats
    (subst (λ (k : ℕ). Updates nat_cmp old new k (Some c.seats_with-seats.result)) c.key_of-key.ensures.value c.in-Ok.ensures.updates) in
    ballots_more hs h c.args.voters old new d c.args.number taken last are c.key_of-key.ensures.cycle c.key_of-key.ensures.device put
