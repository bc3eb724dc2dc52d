use Rattle.tte_observers.proofs.votes_lemmas.VoteLines.{next_within, puts_all, puts_fail, puts_first, puts_next}
use Rattle.tte_observers.proofs.votes_lemmas.{Words.{◌+◌, ◌∙◌, arith, key_of, refl, shown_by}}
use Rattle.tte_observers.proofs.votes_lemmas.{ballots_lemmas.Ballots.held_from_first}
use Rattle.tte_observers.proofs.votes.putting.put_votes.Goals as goal

pub ballots-init : goal.ballots-init
ballots-init g c = record {
  votes = λ voters notes holds.
      let network = c.args.network.now in (
        0,
        held_from_first holds,
        puts_first network voters notes (shown_by g.K.Sink c.args.out.now),
        omega arith,
      );
  quiet = refl;
}

pub ballots-preserved : goal.ballots-preserved
ballots-preserved g c = record {
  votes = λ voters notes holds.
      let network = c.args.network.now in
      let shown = shown_by g.K.Sink in
      let cycle = c.in-Some.cycle in
      let device = c.in-Some.device in
      let so_far = c.ballots.invariant.votes voters notes holds in
      let next = c.in-Some.ensures.next network voters notes so_far.0 so_far.1 in (
        key_of cycle device + 1,
        next.behind,
        puts_next network voters notes so_far.0 cycle device c.next.new.ballot c.next.new.self next (shown c.args.out.now) (shown c.ballots.out)
            (shown c.put_vote.new.out) so_far.2 c.in-Ok.ensures.lines.all,
        next_within network voters notes so_far.0 cycle device c.next.new.ballot c.next.new.self next (shown c.args.out.now) (shown c.ballots.out)
            (shown c.put_vote.new.out) so_far.2,
      );
  quiet = c.in-Ok.ensures.cause.quiet ∙ c.ballots.invariant.quiet;
}

pub returns-in-Err-clause-lines : goal.returns-in-Err-clause-lines
returns-in-Err-clause-lines g c = λ voters notes holds.
    let network = c.args.network.now in
    let shown = shown_by g.K.Sink in
    let so_far = c.ballots.invariant.votes voters notes holds in
    let next = c.in-Some.ensures.next network voters notes so_far.0 so_far.1 in
    record {
      all = tt {0};
      fails = puts_fail network voters notes so_far.0 c.in-Some.cycle c.in-Some.device c.next.new.ballot c.next.new.self next (shown c.args.out.now)
          (shown c.ballots.out) (shown c.put_vote.new.out) so_far.2 c.requires.few_devices c.in-Err.ensures.lines.fails;
    }

pub returns-in-None-clause-lines : goal.returns-in-None-clause-lines
returns-in-None-clause-lines g c = λ voters notes holds.
    let network = c.args.network.now in
    let shown = shown_by g.K.Sink in
    let so_far = c.ballots.invariant.votes voters notes holds in
    record {
      all = puts_all network voters notes so_far.0 (shown c.args.out.now) (shown c.ballots.out) c.requires.few_devices so_far.3
          (c.in-None.ensures.next network voters notes so_far.0 so_far.1) so_far.2;
      fails = tt {0};
    }
