use Rattle.fault_hypothesis.proofs.watch.Watch.admit.Goals as goal

pub returns-clause-judged : goal.returns-clause-judged
returns-clause-judged c = λ network admitted w of_network.
    let within = c.in_ok-judge.ensures network admitted w of_network in
    (within, c.keep.ensures network admitted w of_network within)
