use Rattle.end_system.proofs.broken.BrokenTellsKind.hear_pcf.Goals as goal

pub returns-clause-as_before : goal.returns-clause-as_before
returns-clause-as_before c = λ network device node stands. (node.last, node.phase, stands)
