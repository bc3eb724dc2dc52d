use Rattle.device_rules.proofs.frames.traced.keeping.reclocked.Goals as goal

pub returns-clause-held : goal.returns-clause-held
returns-clause-held c = c.control.ensures.held c.args.pool.now
