use Rattle.device_rules.proofs.frames.traced.keeping.kept_of.Goals as goal

pub returns-in-Event-clause-view : goal.returns-in-Event-clause-view
returns-in-Event-clause-view c hs e = rw c.in-Event.is (c.kept_event.ensures.view c.args.network.now hs c.in-Event.line)

pub returns-in-Permanent-clause-held : goal.returns-in-Permanent-clause-held
returns-in-Permanent-clause-held c = c.silent.ensures.held c.args.pool.now.items

pub returns-in-TtSent-clause-held : goal.returns-in-TtSent-clause-held
returns-in-TtSent-clause-held c = c.dispatched.ensures.held c.args.pool.now.items c.requires.held

pub returns-in-Accepted-clause-held : goal.returns-in-Accepted-clause-held
returns-in-Accepted-clause-held c = c.came_from.ensures.held c.args.pool.now.items c.requires.held

pub returns-in-Delivered-clause-held : goal.returns-in-Delivered-clause-held
returns-in-Delivered-clause-held c = c.came_from-in-Delivered.ensures.held c.args.pool.now.items c.requires.held
