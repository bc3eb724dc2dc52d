use Rattle.sync_state.proofs.membership_lemmas.SummaryLemmas.{read_best, read_none, reads_a, reads_b}
use Rattle.sync_state.proofs.membership.heard.Heard.best.Goals as goal

pub returns-in-A-clause-best : goal.returns-in-A-clause-best
returns-in-A-clause-best c = read_best c.args.self.now c.args.channel _ (reads_a _ c.args.self.now c.args.channel c.self.view_is c.in-A.is)

pub returns-in-A-clause-none : goal.returns-in-A-clause-none
returns-in-A-clause-none c = read_none c.args.self.now c.args.channel _ (reads_a _ c.args.self.now c.args.channel c.self.view_is c.in-A.is)

pub returns-in-B-clause-best : goal.returns-in-B-clause-best
returns-in-B-clause-best c = read_best c.args.self.now c.args.channel _ (reads_b _ c.args.self.now c.args.channel c.self.view_is c.in-B.is)

pub returns-in-B-clause-none : goal.returns-in-B-clause-none
returns-in-B-clause-none c = read_none c.args.self.now c.args.channel _ (reads_b _ c.args.self.now c.args.channel c.self.view_is c.in-B.is)
