use Rattle.std.proofs.Common.{◌∙◌, sym}
use Rattle.lens_flows.proofs.counts_lemmas.Counts.{no_end_system, no_window}
use Rattle.lens_flows.proofs.counts.flows.flow_to.Goals as goal

pub returns-then-not-is_end : goal.returns-then-not-is_end
returns-then-not-is_end c flow to = no_end_system (sym c.is_end.ensures ∙ c.if-not-is_end.true) to

pub returns-in-None : goal.returns-in-None
returns-in-None c flow to = no_window c.in-None.ensures to
