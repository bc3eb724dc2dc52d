use Rattle.{report_text.specs.NoteLine.body_text, std.proofs.Common.append_assoc}
use Rattle.report_text.proofs.kinds.push_plain.Goals as goal

pub returns-in-Compressed-clause-text : goal.returns-in-Compressed-clause-text
unfolding body_text
returns-in-Compressed-clause-text c = rw (c.in-Compressed.is, c.push_summary.ensures.text, c.push_collection.ensures.text) (simp append_assoc)
