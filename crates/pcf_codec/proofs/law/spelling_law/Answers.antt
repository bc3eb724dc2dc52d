use Rattle.pcf_codec.proofs.Spellings.{is_prefix_free, is_spelling}
use Rattle.pcf_codec.proofs.law.spelling_law.Goals as goal

pub returns-clause-agreement : goal.returns-clause-agreement
returns-clause-agreement c = is_spelling

pub returns-clause-prefixes : goal.returns-clause-prefixes
returns-clause-prefixes c = is_prefix_free
