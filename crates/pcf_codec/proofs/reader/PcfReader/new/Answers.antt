use Rattle.pcf_codec.proofs.Sequences.{starts}
use Rattle.pcf_codec.proofs.reader.PcfReader.new.Goals as goal

pub returns-clause-stands : goal.returns-clause-stands
returns-clause-stands c = starts
