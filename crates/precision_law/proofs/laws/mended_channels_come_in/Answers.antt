use Rattle.precision_law.proofs.law.Whole.{mended_come_in, mended_relays}
use Rattle.precision_law.proofs.laws.mended_channels_come_in.Goals as goal

pub returns : goal.returns
returns c = record { unbroken = mended_come_in; kept = mended_relays }
