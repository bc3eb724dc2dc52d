use Rattle.lens_why.proofs.Frames.{taken_in_windows}
use Rattle.lens_why.proofs.laws.windows_law.Goals as goal

pub returns : goal.returns
returns c = taken_in_windows
