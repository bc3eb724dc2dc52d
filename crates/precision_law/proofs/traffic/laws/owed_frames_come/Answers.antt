use Rattle.precision_law.proofs.traffic_lemmas.Safe.{frames_are_delivered}
use Rattle.precision_law.proofs.traffic.laws.owed_frames_come.Goals as goal

pub returns : goal.returns
returns c = frames_are_delivered
