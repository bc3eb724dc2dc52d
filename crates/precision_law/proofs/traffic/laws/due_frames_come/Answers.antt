use Rattle.precision_law.proofs.traffic_lemmas.Safe.{due_are_delivered, due_are_owed}
use Rattle.precision_law.proofs.traffic.laws.due_frames_come.Goals as goal

pub returns : goal.returns
returns c = record { owed = due_are_owed; delivered = due_are_delivered }
