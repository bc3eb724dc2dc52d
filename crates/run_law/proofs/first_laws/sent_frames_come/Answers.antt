use Rattle.run_law.proofs.first_laws.sent_frames_come.Goals as goal
use Rattle.run_law.proofs.law.FirstDeliveries.{sent_frames_come}

pub returns : goal.returns
returns c = sent_frames_come
