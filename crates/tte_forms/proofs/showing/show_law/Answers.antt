use Rattle.tte_forms.proofs.frames.Answers.{shows_frames}
use Rattle.tte_forms.proofs.showing.show_law.Goals as goal

pub returns : goal.returns
returns c = shows_frames
