use Rattle.drift_world.proofs.Turned.{sound_after}
use Rattle.drift_world.proofs.state.State.launch_frame.Goals as goal

pub returns-clause-sound : goal.returns-clause-sound
returns-clause-sound g c =
    let a = c.args in
    sound_after g.C.Clock.reading a.self.now a.body.now a.frame a.number _ _
    c.giving_by-giving.ensures.some c.give_frame.ensures.sound
    c.give_frame.ensures.none
