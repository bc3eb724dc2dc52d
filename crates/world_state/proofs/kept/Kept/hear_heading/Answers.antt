use Rattle.std.proofs.Common.{◌∙◌}
use Rattle.world_state.proofs.WorldSteps.{heard_sound}
use Rattle.world_state.proofs.kept.Kept.hear_heading.Goals as goal

pub returns-in-Sound : goal.returns-in-Sound
returns-in-Sound g c = λ octets are network device node is may arrives.
    let it = rw c.in-Sound.is at is in
    let heard = c.hear_heading.ensures octets are network device node it.0 may arrives in
    (heard.0, (heard.1, heard_sound node c.args.moment c.hear_heading.result ∙ it.1))
