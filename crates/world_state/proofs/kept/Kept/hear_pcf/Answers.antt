use Rattle.{std.proofs.Common.{◌∙◌}}
use Rattle.world_state.proofs.WorldSteps.{heard_sound}
use Rattle.world_state.proofs.kept.Kept.hear_pcf.Goals as goal

pub returns-in-Sound-clause-hears : goal.returns-in-Sound-clause-hears
returns-in-Sound-clause-hears g c = λ octets are network device node is may arrives.
    let it = rw c.in-Sound.is at is in
    let heard = c.hear_pcf.ensures.hears octets are network device node it.0 may arrives in
    (heard.0, (heard.1, heard_sound node c.args.moment c.hear_pcf.result ∙ it.1))

pub returns-in-Sound-clause-as_before : goal.returns-in-Sound-clause-as_before
returns-in-Sound-clause-as_before g c = λ network device node is.
    let was = c.hear_pcf.ensures.as_before network device node is.0 in
    (was.0, was.1, rw c.in-Sound.is (was.2, is.1))

pub returns-in-Out-clause-as_before : goal.returns-in-Out-clause-as_before
returns-in-Out-clause-as_before g c = λ network device node is. (node.last, node.phase, is)
