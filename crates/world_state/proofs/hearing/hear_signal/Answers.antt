use Rattle.{device_rules.specs.Reading.AreOfFrame, pcf_codec.specs.Encoded.encoded}
use Rattle.std.proofs.Common.{subst}
use Rattle.world_state.proofs.WorldSteps.{given_octets, may_hear, may_hear_some}
use Rattle.world_state.specs.{Hearing.{IsAsSent}, Keeping.keeps}
use Rattle.world_state.proofs.hearing.hear_signal.Goals as goal

pub hear_pcf-arrival-requires : goal.hear_pcf-arrival-requires
hear_pcf-arrival-requires g c =
    let are = c.has_octets.ensures in
    may_hear_some (keeps g.M.Machine.stands) c.args.kept.now c.args.moment c.args.link (AreOfFrame c.in-Control.frame)
    (rw c.in-Control.is at c.requires.may) are are.is

pub returns-in-Control-clause-hears : goal.returns-in-Control-clause-hears
returns-in-Control-clause-hears g c =
    let frame = c.in-Control.frame in
    let are = c.has_octets.ensures in (
      encoded frame,
      rw c.in-Control.is are,
      c.hear_pcf-arrival.ensures.hears (encoded frame) are.is,
    )

pub hear_timed-arrival-requires-clause-may : goal.hear_timed-arrival-requires-clause-may
hear_timed-arrival-requires-clause-may g c =
    rw c.in-Timed.is at c.requires.may

pub hear_timed-arrival-requires-clause-as_sent : goal.hear_timed-arrival-requires-clause-as_sent
hear_timed-arrival-requires-clause-as_sent g c = subst (IsAsSent c.args.network.now) c.in-Timed.is c.requires.as_sent

pub hear-arrival-requires : goal.hear-arrival-requires
hear-arrival-requires g c =
    may_hear (keeps g.M.Machine.stands) c.args.kept.now c.args.moment c.args.link
    (rw c.in-Octets.is at c.requires.may)
    (given_octets c.as_slice.ensures.value c.as_slice.ensures.least c.as_slice.ensures.most)
