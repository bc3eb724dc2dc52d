use Rattle.std.proofs.Common.{refl, rules, sym}
use Rattle.fault_hypothesis.proofs.storm_lemmas.OneStorm.{master_uplink, uplink_within}
use Rattle.{std.{proofs.lemmas.Option.slice_get_read}}
use Rattle.fault_hypothesis.proofs.storm.strike.forged_send.Goals as goal

pub returns-in_err-link-clause-value : goal.returns-in_err-link-clause-value
returns-in_err-link-clause-value c = λ keeps is.
    let up = master_uplink c.args.network.now c.args.device c.channel.result keeps is in
    absurd (c.in_err-link.ensures.none up.0 up.1)

pub returns-clause-value : goal.returns-clause-value
returns-clause-value c = λ keeps is. record {
  master = c.in_ok-master.master.now;
  member = c.in_ok-member.member;
  link = c.in_ok-link.link;
  octets = c.spelled.result;
  at = rw (sym c.as_slice.ensures)
      (slice_get_read c.as_slice.result.now _ c.args.device.0 c.in_ok-master.master.now refl
      c.in_ok-master.ensures.lookup.3.0
      c.in_ok-master.ensures.lookup.1);
  numbered = search rules;
  uplink = rw c.channel.ensures at c.in_ok-link.ensures.first.leads;
  spells = rw c.forged_frame-frame.ensures at c.spelled.ensures.spells;
  padding = c.spelled.ensures.padding;
  sends = refl;
  bytes = c.spelled.ensures.bytes;
}

pub returns-clause-of_network : goal.returns-clause-of_network
returns-clause-of_network c = uplink_within c.args.network.now c.args.device c.in_ok-link.link c.channel.result c.in_ok-link.ensures.first.leads

pub returns-clause-range : goal.returns-clause-range
returns-clause-range c = c.spelled.ensures.frame
