use Rattle.std.proofs.Common.{◌<◌, ◌∙◌, ap, length, refl, subst, sym}
use Rattle.audit_law.specs.events.Readings.{scenario_under}
use Rattle.audit_sweep.proofs.records_lemmas.wires_lemmas.Wires.{send_lost, sent_on, whole_way}
use Rattle.device_rules.proofs.Takings.{read_at}
use Rattle.audit_sweep.proofs.records.wires.losing.loss_due.Goals as goal

pub returns-then-not-is_cut : goal.returns-then-not-is_cut
returns-then-not-is_cut c befallen hs h cause rem there k o =
    let lookup = c.in-Some.ensures.lookup in
    let has = subst (λ xs. c.in-Send.link.0 < length xs) c.as_slice.ensures lookup.3.0 in
    whole_way (scenario_under c.args.network.now befallen) hs h c.args.kept.now c.in-Send.link there k
    (ap sent_on c.in-Send.is)
    (sym (c.is_cut.ensures c.args.network.now befallen rem has) ∙ c.if-not-is_cut.true) o

pub returns : goal.returns
returns c befallen hs h cause rem there k =
    let s = scenario_under c.args.network.now befallen in
    let lookup = c.in-Some.ensures.lookup in
    let has = subst (λ xs. c.in-Send.link.0 < length xs) c.as_slice.ensures lookup.3.0 in
    let found = read_at c.as_slice.result.now c.args.network.now.link c.in-Send.link.0 c.in-Some.found.now c.as_slice.ensures lookup.3.0 lookup.1 in (
      record {
        device = c.in-Some.found.now.child;
        link = c.in-Send.link;
        time = c.args.kept.now.time;
        lost = send_lost s hs h c.args.kept.now cause c.in-Send.link c.in-Some.found.now there k (ap sent_on c.in-Send.is) found
            (sym (c.is_cut.ensures c.args.network.now befallen rem has) ∙ c.if-not-is_cut.false);
        timely = c.if-until-time.false;
      },
      refl,
      refl,
      refl,
    )
