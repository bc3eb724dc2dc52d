use Rattle.lens_flows.proofs.{AllTold.{all_told, deliveries_soon, flows_each}}
use Rattle.lens_flows.proofs.{counts_lemmas.KeptDeliveries.deliveries_kept}
use Rattle.run_law.specs.records.Happenings.{happenings}
use Rattle.tte_reports.proofs.Reports.{end_same, end_soon}
use Rattle.{lens_flows.specs.counts.FlowLists.AreFlows, std.specs.Prelude.{All, unsigned_abs}, tte_units.specs.Amount.amount}
use Rattle.{lens_flows.specs.declared.counts.deliveries.Delivery.Delivery, std.proofs.Common.{◌^◌, ◌∙◌, ◌≤◌, List, ap, arith, rules, subst, sym, ℤ}}
use Rattle.{std.{proofs.lemmas.Int.to_z-of_z, specs.Int.w64}, tte_audit.specs.Report.events_of}
use Rattle.lens_flows.proofs.seeing.flows_told.Goals as goal

pub flows_of-requires : goal.flows_of-requires
flows_of-requires c = c.requires.read.some.2.range

pub tell_all-requires-clause-fit : goal.tell_all-requires-clause-fit
tell_all-requires-clause-fit c =
    let network = c.args.network.now in
    let some = c.requires.read.some in
    let shows = c.requires.read.index some.0 some.1 some.2 in
    let soon = end_soon network c.args.report.now.octets some.0 some.1 some.2 in
    let until = c.unsigned_abs-until.ensures.value ∙ ap (λ (z : ℤ). unsigned_abs z) (to_z-of_z w64 c.args.report.now.index.end.0 (search rules))
    ∙ ap (λ u. amount u) (sym (end_same network c.args.report.now.octets some.0 some.1 some.2 shows)) in
    record { range = some.2.range; standing = shows.devices; timely = omega (arith, until, soon) }

pub tell_all-requires-clause-known : goal.tell_all-requires-clause-known
tell_all-requires-clause-known c =
    let network = c.args.network.now in
    let some = c.requires.read.some in
    let shows = c.requires.read.index some.0 some.1 some.2 in
    (events_of some.0, happenings network some.0, record { remembers = shows.events; stands = shows.standings })

pub tell_all-requires-clause-flows : goal.tell_all-requires-clause-flows
tell_all-requires-clause-flows c =
    let network = c.args.network.now in
    flows_each network (subst (AreFlows network) (sym c.as_slice-all.ensures.value) c.in_ok-flows.ensures)

pub tell_all-requires-clause-timely : goal.tell_all-requires-clause-timely
tell_all-requires-clause-timely c =
    let network = c.args.network.now in
    let some = c.requires.read.some in
    let shows = c.requires.read.index some.0 some.1 some.2 in
    subst (λ (ds : List Delivery). All (λ (d : Delivery). d.time ≤ 2 ^ 60) ds)
    (sym (c.as_slice-deliveries.ensures.value
    ∙ deliveries_kept network some.0 c.in_ok-seen.ensures (c.as_slice-records.ensures ∙ shows.records))) (deliveries_soon some.2)

pub returns : goal.returns
returns c notes end r =
    let network = c.args.network.now in
    let shows = c.requires.read.index notes end r in
    let until = c.unsigned_abs-until.ensures.value ∙ ap (λ (z : ℤ). unsigned_abs z) (to_z-of_z w64 c.args.report.now.index.end.0 (search rules))
    ∙ ap (λ u. amount u) (sym (end_same network c.args.report.now.octets notes end r shows)) in
    all_told network notes end
    (subst (AreFlows network) (sym c.as_slice-all.ensures.value) c.in_ok-flows.ensures) until
    (c.as_slice-deliveries.ensures.value
    ∙ deliveries_kept network notes c.in_ok-seen.ensures (c.as_slice-records.ensures ∙ shows.records))
    (c.in_ok-told.ensures (events_of notes) (happenings network notes) (record { remembers = shows.events; stands = shows.standings }))
