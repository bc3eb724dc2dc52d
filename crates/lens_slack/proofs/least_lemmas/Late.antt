-- With the greatest `settled` a network is in range as it was.
use Rattle.{lens_slack.specs.least.Answer.with_late, net_plan.specs.Ranges.{IsInRange, IsLinkInRange, IsRowInRange, IsVlInRange}}
use Rattle.net_plan.specs.declared.network.Network.{Network}
use Rattle.std.{proofs.{Common.{arith}, lemmas.Int.ints}, specs.List.All}
use Rattle.schedule_checker.proofs.Elements.{all_of_each}
use Rattle.tte_units.proofs.general_lemmas.Lists.{in_all}

links : {n : Network} → IsInRange n → All (IsLinkInRange (with_late n)) n.link
links {n} range =
    all_of_each (IsLinkInRange (with_late n)) n.link
    (λ k link at. let r = in_all (IsLinkInRange n) n.link k link range.links at in
    record { name = r.name; child = r.child; parent = r.parent; wire = r.wire; jitter = r.jitter; hold = r.hold })

vls : {n : Network} → IsInRange n → All (IsVlInRange (with_late n)) n.vl
vls {n} range =
    all_of_each (IsVlInRange (with_late n)) n.vl
    (λ k vl at. let r = in_all (IsVlInRange n) n.vl k vl range.vls at in
    record {
      name = r.name;
      id = r.id;
      length_least = r.length_least;
      length_most = r.length_most;
      ethertype_least = r.ethertype_least;
      ethertype_most = r.ethertype_most;
      ethertype_other = r.ethertype_other;
      sender = r.sender;
      period_least = r.period_least;
      period_most = r.period_most;
      phase = r.phase;
    })

rows : {n : Network} → IsInRange n → All (IsRowInRange (with_late n)) n.row
rows {n} range =
    all_of_each (IsRowInRange (with_late n)) n.row
    (λ k row at. let r = in_all (IsRowInRange n) n.row k row range.rows at in
    record { vl = r.vl; link = r.link; offset = r.offset })

pub late_in_range : {n : Network} → IsInRange n → IsInRange (with_late n)
late_in_range range = record {
  version = range.version;
  cycle = range.cycle;
  rho = range.rho;
  grain = range.grain;
  dmax = range.dmax;
  calc = range.calc;
  settled = record { least = omega (arith, ints); most = omega (arith, ints) };
  precision = range.precision;
  correction = range.correction;
  tt_start = range.tt_start;
  marker = range.marker;
  threshold_least = range.threshold_least;
  threshold_most = range.threshold_most;
  few_devices = range.few_devices;
  few_links = range.few_links;
  few_vls = range.few_vls;
  few_rows = range.few_rows;
  devices = range.devices;
  links = links range;
  vls = vls range;
  rows = rows range;
}
