-- In a report no clocks are further apart than the precision.
use Rattle.lens_clocks.proofs.{Extremes.{ends_are_of_clocks, shown_by}, InStep.clocks_are_in_step, Passing.cycles_have_passed}
use Rattle.lens_clocks.specs.{Laws.SpreadsAreWithin, Telling.clocks_at}
use Rattle.run_law.specs.{device.LocalClocks.local, records.Happenings.happenings}
use Rattle.std.proofs.{Common.{◌*◌, ◌∙◌, ◌≡◌, arith, sym}, lemmas.Int.ints}
use Rattle.tte_audit.specs.Report.{scenario_of}
use Rattle.tte_reports.proofs.Reports.{report_well}
use Rattle.tte_units.specs.Amount.{amount}

pub spreads_are_within : SpreadsAreWithin
spreads_are_within network octets ns end k ends rules r passed e =
    let s = scenario_of network ns in
    let hs = happenings network ns in
    let t = k * amount network.cycle in
    let cs = clocks_at s hs t in
    let are = ends_are_of_clocks cs ends e in
    let low = shown_by cs ends.least are.least in
    let high = shown_by cs ends.greatest are.greatest in
    let first = (clocks_are_in_step s hs t low.0).0 low.1 in
    let last = (clocks_are_in_step s hs t high.0).0 high.1 in
    let soon = (cycles_have_passed s (amount end) k r.range).0 passed in
    let close = (report_well rules r).safe.precision.after t high.0.device low.0.device soon last.in_step
    first.in_step in
    let far = close.one in
    let top : ends.greatest ≡ local s hs high.0.device t = sym high.2 ∙ last.shows in
    let bottom : ends.least ≡ local s hs low.0.device t = sym low.2 ∙ first.shows in
    omega (arith, ints, far, top, bottom)
