use Rattle.lens_clocks.specs.Answer.{clocks_answer}
use Rattle.run_law.specs.records.Happenings.{happenings}
use Rattle.tte_reports.proofs.Reports.{end_same, end_soon}
use Rattle.{std.proofs.{Common.{◌∙◌, ap, arith, inl, refl, rules, subst, sym, ℤ}, lemmas.Int.to_z-of_z}, std.specs.{Int.w64, Prelude.unsigned_abs}}
use Rattle.tte_audit.specs.Report.{events_of, scenario_of}
use Rattle.tte_forms.specs.{Answering.Gives, Putting.shown_by}
use Rattle.tte_units.specs.{Amount.amount}
use Rattle.lens_clocks.proofs.answering.ClocksReportCommand.put.Goals as goal

pub put_cycles-requires-clause-range : goal.put_cycles-requires-clause-range
put_cycles-requires-clause-range g c = c.requires.read.some.2.range

pub put_cycles-requires-clause-index : goal.put_cycles-requires-clause-index
put_cycles-requires-clause-index g c =
    let some = c.requires.read.some in
    (events_of some.0, happenings c.args.network.now some.0, c.requires.read.index some.0 some.1 some.2)

pub put_cycles-requires-clause-limit : goal.put_cycles-requires-clause-limit
put_cycles-requires-clause-limit g c =
    let network = c.args.network.now in
    let octets = c.args.report.now.octets in
    let some = c.requires.read.some in
    let soon = end_soon network octets some.0 some.1 some.2 in
    let until = c.unsigned_abs-until.ensures.value ∙ ap (λ (z : ℤ). unsigned_abs z) (to_z-of_z w64 c.args.report.now.index.end.0 (search rules))
    ∙ ap (λ u. amount u)
    (sym (end_same network octets some.0 some.1 some.2 (c.requires.read.index some.0 some.1 some.2))) in
    omega (arith, until, soon)

pub returns-clause-gives : goal.returns-clause-gives
returns-clause-gives g c notes end r =
    let shown = shown_by g.K.Sink in
    let network = c.args.network.now in
    let shows = c.requires.read.index notes end r in
    let s = scenario_of network notes in
    let hs = happenings network notes in
    let until = c.unsigned_abs-until.ensures.value ∙ ap (λ (z : ℤ). unsigned_abs z) (to_z-of_z w64 c.args.report.now.index.end.0 (search rules))
    ∙ ap (λ u. amount u) (sym (end_same network c.args.report.now.octets notes end r shows)) in
    inl (
      clocks_answer s hs (amount end),
      refl,
      subst (λ n. Gives (clocks_answer s hs n) c.put_cycles.result (shown c.args.out.now) (shown c.put_cycles.new.out)) until
          (c.put_cycles.ensures.gives (events_of notes) hs shows),
    )
