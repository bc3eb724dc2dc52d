use Rattle.{audit_devices.specs.Showing.IsAfter, lens_why.specs.Corrections.said_by, std.{proofs.lemmas.Int.to_z-of_z, specs.Prelude.option_and_then}}
use Rattle.std.proofs.Common.{◌∙◌, ◌≡◌, ap, of_z, rules, subst, sym, to_z, ℤ}
use Rattle.audit_sweep.specs.Indexing.{before_corrections}
use Rattle.lens_why.proofs.LastRecords.{after_change, corrected_is, parted_there, summary_is}
use Rattle.tte_audit.specs.Report.{events_of, scenario_of}
use Rattle.{run_law.specs.records.Happenings.{happenings, time_of}, tte_units.specs.declared.frames.channel.Channel.TheVariants.{A, B}}
use Rattle.{std.specs.Int.w128, tte_units.specs.Amount.amount}
use Rattle.lens_why.proofs.correcting.corrected.Goals as goal

pub heard-heard-requires-clause-index : goal.heard-heard-requires-clause-index
heard-heard-requires-clause-index c =
    let r = c.requires.read.some in
    (events_of r.0, happenings c.args.network.now r.0, c.requires.read.index r.0 r.1 r.2)

pub adjustment_before-adjustment-requires-clause-index : goal.adjustment_before-adjustment-requires-clause-index
adjustment_before-adjustment-requires-clause-index c =
    let r = c.requires.read.some in
    (events_of r.0, happenings c.args.network.now r.0, c.requires.read.index r.0 r.1 r.2)

pub returns : goal.returns
returns c ns end h of there correction =
    let network = c.args.network.now in
    let hs = happenings network ns in
    let s = scenario_of network ns in
    let d = c.args.device in
    let t = c.magnitude-at.result in
    let at = parted_there of c.args.number h there.there in
    let time : t ≡ time_of h = c.magnitude-at.ensures ∙ ap (λ u. amount u) (sym correction.at) in
    let index = c.requires.read.index ns end of in
    let after = subst (λ u. IsAfter (before_corrections u hs) d u) (sym time)
    (after_change network c.args.report.now.octets ns end of c.requires.named at.before at.later h at.parts d c.args.cycle correction.by
    correction.adjustment correction.is) in
    let heard = summary_is (c.heard-heard.ensures (events_of ns) hs index after) in
    let changed = to_z-of_z w128 c.adjustment_before-adjustment.result (search rules) ∙ c.adjustment_before-adjustment.ensures.is (events_of ns) hs index in
    let adjustment : ℤ = to_z w128 (of_z w128 c.adjustment_before-adjustment.result) in
    corrected_is s hs h d c.args.cycle t c.heard-heard.result adjustment c.said_on-a.result c.said_on-b.result time heard changed
    (c.said_on-a.ensures ns end h of there ∙ ap (option_and_then (said_by s hs h d c.args.cycle adjustment A)) c.best.ensures.value)
    (c.said_on-b.ensures ns end h of there ∙ ap (option_and_then (said_by s hs h d c.args.cycle adjustment B)) c.best-2.ensures.value)
