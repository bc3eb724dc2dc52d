use Rattle.audit_devices.specs.Showing.{IsAfter}
use Rattle.audit_sweep.specs.Indexing.{before_corrections}
use Rattle.lens_why.proofs.LastRecords.{after_clique, clique_is, parted_there, summary_is}
use Rattle.run_law.specs.records.Happenings.{happenings, time_of}
use Rattle.{std.proofs.Common.{◌∙◌, ◌≡◌, ap, refl, subst, sym}, tte_audit.specs.Report.{events_of, scenario_of}}
use Rattle.tte_units.specs.{Amount.amount}
use Rattle.lens_why.proofs.correcting.clique.Goals as goal

pub heard-heard-requires-clause-index : goal.heard-heard-requires-clause-index
heard-heard-requires-clause-index c =
    let r = c.requires.read.some in
    (events_of r.0, happenings c.args.network.now r.0, c.requires.read.index r.0 r.1 r.2)

pub returns : goal.returns
returns c ns end h why of there state told =
    let network = c.args.network.now in
    let hs = happenings network ns in
    let s = scenario_of network ns in
    let d = c.args.device in
    let t = c.magnitude.result in
    let at = parted_there of c.args.number h there.there in
    let time : t ≡ time_of h = c.magnitude.ensures ∙ ap (λ u. amount u) (sym state.at) in
    let after = subst (λ u. IsAfter (before_corrections u hs) d u) (sym time)
    (after_clique network c.args.report.now.octets ns end of c.requires.named at.before at.later h at.parts d state.state state.cause why told
    state.is) in
    let heard = summary_is (c.heard-heard.ensures (events_of ns) hs (c.requires.read.index ns end of) after) in
    clique_is s hs h d t c.heard-heard.result c.told_on-a.result c.told_on-b.result c.outside.result network.sync_threshold time heard
    (c.told_on-a.ensures ns end h of there) (c.told_on-b.ensures ns end h of there) c.outside.ensures.value refl
