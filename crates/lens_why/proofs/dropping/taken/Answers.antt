use Rattle.{audit_devices.specs.Keeping.records_before, run_law.specs.records.Happenings.{happenings, time_of}, tte_audit.specs.Report.{events_of, scenario_of}}
use Rattle.lens_why.{proofs.Grounded.index_there}
use Rattle.lens_why.specs.declared.{ground.Ground.TheVariants.Taken, seeking.{Coming.Coming, Sought.TheVariants.Taking}}
use Rattle.lens_why.specs.{Grounds.cycle_before, Seeking.last_sought}
use Rattle.{run_law.specs.records.Ranks.place_of, std.proofs.Common.{◌∙◌, ◌≡◌, ap, sym, ℕ}, tte_units.specs.Amount.amount}
use Rattle.lens_why.proofs.dropping.taken.Goals as goal

pub cycle_before-cycle-requires-clause-index : goal.cycle_before-cycle-requires-clause-index
cycle_before-cycle-requires-clause-index c = index_there c.requires.read

pub returns : goal.returns
returns c ns end h of there at =
    let network = c.args.network.now in
    let s = scenario_of network ns in
    let hs = happenings network ns in
    let p = c.args.passage in
    let coming : ℕ → Coming = λ t. record { device = p.device; vl = c.args.entry.now.row.vl; time = t; link = p.link; cause = p.cause } in
    let last : ℕ → ℕ = λ t. last_sought network (Taking (coming t)) (records_before (place_of h) hs) in
    let time : amount p.time ≡ time_of h = ap (λ u. amount u) (sym at) in
    let cycle = c.cycle_before-cycle.ensures (events_of ns) hs (c.requires.read.index ns end of)
    ∙ ap (λ t. cycle_before s hs p.device t) time in
    let number = c.last_before-number.ensures ns end h of there ∙ ap last (c.magnitude.ensures ∙ time) in
    ap (λ (n : ℕ). Taken n c.last_before-number.result) cycle ∙ ap (λ (n : ℕ). Taken (cycle_before s hs p.device (time_of h)) n) number
