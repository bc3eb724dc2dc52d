use Rattle.run_law.specs.scenario.Devices.{start_of}
use Rattle.switch_ports.proofs.{Ranges.{calc_short, site_in_range}, SwitchStates.begun_stands}
use Rattle.switch_ports.proofs.Words.{◌^◌, ◌∙◌, ◌≡◌, HasTaken, IfSome, IsBegun, IsSiteOf, IsWithin}
use Rattle.{net_plan.specs.Ranges.IsInRange, switch_ports.proofs.Words.{Option, Units, [], ap, arith, ints, subst, sym}}
use Rattle.sync_state.specs.Standing.{begun}
use Rattle.switch_ports.proofs.switch.Switch.new.Goals as goal

pub new-collector-requires-clause-short : goal.new-collector-requires-clause-short
new-collector-requires-clause-short c =
    let e = c.network-network.ensures in
    let is = subst (λ n. IsSiteOf n c.args.device c.in_ok-site.site) e.value c.in_ok-site.ensures in
    rw is.calc (rw is.precision (calc_short e.range e.rules))

pub next_correction_at-corrects_at-requires-clause-site : goal.next_correction_at-corrects_at-requires-clause-site
next_correction_at-corrects_at-requires-clause-site c =
    let e = c.network-network.ensures in
    let is = subst (λ n. IsSiteOf n c.args.device c.in_ok-site.site) e.value c.in_ok-site.ensures in
    site_in_range e.range is

pub returns : goal.returns
returns c =
    let e = c.network-network.ensures in
    let is = subst (λ n. IsSiteOf n c.args.device c.in_ok-site.site) e.value c.in_ok-site.ensures in
    let start : c.start_of.result ≡ start_of c.args.accepted.now c.args.device = c.start_of.ensures.value
    ∙ ap (λ n. start_of n c.args.device) e.value in
    begun_stands _ (record { range = e.range; rules = e.rules }) is
    (subst (λ n. HasTaken n c.args.device c.in_ok-intake.intake []) e.value c.in_ok-intake.ensures)
    (subst (λ n. IsBegun n c.args.device c.in_ok-departures.departures) e.value c.in_ok-departures.ensures)
    (c.new-sync.ensures.value ∙ ap (begun c.in_ok-site.site.plan) start)
    (subst (λ (o : Option Units). IfSome o (IsWithin 0 (2 ^ 40))) start
    (c.start_of.ensures.range (subst IsInRange (sym e.value) e.range)))
    c.new-4.ensures.value c.new-collector.ensures.value c.adjustment-changed.ensures c.next_correction_at-corrects_at.ensures

pub new-sync-requires : goal.new-sync-requires
new-sync-requires c =
    let e = c.network-network.ensures in
    let is = subst (λ n. IsSiteOf n c.args.device c.in_ok-site.site) e.value c.in_ok-site.ensures in
    let site = site_in_range e.range is in
    let least = site.expected.least in
    let most = site.expected.most in
    record { shortest = site.cycle.least; longest = site.cycle.most; earliest = omega (arith, ints, least); latest = omega (arith, ints, most) }
