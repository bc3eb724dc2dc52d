use Rattle.std.proofs.Common.{◌∙◌, ◌≡◌, ap, sym, ℕ}
use Rattle.lens_why.proofs.Grounded.{index_there}
use Rattle.run_law.specs.device.States.{state_before}
use Rattle.{lens_why.specs.declared.ground.Ground.TheVariants.Unsynchronised, run_law.specs.records.Happenings.{happenings, time_of}}
use Rattle.{sync_state.specs.declared.state.State.State, tte_audit.specs.Report.{events_of, scenario_of}}
use Rattle.tte_units.specs.Amount.{amount}
use Rattle.{audit_devices.specs.Keeping.records_before, run_law.specs.records.Ranks.place_of}
use Rattle.lens_why.specs.{Seeking.last_sought, declared.seeking.Sought.TheVariants.Turning}
use Rattle.lens_why.proofs.dropping.unsynchronised.Goals as goal

pub state_before-state-requires-clause-index : goal.state_before-state-requires-clause-index
state_before-state-requires-clause-index c = index_there c.requires.read

pub returns : goal.returns
returns c ns end h of there at =
    let network = c.args.network.now in
    let s = scenario_of network ns in
    let hs = happenings network ns in
    let d = c.args.passage.device in
    let time : c.magnitude-time.result ≡ time_of h = c.magnitude-time.ensures ∙ ap (λ u. amount u) (sym at) in
    let state = c.state_before-state.ensures (events_of ns) hs (c.requires.read.index ns end of) ∙ ap (λ t. state_before s hs d t) time in
    ap (λ (k : State). Unsynchronised k c.last_before-since.result) state
    ∙ ap (λ (n : ℕ). Unsynchronised (state_before s hs d (time_of h)) n) (c.last_before-since.ensures ns end h of there
    ∙ ap (λ (t : ℕ). last_sought network (Turning d t) (records_before (place_of h) hs)) time)
