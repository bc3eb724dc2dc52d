use Rattle.{audit_devices.specs.Keeping.records_before, sync_state.specs.membership.Summary.Summarizes}
use Rattle.audit_sweep.proofs.Lacks.{heard_before_corrections, unchanged_before}
use Rattle.audit_sweep.proofs.{Words.{◌∷◌, [], refl, scenario_under, subst}}
use Rattle.audit_sweep.proofs.clocks.heard.Goals as goal

pub returns : goal.returns
returns c befallen hs k founded none before cycle next =
    let s = scenario_under c.args.network.now befallen in
    let d = c.args.device in
    let t = c.args.time in
    subst (λ ls. Summarizes c.heard_since.result ls) (heard_before_corrections s hs d t founded none)
    (c.heard_since.ensures s (records_before (t ∷ 6 ∷ []) hs) d t (record { of_network = refl; reads = before })
    (unchanged_before s hs d t cycle founded none next) (c.before_rank.ensures s hs k.standings))
