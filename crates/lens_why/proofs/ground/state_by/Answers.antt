use Rattle.{lens_why.specs.{Corrections.clique_ground, declared.ground.Ground.TheVariants.Untold}, std.proofs.Common.{◌∙◌, Bool, ap, if◌then◌else◌, sym}}
use Rattle.{run_law.specs.records.Happenings.happenings, tte_audit.specs.Report.scenario_of}
use Rattle.lens_why.proofs.ground.state_by.Goals as goal

pub returns-then-is_clique : goal.returns-then-is_clique
returns-then-is_clique c ns end h of there state =
    let network = c.args.network.now in
    let told = sym c.is_clique.ensures ∙ c.if-is_clique.true in
    c.clique.ensures ns end h c.args.why of there state told
    ∙ sym (ap (λ (b : Bool). if b then clique_ground (scenario_of network ns) (happenings network ns) h c.args.device else Untold) told)

pub returns-else-is_clique : goal.returns-else-is_clique
returns-else-is_clique c ns end h of there state =
    let network = c.args.network.now in
    sym (ap (λ (b : Bool). if b then clique_ground (scenario_of network ns) (happenings network ns) h c.args.device else Untold)
    (sym c.is_clique.ensures ∙ c.if-is_clique.false))
