use Rattle.{audit_devices.specs.Keeping.records_before, run_law.specs.records.Ranks.place_of}
use Rattle.{lens_why.specs.{Seeking.cut_by, declared.ground.Ground.TheVariants.CutBy}, std.proofs.Common.{◌∙◌, ap, ℕ}}
use Rattle.run_law.specs.records.Happenings.{happenings}
use Rattle.lens_why.proofs.ground.lost.Goals as goal

pub returns : goal.returns
returns c ns end h of there =
    let hs = happenings c.args.network.now ns in
    ap (λ (n : ℕ). CutBy n) (c.cut_before.ensures ns end h of there)
    ∙ ap (λ w. CutBy (cut_by c.args.link w (records_before (place_of h) hs))) c.way_from-way.ensures
