use Rattle.{audit_devices.specs.Keeping.records_before, run_law.specs.records.Ranks.place_of, std.proofs.Common.{◌∙◌, ap, of_z, rules, to_z, ℕ, ℤ}}
use Rattle.{lens_why.specs.Seeking.last_sought, std.{proofs.lemmas.Int.to_z-of_z, specs.Int.w128}}
use Rattle.{lens_why.specs.declared.{ground.Ground.TheVariants.Middle, seeking.Sought.TheVariants.Opening}, run_law.specs.records.Happenings.happenings}
use Rattle.lens_why.proofs.collecting.sent_for.Goals as goal

pub returns : goal.returns
returns c ns end h of there =
    let network = c.args.network.now in
    let last = last_sought network (Opening c.args.device c.args.opened) (records_before (place_of h) (happenings network ns)) in
    ap (λ (n : ℕ). Middle n (to_z w128 (of_z w128 c.middle_told.result))) (c.last_before-from.ensures ns end h of there)
    ∙ ap (λ (z : ℤ). Middle last z) (to_z-of_z w128 c.middle_told.result (search rules) ∙ c.middle_told.ensures)
