use Rattle.std.{proofs.{Common.{◌∙◌, rules, sym}, lemmas.Int.to_z-of_z}, specs.Int.w128}
use Rattle.audit_devices.proofs.clocks_lemmas.Reached.{come_reaches, reaches_come, same_crossing}
use Rattle.audit_devices.proofs.clocks.reaching.reaches.Goals as goal

pub returns : goal.returns
returns c s hs device t reads steady sh =
    let at = to_z-of_z w128 c.at_change.result (search rules) ∙ c.at_change.ensures.value in
    let before = to_z-of_z w128 c.local.result (search rules) ∙ c.local.ensures.value in
    let now = to_z-of_z w128 c.local-2.result (search rules) ∙ c.local-2.ensures.value in
    let v = to_z-of_z w128 c.args.value (search rules) in (
      λ told. come_reaches hs reads steady sh (same_crossing _ _ _ _ at before now v (c.has_crossed.ensures.0 told)),
      λ r. c.has_crossed.ensures.1
          (same_crossing _ _ _ _ (sym at) (sym before) (sym now) (sym v)
          (reaches_come reads sh r)),
    )
