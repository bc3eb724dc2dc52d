use Rattle.audit_devices.proofs.{KeptAll.last_accepted_is, Words.{option_map_or, subst, sym, taken_of, takings_of}}
use Rattle.audit_devices.proofs.Words.{◌∙◌, ◌≡◌, AscendAll, DeviceTakings, List, None, Option, Taking, [], ap, filter, got_at, is_taking_before, last_or}
use Rattle.audit_devices.proofs.takings.Takings.last_accepted.Goals as goal

pub returns : goal.returns
returns c network hs has switch =
    let device = c.args.device in
    let vl = c.args.vl in
    let there = got_at c.args.self.now.devices.items device.0 c.index.result.now c.requires c.index.ensures in
    let kept : taken_of c.index.result.now vl ≡ takings_of hs device vl =
    sym (ap (λ (o : Option DeviceTakings). option_map_or (λ (d : DeviceTakings). taken_of d vl) o []) there) ∙ has.kept device vl c.requires in
    last_accepted_is network hs device vl c.args.time switch has.rightly
    ∙ ap (λ (xs : List Taking). last_or None (filter (is_taking_before c.args.time (record { 0 = 0 }) 0) xs)) (sym kept)
    ∙ sym (c.last_before.ensures (subst AscendAll (sym kept) (has.ascend device vl)))
