use Rattle.audit_devices.proofs.{KeptAll.last_taken_is}
use Rattle.audit_devices.proofs.{Words.{last_or, option_map, option_map_or, subst, sym, taken_of, takings_of}}
use Rattle.audit_devices.proofs.Words.{◌∙◌, ◌≡◌, AscendAll, Bool, DeviceTakings, None, Option, Some, Taking, [], ap, filter, got_at, is_taking_before}
use Rattle.audit_devices.proofs.takings.Takings.last_taken.Goals as goal

pub returns-in_err-taking : goal.returns-in_err-taking
returns-in_err-taking c network hs has =
    let device = c.args.device in
    let vl = c.args.vl in
    let there = got_at c.args.self.now.devices.items device.0 c.index.result.now c.requires c.index.ensures in
    let kept : taken_of c.index.result.now vl ≡ takings_of hs device vl =
    sym (ap (λ (o : Option DeviceTakings). option_map_or (λ (d : DeviceTakings). taken_of d vl) o []) there) ∙ has.kept device vl c.requires in
    let test : Taking → Bool = is_taking_before c.args.time c.args.link c.args.cause in
    let last : None ≡ last_or None (filter test (takings_of hs device vl)) = sym c.in_err-taking.was
    ∙ c.last_before.ensures (subst AscendAll (sym kept) (has.ascend device vl))
    ∙ ap (λ xs. last_or None (filter test xs)) kept in
    c.from_residual.ensures
    ∙ ap (λ (o : Option Taking). option_map (λ (e : Taking). e.cycle) o) last
    ∙ sym (last_taken_is hs device c.args.time c.args.link c.args.cause vl)

pub returns : goal.returns
returns c network hs has =
    let device = c.args.device in
    let vl = c.args.vl in
    let there = got_at c.args.self.now.devices.items device.0 c.index.result.now c.requires c.index.ensures in
    let kept : taken_of c.index.result.now vl ≡ takings_of hs device vl =
    sym (ap (λ (o : Option DeviceTakings). option_map_or (λ (d : DeviceTakings). taken_of d vl) o []) there) ∙ has.kept device vl c.requires in
    let test : Taking → Bool = is_taking_before c.args.time c.args.link c.args.cause in
    let last : Some c.in_ok-taking.taking ≡ last_or None (filter test (takings_of hs device vl)) = sym c.in_ok-taking.was
    ∙ c.last_before.ensures (subst AscendAll (sym kept) (has.ascend device vl))
    ∙ ap (λ xs. last_or None (filter test xs)) kept in
    ap (λ (o : Option Taking). option_map (λ (e : Taking). e.cycle) o) last
    ∙ sym (last_taken_is hs device c.args.time c.args.link c.args.cause vl)
