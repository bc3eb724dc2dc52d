use Rattle.std.{proofs.{Common.{◌∙◌, ap, sym, ℤ}, lemmas.Bool.false≢true}, specs.Prelude.◌+ℤ◌}
use Rattle.sync_state.specs.declared.answers.Verdict.TheVariants.{Corrected}
use Rattle.audit_devices.proofs.clocks.correcting.corrects.Goals as goal

pub returns-then-comes_by : goal.returns-then-comes_by
returns-then-comes_by c s hs t stands hears =
    let said = c.args.said in
    let point = c.coming_point.ensures s hs t said.cycle (Corrected said.by) stands hears in
    let same = ap (λ z. z +ℤ said.by.0) stands.shows.adjustment in (
      λ told. record { corrected = point.0 (c.comes_by.ensures.0 c.if-comes_by.true); sum = c.is_sum.ensures.0 told ∙ same },
      λ there. c.is_sum.ensures.1 (there.sum ∙ sym same),
    )

pub returns-else-comes_by : goal.returns-else-comes_by
returns-else-comes_by c s hs t stands hears =
    let said = c.args.said in
    let point = c.coming_point.ensures s hs t said.cycle (Corrected said.by) stands hears in (
      λ told. absurd (false≢true (sym c.if-comes_by.false ∙ told)),
      λ there. c.comes_by.ensures.1 (point.1 there.corrected),
    )
