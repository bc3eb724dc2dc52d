use Rattle.std.{proofs.Common.{◌∙◌, ap, arith, rules, sym}, specs.Prelude.decimal}
use Rattle.tte_forms.proofs.FormLemmas.{none_spelled, number_spelled, parsed_none, parsed_one}
use Rattle.tte_forms.proofs.form.number_up_to.Goals as goal

pub returns-in_default-clause-value : goal.returns-in_default-clause-value
returns-in_default-clause-value c =
    none_spelled c.args.most c.args.text.now
    (λ n within is. parsed_none n c.args.text.now c.parse.result c.in_default.field-0
    (omega (arith, c.ranges.most.fits)) is c.parse.ensures.value.0
    c.in_default.is)

pub returns-then-number-most-clause-value : goal.returns-then-number-most-clause-value
returns-then-number-most-clause-value c =
    none_spelled c.args.most c.args.text.now
    (λ n within is.
    let same = parsed_one n c.in-Ok.number c.args.text.now c.parse.result (omega (arith, c.ranges.most.fits)) is
    c.parse.ensures.value.0 c.in-Ok.is in
    omega (arith, c.if-number-most.true))

pub returns-then-eq-clause-value : goal.returns-then-eq-clause-value
returns-then-eq-clause-value c =
    number_spelled c.args.most c.in-Ok.number c.args.text.now (omega (arith, c.if-number-most.false, c.ranges.most.fits))
    (omega (arith, c.if-number-most.false)) (search rules)

pub returns-else-eq-clause-value : goal.returns-else-eq-clause-value
returns-else-eq-clause-value c =
    none_spelled c.args.most c.args.text.now
    (λ n within is.
    let same = parsed_one n c.in-Ok.number c.args.text.now c.parse.result (omega (arith, c.ranges.most.fits)) is
    c.parse.ensures.value.0 c.in-Ok.is in
    let equal = c.format.ensures.text ∙ ap decimal (sym same) ∙ sym is in search rules)
