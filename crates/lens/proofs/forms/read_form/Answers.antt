use Rattle.std.proofs.Common.{◌∙◌, arith, refl, rules, sym}
use Rattle.lens.proofs.FormLemmas.{five_words, four_words, network_words, no_words, other_count, six_words, three_words}
use Rattle.lens.proofs.forms.read_form.Goals as goal

pub returns-in_err-command-clause-form : goal.returns-in_err-command-clause-form
returns-in_err-command-clause-form c = c.from_residual.ensures ∙ no_words c.args.words.now (c.in_err-command.ensures.found.0 refl)

pub returns-in-2-clause-form : goal.returns-in-2-clause-form
returns-in-2-clause-form c = c.network_form.ensures.form ∙ sym (network_words c.args.words.now c.in_ok-command.command.now (omega arith) (search rules))

pub returns-in_ok-get-in-3-clause-form : goal.returns-in_ok-get-in-3-clause-form
returns-in_ok-get-in-3-clause-form c =
    c.three_words_form.ensures.form
    ∙ sym (three_words c.args.words.now c.in_ok-command.command.now c.in_ok-get-in-3.field-0.now (omega arith) (search rules) (search rules))

pub returns-in_default-clause-form : goal.returns-in_default-clause-form
returns-in_default-clause-form c =
    other_count c.args.words.now (λ e. omega (arith, e, c.len.ensures)) (λ e. omega (arith, e, c.len.ensures)) (λ e. omega (arith, e, c.len.ensures))
    (λ e. omega (arith, e, c.len.ensures)) (λ e. omega (arith, e, c.len.ensures))

pub returns-in_ok-get-in-4-2-clause-form : goal.returns-in_ok-get-in-4-2-clause-form
returns-in_ok-get-in-4-2-clause-form c =
    c.four_words_form.ensures.form
    ∙ sym (four_words c.args.words.now c.in_ok-command.command.now c.in_ok-get-in-4.field-0.now c.in_ok-get-in-4-2.field-0.now (omega arith) (search rules)
    (search rules) (search rules))

pub returns-in_ok-get-in-5-2-clause-form : goal.returns-in_ok-get-in-5-2-clause-form
returns-in_ok-get-in-5-2-clause-form c =
    c.five_words_form.ensures.form
    ∙ sym (five_words c.args.words.now c.in_ok-command.command.now c.in_ok-get-in-5.field-0.now c.in_ok-get-in-5-2.field-0.now (omega arith) (search rules)
    (search rules) (search rules))

pub returns-in_ok-get-in-6-3-clause-form : goal.returns-in_ok-get-in-6-3-clause-form
returns-in_ok-get-in-6-3-clause-form c =
    c.six_words_form.ensures.form
    ∙ sym (six_words c.args.words.now c.in_ok-command.command.now c.in_ok-get-in-6.field-0.now c.in_ok-get-in-6-2.field-0.now c.in_ok-get-in-6-3.field-0.now
    (omega arith) (search rules) (search rules) (search rules) (search rules))
