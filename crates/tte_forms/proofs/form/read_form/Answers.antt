use Rattle.std.proofs.Common.{◌∙◌, arith, refl, rules, sym}
use Rattle.tte_forms.proofs.FormLemmas.{five_words, four_words, no_words, one_file, other_count, six_words, two_files}
use Rattle.tte_forms.proofs.form.read_form.Goals as goal

pub returns-in_err-command-clause-form : goal.returns-in_err-command-clause-form
returns-in_err-command-clause-form c = c.from_residual.ensures ∙ no_words c.args.words.now (c.in_err-command.ensures.found.0 refl)

pub returns-in-2-clause-form : goal.returns-in-2-clause-form
returns-in-2-clause-form c = c.one_file_form.ensures.form ∙ sym (one_file c.args.words.now c.in_ok-command.command.now (omega arith) (search rules))

pub returns-in-3-clause-form : goal.returns-in-3-clause-form
returns-in-3-clause-form c = c.two_files_form.ensures.form ∙ sym (two_files c.args.words.now c.in_ok-command.command.now (omega arith) (search rules))

pub returns-in_default-clause-form : goal.returns-in_default-clause-form
returns-in_default-clause-form c = other_count c.args.words.now (λ few. omega (arith, few.0, few.1, c.len.ensures))

pub returns-in_ok-get-in-4-2-clause-form : goal.returns-in_ok-get-in-4-2-clause-form
returns-in_ok-get-in-4-2-clause-form c =
    c.four_words_form.ensures.form
    ∙ sym (four_words c.args.words.now c.in_ok-command.command.now c.in_ok-get-in-4.field-0.now c.in_ok-get-in-4-2.field-0.now (omega arith) (search rules)
    (search rules) (search rules))

pub returns-in_ok-get-in-5-2-clause-form : goal.returns-in_ok-get-in-5-2-clause-form
returns-in_ok-get-in-5-2-clause-form c =
    c.wire_form.ensures.form
    ∙ sym (five_words c.args.words.now c.in_ok-command.command.now c.in_ok-get-in-5.field-0.now c.in_ok-get-in-5-2.field-0.now (omega arith) (search rules)
    (search rules) (search rules))

pub returns-in_ok-get-in-6-3-clause-form : goal.returns-in_ok-get-in-6-3-clause-form
returns-in_ok-get-in-6-3-clause-form c =
    c.vote_form.ensures.form
    ∙ sym (six_words c.args.words.now c.in_ok-command.command.now c.in_ok-get-in-6.field-0.now c.in_ok-get-in-6-2.field-0.now c.in_ok-get-in-6-3.field-0.now
    (omega arith) (search rules) (search rules) (search rules) (search rules))
