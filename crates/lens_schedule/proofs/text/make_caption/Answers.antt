use Rattle.lens_schedule.{proofs.Joins.joined6, specs.Lines.{caption_line, time_text}}
use Rattle.std.{proofs.Common.{◌++◌, ◌∙◌, List, ap, ℕ}, specs.Prelude.codes}
use Rattle.lens_schedule.proofs.text.make_caption.Goals as goal

pub returns : goal.returns
unfolding caption_line
returns c =
    let cycle = c.push_time.ensures.text ∙ ap (λ t. c.push_decimal.new.self ++ time_text (codes ", cycle ") t) c.amount.ensures.value in
    let precision = c.push_time-2.ensures.text ∙ ap (λ t. c.push_time.new.line ++ time_text (codes ", precision ") t) c.amount-2.ensures.value in
    let whole =
    joined6 _ _ _ _ _ _ _ _ _ _ _ _ _ c.push.ensures.text c.push_decimal.ensures.text cycle precision c.push-2.ensures.text c.push-3.ensures.text in
    whole ∙ ap (λ (ls : List ℕ). ls ++ caption_line c.args.network.now c.args.rows) c.clear.ensures
