use Rattle.lens_sheet.{proofs.Texts.two, specs.Lines.{schedule_end, span_text, time_text}}
use Rattle.std.{proofs.Common.{◌++◌, ◌∙◌, ◌≡◌, ap}, specs.Prelude.codes}
use Rattle.tte_units.specs.Amount.{amount}
use Rattle.lens_sheet.proofs.numbers.push_span.Goals as goal

pub returns-clause-text : goal.returns-clause-text
unfolding span_text
returns-clause-text c =
    let line = c.args.line.now in
    let n = c.args.network.now in
    let p1 : c.push_time.new.line ≡ line ++ time_text (codes "schedule from") (amount n.tt_start) =
    c.push_time.ensures.text ∙ ap (λ k. line ++ time_text (codes "schedule from") k) c.amount.ensures.value in
    let p2 : c.push_time-2.new.line ≡ c.push_time.new.line ++ time_text (codes " to") (schedule_end n) =
    c.push_time-2.ensures.text ∙ ap (λ k. c.push_time.new.line ++ time_text (codes " to") k) c.schedule_end.ensures.value in
    two line (time_text (codes "schedule from") (amount n.tt_start)) (time_text (codes " to") (schedule_end n)) c.push_time.new.line c.push_time-2.new.line p1 p2
