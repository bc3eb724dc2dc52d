use Rattle.lens_sheet.specs.Answer.{IsSheetOf, sheet_answer}
use Rattle.std.proofs.Common.{inl, refl, subst}
use Rattle.tte_forms.specs.{Answering.{Gives, GivesAnswer}, Putting.shown_by}
use Rattle.lens_sheet.proofs.answering.put_sheet_of.Goals as goal

pub returns-in-Ok-clause-gives : goal.returns-in-Ok-clause-gives
returns-in-Ok-clause-gives g c =
    let old = shown_by g.K.Sink c.args.out.now in
    let new = shown_by g.K.Sink c.put_sheet.new.out in
    let status = c.put_sheet.result in
    let n = c.network-network.result.now in
    let w = c.weights_of.result in
    let sheet = c.in-Ok.sheet.items in
    let gives = subst (λ ls. Gives (sheet_answer n w ls) status old new) c.as_slice.ensures.value c.put_sheet.ensures.gives in
    subst (λ m. GivesAnswer (IsSheetOf m) status old new) c.network-network.ensures.value
    (inl (sheet_answer n w sheet, record { weights = w; weigh = c.weights_of.ensures.weigh; lines = sheet; sheet = c.in-Ok.ensures.sheet; is = refl }, gives))
