use Rattle.lens_page.specs.{Lines.network_text, Pages.page_with}
use Rattle.{report_text.specs.NoteLine.report_of, std.specs.List.concat}
use Rattle.std.proofs.{Common.{◌∙◌, ◌≡◌, inl, refl, subst}, lemmas.List.append-nil}
use Rattle.tte_forms.specs.{Answering.Gives, Putting.shown_by}
use Rattle.lens_page.proofs.answering.PageReportCommand.put.Goals as goal

pub returns-in-Ok-clause-gives : goal.returns-in-Ok-clause-gives
returns-in-Ok-clause-gives g c notes end r =
    let old = shown_by g.K.Sink c.args.out.now in
    let new = shown_by g.K.Sink c.put_page.new.out in
    let network = c.args.network.now in
    let report = concat (report_of network notes) in
    let status = c.put_page.result in
    let text : c.as_slice.result.now ≡ network_text network = c.as_slice.ensures.value ∙ c.in-Ok.ensures in
    let octets : c.as_slice-in-Ok.result.now ≡ report = c.as_slice-in-Ok.ensures ∙ r.events.text.text ∙ append-nil report in
    let told = subst (λ t. Gives (page_with t c.as_slice-in-Ok.result.now) status old new) text c.put_page.ensures.gives in
    let whole = subst (λ o. Gives (page_with (network_text network) o) status old new) octets told in
    inl (page_with (network_text network) report, refl, whole)
