use Rattle.lens_slack.specs.{Answer.{ending_answer, ending_lines}, Finds.shorts_of, Lines.finding_line, Writing.IsWritable}
use Rattle.{lens_slack.specs.declared.spot.Finding.Finding, std.specs.Prelude.All}
use Rattle.std.proofs.Common.{◌∙◌, List, ap, inl, inr, map, refl, subst, sym}
use Rattle.tte_forms.{proofs.{Puts.PutFails-more, frames.Frames.Gives-behind}}
use Rattle.tte_forms.{specs.Putting.{PutFails, PutsLines, shown_by}}
use Rattle.lens_slack.proofs.slacking.put_slack.Goals as goal

pub put_each-requires-clause-things : goal.put_each-requires-clause-things
put_each-requires-clause-things g c =
    subst (λ (fs : List Finding). All (IsWritable c.args.network.now) fs) (sym c.as_slice-findings.ensures.value) c.requires.writable

pub returns-clause-gives : goal.returns-clause-gives
returns-clause-gives g c =
    let shown = shown_by g.K.Sink in
    let network = c.args.network.now in
    let all = c.args.slack.now.findings.items in
    let put = subst (λ (fs : List Finding). PutsLines (map (finding_line network) fs) (shown c.args.out.now) (shown c.put_each.new.out))
    c.as_slice-findings.ensures.value c.in-Ok.ensures.puts in
    Gives-behind (ending_answer network all c.args.slack.now.ending) c.put_ending.result put
    (c.put_ending.ensures.gives all (c.shorts_of-shorts.ensures ∙ ap shorts_of c.as_slice-findings.ensures.value))

pub returns-in-Err-clause-gives : goal.returns-in-Err-clause-gives
returns-in-Err-clause-gives g c =
    let shown = shown_by g.K.Sink in
    let network = c.args.network.now in
    let all = c.args.slack.now.findings.items in
    let put = subst (λ (fs : List Finding). PutFails (map (finding_line network) fs) (shown c.args.out.now) (shown c.put_each.new.out))
    c.as_slice-findings.ensures.value c.in-Err.ensures.puts in
    inr (inl (refl, inl (PutFails-more (ending_lines network all c.args.slack.now.ending) put)))
