use Rattle.{lens_slack.specs.Answer.told_of, std.specs.Io.KnownBytes.Appends, tte_io.specs.Told.AppendsFront}
use Rattle.{lens_slack.specs.Lines.place_line, tte_forms.{proofs.frames.Frames.Gives-behind, specs.{Answering.{Gives, line_answer}, Putting.shown_by}}}
use Rattle.{std.proofs.Common.{◌∙◌, ◌∷◌, ◌≡◌, List, [], inl, inr, refl, subst, ℕ}, tte_forms.specs.declared.status.Status.TheVariants.NetworkRefused}
use Rattle.tte_forms.{proofs.Puts.{PutsLines-fails, PutsLines-more, PutsLines-none}}
use Rattle.tte_forms.{specs.networks.NetworkLine.{network_refusal_line, rule_reason}}
use Rattle.lens_slack.proofs.slacking.put_broken.Goals as goal

pub returns-clause-gives : goal.returns-clause-gives
returns-clause-gives g c =
    let shown = shown_by g.K.Sink in
    let network = c.args.network.now in
    let rule = c.args.rule in
    let place = c.args.place in
    let first = network_refusal_line (rule_reason (told_of rule place)) in
    let old = shown c.args.out.now in
    let now = shown c.put.new.self in
    let new = shown c.put_last.new.out in
    let line : c.as_slice.result.now ≡ first = c.as_slice.ensures ∙ c.make_broken_line.ensures in
    let whole = subst (λ (bytes : List ℕ). Appends (g.K.Sink.written c.args.out.now) (g.K.Sink.written c.put.new.self) bytes) line c.in-Ok.ensures.all in
    let puts = PutsLines-more first now (PutsLines-none old) whole c.put.ensures.counted in
    let last : c.as_slice-2.result.now ≡ place_line network rule place = c.as_slice-2.ensures ∙ c.make_place_line.ensures in
    let gives = subst (λ bytes. Gives (line_answer NetworkRefused bytes) c.put_last.result now new) last c.put_last.ensures.gives in
    Gives-behind (line_answer NetworkRefused (place_line network rule place)) c.put_last.result puts gives

pub returns-in-Err-clause-gives : goal.returns-in-Err-clause-gives
returns-in-Err-clause-gives g c =
    let shown = shown_by g.K.Sink in
    let network = c.args.network.now in
    let rule = c.args.rule in
    let place = c.args.place in
    let first = network_refusal_line (rule_reason (told_of rule place)) in
    let old = shown c.args.out.now in
    let now = shown c.put.new.self in
    let line : c.as_slice.result.now ≡ first = c.as_slice.ensures ∙ c.make_broken_line.ensures in
    let front =
    subst (λ bytes. AppendsFront (g.K.Sink.written c.args.out.now) (g.K.Sink.written c.put.new.self) bytes) line c.in-Err.ensures.front in
    let fails = PutsLines-fails first (place_line network rule place ∷ []) now (PutsLines-none old) front
    c.put.ensures.counted in
    inr (inl (refl, inl fails))
