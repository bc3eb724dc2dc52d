use Rattle.std.proofs.Common.{◌∙◌, ◌≡◌, ap, inl, refl, subst}
use Rattle.tte_forms.specs.{Answering.{Gives, GivesAnswer, line_answer}, Putting.shown_by, declared.status.Status.TheVariants.NumberRefused}
use Rattle.lens_why.{proofs.Cutting.{none_there, number_of}, specs.{Answer.IsWhyAnswer, Lines.number_refused_line}}
use Rattle.lens_why.proofs.answering.put_why.Goals as goal

pub put_chain-requires-clause-record : goal.put_chain-requires-clause-record
put_chain-requires-clause-record g c =
    let r = c.requires.read.some in
    record { notes = r.0; end = r.1; report = r.2; number = c.args.number; there = c.in-Ok.ensures r.0 r.1 r.2 }

pub returns-in-Ok-clause-gives : goal.returns-in-Ok-clause-gives
returns-in-Ok-clause-gives g c notes end of =
    let shown = shown_by g.K.Sink in
    let number = number_of of c.args.number c.in-Ok.first (c.in-Ok.ensures notes end of) in
    subst (λ n. GivesAnswer (IsWhyAnswer n c.args.network.now notes end) c.put_chain.result (shown c.args.out.now) (shown c.put_chain.new.out)) number
    (c.put_chain.ensures.gives notes end of)

pub returns-in-Err-clause-gives : goal.returns-in-Err-clause-gives
returns-in-Err-clause-gives g c notes end of =
    let shown = shown_by g.K.Sink in
    let none = c.in-Err.ensures notes end of in
    let line : c.as_slice.result.now ≡ number_refused_line c.args.number c.in-Err.count = c.as_slice.ensures ∙ c.make_refused_line.ensures in
    let whole = line ∙ ap (number_refused_line c.args.number) none.0 in
    let given = subst (λ bytes. Gives (line_answer NumberRefused bytes) c.put_last.result (shown c.args.out.now) (shown c.put_last.new.out)) whole
    c.put_last.ensures.gives in
    inl (_, inl (none_there c.args.network.now notes c.args.number none.1, refl), given)
