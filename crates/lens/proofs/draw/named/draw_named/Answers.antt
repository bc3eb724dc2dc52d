use Rattle.lens.proofs.draw_lemmas.Naming.{left_unnamed, named_audits, unread_unnamed}
use Rattle.lens.specs.draw.Naming.{IsNamedAnswer}
use Rattle.std.proofs.Common.{List, ℕ, inl, inr, refl}
use Rattle.tte_forms.specs.Putting.{shown_by}
use Rattle.tte_reports.proofs.{Answers.no_network_status, Sources.{files_accepted, files_refused}}
use Rattle.lens.proofs.draw.named.draw_named.Goals as goal

pub returns-in-Ok-clause-general : goal.returns-in-Ok-clause-general
returns-in-Ok-clause-general g c =
    let shown = shown_by g.K.Sink in
    files_accepted (λ (report : List ℕ). IsNamedAnswer c.args.words.now c.args.part c.args.name.now report) (g.A.Source.left c.args.first.now)
    (g.B.Source.left c.args.second.now) c.in-Ok.accepted c.draw_accepted.result (shown c.args.out.now) (shown c.draw_accepted.new.out)
    c.in-Ok.ensures.accepted c.draw_accepted.ensures.gives

pub returns-in-Err-clause-general : goal.returns-in-Err-clause-general
returns-in-Err-clause-general g c =
    let shown = shown_by g.K.Sink in
    files_refused (λ (report : List ℕ). IsNamedAnswer c.args.words.now c.args.part c.args.name.now report) (g.A.Source.left c.args.first.now)
    (g.B.Source.left c.args.second.now) c.in-Err.cause c.put_no_network.result (shown c.args.out.now) (shown c.put_no_network.new.out)
    c.in-Err.ensures.none c.put_no_network.ensures.gives c.put_no_network.ensures.unput

pub returns-in-Ok-clause-takes : goal.returns-in-Ok-clause-takes
returns-in-Ok-clause-takes g c =
    let left = left_unnamed c.args.name.now (g.A.Source.left c.args.first.now) c.in-Ok.accepted _ c.in-Ok.ensures.accepted c.draw_accepted.ensures.unread in
    elim c.draw_accepted.ensures.taken [
      | inl same ↦ (c.in-Ok.ensures.taken, left, inl same)
      | inr some ↦ (c.in-Ok.ensures.taken, left, inr (c.in-Ok.accepted, c.in-Ok.ensures.accepted, some))
    ]

pub returns-in-Err-clause-takes : goal.returns-in-Err-clause-takes
returns-in-Err-clause-takes g c =
    (c.in-Err.ensures.taken, unread_unnamed c.args.name.now (g.A.Source.left c.args.first.now) _ refl, inl refl)

pub returns-in-Err-clause-statuses : goal.returns-in-Err-clause-statuses
returns-in-Err-clause-statuses g c =
    let shown = shown_by g.K.Sink in
    named_audits c.put_no_network.result
    (no_network_status c.in-Err.cause c.put_no_network.result (shown c.args.out.now) (shown c.put_no_network.new.out) c.put_no_network.ensures.gives)
