use Rattle.lens.{proofs.draw_lemmas.Naming.{named_audits, named_given, not_unknown, unknown_given}}
use Rattle.lens.{specs.draw.Naming.{IsUnknown, Names}}
use Rattle.net_plan.specs.{Ranges.IsInRange}
use Rattle.std.proofs.Common.{refl, subst, sym}
use Rattle.tte_forms.specs.Putting.{shown_by}
use Rattle.lens.proofs.draw.named.draw_accepted.Goals as goal

pub subject_named-requires : goal.subject_named-requires
subject_named-requires g c = subst IsInRange (sym c.network.ensures.value) c.network.ensures.range

pub returns-in-Some-clause-gives : goal.returns-in-Some-clause-gives
returns-in-Some-clause-gives g c =
    let shown = shown_by g.K.Sink in
    named_given c.args.words.now c.args.part c.args.name.now c.args.accepted.now c.in-Some.subject (g.B.Source.left c.args.second.now) c.answer_accepted.result
    (shown c.args.out.now) (shown c.answer_accepted.new.out)
    (subst (λ n. Names n c.args.name.now c.in-Some.subject) c.network.ensures.value c.in-Some.ensures.some) c.answer_accepted.ensures.gives

pub returns-in-None-clause-gives : goal.returns-in-None-clause-gives
returns-in-None-clause-gives g c =
    let shown = shown_by g.K.Sink in
    unknown_given c.args.words.now c.args.part c.args.name.now c.args.accepted.now
    (g.B.Source.left c.args.second.now) c.put_unknown.result
    (subst (λ n. IsUnknown n c.args.name.now) c.network.ensures.value c.in-None.ensures.none)
    c.put_unknown.ensures.gives

pub returns-in-Some-clause-statuses : goal.returns-in-Some-clause-statuses
returns-in-Some-clause-statuses g c = named_audits c.answer_accepted.result c.answer_accepted.ensures.statuses

pub returns-in-Some-clause-unread : goal.returns-in-Some-clause-unread
returns-in-Some-clause-unread g c unknown =
    absurd (not_unknown c.args.accepted.now c.args.name.now c.in-Some.subject
    (subst (λ n. Names n c.args.name.now c.in-Some.subject) c.network.ensures.value c.in-Some.ensures.some) unknown)

pub returns-in-None-clause-unread : goal.returns-in-None-clause-unread
returns-in-None-clause-unread g c unknown = refl
