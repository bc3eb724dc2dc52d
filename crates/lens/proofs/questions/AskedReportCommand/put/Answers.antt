use Rattle.{lens.specs.{Questions.IsQuestionAnswer, declared.forms.Question.Question, draw.Answer.IsDrawAnswer}, net_plan.specs.declared.network.Network.Network}
use Rattle.{lens_svg.specs.declared.layout.Span.Span, run_law.specs.declared.note.Note.Note, std.proofs.Common.{◌≡◌, List, subst, sym, ℕ}}
use Rattle.tte_forms.specs.{Answering.{Answer, GivesAnswer}, Putting.{Shown, shown_by}, declared.status.Status.Status}
use Rattle.tte_units.specs.declared.units.Units.{Units}
use Rattle.lens.proofs.questions.AskedReportCommand.put.Goals as goal

-- what is answered for a question is answered for what was asked
asked_as : (words : List (List ℕ)) (network : Network) (notes : List Note) (end : Units) (status : Status) (old new : Shown) {asked q : Question}
    → asked ≡ q → GivesAnswer (λ (a : Answer). IsQuestionAnswer words q network notes end a) status old new
    → GivesAnswer (λ (a : Answer). IsQuestionAnswer words asked network notes end a) status old new
asked_as words network notes end status old new same gives =
    subst (λ (q : Question). GivesAnswer (λ (a : Answer). IsQuestionAnswer words q network notes end a) status old new) (sym same) gives

pub returns-in-Why-clause-gives : goal.returns-in-Why-clause-gives
returns-in-Why-clause-gives g c notes end of =
    asked_as c.args.self.now.words.now c.args.network.now notes end _ _ _ c.in-Why.is (c.put.ensures.gives notes end of)

pub returns-in-DrawWhole-clause-gives : goal.returns-in-DrawWhole-clause-gives
returns-in-DrawWhole-clause-gives g c notes end of =
    asked_as c.args.self.now.words.now c.args.network.now notes end _ _ _ c.in-DrawWhole.is (c.put-in-DrawWhole.ensures.gives notes end of)

pub returns-in-Page-clause-gives : goal.returns-in-Page-clause-gives
returns-in-Page-clause-gives g c notes end of =
    asked_as c.args.self.now.words.now c.args.network.now notes end _ _ _ c.in-Page.is (c.put-in-Page.ensures.gives notes end of)

pub returns-in-Flows-clause-gives : goal.returns-in-Flows-clause-gives
returns-in-Flows-clause-gives g c notes end of =
    asked_as c.args.self.now.words.now c.args.network.now notes end _ _ _ c.in-Flows.is (c.put-in-Flows.ensures.gives notes end of)

pub returns-in-LatencySeen-clause-gives : goal.returns-in-LatencySeen-clause-gives
returns-in-LatencySeen-clause-gives g c notes end of =
    asked_as c.args.self.now.words.now c.args.network.now notes end _ _ _ c.in-LatencySeen.is (c.put-in-LatencySeen.ensures.gives notes end of)

pub returns-in-Clocks-clause-gives : goal.returns-in-Clocks-clause-gives
returns-in-Clocks-clause-gives g c notes end of =
    asked_as c.args.self.now.words.now c.args.network.now notes end _ _ _ c.in-Clocks.is (c.put-in-Clocks.ensures.gives notes end of)

pub returns-in-Draw-clause-gives : goal.returns-in-Draw-clause-gives
returns-in-Draw-clause-gives g c notes end of =
    let shown = shown_by g.K.Sink in
    asked_as c.args.self.now.words.now c.args.network.now notes end _ _ _ c.in-Draw.is
    (subst (λ (s : Span). GivesAnswer (λ (a : Answer). IsDrawAnswer c.args.self.now.words.now s c.args.network.now notes end a) c.put-in-Draw.result (shown c.args.out.now)
    (shown c.put-in-Draw.new.out)) c.span_of-span.ensures (c.put-in-Draw.ensures.gives notes end of))
