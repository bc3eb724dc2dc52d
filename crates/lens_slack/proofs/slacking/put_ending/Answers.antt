use Rattle.{lens_slack.specs.Answer.ending_answer, tte_forms.specs.{Answering.Gives, Putting.shown_by}}
use Rattle.std.proofs.Common.{subst, sym}
use Rattle.lens_slack.proofs.slacking.put_ending.Goals as goal

pub returns-in-Broken-clause-gives : goal.returns-in-Broken-clause-gives
returns-in-Broken-clause-gives g c findings same =
    let shown = shown_by g.K.Sink in
    subst (λ end. Gives (ending_answer c.args.network.now findings end) c.put_broken.result (shown c.args.out.now) (shown c.put_broken.new.out))
    (sym c.in-Broken.is) c.put_broken.ensures.gives
