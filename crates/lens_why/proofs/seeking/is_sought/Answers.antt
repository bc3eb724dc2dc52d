use Rattle.{lens_why.specs.Seeking.{is_sought, turns_before}, run_law.specs.declared.note.Note.Note, std.proofs.Common.{◌∙◌, ap, sym}}
use Rattle.{lens_why.specs.declared.seeking.Sought.TheVariants.{Frame, Opening, Taking, Turning}, run_law.specs.timed.Receptions.is_taken_before}
use Rattle.tte_units.specs.Amount.{amount}
use Rattle.lens_why.proofs.seeking.is_sought.Goals as goal

pub returns-in-Frame : goal.returns-in-Frame
returns-in-Frame c befallen hs h known there same =
    let network = c.args.network.now in
    let f = c.in-Frame in
    c.is_heard.ensures h (c.carried-carried.ensures network befallen hs h known there)
    ∙ ap (λ b. is_sought network (Frame f.device f.channel f.frame) h b) (sym (ap (λ (n : Note). n.body) same))
    ∙ ap (λ s. is_sought network s h h.note.body) (sym f.is)

pub returns-in-Taking : goal.returns-in-Taking
returns-in-Taking c befallen hs h known there same =
    let network = c.args.network.now in
    let f = c.in-Taking.coming in
    c.is_taken_before.ensures
    ∙ ap (λ t. is_taken_before f.device f.vl f.time f.link f.cause t c.args.note.now.body)
    (c.magnitude.ensures ∙ ap (λ (n : Note). amount n.time) (sym same))
    ∙ ap (λ b. is_sought network (Taking f) h b) (sym (ap (λ (n : Note). n.body) same))
    ∙ ap (λ s. is_sought network s h h.note.body) (sym c.in-Taking.is)

pub returns-in-Turning : goal.returns-in-Turning
returns-in-Turning c befallen hs h known there same =
    let network = c.args.network.now in
    let f = c.in-Turning in
    c.turns_before.ensures
    ∙ ap (λ t. turns_before f.device f.time t c.args.note.now.body) (c.magnitude-in-Turning.ensures ∙ ap (λ (n : Note). amount n.time) (sym same))
    ∙ ap (λ b. is_sought network (Turning f.device f.time) h b) (sym (ap (λ (n : Note). n.body) same))
    ∙ ap (λ s. is_sought network s h h.note.body) (sym f.is)

pub returns-in-Opening : goal.returns-in-Opening
returns-in-Opening c befallen hs h known there same =
    let network = c.args.network.now in
    c.opens.ensures
    ∙ ap (λ b. is_sought network (Opening c.in-Opening.device c.in-Opening.point) h b) (sym (ap (λ (n : Note). n.body) same))
    ∙ ap (λ s. is_sought network s h h.note.body) (sym c.in-Opening.is)
