use Rattle.{audit_sweep.specs.unpaid.emissions.Emissions.sent_of, run_law.specs.{declared.note.NoteBody.TheVariants.Compressed, records.Ranks.place_at}}
use Rattle.{compression.specs.declared.compressed.Compressed.{Compressed as Sent}, run_law.specs.declared.judgement.Judgement.TheVariants.Ignored}
use Rattle.{std.{proofs.{Common.{◌∙◌, ◌≡◌, ap, refl, rules, w64, ℤ}, lemmas.Int.to_z-of_z}, specs.Int.w128}, tte_units.specs.declared.units.Units.Units}
use Rattle.audit_sweep.proofs.unpaid.emissions.emitting.place_of.Goals as goal

pub returns : goal.returns
returns c =
    let sent : Sent = sent_of c.args.emitted.now in
    let time = c.args.time in
    let device = c.args.device in
    let units : ℤ → Units = λ z. record { 0 = z } in
    let at : c.reading_of-at.result ≡ sent.at = ap units (c.reading_of-at.ensures ∙ to_z-of_z w128 c.args.emitted.now.at (search rules)) in
    let opened = ap units (to_z-of_z w64 c.args.emitted.now.opened (search rules)) in
    c.of_emission.ensures 0 sent.members Ignored refl
    ∙ ap (λ (u : Units). place_at time 0 (Compressed device u c.reading_of-at.result sent.cycle sent.members Ignored)) opened
    ∙ ap (λ (u : Units). place_at time 0 (Compressed device sent.opened u sent.cycle sent.members Ignored)) at
