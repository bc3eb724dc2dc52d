use Rattle.{audit_sweep.proofs.Words.{◌∙◌, amount, ap}, run_law.specs.records.Ranks.place_at}
use Rattle.audit_sweep.proofs.sweep.Sweep.place_of.Goals as goal

pub returns : goal.returns
returns c hs records =
    let note = c.args.note.now in
    let time = c.amount-time.ensures.value in
    c.of.ensures
    ∙ ap (λ t. place_at t c.members_of.result note.body) time
    ∙ c.members_of.ensures hs (amount note.time) records
