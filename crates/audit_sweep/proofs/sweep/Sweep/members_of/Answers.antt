use Rattle.{audit_sweep.proofs.Words.ap, run_law.specs.records.Ranks.place_at}
use Rattle.run_law.specs.declared.note.NoteBody.TheVariants as notes
use Rattle.audit_sweep.proofs.sweep.Sweep.members_of.Goals as goal

pub returns-in-Permanent : goal.returns-in-Permanent
returns-in-Permanent c hs time records =
    let said = c.in-Permanent in
    rw said.is
    (ap (λ m. place_at time m (notes.Permanent said.device said.link said.cause said.point said.verdict)) (c.members_from.ensures hs records))
