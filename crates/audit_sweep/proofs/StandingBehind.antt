-- A record that stands behind others.
use Rattle.{audit_law.proofs.law_lemmas.Correcting.time_before, audit_sweep.specs.Judging.StandsBehind, tte_units.specs.declared.frames.members.Members.Members}
use Rattle.audit_sweep.proofs.Words.{DeviceId, Happening, IsHeardBefore, Judgement, List, NoneLater, NoteBody, Units, amount, arith, key, members_in, rank}
use Rattle.audit_sweep.proofs.Words.{time_of, ℕ}
use Rattle.run_law.specs.declared.note.NoteBody.TheVariants as notes

-- none of them is later
pub none_later_behind : {hs : List Happening} {time : Units} {body : NoteBody} → StandsBehind hs time body
    → NoneLater (amount time) hs
none_later_behind {time} {body} b h i =
    time_before (time_of h) (rank h.note.body) (amount time) (rank body) (key (members_in h) h.note.body) (key b.members body) (b.before h i)

-- they are those by which an emission is heard
pub heard_behind : {hs : List Happening} {time : Units} (device : DeviceId) (opened at : Units) (cycle : ℕ)
    (members : Members) (verdict : Judgement) → StandsBehind hs time
    (notes.Compressed device opened at cycle members verdict) → IsHeardBefore (amount time) hs
heard_behind device opened at cycle members verdict b = grind (arith, rank, key)
