use Rattle.lens_why.proofs.Cutting.{never_none, note_there}
use Rattle.run_law.specs.records.Happenings.{happenings}
use Rattle.tte_audit.specs.Report.{events_of}
use Rattle.{run_law.specs.declared.note.Note.Note, std.proofs.Common.ap}
use Rattle.lens_why.proofs.collecting.behind_record.Goals as goal

pub returns-in-Some : goal.returns-in-Some
returns-in-Some c notes end h before of there last =
    let network = c.args.network.now in
    let same = note_there network notes c.args.number c.in-Some.note h (c.in-Some.ensures notes end of) there.there in
    let carried = c.carried.ensures network (events_of notes) (happenings network notes) h (c.requires.read.index notes end of) there.there in
    c.behind.ensures before h (ap (λ (n : Note). n.body) same) carried last

pub returns-in-None : goal.returns-in-None
returns-in-None c notes end h before of there last =
    absurd (never_none c.args.network.now notes c.args.number h (c.in-None.ensures notes end of) there.there)
