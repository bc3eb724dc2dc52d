use Rattle.lens_why.proofs.Cutting.{never_none, note_there}
use Rattle.run_law.specs.records.Happenings.{happenings, numbered}
use Rattle.tte_audit.specs.Report.{events_of}
use Rattle.{run_law.specs.declared.note.Note.Note, std.proofs.Common.{◌∙◌, ◌≡◌, Some, ap, subst, sym}}
use Rattle.lens_why.proofs.seeking.is_sought_at.Goals as goal

pub returns-in-Some : goal.returns-in-Some
returns-in-Some c notes end h of there =
    let hs = happenings c.args.network.now notes in
    let same = note_there c.args.network.now notes c.args.number c.in-Some.note h (c.in-Some.ensures notes end of) there.there in
    let own : c.args.number ≡ c.in-Some.note.number = sym there.own ∙ ap (λ (n : Note). n.number) same in
    c.is_sought.ensures (events_of notes) hs h (c.requires.read.index notes end of) (subst (λ n. numbered hs n ≡ Some h) own there.there) same

pub returns-in-None : goal.returns-in-None
returns-in-None c notes end h of there =
    absurd (never_none c.args.network.now notes c.args.number h (c.in-None.ensures notes end of) there.there)
