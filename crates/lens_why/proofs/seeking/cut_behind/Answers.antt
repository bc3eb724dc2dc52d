use Rattle.lens_why.{proofs.Cutting.{never_none, note_there}, specs.Seeking.{cut_told, cut_with}}
use Rattle.{run_law.specs.declared.note.Note.Note, std.proofs.Common.{◌∙◌, ap, sym}}
use Rattle.lens_why.proofs.seeking.cut_behind.Goals as goal

pub returns-in-Some : goal.returns-in-Some
returns-in-Some c notes end h of there =
    let same = note_there c.args.network.now notes c.args.number c.in-Some.note h (c.in-Some.ensures notes end of) there.there in
    c.cut_with.ensures
    ∙ ap (cut_with c.args.since c.args.number) (c.cut_told.ensures ∙ ap (λ (n : Note). cut_told c.args.link c.args.way n.body) (sym same))

pub returns-in-None : goal.returns-in-None
returns-in-None c notes end h of there =
    absurd (never_none c.args.network.now notes c.args.number h (c.in-None.ensures notes end of) there.there)
