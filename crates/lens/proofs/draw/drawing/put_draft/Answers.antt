use Rattle.std.proofs.Common.{◌∙◌, ap, inl, refl, subst, sym}
use Rattle.lens.proofs.draw_lemmas.Marking.{report_askable}
use Rattle.run_law.specs.records.Happenings.{happenings}
use Rattle.{lens.specs.draw.{Answer.draw_answer, Asking.IsAskable, Picture.clocks_of}, lens_svg.specs.Windows.windows_in, tte_audit.specs.Report.events_of}
use Rattle.{lens_svg.specs.Plan.Plan, std.specs.Prelude.All}
use Rattle.lens.proofs.draw.drawing.put_draft.Goals as goal

pub windows_of-requires-clause-index : goal.windows_of-requires-clause-index
windows_of-requires-clause-index g c =
    let r = c.requires.read.some in (events_of r.0, happenings c.args.network.now r.0, c.requires.read.index r.0 r.1 r.2)

pub windows_of-requires-clause-askable : goal.windows_of-requires-clause-askable
windows_of-requires-clause-askable g c =
    let r = c.requires.read.some in
    let draft = c.requires.draft r.0 r.1 r.2 in
    subst (λ (p : Plan). All (IsAskable c.args.network.now) p.marks) (sym draft.sketch) (report_askable c.args.draft.now.sketch.view r.2)

pub returns-in-Ok-clause-gives : goal.returns-in-Ok-clause-gives
returns-in-Ok-clause-gives g c notes end of =
    let network = c.args.network.now in
    let draft = c.requires.draft notes end of in
    let windows = c.deref.ensures.value ∙ c.in-Ok.ensures (events_of notes) (happenings network notes) (c.requires.read.index notes end of)
    ∙ ap (λ (p : Plan). windows_in network (clocks_of network notes) p.marks) draft.sketch in
    inl (draw_answer network c.args.draft.now.sketch.view notes, refl, c.put_sketch.ensures.gives notes end of windows)
