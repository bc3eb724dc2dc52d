use Rattle.lens_schedule.{proofs.LawProofs.{all_in_range, most_links, most_rows}}
use Rattle.lens_schedule.{specs.{Answer.{IsScheduleOf, picture_answer}, Picture.IsPicture}}
use Rattle.net_plan.specs.{Ranges.IsInRange}
use Rattle.schedule_tables.specs.{Entries.IsEntryInRange, Rules.KeepsRules, declared.entry.Entry.Entry}
use Rattle.{lens_svg.specs.Titles.title_of, std.{proofs.Common.{◌≤◌, inl, length, refl, subst, sym}, specs.List.All}}
use Rattle.tte_forms.specs.{Answering.{Gives, GivesAnswer}, Putting.shown_by}
use Rattle.lens_schedule.proofs.answering.put_schedule_of.Goals as goal

pub picture_of-requires-clause-links : goal.picture_of-requires-clause-links
picture_of-requires-clause-links g c =
    most_links c.network-network.result.now (subst KeepsRules (sym c.network-network.ensures.value) c.network-network.ensures.rules)

pub picture_of-requires-clause-few : goal.picture_of-requires-clause-few
picture_of-requires-clause-few g c =
    let keeps = subst KeepsRules (sym c.network-network.ensures.value) c.network-network.ensures.rules in
    subst (λ es. length es ≤ 1024) (sym c.as_slice.ensures.value) (most_rows keeps c.in-Ok.ensures)

pub picture_of-requires-clause-rows : goal.picture_of-requires-clause-rows
picture_of-requires-clause-rows g c =
    let range = subst IsInRange (sym c.network-network.ensures.value) c.network-network.ensures.range in
    subst (All (IsEntryInRange c.network-network.result.now)) (sym c.as_slice.ensures.value)
    (all_in_range c.entries_law.ensures.range range c.in-Ok.ensures)

pub returns-in-Ok-picture_of-clause-gives : goal.returns-in-Ok-picture_of-clause-gives
returns-in-Ok-picture_of-clause-gives g c =
    let old = shown_by g.K.Sink c.args.out.now in
    let new = shown_by g.K.Sink c.put_parts.new.out in
    let status = c.put_parts.result in
    let n = c.network-network.result.now in
    let entries = c.in-Ok.entries.items in
    let parts = c.in-Ok-picture_of.parts.items in
    let title = title_of c.args.words.now in
    let picture = subst (λ es. IsPicture n es parts) c.as_slice.ensures.value c.in-Ok-picture_of.ensures in
    let gives =
    subst (λ t. Gives (picture_answer n t parts) status old new) c.of-title.ensures
    (subst (λ ps. Gives (picture_answer n c.of-title.result ps) status old new) c.as_slice-in-Ok-picture_of.ensures.value
    c.put_parts.ensures.gives) in
    subst (λ m. GivesAnswer (IsScheduleOf c.args.words.now m) status old new) c.network-network.ensures.value
    (inl (picture_answer n title parts, record { entries = entries; rows = c.in-Ok.ensures; parts = parts; picture = picture; is = refl }, gives))
