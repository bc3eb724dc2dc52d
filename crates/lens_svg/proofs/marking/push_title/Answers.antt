use Rattle.lens_svg.proofs.NoteTexts.{cut_line, note_short}
use Rattle.{report_text.specs.NoteLine.note_text, std.proofs.Common.{◌++◌, ◌-◌, ◌∙◌, List, ap, arith, length, length-append, take, ℕ}}
use Rattle.lens_svg.proofs.marking.push_title.Goals as goal

pub append-requires : goal.append-requires
append-requires c =
    let network = c.args.network.now in
    let note = c.args.note.now in
    let own = c.as_slice-own.result.now in
    let cut = cut_line (note_text network note) own (c.as_slice-own.ensures ∙ c.make_note_line.ensures) in
    let short = note_short network note c.requires.range c.requires.of_network c.requires.in_range in
    let room = c.requires.room in
    omega (arith, ap length cut, short, room)

pub returns-clause-grows : goal.returns-clause-grows
returns-clause-grows c =
    let network = c.args.network.now in
    let note = c.args.note.now in
    let own = c.as_slice-own.result.now in
    let cut = cut_line (note_text network note) own (c.as_slice-own.ensures ∙ c.make_note_line.ensures) in
    let short = note_short network note c.requires.range c.requires.of_network c.requires.in_range in
    let whole = ap length c.append.ensures in
    omega (arith, ap length cut, short, whole, length-append c.args.line.now (take (length own - 1) own))

pub returns-clause-text : goal.returns-clause-text
returns-clause-text c =
    let network = c.args.network.now in
    let note = c.args.note.now in
    let own = c.as_slice-own.result.now in
    let cut = cut_line (note_text network note) own (c.as_slice-own.ensures ∙ c.make_note_line.ensures) in
    c.append.ensures ∙ ap (λ (xs : List ℕ). c.args.line.now ++ xs) cut
