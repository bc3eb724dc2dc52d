use Rattle.{std.proofs.Common.{◌∙◌, arith}, tte_io.proofs.Spelling.put_behind}
use Rattle.tte_io.proofs.line_text.LineText.append_padded.Goals as goal

pub returns-clause-text : goal.returns-clause-text
returns-clause-text g c =
    let len = c.self.inside.len in
    let whole = c.copy_from_slice.ensures.len in
    put_behind c.self.inside.octets c.copy_from_slice.new.self _ c.args.octets.now len c.args.count (omega (arith, c.self.invariant, c.self.told))
    (omega (arith, c.requires.count, c.told-octets)) c.copy_from_slice.ensures.after
    ∙ (rw c.self.view_is)
