use Rattle.std.proofs.Common.{◌∙◌, ap}
use Rattle.lens.proofs.draw_lemmas.Marking.{drafted_more}
use Rattle.lens_svg.specs.{Clocks.clocks_with, Sketching.took_glance}
use Rattle.lens.proofs.draw.drawing.DraftRecordTaker.take.Goals as goal

pub returns : goal.returns
returns c octets notes before begun next holds =
    drafted_more (record { sketch = c.take.new.self; clocks = c.take-2.new.self }) c.args.note.now holds
    (c.in_ok-take.ensures ∙ ap (took_glance c.args.network.now c.args.self.now.sketch) c.of-glance.ensures)
    (c.in_ok-take-2.ensures ∙ ap (λ s. clocks_with s c.args.self.now.clocks c.args.note.now) c.span.ensures)
