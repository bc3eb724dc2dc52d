use Rattle.lens.{proofs.draw_lemmas.Marking.{flat_all, flat_fails, flat_more}, specs.draw.Picture.found_line}
use Rattle.lens_svg.specs.declared.mark.Mark.{Mark}
use Rattle.tte_forms.{proofs.Puts.PutsLines-none, specs.Putting.shown_by}
use Rattle.{run_law.specs.declared.note.Note.Note, std.proofs.Common.{◌∙◌, List, refl, ℕ}, tte_reports.specs.Places.note_at}
use Rattle.net_plan.specs.declared.network.Network.{Network}
use Rattle.lens.proofs.draw.marks.put_drawn.Goals as goal

abbrev line_by : Network → List Note → Mark → List (List ℕ)
line_by network notes mark = found_line network mark (note_at notes mark.number)

pub drawn-init : goal.drawn-init
drawn-init g c = record { puts = λ notes end of. PutsLines-none (shown_by g.K.Sink c.args.out.now); quiet = refl }

pub drawn-preserved : goal.drawn-preserved
drawn-preserved g c =
    let shown = shown_by g.K.Sink in
    record {
      puts = λ notes end of.
          flat_more (line_by c.args.network.now notes) c.args.marks.now c.drawn.mark-index _ (shown c.args.out.now) (shown c.drawn.out)
          (shown c.put_mark.new.out) c.drawn-test.true (c.drawn.invariant.puts notes end of) (c.in-Ok.ensures.draws notes end of);
      quiet = c.in-Ok.ensures.faults ∙ c.drawn.invariant.quiet;
    }

pub returns-in-Err-clause-draws : goal.returns-in-Err-clause-draws
returns-in-Err-clause-draws g c notes end of =
    let shown = shown_by g.K.Sink in
    flat_fails (line_by c.args.network.now notes) c.args.marks.now c.drawn.mark-index _ (shown c.args.out.now) (shown c.drawn.out)
    (shown c.put_mark.new.out) c.drawn-test.true (c.drawn.invariant.puts notes end of) (c.in-Err.ensures.draws notes end of)

pub returns-clause-draws : goal.returns-clause-draws
returns-clause-draws g c notes end of =
    let shown = shown_by g.K.Sink in
    flat_all (line_by c.args.network.now notes) c.args.marks.now c.drawn.mark-index (shown c.args.out.now) (shown c.drawn.out) c.drawn-test.false
    (c.drawn.invariant.puts notes end of)
