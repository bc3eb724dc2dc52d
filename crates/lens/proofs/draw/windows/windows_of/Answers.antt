use Rattle.{audit_law.specs.events.Readings.scenario_under, std.proofs.Common.{◌++◌, ◌∙◌, ◌≤◌, Global, List, Option, Vec, [], ap, length, subst, sym, take_all}}
use Rattle.lens.proofs.{draw.windows.windows_of.Goals.{in-Some+in-Ok, in_default}, draw_lemmas.Marking.with_next}
use Rattle.lens_svg.specs.Windows.{came_of, windows_in}
use Rattle.lens_svg.specs.declared.{mark.Mark.Mark, window.Came.Came}
use Rattle.audit_sweep.specs.Indexing.{clock_at}
use Rattle.{lens.specs.draw.Asking.IsAskable, std.{proofs.lemmas.List.append-nil, specs.{List.cons_option, Prelude.All}}}
use Rattle.lens.proofs.draw.windows.windows_of.Goals as goal

pub came_at-requires-clause-askable : goal.came_at-requires-clause-askable
came_at-requires-clause-askable c =
    subst (λ (ms : List Mark). All (IsAskable c.args.network.now) ms) (sym c.marks-marks.ensures) c.requires.askable c.frames.mark-index _
    c.frames-test.true

pub frames-preserved : goal.frames-preserved
frames-preserved c befallen hs index =
    let network = c.args.network.now in
    let clock = clock_at (scenario_under network befallen) hs in
    let own = c.came_at.ensures befallen hs index in
    let before = c.frames.invariant befallen hs index in
    elim c.match-came_at.branch [
      | in-Some+in-Ok w ↦
          with_next (λ (m : Mark). came_of network m (clock m.device m.time)) c.args.sketch.now.marks c.marks-marks.result.now c.marks-marks.ensures
          c.frames.mark-index _ c.frames-test.true c.frames.windows.items c.match-came_at.windows.items c.came_at.result before own
          (ap (λ (v : Vec Came Global). v.items) w.windows-is ∙ w.in-Ok.ensures.items
          ∙ ap (λ (o : Option Came). c.frames.windows.items ++ cons_option o []) (sym w.in-Some.is))
      | in_default w ↦
          with_next (λ (m : Mark). came_of network m (clock m.device m.time)) c.args.sketch.now.marks c.marks-marks.result.now c.marks-marks.ensures
          c.frames.mark-index _ c.frames-test.true c.frames.windows.items c.match-came_at.windows.items c.came_at.result before own
          (ap (λ (v : Vec Came Global). v.items) w.windows-is
          ∙ sym (ap (λ (o : Option Came). c.frames.windows.items ++ cons_option o []) w.in_default.is ∙ append-nil c.frames.windows.items))
    ]

pub returns : goal.returns
returns c befallen hs index =
    let network = c.args.network.now in
    let clock = clock_at (scenario_under network befallen) hs in
    c.frames.invariant befallen hs index
    ∙ ap (windows_in network clock)
    (take_all c.frames.mark-index c.args.sketch.now.marks
    (subst (λ ms. length ms ≤ c.frames.mark-index) c.marks-marks.ensures c.frames-test.false))
