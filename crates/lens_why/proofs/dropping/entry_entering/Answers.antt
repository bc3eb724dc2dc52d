use Rattle.lens_why.proofs.Frames.{found_at}
use Rattle.run_law.proofs.timed.Rows.{entry_is}
use Rattle.{net_plan.specs.declared.tables.Row.Row, run_law.specs.timed.Arrivals.{entry_of, is_row_with}, std.specs.Prelude.{find, option_and_then, slice_get}}
use Rattle.{net_plan.specs.declared.tables.Way.Way, run_law.specs.scenario.Ways.is_way_of, std.proofs.Common.{◌&&◌, ◌∙◌, Option, ap, sym, ℕ}}
use Rattle.lens_why.proofs.dropping.entry_entering.Goals as goal

pub returns-in-Some-clause-is : goal.returns-in-Some-clause-is
returns-in-Some-clause-is c =
    let network = c.args.network.now in
    let test : Way → Row → _ = λ way row. is_way_of c.args.link way row.link row.way && is_row_with network c.args.id row in
    sym (ap (λ (w : Way). option_and_then (entry_of network) (find (test w) network.row)) (sym c.way_to.ensures)
    ∙ ap (option_and_then (entry_of network)) (found_at (test c.way_to.result) network.row
    ∙ ap (λ (o : Option ℕ). option_and_then (slice_get network.row) o) (sym c.place_entering.ensures.is ∙ c.in-Some.is))
    ∙ entry_is c.entry_of.ensures.is)

pub returns-in-None-clause-is : goal.returns-in-None-clause-is
returns-in-None-clause-is c =
    let network = c.args.network.now in
    let test : Way → Row → _ = λ way row. is_way_of c.args.link way row.link row.way && is_row_with network c.args.id row in
    sym (ap (λ (w : Way). option_and_then (entry_of network) (find (test w) network.row)) (sym c.way_to.ensures)
    ∙ ap (option_and_then (entry_of network)) (found_at (test c.way_to.result) network.row
    ∙ ap (λ (o : Option ℕ). option_and_then (slice_get network.row) o) (sym c.place_entering.ensures.is ∙ c.in-None.is)))
