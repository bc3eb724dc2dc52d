use Rattle.lens_flows.{proofs.counts_lemmas.Telling.least_same}
use Rattle.lens_flows.{specs.counts.Nearest.{IsInside, IsInsideRow, TellsLeast}}
use Rattle.{schedule_tables.specs.Windows.window_of, std.proofs.Common.{pos, rules, subst, sym}}
use Rattle.lens_flows.proofs.counts.nearest.inside_row.Goals as goal

pub returns : goal.returns
returns c =
    let network = c.args.network.now in
    let entry = c.entry_of-entry.result in
    let inside = subst (λ w. TellsLeast (IsInside w (pos c.args.place)) c.inside.result) c.window_of.ensures c.inside.ensures in
    least_same (IsInside (window_of network entry) (pos c.args.place)) (IsInsideRow network c.args.flow.now c.args.link (pos c.args.place) c.args.row.0)
    c.inside.result
    (λ x y in_it. record {
      entry = entry;
      is = c.entry_of-entry.ensures.is;
      of_vl = search rules;
      enters = search rules;
      by = search rules;
      inside = in_it;
    })
    (λ x y at.
    let same = c.entries_law.ensures.one network c.args.row.0 entry at.entry c.entry_of-entry.ensures.is at.is in
    subst (λ e. IsInside (window_of network e) (pos c.args.place) x y) (sym same) at.inside) inside
