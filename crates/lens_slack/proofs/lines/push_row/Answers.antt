use Rattle.{lens_slack.proofs.Named.{joined, row_named}, std.proofs.Common.{◌++◌, ◌<◌, ◌∙◌, ap, arith, length}}
use Rattle.lens_slack.proofs.lines.push_row.Goals as goal

pub returns-clause-text : goal.returns-clause-text
returns-clause-text c =
    let rows = c.as_slice.result.now in
    let line = c.args.line.now in
    let within : c.args.row.0 < length rows = omega (arith, c.requires.row, ap length c.as_slice.ensures) in
    let text = row_named c.args.network.now c.args.row rows _ c.vl_name.result.now c.link_name.result.now c.way_text.result.now c.as_slice.ensures within
    c.vl_name.ensures.text c.link_name.ensures.text c.way_text.ensures.text in
    joined line c.vl_name.result.now _ c.link_name.result.now _ c.way_text.result.now c.append.new.self c.push.new.self c.append-2.new.self
    c.push-2.new.self c.push-3.new.self c.append.ensures c.push.ensures.text c.append-2.ensures c.push-2.ensures.text c.push-3.ensures.text
    ∙ ap (λ names. line ++ names) text
