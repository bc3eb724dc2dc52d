use Rattle.lens_overview.{proofs.Joins.joined, specs.Lines.{apart_text, greatest_text}}
use Rattle.std.{proofs.Common.{◌++◌, ◌∙◌, ap, sym}, specs.Prelude.codes}
use Rattle.lens_overview.proofs.lines.push_greatest.Goals as goal

pub returns-in-Some-clause-text : goal.returns-in-Some-clause-text
unfolding greatest_text
returns-in-Some-clause-text c =
    let o = c.args.line.now in
    joined o (codes "spread of clocks up to ") (apart_text c.in-Some.greatest) c.push.new.self c.push_apart.new.line c.push.ensures.text
    c.push_apart.ensures.text
    ∙ ap (λ g. o ++ greatest_text g) (sym c.in-Some.is)
