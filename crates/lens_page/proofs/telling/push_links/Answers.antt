use Rattle.{lens_page.{proofs.Pushes.pushed, specs.Lines.link_line}, net_plan.specs.declared.tables.Link.Link}
use Rattle.std.proofs.{Common.{◌++◌, ◌∙◌, List, ap, arith, map, sym, take, ℕ}, Math.Seq.take-length, lemmas.List.append-nil}
use Rattle.std.specs.List.{concat}
use Rattle.lens_page.proofs.telling.push_links.Goals as goal

pub links-init : goal.links-init
links-init c = sym (append-nil c.args.text.now.items)

pub links-preserved : goal.links-preserved
links-preserved c =
    c.in_ok-extend_from_slice.ensures.items
    ∙ pushed (link_line c.args.network.now) c.as_slice-link-items.result.now _ c.links.link-index c.args.text.now.items c.links.text.items c.as_slice.result.now
    c.links-test.true c.links.invariant (c.as_slice.ensures ∙ c.make_link_line.ensures ∙ ap (link_line c.args.network.now) c.link-item.is)

pub returns : goal.returns
returns c =
    let all = c.as_slice-link-items.result.now in
    let text = λ (xs : List Link). c.args.text.now.items ++ concat (map (link_line c.args.network.now) xs) in
    c.links.invariant
    ∙ ap (λ (i : ℕ). text (take i all)) (omega (arith, c.links-test.false, c.links.auto.link-index-end))
    ∙ ap text (take-length all)
    ∙ ap text c.as_slice-link-items.ensures
