use Rattle.{lens_page.{proofs.Pushes.pushed, specs.Lines.vl_line}, net_plan.specs.declared.tables.VirtualLink.VirtualLink}
use Rattle.std.proofs.{Common.{◌++◌, ◌∙◌, List, ap, arith, map, sym, take, ℕ}, Math.Seq.take-length, lemmas.List.append-nil}
use Rattle.std.specs.List.{concat}
use Rattle.lens_page.proofs.telling.push_vls.Goals as goal

pub vls-init : goal.vls-init
vls-init c = sym (append-nil c.args.text.now.items)

pub vls-preserved : goal.vls-preserved
vls-preserved c =
    c.in_ok-extend_from_slice.ensures.items
    ∙ pushed (vl_line c.args.network.now) c.as_slice-vl-items.result.now _ c.vls.vl-index c.args.text.now.items c.vls.text.items c.as_slice.result.now
    c.vls-test.true c.vls.invariant (c.as_slice.ensures ∙ c.make_vl_line.ensures ∙ ap (vl_line c.args.network.now) c.vl-item.is)

pub returns : goal.returns
returns c =
    let all = c.as_slice-vl-items.result.now in
    let text = λ (xs : List VirtualLink). c.args.text.now.items ++ concat (map (vl_line c.args.network.now) xs) in
    c.vls.invariant
    ∙ ap (λ (i : ℕ). text (take i all)) (omega (arith, c.vls-test.false, c.vls.auto.vl-index-end))
    ∙ ap text (take-length all)
    ∙ ap text c.as_slice-vl-items.ensures
