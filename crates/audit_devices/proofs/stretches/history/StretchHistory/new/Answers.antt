use Rattle.std.proofs.Common.{◌++◌, ◌∙◌, ◌∷◌, ◌≡◌, List, [], ap, arith, length, length-append, slice_get, sym}
use Rattle.audit_devices.{proofs.stretches_lemmas.Stretches.each_more, specs.stretches.Keeping.{Keeps, Stretches}}
use Rattle.audit_devices.proofs.stretches.history.StretchHistory.new.Goals as goal

pub loop-preserved : goal.loop-preserved
loop-preserved c =
    let network = c.args.network.now in
    let xs = c.loop.kept.items in
    let x : Stretches = c.new.result in
    let items : c.push.new.self.items ≡ xs ++ x ∷ [] = c.in_ok-push.ensures.items in (
      ap length items ∙ omega (arith, length-append xs (x ∷ []), c.loop.invariant.0),
      λ i kept device there.
          each_more (λ (k : Stretches). Keeps network [] device k) xs x (λ j k e. c.loop.invariant.1 j k device e) (c.new.ensures device) i kept
          (ap (λ (ys : List Stretches). slice_get ys i) (sym items) ∙ there),
    )

pub returns-clause-stands : goal.returns-clause-stands
returns-clause-stands c device kept there cm = c.loop.invariant.1 device.0 kept device there
