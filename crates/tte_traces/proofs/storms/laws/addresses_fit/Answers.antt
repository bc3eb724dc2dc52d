use Rattle.{net_plan.specs.declared.tables.Device.Device, std.{proofs.{Math.Seq.take-length, lemmas.List.take_more}, specs.Prelude.{All, take}}}
use Rattle.std.proofs.{Common.{◌++◌, ◌+◌, ◌<◌, ◌^◌, ◌∙◌, ◌∷◌, ◌≡◌, [], ap, arith, subst, sym, ℕ}, lemmas.List.Elements.{All-append, All-cons, All-nil}}
use Rattle.tte_traces.proofs.storms.laws.addresses_fit.Goals as goal

pub devices-preserved : goal.devices-preserved
devices-preserved c =
    let all = c.args.devices.now in
    let n = c.devices.device-index in
    let device = c.device-item.result in
    let fits : Device → Type 0 = λ d. d.mac < 2 ^ 48 in
    let front : take (n + 1) all ≡ take n all ++ device ∷ [] =
    take_more all n device c.devices-test.true ∙ ap (λ (d : Device). take n all ++ d ∷ []) (sym c.device-item.is) in
    subst (All fits) (sym front) (All-append fits (take n all) (device
    ∷ []) c.devices.invariant (All-cons fits device [] c.address_fits.ensures (All-nil fits)))

pub returns : goal.returns
returns c =
    let all = c.args.devices.now in
    subst (All (λ (d : Device). d.mac < 2 ^ 48))
    (ap (λ (i : ℕ). take i all) (omega (arith, c.devices-test.false, c.devices.auto.device-index-end)) ∙ take-length all) c.devices.invariant
