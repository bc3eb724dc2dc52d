use Rattle.audit_devices.proofs.{KeptAll.{fresh_more, kept_first}, Words.{sym, ℕ}}
use Rattle.audit_devices.proofs.Words.{◌++◌, ◌∙◌, ◌∷◌, ◌≡◌, DeviceId, History, IsFresh, List, Shows, [], ap, arith, length, length-append, slice_get, subst}
use Rattle.audit_devices.proofs.standings.Standings.new.Goals as goal

pub overflow_cast-place : goal.overflow_cast-place
overflow_cast-place c = omega (arith, c.loop-place-test.true, c.requires.few_devices, ap length c.as_slice-place-end.ensures)

pub loop-place-preserved : goal.loop-place-preserved
loop-place-preserved c =
    let network = c.args.network.now in
    let xs = c.loop-place.histories.items in
    let x = c.new.result in
    let place = c.loop-place.place in
    let device : DeviceId = record { 0 = place } in
    let items : c.push.new.self.items ≡ xs ++ x ∷ [] = c.in_ok-push.ensures.items in
    let fresh : IsFresh network device x = record {
      none = c.new.ensures.none;
      shows = λ s is steady. subst (Shows s [] device) (sym c.new.ensures.first) (c.new-first.ensures s is steady);
    } in
    let mk : ℕ → DeviceId = λ n. record { 0 = n } in
    let last = subst (λ (n : ℕ). IsFresh network (mk n) x) (sym c.loop-place.invariant.0) fresh in (
      ap length items ∙ omega (arith, length-append xs (x ∷ []), c.loop-place.invariant.0),
      λ d history there.
          fresh_more xs c.loop-place.invariant.1 last d history
          (ap (λ (ys : List History). slice_get ys d.0) (sym items) ∙ there),
    )

pub returns-clause-stands : goal.returns-clause-stands
returns-clause-stands c s is steady device history there =
    kept_first is (steady device) (c.loop-place.invariant.1 device history there)
