use Rattle.audit_devices.proofs.Words.{◌++◌, ◌∙◌, ◌∷◌, ◌≡◌, Global, List, Taking, Vec, [], ap, arith, length, length-append, option_map_or, refl, slice_get}
use Rattle.audit_devices.proofs.KeptAll.{more_room}
use Rattle.audit_devices.proofs.takings.DeviceTakings.make_room.Goals as goal

pub loop-init : goal.loop-init
loop-init c = (λ other. refl, omega (arith, c.len-counter.ensures))

pub returns-in_err-push-clause-same : goal.returns-in_err-push-clause-same
returns-in_err-push-clause-same c other =
    ap (λ (xs : List (Vec Taking Global)). option_map_or (λ (v : Vec Taking Global). v.items) (slice_get xs other.0) []) c.in_err-push.ensures.items
    ∙ c.loop.invariant.0 other

pub loop-preserved : goal.loop-preserved
loop-preserved c =
    let xs = c.loop.self.vls.items in
    let items : c.push.new.self.items ≡ xs ++ c.new.result ∷ [] = c.in_ok-push.ensures.items in (
      λ other.
          ap (λ (ys : List (Vec Taking Global)). option_map_or (λ (v : Vec Taking Global). v.items) (slice_get ys other.0) []) items
          ∙ more_room xs c.new.result other.0 c.new.ensures.items
          ∙ c.loop.invariant.0 other,
      omega (arith, c.loop.invariant.1, ap length items, length-append xs (c.new.result ∷ [])),
    )

pub returns-clause-same : goal.returns-clause-same
returns-clause-same c = c.loop.invariant.0

pub returns-clause-room : goal.returns-clause-room
returns-clause-room c = omega (arith, c.loop.invariant.1, c.loop-test.false)
