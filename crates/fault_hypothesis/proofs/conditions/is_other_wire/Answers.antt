use Rattle.std.{proofs.{Common.{◌+ℤ◌, ◌<ℤ◌, ◌≡◌, ◌≤ℤ◌, ◌⊎◌, ◌^◌, FitsSigned, arith, inl, inr, neg_ℤ, pos, ℤ}, lemmas.Int.{ints}}, specs.{Bool.Decides, Int.w64}}
use lib.Signed.{lt_z}
use mir.Val.{of_z, to_z}
use Rattle.fault_hypothesis.proofs.conditions.is_other_wire.Goals as goal

fits : (z : ℤ) → neg_ℤ (pos (2 ^ 50)) ≤ℤ z → z ≤ℤ pos (2 ^ 50) → FitsSigned w64 z
fits z low high = grind (arith, ints)

-- a delay that is not below the wire's is another where it is beyond the sum
beyond : (s d sum delay wire : ℤ) → s ≡ sum → d ≡ delay → wire ≤ℤ delay → Decides (lt_z s d) ((delay <ℤ wire) ⊎ (sum <ℤ delay))
beyond s d sum delay wire same also low = (
  λ yes. inr (omega (arith, ints)),
  λ either. elim either [ inl e ↦ absurd (omega (arith, ints)) | inr e ↦ grind (arith, ints) ],
)

pub overflow_add-result : goal.overflow_add-result
overflow_add-result c =
    let wire = c.requires.wire in
    let jitter = c.requires.jitter in
    fits _ (omega (arith, ints, wire.least, jitter.least)) (omega (arith, ints, wire.most, jitter.most))

pub returns-then-delay-link : goal.returns-then-delay-link
returns-then-delay-link c = (λ _. inl (omega (arith, ints, c.if-delay-link.true)), λ _. c.if-delay-link.true)

pub returns-else-delay-link : goal.returns-else-delay-link
returns-else-delay-link c =
    let wire = c.requires.wire in
    let jitter = c.requires.jitter in
    let z : ℤ → ℤ = λ x. to_z w64 (of_z w64 x) in
    let sum = c.args.link.now.wire.0 +ℤ c.args.link.now.jitter.0 in
    beyond (z (z c.args.link.now.wire.0 +ℤ z c.args.link.now.jitter.0)) (z c.args.delay.0) sum c.args.delay.0 c.args.link.now.wire.0
    (omega (arith, ints, wire.least, wire.most, jitter.least, jitter.most)) (omega (arith, ints)) (omega (arith, ints, c.if-delay-link.false))
