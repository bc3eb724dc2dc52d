use Rattle.end_system.proofs.{RowSearch.block_fits, Words.{◌*◌, ◌+◌, ◌∙◌, ◌≡◌, amount, amount_most, ap, arith, ℕ}}
use Rattle.end_system.proofs.rows.dispatch_of.Goals as goal

pub overflow_mul-value : goal.overflow_mul-value
overflow_mul-value c =
    let most = block_fits c.args.first c.args.slot.residue _ c.requires.first c.requires.residue
    (amount_most c.requires.range.cycle) in
    let product : c.from.result * c.amount.result ≡ (c.args.first + c.args.slot.residue) * amount c.args.own.now.plan.cycle_length =
    ap (λ n. n * c.amount.result) c.from.ensures ∙ ap (λ (n : ℕ). (c.args.first + c.args.slot.residue) * n) c.amount.ensures.value in
    omega (arith, most, product)

pub overflow_add-value : goal.overflow_add-value
overflow_add-value c =
    let most = block_fits c.args.first c.args.slot.residue _ c.requires.first c.requires.residue
    (amount_most c.requires.range.cycle) in
    let product : c.from.result * c.amount.result ≡ (c.args.first + c.args.slot.residue) * amount c.args.own.now.plan.cycle_length =
    ap (λ n. n * c.amount.result) c.from.ensures ∙ ap (λ (n : ℕ). (c.args.first + c.args.slot.residue) * n) c.amount.ensures.value in
    omega (arith, most, product, c.requires.offset)

pub reading_at-requires-clause-value : goal.reading_at-requires-clause-value
reading_at-requires-clause-value c =
    let most = block_fits c.args.first c.args.slot.residue _ c.requires.first c.requires.residue
    (amount_most c.requires.range.cycle) in
    let product : c.from.result * c.amount.result ≡ (c.args.first + c.args.slot.residue) * amount c.args.own.now.plan.cycle_length =
    ap (λ n. n * c.amount.result) c.from.ensures ∙ ap (λ (n : ℕ). (c.args.first + c.args.slot.residue) * n) c.amount.ensures.value in
    omega (arith, most, product, c.requires.offset)
