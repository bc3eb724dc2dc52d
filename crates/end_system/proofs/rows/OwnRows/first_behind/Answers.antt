use Rattle.std.proofs.Common.{◌-◌, ◌/◌}
use Rattle.end_system.proofs.{Ripe.{at_least, some_length}, RowSearch.first_next, Words.{◌%◌, ◌+◌, ◌∷◌, [], ap, ℕ}}
use Rattle.end_system.proofs.rows.OwnRows.first_behind.Goals as goal

pub returns-clause-next : goal.returns-clause-next
returns-clause-next c = λ network device s is are same synchronised.
    let value = c.value_behind-value in
    let length = c.amount-length.ensures.value in
    first_next network device c.args.own.now c.args.self.now s
    c.args.adjustment {local = c.args.local.0} {value = value.result} c.first_from.result is are same synchronised
    (record {
      some = some_length _ (at_least c.requires.range.cycle);
      silent = value.ensures.begun;
      least = value.ensures.least;
      next = value.ensures.next;
      first_is = ap (λ (n : ℕ). value.result / n - value.result / n % 64) length;
      bound_is = ap (λ (n : ℕ). (value.result / n % 64) ∷ (value.result % n + 1) ∷ 0 ∷ 0 ∷ []) length;
    })
    c.first_from.ensures
