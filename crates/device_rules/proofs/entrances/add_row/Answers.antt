use Rattle.device_rules.proofs.Takings.{row_kept, row_skipped}
use Rattle.{tte_units.proofs.general_lemmas.Options.{none_at, some_by}}
use Rattle.{std.proofs.Common.{◌∙◌, sym}}
use Rattle.device_rules.proofs.entrances.add_row.Goals as goal

pub returns-then-not-is_of : goal.returns-then-not-is_of
returns-then-not-is_of c earlier place is have are =
    row_skipped c.args.network.now c.args.which earlier c.args.rows.now is have are
    (λ comes. let never = sym comes ∙ sym (c.is_of.ensures c.args.network.now place is) ∙ c.if-not-is_of.true in
    absurd cc)

pub returns-then-contains_key : goal.returns-then-contains_key
returns-then-contains_key c earlier place is have are =
    row_skipped c.args.network.now c.args.which earlier c.args.rows.now is have are
    (λ comes. some_by _ (rw (sym c.entrance_of-entrance.ensures) (sym c.contains_key.ensures ∙ c.if-contains_key.true)))

pub returns-in-Ok : goal.returns-in-Ok
returns-in-Ok c earlier place is have are =
    row_kept c.args.network.now c.args.which earlier c.args.rows.now c.insert.new.self is have are
    (sym (c.is_of.ensures c.args.network.now place is) ∙ c.if-not-is_of.false)
    (none_at _ (rw (sym c.entrance_of-entrance.ensures) (sym c.contains_key.ensures ∙ c.if-contains_key.false)))
    (rw c.entering_row.ensures at (rw c.entrance_of-entrance.ensures at c.in-Ok.ensures.updates))
