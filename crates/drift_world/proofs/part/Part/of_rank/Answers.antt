use Rattle.drift_world.{proofs.{Timings.one_rank, Words.{◌∙◌, ◌≡◌, refl, sym}}}
use Rattle.drift_world.{specs.{Parts.part_rank, declared.part.Part.{Part, TheVariants.{Emissions, Late, Sendings}}}}
use Rattle.drift_world.proofs.part.Part.of_rank.Goals as goal

late_part : (part : Part) → (part_rank part ≡ 4 → ⊥) → (part_rank part ≡ 5 → ⊥) → Late ≡ part
late_part Emissions four five = absurd (four refl)
late_part Sendings four five = absurd (five refl)
late_part Late four five = refl

pub returns-then-rank-number : goal.returns-then-rank-number
returns-then-rank-number c = λ part e. one_rank Emissions part (sym (c.number.ensures ∙ c.rank.ensures) ∙ sym c.if-rank-number.true ∙ e)

pub returns-then-rank-number-2 : goal.returns-then-rank-number-2
returns-then-rank-number-2 c = λ part e. one_rank Sendings part (sym (c.number-2.ensures ∙ c.rank-2.ensures) ∙ sym c.if-rank-number-2.true ∙ e)

pub returns-else-rank-number-2 : goal.returns-else-rank-number-2
returns-else-rank-number-2 c = λ part e. late_part part
    (λ four. c.if-rank-number.false (e ∙ four ∙ sym (c.number.ensures ∙ c.rank.ensures)))
    (λ five. c.if-rank-number-2.false (e ∙ five ∙ sym (c.number-2.ensures ∙ c.rank-2.ensures)))
