use Rattle.{audit_law.specs.events.Readings.scenario_under, std.proofs.{Common.{◌∙◌, sym}, lemmas.Bool.false≢true}}
use Rattle.audit_sweep.proofs.unpaid.emissions.emitting.is_unemitted.Goals as goal

pub returns-then-is_told-clause-unemitted : goal.returns-then-is_told-clause-unemitted
returns-then-is_told-clause-unemitted c network befallen hs kept founded has cm reach never = absurd (false≢true never)

pub returns-then-is_told-clause-told : goal.returns-then-is_told-clause-told
returns-then-is_told-clause-told c network befallen hs kept founded has cm reach is owes =
    (c.is_told.ensures (scenario_under network befallen) hs kept.places_are founded reach).0 c.if-is_told.true

pub returns-else-is_told-clause-unemitted : goal.returns-else-is_told-clause-unemitted
returns-else-is_told-clause-unemitted c network befallen hs kept founded has cm reach is = (
  (c.is_owed.ensures network befallen hs kept.remembers kept.stands has cm reach).0 is,
  λ told.
      false≢true (sym c.if-is_told.false ∙ (c.is_told.ensures (scenario_under network befallen) hs kept.places_are founded reach).1 told),
)

pub returns-else-is_told-clause-told : goal.returns-else-is_told-clause-told
returns-else-is_told-clause-told c network befallen hs kept founded has cm reach is owes =
    absurd (false≢true (sym is ∙ (c.is_owed.ensures network befallen hs kept.remembers kept.stands has cm reach).1 owes))
