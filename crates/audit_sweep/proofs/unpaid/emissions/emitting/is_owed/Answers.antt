use Rattle.{audit_devices.specs.Keeping.records_before, audit_law.specs.events.Readings.scenario_under, run_law.specs.control.Collections.points_of}
use Rattle.audit_devices.specs.stretches.Points.{HasPoints}
use Rattle.audit_sweep.proofs.unpaid_lemmas.emissions_lemmas.Owing.{are_in, emits_by, owed_by}
use Rattle.std.proofs.{Common.{◌∙◌, subst, sym}, lemmas.Bool.false≢true}
use Rattle.audit_sweep.proofs.unpaid.emissions.emitting.is_owed.Goals as goal

pub returns-then-is_broken : goal.returns-then-is_broken
returns-then-is_broken c network befallen hs remembers stands has cm reach = (
  λ never. absurd (false≢true never),
  λ owes.
      let broken = sym c.if-is_broken.true ∙ c.is_broken.ensures network befallen remembers has ∙ owes.emits.correct in
      absurd (false≢true (sym broken)),
)

pub emits-requires : goal.emits-requires
emits-requires c = let some = c.requires.kept in (some.0, _, c.before-2.ensures some.0 some.1 some.2 some.3)

pub returns : goal.returns
returns c network befallen hs remembers stands has cm reach =
    let s = scenario_under network befallen in
    let a = c.args.emitted.now in
    let time = c.args.time in
    let device = c.args.device in
    let stretch = c.before-2.result in
    let correct = sym (c.is_broken.ensures network befallen remembers has) ∙ c.if-is_broken.false in
    let points = subst (λ p. HasPoints network (points_of (records_before p hs) device) stretch.collections.now stretch.gathering)
    c.place_of-place.ensures (c.before-2.ensures network hs stands cm) in
    let are = are_in points in
    let emits = c.emits.ensures network _ _ points are in (
      λ told. owed_by s hs device a time _ cm correct are reach (emits.0 told),
      λ owes. emits.1 (emits_by a _ are owes),
    )
