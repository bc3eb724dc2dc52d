use Rattle.audit_devices.proofs.Kept.{hearing_adjustment}
use Rattle.audit_sweep.proofs.Lacks.{heard_before, none_later, only_joined}
use Rattle.{audit_devices.specs.Keeping.records_before, audit_sweep.specs.Indexing.permanence_place, run_law.specs.records.Ranks.key}
use Rattle.{audit_law.specs.events.Readings.scenario_under, run_law.specs.records.Happenings.Happening, run_law.specs.declared.judgement.Judgement.TheVariants.Ignored}
use Rattle.std.{proofs.{Common.{◌∙◌, List, arith, rules}, lemmas.Int.to_z-of_z}, specs.Int.w128}
use Rattle.run_law.specs.declared.note.NoteBody.TheVariants as notes
use Rattle.audit_sweep.proofs.index.Index.adjustment_at.Goals as goal

pub returns-clause-is : goal.returns-clause-is
returns-clause-is c befallen hs k =
    let s = scenario_under c.args.network.now befallen in
    let t = c.args.time in
    let f = c.args.frame in
    let judged : List Happening = records_before (permanence_place t c.args.members.0 f) hs in
    let b = heard_before t 3 (key c.args.members.0 (notes.Permanent f.device f.link f.cause f.point Ignored)) hs (omega arith) in
    let shows = c.before_permanence-shown.ensures s hs Ignored k.standings in
    to_z-of_z w128 c.adjustment.result (search rules) ∙ c.adjustment.ensures.value
    ∙ hearing_adjustment s judged f.device c.before_permanence-shown.result.now t (none_later b)
    (only_joined f.device b) shows
