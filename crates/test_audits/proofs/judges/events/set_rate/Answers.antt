use Rattle.std.proofs.Common.{[], refl}
use Rattle.audit_law.proofs.events_lemmas.Keeping.{rate_within}
use Rattle.net_plan.specs.declared.ids.DeviceId.{DeviceId}
use Rattle.test_audits.proofs.judges.events.set_rate.Goals as goal

pub add-requires-clause-within : goal.add-requires-clause-within
add-requires-clause-within c =
    let first : DeviceId = record { 0 = 0 } in (
      c.args.network.now,
      [],
      c.requires.untouched,
      record { of_network = c.requires.device; within = rate_within c.args.network.now _ first c.args.rate refl refl c.requires.slow },
    )
