use Rattle.audit_devices.proofs.clocks_lemmas.Reached.{comes_so}
use Rattle.sync_state.specs.declared.answers.Verdict.TheVariants.{SyncClique}
use Rattle.{device_rules.specs.Answers.verdict_as, std.proofs.Common.{ap, refl}}
use Rattle.audit_devices.proofs.clocks.changing.is_alone.Goals as goal

pub returns-in-SyncClique : goal.returns-in-SyncClique
returns-in-SyncClique c = (λ told. comes_so c.args.point c.in-Some.point SyncClique c.in-Some.is (ap verdict_as c.in-SyncClique.is), λ there. refl)
