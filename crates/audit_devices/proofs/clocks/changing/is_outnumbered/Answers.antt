use Rattle.audit_devices.proofs.clocks_lemmas.Reached.{comes_so}
use Rattle.sync_state.specs.declared.answers.Verdict.TheVariants.{AsyncClique}
use Rattle.{device_rules.specs.Answers.verdict_as, std.proofs.Common.{ap, refl}}
use Rattle.audit_devices.proofs.clocks.changing.is_outnumbered.Goals as goal

pub returns-in-AsyncClique : goal.returns-in-AsyncClique
returns-in-AsyncClique c = (λ told. comes_so c.args.point c.in-Some.point AsyncClique c.in-Some.is (ap verdict_as c.in-AsyncClique.is), λ there. refl)
