use Rattle.fault_hypothesis.proofs.storm_lemmas.OneStorm.{some_device, some_link}
use Rattle.fault_hypothesis.proofs.storm.chosen.draw_in.Goals as goal

pub device-device-requires-clause-some : goal.device-device-requires-clause-some
device-device-requires-clause-some c = some_device c.args.network.now c.requires.rules

pub link-link-requires-clause-some : goal.link-link-requires-clause-some
link-link-requires-clause-some c = some_link c.args.network.now c.requires.rules
