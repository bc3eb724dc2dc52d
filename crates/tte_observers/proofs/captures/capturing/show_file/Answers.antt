use Rattle.std.proofs.Common.{◌∙◌, sym}
use Rattle.tte_observers.proofs.captures_lemmas.Packets.{head_whole}
use Rattle.tte_observers.proofs.captures.capturing.show_file.Goals as goal

pub show_packets-requires-clause-whole : goal.show_packets-requires-clause-whole
show_packets-requires-clause-whole g c = head_whole c.args.file.now c.in-Ok.head (sym c.open_capture.ensures ∙ c.in-Ok.is)
