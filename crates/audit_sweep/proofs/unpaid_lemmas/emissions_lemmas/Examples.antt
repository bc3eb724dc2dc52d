-- One record, for the tests.
use Rattle.{run_law.specs.declared.judgement.Judgement.TheVariants.Opened, tte_units.specs.declared.frames.{mac.Mac.Mac, pcf.PcfKind.TheVariants.Integration}}
use Rattle.{run_law.specs.{declared.note.NoteBody.TheVariants.Permanent, records.Happenings.Happening}, std.proofs.Common.{Some, [], pos}}

-- a frame of the first master is permanent at the second device, at the time that is its point
abbrev pub one_permanent : Mac → Happening
one_permanent mac = record {
  note = record {
    number = 2;
    time = record { 0 = pos 5000000000 };
    body = Permanent (record { 0 = 1 }) (record { 0 = 0 }) 1 (record { 0 = pos 5000000000 }) Opened;
  };
  frame = Some (record {
    destination = mac;
    source = mac;
    cycle = 0;
    members = record { 0 = 1 };
    priority = 0;
    domain = 0;
    kind = Integration;
    clock = 0;
  });
  octets = [];
}
