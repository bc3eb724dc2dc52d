-- The keys of a network file as they are written.
use Rattle.std.specs.Prelude.{List, codes, ℕ}
use Rattle.net_file.specs.declared.keys.KeyName.TheVariants.{Calc, Channel, Child, Correction, Cycle, Device, Dmax}
use Rattle.net_file.specs.declared.keys.KeyName.TheVariants.{Domain, Ethertype, Grain, Hold, Id, Jitter, Length, Link}
use Rattle.net_file.specs.declared.keys.KeyName.TheVariants.{Mac, Marker, Member, Name, Offset, Parent, PcfDestination}
use Rattle.net_file.specs.declared.keys.KeyName.TheVariants.{Period, Phase, Precision, Priority, Rho, Role, Row, Sender}
use Rattle.net_file.specs.declared.keys.KeyName.TheVariants.{Settled, Speed, Start, SyncThreshold, TtStart, Version, Vl}
use Rattle.net_file.specs.declared.keys.KeyName.{KeyName, TheVariants.{Way, Wire}}

-- the text of a key
unfoldable pub key_text : KeyName → List ℕ
key_text Version = codes "version"
key_text Cycle = codes "cycle"
key_text Rho = codes "rho"
key_text Grain = codes "grain"
key_text Dmax = codes "dmax"
key_text Calc = codes "calc"
key_text Settled = codes "settled"
key_text Precision = codes "precision"
key_text Correction = codes "correction"
key_text TtStart = codes "tt_start"
key_text SyncThreshold = codes "sync_threshold"
key_text Priority = codes "priority"
key_text Domain = codes "domain"
key_text PcfDestination = codes "pcf_destination"
key_text Marker = codes "marker"
key_text Name = codes "name"
key_text Role = codes "role"
key_text Mac = codes "mac"
key_text Member = codes "member"
key_text Channel = codes "channel"
key_text Start = codes "start"
key_text Child = codes "child"
key_text Parent = codes "parent"
key_text Wire = codes "wire"
key_text Jitter = codes "jitter"
key_text Hold = codes "hold"
key_text Speed = codes "speed"
key_text Id = codes "id"
key_text Length = codes "length"
key_text Ethertype = codes "ethertype"
key_text Sender = codes "sender"
key_text Period = codes "period"
key_text Phase = codes "phase"
key_text Way = codes "way"
key_text Offset = codes "offset"
key_text Device = codes "device"
key_text Link = codes "link"
key_text Vl = codes "vl"
key_text Row = codes "row"
