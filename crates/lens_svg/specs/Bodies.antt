-- What a record says of where it is drawn, and how.
use Rattle.std.specs.{Option.option_map_or, Prelude.{◌+◌, ℕ}}
use Rattle.{lens_svg.specs.Marks.ground_of, run_law.specs.declared.note.NoteBody.NoteBody}
use Rattle.lens_svg.specs.declared.mark.{Ground.TheVariants.Broken, Hue.TheVariants.{Control, Forged, Stream, Summary}}
use Rattle.lens_svg.specs.declared.mark.{Hue.Hue, Look.{Look, TheVariants.{Gone, Plain, Taken, Turned, Waited}}}
use Rattle.net_plan.specs.{Places.link_at, declared.{ids.{DeviceId.DeviceId, LinkId.LinkId}, network.Network.Network}}
use Rattle.net_plan.specs.declared.event.What.{TheVariants.{Break, Cut, End, Heal, Hold, On, Rate, Send, Wire}, What}
use Rattle.run_law.specs.declared.note.NoteBody.TheVariants.{Accepted, Arrived, Clock, Compressed, Corrected, Delivered}
use Rattle.run_law.specs.declared.note.NoteBody.TheVariants.{Dropped, Event, Left, Lost, Permanent, Sent, State, TtSent}

-- the first device
abbrev pub first_device : DeviceId
first_device = record { 0 = 0 }

-- the child of the link
abbrev pub child_of : Network → LinkId → DeviceId
child_of network link = option_map_or (λ l. l.child) (link_at network link) first_device

-- the device that the event befalls, or the child of its link; the end's is the first
abbrev pub struck_by : Network → What → DeviceId
struck_by network (Rate device rate) = device
struck_by network (Wire link way delay) = child_of network link
struck_by network (Hold link way delay) = child_of network link
struck_by network (Cut link way) = child_of network link
struck_by network (Heal link way) = child_of network link
struck_by network (On device) = device
struck_by network (Break device) = device
struck_by network (Send link octets) = child_of network link
struck_by network End = first_device

-- the ground of a device that breaks is another from then on
abbrev pub struck_look : What → Look
struck_look (Break device) = Turned Broken
struck_look what = Plain

-- the device at which a record happens
abbrev pub scene_of : Network → NoteBody → DeviceId
scene_of network (Event line what) = struck_by network what
scene_of network (Arrived device link cause clock) = device
scene_of network (Permanent device link cause point verdict) = device
scene_of network (Compressed device opened at cycle members verdict) = device
scene_of network (Sent device cycle) = device
scene_of network (Corrected device cycle by adjustment) = device
scene_of network (State device state cause why) = device
scene_of network (Left device link cause clock) = device
scene_of network (Lost device link cause) = device
scene_of network (TtSent device link cause vl cycle) = device
scene_of network (Accepted device link cause vl cycle) = device
scene_of network (Delivered device link cause vl cycle) = device
scene_of network (Dropped device link cause reason) = device
scene_of network (Clock device reading adjustment state) = device

-- the row in which its mark stands: 0 is that of the events, and then there is one for each device
abbrev pub seat_of : Network → NoteBody → ℕ
seat_of network (Event line what) = 0
seat_of network body = (scene_of network body).0 + 1

-- its hue where it comes from no record
abbrev pub own_hue : NoteBody → Hue
own_hue (Event line what) = Forged
own_hue (Compressed device opened at cycle members verdict) = Summary
own_hue (TtSent device link cause vl cycle) = Stream
own_hue (Accepted device link cause vl cycle) = Stream
own_hue (Delivered device link cause vl cycle) = Stream
own_hue body = Control

-- what it draws besides its mark: how long a frame waited that is permanent, that a frame ends that is dropped, a
-- lane's ground where the device's state changes, and where in its window a scheduled frame came that is taken
abbrev pub look_of : NoteBody → Look
look_of (Event line what) = struck_look what
look_of (Permanent device link cause point verdict) = Waited
look_of (Dropped device link cause reason) = Gone
look_of (State device state cause why) = Turned (ground_of state)
look_of (Accepted device link cause vl cycle) = Taken link vl
look_of (Delivered device link cause vl cycle) = Taken link vl
look_of body = Plain
