-- The frames of virtual links that senders make.
use Rattle.std.specs.{Option.option_map_or, Prelude.{◌++◌, List, replicate, slice_get, ℕ}}
use Rattle.{byteorder.specs.Endian.big_bytes, net_plan.specs.declared.{ids.VlId.VlId, network.Network.Network}}
use Rattle.{net_plan.specs.declared.tables.VirtualLink.VirtualLink, run_law.specs.records.Frames.{mac_of, tt_frame_by}}

-- what a frame of the virtual link begins with: the marker, the link's id, its sender's address, its EtherType, and
-- the cycle
abbrev pub head_of : Network → VirtualLink → ℕ → List ℕ
head_of network vl cycle =
    big_bytes 4 network.marker
    ++ (big_bytes 2 vl.id
    ++ (big_bytes 6 (mac_of network vl.sender) ++ (big_bytes 2 vl.ethertype ++ big_bytes 4 cycle)))

-- the frame of the virtual link of this id in a cycle; zeros stand for a virtual link that the network does not have
abbrev pub made_frame : Network → VlId → ℕ → List ℕ
made_frame network vl cycle =
    option_map_or (λ v. tt_frame_by network v cycle) (slice_get network.vl vl.0) (replicate 60 0)
