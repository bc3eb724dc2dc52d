-- The network of a plan: that of the file with a virtual link for each message, and its rows.
use Rattle.std.specs.Prelude.{◌++◌, ◌+◌, ◌∷◌, List, [], length, map, ℕ}
use Rattle.lens_plan.specs.declared.places.{best.Attempt.Attempt, placing.Placed.Placed}
use Rattle.lens_plan.specs.{messages.Message.Message, places.InOrder.rows_in_order}
use Rattle.net_plan.specs.declared.{network.Network.Network, tables.{Row.Row, VirtualLink.VirtualLink}}
use Rattle.tte_units.specs.Amount.{units_of}

-- the virtual link of a message, with this id and in the phase of its rows
abbrev pub vl_of : Message → ℕ → Attempt → VirtualLink
vl_of m id a = record {
  name = m.name;
  id = id;
  length = m.length;
  ethertype = m.ethertype;
  sender = m.sender;
  period = m.period;
  phase = a.phase;
}

-- those of messages, with these ids
abbrev pub vls_of : List Message → List ℕ → List Attempt → List VirtualLink
vls_of (m ∷ ms) (id ∷ ids) (a ∷ attempts) = vl_of m id a ∷ vls_of ms ids attempts
vls_of ms ids attempts = []

-- a row of the virtual link of this number
abbrev pub row_of : ℕ → Placed → Row
row_of vl p = record { vl = record { 0 = vl }; link = p.hop.link; way = p.hop.way; offset = units_of p.offset }

-- the rows of a message, whose virtual link has this number
abbrev pub own_rows : Network → ℕ → Attempt → List Row
own_rows network vl a = map (row_of vl) (rows_in_order network a.placed.items)

-- those of messages, whose virtual links have the numbers from this one on
abbrev pub rows_from : Network → ℕ → List Attempt → List Row
rows_from network vl [] = []
rows_from network vl (a ∷ attempts) = own_rows network vl a ++ rows_from network (vl + 1) attempts

-- the network with the virtual links and the rows of the messages
abbrev pub planned_network : Network → List Message → List ℕ → List Attempt → Network
planned_network network ms ids attempts = record network {
  vl = network.vl ++ vls_of ms ids attempts;
  row = network.row ++ rows_from network (length network.vl) attempts;
}
