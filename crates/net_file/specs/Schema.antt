-- The tables of a network file: the keys of each in their order, and what each may hold.
use Rattle.std.specs.{Option.unwrap_or, Prelude.{not, ℕ}, Str.is_utf8}
use Rattle.std.specs.Prelude.{◌++◌, ◌^◌, ◌∷◌, ◌≡◌, Err, IsUtf8, List, None, Ok, Option, Some, [], if◌then◌else◌, length}
use Rattle.net_file.specs.{Numbering.{Numbering, first_of}, declared.refusal.FileRefusal.TheVariants.NotToml}
use Rattle.net_file.specs.Reading.{named, nothing_else, number, tables, time, time_if_there, whole, word}
use Rattle.{net_file.specs.{Steps.{◌>>=◌, Read, only_if}, declared.spots.TableSpot.TableSpot}, toml.specs.Parse.parse_document}
use Rattle.net_file.specs.Values.{channel_of, ethertype_of, hex_number, name_of, role_of, speed_of, way_of}
use Rattle.{net_file.specs.declared.keys.KeyName.KeyName, toml.specs.Data.{Data, Items, Members, item, no_items, table}}
use Rattle.net_plan.specs.{Bearers.{device_names, link_names, vl_names}, declared.tables.VirtualLink.VirtualLink}
use Rattle.net_plan.specs.{Places.{is_end_system, is_master}, declared.{network.Network.Network, tables.Device.Device}}
use Rattle.{net_plan.specs.declared.tables.{Link.Link, Role.Role, Row.Row}, tte_units.specs.Amount.units_of}
use Rattle.net_plan.specs.declared.tables.Role.TheVariants as roles
use Rattle.net_file.specs.declared.keys.KeyName.TheVariants as keys
use Rattle.net_file.specs.declared.spots.TableName.TheVariants as places

-- the whole document
abbrev pub document : TableSpot
document = record { table = places.Top; index = 0 }

-- the keys of the top table
abbrev pub document_keys : List KeyName
document_keys =
    keys.Version ∷ keys.Cycle ∷ keys.Rho ∷ keys.Grain ∷ keys.Dmax ∷ keys.Calc ∷ keys.Settled ∷ keys.Precision
    ∷ keys.Correction
    ∷ keys.TtStart ∷ keys.SyncThreshold ∷ keys.Priority ∷ keys.Domain ∷ keys.PcfDestination ∷ keys.Marker
    ∷ keys.Device ∷ keys.Link ∷ keys.Vl ∷ keys.Row ∷ []

-- the numbers of the network, which has no devices, links, virtual links and rows yet
unfoldable pub document_of : Data → Read Network
document_of entries = do
  version ← whole 1 2 document keys.Version entries
  cycle ← time (2 ^ 32) (2 ^ 40) document keys.Cycle entries
  rho ← whole 0 1000000 document keys.Rho entries
  grain ← time_if_there 1 1048576 document keys.Grain entries
  dmax ← time 1 (2 ^ 40) document keys.Dmax entries
  calc ← time 1 (2 ^ 40) document keys.Calc entries
  settled ← time 0 (2 ^ 40) document keys.Settled entries
  precision ← time 1 (2 ^ 40) document keys.Precision entries
  correction ← time 0 (2 ^ 40) document keys.Correction entries
  tt_start ← time 0 (2 ^ 40) document keys.TtStart entries
  sync_threshold ← whole 1 31 document keys.SyncThreshold entries
  priority ← whole 0 255 document keys.Priority entries
  domain ← whole 0 255 document keys.Domain entries
  pcf_destination ← word (hex_number 6) document keys.PcfDestination entries
  marker ← word (hex_number 4) document keys.Marker entries
  end ← nothing_else document_keys document entries
  Ok (record {
    version = version;
    cycle = cycle;
    rho = rho;
    grain = unwrap_or grain (units_of 1);
    dmax = dmax;
    calc = calc;
    settled = settled;
    precision = precision;
    correction = correction;
    tt_start = tt_start;
    sync_threshold = sync_threshold;
    priority = priority;
    domain = domain;
    pcf_destination = pcf_destination;
    marker = marker;
    device = [];
    link = [];
    vl = [];
    row = [];
  })

-- the keys of a device: a master has a member number, a switch has a channel
abbrev pub device_keys : Role → List KeyName
device_keys roles.Master = keys.Name ∷ keys.Role ∷ keys.Mac ∷ keys.Member ∷ keys.Start ∷ []
device_keys roles.Client = keys.Name ∷ keys.Role ∷ keys.Mac ∷ keys.Start ∷ []
device_keys roles.Cm = keys.Name ∷ keys.Role ∷ keys.Mac ∷ keys.Channel ∷ keys.Start ∷ []
device_keys roles.Relay = keys.Name ∷ keys.Role ∷ keys.Mac ∷ keys.Channel ∷ keys.Start ∷ []

-- the table of a device
abbrev pub device_at : ℕ → TableSpot
device_at index = record { table = places.Device; index = index }

-- the device of a table
unfoldable pub device_of : ℕ → Data → Read Device
device_of index entries = do
  name ← word name_of (device_at index) keys.Name entries
  role ← word role_of (device_at index) keys.Role entries
  mac ← word (hex_number 6) (device_at index) keys.Mac entries
  member ← only_if (is_master role) (whole 0 31 (device_at index) keys.Member entries)
  channel ← only_if (not (is_end_system role)) (word channel_of (device_at index) keys.Channel entries)
  start ← time_if_there 0 (2 ^ 40) (device_at index) keys.Start entries
  end ← nothing_else (device_keys role) (device_at index) entries
  Ok (record { name = name; role = role; mac = mac; member = member; channel = channel; start = start })

-- the keys of a link
abbrev pub link_keys : List KeyName
link_keys = keys.Name ∷ keys.Child ∷ keys.Parent ∷ keys.Wire ∷ keys.Jitter ∷ keys.Hold ∷ keys.Speed ∷ []

-- the table of a link
abbrev pub link_at : ℕ → TableSpot
link_at index = record { table = places.Link; index = index }

-- the link of a table, whose ends are named among the devices
unfoldable pub link_of : Numbering → ℕ → Data → Read Link
link_of devices index entries = do
  name ← word name_of (link_at index) keys.Name entries
  child ← named devices (link_at index) keys.Child entries
  parent ← named devices (link_at index) keys.Parent entries
  wire ← time 1 (2 ^ 40) (link_at index) keys.Wire entries
  jitter ← time 0 (2 ^ 40) (link_at index) keys.Jitter entries
  hold ← time 0 (2 ^ 40) (link_at index) keys.Hold entries
  speed ← number speed_of (link_at index) keys.Speed entries
  end ← nothing_else link_keys (link_at index) entries
  Ok (record {
    name = name;
    child = record { 0 = child };
    parent = record { 0 = parent };
    wire = wire;
    jitter = jitter;
    hold = hold;
    speed = speed;
  })

-- the keys of a virtual link
abbrev pub vl_keys : List KeyName
vl_keys = keys.Name ∷ keys.Id ∷ keys.Length ∷ keys.Ethertype ∷ keys.Sender ∷ keys.Period ∷ keys.Phase ∷ []

-- the table of a virtual link
abbrev pub vl_at : ℕ → TableSpot
vl_at index = record { table = places.Vl; index = index }

-- the virtual link of a table, whose sender is named among the devices
unfoldable pub vl_of : Numbering → ℕ → Data → Read VirtualLink
vl_of devices index entries = do
  name ← word name_of (vl_at index) keys.Name entries
  id ← whole 0 65535 (vl_at index) keys.Id entries
  octets ← whole 60 1514 (vl_at index) keys.Length entries
  ethertype ← number ethertype_of (vl_at index) keys.Ethertype entries
  sender ← named devices (vl_at index) keys.Sender entries
  period ← whole 1 64 (vl_at index) keys.Period entries
  phase ← whole 0 63 (vl_at index) keys.Phase entries
  end ← nothing_else vl_keys (vl_at index) entries
  Ok (record {
    name = name;
    id = id;
    length = octets;
    ethertype = ethertype;
    sender = record { 0 = sender };
    period = period;
    phase = phase;
  })

-- the keys of a row
abbrev pub row_keys : List KeyName
row_keys = keys.Vl ∷ keys.Link ∷ keys.Way ∷ keys.Offset ∷ []

-- the table of a row
abbrev pub row_at : ℕ → TableSpot
row_at index = record { table = places.Row; index = index }

-- the row of a table, whose virtual link and link are named among those
unfoldable pub row_of : Numbering → Numbering → ℕ → Data → Read Row
row_of vls links index entries = do
  vl ← named vls (row_at index) keys.Vl entries
  link ← named links (row_at index) keys.Link entries
  way ← word way_of (row_at index) keys.Way entries
  offset ← time 0 (2 ^ 40) (row_at index) keys.Offset entries
  end ← nothing_else row_keys (row_at index) entries
  Ok (record { vl = record { 0 = vl }; link = record { 0 = link }; way = way; offset = offset })

-- the things of an array's tables in their order, each read at its index, behind those read so far
abbrev pub each : {A : Type 0} → (ℕ → Data → Read A) → List A → Items → Read (List A)
each read so_far no_items = Ok so_far
each read so_far (item entries rest) = do
  thing ← read (length so_far) entries
  each read (so_far ++ thing ∷ []) rest

-- the network with what the four arrays of the document mean, first the kinds of the arrays, then the tables of each
unfoldable pub filled : Data → Network → Read Network
filled entries network = do
  devices ← tables document keys.Device entries
  links ← tables document keys.Link entries
  vls ← tables document keys.Vl entries
  rows ← tables document keys.Row entries
  device ← each device_of [] devices
  link ← each (link_of (first_of (device_names device))) [] links
  vl ← each (vl_of (first_of (device_names device))) [] vls
  row ← each (row_of (first_of (vl_names vl)) (first_of (link_names link))) [] rows
  Ok (record network { device = device; link = link; vl = vl; row = row })

-- the network of the document's entries: the top table, then its arrays
unfoldable pub network_of : Data → Read Network
network_of entries = do
  network ← document_of entries
  filled entries network

-- the network of what TOML reads, if it reads a document
abbrev pub network_in : Option Members → Read Network
network_in None = Err NotToml
network_in (Some entries) = network_of (table entries)

-- the document that a text is, where it is one
abbrev pub parsed : List ℕ → Option Members
parsed text = if is_utf8 text then parse_document text else None

-- the text is UTF-8, and no document
abbrev pub IsNoDocument : List ℕ → Type 0
IsNoDocument text = IsUtf8 text × (parse_document text ≡ None)

-- the network that a text means, or the first fault of the text; this is the grammar of a network file:
-- what the definitions of this file say, in their order, is what a file means, and nothing stands above it
abbrev pub network_read : List ℕ → Read Network
network_read text = network_in (parsed text)
