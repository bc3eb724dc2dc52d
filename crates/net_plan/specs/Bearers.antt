use Rattle.std.specs.Prelude.{◌<◌, ◌≡◌, ◌≢◌, List, Some, map, slice_get, ℕ}
use Rattle.net_plan.specs.declared.tables.{Device.Device, Link.Link, VirtualLink.VirtualLink}

-- the thing at place i has the name, and no thing before it has
pub record IsFirstBearer (names : List (List ℕ)) (name : List ℕ) (i : ℕ) : Type 0 where
  pub bears : slice_get names i ≡ Some name
  pub first : (k : ℕ) → k < i → slice_get names k ≢ Some name

-- no thing has the name
abbrev pub HasNoBearer : List (List ℕ) → List ℕ → Type 0
HasNoBearer names name = (k : ℕ) → slice_get names k ≢ Some name

-- the names of the devices, in their order
abbrev pub device_names : List Device → List (List ℕ)
device_names devices = map (λ d. d.name) devices

-- the names of the links, in their order
abbrev pub link_names : List Link → List (List ℕ)
link_names links = map (λ l. l.name) links

-- the names of the virtual links, in their order
abbrev pub vl_names : List VirtualLink → List (List ℕ)
vl_names vls = map (λ v. v.name) vls
