-- A message, and the names and ids that others have taken.
use Rattle.std.specs.{List.list_any, Option.option_map_or, Prelude.{◌==◌, ◌||◌, Bool, List, Option, bytes_eq, false, ℕ}}
use Rattle.net_plan.specs.declared.{ids.DeviceId.DeviceId, network.Network.Network}

-- what a designer asks for
pub record Message : Type 0 where
  pub name : List ℕ
  pub id : Option ℕ
  pub length : ℕ
  pub ethertype : ℕ
  pub period : ℕ
  pub phase : Option ℕ
  pub after : Option ℕ
  pub by : Option ℕ
  pub sender : DeviceId
  pub receivers : List DeviceId

-- the message of these
abbrev pub message_of : List ℕ → Option ℕ → ℕ → ℕ → ℕ → Option ℕ → Option ℕ → Option ℕ → DeviceId → List DeviceId → Message
message_of name id length ethertype period phase after by sender receivers = record {
  name = name;
  id = id;
  length = length;
  ethertype = ethertype;
  period = period;
  phase = phase;
  after = after;
  by = by;
  sender = sender;
  receivers = receivers;
}

-- has a virtual link of the network or an earlier message this name?
abbrev pub name_is_taken : Network → List Message → List ℕ → Bool
name_is_taken network earlier text =
    list_any (λ vl. bytes_eq vl.name text) network.vl || list_any (λ m. bytes_eq m.name text) earlier

-- is the id given, and this one?
abbrev pub gives_id : ℕ → Message → Bool
gives_id id m = option_map_or (λ n. n == id) m.id false

-- has a virtual link of the network or an earlier message this id?
abbrev pub id_is_taken : Network → List Message → ℕ → Bool
id_is_taken network earlier id = list_any (λ vl. vl.id == id) network.vl || list_any (gives_id id) earlier
