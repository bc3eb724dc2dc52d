use Rattle.std.specs.{Int.bit_at, Prelude.{◌^◌, ◌≡◌, bit_or, count_ones, ℕ}}
use Rattle.tte_units.specs.declared.frames.members.Members.{Members}

-- the master with member number i is in the set
abbrev pub IsMember : ℕ → Members → Type 0
IsMember i m = bit_at m.0 i ≡ 1

-- the set of no master
abbrev pub none : Members
none = record { 0 = 0 }

-- the set of one master
abbrev pub single : ℕ → Members
single i = record { 0 = 2 ^ i }

-- the masters of both sets
abbrev pub union : Members → Members → Members
union a b = record { 0 = bit_or a.0 b.0 }

-- how many masters are in the set
abbrev pub count_of : Members → ℕ
count_of m = count_ones m.0
