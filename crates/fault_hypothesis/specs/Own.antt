-- Which conditions only events of one kind can break, by their places in the order in which they are judged.
use Rattle.std.specs.Prelude.{ℕ}
use Rattle.net_plan.specs.declared.event.What.{What, TheVariants.{Break, Cut, End, Heal, Hold, On, Rate, Send, Wire}}

-- how many conditions stand before those that only such an event can break
abbrev pub first_own : What → ℕ
first_own (Rate device rate) = 2
first_own (Wire link way delay) = 3
first_own (Hold link way delay) = 4
first_own (Cut link way) = 5
first_own (Heal link way) = 11
first_own (On device) = 10
first_own (Break device) = 6
first_own (Send link octets) = 9
first_own End = 11

-- and how many with them
abbrev pub behind_own : What → ℕ
behind_own (Rate device rate) = 3
behind_own (Wire link way delay) = 4
behind_own (Hold link way delay) = 5
behind_own (Cut link way) = 6
behind_own (Heal link way) = 11
behind_own (On device) = 11
behind_own (Break device) = 9
behind_own (Send link octets) = 10
behind_own End = 11
