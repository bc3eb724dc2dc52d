-- The words of a storm: those of the generator PCG32 (XSH RR 64/32) of a seed, on its stream 0.
use Rattle.std.specs.Prelude.{◌*◌, ◌+◌, suc, zero, ℕ}
use Rattle.rand_pcg.specs.{Lcg.{Lcg, increment_of, started}, Pcg.{multiplier_64, pcg32}}
use Rattle.fault_hypothesis.specs.declared.storm.draw.StormDraw.{StormDraw}

-- the generator of the seed, when so many words were drawn
abbrev pub state_at : ℕ → ℕ → Lcg
state_at seed zero = started 64 multiplier_64 seed (increment_of 64 0)
state_at seed (suc n) = (pcg32 (state_at seed n)).1

-- the word of this number, from 0
abbrev pub word_at : ℕ → ℕ → ℕ
word_at seed n = (pcg32 (state_at seed n)).0

-- the three words from this number on
abbrev pub draw_from : ℕ → ℕ → StormDraw
draw_from seed n = record { kind = word_at seed n; place = word_at seed (n + 1); size = word_at seed (n + 2) }

-- the three words of a step
abbrev pub draw_at : ℕ → ℕ → StormDraw
draw_at seed step = draw_from seed (3 * step)
