-- The order of the instants of a cycle.
use Rattle.std.specs.Prelude.{◌*◌, ◌+ℤ◌, ◌+◌, ◌<ℤ◌, ◌^◌, ◌≡◌, ◌≤ℤ◌, ◌≤◌, pos, suc, ℕ, ℤ}
use Rattle.precision_law.specs.Hulls.{Hull, IsNarrow, first_correction, first_dispatch, last_correction, last_dispatch}
use Rattle.precision_law.specs.{Hulls.start_hull, Sizes.{HaveRoom, Sizes, expectation}, Standings.{Follows, ShowsIn}}

-- behind the last correction of a cycle there are more than four precisions to the first dispatch of the cycle after
-- the next
abbrev pub CorrectionsComeFirst : Type 0
CorrectionsComeFirst =
    (n : Sizes) (before hull : Hull) → HaveRoom n → IsNarrow n before → Follows n before hull
    → (last_correction n before +ℤ pos (4 * n.precision)) <ℤ first_dispatch n hull

-- the first dispatch of cycle 1 comes behind time 0
abbrev pub DispatchesComeLater : Type 0
DispatchesComeLater = (n : Sizes) → HaveRoom n → pos 0 <ℤ first_dispatch n (start_hull n)

-- what a cycle's dispatches lead to is over, with more than five precisions to spare, at the cycle's first correction
abbrev pub FramesComeFirst : Type 0
FramesComeFirst =
    (n : Sizes) (before : Hull) → HaveRoom n → IsNarrow n before
    → ((last_dispatch n before +ℤ pos (expectation n + n.base + n.path + n.precision)) +ℤ pos (5 * n.precision)) <ℤ
    first_correction n before

-- how the corrections of a cycle lie to the hull of the cycle before and to that of the cycle
pub record AreInOrder (n : Sizes) (before hull : Hull) : Type 0 where
  pub corrections : first_correction n before ≤ℤ last_correction n before
  pub two_cycles : last_correction n before ≤ℤ (before.least +ℤ pos (2 * n.cycle))
  pub last_not_early : (hull.greatest +ℤ pos (n.correction + n.reach)) ≤ℤ last_correction n before
  pub last_not_late : last_correction n before ≤ℤ (hull.least +ℤ pos (n.correction + n.spread + 3 * n.reach))
  pub near : hull.greatest ≤ℤ (before.least +ℤ pos (n.spread + n.cycle + n.reach))
  pub first_not_early : (hull.greatest +ℤ pos n.correction) ≤ℤ (first_correction n before
      +ℤ pos (n.spread + 3 * n.reach))
  pub next_later : first_correction n before ≤ℤ first_correction n hull
  pub hulls : before.greatest ≤ℤ hull.least

-- they lie so where the hull before is narrow
abbrev pub InstantsAreInOrder : Type 0
InstantsAreInOrder =
    (n : Sizes) (before hull : Hull) → HaveRoom n → IsNarrow n before → Follows n before hull → AreInOrder n before hull

-- at the last correction of its cycle a clock that was set in the cycle shows this, up to the precision
pub record ShowsCorrection (n : Sizes) (shown : ℤ) (cycle : ℕ) : Type 0 where
  pub least : pos (cycle * n.cycle + n.correction) ≤ℤ shown
  pub most : shown ≤ℤ pos (cycle * n.cycle + n.correction + n.precision)

-- where the hull before is narrow, it does
abbrev pub SetClocksShowCorrection : Type 0
SetClocksShowCorrection =
    (n : Sizes) (shown : ℤ) (cycle t : ℕ) (before hull : Hull) → HaveRoom n → IsNarrow n before → Follows n before hull
    → last_correction n before ≡ pos t → ShowsIn n shown cycle hull t
    → ShowsCorrection n shown cycle

-- between the first and the last correction of its cycle such a clock shows this within the precision
pub record ShowsNearCorrection (n : Sizes) (shown : ℤ) (cycle : ℕ) : Type 0 where
  pub least : pos (cycle * n.cycle + n.correction) ≤ℤ (shown +ℤ pos n.precision)
  pub most : shown ≤ℤ pos (cycle * n.cycle + n.correction + n.precision)

-- where the hull before is narrow, it does
abbrev pub SetClocksStayAtCorrection : Type 0
SetClocksStayAtCorrection =
    (n : Sizes) (shown : ℤ) (cycle t : ℕ) (before hull : Hull) → HaveRoom n → IsNarrow n before → Follows n before hull
    → first_correction n before ≤ℤ pos t → pos t ≤ℤ last_correction n before → ShowsIn n shown cycle hull t
    → ShowsNearCorrection n shown cycle

-- a hull is not before its cycle's time, but for the errors of the cycles
abbrev pub IsNotBefore : Sizes → ℕ → Hull → Type 0
IsNotBefore n cycle hull = pos (cycle * n.cycle) ≤ℤ ((hull.least +ℤ pos (cycle * n.reach)) +ℤ pos n.settled)

-- if one hull is not before its time, the next one is not
abbrev pub HullsGoOn : Type 0
HullsGoOn =
    (n : Sizes) (cycle : ℕ) (before hull : Hull) → IsNotBefore n cycle before → Follows n before hull
    → IsNotBefore n (suc cycle) hull

-- a hull that begins within a run is that of a cycle that frames may name
abbrev pub CyclesAreFew : Type 0
CyclesAreFew =
    (n : Sizes) (cycle until : ℕ) (hull : Hull) → HaveRoom n → IsNotBefore n cycle hull → hull.least ≤ℤ pos until
    → until ≤ 2 ^ 20 * n.cycle
    → cycle ≤ 2 ^ 20 + 2 ^ 17
