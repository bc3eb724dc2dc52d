-- What it means for a clock to be anchored.
use Rattle.std.specs.Prelude.{◌*ℤ◌, ◌*◌, ◌+ℤ◌, ◌+◌, ◌-ℤ◌, ◌≤ℤ◌, ◌≤◌, pos, suc, ℕ, ℤ}
use Rattle.tte_units.specs.Mean.{mean_of}
use Rattle.precision_law.specs.{Anchors.{IsAnchored, IsAnchoredIn}, Readings.IsSteady, Sizes.{HaveRoom, Sizes}}
use Rattle.precision_law.specs.Hulls.{Hull, IsNarrow, first_dispatch, last_dispatch, start_hull}

-- ---- setting a clock

-- a device hears, at q, a frame at this point that it expects so far into its cycle; the frame's base is that
pub record IsTimely (n : Sizes) (reading : ℕ → ℕ) (base : ℤ) (q : ℕ) (point : ℤ) (expected : ℕ) : Type 0 where
  pub not_early : (base +ℤ pos expected) ≤ℤ (pos q +ℤ pos n.path)
  pub not_late : pos q ≤ℤ ((base +ℤ pos expected) +ℤ pos n.path)
  pub least : point ≤ℤ pos (reading q)
  pub most : pos (reading q) ≤ℤ (point +ℤ pos (2 * n.grain))

-- the adjustment by which the clock shows at the point what is expected there
abbrev pub setting : Sizes → ℕ → ℕ → ℤ → ℤ
setting n cycle expected point = pos (cycle * n.cycle + expected) -ℤ point

-- a clock that one frame sets is anchored by the frame's base
abbrev pub OneFrameAnchors : Type 0
OneFrameAnchors =
    (n : Sizes) (reading : ℕ → ℕ) (base : ℤ) (q : ℕ) (point : ℤ) (expected cycle : ℕ)
    → IsTimely n reading base q point expected
    → IsAnchored n (pos (reading q) +ℤ setting n cycle expected point) cycle
    ((pos 2 *ℤ base) -ℤ pos (2 * n.path + 4 * n.grain)) ((pos 2 *ℤ base) +ℤ pos (2 * n.path)) q

-- a clock that two frames set is anchored by the mean of both bases
abbrev pub TwoFramesAnchor : Type 0
TwoFramesAnchor =
    (n : Sizes) (reading : ℕ → ℕ) (first second : ℤ) (q u : ℕ) (p r : ℤ) (expected cycle : ℕ) → IsSteady n reading
    → q ≤ u → u ≤ q + 2 * n.cycle
    → IsTimely n reading first q p expected → IsTimely n reading second u r expected
    → IsAnchored n (pos (reading u) +ℤ mean_of (setting n cycle expected p) (setting n cycle expected r)) cycle
    ((first +ℤ second) -ℤ pos (2 * n.path + 4 * n.grain + n.drift))
    ((first +ℤ second) +ℤ pos (2 * n.path + n.drift + 1)) u

-- a wider anchor holds too
abbrev pub AnchorsWiden : Type 0
AnchorsWiden =
    (n : Sizes) (shown : ℤ) (cycle : ℕ) (low high lower higher : ℤ) (r : ℕ) → lower ≤ℤ low → high ≤ℤ higher
    → IsAnchored n shown cycle low high r → IsAnchored n shown cycle lower higher r

-- the base lies in the hull, but for the error of a base
pub record IsNearHull (n : Sizes) (hull : Hull) (base : ℤ) : Type 0 where
  pub least : hull.least ≤ℤ (base +ℤ pos n.base)
  pub most : base ≤ℤ (hull.greatest +ℤ pos n.base)

-- a clock that one frame sets, whose base lies so in the hull, is anchored in the hull
abbrev pub OneFrameSets : Type 0
OneFrameSets =
    (n : Sizes) (reading : ℕ → ℕ) (hull : Hull) (base : ℤ) (q : ℕ) (point : ℤ) (expected cycle : ℕ) → HaveRoom n
    → IsNearHull n hull base
    → IsTimely n reading base q point expected
    → IsAnchoredIn n reading (setting n cycle expected point) cycle hull q

-- so is one that two such frames set
abbrev pub TwoFramesSet : Type 0
TwoFramesSet =
    (n : Sizes) (reading : ℕ → ℕ) (hull : Hull) (first second : ℤ) (q u : ℕ) (p r : ℤ) (expected cycle : ℕ) → HaveRoom n
    → IsSteady n reading → q ≤ u → u ≤ q + 2 * n.cycle
    → IsNearHull n hull first → IsNearHull n hull second
    → IsTimely n reading first q p expected → IsTimely n reading second u r expected
    → IsAnchoredIn n reading (mean_of (setting n cycle expected p) (setting n cycle expected r)) cycle hull u

-- so is a clock at its start
abbrev pub StartsAreSet : Type 0
StartsAreSet =
    (n : Sizes) (reading : ℕ → ℕ) (start : ℤ) → HaveRoom n → IsSteady n reading → pos 0 ≤ℤ start
    → start ≤ℤ pos n.settled
    → IsAnchoredIn n reading start 0 (start_hull n) 0

-- ---- reading an anchored clock

-- what the clock shows at t, doubled
pub record ShowsNear (n : Sizes) (shown : ℤ) (cycle : ℕ) (low high : ℤ) (t : ℕ) : Type 0 where
  pub least : (pos (2 * (cycle * n.cycle)) +ℤ pos (2 * t)) ≤ℤ (((pos 2 *ℤ shown) +ℤ high) +ℤ pos (2 * n.drift))
  pub most : ((pos 2 *ℤ shown) +ℤ low) ≤ℤ ((pos (2 * (cycle * n.cycle)) +ℤ pos (2 * t)) +ℤ pos (2 * n.drift))

-- over two cycles an anchored clock stays near the ideal ones
abbrev pub AnchoredClocksShow : Type 0
AnchoredClocksShow =
    (n : Sizes) (reading : ℕ → ℕ) (adjustment : ℤ) (cycle : ℕ) (low high : ℤ) (r t : ℕ) → IsSteady n reading → r ≤ t
    → t ≤ r + 2 * n.cycle
    → IsAnchored n (pos (reading r) +ℤ adjustment) cycle low high r
    → ShowsNear n (pos (reading t) +ℤ adjustment) cycle low high t

-- when an anchored clock reaches a value of its cycle
pub record IsReachedNear (n : Sizes) (low high : ℤ) (v t : ℕ) : Type 0 where
  pub not_early : (low +ℤ pos (2 * v)) ≤ℤ (pos (2 * t) +ℤ pos (2 * n.drift))
  pub not_late : pos (2 * t) ≤ℤ ((high +ℤ pos (2 * v)) +ℤ pos (2 * n.drift + 4 * n.grain))

-- an anchored clock reaches a value so
abbrev pub AnchoredClocksReach : Type 0
AnchoredClocksReach =
    (n : Sizes) (shown : ℤ) (cycle : ℕ) (low high : ℤ) (v t : ℕ) → ShowsNear n shown cycle low high t
    → pos (cycle * n.cycle + v) ≤ℤ shown → shown ≤ℤ (pos (cycle * n.cycle + v) +ℤ pos (2 * n.grain))
    → IsReachedNear n low high v t

-- the same of a hull
pub record IsReachedIn (n : Sizes) (hull : Hull) (v t : ℕ) : Type 0 where
  pub not_early : ((hull.least +ℤ pos v) +ℤ pos (2 * n.grain)) ≤ℤ (pos t +ℤ pos n.reach)
  pub not_late : pos t ≤ℤ ((hull.greatest +ℤ pos v) +ℤ pos n.reach)

-- a clock that was set in the hull reaches a value so
abbrev pub SetClocksReach : Type 0
SetClocksReach =
    (n : Sizes) (reading : ℕ → ℕ) (adjustment : ℤ) (cycle : ℕ) (hull : Hull) (r v t : ℕ) → HaveRoom n
    → IsSteady n reading → r ≤ t → t ≤ r + 2 * n.cycle
    → IsAnchoredIn n reading adjustment cycle hull r
    → pos (cycle * n.cycle + v) ≤ℤ (pos (reading t) +ℤ adjustment)
    → (pos (reading t) +ℤ adjustment) ≤ℤ (pos (cycle * n.cycle + v) +ℤ pos (2 * n.grain))
    → IsReachedIn n hull v t

-- and by when it has reached it
abbrev pub SetClocksHaveReached : Type 0
SetClocksHaveReached =
    (n : Sizes) (reading : ℕ → ℕ) (adjustment : ℤ) (cycle : ℕ) (hull : Hull) (r v t : ℕ) → HaveRoom n
    → IsSteady n reading → r ≤ t → t ≤ r + 2 * n.cycle
    → IsAnchoredIn n reading adjustment cycle hull r → ((hull.greatest +ℤ pos v) +ℤ pos n.reach) ≤ℤ pos t
    → pos (cycle * n.cycle + v) ≤ℤ (pos (reading t) +ℤ adjustment)

-- what a clock that was set in the hull shows
pub record ShowsIn (n : Sizes) (shown : ℤ) (cycle : ℕ) (hull : Hull) (t : ℕ) : Type 0 where
  pub least : (pos (cycle * n.cycle) +ℤ pos t) ≤ℤ (shown +ℤ (hull.greatest +ℤ pos (n.clock + n.drift)))
  pub most : (shown +ℤ hull.least) ≤ℤ (pos (cycle * n.cycle) +ℤ (pos t +ℤ pos (n.clock + n.drift)))

-- over two cycles it shows this
abbrev pub SetClocksShow : Type 0
SetClocksShow =
    (n : Sizes) (reading : ℕ → ℕ) (adjustment : ℤ) (cycle : ℕ) (hull : Hull) (r t : ℕ) → IsSteady n reading → r ≤ t
    → t ≤ r + 2 * n.cycle
    → IsAnchoredIn n reading adjustment cycle hull r
    → ShowsIn n (pos (reading t) +ℤ adjustment) cycle hull t

-- ---- two clocks

-- two values differ by at most the precision
pub record AreNear (n : Sizes) (x y : ℤ) : Type 0 where
  pub one : x ≤ℤ (y +ℤ pos n.precision)
  pub other : y ≤ℤ (x +ℤ pos n.precision)

-- the hull of a cycle follows that of the cycle before
pub record Follows (n : Sizes) (before hull : Hull) : Type 0 where
  pub least : first_dispatch n before ≤ℤ hull.least
  pub most : hull.greatest ≤ℤ last_dispatch n before
  pub ordered : hull.least ≤ℤ hull.greatest

-- clocks that are set for one cycle are near
abbrev pub ClocksOfOneCycle : Type 0
ClocksOfOneCycle =
    (n : Sizes) (x y : ℤ) (cycle : ℕ) (hull : Hull) (t : ℕ) → HaveRoom n → IsNarrow n hull → ShowsIn n x cycle hull t
    → ShowsIn n y cycle hull t
    → AreNear n x y

-- so are one that is set for a cycle and one for the next
abbrev pub ClocksOfTwoCycles : Type 0
ClocksOfTwoCycles =
    (n : Sizes) (x y : ℤ) (cycle : ℕ) (before hull : Hull) (t : ℕ) → HaveRoom n → IsNarrow n before
    → Follows n before hull
    → ShowsIn n x cycle before t → ShowsIn n y (suc cycle) hull t
    → AreNear n x y

-- ---- halving

-- two clocks that share a base reach the next cycle's beginning half as far apart as the frames, but for what a
-- start leaves room for
abbrev pub SharedClocksHalve : Type 0
SharedClocksHalve =
    (n : Sizes) (hull : Hull) (shared x y : ℤ) (t u : ℕ) → HaveRoom n → IsNearHull n hull x → IsNearHull n hull y
    → IsReachedNear n ((shared +ℤ x) -ℤ pos (2 * n.path + 4 * n.grain + n.drift))
    ((shared +ℤ x) +ℤ pos (2 * n.path + n.drift + 1)) n.cycle t
    → IsReachedNear n ((shared +ℤ y) -ℤ pos (2 * n.path + 4 * n.grain + n.drift))
    ((shared +ℤ y) +ℤ pos (2 * n.path + n.drift + 1)) n.cycle u
    → pos (2 * t) ≤ℤ (pos (2 * u) +ℤ ((hull.greatest -ℤ hull.least) +ℤ pos n.settled))

-- clocks at their starts reach cycle 1 little farther apart than they start
abbrev pub StartsStayTogether : Type 0
StartsStayTogether =
    (n : Sizes) (t u : ℕ) → HaveRoom n
    → IsReachedNear n (pos 0 -ℤ pos (2 * n.settled)) (pos 0) n.cycle t
    → IsReachedNear n (pos 0 -ℤ pos (2 * n.settled)) (pos 0) n.cycle u
    → t ≤ u + n.spread
