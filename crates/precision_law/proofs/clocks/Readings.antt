-- How the clocks of a lawful scenario read.
use Rattle.precision_law.proofs.{Plain.lt_by, words.{Plans.{IsReach, amount}, Std.{suc, zero, ℕ, ℤ}}}
use Rattle.precision_law.proofs.words.Laws.{ClocksAreSteady, IsSteady, PermanenceIsSharp, ReachIsSharp, ReachIsThere, RipeInOrder, ShortByReading, Sizes}
use Rattle.precision_law.proofs.words.Std.{◌*◌, ◌+◌, ◌-◌, ◌/◌, ◌<ℤ◌, ◌<◌, ◌^◌, ◌≡◌, ◌≤ℤ◌, ◌≤◌, arith, by_lt_z, cases_lt, inl, inr, ints, mul-le-mul_left, pos}

-- ---- what the clock laws give

pub clocks_are_steady : ClocksAreSteady
clocks_are_steady s path device lawful =
    let n = s.network in
    let laws = lawful.clocks device in
    let reading = s.reading device in
    let both : (a b : ℕ) → a ≤ b → b ≤ a + 2 * amount n.cycle → (reading b ≤ reading a + (b - a) + (2 * n.rho * amount n.cycle / 10 ^ 9 + 2 * amount n.grain))
    × (reading a + (b - a) ≤ reading b + (2 * n.rho * amount n.cycle / 10 ^ 9 + 2 * amount n.grain)) = λ a b le within.
    let drift : n.rho * (b - a) ≤ n.rho * (2 * amount n.cycle) = mul-le-mul_left n.rho (omega arith) in
    let floor : 2 * n.rho * amount n.cycle < 10 ^ 9 * (2 * n.rho * amount n.cycle / 10 ^ 9 + 1) = omega arith in
    let facts = laws.drifts a b le in
    let up = laws.never_falls a b le in
    (omega arith, omega arith) in
    record {
      begins = lawful.begins device;
      never_falls = laws.never_falls;
      fast = λ a b le within. let r = both a b le within in omega (arith, r.0);
      slow = λ a b le within. let r = both a b le within in omega (arith, r.1);
      steps = λ t.
          let unit : (t + 1) - t ≡ 1 = omega arith in
          let here = rw unit at (laws.drifts t (t + 1) (omega arith)) in
          omega (arith, laws.never_falls t (t + 1) (omega arith), lawful.range.rho);
    }

-- ---- long stretches

pub short_by_reading : ShortByReading
short_by_reading n reading s t steady le less =
    lt_by (λ ge. omega (
      arith,
      steady.never_falls (s + 2 * n.cycle) t ge,
      steady.slow s (s + 2 * n.cycle) (omega arith)
          (omega arith),
    ))

-- ---- reaching a value

-- one unit before, a reading is little less
step_back : {n : Sizes} {reading : ℕ → ℕ} (t : ℕ) → IsSteady n reading → 0 < t
    → reading t ≤ reading (t - 1) + 2 * n.grain + 1
step_back zero steady after = absurd (omega arith)
step_back (suc t) steady after = grind arith

pub reach_is_sharp : ReachIsSharp
reach_is_sharp n reading from v t steady below reach =
    let after = lt_by (λ ge.
    let same : t ≡ from = omega (arith, ints, reach.from_on, ge) in
    let there = rw same at reach.reached in
    omega (arith, ints)) in
    let before = reach.not_before (t - 1) (omega (arith, ints, after)) (omega (arith, ints, after)) in
    record {
      after = after;
      before = before;
      least = reach.reached;
      most =
          omega (arith, ints, step_back t steady (omega (arith, after)));
    }

-- among the units behind x there is a first at which the value is read
first_of_all : {n : Sizes} {reading : ℕ → ℕ} (from x : ℕ) (v : ℤ) (more : ℕ) → IsSteady n reading → from ≤ x
    → pos (reading x) <ℤ v → v ≤ℤ pos (reading (x + more))
    → (u : ℕ) × (x < u) × (u ≤ x + more) × IsReach reading (pos from) v (pos u)
first_of_all from x v zero steady le below above = grind (arith, ints)
first_of_all {reading} from x v (suc more) steady le below above =
    by_lt_z (pos (reading (x + more))) v (λ less. (
      x + suc more,
      omega arith,
      omega arith,
      record {
        from_on = omega (arith, ints);
        reached = above;
        not_before = λ y from_y y_before.
            omega (arith, ints, steady.never_falls y (x + more) (omega (arith, ints, y_before)));
      },
    )) (λ enough. let r = first_of_all from x v more steady le below enough in (r.0, r.1, omega arith, r.3))

pub reach_is_there : ReachIsThere
reach_is_there n reading from x v t steady le lt below above =
    let same : x + (t - x) ≡ t = omega arith in
    let there : v ≤ℤ pos (reading (x + (t - x))) = rw same above in
    let r = first_of_all from x v (t - x) steady le below there in
    (r.0, r.1, omega (arith, r.2), r.3)

-- ---- permanence

pub permanence_is_sharp : PermanenceIsSharp
permanence_is_sharp n reading arrived point q steady up reach =
    elim (cases_lt arrived q) [
      | inl lt ↦
          let before = reach.not_before (q - 1) (omega (arith, ints)) (omega (arith, ints)) in
          let back = step_back q steady (omega arith) in
          record { after = omega arith; least = reach.reached; most = omega (arith, ints); before = inl before }
      | inr ge ↦
          let same : q ≡ arrived = omega (arith, ints, reach.from_on) in
          let here : pos (reading q) ≤ℤ point = rw same up in
          let there = reach.reached in
          record { after = omega arith; least = there; most = omega (arith, ints); before = inr (omega (arith, ints)) }
    ]

pub ripe_in_order : RipeInOrder
ripe_in_order n reading a b p r q u steady one other lt =
    elim other.before [
      | inl before ↦ omega (arith, ints, steady.never_falls q (u - 1) (omega arith), one.least)
      | inr at ↦ omega (arith, ints, steady.never_falls q u (omega arith), one.least)
    ]
