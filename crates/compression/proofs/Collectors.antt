-- How a collector takes points and emits clusters, and what stays true of it.
use Rattle.std.{specs.{List.{AllByRecursion, last_or}, Prelude.{All, IfSome, false, int_lt, true}}}
use Rattle.std.proofs.Common
use Common.{◌*ℤ◌, ◌++◌, ◌+ℤ◌, ◌+◌, ◌-ℤ◌, ◌<ℤ◌, ◌<◌, ◌^◌, ◌∙◌, ◌∷◌, ◌≡◌, ◌≢◌, ◌≤ℤ◌, ◌⊎◌, FitsSigned, IsTrue, List, None}
use Common.{Option, Some, [], ap, arith, inl, inr, length, map, neg_ℤ, pos, refl, subst, sym, take, w64, ℕ, ℤ}
use Rattle.std.proofs.lemmas.{Bool.{cases_Bool, eqb-false, eqb-true}, Int.ints}
use Rattle.std.proofs.lemmas.List.{append-nil, append_assoc, length-map, map-append}
use Rattle.std.proofs.lemmas.List.Elements
use Elements.{All-cons, All-from_recursion, All-map, All-push, All-weaker, recursion_from_All}
use Rattle.compression.proofs.{Growth.{AreClusters-opened, AreClusters-within, Grows}}
use Rattle.compression.proofs.{Middles.{IsAscending-push, middle_of-within}}
use Rattle.compression.specs.{Ascent.{IsAscending, MayFollow, last_from}}
use Rattle.compression.specs.{Clusters.{AreClusters, Cluster, Point, beyond}}
use Rattle.compression.specs.{Collecting.{Collecting, emissions, last_joined, with_opened}}
use Rattle.compression.specs.{Collection.{CanTake, joined, joined_end, opening}, Emission.{compressed, emission}}
use Rattle.compression.specs.{Least.IsLeast, Middle.{middle_of, relative}, Role.{has_point_of, open_at, role, role_in}}
use Rattle.compression.specs.{Row.{IsCollection, IsRow, IsSound}, Stands.{EmittedInOrder, StandsForPoints}}
use Rattle.compression.specs.declared.{compressed.Compressed.Compressed}
use Rattle.compression.specs.declared.{taken.Taken.TheVariants.{Joined, Opened, OtherCycle, Repeat}}
use Rattle.tte_units.{proofs.general_lemmas.Lists.drop-front, specs.Reading.greatest_reading}

-- ---- the role of a point by the last cluster

module _ (cs : List Cluster) (c : Cluster) (reading : ℤ) (last : last_or None cs ≡ Some c) where
  -- up to its end the last is open
  pub open_at-in : reading ≤ℤ c.end → open_at cs reading ≡ Some c
  open_at-in within =
      let e : int_lt c.end reading ≡ false = grind (arith, ints) in
      rw (last, e) refl

  -- beyond it none is
  pub open_at-beyond : c.end <ℤ reading → open_at cs reading ≡ None
  open_at-beyond past =
      let e : int_lt c.end reading ≡ true = grind (arith, ints) in
      rw (last, e) refl

-- nor where there is none
open_at-none : (cs : List Cluster) (reading : ℤ) → last_or None cs ≡ None → open_at cs reading ≡ None
open_at-none cs reading last = rw last refl

-- ---- how a collector takes points and emits clusters, and what stays true of it

-- ---- rows of collections, as points are taken and clusters are emitted

-- a list with a last element
pub last_split : {X : Type 0} (xs : List X) (x : X) → last_or None xs ≡ Some x → (front : List X) × (xs ≡ front ++ x ∷ [])
last_split [] x e = absurd (cc)
last_split (y ∷ []) x e =
    let same : y ≡ x = cc in
    ([], ap (λ z. z ∷ []) same)
last_split (y ∷ z ∷ zs) x e =
    let rest = last_split (z ∷ zs) x e in
    (y ∷ rest.0, rw rest.1)

pub last_or-none : {X : Type 0} (xs : List X) → last_or None xs ≡ None → xs ≡ []
last_or-none [] e = refl
last_or-none (y ∷ ys) e = absurd (no_last y ys e)
  where
    no_last : {X : Type 0} (y : X) (ys : List X) → last_or (Some y) ys ≡ None → ⊥
    no_last y [] e = cc
    no_last y (z ∷ zs) e = no_last z zs e

-- the last number of a rising list is not below the first
last_from-up : (p : ℤ) (ps : List ℤ) → IsAscending (p ∷ ps) → p ≤ℤ last_from p ps
last_from-up p [] up = omega (arith, ints)
last_from-up p (q ∷ qs) up = let more = last_from-up q qs up.1 in omega (arith, ints, up.0)

pub last_or-last_from : (p : ℤ) (ps : List ℤ) → last_or (Some p) ps ≡ Some (last_from p ps)
last_or-last_from p [] = refl
last_or-last_from p (q ∷ qs) = last_or-last_from q qs

-- what may follow a collection's points is not below its opening
opened-before : {ow : ℤ} {c : Cluster} (reading : ℤ) → IsCollection ow c → MayFollow c.points reading
    → c.opened ≤ℤ reading
opened-before {c} reading col may =
    let may' : MayFollow (c.opened ∷ col.later) reading = rw col.points at may in
    let last : last_from c.opened col.later ≤ℤ reading = rw (last_or-last_from c.opened col.later) at may' in
    let up = last_from-up c.opened col.later col.rising in
    omega (arith, ints)

pub opened-end : {ow : ℤ} {c : Cluster} → IsCollection ow c → c.opened ≤ℤ c.end
opened-end {c} col =
    omega (arith, ints, col.held)

-- a reading that is later
MayFollow-later : (ps : List ℤ) (t r : ℤ) → t ≤ℤ r → MayFollow ps t → MayFollow ps r
MayFollow-later ps t r le may = grind (arith, ints)

-- what the last collection of a row is, and where the others end
pub record Last (ow reading : ℤ) (front : List Cluster) (c : Cluster) : Type 0 where
  pub collection : IsCollection ow c
  pub may : MayFollow c.points reading
  pub before : AllByRecursion (λ k. k.end <ℤ c.opened) front

row_last : (ow reading : ℤ) (front : List Cluster) (c : Cluster) → IsRow ow reading (front ++ c ∷ []) → Last ow reading front c
row_last ow reading [] c row = record { collection = row.0; may = row.1; before = tt }
row_last ow reading (k ∷ []) c row = record { collection = row.2.0; may = row.2.1; before = (row.1, tt) }
row_last ow reading (k ∷ m ∷ ms) c row =
    let rest = row_last ow reading (m ∷ ms) c row.2 in
    let m_is = row_head ow reading m (ms ++ c ∷ []) row.2 in
    record {
      collection = rest.collection;
      may = rest.may;
      before =
          (omega (arith, ints, row.1, rest.before.0), rest.before);
    }
  where
    row_head : (ow reading : ℤ) (m : Cluster) (ms : List Cluster) → IsRow ow reading (m ∷ ms) → IsCollection ow m
    row_head ow reading m [] row = row.0
    row_head ow reading m (n ∷ ns) row = row.0

module _ (ow t reading : ℤ) where
  -- a row with the collection that opens next
  row-push : (cs : List Cluster) {d : Cluster} → IsRow ow t cs → AllByRecursion (λ k. k.end <ℤ d.opened) cs
      → IsCollection ow d → MayFollow d.points reading → IsRow ow reading (cs ++ d ∷ [])
  row-push [] row before col may = (col, may)
  row-push (c ∷ []) row before col may = (row.0, before.0, (col, may))
  row-push (c ∷ e ∷ es) row before col may = (row.0, row.1, row-push (e ∷ es) row.2 before.1 col may)

  -- a row with another last collection of the same opening
  row-replace : (front : List Cluster) (c : Cluster) {d : Cluster} → IsRow ow t (front ++ c ∷ [])
      → d.opened ≡ c.opened → IsCollection ow d → MayFollow d.points reading → IsRow ow reading (front ++ d ∷ [])
  row-replace [] c row same col may = (col, may)
  row-replace (k ∷ []) c row same col may = (row.0, rw same row.1, (col, may))
  row-replace (k ∷ m ∷ ms) c row same col may = (row.0, row.1, row-replace (m ∷ ms) c row.2 same col may)

  -- a row without its first collection, at a later reading
  row-rest : (c : Cluster) (cs : List Cluster) → t ≤ℤ reading → IsRow ow t (c ∷ cs) → IsRow ow reading cs
  row-rest c [] le row = tt
  row-rest c (d ∷ ds) le row = row-later (d ∷ ds) row.2
    where
      row-later : (es : List Cluster) → IsRow ow t es → IsRow ow reading es
      row-later [] row = tt
      row-later (e ∷ []) row = (row.0, MayFollow-later e.points t reading le row.1)
      row-later (e ∷ f ∷ fs) row = (row.0, row.1, row-later (f ∷ fs) row.2)

row-head : (ow reading : ℤ) (c : Cluster) (cs : List Cluster) → IsRow ow reading (c ∷ cs) → IsCollection ow c
row-head ow reading c [] row = row.0
row-head ow reading c (d ∷ ds) row = row.0

-- the others open after the first has ended
pub row-after : (ow reading : ℤ) (c : Cluster) (cs : List Cluster) → IsRow ow reading (c ∷ cs) → AllByRecursion (λ k. (c.end <ℤ k.opened) × IsCollection ow k)
    cs
row-after ow reading c [] row = tt
row-after ow reading c (d ∷ ds) row =
    let d_is = row-head ow reading d ds row.2 in
    ((row.1, d_is), later ds (omega (arith, ints, row.1, opened-end d_is)) (row-after ow reading d ds row.2))
  where
    later : (es : List Cluster) → c.end ≤ℤ d.end → AllByRecursion (λ k. (d.end <ℤ k.opened) × IsCollection ow k) es
        → AllByRecursion (λ k. (c.end <ℤ k.opened) × IsCollection ow k) es
    later [] le all = tt
    later (e ∷ es) le all = ((omega (arith, ints, all.0.0), all.0.1), later es le all.1)

-- an emission lies two windows and the time to calculate after a reading of the cluster
emission-within : {ow : ℤ} (calc : ℤ) {c : Cluster} → IsCollection ow c
    → ((c.opened +ℤ (pos 2 *ℤ ow) +ℤ calc) ≤ℤ emission ow calc c)
    × (emission ow calc c ≤ℤ (c.end +ℤ (pos 2 *ℤ ow) +ℤ calc))
emission-within calc {c} col =
    let among = middle_of-within (c.opened ∷ col.later) (λ e. cc) col.rising in
    let low : pos 0 ≤ℤ middle_of (relative c.points) = rw col.points among.0 in
    let high : middle_of (relative c.points) ≤ℤ (last_from c.opened col.later -ℤ c.opened) = rw col.points among.1 in
    (omega (arith, ints), omega (arith, ints, col.held))

-- emissions come in the order of the openings
row-emissions : (ow calc reading : ℤ) (c : Cluster) (cs : List Cluster) → IsRow ow reading (c ∷ cs)
    → AllByRecursion (λ k. emission ow calc c ≤ℤ emission ow calc k) cs
row-emissions ow calc reading c cs row =
    each cs (row-after ow reading c cs row) (emission-within calc (row-head ow reading c cs row))
  where
    each : (ks : List Cluster) → AllByRecursion (λ k. (c.end <ℤ k.opened) × IsCollection ow k) ks → ((c.opened +ℤ (pos 2 *ℤ ow) +ℤ calc) ≤ℤ emission ow calc c)
        × (emission ow calc c ≤ℤ (c.end +ℤ (pos 2 *ℤ ow) +ℤ calc)) → AllByRecursion (λ k. emission ow calc c ≤ℤ emission ow calc k) ks
    each [] all within = tt
    each (k ∷ ks) all within =
        let other = emission-within calc all.0.1 in
        (omega (arith, ints, within.1, other.0, all.0.0), each ks all.1 within)

-- five collections are never open or waiting where a sixth would open: the first would be due too long before
row-room : (ow calc t reading : ℤ) (cs : List Cluster) → pos 0 ≤ℤ ow → calc ≤ℤ ow → IsRow ow t cs → AllByRecursion (λ k. k.end <ℤ reading) cs
    → AllByRecursion (λ k. (reading -ℤ ow) <ℤ emission ow calc k) cs → length cs < 5
row-room ow calc t reading [] some short row past due = omega arith
row-room ow calc t reading (a ∷ []) some short row past due = omega arith
row-room ow calc t reading (a ∷ b ∷ []) some short row past due = omega arith
row-room ow calc t reading (a ∷ b ∷ c ∷ []) some short row past due = omega arith
row-room ow calc t reading (a ∷ b ∷ c ∷ d ∷ []) some short row past due = omega arith
row-room ow calc t reading (a ∷ b ∷ c ∷ d ∷ e ∷ more) some short row past due =
    let late = emission-within calc row.0 in
    let two = row.2 in
    let three = two.2 in
    let four = three.2 in
    let five = row-head ow t e more four.2 in
    absurd (omega (
      arith,
      ints,
      due.0,
      late.1,
      row.1,
      two.0.one,
      two.1,
      three.0.one,
      three.1,
      four.0.one,
      four.1,
      five.one,
      past.1.1.1.1.0,
    ))

-- ---- what is true of every collector stays true

none_is_some : (c : Cluster) → Some c ≡ None → ⊥
none_is_some c e = cc

-- what is open at a reading is the last, and ends no earlier
pub open_at-some : (cs : List Cluster) (reading : ℤ) (c : Cluster) → open_at cs reading ≡ Some c → (last_or None cs ≡ Some c) × (reading ≤ℤ c.end)
open_at-some cs reading c e = grind (arith, none_is_some, cases_Bool, ints)

-- where none is open, all ended before
all_ended : {v : Collecting} (reading : ℤ) → IsSound v → v.earliest ≤ℤ reading → open_at v.waiting reading ≡ None
    → AllByRecursion (λ k. k.end <ℤ reading) v.waiting
all_ended {v} reading sound order none =
    by_last (last_or None v.waiting) refl
  where
    all_before : (o : ℤ) (ks : List Cluster) → o ≤ℤ reading → AllByRecursion (λ k. k.end <ℤ o) ks → AllByRecursion (λ k. k.end <ℤ reading) ks
    all_before o [] le all = tt
    all_before o (k ∷ ks) le all = (omega (arith, ints, all.0), all_before o ks le all.1)

    all_push : (ks : List Cluster) (c : Cluster) → AllByRecursion (λ k. k.end <ℤ reading) ks → c.end <ℤ reading
        → AllByRecursion (λ k. k.end <ℤ reading) (ks ++ c ∷ [])
    all_push [] c all past = (past, tt)
    all_push (k ∷ ks) c all past = (all.0, all_push ks c all.1 past)

    by_last : (o : Option Cluster) → last_or None v.waiting ≡ o → AllByRecursion (λ k. k.end <ℤ reading) v.waiting
    by_last None l = subst (AllByRecursion (λ k. k.end <ℤ reading)) (sym (last_or-none v.waiting l)) tt
    by_last (Some c) l =
        elim (cases_Bool (int_lt c.end reading)) [
          | inl ended ↦
              let split = last_split v.waiting c l in
              let last = row_last v.ow v.earliest split.0 c (subst (IsRow v.ow v.earliest) split.1 sound.row) in
              subst (AllByRecursion (λ k. k.end <ℤ reading)) (sym split.1)
              (all_push split.0 c (all_before c.opened split.0 (omega (arith, ints)) last.before) (grind (arith, ints)))
          | inr here ↦ absurd (none_is_some c (rw (l, here) at none))
        ]

-- a list with one more is longer by one
pub length-push : (cs : List Cluster) (c : Cluster) → length (cs ++ c ∷ []) ≡ length cs + 1
length-push [] c = refl
length-push (k ∷ ks) c = omega (arith, length-push ks c)

-- a collector with another collection
pub IsSound-opened : {v : Collecting} (p : Point) → IsSound v → v.earliest ≤ℤ p.reading
    → p.reading ≤ℤ greatest_reading → open_at v.waiting p.reading ≡ None → length v.waiting < 5
    → IsSound (with_opened v p)
IsSound-opened {v} p sound order high none room =
    let col : IsCollection v.ow (opening v.ow p) = grind (arith, ints) in
    record {
      some = sound.some;
      short = sound.short;
      small = sound.small;
      low = omega (arith, ints, sound.low);
      row = row-push v.ow v.earliest p.reading v.waiting sound.row (all_ended p.reading sound order none) col
          (omega (arith, ints));
      few = omega (arith, length-push v.waiting (opening v.ow p));
    }

last_from-push : (p : ℤ) (ps : List ℤ) (q : ℤ) → last_from p (ps ++ q ∷ []) ≡ q
last_from-push p [] q = refl
last_from-push p (r ∷ rs) q = last_from-push r rs q

joined_end-within : {ow : ℤ} {c : Cluster} (reading : ℤ) → IsCollection ow c → pos 0 ≤ℤ ow
    → (c.end ≤ℤ joined_end ow c reading) × (joined_end ow c reading ≤ℤ (c.opened +ℤ (pos 2 *ℤ ow)))
joined_end-within reading col some = grind (arith, cases_Bool, ints)

-- a collection with a point that joins it
pub IsCollection-joined : {ow : ℤ} {c : Cluster} (reading : ℤ) (master : ℕ) → IsCollection ow c → pos 0 ≤ℤ ow
    → MayFollow c.points reading → reading ≤ℤ c.end → IsCollection ow (joined ow c reading master)
IsCollection-joined reading master col some may here =
    grind (arith, joined_end-within, IsAscending-push, last_from-push, ints)

last_or-push : (ps : List ℤ) (q : ℤ) → last_or None (ps ++ q ∷ []) ≡ Some q
last_or-push [] q = refl
last_or-push (p ∷ ps) q = after p ps
  where
    after : (p : ℤ) (ps : List ℤ) → last_or (Some p) (ps ++ q ∷ []) ≡ Some q
    after p [] = refl
    after p (r ∷ rs) = after r rs

-- a collector whose last collection, after those in front, is joined by a point
abbrev pub with_last : Collecting → List Cluster → Cluster → Point → Collecting
with_last v front c p = record v { earliest = p.reading; waiting = front ++ joined v.ow c p.reading p.master ∷ [] }

last_joined-split : (ow : ℤ) (p : Point) (front : List Cluster) (c : Cluster) → last_joined ow p (front ++ c ∷ []) ≡ front ++ joined ow c p.reading p.master
    ∷ []
last_joined-split ow p [] c = refl
last_joined-split ow p (k ∷ []) c = refl
last_joined-split ow p (k ∷ m ∷ ms) c = rw (last_joined-split ow p (m ∷ ms) c)

-- a collector whose last collection is joined
IsSound-joined : {v : Collecting} (front : List Cluster) (c : Cluster) (p : Point) → IsSound v
    → v.earliest ≤ℤ p.reading → v.waiting ≡ front ++ c ∷ [] → p.reading ≤ℤ c.end → IsSound (with_last v front c p)
IsSound-joined {v} front c p sound order split here =
    let row : IsRow v.ow v.earliest (front ++ c ∷ []) = subst (IsRow v.ow v.earliest) split sound.row in
    let last = row_last v.ow v.earliest front c row in
    let may = MayFollow-later c.points v.earliest p.reading order last.may in
    let col = IsCollection-joined p.reading p.master last.collection (omega (arith, ints, sound.some, sound.short))
    may here in
    let follows : MayFollow (c.points ++ p.reading ∷ []) p.reading = rw (last_or-push c.points p.reading) (omega (arith, ints)) in
    record {
      some = sound.some;
      short = sound.short;
      small = sound.small;
      low = omega (arith, ints, sound.low);
      row = row-replace v.ow v.earliest p.reading front c row refl col follows;
      few = omega (arith, sound.few, ap length split, length-push front c, length-push front (joined v.ow c p.reading p.master));
    }

emissions_due : (ow calc reading : ℤ) (cs : List Cluster) → AllByRecursion (λ at. (reading -ℤ ow) <ℤ at) (map (emission ow calc) cs)
    → AllByRecursion (λ k. (reading -ℤ ow) <ℤ emission ow calc k) cs
emissions_due ow calc reading [] all = tt
emissions_due ow calc reading (c ∷ cs) all = (all.0, emissions_due ow calc reading cs all.1)

-- there is room for one more
pub room_to_open : {v : Collecting} (reading : ℤ) → IsSound v → v.earliest ≤ℤ reading
    → All (λ at. (reading -ℤ v.ow) <ℤ at) (emissions v) → open_at v.waiting reading ≡ None → length v.waiting < 5
room_to_open {v} reading sound order due none =
    row-room v.ow v.calc v.earliest reading v.waiting (omega (arith, ints, sound.some, sound.short)) sound.short sound.row
    (all_ended reading sound order none)
    (emissions_due v.ow v.calc reading v.waiting (recursion_from_All (λ at. (reading -ℤ v.ow) <ℤ at) (emissions v) due))

-- ---- how the calls of a collector keep where it stands

-- ends that lie before a later reading
pub ended_later : (t r : ℤ) (cs : List Cluster) → t ≤ℤ r → AllByRecursion (λ c. c.end <ℤ t) cs → AllByRecursion (λ c. c.end <ℤ r) cs
ended_later t r [] le all = tt
ended_later t r (c ∷ cs) le all = (omega (arith, ints, all.0), ended_later t r cs le all.1)

all-append : (r : ℤ) (cs ds : List Cluster) → AllByRecursion (λ c. c.end <ℤ r) cs → AllByRecursion (λ c. c.end <ℤ r) ds
    → AllByRecursion (λ c. c.end <ℤ r) (cs ++ ds)
all-append r [] ds all more = more
all-append r (c ∷ cs) ds all more = (all.0, all-append r cs ds all.1 more)

module _ (v : Collecting) (points : List Point) (emitted : List Compressed) where
  past_at : (r : ℤ) (s : StandsForPoints v points emitted) → v.earliest ≤ℤ r → AllByRecursion (λ c. c.end <ℤ r) s.done
  past_at r s le =
      ended_later v.earliest r s.done le (recursion_from_All (λ c. c.end <ℤ v.earliest) s.done s.past)

  -- a point that opens a collection
  Stands-opened : (p : Point) → IsSound v → v.earliest ≤ℤ p.reading → open_at v.waiting p.reading ≡ None
      → StandsForPoints v points emitted → StandsForPoints (with_opened v p) (points ++ p ∷ []) emitted
  Stands-opened p sound order none s =
      let done = past_at p.reading s order in
      let all = all-append p.reading s.done v.waiting done (all_ended p.reading sound order none) in
      record {
        done = s.done;
        clusters =
            subst (AreClusters v.ow (points ++ p ∷ [])) (append_assoc s.done v.waiting (opening v.ow p ∷ []))
            (AreClusters-opened v.ow points (s.done ++ v.waiting) p (omega (arith, ints, sound.some, sound.short))
            s.clusters all);
        given = s.given;
        past = All-from_recursion (λ c. c.end <ℤ p.reading) s.done done;
      }

  -- a point that the open collection is given
  stands_within : {p : Point} (front : List Cluster) {c d : Cluster} → IsSound v → v.earliest ≤ℤ p.reading
      → v.waiting ≡ front ++ c ∷ [] → p.reading ≤ℤ c.end → c.end ≤ℤ d.end → Grows v.ow c d p
      → (s : StandsForPoints v points emitted) → AreClusters v.ow (points ++ p ∷ []) (s.done ++ (front ++ d ∷ []))
  stands_within {p} front {c} {d} sound order split here longer grows s =
      let last = row_last v.ow v.earliest front c (subst (IsRow v.ow v.earliest) split sound.row) in
      let opened = opened-before v.earliest last.collection last.may in
      let done = past_at p.reading s order in
      let before = ended_later c.opened p.reading front (omega (arith, ints)) last.before in
      let are : AreClusters v.ow points ((s.done ++ front) ++ c ∷ []) =
      subst (AreClusters v.ow points) (rw split
      (sym (append_assoc s.done front (c ∷ [])))) s.clusters in
      subst (AreClusters v.ow (points ++ p ∷ [])) (append_assoc s.done front (d ∷ []))
      (AreClusters-within points (s.done ++ front) (omega (arith, ints, sound.some, sound.short)) are
      (all-append p.reading s.done front done before)
      (omega (arith, ints)) here longer grows)

module _ {v : Collecting} (points : List Point) (emitted : List Compressed) (p : Point) (front : List Cluster)
    (c : Cluster) (sound : IsSound v) (order : v.earliest ≤ℤ p.reading) (split : v.waiting ≡ front ++ c ∷ [])
    (here : p.reading ≤ℤ c.end) where
  -- one that joins it
  Stands-joined : p.cycle ≡ c.cycle → has_point_of c p.master ≡ false → StandsForPoints v points emitted
      → StandsForPoints (with_last v front c p) (points ++ p ∷ []) emitted
  Stands-joined same new s =
      let last = row_last v.ow v.earliest front c (subst (IsRow v.ow v.earliest) split sound.row) in
      let ends = joined_end-within p.reading last.collection (omega (arith, ints, sound.some, sound.short)) in
      let grows : Grows v.ow c (joined v.ow c p.reading p.master) p =
      record { other = λ other. absurd (other same); repeat = λ _ old. absurd (true_is_false (sym old ∙ new)); joins = λ _ _. refl } in
      record {
        done = s.done;
        clusters = stands_within v points emitted front sound order split here ends.0 grows s;
        given = s.given;
        past = All-from_recursion (λ c. c.end <ℤ p.reading) s.done
            (past_at v points emitted p.reading s order);
      }
    where
      true_is_false : true ≡ false → ⊥
      true_is_false e = cc

  -- one that it ignores
  Stands-ignored : (p.cycle ≢ c.cycle) ⊎ (has_point_of c p.master ≡ true) → StandsForPoints v points emitted
      → StandsForPoints v (points ++ p ∷ []) emitted
  Stands-ignored why s =
      let grows : Grows v.ow c c p =
      record { other = λ _. refl; repeat = λ _ _. refl; joins = λ same new. absurd (neither same new why) } in
      record {
        done = s.done;
        clusters =
            rw split (stands_within v points emitted front sound order split here (omega (arith, ints)) grows s);
        given = s.given;
        past = s.past;
      }
    where
      true_is_false : true ≡ false → ⊥
      true_is_false e = cc

      neither : p.cycle ≡ c.cycle → has_point_of c p.master ≡ false → (p.cycle ≢ c.cycle)
          ⊎ (has_point_of c p.master ≡ true) → ⊥
      neither same new (inl other) = other same
      neither same new (inr old) = true_is_false (sym old ∙ new)

-- the clusters of a list are determined
pub AreClusters-unique : (ow : ℤ) (ps : List Point) (cs ds : List Cluster) → AreClusters ow ps cs → AreClusters ow ps ds → cs ≡ ds
AreClusters-unique ow [] [] [] are also = refl
AreClusters-unique ow [] [] (d ∷ ds) are also = absurd also
AreClusters-unique ow [] (c ∷ cs) ds are also = absurd are
AreClusters-unique ow (o ∷ ps) [] ds are also = absurd are
AreClusters-unique ow (o ∷ ps) (c ∷ cs) [] are also = absurd also
AreClusters-unique ow (o ∷ ps) (c ∷ cs) (d ∷ ds) are also =
    let same = are.0 ∙ sym also.0 in
    rw same (rw (AreClusters-unique ow (beyond c.end ps) cs ds are.1 (rw same also.1)))

-- ---- what is emitted next, and a collector after it

-- the middle of a collection's points
pub middle-within : {ow : ℤ} {c : Cluster} → IsCollection ow c
    → (pos 0 ≤ℤ middle_of (relative c.points)) × (middle_of (relative c.points) ≤ℤ (pos 2 *ℤ ow))
middle-within {ow} {c} col =
    let e = emission-within (pos 0) col in
    let low = from_low c.opened (pos 2 *ℤ ow) (middle_of (relative c.points)) e.0 in
    let high = from_high c.opened (pos 2 *ℤ ow) (middle_of (relative c.points)) c.end e.1 col.two in
    (low, high)
  where
    from_low : (o k m : ℤ) → ((o +ℤ k) +ℤ pos 0) ≤ℤ (((o +ℤ k) +ℤ pos 0) +ℤ m) → pos 0 ≤ℤ m
    from_low o k m h = omega (arith, ints)

    from_high : (o k m e : ℤ) → (((o +ℤ k) +ℤ pos 0) +ℤ m) ≤ℤ ((e +ℤ k) +ℤ pos 0) → e ≤ℤ (o +ℤ k) → m ≤ℤ k
    from_high o k m e h g = omega (arith, ints)

-- a sum of readings and numbers of the network fits
pub fits_within : (z : ℤ) → neg_ℤ (pos (2 ^ 62)) ≤ℤ z → z ≤ℤ pos (2 ^ 62) → FitsSigned w64 z
fits_within z low high = grind (arith, ints)

-- the first that waits is due first
pub IsLeast-first : {v : Collecting} (c : Cluster) (rest : List Cluster) → IsSound v → v.waiting ≡ c ∷ rest
    → IsLeast (emission v.ow v.calc c) (emissions v)
IsLeast-first {v} c rest sound split =
    let first = emission v.ow v.calc c in
    let others = All-from_recursion (λ k. first ≤ℤ emission v.ow v.calc k) rest
    (row-emissions v.ow v.calc v.earliest c rest (subst (IsRow v.ow v.earliest) split sound.row)) in
    let whole : IsLeast first (map (emission v.ow v.calc) (c ∷ rest)) = record {
      there = (0, omega arith, refl);
      bound =
          All-cons (λ x. first ≤ℤ x) first (map (emission v.ow v.calc) rest) (omega (arith, ints))
          (All-map (λ x. first ≤ℤ x) (emission v.ow v.calc) rest others);
    } in
    rw split whole

-- a collector without the first that waits, at a later reading
pub IsSound-emitted : {v : Collecting} (c : Cluster) (rest : List Cluster) (later : ℤ) → IsSound v
    → v.waiting ≡ c ∷ rest → v.earliest ≤ℤ later → IsSound (record v { earliest = later; waiting = rest })
IsSound-emitted c rest later sound split le = grind (arith, ints, row-rest, length)

-- where it stands
pub Stands-emitted : {v : Collecting} {points : List Point} {emitted : List Compressed} (c : Cluster)
    (rest : List Cluster) (later : ℤ) → IsSound v → v.waiting ≡ c ∷ rest → v.earliest ≤ℤ later
    → emission v.ow v.calc c ≤ℤ later → StandsForPoints v points emitted
    → StandsForPoints (record v { earliest = later; waiting = rest }) points
    (emitted ++ compressed v.ow v.calc c ∷ [])
Stands-emitted {v} {points} c rest later sound split le at s =
    let col = row-head v.ow v.earliest c rest (subst (IsRow v.ow v.earliest) split sound.row) in
    let low = (emission-within v.calc col).0 in
    let ended : c.end <ℤ later = omega (arith, ints, col.two, sound.some) in
    let before = All-weaker (λ k. k.end <ℤ v.earliest) (λ k. k.end <ℤ later)
    (λ k h. omega (arith, ints)) s.done s.past in
    record {
      done = s.done ++ c ∷ [];
      clusters = subst (AreClusters v.ow points) (rw split (sym (append_assoc s.done (c ∷ []) rest))) s.clusters;
      given = rw s.given (sym (map-append (compressed v.ow v.calc) s.done (c ∷ [])));
      past = All-push (λ k. k.end <ℤ later) s.done c before ended;
    }

take-all : {X : Type 0} (xs ys : List X) → take (length xs) (xs ++ ys) ≡ xs
take-all [] ys = refl
take-all (x ∷ xs) ys = rw (take-all xs ys)

-- what is emitted is the front of the clusters
pub emitted_in_order : EmittedInOrder
emitted_in_order v points emitted clusters s are = grind (arith, AreClusters-unique, length, length-map, take-all, drop-front)

-- ---- what a collector does with a point, by the point's role

-- the open collection and why a point joins it
pub record Joins (o : Option Cluster) (p : Point) : Type 0 where
  pub c : Cluster
  pub is : o ≡ Some c
  pub same : p.cycle ≡ c.cycle
  pub new : has_point_of c p.master ≡ false

-- the open collection and why it ignores a point
pub record Ignores (o : Option Cluster) (p : Point) : Type 0 where
  pub c : Cluster
  pub is : o ≡ Some c
  pub why : (p.cycle ≢ c.cycle) ⊎ (has_point_of c p.master ≡ true)

pub role_in-opened : (o : Option Cluster) (p : Point) → role_in o p ≡ Opened → o ≡ None
role_in-opened None p e = refl
role_in-opened (Some c) p e = grind (arith, cases_Bool)

pub role_in-joined : (o : Option Cluster) (p : Point) → role_in o p ≡ Joined → Joins o p
role_in-joined None p e = grind arith
role_in-joined (Some c) p e = grind (arith, cases_Bool, eqb-true)

pub role_in-ignored : (o : Option Cluster) (p : Point) → (role_in o p ≡ Repeat) ⊎ (role_in o p ≡ OtherCycle) → Ignores o p
role_in-ignored None p e = grind arith
role_in-ignored (Some c) p e = grind (arith, cases_Bool, eqb-false)

-- the last collection can take a point that is not beyond it
pub able : {v : Collecting} (reading : ℤ) (master : ℕ) → IsSound v → v.earliest ≤ℤ reading
    → IfSome (open_at v.waiting reading) (λ c. IsTrue (has_point_of c master) ⊎ (length c.points < 8))
    → IfSome (last_or None v.waiting) (λ c. reading ≤ℤ c.end → CanTake c reading master)
able {v} reading master sound order room =
    by_last (last_or None v.waiting) refl
  where
    room_in : (c : Cluster) → IsTrue (has_point_of c master) ⊎ (length c.points < 8) → has_point_of c master ≡ false → length c.points < 8
    room_in c (inl old) new = grind arith
    room_in c (inr few) new = few

    by_last : (o : Option Cluster) → last_or None v.waiting ≡ o → IfSome (last_or None v.waiting) (λ c. reading ≤ℤ c.end → CanTake c reading master)
    by_last None l = rw l tt
    by_last (Some c) l =
        let split = last_split v.waiting c l in
        let last = row_last v.ow v.earliest split.0 c (subst (IsRow v.ow v.earliest) split.1 sound.row) in
        rw l (λ here. record {
          low = last.collection.low;
          high = last.collection.high;
          room = room_in c (rw (open_at-in v.waiting c reading l here) at room);
          order = MayFollow-later c.points v.earliest reading order last.may;
        })

-- what waits where a point joined the last
pub last_is_joined : (v : Collecting) (p : Point) (waiting : List Cluster) → Joined ≡ role v.waiting p
    → ((front : List Cluster) (c : Cluster) → v.waiting ≡ front ++ c ∷ [] → waiting ≡ front ++ joined v.ow c p.reading p.master ∷ [])
    → waiting ≡ last_joined v.ow p v.waiting
last_is_joined v p waiting is joins = grind (arith, role_in-joined, open_at-some, last_split, last_joined-split)

module _ (v w : Collecting) (p : Point) (sound : IsSound v) (order : v.earliest ≤ℤ p.reading) where
  -- where a collector stands with a point that opens a collection, one that joins, and one that is ignored
  pub Stands-role_opened : Opened ≡ role v.waiting p → w ≡ with_opened v p
      → (points : List Point) (emitted : List Compressed) → StandsForPoints v points emitted
      → StandsForPoints w (points ++ p ∷ []) emitted
  Stands-role_opened is opens points emitted s =
      let none = role_in-opened (open_at v.waiting p.reading) p (sym is) in
      rw opens (Stands-opened v points emitted p sound order none s)

  pub Stands-role_joined : Joined ≡ role v.waiting p →
      ((front : List Cluster) (c : Cluster) → v.waiting ≡ front ++ c ∷ [] → w ≡ with_last v front c p)
      → {points : List Point} {emitted : List Compressed} → StandsForPoints v points emitted
      → StandsForPoints w (points ++ p ∷ []) emitted
  Stands-role_joined is joins s = grind (arith, role_in-joined, open_at-some, last_split, Stands-joined)

  pub Stands-role_ignored : (role v.waiting p ≡ Repeat) ⊎ (role v.waiting p ≡ OtherCycle) → w ≡ v
      → {points : List Point} {emitted : List Compressed} → StandsForPoints v points emitted
      → StandsForPoints w (points ++ p ∷ []) emitted
  Stands-role_ignored is same s = grind (arith, role_in-ignored, open_at-some, last_split, Stands-ignored)

last_or-append : {X : Type 0} (xs ys : List X) (y : X) → last_or None ys ≡ Some y → last_or None (xs ++ ys) ≡ Some y
last_or-append [] ys y e = e
last_or-append (x ∷ xs) ys y e = after x xs
  where
    over : (o : Option _) (zs : List _) → last_or None zs ≡ Some y → last_or o zs ≡ Some y
    over o [] e = absurd (cc)
    over o (z ∷ zs) e = e

    after : (x : _) (xs : List _) → last_or (Some x) (xs ++ ys) ≡ Some y
    after x [] = over (Some x) ys e
    after x (z ∷ zs) = after z zs

all-last : (reading : ℤ) (front : List Cluster) (c : Cluster) → AllByRecursion (λ k. k.end <ℤ reading) (front ++ c ∷ []) → c.end <ℤ reading
all-last reading [] c all = all.0
all-last reading (k ∷ ks) c all = all-last reading ks c all.1

-- where all clusters have ended none is open
ended_none : (cs : List Cluster) (reading : ℤ) → AllByRecursion (λ c. c.end <ℤ reading) cs → open_at cs reading ≡ None
ended_none cs reading all = grind (arith, open_at-none, last_split, open_at-beyond, all-last)

-- the role by what waits is the role by all clusters
pub role-whole : {v : Collecting} (p : Point) → v.earliest ≤ℤ p.reading
    → {points : List Point} {emitted : List Compressed} (cs : List Cluster) → StandsForPoints v points emitted
    → AreClusters v.ow points cs → role v.waiting p ≡ role cs p
role-whole {v} p order {points} cs s are =
    by_last (last_or None v.waiting) refl ∙ (rw
    (AreClusters-unique v.ow points (s.done ++ v.waiting) cs s.clusters are))
  where
    by_last : (o : Option Cluster) → last_or None v.waiting ≡ o → role v.waiting p ≡ role (s.done ++ v.waiting) p
    by_last None l =
        let whole : s.done ++ v.waiting ≡ s.done = rw (last_or-none v.waiting l) (append-nil s.done) in
        let done = ended_later v.earliest p.reading s.done order
        (recursion_from_All (λ c. c.end <ℤ v.earliest) s.done s.past) in
        rw (open_at-none v.waiting p.reading l ∙ sym (ended_none s.done p.reading done))
        (ap (λ ks. role ks p) (sym whole))
    by_last (Some c) l =
        rw (l ∙ sym (last_or-append s.done v.waiting c l))

-- the invariant with a point that joins
pub IsSound-takes : {v : Collecting} (p : Point) (waiting : List Cluster) → IsSound v → v.earliest ≤ℤ p.reading
    → role v.waiting p ≡ Joined → ((front : List Cluster) (c : Cluster) → v.waiting ≡ front ++ c ∷ []
    → waiting ≡ front ++ joined v.ow c p.reading p.master ∷ [])
    → IsSound (record v { earliest = p.reading; waiting = waiting })
IsSound-takes p waiting sound order is joins = grind (arith, role_in-joined, open_at-some, last_split, IsSound-joined)
