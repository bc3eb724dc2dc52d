-- The marks of a picture that fits stand in the order of their instants, and those of one instant and row side by side.
use Rattle.lens_svg.proofs.Painting.{drawn_within}
use Rattle.lens_svg.specs.{Laws.{AreApart, KeepsOrder, NeverFall, StandsLeft}, Sketching.{begun, drawn, mark_of, moment, plan_behind, plan_of, side_in, took, took_at}}
use Rattle.lens_svg.specs.Layout.{IsOnPaper, capped, clamped, gap, moved, pen_at, reached, stand, widest, width_of}
use Rattle.lens_svg.specs.{Bodies.seat_of, Sketching.{last_in, no_marks_in, with_at}, declared.layout.Side.{Side, TheVariants.{Before, Behind, Passed, Within}}}
use Rattle.{lens_svg.specs.{Plan.Plan, declared.mark.Mark.Mark}, run_law.specs.declared.note.{Note.Note, NoteBody.NoteBody}}
use Rattle.{net_plan.specs.declared.tables.Device.Device, report_text.specs.Ranges.{IsBodyOf, IsNoteOf}}
use Rattle.{lens_svg.specs.declared.layout.Pen.Pen, net_plan.specs.declared.network.Network.Network, std.proofs.lemmas.Bool.Decides.nat_tests}
use Rattle.std.proofs.Common.{◌++◌, ◌+◌, ◌-◌, ◌/◌, ◌<◌, ◌∙◌, ◌∷◌, ◌≡◌, ◌≢◌, ◌≤◌, ◌⊎◌, Bool, List, [], ap, arith, false, inl, inr, length, refl, subst, sym, true, ℕ}
use Rattle.std.proofs.lemmas.{Bool.{eq-eqb, eqb-true}, List.{get_or-set_other, get_or-set_same, length-map, length-set}, Option.unwrap_or-slice_get}
use Rattle.std.{proofs.lemmas.List.Elements.{All-append, All-cons, All-head, All-nil, All-tail, All-weaker}, specs.Prelude.{◌==◌, All, if◌then◌else◌, nat_le, nat_lt, slice_set}}
use Rattle.run_law.specs.declared.note.NoteBody.TheVariants as bodies

-- ---- lists

apart_more : (xs : List Mark) (m : Mark) → AreApart xs → All (λ a. StandsLeft a m) xs → AreApart (xs ++ m ∷ [])
apart_more [] m apart left = (All-nil (StandsLeft m), tt)
apart_more (x ∷ xs) m apart left = (
  All-append (StandsLeft x) xs (m ∷ []) apart.0 (All-cons (StandsLeft x) m [] (All-head (λ a. StandsLeft a m) x xs left) (All-nil (StandsLeft x))),
  apart_more xs m apart.1 (All-tail (λ a. StandsLeft a m) x xs left),
)

-- ---- the pen

-- a mark stands where the pen is or was: no farther than it reaches, 26 pixels to the left where its time is earlier, and
-- not to the left of the pen's instant where it is of that
record IsPast (pen : Pen) (m : Mark) : Type 0 where
  pub x : m.x ≤ pen.most
  pub time : m.time ≤ pen.time
  pub apart : m.time < pen.time → m.x + 26 ≤ pen.x
  pub here : m.time ≡ pen.time → pen.x ≤ m.x

clamped_least : (n : ℕ) → 26 ≤ clamped n
clamped_least n = grind (arith, nat_tests)

gap_least : (from to : ℕ) → from < to → 26 ≤ gap from to
gap_least from to h = let least = clamped_least ((to - from) / 30000000) in grind (arith, nat_tests, h, least)

-- a place that is not at the edge is as it was made
capped_whole : (n : ℕ) → capped n < widest → capped n ≡ n
capped_whole n h = grind (arith, nat_tests, h)

capped_most : (n : ℕ) → capped n ≤ widest
capped_most n = grind (arith, nat_tests)

capped_least : (n : ℕ) → n ≤ widest → n ≤ capped n
capped_least n h = grind (arith, nat_tests, h)

moved_later : (pen : Pen) (time : ℕ) (b : Bool) → nat_lt pen.time time ≡ b → moved pen time
    ≡ (if b then record { x = capped (pen.most + gap pen.time time); time = time; most = capped (pen.most + gap pen.time time) } else pen)
moved_later pen time b e =
    let x = capped (pen.most + gap pen.time time) in
    ap (λ (c : Bool). let p : Pen = if c then record { x = x; time = time; most = x } else pen in p) e

moved_time : (pen : Pen) (time : ℕ) → pen.time ≤ time → (moved pen time).time ≡ time
moved_time pen time later = grind (arith, nat_tests, later)

moved_reach : (pen : Pen) (time : ℕ) → pen.most ≤ widest → pen.most ≤ (moved pen time).most
moved_reach pen time h =
    let more = capped_least (pen.most + gap pen.time time) in by (nat_lt pen.time time) refl
  where
    by : (b : Bool) → nat_lt pen.time time ≡ b → pen.most ≤ (moved pen time).most
    by true e =
        let is = ap (λ (p : Pen). p.most) (moved_later pen time true e) in
        grow (gap pen.time time) (moved pen time).most is
      where
        grow : (g x : ℕ) → x ≡ capped (pen.most + g) → pen.most ≤ x
        grow g x is = grind (arith, nat_tests, is, h)
    by false e = let is = ap (λ (p : Pen). p.most) (moved_later pen time false e) in omega (arith, is)

stand_least : (pen : Pen) (last : ℕ) → pen.x ≤ widest → pen.x ≤ stand pen last
stand_least pen last h = grind (arith, nat_tests, h)

-- a mark stands behind the last one of its row, if that is of this instant and the place is not at the edge
stand_beside : (pen : Pen) (last : ℕ) → stand pen last < widest → pen.x ≤ last → last + 14 ≤ stand pen last
stand_beside pen last inside here = grind (arith, nat_tests, inside, here)

stand_past : (pen : Pen) (last : ℕ) → stand pen last < widest → last ≤ stand pen last
stand_past pen last inside = grind (arith, nat_tests, inside)

reached_most : (pen : Pen) (x : ℕ) → (pen.most ≤ (reached pen x).most) × (x ≤ (reached pen x).most)
reached_most pen x = (grind (arith, nat_tests), grind (arith, nat_tests))

moved_paper : (pen : Pen) (time : ℕ) → IsOnPaper pen → IsOnPaper (moved pen time)
moved_paper pen time h = by (nat_lt pen.time time) refl
  where
    by : (b : Bool) → nat_lt pen.time time ≡ b → IsOnPaper (moved pen time)
    by true e =
        let most = capped_most (pen.most + gap pen.time time) in
        subst IsOnPaper (sym (moved_later pen time true e)) (record { x = most; most = most })
    by false e = subst IsOnPaper (sym (moved_later pen time false e)) h

stand_paper : (pen : Pen) (last : ℕ) → IsOnPaper pen → stand pen last ≤ widest
stand_paper pen last h = let x = h.x in grind (arith, nat_tests, x)

reached_paper : (pen : Pen) (x : ℕ) → IsOnPaper pen → x ≤ widest → IsOnPaper (reached pen x)
reached_paper pen x h most = let reach = h.most in record { x = h.x; most = grind (arith, nat_tests, reach, most) }

-- ---- the pen moves, and has another mark

module _ (pen : Pen) (time : ℕ) (later : pen.time ≤ time) (inside : (moved pen time).most < widest) where
  past_later : (m : Mark) → IsPast pen m → nat_lt pen.time time ≡ true → IsPast (moved pen time) m
  past_later m h moves =
      let is = moved_later pen time true moves in
      let less : pen.time < time = grind (arith, nat_tests, moves) in
      let gaps = gap_least pen.time time less in
      let t : (moved pen time).time ≡ time = ap (λ (p : Pen). p.time) is in
      let most : (moved pen time).most ≡ pen.most + gap pen.time time =
      ap (λ (p : Pen). p.most) is
      ∙ capped_whole (pen.most + gap pen.time time) (subst (λ (n : ℕ). n < widest) (ap (λ (p : Pen). p.most) is) inside) in
      let x : (moved pen time).x ≡ (moved pen time).most = ap (λ (p : Pen). p.x) is ∙ sym (ap (λ (p : Pen). p.most) is) in
      let hx = h.x in
      let ht = h.time in record {
        x = omega (arith, most, hx, gaps);
        time = omega (arith, t, ht, less);
        apart = λ earlier. omega (arith, x, most, hx, gaps);
        here = λ same. absurd (omega (arith, same, t, ht, less));
      }

  past_moved : (m : Mark) → IsPast pen m → IsPast (moved pen time) m
  past_moved m h = by (nat_lt pen.time time) refl
    where
      by : (b : Bool) → nat_lt pen.time time ≡ b → IsPast (moved pen time) m
      by true e = past_later m h e
      by false e = subst (λ (p : Pen). IsPast p m) (sym (moved_later pen time false e)) h

past_reached : (pen : Pen) (x : ℕ) (m : Mark) → IsPast pen m → IsPast (reached pen x) m
past_reached pen x m h =
    let more = (reached_most pen x).0 in
    let hx = h.x in record { x = omega (arith, hx, more); time = h.time; apart = h.apart; here = h.here }

-- ---- the rows

-- the mark is no farther to the right than the last one of its row
abbrev IsSeated : List ℕ → Mark → Type 0
IsSeated seats m = m.x ≤ last_in seats m.seat

last_same : (seats : List ℕ) (seat x : ℕ) → seat < length seats → last_in (with_at seats seat x) seat ≡ x
last_same seats seat x within =
    let test : nat_lt seat (length seats) ≡ true = grind (arith, nat_tests, within) in
    ap (λ (b : Bool). last_in (if b then slice_set seats seat x else seats) seat) test
    ∙ unwrap_or-slice_get (slice_set seats seat x) seat 0
    ∙ get_or-set_same seats seat x 0 within

last_other : (seats : List ℕ) (seat other x : ℕ) → other ≢ seat → last_in (with_at seats seat x) other ≡ last_in seats other
last_other seats seat other x apart = by (nat_lt seat (length seats)) refl
  where
    by : (b : Bool) → nat_lt seat (length seats) ≡ b → last_in (with_at seats seat x) other ≡ last_in seats other
    by true e =
        ap (λ (c : Bool). last_in (if c then slice_set seats seat x else seats) other) e
        ∙ unwrap_or-slice_get (slice_set seats seat x) other 0
        ∙ get_or-set_other seats seat other x 0 apart
        ∙ sym (unwrap_or-slice_get seats other 0)
    by false e = ap (λ (c : Bool). last_in (if c then slice_set seats seat x else seats) other) e

with_long : (seats : List ℕ) (seat x : ℕ) → length (with_at seats seat x) ≡ length seats
with_long seats seat x = by (nat_lt seat (length seats)) refl
  where
    by : (b : Bool) → nat_lt seat (length seats) ≡ b → length (with_at seats seat x) ≡ length seats
    by true e = ap (λ (c : Bool). length (if c then slice_set seats seat x else seats)) e ∙ length-set seats seat x
    by false e = ap (λ (c : Bool). length (if c then slice_set seats seat x else seats)) e

seated_still : (seats : List ℕ) (seat x : ℕ) → seat < length seats → last_in seats seat ≤ x → (m : Mark) → IsSeated seats m
    → IsSeated (with_at seats seat x) m
seated_still seats seat x within grows m h = by (m.seat == seat) refl
  where
    by : (b : Bool) → (m.seat == seat) ≡ b → IsSeated (with_at seats seat x) m
    by true e =
        let same : m.seat ≡ seat = eqb-true m.seat seat e in
        let last = ap (λ (s : ℕ). last_in (with_at seats seat x) s) same ∙ last_same seats seat x within in
        let old = ap (λ (s : ℕ). last_in seats s) same in
        omega (arith, last, old, h, grows)
    by false e =
        let last = last_other seats seat m.seat x (λ same. let test = eq-eqb m.seat seat same in absurd cc) in
        omega (arith, last, h)

-- ---- the plan

-- the marks stand in their order, the pen is where the last one is, and the rows reach as far as their marks
record IsOrdered (network : Network) (plan : Plan) : Type 0 where
  pub apart : AreApart plan.marks
  pub past : All (IsPast plan.pen) plan.marks
  pub seated : All (IsSeated plan.seats) plan.marks
  pub seats : length plan.seats ≡ length network.device + 1

-- a record of the network has a row
seat_within : (network : Network) (body : NoteBody) → IsBodyOf network body → seat_of network body < length network.device + 1
seat_within network (bodies.Event line what) h = omega arith
seat_within network (bodies.Compressed d opened sent cycle members verdict) h = omega (arith, h)
seat_within network (bodies.Sent d cycle) h = omega (arith, h)
seat_within network (bodies.Corrected d cycle by adjustment) h = omega (arith, h)
seat_within network (bodies.State d state n why) h = omega (arith, h)
seat_within network (bodies.Clock d reading adjustment state) h = omega (arith, h)
seat_within network body h = let device = h.0 in omega (arith, device)

module _ (network : Network) (plan : Plan) (note : Note) (of : IsNoteOf network note) (later : plan.pen.time ≤ moment note)
    (paper : IsOnPaper plan.pen) (inside : (drawn network plan note).pen.most < widest) (h : IsOrdered network plan) where
  abbrev pen : Pen
  pen = moved plan.pen (moment note)

  abbrev mark : Mark
  mark = mark_of network plan pen note

  abbrev last : ℕ
  last = last_in plan.seats mark.seat

  on_paper : pen.x ≤ widest
  on_paper = (moved_paper plan.pen (moment note) paper).x

  x_inside : mark.x < widest
  x_inside = let more = (reached_most pen mark.x).1 in omega (arith, more, inside)

  pen_inside : pen.most < widest
  pen_inside = let more = (reached_most pen mark.x).0 in omega (arith, more, inside)

  has_seat : mark.seat < length plan.seats
  has_seat = let all = h.seats in let within = seat_within network note.body of in omega (arith, all, within)

  -- all before it stand to its left
  left_here : (m : Mark) → IsPast pen m × IsSeated plan.seats m → StandsLeft m mark
  left_here m both =
      let t = moved_time plan.pen (moment note) later in
      let least = stand_least pen last on_paper in record {
        instants = λ less. let apart = both.0.apart (omega (arith, less, t)) in omega (arith, apart, least);
        beside = λ same row. let here = both.0.here (omega (arith, same, t)) in
            let seat = both.1 in
            let rows = ap (λ (s : ℕ). last_in plan.seats s) row in
            let reach : pen.x ≤ last = omega (arith, here, seat, rows) in
            let behind = stand_beside pen last x_inside reach in
            omega (arith, behind, seat, rows);
      }

  past_here : IsPast (reached pen mark.x) mark
  past_here =
      let t = moved_time plan.pen (moment note) later in
      let most = (reached_most pen mark.x).1 in
      let least = stand_least pen last on_paper in record {
        x = most;
        time = omega (arith, t);
        apart = λ less. absurd (omega (arith, less, t));
        here = λ same. least;
      }

  seated_here : IsSeated (with_at plan.seats mark.seat mark.x) mark
  seated_here = let same = last_same plan.seats mark.seat mark.x has_seat in omega (arith, same)

  ordered_drawn : IsOrdered network (drawn network plan note)
  ordered_drawn =
      let past = All-weaker (IsPast plan.pen) (IsPast pen) (past_moved plan.pen (moment note) later pen_inside) plan.marks h.past in
      let reach = All-weaker (IsPast pen) (IsPast (reached pen mark.x)) (past_reached pen mark.x) plan.marks past in
      let seated = All-weaker (IsSeated plan.seats) (IsSeated (with_at plan.seats mark.seat mark.x))
      (seated_still plan.seats mark.seat mark.x has_seat (stand_past pen last x_inside)) plan.marks h.seated in
      let all = h.seats in
      let long = with_long plan.seats mark.seat mark.x in record {
        apart = apart_more plan.marks mark h.apart (both_left plan.marks past h.seated);
        past = All-append (IsPast (reached pen mark.x)) plan.marks (mark ∷ []) reach
            (All-cons (IsPast (reached pen mark.x)) mark [] past_here (All-nil (IsPast (reached pen mark.x))));
        seated = All-append (IsSeated (with_at plan.seats mark.seat mark.x)) plan.marks (mark ∷ []) seated
            (All-cons (IsSeated (with_at plan.seats mark.seat mark.x)) mark [] seated_here (All-nil (IsSeated (with_at plan.seats mark.seat mark.x))));
        seats = omega (arith, all, long);
      }
    where
      both_left : (ms : List Mark) → All (IsPast pen) ms → All (IsSeated plan.seats) ms → All (λ m. StandsLeft m mark) ms
      both_left [] p q = All-nil (λ m. StandsLeft m mark)
      both_left (m ∷ ms) p q =
          All-cons (λ a. StandsLeft a mark) m ms (left_here m (All-head (IsPast pen) m ms p, All-head (IsSeated plan.seats) m ms q))
          (both_left ms (All-tail (IsPast pen) m ms p) (All-tail (IsSeated plan.seats) m ms q))

-- ---- the pen never goes back

took_grows : (network : Network) (plan : Plan) (note : Note) (side : Side) → IsOnPaper plan.pen
    → (plan.pen.most ≤ (took_at side network plan note).pen.most) × IsOnPaper (took_at side network plan note).pen
took_grows network plan note Before h = (omega arith, h)
took_grows network plan note Within h =
    let pen = moved plan.pen (moment note) in
    let mark = mark_of network plan pen note in
    let paper = moved_paper plan.pen (moment note) h in
    let first = moved_reach plan.pen (moment note) h.most in
    let more = (reached_most pen mark.x).0 in
    (omega (arith, first, more), reached_paper pen mark.x paper (stand_paper pen (last_in plan.seats mark.seat) paper))
took_grows network plan note Passed h = (omega arith, h)
took_grows network plan note Behind h = (omega arith, h)

behind_grows : (network : Network) (plan : Plan) (notes : List Note) → IsOnPaper plan.pen → plan.pen.most ≤ (plan_behind network plan notes).pen.most
behind_grows network plan [] h = omega arith
behind_grows network plan (note ∷ notes) h =
    let first = took_grows network plan note (side_in plan.view note) h in
    let rest = behind_grows network (took network plan note) notes first.1 in
    let grows = first.0 in
    omega (arith, grows, rest)

-- the pen is at no later time than a record that comes next, or where the picture begins
abbrev IsBehind : Plan → ℕ → Type 0
IsBehind plan time = (plan.pen.time ≤ time) ⊎ (plan.pen.time ≤ plan.view.span.from)

not_later : (plan : Plan) (time next : ℕ) → IsBehind plan time → time ≤ next → plan.view.span.from ≤ next → plan.pen.time ≤ next
not_later plan time next (inl h) later from = omega (arith, h, later)
not_later plan time next (inr h) later from = omega (arith, h, from)

still_behind : (plan : Plan) (time next : ℕ) → IsBehind plan time → time ≤ next → IsBehind plan next
still_behind plan time next (inl h) later = inl (omega (arith, h, later))
still_behind plan time next (inr h) later = inr h

-- the plan behind a record, with the pen on paper, as before
record IsInOrder (network : Network) (plan : Plan) (time : ℕ) : Type 0 where
  pub ordered : IsOrdered network plan
  pub behind : IsBehind plan time

order_took : (network : Network) (plan : Plan) (note : Note) (time : ℕ) (side : Side) → side_in plan.view note ≡ side → IsNoteOf network note
    → time ≤ moment note → IsOnPaper plan.pen → (took_at side network plan note).pen.most < widest → IsInOrder network plan time
    → IsInOrder network (took_at side network plan note) (moment note)
order_took network plan note time Before at of later paper inside h = record {
  ordered = record { apart = h.ordered.apart; past = h.ordered.past; seated = h.ordered.seated; seats = h.ordered.seats };
  behind = still_behind plan time (moment note) h.behind later;
}
order_took network plan note time Within at of later paper inside h =
    let from = (drawn_within plan.view note at).0 in
    let now = not_later plan time (moment note) h.behind later from in
    let t = moved_time plan.pen (moment note) now in
    record { ordered = ordered_drawn network plan note of now paper inside h.ordered; behind = inl (omega (arith, t)) }
order_took network plan note time Passed at of later paper inside h = record {
  ordered = record { apart = h.ordered.apart; past = h.ordered.past; seated = h.ordered.seated; seats = h.ordered.seats };
  behind = still_behind plan time (moment note) h.behind later;
}
order_took network plan note time Behind at of later paper inside h =
    record { ordered = h.ordered; behind = still_behind plan time (moment note) h.behind later }

order_behind : (network : Network) (plan : Plan) (notes : List Note) (time : ℕ) → All (IsNoteOf network) notes → NeverFall time notes → IsOnPaper plan.pen
    → (plan_behind network plan notes).pen.most < widest → IsInOrder network plan time → AreApart (plan_behind network plan notes).marks
order_behind network plan [] time of falls paper inside h = h.ordered.apart
order_behind network plan (note ∷ notes) time of falls paper inside h =
    let side = side_in plan.view note in
    let grows = took_grows network plan note side paper in
    let after = behind_grows network (took network plan note) notes grows.1 in
    let first : (took network plan note).pen.most < widest = omega (arith, after, inside) in
    order_behind network (took network plan note) notes (moment note) (All-tail (IsNoteOf network) note notes of) falls.1 grows.1 inside
    (order_took network plan note time side refl (All-head (IsNoteOf network) note notes of) falls.0 paper first h)

-- a picture that fits ends before the edge
fits_inside : (pen : Pen) → nat_le (width_of pen) widest ≡ true → pen.most < widest
fits_inside pen h = grind (arith, nat_tests, h)

-- at first each row has a place
first_seats : (devices : List Device) → length (no_marks_in devices) ≡ length devices + 1
first_seats devices = let same = length-map {B = ℕ} devices (λ (d : Device). 0) in omega (arith, same)

pub keeps_order : KeepsOrder
keeps_order network view notes of falls fit =
    order_behind network (begun network view) notes 0 of falls (record { x = omega arith; most = omega arith })
    (fits_inside (plan_of network view notes).pen fit) (record {
      ordered = record {
        apart = tt;
        past = All-nil (IsPast (pen_at view.span.from));
        seated = All-nil (IsSeated (no_marks_in network.device));
        seats = first_seats network.device;
      };
      behind = inr (omega arith);
    })
