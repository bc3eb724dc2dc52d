-- What is painted of the records: the marks, the arrows of causes, and the lanes.
use Rattle.std.{specs.Prelude.{if◌then◌else◌, ◌==◌, ◌||◌, None, Option, Some, fold, nat_lt, option_and_then, slice_get}}
use Rattle.std.proofs.{Math.Seq.take-append_seam}
use Rattle.std.proofs.Common
use Common.{◌++◌, ◌+◌, ◌-◌, ◌<◌, ◌∙◌, ◌∷◌, ◌≡◌, ◌≢◌, ◌≤◌, ◌⊎◌, Bool, List, [], ap, append_assoc, arith, false, inl, inr}
use Common.{length, length-append, refl, subst, suc, sym, take, true, zero, ℕ}
use Rattle.std.proofs.lemmas.{Bool.{Decides.nat_tests, eq-eqb, eqb-true, ltb-false, ltb-true}}
use Rattle.std.proofs.lemmas.{List.{Sums.fold-append, append-nil}}
use Rattle.lens_svg.specs.{Layers.{way_between, way_of}, Layout.{is_within, moved, side_of}, Plan.Plan}
use Rattle.lens_svg.specs.{Views.{View, is_kept, side_if}}
use Rattle.lens_svg.specs.Laws
use Laws.{AreMarksOf, ArrowsAreCauses, ComesAcross, HasArrows, IsMarkOf, LanesAreStates, NeverFall, NumbersFollow}
use Laws.{arrow, grounds_after, grounds_with, painted_with, shown, told}
use Rattle.lens_svg.specs.Sketching
use Sketching.{begun, drawn, if_of, is_drawn, is_told, mark_at, mark_of, moment, places_with, plan_behind, plan_of}
use Sketching.{side_in, took, took_at}
use Rattle.lens_svg.specs.declared.{element.Element.Element}
use Rattle.lens_svg.specs.declared.{layout.{Side.{Side, TheVariants.{Before, Behind, Passed, Within}}, Span.Span}}
use Rattle.lens_svg.specs.declared.{mark.{Ground.Ground, Mark.Mark}}
use Rattle.net_plan.specs.declared.network.Network.{Network}
use Rattle.run_law.{proofs.law.FirstDeliveries.in_front, specs.declared.note.Note.Note}

-- ---- there is a mark for each record that is drawn, and an arrow exactly where there is a cause: sides

abbrev side_by : Bool → Bool → Side
side_by b c = if b then Before else if c then Behind else Within

by_before : (b c : Bool) → side_by b c ≡ Before → b ≡ true
by_before true c e = refl
by_before false true e = absurd cc
by_before false false e = absurd cc

by_within : (b c : Bool) → side_by b c ≡ Within → (b ≡ false) × (c ≡ false)
by_within true c e = absurd cc
by_within false true e = absurd cc
by_within false false e = (refl, refl)

by_behind : (b c : Bool) → side_by b c ≡ Behind → c ≡ true
by_behind true c e = absurd cc
by_behind false true e = refl
by_behind false false e = absurd cc

pub before_from : (span : Span) (time : ℕ) → side_of span time ≡ Before → time < span.from
before_from span time e = ltb-true time span.from (by_before (nat_lt time span.from) (nat_lt span.to time) e)

pub within_both : (span : Span) (time : ℕ) → side_of span time ≡ Within → (span.from ≤ time) × (time ≤ span.to)
within_both span time e =
    let tests = by_within (nat_lt time span.from) (nat_lt span.to time) e in
    (ltb-false time span.from tests.0, ltb-false span.to time tests.1)

pub behind_to : (span : Span) (time : ℕ) → side_of span time ≡ Behind → span.to < time
behind_to span time e = ltb-true span.to time (by_behind (nat_lt time span.from) (nat_lt span.to time) e)

-- a record's side to what is drawn, by that to the part
kept_before : (b : Bool) (side : Side) → side_if b side ≡ Before → side ≡ Before
kept_before true side e = e
kept_before false Before e = refl
kept_before false Within e = absurd cc
kept_before false Passed e = absurd cc
kept_before false Behind e = absurd cc

kept_within : (b : Bool) (side : Side) → side_if b side ≡ Within → (side ≡ Within) × (b ≡ true)
kept_within true side e = (e, refl)
kept_within false Before e = absurd cc
kept_within false Within e = absurd cc
kept_within false Passed e = absurd cc
kept_within false Behind e = absurd cc

kept_behind : (b : Bool) (side : Side) → side_if b side ≡ Behind → side ≡ Behind
kept_behind true side e = e
kept_behind false Before e = absurd cc
kept_behind false Within e = absurd cc
kept_behind false Passed e = absurd cc
kept_behind false Behind e = refl

kept_passed : (b : Bool) (side : Side) → side_if b side ≡ Passed → (side ≡ Within) × (b ≡ false) ⊎ (side ≡ Passed)
kept_passed true side e = inr e
kept_passed false Before e = absurd cc
kept_passed false Within e = inl (refl, refl)
kept_passed false Passed e = inr refl
kept_passed false Behind e = absurd cc

never_passed : (b c : Bool) → side_by b c ≡ Passed → ⊥
never_passed true c e = cc
never_passed false true e = cc
never_passed false false e = cc

module _ (view : View) (note : Note) where
  abbrev is_one : Bool
  is_one = is_kept view.kept note.number

  abbrev its_side : Side
  its_side = side_of view.span (moment note)

  drawn_before : side_in view note ≡ Before → moment note < view.span.from
  drawn_before e = before_from view.span (moment note) (kept_before is_one its_side e)

  pub drawn_within : side_in view note ≡ Within → (view.span.from ≤ moment note) × (moment note ≤ view.span.to)
  drawn_within e = within_both view.span (moment note) (kept_within is_one its_side e).0

  drawn_kept : side_in view note ≡ Within → is_kept view.kept note.number ≡ true
  drawn_kept e = (kept_within is_one its_side e).1

  pub drawn_behind : side_in view note ≡ Behind → view.span.to < moment note
  drawn_behind e = behind_to view.span (moment note) (kept_behind is_one its_side e)

  -- what is passed over lies in the part, and is not kept
  passed_by : (its_side ≡ Within) × (is_one ≡ false) ⊎ (its_side ≡ Passed)
      → (view.span.from ≤ moment note) × (is_one ≡ false)
  passed_by (inl both) = ((within_both view.span (moment note) both.0).0, both.1)
  passed_by (inr e) = absurd (never_passed (nat_lt (moment note) view.span.from) (nat_lt view.span.to (moment note)) e)

  passed_over : side_in view note ≡ Passed → (view.span.from ≤ moment note) × (is_kept view.kept note.number ≡ false)
  passed_over e = passed_by (kept_passed is_one its_side e)

-- ---- marks are records

-- the marks behind records are those before, and those of the records that are drawn
pub record AreTaken (network : Network) (plan after : Plan) (notes : List Note) : Type 0 where
  pub more : List Mark
  pub whole : after.marks ≡ plan.marks ++ more
  pub marks : AreMarksOf network more (shown plan.view notes)

taken_none : (network : Network) (plan : Plan) → AreTaken network plan plan []
taken_none network plan = record { more = []; whole = sym (append-nil plan.marks); marks = tt }

shown_at : (view : View) (note : Note) (notes : List Note) (side : Side) → side_in view note ≡ side
    → shown view (note ∷ notes) ≡ (if is_within side then note ∷ shown view notes else shown view notes)
shown_at view note notes side e = ap (λ (s : Side). if is_within s then note ∷ shown view notes else shown view notes) e

mark_is : (network : Network) (plan : Plan) (note : Note) → IsMarkOf network (mark_of network plan (moved plan.pen (moment note)) note) note
mark_is network plan note = record { number = refl; time = refl; seat = refl; device = refl; cause = refl; look = refl }

taken_at : (network : Network) (plan after : Plan) (note : Note) (notes : List Note) (side : Side) → side_in plan.view note ≡ side
    → AreTaken network (took_at side network plan note) after notes → AreTaken network plan after (note ∷ notes)
taken_at network plan after note notes Before e h = record {
  more = h.more;
  whole = h.whole;
  marks = subst (λ (ns : List Note). AreMarksOf network h.more ns) (sym (shown_at plan.view note notes Before e)) h.marks;
}
taken_at network plan after note notes Within e h =
    let mark = mark_of network plan (moved plan.pen (moment note)) note in record {
      more = mark ∷ h.more;
      whole = h.whole ∙ append_assoc plan.marks (mark ∷ []) h.more;
      marks =
          subst (λ (ns : List Note). AreMarksOf network (mark ∷ h.more) ns) (sym (shown_at plan.view note notes Within e))
          (mark_is network plan note, h.marks);
    }
taken_at network plan after note notes Passed e h = record {
  more = h.more;
  whole = h.whole;
  marks = subst (λ (ns : List Note). AreMarksOf network h.more ns) (sym (shown_at plan.view note notes Passed e)) h.marks;
}
taken_at network plan after note notes Behind e h = record {
  more = h.more;
  whole = h.whole;
  marks = subst (λ (ns : List Note). AreMarksOf network h.more ns) (sym (shown_at plan.view note notes Behind e)) h.marks;
}

pub taken_all : (network : Network) (plan : Plan) (notes : List Note) → AreTaken network plan (plan_behind network plan notes) notes
taken_all network plan [] = taken_none network plan
taken_all network plan (note ∷ notes) =
    taken_at network plan (plan_behind network (took network plan note) notes) note notes (side_in plan.view note) refl
    (taken_all network (took network plan note) notes)

-- ---- where marks stand

some_last : {X : Type 0} (xs : List X) (x : X) → slice_get (xs ++ x ∷ []) (length xs) ≡ Some x
some_last [] x = refl
some_last (y ∷ xs) x = some_last xs x

-- what stands at a place stood there before, or is the last
some_more : {X : Type 0} (xs : List X) (last x : X) (n : ℕ) → slice_get (xs ++ last ∷ []) n ≡ Some x
    → (slice_get xs n ≡ Some x) ⊎ ((n ≡ length xs) × (x ≡ last))
some_more [] last x zero there = let same : x ≡ last = cc in inr (refl, same)
some_more [] last x (suc n) there = absurd cc
some_more (y ∷ xs) last x zero there = inl there
some_more (y ∷ xs) last x (suc n) there = by (some_more xs last x n there)
  where
    by : (slice_get xs n ≡ Some x) ⊎ ((n ≡ length xs) × (x ≡ last)) → (slice_get xs n ≡ Some x) ⊎ ((suc n ≡ suc (length xs)) × (x ≡ last))
    by (inl here) = inl here
    by (inr both) = inr (ap suc both.0, both.1)

-- the place of each mark is kept at its number
abbrev ArePlaced : Plan → Type 0
ArePlaced plan = (place : ℕ) (mark : Mark) → slice_get plan.marks place ≡ Some mark → slice_get plan.places (mark.number - 1) ≡ Some place

-- so it is, and there is a place for each record before the next, unless they have come past the picture
record Follows (plan : Plan) (next time : ℕ) : Type 0 where
  pub placed : ArePlaced plan
  pub long : (length plan.places + 1 ≡ next) ⊎ (plan.view.span.to < time)

module _ (network : Network) (plan : Plan) (note : Note) (next time : ℕ) (number : note.number ≡ next) (later : time ≤ moment note)
    (h : Follows plan next time) where
  abbrev mark : Mark
  mark = mark_of network plan (moved plan.pen (moment note)) note

  -- what was placed stays
  placed_still : (place : ℕ) (m : Mark) → slice_get plan.marks place ≡ Some m → slice_get (places_with plan) (m.number - 1) ≡ Some place
  placed_still place m there = in_front plan.places (length plan.marks ∷ []) (m.number - 1) place (h.placed place m there)

  -- the next one is placed
  placed_next : length plan.places + 1 ≡ next → slice_get (places_with plan) (mark.number - 1) ≡ Some (length plan.marks)
  placed_next long =
      let at : note.number - 1 ≡ length plan.places = omega (arith, number, long) in
      ap (λ (n : ℕ). slice_get (places_with plan) n) at ∙ some_last plan.places (length plan.marks)

  placed_drawn : length plan.places + 1 ≡ next → ArePlaced (drawn network plan note)
  placed_drawn long place m there = by (some_more plan.marks mark m place there)
    where
      by : (slice_get plan.marks place ≡ Some m) ⊎ ((place ≡ length plan.marks) × (m ≡ mark)) → slice_get (places_with plan) (m.number - 1) ≡ Some place
      by (inl before) = placed_still place m before
      by (inr both) = rw (both.0, both.1) (placed_next long)

  long_more : (length plan.places + 1 ≡ next) ⊎ (plan.view.span.to < time)
      → (length (places_with plan) + 1 ≡ next + 1) ⊎ (plan.view.span.to < moment note)
  long_more (inl long) = let more = length-append plan.places (length plan.marks ∷ []) in inl (omega (arith, more, long))
  long_more (inr past) = inr (omega (arith, past, later))

  follows_drawn : side_in plan.view note ≡ Within → (length plan.places + 1 ≡ next) ⊎ (plan.view.span.to < time)
      → Follows (drawn network plan note) (next + 1) (moment note)
  follows_drawn e (inl long) = record { placed = placed_drawn long; long = long_more (inl long) }
  follows_drawn e (inr past) = let most = (drawn_within plan.view note e).1 in absurd (omega (arith, past, later, most))

  follows_took : (side : Side) → side_in plan.view note ≡ side → Follows (took_at side network plan note) (next + 1) (moment note)
  follows_took Before e = record { placed = placed_still; long = long_more h.long }
  follows_took Within e = follows_drawn e h.long
  follows_took Passed e = record { placed = placed_still; long = long_more h.long }
  follows_took Behind e = record { placed = h.placed; long = inr (drawn_behind plan.view note e) }

follows_all : (network : Network) (plan : Plan) (notes : List Note) (next time : ℕ) → NumbersFollow next notes → NeverFall time notes
    → Follows plan next time → ArePlaced (plan_behind network plan notes)
follows_all network plan [] next time numbers falls h = h.placed
follows_all network plan (note ∷ notes) next time numbers falls h =
    follows_all network (took network plan note) notes (next + 1) (moment note) numbers.1 falls.1
    (follows_took network plan note next time numbers.0 falls.0 h (side_in plan.view note) refl)

none_there : (place : ℕ) (mark : Mark) → slice_get [] place ≡ Some mark → ⊥
none_there zero mark there = cc
none_there (suc place) mark there = cc

-- ---- finding a mark

module _ (plan : Plan) where
  finds : ArePlaced plan → (place : ℕ) (mark : Mark) → slice_get plan.marks place ≡ Some mark → mark_at plan mark.number ≡ Some mark
  finds placed place mark there =
      let test : (mark.number == mark.number) ≡ true = eq-eqb mark.number mark.number refl in
      ap (λ (o : Option ℕ). option_and_then (if_of mark.number) (option_and_then (slice_get plan.marks) o)) (placed place mark there)
      ∙ ap (λ (o : Option Mark). option_and_then (if_of mark.number) o) there
      ∙ ap (λ (b : Bool). if b then Some mark else None) test

  found_of : (number place : ℕ) (mark other : Mark) (b : Bool) → slice_get plan.marks place ≡ Some other → (other.number == number) ≡ b
      → (if b then Some other else None) ≡ Some mark → (place : ℕ) × (slice_get plan.marks place ≡ Some mark) × (mark.number ≡ number)
  found_of number place mark other true there test e =
      let same : other ≡ mark = cc in
      (place, there ∙ ap (λ (m : Mark). Some m) same, ap (λ (m : Mark). m.number) (sym same) ∙ eqb-true other.number number test)
  found_of number place mark other false there test e = absurd cc

  found_by : (number place : ℕ) (mark : Mark) (o : Option Mark) → slice_get plan.marks place ≡ o → option_and_then (if_of number) o ≡ Some mark
      → (place : ℕ) × (slice_get plan.marks place ≡ Some mark) × (mark.number ≡ number)
  found_by number place mark None there e = absurd cc
  found_by number place mark (Some other) there e = found_of number place mark other (other.number == number) there refl e

  found_at : (number : ℕ) (mark : Mark) (o : Option ℕ) → option_and_then (if_of number) (option_and_then (slice_get plan.marks) o) ≡ Some mark
      → (place : ℕ) × (slice_get plan.marks place ≡ Some mark) × (mark.number ≡ number)
  found_at number mark None e = absurd cc
  found_at number mark (Some place) e = found_by number place mark (slice_get plan.marks place) refl e

  found : (number : ℕ) (mark : Mark) → mark_at plan number ≡ Some mark → (place : ℕ) × (slice_get plan.marks place ≡ Some mark) × (mark.number ≡ number)
  found number mark e = found_at number mark (slice_get plan.places (number - 1)) e

-- ---- the arrows

between : (cause mark : Mark) → cause.device.0 ≢ mark.device.0 → way_between cause mark ≡ Some (arrow cause mark)
between cause mark apart = by (cause.device.0 == mark.device.0) refl
  where
    by : (b : Bool) → (cause.device.0 == mark.device.0) ≡ b → way_between cause mark ≡ Some (arrow cause mark)
    by true e = absurd (apart (eqb-true cause.device.0 mark.device.0 e))
    by false e = ap (λ (b : Bool). if b then None else Some (arrow cause mark)) e

across : (cause mark : Mark) (element : Element) (b : Bool) → (cause.device.0 == mark.device.0) ≡ b
    → (if b then None else Some (arrow cause mark)) ≡ Some element → (cause.device.0 ≢ mark.device.0) × (element ≡ arrow cause mark)
across cause mark element true e way = absurd cc
across cause mark element false e way =
    let same : element ≡ arrow cause mark = cc in
    (λ equal. let test = eq-eqb cause.device.0 mark.device.0 equal in absurd cc, same)

module _ (plan : Plan) (placed : ArePlaced plan) where
  arrow_each : (place : ℕ) (cause mark : Mark) → slice_get plan.marks place ≡ Some cause → ComesAcross mark cause → way_of plan mark ≡ Some (arrow cause mark)
  arrow_each place cause mark there comes =
      let at : mark_at plan mark.cause ≡ Some cause =
      ap (λ (n : ℕ). mark_at plan n) (sym comes.number) ∙ finds plan placed place cause there in
      ap (λ (o : Option Mark). option_and_then (λ c. way_between c mark) o) at ∙ between cause mark comes.apart

  arrow_from : (mark : Mark) (element : Element) (o : Option Mark) → mark_at plan mark.cause ≡ o
      → option_and_then (λ c. way_between c mark) o ≡ Some element
      → (place : ℕ) × (cause : Mark) × (slice_get plan.marks place ≡ Some cause) × ComesAcross mark cause × (element ≡ arrow cause mark)
  arrow_from mark element None at way = absurd cc
  arrow_from mark element (Some cause) at way =
      let there = found plan mark.cause cause at in
      let apart = across cause mark element (cause.device.0 == mark.device.0) refl way in
      (there.0, cause, there.1, record { number = there.2; apart = apart.0 }, apart.1)

  has_arrows : HasArrows plan
  has_arrows = record { each = arrow_each; only = λ mark element way. arrow_from mark element (mark_at plan mark.cause) refl way }

pub arrows_are_causes : ArrowsAreCauses
arrows_are_causes network view notes numbers falls =
    let taken = taken_all network (begun network view) notes in (
      subst (λ (ms : List Mark). AreMarksOf network ms (shown view notes)) (sym taken.whole) taken.marks,
      has_arrows (plan_of network view notes)
          (follows_all network (begun network view) notes 1 0 numbers falls
          (record { placed = λ place mark there. absurd (none_there place mark there); long = inl (omega arith) })),
    )

-- ---- the lanes are painted as the records leave their devices: lists

as_many : (network : Network) (marks : List Mark) (notes : List Note) → AreMarksOf network marks notes → length marks ≡ length notes
as_many network [] [] are = refl
as_many network [] (n ∷ ns) are = absurd are
as_many network (m ∷ ms) [] are = absurd are
as_many network (m ∷ ms) (n ∷ ns) are = let rest = as_many network ms ns are.1 in omega (arith, rest)

behind_both : (network : Network) (plan : Plan) (front rest : List Note)
    → plan_behind network plan (front ++ rest) ≡ plan_behind network (plan_behind network plan front) rest
behind_both network plan [] rest = refl
behind_both network plan (note ∷ front) rest = behind_both network (took network plan note) front rest

-- ---- times

falls_rest : (front rest : List Note) (note : Note) (time : ℕ) → NeverFall time (front ++ note ∷ rest) → NeverFall (moment note) rest
falls_rest [] rest note time falls = falls.1
falls_rest (n ∷ front) rest note time falls = falls_rest front rest note (moment n) falls.1

falls_front : (front rest : List Note) (note : Note) (time : ℕ) → NeverFall time (front ++ note ∷ rest) → NeverFall time (front ++ note ∷ [])
falls_front [] rest note time falls = (falls.0, tt)
falls_front (n ∷ front) rest note time falls = (falls.0, falls_front front rest note (moment n) falls.1)

-- these times are no later
abbrev AreUpTo : ℕ → List Note → Type 0
AreUpTo most [] = Unit {0}
AreUpTo most (note ∷ notes) = (moment note ≤ most) × AreUpTo most notes

least_last : (front rest : List Note) (note : Note) (time : ℕ) → NeverFall time (front ++ note ∷ rest) → time ≤ moment note
least_last [] rest note time falls = falls.0
least_last (n ∷ front) rest note time falls =
    let first = falls.0 in
    let last = least_last front rest note (moment n) falls.1 in
    omega (arith, first, last)

up_to_last : (front rest : List Note) (note : Note) (time most : ℕ) → NeverFall time (front ++ note ∷ rest) → moment note ≤ most
    → AreUpTo most (front ++ note ∷ [])
up_to_last [] rest note time most falls last = (last, tt)
up_to_last (n ∷ front) rest note time most falls last =
    let least = least_last front rest note (moment n) falls.1 in
    (omega (arith, least, last), up_to_last front rest note (moment n) most falls.1 last)

-- ---- painting

-- the lanes behind all marks
abbrev painted : Plan → List Ground
painted plan = fold painted_with plan.grounds plan.marks

-- nothing is painted yet, or the picture has begun
abbrev HasBegun : Plan → ℕ → Type 0
HasBegun plan time = (plan.marks ≡ []) ⊎ (plan.view.span.from ≤ time)

-- a record is told where it is kept, or lies before the part
told_first : (view : View) (note : Note) (notes : List Note) (b : Bool) → is_told view note ≡ b
    → told view (note ∷ notes) ≡ (if b then note ∷ told view notes else told view notes)
told_first view note notes b e = ap (λ (c : Bool). if c then note ∷ told view notes else told view notes) e

is_before : (view : View) (note : Note) → moment note < view.span.from → is_told view note ≡ true
is_before view note less =
    let test : nat_lt (moment note) view.span.from ≡ true = grind (arith, nat_tests, less) in
    ap (λ (b : Bool). is_kept view.kept note.number || b) test ∙ or_true (is_kept view.kept note.number)
  where
    or_true : (b : Bool) → (b || true) ≡ true
    or_true true = refl
    or_true false = refl

is_told_kept : (view : View) (note : Note) → is_kept view.kept note.number ≡ true → is_told view note ≡ true
is_told_kept view note kept = ap (λ (b : Bool). b || nat_lt (moment note) view.span.from) kept

is_untold : (view : View) (note : Note) → view.span.from ≤ moment note → is_kept view.kept note.number ≡ false → is_told view note ≡ false
is_untold view note from kept =
    let test : nat_lt (moment note) view.span.from ≡ false = grind (arith, nat_tests, from) in
    ap (λ (b : Bool). b || nat_lt (moment note) view.span.from) kept ∙ test

-- the grounds behind records that the lanes tell of
abbrev told_after : Network → View → List Ground → List Note → List Ground
told_after network view grounds notes = fold (grounds_with network) grounds (told view notes)

told_more : (network : Network) (view : View) (grounds : List Ground) (note : Note) (notes : List Note) (b : Bool) → is_told view note ≡ b
    → told_after network view grounds (note ∷ notes)
    ≡ told_after network view (if b then grounds_with network grounds note else grounds) notes
told_more network view grounds note notes true e = ap (fold (grounds_with network) grounds) (told_first view note notes true e)
told_more network view grounds note notes false e = ap (fold (grounds_with network) grounds) (told_first view note notes false e)

module _ (network : Network) (plan : Plan) (note : Note) (time : ℕ) (later : time ≤ moment note) (most : moment note ≤ plan.view.span.to) where
  -- the lanes behind one more record
  abbrev one_more : List Ground
  one_more = if is_told plan.view note then grounds_with network (painted plan) note else painted plan

  more_by : (b : Bool) → is_told plan.view note ≡ b → one_more ≡ (if b then grounds_with network (painted plan) note else painted plan)
  more_by b e = ap (λ (c : Bool). if c then grounds_with network (painted plan) note else painted plan) e

  painted_before : side_in plan.view note ≡ Before → HasBegun plan time → painted (took_at Before network plan note) ≡ one_more
  painted_before e (inl none) =
      ap (λ (ms : List Mark). fold painted_with (grounds_with network plan.grounds note) ms) none
      ∙ ap (λ (ms : List Mark). grounds_with network (fold painted_with plan.grounds ms) note) (sym none)
      ∙ sym (more_by true (is_before plan.view note (drawn_before plan.view note e)))
  painted_before e (inr from) = let less = drawn_before plan.view note e in absurd (omega (arith, less, from, later))

  painted_took : (side : Side) → side_in plan.view note ≡ side → HasBegun plan time → painted (took_at side network plan note) ≡ one_more
  painted_took Before e begins = painted_before e begins
  painted_took Within e begins =
      fold-append painted_with plan.grounds plan.marks (mark_of network plan (moved plan.pen (moment note)) note ∷ [])
      ∙ sym (more_by true (is_told_kept plan.view note (drawn_kept plan.view note e)))
  painted_took Passed e begins =
      let over = passed_over plan.view note e in
      sym (more_by false (is_untold plan.view note over.0 over.1))
  painted_took Behind e begins = let past = drawn_behind plan.view note e in absurd (omega (arith, past, most))

  begins_before : side_in plan.view note ≡ Before → HasBegun plan time → HasBegun (took_at Before network plan note) (moment note)
  begins_before e (inl none) = inl none
  begins_before e (inr from) = inr (omega (arith, from, later))

  begins_took : (side : Side) → side_in plan.view note ≡ side → HasBegun plan time → HasBegun (took_at side network plan note) (moment note)
  begins_took Before e begins = begins_before e begins
  begins_took Within e begins = inr (drawn_within plan.view note e).0
  begins_took Passed e begins = inr (passed_over plan.view note e).0
  begins_took Behind e begins = let past = drawn_behind plan.view note e in absurd (omega (arith, past, most))

view_took : (network : Network) (plan : Plan) (note : Note) (side : Side) → (took_at side network plan note).view ≡ plan.view
view_took network plan note Before = refl
view_took network plan note Within = refl
view_took network plan note Passed = refl
view_took network plan note Behind = refl

painted_all : (network : Network) (plan : Plan) (notes : List Note) (time : ℕ) → NeverFall time notes → AreUpTo plan.view.span.to notes → HasBegun plan time
    → painted (plan_behind network plan notes) ≡ told_after network plan.view (painted plan) notes
painted_all network plan [] time falls most begins = refl
painted_all network plan (note ∷ notes) time falls most begins =
    let side = side_in plan.view note in
    let next = took network plan note in
    let view = view_took network plan note side in
    painted_all network next notes (moment note) falls.1
    (subst (λ (v : View). AreUpTo v.span.to notes) (sym view) most.1)
    (begins_took network plan note time falls.0 most.0 side refl begins)
    ∙ ap (λ (v : View). told_after network v (painted next) notes) view
    ∙ ap (λ (gs : List Ground). told_after network plan.view gs notes) (painted_took network plan note time falls.0 most.0 side refl begins)
    ∙ sym (told_more network plan.view (painted plan) note notes (is_told plan.view note) refl)

-- ---- what is drawn later

kept_took : (network : Network) (plan : Plan) (note : Note) (side : Side) → side_in plan.view note ≡ side → plan.view.span.from ≤ moment note
    → (took_at side network plan note).grounds ≡ plan.grounds
kept_took network plan note Before e from = let less = drawn_before plan.view note e in absurd (omega (arith, less, from))
kept_took network plan note Within e from = refl
kept_took network plan note Passed e from = refl
kept_took network plan note Behind e from = refl

grounds_kept : (network : Network) (plan : Plan) (notes : List Note) (time : ℕ) → NeverFall time notes → plan.view.span.from ≤ time
    → (plan_behind network plan notes).grounds ≡ plan.grounds
grounds_kept network plan [] time falls from = refl
grounds_kept network plan (note ∷ notes) time falls from =
    let side = side_in plan.view note in
    let first = falls.0 in
    let later : plan.view.span.from ≤ moment note = omega (arith, from, first) in
    grounds_kept network (took network plan note) notes (moment note) falls.1
    (subst (λ (v : View). v.span.from ≤ moment note) (sym (view_took network plan note side)) later)
    ∙ kept_took network plan note side refl later

pub view_behind : (network : Network) (plan : Plan) (notes : List Note) → (plan_behind network plan notes).view ≡ plan.view
view_behind network plan [] = refl
view_behind network plan (note ∷ notes) = view_behind network (took network plan note) notes ∙ view_took network plan note (side_in plan.view note)

in_span : (side : Side) → is_within side ≡ true → side ≡ Within
in_span Before e = absurd cc
in_span Within e = refl
in_span Passed e = absurd cc
in_span Behind e = absurd cc

module _ (network : Network) (view : View) (front rest : List Note) (note : Note) (falls : NeverFall 0 (front ++ note ∷ rest)) (held : is_drawn view note
    ≡ true) where
  abbrev here : Plan
  here = plan_of network view (front ++ note ∷ [])

  abbrev whole : Plan
  whole = plan_of network view (front ++ note ∷ rest)

  later : whole ≡ plan_behind network here rest
  later = ap (plan_of network view) (sym (append_assoc front (note ∷ []) rest)) ∙ behind_both network (begun network view) (front ++ note ∷ []) rest

  both : (view.span.from ≤ moment note) × (moment note ≤ view.span.to)
  both = drawn_within view note (in_span (side_in view note) held)

  same_grounds : whole.grounds ≡ here.grounds
  same_grounds =
      ap (λ (p : Plan). p.grounds) later
      ∙ grounds_kept network here rest (moment note) (falls_rest front rest note 0 falls)
      (subst (λ (v : View). v.span.from ≤ moment note) (sym (view_behind network (begun network view) (front ++ note ∷ []))) both.0)

  first_marks : take (length (shown view (front ++ note ∷ []))) whole.marks ≡ here.marks
  first_marks =
      let before = taken_all network (begun network view) (front ++ note ∷ []) in
      let after = taken_all network here rest in
      let count : length (shown view (front ++ note ∷ [])) ≡ length here.marks =
      sym (ap length before.whole ∙ as_many network before.more (shown view (front ++ note ∷ [])) before.marks) in
      ap (λ (n : ℕ). take n whole.marks) count
      ∙ ap (λ (p : Plan). take (length here.marks) p.marks) later
      ∙ ap (λ (ms : List Mark). take (length here.marks) ms) after.whole
      ∙ take-append_seam here.marks after.more

  painted_here : painted here ≡ grounds_after network (told view (front ++ note ∷ []))
  painted_here =
      painted_all network (begun network view) (front ++ note ∷ []) 0 (falls_front front rest note 0 falls)
      (up_to_last front rest note 0 view.span.to falls both.1) (inl refl)

  lanes : fold painted_with whole.grounds (take (length (shown view (front ++ note ∷ []))) whole.marks) ≡ grounds_after network (told view (front ++ note ∷ []))
  lanes =
      ap (λ (gs : List Ground). fold painted_with gs (take (length (shown view (front ++ note ∷ []))) whole.marks)) same_grounds
      ∙ ap (λ (ms : List Mark). fold painted_with here.grounds ms) first_marks
      ∙ painted_here

pub lanes_are_states : LanesAreStates
lanes_are_states network view front rest note falls held = lanes network view front rest note falls held
