-- A plan of messages is one, move by move, and so is why there is none.
use Rattle.std.proofs.{Math.Seq.take-length}
use Rattle.std.proofs.Common
use Common.{◌++◌, ◌+◌, ◌<◌, ◌∙◌, ◌∷◌, ◌≡◌, ◌≢◌, ◌≤◌, ◌⊎◌, List, None, Option, Some, [], ap, arith, get_or, inl, inr}
use Common.{length, map, refl, set, slice_get, subst, suc, sym, take, zero, ℕ}
use Rattle.std.proofs.lemmas.{Bool.cases_lt, Option.{get_or_from_slice_get, slice_get-get_or, slice_get_past}}
use Rattle.std.proofs.lemmas.List.{Elements.{All-cons, All-head, All-nil, All-tail}}
use Rattle.std.proofs.lemmas.List.{FromFn.{get_or-range_with_len, length-range_with_len}, get_or-take, get_or_default}
use Rattle.std.proofs.lemmas.List.{length-take, take_more}
use Rattle.std.proofs.lemmas.List.Sorted.{All-permutation, Contains-permutation, IsPermutation-sym, IsPermutation-trans}
use Rattle.std.specs.{List.{All, AllPairs, AllZip, Contains, Sorted.IsPermutation, range_with_len}}
use Rattle.std.specs.{Option.option_map_or}
use Rattle.lens_plan.proofs.Attempts.{behind_one, pairs_head, pairs_tail, way_one}
use Rattle.lens_plan.proofs.{Orders.{apart, order_moved}}
use Rattle.lens_plan.specs.{messages.Message.Message}
use Rattle.lens_plan.specs.declared.places.{best.Attempt.Attempt, filling.Misfit.Misfit}
use Rattle.lens_plan.specs.declared.places.{limits.Excess.{Excess, TheVariants.{Rows, RowsOf, VirtualLinks}}}
use Rattle.lens_plan.specs.declared.places.{offsets.Taken.Taken, placing.Placed.Placed, planning.NoPlan.NoPlan}
use Rattle.lens_plan.specs.declared.places.{scoring.Score.Score, ways.Hop.Hop}
use Rattle.lens_plan.specs.places.{Filling.{ArePlaced, IsFilling, IsMisfit, IsOrder, rows_of, taken_of}}
use Rattle.lens_plan.specs.places.{Fitting.{HasPlace, HavePlaces, IsAsked, IsBestBehind, IsUnfit}}
use Rattle.lens_plan.specs.places.{Moving.{ArePlanned, IsMoved, IsReached, IsUnplaced}}
use Rattle.lens_plan.specs.places.{Ordering.{ComesBefore, IsByRoom, room_of, with_first}, Planning.{IsNoPlan, IsPlan}}
use Rattle.lens_plan.specs.places.{Same.{IsSameAttempt, IsSameNoPlan}, There.{AreThere, taken_by}}
use Rattle.lens_plan.specs.places.Limits
use Limits.{AreHops, AreWays, IsCrowded, IsExcess, IsWithinLimits, once, rows_from, rows_wanted}
use Rattle.net_plan.specs.{Paths.IsTree, declared.{ids.DeviceId.DeviceId, network.Network.Network}}
use Rattle.schedule_tables.proofs.SlotLemmas.{one_entry}
use Rattle.tte_units.{proofs.general_lemmas.Lists.{got_within, some_at}}
use Rattle.tte_units.{specs.declared.frames.channel.Channel.TheVariants.{A, B}}
use Rattle.lens_plan.specs.declared.places.planning.NoPlan.TheVariants as plans

-- ---- one more message placed

placed_more : {network : Network} (ms : List Message) (attempts : List Attempt) (rows : List Taken)
    {now : List Taken} (order : List ℕ) (place : ℕ) {m : Message} {a : Attempt}
    → ArePlaced network ms attempts rows order now → slice_get ms place ≡ Some m → slice_get attempts place ≡ Some a
    → HasPlace network now m a → ArePlaced network ms attempts rows (order ++ place ∷ []) (now ++ rows_of network m a)
placed_more {network} ms attempts rows [] place {m} {a} same there at has =
    (m, a, there, at, subst (λ ts. HasPlace network ts m a) same has, ap (λ (ts : List Taken). ts ++ rows_of network m a) same)
placed_more {network} ms attempts rows {now} (first ∷ order) place {m} {a} (n, b, is, by, its, rest) there at has =
    (n, b, is, by, its, placed_more {network = network} ms attempts (rows ++ rows_of network n b) {now = now} order place {m = m} {a = a} rest there at has)

-- other attempts do not matter
placed_same : (network : Network) (ms : List Message) (old new : List Attempt) (rows now : List Taken) (order : List ℕ)
    → All (λ place. slice_get new place ≡ slice_get old place) order → ArePlaced network ms old rows order now → ArePlaced network ms new rows order now
placed_same network ms old new rows now [] same placed = placed
placed_same network ms old new rows now (place ∷ order) same (m, a, there, at, has, rest) = (
  m,
  a,
  there,
  All-head (λ p. slice_get new p ≡ slice_get old p) place order same ∙ at,
  has,
  placed_same network ms old new (rows ++ rows_of network m a) now order (All-tail (λ p. slice_get new p ≡ slice_get old p) place order same) rest,
)

-- ---- an attempt is set

set_here : (attempts : List Attempt) (place : ℕ) (a : Attempt) → place < length attempts → slice_get (set attempts place a) place ≡ Some a
set_here [] place a within = absurd (omega (arith, within))
set_here (b ∷ attempts) zero a within = refl
set_here (b ∷ attempts) (suc place) a within = set_here attempts place a (omega (arith, within))

set_elsewhere : (attempts : List Attempt) (place other : ℕ) (a : Attempt) → other ≢ place
    → slice_get (set attempts place a) other ≡ slice_get attempts other
set_elsewhere [] place other a not = refl
set_elsewhere (b ∷ attempts) zero zero a not = absurd (not refl)
set_elsewhere (b ∷ attempts) zero (suc other) a not = refl
set_elsewhere (b ∷ attempts) (suc place) zero a not = refl
set_elsewhere (b ∷ attempts) (suc place) (suc other) a not = set_elsewhere attempts place other a (λ same. not (ap suc same))

-- the message of this turn is placed behind those of the turns before
pub placed_next : {network : Network} (ms : List Message) (old new : List Attempt) (rows : List Taken)
    {now : List Taken} (taken : List Taken) (order : List ℕ) (turn place : ℕ) {m : Message} {a : Attempt}
    → IsOrder (length ms) order → turn < length order → place ≡ get_or order turn place → place < length old
    → ArePlaced network ms old rows (take turn order) now → slice_get ms place ≡ Some m → HasPlace network now m a
    → new ≡ set old place a → taken ≡ now ++ rows_of network m a
    → ArePlaced network ms new rows (take (turn + 1) order) taken
placed_next {network} ms old new rows {now} taken order turn place {m} {a} is within at here before there has made
    more =
    let earlier : All (λ p. slice_get (set old place a) p ≡ slice_get old p) (take turn order) =
    (λ k d less.
    let short = length-take turn order in
    let few : k < turn = omega (arith, less, short, within) in
    subst (λ (p : ℕ). slice_get (set old place a) p ≡ slice_get old p) (sym (get_or-take turn order k d few))
    (set_elsewhere old place (get_or order k d) a (λ same. apart (length ms) order is k turn d few within (same ∙ at ∙ get_or_default order turn place d within)))) in
    let next : take (turn + 1) order ≡ take turn order ++ place ∷ [] =
    take_more order turn place within ∙ ap (λ (p : ℕ). take turn order ++ p ∷ []) (sym at) in
    subst (λ bs. ArePlaced network ms bs rows (take (turn + 1) order) taken) (sym made)
    (subst (λ ts. ArePlaced network ms (set old place a) rows (take (turn + 1) order) ts) (sym more)
    (subst (λ xs. ArePlaced network ms (set old place a) rows xs (now ++ rows_of network m a)) (sym next)
    (placed_more ms (set old place a) rows (take turn order) place
    (placed_same network ms old (set old place a) rows now (take turn order) earlier before) there (set_here old place a here) has)))

-- a message of those that are asked is asked
pub asked_at : (network : Network) (ms : List Message) (place : ℕ) (m : Message) → All (IsAsked network) ms → slice_get ms place ≡ Some m → IsAsked network m
asked_at network ms place m all there =
    subst (IsAsked network) (get_or_from_slice_get ms place m m there) (all place m (got_within ms place m there))

-- ---- one more move

module _ (network : Network) (ms : List Message) (there : List Taken) where
  -- what a filling that found a misfit says, where its order was read from another list
  pub unfit_by : (seen order : List ℕ) (attempts : List Attempt) (found : Option Misfit) (misfit : Misfit)
      → seen ≡ order → found ≡ Some misfit → IsFilling network ms there seen attempts found
      → IsMisfit network ms there order misfit
  unfit_by seen order attempts found misfit same is filling =
      subst (λ o. IsMisfit network ms there o misfit) same
      (subst (IsFilling network ms there seen attempts) is filling)

  -- the message of the misfit's turn is at its place
  pub place_at_turn : {order : List ℕ} {misfit : Misfit} (unfit : IsMisfit network ms there order misfit) (d : ℕ)
      → get_or order misfit.turn d ≡ unfit.place
  place_at_turn {order} {misfit} unfit d = get_or_from_slice_get order misfit.turn unfit.place d unfit.here

  pub turn_within : {order : List ℕ} {misfit : Misfit} → IsMisfit network ms there order misfit
      → misfit.turn < length order
  turn_within {order} {misfit} unfit = got_within order misfit.turn unfit.place unfit.here

  pub reached_more : {moves : ℕ} {order : List ℕ} (new : List ℕ) {misfit : Misfit}
      → IsReached network ms there moves order → IsMisfit network ms there order misfit
      → new ≡ with_first misfit.turn (get_or order misfit.turn 0) order → IsReached network ms there (moves + 1) new
  reached_more {moves} {order} new {misfit} before unfit is = record {
    attempts = before.attempts;
    have = before.have;
    first = before.first;
    by_room = before.by_room;
    moved = subst (λ n. IsMoved network ms there before.first n new)
        (let e : suc moves ≡ moves + 1 = omega arith in e) (
          order,
          misfit,
          before.moved,
          (unfit, is ∙ ap (λ p. with_first misfit.turn p order) (place_at_turn unfit 0)),
        );
  }

  pub order_next : {order : List ℕ} (new : List ℕ) {misfit : Misfit} → IsOrder (length ms) order
      → IsMisfit network ms there order misfit → new ≡ with_first misfit.turn (get_or order misfit.turn 0) order
      → IsOrder (length ms) new
  order_next {order} new {misfit} is unfit made =
      let place = get_or order misfit.turn 0 in
      subst (IsOrder (length ms)) (sym made)
      (order_moved (length ms) order misfit.turn place is (turn_within unfit)
      (place_at_turn unfit 0 ∙ sym (place_at_turn unfit place)))

-- ---- a plan of messages is one: lists

abbrev found_or : {X : Type 0} → X → Option X → X
found_or d None = d
found_or d (Some x) = x

pub some_one : {X : Type 0} (o : Option X) (x y : X) → o ≡ Some x → o ≡ Some y → x ≡ y
some_one o x y one other = ap (found_or x) (sym one ∙ other)

same_lists : {X : Type 0} (xs ys : List X) → length xs ≡ length ys → ((k : ℕ) (x : X) → slice_get xs k ≡ Some x → slice_get ys k ≡ Some x) → xs ≡ ys
same_lists [] [] long same = refl
same_lists [] (y ∷ ys) long same = absurd (omega (arith, long))
same_lists (x ∷ xs) [] long same = absurd (omega (arith, long))
same_lists {X} (x ∷ xs) (y ∷ ys) long same =
    ap (λ (z : X). z ∷ xs) (some_one (Some y) x y (same 0 x refl) refl)
    ∙ ap (λ (zs : List X). y ∷ zs) (same_lists xs ys (omega (arith, long)) (λ k z found. same (suc k) z found))

there_of : {X : Type 0} (xs : List X) (k : ℕ) (d : X) → k < length xs → slice_get xs k ≡ Some (get_or xs k d)
there_of xs k d within = slice_get-get_or xs k d within

-- ---- the rows that are there

pub there_one : {network : Network} {one other : List Taken} → AreThere network one → AreThere network other
    → one ≡ other
there_one {network} {one} {other} are too =
    same_lists one other (are.counted ∙ sym too.counted)
    (λ k row found.
    let mine = are.each k row found in
    let long = are.counted in
    let size = too.counted in
    let within = got_within one k row found in
    let yours = too.each k (get_or other k row) (there_of other k row (omega (arith, long, size, within))) in
    let same : get_or other k row ≡ row = yours.2 ∙ ap taken_by (one_entry network k yours.0 mine.0 yours.1 mine.1) ∙ sym mine.2 in
    there_of other k row (omega (arith, long, size, within)) ∙ ap (λ (r : Taken). Some r) same)

-- ---- sorted orders

never_both : (attempts : List Attempt) (x y : ℕ) → ComesBefore attempts x y → ComesBefore attempts y x → ⊥
never_both attempts x y (inl one) (inl other) = omega (arith, one, other)
never_both attempts x y (inl one) (inr both) = let same = both.0 in omega (arith, one, same)
never_both attempts x y (inr both) (inl other) = let same = both.0 in omega (arith, other, same)
never_both attempts x y (inr one) (inr other) = let less = one.1 in let more = other.1 in omega (arith, less, more)

-- what is in a list is its first, or in the rest
pub in_rest : (x : ℕ) (xs : List ℕ) (z : ℕ) → Contains (x ∷ xs) z → (x ≡ z) ⊎ Contains xs z
in_rest x xs z (zero, within, is) = inl is
in_rest x xs z (suc k, within, is) = inr (k, omega (arith, within), is)

in_more : (x : ℕ) (xs : List ℕ) (z : ℕ) → Contains xs z → Contains (x ∷ xs) z
in_more x xs z (k, within, is) = (suc k, omega (arith, within), is)

module _ (attempts : List Attempt) where
  -- the first comes before what is in the rest
  first_before : (x : ℕ) (xs : List ℕ) (z : ℕ) → AllPairs (ComesBefore attempts) (x ∷ xs) → Contains xs z → ComesBefore attempts x z
  first_before x xs z pairs (k, within, is) = subst (ComesBefore attempts x) is (pairs_head (ComesBefore attempts) x xs pairs k z within)

  not_first : (x z : ℕ) (xs ys : List ℕ) → AllPairs (ComesBefore attempts) (x ∷ xs) → Contains xs z → (x ≡ z) ⊎ Contains ys z → Contains ys z
  not_first x z xs ys pairs mine (inl same) =
      let both = subst (ComesBefore attempts x) (sym same) (first_before x xs z pairs mine) in
      absurd (never_both attempts x x both both)
  not_first x z xs ys pairs mine (inr there) = there

  heads_one : (x y : ℕ) (xs ys : List ℕ) → AllPairs (ComesBefore attempts) (x ∷ xs) → AllPairs (ComesBefore attempts) (y ∷ ys)
      → (y ≡ x) ⊎ Contains ys x → (x ≡ y) ⊎ Contains xs y → x ≡ y
  heads_one x y xs ys one other (inl same) found = sym same
  heads_one x y xs ys one other (inr there) (inl same) = same
  heads_one x y xs ys one other (inr there) (inr here) = absurd (never_both attempts y x (first_before y ys x other there) (first_before x xs y one here))

  sorted_one : (xs ys : List ℕ) → AllPairs (ComesBefore attempts) xs → AllPairs (ComesBefore attempts) ys → ((z : ℕ) → Contains xs z → Contains ys z)
      → ((z : ℕ) → Contains ys z → Contains xs z) → xs ≡ ys
  sorted_one [] [] one other to from = refl
  sorted_one [] (y ∷ ys) one other to from = let found = from y (0, omega arith, refl) in let within = found.1 in absurd (omega (arith, within))
  sorted_one (x ∷ xs) [] one other to from = let found = to x (0, omega arith, refl) in let within = found.1 in absurd (omega (arith, within))
  sorted_one (x ∷ xs) (y ∷ ys) one other to from =
      let head : x ≡ y =
      heads_one x y xs ys one other (in_rest y ys x (to x (0, omega arith, refl))) (in_rest x xs y (from y (0, omega arith, refl))) in
      ap (λ (z : ℕ). z ∷ xs) head
      ∙ ap (λ (zs : List ℕ). y ∷ zs) (sorted_one xs ys (pairs_tail (ComesBefore attempts) x xs one) (pairs_tail (ComesBefore attempts) y ys other)
      (λ z mine. not_first x z xs ys one mine (subst (λ (w : ℕ). (w ≡ z) ⊎ Contains ys z) (sym head) (in_rest y ys z (to z (in_more x xs z mine)))))
      (λ z yours. not_first y z ys xs other yours (subst (λ (w : ℕ). (w ≡ z) ⊎ Contains xs z) head (in_rest x xs z (from z (in_more y ys z yours))))))

-- ---- the first attempts and their order

-- both have an attempt there, and they are the same
pub record AreSameAt (ones others : List Attempt) (place : ℕ) : Type 0 where
  pub one : Attempt
  pub other : Attempt
  pub here : slice_get ones place ≡ Some one
  pub there : slice_get others place ≡ Some other
  pub same : IsSameAttempt one other

firsts_one : {network : Network} {there : List Taken} {ms : List Message} {count : ℕ} {ones others : List Attempt}
    → IsTree network → HavePlaces network there ms count ones → HavePlaces network there ms count others → (k : ℕ)
    → k < count → AreSameAt ones others k
firsts_one {network} {there} {ms} {ones} {others} tree have also k within =
    let size = have.counted in
    let long = also.counted in
    let one = some_at ones k (omega (arith, size, within)) in
    let other = some_at others k (omega (arith, long, within)) in
    let mine = have.each k one.0 one.1 in
    let yours = also.each k other.0 other.1 in
    let message : yours.0 ≡ mine.0 = some_one (slice_get ms k) yours.0 mine.0 yours.1 mine.1 in
    record {
      one = one.0;
      other = other.0;
      here = one.1;
      there = other.1;
      same = behind_one network there mine.0 one.0 other.0 tree mine.2.best
          (subst (λ m. IsBestBehind network there m other.0) message yours.2.best);
    }

rooms_by : (one other : Option Attempt) (a b : Attempt) → one ≡ Some a → other ≡ Some b → a.score ≡ b.score
    → option_map_or (λ (c : Attempt). c.score.room) one 0 ≡ option_map_or (λ (c : Attempt). c.score.room) other 0
rooms_by one other a b here there same =
    ap (λ (o : Option Attempt). option_map_or (λ (c : Attempt). c.score.room) o 0) here ∙ ap (λ (s : Score). s.room) same
    ∙ ap (λ (o : Option Attempt). option_map_or (λ (c : Attempt). c.score.room) o 0) (sym there)

rooms_one : (ones others : List Attempt) (count : ℕ) → length ones ≡ count → length others ≡ count → ((k : ℕ) → k < count → AreSameAt ones others k)
    → (place : ℕ) → room_of ones place ≡ room_of others place
rooms_one ones others count size long same place =
    elim (cases_lt place count) [
      | inl within ↦
          let at = same place within in
          rooms_by (slice_get ones place) (slice_get others place) at.one at.other at.here at.there at.same.score
      | inr past ↦
          ap (λ (o : Option Attempt). option_map_or (λ (c : Attempt). c.score.room) o 0)
          (slice_get_past ones place (omega (arith, size, past)) ∙ sym (slice_get_past others place (omega (arith, long, past))))
    ]

before_same : (ones others : List Attempt) → ((place : ℕ) → room_of ones place ≡ room_of others place) → (x y : ℕ) → ComesBefore others x y
    → ComesBefore ones x y
before_same ones others same x y (inl less) = let a = same x in let b = same y in inl (omega (arith, less, a, b))
before_same ones others same x y (inr both) = let a = same x in let b = same y in let e = both.0 in inr (omega (arith, e, a, b), both.1)

order_one : {ones others : List Attempt} (count : ℕ) {xs ys : List ℕ} → length ones ≡ count → length others ≡ count
    → ((k : ℕ) → k < count → AreSameAt ones others k) → IsByRoom ones xs → IsByRoom others ys → xs ≡ ys
order_one {ones} {others} count {xs} {ys} size long same one other =
    let mine : IsPermutation (range_with_len 0 count) xs = subst (λ (n : ℕ). IsPermutation (range_with_len 0 n) xs) size one.all in
    let yours : IsPermutation (range_with_len 0 count) ys = subst (λ (n : ℕ). IsPermutation (range_with_len 0 n) ys) long other.all in
    let to = IsPermutation-trans xs (range_with_len 0 count) ys (IsPermutation-sym (range_with_len 0 count) xs mine) yours in
    let rooms = rooms_one ones others count size long same in
    sorted_one ones xs ys one.sorted
    (λ i j d less within. before_same ones others rooms (get_or ys i d) (get_or ys j d) (other.sorted i j d less within))
    (λ z. Contains-permutation xs ys z to) (λ z. Contains-permutation ys xs z (IsPermutation-sym xs ys to))

-- ---- placing in an order

rows_of_same : (network : Network) (m : Message) {a b : Attempt} → IsSameAttempt a b
    → rows_of network m a ≡ rows_of network m b
rows_of_same network m {a} {b} same =
    ap (λ f. map (taken_of network m f) a.placed.items) same.phase ∙ ap (λ (ps : List Placed). map (taken_of network m b.phase) ps) same.rows

pub record PlacedAlike (ones others : List Attempt) (order : List ℕ) (taken other : List Taken) : Type 0 where
  pub taken_is : taken ≡ other
  pub each : All (AreSameAt ones others) order

module _ (network : Network) (ms : List Message) (tree : IsTree network) where
  pub placed_one : (ones others : List Attempt) (rows : List Taken) (order : List ℕ) (taken other : List Taken)
      → ArePlaced network ms ones rows order taken → ArePlaced network ms others rows order other → PlacedAlike ones others order taken other
  placed_one ones others rows [] taken other one two = record { taken_is = one ∙ sym two; each = All-nil (AreSameAt ones others) }
  placed_one ones others rows (place ∷ order) taken other (m, a, there, at, has, rest) (n, b, also, too, have, more) =
      let message : n ≡ m = some_one (slice_get ms place) n m also there in
      let same = behind_one network rows m a b tree has.best (subst (λ x. IsBestBehind network rows x b) message have.best) in
      let taking : rows_of network n b ≡ rows_of network m a =
      ap (λ x. rows_of network x b) message ∙ sym (rows_of_same network m same) in
      let later = placed_one ones others (rows ++ rows_of network m a) order taken other rest
      (subst (λ (rs : List Taken). ArePlaced network ms others (rows ++ rs) order other) taking more) in
      record {
        taken_is = later.taken_is;
        each = All-cons (AreSameAt ones others) place order (record { one = a; other = b; here = at; there = too; same = same }) later.each;
      }

  -- the message of this turn has a place behind those of the turns before
  record HasTurn (attempts : List Attempt) (rows : List Taken) (order : List ℕ) (turn : ℕ) : Type 0 where
    pub taken : List Taken
    pub before : ArePlaced network ms attempts rows (take turn order) taken
    pub place : ℕ
    pub here : slice_get order turn ≡ Some place
    pub message : Message
    pub there : slice_get ms place ≡ Some message
    pub attempt : Attempt
    pub has : HasPlace network taken message attempt

  turn_of : (attempts : List Attempt) (rows : List Taken) (order : List ℕ) (n turn : ℕ) (taken : List Taken)
      → ArePlaced network ms attempts rows (take n order) taken → turn < n → turn < length order → HasTurn attempts rows order turn
  turn_of attempts rows [] n turn taken placed less within = absurd (omega (arith, within))
  turn_of attempts rows (place ∷ order) zero turn taken placed less within = absurd (omega (arith, less))
  turn_of attempts rows (place ∷ order) (suc n) zero taken (m, a, there, at, has, rest) less within = record {
    taken = rows;
    before = refl;
    place = place;
    here = refl;
    message = m;
    there = there;
    attempt = a;
    has = has;
  }
  turn_of attempts rows (place ∷ order) (suc n) (suc turn) taken (m, a, there, at, has, rest) less within =
      let later = turn_of attempts (rows ++ rows_of network m a) order n turn taken rest (omega (arith, less)) (omega (arith, within)) in
      record {
        taken = later.taken;
        before = (m, a, there, at, has, later.before);
        place = later.place;
        here = later.here;
        message = later.message;
        there = later.there;
        attempt = later.attempt;
        has = later.has;
      }

  -- it is no misfit
  clash : (attempts : List Attempt) (rows : List Taken) (order : List ℕ) (x : Misfit) → HasTurn attempts rows order x.turn
      → IsMisfit network ms rows order x → ⊥
  clash attempts rows order x turn misfit =
      let taken = (placed_one attempts misfit.attempts rows (take x.turn order) turn.taken misfit.taken turn.before misfit.before).taken_is in
      let place : turn.place ≡ misfit.place = some_one (slice_get order x.turn) turn.place misfit.place turn.here misfit.here in
      let message : turn.message ≡ misfit.message =
      some_one (slice_get ms misfit.place) turn.message misfit.message
      (subst (λ (p : ℕ). slice_get ms p ≡ Some turn.message) place turn.there) misfit.there in
      let same = behind_one network misfit.taken misfit.message turn.attempt x.attempt tree
      (subst (λ m. IsBestBehind network misfit.taken m turn.attempt) message
      (subst (λ ts. IsBestBehind network ts turn.message turn.attempt) taken turn.has.best)) misfit.best in
      let none = turn.has.fits in
      let some = misfit.short in
      let short : turn.attempt.score.short ≡ x.attempt.score.short = ap (λ (s : Score). s.short) same.score in
      omega (arith, none, some, short)

  no_earlier : (rows : List Taken) (order : List ℕ) (x y : Misfit) → IsMisfit network ms rows order x → IsMisfit network ms rows order y
      → x.turn < y.turn → ⊥
  no_earlier rows order x y one other less =
      clash other.attempts rows order x
      (turn_of other.attempts rows order y.turn x.turn other.taken other.before less (got_within order x.turn one.place one.here)) one

  pub turns_one : (rows : List Taken) (order : List ℕ) (x y : Misfit) → IsMisfit network ms rows order x → IsMisfit network ms rows order y → x.turn ≡ y.turn
  turns_one rows order x y one other =
      elim (cases_lt x.turn y.turn) [
        | inl less ↦ absurd (no_earlier rows order x y one other less)
        | inr ge ↦ elim (cases_lt y.turn x.turn) [
          | inl less ↦ absurd (no_earlier rows order y x other one less)
          | inr le ↦ omega (arith, ge, le)
        ]
      ]

  -- nor is there one where all have places
  pub all_placed : (attempts : List Attempt) (rows : List Taken) (order : List ℕ) (taken : List Taken) (x : Misfit)
      → ArePlaced network ms attempts rows order taken → IsMisfit network ms rows order x → ⊥
  all_placed attempts rows order taken x placed misfit =
      let within = got_within order x.turn misfit.place misfit.here in
      clash attempts rows order x
      (turn_of attempts rows order (length order) x.turn taken
      (subst (λ xs. ArePlaced network ms attempts rows xs taken) (sym (take-length order)) placed) within within) misfit

  -- ---- moves

  firsts_same : (rows : List Taken) (order : List ℕ) (x y : Misfit) (one : IsMisfit network ms rows order x) (other : IsMisfit network ms rows order y)
      → with_first x.turn one.place order ≡ with_first y.turn other.place order
  firsts_same rows order x y one other =
      let turn = turns_one rows order x y one other in
      let place : one.place ≡ other.place =
      some_one (slice_get order y.turn) one.place other.place (subst (λ (n : ℕ). slice_get order n ≡ Some one.place) turn one.here) other.here in
      ap (λ n. with_first n one.place order) turn ∙ ap (λ p. with_first y.turn p order) place

  firsts_moved : (rows : List Taken) (one other : List ℕ) (x y : Misfit) → one ≡ other → (mine : IsMisfit network ms rows one x)
      → (yours : IsMisfit network ms rows other y) → with_first x.turn mine.place one ≡ with_first y.turn yours.place other
  firsts_moved rows one other x y same =
      subst (λ os. (mine : IsMisfit network ms rows one x) → (yours : IsMisfit network ms rows os y) → with_first x.turn mine.place one ≡ with_first y.turn yours.place os) same
      (firsts_same rows one x y)

  pub moved_one : (rows : List Taken) (first : List ℕ) (moves : ℕ) (one other : List ℕ) → IsMoved network ms rows first moves one
      → IsMoved network ms rows first moves other → one ≡ other
  moved_one rows first zero one other is too = is ∙ sym too
  moved_one rows first (suc moves) one other (e, x, before, (unfit, is)) (f, y, earlier, (misfit, too)) =
      is ∙ firsts_moved rows e f x y (moved_one rows first moves e f before earlier) unfit misfit ∙ sym too

  -- where there are more moves there is a misfit
  pub misfit_of : (rows : List Taken) (first : List ℕ) (few many : ℕ) (one other : List ℕ) → few < many → IsMoved network ms rows first few one
      → IsMoved network ms rows first many other → (x : Misfit) × IsMisfit network ms rows one x
  misfit_of rows first few zero one other less is too = absurd (omega (arith, less))
  misfit_of rows first few (suc many) one other less is (e, x, before, (unfit, made)) =
      elim (cases_lt few many) [
        | inl lt ↦ misfit_of rows first few many one e lt is before
        | inr ge ↦
            let same : many ≡ few = omega (arith, less, ge) in (
              x,
              subst (λ os. IsMisfit network ms rows os x)
                  (moved_one rows first few e one (subst (λ n. IsMoved network ms rows first n e) same before) is) unfit,
            )
      ]

  pub order_kept : (rows : List Taken) (first : List ℕ) (moves count : ℕ) (order : List ℕ) → IsOrder count first
      → IsMoved network ms rows first moves order → IsOrder count order
  order_kept rows first zero count order all is = subst (IsOrder count) (sym is) all
  order_kept rows first (suc moves) count order all (e, x, before, (unfit, is)) =
      subst (IsOrder count) (sym is)
      (order_moved count e x.turn unfit.place (order_kept rows first moves count e all before) (got_within e x.turn unfit.place unfit.here)
      (sym (get_or_from_slice_get e x.turn unfit.place unfit.place unfit.here)))

  -- ---- plans

  firsts_of_reached : (there : List Taken) (n k : ℕ) (xs ys : List ℕ) (one : IsReached network ms there n xs) (other : IsReached network ms there k ys)
      → one.first ≡ other.first
  firsts_of_reached there n k xs ys one other =
      order_one (length ms) one.have.counted other.have.counted
      (firsts_one tree one.have other.have) one.by_room other.by_room

  pub moved_from : (there : List Taken) (n k : ℕ) (xs ys : List ℕ) (one : IsReached network ms there n xs) (other : IsReached network ms there k ys)
      → IsMoved network ms there one.first k ys
  moved_from there n k xs ys one other =
      subst (λ os. IsMoved network ms there os k ys) (sym (firsts_of_reached there n k xs ys one other)) other.moved

  not_fewer : (there : List Taken) (ones others : List Attempt) (one : ArePlanned network ms there ones) (other : ArePlanned network ms there others)
      → one.moves < other.moves → ⊥
  not_fewer there ones others one other less =
      let found = misfit_of there one.reached.first one.moves other.moves one.order other.order less one.reached.moved
      (moved_from there one.moves other.moves one.order other.order one.reached other.reached) in
      all_placed ones there one.order one.taken found.0 one.placed found.1

  moves_one : (there : List Taken) (ones others : List Attempt) (one : ArePlanned network ms there ones) (other : ArePlanned network ms there others)
      → one.moves ≡ other.moves
  moves_one there ones others one other =
      elim (cases_lt one.moves other.moves) [
        | inl less ↦ absurd (not_fewer there ones others one other less)
        | inr ge ↦ elim (cases_lt other.moves one.moves) [
          | inl less ↦ absurd (not_fewer there others ones other one less)
          | inr le ↦ omega (arith, ge, le)
        ]
      ]

  zip_at : (ones others : List Attempt) → length ones ≡ length others → ((k : ℕ) → k < length ones → AreSameAt ones others k) → AllZip IsSameAttempt ones others
  zip_at [] [] long same = tt
  zip_at [] (b ∷ others) long same = absurd (omega (arith, long))
  zip_at (a ∷ ones) [] long same = absurd (omega (arith, long))
  zip_at (a ∷ ones) (b ∷ others) long same =
      let head = same 0 (omega arith) in (
        subst (λ c. IsSameAttempt c b) (some_one (Some a) head.one a head.here refl)
            (subst (λ c. IsSameAttempt head.one c) (some_one (Some b) head.other b head.there refl) head.same),
        zip_at ones others (omega (arith, long))
            (λ k within.
            let at = same (suc k) (omega (arith, within)) in
            record { one = at.one; other = at.other; here = at.here; there = at.there; same = at.same }),
      )

  planned_one : (there : List Taken) (ones others : List Attempt) → ArePlanned network ms there ones → ArePlanned network ms there others
      → AllZip IsSameAttempt ones others
  planned_one there ones others one other =
      let moves = moves_one there ones others one other in
      let order : one.order ≡ other.order =
      moved_one there one.reached.first other.moves one.order other.order
      (subst (λ n. IsMoved network ms there one.reached.first n one.order) moves one.reached.moved)
      (moved_from there one.moves other.moves one.order other.order one.reached other.reached) in
      let alike = placed_one ones others there one.order one.taken other.taken one.placed
      (subst (λ os. ArePlaced network ms others there os other.taken) (sym order) other.placed) in
      let counted = one.counted in
      let long = other.counted in
      let size = one.reached.have.counted in
      let all : IsOrder (length ms) one.order =
      order_kept there one.reached.first one.moves (length ms) one.order (subst (λ n. IsOrder n one.reached.first) size one.reached.by_room.all)
      one.reached.moved in
      let each = All-permutation (AreSameAt ones others) one.order (range_with_len 0 (length ms))
      (IsPermutation-sym (range_with_len 0 (length ms)) one.order all) alike.each in
      zip_at ones others (omega (arith, counted, long))
      (λ k within.
      let few : k < length ms = omega (arith, within, counted) in
      let span = length-range_with_len 0 (length ms) in
      let is : get_or (range_with_len 0 (length ms)) k 0 ≡ k =
      get_or-range_with_len 0 (length ms) k 0 few ∙ (let e : 0 + k ≡ k = omega arith in e) in
      subst (AreSameAt ones others) is (each k 0 (omega (arith, few, span))))

pub plan_one : (network : Network) (ms : List Message) (ones others : List Attempt) → IsTree network → IsPlan network ms ones → IsPlan network ms others
    → AllZip IsSameAttempt ones others
plan_one network ms ones others tree (limits, (there, are, one)) (also, (seen, too, other)) =
    planned_one network ms tree there ones others one
    (subst (λ ts. ArePlanned network ms ts others) (there_one too are) other)

-- ---- why there is no plan is one, and there is none where there is a plan

module _ (network : Network) (tree : IsTree network) where
  -- ---- the hops are one

  ways_one : (sender : DeviceId) (receivers : List DeviceId) (hs is : List Hop) → AreWays network sender receivers hs
      → AreWays network sender receivers is → hs ≡ is
  ways_one sender [] hs is none also = none ∙ sym also
  ways_one sender (receiver ∷ receivers) hs is (a, b, rest, on_a, on_b, ways, same) (c, d, others, at_a, at_b, also, too) =
      same ∙ ap (λ (xs : List Hop). xs ++ (b ++ rest)) (way_one tree on_a at_a)
      ∙ ap (λ (xs : List Hop). c ++ (xs ++ rest)) (way_one tree on_b at_b)
      ∙ ap (λ (xs : List Hop). c ++ (d ++ xs)) (ways_one sender receivers rest others ways also) ∙ sym too

  hops_one : (ms : List Message) (hs is : List Hop) → AreHops network ms hs → AreHops network ms is → hs ≡ is
  hops_one [] hs is none also = none ∙ sym also
  hops_one (m ∷ ms) hs is (ways, rest, are, hops, same) (others, more, too, also, alike) =
      same ∙ ap (λ ws. once network ws ++ rest) (ways_one m.sender m.receivers ways others are too)
      ∙ ap (λ (xs : List Hop). once network others ++ xs) (hops_one ms rest more hops also) ∙ sym alike

  -- ---- limits

  module _ (ms : List Message) where
    no_excess : (excess : Excess) → IsExcess network ms excess → IsWithinLimits network ms → ⊥
    no_excess (VirtualLinks n) (is, more) within = let few = within.links in omega (arith, is, more, few)
    no_excess (Rows n) many within =
        let few = subst (λ hs. rows_wanted network hs ≤ 1024) (hops_one ms within.hops many.hops within.are many.are) within.rows in
        let is = many.wants_is in
        let more = many.more in
        omega (arith, is, more, few)
    no_excess (RowsOf device n) many within =
        let few = subst (λ hs. rows_from network hs device ≤ 256) (hops_one ms within.hops many.hops within.are many.are)
        (within.devices device many.crowded.there) in
        let is = many.crowded.wants_is in
        let more = many.crowded.more in
        omega (arith, is, more, few)

    -- no device before it is crowded
    not_before : (one other : List Hop) (device later : DeviceId) (n k : ℕ) → one ≡ other → IsCrowded network one device n
        → IsCrowded network other later k → device.0 < later.0 → ⊥
    not_before one other device later n k same crowded also less =
        let few = subst (λ hs. rows_from network hs device ≤ 256) (sym same) (also.first device less) in
        let is = crowded.wants_is in
        let more = crowded.more in
        omega (arith, is, more, few)

    devices_one : (one other : List Hop) (device later : DeviceId) (n k : ℕ) → one ≡ other → IsCrowded network one device n
        → IsCrowded network other later k → device.0 ≡ later.0
    devices_one one other device later n k same crowded also =
        elim (cases_lt device.0 later.0) [
          | inl less ↦ absurd (not_before one other device later n k same crowded also less)
          | inr ge ↦ elim (cases_lt later.0 device.0) [
            | inl less ↦ absurd (not_before other one later device k n (sym same) also crowded less)
            | inr le ↦ omega (arith, ge, le)
          ]
        ]

    crowded_one : (one other : List Hop) (device later : DeviceId) (n k : ℕ) → one ≡ other → IsCrowded network one device n
        → IsCrowded network other later k → RowsOf device n ≡ RowsOf later k
    crowded_one one other device later n k same crowded also =
        let id : device.0 ≡ later.0 = devices_one one other device later n k same crowded also in
        let count : n ≡ k =
        crowded.wants_is ∙ ap (λ hs. rows_from network hs device) same
        ∙ ap (λ (d : ℕ). rows_from network other (record { 0 = d })) id ∙ sym also.wants_is in
        ap (λ (d : ℕ). RowsOf (record { 0 = d }) n) id ∙ ap (λ (m : ℕ). RowsOf later m) count

    excess_one : (one other : Excess) → IsExcess network ms one → IsExcess network ms other → one ≡ other
    excess_one (VirtualLinks n) (VirtualLinks k) (is, more) (too, also) = ap (λ (m : ℕ). VirtualLinks m) (is ∙ sym too)
    excess_one (VirtualLinks n) (Rows k) (is, more) many = let few = many.links in absurd (omega (arith, is, more, few))
    excess_one (VirtualLinks n) (RowsOf device k) (is, more) many = let few = many.links in absurd (omega (arith, is, more, few))
    excess_one (Rows n) (VirtualLinks k) many (is, more) = let few = many.links in absurd (omega (arith, is, more, few))
    excess_one (RowsOf device n) (VirtualLinks k) many (is, more) = let few = many.links in absurd (omega (arith, is, more, few))
    excess_one (Rows n) (Rows k) many also =
        ap (λ (m : ℕ). Rows m) (many.wants_is ∙ ap (λ hs. rows_wanted network hs) (hops_one ms many.hops also.hops many.are also.are) ∙ sym also.wants_is)
    excess_one (Rows n) (RowsOf device k) many also =
        let few = subst (λ hs. rows_wanted network hs ≤ 1024) (hops_one ms also.hops many.hops also.are many.are) also.rows in
        let is = many.wants_is in
        let more = many.more in
        absurd (omega (arith, is, more, few))
    excess_one (RowsOf device k) (Rows n) also many =
        let few = subst (λ hs. rows_wanted network hs ≤ 1024) (hops_one ms also.hops many.hops also.are many.are) also.rows in
        let is = many.wants_is in
        let more = many.more in
        absurd (omega (arith, is, more, few))
    excess_one (RowsOf device n) (RowsOf later k) many also =
        crowded_one many.hops also.hops device later n k (hops_one ms many.hops also.hops many.are also.are) many.crowded also.crowded

    -- ---- behind the rows that are there

    -- a message that is short has no place there
    no_first : (there : List Taken) (count turn : ℕ) (attempts : List Attempt) (a : Attempt) → HavePlaces network there ms count attempts → turn < count
        → IsUnfit network there ms turn a → ⊥
    no_first there count turn attempts a have less unfit =
        let size = have.counted in
        let found = some_at attempts turn (omega (arith, size, less)) in
        let mine = have.each turn found.0 found.1 in
        let message : mine.0 ≡ unfit.message = some_one (slice_get ms turn) mine.0 unfit.message mine.1 unfit.there in
        let same = behind_one network there unfit.message found.0 a tree (subst (λ m. IsBestBehind network there m found.0) message mine.2.best)
        unfit.best in
        let none = mine.2.fits in
        let some = unfit.short in
        let short : found.0.score.short ≡ a.score.short = ap (λ (s : Score). s.short) same.score in
        omega (arith, none, some, short)

    unfit_turns : (there : List Taken) (turn other : ℕ) (a b : Attempt) → IsUnfit network there ms turn a → IsUnfit network there ms other b → turn ≡ other
    unfit_turns there turn other a b one two =
        elim (cases_lt turn other) [
          | inl less ↦ absurd (no_first there other turn two.attempts a two.before less one)
          | inr ge ↦ elim (cases_lt other turn) [
            | inl less ↦ absurd (no_first there turn other one.attempts b one.before less two)
            | inr le ↦ omega (arith, ge, le)
          ]
        ]

    unfit_one : (there : List Taken) (turn other : ℕ) (a b : Attempt) → IsUnfit network there ms turn a → IsUnfit network there ms other b
        → (turn ≡ other) × IsSameAttempt a b
    unfit_one there turn other a b one two =
        let same = unfit_turns there turn other a b one two in
        let message : one.message ≡ two.message =
        some_one (slice_get ms other) one.message two.message (subst (λ (n : ℕ). slice_get ms n ≡ Some one.message) same one.there) two.there in
        (same, behind_one network there two.message a b tree (subst (λ m. IsBestBehind network there m a) message one.best) two.best)

    no_reached : (there : List Taken) (moves turn : ℕ) (order : List ℕ) (a : Attempt) → IsReached network ms there moves order
        → IsUnfit network there ms turn a → ⊥
    no_reached there moves turn order a reached unfit =
        no_first there (length ms) turn reached.attempts a reached.have (got_within ms turn unfit.message unfit.there) unfit

    -- ---- in the orders

    misfits_one : (there : List Taken) (one other : List ℕ) (x y : Misfit) → one ≡ other → (mine : IsMisfit network ms there one x)
        → (yours : IsMisfit network ms there other y) → (mine.place ≡ yours.place) × IsSameAttempt x.attempt y.attempt
    misfits_one there one other x y same =
        subst (λ os. (mine : IsMisfit network ms there one x) → (yours : IsMisfit network ms there os y)
        → (mine.place ≡ yours.place) × IsSameAttempt x.attempt y.attempt) same
        (λ mine yours.
        let turn = turns_one network ms tree there one x y mine yours in
        let place : mine.place ≡ yours.place =
        some_one (slice_get one y.turn) mine.place yours.place (subst (λ (n : ℕ). slice_get one n ≡ Some mine.place) turn mine.here) yours.here in
        let message : mine.message ≡ yours.message =
        some_one (slice_get ms yours.place) mine.message yours.message (subst (λ (p : ℕ). slice_get ms p ≡ Some mine.message) place mine.there) yours.there in
        let taken : mine.taken ≡ yours.taken =
        (placed_one network ms tree mine.attempts yours.attempts there (take y.turn one) mine.taken yours.taken
        (subst (λ (n : ℕ). ArePlaced network ms mine.attempts there (take n one) mine.taken) turn mine.before) yours.before).taken_is in (
          place,
          behind_one network yours.taken yours.message x.attempt y.attempt tree
              (subst (λ m. IsBestBehind network yours.taken m x.attempt) message
              (subst (λ ts. IsBestBehind network ts mine.message x.attempt) taken mine.best)) yours.best,
        ))

    unplaced_one : (there : List Taken) (place other : ℕ) (a b : Attempt) → IsUnplaced network ms there place a → IsUnplaced network ms there other b
        → (place ≡ other) × IsSameAttempt a b
    unplaced_one there place other a b one two =
        let order : one.order ≡ two.order =
        moved_one network ms tree there one.reached.first 512 one.order two.order one.reached.moved
        (moved_from network ms tree there 512 512 one.order two.order one.reached two.reached) in
        let same = misfits_one there one.order two.order one.misfit two.misfit order one.unfit two.unfit in (
          one.place_is ∙ same.0 ∙ sym two.place_is,
          subst (λ c. IsSameAttempt c b) (sym one.attempt_is)
              (subst (λ c. IsSameAttempt one.misfit.attempt c) (sym two.attempt_is) same.1),
        )

    -- where all have places in some order, none is told in the last one
    no_unplaced : (there : List Taken) (attempts : List Attempt) (place : ℕ) (a : Attempt) → ArePlanned network ms there attempts
        → IsUnplaced network ms there place a → ⊥
    no_unplaced there attempts place a planned un =
        let moved = moved_from network ms tree there planned.moves 512 planned.order un.order planned.reached un.reached in
        elim (cases_lt planned.moves 512) [
          | inl less ↦
              let found = misfit_of network ms tree there planned.reached.first planned.moves 512 planned.order un.order less planned.reached.moved moved in
              all_placed network ms tree attempts there planned.order planned.taken found.0 planned.placed found.1
          | inr ge ↦
              let few = planned.few in
              let last : 512 ≡ planned.moves = omega (arith, few, ge) in
              let order : un.order ≡ planned.order =
              moved_one network ms tree there planned.reached.first planned.moves un.order planned.order
              (subst (λ n. IsMoved network ms there planned.reached.first n un.order) last moved) planned.reached.moved in
              all_placed network ms tree attempts there planned.order planned.taken un.misfit planned.placed
              (subst (λ os. IsMisfit network ms there os un.misfit) order un.unfit)
        ]

-- what is said of the rows that are there
at_there : {network : Network} {one other : List Taken} (Holds : List Taken → Type 0) → AreThere network one
    → AreThere network other → Holds other → Holds one
at_there Holds are too holds = subst Holds (there_one too are) holds

module _ (network : Network) (ms : List Message) where
  pub none_one : (one other : NoPlan) → IsTree network → IsNoPlan network ms one → IsNoPlan network ms other
      → IsSameNoPlan one other
  none_one plans.OutOfMemory other tree none also = tt
  none_one (plans.Excess e) plans.OutOfMemory tree none also = tt
  none_one (plans.Impossible p a) plans.OutOfMemory tree none also = tt
  none_one (plans.Unplaced p a) plans.OutOfMemory tree none also = tt
  none_one (plans.Excess e) (plans.Excess f) tree none also = excess_one network tree ms e f none also
  none_one (plans.Excess e) (plans.Impossible p a) tree none also = absurd (no_excess network tree ms e none also.0)
  none_one (plans.Excess e) (plans.Unplaced p a) tree none also = absurd (no_excess network tree ms e none also.0)
  none_one (plans.Impossible p a) (plans.Excess e) tree none also = absurd (no_excess network tree ms e also none.0)
  none_one (plans.Unplaced p a) (plans.Excess e) tree none also = absurd (no_excess network tree ms e also none.0)
  none_one (plans.Impossible p a) (plans.Impossible q b) tree (within, (there, are, unfit)) (too, (seen, also, other)) =
      unfit_one network tree ms there p q a b unfit
      (at_there (λ (ts : List Taken). IsUnfit network ts ms q b) are also other)
  none_one (plans.Impossible p a) (plans.Unplaced q b) tree (within, (there, are, unfit)) (too, (seen, also, un)) =
      let it = at_there (λ (ts : List Taken). IsUnplaced network ms ts q b) are also un in
      absurd (no_reached network tree ms there 512 p it.order a it.reached unfit)
  none_one (plans.Unplaced q b) (plans.Impossible p a) tree (too, (seen, also, un)) (within, (there, are, unfit)) =
      let it = at_there (λ (ts : List Taken). IsUnplaced network ms ts q b) are also un in
      absurd (no_reached network tree ms there 512 p it.order a it.reached unfit)
  none_one (plans.Unplaced p a) (plans.Unplaced q b) tree (within, (there, are, un)) (too, (seen, also, other)) =
      unplaced_one network tree ms there p q a b un
      (at_there (λ (ts : List Taken). IsUnplaced network ms ts q b) are also other)

  pub plan_or_none : (attempts : List Attempt) (why : NoPlan) → IsTree network → IsPlan network ms attempts
      → IsNoPlan network ms why → why ≡ plans.OutOfMemory
  plan_or_none attempts plans.OutOfMemory tree plan none = refl
  plan_or_none attempts (plans.Excess e) tree plan none = absurd (no_excess network tree ms e none plan.0)
  plan_or_none attempts (plans.Impossible p a) tree (within, (there, are, planned)) (too, (seen, also, unfit)) =
      let it = at_there (λ (ts : List Taken). IsUnfit network ts ms p a) are also unfit in
      absurd (no_reached network tree ms there planned.moves p planned.order a planned.reached it)
  plan_or_none attempts (plans.Unplaced p a) tree (within, (there, are, planned)) (too, (seen, also, un)) =
      let it = at_there (λ (ts : List Taken). IsUnplaced network ms ts p a) are also un in
      absurd (no_unplaced network tree ms there attempts p a planned it)
