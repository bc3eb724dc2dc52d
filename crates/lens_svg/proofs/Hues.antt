-- The hue of a mark is that of its record, which is that of the record that it comes from.
use Rattle.lens_svg.proofs.Painting.{drawn_behind, drawn_within}
use Rattle.run_law.proofs.law.FirstDeliveries.{at_length}
use Rattle.lens_svg.specs.Laws.{HuesComeFromCauses, MarksHaveHues, NeverFall, NumbersFollow, hues_of}
use Rattle.lens_svg.specs.{Layout.moved, Plan.Plan, Sketching.{begun, hue_of, hues_with, mark_of, moment, plan_behind, side_in, took, took_at}}
use Rattle.lens_svg.specs.declared.{layout.Side.{Side, TheVariants.{Before, Behind, Passed, Within}}, mark.{Hue.Hue, Mark.Mark}}
use Rattle.{net_plan.specs.declared.network.Network.Network, run_law.specs.{declared.note.{Note.Note}, records.{Causes.cause_of, Order.IsIn}}}
use Rattle.std.proofs.Common.{◌++◌, ◌+◌, ◌-◌, ◌<◌, ◌∙◌, ◌∷◌, ◌≡◌, ◌≤◌, ◌⊎◌, Bool, List, None, Option, Some, [], ap, append_assoc, arith, false, inl, inr, length, length-append, refl, subst, suc, sym, true, zero, ℕ}
use Rattle.std.{proofs.lemmas.{Bool.Decides.nat_tests, List.{Sums.fold_push, append-nil}}, specs.Prelude.{◌==◌, if◌then◌else◌, slice_get, unwrap_or}}
use Rattle.lens_svg.specs.Bodies.{own_hue}

-- ---- lists

get_left : {X : Type 0} (xs ys : List X) (n : ℕ) → n < length xs → slice_get (xs ++ ys) n ≡ slice_get xs n
get_left [] ys n within = absurd (omega (arith, within))
get_left (x ∷ xs) ys zero within = refl
get_left (x ∷ xs) ys (suc n) within = get_left xs ys n (omega (arith, within))

-- ---- the hues of records

more_hues : (front : List Note) (note : Note) → hues_of (front ++ note ∷ []) ≡ hues_with (hues_of front) note.body
more_hues front note = fold_push (λ hues n. hues_with hues n.body) [] front note

-- those of more records begin with these
hues_begin : (front rest : List Note) → (more : List Hue) × (hues_of (front ++ rest) ≡ hues_of front ++ more)
hues_begin front [] = ([], ap hues_of (append-nil front) ∙ sym (append-nil (hues_of front)))
hues_begin front (note ∷ rest) =
    let later = hues_begin (front ++ note ∷ []) rest in
    let hue = hue_of (hues_of front) note.body in (
      hue ∷ later.0,
      ap hues_of (sym (append_assoc front (note ∷ []) rest))
          ∙ later.1
          ∙ ap (λ (hs : List Hue). hs ++ later.0) (more_hues front note)
          ∙ append_assoc (hues_of front) (hue ∷ []) later.0,
    )

hues_long : (front rest : List Note) → length (hues_of (front ++ rest)) ≡ length (hues_of front) + length rest
hues_long front [] =
    let same = ap (λ (ns : List Note). length (hues_of ns)) (append-nil front) in
    omega (arith, same)
hues_long front (note ∷ rest) =
    let later = hues_long (front ++ note ∷ []) rest in
    let more = ap length (more_hues front note) in
    let long = length-append (hues_of front) (hue_of (hues_of front) note.body ∷ []) in
    let same = ap (λ (ns : List Note). length (hues_of ns)) (append_assoc front (note ∷ []) rest) in
    omega (arith, later, more, long, same)

as_long : (notes : List Note) → length (hues_of notes) ≡ length notes
as_long notes = let long = hues_long [] notes in omega (arith, long)

-- the hue of a record stands where the record does
hue_at : (front rest : List Note) (note : Note) → slice_get (hues_of (front ++ note ∷ rest)) (length front) ≡ Some (hue_of (hues_of front) note.body)
hue_at front rest note =
    let begins = hues_begin (front ++ note ∷ []) rest in
    let hue = hue_of (hues_of front) note.body in
    let whole : hues_of (front ++ note ∷ rest) ≡ hues_of front ++ hue ∷ begins.0 =
    ap hues_of (sym (append_assoc front (note ∷ []) rest)) ∙ begins.1 ∙ ap (λ (hs : List Hue). hs ++ begins.0) (more_hues front note)
    ∙ append_assoc (hues_of front) (hue ∷ []) begins.0 in
    ap (λ (n : ℕ). slice_get (hues_of (front ++ note ∷ rest)) n) (sym (as_long front))
    ∙ ap (λ (hs : List Hue). slice_get hs (length (hues_of front))) whole
    ∙ at_length (hues_of front) begins.0 hue

-- and that of one before it
hue_before : (front rest : List Note) (n : ℕ) → n < length front → slice_get (hues_of (front ++ rest)) n ≡ slice_get (hues_of front) n
hue_before front rest n within =
    let begins = hues_begin front rest in
    let long = as_long front in
    ap (λ (hs : List Hue). slice_get hs n) begins.1 ∙ get_left (hues_of front) begins.0 n (omega (arith, within, long))

module _ (front rest : List Note) (note : Note) where
  own : cause_of note.body ≡ 0 → slice_get (hues_of (front ++ note ∷ rest)) (length front) ≡ Some (own_hue note.body)
  own none =
      let test : (cause_of note.body == 0) ≡ true = ap (λ (n : ℕ). n == 0) none in
      hue_at front rest note
      ∙ ap (λ (b : Bool). Some (if b then own_hue note.body else unwrap_or (slice_get (hues_of front) (cause_of note.body - 1)) (own_hue note.body))) test

  from_cause : 1 ≤ cause_of note.body → cause_of note.body ≤ length front
      → slice_get (hues_of (front ++ note ∷ rest)) (length front) ≡ slice_get (hues_of (front ++ note ∷ rest)) (cause_of note.body - 1)
  from_cause least most =
      let test : (cause_of note.body == 0) ≡ false = grind (arith, nat_tests, least) in
      let place : cause_of note.body - 1 < length front = omega (arith, least, most) in
      hue_at front rest note
      ∙ ap (λ (b : Bool). Some (if b then own_hue note.body else unwrap_or (slice_get (hues_of front) (cause_of note.body - 1)) (own_hue note.body))) test
      ∙ found (cause_of note.body - 1) (slice_get (hues_of front) (cause_of note.body - 1)) refl place
      ∙ sym (hue_before front (note ∷ rest) (cause_of note.body - 1) place)
    where
      found : (n : ℕ) (o : Option Hue) → slice_get (hues_of front) n ≡ o → n < length front → Some (unwrap_or o (own_hue note.body)) ≡ slice_get (hues_of front) n
      found n (Some hue) there within = sym there
      found n None there within = let long = as_long front in absurd (none_past (hues_of front) n there (omega (arith, within, long)))
        where
          none_past : (xs : List Hue) (k : ℕ) → slice_get xs k ≡ None → k < length xs → ⊥
          none_past [] k e w = absurd (omega (arith, w))
          none_past (x ∷ xs) zero e w = absurd cc
          none_past (x ∷ xs) (suc k) e w = none_past xs k e (omega (arith, w))

pub hues_come_from_causes : HuesComeFromCauses
hues_come_from_causes front rest note = record { own = own front rest note; cause = from_cause front rest note }

-- ---- the marks

-- the plan behind these first records has their hues, unless they have come past the picture
record HasHues (plan : Plan) (front : List Note) (time : ℕ) : Type 0 where
  pub hues : (plan.hues ≡ hues_of front) ⊎ (plan.view.span.to < time)
  pub marks : (mark : Mark) → IsIn mark plan.marks → slice_get (hues_of front) (mark.number - 1) ≡ Some mark.hue
  pub numbers : (mark : Mark) → IsIn mark plan.marks → (1 ≤ mark.number) × (mark.number ≤ length front)

in_more : (marks : List Mark) (last mark : Mark) → IsIn mark (marks ++ last ∷ []) → IsIn mark marks ⊎ (mark ≡ last)
in_more [] last mark (inl same) = inr same
in_more [] last mark (inr none) = absurd none
in_more (m ∷ marks) last mark (inl same) = inl (inl same)
in_more (m ∷ marks) last mark (inr i) = by (in_more marks last mark i)
  where
    by : IsIn mark marks ⊎ (mark ≡ last) → IsIn mark (m ∷ marks) ⊎ (mark ≡ last)
    by (inl j) = inl (inr j)
    by (inr same) = inr same

module _ (network : Network) (plan : Plan) (front : List Note) (note : Note) (time : ℕ) (number : note.number ≡ length front + 1)
    (later : time ≤ moment note) (h : HasHues plan front time) where
  -- what was there stays
  still : (mark : Mark) → IsIn mark plan.marks → slice_get (hues_of (front ++ note ∷ [])) (mark.number - 1) ≡ Some mark.hue
  still mark of =
      let n = h.numbers mark of in
      let least = n.0 in
      let most = n.1 in
      hue_before front (note ∷ []) (mark.number - 1) (omega (arith, least, most)) ∙ h.marks mark of

  counted : (mark : Mark) → IsIn mark plan.marks → (1 ≤ mark.number) × (mark.number ≤ length (front ++ note ∷ []))
  counted mark of =
      let n = h.numbers mark of in
      let most = n.1 in
      let long = length-append front (note ∷ []) in
      (n.0, omega (arith, most, long))

  hues_more : hues_with plan.hues note.body ≡ hues_of (front ++ note ∷ []) ⊎ (plan.view.span.to < moment note)
  hues_more = by h.hues
    where
      by : (plan.hues ≡ hues_of front) ⊎ (plan.view.span.to < time) → (hues_with plan.hues note.body ≡ hues_of (front ++ note ∷ [])) ⊎ (plan.view.span.to < moment note)
      by (inl same) = inl (ap (λ (hs : List Hue). hues_with hs note.body) same ∙ sym (more_hues front note))
      by (inr past) = inr (omega (arith, past, later))

  abbrev mark : Mark
  mark = mark_of network plan (moved plan.pen (moment note)) note

  here : side_in plan.view note ≡ Within → slice_get (hues_of (front ++ note ∷ [])) (mark.number - 1) ≡ Some mark.hue
  here e = by h.hues
    where
      by : (plan.hues ≡ hues_of front) ⊎ (plan.view.span.to < time) → slice_get (hues_of (front ++ note ∷ [])) (note.number - 1) ≡ Some (hue_of plan.hues note.body)
      by (inl same) =
          let place : note.number - 1 ≡ length front = omega (arith, number) in
          ap (λ (n : ℕ). slice_get (hues_of (front ++ note ∷ [])) n) place
          ∙ hue_at front [] note
          ∙ ap (λ (hs : List Hue). Some (hue_of hs note.body)) (sym same)
      by (inr past) = let most = (drawn_within plan.view note e).1 in absurd (omega (arith, past, later, most))

  hues_took : (side : Side) → side_in plan.view note ≡ side → HasHues (took_at side network plan note) (front ++ note ∷ []) (moment note)
  hues_took Before e = record { hues = hues_more; marks = still; numbers = counted }
  hues_took Within e = record {
    hues = hues_more;
    marks = λ m of. each m (in_more plan.marks mark m of);
    numbers = λ m of. each_number m (in_more plan.marks mark m of);
  }
    where
      each : (m : Mark) → IsIn m plan.marks ⊎ (m ≡ mark) → slice_get (hues_of (front ++ note ∷ [])) (m.number - 1) ≡ Some m.hue
      each m (inl i) = still m i
      each m (inr same) = rw same (here e)

      each_number : (m : Mark) → IsIn m plan.marks ⊎ (m ≡ mark) → (1 ≤ m.number) × (m.number ≤ length (front ++ note ∷ []))
      each_number m (inl i) = counted m i
      each_number m (inr same) =
          let long = length-append front (note ∷ []) in
          let is : m.number ≡ note.number = ap (λ (x : Mark). x.number) same in
          (omega (arith, is, number), omega (arith, is, number, long))
  hues_took Passed e = record { hues = hues_more; marks = still; numbers = counted }
  hues_took Behind e = record { hues = inr (drawn_behind plan.view note e); marks = still; numbers = counted }

hues_behind : (network : Network) (plan : Plan) (front rest : List Note) (time : ℕ) → NumbersFollow (length front + 1) rest → NeverFall time rest
    → HasHues plan front time
    → (mark : Mark) → IsIn mark (plan_behind network plan rest).marks → slice_get (hues_of (front ++ rest)) (mark.number - 1) ≡ Some mark.hue
hues_behind network plan front [] time numbers falls h mark of =
    ap (λ (ns : List Note). slice_get (hues_of ns) (mark.number - 1)) (append-nil front) ∙ h.marks mark of
hues_behind network plan front (note ∷ rest) time numbers falls h mark of =
    let long = length-append front (note ∷ []) in
    ap (λ (ns : List Note). slice_get (hues_of ns) (mark.number - 1)) (sym (append_assoc front (note ∷ []) rest))
    ∙ hues_behind network (took network plan note) (front ++ note ∷ []) rest (moment note)
    (subst (λ (n : ℕ). NumbersFollow (n + 1) rest) (sym long) numbers.1) falls.1
    (hues_took network plan front note time numbers.0 falls.0 h (side_in plan.view note) refl) mark of

pub marks_have_hues : MarksHaveHues
marks_have_hues network view notes numbers falls =
    hues_behind network (begun network view) [] notes 0 numbers falls
    (record { hues = inl refl; marks = λ mark of. absurd of; numbers = λ mark of. absurd of })
