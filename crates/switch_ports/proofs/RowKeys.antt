-- The order of the rows that leave a switch, and the keys of what they have still to dispatch.
use Rattle.std.{specs.{List.All, Prelude.{nat_eq, nat_lt}}}
use Rattle.std.proofs.{Common.{◌%◌, ◌≢◌, Global, Vec, replicate}}
use Rattle.std.proofs.lemmas.{Bool.{cases_eq, eq-eqb}}
use Rattle.std.proofs.lemmas.List.{Elements.{All-push, Contains-get_or, Contains-push}, ext_get_or, get_or-map}
use Rattle.std.proofs.lemmas.List.{get_or-replicate, get_or-set_other, get_or-set_same, get_or_default}
use Rattle.std.proofs.lemmas.List.{length-replicate, length-set, map-set}
use Rattle.device_rules.specs.least_key.Trees.{no_key}
use Rattle.schedule_tables.specs.Entries.{source_of}
use Rattle.switch_ports.proofs.{EachRow.all_each}
use Rattle.switch_ports.proofs.Words
use Words.{if◌then◌else◌, ◌*◌, ◌++◌, ◌+◌, ◌<◌, ◌==◌, ◌^◌, ◌∙◌, ◌∷◌, ◌≡◌, ◌≤◌, ◌⊎◌, AreChained, AreEach, AreLeaving}
use Words.{Bool, Changes, Contains, Contains-append_left, Departure, Departures, DeviceId, Entry, Held, IfSome, IsEntry}
use Words.{IsTakingAt, List, Network, None, Option, Precedes, RowId, Some, SwitchRow, [], amount_most, ap, arith}
use Words.{cases_Bool, dispatch_at, eqb-true, false, get_or, held_by, in_all, inl, inr, int_lt, ints, its_amount}
use Words.{length, length-map, map, option_and_then, option_map, option_map_or, refl, slice_get, slice_get-get_or}
use Words.{slice_set, subst, suc, sym, true, with_taking, zero, ℕ, ℤ}
use Rattle.switch_ports.specs.{Departing.{IsReady, IsReopeningAt, Sets, bound_of}}
use Rattle.switch_ports.specs.{declared.departures.TakenFrameAt.TakenFrameAt}
use Rattle.switch_ports.specs.Leaving
use Leaving.{AreKeys, HasRow, IsFirstOf, IsFit, IsFresh, IsHeldFit, IsLast, awaited_of, closed, dispatch_by, fresh_row}
use Leaving.{key_at, key_by, place_in, reopened, with_held}
use Rattle.tte_units.proofs.general_lemmas.Naturals.{below_next}

-- ---- the order of the rows that leave a switch: one row more

old_at : (rows : List Departure) (d : Departure) (k : ℕ) (e : Departure) → k < length rows → get_or (rows ++ d ∷ []) k e ≡ get_or rows k e
old_at (x ∷ rows) d zero e lt = refl
old_at (x ∷ rows) d (suc k) e lt = old_at rows d k e (omega (arith, lt))
old_at [] d k e lt = absurd (omega (arith, lt))

new_at : (rows : List Departure) (d e : Departure) → get_or (rows ++ d ∷ []) (length rows) e ≡ d
new_at [] d e = refl
new_at (x ∷ rows) d e = new_at rows d e

more_long : (rows : List Departure) (d : Departure) → length (rows ++ d ∷ []) ≡ length rows + 1
more_long [] d = refl
more_long (x ∷ rows) d = let h = more_long rows d in omega (arith, h)

module _ (rows : List Departure) (d : Departure) where
  last_kept : (vl bound : ℕ) (o : Option ℕ) → bound ≤ length rows → IsLast rows vl bound o
      → IsLast (rows ++ d ∷ []) vl bound o
  last_kept vl bound None le h = λ k e lt is.
      h k e lt (subst (λ (x : Departure). x.of.vl.0 ≡ vl) (old_at rows d k e (omega (arith, lt, le))) is)
  last_kept vl bound (Some place) le h = grind (arith, old_at)

  not_new : (vl k : ℕ) (e : Departure) → (d.of.vl.0 ≡ vl → ⊥)
      → (k < length rows → (get_or rows k e).of.vl.0 ≡ vl → ⊥) → k < length rows + 1
      → (get_or (rows ++ d ∷ []) k e).of.vl.0 ≡ vl → ⊥
  not_new vl k e other none lt is = elim (below_next k (length rows) lt) [
    | inl old ↦ none old (subst (λ (x : Departure). x.of.vl.0 ≡ vl) (old_at rows d k e old) is)
    | inr new ↦
        let here : get_or (rows ++ d ∷ []) k e ≡ d = ap (λ n. get_or (rows ++ d ∷ []) n e) new ∙ new_at rows d e in
        other (subst (λ (x : Departure). x.of.vl.0 ≡ vl) here is)
  ]

  last_other : (vl : ℕ) (o : Option ℕ) → (d.of.vl.0 ≡ vl → ⊥) → IsLast rows vl (length rows) o
      → IsLast (rows ++ d ∷ []) vl (length rows + 1) o
  last_other vl None other h = λ k e lt is. not_new vl k e other (λ old. h k e old) lt is
  last_other vl (Some place) other h = (
    (let lt = h.0 in omega (arith, lt)),
    λ e. subst (λ (x : Departure). x.of.vl.0 ≡ vl) (sym (old_at rows d place e h.0)) (h.1 e),
    λ k e more lt is. not_new vl k e other (λ old. h.2 k e more old) lt is,
  )

  last_new : IsLast (rows ++ d ∷ []) d.of.vl.0 (length rows + 1) (Some (length rows))
  last_new = grind (arith, new_at)

place_set : (lasts : List (Option ℕ)) (vl place : ℕ) → vl < length lasts → place_in (slice_set lasts vl (Some place)) vl ≡ Some place
place_set (x ∷ lasts) zero place lt = refl
place_set (x ∷ lasts) (suc vl) place lt = place_set lasts vl place (omega (arith, lt))
place_set [] vl place lt = absurd (omega (arith, lt))

place_kept : (lasts : List (Option ℕ)) (vl other : ℕ) (o : Option ℕ) → (other ≡ vl → ⊥) → place_in (slice_set lasts vl o) other ≡ place_in lasts other
place_kept [] vl other o apart = refl
place_kept (x ∷ lasts) zero zero o apart = absurd (apart refl)
place_kept (x ∷ lasts) zero (suc other) o apart = refl
place_kept (x ∷ lasts) (suc vl) zero o apart = refl
place_kept (x ∷ lasts) (suc vl) (suc other) o apart = place_kept lasts vl other o (λ e. apart (ap suc e))

pub chained_pushed : {rows : List Departure} {lasts : List (Option ℕ)} (d : Departure) → AreChained rows lasts
    → d.of.place ≡ length rows → d.of.before ≡ place_in lasts d.of.vl.0 → d.of.vl.0 < length lasts
    → ((k : ℕ) (e : Departure) → k < length rows → (get_or rows k e).of.row.0 < d.of.row.0)
    → AreChained (rows ++ d ∷ []) (slice_set lasts d.of.vl.0 (Some (length rows)))
chained_pushed {rows} {lasts} d h place before vl below = record {
  places = λ k e lt. elim (below_next k (length rows) (subst (λ n. k < n) (more_long rows d) lt)) [
    | inl old ↦ ap (λ (x : Departure). x.of.place) (old_at rows d k e old) ∙ h.places k e old
    | inr new ↦ subst (λ n. (get_or (rows ++ d ∷ []) n e).of.place ≡ n) (sym new) (ap (λ (x : Departure). x.of.place) (new_at rows d e) ∙ place)
  ];
  rise = λ j k e less lt. elim (below_next k (length rows) (subst (λ n. k < n) (more_long rows d) lt)) [
    | inl old ↦
        let first : j < length rows = omega (arith, less, old) in
        subst (λ (x : Departure). x.of.row.0 < (get_or (rows ++ d ∷ []) k e).of.row.0) (sym (old_at rows d j e first))
        (subst (λ (x : Departure). (get_or rows j e).of.row.0 < x.of.row.0) (sym (old_at rows d k e old)) (h.rise j k e less old))
    | inr new ↦
        let first : j < length rows = omega (arith, less, new) in
        let here : get_or (rows ++ d ∷ []) k e ≡ d = ap (λ n. get_or (rows ++ d ∷ []) n e) new ∙ new_at rows d e in
        subst (λ (x : Departure). x.of.row.0 < (get_or (rows ++ d ∷ []) k e).of.row.0) (sym (old_at rows d j e first))
        (subst (λ (x : Departure). (get_or rows j e).of.row.0 < x.of.row.0) (sym here) (below j e first))
  ];
  before = λ k e lt. elim (below_next k (length rows) (subst (λ n. k < n) (more_long rows d) lt)) [
    | inl old ↦
        subst (λ (x : Departure). IsLast (rows ++ d ∷ []) x.of.vl.0 k x.of.before) (sym (old_at rows d k e old))
        (last_kept rows d _ k _ (omega (arith, old)) (h.before k e old))
    | inr new ↦
        let here : get_or (rows ++ d ∷ []) k e ≡ d = ap (λ n. get_or (rows ++ d ∷ []) n e) new ∙ new_at rows d e in
        subst (λ (x : Departure). IsLast (rows ++ d ∷ []) x.of.vl.0 k x.of.before) (sym here)
        (subst (λ n. IsLast (rows ++ d ∷ []) d.of.vl.0 n d.of.before) (sym new)
        (subst (IsLast (rows ++ d ∷ []) d.of.vl.0 (length rows)) (sym before)
        (last_kept rows d d.of.vl.0 (length rows) (place_in lasts d.of.vl.0) (omega arith) (h.last d.of.vl.0))))
  ];
  last = λ v. subst (λ n. IsLast (rows ++ d ∷ []) v n (place_in (slice_set lasts d.of.vl.0 (Some (length rows))) v)) (sym (more_long rows d))
      (elim (cases_Bool (d.of.vl.0 == v)) [
        | inl y ↦
            let same : d.of.vl.0 ≡ v = eqb-true d.of.vl.0 v y in
            subst (λ n. IsLast (rows ++ d ∷ []) n (length rows + 1) (place_in (slice_set lasts d.of.vl.0 (Some (length rows))) n)) same
            (subst (IsLast (rows ++ d ∷ []) d.of.vl.0 (length rows + 1)) (sym (place_set lasts d.of.vl.0 (length rows) vl)) (last_new rows d))
        | inr n ↦
            let apart : d.of.vl.0 ≢ v = grind (arith, n) in
            subst (IsLast (rows ++ d ∷ []) v (length rows + 1)) (sym (place_kept lasts d.of.vl.0 v (Some (length rows)) (λ e. apart (sym e))))
            (last_other rows d v (place_in lasts v) apart (h.last v))
      ]);
}

-- ---- no row

none_in : {X : Type 0} (xs : List X) (vl : ℕ) → place_in (map (λ x. None) xs) vl ≡ None
none_in [] vl = refl
none_in (x ∷ xs) zero = refl
none_in (x ∷ xs) (suc vl) = none_in xs vl

pub leaving_none : (network : Network) (device : DeviceId) (lasts : List (Option ℕ)) → lasts ≡ map (λ vl. None) network.vl
    → AreLeaving network device 0 [] lasts
leaving_none network device lasts none = grind (arith, none_in, length, length-map)

-- ---- the rows of a network

row_up_to : {network : Network} (device : DeviceId) (row : RowId) (d : Departure) (rows : List Departure) {place : ℕ}
    {other : Entry} → ((place : ℕ) (e : Entry) → IsEntry network place e → source_of e ≡ device → place < row.0
    → HasRow rows place) → d.of.row ≡ row → IsEntry network place other → source_of other ≡ device
    → place < row.0 + 1 → HasRow (rows ++ d ∷ []) place
row_up_to device row d rows {place} {other} before own is leaves lt = elim (cases_Bool (place == row.0)) [
  | inl same ↦ (d, Contains-push rows d, ap (λ (r : RowId). r.0) own ∙ sym (eqb-true place row.0 same))
  | inr apart ↦
      let h = before place other is leaves (grind (arith, apart, lt)) in
      (h.0, Contains-append_left rows (d ∷ []) h.0 h.1, h.2)
]

below_more : (rows : List Departure) (d : Departure) (bound k : ℕ) (e : Departure)
    → ((k : ℕ) (e : Departure) → k < length rows → (get_or rows k e).of.row.0 < bound)
    → d.of.row.0 ≡ bound → k < length rows + 1 → (get_or (rows ++ d ∷ []) k e).of.row.0 < bound + 1
below_more rows d bound k e below own lt = elim (below_next k (length rows) lt) [
  | inl old ↦ let h = below k e old in subst (λ (x : Departure). x.of.row.0 < bound + 1) (sym (old_at rows d k e old)) (omega (arith, h))
  | inr new ↦
      let here : get_or (rows ++ d ∷ []) k e ≡ d = ap (λ n. get_or (rows ++ d ∷ []) n e) new ∙ new_at rows d e in
      subst (λ (x : Departure). x.of.row.0 < bound + 1) (sym here) (omega (arith, own))
]

-- one row more leaves the device
pub row_kept : {network : Network} {device : DeviceId} (row : RowId) {entry : Entry} (place : ℕ) (before : Option ℕ)
    {rows : List Departure} {lasts : List (Option ℕ)} → IsEntry network row.0 entry → source_of entry ≡ device
    → place ≡ length rows → before ≡ place_in lasts entry.row.vl.0 → entry.row.vl.0 < length lasts
    → AreLeaving network device row.0 rows lasts → AreLeaving network device (row.0 + 1)
    (rows ++ fresh_row place before row entry ∷ []) (slice_set lasts entry.row.vl.0 (Some place))
row_kept {network} {device} row {entry} place before {rows} {lasts} is leaves at last vl are =
    let d = fresh_row place before row entry in record {
      each = All-push (IsFresh network device) rows d are.each
          (record {
            of = record { entry = entry; is = is; leaves = leaves; kept = refl };
            place = (let few = are.few in omega (arith, at, few));
            held = refl;
            awaited = refl;
          });
      complete = λ k other here from lt. row_up_to device row d rows are.complete refl here from lt;
      chained = subst (λ n. AreChained (rows ++ d ∷ []) (slice_set lasts entry.row.vl.0 (Some n))) (sym at)
          (chained_pushed d are.chained at last vl are.below);
      below = λ k e lt. below_more rows d row.0 k e are.below refl (subst (λ n. k < n) (more_long rows d) lt);
      few = (let few = are.few in omega (arith, more_long rows d, few));
      vls = length-set lasts entry.row.vl.0 (Some place) ∙ are.vls;
    }

-- ---- each row by itself

same_of : {f : Departure → Departure} {old new : List Departure} (k : ℕ) (d : Departure) → AreEach f old new
    → ((d : Departure) → (f d).of ≡ d.of) → k < length old → (get_or new k d).of ≡ (get_or old k d).of
same_of {old} k d each of lt = ap (λ (x : Departure). x.of) (each.each k d lt) ∙ of (get_or old k d)

last_each : {f : Departure → Departure} {old new : List Departure} (vl bound : ℕ) (o : Option ℕ) → AreEach f old new
    → ((d : Departure) → (f d).of ≡ d.of) → bound ≤ length old → IsLast old vl bound o → IsLast new vl bound o
last_each vl bound None each of le h = λ k d lt is.
    h k d lt (ap (λ (x : SwitchRow). x.vl.0) (sym (same_of k d each of (omega (arith, lt, le)))) ∙ is)
last_each vl bound (Some place) each of le h = grind (arith, same_of)

-- the order stays
pub chained_each : {f : Departure → Departure} {old new : List Departure} {lasts : List (Option ℕ)}
    → AreEach f old new → ((d : Departure) → (f d).of ≡ d.of) → AreChained old lasts → AreChained new lasts
chained_each each of h = grind (arith, length, same_of, get_or, last_each)

-- rows of two places are two
pub distinct : {rows : List Departure} {lasts : List (Option ℕ)} (j k : ℕ) (d : Departure) → AreChained rows lasts
    → j < length rows → k < length rows → (get_or rows j d).of.row.0 ≡ (get_or rows k d).of.row.0 → j ≡ k
distinct j k d h a b e = grind (arith, cases_Bool)

-- ---- the keys of what the rows have still to dispatch, from row to row: rows in their ranges

pub awaited_fit : (changed : ℤ) (o : Option Held) → IfSome o IsHeldFit → IfSome (awaited_of changed o) IsHeldFit
awaited_fit changed None fit = tt
awaited_fit changed (Some held) fit = elim (cases_Bool (int_lt changed held.value.0)) [ inl y ↦ rw y fit | inr n ↦ rw n tt ]

held_fit : (length : ℕ) (of : SwitchRow) (cycle : ℕ) (at : ℤ) → cycle * length ≤ 2 ^ 62 → of.offset ≤ 2 ^ 40 → IfSome (held_by length of cycle at) IsHeldFit
held_fit length of cycle at a b = grind (arith, cases_Bool, int_lt, length, ints)

fit_with : (changed : ℤ) (o : Option Held) {d : Departure} → IfSome o IsHeldFit → IsFit d
    → IsFit (with_held changed o d)
fit_with changed o held fit = grind (arith, awaited_fit)

pub fit_taken : (length cycle : ℕ) (changed at : ℤ) {d : Departure} (b : Bool) → cycle * length ≤ 2 ^ 62 → IsFit d
    → IsFit (if b then with_held changed (held_by length d.of cycle at) d else d)
fit_taken length cycle changed at {d} true fits fit =
    fit_with changed (held_by length d.of cycle at) (held_fit length d.of cycle at fits fit.offset) fit
fit_taken length cycle changed at false fits fit = fit

pub fit_reopened : (changed : ℤ) {d : Departure} → IsFit d → IsFit (reopened changed d)
fit_reopened changed {d} fit = fit_with changed d.held fit.held fit

pub fit_closed : {d : Departure} (b : Bool) → IsFit d → IsFit (if b then record d { awaited = None } else d)
fit_closed true fit =
    record { offset = fit.offset; period = fit.period; link = fit.link; place = fit.place; held = fit.held; awaited = tt }
fit_closed false fit = fit

pub of_taken : (length cycle : ℕ) (changed at : ℤ) (d : Departure) (b : Bool) → (if b then with_held changed (held_by length d.of cycle at) d else d).of ≡ d.of
of_taken length cycle changed at d true = refl
of_taken length cycle changed at d false = refl

pub of_closed : (d : Departure) (b : Bool) → (if b then record d { awaited = None } else d).of ≡ d.of
of_closed d true = refl
of_closed d false = refl

-- rows that are changed one by one stay ready
pub ready_changed : {f : Departure → Departure} {old new : Departures} → Changes f old new
    → ((d : Departure) → (f d).of ≡ d.of) → ((d : Departure) → IsFit d → IsFit (f d)) → IsReady old → IsReady new
ready_changed {new} changes of fit ready = record {
  fit = all_each IsFit IsFit changes.rows fit ready.fit;
  chained = subst (λ (v : Vec (Option ℕ) Global). AreChained new.rows.items v.items) (sym changes.lasts)
      (chained_each changes.rows of ready.chained);
  keys = changes.keys;
}

-- ---- the first of all

no_departure : Departure
no_departure = grind arith

module _ (adjustment : ℤ) where
  -- a dispatch of no lesser key does not come before the other
  not_before : (a b : SwitchRow) (x y : Held) → IsHeldFit x → IsHeldFit y → a.link.0 < 2 ^ 32 → a.place < 2 ^ 32
      → b.link.0 < 2 ^ 32 → b.place < 2 ^ 32 → (b.row.0 < a.row.0 → b.place < a.place) → key_at a x ≤ key_at b y
      → Precedes (dispatch_at adjustment b y) (dispatch_at adjustment a x) → ⊥
  not_before a b x y fx fy la pa lb pb rise le (inl lt) =
      let ex = its_amount fx in let ey = its_amount fy in
      omega (arith, ints, la, pa, lb, pb, le, lt, ex, ey)
  not_before a b x y fx fy la pa lb pb rise le (inr (e, inl lt)) =
      let ex = its_amount fx in let ey = its_amount fy in
      omega (arith, ints, la, pa, lb, pb, le, lt, e, ex, ey)
  not_before a b x y fx fy la pa lb pb rise le (inr (e, inr (same, lt))) =
      let ex = its_amount fx in let ey = its_amount fy in
      let less = rise lt in omega (arith, ints, la, pa, lb, pb, le, same, less, e, ex, ey)

  -- a row whose key is that of none awaits none
  none_awaited : (of : SwitchRow) (o : Option Held) → IfSome o IsHeldFit → of.link.0 < 2 ^ 32 → of.place < 2 ^ 32
      → no_key ≤ option_map_or (key_at of) o no_key → option_map (dispatch_at adjustment of) o ≡ None
  none_awaited of None fit link place le = refl
  none_awaited of (Some held) fit link place le =
      let most = amount_most fit in absurd (omega (arith, link, place, le, most))

  -- no row awaits one
  all_none : (rows : List Departure) → All IsFit rows → All (λ key. no_key ≤ key) (map key_by rows)
      → All (λ d. dispatch_by adjustment d ≡ None) rows
  all_none rows fit late k d lt =
      let e = get_or rows k d in
      let is = fit k d lt in
      none_awaited e.of e.awaited is.awaited is.link is.place
      (subst (λ key. no_key ≤ key) (get_or-map key_by rows k d 0 lt)
      (late k 0 (omega (arith, lt, length-map rows key_by))))

  first_none : (rows : List Departure) (place : ℕ) (o : Option Departure)
      → All (λ d. dispatch_by adjustment d ≡ None) rows → slice_get rows place ≡ o
      → IsFirstOf adjustment rows (option_and_then (dispatch_by adjustment) o)
  first_none rows place None none e = none
  first_none rows place (Some d) none e =
      subst (IsFirstOf adjustment rows) (sym (in_all (λ d. dispatch_by adjustment d ≡ None) rows place d none e)) none

  -- the row of the least key dispatches first
  first_some : {rows : List Departure} {lasts : List (Option ℕ)} (k : ℕ) (d : Departure) (held : Held)
      → All IsFit rows → AreChained rows lasts → k < length rows → get_or rows k no_departure ≡ d
      → d.awaited ≡ Some held → All (λ key. key_at d.of held ≤ key) (map key_by rows)
      → IsFirstOf adjustment rows (Some (dispatch_at adjustment d.of held))
  first_some {rows} k d held fit chained lt at awaits least = (
    (d, subst (Contains rows) at (Contains-get_or rows k no_departure lt), ap (option_map (dispatch_at adjustment d.of)) awaits),
    λ j e inside. late (get_or rows j e) (get_or rows j e).awaited (fit j e inside) refl
        (subst (λ key. key_at d.of held ≤ key) (get_or-map key_by rows j e 0 inside)
        (least j 0 (omega (arith, inside, length-map rows key_by))))
        (λ below. elim (cases_Bool (nat_lt j k)) [
          | inl y ↦
              let less : j < k = grind (arith, y) in
              omega (arith, less, chained.places j e inside, ap (λ (x : Departure). x.of.place) (sym at) ∙ chained.places k no_departure lt)
          | inr n ↦ absurd (elim (cases_eq k j) [
            | inl same ↦
                let one : get_or rows j e ≡ d =
                ap (λ (n : ℕ). get_or rows n e) (sym same) ∙ get_or_default rows k e no_departure lt ∙ at in
                omega (arith, below, ap (λ (x : Departure). x.of.row.0) one)
            | inr apart ↦
                let after : k < j = grind (arith, n, apart) in
                let more = chained.rise k j e after inside in
                omega (arith, below, more, ap (λ (x : Departure). x.of.row.0) (get_or_default rows k e no_departure lt ∙ at))
          ])
        ]),
  )
    where
      own : IsFit d
      own = subst IsFit at (fit k no_departure lt)

      own_held : IsHeldFit held
      own_held = subst (λ o. IfSome o IsHeldFit) awaits own.awaited

      late : (e : Departure) (o : Option Held) → IsFit e → e.awaited ≡ o → key_at d.of held ≤ key_by e
          → (e.of.row.0 < d.of.row.0 → e.of.place < d.of.place)
          → IfSome (option_map (dispatch_at adjustment e.of) o)
          (λ other. Precedes other (dispatch_at adjustment d.of held) → ⊥)
      late e None is awaits le rise = tt
      late e (Some other) is awaits le rise =
          not_before d.of e.of held other own_held (subst (λ o. IfSome o IsHeldFit) awaits is.awaited) own.link
          own.place is.link is.place rise
          (subst (λ o. key_at d.of held ≤ option_map_or (key_at e.of) o no_key) awaits le)

  first_at : {rows : List Departure} {lasts : List (Option ℕ)} (key k : ℕ) (d : Departure) (o : Option Held)
      → All IsFit rows → AreChained rows lasts → All (λ other. key ≤ other) (map key_by rows) → k < length rows
      → get_or rows k no_departure ≡ d → d.awaited ≡ o → key_by d ≡ key
      → IsFirstOf adjustment rows (option_and_then (dispatch_by adjustment) (slice_get rows (key % 2 ^ 64 % 2 ^ 32)))
  first_at {rows} key k d None fit chained least lt at awaits is =
      let none : no_key ≡ key = ap (λ o. option_map_or (key_at d.of) o no_key) (sym awaits) ∙ is in
      first_none rows _ _ (all_none rows fit (subst (λ n. All (λ other. n ≤ other) (map key_by rows)) (sym none)
      least)) refl
  first_at {rows} key k d (Some held) fit chained least lt at awaits is =
      let here : key_at d.of held ≡ key = ap (λ o. option_map_or (key_at d.of) o no_key) (sym awaits) ∙ is in
      let own : IsFit d = subst IsFit at (fit k no_departure lt) in
      let place : key % 2 ^ 64 % 2 ^ 32 ≡ k =
      let a = own.link in let b = own.place in
      omega (arith, a, b, here, ap (λ (x : Departure). x.of.place) (sym at) ∙ chained.places k no_departure lt) in
      let there : slice_get rows (key % 2 ^ 64 % 2 ^ 32) ≡ Some d =
      ap (slice_get rows) place ∙ slice_get-get_or rows k no_departure lt ∙ ap Some at in
      subst (λ o. IsFirstOf adjustment rows (option_and_then (dispatch_by adjustment) o)) (sym there)
      (subst (IsFirstOf adjustment rows) (sym (ap (option_map (dispatch_at adjustment d.of)) awaits))
      (first_some k d held fit chained lt at awaits
      (subst (λ n. All (λ other. n ≤ other) (map key_by rows)) (sym here) least)))

  pub first_of : {ds : Departures} (key : ℕ) → IsReady ds → All (λ other. key ≤ other) ds.keys
      → (key ≡ no_key) ⊎ Contains ds.keys key → IsFirstOf adjustment ds.rows.items
      (option_and_then (dispatch_by adjustment) (slice_get ds.rows.items (key % 2 ^ 64 % 2 ^ 32)))
  first_of {ds} key ready least (inl none) =
      first_none ds.rows.items _ _ (all_none ds.rows.items ready.fit
      (subst (λ keys. All (λ other. no_key ≤ other) keys) ready.keys
      (subst (λ n. All (λ other. n ≤ other) ds.keys) none least))) refl
  first_of {ds} key ready least (inr (k, lt, at)) =
      let inside : k < length ds.rows.items =
      omega (arith, lt, ap (λ keys. length keys) ready.keys, length-map ds.rows.items key_by) in
      first_at key k (get_or ds.rows.items k no_departure) (get_or ds.rows.items k no_departure).awaited ready.fit
      ready.chained (subst (λ keys. All (λ other. key ≤ other) keys) ready.keys least) inside refl refl
      (sym (get_or-map key_by ds.rows.items k no_departure key inside) ∙ ap (λ (keys : List ℕ). get_or keys k key)
      (sym ready.keys) ∙ at)

no_key_of : (of : SwitchRow) (o : Option Held) → o ≡ None → option_map_or (key_at of) o no_key ≡ no_key
no_key_of of o none = ap (λ (x : Option Held). option_map_or (key_at of) x no_key) none

-- rows of which no frame has been taken have no keys
pub fresh_keys : (rows : List Departure) → All (λ d. d.awaited ≡ None) rows → AreKeys rows (replicate (length rows) no_key)
fresh_keys rows none =
    ext_get_or 0 (replicate (length rows) no_key) (map key_by rows) (length-replicate (length rows) no_key ∙ sym (length-map rows key_by))
    (λ k lt.
    let inside : k < length rows = omega (arith, lt, length-replicate (length rows) no_key) in
    get_or-replicate (length rows) k no_key 0 inside ∙ sym (no_key_of (get_or rows k no_departure).of (get_or rows k no_departure).awaited
    (none k no_departure inside)) ∙ sym (get_or-map key_by rows k no_departure 0 inside))

-- ---- one departure is another

pub set_long : {place : ℕ} {d : Departure} {old new : Departures} → Sets place d old new
    → length new.rows.items ≡ length old.rows.items
set_long {place} {d} {old} h = ap (λ ds. length ds) h.rows ∙ length-set old.rows.items place d

set_here : {place : ℕ} {d : Departure} (e : Departure) {old new : Departures} → Sets place d old new
    → place < length old.rows.items → get_or new.rows.items place e ≡ d
set_here {place} {d} e {old} h lt =
    ap (λ (ds : List Departure). get_or ds place e) h.rows ∙ get_or-set_same old.rows.items place d e lt

set_other : {place : ℕ} (k : ℕ) {d : Departure} (e : Departure) {old new : Departures} → Sets place d old new
    → k ≢ place → get_or new.rows.items k e ≡ get_or old.rows.items k e
set_other {place} k {d} e {old} h apart =
    ap (λ (ds : List Departure). get_or ds k e) h.rows ∙ get_or-set_other old.rows.items place k d e apart

-- its key is set with it
keys_set : {place : ℕ} {d : Departure} {old new : Departures} → Sets place d old new
    → AreKeys old.rows.items old.keys → AreKeys new.rows.items new.keys
keys_set {place} {d} {old} h are =
    h.keys ∙ ap (λ (keys : List ℕ). slice_set keys place (key_by d)) are ∙ sym (map-set key_by old.rows.items place d) ∙ ap (map key_by) (sym h.rows)

-- the row whose dispatch has come awaits none
pub closes : {place : ℕ} (d : Departure) {old new : Departures} → IsReady old → place < length old.rows.items
    → d ≡ get_or old.rows.items place d → Sets place (record d { awaited = None }) old new
    → Changes (closed place) old new
closes {place} d {old} {new} ready inside is sets = record {
  rows = record {
    count = set_long sets;
    each = λ k e lt. elim (cases_Bool (nat_eq k place)) [
      | inl y ↦
          let same : k ≡ place = grind (arith, y) in
          let own : (d.of.place == place) ≡ true = eq-eqb d.of.place place (ap (λ (x : Departure). x.of.place) is ∙ ready.chained.places place d inside) in
          let here : closed place d ≡ record d { awaited = None } = rw own refl in
          let was : get_or old.rows.items place e ≡ d = get_or_default old.rows.items place e d inside ∙ sym is in
          subst (λ n. get_or new.rows.items n e ≡ closed place (get_or old.rows.items n e)) (sym same)
          (set_here e sets inside ∙ sym here ∙ ap (closed place) (sym was))
      | inr n ↦
          let apart : k ≢ place = grind (arith, n) in
          let other : ((get_or old.rows.items k e).of.place == place) ≡ false = rw (ready.chained.places k e lt) n in
          set_other k e sets apart ∙ sym (kept_open place (get_or old.rows.items k e) other)
    ];
  };
  lasts = sets.lasts;
  keys = keys_set sets ready.keys;
}
  where
    kept_open : (place : ℕ) (d : Departure) → (d.of.place == place) ≡ false → closed place d ≡ d
    kept_open place d n = rw n refl

-- ---- the rows from the first one up

-- one more is done
pub reopening_on : {f : Departure → Departure} {place : ℕ} (d : Departure) {old mid new : Departures}
    → place < length old.rows.items → IsReopeningAt f place old mid → d ≡ get_or mid.rows.items place d
    → Sets place (f d) mid new → IsReopeningAt f (place + 1) old new
reopening_on d inside h is sets =
    grind (arith, set_long, cases_Bool, get_or, get_or_default, set_here, set_other, keys_set, length)

-- ---- the rows of a virtual link, from the last one down

rest_below : (at : Option ℕ) (vl place k : ℕ) (rows : List Departure) → IsLast rows vl place at → k < bound_of at → k < place
rest_below None vl place k rows link less = absurd (omega (arith, less))
rest_below (Some m) vl place k rows link less = let lt = link.0 in omega (arith, lt, less)

next_by : (at : Option ℕ) (vl place : ℕ) (rows : List Departure) → place < length rows → IsLast rows vl place at
    → IfSome at (λ m. (m < length rows) × ((d : Departure) → (get_or rows m d).of.vl.0 ≡ vl))
next_by None vl place rows inside link = tt
next_by (Some m) vl place rows inside link = ((let lt = link.0 in omega (arith, lt, inside)), link.1)

skipped : (at : Option ℕ) (vl place k : ℕ) (rows : List Departure) (d : Departure) → IsLast rows vl place at → bound_of at ≤ k → k < place
    → (get_or rows k d).of.vl.0 ≡ vl → ⊥
skipped None vl place k rows d link from lt is = link k d lt is
skipped (Some m) vl place k rows d link from lt is = link.2 k d (omega (arith, from)) lt is

taken_at : {f : Departure → Departure} {vl place : ℕ} (k : ℕ) {old mid new : Departures} (e d : Departure)
    (at : Option ℕ) → ((d : Departure) → (d.of.vl.0 ≡ vl → ⊥) → f d ≡ d) → IsTakingAt f vl (Some place) old mid
    → Sets place (f (get_or mid.rows.items place e)) mid new
    → get_or mid.rows.items place e ≡ get_or old.rows.items place e → place < length mid.rows.items
    → IsLast old.rows.items vl place at → bound_of at ≤ k → k < length old.rows.items
    → get_or new.rows.items k d ≡ f (get_or old.rows.items k d)
taken_at k e d at other h sets was inside link from lt =
    grind (arith, cases_Bool, get_or, set_here, get_or_default, set_other, skipped)

module _ (f : Departure → Departure) (vl place : ℕ) (old mid new : Departures) (e : Departure) where
  taking_by : (at : Option ℕ) → ((d : Departure) → (d.of.vl.0 ≡ vl → ⊥) → f d ≡ d)
      → IsTakingAt f vl (Some place) old mid → Sets place (f (get_or mid.rows.items place e)) mid new
      → get_or mid.rows.items place e ≡ get_or old.rows.items place e → place < length mid.rows.items
      → IsLast old.rows.items vl place at → IsTakingAt f vl at old new
  taking_by at other h sets was inside link =
      grind (arith, set_long, taken_at, rest_below, set_other, next_by, keys_set)

  -- one of them is done
  pub taking_on : AreChained old.rows.items old.lasts.items → ((d : Departure) → (d.of.vl.0 ≡ vl → ⊥) → f d ≡ d)
      → IsTakingAt f vl (Some place) old mid → e ≡ get_or mid.rows.items place e
      → Sets place (f (get_or mid.rows.items place e)) mid new → IsTakingAt f vl e.of.before old new
  taking_on chained other h is sets =
      let inside = h.next.0 in
      let was : get_or mid.rows.items place e ≡ get_or old.rows.items place e =
      h.rows.rest place e (omega arith) inside in
      let mid_inside : place < length mid.rows.items = subst (λ n. place < n) (sym h.rows.count) inside in
      let link : IsLast old.rows.items vl place (get_or mid.rows.items place e).of.before =
      subst (λ (x : Departure). IsLast old.rows.items vl place x.of.before) (sym was)
      (subst (λ n. IsLast old.rows.items n place (get_or old.rows.items place e).of.before) (h.next.1 e)
      (chained.before place e inside)) in
      subst (λ (d : Departure). IsTakingAt f vl d.of.before old new) (sym is)
      (taking_by (get_or mid.rows.items place e).of.before other h sets was mid_inside link)

-- all are done
pub taken_all : {f : Departure → Departure} {vl : ℕ} {old new : Departures} → IsTakingAt f vl None old new
    → Changes f old new
taken_all h =
    record { rows = record { count = h.rows.count; each = λ k d lt. h.rows.done k d (omega arith) lt }; lasts = h.lasts; keys = h.keys }

module _ (length : ℕ) (changed : ℤ) (taking : TakenFrameAt) (d : Departure) where
  -- a frame of another virtual link changes nothing
  pub other_same : (d.of.vl.0 ≡ taking.vl.0 → ⊥) → with_taking length changed taking d ≡ d
  other_same other = grind (arith, cases_Bool, eqb-true)

  -- and one of its own is kept
  pub mine_held : d.of.vl.0 ≡ taking.vl.0 → with_taking length changed taking d
      ≡ with_held changed (held_by length d.of taking.cycle taking.at.0) d
  mine_held same = let y : (d.of.vl.0 == taking.vl.0) ≡ true = grind (arith, same) in rw y refl

-- the row that is next is of the virtual link
pub own_row : {f : Departure → Departure} {vl : ℕ} (place : ℕ) {old mid : Departures} (d : Departure)
    → IsTakingAt f vl (Some place) old mid → d ≡ get_or mid.rows.items place d → d.of.vl.0 ≡ vl
own_row place d h is = ap (λ (x : Departure). x.of.vl.0) (is ∙ h.rows.rest place d (omega arith) h.next.0) ∙ h.next.1 d
