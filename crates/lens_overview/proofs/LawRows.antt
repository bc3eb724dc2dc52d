-- The rows of a picture: their columns, and what records of deliveries make of a frame's shade.
use Rattle.std.{specs.Prelude.{◌&&◌, ◌==◌, max, nat_lt, slice_get, slice_set, unwrap_or}}
use Rattle.std.proofs.Common
use Common.{if◌then◌else◌, ◌*◌, ◌++◌, ◌+◌, ◌-◌, ◌/◌, ◌<◌, ◌∙◌, ◌∷◌, ◌≡◌, ◌≤◌, ◌⊎◌, Bool, List, None, Option, Some, []}
use Common.{ap, arith, drop, false, fold, get_or, inl, inr, length, length-append, length-drop, length-take, refl}
use Common.{replicate, subst, suc, sym, take, true, zero, ℕ}
use Rattle.std.proofs.Math.{ListN.get_or-append}
use Rattle.std.proofs.Math.{Nat.{div-mul-le_self, le-max_left, le-max_right, mul-le-mul_right, mul_comm}}
use Rattle.std.proofs.Math.{Seq.get_or-append_seam}
use Rattle.std.proofs.lemmas.{Bool.{Decides.nat_tests, cases_lt, false≢true}, Nat.le-div}
use Rattle.std.proofs.lemmas.{Option.{slice_get_past, unwrap_or-slice_get}}
use Rattle.std.proofs.lemmas.List.{get_or-drop, get_or-replicate, get_or-set_other, get_or-set_same, get_or-take}
use Rattle.std.proofs.lemmas.List.{length-replicate, length-set}
use Rattle.lens_flows.specs.declared.judge.flow.Flow.{Flow}
use Rattle.lens_overview.specs.{Cells.{filled, flow_cells, in_column, is_of, seen, shade_at, taken, worst}}
use Rattle.lens_overview.specs.{Grids.{column_of, grid_of, pen_at}, LawParts.IsDeliveredIn, Ranges.each_below, Rows.Row}
use Rattle.lens_overview.specs.{Shades.{code_of, delivered, is_blank, is_same, repeated, with_copy, worse}}
use Rattle.lens_overview.specs.News.{change_at, change_of, last_cycle, named_cycle, news_in, news_of, repeats_by}
use Rattle.lens_overview.specs.News.{struck}
use Rattle.lens_overview.specs.Pieces
use Pieces.{bar_at, bars_from, below, bottom_of, front, not_begun, picture_of, row_pieces, rows_from, stride_of}
use Pieces.{strokes_from, ticks, top}
use Rattle.lens_overview.specs.declared.{grid.{Grid.Grid, GridPen.GridPen}, pieces.{Piece.Piece, Ribbon.Ribbon}}
use Rattle.lens_overview.specs.declared.{shade.Shade.Shade}
use Rattle.lens_overview.specs.declared.news.{Change.{Change, TheVariants.{Delivers, Sends}}, Copied.Copied, News.News}
use Rattle.lens_svg.specs.Sketching.{with_at}
use Rattle.net_plan.{proofs.SameIds.{alike, same_vl}}
use Rattle.net_plan.specs.declared.{event.What.What, ids.{DeviceId.DeviceId, LinkId.LinkId, VlId.VlId}}
use Rattle.net_plan.specs.declared.{network.Network.Network}
use Rattle.run_law.{proofs.runs.Places.{in_left, in_parts, in_right}}
use Rattle.run_law.specs.{declared.note.{Note.Note, NoteBody.NoteBody}, records.{Happenings.Happening, Order.IsIn}}
use Rattle.run_law.specs.{scenario.{Devices.channel_of_link, Scenarios.Scenario}}
use Rattle.tte_units.specs.declared.frames.channel.Channel.{Channel, TheVariants.{A, B}}
use Rattle.lens_overview.specs.declared.label.Label.TheVariants as labels
use Rattle.lens_overview.specs.declared.news.Change.TheVariants as changes
use Rattle.lens_overview.specs.declared.pieces.Piece.TheVariants as pieces
use Rattle.lens_overview.specs.declared.shade.Shade.TheVariants as shades
use Rattle.net_plan.specs.declared.event.What.TheVariants as events
use Rattle.run_law.specs.declared.judgement.Reason.TheVariants as reasons
use Rattle.run_law.specs.declared.note.NoteBody.TheVariants as notes

-- ---- what records make of the shade of a flow's frame: shades of frames

-- the shade is one of a frame that came, and none says that it is missing
abbrev HasCome : Shade → Type 0
HasCome shade = (1 ≤ code_of shade) × (code_of shade ≤ 3)

module _ (shade : Shade) where
  seen_code : is_blank shade ≡ false → 1 ≤ code_of shade
  seen_code e = grind (arith, nat_tests, e)

  pub code_seen : 1 ≤ code_of shade → is_blank shade ≡ false
  code_seen some = grind (arith, nat_tests, some)

  blank_code : is_blank shade ≡ true → code_of shade ≡ 0
  blank_code e = grind (arith, nat_tests, e)

  with_come : (alone other : Shade) → HasCome alone → code_of shade ≤ 3 → HasCome (with_copy shade alone other)
  with_come alone other come most = by (is_blank shade) refl
    where
      both : (c : Bool) → 1 ≤ code_of shade → HasCome (if c then shades.Both else shade)
      both true some = (omega arith, omega arith)
      both false some = (some, most)

      by : (b : Bool) → is_blank shade ≡ b → HasCome
          (if b then alone else if is_same shade other then shades.Both else shade)
      by true e = come
      by false e = both (is_same shade other) (seen_code e)

  delivered_come : (channel : Channel) → code_of shade ≤ 3 → HasCome (delivered shade (Some channel))
  delivered_come A most = with_come shades.AloneA shades.AloneB (omega arith, omega arith) most
  delivered_come B most = with_come shades.AloneB shades.AloneA (omega arith, omega arith) most

  delivered_most : (channel : Option Channel) → code_of shade ≤ 3 → code_of (delivered shade channel) ≤ 3
  delivered_most (Some channel) most = (delivered_come channel most).1
  delivered_most None most = most

  delivered_stays : (channel : Option Channel) → code_of shade ≤ 3 → 1 ≤ code_of shade
      → 1 ≤ code_of (delivered shade channel)
  delivered_stays (Some channel) most some = (delivered_come channel most).0
  delivered_stays None most some = some

module _ (shade : Shade) (channel : Option Channel) where
  repeated_most : code_of shade ≤ 3 → code_of (repeated shade channel) ≤ 3
  repeated_most most = by (is_blank shade)
    where
      by : (b : Bool) → code_of (if b then shade else delivered shade channel) ≤ 3
      by true = most
      by false = delivered_most shade channel most

  repeated_stays : code_of shade ≤ 3 → 1 ≤ code_of shade → 1 ≤ code_of (repeated shade channel)
  repeated_stays most some = by (is_blank shade)
    where
      by : (b : Bool) → 1 ≤ code_of (if b then shade else delivered shade channel)
      by true = some
      by false = delivered_stays shade channel most some

  repeated_none : is_blank shade ≡ true → repeated shade channel ≡ shade
  repeated_none e = ap (λ (b : Bool). if b then shade else delivered shade channel) e

-- ---- one record

module _ (vl : VlId) (device : DeviceId) (cycle : ℕ) where
  -- the copy is one of the frame
  abbrev pub is_copy : Copied → Bool
  is_copy copied = is_of vl device copied && copied.cycle == cycle

  -- what a record makes of the frame's shade
  abbrev pub frame_after : Change → Shade → Shade
  frame_after (changes.Delivers copied) shade = if is_copy copied then delivered shade copied.channel else shade
  frame_after (changes.Repeats copied) shade = if is_copy copied then repeated shade copied.channel else shade
  frame_after change shade = shade

  -- the record delivers it by a channel
  pub record Brings (change : Change) : Type 0 where
    pub copied : Copied
    pub is : change ≡ changes.Delivers copied
    pub copy : is_copy copied ≡ true
    pub channel : Channel
    pub by : copied.channel ≡ Some channel

  most_if : (b : Bool) (first second : Shade) → code_of first ≤ 3 → code_of second ≤ 3 → code_of (if b then first else second) ≤ 3
  most_if true first second p q = p
  most_if false first second p q = q

  some_if : (b : Bool) (first second : Shade) → 1 ≤ code_of first → 1 ≤ code_of second → 1 ≤ code_of (if b then first else second)
  some_if true first second p q = p
  some_if false first second p q = q

  after_most : (change : Change) (shade : Shade) → code_of shade ≤ 3 → code_of (frame_after change shade) ≤ 3
  after_most (changes.Delivers copied) shade most =
      most_if (is_copy copied) (delivered shade copied.channel) shade (delivered_most shade copied.channel most) most
  after_most (changes.Repeats copied) shade most =
      most_if (is_copy copied) (repeated shade copied.channel) shade (repeated_most shade copied.channel most) most
  after_most change shade most = most

  after_stays : (change : Change) (shade : Shade) → code_of shade ≤ 3 → 1 ≤ code_of shade → 1 ≤ code_of (frame_after change shade)
  after_stays (changes.Delivers copied) shade most some =
      some_if (is_copy copied) (delivered shade copied.channel) shade (delivered_stays shade copied.channel most some) some
  after_stays (changes.Repeats copied) shade most some =
      some_if (is_copy copied) (repeated shade copied.channel) shade (repeated_stays shade copied.channel most some) some
  after_stays change shade most some = some

  -- it makes nothing of a frame that has not come, or it delivers
  after_none : (change : Change) (shade : Shade) → is_blank shade ≡ true → (frame_after change shade ≡ shade) ⊎ Brings change
  after_none (changes.Delivers copied) shade blank = by (is_copy copied) refl copied.channel refl
    where
      by : (b : Bool) → is_copy copied ≡ b → (o : Option Channel) → copied.channel ≡ o
          → ((if b then delivered shade copied.channel else shade) ≡ shade) ⊎ Brings (changes.Delivers copied)
      by false e o is = inl refl
      by true e None is = inl (ap (λ x. delivered shade x) is)
      by true e (Some channel) is = inr (record { copied = copied; is = refl; copy = e; channel = channel; by = is })
  after_none (changes.Repeats copied) shade blank = by (is_copy copied)
    where
      by : (b : Bool) → ((if b then repeated shade copied.channel else shade) ≡ shade) ⊎ Brings (changes.Repeats copied)
      by true = inl (repeated_none shade copied.channel blank)
      by false = inl refl
  after_none change shade blank = inl refl

  after_brings : (change : Change) (shade : Shade) → code_of shade ≤ 3 → Brings change → 1 ≤ code_of (frame_after change shade)
  after_brings change shade most brings =
      let come = (delivered_come shade brings.channel most).0 in
      subst (λ x. 1 ≤ code_of (frame_after x shade)) (sym brings.is)
      (subst (λ (b : Bool). 1 ≤ code_of (if b then delivered shade brings.copied.channel else shade)) (sym brings.copy)
      (subst (λ o. 1 ≤ code_of (delivered shade o)) (sym brings.by) come))

  -- ---- all records

  abbrev pub frame_behind : Shade → List News → Shade
  frame_behind shade all = fold (λ s news. frame_after news.change s) shade all

  behind_most : (all : List News) (shade : Shade) → code_of shade ≤ 3 → code_of (frame_behind shade all) ≤ 3
  behind_most [] shade most = most
  behind_most (news ∷ all) shade most = behind_most all (frame_after news.change shade) (after_most news.change shade most)

  behind_stays : (all : List News) (shade : Shade) → code_of shade ≤ 3 → 1 ≤ code_of shade → 1 ≤ code_of (frame_behind shade all)
  behind_stays [] shade most some = some
  behind_stays (news ∷ all) shade most some =
      behind_stays all (frame_after news.change shade) (after_most news.change shade most) (after_stays news.change shade most some)

  -- no shade says that the frame is missing
  pub never_missing : (all : List News) → code_of (frame_behind shades.Blank all) ≤ 3
  never_missing all = behind_most all shades.Blank (omega arith)

  -- where it has come, a record delivers it
  pub come_brought : (all : List News) (shade : Shade) → is_blank shade ≡ true → 1 ≤ code_of (frame_behind shade all)
      → (news : News) × IsIn news all × Brings news.change
  come_brought [] shade blank some = let none = blank_code shade blank in absurd (omega (arith, some, none))
  come_brought (news ∷ all) shade blank some =
      by (after_none news.change shade blank) (λ clear. come_brought all (frame_after news.change shade) clear some)
    where
      by : (frame_after news.change shade ≡ shade) ⊎ Brings news.change
          → (is_blank (frame_after news.change shade) ≡ true → (x : News) × IsIn x all × Brings x.change)
          → (x : News) × IsIn x (news ∷ all) × Brings x.change
      by (inl same) more = let h = more (ap is_blank same ∙ blank) in (h.0, inr h.1, h.2)
      by (inr brings) more = (news, inl refl, brings)

  -- where a record does, it has
  pub brought_come : (all : List News) (shade : Shade) (news : News) → code_of shade ≤ 3 → IsIn news all → Brings news.change
      → 1 ≤ code_of (frame_behind shade all)
  brought_come [] shade news most i brings = absurd i
  brought_come (x ∷ all) shade news most (inl is) brings =
      let here = subst (λ (n : News). Brings n.change) is brings in
      behind_stays all (frame_after x.change shade) (after_most x.change shade most) (after_brings x.change shade most here)
  brought_come (x ∷ all) shade news most (inr i) brings =
      brought_come all (frame_after x.change shade) news (after_most x.change shade most) i brings

-- ---- the cell of a cycle

long_put : (cells : List Shade) (place : ℕ) (shade : Shade) → length (with_at cells place shade) ≡ length cells
long_put cells place shade = by (nat_lt place (length cells))
  where
    by : (b : Bool) → length (if b then slice_set cells place shade else cells) ≡ length cells
    by true = length-set cells place shade
    by false = refl

put_same : (cells : List Shade) (place : ℕ) (shade : Shade) → place < length cells → shade_at (with_at cells place shade) place ≡ shade
put_same cells place shade within =
    let test : nat_lt place (length cells) ≡ true = grind (arith, nat_tests, within) in
    ap (λ (b : Bool). shade_at (if b then slice_set cells place shade else cells) place) test
    ∙ unwrap_or-slice_get (slice_set cells place shade) place shades.Blank
    ∙ get_or-set_same cells place shade shades.Blank within

put_other : (cells : List Shade) (place other : ℕ) (shade : Shade) → (other ≡ place → ⊥) → shade_at (with_at cells place shade) other ≡ shade_at cells other
put_other cells place other shade apart = by (nat_lt place (length cells))
  where
    by : (b : Bool) → shade_at (if b then slice_set cells place shade else cells) other ≡ shade_at cells other
    by true =
        unwrap_or-slice_get (slice_set cells place shade) other shades.Blank ∙ get_or-set_other cells place other shade shades.Blank apart
        ∙ sym (unwrap_or-slice_get cells other shades.Blank)
    by false = refl

module _ (vl : VlId) (device : DeviceId) where
  -- a copy of another cycle or frame leaves the cell, and else makes of it what it makes of the frame
  put_at : (cells : List Shade) (copied : Copied) (make : Shade → Shade) (c : ℕ) → c < length cells
      → shade_at (if is_of vl device copied then with_at cells copied.cycle (make (shade_at cells copied.cycle)) else cells) c
      ≡ (if is_copy vl device c copied then make (shade_at cells c) else shade_at cells c)
  put_at cells copied make c within = by (is_of vl device copied)
    where
      hit : (b : Bool) → (copied.cycle == c) ≡ b
          → shade_at (with_at cells copied.cycle (make (shade_at cells copied.cycle))) c ≡ (if b then make (shade_at cells c) else shade_at cells c)
      hit true e =
          let same : copied.cycle ≡ c = grind (arith, nat_tests, e) in
          ap (λ k. shade_at (with_at cells k (make (shade_at cells k))) c) same ∙ put_same cells c (make (shade_at cells c)) within
      hit false e =
          let apart : c ≡ copied.cycle → ⊥ = λ same. let s = same in grind (arith, nat_tests, e, s) in
          put_other cells copied.cycle c (make (shade_at cells copied.cycle)) apart

      by : (b : Bool) → shade_at (if b then with_at cells copied.cycle (make (shade_at cells copied.cycle)) else cells) c
          ≡ (if b && copied.cycle == c then make (shade_at cells c) else shade_at cells c)
      by true = hit (copied.cycle == c) refl
      by false = refl

  seen_at : (cells : List Shade) (change : Change) (c : ℕ) → c < length cells
      → shade_at (seen vl device change cells) c ≡ frame_after vl device c change (shade_at cells c)
  seen_at cells (changes.Delivers copied) c within = put_at cells copied (λ (s : Shade). delivered s copied.channel) c within
  seen_at cells (changes.Repeats copied) c within = put_at cells copied (λ (s : Shade). repeated s copied.channel) c within
  seen_at cells change c within = refl

  long_if : (b : Bool) (cells : List Shade) (place : ℕ) (shade : Shade) → length (if b then with_at cells place shade else cells) ≡ length cells
  long_if true cells place shade = long_put cells place shade
  long_if false cells place shade = refl

  seen_long : (cells : List Shade) (change : Change) → length (seen vl device change cells) ≡ length cells
  seen_long cells (changes.Delivers copied) = long_if (is_of vl device copied) cells copied.cycle (delivered (shade_at cells copied.cycle) copied.channel)
  seen_long cells (changes.Repeats copied) = long_if (is_of vl device copied) cells copied.cycle (repeated (shade_at cells copied.cycle) copied.channel)
  seen_long cells change = refl

  pub filled_long : (grid : Grid) (all : List News) (cells : List Shade)
      → length (fold (taken grid (labels.Flow vl device)) cells all) ≡ length cells
  filled_long grid [] cells = refl
  filled_long grid (news ∷ all) cells = filled_long grid all (seen vl device news.change cells) ∙ seen_long cells news.change

  -- the cell of a cycle is what the records make of its frame
  pub filled_at : (grid : Grid) (all : List News) (cells : List Shade) (c : ℕ) → c < length cells
      → shade_at (fold (taken grid (labels.Flow vl device)) cells all) c ≡ frame_behind vl device c (shade_at cells c) all
  filled_at grid [] cells c within = refl
  filled_at grid (news ∷ all) cells c within =
      let long = seen_long cells news.change in
      filled_at grid all (seen vl device news.change cells) c (omega (arith, long, within))
      ∙ ap (λ (s : Shade). frame_behind vl device c s all) (seen_at cells news.change c within)

both_true : (a b : Bool) → (a && b) ≡ true → (a ≡ true) × (b ≡ true)
both_true true b e = (refl, e)
both_true false b e = absurd (false≢true e)

module _ (vl : VlId) (device : DeviceId) (cycle : ℕ) (copied : Copied)
    (e : is_copy vl device cycle copied ≡ true) where
  -- whose copy it is
  pub cycle_of_copy : copied.cycle ≡ cycle
  cycle_of_copy =
      let own = (both_true (is_of vl device copied) (copied.cycle == cycle) e).1 in
      grind (arith, nat_tests, own)

  pub flow_of_copy : (copied.vl ≡ vl) × (copied.device ≡ device)
  flow_of_copy =
      let own = (both_true (is_of vl device copied) (copied.cycle == cycle) e).0 in
      let parts = both_true (copied.vl.0 == vl.0) (copied.device.0 == device.0) own in
      let first = parts.0 in
      let vls : copied.vl.0 ≡ vl.0 = grind (arith, nat_tests, first) in
      (same_vl copied.vl vl vls, alike copied.device device parts.1)

pub is_own : (vl : VlId) (device : DeviceId) (cycle : ℕ) (channel : Option Channel)
    → is_copy vl device cycle (record { vl = vl; device = device; cycle = cycle; channel = channel }) ≡ true
is_own vl device cycle channel =
    let a : (vl.0 == vl.0) ≡ true = grind (arith, nat_tests) in
    let b : (device.0 == device.0) ≡ true = grind (arith, nat_tests) in
    let c : (cycle == cycle) ≡ true = grind (arith, nat_tests) in
    ap (λ (x : Bool). (x && device.0 == device.0) && cycle == cycle) a ∙ ap (λ (x : Bool). (true && x) && cycle == cycle) b ∙ c

-- ---- the cell of a column: the worst of those of its cycles: places in lists

long_each : (f : ℕ → Shade) (n : ℕ) → length (each_below f n) ≡ n
long_each f zero = refl
long_each f (suc n) =
    let more = length-append (each_below f n) (f n ∷ []) in
    let rest = long_each f n in
    omega (arith, more, rest)

each_get : (f : ℕ → Shade) (n k : ℕ) → k < n → get_or (each_below f n) k shades.Blank ≡ f k
each_get f zero k within = absurd (omega (arith, within))
each_get f (suc n) k within =
    let size = long_each f n in
    elim (cases_lt k n) [
      | inl less ↦ get_or-append (each_below f n) (f n ∷ []) shades.Blank k (omega (arith, size, less)) ∙ each_get f n k less
      | inr more ↦
          let last : k ≡ length (each_below f n) = omega (arith, size, within, more) in
          let at : k ≡ n = omega (arith, within, more) in
          ap (λ (i : ℕ). get_or (each_below f n ++ f n ∷ []) i shades.Blank) last
          ∙ get_or-append_seam (each_below f n) (f n) [] shades.Blank ∙ ap f (sym at)
    ]

each_at : (f : ℕ → Shade) (n k : ℕ) → k < n → shade_at (each_below f n) k ≡ f k
each_at f n k within = unwrap_or-slice_get (each_below f n) k shades.Blank ∙ each_get f n k within

each_past : (f : ℕ → Shade) (n k : ℕ) → n ≤ k → shade_at (each_below f n) k ≡ shades.Blank
each_past f n k past =
    let size = long_each f n in
    ap (λ (o : Option Shade). unwrap_or o shades.Blank) (slice_get_past (each_below f n) k (omega (arith, size, past)))

place_of : (x : Shade) (xs : List Shade) → IsIn x xs → (k : ℕ) × (k < length xs) × (get_or xs k shades.Blank ≡ x)
place_of x [] i = absurd i
place_of x (y ∷ ys) (inl is) = (zero, omega arith, sym is)
place_of x (y ∷ ys) (inr i) = let h = place_of x ys i in let within = h.1 in (suc h.0, omega (arith, within), h.2)

pub at_place : (xs : List Shade) (k : ℕ) → k < length xs → IsIn (get_or xs k shades.Blank) xs
at_place [] k within = absurd (omega (arith, within))
at_place (x ∷ xs) zero within = inl refl
at_place (x ∷ xs) (suc k) within = inr (at_place xs k (omega (arith, within)))

-- ---- the worst

worse_parts : (a b : Shade) → ((worse a b ≡ a) ⊎ (worse a b ≡ b)) × (code_of a ≤ code_of (worse a b)) × (code_of b ≤ code_of (worse a b))
worse_parts a b = by (nat_lt (code_of a) (code_of b)) refl
  where
    by : (t : Bool) → nat_lt (code_of a) (code_of b) ≡ t → (((if t then b else a) ≡ a) ⊎ ((if t then b else a) ≡ b))
        × (code_of a ≤ code_of (if t then b else a)) × (code_of b ≤ code_of (if t then b else a))
    by true e = let less : code_of a < code_of b = grind (arith, nat_tests, e) in (inr refl, omega (arith, less), omega arith)
    by false e = let more : code_of b ≤ code_of a = grind (arith, nat_tests, e) in (inl refl, omega arith, more)

worst_is : (xs : List Shade) (s : Shade) → (fold worse s xs ≡ s) ⊎ IsIn (fold worse s xs) xs
worst_is [] s = inl refl
worst_is (x ∷ xs) s = by (worst_is xs (worse s x)) (worse_parts s x).0
  where
    by : (fold worse (worse s x) xs ≡ worse s x) ⊎ IsIn (fold worse (worse s x) xs) xs → (worse s x ≡ s) ⊎ (worse s x ≡ x)
        → (fold worse (worse s x) xs ≡ s) ⊎ IsIn (fold worse (worse s x) xs) (x ∷ xs)
    by (inl is) (inl old) = inl (is ∙ old)
    by (inl is) (inr new) = inr (inl (is ∙ new))
    by (inr i) one = inr (inr i)

worst_first : (xs : List Shade) (s : Shade) → code_of s ≤ code_of (fold worse s xs)
worst_first [] s = omega arith
worst_first (x ∷ xs) s =
    let one = (worse_parts s x).1 in
    let rest = worst_first xs (worse s x) in
    omega (arith, one, rest)

worst_each : (xs : List Shade) (s x : Shade) → IsIn x xs → code_of x ≤ code_of (fold worse s xs)
worst_each [] s x i = absurd i
worst_each (y ∷ ys) s x (inl is) =
    let one = (worse_parts s y).2 in
    let rest = worst_first ys (worse s y) in
    let same : code_of x ≡ code_of y = ap code_of is in
    omega (arith, one, rest, same)
worst_each (y ∷ ys) s x (inr i) = worst_each ys (worse s y) x i

-- ---- the cycles of a column

module _ (cells : List Shade) (from many : ℕ) where
  abbrev part : List Shade
  part = take many (drop from cells)

  part_long : (k : ℕ) → k < length part → (k < many) × (from + k < length cells)
  part_long k within =
      let taken = length-take many (drop from cells) in
      let dropped = length-drop from cells in
      (omega (arith, taken, within), omega (arith, taken, dropped, within))

  part_get : (k : ℕ) → k < many → get_or part k shades.Blank ≡ shade_at cells (from + k)
  part_get k within =
      get_or-take many (drop from cells) k shades.Blank within ∙ get_or-drop from cells k shades.Blank
      ∙ sym (unwrap_or-slice_get cells (from + k) shades.Blank)

  part_is : (x : Shade) → IsIn x part → (k : ℕ) × (k < many) × (from + k < length cells) × (shade_at cells (from + k) ≡ x)
  part_is x i =
      let h = place_of x part i in
      let within = part_long h.0 h.1 in
      (h.0, within.0, within.1, sym (part_get h.0 within.0) ∙ h.2)

  part_in : (k : ℕ) → k < many → from + k < length cells → IsIn (shade_at cells (from + k)) part
  part_in k within there =
      let taken = length-take many (drop from cells) in
      let dropped = length-drop from cells in
      subst (λ s. IsIn s part) (part_get k within) (at_place part k (omega (arith, taken, dropped, within, there)))

divides : (n column k : ℕ) → 1 ≤ n → k < n → (n * column + k) / n ≡ column
divides n column k some less =
    let low = le-div column (n * column + k) n some (let swap = mul_comm column n in omega (arith, swap)) in
    let whole = div-mul-le_self (n * column + k) n in
    elim (cases_lt column ((n * column + k) / n)) [
      | inl more ↦
          let next : column + 1 ≤ (n * column + k) / n = omega (arith, more) in
          let step : (column + 1) * n ≤ (n * column + k) / n * n = mul-le-mul_right n next in
          let swap = mul_comm column n in
          absurd (omega (arith, whole, step, swap, less))
      | inr most ↦ omega (arith, low, most)
    ]

divided : (n c : ℕ) → 1 ≤ n → (k : ℕ) × (k < n) × (c ≡ n * (c / n) + k)
divided n c some =
    let whole = div-mul-le_self c n in
    let swap = mul_comm n (c / n) in
    elim (cases_lt (c - n * (c / n)) n) [
      | inl less ↦ (c - n * (c / n), less, omega (arith, whole, swap))
      | inr more ↦
          let high : (c / n + 1) * n ≤ c = omega (arith, whole, swap, more) in
          let next = le-div (c / n + 1) c n some high in
          absurd (omega (arith, next))
    ]

div_most : (a b n : ℕ) → 1 ≤ n → a ≤ b → a / n ≤ b / n
div_most a b n some up = let low = div-mul-le_self a n in le-div (a / n) b n some (omega (arith, low, up))

-- ---- the cells of a flow

-- the cycle of each delivery is at most the last
last_from : (all : List News) (most : ℕ) → most ≤ fold (λ last news. max (max last news.cycle) (named_cycle news.change)) most all
last_from [] most = omega arith
last_from (news ∷ all) most =
    let first = le-max_left (max most news.cycle) (named_cycle news.change) in
    let second = le-max_left most news.cycle in
    let rest = last_from all (max (max most news.cycle) (named_cycle news.change)) in
    omega (arith, first, second, rest)

last_most : (all : List News) (most : ℕ) (news : News) → IsIn news all
    → named_cycle news.change ≤ fold (λ last news. max (max last news.cycle) (named_cycle news.change)) most all
last_most [] most news i = absurd i
last_most (x ∷ all) most news (inl is) =
    let here = le-max_right (max most x.cycle) (named_cycle x.change) in
    let rest = last_from all (max (max most x.cycle) (named_cycle x.change)) in
    let same : named_cycle news.change ≡ named_cycle x.change = ap (λ (n : News). named_cycle n.change) is in
    omega (arith, here, rest, same)
last_most (x ∷ all) most news (inr i) = last_most all (max (max most x.cycle) (named_cycle x.change)) news i

module _ (all : List News) (vl : VlId) (device : DeviceId) where
  abbrev grid : Grid
  grid = grid_of (last_cycle all)

  abbrev cells : List Shade
  cells = flow_cells grid all (last_cycle all) [] vl device

  abbrev each : List Shade
  each = filled grid all (labels.Flow vl device) shades.Blank (last_cycle all)

  -- what the records make of the frame of a cycle
  abbrev pub frame : ℕ → Shade
  frame c = frame_behind vl device c shades.Blank all

  some_cycles : 1 ≤ grid.cycles
  some_cycles = omega arith

  each_long : length each ≡ last_cycle all + 1
  each_long = filled_long vl device grid all (replicate (last_cycle all + 1) shades.Blank) ∙ length-replicate (last_cycle all + 1) shades.Blank

  each_frame : (c : ℕ) → c < last_cycle all + 1 → shade_at each c ≡ frame c
  each_frame c within =
      let size = length-replicate (last_cycle all + 1) shades.Blank in
      filled_at vl device grid all (replicate (last_cycle all + 1) shades.Blank) c (omega (arith, size, within))
      ∙ ap (λ (s : Shade). frame_behind vl device c s all)
      (unwrap_or-slice_get (replicate (last_cycle all + 1) shades.Blank) c shades.Blank ∙ get_or-replicate (last_cycle all + 1) c shades.Blank shades.Blank within)

  cell_is : (column : ℕ) → column < grid.columns → shade_at cells column ≡ worst (in_column grid each column)
  cell_is column within = each_at (λ k. worst (in_column grid each k)) grid.columns column within

  -- each is blank, or the shade of the frame of a cycle of the column
  pub cell_frame : (column : ℕ) → (shade_at cells column ≡ shades.Blank) ⊎ ((c : ℕ) × (column_of grid c ≡ column) × (shade_at cells column ≡ frame c))
  cell_frame column = elim (cases_lt column grid.columns) [
    | inl within ↦ by within (worst_is (in_column grid each column) shades.Blank)
    | inr past ↦ inl (each_past (λ k. worst (in_column grid each k)) grid.columns column past)
  ]
    where
      by : column < grid.columns → (worst (in_column grid each column) ≡ shades.Blank) ⊎ IsIn (worst (in_column grid each column)) (in_column grid each column)
          → (shade_at cells column ≡ shades.Blank) ⊎ ((c : ℕ) × (column_of grid c ≡ column) × (shade_at cells column ≡ frame c))
      by within (inl none) = inl (cell_is column within ∙ none)
      by within (inr i) =
          let h = part_is each (grid.cycles * column) grid.cycles (worst (in_column grid each column)) i in
          let size = each_long in
          let there = h.2 in
          inr (
            grid.cycles * column + h.0,
            divides grid.cycles column h.0 some_cycles h.1,
            cell_is column within ∙ sym h.3 ∙ each_frame (grid.cycles * column + h.0) (omega (arith, size, there)),
          )

  -- and no cycle of it has a worse one
  pub frame_most : (c : ℕ) → c ≤ last_cycle all → (column_of grid c < grid.columns) × (code_of (frame c) ≤ code_of (shade_at cells (column_of grid c)))
  frame_most c most =
      let up = div_most c (last_cycle all) grid.cycles some_cycles most in
      let within : column_of grid c < grid.columns = omega (arith, up) in
      let at = divided grid.cycles c some_cycles in
      let size = each_long in
      let is = at.2 in
      let there : grid.cycles * column_of grid c + at.0 < length each = omega (arith, size, is, most) in
      let i = part_in each (grid.cycles * column_of grid c) grid.cycles at.0 at.1 there in
      let high = worst_each (in_column grid each (column_of grid c)) shades.Blank (shade_at each (grid.cycles * column_of grid c + at.0)) i in
      let own : shade_at each (grid.cycles * column_of grid c + at.0) ≡ frame c = ap (shade_at each) (sym is) ∙ each_frame c (omega (arith, most)) in
      let code : code_of (shade_at each (grid.cycles * column_of grid c + at.0)) ≡ code_of (frame c) = ap code_of own in
      let cell : code_of (shade_at cells (column_of grid c)) ≡ code_of (worst (in_column grid each (column_of grid c))) = ap code_of (cell_is (column_of grid c) within) in
      (within, omega (arith, high, code, cell))

  -- none says that a frame is missing
  pub none_missing : (column : ℕ) → shade_at cells column ≡ shades.Missing → ⊥
  none_missing column is = elim (cell_frame column) [
    | inl blank ↦ let e : shades.Missing ≡ shades.Blank = sym is ∙ blank in let codes : code_of shades.Missing ≡ code_of shades.Blank = ap code_of e in omega (arith, codes)
    | inr at ↦
        let most = never_missing vl device at.0 all in
        let codes : code_of shades.Missing ≡ code_of (frame at.0) = ap code_of (sym is ∙ at.2) in
        omega (arith, most, codes)
  ]

  -- where a cell is not blank, a record delivers a frame of the column
  pub cell_brought : (column : ℕ) → is_blank (shade_at cells column) ≡ false
      → (c : ℕ) × (column_of grid c ≡ column) × ((news : News) × IsIn news all × Brings vl device c news.change)
  cell_brought column seen = elim (cell_frame column) [
    | inl blank ↦ absurd (false≢true (sym seen ∙ ap is_blank blank))
    | inr at ↦
        let own : is_blank (frame at.0) ≡ false = ap is_blank (sym at.2) ∙ seen in
        let some : 1 ≤ code_of (frame at.0) = grind (arith, nat_tests, own) in
        (at.0, at.1, come_brought vl device at.0 all shades.Blank refl some)
  ]

  -- and where one does, the frame has come, and its column's cell is none that is better
  pub brought_code : (c : ℕ) (news : News) → IsIn news all → Brings vl device c news.change
      → (1 ≤ code_of (frame c)) × (column_of grid c < grid.columns) × (code_of (frame c) ≤ code_of (shade_at cells (column_of grid c)))
  brought_code c news i brings =
      let come = brought_come vl device c all shades.Blank news (omega arith) i brings in
      let named : named_cycle news.change ≡ brings.copied.cycle = ap named_cycle brings.is in
      let own : brings.copied.cycle ≡ c = cycle_of_copy vl device c brings.copied brings.copy in
      let last = last_most all 0 news i in
      let high = frame_most c (omega (arith, named, own, last)) in
      (come, high.0, high.1)

  -- so it is not blank
  pub brought_cell : (c : ℕ) (news : News) → IsIn news all → Brings vl device c news.change
      → (column_of grid c < grid.columns) × (is_blank (shade_at cells (column_of grid c)) ≡ false)
  brought_cell c news i brings =
      let high = brought_code c news i brings in
      let come = high.0 in
      let code = high.2 in
      (high.1, code_seen (shade_at cells (column_of grid c)) (omega (arith, come, code)))

-- ---- which records tell of a delivery: a delivery is told by no other record

copied_in : Copied → Change → Copied
copied_in d (changes.Delivers copied) = copied
copied_in d change = d

-- what a delivery tells
abbrev copied_by : Network → DeviceId → LinkId → VlId → ℕ → Copied
copied_by network device link vl cycle = record { vl = vl; device = device; cycle = cycle; channel = channel_of_link network link }

-- the record is one of this delivery
record IsTelling (network : Network) (body : NoteBody) (copied : Copied) : Type 0 where
  pub link : LinkId
  pub cause : ℕ
  pub is : body ≡ notes.Delivered copied.device link cause copied.vl copied.cycle
  pub by : copied.channel ≡ channel_of_link network link

struck_other : (what : What) (copied : Copied) → struck what ≡ changes.Delivers copied → ⊥
struck_other (events.Break device) copied e = cc
struck_other (events.Cut link way) copied e = cc
struck_other (events.Heal link way) copied e = cc
struck_other what copied e = cc

repeats_other : (network : Network) (device : DeviceId) (link : LinkId) (o : Option Change) (copied : Copied)
    → repeats_by network device link o ≡ changes.Delivers copied → ⊥
repeats_other network device link None copied e = cc
repeats_other network device link (Some (changes.Sends vl cycle)) copied e = cc
repeats_other network device link (Some other) copied e = cc

telling : (network : Network) (before : List News) (body : NoteBody) (copied : Copied) → change_of network before body ≡ changes.Delivers copied
    → IsTelling network body copied
unfolding copied_in
telling network before (notes.Event line what) copied e = absurd (struck_other what copied e)
telling network before (notes.Delivered device link cause vl cycle) copied e =
    let same : copied_by network device link vl cycle ≡ copied = ap (copied_in copied) e in
    record {
      link = link;
      cause = cause;
      is = ap (λ (x : Copied). notes.Delivered x.device link cause x.vl x.cycle) same;
      by = sym (ap (λ (x : Copied). x.channel) same);
    }
telling network before (notes.Dropped device link cause reasons.Repeat) copied e =
    absurd (repeats_other network device link (change_at before cause) copied e)
telling network before body copied e = absurd cc

-- ---- what the records tell, one after another

module _ (network : Network) (s : Scenario) (hs : List Happening) where
  abbrev pub told_from : List News → List Note → List News
  told_from before ns = fold (λ before note. before ++ news_of network s hs before note ∷ []) before ns

  told_stays : (ns : List Note) (before : List News) (news : News) → IsIn news before → IsIn news (told_from before ns)
  told_stays [] before news i = i
  told_stays (note ∷ ns) before news i =
      told_stays ns (before ++ news_of network s hs before note ∷ []) news (in_left news before (news_of network s hs before note ∷ []) i)

  -- as many as there are records
  pub told_long : (ns : List Note) (before : List News) → length (told_from before ns) ≡ length before + length ns
  told_long [] before = omega arith
  told_long (note ∷ ns) before =
      let rest = told_long ns (before ++ news_of network s hs before note ∷ []) in
      let more = length-append before (news_of network s hs before note ∷ []) in
      omega (arith, rest, more)

  -- each record tells something
  pub note_told : (ns : List Note) (before : List News) (note : Note) → IsIn note ns
      → (b : List News) × IsIn (news_of network s hs b note) (told_from before ns)
  note_told [] before note i = absurd i
  note_told (n ∷ ns) before note (inl is) = (
    before,
    subst (λ x. IsIn (news_of network s hs before x) (told_from (before ++ news_of network s hs before n ∷ []) ns)) (sym is)
        (told_stays ns (before ++ news_of network s hs before n ∷ []) (news_of network s hs before n)
        (in_right (news_of network s hs before n) before (news_of network s hs before n ∷ []) (inl refl))),
  )
  note_told (n ∷ ns) before note (inr i) = note_told ns (before ++ news_of network s hs before n ∷ []) note i

  -- the news are those of a record
  pub record IsTold (ns : List Note) (news : News) : Type 0 where
    pub note : Note
    pub there : IsIn note ns
    pub before : List News
    pub is : news ≡ news_of network s hs before note

  told_later : (n : Note) (ns : List Note) (news : News) → IsTold ns news → IsTold (n ∷ ns) news
  told_later n ns news told = record { note = told.note; there = inr told.there; before = told.before; is = told.is }

  pub told_note : (ns : List Note) (before : List News) (news : News) → IsIn news (told_from before ns) → IsIn news before ⊎ IsTold ns news
  told_note [] before news i = inl i
  told_note (n ∷ ns) before news i =
      by (told_note ns (before ++ news_of network s hs before n ∷ []) news i)
    where
      last : IsIn news before ⊎ IsIn news (news_of network s hs before n ∷ []) → IsIn news before ⊎ IsTold (n ∷ ns) news
      last (inl i) = inl i
      last (inr (inl is)) = inr (record { note = n; there = inl refl; before = before; is = is })
      last (inr (inr none)) = absurd none

      by : IsIn news (before ++ news_of network s hs before n ∷ []) ⊎ IsTold ns news → IsIn news before ⊎ IsTold (n ∷ ns) news
      by (inl i) = last (in_parts news before (news_of network s hs before n ∷ []) i)
      by (inr told) = inr (told_later n ns news told)

  -- ---- deliveries

  module _ (ns : List Note) (flow : Flow) (cycle : ℕ) where
    abbrev all : List News
    all = news_in network s hs ns

    -- a record that tells of a delivery is one of it
    pub brings_delivered : (before : List News) (note : Note) → IsIn note ns
        → (brings : Brings flow.vl flow.device cycle (change_of network before note.body))
        → (d : IsDeliveredIn network ns flow cycle) × (d.channel ≡ brings.channel)
    brings_delivered before note there brings =
        let h = telling network before note.body brings.copied brings.is in
        let own = flow_of_copy flow.vl flow.device cycle brings.copied brings.copy in
        let at = cycle_of_copy flow.vl flow.device cycle brings.copied brings.copy in (
          record {
            note = note;
            there = there;
            link = h.link;
            cause = h.cause;
            is =
                h.is ∙ ap (λ (d : DeviceId). notes.Delivered d h.link h.cause brings.copied.vl brings.copied.cycle) own.1
                ∙ ap (λ (v : VlId). notes.Delivered flow.device h.link h.cause v brings.copied.cycle) own.0
                ∙ ap (λ (c : ℕ). notes.Delivered flow.device h.link h.cause flow.vl c) at;
            channel = brings.channel;
            by = sym h.by ∙ brings.by;
          },
          refl,
        )

    pub brought_delivered : (news : News) → IsIn news all → Brings flow.vl flow.device cycle news.change → IsDeliveredIn network ns flow cycle
    brought_delivered news i brings = by (told_note ns [] news i)
      where
        by : IsIn news [] ⊎ IsTold ns news → IsDeliveredIn network ns flow cycle
        by (inl none) = absurd none
        by (inr told) =
            (brings_delivered told.before told.note told.there
            (subst (λ (n : News). Brings flow.vl flow.device cycle n.change) told.is brings)).0

    pub delivered_brought : IsDeliveredIn network ns flow cycle → (news : News) × IsIn news all × Brings flow.vl flow.device cycle news.change
    delivered_brought d =
        let h = note_told ns [] d.note d.there in (
          news_of network s hs h.0 d.note,
          h.1,
          record {
            copied = copied_by network flow.device d.link flow.vl cycle;
            is = ap (change_of network h.0) d.is;
            copy = is_own flow.vl flow.device cycle (channel_of_link network d.link);
            channel = d.channel;
            by = d.by;
          },
        )

-- ---- the rows of a picture: their pieces, and those of flows: rows and their pieces

-- the row stands so far down among these pieces
pub record IsLaid (grid : Grid) (among : List Piece) (row : Row) (y : ℕ) : Type 0 where
  pub all : (piece : Piece) → IsIn piece (row_pieces grid row y) → IsIn piece among

laid_right : {grid : Grid} (ps : List Piece) {qs : List Piece} {row : Row} {y : ℕ} → IsLaid grid qs row y
    → IsLaid grid (ps ++ qs) row y
laid_right ps {qs} laid = record { all = λ piece i. in_right piece ps qs (laid.all piece i) }

laid_left : {grid : Grid} {ps : List Piece} (qs : List Piece) {row : Row} {y : ℕ} → IsLaid grid ps row y
    → IsLaid grid (ps ++ qs) row y
laid_left {ps} qs laid = record { all = λ piece i. in_left piece ps qs (laid.all piece i) }

-- each row does somewhere
row_laid : (grid : Grid) (y : ℕ) (rows : List Row) (row : Row) → IsIn row rows → (z : ℕ) × IsLaid grid (rows_from grid y rows) row z
row_laid grid y [] row i = absurd i
row_laid grid y (r ∷ rows) row (inl is) = (
  below y r.label,
  laid_left {grid = grid} {ps = row_pieces grid r (below y r.label)} (rows_from grid (below y r.label)
      rows) {row = row} {y = below y r.label}
      (record { all = λ piece i. subst (λ x. IsIn piece (row_pieces grid x (below y r.label))) is i }),
)
row_laid grid y (r ∷ rows) row (inr i) =
    let rest = row_laid grid (below y r.label) rows row i in
    (rest.0, laid_right (row_pieces grid r (below y r.label)) rest.1)

-- the stroke is one of the row, which stands so far down
pub record IsOfRow (grid : Grid) (among : List Piece) (rows : List Row) (ribbon : Ribbon) : Type 0 where
  pub row : Row
  pub y : ℕ
  pub there : IsIn row rows
  pub laid : IsLaid grid among row y
  pub stroke : IsIn (pieces.Stroke ribbon) (strokes_from grid row.label y not_begun 0 row.cells)

stroke_of_row : (grid : Grid) (y : ℕ) (rows : List Row) (ribbon : Ribbon) → IsIn (pieces.Stroke ribbon) (rows_from grid y rows)
    → IsOfRow grid (rows_from grid y rows) rows ribbon
stroke_of_row grid y [] ribbon i = absurd i
stroke_of_row grid y (r ∷ rows) ribbon i =
    by (in_parts (pieces.Stroke ribbon) own rest i) (stroke_of_row grid (below y r.label) rows ribbon)
  where
    own : List Piece
    own = row_pieces grid r (below y r.label)

    rest : List Piece
    rest = rows_from grid (below y r.label) rows

    first : IsIn (pieces.Stroke ribbon) (row_pieces grid r (below y r.label))
        → IsIn (pieces.Stroke ribbon) (strokes_from grid r.label (below y r.label) not_begun 0 r.cells)
    first (inl e) = absurd cc
    first (inr i) = i

    by : IsIn (pieces.Stroke ribbon) own ⊎ IsIn (pieces.Stroke ribbon) rest
        → (IsIn (pieces.Stroke ribbon) rest → IsOfRow grid rest rows ribbon) → IsOfRow grid (own ++ rest) (r ∷ rows) ribbon
    by (inl i) more = record {
      row = r;
      y = below y r.label;
      there = inl refl;
      laid = laid_left {grid = grid} {ps = own} rest {row = r} {y = below y r.label} (record { all = λ piece j. j });
      stroke = first i;
    }
    by (inr i) more =
        let s = more i in
        record { row = s.row; y = s.y; there = inr s.there; laid = laid_right own s.laid; stroke = s.stroke }

-- ---- the whole picture

pub in_each : {X : Type 0} (f : ℕ → X) (n : ℕ) (x : X) → IsIn x (each_below f n) → (k : ℕ) × (x ≡ f k)
in_each f zero x i = absurd i
in_each {X = X} f (suc n) x i = elim (in_parts x (each_below f n) (f n ∷ []) i) [
  | inl there ↦ in_each f n x there
  | inr last ↦ elim last [ inl is ↦ (n, is) | inr none ↦ absurd none ]
]

no_bar : (grid : Grid) (greatest bar : Option ℕ) (column : ℕ) (ribbon : Ribbon) → IsIn (pieces.Stroke ribbon) (bar_at grid greatest column bar) → ⊥
no_bar grid None bar column ribbon i = i
no_bar grid (Some greatest) None column ribbon i = i
no_bar grid (Some greatest) (Some spread) column ribbon (inl e) = cc
no_bar grid (Some greatest) (Some spread) column ribbon (inr i) = i

no_bars : (grid : Grid) (greatest : Option ℕ) (column : ℕ) (bars : List (Option ℕ)) (ribbon : Ribbon)
    → IsIn (pieces.Stroke ribbon) (bars_from grid greatest column bars) → ⊥
no_bars grid greatest column [] ribbon i = i
no_bars grid greatest column (bar ∷ bars) ribbon i =
    elim (in_parts (pieces.Stroke ribbon) (bar_at grid greatest column bar) (bars_from grid greatest (column + 1) bars) i) [
      | inl one ↦ no_bar grid greatest bar column ribbon one
      | inr more ↦ no_bars grid greatest (column + 1) bars ribbon more
    ]

no_ticks : (grid : Grid) (bottom : ℕ) (ribbon : Ribbon) → IsIn (pieces.Stroke ribbon) (ticks grid bottom) → ⊥
no_ticks grid bottom ribbon i =
    let tick : ℕ → Piece = λ n. pieces.Tick (pen_at grid (stride_of grid.columns * n)) (bottom + 8) in
    let h = in_each tick ((grid.columns - 1) / stride_of grid.columns + 1) (pieces.Stroke ribbon) i in
    other (pen_at grid (stride_of grid.columns * h.0)) (bottom + 8) h.1
  where
    other : (pen : GridPen) (down : ℕ) → pieces.Stroke ribbon ≡ pieces.Tick pen down → ⊥
    other pen down e = cc

module _ (grid : Grid) (bottom : ℕ) (greatest : Option ℕ) (records : ℕ) (ribbon : Ribbon) where
  no_front : IsIn (pieces.Stroke ribbon) (front grid bottom greatest records) → ⊥
  no_front (inl e) = cc
  no_front (inr (inl e)) = cc
  no_front (inr (inr (inl e))) = cc
  no_front (inr (inr (inr (inl e)))) = cc
  no_front (inr (inr (inr (inr (inl e))))) = cc
  no_front (inr (inr (inr (inr (inr (inl e)))))) = cc
  no_front (inr (inr (inr (inr (inr (inr (inl e))))))) = cc
  no_front (inr (inr (inr (inr (inr (inr (inr (inl e)))))))) = cc
  no_front (inr (inr (inr (inr (inr (inr (inr (inr (inl e))))))))) = cc
  no_front (inr (inr (inr (inr (inr (inr (inr (inr (inr (inl e)))))))))) = cc
  no_front (inr (inr (inr (inr (inr (inr (inr (inr (inr (inr none)))))))))) = absurd none

module _ (grid : Grid) (rows : List Row) (bars : List (Option ℕ)) (greatest : Option ℕ) (records : ℕ) where
  abbrev bottom : ℕ
  bottom = bottom_of top rows

  abbrev end : List Piece
  end = pieces.Shared Rattle.lens_overview.specs.declared.signs.OverviewSign.TheVariants.Close ∷ []

  abbrev lower : List Piece
  lower = bars_from grid greatest 0 bars ++ (rows_from grid top rows ++ end)

  pub picture_laid : (row : Row) → IsIn row rows → (y : ℕ) × IsLaid grid (picture_of grid rows bars greatest records) row y
  picture_laid row i =
      let h = row_laid grid top rows row i in (
        h.0,
        laid_right (front grid bottom greatest records)
            (laid_right (ticks grid bottom) (laid_right (bars_from grid greatest 0 bars)
            (laid_left end h.1))),
      )

  in_rows : (ribbon : Ribbon) → IsIn (pieces.Stroke ribbon) (rows_from grid top rows ++ end) → IsIn (pieces.Stroke ribbon) (rows_from grid top rows)
  in_rows ribbon i = elim (in_parts (pieces.Stroke ribbon) (rows_from grid top rows) end i) [
    | inl there ↦ there
    | inr last ↦ elim last [ inl e ↦ absurd cc | inr none ↦ absurd none ]
  ]

  in_lower : (ribbon : Ribbon) → IsIn (pieces.Stroke ribbon) lower → IsIn (pieces.Stroke ribbon) (rows_from grid top rows)
  in_lower ribbon i = elim (in_parts (pieces.Stroke ribbon) (bars_from grid greatest 0 bars) (rows_from grid top rows ++ end) i) [
    | inl bar ↦ absurd (no_bars grid greatest 0 bars ribbon bar)
    | inr more ↦ in_rows ribbon more
  ]

  in_picture : (ribbon : Ribbon) → IsIn (pieces.Stroke ribbon) (picture_of grid rows bars greatest records) → IsIn (pieces.Stroke ribbon) (rows_from grid top rows)
  in_picture ribbon i = elim (in_parts (pieces.Stroke ribbon) (front grid bottom greatest records) (ticks grid bottom ++ lower) i) [
    | inl first ↦ absurd (no_front grid bottom greatest records ribbon first)
    | inr more ↦ elim (in_parts (pieces.Stroke ribbon) (ticks grid bottom) lower more) [
      | inl tick ↦ absurd (no_ticks grid bottom ribbon tick)
      | inr rest ↦ in_lower ribbon rest
    ]
  ]

  -- each stroke is one of a row
  pub picture_stroke : (ribbon : Ribbon) → IsIn (pieces.Stroke ribbon) (picture_of grid rows bars greatest records)
      → IsOfRow grid (picture_of grid rows bars greatest records) rows ribbon
  picture_stroke ribbon i =
      let s = stroke_of_row grid top rows ribbon (in_picture ribbon i) in
      record {
        row = s.row;
        y = s.y;
        there = s.there;
        laid =
            laid_right (front grid bottom greatest records)
            (laid_right (ticks grid bottom) (laid_right (bars_from grid greatest 0 bars)
            (laid_left end s.laid)));
        stroke = s.stroke;
      }
