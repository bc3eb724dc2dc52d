-- The rows of flows, and by which channels the copies of a frame come.
use Rattle.std.{specs.{Option.option_map_or, Prelude.{◌&&◌, ◌==◌, slice_get}}}
use Rattle.std.proofs.{lemmas.{Bool.{Decides.nat_tests, false≢true}, List.{Sums.fold-append, append-nil}}}
use Rattle.std.proofs.Common
use Common.{if◌then◌else◌, ◌++◌, ◌+◌, ◌∙◌, ◌∷◌, ◌≡◌, ◌≤◌, ◌⊎◌, Bool, List, None, Option, Some, [], add-one, ap}
use Common.{append_assoc, arith, false, fold, inl, inr, length, length-append, refl, subst, suc, sym, true, zero, ℕ}
use Rattle.lens_flows.specs.declared.judge.flow.Flow.{Flow}
use Rattle.lens_overview.proofs.{LawStrokes.same_shade, LawTexts.is_flow}
use Rattle.lens_overview.proofs.LawRows
use LawRows.{Brings, brings_delivered, brought_delivered, come_brought, cycle_of_copy, flow_of_copy, frame_after}
use LawRows.{frame_behind, is_copy, is_own, never_missing, told_from}
use Rattle.lens_overview.specs.{Cells.{Missed, cells_of, flow_cells, is_alike, is_any}}
use Rattle.lens_overview.specs.{Labels.{is_of_vl, with_receiver}, LawColours.{ComesBy, IsRepeatedIn, IsSentBy}}
use Rattle.lens_overview.specs.{LawParts.{IsDeliveredIn, IsRowOf}}
use Rattle.lens_overview.specs.{News.{change_at, change_of, news_of, repeats_by, struck}}
use Rattle.lens_overview.specs.{Ranges.{all_below, each_below}}
use Rattle.lens_overview.specs.{Shades.{code_of, delivered, is_blank, is_same, repeated}}
use Rattle.lens_overview.specs.Rows
use Rows.{Row, ToldSoFar, calm_below, count_rows, filled_row, is_like, is_turned, joined, lane_at, lane_rows, losses}
use Rows.{others_row, passage_rows, passages_at, raised, rows_of, start_of, title_row, upper_rows, with_flows}
use Rattle.lens_overview.specs.declared.{label.{Kind.Kind, Label.Label}, news.{Change.Change, Copied.Copied, News.News}}
use Rattle.lens_overview.specs.declared.{rows.Calm.Calm, shade.Shade.{Shade, TheVariants.Blank}}
use Rattle.net_plan.{proofs.SameIds.same_vl}
use Rattle.net_plan.specs.declared.{event.What.What, ids.{DeviceId.DeviceId, LinkId.LinkId, VlId.VlId}}
use Rattle.net_plan.specs.declared.{network.Network.Network, tables.Device.Device}
use Rattle.run_law.{proofs.runs.Places.{in_left, in_parts, in_right}}
use Rattle.run_law.specs.{declared.note.{Note.Note, NoteBody.NoteBody}, records.{Happenings.Happening, Order.IsIn}}
use Rattle.run_law.specs.{scenario.{Devices.channel_of_link, Scenarios.Scenario}}
use Rattle.tte_units.{proofs.general_lemmas.Options.{mapped, one}}
use Rattle.tte_units.{specs.declared.frames.channel.Channel.{Channel, TheVariants.{A, B}}}
use Rattle.lens_overview.specs.declared.label.Group.TheVariants as groups
use Rattle.lens_overview.specs.declared.label.Kind.TheVariants as kinds
use Rattle.lens_overview.specs.declared.label.Label.TheVariants as labels
use Rattle.lens_overview.specs.declared.news.Change.TheVariants as changes
use Rattle.lens_overview.specs.declared.shade.Shade.TheVariants as shades
use Rattle.net_plan.specs.declared.event.What.TheVariants as events
use Rattle.net_plan.specs.declared.tables.Way.TheVariants as ways
use Rattle.run_law.specs.declared.judgement.Reason.TheVariants as reasons
use Rattle.run_law.specs.declared.note.NoteBody.TheVariants as notes

-- ---- by which channels the copies of a frame come, and its shade: what a shade says of a channel

-- a copy came by the channel
abbrev pub has : Channel → Shade → Bool
has A shades.AloneA = true
has A shades.Both = true
has B shades.AloneB = true
has B shades.Both = true
has channel shade = false

delivered_has : (shade : Shade) (channel : Channel) → code_of shade ≤ 3 → has channel (delivered shade (Some channel)) ≡ true
delivered_has shades.Blank A most = refl
delivered_has shades.Blank B most = refl
delivered_has shades.Both A most = refl
delivered_has shades.Both B most = refl
delivered_has shades.AloneA A most = refl
delivered_has shades.AloneA B most = refl
delivered_has shades.AloneB A most = refl
delivered_has shades.AloneB B most = refl
delivered_has shade channel most = absurd (omega (arith, most))

delivered_keeps : (shade : Shade) (by channel : Channel) → code_of shade ≤ 3 → has channel shade ≡ true
    → has channel (delivered shade (Some by)) ≡ true
delivered_keeps shades.Blank by A most e = absurd (false≢true e)
delivered_keeps shades.Blank by B most e = absurd (false≢true e)
delivered_keeps shades.Both A channel most e = e
delivered_keeps shades.Both B channel most e = e
delivered_keeps shades.AloneA A channel most e = e
delivered_keeps shades.AloneA B A most e = refl
delivered_keeps shades.AloneA B B most e = refl
delivered_keeps shades.AloneB A A most e = refl
delivered_keeps shades.AloneB A B most e = refl
delivered_keeps shades.AloneB B channel most e = e
delivered_keeps shade by channel most e = absurd (omega (arith, most))

delivered_new : (shade : Shade) (by channel : Channel) → code_of shade ≤ 3 → has channel (delivered shade (Some by)) ≡ true
    → (has channel shade ≡ true) ⊎ (by ≡ channel)
delivered_new shade A A most e = inr refl
delivered_new shade B B most e = inr refl
delivered_new shades.Blank A B most e = absurd (false≢true e)
delivered_new shades.Blank B A most e = absurd (false≢true e)
delivered_new shades.Both A B most e = inl refl
delivered_new shades.Both B A most e = inl refl
delivered_new shades.AloneA A B most e = absurd (false≢true e)
delivered_new shades.AloneA B A most e = inl refl
delivered_new shades.AloneB A B most e = inl refl
delivered_new shades.AloneB B A most e = absurd (false≢true e)
delivered_new shade by channel most e = absurd (omega (arith, most))

has_seen : (shade : Shade) (channel : Channel) → has channel shade ≡ true → is_blank shade ≡ false
has_seen shades.Both channel e = refl
has_seen shades.AloneA channel e = refl
has_seen shades.AloneB channel e = refl
has_seen shade A e = absurd (false≢true e)
has_seen shade B e = absurd (false≢true e)

pub both_is : (shade : Shade) → has A shade ≡ true → has B shade ≡ true → shade ≡ shades.Both
both_is shades.Both a b = refl
both_is shades.AloneA a b = absurd (false≢true b)
both_is shade a b = absurd (false≢true a)

pub first_is : (shade : Shade) → has A shade ≡ true → (has B shade ≡ true → ⊥) → shade ≡ shades.AloneA
first_is shades.AloneA a b = refl
first_is shades.Both a b = absurd (b refl)
first_is shade a b = absurd (false≢true a)

pub second_is : (shade : Shade) → has B shade ≡ true → (has A shade ≡ true → ⊥) → shade ≡ shades.AloneB
second_is shades.AloneB b a = refl
second_is shades.Both b a = absurd (a refl)
second_is shade b a = absurd (false≢true b)

-- ---- what a record tells of a copy

vl_in : VlId → Change → VlId
vl_in d (changes.Sends vl cycle) = vl
vl_in d change = d

cycle_in : Change → ℕ
cycle_in (changes.Sends vl cycle) = cycle
cycle_in change = 0

copied_in : Copied → Change → Copied
copied_in d (changes.Repeats copied) = copied
copied_in d change = d

struck_sends : (what : What) (vl : VlId) (cycle : ℕ) → struck what ≡ changes.Sends vl cycle → ⊥
struck_sends (events.Break device) vl cycle e = cc
struck_sends (events.Cut link way) vl cycle e = cc
struck_sends (events.Heal link way) vl cycle e = cc
struck_sends what vl cycle e = cc

repeats_sends : (network : Network) (device : DeviceId) (link : LinkId) (o : Option Change) (vl : VlId) (cycle : ℕ)
    → repeats_by network device link o ≡ changes.Sends vl cycle → ⊥
repeats_sends network device link None vl cycle e = cc
repeats_sends network device link (Some (changes.Sends v c)) vl cycle e = cc
repeats_sends network device link (Some other) vl cycle e = cc

-- only a record that sends a frame tells so
sending : (network : Network) (before : List News) (body : NoteBody) (vl : VlId) (cycle : ℕ) → change_of network before body ≡ changes.Sends vl cycle
    → (device : DeviceId) × (link : LinkId) × (cause : ℕ) × (body ≡ notes.TtSent device link cause vl cycle)
unfolding vl_in cycle_in
sending network before (notes.Event line what) vl cycle e = absurd (struck_sends what vl cycle e)
sending network before (notes.TtSent device link cause v c) vl cycle e = (
  device,
  link,
  cause,
  ap (λ (x : VlId). notes.TtSent device link cause x c) (ap (vl_in vl) e) ∙ ap (λ (n : ℕ). notes.TtSent device link cause vl n) (ap cycle_in e),
)
sending network before (notes.Dropped device link cause reasons.Repeat) vl cycle e =
    absurd (repeats_sends network device link (change_at before cause) vl cycle e)
sending network before body vl cycle e = absurd cc

-- the record drops the second copy
record IsRepeating (network : Network) (before : List News) (body : NoteBody) (copied : Copied) : Type 0 where
  pub link : LinkId
  pub cause : ℕ
  pub is : body ≡ notes.Dropped copied.device link cause reasons.Repeat
  pub by : copied.channel ≡ channel_of_link network link
  pub sent : change_at before cause ≡ Some (changes.Sends copied.vl copied.cycle)

struck_repeats : (what : What) (copied : Copied) → struck what ≡ changes.Repeats copied → ⊥
struck_repeats (events.Break device) copied e = cc
struck_repeats (events.Cut link way) copied e = cc
struck_repeats (events.Heal link way) copied e = cc
struck_repeats what copied e = cc

repeating : (network : Network) (before : List News) (body : NoteBody) (copied : Copied) → change_of network before body ≡ changes.Repeats copied
    → IsRepeating network before body copied
unfolding copied_in
repeating network before (notes.Event line what) copied e = absurd (struck_repeats what copied e)
repeating network before (notes.Dropped device link cause reasons.Repeat) copied e = by (change_at before cause) refl e
  where
    by : (o : Option Change) → change_at before cause ≡ o → repeats_by network device link o ≡ changes.Repeats copied
        → IsRepeating network before (notes.Dropped device link cause reasons.Repeat) copied
    by None sent e = absurd cc
    by (Some (changes.Sends vl cycle)) sent e =
        let made : Copied = record { vl = vl; device = device; cycle = cycle; channel = channel_of_link network link } in
        let same : made ≡ copied = ap (copied_in copied) e in
        record {
          link = link;
          cause = cause;
          is = ap (λ (x : Copied). notes.Dropped x.device link cause reasons.Repeat) same;
          by = sym (ap (λ (x : Copied). x.channel) same);
          sent = sent ∙ ap (λ (x : Copied). Some (changes.Sends x.vl x.cycle)) same;
        }
    by (Some other) sent e = absurd cc
repeating network before body copied e = absurd cc

module _ (vl : VlId) (device : DeviceId) (cycle : ℕ) where
  -- a second copy of the frame comes by a channel
  record BringsMore (change : Change) : Type 0 where
    pub copied : Copied
    pub is : change ≡ changes.Repeats copied
    pub copy : is_copy vl device cycle copied ≡ true
    pub channel : Channel
    pub by : copied.channel ≡ Some channel

  -- the record delivers the frame, or drops a second copy, or makes nothing of its shade
  effect : (change : Change)
      → Brings vl device cycle change ⊎ BringsMore change ⊎ ((shade : Shade) → frame_after vl device cycle change shade ≡ shade)
  effect (changes.Delivers copied) = by (is_copy vl device cycle copied) refl copied.channel refl
    where
      by : (b : Bool) → is_copy vl device cycle copied ≡ b → (o : Option Channel) → copied.channel ≡ o
          → Brings vl device cycle (changes.Delivers copied) ⊎ BringsMore (changes.Delivers copied)
          ⊎ ((shade : Shade) → (if b then delivered shade copied.channel else shade) ≡ shade)
      by false e o is = inr (inr (λ shade. refl))
      by true e None is = inr (inr (λ shade. ap (λ x. delivered shade x) is))
      by true e (Some channel) is = inl (record { copied = copied; is = refl; copy = e; channel = channel; by = is })
  effect (changes.Repeats copied) = by (is_copy vl device cycle copied) refl copied.channel refl
    where
      none : (shade : Shade) (b : Bool) → (if b then shade else delivered shade None) ≡ shade
      none shade true = refl
      none shade false = refl

      by : (b : Bool) → is_copy vl device cycle copied ≡ b → (o : Option Channel) → copied.channel ≡ o
          → Brings vl device cycle (changes.Repeats copied) ⊎ BringsMore (changes.Repeats copied)
          ⊎ ((shade : Shade) → (if b then repeated shade copied.channel else shade) ≡ shade)
      by false e o is = inr (inr (λ shade. refl))
      by true e None is = inr (inr (λ shade. ap (λ x. repeated shade x) is ∙ none shade (is_blank shade)))
      by true e (Some channel) is = inr (inl (record { copied = copied; is = refl; copy = e; channel = channel; by = is }))
  effect change = inr (inr (λ shade. refl))

  -- what a delivery makes of it, and a second copy
  after_delivery : (change : Change) (shade : Shade) → (b : Brings vl device cycle change)
      → frame_after vl device cycle change shade ≡ delivered shade (Some b.channel)
  after_delivery change shade b =
      ap (λ c. frame_after vl device cycle c shade) b.is
      ∙ ap (λ (t : Bool). if t then delivered shade b.copied.channel else shade) b.copy ∙ ap (λ o. delivered shade o) b.by

  after_repeat : (change : Change) (shade : Shade) → (b : BringsMore change)
      → frame_after vl device cycle change shade ≡ repeated shade (Some b.channel)
  after_repeat change shade b =
      ap (λ c. frame_after vl device cycle c shade) b.is
      ∙ ap (λ (t : Bool). if t then repeated shade b.copied.channel else shade) b.copy ∙ ap (λ o. repeated shade o) b.by

  repeated_keeps : (shade : Shade) (by channel : Channel) → code_of shade ≤ 3 → has channel shade ≡ true → has channel (repeated shade (Some by)) ≡ true
  repeated_keeps shade by channel most e = at (is_blank shade)
    where
      at : (t : Bool) → has channel (if t then shade else delivered shade (Some by)) ≡ true
      at true = e
      at false = delivered_keeps shade by channel most e

  -- a copy that came is never forgotten
  after_keeps : (change : Change) (shade : Shade) (channel : Channel) → code_of shade ≤ 3 → has channel shade ≡ true
      → has channel (frame_after vl device cycle change shade) ≡ true
  after_keeps change shade channel most e = elim (effect change) [
    | inl b ↦ ap (has channel) (after_delivery change shade b) ∙ delivered_keeps shade b.channel channel most e
    | inr more ↦ elim more [
      | inl b ↦ ap (has channel) (after_repeat change shade b) ∙ repeated_keeps shade b.channel channel most e
      | inr none ↦ ap (has channel) (none shade) ∙ e
    ]
  ]

-- ---- records, one after another

-- the last of records is among the first, or stands behind them
last_or_first : (before rest ns : List Note) (note x : Note) → ns ++ x ∷ [] ≡ before ++ note ∷ rest
    → ((ns ≡ before) × (x ≡ note)) ⊎ ((more : List Note) × (ns ≡ before ++ note ∷ more))
last_or_first [] rest [] note x e = inl (refl, cc)
last_or_first [] rest (n ∷ ns) note x e = let same : n ≡ note = cc in inr (ns, ap (λ (m : Note). m ∷ ns) same)
last_or_first (b ∷ []) rest [] note x e = absurd cc
last_or_first (b ∷ c ∷ before) rest [] note x e = absurd cc
last_or_first (b ∷ before) rest (n ∷ ns) note x e =
    let same : n ≡ b = cc in
    let others : ns ++ x ∷ [] ≡ before ++ note ∷ rest = cc in
    elim (last_or_first before rest ns note x others) [
      | inl h ↦ inl (ap (λ (m : Note). m ∷ ns) same ∙ ap (λ (ms : List Note). b ∷ ms) h.0, h.1)
      | inr h ↦ inr (h.0, ap (λ (m : Note). m ∷ ns) same ∙ ap (λ (ms : List Note). b ∷ ms) h.1)
    ]

module _ (network : Network) (s : Scenario) (hs : List Happening) where
  -- what is told of each record
  abbrev AreTold : List Note → List News → Type 0
  AreTold [] [] = Unit {0}
  AreTold (note ∷ ns) (news ∷ fs) = ((before : List News) × (news ≡ news_of network s hs before note)) × AreTold ns fs
  AreTold ns fs = ⊥

  told_more : (ns : List Note) (fs before : List News) (note : Note) → AreTold ns fs → AreTold (ns ++ note ∷ []) (fs ++ news_of network s hs before note ∷ [])
  told_more [] [] before note told = ((before, refl), tt)
  told_more [] (f ∷ fs) before note told = absurd told
  told_more (n ∷ ns) [] before note told = absurd told
  told_more (n ∷ ns) (f ∷ fs) before note told = (told.0, told_more ns fs before note told.1)

  news_there : (ns : List Note) (fs : List News) (k : ℕ) (note : Note) → AreTold ns fs → slice_get ns k ≡ Some note
      → (before : List News) × (slice_get fs k ≡ Some (news_of network s hs before note))
  news_there [] fs zero note told e = absurd cc
  news_there [] fs (suc k) note told e = absurd cc
  news_there (n ∷ ns) [] k note told e = absurd told
  news_there (n ∷ ns) (f ∷ fs) zero note told e =
      let same : n ≡ note = one (Some n) n note refl e in (
        told.0.0,
        ap (λ (x : News). Some x) told.0.1 ∙ ap (λ x. Some (news_of network s hs told.0.0 x)) same,
      )
  news_there (n ∷ ns) (f ∷ fs) (suc k) note told e = news_there ns fs k note told.1 e

  note_there : (ns : List Note) (fs : List News) (k : ℕ) (news : News) → AreTold ns fs → slice_get fs k ≡ Some news
      → (note : Note) × (before : List News) × (slice_get ns k ≡ Some note) × (news ≡ news_of network s hs before note)
  note_there ns [] zero news told e = absurd cc
  note_there ns [] (suc k) news told e = absurd cc
  note_there [] (f ∷ fs) k news told e = absurd told
  note_there (n ∷ ns) (f ∷ fs) zero news told e =
      let same : f ≡ news = one (Some f) f news refl e in (n, told.0.0, refl, sym same ∙ told.0.1)
  note_there (n ∷ ns) (f ∷ fs) (suc k) news told e = note_there ns fs k news told.1 e

  -- the record that a copy comes from
  sent_by : (ns : List Note) (fs : List News) (cause : ℕ) (vl : VlId) (cycle : ℕ) → AreTold ns fs
      → change_at fs cause ≡ Some (changes.Sends vl cycle) → IsSentBy ns cause vl cycle
  sent_by ns fs zero vl cycle told e = absurd cc
  sent_by ns fs (suc k) vl cycle told e =
      let at = mapped (λ (n : News). n.change) (slice_get fs k) (changes.Sends vl cycle) e in
      let h = note_there ns fs k at.0 told at.1 in
      let sends : change_of network h.1 h.0.body ≡ changes.Sends vl cycle = sym (ap (λ (n : News). n.change) h.3) ∙ at.2 in
      let is = sending network h.1 h.0.body vl cycle sends in
      record {
        place = k;
        counted = sym (add-one k);
        note = h.0;
        there = h.2;
        device = is.0;
        link = is.1;
        cause = is.2;
        is = is.3;
      }

  by_sent : (ns : List Note) (fs : List News) (cause : ℕ) (vl : VlId) (cycle : ℕ) → AreTold ns fs
      → IsSentBy ns cause vl cycle → change_at fs cause ≡ Some (changes.Sends vl cycle)
  by_sent ns fs cause vl cycle told sent =
      let h = news_there ns fs sent.place sent.note told sent.there in
      ap (change_at fs) (sent.counted ∙ add-one sent.place)
      ∙ ap (λ (o : Option News). Rattle.std.specs.Prelude.option_map (λ (n : News). n.change) o) h.1
      ∙ ap (λ body. Some (change_of network h.0 body)) sent.is

  module _ (flow : Flow) (cycle : ℕ) where
    abbrev told : List Note → List News
    told ns = told_from network s hs [] ns

    -- the shade of the flow's frame of the cycle
    abbrev pub shade_by : List Note → Shade
    shade_by ns = frame_behind flow.vl flow.device cycle shades.Blank (told ns)

    -- it says by which channels copies come
    pub record IsKnown (ns : List Note) : Type 0 where
      pub told : AreTold ns (told ns)
      pub comes : (channel : Channel) → has channel (shade_by ns) ≡ true → ComesBy network ns flow cycle channel
      pub shows : (channel : Channel) → ComesBy network ns flow cycle channel → has channel (shade_by ns) ≡ true

    most : (ns : List Note) → code_of (shade_by ns) ≤ 3
    most ns = never_missing flow.vl flow.device cycle (told ns)

    -- what came stays
    delivered_longer : (ns more : List Note) → (d : IsDeliveredIn network ns flow cycle)
        → (e : IsDeliveredIn network (ns ++ more) flow cycle) × (e.channel ≡ d.channel)
    delivered_longer ns more d = (
      record {
        note = d.note;
        there = in_left d.note ns more d.there;
        link = d.link;
        cause = d.cause;
        is = d.is;
        channel = d.channel;
        by = d.by;
      },
      refl,
    )

    comes_longer : (ns : List Note) (x : Note) (channel : Channel) → ComesBy network ns flow cycle channel
        → ComesBy network (ns ++ x ∷ []) flow cycle channel
    comes_longer ns x channel (inl (d, same)) = let h = delivered_longer ns (x ∷ []) d in inl (h.0, h.1 ∙ same)
    comes_longer ns x channel (inr r) = inr (record {
      before = r.before;
      note = r.note;
      rest = r.rest ++ x ∷ [];
      there = ap (λ (ms : List Note). ms ++ x ∷ []) r.there ∙ append_assoc r.before (r.note ∷ r.rest) (x ∷ []);
      link = r.link;
      cause = r.cause;
      is = r.is;
      by = r.by;
      sent = r.sent;
      delivered = r.delivered;
    })

    -- what a record makes of the shade
    shade_next : (ns : List Note) (x : Note)
        → shade_by (ns ++ x ∷ []) ≡ frame_after flow.vl flow.device cycle (change_of network (told ns) x.body) (shade_by ns)
    shade_next ns x =
        ap (frame_behind flow.vl flow.device cycle shades.Blank) (fold-append _ _ ns (x ∷ []))
        ∙ fold-append _ _ (told ns) (news_of network s hs (told ns) x ∷ [])

    -- where the frame is not blank, a record delivers it
    seen_delivered : (ns : List Note) → is_blank (shade_by ns) ≡ false → IsDeliveredIn network ns flow cycle
    seen_delivered ns seen =
        let some : 1 ≤ code_of (shade_by ns) = grind (arith, nat_tests, seen) in
        let h = come_brought flow.vl flow.device cycle (told ns) shades.Blank refl some in
        brought_delivered network s hs ns flow cycle h.0 h.1 h.2

    -- a second copy that a record drops behind a delivery
    repeat_new : (ns : List Note) (x : Note) → IsKnown ns → is_blank (shade_by ns) ≡ false
        → (b : BringsMore flow.vl flow.device cycle (change_of network (told ns) x.body))
        → IsRepeatedIn network (ns ++ x ∷ []) flow cycle b.channel
    repeat_new ns x known seen b =
        let h = repeating network (told ns) x.body b.copied b.is in
        let own = flow_of_copy flow.vl flow.device cycle b.copied b.copy in
        let at = cycle_of_copy flow.vl flow.device cycle b.copied b.copy in
        record {
          before = ns;
          note = x;
          rest = [];
          there = refl;
          link = h.link;
          cause = h.cause;
          is = h.is ∙ ap (λ (d : DeviceId). notes.Dropped d h.link h.cause reasons.Repeat) own.1;
          by = sym h.by ∙ b.by;
          sent = sent_by ns (told ns) h.cause flow.vl cycle known.told
              (h.sent ∙ ap (λ (v : VlId). Some (changes.Sends v b.copied.cycle)) own.0 ∙ ap (λ (c : ℕ). Some (changes.Sends flow.vl c)) at);
          delivered = seen_delivered ns seen;
        }

    next_comes : (ns : List Note) (x : Note) → IsKnown ns → (channel : Channel)
        → has channel (frame_after flow.vl flow.device cycle (change_of network (told ns) x.body) (shade_by ns)) ≡ true
        → ComesBy network (ns ++ x ∷ []) flow cycle channel
    next_comes ns x known channel e = elim (effect flow.vl flow.device cycle (change_of network (told ns) x.body)) [
      | inl b ↦
          let now = sym (ap (has channel) (after_delivery flow.vl flow.device cycle (change_of network (told ns) x.body) (shade_by ns) b)) ∙ e in
          elim (delivered_new (shade_by ns) b.channel channel (most ns) now) [
            | inl old ↦ comes_longer ns x channel (known.comes channel old)
            | inr own ↦
                let h = brings_delivered network s hs (ns ++ x ∷ []) flow cycle (told ns) x (in_right x ns (x ∷ []) (inl refl)) b in
                inl (h.0, h.1 ∙ own)
          ]
      | inr more ↦ elim more [
        | inl b ↦
            let now = sym (ap (has channel) (after_repeat flow.vl flow.device cycle (change_of network (told ns) x.body) (shade_by ns) b)) ∙ e in
            by_repeat b (is_blank (shade_by ns)) refl now
        | inr none ↦ comes_longer ns x channel (known.comes channel (sym (ap (has channel) (none (shade_by ns))) ∙ e))
      ]
    ]
      where
        by_repeat : (b : BringsMore flow.vl flow.device cycle (change_of network (told ns) x.body)) → (t : Bool) → is_blank (shade_by ns) ≡ t
            → has channel (if t then shade_by ns else delivered (shade_by ns) (Some b.channel)) ≡ true
            → ComesBy network (ns ++ x ∷ []) flow cycle channel
        by_repeat b true blank now = comes_longer ns x channel (known.comes channel now)
        by_repeat b false seen now = elim (delivered_new (shade_by ns) b.channel channel (most ns) now) [
          | inl old ↦ comes_longer ns x channel (known.comes channel old)
          | inr own ↦ inr (subst (IsRepeatedIn network (ns ++ x ∷ []) flow cycle) own (repeat_new ns x known seen b))
        ]

    next_shows : (ns : List Note) (x : Note) → IsKnown ns → (channel : Channel) → ComesBy network (ns ++ x ∷ []) flow cycle channel
        → has channel (frame_after flow.vl flow.device cycle (change_of network (told ns) x.body) (shade_by ns)) ≡ true
    next_shows ns x known channel (inl (d, same)) = elim (in_parts d.note ns (x ∷ []) d.there) [
      | inl i ↦
          let old : IsDeliveredIn network ns flow cycle =
          record { note = d.note; there = i; link = d.link; cause = d.cause; is = d.is; channel = d.channel; by = d.by } in
          kept (known.shows channel (inl (old, same)))
      | inr last ↦ elim last [ inl is ↦ new is | inr none ↦ absurd none ]
    ]
      where
        kept : has channel (shade_by ns) ≡ true
            → has channel (frame_after flow.vl flow.device cycle (change_of network (told ns) x.body) (shade_by ns)) ≡ true
        kept e = after_keeps flow.vl flow.device cycle (change_of network (told ns) x.body) (shade_by ns) channel (most ns) e

        new : d.note ≡ x → has channel (frame_after flow.vl flow.device cycle (change_of network (told ns) x.body) (shade_by ns)) ≡ true
        new is =
            let body : x.body ≡ notes.Delivered flow.device d.link d.cause flow.vl cycle = sym (ap (λ (n : Note). n.body) is) ∙ d.is in
            let brings : Brings flow.vl flow.device cycle (change_of network (told ns) x.body) =
            record {
              copied = record { vl = flow.vl; device = flow.device; cycle = cycle; channel = channel_of_link network d.link };
              is = ap (change_of network (told ns)) body;
              copy = is_own flow.vl flow.device cycle (channel_of_link network d.link);
              channel = d.channel;
              by = d.by;
            } in
            ap (has channel) (after_delivery flow.vl flow.device cycle (change_of network (told ns) x.body) (shade_by ns) brings)
            ∙ subst (λ c. has c (delivered (shade_by ns) (Some d.channel)) ≡ true) same (delivered_has (shade_by ns) d.channel (most ns))
    next_shows ns x known channel (inr r) = elim (last_or_first r.before r.rest ns r.note x r.there) [
      | inl h ↦ new h.0 h.1
      | inr h ↦
          let old : IsRepeatedIn network ns flow cycle channel =
          record {
            before = r.before;
            note = r.note;
            rest = h.0;
            there = h.1;
            link = r.link;
            cause = r.cause;
            is = r.is;
            by = r.by;
            sent = r.sent;
            delivered = r.delivered;
          } in
          after_keeps flow.vl flow.device cycle (change_of network (told ns) x.body) (shade_by ns) channel (most ns) (known.shows channel (inr old))
    ]
      where
        new : ns ≡ r.before → x ≡ r.note
            → has channel (frame_after flow.vl flow.device cycle (change_of network (told ns) x.body) (shade_by ns)) ≡ true
        new all is =
            let body : x.body ≡ notes.Dropped flow.device r.link r.cause reasons.Repeat = ap (λ (n : Note). n.body) is ∙ r.is in
            let sent = by_sent ns (told ns) r.cause flow.vl cycle known.told
            (subst (λ ms. IsSentBy ms r.cause flow.vl cycle) (sym all) r.sent) in
            let d = subst (λ ms. IsDeliveredIn network ms flow cycle) (sym all) r.delivered in
            let seen = has_seen (shade_by ns) d.channel (known.shows d.channel (inl (d, refl))) in
            let more : BringsMore flow.vl flow.device cycle (change_of network (told ns) x.body) =
            record {
              copied = record { vl = flow.vl; device = flow.device; cycle = cycle; channel = channel_of_link network r.link };
              is = ap (change_of network (told ns)) body ∙ ap (repeats_by network flow.device r.link) sent;
              copy = is_own flow.vl flow.device cycle (channel_of_link network r.link);
              channel = channel;
              by = r.by;
            } in
            ap (has channel) (after_repeat flow.vl flow.device cycle (change_of network (told ns) x.body) (shade_by ns) more)
            ∙ ap (λ (t : Bool). has channel (if t then shade_by ns else delivered (shade_by ns) (Some channel))) seen
            ∙ delivered_has (shade_by ns) channel (most ns)

    known_next : (ns : List Note) (x : Note) → IsKnown ns → IsKnown (ns ++ x ∷ [])
    known_next ns x known = record {
      told =
          subst (AreTold (ns ++ x ∷ [])) (sym (fold-append _ _ ns (x ∷ []))) (told_more ns (told ns) (told ns) x known.told);
      comes = λ channel e. next_comes ns x known channel (sym (ap (has channel) (shade_next ns x)) ∙ e);
      shows = λ channel come. ap (has channel) (shade_next ns x) ∙ next_shows ns x known channel come;
    }

    none_repeated : (channel : Channel) → IsRepeatedIn network [] flow cycle channel → ⊥
    none_repeated channel r = at r.before r.there
      where
        at : (before : List Note) → [] ≡ before ++ r.note ∷ r.rest → ⊥
        at [] e = cc
        at (b ∷ before) e = cc

    known_none : IsKnown []
    known_none = record {
      told = tt;
      comes = λ channel e. absurd (false≢true (sym (has_seen shades.Blank channel e)));
      shows = λ channel come. elim come [ inl h ↦ absurd h.0.there | inr r ↦ absurd (none_repeated channel r) ];
    }

    known_all : (ns rest : List Note) → IsKnown ns → IsKnown (ns ++ rest)
    known_all ns [] known = subst IsKnown (sym (append-nil ns)) known
    known_all ns (x ∷ rest) known = subst IsKnown (append_assoc ns (x ∷ []) rest) (known_all (ns ++ x ∷ []) rest (known_next ns x known))

    pub known_of : (ns : List Note) → IsKnown ns
    known_of ns = known_all [] ns known_none

    -- a frame of which a copy came is delivered
    pub come_delivered : (ns : List Note) (channel : Channel) → ComesBy network ns flow cycle channel → IsDeliveredIn network ns flow cycle
    come_delivered ns channel (inl (d, same)) = d
    come_delivered ns channel (inr r) =
        subst (λ ms. IsDeliveredIn network ms flow cycle) (sym r.there) (delivered_longer r.before (r.note ∷ r.rest) r.delivered).0

-- ---- the rows of flows: rows of other things

-- none of the rows is one of a virtual link's frames
abbrev pub AreOther : List Row → Type 0
AreOther rows = (row : Row) → IsIn row rows → is_flow row.label ≡ false

other_both : (rs ss : List Row) → AreOther rs → AreOther ss → AreOther (rs ++ ss)
other_both rs ss first second row i = elim (in_parts row rs ss i) [ inl l ↦ first row l | inr r ↦ second row r ]

other_none : AreOther []
other_none row i = absurd i

other_one : (r : Row) → is_flow r.label ≡ false → AreOther (r ∷ [])
other_one r other row (inl is) = ap (λ (x : Row). is_flow x.label) is ∙ other
other_one r other row (inr none) = absurd none

other_if : (b : Bool) (rs ss : List Row) → AreOther rs → AreOther ss → AreOther (if b then rs else ss)
other_if true rs ss first second = first
other_if false rs ss first second = second

other_below : (rows_at : ℕ → List Row) (n : ℕ) → ((k : ℕ) → AreOther (rows_at k)) → AreOther (all_below rows_at n)
other_below rows_at zero each = other_none
other_below rows_at (suc n) each = other_both (all_below rows_at n) (rows_at n) (other_below rows_at n each) (each n)

other_filled : (told : ToldSoFar) (label : Label) → is_flow label ≡ false → AreOther (filled_row told label)
other_filled told label other =
    let cells = cells_of told.grid told.news label Blank in
    other_if (is_any cells) (record { label = label; cells = cells } ∷ []) [] (other_one (record { label = label; cells = cells }) other) other_none

-- the lane of a device at the place
abbrev lane_of : ToldSoFar → ℕ → Device → List Row
lane_of told k d =
    if is_turned told.news (record { 0 = k })
    then record { label = labels.Lane (record { 0 = k }); cells = cells_of told.grid told.news (labels.Lane (record { 0 = k })) (start_of d.start) } ∷ []
    else []

other_lane : (network : Network) (told : ToldSoFar) (k : ℕ) → AreOther (lane_at network told k)
other_lane network told k = by (slice_get network.device k)
  where
    by : (o : Option Device) → AreOther (option_map_or (lane_of told k) o [])
    by None = other_none
    by (Some d) = other_if (is_turned told.news (record { 0 = k })) _ [] (other_one _ refl) other_none

other_others : (told : ToldSoFar) (calm : Calm) → AreOther (others_row told calm)
other_others told calm = other_if (calm.synchronised == 0 && calm.off == 0) [] _ other_none (other_one _ refl)

other_counts : (told : ToldSoFar) (all : List Kind) → AreOther (count_rows told all)
other_counts told [] = other_none
other_counts told (kind ∷ all) =
    other_both (filled_row told (labels.Count kind)) (count_rows told all) (other_filled told (labels.Count kind) refl) (other_counts told all)

other_passages : (told : ToldSoFar) (k : ℕ) → AreOther (passages_at told k)
other_passages told k =
    other_both (filled_row told (labels.Passage (record { 0 = k }) ways.Up)) (filled_row told (labels.Passage (record { 0 = k }) ways.Down))
    (other_filled told (labels.Passage (record { 0 = k }) ways.Up) refl) (other_filled told (labels.Passage (record { 0 = k }) ways.Down) refl)

pub other_upper : (network : Network) (told : ToldSoFar) → AreOther (upper_rows network told)
other_upper network told =
    let events = filled_row told (labels.Count kinds.Event) in
    let states = title_row groups.States in
    let lanes = lane_rows network told in
    let cuts = title_row groups.Ways in
    let passages = passage_rows network told in
    let flows = title_row groups.Flows in
    other_both (events ++ states ++ lanes ++ cuts ++ passages) flows
    (other_both (events ++ states ++ lanes ++ cuts) passages
    (other_both (events ++ states ++ lanes) cuts
    (other_both (events ++ states) lanes
    (other_both events states (other_filled told (labels.Count kinds.Event) refl) (other_one _ refl))
    (other_both (all_below (lane_at network told) (length network.device)) (others_row told (calm_below network told.news (length network.device)))
    (other_below (lane_at network told) (length network.device) (other_lane network told))
    (other_others told (calm_below network told.news (length network.device)))))
    (other_one _ refl))
    (other_below (passages_at told) (length network.link) (other_passages told)))
    (other_one _ refl)

-- ---- rows of flows

alike_same : (xs ys : List Shade) → is_alike xs ys ≡ true → xs ≡ ys
alike_same [] [] e = refl
alike_same [] (y ∷ ys) e = absurd (false≢true e)
alike_same (x ∷ xs) [] e = absurd (false≢true e)
alike_same (x ∷ xs) (y ∷ ys) e = by (is_same x y) refl e (alike_same xs ys)
  where
    by : (b : Bool) → is_same x y ≡ b → (b && is_alike xs ys) ≡ true → (is_alike xs ys ≡ true → xs ≡ ys) → x ∷ xs ≡ y ∷ ys
    by true same rest more = ap (λ (z : Shade). z ∷ xs) (same_shade x y same) ∙ ap (λ (zs : List Shade). y ∷ zs) (more rest)
    by false same rest more = absurd (false≢true rest)

flow_row : (label : Label) (flow : Flow) → IsRowOf label flow → is_flow label ≡ true
flow_row label flow (inl is) = ap is_flow is
flow_row label flow (inr (count, is)) = ap is_flow is

-- it stays so with one receiver more
more_row : (label : Label) (flow : Flow) → IsRowOf label flow → IsRowOf (with_receiver label) flow
more_row label flow (inl is) = inr (2, ap with_receiver is)
more_row label flow (inr (count, is)) = inr (_, ap with_receiver is)

-- and is one of the flow that joins it
with_row : (label : Label) (flow : Flow) → is_of_vl label flow.vl ≡ true → IsRowOf (with_receiver label) flow
with_row (labels.Flow vl device) flow of =
    let same : vl.0 ≡ flow.vl.0 = grind (arith, nat_tests, of) in
    inr (2, ap (λ (v : VlId). labels.Flows v 2) (same_vl vl flow.vl same))
with_row (labels.Flows vl count) flow of =
    let same : vl.0 ≡ flow.vl.0 = grind (arith, nat_tests, of) in
    inr (_, ap (λ (v : VlId). with_receiver (labels.Flows v count)) (same_vl vl flow.vl same))
with_row label flow of = absurd (false≢true of)

module _ (cells_for : Flow → List Shade) where
  -- these rows have one of the flow, with its cells
  pub record IsRowIn (rows : List Row) (flow : Flow) : Type 0 where
    pub row : Row
    pub there : IsIn row rows
    pub of_flow : IsRowOf row.label flow
    pub cells : row.cells ≡ cells_for flow

  -- the row is one of some of these flows, with its cells
  pub record IsOfSome (flows : List Flow) (row : Row) : Type 0 where
    pub flow : Flow
    pub among : IsIn flow flows
    pub of_flow : IsRowOf row.label flow
    pub cells : row.cells ≡ cells_for flow

  -- where the flow joins rows
  abbrev add : Flow → List Row → List Row
  add flow rows = joined flow (cells_for flow) rows

  like_parts : (flow : Flow) (r : Row) → is_like flow.vl (cells_for flow) r ≡ true
      → (is_of_vl r.label flow.vl ≡ true) × (r.cells ≡ cells_for flow)
  like_parts flow r e = by (is_of_vl r.label flow.vl) refl e
    where
      by : (b : Bool) → is_of_vl r.label flow.vl ≡ b → (b && is_alike r.cells (cells_for flow)) ≡ true
          → (is_of_vl r.label flow.vl ≡ true) × (r.cells ≡ cells_for flow)
      by true of rest = (of, alike_same r.cells (cells_for flow) rest)
      by false of rest = absurd (false≢true rest)

  -- it has a row
  add_new : (flow : Flow) (rows : List Row) → IsRowIn (add flow rows) flow
  add_new flow [] = record {
    row = record { label = labels.Flow flow.vl flow.device; cells = cells_for flow };
    there = inl refl;
    of_flow = inl refl;
    cells = refl;
  }
  add_new flow (r ∷ rows) = by (is_like flow.vl (cells_for flow) r) refl (add_new flow rows)
    where
      by : (b : Bool) → is_like flow.vl (cells_for flow) r ≡ b → IsRowIn (add flow rows) flow
          → IsRowIn (if b then raised r ∷ rows else r ∷ add flow rows) flow
      by true e more =
          let like = like_parts flow r e in
          record { row = raised r; there = inl refl; of_flow = with_row r.label flow like.0; cells = like.1 }
      by false e more = record { row = more.row; there = inr more.there; of_flow = more.of_flow; cells = more.cells }

  -- and those that had one still have
  add_old : (flow other : Flow) (rows : List Row) → IsRowIn rows other → IsRowIn (add flow rows) other
  add_old flow other [] has = absurd has.there
  add_old flow other (r ∷ rows) has = by (is_like flow.vl (cells_for flow) r) has.there (add_old flow other rows)
    where
      by : (b : Bool) → (has.row ≡ r) ⊎ IsIn has.row rows → (IsRowIn rows other → IsRowIn (add flow rows) other)
          → IsRowIn (if b then raised r ∷ rows else r ∷ add flow rows) other
      by true (inl is) more = record {
        row = raised r;
        there = inl refl;
        of_flow = more_row r.label other (subst (λ (x : Row). IsRowOf x.label other) is has.of_flow);
        cells = sym (ap (λ (x : Row). x.cells) is) ∙ has.cells;
      }
      by true (inr i) more = record { row = has.row; there = inr i; of_flow = has.of_flow; cells = has.cells }
      by false (inl is) more = record { row = has.row; there = inl is; of_flow = has.of_flow; cells = has.cells }
      by false (inr i) more =
          let rest = more (record { row = has.row; there = i; of_flow = has.of_flow; cells = has.cells }) in
          record { row = rest.row; there = inr rest.there; of_flow = rest.of_flow; cells = rest.cells }

  -- each of these rows that is one of frames is one of some flow
  abbrev pub AreOfSome : List Flow → List Row → Type 0
  AreOfSome flows rows = (row : Row) → IsIn row rows → is_flow row.label ≡ true → IsOfSome flows row

  flow_of_vl : (label : Label) (vl : VlId) → is_of_vl label vl ≡ true → is_flow label ≡ true
  flow_of_vl (labels.Flow other device) vl of = refl
  flow_of_vl (labels.Flows other count) vl of = refl
  flow_of_vl label vl of = absurd (false≢true of)

  add_some : (flows : List Flow) (flow : Flow) (rows : List Row) → IsIn flow flows → AreOfSome flows rows → AreOfSome flows (add flow rows)
  add_some flows flow [] among each row (inl is) f = record {
    flow = flow;
    among = among;
    of_flow = inl (ap (λ (x : Row). x.label) is);
    cells = ap (λ (x : Row). x.cells) is;
  }
  add_some flows flow [] among each row (inr none) f = absurd none
  add_some flows flow (r ∷ rows) among each row i f =
      by (is_like flow.vl (cells_for flow) r) refl i (add_some flows flow rows among (λ x j g. each x (inr j) g))
    where
      by : (b : Bool) → is_like flow.vl (cells_for flow) r ≡ b → IsIn row (if b then raised r ∷ rows else r ∷ add flow rows)
          → AreOfSome flows (add flow rows) → IsOfSome flows row
      by true e (inl is) more =
          let like = like_parts flow r e in
          record {
            flow = flow;
            among = among;
            of_flow = subst (λ x. IsRowOf x flow) (sym (ap (λ (x : Row). x.label) is)) (with_row r.label flow like.0);
            cells = ap (λ (x : Row). x.cells) is ∙ like.1;
          }
      by true e (inr i) more = each row (inr i) f
      by false e (inl is) more = each row (inl is) f
      by false e (inr i) more = more row i f

  -- ---- all flows

  abbrev add_all : List Row → List Flow → List Row
  add_all rows flows = fold (λ rows flow. joined flow (cells_for flow) rows) rows flows

  pub each_has : (flows : List Flow) (rows : List Row) (flow : Flow) → IsRowIn rows flow ⊎ IsIn flow flows → IsRowIn (add_all rows flows) flow
  each_has [] rows flow (inl has) = has
  each_has [] rows flow (inr none) = absurd none
  each_has (f ∷ flows) rows flow (inl has) = each_has flows (add f rows) flow (inl (add_old f flow rows has))
  each_has (f ∷ flows) rows flow (inr (inl is)) =
      each_has flows (add f rows) flow (inl (subst (λ (x : Flow). IsRowIn (add f rows) x) (sym is) (add_new f rows)))
  each_has (f ∷ flows) rows flow (inr (inr i)) = each_has flows (add f rows) flow (inr i)

  pub only_some : (all flows : List Flow) (rows : List Row) → ((flow : Flow) → IsIn flow flows → IsIn flow all) → AreOfSome all rows
      → AreOfSome all (add_all rows flows)
  only_some all [] rows among each = each
  only_some all (f ∷ flows) rows among each =
      only_some all flows (add f rows) (λ x i. among x (inr i)) (add_some all f rows (among f (inl refl)) each)

-- ---- the rows of a picture

module _ (network : Network) (told : ToldSoFar) (missed : List Missed) (flows : List Flow) where
  -- the cells of a flow
  abbrev pub cells_in : Flow → List Shade
  cells_in flow = flow_cells told.grid told.news told.last missed flow.vl flow.device

  abbrev rows : List Row
  rows = rows_of network told missed flows

  pub flow_has : (flow : Flow) → IsIn flow flows → IsRowIn cells_in rows flow
  flow_has flow i =
      let upper = with_flows told missed (upper_rows network told) flows in
      let losses = title_row groups.Losses in
      let counts = count_rows told losses_kinds in
      let h = each_has cells_in flows (upper_rows network told) flow (inr i) in
      record {
        row = h.row;
        there = in_left h.row (upper ++ losses) counts (in_left h.row upper losses h.there);
        of_flow = h.of_flow;
        cells = h.cells;
      }
    where
      losses_kinds : List Kind
      losses_kinds = losses

  pub row_is : (row : Row) → IsIn row rows → is_flow row.label ≡ true → IsOfSome cells_in flows row
  row_is row i f =
      let upper = with_flows told missed (upper_rows network told) flows in
      let title = title_row groups.Losses in
      let counts = count_rows told losses in
      elim (in_parts row (upper ++ title) counts i) [
        | inl above ↦ elim (in_parts row upper title above) [
          | inl there ↦
              only_some cells_in flows flows (upper_rows network told) (λ x j. j)
              (λ r j g. absurd (false≢true (sym (other_upper network told r j) ∙ g))) row there f
          | inr last ↦ absurd (false≢true (sym (other_one (record { label = labels.Title groups.Losses; cells = [] }) refl row last) ∙ f))
        ]
        | inr below ↦ absurd (false≢true (sym (other_counts told losses row below) ∙ f))
      ]

-- ---- how many cells there are

long_each : {X : Type 0} (f : ℕ → X) (n : ℕ) → length (each_below f n) ≡ n
long_each f zero = refl
long_each f (suc n) =
    let more = length-append (each_below f n) (f n ∷ []) in
    let rest = long_each f n in
    omega (arith, more, rest)

pub long_flow : (network : Network) (told : ToldSoFar) (missed : List Missed) (flow : Flow) → length (cells_in network told missed [] flow) ≡ told.grid.columns
long_flow network told missed flow = long_each _ told.grid.columns
