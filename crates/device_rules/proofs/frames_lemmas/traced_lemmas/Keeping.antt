-- What a trace keeps of its records, as further records and octets come.
use Rattle.std.proofs.Common
use Common.{◌++◌, ◌∙◌, ◌∷◌, ◌≡◌, List, None, Option, Some, [], ap, arith, drop, length-append, length-drop, refl, subst}
use Common.{suc, sym, take, zero, ℕ}
use Rattle.std.proofs.lemmas.{Option.slice_get-map}
use Rattle.std.proofs.lemmas.List.{Elements.{All-append, All-cons, All-nil}, append-nil, drop-append-le, map-append}
use Rattle.std.proofs.lemmas.List.{take-append-le}
use Rattle.std.specs.{List.All, Option.option_map_or}
use Rattle.std.specs.{Prelude.{Err, Ok, Result, cond, is_ok, map, option_and_then, option_map}}
use Rattle.device_rules.specs.{declared.frames.traced.kept.{KeptFrame.KeptFrame, SentPiece.SentPiece}}
use Rattle.device_rules.specs.frames.traced.{RecordOctets.{octets_of, record_octets}}
use Rattle.device_rules.specs.frames.traced.Keeping
use Keeping.{Grows, IsHeld, IsPieceOf, Keeps, TraceView, Traced, at_number, came, kept_frame, kept_octets, kept_shown}
use Keeping.{piece_in, traced, traced_by, view_of, views_of}
use Rattle.net_plan.specs.declared.network.Network.{Network}
use Rattle.pcf_codec.specs.Decoding.{decoded}
use Rattle.run_law.{proofs.runs.NetworkRuns.one_more}
use Rattle.run_law.specs.{declared.note.Note.Note}
use Rattle.run_law.specs.{records.Happenings.{Happening, frame_from, frame_in, happenings, numbered, octets_from}}
use Rattle.tte_units.proofs.general_lemmas.Lists.{in_all}
use Rattle.device_rules.specs.declared.frames.traced.kept.KeptFrame.TheVariants as kept

-- ---- what is kept stays as it is while more octets of `send` events come

-- nothing more is a growth too
pub grows_same : (xs : List ℕ) → Grows xs xs
grows_same xs = ([], sym (append-nil xs))

module _ (pool more : List ℕ) where
  piece_grows : {piece : SentPiece} → IsPieceOf pool piece → piece_in (pool ++ more) piece ≡ piece_in pool piece
  piece_grows h = grind (arith, take, drop-append-le, take-append-le, drop, length-drop)

  pub piece_stays : {piece : SentPiece} → IsPieceOf pool piece → IsPieceOf (pool ++ more) piece
  piece_stays h =
      let there = h.there in
      record { there = omega (arith, length-append pool more); most = h.most }

  held_grows : (k : KeptFrame) → IsHeld pool k → IsHeld (pool ++ more) k
  held_grows (kept.Send piece) h = piece_stays h
  held_grows (kept.Came piece) h = piece_stays h
  held_grows other h = tt

abbrev the_send : List ℕ → Traced
the_send o = record { frame = frame_in (decoded o); octets = o; shown = Some o }

view_grows : (network : Network) (pool more : List ℕ) (k : KeptFrame) → IsHeld pool k → view_of network (pool ++ more) k ≡ view_of network pool k
view_grows network pool more (kept.Send piece) h = ap the_send (piece_grows pool more h)
view_grows network pool more (kept.Came piece) h = ap came (piece_grows pool more h)
view_grows network pool more other h = refl

-- all are held where more octets stand
pub all_grow : (pool new : List ℕ) (ks : List KeptFrame) → Grows pool new → All (IsHeld pool) ks → All (IsHeld new) ks
all_grow pool new ks (more, e) h = rw e (λ i x lt. held_grows pool more _ (h i x lt))

-- and all are seen as they were
views_grow : (network : Network) (pool more : List ℕ) (ks : List KeptFrame) → All (IsHeld pool) ks
    → views_of network (pool ++ more) ks ≡ views_of network pool ks
views_grow network pool more [] h = refl
views_grow network pool more (k ∷ ks) h =
    let first = h 0 k (omega arith) in
    let rest : All (IsHeld pool) ks = λ i x lt. h (suc i) x (omega arith) in
    rw (view_grows network pool more k first)
    ((rw (views_grow network pool more ks rest)))

-- ---- looking up by number what is kept of a record

-- what is kept of the record of this number is held
pub held_at : (pool : List ℕ) (ks : List KeptFrame) (n : ℕ) (k : KeptFrame) → All (IsHeld pool) ks → at_number ks n ≡ Some k → IsHeld pool k
held_at pool ks zero k h e = absurd cc
held_at pool ks (suc n) k h e = in_all (IsHeld pool) ks n k h e

then_map : {A B C : Type 0} (g : B → Option C) (f : A → B) (o : Option A) → option_and_then g (option_map f o) ≡ option_and_then (λ a. g (f a)) o
then_map g f None = refl
then_map g f (Some a) = refl

or_map : {A B C : Type 0} (g : B → C) (f : A → B) (o : Option A) (d : C) → option_map_or g (option_map f o) d ≡ option_map_or (λ a. g (f a)) o d
or_map g f None d = refl
or_map g f (Some a) d = refl

-- what is kept at a number is of the record of this number
seen_at : (f : KeptFrame → Traced) (ks : List KeptFrame) (hs : List Happening) (n : ℕ) → map f ks ≡ map traced hs
    → option_map f (at_number ks n) ≡ option_map traced (numbered hs n)
seen_at f ks hs zero e = refl
seen_at f ks hs (suc n) e = sym (slice_get-map f ks n) ∙ (rw e (slice_get-map traced hs n))

module _ (network : Network) (pool : List ℕ) (ks : List KeptFrame) (hs : List Happening) (n : ℕ)
    (e : views_of network pool ks ≡ map traced hs) where
  pub frame_at : option_and_then (kept_frame pool) (at_number ks n) ≡ frame_from hs n
  frame_at =
      sym (then_map (λ t. t.frame) (view_of network pool) (at_number ks n))
      ∙ (rw (seen_at (view_of network pool) ks hs n e)
      (then_map (λ t. t.frame) traced (numbered hs n)))

  pub octets_at : option_map_or (kept_octets network pool) (at_number ks n) [] ≡ octets_from hs n
  octets_at =
      sym (or_map (λ t. t.octets) (view_of network pool) (at_number ks n) [])
      ∙ (rw (seen_at (view_of network pool) ks hs n e)
      (or_map (λ t. t.octets) traced (numbered hs n) []))

  shown_at : option_and_then (kept_shown network pool) (at_number ks n)
      ≡ option_and_then record_octets (numbered hs n)
  shown_at =
      sym (then_map (λ t. t.shown) (view_of network pool) (at_number ks n))
      ∙ (rw (seen_at (view_of network pool) ks hs n e)
      (then_map (λ t. t.shown) traced (numbered hs n)))

-- ---- a trace takes a further record

-- all are held where one more is
pub one_more_held : (pool : List ℕ) (ks : List KeptFrame) (k : KeptFrame) → All (IsHeld pool) ks → IsHeld pool k → All (IsHeld pool) (ks ++ k ∷ [])
one_more_held pool ks k all one = All-append (IsHeld pool) ks (k ∷ []) all (All-cons (IsHeld pool) k [] one (All-nil (IsHeld pool)))

-- the records of a trace and one more
pub one_more_kept : (network : Network) (pool : List ℕ) (ks : List KeptFrame) (k : KeptFrame) (notes : List Note) (note : Note)
    → views_of network pool ks ≡ map traced (happenings network notes) → view_of network pool k ≡ traced_by network (happenings network notes) note.body
    → views_of network pool (ks ++ k ∷ []) ≡ map traced (happenings network (notes ++ note ∷ []))
one_more_kept network pool ks k notes note before one = grind (arith, map-append, one_more)

-- a trace with what it keeps of its records
abbrev pub the_trace : Network → List Traced → TraceView
the_trace network ts = record { network = network; records = ts }

-- with more octets the trace is as it was
pub trace_grows : (network : Network) (old : TraceView) (pool new : List ℕ) (ks : List KeptFrame) → the_trace network (views_of network pool ks) ≡ old
    → All (IsHeld pool) ks → Grows pool new → the_trace network (views_of network new ks) ≡ old
trace_grows network old pool new ks is all (more, e) = grind (arith, views_grow)

-- the records of a trace, for the network that it has
own_records : {network : Network} (own : Network) {old : TraceView} (ts : List Traced) {notes : List Note}
    → the_trace own ts ≡ old → Keeps network notes old → ts ≡ map traced (happenings own notes)
own_records {network} own ts {notes} is keeps =
    let same : own ≡ network = ap (λ t. t.network) is ∙ keeps.network_is in
    ap (λ t. t.records) is ∙ keeps.records_are ∙ ap (λ n. map traced (happenings n notes)) (sym same)

-- a trace with one more record keeps it too
pub trace_more : {network : Network} (own : Network) {old : TraceView} (pool new : List ℕ) (ks : List KeptFrame)
    (k : KeptFrame) {notes : List Note} (note : Note) → the_trace own (views_of own pool ks) ≡ old → All (IsHeld pool) ks
    → Grows pool new → ((hs : List Happening) → views_of own pool ks ≡ map traced hs
    → view_of own new k ≡ traced_by own hs note.body) → Keeps network notes old
    → Keeps network (notes ++ note ∷ []) (the_trace own (views_of own new (ks ++ k ∷ [])))
trace_more own pool new ks k note is all grows one keeps = grind (arith, own_records, trace_grows, one_more_kept)

-- what a trace shows of a number are the octets of its record
pub trace_shows : {network : Network} (own : Network) {old : TraceView} (pool : List ℕ) (ks : List KeptFrame)
    {notes : List Note} (number : ℕ) → the_trace own (views_of own pool ks) ≡ old → Keeps network notes old
    → option_and_then (kept_shown own pool) (at_number ks number) ≡ octets_of network notes number
trace_shows {network} own pool ks {notes} number is keeps =
    shown_at own pool ks (happenings network notes) number (ap (λ t. t.records) is ∙ keeps.records_are)

-- a failed push leaves the list
pub not_pushed : {T E : Type 0} (r : Result T E) (e : E) (ks new : List KeptFrame) (k : KeptFrame) → r ≡ Err e → new ≡ cond (is_ok r) (ks ++ k ∷ []) ks → new ≡ ks
not_pushed (Ok x) e ks new k is at = absurd cc
not_pushed (Err x) e ks new k is at = at

-- what holds of the list and of the list with one more holds after a push
pub after_push : {T E : Type 0} (P : List KeptFrame → Type 0) (r : Result T E) (ks new : List KeptFrame) (k : KeptFrame)
    → new ≡ cond (is_ok r) (ks ++ k ∷ []) ks → P ks → P (ks ++ k ∷ []) → P new
after_push P (Ok x) ks new k at before behind = subst P (sym at) behind
after_push P (Err x) ks new k at before behind = subst P (sym at) before
