-- The answer of `plan` for its two files: it is one, and what it tells to be impossible is so.
use Rattle.std.proofs.Common
use Common.{◌++◌, ◌+◌, ◌<◌, ◌∙◌, ◌∷◌, ◌≡◌, ◌≤◌, ◌⊎◌, Err, List, None, Ok, Option, Result, Some, [], ap, append_assoc}
use Common.{arith, get_or, inl, inr, map, nat_lt, refl, subst, suc, sym, take, zero, ℕ}
use Rattle.std.proofs.lemmas.{Bool.Decides.nat_tests, Grind.flat_map-append}
use Rattle.std.proofs.lemmas.{Option.{get_or_from_slice_get, slice_get-get_or, slice_get_within}}
use Rattle.std.proofs.lemmas.List.{Elements.{All-append, All-cons, All-head, All-nil, All-tail, filter_map-append}}
use Rattle.std.proofs.lemmas.List.{Folds.concat-append, Splits.length-slice_split, Sums.count_by-le-length, append-nil}
use Rattle.std.proofs.lemmas.List.{length-append, map-append, take_more}
use Rattle.std.specs.{Fmt.decimal, List.{All, AllZip, concat, cons_option, filter_map, find, flat_map, range_with_len}}
use Rattle.std.specs.{Option.option_map_or}
use Rattle.std.specs.{Prelude.{◌-◌, ◌==◌, Bool, IfSome, codes, cond, false, length, slice_get, true}}
use Rattle.lens_plan.proofs.{Attempts.own_attempt, PlanOne.{none_one, plan_one, plan_or_none}}
use Rattle.lens_plan.proofs.{Serving.{excess_is_impossible, tree_kept, unfit_is_impossible}}
use Rattle.lens_plan.specs.{Laws.{AreImpossible, ExcessIsTrue, ImpossibleIsTrue, IsImpossible}}
use Rattle.lens_plan.specs.{Reading.{IsNoMessages, MeansItsText, no_messages_answer}}
use Rattle.lens_plan.specs.{joining.Joined.{IsNoJoin, joined, text_of}}
use Rattle.lens_plan.specs.Answer.{ArePlanLines, IsJoinedAnswer, IsNoJoinTold, IsPlanAnswer, IsPlanFor, IsPlanOf}
use Rattle.lens_plan.specs.Answer.{IsToldBy, MeansMessages, TellsOf}
use Rattle.lens_plan.specs.declared.{joining.joined.NoJoin.NoJoin}
use Rattle.lens_plan.specs.declared.{reading.{NetworkText.NetworkText, NoMessageFile.NoMessageFile}}
use Rattle.lens_plan.specs.declared.{text.line.PlanLine.PlanLine}
use Rattle.lens_plan.specs.declared.messages.refusal.{LineFault.{LineFault, TheVariants.{OutOfMemory, Refused}}}
use Rattle.lens_plan.specs.declared.messages.refusal.{MessageRefusal.{MessageRefusal, TheVariants.Long}}
use Rattle.lens_plan.specs.declared.messages.refusal.{NoMessages.NoMessages, RefusedLine.RefusedLine}
use Rattle.lens_plan.specs.declared.places.{best.Attempt.Attempt}
use Rattle.lens_plan.specs.declared.places.{limits.Excess.{Excess, TheVariants.{Rows, RowsOf, VirtualLinks}}}
use Rattle.lens_plan.specs.declared.places.{moving.NoOrder.NoOrder, offsets.Taken.Taken, placing.Placed.Placed}
use Rattle.lens_plan.specs.declared.places.{planning.NoPlan.NoPlan, scoring.Score.Score}
use Rattle.lens_plan.specs.messages.{Message.Message, Reading.{message_read, message_reader}}
use Rattle.lens_plan.specs.messages.{Steps.{IsFault, Read, outcome}}
use Rattle.lens_plan.specs.messages.Lines
use Lines.{AreNoMessages, fault_at, is_lf, is_passed, line_limit, lines_of, messages_from, messages_read, refused_line}
use Rattle.lens_plan.specs.places.{Fitting.{IsBestBehind, IsUnfit}, InOrder.{row_by, rows_in_order}}
use Rattle.lens_plan.specs.places.{Limits.IsWithinLimits, Moving.{IsNoOrder, IsUnplaced}, Placing.IsOrdered}
use Rattle.lens_plan.specs.places.{Planning.{IsNoPlan, IsPlaceOf, IsPlan, no_order}, Same.{IsSameAttempt, IsSameNoPlan}}
use Rattle.lens_plan.specs.places.{There.AreThere}
use Rattle.lens_plan.specs.text.{Blocks.{message_blocks, plan_lines, row_block, vl_block}}
use Rattle.lens_plan.specs.text.{Ids.{AreIds, IsIdBy, taken_ids}, Lines.plan_line}
use Rattle.lens_plan.specs.text.Refusals
use Refusals.{IsTellable, excess_line, line_refusal, message_text, row_limit, short_line, short_line_at, short_row}
use Refusals.{short_row_text}
use Rattle.net_plan.specs.{Belonging.HasLink, Paths.IsTree, declared.network.Network.Network}
use Rattle.trace_text.specs.Steps.{Words, words}
use Rattle.tte_forms.proofs.{Octets.{for_all, for_more}, Puts.{answer_widened, unput_answer}}
use Rattle.tte_forms.proofs.{networks.Answers.{answered_accepted, answered_none}}
use Rattle.tte_forms.specs.{Answering.{Answer, ForOctets, Gives, GivesAnswer, line_answer}, Putting.{PutsNone, Shown}}
use Rattle.tte_forms.specs.{networks.{Accepting.MeansAccepted, NoNetworks.{IsNoNetwork, no_network_answer}}}
use Rattle.tte_forms.specs.declared.{accepting.NoNetwork.NoNetwork}
use Rattle.tte_forms.specs.declared.status.Status.{Status}
use Rattle.tte_forms.specs.declared.status.Status.TheVariants
use TheVariants.{Done, MessagesRefused, NetworkRefused, PlanRefused, TooLong, WriteFault}
use Rattle.tte_units.proofs.general_lemmas.Lists.{got_within}
use Rattle.lens_plan.specs.declared.joining.joined.NoJoin.TheVariants as joins
use Rattle.lens_plan.specs.declared.places.moving.NoOrder.TheVariants as orders
use Rattle.lens_plan.specs.declared.places.planning.NoPlan.TheVariants as plans
use Rattle.lens_plan.specs.declared.reading.NoMessageFile.TheVariants as files
use Rattle.tte_forms.specs.declared.accepting.NoNetwork.TheVariants as causes

-- ---- the ids of messages, one after another

-- one more id
pub ids_more : (taken : List ℕ) (ms : List Message) (ids : List ℕ) (m : Message) (id : ℕ) → AreIds taken ms ids → IsIdBy (taken ++ ids) m.id id
    → AreIds taken (ms ++ m ∷ []) (ids ++ id ∷ [])
ids_more taken [] ids m id none is =
    let here : taken ++ ids ≡ taken = ap (λ (xs : List ℕ). taken ++ xs) none ∙ append-nil taken in
    (id, [], subst (λ xs. IsIdBy xs m.id id) here is, refl, ap (λ (xs : List ℕ). xs ++ id ∷ []) none)
ids_more taken (first ∷ ms) ids m id (one, others, own, rest, same) is =
    let here : taken ++ ids ≡ (taken ++ one ∷ []) ++ others = ap (λ (xs : List ℕ). taken ++ xs) same ∙ sym (append_assoc taken (one ∷ []) others) in (
      one,
      others ++ id ∷ [],
      own,
      ids_more (taken ++ one ∷ []) ms others m id rest (subst (λ xs. IsIdBy xs m.id id) here is),
      ap (λ (xs : List ℕ). xs ++ id ∷ []) same,
    )

-- the ids that one more message gives
pub given_more : (old now : List ℕ) (ms : List Message) (n : ℕ) (m : Message) {new : List ℕ} → n < length ms
    → now ≡ old ++ filter_map (λ k. k.id) (take n ms) → m ≡ get_or ms n m → new ≡ now ++ filter_map (λ k. k.id) (m ∷ [])
    → new ≡ old ++ filter_map (λ k. k.id) (take (n + 1) ms)
given_more old now ms n m within before at more =
    let next : take (n + 1) ms ≡ take n ms ++ m ∷ [] = take_more ms n m within ∙ ap (λ (k : Message). take n ms ++ k ∷ []) (sym at) in
    let parts = ap (filter_map (λ (k : Message). k.id)) next ∙ filter_map-append (λ (k : Message). k.id) (take n ms) (m ∷ []) in
    more ∙ ap (λ (xs : List ℕ). xs ++ filter_map (λ (k : Message). k.id) (m ∷ [])) before
    ∙ append_assoc old (filter_map (λ (k : Message). k.id) (take n ms)) (filter_map (λ (k : Message). k.id) (m ∷ []))
    ∙ ap (λ (xs : List ℕ). old ++ xs) (sym parts)

-- these are the ids of the first messages, and they were added to those that are taken
pub record AreFirstIds (taken : List ℕ) (ms : List Message) (n : ℕ) (ids now : List ℕ) : Type 0 where
  pub are : AreIds taken (take n ms) ids
  pub taken_now : now ≡ taken ++ ids
  pub small : All (λ id. id < 65536 + n) now
  pub counted : length ids ≡ n

pub ids_next : {taken : List ℕ} {ms : List Message} {n : ℕ} {ids : List ℕ} (more : List ℕ) {now : List ℕ}
    (new : List ℕ) (m : Message) (id : ℕ) {seen : List ℕ} → AreFirstIds taken ms n ids now → n < length ms
    → m ≡ get_or ms n m → seen ≡ now → IsIdBy seen m.id id → id ≤ 65536 + n → new ≡ now ++ id ∷ []
    → more ≡ ids ++ id ∷ [] → AreFirstIds taken ms (n + 1) more new
ids_next {taken} {ms} {n} {ids} more {now} new m id first within at same is bound longer other = record {
  are =
      let next : take (n + 1) ms ≡ take n ms ++ m ∷ [] = take_more ms n m within ∙ ap (λ (k : Message). take n ms ++ k ∷ []) (sym at) in
      let all = ids_more taken (take n ms) ids m id first.are (subst (λ xs. IsIdBy xs m.id id) (same ∙ first.taken_now) is) in
      subst (λ xs. AreIds taken (take (n + 1) ms) xs) (sym other) (subst (λ ks. AreIds taken ks (ids ++ id ∷ [])) (sym next) all);
  taken_now =
      longer ∙ ap (λ (xs : List ℕ). xs ++ id ∷ []) first.taken_now ∙ append_assoc taken ids (id ∷ []) ∙ ap (λ (xs : List ℕ). taken ++ xs) (sym other);
  small =
      let P = λ (k : ℕ). k < 65536 + (n + 1) in
      subst (All P) (sym longer) (All-append P now (id ∷ []) (All-weaken first.small) (All-cons P id [] (omega (arith, bound)) (All-nil P)));
  counted = let parts = ap length other ∙ length-append ids (id ∷ []) in let counted = first.counted in omega (arith, parts, counted);
}
  where
    All-weaken : All (λ k. k < 65536 + n) now → All (λ k. k < 65536 + (n + 1)) now
    All-weaken all k d lt = let less = all k d lt in omega (arith, less)

-- ---- what is told to be impossible is so

-- the answer for messages that are refused is no other
status_is : (l : List ℕ) (b : Answer) → line_answer PlanRefused l ≡ b → b.status ≡ PlanRefused
status_is l b same = sym (ap (λ (x : Answer). x.status) same)

not_too_long : TooLong ≡ PlanRefused → ⊥
not_too_long e = absurd cc

not_refused : NetworkRefused ≡ PlanRefused → ⊥
not_refused e = absurd cc

no_line : MessagesRefused ≡ PlanRefused → ⊥
no_line e = absurd cc

not_done : Done ≡ PlanRefused → ⊥
not_done e = absurd cc

not_joined : (octets l : List ℕ) {network : Network} {ms : List Message} (lines : List _)
    → IsJoinedAnswer octets network ms lines (line_answer PlanRefused l) → ⊥
not_joined octets l lines (inl h) = not_too_long (status_is l _ h.1)
not_joined octets l lines (inr (inl h)) = not_refused (status_is l _ h.2)
not_joined octets l lines (inr (inr h)) = not_done (status_is l _ h.1)

-- why there is no plan, for messages that were read
record IsToldOf (octets text l : List ℕ) : Type 0 where
  pub network : Network
  pub accepted : MeansAccepted octets network
  pub messages : List Message
  pub read : MeansMessages network text messages
  pub cause : NoPlan
  pub none : IsNoPlan network messages cause
  pub told : IsToldBy network messages cause (line_answer PlanRefused l)

told_of : {octets : List ℕ} (text l : List ℕ) → IsPlanAnswer text octets (line_answer PlanRefused l)
    → IsToldOf octets text l
told_of text l (inl h) = absurd (not_too_long (status_is l _ h.1))
told_of text l (inr (inl (refusal, none, same))) = absurd (not_refused (status_is l _ same))
told_of text l (inr (inr (inl (told, unfit, same)))) = absurd (not_refused (status_is l _ same))
told_of text l (inr (inr (inr (network, accepted, inl h)))) = absurd (not_too_long (status_is l _ h.1))
told_of text l (inr (inr (inr (network, accepted, inr (inl (line, none, same)))))) =
    absurd (no_line (status_is l _ same))
told_of {octets} text l (inr (inr (inr (network, accepted, inr (inr (ms, read, inr (lines, are, joined))))))) =
    absurd (not_joined octets l lines joined)
told_of text l (inr (inr (inr (network, accepted, inr (inr (ms, read, inl (cause, is, told))))))) =
    record { network = network; accepted = accepted; messages = ms; read = read; cause = cause; none = is; told = told }

-- ---- the lines

abbrev first_octet : List ℕ → ℕ
first_octet [] = 0
first_octet (octet ∷ line) = octet

abbrev first_line : List (List ℕ) → List ℕ
first_line [] = []
first_line (line ∷ lines) = line

line_is : (l k : List ℕ) → line_answer PlanRefused l ≡ line_answer PlanRefused k → l ≡ k
line_is l k same = ap (λ (a : Answer). first_line a.lines) same

module _ (network : Network) where
  -- each line begins with its word
  not_impossible : (excess : Excess) (rest : List ℕ) → codes "impossible " ++ rest ≡ excess_line network excess → ⊥
  not_impossible (VirtualLinks wants) rest same = let octet = ap first_octet same in omega (arith, octet)
  not_impossible (Rows wants) rest same = let octet = ap first_octet same in omega (arith, octet)
  not_impossible (RowsOf device wants) rest same = let octet = ap first_octet same in omega (arith, octet)

  not_unplaced : (o : Option Message) (a : Attempt) (rest : List ℕ)
      → codes "impossible " ++ rest ≡ option_map_or (λ m. short_line (codes "unplaced") network m a) o [] → ⊥
  not_unplaced None a rest same = let octet = ap first_octet same in omega (arith, octet)
  not_unplaced (Some m) a rest same = let octet = ap first_octet same in omega (arith, octet)

  not_rule : (o : Option Message) (a : Attempt) (rest : List ℕ)
      → codes "rule " ++ rest ≡ option_map_or (λ m. short_line (codes "impossible") network m a) o [] → ⊥
  not_rule None a rest same = let octet = ap first_octet same in omega (arith, octet)
  not_rule (Some m) a rest same = let octet = ap first_octet same in omega (arith, octet)

  no_rule : (o : Option Message) (a : Attempt) (rest : List ℕ)
      → codes "rule " ++ rest ≡ option_map_or (λ m. short_line (codes "unplaced") network m a) o [] → ⊥
  no_rule None a rest same = let octet = ap first_octet same in omega (arith, octet)
  no_rule (Some m) a rest same = let octet = ap first_octet same in omega (arith, octet)

-- what stands behind a word
abbrev behind : List ℕ → List ℕ → List ℕ
behind [] line = line
behind (o ∷ word) [] = []
behind (o ∷ word) (p ∷ line) = behind word line

-- a line of parts is its first part and the rest
parted : (a b c d e f g : List ℕ) → a ++ b ++ c ++ d ++ e ++ f ++ g ≡ a ++ (b ++ c ++ d ++ e ++ f ++ g)
parted [] b c d e f g = refl
parted (x ∷ a) b c d e f g = ap (λ (xs : List ℕ). x ∷ xs) (parted a b c d e f g)

-- the line names the message
named : (network : Network) (m : Message) (a : Attempt) (rest : List ℕ) → codes "impossible " ++ rest ≡ short_line (codes "impossible") network m a
    → (more : List ℕ) × (rest ≡ m.name ++ codes " " ++ more)
named network m a rest same =
    let row = option_map_or (short_row_text network m) (short_row network m a) [] in
    let more = codes "phase " ++ decimal a.phase ++ row ++ codes " short " ++ decimal a.score.short ++ codes "\n" in (
      more,
      ap (behind (codes "impossible ")) same
          ∙ parted m.name (codes " phase ") (decimal a.phase) row (codes " short ") (decimal a.score.short) (codes "\n")
          ∙ sym (append_assoc m.name (codes " ") more),
    )

module _ (octets text rest : List ℕ) (network : Network) (ms : List Message) (accepted : MeansAccepted octets network)
    (read : MeansMessages network text ms) where
  by_impossible : (cause : NoPlan) → IsNoPlan network ms cause → IsToldBy network ms cause (line_answer PlanRefused (codes "impossible " ++ rest))
      → IsImpossible octets text rest
  by_impossible plans.OutOfMemory none told = absurd told
  by_impossible (plans.Excess excess) none told =
      absurd (not_impossible network excess rest (line_is (codes "impossible " ++ rest) (excess_line network excess) told))
  by_impossible (plans.Unplaced place a) none told =
      absurd (not_unplaced network (slice_get ms place) a rest
      (line_is (codes "impossible " ++ rest) (short_line_at (codes "unplaced") network ms place a) told))
  by_impossible (plans.Impossible place a) (limits, (there, are, unfit)) told =
      let line = line_is (codes "impossible " ++ rest) (short_line_at (codes "impossible") network ms place a) told in
      let m = unfit.message in
      record {
        network = network;
        accepted = accepted;
        messages = ms;
        read = read;
        message = m;
        there = (place, slice_get_within ms place m unfit.there, get_or_from_slice_get ms place m m unfit.there);
        named = named network m a rest
            (line ∙ ap (λ (o : Option Message). option_map_or (λ x. short_line (codes "impossible") network x a) o []) unfit.there);
        none = unfit_is_impossible (tree_kept network accepted.rules) are unfit;
      }

  by_excess : (cause : NoPlan) → IsNoPlan network ms cause → IsToldBy network ms cause (line_answer PlanRefused (codes "rule " ++ rest))
      → AreImpossible octets text
  by_excess plans.OutOfMemory none told = absurd told
  by_excess (plans.Excess excess) none told = record {
    network = network;
    accepted = accepted;
    messages = ms;
    read = read;
    none = excess_is_impossible ms excess (tree_kept network accepted.rules) none;
  }
  by_excess (plans.Unplaced place a) none told =
      absurd (no_rule network (slice_get ms place) a rest
      (line_is (codes "rule " ++ rest) (short_line_at (codes "unplaced") network ms place a) told))
  by_excess (plans.Impossible place a) none told =
      absurd (not_rule network (slice_get ms place) a rest
      (line_is (codes "rule " ++ rest) (short_line_at (codes "impossible") network ms place a) told))

pub impossible_is_true : ImpossibleIsTrue
impossible_is_true octets text rest is =
    let t = told_of text (codes "impossible " ++ rest) is in
    by_impossible octets text rest t.network t.messages t.accepted t.read t.cause t.none t.told

pub excess_is_true : ExcessIsTrue
excess_is_true octets text rest is =
    let t = told_of text (codes "rule " ++ rest) is in
    by_excess octets text rest t.network t.messages t.accepted t.read t.cause t.none t.told

-- ---- for two files there is one answer of `plan`: ids

id_one : (taken : List ℕ) (given : Option ℕ) (a b : ℕ) → IsIdBy taken given a → IsIdBy taken given b → a ≡ b
id_one taken (Some n) a b one other = one ∙ sym other
id_one taken None a b one other =
    let up = one.least b other.some other.new in
    let down = other.least a one.some one.new in
    omega (arith, up, down)

ids_one : (taken : List ℕ) (ms : List Message) (xs ys : List ℕ) → AreIds taken ms xs → AreIds taken ms ys → xs ≡ ys
ids_one taken [] xs ys one other = one ∙ sym other
ids_one taken (m ∷ ms) xs ys (a, as_, is, rest, same) (b, bs, its, more, equal) =
    let here = id_one taken m.id a b is its in
    let there = ids_one (taken ++ a ∷ []) ms as_ bs rest (subst (λ (k : ℕ). AreIds (taken ++ k ∷ []) ms bs) (sym here) more) in
    same ∙ ap (λ (k : ℕ). k ∷ as_) here ∙ ap (λ (ks : List ℕ). b ∷ ks) there ∙ sym equal

-- ---- lines

blocks_one : (network : Network) (m : Message) (id : ℕ) {a b : Attempt} → IsSameAttempt a b
    → message_blocks network m id a ≡ message_blocks network m id b
blocks_one network m id {a} {b} same =
    ap (λ f. vl_block network m id f ++ flat_map (row_block network m) (rows_in_order network a.placed.items)) same.phase
    ∙ ap (λ ps. vl_block network m id b.phase ++ flat_map (row_block network m) (rows_in_order network ps)) same.rows

lines_one : (network : Network) (ms : List Message) (ids : List ℕ) (xs ys : List Attempt) → AllZip IsSameAttempt xs ys
    → plan_lines network ms ids xs ≡ plan_lines network ms ids ys
lines_one network [] ids xs ys same = refl
lines_one network (m ∷ ms) [] xs ys same = refl
lines_one network (m ∷ ms) (id ∷ ids) [] [] same = refl
lines_one network (m ∷ ms) (id ∷ ids) [] (y ∷ ys) same = absurd same
lines_one network (m ∷ ms) (id ∷ ids) (x ∷ xs) [] same = absurd same
lines_one network (m ∷ ms) (id ∷ ids) (x ∷ xs) (y ∷ ys) same =
    ap (λ (ls : List PlanLine). ls ++ plan_lines network ms ids xs) (blocks_one network m id same.0)
    ∙ ap (λ (ls : List PlanLine). message_blocks network m id y ++ ls) (lines_one network ms ids xs ys same.1)

-- ---- the octets with these lines

joined_one : (octets : List ℕ) {network : Network} {ms : List Message} (lines : List PlanLine) (a b : Answer)
    → IsJoinedAnswer octets network ms lines a → IsJoinedAnswer octets network ms lines b → a ≡ b
joined_one octets lines a b (inl p) (inl q) = p.1 ∙ sym q.1
joined_one octets lines a b (inl p) (inr (inl q)) =
    absurd (let long = p.0 in let fits = q.0 in omega (arith, long, fits))
joined_one octets lines a b (inl p) (inr (inr q)) =
    absurd (let long = p.0 in let fits = q.0.accepted.fits in omega (arith, long, fits))
joined_one octets lines a b (inr (inl p)) (inl q) =
    absurd (let long = q.0 in let fits = p.0 in omega (arith, long, fits))
joined_one octets lines a b (inr (inl p)) (inr (inl q)) = p.2 ∙ sym q.2
joined_one octets lines a b (inr (inl p)) (inr (inr q)) = absurd (p.1 q.0)
joined_one octets lines a b (inr (inr p)) (inl q) =
    absurd (let long = q.0 in let fits = p.0.accepted.fits in omega (arith, long, fits))
joined_one octets lines a b (inr (inr p)) (inr (inl q)) = absurd (q.1 p.0)
joined_one octets lines a b (inr (inr p)) (inr (inr q)) = p.1 ∙ sym q.1

-- ---- messages

-- why there is no plan is told in one way, and not where there is one
pub record CausesAreOne (network : Network) (ms : List Message) : Type 0 where
  pub same : (one other : NoPlan) (a b : Answer) → IsNoPlan network ms one → IsNoPlan network ms other → IsToldBy network ms one a
      → IsToldBy network ms other b → a ≡ b
  pub never : (cause : NoPlan) (a : Answer) (attempts : List Attempt) → IsNoPlan network ms cause → IsToldBy network ms cause a
      → IsPlan network ms attempts → ⊥

plan_of_one : (octets : List ℕ) {network : Network} {ms : List Message} → IsTree network → CausesAreOne network ms
    → (a b : Answer) → IsPlanOf octets network ms a → IsPlanOf octets network ms b → a ≡ b
plan_of_one octets tree one a b (inl (cause, is, told)) (inl (other, its, says)) =
    one.same cause other a b is its told says
plan_of_one octets tree one a b (inl (cause, is, told)) (inr (lines, are, joined)) =
    absurd (one.never cause a are.attempts is told are.plan)
plan_of_one octets tree one a b (inr (lines, are, joined)) (inl (cause, is, told)) =
    absurd (one.never cause b are.attempts is told are.plan)
plan_of_one octets {network} {ms} tree one a b (inr (lines, are, p)) (inr (others, too, q)) =
    let ids = ids_one (taken_ids network ms) ms are.ids too.ids are.are_ids too.are_ids in
    let attempts = plan_one network ms are.attempts too.attempts tree are.plan too.plan in
    let same : lines ≡ others =
    are.are ∙ ap (λ k. plan_lines network ms k are.attempts) ids ∙ lines_one network ms too.ids are.attempts too.attempts attempts ∙ sym too.are in
    joined_one octets others a b (subst (λ ls. IsJoinedAnswer octets network ms ls a) same p) q

module _ (network : Network) (text : List ℕ) where
  no_both : (line : RefusedLine) (ms : List Message) → messages_read network text ≡ Err line
      → messages_read network text ≡ Ok ms → ⊥
  no_both line ms p q = cc

  same_line : (line other : RefusedLine) → messages_read network text ≡ Err line
      → messages_read network text ≡ Err other → line ≡ other
  same_line line other p q = cc

  same_messages : (ms others : List Message) → messages_read network text ≡ Ok ms
      → messages_read network text ≡ Ok others → ms ≡ others
  same_messages ms others p q = cc

plan_for_one : {text : List ℕ} (octets : List ℕ) {network : Network} → IsTree network
    → ((ms : List Message) → CausesAreOne network ms) → (a b : Answer) → IsPlanFor text octets network a
    → IsPlanFor text octets network b → a ≡ b
plan_for_one octets tree one a b (inl p) (inl q) = p.1 ∙ sym q.1
plan_for_one octets tree one a b (inl p) (inr (inl q)) =
    absurd (let long = p.0 in let fits = q.1.fits in omega (arith, long, fits))
plan_for_one octets tree one a b (inl p) (inr (inr q)) =
    absurd (let long = p.0 in let fits = q.1.fits in omega (arith, long, fits))
plan_for_one octets tree one a b (inr (inl p)) (inl q) =
    absurd (let long = q.0 in let fits = p.1.fits in omega (arith, long, fits))
plan_for_one {text} octets {network} tree one a b (inr (inl p)) (inr (inl q)) =
    p.2 ∙ ap (λ l. line_answer MessagesRefused (line_refusal l)) (same_line network text p.0 q.0 p.1.read q.1.read) ∙ sym q.2
plan_for_one {text} octets {network} tree one a b (inr (inl p)) (inr (inr q)) =
    absurd (no_both network text p.0 q.0 p.1.read q.1.read)
plan_for_one octets tree one a b (inr (inr p)) (inl q) =
    absurd (let long = q.0 in let fits = p.1.fits in omega (arith, long, fits))
plan_for_one {text} octets {network} tree one a b (inr (inr p)) (inr (inl q)) =
    absurd (no_both network text q.0 p.0 q.1.read p.1.read)
plan_for_one {text} octets {network} tree one a b (inr (inr p)) (inr (inr q)) =
    let same = same_messages network text q.0 p.0 q.1.read p.1.read in
    plan_of_one octets tree (one p.0) a b p.2 (subst (λ ms. IsPlanOf octets network ms b) same q.2)

-- ---- why there is no plan

-- the line by the phase, the rows and what is short
abbrev short_by : List ℕ → Network → Message → ℕ → List Placed → ℕ → List ℕ
short_by word network m phase ps short =
    message_text word m phase
    ++ option_map_or (short_row_text network m) (find (λ p. (p.end - row_limit network m p.hop) == short) (rows_in_order network ps)) []
    ++ codes " short " ++ decimal short ++ codes "\n"

short_line_one : (word : List ℕ) (network : Network) (m : Message) {a b : Attempt} → IsSameAttempt a b
    → short_line word network m a ≡ short_line word network m b
short_line_one word network m {a} {b} same =
    ap (λ f. short_by word network m f a.placed.items a.score.short) same.phase
    ∙ ap (λ ps. short_by word network m b.phase ps a.score.short) same.rows
    ∙ ap (λ (s : Score). short_by word network m b.phase b.placed.items s.short) same.score

line_at_one : (word : List ℕ) (network : Network) (ms : List Message) (place other : ℕ) {a b : Attempt}
    → place ≡ other → IsSameAttempt a b → short_line_at word network ms place a
    ≡ short_line_at word network ms other b
line_at_one word network ms place other {a} {b} here same =
    ap (λ k. short_line_at word network ms k a) here ∙ by (slice_get ms other)
  where
    by : (o : Option Message) → option_map_or (λ m. short_line word network m a) o [] ≡ option_map_or (λ m. short_line word network m b) o []
    by None = refl
    by (Some m) = short_line_one word network m same

module _ (network : Network) (ms : List Message) where
  told_one : (one other : NoPlan) (a b : Answer) → IsSameNoPlan one other → IsToldBy network ms one a
      → IsToldBy network ms other b → a ≡ b
  told_one plans.OutOfMemory other a b same told says = absurd told
  told_one (plans.Excess x) plans.OutOfMemory a b same told says = absurd says
  told_one (plans.Impossible place x) plans.OutOfMemory a b same told says = absurd says
  told_one (plans.Unplaced place x) plans.OutOfMemory a b same told says = absurd says
  told_one (plans.Excess x) (plans.Excess y) a b same told says =
      told ∙ ap (λ e. line_answer PlanRefused (excess_line network e)) same ∙ sym says
  told_one (plans.Impossible place x) (plans.Impossible other y) a b same told says =
      told ∙ ap (line_answer PlanRefused) (line_at_one (codes "impossible") network ms place other same.0 same.1)
      ∙ sym says
  told_one (plans.Unplaced place x) (plans.Unplaced other y) a b same told says =
      told ∙ ap (line_answer PlanRefused) (line_at_one (codes "unplaced") network ms place other same.0 same.1) ∙ sym
      says
  told_one one other a b same told says = absurd same

  told_never : (cause : NoPlan) (a : Answer) → cause ≡ plans.OutOfMemory → IsToldBy network ms cause a → ⊥
  told_never cause a same told = subst (λ c. IsToldBy network ms c a) same told

  causes_one : IsTree network → CausesAreOne network ms
  causes_one tree = record {
    same = λ one other a b is its told says. told_one one other a b (none_one network ms one other tree is its) told
        says;
    never = λ cause a attempts is told plan. told_never cause a (plan_or_none network ms attempts cause tree plan is)
        told;
  }

pub plan_one_for : {text : List ℕ} (octets : List ℕ) {network : Network} → IsTree network → (a b : Answer)
    → IsPlanFor text octets network a → IsPlanFor text octets network b → a ≡ b
plan_one_for {text} octets {network} tree = plan_for_one {text = text} octets tree (λ ms. causes_one network ms tree)

-- ---- the answer of `plan` for its two files

module _ (first second : Option (List ℕ)) (status : Status) (old new : Shown) where
  -- the answer for the two files
  abbrev pub PlanGiven : Type 0
  PlanGiven = ForOctets first (λ octets. ForOctets second (λ text. GivesAnswer (IsPlanAnswer text octets) status old new))

  pub plan_accepted : (file : NetworkText) → MeansItsText file → ForOctets first (λ octets. file.octets ≡ octets)
      → ForOctets second (λ text. GivesAnswer (IsPlanFor text file.octets file.accepted) status old new) → PlanGiven
  plan_accepted file means kept given =
      for_more first (λ octets. file.octets ≡ octets) (λ octets. ForOctets second (λ text. GivesAnswer (IsPlanAnswer text octets) status old new))
      (λ octets same. subst (λ (o : List ℕ). ForOctets second (λ text. GivesAnswer (IsPlanAnswer text o) status old new)) same
      (for_more second (λ text. GivesAnswer (IsPlanFor text file.octets file.accepted) status old new)
      (λ text. GivesAnswer (IsPlanAnswer text file.octets) status old new)
      (λ text g. answered_accepted (IsPlanFor text file.octets) (Some file.octets) file.accepted status old new means g) given)) kept

  pub plan_refused : (cause : NoNetwork) → ForOctets first (λ octets. IsNoNetwork octets cause) → Gives (no_network_answer cause) status old new
      → ((cause ≡ causes.ReadFault) ⊎ (cause ≡ causes.OutOfMemory) → (status ≡ WriteFault → ⊥) × PutsNone old new) → PlanGiven
  plan_refused cause none given unput =
      for_more first (λ octets. IsNoNetwork octets cause) (λ octets. ForOctets second (λ text. GivesAnswer (IsPlanAnswer text octets) status old new))
      (λ octets is. for_all second (λ text. GivesAnswer (IsPlanAnswer text octets) status old new)
      (λ text. answered_none (IsPlanFor text octets) (Some octets) cause status old new is given unput)) none

module _ (octets : List ℕ) (network : Network) (status : Status) (old new : Shown) where
  pub messages_given : (second : Option (List ℕ)) (ms : List Message) → ForOctets second (λ text. MeansMessages network text ms)
      → GivesAnswer (IsPlanOf octets network ms) status old new → ForOctets second (λ text. GivesAnswer (IsPlanFor text octets network) status old new)
  messages_given second ms read given =
      for_more second (λ text. MeansMessages network text ms) (λ text. GivesAnswer (IsPlanFor text octets network) status old new)
      (λ text means. answer_widened (IsPlanOf octets network ms) (IsPlanFor text octets network) status old new (λ a h. inr (inr (ms, means, h))) given) read

  no_messages_given : (text : List ℕ) (cause : NoMessageFile) → IsNoMessages network text cause → Gives (no_messages_answer cause) status old new
      → ((cause ≡ files.ReadFault) ⊎ (cause ≡ files.OutOfMemory) → (status ≡ WriteFault → ⊥) × PutsNone old new)
      → GivesAnswer (IsPlanFor text octets network) status old new
  no_messages_given text files.ReadFault is g unput =
      unput_answer (IsPlanFor text octets network) (no_messages_answer files.ReadFault) status old new (inl refl) (unput (inl refl)) g
  no_messages_given text files.OutOfMemory is g unput =
      unput_answer (IsPlanFor text octets network) (no_messages_answer files.OutOfMemory) status old new (inr refl) (unput (inr refl)) g
  no_messages_given text files.TooLong is g unput = inl (no_messages_answer files.TooLong, inl (is, refl), g)
  no_messages_given text (files.Refused line) is g unput = inl (no_messages_answer (files.Refused line), inr (inl (line, is, refl)), g)

  pub messages_refused : (second : Option (List ℕ)) (cause : NoMessageFile) → ForOctets second (λ text. IsNoMessages network text cause)
      → Gives (no_messages_answer cause) status old new
      → ((cause ≡ files.ReadFault) ⊎ (cause ≡ files.OutOfMemory) → (status ≡ WriteFault → ⊥) × PutsNone old new)
      → ForOctets second (λ text. GivesAnswer (IsPlanFor text octets network) status old new)
  messages_refused second cause none given unput =
      for_more second (λ text. IsNoMessages network text cause) (λ text. GivesAnswer (IsPlanFor text octets network) status old new)
      (λ text is. no_messages_given text cause is given unput) none

  module _ (ms : List Message) where
    pub no_join_given : (lines : List PlanLine) (cause : NoJoin) → IsNoJoin octets lines cause → GivesAnswer (IsNoJoinTold cause) status old new
        → GivesAnswer (IsJoinedAnswer octets network ms lines) status old new
    no_join_given lines joins.TooLong long given =
        answer_widened (IsNoJoinTold joins.TooLong) (IsJoinedAnswer octets network ms lines) status old new (λ a same. inl (long, same)) given
    no_join_given lines joins.OutOfMemory none given =
        answer_widened (IsNoJoinTold joins.OutOfMemory) (IsJoinedAnswer octets network ms lines) status old new (λ a told. absurd told) given

    pub lines_given : (lines : List PlanLine) → ArePlanLines network ms lines → GivesAnswer (IsJoinedAnswer octets network ms lines) status old new
        → GivesAnswer (IsPlanOf octets network ms) status old new
    lines_given lines are given =
        answer_widened (IsJoinedAnswer octets network ms lines) (IsPlanOf octets network ms) status old new (λ a h. inr (lines, are, h)) given

    pub no_plan_given : (cause : NoPlan) → IsNoPlan network ms cause → GivesAnswer (IsToldBy network ms cause) status old new
        → GivesAnswer (IsPlanOf octets network ms) status old new
    no_plan_given cause is given =
        answer_widened (IsToldBy network ms cause) (IsPlanOf octets network ms) status old new (λ a h. inl (cause, is, h)) given

-- what is told of why there is no plan is the network's
pub tells : (network : Network) (ms : List Message) (cause : NoPlan) → IsNoPlan network ms cause → TellsOf network cause
tells network ms (plans.Excess (VirtualLinks wants)) is = tt
tells network ms (plans.Excess (RowsOf device wants)) is = is.crowded.there
tells network ms cause is = tt

-- the line for the message of the place
pub told_at : (word : List ℕ) (network : Network) (ms : List Message) (place : ℕ) (a : Attempt) (m : Message) → place < length ms → m ≡ get_or ms place m
    → short_line word network m a ≡ short_line_at word network ms place a
told_at word network ms place a m lt at =
    sym (ap (λ (o : Option Message). option_map_or (λ (k : Message). short_line word network k a) o [])
    (slice_get-get_or ms place m lt ∙ ap (λ (k : Message). Some k) (sym at)))

-- a line was put, that of the answer
pub line_told : (a b : Answer) (status : Status) {old new : Shown} → a ≡ b → GivesAnswer (λ c. c ≡ a) status old new
    → GivesAnswer (λ c. c ≡ b) status old new
line_told a b status {old} {new} same given = subst (λ (x : Answer). GivesAnswer (λ c. c ≡ x) status old new) same given

-- ---- texts and blocks, one more at a time

-- one more piece
pub pieces_more : {X Y : Type 0} (f : X → List Y) (old now : List Y) (xs : List X) (n : ℕ) (d : X) {new : List Y} → n < length xs
    → now ≡ old ++ flat_map f (take n xs) → new ≡ now ++ f (get_or xs n d) → new ≡ old ++ flat_map f (take (n + 1) xs)
pieces_more {X} {Y} f old now xs n d within before more =
    let x = get_or xs n d in
    let parts =
    ap (flat_map f) (take_more xs n d within) ∙ flat_map-append f (take n xs) (x ∷ []) ∙ ap (λ (ys : List Y). flat_map f (take n xs) ++ ys) (append-nil (f x)) in
    more ∙ ap (λ (ys : List Y). ys ++ f x) before ∙ append_assoc old (flat_map f (take n xs)) (f x) ∙ ap (λ (ys : List Y). old ++ ys) (sym parts)

-- the text of one more line
pub text_more : (old now : List ℕ) (ls : List PlanLine) (n : ℕ) (d : PlanLine) {new : List ℕ} → n < length ls → now ≡ old ++ text_of (take n ls)
    → new ≡ now ++ plan_line (get_or ls n d) → new ≡ old ++ text_of (take (n + 1) ls)
text_more old now ls n d within before more =
    let l = get_or ls n d in
    let parts =
    ap text_of (take_more ls n d within) ∙ ap concat (map-append plan_line (take n ls) (l ∷ []))
    ∙ concat-append (map plan_line (take n ls)) (plan_line l ∷ []) ∙ ap (λ (ys : List ℕ). text_of (take n ls) ++ ys) (append-nil (plan_line l)) in
    more ∙ ap (λ (ys : List ℕ). ys ++ plan_line l) before ∙ append_assoc old (text_of (take n ls)) (plan_line l) ∙ ap (λ (ys : List ℕ). old ++ ys) (sym parts)

-- the blocks of one more message
pub blocks_more : (network : Network) (ms : List Message) (ids : List ℕ) (tried : List Attempt) (n : ℕ) (m : Message) (id d : ℕ) (a : Attempt)
    → n < length ms → n < length ids → n < length tried → m ≡ get_or ms n m → id ≡ get_or ids n d → a ≡ get_or tried n a
    → plan_lines network (take (n + 1) ms) (take (n + 1) ids) (take (n + 1) tried)
    ≡ plan_lines network (take n ms) (take n ids) (take n tried) ++ message_blocks network m id a
blocks_more network [] ids tried n m id d a lt le less at is own = absurd (omega (arith, lt))
blocks_more network (x ∷ ms) [] tried n m id d a lt le less at is own = absurd (omega (arith, le))
blocks_more network (x ∷ ms) (y ∷ ids) [] n m id d a lt le less at is own = absurd (omega (arith, less))
blocks_more network (x ∷ ms) (y ∷ ids) (z ∷ tried) zero m id d a lt le less at is own =
    append-nil (message_blocks network x y z) ∙ ap (λ k. message_blocks network k y z) (sym at)
    ∙ ap (λ i. message_blocks network m i z) (sym is) ∙ ap (λ b. message_blocks network m id b) (sym own)
blocks_more network (x ∷ ms) (y ∷ ids) (z ∷ tried) (suc n) m id d a lt le less at is own =
    let next : suc n + 1 ≡ suc (n + 1) = omega arith in
    ap (λ (k : ℕ). plan_lines network (take k (x ∷ ms)) (take k (y ∷ ids)) (take k (z ∷ tried))) next
    ∙ ap (λ (ls : List PlanLine). message_blocks network x y z ++ ls)
    (blocks_more network ms ids tried n m id d a (omega (arith, lt)) (omega (arith, le)) (omega (arith, less)) at is own)
    ∙ sym (append_assoc (message_blocks network x y z) (plan_lines network (take n ms) (take n ids) (take n tried)) (message_blocks network m id a))

-- ---- the rows in order are of the network's links

module _ (network : Network) where
  abbrev pub IsLinked : Placed → Type 0
  IsLinked p = HasLink network p.hop.link

  more_linked : (o : Option Placed) (ps : List Placed) → ((p : Placed) → o ≡ Some p → IsLinked p) → All IsLinked ps → All IsLinked (cons_option o ps)
  more_linked None ps own all = all
  more_linked (Some p) ps own all = All-cons IsLinked p ps (own p refl) all

  by_linked : (b : Bool) (p q : Placed) (o : Option Placed) (link : ℕ) → (b ≡ true → p.hop.link.0 ≡ link) → cond b (Some p) o ≡ Some q
      → (o ≡ Some q → q.hop.link.0 ≡ link) → q.hop.link.0 ≡ link
  by_linked true p q o link own is more = let same : p ≡ q = cc in sym (ap (λ (r : Placed). r.hop.link.0) same) ∙ own refl
  by_linked false p q o link own is more = more is

  row_linked : (ps : List Placed) (link : ℕ) (p : Placed) → row_by ps link ≡ Some p → p.hop.link.0 ≡ link
  row_linked [] link p is = absurd cc
  row_linked (q ∷ ps) link p is = by_linked (q.hop.link.0 == link) q p (row_by ps link) link (λ e. grind (arith, nat_tests, e)) is (row_linked ps link p)

  from_linked : (ps : List Placed) (a n : ℕ) → a + n ≡ length network.link → All IsLinked (filter_map (row_by ps) (range_with_len a n))
  from_linked ps a zero whole = All-nil IsLinked
  from_linked ps a (suc n) whole =
      more_linked (row_by ps a) (filter_map (row_by ps) (range_with_len (a + 1) n))
      (λ p is. let at = row_linked ps a p is in omega (arith, whole, at)) (from_linked ps (a + 1) n (omega (arith, whole)))

  pub rows_linked : (ps : List Placed) → All IsLinked (rows_in_order network ps)
  rows_linked ps = from_linked ps 0 (length network.link) (omega arith)

-- ---- the row that is told of a message without a place

-- what holds of all holds of one that is found
module _ {X : Type 0} (P : X → Type 0) where
  by_found : (b : Bool) (x : X) (o : Option X) → P x → IfSome o P → IfSome (cond b (Some x) o) P
  by_found true x o here rest = here
  by_found false x o here rest = rest

  found_all : (p : X → Bool) (xs : List X) → All P xs → IfSome (find p xs) P
  found_all p [] all = tt
  found_all p (x ∷ xs) all = by_found (p x) x (find p xs) (All-head P x xs all) (found_all p xs (All-tail P x xs all))

  more_all : (o : Option X) (xs : List X) → IfSome o P → All P xs → All P (cons_option o xs)
  more_all None xs own all = all
  more_all (Some x) xs own all = All-cons P x xs own all

rows_all : (P : Placed → Type 0) (ps : List Placed) → All P ps → (ks : List ℕ) → All P (filter_map (row_by ps) ks)
rows_all P ps all [] = All-nil P
rows_all P ps all (k ∷ ks) = more_all P (row_by ps k) (filter_map (row_by ps) ks) (found_all P (λ p. p.hop.link.0 == k) ps all) (rows_all P ps all ks)

both_told : (network : Network) (o : Option Placed) → IfSome o (IsLinked network) → IfSome o IsOrdered → IfSome o (IsTellable network)
both_told network None link ordered = tt
both_told network (Some p) link ordered = record { link = link; end = ordered.1 }

pub found_told : (network : Network) (p : Placed → Bool) (ps : List Placed) → All IsOrdered ps → IfSome (find p (rows_in_order network ps)) (IsTellable network)
found_told network p ps ordered =
    both_told network (find p (rows_in_order network ps)) (found_all (IsLinked network) p (rows_in_order network ps) (rows_linked network ps))
    (found_all IsOrdered p (rows_in_order network ps) (rows_all IsOrdered ps ordered (range_with_len 0 (length network.link))))

-- ---- why there is no plan

module _ (network : Network) where
  pub none_by_order : {ms : List Message} {there : List Taken} (why : NoOrder) (result : NoPlan)
      → IsWithinLimits network ms → AreThere network there → IsNoOrder network ms there why → result ≡ no_order why
      → IsNoPlan network ms result
  none_by_order {ms} {there} (orders.Unplaced place a) result limits are none is =
      subst (IsNoPlan network ms) (sym is) (limits, (there, are, none))
  none_by_order {ms} orders.OutOfMemory result limits are none is = subst (IsNoPlan network ms) (sym is) tt

  -- the rows of a best attempt are ordered
  best_ordered : {rows : List Taken} {m : Message} {a : Attempt} → IsBestBehind network rows m a
      → All IsOrdered a.placed.items
  best_ordered {a} best = (own_attempt best.trial best.trial.message.now.phase a best.best).1.ordered

  unfit_place : {there : List Taken} {ms : List Message} {place : ℕ} {a : Attempt} → IsUnfit network there ms place a
      → (place < length ms) × All IsOrdered a.placed.items
  unfit_place {ms} {place} unfit =
      (got_within ms place unfit.message unfit.there, best_ordered unfit.best)

  unplaced_place : {ms : List Message} {there : List Taken} {place : ℕ} {a : Attempt}
      → IsUnplaced network ms there place a → (place < length ms) × All IsOrdered a.placed.items
  unplaced_place {ms} un =
      let misfit = un.unfit in (
        subst (λ p. p < length ms) (sym un.place_is) (got_within ms misfit.place misfit.message misfit.there),
        subst (λ (b : Attempt). All IsOrdered b.placed.items) (sym un.attempt_is) (best_ordered misfit.best),
      )

  pub place_of : (ms : List Message) (why : NoPlan) → IsNoPlan network ms why → IsPlaceOf ms why
  place_of ms (plans.Excess excess) none = tt
  place_of ms (plans.Impossible place a) (limits, (there, are, unfit)) = unfit_place unfit
  place_of ms (plans.Unplaced place a) (limits, (there, are, un)) = unplaced_place un
  place_of ms plans.OutOfMemory none = tt

-- ---- the messages of a file, line after line

-- a text has few lines
pub few_lines : (text : List ℕ) → length (lines_of text) ≤ length text + 1
few_lines text =
    let lines = length-slice_split is_lf text in
    let few = count_by-le-length is_lf text in
    omega (arith, lines, few)

-- ---- what a line's reading means

pub read_message : (network : Network) (earlier : List Message) (line : List ℕ) (m : Message) (left : Words)
    → message_reader network earlier (words line) ≡ Ok (m, left) → message_read network earlier line ≡ Ok m
unfolding message_read
read_message network earlier line m left read = ap outcome read

pub read_fault : (network : Network) (earlier : List Message) (line : List ℕ) (f : MessageRefusal)
    → message_reader network earlier (words line) ≡ Err f → message_read network earlier line ≡ Err f
unfolding message_read
read_fault network earlier line f read = ap outcome read

-- ---- what a call gives

-- a fault that is passed on
pub fault_same : {A C : Type 0} (inner : Read C) (outer : Read A) (fault : LineFault) → ((f : MessageRefusal) → inner ≡ Err f → outer ≡ Err f)
    → IsFault inner fault → IsFault outer fault
fault_same inner outer (Refused f) carry h = carry f h
fault_same inner outer OutOfMemory carry h = tt

-- a fault of a line is that of the file
pub fault_there : {A : Type 0} (reading : Read A) (read : Result (List Message) RefusedLine) (number : ℕ) (fault : LineFault) (r : NoMessages)
    → r ≡ fault_at number fault → ((f : MessageRefusal) → reading ≡ Err f → read ≡ Err (refused_line number f)) → IsFault reading fault
    → AreNoMessages read r
fault_there reading read number (Refused f) r is carry h = subst (AreNoMessages read) (sym is) (carry f h)
fault_there reading read number OutOfMemory r is carry h = subst (AreNoMessages read) (sym is) tt

pub no_more : (network : Network) (number : ℕ) (earlier : List Message) (lines : List (List ℕ)) → lines ≡ []
    → messages_from network number earlier lines ≡ Ok earlier
unfolding messages_from
no_more network number earlier lines none = rw none refl

-- ---- the next line

module _ (network : Network) (number : ℕ) (earlier : List Message) (line : List ℕ) (lines : List (List ℕ)) where
  is_short : (length line ≤ line_limit) → nat_lt line_limit (length line) ≡ false
  is_short short = grind (arith, nat_tests, short)

  pub too_long : line_limit < length line → messages_from network number earlier (line ∷ lines) ≡ Err (refused_line number Long)
  unfolding messages_from
  too_long long = let test : nat_lt line_limit (length line) ≡ true = grind (arith, nat_tests, long) in rw test refl

  pub passed : length line ≤ line_limit → is_passed line ≡ true
      → messages_from network number earlier (line ∷ lines) ≡ messages_from network (number + 1) earlier lines
  unfolding messages_from
  passed short pass = rw (is_short short, pass) refl

  pub refused_there : (f : MessageRefusal) → length line ≤ line_limit → is_passed line ≡ false → message_read network earlier line ≡ Err f
      → messages_from network number earlier (line ∷ lines) ≡ Err (refused_line number f)
  unfolding messages_from
  refused_there f short pass read = rw (is_short short, pass, read) refl

  pub one_more : (m : Message) → length line ≤ line_limit → is_passed line ≡ false → message_read network earlier line ≡ Ok m
      → messages_from network number earlier (line ∷ lines) ≡ messages_from network (number + 1) (earlier ++ m ∷ []) lines
  unfolding messages_from
  one_more m short pass read = rw (is_short short, pass, read) refl
