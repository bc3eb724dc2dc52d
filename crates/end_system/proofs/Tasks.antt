-- What an end system has to do, and what of it comes first.
use Rattle.std.proofs.Common.{negsuc, unsigned_abs}
use Rattle.device_rules.{proofs.FirstKinds.first_kind_of}
use Rattle.device_rules.specs.{FirstKinds.{IsFirstKind, kind_of, order_of_kind}}
use Rattle.device_rules.specs.{declared.first_kind.TaskKind.TheVariants.{Correction, Dispatch as Dispatches, Sending}}
use Rattle.end_system.{specs.{Agendas.{HasReading, IsFirstDue, IsLeastReading}, Deeds.{IsAhead, IsSooner, Leaves}}}
use Rattle.end_system.proofs.Words
use Words.{◌*◌, ◌+ℤ◌, ◌+◌, ◌-ℤ◌, ◌<ℤ◌, ◌<◌, ◌∙◌, ◌∷◌, ◌≡◌, ◌≤ℤ◌, ◌≤◌, Agenda, Appointment, ClockTask, DeviceId}
use Words.{Dispatch, IfSome, IsAgenda, IsBelow, IsCorrection, IsDispatch, IsOwnOf, IsSending, IsSomeAnd, List, MayCall}
use Words.{Moment, Network, Node, None, Option, Own, Row, RowId, Some, Standing, Units, [], amount, ap, arith}
use Words.{below_itself, correcting, dispatching, false, inl, inr, ints, is_end, mul-le-mul_right, option_map_or, pos}
use Words.{refl, sending, slice_get, subst, sym, true, value_of, ℕ, ℤ}
use Rattle.run_law.specs.{records.Order.IsBefore}
use Rattle.run_law.specs.machines.{Calls.HasDue, Nodes.acting}
use Rattle.run_law.specs.machines.Tasks
use Tasks.{HasFrame, IsDueReading, IsFirstTask, IsPending, Task, doing, emitting, offset_of, order_of, reading_for}
use Rattle.schedule_tables.specs.Dispatches.{dispatch_order}
use Rattle.tte_units.proofs.general_lemmas.{Bools.not_both, Integers.{never_both, through}}
use Rattle.tte_units.proofs.general_lemmas.{Naturals.{cases_of, none_less}}
use Rattle.end_system.specs.declared.agenda.Due.TheVariants as dues

-- ---- what is pending is ahead

abbrev pub IsAheadTask : Network → DeviceId → Node → Task → Type 0
IsAheadTask network device node (emitting sent) = ⊥
IsAheadTask network device node (doing deed) = IsAhead network device node.standing node.changed node.done deed

module _ (network : Network) (device : DeviceId) (node : Node) where
  leaves_by : {row : RowId} {cycle : ℕ} → is_end network device ≡ true → HasFrame network device node row cycle
      → Leaves network device row cycle
  leaves_by end h = grind (arith, not_both)

  ahead_task : {own : Own} (task : Task) → IsOwnOf network device own → IsPending network device node task
      → IsAheadTask network device node task
  ahead_task (emitting sent) is p = absurd (not_both _ p.1.cm is.no_cm)
  ahead_task {own} (doing (sending cycle)) is p = record { own = p.1.own; ahead = p.1.ahead; not_yet = p.1.not_yet }
  ahead_task {own} (doing (correcting cycle)) is p = record { own = p.1.own; ahead = p.1.ahead; not_yet = p.1.not_yet }
  ahead_task {own} (doing (dispatching row cycle)) is p =
      record { own = (p.1.own.0, leaves_by is.end p.1.own.1); ahead = p.1.ahead; not_yet = p.1.not_yet }

  pub pending_task : (deed : ClockTask) → node.broken ≡ false
      → IsAhead network device node.standing node.changed node.done deed → IsPending network device node (doing deed)
  pending_task (sending cycle) sound h = (sound, record { own = h.own; ahead = h.ahead; not_yet = h.not_yet })
  pending_task (correcting cycle) sound h = (sound, record { own = h.own; ahead = h.ahead; not_yet = h.not_yet })
  pending_task (dispatching row cycle) sound h = grind arith

-- ---- each kind has its next

not_less : (a b : ℕ) → (a < b → ⊥) → b ≤ a
not_less a b out = grind arith

same_point : (m n : ℕ) → Some m ≡ Some n → n ≡ m
same_point m n e = cc

later_reading : (c m n : ℕ) (at a : ℤ) → at ≡ (pos (n * c) -ℤ a) → n ≤ m → at ≤ℤ (pos (m * c) -ℤ a)
later_reading c m n at a is le = let more : n * c ≤ m * c = mul-le-mul_right c le in omega (arith, ints)

up_to_same : (x y : ℤ) → x ≡ y → x ≤ℤ y
up_to_same x y e = omega (arith, ints)

module _ (network : Network) (device : DeviceId) (s : Standing) (changed : ℤ) (done : List ClockTask) where
  pub sending_some : (o : Option Appointment) (cycle : ℕ) → IsSending network device s changed done o
      → IsAhead network device s changed done (sending cycle)
      → IsSomeAnd o (λ next. next.at.0 ≤ℤ (value_of network (sending cycle) -ℤ s.adjustment.0))
  sending_some None cycle is h = is h.own.0 h.own.1
  sending_some (Some next) cycle is h =
      later_reading (amount network.cycle) cycle next.cycle next.at.0 s.adjustment.0 is.3
      (not_less cycle next.cycle (λ lt. h.not_yet (is.2.rest cycle h.own.2 h.ahead lt)))

  pub correction_some : (o : Option Appointment) (cycle : ℕ) → IsCorrection network s changed done o
      → IsAhead network device s changed done (correcting cycle)
      → IsSomeAnd o (λ next. next.at.0 ≤ℤ (value_of network (correcting cycle) -ℤ s.adjustment.0))
  correction_some None cycle is h = never_both _ _ h.ahead (is cycle h.own)
  correction_some (Some next) cycle is h =
      let same : cycle ≡ next.cycle = same_point next.cycle cycle (sym is.0.point ∙ h.own) in
      subst (λ (n : ℕ). next.at.0 ≤ℤ (value_of network (correcting n) -ℤ s.adjustment.0)) (sym same)
      (up_to_same _ _ is.1)

-- the place of a row begins with its offset
place_from : (row : RowId) (o : Option Row) (r : Row) → o ≡ Some r
    → option_map_or (λ (r : Row). amount r.offset ∷ r.link.0 ∷ row.0 ∷ []) o [] ≡ option_map_or (λ (r : Row). amount r.offset) o 0 ∷ r.link.0 ∷ row.0 ∷ []
place_from row o r e =
    subst (λ (x : Option Row). option_map_or (λ (r : Row). amount r.offset ∷ r.link.0 ∷ row.0 ∷ []) x [] ≡ option_map_or (λ (r : Row). amount r.offset) x 0
    ∷ r.link.0 ∷ row.0 ∷ []) (sym e) refl

pub place_is : {network : Network} {device : DeviceId} {row : RowId} {cycle : ℕ}
    (h : Leaves network device row cycle) → dispatch_order network row ≡ offset_of network row ∷ h.entry.row.link.0
    ∷ row.0 ∷ []
place_is {network} {row} h = place_from row (slice_get network.row row.0) h.entry.row h.is.row

less_in_later : (c m n a b : ℕ) → n < m → b ≤ c → n * c + b ≤ m * c + a
less_in_later c m n a b lt le = let more : (n + 1) * c ≤ m * c = mul-le-mul_right c (omega arith) in omega (arith, more)

less_in_same : (c m n a b : ℕ) → m ≡ n → b ≤ a → n * c + b ≤ m * c + a
less_in_same c m n a b e le = let same : n * c ≡ m * c = ap (λ k. k * c) (sym e) in omega (arith, same)

offsets_in_order : (a b : ℕ) (p q : List ℕ) (xs ys : List ℕ) → xs ≡ a ∷ p → ys ≡ b ∷ q → (IsBelow xs ys → ⊥) → b ≤ a
offsets_in_order a b p q xs ys ex ey out =
    not_less a b (λ lt. out (subst (λ zs. IsBelow zs ys) (sym ex) (subst (λ zs. IsBelow (a ∷ p) zs) (sym ey) (inl lt))))

short_offset : (a p c : ℕ) → a + 4 * p ≤ c → a ≤ c
short_offset a p c h = omega arith

-- what does not come sooner comes at no lesser value
pub later_value : {network : Network} {device : DeviceId} {own : Own} {row other : RowId} {cycle n : ℕ}
    → IsOwnOf network device own → Leaves network device row cycle → Leaves network device other n
    → (IsSooner network row cycle other n → ⊥)
    → n * amount network.cycle + offset_of network other ≤ cycle * amount network.cycle + offset_of network row
later_value {network} {row} {other} {cycle} {n} is h k out =
    elim (cases_of cycle n) [
      | inl less ↦ absurd (out (inl less))
      | inr (inl same) ↦ less_in_same (amount network.cycle) cycle n _ _ same
          (offsets_in_order _ _ _ _ (dispatch_order network row) (dispatch_order network other) (place_is h)
          (place_is k) (λ b. out (inr (same, b))))
      | inr (inr more) ↦ less_in_later (amount network.cycle) cycle n _ _ more (short_offset _ (amount network.precision) _ (is.early other n k))
    ]

reading_up_to : (m n : ℕ) (at a : ℤ) → at ≡ (pos n -ℤ a) → n ≤ m → at ≤ℤ (pos m -ℤ a)
reading_up_to m n at a is le = omega (arith, ints)

pub dispatch_some : {network : Network} {device : DeviceId} {own : Own} {s : Standing} {changed : ℤ}
    {done : List ClockTask} (o : Option Dispatch) (row : RowId) (cycle : ℕ) → IsOwnOf network device own
    → IsDispatch network device s changed done o → IsAhead network device s changed done (dispatching row cycle)
    → IsSomeAnd o (λ next. next.at.0 ≤ℤ (value_of network (dispatching row cycle) -ℤ s.adjustment.0))
dispatch_some None row cycle own_is is h = is h.own.0 row cycle h.own.1
dispatch_some {s} (Some next) row cycle own_is is h =
    reading_up_to _ _ next.at.0 s.adjustment.0 is.2
    (later_value own_is h.own.1 is.1.leaves
    (λ sooner. h.not_yet (is.1.rest row cycle h.own.1 h.ahead sooner)))

-- ---- the least reading

some_and : {X : Type 0} (o : Option X) (P Q : X → Type 0) → IsSomeAnd o P → IfSome o Q → (x : X) × (P x × Q x)
some_and None P Q p q = absurd p
some_and (Some x) P Q p q = (x, (p, q))

none_some : {X : Type 0} (o : Option X) (P : X → Type 0) → o ≡ None → IsSomeAnd o P → ⊥
none_some o P e p = subst (λ (x : Option _). IsSomeAnd x P) e p

module _ (network : Network) (device : DeviceId) (own : Own) (node : Node) (agenda : Agenda) where
  -- each task that is ahead comes at a reading from x on, if each kind of the agenda does
  from_least : (x : ℤ) (task : Task) → IsOwnOf network device own
      → IsAgenda network device node.standing node.changed node.done agenda
      → IfSome agenda.sending (λ next. x ≤ℤ next.at.0) → IfSome agenda.correction (λ next. x ≤ℤ next.at.0)
      → IfSome agenda.dispatch (λ next. x ≤ℤ next.at.0) → IsAheadTask network device node task
      → x ≤ℤ reading_for network node task
  from_least x (emitting sent) is a f g d h = absurd h
  from_least x (doing (sending cycle)) is a f g d h =
      let t = some_and agenda.sending _ _ (sending_some network device node.standing node.changed node.done
      agenda.sending cycle a.sending h) f in
      through _ _ _ t.1.1 t.1.0
  from_least x (doing (correcting cycle)) is a f g d h =
      let t = some_and agenda.correction _ _ (correction_some network device node.standing node.changed node.done
      agenda.correction cycle a.correction h) g in
      through _ _ _ t.1.1 t.1.0
  from_least x (doing (dispatching row cycle)) is a f g d h =
      let t = some_and agenda.dispatch _ _ (dispatch_some agenda.dispatch row cycle is a.dispatch h) d in
      through _ _ _ t.1.1 t.1.0

  -- nothing is ahead where the agenda is empty
  none_ahead : (task : Task) → IsOwnOf network device own
      → IsAgenda network device node.standing node.changed node.done agenda → agenda.sending ≡ None
      → agenda.correction ≡ None → agenda.dispatch ≡ None → IsAheadTask network device node task → ⊥
  none_ahead (emitting sent) is a f g d h = h
  none_ahead (doing (sending cycle)) is a f g d h =
      none_some agenda.sending _ f (sending_some network device node.standing node.changed node.done agenda.sending
      cycle a.sending h)
  none_ahead (doing (correcting cycle)) is a f g d h =
      none_some agenda.correction _ g (correction_some network device node.standing node.changed node.done
      agenda.correction cycle a.correction h)
  none_ahead (doing (dispatching row cycle)) is a f g d h =
      none_some agenda.dispatch _ d (dispatch_some agenda.dispatch row cycle is a.dispatch h)

not_sooner_itself : (network : Network) (row : RowId) (cycle : ℕ) → IsSooner network row cycle row cycle → ⊥
not_sooner_itself network row cycle (inl lt) = omega arith
not_sooner_itself network row cycle (inr p) = below_itself (dispatch_order network row) p.1

module _ (network : Network) (device : DeviceId) (s : Standing) (changed : ℤ) (done : List ClockTask) where
  -- what an agenda holds is ahead
  pub sending_ahead : (next : Appointment) → IsSending network device s changed done (Some next)
      → IsAhead network device s changed done (sending next.cycle)
  sending_ahead next is =
      record { own = (is.0, is.1, is.2.begun); ahead = is.2.ahead; not_yet = λ there. none_less next.cycle (is.2.done_before next.cycle there) }

  pub correction_ahead : (next : Appointment) → IsCorrection network s changed done (Some next)
      → IsAhead network device s changed done (correcting next.cycle)
  correction_ahead next is =
      record { own = is.0.point; ahead = is.0.ahead; not_yet = λ there. none_less next.cycle (is.0.done_before next.cycle there) }

  pub dispatch_ahead : (next : Dispatch) → IsDispatch network device s changed done (Some next)
      → IsAhead network device s changed done (dispatching next.slot.place.row next.cycle)
  dispatch_ahead next is =
      record {
        own = (is.0, is.1.leaves);
        ahead = is.1.ahead;
        not_yet = λ there. not_sooner_itself network next.slot.place.row next.cycle
            (is.1.done_before next.slot.place.row next.cycle there);
      }

-- some deed is ahead, and comes at the reading
abbrev IsSomeDeed : Network → DeviceId → Standing → ℤ → List ClockTask → Units → Type 0
IsSomeDeed network device s changed done at =
    (deed : ClockTask) × IsAhead network device s changed done deed × ((value_of network deed -ℤ s.adjustment.0) ≡ at.0)

module _ (network : Network) (device : DeviceId) (s : Standing) (changed : ℤ) (done : List ClockTask) where
  sending_there : (o : Option Appointment) (at : Units) → IsSending network device s changed done o
      → IsSomeAnd o (λ next. next.at ≡ at) → IsSomeDeed network device s changed done at
  sending_there None at is h = absurd h
  sending_there (Some next) at is h =
      (sending next.cycle, sending_ahead network device s changed done next is, sym is.3 ∙ ap (λ (u : Units). u.0) h)

  correction_there : (o : Option Appointment) (at : Units) → IsCorrection network s changed done o
      → IsSomeAnd o (λ next. next.at ≡ at) → IsSomeDeed network device s changed done at
  correction_there None at is h = absurd h
  correction_there (Some next) at is h =
      (correcting next.cycle, correction_ahead network device s changed done next is, sym is.1 ∙ ap (λ (u : Units). u.0) h)

  dispatch_there : (o : Option Dispatch) (at : Units) → IsDispatch network device s changed done o
      → IsSomeAnd o (λ next. next.at ≡ at) → IsSomeDeed network device s changed done at
  dispatch_there None at is h = absurd h
  dispatch_there (Some next) at is h =
      (dispatching next.slot.place.row next.cycle, dispatch_ahead network device s changed done next is, sym is.2 ∙ ap (λ (u : Units). u.0) h)

  some_there : {agenda : Agenda} (at : Units) → IsAgenda network device s changed done agenda → HasReading agenda at
      → IsSomeDeed network device s changed done at
  some_there {agenda} at a (inl h) = sending_there agenda.sending at a.sending h
  some_there {agenda} at a (inr (inl h)) = correction_there agenda.correction at a.correction h
  some_there {agenda} at a (inr (inr h)) = dispatch_there agenda.dispatch at a.dispatch h

-- what is due is the least reading of the agenda
pub due_reading : {network : Network} {device : DeviceId} {own : Own} (node : Node) {agenda : Agenda}
    (result : Option Units) → IsOwnOf network device own → node.broken ≡ false
    → IsAgenda network device node.standing node.changed node.done agenda → IsLeastReading agenda result
    → IsDueReading network device node result
due_reading {network} {device} {own} node {agenda} None is sound a least =
    λ task p. none_ahead network device own node agenda task is a least.0 least.1 least.2
    (ahead_task network device node task is p)
due_reading {network} {device} {own} node {agenda} (Some at) is sound a least =
    let some = some_there network device node.standing node.changed node.done {agenda = agenda} at a least.0 in (
      (doing some.0, pending_task network device node some.0 sound some.1, some.2),
      λ task p. from_least network device own node agenda at.0 task is a least.1 least.2 least.3
          (ahead_task network device node task is p),
    )

-- ---- what comes first

le_lt_trans : (x y z r : ℤ) → r <ℤ y → y ≤ℤ z → z ≤ℤ r → ⊥
le_lt_trans x y z r a b c = omega (arith, ints)

-- no sending is due at the reading
abbrev NoSendingDue : Agenda → ℤ → Type 0
NoSendingDue agenda reading = IfSome agenda.sending (λ next. reading <ℤ next.at.0)

module _ {network : Network} {device : DeviceId} (node : Node) {agenda : Agenda} (reading : ℤ) (cycle : ℕ)
    (a : IsAgenda network device node.standing node.changed node.done agenda) where
  no_sending : NoSendingDue agenda reading → IsAhead network device node.standing node.changed node.done
      (sending cycle) → (value_of network (sending cycle) -ℤ node.standing.adjustment.0) ≤ℤ reading → ⊥
  no_sending none h here =
      let t = some_and agenda.sending _ _ (sending_some network device node.standing node.changed node.done
      agenda.sending cycle a.sending h) none in
      le_lt_trans reading _ _ reading t.1.1 t.1.0 here

  no_correction : IfSome agenda.correction (λ next. reading <ℤ next.at.0)
      → IsAhead network device node.standing node.changed node.done (correcting cycle)
      → (value_of network (correcting cycle) -ℤ node.standing.adjustment.0) ≤ℤ reading → ⊥
  no_correction none h here =
      let t = some_and agenda.correction _ _ (correction_some network device node.standing node.changed node.done
      agenda.correction cycle a.correction h) none in
      le_lt_trans reading _ _ reading t.1.1 t.1.0 here

at_up_to : (at x r : ℤ) → at ≡ x → at ≤ℤ r → x ≤ℤ r
at_up_to at x r e h = omega (arith, ints)

module _ (network : Network) (device : DeviceId) (own : Own) (node : Node) where
  sending_first : (next : Appointment) (other : Task) → IsSending network device node.standing node.changed node.done
      (Some next) → IsAheadTask network device node other → IsBefore (order_of network other) (1 ∷ next.cycle ∷ [])
      → ⊥
  sending_first next (emitting sent) here h before = h
  sending_first next (doing (sending cycle)) here h (inl lt) = omega arith
  sending_first next (doing (sending cycle)) here h (inr (e, inl lt)) = h.not_yet (here.2.rest cycle h.own.2 h.ahead lt)
  sending_first next (doing (sending cycle)) here h (inr (e, inr more)) = more.1
  sending_first next (doing (correcting cycle)) here h (inl lt) = omega arith
  sending_first next (doing (correcting cycle)) here h (inr more) = omega (arith, more.0)
  sending_first next (doing (dispatching row cycle)) here h (inl lt) = omega arith
  sending_first next (doing (dispatching row cycle)) here h (inr more) = omega (arith, more.0)

  -- the next sending, where it is due, is the first task
  pub first_is_sending : {agenda : Agenda} (reading : ℤ) (next : Appointment) → IsOwnOf network device own
      → node.broken ≡ false → IsAgenda network device node.standing node.changed node.done agenda
      → IsFirstDue agenda reading (Some (dues.Sending next))
      → IsFirstTask network device node reading (doing (sending next.cycle))
  first_is_sending reading next is sound a due =
      let here : IsSending network device node.standing node.changed node.done (Some next) =
      subst (IsSending network device node.standing node.changed node.done)
      due.0 a.sending in
      record {
        pending = pending_task network device node (sending next.cycle) sound
            (sending_ahead network device node.standing node.changed node.done next here);
        due = at_up_to _ _ reading here.3 due.1;
        first = λ other p there before. sending_first next other here (ahead_task network device node other is p)
            before;
      }

module _ (network : Network) (device : DeviceId) (own : Own) (node : Node) (agenda : Agenda) (reading : ℤ)
    (next : Appointment) where
  correction_first : (other : Task) → IsAgenda network device node.standing node.changed node.done agenda
      → NoSendingDue agenda reading → IsCorrection network node.standing node.changed node.done (Some next)
      → IsAheadTask network device node other → reading_for network node other ≤ℤ reading
      → IsBefore (order_of network other) (2 ∷ next.cycle ∷ []) → ⊥
  correction_first (emitting sent) a none here h there before = h
  correction_first (doing (sending cycle)) a none here h there before =
      no_sending node reading cycle a none h there
  correction_first (doing (correcting cycle)) a none here h there (inl lt) = omega arith
  correction_first (doing (correcting cycle)) a none here h there (inr (e, inl lt)) =
      omega (arith, same_point next.cycle cycle (sym here.0.point ∙ h.own))
  correction_first (doing (correcting cycle)) a none here h there (inr (e, inr more)) = more.1
  correction_first (doing (dispatching row cycle)) a none here h there (inl lt) = omega arith
  correction_first (doing (dispatching row cycle)) a none here h there (inr more) = omega (arith, more.0)

  -- the next correction point, where it is due and no sending is, is the first task
  pub first_is_correction : IsOwnOf network device own → node.broken ≡ false
      → IsAgenda network device node.standing node.changed node.done agenda
      → IsFirstDue agenda reading (Some (dues.Correction next))
      → IsFirstTask network device node reading (doing (correcting next.cycle))
  first_is_correction is sound a due =
      let here : IsCorrection network node.standing node.changed node.done (Some next) =
      subst (IsCorrection network node.standing node.changed node.done) due.1
      a.correction in
      record {
        pending = pending_task network device node (correcting next.cycle) sound
            (correction_ahead network device node.standing node.changed node.done next here);
        due = at_up_to _ _ reading here.1 due.2;
        first =
            λ other p there before. correction_first other a due.0 here
            (ahead_task network device node other is p) there before;
      }

-- a later dispatch at an earlier place comes more than a precision behind
far_behind : (c m n a b p : ℕ) (r d : ℤ) → n < m → b + 4 * p ≤ c → 1 ≤ p → r <ℤ ((pos (n * c + b) -ℤ d) +ℤ pos p) → (pos (m * c + a) -ℤ d) ≤ℤ r → ⊥
far_behind c m n a b p r d lt room some soon here = let more : (n + 1) * c ≤ m * c = mul-le-mul_right c (omega arith) in omega (arith, ints, more)

three : (a b c d e f : ℕ) → IsBefore (a ∷ b ∷ c ∷ []) (d ∷ e ∷ f ∷ []) → IsBelow (a ∷ b ∷ c ∷ []) (d ∷ e ∷ f ∷ [])
three a b c d e f (inl lt) = inl lt
three a b c d e f (inr (s, inl lt)) = inr (s, inl lt)
three a b c d e f (inr (s, inr (t, inl lt))) = inr (s, inr (t, inl lt))
three a b c d e f (inr (s, inr (t, inr (u, h)))) = absurd h

whole : (z : ℤ) → pos 1 ≤ℤ z → z ≡ pos (unsigned_abs z)
whole (pos n) h = refl
whole (negsuc n) h = absurd (omega (arith, ints))

some_whole : (z : ℤ) → pos 1 ≤ℤ z → 1 ≤ unsigned_abs z
some_whole (pos n) h = omega (arith, ints)
some_whole (negsuc n) h = absurd (omega (arith, ints))

before_below : (xs ys : List ℕ) (a b c d e f : ℕ) → xs ≡ a ∷ b ∷ c ∷ [] → ys ≡ d ∷ e ∷ f ∷ [] → IsBefore xs ys → IsBelow xs ys
before_below xs ys a b c d e f ex ey h =
    subst (λ zs. IsBelow zs ys) (sym ex) (subst (λ zs. IsBelow (a ∷ b ∷ c ∷ []) zs) (sym ey)
    (three a b c d e f (subst (λ zs. IsBefore zs (d ∷ e ∷ f ∷ [])) ex (subst (λ zs. IsBefore xs zs) ey h))))

module _ {network : Network} {device : DeviceId} {own : Own} (is : IsOwnOf network device own) where
  precision_of : network.precision.0 ≡ pos (amount network.precision)
  precision_of = whole network.precision.0 is.in_range.precision.least

  precision_some : 1 ≤ amount network.precision
  precision_some = some_whole network.precision.0 is.in_range.precision.least

module _ (network : Network) (device : DeviceId) (own : Own) (node : Node) (agenda : Agenda) where
  dispatch_first : (reading : ℤ) (next : Dispatch) (other : Task) → IsOwnOf network device own
      → IsAgenda network device node.standing node.changed node.done agenda → NoSendingDue agenda reading
      → IfSome agenda.correction (λ is. reading <ℤ is.at.0)
      → IsDispatch network device node.standing node.changed node.done (Some next) → reading <ℤ
      (reading_for network node (doing (dispatching next.slot.place.row next.cycle)) +ℤ network.precision.0)
      → IsAheadTask network device node other → reading_for network node other ≤ℤ reading
      → IsBefore (order_of network other) (3 ∷ dispatch_order network next.slot.place.row) → ⊥
  dispatch_first reading next (emitting sent) is a none nocor here soon h there before = h
  dispatch_first reading next (doing (sending cycle)) is a none nocor here soon h there before =
      no_sending node reading cycle a none h there
  dispatch_first reading next (doing (correcting cycle)) is a none nocor here soon h there before =
      no_correction node reading cycle a nocor h there
  dispatch_first reading next (doing (dispatching row cycle)) is a none nocor here soon h there (inl lt) = omega arith
  dispatch_first reading next (doing (dispatching row cycle)) is a none nocor here soon h there (inr (e, before)) =
      grind (arith, before_below, place_is, cases_of, far_behind, amount, precision_some, dispatching, precision_of)

  -- the next dispatch, where it is due and nothing else is, is the first task
  pub first_is_dispatch : {moment : Moment} (next : Dispatch) → IsOwnOf network device own → node.broken ≡ false
      → IsAgenda network device node.standing node.changed node.done agenda
      → MayCall network device node moment acting → IsFirstDue agenda moment.reading.0 (Some (dues.Dispatch next))
      → IsFirstTask network device node moment.reading.0 (doing (dispatching next.slot.place.row next.cycle))
  first_is_dispatch {moment} next is sound a may due =
      let here : IsDispatch network device node.standing node.changed node.done (Some next) = subst
      (IsDispatch network device node.standing node.changed node.done) due.2 a.dispatch in
      let pending = pending_task network device node (dispatching next.slot.place.row next.cycle) sound
      (dispatch_ahead network device node.standing node.changed node.done next here) in
      record {
        pending = pending;
        due = at_up_to _ _ moment.reading.0 here.2 due.3;
        first =
            λ other p there before. dispatch_first moment.reading.0 next other is a due.0 due.1 here
            (may.in_time (doing (dispatching next.slot.place.row next.cycle)) pending)
            (ahead_task network device node other is p) there before;
      }

  -- nothing is due where the agenda has nothing due
  pub none_is_due : (reading : ℤ) (task : Task) → IsOwnOf network device own
      → IsAgenda network device node.standing node.changed node.done agenda → IsFirstDue agenda reading None
      → IsPending network device node task → reading_for network node task ≤ℤ reading → ⊥
  none_is_due reading (emitting sent) is a due p here = not_both _ p.1.cm is.no_cm
  none_is_due reading (doing (sending cycle)) is a due p here =
      no_sending node reading cycle a due.0 (ahead_task network device node (doing (sending cycle)) is p) here
  none_is_due reading (doing (correcting cycle)) is a due p here =
      no_correction node reading cycle a due.1 (ahead_task network device node (doing (correcting cycle)) is p) here
  none_is_due reading (doing (dispatching row cycle)) is a due p here =
      let t = some_and agenda.dispatch _ _ (dispatch_some agenda.dispatch row cycle is a.dispatch
      (ahead_task network device node (doing (dispatching row cycle)) is p)) due.2 in
      le_lt_trans reading _ _ reading t.1.1 t.1.0 here

-- ---- the kind of what an end system does first

module _ (network : Network) (device : DeviceId) (own : Own) (node : Node) (agenda : Agenda) (reading : ℤ) (is : IsOwnOf network device own)
    (sound : node.broken ≡ false) (a : IsAgenda network device node.standing node.changed node.done agenda) where
  pub sends_first : (next : Appointment) → IsFirstDue agenda reading (Some (dues.Sending next)) → IsFirstKind network device node reading Sending
  sends_first next due =
      first_kind_of (first_is_sending network device own node reading next is sound a due)

  pub corrects_first : (next : Appointment) → IsFirstDue agenda reading (Some (dues.Correction next)) → IsFirstKind network device node reading Correction
  corrects_first next due =
      first_kind_of
      (first_is_correction network device own node agenda reading next is sound a due)

  -- where neither a sending nor a correction is due, all that is due are dispatches
  dispatches_all : IfSome agenda.sending (λ next. reading <ℤ next.at.0) → IfSome agenda.correction (λ next. reading <ℤ next.at.0) → (task : Task)
      → IsPending network device node task → reading_for network node task ≤ℤ reading → kind_of task ≡ Dispatches
  dispatches_all none also (emitting sent) p due = absurd (not_both _ p.1.cm is.no_cm)
  dispatches_all none also (doing (sending cycle)) p due =
      absurd (no_sending node reading cycle a none (ahead_task network device node (doing (sending cycle)) is p) due)
  dispatches_all none also (doing (correcting cycle)) p due =
      absurd (no_correction node reading cycle a also (ahead_task network device node (doing (correcting cycle)) is p) due)
  dispatches_all none also (doing (dispatching row cycle)) p due = refl

  pub dispatches_first : IfSome agenda.sending (λ next. reading <ℤ next.at.0) → IfSome agenda.correction (λ next. reading <ℤ next.at.0)
      → HasDue network device node reading → IsFirstKind network device node reading Dispatches
  dispatches_first none also due = record {
    task = due.0;
    pending = due.1;
    due = due.2;
    of_kind = dispatches_all none also due.0 due.1 due.2;
    first = λ other p here. let same = ap order_of_kind (dispatches_all none also other p here) in omega (arith, same);
  }
