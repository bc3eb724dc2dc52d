-- What of a scenario and its fault hypothesis is decided.
use Rattle.std.{proofs.{Common.{◌≢◌, Any, IsNone, is_some}, lemmas.{Bool.cases_eq, Int.by_lt_z}}}
use Rattle.std.{specs.{Int.Signed.clash_ℤ, Prelude.IfSome}}
use Rattle.net_plan.specs.{Places.IsSwitchOf, Rules.HasOffSwitch}
use Rattle.net_plan.specs.{declared.event.What.TheVariants.{Break, Cut, Hold, On, Rate, Wire}}
use Rattle.run_law.proofs.Words
use Words.{◌++◌, ◌+ℤ◌, ◌<ℤ◌, ◌<◌, ◌∙◌, ◌∷◌, ◌≡◌, ◌≤◌, ◌⊎◌, A, B, Bool, DeviceId, Event, IsSomeAnd, LinkId, List}
use Words.{Network, None, Option, Send, Some, Summary, Units, What, [], arith, cases_lt, device_at, false, inl, inr}
use Words.{is_master, link_at, refl, same_some, slice_get, subst, suc, sym, true, unsigned_abs, zero, ℕ, ℤ}
use Rattle.run_law.specs.scenario.Faults
use Faults.{BeginsOn, Breaks, Cuts, CutsOn, IsBroken, IsFaulty, IsFirstCutOn, IsLinkOf, IsTurnedOn, TurnsOn}
use Rattle.run_law.specs.scenario.Hypothesis
use Hypothesis.{BreaksNoMaster, BreaksSecond, ComesTooEarly, CutsOtherChannel, LeavesTooFew, SendsUnbroken}
use Hypothesis.{SetsFastRate, SetsLongHold, SetsOtherWire, TurnsOnAgain, sound_masters}
use Rattle.sync_state.specs.{Standing.{IsAtIntegration, Standing}, Verdicts.IsOutnumbered}
use Rattle.sync_state.specs.{declared.membership.frame.HeardFrame.HeardFrame}
use Rattle.sync_state.specs.{membership.{BestFrame.Qualifies, Members.count_of, Summary.best_on}}
use Rattle.tte_units.{proofs.general_lemmas.Lists.{any_behind, any_first, any_none, any_of}}
use Rattle.tte_units.{specs.declared.frames.channel.Channel.Channel}

-- ---- facts that are decided: they hold or they do not

abbrev pub IsDecided : Type 0 → Type 0
IsDecided P = P ⊎ (P → ⊥)

pub decided_by : {P Q : Type 0} → (P → Q) → (Q → P) → IsDecided P → IsDecided Q
decided_by there back (inl p) = inl (there p)
decided_by there back (inr fails) = inr (λ q. fails (back q))

decided_not : {P : Type 0} → IsDecided P → IsDecided (P → ⊥)
decided_not (inl p) = inr (λ fails. fails p)
decided_not (inr fails) = inl fails

pub decided_and : {P Q : Type 0} → IsDecided P → IsDecided Q → IsDecided (P × Q)
decided_and (inl p) (inl q) = inl (p, q)
decided_and (inl p) (inr fails) = inr (λ h. fails h.1)
decided_and (inr fails) q = inr (λ h. fails h.0)

pub decided_or : {P Q : Type 0} → IsDecided P → IsDecided Q → IsDecided (P ⊎ Q)
decided_or (inl p) q = inl (inl p)
decided_or (inr fails) (inl q) = inl (inr q)
decided_or (inr fails) (inr none) = inr (λ h. elim h [ inl p ↦ fails p | inr q ↦ none q ])

-- ---- numbers

pub decided_less : (a b : ℕ) → IsDecided (a < b)
decided_less a b = elim (cases_lt a b) [ inl lt ↦ inl lt | inr ge ↦ inr (λ lt. absurd (omega arith)) ]

pub decided_same : (a b : ℕ) → IsDecided (a ≡ b)
decided_same a b = cases_eq a b

pub decided_less_int : (a b : ℤ) → IsDecided (a <ℤ b)
decided_less_int a b = by_lt_z a b (λ lt. inl lt) (λ ge. inr (λ lt. clash_ℤ lt ge))

pub decided_true : (b : Bool) → IsDecided (b ≡ true)
decided_true true = inl refl
decided_true false = inr (λ e. cc)

pub decided_false : (b : Bool) → IsDecided (b ≡ false)
decided_false true = inr (λ e. cc)
decided_false false = inl refl

-- ---- options and lists

pub decided_some : {X : Type 0} (o : Option X) (P : X → Type 0) → ((x : X) → IsDecided (P x)) → IsDecided (IsSomeAnd o P)
decided_some None P each = inr (λ h. h)
decided_some (Some x) P each = each x

neither : {X : Type 0} (x : X) (xs : List X) (P : X → Type 0) → (P x → ⊥) → ((i : ℕ) × IsSomeAnd (slice_get xs i) P → ⊥) → (i : ℕ)
    × IsSomeAnd (slice_get (x ∷ xs) i) P → ⊥
neither x xs P fails none (zero, p) = fails p
neither x xs P fails none (suc i, p) = none (i, p)

-- some element of the list is so, by its place
decided_at : {X : Type 0} (xs : List X) (P : X → Type 0) → ((x : X) → IsDecided (P x)) → IsDecided ((i : ℕ) × IsSomeAnd (slice_get xs i) P)
decided_at [] P each = inr (λ h. h.1)
decided_at (x ∷ xs) P each =
    elim (each x) [
      | inl p ↦ inl (0, p)
      | inr fails ↦
          elim (decided_at xs P each) [
            | inl later ↦ inl (suc later.0, later.1)
            | inr none ↦ inr (neither x xs P fails none)
          ]
    ]

pub decided_any : {X : Type 0} (P : X → Type 0) → ((x : X) → IsDecided (P x)) → (xs : List X) → IsDecided (Any P xs)
decided_any P each [] = inr (any_none P)
decided_any P each (x ∷ xs) =
    decided_by (λ h. elim h [ inl p ↦ any_first P x xs p | inr later ↦ any_behind P x xs later ]) (any_of P x xs)
    (decided_or (each x) (decided_any P each xs))

-- ---- each condition of the fault hypothesis is decided

-- ---- the time of an event

no_last : (front : List Event) (last : Event) → [] ≡ front ++ last ∷ [] → ⊥
no_last [] last e = cc
no_last (f ∷ front) last e = cc

only_last : (front : List Event) (e last : Event) → e ∷ [] ≡ front ++ last ∷ [] → last ≡ e
only_last [] e last order = cc
only_last (f ∷ []) e last order = absurd cc
only_last (f ∷ g ∷ front) e last order = absurd cc

last_of_rest : (front : List Event) (e f : Event) (rest : List Event) (last : Event) → e ∷ f ∷ rest ≡ front ++ last ∷ [] → (more : List Event)
    × (f ∷ rest ≡ more ++ last ∷ [])
last_of_rest [] e f rest last order = absurd cc
last_of_rest (g ∷ front) e f rest last order = (front, cc)

pub too_early : (before : List Event) (event : Event) → IsDecided (ComesTooEarly before event)
too_early [] event = inr (λ h. no_last h.front h.last h.order)
too_early (e ∷ []) event =
    decided_by (λ lt. record { front = []; last = e; order = refl; later = lt })
    (λ h. rw (only_last h.front e h.last h.order) at h.later) (decided_less_int event.time.0 e.time.0)
too_early (e ∷ f ∷ rest) event = decided_by
    (λ h. record { front = e ∷ h.front; last = h.last; order = rw h.order; later = h.later })
    (λ h. let more = last_of_rest h.front e f rest h.last h.order in record { front = more.0; last = h.last; order = more.1; later = h.later })
    (too_early (f ∷ rest) event)

-- ---- what an event sets

fast_rate_by : (network : Network) (event : Event) (what : What) → event.what ≡ what → IsDecided (SetsFastRate network event)
fast_rate_by network event (Rate device rate) is = decided_by
    (λ fast. record { device = device; rate = rate; what = is; fast = fast })
    (λ h. let same : h.rate ≡ rate = cc in rw same at h.fast)
    (decided_less network.rho (unsigned_abs rate.0))
fast_rate_by network event other is = inr (λ h. cc)

pub fast_rate : (network : Network) (event : Event) → IsDecided (SetsFastRate network event)
fast_rate network event = fast_rate_by network event event.what refl

abbrev IsOtherWire : Network → LinkId → Units → Type 0
IsOtherWire network link delay = IsSomeAnd (link_at network link) (λ l. (delay.0 <ℤ l.wire.0) ⊎ ((l.wire.0 +ℤ l.jitter.0) <ℤ delay.0))

other_wire_by : (network : Network) (event : Event) (what : What) → event.what ≡ what → IsDecided (SetsOtherWire network event)
other_wire_by network event (Wire link way delay) is = decided_by
    (λ other. record { link = link; way = way; delay = delay; what = is; other = other })
    (λ h.
    let links : h.link ≡ link = cc in
    let delays : h.delay ≡ delay = cc in
    subst (IsOtherWire network link) delays (rw links at h.other))
    (decided_some (link_at network link) (λ l. (delay.0 <ℤ l.wire.0) ⊎ ((l.wire.0 +ℤ l.jitter.0) <ℤ delay.0))
    (λ l. decided_or (decided_less_int delay.0 l.wire.0) (decided_less_int (l.wire.0 +ℤ l.jitter.0) delay.0)))
other_wire_by network event other is = inr (λ h. cc)

pub other_wire : (network : Network) (event : Event) → IsDecided (SetsOtherWire network event)
other_wire network event = other_wire_by network event event.what refl

abbrev IsLongHold : Network → LinkId → Units → Type 0
IsLongHold network link delay = IsSomeAnd (link_at network link) (λ l. l.hold.0 <ℤ delay.0)

long_hold_by : (network : Network) (event : Event) (what : What) → event.what ≡ what → IsDecided (SetsLongHold network event)
long_hold_by network event (Hold link way delay) is = decided_by
    (λ long. record { link = link; way = way; delay = delay; what = is; long = long })
    (λ h.
    let links : h.link ≡ link = cc in
    let delays : h.delay ≡ delay = cc in
    subst (IsLongHold network link) delays (rw links at h.long))
    (decided_some (link_at network link) (λ l. l.hold.0 <ℤ delay.0) (λ l. decided_less_int l.hold.0 delay.0))
long_hold_by network event other is = inr (λ h. cc)

pub long_hold : (network : Network) (event : Event) → IsDecided (SetsLongHold network event)
long_hold network event = long_hold_by network event event.what refl

-- ---- channels

same_channel : (c d : Channel) → IsDecided (c ≡ d)
same_channel A A = inl refl
same_channel A B = inr (λ e. cc)
same_channel B A = inr (λ e. cc)
same_channel B B = inl refl

one_of : (P : Channel → Type 0) → (c : Channel) × P c → P A ⊎ P B
one_of P (A, p) = inl p
one_of P (B, p) = inr p

some_channel : (P : Channel → Type 0) → ((c : Channel) → IsDecided (P c)) → IsDecided ((c : Channel) × P c)
some_channel P each = decided_by (λ h. elim h [ inl a ↦ (A, a) | inr b ↦ (B, b) ]) (one_of P) (decided_or (each A) (each B))

no_channel : (P : Channel → Type 0) → ((c : Channel) → IsDecided (P c)) → IsDecided ((c : Channel) → P c → ⊥)
no_channel P each = decided_by (λ none c p. none (c, p)) (λ none h. none h.0 h.1) (decided_not (some_channel P each))

is_channel : (o : Option Channel) (c : Channel) → IsDecided (o ≡ Some c)
is_channel None c = inr (λ e. cc)
is_channel (Some d) c = decided_by (λ e. rw e) (λ e. cc) (same_channel d c)

is_link_of : (network : Network) (channel : Channel) (link : LinkId) → IsDecided (IsLinkOf network channel link)
is_link_of network channel link =
    decided_some (link_at network link) (λ l. IsSwitchOf network channel l.parent)
    (λ l. decided_some (device_at network l.parent) (λ d. d.channel ≡ Some channel) (λ d. is_channel d.channel channel))

has_off_switch : (network : Network) (channel : Channel) → IsDecided (HasOffSwitch network channel)
has_off_switch network channel = decided_by
    (λ h. (record { 0 = h.0 }, h.1))
    (λ h. (h.0.0, h.1))
    (decided_at network.device (λ d. (d.channel ≡ Some channel) × IsNone d.start)
    (λ d. decided_and (is_channel d.channel channel) (decided_false (is_some d.start))))

-- ---- the first cut

cuts_by : (event : Event) (what : What) → event.what ≡ what → IsDecided ((link : LinkId) × Cuts link event)
cuts_by event (Cut link way) is = inl (link, (way, is))
cuts_by event other is = inr (λ h. cc)

cuts_on_by : (network : Network) (channel : Channel) (event : Event) (what : What) → event.what ≡ what → IsDecided (CutsOn network channel event)
cuts_on_by network channel event (Cut link way) is = decided_by
    (λ on. (link, (way, is), on))
    (λ h. let both = sym h.1.1 ∙ is in let same : h.0 ≡ link = cc in subst (IsLinkOf network channel) same h.2)
    (is_link_of network channel link)
cuts_on_by network channel event other is = inr (λ h. cc)

module _ (network : Network) (channel : Channel) (e : Event) (rest : List Event) where
  -- where the first of the events cuts, it is the first cut
  cut_is_first : (before : List Event) (cut : Event) (behind : List Event) → e ∷ rest ≡ before ++ cut ∷ behind
      → ((link : LinkId) → Any (Cuts link) before → ⊥) → CutsOn network channel cut → (link : LinkId) × Cuts link e
      → CutsOn network channel e
  cut_is_first [] cut behind order none on first = let same : cut ≡ e = cc in subst (CutsOn network channel) same on
  cut_is_first (b ∷ before) cut behind order none on first =
      let same : e ≡ b = cc in
      absurd (none first.0 (any_first (Cuts first.0) b before (subst (Cuts first.0) same first.1)))

  -- where it does not, the first cut is among the rest
  cut_is_later : (before : List Event) (cut : Event) (behind : List Event) → e ∷ rest ≡ before ++ cut ∷ behind
      → ((link : LinkId) → Any (Cuts link) before → ⊥) → CutsOn network channel cut
      → ((link : LinkId) × Cuts link e → ⊥) → IsFirstCutOn network channel rest
  cut_is_later [] cut behind order none on fails =
      let same : cut ≡ e = cc in absurd (fails (on.0, subst (Cuts on.0) same on.1))
  cut_is_later (b ∷ before) cut behind order none on fails = record {
    before = before;
    cut = cut;
    behind = behind;
    order = cc;
    none_before = λ link h. none link (any_behind (Cuts link) b before h);
    cuts = on;
  }

no_cut : (before : List Event) (cut : Event) (behind : List Event) → [] ≡ before ++ cut ∷ behind → ⊥
no_cut [] cut behind e = cc
no_cut (b ∷ before) cut behind e = cc

first_cut : (network : Network) (channel : Channel) (all : List Event) → IsDecided (IsFirstCutOn network channel all)
first_cut network channel [] = inr (λ h. no_cut h.before h.cut h.behind h.order)
first_cut network channel (e ∷ rest) =
    elim (cuts_by e e.what refl) [
      | inl cut ↦ decided_by
          (λ on. record { before = []; cut = e; behind = rest; order = refl; none_before = λ link h. any_none (Cuts link) h; cuts = on })
          (λ h. cut_is_first network channel e rest h.before h.cut h.behind h.order h.none_before h.cuts cut)
          (cuts_on_by network channel e e.what refl)
      | inr fails ↦ decided_by
          (λ (h : IsFirstCutOn network channel rest). record {
            before = e ∷ h.before;
            cut = h.cut;
            behind = h.behind;
            order = rw h.order;
            none_before = λ link later. elim (any_of (Cuts link) e h.before later) [ inl cut ↦ fails (link, cut) | inr more ↦ h.none_before link more ];
            cuts = h.cuts;
          })
          (λ h. cut_is_later network channel e rest h.before h.cut h.behind h.order h.none_before h.cuts fails)
          (first_cut network channel rest)
    ]

pub is_faulty : (network : Network) (events : List Event) (channel : Channel) → IsDecided (IsFaulty network events channel)
is_faulty network events channel =
    decided_or (has_off_switch network channel) (decided_and (no_channel (HasOffSwitch network) (has_off_switch network)) (first_cut network channel events))

-- the link is of the channel, and another one is faulty
abbrev HasOther : Network → List Event → LinkId → Channel → Type 0
HasOther network before link channel = IsLinkOf network channel link × ((faulty : Channel) × (IsFaulty network before faulty × (faulty ≢ channel)))

module _ (network : Network) (before : List Event) where
  has_other : (link : LinkId) (channel : Channel) → IsDecided (HasOther network before link channel)
  has_other link channel =
      decided_and
      (is_link_of network channel link)
      (some_channel (λ f. IsFaulty network before f × (f ≢ channel))
      (λ f. decided_and (is_faulty network before f) (decided_not (same_channel f channel))))

  other_channel_by : (event : Event) (what : What) → event.what ≡ what
      → IsDecided (CutsOtherChannel network before event)
  other_channel_by event (Cut link way) is = decided_by
      (λ h. record { link = link; way = way; channel = h.0; faulty = h.1.1.0; what = is; on = h.1.0; is_faulty = h.1.1.1.0; other = h.1.1.1.1 })
      (λ h.
      let both = sym h.what ∙ is in
      let same : h.link ≡ link = cc in
      (h.channel, (subst (IsLinkOf network h.channel) same h.on, (h.faulty, (h.is_faulty, h.other)))))
      (some_channel (HasOther network before link) (has_other link))
  other_channel_by event other is = inr (λ h. cc)

  pub other_channel : (event : Event) → IsDecided (CutsOtherChannel network before event)
  other_channel event = other_channel_by event event.what refl

-- ---- devices

pub same_device : (a b : DeviceId) → IsDecided (a ≡ b)
same_device a b = decided_by (λ e. rw e) (λ e. rw e) (decided_same a.0 b.0)

breaks_by : (device : DeviceId) (event : Event) (what : What) → event.what ≡ what → IsDecided (Breaks device event)
breaks_by device event (Break other) is = decided_by (λ e. is ∙ (rw e)) (λ h. cc)
    (same_device other device)
breaks_by device event other is = inr (λ h. cc)

breaks_some_by : (event : Event) (what : What) → event.what ≡ what → IsDecided ((device : DeviceId) × Breaks device event)
breaks_some_by event (Break device) is = inl (device, is)
breaks_some_by event other is = inr (λ h. cc)

turns_on_by : (device : DeviceId) (event : Event) (what : What) → event.what ≡ what → IsDecided (TurnsOn device event)
turns_on_by device event (On other) is = decided_by (λ e. is ∙ (rw e)) (λ h. cc) (same_device other device)
turns_on_by device event other is = inr (λ h. cc)

pub is_broken : (events : List Event) (device : DeviceId) → IsDecided (IsBroken events device)
is_broken events device = decided_any (Breaks device) (λ e. breaks_by device e e.what refl) events

pub is_turned_on : (events : List Event) (device : DeviceId) → IsDecided (IsTurnedOn events device)
is_turned_on events device = decided_any (TurnsOn device) (λ e. turns_on_by device e e.what refl) events

pub some_broken : (events : List Event) → IsDecided ((device : DeviceId) × IsBroken events device)
some_broken [] = inr (λ h. any_none (Breaks h.0) h.1)
some_broken (e ∷ events) = decided_by
    (λ h. elim h [ inl first ↦ (first.0, any_first (Breaks first.0) e events first.1) | inr later ↦ (later.0, any_behind (Breaks later.0) e events later.1) ])
    (λ h. elim (any_of (Breaks h.0) e events h.1) [ inl first ↦ inl (h.0, first) | inr later ↦ inr (h.0, later) ])
    (decided_or (breaks_some_by e e.what refl) (some_broken events))

begins_on : (network : Network) (device : DeviceId) → IsDecided (BeginsOn network device)
begins_on network device = decided_some (device_at network device) (λ d. IsNone d.start → ⊥) (λ d. decided_not (decided_false (is_some d.start)))

-- ---- breaks, sends and turning on

abbrev IsNoMaster : Network → DeviceId → Type 0
IsNoMaster network device = IsSomeAnd (device_at network device) (λ d. is_master d.role ≡ true) → ⊥

no_master_by : (network : Network) (event : Event) (what : What) → event.what ≡ what → IsDecided (BreaksNoMaster network event)
no_master_by network event (Break device) is = decided_by
    (λ fails. record { device = device; breaks = is; no_master = fails })
    (λ h. let same : h.device ≡ device = cc in subst (IsNoMaster network) same h.no_master)
    (decided_not (decided_some (device_at network device) (λ d. is_master d.role ≡ true) (λ d. decided_true (is_master d.role))))
no_master_by network event other is = inr (λ h. cc)

pub no_master : (network : Network) (event : Event) → IsDecided (BreaksNoMaster network event)
no_master network event = no_master_by network event event.what refl

pub second_break : (before : List Event) (event : Event) → IsDecided (BreaksSecond before event)
second_break before event = decided_by
    (λ h. record { device = h.0.0; broken = h.1.0; breaks = h.0.1; is_broken = h.1.1 })
    (λ h. ((h.device, h.breaks), (h.broken, h.is_broken)))
    (decided_and (breaks_some_by event event.what refl) (some_broken before))

pub too_few : (network : Network) (before : List Event) (event : Event) → IsDecided (LeavesTooFew network before event)
too_few network before event = decided_by
    (λ h. record { device = h.0.0; breaks = h.0.1; few = h.1 })
    (λ h. ((h.device, h.breaks), h.few))
    (decided_and (breaks_some_by event event.what refl) (decided_less (sound_masters network (before ++ event ∷ [])) network.sync_threshold))

abbrev IsUnbroken : Network → List Event → LinkId → Type 0
IsUnbroken network before link = IsSomeAnd (link_at network link) (λ l. IsBroken before l.child) → ⊥

module _ (network : Network) (before : List Event) (event : Event) where
  sends_unbroken_by : (what : What) → event.what ≡ what → IsDecided (SendsUnbroken network before event)
  sends_unbroken_by (Send link octets) is = decided_by
      (λ fails. record { link = link; octets = octets; what = is; unbroken = fails })
      (λ h. let both = sym h.what ∙ is in let same : h.link ≡ link = cc in subst (IsUnbroken network before) same
      h.unbroken)
      (decided_not (decided_some (link_at network link) (λ l. IsBroken before l.child) (λ l. is_broken before l.child)))
  sends_unbroken_by other is = inr (λ h. cc)

  pub sends_unbroken : IsDecided (SendsUnbroken network before event)
  sends_unbroken = sends_unbroken_by event.what refl

abbrev IsKnown : Network → List Event → DeviceId → Type 0
IsKnown network before device = BeginsOn network device ⊎ IsTurnedOn before device ⊎ IsBroken before device

module _ (network : Network) (before : List Event) (event : Event) where
  turns_on_again_by : (what : What) → event.what ≡ what → IsDecided (TurnsOnAgain network before event)
  turns_on_again_by (On device) is = decided_by (λ known. record { device = device; what = is; known = known })
      (λ h. let both = sym h.what ∙ is in let same : h.device ≡ device = cc in subst (IsKnown network before) same
      h.known)
      (decided_or (begins_on network device) (decided_or (is_turned_on before device) (is_broken before device)))
  turns_on_again_by other is = inr (λ h. cc)

  pub turns_on_again : IsDecided (TurnsOnAgain network before event)
  turns_on_again = turns_on_again_by event.what refl

-- ---- what of a scenario is decided

pub decided_le : (a b : ℕ) → IsDecided (a ≤ b)
decided_le a b = elim (cases_lt b a) [ inl lt ↦ inr (λ le. absurd (omega arith)) | inr ge ↦ inl ge ]

pub qualifies : (threshold : ℕ) (o : Option HeardFrame) → IsDecided (Qualifies threshold o)
qualifies threshold o = decided_some o (λ frame. threshold ≤ count_of frame.members) (λ frame. decided_le threshold (count_of frame.members))

pub few : (o : Option HeardFrame) (n : ℕ) → IsDecided (IfSome o (λ frame. count_of frame.members ≤ n))
few None n = inl tt
few (Some frame) n = decided_le (count_of frame.members) n

pub outnumbered : (heard : Summary) → IsDecided (IsOutnumbered heard)
outnumbered heard = elim (few heard.best_a (count_of heard.outside)) [
  | inr no_a ↦ inr (λ all. no_a (all A))
  | inl a ↦ elim (few heard.best_b (count_of heard.outside)) [
    | inr no_b ↦ inr (λ all. no_b (all B))
    | inl b ↦ inl (λ channel. elim channel as (λ c. IfSome (best_on c heard) (λ frame. count_of frame.members ≤ count_of heard.outside)) [ A ↦ a | B ↦ b ])
  ]
]

pub at_integration : (st : Standing) → IsDecided (IsAtIntegration st)
at_integration st = grind (arith, decided_same, same_some)
