-- How a device stands: by the records that bear on it, at an instant, at rest, and once it is turned on.
use Rattle.std.proofs.{Common.arith, lemmas.List.map_push}
use Rattle.compression.specs.Clusters.{point_at}
use Rattle.run_law.{proofs.records.Order.{fold_parts, time_before}}
use Rattle.run_law.specs.{control.{Collections.master_of, Corrections.heard_by}, declared.judgement.Why.TheVariants.On}
use Rattle.run_law.specs.{scenario.Devices.{channel_of, channel_of_link, start_of}}
use Rattle.sync_state.specs.{Standing.state_at_start, membership.Hearing.Hearing}
use Rattle.world_law.{specs.device.{Own.own, Recorded.HasCleared, Told.since_at}}
use Rattle.world_law.proofs.{acts.Acting.{IsUnmoved, cleared_on, had_come_by, point_number}}
use Rattle.world_law.proofs.{giving.GivenParts.no_later_breaks}
use Rattle.world_law.proofs.{lists.Lists.{behind_no, behind_yes, filter_no, filter_yes}}
use Rattle.world_law.proofs.{runs.Foremost.{not_on_after, unmoved_by}}
use Rattle.world_law.proofs.Words
use Words.{if◌then◌else◌, ◌&&◌, ◌++◌, ◌+◌, ◌-◌, ◌<ℤ◌, ◌<◌, ◌||◌, ◌∙◌, ◌∷◌, ◌≡◌, ◌≤ℤ◌, ◌≤◌, ◌⊎◌, AllBefore, Bool}
use Words.{DeviceId, Happening, HasDone, HasSent, HaveBefallen, Integrating, IsAtRest, IsBefore, IsDue, IsFounded}
use Words.{IsHeld, IsIn, IsKept, IsLeft, IsOfThisTime, IsPending, IsTurnedOnBy, List, Network, Node, None, Note}
use Words.{NoteBody, Option, Scenario, Some, Stands, State, Task, Units, World, [], adjustment_after, adjustment_before}
use Words.{adjustment_with, after_last, and_right, ap, append-nil, append_assoc, bears_on, borne, both_ways, cases_Bool}
use Words.{cases_lt, changed_at, changes_adjustment, cons_option, cycle_after, cycle_in, doing, earlier, emitting}
use Words.{ends_stretch, false, filter, filter-append, filter_map, fold, happenings, has_cleared, heard_since}
use Words.{hearing_by, in_parts, in_right, inl, inr, integration_cycle, ints, is_broken, is_joined_by, is_timed}
use Words.{is_turned_on_at, is_turning, key, last_or, local_at_change, members_in, moves, nat_le, nat_lt, not}
use Words.{option_map, option_map_or, parted, place_of, plain, plains, point_by, points_of, pos, rank, reading_for}
use Words.{recorded_cycle, refl, same_kept, state_after, state_before, state_with, subst, sym, time_of, true, up_to, ℕ}
use Rattle.world_law.proofs.devices.{Deeds.rests, Working.{done_by, sent_by}}
use Rattle.world_law.proofs.devices.Unmoved
use Unmoved.{changes_no_other, earlier_no, earlier_yes, filter_own, fold_own, joins_no_other, keeps_adjustment}
use Unmoved.{keeps_cycle, keeps_integration, keeps_state, not_turned_on, own_no, passes_if, state_still}
use Rattle.run_law.specs.declared.judgement.Judgement.TheVariants as judgements
use Rattle.run_law.specs.declared.judgement.Why.TheVariants as whys
use Rattle.run_law.specs.declared.note.NoteBody.TheVariants as notes

-- ---- a device stands by the records that bear on it, wherever others stand between them: one record

pub moves_no_other : (device : DeviceId) (body : NoteBody) → bears_on device body ≡ false → moves device body ≡ false
moves_no_other device (notes.Permanent other link cause point judgements.Integrates) e = e
moves_no_other device (notes.Compressed other opened at cycle members judgements.Integrates) e = e
moves_no_other device (notes.Corrected other cycle by adjustment) e = e
moves_no_other device (notes.State other state cause why) e = e
moves_no_other device other e = refl

pub ends_no_other : (device : DeviceId) (body : NoteBody) → bears_on device body ≡ false → ends_stretch device body ≡ false
ends_no_other device (notes.State other state cause whys.On) e = refl
ends_no_other device (notes.State other state cause why) e = e
ends_no_other device other e = joins_no_other device other (moves_no_other device other e)

off : {A : Type 0} {b : Bool} (x y : A) → b ≡ false → (if b then x else y) ≡ y
off x y e = rw e

pub gives_no_point : (device : DeviceId) (h : Happening) (body : NoteBody) → bears_on device body ≡ false → point_by device h body ≡ None
gives_no_point device h (notes.Permanent other link cause point verdict) e =
    off (Some (point_at point.0 (master_of (members_in h)) (cycle_in h))) None e
gives_no_point device h other e = refl

pub hears_nothing : (network : Network) (device : DeviceId) (h : Happening) (body : NoteBody) → bears_on device body ≡ false
    → hearing_by network device h body ≡ None
hears_nothing network device h (notes.Permanent other link cause point judgements.Within) e =
    off (option_map (λ channel. heard_by channel h point true) (channel_of_link network link)) None e
hears_nothing network device h (notes.Permanent other link cause point judgements.Outside) e =
    off (option_map (λ channel. heard_by channel h point false) (channel_of_link network link)) None e
hears_nothing network device h (notes.Compressed other opened at cycle members judgements.Within) e =
    off (option_map (λ channel. heard_by channel h at true) (channel_of network device)) None e
hears_nothing network device h (notes.Compressed other opened at cycle members judgements.Outside) e =
    off (option_map (λ channel. heard_by channel h at false) (channel_of network device)) None e
hears_nothing network device h other e = refl

-- ---- lists

from_last : {X : Type 0} (P : List X → Type 0) → ((xs : List X) (x : X) → P xs → P (xs ++ x ∷ [])) → (ps qs : List X) → P ps → P (ps ++ qs)
from_last P step ps [] p = subst P (sym (append-nil ps)) p
from_last P step ps (q ∷ qs) p = subst P (append_assoc ps (q ∷ []) qs) (from_last P step (ps ++ q ∷ []) qs (step ps q p))

-- what holds of no record, and of one more, holds of all
pub by_last : {X : Type 0} (P : List X → Type 0) → P [] → ((xs : List X) (x : X) → P xs → P (xs ++ x ∷ [])) → (xs : List X) → P xs
by_last P none step xs = from_last P step [] xs none

-- what stands behind the last that passes p, of those that pass q, where what passes p passes q
behind_kept : {X : Type 0} (p q : X → Bool) → ((x : X) → q x ≡ false → p x ≡ false) → (xs : List X) → after_last p (filter q xs) ≡ filter q (after_last p xs)
behind_kept {X} p q fails xs = by_last (λ l. after_last p (filter q l) ≡ filter q (after_last p l)) refl (λ l x same.
    elim (cases_Bool (q x)) [
      | inl kept ↦
          ap (after_last p) (filter_yes q l x kept)
          ∙ elim (cases_Bool (p x)) [
            | inl passes ↦ behind_yes p (filter q l) x passes ∙ sym (ap (filter q) (behind_yes p l x passes))
            | inr stays ↦ behind_no p (filter q l) x stays ∙ (rw same (sym (filter_yes q (after_last p l) x kept)
                ∙ sym (ap (filter q) (behind_no p l x stays))))
          ]
      | inr left ↦
          ap (after_last p) (filter_no q l x left) ∙ same ∙ sym (filter_no q (after_last p l) x left) ∙ sym (ap (filter q) (behind_no p l x (fails x left)))
    ]) xs

-- a map that gives nothing for what is left out
map_kept : {X Y : Type 0} (f : X → Option Y) (q : X → Bool) → ((x : X) → q x ≡ false → f x ≡ None) → (xs : List X)
    → filter_map f xs ≡ filter_map f (filter q xs)
map_kept f q nothing [] = refl
map_kept {X} {Y} f q nothing (x ∷ xs) = grind (arith, cases_Bool, cons_option, filter_map, filter, (map_kept f q nothing xs))

-- two filters may change places
filters_swap : {X : Type 0} (p q : X → Bool) (xs : List X) → filter p (filter q xs) ≡ filter q (filter p xs)
filters_swap p q [] = refl
filters_swap {X} p q (x ∷ xs) = grind (arith, cases_Bool, filter, (filters_swap p q xs))

own_of_borne : (device : DeviceId) (hs : List Happening) → own device hs ≡ own device (borne device hs)
own_of_borne device [] = refl
own_of_borne device (h ∷ hs) = grind (arith, cases_Bool, bears_on, moves, borne, own_no, moves_no_other, (own_of_borne device hs))

-- what moves the device before a time, of the records that bear on it
own_before : (device : DeviceId) (t : ℕ) (hs : List Happening) → own device (earlier t hs) ≡ own device (earlier t (borne device hs))
own_before device t hs = own_of_borne device (earlier t hs) ∙ ap (own device) (filters_swap (λ h. bears_on device h.note.body) (λ h. nat_lt (time_of h) t) hs)

-- ---- a device

-- of two lists with the same records that bear on the device, all is told alike
pub record TellAlike (s : Scenario) (hs gs : List Happening) (device : DeviceId) (t : ℕ) : Type 0 where
  pub state : state_after s (earlier t hs) device ≡ state_after s (earlier t gs) device
  pub adjustment : adjustment_before s hs device t ≡ adjustment_before s gs device t
  pub integration : integration_cycle (earlier t hs) device ≡ integration_cycle (earlier t gs) device
  pub cycle : recorded_cycle (earlier t hs) device ≡ recorded_cycle (earlier t gs) device
  pub change : changed_at hs device t ≡ changed_at gs device t

module _ (s : Scenario) (hs gs : List Happening) (device : DeviceId) (t : ℕ) where
  -- it is where the same records move the device before the time
  pub tell_owned : own device (earlier t hs) ≡ own device (earlier t gs) → TellAlike s hs gs device t
  tell_owned owned =
      let states = fold_own device (λ state h. state_with device state h.note.body)
      (λ z h e. keeps_state device z h.note.body e) _ in
      let adjustments = fold_own device (λ adjustment h. adjustment_with s device (cycle_in h) adjustment h.note.body)
      (λ z h e. keeps_adjustment s device (cycle_in h) z h.note.body e) _ in
      let integrations = fold_own device (λ last h. if is_joined_by device h.note.body then Some
      (cycle_in h) else last) (λ z h e. keeps_integration device z h e)
      None in
      let cycles = fold_own device (λ next h. cycle_after device next h h.note.body)
      (λ z h e. keeps_cycle device z h h.note.body e) 1 in
      let changes = filter_own device (λ h. changes_adjustment device h.note.body)
      (λ h e. changes_no_other device h.note.body e) in
      record {
        state = states (earlier t hs) ∙ ap (fold _ _) owned ∙ sym (states (earlier t gs));
        adjustment = adjustments (earlier t hs) ∙ ap (fold _ _) owned ∙ sym (adjustments (earlier t gs));
        integration = integrations (earlier t hs) ∙ ap (fold _ _) owned ∙ sym (integrations (earlier t gs));
        cycle = cycles (earlier t hs) ∙ ap (fold _ _) owned ∙ sym (cycles (earlier t gs));
        change =
            rw (changes (earlier t hs) ∙ ap (filter _) owned ∙ sym (changes (earlier t gs)));
      }

  pub tell_alike : borne device hs ≡ borne device gs → TellAlike s hs gs device t
  tell_alike same =
      tell_owned
      (own_before device t hs ∙ (rw same (sym
      (own_before device t gs))))

  pub cleared_alike : (by : ℕ) → TellAlike s hs gs device t
      → has_cleared s hs device t by ≡ has_cleared s gs device t by
  cleared_alike by a = grind (arith, recorded_cycle, earlier, changed_at, adjustment_before, integration_cycle)

-- what was heard, by the flags of what is kept
abbrev heard_of : Scenario → DeviceId → ℕ → (ℕ → Bool) → List Happening → List Hearing
heard_of s device t cleared since = filter_map (λ h. hearing_by s.network device h h.note.body) (filter (λ h. not (cleared t) || cleared (time_of h)) since)

changes_test : (device : DeviceId) (t : ℕ) (h : Happening) → bears_on device h.note.body ≡ false
    → (nat_lt (time_of h) t && changes_adjustment device h.note.body) ≡ false
changes_test device t h misses = and_right (nat_lt (time_of h) t) _ (changes_no_other device h.note.body (moves_no_other device h.note.body misses))

-- what was heard of the records that bear on the device, is what was heard of all
heard_borne : (s : Scenario) (device : DeviceId) (t : ℕ) (cleared : ℕ → Bool) (hs : List Happening)
    → heard_of s device t cleared (since_at device t hs) ≡ heard_of s device t cleared (since_at device t (borne device hs))
heard_borne s device t cleared hs =
    grind (
      arith,
      bears_on,
      nat_lt,
      time_of,
      changes_adjustment,
      not,
      map_kept,
      hearing_by,
      hears_nothing,
      filter,
      filter_map,
      filters_swap,
      behind_kept,
      changes_test,
    )

pub heard_alike : (s : Scenario) (hs gs : List Happening) (device : DeviceId) (t : ℕ) → borne device hs ≡ borne device gs
    → heard_since s hs device t ≡ heard_since s gs device t
heard_alike s hs gs device t same =
    let a = tell_alike s hs gs device t same in
    heard_borne s device t (has_cleared s hs device t) hs
    ∙ (rw same
    (sym (heard_borne s device t (has_cleared s hs device t) gs)
    ∙ ap (filter_map (λ h. hearing_by s.network device h h.note.body))
    (same_kept (λ h. not (has_cleared s hs device t t) || has_cleared s hs device t (time_of h)) (λ h. not (has_cleared s gs device t t)
    || has_cleared s gs device t (time_of h)) (since_at device t gs)
    (λ h i. rw (cleared_alike s hs gs device t t a)
    (rw (cleared_alike s hs gs device t (time_of h) a))))))

pub points_alike : (hs gs : List Happening) (device : DeviceId) → borne device hs ≡ borne device gs → points_of hs device ≡ points_of gs device
points_alike hs gs device same =
    let q = λ (h : Happening). bears_on device h.note.body in
    let to = λ (l : List Happening).
    map_kept (λ h. point_by device h h.note.body) q (λ h misses. gives_no_point device h h.note.body misses)
    (after_last (λ h. ends_stretch device h.note.body) l)
    ∙ ap (filter_map (λ h. point_by device h h.note.body))
    (sym (behind_kept (λ h. ends_stretch device h.note.body) q (λ h misses. ends_no_other device h.note.body misses) l)) in
    to hs ∙ (rw same
    (sym (to gs)))

-- the device stands by the records that bear on it
pub left_alike : {s : Scenario} {hs : List Happening} (gs : List Happening) {device : DeviceId} {t : ℕ} {node : Node}
    → borne device hs ≡ borne device gs → IsLeft s hs device t node → IsLeft s gs device t node
left_alike {s} {hs} gs {device} {t} same left =
    let a = tell_alike s hs gs device t same in
    record {
      counted = record {
        plan = left.counted.plan;
        adjustment = left.counted.adjustment ∙ a.adjustment;
        integrated = left.counted.integrated ∙ a.integration;
        number = λ timed.
            left.counted.number timed
            ∙ (rw (cleared_alike s hs gs device t t a)
            ((rw a.cycle)));
        changed =
            left.counted.changed
            ∙ (rw a.change
            ((rw a.adjustment)));
        heard = λ timed. left.counted.heard timed ∙ heard_alike s hs gs device t same;
        started =
            rw a.integration at (rw a.cycle at left.counted.started);
        broken = left.counted.broken;
      };
      state = left.state ∙ (rw a.state);
      points = λ cm. left.points cm ∙ points_alike hs gs device same;
    }

-- so it does not matter to it where, before what it has yet to tell, another's record comes
pub other_comes : {s : Scenario} (hs ahead : List Happening) {device : DeviceId} {t : ℕ} {node : Node}
    (h : Happening) → bears_on device h.note.body ≡ false → IsLeft s (hs ++ ahead) device t node
    → IsLeft s ((hs ++ h ∷ []) ++ ahead) device t node
other_comes hs ahead {device} h misses left =
    let q = λ (g : Happening). bears_on device g.note.body in
    left_alike ((hs ++ h ∷ []) ++ ahead)
    (filter-append q hs ahead ∙ (rw (sym (filter_no q hs h misses)) (sym (filter-append q (hs ++ h ∷ []) ahead))))
    left

-- ---- where a device stands does not rest on the numbers of the records: one record

cycle_plain : (device : DeviceId) (next : ℕ) (h : Happening) (body : NoteBody) → cycle_after device next (plain h) body ≡ cycle_after device next h body
cycle_plain device next h (notes.State other state cause why) = refl
cycle_plain device next h other = refl

point_plain : (device : DeviceId) (h : Happening) (body : NoteBody) → point_by device (plain h) body ≡ point_by device h body
point_plain device h (notes.State other state cause why) = refl
point_plain device h other = refl

hearing_plain : (network : Network) (device : DeviceId) (h : Happening) (body : NoteBody)
    → hearing_by network device (plain h) body ≡ hearing_by network device h body
hearing_plain network device h (notes.State other state cause why) = refl
hearing_plain network device h other = refl

-- ---- lists

fold_plain : {B : Type 0} (f : B → Happening → B) → ((b : B) (h : Happening) → f b (plain h) ≡ f b h) → (z : B) (hs : List Happening)
    → fold f z (plains hs) ≡ fold f z hs
fold_plain f same z [] = refl
fold_plain {B} f same z (h ∷ hs) = ap (λ b. fold f b (plains hs)) (same z h) ∙ fold_plain f same (f z h) hs

pub filter_plain : (p q : Happening → Bool) → ((h : Happening) → p (plain h) ≡ q h) → (hs : List Happening) → filter p (plains hs) ≡ plains (filter q hs)
filter_plain p q same [] = refl
filter_plain p q same (h ∷ hs) = grind (arith, plain, filter, plains, (filter_plain p q same hs))

map_plain : {Y : Type 0} (f : Happening → Option Y) → ((h : Happening) → f (plain h) ≡ f h) → (hs : List Happening) → filter_map f (plains hs) ≡ filter_map f hs
map_plain f same [] = refl
map_plain {Y} f same (h ∷ hs) = rw (same h) (ap (cons_option (f h)) (map_plain f same hs))

last_plain : (o : Option Happening) (other : Option Happening) (hs : List Happening) → option_map_or time_of o 0 ≡ option_map_or time_of other 0
    → option_map_or time_of (last_or o (plains hs)) 0 ≡ option_map_or time_of (last_or other hs) 0
last_plain o other [] same = same
last_plain o other (h ∷ hs) same = last_plain (Some (plain h)) (Some h) hs refl

behind_plain : (p q : Happening → Bool) → ((h : Happening) → p (plain h) ≡ q h) → (hs : List Happening) → after_last p (plains hs) ≡ plains (after_last q hs)
behind_plain p q same hs = by_last (λ l. after_last p (plains l) ≡ plains (after_last q l)) refl (λ l h e.
    ap (after_last p) (map_push plain l h)
    ∙ elim (cases_Bool (q h)) [
      | inl passes ↦ behind_yes p (plains l) (plain h) (same h ∙ passes) ∙ sym (ap plains (behind_yes q l h passes))
      | inr stays ↦
          behind_no p (plains l) (plain h) (same h ∙ stays)
          ∙ (rw e
          (sym (map_push plain (after_last q l) h)
          ∙ sym (ap plains (behind_no q l h stays))))
    ]) hs

-- ---- what the records tell

pub earlier_plain : (t : ℕ) (hs : List Happening) → earlier t (plains hs) ≡ plains (earlier t hs)
earlier_plain t hs = filter_plain (λ h. nat_lt (time_of h) t) (λ h. nat_lt (time_of h) t) (λ h. refl) hs

pub states_plain : (s : Scenario) (hs : List Happening) (device : DeviceId) → state_after s (plains hs) device ≡ state_after s hs device
states_plain s hs device = fold_plain (λ state h. state_with device state h.note.body) (λ b h. refl) _ hs

pub adjustments_plain : (s : Scenario) (hs : List Happening) (device : DeviceId) → adjustment_after s (plains hs) device ≡ adjustment_after s hs device
adjustments_plain s hs device =
    fold_plain (λ adjustment h. adjustment_with s device (cycle_in h) adjustment h.note.body) (λ b h. refl) _ hs

pub integrations_plain : (hs : List Happening) (device : DeviceId) → integration_cycle (plains hs) device ≡ integration_cycle hs device
integrations_plain hs device =
    fold_plain (λ last h. if is_joined_by device h.note.body then Some (cycle_in h) else last)
    (λ b h. refl) None hs

pub cycles_plain : (hs : List Happening) (device : DeviceId) → recorded_cycle (plains hs) device ≡ recorded_cycle hs device
cycles_plain hs device = fold_plain (λ next h. cycle_after device next h h.note.body) (λ b h. cycle_plain device b h h.note.body) 1 hs

module _ (hs : List Happening) (device : DeviceId) where
  pub changes_at_plain : (t : ℕ) → changed_at (plains hs) device t ≡ changed_at hs device t
  changes_at_plain t =
      rw (earlier_plain t hs)
      (rw (filter_plain (λ h. changes_adjustment device h.note.body) (λ h. changes_adjustment device h.note.body)
      (λ h. refl)
      (earlier t hs))
      (last_plain None None (filter (λ h. changes_adjustment device h.note.body) (earlier t hs)) refl))

  pub points_plain : points_of (plains hs) device ≡ points_of hs device
  points_plain =
      ap (filter_map (λ h. point_by device h h.note.body))
      (behind_plain (λ h. ends_stretch device h.note.body) (λ h. ends_stretch device h.note.body)
      (λ h. refl) hs)
      ∙ map_plain (λ h. point_by device h h.note.body) (λ h. point_plain device h h.note.body)
      (after_last (λ h. ends_stretch device h.note.body) hs)

  integration_plain : (t : ℕ) → integration_cycle (earlier t (plains hs)) device
      ≡ integration_cycle (earlier t hs) device
  integration_plain t = rw (earlier_plain t hs)
      (integrations_plain (earlier t hs) device)

recorded_plain : (hs : List Happening) (device : DeviceId) (t : ℕ) → recorded_cycle (earlier t (plains hs)) device ≡ recorded_cycle (earlier t hs) device
recorded_plain hs device t = rw (earlier_plain t hs) (cycles_plain (earlier t hs) device)

module _ (s : Scenario) (hs : List Happening) (device : DeviceId) (t : ℕ) where
  pub before_plain : adjustment_before s (plains hs) device t ≡ adjustment_before s hs device t
  before_plain = rw (earlier_plain t hs) (adjustments_plain s
      (earlier t hs) device)

  cleared_plain : (by : ℕ) → has_cleared s (plains hs) device t by ≡ has_cleared s hs device t by
  cleared_plain by =
      rw (integration_plain hs device t)
      (rw (recorded_plain hs device t)
      ((rw (changes_at_plain hs device t)
      ((rw (before_plain))))))

  pub heard_plain : heard_since s (plains hs) device t ≡ heard_since s hs device t
  heard_plain =
      let p = λ (h : Happening). nat_lt (time_of h) t && changes_adjustment device h.note.body in
      let k = λ (h : Happening). not (has_cleared s (plains hs) device t t) || has_cleared s (plains hs) device t
      (time_of h) in
      let m = λ (h : Happening). not (has_cleared s hs device t t) || has_cleared s hs device t (time_of h) in
      let since = after_last p hs in
      rw (behind_plain p p (λ h. refl) hs)
      (ap (filter_map (λ h. hearing_by s.network device h h.note.body))
      (filter_plain k m (λ h. rw (cleared_plain t)
      (rw (cleared_plain (time_of h)))) since)
      ∙ map_plain (λ h. hearing_by s.network device h h.note.body)
      (λ h. hearing_plain s.network device h h.note.body) (filter m since))

  -- the device stands by the records without their numbers
  pub left_plain : {node : Node} → IsLeft s hs device t node → IsLeft s (plains hs) device t node
  left_plain left = record {
    counted = record {
      plan = left.counted.plan;
      adjustment = left.counted.adjustment ∙ sym (before_plain);
      integrated = left.counted.integrated ∙ sym (integration_plain hs device t);
      number = λ timed.
          left.counted.number timed
          ∙ sym (rw (cleared_plain t)
          (rw (recorded_plain hs device t)));
      changed =
          left.counted.changed
          ∙ sym (rw (changes_at_plain hs device t)
          (rw (before_plain)));
      heard = λ timed. left.counted.heard timed ∙ sym (heard_plain);
      started =
          rw (integration_plain hs device t) (rw (recorded_plain hs device t) left.counted.started);
      broken = left.counted.broken;
    };
    state =
        left.state ∙ ap (λ x. if is_turned_on_at s device t then Integrating else x)
        (sym (rw (earlier_plain t hs) (states_plain s
        (earlier t hs) device)));
    points = λ cm. left.points cm ∙ sym (points_plain hs device);
  }

  pub left_numbered : {node : Node} → IsLeft s (plains hs) device t node → IsLeft s hs device t node
  left_numbered left = record {
    counted = record {
      plan = left.counted.plan;
      adjustment = left.counted.adjustment ∙ before_plain;
      integrated = left.counted.integrated ∙ integration_plain hs device t;
      number = λ timed.
          left.counted.number timed
          ∙ (rw (cleared_plain t)
          ((rw (recorded_plain hs device t))));
      changed =
          left.counted.changed
          ∙ (rw (changes_at_plain hs device t)
          ((rw (before_plain))));
      heard = λ timed. left.counted.heard timed ∙ heard_plain;
      started =
          rw (recorded_plain hs device t) at (rw (integration_plain hs device t) at left.counted.started);
      broken = left.counted.broken;
    };
    state =
        left.state ∙ ap (λ x. if is_turned_on_at s device t then Integrating else x)
        (rw (earlier_plain t hs) (states_plain s (earlier t hs)
        device));
    points = λ cm. left.points cm ∙ points_plain hs device;
  }

-- so what was still to be told may be told by records that differ in their numbers
pub told_by_others : {s : Scenario} {hs : List Happening} (gs : List Happening) {device : DeviceId} {t : ℕ}
    {node : Node} → plains hs ≡ plains gs → IsLeft s hs device t node → IsLeft s gs device t node
told_by_others {s} {hs} gs {device} {t} {node} same left =
    left_numbered s gs device t (rw same at (left_plain s hs device t left))

pub plains_parts : (hs gs : List Happening) → plains (hs ++ gs) ≡ plains hs ++ plains gs
plains_parts [] gs = refl
plains_parts (h ∷ hs) gs = rw (plains_parts hs gs)

-- ---- a device that was turned on at an instant, and has done nothing at it, stands right after it as one that looks for the
-- common time.

-- each record stands behind those of earlier times
abbrev pub IsInTime : List Happening → Type 0
IsInTime hs = (front rest : List Happening) (x : Happening) → hs ≡ front ++ x ∷ rest → (h : Happening) → IsIn h rest → time_of x ≤ time_of h

-- a record leaves the device at rest
abbrev pub IsQuiet : DeviceId → NoteBody → Type 0
IsQuiet device body = (moves device body ≡ false) ⊎ (is_turning device body ≡ true)

pub quiet_rest : (s : Scenario) (device : DeviceId) (now : ℕ) (body : NoteBody) → IsAtRest s device now body → IsQuiet device body
quiet_rest s device now body (inl e) = inl e
quiet_rest s device now body (inr on) = inr on.0

-- ---- what such a record does not change

module _ (device : DeviceId) where
  turning_joins : (body : NoteBody) → is_turning device body ≡ true → is_joined_by device body ≡ false
  turning_joins (notes.State other Integrating cause On) e = refl
  turning_joins other e = absurd cc

  pub quiet_joins : (body : NoteBody) → IsQuiet device body → is_joined_by device body ≡ false
  quiet_joins body (inl e) = joins_no_other device body e
  quiet_joins body (inr e) = turning_joins body e

  turning_changes : (body : NoteBody) → is_turning device body ≡ true → changes_adjustment device body ≡ false
  turning_changes (notes.State other Integrating cause On) e = refl
  turning_changes other e = absurd cc

  pub quiet_changes : (body : NoteBody) → IsQuiet device body → changes_adjustment device body ≡ false
  quiet_changes body (inl e) = changes_no_other device body e
  quiet_changes body (inr e) = turning_changes body e

module _ (s : Scenario) (device : DeviceId) (cycle : ℕ) (old : Units) where
  turning_adjustment : (body : NoteBody) → is_turning device body ≡ true
      → adjustment_with s device cycle old body ≡ old
  turning_adjustment (notes.State other Integrating cause On) e = refl
  turning_adjustment other e = absurd cc

  quiet_adjustment : (body : NoteBody) → IsQuiet device body → adjustment_with s device cycle old body ≡ old
  quiet_adjustment body (inl e) = keeps_adjustment s device cycle old body e
  quiet_adjustment body (inr e) = turning_adjustment body e

module _ (device : DeviceId) (next : ℕ) (h : Happening) where
  turning_cycle : (body : NoteBody) → is_turning device body ≡ true → cycle_after device next h body ≡ next
  turning_cycle (notes.State other Integrating cause On) e = refl
  turning_cycle other e = absurd cc

  quiet_cycle : (body : NoteBody) → IsQuiet device body → cycle_after device next h body ≡ next
  quiet_cycle body (inl e) = keeps_cycle device next h body e
  quiet_cycle body (inr e) = turning_cycle body e

pub turning_state : (device : DeviceId) (old : State) (body : NoteBody) → is_turning device body ≡ true → state_with device old body ≡ Integrating
turning_state device old (notes.State other Integrating cause On) e = rw e
turning_state device old other e = absurd cc

-- ---- folds over the records before a time

pub fold_still : {B : Type 0} (f : B → Happening → B) (t later : ℕ) → t ≤ later → (hs : List Happening)
    → ((h : Happening) → IsIn h hs → t ≤ time_of h → time_of h < later → (z : B) → f z h ≡ z) → (z : B) → fold f z (earlier later hs) ≡ fold f z (earlier t hs)
fold_still f t later le [] still z = refl
fold_still {B} f t later le (h ∷ hs) still z =
    grind (arith, cases_lt, time_of, fold, earlier_yes, earlier, earlier_no, (fold_still f t later le hs (λ g i. still g (inr i))))

filter_still : (p : Happening → Bool) (t later : ℕ) → t ≤ later → (hs : List Happening)
    → ((h : Happening) → IsIn h hs → t ≤ time_of h → time_of h < later → p h ≡ false) → filter p (earlier later hs) ≡ filter p (earlier t hs)
filter_still p t later le [] still = refl
filter_still p t later le (h ∷ hs) still =
    grind (arith, cases_lt, time_of, filter, earlier_yes, earlier, earlier_no, (filter_still p t later le hs (λ g i. still g (inr i))))

-- what is before the next unit of time is what is up to this one
pub next_is_up_to : (now : ℕ) (hs : List Happening) → earlier (now + 1) hs ≡ up_to now hs
next_is_up_to now [] = refl
next_is_up_to now (h ∷ hs) = grind (arith, nat_lt, time_of, up_to, nat_le, cases_lt, (next_is_up_to now hs))

pub all_up_to : (now : ℕ) (hs : List Happening) → ((h : Happening) → IsIn h hs → time_of h ≤ now) → up_to now hs ≡ hs
all_up_to now [] past = refl
all_up_to now (h ∷ hs) past =
    rw (Rattle.std.proofs.lemmas.Bool.le-leb (time_of h) now (past h (inl refl)))
    (rw (all_up_to now hs (λ g i. past g (inr i))))

-- ---- the state

pub looking_on : (device : DeviceId) (hs : List Happening) → ((h : Happening) → IsIn h hs → IsQuiet device h.note.body)
    → fold (λ state h. state_with device state h.note.body) Integrating hs ≡ Integrating
looking_on device [] quiet = refl
looking_on device (h ∷ hs) quiet = grind (arith, fold, state_with, keeps_state, turning_state, (looking_on device hs (λ g i. quiet g (inr i))))

-- what an instant's records are, at which the device was turned on and did nothing
pub record IsQuietInstant (s : Scenario) (hs : List Happening) (device : DeviceId) (now : ℕ) : Type 0 where
  pub past : (h : Happening) → IsIn h hs → time_of h ≤ now
  pub quiet : (h : Happening) → IsIn h hs → time_of h ≡ now → IsQuiet device h.note.body
  pub in_time : IsInTime hs

module _ {s : Scenario} {hs : List Happening} {device : DeviceId} {now : ℕ} (q : IsQuietInstant s hs device now) where
  pub on_state : IsTurnedOnBy hs device now → state_after s (up_to now hs) device ≡ Integrating
  on_state on =
      let f = λ (state : State) (h : Happening). state_with device state h.note.body in
      let at = parted on.by hs on.there in
      let begun = fold f (state_at_start (start_of s.network device)) at.0 in
      let rest : (h : Happening) → IsIn h at.1 → IsQuiet device h.note.body = λ h i.
      let inside : IsIn h hs =
      rw at.2 (in_right h at.0 (on.by ∷ at.1) (inr i)) in
      let from = q.in_time at.0 at.1 on.by at.2 h i in
      q.quiet h inside (omega arith) in
      rw (all_up_to now hs q.past ∙ at.2)
      (fold_parts f (state_at_start (start_of s.network device)) at.0 (on.by ∷ at.1)
      ∙ ap (λ z. fold f z at.1) (turning_state device begun on.by.note.body on.turning)
      ∙ looking_on device at.1 rest)

  -- ---- the node

  pub adjustment_quiet : adjustment_before s hs device (now + 1) ≡ adjustment_before s hs device now
  adjustment_quiet =
      search (arith, fold_still, cycle_in, quiet_adjustment)

  integration_quiet : integration_cycle (earlier (now + 1) hs) device ≡ integration_cycle (earlier now hs) device
  integration_quiet = grind (arith, fold_still, is_joined_by, cycle_in, quiet_joins)

  cycle_quiet : recorded_cycle (earlier (now + 1) hs) device ≡ recorded_cycle (earlier now hs) device
  cycle_quiet =
      search (arith, fold_still, quiet_cycle)

  pub change_quiet : changed_at hs device (now + 1) ≡ changed_at hs device now
  change_quiet = grind (arith, option_map_or, time_of, last_or, filter_still, changes_adjustment, quiet_changes)

  local_quiet : local_at_change s hs device (now + 1) ≡ local_at_change s hs device now
  local_quiet =
      rw (change_quiet)
      (rw (adjustment_quiet))

pub left_after_on : {s : Scenario} {hs : List Happening} {device : DeviceId} {now : ℕ} {node : Node}
    → IsQuietInstant s hs device now → is_turned_on_at s device now ≡ true
    → is_turned_on_at s device (now + 1) ≡ false → is_broken s device (now + 1) ≡ is_broken s device now
    → IsTurnedOnBy hs device now → IsLeft s hs device now node → IsLeft s hs device (now + 1) node
left_after_on {s} {hs} {device} {now} {node} q on off same turned left =
    let looking = left.state ∙ (rw on) in
    let untimed : is_timed node.standing.state ≡ true → ⊥ = λ timed. both_ways _ (ap is_timed looking) timed in
    record {
      counted = record {
        plan = left.counted.plan;
        adjustment = left.counted.adjustment ∙ sym (adjustment_quiet q);
        integrated = left.counted.integrated ∙ sym (integration_quiet q);
        number = λ timed. absurd (untimed timed);
        changed = left.counted.changed ∙ sym (local_quiet q);
        heard = λ timed. absurd (untimed timed);
        started =
            rw (integration_quiet q) (rw (cycle_quiet q) left.counted.started);
        broken = left.counted.broken ∙ sym same;
      };
      state =
          looking ∙ sym (on_state q turned) ∙ (rw (sym (next_is_up_to now hs))
          (sym (not_turned_on s hs device (now + 1) off)));
      points = left.points;
    }

-- ---- a device that has nothing due at the present instant, where nothing is to come: it rests from the next on

-- it rests from this time on
pub record Rests (s : Scenario) (hs : List Happening) (device : DeviceId) (now : ℕ) (node : Node) : Type 0 where
  pub from : ℕ
  pub le : now ≤ from
  pub soon : from ≤ now + 1
  pub left : IsLeft s hs device from node
  pub done : HasDone s hs device from node
  pub sent : HasSent s device from node
  pub off : is_turned_on_at s device from ≡ false
  pub still : (h : Happening) → IsIn h hs → from ≤ time_of h → moves device h.note.body ≡ false

-- the records given are no later than the present instant, and in the order of their times
pub record IsPast (hs : List Happening) (now : ℕ) : Type 0 where
  pub past : (h : Happening) → IsIn h hs → time_of h ≤ now
  pub in_time : IsInTime hs

-- where a record is given at the instant, what follows events is settled
abbrev pub IsWorked : List Happening → List ℕ → ℕ → Type 0
IsWorked hs frontier now = (number : ℕ) (h : Happening) → IsOfThisTime hs now number h
    → IsBefore (now ∷ 2 ∷ []) frontier

-- records each of which stands after those before it are in the order of their times
pub in_order : (hs : List Happening) → ((front rest : List Happening) (x : Happening) → hs ≡ front ++ x ∷ rest → AllBefore place_of front (place_of x))
    → IsInTime hs
in_order hs stands front rest x e h i =
    let at = Rattle.run_law.proofs.runs.Places.parted h rest i in
    let split = e ∙ ap (λ l. front ++ x ∷ l) at.2
    ∙ sym (Rattle.std.proofs.Common.append_assoc front (x ∷ at.0) (h ∷ at.1)) in
    time_before (time_of x) (time_of h) (rank x.note.body ∷ key (members_in x) x.note.body) (rank h.note.body ∷ key (members_in h) h.note.body)
    (stands (front ++ x ∷ at.0) at.1 h split x (in_right x front (x ∷ at.0) (inl refl)))

pub in_time_of : (s : Scenario) (hs : List Happening) → IsFounded place_of (IsDue s) hs → IsInTime hs
in_time_of s hs founded = in_order hs (λ front rest x e. (founded front rest x e).0)

pub are_past : {C M : Type 0} {reading : C → ℕ → ℕ} {stands : M → Network → DeviceId → Node → Type 0} {s : Scenario}
    {world : World C M} {notes : List Note} (old : Stands reading stands s world notes)
    → IsPast (happenings s.network notes) world.now
are_past {s} {notes} old = record {
  past = λ h i. elim (old.not_later (place_of h) (old.run.within h i))
      [ inl lt ↦ omega arith | inr bad ↦ absurd bad.1 ];
  in_time = in_time_of s (happenings s.network notes) old.run.founded;
}

-- ---- from the next instant on

-- it has not worked off anything of a later time, and its clock never falls
pub record IsNoLater (s : Scenario) (device : DeviceId) (frontier : List ℕ) (now : ℕ) : Type 0 where
  pub later : (p : List ℕ) → IsBefore p frontier → IsBefore p ((now + 1) ∷ [])
  pub falls : (x y : ℕ) → x ≤ y → s.reading device x ≤ s.reading device y

abbrev IsIdleAt : Scenario → DeviceId → Node → ℕ → Type 0
IsIdleAt s device node now = (task : Task) → IsPending s.network device node task → pos (s.reading device now) <ℤ reading_for s.network node task

-- where nothing of it is due at the instant, it stands at the next as it did
left_next : {s : Scenario} {hs : List Happening} {frontier : List ℕ} {device : DeviceId} {now : ℕ} {node : Node}
    → IsQuietInstant s hs device now → ((h : Happening) → IsIn h hs → time_of h ≡ now
    → IsAtRest s device now h.note.body) → HaveBefallen s frontier now → HasCleared node
    → (is_turned_on_at s device now ≡ true → IsTurnedOnBy hs device now)
    → ((x y : ℕ) → x ≤ y → s.reading device x ≤ s.reading device y) → node.broken ≡ false
    → IsIdleAt s device node now → IsLeft s hs device now node → IsLeft s hs device (now + 1) node
left_next {s} {hs} {frontier} {device} {now} {node} q still befallen r on_by falls sound idle left =
    let off = not_on_after (now + 1) device befallen (omega arith) in
    let same = no_later_breaks s frontier now (now + 1) device befallen (omega arith) in
    elim (cases_Bool (is_turned_on_at s device now)) [
      | inl on ↦ left_after_on q on off same (on_by on) left
      | inr not_on ↦
          let u : IsUnmoved s hs device now (now + 1) = record {
            le = omega arith;
            still = λ h i from lt. unmoved_by s device now h.note.body not_on (still h i (omega arith));
            not_on = not_on;
            not_on_later = off;
            not_broken = same;
            never_falls = falls;
          } in
          passes_if (now + 1) u.le u.still not_on off same (λ timed.
          elim (cases_Bool (has_cleared s hs device now now)) [
            | inl did ↦ cleared_on u did ∙ sym did
            | inr not_yet ↦
                elim (cases_Bool (has_cleared s hs device (now + 1) (now + 1))) [
                  | inr still_not ↦ still_not ∙ sym not_yet
                  | inl cleared ↦
                      let task = had_come_by u left (λ cycle own ahead there.
                      let less = r cycle there in let number = (point_number node.standing.state node.standing.number cycle own).1 in absurd
                      (omega arith)) timed not_yet
                      cleared sound in
                      let here : now + 1 - 1 ≡ now = omega arith in
                      absurd (never_both _ _ (idle task.0 task.1) (rw here at task.2))
                ]
          ]) left
    ]
  where
    never_both : (a b : Rattle.std.proofs.Common.ℤ) → a <ℤ b → b ≤ℤ a → ⊥
    never_both a b lt le = omega (arith, ints)

module _ {M : Type 0} {stands : M → Network → DeviceId → Node → Type 0} {s : Scenario} {hs : List Happening}
    {frontier : List ℕ} {now : ℕ} {device : DeviceId} {machine : M} where
  -- where the instant is over for it
  rests_over : (k : IsKept stands s hs [] frontier now device machine) → k.up ≡ now + 1 → HaveBefallen s frontier now
      → IsPast hs now → IsNoLater s device frontier now → Rests s hs device now k.node
  rests_over k up befallen past no_later =
      let whole = append-nil hs in
      let le : now + 1 ≤ k.up = omega arith in
      let change : changed_at (hs ++ []) device k.up ≡ changed_at hs device (now + 1) =
      rw up
      (ap (λ l. changed_at l device (now + 1)) whole) in
      let done = done_by now k.worked no_later.later (now + 1) le in
      record {
        from = now + 1;
        le = omega arith;
        soon = omega arith;
        left = rw whole at (rw up at k.left);
        done = rests s hs done (sym change);
        sent = record {
          unsent = λ c w x lt. k.worked.unsent c w x (omega arith);
          sent = (sent_by now k.worked no_later.later (now + 1) le).sent;
        };
        off = not_on_after (now + 1) device befallen (omega arith);
        still = λ h i from. let early = past.past h i in absurd (omega arith);
      }

  -- and where it is not, but nothing of it is due
  rests_next : (k : IsKept stands s hs [] frontier now device machine) → k.up ≡ now → HaveBefallen s frontier now
      → IsPast hs now → IsWorked hs frontier now → IsNoLater s device frontier now → IsIdleAt s device k.node now
      → Rests s hs device now k.node
  rests_next k up befallen past worked no_later idle =
      let whole = append-nil hs in
      let inside : (h : Happening) → IsIn h hs → IsIn h (hs ++ []) =
      λ h i. rw whole i in
      let still : (h : Happening) → IsIn h hs → time_of h ≡ now → IsAtRest s device now h.note.body =
      λ h i at. k.still up h (inside h i) at in
      let q : IsQuietInstant s hs device now = record {
        past = past.past;
        quiet = λ h i at. quiet_rest s device now h.note.body (still h i at);
        in_time = past.in_time;
      } in
      let left : IsLeft s hs device now k.node = rw whole at (rw up at k.left) in
      let sound = left.counted.broken ∙ k.sound in
      let change = change_quiet q
      ∙ ap (λ n. changed_at hs device n) (sym up) ∙ ap (λ l. changed_at l device k.up)
      (sym whole) in
      let done = done_by now k.worked no_later.later now (omega arith) in
      record {
        from = now + 1;
        le = omega arith;
        soon = omega arith;
        left = left_next q still befallen k.cleared (λ on.
            let was = k.turned on in
            rw whole at (was.turned (worked was.number was.event was.befell))) no_later.falls sound idle left;
        done = record {
          undone = λ deed u x from lt. elim (cases_lt x now) [
            | inl before ↦ done.undone deed u x (omega arith) before
            | inr ge ↦ let at : x ≡ now =
                omega arith in rw at (idle (doing deed) (sound, u))
          ];
          done = λ deed there. let x = done.done deed there in (x.0, omega (arith, x.1), x.2, x.3);
        };
        sent = record {
          unsent = λ c w x lt. elim (cases_lt x now) [
            | inl before ↦ k.worked.unsent c w x (omega arith)
            | inr ge ↦ let at : x ≡ now =
                omega arith in rw at (idle (emitting c) (sound, w))
          ];
          sent = (sent_by now k.worked no_later.later now (omega arith)).sent;
        };
        off = not_on_after (now + 1) device befallen (omega arith);
        still = λ h i from. let early = past.past h i in absurd (omega arith);
      }

  -- where nothing of it is due at the instant
  pub at_rest : (k : IsKept stands s hs [] frontier now device machine) → HaveBefallen s frontier now → IsPast hs now
      → IsWorked hs frontier now → IsNoLater s device frontier now
      → ((task : Task) → IsPending s.network device k.node task
      → pos (s.reading device now) <ℤ reading_for s.network k.node task) → Rests s hs device now k.node
  at_rest k befallen past worked no_later idle =
      search (arith, rests_over, rests_next)

-- ---- what the records say of a device's state and adjustment is what its machine shows, whether or not it has acted

-- records of an instant stand behind those that are no later
in_time_more : (now : ℕ) (hs coming : List Happening) → IsInTime hs → ((h : Happening) → IsIn h hs → time_of h ≤ now)
    → ((h : Happening) → IsIn h coming → time_of h ≡ now) → IsInTime (hs ++ coming)
in_time_more now [] coming ordered past of front rest x e h i =
    let at = of x (rw e (Rattle.run_law.proofs.runs.Places.in_right x front (x ∷ rest) (inl refl))) in
    let then_ = of h (rw e (Rattle.run_law.proofs.runs.Places.in_right h front (x ∷ rest) (inr i))) in
    omega arith
in_time_more now (g ∷ hs) coming ordered past of [] rest x e h i =
    let a : g ≡ x = cc in
    let b : hs ++ coming ≡ rest = cc in
    let same : time_of g ≡ time_of x = ap time_of a in
    elim (in_parts h hs coming (rw b i)) [
      | inl old ↦ let le = ordered [] hs g refl h old in omega arith
      | inr new ↦ let le = past g (inl refl) in let at = of h new in omega arith
    ]
in_time_more now (g ∷ hs) coming ordered past of (f ∷ front) rest x e h i =
    let b : hs ++ coming ≡ front ++ x ∷ rest = cc in
    in_time_more now hs coming (λ before behind y split. ordered (g ∷ before) behind y (rw split))
    (λ y there. past y (inr there)) of front rest x b h i

pub all_past : {C M : Type 0} (reading : C → ℕ → ℕ) (stands : M → Network → DeviceId → Node → Type 0) (s : Scenario) (world : World C M) (notes : List Note)
    (old : Stands reading stands s world notes) → IsPast (happenings s.network notes ++ world.settled) world.now
all_past reading stands s world notes old =
    let given = are_past old in
    record {
      past =
          λ h i. elim (in_parts h (happenings s.network notes) world.settled i)
          [ inl old_one ↦ given.past h old_one | inr new ↦ omega arith ];
      in_time = in_time_more world.now (happenings s.network notes) world.settled given.in_time given.past old.are.of_now;
    }

-- a node shows what the records say
pub record ShowsAll (s : Scenario) (hs : List Happening) (device : DeviceId) (now : ℕ) (node : Node) : Type 0 where
  pub state : node.standing.state ≡ state_after s (up_to now hs) device
  pub adjustment : node.standing.adjustment ≡ adjustment_after s (up_to now hs) device

module _ {M : Type 0} (stands : M → Network → DeviceId → Node → Type 0) (s : Scenario) (hs coming : List Happening)
    (frontier : List ℕ) (now : ℕ) (device : DeviceId) (machine : M) where
  -- where it has not acted, its state is that before the time, but for what is that it was turned on
  shown_before : (k : IsKept stands s hs coming frontier now device machine) → k.up ≡ now → IsWorked hs frontier now
      → IsPast (hs ++ coming) now → HaveBefallen s frontier now → ShowsAll s (hs ++ coming) device now k.node
  shown_before k up worked past befallen =
      let js = hs ++ coming in
      let q : IsQuietInstant s js device now = record {
        past = past.past;
        quiet = λ h i at. quiet_rest s device now h.note.body (k.still up h i at);
        in_time = past.in_time;
      } in
      let state =
      k.left.state ∙ ap (λ n. state_before s js device n) up in
      record {
        state = elim (cases_Bool (is_turned_on_at s device now)) [
          | inl on ↦ state ∙ (rw on
              (sym (on_state q (let was = k.turned on in was.turned (worked was.number was.event was.befell)))))
          | inr off ↦
              state ∙ not_turned_on s js device now off
              ∙ sym (state_still s js device now (now + 1) (omega arith)
              (λ h i from lt. unmoved_by s device now h.note.body off (k.still up h i (omega arith))))
              ∙ (rw (next_is_up_to now js))
        ];
        adjustment =
            k.left.counted.adjustment ∙ (rw up (sym (adjustment_quiet q)
            ∙ (rw (next_is_up_to now js))));
      }
    where
      node_state : Node → State
      node_state node = node.standing.state

  kept_shows : (k : IsKept stands s hs coming frontier now device machine) → IsWorked hs frontier now
      → IsPast (hs ++ coming) now → HaveBefallen s frontier now → ShowsAll s (hs ++ coming) device now k.node
  kept_shows k worked past befallen =
      let js = hs ++ coming in
      elim k.acted [
        | inl yet ↦ shown_before k yet.0 worked past befallen
        | inr over ↦ record {
          state =
              k.left.state ∙ (rw over.0
              (not_turned_on s js device (now + 1) (not_on_after (now + 1) device befallen (omega arith))
              ∙ (rw (next_is_up_to now js))));
          adjustment =
              k.left.counted.adjustment ∙ (rw over.0 ((rw (next_is_up_to now js))));
        }
      ]

  -- so the machine of each device does
  pub held_shows : IsHeld stands s hs coming frontier now device machine → IsWorked hs frontier now
      → IsPast (hs ++ coming) now → HaveBefallen s frontier now
      → (node : Node) × stands machine s.network device node × ShowsAll s (hs ++ coming) device now node
  held_shows (inl k) worked past befallen =
      (k.node, k.is, kept_shows k worked past befallen)
  held_shows (inr k) worked past befallen =
      (k.node, k.is, record { state = k.state; adjustment = k.adjustment })
