-- The ballots of a run behind a further record: kept, filled, and the first given up.
use Rattle.std.proofs.{Math.Bool.and-true}
use Rattle.std.proofs.Common
use Common.{◌%◌, ◌&&◌, ◌*◌, ◌++◌, ◌+◌, ◌/◌, ◌<◌, ◌==◌, ◌^◌, ◌||◌, ◌∙◌, ◌∷◌, ◌≡◌, ◌≤◌, Bool, Err, List, None, Ok, Option}
use Common.{Result, Some, [], ap, arith, cond, false, find, inl, inr, length, nat_lt, refl, subst, sym, true, ℕ}
use Rattle.std.proofs.lemmas.{Bool.{cases_Bool, cases_lt, eq-eqb, eqb-true, false_from_ne_true as not_true, or_parts}}
use Rattle.std.proofs.lemmas.{Map.Keys.le_from_not_gt, Option.same_Some}
use Rattle.std.specs.{BTreeMap.{BTreeMap, IsLowerBound, Updates, get, is_at}, Cmp.nat_cmp_is, Ordering.{is_eq, nat_cmp}}
use Rattle.std.specs.{Prelude.{if◌then◌else◌, IsSome, OnOk, is_some, option_and_then, option_map, unwrap_or}}
use Rattle.std.specs.{declared.cmp.Ordering.TheVariants.{Equal, Greater, Less}}
use Rattle.device_rules.specs.frames.traced.{Keeping.{Keeps, TraceView}, RecordOctets.record_octets}
use Rattle.net_plan.specs.declared.{ids.{DeviceId.DeviceId, VlId.VlId}, network.Network.Network}
use Rattle.run_law.proofs.{law.FirstDeliveries.{numbered_front, numbered_next}, records.Order.as_many}
use Rattle.run_law.proofs.{runs.NetworkRuns.one_more}
use Rattle.run_law.specs.{declared.note.{Note.Note, NoteBody.NoteBody}}
use Rattle.run_law.specs.{records.Happenings.{Happening, happening, happenings}}
use Rattle.tte_observers.specs.declared.votes.{law.voters.Voters.Voters}
use Rattle.tte_observers.specs.declared.votes.ballots.{seats.{BallotDelivery.BallotDelivery, Seats.Seats}}
use Rattle.tte_observers.specs.declared.votes.ballots.{votes.KeptVotes.KeptVotes}
use Rattle.tte_observers.specs.votes.{law.Ballots.{ballot_of, delivery_of, is_delivery, payload_in, payload_taken}}
use Rattle.tte_observers.specs.votes.{tmr.Vote.{Votes, no_votes}}
use Rattle.tte_observers.specs.votes.ballots.Keeping
use Keeping.{AreBallots, AreCast, AreOpenFrom, HoldsFrom, HoldsVotes, IsCastBy, IsNext, delivery_in, is_voter, key_of}
use Keeping.{none_cast, seat_payload, seat_with, seats_at, seats_with, with_cast}
use Rattle.tte_units.proofs.general_lemmas.{Bools.{both_left, both_right}, Options.{more_by, same_by}}
use Rattle.run_law.specs.declared.note.NoteBody.TheVariants as notes

-- ---- the seats of a ballot behind a further record: what is taken by a record

pub none_taken : (body : NoteBody) (vl : VlId) (cycle : ℕ) (device : DeviceId) → delivery_in body ≡ None → is_delivery vl cycle device body ≡ false
none_taken (notes.Delivered other link cause of_vl of_cycle) vl cycle device e = absurd cc
none_taken other vl cycle device e = refl

-- is it this ballot and this virtual link that the delivery is of?
abbrev pub is_of : VlId → ℕ → DeviceId → BallotDelivery → Bool
is_of vl cycle device d = device.0 == d.device.0 && (vl.0 == d.vl.0 && cycle == d.cycle)

pub some_taken : (body : NoteBody) (d : BallotDelivery) (vl : VlId) (cycle : ℕ) (device : DeviceId) → delivery_in body ≡ Some d
    → is_delivery vl cycle device body ≡ is_of vl cycle device d
some_taken (notes.Delivered other link cause of_vl of_cycle) d vl cycle device e = ap (is_of vl cycle device) (same_Some _ _ e)
some_taken other d vl cycle device e = absurd cc

-- ---- the first record that passes a test, with one more

found_stays : {X : Type 0} (p : X → Bool) (xs : List X) (x y : X) → find p xs ≡ Some y → find p (xs ++ x ∷ []) ≡ Some y
found_stays p [] x y e = absurd cc
found_stays p (z ∷ zs) x y e = same_by (p z) z y (find p zs) (find p (zs ++ x ∷ [])) e (found_stays p zs x y)

found_last : {X : Type 0} (p : X → Bool) (xs : List X) (x : X) → find p xs ≡ None → find p (xs ++ x ∷ []) ≡ cond (p x) (Some x) None
found_last p [] x e = refl
found_last p (z ∷ zs) x e = more_by (p z) z (find p zs) (find p (zs ++ x ∷ [])) (cond (p x) (Some x) None) e (found_last p zs x)

-- ---- a seat

module _ (hs : List Happening) (h : Happening) (vl : VlId) (cycle : ℕ) (device : DeviceId) where
  last_by : (b : Bool) → is_delivery vl cycle device h.note.body ≡ b → delivery_of hs vl cycle device ≡ None
      → delivery_of (hs ++ h ∷ []) vl cycle device ≡ cond b (Some h) None
  last_by b e none =
      found_last (λ (g : Happening). is_delivery vl cycle device g.note.body) hs h none
      ∙ ap (λ (x : Bool). cond x (Some h) None) e

  stays : (number : ℕ) → IsCastBy hs vl cycle device (Some number)
      → IsCastBy (hs ++ h ∷ []) vl cycle device (Some number)
  stays number (g, there, first) = (
    g,
    numbered_front hs (h ∷ []) number g there,
    found_stays (λ (x : Happening). is_delivery vl cycle device x.note.body) hs h g first,
  )

  -- a record that is none of its deliveries leaves it
  pub seat_stays : (seat : Option ℕ) → is_delivery vl cycle device h.note.body ≡ false
      → IsCastBy hs vl cycle device seat → IsCastBy (hs ++ h ∷ []) vl cycle device seat
  seat_stays (Some number) e is = stays number is
  seat_stays None e is = last_by false e is

-- a record of its ballot casts it if it is of its virtual link, and it is not cast
pub seat_cast : (hs : List Happening) (h : Happening) (vl of_vl : VlId) (cycle : ℕ) (device : DeviceId) (number : ℕ) (seat : Option ℕ)
    → is_delivery vl cycle device h.note.body ≡ (vl.0 == of_vl.0) → number ≡ length hs + 1 → IsCastBy hs vl cycle device seat
    → IsCastBy (hs ++ h ∷ []) vl cycle device (seat_with vl of_vl number seat)
seat_cast hs h vl of_vl cycle device number (Some first) e last is = stays hs h vl cycle device first is
seat_cast hs h vl of_vl cycle device number None e last is = by (vl.0 == of_vl.0) e
  where
    by : (b : Bool) → is_delivery vl cycle device h.note.body ≡ b → IsCastBy (hs ++ h ∷ []) vl cycle device (if b then Some number else None)
    by true t = (h, numbered_next hs [] h number last, last_by hs h vl cycle device true t is)
    by false t = last_by hs h vl cycle device false t is

-- ---- the ballots of a run behind a further record: a ballot that the record is not of

-- the record is no delivery for a seat of the ballot
record IsApart (h : Happening) (voters : Voters) (cycle : ℕ) (device : DeviceId) : Type 0 where
  first : is_delivery voters.first cycle device h.note.body ≡ false
  second : is_delivery voters.second cycle device h.note.body ≡ false
  third : is_delivery voters.third cycle device h.note.body ≡ false

ballot_stays : {hs : List Happening} {h : Happening} {voters : Voters} {cycle : ℕ} {device : DeviceId}
    {seats : Seats} → IsApart h voters cycle device → AreCast hs voters cycle device seats
    → AreCast (hs ++ h ∷ []) voters cycle device seats
ballot_stays {hs} {h} {voters} {cycle} {device} {seats} apart cast = record {
  first = seat_stays hs h voters.first cycle device seats.first apart.first cast.first;
  second = seat_stays hs h voters.second cycle device seats.second apart.second cast.second;
  third = seat_stays hs h voters.third cycle device seats.third apart.third cast.third;
}

-- a record by which nothing is taken leaves all
pub ballots_none : (hs : List Happening) (h : Happening) (voters : Voters) (ballots : BTreeMap ℕ Seats) → delivery_in h.note.body ≡ None
    → AreBallots hs voters ballots → AreBallots (hs ++ h ∷ []) voters ballots
ballots_none hs h voters ballots none are cycle device c d =
    ballot_stays {h = h} (record {
      first = none_taken h.note.body voters.first cycle device none;
      second = none_taken h.note.body voters.second cycle device none;
      third = none_taken h.note.body voters.third cycle device none;
    }) (are cycle device c d)

-- what the delivery is of, for a seat of a ballot
of_voter : (voter : VlId) (cycle : ℕ) (device : DeviceId) (d : BallotDelivery) → is_of voter cycle device d ≡ true
    → (device.0 ≡ d.device.0) × (voter.0 ≡ d.vl.0) × (cycle ≡ d.cycle)
of_voter voter cycle device d e =
    let rest = both_right (device.0 == d.device.0) (voter.0 == d.vl.0 && cycle == d.cycle) e in (
      eqb-true device.0 d.device.0 (both_left (device.0 == d.device.0) (voter.0 == d.vl.0 && cycle == d.cycle) e),
      eqb-true voter.0 d.vl.0 (both_left (voter.0 == d.vl.0) (cycle == d.cycle) rest),
      eqb-true cycle d.cycle (both_right (voter.0 == d.vl.0) (cycle == d.cycle) rest),
    )

-- the delivery is of no virtual link of the vote
pub ballots_other : (hs : List Happening) (h : Happening) (voters : Voters) (ballots : BTreeMap ℕ Seats) (d : BallotDelivery)
    → delivery_in h.note.body ≡ Some d → is_voter voters d.vl ≡ false → AreBallots hs voters ballots → AreBallots (hs ++ h ∷ []) voters ballots
ballots_other hs h voters ballots d taken none are cycle device c e =
    let two = or_parts (d.vl.0 == voters.first.0 || d.vl.0 == voters.second.0) (d.vl.0 == voters.third.0) none in
    let one = or_parts (d.vl.0 == voters.first.0) (d.vl.0 == voters.second.0) two.0 in
    ballot_stays {h = h} (record {
      first = apart voters.first one.0;
      second = apart voters.second one.1;
      third = apart voters.third two.1;
    }) (are cycle device c e)
  where
    differ : (a b : ℕ) → (a == b) ≡ false → a ≡ b → ⊥
    differ a b f e = let t : (a == b) ≡ true = eq-eqb a b e in absurd cc

    apart : (voter : VlId) → (d.vl.0 == voter.0) ≡ false → is_delivery voter cycle device h.note.body ≡ false
    apart voter other =
        some_taken h.note.body d voter cycle device taken
        ∙ not_true (is_of voter cycle device d) (λ same. differ d.vl.0 voter.0 other (sym (of_voter voter cycle device d same).1))

-- ---- the ballot that it is of

pub equal_keys : (k q : ℕ) → is_eq (nat_cmp k q) ≡ true → k ≡ q
equal_keys k q e = by (nat_lt k q) (k == q) refl e
  where
    by : (less same : Bool) → (k == q) ≡ same → is_eq (cond less Less (cond same Equal Greater)) ≡ true → k ≡ q
    by true same t e = absurd cc
    by false true t e = eqb-true k q t
    by false false t e = absurd cc

apart_keys : (k q : ℕ) → is_eq (nat_cmp k q) ≡ false → k ≡ q → ⊥
apart_keys k q e same =
    let alike : is_eq (nat_cmp k k) ≡ true = ap is_eq (sym (nat_cmp_is k k Equal refl)) in
    let no : true ≡ false = sym alike ∙ ap (λ (x : ℕ). is_eq (nat_cmp k x)) same ∙ e in absurd cc

same_keys : (a b c d : ℕ) → b < 2 ^ 32 → d < 2 ^ 32 → a * 2 ^ 32 + b ≡ c * 2 ^ 32 + d → (a ≡ c) × (b ≡ d)
same_keys a b c d small less e = (omega (arith, small, less, e), omega (arith, small, less, e))

-- what is found behind the insertion
abbrev pub found : Option Seats → Seats
found o = unwrap_or o none_cast

module _ (hs : List Happening) (h : Happening) (voters : Voters) (old new : BTreeMap ℕ Seats) (d : BallotDelivery) (number : ℕ)
    (taken : delivery_in h.note.body ≡ Some d) (last : number ≡ length hs + 1) (are : AreBallots hs voters old)
    (in_cycle : d.cycle < 2 ^ 32) (of_device : d.device.0 < 2 ^ 32)
    (put : Updates nat_cmp old new (key_of d.cycle d.device)
    (Some (seats_with voters d.vl number (seats_at old (key_of d.cycle d.device))))) where
  -- a seat of the ballot itself
  own : (voter : VlId) (cycle : ℕ) (device : DeviceId) → cycle ≡ d.cycle → device.0 ≡ d.device.0
      → is_delivery voter cycle device h.note.body ≡ (voter.0 == d.vl.0)
  own voter cycle device c e =
      some_taken h.note.body d voter cycle device taken
      ∙ ap (λ (b : Bool). b && (voter.0 == d.vl.0 && cycle == d.cycle)) (eq-eqb device.0 d.device.0 e)
      ∙ ap (λ (b : Bool). voter.0 == d.vl.0 && b) (eq-eqb cycle d.cycle c)
      ∙ and-true (voter.0 == d.vl.0)

  -- a seat of another
  other : (voter : VlId) (cycle : ℕ) (device : DeviceId) → ((cycle ≡ d.cycle) → (device.0 ≡ d.device.0) → ⊥)
      → is_delivery voter cycle device h.note.body ≡ false
  other voter cycle device never =
      some_taken h.note.body d voter cycle device taken
      ∙ not_true (is_of voter cycle device d) (λ same. let is = of_voter voter cycle device d same in never is.2 is.0)

  at_key : (cycle : ℕ) (device : DeviceId) → cycle < 2 ^ 32 → device.0 < 2 ^ 32 → (b : Bool)
      → is_at (nat_cmp (key_of d.cycle d.device)) (key_of cycle device) ≡ b → AreCast (hs ++ h ∷ []) voters cycle device (seats_at new (key_of cycle device))
  at_key cycle device c e true t =
      let keys = equal_keys (key_of d.cycle d.device) (key_of cycle device) t in
      let same = same_keys cycle device.0 d.cycle d.device.0 e of_device (sym keys) in
      let seats = seats_at old (key_of cycle device) in
      let shown : seats_at new (key_of cycle device) ≡ seats_with voters d.vl number seats = ap found (put.0 (key_of cycle device))
      ∙ ap (λ (x : Bool). found (cond x (Some (seats_with voters d.vl number (seats_at old (key_of d.cycle d.device))))
      (get nat_cmp old (key_of cycle device)))) t
      ∙ ap (λ k. seats_with voters d.vl number (seats_at old k)) keys in
      let cast = are cycle device c e in
      subst (AreCast (hs ++ h ∷ []) voters cycle device) (sym shown) (record {
        first = seat_cast hs h voters.first d.vl cycle device number seats.first (own voters.first cycle device same.0 same.1) last cast.first;
        second = seat_cast hs h voters.second d.vl cycle device number seats.second (own voters.second cycle device same.0 same.1) last cast.second;
        third = seat_cast hs h voters.third d.vl cycle device number seats.third (own voters.third cycle device same.0 same.1) last cast.third;
      })
  at_key cycle device c e false t =
      let shown : seats_at new (key_of cycle device) ≡ seats_at old (key_of cycle device) = ap found (put.2 (key_of cycle device) t) in
      let never : (cycle ≡ d.cycle) → (device.0 ≡ d.device.0) → ⊥ =
      (λ x y. apart_keys (key_of d.cycle d.device) (key_of cycle device) t (omega (arith, x, y))) in
      subst (AreCast (hs ++ h ∷ []) voters cycle device) (sym shown)
      (ballot_stays {h = h} (record {
        first = other voters.first cycle device never;
        second = other voters.second cycle device never;
        third = other voters.third cycle device never;
      }) (are cycle device c e))

  pub ballots_more : AreBallots (hs ++ h ∷ []) voters new
  ballots_more cycle device c e = at_key cycle device c e (is_at (nat_cmp (key_of d.cycle d.device)) (key_of cycle device)) refl

-- ---- a ballot that is filled by what is kept of it

-- what a seat is cast with
taken_by : (network : Network) (ns : List Note) (vl : VlId) (cycle : ℕ) (device : DeviceId) (seat : Option ℕ)
    → IsCastBy (happenings network ns) vl cycle device seat → seat_payload network ns seat ≡ payload_taken (happenings network ns) vl cycle device
taken_by network ns vl cycle device None none = sym (ap (λ (o : Option Happening). option_map payload_in (option_and_then record_octets o)) none)
taken_by network ns vl cycle device (Some number) (h, there, first) =
    ap (λ (o : Option Happening). option_map payload_in (option_and_then record_octets o)) (there ∙ sym first)

abbrev pub the_ballot : Option (List ℕ) → Option (List ℕ) → Option (List ℕ) → Votes
the_ballot a b c = record { first = a; second = b; third = c }

three : (a b c : Option (List ℕ)) → with_cast 2 c (with_cast 1 b (with_cast 0 a no_votes)) ≡ the_ballot a b c
three (Some x) (Some y) (Some z) = refl
three (Some x) (Some y) None = refl
three (Some x) None (Some z) = refl
three (Some x) None None = refl
three None (Some y) (Some z) = refl
three None (Some y) None = refl
three None None (Some z) = refl
three None None None = refl

pub filled : (network : Network) {voters : Voters} (ns : List Note) {cycle : ℕ} {device : DeviceId} {seats : Seats}
    (empty first second third : Votes) → AreCast (happenings network ns) voters cycle device seats → empty ≡ no_votes
    → first ≡ with_cast 0 (seat_payload network ns seats.first) empty
    → second ≡ with_cast 1 (seat_payload network ns seats.second) first
    → third ≡ with_cast 2 (seat_payload network ns seats.third) second
    → third ≡ ballot_of voters (happenings network ns) cycle device
filled network {voters} ns {cycle} {device} {seats} empty first second third cast none one two all =
    let a = seat_payload network ns seats.first in
    let b = seat_payload network ns seats.second in
    let c = seat_payload network ns seats.third in
    all
    ∙ ap (with_cast 2 c) (two ∙ ap (with_cast 1 b) (one ∙ ap (with_cast 0 a) none))
    ∙ three a b c
    ∙ ap (λ x. the_ballot x b c) (taken_by network ns voters.first cycle device seats.first cast.first)
    ∙ ap (λ x. the_ballot (payload_taken (happenings network ns) voters.first cycle device) x c)
    (taken_by network ns voters.second cycle device seats.second cast.second)
    ∙ ap (λ x. the_ballot (payload_taken (happenings network ns) voters.first cycle device)
    (payload_taken (happenings network ns) voters.second cycle device) x)
    (taken_by network ns voters.third cycle device seats.third cast.third)

-- ---- ballots that are kept, with the octets of the records

abbrev pub the_votes : TraceView → Voters → BTreeMap ℕ Seats → KeptVotes
the_votes frames voters ballots = record { frames = frames; voters = voters; ballots = ballots }

-- with one more record
pub more_held : {network : Network} {voters : Voters} (own : Voters) (old : TraceView) {new : TraceView}
    (before behind : BTreeMap ℕ Seats) {was : KeptVotes} {ns : List Note} (n : Note) → the_votes old own before ≡ was
    → HoldsVotes network voters ns was → n.number ≡ length ns + 1 → Keeps network (ns ++ n ∷ []) new
    → ((hs : List Happening) (h : Happening) → AreBallots hs own before → h.note.body ≡ n.body
    → n.number ≡ length hs + 1 → AreBallots (hs ++ h ∷ []) own behind)
    → HoldsVotes network voters (ns ++ n ∷ []) (the_votes new own behind)
more_held {network} {voters} own old before behind {ns} n is holds number keeps step =
    let same : own ≡ voters = ap (λ (v : KeptVotes). v.voters) is ∙ holds.voters_are in
    let hs = happenings network ns in
    let ballots : AreBallots hs own before = subst (λ v. AreBallots hs v before) (sym same)
    (subst (λ b. AreBallots hs voters b) (sym (ap (λ (v : KeptVotes). v.ballots) is)) holds.ballots) in
    let next = step hs (happening network hs n) ballots refl (number ∙ ap (λ x. x + 1) (sym (as_many network ns))) in
    record {
      frames = keeps;
      voters_are = same;
      ballots = subst (λ v. AreBallots (happenings network (ns ++ n ∷ [])) v behind) same
          (subst (λ xs. AreBallots xs own behind) (sym (one_more network ns n)) next);
    }

-- the same where the record was taken
pub more_taken : {T E : Type 0} (r : Result T E) {network : Network} {voters : Voters} (own : Voters)
    {new : TraceView} (behind : BTreeMap ℕ Seats) {was : KeptVotes} {ns : List Note} (n : Note) → was.voters ≡ own
    → HoldsVotes network voters ns was → n.number ≡ length ns + 1 → Keeps network (ns ++ n ∷ []) new
    → ((hs : List Happening) (h : Happening) → AreBallots hs own was.ballots → h.note.body ≡ n.body
    → n.number ≡ length hs + 1 → OnOk r (AreBallots (hs ++ h ∷ []) own behind))
    → OnOk r (HoldsVotes network voters (ns ++ n ∷ []) (the_votes new own behind))
more_taken (Ok x) own behind {was} n same holds number keeps step =
    more_held own was.frames was.ballots behind n
    (ap (λ v. the_votes was.frames v was.ballots) (sym same)) holds number
    keeps step
more_taken (Err e) own behind n same holds number keeps step = tt {0}

-- ---- the first of the ballots that are kept is given up: all ballots

-- ballots that are held are held from the first place on
pub held_from_first : {network : Network} {voters : Voters} {ns : List Note} {votes : KeptVotes}
    → HoldsVotes network voters ns votes → HoldsFrom network voters ns 0 votes
held_from_first h = record {
  frames = h.frames;
  voters_are = h.voters_are;
  ballots = λ cycle device c d from. h.ballots cycle device c d;
  none_before = λ key less. absurd (omega (arith, less));
}

-- ---- a ballot on which nothing is cast

open_taken : (hs : List Happening) (vl : VlId) (cycle : ℕ) (device : DeviceId) → delivery_of hs vl cycle device ≡ None → payload_taken hs vl cycle device ≡ None
open_taken hs vl cycle device none = ap (λ (o : Option Happening). option_map payload_in (option_and_then record_octets o)) none

open_ballot : {hs : List Happening} {voters : Voters} {cycle : ℕ} {device : DeviceId}
    → AreCast hs voters cycle device none_cast → ballot_of voters hs cycle device ≡ no_votes
open_ballot {hs} {voters} {cycle} {device} cast =
    let b = payload_taken hs voters.second cycle device in
    let c = payload_taken hs voters.third cycle device in
    ap (λ x. the_ballot x b c) (open_taken hs voters.first cycle device cast.first)
    ∙ ap (λ x. the_ballot None x c) (open_taken hs voters.second cycle device cast.second)
    ∙ ap (λ x. the_ballot None None x) (open_taken hs voters.third cycle device cast.third)

-- ---- keys

other_key : (k q : ℕ) → (k ≡ q → ⊥) → is_at (nat_cmp k) q ≡ false
other_key k q other = elim (cases_Bool (is_at (nat_cmp k) q)) [ inl same ↦ absurd (other (equal_keys k q same)) | inr apart ↦ apart ]

some_there : (o : Option Seats) (s : Seats) → o ≡ Some s → IsSome o
some_there o s e = ap is_some e

-- before the least key there is none
none_less : (m : BTreeMap ℕ Seats) (key q : ℕ) → IsLowerBound nat_cmp m key → q < key → get nat_cmp m q ≡ None
none_less m key q least less = by (get nat_cmp m q) refl
  where
    by : (o : Option Seats) → get nat_cmp m q ≡ o → get nat_cmp m q ≡ None
    by None e = e
    by (Some s) e =
        let le : key ≤ q = le_from_not_gt key q (least q (some_there (get nat_cmp m q) s e)) in absurd (omega (arith, le, less))

-- a place has its cycle and its device
pub place_of_key : (key cycle device : ℕ) → cycle ≡ key / 2 ^ 32 → device ≡ key % 2 ^ 32 → key ≡ cycle * 2 ^ 32 + device
place_of_key key cycle device c d = omega (arith, c, d)

-- ---- where none is kept

pub none_in : {X : Type 0} (xs : List X) → (0 < length xs → false ≡ true) → xs ≡ []
none_in [] h = refl
none_in (x ∷ xs) h = absurd (let no = h (omega arith) in cc)

pub none_left : {network : Network} {voters : Voters} {ns : List Note} {from : ℕ} {votes : KeptVotes}
    → votes.ballots.entries ≡ [] → HoldsFrom network voters ns from votes
    → AreOpenFrom network voters ns from (2 ^ 64)
none_left {network} {voters} {ns} {votes} none h cycle device c d not_before before =
    let hs = happenings network ns in
    let empty : seats_at votes.ballots (key_of cycle device) ≡ none_cast = rw none refl in
    open_ballot (subst (λ s. AreCast hs voters cycle device s) empty (h.ballots cycle device c d not_before))

-- ---- where one is

module _ (network : Network) (voters own : Voters) (ns : List Note) (from key : ℕ) (frames : TraceView) (old new : BTreeMap ℕ Seats) (seats : Seats)
    (held : HoldsFrom network voters ns from (the_votes frames own old)) (value : get nat_cmp old key ≡ Some seats)
    (least : IsLowerBound nat_cmp old key) (put : Updates nat_cmp old new key None) where
  first_from : from ≤ key
  first_from = elim (cases_lt key from) [
    | inl less ↦ absurd (let none = held.none_before key less in let no : ◌≡◌ {A = Option Seats} (Some seats) None = sym value ∙ none in cc)
    | inr le ↦ le
  ]

  first_open : AreOpenFrom network voters ns from key
  first_open cycle device c d not_before before =
      let hs = happenings network ns in
      let empty : seats_at old (key_of cycle device) ≡ none_cast = ap found (none_less old key (key_of cycle device) least before) in
      open_ballot (subst (λ s. AreCast hs voters cycle device s) empty (held.ballots cycle device c d not_before))

  -- the seats of the ballot itself
  pub first_cast : (cycle : ℕ) (device : DeviceId) → cycle < 2 ^ 32 → device.0 < 2 ^ 32 → key ≡ key_of cycle device
      → AreCast (happenings network ns) voters cycle device seats
  first_cast cycle device c d at =
      let here : seats_at old (key_of cycle device) ≡ seats = ap (seats_at old) (sym at) ∙ ap found value in
      subst (λ s. AreCast (happenings network ns) voters cycle device s) here
      (held.ballots cycle device c d (let le = first_from in omega (arith, le, at)))

  first_behind : HoldsFrom network voters ns (key + 1) (the_votes frames own new)
  first_behind = record {
    frames = held.frames;
    voters_are = held.voters_are;
    ballots = λ cycle device c d behind.
        let le = first_from in
        let same : seats_at new (key_of cycle device) ≡ seats_at old (key_of cycle device) =
        ap found (put.2 (key_of cycle device) (other_key key (key_of cycle device) (λ e. omega (arith, e, behind)))) in
        subst (λ s. AreCast (happenings network ns) voters cycle device s) (sym same)
        (held.ballots cycle device c d (omega (arith, le, behind)));
    none_before = λ q less. elim (cases_lt q key) [
      | inl before ↦ put.2 q (other_key key q (λ e. omega (arith, e, before))) ∙ none_less old key q least before
      | inr from_it ↦ (let same : q ≡ key = omega (arith, from_it, less) in ap (get nat_cmp new) same ∙ put.1)
    ];
  }

  pub first_given : (cycle : ℕ) (device : DeviceId) (ballot : Votes) → cycle < 2 ^ 32 → device.0 < 2 ^ 32 → key ≡ key_of cycle device
      → ballot ≡ ballot_of voters (happenings network ns) cycle device → IsNext network voters ns from cycle device ballot (the_votes frames own new)
  first_given cycle device ballot c d at is = record {
    in_cycle = c;
    of_device = d;
    not_before = subst (λ k. from ≤ k) at first_from;
    passed = subst (λ k. AreOpenFrom network voters ns from k) at first_open;
    is = is;
    behind = subst (λ k. HoldsFrom network voters ns (k + 1) (the_votes frames own new)) at first_behind;
  }
