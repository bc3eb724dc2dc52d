-- That there are answers of `stamp`, `wire` and `vote`.
use Rattle.net_plan.specs.{Bearers.{HasNoBearer, IsFirstBearer, link_names, vl_names}, Ranges.IsInRange}
use Rattle.net_plan.specs.declared.{ids.{LinkId.LinkId, VlId.VlId}, network.Network.Network}
use Rattle.net_plan.specs.declared.tables.{VirtualLink.VirtualLink, Way.Way}
use Rattle.std.proofs.Common.{◌<◌, ◌∙◌, ◌∷◌, ◌≡◌, ◌⊎◌, Bool, List, Some, [], ap, arith, false, inl, inr}
use Rattle.std.proofs.Common.{map, refl, suc, sym, true, zero, ℕ}
use Rattle.std.proofs.lemmas.{Bool.cases_lt, Option.slice_get-map, Slice.Eq.bytes_eq-Decides}
use Rattle.std.specs.{Prelude.slice_get, Str.bytes_eq}
use Rattle.tte_forms.specs.Answering.{Answer, line_answer, with_line}
use Rattle.tte_forms.specs.declared.status.Status.TheVariants.{NameRefused, VoteRefused}
use Rattle.tte_observers.specs.captures.{pcap.Writing.head_octets, wires.Answer.{IsCapture, IsWireAnswer}}
use Rattle.tte_observers.specs.captures.wires.Answer.{name_answer, way_lines}
use Rattle.tte_observers.specs.{Existence.ObserversAnswer, declared.votes.law.voters.Voters.Voters}
use Rattle.tte_observers.specs.stamps.{Answer.{IsStampAnswer, granule_answer}, StampLines.stamp_lines}
use Rattle.tte_observers.specs.stamps.granules.Granules.{least_granule}
use Rattle.tte_observers.specs.votes.Answer.{AreNamed, IsFirstUnknown, IsVoteAnswer, MayThey, Names, name_line}
use Rattle.tte_observers.specs.votes.{Answer.vote_refused, VoteLines.vote_lines, law.Voting.are_matches}
use Rattle.tte_traces.{proofs.Runs.trace_answers_exist, specs.{Answer.IsTraceAnswer, FaultLine.fault_status}}
use Rattle.tte_units.proofs.general_lemmas.{Lists.differ, Options.mapped}
use Rattle.tte_units.specs.{Amount.amount, declared.units.Units.Units}

-- ---- names

-- one of some names is the first that is this, or none is
bearer_or_none : (names : List (List ℕ)) (name : List ℕ)
    → ((i : ℕ) × IsFirstBearer names name i) ⊎ HasNoBearer names name
bearer_or_none [] name = inr none
  where
    none : HasNoBearer [] name
    none zero e = cc
    none (suc k) e = cc
bearer_or_none (n ∷ names) name = by (bytes_eq n name) refl (bearer_or_none names name)
  where
    later : (n ≡ name → ⊥) → ((i : ℕ) × IsFirstBearer names name i) ⊎ HasNoBearer names name
        → ((i : ℕ) × IsFirstBearer (n ∷ names) name i) ⊎ HasNoBearer (n ∷ names) name
    later other (inl found) = inl (suc found.0, record { bears = found.1.bears; first = before })
      where
        before : (k : ℕ) → k < suc found.0 → slice_get (n ∷ names) k ≡ Some name → ⊥
        before zero less e = other cc
        before (suc k) less e = found.1.first k (omega (arith, less)) e
    later other (inr none) = inr each
      where
        each : HasNoBearer (n ∷ names) name
        each zero e = other cc
        each (suc k) e = none k e

    by : (b : Bool) → bytes_eq n name ≡ b → ((i : ℕ) × IsFirstBearer names name i) ⊎ HasNoBearer names name
        → ((i : ℕ) × IsFirstBearer (n ∷ names) name i) ⊎ HasNoBearer (n ∷ names) name
    by true e rest =
        let same : n ≡ name = (bytes_eq-Decides n name).0 e in
        inl (0, record { bears = ap (λ (x : List ℕ). Some x) same; first = λ k less. absurd (omega (arith, less)) })
    by false e rest = later (differ n name e) rest

-- ---- stamps

module _ (network : Network) (trace : List ℕ) (range : IsInRange network) where
  stamp : (granule : Units) → (a : Answer) × IsStampAnswer granule trace network a
  stamp granule =
      elim (cases_lt (amount granule) (least_granule network)) [
        | inl less ↦ (granule_answer network, inl (less, refl))
        | inr least ↦
            let a = trace_answers_exist (stamp_lines (amount granule)) network trace range in
            (a.0, inr (least, a.1))
      ]

  -- ---- packets

  -- the packets break off where another answer would tell the fault
  capture : (link : LinkId) (way : Way) → (a : Answer) × IsCapture link way trace network a
  capture link way = by (trace_answers_exist (way_lines link way) network trace range)
    where
      by : (a : Answer) × IsTraceAnswer (way_lines link way) trace network a
          → (a : Answer) × IsCapture link way trace network a
      by found = elim found.1.is [
        | inl all ↦ (found.0, record { events = found.1.events; admitted = found.1.admitted; is = inl all })
        | inr fault ↦ (
          record { status = fault_status fault.fault; lines = way_lines link way network found.1.events fault.notes },
          record {
            events = found.1.events;
            admitted = found.1.admitted;
            is =
                inr (record {
                  fault = fault.fault;
                  is = fault.is;
                  notes = fault.notes;
                  records = fault.records;
                  answer = refl;
                });
          },
        )
      ]

  wire : (name : List ℕ) (way : Way) → (a : Answer) × IsWireAnswer name way trace network a
  wire name way =
      elim (bearer_or_none (link_names network.link) name) [
        | inl found ↦
            let link : LinkId = record { 0 = found.0 } in
            let packets = capture link way in
            (with_line head_octets packets.0, inr (link, found.1, (packets.0, packets.1, refl)))
        | inr none ↦ (name_answer, inl (none, refl))
      ]

  -- ---- votes

  abbrev vl_of : ℕ → VlId
  vl_of n = record { 0 = n }

  -- a virtual link that has a name is there
  there : (name : List ℕ) (i : ℕ) → IsFirstBearer (vl_names network.vl) name i
      → (v : VirtualLink) × (slice_get network.vl i ≡ Some v)
  there name i first =
      let named = sym (slice_get-map (λ (v : VirtualLink). v.name) network.vl i) ∙ first.bears in
      let m = mapped (λ (v : VirtualLink). v.name) (slice_get network.vl i) name named in
      (m.0, m.1)

  voted : (names : Names) (voters : Voters) → AreNamed network names voters
      → (a : Answer) × IsVoteAnswer names trace network a
  voted names voters named =
      let a = there names.first voters.first.0 named.first in
      let b = there names.second voters.second.0 named.second in
      let c = there names.third voters.third.0 named.third in
      let told : MayThey network voters (are_matches a.0 b.0 c.0) =
      (a.0, b.0, c.0, record { first = a.1; second = b.1; third = c.1; told = refl }) in
      by (are_matches a.0 b.0 c.0) told
    where
      by : (may : Bool) → MayThey network voters may → (a : Answer) × IsVoteAnswer names trace network a
      by true told =
          let a = trace_answers_exist (vote_lines voters) network trace range in (a.0, inr (voters, named, told, a.1))
      by false told = (line_answer VoteRefused vote_refused, inl (inr (voters, named, told, refl)))

  vote : (names : Names) → (a : Answer) × IsVoteAnswer names trace network a
  vote names =
      elim (bearer_or_none (vl_names network.vl) names.first) [
        | inr none ↦ unknown 1 (inl (refl, none))
        | inl one ↦ elim (bearer_or_none (vl_names network.vl) names.second) [
          | inr none ↦ unknown 2 (inr (inl (vl_of one.0, refl, one.1, none)))
          | inl two ↦ elim (bearer_or_none (vl_names network.vl) names.third) [
            | inr none ↦ unknown 3 (inr (inr (vl_of one.0, vl_of two.0, refl, one.1, two.1, none)))
            | inl three ↦
                voted names (record { first = vl_of one.0; second = vl_of two.0; third = vl_of three.0 })
                (record { first = one.1; second = two.1; third = three.1 })
          ]
        ]
      ]
    where
      unknown : (place : ℕ) → IsFirstUnknown network names place
          → (a : Answer) × IsVoteAnswer names trace network a
      unknown place is = (line_answer NameRefused (name_line place), inl (inl (place, is, refl)))

pub observers_answer : ObserversAnswer
observers_answer network trace range =
    record { stamp = stamp network trace range; wire = wire network trace range; vote = vote network trace range }
