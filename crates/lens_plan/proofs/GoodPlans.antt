-- What is put where a plan is done.
use Rattle.lens_plan.specs.{Answer.{IsJoinedAnswer, IsPlanOf, IsToldBy}, Laws.{DoneIsPlanned}}
use Rattle.lens_plan.specs.{declared.{places.planning.NoPlan.NoPlan, text.line.PlanLine.PlanLine}, joining.Joined.MeansPlanned, messages.Message.Message}
use Rattle.lens_plan.specs.declared.places.planning.NoPlan.TheVariants as plans
use Rattle.net_plan.specs.declared.network.Network.{Network}
use Rattle.std.{proofs.Common.{◌++◌, ◌∙◌, ◌≡◌, List, ap, inl, inr, subst, sym, ℕ}, specs.List.concat}
use Rattle.tte_forms.specs.{Answering.Answer, declared.status.Status.TheVariants.{Done, MessagesRefused, NetworkRefused, PlanRefused, TooLong}}

-- an answer that is done has no other status
status_is : (a b : Answer) → a ≡ b → a.status ≡ Done → b.status ≡ Done
status_is a b same done = sym (ap (λ (x : Answer). x.status) same) ∙ done

not_too_long : TooLong ≡ Done → ⊥
not_too_long e = absurd cc

not_refused : NetworkRefused ≡ Done → ⊥
not_refused e = absurd cc

no_line : MessagesRefused ≡ Done → ⊥
no_line e = absurd cc

no_plan : PlanRefused ≡ Done → ⊥
no_plan e = absurd cc

not_told : (network : Network) (ms : List Message) (cause : NoPlan) (a : Answer) → IsToldBy network ms cause a → a.status ≡ Done → ⊥
not_told network ms plans.OutOfMemory a told done = told
not_told network ms (plans.Excess excess) a told done = no_plan (status_is a _ told done)
not_told network ms (plans.Impossible place b) a told done = no_plan (status_is a _ told done)
not_told network ms (plans.Unplaced place b) a told done = no_plan (status_is a _ told done)

module _ (octets : List ℕ) (network : Network) (ms : List Message) where
  joined_done : (lines : List PlanLine) (a : Answer) → IsJoinedAnswer octets network ms lines a → a.status ≡ Done
      → MeansPlanned (octets ++ concat a.lines) network ms
  joined_done lines a (inl h) done = absurd (not_too_long (status_is a _ h.1 done))
  joined_done lines a (inr (inl h)) done = absurd (not_refused (status_is a _ h.2 done))
  joined_done lines a (inr (inr (means, same))) done =
      subst (λ (ls : List (List ℕ)). MeansPlanned (octets ++ concat ls) network ms)
      (sym (ap (λ (x : Answer). x.lines) same)) means

  plan_done : (a : Answer) → IsPlanOf octets network ms a → a.status ≡ Done
      → MeansPlanned (octets ++ concat a.lines) network ms
  plan_done a (inl (cause, is, told)) done = absurd (not_told network ms cause a told done)
  plan_done a (inr (lines, are, joined)) done = joined_done lines a joined done

pub done_is_planned : DoneIsPlanned
done_is_planned octets text a (inl h) done = absurd (not_too_long (status_is a _ h.1 done))
done_is_planned octets text a (inr (inl (refusal, none, same))) done = absurd (not_refused (status_is a _ same done))
done_is_planned octets text a (inr (inr (inl (told, unfit, same)))) done = absurd (not_refused (status_is a _ same done))
done_is_planned octets text a (inr (inr (inr (network, accepted, inl h)))) done = absurd (not_too_long (status_is a _ h.1 done))
done_is_planned octets text a (inr (inr (inr (network, accepted, inr (inl (line, none, same)))))) done = absurd (no_line (status_is a _ same done))
done_is_planned octets text a (inr (inr (inr (network, accepted, inr (inr (ms, read, is)))))) done =
    record { network = network; accepted = accepted; messages = ms; read = read; planned = plan_done octets network ms a is done }
