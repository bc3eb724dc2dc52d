-- The kinds of words of a message's line, each with its fault.
use Rattle.std.specs.{Option.ok_or, Prelude.{ℕ}}
use Rattle.net_plan.specs.declared.{ids.DeviceId.DeviceId, network.Network.Network}
use Rattle.lens_plan.specs.messages.{Steps.{Reader, next_word}, Values.{end_system_spelled, latest, number_between, period_spelled}}
use Rattle.lens_plan.specs.messages.Values.{time_spelled}
use Rattle.lens_plan.specs.declared.messages.refusal.MessageRefusal.TheVariants.{Name, Number}

-- a number of these
unfoldable pub number : ℕ → ℕ → Reader ℕ
number least most = next_word (λ text. ok_or (number_between least most text) Number)

-- a place in the cycle
unfoldable pub time : Reader ℕ
time = next_word (λ text. ok_or (time_spelled latest text) Number)

-- a period
unfoldable pub period : Reader ℕ
period = next_word (λ text. ok_or (period_spelled text) Number)

-- an end system's name
unfoldable pub end_system : Network → Reader DeviceId
end_system network = next_word (λ text. ok_or (end_system_spelled network text) Name)
