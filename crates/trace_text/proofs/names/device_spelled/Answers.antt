use Rattle.std.{proofs.{Common.{◌∙◌, ap, refl, sym, ℕ}, lemmas.List.Elements.All-weaker}, specs.Option.option_map}
use Rattle.net_plan.specs.{Bearers.device_names, NameText.IsNameText, Ranges.IsDeviceInRange, declared.{ids.DeviceId.DeviceId}}
use Rattle.trace_text.{proofs.WordsBack.{IsNamed, bears_utf8, named_place, named_within, place_absent}}
use Rattle.trace_text.{specs.Names.{device_id, device_spelled}}
use Rattle.trace_text.proofs.names.device_spelled.Goals as goal

abbrev number : DeviceId → ℕ
number i = i.0

pub returns-in-Ok-clause-value : goal.returns-in-Ok-clause-value
unfolding device_spelled
returns-in-Ok-clause-value c =
    let names = device_names c.args.network.now.device in
    let same = c.in-Ok.ensures.cases.0 in
    let found : IsNamed number names c.in-Ok.name.now c.device_named.result =
    record { first = c.device_named.ensures.first; none = c.device_named.ensures.none } in
    named_place device_id number (λ i. refl) names c.in-Ok.name.now c.device_named.result found
    ∙ (rw same)

pub returns-in-Ok-clause-of_network : goal.returns-in-Ok-clause-of_network
returns-in-Ok-clause-of_network c =
    named_within number (λ x. x.name) c.args.network.now.device c.in-Ok.name.now c.device_named.result
    (record { first = c.device_named.ensures.first; none = c.device_named.ensures.none })

pub returns-in-Err-clause-value : goal.returns-in-Err-clause-value
unfolding device_spelled
returns-in-Err-clause-value c =
    let names = All-weaker IsDeviceInRange (λ x. IsNameText x.name) (λ x h. h.name) c.args.network.now.device
    c.requires.devices in
    sym (ap (option_map device_id)
    (place_absent (device_names c.args.network.now.device) c.args.text.now
    (bears_utf8 (λ x. x.name) c.args.network.now.device c.args.text.now names c.in-Err.ensures.cases.0)))
