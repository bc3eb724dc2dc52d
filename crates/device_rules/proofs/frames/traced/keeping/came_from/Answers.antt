use Rattle.std.{proofs.Common.{◌∙◌, [], ap, sym}, specs.Option.option_map_or}
use Rattle.device_rules.{proofs.frames_lemmas.traced_lemmas.Keeping.{held_at, octets_at}}
use Rattle.device_rules.{specs.frames.traced.Keeping.{came, kept_octets}}
use Rattle.device_rules.proofs.frames.traced.keeping.came_from.Goals as goal

pub returns-in-Some-clause-held : goal.returns-in-Some-clause-held
returns-in-Some-clause-held c pool all =
    c.handed_on.ensures.held pool (held_at pool c.args.records.now c.args.number c.in-Some.kept all (sym c.in-Some.ensures))

pub returns-in-Some-clause-view : goal.returns-in-Some-clause-view
returns-in-Some-clause-view c network pool hs e =
    c.handed_on.ensures.view network pool
    ∙ ap came
    (ap (λ o. option_map_or (kept_octets network pool) o []) c.in-Some.ensures
    ∙ octets_at network pool c.args.records.now hs c.args.number e)

pub returns-in-None-clause-view : goal.returns-in-None-clause-view
returns-in-None-clause-view c network pool hs e =
    ap came
    (ap (λ o. option_map_or (kept_octets network pool) o []) c.in-None.ensures
    ∙ octets_at network pool c.args.records.now hs c.args.number e)
