use Rattle.{audit_sweep.proofs.Words.{◌∙◌, Happening, KeptRecord, Some, ap, kept_of, sym}, std.specs.Prelude.option_map}
use Rattle.audit_sweep.proofs.dispatching.kept.Goals as goal

pub returns-in-Some : goal.returns-in-Some
returns-in-Some c network befallen hs k =
    let found = c.in-Some.ensures hs k.records in
    ap (λ (r : KeptRecord). Some r.kept) found.2 ∙ sym (ap (option_map (λ (h : Happening). kept_of h.note.body)) found.1)

pub returns-in-None : goal.returns-in-None
returns-in-None c network befallen hs k = sym (ap (option_map (λ (h : Happening). kept_of h.note.body)) (c.in-None.ensures hs k.records))
