use Rattle.{audit_sweep.specs.declared.records.kept.KeptRecord.KeptRecord, run_law.specs.records.Happenings.Happening}
use Rattle.{device_rules.specs.Headings.heading_of, std.{proofs.Common.{◌∙◌, Option, Some, ap, sym}, specs.Prelude.option_map}}
use Rattle.audit_sweep.proofs.index.Index.heading.Goals as goal

pub returns-in-Some : goal.returns-in-Some
returns-in-Some c network befallen hs k =
    let e = c.in-Some.ensures hs k.records in
    ap (λ (r : KeptRecord). Some r.heading) e.2 ∙ sym (ap (λ (o : Option Happening). option_map (λ (h : Happening). heading_of h.octets) o) e.1)

pub returns-in-None : goal.returns-in-None
returns-in-None c network befallen hs k =
    sym (ap (λ (o : Option Happening). option_map (λ (h : Happening). heading_of h.octets) o) (c.in-None.ensures hs k.records))
