use Rattle.{audit_sweep.proofs.Words.{◌∙◌, ◌≡◌, KeptRecord, Option, ap, sym}, run_law.specs.records.Happenings.{Happening, numbered}}
use Rattle.{std.specs.{Option.option_map_or, Prelude.option_and_then}, tte_units.specs.declared.frames.pcf.Pcf.Pcf}
use Rattle.audit_sweep.proofs.sweep.Sweep.members_from.Goals as goal

pub returns-in-Some : goal.returns-in-Some
returns-in-Some c hs records =
    let there = c.in-Some.ensures hs records in
    let found : option_and_then (λ (h : Happening). h.frame) (numbered hs c.args.number) ≡ there.0.frame =
    ap (option_and_then (λ (h : Happening). h.frame)) there.1 in
    c.members_in.ensures
    ∙ ap (λ (r : KeptRecord). option_map_or (λ (frame : Pcf). frame.members.0) r.frame 0) there.2
    ∙ ap (λ (o : Option Pcf). option_map_or (λ (frame : Pcf). frame.members.0) o 0) (sym found)

pub returns-in-None : goal.returns-in-None
returns-in-None c hs records =
    let none = c.in-None.ensures hs records in
    ap (λ (o : Option Happening). option_map_or (λ (frame : Pcf). frame.members.0) (option_and_then (λ (h : Happening). h.frame) o) 0) (sym none)
