use Rattle.audit_sweep.proofs.{records_lemmas.Bodies.{corrected_body, on_body}, unpaid_lemmas.PaidChanges.{Brings, brought_change, change_brought}}
use Rattle.audit_sweep.proofs.unpaid_lemmas.Words.{◌∙◌, ◌≡◌, KeptRecord, ap, device_named, is_broken, numbered_in, scenario_of, subst, sym, time_of}
use Rattle.{audit_sweep.specs.records.Keeping.kept_of, run_law.specs.device.States.state_before, std.proofs.lemmas.Bool.{not-true, not_from_false}}
use Rattle.audit_sweep.specs.declared.records.kept.Kept.TheVariants as kepts
use Rattle.audit_sweep.proofs.unpaid.debtor.Debtor.changes_state.Goals as goal

pub returns-in-On : goal.returns-in-On
returns-in-On c befallen hs number h known there kept =
    let s = scenario_of c.args.self.now befallen in
    let device = c.in-On.device in
    let is : kept_of h.note.body ≡ kepts.On device = sym (ap (λ (r : KeptRecord). r.kept) kept) ∙ c.in-On.is in
    let body = on_body h.note.body device is in
    let has = known.devices h device (numbered_in hs number h there) (ap device_named body.1) in
    let broken : c.is_broken.result ≡ is_broken s device (time_of h) = c.is_broken.ensures c.args.self.now.network.now befallen known.remembers has
    ∙ ap (λ (r : KeptRecord). is_broken s device r.time) kept in (
      λ yes. brought_change s hs number h there _ body.1 (sym broken ∙ not-true c.is_broken.result yes),
      λ change.
          not_from_false c.is_broken.result
          (broken ∙ subst (Brings s hs (time_of h)) body.1 (change_brought h there change)),
    )

pub returns-in-Corrected : goal.returns-in-Corrected
returns-in-Corrected c befallen hs number h known there kept =
    let s = scenario_of c.args.self.now befallen in
    let device = c.in-Corrected.device in
    let is : kept_of h.note.body ≡ kepts.Corrected device = sym (ap (λ (r : KeptRecord). r.kept) kept) ∙ c.in-Corrected.is in
    let body = corrected_body h.note.body device is in
    let has = known.devices h device (numbered_in hs number h there) (ap device_named body.3) in
    let joining = c.is_joining.ensures befallen hs known has in
    let state = ap (λ (r : KeptRecord). state_before s hs device r.time) kept in (
      λ yes. brought_change s hs number h there _ body.3 (sym state ∙ joining.0 yes),
      λ change. joining.1 (state ∙ subst (Brings s hs (time_of h)) body.3 (change_brought h there change)),
    )
