use Rattle.audit_devices.proofs.Kept.{heard_since_is}
use Rattle.audit_devices.proofs.{Words.{◌-◌, ◌∙◌, ◌≡◌, Summarizes, ap, heard_by_then, points_by, subst, sym}}
use Rattle.audit_law.specs.law.CorrectionNumbers.{heard_since_point}
use Rattle.audit_devices.proofs.shown.Shown.heard_since.Goals as goal

pub returns : goal.returns
returns c s hs device t read after sh =
    let shown = c.args.self.now in
    let points : c.points_come.result ≡ points_by s.network shown (s.reading device (t - 1)) = c.points_come.ensures.value
    ∙ ap (λ n. points_by n shown c.args.before) (sym read.of_network)
    ∙ ap (points_by s.network shown) read.reads in
    let is = c.heard_by.ensures ∙ ap (heard_by_then shown) points in
    subst (λ x. Summarizes x (heard_since_point s hs device t)) (sym is) (heard_since_is s hs device shown t after sh)
