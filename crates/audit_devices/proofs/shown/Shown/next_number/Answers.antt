use Rattle.audit_devices.proofs.{Kept.number_is, Words.{◌+◌, ◌∙◌, Shown, ap, points_by, sym}}
use Rattle.audit_devices.proofs.shown.Shown.next_number.Goals as goal

pub returns : goal.returns
returns c s hs device t read sh =
    let shown = c.args.self.now in
    ap (λ (x : Shown). x.cycle + c.points_come.result) c.self.view_is
    ∙ ap (λ n. shown.cycle + n) c.points_come.ensures.value
    ∙ ap (λ n. shown.cycle + points_by n shown c.args.before) (sym read.of_network)
    ∙ ap (λ n. shown.cycle + points_by s.network shown n) read.reads
    ∙ number_is s hs device shown t sh
