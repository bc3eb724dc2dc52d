use Rattle.audit_devices.proofs.Kept.{front_at, lasting_to, later_at, later_behind}
use Rattle.audit_devices.{specs.{Keeping.last_shown, Lasting.Lasts}}
use Rattle.audit_devices.proofs.Words.{◌+◌, ◌<◌, ◌∙◌, ap, arith, refl, slice_get, subst, sym}
use Rattle.std.specs.Prelude.{IfSome}
use Rattle.audit_devices.proofs.history.History.after.Goals as goal

pub returns-clause-shown : goal.returns-clause-shown
returns-clause-shown c order =
    let history = c.args.self.now in
    let items = history.entries.items in
    let time = c.args.time in
    let point = c.count_up_to-point.result in
    let parts = c.count_up_to-point.ensures.part order in
    c.shown_by.ensures
    ∙ ap (last_shown history.first) (sym (front_at items time point (time + 1) order c.count_up_to-point.ensures.bound parts (omega arith)
    (λ e is. let after = later_at items time point e parts is in omega (arith, after))))

pub returns-clause-later : goal.returns-clause-later
returns-clause-later c order =
    let items = c.args.self.now.entries.items in
    let point = c.count_up_to-point.result in
    subst (λ o. IfSome o (λ next. c.args.time < next)) (sym c.time_behind.ensures)
    (later_behind items c.args.time point (c.count_up_to-point.ensures.part order) (slice_get items point) refl)

pub returns-clause-lasts : goal.returns-clause-lasts
returns-clause-lasts c order =
    let history = c.args.self.now in
    let point = c.count_up_to-point.result in
    subst (λ o. Lasts history c.args.time o) (sym c.time_behind.ensures)
    (lasting_to history c.args.time point order c.count_up_to-point.ensures.bound (c.count_up_to-point.ensures.part order)
    (slice_get history.entries.items point) refl)
