use Rattle.lens_slack.{proofs.least_lemmas.Rooms.{roomy, short}, specs.{Lines.finding_line, least.{Answer.room_of, Lines.{keys_text, least_line}}}}
use Rattle.std.proofs.Common.{◌∙◌, ◌≡◌, ap, arith, subst, sym}
use Rattle.tte_forms.specs.{Answering.{Gives, line_answer, with_line}, Putting.shown_by, declared.status.Status.TheVariants.{Done, NetworkRefused}}
use Rattle.lens_slack.proofs.least.answering.put_times.Goals as goal

pub returns-then-room-clause-gives : goal.returns-then-room-clause-gives
returns-then-room-clause-gives g c =
    let old = shown_by g.K.Sink c.args.out.now in
    let new = shown_by g.K.Sink c.put_both.new.out in
    let n = c.args.network.now in
    let t = c.args.times.now in
    let status = c.put_both.result in
    let first : c.as_slice.result.now ≡ least_line t = c.as_slice.ensures ∙ c.make_least_line.ensures in
    let behind : c.as_slice-then-room.result.now ≡ keys_text t = c.as_slice-then-room.ensures ∙ c.make_keys.ensures in
    let told = subst (λ l. Gives (with_line l (line_answer Done c.as_slice-then-room.result.now)) status old new) first c.put_both.ensures.gives in
    let both = subst (λ l. Gives (with_line (least_line t) (line_answer Done l)) status old new) behind told in
    let is = roomy n t c.room_of-room.result c.room_of-room.ensures (omega (arith, c.if-room.true)) in
    subst (λ a. Gives a status old new) (sym is) both

pub returns-else-room-clause-gives : goal.returns-else-room-clause-gives
returns-else-room-clause-gives g c =
    let old = shown_by g.K.Sink c.args.out.now in
    let new = shown_by g.K.Sink c.put_both-else-room.new.out in
    let n = c.args.network.now in
    let t = c.args.times.now in
    let status = c.put_both-else-room.result in
    let first : c.as_slice-else-room.result.now ≡ least_line t = c.as_slice-else-room.ensures ∙ c.make_least_line.ensures in
    let behind : c.as_slice-else-room-2.result.now ≡ finding_line n (room_of n t) =
    c.as_slice-else-room-2.ensures ∙ c.make_finding_line.ensures ∙ ap (finding_line n) c.room_of-room.ensures in
    let told = subst (λ l. Gives (with_line l (line_answer NetworkRefused c.as_slice-else-room-2.result.now)) status old new) first
    c.put_both-else-room.ensures.gives in
    let both = subst (λ l. Gives (with_line (least_line t) (line_answer NetworkRefused l)) status old new) behind told in
    let is = short n t c.room_of-room.result c.room_of-room.ensures (omega (arith, c.if-room.false)) in
    subst (λ a. Gives a status old new) (sym is) both
