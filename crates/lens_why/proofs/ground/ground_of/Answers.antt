use Rattle.std.proofs.Common.{◌∙◌, ap, refl, subst, sym}
use Rattle.lens_why.{specs.Grounds.{position_at, window_ground}}
use Rattle.lens_why.proofs.{Frames.held_is}
use Rattle.lens_why.proofs.Grounded.{correction_so, ground_as, index_there, is_there, permanence_so, position_so}
use Rattle.lens_why.proofs.Grounded.{state_so}
use Rattle.report_text.specs.Ranges.{IsBodyOf}
use Rattle.tte_units.specs.Amount.{amount}
use Rattle.audit_sweep.specs.declared.index.Permanence.{Permanence}
use Rattle.net_plan.specs.Places.{row_of}
use Rattle.{run_law.specs.{declared.note.Note.Note, records.Happenings.happenings}, tte_audit.specs.Report.{events_of, scenario_of}}
use Rattle.run_law.specs.declared.note.NoteBody.TheVariants as notes
use Rattle.lens_why.proofs.ground.ground_of.Goals as goal

-- ---- what the calls ask for

pub taken-requires-clause-index : goal.taken-requires-clause-index
taken-requires-clause-index c = index_there c.requires.read

pub taken-requires-clause-there : goal.taken-requires-clause-there
taken-requires-clause-there c = (subst (λ b. IsBodyOf c.args.network.now b) c.in-Accepted.is c.requires.timely.of_network).0

pub taken-requires-in-Delivered-clause-index : goal.taken-requires-in-Delivered-clause-index
taken-requires-in-Delivered-clause-index c = index_there c.requires.read

pub taken-requires-in-Delivered-clause-there : goal.taken-requires-in-Delivered-clause-there
taken-requires-in-Delivered-clause-there c = (subst (λ b. IsBodyOf c.args.network.now b) c.in-Delivered.is c.requires.timely.of_network).0

pub dropped-requires-clause-there : goal.dropped-requires-clause-there
dropped-requires-clause-there c = (subst (λ b. IsBodyOf c.args.network.now b) c.in-Dropped.is c.requires.timely.of_network).0

pub permanent-requires-clause-there : goal.permanent-requires-clause-there
permanent-requires-clause-there c = (subst (λ b. IsBodyOf c.args.network.now b) c.in-Permanent.is c.requires.timely.of_network).0

pub corrected-requires-clause-there : goal.corrected-requires-clause-there
corrected-requires-clause-there c = subst (λ b. IsBodyOf c.args.network.now b) c.in-Corrected.is c.requires.timely.of_network

pub state_by-requires-clause-there : goal.state_by-requires-clause-there
state_by-requires-clause-there c = subst (λ b. IsBodyOf c.args.network.now b) c.in-State.is c.requires.timely.of_network

-- ---- the ground of each kind

pub returns-in-Accepted : goal.returns-in-Accepted
returns-in-Accepted c ns end h of from =
    let network = c.args.network.now in
    let s = scenario_of network ns in
    let hs = happenings network ns in
    let a = c.in-Accepted in
    let note = c.args.note.now in
    let at = position_so s hs h note c.args.giving.now from a.device (position_at s hs a.device (amount note.time)) refl in
    ground_as s hs h note c.args.giving.now from (notes.Accepted a.device a.link a.cause a.vl a.cycle) a.is c.taken.result
    (c.taken.ensures (events_of ns) hs (c.requires.read.index ns end of) ∙ ap (λ z. window_ground network z (row_of network a.vl a.link)) at)

pub returns-in-Delivered : goal.returns-in-Delivered
returns-in-Delivered c ns end h of from =
    let network = c.args.network.now in
    let s = scenario_of network ns in
    let hs = happenings network ns in
    let a = c.in-Delivered in
    let note = c.args.note.now in
    let at = position_so s hs h note c.args.giving.now from a.device (position_at s hs a.device (amount note.time)) refl in
    ground_as s hs h note c.args.giving.now from (notes.Delivered a.device a.link a.cause a.vl a.cycle) a.is c.taken-in-Delivered.result
    (c.taken-in-Delivered.ensures (events_of ns) hs (c.requires.read.index ns end of)
    ∙ ap (λ z. window_ground network z (row_of network a.vl a.link)) at)

pub returns-in-Dropped : goal.returns-in-Dropped
returns-in-Dropped c ns end h of from =
    let network = c.args.network.now in
    let s = scenario_of network ns in
    let hs = happenings network ns in
    let d = c.in-Dropped in
    let note = c.args.note.now in
    ground_as s hs h note c.args.giving.now from (notes.Dropped d.device d.link d.cause d.reason) d.is c.dropped.result
    (c.dropped.ensures ns end h of (is_there network ns from) (sym (ap (λ (n : Note). n.time) from.is)))

pub returns-in-Left : goal.returns-in-Left
returns-in-Left c ns end h of from =
    held_is c.in-Left.device c.in-Left.link
    c.in-Left.cause c.in-Left.clock c.held.result from c.in-Left.is c.held.ensures.some

pub returns-in-Permanent : goal.returns-in-Permanent
returns-in-Permanent c ns end h of from =
    let network = c.args.network.now in
    let s = scenario_of network ns in
    let hs = happenings network ns in
    let p = c.in-Permanent in
    let frame : Permanence = record { device = p.device; link = p.link; cause = p.cause; point = p.point } in
    ground_as s hs h c.args.note.now c.args.giving.now from (notes.Permanent p.device p.link p.cause p.point p.verdict) p.is c.permanent.result
    (c.permanent.ensures ns end h of (is_there network ns from)
    (permanence_so frame p.verdict from p.is))

pub returns-in-Corrected : goal.returns-in-Corrected
returns-in-Corrected c ns end h of from =
    let network = c.args.network.now in
    let s = scenario_of network ns in
    let hs = happenings network ns in
    let k = c.in-Corrected in
    ground_as s hs h c.args.note.now c.args.giving.now from (notes.Corrected k.device k.cycle k.by k.adjustment) k.is c.corrected.result
    (c.corrected.ensures ns end h of (is_there network ns from)
    (correction_so s hs h c.args.note.now c.args.giving.now from k.device k.cycle k.by k.adjustment k.is))

pub returns-in-Lost : goal.returns-in-Lost
returns-in-Lost c ns end h of from =
    let network = c.args.network.now in
    let s = scenario_of network ns in
    let hs = happenings network ns in
    let l = c.in-Lost in
    ground_as s hs h c.args.note.now c.args.giving.now from (notes.Lost l.device l.link l.cause) l.is c.lost.result
    (c.lost.ensures ns end h of (is_there network ns from))

pub returns-in-State : goal.returns-in-State
returns-in-State c ns end h of from =
    let network = c.args.network.now in
    let s = scenario_of network ns in
    let hs = happenings network ns in
    let k = c.in-State in
    ground_as s hs h c.args.note.now c.args.giving.now from (notes.State k.device k.state k.cause k.why) k.is c.state_by.result
    (c.state_by.ensures ns end h of (is_there network ns from)
    (state_so s hs h c.args.note.now c.args.giving.now from k.device k.state k.cause k.why k.is))

pub returns-in-Compressed : goal.returns-in-Compressed
returns-in-Compressed c ns end h of from =
    let network = c.args.network.now in
    let s = scenario_of network ns in
    let hs = happenings network ns in
    let k = c.in-Compressed in
    ground_as s hs h c.args.note.now c.args.giving.now from (notes.Compressed k.device k.opened k.at k.cycle k.members k.verdict) k.is c.sent_for.result
    (c.sent_for.ensures ns end h of (is_there network ns from))
