use Rattle.std.proofs.Common.{List, inl, subst, sym}
use Rattle.lens_flows.{proofs.AllTold.{answer_there, writable_all}, specs.Writing.IsWritable}
use Rattle.lens_flows.specs.{Answer.told_answer, declared.counts.told.FlowTold.FlowTold}
use Rattle.{std.specs.Prelude.All, tte_forms.specs.{Answering.Gives, Putting.shown_by}}
use Rattle.lens_flows.proofs.answering.FlowsReportCommand.put.Goals as goal

pub put_told-requires-clause-writable : goal.put_told-requires-clause-writable
put_told-requires-clause-writable g c =
    let some = c.requires.read.some in
    let told = c.in-Ok.told.items in
    subst (λ (ts : List FlowTold). All (IsWritable c.args.network.now) ts) (sym c.as_slice.ensures.value)
    (writable_all (c.in-Ok.ensures some.0 some.1 some.2))

pub returns-in-Ok-clause-gives : goal.returns-in-Ok-clause-gives
returns-in-Ok-clause-gives g c notes end r =
    let shown = shown_by g.K.Sink in
    let network = c.args.network.now in
    let told = c.in-Ok.told.items in
    let whole = subst (λ ts. Gives (told_answer network ts) c.put_told.result (shown c.args.out.now) (shown c.put_told.new.out))
    c.as_slice.ensures.value c.put_told.ensures.gives in
    inl (told_answer network told, answer_there c.requires.rules r (c.in-Ok.ensures notes end r), whole)
