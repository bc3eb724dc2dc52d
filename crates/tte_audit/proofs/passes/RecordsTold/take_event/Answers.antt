use Rattle.tte_audit.{proofs.Words.{◌+◌, inl, inr, refl}, specs.Report.IsNextLine}
use Rattle.tte_audit.proofs.passes.RecordsTold.take_event.Goals as goal

pub take-requires-clause-told : goal.take-requires-clause-told
take-requires-clause-told c = (c.args.network.now, c.requires.told.0, c.requires.told.1, c.in-Some.ensures.begins.of_network)

pub returns-in-Ok : goal.returns-in-Ok
returns-in-Ok c =
    let h = c.in-Some.ensures in
    (c.numbered_event.new.read, h, λ notes told. c.in-Ok.ensures c.args.network.now notes told h.begins.of_network)

pub returns-in-Err : goal.returns-in-Err
returns-in-Err c = inl refl

pub returns-in-None : goal.returns-in-None
returns-in-None c =
    inr (
      refl,
      λ h.
          let next : IsNextLine c.args.network.now (c.args.self.now.records + 1) c.args.octets.now h.rest h.note =
          record { begins = record { of_network = h.of_network; in_range = h.in_range; text = h.text }; numbered = h.number } in
          c.requires.event h.note h.rest next (c.in-None.ensures h.note h.rest next),
    )
