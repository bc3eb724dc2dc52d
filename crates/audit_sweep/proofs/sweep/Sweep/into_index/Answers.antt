use Rattle.audit_sweep.proofs.sweep.Sweep.into_index.Goals as goal

pub returns : goal.returns
returns c network befallen end hs swept = record {
  events = swept.known.events;
  end = swept.known.end;
  records = swept.known.records;
  standings = swept.known.standings;
  devices = swept.known.standing;
}
