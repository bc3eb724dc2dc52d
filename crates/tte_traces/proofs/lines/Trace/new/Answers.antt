use Rattle.tte_traces.proofs.{Admitted.{admitted_none, none_followed}}
use Rattle.tte_traces.proofs.{Words.{◌++◌, ◌≡◌, LineReaderState, ap, false, pending, sym}}
use Rattle.tte_traces.proofs.lines.Trace.new.Goals as goal

pub returns-clause-follows : goal.returns-clause-follows
returns-clause-follows c = none_followed c.args.accepted c.new-2.result c.new.ensures

pub returns-clause-reads : goal.returns-clause-reads
returns-clause-reads c octets = record {
  follows = none_followed c.args.accepted c.new-2.result c.new.ensures;
  admitted = admitted_none c.args.accepted.now octets;
  coming = ap (λ r. pending r ++ octets) (sym c.new-2.ensures);
  none_left = λ is. let on : c.new-2.result.ended ≡ false = ap (λ (r : LineReaderState). r.ended) c.new-2.ensures in absurd cc;
  whole = λ _. tt {0};
}
