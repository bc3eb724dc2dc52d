use Rattle.std.proofs.Common.{rules}
use Rattle.net_file.proofs.file.read_arrays.Goals as goal

pub returns-clause-in_range : goal.returns-clause-in_range
returns-clause-in_range c top = record {
  version = top.version;
  cycle = top.cycle;
  rho = top.rho;
  grain = top.grain;
  dmax = top.dmax;
  calc = top.calc;
  settled = top.settled;
  precision = top.precision;
  correction = top.correction;
  tt_start = top.tt_start;
  marker = top.marker;
  threshold_least = top.threshold_least;
  threshold_most = top.threshold_most;
  few_devices = c.in_ok-devices-2.ensures.few;
  few_links = c.in_ok-links-2.ensures.few;
  few_vls = c.in_ok-vls-2.ensures.few;
  few_rows = c.in_ok-rows-2.ensures.few;
  devices = c.in_ok-devices-2.ensures.in_range;
  links = c.in_ok-links-2.ensures.in_range _ (search rules);
  vls = c.in_ok-vls-2.ensures.in_range _ (search rules);
  rows = c.in_ok-rows-2.ensures.in_range _ (search rules) (search rules);
}
