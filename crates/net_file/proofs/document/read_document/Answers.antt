use Rattle.{net_file.{proofs.Tops.{grain_within, one_or_two}, specs.Schema.document_of}, std.proofs.Common.rules}
use Rattle.net_file.proofs.document.read_document.Goals as goal

pub returns-in_err-nothing_else-clause-value : goal.returns-in_err-nothing_else-clause-value
unfolding document_of
returns-in_err-nothing_else-clause-value c =
    rw (
      ← c.in_ok-version.ensures.value,
      ← c.in_ok-cycle.ensures.value,
      ← c.in_ok-rho.ensures.value,
      ← c.in_ok-grain.ensures.value,
      ← c.in_ok-dmax.ensures.value,
      ← c.in_ok-calc.ensures.value,
      ← c.in_ok-settled.ensures.value,
      ← c.in_ok-precision.ensures.value,
      ← c.in_ok-correction.ensures.value,
      ← c.in_ok-tt_start.ensures.value,
      ← c.in_ok-sync_threshold.ensures.value,
      ← c.in_ok-priority.ensures.value,
      ← c.in_ok-domain.ensures.value,
      ← c.in_ok-pcf_destination.ensures,
      ← c.in_ok-marker.ensures,
      ← c.nothing_else.ensures,
    ) (search rules)

pub returns-clause-value : goal.returns-clause-value
unfolding document_of
returns-clause-value c =
    rw (
      ← c.in_ok-version.ensures.value,
      ← c.in_ok-cycle.ensures.value,
      ← c.in_ok-rho.ensures.value,
      ← c.in_ok-grain.ensures.value,
      ← c.in_ok-dmax.ensures.value,
      ← c.in_ok-calc.ensures.value,
      ← c.in_ok-settled.ensures.value,
      ← c.in_ok-precision.ensures.value,
      ← c.in_ok-correction.ensures.value,
      ← c.in_ok-tt_start.ensures.value,
      ← c.in_ok-sync_threshold.ensures.value,
      ← c.in_ok-priority.ensures.value,
      ← c.in_ok-domain.ensures.value,
      ← c.in_ok-pcf_destination.ensures,
      ← c.in_ok-marker.ensures,
      ← c.in_ok-nothing_else.ensures,
    ) (search rules)

pub returns-clause-in_range : goal.returns-clause-in_range
returns-clause-in_range c = record {
  version = one_or_two c.in_ok-version.version c.in_ok-version.ensures.least c.in_ok-version.ensures.most;
  cycle = c.in_ok-cycle.ensures.within;
  rho = c.in_ok-rho.ensures.most;
  grain = rw (c.unwrap_or.ensures, c.from_amount.ensures.value) (grain_within c.in_ok-grain.grain c.in_ok-grain.ensures.within);
  dmax = c.in_ok-dmax.ensures.within;
  calc = c.in_ok-calc.ensures.within;
  settled = c.in_ok-settled.ensures.within;
  precision = c.in_ok-precision.ensures.within;
  correction = c.in_ok-correction.ensures.within;
  tt_start = c.in_ok-tt_start.ensures.within;
  marker = search rules;
  threshold_least = c.in_ok-sync_threshold.ensures.least;
  threshold_most = c.in_ok-sync_threshold.ensures.most;
  few_devices = search rules;
  few_links = search rules;
  few_vls = search rules;
  few_rows = search rules;
  devices = search rules;
  links = search rules;
  vls = search rules;
  rows = search rules;
}
