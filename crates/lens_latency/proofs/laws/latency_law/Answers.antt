use Rattle.lens_latency.proofs.{Departures.deliveries_are_seen, Latencies.{comes_at_its_place, comes_in_its_time}}
use Rattle.lens_latency.proofs.laws.latency_law.Goals as goal

pub returns-clause-place : goal.returns-clause-place
returns-clause-place c = comes_at_its_place

pub returns-clause-time : goal.returns-clause-time
returns-clause-time c = comes_in_its_time

pub returns-clause-seen : goal.returns-clause-seen
returns-clause-seen c = deliveries_are_seen
