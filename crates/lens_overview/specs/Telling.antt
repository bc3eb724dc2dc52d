-- What was told by the records of a report so far.
use Rattle.std.specs.Prelude.{◌≡◌, List}
use Rattle.{audit_law.specs.events.Readings.scenario_under, audit_sweep.specs.Indexing.IsIndex}
use Rattle.lens_overview.specs.{News.news_in, declared.{news.News.News, telling.ToldSoFar.ToldSoFar}}
use Rattle.net_plan.specs.declared.network.Network.{Network}
use Rattle.{run_law.specs.{declared.note.Note.Note, records.Happenings.happenings}, tte_audit.specs.Report.events_of}

-- what these records of a report tell, of which these are all
abbrev pub news_by : Network → List Note → List Note → List News
news_by network ns before =
    news_in network (scenario_under network (events_of ns)) (happenings network ns) before

-- that was told, and the index is that of the report
pub record IsToldSoFar (network : Network) (ns before : List Note) (told : ToldSoFar) : Type 0 where
  pub index : IsIndex network (events_of ns) (happenings network ns) told.index.now
  pub news : told.news.items ≡ news_by network ns before
