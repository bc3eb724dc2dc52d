use Rattle.{audit_law.specs.events.Readings.scenario_under, lens_overview.specs.{News.news_of, Telling.news_by, declared.news.News.News}}
use Rattle.run_law.specs.records.Happenings.{happenings}
use Rattle.tte_audit.specs.Report.{events_of}
use Rattle.tte_reports.proofs.Reports.{end_soon, none_later}
use Rattle.std.proofs.{Common.{◌++◌, ◌∙◌, ◌∷◌, List, [], ap, arith, sym}, lemmas.List.Sums.fold-append}
use Rattle.lens_overview.proofs.telling.ToldSoFarRecordTaker.take.Goals as goal

pub news_of-news-requires-clause-range : goal.news_of-news-requires-clause-range
news_of-news-requires-clause-range c = c.requires.named.in_range

pub news_of-news-requires-clause-index : goal.news_of-news-requires-clause-index
news_of-news-requires-clause-index c =
    let next = c.requires.next in
    (events_of next.1, happenings c.args.network.now next.1, next.5.index)

pub news_of-news-requires-clause-limit : goal.news_of-news-requires-clause-limit
news_of-news-requires-clause-limit c =
    let next = c.requires.next in
    let is = next.4 in
    let early = none_later c.args.network.now next.0 next.1 is.end is.report next.2 is.rest c.args.note.now is.parts in
    let last = end_soon c.args.network.now next.0 next.1 is.end is.report in
    omega (arith, early, last)

pub returns-in-Ok : goal.returns-in-Ok
returns-in-Ok c octets notes before begun next holds =
    let network = c.args.network.now in
    let note = c.args.note.now in
    let s = scenario_under network (events_of notes) in
    let hs = happenings network notes in
    let old = c.args.self.now.news.items in
    let told = c.news_of-news.ensures (events_of notes) hs holds.index
    ∙ ap (λ all. news_of network s hs all note) (c.as_slice.ensures.value ∙ holds.news) in
    record {
      index = holds.index;
      news =
          c.in-Ok.ensures.items ∙ ap (λ (n : News). old ++ n ∷ []) told
          ∙ ap (λ (all : List News). all ++ news_of network s hs (news_by network notes before) note ∷ []) holds.news
          ∙ sym (fold-append (λ all n. all ++ news_of network s hs all n ∷ []) [] before (note ∷ []));
    }
