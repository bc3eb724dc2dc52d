-- The answer for a report is one.
use Rattle.lens_flows.proofs.counts_lemmas.Telling.{flows_one}
use Rattle.lens_overview.{proofs.LawAnswers.none_are, specs.Answer.{IsOverviewAnswer, picture_for, pieces_answer}}
use Rattle.{lens_svg.specs.Titles.title_of, std.proofs.Common.{◌∙◌, List, ap, sym, ℕ}, tte_reports.specs.Reports.IsOneFor}

-- for each network and its report there is one answer at most
pub overview_answer_one : (words : List (List ℕ)) → IsOneFor (IsOverviewAnswer words)
overview_answer_one words network octets ns end a b rules r p q =
    p.is
    ∙ ap (λ missed. pieces_answer network (title_of words) (picture_for network ns missed p.flows)) (none_are network octets ns end p.missed rules r p.each
    ∙ sym (none_are network octets ns end q.missed rules r q.each))
    ∙ ap (λ flows. pieces_answer network (title_of words) (picture_for network ns q.missed flows))
    (flows_one network p.are q.are)
    ∙ sym q.is
