use Rattle.std.{proofs.{Common.{◌+◌, ◌∙◌, subst, sym}, lemmas.List.take_rest}, specs.Prelude.drop}
use Rattle.tte_reports.proofs.Reports.{IsFoundSoFar, found_all, found_none, found_one}
use Rattle.tte_reports.proofs.places.places_of.Goals as goal

pub lines-init : goal.lines-init
lines-init c =
    subst (λ ps. IsFoundSoFar c.args.octets.now c.args.octets.now ps) (sym c.new-places.ensures.items) (found_none c.args.octets.now)

pub lines-preserved : goal.lines-preserved
lines-preserved c =
    let octets = c.args.octets.now in
    let rest = c.lines.rest.now in
    let found = found_one c.lines.invariant c.in-Some.end (sym c.first_lf.ensures.place ∙ c.in-Some.is) in
    subst (λ xs. IsFoundSoFar octets xs c.push.new.self.items) (sym (take_rest rest (c.in-Some.end + 1)))
    (subst (λ ps. IsFoundSoFar octets (drop (c.in-Some.end + 1) rest) ps) (sym c.in-Ok.ensures.items) found)

pub returns-in_default : goal.returns-in_default
returns-in_default c network notes named h =
    found_all c.lines.invariant (sym c.first_lf.ensures.place ∙ c.in_default.is) named h
