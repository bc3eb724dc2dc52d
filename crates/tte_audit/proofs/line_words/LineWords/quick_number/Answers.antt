use Rattle.std.proofs.lemmas.List.{nil_from_length}
use Rattle.tte_audit.proofs.{Telling.{number_alone, number_first}, Words.{◌<◌, ◌^◌, ◌∙◌, ◌∷◌, ◌≡◌, [], arith, rules}}
use Rattle.trace_text.specs.Steps.{space, words}
use Rattle.tte_audit.proofs.line_words.LineWords.quick_number.Goals as goal

pub returns-then-is_empty : goal.returns-then-is_empty
returns-then-is_empty c =
    let left = c.in_ok-left.left.now in
    let n = c.in_ok-front.front.number in
    let rest = c.in_ok-front.front.rest.now in
    let whole : c.args.self.now ≡ words left = search rules in
    let range : n < 2 ^ 64 = omega (arith, c.in_ok-front.ensures.most, c.ranges.most.fits) in
    let none : rest ≡ [] = nil_from_length rest (search rules) in
    (c.in_ok-front.ensures.most, whole ∙ number_alone left rest n range c.in_ok-front.ensures.text none)

pub returns : goal.returns
returns c =
    let left = c.in_ok-left.left.now in
    let n = c.in_ok-front.front.number in
    let rest = c.in_ok-front.front.rest.now in
    let behind = c.split_at.result.1.now in
    let whole : c.args.self.now ≡ words left = search rules in
    let range : n < 2 ^ 64 = omega (arith, c.in_ok-front.ensures.most, c.ranges.most.fits) in
    let parts : rest ≡ space ∷ behind = search rules in
    (c.in_ok-front.ensures.most, whole ∙ number_first left rest behind n range c.in_ok-front.ensures.text parts)
