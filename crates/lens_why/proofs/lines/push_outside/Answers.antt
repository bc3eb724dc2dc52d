use Rattle.{lens_why.{proofs.Pieces.four, specs.Lines.outside_text}, report_text.specs.NoteWords.members_text, std.specs.Fmt.decimal}
use Rattle.{std.{proofs.Common.{◌++◌, ◌∙◌, ◌≡◌, List, ap, append_assoc, rules, ℕ}, specs.Prelude.codes}, sync_state.specs.membership.Members.count_of}
use Rattle.lens_why.proofs.lines.push_outside.Goals as goal

pub returns-clause-text : goal.returns-clause-text
unfolding outside_text
returns-clause-text c =
    let members = members_text c.args.outside in
    let count = decimal (count_of c.args.outside) in
    let rest = codes " threshold " ++ decimal c.args.threshold in
    let same : c.into.result ≡ c.args.threshold = search rules in
    four _ _ _ _ _ _ _ _ _ c.push.ensures.text c.push_members.ensures.text c.push-2.ensures.text
    (c.push_decimal.ensures.text ∙ ap (λ (n : ℕ). c.push-2.new.self ++ decimal n) same)
    ∙ ap (λ (t : List ℕ). c.args.line.now ++ (codes " outside " ++ t))
    (append_assoc members (codes " count " ++ count) rest ∙ ap (λ (t : List ℕ). members ++ t) (append_assoc (codes " count ") count rest))
