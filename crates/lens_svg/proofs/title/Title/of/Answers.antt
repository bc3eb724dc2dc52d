use Rattle.lens_svg.{proofs.NoteTexts.{text_at, text_end}, specs.Titles.word_text}
use Rattle.std.{proofs.Common.{◌++◌, ◌∙◌, ◌≡◌, ◌≤◌, Some, ap, arith, length, rules}, specs.Prelude.{codes, slice_get}}
use Rattle.lens_svg.proofs.title.Title.of.Goals.{in-None, in-Some}
use Rattle.lens_svg.proofs.title.Title.of.Goals as goal

pub words-preserved : goal.words-preserved
words-preserved c =
    let words = c.args.words.now in
    let place = c.words.place in
    let before = c.words.invariant.text in
    let few = c.words.invariant.grows in
    elim c.match-get.branch [
      | in-Some w ↦ (
          let there : slice_get words place ≡ Some w.in-Some.word.now = search rules in
          let next : c.match-get.text ≡ c.words.text ++ word_text w.in-Some.word.now = search rules in
          let grown = w.push_word.ensures.grows in
          let same = ap length w.text-is in
          record {
            text = text_at word_text (codes "lens") words place w.in-Some.word.now there c.words.text c.match-get.text before next;
            grows = omega (arith, few, grown, same);
          }
          )
      | in-None w ↦ (
          let end : length words ≤ place = search rules in
          let same : c.match-get.text ≡ c.words.text = search rules in
          let alike = ap length same in
          record { text = same ∙ text_end word_text (codes "lens") words place end c.words.text before; grows = omega (arith, few, alike) }
          )
    ]
