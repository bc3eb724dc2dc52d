use Rattle.{lens_svg.specs.Titles.word_text, std.{proofs.Common.{◌*◌, ◌++◌, ◌+◌, ◌≡◌, ◌≤◌, length, take}, specs.Prelude.{codes, flat_map}}}
use Rattle.lens_svg.proofs.title.Title.of.Given as goal

abbrev pub invariant-words : goal.invariant-words
invariant-words l = record {
  text : l.text ≡ codes "lens" ++ flat_map word_text (take l.place l.words);
  grows : length l.text ≤ 4 + 303 * l.place;
}
