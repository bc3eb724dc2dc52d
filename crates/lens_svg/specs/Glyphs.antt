-- The sign of a record, and the beginning of its label.
use Rattle.std.specs.Prelude.{ℕ, List, codes}
use Rattle.run_law.specs.declared.{judgement.{Judgement.Judgement, Reason.Reason}, note.NoteBody.NoteBody}
use Rattle.run_law.specs.declared.note.NoteBody.TheVariants.{Accepted, Arrived, Clock, Compressed, Corrected, Delivered}
use Rattle.run_law.specs.declared.note.NoteBody.TheVariants.{Dropped, Event, Left, Lost, Permanent, Sent, State, TtSent}
use Rattle.run_law.specs.declared.judgement.Judgement.TheVariants as judgements
use Rattle.run_law.specs.declared.judgement.Reason.TheVariants as reasons

-- of a frame that is permanent
abbrev pub verdict_glyph : Judgement → List ℕ
verdict_glyph judgements.Opened = codes "<use xlink:href=\"#joined\"/><text class=\"label\">"
verdict_glyph judgements.Joined = codes "<use xlink:href=\"#joined\"/><text class=\"label\">"
verdict_glyph judgements.Within = codes "<use xlink:href=\"#within\"/><text class=\"label\">"
verdict_glyph judgements.Outside = codes "<use xlink:href=\"#outside\"/><text class=\"label outside\" x=\"4\" y=\"-8\">"
verdict_glyph judgements.Repeat = codes "<use xlink:href=\"#ignored\"/><text class=\"label\" x=\"4\" y=\"-8\">"
verdict_glyph judgements.Ignored = codes "<use xlink:href=\"#ignored\"/><text class=\"label\" x=\"4\" y=\"-8\">"
verdict_glyph judgements.Integrates =
    codes "<use xlink:href=\"#integrates\"/><text class=\"label corrected\" x=\"4\" y=\"16\">"

-- of a frame that is dropped: a second copy is not wanted, a device that is off or not synchronised takes none, and else
-- the frame is refused
abbrev pub refused_glyph : List ℕ
refused_glyph = codes "<use xlink:href=\"#dropped\"/><text class=\"label dropped\" x=\"12\" y=\"14\" transform=\"rotate(30)\">"

abbrev pub untaken_glyph : List ℕ
untaken_glyph = codes "<use xlink:href=\"#untaken\"/><text class=\"label untaken\" x=\"12\" y=\"14\" transform=\"rotate(30)\">"

abbrev pub dropped_glyph : Reason → List ℕ
dropped_glyph reasons.Repeat = codes "<use xlink:href=\"#second\"/><text class=\"label\">"
dropped_glyph reasons.Off = untaken_glyph
dropped_glyph reasons.Unsynchronised = untaken_glyph
dropped_glyph reason = refused_glyph

-- of a record
abbrev pub glyph_text : NoteBody → List ℕ
glyph_text (Event line what) =
    codes "<use xlink:href=\"#event\"/><text class=\"label event\" x=\"4\" y=\"-4\" transform=\"rotate(-40)\">"
glyph_text (Arrived device link cause clock) = codes "<use xlink:href=\"#dot\"/><text class=\"label\">"
glyph_text (Left device link cause clock) = codes "<use xlink:href=\"#dot\"/><text class=\"label\">"
glyph_text (Clock device reading adjustment state) = codes "<use xlink:href=\"#dot\"/><text class=\"label\">"
glyph_text (Permanent device link cause point verdict) = verdict_glyph verdict
glyph_text (Compressed device opened at cycle members verdict) =
    codes "<use xlink:href=\"#compressed\"/><text class=\"label compressed\" x=\"10\" y=\"-3\">"
glyph_text (Sent device cycle) = codes "<use xlink:href=\"#sent\"/><text class=\"label\">"
glyph_text (Corrected device cycle by adjustment) =
    codes "<use xlink:href=\"#corrected\"/><text class=\"label corrected\" x=\"6\" y=\"16\">"
glyph_text (State device state cause why) =
    codes "<use xlink:href=\"#state\"/><text class=\"label state\" x=\"5\" y=\"-12\">"
glyph_text (Lost device link cause) = codes "<use xlink:href=\"#lost\"/><text class=\"label lost\" x=\"13\" y=\"14\" transform=\"rotate(30)\">"
glyph_text (TtSent device link cause vl cycle) =
    codes "<use xlink:href=\"#ttsent\"/><text class=\"label stream\" x=\"5\" y=\"-3\" transform=\"rotate(-40)\">"
glyph_text (Accepted device link cause vl cycle) =
    codes "<use xlink:href=\"#accepted\"/><text class=\"label stream\" x=\"7\" y=\"-3\" transform=\"rotate(-40)\">"
glyph_text (Delivered device link cause vl cycle) =
    codes "<use xlink:href=\"#delivered\"/><text class=\"label delivered\" x=\"7\" y=\"-3\" transform=\"rotate(-40)\">"
glyph_text (Dropped device link cause reason) = dropped_glyph reason
