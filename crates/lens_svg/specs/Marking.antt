-- The line of a record's mark.
use Rattle.std.specs.Prelude.{ℕ, ◌++◌, ◌==◌, ◌||◌, ◌≡◌, All, Bool, List, [], codes, decimal, if◌then◌else◌, not, true}
use Rattle.{lens_svg.specs.{Glyphs.glyph_text, Labels.label_text}, report_text.specs.NoteLine.note_text}
use Rattle.{lens_svg.specs.declared.mark.Mark.Mark, run_law.specs.declared.note.{Note.Note, NoteBody.NoteBody}}
use Rattle.net_plan.specs.declared.network.Network.{Network}

-- how many octets a record's text has at most
abbrev pub title_room : ℕ
title_room = 3500

-- is the character one that SVG reads as no more than itself? It is neither `<` nor `&`
abbrev pub is_plain : ℕ → Bool
is_plain c = not (c == 60 || c == 38)

-- each character of the text is
abbrev pub IsPlain : List ℕ → Type 0
IsPlain text = All (λ c. is_plain c ≡ true) text

-- how far down the sign of a mark stands: that of an event is above the lanes, another's is on its device's lane
abbrev pub height_of : Mark → ℕ
height_of mark = if mark.seat == 0 then 167 else mark.y

-- the first part of the line: the record's number, and its own line as the title
unfoldable pub head_text : Network → Note → List ℕ
head_text network note =
    codes "<g id=\"r" ++ decimal note.number ++ codes "\"><title>" ++ note_text network note ++ codes "</title>"

-- the beginning of a link to the mark of the record of this number
unfoldable pub link_to : ℕ → List ℕ
link_to number = codes "<a xlink:href=\"#r" ++ decimal number ++ codes "\">"

-- a mark is a link to that of the record that it comes from, where that is drawn
abbrev pub link_text : Mark → List ℕ
link_text mark = if mark.linked then link_to mark.cause else []

abbrev pub link_end : Mark → List ℕ
link_end mark = if mark.linked then codes "</a>" else []

-- where a mark is
unfoldable pub place_text : ℕ → ℕ → List ℕ
place_text x y = codes "<g transform=\"translate(" ++ decimal x ++ codes " " ++ decimal y ++ codes ")\">"

-- the sign of a record and its label
unfoldable pub label_part : Network → NoteBody → List ℕ
label_part network body = glyph_text body ++ label_text network body ++ codes "</text></g>"

-- the rest of the line: the link, with the sign of the record where the mark is, and its label
abbrev pub sign_text : Network → Mark → NoteBody → List ℕ
sign_text network mark body =
    link_text mark ++ place_text mark.x (height_of mark) ++ label_part network body ++ link_end mark ++ codes "</g>\n"

-- the line of the mark of a record
abbrev pub mark_line : Network → Mark → Note → List ℕ
mark_line network mark note = head_text network note ++ sign_text network mark note.body
