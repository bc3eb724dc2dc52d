-- The lines that each picture has.
use Rattle.std.specs.Prelude.{ℕ, ◌++◌, List, codes}
use Rattle.lens.specs.declared.draw.signs.Sign.{Sign, TheVariants.{Arrows, Backdrop, MarkKey, Shapes, Style, WayKey}}

-- the colours
abbrev pub style : List ℕ
style =
    codes "<style type=\"text/css\">text{font-family:sans-serif;font-size:9px}"
    ++ codes ".top{font-size:15px;font-weight:bold}.note,.time,.role{fill:#6b7280}.note{font-size:11px}"
    ++ codes ".name{font-size:13px;font-weight:bold;text-anchor:end}.role{text-anchor:end}"
    ++ codes ".key{font-size:10px;fill:#374151}.ground{stroke-width:38}.synchronised{stroke:#ffffff}"
    ++ codes ".joining{stroke:#fff3c4}.integrating{stroke:#fdc48e}.off{stroke:#dcdcdc}"
    ++ codes ".broken{stroke:url(#hatch)}.small{stroke-width:10}.rail{stroke:#c9ced6}.tick{stroke:#e3e7ee}"
    ++ codes ".wait{stroke-width:6}.way{fill:none}.frame{stroke:#e5e7eb;stroke-width:8}"
    ++ codes ".clock{stroke:#15803d;stroke-width:8}.window{fill:none;stroke:#d97706;stroke-dasharray:3 2}"
    ++ codes ".came{stroke-dasharray:none;stroke-width:2}.gone{stroke-dasharray:4 3}"
    ++ codes ".way.control{stroke:#1f5fbf;marker-end:url(#to-control)}"
    ++ codes ".way.summary{stroke:#0a8a83;marker-end:url(#to-summary)}"
    ++ codes ".way.stream{stroke:#d97706;marker-end:url(#to-stream)}"
    ++ codes ".way.forged{stroke:#c81e1e;marker-end:url(#to-forged)}.wait.control{stroke:#b5cbec}"
    ++ codes ".wait.summary{stroke:#a9d8d5}.wait.stream{stroke:#f3d3a8}.wait.forged{stroke:#efb0b0}"
    ++ codes ".label{fill:#374151}.label.event{fill:#7c3aed}.label.compressed{fill:#0a8a83}"
    ++ codes ".label.corrected,.label.state{fill:#15803d}.label.stream,.label.delivered{fill:#b45309}"
    ++ codes ".label.delivered{font-weight:bold}.label.outside{fill:#92400e}.label.untaken{fill:#6b7280}"
    ++ codes ".label.dropped,.label.lost{fill:#c81e1e}g:target{filter:drop-shadow(0 0 4px #f59e0b)}</style>\n"

-- the heads of arrows, and the ground of what is broken
abbrev pub arrows : List ℕ
arrows =
    codes "<defs><pattern id=\"hatch\" width=\"8\" height=\"8\" patternUnits=\"userSpaceOnUse\">"
    ++ codes "<rect width=\"8\" height=\"8\" fill=\"#dcdcdc\"/><path d=\"M0 8 L8 0\" stroke=\"#9ca3af\"/>"
    ++ codes "</pattern><marker id=\"to-control\" viewBox=\"0 0 8 8\" refX=\"8\" refY=\"4\" markerWidth=\"8\" "
    ++ codes "markerHeight=\"8\" orient=\"auto\"><path d=\"M0 0 L8 4 L0 8 z\" fill=\"#1f5fbf\"/></marker>"
    ++ codes "<marker id=\"to-summary\" viewBox=\"0 0 8 8\" refX=\"8\" refY=\"4\" markerWidth=\"8\" "
    ++ codes "markerHeight=\"8\" orient=\"auto\"><path d=\"M0 0 L8 4 L0 8 z\" fill=\"#0a8a83\"/></marker>"
    ++ codes "<marker id=\"to-stream\" viewBox=\"0 0 8 8\" refX=\"8\" refY=\"4\" markerWidth=\"8\" "
    ++ codes "markerHeight=\"8\" orient=\"auto\"><path d=\"M0 0 L8 4 L0 8 z\" fill=\"#d97706\"/></marker>"
    ++ codes "<marker id=\"to-forged\" viewBox=\"0 0 8 8\" refX=\"8\" refY=\"4\" markerWidth=\"8\" "
    ++ codes "markerHeight=\"8\" orient=\"auto\"><path d=\"M0 0 L8 4 L0 8 z\" fill=\"#c81e1e\"/></marker>"
    ++ codes "</defs>\n"

-- the signs
abbrev pub shapes : List ℕ
shapes =
    codes "<defs><circle id=\"sent\" r=\"4\" fill=\"#1f5fbf\"/><circle id=\"dot\" r=\"1\" fill=\"#6b7280\"/>"
    ++ codes "<circle id=\"ttsent\" r=\"3\" fill=\"#d97706\"/>"
    ++ codes "<path id=\"joined\" d=\"M0 -9 V9\" stroke=\"#1f5fbf\" stroke-width=\"2\"/>"
    ++ codes "<path id=\"within\" d=\"M0 -9 V9\" stroke=\"#0a8a83\" stroke-width=\"2\"/>"
    ++ codes "<path id=\"outside\" d=\"M0 -9 V9\" stroke=\"#92400e\" stroke-width=\"2\"/>"
    ++ codes "<path id=\"ignored\" d=\"M0 -9 V9\" stroke=\"#6b7280\" stroke-width=\"2\"/>"
    ++ codes "<path id=\"integrates\" d=\"M0 -9 V9\" stroke=\"#15803d\" stroke-width=\"2\"/>"
    ++ codes "<path id=\"compressed\" d=\"M0 -7 L7 0 L0 7 L-7 0 z\" fill=\"#0a8a83\"/>"
    ++ codes "<path id=\"corrected\" d=\"M0 -6 L5 5 L-5 5 z\" fill=\"#15803d\"/>"
    ++ codes "<path id=\"state\" d=\"M0 -17 V17\" stroke=\"#15803d\" stroke-width=\"4\"/><path id=\"lost\" "
    ++ codes "d=\"M0 0 L6 10 M2 13 L10 7\" stroke=\"#c81e1e\" stroke-width=\"2\" fill=\"none\"/>"
    ++ codes "<circle id=\"accepted\" r=\"4\" fill=\"#ffffff\" stroke=\"#d97706\" stroke-width=\"2\"/>"
    ++ codes "<circle id=\"delivered\" r=\"5\" fill=\"#d97706\"/>"
    ++ codes "<circle id=\"second\" r=\"2.5\" fill=\"#9ca3af\"/>"
    ++ codes "<path id=\"untaken\" d=\"M-4 -4 L4 4 M-4 4 L4 -4\" stroke=\"#9ca3af\" stroke-width=\"2\"/>"
    ++ codes "<path id=\"dropped\" d=\"M-4 -4 L4 4 M-4 4 L4 -4\" stroke=\"#c81e1e\" stroke-width=\"2\"/>"
    ++ codes "<path id=\"event\" d=\"M0 0 V12\" stroke=\"#7c3aed\" stroke-width=\"2\"/></defs>\n"

-- the background
abbrev pub backdrop : List ℕ
backdrop = codes "<rect width=\"100%\" height=\"100%\" fill=\"#f6f7f9\"/>\n"

-- what the signs mean
abbrev pub mark_key : List ℕ
mark_key =
    codes "<g><g transform=\"translate(20 62)\"><use xlink:href=\"#sent\"/>"
    ++ codes "<text class=\"key\" x=\"10\" y=\"4\">sent</text></g><g transform=\"translate(72 62)\">"
    ++ codes "<use xlink:href=\"#joined\"/><text class=\"key\" x=\"10\" y=\"4\">permanent</text></g>"
    ++ codes "<g transform=\"translate(160 62)\"><use xlink:href=\"#compressed\"/>"
    ++ codes "<text class=\"key\" x=\"10\" y=\"4\">compressed</text></g><g transform=\"translate(246 62)\">"
    ++ codes "<use xlink:href=\"#corrected\"/><text class=\"key\" x=\"10\" y=\"4\">corrected</text></g>"
    ++ codes "<g transform=\"translate(324 62)\"><use xlink:href=\"#ttsent\"/>"
    ++ codes "<text class=\"key\" x=\"10\" y=\"4\">dispatched</text></g><g transform=\"translate(404 62)\">"
    ++ codes "<use xlink:href=\"#accepted\"/><text class=\"key\" x=\"10\" y=\"4\">accepted</text></g>"
    ++ codes "<g transform=\"translate(480 62)\"><use xlink:href=\"#delivered\"/>"
    ++ codes "<text class=\"key\" x=\"10\" y=\"4\">delivered</text></g><g transform=\"translate(556 62)\">"
    ++ codes "<use xlink:href=\"#second\"/><text class=\"key\" x=\"10\" y=\"4\">second copy</text></g>"
    ++ codes "<g transform=\"translate(644 62)\"><use xlink:href=\"#untaken\"/>"
    ++ codes "<text class=\"key\" x=\"10\" y=\"4\">not taken</text></g><g transform=\"translate(718 62)\">"
    ++ codes "<use xlink:href=\"#dropped\"/><text class=\"key\" x=\"10\" y=\"4\">refused</text></g>"
    ++ codes "<g transform=\"translate(783 57)\"><use xlink:href=\"#lost\"/>"
    ++ codes "<text class=\"key\" x=\"14\" y=\"9\">lost</text></g><g transform=\"translate(848 62)\">"
    ++ codes "<g class=\"window\"><path d=\"M-12 -8 h24 v16 h-24 z\"/><path class=\"came\" d=\"M0 -8 v16\"/></g>"
    ++ codes "<text class=\"key\" x=\"18\" y=\"4\">window</text></g></g>\n"

-- what the arrows and the grounds mean
abbrev pub way_key : List ℕ
way_key =
    codes "<g><g transform=\"translate(36 82)\"><path class=\"way control\" d=\"M-24 0 H-2\"/>"
    ++ codes "<text class=\"key\" x=\"4\" y=\"4\">control frame</text></g><g transform=\"translate(142 82)\">"
    ++ codes "<path class=\"way summary\" d=\"M-24 0 H-2\"/><text class=\"key\" x=\"4\" y=\"4\">"
    ++ codes "compressed frame</text></g><g transform=\"translate(272 82)\">"
    ++ codes "<path class=\"way stream\" d=\"M-24 0 H-2\"/><text class=\"key\" x=\"4\" y=\"4\">"
    ++ codes "scheduled frame</text></g><g transform=\"translate(390 82)\">"
    ++ codes "<path class=\"way forged\" d=\"M-24 0 H-2\"/><text class=\"key\" x=\"4\" y=\"4\">forged</text></g>"
    ++ codes "<g transform=\"translate(462 82)\"><path class=\"wait control\" d=\"M-24 0 H-2\"/>"
    ++ codes "<text class=\"key\" x=\"4\" y=\"4\">waits</text></g><g transform=\"translate(536 82)\">"
    ++ codes "<path class=\"ground small joining\" d=\"M-24 0 H-2\"/><text class=\"key\" x=\"4\" y=\"4\">"
    ++ codes "joining</text></g><g transform=\"translate(614 82)\">"
    ++ codes "<path class=\"ground small integrating\" d=\"M-24 0 H-2\"/><text class=\"key\" x=\"4\" y=\"4\">"
    ++ codes "integrating</text></g><g transform=\"translate(708 82)\">"
    ++ codes "<path class=\"ground small off\" d=\"M-24 0 H-2\"/><text class=\"key\" x=\"4\" y=\"4\">off</text>"
    ++ codes "</g><g transform=\"translate(762 82)\"><path class=\"ground small broken\" d=\"M-24 0 H-2\"/>"
    ++ codes "<text class=\"key\" x=\"4\" y=\"4\">broken</text></g></g>\n"

-- the line of a sign
unfoldable pub sign_line : Sign → List ℕ
sign_line Style = style
sign_line Arrows = arrows
sign_line Shapes = shapes
sign_line Backdrop = backdrop
sign_line MarkKey = mark_key
sign_line WayKey = way_key

-- the last line
abbrev pub close_line : List ℕ
close_line = codes "</svg>\n"
