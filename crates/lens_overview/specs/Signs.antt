-- The lines that each picture has.
use Rattle.std.specs.Prelude.{◌++◌, List, codes, ℕ}
use Rattle.lens_overview.specs.declared.signs.OverviewSign.{OverviewSign, TheVariants.{Backdrop, Close, FrameKey, StateKey, Style}}

-- the colours
abbrev pub style : List ℕ
style =
    codes "<style type=\"text/css\">text{font-family:sans-serif;font-size:9px;fill:#374151}"
    ++ codes ".top{font-size:15px;font-weight:bold}.note,.time,.title{fill:#6b7280}.note{font-size:11px}"
    ++ codes ".key{font-size:10px}"
    ++ codes ".name{text-anchor:end}.name.lane,.name.flow{font-size:10px}.name.passage{font-size:8px}"
    ++ codes "path.tick{stroke:#e5e7eb}path.bar{fill:#0a8a83}path.lane{stroke-width:10}"
    ++ codes "path.passage{stroke-width:5}"
    ++ codes "path.flow{stroke-width:9}path.one{stroke-width:3}path.two{stroke-width:5}"
    ++ codes "path.three{stroke-width:7}"
    ++ codes "path.many{stroke-width:9}path.both{stroke:#8fcf9f}path.alone_a{stroke:#3b82f6}"
    ++ codes "path.alone_b{stroke:#8b5cf6}"
    ++ codes "path.missing{stroke:#dc2626}path.event{stroke:#7c3aed}path.refused{stroke:#c81e1e}"
    ++ codes "path.spared{stroke:#9ca3af}"
    ++ codes "path.synchronised{stroke:#bfe3c8}path.joining{stroke:#ffe08a}path.integrating{stroke:#f9a65a}"
    ++ codes "path.off{stroke:#cfcfcf}path.broken{stroke:#4b5563}path.cut{stroke:#a16207}"
    ++ codes "path.rail{stroke:#e5e7eb;stroke-width:1}path.rail.title{stroke:none}</style>\n"

-- the background
abbrev pub backdrop : List ℕ
backdrop = codes "<rect width=\"100%\" height=\"100%\" fill=\"#fafafa\"/>\n"

-- what the colours of frames mean
abbrev pub frame_key : List ℕ
frame_key =
    codes "<g><g transform=\"translate(200 50)\"><path class=\"flow both\" d=\"M0 0 H12\"/>"
    ++ codes "<text class=\"key\" x=\"17\" y=\"4\">by both channels</text></g>"
    ++ codes "<g transform=\"translate(320 50)\">"
    ++ codes "<path class=\"flow alone_a\" d=\"M0 0 H12\"/><text class=\"key\" x=\"17\" y=\"4\">"
    ++ codes "by a alone</text></g>"
    ++ codes "<g transform=\"translate(410 50)\"><path class=\"flow alone_b\" d=\"M0 0 H12\"/>"
    ++ codes "<text class=\"key\" x=\"17\" y=\"4\">by b alone</text></g><g transform=\"translate(500 50)\">"
    ++ codes "<path class=\"flow missing\" d=\"M0 0 H12\"/><text class=\"key\" x=\"17\" y=\"4\">"
    ++ codes "owed and by none</text></g>"
    ++ codes "<g transform=\"translate(626 50)\"><path class=\"refused many\" d=\"M0 0 H12\"/>"
    ++ codes "<text class=\"key\" x=\"17\" y=\"4\">lost or refused</text></g>"
    ++ codes "<g transform=\"translate(728 50)\">"
    ++ codes "<path class=\"spared many\" d=\"M0 0 H12\"/><text class=\"key\" x=\"17\" y=\"4\">"
    ++ codes "second copy or not taken</text>"
    ++ codes "</g></g>\n"

-- what the other colours mean
abbrev pub state_key : List ℕ
state_key =
    codes "<g><g transform=\"translate(200 66)\"><path class=\"lane synchronised\" d=\"M0 0 H12\"/>"
    ++ codes "<text class=\"key\" x=\"17\" y=\"4\">synchronised</text></g><g transform=\"translate(320 66)\">"
    ++ codes "<path class=\"lane joining\" d=\"M0 0 H12\"/><text class=\"key\" x=\"17\" y=\"4\">joining</text>"
    ++ codes "</g>"
    ++ codes "<g transform=\"translate(410 66)\"><path class=\"lane integrating\" d=\"M0 0 H12\"/>"
    ++ codes "<text class=\"key\" x=\"17\" y=\"4\">integrating</text></g><g transform=\"translate(500 66)\">"
    ++ codes "<path class=\"lane off\" d=\"M0 0 H12\"/><text class=\"key\" x=\"17\" y=\"4\">off</text></g>"
    ++ codes "<g transform=\"translate(562 66)\"><path class=\"lane broken\" d=\"M0 0 H12\"/>"
    ++ codes "<text class=\"key\" x=\"17\" y=\"4\">broken</text></g><g transform=\"translate(626 66)\">"
    ++ codes "<path class=\"passage cut\" d=\"M0 0 H12\"/><text class=\"key\" x=\"17\" y=\"4\">cut</text></g>"
    ++ codes "<g transform=\"translate(728 66)\"><path class=\"event many\" d=\"M0 0 H12\"/>"
    ++ codes "<text class=\"key\" x=\"17\" y=\"4\">events</text></g></g>\n"

-- the last line
abbrev pub close_line : List ℕ
close_line = codes "</svg>\n"

-- the line of a sign
unfoldable pub sign_line : OverviewSign → List ℕ
sign_line Style = style
sign_line Backdrop = backdrop
sign_line FrameKey = frame_key
sign_line StateKey = state_key
sign_line Close = close_line
