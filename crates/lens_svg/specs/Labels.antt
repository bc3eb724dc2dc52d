-- The label of a record's mark.
use Rattle.std.specs.Prelude.{ℕ, ◌++◌, List, [], codes, decimal}
use Rattle.{lens_svg.specs.Numbers.nanos_text, trace_text.specs.EventWords.way_text}
use Rattle.net_plan.specs.{Belonging.{device_name, link_name, vl_name}, declared.network.Network.Network}
use Rattle.net_plan.specs.declared.event.What.{TheVariants.{Break, Cut, End, Heal, Hold, On, Rate, Send, Wire}, What}
use Rattle.{net_plan.specs.declared.{ids.LinkId.LinkId, tables.Way.Way}, run_law.specs.declared.note.NoteBody.NoteBody}
use Rattle.{net_plan.specs.declared.ids.VlId.VlId, run_law.specs.declared.judgement.Why.Why}
use Rattle.report_text.specs.NoteWords.{judgement_text, members_text, state_text, why_text}
use Rattle.run_law.specs.declared.{judgement.Judgement.Judgement, note.NoteBody.TheVariants.{Accepted, Permanent, State, TtSent}}
use Rattle.{run_law.specs.declared.judgement.Reason.Reason, tte_units.specs.declared.frames.members.Members.Members}
use Rattle.run_law.specs.declared.note.NoteBody.TheVariants.{Compressed, Corrected, Delivered, Dropped, Event, Lost}
use Rattle.run_law.specs.declared.judgement.Judgement.TheVariants as judgements
use Rattle.run_law.specs.declared.judgement.Reason.TheVariants as reasons
use Rattle.sync_state.specs.declared.state.State as states

-- a way of a link behind a word
abbrev pub way_label : Network → List ℕ → LinkId → Way → List ℕ
way_label network word link way = word ++ link_name network link ++ codes " " ++ way_text way

-- what befalls, and where
abbrev pub strike_label : Network → What → List ℕ
strike_label network (Rate device rate) = codes "rate " ++ device_name network device
strike_label network (Wire link way delay) = way_label network (codes "wire ") link way
strike_label network (Hold link way delay) = way_label network (codes "hold ") link way
strike_label network (Cut link way) = way_label network (codes "cut ") link way
strike_label network (Heal link way) = way_label network (codes "heal ") link way
strike_label network (On device) = codes "on " ++ device_name network device
strike_label network (Break device) = codes "break " ++ device_name network device
strike_label network (Send link octets) = codes "send " ++ link_name network link
strike_label network End = codes "end"

-- how a frame is judged, where that is not as it is to be
abbrev pub verdict_label : Judgement → List ℕ
verdict_label judgements.Opened = []
verdict_label judgements.Joined = []
verdict_label judgements.Within = []
verdict_label judgements.Repeat = codes "repeat"
verdict_label judgements.Outside = codes "out"
verdict_label judgements.Integrates = codes "integrates"
verdict_label judgements.Ignored = codes "ignored"

-- why a frame is dropped, where it is not a second copy
abbrev pub reason_label : Reason → List ℕ
reason_label reasons.Off = codes "off"
reason_label reasons.ColdStart = codes "coldstart"
reason_label reasons.Domain = codes "domain"
reason_label reasons.Member = codes "member"
reason_label reasons.Old = codes "old"
reason_label reasons.Gate = codes "gate"
reason_label reasons.Cycle = codes "cycle"
reason_label reasons.Unsynchronised = codes "unsynchronised"
reason_label reasons.Unknown = codes "unknown"
reason_label reasons.Length = codes "length"
reason_label reasons.Early = codes "early"
reason_label reasons.Late = codes "late"
reason_label reasons.Repeat = []
reason_label (reasons.RefusedLength length) = codes "refused"
reason_label reasons.RefusedEtherType = codes "refused"
reason_label (reasons.RefusedReserved offset) = codes "refused"
reason_label (reasons.RefusedKind octet) = codes "refused"

-- the members of a collection, and how it is judged
abbrev pub collection_label : Members → Judgement → List ℕ
collection_label members verdict = members_text members ++ codes " " ++ judgement_text verdict

-- the state from now on, and why
abbrev pub state_label : states.State → Why → List ℕ
state_label state why = state_text state ++ codes " " ++ why_text why

-- a frame's virtual link and its cycle
abbrev pub stream_label : Network → VlId → ℕ → List ℕ
stream_label network vl cycle = vl_name network vl ++ codes " " ++ decimal cycle

-- the label of a record
abbrev pub label_text : Network → NoteBody → List ℕ
label_text network (Event line what) = strike_label network what
label_text network (Permanent device link cause point verdict) = verdict_label verdict
label_text network (Compressed device opened at cycle members verdict) = collection_label members verdict
label_text network (Corrected device cycle by adjustment) = nanos_text by
label_text network (State device state cause why) = state_label state why
label_text network (Lost device link cause) = codes "lost"
label_text network (TtSent device link cause vl cycle) = vl_name network vl
label_text network (Accepted device link cause vl cycle) = vl_name network vl
label_text network (Delivered device link cause vl cycle) = stream_label network vl cycle
label_text network (Dropped device link cause reason) = reason_label reason
label_text network body = []
