-- The words of records.
use Rattle.std.specs.{Int.{to_be_bytes, w32}, Prelude.{◌∷◌, List, [], codes, decimal, ℕ}}
use Rattle.{hex.specs.Hex.encode_lower, run_law.specs.declared.judgement.{Judgement.Judgement, Reason.Reason, Why.Why}}
use Rattle.sync_state.specs.declared.state.State.{State, TheVariants.{Integrating, Joining, Off, Synchronised}}
use Rattle.{trace_text.specs.Steps.Words, tte_units.specs.declared.frames.members.Members.Members}
use Rattle.run_law.specs.declared.judgement.Judgement.TheVariants as judgements
use Rattle.run_law.specs.declared.judgement.Reason.TheVariants as reasons
use Rattle.run_law.specs.declared.judgement.Why.TheVariants as whys

-- a set of masters: its number, in eight hexadecimal digits
abbrev pub members_text : Members → List ℕ
members_text members = encode_lower (to_be_bytes w32 members.0)

-- the word of a state
abbrev pub state_text : State → List ℕ
state_text Off = codes "off"
state_text Integrating = codes "integrating"
state_text Joining = codes "joining"
state_text Synchronised = codes "synchronised"

-- the word for how a device judges a protocol control frame
abbrev pub judgement_text : Judgement → List ℕ
judgement_text judgements.Opened = codes "opened"
judgement_text judgements.Joined = codes "joined"
judgement_text judgements.Repeat = codes "repeat"
judgement_text judgements.Within = codes "within"
judgement_text judgements.Outside = codes "outside"
judgement_text judgements.Integrates = codes "integrates"
judgement_text judgements.Ignored = codes "ignored"

-- the word for why a device changes its state
abbrev pub why_text : Why → List ℕ
why_text whys.On = codes "on"
why_text whys.Frame = codes "frame"
why_text whys.Correction = codes "correction"
why_text whys.SyncClique = codes "sync_clique"
why_text whys.AsyncClique = codes "async_clique"

-- the words for why a frame is dropped; an octet that names no type has two hexadecimal digits
abbrev pub reason_words : Reason → Words
reason_words reasons.Off = codes "off" ∷ []
reason_words reasons.ColdStart = codes "coldstart" ∷ []
reason_words reasons.Domain = codes "domain" ∷ []
reason_words reasons.Member = codes "member" ∷ []
reason_words reasons.Old = codes "old" ∷ []
reason_words reasons.Gate = codes "gate" ∷ []
reason_words reasons.Cycle = codes "cycle" ∷ []
reason_words reasons.Unsynchronised = codes "unsynchronised" ∷ []
reason_words reasons.Unknown = codes "unknown" ∷ []
reason_words reasons.Length = codes "length" ∷ []
reason_words reasons.Early = codes "early" ∷ []
reason_words reasons.Late = codes "late" ∷ []
reason_words reasons.Repeat = codes "repeat" ∷ []
reason_words (reasons.RefusedLength length) = codes "refused" ∷ codes "length" ∷ decimal length ∷ []
reason_words reasons.RefusedEtherType = codes "refused" ∷ codes "ethertype" ∷ []
reason_words (reasons.RefusedReserved offset) = codes "refused" ∷ codes "reserved" ∷ decimal offset ∷ []
reason_words (reasons.RefusedKind octet) = codes "refused" ∷ codes "type" ∷ encode_lower (octet ∷ []) ∷ []
