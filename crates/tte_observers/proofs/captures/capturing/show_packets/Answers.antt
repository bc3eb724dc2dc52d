use Rattle.std.{proofs.Common.{◌+◌, ◌∙◌, ◌≡◌, ◌≤◌, Err, List, Ok, ap, arith, refl, subst, sym, ℕ}, specs.Prelude.{IfSome, None, Option, Result, Some}}
use Rattle.{std.specs.Io.KnownBytes.Appends, tte_forms.specs.Putting.shown_by, tte_io.specs.Told.AppendsFront}
use Rattle.{tte_forms.specs.Answering.{Gives, line_answer}, tte_observers.specs.captures.pcap.{Layout.{IsPacket, stamp_length}, Reading.packet_at}}
use Rattle.{tte_forms.specs.declared.status.Status.TheVariants.CaptureRefused, tte_observers.specs.declared.captures.pcap.capture.Packet.Packet}
use Rattle.tte_observers.proofs.captures_lemmas.Packets.{IsShown-all, IsShown-fails, IsShown-more, IsShown-none}
use Rattle.tte_observers.proofs.captures_lemmas.Packets.{IsShown-refused}
use Rattle.tte_observers.specs.{captures.CaptureLine.{packet_line, packet_refusal_line}, declared.captures.pcap.refusal.CaptureRefusal.CaptureRefusal}
use Rattle.tte_observers.proofs.captures.capturing.show_packets.Goals as goal

pub packets-init : goal.packets-init
packets-init g c = record {
  shown = IsShown-none c.args.head c.args.file.now (shown_by g.K.Sink c.args.out.now);
  within = c.requires.whole;
  numbered = omega arith;
  quiet = refl;
}

pub returns-in-Err-put-clause-gives : goal.returns-in-Err-put-clause-gives
returns-in-Err-put-clause-gives g c =
    let file = c.args.file.now in
    let shown = shown_by g.K.Sink in
    let p : Packet = c.in-Ok-Some.packet in
    let answer : Option Packet → Result (Option Packet) CaptureRefusal = λ x. Ok x in
    let is : packet_at c.args.head file c.packets.at ≡ Ok (Some p) = sym c.next_packet.ensures.exact ∙ c.in-Ok-Some.is ∙ ap answer c.in-Ok-Some.field-0-is in
    let line : c.as_slice.result.now ≡ packet_line c.packets.number file p = c.as_slice.ensures
    ∙ c.make_packet_line.ensures in
    let front = subst (λ bytes. AppendsFront (g.K.Sink.written c.packets.out) (g.K.Sink.written c.put.new.self) bytes)
    line c.in-Err-put.ensures.front in
    IsShown-fails c.packets.number c.args.head file c.packets.at p (shown c.args.out.now) (shown c.packets.out)
    (shown c.put.new.self)
    c.packets.invariant.shown c.packets.invariant.within is front c.put.ensures.counted

pub packets-preserved : goal.packets-preserved
packets-preserved g c =
    let file = c.args.file.now in
    let shown = shown_by g.K.Sink in
    let p : Packet = c.in-Ok-Some.packet in
    let answer : Option Packet → Result (Option Packet) CaptureRefusal = λ x. Ok x in
    let is : packet_at c.args.head file c.packets.at ≡ Ok (Some p) = sym c.next_packet.ensures.exact ∙ c.in-Ok-Some.is ∙ ap answer c.in-Ok-Some.field-0-is in
    let stands : IsPacket c.args.head file c.packets.at p =
    subst (λ (o : Option Packet). IfSome o (IsPacket c.args.head file c.packets.at)) c.in-Ok-Some.field-0-is
    c.in-Ok-Some.ensures.stands in
    let further : c.packets.at + stamp_length ≤ p.to = omega (arith, stands.from, stands.to) in
    let line : c.as_slice.result.now ≡ packet_line c.packets.number file p = c.as_slice.ensures
    ∙ c.make_packet_line.ensures in
    let whole = subst (λ (bytes : List ℕ). Appends (g.K.Sink.written c.packets.out) (g.K.Sink.written c.put.new.self)
    bytes) line c.in-Ok.ensures.all in
    record {
      shown = IsShown-more c.packets.number c.args.head file c.packets.at p (shown c.args.out.now)
          (shown c.packets.out) (shown c.put.new.self)
          c.packets.invariant.shown c.packets.invariant.within further is whole c.put.ensures.counted;
      within = stands.whole;
      numbered = omega (arith, further, c.packets.invariant.numbered);
      quiet = c.in-Ok.ensures.ok_unchanged ∙ c.packets.invariant.quiet;
    }

pub returns-in-Ok-None-clause-gives : goal.returns-in-Ok-None-clause-gives
returns-in-Ok-None-clause-gives g c =
    let file = c.args.file.now in
    let shown = shown_by g.K.Sink in
    let answer : Option Packet → Result (Option Packet) CaptureRefusal = λ x. Ok x in
    let is : packet_at c.args.head file c.packets.at ≡ Ok None = sym c.next_packet.ensures.exact ∙ c.in-Ok-None.is ∙ ap answer c.in-Ok-None.field-0-is in
    IsShown-all c.packets.number c.args.head file c.packets.at c.end_with.result (shown c.args.out.now)
    (shown c.packets.out) (shown c.end_with.new.out)
    c.packets.invariant.shown c.packets.invariant.within is c.end_with.ensures.ends

pub returns-in-Err-clause-gives : goal.returns-in-Err-clause-gives
returns-in-Err-clause-gives g c =
    let file = c.args.file.now in
    let shown = shown_by g.K.Sink in
    let e : CaptureRefusal = c.in-Err.refusal in
    let is : packet_at c.args.head file c.packets.at ≡ Err e = sym c.next_packet.ensures.exact ∙ c.in-Err.is in
    let line : c.as_slice-in-Err.result.now ≡ packet_refusal_line c.packets.number e = c.as_slice-in-Err.ensures
    ∙ c.make_packet_refusal_line.ensures in
    let gives = subst (λ bytes. Gives (line_answer CaptureRefused bytes) c.put_last.result (shown c.packets.out)
    (shown c.put_last.new.out)) line
    c.put_last.ensures.gives in
    IsShown-refused c.packets.number c.args.head file c.packets.at e c.put_last.result (shown c.args.out.now)
    c.packets.invariant.shown c.packets.invariant.within is gives
