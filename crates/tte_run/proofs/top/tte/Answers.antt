use Rattle.{std.proofs.Common.{◌≡◌, ◌⊎◌, List, None, Option, Some, inl, inr, rules, subst, ℕ}, tte_run.specs.SecondFiles.{FailsToRead, FormStops, second_of}}
use Rattle.{tte_forms.{proofs.Facts.no_usage, specs.Forms.form_of}, tte_reports.specs.Answer.IsAuditStatus, tte_traces.specs.Answer.IsRunStatus}
use Rattle.{tte_forms.specs.{Faults.HasCause, frames.Answer.{IsShowStatus, show_answer}}, tte_observers.specs.captures.Answer.{IsCaptureStatus, capture_answer}}
use Rattle.{tte_forms.specs.{Putting.{Shown, shown_by}, declared.{form.Form.Form, status.Status.Status}}, tte_observers.specs.votes.Answer.IsVoteStatus}
use Rattle.tte_forms.specs.{declared.form.Form.TheVariants.{Audit, Capture, Check, Run, Show, Stamp, Storm, Vote, Wire}, networks.Checking.IsCheckStatus}
use Rattle.tte_observers.specs.{captures.wires.Answer.IsWireStatus, stamps.Answer.IsStampStatus}
use Rattle.tte_run.proofs.Answers.{as_one, whole_as, words_as}
use Rattle.tte_run.proofs.top.tte.Goals as goal

faults_as : {f form : Option Form} → f ≡ form → (first second left : Option (List ℕ)) (status : Status) (old new : Shown) (A B U R P : Type 0)
    → HasCause status (FailsToRead (second_of f) A B U R (FormStops f first second left old new)) P
    → HasCause status (FailsToRead (second_of form) A B U R (FormStops form first second left old new)) P
faults_as {f} {form} same first second left status old new A B U R P h =
    subst (λ (x : Option Form). HasCause status (FailsToRead (second_of x) A B U R (FormStops x first second left old new)) P) same h

-- a read that failed raised one of the counts
read_rose : {F U V T W : Type 0} → (F × U × V) ⊎ (T × W) → F ⊎ T
read_rose (inl h) = inl h.0
read_rose (inr h) = inr h.0

pub returns-in-Some-Show-clause-general : goal.returns-in-Some-Show-clause-general
returns-in-Some-Show-clause-general g c =
    let form : Some Show ≡ form_of c.args.words.now = search rules in
    words_as form _ _ _ _ _ (no_usage IsShowStatus _ (λ none. none) c.show.ensures.statuses, as_one show_answer _ _ _ _ c.show.ensures.general)

pub returns-in-Some-Show-clause-complete : goal.returns-in-Some-Show-clause-complete
returns-in-Some-Show-clause-complete g c =
    let form : Some Show ≡ form_of c.args.words.now = search rules in
    let shown = shown_by g.K.Sink in
    whole_as form _ _ _ (shown c.args.out.now) (shown c.show.new.out) (as_one show_answer _ _ _ _ c.show.ensures.general) (λ e.
    inl (c.show.ensures.faults.read e).0) c.show.ensures.faults.write

pub returns-in-Some-Check-clause-general : goal.returns-in-Some-Check-clause-general
returns-in-Some-Check-clause-general g c =
    let form : Some Check ≡ form_of c.args.words.now = search rules in
    words_as form _ _ _ _ _ (no_usage IsCheckStatus _ (λ none. none) c.check_network.ensures.statuses, c.check_network.ensures.general)

pub returns-in-Some-Check-clause-complete : goal.returns-in-Some-Check-clause-complete
returns-in-Some-Check-clause-complete g c =
    let form : Some Check ≡ form_of c.args.words.now = search rules in
    let shown = shown_by g.K.Sink in
    whole_as form _ _ _ (shown c.args.out.now) (shown c.check_network.new.out) c.check_network.ensures.general (λ e.
    inl (c.check_network.ensures.faults.read e).0) c.check_network.ensures.faults.write

pub returns-in-Some-Run-clause-general : goal.returns-in-Some-Run-clause-general
returns-in-Some-Run-clause-general g c =
    let form : Some Run ≡ form_of c.args.words.now = search rules in
    words_as form _ _ _ _ _ (no_usage IsRunStatus _ (λ none. none) c.run_trace.ensures.statuses, c.run_trace.ensures.general)

pub returns-in-Some-Run-clause-complete : goal.returns-in-Some-Run-clause-complete
returns-in-Some-Run-clause-complete g c =
    let form : Some Run ≡ form_of c.args.words.now = search rules in
    let shown = shown_by g.K.Sink in
    whole_as form _ _ _ (shown c.args.out.now) (shown c.run_trace.new.out) c.run_trace.ensures.general (λ e. read_rose (c.run_trace.ensures.faults.read e))
    c.run_trace.ensures.faults.write

pub returns-in-None-clause-general : goal.returns-in-None-clause-general
returns-in-None-clause-general g c =
    let form : None ≡ form_of c.args.words.now = search rules in words_as form _ _ _ _ _ c.put_usage.ensures.gives

pub returns-in-Some-Storm-clause-general : goal.returns-in-Some-Storm-clause-general
returns-in-Some-Storm-clause-general g c =
    let form : Some (Storm c.in-Some-Storm.seed c.in-Some-Storm.cycles) ≡ form_of c.args.words.now = search rules in
    words_as form _ _ _ _ _ (no_usage IsCheckStatus _ (λ none. none) c.storm_run.ensures.statuses, c.storm_run.ensures.general)

pub returns-in-Some-Storm-clause-complete : goal.returns-in-Some-Storm-clause-complete
returns-in-Some-Storm-clause-complete g c =
    let form : Some (Storm c.in-Some-Storm.seed c.in-Some-Storm.cycles) ≡ form_of c.args.words.now = search rules in
    let shown = shown_by g.K.Sink in
    whole_as form _ _ _ (shown c.args.out.now) (shown c.storm_run.new.out) c.storm_run.ensures.general (λ e. inl (c.storm_run.ensures.faults.read e).0)
    c.storm_run.ensures.faults.write

pub returns-in-Some-Audit-clause-general : goal.returns-in-Some-Audit-clause-general
returns-in-Some-Audit-clause-general g c =
    let form : Some Audit ≡ form_of c.args.words.now = search rules in
    words_as form _ _ _ _ _ (no_usage IsAuditStatus _ (λ none. none) c.audit_report.ensures.statuses, c.audit_report.ensures.general)

pub returns-in-Some-Audit-clause-complete : goal.returns-in-Some-Audit-clause-complete
returns-in-Some-Audit-clause-complete g c =
    let form : Some Audit ≡ form_of c.args.words.now = search rules in
    let shown = shown_by g.K.Sink in
    whole_as form _ _ _ (shown c.args.out.now) (shown c.audit_report.new.out) c.audit_report.ensures.general (λ e.
    read_rose (c.audit_report.ensures.faults.read e))
    c.audit_report.ensures.faults.write

pub returns-in-Some-Capture-clause-general : goal.returns-in-Some-Capture-clause-general
returns-in-Some-Capture-clause-general g c =
    let form : Some Capture ≡ form_of c.args.words.now = search rules in
    words_as form _ _ _ _ _ (
      no_usage IsCaptureStatus _ (λ none. none) c.capture_file.ensures.statuses,
      as_one capture_answer _ _ _ _ c.capture_file.ensures.general,
    )

pub returns-in-Some-Capture-clause-complete : goal.returns-in-Some-Capture-clause-complete
returns-in-Some-Capture-clause-complete g c =
    let form : Some Capture ≡ form_of c.args.words.now = search rules in
    let shown = shown_by g.K.Sink in
    whole_as form _ _ _ (shown c.args.out.now) (shown c.capture_file.new.out) (as_one capture_answer _ _ _ _ c.capture_file.ensures.general) (λ e.
    inl (c.capture_file.ensures.faults.read e).0)
    c.capture_file.ensures.faults.write

pub returns-in-Some-Stamp-clause-general : goal.returns-in-Some-Stamp-clause-general
returns-in-Some-Stamp-clause-general g c =
    let form : Some (Stamp c.in-Some-Stamp.granule) ≡ form_of c.args.words.now = search rules in
    words_as form _ _ _ _ _ (no_usage IsStampStatus _ (λ none. none) c.stamp_trace.ensures.statuses, c.stamp_trace.ensures.general)

pub returns-in-Some-Stamp-clause-complete : goal.returns-in-Some-Stamp-clause-complete
returns-in-Some-Stamp-clause-complete g c =
    let form : Some (Stamp c.in-Some-Stamp.granule) ≡ form_of c.args.words.now = search rules in
    let shown = shown_by g.K.Sink in
    whole_as form _ _ _ (shown c.args.out.now) (shown c.stamp_trace.new.out) c.stamp_trace.ensures.general (λ e.
    read_rose (c.stamp_trace.ensures.faults.read e))
    c.stamp_trace.ensures.faults.write

pub returns-in-Some-Wire-clause-general : goal.returns-in-Some-Wire-clause-general
returns-in-Some-Wire-clause-general g c =
    let same : Some (Wire c.in-Some-Wire.link c.in-Some-Wire.way) ≡ form_of c.args.words.now = search rules in
    let text = c.text.ensures in
    let form : Some (Wire c.text.result.now c.in-Some-Wire.way) ≡ form_of c.args.words.now = cc in
    words_as form _ _ _ _ _ (no_usage IsWireStatus _ (λ none. none) c.wire_trace.ensures.statuses, c.wire_trace.ensures.general)

pub returns-in-Some-Wire-clause-complete : goal.returns-in-Some-Wire-clause-complete
returns-in-Some-Wire-clause-complete g c =
    let same : Some (Wire c.in-Some-Wire.link c.in-Some-Wire.way) ≡ form_of c.args.words.now = search rules in
    let text = c.text.ensures in
    let form : Some (Wire c.text.result.now c.in-Some-Wire.way) ≡ form_of c.args.words.now = cc in
    let shown = shown_by g.K.Sink in
    whole_as form _ _ _ (shown c.args.out.now) (shown c.wire_trace.new.out) c.wire_trace.ensures.general (λ e. read_rose (c.wire_trace.ensures.faults.read e))
    c.wire_trace.ensures.faults.write

pub returns-in-Some-Wire-clause-faults : goal.returns-in-Some-Wire-clause-faults
returns-in-Some-Wire-clause-faults g c =
    let same : Some (Wire c.in-Some-Wire.link c.in-Some-Wire.way) ≡ form_of c.args.words.now = search rules in
    let text = c.text.ensures in
    let form : Some (Wire c.text.result.now c.in-Some-Wire.way) ≡ form_of c.args.words.now = cc in
    let shown = shown_by g.K.Sink in
    let left = g.B.Source.left in
    faults_as form (g.A.Source.left c.args.first.now) (left c.args.second.now) (left c.wire_trace.new.second) _ (shown c.args.out.now)
    (shown c.wire_trace.new.out) _ _ _ _ _ c.wire_trace.ensures.faults

pub returns-in-Some-Vote-clause-general : goal.returns-in-Some-Vote-clause-general
returns-in-Some-Vote-clause-general g c =
    let same : Some (Vote c.in-Some-Vote.one c.in-Some-Vote.two c.in-Some-Vote.three) ≡ form_of c.args.words.now = search rules in
    let one = c.text-in-Some-Vote.ensures in
    let two = c.text-in-Some-Vote-2.ensures in
    let three = c.text-in-Some-Vote-3.ensures in
    let form : Some (Vote c.text-in-Some-Vote.result.now c.text-in-Some-Vote-2.result.now c.text-in-Some-Vote-3.result.now) ≡ form_of c.args.words.now = cc in
    words_as form _ _ _ _ _ (no_usage IsVoteStatus _ (λ none. none) c.vote_trace.ensures.statuses, c.vote_trace.ensures.general)

pub returns-in-Some-Vote-clause-complete : goal.returns-in-Some-Vote-clause-complete
returns-in-Some-Vote-clause-complete g c =
    let same : Some (Vote c.in-Some-Vote.one c.in-Some-Vote.two c.in-Some-Vote.three) ≡ form_of c.args.words.now = search rules in
    let one = c.text-in-Some-Vote.ensures in
    let two = c.text-in-Some-Vote-2.ensures in
    let three = c.text-in-Some-Vote-3.ensures in
    let form : Some (Vote c.text-in-Some-Vote.result.now c.text-in-Some-Vote-2.result.now c.text-in-Some-Vote-3.result.now) ≡ form_of c.args.words.now = cc in
    let shown = shown_by g.K.Sink in
    whole_as form _ _ _ (shown c.args.out.now) (shown c.vote_trace.new.out) c.vote_trace.ensures.general (λ e. read_rose (c.vote_trace.ensures.faults.read e))
    c.vote_trace.ensures.faults.write
