use Rattle.lens.proofs.draw_lemmas.{Keeping.own_more, Marking.{clocked_more, glanced_more}}
use Rattle.lens.{specs.draw.Keeping.{AreOwn, own_flag}}
use Rattle.{lens_svg.specs.{Clocks.clocks_with, declared.glance.Glance.Glance}, std.proofs.Common.{◌++◌, ◌∙◌, ◌∷◌, ◌≡◌, Bool, [], ap, subst, sym}}
use Rattle.lens.proofs.draw.flags.GlancesRecordTaker.take.Goals as goal

pub returns : goal.returns
returns c octets notes before begun next so =
    let network = c.args.network.now in
    let note = c.args.note.now in
    let was = c.args.self.now in
    let flags = was.flags.items in
    let flag : c.own_flag-flag.result ≡ own_flag network begun.subject flags note.body =
    c.own_flag-flag.ensures ∙ ap (λ fs. own_flag network was.subject fs note.body) c.as_slice.ensures.value
    ∙ ap (λ s. own_flag network s flags note.body) so.subject_is in
    let more : c.push_flag.new.flags.items ≡ flags ++ own_flag network begun.subject flags note.body ∷ [] =
    c.in_ok-push_flag.ensures ∙ ap (λ (b : Bool). flags ++ b ∷ []) flag in
    record {
      subject_is = so.subject_is;
      span_is = so.span_is;
      own = subst (λ fs. AreOwn network begun.subject notes (before ++ note ∷ []) fs) (sym more)
          (own_more c.requires.named next so.own);
      glances = glanced_more network before note so.glances
          (c.in_ok-push_glance.ensures ∙ ap (λ (x : Glance). was.glances.items ++ x ∷ []) c.of-glance.ensures);
      clocks = clocked_more begun.span before note so.clocks
          (c.in_ok-take.ensures ∙ ap (λ s. clocks_with s was.clocks note) so.span_is);
    }
