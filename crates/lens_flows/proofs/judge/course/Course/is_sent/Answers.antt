use Rattle.std.proofs.{Common.{◌∙◌, arith, inl, refl, sym}, lemmas.Bool.false≢true}
use Rattle.lens_flows.{proofs.judge_lemmas.Judging.{all_rows, one_more, row_off, sender_there, span_short}}
use Rattle.lens_flows.{specs.judge.{Courses.scenario_of, Fates.IsRowSent}}
use Rattle.lens_flows.proofs.judge.course.Course.is_sent.Goals as goal

pub returns-then-is_broken : goal.returns-then-is_broken
returns-then-is_broken c befallen hs known =
    let network = c.args.self.now.network.now in
    let there = sender_there c.requires.fit.range c.requires.flow in (
      λ e. absurd (false≢true e),
      λ sent. absurd (false≢true (sym sent.correct ∙ sym (c.is_broken.ensures network befallen known.remembers there) ∙ c.if-is_broken.true)),
    )

pub rows-init : goal.rows-init
rows-init c befallen hs known k lt =
    row_off (scenario_of c.args.self.now befallen) hs c.args.flow.now c.args.cycle c.args.before c.requires.flow.rows k (inl lt)

pub is_row_sent-requires-clause-row : goal.is_row_sent-requires-clause-row
is_row_sent-requires-clause-row c =
    let all = span_short c.requires.flow.rows in
    let lt = c.rows-test.true in
    omega (arith, all, lt)

pub returns-then-not-is_row_sent : goal.returns-then-not-is_row_sent
returns-then-not-is_row_sent c befallen hs known = (
  λ e. absurd (false≢true e),
  λ sent. absurd (false≢true (sym c.if-not-is_row_sent.true ∙ (c.is_row_sent.ensures befallen hs known).1 (sent.rows c.rows.place))),
)

pub rows-preserved : goal.rows-preserved
rows-preserved c befallen hs known =
    one_more (IsRowSent (scenario_of c.args.self.now befallen) hs c.args.flow.now c.args.cycle c.args.before) c.rows.place
    (c.rows.invariant befallen hs known) ((c.is_row_sent.ensures befallen hs known).0 c.if-not-is_row_sent.false)

pub returns : goal.returns
returns c befallen hs known =
    let network = c.args.self.now.network.now in
    let s = scenario_of c.args.self.now befallen in
    let there = sender_there c.requires.fit.range c.requires.flow in
    let most = c.rows-test.false in (
      λ e. record {
        rows = all_rows s hs c.args.flow.now c.args.cycle c.args.before c.rows.place c.requires.flow.rows (omega (arith, most))
            (c.rows.invariant befallen hs known);
        correct = sym (c.is_broken.ensures network befallen known.remembers there) ∙ c.if-is_broken.false;
      },
      λ sent. refl,
    )
