use Rattle.lens_flows.proofs.counts_lemmas.Counts.{fate_one}
use Rattle.lens_flows.specs.judge.{Courses.scenario_of, Fates.HasFate}
use Rattle.std.proofs.{Common.{◌∙◌, ◌≡◌, inl, inr, rules, subst, sym}, lemmas.Bool.false≢true}
use Rattle.lens_flows.proofs.counts.counting.count_cycle.Goals.{then-eq+then-were_on, else-eq, else-eq-via-then-eq+else-were_on, else-eq-via-else-eq}
use Rattle.lens_flows.specs.declared.judge.fate.Fate.TheVariants as fates
use Rattle.lens_flows.proofs.counts.counting.count_cycle.Goals as goal

pub returns-clause-certain : goal.returns-clause-certain
returns-clause-certain c =
    elim c.if-eq.branch [
      | then-eq+then-were_on w ↦
          let owed : c.fate-fate.result ≡ fates.Owed = search rules in
          inl (
            c.occurs_in.ensures.0 c.if-not-occurs_in.false,
            w.certain-is,
            λ befallen hs known begun. record {
              owed = subst (HasFate (scenario_of c.args.course.now befallen) hs c.args.course.now.until c.args.flow.now c.args.begun.cycle c.args.begun.time)
                  owed (c.fate-fate.ensures befallen hs known begun);
              on = (w.were_on.ensures befallen hs known).0 w.if-were_on.true;
            },
          )
      | else-eq w ↦ inr (
        w.certain-is,
        λ befallen hs known begun certain. elim w.else-eq.branch [
          | else-eq-via-then-eq+else-were_on x ↦ false≢true (sym x.if-were_on.false ∙ (x.were_on.ensures befallen hs known).1 certain.on)
          | else-eq-via-else-eq x ↦
              let other : c.fate-fate.result ≡ fates.Owed → ⊥ = λ same. search rules in
              other (sym (fate_one (scenario_of c.args.course.now befallen) hs c.args.course.now.until
              c.args.begun.cycle
              c.args.begun.time c.requires.flow fates.Owed c.fate-fate.result certain.owed (c.fate-fate.ensures befallen hs known begun)))
        ],
      )
    ]
