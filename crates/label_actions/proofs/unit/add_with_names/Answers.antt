-- Proves that the actions of the labels of a unit are those of its steps.
use Rattle.std.proofs.Common.{◌≡◌, List, ◌++◌, map, length, sym, ap, subst, ◌∙◌}
use Rattle.std.proofs.lemmas.Result.{on_ok_weaker}
use Rattle.pcal_tree.specs.InMemory.{statements_at}
use Rattle.pcal_tree.specs.Run.{unlabelled}
use Rattle.module_write.specs.InMemory.{actions_at}
use Rattle.step_forms.specs.Steps.{Step, steps, step_action}
use Rattle.label_actions.specs.Fitting.{AllFit}
use Rattle.label_actions.specs.Added.{self_of}
use Rattle.label_actions.proofs.UnitLaws.{unit_fits}
use Rattle.label_actions.proofs.unit.add_with_names.Goals as goal

pub statements-requires-clause-desk : goal.statements-requires-clause-desk
statements-requires-clause-desk c = record { draft = c.requires.basis.draft; single = c.single_of.ensures.within (length c.args.pool.now) c.requires.unit.taker }

pub returns-clause-made : goal.returns-clause-made
returns-clause-made c =
    on_ok_weaker c.statements.result (λ g P t a one b u ordered listed.
    let ts = c.args.pool.now in
    let e : steps c.args.basis.now.unlabelled.now (statements_at ts c.args.unit.now.body.now) c.in_ok-exit.exit ≡ steps unlabelled t.routine.body t.routine.exit = λ j. steps (b.empty j) (sym u.body j) ((c.in_ok-exit.ensures ∙ sym u.exit) j) in
    g P t (record {
      desk = record {
        draft = b.draft;
        one = one;
        number = u.number;
        ordered = ordered;
        listed = listed;
        titles = b.titles;
        empty = b.empty;
        single = c.single_of.ensures.stands ts ∙ ap self_of u.takers;
        few = a.few;
      };
      takers = u.takers;
    }) (subst (AllFit P t.routine) (sym e) (unit_fits P t.routine a one))
    ∙ ap (λ (zs : List Step). actions_at ts c.args.out.now.items ++ map (step_action P t) zs) e)
    c.statements.ensures.made
