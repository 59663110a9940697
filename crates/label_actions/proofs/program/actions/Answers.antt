-- Proves that the actions of a draft are those of its program.
use Rattle.std.proofs.Common.{◌≡◌, List, ◌++◌, map, sym, ap, subst, ◌∙◌}
use Rattle.pcal_tree.specs.Algorithm.{Algorithm, Procedure}
use Rattle.module_write.specs.declared.«module».Action.{Action}
use Rattle.module_write.specs.InMemory.{actions_at}
use Rattle.name_bits.specs.NamesIn.{AllApart}
use Rattle.draft.proofs.Grown.{draft_kept}
use Rattle.step_forms.specs.Steps.{actions_by_steps}
use Rattle.label_actions.specs.Units.{titles_of}
use Rattle.label_actions.proofs.ProgramLaws.{titles_are}
use Rattle.label_actions.proofs.program.actions.Goals as goal

pub returns-clause-made : goal.returns-clause-made
returns-clause-made c = λ P d a.
    let ts = c.args.pool.now in
    let us = c.name_of.new.pool in
    let titles : map (λ (p : Procedure). p.name.word) P.algorithm.procedures ≡ titles_of c.deref.result.now = ap (λ (z : Algorithm). map (λ (p : Procedure). p.name.word) z.procedures) (sym d.algorithm)
    ∙ titles_are ts c.args.draft.now.algorithm.now.procedures.items ∙ ap titles_of (sym c.deref.ensures.value) in
    c.in_ok-add_all.ensures.made P a
    (record {
      draft = draft_kept ts us c.in_ok-this.ensures.kept c.args.draft.now P d;
      titles = titles ∙ sym (c.in_ok-procedures.ensures (subst AllApart titles a.procedures));
      empty = c.new-unlabelled.ensures ∙ c.new.ensures.items;
      this = c.in_ok-this.ensures.tree;
    })
    ∙ ap (λ (l : List Action). actions_at us l ++ actions_by_steps P) c.new-made.ensures.items
