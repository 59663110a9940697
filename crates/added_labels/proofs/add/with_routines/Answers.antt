-- Proves that labels are added to procedures and to what runs.
use Rattle.std.proofs.Common.{Vec, Global, reverse, map, sym, ap, subst}
use Rattle.pcal_tree.specs.declared.algorithm.Procedure.{Procedure}
use Rattle.pcal_tree.specs.InMemory.{macro_at}
use Rattle.pcal_tree.specs.laws.MacroSummaries.{summaries}
use Rattle.label_steps.specs.declared.known.Known.{Known}
use Rattle.label_steps.specs.KnownIn.{AreMacros}
use Rattle.added_labels.proofs.BodyLaws.{routines_are}
use Rattle.added_labels.proofs.add.with_routines.Goals as goal

pub returns-clause-with : goal.returns-clause-with
returns-clause-with c = λ root a b k.
    let ms = summaries (reverse (map (macro_at c.args.pool.now) c.args.algorithm.macros.items)) in
    routines_are root c.args.pool.now c.args.plan c.in_procedures.new.plan c.args.algorithm a _ c.in_ok-changed.field-0 _ c.in_ok-changed-2.field-0 b (c.in_ok-changed.ensures.with ms k)
    (c.in_ok-changed-2.ensures.with ms (subst (λ (z : Known). AreMacros z ms) (sym c.in_ok-changed.ensures.known) k)) (ap (λ (v : Vec Procedure Global). v.items) c.replace-procedures.ensures.value) c.replace-main.ensures.value
