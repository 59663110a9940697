-- Proves what is seen in a macro.
use Rattle.std.proofs.Common.{Bool, true, false, List, [], ◌∷◌, Some, None, ◌∙◌, subst}
use Rattle.pcal_tree.specs.declared.algorithm.Stmt.{Stmt}
use Rattle.pcal_tree.specs.InMemory.{statements_at}
use Rattle.pcal_tree.specs.laws.MacroSpots.{earlier, starting}
use Rattle.read_rules.specs.declared.walk.Ways.{Ways}
use Rattle.read_rules.specs.KnownIn.{AreWays}
use Rattle.read_rules.specs.Pruned.{kept_from}
use Rattle.read_rules.specs.WantedIn.{wants}
use Rattle.read_rules.proofs.macros.summary.Goals as goal

pub returns-in-Ok : goal.returns-in-Ok
returns-in-Ok c = λ ms ps k.
    let T = wants c.args.wanted.now in
    let Kept : Ways → Bool → List Stmt → Type 0 =
    λ w l ss. AreWays w (kept_from T ms ps (statements_at c.args.pool.now ss) (starting l None)) (kept_from T ms ps (statements_at c.args.pool.now ss) (starting l (Some (earlier ∷ [])))) in
    record {
      params = c.in_ok-params.ensures ∙ c.deref.ensures.value;
      plain = subst (Kept c.in_ok-plain.plain false) c.deref-2.ensures.value (c.in_ok-plain.ensures ms ps k);
      labelled = subst (Kept c.in-Ok.labelled true) c.deref-3.ensures.value (c.in-Ok.ensures ms ps k);
    }
