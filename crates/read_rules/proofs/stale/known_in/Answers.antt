-- Proves what is known of macros and procedures.
use Rattle.std.proofs.Common.{List, map, reverse, subst}
use Rattle.std.proofs.lemmas.Result.{IfOk-weaker}
use Rattle.pcal_tree.specs.declared.algorithm.Macro.{Macro}
use Rattle.pcal_tree.specs.declared.algorithm.Procedure.{Procedure}
use Rattle.pcal_tree.specs.Algorithm as tree
use Rattle.pcal_tree.specs.InMemory.{macro_at, procedure_at, algorithm_at}
use Rattle.read_rules.specs.KnownIn.{Knows}
use Rattle.read_rules.specs.Pruned.{macros_pruned}
use Rattle.read_rules.specs.StepsIn.{AreJumps}
use Rattle.read_rules.specs.WantedIn.{wants}
use Rattle.read_rules.proofs.stale.known_in.Goals as goal

pub returns : goal.returns
returns c =
    let ts = c.args.pool.now in
    let a : tree.Algorithm = algorithm_at ts c.args.algorithm.now in
    let ps = a.procedures in
    let jumps = subst (λ (qs : List Procedure). AreJumps c.in_ok-jumps.jumps.items (map (procedure_at ts) qs)) c.deref.ensures.value c.in_ok-jumps.ensures in
    IfOk-weaker c.known_macros.result _ _
    (λ k h. subst (λ (ds : List Macro). Knows k (macros_pruned (wants c.args.wanted.now) ps (reverse (map (macro_at ts) ds))) ps) c.deref-2.ensures.value (h ps jumps)) c.known_macros.ensures
