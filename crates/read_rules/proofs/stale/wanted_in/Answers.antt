-- Proves what tells whether uses may matter.
use Rattle.std.proofs.Common.{List, reverse, sym, ap, ◌∙◌, subst}
use Rattle.tla_tree.specs.Tree.{Word}
use Rattle.pcal_tree.specs.declared.algorithm.Definition.{Definition}
use Rattle.pcal_tree.specs.declared.algorithm.Macro.{Macro}
use Rattle.pcal_tree.specs.Algorithm as tree
use Rattle.pcal_tree.specs.InMemory.{definitions_at, algorithm_at}
use Rattle.pcal_tree.specs.Reads.{readings}
use Rattle.pcal_tree.specs.Variables.{declared}
use Rattle.pcal_tree.proofs.SetLaws.{Same}
use Rattle.read_rules.specs.NumbersIn.{declared_in}
use Rattle.read_rules.proofs.NumberLaws.{declared_is}
use Rattle.read_rules.specs.ReadsIn.{AreReads}
use Rattle.read_rules.specs.WantedIn.{params_in}
use Rattle.read_rules.proofs.stale.wanted_in.Goals as goal

pub returns-in-Ok : goal.returns-in-Ok
returns-in-Ok c =
    let ts = c.args.pool.now in
    let a : tree.Algorithm = algorithm_at ts c.args.algorithm.now in
    let gs = declared a.globals in
    let globals = subst (λ (ws : List Word). Same c.in_ok-globals.globals ws) (ap declared_in c.deref-2.ensures.value ∙ sym (declared_is ts c.args.algorithm.now.globals.items)) c.in_ok-globals.ensures in (
      subst (λ (ds : List Definition). AreReads c.in-Ok.reads (readings gs (reverse (definitions_at ts ds)))) c.deref-3.ensures.value (c.in-Ok.ensures gs globals),
      subst (λ (ds : List Macro). Same c.in_ok-names.names (params_in ds)) c.deref.ensures.value c.in_ok-names.ensures,
    )
