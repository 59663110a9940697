-- Proves that the first offence of a process is found that is one of a set.
use Rattle.std.proofs.Common.{List, sym, ap, ◌∙◌, subst}
use Rattle.std.specs.List.{flat_map}
use Rattle.std.proofs.lemmas.Result.{IfOk-weaker}
use Rattle.tla_tree.specs.Tree.{Word}
use Rattle.pcal_tree.specs.declared.algorithm.Declaration.{Declaration}
use Rattle.pcal_tree.specs.Algorithm as tree
use Rattle.pcal_tree.specs.InMemory.{declarations_at, process_at}
use Rattle.pcal_tree.specs.Offences.{first}
use Rattle.algorithm_limits.specs.DepthsIn.{Hides}
use Rattle.algorithm_answer.specs.Joined.{joined}
use Rattle.module_outside.specs.SightIn.{Binds}
use Rattle.module_outside.proofs.SightLaws.{binds_all}
use Rattle.read_rules.specs.NumbersIn.{declared_in}
use Rattle.read_rules.specs.Own.{own_in_declaration}
use Rattle.read_rules.proofs.NumberLaws.{declared_is}
use Rattle.read_rules.proofs.own.with_variables.Goals as goal

pub returns : goal.returns
returns c =
    let ts = c.args.pool.now in
    let p : tree.Process = process_at ts c.args.process.now in
    let new = c.add_declared.new.names in
    IfOk-weaker c.with_declarations.result _ _ (λ r h e.
    let hides = subst (λ (hs : List Word). Hides hs new (declared_in c.deref.result.now)) e c.in_ok-add_declared.ensures in
    let binds = subst (λ (xs : List Word). Binds new xs) (ap declared_in c.deref.ensures.value ∙ sym (declared_is ts c.args.process.now.variables.items)) (binds_all new (declared_in c.deref.result.now) hides) in
    h p binds ∙ ap (λ (ds : List Declaration). joined c.args.so_far (first (flat_map (own_in_declaration p) (declarations_at ts ds)))) c.deref-2.ensures.value)
    c.with_declarations.ensures
