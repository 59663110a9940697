-- Proves that the body of a single process is looked at where its identifier is put in.
use Rattle.std.proofs.Common.{List, [], ◌∷◌, ap, ◌∙◌, subst}
use Rattle.std.proofs.lemmas.Result.{on_ok_weaker}
use Rattle.tla_tree.specs.Tree.{Word, Name, no_trees, tree}
use Rattle.tla_tree.specs.Pool.{at}
use Rattle.pcal_tree.specs.declared.algorithm.Stmt.{Stmt}
use Rattle.pcal_tree.specs.InMemory.{statements_at}
use Rattle.pcal_tree.specs.OffencesRebind.{any_name, body_rebinds, putting_in}
use Rattle.declared_rules.specs.Gathering.{lists_of}
use Rattle.declared_rules.specs.Telling.{told, Adds}
use Rattle.declared_rules.proofs.KeepLaws.{found_tells}
use Rattle.declared_rules.proofs.ProcessLaws.{single_adds}
use Rattle.declared_rules.proofs.bind_walk.Walk.single.Goals as goal

pub returns : goal.returns
returns c =
    on_ok_weaker c.put-outcome.result
    (λ a C ps n h o.
    let ts = c.args.pool.now in
    let p = c.args.process.now in
    let t = at ts p.identity in
    let found = c.body.new.self in
    single_adds c.args.near.now c.args.own.now c.args.self.now c.put-outcome.new.self found t c.args.calls.now.process (λ ms s. body_rebinds ms ps (C ms) (statements_at ts p.body.items) s) o.process h
    (found_tells c.args.own.now any_name c.args.found.now found (λ ms s. body_rebinds ms ps (C ms) (statements_at ts p.body.items) s) n
    (subst (λ (ys : List Stmt). Adds c.args.own.now any_name c.args.found.now found (λ ms s. body_rebinds ms ps (C ms) (statements_at ts ys) s)) c.deref.ensures.value (c.in_ok-body.ensures C ps o)))
    (subst (λ (w : Word). Adds c.args.near.now any_name c.args.self.now c.put-outcome.new.self (λ ms r. told ms found (putting_in (record { word = w; place = record { line = 1; col = 1 } } ∷ []) (tree t no_trees) r r))) c.in_ok-copied.ensures
    (subst (λ (ns : List Name). Adds c.args.near.now any_name c.args.self.now c.put-outcome.new.self (λ ms r. told ms found (putting_in ns (tree t no_trees) r r))) c.from_ref.ensures.value
    (a (tree t no_trees) (ap lists_of c.deref-2.ensures.value ∙ c.in_ok-args.ensures))))) c.put-outcome.ensures
