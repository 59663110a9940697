-- Proves that what is kept of a macro tells what its body offends.
use Rattle.std.proofs.lemmas.Result.{on_ok_weaker}
use Rattle.std.proofs.Common.{List, ◌∙◌, subst}
use Rattle.pcal_tree.specs.declared.algorithm.Stmt.{Stmt}
use Rattle.pcal_tree.specs.InMemory.{statements_at}
use Rattle.pcal_tree.specs.OffencesNames.{in_body}
use Rattle.name_rules.specs.Finding.{Tells}
use Rattle.name_rules.proofs.KeepLaws.{told_first}
use Rattle.name_rules.proofs.macros.MacroUses.fill.Goals as goal

pub returns : goal.returns
returns c =
    on_ok_weaker c.body.result
    (λ a C ps e n m.
    let ts = c.args.pool.now in
    let old = c.args.self.now.found in
    record {
      params = c.in_ok-add_copies.ensures e ∙ c.deref.ensures.value;
      tells = λ s.
          told_first old c.body.new.self (in_body C ps (statements_at ts c.args.one.now.body.items)) s n.first n.free n.bound
          (subst (λ (ys : List Stmt). Tells old c.body.new.self (in_body C ps (statements_at ts ys))) c.deref-2.ensures.value (a C ps m));
    }) c.body.ensures
