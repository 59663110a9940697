-- Proves that the names of arguments are met.
use Rattle.std.proofs.Common.{ℕ, List, sym, subst}
use Rattle.std.proofs.lemmas.Result.{on_ok_weaker}
use Rattle.tla_tree.specs.Pool.{trees_at}
use Rattle.pcal_tree.specs.declared.algorithm.Simple.{Simple}
use Rattle.pcal_tree.specs.InMemory.{simple_at}
use Rattle.pcal_tree.specs.Reads.{used_by_all}
use Rattle.read_rules.specs.BodyNames.{names_in_one}
use Rattle.read_rules.specs.Using.{Adds}
use Rattle.read_rules.proofs.used.Used.simple.Goals as goal

pub returns-in-Macro : goal.returns-in-Macro
returns-in-Macro c =
    on_ok_weaker c.exprs.result
    (λ done.
    subst (λ (z : Simple). Adds c.args.self.now c.exprs.new.self (names_in_one (simple_at c.args.pool.now z))) (sym c.in-Macro.is)
    (subst (λ (es : List ℕ). Adds c.args.self.now c.exprs.new.self (used_by_all (trees_at c.args.pool.now es))) c.deref-in-Macro.ensures.value done)) c.exprs.ensures

pub returns-in-Call : goal.returns-in-Call
returns-in-Call c =
    on_ok_weaker c.exprs-in-Call.result
    (λ done.
    subst (λ (z : Simple). Adds c.args.self.now c.exprs-in-Call.new.self (names_in_one (simple_at c.args.pool.now z))) (sym c.in-Call.is)
    (subst (λ (es : List ℕ). Adds c.args.self.now c.exprs-in-Call.new.self (used_by_all (trees_at c.args.pool.now es))) c.deref-in-Call.ensures.value done)) c.exprs-in-Call.ensures
