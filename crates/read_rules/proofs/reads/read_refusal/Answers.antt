-- Proves that globals have their numbers.
use Rattle.std.proofs.Common.{List, sym, ap, ◌∙◌, subst}
use Rattle.std.proofs.lemmas.Result.{IfOk-weaker}
use Rattle.tla_tree.specs.Tree.{Word}
use Rattle.read_rules.specs.NumbersIn.{declared_in, AreNumbers}
use Rattle.read_rules.proofs.NumberLaws.{declared_is}
use Rattle.read_rules.proofs.reads.read_refusal.Goals as goal

pub returns : goal.returns
returns c =
    let numbers = subst (λ (ws : List Word). AreNumbers c.in_ok-numbers.numbers ws) (ap declared_in c.deref.ensures.value ∙ sym (declared_is c.args.pool.now c.args.algorithm.now.globals.items)) c.in_ok-numbers.ensures in
    IfOk-weaker c.refusal_by-found.result _ _ (λ r h. h numbers) c.refusal_by-found.ensures
