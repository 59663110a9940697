-- Proves that a variable gets its number.
use Rattle.std.proofs.Common.{◌∷◌, [], ◌++◌, sym, ap, ◌∙◌, subst}
use Rattle.tla_tree.specs.Tree.{Word}
use Rattle.algorithm_limits.specs.Numbers.{Numbers, with_number}
use Rattle.read_rules.specs.NumbersIn.{AreNumbers}
use Rattle.read_rules.proofs.NumberLaws.{numbers_more, numbers_same}
use Rattle.read_rules.proofs.levels.number_next.Goals as goal

pub returns-in_ok-set : goal.returns-in_ok-set
returns-in_ok-set c gs n h =
    subst (λ (es : Numbers). AreNumbers es (gs ++ c.args.name.now ∷ [])) (sym (c.in_ok-set.ensures ∙ ap (λ (x : Word). with_number c.args.numbers.now x c.args.number) c.in_ok-copied.ensures))
    (numbers_more c.args.numbers.now gs c.args.name.now c.args.number (sym c.get.ensures ∙ c.if-get-eq0.true) n h)

pub returns-else-get-eq0 : goal.returns-else-get-eq0
returns-else-get-eq0 c gs n h = numbers_same c.args.numbers.now gs c.args.name.now (λ e. c.if-get-eq0.false (c.get.ensures ∙ e)) h
