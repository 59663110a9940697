-- Proves that the names of a unit go by its first word.
use Rattle.std.proofs.lemmas.Result.{IfOk-weaker}
use Rattle.expr_nodes.specs.Ahead.{ahead}
use Rattle.module_outside.proofs.PassedLaws.{names_listed, titled_names, listed_names, other_names}
use Rattle.module_outside.proofs.passed.names.Goals as goal

pub returns-then-is_among : goal.returns-then-is_among
returns-then-is_among c = IfOk-weaker c.title.result _ _ (λ ns h. titled_names c.args.word.now (ahead c.args.unit.now 0) ns.items c.if-is_among.ensures h) c.title.ensures

pub returns-then-is_among-2 : goal.returns-then-is_among-2
returns-then-is_among-2 c =
    IfOk-weaker c.identifiers.result _ _ (λ ns h. listed_names c.args.word.now (ahead c.args.unit.now 0) ns.items c.if-is_among.ensures c.if-is_among-2.ensures (names_listed c.args.unit.now ns.items h))
    c.identifiers.ensures

pub returns-else-is_among-2 : goal.returns-else-is_among-2
returns-else-is_among-2 c =
    IfOk-weaker c.first_identifier.result _ _ (λ ns h. other_names c.args.word.now (ahead c.args.unit.now 0) ns.items c.if-is_among.ensures c.if-is_among-2.ensures h)
    c.first_identifier.ensures
