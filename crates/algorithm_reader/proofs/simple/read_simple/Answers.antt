-- Proves what is asked of `read_simple`.
use Rattle.std.proofs.Common.{sym, subst, ◌∙◌}
use Rattle.tla_tree.specs.Reader.{Out}
use Rattle.expr_nodes.specs.Ahead.{ahead}
use Rattle.pcal_tree.specs.InMemory.{simple_at, past_simple}
use Rattle.pcal_tree.specs.GrammarParts.{Simple, simple_tree}
use Rattle.algorithm_reader.specs.PartsRead.{ReadsPart, parts_in}
use Rattle.algorithm_reader.proofs.SimpleParts.{simple_named}
use Rattle.algorithm_reader.proofs.simple.read_simple.Goals as goal

pub returns-then-is_next_name-clause-read : goal.returns-then-is_next_name-clause-read
returns-then-is_next_name-clause-read c n h =
    let v = c.args.tokens.now in
    subst (λ (o : Out Simple). ReadsPart simple_at past_simple simple_tree v c.read_named.new.pool c.read_named.result o)
    (sym (simple_named (parts_in v) n (ahead v c.args.at) (sym c.is_next_name.ensures ∙ c.if-is_next_name.true)))
    (c.read_named.ensures.read n h)
