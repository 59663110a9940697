-- Proves that an argument is put in for a name that was assigned.
use Rattle.std.proofs.Common.{List, OnOk, Option, ap, subst}
use Rattle.tla_tree.specs.Tree.{Word, Tree}
use Rattle.pcal_tree.specs.Paths.{some_word}
use Rattle.pcal_tree.specs.laws.MacroSummaries.{variable_of}
use Rattle.read_rules.specs.Joins.{Joins}
use Rattle.read_rules.proofs.put.put_name.Goals as goal

pub returns-in-None : goal.returns-in-None
returns-in-None c =
    subst (λ (xs : List Word). OnOk c.add.result (Joins c.args.names.now c.add.new.self xs)) (ap (λ (o : Option Tree). some_word (variable_of o c.args.name.now)) (c.in-None.ensures c.args.pool.now)) c.add.ensures
