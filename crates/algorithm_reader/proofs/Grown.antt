-- Macros, procedures and processes in memory, as the pool grows that their expressions are numbers of.
use Rattle.std.proofs.Common.{List, arith}
use Rattle.tla_tree.specs.Tree.{Tree}
use Rattle.tla_tree.specs.Pool.{Keeps}
use Rattle.pcal_tree.specs.InMemory.{macro_at, past_macro, procedure_at, past_procedure, process_at, past_process}
use Rattle.pcal_tree.proofs.InMemoryGrown.{statements_at-kept, declarations_at-kept}
use Rattle.algorithm_reader.proofs.Gathered.{StaysSame}

pub macros_stay : (ts us : List Tree) → Keeps ts us → StaysSame macro_at past_macro ts us
macros_stay ts us k m h = λ j. record { name = m.name; params = m.params.items; body = statements_at-kept ts us k m.body.items h j }

pub procedures_stay : (ts us : List Tree) → Keeps ts us → StaysSame procedure_at past_procedure ts us
procedures_stay ts us k p h = λ j. record {
  name = p.name;
  params = declarations_at-kept ts us k p.params.items (omega (arith, h)) j;
  variables = declarations_at-kept ts us k p.variables.items (omega (arith, h)) j;
  body = statements_at-kept ts us k p.body.items (omega (arith, h)) j;
}

pub processes_stay : (ts us : List Tree) → Keeps ts us → StaysSame process_at past_process ts us
processes_stay ts us k p h = λ j. record {
  name = p.name;
  fairness = p.fairness;
  several = p.several;
  identity = k.same p.identity (omega (arith, h)) j;
  variables = declarations_at-kept ts us k p.variables.items (omega (arith, h)) j;
  body = statements_at-kept ts us k p.body.items (omega (arith, h)) j;
}
