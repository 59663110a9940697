-- Proves that the whole is the expansion.
use Rattle.std.proofs.Common.{map, ap, ◌∙◌, arith}
use Rattle.pcal_tree.specs.InMemory.{macro_at, declarations_at, definitions_at}
use Rattle.pcal_tree.proofs.InMemoryGrown.{declarations_at-kept, definitions_at-kept}
use Rattle.expansion.proofs.algorithm.written.Goals as goal

pub returns-clause-made : goal.returns-clause-made
returns-clause-made c =
    let ts = c.args.pool.now in
    let us = c.written_bodies.new.pool in
    let a = c.args.algorithm.now in
    let made = c.in_ok-made.ensures in
    λ j. record {
      name = c.in_ok-copied.ensures j;
      fair = a.fair;
      globals = (ap (declarations_at us) (c.in_ok-globals.ensures ∙ c.deref.ensures.value) ∙ declarations_at-kept ts us made.kept a.globals.items (omega (arith, c.requires))) j;
      definitions = (c.in_ok-definitions.ensures.same us ∙ ap (definitions_at us) c.deref-2.ensures.value ∙ definitions_at-kept ts us made.kept a.definitions.items (omega (arith, c.requires))) j;
      macros = ap (map (macro_at us)) c.new.ensures.items j;
      procedures = made.procedures j;
      main = made.main j;
    }
