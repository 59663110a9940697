-- What is kept: the macros that were passed are known.
use Rattle.std.proofs.Common.{◌≡◌, None, [], map, reverse, take}
use Rattle.std.specs.List.{list_any}
use Rattle.tla_token.specs.Signs.{is_among}
use Rattle.tla_tree.specs.Tree.{Word}
use Rattle.pcal_tree.specs.declared.algorithm.Macro.{Macro}
use Rattle.pcal_tree.specs.InMemory.{macro_at}
use Rattle.pcal_tree.specs.laws.MacroSummaries.{summaries}
use Rattle.label_steps.specs.KnownIn.{AreMacros}
use Rattle.label_steps.specs.MacrosIn.{params_of}
use Rattle.label_steps.proofs.macros.known_macros.Given as goal

abbrev pub invariant-loop-i : goal.invariant-loop-i
invariant-loop-i l = record {
  name : l.around.name ≡ None;
  own : l.around.own.items ≡ [];
  params : (x : Word) → is_among l.around.known.params.keys x ≡ list_any (λ (d : Macro). is_among (params_of d.params.items) x) l.macros;
  known : AreMacros l.around.known (summaries (reverse (map (macro_at l.pool) (take l.i l.macros))));
}
