-- Names of units outside, in memory.
use Rattle.std.specs.Prelude.{List, map}
use Rattle.std.specs.List.{flat_map}
use Rattle.tla_tree.specs.Tree.{Word}
use Rattle.module_outside.specs.declared.definition.ReadDefinition.{ReadDefinition}
use Rattle.module_outside.specs.declared.passed.Passed.{Passed}

abbrev pub read_words : List ReadDefinition → List Word
read_words ds = map (λ (d : ReadDefinition). d.title.word) ds

abbrev pub passed_words : List Passed → List Word
passed_words us = flat_map (λ (u : Passed). u.names.items) us
