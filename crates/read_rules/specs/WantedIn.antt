-- Names whose uses may matter, in memory.
use Rattle.std.specs.Prelude.{List, [], ◌∷◌, Bool, true, false, ◌||◌, ◌==◌, bytes_eq, codes}
use Rattle.std.specs.Cmp.Lexicographic.{pointwise}
use Rattle.std.specs.List.{list_any, flat_map}
use Rattle.tla_tree.specs.Tree.{Word}
use Rattle.pcal_tree.specs.Algorithm.{Name}
use Rattle.pcal_tree.specs.declared.algorithm.Macro.{Macro}
use Rattle.algorithm_limits.specs.Numbers.{number_of}
use Rattle.read_rules.specs.declared.wanted.Wanted.{Wanted}
use Rattle.read_rules.specs.ReadsIn.{reads_at}

abbrev pub has_some : List Word → Bool
has_some [] = false
has_some (x ∷ xs) = true

-- `self`, one of the names, or a definition that reads a variable
abbrev pub wants : Wanted → Word → Bool
wants w x = bytes_eq (codes "self") x || list_any (pointwise ◌==◌ x) w.names || has_some (reads_at w.reads.lists.items (number_of w.reads.numbers x))

abbrev pub names_in : List Name → List Word
names_in ps = flat_map (λ p. p.word ∷ []) ps

abbrev pub params_in : List Macro → List Word
params_in ds = flat_map (λ d. names_in d.params.items) ds
