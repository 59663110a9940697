-- An algorithm whose macro calls are written out and whose macros stay, so that its routines keep their numbers ("A PlusCal User's Manual", section 3.5, macros).
use Rattle.std.specs.Prelude.{◌≡◌, [], reverse}
use Rattle.pcal_tree.specs.Algorithm.{done, Macro, Routine, Algorithm}
use Rattle.pcal_tree.specs.Expand.{expanded}
use Rattle.pcal_tree.specs.OffencesLabels.{label_offences}
use Rattle.pcal_tree.specs.Processes.{OneOf}
use Rattle.pcal_tree.specs.Program.{Program}
use Rattle.pcal_tree.specs.Takers.{Taken}
use Rattle.macro_expand.specs.Size.{expansion}

abbrev pub opened : Algorithm → Algorithm
opened a = record (expansion a) { macros = a.macros }

abbrev pub opened_program : Program → Program
opened_program P = record P { algorithm = opened P.algorithm }

-- ---- a routine, and with those who take its steps

abbrev pub opened_routine : Algorithm → Routine → Routine
opened_routine a u = record u { body = expanded (reverse a.macros) u.body }

abbrev pub opened_taken : Algorithm → Taken → Taken
opened_taken a t = record { takers = t.takers; routine = opened_routine a t.routine }

-- ---- where steps stay what they are

-- no rule on labels is broken, so that macros have no labels, jumps and calls, and each macro has a statement
pub record IsOpenable (a : Algorithm) : Type 0 where
  pub labels : label_offences a ≡ []
  pub started : (d : Macro) → OneOf d a.macros → d.body ≡ done → ⊥
