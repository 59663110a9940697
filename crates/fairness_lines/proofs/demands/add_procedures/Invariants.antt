-- What is kept while procedures are gone through: those that are left give the whole, and numbers stay below a bound.
use Rattle.std.proofs.Common.{◌≡◌, ◌++◌, ◌<◌, ℕ, List, drop}
use Rattle.tla_tree.specs.Tree.{Tree}
use Rattle.written_names.specs.Units.{naming_of}
use Rattle.fairness_lines.specs.Tables.{marked_word}
use Rattle.fairness_lines.specs.DemandsAt.{takers_at, all_asked, AllDemandsIn}
use Rattle.fairness_lines.proofs.AskedLaws.{those}
use Rattle.fairness_lines.proofs.demands.add_procedures.Given as goal

abbrev pub invariant-loop-procedure : goal.invariant-loop-procedure
invariant-loop-procedure l =
    ((ts : List Tree) → all_asked ts l.into.items ++ those (naming_of l.draft.naming.now) (takers_at ts l.owner) l.owner.number l.owner.strong (marked_word l.marks.names.now l.marks.marks.now) ts l.unit (drop l.procedure-index l.procedures)
    ≡ all_asked ts l.fn.into.items ++ those (naming_of l.draft.naming.now) (takers_at ts l.owner) l.owner.number l.owner.strong (marked_word l.marks.names.now l.marks.marks.now) ts l.fn.first l.procedures)
    × ((m : ℕ) → AllDemandsIn m l.fn.into.items → l.owner.identity < m → AllDemandsIn m l.into.items)
