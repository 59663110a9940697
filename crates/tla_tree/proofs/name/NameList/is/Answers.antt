-- Proves what is asked of `is`.
use Rattle.std.specs.Cmp.Lexicographic.{bytes_decides}
use Rattle.std.proofs.lemmas.Slice.Eq.{slice_eq-Decides}
use Rattle.tla_tree.proofs.name.NameList.is.Goals as goal

pub returns : goal.returns
returns c = rw (← c.self.view_is, ← c.other.view_is) (slice_eq-Decides bytes_decides _ _ _ c.eq.ensures)
