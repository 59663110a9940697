-- What is kept: the last ones are kept.
use Rattle.std.proofs.Common.{◌≡◌, ◌-◌, List, [], length, map, drop}
use Rattle.tla_token.specs.Signs.{is_among}
use Rattle.tla_tree.specs.Tree.{Word}
use Rattle.pcal_tree.specs.InMemory.{procedure_at}
use Rattle.pcal_tree.specs.OffencesRebind.{self_alone, call_rebinds}
use Rattle.declared_rules.specs.Keeping.{Means}
use Rattle.declared_rules.proofs.kept.Keeps.procedures.Given as goal

abbrev pub invariant-loop-i : goal.invariant-loop-i
invariant-loop-i l =
    (P : List Word) → l.fn.self.kept.entries ≡ [] → ((x : Word) → is_among l.sight.stands x ≡ self_alone x)
    → Means l.sight P l.self (λ ms s x ts. call_rebinds ms (map (procedure_at l.pool) (drop (length l.list - l.i) l.list)) x s)
