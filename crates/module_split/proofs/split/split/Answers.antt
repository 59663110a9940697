use Rattle.std.proofs.Common.{List, Bool, sym, subst, ◌∙◌}
use Rattle.module_split.specs.declared.stand.Stand.{Stand}
use Rattle.module_split.specs.StandsSeen.{stands_seen}
use Rattle.module_split.specs.SplitSeen.{IsAlgorithm}
use Rattle.module_split.proofs.SplitFine.{none_least}
use Rattle.module_split.proofs.split.split.Goals as goal

pub parts_of-requires-clause-fine : goal.parts_of-requires-clause-fine
parts_of-requires-clause-fine c = none_least _ (sym c.in-None.ensures)

pub parts_of-requires-clause-found : goal.parts_of-requires-clause-found
parts_of-requires-clause-found c =
    let x = c.args.text.now in
    subst (λ (ds : List Stand). (marks : List Bool) × IsAlgorithm x (stands_seen x ds) marks c.find_algorithm-found.result) (c.deref-4.ensures.value ∙ sym c.deref-in-None.ensures.value) (c.find_algorithm-found.new.marks, c.find_algorithm-found.ensures)

pub returns-clause-fine : goal.returns-clause-fine
returns-clause-fine c = none_least _ (sym c.in-None.ensures)
