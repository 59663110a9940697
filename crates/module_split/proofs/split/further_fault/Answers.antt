use Rattle.std.proofs.Common.{Option, length, subst}
use Rattle.std.proofs.lemmas.List.{take_rest}
use Rattle.tla_token.proofs.Fronts.{some_there}
use Rattle.module_split.specs.declared.split.Algorithm.{Algorithm}
use Rattle.module_split.specs.SplitSeen.{IsAlgorithm}
use Rattle.module_split.proofs.SplitParts.{second_some}
use Rattle.module_split.proofs.split.further_fault.Goals as goal

pub returns-else-is_empty : goal.returns-else-is_empty
returns-else-is_empty c x ds h =
    let P : Option Algorithm → Type 0 = λ o. IsAlgorithm x ds c.args.marks.now o in
    second_some x ds c.args.marks.now _ c.args.starts.now c.second_fault.result (subst P c.in-Some.is h)
    (some_there (length c.args.starts.now) c.is_empty.result c.is_empty.ensures c.if-is_empty.false) (rw take_rest at c.second_fault.ensures)
