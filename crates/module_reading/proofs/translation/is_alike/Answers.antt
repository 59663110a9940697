-- What the two tests say of a translation in memory they say of what it stands for.
use Rattle.std.proofs.Common.{List, ap, ◌∙◌}
use Rattle.std.specs.List.{list_any}
use Rattle.module_tree.specs.Ways.{is_terminating}
use Rattle.module_write.specs.declared.«module».Way.{Way}
use Rattle.module_write.specs.InMemory.{ways_at}
use Rattle.module_reading.proofs.Fitness.{alike_is}
use Rattle.module_reading.proofs.translation.is_alike.Goals as goal

pub returns : goal.returns
returns c ts =
    alike_is ts c.args.region.now c.is_some.result c.may_terminate.result c.is_some.ensures
    (c.may_terminate.ensures ts ∙ ap (λ (ys : List Way). list_any is_terminating (ways_at ts ys)) c.deref.ensures.value)
