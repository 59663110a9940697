-- All that is read or passed on is found.
use Rattle.std.proofs.Common.{false, List, ◌++◌, ap, ◌∙◌}
use Rattle.std.specs.List.{flat_map}
use Rattle.tla_value.specs.Outside.{Opaque}
use Rattle.module_tree.specs.Module.{unread_of}
use Rattle.module_tree.specs.FileUnits.{cut}
use Rattle.expr_nodes.specs.Ahead.{ahead}
use Rattle.outside_reading.specs.PlainUnits.{units_in}
use Rattle.module_outside.proofs.outside.found_by.Goals as goal

pub returns-clause-all : goal.returns-clause-all
returns-clause-all c v s =
    let found = c.in_ok-found.ensures.value v s in
    record {
      definitions = found.definitions;
      opaque = c.in_ok-pass_all.ensures v ∙ ap (λ (os : List Opaque). os ++ flat_map unread_of (units_in false v (cut (ahead c.args.after.now 0)).units)) found.opaque;
    }
