-- Proves that those of processes are the variables that each process has for itself.
use Rattle.draft.proofs.NameLaws.{all_own}
use Rattle.draft.proofs.variables.own_variables.Goals as goal

pub returns-in_ok-add_all-in-Processes : goal.returns-in_ok-add_all-in-Processes
returns-in_ok-add_all-in-Processes c = λ ts P e same.
    all_own ts c.args.algorithm.now P e c.in-Processes.field-0 c.in-Processes.is c.new-names.result c.add_all.new.into c.new-names.ensures (c.in_ok-add_all-in-Processes.ensures ts P e same)
