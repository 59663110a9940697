-- Proves that the definitions are those outside and then the algorithm's, and that a program with them is whole.
use Rattle.running.proofs.KeptLaws.{all_made, whole}
use Rattle.running.proofs.definitions.run_definitions.Goals as goal

pub returns-clause-all : goal.returns-clause-all
returns-clause-all c =
    (all_made c.args.outside.now c.args.algorithm.now c.in_ok-all.all c.add_definitions.new.into _ c.in_ok-all.ensures c.deref.ensures.value
    c.in_ok-add_definitions.ensures.all c.in_ok-add_definitions.ensures.outside c.in_ok-add_definitions.ensures.within).seen

pub returns-clause-outside : goal.returns-clause-outside
returns-clause-outside c =
    (all_made c.args.outside.now c.args.algorithm.now c.in_ok-all.all c.add_definitions.new.into _ c.in_ok-all.ensures c.deref.ensures.value
    c.in_ok-add_definitions.ensures.all c.in_ok-add_definitions.ensures.outside c.in_ok-add_definitions.ensures.within).outside

pub returns-clause-within : goal.returns-clause-within
returns-clause-within c =
    (all_made c.args.outside.now c.args.algorithm.now c.in_ok-all.all c.add_definitions.new.into _ c.in_ok-all.ensures c.deref.ensures.value
    c.in_ok-add_definitions.ensures.all c.in_ok-add_definitions.ensures.outside c.in_ok-add_definitions.ensures.within).within

pub returns-clause-whole : goal.returns-clause-whole
returns-clause-whole c =
    whole c.args.outside.now c.args.algorithm.now c.add_definitions.new.into
    (all_made c.args.outside.now c.args.algorithm.now c.in_ok-all.all c.add_definitions.new.into _ c.in_ok-all.ensures c.deref.ensures.value
    c.in_ok-add_definitions.ensures.all c.in_ok-add_definitions.ensures.outside c.in_ok-add_definitions.ensures.within)
