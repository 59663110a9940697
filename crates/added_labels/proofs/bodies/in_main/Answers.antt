-- Proves that what runs has its labels.
use Rattle.added_labels.proofs.BodyLaws.{alone_is, processes_are}
use Rattle.added_labels.proofs.bodies.in_main.Goals as goal

pub returns-in_ok-with-in-Alone-clause-with : goal.returns-in_ok-with-in-Alone-clause-with
returns-in_ok-with-in-Alone-clause-with c = λ ms a.
    alone_is c.args.pool.now c.args.place.now ms c.args.plan.now c.in_body.new.plan c.args.main c.in-Alone.body c.in_ok-with-in-Alone.with c.requires.outside c.in-Alone.is (c.in_ok-with-in-Alone.ensures.with ms a)

pub returns-in_ok-with-in-Processes-clause-with : goal.returns-in_ok-with-in-Processes-clause-with
returns-in_ok-with-in-Processes-clause-with c = λ ms a.
    processes_are c.args.pool.now ms c.args.plan.now c.in_processes.new.plan c.args.main c.in-Processes.list c.in_ok-with-in-Processes.with c.in-Processes.is (c.in_ok-with-in-Processes.ensures.with ms a)
