-- Proves that the first offence of a routine is told.
use Rattle.std.proofs.Common.{◌++◌, ◌∙◌}
use Rattle.pcal_tree.specs.InMemory.{declarations_at, statements_at}
use Rattle.pcal_tree.specs.Variables.{declared}
use Rattle.name_rules.proofs.RoutineLaws.{own_binds, routine_told}
use Rattle.name_rules.proofs.found.Found.routine.Goals as goal

pub returns : goal.returns
returns c = λ C ps s m h.
    let ts = c.args.pool.now in
    let ds = c.args.params.now in
    let es = c.args.variables.now in
    let b = c.in_ok-body.ensures C ps m in
    routine_told C ps s ts c.restart.new.self c.declared.new.self c.declared-2.new.self c.body.new.self ds es (statements_at ts c.args.body.now) c.tell.result c.restart.ensures.first c.restart.ensures.free c.restart.ensures.bound c.in_ok-declared.ensures c.in_ok-declared-2.ensures b
    (c.tell.ensures s (declared (declarations_at ts ds ++ declarations_at ts es)) h
    (own_binds ts c.body.new.self.bound c.add_declared.new.names c.add_declared-2.new.names ds es (b.bound ∙ c.in_ok-declared-2.ensures.bound ∙ c.in_ok-declared.ensures.bound ∙ c.restart.ensures.bound) c.in_ok-add_declared.ensures c.in_ok-add_declared-2.ensures))
