-- Proves what is asked of `read_another`.
use Rattle.std.proofs.Common.{Option, sym, subst, ◌∙◌}
use Rattle.expr_nodes.specs.Ahead.{ahead}
use Rattle.pcal_tree.specs.GrammarParts.{no_labels}
use Rattle.syntax_reading.specs.TokenReaders.{first}
use Rattle.algorithm_reader.specs.PartsRead.{parts_in}
use Rattle.c_reading.specs.ReadStatements.{ask_other, closed}
use Rattle.c_syntax.specs.Takes.{BeginStands}
use Rattle.c_syntax.specs.AfterRead.{taken, next_taken, TurnsTo}
use Rattle.c_syntax.specs.declared.open.State.{State}
use Rattle.algorithm_reader.proofs.Gathered.{refused_as}
use Rattle.c_syntax.proofs.AfterStatement.{another_as, begun_goes, none_goes}
use Rattle.c_syntax.proofs.after.read_another.Goals as goal

pub returns-in-None-clause-read : goal.returns-in-None-clause-read
returns-in-None-clause-read c n a o st k e h =
    let v = c.args.tokens.now in
    let us = ahead v c.args.at in
    let m = parts_in v in
    let r = closed ask_other a st in
    let there = subst (λ (s : Option State). BeginStands c.args.pool.now s (taken (next_taken o) r)) c.in-None.is (c.in_ok-next.ensures c.args.pool.now a o st e h) in
    refused_as _ us _ c.refused_there.ensures (another_as m n o (first us).place (first us).kind r us c.requires.another ∙ none_goes m n c.args.pool.now (taken (next_taken o) r) us there)

pub returns-in-Some-clause-read : goal.returns-in-Some-clause-read
returns-in-Some-clause-read c n a o st k e h =
    let v = c.args.tokens.now in
    let us = ahead v c.args.at in
    let m = parts_in v in
    let r = closed ask_other a st in
    let there = subst (λ (s : Option State). BeginStands c.args.pool.now s (taken (next_taken o) r)) c.in-Some.is (c.in_ok-next.ensures c.args.pool.now a o st e h) in
    let goes = TurnsTo v c.read_begun.new.pool c.read_begun.result in
    subst goes (sym (another_as m n o (first us).place (first us).kind r us c.requires.another))
    (begun_goes goes m n c.args.pool.now c.in-Some.state (taken (next_taken o) r) us there (λ z i. c.read_begun.ensures.read n no_labels z k i))
