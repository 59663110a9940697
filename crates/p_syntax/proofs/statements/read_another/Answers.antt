-- Proves what is asked of `read_another`.
use Rattle.std.proofs.Common.{ℕ, Option}
use Rattle.tla_token.specs.declared.place.Place.{Place}
use Rattle.expr_nodes.specs.ReadIn.{Told}
use Rattle.expr_nodes.specs.Ahead.{ahead}
use Rattle.pcal_tree.specs.GrammarParts.{no_labels}
use Rattle.algorithm_reader.specs.PartsRead.{parts_in}
use Rattle.p_reading.specs.ReadStatements.{after, Turn}
use Rattle.p_syntax.specs.declared.open.State.{State}
use Rattle.p_syntax.specs.declared.open.Turn.TheVariants as turn
use Rattle.p_syntax.specs.StatesRead.{TurnStands}
use Rattle.p_syntax.specs.StepsRead.{another_step}
use Rattle.p_syntax.proofs.AfterStatement.{separated_is, separated_not}
use Rattle.p_syntax.proofs.statements.read_another.Goals as goal

pub returns-in-Separated-clause-read : goal.returns-in-Separated-clause-read
returns-in-Separated-clause-read c n b ls a o st k e h =
    let v = c.args.tokens.now in
    let us = c.read_statement.new.pool in
    separated_is c.args.state.point o c.in-Separated.is e (λ (z : Option Place). Told (λ (x : State × ℕ) (t : Turn). TurnStands us (turn.On x.0) t) (λ x. ahead v x.1) c.read_statement.result (another_step (parts_in v) n b ls a z st (ahead v c.args.at)))
    (λ q. c.read_statement.ensures.read n (after b ls a q) no_labels st k h)

pub returns-in_default-clause-read : goal.returns-in_default-clause-read
returns-in_default-clause-read c n b ls a o st k e h =
    let v = c.args.tokens.now in
    let us = c.args.pool.now in
    separated_not c.args.state.point o c.in_default.not-Separated e (λ (z : Option Place). Told (λ (x : State × ℕ) (t : Turn). TurnStands us (turn.On x.0) t) (λ x. ahead v x.1) c.read_separator.result (another_step (parts_in v) n b ls a z st (ahead v c.args.at)))
    (c.read_separator.ensures.read us n b ls a st h)
