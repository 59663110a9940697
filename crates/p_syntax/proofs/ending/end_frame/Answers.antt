-- Proves what is asked of `end_frame`.
use Rattle.std.proofs.Common.{ℕ, List, subst, ap, arith}
use Rattle.tla_tree.specs.Tree.{Tree}
use Rattle.tla_tree.specs.Reader.{Out}
use Rattle.expr_nodes.specs.declared.cursor.Halt.{Halt}
use Rattle.expr_nodes.specs.ReadIn.{Told}
use Rattle.expr_nodes.specs.Ahead.{ahead}
use Rattle.tla_token.specs.declared.token.Tokens.{Tokens}
use Rattle.std.specs.Prelude.{Result}
use Rattle.pcal_tree.specs.InMemory.{statements_at, past_statements}
use Rattle.pcal_tree.specs.GrammarP.{no_else, else_then}
use Rattle.syntax_reading.specs.TokenReaders.{first}
use Rattle.p_reading.specs.ReadStatements as reader
use Rattle.p_syntax.specs.declared.open.State.{State}
use Rattle.p_syntax.specs.declared.open.Turn.TheVariants as turn
use Rattle.p_syntax.specs.declared.open.Frame.{Frame}
use Rattle.p_syntax.specs.StatesRead.{TurnStands, FrameStands}
use Rattle.p_syntax.proofs.Closed.{else_stands}
use Rattle.p_syntax.proofs.Endings.{at_then, at_else, at_either, at_with, at_while, some_there}
use Rattle.p_syntax.proofs.ending.end_frame.Goals as goal

abbrev Reads : Tokens → List Tree → Result (State × ℕ) Halt → Out reader.Turn → Type 0
Reads v ts r o = Told (λ (x : State × ℕ) (t : reader.Turn). TurnStands ts (turn.On x.0) t) (λ x. ahead v x.1) r o

pub returns-in-Then-clause-read : goal.returns-in-Then-clause-read
returns-in-Then-clause-read c ts d g h k b ls st i =
    let v = c.args.tokens.now in
    let us = ahead v c.args.at in
    let x = c.in-Then in
    at_then (Reads v ts c.end_if.result) ts d (first us).place b ls st us x.tests x.place x.test g (subst (λ (f : Frame). FrameStands ts f g) x.is k)
    (λ t j. c.end_if.ensures.read ts t d no_else (first us).place (else_stands ts x.tests.items (record { place = x.place; test = x.test; then = c.args.list }) t d j h) (omega (arith, ap past_statements c.new.ensures.items)) (λ r. ap (statements_at ts) c.new.ensures.items) b ls st i)

pub returns-in-Else-clause-read : goal.returns-in-Else-clause-read
returns-in-Else-clause-read c ts d g h k b ls st i =
    let v = c.args.tokens.now in
    let us = ahead v c.args.at in
    let x = c.in-Else in
    at_else (Reads v ts c.end_if-in-Else.result) ts d (first us).place b ls st us x.tests x.last g (subst (λ (f : Frame). FrameStands ts f g) x.is k)
    (λ t e r j. c.end_if-in-Else.ensures.read ts t e (else_then r d) (first us).place j h.below (λ z. h.tree) b ls st i)

pub returns-else-is_empty-clause-read : goal.returns-else-is_empty-clause-read
returns-else-is_empty-clause-read c ts d g h k b ls st i =
    let v = c.args.tokens.now in
    let us = ahead v c.args.at in
    let x = c.in-Either in
    at_either (Reads v ts c.end_either.result) ts d (first us).place b ls st us x.place x.branches g (subst (λ (f : Frame). FrameStands ts f g) x.is k) (some_there x.branches.items x.branches.len c.is_empty.result (omega (arith, x.branches.ok)) c.is_empty.ensures c.if-is_empty.false)
    (λ t e r j. c.end_either.ensures.read ts t e d r (first us).place j h b ls st i)

pub returns-in-With-clause-read : goal.returns-in-With-clause-read
returns-in-With-clause-read c ts d g h k b ls st i =
    let v = c.args.tokens.now in
    let us = ahead v c.args.at in
    let x = c.in-With in
    at_with (Reads v ts c.end_with.result) ts d (first us).place b ls st us x.place x.binds g (subst (λ (f : Frame). FrameStands ts f g) x.is k) (λ r cs s j. c.end_with.ensures.read ts d r cs s (first us).place j h b ls st i)

pub returns-in-While-clause-read : goal.returns-in-While-clause-read
returns-in-While-clause-read c ts d g h k b ls st i =
    let v = c.args.tokens.now in
    let us = ahead v c.args.at in
    let x = c.in-While in
    at_while (Reads v ts c.end_while.result) ts d (first us).place b ls st us x.place x.test g (subst (λ (f : Frame). FrameStands ts f g) x.is k) (λ r e s j. c.end_while.ensures.read ts d r e s (first us).place j h b ls st i)
