-- Proves what is asked of `take_else`.
use Rattle.std.proofs.Common.{◌++◌, ◌∷◌, [], ap, ◌∙◌}
use Rattle.expr_nodes.specs.Ahead.{ahead}
use Rattle.syntax_reading.specs.TokenReaders.{first}
use Rattle.algorithm_reader.proofs.Gathered.{refused_as}
use Rattle.p_syntax.specs.declared.open.Frame.{Frame}
use Rattle.p_syntax.specs.declared.open.Frame.TheVariants as frame
use Rattle.p_syntax.proofs.Closed.{innermost_stands}
use Rattle.p_syntax.proofs.Endings.{not_then, else_read, else_refused}
use Rattle.p_syntax.proofs.ending.take_else.Goals as goal

pub returns-in_ok-opened-in-Then-clause-read : goal.returns-in_ok-opened-in-Then-clause-read
returns-in_ok-opened-in-Then-clause-read c ts d st h k e =
    let v = c.args.tokens.now in
    let f = frame.Then c.in-Then.tests c.in-Then.place c.in-Then.test in
    let n = innermost_stands ts c.args.state.stack.items f c.in-Some.around st k (c.in-Some.ensures.some ∙ ap (λ (g : Frame). c.in-Some.around.stack.items ++ record { frame = g; before = c.in-Some.around.list; depth = c.in-Some.around.depth } ∷ []) c.in-Then.is) in
    let said = c.in_ok-opened-in-Then.ensures in
    else_read v ts c.args.state c.in-Some.around c.in_ok-opened-in-Then.field-0 c.args.at d h c.in-Then.tests c.in-Then.place (first (ahead v c.args.at)).place c.in-Then.test st n e (record { list = said.list; stack = said.stack; point = said.point; depth = said.depth })

pub returns-in_default-clause-read : goal.returns-in_default-clause-read
returns-in_default-clause-read c ts d st h k e =
    let us = ahead c.args.tokens.now c.args.at in
    let n = innermost_stands ts c.args.state.stack.items c.in-Some.open c.in-Some.around st k c.in-Some.ensures.some in
    refused_as _ us _ c.refused_there-in_default.ensures (else_refused ts c.in-Some.open c.in-Some.around st d (first us).place us n (not_then c.in-Some.open c.in_default.not-Then))
