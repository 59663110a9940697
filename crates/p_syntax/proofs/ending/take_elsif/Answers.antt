-- Proves what is asked of `take_elsif`.
use Rattle.std.proofs.Common.{◌≡◌, ◌++◌, ◌∷◌, [], ap, subst, ◌∙◌}
use Rattle.std.proofs.lemmas.Result.{err_from_is_err_and}
use Rattle.tla_token.specs.declared.place.Place.{Place}
use Rattle.tla_tree.specs.Lexical.{Token}
use Rattle.expr_nodes.specs.ReadIn.{Reads}
use Rattle.expr_nodes.specs.Ahead.{ahead}
use Rattle.syntax_reading.specs.TokenReaders.{first}
use Rattle.algorithm_reader.specs.PartsRead.{parts_in}
use Rattle.algorithm_reader.proofs.Gathered.{refused_as}
use Rattle.p_reading.specs.ReadStatements.{takes_elsif}
use Rattle.p_syntax.specs.declared.open.Frame.{Frame}
use Rattle.p_syntax.specs.declared.open.Frame.TheVariants as frame
use Rattle.p_syntax.proofs.Grows.{stack_grows, whole_grows}
use Rattle.p_syntax.proofs.Closed.{innermost_stands}
use Rattle.p_syntax.proofs.Endings.{not_then, elsif_read, elsif_failed, elsif_refused, On}
use Rattle.p_syntax.proofs.ending.take_elsif.Goals as goal

pub returns-in_ok-opened-in-Then-clause-read : goal.returns-in_ok-opened-in-Then-clause-read
returns-in_ok-opened-in-Then-clause-read c d st h k e =
    let v = c.args.tokens.now in
    let us = c.read_test.new.pool in
    let test = c.in_ok-next-in-Then in
    let f = frame.Then c.in-Then.tests c.in-Then.place c.in-Then.test in
    let kept = test.ensures.kept in
    let n = innermost_stands us c.args.state.stack.items f c.in-Some.around st (stack_grows _ us kept c.args.state.stack.items st k)
    (c.in-Some.ensures.some ∙ ap (λ (g : Frame). c.in-Some.around.stack.items ++ record { frame = g; before = c.in-Some.around.list; depth = c.in-Some.around.depth } ∷ []) c.in-Then.is) in
    let said = c.in_ok-opened-in-Then.ensures in
    let here : c.next_token.result.place ≡ (first (ahead v c.args.at)).place = ap (λ (t : Token). t.place) c.next_token.ensures in
    subst (λ (q : Place). Reads (On us c.in_ok-opened-in-Then.field-0) (ahead v test.end) (takes_elsif (parts_in v) d q st (ahead v c.args.at))) here
    (elsif_read v us c.args.state c.in-Some.around c.args.at d c.next_token.result.place c.in-Then.tests c.push.new.self c.in-Then.place c.in-Then.test test.next test.end c.in_ok-opened-in-Then.field-0 st n e (whole_grows _ us kept c.args.state.list d h)
    c.in_ok-push-in-Then.ensures.items test.ensures.read test.ensures.within (record { list = said.list; stack = said.stack; point = said.point; depth = said.depth }))

pub returns-in_err-next-in-Then-clause-read : goal.returns-in_err-next-in-Then-clause-read
returns-in_err-next-in-Then-clause-read c d st h k e =
    let v = c.args.tokens.now in
    let ts = c.args.pool.now in
    let r = err_from_is_err_and c.from_residual-in_err-next-in-Then.result c.from_residual-in_err-next-in-Then.ensures.1 in
    let f = frame.Then c.in-Then.tests c.in-Then.place c.in-Then.test in
    let n = innermost_stands ts c.args.state.stack.items f c.in-Some.around st k (c.in-Some.ensures.some ∙ ap (λ (g : Frame). c.in-Some.around.stack.items ++ record { frame = g; before = c.in-Some.around.list; depth = c.in-Some.around.depth } ∷ []) c.in-Then.is) in
    rw (r.1, r.2) (elsif_failed v ts c.args.state c.in-Some.around c.args.at d (first (ahead v c.args.at)).place c.in-Then.tests c.in-Then.place c.in-Then.test st n e c.in_err-next-in-Then.field-0.0 c.in_err-next-in-Then.ensures.read)

pub returns-in_default-clause-read : goal.returns-in_default-clause-read
returns-in_default-clause-read c d st h k e =
    let us = ahead c.args.tokens.now c.args.at in
    let ts = c.args.pool.now in
    let n = innermost_stands ts c.args.state.stack.items c.in-Some.open c.in-Some.around st k c.in-Some.ensures.some in
    refused_as _ us _ c.refused_there-in_default.ensures (elsif_refused (parts_in c.args.tokens.now) ts c.in-Some.open c.in-Some.around st d (first us).place us n (not_then c.in-Some.open c.in_default.not-Then))
