-- Proves what is asked of `open_with`.
use Rattle.std.proofs.Common.{◌≡◌, ◌+◌, List, refl, sym, ap, subst, ◌∙◌, arith}
use Rattle.std.proofs.lemmas.Result.{err_from_is_err_and}
use Rattle.expr_nodes.specs.ReadIn.{Fails}
use Rattle.algorithm_reader.proofs.Gathered.{fails_then}
use Rattle.tla_token.specs.declared.place.Place.{Place}
use Rattle.tla_tree.specs.Lexical.{Token}
use Rattle.tla_tree.specs.Lexical as tk
use Rattle.tla_tree.specs.Reader.{Reader, ◌>>=◌, gives}
use Rattle.expr_nodes.proofs.AheadLemmas.{ahead_tail}
use Rattle.expr_nodes.specs.Ahead.{ahead}
use Rattle.pcal_tree.specs.GrammarParts.{Binds}
use Rattle.pcal_tree.specs.OpenForms.{after_binds}
use Rattle.syntax_reading.specs.TokenReaders.{first, a_mark}
use Rattle.syntax_reading.specs.ReadParts.{read_binds}
use Rattle.algorithm_reader.specs.PartsRead.{parts_in}
use Rattle.algorithm_reader.proofs.StatementSteps.{goes_on}
use Rattle.c_reading.specs.ReadStatements.{Stack, Turn, opens, bracketed, in_body, with_opening, depth}
use Rattle.c_syntax.specs.declared.open.Frame.TheVariants as frame
use Rattle.c_syntax.proofs.Steps.{fails_on, stands_kept, begun_stands, opened_stands}
use Rattle.c_syntax.proofs.opening.open_with.Goals as goal

pub returns-clause-read : goal.returns-clause-read
returns-clause-read c n ls st enough h =
    let v = c.args.tokens.now in
    let p = (first (ahead v c.args.at)).place in
    let us = c.read_binds.new.pool in
    let e = c.in_ok-binds.ensures in
    let read = e.read n (omega (arith, enough, c.in_ok-end.ensures.further)) in
    let said = c.in_ok-opened.ensures in
    let place : c.next_token.result.place ≡ p = ap (λ (t : Token). t.place) c.next_token.ensures in
    let grown = stands_kept _ us e.kept c.args.state _ st h in
    let start = ap (λ d. read_binds (parts_in v) n d (ahead v c.in_ok-end.end)) (sym h.depth) in
    let opens_it : Place → Binds → Place → Stack = λ q bs r. in_body ls (with_opening p q bs r) st in
    let reads : Reader Turn = bracketed (read_binds (parts_in v) n (depth st)) (λ q bs r. opens (opens_it q bs r)) in
    record {
      what = opens (opens_it c.in_ok-end.field-0-0 read.what c.in_ok-end-2.field-0-0);
      is =
          ap reads (sym (ahead_tail v c.args.at))
          ∙ goes_on (a_mark tk.open_bracket (ahead v (c.args.at + 1))) (λ q. read_binds (parts_in v) n (depth st) >>= λ bs. a_mark tk.close_bracket >>= λ r. gives (opens (opens_it q bs r))) _ _ _ c.in_ok-end.ensures.value
          (goes_on (read_binds (parts_in v) n (depth st) (ahead v c.in_ok-end.end)) (λ bs. a_mark tk.close_bracket >>= λ r. gives (opens (opens_it c.in_ok-end.field-0-0 bs r))) _ _ _ (start ∙ read.is)
          (goes_on (a_mark tk.close_bracket (ahead v c.in_ok-binds.end)) (λ r. gives (opens (opens_it c.in_ok-end.field-0-0 read.what r))) _ _ _ c.in_ok-end-2.ensures.value refl));
      told = opened_stands us c.in_ok-opened.field-0 c.args.state.stack.items (record { frame = frame.With (record { list = c.args.state.list; first = c.next_token.result.place }) c.in_ok-binds.binds; depth = c.args.state.depth })
          (opens_it c.in_ok-end.field-0-0 read.what c.in_ok-end-2.field-0-0) refl grown.stack
          (record { frame = (begun_stands us c.args.state ls c.next_token.result.place p st grown place, read.told.below, ap (λ x. x.0) read.told.tree); depth = h.depth })
          said.list said.stack said.point (said.depth ∙ ap (λ x. x.1) read.told.tree ∙ ap (λ d. after_binds d read.what) h.depth);
    }

pub returns-in_err-end-clause-read : goal.returns-in_err-end-clause-read
returns-in_err-end-clause-read c n ls st enough h =
    let v = c.args.tokens.now in
    let p = err_from_is_err_and c.from_residual.result c.from_residual.ensures.1 in
    let e = c.in_err-end.field-0.0 in
    let opens_it : Place → Binds → Place → Stack = λ q bs r. in_body ls (with_opening (first (ahead v c.args.at)).place q bs r) st in
    let reads : Reader Turn = bracketed (read_binds (parts_in v) n (depth st)) (λ q bs r. opens (opens_it q bs r)) in
    rw (p.1, p.2) (subst (λ (us : List Token). Fails e (reads us)) (ahead_tail v c.args.at)
    (fails_then e (a_mark tk.open_bracket (ahead v (c.args.at + 1))) (λ q. read_binds (parts_in v) n (depth st) >>= λ bs. a_mark tk.close_bracket >>= λ r. gives (opens (opens_it q bs r))) c.in_err-end.ensures.value))

pub returns-in_err-binds-clause-read : goal.returns-in_err-binds-clause-read
returns-in_err-binds-clause-read c n ls st enough h =
    let v = c.args.tokens.now in
    let p = err_from_is_err_and c.from_residual-in_err-binds.result c.from_residual-in_err-binds.ensures.1 in
    let e = c.in_err-binds.field-0.0 in
    let opens_it : Place → Binds → Place → Stack = λ q bs r. in_body ls (with_opening (first (ahead v c.args.at)).place q bs r) st in
    let reads : Reader Turn = bracketed (read_binds (parts_in v) n (depth st)) (λ q bs r. opens (opens_it q bs r)) in
    let fails : Fails e (read_binds (parts_in v) n (depth st) (ahead v c.in_ok-end.end)) =
    subst (λ d. Fails e (read_binds (parts_in v) n d (ahead v c.in_ok-end.end))) h.depth (c.in_err-binds.ensures.read n (omega (arith, enough, c.in_ok-end.ensures.further))) in
    rw (p.1, p.2) (subst (λ (us : List Token). Fails e (reads us)) (ahead_tail v c.args.at)
    (fails_on e (a_mark tk.open_bracket (ahead v (c.args.at + 1))) (λ q. read_binds (parts_in v) n (depth st) >>= λ bs. a_mark tk.close_bracket >>= λ r. gives (opens (opens_it q bs r))) _ _ c.in_ok-end.ensures.value
    (fails_then e (read_binds (parts_in v) n (depth st) (ahead v c.in_ok-end.end)) (λ bs. a_mark tk.close_bracket >>= λ r. gives (opens (opens_it c.in_ok-end.field-0-0 bs r))) fails)))

pub returns-in_err-end-2-clause-read : goal.returns-in_err-end-2-clause-read
returns-in_err-end-2-clause-read c n ls st enough h =
    let v = c.args.tokens.now in
    let p = err_from_is_err_and c.from_residual-in_err-end-2.result c.from_residual-in_err-end-2.ensures.1 in
    let e = c.in_err-end-2.field-0.0 in
    let opens_it : Place → Binds → Place → Stack = λ q bs r. in_body ls (with_opening (first (ahead v c.args.at)).place q bs r) st in
    let reads : Reader Turn = bracketed (read_binds (parts_in v) n (depth st)) (λ q bs r. opens (opens_it q bs r)) in
    let read = c.in_ok-binds.ensures.read n (omega (arith, enough, c.in_ok-end.ensures.further)) in
    let start = ap (λ d. read_binds (parts_in v) n d (ahead v c.in_ok-end.end)) (sym h.depth) in
    rw (p.1, p.2) (subst (λ (us : List Token). Fails e (reads us)) (ahead_tail v c.args.at)
    (fails_on e (a_mark tk.open_bracket (ahead v (c.args.at + 1))) (λ q. read_binds (parts_in v) n (depth st) >>= λ bs. a_mark tk.close_bracket >>= λ r. gives (opens (opens_it q bs r))) _ _ c.in_ok-end.ensures.value
    (fails_on e (read_binds (parts_in v) n (depth st) (ahead v c.in_ok-end.end)) (λ bs. a_mark tk.close_bracket >>= λ r. gives (opens (opens_it c.in_ok-end.field-0-0 bs r))) _ _ (start ∙ read.is)
    (fails_then e (a_mark tk.close_bracket (ahead v c.in_ok-binds.end)) (λ r. gives (opens (opens_it c.in_ok-end.field-0-0 read.what r))) c.in_err-end-2.ensures.value))))
