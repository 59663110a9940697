-- Proves what is asked of `open_with`.
use Rattle.std.proofs.Common.{◌≡◌, ℕ, ◌+◌, refl, sym, ap, subst, ◌∙◌, arith, codes}
use Rattle.tla_tree.specs.Lexical.{Token}
use Rattle.tla_token.specs.declared.place.Place.{Place}
use Rattle.tla_tree.specs.Reader.{Out, Reader, ◌>>=◌, then_read, gives}
use Rattle.expr_nodes.specs.ReadIn.{Fails}
use Rattle.pcal_tree.specs.Algorithm as tree
use Rattle.pcal_tree.specs.GrammarParts.{Binds}
use Rattle.pcal_tree.specs.OpenForms.{after_binds}
use Rattle.algorithm_reader.proofs.Gathered.{fails_then}
use Rattle.std.proofs.lemmas.Result.{err_from_is_err_and}
use Rattle.expr_nodes.proofs.AheadLemmas.{ahead_tail}
use Rattle.expr_nodes.specs.Ahead.{ahead}
use Rattle.syntax_reading.specs.TokenReaders.{first, a_key}
use Rattle.syntax_reading.specs.ReadParts.{read_binds}
use Rattle.algorithm_reader.specs.PartsRead.{parts_in}
use Rattle.p_reading.specs.ReadStatements.{Turn, opens, in_with, depth}
use Rattle.p_syntax.proofs.Grows.{stands_grow}
use Rattle.algorithm_reader.proofs.StatementSteps.{goes_on}
use Rattle.p_syntax.proofs.Steps.{opened_stands}
use Rattle.p_syntax.proofs.opening.open_with.Goals as goal

pub returns-clause-read : goal.returns-clause-read
returns-clause-read c n b ls st enough h =
    let v = c.args.tokens.now in
    let p = (first (ahead v c.args.at)).place in
    let us = c.read_binds.new.pool in
    let e = c.in_ok-binds.ensures in
    let read = e.read n (omega (arith, enough)) in
    let said = c.in_ok-opened.ensures in
    let q = c.in_ok-end.field-0-0 in
    let place : c.next_token.result.place ≡ p = ap (λ (t : Token). t.place) c.next_token.ensures in
    let start = ap (λ d. read_binds (parts_in v) n d (ahead v (c.args.at + 1))) (sym h.depth) in
    record {
      what = opens (in_with p read.what q) b ls st;
      is =
          ap (read_binds (parts_in v) n (depth st) >>= λ bs. a_key (codes "do") >>= λ q. gives (opens (in_with p bs q) b ls st)) (sym (ahead_tail v c.args.at))
          ∙ goes_on (read_binds (parts_in v) n (depth st) (ahead v (c.args.at + 1))) (λ bs. a_key (codes "do") >>= λ q. gives (opens (in_with p bs q) b ls st)) _ _ _ (start ∙ read.is)
          (goes_on (a_key (codes "do") (ahead v c.in_ok-binds.end)) (λ q. gives (opens (in_with p read.what q) b ls st)) _ _ _ c.in_ok-end.ensures.value refl);
      told = opened_stands us c.args.state c.in_ok-opened.field-0 b ls st _ (in_with p read.what q) (stands_grow _ us e.kept c.args.state _ st h) (place, read.told.below, ap (λ (x : tree.Binds × ℕ). x.0) read.told.tree)
          said.list said.stack said.point (said.depth ∙ ap (λ (x : tree.Binds × ℕ). x.1) read.told.tree ∙ ap (λ d. after_binds d read.what) h.depth);
    }

pub returns-in_err-binds-clause-read : goal.returns-in_err-binds-clause-read
returns-in_err-binds-clause-read c n b ls st enough h =
    let v = c.args.tokens.now in
    let p = (first (ahead v c.args.at)).place in
    let r = err_from_is_err_and c.from_residual.result c.from_residual.ensures.1 in
    let e = c.in_err-binds.field-0.0 in
    let rest : Binds → Reader Turn = λ bs. a_key (codes "do") >>= λ q. gives (opens (in_with p bs q) b ls st) in
    let start = ap (λ d. read_binds (parts_in v) n d (ahead v (c.args.at + 1))) h.depth in
    rw (r.1, r.2) (subst (λ (o : Out Turn). Fails e o) (ap (λ (o : Out Binds). then_read o rest) start ∙ ap (read_binds (parts_in v) n (depth st) >>= rest) (ahead_tail v c.args.at)) (fails_then e _ rest (c.in_err-binds.ensures.read n (omega (arith, enough)))))

pub returns-in_err-end-clause-read : goal.returns-in_err-end-clause-read
returns-in_err-end-clause-read c n b ls st enough h =
    let v = c.args.tokens.now in
    let p = (first (ahead v c.args.at)).place in
    let r = err_from_is_err_and c.from_residual-in_err-end.result c.from_residual-in_err-end.ensures.1 in
    let e = c.in_err-end.field-0.0 in
    let read = c.in_ok-binds.ensures.read n (omega (arith, enough)) in
    let last : Binds → Place → Reader Turn = λ bs q. gives (opens (in_with p bs q) b ls st) in
    let rest : Binds → Reader Turn = λ bs. a_key (codes "do") >>= last bs in
    let start = ap (λ d. read_binds (parts_in v) n d (ahead v (c.args.at + 1))) h.depth in
    rw (r.1, r.2) (subst (λ (o : Out Turn). Fails e o) (sym (ap (λ (o : Out Binds). then_read o rest) read.is) ∙ ap (λ (o : Out Binds). then_read o rest) start ∙ ap (read_binds (parts_in v) n (depth st) >>= rest) (ahead_tail v c.args.at))
    (fails_then e (a_key (codes "do") (ahead v c.in_ok-binds.end)) (last read.what) c.in_err-end.ensures.value))
