-- Proves what is asked of `locals`.
use Rattle.std.proofs.Common.{◌≡◌, ℕ, List, [], ◌∷◌, ◌++◌, length-append, arith, refl, ap, ◌∙◌}
use Rattle.std.proofs.lemmas.Result.{err_from_is_err_and}
use Rattle.tla_tree.specs.Tree.{Name}
use Rattle.tla_tree.specs.Spelling.{named}
use Rattle.tla_tree.proofs.PoolNumbers.{Keeps-then}
use Rattle.expr_nodes.specs.ReadIn.{word_seen}
use Rattle.expr_lists.proofs.ReadLocals.{locals_first, locals_next, locals_fails, first_fails}
use Rattle.expr_lists.proofs.read_locals.locals.Goals as goal

pub loop-word-init : goal.loop-word-init
loop-word-init g c =
    let s = c.args.s in
    let v = c.args.tokens.now in
    let one = c.in_ok-a.ensures in
    let more = c.in_ok-keep.ensures in
    let z = word_seen v.bytes.items c.in_ok-word.word in
    let names : c.keep.new.many.names.items ≡ named z.0 z.1 ∷ [] = more.names ∙ ap (λ (xs : List Name). xs ++ named z.0 z.1 ∷ []) c.new.ensures.items in
    let items : c.keep.new.many.ids.items ≡ c.in_ok-a.a.id ∷ [] = more.ids ∙ ap (λ (is : List ℕ). is ++ c.in_ok-a.a.id ∷ []) c.new-2.ensures.items in
    let nesting : c.keep.new.many.nesting ≡ c.in_ok-a.a.shape.nesting = omega (arith, more.nesting) in
    record {
      row = rw (names, items, nesting) (locals_first _ v s.left s.edge s.at c.in_ok-word.from c.in_ok-a.next z c.in_ok-word.ensures.value one.read);
      kept = one.kept;
      some = rw names (omega arith);
      as_many = rw (names, items) refl;
      small = omega (arith, nesting, one.stands.1);
      inside = one.stands.2;
      further = omega (arith, c.in_ok-word.ensures.further, one.stands.3);
    }

pub loop-word-preserved : goal.loop-word-preserved
loop-word-preserved g c =
    let s = c.args.s in
    let v = c.args.tokens.now in
    let one = c.in_ok-a-2.ensures in
    let more = c.in_ok-keep-2.ensures in
    let so = c.loop-word.invariant in
    let z = word_seen v.bytes.items c.in-Some.word in
    let next = locals_next _ v s.left s.edge s.at c.loop-word.at so.row z c.in-Some.ensures.there c.in-Some.from c.in-Some.ensures.rest c.in_ok-a-2.next one.kept one.read in
    record {
      row = rw (more.names, more.ids, more.nesting) next;
      kept = Keeps-then _ _ _ so.kept one.kept;
      some = rw more.names (omega (arith, length-append c.loop-word.many.names.items (named z.0 z.1 ∷ [])));
      as_many = rw (more.names, more.ids) (omega (arith, length-append c.loop-word.many.names.items (named z.0 z.1 ∷ []), length-append c.loop-word.many.ids.items (c.in_ok-a-2.a.id ∷ []), so.as_many));
      small = omega (arith, more.nesting, so.small, one.stands.1);
      inside = one.stands.2;
      further = omega (arith, so.further, c.in-Some.ensures.further, one.stands.3);
    }

pub returns-in_err-a-clause-read : goal.returns-in_err-a-clause-read
returns-in_err-a-clause-read g c =
    let s = c.args.s in
    let v = c.args.tokens.now in
    let p = err_from_is_err_and c.from_residual-in_err-a.result c.from_residual-in_err-a.ensures.1 in
    rw (p.1, p.2) (first_fails _ v s.left s.edge s.at c.in_ok-word.from (word_seen v.bytes.items c.in_ok-word.word) c.in_err-a.field-0.0 c.in_ok-word.ensures.value c.in_err-a.ensures.read)

pub returns-in_err-a-2-clause-read : goal.returns-in_err-a-2-clause-read
returns-in_err-a-2-clause-read g c =
    let s = c.args.s in
    let v = c.args.tokens.now in
    let p = err_from_is_err_and c.from_residual-in_err-a-2.result c.from_residual-in_err-a-2.ensures.1 in
    rw (p.1, p.2) (locals_fails _ v s.left s.edge s.at c.loop-word.at c.loop-word.invariant.row (word_seen v.bytes.items c.in-Some.word) c.in-Some.ensures.there c.in-Some.from c.in-Some.ensures.rest c.in_err-a-2.field-0.0 c.in_err-a-2.ensures.read)
