-- Proves what is asked of `set_behind`.
use Rattle.std.proofs.Common.{ℕ, Some, sym, ◌∙◌}
use Rattle.std.proofs.lemmas.Result.{err_from_is_err_and}
use Rattle.tla_token.specs.TokensSeen.{span_bytes}
use Rattle.tla_tree.specs.Reader.{behind}
use Rattle.tla_tree.specs.Whole.{whole_in}
use Rattle.expr_operands.specs.declared.read_element.Parted.{Parted}
use Rattle.expr_nodes.specs.Ahead.{ahead}
use Rattle.expr_operands.specs.ShortForms.{IsParted}
use Rattle.expr_nodes.proofs.MakeLemmas.{kept_in}
use Rattle.expr_rows.proofs.ReadCode.{fails_step, told_step}
use Rattle.expr_rows.proofs.ReadGrown.{chain_in}
use Rattle.expr_operands.proofs.ReadShort.{first_plain, plain_out, behind_is}
use Rattle.expr_operands.proofs.ReadElement.{told_weaker}
use Rattle.expr_operands.proofs.read_element.set_behind.Goals as goal

pub returns-in_err-a-clause-read : goal.returns-in_err-a-clause-read
returns-in_err-a-clause-read g c =
    let v = c.args.tokens.now in
    let s = c.args.s in
    let x = span_bytes v.bytes.items c.args.word.span in
    let p = err_from_is_err_and c.from_residual-in_err-a.result c.from_residual-in_err-a.ensures.1 in
    rw (p.1, p.2) (fails_step _ _ _ (λ a. (whole_in c.args.s.linked (Some s.left)).climb s.edge (behind c.args.word.place x c.args.sign) a) (behind_is _ s.left s.edge (ahead v s.at) c.args.word.place x c.args.sign) c.in_err-a.ensures.read)

pub climb-requires-clause-some : goal.climb-requires-clause-some
climb-requires-clause-some g c =
    let v = c.args.tokens.now in
    let s = c.args.s in
    let x = span_bytes v.bytes.items c.args.word.span in
    let one = c.in_ok-a.ensures in
    let two = c.in_ok-element.ensures in
    let named = kept_in one.kept (c.in_ok-x.ensures.read s.linked) in
    let plain = plain_out (first_plain _ s.left s.edge (ahead v s.at)) one.read.is in
    record {
      place = c.args.word.place;
      word_of = x;
      sign = c.args.sign;
      what = one.read.what;
      told = record { named = kept_in two.kept named; set = kept_in two.kept one.read.told; part = two.read _ one.read.what c.args.word.place c.args.sign x plain named one.read.told };
    }

pub returns-clause-read : goal.returns-clause-read
returns-clause-read g c =
    let v = c.args.tokens.now in
    let s = c.args.s in
    let p = c.args.word.place in
    let q = c.args.sign in
    let x = span_bytes v.bytes.items c.args.word.span in
    let one = c.in_ok-a.ensures in
    let two = c.in_ok-element.ensures in
    let named = kept_in one.kept (c.in_ok-x.ensures.read s.linked) in
    told_step _ _ c.climb.result _ _ (λ a. (whole_in c.args.s.linked (Some s.left)).climb s.edge (behind p x q) a) (behind_is _ s.left s.edge (ahead v s.at) p x q) one.read (λ i h.
    let plain = sym (chain_in one.read.told) ∙ plain_out (first_plain _ s.left s.edge (ahead v s.at)) one.read.is in
    told_weaker (λ (y : Parted × ℕ) j. IsParted c.args.s.linked c.climb.new.pool p x q c.in_ok-x.x y.0 j) _ _ c.climb.result _ (λ y j k. (k.set, k.part))
    (c.climb.ensures.read i p q x (record { named = kept_in two.kept named; set = kept_in two.kept h; part = two.read _ i p q x (chain_in h ∙ plain) named h })))
