-- Proves what is asked of the readers of items that call one another.
use Rattle.std.proofs.Common.{List, ℕ, arith, refl, sym, ap, ◌∙◌, subst}
use Rattle.std.proofs.lemmas.Result.{err_from_is_err_and}
use Rattle.tla_token.specs.declared.token.Tokens.{Tokens}
use Rattle.tla_token.specs.TokensSeen.{span_bytes}
use Rattle.tla_tree.specs.Tree.{Tree}
use Rattle.tla_tree.specs.Lexical.{Token}
use Rattle.tla_tree.specs.Reader.{skip}
use Rattle.tla_tree.proofs.PoolNumbers.{Keeps-then}
use Rattle.expr_nodes.specs.declared.view.View.TheVariants as view
use Rattle.expr_nodes.specs.declared.view.Key.TheVariants as key
use Rattle.expr_nodes.specs.Ahead.{ahead}
use Rattle.expr_nodes.specs.ReadIn.{Told}
use Rattle.expr_rows.proofs.ReadGrown.{same_pool}
use Rattle.expr_rows.proofs.ReadLemmas.{told_then, told_on}
use Rattle.module_tree.specs.Grammar.{ItemForm, choice_form}
use Rattle.module_write.specs.declared.«module».Item.{Item}
use Rattle.region_reading.specs.ItemReader.{exists_from, local_from, choice_from, setting_from, whole_items}
use Rattle.region_items.specs.Begins.{bound}
use Rattle.region_items.specs.Stand.{IsItem}
use Rattle.region_items.proofs.OpeningRead.{inside_told, opened_lost}
use Rattle.region_items.proofs.ItemsStand.{tree_kept, items_kept, choice_stands}
use Rattle.region_items.proofs.ItemsGathered.{no_items_so_far, items_next, items_last, items_fail, no_branches_so_far, branches_next, branches_last, branches_fail}
use Rattle.region_items.proofs.ItemFirst.{item_told, item_fails, no_item_here, no_key_here, no_sign_here, either_deep, either_told, either_fails, no_list_here, list_deep, list_told}
use Rattle.region_items.proofs.items.+items.Goals as goal

-- ---- IF
pub choice-returns-clause-read : goal.choice-returns-clause-read
choice-returns-clause-read t c p =
    let one = c.in_ok-test.ensures in
    let first = c.in_ok-first.ensures in
    let other = c.in_ok-other.ensures in
    told_then _ _ one.read (λ a ia. told_on _ _ _ c.in_ok-at.ensures.value (told_then _ _ first.read (λ is ii. told_on _ _ _ c.in_ok-at-2.ensures.value (told_then _ _ other.read (λ js ij. record {
      what = choice_form p a c.in_ok-at.field-0-0 is c.in_ok-at-2.field-0-0 js;
      is = refl;
      told = choice_stands _ _ p c.in_ok-at.field-0-0 c.in_ok-at-2.field-0-0 (tree_kept (Keeps-then _ _ _ first.kept other.kept) ia) (items_kept other.kept ii) ij;
    })))))

-- ---- lists of items
pub items-loop-all-init : goal.items-loop-all-init
items-loop-all-init t c =
    let s = c.args.s in
    record {
      so_far = no_items_so_far s.left s.edge c.args.col c.args.pool.now (ahead c.args.tokens.now s.at) c.new-all.result.items c.new-all.ensures.items;
      kept = same_pool;
      inside = c.requires.given.there;
      further = omega arith;
    }

pub items-loop-all-preserved : goal.items-loop-all-preserved
items-loop-all-preserved t c =
    let s = c.args.s in
    let one = c.in_ok-one.ensures in
    let so = c.loop-all.invariant in
    record {
      so_far = rw c.in_ok-push.ensures.items (items_next s.left s.edge c.args.col one.kept so.so_far one.read (sym c.is_bullet_next.ensures ∙ c.if-not-is_bullet_next.false));
      kept = Keeps-then _ _ _ so.kept one.kept;
      inside = one.inside;
      further = omega (arith, so.further, one.further);
    }

pub items-returns-then-not-is_bullet_next-clause-read : goal.items-returns-then-not-is_bullet_next-clause-read
items-returns-then-not-is_bullet_next-clause-read t c =
    let s = c.args.s in
    let one = c.in_ok-one.ensures in
    rw c.in_ok-push.ensures.items (items_last s.left s.edge c.args.col one.kept c.loop-all.invariant.so_far one.read (sym c.is_bullet_next.ensures ∙ c.if-not-is_bullet_next.true))

pub items-returns-in_err-one-clause-read : goal.items-returns-in_err-one-clause-read
items-returns-in_err-one-clause-read t c =
    let s = c.args.s in
    let p = err_from_is_err_and c.from_residual.result c.from_residual.ensures.1 in
    rw (p.1, p.2) (items_fail s.left s.edge c.args.col c.in_err-one.field-0.0 c.loop-all.invariant.so_far c.in_err-one.ensures.read)

-- ---- branches
pub branches-loop-all-init : goal.branches-loop-all-init
branches-loop-all-init t c =
    let s = c.args.s in
    record {
      so_far = no_branches_so_far s.left s.edge c.args.col c.args.pool.now (ahead c.args.tokens.now s.at) c.new-all.result.items c.new-all.ensures.items;
      kept = same_pool;
      inside = c.requires.given.there;
      further = omega arith;
    }

pub branches-loop-all-preserved : goal.branches-loop-all-preserved
branches-loop-all-preserved t c =
    let s = c.args.s in
    let one = c.in_ok-one.ensures in
    let so = c.loop-all.invariant in
    record {
      so_far = rw c.in_ok-push.ensures.items (branches_next s.left s.edge c.args.col one.kept so.so_far _ one.read (sym c.is_bullet_next.ensures ∙ c.if-not-is_bullet_next.false));
      kept = Keeps-then _ _ _ so.kept one.kept;
      inside = one.inside;
      further = omega (arith, so.further, one.further);
    }

pub branches-returns-then-not-is_bullet_next-clause-read : goal.branches-returns-then-not-is_bullet_next-clause-read
branches-returns-then-not-is_bullet_next-clause-read t c =
    let s = c.args.s in
    let one = c.in_ok-one.ensures in
    rw c.in_ok-push.ensures.items (branches_last s.left s.edge c.args.col one.kept c.loop-all.invariant.so_far _ one.read (sym c.is_bullet_next.ensures ∙ c.if-not-is_bullet_next.true))

pub branches-returns-in_err-one-clause-read : goal.branches-returns-in_err-one-clause-read
branches-returns-in_err-one-clause-read t c =
    let s = c.args.s in
    let p = err_from_is_err_and c.from_residual.result c.from_residual.ensures.1 in
    rw (p.1, p.2) (branches_fail s.left s.edge c.args.col c.in_err-one.field-0.0 c.loop-all.invariant.so_far c.in_err-one.ensures.read)

-- ---- a list, by its first token
pub list-returns-in_err-d-clause-read : goal.list-returns-in_err-d-clause-read
list-returns-in_err-d-clause-read t c =
    let v = c.args.tokens.now in
    let s = c.args.s in
    let p = err_from_is_err_and c.from_residual.result c.from_residual.ensures.1 in
    rw (p.1, p.2) (list_deep v.bytes.items s.left s.edge (ahead v s.at) _ _ c.next_at-t.ensures c.in_err-d.field-0.0 (sym (c.is_sign.ensures v.bytes.items) ∙ c.if-is_sign.true) c.in_err-d.ensures.deep c.in_err-d.ensures.refused)

pub list-returns-in_ok-d-clause-read : goal.list-returns-in_ok-d-clause-read
list-returns-in_ok-d-clause-read t c =
    let v = c.args.tokens.now in
    let s = c.args.s in
    let d = c.in_ok-d.d in
    list_told v.bytes.items s.left s.edge (ahead v s.at) _ _ c.next_at-t.ensures _ _ c.items.result d.left d.edge (ahead v d.at) (sym (c.is_sign.ensures v.bytes.items) ∙ c.if-is_sign.true) c.in_ok-d.ensures.left c.in_ok-d.ensures.edge (ap (ahead v) c.in_ok-d.ensures.at) c.items.ensures.read

pub list-returns-else-is_sign-clause-read : goal.list-returns-else-is_sign-clause-read
list-returns-else-is_sign-clause-read t c =
    let v = c.args.tokens.now in
    let s = c.args.s in
    no_list_here v.bytes.items s.left s.edge (ahead v s.at) _ _ c.next_at-t.ensures _ c.refused.ensures (sym (c.is_sign.ensures v.bytes.items) ∙ c.if-is_sign.false)

-- ---- an item, by its first token
abbrev Says : List Tree → Item × ℕ → ItemForm → Type 0
Says ts x f = IsItem ts x.0 f

abbrev rest_in : Tokens → Item × ℕ → List Token
rest_in v x = ahead v x.1

pub item-returns-in-Mark-clause-read : goal.item-returns-in-Mark-clause-read
item-returns-in-Mark-clause-read t c =
    let v = c.args.tokens.now in
    let s = c.args.s in
    item_told v.bytes.items s.left s.edge (ahead v s.at) c.next_at-t.result.place c.next_at-t.result.view c.next_at-t.ensures (Says c.marked.new.pool) (rest_in v) c.marked.result (view.Mark c.in-Mark.mark) c.in-Mark.is
    (c.marked.ensures.read whole_items c.next_at-t.result.place)

pub item-returns-in-Other-clause-read : goal.item-returns-in-Other-clause-read
item-returns-in-Other-clause-read t c =
    let v = c.args.tokens.now in
    let s = c.args.s in
    item_told v.bytes.items s.left s.edge (ahead v s.at) c.next_at-t.result.place c.next_at-t.result.view c.next_at-t.ensures (Says c.args.pool.now) (rest_in v) c.keyworded.result (view.Other c.in-Other.word) c.in-Other.is
    (c.keyworded.ensures.read whole_items c.next_at-t.result.place c.args.pool.now)

pub item-returns-in-Word-clause-read : goal.item-returns-in-Word-clause-read
item-returns-in-Word-clause-read t c =
    let v = c.args.tokens.now in
    let s = c.args.s in
    let p = c.next_at-t.result.place in
    let x = span_bytes v.bytes.items c.in-Word.word in
    item_told v.bytes.items s.left s.edge (ahead v s.at) p c.next_at-t.result.view c.next_at-t.ensures (Says c.setting.new.pool) (rest_in v) c.setting.result (view.Word c.in-Word.word) c.in-Word.is
    (subst (λ (us : List Token). Told (Says c.setting.new.pool) (rest_in v) c.setting.result (setting_from (bound s.left) s.edge p x us)) c.after-at.ensures.rest (c.setting.ensures.read p))

pub item-returns-in_ok-inside-in-Exists-clause-read : goal.item-returns-in_ok-inside-in-Exists-clause-read
item-returns-in_ok-inside-in-Exists-clause-read t c =
    let v = c.args.tokens.now in
    let s = c.args.s in
    let p = c.next_at-t.result.place in
    let d = c.in_ok-inside-in-Exists.ensures in
    item_told v.bytes.items s.left s.edge (ahead v s.at) p c.next_at-t.result.view c.next_at-t.ensures (Says c.exists.new.pool) (rest_in v) c.exists.result (view.Key key.Exists) (c.in-Key.is ∙ ap view.Key c.in-Exists.is)
    (inside_told (Says c.exists.new.pool) (rest_in v) c.exists.result (λ n e. exists_from n whole_items e p) s.left _ s.edge _ (ahead v s.at) _ d.left d.edge d.rest (c.exists.ensures.read p))

pub item-returns-in_err-inside-in-Exists-clause-read : goal.item-returns-in_err-inside-in-Exists-clause-read
item-returns-in_err-inside-in-Exists-clause-read t c =
    let v = c.args.tokens.now in
    let s = c.args.s in
    let p = c.next_at-t.result.place in
    let d = c.in_err-inside-in-Exists in
    let q = err_from_is_err_and c.from_residual.result c.from_residual.ensures.1 in
    rw (q.1, q.2) (item_fails v.bytes.items s.left s.edge (ahead v s.at) p c.next_at-t.result.view c.next_at-t.ensures d.field-0.0 (view.Key key.Exists) (c.in-Key.is ∙ ap view.Key c.in-Exists.is)
    (opened_lost s.left (λ n. skip (exists_from n whole_items s.edge p)) (ahead v s.at) d.field-0.0 d.ensures.deep d.ensures.refused))

pub item-returns-in_ok-inside-in-Let-clause-read : goal.item-returns-in_ok-inside-in-Let-clause-read
item-returns-in_ok-inside-in-Let-clause-read t c =
    let v = c.args.tokens.now in
    let s = c.args.s in
    let p = c.next_at-t.result.place in
    let d = c.in_ok-inside-in-Let.ensures in
    item_told v.bytes.items s.left s.edge (ahead v s.at) p c.next_at-t.result.view c.next_at-t.ensures (Says c.local.new.pool) (rest_in v) c.local.result (view.Key key.Let) (c.in-Key.is ∙ ap view.Key c.in-Let.is)
    (inside_told (Says c.local.new.pool) (rest_in v) c.local.result (λ n e. local_from n whole_items e p) s.left _ s.edge _ (ahead v s.at) _ d.left d.edge d.rest (c.local.ensures.read p))

pub item-returns-in_err-inside-in-Let-clause-read : goal.item-returns-in_err-inside-in-Let-clause-read
item-returns-in_err-inside-in-Let-clause-read t c =
    let v = c.args.tokens.now in
    let s = c.args.s in
    let p = c.next_at-t.result.place in
    let d = c.in_err-inside-in-Let in
    let q = err_from_is_err_and c.from_residual-in_err-inside-in-Let.result c.from_residual-in_err-inside-in-Let.ensures.1 in
    rw (q.1, q.2) (item_fails v.bytes.items s.left s.edge (ahead v s.at) p c.next_at-t.result.view c.next_at-t.ensures d.field-0.0 (view.Key key.Let) (c.in-Key.is ∙ ap view.Key c.in-Let.is)
    (opened_lost s.left (λ n. skip (local_from n whole_items s.edge p)) (ahead v s.at) d.field-0.0 d.ensures.deep d.ensures.refused))

pub item-returns-in_ok-inside-in-If-clause-read : goal.item-returns-in_ok-inside-in-If-clause-read
item-returns-in_ok-inside-in-If-clause-read t c =
    let v = c.args.tokens.now in
    let s = c.args.s in
    let p = c.next_at-t.result.place in
    let d = c.in_ok-inside-in-If.ensures in
    item_told v.bytes.items s.left s.edge (ahead v s.at) p c.next_at-t.result.view c.next_at-t.ensures (Says c.choice.new.pool) (rest_in v) c.choice.result (view.Key key.If) (c.in-Key.is ∙ ap view.Key c.in-If.is)
    (inside_told (Says c.choice.new.pool) (rest_in v) c.choice.result (λ n e. choice_from n whole_items e p) s.left _ s.edge _ (ahead v s.at) _ d.left d.edge d.rest (c.choice.ensures.read p))

pub item-returns-in_err-inside-in-If-clause-read : goal.item-returns-in_err-inside-in-If-clause-read
item-returns-in_err-inside-in-If-clause-read t c =
    let v = c.args.tokens.now in
    let s = c.args.s in
    let p = c.next_at-t.result.place in
    let d = c.in_err-inside-in-If in
    let q = err_from_is_err_and c.from_residual-in_err-inside-in-If.result c.from_residual-in_err-inside-in-If.ensures.1 in
    rw (q.1, q.2) (item_fails v.bytes.items s.left s.edge (ahead v s.at) p c.next_at-t.result.view c.next_at-t.ensures d.field-0.0 (view.Key key.If) (c.in-Key.is ∙ ap view.Key c.in-If.is)
    (opened_lost s.left (λ n. skip (choice_from n whole_items s.edge p)) (ahead v s.at) d.field-0.0 d.ensures.deep d.ensures.refused))

pub item-returns-in_default-key : goal.item-returns-in_default-key
item-returns-in_default-key t c =
    let v = c.args.tokens.now in
    let s = c.args.s in
    let no = c.in_default-key in
    record {
      read = no_key_here v.bytes.items s.left s.edge (ahead v s.at) _ _ c.next_at-t.ensures c.refused.result c.refused.ensures c.in-Key.key c.in-Key.is no.not-Exists no.not-Let no.not-If;
      kept = same_pool;
      inside = tt;
      further = tt;
    }

pub item-returns-in_default-op : goal.item-returns-in_default-op
item-returns-in_default-op t c =
    let v = c.args.tokens.now in
    let s = c.args.s in
    record {
      read = no_sign_here v.bytes.items s.left s.edge (ahead v s.at) _ _ c.next_at-t.ensures c.refused-in_default-op.result c.refused-in_default-op.ensures c.in-Sign.op c.in-Sign.is c.in_default-op.not-Or;
      kept = same_pool;
      inside = tt;
      further = tt;
    }

pub item-returns-in_default-clause-read : goal.item-returns-in_default-clause-read
item-returns-in_default-clause-read t c =
    let v = c.args.tokens.now in
    let s = c.args.s in
    let no = c.in_default in
    no_item_here v.bytes.items s.left s.edge (ahead v s.at) _ _ c.next_at-t.ensures c.refused-in_default.result c.refused-in_default.ensures no.not-Mark no.not-Other no.not-Word no.not-Key no.not-Sign

pub item-returns-in_err-d-in-Or-clause-read : goal.item-returns-in_err-d-in-Or-clause-read
item-returns-in_err-d-in-Or-clause-read t c =
    let v = c.args.tokens.now in
    let s = c.args.s in
    let d = c.in_err-d-in-Or in
    let q = err_from_is_err_and c.from_residual-in_err-d-in-Or.result c.from_residual-in_err-d-in-Or.ensures.1 in
    rw (q.1, q.2) (either_deep v.bytes.items s.left s.edge (ahead v s.at) c.next_at-t.result.place c.next_at-t.result.view c.next_at-t.ensures c.in-Sign.op c.in-Sign.is c.in-Or.is d.field-0.0 d.ensures.deep d.ensures.refused)

pub item-returns-in_ok-all-in-Or-clause-read : goal.item-returns-in_ok-all-in-Or-clause-read
item-returns-in_ok-all-in-Or-clause-read t c =
    let v = c.args.tokens.now in
    let s = c.args.s in
    let d = c.in_ok-d-in-Or in
    either_told v.bytes.items s.left s.edge (ahead v s.at) c.next_at-t.result.place c.next_at-t.result.view c.next_at-t.ensures c.in-Sign.op c.in-Sign.is c.in-Or.is
    d.d.left d.d.edge (ahead v d.d.at) d.ensures.left d.ensures.edge (ap (ahead v) d.ensures.at) c.in_ok-all-in-Or.all c.in_ok-all-in-Or.ensures.read

pub item-returns-in_err-all-in-Or-clause-read : goal.item-returns-in_err-all-in-Or-clause-read
item-returns-in_err-all-in-Or-clause-read t c =
    let v = c.args.tokens.now in
    let s = c.args.s in
    let d = c.in_ok-d-in-Or in
    let w = c.in_err-all-in-Or.field-0.0 in
    let q = err_from_is_err_and c.from_residual-in_err-all-in-Or.result c.from_residual-in_err-all-in-Or.ensures.1 in
    rw (q.1, q.2) (either_fails v.bytes.items s.left s.edge (ahead v s.at) c.next_at-t.result.place c.next_at-t.result.view c.next_at-t.ensures c.in-Sign.op c.in-Sign.is c.in-Or.is
    d.d.left d.d.edge (ahead v d.d.at) d.ensures.left d.ensures.edge (ap (ahead v) d.ensures.at) w c.in_err-all-in-Or.ensures.read)
