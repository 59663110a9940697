-- Proves what is asked of `link`.
use Rattle.std.proofs.Common.{Bool, List, ◌≡◌, ℕ, suc, ◌+◌, ◌≤◌, true, false, arith, ap, sym, ◌∙◌, subst, Some, refl}
use Rattle.std.proofs.lemmas.Result.{err_from_is_err_and}
use Rattle.tla_tree.specs.Nesting.{links, before}
use Rattle.tla_tree.specs.Tree.{Tree}
use Rattle.expr_nodes.specs.declared.make.Read.{Read}
use Rattle.expr_nodes.specs.ShapeOf.{field_links}
use Rattle.tla_tree.specs.Lexical.{Token}
use Rattle.tla_tree.specs.Spelling.{Phrase, can_be_head}
use Rattle.tla_tree.specs.Reader.{Reader, next}
use Rattle.tla_tree.specs.Whole.{whole_in}
use Rattle.expr_nodes.specs.ReadIn.{IsIn, Reads, Fails}
use Rattle.expr_nodes.specs.Ahead.{ahead}
use Rattle.expr_rows.specs.HasRead.{applied, selected}
use Rattle.expr_rows.proofs.ReadLinks.{link_none, link_other, apply_deep, select_deep, apply_more, select_more}
use Rattle.expr_rows.proofs.ReadGrown.{grown, lost, deep, before_in, field_in, links_in}
use Rattle.expr_operands.proofs.read_link.link.Goals as goal

-- where links count, the shape tells them
by_links : {w : Bool} {ts : List Tree} {x : Read} {i : Phrase} {b : ℕ} → w ≡ true → IsIn w ts x i → b ≤ x.shape.links → b ≤ links i
by_links {w} {ts} {x} {i} {b} e h l = (let n : links i ≡ x.shape.links = sym (ap (λ (w : Bool). before w i) e) ∙ links_in h in omega (arith, n, l))

pub returns-then-not-can_be_head-clause-read : goal.returns-then-not-can_be_head-clause-read
returns-then-not-can_be_head-clause-read g c = λ i h.
    let ts = ahead c.args.tokens.now c.args.s.at in
    let can : can_be_head i (next c.args.s.edge ts).place ≡ false = ap (λ (t : Token). can_be_head i t.place) (sym c.next_at-t.ensures) ∙ sym (c.can_be_head.ensures _ i h.shape) ∙ c.if-not-can_be_head.true in
    link_none _ c.args.s.left c.args.s.edge i ts can

pub returns-in_err-d-clause-read : goal.returns-in_err-d-clause-read
returns-in_err-d-clause-read g c = λ i h.
    let b = c.args.s.left in
    let e = c.args.s.edge in
    let ts = ahead c.args.tokens.now c.args.s.at in
    let on : Phrase → Reader Phrase = λ j. (whole_in c.args.s.linked (Some b)).postfix e j in
    let can : can_be_head i (next e ts).place ≡ true = ap (λ (t : Token). can_be_head i t.place) (sym c.next_at-t.ensures) ∙ sym (c.can_be_head.ensures _ i h.shape) ∙ c.if-not-can_be_head.false in
    let p = err_from_is_err_and c.from_residual.result c.from_residual.ensures.1 in
    let l : b ≤ before c.args.s.linked i = omega (arith, before_in h, c.in_err-d.ensures.deep, c.links_before-besides.ensures) in
    deep _ _ i ts c.args.tokens.now on ((whole_in c.args.s.linked (Some b)).postfix e i ts) p.1 p.2 c.in_err-d.ensures.refused (apply_deep _ b e i ts can c.in-Some.ensures.there l)

pub returns-in_err-x-clause-read : goal.returns-in_err-x-clause-read
returns-in_err-x-clause-read g c = λ i h.
    let b = c.args.s.left in
    let e = c.args.s.edge in
    let ts = ahead c.args.tokens.now c.args.s.at in
    let on : Phrase → Reader Phrase = λ j. (whole_in c.args.s.linked (Some b)).postfix e j in
    let can : can_be_head i (next e ts).place ≡ true = ap (λ (t : Token). can_be_head i t.place) (sym c.next_at-t.ensures) ∙ sym (c.can_be_head.ensures _ i h.shape) ∙ c.if-not-can_be_head.false in
    let p = err_from_is_err_and c.from_residual-in_err-x.result c.from_residual-in_err-x.ensures.1 in
    let l : c.in_ok-d.d.left + suc (before c.args.s.linked i) ≡ b = omega (arith, before_in h, c.in_ok-d.ensures.left, c.links_before-besides.ensures) in
    let r = subst (λ (f : ℕ). Fails c.in_err-x.field-0.0 (applied (whole_in c.args.s.linked (Some c.in_ok-d.d.left)) f i (next e ts).place (ahead c.args.tokens.now c.in-Some.from))) refl (c.in_err-x.ensures.read i (next e ts).place h) in
    lost _ _ i ts c.args.tokens.now on ((whole_in c.args.s.linked (Some b)).postfix e i ts) (applied (whole_in c.args.s.linked (Some c.in_ok-d.d.left)) e i (next e ts).place (ahead c.args.tokens.now c.in-Some.from)) on p.1 p.2 (apply_more _ b e i ts can c.in-Some.ensures.there c.in_ok-d.d.left l _ c.in-Some.ensures.rest) r

pub returns-in-Some-clause-read : goal.returns-in-Some-clause-read
returns-in-Some-clause-read g c = λ i h.
    let b = c.args.s.left in
    let e = c.args.s.edge in
    let ts = ahead c.args.tokens.now c.args.s.at in
    let on : Phrase → Reader Phrase = λ j. (whole_in c.args.s.linked (Some b)).postfix e j in
    let can : can_be_head i (next e ts).place ≡ true = ap (λ (t : Token). can_be_head i t.place) (sym c.next_at-t.ensures) ∙ sym (c.can_be_head.ensures _ i h.shape) ∙ c.if-not-can_be_head.false in
    let l : c.in_ok-d.d.left + suc (before c.args.s.linked i) ≡ b = omega (arith, before_in h, c.in_ok-d.ensures.left, c.links_before-besides.ensures) in
    let r = subst (λ (f : ℕ). Reads (IsIn c.args.s.linked c.apply_in.new.pool c.in_ok-x.x.0) (ahead c.args.tokens.now c.in_ok-x.x.1) (applied (whole_in c.args.s.linked (Some c.in_ok-d.d.left)) f i (next e ts).place (ahead c.args.tokens.now c.in-Some.from))) refl (c.in_ok-x.ensures.read i (next e ts).place h) in
    grown c.args.tokens.now on ((whole_in c.args.s.linked (Some b)).postfix e i ts) (applied (whole_in c.args.s.linked (Some c.in_ok-d.d.left)) e i (next e ts).place (ahead c.args.tokens.now c.in-Some.from)) (apply_more _ b e i ts can c.in-Some.ensures.there c.in_ok-d.d.left l _ c.in-Some.ensures.rest) r

pub returns-in_err-d-2-clause-read : goal.returns-in_err-d-2-clause-read
returns-in_err-d-2-clause-read g c = λ i h.
    let b = c.args.s.left in
    let e = c.args.s.edge in
    let ts = ahead c.args.tokens.now c.args.s.at in
    let on : Phrase → Reader Phrase = λ j. (whole_in c.args.s.linked (Some b)).postfix e j in
    let can : can_be_head i (next e ts).place ≡ true = ap (λ (t : Token). can_be_head i t.place) (sym c.next_at-t.ensures) ∙ sym (c.can_be_head.ensures _ i h.shape) ∙ c.if-not-can_be_head.false in
    let p = err_from_is_err_and c.from_residual-in_err-d-2.result c.from_residual-in_err-d-2.ensures.1 in
    let on_ : c.args.s.linked ≡ true = c.in_err-d-2.ensures.counted in
    let l : b ≤ links i = by_links on_ h c.in_err-d-2.ensures.deep in
    deep _ _ i ts c.args.tokens.now on ((whole_in c.args.s.linked (Some b)).postfix e i ts) p.1 p.2 c.in_err-d-2.ensures.refused (select_deep _ b e i ts can on_ c.in-Some-after_mark.ensures.there l)

pub returns-in_err-x-2-clause-read : goal.returns-in_err-x-2-clause-read
returns-in_err-x-2-clause-read g c = λ i h.
    let b = c.args.s.left in
    let e = c.args.s.edge in
    let ts = ahead c.args.tokens.now c.args.s.at in
    let on : Phrase → Reader Phrase = λ j. (whole_in c.args.s.linked (Some b)).postfix e j in
    let can : can_be_head i (next e ts).place ≡ true = ap (λ (t : Token). can_be_head i t.place) (sym c.next_at-t.ensures) ∙ sym (c.can_be_head.ensures _ i h.shape) ∙ c.if-not-can_be_head.false in
    let p = err_from_is_err_and c.from_residual-in_err-x-2.result c.from_residual-in_err-x-2.ensures.1 in
    let l : c.in_ok-d-2.d.left + field_links c.args.s.linked (links i) ≡ b = omega (arith, field_in h, c.in_ok-d-2.ensures.left) in
    let r = subst (λ (f : ℕ). Fails c.in_err-x-2.field-0.0 (selected f i (next e ts).place (ahead c.args.tokens.now c.in-Some-after_mark.from))) refl (c.in_err-x-2.ensures.read i (next e ts).place h) in
    lost _ _ i ts c.args.tokens.now on ((whole_in c.args.s.linked (Some b)).postfix e i ts) (selected e i (next e ts).place (ahead c.args.tokens.now c.in-Some-after_mark.from)) on p.1 p.2 (select_more _ b e i ts can c.in-Some-after_mark.ensures.there c.in_ok-d-2.d.left l _ c.in-Some-after_mark.ensures.rest) r

pub returns-in-Some-after_mark-clause-read : goal.returns-in-Some-after_mark-clause-read
returns-in-Some-after_mark-clause-read g c = λ i h.
    let b = c.args.s.left in
    let e = c.args.s.edge in
    let ts = ahead c.args.tokens.now c.args.s.at in
    let on : Phrase → Reader Phrase = λ j. (whole_in c.args.s.linked (Some b)).postfix e j in
    let can : can_be_head i (next e ts).place ≡ true = ap (λ (t : Token). can_be_head i t.place) (sym c.next_at-t.ensures) ∙ sym (c.can_be_head.ensures _ i h.shape) ∙ c.if-not-can_be_head.false in
    let l : c.in_ok-d-2.d.left + field_links c.args.s.linked (links i) ≡ b = omega (arith, field_in h, c.in_ok-d-2.ensures.left) in
    let r = subst (λ (f : ℕ). Reads (IsIn c.args.s.linked c.select_in.new.pool c.in_ok-x-2.x.0) (ahead c.args.tokens.now c.in_ok-x-2.x.1) (selected f i (next e ts).place (ahead c.args.tokens.now c.in-Some-after_mark.from))) refl (c.in_ok-x-2.ensures.read i (next e ts).place h) in
    grown c.args.tokens.now on ((whole_in c.args.s.linked (Some b)).postfix e i ts) (selected e i (next e ts).place (ahead c.args.tokens.now c.in-Some-after_mark.from)) (select_more _ b e i ts can c.in-Some-after_mark.ensures.there c.in_ok-d-2.d.left l _ c.in-Some-after_mark.ensures.rest) r

pub returns-clause-read : goal.returns-clause-read
returns-clause-read g c = λ i h. link_other _ c.args.s.left c.args.s.edge i (ahead c.args.tokens.now c.args.s.at) c.in_default.ensures.none c.in_default-after_mark.ensures.none
