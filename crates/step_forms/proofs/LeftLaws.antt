-- Statements that more may follow, settled where they jump: list by list and statement by statement, and through trees put in for names.
use Rattle.std.proofs.Common.{◌≡◌, Bool, true, false, cond, ◌||◌, refl, sym, ◌∙◌, ap}
use Rattle.std.proofs.lemmas.Bool.{or_parts}
use Rattle.tla_tree.specs.Tree.{Word, Tree, Trees, Graft}
use Rattle.pcal_tree.specs.declared.mark.Mark.{Mark}
use Rattle.pcal_tree.specs.Algorithm.{Name, Span, Binds, Statement, assign, await, print, assert, skip, branch, either, with, while, goto, macro, call, return, Statements, done, then, mark, Branches, no_branches, or}
use Rattle.pcal_tree.specs.Run.{unlabelled, label_of, Partner, partner_of}
use Rattle.pcal_tree.specs.Expand.{graft_one, graft_all, graft_some, followed_by}
use Rattle.action_builder.specs.Settled.{WrittenJumps, jumps_one, jumps, jumps_some, settled_one, settled, settled_some}
use Rattle.step_forms.specs.LeftOver.{left_over}

-- ---- lists without a jump

-- a statement without a jump stays as it is
pub one_settled : (W : WrittenJumps) (here l : Word) (j : Partner) (at : Span) (st : Statement) (rest : Statements) → jumps_one st ≡ false → settled_one W here l j at st rest ≡ then at st rest
one_settled W here l j at (assign ms) rest h = refl
one_settled W here l j at (await e) rest h = refl
one_settled W here l j at (print e) rest h = refl
one_settled W here l j at (assert e) rest h = refl
one_settled W here l j at skip rest h = refl
one_settled W here l j at (branch e a b) rest h = ap (λ z. cond z (then at (branch e (settled W unlabelled l a) (settled W unlabelled l b)) done) (then at (branch e a b) rest)) h
one_settled W here l j at (either bs) rest h = ap (λ z. cond z (then at (either (settled_some W l bs)) done) (then at (either bs) rest)) h
one_settled W here l j at (with bs b) rest h = ap (λ z. cond z (then at (with bs (settled W unlabelled l b)) done) (then at (with bs b) rest)) h
one_settled W here l j at (while e b) rest h = cc
one_settled W here l j at (goto m) rest h = cc
one_settled W here l j at (macro m ts) rest h = cc
one_settled W here l j at (call p ts) rest h = cc
one_settled W here l j at return rest h = cc

-- a list without a jump ends by the jump to what follows it
pub still_settled : (W : WrittenJumps) (here l : Word) (ss : Statements) → jumps ss ≡ false → settled W here l ss ≡ followed_by ss (W.goto l)
still_settled W here l done h = refl
still_settled W here l (then at st rest) h =
    let k = or_parts (jumps_one st) (jumps rest) h in
    one_settled W here (label_of rest l) (partner_of rest) at st (settled W unlabelled l rest) k.0 ∙ ap (then at st) (still_settled W unlabelled l rest k.1)
still_settled W here l (mark m k rest) h = cc

pub still_left : (W : WrittenJumps) (here l : Word) (ss : Statements) → jumps ss ≡ false → left_over W here l ss ≡ ss
still_left W here l ss h = ap (λ z. cond z (settled W here l ss) ss) h

pub jumping_left : (W : WrittenJumps) (here l : Word) (ss : Statements) → jumps ss ≡ true → left_over W here l ss ≡ settled W here l ss
jumping_left W here l ss h = ap (λ z. cond z (settled W here l ss) ss) h

-- each list: what is left of it, and the jump to what follows it, where it does not jump itself
pub settled_left : (W : WrittenJumps) (here l : Word) (ss : Statements)
    → settled W here l ss ≡ cond (jumps ss) (left_over W here l ss) (followed_by (left_over W here l ss) (W.goto l))
settled_left W here l ss = by (jumps ss) refl
  where
    by : (b : Bool) → jumps ss ≡ b → settled W here l ss ≡ cond (jumps ss) (left_over W here l ss) (followed_by (left_over W here l ss) (W.goto l))
    by true h =
        sym (jumping_left W here l ss h) ∙ sym (ap (λ z. cond z (left_over W here l ss) (followed_by (left_over W here l ss) (W.goto l))) h)
    by false h =
        still_settled W here l ss h ∙ sym (ap (λ a. followed_by a (W.goto l)) (still_left W here l ss h))
        ∙ sym (ap (λ z. cond z (left_over W here l ss) (followed_by (left_over W here l ss) (W.goto l))) h)

-- ---- statement by statement

pub left_done : (W : WrittenJumps) (here l : Word) → left_over W here l done ≡ done
left_done W here l = refl

pub left_mark : (W : WrittenJumps) (here l : Word) (m : Name) (k : Mark) (rest : Statements) → left_over W here l (mark m k rest) ≡ W.goto m.word
left_mark W here l m k rest = refl

-- one that does not jump stays, before what is left of the rest
pub left_past : (W : WrittenJumps) (here l : Word) (at : Span) (st : Statement) (rest : Statements) → jumps_one st ≡ false
    → left_over W here l (then at st rest) ≡ then at st (left_over W unlabelled l rest)
left_past W here l at st rest h =
    (λ i. cond (h i || jumps rest) (one_settled W here (label_of rest l) (partner_of rest) at st (settled W unlabelled l rest) h i) (then at st rest)) ∙ by (jumps rest)
  where
    by : (b : Bool) → cond b (then at st (settled W unlabelled l rest)) (then at st rest) ≡ then at st (cond b (settled W unlabelled l rest) rest)
    by true = refl
    by false = refl

-- one that jumps is settled, before what follows it, settled
pub left_jump : (W : WrittenJumps) (here l : Word) (at : Span) (st : Statement) (rest : Statements) → jumps_one st ≡ true
    → left_over W here l (then at st rest) ≡ settled_one W here (label_of rest l) (partner_of rest) at st (settled W unlabelled l rest)
left_jump W here l at st rest h = ap (λ z. cond (z || jumps rest) (settled W here l (then at st rest)) (then at st rest)) h

pub left_branch : (W : WrittenJumps) (here l : Word) (at : Span) (e : Tree) (a b rest : Statements) → (jumps a || jumps b) ≡ true
    → left_over W here l (then at (branch e a b) rest) ≡ then at (branch e (settled W unlabelled (label_of rest l) a) (settled W unlabelled (label_of rest l) b)) done
left_branch W here l at e a b rest h =
    left_jump W here l at (branch e a b) rest h
    ∙ ap (λ z. cond z (then at (branch e (settled W unlabelled (label_of rest l) a) (settled W unlabelled (label_of rest l) b)) done) (then at (branch e a b) (settled W unlabelled l rest))) h

pub left_either : (W : WrittenJumps) (here l : Word) (at : Span) (bs : Branches) (rest : Statements) → jumps_some bs ≡ true
    → left_over W here l (then at (either bs) rest) ≡ then at (either (settled_some W (label_of rest l) bs)) done
left_either W here l at bs rest h =
    left_jump W here l at (either bs) rest h
    ∙ ap (λ z. cond z (then at (either (settled_some W (label_of rest l) bs)) done) (then at (either bs) (settled W unlabelled l rest))) h

pub left_with : (W : WrittenJumps) (here l : Word) (at : Span) (bs : Binds) (b rest : Statements) → jumps b ≡ true
    → left_over W here l (then at (with bs b) rest) ≡ then at (with bs (settled W unlabelled (label_of rest l) b)) done
left_with W here l at bs b rest h =
    left_jump W here l at (with bs b) rest h
    ∙ ap (λ z. cond z (then at (with bs (settled W unlabelled (label_of rest l) b)) done) (then at (with bs b) (settled W unlabelled l rest))) h

pub left_while : (W : WrittenJumps) (here l : Word) (at : Span) (e : Tree) (b rest : Statements)
    → left_over W here l (then at (while e b) rest) ≡ then at (branch e (settled W unlabelled here b) (settled W unlabelled l rest)) done
left_while W here l at e b rest = refl

pub left_goto : (W : WrittenJumps) (here l : Word) (at : Span) (m : Word) (rest : Statements) → left_over W here l (then at (goto m) rest) ≡ W.goto m
left_goto W here l at m rest = refl

pub left_call : (W : WrittenJumps) (here l : Word) (at : Span) (p : Name) (ts : Trees) (rest : Statements)
    → left_over W here l (then at (call p ts) rest) ≡ W.call at p ts (label_of rest l) (partner_of rest)
left_call W here l at p ts rest = refl

pub left_return : (W : WrittenJumps) (here l : Word) (at : Span) (rest : Statements) → left_over W here l (then at return rest) ≡ W.return at
left_return W here l at rest = refl

-- lists in front of which nothing jumps
pub left_followed : (W : WrittenJumps) (l : Word) (a b : Statements) → jumps a ≡ false → left_over W unlabelled l (followed_by a b) ≡ followed_by a (left_over W unlabelled l b)
left_followed W l done b h = refl
left_followed W l (then at st a) b h =
    let k = or_parts (jumps_one st) (jumps a) h in
    left_past W unlabelled l at st (followed_by a b) k.0 ∙ ap (then at st) (left_followed W l a b k.1)
left_followed W l (mark m k a) b h = cc

-- ---- trees put in for names

module _ (g : Graft) where
  mutual
    pub put_jumps_one : (st : Statement) → jumps_one (graft_one g st) ≡ jumps_one st
    put_jumps_one (assign ms) = refl
    put_jumps_one (await e) = refl
    put_jumps_one (print e) = refl
    put_jumps_one (assert e) = refl
    put_jumps_one skip = refl
    put_jumps_one (branch e a b) = λ i. put_jumps a i || put_jumps b i
    put_jumps_one (either bs) = put_jumps_some bs
    put_jumps_one (with bs b) = put_jumps b
    put_jumps_one (while e b) = refl
    put_jumps_one (goto l) = refl
    put_jumps_one (macro m ts) = refl
    put_jumps_one (call p ts) = refl
    put_jumps_one return = refl

    pub put_jumps : (ss : Statements) → jumps (graft_all g ss) ≡ jumps ss
    put_jumps done = refl
    put_jumps (then at st rest) = λ i. put_jumps_one st i || put_jumps rest i
    put_jumps (mark l k rest) = refl

    pub put_jumps_some : (bs : Branches) → jumps_some (graft_some g bs) ≡ jumps_some bs
    put_jumps_some no_branches = refl
    put_jumps_some (or b bs) = λ i. put_jumps b i || put_jumps_some bs i

  pub put_followed : (a b : Statements) → graft_all g (followed_by a b) ≡ followed_by (graft_all g a) (graft_all g b)
  put_followed done b = refl
  put_followed (then at st a) b = ap (then at (graft_one g st)) (put_followed a b)
  put_followed (mark l k a) b = ap (mark l k) (put_followed a b)

  pub put_label : (ss : Statements) (x : Word) → label_of (graft_all g ss) x ≡ label_of ss x
  put_label done x = refl
  put_label (then at st rest) x = refl
  put_label (mark l k rest) x = refl

  pub put_partner : (ss : Statements) → partner_of (graft_all g ss) ≡ partner_of ss
  put_partner done = refl
  put_partner (then at st rest) = by st
    where
      by : (st : Statement) → partner_of (then at (graft_one g st) (graft_all g rest)) ≡ partner_of (then at st rest)
      by (assign ms) = refl
      by (await e) = refl
      by (print e) = refl
      by (assert e) = refl
      by skip = refl
      by (branch e a b) = refl
      by (either bs) = refl
      by (with bs b) = refl
      by (while e b) = refl
      by (goto l) = refl
      by (macro m ts) = refl
      by (call p ts) = refl
      by return = refl
  put_partner (mark l k rest) = refl

-- ---- lists one after another

pub followed_done : (a : Statements) → followed_by a done ≡ a
followed_done done = refl
followed_done (then at st a) = ap (then at st) (followed_done a)
followed_done (mark l k a) = ap (mark l k) (followed_done a)

pub followed_again : (a b c : Statements) → followed_by (followed_by a b) c ≡ followed_by a (followed_by b c)
followed_again done b c = refl
followed_again (then at st a) b c = ap (then at st) (followed_again a b c)
followed_again (mark l k a) b c = ap (mark l k) (followed_again a b c)

pub jumps_followed : (a b : Statements) → jumps a ≡ false → jumps (followed_by a b) ≡ jumps b
jumps_followed done b h = refl
jumps_followed (then at st a) b h =
    let k = or_parts (jumps_one st) (jumps a) h in
    (λ i. k.0 i || jumps (followed_by a b)) ∙ jumps_followed a b k.1
jumps_followed (mark l k a) b h = cc
