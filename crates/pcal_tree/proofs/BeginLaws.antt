-- A step of the expanded statements begins with the expansion of what the step begins with.
use Rattle.std.proofs.Common.{◌≡◌, Bool, true, false, cond, bytes_eq, Option, Some, None, refl, sym, ◌∙◌, ap}
use Rattle.tla_tree.specs.Tree.{Word, Trees}
use Rattle.pcal_tree.specs.Algorithm.{Span, Statement, assign, await, print, assert, skip, branch, either, with, while, goto, macro, call, return, Statements, done, then, mark, Branches, no_branches, or}
use Rattle.pcal_tree.specs.Run.{unlabelled, label_of}
use Rattle.pcal_tree.specs.StepStart.{Begin, begin_in, begin, begin_some}
use Rattle.pcal_tree.specs.Expand.{followed_by, Writing, expand_one, expand, expand_some, expand_begin}
use Rattle.pcal_tree.proofs.ExpandRuns.{opens_joined, no_label}
use Rattle.std.specs.Option.{option_or}
use Rattle.pcal_tree.specs.laws.Expansion.{Calls, CallsOne, CallsSome, BeginsUnlabelled, BareOne, Bare, BareSome}

-- ---- no label, as in a macro's body

or_none : (o p : Option Begin) → o ≡ None → p ≡ None → option_or o p ≡ None
or_none o p e f = ap (λ z. option_or z p) e ∙ f

mutual
  none_one : (l here : Word) (st : Statement) (x : Word) → BareOne st → begin_in l here st x ≡ None
  none_one l here (branch e a b) x h = or_none _ _ (none_in l unlabelled a x h.0) (none_in l unlabelled b x h.1)
  none_one l here (either bs) x h = none_some l bs x h
  none_one l here (with bs b) x h = none_in l unlabelled b x h
  none_one l here (while e b) x h = none_in l unlabelled b here h
  none_one l here _ x h = refl

  pub none_in : (l here : Word) (ss : Statements) (x : Word) → Bare ss → begin l here ss x ≡ None
  none_in l here done x h = refl
  none_in l here (then at st rest) x h = or_none _ _ (none_one l here st (label_of rest x) h.0) (none_in l unlabelled rest x h.1)
  none_in l here (mark m k rest) x h = absurd h

  none_some : (l : Word) (bs : Branches) (x : Word) → BareSome bs → begin_some l bs x ≡ None
  none_some l no_branches x h = refl
  none_some l (or b bs) x h = or_none _ _ (none_in l unlabelled b x h.0) (none_some l bs x h.1)

begin_joined : (l : Word) (a b : Statements) (x : Word) → Bare a → begin l unlabelled (followed_by a b) x ≡ begin l unlabelled b x
begin_joined l done b x h = refl
begin_joined l (then at st a) b x h =
    ap (λ o. option_or o (begin l unlabelled (followed_by a b) x)) (none_one l unlabelled st (label_of (followed_by a b) x) h.0) ∙ begin_joined l a b x h.1
begin_joined l (mark m k a) b x h = absurd h

begin_opened : (l here : Word) (a b : Statements) (x : Word) → BeginsUnlabelled a → Bare a → begin l here (followed_by a b) x ≡ begin l unlabelled b x
begin_opened l here done b x o h = absurd o
begin_opened l here (then at st a) b x o h =
    ap (λ q. option_or q (begin l unlabelled (followed_by a b) x)) (none_one l here st (label_of (followed_by a b) x) h.0) ∙ begin_joined l a b x h.1
begin_opened l here (mark m k a) b x o h = absurd h

-- ---- expansion

expand_or : (X : Writing) (o p : Option Begin) → expand_begin X (option_or o p) ≡ option_or (expand_begin X o) (expand_begin X p)
expand_or X (Some f) p = refl
expand_or X None p = refl

-- what is written for a call has a statement and no label
abbrev pub WrittenBare : Writing → (Word → Trees → Type 0) → Type 0
WrittenBare X P = (at : Span) (m : Word) (ts : Trees) → P m ts → BeginsUnlabelled (X at m ts) × Bare (X at m ts)

pub opens_one : (X : Writing) (P : Word → Trees → Type 0) → WrittenBare X P → (at : Span) (st : Statement) (rest : Statements) → CallsOne P st → BeginsUnlabelled (expand_one X at st rest)
opens_one X P w at (macro m ts) rest h = opens_joined (X at m ts) rest (w at m ts h).0
opens_one X P w at st rest h = tt

label_kept : (X : Writing) (P : Word → Trees → Type 0) → WrittenBare X P → (ss : Statements) → Calls P ss → (x : Word) → label_of (expand X ss) x ≡ label_of ss x
label_kept X P w done h x = refl
label_kept X P w (then at st rest) h x = sym (no_label (expand_one X at st (expand X rest)) x (opens_one X P w at st (expand X rest) h.0))
label_kept X P w (mark m k rest) h x = refl

mutual
  -- rest: what follows, written out
  begin_expanded_one : (X : Writing) (P : Word → Trees → Type 0) → WrittenBare X P → (l here : Word) (at : Span) (st : Statement) → CallsOne P st → (rest : Statements) (x y : Word) → label_of rest x ≡ y → begin l here (expand_one X at st rest) x ≡ option_or (expand_begin X (begin_in l here st y)) (begin l unlabelled rest x)
  begin_expanded_one X P w l here at (macro m ts) h rest x y q = begin_opened l here (X at m ts) rest x (w at m ts h).0 (w at m ts h).1
  begin_expanded_one X P w l here at (branch e a b) h rest x y q =
      (λ i. option_or (option_or (begin l unlabelled (expand X a) (q i)) (begin l unlabelled (expand X b) (q i))) (begin l unlabelled rest x))
      ∙ (λ i. option_or (option_or (begin_expanded X P w l unlabelled a h.0 y i) (begin_expanded X P w l unlabelled b h.1 y i)) (begin l unlabelled rest x))
      ∙ sym (ap (λ o. option_or o (begin l unlabelled rest x)) (expand_or X (begin l unlabelled a y) (begin l unlabelled b y)))
  begin_expanded_one X P w l here at (either bs) h rest x y q =
      (λ i. option_or (begin_some l (expand_some X bs) (q i)) (begin l unlabelled rest x)) ∙ ap (λ o. option_or o (begin l unlabelled rest x)) (begin_expanded_some X P w l bs h y)
  begin_expanded_one X P w l here at (with bs b) h rest x y q =
      (λ i. option_or (begin l unlabelled (expand X b) (q i)) (begin l unlabelled rest x)) ∙ ap (λ o. option_or o (begin l unlabelled rest x)) (begin_expanded X P w l unlabelled b h y)
  begin_expanded_one X P w l here at (while e b) h rest x y q = ap (λ o. option_or o (begin l unlabelled rest x)) (begin_expanded X P w l unlabelled b h here)
  begin_expanded_one X P w l here at (assign ms) h rest x y q = refl
  begin_expanded_one X P w l here at (await e) h rest x y q = refl
  begin_expanded_one X P w l here at (print e) h rest x y q = refl
  begin_expanded_one X P w l here at (assert e) h rest x y q = refl
  begin_expanded_one X P w l here at skip h rest x y q = refl
  begin_expanded_one X P w l here at (goto m) h rest x y q = refl
  begin_expanded_one X P w l here at (call p ts) h rest x y q = refl
  begin_expanded_one X P w l here at return h rest x y q = refl

  pub begin_expanded : (X : Writing) (P : Word → Trees → Type 0) → WrittenBare X P → (l here : Word) (ss : Statements) → Calls P ss → (x : Word) → begin l here (expand X ss) x ≡ expand_begin X (begin l here ss x)
  begin_expanded X P w l here done h x = refl
  begin_expanded X P w l here (then at st rest) h x =
      begin_expanded_one X P w l here at st h.0 (expand X rest) x (label_of rest x) (label_kept X P w rest h.1 x)
      ∙ ap (λ o. option_or (expand_begin X (begin_in l here st (label_of rest x))) o) (begin_expanded X P w l unlabelled rest h.1 x)
      ∙ sym (expand_or X (begin_in l here st (label_of rest x)) (begin l unlabelled rest x))
  begin_expanded X P w l here (mark m k rest) h x = by (begin_expanded X P w l m.word rest h x) (bytes_eq l m.word)
    where
      by : begin l m.word (expand X rest) x ≡ expand_begin X (begin l m.word rest x) → (b : Bool) → cond b (Some (record { items = expand X rest; exit = x })) (begin l m.word (expand X rest) x) ≡ expand_begin X (cond b (Some (record { items = rest; exit = x })) (begin l m.word rest x))
      by ih true = refl
      by ih false = ih

  begin_expanded_some : (X : Writing) (P : Word → Trees → Type 0) → WrittenBare X P → (l : Word) (bs : Branches) → CallsSome P bs → (x : Word) → begin_some l (expand_some X bs) x ≡ expand_begin X (begin_some l bs x)
  begin_expanded_some X P w l no_branches h x = refl
  begin_expanded_some X P w l (or b bs) h x =
      (λ i. option_or (begin_expanded X P w l unlabelled b h.0 x i) (begin_expanded_some X P w l bs h.1 x i)) ∙ sym (expand_or X (begin l unlabelled b x) (begin_some l bs x))
