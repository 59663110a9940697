-- Names of units that are passed on unread, token by token.
use Rattle.std.proofs.Common.{◌≡◌, ℕ, ◌+◌, ◌≤◌, Bool, true, false, List, [], ◌∷◌, ◌++◌, length, Option, Some, None, refl, sym, ap, ◌∙◌, append-nil, append_assoc, cond, codes}
use Rattle.tla_token.specs.Signs.{is_among}
use Rattle.tla_token.specs.declared.token.Tokens.{Tokens}
use Rattle.tla_tree.specs.Tree.{Word}
use Rattle.tla_tree.specs.Lexical.{TokenView, Token}
use Rattle.tla_tree.specs.Lexical as tk
use Rattle.tla_tree.specs.Reader.{tail, is_mark}
use Rattle.module_tree.specs.Outside.{identifiers, first_one, is_define, title_at}
use Rattle.expr_nodes.specs.Ahead.{ahead}
use Rattle.expr_nodes.proofs.AheadLemmas.{ahead_tail}
use Rattle.module_outside.specs.Fronts.{front_mark}
use Rattle.module_outside.specs.Passing.{identifier_in, front_identifier, with_one, passed_names}
use Rattle.module_outside.proofs.FrontLaws.{ahead_end}

one_there : (t : Token) (ts : List Token) (k : TokenView) → t.kind ≡ k → identifiers (t ∷ ts) ≡ with_one [] (identifier_in k) ++ identifiers ts
one_there t ts (tk.word x) e = rw e refl
one_there t ts (tk.reserved x) e = rw e refl
one_there t ts k e = rw e refl

by_front : (ts : List Token) → identifiers ts ≡ with_one [] (front_identifier ts) ++ identifiers (tail ts)
by_front [] = refl
by_front (t ∷ ts) = one_there t ts t.kind refl

with_more : (xs ys : List Word) (o : Option Word) → xs ++ (with_one [] o ++ ys) ≡ with_one xs o ++ ys
with_more xs ys (Some x) = sym (append_assoc xs (x ∷ []) ys)
with_more xs ys None = refl

pub identifiers_more : (v : Tokens) (from i : ℕ) (xs ys : List Word) (o : Option Word) → o ≡ front_identifier (ahead v i) → ys ≡ with_one xs o → xs ++ identifiers (ahead v i) ≡ identifiers (ahead v from)
    → ys ++ identifiers (ahead v (i + 1)) ≡ identifiers (ahead v from)
identifiers_more v from i xs ys o h e inv =
    (λ j. (e ∙ ap (with_one xs) h) j ++ identifiers (ahead_tail v i j)) ∙ sym (with_more xs (identifiers (tail (ahead v i))) (front_identifier (ahead v i)))
    ∙ ap (λ (zs : List Word). xs ++ zs) (sym (by_front (ahead v i))) ∙ inv

pub identifiers_end : (v : Tokens) (from i : ℕ) (xs : List Word) → length v.items.items ≤ i → xs ++ identifiers (ahead v i) ≡ identifiers (ahead v from) → xs ≡ identifiers (ahead v from)
identifiers_end v from i xs l inv = sym (append-nil xs) ∙ ap (λ (ts : List Token). xs ++ identifiers ts) (sym (ahead_end v i l)) ∙ inv

pub first_here : (v : Tokens) (i : ℕ) (o : Option Word) (x : Word) (ys xs : List Word) → o ≡ Some x → o ≡ front_identifier (ahead v i) → xs ≡ [] → ys ≡ xs ++ x ∷ [] → identifiers (ahead v i) ≡ identifiers (ahead v 0) → ys ≡ first_one (identifiers (ahead v 0))
first_here v i o x ys xs n h z e inv =
    e ∙ ap (λ (l : List Word). l ++ x ∷ []) z ∙ ap (λ (o : Option Word). first_one (with_one [] o ++ identifiers (tail (ahead v i)))) (sym n ∙ h) ∙ ap first_one (sym (by_front (ahead v i)) ∙ inv)

pub first_further : (v : Tokens) (i : ℕ) (o : Option Word) → o ≡ None → o ≡ front_identifier (ahead v i) → identifiers (ahead v i) ≡ identifiers (ahead v 0) → identifiers (ahead v (i + 1)) ≡ identifiers (ahead v 0)
first_further v i o n h inv =
    ap identifiers (ahead_tail v i) ∙ ap (λ (o : Option Word). with_one [] o ++ identifiers (tail (ahead v i))) (sym n ∙ h) ∙ sym (by_front (ahead v i)) ∙ inv

pub first_none : (v : Tokens) (i : ℕ) (xs : List Word) → xs ≡ [] → length v.items.items ≤ i → identifiers (ahead v i) ≡ identifiers (ahead v 0) → xs ≡ first_one (identifiers (ahead v 0))
first_none v i xs z l inv = z ∙ ap (λ (ts : List Token). first_one (identifiers ts)) (sym (ahead_end v i l)) ∙ ap first_one inv

-- ---- the name before `==`

define_same : (k : TokenView) → is_define k ≡ is_mark tk.defines k
define_same (tk.mark tk.defines) = refl
define_same k = refl

titled : (ts : List Token) → front_mark tk.defines (tail ts) ≡ true → title_at ts ≡ with_one [] (front_identifier ts)
titled [] h = absurd cc
titled (t ∷ []) h = absurd cc
titled (t ∷ u ∷ ts) h = rw (define_same u.kind ∙ h) (one_there t [] t.kind refl ∙ append-nil (with_one [] (identifier_in t.kind)))

untitled : (ts : List Token) → front_mark tk.defines (tail ts) ≡ false → title_at ts ≡ []
untitled [] h = refl
untitled (t ∷ []) h = refl
untitled (t ∷ u ∷ ts) h = rw (define_same u.kind ∙ h) refl

pub has_title : (v : Tokens) (b : Bool) (o : Option Word) (xs ys : List Word) → b ≡ front_mark tk.defines (ahead v 2) → b ≡ true → o ≡ front_identifier (ahead v 1) → xs ≡ [] → ys ≡ with_one xs o → ys ≡ title_at (tail (ahead v 0))
has_title v b o xs ys h t k z e = e ∙ (λ i. with_one (z i) ((k ∙ ap front_identifier (ahead_tail v 0)) i)) ∙ sym (titled (tail (ahead v 0)) (ap (front_mark tk.defines) (sym (ahead_tail v 1 ∙ ap tail (ahead_tail v 0))) ∙ sym h ∙ t))

pub has_none : (v : Tokens) (b : Bool) (xs : List Word) → b ≡ front_mark tk.defines (ahead v 2) → b ≡ false → xs ≡ [] → xs ≡ title_at (tail (ahead v 0))
has_none v b xs h t z = z ∙ sym (untitled (tail (ahead v 0)) (ap (front_mark tk.defines) (sym (ahead_tail v 1 ∙ ap tail (ahead_tail v 0))) ∙ sym h ∙ t))

pub names_listed : (v : Tokens) (xs : List Word) → xs ≡ identifiers (ahead v 1) → xs ≡ identifiers (tail (ahead v 0))
names_listed v xs e = e ∙ ap identifiers (ahead_tail v 0)

-- by the first word of a unit
module _ (w : Word) (ts : List Token) (xs : List Word) where
  abbrev titles : Bool
  titles = is_among (codes "ASSUME" ∷ codes "ASSUMPTION" ∷ codes "AXIOM" ∷ codes "THEOREM" ∷ []) w

  abbrev lists : Bool
  lists = is_among (codes "CONSTANT" ∷ codes "CONSTANTS" ∷ codes "RECURSIVE" ∷ []) w

  pub titled_names : true ≡ titles → xs ≡ title_at (tail ts) → xs ≡ passed_names w ts
  titled_names t h = h ∙ ap (λ (b : Bool). cond b (title_at (tail ts)) (cond lists (identifiers (tail ts)) (first_one (identifiers ts)))) t

  pub listed_names : false ≡ titles → true ≡ lists → xs ≡ identifiers (tail ts) → xs ≡ passed_names w ts
  listed_names t l h = h ∙ (λ i. cond (t i) (title_at (tail ts)) (cond (l i) (identifiers (tail ts)) (first_one (identifiers ts))))

  pub other_names : false ≡ titles → false ≡ lists → xs ≡ first_one (identifiers ts) → xs ≡ passed_names w ts
  other_names t l h = h ∙ (λ i. cond (t i) (title_at (tail ts)) (cond (l i) (identifiers (tail ts)) (first_one (identifiers ts))))
