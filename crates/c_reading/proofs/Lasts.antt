-- The last token of a statement is that of its last part.
use Rattle.std.proofs.Common.{◌≡◌, false, List, [], ◌∷◌, ◌++◌, Option, Some, None, refl, sym, ap, ◌∙◌, codes}
use Rattle.std.proofs.lemmas.List.{append_assoc}
use Rattle.tla_token.specs.declared.place.Place.{Place}
use Rattle.tla_tree.specs.Lexical.{Token}
use Rattle.tla_tree.specs.Lexical as tk
use Rattle.tla_tree.specs.Spelling.{Phrase, spell}
use Rattle.tla_tree.proofs.SpellAppend.{spell_then, all_more}
use Rattle.pcal_tree.specs.GrammarParts.{key, mark, name, sign, maybe_semicolon, maybe_separator, separator, by_semicolon, by_comma, Colon, colon, colon_plus, colon_minus, colon_tokens, Labels, no_labels, label, labels, Binds, last_bind, bind, binds, Separator, last_place}
use Rattle.pcal_tree.specs.GrammarParts.{Arguments, no_arguments, some_arguments, arguments, Assignments, last_assignment, assignment, assignments, Simple, simple_tokens}
use Rattle.pcal_tree.specs.GrammarParts as g
use Rattle.pcal_tree.specs.GrammarC.{Statement, simple, branch, either, with, while, compound, Labelled, labelled, Else, no_else, else_then, Branches, last_branch, more_branches, Sequence, last_statement, more_statements}
use Rattle.pcal_tree.specs.GrammarC.{statement, labelled_tokens, else_tokens, branches, sequence}
use Rattle.pcal_tree.specs.Tests.{is_empty}

-- ---- tokens that are put before others
pub record Put (x : List Token → List Token) : Type 0 where
  pub is : (ts : List Token) → x ts ≡ x [] ++ ts

pub put_none : Put (λ ts. ts)
put_none = record { is = λ ts. refl }

pub put_one : (t : Token) → Put (λ ts. t ∷ ts)
put_one t = record { is = λ ts. refl }

pub put_both : {x y : List Token → List Token} → Put x → Put y → Put (λ ts. x (y ts))
put_both {x} {y} h k = record {
  is = λ ts. h.is (y ts) ∙ ap (λ (us : List Token). x [] ++ us) (k.is ts) ∙ sym (append_assoc (x []) (y []) ts) ∙ ap (λ (us : List Token). us ++ ts) (sym (h.is (y [])));
}

pub put_after : {x : List Token → List Token} (t : Token) → Put x → Put (λ ts. t ∷ x ts)
put_after t h = put_both (put_one t) h

pub put_phrase : (e : Phrase) → Put (spell e)
put_phrase e = record { is = spell_then e }

pub put_semicolon : (s : Option Place) → Put (maybe_semicolon s)
put_semicolon None = put_none
put_semicolon (Some p) = record { is = λ ts. refl }

put_separator : (s : Separator) → Put (separator s)
put_separator (by_semicolon p) = record { is = λ ts. refl }
put_separator (by_comma p) = record { is = λ ts. refl }

put_maybe : (s : Option Separator) → Put (maybe_separator s)
put_maybe None = put_none
put_maybe (Some s) = put_separator s

put_colon : (c : Colon) → Put (colon_tokens c)
put_colon (colon p) = record { is = λ ts. refl }
put_colon (colon_plus p q) = record { is = λ ts. refl }
put_colon (colon_minus p q) = record { is = λ ts. refl }

pub put_labels : (ls : Labels) → Put (labels ls)
put_labels no_labels = put_none
put_labels (label x c ls) = put_after (tk.token x.place (tk.word x.word)) (put_both (put_colon c) (put_labels ls))

pub put_binds : (bs : Binds) → Put (binds bs)
put_binds (last_bind x b p e s) = put_after (tk.token x.place (tk.word x.word)) (put_after (tk.token p (tk.sign_of (g.bind_sign b))) (put_both (put_phrase e) (put_maybe s)))
put_binds (bind x b p e s bs) = put_after (tk.token x.place (tk.word x.word)) (put_after (tk.token p (tk.sign_of (g.bind_sign b))) (put_both (put_phrase e) (put_both (put_separator s) (put_binds bs))))

put_arguments : (xs : Arguments) → Put (arguments xs)
put_arguments (no_arguments p q) = record { is = λ ts. refl }
put_arguments (some_arguments p xs q) = put_after (tk.token p (tk.mark tk.open_bracket)) (put_both (record { is = λ ts. all_more xs [] ts }) (put_one (tk.token q (tk.mark tk.close_bracket))))

put_assignments : (ms : Assignments) → Put (assignments ms)
put_assignments (last_assignment l p e) = put_both (put_phrase l) (put_after (tk.token p (tk.mark tk.assigns)) (put_phrase e))
put_assignments (assignment l p e q ms) = put_both (put_phrase l) (put_after (tk.token p (tk.mark tk.assigns)) (put_both (put_phrase e) (put_after (tk.token q (tk.mark tk.beside)) (put_assignments ms))))

pub put_simple : (s : Simple) → Put (simple_tokens s)
put_simple (g.assign ms) = put_assignments ms
put_simple (g.await p e) = put_after (tk.token p (tk.reserved (codes "await"))) (put_phrase e)
put_simple (g.when p e) = put_after (tk.token p (tk.reserved (codes "when"))) (put_phrase e)
put_simple (g.print p e) = put_after (tk.token p (tk.reserved (codes "print"))) (put_phrase e)
put_simple (g.assert p e) = put_after (tk.token p (tk.reserved (codes "assert"))) (put_phrase e)
put_simple (g.skip p) = record { is = λ ts. refl }
put_simple (g.goto p x) = record { is = λ ts. refl }
put_simple (g.call p x xs) = put_after (tk.token p (tk.reserved (codes "call"))) (put_after (tk.token x.place (tk.word x.word)) (put_arguments xs))
put_simple (g.return p) = record { is = λ ts. refl }
put_simple (g.macro x xs) = put_after (tk.token x.place (tk.word x.word)) (put_arguments xs)

mutual
  pub put_statement : (a : Statement) → Put (statement a)
  put_statement (simple s) = put_simple s
  put_statement (branch p q e r a b) = put_after (tk.token p (tk.reserved (codes "if"))) (put_after (tk.token q (tk.mark tk.open_bracket)) (put_both (put_phrase e) (put_after (tk.token r (tk.mark tk.close_bracket)) (put_both (put_labelled a) (put_else b)))))
  put_statement (either p a bs) = put_after (tk.token p (tk.reserved (codes "either"))) (put_both (put_labelled a) (put_branches bs))
  put_statement (with p q bs r a) = put_after (tk.token p (tk.reserved (codes "with"))) (put_after (tk.token q (tk.mark tk.open_bracket)) (put_both (put_binds bs) (put_after (tk.token r (tk.mark tk.close_bracket)) (put_labelled a))))
  put_statement (while p q e r a) = put_after (tk.token p (tk.reserved (codes "while"))) (put_after (tk.token q (tk.mark tk.open_bracket)) (put_both (put_phrase e) (put_after (tk.token r (tk.mark tk.close_bracket)) (put_labelled a))))
  put_statement (compound p ss q) = put_after (tk.token p (tk.mark tk.open_brace)) (put_both (put_sequence ss) (put_one (tk.token q (tk.mark tk.close_brace))))

  pub put_labelled : (a : Labelled) → Put (labelled_tokens a)
  put_labelled (labelled ls st) = put_both (put_labels ls) (put_statement st)

  put_else : (b : Else) → Put (else_tokens b)
  put_else no_else = put_none
  put_else (else_then s p a) = put_both (put_semicolon s) (put_after (tk.token p (tk.reserved (codes "else"))) (put_labelled a))

  put_branches : (bs : Branches) → Put (branches bs)
  put_branches (last_branch s p a) = put_both (put_semicolon s) (put_after (tk.token p (tk.reserved (codes "or"))) (put_labelled a))
  put_branches (more_branches s p a bs) = put_both (put_semicolon s) (put_after (tk.token p (tk.reserved (codes "or"))) (put_both (put_labelled a) (put_branches bs)))

  pub put_sequence : (ss : Sequence) → Put (sequence ss)
  put_sequence (last_statement a s) = put_both (put_labelled a) (put_semicolon s)
  put_sequence (more_statements a s ss) = put_both (put_labelled a) (put_both (put_semicolon s) (put_sequence ss))

-- ---- the last of them
last_behind : (xs ts : List Token) → is_empty ts ≡ false → last_place (xs ++ ts) ≡ last_place ts
last_behind xs [] h = absurd cc
last_behind [] (t ∷ ts) h = refl
last_behind (x ∷ []) (t ∷ ts) h = refl
last_behind (x ∷ y ∷ xs) (t ∷ ts) h = last_behind (y ∷ xs) (t ∷ ts) h

pub last_put : {x : List Token → List Token} → Put x → (ts : List Token) → is_empty ts ≡ false → last_place (x ts) ≡ last_place ts
last_put {x} h ts e = ap last_place (h.is ts) ∙ last_behind (x []) ts e

some_behind : (xs ts : List Token) → is_empty ts ≡ false → is_empty (xs ++ ts) ≡ false
some_behind [] ts h = h
some_behind (x ∷ xs) ts h = refl

pub some_put : {x : List Token → List Token} → Put x → (ts : List Token) → is_empty ts ≡ false → is_empty (x ts) ≡ false
some_put {x} h ts e = ap is_empty (h.is ts) ∙ some_behind (x []) ts e

some_simple : (s : Simple) → is_empty (simple_tokens s []) ≡ false
some_simple (g.assign (last_assignment l p e)) = some_put (put_phrase l) (mark p tk.assigns (spell e [])) refl
some_simple (g.assign (assignment l p e q ms)) = some_put (put_phrase l) (mark p tk.assigns (spell e (mark q tk.beside (assignments ms [])))) refl
some_simple (g.await p e) = refl
some_simple (g.when p e) = refl
some_simple (g.print p e) = refl
some_simple (g.assert p e) = refl
some_simple (g.skip p) = refl
some_simple (g.goto p x) = refl
some_simple (g.call p x xs) = refl
some_simple (g.return p) = refl
some_simple (g.macro x xs) = refl

some_statement : (a : Statement) → is_empty (statement a []) ≡ false
some_statement (simple s) = some_simple s
some_statement (branch p q e r a b) = refl
some_statement (either p a bs) = refl
some_statement (with p q bs r a) = refl
some_statement (while p q e r a) = refl
some_statement (compound p ss q) = refl

pub some_labelled : (a : Labelled) → is_empty (labelled_tokens a []) ≡ false
some_labelled (labelled ls st) = some_put (put_labels ls) (statement st []) (some_statement st)

-- with its labels it ends where it ends itself
pub last_labelled : (ls : Labels) (st : Statement) → last_place (labelled_tokens (labelled ls st) []) ≡ last_place (statement st [])
last_labelled ls st = last_put (put_labels ls) (statement st []) (some_statement st)
