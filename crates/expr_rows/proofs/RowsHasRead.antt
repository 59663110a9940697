-- Worked rows: what is left of tokens, and what comes behind the first token of a form.
use Rattle.std.proofs.Common.{◌≡◌, false, List, [], ◌∷◌, Ok, Err, refl}
use Rattle.tla_token.specs.declared.place.Place.{Place}
use Rattle.tla_token.specs.declared.rule.Rule.TheVariants.{Syntax}
use Rattle.tla_token.specs.declared.token.Tokens.{Tokens}
use Rattle.tla_tree.specs.declared.op.Op.TheVariants as op
use Rattle.tla_tree.specs.Tree.{Word}
use Rattle.tla_tree.specs.Lexical.{Token, token}
use Rattle.tla_tree.specs.Lexical as tk
use Rattle.tla_tree.specs.Spelling.{Phrase, Phrases, select, apply, call, tuple, filter, prefix_of, functions, brackets}
use Rattle.tla_tree.specs.Reader.{Readers, no_steps}
use Rattle.expr_nodes.specs.ReadIn.{seen}
use Rattle.expr_nodes.specs.Ahead.{ahead}
use Rattle.expr_rows.specs.HasRead.{selected, applied, bracketed, called, tupled, under_prefix, mapped_to, filtered}

all_ahead : (v : Tokens) → ahead v 0 ≡ seen v.bytes.items v.items.items
all_ahead v = refl

abbrev here : Place
here = record { line = 1; col = 3 }

field_after : (a : Phrase) (p : Place) (x : Word) (ts : List Token) → selected 2 a p (token here (tk.word x) ∷ ts) ≡ Ok (select a p (record { place = here; is_reserved = false; text = x }), ts)
field_after a p x ts = refl

-- at the edge there is none
no_field_after : (a : Phrase) (p : Place) (x : Word) → selected 3 a p (token here (tk.word x) ∷ []) ≡ Err (Syntax, token here (tk.word x) ∷ [])
no_field_after a p x = refl

-- a reader that always reads this phrase, and takes nothing
abbrev always : Phrase → Readers
always b = record no_steps { expr = λ e c ts. Ok (b, ts) }

closed : (b : Phrase) (p : Place) → bracketed (always b) 0 p (token here (tk.mark tk.close_bracket) ∷ []) ≡ Ok (brackets p b here, [])
closed b p = refl

not_closed : (b : Phrase) (p : Place) → bracketed (always b) 0 p [] ≡ Err (Syntax, [])
not_closed b p = refl

negated : (b : Phrase) (p : Place) → under_prefix (always b) 0 p op.Not [] ≡ Ok (prefix_of p op.Not b, [])
negated b p = refl

to_set : (a b : Phrase) (p q : Place) → mapped_to (always b) 0 p a q (token here (tk.mark tk.close_square) ∷ []) ≡ Ok (functions p a q b here, [])
to_set a b p q = refl

tested : (a b : Phrase) (p q s t : Place) (x : Word) → filtered (always b) 0 p q x s a t (token here (tk.mark tk.close_brace) ∷ []) ≡ Ok (filter p q x s a t b here, [])
tested a b p q s t x = refl

-- one that always reads this row
abbrev rows : Phrases → Readers
rows xs = record no_steps { phrases = λ e ts. Ok (xs, ts) }

called_with : (xs : Phrases) (p q : Place) (x : Word) → called (rows xs) 0 p x q (token here (tk.mark tk.close_bracket) ∷ []) ≡ Ok (call p x q xs here, [])
called_with xs p q x = refl

not_called : (xs : Phrases) (p q : Place) (x : Word) → called (rows xs) 0 p x q (token here (tk.mark tk.close_square) ∷ []) ≡ Err (Syntax, token here (tk.mark tk.close_square) ∷ [])
not_called xs p q x = refl

tuple_of : (xs : Phrases) (p : Place) → tupled (rows xs) 0 p (token here (tk.mark tk.close_tuple) ∷ []) ≡ Ok (tuple p xs here, [])
tuple_of xs p = refl

applied_to : (a : Phrase) (xs : Phrases) (p : Place) → applied (rows xs) 0 a p (token here (tk.mark tk.close_square) ∷ []) ≡ Ok (apply a p xs here, [])
applied_to a xs p = refl
