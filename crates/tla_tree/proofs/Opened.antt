-- What is read where one form more is open, by the forms.
use Rattle.std.specs.Prelude.{ℕ, Bool, ◌&&◌, nat_eq}
use Rattle.tla_token.specs.declared.place.Place.{Place}
use Rattle.tla_tree.specs.declared.op.Op.{Op}
use Rattle.tla_tree.specs.Tree.{Word}
use Rattle.tla_tree.specs.Lexical as tk
use Rattle.tla_tree.specs.Spelling.{Phrase, Path, Bullets, call, brackets, cases, local, prefix_of, infix_of, apply, select, index}
use Rattle.tla_tree.specs.Reader.{Room, Readers, Reader, ◌>>=◌, skip, peek, take, gives, ended, a_mark, a_key, a_field, is_sign, Context, free, right_of, is_free, braces, tuples, squares, choice_from, quantifier, under_by, bullet_of, bullets_if}

abbrev pub in_call : ℕ → Place → Word → Place → Room → Readers → Reader Phrase
in_call e p x q i d = skip (d.phrases e >>= λ xs. ended e tk.close_bracket (λ s. call p x q xs s))

abbrev pub in_brackets : Readers → ℕ → Place → Room → Readers → Reader Phrase
in_brackets r e p i d = skip (d.expr e free >>= λ a. a_mark e tk.close_bracket >>= λ q. r.postfix e (brackets p a q))

abbrev pub in_braces : Readers → ℕ → Place → Room → Readers → Reader Phrase
in_braces r e p i d = skip (peek e (braces i d e p) >>= λ a. r.postfix e a)

abbrev pub in_tuples : Readers → ℕ → Place → Room → Readers → Reader Phrase
in_tuples r e p i d = skip (peek e (tuples d e p) >>= λ a. r.postfix e a)

abbrev pub in_squares : Readers → ℕ → Place → Room → Readers → Reader Phrase
in_squares r e p i d = skip (peek e (squares i d e p) >>= λ a. r.postfix e a)

abbrev pub in_choice : ℕ → Place → Room → Readers → Reader Phrase
in_choice e p i d = skip (choice_from d e p)

abbrev pub in_cases : ℕ → Place → Room → Readers → Reader Phrase
in_cases e p i d = skip (d.arms e >>= λ xs. gives (cases p xs))

abbrev pub in_local : ℕ → Place → Room → Readers → Reader Phrase
in_local e p i d = skip (d.locals e >>= λ ls. a_key e tk.in_key >>= λ q. d.expr e free >>= λ a. gives (local p ls q a))

abbrev pub in_quantifier : ℕ → Bool → Place → Room → Readers → Reader Phrase
in_quantifier e b p i d = skip (quantifier d e b p)

abbrev pub in_signed : ℕ → Context → Place → Op → Room → Readers → Reader Phrase
in_signed e c p q i d = skip (under_by (is_free c q) d e q >>= λ a. gives (prefix_of p q a))

abbrev pub in_short : ℕ → Place → Op → Room → Readers → Reader Phrase
in_short e p q i d = skip (d.short e >>= λ a. gives (prefix_of p q a))

abbrev pub in_apply : Readers → ℕ → Phrase → Place → Room → Readers → Reader Phrase
in_apply r e a p i d = skip (d.phrases e >>= λ xs. a_mark e tk.close_square >>= λ q. r.postfix e (apply a p xs q))

abbrev pub in_select : Readers → ℕ → Phrase → Place → Room → Readers → Reader Phrase
in_select r e a p i d = skip (a_field e >>= λ f. r.postfix e (select a p f))

abbrev pub in_climb : Readers → ℕ → Context → Phrase → Place → Op → Room → Readers → Reader Phrase
in_climb r e c a p o i d = skip (d.expr e (right_of o) >>= λ s. r.climb e c (infix_of a p o s))

abbrev pub in_index : Readers → ℕ → Place → Room → Readers → Reader Path
in_index r e p i d = skip (d.phrases e >>= λ xs. a_mark e tk.close_square >>= λ q. r.path e >>= λ path. gives (index p xs q path))

abbrev pub in_bullets : ℕ → Op → ℕ → Room → Readers → Reader Bullets
in_bullets e o c i d = take e (bullet_of o c) >>= λ p. d.expr c free >>= λ a. peek e (λ q k. bullets_if (is_sign o k && nat_eq c q.col) d e o c p a)
