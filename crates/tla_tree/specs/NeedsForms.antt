-- What is wanted where an expression is refused, by all readers together, and the tokens that complete what was passed.
use Rattle.std.specs.Prelude.{ℕ, Bool, true, false, [], ◌∷◌, Option, Some, None}
use Rattle.tla_token.specs.declared.place.Place.{Place}
use Rattle.tla_tree.specs.declared.op.Op.{Op}
use Rattle.tla_tree.specs.declared.op.Op.TheVariants as op
use Rattle.tla_tree.specs.Rank.{is_bullet}
use Rattle.tla_tree.specs.Lexical.{Key, TokenView}
use Rattle.tla_tree.specs.Lexical as tk
use Rattle.tla_tree.specs.Nesting.{links}
use Rattle.tla_tree.specs.Spelling.{Phrase, number, string, constant, brackets, apply, select, list, infix_of, can_be_head}
use Rattle.tla_tree.specs.Reader.{Room, Readers, Context, free, under, right_of, bound, is_free, prefix_by, goes_on, so_far, next, tail, peek, a_mark, a_key, a_word, a_field, braces, tuples, squares}
use Rattle.tla_tree.specs.Wanted.{around, Need, or_then, need_opened, need_after, mark_at, key_at, sign_at, number_at, word_at, a_number, a_close}
use Rattle.tla_tree.specs.Needs.{Needs, need_name, need_braces, need_tuples, need_squares}

-- ---- primaries
abbrev pub need_list : Bool → Readers → Needs → ℕ → Place → Op → Need
need_list true r w e p o ts = or_then (r.bullets e o p.col ts) (w.bullets e o p.col ts) (λ bs us. w.postfix e (list o bs) us)
need_list false r w e p o ts = a_number e

abbrev pub need_brackets : Readers → Needs → ℕ → Place → Need
need_brackets r w e p ts =
    or_then (r.expr e free (tail ts)) (around (w.expr e free (tail ts)) (mark_at e tk.close_bracket ∷ [])) (λ a us.
    or_then (a_mark e tk.close_bracket us) (a_close e tk.close_bracket) (λ q vs. w.postfix e (brackets p a q) vs))

abbrev pub need_in_braces : Room → Readers → Needs → ℕ → Place → Need
need_in_braces m r w e p ts = or_then (peek e (braces m r e p) (tail ts)) (need_braces m r w e (next e (tail ts)).place (next e (tail ts)).kind (tail ts)) (λ a us. w.postfix e a us)

abbrev pub need_in_tuple : Readers → Needs → ℕ → Place → Need
need_in_tuple r w e p ts = or_then (peek e (tuples r e p) (tail ts)) (need_tuples r w e (next e (tail ts)).kind (tail ts)) (λ a us. w.postfix e a us)

abbrev pub need_in_squares : Room → Readers → Needs → ℕ → Place → Need
need_in_squares m r w e p ts = or_then (peek e (squares m r e p) (tail ts)) (need_squares m r w e (next e (tail ts)).place (next e (tail ts)).kind (tail ts)) (λ a us. w.postfix e a us)

abbrev pub need_primary : Room → Readers → Needs → ℕ → Place → TokenView → Need
need_primary m r w e p (tk.number n) = λ ts. w.postfix e (number p n) (tail ts)
need_primary m r w e p (tk.string x) = λ ts. w.postfix e (string p x) (tail ts)
need_primary m r w e p (tk.constant c) = λ ts. w.postfix e (constant p c) (tail ts)
need_primary m r w e p (tk.word x) = λ ts. need_name m w e p x (tail ts)
need_primary m r w e p (tk.mark tk.open_bracket) = need_opened m 0 (a_number e) (λ i d. need_brackets d w e p)
need_primary m r w e p (tk.mark tk.open_brace) = need_opened m 0 (a_number e) (λ i d. need_in_braces i d w e p)
need_primary m r w e p (tk.mark tk.open_tuple) = need_opened m 0 (a_number e) (λ i d. need_in_tuple d w e p)
need_primary m r w e p (tk.mark tk.open_square) = need_opened m 0 (a_number e) (λ i d. need_in_squares i d w e p)
need_primary m r w e p (tk.sign o) = need_list (is_bullet o) r w e p o
need_primary m r w e p k = λ ts. a_number e

-- ---- open forms
abbrev pub need_quantifier : Readers → Needs → ℕ → Need
need_quantifier r w e ts =
    or_then (a_word e ts) ((word_at e ∷ sign_at e op.In ∷ number_at e ∷ mark_at e tk.colon ∷ number_at e ∷ []) ∷ []) (λ x us.
    or_then (r.binds e x.0 x.1 us) (around (w.binds e x.0 x.1 us) (mark_at e tk.colon ∷ number_at e ∷ [])) (λ bs vs.
    or_then (a_mark e tk.colon vs) ((mark_at e tk.colon ∷ number_at e ∷ []) ∷ []) (λ q ws. w.expr e free ws)))

abbrev pub need_choice : Readers → Needs → ℕ → Need
need_choice r w e ts =
    or_then (r.expr e free ts) (around (w.expr e free ts) (key_at e tk.then_key ∷ number_at e ∷ key_at e tk.else_key ∷ number_at e ∷ [])) (λ a us.
    or_then (a_key e tk.then_key us) ((key_at e tk.then_key ∷ number_at e ∷ key_at e tk.else_key ∷ number_at e ∷ []) ∷ []) (λ q vs.
    or_then (r.expr e free vs) (around (w.expr e free vs) (key_at e tk.else_key ∷ number_at e ∷ [])) (λ b ws.
    or_then (a_key e tk.else_key ws) ((key_at e tk.else_key ∷ number_at e ∷ []) ∷ []) (λ t xs. w.expr e free xs))))

abbrev pub need_local : Readers → Needs → ℕ → Need
need_local r w e ts =
    or_then (r.locals e ts) (around (w.locals e ts) (key_at e tk.in_key ∷ number_at e ∷ [])) (λ ls us.
    or_then (a_key e tk.in_key us) ((key_at e tk.in_key ∷ number_at e ∷ []) ∷ []) (λ q vs. w.expr e free vs))

abbrev pub need_keyed : Room → Needs → ℕ → Key → Need
need_keyed m w e tk.if_key = need_opened m 0 (a_number e) (λ i d ts. need_choice d w e (tail ts))
need_keyed m w e tk.case_key = need_opened m 0 (a_number e) (λ i d ts. w.arms e (tail ts))
need_keyed m w e tk.let_key = need_opened m 0 (a_number e) (λ i d ts. need_local d w e (tail ts))
need_keyed m w e tk.for_all_key = need_opened m 0 (a_number e) (λ i d ts. need_quantifier d w e (tail ts))
need_keyed m w e tk.exists_key = need_opened m 0 (a_number e) (λ i d ts. need_quantifier d w e (tail ts))
need_keyed m w e k = λ ts. a_number e

-- ---- operands
abbrev pub need_under : Bool → Needs → ℕ → Op → Need
need_under true w e q = w.expr e (under q)
need_under false w e q = w.short e

abbrev pub need_signed : Room → Readers → Needs → ℕ → Context → Place → Op → Option Op → Need
need_signed m r w e c p o (Some q) = need_opened m 0 (a_number e) (λ i d ts. need_under (is_free c q) w e q (tail ts))
need_signed m r w e c p o None = need_list (is_bullet o) r w e p o

abbrev pub need_operand : Room → Readers → Needs → ℕ → Context → Place → TokenView → Need
need_operand m r w e c p (tk.key k) = need_keyed m w e k
need_operand m r w e c p (tk.sign o) = need_signed m r w e c p o (prefix_by o)
need_operand m r w e c p k = need_primary m r w e p k

abbrev pub need_short_signed : Room → Readers → Needs → ℕ → Place → Op → Option Op → Need
need_short_signed m r w e p o (Some q) = need_opened m 0 (a_number e) (λ i d ts. w.short e (tail ts))
need_short_signed m r w e p o None = need_list (is_bullet o) r w e p o

abbrev pub need_short : Room → Readers → Needs → ℕ → Place → TokenView → Need
need_short m r w e p (tk.sign o) = need_short_signed m r w e p o (prefix_by o)
need_short m r w e p k = need_primary m r w e p k

-- ---- loops
abbrev pub need_subscript : Readers → Needs → ℕ → Phrase → Place → Need
need_subscript r w e a p ts =
    or_then (r.phrases e (tail ts)) (around (w.phrases e (tail ts)) (mark_at e tk.close_square ∷ [])) (λ xs us.
    or_then (a_mark e tk.close_square us) (a_close e tk.close_square) (λ q vs. w.postfix e (apply a p xs q) vs))

abbrev pub need_apply : Bool → Room → Needs → ℕ → Phrase → Place → Need
need_apply true m w e a p = need_opened m (links a) [] (λ i d. need_subscript d w e a p)
need_apply false m w e a p = λ ts. []

abbrev pub need_selected : Needs → ℕ → Phrase → Place → Need
need_selected w e a p ts = or_then (a_field e (tail ts)) ((word_at e ∷ []) ∷ []) (λ f us. w.postfix e (select a p f) us)

abbrev pub need_select : Bool → Room → Needs → ℕ → Phrase → Place → Need
need_select true m w e a p = need_opened m (links a) [] (λ i d. need_selected w e a p)
need_select false m w e a p = λ ts. []

abbrev pub need_postfix : Room → Needs → ℕ → Phrase → Place → TokenView → Need
need_postfix m w e a p (tk.mark tk.open_square) = need_apply (can_be_head a p) m w e a p
need_postfix m w e a p (tk.mark tk.dot) = need_select (can_be_head a p) m w e a p
need_postfix m w e a p k = λ ts. []

abbrev pub need_right : Needs → ℕ → Context → Phrase → Place → Op → Room → Readers → Need
need_right w e c a p o i d ts = or_then (d.expr e (right_of o) (tail ts)) (w.expr e (right_of o) (tail ts)) (λ s us. w.climb e c (infix_of a p o s) us)

abbrev pub need_infix : Bool → Room → Needs → ℕ → Context → Phrase → Place → Op → Need
need_infix true m w e c a p o = need_after m (so_far m c a p o) (need_right w e c a p o)
need_infix false m w e c a p o = λ ts. []

abbrev pub need_climb : Room → Needs → ℕ → Context → Phrase → Place → TokenView → Need
need_climb m w e c a p (tk.sign o) = need_infix (goes_on (bound c) a p o) m w e c a p o
need_climb m w e c a p k = λ ts. []
