-- What each reader of expressions wants where it refuses: by the same steps as the reader takes.
use Rattle.std.specs.Prelude.{ℕ, true, [], ◌∷◌, Option, Some, None}
use Rattle.tla_token.specs.declared.place.Place.{Place}
use Rattle.tla_tree.specs.declared.op.Op.{Op}
use Rattle.tla_tree.specs.declared.op.Op.TheVariants as op
use Rattle.tla_tree.specs.Tree.{Word}
use Rattle.tla_tree.specs.Lexical.{Mark, TokenView}
use Rattle.tla_tree.specs.Lexical as tk
use Rattle.tla_tree.specs.Spelling.{Field, Phrase}
use Rattle.tla_tree.specs.Reader.{Room, Readers, Context, free, behind, element, next, tail, peek, a_mark, a_word, bind_rest, plain_field, named, from_name}
use Rattle.tla_tree.specs.Wanted.{Want, around, Need, or_then, need_opened, need_fit, mark_at, sign_at, number_at, word_at, a_close}

-- ---- of the readers that call one another
pub record Needs : Type 0 where
  pub expr : ℕ → Context → Need
  pub short : ℕ → Need
  pub postfix : ℕ → Phrase → Need
  pub climb : ℕ → Context → Phrase → Need
  pub phrases : ℕ → Need
  pub binds : ℕ → Place → Word → Need
  pub fields : ℕ → Mark → Field → Need
  pub settings : ℕ → Need
  pub path : ℕ → Need
  pub bullets : ℕ → Op → ℕ → Need
  pub arms : ℕ → Need
  pub locals : ℕ → Need

-- ---- names
abbrev pub need_call : Readers → Needs → ℕ → Need
need_call r w e ts = or_then (r.phrases e (tail ts)) (around (w.phrases e (tail ts)) (mark_at e tk.close_bracket ∷ [])) (λ xs us. a_close e tk.close_bracket)

abbrev pub need_named : Room → Needs → ℕ → TokenView → Need
need_named m w e (tk.mark tk.open_bracket) = need_opened m 0 [] (λ i d. need_call d w e)
need_named m w e k = λ ts. []

abbrev pub need_name : Room → Needs → ℕ → Place → Word → Need
need_name m w e p x ts = or_then (peek e (named m e p x) ts) (need_named m w e (next e ts).kind ts) (λ a us. w.postfix e a us)

abbrev pub need_bind : Needs → ℕ → TokenView → Need
need_bind w e (tk.mark tk.comma) ts = or_then (a_word e (tail ts)) ((word_at e ∷ sign_at e op.In ∷ number_at e ∷ []) ∷ []) (λ y us. w.binds e y.0 y.1 us)
need_bind w e k ts = []

-- ---- braces
abbrev pub need_set : Readers → Needs → ℕ → TokenView → Need
need_set r w e (tk.mark tk.comma) ts = or_then (r.phrases e (tail ts)) (around (w.phrases e (tail ts)) (mark_at e tk.close_brace ∷ [])) (λ xs us. a_close e tk.close_brace)
need_set r w e k ts = a_close e tk.close_brace

abbrev pub need_image : Readers → Needs → ℕ → Need
need_image r w e ts = or_then (a_word e ts) ((word_at e ∷ sign_at e op.In ∷ number_at e ∷ mark_at e tk.close_brace ∷ []) ∷ []) (λ x us. or_then (r.binds e x.0 x.1 us) (around (w.binds e x.0 x.1 us) (mark_at e tk.close_brace ∷ [])) (λ bs vs. a_close e tk.close_brace))

abbrev pub need_brace : Readers → Needs → ℕ → TokenView → Need
need_brace r w e (tk.mark tk.colon) ts = need_image r w e (tail ts)
need_brace r w e k ts = need_set r w e k ts

-- behind `{x \in S`, as a set for x
abbrev pub a_filter : ℕ → Want
a_filter e = mark_at e tk.colon ∷ number_at e ∷ mark_at e tk.close_brace ∷ []

abbrev pub need_element : Room → Readers → Needs → ℕ → Phrase → TokenView → Need
need_element m r w e a (tk.mark tk.comma) = need_fit (m.fits 0 a) (a_filter e ∷ []) (need_set r w e (tk.mark tk.comma))
need_element m r w e a k = λ ts. a_filter e ∷ []

abbrev pub need_set_from : Room → Readers → Needs → ℕ → Option Phrase → Need
need_set_from m r w e (Some a) ts = need_element m r w e a (next e ts).kind ts
need_set_from m r w e None ts = a_filter e ∷ []

abbrev pub need_condition : Readers → Needs → ℕ → Need
need_condition r w e ts = or_then (r.expr e free (tail ts)) (around (w.expr e free (tail ts)) (mark_at e tk.close_brace ∷ [])) (λ b us. a_close e tk.close_brace)

abbrev pub need_member : Room → Readers → Needs → ℕ → Place → Word → Place → Phrase → TokenView → Need
need_member m r w e q x s a (tk.mark tk.colon) = need_fit (m.fits 0 a) (a_filter e ∷ []) (need_condition r w e)
need_member m r w e q x s a k = need_set_from m r w e (element q x s a)

abbrev pub need_brace_name : Room → Readers → Needs → ℕ → Place → Word → Place → TokenView → Need
need_brace_name m r w e q x s (tk.sign op.In) ts = or_then (r.expr e (behind q x s) (tail ts)) (around (w.expr e (behind q x s) (tail ts)) (a_filter e)) (λ a us. need_member m r w e q x s a (next e us).kind us)
need_brace_name m r w e q x s k ts = or_then (from_name m r e q x ts) (around (need_name m w e q x ts) (mark_at e tk.close_brace ∷ [])) (λ a us. or_then (r.climb e free a us) (around (w.climb e free a us) (mark_at e tk.close_brace ∷ [])) (λ b vs. need_brace r w e (next e vs).kind vs))

abbrev pub need_braces : Room → Readers → Needs → ℕ → Place → TokenView → Need
need_braces m r w e q (tk.mark tk.close_brace) ts = []
need_braces m r w e q (tk.word x) ts = need_brace_name m r w e q x (next e (tail ts)).place (next e (tail ts)).kind (tail ts)
need_braces m r w e q k ts = or_then (r.expr e free ts) (around (w.expr e free ts) (mark_at e tk.close_brace ∷ [])) (λ a us. need_brace r w e (next e us).kind us)

-- ---- tuples
abbrev pub need_tuples : Readers → Needs → ℕ → TokenView → Need
need_tuples r w e (tk.mark tk.close_tuple) ts = []
need_tuples r w e k ts = or_then (r.phrases e ts) (around (w.phrases e ts) (mark_at e tk.close_tuple ∷ [])) (λ xs us. a_close e tk.close_tuple)

-- ---- square brackets
abbrev pub a_value : ℕ → Want
a_value e = mark_at e tk.maps ∷ number_at e ∷ mark_at e tk.close_square ∷ []

abbrev pub an_arrow : ℕ → Want
an_arrow e = mark_at e tk.arrow ∷ number_at e ∷ mark_at e tk.close_square ∷ []

abbrev pub need_field : Readers → Needs → ℕ → Field → TokenView → Need
need_field r w e f (tk.mark tk.maps) ts = or_then (r.fields e tk.maps f ts) (around (w.fields e tk.maps f ts) (mark_at e tk.close_square ∷ [])) (λ fs us. a_close e tk.close_square)
need_field r w e f (tk.mark tk.colon) ts = or_then (r.fields e tk.colon f ts) (around (w.fields e tk.colon f ts) (mark_at e tk.close_square ∷ [])) (λ fs us. a_close e tk.close_square)
need_field r w e f k ts = a_value e ∷ []

abbrev pub need_function : Readers → Needs → ℕ → Need
need_function r w e ts = or_then (a_mark e tk.maps ts) (a_value e ∷ []) (λ q us. or_then (r.expr e free us) (around (w.expr e free us) (mark_at e tk.close_square ∷ [])) (λ a vs. a_close e tk.close_square))

abbrev pub need_square : Readers → Needs → ℕ → TokenView → Need
need_square r w e (tk.mark tk.arrow) ts = or_then (r.expr e free (tail ts)) (around (w.expr e free (tail ts)) (mark_at e tk.close_square ∷ [])) (λ b us. a_close e tk.close_square)
need_square r w e (tk.key tk.except_key) ts = or_then (r.settings e (tail ts)) (around (w.settings e (tail ts)) (mark_at e tk.close_square ∷ [])) (λ ss us. a_close e tk.close_square)
need_square r w e k ts = an_arrow e ∷ []

-- behind `[x \in S`, as a function of x
abbrev pub need_left : Room → Readers → Needs → ℕ → Phrase → TokenView → Need
need_left m r w e a (tk.mark tk.arrow) = need_fit (m.fits 0 a) (a_value e ∷ []) (need_square r w e (tk.mark tk.arrow))
need_left m r w e a (tk.key tk.except_key) = need_fit (m.fits 0 a) (a_value e ∷ []) (need_square r w e (tk.key tk.except_key))
need_left m r w e a k = λ ts. a_value e ∷ []

abbrev pub need_square_from : Room → Readers → Needs → ℕ → Option Phrase → Need
need_square_from m r w e (Some a) ts = need_left m r w e a (next e ts).kind ts
need_square_from m r w e None ts = a_value e ∷ []

abbrev pub need_arguments : Readers → Needs → ℕ → Place → Word → Place → Phrase → Need
need_arguments r w e q x s a ts = or_then (peek e (bind_rest r e q x s a) ts) (around (need_bind w e (next e ts).kind ts) (a_value e)) (λ bs us. need_function r w e us)

abbrev pub need_argument : Room → Readers → Needs → ℕ → Place → Word → Place → Phrase → TokenView → Need
need_argument m r w e q x s a (tk.mark tk.maps) = need_fit (m.fits 0 a) (a_value e ∷ []) (need_function r w e)
need_argument m r w e q x s a (tk.mark tk.comma) = need_fit (m.fits 0 a) (a_value e ∷ []) (need_arguments r w e q x s a)
need_argument m r w e q x s a k = need_square_from m r w e (element q x s a)

abbrev pub need_square_name : Room → Readers → Needs → ℕ → Place → Word → Place → TokenView → Need
need_square_name m r w e q x s (tk.mark tk.maps) ts = need_field r w e (plain_field q x) (tk.mark tk.maps) ts
need_square_name m r w e q x s (tk.mark tk.colon) ts = need_field r w e (plain_field q x) (tk.mark tk.colon) ts
need_square_name m r w e q x s (tk.mark tk.comma) ts = or_then (r.binds e q x ts) (around (w.binds e q x ts) (a_value e)) (λ bs us. need_function r w e us)
need_square_name m r w e q x s (tk.sign op.In) ts = or_then (r.expr e (behind q x s) (tail ts)) (around (w.expr e (behind q x s) (tail ts)) (a_value e)) (λ a us. need_argument m r w e q x s a (next e us).kind us)
need_square_name m r w e q x s k ts = or_then (from_name m r e q x ts) (around (need_name m w e q x ts) (an_arrow e)) (λ a us. or_then (r.climb e free a us) (around (w.climb e free a us) (an_arrow e)) (λ b vs. need_square r w e (next e vs).kind vs))

abbrev pub need_squares : Room → Readers → Needs → ℕ → Place → TokenView → Need
need_squares m r w e q (tk.reserved x) ts = need_field r w e (record { place = q; is_reserved = true; text = x }) (next e (tail ts)).kind (tail ts)
need_squares m r w e q (tk.word x) ts = need_square_name m r w e q x (next e (tail ts)).place (next e (tail ts)).kind (tail ts)
need_squares m r w e q k ts = or_then (r.expr e free ts) (around (w.expr e free ts) (an_arrow e)) (λ a us. need_square r w e (next e us).kind us)
