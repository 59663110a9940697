-- What is wanted where a list is refused, all readers together, and the tokens that complete what was passed.
use Rattle.std.specs.Prelude.{ℕ, zero, suc, ◌*◌, Bool, true, false, List, [], ◌∷◌, length, None}
use Rattle.tla_token.specs.declared.place.Place.{Place}
use Rattle.tla_tree.specs.declared.op.Op.{Op}
use Rattle.tla_tree.specs.declared.op.Op.TheVariants as op
use Rattle.tla_tree.specs.Lexical.{Mark, TokenView, Token}
use Rattle.tla_tree.specs.Lexical as tk
use Rattle.tla_tree.specs.Spelling.{Phrase, is_some_path, takes_box}
use Rattle.tla_tree.specs.Reader.{Room, Readers, free, any, readers, read, next, tail, peek, take, a_mark, a_sign, a_word, a_field, bullet_of, operand}
use Rattle.tla_tree.specs.Wanted.{Wants, completing, around, Need, or_then, need_opened, mark_at, sign_at, number_at, word_at, bullet_at, a_number, a_close}
use Rattle.tla_tree.specs.Needs.{Needs, need_bind}
use Rattle.tla_tree.specs.NeedsForms.{need_operand, need_short, need_postfix, need_climb}

-- ---- lists
abbrev pub need_phrases : Needs → ℕ → TokenView → Need
need_phrases w e (tk.mark tk.comma) ts = w.phrases e (tail ts)
need_phrases w e k ts = []

-- the names have no set yet
abbrev pub a_bind : ℕ → Wants
a_bind e = (sign_at e op.In ∷ number_at e ∷ []) ∷ []

abbrev pub need_binds : Readers → Needs → ℕ → TokenView → Need
need_binds r w e (tk.sign op.In) ts = or_then (r.expr e free (tail ts)) (w.expr e free (tail ts)) (λ a us. need_bind w e (next e us).kind us)
need_binds r w e (tk.mark tk.comma) ts = or_then (a_word e (tail ts)) ((word_at e ∷ sign_at e op.In ∷ number_at e ∷ []) ∷ []) (λ y us. w.binds e y.0 y.1 us)
need_binds r w e k ts = a_bind e

abbrev pub need_fields : Needs → ℕ → Mark → TokenView → Need
need_fields w e m (tk.mark tk.comma) ts = or_then (a_field e (tail ts)) ((word_at e ∷ mark_at e m ∷ number_at e ∷ []) ∷ []) (λ g us. w.fields e m g us)
need_fields w e m k ts = []

abbrev pub need_settings : Needs → ℕ → TokenView → Need
need_settings w e (tk.mark tk.comma) ts = w.settings e (tail ts)
need_settings w e k ts = []

abbrev pub need_setting : Bool → Readers → Needs → ℕ → Need
need_setting true r w e ts =
    or_then (a_sign e op.Equal ts) ((sign_at e op.Equal ∷ number_at e ∷ []) ∷ []) (λ q us.
    or_then (r.expr e free us) (w.expr e free us) (λ a vs. need_settings w e (next e vs).kind vs))
need_setting false r w e ts = (mark_at e tk.dot ∷ word_at e ∷ sign_at e op.Equal ∷ number_at e ∷ []) ∷ []

abbrev pub a_path : ℕ → Wants
a_path e = (mark_at e tk.dot ∷ word_at e ∷ []) ∷ []

abbrev pub need_index : Readers → Needs → ℕ → Need
need_index r w e ts =
    or_then (r.phrases e (tail ts)) (around (w.phrases e (tail ts)) (mark_at e tk.close_square ∷ [])) (λ xs us.
    or_then (a_mark e tk.close_square us) (a_close e tk.close_square) (λ q vs. w.path e vs))

abbrev pub need_path : Room → Needs → ℕ → TokenView → Need
need_path m w e (tk.mark tk.open_square) = need_opened m 0 (a_path e) (λ i d. need_index d w e)
need_path m w e (tk.mark tk.dot) = λ ts. or_then (a_field e (tail ts)) ((word_at e ∷ []) ∷ []) (λ f us. w.path e us)
need_path m w e k = λ ts. []

abbrev pub need_items : Readers → Needs → ℕ → Op → ℕ → Need
need_items r w e o c ts =
    or_then (take e (bullet_of o c) ts) [] (λ p us.
    or_then (r.expr c free us) (w.expr c free us) (λ a vs. w.bullets e o c vs))

abbrev pub need_other : Readers → Needs → ℕ → TokenView → Need
need_other r w e (tk.key tk.other_key) ts = or_then (a_mark e tk.arrow (tail ts)) ((mark_at e tk.arrow ∷ number_at e ∷ []) ∷ []) (λ t us. w.expr e free us)
need_other r w e k ts = w.arms e ts

abbrev pub need_arms : Bool → Readers → Needs → ℕ → Need
need_arms true r w e ts = []
need_arms false r w e ts = need_other r w e (next e (tail ts)).kind (tail ts)

abbrev pub need_arm : Readers → Needs → ℕ → Phrase → Place → TokenView → Need
need_arm r w e b q (tk.mark tk.box) = need_arms (takes_box q.col b) r w e
need_arm r w e b q k = λ ts. []

abbrev pub need_locals : Needs → ℕ → TokenView → Need
need_locals w e (tk.word y) ts = w.locals e ts
need_locals w e k ts = []

-- ---- one step of each, over the wants of what is left
abbrev pub a_field_of : ℕ → Mark → Wants
a_field_of e m = (mark_at e m ∷ number_at e ∷ []) ∷ []

abbrev pub a_setting : ℕ → Wants
a_setting e = (mark_at e tk.bang ∷ mark_at e tk.dot ∷ word_at e ∷ sign_at e op.Equal ∷ number_at e ∷ []) ∷ []

abbrev pub a_local : ℕ → Wants
a_local e = (word_at e ∷ mark_at e tk.defines ∷ number_at e ∷ []) ∷ []

abbrev pub step_needs : Room → Readers → Needs → Needs
step_needs m r w = record {
  expr = λ e c ts. or_then (peek e (operand m r e c) ts) (need_operand m r w e c (next e ts).place (next e ts).kind ts) (λ a us. w.climb e c a us);
  short = λ e ts. need_short m r w e (next e ts).place (next e ts).kind ts;
  postfix = λ e a ts. need_postfix m w e a (next e ts).place (next e ts).kind ts;
  climb = λ e c a ts. need_climb m w e c a (next e ts).place (next e ts).kind ts;
  phrases = λ e ts. or_then (r.expr e free ts) (w.expr e free ts) (λ a us. need_phrases w e (next e us).kind us);
  binds = λ e p x ts. need_binds r w e (next e ts).kind ts;
  fields = λ e m f ts. or_then (a_mark e m ts) (a_field_of e m) (λ p us. or_then (r.expr e free us) (w.expr e free us) (λ a vs. need_fields w e m (next e vs).kind vs));
  settings = λ e ts. or_then (a_mark e tk.bang ts) (a_setting e) (λ p us. or_then (r.path e us) (around (w.path e us) (sign_at e op.Equal ∷ number_at e ∷ [])) (λ path vs. need_setting (is_some_path path) r w e vs));
  path = λ e ts. need_path m w e (next e ts).kind ts;
  bullets = λ e o c. need_opened m 0 [] (λ i d. need_items d w e o c);
  arms = λ e ts. or_then (r.expr e free ts) (around (w.expr e free ts) (mark_at e tk.arrow ∷ number_at e ∷ [])) (λ a us. or_then (a_mark e tk.arrow us) ((mark_at e tk.arrow ∷ number_at e ∷ []) ∷ []) (λ p vs. or_then (r.expr e free vs) (w.expr e free vs) (λ b ws. need_arm r w e b (next e ws).place (next e ws).kind ws)));
  locals = λ e ts. or_then (a_word e ts) (a_local e) (λ x us. or_then (a_mark e tk.defines us) ((mark_at e tk.defines ∷ number_at e ∷ []) ∷ []) (λ q vs. or_then (r.expr e free vs) (w.expr e free vs) (λ a ws. need_locals w e (next e ws).kind ws)));
}

abbrev pub first_needs : Needs
first_needs = record {
  expr = λ e c ts. a_number e;
  short = λ e ts. a_number e;
  postfix = λ e a ts. [];
  climb = λ e c a ts. [];
  phrases = λ e ts. a_number e;
  binds = λ e p x ts. a_bind e;
  fields = λ e m f ts. a_field_of e m;
  settings = λ e ts. a_setting e;
  path = λ e ts. a_path e;
  bullets = λ e o c ts. (bullet_at c o ∷ number_at c ∷ []) ∷ [];
  arms = λ e ts. (number_at e ∷ mark_at e tk.arrow ∷ number_at e ∷ []) ∷ [];
  locals = λ e ts. a_local e;
}

-- with as many steps as the readers have
unfoldable pub needs : ℕ → Needs
needs zero = first_needs
needs (suc n) = step_needs (any (readers n None)) (readers n None) (needs n)

-- ---- behind the tokens that were passed
abbrev pub wants_behind : ℕ → List Token → Wants
wants_behind e passed = or_then (read e passed) ((needs (4 * length passed)).expr e free passed) (λ a rest. [])

-- the tokens that complete them
abbrev pub completion : ℕ → List Token → List Token
completion e passed = completing (wants_behind e passed)
