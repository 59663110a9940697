-- Of round brackets that follow one another each has one form more open than the one before it; the first one after `:=` has one.
use Rattle.std.proofs.Common.{◌≡◌, ℕ, zero, suc, ◌+◌, ◌≤◌, Bool, true, false, ◌&&◌, nat_le, List, [], ◌∷◌, ◌++◌, length, take, map, Some, refl, sym, ap, ◌∙◌, subst, arith, length-append}
use Rattle.std.specs.List.{list_all}
use Rattle.std.proofs.lemmas.Bool.{and_parts, leb-true}
use Rattle.std.proofs.lemmas.List.{append-nil, length-map}
use Rattle.tla_token.specs.Limits.{deepest_expression}
use Rattle.tla_tree.specs.Lexical.{Mark, TokenView, Token, token, sign_of, field_kind}
use Rattle.tla_tree.specs.Lexical as tk
use Rattle.tla_tree.specs.declared.op.Op.{Op}
use Rattle.tla_tree.specs.declared.op.Op.TheVariants as op
use Rattle.tla_tree.specs.Spelling.{Field, quantifier, Phrase, number, string, constant, name, primed, call, brackets, no_set, set_of, filter, image, no_tuple, tuple, fields, records, function, functions, except, apply, select, list, quantified, if_then_else, cases, local, infix_of, prefix_of}
use Rattle.tla_tree.specs.Spelling.{Phrases, last, more, Binds, last_bind, bind, share, Fields, last_field, field, Settings, last_setting, setting, Path, path_end, index, at_field, Bullets, last_bullet, bullet, Arms, last_arm, other_arm, arm, Locals, last_local, more_locals}
use Rattle.tla_tree.specs.Spelling.{mark, key, sign, word, field_token, spell, spell_all, spell_binds, spell_fields, spell_settings, spell_path, spell_bullets, spell_arms, spell_locals}
use Rattle.tla_tree.specs.Nesting.{chain, links, counts, counts_all, counts_binds, counts_fields, counts_settings, counts_path, counts_bullets, counts_arms, counts_locals}
use Rattle.tla_tree.specs.FirstStop.{Look, look, looks, Open, Passes, phrases, in_expression, is_within}
use Rattle.tla_tree.proofs.Columns.{begun_looks}
use Rattle.tla_tree.proofs.CountsLaws.{as_many_counts}

abbrev pub is_open : TokenView → Bool
is_open (tk.mark tk.open_bracket) = true
is_open k = false

-- a bracket right after it is one of an expression
abbrev pub leads : TokenView → Bool
leads (tk.mark tk.open_bracket) = true
leads (tk.mark tk.assigns) = true
leads k = false

-- after such a token with j forms open
abbrev pub Climbs : Bool → ℕ → List Look → List ℕ → Type 0
Climbs b j [] ns = Unit {0}
Climbs b j (l ∷ ls) [] = Unit {0}
Climbs b j (l ∷ ls) (n ∷ ns) = (b ≡ true → is_open l.0 ≡ true → n ≡ suc j) × Climbs (leads l.0) n ls ns

off : false ≡ true → ⊥
off e = cc

leads_none : (k : TokenView) → leads k ≡ false → is_open k ≡ false
leads_none (tk.mark tk.open_bracket) e = absurd (off (sym e))
leads_none k e = refl

pub pass : (t : Token) (b : Bool) (j n : ℕ) (ts : List Token) (ns : List ℕ) → leads t.kind ≡ false → Climbs false n (looks ts) ns → Climbs b j (looks (t ∷ ts)) (n ∷ ns)
pass t b j n ts ns e h = (λ x o. absurd (off (sym (leads_none t.kind e) ∙ o)), subst (λ (d : Bool). Climbs d n (looks ts) ns) (sym e) h)

climbs_open : (b : Bool) (j n : ℕ) → (b ≡ true → j ≡ n) → b ≡ true → true ≡ true → n + 1 ≡ suc j
climbs_open b j n pre e o = (let q = pre e in omega arith)

off_sign : (o : Op) → leads (sign_of o) ≡ false
off_sign op.Negate = refl
off_sign o = refl

pub off_field : (f : Field) → leads (field_kind f.is_reserved f.text) ≡ false
off_field f = by f.is_reserved
  where
    by : (b : Bool) → leads (field_kind b f.text) ≡ false
    by true = refl
    by false = refl

mutual
  pub climb_one : (n : ℕ) (x : Phrase) → (r : List ℕ) (ts : List Token) → ((k : ℕ) → Climbs false k (looks ts) r) → (b : Bool) (k : ℕ) → (b ≡ true → k ≡ n) → Climbs b k (looks (spell x ts)) (counts n x r)
  climb_one n (number p k) r ts hc hb hj pre = pass (token p (tk.number k)) hb hj n ts r refl (hc n)
  climb_one n (string p x) r ts hc hb hj pre = pass (token p (tk.string x)) hb hj n ts r refl (hc n)
  climb_one n (constant p c) r ts hc hb hj pre = pass (token p (tk.constant c)) hb hj n ts r refl (hc n)
  climb_one n (name p x) r ts hc hb hj pre = pass (token p (tk.word x)) hb hj n ts r refl (hc n)
  climb_one n (primed p x q) r ts hc hb hj pre = pass (token p (tk.word x)) hb hj n (mark q tk.prime ts) (n ∷ r) refl (pass (token q (tk.mark tk.prime)) false n n ts r refl (hc n))
  climb_one n (call p x q xs t) r ts hc hb hj pre = pass (token p (tk.word x)) hb hj n (mark q tk.open_bracket (spell_all xs (mark t tk.close_bracket ts))) ((n + 1) ∷ counts_all (n + 1) xs ((n + 1) ∷ r)) refl ((λ e o. absurd (off e)), (climb_all (n + 1) xs ((n + 1) ∷ r) (mark t tk.close_bracket ts) (λ k. (pass (token t (tk.mark tk.close_bracket)) false k (n + 1) ts r refl (hc (n + 1)))) true (n + 1) (λ e. refl)))
  climb_one n (brackets p a q) r ts hc hb hj pre = (climbs_open hb hj n pre, (climb_one (n + 1) a ((n + 1) ∷ r) (mark q tk.close_bracket ts) (λ k. (pass (token q (tk.mark tk.close_bracket)) false k (n + 1) ts r refl (hc (n + 1)))) true (n + 1) (λ e. refl)))
  climb_one n (no_set p q) r ts hc hb hj pre = pass (token p (tk.mark tk.open_brace)) hb hj (n + 1) (mark q tk.close_brace ts) ((n + 1) ∷ r) refl (pass (token q (tk.mark tk.close_brace)) false (n + 1) (n + 1) ts r refl (hc (n + 1)))
  climb_one n (set_of p xs q) r ts hc hb hj pre = pass (token p (tk.mark tk.open_brace)) hb hj (n + 1) (spell_all xs (mark q tk.close_brace ts)) (counts_all (n + 1) xs ((n + 1) ∷ r)) refl (climb_all (n + 1) xs ((n + 1) ∷ r) (mark q tk.close_brace ts) (λ k. (pass (token q (tk.mark tk.close_brace)) false k (n + 1) ts r refl (hc (n + 1)))) false (n + 1) (λ e. absurd (off e)))
  climb_one n (filter p q x v s t a u) r ts hc hb hj pre = pass (token p (tk.mark tk.open_brace)) hb hj (n + 1) (word q x (sign v op.In (spell s (mark t tk.colon (spell a (mark u tk.close_brace ts)))))) ((n + 1) ∷ (n + 1) ∷ counts (n + 1) s ((n + 1) ∷ counts (n + 1) a ((n + 1) ∷ r))) refl (pass (token q (tk.word x)) false (n + 1) (n + 1) (sign v op.In (spell s (mark t tk.colon (spell a (mark u tk.close_brace ts))))) ((n + 1) ∷ counts (n + 1) s ((n + 1) ∷ counts (n + 1) a ((n + 1) ∷ r))) refl (pass (token v (sign_of op.In)) false (n + 1) (n + 1) (spell s (mark t tk.colon (spell a (mark u tk.close_brace ts)))) (counts (n + 1) s ((n + 1) ∷ counts (n + 1) a ((n + 1) ∷ r))) (off_sign op.In) (climb_one (n + 1) s ((n + 1) ∷ counts (n + 1) a ((n + 1) ∷ r)) (mark t tk.colon (spell a (mark u tk.close_brace ts))) (λ k. (pass (token t (tk.mark tk.colon)) false k (n + 1) (spell a (mark u tk.close_brace ts)) (counts (n + 1) a ((n + 1) ∷ r)) refl (climb_one (n + 1) a ((n + 1) ∷ r) (mark u tk.close_brace ts) (λ k. (pass (token u (tk.mark tk.close_brace)) false k (n + 1) ts r refl (hc (n + 1)))) false (n + 1) (λ e. absurd (off e))))) false (n + 1) (λ e. absurd (off e)))))
  climb_one n (image p a q bs t) r ts hc hb hj pre = pass (token p (tk.mark tk.open_brace)) hb hj (n + 1) (spell a (mark q tk.colon (spell_binds bs (mark t tk.close_brace ts)))) (counts (n + 1) a ((n + 1) ∷ counts_binds (n + 1) bs ((n + 1) ∷ r))) refl (climb_one (n + 1) a ((n + 1) ∷ counts_binds (n + 1) bs ((n + 1) ∷ r)) (mark q tk.colon (spell_binds bs (mark t tk.close_brace ts))) (λ k. (pass (token q (tk.mark tk.colon)) false k (n + 1) (spell_binds bs (mark t tk.close_brace ts)) (counts_binds (n + 1) bs ((n + 1) ∷ r)) refl (climb_binds (n + 1) bs ((n + 1) ∷ r) (mark t tk.close_brace ts) (λ k. (pass (token t (tk.mark tk.close_brace)) false k (n + 1) ts r refl (hc (n + 1)))) false (n + 1) (λ e. absurd (off e))))) false (n + 1) (λ e. absurd (off e)))
  climb_one n (no_tuple p q) r ts hc hb hj pre = pass (token p (tk.mark tk.open_tuple)) hb hj (n + 1) (mark q tk.close_tuple ts) ((n + 1) ∷ r) refl (pass (token q (tk.mark tk.close_tuple)) false (n + 1) (n + 1) ts r refl (hc (n + 1)))
  climb_one n (tuple p xs q) r ts hc hb hj pre = pass (token p (tk.mark tk.open_tuple)) hb hj (n + 1) (spell_all xs (mark q tk.close_tuple ts)) (counts_all (n + 1) xs ((n + 1) ∷ r)) refl (climb_all (n + 1) xs ((n + 1) ∷ r) (mark q tk.close_tuple ts) (λ k. (pass (token q (tk.mark tk.close_tuple)) false k (n + 1) ts r refl (hc (n + 1)))) false (n + 1) (λ e. absurd (off e)))
  climb_one n (fields p fs q) r ts hc hb hj pre = pass (token p (tk.mark tk.open_square)) hb hj (n + 1) (spell_fields tk.maps fs (mark q tk.close_square ts)) (counts_fields (n + 1) fs ((n + 1) ∷ r)) refl (climb_fields (n + 1) tk.maps fs refl ((n + 1) ∷ r) (mark q tk.close_square ts) (λ k. (pass (token q (tk.mark tk.close_square)) false k (n + 1) ts r refl (hc (n + 1)))) false (n + 1) (λ e. absurd (off e)))
  climb_one n (records p fs q) r ts hc hb hj pre = pass (token p (tk.mark tk.open_square)) hb hj (n + 1) (spell_fields tk.colon fs (mark q tk.close_square ts)) (counts_fields (n + 1) fs ((n + 1) ∷ r)) refl (climb_fields (n + 1) tk.colon fs refl ((n + 1) ∷ r) (mark q tk.close_square ts) (λ k. (pass (token q (tk.mark tk.close_square)) false k (n + 1) ts r refl (hc (n + 1)))) false (n + 1) (λ e. absurd (off e)))
  climb_one n (function p bs q a t) r ts hc hb hj pre = pass (token p (tk.mark tk.open_square)) hb hj (n + 1) (spell_binds bs (mark q tk.maps (spell a (mark t tk.close_square ts)))) (counts_binds (n + 1) bs ((n + 1) ∷ counts (n + 1) a ((n + 1) ∷ r))) refl (climb_binds (n + 1) bs ((n + 1) ∷ counts (n + 1) a ((n + 1) ∷ r)) (mark q tk.maps (spell a (mark t tk.close_square ts))) (λ k. (pass (token q (tk.mark tk.maps)) false k (n + 1) (spell a (mark t tk.close_square ts)) (counts (n + 1) a ((n + 1) ∷ r)) refl (climb_one (n + 1) a ((n + 1) ∷ r) (mark t tk.close_square ts) (λ k. (pass (token t (tk.mark tk.close_square)) false k (n + 1) ts r refl (hc (n + 1)))) false (n + 1) (λ e. absurd (off e))))) false (n + 1) (λ e. absurd (off e)))
  climb_one n (functions p a q b t) r ts hc hb hj pre = pass (token p (tk.mark tk.open_square)) hb hj (n + 1) (spell a (mark q tk.arrow (spell b (mark t tk.close_square ts)))) (counts (n + 1) a ((n + 1) ∷ counts (n + 1) b ((n + 1) ∷ r))) refl (climb_one (n + 1) a ((n + 1) ∷ counts (n + 1) b ((n + 1) ∷ r)) (mark q tk.arrow (spell b (mark t tk.close_square ts))) (λ k. (pass (token q (tk.mark tk.arrow)) false k (n + 1) (spell b (mark t tk.close_square ts)) (counts (n + 1) b ((n + 1) ∷ r)) refl (climb_one (n + 1) b ((n + 1) ∷ r) (mark t tk.close_square ts) (λ k. (pass (token t (tk.mark tk.close_square)) false k (n + 1) ts r refl (hc (n + 1)))) false (n + 1) (λ e. absurd (off e))))) false (n + 1) (λ e. absurd (off e)))
  climb_one n (except p a q ss t) r ts hc hb hj pre = pass (token p (tk.mark tk.open_square)) hb hj (n + 1) (spell a (key q tk.except_key (spell_settings ss (mark t tk.close_square ts)))) (counts (n + 1) a ((n + 1) ∷ counts_settings (n + 1) ss ((n + 1) ∷ r))) refl (climb_one (n + 1) a ((n + 1) ∷ counts_settings (n + 1) ss ((n + 1) ∷ r)) (key q tk.except_key (spell_settings ss (mark t tk.close_square ts))) (λ k. (pass (token q (tk.key tk.except_key)) false k (n + 1) (spell_settings ss (mark t tk.close_square ts)) (counts_settings (n + 1) ss ((n + 1) ∷ r)) refl (climb_settings (n + 1) ss ((n + 1) ∷ r) (mark t tk.close_square ts) (λ k. (pass (token t (tk.mark tk.close_square)) false k (n + 1) ts r refl (hc (n + 1)))) false (n + 1) (λ e. absurd (off e))))) false (n + 1) (λ e. absurd (off e)))
  climb_one n (apply a p xs q) r ts hc hb hj pre = climb_one n a ((n + links a + 1) ∷ counts_all (n + links a + 1) xs ((n + links a + 1) ∷ r)) (mark p tk.open_square (spell_all xs (mark q tk.close_square ts))) (λ k. (pass (token p (tk.mark tk.open_square)) false k (n + links a + 1) (spell_all xs (mark q tk.close_square ts)) (counts_all (n + links a + 1) xs ((n + links a + 1) ∷ r)) refl (climb_all (n + links a + 1) xs ((n + links a + 1) ∷ r) (mark q tk.close_square ts) (λ k. (pass (token q (tk.mark tk.close_square)) false k (n + links a + 1) ts r refl (hc (n + links a + 1)))) false (n + links a + 1) (λ e. absurd (off e))))) hb hj pre
  climb_one n (select a p f) r ts hc hb hj pre = climb_one n a ((n + links a + 1) ∷ (n + links a + 1) ∷ r) (mark p tk.dot (field_token f ts)) (λ k. (pass (token p (tk.mark tk.dot)) false k (n + links a + 1) (field_token f ts) ((n + links a + 1) ∷ r) refl (pass (token f.place (field_kind f.is_reserved f.text)) false (n + links a + 1) (n + links a + 1) ts r (off_field f) (hc (n + links a + 1))))) hb hj pre
  climb_one n (list o bs) r ts hc hb hj pre = climb_bullets n o bs r ts (λ k. (hc k)) hb hj pre
  climb_one n (quantified b p bs q a) r ts hc hb hj pre = pass (token p (tk.key (quantifier b))) hb hj (n + 1) (spell_binds bs (mark q tk.colon (spell a ts))) (counts_binds (n + 1) bs ((n + 1) ∷ counts (n + 1) a r)) refl (climb_binds (n + 1) bs ((n + 1) ∷ counts (n + 1) a r) (mark q tk.colon (spell a ts)) (λ k. (pass (token q (tk.mark tk.colon)) false k (n + 1) (spell a ts) (counts (n + 1) a r) refl (climb_one (n + 1) a r ts (λ k. (hc k)) false (n + 1) (λ e. absurd (off e))))) false (n + 1) (λ e. absurd (off e)))
  climb_one n (if_then_else p a q b t c) r ts hc hb hj pre = pass (token p (tk.key tk.if_key)) hb hj (n + 1) (spell a (key q tk.then_key (spell b (key t tk.else_key (spell c ts))))) (counts (n + 1) a ((n + 1) ∷ counts (n + 1) b ((n + 1) ∷ counts (n + 1) c r))) refl (climb_one (n + 1) a ((n + 1) ∷ counts (n + 1) b ((n + 1) ∷ counts (n + 1) c r)) (key q tk.then_key (spell b (key t tk.else_key (spell c ts)))) (λ k. (pass (token q (tk.key tk.then_key)) false k (n + 1) (spell b (key t tk.else_key (spell c ts))) (counts (n + 1) b ((n + 1) ∷ counts (n + 1) c r)) refl (climb_one (n + 1) b ((n + 1) ∷ counts (n + 1) c r) (key t tk.else_key (spell c ts)) (λ k. (pass (token t (tk.key tk.else_key)) false k (n + 1) (spell c ts) (counts (n + 1) c r) refl (climb_one (n + 1) c r ts (λ k. (hc k)) false (n + 1) (λ e. absurd (off e))))) false (n + 1) (λ e. absurd (off e))))) false (n + 1) (λ e. absurd (off e)))
  climb_one n (cases p xs) r ts hc hb hj pre = pass (token p (tk.key tk.case_key)) hb hj (n + 1) (spell_arms xs ts) (counts_arms (n + 1) xs r) refl (climb_arms (n + 1) xs r ts (λ k. (hc k)) false (n + 1) (λ e. absurd (off e)))
  climb_one n (local p ls q a) r ts hc hb hj pre = pass (token p (tk.key tk.let_key)) hb hj (n + 1) (spell_locals ls (key q tk.in_key (spell a ts))) (counts_locals (n + 1) ls ((n + 1) ∷ counts (n + 1) a r)) refl (climb_locals (n + 1) ls ((n + 1) ∷ counts (n + 1) a r) (key q tk.in_key (spell a ts)) (λ k. (pass (token q (tk.key tk.in_key)) false k (n + 1) (spell a ts) (counts (n + 1) a r) refl (climb_one (n + 1) a r ts (λ k. (hc k)) false (n + 1) (λ e. absurd (off e))))) false (n + 1) (λ e. absurd (off e)))
  climb_one n (infix_of a p o b) r ts hc hb hj pre = climb_one n a ((n + chain a + 1) ∷ counts (n + chain a + 1) b r) (sign p o (spell b ts)) (λ k. (pass (token p (sign_of o)) false k (n + chain a + 1) (spell b ts) (counts (n + chain a + 1) b r) (off_sign o) (climb_one (n + chain a + 1) b r ts (λ k. (hc k)) false (n + chain a + 1) (λ e. absurd (off e))))) hb hj pre
  climb_one n (prefix_of p o a) r ts hc hb hj pre = pass (token p (sign_of o)) hb hj (n + 1) (spell a ts) (counts (n + 1) a r) (off_sign o) (climb_one (n + 1) a r ts (λ k. (hc k)) false (n + 1) (λ e. absurd (off e)))

  pub climb_all : (n : ℕ) (x : Phrases) → (r : List ℕ) (ts : List Token) → ((k : ℕ) → Climbs false k (looks ts) r) → (b : Bool) (k : ℕ) → (b ≡ true → k ≡ n) → Climbs b k (looks (spell_all x ts)) (counts_all n x r)
  climb_all n (last a) r ts hc hb hj pre = climb_one n a r ts (λ k. (hc k)) hb hj pre
  climb_all n (more a p xs) r ts hc hb hj pre = climb_one n a (n ∷ counts_all n xs r) (mark p tk.comma (spell_all xs ts)) (λ k. (pass (token p (tk.mark tk.comma)) false k n (spell_all xs ts) (counts_all n xs r) refl (climb_all n xs r ts (λ k. (hc k)) false n (λ e. absurd (off e))))) hb hj pre

  climb_binds : (n : ℕ) (x : Binds) → (r : List ℕ) (ts : List Token) → ((k : ℕ) → Climbs false k (looks ts) r) → (b : Bool) (k : ℕ) → (b ≡ true → k ≡ n) → Climbs b k (looks (spell_binds x ts)) (counts_binds n x r)
  climb_binds n (last_bind p x q a) r ts hc hb hj pre = pass (token p (tk.word x)) hb hj n (sign q op.In (spell a ts)) (n ∷ counts n a r) refl (pass (token q (sign_of op.In)) false n n (spell a ts) (counts n a r) (off_sign op.In) (climb_one n a r ts (λ k. (hc k)) false n (λ e. absurd (off e))))
  climb_binds n (bind p x q a t bs) r ts hc hb hj pre = pass (token p (tk.word x)) hb hj n (sign q op.In (spell a (mark t tk.comma (spell_binds bs ts)))) (n ∷ counts n a (n ∷ counts_binds n bs r)) refl (pass (token q (sign_of op.In)) false n n (spell a (mark t tk.comma (spell_binds bs ts))) (counts n a (n ∷ counts_binds n bs r)) (off_sign op.In) (climb_one n a (n ∷ counts_binds n bs r) (mark t tk.comma (spell_binds bs ts)) (λ k. (pass (token t (tk.mark tk.comma)) false k n (spell_binds bs ts) (counts_binds n bs r) refl (climb_binds n bs r ts (λ k. (hc k)) false n (λ e. absurd (off e))))) false n (λ e. absurd (off e))))
  climb_binds n (share p x q bs) r ts hc hb hj pre = pass (token p (tk.word x)) hb hj n (mark q tk.comma (spell_binds bs ts)) (n ∷ counts_binds n bs r) refl (pass (token q (tk.mark tk.comma)) false n n (spell_binds bs ts) (counts_binds n bs r) refl (climb_binds n bs r ts (λ k. (hc k)) false n (λ e. absurd (off e))))

  climb_fields : (n : ℕ) (m : Mark) (x : Fields) → leads (tk.mark m) ≡ false → (r : List ℕ) (ts : List Token) → ((k : ℕ) → Climbs false k (looks ts) r) → (b : Bool) (k : ℕ) → (b ≡ true → k ≡ n) → Climbs b k (looks (spell_fields m x ts)) (counts_fields n x r)
  climb_fields n m (last_field f p a) hq r ts hc hb hj pre = pass (token f.place (field_kind f.is_reserved f.text)) hb hj n (mark p m (spell a ts)) (n ∷ counts n a r) (off_field f) (pass (token p (tk.mark m)) false n n (spell a ts) (counts n a r) hq (climb_one n a r ts (λ k. (hc k)) false n (λ e. absurd (off e))))
  climb_fields n m (field f p a q fs) hq r ts hc hb hj pre = pass (token f.place (field_kind f.is_reserved f.text)) hb hj n (mark p m (spell a (mark q tk.comma (spell_fields m fs ts)))) (n ∷ counts n a (n ∷ counts_fields n fs r)) (off_field f) (pass (token p (tk.mark m)) false n n (spell a (mark q tk.comma (spell_fields m fs ts))) (counts n a (n ∷ counts_fields n fs r)) hq (climb_one n a (n ∷ counts_fields n fs r) (mark q tk.comma (spell_fields m fs ts)) (λ k. (pass (token q (tk.mark tk.comma)) false k n (spell_fields m fs ts) (counts_fields n fs r) refl (climb_fields n m fs hq r ts (λ k. (hc k)) false n (λ e. absurd (off e))))) false n (λ e. absurd (off e))))

  climb_settings : (n : ℕ) (x : Settings) → (r : List ℕ) (ts : List Token) → ((k : ℕ) → Climbs false k (looks ts) r) → (b : Bool) (k : ℕ) → (b ≡ true → k ≡ n) → Climbs b k (looks (spell_settings x ts)) (counts_settings n x r)
  climb_settings n (last_setting p path q a) r ts hc hb hj pre = pass (token p (tk.mark tk.bang)) hb hj n (spell_path path (sign q op.Equal (spell a ts))) (counts_path n path (n ∷ counts n a r)) refl (climb_path n path (n ∷ counts n a r) (sign q op.Equal (spell a ts)) (λ k. (pass (token q (sign_of op.Equal)) false k n (spell a ts) (counts n a r) (off_sign op.Equal) (climb_one n a r ts (λ k. (hc k)) false n (λ e. absurd (off e))))) n)
  climb_settings n (setting p path q a t ss) r ts hc hb hj pre = pass (token p (tk.mark tk.bang)) hb hj n (spell_path path (sign q op.Equal (spell a (mark t tk.comma (spell_settings ss ts))))) (counts_path n path (n ∷ counts n a (n ∷ counts_settings n ss r))) refl (climb_path n path (n ∷ counts n a (n ∷ counts_settings n ss r)) (sign q op.Equal (spell a (mark t tk.comma (spell_settings ss ts)))) (λ k. (pass (token q (sign_of op.Equal)) false k n (spell a (mark t tk.comma (spell_settings ss ts))) (counts n a (n ∷ counts_settings n ss r)) (off_sign op.Equal) (climb_one n a (n ∷ counts_settings n ss r) (mark t tk.comma (spell_settings ss ts)) (λ k. (pass (token t (tk.mark tk.comma)) false k n (spell_settings ss ts) (counts_settings n ss r) refl (climb_settings n ss r ts (λ k. (hc k)) false n (λ e. absurd (off e))))) false n (λ e. absurd (off e))))) n)

  climb_path : (n : ℕ) (x : Path) (r : List ℕ) (ts : List Token) → ((k : ℕ) → Climbs false k (looks ts) r) → (k : ℕ) → Climbs false k (looks (spell_path x ts)) (counts_path n x r)
  climb_path n path_end r ts hc hj = hc hj
  climb_path n (index p xs q path) r ts hc hj = pass (token p (tk.mark tk.open_square)) false hj (n + 1) (spell_all xs (mark q tk.close_square (spell_path path ts))) (counts_all (n + 1) xs ((n + 1) ∷ counts_path n path r)) refl (climb_all (n + 1) xs ((n + 1) ∷ counts_path n path r) (mark q tk.close_square (spell_path path ts)) (λ k. (pass (token q (tk.mark tk.close_square)) false k (n + 1) (spell_path path ts) (counts_path n path r) refl (climb_path n path r ts (λ k. (hc k)) (n + 1)))) false (n + 1) (λ e. absurd (off e)))
  climb_path n (at_field p f path) r ts hc hj = pass (token p (tk.mark tk.dot)) false hj n (field_token f (spell_path path ts)) (n ∷ counts_path n path r) refl (pass (token f.place (field_kind f.is_reserved f.text)) false n n (spell_path path ts) (counts_path n path r) (off_field f) (climb_path n path r ts (λ k. (hc k)) n))

  climb_bullets : (n : ℕ) (o : Op) (x : Bullets) → (r : List ℕ) (ts : List Token) → ((k : ℕ) → Climbs false k (looks ts) r) → (b : Bool) (k : ℕ) → (b ≡ true → k ≡ n) → Climbs b k (looks (spell_bullets o x ts)) (counts_bullets n x r)
  climb_bullets n o (last_bullet p a) r ts hc hb hj pre = pass (token p (sign_of o)) hb hj (n + 1) (spell a ts) (counts (n + 1) a r) (off_sign o) (climb_one (n + 1) a r ts (λ k. (hc k)) false (n + 1) (λ e. absurd (off e)))
  climb_bullets n o (bullet p a bs) r ts hc hb hj pre = pass (token p (sign_of o)) hb hj (n + 1) (spell a (spell_bullets o bs ts)) (counts (n + 1) a (counts_bullets (n + 1) bs r)) (off_sign o) (climb_one (n + 1) a (counts_bullets (n + 1) bs r) (spell_bullets o bs ts) (λ k. (climb_bullets (n + 1) o bs r ts (λ k. (hc k)) false k (λ e. absurd (off e)))) false (n + 1) (λ e. absurd (off e)))

  climb_arms : (n : ℕ) (x : Arms) → (r : List ℕ) (ts : List Token) → ((k : ℕ) → Climbs false k (looks ts) r) → (b : Bool) (k : ℕ) → (b ≡ true → k ≡ n) → Climbs b k (looks (spell_arms x ts)) (counts_arms n x r)
  climb_arms n (last_arm a p b) r ts hc hb hj pre = climb_one n a (n ∷ counts n b r) (mark p tk.arrow (spell b ts)) (λ k. (pass (token p (tk.mark tk.arrow)) false k n (spell b ts) (counts n b r) refl (climb_one n b r ts (λ k. (hc k)) false n (λ e. absurd (off e))))) hb hj pre
  climb_arms n (other_arm a p b q s t c) r ts hc hb hj pre = climb_one n a (n ∷ counts n b (n ∷ n ∷ n ∷ counts n c r)) (mark p tk.arrow (spell b (mark q tk.box (key s tk.other_key (mark t tk.arrow (spell c ts)))))) (λ k. (pass (token p (tk.mark tk.arrow)) false k n (spell b (mark q tk.box (key s tk.other_key (mark t tk.arrow (spell c ts))))) (counts n b (n ∷ n ∷ n ∷ counts n c r)) refl (climb_one n b (n ∷ n ∷ n ∷ counts n c r) (mark q tk.box (key s tk.other_key (mark t tk.arrow (spell c ts)))) (λ k. (pass (token q (tk.mark tk.box)) false k n (key s tk.other_key (mark t tk.arrow (spell c ts))) (n ∷ n ∷ counts n c r) refl (pass (token s (tk.key tk.other_key)) false n n (mark t tk.arrow (spell c ts)) (n ∷ counts n c r) refl (pass (token t (tk.mark tk.arrow)) false n n (spell c ts) (counts n c r) refl (climb_one n c r ts (λ k. (hc k)) false n (λ e. absurd (off e))))))) false n (λ e. absurd (off e))))) hb hj pre
  climb_arms n (arm a p b q xs) r ts hc hb hj pre = climb_one n a (n ∷ counts n b (n ∷ counts_arms n xs r)) (mark p tk.arrow (spell b (mark q tk.box (spell_arms xs ts)))) (λ k. (pass (token p (tk.mark tk.arrow)) false k n (spell b (mark q tk.box (spell_arms xs ts))) (counts n b (n ∷ counts_arms n xs r)) refl (climb_one n b (n ∷ counts_arms n xs r) (mark q tk.box (spell_arms xs ts)) (λ k. (pass (token q (tk.mark tk.box)) false k n (spell_arms xs ts) (counts_arms n xs r) refl (climb_arms n xs r ts (λ k. (hc k)) false n (λ e. absurd (off e))))) false n (λ e. absurd (off e))))) hb hj pre

  climb_locals : (n : ℕ) (x : Locals) → (r : List ℕ) (ts : List Token) → ((k : ℕ) → Climbs false k (looks ts) r) → (b : Bool) (k : ℕ) → (b ≡ true → k ≡ n) → Climbs b k (looks (spell_locals x ts)) (counts_locals n x r)
  climb_locals n (last_local p x q a) r ts hc hb hj pre = pass (token p (tk.word x)) hb hj n (mark q tk.defines (spell a ts)) (n ∷ counts n a r) refl (pass (token q (tk.mark tk.defines)) false n n (spell a ts) (counts n a r) refl (climb_one n a r ts (λ k. (hc k)) false n (λ e. absurd (off e))))
  climb_locals n (more_locals p x q a ls) r ts hc hb hj pre = pass (token p (tk.word x)) hb hj n (mark q tk.defines (spell a (spell_locals ls ts))) (n ∷ counts n a (counts_locals n ls r)) refl (pass (token q (tk.mark tk.defines)) false n n (spell a (spell_locals ls ts)) (counts n a (counts_locals n ls r)) refl (climb_one n a (counts_locals n ls r) (spell_locals ls ts) (λ k. (climb_locals n ls r ts (λ k. (hc k)) false k (λ e. absurd (off e)))) false n (λ e. absurd (off e))))

-- ---- many brackets

-- k of them, from a column on
abbrev pub open_looks : ℕ → ℕ → List Look
open_looks zero c = []
open_looks (suc k) c = (tk.mark tk.open_bracket, c) ∷ open_looks k (suc c)

few_open : (k c j : ℕ) (rest : List Look) (ns : List ℕ) → Climbs true j (open_looks k c ++ rest) ns → k ≤ length ns → list_all (λ n. is_within (in_expression n)) (take k ns) ≡ true → j ≤ deepest_expression → j + k ≤ deepest_expression
few_open zero c j rest ns h l few d = omega arith
few_open (suc k) c j rest [] h l few d = absurd (omega arith)
few_open (suc k) c j rest (n ∷ ns) h l few d =
    let p = and_parts (is_within (in_expression n)) (list_all (λ i. is_within (in_expression i)) (take k ns)) few in
    let e = h.0 refl refl in
    let w = leb-true n deepest_expression (and_parts (nat_le n deepest_expression) true p.0).0 in
    let r = few_open k (suc c) n rest ns h.1 (omega arith) p.1 w in
    omega arith

length_open : (k c : ℕ) → length (map Some (open_looks k c)) ≡ k
length_open zero c = refl
length_open (suc k) c = ap suc (length_open k (suc c))

in_map : (xs : List ℕ) (k : ℕ) → list_all is_within (take k (map in_expression xs)) ≡ list_all (λ n. is_within (in_expression n)) (take k xs)
in_map xs zero = refl
in_map [] (suc k) = refl
in_map (x ∷ xs) (suc k) = ap (λ (b : Bool). is_within (in_expression x) && b) (in_map xs k)

-- 201 brackets don't pass
pub too_many_brackets : (e c k : ℕ) → deepest_expression + 1 ≤ k → Passes (phrases e) (map Some (open_looks k c)) → ⊥
too_many_brackets e c k big (rest, ns, (a, g, s, q), few) =
    let zs = begun_looks (looks (spell a [])) (open_looks k c) [] rest (λ y vs n. cc) (append-nil (map Some (looks (spell a []))) ∙ s) in
    let h = climb_one 0 a [] [] (λ i. tt) true 0 (λ x. refl) in
    let h2 : Climbs true 0 (open_looks k c ++ zs.0) (counts 0 a []) = subst (λ (ls : List Look). Climbs true 0 ls (counts 0 a [])) zs.1 h in
    let l = length-append (open_looks k c) zs.0 in
    let m = length-map (open_looks k c) Some in
    let o = length_open k c in
    let w = ap (λ (ls : List Look). length ls) zs.1 in
    let v = length-map (spell a []) look in
    let u = as_many_counts 0 a in
    let enough : k ≤ length (counts 0 a []) = omega arith in
    let within = sym (in_map (counts 0 a []) k) ∙ ap (λ (os : List Open). list_all is_within (take k os)) q ∙ ap (λ (i : ℕ). list_all is_within (take i ns)) (sym o) ∙ few in
    let z = few_open k c 0 zs.0 (counts 0 a []) h2 enough within (omega arith) in
    omega arith
