-- Calls and ways, by the next token.
use Rattle.std.proofs.Common.{◌≡◌, ℕ, suc, true, List, Ok, Err, refl, sym, ap, ◌∙◌, subst}
use Rattle.tla_token.specs.declared.place.Place.{Place}
use Rattle.tla_tree.specs.declared.op.Op.TheVariants as op
use Rattle.tla_tree.specs.Tree.{Word}
use Rattle.tla_tree.specs.Lexical.{TokenView, Token}
use Rattle.tla_tree.specs.Lexical as tk
use Rattle.tla_tree.specs.Reader.{Out, Reader, then_read, ◌>>=◌, gives, skip, peek, next, tail, is_mark, is_key, a_mark, a_sign, a_word}
use Rattle.module_tree.specs.Grammar.{CallForm, WayForm}
use Rattle.expr_nodes.specs.declared.cursor.Halt.{Halt}
use Rattle.expr_nodes.specs.ReadIn.{Reads, Fails}
use Rattle.expr_rows.proofs.ReadLemmas.{fails_then, fails_after}
use Rattle.region_reading.specs.Bound.{Bound, a_phrase}
use Rattle.region_reading.specs.CallReader.{call_from, call_by, call_in, some_way_from, way_by, way_in}
use Rattle.region_items.specs.Begins.{bound}
use Rattle.region_items.proofs.OpeningRead.{opened_more}
use Rattle.region_calls.specs.Told.{AmongForm, among_in, some_way, behind_exists}
use Rattle.region_calls.proofs.Openings.{by_mark, by_exists}

-- ---- calls
call_open : (l d e k : ℕ) (p : Place) (w : Word) (ts us : List Token) → suc d ≡ l → k ≡ e → is_mark tk.open_bracket (next e ts).kind ≡ true → us ≡ tail ts → peek e (call_by (bound l) e p w) ts ≡ call_from (bound d) k p w (next e ts).place us
call_open l d e k p w ts us h g m t =
    by_mark (call_by (bound l) e p w) e ts tk.open_bracket m
    ∙ opened_more l d (λ n. skip (call_from n e p w (next e ts).place)) ts h
    ∙ (λ i. call_from (bound d) (sym g i) p w (next e ts).place (sym t i))

-- with an argument: what is so of its rest is so of the call
pub call_read : (R : Out CallForm → Type 0) (l d e k : ℕ) (ts us ws : List Token) (x : Place × Word) → suc d ≡ l → k ≡ e → a_word e ts ≡ Ok (x, us) → is_mark tk.open_bracket (next e us).kind ≡ true → ws ≡ tail us
    → ((p q : Place) → R (call_from (bound d) k p x.1 q ws)) → R (call_in (bound l) e ts)
call_read R l d e k ts us ws x h g a m r f =
    subst R (sym (ap (λ (o : Out (Place × Word)). then_read o (λ y. peek e (call_by (bound l) e y.0 y.1))) a ∙ call_open l d e k x.0 x.1 us ws h g m r)) (f x.0 (next e us).place)

-- ---- one after the other, and then more
pub then_after : {A B C : Type 0} (o : Out A) (f : A → Reader B) (k : B → Reader C) → then_read (then_read o f) k ≡ then_read o (λ a us. then_read (f a us) k)
then_after (Ok x) f k = refl
then_after (Err s) f k = refl

pub then_same : {A B : Type 0} (o : Out A) (f g : A → Reader B) → ((a : A) (us : List Token) → f a us ≡ g a us) → then_read o f ≡ then_read o g
then_same o f g h = λ i. then_read o (λ a us. h a us i)

abbrev among_on : {B : Type 0} → Bound → ℕ → (AmongForm → Reader B) → Reader B
among_on m e k = a_word e >>= λ x. a_sign e op.In >>= λ s. a_phrase m e >>= λ a. a_mark e tk.colon >>= λ t. k (record { at = x.0; name = x.1; in_at = s; set = a; colon = t })

pub among_then : {B : Type 0} (m : Bound) (e : ℕ) (k : AmongForm → Reader B) (ts : List Token) → then_read (among_in m e ts) k ≡ among_on m e k ts
among_then m e k ts =
    then_after (a_word e ts) _ k ∙ then_same (a_word e ts) _ _ (λ x us.
    then_after (a_sign e op.In us) _ k ∙ then_same (a_sign e op.In us) _ _ (λ s vs.
    then_after (a_phrase m e vs) _ k ∙ then_same (a_phrase m e vs) _ _ (λ a ws. then_after (a_mark e tk.colon ws) _ k)))

-- ---- ways
way_open : (l d e k : ℕ) (ts us : List Token) → suc d ≡ l → k ≡ e → is_key tk.exists_key (next e ts).kind ≡ true → us ≡ tail ts → way_in (bound l) e ts ≡ behind_exists (bound d) k (next e ts).place us
way_open l d e k ts us h g m t =
    by_exists (way_by (bound l) e) e ts m
    ∙ opened_more l d (λ n. skip (some_way_from n e (next e ts).place)) ts h
    ∙ (λ i. some_way_from (bound d) (sym g i) (next e ts).place (sym t i))
    ∙ sym (among_then (bound d) k (λ f. call_in (bound d) k >>= λ u. gives (some_way (next e ts).place f u)) us)

pub way_read : (R : Out WayForm → Type 0) (l d e k : ℕ) (ts us : List Token) → suc d ≡ l → k ≡ e → is_key tk.exists_key (next e ts).kind ≡ true → us ≡ tail ts
    → ((p : Place) → R (behind_exists (bound d) k p us)) → R (way_in (bound l) e ts)
way_read R l d e k ts us h g m t f = subst R (sym (way_open l d e k ts us h g m t)) (f (next e ts).place)

pub way_lost : {P : AmongForm → Type 0} (w : Halt) (m : Bound) (e : ℕ) (p : Place) (ts us : List Token) → Reads P us (among_in m e ts) → Fails w (call_in m e us) → Fails w (behind_exists m e p ts)
way_lost w m e p ts us r f =
    fails_after w (among_in m e ts) (λ a. call_in m e >>= λ u. gives (some_way p a u)) r (λ a is. fails_then w (call_in m e us) (λ u. gives (some_way p a u)) f)
