-- What the readers give with enough steps, and the tokens that are seen.
use Rattle.std.proofs.Common.{◌≡◌, ℕ, zero, suc, ◌≤◌, Bool, false, List, Ok, refl, ◌∙◌, arith, None}
use Rattle.tla_token.specs.declared.place.Place.{Place}
use Rattle.tla_tree.specs.Lexical.{TokenView, Token}
use Rattle.tla_tree.specs.Lexical as tk
use Rattle.tla_tree.specs.Spelling.{Phrase}
pub use Rattle.tla_tree.specs.laws.Following.{is_tail, NoTail}
use Rattle.tla_tree.specs.Reader.{any, Out, next, Context, bound, Readers, one_step, readers, readers_in, goes_on, postfix_by, climb_by}

-- with k steps, and with more, it gives o
abbrev pub Soon : {A : Type 0} → ℕ → (Readers → Out A) → Out A → Type 0
Soon k f o = (n : ℕ) → k ≤ n → f (readers n None) ≡ o

-- one step and then fewer
pub step : {A : Type 0} (f : Readers → Out A) (o : Out A) → {k : ℕ} → 1 ≤ k → ((n : ℕ) → k ≤ suc n → f (one_step (any (readers n None)) (readers n None)) ≡ o) → Soon k f o
unfolding readers_in
step f o s h zero l = absurd (omega arith)
step f o s h (suc n) l = h n l

pub same : {A : Type 0} (f g : Readers → Out A) (o : Out A) {k : ℕ} → ((r : Readers) → f r ≡ g r) → Soon k g o → Soon k f o
same f g o e h n l = e (readers n None) ∙ h n l

-- ---- where a loop ends
abbrev pub goes_by : ℕ → Phrase → Place → TokenView → Bool
goes_by b a p (tk.sign o) = goes_on b a p o
goes_by b a p k = false

-- no operator above this rank goes on
abbrev pub Stays : ℕ → ℕ → Phrase → List Token → Type 0
Stays e b a ts = goes_by b a (next e ts).place (next e ts).kind ≡ false

postfix_stops : (r : Readers) (e : ℕ) (a : Phrase) (p : Place) (k : TokenView) (ts : List Token) → is_tail k ≡ false → postfix_by (any r) r e a p k ts ≡ Ok (a, ts)
postfix_stops r e a p (tk.mark tk.open_square) ts h = absurd cc
postfix_stops r e a p (tk.mark tk.dot) ts h = absurd cc
postfix_stops r e a p k ts h = refl

climb_stops : (r : Readers) (e : ℕ) (c : Context) (a : Phrase) (p : Place) (k : TokenView) (ts : List Token) → goes_by (bound c) a p k ≡ false → climb_by (any r) r e c a p k ts ≡ Ok (a, ts)
climb_stops r e c a p (tk.sign o) ts h = rw h refl
climb_stops r e c a p k ts h = refl

pub postfix_ends : (e : ℕ) (a : Phrase) (ts : List Token) → NoTail e ts → Soon 1 (λ r. r.postfix e a ts) (Ok (a, ts))
postfix_ends e a ts h = step (λ r. r.postfix e a ts) (Ok (a, ts)) (omega arith) (λ n l. postfix_stops (readers n None) e a (next e ts).place (next e ts).kind ts h)

pub climb_ends : (e : ℕ) (c : Context) (a : Phrase) (ts : List Token) → Stays e (bound c) a ts → Soon 1 (λ r. r.climb e c a ts) (Ok (a, ts))
climb_ends e c a ts h = step (λ r. r.climb e c a ts) (Ok (a, ts)) (omega arith) (λ n l. climb_stops (readers n None) e c a (next e ts).place (next e ts).kind ts h)
