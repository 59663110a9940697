-- Where so many forms may open: behind a form that opens, and the token that opens one.
use Rattle.std.proofs.Common.{◌≡◌, ℕ, suc, true, List, refl, sym, ap, ◌∙◌, subst}
use Rattle.tla_token.specs.declared.place.Place.{Place}
use Rattle.tla_tree.specs.Lexical.{Mark, TokenView, Token}
use Rattle.tla_tree.specs.Lexical as tk
use Rattle.tla_tree.specs.Reader.{Out, Reader, then_read, peek, next, is_mark, is_key}
use Rattle.tla_tree.specs.Whole.{read_bounded}
use Rattle.tla_tree.proofs.SoundTokens.{mark_is}
use Rattle.expr_nodes.specs.ReadIn.{Reads}
use Rattle.region_reading.specs.Bound.{deeper, opening}
use Rattle.region_reading.proofs.BoundLaws.{deeper_is, opening_is}
use Rattle.region_items.specs.Begins.{bound}

pub deeper_more : (l d : ℕ) → suc d ≡ l → deeper (bound l) ≡ bound d
deeper_more l d h = ap (λ (n : ℕ). deeper (bound n)) (sym h) ∙ deeper_is read_bounded d

module _ {A : Type 0} where
  pub opening_more : (l d : ℕ) (p : Reader A) (ts : List Token) → suc d ≡ l → opening (bound l) p ts ≡ p ts
  opening_more l d p ts h = ap (λ (n : ℕ). opening (bound n) p ts) (sym h) ∙ opening_is read_bounded d p ts

  pub reads_then : {B : Type 0} {P : A → Type 0} {u : List Token} (R : Out B → Type 0) (o : Out A) (f : A → Reader B) → Reads P u o → ((a : A) → P a → R (f a u)) → R (then_read o f)
  reads_then R o f h g = subst (λ o. R (then_read o f)) (sym h.is) (g h.what h.told)

-- ---- by the next token
exists_is : (k : TokenView) → is_key tk.exists_key k ≡ true → k ≡ tk.key tk.exists_key
exists_is (tk.key tk.exists_key) h = refl
exists_is k h = absurd cc

for_all_is : (k : TokenView) → is_key tk.for_all_key k ≡ true → k ≡ tk.key tk.for_all_key
for_all_is (tk.key tk.for_all_key) h = refl
for_all_is k h = absurd cc

module _ {A : Type 0} (f : Place → TokenView → Reader A) (e : ℕ) (ts : List Token) where
  pub by_mark : (m : Mark) → is_mark m (next e ts).kind ≡ true → peek e f ts ≡ f (next e ts).place (tk.mark m) ts
  by_mark m h = ap (λ (k : TokenView). f (next e ts).place k ts) (mark_is m (next e ts).kind h)

  pub by_exists : is_key tk.exists_key (next e ts).kind ≡ true → peek e f ts ≡ f (next e ts).place (tk.key tk.exists_key) ts
  by_exists h = ap (λ (k : TokenView). f (next e ts).place k ts) (exists_is (next e ts).kind h)

  pub by_for_all : is_key tk.for_all_key (next e ts).kind ≡ true → peek e f ts ≡ f (next e ts).place (tk.key tk.for_all_key) ts
  by_for_all h = ap (λ (k : TokenView). f (next e ts).place k ts) (for_all_is (next e ts).kind h)
