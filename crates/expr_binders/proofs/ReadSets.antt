-- Sets of expressions in braces, behind their first expression.
use Rattle.std.proofs.Common.{◌≡◌, ℕ, true, false, List, refl, sym, ap, ◌∙◌}
use Rattle.tla_token.specs.declared.place.Place.{Place}
use Rattle.tla_tree.specs.Lexical.{TokenView, Token}
use Rattle.tla_tree.specs.Lexical as tk
use Rattle.tla_tree.specs.Spelling.{Phrase}
use Rattle.tla_tree.specs.Reader.{Readers, peek, next, tail, is_mark, set_rest}
use Rattle.tla_tree.proofs.SoundTokens.{mark_is}
use Rattle.expr_binders.specs.InBraces.{set_alone, set_before}

module _ (d : Readers) (e : ℕ) (p : Place) (a : Phrase) (ts : List Token) where
  pub set_more : is_mark tk.comma (next e ts).kind ≡ true → (us : List Token) → us ≡ tail ts → peek e (set_rest d e p a) ts ≡ set_before d e p a (next e ts).place us
  set_more h us t = ap (λ (k : TokenView). set_rest d e p a (next e ts).place k ts) (mark_is tk.comma (next e ts).kind h) ∙ ap (set_before d e p a (next e ts).place) (sym t)

  pub set_ends : is_mark tk.comma (next e ts).kind ≡ false → peek e (set_rest d e p a) ts ≡ set_alone e p a ts
  set_ends h = by (next e ts).kind h
    where
      by : (k : TokenView) → is_mark tk.comma k ≡ false → set_rest d e p a (next e ts).place k ts ≡ set_alone e p a ts
      by (tk.mark tk.comma) h = (let no : true ≡ false = h in absurd cc)
      by k h = refl
