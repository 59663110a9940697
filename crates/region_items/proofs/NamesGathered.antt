-- Names with commas, as the code reads them: what was read goes before what is still to come.
use Rattle.std.proofs.Common.{◌≡◌, ℕ, true, List, Ok, refl, sym, ap, ◌∙◌}
use Rattle.tla_token.specs.declared.place.Place.{Place}
use Rattle.tla_tree.specs.Tree.{Word}
use Rattle.tla_tree.specs.Lexical.{TokenView, Token}
use Rattle.tla_tree.specs.Lexical as tk
use Rattle.tla_tree.specs.Reader.{Out, then_read, peek, next, tail, a_word, is_mark}
use Rattle.tla_tree.proofs.SoundTokens.{mark_is}
use Rattle.module_tree.specs.Grammar.{more_names, words_of}
use Rattle.region_reading.specs.NameReader.{names_by, names_in}
use Rattle.region_reading.proofs.EnoughSteps.{names_are}
use Rattle.region_items.proofs.Gathered.{put_after, gives_put, SoFar, GoesOn}

module _ (e : ℕ) where
  -- the names up to some tokens
  abbrev pub NamesSoFar : List Token → List Token → List Word → Type 0
  NamesSoFar from here done = SoFar (names_in e) words_of from here done

  names_at : (x : Place × Word) (ts us : List Token) → a_word e ts ≡ Ok (x, us) → names_in e ts ≡ names_by (names_in e) x.0 x.1 (next e us).place (next e us).kind us
  names_at x ts us h = names_are e ts ∙ ap (λ (o : Out (Place × Word)). then_read o (λ x. peek e (names_by (names_in e) x.0 x.1))) h

  by_comma : (p : Place) (x : Word) (q : Place) (k : TokenView) (us : List Token) → is_mark tk.comma k ≡ true → names_by (names_in e) p x q k us ≡ put_after (more_names p x q) (names_in e (tail us))
  by_comma p x q k us h = ap (λ (k : TokenView). names_by (names_in e) p x q k us) (mark_is tk.comma k h) ∙ gives_put (more_names p x q) (names_in e (tail us))

  pub names_go_on : (x : Place × Word) (ts us vs : List Token) → a_word e ts ≡ Ok (x, us) → is_mark tk.comma (next e us).kind ≡ true → vs ≡ tail us → GoesOn (names_in e) words_of ts vs x.1
  names_go_on x ts us vs h c t = record {
    cons = more_names x.0 x.1 (next e us).place;
    round = names_at x ts us h ∙ by_comma x.0 x.1 (next e us).place (next e us).kind us c ∙ ap (λ (vs : List Token). put_after (more_names x.0 x.1 (next e us).place) (names_in e vs)) (sym t);
    each = λ ns. refl;
  }
