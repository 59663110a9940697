-- A round of reading names with commas between them.
use Rattle.std.proofs.Common.{◌≡◌, ℕ, suc, true, false, List, Ok, refl, sym, ap, ◌∙◌}
use Rattle.tla_token.specs.declared.place.Place.{Place}
use Rattle.tla_token.specs.declared.token.Tokens.{Tokens}
use Rattle.tla_tree.specs.Tree.{Name}
use Rattle.tla_tree.specs.Lexical.{TokenView, Token}
use Rattle.tla_tree.specs.Lexical as tk
use Rattle.tla_tree.specs.Reader.{Out, Reader, then_read, tail, is_mark}
use Rattle.tla_tree.proofs.SoundTokens.{mark_is}
use Rattle.expr_nodes.specs.declared.cursor.Halt.{Halt}
use Rattle.expr_nodes.specs.ReadIn.{Fails}
use Rattle.expr_nodes.specs.Ahead.{ahead}
use Rattle.pcal_tree.specs.GrammarParts.{Names, last_name, more_names, names_of}
use Rattle.syntax_reading.specs.TokenReaders.{first, by_next, a_name}
use Rattle.syntax_reading.specs.ReadParts.{read_names, names_by}
use Rattle.algorithm_reader.proofs.Gathered.{put_after, gives_put, fails_then, GoesOn, EndsAt}

no_comma : (r : Reader Names) (x : Name) (p : Place) (k : TokenView) (us : List Token) → is_mark tk.comma k ≡ false → names_by r x p k us ≡ Ok (last_name x, us)
no_comma r x p (tk.mark tk.comma) us h = (let no : true ≡ false = h in absurd cc)
no_comma r x p k us h = refl

module _ (v : Tokens) (i e : ℕ) (x : Name) (read : a_name (ahead v i) ≡ Ok (x, ahead v e)) where
  after_first : (n : ℕ) → read_names (suc n) (ahead v i) ≡ names_by (read_names n) x (first (ahead v e)).place (first (ahead v e)).kind (ahead v e)
  after_first n = ap (λ (o : Out Name). then_read o (λ x. by_next (names_by (read_names n) x))) read

  pub name_and_more : (j : ℕ) → is_mark tk.comma (first (ahead v e)).kind ≡ true → ahead v j ≡ tail (ahead v e) → (n : ℕ) → GoesOn read_names names_of v i j x n
  name_and_more j c t n =
      let p = (first (ahead v e)).place in
      record {
        cons = more_names x p;
        round = (after_first n ∙ ap (λ (k : TokenView). names_by (read_names n) x p k (ahead v e)) (mark_is tk.comma (first (ahead v e)).kind c) ∙ gives_put (more_names x p) (read_names n (tail (ahead v e))) ∙ ap (λ (ws : List Token). put_after (more_names x p) (read_names n ws)) (sym t));
        each = (λ a. refl);
      }

  pub last_of_names : is_mark tk.comma (first (ahead v e)).kind ≡ false → (n : ℕ) → EndsAt read_names names_of v i e x n
  last_of_names c n = record {
    last = last_name x;
    round = after_first n ∙ no_comma (read_names n) x (first (ahead v e)).place (first (ahead v e)).kind (ahead v e) c;
    alone = refl;
  }

pub no_first_name : (e : Halt) (ts : List Token) → Fails e (a_name ts) → (n : ℕ) → Fails e (read_names (suc n) ts)
no_first_name e ts h n = fails_then e (a_name ts) _ h
