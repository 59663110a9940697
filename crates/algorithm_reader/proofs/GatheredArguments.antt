-- The brackets around arguments, and where the last one is missing.
use Rattle.std.proofs.Common.{◌≡◌, List, true, false, Ok, refl, sym, ap, subst, ◌∙◌, ℕ}
use Rattle.tla_token.specs.declared.place.Place.{Place}
use Rattle.tla_token.specs.declared.token.Tokens.{Tokens}
use Rattle.tla_tree.specs.Lexical.{TokenView, Token}
use Rattle.tla_tree.specs.Lexical as tk
use Rattle.tla_tree.specs.Spelling.{Phrases}
use Rattle.tla_tree.specs.Reader.{Out, Reader, ◌>>=◌, then_read, gives, is_mark}
use Rattle.expr_nodes.specs.declared.cursor.Halt.{Halt}
use Rattle.expr_nodes.specs.ReadIn.{Reads, Fails}
use Rattle.expr_nodes.specs.Ahead.{ahead}
use Rattle.pcal_tree.specs.GrammarParts.{Arguments, some_arguments}
use Rattle.syntax_reading.specs.TokenReaders.{first, by_next, a_mark, Parts}
use Rattle.syntax_reading.specs.ReadSimple.{arguments_by, read_arguments}
use Rattle.algorithm_reader.proofs.Gathered.{fails_then}

not_closed : (m : Parts) (p q : Place) (k : TokenView) (us : List Token) → is_mark tk.close_bracket k ≡ false → arguments_by m p q k us ≡ then_read (m.arguments us) (λ xs. a_mark tk.close_bracket >>= λ r. gives (some_arguments p xs r))
not_closed m p q (tk.mark tk.close_bracket) us h = (let no : true ≡ false = h in absurd cc)
not_closed m p q k us h = refl

pub unclosed_arguments : {P : Phrases → Type 0} (m : Parts) (v : Tokens) (i j l : ℕ) (p : Place) (e : Halt) → a_mark tk.open_bracket (ahead v i) ≡ Ok (p, ahead v j) → is_mark tk.close_bracket (first (ahead v j)).kind ≡ false
    → Reads P (ahead v l) (m.arguments (ahead v j)) → Fails e (a_mark tk.close_bracket (ahead v l)) → Fails e (read_arguments m (ahead v i))
unclosed_arguments m v i j l p e o c r f =
    let close : Phrases → Reader Arguments = λ xs. a_mark tk.close_bracket >>= λ q. gives (some_arguments p xs q) in
    subst (Fails e)
    (sym (ap (λ (o : Out Place). then_read o (λ p. by_next (arguments_by m p))) o ∙ not_closed m p (first (ahead v j)).place (first (ahead v j)).kind (ahead v j) c ∙ ap (λ (o : Out Phrases). then_read o close) r.is))
    (fails_then e (a_mark tk.close_bracket (ahead v l)) (λ q. gives (some_arguments p r.what q)) f)
