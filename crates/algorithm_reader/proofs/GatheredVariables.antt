-- A round of reading variables, one of reading parameters, with what comes between them.
use Rattle.std.proofs.Common.{◌≡◌, ℕ, suc, Bool, true, false, ◌&&◌, List, [], ◌∷◌, Option, Some, None, is_some, Ok, refl, sym, ap, subst, ◌∙◌}
use Rattle.tla_token.specs.declared.place.Place.{Place}
use Rattle.tla_token.specs.declared.token.Tokens.{Tokens}
use Rattle.tla_token.specs.Places.{nowhere}
use Rattle.tla_tree.specs.Tree.{Name, Tree}
use Rattle.tla_tree.specs.Pool.{Keeps}
use Rattle.tla_tree.specs.Lexical.{TokenView, Token}
use Rattle.tla_tree.specs.Lexical as tk
use Rattle.tla_tree.specs.Reader.{Out, Reader, ◌>>=◌, then_read, gives, tail, is_mark}
use Rattle.tla_tree.proofs.SoundTokens.{mark_is}
use Rattle.expr_nodes.specs.declared.cursor.Halt.{Halt}
use Rattle.expr_nodes.specs.ReadIn.{Reads, Fails}
use Rattle.expr_nodes.specs.Ahead.{ahead}
use Rattle.pcal_tree.specs.declared.algorithm.Declaration.{Declaration}
use Rattle.pcal_tree.specs.InMemory.{declaration_at, past_declaration}
use Rattle.pcal_tree.proofs.InMemoryGrown.{start_at-kept}
use Rattle.pcal_tree.specs.Algorithm as tree
use Rattle.pcal_tree.specs.GrammarParts.{Separator, by_comma, Initial, Variables, last_variable, variable, declarations, Parameters, last_parameter, parameter, parameters_of, ProcedureParameters, some_parameters}
use Rattle.syntax_reading.specs.TokenReaders.{first, by_next, a_mark, a_name, name_of, Parts}
use Rattle.syntax_reading.specs.ReadParts.{read_initial, read_separator, read_variables, variables_by, read_parameters, parameters_by, read_procedure_parameters, procedure_parameters_by}
use Rattle.algorithm_reader.specs.PartsRead.{StandsFor, first_declared, declaration_reader, is_another}
use Rattle.algorithm_reader.proofs.Gathered.{put_after, gives_put, fails_then, as_pair, GoesOn, EndsAt, StaysSame}

-- a separator that is there
abbrev pub the_separator : Option Separator → Separator
the_separator (Some s) = s
the_separator None = by_comma nowhere

more_variables : (r : Reader Variables) (x : Name) (i : Initial) (s : Option Separator) (p : Place) (k : TokenView) (us : List Token) → (is_some s && is_some (name_of p k)) ≡ true → variables_by r x i s p k us ≡ put_after (variable x i (the_separator s)) (r us)
more_variables r x i (Some s) p (tk.word y) us h = gives_put (variable x i s) (r us)
more_variables r x i (Some s) p k us h = (let no : false ≡ true = h in absurd cc)
more_variables r x i None p k us h = (let no : false ≡ true = h in absurd cc)

no_more_variables : (r : Reader Variables) (x : Name) (i : Initial) (s : Option Separator) (p : Place) (k : TokenView) (us : List Token) → (is_some s && is_some (name_of p k)) ≡ false → variables_by r x i s p k us ≡ Ok (last_variable x i s, us)
no_more_variables r x i (Some s) p (tk.word y) us h = (let no : true ≡ false = h in absurd cc)
no_more_variables r x i (Some s) p k us h = refl
no_more_variables r x i None p k us h = refl

module _ (b : Bool) (m : Parts) (v : Tokens) (i e j : ℕ) (d : tree.Declaration) (h : Reads (λ z. d ≡ first_declared z) (ahead v e) (declaration_reader b m (ahead v i))) where
  one_read : (n : ℕ) (s : Option Separator) → read_separator (ahead v e) ≡ Ok (s, ahead v j) → read_variables b m (suc n) (ahead v i) ≡ by_next (variables_by (read_variables b m n) h.what.0 h.what.1 s) (ahead v j)
  one_read n s g =
      as_pair (a_name (ahead v i)) (λ x. read_initial b m) (λ x i. read_separator >>= λ s. by_next (variables_by (read_variables b m n) x i s))
      ∙ ap (λ (o : Out (Name × Initial)). then_read o (λ z. read_separator >>= λ s. by_next (variables_by (read_variables b m n) z.0 z.1 s))) h.is
      ∙ ap (λ (o : Out (Option Separator)). then_read o (λ s. by_next (variables_by (read_variables b m n) h.what.0 h.what.1 s))) g

  pub variables_go_on : Reads (λ s. is_another s (first (ahead v j)) ≡ true) (ahead v j) (read_separator (ahead v e)) → (n : ℕ) → GoesOn (read_variables b m) declarations v i j d n
  variables_go_on g n = record {
    cons = variable h.what.0 h.what.1 (the_separator g.what);
    round = (one_read n g.what g.is ∙ more_variables (read_variables b m n) h.what.0 h.what.1 g.what (first (ahead v j)).place (first (ahead v j)).kind (ahead v j) g.told);
    each = (λ a. ap (λ (c : tree.Declaration). c ∷ declarations a) (sym h.told));
  }

  pub variables_end : Reads (λ s. is_another s (first (ahead v j)) ≡ false) (ahead v j) (read_separator (ahead v e)) → (n : ℕ) → EndsAt (read_variables b m) declarations v i j d n
  variables_end g n = record {
    last = last_variable h.what.0 h.what.1 g.what;
    round = (one_read n g.what g.is ∙ no_more_variables (read_variables b m n) h.what.0 h.what.1 g.what (first (ahead v j)).place (first (ahead v j)).kind (ahead v j) g.told);
    alone = ap (λ (c : tree.Declaration). c ∷ []) (sym h.told);
  }

pub variables_fail : (b : Bool) (m : Parts) (e : Halt) (ts : List Token) → Fails e (declaration_reader b m ts) → (n : ℕ) → Fails e (read_variables b m (suc n) ts)
variables_fail b m e ts h n = rw (as_pair (a_name ts) (λ x. read_initial b m) (λ x i. read_separator >>= λ s. by_next (variables_by (read_variables b m n) x i s))) (fails_then e _ _ h)

-- ---- parameters
no_comma : (r : Reader Parameters) (x : Name) (i : Initial) (p : Place) (k : TokenView) (us : List Token) → is_mark tk.comma k ≡ false → parameters_by r x i p k us ≡ Ok (last_parameter x i, us)
no_comma r x i p (tk.mark tk.comma) us h = (let no : true ≡ false = h in absurd cc)
no_comma r x i p k us h = refl

module _ (m : Parts) (v : Tokens) (i e : ℕ) (d : tree.Declaration) (h : Reads (λ z. d ≡ first_declared z) (ahead v e) (declaration_reader false m (ahead v i))) where
  one_parameter : (n : ℕ) → read_parameters m (suc n) (ahead v i) ≡ by_next (parameters_by (read_parameters m n) h.what.0 h.what.1) (ahead v e)
  one_parameter n =
      as_pair (a_name (ahead v i)) (λ x. read_initial false m) (λ x i. by_next (parameters_by (read_parameters m n) x i))
      ∙ ap (λ (o : Out (Name × Initial)). then_read o (λ z. by_next (parameters_by (read_parameters m n) z.0 z.1))) h.is

  pub parameters_go_on : (j : ℕ) → is_mark tk.comma (first (ahead v e)).kind ≡ true → ahead v j ≡ tail (ahead v e) → (n : ℕ) → GoesOn (read_parameters m) parameters_of v i j d n
  parameters_go_on j c t n =
      let p = (first (ahead v e)).place in
      let cons = parameter h.what.0 h.what.1 p in
      record {
        cons = cons;
        round = (one_parameter n ∙ ap (λ (k : TokenView). parameters_by (read_parameters m n) h.what.0 h.what.1 p k (ahead v e)) (mark_is tk.comma (first (ahead v e)).kind c)
            ∙ gives_put cons (read_parameters m n (tail (ahead v e))) ∙ ap (λ (ws : List Token). put_after cons (read_parameters m n ws)) (sym t));
        each = (λ a. ap (λ (c : tree.Declaration). c ∷ parameters_of a) (sym h.told));
      }

  pub parameters_end : is_mark tk.comma (first (ahead v e)).kind ≡ false → (n : ℕ) → EndsAt (read_parameters m) parameters_of v i e d n
  parameters_end c n = record {
    last = last_parameter h.what.0 h.what.1;
    round = (one_parameter n ∙ no_comma (read_parameters m n) h.what.0 h.what.1 (first (ahead v e)).place (first (ahead v e)).kind (ahead v e) c);
    alone = ap (λ (c : tree.Declaration). c ∷ []) (sym h.told);
  }

pub parameters_fail : (m : Parts) (e : Halt) (ts : List Token) → Fails e (declaration_reader false m ts) → (n : ℕ) → Fails e (read_parameters m (suc n) ts)
parameters_fail m e ts h n = rw (as_pair (a_name ts) (λ x. read_initial false m) (λ x i. by_next (parameters_by (read_parameters m n) x i))) (fails_then e _ _ h)

-- what was told of a declaration, by its tree alone; and a declaration is kept as the pool grows
pub declaration_told : {ts : List Tree} {x : Declaration} {u : List Token} {o : Out (Name × Initial)} → Reads (StandsFor declaration_at past_declaration first_declared ts x) u o → Reads (λ z. declaration_at ts x ≡ first_declared z) u o
declaration_told h = record { what = h.what; is = h.is; told = h.told.tree }

pub declarations_stay : (ts us : List Tree) → Keeps ts us → StaysSame declaration_at past_declaration ts us
declarations_stay ts us k d h = λ j. record { name = d.name; start = start_at-kept ts us k d.start h j }

pub separator_told : {b c : Bool} (t : Token) {u : List Token} {o : Out (Option Separator)} → Reads (λ s. is_another s t ≡ b) u o → b ≡ c → Reads (λ s. is_another s t ≡ c) u o
separator_told t h e = record { what = h.what; is = h.is; told = h.told ∙ e }

-- ---- the brackets around parameters
not_closed : (m : Parts) (n : ℕ) (p q : Place) (k : TokenView) (us : List Token) → is_mark tk.close_bracket k ≡ false
    → procedure_parameters_by m n p q k us ≡ then_read (read_parameters m n us) (λ xs. a_mark tk.close_bracket >>= λ r. gives (some_parameters p xs r))
not_closed m n p q (tk.mark tk.close_bracket) us h = (let no : true ≡ false = h in absurd cc)
not_closed m n p q k us h = refl

pub unclosed : {P : Parameters → Type 0} (m : Parts) (n : ℕ) (v : Tokens) (i j l : ℕ) (p : Place) (e : Halt) → a_mark tk.open_bracket (ahead v i) ≡ Ok (p, ahead v j) → is_mark tk.close_bracket (first (ahead v j)).kind ≡ false
    → Reads P (ahead v l) (read_parameters m n (ahead v j)) → Fails e (a_mark tk.close_bracket (ahead v l)) → Fails e (read_procedure_parameters m n (ahead v i))
unclosed m n v i j l p e o c r f =
    let close : Parameters → Reader ProcedureParameters = λ xs. a_mark tk.close_bracket >>= λ q. gives (some_parameters p xs q) in
    subst (Fails e)
    (sym (ap (λ (o : Out Place). then_read o (λ p. by_next (procedure_parameters_by m n p))) o ∙ not_closed m n p (first (ahead v j)).place (first (ahead v j)).kind (ahead v j) c ∙ ap (λ (o : Out Parameters). then_read o close) r.is))
    (fails_then e (a_mark tk.close_bracket (ahead v l)) (λ q. gives (some_parameters p r.what q)) f)
