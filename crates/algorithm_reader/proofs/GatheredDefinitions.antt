-- A round of reading definitions.
use Rattle.std.proofs.Common.{◌≡◌, ℕ, suc, true, false, List, [], ◌∷◌, is_some, Ok, refl, sym, ap, subst, ◌∙◌, arith}
use Rattle.tla_token.specs.declared.place.Place.{Place}
use Rattle.tla_token.specs.declared.token.Tokens.{Tokens}
use Rattle.tla_tree.specs.Tree.{Name, Tree}
use Rattle.tla_tree.specs.Pool.{Keeps}
use Rattle.tla_tree.specs.Lexical.{TokenView, Token}
use Rattle.tla_tree.specs.Lexical as tk
use Rattle.tla_tree.specs.Spelling.{Phrase}
use Rattle.tla_tree.specs.Reader.{Out, Reader, ◌>>=◌, then_read, gives, tail, is_mark}
use Rattle.tla_tree.proofs.SoundTokens.{mark_is}
use Rattle.expr_nodes.specs.declared.cursor.Halt.{Halt}
use Rattle.expr_nodes.specs.ReadIn.{Reads, Fails}
use Rattle.expr_nodes.specs.Ahead.{ahead}
use Rattle.pcal_tree.specs.declared.algorithm.Definition.{Definition}
use Rattle.pcal_tree.specs.InMemory.{definition_at, past_definition}
use Rattle.pcal_tree.specs.Algorithm as tree
use Rattle.pcal_tree.specs.GrammarParts.{Names, Heading, plain, applied, Definitions, last_definition, more_definitions, definitions_of, definition_of}
use Rattle.syntax_reading.specs.TokenReaders.{first, by_next, a_mark, a_name, name_of, Parts}
use Rattle.syntax_reading.specs.ReadParts.{read_names, read_heading, heading_by, read_definitions, definitions_by}
use Rattle.algorithm_reader.specs.PartsRead.{StandsFor, first_defined, definition_reader}
use Rattle.algorithm_reader.proofs.Gathered.{put_after, gives_put, fails_then, as_triple, GoesOn, EndsAt, StaysSame}

defined_alike : (h : Heading) (p : Place) (e : Phrase) → first_defined (h, (p, e)) ≡ definition_of h e
defined_alike (plain x) p e = refl
defined_alike (applied x q xs r) p e = refl

more_of_them : (r : Reader Definitions) (h : Heading) (p : Place) (e : Phrase) (q : Place) (k : TokenView) (us : List Token) → is_some (name_of q k) ≡ true → definitions_by r h p e q k us ≡ put_after (more_definitions h p e) (r us)
more_of_them r h p e q (tk.word y) us i = gives_put (more_definitions h p e) (r us)
more_of_them r h p e q k us i = (let no : false ≡ true = i in absurd cc)

no_more_of_them : (r : Reader Definitions) (h : Heading) (p : Place) (e : Phrase) (q : Place) (k : TokenView) (us : List Token) → is_some (name_of q k) ≡ false → definitions_by r h p e q k us ≡ Ok (last_definition h p e, us)
no_more_of_them r h p e q (tk.word y) us i = (let no : true ≡ false = i in absurd cc)
no_more_of_them r h p e q k us i = refl

module _ (m : Parts) (v : Tokens) (i j n : ℕ) (d : tree.Definition) (h : Reads (λ z. d ≡ first_defined z) (ahead v j) (definition_reader m n (ahead v i))) where
  one_read : read_definitions m (suc n) (ahead v i) ≡ by_next (definitions_by (read_definitions m n) h.what.0 h.what.1.0 h.what.1.1) (ahead v j)
  one_read =
      as_triple (read_heading n (ahead v i)) (λ h. a_mark tk.defines) (λ h p. m.expr) (λ h p e. by_next (definitions_by (read_definitions m n) h p e))
      ∙ ap (λ (o : Out (Heading × (Place × Phrase))). then_read o (λ z. by_next (definitions_by (read_definitions m n) z.0 z.1.0 z.1.1))) h.is

  same : d ≡ definition_of h.what.0 h.what.1.1
  same = h.told ∙ defined_alike h.what.0 h.what.1.0 h.what.1.1

  pub definitions_go_on : is_some (name_of (first (ahead v j)).place (first (ahead v j)).kind) ≡ true → GoesOn (read_definitions m) definitions_of v i j d n
  definitions_go_on g = record {
    cons = more_definitions h.what.0 h.what.1.0 h.what.1.1;
    round = (one_read ∙ more_of_them (read_definitions m n) h.what.0 h.what.1.0 h.what.1.1 (first (ahead v j)).place (first (ahead v j)).kind (ahead v j) g);
    each = (λ a. ap (λ (c : tree.Definition). c ∷ definitions_of a) (sym same));
  }

  pub definitions_end : is_some (name_of (first (ahead v j)).place (first (ahead v j)).kind) ≡ false → EndsAt (read_definitions m) definitions_of v i j d n
  definitions_end g = record {
    last = last_definition h.what.0 h.what.1.0 h.what.1.1;
    round = (one_read ∙ no_more_of_them (read_definitions m n) h.what.0 h.what.1.0 h.what.1.1 (first (ahead v j)).place (first (ahead v j)).kind (ahead v j) g);
    alone = ap (λ (c : tree.Definition). c ∷ []) (sym same);
  }

pub definitions_fail : (m : Parts) (e : Halt) (ts : List Token) (n : ℕ) → Fails e (definition_reader m n ts) → Fails e (read_definitions m (suc n) ts)
definitions_fail m e ts n h = rw (as_triple (read_heading n ts) (λ h. a_mark tk.defines) (λ h p. m.expr) (λ h p e. by_next (definitions_by (read_definitions m n) h p e))) (fails_then e _ _ h)

pub definition_told : {ts : List Tree} {x : Definition} {u : List Token} {o : Out (Heading × (Place × Phrase))} → Reads (StandsFor definition_at past_definition first_defined ts x) u o → Reads (λ z. definition_at ts x ≡ first_defined z) u o
definition_told h = record { what = h.what; is = h.is; told = h.told.tree }

pub definitions_stay : (ts us : List Tree) → Keeps ts us → StaysSame definition_at past_definition ts us
definitions_stay ts us k d h = λ j. record { name = d.name; params = d.params.items; body = k.same d.body (omega (arith, h)) j }

-- ---- the brackets of a heading, where the last one is missing
pub unclosed_heading : {P : Names → Type 0} (v : Tokens) (n i e j l : ℕ) (x : Name) (f : Halt) → a_name (ahead v i) ≡ Ok (x, ahead v e) → is_mark tk.open_bracket (first (ahead v e)).kind ≡ true → ahead v j ≡ tail (ahead v e)
    → Reads P (ahead v l) (read_names n (ahead v j)) → Fails f (a_mark tk.close_bracket (ahead v l)) → Fails f (read_heading n (ahead v i))
unclosed_heading v n i e j l x f o c t r h =
    let p = (first (ahead v e)).place in
    let close : Names → Reader Heading = λ xs. a_mark tk.close_bracket >>= λ q. gives (applied x p xs q) in
    subst (Fails f)
    (sym (ap (λ (o : Out Name). then_read o (λ x. by_next (heading_by n x))) o ∙ ap (λ (k : TokenView). heading_by n x p k (ahead v e)) (mark_is tk.open_bracket (first (ahead v e)).kind c)
    ∙ ap (λ (ws : List Token). then_read (read_names n ws) close) (sym t) ∙ ap (λ (o : Out Names). then_read o close) r.is))
    (fails_then f (a_mark tk.close_bracket (ahead v l)) (λ q. gives (applied x p r.what q)) h)
