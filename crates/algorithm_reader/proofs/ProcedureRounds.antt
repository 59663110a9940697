-- Reading one procedure, and a round of reading procedures.
use Rattle.std.proofs.Common.{◌≡◌, ℕ, suc, Bool, true, false, List, [], ◌∷◌, map, Ok, if◌then◌else◌, codes, refl, sym, ap, subst, ◌∙◌, arith}
use Rattle.tla_token.specs.declared.place.Place.{Place}
use Rattle.tla_token.specs.declared.token.Tokens.{Tokens}
use Rattle.tla_tree.specs.Tree.{Tree, Name}
use Rattle.tla_tree.specs.Pool.{Keeps}
use Rattle.tla_tree.specs.Lexical.{TokenView, Token}
use Rattle.tla_tree.specs.Lexical as tk
use Rattle.tla_tree.specs.Reader.{Out, Reader, ◌>>=◌, then_read, gives, skip, tail}
use Rattle.expr_nodes.specs.declared.cursor.Halt.{Halt}
use Rattle.expr_nodes.specs.ReadIn.{Reads, Fails}
use Rattle.expr_nodes.specs.Ahead.{ahead}
use Rattle.pcal_tree.specs.declared.algorithm.Procedure as code_procedure
use Rattle.pcal_tree.specs.InMemory.{procedure_at, past_procedure}
use Rattle.pcal_tree.proofs.InMemoryGrown.{declarations_at-kept}
use Rattle.pcal_tree.specs.Algorithm as tree
use Rattle.pcal_tree.specs.GrammarParts.{ProcedureParameters, procedure_declarations, Section, declared}
use Rattle.pcal_tree.specs.Grammar.{Body, body_tree, Procedure, procedure_tree}
use Rattle.syntax_reading.specs.TokenReaders.{first, a_name, is_reserved, Parts}
use Rattle.syntax_reading.specs.ReadParts.{read_procedure_parameters, read_section}
use Rattle.syntax_reading.specs.ReadAround.{more_of}
use Rattle.syntax_reading.specs.ReadRoutines.{Ways, read_procedure, procedures_by, read_procedures}
use Rattle.algorithm_reader.specs.PartsRead.{StandsFor, all_declared_at, past_all_declared}
use Rattle.algorithm_reader.proofs.Gathered.{fails_then, GoesOn}
use Rattle.algorithm_reader.specs.RoutinesRead.{body_at, past_body}
use Rattle.algorithm_reader.proofs.NoMore.{NoneAt, more_read}

-- ---- one procedure, behind its word
abbrev made : Place → Name → ProcedureParameters → Section → Body → Procedure
made p x ps vs b = record { place = p; name = x; parameters = ps; variables = vs; body = b }

module _ (m : Parts) (f : Ways) (n : ℕ) (p : Place) (v : Tokens) (i j : ℕ) (x : Name) (named : a_name (ahead v i) ≡ Ok (x, ahead v j)) where
  abbrev variables_then : ProcedureParameters → Section → Reader Procedure
  variables_then ps vs = f.body n (codes "procedure") >>= λ b. gives (made p x ps vs b)

  abbrev parameters_then : ProcedureParameters → Reader Procedure
  parameters_then ps = read_section false m n >>= variables_then ps

  past_its_name : read_procedure m f n p (ahead v i) ≡ then_read (read_procedure_parameters m n (ahead v j)) parameters_then
  past_its_name = ap (λ (o : Out Name). then_read o (λ x. read_procedure_parameters m n >>= λ ps. read_section false m n >>= λ vs. f.body n (codes "procedure") >>= λ b. gives (made p x ps vs b))) named

  pub no_procedure_parameters : (e : Halt) → Fails e (read_procedure_parameters m n (ahead v j)) → Fails e (read_procedure m f n p (ahead v i))
  no_procedure_parameters e h = subst (Fails e) (sym past_its_name) (fails_then e _ _ h)

  module _ {P : ProcedureParameters → Type 0} (k : ℕ) (ps : Reads P (ahead v k) (read_procedure_parameters m n (ahead v j))) where
    past_its_parameters : read_procedure m f n p (ahead v i) ≡ then_read (read_section false m n (ahead v k)) (variables_then ps.what)
    past_its_parameters = past_its_name ∙ ap (λ (o : Out ProcedureParameters). then_read o parameters_then) ps.is

    pub no_procedure_variables : (e : Halt) → Fails e (read_section false m n (ahead v k)) → Fails e (read_procedure m f n p (ahead v i))
    no_procedure_variables e h = subst (Fails e) (sym past_its_parameters) (fails_then e _ _ h)

    module _ {Q : Section → Type 0} (l : ℕ) (vs : Reads Q (ahead v l) (read_section false m n (ahead v k))) where
      past_its_variables : read_procedure m f n p (ahead v i) ≡ then_read (f.body n (codes "procedure") (ahead v l)) (λ b. gives (made p x ps.what vs.what b))
      past_its_variables = past_its_parameters ∙ ap (λ (o : Out Section). then_read o (variables_then ps.what)) vs.is

      pub no_procedure_body : (e : Halt) → Fails e (f.body n (codes "procedure") (ahead v l)) → Fails e (read_procedure m f n p (ahead v i))
      no_procedure_body e h = subst (Fails e) (sym past_its_variables) (fails_then e _ _ h)

      pub procedure_is : (t : ℕ) (b : Body) → f.body n (codes "procedure") (ahead v l) ≡ Ok (b, ahead v t) → read_procedure m f n p (ahead v i) ≡ Ok (made p x ps.what vs.what b, ahead v t)
      procedure_is t b h = past_its_variables ∙ ap (λ (o : Out Body). then_read o (λ b. gives (made p x ps.what vs.what b))) h

-- the pool grows from part to part
pub procedure_read : (m : Parts) (f : Ways) (n : ℕ) (p : Place) (v : Tokens) (i j k l t : ℕ) (rs ss ts : List Tree) (x : code_procedure.Procedure) → Keeps rs ss → Keeps ss ts
    → a_name (ahead v i) ≡ Ok (x.name, ahead v j) → Reads (StandsFor all_declared_at past_all_declared procedure_declarations rs x.params) (ahead v k) (read_procedure_parameters m n (ahead v j))
    → Reads (StandsFor all_declared_at past_all_declared declared ss x.variables) (ahead v l) (read_section false m n (ahead v k)) → Reads (StandsFor body_at past_body body_tree ts x.body) (ahead v t) (f.body n (codes "procedure") (ahead v l))
    → Reads (StandsFor procedure_at past_procedure procedure_tree ts x) (ahead v t) (read_procedure m f n p (ahead v i))
procedure_read m f n p v i j k l t rs ss ts x g h named ps vs b =
    let inner = ps.told.below in
    let params = declarations_at-kept ss ts h x.params.items (omega (arith, inner, g.longer)) ∙ declarations_at-kept rs ss g x.params.items inner ∙ ps.told.tree in
    let variables = declarations_at-kept ss ts h x.variables.items vs.told.below ∙ vs.told.tree in
    record {
      what = made p x.name ps.what vs.what b.what;
      is = procedure_is m f n p v i j x.name named k ps l vs t b.what b.is;
      told = record {
        below = omega (arith, inner, vs.told.below, b.told.below, g.longer, h.longer);
        tree = λ z. record { name = x.name; params = params z; variables = variables z; body = b.told.tree z };
      };
    }

-- ---- a round of reading procedures
procedure_comes : (m : Parts) (f : Ways) (n : ℕ) (r : Reader (List Procedure)) (p : Place) (k : TokenView) (ts : List Token) → is_reserved (codes "procedure") k ≡ true → procedures_by m f n r p k ts ≡ more_of (read_procedure m f n p) r (tail ts)
procedure_comes m f n r p (tk.reserved w) ts h = ap (λ (b : Bool). (if b then skip (more_of (read_procedure m f n p) r) else gives []) ts) h
procedure_comes m f n r p k ts h = (let no : false ≡ true = h in absurd cc)

no_procedure_comes : (m : Parts) (f : Ways) (n : ℕ) (r : Reader (List Procedure)) (p : Place) (k : TokenView) (ts : List Token) → is_reserved (codes "procedure") k ≡ false → procedures_by m f n r p k ts ≡ Ok ([], ts)
no_procedure_comes m f n r p (tk.reserved w) ts h = ap (λ (b : Bool). (if b then skip (more_of (read_procedure m f n p) r) else gives []) ts) h
no_procedure_comes m f n r p k ts h = refl

module _ (m : Parts) (f : Ways) (v : Tokens) (i e : ℕ) (there : is_reserved (codes "procedure") (first (ahead v i)).kind ≡ true) (rest : ahead v e ≡ tail (ahead v i)) where
  one_procedure : (n : ℕ) → read_procedures m f (suc n) (ahead v i) ≡ more_of (read_procedure m f n (first (ahead v i)).place) (read_procedures m f n) (ahead v e)
  one_procedure n =
      procedure_comes m f n (read_procedures m f n) (first (ahead v i)).place (first (ahead v i)).kind (ahead v i) there
      ∙ ap (more_of (read_procedure m f n (first (ahead v i)).place) (read_procedures m f n)) (sym rest)

  pub procedures_go_on : (j : ℕ) (d : tree.Procedure) (n : ℕ) → ((p : Place) → Reads (λ a. d ≡ procedure_tree a) (ahead v j) (read_procedure m f n p (ahead v e))) → GoesOn (read_procedures m f) (map procedure_tree) v i j d n
  procedures_go_on j d n h =
      let one = h (first (ahead v i)).place in
      record {
        cons = λ xs. one.what ∷ xs;
        round = one_procedure n ∙ more_read (read_procedure m f n (first (ahead v i)).place) (read_procedures m f n) (ahead v e) (ahead v j) one.what one.is;
        each = λ a. ap (λ (c : tree.Procedure). c ∷ map procedure_tree a) (sym one.told);
      }

  pub procedures_fail : (h : Halt) (n : ℕ) → ((p : Place) → Fails h (read_procedure m f n p (ahead v e))) → Fails h (read_procedures m f (suc n) (ahead v i))
  procedures_fail h n g = subst (Fails h) (sym (one_procedure n)) (fails_then h _ _ (g (first (ahead v i)).place))

pub procedures_end : (m : Parts) (f : Ways) (v : Tokens) (i n : ℕ) → is_reserved (codes "procedure") (first (ahead v i)).kind ≡ false → NoneAt (read_procedures m f) (map procedure_tree) v i i n
procedures_end m f v i n h = record { last = []; round = no_procedure_comes m f n (read_procedures m f n) (first (ahead v i)).place (first (ahead v i)).kind (ahead v i) h; none = refl }
