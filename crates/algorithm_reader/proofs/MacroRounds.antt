-- Reading one macro, a round of reading macros, and `define`.
use Rattle.std.proofs.Common.{◌≡◌, ℕ, suc, Bool, true, false, List, [], ◌∷◌, map, Ok, if◌then◌else◌, codes, refl, sym, ap, subst, ◌∙◌}
use Rattle.tla_token.specs.declared.place.Place.{Place}
use Rattle.tla_token.specs.declared.token.Tokens.{Tokens}
use Rattle.tla_tree.specs.Tree.{Tree, Name}
use Rattle.tla_tree.specs.Lexical.{TokenView, Token}
use Rattle.tla_tree.specs.Lexical as tk
use Rattle.tla_tree.specs.Reader.{Out, Reader, ◌>>=◌, then_read, gives, skip, tail}
use Rattle.expr_nodes.specs.declared.cursor.Halt.{Halt}
use Rattle.expr_nodes.specs.ReadIn.{Reads, Fails}
use Rattle.expr_nodes.specs.Ahead.{ahead}
use Rattle.pcal_tree.specs.declared.algorithm.Macro as code_macro
use Rattle.pcal_tree.specs.InMemory.{macro_at, past_macro}
use Rattle.pcal_tree.specs.Algorithm as tree
use Rattle.pcal_tree.specs.GrammarParts.{MacroParameters, macro_names}
use Rattle.pcal_tree.specs.Grammar.{Body, body_tree, Macro, macro_tree, no_define}
use Rattle.syntax_reading.specs.TokenReaders.{first, a_name, is_reserved}
use Rattle.syntax_reading.specs.ReadParts.{read_macro_parameters}
use Rattle.syntax_reading.specs.ReadAround.{more_of}
use Rattle.syntax_reading.specs.ReadRoutines.{Ways, read_macro, macros_by, read_macros, define_by, read_define}
use Rattle.algorithm_reader.specs.PartsRead.{StandsFor}
use Rattle.algorithm_reader.proofs.Gathered.{fails_then, GoesOn}
use Rattle.algorithm_reader.specs.RoutinesRead.{body_at, past_body}
use Rattle.algorithm_reader.proofs.NoMore.{NoneAt, more_read}

-- ---- one macro, behind its word
abbrev made : Place → Name → MacroParameters → Body → Macro
made p x ps b = record { place = p; name = x; parameters = ps; body = b }

module _ (f : Ways) (n : ℕ) (p : Place) (v : Tokens) (i j : ℕ) (x : Name) (named : a_name (ahead v i) ≡ Ok (x, ahead v j)) where
  abbrev parameters_then : MacroParameters → Reader Macro
  parameters_then ps = f.body n (codes "macro") >>= λ b. gives (made p x ps b)

  past_its_name : read_macro f n p (ahead v i) ≡ then_read (read_macro_parameters n (ahead v j)) parameters_then
  past_its_name = ap (λ (o : Out Name). then_read o (λ x. read_macro_parameters n >>= λ ps. f.body n (codes "macro") >>= λ b. gives (made p x ps b))) named

  pub no_parameters : (e : Halt) → Fails e (read_macro_parameters n (ahead v j)) → Fails e (read_macro f n p (ahead v i))
  no_parameters e h = subst (Fails e) (sym past_its_name) (fails_then e _ _ h)

  module _ {P : MacroParameters → Type 0} (k : ℕ) (ps : Reads P (ahead v k) (read_macro_parameters n (ahead v j))) where
    past_its_parameters : read_macro f n p (ahead v i) ≡ then_read (f.body n (codes "macro") (ahead v k)) (λ b. gives (made p x ps.what b))
    past_its_parameters = past_its_name ∙ ap (λ (o : Out MacroParameters). then_read o parameters_then) ps.is

    pub no_macro_body : (e : Halt) → Fails e (f.body n (codes "macro") (ahead v k)) → Fails e (read_macro f n p (ahead v i))
    no_macro_body e h = subst (Fails e) (sym past_its_parameters) (fails_then e _ _ h)

    pub macro_is : (l : ℕ) (b : Body) → f.body n (codes "macro") (ahead v k) ≡ Ok (b, ahead v l) → read_macro f n p (ahead v i) ≡ Ok (made p x ps.what b, ahead v l)
    macro_is l b h = past_its_parameters ∙ ap (λ (o : Out Body). then_read o (λ b. gives (made p x ps.what b))) h

pub macro_read : (f : Ways) (n : ℕ) (p : Place) (v : Tokens) (i j k l : ℕ) (ts : List Tree) (m : code_macro.Macro) → a_name (ahead v i) ≡ Ok (m.name, ahead v j) → Reads (λ a. m.params.items ≡ macro_names a) (ahead v k) (read_macro_parameters n (ahead v j))
    → Reads (StandsFor body_at past_body body_tree ts m.body) (ahead v l) (f.body n (codes "macro") (ahead v k)) → Reads (StandsFor macro_at past_macro macro_tree ts m) (ahead v l) (read_macro f n p (ahead v i))
macro_read f n p v i j k l ts m x ps b = record {
  what = made p m.name ps.what b.what;
  is = macro_is f n p v i j m.name x k ps l b.what b.is;
  told = record { below = b.told.below; tree = λ z. record { name = m.name; params = ps.told z; body = b.told.tree z } };
}

-- ---- a round of reading macros
macro_comes : (f : Ways) (n : ℕ) (r : Reader (List Macro)) (p : Place) (k : TokenView) (ts : List Token) → is_reserved (codes "macro") k ≡ true → macros_by f n r p k ts ≡ more_of (read_macro f n p) r (tail ts)
macro_comes f n r p (tk.reserved w) ts h = ap (λ (b : Bool). (if b then skip (more_of (read_macro f n p) r) else gives []) ts) h
macro_comes f n r p k ts h = (let no : false ≡ true = h in absurd cc)

no_macro_comes : (f : Ways) (n : ℕ) (r : Reader (List Macro)) (p : Place) (k : TokenView) (ts : List Token) → is_reserved (codes "macro") k ≡ false → macros_by f n r p k ts ≡ Ok ([], ts)
no_macro_comes f n r p (tk.reserved w) ts h = ap (λ (b : Bool). (if b then skip (more_of (read_macro f n p) r) else gives []) ts) h
no_macro_comes f n r p k ts h = refl

module _ (f : Ways) (v : Tokens) (i e : ℕ) (there : is_reserved (codes "macro") (first (ahead v i)).kind ≡ true) (rest : ahead v e ≡ tail (ahead v i)) where
  one_macro : (n : ℕ) → read_macros f (suc n) (ahead v i) ≡ more_of (read_macro f n (first (ahead v i)).place) (read_macros f n) (ahead v e)
  one_macro n = macro_comes f n (read_macros f n) (first (ahead v i)).place (first (ahead v i)).kind (ahead v i) there ∙ ap (more_of (read_macro f n (first (ahead v i)).place) (read_macros f n)) (sym rest)

  pub macros_go_on : (j : ℕ) (d : tree.Macro) (n : ℕ) → ((p : Place) → Reads (λ a. d ≡ macro_tree a) (ahead v j) (read_macro f n p (ahead v e))) → GoesOn (read_macros f) (map macro_tree) v i j d n
  macros_go_on j d n h =
      let one = h (first (ahead v i)).place in
      record {
        cons = λ xs. one.what ∷ xs;
        round = one_macro n ∙ more_read (read_macro f n (first (ahead v i)).place) (read_macros f n) (ahead v e) (ahead v j) one.what one.is;
        each = λ a. ap (λ (c : tree.Macro). c ∷ map macro_tree a) (sym one.told);
      }

  pub macros_fail : (h : Halt) (n : ℕ) → ((p : Place) → Fails h (read_macro f n p (ahead v e))) → Fails h (read_macros f (suc n) (ahead v i))
  macros_fail h n g = subst (Fails h) (sym (one_macro n)) (fails_then h _ _ (g (first (ahead v i)).place))

pub macros_end : (f : Ways) (v : Tokens) (i n : ℕ) → is_reserved (codes "macro") (first (ahead v i)).kind ≡ false → NoneAt (read_macros f) (map macro_tree) v i i n
macros_end f v i n h = record { last = []; round = no_macro_comes f n (read_macros f n) (first (ahead v i)).place (first (ahead v i)).kind (ahead v i) h; none = refl }

-- ---- `define`
define_comes : (f : Ways) (n : ℕ) (p : Place) (k : TokenView) (ts : List Token) → is_reserved (codes "define") k ≡ true → define_by f n p k ts ≡ f.define n p (tail ts)
define_comes f n p (tk.reserved w) ts h = ap (λ (b : Bool). (if b then skip (f.define n p) else gives no_define) ts) h
define_comes f n p k ts h = (let no : false ≡ true = h in absurd cc)

pub define_read : (f : Ways) (n : ℕ) (v : Tokens) (i e : ℕ) → is_reserved (codes "define") (first (ahead v i)).kind ≡ true → ahead v e ≡ tail (ahead v i) → f.define n (first (ahead v i)).place (ahead v e) ≡ read_define f n (ahead v i)
define_read f n v i e h r = ap (f.define n (first (ahead v i)).place) r ∙ sym (define_comes f n (first (ahead v i)).place (first (ahead v i)).kind (ahead v i) h)
