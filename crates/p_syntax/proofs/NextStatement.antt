-- What comes where a statement may, by the next word.
use Rattle.std.proofs.Common.{◌≡◌, ℕ, ◌<◌, ◌≤◌, Bool, true, false, ◌&&◌, List, [], ◌∷◌, length, drop, length-drop, arith, Result, is_some, if◌then◌else◌, refl, sym, ap, subst, ◌∙◌, codes}
use Rattle.std.specs.Str.{bytes_eq}
use Rattle.tla_token.specs.declared.place.Place.{Place}
use Rattle.tla_token.specs.declared.token.Token as code_token
use Rattle.tla_token.specs.declared.token.Tokens.{Tokens}
use Rattle.tla_token.proofs.Spelled.{same_bytes}
use Rattle.tla_tree.specs.Tree.{Word, Name, Tree}
use Rattle.expr_nodes.specs.declared.cursor.Halt.{Halt}
use Rattle.expr_nodes.specs.ReadIn.{Told, seen}
use Rattle.expr_nodes.specs.Ahead.{ahead}
use Rattle.algorithm_reader.specs.PartsRead.{parts_in}
use Rattle.p_syntax.specs.declared.open.State.{State}
use Rattle.p_syntax.specs.declared.open.Turn.TheVariants as turn
use Rattle.tla_tree.specs.Lexical.{TokenView, Token}
use Rattle.tla_tree.specs.Lexical as tk
use Rattle.tla_tree.specs.Reader.{Out, Reader, ◌>>=◌, then_read, gives, refuses, took, tail, is_mark}
use Rattle.tla_tree.proofs.SoundTokens.{mark_is}
use Rattle.pcal_tree.specs.GrammarParts.{Labels}
use Rattle.syntax_reading.specs.TokenReaders.{first, is_reserved, name_of, pick, Parts}
use Rattle.syntax_reading.specs.ReadParts.{read_colon}
use Rattle.syntax_reading.specs.ReadAround.{with_label}
use Rattle.syntax_reading.specs.ReadSimple.{named_by, simple_words}
use Rattle.algorithm_reader.specs.SimpleRead.{simple_by}
use Rattle.syntax_reading.specs.StatementsRead.{is_label}
use Rattle.p_reading.specs.ReadStatements.{Before, Stack, Turn, begin, on, after_name, ends_simple, statement_words, statement_by}
use Rattle.p_syntax.specs.StatesRead.{TurnStands}
use Rattle.p_syntax.specs.StepsRead.{StepRead, opens_by, label_step, simple_step, statement_step}

module _ (m : Parts) (n : ℕ) (b : Before) (ls : Labels) (st : Stack) where
  -- a word that opens a statement
  at_word : (w : Word) (p : Place) (k : TokenView) (ts : List Token) → is_reserved w k ≡ true → ((d : Reader Turn) → pick w (statement_words m n b ls st p) d ≡ pick w (statement_words m n b ls st p) refuses) → statement_by m n b ls st p k ts ≡ pick w (statement_words m n b ls st p) refuses ts
  at_word w p (tk.reserved x) ts e same = subst (λ (z : Word). statement_by m n b ls st p (tk.reserved z) ts ≡ pick w (statement_words m n b ls st p) refuses ts) (same_bytes w x e) (ap (λ (r : Reader Turn). r ts) (same (ends_simple b ls st (pick w (simple_words m p) refuses))))
  at_word w p k ts e same = (let no : false ≡ true = e in absurd cc)

  pub by_word : (w : Word) (ts : List Token) → ((p : Place) (d : Reader Turn) → pick w (statement_words m n b ls st p) d ≡ pick w (statement_words m n b ls st p) refuses) → is_reserved w (first ts).kind ≡ true → statement_step m n b ls st ts ≡ opens_by w m n b ls st ts
  by_word w ts same e = at_word w (first ts).place (first ts).kind ts e (same (first ts).place)

  -- a name with a colon behind it
  colon_behind : (x : Name) (p : Place) (k : TokenView) (us : List Token) → is_mark tk.colon k ≡ true → after_name m n b ls st x p k us ≡ (read_colon >>= λ c. gives (on (begin b (with_label ls x c) st))) us
  colon_behind x p k us e = ap (λ (z : TokenView). after_name m n b ls st x p z us) (mark_is tk.colon k e)

  at_label : (p : Place) (k : TokenView) (ts : List Token) → (is_some (name_of p k) && is_mark tk.colon (first (tail ts)).kind) ≡ true → statement_by m n b ls st p k ts ≡ then_read (took (name_of p k) ts) (λ x. read_colon >>= λ c. gives (on (begin b (with_label ls x c) st)))
  at_label p (tk.word x) ts e = colon_behind (record { place = p; word = x }) (first (tail ts)).place (first (tail ts)).kind (tail ts) e
  at_label p k ts e = (let no : false ≡ true = e in absurd cc)

  pub by_label : (ts : List Token) → is_label ts ≡ true → statement_step m n b ls st ts ≡ label_step m n b ls st ts
  by_label ts e = at_label (first ts).place (first ts).kind ts e

  -- any other
  no_colon : (x : Name) (p : Place) (k : TokenView) (us : List Token) → is_mark tk.colon k ≡ false → after_name m n b ls st x p k us ≡ ends_simple b ls st (named_by m n x p k) us
  no_colon x p (tk.mark tk.colon) us e = (let no : true ≡ false = e in absurd cc)
  no_colon x p k us e = refl

  skipped : {A : Type 0} (c : Bool) (x y : A) → c ≡ false → (if c then x else y) ≡ y
  skipped true x y e = (let no : true ≡ false = e in absurd cc)
  skipped false x y e = refl

  at_simple : (p : Place) (k : TokenView) (ts : List Token) → is_reserved (codes "if") k ≡ false → is_reserved (codes "either") k ≡ false → is_reserved (codes "with") k ≡ false → is_reserved (codes "while") k ≡ false
      → (is_some (name_of p k) && is_mark tk.colon (first (tail ts)).kind) ≡ false → statement_by m n b ls st p k ts ≡ ends_simple b ls st (simple_by m n p k) ts
  at_simple p (tk.word x) ts e f g h l = no_colon (record { place = p; word = x }) (first (tail ts)).place (first (tail ts)).kind (tail ts) l
  at_simple p (tk.reserved x) ts e f g h l = ap (λ (r : Reader Turn). r ts) (skipped (bytes_eq (codes "if") x) _ _ e ∙ skipped (bytes_eq (codes "either") x) _ _ f ∙ skipped (bytes_eq (codes "with") x) _ _ g ∙ skipped (bytes_eq (codes "while") x) _ _ h)
  at_simple p k ts e f g h l = refl

  pub by_simple : (ts : List Token) → is_reserved (codes "if") (first ts).kind ≡ false → is_reserved (codes "either") (first ts).kind ≡ false → is_reserved (codes "with") (first ts).kind ≡ false → is_reserved (codes "while") (first ts).kind ≡ false
      → is_label ts ≡ false → statement_step m n b ls st ts ≡ simple_step m n b ls st ts
  by_simple ts e f g h l = at_simple (first ts).place (first ts).kind ts e f g h l

-- what reads the same reads as well
pub step_same : (v : Tokens) (ts us : List Tree) (s : State) (i : ℕ) (r : Result (State × ℕ) Halt) (f g : Parts → ℕ → Before → Labels → Stack → Reader Turn) → StepRead v ts us s i r f
    → ((n : ℕ) (b : Before) (ls : Labels) (st : Stack) → g (parts_in v) n b ls st (ahead v i) ≡ f (parts_in v) n b ls st (ahead v i)) → StepRead v ts us s i r g
step_same v ts us s i r f g h e n b ls st k j = subst (λ (o : Out Turn). Told (λ (x : State × ℕ) (t : Turn). TurnStands us (turn.On x.0) t) (λ x. ahead v x.1) r o) (sym (e n b ls st)) (h n b ls st k j)

-- a reserved word is a token
pub word_is_there : (v : Tokens) (i : ℕ) (w : Word) → i ≤ length v.items.items → is_reserved w (first (ahead v i)).kind ≡ true → i < length v.items.items
word_is_there v i w h e = by (drop i v.items.items) refl
  where
    by : (ts : List code_token.Token) → drop i v.items.items ≡ ts → i < length v.items.items
    by [] d = (let no : false ≡ true = sym (ap (λ (l : List code_token.Token). is_reserved w (first (seen v.bytes.items l)).kind) d) ∙ e in absurd cc)
    by (t ∷ ts) d = omega (arith, h, ap length d, length-drop i v.items.items)
