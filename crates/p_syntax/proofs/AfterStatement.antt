-- What comes after a statement: its `;`, another one, or the end of its list.
use Rattle.std.proofs.Common.{◌≡◌, ℕ, ◌<◌, ◌≤◌, true, false, List, [], ◌∷◌, length, Bool, if◌then◌else◌, subst, codes, Option, Some, None, Ok, Err, refl, sym, ap, ◌∙◌, arith}
use Rattle.tla_token.specs.declared.place.Place.{Place}
use Rattle.tla_token.specs.declared.token.Tokens.{Tokens}
use Rattle.tla_token.specs.declared.rule.Rule.TheVariants as rule
use Rattle.std.specs.Str.{bytes_eq}
use Rattle.tla_token.proofs.Spelled.{same_bytes}
use Rattle.tla_tree.specs.Tree.{Word, Tree}
use Rattle.tla_tree.specs.Lexical.{Mark, TokenView, Token}
use Rattle.tla_tree.specs.Lexical as tk
use Rattle.tla_tree.specs.Reader.{Reader, refuses, tail, is_mark}
use Rattle.tla_tree.proofs.SoundTokens.{mark_is}
use Rattle.expr_nodes.specs.Ahead.{ahead}
use Rattle.pcal_tree.specs.Algorithm as tree
use Rattle.pcal_tree.specs.GrammarParts.{Labels}
use Rattle.pcal_tree.specs.GrammarP as p
use Rattle.syntax_reading.specs.TokenReaders.{first, is_reserved, pick, Parts}
use Rattle.algorithm_reader.specs.PartsRead.{StandsFor}
use Rattle.p_reading.specs.ReadStatements as reader
use Rattle.p_reading.specs.ReadStatements.{Before, none, after, Stack, Turn, on, ended, with_before, closing_words, another_by, ended_by}
use Rattle.p_syntax.specs.declared.open.Point.{Point}
use Rattle.p_syntax.specs.declared.open.Point.TheVariants as point
use Rattle.p_syntax.specs.declared.open.State.{State}
use Rattle.algorithm_reader.specs.ListsRead.{ListStands}
use Rattle.p_syntax.specs.StatesRead.{before_tree, past_one, list_at, past_list, point_of, so_far, Stands, StateStands}
use Rattle.p_syntax.specs.StepsRead.{separator_step, another_step, ended_step, closes_by}
use Rattle.algorithm_reader.proofs.Between.{ahead_length}
use Rattle.algorithm_reader.proofs.InLists.{in_list-all}

-- a mark is a token, and what is left behind it begins further on
pub mark_is_passed : (v : Tokens) (i j : ℕ) (m : Mark) → i ≤ length v.items.items → j ≤ length v.items.items → is_mark m (first (ahead v i)).kind ≡ true → ahead v j ≡ tail (ahead v i) → i < j
mark_is_passed v i j m h g e r = by (ahead v i) refl
  where
    by : (ts : List Token) → ahead v i ≡ ts → i < j
    by [] d = (let no : false ≡ true = sym (ap (λ (l : List Token). is_mark m (first l).kind) d) ∙ e in absurd cc)
    by (t ∷ ts) d = omega (arith, ahead_length v i h, ahead_length v j g, ap length d, ap length (r ∙ ap tail d))

module _ (m : Parts) (n : ℕ) (b : Before) (ls : Labels) (a : p.Statement) (st : Stack) (ts : List Token) where
  pub separator_there : is_mark tk.semicolon (first ts).kind ≡ true → separator_step m n b ls a st ts ≡ Ok (on (ended b ls a (Some (first ts).place) st), tail ts)
  separator_there e = ap (λ (k : TokenView). another_by m n b ls a None st (first ts).place k ts) (mark_is tk.semicolon (first ts).kind e)

  other_there : (q : Place) (k : TokenView) → is_mark tk.semicolon k ≡ false → another_by m n b ls a None st q k ts ≡ Err (rule.Syntax, ts)
  other_there q (tk.mark tk.semicolon) e = (let no : true ≡ false = e in absurd cc)
  other_there q k e = refl

  pub no_separator_there : is_mark tk.semicolon (first ts).kind ≡ false → separator_step m n b ls a st ts ≡ Err (rule.Syntax, ts)
  no_separator_there e = other_there (first ts).place (first ts).kind e

-- ---- the list so far, as a whole
with_before_tree : (b : Before) (c : p.Sequence) → p.statements (with_before b c) ≡ before_tree b (p.statements c)
with_before_tree none c = refl
with_before_tree (after b ls a q) c = with_before_tree b (p.more_statements ls a q c)

pub whole_stands : (ts : List Tree) (s : State) (b : Before) (ls : Labels) (a : p.Statement) (o : Option Place) → ListStands ts s.list.items (past_one b ls a) → StandsFor list_at past_list p.statements ts s.list (with_before b (p.last_statement ls a o))
whole_stands ts s b ls a o h = record { below = h.below; tree = in_list-all ts s.list.items ∙ h.tree tree.done ∙ sym (with_before_tree b (p.last_statement ls a o)) }

-- ---- by where reading stands
pub separated_is : (q : Point) (o : Option Place) → q ≡ point.Separated → q ≡ point_of o → (P : Option Place → Type 0) → ((r : Place) → P (Some r)) → P o
separated_is q (Some r) e h P f = f r
separated_is q None e h P f = (let no : point.Separated ≡ point.Ended = sym e ∙ h in absurd cc)

pub separated_not : (q : Point) (o : Option Place) → (q ≡ point.Separated → ⊥) → q ≡ point_of o → (P : Option Place → Type 0) → P None → P o
separated_not q (Some r) e h P f = absurd (e h)
separated_not q None e h P f = f

-- ---- by the next word
module _ (m : Parts) (n : ℕ) (b : Before) (ls : Labels) (a : p.Statement) (o : Option Place) (st : Stack) where
  abbrev so : p.Sequence
  so = with_before b (p.last_statement ls a o)

  at_word : (w : Word) (q : Place) (k : TokenView) (ts : List Token) → is_reserved w k ≡ true → ((d : Reader Turn) → pick w (closing_words m so q st) d ≡ pick w (closing_words m so q st) refuses) → ended_by m n b ls a o st q k ts ≡ pick w (closing_words m so q st) refuses ts
  at_word w q (tk.reserved x) ts e same = subst (λ (z : Word). ended_by m n b ls a o st q (tk.reserved z) ts ≡ pick w (closing_words m so q st) refuses ts) (same_bytes w x e) (ap (λ (r : Reader Turn). r ts) (same (another_by m n b ls a o st q (tk.reserved w))))
  at_word w q k ts e same = (let no : false ≡ true = e in absurd cc)

  pub by_closing : (w : Word) (ts : List Token) → ((q : Place) (d : Reader Turn) → pick w (closing_words m so q st) d ≡ pick w (closing_words m so q st) refuses) → is_reserved w (first ts).kind ≡ true → ended_step m n b ls a o st ts ≡ closes_by w m so st ts
  by_closing w ts same e = at_word w (first ts).place (first ts).kind ts e (same (first ts).place)

  skipped : {A : Type 0} (c : Bool) (x y : A) → c ≡ false → (if c then x else y) ≡ y
  skipped true x y e = (let no : true ≡ false = e in absurd cc)
  skipped false x y e = refl

  at_other : (q : Place) (k : TokenView) (ts : List Token) → is_reserved (codes "else") k ≡ false → is_reserved (codes "elsif") k ≡ false → is_reserved (codes "or") k ≡ false → is_reserved (codes "end") k ≡ false → ended_by m n b ls a o st q k ts ≡ another_by m n b ls a o st q k ts
  at_other q (tk.reserved x) ts e f g h = ap (λ (r : Reader Turn). r ts) (skipped (bytes_eq (codes "else") x) _ _ e ∙ skipped (bytes_eq (codes "elsif") x) _ _ f ∙ skipped (bytes_eq (codes "or") x) _ _ g ∙ skipped (bytes_eq (codes "end") x) _ _ h)
  at_other q k ts e f g h = refl

  pub by_another : (ts : List Token) → is_reserved (codes "else") (first ts).kind ≡ false → is_reserved (codes "elsif") (first ts).kind ≡ false → is_reserved (codes "or") (first ts).kind ≡ false → is_reserved (codes "end") (first ts).kind ≡ false
      → ended_step m n b ls a o st ts ≡ another_step m n b ls a o st ts
  by_another ts e f g h = at_other (first ts).place (first ts).kind ts e f g h

-- ---- by the state
pub begins_is : (ts : List Tree) (s : State) (r : reader.State) → s.point ≡ point.Begins → StateStands ts s r → (P : reader.State → Type 0) → ((b : Before) (ls : Labels) (st : Stack) → Stands ts s (so_far b ls) st → P (reader.begin b ls st)) → P r
begins_is ts s (reader.begin b ls st) e h P f = f b ls st h.1
begins_is ts s (reader.ended b ls a None st) e h P f = (let no : point.Begins ≡ point.Ended = sym e ∙ h.0 in absurd cc)
begins_is ts s (reader.ended b ls a (Some q) st) e h P f = (let no : point.Begins ≡ point.Separated = sym e ∙ h.0 in absurd cc)

pub begins_not : (ts : List Tree) (s : State) (r : reader.State) → (s.point ≡ point.Begins → ⊥) → StateStands ts s r → (P : reader.State → Type 0)
    → ((b : Before) (ls : Labels) (a : p.Statement) (o : Option Place) (st : Stack) → s.point ≡ point_of o → Stands ts s (past_one b ls a) st → P (reader.ended b ls a o st)) → P r
begins_not ts s (reader.begin b ls st) e h P f = absurd (e h.0)
begins_not ts s (reader.ended b ls a o st) e h P f = f b ls a o st h.0 h.1
