-- The main part: a list of statements where `begin` comes, and else processes.
use Rattle.std.proofs.Common.{◌≡◌, ℕ, Bool, true, false, List, if◌then◌else◌, refl, sym, ap, ◌∙◌, codes}
use Rattle.tla_token.specs.declared.place.Place.{Place}
use Rattle.tla_token.specs.declared.token.Tokens.{Tokens}
use Rattle.tla_tree.specs.Lexical.{TokenView, Token}
use Rattle.tla_tree.specs.Lexical as tk
use Rattle.tla_tree.specs.Reader.{◌>>=◌, then_read, gives, skip, tail}
use Rattle.expr_nodes.specs.Ahead.{ahead}
use Rattle.pcal_tree.specs.Grammar.{begin}
use Rattle.syntax_reading.specs.TokenReaders.{first, is_reserved, Parts}
use Rattle.syntax_reading.specs.ReadRoutines.{main_processes}
use Rattle.algorithm_reader.specs.RoutinesRead.{main_processes_by, read_main_processes}
use Rattle.p_reading.specs.ReadStatements.{read_sequence}
use Rattle.p_reading.specs.ReadAlgorithm.{ways, main_by, read_main}

module _ (m : Parts) (n : ℕ) where
  begin_comes : (p : Place) (k : TokenView) (ts : List Token) → is_reserved (codes "begin") k ≡ true → main_by m n p k ts ≡ then_read (read_sequence m n (tail ts)) (λ ss. gives (begin p ss))
  begin_comes p (tk.reserved w) ts h = ap (λ (b : Bool). (if b then skip (read_sequence m n >>= λ ss. gives (begin p ss)) else main_processes m (ways m) n p w) ts) h
  begin_comes p k ts h = (let no : false ≡ true = h in absurd cc)

  no_begin_comes : (p : Place) (k : TokenView) (ts : List Token) → is_reserved (codes "begin") k ≡ false → main_by m n p k ts ≡ main_processes_by m (ways m) n p k ts
  no_begin_comes p (tk.reserved w) ts h = ap (λ (b : Bool). (if b then skip (read_sequence m n >>= λ ss. gives (begin p ss)) else main_processes m (ways m) n p w) ts) h
  no_begin_comes p k ts h = refl

  pub main_is_list : (v : Tokens) (i e : ℕ) → is_reserved (codes "begin") (first (ahead v i)).kind ≡ true → ahead v e ≡ tail (ahead v i) → then_read (read_sequence m n (ahead v e)) (λ ss. gives (begin (first (ahead v i)).place ss)) ≡ read_main m n (ahead v i)
  main_is_list v i e h r =
      ap (λ (ts : List Token). then_read (read_sequence m n ts) (λ ss. gives (begin (first (ahead v i)).place ss))) r ∙ sym (begin_comes (first (ahead v i)).place (first (ahead v i)).kind (ahead v i) h)

  pub main_is_processes : (ts : List Token) → is_reserved (codes "begin") (first ts).kind ≡ false → read_main_processes m (ways m) n ts ≡ read_main m n ts
  main_is_processes ts h = sym (no_begin_comes (first ts).place (first ts).kind ts h)
