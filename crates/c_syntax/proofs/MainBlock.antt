-- The main part of an algorithm of one process: it is read as a body is.
use Rattle.std.proofs.Common.{◌≡◌, ℕ, true, false, List, Vec, Global, Ok, Err, refl, sym, ap, subst, ◌∙◌}
use Rattle.tla_token.specs.declared.place.Place.{Place}
use Rattle.tla_tree.specs.Tree.{Tree}
use Rattle.tla_tree.specs.Lexical.{TokenView, Token}
use Rattle.tla_tree.specs.Lexical as tk
use Rattle.tla_tree.specs.Reader.{Out, Reader, ◌>>=◌, then_read, gives, took, tail, place_if, is_mark}
use Rattle.tla_tree.proofs.SoundTokens.{mark_is}
use Rattle.expr_nodes.specs.declared.cursor.Halt.{Halt}
use Rattle.expr_nodes.specs.ReadIn.{Reads, Fails}
use Rattle.pcal_tree.specs.declared.algorithm.Stmt.{Stmt}
use Rattle.pcal_tree.specs.declared.algorithm.Main.TheVariants as main
use Rattle.pcal_tree.specs.Algorithm as tree
use Rattle.pcal_tree.specs.InMemory.{main_at, past_main}
use Rattle.pcal_tree.specs.Grammar.{Body, begin_end, braces, body_tree, Main, begin, block, main_tree}
use Rattle.syntax_reading.specs.TokenReaders.{first, a_mark, Parts}
use Rattle.syntax_reading.specs.ReadParts.{read_semicolon}
use Rattle.algorithm_reader.specs.PartsRead.{StandsFor}
use Rattle.algorithm_reader.proofs.Gathered.{fails_then}
use Rattle.algorithm_reader.specs.RoutinesRead.{main_processes_by, read_main_processes}
use Rattle.c_reading.specs.ReadStatements.{read_sequence}
use Rattle.c_reading.specs.ReadAlgorithm.{ways, read_body, main_by, read_main}
use Rattle.c_syntax.specs.StatesRead.{list_at, past_list}

abbrev pub as_main : Body → Main
as_main (begin_end a ss b d s) = begin a ss
as_main (braces a ss b s) = block a ss b s

same_tree : (b : Body) → main_tree (as_main b) ≡ tree.alone (body_tree b)
same_tree (begin_end a ss b d s) = refl
same_tree (braces a ss b s) = refl

-- what is made of three parts, made into another thing
third : {C D E : Type 0} (o : Out C) (h : C → D) (t : D → E) → then_read o (λ c. gives (t (h c))) ≡ then_read (then_read o (λ c. gives (h c))) (λ d. gives (t d))
third (Ok x) h t = refl
third (Err s) h t = refl

second : {B C D E : Type 0} (o : Out B) (g : Reader C) (h : B → C → D) (t : D → E) → then_read o (λ b. g >>= λ c. gives (t (h b c))) ≡ then_read (then_read o (λ b. g >>= λ c. gives (h b c))) (λ d. gives (t d))
second (Ok x) g h t = third (g x.1) (h x.0) t
second (Err s) g h t = refl

all_three : {A B C D E : Type 0} (o : Out A) (f : Reader B) (g : Reader C) (h : A → B → C → D) (t : D → E)
    → then_read o (λ a. f >>= λ b. g >>= λ c. gives (t (h a b c))) ≡ then_read (then_read o (λ a. f >>= λ b. g >>= λ c. gives (h a b c))) (λ d. gives (t d))
all_three (Ok x) f g h t = second (f x.1) g (h x.0) t
all_three (Err s) f g h t = refl

module _ (m : Parts) (n : ℕ) (ts : List Token) where
  by_brace : (p : Place) (k : TokenView) → is_mark tk.open_brace k ≡ true
      → main_by m n p k ts ≡ then_read (then_read (took (place_if (is_mark tk.open_brace) p k) ts) (λ a. read_sequence m n >>= λ ss. a_mark tk.close_brace >>= λ b. read_semicolon >>= λ s. gives (braces a ss b s))) (λ b. gives (as_main b))
  by_brace p k e =
      subst
      (λ (z : TokenView). main_by m n p z ts ≡ then_read (then_read (took (place_if (is_mark tk.open_brace) p z) ts) (λ a. read_sequence m n >>= λ ss. a_mark tk.close_brace >>= λ b. read_semicolon >>= λ s. gives (braces a ss b s))) (λ b. gives (as_main b)))
      (sym (mark_is tk.open_brace k e)) (all_three (read_sequence m n (tail ts)) (a_mark tk.close_brace) read_semicolon (λ ss b s. braces p ss b s) as_main)

  main_is_body : is_mark tk.open_brace (first ts).kind ≡ true → read_main m n ts ≡ then_read (read_body m n ts) (λ b. gives (as_main b))
  main_is_body e = by_brace (first ts).place (first ts).kind e

  pub main_reads : (us : List Token) (ns : List Tree) (list : Vec Stmt Global) → is_mark tk.open_brace (first ts).kind ≡ true → Reads (StandsFor list_at past_list body_tree ns list) us (read_body m n ts)
      → Reads (StandsFor main_at past_main main_tree ns (main.Alone list)) us (read_main m n ts)
  main_reads us ns list e r = record {
    what = as_main r.what;
    is = main_is_body e ∙ ap (λ (o : Out Body). then_read o (λ b. gives (as_main b))) r.is;
    told = record { below = r.told.below; tree = ap tree.alone r.told.tree ∙ sym (same_tree r.what) };
  }

  pub main_fails : (x : Halt) → is_mark tk.open_brace (first ts).kind ≡ true → Fails x (read_body m n ts) → Fails x (read_main m n ts)
  main_fails x e h = subst (Fails x) (sym (main_is_body e)) (fails_then x (read_body m n ts) (λ b. gives (as_main b)) h)

  -- and where no `{` comes, the processes
  by_processes : (p : Place) (k : TokenView) → is_mark tk.open_brace k ≡ false → main_by m n p k ts ≡ main_processes_by m (ways m) n p k ts
  by_processes p (tk.mark tk.open_brace) e = (let no : true ≡ false = e in absurd cc)
  by_processes p k e = refl

  pub main_is_processes : is_mark tk.open_brace (first ts).kind ≡ false → read_main m n ts ≡ read_main_processes m (ways m) n ts
  main_is_processes e = by_processes (first ts).place (first ts).kind e
