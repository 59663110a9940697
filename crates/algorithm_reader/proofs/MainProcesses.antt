-- The processes of a whole algorithm are a list of processes that isn't empty.
use Rattle.std.proofs.Common.{◌≡◌, ◌≢◌, ℕ, suc, nat_eq, Bool, true, false, List, [], ◌∷◌, length, map, Vec, Global, Ok, Err, if◌then◌else◌, codes, refl, sym, ap, subst, ◌∙◌, arith}
use Rattle.std.proofs.lemmas.Bool.{eqb-true}
use Rattle.std.specs.Str.{bytes_eq}
use Rattle.tla_token.specs.declared.place.Place.{Place}
use Rattle.tla_token.specs.declared.token.Tokens.{Tokens}
use Rattle.tla_token.specs.declared.rule.Rule.TheVariants.{Syntax}
use Rattle.tla_tree.specs.Tree.{Tree}
use Rattle.tla_tree.specs.Lexical.{TokenView, Token}
use Rattle.tla_tree.specs.Lexical as tk
use Rattle.tla_tree.specs.Reader.{Out, Reader, ◌>>=◌, then_read, gives, refuses, skip, tail}
use Rattle.expr_nodes.specs.declared.cursor.Halt.{Halt}
use Rattle.expr_nodes.specs.declared.cursor.Halt.TheVariants as halt
use Rattle.expr_nodes.specs.ReadIn.{Reads, Fails}
use Rattle.expr_nodes.specs.Ahead.{ahead}
use Rattle.pcal_tree.specs.declared.algorithm.Process as code_process
use Rattle.pcal_tree.specs.declared.algorithm.Main.TheVariants as code_main
use Rattle.pcal_tree.specs.InMemory.{process_at, main_at, past_main}
use Rattle.pcal_tree.specs.Algorithm as tree
use Rattle.pcal_tree.specs.Grammar.{unfair, Process, process_tree, Main, processes, main_tree}
use Rattle.syntax_reading.specs.TokenReaders.{first, Parts}
use Rattle.syntax_reading.specs.ReadAround.{more_of}
use Rattle.syntax_reading.specs.ReadRoutines.{Ways, read_process, processes_by, read_processes}
use Rattle.algorithm_reader.specs.PartsRead.{StandsFor}
use Rattle.algorithm_reader.proofs.Gathered.{fails_then}
use Rattle.syntax_reading.proofs.OneAfter.{more_then}
use Rattle.algorithm_reader.specs.RoutinesRead.{processes_at, past_processes, main_processes_by, read_main_processes}
use Rattle.algorithm_reader.proofs.ProcessRounds.{fairly_by}

-- a list of processes as the processes of an algorithm; an empty one is refused at these tokens
abbrev main_from : List Token → List Process → Reader Main
main_from ts [] us = Err (Syntax, ts)
main_from ts (x ∷ xs) us = Ok (processes x xs, us)

main_by_word : (m : Parts) (f : Ways) (n : ℕ) (rs : Reader (List Process)) (p : Place) (ts : List Token) (b c : Bool)
    → then_read ((if b then skip (read_process m f n unfair p) else (if c then skip (fairly_by p (read_process m f n)) else refuses)) ts) (λ x. rs >>= λ xs. gives (processes x xs))
    ≡ then_read ((if b then more_of (skip (read_process m f n unfair p)) rs else (if c then more_of (skip (fairly_by p (read_process m f n))) rs else gives [])) ts) (main_from ts)
main_by_word m f n rs p ts true c = sym (more_then (read_process m f n unfair p (tail ts)) rs (main_from ts))
main_by_word m f n rs p ts false true = sym (more_then (fairly_by p (read_process m f n) (tail ts)) rs (main_from ts))
main_by_word m f n rs p ts false false = refl

main_by : (m : Parts) (f : Ways) (n : ℕ) (p : Place) (k : TokenView) (ts : List Token) → main_processes_by m f n p k ts ≡ then_read (processes_by m f n (read_processes m f n) p k ts) (main_from ts)
main_by m f n p (tk.reserved w) ts = main_by_word m f n (read_processes m f n) p ts (bytes_eq (codes "process") w) (bytes_eq (codes "fair") w)
main_by m f n p k ts = refl

by_list : (m : Parts) (f : Ways) (n : ℕ) (ts : List Token) → read_main_processes m f n ts ≡ then_read (read_processes m f (suc n) ts) (main_from ts)
by_list m f n ts = main_by m f n (first ts).place (first ts).kind ts

pub list_fails : (m : Parts) (f : Ways) (n : ℕ) (ts : List Token) (e : Halt) → Fails e (read_processes m f (suc n) ts) → Fails e (read_main_processes m f n ts)
list_fails m f n ts e h = subst (Fails e) (sym (by_list m f n ts)) (fails_then e _ _ h)

-- none where there are none
none_listed : {A B T : Type 0} (g : A → T) (h : B → T) (xs : List A) (ys : List B) → xs ≡ [] → map g xs ≡ map h ys → ys ≡ []
none_listed g h [] [] n e = refl
none_listed g h [] (y ∷ ys) n e = (let no : [] ≡ h y ∷ map h ys = e in absurd cc)
none_listed g h (x ∷ xs) ys n e = absurd cc

record More {A : Type 0} (xs : List A) : Type 0 where
  first : A
  rest : List A
  is : xs ≡ first ∷ rest

some_listed : {A B T : Type 0} (g : A → T) (h : B → T) (xs : List A) (ys : List B) → length xs ≢ 0 → map g xs ≡ map h ys → More ys
some_listed g h [] ys n e = absurd (n refl)
some_listed g h (x ∷ xs) [] n e = (let no : g x ∷ map g xs ≡ [] = e in absurd cc)
some_listed g h (x ∷ xs) (y ∷ ys) n e = record { first = y; rest = ys; is = refl }

module _ (m : Parts) (f : Ways) (n : ℕ) (v : Tokens) (i j : ℕ) (ts : List Tree) (ps : Vec code_process.Process Global) (all : Reads (StandsFor processes_at past_processes (map process_tree) ts ps) (ahead v j) (read_processes m f (suc n) (ahead v i))) where
  so_far : read_main_processes m f n (ahead v i) ≡ main_from (ahead v i) all.what (ahead v j)
  so_far = by_list m f n (ahead v i) ∙ ap (λ (o : Out (List Process)). then_read o (main_from (ahead v i))) all.is

  pub main_read : length ps.items ≢ 0 → Reads (StandsFor main_at past_main main_tree ts (code_main.Processes ps)) (ahead v j) (read_main_processes m f n (ahead v i))
  main_read h =
      let some = some_listed (process_at ts) process_tree ps.items all.what h all.told.tree in
      record {
        what = processes some.first some.rest;
        is = so_far ∙ ap (λ (l : List Process). main_from (ahead v i) l (ahead v j)) some.is;
        told = record { below = all.told.below; tree = ap tree.processes (all.told.tree ∙ ap (map process_tree) some.is) };
      }

  pub no_processes : ps.items ≡ [] → Fails (halt.Refused Syntax (length (ahead v i))) (read_main_processes m f n (ahead v i))
  no_processes h = subst (Fails (halt.Refused Syntax (length (ahead v i)))) (sym (so_far ∙ ap (λ (l : List Process). main_from (ahead v i) l (ahead v j)) (none_listed (process_at ts) process_tree ps.items all.what h all.told.tree))) (refl, refl)

-- what a length says of a list
pub there_are : {A : Type 0} (l : List A) (n : ℕ) (b : Bool) → n ≡ length l → (b ≡ nat_eq n 0) → b ≡ false → length l ≢ 0
there_are l n b h e f z = (let no : true ≡ false = ap (λ (k : ℕ). nat_eq k 0) (sym (h ∙ z)) ∙ sym e ∙ f in absurd cc)

pub there_are_none : {A : Type 0} (l : List A) (n : ℕ) (b : Bool) → n ≡ length l → (b ≡ nat_eq n 0) → b ≡ true → l ≡ []
there_are_none [] n b h e f = refl
there_are_none (x ∷ xs) n b h e f = absurd (omega (arith, h, eqb-true n 0 (sym e ∙ f)))
