-- Words that ask for a module of some steps ask for few.
use Rattle.std.specs.Prelude.{nat_le, ◌&&◌, if◌then◌else◌, option_and_then, codes, bytes_eq, String}
use Rattle.std.proofs.Common.{◌≡◌, ℕ, ◌≤◌, Bool, true, false, List, Option, Some, None, refl, sym, subst}
use Rattle.std.proofs.lemmas.Bool.{and_parts, leb-true}
use Rattle.std.proofs.lemmas.Option.{same_Some}
use Rattle.std.specs.declared.alloc.Global.{Global}
use Rattle.clap.specs.Walk.{Row, is_empty}
use Rattle.clap.specs.Simple.{Shape, subcommand_of}
use Rattle.clap.specs.Faults.{fault_of}
use Rattle.tla_tree.specs.Tree.{Word}
use Rattle.pcal_tree.specs.Grammar.{Syntax}
use Rattle.command_words.specs.Commands.{Command, translates, checks, rewrites, maps, runs, traces, makes, Options, ◌>>=◌, given, is_set, options_in, syntax_in, between, number_in, of_file, of_three, translation_in, rewriting_in, making_in, meaning_in, meaning}
use Rattle.command_words.specs.Table.{table, commands}
use Rattle.pcal_cli.specs.Words.{words_of}
use Rattle.pcal_cli.specs.Tasks.{as_job, IsSmallJob}
use Rattle.pcal_cli.specs.declared.job.Job.{Job}
use Rattle.pcal_cli.specs.declared.job.Job.TheVariants as job
use Rattle.pcal_cli.specs.declared.task.Task.TheVariants as task

-- of a command that makes a module: it has few steps
abbrev pub Fits : Option Command → Type 0
Fits (Some (makes seed count)) = count ≤ 2000
Fits o = Unit {0}

if_fits : (b : Bool) (o p : Option Command) → Fits o → Fits p → Fits (if b then o else p)
if_fits true o p h k = h
if_fits false o p h k = k

file_by : (f : Word → Bool → Command) → ((w : Word) (b : Bool) → Fits (Some (f w b))) → (o : Option Word) (p : Option Bool) → Fits (o >>= (λ w. p >>= (λ b. Some (f w b))))
file_by f h None p = tt
file_by f h (Some w) None = tt
file_by f h (Some w) (Some b) = h w b

file_fits : (f : Word → Bool → Command) → ((w : Word) (b : Bool) → Fits (Some (f w b))) → (rows : List Row) → Fits (of_file f rows)
file_fits f h rows = file_by f h (given rows (codes "FILE")) (is_set rows (codes "label"))

three_by : (f : Word → Word → Word → Options → Command) → ((u v w : Word) (p : Options) → Fits (Some (f u v w p))) → (a b c : Option Word) (o : Option Options)
    → Fits (a >>= (λ u. b >>= (λ v. c >>= (λ w. o >>= (λ p. Some (f u v w p))))))
three_by f h None b c o = tt
three_by f h (Some u) None c o = tt
three_by f h (Some u) (Some v) None o = tt
three_by f h (Some u) (Some v) (Some w) None = tt
three_by f h (Some u) (Some v) (Some w) (Some p) = h u v w p

three_fits : (f : Word → Word → Word → Options → Command) (id : Word) → ((u v w : Word) (p : Options) → Fits (Some (f u v w p))) → (rows : List Row) → Fits (of_three f id rows)
three_fits f id h rows = three_by f h (given rows (codes "FILE")) (given rows (codes "CONFIG")) (given rows id) (options_in rows)

translation_by : (o : Option Word) (p : Option Options) → Fits (o >>= (λ w. p >>= (λ q. Some (translates w q))))
translation_by None p = tt
translation_by (Some w) None = tt
translation_by (Some w) (Some q) = tt

translation_fits : (rows : List Row) → Fits (translation_in rows)
translation_fits rows = translation_by (given rows (codes "FILE")) (options_in rows)

syntax_by : (w : Word) (o : Option Syntax) → Fits (o >>= (λ s. Some (rewrites w s)))
syntax_by w None = tt
syntax_by w (Some s) = tt

rewriting_by : (o p : Option Word) → Fits (o >>= (λ w. p >>= (λ t. syntax_in t >>= (λ s. Some (rewrites w s)))))
rewriting_by None p = tt
rewriting_by (Some w) None = tt
rewriting_by (Some w) (Some t) = syntax_by w (syntax_in t)

rewriting_fits : (rows : List Row) → Fits (rewriting_in rows)
rewriting_fits rows = rewriting_by (given rows (codes "FILE")) (given rows (codes "to"))

between_few : (low high : ℕ) (w : Word) (n : ℕ) → between low high w ≡ Some n → n ≤ high
between_few low high w n e = by (number_in w) e
  where
    one : (m : ℕ) (b : Bool) → (nat_le low m && nat_le m high) ≡ b → (if b then Some m else None) ≡ Some n → n ≤ high
    one m true t e = subst (λ k. k ≤ high) (same_Some m n e) (leb-true m high (and_parts (nat_le low m) (nat_le m high) t).1)
    one m false t e = absurd cc

    by : (o : Option ℕ) → option_and_then (λ m. if nat_le low m && nat_le m high then Some m else None) o ≡ Some n → n ≤ high
    by None e = absurd cc
    by (Some m) e = one m (nat_le low m && nat_le m high) refl e

numbers_by : (t : Word) (o p : Option ℕ) → between 1 2000 t ≡ p → Fits (o >>= (λ n. p >>= (λ k. Some (makes n k))))
numbers_by t None p e = tt
numbers_by t (Some n) None e = tt
numbers_by t (Some n) (Some k) e = between_few 1 2000 t k e

making_by : (o p : Option Word) → Fits (o >>= (λ s. p >>= (λ t. between 0 4294967295 s >>= (λ n. between 1 2000 t >>= (λ k. Some (makes n k))))))
making_by None p = tt
making_by (Some s) None = tt
making_by (Some s) (Some t) = numbers_by t (between 0 4294967295 s) (between 1 2000 t) refl

making_fits : (rows : List Row) → Fits (making_in rows)
making_fits rows = making_by (given rows (codes "SEED")) (given rows (codes "COUNT"))

named_fits : (p : Word × List Row) → Fits (meaning_in p)
named_fits p =
    if_fits (bytes_eq p.0 (codes "translate")) _ _ (translation_fits p.1)
    (if_fits (bytes_eq p.0 (codes "check")) _ _ (file_fits checks (λ w b. tt) p.1)
    (if_fits (bytes_eq p.0 (codes "rewrite")) _ _ (rewriting_fits p.1)
    (if_fits (bytes_eq p.0 (codes "map")) _ _ (file_fits maps (λ w b. tt) p.1)
    (if_fits (bytes_eq p.0 (codes "run")) _ _ (three_fits runs (codes "SCRIPT") (λ u v w o. tt) p.1)
    (if_fits (bytes_eq p.0 (codes "trace")) _ _ (three_fits traces (codes "TRACE") (λ u v w o. tt) p.1)
    (if_fits (bytes_eq p.0 (codes "make")) _ _ (making_fits p.1) tt))))))

some_fits : (o : Option (Word × List Row)) → Fits (option_and_then meaning_in o)
some_fits None = tt
some_fits (Some p) = named_fits p

meaning_fits : (cs : List Shape) (ws : List Word) → Fits (meaning cs ws)
meaning_fits cs ws = if_fits (is_empty (fault_of (table cs) ws)) (option_and_then meaning_in (subcommand_of (table cs) ws)) None (some_fits (subcommand_of (table cs) ws)) tt

-- so it is of the job that stands for the command
job_small : (j : Job) → Fits (Some (as_job j)) → IsSmallJob j
job_small (job.Text (task.Translate f o)) h = tt
job_small (job.Text (task.Check f b)) h = tt
job_small (job.Text (task.Rewrite f s)) h = tt
job_small (job.Text (task.Map f b)) h = tt
job_small (job.Text (task.Make s n)) h = h
job_small (job.Run names options) h = tt
job_small (job.Trace names options) h = tt

-- the words mean what j stands for
pub job_few : (j : Job) (ws : List (String Global)) → Some (as_job j) ≡ meaning commands (words_of ws) → IsSmallJob j
job_few j ws e = job_small j (subst Fits (sym e) (meaning_fits commands (words_of ws)))
