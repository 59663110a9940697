-- Reading one process, and a round of reading processes.
use Rattle.std.proofs.Common.{◌≡◌, ℕ, suc, Bool, true, false, List, [], ◌∷◌, map, Option, Some, None, Ok, if◌then◌else◌, codes, refl, sym, ap, subst, ◌∙◌, arith}
use Rattle.std.specs.Str.{bytes_eq}
use Rattle.tla_token.specs.declared.place.Place.{Place}
use Rattle.tla_token.specs.Places.{nowhere}
use Rattle.tla_token.specs.declared.token.Tokens.{Tokens}
use Rattle.tla_tree.specs.Tree.{Tree, Name}
use Rattle.tla_tree.specs.Pool.{Keeps, at}
use Rattle.tla_tree.specs.Lexical.{TokenView, Token}
use Rattle.tla_tree.specs.Lexical as tk
use Rattle.tla_tree.specs.Reader.{Out, Reader, ◌>>=◌, then_read, gives, skip, tail}
use Rattle.expr_nodes.specs.declared.cursor.Halt.{Halt}
use Rattle.expr_nodes.specs.ReadIn.{Reads, Fails}
use Rattle.expr_nodes.specs.Ahead.{ahead}
use Rattle.pcal_tree.specs.declared.mark.Fairness.{Fairness}
use Rattle.pcal_tree.specs.declared.mark.Fairness.TheVariants as fairness
use Rattle.pcal_tree.specs.declared.algorithm.Process as code_process
use Rattle.pcal_tree.specs.InMemory.{process_at, past_process}
use Rattle.pcal_tree.proofs.InMemoryGrown.{declarations_at-kept}
use Rattle.pcal_tree.specs.Algorithm as tree
use Rattle.pcal_tree.specs.GrammarParts.{Section, declared}
use Rattle.pcal_tree.specs.Grammar.{Body, body_tree, Fair, unfair, weak, strong, fairness_of, Identity, Process, process_tree}
use Rattle.syntax_reading.specs.TokenReaders.{first, by_next, a_key, Parts}
use Rattle.syntax_reading.specs.ReadParts.{read_section}
use Rattle.syntax_reading.specs.ReadAround.{fair_by, more_of}
use Rattle.syntax_reading.specs.ReadRoutines.{Ways, read_process, processes_by, read_processes}
use Rattle.algorithm_reader.specs.PartsRead.{StandsFor, all_declared_at, past_all_declared}
use Rattle.algorithm_reader.proofs.Gathered.{fails_then, GoesOn}
use Rattle.syntax_reading.proofs.OneAfter.{then_assoc, then_same}
use Rattle.algorithm_reader.specs.RoutinesRead.{body_at, past_body, identity_at, past_identity, identity_tree, beginning_by, read_beginning, beginning_fairness}
use Rattle.algorithm_reader.proofs.NoMore.{NoneAt, more_read}

-- ---- one process, behind its word
abbrev made : Fair → Place → Identity → Section → Body → Process
made a p i vs b = record { fair = a; place = p; identity = i; variables = vs; body = b }

module _ (m : Parts) (f : Ways) (n : ℕ) (a : Fair) (p : Place) (v : Tokens) (i : ℕ) where
  abbrev variables_then : Identity → Section → Reader Process
  variables_then x vs = f.body n (codes "process") >>= λ b. gives (made a p x vs b)

  abbrev identity_then : Identity → Reader Process
  identity_then x = read_section true m n >>= variables_then x

  pub no_identity : (e : Halt) → Fails e (f.identity (ahead v i)) → Fails e (read_process m f n a p (ahead v i))
  no_identity e h = fails_then e (f.identity (ahead v i)) identity_then h

  module _ {P : Identity → Type 0} (j : ℕ) (x : Reads P (ahead v j) (f.identity (ahead v i))) where
    past_its_identity : read_process m f n a p (ahead v i) ≡ then_read (read_section true m n (ahead v j)) (variables_then x.what)
    past_its_identity = ap (λ (o : Out Identity). then_read o identity_then) x.is

    pub no_process_variables : (e : Halt) → Fails e (read_section true m n (ahead v j)) → Fails e (read_process m f n a p (ahead v i))
    no_process_variables e h = subst (Fails e) (sym past_its_identity) (fails_then e _ _ h)

    module _ {Q : Section → Type 0} (k : ℕ) (vs : Reads Q (ahead v k) (read_section true m n (ahead v j))) where
      past_its_variables : read_process m f n a p (ahead v i) ≡ then_read (f.body n (codes "process") (ahead v k)) (λ b. gives (made a p x.what vs.what b))
      past_its_variables = past_its_identity ∙ ap (λ (o : Out Section). then_read o (variables_then x.what)) vs.is

      pub no_process_body : (e : Halt) → Fails e (f.body n (codes "process") (ahead v k)) → Fails e (read_process m f n a p (ahead v i))
      no_process_body e h = subst (Fails e) (sym past_its_variables) (fails_then e _ _ h)

      pub process_is : (l : ℕ) (b : Body) → f.body n (codes "process") (ahead v k) ≡ Ok (b, ahead v l) → read_process m f n a p (ahead v i) ≡ Ok (made a p x.what vs.what b, ahead v l)
      process_is l b h = past_its_variables ∙ ap (λ (o : Out Body). then_read o (λ b. gives (made a p x.what vs.what b))) h

-- the pool grows from part to part
pub process_read : (m : Parts) (f : Ways) (n : ℕ) (a : Fair) (p : Place) (v : Tokens) (i j k l : ℕ) (rs ss ts : List Tree) (x : code_process.Process) → x.fairness ≡ fairness_of a → Keeps rs ss → Keeps ss ts
    → Reads (StandsFor identity_at past_identity identity_tree rs (x.name, x.several, x.identity)) (ahead v j) (f.identity (ahead v i)) → Reads (StandsFor all_declared_at past_all_declared declared ss x.variables) (ahead v k) (read_section true m n (ahead v j))
    → Reads (StandsFor body_at past_body body_tree ts x.body) (ahead v l) (f.body n (codes "process") (ahead v k)) → Reads (StandsFor process_at past_process process_tree ts x) (ahead v l) (read_process m f n a p (ahead v i))
process_read m f n a p v i j k l rs ss ts x fairly g h who vs b =
    let inner = who.told.below in
    let same : at ts x.identity ≡ at rs x.identity = h.same x.identity (omega (arith, inner, g.longer)) ∙ g.same x.identity (omega (arith, inner)) in
    let variables = declarations_at-kept ss ts h x.variables.items vs.told.below ∙ vs.told.tree in
    record {
      what = made a p who.what vs.what b.what;
      is = process_is m f n a p v i j who k vs l b.what b.is;
      told = record {
        below = omega (arith, inner, vs.told.below, b.told.below, g.longer, h.longer);
        tree = λ z. record {
          name = (who.told.tree z).0;
          fairness = fairly z;
          several = (who.told.tree z).1;
          identity = (same ∙ ap (λ (y : Name × Bool × Tree). y.2) who.told.tree) z;
          variables = variables z;
          body = b.told.tree z;
        };
      };
    }

-- ---- the words before processes
abbrev started : Parts → Ways → ℕ → Reader (List Process) → Option (Fair × Place) → Reader (List Process)
started m f n r None = gives []
started m f n r (Some x) = more_of (read_process m f n x.0 x.1) r

-- behind `fair`, where these are the tokens
abbrev pub fairly_by : {A : Type 0} → Place → (Fair → Place → Reader A) → Reader A
fairly_by p g = by_next (fair_by p) >>= λ a. a_key (codes "process") >>= λ q. g a q

fair_ones : (m : Parts) (f : Ways) (n : ℕ) (r : Reader (List Process)) (p : Place) (ts : List Token) → more_of (fairly_by p (read_process m f n)) r ts ≡ then_read (fairly_by p (λ a q. gives (Some (a, q))) ts) (started m f n r)
fair_ones m f n r p ts =
    let o = by_next (fair_by p) ts in
    let others : Process → Reader (List Process) = λ x. r >>= λ xs. gives (x ∷ xs) in
    then_assoc o (λ a. a_key (codes "process") >>= λ q. read_process m f n a q) others
    ∙ then_same o _ _ (λ a us. then_assoc (a_key (codes "process") us) (λ q. read_process m f n a q) others ∙ sym (then_assoc (a_key (codes "process") us) (λ q. gives (Some (a, q))) (started m f n r)))
    ∙ sym (then_assoc o (λ a. a_key (codes "process") >>= λ q. gives (Some (a, q))) (started m f n r))

ones_by_word : (m : Parts) (f : Ways) (n : ℕ) (r : Reader (List Process)) (p : Place) (ts : List Token) (b c : Bool)
    → (if b then more_of (skip (read_process m f n unfair p)) r else (if c then more_of (skip (fairly_by p (read_process m f n))) r else gives [])) ts
    ≡ then_read ((if b then skip (gives (Some (unfair, p))) else (if c then skip (fairly_by p (λ a q. gives (Some (a, q)))) else gives None)) ts) (started m f n r)
ones_by_word m f n r p ts true c = refl
ones_by_word m f n r p ts false true = fair_ones m f n r p (tail ts)
ones_by_word m f n r p ts false false = refl

ones_by : (m : Parts) (f : Ways) (n : ℕ) (r : Reader (List Process)) (p : Place) (k : TokenView) (ts : List Token) → processes_by m f n r p k ts ≡ then_read (beginning_by p k ts) (started m f n r)
ones_by m f n r p (tk.reserved w) ts = ones_by_word m f n r p ts (bytes_eq (codes "process") w) (bytes_eq (codes "fair") w)
ones_by m f n r p k ts = refl

pub by_beginning : (m : Parts) (f : Ways) (n : ℕ) (ts : List Token) → read_processes m f (suc n) ts ≡ then_read (read_beginning ts) (started m f n (read_processes m f n))
by_beginning m f n ts = ones_by m f n (read_processes m f n) (first ts).place (first ts).kind ts

-- ---- a round of reading processes
-- one spelling of each fairness
abbrev pub fair_spelling : Fairness → Fair
fair_spelling fairness.Unfair = unfair
fair_spelling fairness.Weak = weak nowhere
fair_spelling fairness.Strong = strong nowhere nowhere

pub spelled_so : (c : Fairness) → c ≡ fairness_of (fair_spelling c)
spelled_so fairness.Unfair = refl
spelled_so fairness.Weak = refl
spelled_so fairness.Strong = refl

-- how fair a process is that begins, as it is spelled
pub record Begins (c : Fairness) (o : Option (Fair × Place)) : Type 0 where
  pub fair : Fair
  pub place : Place
  pub is : o ≡ Some (fair, place)
  pub told : c ≡ fairness_of fair

pub one_begins : (c : Fairness) (o : Option (Fair × Place)) → Some c ≡ beginning_fairness o → Begins c o
one_begins c None h = absurd cc
one_begins c (Some x) h = record { fair = x.0; place = x.1; is = refl; told = (let e : Some c ≡ Some (fairness_of x.0) = h in cc) }

none_begins : (o : Option (Fair × Place)) → None ≡ beginning_fairness o → o ≡ None
none_begins None h = refl
none_begins (Some x) h = (let e : None ≡ Some (fairness_of x.0) = h in absurd cc)

module _ (m : Parts) (f : Ways) (v : Tokens) (i e : ℕ) (c : Fairness) (b : Reads (λ o. Some c ≡ beginning_fairness o) (ahead v e) (read_beginning (ahead v i))) where
  begun : Begins c b.what
  begun = one_begins c b.what b.told

  one_process : (n : ℕ) → read_processes m f (suc n) (ahead v i) ≡ more_of (read_process m f n begun.fair begun.place) (read_processes m f n) (ahead v e)
  one_process n =
      by_beginning m f n (ahead v i) ∙ ap (λ (o : Out (Option (Fair × Place))). then_read o (started m f n (read_processes m f n))) b.is
      ∙ ap (λ (o : Option (Fair × Place)). started m f n (read_processes m f n) o (ahead v e)) begun.is

  pub processes_go_on : (j : ℕ) (d : tree.Process) (n : ℕ) → ((a : Fair) (q : Place) → c ≡ fairness_of a → Reads (λ x. d ≡ process_tree x) (ahead v j) (read_process m f n a q (ahead v e))) → GoesOn (read_processes m f) (map process_tree) v i j d n
  processes_go_on j d n h =
      let one = h begun.fair begun.place begun.told in
      record {
        cons = λ xs. one.what ∷ xs;
        round = one_process n ∙ more_read (read_process m f n begun.fair begun.place) (read_processes m f n) (ahead v e) (ahead v j) one.what one.is;
        each = λ a. ap (λ (c : tree.Process). c ∷ map process_tree a) (sym one.told);
      }

  pub one_process_fails : (h : Halt) (n : ℕ) → ((a : Fair) (q : Place) → c ≡ fairness_of a → Fails h (read_process m f n a q (ahead v e))) → Fails h (read_processes m f (suc n) (ahead v i))
  one_process_fails h n g = subst (Fails h) (sym (one_process n)) (fails_then h _ _ (g begun.fair begun.place begun.told))

pub processes_end : (m : Parts) (f : Ways) (v : Tokens) (i j n : ℕ) → Reads (λ o. None ≡ beginning_fairness o) (ahead v j) (read_beginning (ahead v i)) → NoneAt (read_processes m f) (map process_tree) v i j n
processes_end m f v i j n b = record {
  last = [];
  round =
      by_beginning m f n (ahead v i) ∙ ap (λ (o : Out (Option (Fair × Place))). then_read o (started m f n (read_processes m f n))) b.is
      ∙ ap (λ (o : Option (Fair × Place)). started m f n (read_processes m f n) o (ahead v j)) (none_begins b.what b.told);
  none = refl;
}

pub beginning_fails : (m : Parts) (f : Ways) (h : Halt) (n : ℕ) (ts : List Token) → Fails h (read_beginning ts) → Fails h (read_processes m f (suc n) ts)
beginning_fails m f h n ts g = subst (Fails h) (sym (by_beginning m f n ts)) (fails_then h _ _ g)
