-- A round of reading assignments, and lists of them.
use Rattle.std.proofs.Common.{◌≡◌, ℕ, zero, suc, ◌+◌, ◌<◌, ◌≤◌, true, false, List, [], ◌∷◌, length, map, Ok, Err, Vec, Global, refl, sym, ap, ◌∙◌, arith}
use Rattle.tla_token.specs.declared.place.Place.{Place}
use Rattle.tla_token.specs.declared.token.Tokens.{Tokens}
use Rattle.tla_tree.specs.Tree.{Word, Name, Tree}
use Rattle.tla_tree.specs.Pool.{Keeps}
use Rattle.tla_tree.specs.Lexical.{TokenView, Token}
use Rattle.tla_tree.specs.Lexical as tk
use Rattle.tla_tree.specs.Spelling.{Phrase, tree_of}
use Rattle.tla_tree.specs.Spelling as spelled
use Rattle.tla_tree.specs.Reader.{Out, Reader, ◌>>=◌, then_read, gives, refuses, tail, is_mark, a_word}
use Rattle.tla_tree.proofs.SoundTokens.{mark_is}
use Rattle.tla_tree.specs.Nesting.{greatest}
use Rattle.expr_nodes.specs.declared.cursor.Halt.{Halt}
use Rattle.expr_nodes.specs.declared.cursor.Halt.TheVariants as halt
use Rattle.expr_nodes.specs.ReadIn.{Reads, Fails}
use Rattle.expr_nodes.specs.Ahead.{ahead}
use Rattle.pcal_tree.specs.declared.algorithm.Assignment.{Assignment}
use Rattle.pcal_tree.specs.InMemory.{assignments_at, past_assignment}
use Rattle.pcal_tree.specs.Algorithm as tree
use Rattle.pcal_tree.specs.GrammarParts.{Assignments, last_assignment, assignment, assignments_of}
use Rattle.syntax_reading.specs.TokenReaders.{first, by_next, a_mark, Parts}
use Rattle.syntax_reading.specs.ReadSimple.{read_left, read_assignments, assignments_by}
use Rattle.algorithm_reader.specs.PartsRead.{StandsFor}
use Rattle.algorithm_reader.specs.SimpleRead.{left_reader, assignment_reader, assignments_reader, assignment_at, first_assigned, all_assigned_at, past_all_assigned}
use Rattle.algorithm_reader.proofs.Gathered.{put_after, gives_put, fails_then, as_triple, GoesOn, EndsAt, StaysSame}
use Rattle.algorithm_reader.proofs.LeftSides.{then_on}

-- ---- lists
abbrev pub members : Assignments → List (Tree × Tree)
members (last_assignment l p e) = (tree_of l, tree_of e) ∷ []
members (assignment l p e q ms) = (tree_of l, tree_of e) ∷ members ms

abbrev pub assigned_in_row : List (Tree × Tree) → tree.Assignments
assigned_in_row [] = tree.no_assignments
assigned_in_row (x ∷ xs) = tree.assignment x.0 x.1 (assigned_in_row xs)

in_row : (ms : Assignments) → assignments_of ms ≡ assigned_in_row (members ms)
in_row (last_assignment l p e) = refl
in_row (assignment l p e q ms) = ap (tree.assignment (tree_of l) (tree_of e)) (in_row ms)

row_in_memory : (ts : List Tree) (ms : List Assignment) → assignments_at ts ms ≡ assigned_in_row (map (assignment_at ts) ms)
row_in_memory ts [] = refl
row_in_memory ts (m ∷ ms) = λ j. tree.assignment (assignment_at ts m).0 (assignment_at ts m).1 (row_in_memory ts ms j)

pub assignments_told : (ts : List Tree) (ms : Vec Assignment Global) (u : List Token) (o : Out Assignments)
    → Reads (StandsFor (λ ws l. map (assignment_at ws) l) (λ l. greatest (map past_assignment l)) members ts ms.items) u o → Reads (StandsFor all_assigned_at past_all_assigned assignments_of ts ms) u o
assignments_told ts ms u o h = record {
  what = h.what;
  is = h.is;
  told = record { below = h.told.below; tree = row_in_memory ts ms.items ∙ ap assigned_in_row h.told.tree ∙ sym (in_row h.what) };
}

-- ---- a round; the reader has a step more than the assignments from its name on
abbrev pub step_more : Parts → ℕ → Reader Assignments
step_more m zero = refuses
step_more m (suc k) = assignments_reader m k

rest_of : Parts → ℕ → Phrase × (Place × Phrase) → Reader Assignments
rest_of m n z = by_next (assignments_by (read_assignments m n) z.0 z.1.0 z.1.1)

round_at : (m : Parts) (n : ℕ) (ts : List Token) → assignments_reader m (suc n) ts ≡ then_read (assignment_reader m (suc n) ts) (rest_of m n)
unfolding rest_of
round_at m n ts =
    then_on (a_word 0 ts) (λ x. read_left m (suc n) (spelled.name x.0 x.1)) (λ l. a_mark tk.assigns >>= λ p. m.expr >>= λ e. by_next (assignments_by (read_assignments m n) l p e))
    ∙ as_triple (left_reader m (suc n) ts) (λ l. a_mark tk.assigns) (λ l p. m.expr) (λ l p e. by_next (assignments_by (read_assignments m n) l p e))

no_more_by : (r : Name → Reader Assignments) (l : Phrase) (p : Place) (e : Phrase) (q : Place) (k : TokenView) (us : List Token) → is_mark tk.beside k ≡ false → assignments_by r l p e q k us ≡ Ok (last_assignment l p e, us)
no_more_by r l p e q (tk.mark tk.beside) us h = (let no : true ≡ false = h in absurd cc)
no_more_by r l p e q k us h = refl

more_by : (r : Name → Reader Assignments) (l : Phrase) (p : Place) (e : Phrase) (q : Place) (k : TokenView) (us : List Token) → is_mark tk.beside k ≡ true
    → assignments_by r l p e q k us ≡ put_after (assignment l p e q) (then_read (a_word 0 (tail us)) (λ x. r (spelled.named x.0 x.1)))
more_by r l p e q k us h =
    ap (λ (k : TokenView). assignments_by r l p e q k us) (mark_is tk.beside k h)
    ∙ then_on (a_word 0 (tail us)) (λ x. r (spelled.named x.0 x.1)) (λ ms. gives (assignment l p e q ms))
    ∙ gives_put (assignment l p e q) (then_read (a_word 0 (tail us)) (λ x. r (spelled.named x.0 x.1)))

module _ (m : Parts) (v : Tokens) (i e : ℕ) (d : Tree × Tree) where
  abbrev One : ℕ → Type 0
  One n = Reads (λ z. d ≡ first_assigned z) (ahead v e) (assignment_reader m n (ahead v i))

  one_read : (n : ℕ) (h : One (suc n)) → assignments_reader m (suc n) (ahead v i) ≡ rest_of m n h.what (ahead v e)
  one_read n h = round_at m n (ahead v i) ∙ ap (λ (o : Out (Phrase × (Place × Phrase))). then_read o (rest_of m n)) h.is

  pub assignments_go_on : (j : ℕ) → is_mark tk.beside (first (ahead v e)).kind ≡ true → ahead v j ≡ tail (ahead v e) → i < e → e ≤ length v.items.items → (n : ℕ) → length v.items.items ≤ n + i → One n → GoesOn (step_more m) members v i j d n
  unfolding rest_of
  assignments_go_on j c t l b zero g h = absurd (omega (arith, l, b, g))
  assignments_go_on j c t l b (suc n) g h =
      let q = (first (ahead v e)).place in
      record {
        cons = assignment h.what.0 h.what.1.0 h.what.1.1 q;
        round = (one_read n h ∙ more_by (read_assignments m n) h.what.0 h.what.1.0 h.what.1.1 q (first (ahead v e)).kind (ahead v e) c
            ∙ ap (λ (ws : List Token). put_after (assignment h.what.0 h.what.1.0 h.what.1.1 q) (assignments_reader m n ws)) (sym t));
        each = (λ a. ap (λ (x : Tree × Tree). x ∷ members a) (sym h.told));
      }

  pub assignments_end : is_mark tk.beside (first (ahead v e)).kind ≡ false → i < e → e ≤ length v.items.items → (n : ℕ) → length v.items.items ≤ n + i → One n → EndsAt (step_more m) members v i e d n
  unfolding rest_of
  assignments_end c l b zero g h = absurd (omega (arith, l, b, g))
  assignments_end c l b (suc n) g h = record {
    last = last_assignment h.what.0 h.what.1.0 h.what.1.1;
    round = (one_read n h ∙ no_more_by (read_assignments m n) h.what.0 h.what.1.0 h.what.1.1 (first (ahead v e)).place (first (ahead v e)).kind (ahead v e) c);
    alone = ap (λ (x : Tree × Tree). x ∷ []) (sym h.told);
  }

abbrev value_behind : Parts → Phrase → Reader (Phrase × (Place × Phrase))
value_behind m l = a_mark tk.assigns >>= λ p. m.expr >>= λ e. gives (l, (p, e))

no_steps : (m : Parts) (e : Halt) (o : Out (Place × Word)) → Fails e (then_read (then_read o (λ x. read_left m zero (spelled.name x.0 x.1))) (value_behind m)) → Fails e (then_read o (λ x. read_assignments m zero (spelled.named x.0 x.1)))
no_steps m halt.Memory o h = tt
no_steps m (halt.Refused r n) (Ok x) h = h
no_steps m (halt.Refused r n) (Err s) h = h

pub assignments_fail : (m : Parts) (e : Halt) (ts : List Token) (n : ℕ) → Fails e (assignment_reader m n ts) → Fails e (step_more m (suc n) ts)
assignments_fail m e ts zero h = no_steps m e (a_word 0 ts) h
assignments_fail m e ts (suc n) h = rw (round_at m n ts) (fails_then e _ _ h)

pub assignment_told : {ts : List Tree} {x : Assignment} {u : List Token} {o : Out (Phrase × (Place × Phrase))} → Reads (StandsFor assignment_at past_assignment first_assigned ts x) u o → Reads (λ z. assignment_at ts x ≡ first_assigned z) u o
assignment_told h = record { what = h.what; is = h.is; told = h.told.tree }

pub assignments_stay : (ts us : List Tree) → Keeps ts us → StaysSame assignment_at past_assignment ts us
assignments_stay ts us k a h = λ j. (k.same a.left (omega (arith, h)) j, k.same a.right (omega (arith, h)) j)
