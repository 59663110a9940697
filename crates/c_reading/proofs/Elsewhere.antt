-- A statement goes on as another one elsewhere, where both end at the same place.
use Rattle.std.proofs.Common.{◌≡◌, ℕ, zero, suc, Bool, true, false, List, Option, Some, None, if◌then◌else◌, refl, sym, ap, ◌∙◌, codes}
use Rattle.std.specs.Str.{bytes_eq}
use Rattle.tla_token.specs.declared.place.Place.{Place}
use Rattle.tla_tree.specs.Tree.{Word}
use Rattle.tla_tree.specs.Lexical.{TokenView, Token}
use Rattle.tla_tree.specs.Lexical as tk
use Rattle.tla_tree.specs.Reader.{Reader, then_read, tail}
use Rattle.pcal_tree.specs.GrammarParts.{Labels}
use Rattle.pcal_tree.specs.GrammarC.{Labelled, no_else, last_branch}
use Rattle.syntax_reading.specs.TokenReaders.{first, pick, Parts}
use Rattle.c_reading.specs.ReadStatements.{Arms, later_arm, Test, Stack, in_then, in_either, ended, Turn, joined, Ask, ask_else, ask_or, ask_other, closed, closing_words, list_by, ended_by, turned, run}
use Rattle.c_reading.specs.ReadStatements as machine
use Rattle.c_reading.proofs.Behind.{word_ask, ask_of, ask_past, ask_at}

-- ---- a step after a statement, by what is asked for
abbrev pub taken : Parts → ℕ → Ask → Option Place → Place → TokenView → Option (Labelled × Stack) → Reader Turn
taken m n ask_else s p k o = machine.takes_else s p o
taken m n ask_or s p k o = machine.takes_or s p o
taken m n ask_other s p k o = list_by m n s p k o

-- whether it is an `else`, and whether it is an `or`
abbrev pub asked : Bool → Bool → Ask
asked e o = if e then ask_else else if o then ask_or else ask_other

pub word_taken : (m : Parts) (n : ℕ) (a : Labelled) (s : Option Place) (st : Stack) (p : Place) (w : Word) → pick w (closing_words a s st p) (list_by m n s p (tk.reserved w) (closed ask_other a st)) ≡ taken m n (word_ask w) s p (tk.reserved w) (closed (word_ask w) a st)
word_taken m n a s st p w = by (bytes_eq (codes "else") w) (bytes_eq (codes "or") w)
  where
    by : (e o : Bool) → (if e then machine.takes_else s p (closed ask_else a st) else if o then machine.takes_or s p (closed ask_or a st) else list_by m n s p (tk.reserved w) (closed ask_other a st)) ≡ taken m n (asked e o) s p (tk.reserved w) (closed (asked e o) a st)
    by true o = refl
    by false true = refl
    by false false = refl

pub after_taken : (m : Parts) (n : ℕ) (a : Labelled) (q : Place) (st : Stack) (p : Place) (k : TokenView) → ended_by m n a (Some q) st p k ≡ taken m n (ask_of k) (Some q) p k (closed (ask_of k) a st)
after_taken m n a q st p (tk.reserved w) = word_taken m n a (Some q) st p w
after_taken m n a q st p k = refl

pub then_ends : (q : Ask) (ls : Labels) (t : Test) (a : Labelled) (st : Stack) → (q ≡ ask_else → ⊥) → closed q a (in_then ls t st) ≡ closed q (machine.tested ls t a no_else) st
then_ends ask_else ls t a st h = absurd (h refl)
then_ends ask_or ls t a st h = refl
then_ends ask_other ls t a st h = refl

pub either_ends : (q : Ask) (t : Arms) (a : Labelled) (s : Option Place) (p : Place) (b : Labelled) (st : Stack) → (q ≡ ask_or → ⊥) → closed q b (in_either (later_arm t a s p) st) ≡ closed q (joined t a (last_branch s p b)) st
either_ends ask_else t a s p b st h = refl
either_ends ask_or t a s p b st h = absurd (h refl)
either_ends ask_other t a s p b st h = refl

-- ---- all steps
pub same_after : (r : Parts) (n : ℕ) (q : Place) (a : Labelled) (x : Stack) (b : Labelled) (y : Stack) (ts : List Token) → closed (ask_of (first ts).kind) a x ≡ closed (ask_of (first ts).kind) b y → run r n (ended a (Some q) x) ts ≡ run r n (ended b (Some q) y) ts
same_after r zero q a x b y ts e = refl
same_after r (suc n) q a x b y ts e =
    (let p = (first ts).place in
    let k = (first ts).kind in
    ap (λ (f : Reader Turn). then_read (f ts) (turned (run r n))) (after_taken r n a q x p k ∙ ap (λ (o : Option (Labelled × Stack)). taken r n (ask_of k) (Some q) p k o) e ∙ sym (after_taken r n b q y p k)))

pub same_run : (r : Parts) (n : ℕ) (a : Labelled) (x : Stack) (b : Labelled) (y : Stack) (ts : List Token) → closed (ask_at ts) a x ≡ closed (ask_at ts) b y → run r n (ended a None x) ts ≡ run r n (ended b None y) ts
same_run r zero a x b y ts e = refl
same_run r (suc n) a x b y ts e = by (first ts).place (first ts).kind e (λ q. same_after r n q a x b y (tail ts))
  where
    by : (p : Place) (k : TokenView) → closed (ask_past k (tail ts)) a x ≡ closed (ask_past k (tail ts)) b y
        → ((q : Place) → closed (ask_of (first (tail ts)).kind) a x ≡ closed (ask_of (first (tail ts)).kind) b y → run r n (ended a (Some q) x) (tail ts) ≡ run r n (ended b (Some q) y) (tail ts))
        → then_read (ended_by r n a None x p k ts) (turned (run r n)) ≡ then_read (ended_by r n b None y p k ts) (turned (run r n))
    by p (tk.mark tk.semicolon) i f = f p i
    by p (tk.reserved w) i f =
        ap (λ (d : Reader Turn). then_read (d ts) (turned (run r n)))
        (word_taken r n a None x p w ∙ ap (λ (o : Option (Labelled × Stack)). taken r n (word_ask w) None p (tk.reserved w) o) i ∙ sym (word_taken r n b None y p w))
    by p k i f = ap (λ (o : Option (Labelled × Stack)). then_read (list_by r n None p k o ts) (turned (run r n))) i
