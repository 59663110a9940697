-- Simple statements by their first token: a name, or a word of PlusCal.
use Rattle.std.proofs.Common.{◌≡◌, ℕ, zero, suc, Bool, true, false, nat_lt, List, [], ◌∷◌, Ok, Err, is_some, refl, sym, ap, subst, ◌∙◌, arith}
use Rattle.std.proofs.lemmas.Bool.{lt-ltb}
use Rattle.std.specs.Prelude.{codes}
use Rattle.tla_token.proofs.Spelled.{same_bytes}
use Rattle.tla_token.specs.declared.place.Place.{Place}
use Rattle.tla_token.specs.declared.rule.Rule.TheVariants.{Syntax}
use Rattle.tla_tree.specs.Tree.{Word, Name}
use Rattle.tla_tree.specs.Lexical.{TokenView, Token, token}
use Rattle.tla_tree.specs.Lexical as tk
use Rattle.tla_tree.specs.Reader.{Out, Reader, ◌>>=◌, then_read, gives, took, tail, a_word, is_mark}
use Rattle.tla_tree.proofs.SoundTokens.{mark_is}
use Rattle.expr_nodes.specs.declared.cursor.Halt.{Halt}
use Rattle.expr_nodes.specs.ReadIn.{Fails}
use Rattle.tla_tree.proofs.SoundTokens.{ok_is}
use Rattle.pcal_tree.specs.GrammarParts.{Arguments, Assignments, Simple}
use Rattle.pcal_tree.specs.GrammarParts as g
use Rattle.syntax_reading.specs.TokenReaders.{first, by_next, is_reserved, name_of, a_name, Parts}
use Rattle.syntax_reading.specs.ReadSimple.{named_by, read_arguments, read_assignments, assign_if}
use Rattle.algorithm_reader.specs.SimpleRead.{assignments_reader, simple_by, simple_reader, named_reader, keyed_by, keyed_reader}
use Rattle.algorithm_reader.proofs.Gathered.{fails_then}

by_name : (m : Parts) (n : ℕ) (p : Place) (k : TokenView) (us : List Token) → is_some (name_of p k) ≡ true → simple_by m n p k us ≡ then_read (took (name_of p k) us) (λ x. by_next (named_by m n x))
by_name m n p (tk.word x) us h = refl
by_name m n p k us h = (let no : false ≡ true = h in absurd cc)

by_key : (m : Parts) (n : ℕ) (p : Place) (k : TokenView) (us : List Token) → is_some (name_of p k) ≡ false → simple_by m n p k us ≡ keyed_by m p k us
by_key m n p (tk.word x) us h = (let no : true ≡ false = h in absurd cc)
by_key m n p (tk.reserved w) us h = refl
by_key m n p k us h = refl

pub simple_named : (m : Parts) (n : ℕ) (ts : List Token) → is_some (name_of (first ts).place (first ts).kind) ≡ true → simple_reader m n ts ≡ named_reader m n ts
simple_named m n ts h = by_name m n (first ts).place (first ts).kind ts h

pub simple_keyed : (m : Parts) (n : ℕ) (ts : List Token) → is_some (name_of (first ts).place (first ts).kind) ≡ false → simple_reader m n ts ≡ keyed_reader m ts
simple_keyed m n ts h = by_key m n (first ts).place (first ts).kind ts h

-- a name that is right of the edge is a word there
word_there : (p : Place) (k : TokenView) (ts us : List Token) (x : Name) → took (name_of p k) (token p k ∷ ts) ≡ Ok (x, us) → nat_lt 0 x.place.col ≡ true → a_word 0 (token p k ∷ ts) ≡ Ok ((x.place, x.word), us)
word_there p (tk.word y) ts us x e h =
    let w = ok_is e in
    let right : nat_lt 0 p.col ≡ true = ap (λ (z : Name). nat_lt 0 z.place.col) w.0 ∙ h in
    rw right (λ j. Ok (((w.0 j).place, (w.0 j).word), w.1 j))
word_there p k ts us x e h = absurd cc

name_is_word : (ts us : List Token) (x : Name) → a_name ts ≡ Ok (x, us) → nat_lt 0 x.place.col ≡ true → a_word 0 ts ≡ Ok ((x.place, x.word), us)
name_is_word [] us x e h = absurd cc
name_is_word (t ∷ ts) us x e h = word_there t.place t.kind ts us x e h

assigned_by : (m : Parts) (n : ℕ) (x : Name) (p : Place) (k : TokenView) (us : List Token) → is_mark tk.open_bracket k ≡ false → named_by m n x p k us ≡ assign_if (nat_lt 0 x.place.col) m n x us
assigned_by m n x p (tk.mark tk.open_bracket) us h = (let no : true ≡ false = h in absurd cc)
assigned_by m n x p k us h = refl

pub named_assigns : (m : Parts) (n : ℕ) (ts us : List Token) (x : Name) → a_name ts ≡ Ok (x, us) → is_mark tk.open_bracket (first us).kind ≡ false → nat_lt 0 x.place.col ≡ true
    → named_reader m n ts ≡ then_read (assignments_reader m n ts) (λ ms. gives (g.assign ms))
named_assigns m n ts us x e o h =
    ap (λ (o : Out Name). then_read o (λ x. by_next (named_by m n x))) e
    ∙ assigned_by m n x (first us).place (first us).kind us o
    ∙ ap (λ (b : Bool). assign_if b m n x us) h
    ∙ ap (λ (o : Out (Place × Word)). then_read (then_read o (λ y. read_assignments m n (record { place = y.0; word = y.1 }))) (λ ms. gives (g.assign ms))) (sym (name_is_word ts us x e h))

pub named_left : (m : Parts) (n : ℕ) (ts us : List Token) (x : Name) → a_name ts ≡ Ok (x, us) → is_mark tk.open_bracket (first us).kind ≡ false → nat_lt 0 x.place.col ≡ false → named_reader m n ts ≡ Err (Syntax, us)
named_left m n ts us x e o h =
    ap (λ (o : Out Name). then_read o (λ x. by_next (named_by m n x))) e
    ∙ assigned_by m n x (first us).place (first us).kind us o
    ∙ ap (λ (b : Bool). assign_if b m n x us) h

pub is_positive : (n : ℕ) → (n ≡ 0 → ⊥) → nat_lt 0 n ≡ true
is_positive zero h = absurd (h refl)
is_positive (suc n) h = lt-ltb 0 (suc n) (omega arith)

pub named_assigns_fail : (m : Parts) (n : ℕ) (ts us : List Token) (x : Name) (e : Halt) → a_name ts ≡ Ok (x, us) → is_mark tk.open_bracket (first us).kind ≡ false → nat_lt 0 x.place.col ≡ true
    → Fails e (assignments_reader m n ts) → Fails e (named_reader m n ts)
named_assigns_fail m n ts us x e i o h f = subst (Fails e) (sym (named_assigns m n ts us x i o h)) (fails_then e (assignments_reader m n ts) (λ ms. gives (g.assign ms)) f)

pub named_call_fails : (m : Parts) (n : ℕ) (ts us : List Token) (x : Name) (e : Halt) → a_name ts ≡ Ok (x, us) → is_mark tk.open_bracket (first us).kind ≡ true → Fails e (read_arguments m us) → Fails e (named_reader m n ts)
named_call_fails m n ts us x e i o f =
    let call : Arguments → Reader Simple = λ xs. gives (g.macro x xs) in
    subst (Fails e) (sym (ap (λ (o : Out Name). then_read o (λ x. by_next (named_by m n x))) i ∙ ap (λ (k : TokenView). named_by m n x (first us).place k us) (mark_is tk.open_bracket (first us).kind o)))
    (fails_then e (read_arguments m us) call f)

call_fails_at : (m : Parts) (p : Place) (k : TokenView) (ts us ws : List Token) (x : Name) (e : Halt) → is_reserved (codes "call") k ≡ true → us ≡ tail ts → a_name us ≡ Ok (x, ws) → Fails e (read_arguments m ws) → Fails e (keyed_by m p k ts)
call_fails_at m p (tk.reserved w) ts us ws x e h t i f =
    let rest : Reader Simple = a_name >>= λ x. read_arguments m >>= λ xs. gives (g.call p x xs) in
    subst (λ (w : Word). Fails e (keyed_by m p (tk.reserved w) ts)) (same_bytes (codes "call") w h)
    (subst (Fails e) (sym (ap rest (sym t) ∙ ap (λ (o : Out Name). then_read o (λ x. read_arguments m >>= λ xs. gives (g.call p x xs))) i)) (fails_then e (read_arguments m ws) (λ xs. gives (g.call p x xs)) f))
call_fails_at m p k ts us ws x e h t i f = (let no : false ≡ true = h in absurd cc)

pub call_fails : (m : Parts) (ts us ws : List Token) (x : Name) (e : Halt) → is_reserved (codes "call") (first ts).kind ≡ true → us ≡ tail ts → a_name us ≡ Ok (x, ws) → Fails e (read_arguments m ws) → Fails e (keyed_reader m ts)
call_fails m ts us ws x e h t i f = call_fails_at m (first ts).place (first ts).kind ts us ws x e h t i f
