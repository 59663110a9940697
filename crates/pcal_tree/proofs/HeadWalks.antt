-- The forms of statements that are open at tokens of algorithms: right behind the head of an `if` or `while` the next one has one more open.
use Rattle.std.proofs.Common.{◌≡◌, ℕ, ◌+◌, ◌≤◌, Bool, true, false, ◌||◌, List, [], ◌∷◌, ◌++◌, length, Option, Some, codes, refl, subst, arith}
use Rattle.std.specs.Str.{bytes_eq}
use Rattle.tla_tree.specs.Tree.{Word}
use Rattle.tla_tree.specs.Lexical.{TokenView, Token}
use Rattle.tla_tree.specs.Lexical as tk
use Rattle.tla_tree.specs.FirstStop.{Look, looks}
use Rattle.pcal_tree.proofs.ExpressionTokens.{is_first, begins_phrase}
use Rattle.pcal_tree.proofs.FieldWords.{introduces, fits, Named}
use Rattle.std.proofs.lemmas.Bool.{both_ways}

-- what is known where a token comes
pub data Behind : Type 0 where
  other : Behind
  naming : Behind  -- right behind a token that a field's name comes after, or behind `end`
  head : ℕ → Behind  -- in a head that its word opened as form number n, behind names, numbers, signs and round brackets
  closed : ℕ → Behind  -- right behind `then`, `do` or a closing bracket after these

abbrev pub is_head : Word → Bool
is_head w = bytes_eq w (codes "if") || bytes_eq w (codes "while")

abbrev pub is_close : Word → Bool
is_close w = bytes_eq w (codes "then") || bytes_eq w (codes "do")

abbrev pub is_end : Word → Bool
is_end w = bytes_eq w (codes "end")

abbrev pub naming_if : Bool → Behind
naming_if true = naming
naming_if false = other

-- behind a reserved word that is no field's name
abbrev pub by_word : Bool → Bool → ℕ → Behind
by_word true e n = head n
by_word false e n = naming_if e

abbrev pub by_close : Bool → ℕ → Behind → Behind
by_close true m s = closed m
by_close false m s = s

-- behind one more token, at which n forms of statements are open
abbrev pub next : Behind → TokenView → ℕ → Behind
next other (tk.reserved w) n = by_word (is_head w) (is_end w) n
next naming (tk.reserved w) n = other
next (closed m) (tk.reserved w) n = by_word (is_head w) (is_end w) n
next (head m) (tk.reserved w) n = by_close (is_close w) m (by_word (is_head w) (is_end w) n)
next (head m) (tk.word x) n = head m
next (head m) (tk.number i) n = head m
next (head m) (tk.sign o) n = head m
next (head m) (tk.mark tk.open_bracket) n = head m
next (head m) (tk.mark tk.close_bracket) n = closed m
next s k n = naming_if (introduces k)

abbrev pub When : Bool → Type 0 → Type 0
When true A = A
When false A = Unit {0}

-- a head's word is a form itself, and right behind the head of form m it is one more
abbrev pub Deeper : Behind → TokenView → ℕ → Type 0
Deeper other (tk.reserved w) n = When (is_head w) (1 ≤ n)
Deeper (head m) (tk.reserved w) n = When (is_head w) (1 ≤ n)
Deeper (closed m) (tk.reserved w) n = When (is_head w) (n ≡ m + 1)
Deeper s k n = Unit {0}

-- so it is at each of these tokens, with these counts
abbrev pub Nests : Behind → List Look → List ℕ → Type 0
Nests s [] ns = Unit {0}
Nests s (l ∷ ls) [] = Unit {0}
Nests s (l ∷ ls) (n ∷ ns) = Deeper s l.0 n × Nests (next s l.0 n) ls ns

-- ---- one token

-- in an expression, in the head of form d with Some d; with true behind a token that a field's name may come after
abbrev pub Stands : Option ℕ → Bool → Behind → Type 0
Stands h b other = b ≡ false
Stands h b naming = b ≡ true
Stands h b (head m) = (b ≡ false) × (h ≡ Some m)
Stands h b (closed m) = (b ≡ false) × (h ≡ Some m)

stands_if : (h : Option ℕ) (b : Bool) → Stands h b (naming_if b)
stands_if h true = refl
stands_if h false = refl

step : (h : Option ℕ) (b : Bool) (s : Behind) (k : TokenView) (n : ℕ) → Stands h b s → fits k b ≡ true → Deeper s k n × Stands h (introduces k) (next s k n)
step h b other (tk.reserved w) n p f = absurd (both_ways b p f)
step h b other k n p f = (tt, stands_if h (introduces k))
step h b naming (tk.reserved w) n p f = (tt, refl)
step h b naming k n p f = (tt, stands_if h (introduces k))
step h b (closed m) (tk.reserved w) n p f = absurd (both_ways b p.0 f)
step h b (closed m) k n p f = (tt, stands_if h (introduces k))
step h b (head m) (tk.reserved w) n p f = absurd (both_ways b p.0 f)
step h b (head m) (tk.word x) n p f = (tt, (refl, p.1))
step h b (head m) (tk.number i) n p f = (tt, (refl, p.1))
step h b (head m) (tk.sign o) n p f = (tt, (refl, p.1))
step h b (head m) (tk.mark tk.open_bracket) n p f = (tt, (refl, p.1))
step h b (head m) (tk.mark tk.close_bracket) n p f = (tt, (refl, p.1))
step h b (head m) k n p f = (tt, stands_if h (introduces k))

-- tokens of an expression, with whatever counts, before others
pub pass_named : (h : Option ℕ) (us : List Token) (ns : List ℕ) (ls : List Look) (ms : List ℕ) → length us ≡ length ns → ((s : Behind) → Stands h false s → Nests s ls ms)
    → (b : Bool) (s : Behind) → Stands h b s → Named b us → Nests s (looks us ++ ls) (ns ++ ms)
pass_named h [] [] ls ms e rest b s p w = rest s (subst (λ (c : Bool). Stands h c s) w p)
pass_named h [] (n ∷ ns) ls ms e rest b s p w = absurd (omega arith)
pass_named h (t ∷ us) [] ls ms e rest b s p w = absurd (omega arith)
pass_named h (t ∷ us) (n ∷ ns) ls ms e rest b s p w =
    let v = step h b s t.kind n p w.0 in
    (v.0, pass_named h us ns ls ms (omega arith) rest (introduces t.kind) (next s t.kind n) v.1 w.1)

-- ---- tokens outside expressions

-- no head begins with it, and no field's name comes after it
abbrev pub calm_word : Bool → Bool → Bool
calm_word false false = true
calm_word a b = false

abbrev pub calm_mark : Bool → Bool
calm_mark true = false
calm_mark false = true

abbrev pub calm : TokenView → Bool
calm (tk.reserved w) = calm_word (is_head w) (is_end w)
calm k = calm_mark (introduces k)

-- not in a head
abbrev pub Outside : Behind → Type 0
Outside (head m) = ⊥
Outside s = Unit {0}

word_step : (a b : Bool) (n : ℕ) (A : Type 0) → calm_word a b ≡ true → When a A × (by_word a b n ≡ other)
word_step true true n A h = absurd cc
word_step true false n A h = absurd cc
word_step false true n A h = absurd cc
word_step false false n A h = (tt, refl)

mark_step : (b : Bool) → calm_mark b ≡ true → naming_if b ≡ other
mark_step true h = absurd cc
mark_step false h = refl

pub calm_step : (s : Behind) (k : TokenView) (n : ℕ) → Outside s → calm k ≡ true → Deeper s k n × (next s k n ≡ other)
calm_step other (tk.reserved w) n o h = word_step (is_head w) (is_end w) n (1 ≤ n) h
calm_step other k n o h = (tt, mark_step (introduces k) h)
calm_step naming (tk.reserved w) n o h = (tt, refl)
calm_step naming k n o h = (tt, mark_step (introduces k) h)
calm_step (closed m) (tk.reserved w) n o h = word_step (is_head w) (is_end w) n (n ≡ m + 1) h
calm_step (closed m) k n o h = (tt, mark_step (introduces k) h)
calm_step (head m) k n o h = absurd o

naming_step : (b : Bool) → b ≡ true → naming_if b ≡ naming
naming_step true h = refl
naming_step false h = absurd cc

pub introducing_step : (s : Behind) (k : TokenView) (n : ℕ) → Outside s → introduces k ≡ true → Deeper s k n × (next s k n ≡ naming)
introducing_step other (tk.reserved w) n o h = absurd cc
introducing_step other k n o h = (tt, naming_step (introduces k) h)
introducing_step naming (tk.reserved w) n o h = absurd cc
introducing_step naming k n o h = (tt, naming_step (introduces k) h)
introducing_step (closed m) (tk.reserved w) n o h = absurd cc
introducing_step (closed m) k n o h = (tt, naming_step (introduces k) h)
introducing_step (head m) k n o h = absurd o

-- what begins as an expression may as well stand right behind a head
alike : (m : ℕ) (k : TokenView) (n : ℕ) → is_first k ≡ true → Deeper (closed m) k n × (next other k n ≡ next (closed m) k n)
alike m (tk.reserved w) n f = absurd cc
alike m k n f = (tt, refl)

pub like_other : (m : ℕ) (ts : List Token) (ns : List ℕ) → begins_phrase ts ≡ true → Nests other (looks ts) ns → Nests (closed m) (looks ts) ns
like_other m [] ns f h = tt
like_other m (t ∷ ts) [] f h = tt
like_other m (t ∷ ts) (n ∷ ns) f h = (let v = alike m t.kind n f in (v.0, subst (λ (s : Behind). Nests s (looks ts) ns) v.1 h.1))
