-- How many forms may still open where tokens are read: a bound tells it, and reads the expressions there.
use Rattle.std.specs.Prelude.{◌≡◌, ℕ, suc, ◌-◌, ◌≤◌, ◌<◌, ◌⊎◌, nat_le, Bool, true, false, List, Option, Some, None, Ok, Err, length, if◌then◌else◌}
use Rattle.tla_token.specs.declared.rule.Rule.{Rule}
use Rattle.tla_token.specs.declared.rule.Rule.TheVariants.{TooDeep, Syntax}
use Rattle.tla_tree.specs.Lexical.{Token}
use Rattle.tla_tree.specs.Spelling.{Phrase}
use Rattle.tla_tree.specs.Reader.{Out, Reader, ◌>>=◌, refuses, too_deep, read}

-- where so many forms more are open, the reader of expressions there, right of an edge, if so many may be open
abbrev pub Bound : Type 0
Bound = ℕ → Option (ℕ → Reader Phrase)

-- any number of forms may be open
abbrev pub unbounded : Bound
unbounded k = Some read

-- l forms may be open; x reads an expression in which so many may be, right of an edge
abbrev pub bounded : (ℕ → ℕ → Reader Phrase) → ℕ → Bound
bounded x l k = if nat_le k l then Some (x (l - k)) else None

-- in one form more
abbrev pub deeper : Bound → Bound
deeper m k = m (suc k)

-- ---- readers

abbrev pub phrase_by : Option (ℕ → Reader Phrase) → ℕ → Reader Phrase
phrase_by (Some f) e = f e
phrase_by None e = too_deep

-- an expression
abbrev pub a_phrase : Bound → ℕ → Reader Phrase
a_phrase m e = phrase_by (m 0) e

abbrev pub if_room : {A : Type 0} → Option (ℕ → Reader Phrase) → Reader A → Reader A
if_room (Some f) p = p
if_room None p = too_deep

-- with one form more open, or too deep
abbrev pub opened : {A : Type 0} → Bound → (Bound → Reader A) → Reader A
opened m f = if_room (m 1) (f (deeper m))

abbrev pub opened_if : {A : Type 0} → Bool → Bound → (Bound → Reader A) → Reader A
opened_if true m f = opened m f
opened_if false m f = refuses

-- too deep before a token that is there
abbrev pub deep_at : {A : Type 0} → Reader A → Reader A
deep_at p ts = (p >>= λ a us. too_deep ts) ts

abbrev pub token_by : {A : Type 0} → Option (ℕ → Reader Phrase) → Reader A → Reader A
token_by (Some f) p = p
token_by None p = deep_at p

-- past a token that opens a form, or too deep before it
abbrev pub opening : {A : Type 0} → Bound → Reader A → Reader A
opening m p = token_by (m 1) p

-- ---- what a bound does

-- o is read where l forms may be open, and q without a bound: what is read is the same, and opens so many at most; what is refused by `Syntax` is refused without a bound;
-- where it is too deep, it is refused without a bound, or what is read opens more; and no other rule is answered.
pub record OnlyRefuses {A : Type 0} (l : ℕ) (opens : A → ℕ) (o q : Out A) : Type 0 where
  pub same : (a : A) (us : List Token) → o ≡ Ok (a, us) → (q ≡ Ok (a, us)) × (opens a ≤ l)
  pub none : (us : List Token) → o ≡ Err (Syntax, us) → (a : A) (vs : List Token) → q ≡ Ok (a, vs) → ⊥
  pub deep : (us : List Token) → o ≡ Err (TooDeep, us) → (a : A) (vs : List Token) → q ≡ Ok (a, vs) → l < opens a
  pub rule : (r : Rule) (us : List Token) → o ≡ Err (r, us) → (r ≡ Syntax) ⊎ (r ≡ TooDeep)

-- x reads expressions within a bound on the forms that open in them
abbrev pub ReadsWithin : (ℕ → ℕ → Reader Phrase) → (Phrase → ℕ) → Type 0
ReadsWithin x bare = (l e : ℕ) (ts : List Token) → OnlyRefuses l bare (x l e ts) (read e ts)

-- the tokens from where reading ended
abbrev pub rest : {A : Type 0} → Out A → List Token
rest (Ok x) = x.1
rest (Err s) = s.1

-- no reader of expressions leaves more tokens than it was given
abbrev pub Shortens : Bound → Type 0
Shortens m = (k : ℕ) (f : ℕ → Reader Phrase) → m k ≡ Some f → (e : ℕ) (ts : List Token) → length (rest (f e ts)) ≤ length ts
