-- Names that are given one after another, and what is known of those that are taken.
use Rattle.std.specs.Prelude.{◌≡◌, ◌==◌, ℕ, ◌+◌, ◌^◌, ◌≤◌, ◌<◌, List, [], ◌∷◌, Bool, true, false, cond, bytes_eq, codes, Option, Some, None}
use Rattle.std.specs.Cmp.Lexicographic.{pointwise}
use Rattle.std.specs.Map.{lookup}
use Rattle.std.specs.Coded as coded
use Rattle.std.specs.Coded.{Coded}
use Rattle.tla_token.specs.Signs.{is_among}
use Rattle.tla_tree.specs.Tree.{Word}
use Rattle.algorithm_limits.specs.Numbers.{Numbers, number_of}
use Rattle.pcal_tree.specs.Names.{with_number, first_free}

-- names that no look-up tells apart
abbrev pub SameNames : List Word → List Word → Type 0
SameNames xs ys = (w : Word) → is_among xs w ≡ is_among ys w

-- ---- names with numbers

-- all of them are taken, from one number up to another
abbrev pub TakenFrom : List Word → Word → ℕ → ℕ → Type 0
TakenFrom taken x n m = (i : ℕ) → n ≤ i → i < m → is_among taken (with_number x i) ≡ true

-- ---- words that want names, in order

-- what is taken when they have theirs
abbrev pub taken_after : List Word → List Word → List Word → List Word
taken_after extended taken [] = taken
taken_after extended taken (w ∷ ws) = taken_after extended (first_free extended taken w ∷ taken) ws

-- the name that a word gets where it comes first
abbrev pub first_named : List Word → List Word → List Word → Word → Option Word
first_named extended taken [] x = None
first_named extended taken (w ∷ ws) x =
    cond (bytes_eq w x) (Some (first_free extended taken w)) (first_named extended (first_free extended taken w ∷ taken) ws x)

-- ---- what is known while names are given

-- whether these modules are extended, the names that are taken, and a table of those that were looked at
pub record Known : Type 0 where
  pub sequences : Bool
  pub tlc : Bool
  pub names : List Word
  pub tried : Numbers  -- up to which number those of a word are

pub known_code : Coded Known
known_code = hlevel coded.codes

-- up to its number in the table all names of a word with numbers are taken
abbrev pub AreTried : List Word → Numbers → Type 0
AreTried names es = (x : Word) → TakenFrom names x 1 (number_of es x + 1)

-- a name with the first number that is free
pub record IsFound (names : List Word) (x w : Word) (m : ℕ) : Type 0 where
  pub word : w ≡ with_number x m
  pub first : 1 ≤ m
  pub small : m < 2 ^ 64
  pub before : TakenFrom names x 1 m
  pub free : is_among names w ≡ false

-- so it is in a module that extends these, where these are taken
pub record Knows (k : Known) (extended taken : List Word) : Type 0 where
  pub sequences : is_among extended (codes "Sequences") ≡ k.sequences
  pub tlc : is_among extended (codes "TLC") ≡ k.tlc
  pub names : SameNames k.names taken
  pub tried : AreTried k.names k.tried

-- words, each with its written name
abbrev pub Pairs : Type 0
Pairs = List (Word × Word)

abbrev pub found : Pairs → Word → Option Word
found ps x = lookup (pointwise ◌==◌ x) ps

-- the first of two that there is
abbrev pub first_of : Option Word → Option Word → Option Word
first_of None b = b
first_of (Some w) b = Some w

-- words got their names, and each is kept with the first that it got
pub record Gives (old new : Known) (before after : Pairs) (ws : List Word) : Type 0 where
  pub names : (extended taken : List Word) → Knows old extended taken → Knows new extended (taken_after extended taken ws)
  pub pairs : (extended taken : List Word) → Knows old extended taken → (x : Word) → found after x ≡ first_of (found before x) (first_named extended taken ws x)
