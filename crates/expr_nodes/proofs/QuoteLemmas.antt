-- A text that is unquoted byte by byte: the part that is made already, before what the rest stands for.
use Rattle.std.proofs.Common.{◌≡◌, ℕ, Bool, true, false, nat_eq, List, [], ◌∷◌, ◌++◌, Option, Some, None, refl, sym, ap, ◌∙◌, append_assoc, if◌then◌else◌}
use Rattle.tla_token.specs.Lexemes.{is_plain, escaped, in_front, unquoted}

abbrev pub before : List ℕ → Option (List ℕ) → Option (List ℕ)
before xs (Some w) = Some (xs ++ w)
before xs None = None

pub before_none : (o : Option (List ℕ)) → o ≡ before [] o
before_none (Some w) = refl
before_none None = refl

one_more : (xs : List ℕ) (b : ℕ) (o : Option (List ℕ)) → before xs (in_front (Some b) o) ≡ before (xs ++ b ∷ []) o
one_more xs b (Some w) = ap (λ (u : List ℕ). Some u) (sym (append_assoc xs (b ∷ []) w))
one_more xs b None = refl

front_is : (b : ℕ) (bs : List ℕ) → nat_eq b 92 ≡ false → unquoted (b ∷ bs) ≡ in_front (if is_plain b then Some b else None) (unquoted bs)
front_is b bs e = rw e refl

pub plain_more : (xs bs : List ℕ) (b : ℕ) → nat_eq b 92 ≡ false → is_plain b ≡ true → before xs (unquoted (b ∷ bs)) ≡ before (xs ++ b ∷ []) (unquoted bs)
plain_more xs bs b e p = ap (before xs) (front_is b bs e ∙ ap (λ (t : Bool). in_front (if t then Some b else None) (unquoted bs)) p) ∙ one_more xs b (unquoted bs)

pub escape_more : (xs bs : List ℕ) (b c d : ℕ) → nat_eq b 92 ≡ true → escaped c ≡ Some d → before xs (unquoted (b ∷ c ∷ bs)) ≡ before (xs ++ d ∷ []) (unquoted bs)
escape_more xs bs b c d e p = rw (e, p) (one_more xs d (unquoted bs))

pub no_plain : (bs : List ℕ) (b : ℕ) → nat_eq b 92 ≡ false → is_plain b ≡ false → unquoted (b ∷ bs) ≡ None
no_plain bs b e p = front_is b bs e ∙ ap (λ (t : Bool). in_front (if t then Some b else None) (unquoted bs)) p ∙ nothing (unquoted bs)
  where
    nothing : (o : Option (List ℕ)) → in_front None o ≡ None
    nothing (Some w) = refl
    nothing None = refl

pub no_escape : (bs : List ℕ) (b c : ℕ) → nat_eq b 92 ≡ true → escaped c ≡ None → unquoted (b ∷ c ∷ bs) ≡ None
no_escape bs b c e p = rw (e, p) (nothing (unquoted bs))
  where
    nothing : (o : Option (List ℕ)) → in_front None o ≡ None
    nothing (Some w) = refl
    nothing None = refl

pub no_more : (b : ℕ) → nat_eq b 92 ≡ true → unquoted (b ∷ []) ≡ None
no_more b e = rw e refl
