-- A string holds a mark of a comment exactly where what spells it does: no escape stands for a byte of one.
use Rattle.std.proofs.Common.{◌≡◌, ℕ, Bool, true, false, not, ◌&&◌, ◌||◌, nat_eq, List, [], ◌∷◌, Option, Some, None, is_some, refl, sym, ap, ◌∙◌, inl, inr}
use Rattle.std.specs.Option.{unwrap_or}
use Rattle.std.specs.List.{starts_with}
use Rattle.std.proofs.lemmas.Bool.{and_parts, or_cases, eqb-true}
use Rattle.tla_token.specs.declared.rule.Rule.TheVariants.{BadToken}
use Rattle.tla_token.specs.declared.fault.Reading.TheVariants as reading
use Rattle.tla_token.specs.declared.part.Class.TheVariants as class
use Rattle.tla_token.specs.Lexemes.{is_plain, escaped, in_front, unquoted, behind_backslash}
use Rattle.tla_token.specs.Tokens.{holds_mark}
use Rattle.tla_token.specs.Offences.{Offence, offence_if, least}
use Rattle.tla_token.specs.Scan.{inner, part_of}
use Rattle.tla_token.specs.Readings.{part_offences_in}
use Rattle.tla_token.proofs.Front.{in_front_some}
use Rattle.tla_token.proofs.Signed.{not_true}

front_of : (o : Option ℕ) (p : Option (List ℕ)) (b : ℕ) (v w : List ℕ) → o ≡ Some b → p ≡ Some v → in_front o p ≡ Some w → w ≡ b ∷ v
front_of o p b v w e f g = (let h : in_front (Some b) (Some v) ≡ Some w = rw (e, f) at g in cc)

-- what holds of each escape and what it stands for
escape_pairs : (P : ℕ → ℕ → Bool) → P 34 34 ≡ true → P 92 92 ≡ true → P 116 9 ≡ true → P 110 10 ≡ true → P 102 12 ≡ true → P 114 13 ≡ true → (d x : ℕ) → escaped d ≡ Some x → P d x ≡ true
escape_pairs P h1 h2 h3 h4 h5 h6 d x e = by (nat_eq d 34 || nat_eq d 92) refl (nat_eq d 116) refl (nat_eq d 110) refl (nat_eq d 102) refl (nat_eq d 114) refl
  where
    at : (c y : ℕ) → d ≡ c → x ≡ y → P c y ≡ true → P d x ≡ true
    at c y i j h = rw (i, j) h

    by : (k1 : Bool) → (nat_eq d 34 || nat_eq d 92) ≡ k1 → (k2 : Bool) → nat_eq d 116 ≡ k2 → (k3 : Bool) → nat_eq d 110 ≡ k3 → (k4 : Bool) → nat_eq d 102 ≡ k4 → (k5 : Bool) → nat_eq d 114 ≡ k5 → P d x ≡ true
    by true i k2 j k3 k k4 l k5 m =
        let s : Some d ≡ Some x = rw i at e in
        let same : x ≡ d = cc in
        elim (or_cases (nat_eq d 34) (nat_eq d 92) i) [ inl a ↦ at 34 34 (eqb-true d 34 a) (same ∙ eqb-true d 34 a) h1 | inr a ↦ at 92 92 (eqb-true d 92 a) (same ∙ eqb-true d 92 a) h2 ]
    by false i true j k3 k k4 l k5 m = (let s : Some 9 ≡ Some x = rw (i, j) at e in let same : x ≡ 9 = cc in at 116 9 (eqb-true d 116 j) same h3)
    by false i false j true k k4 l k5 m = (let s : Some 10 ≡ Some x = rw (i, j, k) at e in let same : x ≡ 10 = cc in at 110 10 (eqb-true d 110 k) same h4)
    by false i false j false k true l k5 m = (let s : Some 12 ≡ Some x = rw (i, j, k, l) at e in let same : x ≡ 12 = cc in at 102 12 (eqb-true d 102 l) same h5)
    by false i false j false k false l true m = (let s : Some 13 ≡ Some x = rw (i, j, k, l, m) at e in let same : x ≡ 13 = cc in at 114 13 (eqb-true d 114 m) same h6)
    by false i false j false k false l false m = (let s : None ≡ Some x = rw (i, j, k, l, m) at e in absurd cc)

-- no byte of a mark
abbrev is_unmarked_byte : ℕ → Bool
is_unmarked_byte b = not (nat_eq 40 b) && not (nat_eq 42 b) && not (nat_eq 41 b)

escapes_unmarked : (d x : ℕ) → escaped d ≡ Some x → (is_unmarked_byte d ≡ true) × (is_unmarked_byte x ≡ true)
escapes_unmarked d x e = (let p = escape_pairs (λ d x. is_unmarked_byte d && is_unmarked_byte x) refl refl refl refl refl refl d x e in and_parts (is_unmarked_byte d) (is_unmarked_byte x) p)

unmarked_parts : (b : ℕ) → is_unmarked_byte b ≡ true → (nat_eq 40 b ≡ false) × (nat_eq 42 b ≡ false) × (nat_eq 41 b ≡ false)
unmarked_parts b h =
    let p = and_parts (not (nat_eq 40 b) && not (nat_eq 42 b)) (not (nat_eq 41 b)) h in
    let q = and_parts (not (nat_eq 40 b)) (not (nat_eq 42 b)) p.0 in
    (not_true (nat_eq 40 b) q.0, not_true (nat_eq 42 b) q.1, not_true (nat_eq 41 b) p.1)

skipped : (b : ℕ) (bs : List ℕ) → is_unmarked_byte b ≡ true → holds_mark (b ∷ bs) ≡ holds_mark bs
skipped b bs h = (let p = unmarked_parts b h in rw (p.0, p.1) refl)

-- ---- the next byte is part of a mark in both or in neither

abbrev next_is : ℕ → List ℕ → Bool
next_is k bs = starts_with nat_eq bs (k ∷ [])

unlike : (b k : ℕ) (bs : List ℕ) → nat_eq k b ≡ false → next_is k (b ∷ bs) ≡ false
unlike b k bs h = rw h refl

same_next : (k : ℕ) → ((b : ℕ) → is_unmarked_byte b ≡ true → nat_eq k b ≡ false) → (bs v : List ℕ) → unquoted bs ≡ Some v → next_is k bs ≡ next_is k v
same_next k apart [] v e = (let s : [] ≡ v = cc in ap (next_is k) s)
same_next k apart (b ∷ bs) v e = by (nat_eq b 92) refl (is_plain b) refl
  where
    behind : (bs : List ℕ) → behind_backslash bs ≡ Some v → next_is k v ≡ false
    behind [] f = absurd cc
    behind (c ∷ cs) f =
        let i = in_front_some (escaped c) (unquoted cs) v f in
        let w : v ≡ i.0 ∷ i.1 = front_of (escaped c) (unquoted cs) i.0 i.1 v i.2 i.3 f in
        ap (next_is k) w ∙ unlike i.0 k i.1 (apart i.0 (escapes_unmarked c i.0 i.2).1)

    by : (j : Bool) → nat_eq b 92 ≡ j → (l : Bool) → is_plain b ≡ l → next_is k (b ∷ bs) ≡ next_is k v
    by true j l p =
        let f : behind_backslash bs ≡ Some v = rw j at e in
        let u : is_unmarked_byte b ≡ true = ap is_unmarked_byte (eqb-true b 92 j) in
        unlike b k bs (apart b u) ∙ sym (behind bs f)
    by false j true p =
        let f : in_front (Some b) (unquoted bs) ≡ Some v = rw (p, j) at e in
        let i = in_front_some (Some b) (unquoted bs) v f in
        let w : v ≡ b ∷ i.1 = front_of (Some b) (unquoted bs) b i.1 v refl i.3 f in
        sym (ap (next_is k) w)
    by false j false p = (let f : in_front None (unquoted bs) ≡ Some v = rw (p, j) at e in absurd cc)

star_apart : (b : ℕ) → is_unmarked_byte b ≡ true → nat_eq 42 b ≡ false
star_apart b h = (unmarked_parts b h).1

round_apart : (b : ℕ) → is_unmarked_byte b ≡ true → nat_eq 41 b ≡ false
round_apart b h = (unmarked_parts b h).2

-- ---- marks

plain_marks : (b : ℕ) (bs v : List ℕ) → unquoted bs ≡ Some v → holds_mark v ≡ holds_mark bs → holds_mark (b ∷ v) ≡ holds_mark (b ∷ bs)
plain_marks b bs v e h = λ i. ((nat_eq 40 b && star i) || (nat_eq 42 b && round i)) || h i
  where
    star : next_is 42 v ≡ next_is 42 bs
    star = sym (same_next 42 star_apart bs v e)

    round : next_is 41 v ≡ next_is 41 bs
    round = sym (same_next 41 round_apart bs v e)

marks_step : (b : ℕ) (bs w : List ℕ) → unquoted (b ∷ bs) ≡ Some w → ((v : List ℕ) → behind_backslash bs ≡ Some v → holds_mark v ≡ holds_mark bs) → ((v : List ℕ) → unquoted bs ≡ Some v → holds_mark v ≡ holds_mark bs)
    → holds_mark w ≡ holds_mark (b ∷ bs)
marks_step b bs w e x y = by (nat_eq b 92) refl (is_plain b) refl
  where
    by : (j : Bool) → nat_eq b 92 ≡ j → (l : Bool) → is_plain b ≡ l → holds_mark w ≡ holds_mark (b ∷ bs)
    by true j l p = (let f : behind_backslash bs ≡ Some w = rw j at e in x w f ∙ sym (skipped b bs (ap is_unmarked_byte (eqb-true b 92 j))))
    by false j true p =
        let f : in_front (Some b) (unquoted bs) ≡ Some w = rw (p, j) at e in
        let i = in_front_some (Some b) (unquoted bs) w f in
        let s : w ≡ b ∷ i.1 = front_of (Some b) (unquoted bs) b i.1 w refl i.3 f in
        ap holds_mark s ∙ plain_marks b bs i.1 i.3 (y i.1 i.3)
    by false j false p = (let f : in_front None (unquoted bs) ≡ Some w = rw (p, j) at e in absurd cc)

mutual
  marks_stay : (bs w : List ℕ) → unquoted bs ≡ Some w → holds_mark w ≡ holds_mark bs
  marks_stay [] w e = (let s : w ≡ [] = cc in ap holds_mark s)
  marks_stay (b ∷ bs) w e = marks_step b bs w e (λ v f. marks_behind bs v f) (λ v f. marks_stay bs v f)

  marks_behind : (bs w : List ℕ) → behind_backslash bs ≡ Some w → holds_mark w ≡ holds_mark bs
  marks_behind [] w e = absurd cc
  marks_behind (c ∷ cs) w e =
      let i = in_front_some (escaped c) (unquoted cs) w e in
      let s : w ≡ i.0 ∷ i.1 = front_of (escaped c) (unquoted cs) i.0 i.1 w i.2 i.3 e in
      let u = escapes_unmarked c i.0 i.2 in
      ap holds_mark s ∙ skipped i.0 i.1 u.1 ∙ marks_stay cs i.1 i.3 ∙ sym (skipped c cs u.0)

-- ---- what is wrong with a string of an algorithm

meant : (bs : List ℕ) → is_some (unquoted bs) ≡ true → holds_mark (unwrap_or (unquoted bs) []) ≡ holds_mark bs
meant bs h = by (unquoted bs) refl h
  where
    by : (o : Option (List ℕ)) → unquoted bs ≡ o → is_some o ≡ true → holds_mark (unwrap_or (unquoted bs) []) ≡ holds_mark bs
    by (Some w) e k = ap (λ (o : Option (List ℕ)). holds_mark (unwrap_or o [])) e ∙ marks_stay bs w e
    by None e k = absurd cc

abbrev fault_if : Bool → ℕ → Option Offence
fault_if k at = least (offence_if k BadToken at)

text_bad : (at : ℕ) (bytes : List ℕ) → is_some (unquoted (inner bytes)) ≡ true → least (part_offences_in reading.Algorithm at (part_of class.Text bytes)) ≡ fault_if (holds_mark (inner bytes)) at
text_bad at bytes h = ap (λ (k : Bool). fault_if k at) (meant (inner bytes) h)

pub text_marked : (at : ℕ) (bytes raw : List ℕ) (k : Bool) → raw ≡ inner bytes → is_some (unquoted (inner bytes)) ≡ true → k ≡ holds_mark raw → k ≡ true
    → Some (BadToken, at) ≡ least (part_offences_in reading.Algorithm at (part_of class.Text bytes))
text_marked at bytes raw k e h f t = sym (text_bad at bytes h ∙ ap (λ (k : Bool). fault_if k at) (ap holds_mark (sym e) ∙ sym f ∙ t))

pub text_unmarked : (at : ℕ) (bytes raw : List ℕ) (k : Bool) → raw ≡ inner bytes → is_some (unquoted (inner bytes)) ≡ true → k ≡ holds_mark raw → k ≡ false
    → None ≡ least (part_offences_in reading.Algorithm at (part_of class.Text bytes))
text_unmarked at bytes raw k e h f t = sym (text_bad at bytes h ∙ ap (λ (k : Bool). fault_if k at) (ap holds_mark (sym e) ∙ sym f ∙ t))
