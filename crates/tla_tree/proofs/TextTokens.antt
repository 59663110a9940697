-- The tokens of a text have the words, strings and numbers of a text.
use Rattle.std.proofs.Common.{◌≡◌, ℕ, ◌+◌, Bool, true, false, not, ◌||◌, ◌&&◌, nat_le, nat_eq, List, [], ◌∷◌, length, Option, Some, None, if◌then◌else◌, refl, sym, ap, subst, ◌∙◌, codes, inl, inr}
use Rattle.std.specs.Str.{bytes_eq}
use Rattle.std.specs.List.{list_all}
use Rattle.std.proofs.lemmas.Option.{same_Some}
use Rattle.std.proofs.lemmas.Bool.{and_parts, and_from, or_cases, eqb-true}
use Rattle.tla_token.specs.declared.place.Place.{Place}
use Rattle.tla_token.specs.declared.sign.Sign.{Sign}
use Rattle.tla_token.specs.declared.sign.Sign.TheVariants as sign
use Rattle.tla_token.specs.Places.{after, place_at}
use Rattle.tla_token.specs.Signs.{is_among}
use Rattle.tla_token.specs.Words.{pluscal_words, is_pluscal_word, is_tla_word, is_reserved}
use Rattle.tla_token.specs.Lexemes.{Kind, name, number, string, one, other, IsName, IsLexeme, is_plain, escaped, in_front, unquoted, behind_backslash}
use Rattle.tla_token.specs.Tokens.{Piece, blank, block, line, lexeme, bytes_of, AllFit, Tok, tokens_of}
use Rattle.tla_token.specs.Tokens as text
use Rattle.tla_token.proofs.Spelled.{same_bytes}
use Rattle.tla_tree.specs.Tree.{Word}
use Rattle.tla_tree.specs.Lexical.{TokenView, Token}
use Rattle.tla_tree.specs.Lexical as tk
use Rattle.tla_tree.specs.TokenViews.{sign_kind, kind_among, word_kinds, word_kind, kind_of, views}
use Rattle.tla_tree.specs.laws.Writable.{IsField, is_spellable, IsOfText, AreOfText, IsSmall, AreSmall}

-- ---- words

-- what is true of each in a list is true of one that is among them
pub among_holds : (p : Word → Bool) (vs : List Word) (w : Word) → is_among vs w ≡ true → list_all p vs ≡ true → p w ≡ true
among_holds p [] w h k = absurd cc
among_holds p (v ∷ vs) w h k =
    let both = and_parts (p v) (list_all p vs) k in
    elim (or_cases (bytes_eq v w) (is_among vs w) h) [
      | inl e ↦ (let d : v ≡ w = same_bytes v w e in rw d at both.0)
      | inr e ↦ among_holds p vs w e both.1
    ]

pluscal_field : (w : Word) → IsName w → is_pluscal_word w ≡ true → IsField w
pluscal_field w n h = (n, among_holds (λ v. not (is_tla_word v)) pluscal_words w h refl)

-- none of these is a word, a string or a number
abbrev AllBare : List (Word × TokenView) → Type 0
AllBare [] = Unit {0}
AllBare (p ∷ ps) = IsOfText p.1 × AllBare ps

kind_of_text : (ps : List (Word × TokenView)) (w : Word) (k : TokenView) → AllBare ps → IsOfText k → IsOfText (kind_among ps w k)
kind_of_text [] w k b h = h
kind_of_text (p ∷ ps) w k b h = by (bytes_eq p.0 w) (kind_of_text ps w k b.1 h)
  where
    by : (c : Bool) → IsOfText (kind_among ps w k) → IsOfText (if c then p.1 else kind_among ps w k)
    by true i = b.0
    by false i = i

word_of_text : (w : Word) → IsName w → IsOfText (word_kind w)
word_of_text w n = by (is_pluscal_word w) refl (is_tla_word w) refl
  where
    by : (p : Bool) → is_pluscal_word w ≡ p → (t : Bool) → is_tla_word w ≡ t → IsOfText (word_kind w)
    by true e t f = subst IsOfText (sym (reserved_is e)) (pluscal_field w n e)
      where
        reserved_is : is_pluscal_word w ≡ true → word_kind w ≡ tk.reserved w
        reserved_is e = rw e refl
    by false e true f = subst IsOfText (sym (other_is e f)) (kind_of_text word_kinds w (tk.other w) (tt, (tt, (tt, (tt, (tt, (tt, (tt, (tt, (tt, (tt, (tt, (tt, (tt, (tt, (tt, tt))))))))))))))) tt)
      where
        other_is : is_pluscal_word w ≡ false → is_tla_word w ≡ true → word_kind w ≡ kind_among word_kinds w (tk.other w)
        other_is e f = rw (e, f) refl
    by false e false f = subst IsOfText (sym (word_is e f)) (kind_of_text word_kinds w (tk.word w) (tt, (tt, (tt, (tt, (tt, (tt, (tt, (tt, (tt, (tt, (tt, (tt, (tt, (tt, (tt, tt))))))))))))))) (n, none e f))
      where
        word_is : is_pluscal_word w ≡ false → is_tla_word w ≡ false → word_kind w ≡ kind_among word_kinds w (tk.word w)
        word_is e f = rw (e, f) refl

        none : is_pluscal_word w ≡ false → is_tla_word w ≡ false → not (is_reserved w) ≡ true
        none e f = rw (e, f) refl

-- ---- strings

escaped_spellable : (b : ℕ) (c : ℕ) → escaped b ≡ Some c → is_spellable c ≡ true
escaped_spellable b c e = by (nat_eq b 34 || nat_eq b 92) refl (nat_eq b 116) refl (nat_eq b 110) refl (nat_eq b 102) refl (nat_eq b 114) refl e
  where
    quoted : (x : ℕ) → (nat_eq x 34 || nat_eq x 92) ≡ true → is_spellable x ≡ true
    quoted x h = elim (or_cases (nat_eq x 34) (nat_eq x 92) h) [
      | inl i ↦ ap is_spellable (eqb-true x 34 i)
      | inr i ↦ ap is_spellable (eqb-true x 92 i)
    ]

    by : (q : Bool) → (nat_eq b 34 || nat_eq b 92) ≡ q → (t : Bool) → nat_eq b 116 ≡ t → (n : Bool) → nat_eq b 110 ≡ n → (f : Bool) → nat_eq b 102 ≡ f → (r : Bool) → nat_eq b 114 ≡ r
        → escaped b ≡ Some c → is_spellable c ≡ true
    by true hq t ht n hn f hf r hr e = (let d : Some b ≡ Some c = rw hq at e in ap is_spellable (sym (same_Some b c d)) ∙ quoted b hq)
    by false hq true ht n hn f hf r hr e = (let d : Some 9 ≡ Some c = rw (hq, ht) at e in ap is_spellable (sym (same_Some 9 c d)))
    by false hq false ht true hn f hf r hr e = (let d : Some 10 ≡ Some c = rw (hq, ht, hn) at e in ap is_spellable (sym (same_Some 10 c d)))
    by false hq false ht false hn true hf r hr e = (let d : Some 12 ≡ Some c = rw (hq, ht, hn, hf) at e in ap is_spellable (sym (same_Some 12 c d)))
    by false hq false ht false hn false hf true hr e = (let d : Some 13 ≡ Some c = rw (hq, ht, hn, hf, hr) at e in ap is_spellable (sym (same_Some 13 c d)))
    by false hq false ht false hn false hf false hr e = (let d : None ≡ Some c = rw (hq, ht, hn, hf, hr) at e in absurd cc)

plain_spellable : (b : ℕ) (d : Bool) → is_plain b ≡ d → (c : ℕ) → (if d then Some b else None) ≡ Some c → is_spellable c ≡ true
plain_spellable b false h c e = absurd cc
plain_spellable b true h c e =
    let p = and_parts (not (nat_eq b 34) && not (nat_eq b 92) && nat_le 32 b) (nat_le b 126) h in
    let q = and_parts (not (nat_eq b 34) && not (nat_eq b 92)) (nat_le 32 b) p.0 in
    let s : is_spellable b ≡ true = rw (q.1, p.1) refl in
    ap is_spellable (sym (same_Some b c e)) ∙ s

in_front_spellable : (o : Option ℕ) (r : Option (List ℕ)) (w : List ℕ) → in_front o r ≡ Some w → ((c : ℕ) → o ≡ Some c → is_spellable c ≡ true) → ((v : List ℕ) → r ≡ Some v → list_all is_spellable v ≡ true) → list_all is_spellable w ≡ true
in_front_spellable None r w e h k = absurd cc
in_front_spellable (Some c) None w e h k = absurd cc
in_front_spellable (Some c) (Some v) w e h k = ap (list_all is_spellable) (sym (same_Some (c ∷ v) w e)) ∙ and_from (is_spellable c) (list_all is_spellable v) (h c refl) (k v refl)

string_step : (b : ℕ) (bs w : List ℕ) (k : Bool) → nat_eq b 92 ≡ k → unquoted (b ∷ bs) ≡ Some w → ((v : List ℕ) → unquoted bs ≡ Some v → list_all is_spellable v ≡ true) → ((v : List ℕ) → behind_backslash bs ≡ Some v → list_all is_spellable v ≡ true) → list_all is_spellable w ≡ true
string_step b bs w true k e x y = (let f : behind_backslash bs ≡ Some w = rw k at e in y w f)
string_step b bs w false k e x y =
    let f : in_front (if is_plain b then Some b else None) (unquoted bs) ≡ Some w = ap (λ (c : Bool). if c then behind_backslash bs else in_front (if is_plain b then Some b else None) (unquoted bs)) (sym k) ∙ e in
    in_front_spellable (if is_plain b then Some b else None) (unquoted bs) w f (plain_spellable b (is_plain b) refl) x

mutual
  unquoted_spellable : (raw w : List ℕ) → unquoted raw ≡ Some w → list_all is_spellable w ≡ true
  unquoted_spellable [] w e = ap (list_all is_spellable) (sym (same_Some [] w e))
  unquoted_spellable (b ∷ bs) w e = string_step b bs w (nat_eq b 92) refl e (λ v f. unquoted_spellable bs v f) (λ v f. behind_spellable bs v f)

  behind_spellable : (raw w : List ℕ) → behind_backslash raw ≡ Some w → list_all is_spellable w ≡ true
  behind_spellable [] w e = absurd cc
  behind_spellable (b ∷ bs) w e = in_front_spellable (escaped b) (unquoted bs) w e (escaped_spellable b) (λ v f. unquoted_spellable bs v f)

-- ---- lexemes

sign_of_text : (s : Sign) → IsOfText (sign_kind s)
sign_of_text sign.MapsTo = tt
sign_of_text sign.Equivalent = tt
sign_of_text sign.Pair = tt
sign_of_text sign.Override = tt
sign_of_text sign.Range = tt
sign_of_text sign.And = tt
sign_of_text sign.Or = tt
sign_of_text sign.Implies = tt
sign_of_text sign.Arrow = tt
sign_of_text sign.Defined = tt
sign_of_text sign.OpenTuple = tt
sign_of_text sign.CloseTuple = tt
sign_of_text sign.AtMost = tt
sign_of_text sign.AtLeast = tt
sign_of_text sign.NotEqual = tt
sign_of_text sign.Box = tt
sign_of_text sign.Colon = tt
sign_of_text sign.Comma = tt
sign_of_text sign.Dot = tt
sign_of_text sign.OpenRound = tt
sign_of_text sign.CloseRound = tt
sign_of_text sign.OpenSquare = tt
sign_of_text sign.CloseSquare = tt
sign_of_text sign.OpenCurly = tt
sign_of_text sign.CloseCurly = tt
sign_of_text sign.Equal = tt
sign_of_text sign.Less = tt
sign_of_text sign.Greater = tt
sign_of_text sign.Plus = tt
sign_of_text sign.Minus = tt
sign_of_text sign.Times = tt
sign_of_text sign.Percent = tt
sign_of_text sign.Not = tt
sign_of_text sign.Bang = tt
sign_of_text sign.Without = tt
sign_of_text sign.In = tt
sign_of_text sign.NotIn = tt
sign_of_text sign.SubsetEq = tt
sign_of_text sign.Cup = tt
sign_of_text sign.Cap = tt
sign_of_text sign.Divide = tt
sign_of_text sign.Concat = tt
sign_of_text sign.ForAll = tt
sign_of_text sign.Exists = tt
sign_of_text sign.Assign = tt
sign_of_text sign.Parallel = tt
sign_of_text sign.Semicolon = tt

other_of_text : (w : Word) → IsOfText (kind_of (other w))
other_of_text w = by (bytes_eq w (codes "'"))
  where
    by : (b : Bool) → IsOfText (if b then tk.mark tk.prime else tk.other w)
    by true = tt
    by false = tt

lexeme_of_text : (k : Kind) (bytes : List ℕ) → IsLexeme k bytes → IsSmall k → IsOfText (kind_of k)
lexeme_of_text (name w) bytes h s = word_of_text w h.1
lexeme_of_text (number n) bytes h s = s
lexeme_of_text (string w) bytes (raw, e, u) s = unquoted_spellable raw w u
lexeme_of_text (one o) bytes h s = sign_of_text o
lexeme_of_text (other w) bytes h s = other_of_text w

pieces_of_text : (p : Place) (at : ℕ) (ps : List Piece) → AllFit ps → AreSmall (tokens_of p at ps) → AreOfText (views (tokens_of p at ps))
pieces_of_text p at [] f s = tt
pieces_of_text p at (blank b ∷ ps) f s = pieces_of_text (after p (b ∷ [])) (at + 1) ps f.1 s
pieces_of_text p at (block w ∷ ps) f s = pieces_of_text (after p (bytes_of (block w))) (at + length (bytes_of (block w))) ps f.1 s
pieces_of_text p at (line w ∷ ps) f s = pieces_of_text (after p (bytes_of (line w))) (at + length (bytes_of (line w))) ps f.1 s
pieces_of_text p at (lexeme k w ∷ ps) f s = (lexeme_of_text k w f.0.1 s.0, pieces_of_text (after p w) (at + length w) ps f.1 s.1)

pub text_tokens : (w : List ℕ) (from to : ℕ) (ts : List text.Token) → Tok w from to ts → AreSmall ts → AreOfText (views ts)
text_tokens w from to ts k s =
    let F : List text.Token → Type 0 = λ us. AreOfText (views us) in
    let G : List text.Token → Type 0 = λ us. AreSmall us in
    subst F (sym k.tokens) (pieces_of_text (place_at w from) from k.pieces k.fit (subst G k.tokens s))
