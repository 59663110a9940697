-- What is spelled and what is read rests on kinds and columns.
use Rattle.std.proofs.Common.{◌≡◌, ℕ, List, [], ◌∷◌, ◌++◌, map, drop, Option, Some, Ok, refl, sym, ap, ◌∙◌}
use Rattle.std.proofs.lemmas.List.{map-append, append-nil}
use Rattle.tla_tree.specs.Lexical.{TokenView, Token, token}
use Rattle.tla_tree.specs.Spelling.{Phrase, Good, spell}
use Rattle.tla_tree.specs.Reader.{read}
use Rattle.tla_tree.specs.Nesting.{counts}
use Rattle.tla_tree.specs.FirstStop.{Look, look, looks, Begins, phrases, in_expression}
use Rattle.tla_tree.specs.laws.Columns.{lineless}
use Rattle.tla_tree.proofs.ReadAll.{spelled_is_read}
use Rattle.tla_tree.proofs.SoundLists.{read_is_spelled}
use Rattle.tla_tree.proofs.ColumnsGood.{good_same}
use Rattle.tla_tree.proofs.ColumnsPut.{put}

pub no_looks : (ts : List Token) → looks ts ≡ [] → ts ≡ []
no_looks [] h = refl
no_looks (t ∷ ts) h = absurd cc

pub spelled_again : (e : ℕ) (ts us : List Token) → looks ts ≡ looks us → (a : Phrase) → Good e a → ts ≡ spell a [] → (b : Phrase) × Good e b × (us ≡ spell b []) × (lineless b ≡ lineless a)
spelled_again e ts us h a g s =
    let v = put a [] us (sym h ∙ ap looks s) in
    let none = no_looks v.rest v.looks_same in
    (v.again, good_same e a v.again (sym v.same) g, sym v.tokens ∙ ap (λ (vs : List Token). spell v.again vs) none, v.same)

pub read_again : (e : ℕ) (ts us : List Token) → looks ts ≡ looks us → (a : Phrase) → read e ts ≡ Ok (a, []) → (b : Phrase) × (read e us ≡ Ok (b, [])) × (lineless b ≡ lineless a)
read_again e ts us h a r =
    let w = read_is_spelled e ts [] a r in
    let v = spelled_again e ts us h a w.0 w.1 in
    (v.0, ap (λ (vs : List Token). read e vs) v.2 ∙ spelled_is_read e v.0 v.1, v.3)

-- tokens of these kinds and columns
pub bare : TokenView × ℕ → Token
bare k = token (record { line = 0; col = k.1 }) k.0

pub looks_of_bare : (ts : List Token) (ks : List (TokenView × ℕ)) → looks (ts ++ map bare ks) ≡ looks ts ++ ks
unfolding bare
looks_of_bare [] [] = refl
looks_of_bare [] (k ∷ ks) = ap (λ (ls : List (TokenView × ℕ)). k ∷ ls) (looks_of_bare [] ks)
looks_of_bare (t ∷ ts) ks = ap (λ (ls : List (TokenView × ℕ)). look t ∷ ls) (looks_of_bare ts ks)

pub looks_ahead : (ts us : List Token) → looks (ts ++ us) ≡ looks ts ++ looks us
looks_ahead [] us = refl
looks_ahead (t ∷ ts) us = ap (λ (ls : List (TokenView × ℕ)). look t ∷ ls) (looks_ahead ts us)

first_look : Look → List (Option Look) → Look
first_look x (Some y ∷ ys) = y
first_look x ys = x

-- what is looked at of tokens, with or without the end after them, begins with what is looked at of others
pub begun_looks : (xs ys : List Look) (us more : List (Option Look)) → ((y : Look) (vs : List (Option Look)) → us ≡ Some y ∷ vs → ⊥) → map Some xs ++ us ≡ map Some ys ++ more → (zs : List Look) × (xs ≡ ys ++ zs)
unfolding first_look
begun_looks xs [] us more h e = (xs, refl)
begun_looks [] (y ∷ ys) us more h e = absurd (h y (map Some ys ++ more) e)
begun_looks (x ∷ xs) (y ∷ ys) us more h e =
    let same : x ≡ y = ap (first_look x) e in
    let rest = begun_looks xs ys us more h (ap (drop 1) e) in
    (rest.0, ap (λ (ls : List Look). x ∷ ls) rest.1 ∙ ap (λ (z : Look). z ∷ (ys ++ rest.0)) same)

pub looked_ahead : (ts us : List Token) → map Some (looks (ts ++ us)) ≡ map Some (looks ts) ++ map Some (looks us)
looked_ahead ts us = ap (map Some) (looks_ahead ts us) ∙ map-append Some (looks ts) (looks us)

pub begun : (e : ℕ) (ts : List Token) → Begins (phrases e) (map Some (looks ts)) → (a : Phrase) × (more : List Token) × Good e a × (spell a [] ≡ ts ++ more)
begun e ts (more, ns, (a, g, s, c)) =
    let ks = begun_looks (looks (spell a [])) (looks ts) [] more (λ y vs n. cc) (append-nil (map Some (looks (spell a []))) ∙ s) in
    let us = ts ++ map bare ks.0 in
    let v = spelled_again e (spell a []) us (ks.1 ∙ sym (looks_of_bare ts ks.0)) a g refl in
    (v.0, map bare ks.0, v.1, sym v.2)

pub begins : (e : ℕ) (ts more : List Token) (a : Phrase) → Good e a → spell a [] ≡ ts ++ more → Begins (phrases e) (map Some (looks ts))
begins e ts more a g s = (map Some (looks more), map in_expression (counts 0 a []), (a, g, ap (λ (us : List Token). map Some (looks us)) s ∙ looked_ahead ts more, refl))
