-- What is read is the farthest: no spelled expression begins with the tokens through the one at which reading stops.
use Rattle.std.proofs.Common.{◌≡◌, ℕ, suc, ◌+◌, ◌*◌, ◌≤◌, List, [], ◌∷◌, ◌++◌, length, map, Some, None, Ok, Err, inl, inr, sym, ap, ◌∙◌, append_assoc, length-append, arith}
use Rattle.tla_token.specs.declared.rule.Rule.{Rule}
use Rattle.tla_tree.specs.Lexical.{Token}
use Rattle.tla_tree.specs.Spelling.{Phrase, Good, spell}
use Rattle.tla_tree.specs.Reader.{Stop, Out, free, read}
use Rattle.tla_tree.specs.FirstStop.{looks, Begins, phrases}
use Rattle.tla_tree.proofs.Columns.{begun}
use Rattle.tla_tree.proofs.ReadAll.{spelled_is_read}
use Rattle.tla_tree.proofs.Alike.{rest_of, Alike}
use Rattle.tla_tree.proofs.AlikeSteps.{fair_readers}

no_end : (j : List Token) (t : Token) (s : List Token) → ◌≡◌ {A = List Token} (j ++ t ∷ s) [] → ⊥
no_end [] t s e = cc
no_end (x ∷ j) t s e = cc

-- one stops at t, the other can't go to the end
apart : {A : Type 0} (k : List Token) (t : Token) (r s : List Token) (o q : Out A) → Alike k t r s o q → rest_of o ≡ t ∷ r → rest_of q ≡ [] → ⊥
apart k t r s (Ok x) q (inl (j, l, d, i)) e f = no_end j t s (sym (ap rest_of i) ∙ f)
apart k t r s (Err u) q (inl (j, l, d, i)) e f = no_end j t s (sym (ap rest_of i) ∙ f)
apart k t r s o q (inr (w, v)) e f =
    let lengths : length r ≡ length w.0 + suc (length r) = ap length (w.1 ∙ ap (λ (u : List Token). w.0 ++ u) e) ∙ length-append w.0 (t ∷ r) in
    absurd (omega (arith, lengths))

nothing_through : (e : ℕ) (k : List Token) (t : Token) (r : List Token) → rest_of (read e (k ++ t ∷ r)) ≡ t ∷ r → (a : Phrase) (more : List Token) → Good e a → spell a [] ≡ k ++ t ∷ more → ⊥
nothing_through e k t r stop a more g s =
    let n = 4 * length (k ++ t ∷ r) in
    let m = 4 * length (k ++ t ∷ more) in
    let b = 4 + 4 * length k in
    let i : b ≤ n = omega (arith, length-append k (t ∷ r)) in
    let j : b ≤ m = omega (arith, length-append k (t ∷ more)) in
    let both = ((fair_readers b n m i j None).expr e free).alike k t r more (omega arith) in
    let ends : read e (k ++ t ∷ more) ≡ Ok (a, []) = ap (λ (ts : List Token). read e ts) (sym s) ∙ spelled_is_read e a g in
    apart k t r more (read e (k ++ t ∷ r)) (read e (k ++ t ∷ more)) both stop (ap rest_of ends)

-- a text that begins so is a phrase before others
pub begun_none : (e : ℕ) (k : List Token) (t : Token) (r : List Token) → rest_of (read e (k ++ t ∷ r)) ≡ t ∷ r → Begins (phrases e) (map Some (looks (k ++ t ∷ []))) → ⊥
begun_none e k t r stop h =
    let w = begun e (k ++ t ∷ []) h in
    nothing_through e k t r stop w.0 w.1 w.2 (w.3 ∙ append_assoc k (t ∷ []) w.1)

pub read_is_farthest : (e : ℕ) (ts : List Token) (a : Phrase) (t : Token) (r : List Token) → read e ts ≡ Ok (a, t ∷ r) → (k : List Token) → ts ≡ k ++ t ∷ r → Begins (phrases e) (map Some (looks (k ++ t ∷ []))) → ⊥
read_is_farthest e ts a t r o k s h = begun_none e k t r (ap (λ (us : List Token). rest_of (read e us)) (sym s) ∙ ap rest_of o) h

pub refused_is_farthest : (e : ℕ) (ts : List Token) (t : Token) (r : List Token) → (q : Rule) → read e ts ≡ Err (q, t ∷ r) → (k : List Token) → ts ≡ k ++ t ∷ r → Begins (phrases e) (map Some (looks (k ++ t ∷ []))) → ⊥
refused_is_farthest e ts t r q o k s h = begun_none e k t r (ap (λ (us : List Token). rest_of (read e us)) (sym s) ∙ ap rest_of o) h

-- where the end of the tokens is refused they are no expression
pub refused_is_unspelled : (e : ℕ) (ts : List Token) (u : Stop) → read e ts ≡ Err u → (a : Phrase) → Good e a → ts ≡ spell a [] → ⊥
refused_is_unspelled e ts u o a g s = (let both : ◌≡◌ {A = Out Phrase} (Err u) (Ok (a, [])) = sym o ∙ ap (λ (vs : List Token). read e vs) s ∙ spelled_is_read e a g in cc)
