-- Units of tokens, one after the other.
use Rattle.std.proofs.Common.{◌≡◌, ℕ, zero, suc, ◌+◌, ◌-◌, ◌<◌, ◌≤◌, Bool, true, false, ◌&&◌, List, [], ◌∷◌, length, take, drop, refl, sym, ap, ◌∙◌, arith}
use Rattle.std.proofs.lemmas.Bool.{and_parts}
use Rattle.std.proofs.lemmas.List.{drop-map, take-map, length-drop, length-map}
use Rattle.tla_token.specs.declared.token.Token as code
use Rattle.tla_token.specs.declared.token.Tokens.{Tokens}
use Rattle.tla_token.specs.TokensSeen.{token_seen}
use Rattle.tla_token.specs.KeptWords.{is_kept, are_kept}
use Rattle.tla_tree.specs.Lexical.{Token}
use Rattle.tla_tree.specs.TokenViews.{view}
use Rattle.tla_tree.specs.Reader.{tail}
use Rattle.module_tree.specs.FileUnits.{begins_unit, cut, cut_at}
use Rattle.expr_nodes.specs.ReadIn.{seen}
use Rattle.expr_nodes.specs.Ahead.{ahead}
use Rattle.expr_nodes.proofs.AheadLemmas.{ahead_tail}
use Rattle.module_outside.specs.Fronts.{front_begins}
use Rattle.module_outside.proofs.FrontLaws.{ahead_end}

-- ---- where the next unit begins

begun_front : (ts : List Token) → front_begins ts ≡ true → length (cut ts).front ≡ 0
begun_front [] h = refl
begun_front (t ∷ ts) h = ap (λ (b : Bool). length (cut_at b t (cut ts)).front) h

longer_front : (ts : List Token) → 0 < length ts → front_begins ts ≡ false → length (cut ts).front ≡ 1 + length (cut (tail ts)).front
longer_front [] l h = absurd (omega (arith, l))
longer_front (t ∷ ts) l h = ap (λ (b : Bool). length (cut_at b t (cut ts)).front) h ∙ omega arith

pub ahead_length : (v : Tokens) (i : ℕ) → i ≤ length v.items.items → length (ahead v i) + i ≡ length v.items.items
ahead_length v i h =
    let m = length-map (drop i v.items.items) (λ (t : code.Token). view (token_seen v.bytes.items t)) in
    let d = length-drop i v.items.items in
    omega (arith, m, d, h)

pub begun_here : (v : Tokens) (from i : ℕ) (b : Bool) → b ≡ front_begins (ahead v i) → b ≡ true → from + length (cut (ahead v from)).front ≡ i + length (cut (ahead v i)).front → i ≡ from + length (cut (ahead v from)).front
begun_here v from i b h t e = (let z = begun_front (ahead v i) (sym h ∙ t) in omega (arith, z, e))

pub none_begun : (v : Tokens) (from i : ℕ) → length v.items.items ≤ i → from + length (cut (ahead v from)).front ≡ i + length (cut (ahead v i)).front → i ≡ from + length (cut (ahead v from)).front
none_begun v from i l e = (let z : length (cut (ahead v i)).front ≡ 0 = ap (λ (ts : List Token). length (cut ts).front) (ahead_end v i l) in omega (arith, z, e))

pub begun_further : (v : Tokens) (from i : ℕ) (b : Bool) → i < length v.items.items → b ≡ front_begins (ahead v i) → b ≡ false
    → from + length (cut (ahead v from)).front ≡ i + length (cut (ahead v i)).front → from + length (cut (ahead v from)).front ≡ (i + 1) + length (cut (ahead v (i + 1))).front
begun_further v from i b l h f e =
    let n = ahead_length v i (omega (arith, l)) in
    let z = longer_front (ahead v i) (omega (arith, n, l)) (sym h ∙ f) in
    let y : length (cut (ahead v (i + 1))).front ≡ length (cut (tail (ahead v i))).front = ap (λ (ts : List Token). length (cut ts).front) (ahead_tail v i) in
    omega (arith, z, y, e)

-- ---- the tokens of one

kept_taken : (bytes : List ℕ) (n : ℕ) (ts : List code.Token) → are_kept bytes ts ≡ true → are_kept bytes (take n ts) ≡ true
kept_taken bytes zero ts h = refl
kept_taken bytes (suc n) [] h = refl
kept_taken bytes (suc n) (t ∷ ts) h = (let p = and_parts (is_kept bytes t.kind) (are_kept bytes ts) h in λ i. p.0 i && kept_taken bytes n ts p.1 i)

kept_dropped : (bytes : List ℕ) (n : ℕ) (ts : List code.Token) → are_kept bytes ts ≡ true → are_kept bytes (drop n ts) ≡ true
kept_dropped bytes zero ts h = h
kept_dropped bytes (suc n) [] h = refl
kept_dropped bytes (suc n) (t ∷ ts) h = kept_dropped bytes n ts (and_parts (is_kept bytes t.kind) (are_kept bytes ts) h).1

pub part_kept : (bytes old : List ℕ) (from n : ℕ) (ts us : List code.Token) → bytes ≡ old → us ≡ take n (drop from ts) → are_kept old ts ≡ true → are_kept bytes us ≡ true
part_kept bytes old from n ts us b e h = (λ i. are_kept (b i) (e i)) ∙ kept_taken old n (drop from ts) (kept_dropped old from ts h)

pub part_ahead : (v : Tokens) (bytes : List ℕ) (us : List code.Token) (from n : ℕ) → bytes ≡ v.bytes.items → us ≡ take n (drop from v.items.items) → seen bytes us ≡ take n (ahead v from)
part_ahead v bytes us from n b e = (λ i. seen (b i) (e i)) ∙ sym (take-map (λ (t : code.Token). view (token_seen v.bytes.items t)) n (drop from v.items.items))

-- ---- units

dropped_none : {A : Type 0} (n : ℕ) (xs : List A) → xs ≡ [] → drop n xs ≡ []
dropped_none zero xs e = e
dropped_none (suc n) [] e = refl
dropped_none (suc n) (x ∷ xs) e = absurd cc

drop_add : {A : Type 0} (i k : ℕ) (xs : List A) → drop (i + k) xs ≡ drop k (drop i xs)
drop_add zero k xs = ap (λ (n : ℕ). drop n xs) (let e : 0 + k ≡ k = omega arith in e)
drop_add (suc i) k [] = dropped_none (suc i + k) [] refl ∙ sym (dropped_none k [] refl)
drop_add (suc i) k (x ∷ xs) = ap (λ (n : ℕ). drop n (x ∷ xs)) (let e : suc i + k ≡ suc (i + k) = omega arith in e) ∙ drop_add i k xs

-- at a token with which one begins, the first unit goes up to the next
pub unit_there : (v : Tokens) (i end : ℕ) → i < length v.items.items → front_begins (ahead v i) ≡ true → end ≡ (i + 1) + length (cut (ahead v (i + 1))).front
    → (cut (ahead v i)).units ≡ take (end - i) (ahead v i) ∷ (cut (ahead v end)).units
unit_there v i end l b e = by (ahead v i) refl b (omega (arith, n, l))
  where
    n : length (ahead v i) + i ≡ length v.items.items
    n = ahead_length v i (omega (arith, l))

    taken : (ts : List Token) → take (length (cut ts).front) ts ≡ (cut ts).front
    taken [] = refl
    taken (t ∷ ts) = of (begins_unit t) (taken ts)
      where
        of : (b : Bool) → take (length (cut ts).front) ts ≡ (cut ts).front → take (length (cut_at b t (cut ts)).front) (t ∷ ts) ≡ (cut_at b t (cut ts)).front
        of true h = refl
        of false h = ap (λ (us : List Token). t ∷ us) h

    dropped : (ts : List Token) → (cut (drop (length (cut ts).front) ts)).units ≡ (cut ts).units
    dropped [] = refl
    dropped (t ∷ ts) = of (begins_unit t) refl (dropped ts)
      where
        of : (b : Bool) → begins_unit t ≡ b → (cut (drop (length (cut ts).front) ts)).units ≡ (cut ts).units → (cut (drop (length (cut_at b t (cut ts)).front) (t ∷ ts))).units ≡ (cut_at b t (cut ts)).units
        of true q h = rw q refl
        of false q h = h

    further : (k : ℕ) (ts : List Token) → ahead v (i + 1) ≡ ts → ahead v ((i + 1) + k) ≡ drop k ts
    further k ts h = ap (seen v.bytes.items) (drop_add (i + 1) k v.items.items) ∙ sym (drop-map (λ (t : code.Token). view (token_seen v.bytes.items t)) k (drop (i + 1) v.items.items)) ∙ ap (drop k) h

    by : (ts : List Token) → ahead v i ≡ ts → front_begins ts ≡ true → 0 < length ts → (cut ts).units ≡ take (end - i) ts ∷ (cut (ahead v end)).units
    by [] h b l = absurd (omega (arith, l))
    by (t ∷ ts) h b l =
        let next : ahead v (i + 1) ≡ ts = ahead_tail v i ∙ ap tail h in
        let k : end - i ≡ suc (length (cut ts).front) = (let f : length (cut (ahead v (i + 1))).front ≡ length (cut ts).front = ap (λ (us : List Token). length (cut us).front) next in omega (arith, e, f)) in
        ap (λ (b : Bool). (cut_at b t (cut ts)).units) b
        ∙ (λ j. (t ∷ sym (taken ts) j) ∷ sym (dropped ts) j)
        ∙ (λ j. take (sym k j) (t ∷ ts) ∷ (cut ((sym (further (length (cut ts).front) ts next) ∙ ap (ahead v) (sym (e ∙ ap (λ (us : List Token). (i + 1) + length (cut us).front) next))) j)).units)

-- no unit is before the first token with which one begins
pub units_first : (v : Tokens) (i : ℕ) → i ≡ 0 + length (cut (ahead v 0)).front → (cut (ahead v i)).units ≡ (cut (ahead v 0)).units
units_first v i e = ap (λ (ts : List Token). (cut ts).units) (ap (ahead v) (e ∙ (let n : 0 + length (cut (ahead v 0)).front ≡ length (cut (ahead v 0)).front = omega arith in n)) ∙ further (length (cut (ahead v 0)).front)) ∙ dropped (ahead v 0)
  where
    further : (k : ℕ) → ahead v k ≡ drop k (ahead v 0)
    further k = sym (drop-map (λ (t : code.Token). view (token_seen v.bytes.items t)) k v.items.items)

    dropped : (ts : List Token) → (cut (drop (length (cut ts).front) ts)).units ≡ (cut ts).units
    dropped [] = refl
    dropped (t ∷ ts) = of (begins_unit t) refl (dropped ts)
      where
        of : (b : Bool) → begins_unit t ≡ b → (cut (drop (length (cut ts).front) ts)).units ≡ (cut ts).units → (cut (drop (length (cut_at b t (cut ts)).front) (t ∷ ts))).units ≡ (cut_at b t (cut ts)).units
        of true q h = rw q refl
        of false q h = h
