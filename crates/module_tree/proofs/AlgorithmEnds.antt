-- The algorithm of a file ends with the first `end algorithm` from its name on, or with the brace that closes the first one.
use Rattle.std.proofs.Common.{◌≡◌, ◌⊎◌, inl, inr, ℕ, zero, suc, ◌+◌, ◌-◌, ◌<◌, ◌≤◌, nat_le, Bool, true, false, ◌&&◌, List, [], ◌∷◌, ◌++◌, length, filter, find, drop, Option, Some, None, refl, sym, ap, subst, ◌∙◌, codes, arith}
use Rattle.std.specs.Prelude.{if◌then◌else◌}
use Rattle.std.proofs.lemmas.Bool.{and_parts, leb-true, leb-false}
use Rattle.std.proofs.lemmas.Option.{none-some, same_Some}
use Rattle.tla_token.specs.declared.sign.Sign.TheVariants.{OpenCurly, CloseCurly}
use Rattle.tla_token.specs.Lexemes.{Kind, name, one}
use Rattle.tla_token.specs.Offences.{Part, part_bytes}
use Rattle.tla_token.proofs.Spelled.{same_bytes}
use Rattle.module_tree.specs.TextFront.{Text}
use Rattle.module_tree.specs.Beginnings.{is_fair, opening}
use Rattle.module_tree.specs.ModuleParts.{kind_in}
use Rattle.module_tree.specs.Walk.{Located, walk}
use Rattle.module_tree.specs.FileParts.{within, beginnings_in, first_of, holds_algorithm}
use Rattle.module_tree.specs.AlgorithmText.{Stage, head, titled, open_p, open_c, past_p, past_c, is_word, next_p, next_c, next, is_past, is_c, after_part, Inside, with_part, inner_part, inside, AlgorithmText, algorithm_at, algorithm_of, algorithm_in}
use Rattle.module_tree.specs.laws.AlgorithmEnd.{with_kind, kinds_in, words_before_name, from_name, behind_name, end_algorithm, EndsWithWords, is_open_brace, is_close_brace, opened, closed, EndsWithBrace}
use Rattle.module_tree.proofs.Braces.{opened_c, other_c, closed_last, closed_more, titled_open, titled_other}

-- ---- its tokens, one after another

abbrev pub run : Stage → List Kind → Stage
run st [] = st
run st (k ∷ ks) = run (next st k) ks

-- it isn't past its end before any of these
abbrev pub Going : Stage → List Kind → Type 0
Going st [] = Unit {0}
Going st (k ∷ ks) = (is_past st ≡ false) × Going (next st k) ks

pub record Walked (st : Stage) (i : Inside) : Type 0 where
  pub stage : i.stage ≡ run st (kinds_in i.parts)
  pub going : Going st (kinds_in i.parts)

one_more : (st : Stage) (n : ℕ) (p : Part) (i : Inside) → is_past st ≡ false → Walked (after_part st (kind_in p)) i → Walked st (with_part (n, p) i)
one_more st n p i e w = by (kind_in p) refl w
  where
    ks : List Kind
    ks = kinds_in i.parts

    by : (o : Option Kind) → kind_in p ≡ o → Walked (after_part st o) i → Walked st (with_part (n, p) i)
    by (Some k) q w = record {
      stage = w.stage ∙ ap (λ (o : Option Kind). run st (with_kind o ks)) (sym q);
      going = subst (λ (o : Option Kind). Going st (with_kind o ks)) (sym q) (e, w.going);
    }
    by None q w = record {
      stage = w.stage ∙ ap (λ (o : Option Kind). run st (with_kind o ks)) (sym q);
      going = subst (λ (o : Option Kind). Going st (with_kind o ks)) (sym q) w.going;
    }

walked : (st : Stage) (n k left : ℕ) (s : Text) → Walked st (inside st n k left s)
walked st n k zero s = record { stage = refl; going = tt }
walked st n k (suc left) [] = record { stage = refl; going = tt }
walked st n (suc k) (suc left) (b ∷ s) = walked st (suc n) k left s
walked st n zero (suc left) (b ∷ s) = by (is_past st) refl (walked (after_part st (kind_in p)) (suc n) (length (part_bytes p) - 1) left s)
  where
    p : Part
    p = inner_part left b s

    i : Inside
    i = inside (after_part st (kind_in p)) (suc n) (length (part_bytes p) - 1) left s

    is : (t : Bool) → is_past st ≡ t → inside st n zero (suc left) (b ∷ s) ≡ (if t then record { parts = []; stage = st; to = n } else with_part (n, p) i)
    is t e = ap (λ (t : Bool). if t then record { parts = []; stage = st; to = n } else with_part (n, p) i) e

    by : (t : Bool) → is_past st ≡ t → Walked (after_part st (kind_in p)) i → Walked st (inside st n zero (suc left) (b ∷ s))
    by true e w = subst (Walked st) (sym (is true e)) (record { stage = refl; going = tt })
    by false e w = subst (Walked st) (sym (is false e)) (one_more st n p i e w)

-- ---- lists that are too short

no_room : {A : Type 0} (a : A) (us vs : List A) → [] ≡ us ++ a ∷ vs → ⊥
no_room a [] vs e = absurd cc
no_room a (u ∷ us) vs e = absurd cc

no_pair : (k : Kind) (us vs : List Kind) → k ∷ [] ≡ us ++ (end_algorithm ++ vs) → ⊥
no_pair k [] vs e = absurd cc
no_pair k (u ∷ us) vs e = no_room (name (codes "end")) us (name (codes "algorithm") ∷ vs) (ap (drop 1) e)

pub none_past : (st : Stage) (ks : List Kind) → is_past st ≡ true → Going st ks → ks ≡ []
none_past st [] e g = refl
none_past st (k ∷ ks) e g = (let f : false ≡ true = sym g.0 ∙ e in absurd cc)

-- ---- one syntax or the other

abbrev is_p : Stage → Bool
is_p (open_p e) = true
is_p past_p = true
is_p st = false

p_next : (e : Bool) (k : Kind) → is_p (next_p e k) ≡ true
p_next e k = by (e && is_word (codes "algorithm") k) refl
  where
    by : (t : Bool) → (e && is_word (codes "algorithm") k) ≡ t → is_p (next_p e k) ≡ true
    by true q = rw q refl
    by false q = rw q refl

p_stays : (st : Stage) (ks : List Kind) → is_p st ≡ true → is_p (run st ks) ≡ true
p_stays st [] e = e
p_stays (open_p b) (k ∷ ks) e = p_stays (next_p b k) ks (p_next b k)
p_stays past_p (k ∷ ks) e = p_stays past_p ks refl
p_stays st (k ∷ ks) e = absurd cc

c_next : (d : ℕ) (k : Kind) → is_c (next_c d k) ≡ true
c_next d (one OpenCurly) = refl
c_next d (one CloseCurly) = by (nat_le d 1) refl
  where
    by : (t : Bool) → nat_le d 1 ≡ t → is_c (if nat_le d 1 then past_c else open_c (d - 1)) ≡ true
    by true q = rw q refl
    by false q = rw q refl
c_next d k = refl

c_stays : (st : Stage) (ks : List Kind) → is_c st ≡ true → is_c (run st ks) ≡ true
c_stays st [] e = e
c_stays (open_c d) (k ∷ ks) e = c_stays (next_c d k) ks (c_next d k)
c_stays past_c (k ∷ ks) e = c_stays past_c ks refl
c_stays st (k ∷ ks) e = absurd cc

-- ---- in P-syntax

word_is : (w : Text) (k : Kind) → is_word w k ≡ true → k ≡ name w
word_is w (name v) e = ap name (same_bytes v w e)
word_is w k e = absurd cc

-- `end algorithm` after this token or with it: then nothing follows
last_words : (e : Bool) (k : Kind) (ks us vs : List Kind) → is_word (codes "end") k ≡ e → Going (open_p e) ks → k ∷ ks ≡ us ++ (end_algorithm ++ vs) → (vs ≡ []) × (run (open_p e) ks ≡ past_p)
last_words e k [] us vs q g h = absurd (no_pair k us vs h)
last_words e k (l ∷ ks) [] vs q g h =
    let k_is : k ≡ name (codes "end") = cc in
    let l_is : l ≡ name (codes "algorithm") = cc in
    let rest : ks ≡ vs = ap (drop 2) h in
    let t : e ≡ true = sym q ∙ ap (is_word (codes "end")) k_is in
    let past : next_p e l ≡ past_p = (λ i. next_p (t i) (l_is i)) in
    let none : ks ≡ [] = none_past past_p ks refl (subst (λ (st : Stage). Going st ks) past g.1) in
    (sym rest ∙ none, ap (λ (st : Stage). run st ks) past ∙ ap (run past_p) none)
last_words e k (l ∷ ks) (u ∷ us) vs q g h = by (e && is_word (codes "algorithm") l) refl (last_words (is_word (codes "end") l) l ks us vs refl)
  where
    tail : l ∷ ks ≡ us ++ (end_algorithm ++ vs)
    tail = ap (drop 1) h

    by : (t : Bool) → (e && is_word (codes "algorithm") l) ≡ t
        → (Going (open_p (is_word (codes "end") l)) ks → l ∷ ks ≡ us ++ (end_algorithm ++ vs) → (vs ≡ []) × (run (open_p (is_word (codes "end") l)) ks ≡ past_p))
        → (vs ≡ []) × (run (next_p e l) ks ≡ past_p)
    by true c deeper =
        let past : next_p e l ≡ past_p = ap (λ (t : Bool). if t then past_p else open_p (is_word (codes "end") l)) c in
        let none : ks ≡ [] = none_past past_p ks refl (subst (λ (st : Stage). Going st ks) past g.1) in
        absurd (no_pair l us vs (ap (λ (ks : List Kind). l ∷ ks) (sym none) ∙ tail))
    by false c deeper =
        let on : next_p e l ≡ open_p (is_word (codes "end") l) = ap (λ (t : Bool). if t then past_p else open_p (is_word (codes "end") l)) c in
        let d = deeper (subst (λ (st : Stage). Going st ks) on g.1) tail in
        (d.0, ap (λ (st : Stage). run st ks) on ∙ d.1)

words_found : (e : Bool) (k : Kind) (ks : List Kind) → is_word (codes "end") k ≡ e → run (open_p e) ks ≡ past_p → Going (open_p e) ks → (front : List Kind) × (k ∷ ks ≡ front ++ end_algorithm)
words_found e k [] q r g = absurd cc
words_found e k (l ∷ ks) q r g = by (e && is_word (codes "algorithm") l) refl (words_found (is_word (codes "end") l) l ks refl)
  where
    by : (t : Bool) → (e && is_word (codes "algorithm") l) ≡ t
        → (run (open_p (is_word (codes "end") l)) ks ≡ past_p → Going (open_p (is_word (codes "end") l)) ks → (front : List Kind) × (l ∷ ks ≡ front ++ end_algorithm))
        → (front : List Kind) × (k ∷ l ∷ ks ≡ front ++ end_algorithm)
    by true c deeper =
        let past : next_p e l ≡ past_p = ap (λ (t : Bool). if t then past_p else open_p (is_word (codes "end") l)) c in
        let none : ks ≡ [] = none_past past_p ks refl (subst (λ (st : Stage). Going st ks) past g.1) in
        let both = and_parts e (is_word (codes "algorithm") l) c in
        let k_is : k ≡ name (codes "end") = word_is (codes "end") k (q ∙ both.0) in
        let l_is : l ≡ name (codes "algorithm") = word_is (codes "algorithm") l both.1 in
        ([], (λ i. k_is i ∷ l_is i ∷ none i))
    by false c deeper =
        let on : next_p e l ≡ open_p (is_word (codes "end") l) = ap (λ (t : Bool). if t then past_p else open_p (is_word (codes "end") l)) c in
        let d = deeper (ap (λ (st : Stage). run st ks) (sym on) ∙ r) (subst (λ (st : Stage). Going st ks) on g.1) in
        (k ∷ d.0, ap (λ (ls : List Kind). k ∷ ls) d.1)

titled_p : (e : Bool) (k : Kind) (ks : List Kind) → is_word (codes "end") k ≡ e → run (titled e) ks ≡ past_p → Going (titled e) ks → EndsWithWords (k ∷ ks)
titled_p e k [] q r g = absurd cc
titled_p e k (l ∷ ks) q r g = by (is_open_brace l) refl
  where
    by : (t : Bool) → is_open_brace l ≡ t → EndsWithWords (k ∷ l ∷ ks)
    by true o =
        let c : is_c (run (open_c 1) ks) ≡ true = c_stays (open_c 1) ks refl in
        let same : run (open_c 1) ks ≡ past_p = ap (λ (st : Stage). run st ks) (titled_open e l (sym o)) ∙ r in
        let f : false ≡ true = ap is_c (sym same) ∙ c in
        absurd cc
    by false o =
        let on : next (titled e) l ≡ next_p e l = sym (titled_other e l (sym o)) in
        let going : Going (open_p e) (l ∷ ks) = (refl, subst (λ (st : Stage). Going st ks) on g.1) in
        let f = words_found e k (l ∷ ks) q (ap (λ (st : Stage). run st ks) (sym on) ∙ r) going in
        record { front = f.0; is = f.1; first = λ us vs h. (last_words e k (l ∷ ks) us vs q going h).0 }

headed_p : (n : ℕ) (ks : List Kind) → run (head n) ks ≡ past_p → Going (head n) ks → EndsWithWords (drop n ks)
headed_p zero [] r g = absurd cc
headed_p zero (k ∷ ks) r g = titled_p (is_word (codes "end") k) k ks refl r g.1
headed_p (suc n) [] r g = absurd cc
headed_p (suc n) (k ∷ ks) r g = headed_p n ks r g.1

-- ---- in C-syntax

record Opens (k : Kind) : Type 0 where
  opens : is_open_brace k ≡ true
  shut : is_close_brace k ≡ false
  is : k ≡ one OpenCurly

record Closes (k : Kind) : Type 0 where
  shut : is_open_brace k ≡ false
  closes : is_close_brace k ≡ true

record Neither (k : Kind) : Type 0 where
  shut : is_open_brace k ≡ false
  other : is_close_brace k ≡ false

brace : (k : Kind) → Opens k ⊎ (Closes k ⊎ Neither k)
brace (one OpenCurly) = inl (record { opens = refl; shut = refl; is = refl })
brace (one CloseCurly) = inr (inl (record { shut = refl; closes = refl }))
brace k = inr (inr (record { shut = refl; other = refl }))

counted : (p : Kind → Bool) (k : Kind) (ks : List Kind) → p k ≡ true → length (filter p (k ∷ ks)) ≡ suc (length (filter p ks))
counted p k ks e = rw e refl

left_out : (p : Kind → Bool) (k : Kind) (ks : List Kind) → p k ≡ false → length (filter p (k ∷ ks)) ≡ length (filter p ks)
left_out p k ks e = rw e refl

-- within d braces fewer than all of them are closed before the last token
still_open : (d : ℕ) (ks us vs : List Kind) (l : Kind) → 1 ≤ d → Going (open_c d) ks → ks ≡ us ++ l ∷ vs → closed us < opened us + d
still_open d ks [] vs l h g e = omega (arith, h)
still_open d [] (u ∷ us) vs l h g e = absurd cc
still_open d (k ∷ ks) (u ∷ us) vs l h g e =
    by (λ c on l1. still_open c ks us vs l l1 (subst (λ (st : Stage). Going st ks) on g.1) (ap (drop 1) e)) (brace k)
  where
    tail : ks ≡ us ++ l ∷ vs
    tail = ap (drop 1) e

    first : k ≡ u
    first = cc

    here : closed (k ∷ us) < opened (k ∷ us) + d → closed (u ∷ us) < opened (u ∷ us) + d
    here m = subst (λ (u : Kind). closed (u ∷ us) < opened (u ∷ us) + d) first m

    by : ((c : ℕ) → next_c d k ≡ open_c c → 1 ≤ c → closed us < opened us + c) → Opens k ⊎ (Closes k ⊎ Neither k) → closed (u ∷ us) < opened (u ∷ us) + d
    by deeper (inl b) =
        let m = deeper (d + 1) (sym (opened_c d k (sym b.opens))) (omega arith) in
        here (omega (arith, m, counted is_open_brace k us b.opens, left_out is_close_brace k us b.shut))
    by deeper (inr (inl b)) = on (nat_le d 1) refl
      where
        on : (t : Bool) → nat_le d 1 ≡ t → closed (u ∷ us) < opened (u ∷ us) + d
        on true q =
            let past : next_c d k ≡ past_c = sym (closed_last d k (sym b.closes) (leb-true d 1 q)) in
            let none : ks ≡ [] = none_past past_c ks refl (subst (λ (st : Stage). Going st ks) past g.1) in
            absurd (no_room l us vs (sym none ∙ tail))
        on false q =
            let more : 1 < d = leb-false d 1 q in
            let m = deeper (d - 1) (sym (closed_more d k (sym b.closes) more)) (omega (arith, more)) in
            here (omega (arith, m, more, counted is_close_brace k us b.closes, left_out is_open_brace k us b.shut))
    by deeper (inr (inr b)) =
        let m = deeper d (sym (other_c d k (sym b.shut) (sym b.other))) h in
        here (omega (arith, m, left_out is_open_brace k us b.shut, left_out is_close_brace k us b.other))

-- within d braces all are closed at the end
all_closed : (d : ℕ) (ks : List Kind) → 1 ≤ d → run (open_c d) ks ≡ past_c → Going (open_c d) ks → closed ks ≡ opened ks + d
all_closed d [] h r g = absurd cc
all_closed d (k ∷ ks) h r g =
    by (λ c on l. all_closed c ks l (ap (λ (st : Stage). run st ks) (sym on) ∙ r) (subst (λ (st : Stage). Going st ks) on g.1)) (brace k)
  where
    by : ((c : ℕ) → next_c d k ≡ open_c c → 1 ≤ c → closed ks ≡ opened ks + c) → Opens k ⊎ (Closes k ⊎ Neither k) → closed (k ∷ ks) ≡ opened (k ∷ ks) + d
    by deeper (inl b) =
        let m = deeper (d + 1) (sym (opened_c d k (sym b.opens))) (omega arith) in
        omega (arith, m, counted is_open_brace k ks b.opens, left_out is_close_brace k ks b.shut)
    by deeper (inr (inl b)) = on (nat_le d 1) refl
      where
        on : (t : Bool) → nat_le d 1 ≡ t → closed (k ∷ ks) ≡ opened (k ∷ ks) + d
        on true q =
            let least : d ≤ 1 = leb-true d 1 q in
            let past : next_c d k ≡ past_c = sym (closed_last d k (sym b.closes) least) in
            let none : ks ≡ [] = none_past past_c ks refl (subst (λ (st : Stage). Going st ks) past g.1) in
            let one_left : closed ks ≡ 0 = ap closed none in
            let none_left : opened ks ≡ 0 = ap opened none in
            omega (arith, h, least, one_left, none_left, counted is_close_brace k ks b.closes, left_out is_open_brace k ks b.shut)
        on false q =
            let more : 1 < d = leb-false d 1 q in
            let m = deeper (d - 1) (sym (closed_more d k (sym b.closes) more)) (omega (arith, more)) in
            omega (arith, m, more, counted is_close_brace k ks b.closes, left_out is_open_brace k ks b.shut)
    by deeper (inr (inr b)) =
        let m = deeper d (sym (other_c d k (sym b.shut) (sym b.other))) h in
        omega (arith, m, left_out is_open_brace k ks b.shut, left_out is_close_brace k ks b.other)

titled_c : (e : Bool) (ks : List Kind) → run (titled e) ks ≡ past_c → Going (titled e) ks → EndsWithBrace ks
titled_c e [] r g = absurd cc
titled_c e (o ∷ ks) r g = by (brace o)
  where
    in_p : is_open_brace o ≡ false → ⊥
    in_p shut =
        let on : next (titled e) o ≡ next_p e o = sym (titled_other e o (sym shut)) in
        let same : run (next_p e o) ks ≡ past_c = ap (λ (st : Stage). run st ks) (sym on) ∙ r in
        let f : false ≡ true = ap is_p (sym same) ∙ p_stays (next_p e o) ks (p_next e o) in
        absurd cc

    by : Opens o ⊎ (Closes o ⊎ Neither o) → EndsWithBrace (o ∷ ks)
    by (inl b) =
        let on : next (titled e) o ≡ open_c 1 = sym (titled_open e o (sym b.opens)) in
        let going : Going (open_c 1) ks = subst (λ (st : Stage). Going st ks) on g.1 in
        let all : closed ks ≡ opened ks + 1 = all_closed 1 ks (omega arith) (ap (λ (st : Stage). run st ks) (sym on) ∙ r) going in
        record {
          more = ks;
          begins = ap (λ (o : Kind). o ∷ ks) b.is;
          same = omega (arith, all, counted is_open_brace o ks b.opens, left_out is_close_brace o ks b.shut);
          first = λ k l us vs h. before going k l us vs h b;
        }
      where
        before : Going (open_c 1) ks → (k l : Kind) (us vs : List Kind) → o ∷ ks ≡ (k ∷ us) ++ l ∷ vs → Opens o → closed (k ∷ us) < opened (k ∷ us)
        before going k l us vs h b =
            let same : o ≡ k = cc in
            let m : closed us < opened us + 1 = still_open 1 ks us vs l (omega arith) going (ap (drop 1) h) in
            subst (λ (k : Kind). closed (k ∷ us) < opened (k ∷ us)) same (omega (arith, m, counted is_open_brace o us b.opens, left_out is_close_brace o us b.shut))
    by (inr (inl b)) = absurd (in_p b.shut)
    by (inr (inr b)) = absurd (in_p b.shut)

headed_c : (n : ℕ) (ks : List Kind) → run (head n) ks ≡ past_c → Going (head n) ks → EndsWithBrace (drop 1 (drop n ks))
headed_c zero [] r g = absurd cc
headed_c zero (k ∷ ks) r g = titled_c (is_word (codes "end") k) ks r g.1
headed_c (suc n) [] r g = absurd cc
headed_c (suc n) (k ∷ ks) r g = headed_c n ks r g.1

-- ---- of a file

words_are : (s : Text) → words_before_name (opening s) ≡ (if is_fair s then 1 else 0)
words_are s = by (is_fair s) refl
  where
    by : (t : Bool) → is_fair s ≡ t → words_before_name (opening s) ≡ (if is_fair s then 1 else 0)
    by true q = rw q refl
    by false q = rw q refl

record Begun (x : Text) (a : AlgorithmText) : Type 0 where
  at : ℕ
  left : ℕ
  is : a ≡ algorithm_at at left (drop at x)

begun : (x : Text) (ds : List Located) (a : AlgorithmText) → algorithm_of x ds ≡ Some a → Begun x a
begun x ds a e = by (find holds_algorithm ds) refl
  where
    by : (o : Option Located) → find holds_algorithm ds ≡ o → Begun x a
    by None k = (let f : None ≡ Some a = rw k at e in absurd (none-some a f))
    by (Some d) k = on (first_of (beginnings_in d)) refl
      where
        on : (o : Option ℕ) → first_of (beginnings_in d) ≡ o → Begun x a
        on None j = (let f : None ≡ Some a = rw (k, j) at e in absurd (none-some a f))
        on (Some n) j =
            let f : Some (algorithm_at n (d.at + 2 + length (within d.is) - n) (drop n x)) ≡ Some a = rw (k, j) at e in
            record { at = n; left = d.at + 2 + length (within d.is) - n; is = sym (same_Some (algorithm_at n (d.at + 2 + length (within d.is) - n) (drop n x)) a f) }

at_p : (n left : ℕ) (s : Text) → (algorithm_at n left s).rest.stage ≡ past_p → EndsWithWords (from_name (algorithm_at n left s))
at_p n left s e =
    let w = walked (head (if is_fair s then 1 else 0)) (n + length (opening s)) 0 (left - length (opening s)) (drop (length (opening s)) s) in
    subst (λ (m : ℕ). EndsWithWords (drop m (kinds_in (algorithm_at n left s).rest.parts))) (sym (words_are s)) (headed_p (if is_fair s then 1 else 0) (kinds_in (algorithm_at n left s).rest.parts) (sym w.stage ∙ e) w.going)

at_c : (n left : ℕ) (s : Text) → (algorithm_at n left s).rest.stage ≡ past_c → EndsWithBrace (behind_name (algorithm_at n left s))
at_c n left s e =
    let w = walked (head (if is_fair s then 1 else 0)) (n + length (opening s)) 0 (left - length (opening s)) (drop (length (opening s)) s) in
    subst (λ (m : ℕ). EndsWithBrace (drop 1 (drop m (kinds_in (algorithm_at n left s).rest.parts)))) (sym (words_are s)) (headed_c (if is_fair s then 1 else 0) (kinds_in (algorithm_at n left s).rest.parts) (sym w.stage ∙ e) w.going)

-- the algorithm of a file, by its tokens: its first word, and what it is walked as
pub record WalkedThere (a : AlgorithmText) : Type 0 where
  pub fair : Bool
  pub is_word : a.opening ≡ (if fair then codes "--fair" else codes "--algorithm")
  pub is : Walked (head (if fair then 1 else 0)) a.rest

pub walked_there : (x : Text) (a : AlgorithmText) → algorithm_in x ≡ Some a → WalkedThere a
walked_there x a e =
    let b = begun x (walk x) a e in
    let s = drop b.at x in
    subst WalkedThere (sym b.is) (record { fair = is_fair s; is_word = refl; is = walked (head (if is_fair s then 1 else 0)) (b.at + length (opening s)) 0 (b.left - length (opening s)) (drop (length (opening s)) s) })

pub ends_p : (x : Text) (a : AlgorithmText) → algorithm_in x ≡ Some a → a.rest.stage ≡ past_p → EndsWithWords (from_name a)
ends_p x a e past =
    let b = begun x (walk x) a e in
    subst (λ (a : AlgorithmText). EndsWithWords (from_name a)) (sym b.is) (at_p b.at b.left (drop b.at x) (ap (λ (a : AlgorithmText). a.rest.stage) (sym b.is) ∙ past))

pub ends_c : (x : Text) (a : AlgorithmText) → algorithm_in x ≡ Some a → a.rest.stage ≡ past_c → EndsWithBrace (behind_name a)
ends_c x a e past =
    let b = begun x (walk x) a e in
    subst (λ (a : AlgorithmText). EndsWithBrace (behind_name a)) (sym b.is) (at_c b.at b.left (drop b.at x) (ap (λ (a : AlgorithmText). a.rest.stage) (sym b.is) ∙ past))
