-- A byte more, where a string or a comment is open.
use Rattle.std.proofs.Common.{◌≡◌, ℕ, suc, ◌+◌, Bool, true, false, ◌&&◌, nat_eq, List, [], ◌∷◌, ◌++◌, length, Option, Some, None, is_some, if◌then◌else◌, refl, sym, ap, ◌∙◌, arith, append_assoc, append-nil}
use Rattle.std.proofs.lemmas.Bool.{or_from, or_right, eqb-true}
use Rattle.tla_token.specs.declared.part.Class.{Class}
use Rattle.tla_token.specs.declared.part.Class.TheVariants as class
use Rattle.tla_token.specs.Lexemes.{string, is_plain, escaped, in_front, unquoted, behind_backslash}
use Rattle.tla_token.specs.Tokens.{lexeme}
use Rattle.tla_token.specs.Offences.{sound, bad_string, open_string, ends_string, string_len, escape_len, begins_with}
use Rattle.tla_token.specs.laws.Machine.{outlines, text, only, fresh, Step, on, given, one_part, begun, in_text}
use Rattle.tla_token.proofs.Words.{one_plus}
use Rattle.tla_token.proofs.MachineStays.{string_stays}
use Rattle.tla_token.proofs.MachineStands.{len_behind, good_behind, Texts, Goes, waits, first_off, then_begun}
use Rattle.tla_token.proofs.MachineGoes.{choice, last_len}

pub chosen : {A : Type 0} (c : Bool) (x y : A) → c ≡ true → (if c then x else y) ≡ x
chosen true x y e = refl
chosen false x y e = absurd cc

pub left_out : {A : Type 0} (c : Bool) (x y : A) → c ≡ false → (if c then x else y) ≡ y
left_out true x y e = absurd cc
left_out false x y e = refl

-- ---- strings

in_front_is : (o : Option ℕ) (p : Option (List ℕ)) → is_some (in_front o p) ≡ (is_some o && is_some p)
in_front_is None p = refl
in_front_is (Some b) None = refl
in_front_is (Some b) (Some w) = refl

plain_is : (k : Bool) (b : ℕ) → is_some (if k then Some b else None) ≡ k
plain_is true b = refl
plain_is false b = refl

and_again : (x y z : Bool) → (x && (y && z)) ≡ ((x && y) && z)
and_again true y z = refl
and_again false y z = refl

-- one byte more of a string
texts_on : (n : ℕ) (good was new behind : Bool) (w : List ℕ) (b : ℕ) → Texts n good was w → ((t : List ℕ) → len_behind was (b ∷ t) ≡ suc (len_behind behind t))
    → ((t : List ℕ) → (good && good_behind was (b ∷ t)) ≡ (new && good_behind behind t)) → Texts (suc n) new behind (w ++ b ∷ [])
texts_on n good was new behind w b x len means =
    record {
      raw = x.raw ++ b ∷ [];
      is = ap (λ (u : List ℕ). u ++ b ∷ []) x.is;
      size = ap suc x.size ∙ ap suc (last_len x.raw b);
      len = λ t.
          ap string_len (append_assoc x.raw (b ∷ []) t)
          ∙ x.len (b ∷ t)
          ∙ ap (λ (m : ℕ). length x.raw + m) (len t)
          ∙ omega (arith, last_len x.raw b);
      means = λ t. ap (λ (u : List ℕ). is_some (unquoted u)) (append_assoc x.raw (b ∷ []) t) ∙ x.means (b ∷ t) ∙ means t;
    }

-- a line ends in it
left_open : (n : ℕ) (good was : Bool) (w : List ℕ) (b : ℕ) → Texts n good was w → nat_eq b 10 ≡ true → ((t : List ℕ) → len_behind was (b ∷ t) ≡ 0) → Goes (w ++ b ∷ []) (given (one_part class.OpenText n) (begun b))
left_open n good was w b x ends none = then_begun w b (one_part class.OpenText n) seen
  where
    seen : (t : List ℕ) → outlines (w ++ b ∷ t) ≡ one_part class.OpenText n ++ outlines (b ∷ t)
    seen t =
        let len : string_len (x.raw ++ b ∷ t) ≡ length x.raw = x.len (b ∷ t) ∙ ap (λ (m : ℕ). length x.raw + m) (none t) ∙ omega arith in
        let quote : begins_with 34 (b ∷ t) ≡ false = ap (λ (c : ℕ). begins_with 34 (c ∷ t)) (eqb-true b 10 ends) in
        ap (λ (u : List ℕ). outlines (u ++ b ∷ t)) x.is
        ∙ first_off (open_string x.raw) (b ∷ t) (len, quote)
        ∙ ap (λ (m : ℕ). one_part class.OpenText m ++ outlines (b ∷ t)) (sym x.size)

and_true : (k : Bool) → (k && true) ≡ k
and_true true = refl
and_true false = refl

-- its quote ends it
ended : (n : ℕ) (good : Bool) (w : List ℕ) (t : List ℕ) → (x : Texts n good false w) → outlines ((34 ∷ (x.raw ++ 34 ∷ [])) ++ t) ≡ one_part (if good then class.Text else class.BadText) (suc n) ++ outlines t
ended n good w t x = by (unquoted x.raw) refl
  where
    known : is_some (unquoted x.raw) ≡ good
    known = ap (λ (u : List ℕ). is_some (unquoted u)) (sym (append-nil x.raw)) ∙ x.means [] ∙ and_true good

    size : length (34 ∷ (x.raw ++ 34 ∷ [])) ≡ suc n
    size = ap suc (sym (last_len x.raw 34)) ∙ ap suc (sym x.size)

    len : string_len (x.raw ++ 34 ∷ t) ≡ length x.raw
    len = x.len (34 ∷ t) ∙ omega arith

    found : (c : Class) → c ≡ (if good then class.Text else class.BadText) → one_part c (length (34 ∷ (x.raw ++ 34 ∷ []))) ++ outlines t ≡ one_part (if good then class.Text else class.BadText) (suc n) ++ outlines t
    found c e = (λ i. one_part (e i) (size i) ++ outlines t)

    by : (o : Option (List ℕ)) → unquoted x.raw ≡ o → outlines ((34 ∷ (x.raw ++ 34 ∷ [])) ++ t) ≡ one_part (if good then class.Text else class.BadText) (suc n) ++ outlines t
    by (Some v) u =
        let g : true ≡ good = ap (λ (o : Option (List ℕ)). is_some o) (sym u) ∙ known in
        first_off (sound (lexeme (string v) (34 ∷ (x.raw ++ 34 ∷ [])))) t (string_stays v x.raw (34 ∷ (x.raw ++ 34 ∷ [])) t refl u)
        ∙ found class.Text (ap (λ (k : Bool). if k then class.Text else class.BadText) g)
    by None u =
        let g : false ≡ good = ap (λ (o : Option (List ℕ)). is_some o) (sym u) ∙ known in
        first_off (bad_string x.raw) t (len, u) ∙ found class.BadText (ap (λ (k : Bool). if k then class.Text else class.BadText) g)

ends_text : (n : ℕ) (good : Bool) (w : List ℕ) (b : ℕ) → Texts n good false w → nat_eq b 34 ≡ true → Goes (w ++ b ∷ []) (one_part (if good then class.Text else class.BadText) (suc n), only fresh)
ends_text n good w b x e =
    record {
      pending = [];
      stands = refl;
      seen = λ t. ap (λ (u : List ℕ). outlines (u ++ t)) (λ i. x.is i ++ eqb-true b 34 e i ∷ []) ∙ ended n good w t x;
    }

abbrev unescaped : ℕ → List ℕ → ℕ
unescaped b t = if ends_string b then 0 else 1 + string_len t

abbrev plain : ℕ → List ℕ → Option (List ℕ)
plain b t = in_front (if is_plain b then Some b else None) (unquoted t)

-- a byte that is no backslash
no_backslash : (b : ℕ) (t : List ℕ) (m : ℕ) → nat_eq b 92 ≡ false → unescaped b t ≡ m → string_len (b ∷ t) ≡ m
no_backslash b t m k e = left_out (nat_eq b 92) (1 + escape_len t) (unescaped b t) k ∙ e

plain_on : (n : ℕ) (good : Bool) (w : List ℕ) (b : ℕ) → Texts n good false w → nat_eq b 92 ≡ false → nat_eq b 34 ≡ false → nat_eq b 10 ≡ false → Texts (suc n) (good && is_plain b) false (w ++ b ∷ [])
plain_on n good w b x k q l = texts_on n good false (good && is_plain b) false w b x len means
  where
    len : (t : List ℕ) → string_len (b ∷ t) ≡ suc (string_len t)
    len t = no_backslash b t (suc (string_len t)) k (left_out (ends_string b) 0 (1 + string_len t) (or_from (nat_eq b 34) (nat_eq b 10) q l) ∙ one_plus (string_len t))

    means : (t : List ℕ) → (good && is_some (unquoted (b ∷ t))) ≡ ((good && is_plain b) && is_some (unquoted t))
    means t =
        ap (λ (o : Option (List ℕ)). good && is_some o) (left_out (nat_eq b 92) (behind_backslash t) (plain b t) k)
        ∙ ap (λ (p : Bool). good && p) (in_front_is (if is_plain b then Some b else None) (unquoted t) ∙ ap (λ (p : Bool). p && is_some (unquoted t)) (plain_is (is_plain b) b))
        ∙ and_again good (is_plain b) (is_some (unquoted t))

backslash_on : (n : ℕ) (good : Bool) (w : List ℕ) (b : ℕ) → Texts n good false w → nat_eq b 92 ≡ true → Texts (suc n) good true (w ++ b ∷ [])
backslash_on n good w b x k =
    texts_on n good false good true w b x (λ t. chosen (nat_eq b 92) (1 + escape_len t) (unescaped b t) k ∙ one_plus (escape_len t))
    (λ t. ap (λ (o : Option (List ℕ)). good && is_some o) (chosen (nat_eq b 92) (behind_backslash t) (plain b t) k))

escaped_on : (n : ℕ) (good : Bool) (w : List ℕ) (b : ℕ) → Texts n good true w → nat_eq b 10 ≡ false → Texts (suc n) (good && is_some (escaped b)) false (w ++ b ∷ [])
escaped_on n good w b x k =
    texts_on n good true (good && is_some (escaped b)) false w b x (λ t. left_out (nat_eq b 10) 0 (1 + string_len t) k ∙ one_plus (string_len t))
    (λ t. ap (λ (p : Bool). good && p) (in_front_is (escaped b) (unquoted t)) ∙ and_again good (is_some (escaped b)) (is_some (unquoted t)))

no_len : (b : ℕ) (t : List ℕ) → nat_eq b 92 ≡ false → nat_eq b 10 ≡ true → string_len (b ∷ t) ≡ 0
no_len b t k l = no_backslash b t 0 k (chosen (ends_string b) 0 (1 + string_len t) (or_right (nat_eq b 34) (nat_eq b 10) l))

abbrev opened : ℕ → ℕ → Step
opened n b = given (one_part class.OpenText n) (begun b)

abbrev quoted : ℕ → Bool → Step
quoted n good = (one_part (if good then class.Text else class.BadText) (suc n), only fresh)

abbrev longer : ℕ → Bool → Bool → Step
longer n good behind = on (text (suc n) good behind)

pub text_goes : (n : ℕ) (good was : Bool) (w : List ℕ) (b : ℕ) → Texts n good was w → Goes (w ++ b ∷ []) (in_text n good was b)
text_goes n good true w b x =
    choice (w ++ b ∷ []) (nat_eq b 10) (opened n b) (longer n (good && is_some (escaped b)) false)
    (λ k. left_open n good true w b x k (λ t. chosen (nat_eq b 10) 0 (1 + string_len t) k))
    (λ k. waits (w ++ b ∷ []) (only (text (suc n) (good && is_some (escaped b)) false)) (escaped_on n good w b x k))
text_goes n good false w b x =
    choice (w ++ b ∷ []) (nat_eq b 92) (longer n good true) (if nat_eq b 34 then quoted n good else (if nat_eq b 10 then opened n b else longer n (good && is_plain b) false))
    (λ k. waits (w ++ b ∷ []) (only (text (suc n) good true)) (backslash_on n good w b x k)) second
  where
    last : nat_eq b 92 ≡ false → nat_eq b 34 ≡ false → Goes (w ++ b ∷ []) (if nat_eq b 10 then opened n b else longer n (good && is_plain b) false)
    last k q =
        choice (w ++ b ∷ []) (nat_eq b 10) (opened n b) (longer n (good && is_plain b) false)
        (λ l. left_open n good false w b x l (λ t. no_len b t k l))
        (λ l. waits (w ++ b ∷ []) (only (text (suc n) (good && is_plain b) false)) (plain_on n good w b x k q l))

    second : nat_eq b 92 ≡ false → Goes (w ++ b ∷ []) (if nat_eq b 34 then quoted n good else (if nat_eq b 10 then opened n b else longer n (good && is_plain b) false))
    second k = choice (w ++ b ∷ []) (nat_eq b 34) (quoted n good) (if nat_eq b 10 then opened n b else longer n (good && is_plain b) false) (ends_text n good w b x) (last k)
