-- One step of a scanner, and what it has found at the end.
use Rattle.std.proofs.Common.{if◌then◌else◌, ◌≡◌, ℕ, zero, suc, ◌+◌, ◌-◌, ◌*◌, ◌<◌, ◌≤◌, ◌&&◌, ◌||◌, Bool, true, false, nat_eq, codes, List, [], ◌∷◌, ◌++◌, length, take, drop, Option, Some, None, Result, Err, is_some, refl, sym, ap, subst, ◌∙◌, arith, append_assoc, append-nil, length-drop}
use Rattle.std.specs.List.{list_any, starts_with}
use Rattle.std.proofs.Math.Seq.{drop-nil, take-add}
use Rattle.std.proofs.lemmas.List.{take-append-drop, take_rest, drop_all, drop-take, length-take-le}
use Rattle.std.proofs.lemmas.Bool.{or_parts}
use Rattle.tla_token.specs.declared.place.Place.{Place}
use Rattle.tla_token.specs.declared.rule.Rule.{Rule}
use Rattle.tla_token.specs.declared.rule.Refusal.{Refusal}
use Rattle.tla_token.specs.declared.rule.Stop.{Stop}
use Rattle.tla_token.specs.declared.rule.Stop.TheVariants as stop
use Rattle.tla_token.specs.declared.token.Tokens.{Tokens}
use Rattle.tla_token.specs.declared.fault.Reading.{Reading}
use Rattle.tla_token.specs.declared.fault.Reading.TheVariants as reading
use Rattle.tla_token.specs.declared.part.Class.TheVariants as class
use Rattle.tla_token.specs.declared.part.Part as code
use Rattle.tla_token.specs.declared.scan.Scan.{Scan}
use Rattle.tla_token.specs.Places.{step, after, start, place_at}
use Rattle.tla_token.specs.Lexemes.{Kind, is_word, is_letter, is_blank, unquoted}
use Rattle.tla_token.specs.Tokens.{Token, stretch}
use Rattle.tla_token.specs.Offences.{Part, part_bytes, part_offences, Offence, least}
use Rattle.tla_token.specs.Cut.{run, parts}
use Rattle.tla_token.specs.Scan.{is_quoted, inner, part_of, front, IsWordless}
use Rattle.tla_token.specs.Readings.{offences_in, part_offences_in, joined, quote_at, last_quote, first_part_offences, line_offence, with_line, first_offence, names_algorithm}
use Rattle.tla_token.specs.TokensSeen.{part_kind}
use Rattle.tla_token.specs.Scanning.{token_at, lexemes_of, Outcome, outcome, Stands, GoesOn}
use Rattle.tla_token.proofs.Words.{one_plus}
use Rattle.tla_token.proofs.Faults.{joined_assoc, joined_none, least_append}
use Rattle.tla_token.proofs.Found.{found, nothing_found}

pub after_append : (p : Place) (xs ys : List ℕ) → after p (xs ++ ys) ≡ after (after p xs) ys
after_append p [] ys = refl
after_append p (x ∷ xs) ys = after_append (step p x) xs ys

pub offences_first : (r : Reading) (at : ℕ) (x : Part) (xs : List Part) → offences_in r at (x ∷ xs) ≡ part_offences_in r at x ++ offences_in r (at + length (part_bytes x)) xs
offences_first reading.Unread at x xs = refl
offences_first reading.Read at x xs = refl
offences_first reading.Algorithm at x xs = refl

-- what is found of a text whose first part this is
tokens_on : (ts : List Token) (p : Place) (at n : ℕ) (t : List ℕ) (x : Part) → part_bytes x ≡ take n t → n ≤ length t → parts t ≡ x ∷ parts (drop n t)
    → ts ++ lexemes_of p at (parts t) ≡ (ts ++ token_at p at (part_kind x)) ++ lexemes_of (after p (take n t)) (at + n) (parts (drop n t))
tokens_on ts p at n t x bytes l cut =
    let size : length (part_bytes x) ≡ n = ap length bytes ∙ length-take-le n t l in
    let later : lexemes_of (after p (part_bytes x)) (at + length (part_bytes x)) (parts (drop n t)) ≡ lexemes_of (after p (take n t)) (at + n) (parts (drop n t)) =
    (λ i. lexemes_of (after p (bytes i)) (at + size i) (parts (drop n t))) in
    ap (λ (xs : List Part). ts ++ lexemes_of p at xs) cut
    ∙ ap (λ (us : List Token). ts ++ (token_at p at (part_kind x) ++ us)) later
    ∙ sym (append_assoc ts (token_at p at (part_kind x)) (lexemes_of (after p (take n t)) (at + n) (parts (drop n t))))

offence_on : (r : Reading) (f : Option Offence) (at n : ℕ) (t : List ℕ) (x : Part) → part_bytes x ≡ take n t → n ≤ length t → parts t ≡ x ∷ parts (drop n t)
    → joined f (least (offences_in r at (parts t))) ≡ joined (joined f (least (part_offences_in r at x))) (least (offences_in r (at + n) (parts (drop n t))))
offence_on r f at n t x bytes l cut =
    let size : length (part_bytes x) ≡ n = ap length bytes ∙ length-take-le n t l in
    let rest = parts (drop n t) in
    ap (λ (xs : List Part). joined f (least (offences_in r at xs))) cut
    ∙ ap (λ (os : List Offence). joined f (least os)) (offences_first r at x rest ∙ ap (λ (m : ℕ). part_offences_in r at x ++ offences_in r (at + m) rest) size)
    ∙ ap (joined f) (least_append (part_offences_in r at x) (offences_in r (at + n) rest))
    ∙ sym (joined_assoc f (least (part_offences_in r at x)) (least (offences_in r (at + n) rest)))

quote_on : (q : Option ℕ) (at n : ℕ) (t : List ℕ) (x : Part) → part_bytes x ≡ take n t → n ≤ length t → parts t ≡ x ∷ parts (drop n t)
    → last_quote at q (parts t) ≡ last_quote (at + n) (quote_at at x) (parts (drop n t))
quote_on q at n t x bytes l cut =
    let size : length (part_bytes x) ≡ n = ap length bytes ∙ length-take-le n t l in
    ap (last_quote at q) cut ∙ ap (λ (m : ℕ). last_quote (at + m) (quote_at at x) (parts (drop n t))) size

end_on : (p : Place) (n : ℕ) (t : List ℕ) → after p t ≡ after (after p (take n t)) (drop n t)
end_on p n t = ap (after p) (sym (take-append-drop n t)) ∙ after_append p (take n t) (drop n t)

pub drop_more : (m n : ℕ) (t : List ℕ) → drop n (drop m t) ≡ drop (m + n) t
drop_more zero n t = (let e : 0 + n ≡ n = omega arith in rw e refl)
drop_more (suc m) n [] = drop-nil n ∙ sym (drop-nil (suc m + n))
drop_more (suc m) n (x ∷ t) = (let e : suc m + n ≡ suc (m + n) = omega arith in rw e (drop_more m n t))

pub steps_on : (r : Reading) (from : ℕ) (bytes : List ℕ) (s t : Scan) (p : code.Part) (ts us : List Token)
    → Some p ≡ front (drop s.at bytes)
    → t.at ≡ s.at + p.len
    → t.place ≡ after s.place (take p.len (drop s.at bytes))
    → t.fault ≡ joined s.fault (least (part_offences_in r (from + s.at) (part_of p.class (take p.len (drop s.at bytes)))))
    → us ≡ ts ++ token_at s.place (from + s.at) (part_kind (part_of p.class (take p.len (drop s.at bytes))))
    → t.quote ≡ quote_at (from + s.at) (part_of p.class (take p.len (drop s.at bytes)))
    → outcome r from ts s (drop s.at bytes) ≡ outcome r from us t (drop t.at bytes)
unfolding outcome
steps_on r from bytes s t p ts us e at place fault tokens quote =
    let rest = drop s.at bytes in
    let f = found rest p e in
    let goes : from + s.at + p.len ≡ from + t.at = omega arith in
    let dropped : drop p.len rest ≡ drop t.at bytes = drop_more s.at p.len bytes ∙ ap (λ (k : ℕ). drop k bytes) (sym at) in
    let tokens_moved : us ++ lexemes_of (after s.place (take p.len rest)) (from + s.at + p.len) (parts (drop p.len rest)) ≡ us ++ lexemes_of t.place (from + t.at) (parts (drop t.at bytes)) =
    (λ i. us ++ lexemes_of (sym place i) (goes i) (parts (dropped i))) in
    let offence_moved : joined t.fault (least (offences_in r (from + s.at + p.len) (parts (drop p.len rest)))) ≡ joined t.fault (least (offences_in r (from + t.at) (parts (drop t.at bytes)))) =
    (λ i. joined t.fault (least (offences_in r (goes i) (parts (dropped i))))) in
    let end_moved : after (after s.place (take p.len rest)) (drop p.len rest) ≡ after t.place (drop t.at bytes) = (λ i. after (sym place i) (dropped i)) in
    let x : ts ++ lexemes_of s.place (from + s.at) (parts rest) ≡ us ++ lexemes_of t.place (from + t.at) (parts (drop t.at bytes)) =
    (tokens_on ts s.place (from + s.at) p.len rest f.part f.bytes f.within f.cut
    ∙ ap (λ (u : List Token). u ++ lexemes_of (after s.place (take p.len rest)) (from + s.at + p.len) (parts (drop p.len rest))) (ap (λ (y : Part). ts ++ token_at s.place (from + s.at) (part_kind y)) (sym f.is) ∙ sym tokens)
    ∙ tokens_moved) in
    let y : joined s.fault (least (offences_in r (from + s.at) (parts rest))) ≡ joined t.fault (least (offences_in r (from + t.at) (parts (drop t.at bytes)))) =
    (offence_on r s.fault (from + s.at) p.len rest f.part f.bytes f.within f.cut
    ∙ ap (λ (o : Option Offence). joined o (least (offences_in r (from + s.at + p.len) (parts (drop p.len rest))))) (ap (λ (y : Part). joined s.fault (least (part_offences_in r (from + s.at) y))) (sym f.is) ∙ sym fault)
    ∙ offence_moved) in
    let z : after s.place rest ≡ after t.place (drop t.at bytes) = end_on s.place p.len rest ∙ end_moved in
    let quote_moved : last_quote (from + s.at + p.len) t.quote (parts (drop p.len rest)) ≡ last_quote (from + t.at) t.quote (parts (drop t.at bytes)) = (λ i. last_quote (goes i) t.quote (parts (dropped i))) in
    let w : last_quote (from + s.at) s.quote (parts rest) ≡ last_quote (from + t.at) t.quote (parts (drop t.at bytes)) =
    (quote_on s.quote (from + s.at) p.len rest f.part f.bytes f.within f.cut
    ∙ ap (λ (q : Option ℕ). last_quote (from + s.at + p.len) q (parts (drop p.len rest))) (ap (quote_at (from + s.at)) (sym f.is) ∙ sym quote)
    ∙ quote_moved) in
    λ i. record { tokens = x i; offence = y i; end = z i; quote = w i }

run_first : (p : ℕ → Bool) (b : ℕ) (bs : List ℕ) → p b ≡ true → run p (b ∷ bs) ≡ b ∷ run p bs
run_first p b bs h = rw (h, one_plus) refl

-- ---- the part in front

pub part_within : (t : List ℕ) (p : code.Part) → Some p ≡ front t → p.len ≤ length t
part_within t p e = (found t p e).within

pub part_size : (t : List ℕ) (p : code.Part) → Some p ≡ front t → length (take p.len t) ≡ p.len
part_size t p e = length-take-le p.len t (found t p e).within

pub part_some : (t : List ℕ) (p : code.Part) → Some p ≡ front t → 0 < p.len
part_some t p e = (found t p e).some

pub part_quoted : (t : List ℕ) (p : code.Part) → Some p ≡ front t → is_quoted p.class ≡ true → 2 ≤ p.len
part_quoted t p e = (found t p e).quoted

pub part_text : (t : List ℕ) (p : code.Part) → Some p ≡ front t → p.class ≡ class.Text → is_some (unquoted (inner (take p.len t))) ≡ true
part_text t p e = (found t p e).text

-- ---- blanks before a word

pub blanks_before : (t : List ℕ) (n : ℕ) → n ≡ length (run is_blank t) → 0 < n → starts_with nat_eq (drop n t) (codes "algorithm") ≡ names_algorithm t
blanks_before [] n e l = absurd (omega arith)
blanks_before (b ∷ bs) n e l = by (is_blank b) refl
  where
    by : (k : Bool) → is_blank b ≡ k → starts_with nat_eq (drop n (b ∷ bs)) (codes "algorithm") ≡ names_algorithm (b ∷ bs)
    by true k =
        let x = starts_with nat_eq (drop (length (run is_blank (b ∷ bs))) (b ∷ bs)) (codes "algorithm") in
        ap (λ (m : ℕ). starts_with nat_eq (drop m (b ∷ bs)) (codes "algorithm")) e ∙ sym (ap (λ (c : Bool). c && x) k)
    by false k = (let z : n ≡ 0 = rw k at e in absurd (omega arith))

pub no_blanks : (t : List ℕ) (n : ℕ) → n ≡ length (run is_blank t) → n ≤ 0 → false ≡ names_algorithm t
no_blanks [] n e l = refl
no_blanks (b ∷ bs) n e l = by (is_blank b) refl
  where
    by : (k : Bool) → is_blank b ≡ k → false ≡ names_algorithm (b ∷ bs)
    by true k = (let z : n ≡ length (b ∷ run is_blank bs) = e ∙ ap length (run_first is_blank b bs k) in absurd (omega arith))
    by false k = rw k refl

-- ---- what is known of a word without a letter

none_known : (t : List ℕ) → IsWordless 0 t
none_known t = (omega arith, λ l. absurd (omega arith))

wordless_past : (w n : ℕ) (t : List ℕ) → IsWordless w t → IsWordless (w - n) (drop n t)
wordless_past zero n t h = (let e : 0 - n ≡ 0 = omega arith in rw e (none_known (drop n t)))
wordless_past (suc w) zero t h = (let e : suc w - 0 ≡ suc w = omega arith in rw e h)
wordless_past (suc w) (suc n) [] h = absurd (omega (arith, h.0))
wordless_past (suc w) (suc n) (b ∷ bs) h = by (is_word b) refl (λ m. wordless_past w n bs m)
  where
    fewer : suc w - suc n ≡ w - n
    fewer = omega arith

    by : (k : Bool) → is_word b ≡ k → (IsWordless w bs → IsWordless (w - n) (drop n bs)) → IsWordless (suc w - suc n) (drop (suc n) (b ∷ bs))
    by false k go = (let z : suc w ≤ 0 = rw k at h.0 in absurd (omega arith))
    by true k go =
        let r : run is_word (b ∷ bs) ≡ b ∷ run is_word bs = run_first is_word b bs k in
        let l : suc w ≤ suc (length (run is_word bs)) = rw r at h.0 in
        let none : 0 < suc w → (is_letter b || list_any is_letter (run is_word bs)) ≡ false = rw r at h.1 in
        let more : IsWordless w bs = (omega arith, λ z. (or_parts (is_letter b) (list_any is_letter (run is_word bs)) (none (omega arith))).1) in
        rw fewer (go more)

pub wordless_on : (w n at : ℕ) (bytes : List ℕ) → IsWordless w (drop at bytes) → IsWordless (w - n) (drop (at + n) bytes)
wordless_on w n at bytes h = (let P : List ℕ → Type 0 = λ u. IsWordless (w - n) u in subst P (drop_more at n bytes) (wordless_past w n (drop at bytes) h))

-- ---- the end

pub all_found : (r : Reading) (from : ℕ) (bytes : List ℕ) (s b : Scan) (us ts : List Token) → outcome r from us s (drop s.at bytes) ≡ outcome r from ts b (drop b.at bytes) → length bytes ≤ s.at → b.fault ≡ None
    → (us ≡ ts ++ lexemes_of b.place (from + b.at) (parts (drop b.at bytes))) × (s.fault ≡ least (offences_in r (from + b.at) (parts (drop b.at bytes)))) × (s.place ≡ after b.place (drop b.at bytes)) × (s.quote ≡ last_quote (from + b.at) b.quote (parts (drop b.at bytes)))
unfolding outcome
all_found r from bytes s b us ts e l none =
    let d : drop s.at bytes ≡ [] = drop_all s.at bytes l in
    let tokens : us ++ lexemes_of s.place (from + s.at) (parts (drop s.at bytes)) ≡ ts ++ lexemes_of b.place (from + b.at) (parts (drop b.at bytes)) = ap (λ (o : Outcome). o.tokens) e in
    let offence : joined s.fault (least (offences_in r (from + s.at) (parts (drop s.at bytes)))) ≡ joined b.fault (least (offences_in r (from + b.at) (parts (drop b.at bytes)))) = ap (λ (o : Outcome). o.offence) e in
    let end : after s.place (drop s.at bytes) ≡ after b.place (drop b.at bytes) = ap (λ (o : Outcome). o.end) e in
    let quote : last_quote (from + s.at) s.quote (parts (drop s.at bytes)) ≡ last_quote (from + b.at) b.quote (parts (drop b.at bytes)) = ap (λ (o : Outcome). o.quote) e in (
      sym (append-nil us) ∙ ap (λ (u : List ℕ). us ++ lexemes_of s.place (from + s.at) (parts u)) (sym d) ∙ tokens,
      sym (joined_none s.fault)
          ∙ ap (joined s.fault) (sym (nothing r (from + s.at)))
          ∙ ap (λ (u : List ℕ). joined s.fault (least (offences_in r (from + s.at) (parts u)))) (sym d)
          ∙ offence
          ∙ ap (λ (o : Option Offence). joined o (least (offences_in r (from + b.at) (parts (drop b.at bytes))))) none,
      ap (after s.place) (sym d) ∙ end,
      ap (λ (u : List ℕ). last_quote (from + s.at) s.quote (parts u)) (sym d) ∙ quote,
    )
  where
    nothing : (r : Reading) (at : ℕ) → least (offences_in r at (parts [])) ≡ None
    nothing reading.Unread at = refl
    nothing reading.Read at = refl
    nothing reading.Algorithm at = refl

-- ---- stretches

pub stretch_on : (text : List ℕ) (from begin to : ℕ) → from ≤ begin → begin ≤ to → drop (begin - from) (stretch text from to) ≡ stretch text begin to
stretch_on text from begin to f t =
    let e : to - from ≡ (begin - from) + (to - begin) = omega arith in
    let g : from + (begin - from) ≡ begin = omega arith in
    ap (λ (n : ℕ). drop (begin - from) (take n (drop from text))) e
    ∙ drop-take (begin - from) (to - begin) (drop from text)
    ∙ ap (take (to - begin)) (drop_more from (begin - from) text ∙ ap (λ (n : ℕ). drop n text) g)

pub stretch_end : (text : List ℕ) (begin to : ℕ) → begin ≤ to → after (place_at text begin) (stretch text begin to) ≡ place_at text to
stretch_end text begin to l =
    let e : begin + (to - begin) ≡ to = omega arith in
    sym (after_append start (take begin text) (stretch text begin to)) ∙ ap (after start) (sym (take-add begin (to - begin) text) ∙ ap (λ (n : ℕ). take n text) e)

take_all : (n : ℕ) (xs : List ℕ) → length xs ≤ n → take n xs ≡ xs
take_all zero [] l = refl
take_all (suc n) [] l = refl
take_all zero (x ∷ xs) l = absurd (omega arith)
take_all (suc n) (x ∷ xs) l = ap (λ (u : List ℕ). x ∷ u) (take_all n xs (omega arith))

pub place_beyond : (text : List ℕ) (at : ℕ) → length text ≤ at → place_at text (length text) ≡ place_at text at
place_beyond text at l = ap (after start) (take_all (length text) text (omega arith) ∙ sym (take_all at text l))

pub begins_there : (text : List ℕ) (from begin to : ℕ) (s : Scan) → from ≤ begin → begin ≤ to → to ≤ length text → s.at ≡ begin - from → s.place.line ≤ 1 + begin → s.place.col ≤ 1 + 8 * begin → s.wordless ≡ 0
    → Stands from (stretch text from to) s
begins_there text from begin to s f t l at line col w =
    let size : length (stretch text from to) ≡ to - from = length-take-le (to - from) (drop from text) (omega (arith, length-drop from text)) in
    let e : from + s.at ≡ begin = omega arith in
    let P : ℕ → Type 0 = λ n. IsWordless n (drop s.at (stretch text from to)) in
    record { within = omega arith; line = omega arith; col = omega arith; wordless = subst P (sym w) (none_known (drop s.at (stretch text from to))) }

-- what is found of a stretch from `begin` on
rest_found : (r : Reading) (text : List ℕ) (from begin to : ℕ) (s b : Scan) (us ts : List Token) → from ≤ begin → begin ≤ to → b.at ≡ begin - from → b.fault ≡ None → b.place ≡ place_at text begin → b.quote ≡ None
    → outcome r from us s (drop s.at (stretch text from to)) ≡ outcome r from ts b (drop b.at (stretch text from to)) → length (stretch text from to) ≤ s.at
    → (us ≡ ts ++ lexemes_of (place_at text begin) begin (parts (stretch text begin to))) × (with_line r text s.quote s.fault ≡ first_offence r text begin to) × (s.place ≡ place_at text to)
rest_found r text from begin to s b us ts f t at none place start e l =
    let x = all_found r from (stretch text from to) s b us ts e l none in
    let d : drop b.at (stretch text from to) ≡ stretch text begin to = ap (λ (n : ℕ). drop n (stretch text from to)) at ∙ stretch_on text from begin to f t in
    let g : from + b.at ≡ begin = omega arith in
    let u : ts ++ lexemes_of b.place (from + b.at) (parts (drop b.at (stretch text from to))) ≡ ts ++ lexemes_of (place_at text begin) begin (parts (stretch text begin to)) = (λ i. ts ++ lexemes_of (place i) (g i) (parts (d i))) in
    let v : least (offences_in r (from + b.at) (parts (drop b.at (stretch text from to)))) ≡ least (offences_in r begin (parts (stretch text begin to))) = (λ i. least (offences_in r (g i) (parts (d i)))) in
    let q : last_quote (from + b.at) b.quote (parts (drop b.at (stretch text from to))) ≡ last_quote begin None (parts (stretch text begin to)) = (λ i. last_quote (g i) (start i) (parts (d i))) in
    let w : after b.place (drop b.at (stretch text from to)) ≡ after (place_at text begin) (stretch text begin to) = (λ i. after (place i) (d i)) in
    let fault = x.1 ∙ v in
    let quote = x.3 ∙ q in
    (x.0 ∙ u, (λ i. with_line r text (quote i) (fault i)), x.2 ∙ w ∙ stretch_end text begin to t)

-- ---- one part further

pub goes_past : (r : Reading) (from : ℕ) (bytes : List ℕ) (s : Scan) (p : code.Part) (piece : List ℕ) (place : Place) (w : ℕ) (f : Option Offence) (ts us : List Token) (kind : Option Kind) (quote : Option ℕ)
    → Stands from bytes s
    → Some p ≡ front (drop s.at bytes)
    → piece ≡ take p.len (drop s.at bytes)
    → place ≡ after s.place piece
    → place.line ≤ s.place.line + length piece
    → place.col ≤ s.place.col + 8 * length piece
    → w ≡ s.wordless - p.len
    → f ≡ joined s.fault (least (part_offences_in r (from + s.at) (part_of p.class piece)))
    → kind ≡ part_kind (part_of p.class (take p.len (drop s.at bytes)))
    → us ≡ ts ++ token_at s.place (from + s.at) kind
    → quote ≡ quote_at (from + s.at) (part_of p.class (take p.len (drop s.at bytes)))
    → GoesOn r from bytes ts us s (Some (record { at = s.at + p.len; place = place; wordless = w; fault = f; quote = quote }))
goes_past r from bytes s p piece place w f ts us kind quote stands e is moved line col known fault sort kept ends =
    let rest = drop s.at bytes in
    let t : Scan = record { at = s.at + p.len; place = place; wordless = w; fault = f; quote = quote } in
    let size : length piece ≡ p.len = ap length is ∙ part_size rest p e in
    let left : length rest ≡ length bytes - s.at = length-drop s.at bytes in
    let in_rest : p.len ≤ length rest = part_within rest p e in
    let here : s.at ≤ length bytes = stands.within in
    let low : s.place.line ≤ 1 + (from + s.at) = stands.line in
    let right : s.place.col ≤ 1 + 8 * (from + s.at) = stands.col in
    let some : 0 < p.len = part_some rest p e in
    let P : ℕ → Type 0 = λ n. IsWordless n (drop (s.at + p.len) bytes) in
    let there : Stands from bytes t = record { within = omega arith; line = omega arith; col = omega arith; wordless = subst P (sym known) (wordless_on s.wordless p.len s.at bytes stands.wordless) } in
    let goes : outcome r from ts s rest ≡ outcome r from us t (drop t.at bytes) =
    steps_on r from bytes s t p ts us e refl (moved ∙ ap (after s.place) is) (fault ∙ ap (λ (u : List ℕ). joined s.fault (least (part_offences_in r (from + s.at) (part_of p.class u)))) is)
    (kept ∙ ap (λ (k : Option Kind). ts ++ token_at s.place (from + s.at) k) sort) ends in
    (omega arith, there, goes)

-- ---- at the end

goes_end : (r : Reading) (from : ℕ) (bytes : List ℕ) (ts us : List Token) (s t : Scan) (more : Bool) → more ≡ false → GoesOn r from bytes ts us s (if more then Some t else None) → (length bytes ≤ s.at) × (us ≡ ts)
goes_end r from bytes ts us s t true e h = absurd cc
goes_end r from bytes ts us s t false e h = h

-- where nothing more is found of a stretch from `begin` on
pub rest_ended : (r : Reading) (text : List ℕ) (from begin to : ℕ) (s b t : Scan) (us vs ts : List Token) (more : Bool) → from ≤ begin → begin ≤ to → b.at ≡ begin - from → b.fault ≡ None → b.place ≡ place_at text begin → b.quote ≡ None
    → outcome r from us s (drop s.at (stretch text from to)) ≡ outcome r from ts b (drop b.at (stretch text from to)) → GoesOn r from (stretch text from to) us vs s (if more then Some t else None) → more ≡ false → t ≡ s
    → (vs ≡ ts ++ lexemes_of (place_at text begin) begin (parts (stretch text begin to))) × (with_line r text t.quote t.fault ≡ first_offence r text begin to) × (t.place ≡ place_at text to)
rest_ended r text from begin to s b t us vs ts more f l at none place quote e goes over same =
    let g = goes_end r from (stretch text from to) us vs s t more over goes in
    let x = rest_found r text from begin to s b us ts f l at none place quote e g.0 in
    let Found : Scan → Type 0 = λ u. (vs ≡ ts ++ lexemes_of (place_at text begin) begin (parts (stretch text begin to))) × (with_line r text u.quote u.fault ≡ first_offence r text begin to) × (u.place ≡ place_at text to) in
    subst Found (sym same) (g.1 ∙ x.0, x.1, x.2)

pub refused_so : (text : List ℕ) (fault offence : Option Offence) (rule : Rule) (at : ℕ) (place : Place) (q r : Refusal) → fault ≡ Some (rule, at) → fault ≡ offence → place ≡ place_at text at → q ≡ r → q.rule ≡ rule → q.place ≡ place
    → (x : ℕ) × (offence ≡ Some (r.rule, x)) × (r.place ≡ place_at text x)
refused_so text fault offence rule at place q r f same is e rules places =
    let known : rule ≡ r.rule = sym rules ∙ ap (λ (x : Refusal). x.rule) e in
    (at, sym same ∙ f ∙ ap (λ (x : Rule). Some (x, at)) known, ap (λ (x : Refusal). x.place) (sym e) ∙ places ∙ is)

pub same_refused : (q r : Refusal) → ◌≡◌ {A = Result Tokens Stop} (Err (stop.Refused q)) (Err (stop.Refused r)) → q ≡ r
same_refused q r e = cc

pub at_end : (bytes : List ℕ) (at : ℕ) → None ≡ front (take (length bytes - at) (drop at bytes)) → length bytes ≤ at
at_end bytes at e =
    let f : None ≡ front (drop at bytes) = e ∙ ap front (take_rest bytes at) in
    let n = nothing_found (drop at bytes) f in
    omega (arith, length-drop at bytes)

-- what is known of words changes nothing of what is found
known_alike : (r : Reading) (from : ℕ) (ts : List Token) (s : Scan) (w : ℕ) (rest : List ℕ) → outcome r from ts s rest ≡ outcome r from ts (record { at = s.at; place = s.place; wordless = w; fault = s.fault; quote = s.quote }) rest
unfolding outcome
known_alike r from ts s w rest = refl

pub goes_known : (r : Reading) (from : ℕ) (bytes : List ℕ) (ts us : List Token) (s : Scan) (w : ℕ) (t : Scan) → GoesOn r from bytes ts us (record { at = s.at; place = s.place; wordless = w; fault = s.fault; quote = s.quote }) (Some t) → GoesOn r from bytes ts us s (Some t)
goes_known r from bytes ts us s w t h = (h.0, h.1, known_alike r from ts s w (drop s.at bytes) ∙ h.2)

-- ---- a string on its whole line

pub line_found : (text : List ℕ) (at : ℕ) (p : code.Part) (piece : List ℕ) (o : Option Offence) → Some p ≡ front (drop at text) → piece ≡ take p.len (drop at text)
    → o ≡ least (part_offences_in reading.Algorithm at (part_of p.class piece)) → o ≡ line_offence text (Some at)
line_found text at p piece o e is fault =
    let f = found (drop at text) p e in
    fault ∙ ap (λ (u : List ℕ). least (part_offences true at (part_of p.class u))) is
    ∙ ap (λ (x : Part). least (part_offences true at x)) f.is ∙ ap (λ (xs : List Part). least (first_part_offences at xs)) (sym f.cut)

pub line_none : (text : List ℕ) (at : ℕ) → None ≡ front (drop at text) → None ≡ line_offence text (Some at)
line_none text at e = none (drop at text) (nothing_found (drop at text) e)
  where
    none : (t : List ℕ) → length t ≡ 0 → None ≡ least (first_part_offences at (parts t))
    none [] l = refl
    none (b ∷ bs) l = absurd (omega arith)
