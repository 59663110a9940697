-- The part that code finds in front stays where its class and length say so, and else the text waits.
use Rattle.std.proofs.Common.{◌≡◌, ℕ, zero, suc, ◌+◌, ◌<◌, ◌≤◌, Bool, true, false, not, ◌||◌, nat_eq, nat_le, nat_lt, get_or, drop, map, List, [], ◌∷◌, ◌++◌, length, Some, None, option_map, inl, refl, sym, ap, subst, ◌∙◌, arith, append_assoc, append-nil, length-append, length-drop, if◌then◌else◌}
use Rattle.std.specs.List.{list_any, slice_get}
use Rattle.std.proofs.Math.Seq.{drop-append_seam}
use Rattle.std.proofs.lemmas.List.{drop-append-le}
use Rattle.std.proofs.lemmas.Bool.{lt-ltb, le-ltb, ltb-true, ltb-false, leb-true, leb-false}
use Rattle.tla_token.specs.declared.part.Part as code
use Rattle.tla_token.specs.Lexemes.{name, number, string, one, other, is_word}
use Rattle.tla_token.specs.Tokens.{blank, block, line, lexeme}
use Rattle.tla_token.specs.Offences.{Part, sound, stray, bad_string, open_string, open_block, part_bytes, parts_text, PartFits, PartsFit}
use Rattle.tla_token.specs.Cut.{run, parts}
use Rattle.tla_token.specs.Scan.{part_class, outline, front}
use Rattle.tla_token.specs.Feeding.{is_settled, stays, stays_by, decided, undecided, IsKept, AreDecided}
use Rattle.tla_token.proofs.Words.{one_plus}
use Rattle.tla_token.proofs.Parted.{first_part, fits_first, parts_step, some_part, cut_back}
use Rattle.tla_token.proofs.Cutting.{Cut, front_cut, cut_fits}
use Rattle.tla_token.proofs.Found.{found, nothing_found}
use Rattle.tla_token.proofs.MachineStays.{stays_fits}
use Rattle.tla_token.proofs.Scans.{drop_more}
use Rattle.tla_token.proofs.MachineFeeding.{changing}
use Rattle.tla_token.proofs.MachineStands.{first_off}
use Rattle.tla_token.proofs.MachineTexts.{chosen, left_out}

-- ---- a part by its class and length

past_it : (n k : ℕ) → nat_lt n (n + k) ≡ nat_lt 0 k
past_it n zero = le-ltb n (n + 0) (omega arith)
past_it n (suc k) = lt-ltb n (n + suc k) (omega arith) ∙ sym (lt-ltb 0 (suc k) (omega arith))

longer : (m rest : List ℕ) → nat_lt (length m) (length (m ++ rest)) ≡ nat_lt 0 (length rest)
longer m rest = ap (λ (n : ℕ). nat_lt (length m) n) (length-append m rest) ∙ past_it (length m) (length rest)

by_class : (x : Part) (rest : List ℕ) → stays_by (part_class x) (length (part_bytes x)) (part_bytes x ++ rest) ≡ stays x rest
by_class (sound (blank b)) rest = refl
by_class (sound (block body)) rest = refl
by_class (sound (line body)) rest = longer (part_bytes (sound (line body))) rest
by_class (sound (lexeme (name w) bytes)) rest = refl
by_class (sound (lexeme (number n) bytes)) rest = refl
by_class (sound (lexeme (string w) bytes)) rest = refl
by_class (sound (lexeme (one s) bytes)) rest = refl
by_class (sound (lexeme (other w) bytes)) rest = refl
by_class (stray b) rest = refl
by_class (bad_string raw) rest = refl
by_class (open_string raw) rest = longer (34 ∷ raw) rest
by_class (open_block body) rest = refl

-- ---- whatever comes

front_of : (t : List ℕ) (x : Part) → first_part t ≡ Some x → front t ≡ Some (outline x)
unfolding front
front_of [] x e = absurd cc
front_of (b ∷ bs) x e = ap (option_map outline) e

cut_stays : (t : List ℕ) (c : Cut t) (more : List ℕ) → stays c.part c.rest ≡ true → front (t ++ more) ≡ Some (outline c.part)
cut_stays t c more s =
    front_of (t ++ more) c.part
    (ap (λ (u : List ℕ). first_part (u ++ more)) c.bytes
    ∙ ap first_part (append_assoc (part_bytes c.part) c.rest more)
    ∙ fits_first c.part (c.rest ++ more) (stays_fits c.part c.rest more c.fits s))

cut_waits : (t : List ℕ) (c : Cut t) → stays c.part c.rest ≡ false → IsKept t
cut_waits t c s =
    let r = cut_fits c.rest in
    let F : List ℕ → Type 0 = λ u. PartFits c.part u in
    let K : List ℕ → Type 0 = λ u. IsKept u in
    subst K (ap (λ (u : List ℕ). part_bytes c.part ++ u) r.0 ∙ sym c.bytes)
    (changing c.part (parts c.rest) (subst F (sym r.0) c.fits, r.1) (ap (stays c.part) r.0 ∙ s))

-- the part in front, and whether it stays
found_cut : (t : List ℕ) (p : code.Part) → Some p ≡ front t → (c : Cut t) × (p ≡ outline c.part) × (stays_by p.class p.len t ≡ stays c.part c.rest)
found_cut [] p e = (let f = found [] p e in let l = f.some in let m = f.within in absurd (omega arith))
found_cut (b ∷ bs) p e =
    let c = front_cut b bs in
    let same : Some p ≡ Some (outline c.part) = e ∙ front_of (b ∷ bs) c.part c.first in
    let is : p ≡ outline c.part = cc in
    (c, is, ap (λ (q : code.Part). stays_by q.class q.len (b ∷ bs)) is ∙ ap (stays_by (part_class c.part) (length (part_bytes c.part))) c.bytes ∙ by_class c.part c.rest)

pub decided_front : (t : List ℕ) (p : code.Part) → Some p ≡ front t → stays_by p.class p.len t ≡ true → (more : List ℕ) → front (t ++ more) ≡ Some p
decided_front t p e s more =
    let f = found_cut t p e in
    cut_stays t f.0 more (sym f.2 ∙ s) ∙ ap Some (sym f.1)

pub waiting_front : (t : List ℕ) (p : code.Part) → Some p ≡ front t → stays_by p.class p.len t ≡ false → IsKept t
waiting_front t p e s = (let f = found_cut t p e in cut_waits t f.0 (sym f.2 ∙ s))

pub empty_front : (t : List ℕ) → None ≡ front t → IsKept t
empty_front t e = (let l = nothing_found t e in inl (omega arith))

-- ---- part by part

front_off : (t : List ℕ) (p : code.Part) → Some p ≡ front t → map outline (parts t) ≡ p ∷ map outline (parts (drop p.len t))
front_off t p e =
    let f = found_cut t p e in
    let c = f.0 in
    let rest : drop p.len t ≡ c.rest = ap (λ (q : code.Part). drop q.len t) f.1 ∙ ap (drop (length (part_bytes c.part))) c.bytes ∙ drop-append_seam (part_bytes c.part) c.rest in
    ap (λ (u : List ℕ). map outline (parts u)) c.bytes
    ∙ first_off c.part c.rest c.fits
    ∙ (λ i. sym f.1 i ∷ map outline (parts (sym rest i)))

-- ---- all parts that stay

parts_cut : (t : List ℕ) (c : Cut t) → parts t ≡ c.part ∷ parts c.rest
parts_cut t c = ap parts c.bytes ∙ parts_step c.part (part_bytes c.part) c.rest refl (fits_first c.part c.rest c.fits) (some_part c.part c.rest c.fits)

cut_decided : (t : List ℕ) (c : Cut t) (k : Bool) → stays c.part c.rest ≡ k → decided (parts t) ≡ (if k then c.part ∷ decided (parts c.rest) else [])
cut_decided t c k s =
    ap decided (parts_cut t c)
    ∙ ap (λ (b : Bool). if b then c.part ∷ decided (parts c.rest) else []) (ap (stays c.part) (cut_fits c.rest).0 ∙ s)

pub first_stays : (t : List ℕ) (p : code.Part) → Some p ≡ front t → stays_by p.class p.len t ≡ true → Some p ≡ slice_get (map outline (decided (parts t))) 0
first_stays t p e s =
    let f = found_cut t p e in
    ap Some f.1 ∙ sym (ap (λ (ps : List Part). slice_get (map outline ps) 0) (cut_decided t f.0 true (sym f.2 ∙ s)))

pub first_waits : (t : List ℕ) (p : code.Part) → Some p ≡ front t → stays_by p.class p.len t ≡ false → None ≡ slice_get (map outline (decided (parts t))) 0
first_waits t p e s =
    let f = found_cut t p e in
    sym (ap (λ (ps : List Part). slice_get (map outline ps) 0) (cut_decided t f.0 false (sym f.2 ∙ s)))

pub first_missing : (t : List ℕ) → None ≡ front t → None ≡ slice_get (map outline (decided (parts t))) 0
first_missing [] e = refl
first_missing (b ∷ bs) e = (let l = nothing_found (b ∷ bs) e in absurd (omega arith))

-- where nothing is decided all bytes wait
pub none_more : (t : List ℕ) → None ≡ slice_get (map outline (decided (parts t))) 0 → (map outline (decided (parts t)) ≡ []) × (undecided (parts t) ≡ t)
none_more t e = (let r = by (parts t) e in (r.0, r.1 ∙ (cut_fits t).0))
  where
    on : (x : Part) (ps : List Part) (k : Bool) → stays x (parts_text ps) ≡ k → None ≡ slice_get (map outline (decided (x ∷ ps))) 0
        → (map outline (decided (x ∷ ps)) ≡ []) × (undecided (x ∷ ps) ≡ parts_text (x ∷ ps))
    on x ps true s e = (let f : None ≡ Some (outline x) = rw s at e in absurd cc)
    on x ps false s e = rw s (refl, refl)

    by : (ps : List Part) → None ≡ slice_get (map outline (decided ps)) 0 → (map outline (decided ps) ≡ []) × (undecided ps ≡ parts_text ps)
    by [] e = (refl, refl)
    by (x ∷ ps) e = on x ps (stays x (parts_text ps)) refl e

abbrev Further : code.Part → List Part → List ℕ → Type 0
Further p ps rest = (map outline (decided ps) ≡ p ∷ map outline (decided (parts rest))) × (undecided ps ≡ undecided (parts rest))

-- behind a part that is decided it goes on in the same way
pub one_more : (t : List ℕ) (p : code.Part) → Some p ≡ slice_get (map outline (decided (parts t))) 0 → Further p (parts t) (drop p.len t)
one_more t p e =
    let c = cut_fits t in
    let Goes : List ℕ → Type 0 = λ u. Further p (parts t) (drop p.len u) in
    subst Goes c.0 (by (parts t) c.1 e)
  where
    on : (x : Part) (ps : List Part) → PartsFit ps → (k : Bool) → stays x (parts_text ps) ≡ k → Some p ≡ slice_get (map outline (decided (x ∷ ps))) 0 → Further p (x ∷ ps) (drop p.len (parts_text (x ∷ ps)))
    on x ps h true s e =
        let same : Some p ≡ Some (outline x) = rw s at e in
        let is : p ≡ outline x = cc in
        let rest : parts (drop p.len (part_bytes x ++ parts_text ps)) ≡ ps =
        ap (λ (q : code.Part). parts (drop q.len (part_bytes x ++ parts_text ps))) is ∙ ap parts (drop-append_seam (part_bytes x) (parts_text ps)) ∙ cut_back ps h in
        rw (s, rest) (ap (λ (q : code.Part). q ∷ map outline (decided ps)) (sym is), refl)
    on x ps h false s e = (let f : Some p ≡ None = rw s at e in absurd cc)

    by : (ps : List Part) → PartsFit ps → Some p ≡ slice_get (map outline (decided ps)) 0 → Further p ps (drop p.len (parts_text ps))
    by [] h e = absurd cc
    by (x ∷ ps) (f, h) e = on x ps h (stays x (parts_text ps)) refl e

pub none_decided : (text : List ℕ) (before : List code.Part) → AreDecided text before before 0
none_decided text before = (omega arith, λ more. refl)

pub one_decided : (text : List ℕ) (before so_far : List code.Part) (at : ℕ) (p : code.Part) → AreDecided text before so_far at → ((more : List ℕ) → front (drop at text ++ more) ≡ Some p) → p.len ≤ length (drop at text)
    → AreDecided text before (so_far ++ p ∷ []) (at + p.len)
one_decided text before so_far at p (within, same) front_is l = (
  omega (arith, length-drop at text),
  λ more.
      same more
      ∙ ap (λ (ps : List code.Part). so_far ++ ps) (front_off (drop at text ++ more) p (sym (front_is more)))
      ∙ ap (λ (u : List ℕ). so_far ++ p ∷ map outline (parts u)) (drop-append-le p.len (drop at text) more l ∙ ap (λ (u : List ℕ). u ++ more) (drop_more at p.len text))
      ∙ sym (append_assoc so_far (p ∷ []) (map outline (parts (drop (at + p.len) text ++ more)))),
)

pub decided_len : (t : List ℕ) (p : code.Part) → ((more : List ℕ) → front (t ++ more) ≡ Some p) → (0 < p.len) × (p.len ≤ length t)
decided_len t p h =
    let e : Some p ≡ front t = sym (h []) ∙ ap front (append-nil t) in
    let f = found t p e in
    (f.some, f.within)

-- ---- settled bytes

suc_lt : (a b : ℕ) → nat_lt (suc a) (suc b) ≡ nat_lt a b
suc_lt a b = by (nat_lt a b) refl
  where
    by : (k : Bool) → nat_lt a b ≡ k → nat_lt (suc a) (suc b) ≡ nat_lt a b
    by true k = (let l = ltb-true a b k in lt-ltb (suc a) (suc b) (omega arith) ∙ sym k)
    by false k = (let l = ltb-false a b k in le-ltb (suc a) (suc b) (omega arith) ∙ sym k)

run_short : (bs : List ℕ) → list_any (λ c. not (is_word c)) bs ≡ nat_lt (length (run is_word bs)) (length bs)
run_short [] = refl
run_short (b ∷ bs) = by (is_word b) refl (run_short bs)
  where
    by : (k : Bool) → is_word b ≡ k → list_any (λ c. not (is_word c)) bs ≡ nat_lt (length (run is_word bs)) (length bs)
        → list_any (λ c. not (is_word c)) (b ∷ bs) ≡ nat_lt (length (run is_word (b ∷ bs))) (length (b ∷ bs))
    by true k e = rw (k, one_plus) (e ∙ sym (suc_lt (length (run is_word bs)) (length bs)))
    by false k e = rw k (sym (lt-ltb 0 (suc (length bs)) (omega arith)))

pub settled_none : (t : List ℕ) → length t ≡ 0 → false ≡ is_settled t
settled_none [] e = refl
settled_none (b ∷ bs) e = absurd (omega arith)

pub settled_word : (t : List ℕ) → 0 < length t → (is_word (get_or t 0 0) || nat_eq (get_or t 0 0) 92) ≡ true → nat_lt (1 + length (run is_word (drop 1 t))) (length t) ≡ is_settled t
settled_word [] l k = absurd (omega arith)
settled_word (b ∷ bs) l k =
    ap (λ (n : ℕ). nat_lt n (length (b ∷ bs))) (one_plus (length (run is_word bs)))
    ∙ suc_lt (length (run is_word bs)) (length bs)
    ∙ sym (run_short bs)
    ∙ sym (chosen (is_word b || nat_eq b 92) (list_any (λ c. not (is_word c)) bs) (nat_le 2 (length bs)) k)

pub settled_mark : (t : List ℕ) → 0 < length t → (is_word (get_or t 0 0) || nat_eq (get_or t 0 0) 92) ≡ false → nat_lt 2 (length t) ≡ is_settled t
settled_mark [] l k = absurd (omega arith)
settled_mark (b ∷ bs) l k = two (length bs) ∙ sym (left_out (is_word b || nat_eq b 92) (list_any (λ c. not (is_word c)) bs) (nat_le 2 (length bs)) k)
  where
    two : (n : ℕ) → nat_lt 2 (suc n) ≡ nat_le 2 n
    two n = by (nat_le 2 n) refl
      where
        by : (k : Bool) → nat_le 2 n ≡ k → nat_lt 2 (suc n) ≡ nat_le 2 n
        by true k = (let l = leb-true 2 n k in lt-ltb 2 (suc n) (omega arith) ∙ sym k)
        by false k = (let l = leb-false 2 n k in le-ltb 2 (suc n) (omega arith) ∙ sym k)
