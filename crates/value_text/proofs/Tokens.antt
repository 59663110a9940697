-- The first token in sight, by the first part of a text.
use Rattle.std.proofs.Common.{◌≡◌, ◌⊎◌, inl, inr, map, IsTrue, ◌++◌, append-nil, ℕ, ◌+◌, ◌-◌, ◌≤◌, Bool, true, false, true≢false, not, ◌&&◌, ◌||◌, nat_eq, is_some, List, [], ◌∷◌, length, take, drop, Option, Some, None, refl, sym, ap, subst, ◌∙◌, arith}
use Rattle.std.proofs.lemmas.List.{length-drop, length-take-le, drop_all, take_rest}
use Rattle.std.specs.Option.{unwrap_or}
use Rattle.std.specs.List.{list_all, list_any}
use Rattle.tla_token.specs.declared.part.Class.{Class}
use Rattle.tla_token.specs.declared.part.Class.TheVariants as class
use Rattle.tla_token.specs.declared.part.Part as code
use Rattle.tla_token.specs.Lexemes.{Kind, is_other, is_printed, is_letter, is_digit, is_word, number_of, unquoted}
use Rattle.tla_token.specs.Signs.{spellings, is_sign}
use Rattle.tla_token.specs.declared.sign.Sign.{Sign}
use Rattle.tla_token.specs.Tokens.{Piece, lexeme, stretch}
use Rattle.tla_token.specs.Offences.{Part, sound, PartFits, PartsFit, parts_text}
use Rattle.tla_token.specs.Cut.{parts}
use Rattle.tla_token.specs.Scan.{front, inner, is_quoted, part_of}
use Rattle.tla_token.proofs.Found.{found, nothing_found, Found}
use Rattle.tla_token.proofs.Scans.{drop_more}
use Rattle.tla_token.proofs.Cutting.{cut_fits}
use Rattle.tla_value.specs.ValueText.{Mark, word, number as number_mark, quote, sign}
use Rattle.tla_value.specs.ValueSeen.{first_of, is_no_block, ends_in_token}
use Rattle.tla_value.proofs.ValueOnce.{ends_more}
use Rattle.std.proofs.lemmas.Bool.{and_parts}
use Rattle.value_text.specs.declared.token.Token.{Token}
use Rattle.value_text.specs.declared.token.Punct.{Punct}
use Rattle.value_text.specs.Puncts.{punct_word, punct_of}
use Rattle.value_text.specs.InSight.{Skipped, Moves, seen, ahead, is_passed, is_token, IsToken, Comes, Passes}
use Rattle.value_text.proofs.PunctLemmas.{sign_punct, punct_sign, word_is_sign}

last_of : (a c : Bool) → (a && not c) ≡ true → c ≡ false
last_of true false h = refl
last_of true true h = absurd cc
last_of false c h = absurd cc

other_no_sign : (w : List ℕ) → is_other w ≡ true → is_sign w ≡ false
other_no_sign [] h = absurd cc
other_no_sign (b ∷ []) h = last_of (is_printed b && not (is_letter b || is_digit b || nat_eq b 34)) (is_sign (b ∷ [])) h
other_no_sign (b ∷ c ∷ bs) h = last_of (nat_eq b 92 && list_all is_word (c ∷ bs) && list_any is_letter (c ∷ bs)) (is_sign (b ∷ c ∷ bs)) h

-- the first part of a text that goes on, and how it fits
fits_there : (t : List ℕ) (p : code.Part) (f : Found t p) → PartFits f.part (parts_text (parts (drop p.len t)))
fits_there t p f = (let F : List Part → Type 0 = λ ps. PartsFit ps in (subst F f.cut (cut_fits t).1).0)

seen_on : (t : List ℕ) (p : code.Part) (f : Found t p) → seen (parts t) ≡ seen (part_of p.class (take p.len t) ∷ parts (drop p.len t))
seen_on t p f = ap seen (f.cut ∙ ap (λ (x : Part). x ∷ parts (drop p.len t)) (sym f.is))

passed_by : (c : Class) (bytes : List ℕ) (ps : List Part) → is_passed c ≡ true → seen (part_of c bytes ∷ ps) ≡ seen ps
passed_by class.Blank bytes ps h = refl
passed_by class.Line bytes ps h = refl
passed_by class.Block bytes ps h = absurd cc
passed_by class.Name bytes ps h = absurd cc
passed_by class.Number bytes ps h = absurd cc
passed_by class.Text bytes ps h = absurd cc
passed_by (class.Sign s) bytes ps h = absurd cc
passed_by class.Other bytes ps h = absurd cc
passed_by class.Stray bytes ps h = absurd cc
passed_by class.BadText bytes ps h = absurd cc
passed_by class.OpenText bytes ps h = absurd cc
passed_by class.OpenBlock bytes ps h = absurd cc

stopped_by : (c : Class) (bytes : List ℕ) (ps : List Part) → is_passed c ≡ false → is_token c ≡ false → seen (part_of c bytes ∷ ps) ≡ []
stopped_by class.Blank bytes ps h k = absurd cc
stopped_by class.Line bytes ps h k = absurd cc
stopped_by class.Block bytes ps h k = refl
stopped_by class.Name bytes ps h k = absurd cc
stopped_by class.Number bytes ps h k = absurd cc
stopped_by class.Text bytes ps h k = absurd cc
stopped_by (class.Sign s) bytes ps h k = absurd cc
stopped_by class.Other bytes ps h k = absurd cc
stopped_by class.Stray bytes ps h k = refl
stopped_by class.BadText bytes ps h k = refl
stopped_by class.OpenText bytes ps h k = refl
stopped_by class.OpenBlock bytes ps h k = refl

abbrev TokenBy : Class → List ℕ → List Part → Type 0
TokenBy c bytes ps = (m : Mark) × IsToken c bytes m × (seen (part_of c bytes ∷ ps) ≡ m ∷ seen ps)

known : (o : Option (List ℕ)) → is_some o ≡ true → (w : List ℕ) × (o ≡ Some w) × (unwrap_or o [] ≡ w)
known None h = absurd cc
known (Some w) h = (w, refl, refl)

token_by : (c : Class) (bytes rest : List ℕ) (ps : List Part) → is_token c ≡ true → (c ≡ class.Text → 2 ≤ length bytes) → (c ≡ class.Text → is_some (unquoted (inner bytes)) ≡ true) → PartFits (part_of c bytes) rest → TokenBy c bytes ps
token_by class.Name bytes rest ps h q u f = (word bytes, (refl, f.1.1), refl)
token_by class.Number bytes rest ps h q u f = (number_mark (number_of bytes), refl, refl)
token_by class.Text bytes rest ps h q u f =
    let w = known (unquoted (inner bytes)) (u refl) in
    (quote w.0, (q refl, w.0, w.1, refl), ap (λ (v : List ℕ). quote v ∷ seen ps) w.2)
token_by (class.Sign s) bytes rest ps h q u f = (_, refl, refl)
token_by class.Other bytes rest ps h q u f = (sign bytes, (bytes, refl, other_no_sign bytes f.1.1), refl)
token_by class.Blank bytes rest ps h q u f = absurd cc
token_by class.Line bytes rest ps h q u f = absurd cc
token_by class.Block bytes rest ps h q u f = absurd cc
token_by class.Stray bytes rest ps h q u f = absurd cc
token_by class.BadText bytes rest ps h q u f = absurd cc
token_by class.OpenText bytes rest ps h q u f = absurd cc
token_by class.OpenBlock bytes rest ps h q u f = absurd cc

-- ---- the pieces that are passed

passed_piece : (c : Class) (bytes : List ℕ) → is_passed c ≡ true → (p : Piece) × (part_of c bytes ≡ sound p) × (is_no_block p ≡ true)
passed_piece class.Blank bytes h = (_, refl, refl)
passed_piece class.Line bytes h = (_, refl, refl)
passed_piece class.Block bytes h = absurd cc
passed_piece class.Name bytes h = absurd cc
passed_piece class.Number bytes h = absurd cc
passed_piece class.Text bytes h = absurd cc
passed_piece (class.Sign s) bytes h = absurd cc
passed_piece class.Other bytes h = absurd cc
passed_piece class.Stray bytes h = absurd cc
passed_piece class.BadText bytes h = absurd cc
passed_piece class.OpenText bytes h = absurd cc
passed_piece class.OpenBlock bytes h = absurd cc

token_piece : (c : Class) (bytes : List ℕ) → is_token c ≡ true → (k : Kind) × (part_of c bytes ≡ sound (lexeme k bytes))
token_piece class.Name bytes h = (_, refl)
token_piece class.Number bytes h = (_, refl)
token_piece class.Text bytes h = (_, refl)
token_piece (class.Sign s) bytes h = (_, refl)
token_piece class.Other bytes h = (_, refl)
token_piece class.Blank bytes h = absurd cc
token_piece class.Line bytes h = absurd cc
token_piece class.Block bytes h = absurd cc
token_piece class.Stray bytes h = absurd cc
token_piece class.BadText bytes h = absurd cc
token_piece class.OpenText bytes h = absurd cc
token_piece class.OpenBlock bytes h = absurd cc

pub joined_cut : (ps qs : List Piece) (more : List Part) → map sound ps ++ (map sound qs ++ more) ≡ map sound (ps ++ qs) ++ more
joined_cut [] qs more = refl
joined_cut (p ∷ ps) qs more = ap (λ (l : List Part). sound p ∷ l) (joined_cut ps qs more)

pub joined_blocks : (ps qs : List Piece) → list_all is_no_block ps ≡ true → list_all is_no_block qs ≡ true → list_all is_no_block (ps ++ qs) ≡ true
joined_blocks [] qs h k = k
joined_blocks (p ∷ ps) qs h k = (let b = and_parts (is_no_block p) (list_all is_no_block ps) h in λ i. b.0 i && joined_blocks ps qs b.1 k i)

ends_behind : (ps : List Piece) (q : Piece) (qs : List Piece) → ends_in_token (ps ++ q ∷ qs) ≡ ends_in_token (q ∷ qs)
ends_behind [] q qs = refl
ends_behind (p ∷ []) q qs = ends_more p q qs
ends_behind (p ∷ o ∷ ps) q qs = ends_more p o (ps ++ q ∷ qs) ∙ ends_behind (o ∷ ps) q qs

pub skip_then : (bytes : List ℕ) (a b c : ℕ) → Skipped bytes a b → Skipped bytes b c → Skipped bytes a c
skip_then bytes a b c s t = record {
  pieces = s.pieces ++ t.pieces;
  cut = s.cut ∙ ap (λ (l : List Part). map sound s.pieces ++ l) t.cut ∙ joined_cut s.pieces t.pieces (parts (drop c bytes));
  no_blocks = joined_blocks s.pieces t.pieces s.no_blocks t.no_blocks;
}

ends_so : (ps qs : List Piece) → ((ps ≡ []) ⊎ IsTrue (ends_in_token ps)) → ((qs ≡ []) ⊎ IsTrue (ends_in_token qs)) → ((ps ++ qs) ≡ []) ⊎ IsTrue (ends_in_token (ps ++ qs))
ends_so [] qs h k = k
ends_so (p ∷ ps) [] h k = subst (λ (l : List Piece). (l ≡ []) ⊎ IsTrue (ends_in_token l)) (sym (append-nil (p ∷ ps))) h
ends_so (p ∷ ps) (q ∷ qs) h (inr e) = inr (ends_behind (p ∷ ps) q qs ∙ e)
ends_so (p ∷ ps) (q ∷ qs) h (inl e) = absurd cc

pub moves_then : (bytes : List ℕ) (a b c : ℕ) → Moves bytes a b → Moves bytes b c → Moves bytes a c
unfolding skip_then
moves_then bytes a b c m n = record { skipped = skip_then bytes a b c m.skipped n.skipped; ends = ends_so m.skipped.pieces n.skipped.pieces m.ends n.ends }

pub skip_none : (bytes : List ℕ) (at : ℕ) → Skipped bytes at at
skip_none bytes at = record { pieces = []; cut = refl; no_blocks = refl }

pub moves_none : (bytes : List ℕ) (at : ℕ) → Moves bytes at at
unfolding skip_none
moves_none bytes at = record { skipped = skip_none bytes at; ends = inl refl }

pub moves_same : (bytes : List ℕ) (a b : ℕ) → b ≡ a → Moves bytes a b
moves_same bytes a b e = subst (λ (n : ℕ). Moves bytes a n) (sym e) (moves_none bytes a)

-- one part more
one_cut : (bytes : List ℕ) (pos n : ℕ) (p : code.Part) → Some p ≡ front (drop pos bytes) → n ≡ pos + p.len → (x : Piece) → part_of p.class (take p.len (drop pos bytes)) ≡ sound x → parts (drop pos bytes) ≡ sound x ∷ parts (drop n bytes)
one_cut bytes pos n p e size x is =
    let t = drop pos bytes in
    let f = found t p e in
    f.cut ∙ (λ i. (sym f.is ∙ is) i ∷ parts (drop p.len t)) ∙ ap (λ (u : List ℕ). sound x ∷ parts u) (drop_more pos p.len bytes) ∙ ap (λ (k : ℕ). sound x ∷ parts (drop k bytes)) (sym size)

pub part_passed : (bytes : List ℕ) (at pos n : ℕ) (p : code.Part) → Some p ≡ front (drop pos bytes) → is_passed p.class ≡ true → Skipped bytes at pos → n ≡ pos + p.len → Skipped bytes at n
part_passed bytes at pos n p e h s size =
    let x = passed_piece p.class (take p.len (drop pos bytes)) h in
    skip_then bytes at pos n s (record { pieces = x.0 ∷ []; cut = one_cut bytes pos n p e size x.0 x.1; no_blocks = ap (λ (b : Bool). b && true) x.2 })

token_passed : (bytes : List ℕ) (at pos n : ℕ) (p : code.Part) → Some p ≡ front (drop pos bytes) → is_token p.class ≡ true → Skipped bytes at pos → n ≡ pos + p.len → Moves bytes at n
unfolding skip_then
token_passed bytes at pos n p e h s size =
    let x = token_piece p.class (take p.len (drop pos bytes)) h in
    let l = lexeme x.0 (take p.len (drop pos bytes)) in
    let one : Skipped bytes pos n = record { pieces = l ∷ []; cut = one_cut bytes pos n p e size l x.1; no_blocks = refl } in
    record { skipped = skip_then bytes at pos n s one; ends = inr (ends_behind s.pieces l []) }

-- ---- one part after the other

rest_whole : (bytes : List ℕ) (n : ℕ) → take (length bytes - n) (drop n bytes) ≡ drop n bytes
rest_whole bytes n = take_rest bytes n

pub there : (bytes : List ℕ) (n : ℕ) (p : code.Part) → Some p ≡ front (take (length bytes - n) (drop n bytes)) → Some p ≡ front (drop n bytes)
there bytes n p e = e ∙ ap front (rest_whole bytes n)

pub unthere : (bytes : List ℕ) (n : ℕ) → None ≡ front (take (length bytes - n) (drop n bytes)) → None ≡ front (drop n bytes)
unthere bytes n e = e ∙ ap front (rest_whole bytes n)

pub passed : (bytes : List ℕ) (at pos n : ℕ) (p : code.Part) → Some p ≡ front (drop pos bytes) → is_passed p.class ≡ true → ahead bytes pos ≡ ahead bytes at → n ≡ pos + p.len → ahead bytes n ≡ ahead bytes at
unfolding ahead
passed bytes at pos n p e h inv size =
    let t = drop pos bytes in
    let f = found t p e in
    ap (λ (k : ℕ). seen (parts (drop k bytes))) size ∙ ap (λ (u : List ℕ). seen (parts u)) (sym (drop_more pos p.len bytes)) ∙ sym (seen_on t p f ∙ passed_by p.class (take p.len t) (parts (drop p.len t)) h) ∙ inv

pub stopped : (bytes : List ℕ) (at pos : ℕ) (p : code.Part) → Some p ≡ front (drop pos bytes) → is_passed p.class ≡ false → is_token p.class ≡ false → ahead bytes pos ≡ ahead bytes at → ahead bytes at ≡ []
unfolding ahead
stopped bytes at pos p e h k inv =
    let t = drop pos bytes in
    let f = found t p e in
    sym inv ∙ seen_on t p f ∙ stopped_by p.class (take p.len t) (parts (drop p.len t)) h k

pub at_end : (bytes : List ℕ) (at pos : ℕ) → None ≡ front (drop pos bytes) → ahead bytes pos ≡ ahead bytes at → ahead bytes at ≡ []
unfolding ahead
at_end bytes at pos e inv = sym inv ∙ ap (λ (u : List ℕ). seen (parts u)) (none (drop pos bytes) (nothing_found (drop pos bytes) e))
  where
    none : (u : List ℕ) → length u ≡ 0 → u ≡ []
    none [] h = refl
    none (b ∷ u) h = absurd (omega (arith, h))

pub past_end : (bytes : List ℕ) (at pos : ℕ) → length bytes ≤ pos → ahead bytes pos ≡ ahead bytes at → ahead bytes at ≡ []
unfolding ahead
past_end bytes at pos l inv = sym inv ∙ ap (λ (u : List ℕ). seen (parts u)) (drop_all pos bytes l)

pub comes : (bytes : List ℕ) (at pos : ℕ) (p : code.Part) (t : Token) → Some p ≡ front (drop pos bytes) → is_token p.class ≡ true → ahead bytes pos ≡ ahead bytes at → at ≤ pos → pos ≤ length bytes → Skipped bytes at pos → t ≡ record { class = p.class; from = pos; to = pos + p.len } → Comes bytes at t
unfolding ahead
comes bytes at pos p t e h inv low high skip is =
    let u = drop pos bytes in
    let f = found u p e in
    let F : Part → Type 0 = λ x. PartFits x (parts_text (parts (drop p.len u))) in
    let k = token_by p.class (take p.len u) (parts_text (parts (drop p.len u))) (parts (drop p.len u)) h (λ q. omega (arith, f.quoted (ap is_quoted q), length-take-le p.len u f.within)) f.text (subst F (sym f.is) (fits_there u p f)) in
    let piece : take p.len u ≡ stretch bytes pos (pos + p.len) = ap (λ (n : ℕ). take n u) (omega arith) in
    let C : Token → Type 0 = λ y. Comes bytes at y in
    subst C (sym is) (record {
      low = low;
      some = omega (arith, f.some);
      high = omega (arith, f.within, length-drop pos bytes);
      mark = k.0;
      token = subst (λ (w : List ℕ). IsToken p.class w k.0) piece k.1;
      way = token_passed bytes at pos (pos + p.len) p e h skip refl;
      first = sym inv ∙ seen_on u p f ∙ k.2 ∙ ap (λ (w : List ℕ). k.0 ∷ seen (parts w)) (drop_more pos p.len bytes);
    })

-- ---- whether it is a sign

none_first : (m : Mark) (ms : List Mark) → [] ≡ m ∷ ms → ⊥
none_first m ms e = cc

first_same : (m n : Mark) (ms ns : List Mark) → m ∷ ms ≡ n ∷ ns → m ≡ n
first_same m n ms ns e = cc

sign_words : (v w : List ℕ) → sign v ≡ sign w → v ≡ w
sign_words v w e = cc

-- a token that is this sign has its class
pub sign_class : (c : Class) (bytes : List ℕ) (m : Mark) (p : Punct) → IsToken c bytes m → m ≡ sign (punct_word p) → (s : Sign) × (c ≡ class.Sign s) × (punct_of s ≡ Some p)
sign_class (class.Sign s) bytes m p t e = (s, refl, sign_punct s p (sign_words (first_of (spellings s)) (punct_word p) (sym t ∙ e)))
sign_class class.Other bytes m p t e = absurd (true≢false (sym (word_is_sign p) ∙ ap is_sign (sym (sign_words t.0 (punct_word p) (sym t.1 ∙ e))) ∙ t.2))
sign_class class.Name bytes m p t e = (let f : word bytes ≡ sign (punct_word p) = sym t.0 ∙ e in absurd cc)
sign_class class.Number bytes m p t e = (let f : number_mark (number_of bytes) ≡ sign (punct_word p) = sym t ∙ e in absurd cc)
sign_class class.Text bytes m p t e = (let f : quote t.1 ≡ sign (punct_word p) = sym t.3 ∙ e in absurd cc)
sign_class class.Blank bytes m p t e = absurd t
sign_class class.Line bytes m p t e = absurd t
sign_class class.Block bytes m p t e = absurd t
sign_class class.Stray bytes m p t e = absurd t
sign_class class.BadText bytes m p t e = absurd t
sign_class class.OpenText bytes m p t e = absurd t
sign_class class.OpenBlock bytes m p t e = absurd t

pub no_sign_there : (bytes : List ℕ) (at : ℕ) (t : Token) (p : Punct) → Comes bytes at t → (((s : Sign) × (t.class ≡ class.Sign s) × (punct_of s ≡ Some p)) → ⊥) → (r : List Mark) → ahead bytes at ≡ sign (punct_word p) ∷ r → ⊥
no_sign_there bytes at t p c n r e =
    n (sign_class t.class (stretch bytes t.from t.to) c.mark p c.token (first_same c.mark (sign (punct_word p)) (ahead bytes t.to) r (sym c.first ∙ e)))

pub sign_there : (bytes : List ℕ) (at : ℕ) (t : Token) (p : Punct) (s : Sign) → Comes bytes at t → t.class ≡ class.Sign s → punct_of s ≡ Some p → ahead bytes at ≡ sign (punct_word p) ∷ ahead bytes t.to
sign_there bytes at t p s c e h =
    let k : IsToken (class.Sign s) (stretch bytes t.from t.to) c.mark = subst (λ (d : Class). IsToken d (stretch bytes t.from t.to) c.mark) e c.token in
    c.first ∙ ap (λ (m : Mark). m ∷ ahead bytes t.to) (k ∙ ap sign (punct_sign s p h))

pub pass_answer : (bytes : List ℕ) (at : ℕ) (t : Token) (p : Punct) (b : Bool) → Comes bytes at t → b ≡ false → (((s : Sign) × (t.class ≡ class.Sign s) × (punct_of s ≡ Some p)) → b ≡ true) → Passes bytes p at at b
pass_answer bytes at t p true c e h = absurd (true≢false e)
pass_answer bytes at t p false c e h = (refl, no_sign_there bytes at t p c (λ x. true≢false (sym (h x))))
