-- What code finds in front of a text is the first of its parts.
use Rattle.std.proofs.Common.{◌≡◌, ℕ, suc, ◌-◌, ◌<◌, ◌≤◌, true, List, [], ◌∷◌, ◌++◌, length, take, drop, Option, Some, None, is_some, refl, sym, ap, subst, ◌∙◌, arith, length-append}
use Rattle.std.specs.Option.{option_map, unwrap_or}
use Rattle.std.proofs.Math.Seq.{take-append_seam, drop-append_seam}
use Rattle.tla_token.specs.declared.part.Class.TheVariants as class
use Rattle.tla_token.specs.declared.part.Part as code
use Rattle.tla_token.specs.Lexemes.{Kind, name, number, string, one, other, unquoted}
use Rattle.tla_token.specs.Tokens.{blank, block, line, lexeme, Fits}
use Rattle.tla_token.specs.Offences.{Part, sound, stray, bad_string, open_string, open_block, part_bytes, PartFits}
use Rattle.tla_token.specs.Cut.{parts}
use Rattle.tla_token.specs.Scan.{is_quoted, inner, part_class, part_of, outline, front}
use Rattle.tla_token.proofs.Parted.{first_part, some_part, parts_step}
use Rattle.tla_token.proofs.Cutting.{Cut, front_cut}

pub inner_raw : (raw : List ℕ) → inner (34 ∷ (raw ++ 34 ∷ [])) ≡ raw
inner_raw raw =
    let e : suc (length (raw ++ 34 ∷ [])) - 2 ≡ length raw = omega (arith, length-append raw (34 ∷ [])) in
    rw e (take-append_seam raw (34 ∷ []))

shape_lexeme : (k : Kind) (bytes rest : List ℕ) → Fits (lexeme k bytes) rest → part_of (part_class (sound (lexeme k bytes))) bytes ≡ sound (lexeme k bytes)
shape_lexeme (name w) bytes rest (none, (same, is), longest) = ap (λ (u : List ℕ). sound (lexeme (name u) bytes)) same
shape_lexeme (number n) bytes rest (none, (some, all, is), longest) = ap (λ (m : ℕ). sound (lexeme (number m) bytes)) is
shape_lexeme (string w) bytes rest (none, (raw, e, u), longest) =
    ap (λ (o : Option (List ℕ)). sound (lexeme (string (unwrap_or o [])) bytes)) (ap unquoted (ap inner e ∙ inner_raw raw) ∙ u)
shape_lexeme (one s) bytes rest h = refl
shape_lexeme (other w) bytes rest (none, (same, is), longest) = ap (λ (u : List ℕ). sound (lexeme (other u) bytes)) same

shape : (x : Part) (rest : List ℕ) → PartFits x rest → part_of (part_class x) (part_bytes x) ≡ x
shape (sound (blank b)) rest h = refl
shape (sound (block body)) rest h = refl
shape (sound (line body)) rest h = refl
shape (sound (lexeme k bytes)) rest h = shape_lexeme k bytes rest h
shape (stray b) rest h = refl
shape (bad_string raw) rest h = ap bad_string (inner_raw raw)
shape (open_string raw) rest h = refl
shape (open_block body) rest h = refl

quoted_len : (raw : List ℕ) → 2 ≤ length (34 ∷ (raw ++ 34 ∷ []))
quoted_len raw = omega (arith, length-append raw (34 ∷ []))

quotes : (x : Part) (rest : List ℕ) → PartFits x rest → is_quoted (part_class x) ≡ true → 2 ≤ length (part_bytes x)
quotes (sound (blank b)) rest h q = absurd cc
quotes (sound (block body)) rest h q = absurd cc
quotes (sound (line body)) rest h q = absurd cc
quotes (sound (lexeme (name w) bytes)) rest h q = absurd cc
quotes (sound (lexeme (number n) bytes)) rest h q = absurd cc
quotes (sound (lexeme (string w) bytes)) rest (none, (raw, e, u), longest) q = (let l = quoted_len raw in let n = ap length e in omega arith)
quotes (sound (lexeme (one s) bytes)) rest h q = absurd cc
quotes (sound (lexeme (other w) bytes)) rest h q = absurd cc
quotes (stray b) rest h q = absurd cc
quotes (bad_string raw) rest h q = quoted_len raw
quotes (open_string raw) rest h q = absurd cc
quotes (open_block body) rest h q = absurd cc

means : (x : Part) (rest : List ℕ) → PartFits x rest → part_class x ≡ class.Text → is_some (unquoted (inner (part_bytes x))) ≡ true
means (sound (blank b)) rest h q = absurd cc
means (sound (block body)) rest h q = absurd cc
means (sound (line body)) rest h q = absurd cc
means (sound (lexeme (name w) bytes)) rest h q = absurd cc
means (sound (lexeme (number n) bytes)) rest h q = absurd cc
means (sound (lexeme (string w) bytes)) rest (none, (raw, e, u), longest) q = ap (λ (o : Option (List ℕ)). is_some o) (ap unquoted (ap inner e ∙ inner_raw raw) ∙ u)
means (sound (lexeme (one s) bytes)) rest h q = absurd cc
means (sound (lexeme (other w) bytes)) rest h q = absurd cc
means (stray b) rest h q = absurd cc
means (bad_string raw) rest h q = absurd cc
means (open_string raw) rest h q = absurd cc
means (open_block body) rest h q = absurd cc

-- a part is in front of this text, and is found so
pub record Found (t : List ℕ) (p : code.Part) : Type 0 where
  pub part : Part
  pub is : part_of p.class (take p.len t) ≡ part
  pub bytes : part_bytes part ≡ take p.len t
  pub cut : parts t ≡ part ∷ parts (drop p.len t)
  pub some : 0 < p.len
  pub within : p.len ≤ length t
  pub quoted : is_quoted p.class ≡ true → 2 ≤ p.len
  pub text : p.class ≡ class.Text → is_some (unquoted (inner (take p.len t))) ≡ true

bytes_some : (xs : List ℕ) → (xs ≡ [] → ⊥) → 0 < length xs
bytes_some [] h = absurd (h refl)
bytes_some (x ∷ xs) h = omega arith

found_cut : (t : List ℕ) (c : Cut t) → Found t (outline c.part)
found_cut t c =
    let x = c.part in
    let taken : take (length (part_bytes x)) t ≡ part_bytes x = ap (take (length (part_bytes x))) c.bytes ∙ take-append_seam (part_bytes x) c.rest in
    let dropped : drop (length (part_bytes x)) t ≡ c.rest = ap (drop (length (part_bytes x))) c.bytes ∙ drop-append_seam (part_bytes x) c.rest in
    let some = some_part x c.rest c.fits in
    let at_front : first_part (part_bytes x ++ c.rest) ≡ Some x = ap first_part (sym c.bytes) ∙ c.first in
    let size = ap length c.bytes in
    record {
      part = x;
      is = ap (part_of (part_class x)) taken ∙ shape x c.rest c.fits;
      bytes = sym taken;
      cut = ap parts c.bytes ∙ parts_step x (part_bytes x) c.rest refl at_front some ∙ ap (λ (u : List ℕ). x ∷ parts u) (sym dropped);
      some = bytes_some (part_bytes x) some;
      within = omega (arith, length-append (part_bytes x) c.rest);
      quoted = quotes x c.rest c.fits;
      text = λ q. ap (λ (u : List ℕ). is_some (unquoted (inner u))) taken ∙ means x c.rest c.fits q;
    }

front_is : (b : ℕ) (bs : List ℕ) → front (b ∷ bs) ≡ option_map outline (first_part (b ∷ bs))
unfolding front
front_is b bs = refl

front_end : front [] ≡ None
unfolding front
front_end = refl

same_part : (p q : code.Part) → Some p ≡ Some q → p ≡ q
same_part p q e = cc

pub found : (t : List ℕ) (p : code.Part) → Some p ≡ front t → Found t p
found [] p e = (let f : Some p ≡ None = e ∙ front_end in absurd cc)
found (b ∷ bs) p e =
    let c = front_cut b bs in
    let s : Some p ≡ Some (outline c.part) = e ∙ front_is b bs ∙ ap (option_map outline) c.first in
    let P : code.Part → Type 0 = λ q. Found (b ∷ bs) q in
    subst P (sym (same_part p (outline c.part) s)) (found_cut (b ∷ bs) c)

pub nothing_found : (t : List ℕ) → None ≡ front t → length t ≡ 0
nothing_found [] e = refl
nothing_found (b ∷ bs) e = (let c = front_cut b bs in let s : None ≡ Some (outline c.part) = e ∙ front_is b bs ∙ ap (option_map outline) c.first in absurd cc)
