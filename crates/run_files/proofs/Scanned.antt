-- What is at a place of a text, by the first part from there on.
use Rattle.std.proofs.Common.{◌≡◌, ℕ, ◌+◌, ◌-◌, ◌<◌, ◌≤◌, Bool, true, false, true≢false, List, [], ◌∷◌, length, take, drop, Option, Some, None, refl, sym, ap, ◌∙◌, arith}
use Rattle.std.specs.Prelude.{bytes_eq, option_and_then, if◌then◌else◌}
use Rattle.std.proofs.lemmas.List.{length-drop, take_rest}
use Rattle.std.proofs.lemmas.Slice.Eq.{bytes_eq-Decides}
use Rattle.tla_token.specs.declared.part.Class.{Class}
use Rattle.tla_token.specs.declared.part.Class.TheVariants as class
use Rattle.tla_token.specs.declared.part.Part as code
use Rattle.tla_token.specs.Lexemes.{Kind}
use Rattle.tla_token.specs.Tokens.{stretch}
use Rattle.tla_token.specs.Offences.{Part, part_bytes}
use Rattle.tla_token.specs.Cut.{parts}
use Rattle.tla_token.specs.Scan.{part_of, front}
use Rattle.tla_token.proofs.Found.{found, nothing_found}
use Rattle.tla_token.proofs.Scans.{drop_more, part_within, part_some, part_size}
use Rattle.step_runner.specs.Fronts.{Text, gap, next_at, choices_of, choices_from, first_token, token_at, name_in, name_at, end_if, past}
use Rattle.step_runner.proofs.Offended.{none_some, same_some}
use Rattle.run_files.specs.Fronts.{is_passed, is_token, Stops, Next}

-- ---- the part that code finds

pub there : (x : Text) (at : ℕ) (o : Option code.Part) → o ≡ front (take (length x - at) (drop at x)) → o ≡ front (drop at x)
there x at o e = e ∙ ap front (take_rest x at)

pub inside : (x : Text) (at : ℕ) (p : code.Part) → at ≤ length x → Some p ≡ front (take (length x - at) (drop at x)) → at + p.len ≤ length x
inside x at p l e = omega (arith, l, length-drop at x, part_within (drop at x) p (there x at (Some p) e))

pub some : (x : Text) (at : ℕ) (p : code.Part) → Some p ≡ front (take (length x - at) (drop at x)) → 0 < p.len
some x at p e = part_some (drop at x) p (there x at (Some p) e)

-- ---- what is passed over

gap_passed : (c : Class) (bytes : Text) (ps : List Part) → is_passed c ≡ true → gap (part_of c bytes ∷ ps) ≡ length (part_bytes (part_of c bytes)) + gap ps
gap_passed class.Blank bytes ps h = omega arith
gap_passed class.Line bytes ps h = refl
gap_passed class.Block bytes ps h = absurd cc
gap_passed class.Name bytes ps h = absurd cc
gap_passed class.Number bytes ps h = absurd cc
gap_passed class.Text bytes ps h = absurd cc
gap_passed (class.Sign s) bytes ps h = absurd cc
gap_passed class.Other bytes ps h = absurd cc
gap_passed class.Stray bytes ps h = absurd cc
gap_passed class.BadText bytes ps h = absurd cc
gap_passed class.OpenText bytes ps h = absurd cc
gap_passed class.OpenBlock bytes ps h = absurd cc

gap_stopped : (c : Class) (bytes : Text) (ps : List Part) → is_passed c ≡ false → gap (part_of c bytes ∷ ps) ≡ 0
gap_stopped class.Blank bytes ps h = absurd cc
gap_stopped class.Line bytes ps h = absurd cc
gap_stopped class.Block bytes ps h = refl
gap_stopped class.Name bytes ps h = refl
gap_stopped class.Number bytes ps h = refl
gap_stopped class.Text bytes ps h = refl
gap_stopped (class.Sign s) bytes ps h = refl
gap_stopped class.Other bytes ps h = refl
gap_stopped class.Stray bytes ps h = refl
gap_stopped class.BadText bytes ps h = refl
gap_stopped class.OpenText bytes ps h = refl
gap_stopped class.OpenBlock bytes ps h = refl

-- the first part, as that of its class, and the parts behind it
pub cut_at : (x : Text) (at : ℕ) (p : code.Part) → Some p ≡ front (drop at x) → parts (drop at x) ≡ part_of p.class (take p.len (drop at x)) ∷ parts (drop (at + p.len) x)
cut_at x at p e =
    let f = found (drop at x) p e in
    f.cut ∙ (λ i. sym f.is i ∷ parts (drop_more at p.len x i))

size_at : (x : Text) (at : ℕ) (p : code.Part) → Some p ≡ front (drop at x) → length (part_bytes (part_of p.class (take p.len (drop at x)))) ≡ p.len
size_at x at p e =
    let f = found (drop at x) p e in
    ap (λ (q : Part). length (part_bytes q)) f.is ∙ ap length f.bytes ∙ part_size (drop at x) p e

pub next_passed : (x : Text) (at : ℕ) (p : code.Part) → Some p ≡ front (drop at x) → is_passed p.class ≡ true → next_at x at ≡ next_at x (at + p.len)
next_passed x at p e h =
    let g = ap gap (cut_at x at p e) ∙ gap_passed p.class (take p.len (drop at x)) (parts (drop (at + p.len) x)) h in
    omega (arith, g, size_at x at p e)

pub next_stopped : (x : Text) (at : ℕ) (p : code.Part) → Some p ≡ front (drop at x) → is_passed p.class ≡ false → next_at x at ≡ at
next_stopped x at p e h =
    let g = ap gap (cut_at x at p e) ∙ gap_stopped p.class (take p.len (drop at x)) (parts (drop (at + p.len) x)) h in
    omega (arith, g)

no_bytes : (t : Text) → length t ≡ 0 → t ≡ []
no_bytes [] h = refl
no_bytes (b ∷ t) h = absurd (omega (arith, h))

pub cut_end : (x : Text) (at : ℕ) → None ≡ front (drop at x) → parts (drop at x) ≡ []
cut_end x at e = ap parts (no_bytes (drop at x) (nothing_found (drop at x) e))

pub next_end : (x : Text) (at : ℕ) → None ≡ front (drop at x) → next_at x at ≡ at
next_end x at e = (let g = ap gap (cut_end x at e) in omega (arith, g))

stops_by : (x : Text) (at : ℕ) (p : code.Part) → Some p ≡ front (drop at x) → is_passed p.class ≡ false → Stops x at
stops_by x at p e h q f = ap (λ (r : code.Part). is_passed r.class) (same_some q p (f ∙ sym e)) ∙ h

stops_end : (x : Text) (at : ℕ) → None ≡ front (drop at x) → Stops x at
stops_end x at e q f = absurd (none_some q (e ∙ sym f))

choices_behind : (c : Class) (bytes : Text) (ps : List Part) → is_passed c ≡ true → choices_of (part_of c bytes ∷ ps) ≡ choices_of ps
choices_behind class.Blank bytes ps h = refl
choices_behind class.Line bytes ps h = refl
choices_behind class.Block bytes ps h = absurd cc
choices_behind class.Name bytes ps h = absurd cc
choices_behind class.Number bytes ps h = absurd cc
choices_behind class.Text bytes ps h = absurd cc
choices_behind (class.Sign s) bytes ps h = absurd cc
choices_behind class.Other bytes ps h = absurd cc
choices_behind class.Stray bytes ps h = absurd cc
choices_behind class.BadText bytes ps h = absurd cc
choices_behind class.OpenText bytes ps h = absurd cc
choices_behind class.OpenBlock bytes ps h = absurd cc

pub choices_passed : (x : Text) (at : ℕ) (p : code.Part) → Some p ≡ front (drop at x) → is_passed p.class ≡ true → choices_from x at ≡ choices_from x (at + p.len)
choices_passed x at p e h = ap choices_of (cut_at x at p e) ∙ choices_behind p.class (take p.len (drop at x)) (parts (drop (at + p.len) x)) h

-- the place from which nothing is passed over
pub next_here : (x : Text) (at from : ℕ) (p : code.Part) → Some p ≡ front (drop from x) → is_passed p.class ≡ false → next_at x from ≡ next_at x at → choices_from x at ≡ choices_from x from → at ≤ from → from ≤ length x → Next x at from
next_here x at from p e h n c l g = (sym (next_stopped x from p e h) ∙ n, l, g, stops_by x from p e h, c)

pub next_last : (x : Text) (at from : ℕ) → None ≡ front (drop from x) → next_at x from ≡ next_at x at → choices_from x at ≡ choices_from x from → at ≤ from → from ≤ length x → Next x at from
next_last x at from e n c l g = (sym (next_end x from e) ∙ n, l, g, stops_end x from e, c)

pub at_end : (x : Text) (at : ℕ) → length x ≤ at → None ≡ front (drop at x)
at_end x at l = by (front (drop at x)) refl
  where
    by : (o : Option code.Part) → o ≡ front (drop at x) → None ≡ front (drop at x)
    by None e = e
    by (Some p) e = absurd (omega (arith, l, length-drop at x, part_within (drop at x) p e, part_some (drop at x) p e))

-- ---- tokens

token_is : (c : Class) (bytes : Text) (ps : List Part) → is_token c ≡ true → (k : Kind) × (first_token (part_of c bytes ∷ ps) ≡ Some (k, bytes))
token_is class.Name bytes ps h = (_, refl)
token_is class.Number bytes ps h = (_, refl)
token_is class.Text bytes ps h = (_, refl)
token_is (class.Sign s) bytes ps h = (_, refl)
token_is class.Other bytes ps h = (_, refl)
token_is class.Blank bytes ps h = absurd cc
token_is class.Line bytes ps h = absurd cc
token_is class.Block bytes ps h = absurd cc
token_is class.Stray bytes ps h = absurd cc
token_is class.BadText bytes ps h = absurd cc
token_is class.OpenText bytes ps h = absurd cc
token_is class.OpenBlock bytes ps h = absurd cc

token_not : (c : Class) (bytes : Text) (ps : List Part) → is_token c ≡ false → first_token (part_of c bytes ∷ ps) ≡ None
token_not class.Name bytes ps h = absurd cc
token_not class.Number bytes ps h = absurd cc
token_not class.Text bytes ps h = absurd cc
token_not (class.Sign s) bytes ps h = absurd cc
token_not class.Other bytes ps h = absurd cc
token_not class.Blank bytes ps h = refl
token_not class.Line bytes ps h = refl
token_not class.Block bytes ps h = refl
token_not class.Stray bytes ps h = refl
token_not class.BadText bytes ps h = refl
token_not class.OpenText bytes ps h = refl
token_not class.OpenBlock bytes ps h = refl

pub token_none : (x : Text) (at : ℕ) → None ≡ front (drop at x) → token_at x at ≡ None
token_none x at e = ap first_token (cut_end x at e)

-- the bytes of the first part
pub piece_at : (x : Text) (at : ℕ) (p : code.Part) → take p.len (drop at x) ≡ stretch x at (at + p.len)
piece_at x at p = ap (λ (n : ℕ). take n (drop at x)) (omega arith)

pub past_none : (w x : Text) (at : ℕ) → None ≡ front (drop at x) → None ≡ past w x at
past_none w x at e = ap (option_and_then (end_if w at)) (sym (token_none x at e))

pub past_not : (w x : Text) (at : ℕ) (p : code.Part) → Some p ≡ front (drop at x) → is_token p.class ≡ false → None ≡ past w x at
past_not w x at p e h = ap (option_and_then (end_if w at)) (sym (ap first_token (cut_at x at p e) ∙ token_not p.class (take p.len (drop at x)) (parts (drop (at + p.len) x)) h))

past_by : (w x : Text) (at : ℕ) (p : code.Part) → Some p ≡ front (drop at x) → is_token p.class ≡ true → past w x at ≡ (if bytes_eq w (stretch x at (at + p.len)) then Some (at + length w) else None)
past_by w x at p e h =
    let k = token_is p.class (take p.len (drop at x)) (parts (drop (at + p.len) x)) h in
    ap (option_and_then (end_if w at)) (ap first_token (cut_at x at p e) ∙ k.1) ∙ ap (λ (u : Text). if bytes_eq w u then Some (at + length w) else None) (piece_at x at p)

pub past_same : (w x : Text) (at : ℕ) (p : code.Part) → Some p ≡ front (drop at x) → is_token p.class ≡ true → bytes_eq (stretch x at (at + p.len)) w ≡ true → Some (at + p.len) ≡ past w x at
past_same w x at p e h s =
    let same : stretch x at (at + p.len) ≡ w = (bytes_eq-Decides (stretch x at (at + p.len)) w).0 s in
    let size : p.len ≡ length w = sym (part_size (drop at x) p e) ∙ ap length (piece_at x at p) ∙ ap length same in
    sym (past_by w x at p e h ∙ ap (λ (b : Bool). if b then Some (at + length w) else None) ((bytes_eq-Decides w (stretch x at (at + p.len))).1 (sym same)) ∙ ap (λ (n : ℕ). Some (at + n)) (sym size))

pub past_other : (w x : Text) (at : ℕ) (p : code.Part) → Some p ≡ front (drop at x) → is_token p.class ≡ true → bytes_eq (stretch x at (at + p.len)) w ≡ false → None ≡ past w x at
past_other w x at p e h s = by (bytes_eq w (stretch x at (at + p.len))) refl
  where
    by : (b : Bool) → bytes_eq w (stretch x at (at + p.len)) ≡ b → None ≡ past w x at
    by true q = absurd (true≢false (sym ((bytes_eq-Decides (stretch x at (at + p.len)) w).1 (sym ((bytes_eq-Decides w (stretch x at (at + p.len))).0 q))) ∙ s))
    by false q = sym (past_by w x at p e h ∙ ap (λ (b : Bool). if b then Some (at + length w) else None) q)

-- ---- names

pub name_there : (x : Text) (at : ℕ) (p : code.Part) → Some p ≡ front (drop at x) → p.class ≡ class.Name → name_at x at ≡ Some (stretch x at (at + p.len), at + p.len)
name_there x at p e h =
    let u = take p.len (drop at x) in
    ap (option_and_then (name_in at)) (ap first_token (cut_at x at p e ∙ ap (λ (c : Class). part_of c u ∷ parts (drop (at + p.len) x)) h))
    ∙ (λ i. Some (piece_at x at p i, at + part_size (drop at x) p e i))

pub name_none : (x : Text) (at : ℕ) → None ≡ front (drop at x) → None ≡ name_at x at
name_none x at e = ap (option_and_then (name_in at)) (sym (token_none x at e))

no_name : (c : Class) (at : ℕ) (bytes : Text) (ps : List Part) → (c ≡ class.Name → ⊥) → option_and_then (name_in at) (first_token (part_of c bytes ∷ ps)) ≡ None
no_name class.Name at bytes ps h = absurd (h refl)
no_name class.Number at bytes ps h = refl
no_name class.Text at bytes ps h = refl
no_name (class.Sign s) at bytes ps h = refl
no_name class.Other at bytes ps h = refl
no_name class.Blank at bytes ps h = refl
no_name class.Line at bytes ps h = refl
no_name class.Block at bytes ps h = refl
no_name class.Stray at bytes ps h = refl
no_name class.BadText at bytes ps h = refl
no_name class.OpenText at bytes ps h = refl
no_name class.OpenBlock at bytes ps h = refl

pub name_not : (x : Text) (at : ℕ) (p : code.Part) → Some p ≡ front (drop at x) → (p.class ≡ class.Name → ⊥) → None ≡ name_at x at
name_not x at p e h = sym (ap (λ (ps : List Part). option_and_then (name_in at) (first_token ps)) (cut_at x at p e) ∙ no_name p.class at (take p.len (drop at x)) (parts (drop (at + p.len) x)) h)
