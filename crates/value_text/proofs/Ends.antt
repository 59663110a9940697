-- What is read of the tokens in sight is what is spelled in the text, up to the same place.
use Rattle.std.proofs.Common.{◌≡◌, ◌⊎◌, inl, inr, ℕ, ◌-◌, ◌<◌, ◌≤◌, true≢false, IsTrue, List, [], ◌∷◌, ◌++◌, length, take, drop, map, Result, Ok, Err, refl, sym, ap, ◌∙◌, subst, arith, length-append}
use Rattle.std.proofs.lemmas.List.{length-drop}
use Rattle.std.specs.List.{list_all}
use Rattle.tla_token.specs.declared.place.Place.{Place}
use Rattle.tla_token.specs.declared.rule.Refusal.{Refusal}
use Rattle.tla_token.specs.declared.rule.Rule.TheVariants.{BadLine}
use Rattle.tla_token.specs.declared.rule.Stop.{Stop}
use Rattle.tla_token.specs.declared.rule.Stop.TheVariants.{Refused}
use Rattle.tla_token.specs.Places.{place_at}
use Rattle.tla_token.specs.Limits.{deepest_value}
use Rattle.tla_token.specs.Tokens.{Piece, blank, block, line, lexeme, text_of}
use Rattle.tla_token.specs.Offences.{Part, sound, parts_text, PartsFit}
use Rattle.tla_token.specs.Cut.{parts}
use Rattle.tla_token.proofs.Cutting.{cut_fits}
use Rattle.tla_value.specs.Value.{Value}
use Rattle.tla_value.specs.ValueText.{Mark, Spelling, truth_word, digits, minus, quoted, named, braces, angles, fields, pairs, marks}
use Rattle.tla_value.specs.ValueSeen.{mark_of, marks_of, is_no_block, FitBefore, ends_in_token, SpellsFrom}
use Rattle.tla_value.proofs.ValueOnce.{text_before, cut_at, joined}
use Rattle.tla_value.proofs.ValueDecided.{fit_before}
use Rattle.value_text.specs.declared.make.Halt.{Halt}
use Rattle.value_text.specs.declared.make.Halt.TheVariants as halt
use Rattle.value_text.specs.Answers.{IsNoValue}
use Rattle.value_text.specs.InSight.{seen, ahead, Moves}
use Rattle.value_text.specs.Items.{Answer}

seen_before : (ps : List Piece) (more : List Part) → IsTrue (list_all is_no_block ps) → seen (map sound ps ++ more) ≡ marks_of ps ++ seen more
seen_before [] more h = refl
seen_before (lexeme k bytes ∷ ps) more h = ap (λ (ms : List Mark). mark_of k ∷ ms) (seen_before ps more h)
seen_before (blank b ∷ ps) more h = seen_before ps more h
seen_before (line body ∷ ps) more h = seen_before ps more h
seen_before (block body ∷ ps) more h = absurd (true≢false (sym h))

take_front : (a b : List ℕ) → take (length a) (a ++ b) ≡ a
take_front [] b = refl
take_front (x ∷ a) b = ap (λ (l : List ℕ). x ∷ l) (take_front a b)

tails : (m n : Mark) (a b : List Mark) → m ∷ a ≡ n ∷ b → (m ≡ n) × (a ≡ b)
tails m n a b e = (cc, cc)

cancel : (a b c : List Mark) → a ++ c ≡ b ++ c → a ≡ b
cancel [] [] c e = refl
cancel [] (y ∷ b) c e = absurd (omega (arith, ap length e, length-append b c))
cancel (x ∷ a) [] c e = absurd (omega (arith, ap length e, length-append a c))
cancel (x ∷ a) (y ∷ b) c e = (let t = tails x y (a ++ c) (b ++ c) e in λ i. t.0 i ∷ cancel a b c t.1 i)

some_marks : (s : Spelling) → [] ≡ marks s [] → ⊥
some_marks (truth_word b) e = cc
some_marks (digits n) e = cc
some_marks (minus n) e = cc
some_marks (quoted w) e = cc
some_marks (named w) e = cc
some_marks (braces ss) e = cc
some_marks (angles ss) e = cc
some_marks (fields x s fs) e = cc
some_marks (pairs d s ps) e = cc

token_last : (ps : List Piece) (s : Spelling) → ((ps ≡ []) ⊎ IsTrue (ends_in_token ps)) → marks_of ps ≡ marks s [] → IsTrue (ends_in_token ps)
token_last ps s (inr h) e = h
token_last ps s (inl h) e = absurd (some_marks s (sym (ap marks_of h) ∙ e))

pub spells_there : (bytes : List ℕ) (at to : ℕ) (v : Value) → Answer deepest_value (ahead bytes at) (ahead bytes to) (Ok v) → at < to → to ≤ length bytes → Moves bytes at to → SpellsFrom bytes at to v
unfolding ahead
spells_there bytes at to v a low high m =
    let ps = m.skipped.pieces in
    let t = drop at bytes in
    let u = drop to bytes in
    let F : List Part → Type 0 = λ qs. PartsFit qs in
    let G : List ℕ → Type 0 = λ w. FitBefore ps w in
    let whole : t ≡ text_of ps ++ u = sym (cut_fits t).0 ∙ ap parts_text m.skipped.cut ∙ text_before ps (parts u) ∙ ap (λ (w : List ℕ). text_of ps ++ w) (cut_fits u).0 in
    let size : to - at ≡ length (text_of ps) = omega (arith, low, high, length-drop at bytes, length-drop to bytes, ap length whole, length-append (text_of ps) u) in
    let tokens : marks_of ps ≡ marks a.0 [] = cancel (marks_of ps) (marks a.0 []) (seen (parts u)) (sym (seen_before ps (parts u) m.skipped.no_blocks) ∙ sym (ap seen m.skipped.cut) ∙ a.3 ∙ sym (joined a.0 [] (seen (parts u)))) in
    record {
      inside = high;
      pieces = ps;
      cut = (λ i. take (size i) (whole i)) ∙ take_front (text_of ps) u;
      fit = subst G (cut_fits u).0 (fit_before ps (parts u) (subst F m.skipped.cut (cut_fits t).1));
      no_blocks = m.skipped.no_blocks;
      ends = token_last ps a.0 m.ends tokens;
      spells = (a.0, a.1, a.2, tokens, a.4);
    }

pub none_there : (bytes : List ℕ) (at : ℕ) (left : List Mark) → Answer deepest_value (ahead bytes at) left (Err halt.NoValue) → (to : ℕ) (v : Value) → SpellsFrom bytes at to v → ⊥
unfolding ahead
none_there bytes at left a to v s =
    let q = seen (parts (drop to bytes)) in
    a s.spells.0 q s.spells.1 s.spells.2 (ap seen (cut_at bytes at to v s) ∙ seen_before s.pieces (parts (drop to bytes)) s.no_blocks ∙ ap (λ (ms : List Mark). ms ++ q) s.spells.3 ∙ joined s.spells.0 [] q)

abbrev pub refusal_of : Refusal → Result (Value × ℕ) Stop
refusal_of q = Err (Refused q)

same_refusal : (q r : Refusal) → refusal_of q ≡ refusal_of r → q ≡ r
same_refusal q r e = cc

pub refused_by : (bytes : List ℕ) (at : ℕ) (left : List Mark) (h : Halt) (p : Place) (r : Refusal) → Answer deepest_value (ahead bytes at) left (Err h) → h ≡ halt.NoValue → p ≡ place_at bytes at → refusal_of (record { rule = BadLine; place = p }) ≡ refusal_of r → IsNoValue bytes at r
refused_by bytes at left h p r a e place is =
    let s = same_refusal (record { rule = BadLine; place = p }) r is in
    record {
      rule = ap (λ (x : Refusal). x.rule) (sym s);
      place = ap (λ (x : Refusal). x.place) (sym s) ∙ place;
      none = none_there bytes at left (subst (λ (x : Halt). Answer deepest_value (ahead bytes at) left (Err x)) e a);
    }
