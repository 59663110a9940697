-- What is at the front of a text, as a line, a word or a lexeme, does not depend on what is after a byte at which these end: a newline, or an opening bracket.
use Rattle.std.proofs.Common.{◌≡◌, ℕ, ◌&&◌, Bool, true, false, not, nat_eq, List, [], ◌∷◌, ◌++◌, length, drop, Option, Some, None, refl, sym, ap, ◌∙◌, codes, find}
use Rattle.std.specs.Prelude.{if◌then◌else◌, is_some}
use Rattle.std.specs.List.{starts_with, list_all, list_any}
use Rattle.std.proofs.lemmas.Bool.{and_parts, not-true}
use Rattle.tla_token.specs.declared.sign.Sign.{Sign}
use Rattle.tla_token.specs.declared.sign.Sign.TheVariants as sign
use Rattle.tla_token.specs.Signs.{spellings, all_signs}
use Rattle.tla_token.specs.Lexemes.{is_word, is_letter, is_digit}
use Rattle.tla_token.proofs.Words.{run_over}
use Rattle.tla_token.specs.Cut.{run, lexeme_part, sign_part, sign_at, spelling_at}
use Rattle.module_tree.specs.TextFront.{Text, begins, is_space, past_all, first_is, on_some, past_word, past_blanks, past_run, past_name, ends_line}
use Rattle.module_tree.specs.HeaderAndRegion.{header_title, is_header, is_translation_line, is_begin, is_end}
use Rattle.module_tree.specs.Beginnings.{ends_module, is_rule, begins_bar}
use Rattle.module_tree.specs.ModuleParts.{barred}

-- ---- bytes at which words end

-- no byte of the word
abbrev pub lacks : ℕ → Text → Bool
lacks c w = list_all (λ b. not (nat_eq b c)) w

-- no byte of the word but its last
abbrev pub only_last : ℕ → Text → Bool
only_last c [] = true
only_last c (d ∷ []) = true
only_last c (d ∷ e ∷ w) = not (nat_eq d c) && only_last c (e ∷ w)

-- no name, number, blank or bar goes past it, nor the words of a line
pub record Edge (c : ℕ) : Type 0 where
  pub space : is_space c ≡ false
  pub word : is_word c ≡ false
  pub digit : is_digit c ≡ false
  pub dash : nat_eq c 45 ≡ false
  pub dashes : nat_eq 45 c ≡ false
  pub module_word : lacks c (codes "MODULE") ≡ true
  pub star : lacks c (codes "\\*") ≡ true
  pub begin_word : lacks c (codes "BEGIN TRANSLATION") ≡ true
  pub end_word : lacks c (codes "END TRANSLATION") ≡ true
  pub tail : lacks c (codes "====") ≡ true
  pub rule : lacks c (codes "----") ≡ true
  pub signs : (s : Sign) → list_all (only_last c) (spellings s) ≡ true

-- two texts that are one up to such a byte, after which p is in the one and q in the other
abbrev pub Alike : ℕ → Text → Text → Text → Text → Type 0
Alike c p q x y = (l : Text) × (x ≡ l ++ c ∷ p) × (y ≡ l ++ c ∷ q)

abbrev pub Both : ℕ → Text → Text → Option Text → Option Text → Type 0
Both c p q None None = Unit {0}
Both c p q (Some x) (Some y) = Alike c p q x y
Both c p q _ _ = ⊥

pub never_some : {A : Type 0} (x : A) → None ≡ Some x → ⊥
never_some x e = cc

abbrev title_by : Text → Text → Option Text
title_by n r = if ends_line (past_all is_space r) then Some (run is_word n) else None

abbrev named_by : Text → Option Text
named_by n = on_some (past_name n) (λ r. on_some (past_run 45 (past_all is_space r)) (title_by n))

abbrev worded_by : Text → Option Text
worded_by r = on_some (past_word (codes "MODULE") (past_all is_space r)) (λ r. on_some (past_blanks is_space r) named_by)

module _ (c : ℕ) where
  -- ---- words

  pub begins_alike : (p q l w : Text) → lacks c w ≡ true → begins (l ++ c ∷ p) w ≡ begins (l ++ c ∷ q) w
  begins_alike p q l [] h = refl
  begins_alike p q [] (d ∷ w) h = rw (not-true (nat_eq d c) (and_parts (not (nat_eq d c)) (lacks c w) h).0) refl
  begins_alike p q (b ∷ l) (d ∷ w) h = rw (begins_alike p q l w (and_parts (not (nat_eq d c)) (lacks c w) h).1) refl

  pub drop_alike : (p q l w : Text) → lacks c w ≡ true → begins (l ++ c ∷ p) w ≡ true → Alike c p q (drop (length w) (l ++ c ∷ p)) (drop (length w) (l ++ c ∷ q))
  drop_alike p q l [] h e = (l, refl, refl)
  drop_alike p q [] (d ∷ w) h e =
      let no = not-true (nat_eq d c) (and_parts (not (nat_eq d c)) (lacks c w) h).0 in
      let yes = (and_parts (nat_eq d c) (begins p w) e).0 in
      let x : true ≡ false = sym yes ∙ no in absurd cc
  drop_alike p q (b ∷ l) (d ∷ w) h e = drop_alike p q l w (and_parts (not (nat_eq d c)) (lacks c w) h).1 (and_parts (nat_eq d b) (begins (l ++ c ∷ p) w) e).1

  pub past_word_alike : (p q l w : Text) → lacks c w ≡ true → Both c p q (past_word w (l ++ c ∷ p)) (past_word w (l ++ c ∷ q))
  past_word_alike p q l w h = by (begins (l ++ c ∷ p) w) refl
    where
      by : (k : Bool) → begins (l ++ c ∷ p) w ≡ k → Both c p q (past_word w (l ++ c ∷ p)) (past_word w (l ++ c ∷ q))
      by true k = rw (k, sym (begins_alike p q l w h) ∙ k) (drop_alike p q l w h k)
      by false k = rw (k, sym (begins_alike p q l w h) ∙ k) tt

  -- ---- runs

  pub run_alike : (f : ℕ → Bool) → f c ≡ false → (p q l : Text) → run f (l ++ c ∷ p) ≡ run f (l ++ c ∷ q)
  run_alike f h p q [] = rw h refl
  run_alike f h p q (b ∷ l) = by (f b) refl (run_alike f h p q l)
    where
      by : (k : Bool) → f b ≡ k → run f (l ++ c ∷ p) ≡ run f (l ++ c ∷ q) → run f (b ∷ (l ++ c ∷ p)) ≡ run f (b ∷ (l ++ c ∷ q))
      by true k e = run_over f (b ∷ []) (l ++ c ∷ p) (rw k refl) ∙ ap (λ (u : Text). b ∷ u) e ∙ sym (run_over f (b ∷ []) (l ++ c ∷ q) (rw k refl))
      by false k e = rw k refl

  pub past_all_alike : (f : ℕ → Bool) → f c ≡ false → (p q l : Text) → Alike c p q (past_all f (l ++ c ∷ p)) (past_all f (l ++ c ∷ q))
  past_all_alike f h p q [] = rw h ([], refl, refl)
  past_all_alike f h p q (b ∷ l) = by (f b) refl (past_all_alike f h p q l)
    where
      by : (k : Bool) → f b ≡ k → Alike c p q (past_all f (l ++ c ∷ p)) (past_all f (l ++ c ∷ q)) → Alike c p q (past_all f (b ∷ (l ++ c ∷ p))) (past_all f (b ∷ (l ++ c ∷ q)))
      by true k a = rw k a
      by false k a = rw k (b ∷ l, refl, refl)

  pub first_alike : (f : ℕ → Bool) (p q l : Text) → first_is f (l ++ c ∷ p) ≡ first_is f (l ++ c ∷ q)
  first_alike f p q [] = refl
  first_alike f p q (b ∷ l) = refl

  pub ends_alike : (p q l : Text) → ends_line (l ++ c ∷ p) ≡ ends_line (l ++ c ∷ q)
  ends_alike p q [] = refl
  ends_alike p q (b ∷ l) = refl

  pub past_blanks_alike : (f : ℕ → Bool) → f c ≡ false → (p q l : Text) → Both c p q (past_blanks f (l ++ c ∷ p)) (past_blanks f (l ++ c ∷ q))
  past_blanks_alike f h p q l = by (first_is f (l ++ c ∷ p)) refl
    where
      by : (k : Bool) → first_is f (l ++ c ∷ p) ≡ k → Both c p q (past_blanks f (l ++ c ∷ p)) (past_blanks f (l ++ c ∷ q))
      by true k = rw (k, sym (first_alike f p q l) ∙ k) (past_all_alike f h p q l)
      by false k = rw (k, sym (first_alike f p q l) ∙ k) tt

  pub past_name_alike : is_word c ≡ false → (p q l : Text) → Both c p q (past_name (l ++ c ∷ p)) (past_name (l ++ c ∷ q))
  past_name_alike word p q l = by (list_any is_letter (run is_word (l ++ c ∷ p))) refl
    where
      by : (k : Bool) → list_any is_letter (run is_word (l ++ c ∷ p)) ≡ k → Both c p q (past_name (l ++ c ∷ p)) (past_name (l ++ c ∷ q))
      by true k = rw (k, ap (λ (u : Text). list_any is_letter u) (sym (run_alike is_word word p q l)) ∙ k) (past_all_alike is_word word p q l)
      by false k = rw (k, ap (λ (u : Text). list_any is_letter u) (sym (run_alike is_word word p q l)) ∙ k) tt

  -- ---- one after the other

  pub on_alike : {A : Type 0} (p q : Text) (o n : Option Text) → Both c p q o n → (f g : Text → Option A) → ((l : Text) → f (l ++ c ∷ p) ≡ g (l ++ c ∷ q)) → on_some o f ≡ on_some n g
  on_alike p q None None b f g h = refl
  on_alike p q (Some x) (Some y) (l, d, e) f g h = ap f d ∙ h l ∙ sym (ap g e)
  on_alike p q None (Some y) b f g h = absurd b
  on_alike p q (Some x) None b f g h = absurd b

  pub on_both : (p q : Text) (o n : Option Text) → Both c p q o n → (f g : Text → Option Text) → ((l : Text) → Both c p q (f (l ++ c ∷ p)) (g (l ++ c ∷ q))) → Both c p q (on_some o f) (on_some n g)
  on_both p q None None b f g h = tt
  on_both p q (Some x) (Some y) (l, d, e) f g h = rw (d, e) (h l)
  on_both p q None (Some y) b f g h = absurd b
  on_both p q (Some x) None b f g h = absurd b

  pub at_alike : {A : Type 0} (p q x y : Text) → Alike c p q x y → (f g : Text → A) → ((l : Text) → f (l ++ c ∷ p) ≡ g (l ++ c ∷ q)) → f x ≡ g y
  at_alike p q x y (l, d, e) f g h = ap f d ∙ h l ∙ sym (ap g e)

  pub both_at : (p q x y : Text) → Alike c p q x y → (f g : Text → Option Text) → ((l : Text) → Both c p q (f (l ++ c ∷ p)) (g (l ++ c ∷ q))) → Both c p q (f x) (g y)
  both_at p q x y (l, d, e) f g h = rw (d, e) (h l)

  pub some_alike : (p q : Text) (o n : Option Text) → Both c p q o n → is_some o ≡ is_some n
  some_alike p q None None b = refl
  some_alike p q (Some x) (Some y) b = refl
  some_alike p q None (Some y) b = absurd b
  some_alike p q (Some x) None b = absurd b

module _ (c : ℕ) (edge : Edge c) where
  -- ---- lines

  pub past_run_alike : (p q l : Text) → Both c p q (past_run 45 (l ++ c ∷ p)) (past_run 45 (l ++ c ∷ q))
  past_run_alike p q l =
      on_both c p q (past_word (45 ∷ 45 ∷ 45 ∷ 45 ∷ []) (l ++ c ∷ p)) (past_word (45 ∷ 45 ∷ 45 ∷ 45 ∷ []) (l ++ c ∷ q)) (past_word_alike c p q l (45 ∷ 45 ∷ 45 ∷ 45 ∷ []) edge.rule)
      (λ r. Some (past_all (nat_eq 45) r)) (λ r. Some (past_all (nat_eq 45) r)) (λ m. past_all_alike c (nat_eq 45) edge.dashes p q m)

  pub spaced : (p q l : Text) → Alike c p q (past_all is_space (l ++ c ∷ p)) (past_all is_space (l ++ c ∷ q))
  spaced p q l = past_all_alike c is_space edge.space p q l

  pub title_alike : (p q k l : Text) → title_by (k ++ c ∷ p) (l ++ c ∷ p) ≡ title_by (k ++ c ∷ q) (l ++ c ∷ q)
  title_alike p q k l =
      rw (at_alike c p q (past_all is_space (l ++ c ∷ p)) (past_all is_space (l ++ c ∷ q)) (spaced p q l) ends_line ends_line (ends_alike c p q), run_alike c is_word edge.word p q k) refl

  pub dashed_alike : (p q l : Text) → Both c p q (past_run 45 (past_all is_space (l ++ c ∷ p))) (past_run 45 (past_all is_space (l ++ c ∷ q)))
  dashed_alike p q l = both_at c p q (past_all is_space (l ++ c ∷ p)) (past_all is_space (l ++ c ∷ q)) (spaced p q l) (past_run 45) (past_run 45) (past_run_alike p q)

  pub named_alike : (p q l : Text) → named_by (l ++ c ∷ p) ≡ named_by (l ++ c ∷ q)
  named_alike p q l =
      on_alike c p q (past_name (l ++ c ∷ p)) (past_name (l ++ c ∷ q)) (past_name_alike c edge.word p q l)
      (λ r. on_some (past_run 45 (past_all is_space r)) (title_by (l ++ c ∷ p))) (λ r. on_some (past_run 45 (past_all is_space r)) (title_by (l ++ c ∷ q)))
      (λ m. on_alike c p q (past_run 45 (past_all is_space (m ++ c ∷ p))) (past_run 45 (past_all is_space (m ++ c ∷ q))) (dashed_alike p q m) (title_by (l ++ c ∷ p)) (title_by (l ++ c ∷ q)) (title_alike p q l))

  pub worded_alike : (p q l : Text) → worded_by (l ++ c ∷ p) ≡ worded_by (l ++ c ∷ q)
  worded_alike p q l =
      let word = past_word (codes "MODULE") in
      on_alike c p q (word (past_all is_space (l ++ c ∷ p))) (word (past_all is_space (l ++ c ∷ q)))
      (both_at c p q (past_all is_space (l ++ c ∷ p)) (past_all is_space (l ++ c ∷ q)) (spaced p q l) word word (λ m. past_word_alike c p q m (codes "MODULE") edge.module_word))
      (λ r. on_some (past_blanks is_space r) named_by) (λ r. on_some (past_blanks is_space r) named_by)
      (λ m. on_alike c p q (past_blanks is_space (m ++ c ∷ p)) (past_blanks is_space (m ++ c ∷ q)) (past_blanks_alike c is_space edge.space p q m) named_by named_by (named_alike p q))

  pub header_title_alike : (p q l : Text) → header_title (l ++ c ∷ p) ≡ header_title (l ++ c ∷ q)
  header_title_alike p q l =
      on_alike c p q (past_run 45 (past_all is_space (l ++ c ∷ p))) (past_run 45 (past_all is_space (l ++ c ∷ q))) (dashed_alike p q l) worded_by worded_by (worded_alike p q)

  pub header_alike : (p q l : Text) → is_header (l ++ c ∷ p) ≡ is_header (l ++ c ∷ q)
  header_alike p q l = ap (λ (o : Option Text). is_some o) (header_title_alike p q l)

  pub mark_alike : (w : Text) → lacks c (w ++ codes " TRANSLATION") ≡ true → (p q l : Text) → is_translation_line w (l ++ c ∷ p) ≡ is_translation_line w (l ++ c ∷ q)
  mark_alike w h p q l =
      let star = past_word (codes "\\*") in
      let more : Text → Option Text = λ r. past_word (w ++ codes " TRANSLATION") (past_all is_space r) in
      let both = both_at c p q (past_all is_space (l ++ c ∷ p)) (past_all is_space (l ++ c ∷ q)) (spaced p q l) star star (λ m. past_word_alike c p q m (codes "\\*") edge.star) in
      some_alike c p q (on_some (star (past_all is_space (l ++ c ∷ p))) more) (on_some (star (past_all is_space (l ++ c ∷ q))) more)
      (on_both c p q (star (past_all is_space (l ++ c ∷ p))) (star (past_all is_space (l ++ c ∷ q))) both more more
      (λ m. both_at c p q (past_all is_space (m ++ c ∷ p)) (past_all is_space (m ++ c ∷ q)) (spaced p q m) (past_word (w ++ codes " TRANSLATION")) (past_word (w ++ codes " TRANSLATION"))
      (λ k. past_word_alike c p q k (w ++ codes " TRANSLATION") h)))

  pub begin_alike : (p q l : Text) → is_begin (l ++ c ∷ p) ≡ is_begin (l ++ c ∷ q)
  begin_alike p q l = mark_alike (codes "BEGIN") edge.begin_word p q l

  pub end_alike : (p q l : Text) → is_end (l ++ c ∷ p) ≡ is_end (l ++ c ∷ q)
  end_alike p q l = mark_alike (codes "END") edge.end_word p q l

  pub tail_alike : (p q l : Text) → ends_module (l ++ c ∷ p) ≡ ends_module (l ++ c ∷ q)
  tail_alike p q l = begins_alike c p q l (codes "====") edge.tail

  pub rule_alike : (p q l : Text) → is_rule (l ++ c ∷ p) ≡ is_rule (l ++ c ∷ q)
  rule_alike p q l = begins_alike c p q l (codes "----") edge.rule

  pub bar_alike : (p q l : Text) → begins_bar (l ++ c ∷ p) ≡ begins_bar (l ++ c ∷ q)
  bar_alike p q l = rw (rule_alike p q l, tail_alike p q l) refl

  -- ---- lexemes

  -- a word that has the byte at its end alone
  pub begins_last : (p q l w : Text) → only_last c w ≡ true → begins (l ++ c ∷ p) w ≡ begins (l ++ c ∷ q) w
  begins_last p q l [] h = refl
  begins_last p q [] (d ∷ []) h = refl
  begins_last p q [] (d ∷ f ∷ w) h = rw (not-true (nat_eq d c) (and_parts (not (nat_eq d c)) (only_last c (f ∷ w)) h).0) refl
  begins_last p q (b ∷ l) (d ∷ []) h = refl
  begins_last p q (b ∷ l) (d ∷ f ∷ w) h = rw (begins_last p q l (f ∷ w) (and_parts (not (nat_eq d c)) (only_last c (f ∷ w)) h).1) refl

  pub any_alike : (p q l : Text) (ws : List Text) → list_all (only_last c) ws ≡ true → list_any (λ w. starts_with nat_eq (l ++ c ∷ p) w) ws ≡ list_any (λ w. starts_with nat_eq (l ++ c ∷ q) w) ws
  any_alike p q l [] h = refl
  any_alike p q l (w ∷ ws) h = (let k = and_parts (only_last c w) (list_all (only_last c) ws) h in rw (begins_last p q l w k.0, any_alike p q l ws k.1) refl)

  pub spelling_alike : (p q l : Text) (ws : List Text) → list_all (only_last c) ws ≡ true → spelling_at ws (l ++ c ∷ p) ≡ spelling_at ws (l ++ c ∷ q)
  spelling_alike p q l [] h = refl
  spelling_alike p q l (w ∷ ws) h = (let k = and_parts (only_last c w) (list_all (only_last c) ws) h in rw (begins_last p q l w k.0, spelling_alike p q l ws k.1) refl)

  pub find_alike : (p q l : Text) (ss : List Sign) → find (λ s. list_any (λ w. starts_with nat_eq (l ++ c ∷ p) w) (spellings s)) ss ≡ find (λ s. list_any (λ w. starts_with nat_eq (l ++ c ∷ q) w) (spellings s)) ss
  find_alike p q l [] = refl
  find_alike p q l (s ∷ ss) = rw (any_alike p q l (spellings s) (edge.signs s), find_alike p q l ss) refl

  pub sign_alike : (p q l : Text) (b : ℕ) → sign_part (sign_at (l ++ c ∷ p)) b (l ++ c ∷ p) ≡ sign_part (sign_at (l ++ c ∷ q)) b (l ++ c ∷ q)
  sign_alike p q l b = ap (λ (o : Option Sign). sign_part o b (l ++ c ∷ p)) (find_alike p q l all_signs) ∙ by (sign_at (l ++ c ∷ q))
    where
      by : (o : Option Sign) → sign_part o b (l ++ c ∷ p) ≡ sign_part o b (l ++ c ∷ q)
      by None = refl
      by (Some s) = rw (spelling_alike p q l (spellings s) (edge.signs s)) refl

  pub lexeme_alike : (p q l : Text) (b : ℕ) → lexeme_part b (l ++ c ∷ p) ≡ lexeme_part b (l ++ c ∷ q)
  lexeme_alike p q l b = rw (run_alike c is_word edge.word p q (b ∷ l), run_alike c is_digit edge.digit p q (b ∷ l), run_alike c is_word edge.word p q l, sign_alike p q (b ∷ l) b) refl

  pub barred_alike : (p q l : Text) (b : ℕ) → barred b (l ++ c ∷ p) ≡ barred b (l ++ c ∷ q)
  barred_alike p q l b = by (begins_bar (l ++ c ∷ p)) refl
    where
      by : (k : Bool) → begins_bar (l ++ c ∷ p) ≡ k → barred b (l ++ c ∷ p) ≡ barred b (l ++ c ∷ q)
      by true k = rw (rule_alike p q (b ∷ l), run_alike c (λ b. nat_eq b 45) edge.dash p q (b ∷ l), k, sym (bar_alike p q l) ∙ k) refl
      by false k = rw (rule_alike p q (b ∷ l), run_alike c (λ b. nat_eq b 45) edge.dash p q (b ∷ l), k, sym (bar_alike p q l) ∙ k, lexeme_alike p q l b) refl

-- ---- two of these bytes

-- a newline
newline_signs : (s : Sign) → list_all (only_last 10) (spellings s) ≡ true
newline_signs sign.MapsTo = refl
newline_signs sign.Equivalent = refl
newline_signs sign.Assign = refl
newline_signs sign.Parallel = refl
newline_signs sign.Pair = refl
newline_signs sign.Override = refl
newline_signs sign.Range = refl
newline_signs sign.And = refl
newline_signs sign.Or = refl
newline_signs sign.Implies = refl
newline_signs sign.Arrow = refl
newline_signs sign.Defined = refl
newline_signs sign.OpenTuple = refl
newline_signs sign.CloseTuple = refl
newline_signs sign.AtMost = refl
newline_signs sign.AtLeast = refl
newline_signs sign.NotEqual = refl
newline_signs sign.Box = refl
newline_signs sign.Colon = refl
newline_signs sign.Semicolon = refl
newline_signs sign.Comma = refl
newline_signs sign.Dot = refl
newline_signs sign.OpenRound = refl
newline_signs sign.CloseRound = refl
newline_signs sign.OpenSquare = refl
newline_signs sign.CloseSquare = refl
newline_signs sign.OpenCurly = refl
newline_signs sign.CloseCurly = refl
newline_signs sign.Equal = refl
newline_signs sign.Less = refl
newline_signs sign.Greater = refl
newline_signs sign.Plus = refl
newline_signs sign.Minus = refl
newline_signs sign.Times = refl
newline_signs sign.Percent = refl
newline_signs sign.Not = refl
newline_signs sign.Bang = refl
newline_signs sign.Without = refl
newline_signs sign.In = refl
newline_signs sign.NotIn = refl
newline_signs sign.SubsetEq = refl
newline_signs sign.Cup = refl
newline_signs sign.Cap = refl
newline_signs sign.Divide = refl
newline_signs sign.Concat = refl
newline_signs sign.ForAll = refl
newline_signs sign.Exists = refl

pub at_newline : Edge 10
at_newline = record {
  space = refl;
  word = refl;
  digit = refl;
  dash = refl;
  dashes = refl;
  module_word = refl;
  star = refl;
  begin_word = refl;
  end_word = refl;
  tail = refl;
  rule = refl;
  signs = newline_signs;
}

-- an opening bracket
bracket_signs : (s : Sign) → list_all (only_last 40) (spellings s) ≡ true
bracket_signs sign.MapsTo = refl
bracket_signs sign.Equivalent = refl
bracket_signs sign.Assign = refl
bracket_signs sign.Parallel = refl
bracket_signs sign.Pair = refl
bracket_signs sign.Override = refl
bracket_signs sign.Range = refl
bracket_signs sign.And = refl
bracket_signs sign.Or = refl
bracket_signs sign.Implies = refl
bracket_signs sign.Arrow = refl
bracket_signs sign.Defined = refl
bracket_signs sign.OpenTuple = refl
bracket_signs sign.CloseTuple = refl
bracket_signs sign.AtMost = refl
bracket_signs sign.AtLeast = refl
bracket_signs sign.NotEqual = refl
bracket_signs sign.Box = refl
bracket_signs sign.Colon = refl
bracket_signs sign.Semicolon = refl
bracket_signs sign.Comma = refl
bracket_signs sign.Dot = refl
bracket_signs sign.OpenRound = refl
bracket_signs sign.CloseRound = refl
bracket_signs sign.OpenSquare = refl
bracket_signs sign.CloseSquare = refl
bracket_signs sign.OpenCurly = refl
bracket_signs sign.CloseCurly = refl
bracket_signs sign.Equal = refl
bracket_signs sign.Less = refl
bracket_signs sign.Greater = refl
bracket_signs sign.Plus = refl
bracket_signs sign.Minus = refl
bracket_signs sign.Times = refl
bracket_signs sign.Percent = refl
bracket_signs sign.Not = refl
bracket_signs sign.Bang = refl
bracket_signs sign.Without = refl
bracket_signs sign.In = refl
bracket_signs sign.NotIn = refl
bracket_signs sign.SubsetEq = refl
bracket_signs sign.Cup = refl
bracket_signs sign.Cap = refl
bracket_signs sign.Divide = refl
bracket_signs sign.Concat = refl
bracket_signs sign.ForAll = refl
bracket_signs sign.Exists = refl

pub at_bracket : Edge 40
at_bracket = record {
  space = refl;
  word = refl;
  digit = refl;
  dash = refl;
  dashes = refl;
  module_word = refl;
  star = refl;
  begin_word = refl;
  end_word = refl;
  tail = refl;
  rule = refl;
  signs = bracket_signs;
}
