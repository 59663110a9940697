-- In a file whose tokens spell an algorithm its end is found, and it is taken for one in its syntax.
use Rattle.std.proofs.Common.{◌≡◌, inl, inr, ℕ, ◌+◌, Bool, true, false, List, [], ◌∷◌, length, map, Some, refl, sym, ap, subst, ◌∙◌, codes}
use Rattle.std.specs.Prelude.{if◌then◌else◌}
use Rattle.std.specs.Str.{bytes_eq}
use Rattle.tla_token.specs.declared.place.Place.{Place}
use Rattle.tla_token.specs.Places.{after, place_at}
use Rattle.tla_token.specs.Lexemes as lexeme
use Rattle.tla_token.specs.Lexemes.{Kind}
use Rattle.tla_token.specs.Tokens.{Piece, blank, block, line, lexeme, bytes_of, tokens_of}
use Rattle.tla_token.specs.Tokens as text
use Rattle.tla_token.specs.Offences.{sound}
use Rattle.tla_token.specs.Cut.{pieces}
use Rattle.tla_token.proofs.Unique.{sound_pieces}
use Rattle.tla_tree.specs.Lexical.{TokenView, Token}
use Rattle.tla_tree.specs.Lexical as tk
use Rattle.pcal_tree.specs.Algorithm.{Algorithm}
use Rattle.pcal_tree.specs.AlgorithmTokens.{views}
use Rattle.pcal_tree.specs.GrammarParts as grammar
use Rattle.pcal_tree.specs.Grammar.{Syntax, Head, algorithm, fair_algorithm, is_fair, head as head_tokens, around, Spells}
use Rattle.pcal_tree.specs.Grammar as g
use Rattle.module_tree.specs.TextFront.{Text}
use Rattle.module_tree.specs.ModuleParts.{kind_in}
use Rattle.module_tree.specs.Walk.{walk}
use Rattle.module_tree.specs.AlgorithmText.{IndexedPart, Stage, head, next, is_past, is_c, AlgorithmText, algorithm_in, algorithm_tokens}
use Rattle.module_tree.specs.FileOffences.{offences_of, algorithm_offences}
use Rattle.module_tree.specs.laws.AlgorithmEnd.{with_kind, kinds_in}
use Rattle.module_tree.specs.laws.Kept.{only_large}
use Rattle.module_tree.proofs.AlgorithmEnds.{run, Going, none_past, walked_there}
use Rattle.module_tree.proofs.PartsSound.{all_sound}
use Rattle.printed_text.specs.laws.HoldsPrinted.{past_stage}
use Rattle.printed_text.proofs.Chunks.{seen, seen_is}
use Rattle.printed_text.proofs.WholeText.{front_word}
use Rattle.printed_text.proofs.Stages.{behind, Step, one_step, nothing_behind}
use Rattle.printed_text.proofs.BraceBehind.{taken_for_c, at_end, one_token, end_stage}
use Rattle.printed_text.proofs.AlgorithmEnds.{ends_there, in_braces_in, braced}
use Rattle.printed_text.proofs.Rewriting.{words_before, head_ends, head_braced}

-- ---- the kinds of pieces

abbrev kinds : List Piece → List Kind
kinds [] = []
kinds (lexeme k w ∷ ps) = k ∷ kinds ps
kinds (p ∷ ps) = kinds ps

kinds_are : (qs : List IndexedPart) (ps : List Piece) → map (λ q. q.1) qs ≡ map sound ps → kinds_in qs ≡ kinds ps
kinds_are [] [] e = refl
kinds_are [] (p ∷ ps) e = absurd cc
kinds_are (q ∷ qs) [] e = absurd cc
kinds_are (q ∷ qs) (p ∷ ps) e =
    let first : q.1 ≡ sound p = cc in
    let more : map (λ q. q.1) qs ≡ map sound ps = cc in
    (λ i. with_kind (kind_in (first i)) (kinds_are qs ps more i)) ∙ by p
  where
    by : (p : Piece) → with_kind (kind_in (sound p)) (kinds ps) ≡ kinds (p ∷ ps)
    by (blank b) = refl
    by (block w) = refl
    by (line w) = refl
    by (lexeme k w) = refl

-- ---- its end is found

ended_run : (st : Stage) (p : Place) (ps : List Piece) → behind st (seen p ps) ≡ Some [] → Going st (kinds ps) → is_past (run st (kinds ps)) ≡ true
ended_run st p [] h v = absurd (nothing_behind st h)
ended_run st p (blank b ∷ ps) h v = ended_run st (after p (b ∷ [])) ps h v
ended_run st p (block w ∷ ps) h v = ended_run st (after p (bytes_of (block w))) ps h v
ended_run st p (line w ∷ ps) h v = ended_run st (after p (bytes_of (line w))) ps h v
ended_run st p (lexeme k w ∷ ps) h v = by (one_step st p k (seen (after p w) ps) [] h) (λ e. ended_run (next st k) (after p w) ps e v.1)
  where
    by : Step (next st k) (seen (after p w) ps) [] → (behind (next st k) (seen (after p w) ps) ≡ Some [] → is_past (run (next st k) (kinds ps)) ≡ true) → is_past (run (next st k) (kinds ps)) ≡ true
    by (inl f) deeper = ap (λ (ks : List Kind). is_past (run (next st k) ks)) (none_past (next st k) (kinds ps) f.0 v.1) ∙ f.0
    by (inr e) deeper = deeper e

run_c : (st : Stage) (p : Place) (ps : List Piece) → is_c (run st (kinds ps)) ≡ taken_for_c st (seen p ps)
run_c st p [] = at_end st
run_c st p (blank b ∷ ps) = run_c st (after p (b ∷ [])) ps
run_c st p (block w ∷ ps) = run_c st (after p (bytes_of (block w))) ps
run_c st p (line w ∷ ps) = run_c st (after p (bytes_of (line w))) ps
run_c st p (lexeme k w ∷ ps) = run_c (next st k) (after p w) ps ∙ one_token st p k (seen (after p w) ps)

-- ---- its first word

word_is : (b : Bool) → (if b then codes "--fair" else codes "--algorithm") ≡ front_word b
word_is true = refl
word_is false = refl

first_view : (b : Bool) (n : ℕ) (at : Place) (ts : List text.Token) → views (record { kind = lexeme.name (front_word b); at = n; place = at } ∷ ts) ≡ grammar.word at (front_word b) (views ts)
first_view false n at ts = refl
first_view true n at ts = refl

abbrev begins_fair : List Token → Bool
begins_fair [] = false
begins_fair (t ∷ ts) = by t.kind
  where
    by : TokenView → Bool
    by (tk.word x) = bytes_eq x (codes "--fair")
    by k = false

of_word : (b : Bool) (p : Place) (us : List Token) → begins_fair (grammar.word p (front_word b) us) ≡ b
of_word false p us = refl
of_word true p us = refl

of_head : (h : Head) (ts : List Token) → begins_fair (head_tokens h ts) ≡ is_fair h
of_head (algorithm a) ts = refl
of_head (fair_algorithm a b) ts = refl

fair_same : (b : Bool) (h : Head) (p : Place) (us ts : List Token) → grammar.word p (front_word b) us ≡ head_tokens h ts → is_fair h ≡ b
fair_same b h p us ts e = sym (of_head h ts) ∙ ap begins_fair (sym e) ∙ of_word b p us

-- ---- in a file

pub spelled_end : (s : Syntax) (x : Text) (a : AlgorithmText) (t : Algorithm) → offences_of (walk x) ≡ [] → algorithm_in x ≡ Some a → only_large (algorithm_offences (Some a)) ≡ true → Spells s (algorithm_tokens x a) t
    → a.rest.stage ≡ past_stage s
spelled_end s x a t none is plain (f, good, e, same) =
    let parts = all_sound x a none is plain in
    let ps = parts.0 in
    let w = walked_there x a is in
    let word : a.opening ≡ front_word w.fair = w.is_word ∙ word_is w.fair in
    let first = place_at x a.from in
    let n = a.from + length a.opening in
    let at = place_at x n in
    let tokens : views (algorithm_tokens x a) ≡ grammar.word first (front_word w.fair) (seen at ps) =
    (λ i. views (record { kind = lexeme.name (word i); at = a.from; place = first } ∷ tokens_of at n (pieces (parts.1 i))))
    ∙ first_view w.fair a.from first (tokens_of at n (pieces (map sound ps)))
    ∙ ap (λ (qs : List Piece). grammar.word first (front_word w.fair) (views (tokens_of at n qs))) (sound_pieces ps)
    ∙ ap (λ (ts : List Token). grammar.word first (front_word w.fair) ts) (seen_is at n ps) in
    let rest : List Token = around f.around (λ ts. grammar.section_tokens f.variables (g.define f.define (g.each g.macro f.macros (g.each g.procedure f.procedures (g.main f.main ts))))) [] in
    let spelled : grammar.word first (front_word w.fair) (seen at ps) ≡ head_tokens f.head (grammar.name f.name rest) = sym tokens ∙ e in
    let fair : is_fair f.head ≡ w.fair = fair_same w.fair f.head first (seen at ps) (grammar.name f.name rest) spelled in
    let st = head (words_before w.fair) in
    let ended : behind st (seen at ps) ≡ Some [] =
    ap (λ (b : Bool). behind (head (words_before b)) (seen at ps)) (sym fair) ∙ head_ends f.head first (front_word w.fair) (grammar.name f.name rest) (seen at ps) spelled ∙ ends_there s f good in
    let taken : taken_for_c st (seen at ps) ≡ in_braces_in s =
    ap (λ (b : Bool). taken_for_c (head (words_before b)) (seen at ps)) (sym fair) ∙ head_braced f.head first (front_word w.fair) f.name rest (seen at ps) spelled ∙ braced s f good in
    let ks = kinds_are a.rest.parts ps parts.1 in
    let stage : a.rest.stage ≡ run st (kinds ps) = w.is.stage ∙ ap (run st) ks in
    let going : Going st (kinds ps) = subst (Going st) ks w.is.going in
    stage ∙ end_stage s (run st (kinds ps)) (ended_run st at ps ended going) (run_c st at ps ∙ taken)
