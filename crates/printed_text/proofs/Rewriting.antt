-- A file with its algorithm printed in its place has just that text as its algorithm, and its tokens spell it.
use Rattle.std.proofs.Common.{◌≡◌, ℕ, ◌+◌, ◌-◌, Bool, true, false, not, List, [], ◌∷◌, ◌++◌, length, map, take, drop, Option, Some, None, refl, sym, ap, subst, ◌∙◌, arith, append_assoc, append-nil, length-append, codes, find}
use Rattle.std.specs.Prelude.{if◌then◌else◌}
use Rattle.std.specs.List.{flat_map}
use Rattle.std.proofs.lemmas.Bool.{and_parts, not-true, lt-leb}
use Rattle.std.proofs.lemmas.Option.{none-some, same_Some}
use Rattle.std.proofs.Math.Seq.{take-append_seam, drop-append_seam}
use Rattle.tla_token.specs.declared.place.Place.{Place}
use Rattle.tla_token.specs.Places.{start, after, place_at}
use Rattle.tla_token.specs.Lexemes as lexeme
use Rattle.tla_token.specs.Tokens.{Piece, blank, block, line, text_of, stretch, tokens_of, holds_mark}
use Rattle.tla_token.specs.Offences.{sound, Offence, offence_if, part_offences}
use Rattle.tla_token.specs.Limits.{past_numbers}
use Rattle.tla_token.specs.declared.rule.Rule.TheVariants.{BadToken, NumberTooBig, TwoAlgorithms}
use Rattle.tla_token.specs.Tokens as text
use Rattle.tla_token.specs.Cut.{pieces}
use Rattle.tla_token.specs.AlgorithmOffences.{number_offences, too_many_tokens, algorithm_offences as token_offences}
use Rattle.tla_token.proofs.Unique.{sound_pieces}
use Rattle.tla_tree.specs.Tree.{Name}
use Rattle.tla_tree.specs.Lexical.{Token}
use Rattle.tla_tree.specs.Spelling.{Right}
use Rattle.pcal_tree.specs.Algorithm.{Algorithm}
use Rattle.pcal_tree.specs.AlgorithmTokens.{views}
use Rattle.pcal_tree.specs.GrammarParts as grammar
use Rattle.pcal_tree.specs.Grammar.{Syntax, Head, algorithm, fair_algorithm, is_fair as is_fair_head, head as head_tokens, algorithm_of, spell, around}
use Rattle.pcal_tree.specs.Grammar as g
use Rattle.pcal_tree.specs.Printed.{algorithm_word, printed}
use Rattle.pcal_tree.specs.Printed as lines
use Rattle.module_tree.specs.TextFront.{Text}
use Rattle.module_tree.specs.Beginnings.{is_fair, opening, begins_algorithm, is_options, all_at}
use Rattle.module_tree.specs.Walk.{Located, walk}
use Rattle.module_tree.specs.FileParts.{module_end, beginnings, within as within_segment, beginnings_in, first_of, holds_algorithm}
use Rattle.module_tree.specs.AlgorithmText.{IndexedPart, Stage, head, Inside, inside, AlgorithmText, algorithm_at, algorithm_in, algorithm_tokens, in_token}
use Rattle.module_tree.specs.FileOffences.{offences_of, inner_offences, algorithm_offences, no_module, no_algorithm, second_algorithms, offences_at, placements, outside_region, options_in}
use Rattle.module_tree.specs.WithTranslation.{Swapped}
use Rattle.module_tree.specs.laws.Kept.{IsFine, only_large}
use Rattle.module_tree.specs.laws.Swaps.{is_paired, AddsNoOptions, BeginsThere}
use Rattle.module_tree.proofs.WalkPlace.{after_both}
use Rattle.module_tree.proofs.WalkKept.{all_fine_in}
use Rattle.module_tree.proofs.AlgorithmFound.{Opened, opened, made_there, stretch_is}
use Rattle.module_tree.proofs.AlgorithmIsCut.{Placed, algorithm_is_cut}
use Rattle.module_tree.proofs.AlgorithmSame.{at_comment}
use Rattle.module_tree.proofs.AlgorithmKept.{placed_at, filtered}
use Rattle.module_tree.proofs.InsidePieces.{inside_pieces}
use Rattle.module_tree.proofs.SwappedComment.{swapped_comment, swapped_begins, swapped_without}
use Rattle.printed_text.specs.Rewritten.{gap}
use Rattle.printed_text.specs.laws.Printable.{IsPrintable}
use Rattle.printed_text.specs.laws.HoldsPrinted.{past_stage, HoldsPrinted}
use Rattle.printed_text.proofs.Chunks.{unmarked, small, later, seen, seen_is}
use Rattle.printed_text.proofs.WholeText.{BehindAt, behind_at, behind_front, needs, front_word}
use Rattle.printed_text.proofs.AlgorithmEnds.{ends_there, begins_brace, in_braces_in, braced}
use Rattle.printed_text.proofs.BraceBehind.{taken_for_c, stage_c, end_stage}
use Rattle.printed_text.proofs.ExprClean.{Clean}
use Rattle.printed_text.proofs.AlgorithmClean.{spelled_clean, none_left_out}
use Rattle.printed_text.proofs.Stages.{behind, Found, all_found}
use Rattle.printed_text.proofs.Followed.{pieces_found}
use Rattle.printed_text.proofs.Dashes.{dashes_in, others_in, gap_none, adds_none}
use Rattle.printed_text.proofs.Ended.{still_ends, still_begins}
use Rattle.printed_text.proofs.Beginning.{fair_is, opening_is, begins_is, gap_paired, gap_there, within}

-- ---- the end of its tokens

abbrev pub words_before : Bool → ℕ
words_before b = if b then 1 else 0

-- what is behind the first word of a head is before the name
pub head_ends : (h : Head) (p : Place) (w : List ℕ) (ts us : List Token) → grammar.word p w us ≡ head_tokens h ts → behind (head (words_before (is_fair_head h))) us ≡ behind (head 0) ts
head_ends (algorithm a) p w ts us e = (let same : us ≡ ts = cc in ap (behind (head 0)) same)
head_ends (fair_algorithm a b) p w ts us e = (let same : us ≡ grammar.key b (codes "algorithm") ts = cc in ap (behind (head 1)) same)

tokens_end : (s : Syntax) (a : Algorithm) (at : Place) (x : BehindAt s a at) → behind (head (words_before a.fair)) (seen (behind_front a.fair at) x.pieces) ≡ Some []
tokens_end s a at x =
    let f = x.form in
    let fair : is_fair_head f.head ≡ a.fair = ap (λ (a : Algorithm). a.fair) x.same in
    let rest : List Token = around f.around (λ ts. grammar.section_tokens f.variables (g.define f.define (g.each g.macro f.macros (g.each g.procedure f.procedures (g.main f.main ts))))) [] in
    ap (λ (b : Bool). behind (head (words_before b)) (seen (behind_front a.fair at) x.pieces)) (sym fair)
    ∙ head_ends f.head at (front_word a.fair) (grammar.name f.name rest) (seen (behind_front a.fair at) x.pieces) x.seen
    ∙ ends_there s f x.good

-- a brace is behind its name in C-syntax alone
pub head_braced : (h : Head) (p : Place) (w : List ℕ) (x : Name) (ts us : List Token) → grammar.word p w us ≡ head_tokens h (grammar.name x ts) → taken_for_c (head (words_before (is_fair_head h))) us ≡ begins_brace ts
head_braced (algorithm a) p w x ts us e = (let same : us ≡ grammar.name x ts = cc in ap (taken_for_c (head 0)) same)
head_braced (fair_algorithm a b) p w x ts us e = (let same : us ≡ grammar.key b (codes "algorithm") (grammar.name x ts) = cc in ap (taken_for_c (head 1)) same)

braced_there : (s : Syntax) (a : Algorithm) (at : Place) (x : BehindAt s a at) → taken_for_c (head (words_before a.fair)) (seen (behind_front a.fair at) x.pieces) ≡ in_braces_in s
braced_there s a at x =
    let f = x.form in
    let fair : is_fair_head f.head ≡ a.fair = ap (λ (a : Algorithm). a.fair) x.same in
    let rest : List Token = around f.around (λ ts. grammar.section_tokens f.variables (g.define f.define (g.each g.macro f.macros (g.each g.procedure f.procedures (g.main f.main ts))))) [] in
    ap (λ (b : Bool). taken_for_c (head (words_before b)) (seen (behind_front a.fair at) x.pieces)) (sym fair)
    ∙ head_braced f.head at (front_word a.fair) f.name rest (seen (behind_front a.fair at) x.pieces) x.seen
    ∙ braced s f x.good

-- ---- places

place_right : (w : Text) (n : ℕ) → Right 0 (place_at w n)
place_right w n = later start (take n w) refl

place_behind : (w p f z : Text) (n : ℕ) → w ≡ p ++ (f ++ z) → n ≡ length p → place_at w (n + length f) ≡ after (place_at w n) f
place_behind w p f z n e size =
    let here : take n w ≡ p = ap (λ (k : ℕ). take k w) size ∙ ap (take (length p)) e ∙ take-append_seam p (f ++ z) in
    let count : n + length f ≡ length (p ++ f) = ap (λ (k : ℕ). k + length f) size ∙ sym (length-append p f) in
    let there : take (n + length f) w ≡ p ++ f = ap (λ (k : ℕ). take k w) count ∙ ap (take (length (p ++ f))) (e ∙ sym (append_assoc p f z)) ∙ take-append_seam (p ++ f) z in
    ap (after start) there ∙ after_both start p f ∙ ap (λ (u : Text). after (after start u) f) (sym here)

-- ---- where the old one was

-- it begins within the text
pub front_size : (x : Text) (a : AlgorithmText) → IsFine x → algorithm_in x ≡ Some a → length (take a.from x) ≡ a.from
front_size x a fine is = by (find holds_algorithm (walk x)) refl
  where
    begun : (d : Located) → find holds_algorithm (walk x) ≡ Some d → (o : Option ℕ) → first_of (beginnings_in d) ≡ o → length (take a.from x) ≡ a.from
    begun d f None o = (let g : None ≡ Some a = rw (f, o) at is in absurd (none-some a g))
    begun d f (Some n) o =
        let g : Some (at_comment x d n) ≡ Some a = rw (f, o) at is in
        let q = placed_at x d n (all_fine_in x fine).parts.fine f o in
        let front : length (take n x) ≡ n =
        ap (λ (m : ℕ). length (take m x)) q.from ∙ ap (λ (u : Text). length (take (length q.p) u)) q.text ∙ ap length (take-append_seam q.p (q.v ++ q.r)) ∙ sym q.from in
        subst (λ (a : AlgorithmText). length (take a.from x) ≡ a.from) (same_Some (at_comment x d n) a g) front

    by : (o : Option Located) → find holds_algorithm (walk x) ≡ o → length (take a.from x) ≡ a.from
    by None f = (let g : None ≡ Some a = rw f at is in absurd (none-some a g))
    by (Some d) f = begun d f (first_of (beginnings_in d)) refl

-- ---- the algorithm that is there now

cancel : (a b c : Text) → a ++ b ≡ a ++ c → b ≡ c
cancel a b c e = sym (drop-append_seam a b) ∙ ap (drop (length a)) e ∙ drop-append_seam a c

-- nothing is wrong with these pieces, wherever they are
none_wrong : (at : ℕ) (p : Piece) (ps : List Piece) → unmarked (p ∷ ps) ≡ true → small (p ∷ ps) → (part_offences true at (sound p) ≡ []) × (unmarked ps ≡ true) × small ps
none_wrong at (blank b) ps u m = (refl, u, m)
none_wrong at (block body) ps u m = (refl, u, m)
none_wrong at (line body) ps u m = (refl, u, m)
none_wrong at (text.lexeme (lexeme.number k) bytes) ps u m = (ap (λ (b : Bool). offence_if b NumberTooBig at) (lt-leb past_numbers k m.0), u, m.1)
none_wrong at (text.lexeme (lexeme.string v) bytes) ps u m =
    (let h = and_parts (not (holds_mark v)) (unmarked ps) u in (ap (λ (b : Bool). offence_if b BadToken at) (not-true (holds_mark v) h.0), h.1, m.1))
none_wrong at (text.lexeme (lexeme.name v) bytes) ps u m = (refl, u, m.1)
none_wrong at (text.lexeme (lexeme.one v) bytes) ps u m = (refl, u, m.1)
none_wrong at (text.lexeme (lexeme.other v) bytes) ps u m = (refl, u, m.1)

none_in : (qs : List IndexedPart) (ps : List Piece) → map (λ q. q.1) qs ≡ map sound ps → unmarked ps ≡ true → small ps → inner_offences qs ≡ []
none_in [] ps e u m = refl
none_in (q ∷ qs) [] e u m = absurd cc
none_in (q ∷ qs) (p ∷ ps) e u m =
    let first : q.1 ≡ sound p = cc in
    let rest : map (λ q. q.1) qs ≡ map sound ps = cc in
    let none = none_wrong q.0 p ps u m in
    (λ i. part_offences true q.0 (first i) ++ none_in qs ps rest none.1 none.2 i) ∙ ap (λ (os : List Offence). os ++ []) none.0

no_numbers : (ps : List Piece) (p : Place) (at : ℕ) → unmarked ps ≡ true → small ps → number_offences (tokens_of p at ps) ≡ []
no_numbers [] p at u m = refl
no_numbers (blank b ∷ ps) p at u m = no_numbers ps _ _ u m
no_numbers (block w ∷ ps) p at u m = no_numbers ps _ _ u m
no_numbers (line w ∷ ps) p at u m = no_numbers ps _ _ u m
no_numbers (text.lexeme k w ∷ ps) p at u m =
    let none = none_wrong at (text.lexeme k w) ps u m in
    (λ i. none.0 i ++ number_offences (tokens_of (after p w) (at + length w) ps)) ∙ no_numbers ps (after p w) (at + length w) none.1 none.2

-- its text is at n, in a comment that goes on with c
module _ (s : Syntax) (a : Algorithm) (h : IsPrintable a) (w : Text) (n left : ℕ) (p v r c : Text) (is : w ≡ p ++ (v ++ r)) (size : n ≡ length p) (count : left ≡ length v)
    (starts : begins_algorithm v ≡ true) (holds : v ≡ printed s a ++ c) (fits : needs s c ≡ true) where
  abbrev at : Place
  at = place_at w n

  abbrev x : BehindAt s a at
  x = behind_at s a h at (place_right w n)

  abbrev front : Text
  front = front_word a.fair

  abbrev o : Opened v
  o = opened v starts

  words_text : v ≡ algorithm_word a.fair ++ ((lines.opening s a.name.word ++ x.begins.0) ++ c)
  words_text = holds ∙ ap (λ (u : Text). u ++ c) x.begins.1 ∙ append_assoc (algorithm_word a.fair) (lines.opening s a.name.word ++ x.begins.0) c

  fair_there : is_fair v ≡ a.fair
  fair_there = ap is_fair words_text ∙ fair_is a.fair ((lines.opening s a.name.word ++ x.begins.0) ++ c)

  opening_there : opening v ≡ front
  opening_there = ap opening words_text ∙ opening_is a.fair ((lines.opening s a.name.word ++ x.begins.0) ++ c)

  bytes : printed s a ≡ front ++ text_of x.pieces
  bytes = x.bytes

  rest_is : o.rest ≡ text_of x.pieces ++ c
  rest_is =
      cancel front o.rest (text_of x.pieces ++ c)
      (ap (λ (u : Text). u ++ o.rest) (sym opening_there) ∙ sym o.is ∙ holds ∙ ap (λ (u : Text). u ++ c) bytes ∙ append_assoc front (text_of x.pieces) c)

  abbrev state : Stage
  state = head (words_before a.fair)

  abbrev behind_word : ℕ
  behind_word = n + length front

  found : Found state behind_word x.pieces
  found = all_found state behind_word (behind_front a.fair at) x.pieces (tokens_end s a at x) x.token

  abbrev there : AlgorithmText
  there = record { from = n; opening = front; rest = inside_pieces state behind_word x.pieces }

  is_there : algorithm_at n left (drop n w) ≡ there
  is_there =
      made_there w p v r n left is size count o
      ∙ (λ i. record { from = n; opening = opening_there i; rest = inside (head (words_before (fair_there i))) (n + length (opening_there i)) 0 (length (rest_is i)) (rest_is i ++ r) })
      ∙ ap (λ (k : Inside). record { from = n; opening = front; rest = k }) (pieces_found state behind_word x.pieces c r (x.fit c fits) found.past)

  text_is : w ≡ p ++ (printed s a ++ (c ++ r))
  text_is = is ∙ ap (λ (u : Text). p ++ (u ++ r)) holds ∙ ap (λ (u : Text). p ++ u) (append_assoc (printed s a) c r)

  ends_at : there.rest.to ≡ n + length (printed s a)
  ends_at = found.to ∙ sum n (length front) (length (text_of x.pieces)) (length (printed s a)) (ap length bytes ∙ length-append front (text_of x.pieces))
    where
      sum : (n a b c : ℕ) → c ≡ a + b → n + a + b ≡ n + c
      sum n a b c e = omega arith

  ended_there : there.rest.stage ≡ past_stage s
  ended_there = end_stage s there.rest.stage found.past (stage_c state behind_word (behind_front a.fair at) x.pieces ∙ braced_there s a at x)

  place_there : place_at w behind_word ≡ behind_front a.fair at
  place_there =
      let whole : w ≡ p ++ (front ++ ((text_of x.pieces ++ c) ++ r)) =
      is ∙ ap (λ (u : Text). p ++ (u ++ r)) (holds ∙ ap (λ (u : Text). u ++ c) bytes ∙ append_assoc front (text_of x.pieces) c) ∙ ap (λ (u : Text). p ++ u) (append_assoc front (text_of x.pieces ++ c) r) in
      place_behind w p front ((text_of x.pieces ++ c) ++ r) n whole size

  tokens_there : algorithm_tokens w there ≡ record { kind = lexeme.name front; at = n; place = at } ∷ tokens_of (place_at w behind_word) behind_word x.pieces
  tokens_there = ap (λ (ps : List Piece). record { kind = lexeme.name front; at = n; place = at } ∷ tokens_of (place_at w behind_word) behind_word ps) (ap pieces found.parts ∙ sound_pieces x.pieces)

  first_view : (b : Bool) (ts : List text.Token) → views (record { kind = lexeme.name (front_word b); at = n; place = at } ∷ ts) ≡ grammar.word at (front_word b) (views ts)
  first_view false ts = refl
  first_view true ts = refl

  spelled_there : views (algorithm_tokens w there) ≡ spell x.form []
  spelled_there =
      ap views tokens_there ∙ first_view a.fair (tokens_of (place_at w behind_word) behind_word x.pieces)
      ∙ ap (λ (ts : List Token). grammar.word at (front_word a.fair) ts) (seen_is (place_at w behind_word) behind_word x.pieces ∙ ap (λ (q : Place). seen q x.pieces) place_there)
      ∙ x.seen

  few_there : token_offences (algorithm_tokens w there) ≡ too_many_tokens (algorithm_tokens w there)
  few_there =
      let clean = none_left_out (algorithm_tokens w there) (subst Clean (sym spelled_there) (spelled_clean s x.form x.good)) in
      let small = ap number_offences tokens_there ∙ no_numbers x.pieces (place_at w behind_word) behind_word x.fine.unmarked x.fine.small in
      λ i. clean i ++ (small i ++ too_many_tokens (algorithm_tokens w there))

  none_broken : algorithm_offences (Some there) ≡ []
  none_broken = none_in there.rest.parts x.pieces found.parts x.fine.unmarked x.fine.small

  -- all others begin within its tokens
  alone_there : (z : Text) → beginnings (walk w) ≡ all_at begins_algorithm n (printed s a ++ z) → begins_algorithm (printed s a ++ z) ≡ true → ((k : ℕ) → all_at begins_algorithm k z ≡ [])
      → second_algorithms (Some there) (beginnings (walk w)) ≡ []
  alone_there z begun first none =
      let text : printed s a ++ z ≡ front ++ (text_of x.pieces ++ z) = ap (λ (u : Text). u ++ z) bytes ∙ append_assoc front (text_of x.pieces) z in
      let o = others_in (in_token there) a.fair n (text_of x.pieces ++ z) (ap begins_algorithm (sym text) ∙ first) (dashes_in state behind_word x.pieces z found.parts x.fine.fit x.fine.uncommented none) in
      ap (second_algorithms (Some there)) (begun ∙ ap (all_at begins_algorithm n) text ∙ o.all) ∙ ap (offences_at TwoAlgorithms) (filtered (in_token there) o.others o.within)

  holds_there : offences_of (walk w) ≡ [] → no_module w (module_end (walk w)) ≡ [] → no_algorithm (module_end (walk w)) (beginnings (walk w)) ≡ [] → placements (walk w) ≡ []
      → (z : Text) → beginnings (walk w) ≡ all_at begins_algorithm n (printed s a ++ z) → begins_algorithm (printed s a ++ z) ≡ true → ((k : ℕ) → all_at begins_algorithm k z ≡ [])
      → (b : AlgorithmText) → algorithm_in w ≡ Some b → algorithm_at n left (drop n w) ≡ b → HoldsPrinted s a n w
  holds_there all ended begun placed z others first none b is_b same = record {
    text = there;
    is_text = is_b ∙ ap Some (sym same ∙ is_there);
    begins = refl;
    ends = ends_at;
    stage = ended_there;
    bytes = stretch_is w p (printed s a) (c ++ r) n there.rest.to text_is size (ends_at ∙ ap (λ (k : ℕ). k + length (printed s a)) size);
    tree = algorithm_of x.form;
    spelled = (x.form, x.good, spelled_there, refl);
    same = x.same;
    tokens = algorithm_is_cut w there all (is_b ∙ ap Some (sym same ∙ is_there)) (ap only_large none_broken);
    few = few_there;
    fine = none_broken;
    sound = all;
    ended = ended;
    begun = begun;
    alone = alone_there z others first none;
    placed = placed;
  }

-- ---- a file with the printed text

module _ (s : Syntax) (x w : Text) (a : AlgorithmText) (t : Algorithm) (fine : IsFine x) (is_old : algorithm_in x ≡ Some a) (paired : is_paired 0 (stretch x a.from a.rest.to) ≡ true) (h : IsPrintable t)
    (swapped : Swapped x (printed s t ++ gap s (drop a.rest.to x)) w) where
  abbrev rest : Text
  rest = drop a.rest.to x

  abbrev new : Text
  new = printed s t ++ gap s rest

  -- places don't matter to the text
  abbrev self : BehindAt s t (place_at [] 0)
  self = behind_at s t h (place_at [] 0) refl

  dashes : (z : Text) × (new ≡ 45 ∷ 45 ∷ z)
  dashes = by t.fair (ap (λ (u : Text). u ++ gap s rest) self.begins.1)
    where
      by : (b : Bool) → new ≡ (algorithm_word b ++ (lines.opening s t.name.word ++ self.begins.0)) ++ gap s rest → (z : Text) × (new ≡ 45 ∷ 45 ∷ z)
      by false e = (_, e)
      by true e = (_, e)

  is_new : Swapped x (45 ∷ 45 ∷ dashes.0) w
  is_new = subst (λ (u : Text). Swapped x u w) dashes.1 swapped

  new_paired : is_paired 0 (45 ∷ 45 ∷ dashes.0) ≡ true
  new_paired = ap (is_paired 0) (sym dashes.1) ∙ gap_paired s (printed s t) rest self.ends self.clear

  begins_before : (z : Text) → begins_algorithm (printed s t ++ z) ≡ true
  begins_before z =
      ap begins_algorithm (ap (λ (u : Text). u ++ z) self.begins.1 ∙ in_order (algorithm_word t.fair) (lines.opening s t.name.word) self.begins.0 z (name_text s))
      ∙ begins_is t.fair t.name.word ((name_after s ++ self.begins.0) ++ z) h.name.0.0 h.name.0.1
    where
      name_after : Syntax → Text
      name_after g.p_syntax = []
      name_after g.c_syntax = codes " {"

      name_text : (s : Syntax) → lines.opening s t.name.word ≡ t.name.word ++ name_after s
      name_text g.p_syntax = sym (append-nil t.name.word)
      name_text g.c_syntax = refl

      in_order : (f o m e : Text) → o ≡ t.name.word ++ name_after s → (f ++ (o ++ m)) ++ e ≡ f ++ (t.name.word ++ ((name_after s ++ m) ++ e))
      in_order f o m e q = ap (λ (o : Text). (f ++ (o ++ m)) ++ e) q ∙ regrouped f t.name.word (name_after s) m e
        where
          regrouped : (f n k m e : Text) → (f ++ ((n ++ k) ++ m)) ++ e ≡ f ++ (n ++ ((k ++ m) ++ e))
          regrouped f n k m e = simp append_assoc refl

  new_begins : begins_algorithm (45 ∷ 45 ∷ dashes.0) ≡ true
  new_begins = ap begins_algorithm (sym dashes.1) ∙ begins_before (gap s rest)

  all_sound : offences_of (walk w) ≡ []
  all_sound = (swapped_comment x (45 ∷ dashes.0) w a fine is_new is_old paired new_paired).sound

  -- where none begin in the printed text, there are no options
  pub no_options : all_at is_options 0 (printed s t) ≡ [] → flat_map (options_in w) (outside_region w (walk w)) ≡ []
  no_options none =
      swapped_without x (45 ∷ dashes.0) w a fine is_new is_old paired new_paired (subst AddsNoOptions dashes.1 (adds_none s rest (printed s t) self.ends.before self.ends.byte self.apart self.ends.is none))

  ended : no_module w (module_end (walk w)) ≡ []
  ended = still_ends x (45 ∷ 45 ∷ dashes.0) w a fine is_old (swapped_comment x (45 ∷ dashes.0) w a fine is_new is_old paired new_paired)

  abbrev begun : BeginsThere (45 ∷ 45 ∷ dashes.0) w a
  begun = swapped_begins x dashes.0 w a fine is_new is_old paired new_paired new_begins

  text_there : w ≡ take a.from x ++ (printed s t ++ (gap s rest ++ rest))
  text_there =
      let same : swapped.old ≡ a = same_Some swapped.old a (sym swapped.is_old ∙ is_old) in
      swapped.is ∙ ap (λ (a : AlgorithmText). take a.from x ++ (new ++ drop a.rest.to x)) same ∙ ap (λ (u : Text). take a.from x ++ u) (append_assoc (printed s t) (gap s rest) rest)

  here : (d : Located) (n : ℕ) → find holds_algorithm (walk w) ≡ Some d → first_of (beginnings_in d) ≡ Some n → at_comment w d n ≡ begun.algorithm → HoldsPrinted s t a.from w
  here d n f o same =
      let q : Placed w d n = placed_at w d n all_sound f o in
      let from : n ≡ a.from = ap (λ (b : AlgorithmText). b.from) same ∙ begun.from in
      let front : take a.from x ≡ q.p =
      sym (take-append_seam (take a.from x) (printed s t ++ (gap s rest ++ rest))) ∙ ap (λ (k : ℕ). take k (take a.from x ++ (printed s t ++ (gap s rest ++ rest)))) (front_size x a fine is_old ∙ sym from ∙ q.from)
      ∙ ap (take (length q.p)) (sym text_there ∙ q.text) ∙ take-append_seam q.p (q.v ++ q.r) in
      let behind_it : q.v ++ q.r ≡ printed s t ++ (gap s rest ++ rest) = cancel q.p (q.v ++ q.r) (printed s t ++ (gap s rest ++ rest)) (sym q.text ∙ text_there ∙ ap (λ (u : Text). u ++ (printed s t ++ (gap s rest ++ rest))) front) in
      let c = within q.v q.r (printed s t) (gap s rest ++ rest) q.ends behind_it self.clear self.ends in
      let z = gap s rest ++ begun.behind in
      let text : (45 ∷ 45 ∷ dashes.0) ++ begun.behind ≡ printed s t ++ z = ap (λ (u : Text). u ++ begun.behind) (sym dashes.1) ∙ append_assoc (printed s t) (gap s rest) begun.behind in
      let others : beginnings (walk w) ≡ all_at begins_algorithm n (printed s t ++ z) = begun.begun ∙ (λ i. all_at begins_algorithm (sym from i) (text i)) in
      subst (λ (k : ℕ). HoldsPrinted s t k w) from
      (holds_there s t h w n (d.at + 2 + length (within_segment d.is) - n) q.p q.v q.r c.more q.text q.from q.left q.here c.is (gap_there s rest c.more q.r c.rest) all_sound ended (still_begins w d f (module_end (walk w)))
      begun.placed z others (begins_before z) (gap_none s rest begun.behind _ begun.none_behind) begun.algorithm begun.is_algorithm same)

  pub printed_is_there : HoldsPrinted s t a.from w
  printed_is_there = by (find holds_algorithm (walk w)) refl
    where
      on : (d : Located) → find holds_algorithm (walk w) ≡ Some d → (o : Option ℕ) → first_of (beginnings_in d) ≡ o → HoldsPrinted s t a.from w
      on d f None o = (let g : None ≡ Some begun.algorithm = rw (f, o) at begun.is_algorithm in absurd (none-some begun.algorithm g))
      on d f (Some n) o = (let g : Some (at_comment w d n) ≡ Some begun.algorithm = rw (f, o) at begun.is_algorithm in here d n f o (same_Some (at_comment w d n) begun.algorithm g))

      by : (o : Option Located) → find holds_algorithm (walk w) ≡ o → HoldsPrinted s t a.from w
      by None f = (let g : None ≡ Some begun.algorithm = rw f at begun.is_algorithm in absurd (none-some begun.algorithm g))
      by (Some d) f = on d f (first_of (beginnings_in d)) refl
