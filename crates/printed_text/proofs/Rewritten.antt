-- A file whose algorithm is printed in its place holds the same algorithm, in that syntax; printed again it holds the same text as if it had been printed so at once.
use Rattle.std.proofs.Common.{◌≡◌, inl, inr, ℕ, zero, suc, ◌+◌, ◌-◌, arith, Bool, true, false, List, [], ◌∷◌, ◌++◌, map, length, take, drop, Option, Some, refl, sym, ap, subst, ◌∙◌, append_assoc, append-nil, length-append}
use Rattle.std.specs.Prelude.{nat_le, ◌<◌}
use Rattle.std.specs.List.{flat_map}
use Rattle.std.proofs.lemmas.Bool.{leb-false}
use Rattle.std.proofs.lemmas.List.{take-append-drop, drop-drop}
use Rattle.std.proofs.Math.Seq.{drop-append_seam}
use Rattle.std.proofs.lemmas.Option.{same_Some}
use Rattle.tla_token.specs.declared.place.Place.{Place}
use Rattle.tla_token.specs.declared.rule.Rule.TheVariants.{NumberTooBig, TooDeep}
use Rattle.tla_token.specs.Limits.{past_numbers}
use Rattle.tla_token.specs.Lexemes as lexeme
use Rattle.tla_token.specs.Tokens.{blank, block, line, stretch, tokens_of}
use Rattle.tla_token.specs.Tokens as text
use Rattle.tla_token.specs.Offences.{Part, sound, stray, bad_string, open_string, open_block, Offence, offence_if, part_offences}
use Rattle.tla_token.specs.Cut.{pieces}
use Rattle.tla_tree.specs.laws.InText.{ends_word}
use Rattle.tla_tree.specs.laws.Writable.{AreSmall}
use Rattle.tla_token.specs.declared.rule.Refusal.{Refusal}
use Rattle.tla_tree.specs.FirstStop.{Look, to_end, Begins, StopRule}
use Rattle.pcal_tree.specs.AlgorithmTokens.{views}
use Rattle.pcal_tree.specs.OpenForms.{opens}
use Rattle.pcal_tree.specs.OffencesSyntax.{algorithms, RefusesTokens}
use Rattle.pcal_tree.specs.Algorithm.{Algorithm}
use Rattle.pcal_tree.specs.Placeless.{placeless}
use Rattle.pcal_tree.specs.Grammar.{Syntax, p_syntax, c_syntax, Spells}
use Rattle.pcal_tree.specs.Printed.{Text, printed}
use Rattle.module_tree.specs.AlgorithmText.{IndexedPart, AlgorithmText, algorithm_in, algorithm_tokens}
use Rattle.module_tree.specs.Beginnings.{is_options, all_at}
use Rattle.module_tree.specs.Walk.{walk}
use Rattle.module_tree.specs.FileParts.{beginnings}
use Rattle.module_tree.specs.FileOffences.{inner_offences, algorithm_offences, second_algorithms, outside_region, options_in, file_offences}
use Rattle.module_tree.specs.WithTranslation.{Swapped}
use Rattle.module_tree.specs.laws.Kept.{IsFine, only_large}
use Rattle.module_tree.specs.laws.Swaps.{is_paired}
use Rattle.module_tree.proofs.WalkPlace.{both_empty}
use Rattle.module_tree.proofs.WalkKept.{all_fine_in}
use Rattle.module_tree.proofs.AlgorithmIsCut.{algorithm_is_cut}
use Rattle.module_tree.proofs.OnePlace.{one_swapped}
use Rattle.module_tree.proofs.SwappedBack.{swapped_back}
use Rattle.printed_text.specs.Rewritten.{gap, Rewritten}
use Rattle.printed_text.specs.Rewrites.{StandsIn, Rewrites}
use Rattle.printed_text.specs.laws.Printable.{IsPrintable}
use Rattle.printed_text.specs.laws.BreaksFew.{BreaksFew}
use Rattle.printed_text.specs.laws.HoldsPrinted.{HoldsPrinted}
use Rattle.printed_text.proofs.FitAlgorithm.{spelled_printable}
use Rattle.printed_text.proofs.PrintedBare.{same_printed}
use Rattle.printed_text.proofs.Ended.{some_stretch}
use Rattle.printed_text.proofs.Back.{one_tree, one_syntax, paired}
use Rattle.printed_text.proofs.Rewriting.{front_size, printed_is_there, no_options}

-- ---- what stands in a file that is not refused can be printed

small_number : (n at : ℕ) → offence_if (nat_le past_numbers n) NumberTooBig at ≡ [] → n < past_numbers
small_number n at h = by (nat_le past_numbers n) refl
  where
    by : (k : Bool) → nat_le past_numbers n ≡ k → n < past_numbers
    by true k = (let e : ◌≡◌ {A = List Offence} ((NumberTooBig, at) ∷ []) [] = ap (λ (k : Bool). offence_if k NumberTooBig at) (sym k) ∙ h in absurd cc)
    by false k = leb-false past_numbers n k

small_tokens : (ps : List IndexedPart) → inner_offences ps ≡ [] → (p : Place) (n : ℕ) → AreSmall (tokens_of p n (pieces (map (λ q. q.1) ps)))
small_tokens [] h p n = tt
small_tokens ((at, q) ∷ ps) h p n = by q (both_empty (part_offences true at q) (inner_offences ps) h).0 (small_tokens ps (both_empty (part_offences true at q) (inner_offences ps) h).1)
  where
    by : (q : Part) → part_offences true at q ≡ [] → ((p : Place) (n : ℕ) → AreSmall (tokens_of p n (pieces (map (λ q. q.1) ps)))) → AreSmall (tokens_of p n (pieces (q ∷ map (λ q. q.1) ps)))
    by (sound (blank b)) e more = more _ _
    by (sound (block w)) e more = more _ _
    by (sound (line w)) e more = more _ _
    by (sound (text.lexeme (lexeme.number k) w)) e more = (small_number k at e, more _ _)
    by (sound (text.lexeme (lexeme.name v) w)) e more = (tt, more _ _)
    by (sound (text.lexeme (lexeme.string v) w)) e more = (tt, more _ _)
    by (sound (text.lexeme (lexeme.one s) w)) e more = (tt, more _ _)
    by (sound (text.lexeme (lexeme.other v) w)) e more = (tt, more _ _)
    by (stray b) e more = more p n
    by (bad_string w) e more = more p n
    by (open_string w) e more = more p n
    by (open_block w) e more = more p n

printable : (s : Syntax) (x : Text) (a : AlgorithmText) (t : Algorithm) → IsFine x → algorithm_in x ≡ Some a → Spells s (algorithm_tokens x a) t → IsPrintable t
printable s x a t fine is h =
    let all = all_fine_in x fine in
    let none : algorithm_offences (Some a) ≡ [] = ap algorithm_offences (sym is) ∙ all.algorithm in
    let tok = algorithm_is_cut x a all.parts.fine is (ap only_large none) in
    spelled_printable s x a.from a.rest.to (algorithm_tokens x a) t tok (tt, small_tokens a.rest.parts none _ _) h

-- ---- the file

pub rewritten_holds : (s : Syntax) (x w : Text) → IsFine x → (r : Rewritten s x w) → is_paired 0 (stretch x r.old.from r.old.rest.to) ≡ true → HoldsPrinted s r.tree r.old.from w
rewritten_holds s x w fine r paired = printed_is_there s x w r.old r.tree fine r.is_old paired (printable r.syntax x r.old r.tree fine r.is_old r.spelled) r.swapped

-- what is read of one text in two ways is one tree
same_tree : (s t : Syntax) (ts : List text.Token) (a b : Algorithm) → Spells s ts a → Spells t ts b → b ≡ a
same_tree s t ts a b h k = one_tree s ts b a (subst (λ (s : Syntax). Spells s ts b) (one_syntax s t ts a b h k) k) h

-- what is printed there is read again
stands : (s : Syntax) (g : Algorithm) (from : ℕ) (w : Text) → HoldsPrinted s g from w → StandsIn s g w
stands s g from w h =
    let ts = algorithm_tokens w h.text in
    record {
      text = h.text;
      is_text = h.is_text;
      tree = h.tree;
      spelled = h.spelled;
      same = λ t k e. (one_syntax s t ts h.tree k h.spelled e, ap placeless (same_tree s t ts h.tree k h.spelled e) ∙ h.same);
    }

pub rewritten_rewrites : (s : Syntax) (x w : Text) → IsFine x → Rewritten s x w → Rewrites s x w
rewritten_rewrites s x w fine r = record { written = r; again = λ paired. stands s r.tree r.old.from w (rewritten_holds s x w fine r paired) }

same_old : {s t : Syntax} {x w v : Text} (r : Rewritten s x w) (q : Rewritten t x v) → q.old ≡ r.old
same_old r q = same_Some q.old r.old (sym q.is_old ∙ r.is_old)

tree_of_one : {s t : Syntax} {x w v : Text} (r : Rewritten s x w) (q : Rewritten t x v) → q.tree ≡ r.tree
tree_of_one {s} {t} {x} r q =
    same_tree r.syntax q.syntax (algorithm_tokens x r.old) r.tree q.tree r.spelled (subst (λ (a : AlgorithmText). Spells q.syntax (algorithm_tokens x a) q.tree) (same_old r q) q.spelled)

pub one_rewritten : (s : Syntax) (x w v : Text) → Rewritten s x w → Rewritten s x v → w ≡ v
one_rewritten s x w v r q =
    let new : Swapped x (printed s r.tree ++ gap s (drop r.old.rest.to x)) v =
    subst (λ (a : AlgorithmText). Swapped x (printed s r.tree ++ gap s (drop a.rest.to x)) v) (same_old r q)
    (subst (λ (t : Algorithm). Swapped x (printed s t ++ gap s (drop q.old.rest.to x)) v) (tree_of_one r q) q.swapped) in
    one_swapped x (printed s r.tree ++ gap s (drop r.old.rest.to x)) w v r.swapped new

pub some_rewritten : (s t : Syntax) (x : Text) (a : AlgorithmText) (g : Algorithm) → algorithm_in x ≡ Some a → Spells t (algorithm_tokens x a) g → (w : Text) × Rewritten s x w
some_rewritten s t x a g is h = (_, record { old = a; is_old = is; syntax = t; tree = g; spelled = h; swapped = record { old = a; is_old = is; is = refl } })

-- its tokens are refused for their depth alone
pub too_deep : (s : Syntax) (ts : List text.Token) (t : Algorithm) (end : Place) (r : Refusal) → Spells s ts t → RefusesTokens s ts end r → r.rule ≡ TooDeep
too_deep s ts t end r (x, good, e, same) f = by f.stops.rule
  where
    looks : List (Option Look)
    looks = to_end (views ts)

    begun : Begins (algorithms s) (take (suc f.passed) looks)
    begun = (drop (suc f.passed) looks, opens x, (x, good, ap to_end (sym e) ∙ sym (take-append-drop (suc f.passed) looks), refl))

    by : StopRule (algorithms s) (take (suc f.passed) looks) r.rule → r.rule ≡ TooDeep
    by (inl h) = h.0
    by (inr h) = absurd (h.1 begun)

-- ---- what it can break

only_options : (s : Syntax) (t : Algorithm) (n : ℕ) (w : Text) → HoldsPrinted s t n w → file_offences w ≡ flat_map (options_in w) (outside_region w (walk w))
only_options s t n w h =
    let fine : algorithm_offences (algorithm_in w) ≡ [] = ap algorithm_offences h.is_text ∙ h.fine in
    let alone : second_algorithms (algorithm_in w) (beginnings (walk w)) ≡ [] = ap (λ (a : Option AlgorithmText). second_algorithms a (beginnings (walk w))) h.is_text ∙ h.alone in
    λ i. h.sound i ++ (fine i ++ (h.ended i ++ (h.begun i ++ (alone i ++ (h.placed i ++ flat_map (options_in w) (outside_region w (walk w)))))))

pub breaks_few : (s : Syntax) (x w : Text) → IsFine x → (r : Rewritten s x w) → is_paired 0 (stretch x r.old.from r.old.rest.to) ≡ true → (h : HoldsPrinted s r.tree r.old.from w) × BreaksFew s w h.text
breaks_few s x w fine r is_pair =
    let h = rewritten_holds s x w fine r is_pair in
    (h, record { file = only_options s r.tree r.old.from w h; words = h.few; spelling = λ end q. too_deep s (algorithm_tokens w h.text) h.tree end q h.spelled })

pub fine_without : (s : Syntax) (x w : Text) → IsFine x → (r : Rewritten s x w) → is_paired 0 (stretch x r.old.from r.old.rest.to) ≡ true → all_at is_options 0 (printed s r.tree) ≡ [] → IsFine w
fine_without s x w fine r is_pair none =
    only_options s r.tree r.old.from w (rewritten_holds s x w fine r is_pair)
    ∙ no_options s x w r.old r.tree fine r.is_old is_pair (printable r.syntax x r.old r.tree fine r.is_old r.spelled) r.swapped none

-- ---- printed again

pub rewritten_again : (s t : Syntax) (x w v : Text) → IsFine x → (r : Rewritten s x w) → is_paired 0 (stretch x r.old.from r.old.rest.to) ≡ true → IsFine w → Rewritten t w v → HoldsPrinted t r.tree r.old.from v
rewritten_again s t x w v fine r is_pair fine_there q =
    let h = rewritten_holds s x w fine r is_pair in
    let old : q.old ≡ h.text = same_Some q.old h.text (sym q.is_old ∙ h.is_text) in
    let tree : q.tree ≡ h.tree = same_tree s q.syntax (algorithm_tokens w h.text) h.tree q.tree h.spelled (subst (λ (a : AlgorithmText). Spells q.syntax (algorithm_tokens w a) q.tree) old q.spelled) in
    let same : placeless q.tree ≡ placeless r.tree = ap placeless tree ∙ h.same in
    let there : is_paired 0 (stretch w q.old.from q.old.rest.to) ≡ true =
    ap (λ (a : AlgorithmText). is_paired 0 (stretch w a.from a.rest.to)) old ∙ ap (is_paired 0) h.bytes ∙ paired s r.tree (printable r.syntax x r.old r.tree fine r.is_old r.spelled) in
    let k = rewritten_holds t w v fine_there q there in
    let text = same_printed t q.tree r.tree same in
    let from : q.old.from ≡ r.old.from = ap (λ (a : AlgorithmText). a.from) old ∙ h.begins in
    record {
      text = k.text;
      is_text = k.is_text;
      begins = k.begins ∙ from;
      ends = k.ends ∙ (λ i. from i + length (text i));
      stage = k.stage;
      bytes = k.bytes ∙ text;
      tree = k.tree;
      spelled = k.spelled;
      same = k.same ∙ same;
      tokens = k.tokens;
      few = k.few;
      fine = k.fine;
      sound = k.sound;
      ended = k.ended;
      begun = k.begun;
      alone = k.alone;
      placed = k.placed;
    }

-- ---- and back

no_gap : (s : Syntax) (rest : Text) → ends_word rest ≡ true → gap s rest ≡ []
no_gap c_syntax rest h = refl
no_gap p_syntax rest h = rw h refl

-- what is behind the printed text is what was behind the old one
same_behind : (s : Syntax) (x w : Text) → IsFine x → (r : Rewritten s x w) → ends_word (drop r.old.rest.to x) ≡ true → (k : ℕ) → k ≡ r.old.from + length (printed s r.tree) → drop k w ≡ drop r.old.rest.to x
same_behind s x w fine r ends k e =
    let a = r.old in
    let rest = drop a.rest.to x in
    let new = printed s r.tree in
    let same : r.swapped.old ≡ a = same_Some r.swapped.old a (sym r.swapped.is_old ∙ r.is_old) in
    let text : w ≡ take a.from x ++ (new ++ rest) =
    r.swapped.is ∙ ap (λ (b : AlgorithmText). take b.from x ++ ((new ++ gap s rest) ++ drop b.rest.to x)) same
    ∙ ap (λ (u : Text). take a.from x ++ ((new ++ u) ++ rest)) (no_gap s rest ends) ∙ ap (λ (u : Text). take a.from x ++ (u ++ rest)) (append-nil new) in
    let size : k ≡ length (take a.from x ++ new) = e ∙ ap (λ (n : ℕ). n + length new) (sym (front_size x a fine r.is_old)) ∙ sym (length-append (take a.from x) new) in
    ap (λ (n : ℕ). drop n w) size ∙ ap (drop (length (take a.from x ++ new))) (text ∙ sym (append_assoc (take a.from x) new rest)) ∙ drop-append_seam (take a.from x ++ new) rest

pub rewritten_back : (s t : Syntax) (x w v : Text) → IsFine x → (r : Rewritten s x w) → stretch x r.old.from r.old.rest.to ≡ printed t r.tree → ends_word (drop r.old.rest.to x) ≡ true → IsFine w → Rewritten t w v → v ≡ x
rewritten_back s t x w v fine r was ends fine_there q =
    let a = r.old in
    let is_pair : is_paired 0 (stretch x a.from a.rest.to) ≡ true = ap (is_paired 0) was ∙ paired t r.tree (printable r.syntax x a r.tree fine r.is_old r.spelled) in
    let h = rewritten_holds s x w fine r is_pair in
    let old : q.old ≡ h.text = same_Some q.old h.text (sym q.is_old ∙ h.is_text) in
    let tree : q.tree ≡ h.tree = same_tree s q.syntax (algorithm_tokens w h.text) h.tree q.tree h.spelled (subst (λ (b : AlgorithmText). Spells q.syntax (algorithm_tokens w b) q.tree) old q.spelled) in
    let text : printed t q.tree ≡ printed t r.tree = same_printed t q.tree r.tree (ap placeless tree ∙ h.same) in
    let new : Swapped x (printed s r.tree) w = subst (λ (u : Text). Swapped x u w) (ap (λ (u : Text). printed s r.tree ++ u) (no_gap s (drop a.rest.to x) ends) ∙ append-nil (printed s r.tree)) r.swapped in
    let first : Swapped w (printed t r.tree) x = subst (λ (u : Text). Swapped w u x) was (swapped_back x (printed s r.tree) w a h.text fine new r.is_old h.is_text h.begins h.ends) in
    let behind : drop q.old.rest.to w ≡ drop a.rest.to x = ap (λ (b : AlgorithmText). drop b.rest.to w) old ∙ same_behind s x w fine r ends h.text.rest.to h.ends in
    let none : gap t (drop q.old.rest.to w) ≡ [] = no_gap t (drop q.old.rest.to w) (ap ends_word behind ∙ ends) in
    let second : Swapped w (printed t r.tree) v = subst (λ (u : Text). Swapped w u v) ((λ i. text i ++ none i) ∙ append-nil (printed t r.tree)) q.swapped in
    one_swapped w (printed t r.tree) v x second first

-- ---- printed already

-- a text around a part of it that isn't empty
around_part : (x : Text) (from to : ℕ) → (stretch x from to ≡ [] → ⊥) → x ≡ take from x ++ (stretch x from to ++ drop to x)
around_part x from to some = by (to - from) refl
  where
    by : (k : ℕ) → to - from ≡ k → x ≡ take from x ++ (stretch x from to ++ drop to x)
    by zero e = absurd (some (ap (λ (k : ℕ). take k (drop from x)) e))
    by (suc k) e =
        let count : from + (to - from) ≡ to = omega (arith, e) in
        let behind : drop (to - from) (drop from x) ≡ drop to x = drop-drop (to - from) from x ∙ ap (λ (k : ℕ). drop k x) count in
        sym (take-append-drop from x) ∙ ap (λ (u : Text). take from x ++ u) (sym (take-append-drop (to - from) (drop from x)) ∙ ap (λ (u : Text). stretch x from to ++ u) behind)

pub printed_already : (s : Syntax) (x w : Text) → IsFine x → (r : Rewritten s x w) → stretch x r.old.from r.old.rest.to ≡ printed s r.tree → gap s (drop r.old.rest.to x) ≡ [] → w ≡ x
printed_already s x w fine r was none =
    let a = r.old in
    let all = all_fine_in x fine in
    let tok = algorithm_is_cut x a all.parts.fine r.is_old (ap only_large (ap algorithm_offences (sym r.is_old) ∙ all.algorithm)) in
    let same : r.swapped.old ≡ a = same_Some r.swapped.old a (sym r.swapped.is_old ∙ r.is_old) in
    let text : w ≡ take a.from x ++ ((printed s r.tree ++ gap s (drop a.rest.to x)) ++ drop a.rest.to x) =
    r.swapped.is ∙ ap (λ (b : AlgorithmText). take b.from x ++ ((printed s r.tree ++ gap s (drop a.rest.to x)) ++ drop b.rest.to x)) same in
    text ∙ ap (λ (u : Text). take a.from x ++ ((printed s r.tree ++ u) ++ drop a.rest.to x)) none ∙ ap (λ (u : Text). take a.from x ++ (u ++ drop a.rest.to x)) (append-nil (printed s r.tree) ∙ sym was)
    ∙ sym (around_part x a.from a.rest.to (some_stretch x a tok))
