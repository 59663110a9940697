-- The tokens of a file's algorithm are those of its stretch, where no rule on bytes and strings is broken.
use Rattle.std.proofs.Common.{◌≡◌, ℕ, zero, suc, ◌+◌, ◌-◌, Bool, true, false, ◌&&◌, nat_eq, List, [], ◌∷◌, ◌++◌, length, take, drop, Option, Some, None, refl, sym, ap, subst, ◌∙◌, codes, arith, append_assoc, length-append, find}
use Rattle.std.specs.Prelude.{if◌then◌else◌}
use Rattle.std.specs.List.{list_any}
use Rattle.std.proofs.lemmas.Bool.{and_parts, eqb-true, both_ways}
use Rattle.std.proofs.lemmas.Option.{none-some, same_Some}
use Rattle.std.proofs.Math.Seq.{take-append_seam}
use Rattle.tla_token.specs.declared.sign.Sign.{Sign}
use Rattle.tla_token.specs.Lexemes.{unquoted, is_word, is_letter, is_digit, is_blank, is_printed}
use Rattle.tla_token.specs.Tokens.{blank, block, line, is_pair, Closes, TokAlgorithm}
use Rattle.tla_token.specs.Offences.{Part, sound, open_block, string_len, begins_with}
use Rattle.tla_token.specs.Cut.{run, comment_len, block_part, string_part, lexeme_part, or_other, sign_of, sign_part, sign_at}
use Rattle.tla_token.proofs.Spelled.{begins_is}
use Rattle.tla_token.proofs.Parted.{len_closes}
use Rattle.module_tree.specs.TextFront.{Text, begins, line_here, whole_line}
use Rattle.module_tree.specs.HeaderAndRegion.{is_header, is_begin, is_end}
use Rattle.module_tree.specs.Beginnings.{ends_module, is_rule, begins_bar, begins_algorithm, all_at}
use Rattle.module_tree.specs.ModuleParts.{barred, module_part}
use Rattle.module_tree.specs.Walk.{Segment, free, header, part, mark, inner, tail, bytes, State, opened, at_end_line, in_module, segment_at, Located, walk, at_start}
use Rattle.module_tree.specs.FileParts.{within, beginnings_in, first_of, holds_algorithm, before_first, after_first}
use Rattle.module_tree.specs.AlgorithmText.{AlgorithmText, algorithm_at, algorithm_in, algorithm_tokens}
use Rattle.module_tree.specs.FileOffences.{segment_offences, offences_of, algorithm_offences}
use Rattle.module_tree.specs.laws.Walks.{text_of, after_all}
use Rattle.module_tree.specs.laws.Kept.{only_large}
use Rattle.module_tree.proofs.WalkWhole.{whole}
use Rattle.module_tree.proofs.WalkPlace.{both_empty, before_whole, text_append, offences_append, met}
use Rattle.module_tree.proofs.WalkKept.{at_is}
use Rattle.module_tree.proofs.AlgorithmFound.{First, first_at, tokens_there}
use Rattle.module_tree.proofs.AlgorithmTokens.{Ends}

-- ---- the comment that holds it

abbrev is_block : Part → Bool
is_block (sound (block body)) = true
is_block p = false

pub block_segment : (at n : ℕ) (g : Segment) → segment_offences at g ≡ [] → first_of (all_at begins_algorithm (at + 2) (within g)) ≡ Some n → (body : Text) × (g ≡ part (sound (block body)))
block_segment at n (part (sound (block body))) e f = (body, refl)
block_segment at n (part (open_block body)) e f = absurd cc
block_segment at n g e f = absurd (none-some n f)

-- ---- a part in the walk is the first part there

pub part_there : (st : State) (b : ℕ) (s : Text) (q : Part) → segment_at st b s ≡ part q → module_part b s ≡ q
part_there st b s q e = by st.headed refl (is_header (b ∷ s)) refl
  where
    is_part : Segment → Bool
    is_part (part p) = true
    is_part g = false

    wrong : {A : Type 0} (g : Segment) → segment_at st b s ≡ g → is_part g ≡ false → A
    wrong g is unlike = absurd (both_ways (is_part (segment_at st b s)) (ap is_part is ∙ unlike) (ap is_part e))

    parts : {p q : Part} → part p ≡ part q → p ≡ q
    parts e = cc

    no_part : (o : Option (Text × Text)) → is_part (opened o (b ∷ s)) ≡ false
    no_part None = refl
    no_part (Some (v, w)) = refl

    inside : (first : Bool) → segment_at st b s ≡ in_module st.marked first b s → module_part b s ≡ q
    inside first is = on (first && is_begin (b ∷ s)) refl (first && is_end (b ∷ s)) refl (first && is_header (b ∷ s)) refl (ends_module (b ∷ s)) refl
      where
        on : (i : Bool) → (first && is_begin (b ∷ s)) ≡ i → (j : Bool) → (first && is_end (b ∷ s)) ≡ j → (k : Bool) → (first && is_header (b ∷ s)) ≡ k → (l : Bool) → ends_module (b ∷ s) ≡ l
            → module_part b s ≡ q
        on true i j jj k kk l ll =
            (let o : Option (Text × Text) = if st.marked then None else at_end_line false (b ∷ s) in wrong (opened o (b ∷ s)) (is ∙ rw i refl) (no_part o))
        on false i true j k kk l ll = wrong (mark (line_here (b ∷ s))) (is ∙ rw (i, j) refl) refl
        on false i false j true k l ll = wrong (inner (line_here (b ∷ s))) (is ∙ rw (i, j, k) refl) refl
        on false i false j false k true l = wrong (tail (b ∷ s)) (is ∙ rw (i, j, k, l) refl) refl
        on false i false j false k false l = (let here : in_module st.marked first b s ≡ part (module_part b s) = rw (i, j, k, l) refl in parts (sym here ∙ sym is ∙ e))

    by : (h : Bool) → st.headed ≡ h → (k : Bool) → is_header (b ∷ s) ≡ k → module_part b s ≡ q
    by true h k kk = inside (nat_eq st.place.col 1) (rw h refl)
    by false h true k = wrong (header (whole_line (b ∷ s))) (rw (h, k) refl) refl
    by false h false k = wrong (free (whole_line (b ∷ s))) (rw (h, k) refl) refl

-- ---- a comment that is found closes

no_lexeme : (b : ℕ) (s : Text) → is_block (lexeme_part b s) ≡ false
no_lexeme b s = by (list_any is_letter (run is_word (b ∷ s))) refl (is_digit b) refl (nat_eq b 92 && list_any is_letter (run is_word s)) refl
  where
    other_part : (o : Option Sign) (w : Text) → is_block (or_other o w) ≡ false
    other_part None w = refl
    other_part (Some s) w = refl

    mark_part : (o : Option Sign) (b : ℕ) (t : Text) → is_block (sign_part o b t) ≡ false
    mark_part (Some s) b t = refl
    mark_part None b t = on (is_printed b) refl
      where
        on : (k : Bool) → is_printed b ≡ k → is_block (sign_part None b t) ≡ false
        on true k = rw k refl
        on false k = rw k refl

    by : (i : Bool) → list_any is_letter (run is_word (b ∷ s)) ≡ i → (j : Bool) → is_digit b ≡ j → (k : Bool) → (nat_eq b 92 && list_any is_letter (run is_word s)) ≡ k → is_block (lexeme_part b s) ≡ false
    by true i j jj k kk = rw i refl
    by false i true j k kk = rw (i, j) refl
    by false i false j true k = rw (i, j, k) (other_part (sign_of (b ∷ run is_word s)) (b ∷ run is_word s))
    by false i false j false k = rw (i, j, k) (mark_part (sign_at (b ∷ s)) b (b ∷ s))

no_barred : (b : ℕ) (s : Text) → is_block (barred b s) ≡ false
no_barred b s = by (is_rule (b ∷ s)) refl
  where
    by : (k : Bool) → is_rule (b ∷ s) ≡ k → is_block (barred b s) ≡ false
    by true k = rw k refl
    by false k = rw k (no_lexeme b (if begins_bar s then [] else s))

no_quoted : (raw rest : Text) → is_block (string_part raw rest) ≡ false
no_quoted raw rest = by (begins_with 34 rest) refl (unquoted raw) refl
  where
    by : (k : Bool) → begins_with 34 rest ≡ k → (o : Option Text) → unquoted raw ≡ o → is_block (string_part raw rest) ≡ false
    by true k None o = rw (k, o) refl
    by true k (Some w) o = rw (k, o) refl
    by false k o oo = rw k refl

abbrev pub Closed : Text → Text → Type 0
Closed body [] = ⊥
Closed body (b ∷ s) = module_part b s ≡ sound (block body) → Closes 1 body

comment_closed : (body s : Text) → Closed body (40 ∷ 42 ∷ s)
comment_closed body s e = by (comment_len 1 s) refl
  where
    blocks : {v w : Text} → sound (block v) ≡ sound (block w) → v ≡ w
    blocks e = cc

    by : (o : Option ℕ) → comment_len 1 s ≡ o → Closes 1 body
    by None o = (let x : block_part (comment_len 1 s) s ≡ open_block s = rw o refl in let y : false ≡ true = ap is_block (sym x ∙ e) in absurd cc)
    by (Some n) o =
        let x : block_part (comment_len 1 s) s ≡ sound (block (take n s)) = rw o refl in
        subst (Closes 1) (blocks (sym x ∙ e)) (len_closes 1 s n o).1

pub block_closed : (b : ℕ) (s body : Text) → Closed body (b ∷ s)
block_closed b s body e = by (is_blank b) refl (nat_eq b 34) refl (begins (b ∷ s) (codes "(*")) refl (begins (b ∷ s) (codes "\\*")) refl
  where
    wrong : (q : Part) → module_part b s ≡ q → is_block q ≡ false → Closes 1 body
    wrong q is unlike = absurd (both_ways (is_block (module_part b s)) (ap is_block is ∙ unlike) (ap is_block e))

    by : (i : Bool) → is_blank b ≡ i → (j : Bool) → nat_eq b 34 ≡ j → (k : Bool) → begins (b ∷ s) (codes "(*") ≡ k → (l : Bool) → begins (b ∷ s) (codes "\\*") ≡ l → Closes 1 body
    by true i j jj k kk l ll = wrong (sound (blank b)) (rw i refl) refl
    by false i true j k kk l ll = wrong (string_part (take (string_len s) s) (drop (string_len s) s)) (rw (i, j) refl) (no_quoted (take (string_len s) s) (drop (string_len s) s))
    by false i false j true k l ll = subst (Closed body) (sym (begins_is (b ∷ s) (codes "(*") k)) (comment_closed body (drop 2 (b ∷ s))) e
    by false i false j false k true l = wrong (sound (line (line_here (drop 1 s)))) (rw (i, j, k, l) refl) refl
    by false i false j false k false l = wrong (barred b s) (rw (i, j, k, l) refl) (no_barred b s)

-- a comment's text, and its end
abbrev pub Marked : Text → Type 0
Marked v = (u : Text) × (v ≡ u ++ 42 ∷ 41 ∷ [])

before : (x : ℕ) (v : Text) → Marked v → Marked (x ∷ v)
before x v (u, e) = (x ∷ u, ap (λ (w : Text). x ∷ w) e)

last_mark : (a b : ℕ) (bs : Text) → is_pair 42 41 a b ≡ true → Closes 0 bs → Marked (a ∷ b ∷ bs)
last_mark a b [] p c =
    let k = and_parts (nat_eq a 42) (nat_eq b 41) p in
    ([], ap (λ (a : ℕ). a ∷ b ∷ []) (eqb-true a 42 k.0) ∙ ap (λ (b : ℕ). 42 ∷ b ∷ []) (eqb-true b 41 k.1))
last_mark a b (d ∷ bs) p c = absurd c

pub closes_end : (d : ℕ) (body : Text) → Closes (suc d) body → Marked body
closes_end d [] c = absurd c
closes_end d (a ∷ []) c = absurd c
closes_end zero (a ∷ b ∷ bs) c = by (is_pair 40 42 a b) refl (is_pair 42 41 a b) refl (closes_end (suc zero) bs) (closes_end zero (b ∷ bs))
  where
    by : (i : Bool) → is_pair 40 42 a b ≡ i → (j : Bool) → is_pair 42 41 a b ≡ j → (Closes 2 bs → Marked bs) → (Closes 1 (b ∷ bs) → Marked (b ∷ bs)) → Marked (a ∷ b ∷ bs)
    by true i j jj x y = (let h : Closes 2 bs = rw i at c in before a (b ∷ bs) (before b bs (x h)))
    by false i true j x y = (let h : Closes 0 bs = rw (i, j) at c in last_mark a b bs j h)
    by false i false j x y = (let h : Closes 1 (b ∷ bs) = rw (i, j) at c in before a (b ∷ bs) (y h))
closes_end (suc d) (a ∷ b ∷ bs) c = by (is_pair 40 42 a b) refl (is_pair 42 41 a b) refl (closes_end (suc (suc d)) bs) (closes_end d bs) (closes_end (suc d) (b ∷ bs))
  where
    by : (i : Bool) → is_pair 40 42 a b ≡ i → (j : Bool) → is_pair 42 41 a b ≡ j → (Closes (suc (suc (suc d))) bs → Marked bs) → (Closes (suc d) bs → Marked bs) → (Closes (suc (suc d)) (b ∷ bs) → Marked (b ∷ bs))
        → Marked (a ∷ b ∷ bs)
    by true i j jj x y z = (let h : Closes (suc (suc (suc d))) bs = rw i at c in before a (b ∷ bs) (before b bs (x h)))
    by false i true j x y z = (let h : Closes (suc d) bs = rw (i, j) at c in before a (b ∷ bs) (before b bs (y h)))
    by false i false j x y z = (let h : Closes (suc (suc d)) (b ∷ bs) = rw (i, j) at c in before a (b ∷ bs) (z h))

-- ---- the file

pub within_mark : (u : Text) → take (length (u ++ 42 ∷ 41 ∷ []) - 2) (u ++ 42 ∷ 41 ∷ []) ≡ u
within_mark u = ap (λ (n : ℕ). take n (u ++ 42 ∷ 41 ∷ [])) (less (length u) (length (u ++ 42 ∷ 41 ∷ [])) (length-append u (42 ∷ 41 ∷ []))) ∙ take-append_seam u (42 ∷ 41 ∷ [])
  where
    less : (n m : ℕ) → m ≡ n + 2 → m - 2 ≡ n
    less n m e = omega arith

-- where the algorithm is: after the bytes p, with v left in its comment
pub record Placed (x : Text) (d : Located) (n : ℕ) : Type 0 where
  pub p : Text
  pub u : Text
  pub v : Text
  pub r : Text
  pub text : x ≡ p ++ (v ++ r)
  pub from : n ≡ length p
  pub left : d.at + 2 + length (within d.is) - n ≡ length v
  pub ends : Ends r
  pub here : begins_algorithm v ≡ true
  pub inner : within d.is ≡ u ++ v
  pub at : n ≡ d.at + 2 + length u

pub placed : (x : Text) (ds es : List Located) (d : Located) (n : ℕ) → segment_offences d.at d.is ≡ [] → walk x ≡ ds ++ d ∷ es → first_of (beginnings_in d) ≡ Some n → Placed x d n
placed x ds es d n fine split first =
    let blk = block_segment d.at n d.is fine first in
    let m = met ds d es at_start x split in
    let closes = block_closed m.b m.s blk.0 (part_there (after_all at_start ds) m.b m.s (sound (block blk.0)) (ap (λ (d : Located). d.is) m.is ∙ blk.1)) in
    let e = closes_end zero blk.0 closes in
    let u = e.0 in
    let within_is : within d.is ≡ u = ap within blk.1 ∙ ap (λ (body : Text). take (length body - 2) body) e.1 ∙ within_mark u in
    let f : First begins_algorithm (d.at + 2) n u = first_at begins_algorithm (d.at + 2) n u (ap (λ (u : Text). first_of (all_at begins_algorithm (d.at + 2) u)) (sym within_is) ∙ first) in
    let p = text_of ds ++ (40 ∷ 42 ∷ f.front) in
    let size = at_is ds es d x split in
    let bytes_is : bytes d.is ≡ 40 ∷ 42 ∷ ((f.front ++ f.rest) ++ 42 ∷ 41 ∷ []) = ap bytes blk.1 ∙ ap (λ (body : Text). 40 ∷ 42 ∷ body) e.1 ∙ ap (λ (u : Text). 40 ∷ 42 ∷ (u ++ 42 ∷ 41 ∷ [])) f.split in
    record {
      p = p;
      u = f.front;
      v = f.rest;
      r = 42 ∷ 41 ∷ text_of es;
      text = sym (whole x) ∙ ap text_of split ∙ text_append ds (d ∷ es) ∙ ap (λ (w : Text). text_of ds ++ (w ++ text_of es)) bytes_is
          ∙ in_order (text_of ds) (40 ∷ 42 ∷ []) f.front f.rest (42 ∷ 41 ∷ []) (text_of es);
      from = counted n d.at (length f.front) (length (text_of ds)) (length p) f.at size (length-append (text_of ds) (40 ∷ 42 ∷ f.front));
      left = remaining d.at (length (within d.is)) n (length f.front) (length f.rest) (ap length within_is ∙ ap length f.split ∙ length-append f.front f.rest) f.at;
      ends = (refl, refl);
      here = f.here;
      inner = within_is ∙ f.split;
      at = f.at;
    }
  where
    in_order : (t o f v m es : Text) → t ++ ((o ++ ((f ++ v) ++ m)) ++ es) ≡ (t ++ (o ++ f)) ++ (v ++ (m ++ es))
    in_order t o f v m es = simp append_assoc refl

    counted : (n a f t p : ℕ) → n ≡ a + 2 + f → a ≡ t → p ≡ t + suc (suc f) → n ≡ p
    counted n a f t p e g h = omega arith

    remaining : (a w n f v : ℕ) → w ≡ f + v → n ≡ a + 2 + f → a + 2 + w - n ≡ v
    remaining a w n f v e g = omega arith

pub fine_here : (x : Text) (ds es : List Located) (d : Located) → offences_of (walk x) ≡ [] → walk x ≡ ds ++ d ∷ es → segment_offences d.at d.is ≡ []
fine_here x ds es d fine split =
    (both_empty (segment_offences d.at d.is) (offences_of es) (both_empty (offences_of ds) (offences_of (d ∷ es)) (sym (offences_append ds (d ∷ es)) ∙ ap offences_of (sym split) ∙ fine)).1).0

algorithm_there : (x : Text) (ds es : List Located) (d : Located) (n : ℕ) → offences_of (walk x) ≡ [] → walk x ≡ ds ++ d ∷ es → first_of (beginnings_in d) ≡ Some n
    → only_large (algorithm_offences (Some (algorithm_at n (d.at + 2 + length (within d.is) - n) (drop n x)))) ≡ true
    → TokAlgorithm x n (algorithm_at n (d.at + 2 + length (within d.is) - n) (drop n x)).rest.to (algorithm_tokens x (algorithm_at n (d.at + 2 + length (within d.is) - n) (drop n x)))
algorithm_there x ds es d n fine split first plain =
    let q = placed x ds es d n (fine_here x ds es d fine split) split first in
    tokens_there x q.p q.v q.r n (d.at + 2 + length (within d.is) - n) q.text q.from q.left q.ends q.here plain

pub algorithm_is_cut : (x : Text) (a : AlgorithmText) → offences_of (walk x) ≡ [] → algorithm_in x ≡ Some a → only_large (algorithm_offences (Some a)) ≡ true
    → TokAlgorithm x a.from a.rest.to (algorithm_tokens x a)
algorithm_is_cut x a fine is plain = by (find holds_algorithm (walk x)) refl
  where
    Goal : AlgorithmText → Type 0
    Goal a = TokAlgorithm x a.from a.rest.to (algorithm_tokens x a)

    begun : (d : Located) → find holds_algorithm (walk x) ≡ Some d → (o : Option ℕ) → first_of (beginnings_in d) ≡ o → Goal a
    begun d f None o = (let g : None ≡ Some a = rw (f, o) at is in absurd (none-some a g))
    begun d f (Some n) o =
        let made = algorithm_at n (d.at + 2 + length (within d.is) - n) (drop n x) in
        let g : Some made ≡ Some a = rw (f, o) at is in
        let same : made ≡ a = same_Some made a g in
        subst Goal same (algorithm_there x (before_first holds_algorithm (walk x)) (after_first holds_algorithm (walk x)) d n fine (before_whole holds_algorithm (walk x) d f) o
        (ap (λ (a : AlgorithmText). only_large (algorithm_offences (Some a))) same ∙ plain))

    by : (o : Option Located) → find holds_algorithm (walk x) ≡ o → Goal a
    by None f = (let g : None ≡ Some a = rw f at is in absurd (none-some a g))
    by (Some d) f = begun d f (first_of (beginnings_in d)) refl
