-- Forms that are open in one another: brackets right behind one another, the first behind `:=`, and heads of `if` and `while` have as many open.
use Rattle.std.proofs.Common.{◌≡◌, ℕ, suc, zero, ◌+◌, ◌≤◌, Bool, true, false, not, nat_le, List, [], ◌∷◌, ◌++◌, length, take, map, get_or, Some, None, refl, sym, ap, ◌∙◌, subst, arith, length-append, append_assoc}
use Rattle.std.specs.List.{list_all, AllByRecursion}
use Rattle.std.proofs.lemmas.Bool.{and_parts, leb-true}
use Rattle.std.proofs.lemmas.List.{length-map}
use Rattle.tla_token.specs.Limits.{deepest_expression, deepest_statement}
use Rattle.tla_tree.specs.Lexical.{TokenView}
use Rattle.tla_tree.specs.Lexical as tk
use Rattle.tla_tree.specs.FirstStop.{Look, look, looks, Open, is_within, Passes}
use Rattle.tla_tree.proofs.BracketCounts.{Climbs, leads}
use Rattle.tla_tree.proofs.Columns.{begun_looks}
use Rattle.pcal_tree.specs.Grammar as g
use Rattle.pcal_tree.specs.OpenForms.{opens}
use Rattle.pcal_tree.specs.OffencesSyntax.{algorithms}
use Rattle.pcal_tree.specs.laws.DeepForms.{bracket, assigned, head_word, Head, is_inner, is_last, FineHead, heads, is_before}
use Rattle.pcal_tree.proofs.HeadWalks.{Behind, other, naming, head, closed, is_head, is_close, is_end, by_word, by_close, next, Deeper, Nests}
use Rattle.pcal_tree.proofs.OpenWalks.{expressions_of, statements_of, close_step}
use Rattle.pcal_tree.proofs.OpenWalksAll.{walks}
use Rattle.pcal_tree.proofs.OpensLaws.{as_many_opens}

zero_more : (n : ℕ) → 0 + n ≡ n
zero_more n = omega arith

-- ---- what passes

within_at : (k : ℕ) (os : List Open) (o : Open) → suc k ≤ length os → list_all is_within (take (suc k) os) ≡ true → is_within (get_or os k o) ≡ true
within_at k [] o l f = absurd (omega arith)
within_at zero (p ∷ os) o l f = (and_parts (is_within p) true f).0
within_at (suc k) (p ∷ os) o l f = within_at k os o (omega arith) (and_parts (is_within p) (list_all is_within (take (suc k) os)) f).1

pub many_opens : (x : g.Text) → length (opens x) ≡ length (looks (g.spell x []))
many_opens x = as_many_opens x ∙ sym (length-map (g.spell x []) look)

-- at the last token of those that pass not too many forms are open in some algorithm
passed_at : (s : g.Syntax) (ls : List Look) (l : Look) (o : Open) → Passes (algorithms s) (map Some (ls ++ (l ∷ []))) → (x : g.Text) × (rest : List Look) × (looks (g.spell x []) ≡ ls ++ (l ∷ rest)) × (is_within (get_or (opens x) (length ls) o) ≡ true)
passed_at s ls l o (more, ns, (x, k, e, q), few) =
    let ks : List Look = ls ++ (l ∷ []) in
    let zs = begun_looks (looks (g.spell x [])) ks (None ∷ []) more (λ y vs n. cc) e in
    let same = zs.1 ∙ append_assoc ls (l ∷ []) zs.0 in
    let n = many_opens x in
    let a = length-append ls (l ∷ []) in
    let b = length-append ls (l ∷ zs.0) in
    let v = ap (λ (us : List Look). length us) same in
    let size : length (map Some ks) ≡ suc (length ls) = omega (arith, length-map ks Some) in
    let f = ap (λ (os : List Open). list_all is_within (take (suc (length ls)) os)) q ∙ ap (λ (i : ℕ). list_all is_within (take i ns)) (sym size) ∙ few in
    (x, zs.0, same, within_at (length ls) (opens x) o (omega arith) f)

-- ---- brackets

-- counts from one token on are those of a tail
abbrev Left : ℕ → List Open → List Open → Type 0
Left k os us = (n : ℕ) (o : Open) → get_or os (k + n) o ≡ get_or us n o

none_left : (os : List Open) → Left 0 os os
none_left os n o = ap (λ (i : ℕ). get_or os i o) (zero_more n)

one_left : (k : ℕ) (p : Open) (os us : List Open) → Left k os us → Left (suc k) (p ∷ os) us
one_left k p os us h n o = (let e : suc k + n ≡ suc (k + n) = omega arith in ap (λ (i : ℕ). get_or (p ∷ os) i o) e ∙ h n o)

behind : (fs ls : List Look) (os : List Open) (b : Bool) (j : ℕ) → Climbs b j (fs ++ ls) (expressions_of os) → length fs + length ls ≤ length os → (us : List Open) × (c : Bool) × (i : ℕ) × Climbs c i ls (expressions_of us) × (length ls ≤ length us) × Left (length fs) os us
behind [] ls os b j h l = (os, b, j, h, omega (arith, l), none_left os)
behind (f ∷ fs) ls [] b j h l = absurd (omega (arith, l))
behind (f ∷ fs) ls (o ∷ os) b j h l = (let v = behind fs ls os (leads f.0) o.expressions h.1 (omega (arith, l)) in (v.0, v.1, v.2, v.3, v.4, one_left (length fs) o os v.0 v.5))

counted : (cs : List ℕ) (c : ℕ) (rest : List Look) (j : ℕ) (os : List Open) (d : Open) → Climbs true j (map bracket cs ++ (bracket c ∷ rest)) (expressions_of os) → length (map bracket cs ++ (bracket c ∷ rest)) ≤ length os → j + suc (length cs) ≤ (get_or os (length cs) d).expressions
counted [] c rest j [] d h l = absurd (omega (arith, l))
counted [] c rest j (o ∷ os) d h l = (let e = h.0 refl refl in omega (arith, e))
counted (b ∷ cs) c rest j [] d h l = absurd (omega (arith, l))
counted (b ∷ cs) c rest j (o ∷ os) d h l = (let e = h.0 refl refl in let r = counted cs c rest o.expressions os d h.1 (omega (arith, l)) in omega (arith, e, r))

pub brackets_open : (x : g.Text) (before after : List Look) (i c : ℕ) (cs : List ℕ) (o : Open) → looks (g.spell x []) ≡ before ++ assigned i cs ++ (bracket c ∷ after) → suc (length cs) ≤ (get_or (opens x) (length (before ++ assigned i cs)) o).expressions
brackets_open x before after i c cs o e =
    let ks : List Look = assigned i cs ++ (bracket c ∷ after) in
    let same : looks (g.spell x []) ≡ before ++ ks = e ∙ append_assoc before (assigned i cs) (bracket c ∷ after) in
    let size = many_opens x ∙ ap (λ (ls : List Look). length ls) same ∙ length-append before ks in
    let w = subst (λ (ls : List Look). Climbs false 0 ls (expressions_of (opens x))) same ((walks x).brackets 0) in
    let v = behind before ks (opens x) false 0 w (omega (arith, size)) in
    let spot : length (before ++ assigned i cs) ≡ length before + suc (length cs) = omega (arith, length-append before (assigned i cs), length-map cs bracket) in
    let there : get_or (opens x) (length (before ++ assigned i cs)) o ≡ get_or v.0 (suc (length cs)) o = ap (λ (n : ℕ). get_or (opens x) n o) spot ∙ v.5 (suc (length cs)) o in
    subst (λ (p : Open). suc (length cs) ≤ p.expressions) (sym there) (at_last v.0 v.1 v.2 v.3 v.4)
  where
    at_last : (us : List Open) (b : Bool) (j : ℕ) → Climbs b j (assigned i cs ++ (bracket c ∷ after)) (expressions_of us) → length (assigned i cs ++ (bracket c ∷ after)) ≤ length us → suc (length cs) ≤ (get_or us (suc (length cs)) o).expressions
    at_last [] b j h l = absurd (omega (arith, l))
    at_last (u ∷ us) b j h l = (let r = counted cs c after u.expressions us o h.1 (omega (arith, l)) in omega (arith, r))

no_form : Open
no_form = record { expressions = 0; statements = 0 }

within_expressions : (o : Open) → is_within o ≡ true → o.expressions ≤ deepest_expression
within_expressions o h = leb-true o.expressions deepest_expression (and_parts (nat_le o.expressions deepest_expression) (nat_le o.statements deepest_statement) h).0

within_statements : (o : Open) → is_within o ≡ true → o.statements ≤ deepest_statement
within_statements o h = leb-true o.statements deepest_statement (and_parts (nat_le o.expressions deepest_expression) (nat_le o.statements deepest_statement) h).1

pub too_many_brackets : (s : g.Syntax) (before : List Look) (i c : ℕ) (cs : List ℕ) → deepest_expression ≤ length cs → Passes (algorithms s) (map Some (before ++ assigned i cs ++ (bracket c ∷ []))) → ⊥
too_many_brackets s before i c cs big p =
    let v = passed_at s (before ++ assigned i cs) (bracket c) no_form p in
    let many = brackets_open v.0 before v.1 i c cs no_form v.2 in
    let few = within_expressions (get_or (opens v.0) (length (before ++ assigned i cs)) no_form) v.3 in
    omega (arith, big, many, few)

-- ---- heads

behind_some : (fs ls : List Look) (os : List Open) (s : Behind) → Nests s (fs ++ ls) (statements_of os) → length fs + length ls ≤ length os → (us : List Open) × (z : Behind) × Nests z ls (statements_of us) × (length ls ≤ length us) × Left (length fs) os us
behind_some [] ls os s h l = (os, s, h, omega (arith, l), none_left os)
behind_some (f ∷ fs) ls [] s h l = absurd (omega (arith, l))
behind_some (f ∷ fs) ls (o ∷ os) s h l = (let v = behind_some fs ls os (next s f.0 o.statements) h.1 (omega (arith, l)) in (v.0, v.1, v.2, v.3, one_left (length fs) o os v.0 v.4))

-- a word isn't a field's name there
abbrev Free : Behind → Type 0
Free naming = ⊥
Free s = Unit {0}

free_word : (a b : Bool) (n : ℕ) → not b ≡ true → Free (by_word a b n)
free_word true b n h = tt
free_word false true n h = absurd cc
free_word false false n h = tt

free_close : (a : Bool) (m : ℕ) (s : Behind) → Free s → Free (by_close a m s)
free_close true m s h = tt
free_close false m s h = h

free_step : (s : Behind) (k : TokenView) (n : ℕ) → is_before k ≡ true → Free (next s k n)
free_step s (tk.mark tk.dot) n h = absurd cc
free_step s (tk.mark tk.comma) n h = absurd cc
free_step s (tk.mark tk.open_square) n h = absurd cc
free_step naming (tk.reserved w) n h = tt
free_step other (tk.reserved w) n h = free_word (is_head w) (is_end w) n h
free_step (closed m) (tk.reserved w) n h = free_word (is_head w) (is_end w) n h
free_step (head m) (tk.reserved w) n h = free_close (is_close w) m (by_word (is_head w) (is_end w) n) (free_word (is_head w) (is_end w) n h)
free_step other k n h = tt
free_step naming k n h = tt
free_step (closed m) k n h = tt
free_step (head m) k n h = tt

first_word : (s : Behind) (b : Bool) (c n : ℕ) → Free s → Deeper s (head_word b c).0 n → (1 ≤ n) × (next s (head_word b c).0 n ≡ head n)
first_word naming b c n f h = absurd f
first_word other true c n f h = (h, refl)
first_word other false c n f h = (h, refl)
first_word (head m) true c n f h = (h, refl)
first_word (head m) false c n f h = (h, refl)
first_word (closed m) true c n f h = (omega (arith, h), refl)
first_word (closed m) false c n f h = (omega (arith, h), refl)

next_word : (m : ℕ) (b : Bool) (c n : ℕ) → Deeper (closed m) (head_word b c).0 n → (n ≡ m + 1) × (next (closed m) (head_word b c).0 n ≡ head n)
next_word m true c n h = (h, refl)
next_word m false c n h = (h, refl)

inner_step : (k : TokenView) (n m : ℕ) → is_inner k ≡ true → next (head n) k m ≡ head n
inner_step (tk.word x) n m h = refl
inner_step (tk.number i) n m h = refl
inner_step (tk.sign o) n m h = refl
inner_step (tk.mark tk.open_bracket) n m h = refl
inner_step k n m h = absurd cc

last_step : (k : TokenView) (n m : ℕ) → is_last k ≡ true → next (head n) k m ≡ closed n
last_step (tk.reserved w) n m h = close_step (is_close w) n (by_word (is_head w) (is_end w) m) h
last_step (tk.mark tk.close_bracket) n m h = refl
last_step k n m h = absurd cc

-- behind the word of a head, up to its end
through : (ms : List Look) (l : Look) (ls : List Look) (n : ℕ) (os : List Open) → list_all (λ (m : Look). is_inner m.0) ms ≡ true → is_last l.0 ≡ true → Nests (head n) (ms ++ (l ∷ ls)) (statements_of os) → length (ms ++ (l ∷ ls)) ≤ length os
    → (us : List Open) × Nests (closed n) ls (statements_of us) × (length ls ≤ length us) × Left (suc (length ms)) os us
through [] l ls n [] p c h i = absurd (omega (arith, i))
through [] l ls n (o ∷ os) p c h i = (os, subst (λ (s : Behind). Nests s ls (statements_of os)) (last_step l.0 n o.statements c) h.1, omega (arith, i), one_left 0 o os os (none_left os))
through (m ∷ ms) l ls n [] p c h i = absurd (omega (arith, i))
through (m ∷ ms) l ls n (o ∷ os) p c h i =
    let w = and_parts (is_inner m.0) (list_all (λ (j : Look). is_inner j.0) ms) p in
    let v = through ms l ls n os w.1 c (subst (λ (s : Behind). Nests s (ms ++ (l ∷ ls)) (statements_of os)) (inner_step m.0 n o.statements w.0) h.1) (omega (arith, i)) in
    (v.0, v.1, v.2, one_left (suc (length ms)) o os v.0 v.3)

-- the word of one more head, right behind the head of form m
more_heads : (hs : List Head) → AllByRecursion FineHead hs → (b : Bool) (c : ℕ) (rest : List Look) (m : ℕ) (os : List Open) (d : Open) → Nests (closed m) (heads hs (head_word b c ∷ rest)) (statements_of os) → length (heads hs (head_word b c ∷ rest)) ≤ length os
    → m + suc (length hs) ≤ (get_or os (length (heads hs [])) d).statements
more_heads [] k b c rest m [] d h l = absurd (omega (arith, l))
more_heads [] k b c rest m (o ∷ os) d h l = (let e = (next_word m b c o.statements h.0).0 in omega (arith, e))
more_heads (x ∷ hs) k b c rest m [] d h l = absurd (omega (arith, l))
more_heads (x ∷ hs) k b c rest m (o ∷ os) d h l =
    let e = next_word m x.is_while x.column o.statements h.0 in
    let ls : List Look = heads hs (head_word b c ∷ rest) in
    let v = through x.inner x.last ls o.statements os k.0.0 k.0.1 (subst (λ (s : Behind). Nests s (x.inner ++ (x.last ∷ ls)) (statements_of os)) e.1 h.1) (omega (arith, l)) in
    let r = more_heads hs k.1 b c rest o.statements v.0 d v.1 v.2 in
    let spot : length (x.inner ++ (x.last ∷ heads hs [])) ≡ suc (length x.inner) + length (heads hs []) = omega (arith, length-append x.inner (x.last ∷ heads hs [])) in
    let there : get_or os (length (x.inner ++ (x.last ∷ heads hs []))) d ≡ get_or v.0 (length (heads hs [])) d = ap (λ (n : ℕ). get_or os n d) spot ∙ v.3 (length (heads hs [])) d in
    subst (λ (p : Open). m + suc (suc (length hs)) ≤ p.statements) (sym there) (omega (arith, e.0, r))

-- the first of them, where a word is no field's name
first_heads : (hs : List Head) → AllByRecursion FineHead hs → (b : Bool) (c : ℕ) (rest : List Look) (s : Behind) (os : List Open) (d : Open) → Free s → Nests s (heads hs (head_word b c ∷ rest)) (statements_of os) → length (heads hs (head_word b c ∷ rest)) ≤ length os
    → suc (length hs) ≤ (get_or os (length (heads hs [])) d).statements
first_heads [] k b c rest s [] d f h l = absurd (omega (arith, l))
first_heads [] k b c rest s (o ∷ os) d f h l = (first_word s b c o.statements f h.0).0
first_heads (x ∷ hs) k b c rest s [] d f h l = absurd (omega (arith, l))
first_heads (x ∷ hs) k b c rest s (o ∷ os) d f h l =
    let e = first_word s x.is_while x.column o.statements f h.0 in
    let ls : List Look = heads hs (head_word b c ∷ rest) in
    let v = through x.inner x.last ls o.statements os k.0.0 k.0.1 (subst (λ (z : Behind). Nests z (x.inner ++ (x.last ∷ ls)) (statements_of os)) e.1 h.1) (omega (arith, l)) in
    let r = more_heads hs k.1 b c rest o.statements v.0 d v.1 v.2 in
    let spot : length (x.inner ++ (x.last ∷ heads hs [])) ≡ suc (length x.inner) + length (heads hs []) = omega (arith, length-append x.inner (x.last ∷ heads hs [])) in
    let there : get_or os (length (x.inner ++ (x.last ∷ heads hs []))) d ≡ get_or v.0 (length (heads hs [])) d = ap (λ (n : ℕ). get_or os n d) spot ∙ v.3 (length (heads hs [])) d in
    subst (λ (p : Open). suc (suc (length hs)) ≤ p.statements) (sym there) (omega (arith, e.0, r))

pub heads_open : (x : g.Text) (before after : List Look) (l : Look) (hs : List Head) (b : Bool) (c : ℕ) (o : Open) → is_before l.0 ≡ true → AllByRecursion FineHead hs → looks (g.spell x []) ≡ before ++ (l ∷ heads hs (head_word b c ∷ after)) → suc (length hs) ≤ (get_or (opens x) (length (before ++ (l ∷ heads hs []))) o).statements
heads_open x before after l hs b c o f k e =
    let ks : List Look = l ∷ heads hs (head_word b c ∷ after) in
    let size = many_opens x ∙ ap (λ (ls : List Look). length ls) e ∙ length-append before ks in
    let w = subst (λ (ls : List Look). Nests other ls (statements_of (opens x))) e ((walks x).heads other tt) in
    let v = behind_some before ks (opens x) other w (omega (arith, size)) in
    let n = length (heads hs []) in
    let spot : length (before ++ (l ∷ heads hs [])) ≡ length before + suc n = length-append before (l ∷ heads hs []) in
    let there : get_or (opens x) (length (before ++ (l ∷ heads hs []))) o ≡ get_or v.0 (suc n) o = ap (λ (i : ℕ). get_or (opens x) i o) spot ∙ v.4 (suc n) o in
    subst (λ (p : Open). suc (length hs) ≤ p.statements) (sym there) (at_last v.0 v.1 v.2 v.3)
  where
    at_last : (us : List Open) (s : Behind) → Nests s (l ∷ heads hs (head_word b c ∷ after)) (statements_of us) → length (l ∷ heads hs (head_word b c ∷ after)) ≤ length us → suc (length hs) ≤ (get_or us (suc (length (heads hs []))) o).statements
    at_last [] s h i = absurd (omega (arith, i))
    at_last (u ∷ us) s h i = first_heads hs k b c after (next s l.0 u.statements) us o (free_step s l.0 u.statements f) h.1 (omega (arith, i))

heads_before : (hs : List Head) (ls zs : List Look) → heads hs ls ++ zs ≡ heads hs (ls ++ zs)
heads_before [] ls zs = refl
heads_before (h ∷ hs) ls zs =
    ap (λ (ks : List Look). head_word h.is_while h.column ∷ ks) (append_assoc h.inner (h.last ∷ heads hs ls) zs ∙ ap (λ (ks : List Look). h.inner ++ (h.last ∷ ks)) (heads_before hs ls zs))

pub too_many_heads : (s : g.Syntax) (before : List Look) (l : Look) (hs : List Head) (b : Bool) (c : ℕ) → is_before l.0 ≡ true → AllByRecursion FineHead hs → deepest_statement ≤ length hs → Passes (algorithms s) (map Some (before ++ (l ∷ heads hs (head_word b c ∷ [])))) → ⊥
too_many_heads s before l hs b c f k big p =
    let ks : List Look = l ∷ heads hs [] in
    let split : (zs : List Look) → (before ++ ks) ++ (head_word b c ∷ zs) ≡ before ++ (l ∷ heads hs (head_word b c ∷ zs)) = λ zs. append_assoc before ks (head_word b c ∷ zs) ∙ ap (λ (ls : List Look). before ++ (l ∷ ls)) (heads_before hs [] (head_word b c ∷ zs)) in
    let v = passed_at s (before ++ ks) (head_word b c) no_form (subst (λ (ls : List Look). Passes (algorithms s) (map Some ls)) (sym (split [])) p) in
    let many = heads_open v.0 before v.1 l hs b c no_form f k (v.2 ∙ split v.1) in
    let few = within_statements (get_or (opens v.0) (length (before ++ ks)) no_form) v.3 in
    omega (arith, big, many, few)
