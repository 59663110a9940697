-- The variables that definitions read, as sets.
use Rattle.std.proofs.Common.{◌≡◌, ℕ, zero, suc, ◌+◌, ◌<◌, ◌≤◌, Bool, true, false, ◌||◌, ◌&&◌, List, [], ◌∷◌, ◌++◌, length, take, drop, get_or, reverse, filter, cond, bytes_eq, Option, Some, unwrap_or, refl, sym, ap, ◌∙◌, subst, append-nil, arith, true≢false}
use Rattle.std.specs.List.{list_any}
use Rattle.std.proofs.lemmas.Bool.{or_left, or_right}
use Rattle.std.proofs.lemmas.List.{drop_more, take_more, take_all, map-append, reverse-append, length-append}
use Rattle.std.proofs.lemmas.List.Folds.{list_any-append}
use Rattle.std.proofs.lemmas.Grind.{flat_map-append}
use Rattle.std.proofs.lemmas.Slice.Eq.{bytes_eq-Decides}
use Rattle.std.proofs.lemmas.Option.{slice_get_read, slice_get-get_or}
use Rattle.std.proofs.Math.Bool.{or-false}
use Rattle.std.proofs.Math.Seq.{get_or-append_seam}
use Rattle.std.proofs.Math.ListN.{get_or-append}
use Rattle.tla_token.specs.Signs.{is_among}
use Rattle.tla_tree.specs.Tree.{Word, Tree, words}
use Rattle.pcal_tree.specs.declared.algorithm.Declaration.{Declaration}
use Rattle.pcal_tree.specs.declared.algorithm.Definition.{Definition}
use Rattle.pcal_tree.specs.Algorithm.{Name}
use Rattle.pcal_tree.specs.Algorithm as tree
use Rattle.pcal_tree.specs.InMemory.{definition_at, definitions_at}
use Rattle.pcal_tree.specs.Paths.{meets}
use Rattle.pcal_tree.specs.Reads.{Reading, through, among_looked_at, readings, used}
use Rattle.pcal_tree.proofs.SetLaws.{Same, any_flat, any_same, any_or, among_same, meets_same}
use Rattle.pcal_tree.proofs.SpotMacros.{any_turned}
use Rattle.algorithm_limits.specs.Numbers.{Numbers, number_of, with_number}
use Rattle.algorithm_limits.proofs.Tables.{number_of_with, same_test, equal}
use Rattle.read_rules.specs.NumbersIn.{declared_in}
use Rattle.read_rules.specs.declared.definitions.Reads.{Reads}
use Rattle.read_rules.specs.Joins.{Joins}
use Rattle.read_rules.specs.ReadsIn.{reads_at, AreReads, read_with, reads_all}
use Rattle.read_rules.proofs.SetLaws.{joins_then}
use Rattle.read_rules.proofs.StaleLaws.{any_and}

-- ---- in memory

pub meets_none : (r : Reads) (ds : List Reading) (names : List Word) (x : Word) → AreReads r ds → number_of r.numbers x ≡ 0 → false ≡ meets names (through ds x)
meets_none r ds names x a e = meets_same names names [] (through ds x) (λ f. refl) (λ f. ap (λ (n : ℕ). list_any f (reads_at r.lists.items n)) (sym e) ∙ a.reads x f)

pub number_past : (r : Reads) (ds : List Reading) (x : Word) → AreReads r ds → length r.lists.items < number_of r.numbers x → {A : Type 0} → A
number_past r ds x a less = let w = a.within x in absurd (omega (arith, less, w))

pub reads_there : (r : Reads) (x : Word) (i : ℕ) (s : List Word) → number_of r.numbers x ≡ suc i → s ≡ get_or r.lists.items i s → i < length r.lists.items → reads_at r.lists.items (number_of r.numbers x) ≡ s
reads_there r x i s e is less =
    ap (reads_at r.lists.items) e ∙ ap (λ (o : Option (List Word)). unwrap_or o []) (slice_get_read r.lists.items (length r.lists.items) i s refl less is)

pub meets_there : (r : Reads) (ds : List Reading) (names : List Word) (x : Word) (i : ℕ) (s : List Word) → AreReads r ds → number_of r.numbers x ≡ suc i → s ≡ get_or r.lists.items i s → i < length r.lists.items
    → meets names s ≡ meets names (through ds x)
meets_there r ds names x i s a e is less =
    meets_same names names s (through ds x) (λ f. refl) (λ f. ap (list_any f) (sym (reads_there r x i s e is less)) ∙ a.reads x f)

pub joins_there : (r : Reads) (ds : List Reading) (old new : List Word) (x : Word) (i : ℕ) (s : List Word) → AreReads r ds → number_of r.numbers x ≡ suc i → s ≡ get_or r.lists.items i s → i < length r.lists.items
    → Joins old new s → Joins old new (through ds x)
joins_there r ds old new x i s a e is less j f =
    j f ∙ ap (λ (b : Bool). list_any f old || b) (ap (list_any f) (sym (reads_there r x i s e is less)) ∙ a.reads x f)

pub joins_nothing : (r : Reads) (ds : List Reading) (old : List Word) (x : Word) → AreReads r ds → number_of r.numbers x ≡ 0 → Joins old old (through ds x)
joins_nothing r ds old x a e f = sym (or-false (list_any f old)) ∙ ap (λ (b : Bool). list_any f old || b) (ap (λ (n : ℕ). list_any f (reads_at r.lists.items n)) (sym e) ∙ a.reads x f)

-- ---- loops

pub meets_first : (names xs : List Word) (i : ℕ) (x : Word) → x ≡ get_or xs i x → i < length xs → meets names (drop i xs) ≡ (list_any (equal x) names || meets names (drop (i + 1) xs))
meets_first names xs i x is less =
    ap (meets names) (drop_more xs i x less ∙ ap (λ (z : Word). z ∷ drop (i + 1) xs) (sym is))
    ∙ ap (λ (b : Bool). b || meets names (drop (i + 1) xs)) (any_same (λ v. bytes_eq v x) (equal x) (λ v. sym (same_test x v)) names)

pub reads_more : (gs : List Word) (ds : List Reading) (old now new : List Word) (ns : List Name) (i : ℕ) (n : Name) → n ≡ get_or ns i n → i < length ns → Joins old now (reads_all gs ds (take i ns)) → Joins now new (read_with gs ds n.word)
    → Joins old new (reads_all gs ds (take (i + 1) ns))
reads_more gs ds old now new ns i n e l h k f =
    joins_then old now new (reads_all gs ds (take i ns)) (read_with gs ds n.word) h k f
    ∙ ap (λ (ys : List Word). list_any f old || list_any f ys)
    (sym (ap (reads_all gs ds) (take_more ns i n l ∙ ap (λ (z : Name). take i ns ++ z ∷ []) (sym e))
    ∙ flat_map-append (λ (z : Name). read_with gs ds z.word) (take i ns) (n ∷ []) ∙ ap (λ (ys : List Word). reads_all gs ds (take i ns) ++ ys) (append-nil (read_with gs ds n.word))))

pub reads_whole : (gs : List Word) (ds : List Reading) (old new : List Word) (ns : List Name) (i : ℕ) → length ns ≤ i → Joins old new (reads_all gs ds (take i ns)) → Joins old new (reads_all gs ds ns)
reads_whole gs ds old new ns i l h f = h f ∙ ap (λ (ms : List Name). list_any f old || list_any f (reads_all gs ds ms)) (take_all i ns l)

pub declared_more : (now new : List Word) (ds : List Declaration) (i : ℕ) (d : Declaration) → d ≡ get_or ds i d → i < length ds → Same now (declared_in (take i ds)) → Joins now new (d.name.word ∷ []) → Same new (declared_in (take (i + 1) ds))
declared_more now new ds i d e l h k f =
    k f ∙ ap (λ (b : Bool). b || list_any f (d.name.word ∷ [])) (h f) ∙ sym (list_any-append f (declared_in (take i ds)) (d.name.word ∷ []))
    ∙ ap (list_any f) (sym (ap declared_in (take_more ds i d l ∙ ap (λ (z : Declaration). take i ds ++ z ∷ []) (sym e)) ∙ map-append (λ (z : Declaration). z.name.word) (take i ds) (d ∷ [])))

pub declared_all : (new : List Word) (ds : List Declaration) (i : ℕ) → length ds ≤ i → Same new (declared_in (take i ds)) → Same new (declared_in ds)
declared_all new ds i l h f = h f ∙ ap (λ (es : List Declaration). list_any f (declared_in es)) (take_all i ds l)

-- ---- as the definitions say it

pub any_filter : {X : Type 0} (f p : X → Bool) (xs : List X) → list_any f (filter p xs) ≡ list_any (λ x. p x && f x) xs
any_filter f p [] = refl
any_filter f p (x ∷ xs) = by (p x) (any_filter f p xs)
  where
    by : (b : Bool) → list_any f (filter p xs) ≡ list_any (λ y. p y && f y) xs → list_any f (cond b (x ∷ filter p xs) (filter p xs)) ≡ ((b && f x) || list_any (λ y. p y && f y) xs)
    by true h = ap (λ (c : Bool). f x || c) h
    by false h = h

-- one word among others
same_value : (f : Word → Bool) (w y : Word) → (bytes_eq w y && f y) ≡ (bytes_eq y w && f w)
same_value f w y = by (bytes_eq w y) (bytes_eq y w) refl refl
  where
    by : (b c : Bool) → bytes_eq w y ≡ b → bytes_eq y w ≡ c → (b && f y) ≡ (c && f w)
    by true true e h = ap f (sym ((bytes_eq-Decides w y).0 e))
    by false false e h = refl
    by true false e h = absurd (true≢false (sym ((bytes_eq-Decides y w).1 (sym ((bytes_eq-Decides w y).0 e))) ∙ h))
    by false true e h = absurd (true≢false (sym ((bytes_eq-Decides w y).1 (sym ((bytes_eq-Decides y w).0 h))) ∙ e))

any_value : (f : Word → Bool) (w : Word) (gs : List Word) → list_any (λ y. bytes_eq w y && f y) gs ≡ (is_among gs w && f w)
any_value f w gs = any_same (λ y. bytes_eq w y && f y) (λ y. bytes_eq y w && f w) (same_value f w) gs ∙ sym (any_and (λ y. bytes_eq y w) (f w) gs)

-- all of these are among those
abbrev pub Within : List Word → List Word → Type 0
Within gs ts = (f : Word → Bool) → list_any f ts ≡ list_any (λ t. is_among gs t && f t) ts

on_members : (g h : Word → Bool) (gs : List Word) → ((y : Word) → is_among gs y ≡ true → g y ≡ h y) → list_any g gs ≡ list_any h gs
on_members g h [] e = refl
on_members g h (z ∷ zs) e = λ i.
    e z (or_left (bytes_eq z z) (is_among zs z) ((bytes_eq-Decides z z).1 refl)) i || on_members g h zs (λ y k. e y (or_right (bytes_eq z y) (is_among zs y) k)) i

within_filter : (q : Word → Bool) (gs : List Word) → Within gs (filter q gs)
within_filter q gs f =
    any_filter f q gs ∙ on_members (λ y. q y && f y) (λ y. q y && (is_among gs y && f y)) gs (λ y k. ap (λ (b : Bool). q y && (b && f y)) (sym k)) ∙ sym (any_filter (λ t. is_among gs t && f t) q gs)

pub within_through : (gs : List Word) (ds : List tree.Definition) (x : Word) → Within gs (through (readings gs ds) x)
within_through gs [] x f = refl
within_through gs (d ∷ older) x f = by (bytes_eq d.name.word x) (within_through gs older x f)
  where
    q : Word → Bool
    q = among_looked_at (readings gs older) (used d.body (words d.params))

    by : (b : Bool) → list_any f (through (readings gs older) x) ≡ list_any (λ t. is_among gs t && f t) (through (readings gs older) x)
        → list_any f (cond b (filter q gs) (through (readings gs older) x)) ≡ list_any (λ t. is_among gs t && f t) (cond b (filter q gs) (through (readings gs older) x))
    by true h = within_filter q gs f
    by false h = h

or_and : (a b c : Bool) → ((a || b) && c) ≡ ((a && c) || (b && c))
or_and true true true = refl
or_and true true false = refl
or_and true false true = refl
or_and true false false = refl
or_and false b c = refl

-- what one name is or reads
one_read : (gs : List Word) (ds : List Reading) (w : Word) → Within gs (through ds w) → (f : Word → Bool) → list_any (λ y. (bytes_eq w y || is_among (through ds w) y) && f y) gs ≡ list_any f (read_with gs ds w)
one_read gs ds w h f =
    any_same (λ y. (bytes_eq w y || is_among T y) && f y) (λ y. (bytes_eq w y && f y) || (is_among T y && f y)) (λ y. or_and (bytes_eq w y) (is_among T y) (f y)) gs
    ∙ any_or (λ y. bytes_eq w y && f y) (λ y. is_among T y && f y) gs
    ∙ (λ i. (any_value f w gs ∙ sym (by (is_among gs w))) i || rest i)
    ∙ sym (list_any-append f (cond (is_among gs w) (w ∷ []) []) T)
  where
    T : List Word
    T = through ds w

    by : (b : Bool) → list_any f (cond b (w ∷ []) []) ≡ (b && f w)
    by true = or-false (f w)
    by false = refl

    rest : list_any (λ y. is_among T y && f y) gs ≡ list_any f T
    rest =
        any_same (λ y. is_among T y && f y) (λ y. list_any (λ t. bytes_eq t y && f y) T) (λ y. any_and (λ t. bytes_eq t y) (f y) T) gs
        ∙ any_turned (λ y t. bytes_eq t y && f y) gs T
        ∙ any_same (λ t. list_any (λ y. bytes_eq t y && f y) gs) (λ t. is_among gs t && f t) (λ t. any_value f t gs) T
        ∙ sym (h f)

pub reads_filtered : (gs : List Word) (ds : List Reading) → ((x : Word) → Within gs (through ds x)) → (ns : List Name) (f : Word → Bool) → list_any f (reads_all gs ds ns) ≡ list_any f (filter (among_looked_at ds ns) gs)
reads_filtered gs ds h ns f =
    any_flat f (λ n. read_with gs ds n.word) ns
    ∙ sym (any_same (λ n. list_any (λ y. (bytes_eq n.word y || is_among (through ds n.word) y) && f y) gs) (λ n. list_any f (read_with gs ds n.word)) (λ n. one_read gs ds n.word (h n.word) f) ns)
    ∙ any_turned (λ n y. (bytes_eq n.word y || is_among (through ds n.word) y) && f y) ns gs
    ∙ any_same (λ y. list_any (λ n. (bytes_eq n.word y || is_among (through ds n.word) y) && f y) ns) (λ y. among_looked_at ds ns y && f y)
    (λ y. sym (any_and (λ n. bytes_eq n.word y || is_among (through ds n.word) y) (f y) ns)) gs
    ∙ sym (any_filter f (among_looked_at ds ns) gs)

-- ---- one more definition

pub reads_none : (r : Reads) → r.numbers ≡ [] → AreReads r []
reads_none r e = record {
  within = λ x. subst (λ (es : Numbers). number_of es x ≤ length r.lists.items) (sym e) (omega arith);
  reads = λ x f. ap (λ (es : Numbers). list_any f (reads_at r.lists.items (number_of es x))) e;
}

reads_kept : (ls : List (List Word)) (s : List Word) (n : ℕ) → n ≤ length ls → reads_at (ls ++ s ∷ []) n ≡ reads_at ls n
reads_kept ls s zero l = refl
reads_kept ls s (suc i) l =
    let less : i < length ls = omega (arith, l) in
    let more = length-append ls (s ∷ []) in
    ap (λ (o : Option (List Word)). unwrap_or o [])
    (slice_get-get_or (ls ++ s ∷ []) i [] (omega (arith, less, more)) ∙ ap (λ (t : List Word). Some t) (get_or-append ls (s ∷ []) [] i less) ∙ sym (slice_get-get_or ls i [] less))

reads_last : (ls : List (List Word)) (s : List Word) → reads_at (ls ++ s ∷ []) (suc (length ls)) ≡ s
reads_last ls s =
    let more = length-append ls (s ∷ []) in
    ap (λ (o : Option (List Word)). unwrap_or o []) (slice_get-get_or (ls ++ s ∷ []) (length ls) [] (omega (arith, more)) ∙ ap (λ (t : List Word). Some t) (get_or-append_seam ls s [] []))

pub reads_with : (r q : Reads) (ds : List Reading) (title : Word) (vs s : List Word) (n : ℕ) → AreReads r ds → ((f : Word → Bool) → list_any f s ≡ list_any f vs) → q.lists.items ≡ r.lists.items ++ s ∷ []
    → n ≡ length r.lists.items + 1 → q.numbers ≡ with_number r.numbers title n → AreReads q (record { title = title; variables = vs } ∷ ds)
reads_with r q ds title vs s n a h all last table = record {
  within = λ x.
      let more = ap (λ (ls : List (List Word)). length ls) all ∙ length-append r.lists.items (s ∷ []) in
      let num = ap (λ (es : Numbers). number_of es x) table ∙ number_of_with r.numbers title n x in
      subst (λ (m : ℕ). m ≤ length q.lists.items) (sym num) (small (bytes_eq title x) x more);
  reads = λ x f.
      ap (λ (ls : List (List Word)). list_any f (reads_at ls (number_of q.numbers x))) all
      ∙ ap (λ (m : ℕ). list_any f (reads_at (r.lists.items ++ s ∷ []) m)) (ap (λ (es : Numbers). number_of es x) table ∙ number_of_with r.numbers title n x) ∙ by (bytes_eq title x) x f;
}
  where
    small : (b : Bool) (x : Word) → length q.lists.items ≡ length r.lists.items + 1 → cond b n (number_of r.numbers x) ≤ length q.lists.items
    small true x more = omega (arith, more, last)
    small false x more = let w = a.within x in omega (arith, more, w)

    by : (b : Bool) (x : Word) (f : Word → Bool) → list_any f (reads_at (r.lists.items ++ s ∷ []) (cond b n (number_of r.numbers x))) ≡ list_any f (cond b vs (through ds x))
    by true x f =
        let e : n ≡ suc (length r.lists.items) = omega (arith, last) in
        ap (λ (m : ℕ). list_any f (reads_at (r.lists.items ++ s ∷ []) m)) e ∙ ap (list_any f) (reads_last r.lists.items s) ∙ h f
    by false x f = ap (list_any f) (reads_kept r.lists.items s (number_of r.numbers x) (a.within x)) ∙ a.reads x f

-- with the same variables
filter_same : (p : Word → Bool) (gs hs : List Word) → Same gs hs → Same (filter p gs) (filter p hs)
filter_same p gs hs e f = any_filter f p gs ∙ e (λ y. p y && f y) ∙ sym (any_filter f p hs)

read_same : (gs hs : List Word) → Same gs hs → (ds : List Reading) (ns : List Name) (f : Word → Bool) → list_any f (reads_all gs ds ns) ≡ list_any f (reads_all hs ds ns)
read_same gs hs e ds ns f =
    any_flat f (λ n. read_with gs ds n.word) ns
    ∙ any_same (λ n. list_any f (read_with gs ds n.word)) (λ n. list_any f (read_with hs ds n.word)) (λ n. ap (λ (b : Bool). list_any f (cond b (n.word ∷ []) [] ++ through ds n.word)) (among_same gs hs e n.word)) ns
    ∙ sym (any_flat f (λ n. read_with hs ds n.word) ns)

pub newest_read : (ts : List Tree) (gs : List Word) (ds : List Definition) (i : ℕ) (d : Definition) → d ≡ get_or ds i d → i < length ds
    → readings gs (reverse (definitions_at ts (take (i + 1) ds))) ≡ readings gs (definition_at ts d ∷ reverse (definitions_at ts (take i ds)))
newest_read ts gs ds i d e l =
    ap (readings gs)
    (ap (λ (es : List Definition). reverse (definitions_at ts es)) (take_more ds i d l ∙ ap (λ (z : Definition). take i ds ++ z ∷ []) (sym e))
    ∙ ap (λ (es : List tree.Definition). reverse es) (map-append (definition_at ts) (take i ds) (d ∷ []))
    ∙ reverse-append (definitions_at ts (take i ds)) (definition_at ts d ∷ []))

-- the variables of one more definition
pub variables_read : (gs hs : List Word) → Same gs hs → (older : List tree.Definition) (ns : List Name) (s : List Word) → Joins [] s (reads_all gs (readings hs older) ns) → (f : Word → Bool)
    → list_any f s ≡ list_any f (filter (among_looked_at (readings hs older) ns) hs)
variables_read gs hs e older ns s j f = j f ∙ read_same gs hs e (readings hs older) ns f ∙ reads_filtered hs (readings hs older) (within_through hs older) ns f
