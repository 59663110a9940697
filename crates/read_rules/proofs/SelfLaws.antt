-- The first `self` of what stands in lists, and of the macros that are reached.
use Rattle.std.proofs.Common.{◌≡◌, ℕ, ◌+◌, ◌-◌, ◌<◌, ◌≤◌, nat_lt, Bool, true, false, ◌||◌, List, [], ◌∷◌, ◌++◌, length, take, map, reverse, get_or, Option, None, refl, sym, ap, ◌∙◌, cond, bytes_eq, arith, append-nil, le-ltb, lt-ltb}
use Rattle.std.specs.Prelude.{codes}
use Rattle.std.specs.List.{flat_map}
use Rattle.std.proofs.lemmas.List.{take_more, take_all, map-append, reverse-append}
use Rattle.std.proofs.lemmas.List.Folds.{list_any-append}
use Rattle.std.proofs.lemmas.Grind.{flat_map-append}
use Rattle.tla_token.specs.declared.rule.Rule.TheVariants.{SelfOutside}
use Rattle.tla_token.specs.declared.rule.Refusal.{Refusal}
use Rattle.tla_token.specs.Signs.{is_among}
use Rattle.tla_tree.specs.Tree.{Word, Tree, words}
use Rattle.pcal_tree.specs.declared.algorithm.Macro.{Macro}
use Rattle.pcal_tree.specs.Algorithm as tree
use Rattle.pcal_tree.specs.Algorithm.{Name}
use Rattle.pcal_tree.specs.InMemory.{macro_at}
use Rattle.pcal_tree.specs.Offences.{offence_if, first}
use Rattle.pcal_tree.specs.OffencesCounts.{calls_of}
use Rattle.pcal_tree.specs.OffencesSelf.{self_offence, selves, without, reached, used_in_macros, used_by_starts, used_by_procedure, used_outside, self_offences}
use Rattle.pcal_tree.specs.Reads.{used, initial}
use Rattle.pcal_tree.specs.Spots.{used_in_body}
use Rattle.algorithm_limits.specs.Numbers.{Numbers, number_of, with_number}
use Rattle.algorithm_limits.proofs.Tables.{number_of_with}
use Rattle.algorithm_answer.specs.Joined.{joined}
use Rattle.algorithm_answer.proofs.Joins.{joined_assoc, joined_none, first_append}
use Rattle.read_rules.proofs.CallsAsSets.{among_without}
use Rattle.read_rules.specs.Calls.{AreCalled, AddsCalls}
use Rattle.read_rules.specs.Using.{if_self}
use Rattle.read_rules.specs.Selves.{calls_of_procedure}
use Rattle.read_rules.proofs.CallLaws.{calls_as, calls_then}
use Rattle.read_rules.proofs.FoundLaws.{Found, found_all, flat_mapped}

-- ---- names one after another

selves_both : (ns ms : List Name) → first (selves (ns ++ ms)) ≡ joined (first (selves ns)) (first (selves ms))
selves_both ns ms = ap first (flat_map-append self_offence ns ms) ∙ first_append (selves ns) (selves ms)

pub selves_then : (a b c : Option Refusal) (ns ms : List Name) → b ≡ joined a (first (selves ns)) → c ≡ joined b (first (selves ms)) → c ≡ joined a (first (selves (ns ++ ms)))
selves_then a b c ns ms h k = k ∙ ap (λ (o : Option Refusal). joined o (first (selves ms))) h ∙ joined_assoc a (first (selves ns)) (first (selves ms)) ∙ ap (joined a) (sym (selves_both ns ms))

-- of things in a list
selves_of : {X : Type 0} (f : X → List Name) (xs : List X) → flat_map (λ x. selves (f x)) xs ≡ selves (flat_map f xs)
selves_of f [] = refl
selves_of f (x ∷ xs) = ap (λ (rs : List Refusal). selves (f x) ++ rs) (selves_of f xs) ∙ sym (flat_map-append self_offence (f x) (flat_map f xs))

-- those that are kept offend as all do
pub selves_kept : (ns : List Name) → selves (flat_map if_self ns) ≡ selves ns
selves_kept [] = refl
selves_kept (n ∷ ns) = flat_map-append self_offence (if_self n) (flat_map if_self ns) ∙ (λ i. one (bytes_eq (codes "self") n.word) refl i ++ selves_kept ns i)
  where
    one : (b : Bool) → bytes_eq (codes "self") n.word ≡ b → selves (cond b (n ∷ []) []) ≡ self_offence n
    one true e = append-nil (self_offence n)
    one false e = ap (λ (b : Bool). offence_if b SelfOutside n.place) (sym e)

-- what is used by each
abbrev pub used_by_start : tree.Declaration → List Name
used_by_start d = flat_map (λ e. used e []) (initial d.start)

abbrev pub used_by_definition : tree.Definition → List Name
used_by_definition d = used d.body (words d.params)

abbrev pub used_by_identity : tree.Process → List Name
used_by_identity p = used p.identity []

-- of things in memory
pub selves_all : {X Y : Type 0} (f : Y → List Name) (h : X → Y) (xs : List X) (i : ℕ) (start found : Option Refusal) → length xs ≤ i → Found (λ x. selves (f (h x))) xs i start found → found ≡ joined start (first (selves (flat_map f (map h xs))))
selves_all f h xs i start found l m =
    found_all (λ x. selves (f (h x))) xs i start found l m ∙ ap (λ (rs : List Refusal). joined start (first rs)) (flat_mapped (λ y. selves (f y)) h xs ∙ selves_of f (map h xs))

-- ---- calls of things in a list

pub calls_more : {X : Type 0} (f : X → List Word) (old now new : Numbers) (xs : List X) (i : ℕ) (x : X) → x ≡ get_or xs i x → i < length xs → AddsCalls old now (flat_map f (take i xs)) → AddsCalls now new (f x) → AddsCalls old new (flat_map f (take (i + 1) xs))
calls_more f old now new xs i x e l h k =
    calls_as old new (flat_map f (take i xs) ++ f x) (flat_map f (take (i + 1) xs))
    (sym (ap (flat_map f) (take_more xs i x l) ∙ flat_map-append f (take i xs) (get_or xs i x ∷ []) ∙ (λ j. flat_map f (take i xs) ++ append-nil (f (sym e j)) j)))
    (calls_then old now new (flat_map f (take i xs)) (f x) h k)

pub calls_all : {X Y : Type 0} (f : Y → List Word) (h : X → Y) (old now : Numbers) (xs : List X) (i : ℕ) → length xs ≤ i → AddsCalls old now (flat_map (λ x. f (h x)) (take i xs)) → AddsCalls old now (flat_map f (map h xs))
calls_all f h old now xs i l k = calls_as old now _ _ (ap (flat_map (λ x. f (h x))) (take_all i xs l) ∙ flat_mapped f h xs) k

-- where none was marked
pub called_all : (es : Numbers) (ms : List Word) → AddsCalls [] es ms → AreCalled es ms
called_all es ms h x = h.calls x ∙ or_none (is_among ms x)
  where
    or_none : (b : Bool) → (b || false) ≡ b
    or_none true = refl
    or_none false = refl

-- ---- macros

-- those that are left, the newest first, where so many were passed
abbrev pub macros_left : List Tree → List Macro → ℕ → List tree.Macro
macros_left ts ms i = reverse (map (macro_at ts) (take (length ms - i) ms))

abbrev pub SelvesIn : List tree.Macro → Option Refusal
SelvesIn ds = first (selves (used_in_macros ds))

next_left : (ts : List Tree) (ms : List Macro) (i : ℕ) (d : Macro) → d ≡ get_or ms (length ms - 1 - i) d → i < length ms → macros_left ts ms i ≡ macro_at ts d ∷ macros_left ts ms (i + 1)
next_left ts ms i d e l =
    let here : length ms - i ≡ (length ms - 1 - i) + 1 = omega (arith, l) in
    let more : length ms - 1 - i ≡ length ms - (i + 1) = omega (arith, l) in
    let less : length ms - 1 - i < length ms = omega (arith, l) in
    ap (λ (n : ℕ). reverse (map (macro_at ts) (take n ms))) here
    ∙ ap (λ (es : List Macro). reverse (map (macro_at ts) es)) (take_more ms (length ms - 1 - i) d less ∙ ap (λ (z : Macro). take (length ms - 1 - i) ms ++ z ∷ []) (sym e))
    ∙ ap (λ (es : List tree.Macro). reverse es) (map-append (macro_at ts) (take (length ms - 1 - i) ms) (d ∷ []))
    ∙ reverse-append (map (macro_at ts) (take (length ms - 1 - i) ms)) (macro_at ts d ∷ [])
    ∙ ap (λ (n : ℕ). macro_at ts d ∷ reverse (map (macro_at ts) (take n ms))) more

-- in the loop: what is marked is what is called and was not passed, and what is left gives the whole
pub record Reaches (ts : List Tree) (ms : List Macro) (called : List Word) (start found : Option Refusal) (es : Numbers) (i : ℕ) : Type 0 where
  pub calls : List Word
  pub marks : AreCalled es calls
  pub rest : joined found (SelvesIn (reached calls (macros_left ts ms i))) ≡ joined start (SelvesIn (reached called (reverse (map (macro_at ts) ms))))

pub reaches_start : (ts : List Tree) (ms : List Macro) (called : List Word) (start : Option Refusal) (es : Numbers) → AreCalled es called → Reaches ts ms called start start es 0
reaches_start ts ms called start es h = record {
  calls = called;
  marks = h;
  rest = ap (λ (ds : List Macro). joined start (SelvesIn (reached called (reverse (map (macro_at ts) ds))))) (take_all (length ms - 0) ms (omega arith));
}

pub reaches_passed : (ts : List Tree) (ms : List Macro) (called : List Word) (start found : Option Refusal) (es : Numbers) (i : ℕ) (d : Macro) → d ≡ get_or ms (length ms - 1 - i) d → i < length ms
    → number_of es d.name.word ≤ 0 → Reaches ts ms called start found es i → Reaches ts ms called start found es (i + 1)
reaches_passed ts ms called start found es i d e l none h = record {
  calls = h.calls;
  marks = h.marks;
  rest =
      ap (λ (b : Bool). joined found (SelvesIn (cond b (macro_at ts d ∷ reached (calls_of (macro_at ts d).body ++ without d.name.word h.calls) (macros_left ts ms (i + 1))) (reached h.calls (macros_left ts ms (i + 1))))))
      (sym (le-ltb 0 (number_of es d.name.word) none) ∙ h.marks d.name.word)
      ∙ ap (λ (ds : List tree.Macro). joined found (SelvesIn (reached h.calls ds))) (sym (next_left ts ms i d e l))
      ∙ h.rest;
}

let_go : (es : Numbers) (x : Word) (calls : List Word) → AreCalled es calls → AreCalled (with_number es x 0) (without x calls)
let_go es x calls h y = ap (nat_lt 0) (number_of_with es x 0 y) ∙ by (bytes_eq x y) refl ∙ sym (among_without x calls y)
  where
    by : (b : Bool) → bytes_eq x y ≡ b → nat_lt 0 (cond b 0 (number_of es y)) ≡ cond b false (is_among calls y)
    by true e = refl
    by false e = h y

pub reaches_called : (ts : List Tree) (ms : List Macro) (called : List Word) (start found next : Option Refusal) (es fs : Numbers) (i : ℕ) (d : Macro) → d ≡ get_or ms (length ms - 1 - i) d → i < length ms
    → 0 < number_of es d.name.word → AddsCalls (with_number es d.name.word 0) fs (calls_of (macro_at ts d).body) → next ≡ joined found (first (selves (used_in_body (macro_at ts d).body)))
    → Reaches ts ms called start found es i → Reaches ts ms called start next fs (i + 1)
reaches_called ts ms called start found next es fs i d e l some adds n h = record {
  calls = calls;
  marks = λ x. adds.calls x ∙ ap (λ (b : Bool). is_among mine x || b) (let_go es d.name.word h.calls h.marks x) ∙ sym (list_any-append (λ v. bytes_eq v x) mine (without d.name.word h.calls));
  rest =
      ap (λ (o : Option Refusal). joined o (SelvesIn older)) n ∙ joined_assoc found (first (selves here)) (SelvesIn older) ∙ ap (joined found) (sym (selves_both here (used_in_macros older)))
      ∙ ap (λ (b : Bool). joined found (SelvesIn (cond b (macro_at ts d ∷ older) (reached h.calls (macros_left ts ms (i + 1)))))) (sym (lt-ltb 0 (number_of es d.name.word) some) ∙ h.marks d.name.word)
      ∙ ap (λ (ds : List tree.Macro). joined found (SelvesIn (reached h.calls ds))) (sym (next_left ts ms i d e l))
      ∙ h.rest;
}
  where
    here : List Name
    here = used_in_body (macro_at ts d).body

    mine : List Word
    mine = calls_of (macro_at ts d).body

    calls : List Word
    calls = mine ++ without d.name.word h.calls

    older : List tree.Macro
    older = reached calls (macros_left ts ms (i + 1))

pub reaches_all : (ts : List Tree) (ms : List Macro) (called : List Word) (start found : Option Refusal) (es : Numbers) (i : ℕ) → length ms ≤ i → Reaches ts ms called start found es i → found ≡ joined start (SelvesIn (reached called (reverse (map (macro_at ts) ms))))
reaches_all ts ms called start found es i l h =
    let none : length ms - i ≡ 0 = omega (arith, l) in
    sym (joined_none found) ∙ ap (λ (n : ℕ). joined found (SelvesIn (reached h.calls (reverse (map (macro_at ts) (take n ms)))))) (sym none) ∙ h.rest

-- ---- procedures and algorithms

pub procedure_selves : (so_far params variables r : Option Refusal) (p : tree.Procedure) → params ≡ joined so_far (first (selves (used_by_starts p.params))) → variables ≡ joined params (first (selves (used_by_starts p.variables)))
    → r ≡ joined variables (first (selves (used_in_body p.body))) → r ≡ joined so_far (first (selves (used_by_procedure p)))
procedure_selves so_far params variables r p h k l =
    selves_then so_far variables r (used_by_starts (p.params ++ p.variables)) (used_in_body p.body)
    (selves_then so_far params variables (used_by_starts p.params) (used_by_starts p.variables) h k ∙ ap (λ (ns : List Name). joined so_far (first (selves ns))) (sym (flat_map-append used_by_start p.params p.variables))) l

pub alone_selves : (so_far procedures found r : Option Refusal) (a : tree.Algorithm) (b : tree.Statements) → procedures ≡ joined so_far (first (selves (flat_map used_by_procedure a.procedures)))
    → found ≡ joined procedures (first (selves (used_in_body b))) → r ≡ joined found (SelvesIn (reached (flat_map calls_of_procedure a.procedures ++ calls_of b) (reverse a.macros))) → r ≡ joined so_far (first (selves (used_outside a (tree.alone b))))
alone_selves so_far procedures found r a b h k l =
    let more = used_in_macros (reached (flat_map calls_of_procedure a.procedures ++ calls_of b) (reverse a.macros)) in
    selves_then so_far procedures r (flat_map used_by_procedure a.procedures) (used_in_body b ++ more) h (selves_then procedures found r (used_in_body b) more k l)

pub all_selves : (globals found r : Option Refusal) (a : tree.Algorithm) → globals ≡ first (selves (used_by_starts a.globals)) → found ≡ joined globals (first (selves (flat_map used_by_definition a.definitions)))
    → r ≡ joined found (first (selves (used_outside a a.main))) → r ≡ first (self_offences a)
all_selves globals found r a h k l =
    selves_then None found r (used_by_starts a.globals ++ flat_map used_by_definition a.definitions) (used_outside a a.main) (selves_then None globals found (used_by_starts a.globals) (flat_map used_by_definition a.definitions) h k) l
