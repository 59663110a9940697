-- The labels of lists of statements in memory: those that the first gives, and then those of the rest.
use Rattle.std.proofs.Common.{◌≡◌, ℕ, zero, suc, ◌+◌, ◌<◌, ◌-◌, ◌≤◌, Bool, cond, bytes_eq, Some, None, List, [], ◌∷◌, ◌++◌, length, take, drop, get_or, map, Vec, Global, refl, sym, ap, subst, ◌∙◌, append_assoc, arith}
use Rattle.std.proofs.lemmas.List.{drop_more, drop_all, take_all, length-drop, append-nil, map-append}
use Rattle.tla_tree.specs.Tree.{Word, Tree, Name}
use Rattle.tla_tree.specs.Pool.{at}
use Rattle.pcal_tree.specs.declared.mark.Mark.{Mark}
use Rattle.pcal_tree.specs.declared.algorithm.Span.{Span}
use Rattle.pcal_tree.specs.declared.algorithm.Bind.{Bind}
use Rattle.pcal_tree.specs.declared.algorithm.Simple as declared_simple
use Rattle.pcal_tree.specs.declared.algorithm.Simple.TheVariants as simple
use Rattle.pcal_tree.specs.declared.algorithm.Stmt.{Stmt}
use Rattle.pcal_tree.specs.declared.algorithm.Stmt.TheOpen.{Stmt-F}
use Rattle.pcal_tree.specs.declared.algorithm.Stmt.TheFolds.{fold-roll-Stmt, ind-Stmt, map-Stmt}
use Rattle.pcal_tree.specs.declared.algorithm.Stmt.TheViews.{roll-Stmt}
use Rattle.pcal_tree.specs.declared.algorithm.Stmt.TheVariants.{Label, Simple, If, Either, With, While}
use Rattle.pcal_tree.specs.Algorithm.{Statements, done, then, mark, branch, either, with, while}
use Rattle.pcal_tree.specs.InMemory.{span_of, simple_at, binds_at, Before, stmt_step, stmt_at, statements_at, branches_at}
use Rattle.pcal_tree.proofs.InMemoryEach.{label_at, simple_in_list_at, if_at, either_at, with_at, while_at}
use Rattle.pcal_tree.specs.Run.{unlabelled, label_of}
use Rattle.step_spots.specs.Spots.{Spot, spots_in, spots, spots_some, first_spots, spot_named}
use Rattle.step_spots.specs.declared.walk.Spot as code
use Rattle.step_spots.specs.InMemory.{spot_at, here_at, AddsSpots}

-- ---- the rest of a list

abbrev behind : Statements → Statements
behind done = done
behind (then at st rest) = rest
behind (mark l k rest) = rest

spots_first : (here : Word) (ss : Statements) (x : Word) → spots here ss x ≡ first_spots here ss x ++ spots (label_of ss x) (behind ss) x
spots_first here done x = refl
spots_first here (then at st rest) x = refl
spots_first here (mark l k rest) x = refl

behind_layer : (ts : List Tree) (y : Stmt-F Before) (rest : Statements) → behind (stmt_step ts y rest) ≡ rest
behind_layer ts (Stmt-F.Label x m) rest = refl
behind_layer ts (Stmt-F.Simple s x) rest = refl
behind_layer ts (Stmt-F.If s e a b) rest = refl
behind_layer ts (Stmt-F.Either s bs) rest = refl
behind_layer ts (Stmt-F.With s bs a) rest = refl
behind_layer ts (Stmt-F.While s e a) rest = refl

abbrev IsBefore : Stmt → Type 0
IsBefore s = (ts : List Tree) (rest : Statements) → behind (stmt_at ts s rest) ≡ rest

is_before : (s : Stmt) → IsBefore s
is_before = ind-Stmt IsBefore (λ x y is. subst (λ z. IsBefore (roll-Stmt z)) is (λ ts rest.
    let z = map-Stmt _ Stmt (λ e. e.0) y in
    ap (λ (g : Before). behind (g rest)) (fold-roll-Stmt Before (stmt_step ts) z) ∙ behind_layer ts (map-Stmt Stmt Before (stmt_at ts) z) rest))

from_here : (ts : List Tree) (ss : List Stmt) (i : ℕ) (s : Stmt) → s ≡ get_or ss i s → i < length ss → statements_at ts (drop i ss) ≡ stmt_at ts s (statements_at ts (drop (i + 1) ss))
from_here ts ss i s is less = ap (statements_at ts) (drop_more ss i s less ∙ ap (λ (y : Stmt). y ∷ drop (i + 1) ss) (sym is))

rest_of : (ts : List Tree) (ss : List Stmt) (i : ℕ) → i < length ss → behind (statements_at ts (drop i ss)) ≡ statements_at ts (drop (suc i) ss)
rest_of ts [] i less = absurd (let no : ⊥ = omega (arith, less) in no)
rest_of ts (s ∷ ss) zero less = is_before s ts (statements_at ts ss)
rest_of ts (s ∷ ss) (suc i) less = rest_of ts ss i (omega (arith, less))

pub list_more : (ts : List Tree) (ss : List Stmt) (i : ℕ) → i < length ss → (here label x : Word) → label ≡ here_at ts here x ss i
    → spots (here_at ts here x ss i) (statements_at ts (drop i ss)) x ≡ first_spots label (statements_at ts (drop i ss)) x ++ spots (here_at ts here x ss (i + 1)) (statements_at ts (drop (i + 1) ss)) x
list_more ts ss i less here label x e =
    let next : suc i ≡ i + 1 = omega arith in
    let rest : behind (statements_at ts (drop i ss)) ≡ statements_at ts (drop (i + 1) ss) = rest_of ts ss i less ∙ ap (λ (j : ℕ). statements_at ts (drop j ss)) next in
    spots_first (here_at ts here x ss i) (statements_at ts (drop i ss)) x ∙ (λ j. first_spots (sym e j) (statements_at ts (drop i ss)) x ++ spots (here_at ts here x ss (next j)) (rest j) x)

-- a slice to the end
pub slice_rest : {X : Type 0} (xs : List X) (k : ℕ) → take (length xs - k) (drop k xs) ≡ drop k xs
slice_rest xs k = (let h = length-drop k xs in take_all (length xs - k) (drop k xs) (omega (arith, h)))

pub label_before : (ts : List Tree) (here x : Word) (ss : List Stmt) (n : ℕ) → 0 < n → label_of (statements_at ts (take (length ss - (n - 1)) (drop (n - 1) ss))) x ≡ here_at ts here x ss n
label_before ts here x ss n h =
    let back : suc (n - 1) ≡ n = omega (arith, h) in
    ap (λ (zs : List Stmt). label_of (statements_at ts zs) x) (slice_rest ss (n - 1)) ∙ ap (here_at ts here x ss) back

-- ---- each kind of statement

no_spots : (ts : List Tree) (here : Word) (y : declared_simple.Simple) (x : Word) → spots_in here (simple_at ts y) x ≡ []
no_spots ts here (simple.Assign ms) x = refl
no_spots ts here (simple.Await e) x = refl
no_spots ts here (simple.Print e) x = refl
no_spots ts here (simple.Assert e) x = refl
no_spots ts here simple.Skip x = refl
no_spots ts here (simple.Goto l) x = refl
no_spots ts here (simple.Macro m es) x = refl
no_spots ts here (simple.Call p es) x = refl
no_spots ts here simple.Return x = refl

module _ (ts : List Tree) (ss : List Stmt) (i : ℕ) (s : Stmt) (is : s ≡ get_or ss i s) (less : i < length ss) (here x : Word) where
  abbrev next : Word
  next = label_of (statements_at ts (drop (i + 1) ss)) x

  abbrev These : List Spot → Type 0
  These zs = first_spots here (statements_at ts (drop i ss)) x ≡ zs

  kind : (g : Before) → stmt_at ts s ≡ g → These (first_spots here (g (statements_at ts (drop (i + 1) ss))) x)
  kind g e = ap (λ (z : Statements). first_spots here z x) (from_here ts ss i s is less ∙ ap (λ (k : Before). k (statements_at ts (drop (i + 1) ss))) e)

  pub label_spots : (y : Name) (m : Mark) → s ≡ Label y m → These (record { name = y; begins = record { items = statements_at ts (drop (i + 1) ss); exit = x } } ∷ [])
  label_spots y m e = kind (mark y m) (ap (stmt_at ts) e ∙ label_at ts y m)

  pub simple_spots : (p : Span) (y : declared_simple.Simple) → s ≡ Simple p y → These []
  simple_spots p y e = kind (then (span_of p) (simple_at ts y)) (ap (stmt_at ts) e ∙ simple_in_list_at ts p y) ∙ no_spots ts here y next

  pub if_spots : (p : Span) (e : ℕ) (a b : Vec Stmt Global) → s ≡ If p e a b → These (spots unlabelled (statements_at ts a.items) next ++ spots unlabelled (statements_at ts b.items) next)
  if_spots p e a b q = kind (then (span_of p) (branch (at ts e) (statements_at ts a.items) (statements_at ts b.items))) (ap (stmt_at ts) q ∙ if_at ts p e a b)

  pub either_spots : (p : Span) (bs : Vec (Vec Stmt Global) Global) → s ≡ Either p bs → These (spots_some (branches_at ts bs.items) next)
  either_spots p bs q = kind (then (span_of p) (either (branches_at ts bs.items))) (ap (stmt_at ts) q ∙ either_at ts p bs)

  pub with_spots : (p : Span) (bs : Vec Bind Global) (b : Vec Stmt Global) → s ≡ With p bs b → These (spots unlabelled (statements_at ts b.items) next)
  with_spots p bs b q = kind (then (span_of p) (with (binds_at ts bs.items) (statements_at ts b.items))) (ap (stmt_at ts) q ∙ with_at ts p bs b)

  pub while_spots : (p : Span) (e : ℕ) (b : Vec Stmt Global) → s ≡ While p e b → These (spots unlabelled (statements_at ts b.items) here)
  while_spots p e b q = kind (then (span_of p) (while (at ts e) (statements_at ts b.items))) (ap (stmt_at ts) q ∙ while_at ts p e b)

-- ---- lists and branches that are gone through

pub list_all : (ts : List Tree) (ss : List Stmt) (i : ℕ) (here x : Word) → length ss ≤ i → spots here (statements_at ts (drop i ss)) x ≡ []
list_all ts ss i here x le = ap (λ (zs : List Stmt). spots here (statements_at ts zs) x) (drop_all i ss le)

pub branch_more : (ts : List Tree) (bs : List (Vec Stmt Global)) (i : ℕ) (b : Vec Stmt Global) → b ≡ get_or bs i b → i < length bs
    → (x : Word) → spots_some (branches_at ts (drop i bs)) x ≡ spots unlabelled (statements_at ts b.items) x ++ spots_some (branches_at ts (drop (i + 1) bs)) x
branch_more ts bs i b is less x =
    ap (λ (ys : List (Vec Stmt Global)). spots_some (branches_at ts ys) x) (drop_more bs i b less ∙ ap (λ (y : Vec Stmt Global). y ∷ drop (i + 1) bs) (sym is))

pub branch_all : (ts : List Tree) (bs : List (Vec Stmt Global)) (i : ℕ) (x : Word) → length bs ≤ i → spots_some (branches_at ts (drop i bs)) x ≡ []
branch_all ts bs i x le = ap (λ (ys : List (Vec Stmt Global)). spots_some (branches_at ts ys) x) (drop_all i bs le)

-- ---- what was added

pub adds_none : (ts : List Tree) (out : List code.Spot) (ss : List Spot) → ss ≡ [] → AddsSpots ts out out ss
adds_none ts out ss e = sym (append-nil (map (spot_at ts) out)) ∙ ap (λ (zs : List Spot). map (spot_at ts) out ++ zs) (sym e)

pub adds_one : (ts : List Tree) (out new : List code.Spot) (s : code.Spot) (ss : List Spot) → new ≡ out ++ s ∷ [] → ss ≡ spot_at ts s ∷ [] → AddsSpots ts out new ss
adds_one ts out new s ss n e =
    ap (map (spot_at ts)) n ∙ map-append (spot_at ts) out (s ∷ []) ∙ ap (λ (zs : List Spot). map (spot_at ts) out ++ zs) (sym e)

pub adds_then : (ts : List Tree) (a b c : List code.Spot) (ss us : List Spot) → AddsSpots ts a b ss → AddsSpots ts b c us → AddsSpots ts a c (ss ++ us)
adds_then ts a b c ss us h k = k ∙ ap (λ (zs : List Spot). zs ++ us) h ∙ append_assoc (map (spot_at ts) a) ss us

-- some more of those that are left
pub left_then : (ts : List Tree) (first out more : List code.Spot) (these now left all : List Spot) → now ≡ these ++ left → AddsSpots ts out more these
    → map (spot_at ts) out ++ now ≡ map (spot_at ts) first ++ all → map (spot_at ts) more ++ left ≡ map (spot_at ts) first ++ all
left_then ts first out more these now left all e h k =
    ap (λ (zs : List Spot). zs ++ left) h ∙ append_assoc (map (spot_at ts) out) these left ∙ ap (λ (zs : List Spot). map (spot_at ts) out ++ zs) (sym e) ∙ k

-- ---- a label that is looked for

pub spot_here : (ts : List Tree) (ss : List code.Spot) (i : ℕ) (s : code.Spot) → s ≡ get_or ss i s → i < length ss → (l : Word) (b : Bool) → b ≡ bytes_eq l s.label.now.word
    → spot_named (map (spot_at ts) (drop i ss)) l ≡ cond b (Some (spot_at ts s)) (spot_named (map (spot_at ts) (drop (i + 1) ss)) l)
spot_here ts ss i s is less l b e =
    ap (λ (zs : List code.Spot). spot_named (map (spot_at ts) zs) l) (drop_more ss i s less ∙ ap (λ (y : code.Spot). y ∷ drop (i + 1) ss) (sym is))
    ∙ ap (λ (t : Bool). cond t (Some (spot_at ts s)) (spot_named (map (spot_at ts) (drop (i + 1) ss)) l)) (sym e)

pub no_spot : (ts : List Tree) (ss : List code.Spot) (i : ℕ) (l : Word) → length ss ≤ i → spot_named (map (spot_at ts) (drop i ss)) l ≡ None
no_spot ts ss i l le = ap (λ (zs : List code.Spot). spot_named (map (spot_at ts) zs) l) (drop_all i ss le)
