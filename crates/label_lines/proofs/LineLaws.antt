-- Where statements end, and the lines that are at one place of a list.
use Rattle.std.proofs.Common.{◌≡◌, ℕ, suc, ◌+◌, ◌<◌, ◌≤◌, List, [], ◌∷◌, ◌++◌, length, drop, get_or, map, Vec, Global, Option, refl, sym, ap, ◌∙◌, append_assoc, arith}
use Rattle.std.proofs.lemmas.List.{drop_more, drop_all, length-map}
use Rattle.tla_token.specs.declared.place.Place.{Place}
use Rattle.tla_tree.specs.Tree.{Word, Tree, Name}
use Rattle.tla_tree.specs.Pool.{at}
use Rattle.pcal_tree.specs.declared.mark.Mark.{Mark}
use Rattle.pcal_tree.specs.declared.algorithm.Span.{Span}
use Rattle.pcal_tree.specs.declared.algorithm.Bind.{Bind}
use Rattle.pcal_tree.specs.declared.algorithm.Simple as declared_simple
use Rattle.pcal_tree.specs.declared.algorithm.Simple.TheVariants as simple
use Rattle.pcal_tree.specs.declared.algorithm.Stmt.{Stmt}
use Rattle.pcal_tree.specs.declared.algorithm.Stmt.TheVariants.{Label, Simple, If, Either, With, While}
use Rattle.std.specs.List.{flat_map}
use Rattle.pcal_tree.specs.declared.algorithm.Main as code_main
use Rattle.pcal_tree.specs.declared.algorithm.Main.TheVariants as main
use Rattle.pcal_tree.specs.declared.algorithm.Algorithm as code_algorithm
use Rattle.pcal_tree.specs.Algorithm.{Statements, branch, either, with, while, then, mark, Naming, Routine, numbered, procedure_routine, procedure_routines, first_procedure, first_process}
use Rattle.pcal_tree.specs.InMemory.{span_of, simple_at, binds_at, Before, stmt_at, statements_at, branches_at, macro_at, procedure_at, main_at, algorithm_at}
use Rattle.pcal_tree.proofs.InMemoryEach.{label_at, simple_in_list_at, if_at, either_at, with_at, while_at}
use Rattle.source_map.specs.Lines.{Line, last_token, lines_inside, lines_in, lines_of_unit, lines_of_main, lines}
use Rattle.label_lines.specs.declared.line.Line as code
use Rattle.label_lines.specs.declared.walk.Unit.{Unit}
use Rattle.label_lines.specs.Ends.{ended, EndsAt}
use Rattle.label_lines.specs.Mains.{main_lines}
use Rattle.label_lines.specs.Found.{lines_seen, Adds, unit_lines, branch_lines, AddsAt}

-- ---- a list from a place on

module _ (ts : List Tree) (ss : List Stmt) (i : ℕ) (s : Stmt) (is : s ≡ get_or ss i s) (less : i < length ss) where
  pub from_here : statements_at ts (drop i ss) ≡ stmt_at ts s (statements_at ts (drop (i + 1) ss))
  from_here = ap (λ (ys : List Stmt). statements_at ts ys) (drop_more ss i s less ∙ ap (λ (y : Stmt). y ∷ drop (i + 1) ss) (sym is))

  pub ends_here : (e : Option Place) (p : Place) → EndsAt ts s e → ended e p (statements_at ts (drop (i + 1) ss)) ≡ last_token p (statements_at ts (drop i ss))
  ends_here e p h = sym (h p (statements_at ts (drop (i + 1) ss))) ∙ ap (last_token p) (sym from_here)

  -- what stands there is this kind of statement
  at_this : (f : Naming) (u : Unit) (g : Before) (these : List Line) (old new : List code.Line) → stmt_at ts s ≡ g
      → unit_lines f u (g (statements_at ts (drop (i + 1) ss))) ≡ these ++ unit_lines f u (statements_at ts (drop (i + 1) ss)) → Adds old new these → AddsAt f u ts ss i old new
  at_this f u g these old new e h a = record {
    these = these;
    ahead = ap (unit_lines f u) (from_here ∙ ap (λ (k : Before). k (statements_at ts (drop (i + 1) ss))) e) ∙ h;
    adds = a;
  }

pub all_end : (ts : List Tree) (ss : List Stmt) (i : ℕ) (p : Place) → length ss ≤ i → p ≡ last_token p (statements_at ts (drop i ss))
all_end ts ss i p h = ap (λ (ys : List Stmt). last_token p (statements_at ts ys)) (sym (drop_all i ss h))

-- ---- lines behind others

append_none : (xs : List Line) → xs ++ [] ≡ xs
append_none [] = refl
append_none (x ∷ xs) = ap (λ (ys : List Line). x ∷ ys) (append_none xs)

pub adds_none : (old : List code.Line) → Adds old old []
adds_none old = sym (append_none (lines_seen old))

pub adds_then : (old between new : List code.Line) (ls ms : List Line) → Adds old between ls → Adds between new ms → Adds old new (ls ++ ms)
adds_then old between new ls ms h k = k ∙ ap (λ (xs : List Line). xs ++ ms) h ∙ append_assoc (lines_seen old) ls ms

-- one more place of a list: what is left still gives the whole
pub left_more : (f : Naming) (u : Unit) (ts : List Tree) (ss : List Stmt) (i : ℕ) (old new : List code.Line) (all : List Line) → AddsAt f u ts ss i old new
    → lines_seen old ++ unit_lines f u (statements_at ts (drop i ss)) ≡ all → lines_seen new ++ unit_lines f u (statements_at ts (drop (i + 1) ss)) ≡ all
left_more f u ts ss i old new all a h =
    let rest = unit_lines f u (statements_at ts (drop (i + 1) ss)) in
    ap (λ (xs : List Line). xs ++ rest) a.adds ∙ append_assoc (lines_seen old) a.these rest ∙ ap (λ (xs : List Line). lines_seen old ++ xs) (sym a.ahead) ∙ h

pub left_none : (f : Naming) (u : Unit) (ts : List Tree) (ss : List Stmt) (i : ℕ) (new : List code.Line) (all : List Line) → length ss ≤ i
    → lines_seen new ++ unit_lines f u (statements_at ts (drop i ss)) ≡ all → lines_seen new ≡ all
left_none f u ts ss i new all less h =
    adds_none new ∙ ap (λ (ys : List Stmt). lines_seen new ++ unit_lines f u (statements_at ts ys)) (sym (drop_all i ss less)) ∙ h

pub branch_more : (f : Naming) (u : Unit) (ts : List Tree) (bs : List (Vec Stmt Global)) (i : ℕ) (b : Vec Stmt Global) → b ≡ get_or bs i b → i < length bs → (old new : List code.Line) (all : List Line)
    → Adds old new (unit_lines f u (statements_at ts b.items)) → lines_seen old ++ branch_lines f u (branches_at ts (drop i bs)) ≡ all → lines_seen new ++ branch_lines f u (branches_at ts (drop (i + 1) bs)) ≡ all
branch_more f u ts bs i b is less old new all a h =
    let rest = branch_lines f u (branches_at ts (drop (i + 1) bs)) in
    ap (λ (xs : List Line). xs ++ rest) a
    ∙ append_assoc (lines_seen old) (unit_lines f u (statements_at ts b.items)) rest
    ∙ ap (λ (ys : List (Vec Stmt Global)). lines_seen old ++ branch_lines f u (branches_at ts ys)) (ap (λ (y : Vec Stmt Global). y ∷ drop (i + 1) bs) is ∙ sym (drop_more bs i b less))
    ∙ h

pub branch_none : (f : Naming) (u : Unit) (ts : List Tree) (bs : List (Vec Stmt Global)) (i : ℕ) (new : List code.Line) (all : List Line) → length bs ≤ i
    → lines_seen new ++ branch_lines f u (branches_at ts (drop i bs)) ≡ all → lines_seen new ≡ all
branch_none f u ts bs i new all less h =
    adds_none new ∙ ap (λ (ys : List (Vec Stmt Global)). lines_seen new ++ branch_lines f u (branches_at ts ys)) (sym (drop_all i bs less)) ∙ h

-- ---- routines, one after another

pub unit_is : (f : Naming) (u : Unit) (n : ℕ) (b : Statements) → u.number ≡ n → u.title ≡ f.title n → unit_lines f u b ≡ lines_in (f.label n) (f.title n) b
unit_is f u n b p q = λ i. lines_in (f.label (p i)) (q i) b

module _ {X Y : Type 0} (g : Routine → List Line) (r : ℕ → Y → Routine) (to : X → Y) (xs : List X) where
  pub unit_more : (i n m : ℕ) (x : X) → x ≡ get_or xs i x → i < length xs → m ≡ n + 1 → (old new : List code.Line) (all : List Line) → Adds old new (g (r n (to x)))
      → lines_seen old ++ flat_map g (numbered r n (map to (drop i xs))) ≡ all → lines_seen new ++ flat_map g (numbered r m (map to (drop (i + 1) xs))) ≡ all
  unit_more i n m x is less e old new all a h =
      let rest = flat_map g (numbered r (suc n) (map to (drop (i + 1) xs))) in
      let next : m ≡ suc n = omega (arith, e) in
      ap (λ (k : ℕ). lines_seen new ++ flat_map g (numbered r k (map to (drop (i + 1) xs)))) next
      ∙ ap (λ (ls : List Line). ls ++ rest) a
      ∙ append_assoc (lines_seen old) (g (r n (to x))) rest
      ∙ ap (λ (ys : List X). lines_seen old ++ flat_map g (numbered r n (map to ys))) (ap (λ (y : X). y ∷ drop (i + 1) xs) is ∙ sym (drop_more xs i x less))
      ∙ h

  pub unit_none : (i n : ℕ) (new : List code.Line) (all : List Line) → length xs ≤ i → lines_seen new ++ flat_map g (numbered r n (map to (drop i xs))) ≡ all → lines_seen new ≡ all
  unit_none i n new all less h = adds_none new ∙ ap (λ (ys : List X). lines_seen new ++ flat_map g (numbered r n (map to ys))) (sym (drop_all i xs less)) ∙ h

-- ---- each kind of statement

no_lines : (named : Word → Word) (unit : Word) (ts : List Tree) (x : declared_simple.Simple) → lines_inside named unit (simple_at ts x) ≡ []
no_lines named unit ts (simple.Assign ms) = refl
no_lines named unit ts (simple.Await e) = refl
no_lines named unit ts (simple.Print e) = refl
no_lines named unit ts (simple.Assert e) = refl
no_lines named unit ts simple.Skip = refl
no_lines named unit ts (simple.Goto x) = refl
no_lines named unit ts (simple.Macro x es) = refl
no_lines named unit ts (simple.Call x es) = refl
no_lines named unit ts simple.Return = refl

module _ (f : Naming) (u : Unit) (ts : List Tree) (ss : List Stmt) (i : ℕ) (s : Stmt) (is : s ≡ get_or ss i s) (less : i < length ss) (old new : List code.Line) where
  pub label_lines : (x : Name) (m : Mark) (last : Place) → s ≡ Label x m → last ≡ last_token x.place (statements_at ts (drop (i + 1) ss))
      → Adds old new (record { label = f.label u.number x.word; unit = u.title; first = x.place; last = last } ∷ []) → AddsAt f u ts ss i old new
  label_lines x m last e h a =
      at_this ts ss i s is less f u (mark x m) _ old new (ap (stmt_at ts) e ∙ label_at ts x m)
      (ap (λ (p : Place). record { label = f.label u.number x.word; unit = u.title; first = x.place; last = p } ∷ unit_lines f u (statements_at ts (drop (i + 1) ss))) (sym h)) a

  pub simple_lines : (p : Span) (x : declared_simple.Simple) → s ≡ Simple p x → AddsAt f u ts ss i old old
  simple_lines p x e =
      at_this ts ss i s is less f u (then (span_of p) (simple_at ts x)) [] old old (ap (stmt_at ts) e ∙ simple_in_list_at ts p x)
      (ap (λ (xs : List Line). xs ++ unit_lines f u (statements_at ts (drop (i + 1) ss))) (no_lines (f.label u.number) u.title ts x)) (adds_none old)

  pub if_lines : (p : Span) (e : ℕ) (a b : Vec Stmt Global) (between : List code.Line) → s ≡ If p e a b
      → Adds old between (unit_lines f u (statements_at ts a.items)) → Adds between new (unit_lines f u (statements_at ts b.items)) → AddsAt f u ts ss i old new
  if_lines p e a b between q h k =
      at_this ts ss i s is less f u (then (span_of p) (branch (at ts e) (statements_at ts a.items) (statements_at ts b.items))) _ old new (ap (stmt_at ts) q ∙ if_at ts p e a b) refl
      (adds_then old between new (unit_lines f u (statements_at ts a.items)) (unit_lines f u (statements_at ts b.items)) h k)

  pub either_lines : (p : Span) (bs : Vec (Vec Stmt Global) Global) → s ≡ Either p bs → Adds old new (branch_lines f u (branches_at ts bs.items)) → AddsAt f u ts ss i old new
  either_lines p bs q h = at_this ts ss i s is less f u (then (span_of p) (either (branches_at ts bs.items))) _ old new (ap (stmt_at ts) q ∙ either_at ts p bs) refl h

  pub with_lines : (p : Span) (bs : Vec Bind Global) (b : Vec Stmt Global) → s ≡ With p bs b → Adds old new (unit_lines f u (statements_at ts b.items)) → AddsAt f u ts ss i old new
  with_lines p bs b q h = at_this ts ss i s is less f u (then (span_of p) (with (binds_at ts bs.items) (statements_at ts b.items))) _ old new (ap (stmt_at ts) q ∙ with_at ts p bs b) refl h

  pub while_lines : (p : Span) (e : ℕ) (b : Vec Stmt Global) → s ≡ While p e b → Adds old new (unit_lines f u (statements_at ts b.items)) → AddsAt f u ts ss i old new
  while_lines p e b q h = at_this ts ss i s is less f u (then (span_of p) (while (at ts e) (statements_at ts b.items))) _ old new (ap (stmt_at ts) q ∙ while_at ts p e b) refl h

-- ---- an algorithm

main_is : (f : Naming) (ts : List Tree) (a : code_algorithm.Algorithm) (m : code_main.Main) → main_lines f (first_process (algorithm_at ts a)) a.name.word ts m ≡ lines_of_main f (algorithm_at ts a) (main_at ts m)
main_is f ts a (main.Alone ss) = sym (append_none (lines_in (f.label (first_process (algorithm_at ts a))) a.name.word (statements_at ts ss.items)))
main_is f ts a (main.Processes ps) = refl

pub lines_are : (f : Naming) (ts : List Tree) (a : code_algorithm.Algorithm) (m n : ℕ) (between new : List code.Line) → m ≡ length a.macros.items → n ≡ m + length a.procedures.items
    → Adds [] between (flat_map (lines_of_unit f) (numbered procedure_routine m (map (procedure_at ts) a.procedures.items))) → Adds between new (main_lines f n a.name.word ts a.main) → lines_seen new ≡ lines (algorithm_at ts a) f
lines_are f ts a m n between new p q h k =
    let first : m ≡ first_procedure (algorithm_at ts a) = p ∙ sym (length-map a.macros.items (macro_at ts)) in
    let main : n ≡ first_process (algorithm_at ts a) = q ∙ (λ i. first i + sym (length-map a.procedures.items (procedure_at ts)) i) in
    adds_then [] between new _ (main_lines f n a.name.word ts a.main) h k
    ∙ (λ i. flat_map (lines_of_unit f) (numbered procedure_routine (first i) (map (procedure_at ts) a.procedures.items)) ++ main_lines f (main i) a.name.word ts a.main)
    ∙ ap (λ (ls : List Line). flat_map (lines_of_unit f) (procedure_routines (algorithm_at ts a)) ++ ls) (main_is f ts a a.main)
