-- What is bound in statements with their macro calls written out is bound in their text, or in that of a macro.
use Rattle.std.proofs.Common.{◌≡◌, List, [], ◌∷◌, ◌++◌, Bool, true, false, ◌||◌, cond, bytes_eq, reverse, Option, Some, None, refl, ◌∙◌, ap}
use Rattle.std.specs.List.{list_any}
use Rattle.std.proofs.lemmas.Bool.{or_parts}
use Rattle.std.proofs.lemmas.List.{reverse-append}
use Rattle.std.proofs.lemmas.List.Folds.{list_any-append}
use Rattle.tla_token.specs.declared.place.Place.{Place}
use Rattle.tla_tree.specs.Tree.{Word, Name, name, binding, local, Tree, node, Trees, no_trees, tree, Graft, grafted_name, graft, grafts}
use Rattle.pcal_tree.specs.Algorithm.{Span, Assignments, no_assignments, assignment, Binds, no_binds, one_of, is, Statement, assign, await, print, assert, skip, branch, either, with, while, goto, macro, call, return, Statements, done, then, mark, Branches, no_branches, or, Macro, Procedure, Main, alone, processes, Algorithm}
use Rattle.pcal_tree.specs.BoundNames.{Lists, all_of, lists_in, lists_in_all, lists_in_assignments, names_of_binds, lists_in_binds, lists_in_one, lists_in_body, lists_in_branches}
use Rattle.pcal_tree.specs.Expand.{placed_at, graft_left, graft_assignments, graft_binds, graft_one, graft_all, graft_some, followed_by, Writing, expand_one, expand, expand_some, written_out}
use Rattle.pcal_tree.specs.Run.{arguments}
use Rattle.pcal_tree.specs.Variables.{declared}
use Rattle.pcal_tree.specs.laws.BoundDefinitions.{has_one, lists_have_one, may_be_stale, rebinds_in, rebinds_in_main, rebinds_definitions, bound_in_text, bound_in_main, binds_definitions}
use Rattle.pcal_tree.proofs.SetLaws.{neither, none_of_both, none_together}

-- ---- trees put in

-- nothing of the kind is bound there
abbrev Bare : (Word → Bool) → Lists → Type 0
Bare D xss = lists_have_one D xss ≡ false

apart : (D : Word → Bool) (xss yss : Lists) → Bare D (xss ++ yss) → Bare D xss × Bare D yss
apart D = none_of_both (has_one D)

together : (D : Word → Bool) (xss yss : Lists) → Bare D xss → Bare D yss → Bare D (xss ++ yss)
together D = none_together (has_one D)

abbrev BareSome : (Word → Bool) → Option Tree → Type 0
BareSome D (Some t) = Bare D (lists_in t)
BareSome D None = Unit {0}

abbrev BareGraft : (Word → Bool) → Graft → Type 0
BareGraft D g = (x : Word) (at : Place) → BareSome D (g x at)

arguments_bare : (D : Word → Bool) (ps : List Name) (ts : Trees) → Bare D (lists_in_all ts) → BareGraft D (arguments ps ts)
arguments_bare D [] ts e x at = tt
arguments_bare D (p ∷ ps) no_trees e x at = tt
arguments_bare D (p ∷ ps) (tree t ts) e x at = by (bytes_eq p.word x) (arguments ps ts x at) (arguments_bare D ps ts (apart D (lists_in t) (lists_in_all ts) e).1 x at)
  where
    by : (b : Bool) (o : Option Tree) → BareSome D o → BareSome D (cond b (Some t) o)
    by true o h = (apart D (lists_in t) (lists_in_all ts) e).0
    by false o h = h

name_bare : (D : Word → Bool) (o : Option Tree) (x : Word) (at : Place) (us : Trees) → BareSome D o → Bare D (lists_in_all us) → Bare D (lists_in (grafted_name o (name x) at us))
name_bare D (Some t) x at us h e = h
name_bare D None x at us h e = e

mutual
  graft_bare : (D : Word → Bool) (g : Graft) → BareGraft D g → (t : Tree) → Bare D (lists_in t) → Bare D (lists_in (graft g t))
  graft_bare D g h (node (name x) at us) e = name_bare D (g x at) x at (grafts g us) (h x at) (grafts_bare D g h us e)
  graft_bare D g h (node (binding b gs) at us) e =
      let k = or_parts (has_one D (all_of gs)) (lists_have_one D (lists_in_all us)) e in neither k.0 (grafts_bare D g h us k.1)
  graft_bare D g h (node (local ns) at us) e =
      let k = or_parts (has_one D ns) (lists_have_one D (lists_in_all us)) e in neither k.0 (grafts_bare D g h us k.1)
  graft_bare D g h (node m at us) e = grafts_bare D g h us e

  grafts_bare : (D : Word → Bool) (g : Graft) → BareGraft D g → (us : Trees) → Bare D (lists_in_all us) → Bare D (lists_in_all (grafts g us))
  grafts_bare D g h no_trees e = refl
  grafts_bare D g h (tree t us) e =
      let k = apart D (lists_in t) (lists_in_all us) e in
      together D (lists_in (graft g t)) (lists_in_all (grafts g us)) (graft_bare D g h t k.0) (grafts_bare D g h us k.1)

placed_bare : (D : Word → Bool) (at : Place) (t : Tree) → Bare D (lists_in t) → Bare D (lists_in (placed_at at t))
placed_bare D at (node m p ts) e = e

left_bare : (D : Word → Bool) (g : Graft) → BareGraft D g → (l : Tree) → Bare D (lists_in l) → Bare D (lists_in (graft_left g l))
left_bare D g h (node m at ts) e = placed_bare D at (graft g (node m at ts)) (graft_bare D g h (node m at ts) e)

assignments_bare : (D : Word → Bool) (g : Graft) → BareGraft D g → (ms : Assignments) → Bare D (lists_in_assignments ms) → Bare D (lists_in_assignments (graft_assignments g ms))
assignments_bare D g h no_assignments e = refl
assignments_bare D g h (assignment l r ms) e =
    let j = apart D (lists_in l) (lists_in r ++ lists_in_assignments ms) e in
    let k = apart D (lists_in r) (lists_in_assignments ms) j.1 in
    let rest = lists_in_assignments (graft_assignments g ms) in
    together D (lists_in (graft_left g l)) (lists_in (graft g r) ++ rest) (left_bare D g h l j.0)
    (together D (lists_in (graft g r)) rest (graft_bare D g h r k.0) (assignments_bare D g h ms k.1))

binds_bare : (D : Word → Bool) (g : Graft) → BareGraft D g → (bs : Binds) → Bare D (lists_in_binds bs) → Bare D (lists_in_binds (graft_binds g bs))
binds_bare D g h no_binds e = refl
binds_bare D g h (one_of x r bs) e =
    let k = apart D (lists_in r) (lists_in_binds bs) e in
    together D (lists_in (graft g r)) (lists_in_binds (graft_binds g bs)) (graft_bare D g h r k.0) (binds_bare D g h bs k.1)
binds_bare D g h (is x r bs) e =
    let k = apart D (lists_in r) (lists_in_binds bs) e in
    together D (lists_in (graft g r)) (lists_in_binds (graft_binds g bs)) (graft_bare D g h r k.0) (binds_bare D g h bs k.1)

names_kept : (D : Word → Bool) (g : Graft) (bs : Binds) → has_one D (names_of_binds (graft_binds g bs)) ≡ has_one D (names_of_binds bs)
names_kept D g no_binds = refl
names_kept D g (one_of x r bs) = λ i. D x.word || names_kept D g bs i
names_kept D g (is x r bs) = λ i. D x.word || names_kept D g bs i

mutual
  one_bare : (D : Word → Bool) (g : Graft) → BareGraft D g → (st : Statement) → Bare D (lists_in_one st) → Bare D (lists_in_one (graft_one g st))
  one_bare D g h (assign ms) e = assignments_bare D g h ms e
  one_bare D g h (await r) e = graft_bare D g h r e
  one_bare D g h (print r) e = graft_bare D g h r e
  one_bare D g h (assert r) e = graft_bare D g h r e
  one_bare D g h skip e = refl
  one_bare D g h (branch r a b) e =
      let j = apart D (lists_in r) (lists_in_body a ++ lists_in_body b) e in
      let k = apart D (lists_in_body a) (lists_in_body b) j.1 in
      let A = lists_in_body (graft_all g a) in
      let B = lists_in_body (graft_all g b) in
      together D (lists_in (graft g r)) (A ++ B) (graft_bare D g h r j.0) (together D A B (body_bare D g h a k.0) (body_bare D g h b k.1))
  one_bare D g h (either bs) e = branches_bare D g h bs e
  one_bare D g h (with bs b) e =
      let j = or_parts (has_one D (names_of_binds bs)) (lists_have_one D (lists_in_binds bs ++ lists_in_body b)) e in
      let k = apart D (lists_in_binds bs) (lists_in_body b) j.1 in
      neither (names_kept D g bs ∙ j.0) (together D (lists_in_binds (graft_binds g bs)) (lists_in_body (graft_all g b)) (binds_bare D g h bs k.0) (body_bare D g h b k.1))
  one_bare D g h (while r b) e =
      let k = apart D (lists_in r) (lists_in_body b) e in
      together D (lists_in (graft g r)) (lists_in_body (graft_all g b)) (graft_bare D g h r k.0) (body_bare D g h b k.1)
  one_bare D g h (goto l) e = refl
  one_bare D g h (macro m ts) e = grafts_bare D g h ts e
  one_bare D g h (call q ts) e = grafts_bare D g h ts e
  one_bare D g h return e = refl

  body_bare : (D : Word → Bool) (g : Graft) → BareGraft D g → (b : Statements) → Bare D (lists_in_body b) → Bare D (lists_in_body (graft_all g b))
  body_bare D g h done e = refl
  body_bare D g h (then at st rest) e =
      let k = apart D (lists_in_one st) (lists_in_body rest) e in
      together D (lists_in_one (graft_one g st)) (lists_in_body (graft_all g rest)) (one_bare D g h st k.0) (body_bare D g h rest k.1)
  body_bare D g h (mark l k rest) e = body_bare D g h rest e

  branches_bare : (D : Word → Bool) (g : Graft) → BareGraft D g → (bs : Branches) → Bare D (lists_in_branches bs) → Bare D (lists_in_branches (graft_some g bs))
  branches_bare D g h no_branches e = refl
  branches_bare D g h (or b bs) e =
      let k = apart D (lists_in_body b) (lists_in_branches bs) e in
      together D (lists_in_body (graft_all g b)) (lists_in_branches (graft_some g bs)) (body_bare D g h b k.0) (branches_bare D g h bs k.1)

-- ---- macro calls written out

joined_bare : (D : Word → Bool) (a b : Statements) → Bare D (lists_in_body a) → Bare D (lists_in_body b) → Bare D (lists_in_body (followed_by a b))
joined_bare D done b e f = f
joined_bare D (then at st a) b e f =
    let k = apart D (lists_in_one st) (lists_in_body a) e in together D (lists_in_one st) (lists_in_body (followed_by a b)) k.0 (joined_bare D a b k.1 f)
joined_bare D (mark l k a) b e f = joined_bare D a b e f

-- what is written for calls binds nothing of the kind where their arguments don't
abbrev BareCalls : (Word → Bool) → Writing → Type 0
BareCalls D W = (at : Span) (m : Word) (ts : Trees) → Bare D (lists_in_all ts) → Bare D (lists_in_body (W at m ts))

mutual
  one_written : (D : Word → Bool) (W : Writing) → BareCalls D W → (at : Span) (st : Statement) (rest : Statements) → Bare D (lists_in_one st) → Bare D (lists_in_body rest)
      → Bare D (lists_in_body (expand_one W at st rest))
  one_written D W c at (assign ms) rest e f = together D (lists_in_assignments ms) (lists_in_body rest) e f
  one_written D W c at (await r) rest e f = together D (lists_in r) (lists_in_body rest) e f
  one_written D W c at (print r) rest e f = together D (lists_in r) (lists_in_body rest) e f
  one_written D W c at (assert r) rest e f = together D (lists_in r) (lists_in_body rest) e f
  one_written D W c at skip rest e f = f
  one_written D W c at (branch r a b) rest e f =
      let j = apart D (lists_in r) (lists_in_body a ++ lists_in_body b) e in
      let k = apart D (lists_in_body a) (lists_in_body b) j.1 in
      let A = lists_in_body (expand W a) in
      let B = lists_in_body (expand W b) in
      together D (lists_in r ++ (A ++ B)) (lists_in_body rest) (together D (lists_in r) (A ++ B) j.0 (together D A B (body_written D W c a k.0) (body_written D W c b k.1))) f
  one_written D W c at (either bs) rest e f = together D (lists_in_branches (expand_some W bs)) (lists_in_body rest) (branches_written D W c bs e) f
  one_written D W c at (with bs b) rest e f =
      let j = or_parts (has_one D (names_of_binds bs)) (lists_have_one D (lists_in_binds bs ++ lists_in_body b)) e in
      let k = apart D (lists_in_binds bs) (lists_in_body b) j.1 in
      let B = lists_in_body (expand W b) in
      together D (names_of_binds bs ∷ (lists_in_binds bs ++ B)) (lists_in_body rest) (neither j.0 (together D (lists_in_binds bs) B k.0 (body_written D W c b k.1))) f
  one_written D W c at (while r b) rest e f =
      let k = apart D (lists_in r) (lists_in_body b) e in
      let B = lists_in_body (expand W b) in
      together D (lists_in r ++ B) (lists_in_body rest) (together D (lists_in r) B k.0 (body_written D W c b k.1)) f
  one_written D W c at (goto l) rest e f = f
  one_written D W c at (macro m ts) rest e f = joined_bare D (W at m ts) rest (c at m ts e) f
  one_written D W c at (call q ts) rest e f = together D (lists_in_all ts) (lists_in_body rest) e f
  one_written D W c at return rest e f = f

  body_written : (D : Word → Bool) (W : Writing) → BareCalls D W → (b : Statements) → Bare D (lists_in_body b) → Bare D (lists_in_body (expand W b))
  body_written D W c done e = refl
  body_written D W c (then at st rest) e =
      let k = apart D (lists_in_one st) (lists_in_body rest) e in one_written D W c at st (expand W rest) k.0 (body_written D W c rest k.1)
  body_written D W c (mark l k rest) e = body_written D W c rest e

  branches_written : (D : Word → Bool) (W : Writing) → BareCalls D W → (bs : Branches) → Bare D (lists_in_branches bs) → Bare D (lists_in_branches (expand_some W bs))
  branches_written D W c no_branches e = refl
  branches_written D W c (or b bs) e =
      let k = apart D (lists_in_body b) (lists_in_branches bs) e in
      together D (lists_in_body (expand W b)) (lists_in_branches (expand_some W bs)) (body_written D W c b k.0) (branches_written D W c bs k.1)

-- what is bound in the text of a macro
abbrev pub bound_in_macro : (Word → Bool) → Macro → Bool
bound_in_macro D d = bound_in_text D [] d.body

calls_bare : (D : Word → Bool) (ms : List Macro) → list_any (bound_in_macro D) ms ≡ false → BareCalls D (written_out ms)
calls_bare D [] e at m ts f = refl
calls_bare D (d ∷ older) e at m ts f =
    let k = or_parts (bound_in_macro D d) (list_any (bound_in_macro D) older) e in
    by (calls_bare D older k.1) k.0 (bytes_eq d.name.word m)
  where
    by : BareCalls D (written_out older) → bound_in_macro D d ≡ false → (b : Bool)
        → Bare D (lists_in_body (cond b (graft_all (arguments d.params ts) (expand (written_out older) d.body)) (written_out older at m ts)))
    by c h true = body_bare D (arguments d.params ts) (arguments_bare D d.params ts f) (expand (written_out older) d.body) (body_written D (written_out older) c d.body h)
    by c h false = c at m ts f

-- ---- algorithms

pub any_reversed : {X : Type 0} (f : X → Bool) (xs : List X) → list_any f (reverse xs) ≡ list_any f xs
any_reversed f [] = refl
any_reversed f (x ∷ xs) =
    ap (list_any f) (reverse-append (x ∷ []) xs) ∙ list_any-append f (reverse xs) (x ∷ [])
    ∙ (λ i. any_reversed f xs i || (f x || false)) ∙ turned (list_any f xs) (f x)
  where
    turned : (a b : Bool) → (a || (b || false)) ≡ (b || a)
    turned true true = refl
    turned true false = refl
    turned false true = refl
    turned false false = refl

each_false : {X : Type 0} (f g : X → Bool) → ((x : X) → f x ≡ false → g x ≡ false) → (xs : List X) → list_any f xs ≡ false → list_any g xs ≡ false
each_false f g h [] e = refl
each_false f g h (x ∷ xs) e = let k = or_parts (f x) (list_any f xs) e in neither (h x k.0) (each_false f g h xs k.1)

text_written : (a : Algorithm) → list_any (bound_in_macro (may_be_stale a)) a.macros ≡ false → (xs : List Word) (b : Statements)
    → bound_in_text (may_be_stale a) xs b ≡ false → rebinds_in a xs b ≡ false
text_written a e xs b f =
    let D = may_be_stale a in
    let k = or_parts (list_any D xs) (lists_have_one D (lists_in_body b)) f in
    neither k.0 (body_written D (written_out (reverse a.macros)) (calls_bare D (reverse a.macros) (any_reversed (bound_in_macro D) a.macros ∙ e)) b k.1)

main_written : (a : Algorithm) → list_any (bound_in_macro (may_be_stale a)) a.macros ≡ false → (m : Main)
    → bound_in_main (may_be_stale a) m ≡ false → rebinds_in_main a m ≡ false
main_written a e (alone b) f = text_written a e [] b f
main_written a e (processes ps) f =
    each_false (λ p. bound_in_text (may_be_stale a) (declared p.variables) p.body) (λ p. rebinds_in a (declared p.variables) p.body)
    (λ p. text_written a e (declared p.variables) p.body) ps f

pub unbound_written_out : (a : Algorithm) → binds_definitions a ≡ false → rebinds_definitions a ≡ false
unbound_written_out a e =
    let D = may_be_stale a in
    let here : Procedure → Bool = λ p. bound_in_text D (declared (p.params ++ p.variables)) p.body in
    let j = or_parts (list_any (bound_in_macro D) a.macros) (list_any here a.procedures || bound_in_main D a.main) e in
    let k = or_parts (list_any here a.procedures) (bound_in_main D a.main) j.1 in
    neither (each_false here (λ p. rebinds_in a (declared (p.params ++ p.variables)) p.body) (λ p. text_written a j.0 (declared (p.params ++ p.variables)) p.body) a.procedures k.0)
    (main_written a j.0 a.main k.1)
