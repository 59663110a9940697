-- Macro calls that can be written out, and one that can't, tried by computation.
use Rattle.std.proofs.Common.{◌≡◌, [], ◌∷◌, Bool, true, false, cond, bytes_eq, codes, Some, None, refl, inl}
use Rattle.tla_tree.specs.declared.op.Op.TheVariants.{Equal}
use Rattle.tla_tree.specs.declared.op.Binder.TheVariants.{Exists}
use Rattle.tla_tree.specs.Tree.{Word, set_of, conjunction, binding, strict, Tree, node, no_trees, tree}
use Rattle.tla_value.specs.laws.Grafting.{Apart, NotFreeIn}
use Rattle.pcal_tree.specs.Algorithm.{Statement, await, macro, Statements, done, Macro, alone_routine}
use Rattle.pcal_tree.specs.Run.{arguments}
use Rattle.pcal_tree.specs.Program.{Program, Actor, routine_scope}
use Rattle.pcal_tree.specs.laws.Expansion.{FineCall, AnyPlace}
use Rattle.pcal_tree.proofs.Sample.{at, title, num, var, over, and_next}

abbrev i : Word
i = codes "i"

abbrev p : Word
p = codes "p"

-- \E i \in {n} : e
abbrev some_member : Tree → Tree → Tree
some_member n e = node (binding Exists ((title i ∷ []) ∷ [])) (at 1) (tree (node (strict set_of) (at 1) (tree n no_trees)) (tree e no_trees))

abbrev await_macro : Tree → Macro
await_macro e = record { name = title (codes "N"); params = title p ∷ []; body = and_next (await e) done }

-- macro N(p) begin await (\E i \in {1} : i = 1) /\ p; end macro, called as N(\E i \in {2} : i = 2)
abbrev both : Macro
both = await_macro (node conjunction (at 1) (tree (some_member (num 1) (over Equal (var i) (num 1))) (tree (var p) no_trees)))

abbrev own_i : Tree
own_i = some_member (num 2) (over Equal (var i) (num 2))

-- the i of the argument is its own, so it isn't free there
own_not_free : (c : Bool) → NotFreeIn i (cond c (Some own_i) None)
own_not_free true = (tt, ((tt, ((tt, tt), tt)), ((tt, ((inl refl, tt), ((tt, tt), tt))), tt)))
own_not_free false = tt

i_is_apart : Apart (arguments (title p ∷ []) (tree own_i no_trees)) i
i_is_apart = record { left = λ at. refl; unread = λ y at. own_not_free (bytes_eq p y) }

call_is_fine : FineCall (both ∷ []) (codes "N") (tree own_i no_trees)
call_is_fine =
    (((tt, ((((i_is_apart, tt)), ((tt, ((tt, tt), tt)), ((tt, ((tt, tt), ((tt, tt), tt))), tt))), ((tt, tt), tt))), tt), (tt, tt), tt, (tt, tt))

-- macro N(p) begin await \E i \in {1} : p; end macro, called as N(i = 2): the i of the call would be captured
abbrev capturing : Macro
capturing = await_macro (some_member (num 1) (var p))

abbrev other_i : Tree
other_i = over Equal (var i) (num 2)

capture_is_refused : FineCall (capturing ∷ []) (codes "N") (tree other_i no_trees) → ⊥
capture_is_refused h = apart ((h.0.0.0.0).unread p (at 1)).1.0.0
  where
    apart : true ≡ false → ⊥
    apart e = cc

-- what a process's statements are in looks at no places
scopes_look_at_no_place : (P : Program) (v : Actor) (u : Rattle.pcal_tree.specs.Algorithm.Routine) → AnyPlace (routine_scope P v u)
scopes_look_at_no_place P v u x at p s = refl
