-- Assignments one after another, as they are written: row by row, and with what stands for `self` and for the old stack.
use Rattle.std.proofs.Common.{◌≡◌, ℕ, zero, suc, ◌+◌, ◌<◌, ◌≤◌, List, [], ◌∷◌, ◌++◌, append-nil, length, get_or, take, Vec, Global, Option, Some, None, refl, sym, ap, subst, ◌∙◌, arith}
use Rattle.std.proofs.lemmas.List.{map_push, take_more}
use Rattle.std.specs.Option.{option_map}
use Rattle.tla_token.specs.Signs.{is_among}
use Rattle.tla_token.specs.Places.{nowhere}
use Rattle.tla_tree.specs.Tree.{Word, Tree, Graft}
use Rattle.tla_tree.specs.Pool.{at, Keeps}
use Rattle.module_tree.specs.Module.{Items}
use Rattle.module_tree.specs.Formulas.{self}
use Rattle.module_write.specs.declared.«module».Item.{Item}
use Rattle.module_write.specs.InMemory.{items_at, MaybeIn, past_items}
use Rattle.pcal_tree.specs.declared.algorithm.Assignment.{Assignment}
use Rattle.pcal_tree.specs.Algorithm.{Assignments, no_binds, is, assign, with, Statements, done, then, Routine}
use Rattle.pcal_tree.specs.Expand.{followed_by, graft_assignments, graft_all}
use Rattle.pcal_tree.specs.declared.algorithm.Procedure.{Procedure}
use Rattle.pcal_tree.specs.InMemory.{assignments_at, procedure_at, past_procedure}
use Rattle.pcal_tree.proofs.InMemoryGrown.{declarations_at-kept, statements_at-kept}
use Rattle.pcal_tree.specs.Program.{Program}
use Rattle.pcal_tree.specs.Variables.{vars}
use Rattle.name_bits.specs.declared.bits.Bits.{Bits}
use Rattle.name_bits.specs.NamesIn.{names_in}
use Rattle.action_builder.specs.Assigned.{Names, assigned_in}
use Rattle.action_builder.specs.Jumps.{spot}
use Rattle.action_builder.specs.Written.{old_stack, onto, primed, write}
use Rattle.action_builder.specs.laws.Ready.{LeftSides, Settled}
use Rattle.action_builder.specs.laws.InParts.{InParts}
use Rattle.step_forms.proofs.WrittenLaws.{onto_none, Unmarked}
use Rattle.proc_stack.specs.Moves.{in_order, moves_at}
use Rattle.right_sides.specs.declared.after.After.{After}
use Rattle.right_sides.specs.After.{put_items, after_items, AfterIn}
use Rattle.step_items.specs.declared.desk.Desk.{Desk}
use Rattle.step_items.specs.Desks.{DeskIn, IsDesk}
use Rattle.step_forms.specs.PartsAssigned.{AllInParts}
use Rattle.step_items.specs.Writing.{Plain, Writes}
use Rattle.right_sides.proofs.AfterLaws.{maybe_more}
use Rattle.step_items.proofs.WritesLaws.{writes_from}

-- ---- rows

pub rows_unmarked : (o : Graft) (ms : List Assignments) → Unmarked (graft_all o (in_order ms))
rows_unmarked o [] = tt
rows_unmarked o (m ∷ ms) = rows_unmarked o ms

rows_more : (o : Graft) (ms ns : List Assignments) → graft_all o (in_order (ms ++ ns)) ≡ followed_by (graft_all o (in_order ms)) (graft_all o (in_order ns))
rows_more o [] ns = refl
rows_more o (m ∷ ms) ns = ap (then (spot nowhere) (assign (graft_assignments o m))) (rows_more o ms ns)

abbrev pub row_at : List Tree → Vec Assignment Global → Assignments
row_at ts r = assignments_at ts r.items

-- one row more
pub row_next : (o : Graft) (ts : List Tree) (rows : List (Vec Assignment Global)) (i : ℕ) (row : Vec Assignment Global) → row ≡ get_or rows i row → i < length rows
    → followed_by (graft_all o (in_order (moves_at ts (take i rows)))) (then (spot nowhere) (assign (graft_assignments o (row_at ts row))) done) ≡ graft_all o (in_order (moves_at ts (take (i + 1) rows)))
row_next o ts rows i row here less =
    sym (
    ap (λ (rs : List (Vec Assignment Global)). graft_all o (in_order (moves_at ts rs))) (take_more rows i row less ∙ ap (λ (r : Vec Assignment Global). take i rows ++ r ∷ []) (sym here))
    ∙ ap (λ (ms : List Assignments). graft_all o (in_order ms)) (map_push (row_at ts) (take i rows) row)
    ∙ rows_more o (moves_at ts (take i rows)) (row_at ts row ∷ []))

-- what is asked of all is asked of each
row_fits : (V : Names) (o : Graft) (ts : List Tree) (rows : List (Vec Assignment Global)) (i : ℕ) (row : Vec Assignment Global) → Settled V (graft_all o (in_order (moves_at ts rows))) → AllInParts (graft_all o (in_order (moves_at ts rows)))
    → row ≡ get_or rows i row → i < length rows → LeftSides V (graft_assignments o (row_at ts row)) × InParts (graft_assignments o (row_at ts row))
row_fits V o ts [] i row s p here less = absurd (omega (arith, less))
row_fits V o ts (r ∷ rows) zero row s p here less = subst (λ (z : Vec Assignment Global). LeftSides V (graft_assignments o (row_at ts z)) × InParts (graft_assignments o (row_at ts z))) (sym here) (s.0, p.0)
row_fits V o ts (r ∷ rows) (suc i) row s p here less = row_fits V o ts rows i row s.1 p.1 here (omega (arith, less))

pub plain_row : (P : Program) (o : Graft) (ts : List Tree) (rows : List (Vec Assignment Global)) (i : ℕ) (row : Vec Assignment Global) → Plain P (graft_all o (in_order (moves_at ts rows)))
    → row ≡ get_or rows i row → i < length rows → LeftSides (is_among (vars P)) (graft_assignments o (row_at ts row)) × InParts (graft_assignments o (row_at ts row))
plain_row P o ts rows i row h here less = row_fits (is_among (vars P)) o ts rows i row h.settled h.parts here less

-- ---- what is put in after variables are primed

pub self_in : (m n : ℕ) (d : Desk) (a : After) → a.old ≡ None → a.single ≡ d.single → m ≤ n → DeskIn m d → AfterIn n a
self_in m n d a none single le h = record { old = subst (MaybeIn n) (sym none) tt; single = subst (MaybeIn n) (sym single) (maybe_more m n d.single le h.single) }

-- for `self` alone
self_after : (ts : List Tree) (d : Desk) (P : Program) (u : Routine) (x : Option Tree) (a : After) → IsDesk ts d P u x → a.old ≡ None → a.single ≡ d.single → after_items ts a ≡ put_items self x
self_after ts d P u x a h none single = λ j is. put_items self ((ap (option_map (at ts)) single ∙ h.single) j) (put_items old_stack (option_map (at ts) (none j)) is)

pub writes_self : (P : Program) (u : Routine) (x : Option Tree) (ts us vs : List Tree) (d : Desk) (a : After) (before after : List Item) (earlier assigned : Bits) (S T : Statements)
    → Keeps ts us → past_items before ≤ length ts → IsDesk us d P u x → a.old ≡ None → a.single ≡ d.single → S ≡ T
    → Writes P (after_items us a) us vs before after earlier assigned S → Writes P (put_items self x) ts vs before after earlier assigned T
writes_self P u x ts us vs d a before after earlier assigned S T k b h none single e w =
    writes_from P (put_items self x) ts us vs before after earlier assigned T k b
    (subst (Writes P (put_items self x) us vs before after earlier assigned) e (subst (λ (g : Items → Items). Writes P g us vs before after earlier assigned S) (self_after us d P u x a h none single) w))

-- for the old stack too: `e` is the stack by its name
abbrev pub kept_stack : Tree → Statements → Statements
kept_stack e b = then (spot nowhere) (with (is (record { word = old_stack; place = nowhere }) e no_binds) b) done

old_after : (ts : List Tree) (d : Desk) (P : Program) (u : Routine) (x : Option Tree) (a : After) (n : ℕ) (t : Tree) → IsDesk ts d P u x → a.old ≡ Some n → at ts n ≡ t → a.single ≡ d.single
    → after_items ts a ≡ (λ is. put_items self x (put_items old_stack (Some t) is))
old_after ts d P u x a n t h some same single = λ j is. put_items self ((ap (option_map (at ts)) single ∙ h.single) j) (put_items old_stack ((ap (option_map (at ts)) some ∙ ap Some same) j) is)

pub writes_old : (P : Program) (u : Routine) (x : Option Tree) (ts us vs : List Tree) (d : Desk) (a : After) (n : ℕ) (e : Tree) (before after : List Item) (earlier assigned : Bits) (S T : Statements)
    → Keeps ts us → past_items before ≤ length ts → IsDesk us d P u x → a.old ≡ Some n → at us n ≡ primed (is_among (names_in (vars P) earlier)) e → a.single ≡ d.single → S ≡ T
    → Writes P (after_items us a) us vs before after earlier assigned S → Writes P (put_items self x) ts vs before after earlier assigned (kept_stack e T)
writes_old P u x ts us vs d a n e before after earlier assigned S T k b h some same single eq w =
    let A : Names = is_among (names_in (vars P) earlier) in
    let inner : Items → Items = λ is. put_items self x (put_items old_stack (Some (primed A e)) is) in
    let v : Writes P inner ts vs before after earlier assigned T =
    writes_from P inner ts us vs before after earlier assigned T k b
    (subst (Writes P inner us vs before after earlier assigned) eq (subst (λ (g : Items → Items). Writes P g us vs before after earlier assigned S) (old_after us d P u x a n (primed A e) h some same single) w)) in
    record {
      items = v.items ∙ ap (λ is. onto (items_at ts before) (put_items self x is)) (sym (onto_none (put_items old_stack (Some (primed A e)) (write (vars P) A T))));
      names = λ y. v.names y ∙ ap (λ (xs : List Word). is_among xs y) (sym (append-nil (assigned_in T)));
    }

-- ---- a procedure in memory, as the pool grows

pub procedure_kept : (ts us : List Tree) → Keeps ts us → (p : Procedure) → past_procedure p ≤ length ts → procedure_at us p ≡ procedure_at ts p
procedure_kept ts us k p h = λ j. record {
  name = p.name;
  params = declarations_at-kept ts us k p.params.items (omega (arith, h)) j;
  variables = declarations_at-kept ts us k p.variables.items (omega (arith, h)) j;
  body = statements_at-kept ts us k p.body.items (omega (arith, h)) j;
}
