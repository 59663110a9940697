-- An expression gives the same by its written names as it does as it is declared.
use Rattle.std.proofs.Common.{◌≡◌, List, Bool, true, false, cond, Some, None, refl, sym, ap, ◌∙◌}
use Rattle.tla_token.specs.declared.place.Place.{Place}
use Rattle.tla_tree.specs.Tree.{Word, name, Tree, node, Trees, no_trees, Graft, graft, root_place, grafted_name, grafts}
use Rattle.tla_value.specs.Definitions.{Definition}
use Rattle.tla_value.specs.Grafts.{owned, own_part}
use Rattle.tla_value.specs.laws.FreeNames.{Any}
use Rattle.tla_value.proofs.FreeNames.{free_names}
use Rattle.module_tree.specs.Formulas.{self}
use Rattle.pcal_tree.specs.Algorithm.{declares, Routine, locals}
use Rattle.pcal_tree.specs.Program.{Program, Actor, written}
use Rattle.pcal_tree.specs.Scope.{State}
use Rattle.pcal_tree.specs.laws.ReadNames.{Reads}
use Rattle.action_builder.specs.InitialFormulas.{written_in}
use Rattle.action_builder.specs.OwnVariables.{is_own_variable}
use Rattle.action_builder.specs.WrittenNames.{renames, renamed}
use Rattle.action_builder.specs.laws.WrittenScope.{Common, NamesApart}
use Rattle.action_builder.proofs.WrittenScope.{common_agree}
use Rattle.action_builder.proofs.WrittenStarts.{IsNamed, written_expression}
use Rattle.step_walks.specs.FirstValues.{as_declared, as_written}

pub inside_written : (P : Program) (extra : List Definition) (v : Actor) (u : Routine) → NamesApart P extra v u → (e : Tree) → IsNamed P extra u e → (s : State)
    → (as_written P extra).inside v u e s ≡ (as_declared P).inside v u e s
inside_written P extra v u k e n s = ap (λ z. z.value) (written_expression P extra v u k e n s)

-- whatever the process and routine are
pub outside_written : (P : Program) (extra : List Definition) (v : Actor) (u : Routine) → NamesApart P extra v u → (e : Tree) → Reads (Common P extra) e → (s : State)
    → (as_written P extra).outside e s ≡ (as_declared P).outside e s
outside_written P extra v u k e reads s = ap (λ z. z.value) (sym (free_names P.check (Common P extra) Any e reads _ _ (common_agree P extra v u k s)))

-- ---- its place

-- what stands for a name is at the name's place
abbrev KeepsPlaces : Graft → Type 0
KeepsPlaces g = (x : Word) (at : Place) (ts : Trees) → root_place (grafted_name (g x at) (name x) at ts) ≡ at

grafted_place : (g : Graft) → KeepsPlaces g → (e : Tree) → root_place (graft g e) ≡ root_place e
grafted_place g h (node (name x) at ts) = h x at (grafts g ts)
grafted_place g h (node m at ts) = refl

pub written_place : (P : Program) (u : Routine) (e : Tree) → root_place (written_in P u e) ≡ root_place e
written_place P u e =
    grafted_place (owned self (is_own_variable P)) (λ x at ts. owned_place x at ts (is_own_variable P x)) (renamed P u e)
    ∙ grafted_place (renames P u) (λ x at ts. named_place x at ts (declares (locals u) x)) e
  where
    owned_place : (x : Word) (at : Place) (ts : Trees) (b : Bool) → root_place (grafted_name (cond b (Some (own_part self x at)) None) (name x) at ts) ≡ at
    owned_place x at ts true = refl
    owned_place x at ts false = refl

    named_place : (x : Word) (at : Place) (ts : Trees) (b : Bool) → root_place (grafted_name (cond b (Some (node (name (written P u x)) at no_trees)) None) (name x) at ts) ≡ at
    named_place x at ts true = refl
    named_place x at ts false = refl
