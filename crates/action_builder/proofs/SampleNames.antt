-- The premises can be met: by the sample step of action_builder, a process of a set that has a variable of its own, in an algorithm with a macro and a procedure.
use Rattle.std.proofs.Common.{◌≡◌, List, [], ◌∷◌, ◌++◌, Bool, true, false, bytes_eq, codes, refl, sym, subst, inl, inr}
use Rattle.tla_token.specs.Places.{nowhere}
use Rattle.tla_token.specs.Signs.{is_among}
use Rattle.tla_tree.specs.Tree.{Word, node, no_trees, tree, strict, set_of, string, Each}
use Rattle.tla_value.specs.Definitions.{Definition}
use Rattle.tla_value.specs.laws.FreeNames.{Any, Also, FreeNames}
use Rattle.pcal_tree.specs.Algorithm.{declares, Routine, locals}
use Rattle.pcal_tree.specs.Program.{Program, local_index, written}
use Rattle.pcal_tree.specs.Processes.{identifier}
use Rattle.pcal_tree.specs.Variables.{vars, declared}
use Rattle.action_builder.specs.OwnVariables.{is_own_variable, own_variables}
use Rattle.action_builder.specs.laws.Scopes.{own_path}
use Rattle.action_builder.specs.laws.Sample as sample
use Rattle.action_builder.proofs.Names.{each_name}
use Rattle.action_builder.specs.laws.WrittenScope.{definitions_of, Common, NamesApart}
use Rattle.std.proofs.lemmas.Slice.Eq.{bytes_eq-Decides}
use Rattle.tla_value.specs.laws.Untitled.{Untitled}

abbrev P : Program
P = sample.program

-- ProcSet == {"me"}
abbrev pub process_set : List Definition
process_set = record { title = codes "ProcSet"; params = []; body = node (strict set_of) nowhere (tree (node (string (codes "me")) nowhere no_trees) no_trees); outside = false } ∷ []

apart_of : (u : Routine) → declares (locals u) (codes "self") ≡ false
    → Each (λ x. (is_among (vars P) (written P u x) ≡ true) × (local_index sample.actor u ≡ own_path (is_own_variable P (written P u x)) (identifier sample.actor.self))) (declared (locals u))
    → NamesApart P process_set sample.actor u
apart_of u s k = record {
  self_free = refl;
  self_untitled = refl;
  self_local = s;
  local = λ x e. (each_name _ (declared (locals u)) k x e).0;
  path = λ x e. (each_name _ (declared (locals u)) k x e).1;
  global = λ x e. each_name (λ x. (is_among (vars P) x ≡ true) × (is_own_variable P x ≡ false)) (codes "x" ∷ []) ((refl, refl), tt) x e;
  own = λ x e. (each_name (λ x. is_among (vars P) x ≡ true) (own_variables P) (refl, (refl, (refl, (refl, (refl, tt))))) x e, (sample.me, refl));
  untitled = λ x e. each_name (λ x. Untitled x (definitions_of P ++ process_set)) (vars P) ((refl, (refl, tt)), ((refl, (refl, tt)), ((refl, (refl, tt)), ((refl, (refl, tt)), ((refl, (refl, tt)), ((refl, (refl, tt)), tt)))))) x e;
  definitions = (reads_max, tt);
  aside = (refl, (λ x n. other x n), tt);
}
  where
    reads_max : FreeNames (Also (codes "x" ∷ codes "y" ∷ []) (Common P process_set)) Any sample.larger_of_two.body
    reads_max = (tt, ((tt, ((first, tt), ((second, tt), tt))), ((first, tt), ((second, tt), tt))))
      where
        first : Also (codes "x" ∷ codes "y" ∷ []) (Common P process_set) (codes "x")
        first = inr (inl refl)

        second : Also (codes "x" ∷ codes "y" ∷ []) (Common P process_set) (codes "y")
        second = inl refl

    other : (x : Word) → Common P process_set x → bytes_eq (codes "ProcSet") x ≡ false
    other x n = by (bytes_eq (codes "ProcSet") x) refl
      where
        by : (b : Bool) → bytes_eq (codes "ProcSet") x ≡ b → b ≡ false
        by true q = never (subst (Common P process_set) (sym ((bytes_eq-Decides (codes "ProcSet") x).0 q)) n)
          where
            never : false ≡ true → true ≡ false
            never e = sym e
        by false q = refl

pub process_apart : NamesApart P process_set sample.actor sample.routine
process_apart = apart_of sample.routine refl ((refl, refl), tt)

pub procedure_apart : NamesApart P process_set sample.actor sample.called
procedure_apart = apart_of sample.called refl ((refl, refl), ((refl, refl), tt))
