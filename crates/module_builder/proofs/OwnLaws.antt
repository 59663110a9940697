-- The variables that each process has for itself are variables of the translation.
use Rattle.std.proofs.Common.{◌≡◌, List, [], ◌∷◌, ◌++◌, filter, Bool, true, false, ◌&&◌, ◌||◌, cond, refl, sym, ap, ◌∙◌}
use Rattle.tla_token.specs.Signs.{is_among}
use Rattle.tla_tree.specs.Tree.{Word}
use Rattle.pcal_tree.specs.Algorithm.{Routine, locals, Main, alone, processes, procedure_routines, main_routines}
use Rattle.pcal_tree.specs.Program.{Program}
use Rattle.pcal_tree.specs.Variables.{pc, stack_for, declared, written_all, written_by_all, vars}
use Rattle.action_builder.specs.OwnVariables.{own_under, is_own_variable}
use Rattle.action_builder.proofs.Sets.{member_append}

-- a || b, where a's part of the sum is in the other's
abbrev Within : List Word → List Word → Type 0
Within xs ys = (x : Word) → is_among xs x ≡ true → is_among ys x ≡ true

never : {A : Type 0} → false ≡ true → A
never e = absurd (impossible e)
  where
    impossible : false ≡ true → ⊥
    impossible q = cc

or_more : (a b c d : Bool) → (a ≡ true → c ≡ true) → (b ≡ true → d ≡ true) → (a || b) ≡ true → (c || d) ≡ true
or_more true b c d f g h = ap (λ (e : Bool). e || d) (f refl)
or_more false true true d f g h = refl
or_more false true false d f g h = g refl
or_more false false c d f g h = never h

joined : (ws bs cs ds : List Word) → Within ws cs → Within bs ds → Within (ws ++ bs) (cs ++ ds)
joined ws bs cs ds f g x h = member_append cs ds x ∙ or_more (is_among ws x) (is_among bs x) (is_among cs x) (is_among ds x) (f x) (g x) (sym (member_append ws bs x) ∙ h)

behind : (ws bs : List Word) → Within bs (ws ++ bs)
behind ws bs x h = member_append ws bs x ∙ by (is_among ws x) (is_among bs x) h
  where
    by : (a b : Bool) → b ≡ true → (a || b) ≡ true
    by true b e = refl
    by false b e = e

-- of some routines
some_written : (P : Program) (f : Routine → Bool) (us : List Routine) → Within (written_by_all P (filter f us)) (written_by_all P us)
some_written P f [] x h = h
some_written P f (u ∷ us) x h = by (f u) (some_written P f us) h
  where
    by : (b : Bool) → Within (written_by_all P (filter f us)) (written_by_all P us) → is_among (written_by_all P (cond b (u ∷ filter f us) (filter f us))) x ≡ true → is_among (written_by_all P (u ∷ us)) x ≡ true
    by true rest e = joined (written_all P u (locals u)) (written_by_all P (filter f us)) (written_all P u (locals u)) (written_by_all P us) (λ y k. k) rest x e
    by false rest e = behind (written_all P u (locals u)) (written_by_all P us) x (rest x e)

own_within : (P : Program) (m : Main) → Within (own_under P (procedure_routines P.algorithm) (main_routines P.algorithm m) m)
    (declared P.algorithm.globals ++ (pc ∷ stack_for (procedure_routines P.algorithm)) ++ written_by_all P (procedure_routines P.algorithm) ++ written_by_all P (main_routines P.algorithm m))
own_within P (alone ss) x h = never h
own_within P (processes ps) x h =
    let S = stack_for (procedure_routines P.algorithm) in
    let W = written_by_all P (procedure_routines P.algorithm) in
    let ms = main_routines P.algorithm (processes ps) in
    let G = declared P.algorithm.globals in
    joined ((pc ∷ S) ++ W) (written_by_all P (filter (λ u. u.spread) ms)) ((G ++ (pc ∷ S)) ++ W) (written_by_all P ms)
    (joined (pc ∷ S) W (G ++ (pc ∷ S)) W (behind G (pc ∷ S)) (λ y k. k)) (some_written P (λ u. u.spread) ms) x h

pub own_there : (P : Program) (x : Word) → is_own_variable P x ≡ true → is_among (vars P) x ≡ true
own_there P x h = own_within P P.algorithm.main x h

pub own_among : (P : Program) (x : Word) → (is_own_variable P x && is_among (vars P) x) ≡ is_own_variable P x
own_among P x = by (is_own_variable P x) refl
  where
    by : (b : Bool) → is_own_variable P x ≡ b → (b && is_among (vars P) x) ≡ b
    by true e = own_there P x e
    by false e = refl
