-- Names that may not be bound again, and scopes with more names around.
use Rattle.std.proofs.Common.{◌≡◌, Bool, true, false, not, ◌||◌, ◌&&◌, List, [], ◌∷◌, ◌++◌, cond, refl, sym, ap, ◌∙◌}
use Rattle.std.specs.List.{list_any}
use Rattle.tla_token.specs.Signs.{is_among}
use Rattle.tla_token.specs.Words.{is_own}
use Rattle.tla_tree.specs.Tree.{Word}
use Rattle.algorithm_limits.specs.DepthsIn.{Hides}
use Rattle.algorithm_limits.proofs.Tables.{equal, same_test}
use Rattle.module_outside.specs.declared.modules.Modules.{Modules}
use Rattle.module_outside.specs.ModulesIn.{AreModules, is_standard_in}
use Rattle.module_outside.proofs.ModuleLaws.{standard_given}
use Rattle.module_outside.proofs.SightLaws.{binds_more}
use Rattle.pcal_tree.specs.OffencesRebind.{Standings, naming, in_scope, brought, may_rebind}
use Rattle.pcal_tree.proofs.RebindNames.{scope_more, brought_more}
use Rattle.declared_rules.specs.Telling.{Around}

may_rebind_in : (m : Modules) (ms : List Word) (a : Bool) (x : Word) → a ≡ not (is_own x || is_standard_in m x) → AreModules m ms → a ≡ may_rebind ms x
may_rebind_in m ms a x e h = e ∙ ap (λ (b : Bool). not (is_own x || b)) (standard_given m ms h x)

pub rebinds_in : (m : Modules) (ms : List Word) (a b : Bool) (x : Word) → a ≡ true → b ≡ not (is_own x || is_standard_in m x) → AreModules m ms → b ≡ (a && may_rebind ms x)
rebinds_in m ms a b x h e k = may_rebind_in m ms b x e k ∙ ap (λ (c : Bool). c && may_rebind ms x) (sym h)

pub not_rebinds : (ms : List Word) (a : Bool) (x : Word) → a ≡ false → false ≡ (a && may_rebind ms x)
not_rebinds ms a x h = ap (λ (c : Bool). c && may_rebind ms x) (sym h)

pub among_any : (xs : List Word) (x : Word) → list_any (equal x) xs ≡ is_among xs x
among_any [] x = refl
among_any (y ∷ ys) x = λ i. same_test x y i || among_any ys x i

among_hides : (old new ys : List Word) → Hides old new ys → (x : Word) → is_among new x ≡ is_among (ys ++ old) x
among_hides old new ys h x = sym (among_any new x) ∙ binds_more old new ys old (among_any old) h x

pub around_hides : (old new ys : List Word) (s r : Standings) → Hides old new ys → Around old s r → Around new s (naming ys r)
around_hides old new ys s r h a = (
  λ x. scope_more ys old s r a x ∙ ap (λ (b : Bool). b || in_scope s x) (sym (among_hides old new ys h x)),
  λ x. brought_more ys old s r a x ∙ ap (λ (b : Bool). cond b [] (brought s x)) (sym (among_hides old new ys h x)),
)
