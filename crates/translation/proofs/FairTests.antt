-- The test before an action of fairness at any value of pc, and labels that are shared out between those that count and those that are left out.
use Rattle.std.proofs.Common.{◌≡◌, List, [], ◌∷◌, map, Bool, true, false, not, ◌⊎◌, inl, inr, Some, refl, sym, ap, ◌∙◌, subst, Ok, Err}
use Rattle.std.proofs.lemmas.Bool.{or_left, or_right, or_cases, both_ways, not-true}
use Rattle.std.proofs.lemmas.Slice.Eq.{bytes_eq-Decides}
use Rattle.std.specs.Prelude.{bytes_eq}
use Rattle.tla_token.specs.declared.place.Place.{Place}
use Rattle.tla_token.specs.Places.{nowhere}
use Rattle.tla_tree.specs.Tree.{Word, Tree, apply}
use Rattle.tla_value.specs.Value.{Value, text, values_in, Outcome, ◌>>=◌, TrueExactly}
use Rattle.tla_value.specs.Order.{same, holds}
use Rattle.tla_value.specs.OrderLaws.{same_is, same_self}
use Rattle.tla_value.specs.Stops.{plain, truth_at}
use Rattle.tla_value.specs.Strict.{applied, strict_value}
use Rattle.tla_value.specs.Meaning.{Env, just, eval}
use Rattle.module_tree.specs.Formulas.{named, at}
use Rattle.pcal_tree.specs.Processes.{OneOf}
use Rattle.pcal_tree.specs.Program.{Actor, index, read_at}
use Rattle.pcal_tree.specs.Scope.{State}
use Rattle.pcal_tree.specs.Step.{pc_of}
use Rattle.pcal_tree.specs.Takers.{Takers}
use Rattle.pcal_tree.specs.Variables.{pc}
use Rattle.pcal_tree.proofs.ProcessesInOrder.{id}
use Rattle.action_builder.specs.laws.Jumps.{AllUnlike}
use Rattle.fairness.specs.FairnessLines.{identifier_of, guard_of}
use Rattle.fairness.specs.laws.LinesOfObligations.{SharedOut}
use Rattle.translation.specs.laws.ActionLaws.{guard_holds}
use Rattle.translation.proofs.NamesApart.{never}
use Rattle.translation.proofs.RoutinesNamed.{one_each_of}
use Rattle.fairness.proofs.TestsOfLabels.{tested}
use Rattle.action_builder.proofs.ActionsOfLabels.{applied_anywhere}

-- ---- a value among strings

abbrev pub among_texts : Value → List Word → Bool
among_texts w xs = holds w (values_in (map text xs))

pub held_from : (xs : List Word) (x : Word) → OneOf x xs → among_texts (text x) xs ≡ true
held_from [] x h = absurd h
held_from (y ∷ xs) x (inl e) = or_left (same (text x) (text y)) (among_texts (text x) xs) (ap (λ z. same (text x) (text z)) (sym e) ∙ same_self (text x))
held_from (y ∷ xs) x (inr h) = or_right (same (text x) (text y)) (among_texts (text x) xs) (held_from xs x h)

pub held_to : (w : Value) (xs : List Word) → among_texts w xs ≡ true → (x : Word) × OneOf x xs × (w ≡ text x)
held_to w [] h = absurd (both_ways false refl h)
held_to w (y ∷ xs) h = by (held_to w xs) (or_cases (same w (text y)) (among_texts w xs) h)
  where
    by : (among_texts w xs ≡ true → (x : Word) × OneOf x xs × (w ≡ text x)) → (same w (text y) ≡ true) ⊎ (among_texts w xs ≡ true) → (x : Word) × OneOf x (y ∷ xs) × (w ≡ text x)
    by f (inl q) = (y, inl refl, same_is w (text y) q)
    by f (inr q) = (let k = f q in (k.0, inr k.1, k.2))

-- ---- the test

-- it is true exactly where pc is at none of these labels
pub guard_true : (c : Takers) (xs : List Word) (env : Env) (w : Value) → (eval plain (at (named pc) (identifier_of c)) env).value ≡ Ok w → TrueExactly (guard_holds env (guard_of c xs)) (among_texts w xs ≡ false)
guard_true c [] env w e = (true, refl, (λ h. refl, λ h. refl))
guard_true c (x ∷ xs) env w e = (
  not (among_texts w (x ∷ xs)),
  ap (λ o. o >>= (truth_at nowhere)) (tested (at (named pc) (identifier_of c)) (x ∷ xs) env w e),
  (λ h. not-true (among_texts w (x ∷ xs)) h, λ h. ap not h),
)

-- ---- pc of a process

then_ok : (o : Outcome Value) (at : Place) (w : Value) → (o >>= (read_at at [])) ≡ Ok w → o ≡ Ok w
then_ok (Ok v) at w e = e
then_ok (Err k) at w e = cc

pub pc_at : (s : State) (env : Env) → env.now pc nowhere ≡ just (s pc) → (v : Actor) → v.self ≡ Some (id v) → (w : Value) → pc_of v s ≡ Ok w → (who : Tree) → (eval plain who env).value ≡ Ok (id v)
    → (eval plain (at (named pc) who) env).value ≡ Ok w
pc_at s env reads v named w e who is =
    (λ i. ((reads i).value >>= (λ f. (is i >>= (λ a. Ok (a ∷ []))) >>= (λ us. Ok (f ∷ us)))) >>= (strict_value plain apply nowhere))
    ∙ applied_anywhere v.own.name.place nowhere (s pc) (id v) w
    (then_ok (applied v.own.name.place (s pc) (id v)) v.own.name.place w (ap (λ o. read_at v.own.name.place (index o) (s pc)) (sym named) ∙ e))

-- ---- shared labels

pub shared_one : (ls ks xs : List Word) → SharedOut ls ks xs → (x : Word) → OneOf x ls → OneOf x ks ⊎ OneOf x xs
shared_one [] ks xs h x m = absurd m
shared_one (l ∷ ls) ks xs (inl (more, e, r)) x (inl q) = inl (subst (OneOf x) (sym e) (inl q))
shared_one (l ∷ ls) ks xs (inl (more, e, r)) x (inr n) = elim (shared_one ls more xs r x n) [ inl k ↦ inl (subst (OneOf x) (sym e) (inr k)) | inr k ↦ inr k ]
shared_one (l ∷ ls) ks xs (inr (more, e, r)) x (inl q) = inr (subst (OneOf x) (sym e) (inl q))
shared_one (l ∷ ls) ks xs (inr (more, e, r)) x (inr n) = elim (shared_one ls ks more r x n) [ inl k ↦ inl k | inr k ↦ inr (subst (OneOf x) (sym e) (inr k)) ]

-- those of either list are labels
pub shared_first : (ls ks xs : List Word) → SharedOut ls ks xs → (x : Word) → OneOf x ks → OneOf x ls
shared_first [] ks xs h x m = absurd (subst (OneOf x) h.0 m)
shared_first (l ∷ ls) ks xs (inl (more, e, r)) x m = by (shared_first ls more xs r x) (subst (OneOf x) e m)
  where
    by : (OneOf x more → OneOf x ls) → OneOf x (l ∷ more) → OneOf x (l ∷ ls)
    by f (inl q) = inl q
    by f (inr q) = inr (f q)
shared_first (l ∷ ls) ks xs (inr (more, e, r)) x m = inr (shared_first ls ks more r x m)

shared_second : (ls ks xs : List Word) → SharedOut ls ks xs → (x : Word) → OneOf x xs → OneOf x ls
shared_second [] ks xs h x m = absurd (subst (OneOf x) h.1 m)
shared_second (l ∷ ls) ks xs (inl (more, e, r)) x m = inr (shared_second ls more xs r x m)
shared_second (l ∷ ls) ks xs (inr (more, e, r)) x m = by (shared_second ls ks more r x) (subst (OneOf x) e m)
  where
    by : (OneOf x more → OneOf x ls) → OneOf x (l ∷ more) → OneOf x (l ∷ ls)
    by f (inl q) = inl q
    by f (inr q) = inr (f q)

-- none of both, where no two are the same
pub shared_apart : (ls ks xs : List Word) → AllUnlike ls → SharedOut ls ks xs → (x : Word) → OneOf x ks → OneOf x xs → ⊥
shared_apart [] ks xs d h x m n = absurd (subst (OneOf x) h.0 m)
shared_apart (l ∷ ls) ks xs d (inl (more, e, r)) x m n = by (shared_apart ls more xs d.1 r x) (subst (OneOf x) e m)
  where
    by : (OneOf x more → OneOf x xs → ⊥) → OneOf x (l ∷ more) → ⊥
    by f (inl q) = never (sym ((bytes_eq-Decides l x).1 (sym q)) ∙ one_each_of (λ y. bytes_eq l y ≡ false) ls d.0 x (shared_second ls more xs r x n))
    by f (inr q) = f q n
shared_apart (l ∷ ls) ks xs d (inr (more, e, r)) x m n = by (shared_apart ls ks more d.1 r x) (subst (OneOf x) e n)
  where
    by : (OneOf x ks → OneOf x more → ⊥) → OneOf x (l ∷ more) → ⊥
    by f (inl q) = never (sym ((bytes_eq-Decides l x).1 (sym q)) ∙ one_each_of (λ y. bytes_eq l y ≡ false) ls d.0 x (shared_first ls ks more r x m))
    by f (inr q) = f m q
