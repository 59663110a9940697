-- What names stand for in a pair of states, as the evaluator sees it, and with names that are bound.
use Rattle.std.proofs.Common.{◌≡◌, ℕ, suc, List, [], ◌∷◌, ◌++◌, length, take, refl, sym, ap, ◌∙◌, arith}
use Rattle.tla_tree.specs.Tree.{Word}
use Rattle.tla_value.specs.Value.{Value}
use Rattle.tla_value.specs.Meaning.{Env, bind}
use Rattle.eval_scopes.specs.Scopes.{with_words}
use Rattle.action_truth.specs.declared.formulas.Pair.{Pair}
use Rattle.action_truth.specs.declared.formulas.Bound.{Bound}
use Rattle.action_truth.proofs.ListLaws.{take_front}
use Rattle.action_truth.specs.Pairs.{env_at, scope_at, Stands, Binds, StillBound}

-- ---- one name more

words_more : (xs : List Word) (vs : List Value) (x : Word) (v : Value) (e : Env) → length xs ≡ length vs → with_words (xs ++ x ∷ []) (vs ++ v ∷ []) e ≡ bind x v (with_words xs vs e)
words_more [] [] x v e h = refl
words_more [] (w ∷ vs) x v e h = absurd (omega (arith, h))
words_more (y ∷ xs) [] x v e h = absurd (omega (arith, h))
words_more (y ∷ xs) (w ∷ vs) x v e h = words_more xs vs x v (bind y w e) (omega (arith, h))

pub bound_more : (p : Pair) (b c : Bound) (x : Word) (v : Value) → Stands p b → Binds b c x v → env_at p c ≡ bind x v (env_at p b)
bound_more p b c x v s n = (λ i. with_words (n.names i) (n.values i) (scope_at p)) ∙ words_more b.names.items b.values.items x v (scope_at p) s.paired

pub stands_more : (p : Pair) (b c : Bound) (x : Word) (v : Value) → Stands p b → Binds b c x v → Stands p c
stands_more p b c x v s n = record {
  ready = s.ready;
  paired = ap length n.names ∙ one_longer b.names.items b.values.items s.paired ∙ sym (ap length n.values);
}
  where
    one_longer : (xs : List Word) (vs : List Value) → length xs ≡ length vs → length (xs ++ x ∷ []) ≡ length (vs ++ v ∷ [])
    one_longer [] [] h = refl
    one_longer [] (w ∷ vs) h = absurd (omega (arith, h))
    one_longer (y ∷ xs) [] h = absurd (omega (arith, h))
    one_longer (y ∷ xs) (w ∷ vs) h = ap suc (one_longer xs vs (omega (arith, h)))

-- bound, used, and no longer bound
pub bound_again : (p : Pair) (b c d : Bound) (x : Word) (v : Value) (many : ℕ) (old : Bound) → many ≡ length b.names.items → Stands p b → Binds b c x v → StillBound c d → old.names.items ≡ take many d.names.items → old.values.items ≡ take many d.values.items → StillBound b old
bound_again p b c d x v many old e s n w ns vs = record {
  names = ns ∙ ap (take many) (w.names ∙ n.names) ∙ take_front b.names.items (x ∷ []) many e;
  values = vs ∙ ap (take many) (w.values ∙ n.values) ∙ take_front b.values.items (v ∷ []) many (e ∙ s.paired);
}

pub same_env : (p : Pair) (b c : Bound) → StillBound b c → env_at p c ≡ env_at p b
same_env p b c w = λ i. with_words (w.names i) (w.values i) (scope_at p)

pub stands_still : (p : Pair) (b c : Bound) → Stands p b → StillBound b c → Stands p c
stands_still p b c s w = record { ready = s.ready; paired = ap length w.names ∙ s.paired ∙ sym (ap length w.values) }

pub still_then : (b c d : Bound) → StillBound b c → StillBound c d → StillBound b d
still_then b c d v w = record { names = w.names ∙ v.names; values = w.values ∙ v.values }

-- where no name is bound
pub none_bound : (p : Pair) (b : Bound) → b.names.items ≡ [] → b.values.items ≡ [] → env_at p b ≡ scope_at p
none_bound p b n v = λ i. with_words (n i) (v i) (scope_at p)
