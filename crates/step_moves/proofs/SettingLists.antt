-- Subscripts and right sides of assignments, one assignment after another.
use Rattle.std.proofs.Common.{◌≡◌, ℕ, zero, suc, ◌+◌, ◌<◌, ◌≤◌, max, List, [], ◌∷◌, ◌++◌, length, map, drop, get_or, true, Ok, Err, refl, sym, ap, subst, ◌∙◌, append_assoc, arith}
use Rattle.std.proofs.lemmas.List.{drop_more, drop_all, append-nil, map-append}
use Rattle.tla_token.specs.Signs.{is_among}
use Rattle.tla_tree.specs.Nesting.{greatest}
use Rattle.tla_tree.specs.Pool.{at}
use Rattle.tla_tree.specs.Tree.{Word, Tree, root_place}
use Rattle.tla_tree.proofs.PoolNumbers.{past_at}
use Rattle.tla_value.specs.declared.stop.EvalStop.{EvalStop}
use Rattle.tla_value.specs.Value.{Value, Outcome, ◌>>=◌}
use Rattle.tla_value.specs.Limits.{bounded}
use Rattle.pcal_tree.specs.declared.algorithm.Assignment.{Assignment}
use Rattle.pcal_tree.specs.InMemory.{assignments_at, past_assignment}
use Rattle.pcal_tree.specs.Scope.{State, Scope, Part, reach, value_of}
use Rattle.pcal_tree.specs.Assign as pure
use Rattle.pcal_tree.specs.Assign.{settings}
use Rattle.value_forms.specs.Gives.{Stops}
use Rattle.value_forms.proofs.StopLaws.{behind, then_stops, then_later}
use Rattle.step_moves.specs.declared.setting.Setting.{Setting}
use Rattle.step_moves.specs.StatesOf.{setting_of, settings_of, AreOf}

then_behind : (xs : List pure.Setting) (y : pure.Setting) (o : Outcome (List pure.Setting)) → behind (xs ++ y ∷ []) o ≡ behind xs (o >>= λ ys. Ok (y ∷ ys))
then_behind xs y (Ok ys) = ap Ok (append_assoc xs (y ∷ []) ys)
then_behind xs y (Err k) = refl

module _ (ts : List Tree) (sc : Scope) (s : State) (all : List Assignment) where
  -- the settings so far, before those of the rest, are all
  abbrev pub Settled : ℕ → List Setting → Type 0
  Settled i done = behind (settings_of done) (settings bounded (assignments_at ts (drop i all)) sc s) ≡ settings bounded (assignments_at ts all) sc s

  abbrev rest_of : ℕ → Outcome (List pure.Setting)
  rest_of i = settings bounded (assignments_at ts (drop i all)) sc s

  abbrev one_then : Assignment → ℕ → Part → Value → Outcome (List pure.Setting)
  one_then one i p v = rest_of i >>= λ rest. Ok (record { place = root_place (at ts one.left); part = p; value = v } ∷ rest)

  first : (i : ℕ) (one : Assignment) → one ≡ get_or all i one → i < length all
      → rest_of i ≡ (reach bounded (at ts one.left) sc s >>= λ p. value_of bounded (at ts one.right) sc s >>= one_then one (i + 1) p)
  first i one is less = ap (λ (ms : List Assignment). settings bounded (assignments_at ts ms) sc s) (drop_more all i one less ∙ ap (λ (m : Assignment). m ∷ drop (i + 1) all) (sym is))

  pub none_settled : (done : List Setting) → done ≡ [] → Settled 0 done
  none_settled done e = ap (λ (ms : List Setting). behind (settings_of ms) (rest_of 0)) e ∙ by (rest_of 0)
    where
      by : (o : Outcome (List pure.Setting)) → behind [] o ≡ o
      by (Ok ys) = refl
      by (Err k) = refl

  pub one_settled : (i : ℕ) (one : Assignment) → one ≡ get_or all i one → i < length all → (done next : List Setting) (new : Setting) (p : Part) (v : Value) → reach bounded (at ts one.left) sc s ≡ Ok p
      → value_of bounded (at ts one.right) sc s ≡ Ok v → setting_of new ≡ record { place = root_place (at ts one.left); part = p; value = v } → next ≡ done ++ new ∷ [] → Settled i done → Settled (i + 1) next
  one_settled i one is less done next new p v l r made n h =
      ap (λ (ms : List Setting). behind (settings_of ms) (rest_of (i + 1))) n
      ∙ ap (λ (ms : List pure.Setting). behind ms (rest_of (i + 1))) (map-append setting_of done (new ∷ []) ∙ ap (λ (m : pure.Setting). settings_of done ++ m ∷ []) made)
      ∙ then_behind (settings_of done) (record { place = root_place (at ts one.left); part = p; value = v }) (rest_of (i + 1))
      ∙ ap (λ (o : Outcome Value). behind (settings_of done) (o >>= one_then one (i + 1) p)) (sym r)
      ∙ ap (λ (o : Outcome Part). behind (settings_of done) (o >>= λ q. value_of bounded (at ts one.right) sc s >>= one_then one (i + 1) q)) (sym l)
      ∙ ap (behind (settings_of done)) (sym (first i one is less))
      ∙ h

  pub left_stops : (i : ℕ) (one : Assignment) → one ≡ get_or all i one → i < length all → (done : List Setting) (k : EvalStop) → Stops k (reach bounded (at ts one.left) sc s) → Settled i done
      → Stops k (settings bounded (assignments_at ts all) sc s)
  left_stops i one is less done k l h =
      subst (Stops k) h
      (then_stops k (rest_of i) (λ ys. Ok (settings_of done ++ ys))
      (subst (Stops k) (sym (first i one is less))
      (then_stops k (reach bounded (at ts one.left) sc s) (λ p. value_of bounded (at ts one.right) sc s >>= one_then one (i + 1) p) l)))

  pub right_stops : (i : ℕ) (one : Assignment) → one ≡ get_or all i one → i < length all → (done : List Setting) (k : EvalStop) (p : Part) → reach bounded (at ts one.left) sc s ≡ Ok p
      → Stops k (value_of bounded (at ts one.right) sc s) → Settled i done → Stops k (settings bounded (assignments_at ts all) sc s)
  right_stops i one is less done k p l r h =
      subst (Stops k) h
      (then_stops k (rest_of i) (λ ys. Ok (settings_of done ++ ys))
      (subst (Stops k) (sym (first i one is less))
      (then_later k p (reach bounded (at ts one.left) sc s) (λ q. value_of bounded (at ts one.right) sc s >>= one_then one (i + 1) q) l
      (then_stops k (value_of bounded (at ts one.right) sc s) (one_then one (i + 1) p) r))))

  pub all_settled : (i : ℕ) (done : List Setting) → length all ≤ i → Settled i done → settings bounded (assignments_at ts all) sc s ≡ Ok (settings_of done)
  all_settled i done le h =
      sym h ∙ ap (λ (ms : List Assignment). behind (settings_of done) (settings bounded (assignments_at ts ms) sc s)) (drop_all i all le) ∙ ap Ok (append-nil (settings_of done))

pub left_below : (all : List Assignment) (i : ℕ) (one : Assignment) (m : ℕ) → one ≡ get_or all i one → i < length all → greatest (map past_assignment all) ≤ m → one.left < m
left_below all i one m is less le = let h : max (one.left + 1) (one.right + 1) ≤ greatest (map past_assignment all) = past_at past_assignment all i one is less in omega (arith, h, le)

pub right_below : (all : List Assignment) (i : ℕ) (one : Assignment) (m : ℕ) → one ≡ get_or all i one → i < length all → greatest (map past_assignment all) ≤ m → one.right < m
right_below all i one m is less le = let h : max (one.left + 1) (one.right + 1) ≤ greatest (map past_assignment all) = past_at past_assignment all i one is less in omega (arith, h, le)

pub of_more : (xs : List Word) (done next : List Setting) (new : Setting) → next ≡ done ++ new ∷ [] → is_among xs new.variable.now ≡ true → AreOf xs done → AreOf xs next
of_more xs done next new n h all k d less =
    subst (λ (ms : List Setting). k < length ms → is_among xs (get_or ms k d).variable.now ≡ true) (sym n) (λ l. by done k all l) less
  where
    by : (ms : List Setting) (j : ℕ) → AreOf xs ms → j < length (ms ++ new ∷ []) → is_among xs (get_or (ms ++ new ∷ []) j d).variable.now ≡ true
    by [] zero a l = h
    by [] (suc j) a l = absurd (omega (arith, l))
    by (m ∷ ms) zero a l = a 0 d (omega arith)
    by (m ∷ ms) (suc j) a l = by ms j (λ i e q. a (suc i) e (omega (arith, q))) (omega (arith, l))

pub found : {A : Type 0} (xs : List A) (i : ℕ) (d : A) → i < length xs → get_or xs i d ≡ get_or xs i (get_or xs i d)
found [] i d less = absurd (omega (arith, less))
found (x ∷ xs) zero d less = refl
found (x ∷ xs) (suc i) d less = found xs i d (omega (arith, less))
