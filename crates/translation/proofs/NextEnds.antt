-- Terminating is true exactly where all processes are done and nothing changes.
use Rattle.std.proofs.Common.{◌≡◌, ◌↔◌, List, [], ◌∷◌, Bool, true, false, cond, codes, Option, Some, None, inl, inr, refl, sym, ap, ◌∙◌, subst, Ok, Err}
use Rattle.std.proofs.lemmas.Bool.{and_parts, and_from}
use Rattle.std.specs.Option.{ok_or}
use Rattle.tla_token.specs.declared.place.Place.{Place}
use Rattle.tla_token.specs.Places.{nowhere}
use Rattle.tla_token.specs.Signs.{is_among}
use Rattle.tla_tree.specs.Tree.{Word, Tree, operator, apply}
use Rattle.tla_tree.specs.declared.op.Op.TheVariants.{Equal}
use Rattle.tla_value.specs.declared.fault.FaultKind.TheVariants.{NotInDomain}
use Rattle.tla_value.specs.Value.{Value, truth, int, text, model, set, fun, Outcome, fault, ◌>>=◌, TrueExactly, and_then, or_all}
use Rattle.tla_value.specs.Order.{same, found_at}
use Rattle.tla_value.specs.OrderLaws.{same_is, same_self}
use Rattle.tla_value.specs.Stops.{plain, truth_at}
use Rattle.tla_value.specs.Strict.{applied, strict_value}
use Rattle.tla_value.specs.Meaning.{Env, just, eval}
use Rattle.tla_value.proofs.Outcomes.{ok_is}
use Rattle.tla_value.proofs.Quantified.{EachIn, Gives, every, for_all_law}
use Rattle.module_tree.specs.Formulas.{self, named, quoted, process_set, equal, at}
use Rattle.module_tree.specs.Module.{test, unchanged, no_items, item, call, one_way, all_of, Action}
use Rattle.module_tree.specs.ActionTruth.{Acts, acted, is_unchanged, are_unchanged, truth_in, some_way_holds}
use Rattle.module_tree.proofs.Tells.{tells_and, tells_as, tells_of}
use Rattle.pcal_tree.specs.Algorithm.{Main, alone, processes}
use Rattle.pcal_tree.specs.Processes.{OneOf, actors}
use Rattle.pcal_tree.specs.Program.{Program, Actor, index, read_at}
use Rattle.pcal_tree.specs.Scope.{State}
use Rattle.pcal_tree.specs.Step.{pc_of, Stutters}
use Rattle.pcal_tree.specs.Variables.{pc, vars, Agree}
use Rattle.pcal_tree.proofs.ProcessesInOrder.{id, ids}
use Rattle.action_builder.specs.NextFormula.{all_done}
use Rattle.action_builder.specs.laws.Ready.{values_of}
use Rattle.action_builder.proofs.SpreadStarts.{equal_is}
use Rattle.translation.proofs.NextFound.{Finds}
use Rattle.translation.proofs.VariableNames.{one_is_among}

-- ---- nothing changes

module _ (P : Program) (s t : State) where
  same_value : (x : Word) → is_among (vars P) x ≡ true → is_unchanged (values_of (vars P) s x) (values_of (vars P) t x) ≡ same (t x) (s x)
  same_value x m = λ i. is_unchanged (cond (m i) (Some (s x)) None) (cond (m i) (Some (t x)) None)

  agree_if : (xs : List Word) → ((x : Word) → OneOf x xs → is_among (vars P) x ≡ true) → are_unchanged (values_of (vars P) s) (values_of (vars P) t) xs ≡ true → Agree xs s t
  agree_if [] h e = tt
  agree_if (x ∷ xs) h e =
      let k = and_parts (is_unchanged (values_of (vars P) s x) (values_of (vars P) t x)) (are_unchanged (values_of (vars P) s) (values_of (vars P) t) xs) e in
      (sym (same_is (t x) (s x) (sym (same_value x (h x (inl refl))) ∙ k.0)), agree_if xs (λ y m. h y (inr m)) k.1)

  if_agree : (xs : List Word) → ((x : Word) → OneOf x xs → is_among (vars P) x ≡ true) → Agree xs s t → are_unchanged (values_of (vars P) s) (values_of (vars P) t) xs ≡ true
  if_agree [] h k = refl
  if_agree (x ∷ xs) h k =
      and_from (is_unchanged (values_of (vars P) s x) (values_of (vars P) t x)) (are_unchanged (values_of (vars P) s) (values_of (vars P) t) xs)
      (same_value x (h x (inl refl)) ∙ ap (same (t x)) k.0 ∙ same_self (t x)) (if_agree xs (λ y m. h y (inr m)) k.1)

  pub unchanged_true : TrueExactly (and_then (Ok (are_unchanged (values_of (vars P) s) (values_of (vars P) t) (vars P))) (Ok true)) (Agree (vars P) s t)
  unchanged_true = (
    are_unchanged (values_of (vars P) s) (values_of (vars P) t) (vars P),
    by (are_unchanged (values_of (vars P) s) (values_of (vars P) t) (vars P)),
    (agree_if (vars P) (one_is_among (vars P)), if_agree (vars P) (one_is_among (vars P))),
  )
    where
      by : (b : Bool) → and_then (Ok b) (Ok true) ≡ Ok b
      by true = refl
      by false = refl

-- ---- what is read at a path does not rest on the place

applied_anywhere : (p q : Place) (f k v : Value) → applied p f k ≡ Ok v → applied q f k ≡ Ok v
applied_anywhere p q (fun ds rs) k v e = by (found_at ds rs k) e
  where
    by : (o : Option Value) → ok_or o (fault NotInDomain p) ≡ Ok v → ok_or o (fault NotInDomain q) ≡ Ok v
    by (Some w) e = ap (λ (o : Outcome Value). elim o [ Ok x ↦ Ok x | Err k ↦ Ok w ]) e
    by None e = cc
applied_anywhere p q (truth b) k v e = cc
applied_anywhere p q (int z) k v e = cc
applied_anywhere p q (text w) k v e = cc
applied_anywhere p q (model w) k v e = cc
applied_anywhere p q (set vs) k v e = cc

then_ok : (o : Outcome Value) (at : Place) (w : Value) → (o >>= (read_at at [])) ≡ Ok w → o ≡ Ok w
then_ok (Ok v) at w e = e
then_ok (Err k) at w e = cc

-- ---- all are done

abbrev is_done : Outcome Value → Bool
is_done (Ok w) = same w (text (codes "Done"))
is_done (Err k) = false

-- pc has a value at each process, and so the test is that it is done
pub record PcRead (s : State) (v : Actor) : Type 0 where
  pub value : Value
  pub read : pc_of v s ≡ Ok value

done_exactly : (s : State) (v : Actor) (k : PcRead s v) (o : Outcome Value) → o ≡ Ok k.value → (is_done o ≡ true) ↔ (pc_of v s ≡ Ok (text (codes "Done")))
done_exactly s v k o e = (
  λ h. k.read ∙ ap (λ z. Ok z) (same_is k.value (text (codes "Done")) (sym (ap is_done e) ∙ h)),
  λ h. ap is_done (e ∙ sym k.read ∙ h) ∙ same_self (text (codes "Done")),
)

-- the same of some processes
abbrev pub AllDone : State → List Actor → Type 0
AllDone s vs = (v : Actor) → OneOf v vs → pc_of v s ≡ Ok (text (codes "Done"))

module _ (s : State) (env : Env) (reads : env.now pc nowhere ≡ just (s pc)) where
  abbrev done_at : Value → Bool
  done_at k = is_done (applied nowhere (s pc) k)

  abbrev body : Tree
  body = equal (at (named pc) (named self)) (quoted (codes "Done"))

  tested : (k w : Value) → applied nowhere (s pc) k ≡ Ok w → Gives (eval plain body) self env (λ v. truth (done_at v)) k
  tested k w e =
      (λ i. ((((reads i).value >>= (λ f. (Ok k >>= (λ a. Ok (a ∷ []))) >>= (λ us. Ok (f ∷ us)))) >>= (strict_value plain apply nowhere)) >>= (λ a. (Ok (text (codes "Done")) >>= (λ b. Ok (b ∷ []))) >>= (λ bs. Ok (a ∷ bs)))) >>= (strict_value plain (operator Equal) nowhere))
      ∙ (λ i. (e i >>= (λ a. Ok (a ∷ text (codes "Done") ∷ []))) >>= (strict_value plain (operator Equal) nowhere))
      ∙ ap (λ o. Ok (truth (is_done o))) (sym e)

  -- pc has a value at each
  abbrev pub Named : Actor → Type 0
  Named v = (v.self ≡ Some (id v)) × PcRead s v

  applied_is : (v : Actor) (h : Named v) → applied nowhere (s pc) (id v) ≡ Ok h.1.value
  applied_is v h =
      then_ok (applied nowhere (s pc) (id v)) nowhere h.1.value
      (applied_at (applied v.own.name.place (s pc) (id v)) refl (ap (λ o. read_at v.own.name.place (index o) (s pc)) (sym h.0) ∙ h.1.read))
    where
      applied_at : (o : Outcome Value) → applied v.own.name.place (s pc) (id v) ≡ o → (o >>= (read_at v.own.name.place [])) ≡ Ok h.1.value → (applied nowhere (s pc) (id v) >>= (read_at nowhere [])) ≡ Ok h.1.value
      applied_at o e q = ap (λ r. r >>= (read_at nowhere [])) (applied_anywhere v.own.name.place nowhere (s pc) (id v) h.1.value (e ∙ then_ok o v.own.name.place h.1.value q))

  each_tested : (vs : List Actor) → ((v : Actor) → OneOf v vs → Named v) → EachIn (Gives (eval plain body) self env (λ v. truth (done_at v))) (ids vs)
  each_tested [] h = tt
  each_tested (v ∷ vs) h = (tested (id v) (h v (inl refl)).1.value (applied_is v (h v (inl refl))), each_tested vs (λ w k. h w (inr k)))

  every_done : (vs : List Actor) → ((v : Actor) → OneOf v vs → Named v) → every done_at (ids vs) ≡ true → AllDone s vs
  every_done [] h e v k = absurd k
  every_done (w ∷ vs) h e v (inl q) =
      subst (λ z. pc_of z s ≡ Ok (text (codes "Done"))) (sym q)
      ((done_exactly s w (h w (inl refl)).1 (applied nowhere (s pc) (id w)) (applied_is w (h w (inl refl)))).0 (and_parts (done_at (id w)) (every done_at (ids vs)) e).0)
  every_done (w ∷ vs) h e v (inr k) = every_done vs (λ z m. h z (inr m)) (and_parts (done_at (id w)) (every done_at (ids vs)) e).1 v k

  done_every : (vs : List Actor) → ((v : Actor) → OneOf v vs → Named v) → AllDone s vs → every done_at (ids vs) ≡ true
  done_every [] h k = refl
  done_every (w ∷ vs) h k =
      and_from (done_at (id w)) (every done_at (ids vs))
      ((done_exactly s w (h w (inl refl)).1 (applied nowhere (s pc) (id w)) (applied_is w (h w (inl refl)))).1 (k w (inl refl))) (done_every vs (λ z m. h z (inr m)) (λ z m. k z (inr m)))

  -- who all are, and that ProcSet is just these
  abbrev pub AllThere : List Actor → Main → Type 0
  AllThere vs (alone ss) = (v : Actor) × (vs ≡ v ∷ []) × (v.self ≡ None)
  AllThere vs (processes ps) = ((v : Actor) → OneOf v vs → Named v) × ((eval plain process_set env).value ≡ Ok (set (ids vs)))

  pub all_done_true : (vs : List Actor) (m : Main) → AllThere vs m → TrueExactly (truth_in plain env (all_done m)) (AllDone s vs)
  all_done_true vs (alone ss) (v, e, n) = (
    same (s pc) (text (codes "Done")),
    equal_is pc (quoted (codes "Done")) env (s pc) (text (codes "Done")) reads refl,
    (
      λ h w k. subst (λ z. pc_of z s ≡ Ok (text (codes "Done"))) (sym (only w k)) (here ∙ ap (λ z. Ok z) (same_is (s pc) (text (codes "Done")) h)),
      λ h. ap (λ (o : Outcome Value). is_done o) (sym here ∙ h v (subst (OneOf v) (sym e) (inl refl))) ∙ same_self (text (codes "Done")),
    ),
  )
    where
      here : pc_of v s ≡ Ok (s pc)
      here = ap (λ o. read_at v.own.name.place (index o) (s pc)) n

      only : (w : Actor) → OneOf w vs → w ≡ v
      only w k = one (subst (OneOf w) e k)
        where
          one : OneOf w (v ∷ []) → w ≡ v
          one (inl q) = q
          one (inr q) = absurd q
  all_done_true vs (processes ps) (h, is) = (
    every done_at (ids vs),
    ap (λ o. o >>= (truth_at nowhere)) (for_all_law plain (record { word = self; place = nowhere }) nowhere (eval plain process_set) (eval plain body) env (ids vs) done_at is (each_tested vs h)),
    (every_done vs h, done_every vs h),
  )

-- ---- Terminating

abbrev pub terminating_action : Program → Main → Action
terminating_action P m = record { title = codes "Terminating"; parameter = None; body = all_of (item (test (all_done m)) (item (unchanged (vars P)) no_items)) }

pub ends_true : (P : Program) (s t : State) (env : Env) (reads : env.now pc nowhere ≡ just (s pc)) (acts : Acts) (vs : List Actor) (m : Main) → AllThere s env reads vs m → actors P ≡ Ok vs
    → Finds (values_of (vars P) s) (values_of (vars P) t) env acts (terminating_action P m) → TrueExactly (some_way_holds plain env acts (one_way (call (codes "Terminating")) ∷ [])) (Stutters P s t)
ends_true P s t env reads acts vs m there all f =
    let S = values_of (vars P) s in
    let T = values_of (vars P) t in
    let holds = and_then (truth_in plain env (all_done m)) (and_then (Ok (are_unchanged S T (vars P))) (Ok true)) in
    let ends = tells_and (truth_in plain env (all_done m)) (and_then (Ok (are_unchanged S T (vars P))) (Ok true)) (AllDone s vs) (Agree (vars P) s t) (all_done_true s env reads vs m there) (λ h. unchanged_true P s t) in
    tells_as _ (AllDone s vs × Agree (vars P) s t) (Stutters P s t)
    (tells_of _ holds (AllDone s vs × Agree (vars P) s t) (ap (λ o. or_all (acted o None) (Ok false)) f.1 ∙ or_none holds) ends)
    (λ h. ((λ v k. h.0 v (subst (OneOf v) (ok_is (sym k.1 ∙ all)) k.2)), h.1))
    (λ h. ((λ v k. h.0 v (vs, all, k)), h.1))
  where
    or_none : (v : Outcome Bool) → or_all v (Ok false) ≡ v
    or_none (Ok true) = refl
    or_none (Ok false) = refl
    or_none (Err k) = refl
