-- What is written for a call that is one statement with a return has the ends of it, and trouble where it has trouble.
use Rattle.std.proofs.Common.{◌≡◌, List, [], ◌∷◌, ◌++◌, Bool, true, false, cond, not, bytes_eq, codes, nat_eq, refl, sym, ◌∙◌, subst, inl, inr, Ok, Err}
use Rattle.std.proofs.lemmas.Bool.{and_parts, not-true}
use Rattle.std.specs.Option.{ok_or}
use Rattle.tla_token.specs.declared.place.Place.{Place}
use Rattle.tla_tree.specs.declared.op.Op.TheVariants.{Concat}
use Rattle.tla_tree.specs.Tree.{Word, Form, name, operator_call, Each, Tree, node, Trees, no_trees, tree, operator, tuple, fields, select, seen_names}
use Rattle.tla_value.specs.declared.fault.FaultKind.TheVariants.{NotSequence, EmptySequence}
use Rattle.tla_value.specs.Value.{Value, text, Trouble, fault, Outcome, ◌>>=◌, IsBad}
use Rattle.tla_value.specs.Order.{seq_from}
use Rattle.tla_value.specs.Stops.{plain, sequence_at}
use Rattle.tla_value.specs.Strict.{applied, strict_value}
use Rattle.tla_value.specs.Standard.{headed, tailed}
use Rattle.tla_value.specs.Meaning.{Env, just, bind, called, eval, evals, part_values}
use Rattle.tla_value.specs.laws.FreeNames.{Or, Also, FormReads, FreeNames, FreeInParts, Any}
use Rattle.tla_value.proofs.FreeNames.{not_free}
use Rattle.tla_value.proofs.OrderFuns.{sequence_of_seq}
use Rattle.tla_value.proofs.Outcomes.{then_then, then_two}
use Rattle.pcal_tree.specs.Algorithm.{Declaration, Routine, locals, Assignments, no_assignments, assignment, Statements, then, assign}
use Rattle.pcal_tree.specs.Scope.{State, Scope, bound, place_of, places_of, value_of}
use Rattle.pcal_tree.specs.Assign.{Setting, set_one, set_all, settings, after_assignments}
use Rattle.pcal_tree.specs.Run.{Course, Has, after, Rules, unlabelled, run}
use Rattle.pcal_tree.specs.Program.{Program, Actor, index, local_index, read_at}
use Rattle.pcal_tree.specs.Variables.{written_all, pc, stack}
use Rattle.pcal_tree.specs.Calls.{setting, all_read, frame, frame_fields, on_stack, argument_settings, variables_started, entered_keeping, fields_read, part_settings, finished, label_value, label_name, first_label, restored, replaced, returned_and_entered}
use Rattle.action_builder.specs.Written.{old_stack}
use Rattle.action_builder.specs.Jumps.{spot, names_at, name_at, field_of, kept_field, kept_fields, stack_rest, fields_of, pushed_on, arguments_assigned, variables_written, jump_written, pair_body, pair_written}
use Rattle.action_builder.specs.laws.Settling.{to_end, Close}
use Rattle.action_builder.specs.laws.Scopes.{StandsAtPath}
use Rattle.action_builder.specs.laws.Jumps.{RoutineStands, Initials, as_many, is_name, lacks, all_lack, PairStands}
use Rattle.action_builder.proofs.Denotations.{on_both}
use Rattle.action_builder.proofs.Jumps.{pc_law, field_law, rest_law}
use Rattle.action_builder.proofs.Call.{alike_of, close_finished, after_finished, assign_is, started_law, started_same, written_started, put_before, names_law, arguments_law, each_parts}
use Rattle.action_builder.proofs.SetAgain.{Like, like_refl, like_sym, like_trans, bad_then, like_then, like_ends}
use Rattle.action_builder.proofs.Pairs.{loose, Long}
use Rattle.action_builder.proofs.PairLaw.{bad_known, then_enters, to_pc, restores, to_stack, returns_is, others_left, same_procedure, other_procedure}

-- ---- arguments that lack a name

abbrev pub AllFree : (Word → Type 0) → Trees → Type 0
AllFree N no_trees = Unit {0}
AllFree N (tree t ts) = FreeNames N Any t × AllFree N ts

abbrev ButOne : Word → (Word → Type 0) → Type 0
ButOne x N = (y : Word) → bytes_eq x y ≡ false → N y

also_but : (x : Word) (N : Word → Type 0) → ButOne x N → (xs : List Word) → ButOne x (Also xs N)
also_but x N h [] y e = h y e
also_but x N h (z ∷ xs) y e = also_but x (Or z N) (λ w f. inr (h w f)) xs y e

form_reads : (x : Word) (N : Word → Type 0) → ButOne x N → (m : Form) → not (is_name x m) ≡ true → FormReads N Any m
form_reads x N h (name y) e = h y (not-true (bytes_eq x y) e)
form_reads x N h (operator_call f) e = tt
form_reads x N h m e = tt

mutual
  lacks_free : (x : Word) (N : Word → Type 0) → ButOne x N → (t : Tree) → lacks x t ≡ true → FreeNames N Any t
  lacks_free x N h (node m at ts) e = let p = and_parts (not (is_name x m)) (all_lack x ts) e in (form_reads x N h m p.0, parts_free x N h (seen_names m) ts p.1)

  parts_free : (x : Word) (N : Word → Type 0) → ButOne x N → (names : List (List Word)) (ts : Trees) → all_lack x ts ≡ true → FreeInParts N Any names ts
  parts_free x N h names no_trees e = tt
  parts_free x N h [] (tree t ts) e = let p = and_parts (lacks x t) (all_lack x ts) e in (lacks_free x N h t p.0, parts_free x N h [] ts p.1)
  parts_free x N h (xs ∷ names) (tree t ts) e = let p = and_parts (lacks x t) (all_lack x ts) e in (lacks_free x (Also xs N) (also_but x N h xs) t p.0, parts_free x N h names ts p.1)

-- the arguments are the same where the name is bound
same_values : (x : Word) (w : Value) (ts : Trees) → all_lack x ts ≡ true → (e : Env) → part_values (evals plain ts) e ≡ part_values (evals plain ts) (bind x w e)
same_values x w no_trees h e = refl
same_values x w (tree t ts) h e =
    let p = and_parts (lacks x t) (all_lack x ts) h in
    λ i. (not_free plain x t (lacks_free x (λ y. bytes_eq x y ≡ false) (λ y f. f) t p.0) w e i).value >>= (λ z. same_values x w ts p.1 e i >>= (λ zs. Ok (z ∷ zs)))

place_same : (x : Word) (w : Value) (t : Tree) (sc : Scope) → place_of t (bound x w sc) ≡ place_of t sc
place_same x w (node (name y) at ts) sc = refl
place_same x w (node m at ts) sc = refl

places_same : (x : Word) (w : Value) (ts : Trees) (sc : Scope) → places_of ts (bound x w sc) ≡ places_of ts sc
places_same x w no_trees sc = refl
places_same x w (tree t ts) sc = λ i. place_same x w t sc i ∷ places_same x w ts sc i

-- ---- the new stack

abbrev pushed : Program → Routine → Place → Outcome Value → Outcome (List Value) → Outcome Value → Outcome Value
pushed P p at back olds old =
    let fields_of = ((back >>= (λ b. olds >>= (λ ws. Ok (b ∷ ws)))) >>= (λ ws. Ok (text (P.naming.title p.number) ∷ ws))) >>= strict_value plain (fields (frame_fields P p)) at in
    let front = (fields_of >>= (λ f. Ok (f ∷ []))) >>= strict_value plain tuple at in
    (front >>= (λ a. (old >>= (λ b. Ok (b ∷ []))) >>= (λ rest. Ok (a ∷ rest)))) >>= strict_value plain (operator Concat) at

pushed_is : (P : Program) (p : Routine) (at : Place) (back : Outcome Value) (olds : Outcome (List Value)) (old : Outcome Value)
    → pushed P p at back olds old ≡ back >>= (λ b. olds >>= (λ ws. old >>= (put_before at (seq_from (frame P p b ws ∷ [])))))
pushed_is P p at (Ok b) (Ok ws) old = then_two (Ok (seq_from (frame P p b ws ∷ []))) old (strict_value plain (operator Concat) at)
pushed_is P p at (Ok b) (Err k) old = refl
pushed_is P p at (Err k) olds old = refl

pushed_law : (P : Program) (p : Routine) (at : Place) (back : Tree) (kept : Trees) (rest : Tree) (env : Env)
    → (eval plain (pushed_on P p at back kept rest) env).value ≡ (eval plain back env).value >>= (λ b. part_values (evals plain kept) env >>= (λ ws. (eval plain rest env).value >>= (put_before at (seq_from (frame P p b ws ∷ [])))))
pushed_law P p at back kept rest env = pushed_is P p at (eval plain back env).value (part_values (evals plain kept) env) (eval plain rest env).value

-- <<front>> \o others
put_law : (at : Place) (front : Value) (fr : List Value) → put_before at (seq_from (front ∷ [])) (seq_from fr) ≡ Ok (seq_from (front ∷ fr))
put_law at front fr = λ i. (ok_or (sequence_of_seq (front ∷ []) i) (fault NotSequence at) >>= (λ xs. ok_or (sequence_of_seq fr i) (fault NotSequence at) >>= (λ ys. Ok (seq_from (xs ++ ys))))) >>= (plain at)

long_law : (xs : List Word) (ts : Trees) (sc : Scope) (s : State) (vs : List Value) → as_many xs ts ≡ true → part_values (evals plain ts) (sc.env s) ≡ Ok vs → Long xs (places_of ts sc) vs
long_law [] ts sc s vs m e = tt
long_law (x ∷ xs) no_trees sc s vs m e = cc
long_law (x ∷ xs) (tree t ts) sc s vs m e = by (λ ws q. long_law xs ts sc s ws m q) (eval plain t (sc.env s)).value (part_values (evals plain ts) (sc.env s)) refl vs e
  where
    got : (ws us : List Value) → ◌≡◌ {A = Outcome (List Value)} (Ok ws) (Ok us) → ws ≡ us
    got ws us q = cc

    by : ((ws : List Value) → part_values (evals plain ts) (sc.env s) ≡ Ok ws → Long xs (places_of ts sc) ws) → (o : Outcome Value) (p : Outcome (List Value)) → part_values (evals plain ts) (sc.env s) ≡ p → (vs : List Value) → o >>= (λ w. p >>= (λ ws. Ok (w ∷ ws))) ≡ Ok vs → Long (x ∷ xs) (places_of (tree t ts) sc) vs
    by ih (Ok w) (Ok ws) q vs e = subst (Long (x ∷ xs) (places_of (tree t ts) sc)) (got (w ∷ ws) vs e) (ih ws q)
    by ih (Ok w) (Err k) q vs e = cc
    by ih (Err k) p q vs e = cc

-- ---- where the stack has a first record

-- in a scope in which the old stack has its name
module _ (P0 : Program) (v : Actor) (u p : Routine) (at end : Place) (h : PairStands (loose P0) v u p) (sc : Scope) (mu : RoutineStands (loose P0) v u sc) (mp : RoutineStands (loose P0) v p sc) (w : Value) (old : (b : Place) (t : State) → (sc.env t).now old_stack b ≡ just w) where
  abbrev P : Program
  P = loose P0

  abbrev idx : List Value
  idx = index v.self

  abbrev of_u : List Word
  of_u = written_all P u (locals u)

  abbrev of_p : List Word
  of_p = written_all P p (locals p)

  abbrev params : List Word
  params = written_all P p p.params

  abbrev to_first : State → Outcome State
  to_first = set_one plain (setting at pc idx (label_value P p (first_label p)))

  abbrev kept_by : Bool → Trees
  kept_by b = cond b (kept_fields end of_u) (names_at at of_p)

  abbrev stack_by : Bool → Tree
  stack_by b = pushed_on P p at (kept_field end pc) (kept_by b) (stack_rest end)

  abbrev others_by : Bool → Assignments
  others_by b = cond b no_assignments (fields_of end old_stack of_u)

  abbrev values : Trees → State → Outcome (List Value)
  values ts s = part_values (evals plain ts) (sc.env s)

  abbrev given_with : List Place → Outcome (List Value) → Outcome (List Setting)
  given_with ats vs = vs >>= (λ ws. Ok (argument_settings (local_index v p) params ats ws))

  given : (ts : Trees) (s : State) → as_many params ts ≡ true → settings plain (arguments_assigned params ts) sc s ≡ given_with (places_of ts sc) (values ts s)
  given ts s m = arguments_law plain (local_index v p) sc mp.origin params ts m (each_parts (StandsAtPath sc (local_index v p)) P p p.params p.variables mp.own).0 s

  module _ (s : State) (front : Value) (fr : List Value) (e : on_stack v end s ≡ Ok (front ∷ fr)) (records : sequence_at end w ≡ Ok (front ∷ fr)) where
    one_field : (x : Word) → (eval plain (kept_field end x) (sc.env s)).value ≡ applied end front (text x)
    one_field x = field_law P v u sc mu end x s ∙ (λ i. (e i) >>= (λ frames. (headed end frames) >>= (λ f. applied end f (text x))))

    all_fields : (xs : List Word) → part_values (evals plain (kept_fields end xs)) (sc.env s) ≡ fields_read end xs front
    all_fields [] = refl
    all_fields (x ∷ xs) = λ i. one_field x i >>= (λ z. all_fields xs i >>= (λ zs. Ok (z ∷ zs)))

    -- of the old stack, in any state
    old_field : (x : Word) (t : State) → (eval plain (field_of end old_stack x) (sc.env t)).value ≡ applied end front (text x)
    old_field x t =
        then_then (part_values ((λ n. n.now old_stack end) ∷ []) (sc.env t) >>= (λ us. (called end ((sc.env t).defs (codes "Head")) us).value)) (λ f. Ok (f ∷ [])) (strict_value plain (select x) end)
        ∙ (λ i. then_then ((sc.env t).now old_stack end).value (λ st. Ok (st ∷ [])) (λ us. (called end ((sc.env t).defs (codes "Head")) us).value) i >>= (λ f. applied end f (text x)))
        ∙ (λ i. (((sc.env t).now old_stack end).value >>= (λ st. (called end (mu.head t i) (st ∷ [])).value)) >>= (λ f. applied end f (text x)))
        ∙ (λ i. ((old end t i).value >>= (λ st. sequence_at end st >>= headed end)) >>= (λ f. applied end f (text x)))
        ∙ (λ i. (records i >>= headed end) >>= (λ f. applied end f (text x)))

    others_set : (xs : List Word) → Each (StandsAtPath sc (local_index v u)) xs → (t : State) → settings plain (fields_of end old_stack xs) sc t ≡ fields_read end xs front >>= (λ us. Ok (part_settings end (local_index v u) xs us))
    others_set [] k t = refl
    others_set (x ∷ xs) k t =
        (λ i. ((k.0 end t).0 i) >>= (λ r. old_field x t i >>= (λ z. others_set xs k.1 t i >>= (λ rest. Ok (record { place = end; part = r; value = z } ∷ rest)))))
        ∙ (λ i. applied end front (text x) >>= (λ z. then_then (fields_read end xs front) (λ us. Ok (part_settings end (local_index v u) xs us)) (λ rest. Ok (setting end x (local_index v u) z ∷ rest)) i))
        ∙ sym (on_both (applied end front (text x)) (λ z. fields_read end xs front) (λ z us. z ∷ us) (λ us. Ok (part_settings end (local_index v u) (x ∷ xs) us)))

    -- what the return restores, where another procedure is called
    abbrev others_with : Bool → Outcome (List Value) → Outcome (List Setting)
    others_with b us = cond b (Ok []) (us >>= (λ zs. Ok (restores P0 v u p at end h zs)))

    others_law : (b : Bool) (t : State) → settings plain (others_by b) sc t ≡ others_with b (fields_read end of_u front)
    others_law true t = refl
    others_law false t = others_set of_u mu.own t

    -- the values that the record keeps
    abbrev olds_by : Bool → Outcome (List Value) → Outcome (List Value)
    olds_by b us = cond b us (all_read at (local_index v p) of_p s)

    kept_law : (b : Bool) → part_values (evals plain (kept_by b)) (sc.env s) ≡ olds_by b (fields_read end of_u front)
    kept_law true = all_fields of_u
    kept_law false = names_law (local_index v p) sc at of_p mp.own s

    abbrev stack_with : Bool → Outcome Value → Outcome (List Value) → Outcome Value
    stack_with b back us = back >>= (λ l. olds_by b us >>= (λ olds. Ok (seq_from (frame P p l olds ∷ fr))))

    stack_law : (b : Bool) → value_of plain (stack_by b) sc s ≡ stack_with b (applied end front (text pc)) (fields_read end of_u front)
    stack_law b =
        pushed_law P p at (kept_field end pc) (kept_by b) (stack_rest end) (sc.env s)
        ∙ (λ i. one_field pc i >>= (λ l. kept_law b i >>= (λ olds. (rest_law P v u sc mu end s ∙ (λ j. e j >>= tailed plain end)) i >>= (put_before at (seq_from (frame P p l olds ∷ []))))))
        ∙ (λ i. applied end front (text pc) >>= (λ l. olds_by b (fields_read end of_u front) >>= (λ olds. put_law at (frame P p l olds) fr i)))

    -- ---- both sides, by what was evaluated

    abbrev done_by : Bool → Outcome Value → Outcome (List Value) → List Place → List Value → Outcome State
    done_by b back us ats vs =
        back >>= (λ l. (back >>= (λ k. us >>= (λ zs. set_all plain (to_pc P0 v u p at end h k ∷ (restores P0 v u p at end h zs ++ (to_stack P0 v u p at end h fr ∷ []))) s)))
        >>= (λ t. cond b us (all_read at (local_index v p) of_p t) >>= (λ olds. entered_keeping P v at l p ats vs olds t)))

    abbrev set_by : Bool → Outcome Value → Outcome (List Value) → List Place → Outcome (List Value) → Outcome State
    set_by b back us ats vs = (stack_with b back us >>= (λ z. given_with ats vs >>= (λ rest. Ok (setting at stack idx z ∷ rest)))) >>= (λ all. set_all plain all s)

    abbrev ends_by : Bool → Outcome (List Value) → State → Outcome State
    ends_by b us t = variables_started P v p at p.variables t >>= (λ z. (others_with b us >>= (λ ms. set_all plain ms z)) >>= to_first)

    any_bad : {X : Type 0} (o : Outcome X) (f : X → Outcome State) → ((x : X) → IsBad (f x)) → IsBad (o >>= f)
    any_bad (Ok x) f k = k x
    any_bad (Err j) f k = tt

    by_cases : (b : Bool) → nat_eq u.number p.number ≡ b → (back : Outcome Value) (us : Outcome (List Value)) (ats : List Place) (vs : Outcome (List Value)) → ((ws : List Value) → vs ≡ Ok ws → Long params ats ws)
        → Like (vs >>= (λ ws. done_by b back us ats ws)) (set_by b back us ats vs >>= ends_by b us)
    by_cases b n (Err k) us ats vs l = inr (any_bad vs _ (λ ws. tt), tt)
    by_cases true n (Ok back) (Err k) ats vs l = inr (any_bad vs _ (λ ws. tt), tt)
    by_cases false n (Ok back) (Err k) ats vs l = inr (any_bad vs _ (λ ws. tt), any_bad (set_by false (Ok back) (Err k) ats vs) _ (λ t. any_bad (variables_started P v p at p.variables t) _ (λ z. tt)))
    by_cases true n (Ok back) (Ok us) ats (Ok vs) l = same_procedure P0 v u p at end h back us fr front fr ats vs s n (l vs refl) e
    by_cases true n (Ok back) (Ok us) ats (Err k) l = inr (tt, tt)
    by_cases false n (Ok back) (Ok us) ats (Ok vs) l = by (all_read at (local_index v p) of_p s) refl
      where
        by : (o : Outcome (List Value)) → all_read at (local_index v p) of_p s ≡ o → Like (done_by false (Ok back) (Ok us) ats vs) ((((o >>= (λ olds. Ok (seq_from (frame P p back olds ∷ fr)))) >>= (λ z. Ok (setting at stack idx z ∷ argument_settings (local_index v p) params ats vs))) >>= (λ all. set_all plain all s)) >>= ends_by false (Ok us))
        by (Ok olds) q = other_procedure P0 v u p at end h back us olds fr front fr ats vs s n q e
        by (Err k) q = inr (
          subst IsBad (sym (returns_is P0 v u p at end h back us fr (then_enters P0 v u p at end h false back (Ok us) ats vs) s))
              (bad_known (set_all plain (to_pc P0 v u p at end h back ∷ restores P0 v u p at end h us) s) _ (λ t r.
              bad_known (set_one plain (to_stack P0 v u p at end h fr) t) _ (λ z m.
              subst (λ c. IsBad (c >>= (λ olds. entered_keeping P v at back p ats vs olds z))) (sym (others_left P0 v u p at end h s t z back us fr n r m ∙ q)) tt))),
          tt,
        )
    by_cases false n (Ok back) (Ok us) ats (Err k) l = inr (tt, bad_args (all_read at (local_index v p) of_p s))
      where
        bad_args : (o : Outcome (List Value)) → IsBad (((o >>= (λ olds. Ok (seq_from (frame P p back olds ∷ fr)))) >>= (λ z. Err k)) >>= (λ all. set_all plain all s) >>= ends_by false (Ok us))
        bad_args (Ok olds) = tt
        bad_args (Err j) = tt

  -- ---- the law

  abbrev first_of : Bool → Trees → Assignments
  first_of b ts = assignment (name_at at stack) (stack_by b) (arguments_assigned params ts)

  abbrev last_of : Bool → Statements
  last_of b = then (spot end) (assign (others_by b)) (jump_written at (label_name P p (first_label p)))

  -- the assignment of the stack and the parameters, then the variables, what the return restores, and pc
  abbrev body_by : Bool → Trees → (Declaration → Place) → (Declaration → Tree) → Statements
  body_by b ts place initial = then (spot at) (assign (first_of b ts)) (variables_written P p place initial p.variables (last_of b))

  -- a return in u, and then a call of p
  abbrev replaced_by : Bool → List Place → List Value → List Value → State → Outcome State
  replaced_by b ats vs [] s = Err (fault EmptySequence end)
  replaced_by b ats vs (front ∷ frames) s =
      applied end front (text pc) >>= (λ back. restored P v end u (front ∷ frames) s >>= (λ t. cond b (fields_read end of_u front) (all_read at (local_index v p) of_p t) >>= (λ olds. entered_keeping P v at back p ats vs olds t)))

  abbrev replaces : Bool → List Place → List Value → State → Outcome State
  replaces b ats vs s = on_stack v end s >>= (λ frames. replaced_by b ats vs frames s)

  abbrev last_rest : Bool → State → Outcome State
  last_rest b z = after_assignments plain (others_by b) sc z >>= to_first

  abbrev written_rest : Bool → (Declaration → Place) → (Declaration → Tree) → State → Outcome State
  written_rest b place initial t = written_started P v p sc place initial p.variables t >>= last_rest b

  abbrev set_first : Outcome Value → Outcome (List Setting) → State → Outcome State
  set_first z rest s = (z >>= (λ y. rest >>= (λ ms. Ok (setting at stack idx y ∷ ms)))) >>= (λ all. set_all plain all s)

  first_law : (b : Bool) (ts : Trees) (s : State) → after_assignments plain (first_of b ts) sc s ≡ set_first (value_of plain (stack_by b) sc s) (settings plain (arguments_assigned params ts) sc s) s
  first_law b ts s =
      λ i. (((mu.stack at s).0 i) >>= (λ r. value_of plain (stack_by b) sc s >>= (λ z. settings plain (arguments_assigned params ts) sc s >>= (λ rest. Ok (record { place = at; part = r; value = z } ∷ rest))))) >>= (λ all. set_all plain all s)

  -- without a first record neither has an end
  no_record : (b : Bool) (s : State) → IsBad ((on_stack v end s) >>= (λ frames. headed end frames)) → IsBad (value_of plain (stack_by b) sc s)
  no_record b s k =
      subst IsBad (sym (pushed_law P p at (kept_field end pc) (kept_by b) (stack_rest end) (sc.env s)))
      (bad_then (eval plain (kept_field end pc) (sc.env s)).value _
      (subst IsBad (sym (field_law P v u sc mu end pc s)) (by (on_stack v end s) k)))
    where
      by : (o : Outcome (List Value)) → IsBad (o >>= (λ frames. headed end frames)) → IsBad (o >>= (λ frames. (headed end frames) >>= (λ f. applied end f (text pc))))
      by (Ok []) k = tt
      by (Ok (front ∷ fr)) k = absurd k
      by (Err j) k = tt

  all_bad : {X : Type 0} (o : Outcome X) (f : X → Outcome State) → ((x : X) → IsBad (f x)) → IsBad (o >>= f)
  all_bad (Ok x) f k = k x
  all_bad (Err j) f k = tt

  first_bad : (z : Outcome Value) (rest : Outcome (List Setting)) (s : State) → IsBad z → IsBad (set_first z rest s)
  first_bad (Ok z) rest s k = absurd k
  first_bad (Err j) rest s k = tt

  both_like : (b : Bool) → nat_eq u.number p.number ≡ b → (ts : Trees) → as_many params ts ≡ true → (place : Declaration → Place) (initial : Declaration → Tree) → Initials P v p at sc initial p.variables → (s : State) → sequence_at end w ≡ on_stack v end s
      → Like (values ts s >>= (λ vs. replaces b (places_of ts sc) vs s)) (set_first (value_of plain (stack_by b) sc s) (settings plain (arguments_assigned params ts) sc s) s >>= written_rest b place initial)
  both_like b n ts m place initial k s records = by (on_stack v end s) refl
    where
      bad : (o : Outcome (List Value)) → on_stack v end s ≡ o → IsBad (o >>= (λ frames. headed end frames)) → ((vs : List Value) → IsBad (o >>= (λ frames. replaced_by b (places_of ts sc) vs frames s)))
          → Like (values ts s >>= (λ vs. replaces b (places_of ts sc) vs s)) (set_first (value_of plain (stack_by b) sc s) (settings plain (arguments_assigned params ts) sc s) s >>= written_rest b place initial)
      bad o e q r = inr (
        all_bad (values ts s) _ (λ vs. subst (λ z. IsBad (z >>= (λ frames. replaced_by b (places_of ts sc) vs frames s))) (sym e) (r vs)),
        bad_then _ (written_rest b place initial) (first_bad _ _ s (no_record b s (subst (λ z. IsBad (z >>= (λ frames. headed end frames))) (sym e) q))),
      )

      by : (o : Outcome (List Value)) → on_stack v end s ≡ o → Like (values ts s >>= (λ vs. replaces b (places_of ts sc) vs s)) (set_first (value_of plain (stack_by b) sc s) (settings plain (arguments_assigned params ts) sc s) s >>= written_rest b place initial)
      by (Err j) e = bad (Err j) e tt (λ vs. tt)
      by (Ok []) e = bad (Ok []) e tt (λ vs. tt)
      by (Ok (front ∷ fr)) e =
          like_ends _ _ _ _
          (λ i. values ts s >>= (λ vs. e i >>= (λ frames. replaced_by b (places_of ts sc) vs frames s)))
          (like_trans _ (set_by s front fr e (records ∙ e) b (applied end front (text pc)) (fields_read end of_u front) (places_of ts sc) (values ts s) >>= ends_by s front fr e (records ∙ e) b (fields_read end of_u front)) _
          (by_cases s front fr e (records ∙ e) b n (applied end front (text pc)) (fields_read end of_u front) (places_of ts sc) (values ts s) (λ ws q. long_law params ts sc s ws m q))
          (like_then _ (set_by s front fr e (records ∙ e) b (applied end front (text pc)) (fields_read end of_u front) (places_of ts sc) (values ts s)) _ _ (like_refl _) rest))
          (λ i. set_first (sym (stack_law s front fr e (records ∙ e) b) i) (sym (given ts s m) i) s >>= written_rest b place initial)
        where
          rest : (t : State) → Like (ends_by s front fr e (records ∙ e) b (fields_read end of_u front) t) (written_rest b place initial t)
          rest t =
              like_then (variables_started P v p at p.variables t) (written_started P v p sc place initial p.variables t) _ _
              (like_sym _ _ (alike_of _ _ (started_same P v p at sc place initial refl p.variables k t)))
              (λ z. inl (λ i. (sym (others_law s front fr e (records ∙ e) b z) i >>= (λ ms. set_all plain ms z)) >>= to_first))

  written_law : (M : Rules) → M.check ≡ plain → (b : Bool) (ts : Trees) (place : Declaration → Place) (initial : Declaration → Tree) (s : State)
      → run M unlabelled (body_by b ts place initial) sc to_end s ≡ finished (set_first (value_of plain (stack_by b) sc s) (settings plain (arguments_assigned params ts) sc s) s >>= written_rest b place initial)
  written_law M q b ts place initial s =
      assign_is M at (first_of b ts) (variables_written P p place initial p.variables (last_of b)) sc (written_rest b place initial)
      (started_law M P v p sc place initial q p.variables (each_parts (StandsAtPath sc (local_index v p)) P p p.params p.variables mp.own).1 (last_of b) (last_rest b) last) s
      ∙ (λ i. finished (after_assignments (q i) (first_of b ts) sc s >>= written_rest b place initial))
      ∙ (λ i. finished (first_law b ts s i >>= written_rest b place initial))
    where
      last : (t : State) → run M unlabelled (last_of b) sc to_end t ≡ finished (last_rest b t)
      last t =
          assign_is M end (others_by b) (jump_written at (label_name P p (first_label p))) sc to_first (λ z. pc_law M P v at (label_name P p (first_label p)) sc mu.pc z q) t
          ∙ (λ i. finished (after_assignments (q i) (others_by b) sc t >>= to_first))

  pub body_law : (M : Rules) → M.check ≡ plain → (b : Bool) → nat_eq u.number p.number ≡ b → (ts : Trees) → as_many params ts ≡ true → (place : Declaration → Place) (initial : Declaration → Tree) → Initials P v p at sc initial p.variables → (s : State) → sequence_at end w ≡ on_stack v end s
      → Close (Has (run M unlabelled (body_by b ts place initial) sc to_end s)) (Has (after (values ts s) (λ vs. finished (replaces b (places_of ts sc) vs s))))
  body_law M q b n ts m place initial k s records =
      subst (λ z. Close (Has z) (Has (after (values ts s) (λ vs. finished (replaces b (places_of ts sc) vs s))))) (sym (written_law M q b ts place initial s))
      (subst (λ z. Close (Has (finished (set_first (value_of plain (stack_by b) sc s) (settings plain (arguments_assigned params ts) sc s) s >>= written_rest b place initial))) (Has z))
      (sym (after_finished (values ts s) (λ vs. replaces b (places_of ts sc) vs s)))
      (close_finished _ _ (like_sym _ _ (both_like b n ts m place initial k s records))))

-- ---- with the old stack named

-- what is asked of a scope in which the old stack has its name
pub record Named (P : Program) (v : Actor) (u p : Routine) (at : Place) (initial : Declaration → Tree) (sc : Scope) : Type 0 where
  pub own : RoutineStands P v u sc
  pub called : RoutineStands P v p sc
  pub initials : Initials P v p at sc initial p.variables

abbrev Law : Actor → Routine → Routine → Place → Place → Scope → Program → Type 0
Law v u p at end sc P =
    PairStands P v u p → RoutineStands P v u sc → (M : Rules) → M.check ≡ plain → (ts : Trees) → as_many (written_all P p p.params) ts ≡ true → all_lack old_stack ts ≡ true
    → (place : Declaration → Place) (initial : Declaration → Tree) → ((w : Value) → Named P v u p at initial (bound old_stack w sc)) → (s : State)
    → Close (Has (run M unlabelled (pair_written P u p at end ts place initial) sc to_end s)) (Has (after (part_values (evals plain ts) (sc.env s)) (λ vs. finished (returned_and_entered P v at end u p (places_of ts sc) vs s))))

all_bad_after : (o : Outcome (List Value)) (f : List Value → Outcome State) → ((vs : List Value) → IsBad (f vs)) → IsBad (o >>= f)
all_bad_after (Ok x) f k = k x
all_bad_after (Err j) f k = tt

module _ (P0 : Program) (v : Actor) (u p : Routine) (at end : Place) (sc : Scope) (M : Rules) (ts : Trees) (place : Declaration → Place) (initial : Declaration → Tree) (s : State) where
  abbrev rule : Scope → List Value → Outcome State
  rule inner vs = returned_and_entered (loose P0) v at end u p (places_of ts inner) vs s

  abbrev body : Value → Course
  body w = run M unlabelled (pair_body (loose P0) u p at end ts place initial) (bound old_stack w sc) to_end s

  abbrev ruled : Scope → Course
  ruled inner = after (part_values (evals plain ts) (inner.env s)) (λ vs. finished (rule inner vs))

  named_law : M.check ≡ plain → RoutineStands (loose P0) v u sc → run M unlabelled (pair_written (loose P0) u p at end ts place initial) sc to_end s ≡ after (read_at end (index v.self) (s stack)) body
  named_law q mu = (λ i. after (value_of (q i) (name_at end stack) sc s) body) ∙ (λ i. after ((mu.stack end s).1 i).value body)

  outer : all_lack old_stack ts ≡ true → (w : Value) → ruled (bound old_stack w sc) ≡ ruled sc
  outer lack w =
      (λ i. after (sym (same_values old_stack w ts lack (sc.env s)) i) (λ vs. finished (rule (bound old_stack w sc) vs)))
      ∙ (λ i. after (part_values (evals plain ts) (sc.env s)) (λ vs. finished (returned_and_entered (loose P0) v at end u p (places_same old_stack w ts sc i) vs s)))

  bad_rule : (j : Trouble) → read_at end (index v.self) (s stack) ≡ Err j → (vs : List Value) → IsBad (rule sc vs)
  bad_rule j e vs = subst (λ o. IsBad ((o >>= sequence_at end) >>= (λ frames. replaced (loose P0) v at end u p (places_of ts sc) vs frames s))) (sym e) tt

  by_stack : PairStands (loose P0) v u p → M.check ≡ plain → as_many (written_all (loose P0) p p.params) ts ≡ true → all_lack old_stack ts ≡ true → ((w : Value) → Named (loose P0) v u p at initial (bound old_stack w sc))
      → (o : Outcome Value) → read_at end (index v.self) (s stack) ≡ o → Close (Has (after o body)) (Has (ruled sc))
  by_stack h q m lack k (Ok w) e =
      subst (λ z. Close (Has (body w)) (Has z)) (outer lack w)
      (body_law P0 v u p at end h (bound old_stack w sc) (k w).own (k w).called w (λ b t. refl) M q (nat_eq u.number p.number) refl ts m place initial (k w).initials s (λ i. sym e i >>= sequence_at end))
  by_stack h q m lack k (Err j) e =
      subst (λ z. Close (Has (finished (Err j))) (Has z)) (sym (after_finished (part_values (evals plain ts) (sc.env s)) (rule sc)))
      (close_finished (Err j) (part_values (evals plain ts) (sc.env s) >>= rule sc) (inr (tt, all_bad_after (part_values (evals plain ts) (sc.env s)) (rule sc) (bad_rule j e))))

pair_loose : (P0 : Program) (v : Actor) (u p : Routine) (at end : Place) (sc : Scope) → Law v u p at end sc (loose P0)
pair_loose P0 v u p at end sc h mu M q ts m lack place initial k s =
    subst (λ z. Close (Has z) (Has (ruled P0 v u p at end sc M ts place initial s sc))) (sym (named_law P0 v u p at end sc M ts place initial s q mu))
    (by_stack P0 v u p at end sc M ts place initial s h q m lack k (read_at end (index v.self) (s stack)) refl)

-- with any check that refuses nothing
pub pair_law : (P : Program) → P.check ≡ plain → (v : Actor) (u p : Routine) (at end : Place) (sc : Scope) → Law v u p at end sc P
pair_law P c v u p at end sc =
    subst (Law v u p at end sc) (λ i. record { check = sym c i; constants = P.constants; outside = P.outside; algorithm = P.algorithm; naming = P.naming }) (pair_loose P v u p at end sc)
