-- Each run by a script is followed to its end, through states with the same values of the variables.
use Rattle.std.proofs.Common.{◌≡◌, ℕ, suc, List, [], ◌∷◌, ◌++◌, length, None, refl, sym, ap, subst, arith, append_assoc}
use Rattle.std.proofs.lemmas.List.{length-append}
use Rattle.tla_tree.specs.Tree.{Word}
use Rattle.pcal_tree.specs.Scope.{State}
use Rattle.pcal_tree.specs.Program.{Program, Actor}
use Rattle.pcal_tree.specs.Processes.{IsActor}
use Rattle.pcal_tree.specs.Variables.{vars, Agree}
use Rattle.pcal_tree.specs.StepAnswers.{Reply, replied, start_by}
use Rattle.pcal_tree.specs.Script.{Turn, StepBy, StepsBy, RunOf}
use Rattle.pcal_tree.specs.laws.Steps.{StandsOnce, ReturnsInProcedures, AgreeAll}
use Rattle.pcal_tree.proofs.ReplyConverse.{scripted}
use Rattle.pcal_tree.proofs.SameSteps.{run_same}
use Rattle.pcal_tree.proofs.SameVariables.{agree_sym}
use Rattle.step_runner.specs.Script.{Script}
use Rattle.step_runner.specs.Followed.{Followed, landed, after_reply, turns_followed, followed}

agree_self : (xs : List Word) (s : State) → Agree xs s s
agree_self [] s = tt
agree_self (x ∷ xs) s = (refl, agree_self xs s)

all_self : (xs : List Word) (ss : List State) → AgreeAll xs ss ss
all_self xs [] = tt
all_self xs (s ∷ ss) = (agree_self xs s, all_self xs ss)

-- another state in one place
all_put : (xs : List Word) (ss : List State) (t u : State) (ts : List State) → Agree xs t u → AgreeAll xs (ss ++ (t ∷ ts)) (ss ++ (u ∷ ts))
all_put xs [] t u ts a = (a, all_self xs ts)
all_put xs (s ∷ ss) t u ts a = (agree_self xs s, all_put xs ss t u ts a)

abbrev last_of : State → List State → State
last_of s [] = s
last_of s (t ∷ ts) = last_of t ts

last_put : (s : State) (xs : List State) (t : State) → last_of s (xs ++ (t ∷ [])) ≡ t
last_put s [] t = refl
last_put s (x ∷ xs) t = last_put x xs t

module _ (P : Program) where
  as_long : (ns : List Turn) (s : State) (ts : List State) → StepsBy P ns s ts → length ns ≡ length ts
  as_long [] s [] h = refl
  as_long [] s (t ∷ ts) h = absurd h
  as_long (n ∷ ns) s [] h = absurd h
  as_long (n ∷ ns) s (t ∷ ts) h = ap suc (as_long ns t ts h.1)

  -- the step after the first ones
  step_after : (ms : List Turn) (n : Turn) (ns : List Turn) (s : State) (xs : List State) (t : State) (ts : List State) → length ms ≡ length xs → StepsBy P (ms ++ (n ∷ ns)) s (xs ++ (t ∷ ts)) → StepBy P n (last_of s xs) t
  step_after [] n ns s [] t ts l h = h.0
  step_after [] n ns s (x ∷ xs) t ts l h = absurd (omega (arith, l))
  step_after (m ∷ ms) n ns s [] t ts l h = absurd (omega (arith, l))
  step_after (m ∷ ms) n ns s (x ∷ xs) t ts l h = step_after ms n ns x xs t ts (omega (arith, l)) h.1

  -- what comes of following is right
  abbrev IsFollowed : Followed → List State → Type 0
  IsFollowed f ts = (f.stop ≡ None) × AgreeAll (vars P) f.states ts

  module _ (placed : ReturnsInProcedures P.algorithm) (once : (s : State) (v : Actor) → IsActor P v → StandsOnce P s v) (choices : List ℕ) where
    follow : (ns : List Turn) (ms : List Turn) (s : State) (xs ts : List State) (k : ℕ) → length ms ≡ length xs → RunOf P choices (ms ++ ns) (s ∷ (xs ++ ts)) → IsFollowed (turns_followed P ns k (last_of s xs)) ts
    follow [] ms s xs [] k l h = (refl, tt)
    follow [] ms s xs (t ∷ ts) k l h =
        absurd (let n = as_long (ms ++ []) s (xs ++ (t ∷ ts)) h.1 in let a = length-append ms [] in let b = length-append xs (t ∷ ts) in omega (arith, n, a, b, l))
    follow (n ∷ ns) ms s xs [] k l h =
        absurd (let m = as_long (ms ++ (n ∷ ns)) s (xs ++ []) h.1 in let a = length-append ms (n ∷ ns) in let b = length-append xs [] in omega (arith, m, a, b, l))
    follow (n ∷ ns) ms s xs (t ∷ ts) k l h =
        let now = last_of s xs in
        let q = scripted P n now t (once now) (step_after ms n ns s xs t ts l h.1) in
        let u = q.0 in
        let run : RunOf P choices (ms ++ (n ∷ ns)) (s ∷ (xs ++ (u ∷ ts))) =
        run_same P placed choices (ms ++ (n ∷ ns)) (s ∷ (xs ++ (t ∷ ts))) (s ∷ (xs ++ (u ∷ ts))) (agree_self (vars P) s, all_put (vars P) xs t u ts (agree_sym (vars P) u t q.3)) h in
        let moved : RunOf P choices ((ms ++ (n ∷ [])) ++ ns) (s ∷ ((xs ++ (u ∷ [])) ++ ts)) =
        subst (λ (us : List State). RunOf P choices ((ms ++ (n ∷ [])) ++ ns) (s ∷ us)) (sym (append_assoc xs (u ∷ []) ts))
        (subst (λ (ls : List Turn). RunOf P choices ls (s ∷ (xs ++ (u ∷ ts)))) (sym (append_assoc ms (n ∷ []) ns)) run) in
        let longer : length (ms ++ (n ∷ [])) ≡ length (xs ++ (u ∷ [])) = (let a = length-append ms (n ∷ []) in let b = length-append xs (u ∷ []) in omega (arith, a, b, l)) in
        let rest : IsFollowed (turns_followed P ns (suc k) u) ts =
        subst (λ (x : State). IsFollowed (turns_followed P ns (suc k) x) ts) (last_put s xs u) (follow ns (ms ++ (n ∷ [])) s (xs ++ (u ∷ [])) ts (suc k) longer moved) in
        subst (λ (r : Reply State). IsFollowed (after_reply k (turns_followed P ns (suc k)) r) (t ∷ ts)) (sym (ap landed q.2)) (rest.0, (q.3, rest.1))

    begin : (ns : List Turn) (ss : List State) → RunOf P choices ns ss → IsFollowed (after_reply 0 (turns_followed P ns 1) (start_by P choices)) ss
    begin ns [] h = absurd h
    begin ns (s ∷ ts) h =
        let u = h.0.0 in
        let run = run_same P placed choices ns (s ∷ ts) (u ∷ ts) (agree_sym (vars P) u s h.0.2, all_self (vars P) ts) h in
        let rest = follow ns [] u [] ts 1 refl run in
        subst (λ (r : Reply State). IsFollowed (after_reply 0 (turns_followed P ns 1) r) (s ∷ ts)) (sym (ap (replied (λ x. x) P.algorithm.name.place) h.0.1)) (rest.0, (h.0.2, rest.1))

pub scripts_followed : (P : Program) → ReturnsInProcedures P.algorithm → ((s : State) (v : Actor) → IsActor P v → StandsOnce P s v) → (c : Script) (ss : List State) → RunOf P c.choices c.turns ss
    → ((followed P c).stop ≡ None) × AgreeAll (vars P) (followed P c).states ss
scripts_followed P placed once c ss h = begin P placed once c.choices c.turns ss h
