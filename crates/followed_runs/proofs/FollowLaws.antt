-- Following a script, step by step: the rest goes on from a state as all does from the first one.
use Rattle.std.proofs.Common.{◌≡◌, ℕ, suc, ◌+◌, ◌<◌, List, [], ◌∷◌, ◌++◌, length, drop, get_or, refl, sym, ap, subst, ◌∙◌, append_assoc, arith, Option, Result, Ok, Err, IfOk}
use Rattle.std.proofs.lemmas.List.{append-nil, drop_more}
use Rattle.pcal_tree.specs.Processes.{actors}
use Rattle.pcal_tree.specs.Program.{Program, Actor}
use Rattle.pcal_tree.specs.Scope.{State}
use Rattle.pcal_tree.specs.Script.{Turn}
use Rattle.pcal_tree.specs.StepAnswers.{Reply, reached, with_self}
use Rattle.tla_value.specs.declared.stop.EvalStop.{EvalStop}
use Rattle.value_forms.specs.Gives.{Stops}
use Rattle.step_runner.specs.Script.{Script}
use Rattle.step_runner.specs.Followed as pure
use Rattle.step_runner.specs.Followed.{landed, after_reply}
use Rattle.step_runner.specs.Fronts.{Text}
use Rattle.step_runner.specs.Shown.{initial, step_before, turn_before, known, state_text, turns_text, run_text}
use Rattle.written_runs.specs.Ways.{by_written_names, step_of_by, turns_followed_in}
use Rattle.written_runs.specs.WrittenRuns.{begun_in, followed_in, followed_for, followed_once}
use Rattle.step_meaning.specs.declared.halt.Halt.{Halt}
use Rattle.step_meaning.specs.Replies.{halted, HaltsBy}
use Rattle.followed_runs.specs.declared.cause.Stop.{Stop}
use Rattle.followed_runs.specs.Stopping.{stop_of, Adds, Shows}
use Rattle.followed_runs.proofs.StopLaws.{StopsAt, halted_after, unchanged, stopped_is}

-- what came before a state, where the processes are these
pub before_by : (P : Program) (vs : List Actor) (n : Turn) (s : State) → actors P ≡ Ok vs → turn_before P s n.who ≡ step_before P s (with_self n.who vs)
before_by P vs n s e = ap (λ o. step_before P s (with_self n.who (known o))) e

nothing_more : (now more old new : Text) → more ≡ [] → now ++ more ≡ old ++ new → now ≡ old ++ new
nothing_more now more old new e h = sym (append-nil now) ∙ ap (λ (x : Text). now ++ x) (sym e) ∙ h

module _ (P : Program) (vs : List Actor) where
  abbrev rest : List Turn → ℕ → State → pure.Followed
  rest ns k s = turns_followed_in by_written_names P vs ns k s

  abbrev rest_text : List Turn → ℕ → State → List State → Text
  rest_text ns k s ts = turns_text P k ns s ts

  abbrev pub reply_to : Turn → State → Reply State
  reply_to n s = landed (step_of_by by_written_names P s n.choices (with_self n.who vs))

  module _ (ns : List Turn) (s0 : State) (old : Text) where
    -- what is left from step k on goes on from a state, with this text behind it, as all does from the first state
    pub record Going (left : List Turn) (k : ℕ) (s : State) (now : Text) : Type 0 where
      pub text : now ++ rest_text left k s (rest left k s).states ≡ old ++ rest_text ns 1 s0 (rest ns 1 s0).states
      pub stop : (rest left k s).stop ≡ (rest ns 1 s0).stop

    abbrev pub Shown : Text → Option Stop → Type 0
    Shown new o = Shows (turns_text P 1 ns s0) old new o (rest ns 1 s0)

    pub going_next : (n : Turn) (left : List Turn) (k : ℕ) (s t : State) (now new : Text) → reply_to n s ≡ reached t → new ≡ now ++ state_text P k (turn_before P s n.who) t
        → Going (n ∷ left) k s now → Going left (suc k) t new
    going_next n left k s t now new e more g =
        let is : rest (n ∷ left) k s ≡ record { states = t ∷ (rest left (suc k) t).states; stop = (rest left (suc k) t).stop } = ap (after_reply k (rest left (suc k))) e in
        let one = state_text P k (turn_before P s n.who) t in
        let others = rest_text left (suc k) t (rest left (suc k) t).states in
        record {
          text =
              ap (λ (x : Text). x ++ others) more ∙ append_assoc now one others ∙ ap (λ (f : pure.Followed). now ++ rest_text (n ∷ left) k s f.states) (sym is) ∙ g.text;
          stop = ap (λ (f : pure.Followed). f.stop) (sym is) ∙ g.stop;
        }

    pub going_halts : (h : Halt) (n : Turn) (left : List Turn) (k : ℕ) (s : State) (now new : Text) (o : Option Stop) → HaltsBy h (reply_to n s) → StopsAt h k (stop_of o) → new ≡ now
        → Going (n ∷ left) k s now → Shown new o
    going_halts h n left k s now new o e all same g =
        let is : rest (n ∷ left) k s ≡ record { states = []; stop = stop_of o } = halted_after h k (rest left (suc k)) (reply_to n s) (stop_of o) e all in
        let none : rest_text (n ∷ left) k s (rest (n ∷ left) k s).states ≡ [] = ap (λ (f : pure.Followed). rest_text (n ∷ left) k s f.states) is in
        record {
          text = same ∙ nothing_more now _ old _ none g.text;
          stop = sym (ap (λ (f : pure.Followed). f.stop) is) ∙ g.stop;
        }

    -- ---- of a list in memory

    abbrev pub GoingFrom : ℕ → State → Text → Type 0
    GoingFrom i s now = Going (drop i ns) (i + 1) s now

    from_one : (i : ℕ) (n : Turn) (s : State) (now : Text) → n ≡ get_or ns i n → i < length ns → GoingFrom i s now → Going (n ∷ drop (i + 1) ns) (i + 1) s now
    from_one i n s now is less g =
        subst (λ (left : List Turn). Going left (i + 1) s now) (drop_more ns i n less ∙ ap (λ (y : Turn). y ∷ drop (i + 1) ns) (sym is)) g

    pub next_from : (i : ℕ) (n : Turn) (s t : State) (now new : Text) → n ≡ get_or ns i n → i < length ns → reply_to n s ≡ reached t
        → new ≡ now ++ state_text P (i + 1) (turn_before P s n.who) t → GoingFrom i s now → GoingFrom (i + 1) t new
    next_from i n s t now new is less e more g =
        let on : suc (i + 1) ≡ i + 1 + 1 = omega arith in
        subst (λ (k : ℕ). Going (drop (i + 1) ns) k t new) on (going_next n (drop (i + 1) ns) (i + 1) s t now new e more (from_one i n s now is less g))

    pub halts_from : (h : Halt) (i : ℕ) (n : Turn) (s : State) (now new : Text) (o : Option Stop) → n ≡ get_or ns i n → i < length ns → HaltsBy h (reply_to n s)
        → StopsAt h (i + 1) (stop_of o) → new ≡ now → GoingFrom i s now → Shown new o
    halts_from h i n s now new o is less e all same g = going_halts h n (drop (i + 1) ns) (i + 1) s now new o e all same (from_one i n s now is less g)

    -- ---- what is answered

    pub ends_shown : {E : Type 0} (h : Halt) (i : ℕ) (n : Turn) (s : State) (now new : Text) (r : Result (Option Stop) E) → n ≡ get_or ns i n → i < length ns
        → HaltsBy h (reply_to n s) → Adds (state_text P (i + 1) (turn_before P s n.who)) now new (Err h) → GoingFrom i s now
        → IfOk r (λ o. StopsAt h (i + 1) (stop_of o)) → IfOk r (λ o. Shown new o)
    ends_shown h i n s now new (Ok o) is less e a g all =
        halts_from h i n s now new o is less e all (unchanged h (i + 1) (stop_of o) (state_text P (i + 1) (turn_before P s n.who)) now new all a) g
    ends_shown h i n s now new (Err e) is less d a g all = tt

-- ---- the whole run

module _ (P : Program) (c : Script) where
  abbrev pub RunShown : Text → Text → Option Stop → pure.Followed → Type 0
  RunShown old new o f = Shows (run_text P c.turns) old new o f

  pub begun_run : (vs : List Actor) (s : State) (old first new : Text) (o : Option Stop) → begun_in P c.choices vs ≡ reached s → first ≡ old ++ state_text P 0 initial s
      → Shows (turns_text P 1 c.turns s) first new o (turns_followed_in by_written_names P vs c.turns 1 s) → RunShown old new o (followed_in P c vs)
  begun_run vs s old first new o e more g =
      let go = turns_followed_in by_written_names P vs c.turns 1 in
      let is : followed_in P c vs ≡ record { states = s ∷ (go s).states; stop = (go s).stop } = ap (after_reply 0 go) e in
      let one = state_text P 0 initial s in
      let others = turns_text P 1 c.turns s (go s).states in
      record {
        text = g.text ∙ ap (λ (x : Text). x ++ others) more ∙ append_assoc old one others ∙ ap (λ (f : pure.Followed). old ++ run_text P c.turns f.states) (sym is);
        stop = g.stop ∙ ap (λ (f : pure.Followed). f.stop) (sym is);
      }

  pub none_shown : (old new : Text) (o : Option Stop) (f : pure.Followed) → new ≡ old → f ≡ record { states = []; stop = stop_of o } → RunShown old new o f
  none_shown old new o f same is = record {
    text = same ∙ sym (append-nil old) ∙ ap (λ (g : pure.Followed). old ++ run_text P c.turns g.states) (sym is);
    stop = ap (λ (g : pure.Followed). g.stop) (sym is);
  }

  pub run_shown : {E : Type 0} (vs : List Actor) (s : State) (choices : List ℕ) (ns : List Turn) (old first new : Text) (r : Result (Option Stop) E) → choices ≡ c.choices → ns ≡ c.turns
      → begun_in P choices vs ≡ reached s → first ≡ old ++ state_text P 0 initial s
      → IfOk r (λ o. Shows (turns_text P 1 ns s) first new o (turns_followed_in by_written_names P vs ns 1 s)) → IfOk r (λ o. RunShown old new o (followed_in P c vs))
  run_shown vs s choices ns old first new (Ok o) is are e more g =
      begun_run vs s old first new o (ap (λ (ks : List ℕ). begun_in P ks vs) (sym is) ∙ e) more
      (subst (λ (ms : List Turn). Shows (turns_text P 1 ms s) first new o (turns_followed_in by_written_names P vs ms 1 s)) are g)
  run_shown vs s choices ns old first new (Err d) is are e more g = tt

  pub untold_shown : {E : Type 0} (s : EvalStop) (h : Halt) (old : Text) (r : Result (Option Stop) E) → h ≡ halted s → Stops s (actors P)
      → IfOk r (λ o. StopsAt h 0 (stop_of o)) → IfOk r (λ o. RunShown old old o (followed_once P c))
  untold_shown s h old (Ok o) is e all =
      none_shown old old o (followed_once P c) refl (stopped_is s 0 (stop_of o) (actors P) (followed_for P c) (λ t. refl) e (subst (λ (j : Halt). StopsAt j 0 (stop_of o)) is all))
  untold_shown s h old (Err d) is e all = tt
