-- A file of constants, a script and a trace each spell one thing, or have one refusal.
use Rattle.std.proofs.Common.{◌≡◌, ◌⊎◌, inl, inr, ◌+◌, ℕ, Bool, true, false, List, [], ◌∷◌, length, Option, Some, None, refl, sym, ap, subst, ◌∙◌, arith}
use Rattle.tla_token.specs.declared.rule.Refusal.{Refusal}
use Rattle.tla_tree.specs.Tree.{Word, words}
use Rattle.tla_value.specs.Value.{Value}
use Rattle.tla_value.specs.States.{Entries}
use Rattle.tla_value.specs.Outside.{Outside}
use Rattle.tla_value.proofs.ValueOnce.{value_once}
use Rattle.pcal_tree.specs.Script.{Turn}
use Rattle.step_runner.specs.Fronts.{Text, bad_line, next_at}
use Rattle.step_runner.specs.Stretches.{Stretch, states_of}
use Rattle.step_runner.specs.Config.{SpellsConfig, ConfigOffends}
use Rattle.step_runner.specs.Script.{Script, SpellsWho, SpellsTurn, SpellTurns, SpellsLines, SpellsScript, TurnOffends, StartOffends, LinesOffend, ScriptOffends, step_choices, start_choices, told_lines}
use Rattle.step_runner.specs.Trace.{SpellStates, SpellsTrace, StatesOffend, EachOffend, FrontOffends, TraceOffends}
use Rattle.step_runner.proofs.Offended.{none_some, same_some}
use Rattle.step_runner.proofs.ItemsOnce.{values_once, values_or_offence, offence_once}

same_refusal : (x : Text) (at to : ℕ) (r q : Refusal) → at ≡ to → r ≡ bad_line x at → q ≡ bad_line x to → r ≡ q
same_refusal x at to r q e s t = s ∙ ap (bad_line x) e ∙ sym t

-- ---- constants

pub config_once : (o : Outside) (x : Text) (es fs : Entries) → SpellsConfig o x es → SpellsConfig o x fs → es ≡ fs
config_once o x es fs s t = values_once false (words o.constants) x es fs s t

pub config_or_offence : (o : Outside) (x : Text) (es : Entries) (r : Refusal) → SpellsConfig o x es → ConfigOffends o x r → ⊥
config_or_offence o x es r s t = values_or_offence false (words o.constants) x es t.0 s t.1

pub config_refused_once : (o : Outside) (x : Text) (r q : Refusal) → ConfigOffends o x r → ConfigOffends o x q → r ≡ q
config_refused_once o x r q s t = same_refusal x s.0 t.0 r q (offence_once false (words o.constants) x s.0 t.0 s.1 t.1) s.2 t.2

-- ---- scripts

pub who_once : (m : Bool) (l : Text) (from to end : ℕ) (v w : Option Value) → SpellsWho m l from to v → SpellsWho m l from end w → (to ≡ end) × (v ≡ w)
who_once true l from to end (Some v) (Some w) s t =
    let once = value_once l (next_at l from) to end v w s t in (once.0, ap (λ (u : Value). Some u) once.1)
who_once true l from to end None w s t = absurd s
who_once true l from to end (Some v) None s t = absurd t
who_once false l from to end v w s t = (sym s.0 ∙ t.0, s.1 ∙ sym t.1)

turn_once : (m : Bool) (l : Text) (n o : Turn) → SpellsTurn m l n → SpellsTurn m l o → n ≡ o
turn_once m l n o s t =
    let front : s.0 ≡ t.0 = same_some s.0 t.0 (sym s.2 ∙ t.2) in
    let F : ℕ → Type 0 = λ k. SpellsWho m l k s.1 n.who in
    let who = who_once m l t.0 s.1 t.1 n.who o.who (subst F front s.3) t.3 in
    let choices : n.choices ≡ o.choices = same_some n.choices o.choices (sym s.4 ∙ ap (step_choices l) who.0 ∙ t.4) in
    λ i. record { who = who.1 i; choices = choices i }

turns_once : (m : Bool) (ls : List Stretch) (ns os : List Turn) → SpellTurns m ls ns → SpellTurns m ls os → ns ≡ os
turns_once m [] [] [] s t = refl
turns_once m [] (n ∷ ns) os s t = absurd s
turns_once m [] [] (o ∷ os) s t = absurd t
turns_once m (l ∷ ls) [] os s t = absurd s
turns_once m (l ∷ ls) (n ∷ ns) [] s t = absurd t
turns_once m (l ∷ ls) (n ∷ ns) (o ∷ os) s t =
    let first = turn_once m l.text n o s.0 t.0 in
    let rest = turns_once m ls ns os s.1 t.1 in
    λ i. first i ∷ rest i

lines_once : (m : Bool) (ls : List Stretch) (s t : Script) → SpellsLines m ls s → SpellsLines m ls t → s ≡ t
lines_once m [] s t g h = absurd g
lines_once m (l ∷ ls) s t g h =
    let choices = same_some s.choices t.choices (sym g.0 ∙ h.0) in
    let turns = turns_once m ls s.turns t.turns g.1 h.1 in
    λ i. record { choices = choices i; turns = turns i }

pub script_once : (m : Bool) (x : Text) (s t : Script) → SpellsScript m x s → SpellsScript m x t → s ≡ t
script_once m x s t g h = lines_once m (told_lines x) s t g h

turns_or_offence : (m : Bool) (ls : List Stretch) (ns : List Turn) (at : ℕ) → SpellTurns m ls ns → TurnOffends m ls at → ⊥
turns_or_offence m [] ns at s o = o
turns_or_offence m (l ∷ ls) [] at s o = s
turns_or_offence m (l ∷ ls) (n ∷ ns) at s (inl o) = o.1 n s.0
turns_or_offence m (l ∷ ls) (n ∷ ns) at s (inr o) = turns_or_offence m ls ns at s.1 o.1

start_or_offence : (m : Bool) (c : Option (List ℕ)) (l : Stretch) (ls : List Stretch) (ns : List ℕ) (ts : List Turn) (at : ℕ) → c ≡ Some ns → SpellTurns m ls ts → StartOffends m c l ls at → ⊥
start_or_offence m None l ls ns ts at e s o = none_some ns e
start_or_offence m (Some ms) l ls ns ts at e s o = turns_or_offence m ls ts at s o

lines_or_offence : (m : Bool) (x : Text) (ls : List Stretch) (s : Script) (at : ℕ) → SpellsLines m ls s → LinesOffend m x ls at → ⊥
lines_or_offence m x [] s at g o = g
lines_or_offence m x (l ∷ ls) s at g o = start_or_offence m (start_choices l.text) l ls s.choices s.turns at g.0 g.1 o

pub script_or_offence : (m : Bool) (x : Text) (s : Script) (r : Refusal) → SpellsScript m x s → ScriptOffends m x r → ⊥
script_or_offence m x s r g o = lines_or_offence m x (told_lines x) s o.0 g o.1

turn_offence_once : (m : Bool) (ls : List Stretch) (at to : ℕ) → TurnOffends m ls at → TurnOffends m ls to → at ≡ to
turn_offence_once m [] at to s t = absurd s
turn_offence_once m (l ∷ ls) at to (inl s) (inl t) = s.0 ∙ sym t.0
turn_offence_once m (l ∷ ls) at to (inl s) (inr t) = absurd (s.1 t.0.0 t.0.1)
turn_offence_once m (l ∷ ls) at to (inr s) (inl t) = absurd (t.1 s.0.0 s.0.1)
turn_offence_once m (l ∷ ls) at to (inr s) (inr t) = turn_offence_once m ls at to s.1 t.1

start_offence_once : (m : Bool) (c : Option (List ℕ)) (l : Stretch) (ls : List Stretch) (at to : ℕ) → StartOffends m c l ls at → StartOffends m c l ls to → at ≡ to
start_offence_once m None l ls at to s t = s ∙ sym t
start_offence_once m (Some ns) l ls at to s t = turn_offence_once m ls at to s t

lines_offence_once : (m : Bool) (x : Text) (ls : List Stretch) (at to : ℕ) → LinesOffend m x ls at → LinesOffend m x ls to → at ≡ to
lines_offence_once m x [] at to s t = s ∙ sym t
lines_offence_once m x (l ∷ ls) at to s t = start_offence_once m (start_choices l.text) l ls at to s t

pub script_refused_once : (m : Bool) (x : Text) (r q : Refusal) → ScriptOffends m x r → ScriptOffends m x q → r ≡ q
script_refused_once m x r q s t = same_refusal x s.0 t.0 r q (lines_offence_once m x (told_lines x) s.0 t.0 s.1 t.1) s.2 t.2

-- ---- traces

states_once : (vars : List Word) (ss : List Stretch) (a b : List Entries) → SpellStates vars ss a → SpellStates vars ss b → a ≡ b
states_once vars [] [] [] s t = refl
states_once vars [] (e ∷ a) b s t = absurd s
states_once vars [] [] (e ∷ b) s t = absurd t
states_once vars (s ∷ ss) [] b g h = absurd g
states_once vars (s ∷ ss) (e ∷ a) [] g h = absurd h
states_once vars (s ∷ ss) (e ∷ a) (f ∷ b) g h =
    let first = values_once true vars s.text e f g.0 h.0 in
    let rest = states_once vars ss a b g.1 h.1 in
    λ i. first i ∷ rest i

pub trace_once : (vars : List Word) (x : Text) (a b : List Entries) → SpellsTrace vars x a → SpellsTrace vars x b → a ≡ b
trace_once vars x a b s t = states_once vars (states_of x).each a b s.2 t.2

states_or_offence : (vars : List Word) (ss : List Stretch) (a : List Entries) (at : ℕ) → SpellStates vars ss a → StatesOffend vars ss at → ⊥
states_or_offence vars [] a at g o = o
states_or_offence vars (s ∷ ss) [] at g o = g
states_or_offence vars (s ∷ ss) (e ∷ a) at g (inl o) = values_or_offence true vars s.text e o.0 g.0 o.1
states_or_offence vars (s ∷ ss) (e ∷ a) at g (inr o) = states_or_offence vars ss a at g.1 o.1

each_or_offence : (vars : List Word) (x : Text) (ss : List Stretch) (e : Entries) (a : List Entries) (at : ℕ) → SpellStates vars ss (e ∷ a) → EachOffend vars x ss at → ⊥
each_or_offence vars x [] e a at g o = g
each_or_offence vars x (s ∷ ss) e a at g o = states_or_offence vars (s ∷ ss) (e ∷ a) at g o

pub trace_or_offence : (vars : List Word) (x : Text) (a : List Entries) (r : Refusal) → SpellsTrace vars x a → TraceOffends vars x r → ⊥
trace_or_offence vars x [] r s o = s.1
trace_or_offence vars x (e ∷ a) r s o = by o.1
  where
    by : FrontOffends (states_of x).front.text o.0 ⊎ ((next_at (states_of x).front.text 0 ≡ length (states_of x).front.text) × EachOffend vars x (states_of x).each o.0) → ⊥
    by (inl f) = omega (arith, f.0, f.1, s.0)
    by (inr f) = each_or_offence vars x (states_of x).each e a o.0 s.2 f.1

states_offence_once : (vars : List Word) (ss : List Stretch) (at to : ℕ) → StatesOffend vars ss at → StatesOffend vars ss to → at ≡ to
states_offence_once vars [] at to s t = absurd s
states_offence_once vars (s ∷ ss) at to (inl g) (inl h) = g.2 ∙ ap (λ (k : ℕ). s.from + k) (offence_once true vars s.text g.0 h.0 g.1 h.1) ∙ sym h.2
states_offence_once vars (s ∷ ss) at to (inl g) (inr h) = absurd (values_or_offence true vars s.text h.0.0 g.0 h.0.1 g.1)
states_offence_once vars (s ∷ ss) at to (inr g) (inl h) = absurd (values_or_offence true vars s.text g.0.0 h.0 g.0.1 h.1)
states_offence_once vars (s ∷ ss) at to (inr g) (inr h) = states_offence_once vars ss at to g.1 h.1

each_offence_once : (vars : List Word) (x : Text) (ss : List Stretch) (at to : ℕ) → EachOffend vars x ss at → EachOffend vars x ss to → at ≡ to
each_offence_once vars x [] at to s t = s ∙ sym t
each_offence_once vars x (s ∷ ss) at to g h = states_offence_once vars (s ∷ ss) at to g h

pub trace_refused_once : (vars : List Word) (x : Text) (r q : Refusal) → TraceOffends vars x r → TraceOffends vars x q → r ≡ q
trace_refused_once vars x r q s t = same_refusal x s.0 t.0 r q (by s.1 t.1) s.2 t.2
  where
    by : FrontOffends (states_of x).front.text s.0 ⊎ ((next_at (states_of x).front.text 0 ≡ length (states_of x).front.text) × EachOffend vars x (states_of x).each s.0)
        → FrontOffends (states_of x).front.text t.0 ⊎ ((next_at (states_of x).front.text 0 ≡ length (states_of x).front.text) × EachOffend vars x (states_of x).each t.0) → s.0 ≡ t.0
    by (inl g) (inl h) = g.0 ∙ sym h.0
    by (inl g) (inr h) = absurd (omega (arith, g.0, g.1, h.0))
    by (inr g) (inl h) = absurd (omega (arith, h.0, h.1, g.0))
    by (inr g) (inr h) = each_offence_once vars x (states_of x).each s.0 t.0 g.1 h.1
