-- A file of constants, a script and a trace each spell something, or have a refusal.
use Rattle.std.proofs.Common.{◌≡◌, ◌⊎◌, inl, inr, ◌<◌, ◌≤◌, ◌+◌, ℕ, Bool, true, false, List, [], ◌∷◌, length, Option, Some, None, refl, sym, ap, subst, ◌∙◌, arith, codes}
use Rattle.std.proofs.lemmas.Bool.{cases_lt}
use Rattle.tla_token.specs.declared.rule.Refusal.{Refusal}
use Rattle.tla_tree.specs.Tree.{Word, words}
use Rattle.tla_value.specs.Value.{Value}
use Rattle.tla_value.specs.States.{Entries}
use Rattle.tla_value.specs.Outside.{Outside}
use Rattle.tla_value.specs.ValueSeen.{SpellsFrom}
use Rattle.tla_value.proofs.ValueDecided.{Told, value_told}
use Rattle.pcal_tree.specs.Script.{Turn}
use Rattle.step_runner.specs.Fronts.{Text, bad_line, next_at, past}
use Rattle.step_runner.specs.Stretches.{Stretch, states_of}
use Rattle.step_runner.specs.Items.{SpellsValues, OffendsAt}
use Rattle.step_runner.specs.Config.{SpellsConfig, ConfigOffends}
use Rattle.step_runner.specs.Script.{Script, SpellsWho, SpellsTurn, SpellTurns, SpellsLines, SpellsScript, TurnOffends, StartOffends, LinesOffend, ScriptOffends, step_choices, start_choices, line_begins, told_lines}
use Rattle.step_runner.specs.Trace.{SpellStates, AreSome, SpellsTrace, StatesOffend, EachOffend, TraceOffends}
use Rattle.step_runner.proofs.Offended.{none_some, same_some}
use Rattle.step_runner.proofs.ItemsTold.{values_told, next_within}
use Rattle.step_runner.proofs.FilesOnce.{who_once}

-- ---- constants

pub config_told : (o : Outside) (x : Text) → ((es : Entries) × SpellsConfig o x es) ⊎ ((r : Refusal) × ConfigOffends o x r)
config_told o x = by (values_told false (words o.constants) x)
  where
    by : ((es : Entries) × SpellsConfig o x es) ⊎ ((at : ℕ) × OffendsAt false (words o.constants) x at) → ((es : Entries) × SpellsConfig o x es) ⊎ ((r : Refusal) × ConfigOffends o x r)
    by (inl s) = inl s
    by (inr s) = inr (bad_line x s.0, (s.0, s.1, refl))

-- ---- scripts

abbrev WhoAt : Bool → Text → ℕ → Type 0
WhoAt m l from = (to : ℕ) × (who : Option Value) × SpellsWho m l from to who

who_told : (m : Bool) (l : Text) (from : ℕ) → Told (WhoAt m l from)
who_told false l from = inl (from, None, (refl, refl))
who_told true l from = by (value_told l (next_at l from))
  where
    none : (((to : ℕ) × (v : Value) × SpellsFrom l (next_at l from) to v) → ⊥) → (to : ℕ) (who : Option Value) → SpellsWho true l from to who → ⊥
    none n to (Some v) s = n (to, v, s)
    none n to None s = s

    by : Told ((to : ℕ) × (v : Value) × SpellsFrom l (next_at l from) to v) → Told (WhoAt true l from)
    by (inl v) = inl (v.0, Some v.1, v.2)
    by (inr n) = inr (λ w. none n w.0 w.1 w.2)

abbrev TurnOf : Bool → Text → Type 0
TurnOf m l = (n : Turn) × SpellsTurn m l n

turn_told : (m : Bool) (l : Text) → Told (TurnOf m l)
turn_told m l = front (past (codes "step") l (next_at l 0)) refl
  where
    choices : (from to : ℕ) (who : Option Value) → past (codes "step") l (next_at l 0) ≡ Some from → SpellsWho m l from to who → (o : Option (List ℕ)) → step_choices l to ≡ o → Told (TurnOf m l)
    choices from to who e s (Some ns) c = inl (record { who = who; choices = ns }, (from, to, e, s, c))
    choices from to who e s None c = inr (λ t.
        let F : ℕ → Type 0 = λ k. SpellsWho m l k t.1.1 t.0.who in
        let w = who_once m l from t.1.1 to t.0.who who (subst F (same_some t.1.0 from (sym t.1.2 ∙ e)) t.1.3) s in
        none_some t.0.choices (sym c ∙ ap (step_choices l) (sym w.0) ∙ t.1.4))

    who : (from : ℕ) → past (codes "step") l (next_at l 0) ≡ Some from → Told (WhoAt m l from) → Told (TurnOf m l)
    who from e (inl w) = choices from w.0 w.1 e w.2 (step_choices l w.0) refl
    who from e (inr n) = inr (λ t.
        let F : ℕ → Type 0 = λ k. SpellsWho m l k t.1.1 t.0.who in
        n (t.1.1, t.0.who, subst F (same_some t.1.0 from (sym t.1.2 ∙ e)) t.1.3))

    front : (o : Option ℕ) → past (codes "step") l (next_at l 0) ≡ o → Told (TurnOf m l)
    front None e = inr (λ t. none_some t.1.0 (sym e ∙ t.1.2))
    front (Some from) e = who from e (who_told m l from)

abbrev TurnsOf : Bool → List Stretch → Type 0
TurnsOf m ls = ((ns : List Turn) × SpellTurns m ls ns) ⊎ ((at : ℕ) × TurnOffends m ls at)

turns_told : (m : Bool) (ls : List Stretch) → TurnsOf m ls
turns_told m [] = inl ([], tt)
turns_told m (l ∷ ls) = by (turn_told m l.text) (turns_told m ls)
  where
    by : Told (TurnOf m l.text) → TurnsOf m ls → TurnsOf m (l ∷ ls)
    by (inr n) t = inr (line_begins l, inl (refl, λ o s. n (o, s)))
    by (inl t) (inl ts) = inl (t.0 ∷ ts.0, (t.1, ts.1))
    by (inl t) (inr o) = inr (o.0, inr (t, o.1))

abbrev LinesOf : Bool → Text → List Stretch → Type 0
LinesOf m x ls = ((s : Script) × SpellsLines m ls s) ⊎ ((at : ℕ) × LinesOffend m x ls at)

lines_told : (m : Bool) (x : Text) (ls : List Stretch) → LinesOf m x ls
lines_told m x [] = inr (length x, refl)
lines_told m x (l ∷ ls) = start (start_choices l.text) refl
  where
    turns : (ns : List ℕ) → start_choices l.text ≡ Some ns → TurnsOf m ls → LinesOf m x (l ∷ ls)
    turns ns e (inl t) = inl (record { choices = ns; turns = t.0 }, (e, t.1))
    turns ns e (inr o) = (let F : Option (List ℕ) → Type 0 = λ c. StartOffends m c l ls o.0 in inr (o.0, subst F (sym e) o.1))

    start : (o : Option (List ℕ)) → start_choices l.text ≡ o → LinesOf m x (l ∷ ls)
    start None e = (let F : Option (List ℕ) → Type 0 = λ c. StartOffends m c l ls (line_begins l) in inr (line_begins l, subst F (sym e) refl))
    start (Some ns) e = turns ns e (turns_told m ls)

pub script_told : (m : Bool) (x : Text) → ((s : Script) × SpellsScript m x s) ⊎ ((r : Refusal) × ScriptOffends m x r)
script_told m x = by (lines_told m x (told_lines x))
  where
    by : LinesOf m x (told_lines x) → ((s : Script) × SpellsScript m x s) ⊎ ((r : Refusal) × ScriptOffends m x r)
    by (inl s) = inl s
    by (inr o) = inr (bad_line x o.0, (o.0, o.1, refl))

-- ---- traces

abbrev StatesOf : List Word → List Stretch → Type 0
StatesOf vars ss = ((a : List Entries) × SpellStates vars ss a) ⊎ ((at : ℕ) × StatesOffend vars ss at)

states_told : (vars : List Word) (ss : List Stretch) → StatesOf vars ss
states_told vars [] = inl ([], tt)
states_told vars (s ∷ ss) = by (values_told true vars s.text) (states_told vars ss)
  where
    by : ((es : Entries) × SpellsValues true vars s.text es) ⊎ ((at : ℕ) × OffendsAt true vars s.text at) → StatesOf vars ss → StatesOf vars (s ∷ ss)
    by (inr o) t = inr (s.from + o.0, inl (o.0, o.1, refl))
    by (inl v) (inl t) = inl (v.0 ∷ t.0, (v.1, t.1))
    by (inl v) (inr o) = inr (o.0, inr (v, o.1))

abbrev EachOf : List Word → Text → List Stretch → Type 0
EachOf vars x ss = ((a : List Entries) × AreSome a × SpellStates vars ss a) ⊎ ((at : ℕ) × EachOffend vars x ss at)

each_told : (vars : List Word) (x : Text) (ss : List Stretch) → EachOf vars x ss
each_told vars x [] = inr (length x, refl)
each_told vars x (s ∷ ss) = by (states_told vars (s ∷ ss))
  where
    whole : (a : List Entries) → SpellStates vars (s ∷ ss) a → EachOf vars x (s ∷ ss)
    whole [] g = absurd g
    whole (e ∷ a) g = inl (e ∷ a, tt, g)

    by : StatesOf vars (s ∷ ss) → EachOf vars x (s ∷ ss)
    by (inl g) = whole g.0 g.1
    by (inr o) = inr o

pub trace_told : (vars : List Word) (x : Text) → ((a : List Entries) × SpellsTrace vars x a) ⊎ ((r : Refusal) × TraceOffends vars x r)
trace_told vars x = front (cases_lt (next_at (states_of x).front.text 0) (length (states_of x).front.text))
  where
    each : next_at (states_of x).front.text 0 ≡ length (states_of x).front.text → EachOf vars x (states_of x).each → ((a : List Entries) × SpellsTrace vars x a) ⊎ ((r : Refusal) × TraceOffends vars x r)
    each e (inl g) = inl (g.0, (e, g.1, g.2))
    each e (inr o) = inr (bad_line x o.0, (o.0, inr (e, o.1), refl))

    front : (next_at (states_of x).front.text 0 < length (states_of x).front.text) ⊎ (length (states_of x).front.text ≤ next_at (states_of x).front.text 0)
        → ((a : List Entries) × SpellsTrace vars x a) ⊎ ((r : Refusal) × TraceOffends vars x r)
    front (inl l) = inr (bad_line x (next_at (states_of x).front.text 0), (next_at (states_of x).front.text 0, inl (refl, l), refl))
    front (inr l) = each (omega (arith, l, next_within (states_of x).front.text 0 (omega arith))) (each_told vars x (states_of x).each)
