-- Lines that are steps, one after the other, and the first that is none.
use Rattle.std.proofs.Common.{◌≡◌, inl, inr, ℕ, ◌+◌, Bool, List, [], ◌∷◌, ◌++◌, codes, Option, Some, None, sym, ap, subst, ◌∙◌, append_assoc}
use Rattle.tla_token.specs.Tokens.{stretch}
use Rattle.tla_value.specs.Value.{Value}
use Rattle.pcal_tree.specs.Script.{Turn}
use Rattle.step_runner.specs.Fronts.{Text, next_at, past}
use Rattle.step_runner.specs.Stretches.{Stretch}
use Rattle.step_runner.specs.Script.{SpellsWho, SpellsTurn, SpellTurns, TurnOffends, step_choices}
use Rattle.step_runner.proofs.Offended.{none_some, same_some}
use Rattle.step_runner.proofs.FilesOnce.{who_once}
use Rattle.run_files.specs.declared.lines.Line.{Line}
use Rattle.run_files.specs.Lines.{told_from, line_of, Told}
use Rattle.run_files.specs.Turns.{TurnsSoFar}

-- ---- one step

pub no_choices : (m : Bool) (l : Text) (from to : ℕ) (who : Option Value) → Some from ≡ past (codes "step") l (next_at l 0) → SpellsWho m l from to who → None ≡ step_choices l to → (n : Turn) → SpellsTurn m l n → ⊥
no_choices m l from to who e w c n s =
    let F : ℕ → Type 0 = λ k. SpellsWho m l k s.1 n.who in
    let once = who_once m l from s.1 to n.who who (subst F (sym (same_some from s.0 (e ∙ s.2))) s.3) w in
    none_some n.choices (c ∙ ap (step_choices l) (sym once.0) ∙ s.4)

-- ---- one after the other

turns_more : (m : Bool) (ls : List Stretch) (ns : List Turn) (l : Stretch) (n : Turn) → SpellTurns m ls ns → SpellsTurn m l.text n → SpellTurns m (ls ++ l ∷ []) (ns ++ n ∷ [])
turns_more m [] [] l n s t = (t, tt)
turns_more m [] (o ∷ ns) l n s t = absurd s
turns_more m (k ∷ ls) [] l n s t = absurd s
turns_more m (k ∷ ls) (o ∷ ns) l n s t = (s.0, turns_more m ls ns l n s.1 t)

offends_behind : (m : Bool) (ls more : List Stretch) (ns : List Turn) (at : ℕ) → SpellTurns m ls ns → TurnOffends m more at → TurnOffends m (ls ++ more) at
offends_behind m [] more ns at s o = o
offends_behind m (l ∷ ls) more [] at s o = absurd s
offends_behind m (l ∷ ls) more (n ∷ ns) at s o = inr ((n, s.0), offends_behind m ls more ns at s.1 o)

pub turn_passed : (m : Bool) (x : Text) (from at : ℕ) (ns os : List Turn) (l : Line) (n : Turn) → TurnsSoFar m x from ns at → Told x at l → SpellsTurn m (stretch x l.from l.to) n → os ≡ ns ++ n ∷ [] → TurnsSoFar m x from os l.to
turn_passed m x from at ns os l n s t g e =
    let F : List Turn → Type 0 = λ k. TurnsSoFar m x from k l.to in
    subst F (sym e) (
      s.0 ++ line_of x l ∷ [],
      s.1 ∙ ap (λ (k : List Stretch). s.0 ++ k) t.first ∙ sym (append_assoc s.0 (line_of x l ∷ []) (told_from x l.to)),
      turns_more m s.0 ns (line_of x l) n s.2 g,
    )

pub turns_stop : (m : Bool) (x : Text) (from at : ℕ) (ns : List Turn) (l : Line) → TurnsSoFar m x from ns at → Told x at l → ((n : Turn) → SpellsTurn m (stretch x l.from l.to) n → ⊥) → TurnOffends m (told_from x from) (l.from + l.begin)
turns_stop m x from at ns l s t h =
    let whole = s.1 ∙ ap (λ (k : List Stretch). s.0 ++ k) t.first in
    let first : TurnOffends m (line_of x l ∷ told_from x l.to) (l.from + l.begin) = inl (ap (λ (k : ℕ). l.from + k) t.begin, h) in
    subst (λ (k : List Stretch). TurnOffends m k (l.from + l.begin)) (sym whole) (offends_behind m s.0 (line_of x l ∷ told_from x l.to) ns (l.from + l.begin) s.2 first)
