-- The states of a trace, one after the other: the lines that begin them, their values, and the first that offends.
use Rattle.std.proofs.Common.{◌≡◌, inl, inr, ℕ, suc, ◌+◌, ◌-◌, ◌<◌, ◌≤◌, Bool, true, false, nat_eq, List, [], ◌∷◌, ◌++◌, length, take, drop, get_or, Err, refl, sym, ap, subst, ◌∙◌, arith, append-nil, append_assoc, lt-ltb, le-ltb}
use Rattle.std.specs.Prelude.{if◌then◌else◌}
use Rattle.std.proofs.lemmas.List.{length-drop, length-take-le, drop_all, take_all, take_more}
use Rattle.std.proofs.Math.Seq.{take-add}
use Rattle.tla_token.specs.declared.rule.Refusal.{Refusal}
use Rattle.tla_token.specs.Tokens.{stretch}
use Rattle.tla_token.proofs.Scans.{drop_more}
use Rattle.tla_tree.specs.Tree.{Word}
use Rattle.tla_value.specs.States.{Entries}
use Rattle.algorithm_limits.specs.DepthsIn.{Hides}
use Rattle.algorithm_limits.proofs.BoundLemmas.{hides_none, hides_then, hides_as}
use Rattle.step_runner.specs.Fronts.{Text, bad_line, next_at}
use Rattle.step_runner.specs.Stretches.{Stretch, States, with_byte, lines_from, begins_state, with_line, states_in, states_of}
use Rattle.step_runner.specs.Items.{names_of, are_all, SpellsValues, OffendsAt}
use Rattle.step_runner.specs.Trace.{SpellStates, StatesOffend, EachOffend, TraceOffends}
use Rattle.run_files.specs.declared.items.Halt.{Halt}
use Rattle.run_files.specs.declared.items.Halt.TheVariants as halt
use Rattle.run_files.specs.declared.trace.Heading.{Heading}
use Rattle.run_files.specs.SoFar.{SoFar, ItemsAnswer}
use Rattle.run_files.specs.Lines.{IsLine}
use Rattle.run_files.specs.Headings.{states_from, each_from, piece, Passes, headed, Heads, StateAnswer, StatesSoFar}
use Rattle.run_files.proofs.ItemLaws.{known_same, whole_values, name_missing, item_missing}

-- ---- where the first state begins

begins_by : (l : Stretch) (s : States) (c : Bool) → begins_state l.text ≡ c
    → with_line l s ≡ (if c then record { front = record { from = l.from; text = [] }; each = s.front ∷ s.each } else record { front = record { from = l.from; text = l.text ++ s.front.text }; each = s.each })
begins_by l s c h = ap (λ (b : Bool). if b then record { front = record { from = l.from; text = [] }; each = s.front ∷ s.each } else record { front = record { from = l.from; text = l.text ++ s.front.text }; each = s.each }) h

front_line : (l : Stretch) (s : States) → (with_line l s).front.from ≡ l.from
front_line l s = by (begins_state l.text) refl
  where
    by : (c : Bool) → begins_state l.text ≡ c → (with_line l s).front.from ≡ l.from
    by true h = ap (λ (t : States). t.front.from) (begins_by l s true h)
    by false h = ap (λ (t : States). t.front.from) (begins_by l s false h)

first_at : (end at b : ℕ) (c : Bool) (ls : List Stretch) → (states_in end (with_byte c at b ls)).front.from ≡ at
first_at end at b true ls = front_line (record { from = at; text = b ∷ [] }) (states_in end ls)
first_at end at b false [] = front_line (record { from = at; text = b ∷ [] }) (states_in end [])
first_at end at b false (l ∷ ls) = front_line (record { from = at; text = b ∷ l.text }) (states_in end ls)

from_at : (x : Text) (at : ℕ) → at ≤ length x → (states_from x at).front.from ≡ at
from_at x at l = by (drop at x) (length-drop at x)
  where
    by : (t : Text) → length t ≡ length x - at → (states_in (length x) (lines_from at t)).front.from ≡ at
    by [] e = (let h : length x ≡ at = omega (arith, l, e) in h)
    by (b ∷ bs) e = first_at (length x) at b (nat_eq b 10) (lines_from (suc at) bs)

joined : (x : Text) (at from to : ℕ) → at ≤ from → from ≤ to → stretch x at from ++ stretch x from to ≡ stretch x at to
joined x at from to l h =
    let e : to - at ≡ (from - at) + (to - from) = omega (arith, l, h) in
    let g : at + (from - at) ≡ from = omega (arith, l) in
    sym (ap (λ (n : ℕ). take n (drop at x)) e ∙ take-add (from - at) (to - from) (drop at x)
    ∙ ap (λ (t : Text). stretch x at from ++ take (to - from) t) (drop_more at (from - at) x ∙ ap (λ (n : ℕ). drop n x) g))

none_between : (x : Text) (at : ℕ) → stretch x at at ≡ []
none_between x at = (let e : at - at ≡ 0 = omega arith in ap (λ (n : ℕ). take n (drop at x)) e)

pub passes_none : (x : Text) (at : ℕ) → at ≤ length x → Passes x at at
passes_none x at l =
    let s = states_from x at in
    λ i. record { from = from_at x at l i; text = sym (ap (λ (t : Text). t ++ s.front.text) (none_between x at)) i } ∷ s.each

a_line : (x : Text) (from to : ℕ) → IsLine x from to → states_from x from ≡ with_line (piece x from to) (states_from x to)
a_line x from to s = ap (states_in (length x)) s.2

goes_on : (x : Text) (at from : ℕ) (s : States) → Passes x at from → states_from x from ≡ s → each_from x at ≡ record { from = at; text = stretch x at from ++ s.front.text } ∷ s.each
goes_on x at from s p e = p ∙ ap (λ (t : States). record { from = at; text = stretch x at from ++ t.front.text } ∷ t.each) e

pub passes_more : (x : Text) (at from to : ℕ) → at ≤ from → Passes x at from → IsLine x from to → begins_state (stretch x from to) ≡ false → Passes x at to
passes_more x at from to l p s b =
    let w = stretch x from to in
    let t = states_from x to in
    goes_on x at from (record { front = record { from = from; text = w ++ t.front.text }; each = t.each }) p (a_line x from to s ∙ begins_by (piece x from to) t false b)
    ∙ ap (λ (u : Text). record { from = at; text = u } ∷ t.each) (sym (append_assoc (stretch x at from) w t.front.text) ∙ ap (λ (u : Text). u ++ t.front.text) (joined x at from to l (omega (arith, s.0))))

behind : (x : Text) (h : Heading) → h.from < h.to → headed x h ≡ each_from x h.to
behind x h l = ap (λ (b : Bool). if b then each_from x h.to else []) (lt-ltb h.from h.to l)

nothing_behind : (x : Text) (h : Heading) → h.to ≤ h.from → headed x h ≡ []
nothing_behind x h l = ap (λ (b : Bool). if b then each_from x h.to else []) (le-ltb h.from h.to l)

pub heads_found : (x : Text) (at from to : ℕ) → at ≤ from → Passes x at from → IsLine x from to → begins_state (stretch x from to) ≡ true → Heads x at (record { from = from; to = to })
heads_found x at from to l p s b =
    let t = states_from x to in
    record {
      after = l;
      within = omega (arith, s.0);
      inside = s.1;
      first =
          goes_on x at from (record { front = record { from = from; text = [] }; each = t.front ∷ t.each }) p (a_line x from to s ∙ begins_by (piece x from to) t true b)
          ∙ ap (λ (u : Text). record { from = at; text = u } ∷ each_from x to) (append-nil (stretch x at from))
          ∙ ap (λ (ss : List Stretch). piece x at from ∷ ss) (sym (behind x (record { from = from; to = to }) s.0));
    }

pub heads_none : (x : Text) (at from : ℕ) → at ≤ from → from ≤ length x → length x ≤ from → Passes x at from → Heads x at (record { from = from; to = from })
heads_none x at from l i g p = record {
  after = l;
  within = omega arith;
  inside = i;
  first =
      goes_on x at from (record { front = record { from = length x; text = [] }; each = [] }) p (ap (λ (t : Text). states_in (length x) (lines_from from t)) (drop_all from x g))
      ∙ ap (λ (u : Text). record { from = at; text = u } ∷ []) (append-nil (stretch x at from))
      ∙ ap (λ (ss : List Stretch). piece x at from ∷ ss) (sym (nothing_behind x (record { from = from; to = from }) (omega arith)));
}

-- ---- names that are looked up

pub known_none : (known : List Word) → known ≡ [] → Hides [] known []
known_none known e = subst (λ (l : List Word). Hides [] l []) (sym e) (hides_none [])

pub known_more : (now new names : List Word) (i : ℕ) (n : Word) → n ≡ get_or names i n → i < length names → Hides [] now (take i names) → Hides now new (n ∷ []) → Hides [] new (take (i + 1) names)
known_more now new names i n e l h k =
    hides_as [] new (take i names ++ n ∷ []) (take (i + 1) names) (sym (take_more names i n l ∙ ap (λ (x : Word). take i names ++ x ∷ []) (sym e))) (hides_then [] now new (take i names) (n ∷ []) h k)

pub known_all : (now names : List Word) (i : ℕ) → length names ≤ i → Hides [] now (take i names) → Hides [] now names
known_all now names i l h = hides_as [] now (take i names) names (take_all i names l) h

-- ---- one state

pub state_read : (known vars : List Word) (x : Text) (es : Entries) → Hides [] known vars → SoFar true known x es (length x) → are_all vars (names_of es) ≡ true → SpellsValues true vars x es
state_read known vars x es h s all = whole_values true known vars x es (known_same known vars h) s all

pub state_lacks : (known vars : List Word) (x : Text) (es : Entries) → Hides [] known vars → SoFar true known x es (length x) → are_all vars (names_of es) ≡ false → OffendsAt true vars x (length x) × (length x ≤ length x)
state_lacks known vars x es h s all = (name_missing true known vars x es (known_same known vars h) s all, omega arith)

pub state_stops : (known vars : List Word) (x : Text) (old new : List Entries) (h : Halt) → Hides [] known vars → ItemsAnswer true known x (Err h) → StateAnswer vars x old new (Err h)
state_stops known vars x old new halt.Memory k a = tt
state_stops known vars x old new (halt.At n) k a = (item_missing true known vars x a.0 n (known_same known vars k) a.1 a.2, omega (arith, a.2.0))

-- ---- one after the other

states_more : (vars : List Word) (ss : List Stretch) (all : List Entries) (s : Stretch) (es : Entries) → SpellStates vars ss all → SpellsValues true vars s.text es → SpellStates vars (ss ++ s ∷ []) (all ++ es ∷ [])
states_more vars [] [] s es g v = (v, tt)
states_more vars [] (e ∷ all) s es g v = absurd g
states_more vars (t ∷ ss) [] s es g v = absurd g
states_more vars (t ∷ ss) (e ∷ all) s es g v = (g.0, states_more vars ss all s es g.1 v)

offend_behind : (vars : List Word) (ss more : List Stretch) (all : List Entries) (at : ℕ) → SpellStates vars ss all → StatesOffend vars more at → StatesOffend vars (ss ++ more) at
offend_behind vars [] more all at g o = o
offend_behind vars (s ∷ ss) more [] at g o = absurd g
offend_behind vars (s ∷ ss) more (e ∷ all) at g o = inr ((e, g.0), offend_behind vars ss more all at g.1 o)

whole : (x : Text) (from at : ℕ) (h : Heading) (ss rest : List Stretch) → each_from x from ≡ ss ++ each_from x at → Heads x at h → headed x h ≡ rest → each_from x from ≡ ss ++ (piece x at h.from ∷ rest)
whole x from at h ss rest e s r = e ∙ ap (λ (k : List Stretch). ss ++ k) (s.first ∙ ap (λ (k : List Stretch). piece x at h.from ∷ k) r)

pub state_passed : (vars : List Word) (x : Text) (from at : ℕ) (h : Heading) (all more : List Entries) (es : Entries) → StatesSoFar vars x from all at → Heads x at h → h.from < h.to → SpellsValues true vars (stretch x at h.from) es → more ≡ all ++ es ∷ []
    → StatesSoFar vars x from more h.to
state_passed vars x from at h all more es s k l v e =
    let F : List Entries → Type 0 = λ a. StatesSoFar vars x from a h.to in
    let p = piece x at h.from in
    subst F (sym e) (s.0 ++ p ∷ [], whole x from at h s.0 (each_from x h.to) s.1 k (behind x h l) ∙ sym (append_assoc s.0 (p ∷ []) (each_from x h.to)), states_more vars s.0 all p es s.2 v)

pub states_end : (vars : List Word) (x : Text) (from at : ℕ) (h : Heading) (all more : List Entries) (es : Entries) → StatesSoFar vars x from all at → Heads x at h → h.from ≡ h.to → SpellsValues true vars (stretch x at h.from) es → more ≡ all ++ es ∷ []
    → SpellStates vars (each_from x from) more
states_end vars x from at h all more es s k l v e =
    let p = piece x at h.from in
    let F : List Stretch → Type 0 = λ ss. SpellStates vars ss more in
    let G : List Entries → Type 0 = λ a. SpellStates vars (s.0 ++ p ∷ []) a in
    subst F (sym (whole x from at h s.0 [] s.1 k (nothing_behind x h (omega (arith, l))))) (subst G (sym e) (states_more vars s.0 all p es s.2 v))

length_of : (x : Text) (from to : ℕ) → from ≤ to → to ≤ length x → length (stretch x from to) ≡ to - from
length_of x from to l h = length-take-le (to - from) (drop from x) (omega (arith, l, h, length-drop from x))

pub stop_within : (x : Text) (at n : ℕ) (h : Heading) → Heads x at h → n ≤ length (stretch x at h.from) → at + n ≤ length x
stop_within x at n h k l = omega (arith, l, length_of x at h.from k.after (omega (arith, k.within, k.inside)), k.after, k.within, k.inside)

pub states_stop : (vars : List Word) (x : Text) (from at n m : ℕ) (h : Heading) (all : List Entries) → StatesSoFar vars x from all at → Heads x at h → OffendsAt true vars (stretch x at h.from) n × (n ≤ length (stretch x at h.from)) → m ≡ at + n
    → StatesOffend vars (each_from x from) m × (m ≤ length x)
states_stop vars x from at n m h all s k o e =
    let F : List Stretch → Type 0 = λ ss. StatesOffend vars ss m in
    let here : StatesOffend vars (piece x at h.from ∷ headed x h) m = inl (n, o.0, e) in
    (subst F (sym (whole x from at h s.0 (headed x h) s.1 k refl)) (offend_behind vars s.0 (piece x at h.from ∷ headed x h) all m s.2 here), omega (arith, e, stop_within x at n h k o.1))

-- ---- whole traces

same_front : (a b : Stretch) (ss ts : List Stretch) → a ∷ ss ≡ b ∷ ts → a ≡ b
same_front a b ss ts e = cc

same_rest : (a b : Stretch) (ss ts : List Stretch) → a ∷ ss ≡ b ∷ ts → ss ≡ ts
same_rest a b ss ts e = cc

front_is : (x : Text) (h : Heading) → Heads x 0 h → (states_of x).front.text ≡ take h.from x
front_is x h k =
    let e : h.from - 0 ≡ h.from = omega arith in
    ap (λ (s : Stretch). s.text) (same_front (states_of x).front (piece x 0 h.from) (states_of x).each (headed x h) k.first) ∙ ap (λ (n : ℕ). take n x) e

each_is : (x : Text) (h : Heading) → Heads x 0 h → (states_of x).each ≡ headed x h
each_is x h k = same_rest (states_of x).front (piece x 0 h.from) (states_of x).each (headed x h) k.first

clear : (x : Text) (h : Heading) (begin : ℕ) → Heads x 0 h → begin ≡ next_at (take h.from x) 0 → begin ≤ length (take h.from x) → h.from ≤ begin → next_at (states_of x).front.text 0 ≡ length (states_of x).front.text
clear x h begin k b w l =
    let F : Text → Type 0 = λ t. next_at t 0 ≡ length t in
    subst F (sym (front_is x h k)) (sym b ∙ omega (arith, w, l, length-take-le h.from x (omega (arith, k.within, k.inside))))

pub state_refused : (vars : List Word) (x : Text) (h : Heading) (begin at : ℕ) (q r : Refusal) → Heads x 0 h → begin ≡ next_at (take h.from x) 0 → begin ≤ length (take h.from x) → h.from ≤ begin → h.from < h.to
    → StatesOffend vars (each_from x h.to) at → q ≡ bad_line x at → q ≡ r → TraceOffends vars x r
state_refused vars x h begin at q r k b w l n o e s =
    let F : List Stretch → Type 0 = λ ss. EachOffend vars x ss at in
    let here : EachOffend vars x (each_from x h.to) at = o in
    (at, inr (clear x h begin k b w l, subst F (sym (each_is x h k ∙ behind x h n)) here), sym s ∙ e)
