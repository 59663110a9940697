-- A walk over the choices of members, of which the names that are open are on a stack.
use Rattle.std.proofs.Common.{◌≡◌, ℕ, suc, zero, ◌+◌, ◌-◌, ◌*◌, ◌<◌, ◌≤◌, Bool, true, false, List, [], ◌∷◌, ◌++◌, length, refl, sym, ap, ◌∙◌, subst, arith, get_or, drop, length-append, Ok}
use Rattle.std.proofs.lemmas.Option.{slice_get-get_or}
use Rattle.std.proofs.Math.Nat.{suc-mul}
use Rattle.std.proofs.Math.Seq.{drop-cons}
use Rattle.std.proofs.Math.ListN.{drop_of_length-le}
use Rattle.tla_tree.specs.Tree.{Word}
use Rattle.tla_value.specs.declared.stop.EvalStop.{EvalStop}
use Rattle.tla_value.specs.Value.{Value, Outcome, ◌>>=◌}
use Rattle.value_forms.specs.Gives.{Stops}
use Rattle.value_forms.proofs.StopLaws.{then_stops}
use Rattle.eval_scopes.specs.Choices.{Over, Spot, chosen, chosen_one, stepping}
use Rattle.eval_visits.specs.Visits.{Body, rows_at, visited, at_left, under, here, turns, turns_left, asked, from_choice, IsNextChoice}
use Rattle.eval_visits.specs.Gathered.{Gathered}
use Rattle.eval_visits.proofs.VisitLemmas.{added_none, split}

abbrev Inner : Type 0
Inner = Over → Spot → Outcome Gathered

-- the last open name by itself
pub under_last : (go : Body) (names : Over) (left : List ℕ) (k : ℕ) (s : Spot) (inner : Inner)
    → under go names (left ++ k ∷ []) s inner ≡ under go names left s (λ ns e. under go ns (k ∷ []) e inner)
under_last go names [] k s inner = refl
under_last go [] (j ∷ left) k s inner = refl
under_last go (o ∷ more) (j ∷ left) k s inner =
    ap (λ u. u >>= λ h. at_left h o.0 (drop j o.1) (rows_at more go) s) (under_last go more left k (chosen_one o.0 o.1 j s) inner)

-- only what `inner` gives at the names that are not open matters
pub under_same : (go : Body) (names : Over) (left : List ℕ) (s : Spot) (inner other : Inner) → length left ≤ length names
    → inner (drop (length left) names) (chosen names left s) ≡ other (drop (length left) names) (chosen names left s) → under go names left s inner ≡ under go names left s other
under_same go [] [] s inner other le h = h
under_same go (o ∷ more) [] s inner other le h = h
under_same go [] (j ∷ left) s inner other le h = absurd (omega arith)
under_same go (o ∷ more) (j ∷ left) s inner other le h =
    ap (λ u. u >>= λ g. at_left g o.0 (drop j o.1) (rows_at more go) s) (under_same go more left (chosen_one o.0 o.1 j s) inner other (omega arith) h)

pub under_stops : (go : Body) (names : Over) (left : List ℕ) (s : Spot) (inner : Inner) (t : EvalStop) → length left ≤ length names
    → Stops t (inner (drop (length left) names) (chosen names left s)) → Stops t (under go names left s inner)
under_stops go [] [] s inner t le h = h
under_stops go (o ∷ more) [] s inner t le h = h
under_stops go [] (j ∷ left) s inner t le h = absurd (omega arith)
under_stops go (o ∷ more) (j ∷ left) s inner t le h =
    then_stops t _ (λ g. at_left g o.0 (drop j o.1) (rows_at more go) s) (under_stops go more left (chosen_one o.0 o.1 j s) inner t (omega arith) h)

-- ---- the steps of the walk: `next` is the member that comes next of the last open name o, and `more` are the names behind it

-- the name has no member left
last_done : (go : Body) (o : Word × List Value) (more : Over) (next : ℕ) (s : Spot) (g : Gathered) → length o.1 ≤ next → under go (o ∷ more) (next ∷ []) s (here g) ≡ Ok g
last_done go o more next s g le =
    ap (λ vs. at_left g o.0 vs (rows_at more go) s) (drop_of_length-le o.1 le) ∙ ap (λ h. Ok h) (added_none g)

-- the next member, and then those that are left
last_next : (go : Body) (o : Word × List Value) (more : Over) (next : ℕ) (s : Spot) (g : Gathered) (v : Value) → next < length o.1
    → under go (o ∷ more) (next ∷ []) s (here g) ≡ under go (o ∷ more) (suc next ∷ []) s (λ ns e. visited g ns go e)
last_next go o more next s g v lt =
    ap (λ vs. at_left g o.0 vs (rows_at more go) s) (drop-cons o.1 next v lt)
    ∙ split g o.0 (get_or o.1 next v) (drop (suc next) o.1) (rows_at more go) s
    ∙ ap (λ e. visited g more go e >>= λ h. at_left h o.0 (drop (suc next) o.1) (rows_at more go) s) (sym (ap (λ w. stepping o.0 w s) (slice_get-get_or o.1 next v lt)))

-- ---- one turn of the walk: P are the open names but the last, which is o

first_left : (names : Over) (P : List ℕ) (o : Word × List Value) → length P < length names → o ≡ get_or names (length P) o → drop (length P) names ≡ o ∷ drop (suc (length P)) names
first_left names P o lt is = drop-cons names (length P) o lt ∙ ap (λ p. p ∷ drop (suc (length P)) names) (sym is)

walk_done : (go : Body) (names : Over) (P : List ℕ) (next : ℕ) (s : Spot) (g : Gathered) (o : Word × List Value) (all : Outcome Gathered) → length P < length names → o ≡ get_or names (length P) o → length o.1 ≤ next
    → under go names (P ++ next ∷ []) s (here g) ≡ all → under go names P s (here g) ≡ all
walk_done go names P next s g o all lt is le h =
    under_same go names P s (here g) (λ ns e. under go ns (next ∷ []) e (here g)) (omega arith)
    (sym (ap (λ ns. under go ns (next ∷ []) (chosen names P s) (here g)) (first_left names P o lt is) ∙ last_done go o (drop (suc (length P)) names) next (chosen names P s) g le))
    ∙ sym (under_last go names P next s (here g)) ∙ h

-- the member that comes next
walk_step : (go : Body) (names : Over) (P : List ℕ) (next : ℕ) (s : Spot) (g : Gathered) (o : Word × List Value) (v : Value) → length P < length names → o ≡ get_or names (length P) o → next < length o.1
    → under go names (P ++ next ∷ []) s (here g) ≡ under go names (P ++ suc next ∷ []) s (λ ns e. visited g ns go e)
walk_step go names P next s g o v lt is le =
    under_last go names P next s (here g)
    ∙ under_same go names P s (λ ns e. under go ns (next ∷ []) e (here g)) (λ ns e. under go ns (suc next ∷ []) e (λ ms f. visited g ms go f)) (omega arith)
    (ap (λ ns. under go ns (next ∷ []) (chosen names P s) (here g)) (first_left names P o lt is)
    ∙ last_next go o (drop (suc (length P)) names) next (chosen names P s) g v le
    ∙ sym (ap (λ ns. under go ns (suc next ∷ []) (chosen names P s) (λ ms f. visited g ms go f)) (first_left names P o lt is)))
    ∙ sym (under_last go names P (suc next) s (λ ns e. visited g ns go e))

one_longer : (P : List ℕ) (k : ℕ) → length (P ++ k ∷ []) ≡ suc (length P)
one_longer P k = omega (arith, length-append P (k ∷ []))

-- where all names are open the body is asked
pub choice_visits : (more : Bool) (go : Body) (names : Over) (left : List ℕ) (s : Spot) (g h : Gathered) (all : Outcome Gathered) → more ≡ true → (more ≡ true → length left ≡ length names)
    → visited g [] go (chosen names left s) ≡ Ok h → from_choice more g go names left s ≡ all → under go names left s (here h) ≡ all
choice_visits true go names left s g h all t len e i =
    under_same go names left s (here h) (asked g go) (omega (arith, len t))
    (sym (ap (λ ns. visited g ns go (chosen names left s)) (drop_of_length-le names (omega (arith, len t))) ∙ e)) ∙ i
choice_visits false go names left s g h all t len e i = cc

pub choice_stops : (more : Bool) (go : Body) (names : Over) (left : List ℕ) (s : Spot) (g : Gathered) (all : Outcome Gathered) (t : EvalStop) → more ≡ true → (more ≡ true → length left ≡ length names)
    → Stops t (visited g [] go (chosen names left s)) → from_choice more g go names left s ≡ all → Stops t all
choice_stops true go names left s g all t m len e i =
    subst (Stops t) i (under_stops go names left s (asked g go) t (omega (arith, len m))
    (subst (λ ns. Stops t (visited g ns go (chosen names left s))) (sym (drop_of_length-le names (omega (arith, len m)))) e))
choice_stops false go names left s g all t m len e i = cc

pub no_choice_left : (more : Bool) (go : Body) (names : Over) (left : List ℕ) (s : Spot) (g : Gathered) (all : Outcome Gathered) → more ≡ false → from_choice more g go names left s ≡ all → all ≡ Ok g
no_choice_left true go names left s g all m i = cc
no_choice_left false go names left s g all m i = sym i

open_first : (go : Body) (names : Over) (s : Spot) (g : Gathered) → 0 < length names → under go names (zero ∷ []) s (here g) ≡ visited g names go s
open_first go [] s g h = absurd (omega arith)
open_first go (o ∷ more) s g h = refl

left_over : (names : Over) (n : ℕ) → n < length names → 0 < length (drop n names)
left_over [] n h = absurd (omega arith)
left_over (o ∷ more) zero h = omega arith
left_over (o ∷ more) (suc n) h = left_over more n (omega arith)

-- else the next name is opened
walk_down : (go : Body) (names : Over) (P : List ℕ) (next : ℕ) (s : Spot) (g : Gathered) (o : Word × List Value) (v : Value) (all : Outcome Gathered) → suc (length P) < length names → o ≡ get_or names (length P) o → next < length o.1
    → under go names (P ++ next ∷ []) s (here g) ≡ all → under go names ((P ++ suc next ∷ []) ++ zero ∷ []) s (here g) ≡ all
walk_down go names P next s g o v all lt is le i =
    let Q = P ++ suc next ∷ [] in
    under_last go names Q zero s (here g)
    ∙ under_same go names Q s (λ ns e. under go ns (zero ∷ []) e (here g)) (λ ns e. visited g ns go e) (omega (arith, one_longer P (suc next)))
    (open_first go (drop (length Q) names) (chosen names Q s) g (left_over names (length Q) (omega (arith, one_longer P (suc next)))))
    ∙ sym (walk_step go names P next s g o v (omega arith) is le) ∙ i

-- ---- the walk ends

turns_last : (names : Over) (left : List ℕ) (k : ℕ) → length left < length names → turns_left names (left ++ k ∷ []) ≡ turns_left names left + turns_left (drop (length left) names) (k ∷ [])
turns_last [] left k lt = absurd (omega arith)
turns_last (p ∷ more) [] k lt = omega arith
turns_last (p ∷ more) (j ∷ left) k lt = omega (arith, turns_last more left k (omega arith))

abbrev last_turns : Over → ℕ → ℕ
last_turns names k = turns_left names (k ∷ [])

turns_next : (names : Over) (P : List ℕ) (next : ℕ) (o : Word × List Value) → length P < length names → o ≡ get_or names (length P) o → next < length o.1
    → turns_left names (P ++ next ∷ []) ≡ turns_left names (P ++ suc next ∷ []) + suc (turns (drop (suc (length P)) names))
turns_next names P next o lt is le =
    let more = drop (suc (length P)) names in
    let q = length o.1 - suc next in
    let c : length o.1 - next ≡ suc q = omega arith in
    omega (arith, turns_last names P next lt, turns_last names P (suc next) lt, ap (λ ns. last_turns ns next) (first_left names P o lt is), ap (λ ns. last_turns ns (suc next)) (first_left names P o lt is), ap (λ n. n * suc (turns more)) c, suc-mul q (suc (turns more)))

pub turns_done : (names : Over) (P : List ℕ) (next : ℕ) (o : Word × List Value) → length P < length names → o ≡ get_or names (length P) o → turns_left names P < turns_left names (P ++ next ∷ [])
turns_done names P next o lt is = omega (arith, turns_last names P next lt, ap (λ ns. last_turns ns next) (first_left names P o lt is))

turns_open : (names : Over) → 0 < length names → last_turns names zero ≡ turns names
turns_open [] h = absurd (omega arith)
turns_open (o ∷ more) h =
    let e : length o.1 - zero ≡ length o.1 = omega arith in
    omega (arith, ap (λ n. n * suc (turns more)) e)

pub turns_down : (names : Over) (P : List ℕ) (next : ℕ) (o : Word × List Value) → suc (length P) < length names → o ≡ get_or names (length P) o → next < length o.1
    → turns_left names ((P ++ suc next ∷ []) ++ zero ∷ []) < turns_left names (P ++ next ∷ [])
turns_down names P next o lt is le =
    let Q = P ++ suc next ∷ [] in
    omega (arith, turns_next names P next o (omega arith) is le, turns_last names Q zero (omega (arith, one_longer P (suc next))), turns_open (drop (length Q) names) (left_over names (length Q) (omega (arith, one_longer P (suc next)))), ap (λ n. turns (drop n names)) (one_longer P (suc next)))

-- ---- the search for the next choice, from `from` on

abbrev pub IsLeft : Over → List ℕ → List ℕ → Type 0
IsLeft names from left =
    (length left ≤ length names)
    × ((turns_left names left ≤ turns_left names from)
    × ((g : Gathered) (go : Body) (s : Spot) → under go names left s (here g) ≡ under go names from s (here g)))

pub left_done : (names : Over) (from left P : List ℕ) (next : ℕ) (o : Word × List Value) → left ≡ P ++ next ∷ [] → o ≡ get_or names (length P) o → length o.1 ≤ next → IsLeft names from left → IsLeft names from P
left_done names from left P next o e is le h =
    let lt : length P < length names = omega (arith, h.0, ap length e, one_longer P next) in
    let fewer = turns_done names P next o lt is in (
      omega (arith, lt),
      (
        omega (arith, fewer, ap (turns_left names) e, h.1.0),
        λ g go s. walk_done go names P next s g o (under go names from s (here g)) lt is le (ap (λ l. under go names l s (here g)) (sym e) ∙ h.1.1 g go s),
      ),
    )

pub fewer_done : (names : Over) (left P : List ℕ) (next : ℕ) (o : Word × List Value) → left ≡ P ++ next ∷ [] → o ≡ get_or names (length P) o → length left ≤ length names → turns_left names P < turns_left names left
fewer_done names left P next o e is h =
    omega (arith, ap (turns_left names) e, turns_done names P next o (omega (arith, h, ap length e, one_longer P next)) is)

pub left_deeper : (names : Over) (from left P R : List ℕ) (next : ℕ) (o : Word × List Value) (v : Value) → left ≡ P ++ next ∷ [] → suc (length P) < length names → o ≡ get_or names (length P) o → next < length o.1 → R ≡ (P ++ suc next ∷ []) ++ zero ∷ []
    → IsLeft names from left → IsLeft names from R
left_deeper names from left P R next o v e lt is le r h =
    let fewer = turns_down names P next o lt is le in (
      omega (arith, lt, ap length r, one_longer (P ++ suc next ∷ []) zero, one_longer P (suc next)),
      (
        omega (arith, ap (turns_left names) r, fewer, ap (turns_left names) e, h.1.0),
        λ g go s. ap (λ l. under go names l s (here g)) r ∙ walk_down go names P next s g o v (under go names from s (here g)) lt is le (ap (λ l. under go names l s (here g)) (sym e) ∙ h.1.1 g go s),
      ),
    )

pub fewer_deeper : (names : Over) (left P R : List ℕ) (next : ℕ) (o : Word × List Value) → left ≡ P ++ next ∷ [] → suc (length P) < length names → o ≡ get_or names (length P) o → next < length o.1 → R ≡ (P ++ suc next ∷ []) ++ zero ∷ []
    → turns_left names R < turns_left names left
fewer_deeper names left P R next o e lt is le r = omega (arith, ap (turns_left names) r, turns_down names P next o lt is le, ap (turns_left names) e)

pub choice_found : (names : Over) (from left P Q : List ℕ) (next : ℕ) (o : Word × List Value) (v : Value) → left ≡ P ++ next ∷ [] → suc (length P) ≡ length names → o ≡ get_or names (length P) o → next < length o.1 → Q ≡ P ++ suc next ∷ []
    → IsLeft names from left → IsNextChoice true names from Q
choice_found names from left P Q next o v e len is le q h =
    let fewer = turns_next names P next o (omega (arith, len)) is le in (
      λ t. omega (arith, ap length q, one_longer P (suc next), len),
      (
        omega (arith, ap (turns_left names) q, fewer, ap (turns_left names) e, h.1.0),
        λ g go s. ap (λ l. under go names l s (asked g go)) q ∙ sym (walk_step go names P next s g o v (omega (arith, len)) is le) ∙ ap (λ l. under go names l s (here g)) (sym e) ∙ h.1.1 g go s,
      ),
    )
