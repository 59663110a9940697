-- What statements use and assign that have none in them: what is left still gives the whole.
use Rattle.std.specs.List.{list_any}
use Rattle.std.proofs.Common.{◌≡◌, ℕ, ◌+◌, ◌<◌, ◌≤◌, Bool, true, false, ◌||◌, List, [], ◌∷◌, ◌++◌, length, drop, get_or, map, cond, refl, sym, ap, ◌∙◌, append-nil, append_assoc, bytes_eq}
use Rattle.std.proofs.lemmas.List.{drop_more, drop_all}
use Rattle.tla_token.specs.declared.place.Place.{Place}
use Rattle.tla_tree.specs.Tree.{Word, Tree, words}
use Rattle.tla_tree.specs.Pool.{at}
use Rattle.pcal_tree.specs.declared.algorithm.Assignment.{Assignment}
use Rattle.pcal_tree.specs.declared.algorithm.Bind.{Bind}
use Rattle.pcal_tree.specs.declared.algorithm.Bind.TheVariants as bind
use Rattle.pcal_tree.specs.Algorithm.{Name, Procedure}
use Rattle.pcal_tree.specs.InMemory.{assignments_at, binds_at}
use Rattle.pcal_tree.specs.OffencesStale.{used_by_call, self_at}
use Rattle.pcal_tree.specs.Paths.{root, roots, some_word}
use Rattle.pcal_tree.specs.Reads.{named}
use Rattle.pcal_tree.specs.laws.MacroSpots.{Use, other, uses, left_uses, uses_of_assignments, uses_of_binds}
use Rattle.read_rules.specs.declared.steps.Jump.{Jump}
use Rattle.read_rules.specs.Joins.{Joins}
use Rattle.read_rules.specs.StepsIn.{jump_words, AreJumps, others_at}
use Rattle.read_rules.proofs.SetLaws.{joins_none, joins_then}

-- ---- lists of uses

pub then_all : (old one more rest : List Use) (here : List Use) → one ≡ old ++ here → more ≡ here ++ rest → one ++ rest ≡ old ++ more
then_all old one more rest here e h = ap (λ (us : List Use). us ++ rest) e ∙ append_assoc old here rest ∙ ap (λ (us : List Use). old ++ us) (sym h)

pub assigned_then : (ts : List Tree) (old one two : List Use) (ms : List Assignment) (i : ℕ) (m : Assignment) → m ≡ get_or ms i m → i < length ms → one ≡ old ++ left_uses (at ts m.left) → two ≡ one ++ uses (at ts m.right)
    → two ++ uses_of_assignments (assignments_at ts (drop (i + 1) ms)) ≡ old ++ uses_of_assignments (assignments_at ts (drop i ms))
assigned_then ts old one two ms i m is less e h =
    let rest = uses_of_assignments (assignments_at ts (drop (i + 1) ms)) in
    then_all one two (uses (at ts m.right) ++ rest) rest (uses (at ts m.right)) h refl
    ∙ then_all old one (left_uses (at ts m.left) ++ (uses (at ts m.right) ++ rest)) (uses (at ts m.right) ++ rest) (left_uses (at ts m.left)) e refl
    ∙ ap (λ (ns : List Assignment). old ++ uses_of_assignments (assignments_at ts ns)) (ap (λ (z : Assignment). z ∷ drop (i + 1) ms) is ∙ sym (drop_more ms i m less))

pub assigned_done : (ts : List Tree) (new : List Use) (ms : List Assignment) (i : ℕ) → length ms ≤ i → new ≡ new ++ uses_of_assignments (assignments_at ts (drop i ms))
assigned_done ts new ms i less = sym (ap (λ (ns : List Assignment). new ++ uses_of_assignments (assignments_at ts ns)) (drop_all i ms less) ∙ append-nil new)

bind_first : (ts : List Tree) (b : Bind) (bs : List Bind) → uses_of_binds (binds_at ts (b ∷ bs)) ≡ uses_of_binds (binds_at ts (b ∷ [])) ++ uses_of_binds (binds_at ts bs)
bind_first ts (bind.Among x e) bs = ap (λ (us : List Use). us ++ uses_of_binds (binds_at ts bs)) (sym (append-nil (uses (at ts e))))
bind_first ts (bind.Is x e) bs = ap (λ (us : List Use). us ++ uses_of_binds (binds_at ts bs)) (sym (append-nil (uses (at ts e))))

pub binds_then : (ts : List Tree) (old one : List Use) (bs : List Bind) (i : ℕ) (b : Bind) → b ≡ get_or bs i b → i < length bs → one ≡ old ++ uses_of_binds (binds_at ts (b ∷ []))
    → one ++ uses_of_binds (binds_at ts (drop (i + 1) bs)) ≡ old ++ uses_of_binds (binds_at ts (drop i bs))
binds_then ts old one bs i b is less e =
    then_all old one (uses_of_binds (binds_at ts (b ∷ drop (i + 1) bs))) (uses_of_binds (binds_at ts (drop (i + 1) bs))) (uses_of_binds (binds_at ts (b ∷ []))) e (bind_first ts b (drop (i + 1) bs))
    ∙ ap (λ (cs : List Bind). old ++ uses_of_binds (binds_at ts cs)) (ap (λ (z : Bind). z ∷ drop (i + 1) bs) is ∙ sym (drop_more bs i b less))

pub binds_done : (ts : List Tree) (new : List Use) (bs : List Bind) (i : ℕ) → length bs ≤ i → new ≡ new ++ uses_of_binds (binds_at ts (drop i bs))
binds_done ts new bs i less = sym (ap (λ (cs : List Bind). new ++ uses_of_binds (binds_at ts cs)) (drop_all i bs less) ∙ append-nil new)

pub others_then : (at : Place) (old one : List Use) (ns : List Name) (i : ℕ) (n : Name) → n ≡ get_or ns i n → i < length ns → one ≡ old ++ other (named n.word at) ∷ []
    → one ++ others_at at (words (drop (i + 1) ns)) ≡ old ++ others_at at (words (drop i ns))
others_then at old one ns i n is less e =
    then_all old one (others_at at (words (n ∷ drop (i + 1) ns))) (others_at at (words (drop (i + 1) ns))) (other (named n.word at) ∷ []) e refl
    ∙ ap (λ (ks : List Name). old ++ others_at at (words ks)) (ap (λ (z : Name). z ∷ drop (i + 1) ns) is ∙ sym (drop_more ns i n less))

pub others_done : (at : Place) (new : List Use) (ns : List Name) (i : ℕ) → length ns ≤ i → new ≡ new ++ others_at at (words (drop i ns))
others_done at new ns i less = sym (ap (λ (ks : List Name). new ++ others_at at (words ks)) (drop_all i ns less) ∙ append-nil new)

-- ---- the variables of left sides

pub roots_then : (ts : List Tree) (j k l : List Word) (ms : List Assignment) (i : ℕ) (m : Assignment) → m ≡ get_or ms i m → i < length ms → Joins j k (some_word (root (at ts m.left)))
    → Joins k l (roots (assignments_at ts (drop (i + 1) ms))) → Joins j l (roots (assignments_at ts (drop i ms)))
roots_then ts j k l ms i m is less a h f =
    joins_then j k l (some_word (root (at ts m.left))) (roots (assignments_at ts (drop (i + 1) ms))) a h f
    ∙ ap (λ (ns : List Assignment). list_any f j || list_any f (roots (assignments_at ts ns))) (ap (λ (z : Assignment). z ∷ drop (i + 1) ms) is ∙ sym (drop_more ms i m less))

pub roots_done : (ts : List Tree) (k : List Word) (ms : List Assignment) (i : ℕ) → length ms ≤ i → Joins k k (roots (assignments_at ts (drop i ms)))
roots_done ts k ms i less f = joins_none k f ∙ ap (λ (ns : List Assignment). list_any f k || list_any f (roots (assignments_at ts ns))) (sym (drop_all i ms less))

-- ---- calls of procedures

pub jump_found : (js : List Jump) (x : Word) (i : ℕ) (j : Jump) → j ≡ get_or js i j → i < length js → bytes_eq j.name x ≡ true → words j.uses.items ≡ jump_words (drop i js) x
jump_found js x i j is less e =
    ap (λ (b : Bool). cond b (words j.uses.items) (jump_words (drop (i + 1) js) x)) (sym e)
    ∙ ap (λ (ks : List Jump). jump_words ks x) (ap (λ (z : Jump). z ∷ drop (i + 1) js) is ∙ sym (drop_more js i j less))

pub jump_passed : (js : List Jump) (x : Word) (i : ℕ) (j : Jump) → j ≡ get_or js i j → i < length js → bytes_eq j.name x ≡ false → jump_words (drop (i + 1) js) x ≡ jump_words (drop i js) x
jump_passed js x i j is less e =
    ap (λ (b : Bool). cond b (words j.uses.items) (jump_words (drop (i + 1) js) x)) (sym e)
    ∙ ap (λ (ks : List Jump). jump_words ks x) (ap (λ (z : Jump). z ∷ drop (i + 1) js) is ∙ sym (drop_more js i j less))

pub jump_none : (js : List Jump) (x : Word) (i : ℕ) → length js ≤ i → [] ≡ jump_words (drop i js) x
jump_none js x i less = ap (λ (ks : List Jump). jump_words ks x) (sym (drop_all i js less))

others_words : (at : Place) (ns : List Name) → map other (map (λ n. named n.word at) ns) ≡ others_at at (words ns)
others_words at [] = refl
others_words at (n ∷ ns) = ap (λ (us : List Use). other (named n.word at) ∷ us) (others_words at ns)

pub call_uses : (js : List Jump) (ps : List Procedure) → AreJumps js ps → (at : Place) (q : Name) → other (self_at at) ∷ others_at at (jump_words js q.word) ≡ map other (self_at at ∷ map (λ n. named n.word at) (used_by_call ps q))
call_uses js ps a at q = ap (λ (us : List Use). other (self_at at) ∷ us) (sym (others_words at (used_by_call ps q) ∙ ap (others_at at) (a q)))

pub call_step : (old a s n us os all : List Use) (u : Use) → a ≡ old ++ us → s ≡ a ++ u ∷ [] → n ≡ s ++ os → u ∷ os ≡ all → n ≡ old ++ (us ++ all)
call_step old a s n us os all u e f g h =
    g ∙ ap (λ (r : List Use). r ++ os) f ∙ append_assoc a (u ∷ []) os ∙ (λ i. e i ++ h i) ∙ append_assoc old us all

-- ---- the procedure that is called, among those that are left

jump_at : (js : List Jump) (x : Word) (i : ℕ) (j : Jump) → j ≡ get_or js i j → i < length js → cond (bytes_eq j.name x) (words j.uses.items) (jump_words (drop (i + 1) js) x) ≡ jump_words (drop i js) x
jump_at js x i j e l =
    ap (λ (z : Jump). cond (bytes_eq z.name x) (words z.uses.items) (jump_words (drop (i + 1) js) x)) e ∙ ap (λ (ks : List Jump). jump_words ks x) (sym (drop_more js i j l))

pub jump_here : (js : List Jump) (x : Word) (i : ℕ) (j : Jump) → j ≡ get_or js i j → i < length js → bytes_eq j.name x ≡ true → jump_words (drop i js) x ≡ jump_words js x → words j.uses.items ≡ jump_words js x
jump_here js x i j e l same inv =
    ap (λ (b : Bool). cond b (words j.uses.items) (jump_words (drop (i + 1) js) x)) (sym same) ∙ jump_at js x i j e l ∙ inv

pub jump_more : (js : List Jump) (x : Word) (i : ℕ) (j : Jump) → j ≡ get_or js i j → i < length js → bytes_eq j.name x ≡ false → jump_words (drop i js) x ≡ jump_words js x
    → jump_words (drop (i + 1) js) x ≡ jump_words js x
jump_more js x i j e l differs inv =
    ap (λ (b : Bool). cond b (words j.uses.items) (jump_words (drop (i + 1) js) x)) (sym differs) ∙ jump_at js x i j e l ∙ inv

pub jump_nowhere : (js : List Jump) (x : Word) (i : ℕ) → length js ≤ i → jump_words (drop i js) x ≡ jump_words js x → [] ≡ jump_words js x
jump_nowhere js x i l inv = ap (λ (ks : List Jump). jump_words ks x) (sym (drop_all i js l)) ∙ inv
