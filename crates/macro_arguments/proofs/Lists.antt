-- Lists in memory that are made member by member, as the pool grows.
use Rattle.std.proofs.Common.{◌≡◌, ℕ, ◌+◌, ◌<◌, ◌≤◌, List, [], ◌∷◌, ◌++◌, length, map, take, get_or, refl, sym, ap, ◌∙◌, arith}
use Rattle.std.proofs.lemmas.List.{map_push, take_more, take_all}
use Rattle.tla_tree.specs.Tree.{Tree, tree, Graft, graft, grafts}
use Rattle.tla_tree.specs.TreeOf.{trees_from}
use Rattle.tla_tree.specs.Pool.{at, trees_at, Keeps}
use Rattle.tla_tree.specs.Nesting.{greatest}
use Rattle.pcal_tree.specs.declared.algorithm.Assignment.{Assignment}
use Rattle.pcal_tree.specs.declared.algorithm.Bind.{Bind}
use Rattle.pcal_tree.specs.declared.algorithm.Bind.TheVariants as bind
use Rattle.pcal_tree.specs.Algorithm.{Assignments, no_assignments, assignment, no_binds, one_of, is}
use Rattle.pcal_tree.specs.InMemory.{assignments_at, bind_at, binds_at, past_number, past_assignment, past_bind}
use Rattle.pcal_tree.specs.Expand.{graft_left, graft_assignments, graft_binds}
use Rattle.pcal_tree.proofs.InMemoryEach.{past_one_more}
use Rattle.pcal_tree.proofs.InMemoryGrown.{each_kept}
use Rattle.expansion_size.specs.declared.frames.Frames.{Frames}
use Rattle.expansion_size.specs.FramesIn.{put_by, past_frames}
use Rattle.macro_arguments.specs.FramesStay.{put_kept, graft_grown}
use Rattle.macro_arguments.specs.Expressions.{assignment_put, bind_put, StandNumbers, StandAssignments, StandBinds}

-- the members' numbers are of the pool, and what they stand for there is what is made of the members of another list
pub record MadeOf {A B C : Type 0} (past : A → ℕ) (f : List Tree → A → B) (h : C → B) (ts : List Tree) (xs : List A) (zs : List C) : Type 0 where
  pub within : greatest (map past xs) ≤ length ts
  pub stand : map (f ts) xs ≡ map h zs

-- what a member stands for stays as the pool grows
abbrev pub Grows : {A B : Type 0} → (A → ℕ) → (List Tree → A → B) → Type 0
Grows past f = (ts us : List Tree) → Keeps ts us → (a : _) → past a ≤ length ts → f us a ≡ f ts a

module _ {A B C : Type 0} (past : A → ℕ) (f : List Tree → A → B) (h : C → B) where
  -- one member more
  pub made_more : Grows past f → (ts us : List Tree) → Keeps ts us → (xs : List A) (zs : List C) (i : ℕ) (z : C) (r : A) → MadeOf past f h ts xs (take i zs) → z ≡ get_or zs i z → i < length zs → past r ≤ length us → f us r ≡ h z
      → (ys : List A) → ys ≡ xs ++ r ∷ [] → MadeOf past f h us ys (take (i + 1) zs)
  made_more grows ts us k xs zs i z r m here less within same ys e = record {
    within = let past_all = past_one_more past xs r in let all = ap (λ (l : List A). greatest (map past l)) e in omega (arith, all, past_all, m.within, k.longer, within);
    stand =
        ap (map (f us)) e
        ∙ map_push (f us) xs r
        ∙ (λ j. (each_kept ts us k (f us) (f ts) past (grows ts us k) xs m.within ∙ m.stand) j ++ same j ∷ [])
        ∙ sym (map_push h (take i zs) z)
        ∙ ap (map h) (sym (take_more zs i z less ∙ ap (λ (y : C). take i zs ++ y ∷ []) (sym here)));
  }

  -- all members
  pub made_all : (ts : List Tree) (xs : List A) (zs : List C) (i : ℕ) → length zs ≤ i → MadeOf past f h ts xs (take i zs) → MadeOf past f h ts xs zs
  made_all ts xs zs i less m = record { within = m.within; stand = m.stand ∙ ap (map h) (take_all i zs less) }

-- ---- numbers

pub numbers_grow : Grows past_number at
numbers_grow ts us k e h = k.same e (omega (arith, h))

-- what each of them is made into
abbrev pub put : Graft → List Tree → ℕ → Tree
put g ts e = graft g (at ts e)

numbers_put : (g : Graft) (ts : List Tree) (es : List ℕ) → trees_from (map (put g ts) es) ≡ grafts g (trees_at ts es)
numbers_put g ts [] = refl
numbers_put g ts (e ∷ es) = ap (tree (put g ts e)) (numbers_put g ts es)

pub put_grown : (ts us : List Tree) → Keeps ts us → (a : Frames) → past_frames a ≤ length ts → (e : ℕ) → past_number e ≤ length ts → put (put_by us a) us e ≡ put (put_by ts a) ts e
put_grown ts us k a h e l = graft_grown ts us k a h e (omega (arith, l))

pub numbers_made : (g : Graft) (old ts : List Tree) (rs es : List ℕ) → MadeOf past_number at (put g old) ts rs es → StandNumbers ts rs (grafts g (trees_at old es))
numbers_made g old ts rs es m = record { within = m.within; stand = ap trees_from m.stand ∙ numbers_put g old es }

-- ---- what goes before others of its kind

abbrev pub chain : {Y : Type 0} → Y → List (Y → Y) → Y
chain y [] = y
chain y (f ∷ fs) = f (chain y fs)

abbrev pub assignment_at : List Tree → Assignment → Assignments → Assignments
assignment_at ts m = assignment (at ts m.left) (at ts m.right)

pub assignments_grow : Grows past_assignment assignment_at
assignments_grow ts us k m h = λ j. assignment (k.same m.left (omega (arith, h)) j) (k.same m.right (omega (arith, h)) j)

assignments_chain : (ts : List Tree) (ms : List Assignment) → assignments_at ts ms ≡ chain no_assignments (map (assignment_at ts) ms)
assignments_chain ts [] = refl
assignments_chain ts (m ∷ ms) = ap (assignment_at ts m) (assignments_chain ts ms)

assignments_put : (g : Graft) (ts : List Tree) (ms : List Assignment) → chain no_assignments (map (assignment_put g ts) ms) ≡ graft_assignments g (assignments_at ts ms)
assignments_put g ts [] = refl
assignments_put g ts (m ∷ ms) = ap (assignment_put g ts m) (assignments_put g ts ms)

left_grown : (ts us : List Tree) → Keeps ts us → (a : Frames) → past_frames a ≤ length ts → (e : ℕ) → e < length ts → graft_left (put_by us a) (at us e) ≡ graft_left (put_by ts a) (at ts e)
left_grown ts us k a h e l = λ j. graft_left (put_kept ts us k a h j) (k.same e l j)

pub assignment_grown : (ts us : List Tree) → Keeps ts us → (a : Frames) → past_frames a ≤ length ts → (m : Assignment) → past_assignment m ≤ length ts → assignment_put (put_by us a) us m ≡ assignment_put (put_by ts a) ts m
assignment_grown ts us k a h m l = λ j. assignment (left_grown ts us k a h m.left (omega (arith, l)) j) (graft_grown ts us k a h m.right (omega (arith, l)) j)

pub assignments_made : (g : Graft) (old ts : List Tree) (rs ms : List Assignment) → MadeOf past_assignment assignment_at (assignment_put g old) ts rs ms → StandAssignments ts rs (graft_assignments g (assignments_at old ms))
assignments_made g old ts rs ms m = record { within = m.within; stand = assignments_chain ts rs ∙ ap (chain no_assignments) m.stand ∙ assignments_put g old ms }

pub binds_grow : Grows past_bind bind_at
binds_grow ts us k (bind.Among x e) h = λ j bs. one_of x (k.same e (omega (arith, h)) j) bs
binds_grow ts us k (bind.Is x e) h = λ j bs. is x (k.same e (omega (arith, h)) j) bs

binds_chain : (ts : List Tree) (bs : List Bind) → binds_at ts bs ≡ chain no_binds (map (bind_at ts) bs)
binds_chain ts [] = refl
binds_chain ts (b ∷ bs) = ap (bind_at ts b) (binds_chain ts bs)

binds_put : (g : Graft) (ts : List Tree) (bs : List Bind) → chain no_binds (map (bind_put g ts) bs) ≡ graft_binds g (binds_at ts bs)
binds_put g ts [] = refl
binds_put g ts (bind.Among x e ∷ bs) = ap (one_of x (graft g (at ts e))) (binds_put g ts bs)
binds_put g ts (bind.Is x e ∷ bs) = ap (is x (graft g (at ts e))) (binds_put g ts bs)

pub bind_grown : (ts us : List Tree) → Keeps ts us → (a : Frames) → past_frames a ≤ length ts → (b : Bind) → past_bind b ≤ length ts → bind_put (put_by us a) us b ≡ bind_put (put_by ts a) ts b
bind_grown ts us k a h (bind.Among x e) l = λ j bs. one_of x (graft_grown ts us k a h e (omega (arith, l)) j) bs
bind_grown ts us k a h (bind.Is x e) l = λ j bs. is x (graft_grown ts us k a h e (omega (arith, l)) j) bs

pub binds_made : (g : Graft) (old ts : List Tree) (rs bs : List Bind) → MadeOf past_bind bind_at (bind_put g old) ts rs bs → StandBinds ts rs (graft_binds g (binds_at old bs))
binds_made g old ts rs bs m = record { within = m.within; stand = binds_chain ts rs ∙ ap (chain no_binds) m.stand ∙ binds_put g old bs }
