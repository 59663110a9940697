-- Outcomes and walks under limits, one after the other.
use Rattle.std.proofs.Common.{◌≡◌, ℕ, zero, suc, Bool, true, false, cond, if◌then◌else◌, List, [], ◌∷◌, Ok, Err, refl, ap, subst}
use Rattle.tla_token.specs.declared.place.Place.{Place}
use Rattle.tla_value.specs.Value.{Value, Values, no_values, and, Outcome, fault, over, Sense, ◌>>=◌, in_order}
use Rattle.tla_value.specs.Limits.{fits, bounded}
use Rattle.tla_value.specs.Stops.{plain}
use Rattle.tla_value.specs.laws.UnderLimits.{Below, SensesBelow}
use Rattle.pcal_tree.specs.Scope.{State}
use Rattle.pcal_tree.specs.Run.{Course, stops, chooses, Courses, no_courses, course, after, at_each}
use Rattle.pcal_tree.specs.Choices.{Walk, went, failed, blocked, wanting, count_courses, missing, walk, walk_into}
use Rattle.run_answer.specs.LimitedRuns.{WalkBelow}

-- ---- outcomes

pub below_same : {X : Type 0} (o : Outcome X) → Below o o
below_same (Ok x) = refl
below_same (Err (fault k p)) = refl
below_same (Err (over p)) = tt

pub below_then : {X Y : Type 0} (o q : Outcome X) (f g : X → Outcome Y) → Below o q → ((x : X) → Below (f x) (g x)) → Below (o >>= f) (q >>= g)
below_then (Ok x) q f g h k = subst (λ (o : Outcome _). Below (f x) (o >>= g)) h (k x)
below_then (Err (fault j p)) q f g h k = ap (λ (o : Outcome _). o >>= g) h
below_then (Err (over p)) q f g h k = tt

pub below_order : {X Y : Type 0} (f g : X → Outcome Y) → ((x : X) → Below (f x) (g x)) → (xs : List X) → Below (in_order f xs) (in_order g xs)
below_order f g h [] = refl
below_order f g h (x ∷ xs) = below_then (f x) (g x) _ _ (h x) (λ y. below_then (in_order f xs) (in_order g xs) _ _ (below_order f g h xs) (λ ys. refl))

pub reached_below : (at : Place) (v : Value) → Below (bounded at v) (plain at v)
reached_below at v = by (fits v)
  where
    by : (b : Bool) → Below (if b then Ok v else Err (over at)) (plain at v)
    by true = refl
    by false = tt

pub senses_same : (s : Sense) → SensesBelow s s
senses_same s = record { value = below_same s.value; test = λ p v. below_same (s.test p v) }

-- ---- walks

pub walk_same : (w : Walk) → WalkBelow w w
walk_same (went t ns) = refl
walk_same (failed (fault k p)) = refl
walk_same (failed (over p)) = tt
walk_same (blocked at) = refl
walk_same (wanting n at) = refl

pub walk_is : (w u : Walk) → w ≡ u → WalkBelow w u
walk_is w u e = subst (WalkBelow w) e (walk_same w)

-- by whatever choices
abbrev pub CourseBelow : Course → Course → Type 0
CourseBelow c d = (ns : List ℕ) → WalkBelow (walk c ns) (walk d ns)

pub course_same : (c : Course) → CourseBelow c c
course_same c ns = walk_same (walk c ns)

pub after_below : {X : Type 0} (o q : Outcome X) (f g : X → Course) → Below o q → ((x : X) → CourseBelow (f x) (g x)) → CourseBelow (after o f) (after q g)
after_below (Ok x) q f g h k = subst (λ (o : Outcome _). CourseBelow (f x) (after o g)) h (k x)
after_below (Err (fault j p)) q f g h k = subst (λ (o : Outcome _). CourseBelow (stops (fault j p)) (after o g)) h (course_same (stops (fault j p)))
after_below (Err (over p)) q f g h k = λ ns. tt

abbrev pub CoursesBelow : Courses → Courses → Type 0
CoursesBelow no_courses no_courses = Unit {0}
CoursesBelow (course c cs) (course d ds) = CourseBelow c d × CoursesBelow cs ds
CoursesBelow _ _ = ⊥

counted : (cs ds : Courses) → CoursesBelow cs ds → count_courses cs ≡ count_courses ds
counted no_courses no_courses h = refl
counted no_courses (course d ds) h = absurd h
counted (course c cs) no_courses h = absurd h
counted (course c cs) (course d ds) h = ap suc (counted cs ds h.1)

missing_same : (at : Place) (cs ds : Courses) → CoursesBelow cs ds → missing cs at ≡ missing ds at
missing_same at no_courses no_courses h = refl
missing_same at no_courses (course d ds) h = absurd h
missing_same at (course c cs) no_courses h = absurd h
missing_same at (course c cs) (course d ds) h = ap (λ (n : ℕ). wanting (suc n) at) (counted cs ds h.1)

into_below : (w u : Walk) → w ≡ u → (cs ds : Courses) → CoursesBelow cs ds → (n : ℕ) (ns : List ℕ) → WalkBelow (walk_into w cs n ns) (walk_into u ds n ns)
into_below w u e no_courses no_courses h zero ns = walk_is w u e
into_below w u e no_courses no_courses h (suc zero) ns = walk_is w u e
into_below w u e no_courses no_courses h (suc (suc n)) ns = walk_is w u e
into_below w u e no_courses (course d ds) h n ns = absurd h
into_below w u e (course c cs) no_courses h n ns = absurd h
into_below w u e (course c cs) (course d ds) h zero ns = walk_is w u e
into_below w u e (course c cs) (course d ds) h (suc zero) ns = h.0 ns
into_below w u e (course c cs) (course d ds) h (suc (suc n)) ns = into_below w u e cs ds h.1 (suc n) ns

pub chooses_below : (at : Place) (cs ds : Courses) → CoursesBelow cs ds → CourseBelow (chooses at cs) (chooses at ds)
chooses_below at cs ds h [] = walk_is (missing cs at) (missing ds at) (missing_same at cs ds h)
chooses_below at cs ds h (n ∷ ns) = into_below (missing cs at) (missing ds at) (missing_same at cs ds h) cs ds h n ns

pub each_below : (vs : Values) (f g : Value → Course) → ((v : Value) → CourseBelow (f v) (g v)) → CoursesBelow (at_each vs f) (at_each vs g)
each_below no_values f g h = tt
each_below (and v vs) f g h = (h v, each_below vs f g h)

pub cond_below : (b : Bool) (f g p q : State → Course) (s : State) → CourseBelow (f s) (p s) → CourseBelow (g s) (q s) → CourseBelow (cond b f g s) (cond b p q s)
cond_below true f g p q s h k = h
cond_below false f g p q s h k = k
