-- Labels that the translator adds ("A PlusCal User's Manual", section 3.7, labels, and the option `-label`).
use Rattle.std.specs.Prelude.{ℕ, zero, suc, length, List, [], ◌∷◌, ◌++◌, map, reverse, Bool, true, false, ◌&&◌, ◌||◌, not, cond, codes, Some, None}
use Rattle.std.specs.List.{flat_map}
use Rattle.std.specs.Fmt.{decimal}
use Rattle.tla_token.specs.declared.place.Place.{Place}
use Rattle.tla_token.specs.declared.rule.Rule.TheVariants.{FirstLabel}
use Rattle.tla_token.specs.declared.rule.Refusal.{Refusal}
use Rattle.tla_token.specs.Signs.{is_among}
use Rattle.tla_tree.specs.Tree.{Word, Trees}
use Rattle.pcal_tree.specs.Tests.{is_empty}
use Rattle.pcal_tree.specs.declared.mark.Mark.TheVariants.{Plain}
use Rattle.pcal_tree.specs.Algorithm.{Span, Statement, branch, either, with, while, Statements, done, then, mark, Branches, no_branches, or, Macro, Procedure, Process, Main, alone, processes, Algorithm}
use Rattle.pcal_tree.specs.Run.{Partner, partner_of}
use Rattle.pcal_tree.specs.Paths.{Effect, Effects, nothing, after_one}
use Rattle.pcal_tree.specs.OffencesSteps.{Before, at_label, at_first, inside, next, visits_inside, offences_at, call_effect, procedure_effects, outer_effects}
use Rattle.pcal_tree.specs.OffencesLabels.{all_labels}

-- ---- names of added labels

-- Lbl_1, Lbl_2, .. of the root Lbl_
abbrev pub added_name : Word → ℕ → Word
added_name root n = root ++ decimal n

-- the first number from n on whose name no typed label has, looking at as many as there are typed labels and one more
abbrev pub free_number : ℕ → List Word → Word → ℕ → ℕ
free_number zero typed root n = n
free_number (suc more) typed root n = cond (is_among typed (added_name root n)) (free_number more typed root (suc n)) n

-- names that are left
pub record Supply : Type 0 where
  pub root : Word
  pub typed : List Word
  pub from : ℕ

abbrev pub number : Supply → ℕ
number s = free_number (length s.typed) s.typed s.root s.from

abbrev pub rest_of : Supply → Supply
rest_of s = record { root = s.root; typed = s.typed; from = suc (number s) }

abbrev pub names_after : Bool → Supply → Supply
names_after b s = cond b (rest_of s) s

-- ---- statements

-- the place of an added label is that of its statement
abbrev pub labelled_if : Bool → Supply → Place → Statements → Statements
labelled_if true s at rest = mark (record { word = added_name s.root (number s); place = at }) Plain rest
labelled_if false s at rest = rest

-- inside a `with` no label can be: what would need one there makes the `with` need it
abbrev pub inside_needs : Effects → Before → Statement → List Refusal
inside_needs E p (with bs b) = flat_map (offences_at E) (visits_inside E p (with bs b))
inside_needs E p _ = []

abbrev pub needs_label : Effects → Before → Span → Statement → Partner → Bool
needs_label E p at st j =
    not p.labelled && not (is_empty (offences_at E (record { before = p; place = at.first; statement = st; partner = j }) ++ inside_needs E p st))

abbrev pub before : Bool → Before → Before
before b p = cond b at_label p

-- what follows takes the result and the names that are left
abbrev mutual
  pub add_inside : {R : Type 0} → Effects → Before → Supply → Statement → (Statement → Supply → R) → R
  add_inside E p s (branch e a b) go = add E (inside p.path) s a (λ a' t. add E (inside p.path) t b (λ b' u. go (branch e a' b') u))
  add_inside E p s (either bs) go = add_some E (inside p.path) s bs (λ bs' t. go (either bs') t)
  add_inside E p s (while e b) go = add E (inside (after_one E (while e b) p.labelled p.path)) s b (λ b' t. go (while e b') t)
  add_inside E p s st go = go st s

  pub add : {R : Type 0} → Effects → Before → Supply → Statements → (Statements → Supply → R) → R
  add E p s done go = go done s
  add E p s (mark n k rest) go = add E at_label s rest (λ r t. go (mark n k r) t)
  add E p s (then at st rest) go =
      add_inside E (before (needs_label E p at st (partner_of rest)) p) (names_after (needs_label E p at st (partner_of rest)) s) st (λ st' t.
      add E (next E (before (needs_label E p at st (partner_of rest)) p) st' (partner_of rest)) t rest (λ r u.
      go (labelled_if (needs_label E p at st (partner_of rest)) s at.first (then at st' r)) u))

  pub add_some : {R : Type 0} → Effects → Before → Supply → Branches → (Branches → Supply → R) → R
  add_some E p s no_branches go = go no_branches s
  add_some E p s (or b bs) go = add E p s b (λ b' t. add_some E p t bs (λ bs' u. go (or b' bs') u))

-- ---- algorithms

abbrev pub add_to_macros : {R : Type 0} → Supply → List Macro → (List Macro → Supply → R) → R
add_to_macros s [] go = go [] s
add_to_macros s (d ∷ ds) go =
    add (λ st. nothing) (at_first None) s d.body (λ b t.
    add_to_macros t ds (λ es u. go (record { name = d.name; params = d.params; body = b } ∷ es) u))

-- where macro calls assign what C says
abbrev pub add_to_procedures : {R : Type 0} → (Word → Trees → Effect) → Supply → List Procedure → (List Procedure → Supply → R) → R
add_to_procedures C s [] go = go [] s
add_to_procedures C s (p ∷ ps) go =
    add (procedure_effects C p) (at_first (Some FirstLabel)) s p.body (λ b t.
    add_to_procedures C t ps (λ qs u. go (record { name = p.name; params = p.params; variables = p.variables; body = b } ∷ qs) u))

abbrev pub add_to_processes : {R : Type 0} → (Word → Trees → Effect) → Supply → List Process → (List Process → R) → R
add_to_processes C s [] go = go []
add_to_processes C s (p ∷ ps) go =
    add (outer_effects C) (at_first (Some FirstLabel)) s p.body (λ b t.
    add_to_processes C t ps (λ qs. go (record { name = p.name; fairness = p.fairness; several = p.several; identity = p.identity; variables = p.variables; body = b } ∷ qs)))

abbrev pub add_to_main : {R : Type 0} → (Word → Trees → Effect) → Supply → Main → (Main → R) → R
add_to_main C s (alone b) go = add (outer_effects C) (at_first (Some FirstLabel)) s b (λ c t. go (alone c))
add_to_main C s (processes ps) go = add_to_processes C s ps (λ qs. go (processes qs))

-- the labels that the user typed
abbrev pub typed_labels : Algorithm → List Word
typed_labels a = map (λ l. l.name.word) (all_labels a)

-- F says what calls of macros assign, the newest of these being the first
abbrev pub with_labels : (List Macro → Word → Trees → Effect) → Word → Algorithm → Algorithm
with_labels F root a =
    add_to_macros (record { root = root; typed = typed_labels a; from = 1 }) a.macros (λ ms s.
    add_to_procedures (F (reverse ms)) s a.procedures (λ ps t.
    add_to_main (F (reverse ms)) t a.main (λ m.
    record { name = a.name; fair = a.fair; globals = a.globals; definitions = a.definitions; macros = ms; procedures = ps; main = m })))

abbrev pub is_alone : Main → Bool
is_alone (alone b) = true
is_alone (processes ps) = false

-- labels are added to every algorithm where they are forced, and in a uniprocess algorithm without any
abbrev pub labelled_by : (List Macro → Word → Trees → Effect) → Bool → Algorithm → Algorithm
labelled_by F forced a = cond (forced || (is_alone a.main && is_empty (typed_labels a))) (with_labels F (codes "Lbl_") a) a

abbrev pub labelled : Bool → Algorithm → Algorithm
labelled forced a = labelled_by call_effect forced a
