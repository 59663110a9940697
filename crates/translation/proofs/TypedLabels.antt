-- Added labels are identifiers, so what an algorithm has of its text stays with labels added.
use Rattle.std.proofs.Common.{◌≡◌, ℕ, zero, suc, ◌+◌, ◌<◌, ◌%◌, ◌/◌, List, [], ◌∷◌, reverse, Bool, true, false, ◌||◌, ◌&&◌, cond, codes, nat_lt, nat_eq, Some, None, refl, sym, subst, decimal, arith}
use Rattle.std.specs.Bool.{◌==◌}
use Rattle.std.specs.Fmt.{digits_onto, digit_glyph, digits}
use Rattle.std.specs.List.{list_all, AllByRecursion}
use Rattle.std.proofs.lemmas.Bool.{and_from, or_left, or_right, le-leb, lt-ltb}
use Rattle.tla_token.specs.Lexemes.{is_letter, is_digit, is_word}
use Rattle.tla_token.specs.declared.place.Place.{Place}
use Rattle.tla_token.specs.declared.rule.Rule.TheVariants.{FirstLabel}
use Rattle.tla_tree.specs.Tree.{Word, Trees}
use Rattle.tla_tree.specs.laws.Writable.{IsIdentifier}
use Rattle.pcal_tree.specs.Algorithm.{Span, Statement, assign, await, print, assert, skip, branch, either, with, while, goto, macro, call, return, Statements, done, then, mark, Branches, no_branches, or, Macro, Procedure, Process, Main, alone, processes, Algorithm}
use Rattle.pcal_tree.specs.Run.{partner_of}
use Rattle.pcal_tree.specs.Paths.{Effect, Effects, nothing, after_one}
use Rattle.pcal_tree.specs.OffencesSteps.{Before, at_label, at_first, inside, next, call_effect, procedure_effects, outer_effects}
use Rattle.pcal_tree.specs.Labelled.{added_name, Supply, number, names_after, labelled_if, needs_label, before, add_inside, add, add_some, add_to_macros, add_to_procedures, add_to_processes, add_to_main, typed_labels, with_labels, is_alone, labelled}
use Rattle.pcal_tree.specs.Tests.{is_empty}
use Rattle.translation.specs.laws.WritableAlgorithm.{IsStarted}
use Rattle.translation.specs.laws.TypedAlgorithm.{IsTypedStatement, AreTypedStatements, AreTypedBranches, IsTypedMacro, IsTypedProcedure, IsTypedProcess, IsTypedMain, IsTypedAlgorithm}

glyph_word : (d : ℕ) → d < 10 → is_word (digit_glyph false d) ≡ true
glyph_word d h = by (nat_lt d 10) (lt-ltb d 10 h)
  where
    by : (b : Bool) → b ≡ true → is_word (cond b (48 + d) (87 + d)) ≡ true
    by true e = or_left (is_letter (48 + d) || is_digit (48 + d)) (nat_eq (48 + d) 95) (or_right (is_letter (48 + d)) (is_digit (48 + d)) (and_from _ _ (le-leb 48 (48 + d) (omega arith)) (le-leb (48 + d) 57 (omega arith))))
    by false e = cc

onto_words : (k n : ℕ) (acc : Word) → list_all is_word acc ≡ true → list_all is_word (digits_onto k 10 false n acc) ≡ true
onto_words zero n acc h = h
onto_words (suc k) n acc h =
    let g = digit_glyph false (n % 10) in
    let w = and_from (is_word g) (list_all is_word acc) (glyph_word (n % 10) (omega arith)) h in
    by (n / 10 == 0) w (onto_words k (n / 10) (g ∷ acc) w)
  where
    by : (b : Bool) → list_all is_word (digit_glyph false (n % 10) ∷ acc) ≡ true → list_all is_word (digits_onto k 10 false (n / 10) (digit_glyph false (n % 10) ∷ acc)) ≡ true
        → list_all is_word (cond b (digit_glyph false (n % 10) ∷ acc) (digits_onto k 10 false (n / 10) (digit_glyph false (n % 10) ∷ acc))) ≡ true
    by true w f = w
    by false w f = f

decimal_words : (n : ℕ) → list_all is_word (decimal n) ≡ true
unfolding digits
decimal_words n = onto_words 64 n [] refl

added : (n : ℕ) → IsIdentifier (added_name (codes "Lbl_") n)
added n = ((decimal_words n, refl), refl)

-- ---- statements

-- typed, and not empty if b isn't
abbrev Still : Statements → Statements → Type 0
Still b r = AreTypedStatements r × (IsStarted b → IsStarted r)

labelled_still : (b : Bool) (s : Supply) (at : Place) (sp : Span) (st : Statement) (rest : Statements) → s.root ≡ codes "Lbl_" → IsTypedStatement st → AreTypedStatements rest → AreTypedStatements (labelled_if b s at (then sp st rest)) × IsStarted (labelled_if b s at (then sp st rest))
labelled_still true s at sp st rest r h k = ((subst (λ w. IsIdentifier (added_name w (number s))) (sym r) (added (number s)), (h, k)), tt)
labelled_still false s at sp st rest r h k = ((h, k), tt)

after_root : (b : Bool) (s : Supply) → s.root ≡ codes "Lbl_" → (names_after b s).root ≡ codes "Lbl_"
after_root true s r = r
after_root false s r = r

-- what takes the result holds for all that are so
abbrev pub After : {R : Type 0} {B : Type 0} → (R → Type 0) → (B → Type 0) → (B → Supply → R) → Type 0
After {R = R} {B = B} Q C go = (b : B) (t : Supply) → t.root ≡ codes "Lbl_" → C b → Q (go b t)

mutual
  typed_inside : {R : Type 0} (Q : R → Type 0) (E : Effects) (p : Before) (s : Supply) (st : Statement) (go : Statement → Supply → R)
      → s.root ≡ codes "Lbl_" → IsTypedStatement st → After Q IsTypedStatement go → Q (add_inside E p s st go)
  typed_inside Q E p s (branch e a b) go r h k =
      typed_add Q E (inside p.path) s a _ r h.1 (λ a' t q c. typed_add Q E (inside p.path) t b _ q h.2 (λ b' u o d. k (branch e a' b') u o (h.0, c.0, d.0)))
  typed_inside Q E p s (either no_branches) go r h k = absurd h
  typed_inside Q E p s (either (or b bs)) go r h k =
      typed_add Q E (inside p.path) s b _ r h.0 (λ b' t q c. typed_add_some Q E (inside p.path) t bs _ q h.1 (λ bs' u o d. k (either (or b' bs')) u o (c.0, d)))
  typed_inside Q E p s (while e b) go r h k =
      typed_add Q E (inside (after_one E (while e b) p.labelled p.path)) s b _ r h.1 (λ b' t q c. k (while e b') t q (h.0, c.0))
  typed_inside Q E p s (with bs b) go r h k = k (with bs b) s r h
  typed_inside Q E p s (assign ms) go r h k = k (assign ms) s r h
  typed_inside Q E p s (await e) go r h k = k (await e) s r h
  typed_inside Q E p s (print e) go r h k = k (print e) s r h
  typed_inside Q E p s (assert e) go r h k = k (assert e) s r h
  typed_inside Q E p s skip go r h k = k skip s r h
  typed_inside Q E p s (goto l) go r h k = k (goto l) s r h
  typed_inside Q E p s (macro m ts) go r h k = k (macro m ts) s r h
  typed_inside Q E p s (call m ts) go r h k = k (call m ts) s r h
  typed_inside Q E p s return go r h k = k return s r h

  pub typed_add : {R : Type 0} (Q : R → Type 0) (E : Effects) (p : Before) (s : Supply) (b : Statements) (go : Statements → Supply → R)
      → s.root ≡ codes "Lbl_" → AreTypedStatements b → After Q (Still b) go → Q (add E p s b go)
  typed_add Q E p s done go r h k = k done s r (tt, λ i. i)
  typed_add Q E p s (mark n m rest) go r h k = typed_add Q E at_label s rest _ r h.1 (λ b t q c. k (mark n m b) t q ((h.0, c.0), λ i. tt))
  typed_add Q E p s (then at st rest) go r h k =
      typed_inside Q E (before (needs_label E p at st (partner_of rest)) p) (names_after (needs_label E p at st (partner_of rest)) s) st _ (after_root (needs_label E p at st (partner_of rest)) s r) h.0 (λ st' t q c.
      typed_add Q E (next E (before (needs_label E p at st (partner_of rest)) p) st' (partner_of rest)) t rest _ q h.1 (λ b u o d.
      let l = labelled_still (needs_label E p at st (partner_of rest)) s at.first at st' b r c d.0 in
      k (labelled_if (needs_label E p at st (partner_of rest)) s at.first (then at st' b)) u o (l.0, λ i. l.1)))

  typed_add_some : {R : Type 0} (Q : R → Type 0) (E : Effects) (p : Before) (s : Supply) (bs : Branches) (go : Branches → Supply → R)
      → s.root ≡ codes "Lbl_" → AreTypedBranches bs → After Q AreTypedBranches go → Q (add_some E p s bs go)
  typed_add_some Q E p s no_branches go r h k = k no_branches s r tt
  typed_add_some Q E p s (or b bs) go r h k =
      typed_add Q E p s b _ r h.0 (λ b' t q c. typed_add_some Q E p t bs _ q h.1 (λ bs' u o d. k (or b' bs') u o (c.0, d)))

-- ---- algorithms

pub macros_through : {R : Type 0} (Q : R → Type 0) (s : Supply) (ds : List Macro) (go : List Macro → Supply → R) → s.root ≡ codes "Lbl_" → AllByRecursion IsTypedMacro ds → After Q (AllByRecursion IsTypedMacro) go → Q (add_to_macros s ds go)
macros_through Q s [] go r h k = k [] s r tt
macros_through Q s (d ∷ ds) go r h k =
    typed_add Q (λ st. nothing) (at_first None) s d.body _ r h.0.2.1 (λ b t q c.
    macros_through Q t ds _ q h.1 (λ es u o e. k (record { name = d.name; params = d.params; body = b } ∷ es) u o ((h.0.0, h.0.1, (c.1 h.0.2.0, c.0)), e)))

procedures_through : {R : Type 0} (Q : R → Type 0) (C : Word → Trees → Effect) (s : Supply) (ps : List Procedure) (go : List Procedure → Supply → R) → s.root ≡ codes "Lbl_" → AllByRecursion IsTypedProcedure ps → After Q (AllByRecursion IsTypedProcedure) go → Q (add_to_procedures C s ps go)
procedures_through Q C s [] go r h k = k [] s r tt
procedures_through Q C s (p ∷ ps) go r h k =
    typed_add Q (procedure_effects C p) (at_first (Some FirstLabel)) s p.body _ r h.0.3.1 (λ b t q c.
    procedures_through Q C t ps _ q h.1 (λ qs u o d. k (record { name = p.name; params = p.params; variables = p.variables; body = b } ∷ qs) u o ((h.0.0, h.0.1, h.0.2, (c.1 h.0.3.0, c.0)), d)))

processes_through : {R : Type 0} (Q : R → Type 0) (C : Word → Trees → Effect) (s : Supply) (ps : List Process) (go : List Process → R) → s.root ≡ codes "Lbl_" → AllByRecursion IsTypedProcess ps → ((qs : List Process) → AllByRecursion IsTypedProcess qs → Q (go qs)) → Q (add_to_processes C s ps go)
processes_through Q C s [] go r h k = k [] tt
processes_through Q C s (p ∷ ps) go r h k =
    typed_add Q (outer_effects C) (at_first (Some FirstLabel)) s p.body _ r h.0.3.1 (λ b t q c.
    processes_through Q C t ps _ q h.1 (λ qs d. k (record { name = p.name; fairness = p.fairness; several = p.several; identity = p.identity; variables = p.variables; body = b } ∷ qs) ((h.0.0, h.0.1, h.0.2, (c.1 h.0.3.0, c.0)), d)))

pub main_through : {R : Type 0} (Q : R → Type 0) (C : Word → Trees → Effect) (s : Supply) (m : Main) (go : Main → R) → s.root ≡ codes "Lbl_" → IsTypedMain m → ((m' : Main) → IsTypedMain m' → Q (go m')) → Q (add_to_main C s m go)
main_through Q C s (alone b) go r h k = typed_add Q (outer_effects C) (at_first (Some FirstLabel)) s b _ r h.1 (λ c t q d. k (alone c) (d.1 h.0, d.0))
main_through Q C s (processes []) go r h k = absurd h
main_through Q C s (processes (p ∷ ps)) go r h k =
    typed_add Q (outer_effects C) (at_first (Some FirstLabel)) s p.body _ r h.0.3.1 (λ b t q c.
    processes_through Q C t ps _ q h.1 (λ qs d. k (processes (record { name = p.name; fairness = p.fairness; several = p.several; identity = p.identity; variables = p.variables; body = b } ∷ qs)) ((h.0.0, h.0.1, h.0.2, (c.1 h.0.3.0, c.0)), d)))

with_labels_typed : (a : Algorithm) → IsTypedAlgorithm a → IsTypedAlgorithm (with_labels call_effect (codes "Lbl_") a)
with_labels_typed a h =
    macros_through IsTypedAlgorithm (record { root = codes "Lbl_"; typed = typed_labels a; from = 1 }) a.macros _ refl h.macros (λ ms s r c.
    procedures_through IsTypedAlgorithm (call_effect (reverse ms)) s a.procedures _ r h.procedures (λ ps t q d.
    main_through IsTypedAlgorithm (call_effect (reverse ms)) t a.main _ q h.main (λ m e.
    record { name = h.name; globals = h.globals; definitions = h.definitions; macros = c; procedures = d; main = e })))

pub labelled_typed : (forced : Bool) (a : Algorithm) → IsTypedAlgorithm a → IsTypedAlgorithm (labelled forced a)
labelled_typed forced a h = by (forced || (is_alone a.main && is_empty (typed_labels a)))
  where
    by : (b : Bool) → IsTypedAlgorithm (cond b (with_labels call_effect (codes "Lbl_") a) a)
    by true = with_labels_typed a h
    by false = h
