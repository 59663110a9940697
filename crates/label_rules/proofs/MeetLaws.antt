-- Labels that are met one after another, and what second ones offend.
use Rattle.std.proofs.Common.{◌≡◌, ℕ, ◌+◌, ◌<◌, ◌≤◌, nat_lt, Bool, true, false, ◌||◌, List, [], ◌∷◌, ◌++◌, length, drop, get_or, Vec, Global, refl, sym, ap, ◌∙◌, subst, cond, bytes_eq, arith, lt-ltb, append_assoc, append-nil}
use Rattle.std.proofs.lemmas.List.{drop_more, drop_all, map-append}
use Rattle.std.proofs.lemmas.List.Folds.{list_any-append}
use Rattle.tla_token.specs.declared.rule.Refusal.{Refusal}
use Rattle.tla_token.specs.declared.rule.Rule.TheVariants.{DoubleLabel}
use Rattle.tla_token.specs.Signs.{is_among}
use Rattle.tla_tree.specs.Tree.{Name, Word, Tree}
use Rattle.tla_tree.specs.Pool.{at}
use Rattle.pcal_tree.specs.declared.mark.Mark.{Mark}
use Rattle.pcal_tree.specs.declared.algorithm.Span.{Span}
use Rattle.pcal_tree.specs.declared.algorithm.Bind.{Bind}
use Rattle.pcal_tree.specs.declared.algorithm.Simple as declared_simple
use Rattle.pcal_tree.specs.declared.algorithm.Stmt.{Stmt}
use Rattle.pcal_tree.specs.declared.algorithm.Stmt.TheVariants.{Label, Simple, If, Either, With, While}
use Rattle.pcal_tree.specs.Algorithm.{branch, either, with, while, Statements, then, mark}
use Rattle.pcal_tree.specs.InMemory.{span_of, binds_at, simple_at, Before, stmt_at, statements_at, branches_at}
use Rattle.pcal_tree.specs.Offences.{offence_if}
use Rattle.pcal_tree.specs.OffencesLabels as pure
use Rattle.pcal_tree.specs.OffencesLabels.{labels, labels_of_one, labels_of_some, second_labels}
use Rattle.pcal_tree.proofs.InMemoryEach.{label_at, simple_in_list_at, if_at, either_at, with_at, while_at}
use Rattle.algorithm_limits.specs.Numbers.{Numbers, number_of, with_number}
use Rattle.algorithm_limits.proofs.Tables.{number_of_with}
use Rattle.label_rules.specs.declared.labels.Labels.{Labels}
use Rattle.label_jumps.specs.Meeting.{is_met, AreMet, label_names}
use Rattle.label_rules.specs.Meeting.{Meets, MeetsStmt}
use Rattle.label_jumps.proofs.MeetLaws.{no_labels}
use Rattle.label_rules.proofs.AddedLaws.{added_then}

-- ---- second labels

abbrev seen_after : List Word → List pure.Label → List Word
seen_after s [] = s
seen_after s (l ∷ ls) = seen_after (l.name.word ∷ s) ls

seconds_append : (s : List Word) (ls ms : List pure.Label) → second_labels s (ls ++ ms) ≡ second_labels s ls ++ second_labels (seen_after s ls) ms
seconds_append s [] ms = refl
seconds_append s (l ∷ ls) ms =
    let here = offence_if (l.second || is_among s l.name.word) DoubleLabel l.name.place in
    ap (λ (rs : List Refusal). here ++ rs) (seconds_append (l.name.word ∷ s) ls ms)
    ∙ sym (append_assoc here (second_labels (l.name.word ∷ s) ls) (second_labels (seen_after s (l ∷ ls)) ms))

moved : (a b c : Bool) → (a || (b || c)) ≡ ((b || a) || c)
moved true true c = refl
moved true false c = refl
moved false true c = refl
moved false false c = refl

seen_names : (s : List Word) (ls : List pure.Label) (x : Word) → is_among (seen_after s ls) x ≡ (is_among (label_names ls) x || is_among s x)
seen_names s [] x = refl
seen_names s (l ∷ ls) x = seen_names (l.name.word ∷ s) ls x ∙ moved (is_among (label_names ls) x) (bytes_eq l.name.word x) (is_among s x)

-- ---- labels one after another

pub met_none : (k : Labels) → Meets k k []
met_none k = record { names = λ x. refl; seconds = λ seen h. sym (append-nil k.seconds.items) }

pub met_as : (j k : Labels) (ls ms : List pure.Label) → ls ≡ ms → Meets j k ls → Meets j k ms
met_as j k ls ms e h = subst (λ (ns : List pure.Label). Meets j k ns) e h

one_met : (es : Numbers) (m : Word) (x : Word) → is_met (with_number es m 1) x ≡ ((bytes_eq m x || false) || is_met es x)
one_met es m x = ap (nat_lt 0) (number_of_with es m 1 x) ∙ by (bytes_eq m x) (number_of es x)
  where
    by : (b : Bool) (n : ℕ) → nat_lt 0 (cond b 1 n) ≡ ((b || false) || nat_lt 0 n)
    by true n = lt-ltb 0 1 (omega arith)
    by false n = refl

-- a label, which was met before or not
pub met_one : (j k : Labels) (second : Bool) (n : Name) → k.met ≡ with_number j.met n.word 1
    → k.seconds.items ≡ j.seconds.items ++ offence_if (second || is_met j.met n.word) DoubleLabel n.place → Meets j k (record { name = n; second = second } ∷ [])
met_one j k second n e h = record {
  names = λ x. ap (λ (es : Numbers). is_met es x) e ∙ one_met j.met n.word x;
  seconds = λ seen are.
      h ∙ ap (λ (b : Bool). j.seconds.items ++ offence_if (second || b) DoubleLabel n.place) (are n.word)
      ∙ ap (λ (rs : List Refusal). j.seconds.items ++ rs) (sym (append-nil (offence_if (second || is_among seen n.word) DoubleLabel n.place)));
}

pub met_then : (j k l : Labels) (ls ms : List pure.Label) → Meets j k ls → Meets k l ms → Meets j l (ls ++ ms)
met_then j k l ls ms a b = record {
  names = λ x.
      b.names x ∙ ap (λ (t : Bool). is_among (label_names ms) x || t) (a.names x) ∙ moved (is_among (label_names ms) x) (is_among (label_names ls) x) (is_met j.met x)
      ∙ ap (λ (t : Bool). t || is_met j.met x) (sym (ap (λ (xs : List Word). is_among xs x) (map-append (λ (i : pure.Label). i.name.word) ls ms) ∙ list_any-append (λ v. bytes_eq v x) (label_names ls) (label_names ms)));
  seconds = λ seen are.
      added_then j.seconds.items k.seconds.items l.seconds.items (second_labels seen ls) (second_labels (seen_after seen ls) ms) (a.seconds seen are)
      (b.seconds (seen_after seen ls) (λ x. a.names x ∙ ap (λ (t : Bool). is_among (label_names ls) x || t) (are x) ∙ sym (seen_names seen ls x)))
      ∙ ap (λ (rs : List Refusal). j.seconds.items ++ rs) (sym (seconds_append seen ls ms));
}

-- ---- each kind of statement, before the rest of its list

standing : (ts : List Tree) (j k : Labels) (s : Stmt) (l m : Bool) (f : Before) (these : List pure.Label) → stmt_at ts s ≡ f
    → ((rest : Statements) → labels l (f rest) ≡ these ++ labels m rest) → Meets j k these → MeetsStmt ts s l m j k
standing ts j k s l m f these e a g = record { these = these; ahead = λ rest. ap (λ (h : Before). labels l (h rest)) e ∙ a rest; meets = g }

module _ (ts : List Tree) (l : Bool) (j k : Labels) where
  pub label_met : (x : Name) (m : Mark) → Meets j k (record { name = x; second = l } ∷ []) → MeetsStmt ts (Label x m) l true j k
  label_met x m g = standing ts j k (Label x m) l true (mark x m) (record { name = x; second = l } ∷ []) (label_at ts x m) (λ rest. refl) g

  pub simple_met : (s : Span) (x : declared_simple.Simple) → MeetsStmt ts (Simple s x) l false j j
  simple_met s x =
      standing ts j j (Simple s x) l false (then (span_of s) (simple_at ts x)) [] (simple_in_list_at ts s x) (λ rest. ap (λ (ls : List pure.Label). ls ++ labels false rest) (no_labels ts x)) (met_none j)

  pub if_met : (h : Labels) (s : Span) (e : ℕ) (a b : Vec Stmt Global) → Meets j h (labels false (statements_at ts a.items)) → Meets h k (labels false (statements_at ts b.items)) → MeetsStmt ts (If s e a b) l false j k
  if_met h s e a b g i =
      standing ts j k (If s e a b) l false (then (span_of s) (branch (at ts e) (statements_at ts a.items) (statements_at ts b.items))) (labels false (statements_at ts a.items) ++ labels false (statements_at ts b.items)) (if_at ts s e a b) (λ rest. refl)
      (met_then j h k (labels false (statements_at ts a.items)) (labels false (statements_at ts b.items)) g i)

  pub either_met : (s : Span) (bs : Vec (Vec Stmt Global) Global) → Meets j k (labels_of_some (branches_at ts bs.items)) → MeetsStmt ts (Either s bs) l false j k
  either_met s bs g = standing ts j k (Either s bs) l false (then (span_of s) (either (branches_at ts bs.items))) (labels_of_some (branches_at ts bs.items)) (either_at ts s bs) (λ rest. refl) g

  pub with_met : (s : Span) (bs : Vec Bind Global) (b : Vec Stmt Global) → Meets j k (labels false (statements_at ts b.items)) → MeetsStmt ts (With s bs b) l false j k
  with_met s bs b g = standing ts j k (With s bs b) l false (then (span_of s) (with (binds_at ts bs.items) (statements_at ts b.items))) (labels false (statements_at ts b.items)) (with_at ts s bs b) (λ rest. refl) g

  pub while_met : (s : Span) (e : ℕ) (b : Vec Stmt Global) → Meets j k (labels false (statements_at ts b.items)) → MeetsStmt ts (While s e b) l false j k
  while_met s e b g = standing ts j k (While s e b) l false (then (span_of s) (while (at ts e) (statements_at ts b.items))) (labels false (statements_at ts b.items)) (while_at ts s e b) (λ rest. refl) g

-- ---- lists: what is left of one still gives the whole

pub body_met : (ts : List Tree) (l m : Bool) (j k i : Labels) (ss : List Stmt) (n : ℕ) (s : Stmt) → s ≡ get_or ss n s → n < length ss → MeetsStmt ts s l m j k
    → Meets k i (labels m (statements_at ts (drop (n + 1) ss))) → Meets j i (labels l (statements_at ts (drop n ss)))
body_met ts l m j k i ss n s e less a g =
    met_as j i _ _ (sym (a.ahead (statements_at ts (drop (n + 1) ss))) ∙ ap (λ (ys : List Stmt). labels l (statements_at ts ys)) (ap (λ (y : Stmt). y ∷ drop (n + 1) ss) e ∙ sym (drop_more ss n s less)))
    (met_then j k i a.these (labels m (statements_at ts (drop (n + 1) ss))) a.meets g)

pub body_done : (ts : List Tree) (l : Bool) (j : Labels) (ss : List Stmt) (n : ℕ) → length ss ≤ n → Meets j j (labels l (statements_at ts (drop n ss)))
body_done ts l j ss n less = met_as j j _ _ (ap (λ (ys : List Stmt). labels l (statements_at ts ys)) (sym (drop_all n ss less))) (met_none j)

pub branches_met : (ts : List Tree) (j k i : Labels) (bs : List (Vec Stmt Global)) (n : ℕ) (b : Vec Stmt Global) → b ≡ get_or bs n b → n < length bs → Meets j k (labels false (statements_at ts b.items))
    → Meets k i (labels_of_some (branches_at ts (drop (n + 1) bs))) → Meets j i (labels_of_some (branches_at ts (drop n bs)))
branches_met ts j k i bs n b e less a g =
    met_as j i _ _ (ap (λ (ys : List (Vec Stmt Global)). labels_of_some (branches_at ts ys)) (ap (λ (y : Vec Stmt Global). y ∷ drop (n + 1) bs) e ∙ sym (drop_more bs n b less)))
    (met_then j k i (labels false (statements_at ts b.items)) (labels_of_some (branches_at ts (drop (n + 1) bs))) a g)

pub branches_done : (ts : List Tree) (j : Labels) (bs : List (Vec Stmt Global)) (n : ℕ) → length bs ≤ n → Meets j j (labels_of_some (branches_at ts (drop n bs)))
branches_done ts j bs n less = met_as j j _ _ (ap (λ (ys : List (Vec Stmt Global)). labels_of_some (branches_at ts ys)) (sym (drop_all n bs less))) (met_none j)

-- ---- a whole body

-- where none was met before
pub all_met : (j k : Labels) (ls : List pure.Label) → j.met ≡ [] → j.seconds.items ≡ [] → Meets j k ls → AreMet k.met (label_names ls) × (k.seconds.items ≡ second_labels [] ls)
all_met j k ls e h a = (
  λ x. a.names x ∙ ap (λ (es : Numbers). is_among (label_names ls) x || is_met es x) e ∙ or_none (is_among (label_names ls) x),
  a.seconds [] (λ x. ap (λ (es : Numbers). is_met es x) e) ∙ ap (λ (o : List Refusal). o ++ second_labels [] ls) h,
)
  where
    or_none : (b : Bool) → (b || false) ≡ b
    or_none true = refl
    or_none false = refl
