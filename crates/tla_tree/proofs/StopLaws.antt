-- Reading stops at one token at most, by one rule; and what no phrase begins with.
use Rattle.std.proofs.Common.{◌≡◌, ◌⊎◌, ℕ, zero, suc, ◌+◌, ◌<◌, ◌≤◌, Bool, true, false, List, [], ◌∷◌, ◌++◌, length, take, drop, map, get_or, Option, Some, None, Ok, inl, inr, refl, sym, ap, ◌∙◌, subst, arith, length-append}
use Rattle.std.specs.List.{list_all}
use Rattle.std.proofs.lemmas.List.{append_assoc, take-append-drop}
use Rattle.std.proofs.lemmas.List.Folds.{list_all-append}
use Rattle.std.proofs.lemmas.Bool.{and_parts, cases_order}
use Rattle.tla_token.specs.declared.place.Place.{Place}
use Rattle.tla_token.specs.declared.rule.Rule.{Rule}
use Rattle.tla_token.specs.declared.rule.Refusal.{Refusal}
use Rattle.tla_tree.specs.Lexical.{Token}
use Rattle.tla_tree.specs.Spelling.{Phrase}
use Rattle.tla_tree.specs.Reader.{Out, readers, free}
use Rattle.tla_tree.specs.FirstStop.{Look, looks, is_within, Grammar, Begins, Passes, StopRule, StopsAt, phrases, RefusesExpression}
use Rattle.tla_tree.proofs.Steps.{steps}
use Rattle.tla_tree.proofs.ReadPhrases.{closed}
use Rattle.tla_tree.proofs.ReadAll.{reads}
use Rattle.tla_tree.proofs.Columns.{begun}

-- ---- one token, one rule

pub longer : {A : Type 0} (n m : ℕ) (xs : List A) → n ≤ m → (ys : List A) × (take m xs ≡ take n xs ++ ys)
longer zero m xs h = (take m xs, refl)
longer (suc n) zero xs h = absurd (omega arith)
longer (suc n) (suc m) [] h = ([], refl)
longer {A = A} (suc n) (suc m) (x ∷ xs) h = (let w = longer n m xs (omega arith) in (w.0, ap (λ (ys : List A). x ∷ ys) w.1))

pub fewer : {A : Type 0} (p : A → Bool) (n m : ℕ) (xs : List A) → n ≤ m → list_all p (take m xs) ≡ true → list_all p (take n xs) ≡ true
fewer p n m xs h e =
    let w = longer n m xs h in
    (and_parts (list_all p (take n xs)) (list_all p w.0) (sym (list_all-append p (take n xs) w.0) ∙ ap (list_all p) (sym w.1) ∙ e)).0

pub passes_before : (G : Grammar) (xs ys : List (Option Look)) → Passes G (xs ++ ys) → Passes G xs
passes_before G xs ys (more, ns, g, few) =
    let l = length-append xs ys in
    (ys ++ more, ns, subst (λ (ks : List (Option Look)). G ks ns) (append_assoc xs ys more) g, fewer is_within (length xs) (length (xs ++ ys)) ns (omega arith) few)

pub passes_begins : (G : Grammar) (ks : List (Option Look)) → Passes G ks → Begins G ks
passes_begins G ks (more, ns, g, few) = (more, ns, g)

passes_shorter : (G : Grammar) (ks : List (Option Look)) (n m : ℕ) → n ≤ m → Passes G (take m ks) → Passes G (take n ks)
passes_shorter G ks n m h p = (let w = longer n m ks h in passes_before G (take n ks) w.0 (subst (λ (ls : List (Option Look)). Passes G ls) w.1 p))

pub stops_once : (G : Grammar) (ks : List (Option Look)) (n m : ℕ) (r q : Rule) → StopsAt G ks n r → StopsAt G ks m q → n ≡ m
stops_once G ks n m r q s t = by (cases_order n m)
  where
    by : (n ≡ m) ⊎ ((n < m) ⊎ (m < n)) → n ≡ m
    by (inl e) = e
    by (inr (inl l)) = absurd (s.stopped (passes_shorter G ks (suc n) m (omega arith) t.passed))
    by (inr (inr l)) = absurd (t.stopped (passes_shorter G ks (suc m) n (omega arith) s.passed))

one_rule : (G : Grammar) (ks : List (Option Look)) (r q : Rule) → StopRule G ks r → StopRule G ks q → r ≡ q
one_rule G ks r q (inl a) (inl b) = a.0 ∙ sym b.0
one_rule G ks r q (inr a) (inr b) = a.0 ∙ sym b.0
one_rule G ks r q (inl a) (inr b) = absurd (b.1 a.1)
one_rule G ks r q (inr a) (inl b) = absurd (a.1 b.1)

pub stops_by_one_rule : (G : Grammar) (ks : List (Option Look)) (n m : ℕ) (r q : Rule) → StopsAt G ks n r → StopsAt G ks m q → r ≡ q
stops_by_one_rule G ks n m r q s t =
    one_rule G (take (suc n) ks) r q s.rule (subst (λ (k : ℕ). StopRule G (take (suc k) ks) q) (sym (stops_once G ks n m r q s t)) t.rule)

pub passes_or_stops : (G : Grammar) (ks : List (Option Look)) (n : ℕ) (r : Rule) → Passes G ks → StopsAt G ks n r → ⊥
passes_or_stops G ks n r p s = s.stopped (passes_before G (take (suc n) ks) (drop (suc n) ks) (subst (λ (ls : List (Option Look)). Passes G ls) (sym (take-append-drop (suc n) ks)) p))

pub refused_once : (ts : List Token) (end : Place) (r q : Refusal) → RefusesExpression ts end r → RefusesExpression ts end q → r ≡ q
refused_once ts end r q a b =
    let n = stops_once (phrases 0) _ a.passed b.passed r.rule q.rule a.stops b.stops in
    let k = stops_by_one_rule (phrases 0) _ a.passed b.passed r.rule q.rule a.stops b.stops in
    let p = a.place ∙ ap (λ (i : ℕ). get_or (map (λ (t : Token). t.place) ts) i end) n ∙ sym b.place in
    λ z. record { rule = k z; place = p z }

-- ---- what no phrase begins with

abbrev pub all_read : Out Phrase → Bool
all_read (Ok (a, [])) = true
all_read o = false

-- k steps and more
abbrev pub steps_and : ℕ → ℕ → ℕ
steps_and zero m = m
steps_and (suc k) m = suc (steps_and k m)

at_least : (k m : ℕ) → m ≤ steps_and k m
at_least zero m = omega arith
at_least (suc k) m = (let h = at_least k m in omega arith)

-- where reading doesn't come to the end, whatever follows
pub begins_none : (e k : ℕ) (ts : List Token) → ((m : ℕ) (more : List Token) → all_read ((readers (steps_and k m) None).expr e free (ts ++ more)) ≡ false) → Begins (phrases e) (map Some (looks ts)) → ⊥
begins_none e k ts h b =
    let a = begun e ts b in
    let n = steps_and k (steps a.0 + 3) in
    let read_all = closed a.0 (reads a.0) e a.2 [] refl n (at_least k (steps a.0 + 3)) in
    let so : true ≡ false = sym (ap all_read read_all) ∙ ap (λ (us : List Token). all_read ((readers n None).expr e free us)) a.3 ∙ h (steps a.0 + 3) a.1 in
    absurd cc
