-- Whatever begins an expression is completed by the tokens that are wanted behind it.
use Rattle.std.proofs.Common.{◌≡◌, ℕ, zero, suc, ◌+◌, ◌*◌, ◌<◌, ◌≤◌, List, [], ◌∷◌, ◌++◌, length, take, map, get_or, Option, Some, Ok, Err, refl, sym, ap, ◌∙◌, subst, append_assoc, arith}
use Rattle.std.proofs.lemmas.List.{append-nil, append_cancel_right}
use Rattle.tla_token.specs.declared.rule.Rule.{Rule}
use Rattle.tla_tree.specs.Lexical.{Token}
use Rattle.tla_tree.specs.Spelling.{Phrase, Good, spell}
use Rattle.tla_tree.specs.Nesting.{counts}
use Rattle.tla_tree.specs.Reader.{Out, free, read}
use Rattle.tla_tree.specs.Wanted.{completing, or_then}
use Rattle.tla_tree.specs.NeedsLists.{needs}
use Rattle.tla_tree.specs.FirstStop.{Look, look, looks, to_end, Begins, StopsAt, phrases, Completes}
use Rattle.tla_tree.proofs.StopLaws.{passes_begins}
use Rattle.tla_tree.proofs.SoundLists.{read_is_spelled}
use Rattle.tla_tree.proofs.SpellAhead.{ahead}
use Rattle.tla_tree.proofs.Columns.{begins, begun}
use Rattle.tla_tree.proofs.Farthest.{read_is_farthest, refused_is_farthest}
use Rattle.tla_tree.proofs.MendedLists.{refused_is_given}

-- the phrase goes on through the next token
goes_on : (e : ℕ) (passed front rest more : List Token) (t : Token) → passed ≡ front ++ t ∷ rest → (b : Phrase) → Good e b → spell b [] ≡ passed ++ more → Begins (phrases e) (map Some (looks (front ++ t ∷ [])))
goes_on e passed front rest more t at b g s =
    begins e (front ++ t ∷ []) (rest ++ more) b g (s ∙ ap (λ (us : List Token). us ++ more) at ∙ append_assoc front (t ∷ rest) more ∙ sym (append_assoc front (t ∷ []) (rest ++ more)))

pub completed : (e : ℕ) (passed more : List Token) (b : Phrase) → Good e b → spell b [] ≡ passed ++ more → Completes e passed
completed e passed more b g s = (let w = by (read e passed) refl in record { whole = w.0; good = w.1; spelled = w.2; few = w.3 })
  where
    wanted : Out Phrase → List Token
    wanted o = completing (or_then o ((needs (4 * length passed)).expr e free passed) (λ a rest. []))

    by : (o : Out Phrase) → read e passed ≡ o → (a : Phrase) × Good e a × (spell a [] ≡ passed ++ wanted o) × (length (wanted o) ≤ 16 * get_or (counts 0 a []) (length passed) 0 + 1)
    by (Ok (a, [])) i = (let w = read_is_spelled e passed [] a i in (a, w.0, sym w.1 ∙ sym (append-nil passed), omega arith))
    by (Ok (a, t ∷ rest)) i =
        let w = read_is_spelled e passed (t ∷ rest) a i in
        let at : passed ≡ spell a [] ++ t ∷ rest = w.1 ∙ (ahead a).is [] (t ∷ rest) in
        absurd (read_is_farthest e passed a t rest i (spell a []) at (goes_on e passed (spell a []) rest more t at b g s))
    by (Err (q, [])) i =
        let m = refused_is_given e passed (q, []) i in
        let same : m.0 ≡ passed = sym (append-nil m.0) ∙ sym m.2 in
        (m.1, m.3, m.4 ∙ ap (λ (us : List Token). us ++ wanted (Err (q, []))) same, subst (λ (us : List Token). length (wanted (Err (q, []))) ≤ 16 * get_or (counts 0 m.1 []) (length us) 0 + 1) same m.5)
    by (Err (q, t ∷ rest)) i = (let m = refused_is_given e passed (q, t ∷ rest) i in absurd (refused_is_farthest e passed t rest q i m.0 m.2 (goes_on e passed m.0 rest more t m.2 b g s)))

pub refused_completes : (e : ℕ) (ts passed rest : List Token) (r : Rule) → read e ts ≡ Err (r, rest) → ts ≡ passed ++ rest → Completes e passed
refused_completes e ts passed rest r o s =
    let m = refused_is_given e ts (r, rest) o in
    let same : m.0 ≡ passed = append_cancel_right m.0 passed rest (sym m.2 ∙ s) in
    completed e passed _ m.1 m.3 (m.4 ∙ ap (λ (us : List Token). us ++ completing ((needs (4 * length ts)).expr e free ts)) same)

-- ---- what passes before the place where reading stops
looked : (n : ℕ) (ts : List Token) → n < length (to_end ts) → take n (to_end ts) ≡ map Some (looks (take n ts))
looked zero ts h = refl
looked (suc n) [] h = absurd (omega (arith, h))
looked (suc n) (t ∷ ts) h = ap (λ (ks : List (Option Look)). Some (look t) ∷ ks) (looked n ts (omega (arith, h)))

pub completed_there : (ts : List Token) (n : ℕ) (r : Rule) → StopsAt (phrases 0) (to_end ts) n r → Completes 0 (take n ts)
completed_there ts n r s =
    let w = begun 0 (take n ts) (subst (λ (ks : List (Option Look)). Begins (phrases 0) ks) (looked n ts s.there) (passes_begins (phrases 0) _ s.passed)) in
    completed 0 (take n ts) w.1 w.0 w.2 w.3
