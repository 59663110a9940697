-- Where reading stops is where the grammar has its first token that can't come, as long as what was passed passes.
use Rattle.std.proofs.Common.{◌+◌, ◌*◌, ◌≡◌, ℕ, suc, ◌<◌, ◌≤◌, true, List, [], ◌∷◌, ◌++◌, length, take, drop, map, get_or, Option, Some, None, Ok, Err, inr, refl, sym, ap, ◌∙◌, subst, arith}
use Rattle.std.specs.List.{list_all}
use Rattle.std.proofs.lemmas.List.{append-nil, take-append-drop, append_cancel_right}
use Rattle.std.proofs.Math.Seq.{take-append_seam}
use Rattle.std.proofs.Math.Nat.{le-max_left, le-max_right}
use Rattle.std.proofs.lemmas.List.Folds.{list_all-append}
use Rattle.std.proofs.lemmas.Bool.{and_parts, le-leb}
use Rattle.tla_token.specs.declared.place.Place.{Place}
use Rattle.tla_token.specs.declared.rule.Rule.{Rule}
use Rattle.tla_token.specs.declared.rule.Rule.TheVariants.{Syntax}
use Rattle.tla_token.specs.Limits.{deepest_expression}
use Rattle.tla_tree.specs.Lexical.{Token}
use Rattle.tla_tree.specs.Spelling.{Phrase, Good, spell, tree_of}
use Rattle.tla_tree.specs.Nesting.{counts, greatest, text_nesting}
use Rattle.tla_tree.specs.Reader.{read}
use Rattle.tla_tree.specs.FirstStop.{Look, look, looks, to_end, is_within, Begins, Passes, StopsAt, in_expression, phrases, ReadsExpression, RefusesExpression}
use Rattle.tla_tree.proofs.StopLaws.{passes_begins}
use Rattle.tla_tree.proofs.SoundLists.{read_is_spelled}
use Rattle.tla_tree.proofs.SpellAhead.{ahead}
use Rattle.tla_tree.proofs.Alike.{rest_of}
use Rattle.tla_tree.proofs.AlikeEndsSteps.{refused_after_none}
use Rattle.tla_tree.proofs.Farthest.{begun_none}
use Rattle.tla_tree.proofs.MendedLists.{refused_is_mended}
use Rattle.tla_tree.proofs.Completed.{completed_there}

-- ---- tokens with the end after them
pub before : (passed rest : List Token) → take (length passed) (to_end (passed ++ rest)) ≡ map Some (looks passed)
before [] rest = refl
before (t ∷ passed) rest = ap (λ (ks : List (Option Look)). Some (look t) ∷ ks) (before passed rest)

pub through : (passed : List Token) (t : Token) (rest : List Token) → take (suc (length passed)) (to_end (passed ++ t ∷ rest)) ≡ map Some (looks (passed ++ t ∷ []))
through [] t rest = refl
through (s ∷ passed) t rest = ap (λ (ks : List (Option Look)). Some (look s) ∷ ks) (through passed t rest)

through_end : (passed : List Token) → take (suc (length passed)) (to_end (passed ++ [])) ≡ map Some (looks passed) ++ None ∷ []
through_end [] = refl
through_end (t ∷ passed) = ap (λ (ks : List (Option Look)). Some (look t) ∷ ks) (through_end passed)

pub is_there : (passed rest : List Token) → length passed < length (to_end (passed ++ rest))
is_there [] [] = omega arith
is_there [] (t ∷ rest) = omega arith
is_there (t ∷ passed) rest = (let h = is_there passed rest in omega (arith, h))

-- no phrase goes on to the end
never_ends : (xs : List Look) (ys : List Look) (more : List (Option Look)) → map Some xs ≡ (map Some ys ++ None ∷ []) ++ more → ⊥
never_ends [] [] more e = cc
never_ends [] (y ∷ ys) more e = cc
never_ends (x ∷ xs) [] more e = cc
never_ends (x ∷ xs) (y ∷ ys) more e = never_ends xs ys more (ap (drop 1) e)

none_through : (e : ℕ) (passed rest : List Token) → rest_of (read e (passed ++ rest)) ≡ rest → Begins (phrases e) (take (suc (length passed)) (to_end (passed ++ rest))) → ⊥
none_through e passed (t ∷ rest) stop b = begun_none e passed t rest stop (subst (λ (ks : List (Option Look)). Begins (phrases e) ks) (through passed t rest) b)
none_through e passed [] stop b = (let (more, ns, (a, g, s, c)) = subst (λ (ks : List (Option Look)). Begins (phrases e) ks) (through_end passed) b in never_ends (looks (spell a [])) (looks passed) more s)

-- ---- what was passed begins a phrase
pub refused_is_completed : (e : ℕ) (ts passed rest : List Token) (q : Rule) → read e ts ≡ Err (q, rest) → ts ≡ passed ++ rest → (fix : List Token) × (a : Phrase) × Good e a × (spell a [] ≡ passed ++ fix) × (length fix ≤ 16 * get_or (counts 0 a []) (length passed) 0 + 1)
refused_is_completed e ts passed rest q o s =
    let m = refused_is_mended e ts (q, rest) o in
    let same : m.0 ≡ passed = append_cancel_right m.0 passed rest (sym m.3 ∙ s) in
    (m.1, m.2, m.4, m.5 ∙ ap (λ (k : List Token). k ++ m.1) same, subst (λ (k : List Token). length m.1 ≤ 16 * get_or (counts 0 m.2 []) (length k) 0 + 1) same m.6)

-- the tokens of a phrase that is no deeper than it may be
all_within : (ns : List ℕ) → greatest ns ≤ deepest_expression → list_all is_within (map in_expression ns) ≡ true
all_within [] h = refl
all_within (n ∷ ns) h = rw (le-leb n deepest_expression (omega (arith, h, le-max_left n (greatest ns))), all_within ns (omega (arith, h, le-max_right n (greatest ns)))) refl

pub read_passes : (a : Phrase) → Good 0 a → text_nesting a ≤ deepest_expression → Passes (phrases 0) (map Some (looks (spell a [])))
read_passes a g h =
    let ks = map Some (looks (spell a [])) in
    let ns = map in_expression (counts 0 a []) in
    let all = take-append-drop (length ks) ns in
    ([], ns, (a, g, sym (append-nil ks), refl), (and_parts (list_all is_within (take (length ks) ns)) (list_all is_within (drop (length ks) ns)) (sym (list_all-append is_within (take (length ks) ns) (drop (length ks) ns)) ∙ ap (list_all is_within) all ∙ all_within (counts 0 a []) h)).0)

-- ---- the first token that doesn't pass
stops_there : (passed rest : List Token) → rest_of (read 0 (passed ++ rest)) ≡ rest → Passes (phrases 0) (map Some (looks passed)) → StopsAt (phrases 0) (to_end (passed ++ rest)) (length passed) Syntax
stops_there passed rest stop p = record {
  there = is_there passed rest;
  passed = subst (λ (ks : List (Option Look)). Passes (phrases 0) ks) (sym (before passed rest)) p;
  stopped = λ b. none_through 0 passed rest stop (passes_begins (phrases 0) _ b);
  rule = inr (refl, none_through 0 passed rest stop);
}

pub stops_at : (ts passed rest : List Token) → rest_of (read 0 ts) ≡ rest → ts ≡ passed ++ rest → Passes (phrases 0) (map Some (looks passed)) → StopsAt (phrases 0) (to_end ts) (length passed) Syntax
stops_at ts passed rest stop s p =
    subst (λ (us : List Token). StopsAt (phrases 0) (to_end us) (length passed) Syntax) (sym s)
    (stops_there passed rest (ap (λ (us : List Token). rest_of (read 0 us)) (sym s) ∙ stop) p)

read_there : (ts rest : List Token) (a : Phrase) → read 0 ts ≡ Ok (a, rest) → (Good 0 a → Passes (phrases 0) (map Some (looks (spell a [])))) → ReadsExpression ts (length (spell a [])) (tree_of a)
read_there ts rest a o p =
    let w = read_is_spelled 0 ts rest a o in
    let s : ts ≡ spell a [] ++ rest = w.1 ∙ (ahead a).is [] rest in
    record {
      stops = stops_at ts (spell a []) rest (ap rest_of o) s (p w.0);
      spelled = (a, w.0, ap (λ (us : List Token). take (length (spell a [])) us) s ∙ take-append_seam (spell a []) rest, refl);
    }

pub read_stops : (ts rest : List Token) (a : Phrase) → read 0 ts ≡ Ok (a, rest) → text_nesting a ≤ deepest_expression → ReadsExpression ts (length (spell a [])) (tree_of a)
read_stops ts rest a o h = read_there ts rest a o (λ g. read_passes a g h)

refused_stops : (ts passed rest : List Token) (q : Rule) → read 0 ts ≡ Err (q, rest) → ts ≡ passed ++ rest → Passes (phrases 0) (map Some (looks passed)) → StopsAt (phrases 0) (to_end ts) (length passed) Syntax
refused_stops ts passed rest q o s p = stops_at ts passed rest (ap rest_of o) s p

-- ---- a refusal
pub refused_at : (ts passed rest : List Token) (end : Place) (q : Rule) → read 0 ts ≡ Err (q, rest) → ts ≡ passed ++ rest → Passes (phrases 0) (map Some (looks passed)) → RefusesExpression ts end (record { rule = Syntax; place = get_or (map (λ (t : Token). t.place) ts) (length passed) end })
refused_at ts passed rest end q o s p = record {
  passed = length passed;
  stops = stops;
  place = refl;
  unread = λ t r.
      (let front : take (length passed) ts ≡ passed = ap (λ (us : List Token). take (length passed) us) s ∙ take-append_seam passed rest in
      refused_after_none 0 passed rest q (ap (λ (us : List Token). read 0 us) (sym s) ∙ o) r.spelled.0 r.spelled.1 (sym front ∙ r.spelled.2));
  completed = completed_there ts (length passed) Syntax stops;
}
  where
    stops : StopsAt (phrases 0) (to_end ts) (length passed) Syntax
    stops = refused_stops ts passed rest q o s p
