-- What is known of macros: what a call assigns, and one more macro.
use Rattle.std.proofs.Common.{◌≡◌, ℕ, zero, suc, ◌+◌, ◌<◌, Bool, true, false, List, [], ◌∷◌, ◌++◌, length, get_or, map, Option, Some, None, refl, sym, ap, ◌∙◌, subst, cond, bytes_eq, arith}
use Rattle.std.specs.List.{list_any, flat_map}
use Rattle.std.proofs.lemmas.List.{length-append}
use Rattle.std.proofs.lemmas.Option.{get_or_from_slice_get, slice_get_within, slice_get_read}
use Rattle.std.proofs.Math.Seq.{get_or-append_seam}
use Rattle.std.proofs.Math.ListN.{get_or-append}
use Rattle.tla_tree.specs.Tree.{Word, Trees}
use Rattle.pcal_tree.specs.Algorithm.{Name}
use Rattle.pcal_tree.specs.Paths.{Effect}
use Rattle.pcal_tree.specs.laws.MacroSummaries as found
use Rattle.pcal_tree.specs.laws.MacroSummaries.{argument, resolved, is_broken, effect_by, summary_effect}
use Rattle.pcal_tree.specs.Run.{arguments}
use Rattle.pcal_tree.proofs.SetLaws.{any_flat}
use Rattle.pcal_tree.proofs.TargetLaws.{arguments_anywhere}
use Rattle.algorithm_limits.specs.Numbers.{Numbers, number_of, with_number}
use Rattle.algorithm_limits.proofs.Tables.{number_of_with}
use Rattle.label_steps.specs.declared.known.Known.{Known}
use Rattle.label_steps.specs.declared.put.Summary.{Summary}
use Rattle.label_steps.specs.declared.sides.Step.{Step}
use Rattle.label_steps.specs.KnownIn.{Assigns, IsSummary, find_summary, effect_found, IsFound, AreMacros, IsKnown}
use Rattle.label_steps.specs.PutIn.{pair_of, variable_put}

-- ---- calls

found_call : (ms : List found.Summary) (m : Word) (ts : Trees) → effect_found (find_summary ms m) ts ≡ summary_effect ms m ts
found_call [] m ts = refl
found_call (d ∷ older) m ts = by (bytes_eq d.name m) (found_call older m ts)
  where
    by : (b : Bool) → effect_found (find_summary older m) ts ≡ summary_effect older m ts
        → effect_found (cond b (Some d) (find_summary older m)) ts ≡ cond b (effect_by (argument d.params ts) d.found) (summary_effect older m ts)
    by true h = refl
    by false h = h

assigns_found : (ms : List found.Summary) (m : Word) (ts : Trees) (s : Step) (o : Option found.Summary) → find_summary ms m ≡ o → Assigns s (effect_found o ts) → Assigns s (summary_effect ms m ts)
assigns_found ms m ts s o e a = subst (λ (f : Effect). Assigns s f) (ap (λ (p : Option found.Summary). effect_found p ts) (sym e) ∙ found_call ms m ts) a

-- a name of no macro
pub no_call : (ms : List found.Summary) (m : Word) (ts : Trees) (s : Step) → find_summary ms m ≡ None → s.names.items ≡ [] → s.twice ≡ false → Assigns s (summary_effect ms m ts)
no_call ms m ts s e n t = assigns_found ms m ts s None e (record { names = λ f. ap (list_any f) n; twice = t })

-- by the macro's summary
step_assigns : (xs : List Word) (r : Step) (s : Summary) (d : found.Summary) (ts : Trees) → r.names.items ≡ flat_map (variable_put s.params ts) s.names.keys
    → r.twice ≡ list_any (is_broken (argument s.params ts)) (map pair_of s.pairs.keys) → IsSummary xs s d → Assigns r (effect_by (argument d.params ts) d.found)
step_assigns xs r s d ts n t h = record {
  names = λ f.
      ap (list_any f) n ∙ any_flat f (variable_put s.params ts) s.names.keys ∙ h.names (λ x. list_any f (variable_put s.params ts x))
      ∙ sym (any_flat f (variable_put s.params ts) d.found.names)
      ∙ ap (λ (ps : List Name). list_any f (flat_map (variable_put ps ts) d.found.names)) h.params;
  twice =
      t ∙ ap (λ (ps : List Name). list_any (is_broken (argument ps ts)) (map pair_of s.pairs.keys)) h.params
      ∙ h.pairs (arguments d.params ts) (record { anywhere = arguments_anywhere d.params ts; params = λ x e. h.inside x e ts });
}

pub one_call : (xs : List Word) (ms : List found.Summary) (m : Word) (ts : Trees) (r : Step) (s : Summary) (d : found.Summary) → find_summary ms m ≡ Some d → IsSummary xs s d
    → r.names.items ≡ flat_map (variable_put s.params ts) s.names.keys → r.twice ≡ list_any (is_broken (argument s.params ts)) (map pair_of s.pairs.keys) → Assigns r (summary_effect ms m ts)
one_call xs ms m ts r s d e is n t = assigns_found ms m ts r (Some d) e (step_assigns xs r s d ts n t is)

-- ---- one more macro

found_more : (xs : List Word) (ss : List Summary) (s : Summary) (n : ℕ) (o : Option found.Summary) → IsFound xs ss n o → IsFound xs (ss ++ s ∷ []) n o
found_more xs ss s zero o f = f
found_more xs ss s (suc i) o f =
    let less = slice_get_within ss i f.1 f.3 in
    let more = length-append ss (s ∷ []) in (
      f.0,
      f.1,
      f.2,
      slice_get_read (ss ++ s ∷ []) (length (ss ++ s ∷ [])) i f.1 refl (omega (arith, less, more)) (sym (get_or-append ss (s ∷ []) f.1 i less ∙ get_or_from_slice_get ss i f.1 f.1 f.3)),
      f.4,
    )

found_last : (xs : List Word) (ss : List Summary) (s : Summary) (d : found.Summary) → IsSummary xs s d → IsFound xs (ss ++ s ∷ []) (suc (length ss)) (Some d)
found_last xs ss s d h =
    let more = length-append ss (s ∷ []) in
    (d, s, refl, slice_get_read (ss ++ s ∷ []) (length (ss ++ s ∷ [])) (length ss) s refl (omega (arith, more)) (sym (get_or-append_seam ss s [] s)), h)

pub knows_more : (k j : Known) (ms : List found.Summary) (d : found.Summary) (s : Summary) (n : ℕ) → AreMacros k ms → IsSummary k.params.keys s d → j.params.keys ≡ k.params.keys → j.summaries.items ≡ k.summaries.items ++ s ∷ []
    → n ≡ length k.summaries.items + 1 → j.numbers ≡ with_number k.numbers d.name n → AreMacros j (d ∷ ms)
knows_more k j ms d s n h is same all last table m =
    subst (λ (xs : List Word). IsFound xs j.summaries.items (number_of j.numbers m) (find_summary (d ∷ ms) m)) (sym same)
    (subst (λ (es : Numbers). IsFound k.params.keys j.summaries.items (number_of es m) (find_summary (d ∷ ms) m)) (sym table)
    (subst (λ (ss : List Summary). IsFound k.params.keys ss (number_of (with_number k.numbers d.name n) m) (find_summary (d ∷ ms) m)) (sym all)
    (subst (λ (i : ℕ). IsFound k.params.keys (k.summaries.items ++ s ∷ []) i (find_summary (d ∷ ms) m)) (sym (number_of_with k.numbers d.name n m)) (by (bytes_eq d.name m)))))
  where
    by : (b : Bool) → IsFound k.params.keys (k.summaries.items ++ s ∷ []) (cond b n (number_of k.numbers m)) (cond b (Some d) (find_summary ms m))
    by true = subst (λ (i : ℕ). IsFound k.params.keys (k.summaries.items ++ s ∷ []) i (Some d)) (let e : suc (length k.summaries.items) ≡ n = omega (arith, last) in e) (found_last k.params.keys k.summaries.items s d is)
    by false = found_more k.params.keys k.summaries.items s (number_of k.numbers m) (find_summary ms m) (h m)

pub knows_none : (k : Known) → k.numbers ≡ [] → AreMacros k []
knows_none k e m = subst (λ (es : Numbers). IsFound k.params.keys k.summaries.items (number_of es m) None) (sym e) refl

-- ---- what is known of one

pub none_known : (k : Known) (ms : List found.Summary) (m : Word) → AreMacros k ms → number_of k.numbers m ≡ 0 → IsKnown k.params.keys None (find_summary ms m)
none_known k ms m a e = subst (λ (i : ℕ). IsFound k.params.keys k.summaries.items i (find_summary ms m)) e (a m)

pub none_past : (k : Known) (ms : List found.Summary) (m : Word) → AreMacros k ms → length k.summaries.items < number_of k.numbers m → IsKnown k.params.keys None (find_summary ms m)
none_past k ms m a less = by (number_of k.numbers m) less (a m)
  where
    by : (n : ℕ) → length k.summaries.items < n → IsFound k.params.keys k.summaries.items n (find_summary ms m) → IsKnown k.params.keys None (find_summary ms m)
    by zero l f = absurd (omega (arith, l))
    by (suc i) l f = let h = slice_get_within k.summaries.items i f.1 f.3 in absurd (omega (arith, l, h))

pub one_known : (k : Known) (ms : List found.Summary) (m : Word) (s : Summary) → AreMacros k ms → (i : ℕ) → number_of k.numbers m ≡ suc i → s ≡ get_or k.summaries.items i s
    → (d : found.Summary) × (find_summary ms m ≡ Some d) × IsSummary k.params.keys s d
one_known k ms m s a i e is =
    let f = subst (λ (j : ℕ). IsFound k.params.keys k.summaries.items j (find_summary ms m)) e (a m) in
    let same : f.1 ≡ s = sym (get_or_from_slice_get k.summaries.items i f.1 s f.3) ∙ sym is in
    (f.0, f.2, subst (λ (q : Summary). IsSummary k.params.keys q f.0) same f.4)
