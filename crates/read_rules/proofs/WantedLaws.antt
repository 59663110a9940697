-- Names whose uses may matter: what the others are not.
use Rattle.std.proofs.Common.{◌≡◌, ℕ, zero, suc, arith, ◌<◌, ◌≤◌, Bool, true, false, ◌||◌, List, [], ◌∷◌, length, map, reverse, codes, bytes_eq, Option, None, unwrap_or, slice_get, refl, sym, ap, ◌∙◌}
use Rattle.std.specs.List.{list_any}
use Rattle.std.proofs.Math.Bool.{or-false}
use Rattle.std.proofs.lemmas.Bool.{or_parts}
use Rattle.tla_token.specs.Signs.{is_among}
use Rattle.tla_tree.specs.Tree.{Word, Tree, words}
use Rattle.pcal_tree.specs.declared.algorithm.Macro.{Macro}
use Rattle.pcal_tree.specs.Algorithm as tree
use Rattle.pcal_tree.specs.Algorithm.{Name}
use Rattle.pcal_tree.specs.InMemory.{macro_at}
use Rattle.pcal_tree.specs.Reads.{Reading}
use Rattle.pcal_tree.proofs.BoundWrittenOut.{any_reversed}
use Rattle.pcal_tree.proofs.SetLaws.{Same, any_flat, any_map, any_same}
use Rattle.algorithm_limits.specs.Numbers.{number_of}
use Rattle.algorithm_limits.proofs.Tables.{equal, same_test}
use Rattle.read_rules.specs.declared.wanted.Wanted.{Wanted}
use Rattle.read_rules.specs.ReadsIn.{reads_at, AreReads}
use Rattle.read_rules.specs.WantedIn.{has_some, wants, names_in, params_in}
use Rattle.read_rules.proofs.PruneLaws.{Harmless, NoParameter}

-- ---- what a name reads

past_none : (ls : List (List Word)) (i : ℕ) → length ls ≤ i → slice_get ls i ≡ None
past_none [] i l = refl
past_none (x ∷ ls) zero l = absurd (omega (arith, l))
past_none (x ∷ ls) (suc i) l = past_none ls i (omega (arith, l))

pub some_past : (ls : List (List Word)) (n : ℕ) → length ls < n → false ≡ has_some (reads_at ls n)
some_past ls zero l = absurd (omega (arith, l))
some_past ls (suc i) l = ap (λ (o : Option (List Word)). has_some (unwrap_or o [])) (sym (past_none ls i (omega (arith, l))))

pub some_there : (xs : List Word) (b : Bool) → (0 < length xs → b ≡ true) → (length xs ≤ 0 → b ≡ false) → b ≡ has_some xs
some_there [] b h k = k (omega arith)
some_there (x ∷ xs) b h k = h (omega arith)

nothing : (xs : List Word) → has_some xs ≡ false → (f : Word → Bool) → list_any f xs ≡ false
nothing [] e f = refl
nothing (x ∷ xs) e f = cc

-- ---- names that don't matter

-- a name that may not matter
apart : (w : Wanted) (x : Word) → wants w x ≡ false
    → (bytes_eq (codes "self") x ≡ false) × ((list_any (equal x) w.names ≡ false) × (has_some (reads_at w.reads.lists.items (number_of w.reads.numbers x)) ≡ false))
apart w x e =
    let some = has_some (reads_at w.reads.lists.items (number_of w.reads.numbers x)) in
    let h = or_parts (bytes_eq (codes "self") x || list_any (equal x) w.names) some e in
    let k = or_parts (bytes_eq (codes "self") x) (list_any (equal x) w.names) h.0 in
    (k.0, (k.1, h.1))

pub harmless : (w : Wanted) (ds : List Reading) → AreReads w.reads ds → Harmless (wants w) ds
harmless w ds a x e = let h = apart w x e in (h.0, λ f. sym (a.reads x f) ∙ nothing (reads_at w.reads.lists.items (number_of w.reads.numbers x)) h.1.1 f)

param_words : (ps : List Name) (x : Word) → is_among (words ps) x ≡ list_any (equal x) (names_in ps)
param_words ps x =
    any_map (λ v. bytes_eq v x) (λ (p : Name). p.word) ps
    ∙ any_same (λ (p : Name). bytes_eq p.word x) (λ (p : Name). equal x p.word || false) (λ p. sym (or-false (equal x p.word) ∙ same_test x p.word)) ps
    ∙ sym (any_flat (equal x) (λ (p : Name). p.word ∷ []) ps)

pub no_parameter : (ts : List Tree) (w : Wanted) (es : List Macro) → Same w.names (params_in es) → NoParameter (wants w) (reverse (map (macro_at ts) es))
no_parameter ts w es s x e =
    any_reversed (λ (d : tree.Macro). is_among (words d.params) x) (map (macro_at ts) es)
    ∙ any_map (λ (d : tree.Macro). is_among (words d.params) x) (macro_at ts) es
    ∙ any_same (λ (d : Macro). is_among (words d.params.items) x) (λ (d : Macro). list_any (equal x) (names_in d.params.items)) (λ d. param_words d.params.items x) es
    ∙ sym (any_flat (equal x) (λ (d : Macro). names_in d.params.items) es) ∙ sym (s (equal x)) ∙ (apart w x e).1.0
