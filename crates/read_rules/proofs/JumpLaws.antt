-- What calls of procedures use: what is left still gives the whole.
use Rattle.std.proofs.Common.{◌≡◌, ℕ, ◌+◌, ◌<◌, ◌≤◌, Bool, true, false, List, [], ◌∷◌, ◌++◌, length, drop, get_or, map, cond, refl, sym, ap, ◌∙◌, subst, append-nil, append_assoc, bytes_eq}
use Rattle.std.proofs.lemmas.List.{drop_more, drop_all, map-append}
use Rattle.tla_tree.specs.Tree.{Word, Tree, words}
use Rattle.pcal_tree.specs.declared.algorithm.Declaration.{Declaration}
use Rattle.pcal_tree.specs.declared.algorithm.Procedure as declared_procedure
use Rattle.pcal_tree.specs.Algorithm.{Procedure}
use Rattle.pcal_tree.specs.InMemory.{start_at, declaration_at, declarations_at, procedure_at}
use Rattle.pcal_tree.specs.OffencesStale.{used_by_variables, used_by_call}
use Rattle.pcal_tree.specs.Reads.{used}
use Rattle.pcal_tree.specs.Variables.{declared}
use Rattle.read_rules.specs.declared.used.Used.{Used}
use Rattle.read_rules.specs.NumbersIn.{declared_in}
use Rattle.read_rules.specs.Using.{Adds}
use Rattle.read_rules.proofs.BodyLaws.{adds_none, adds_as, adds_then}
use Rattle.read_rules.specs.declared.steps.Jump.{Jump}
use Rattle.read_rules.specs.JumpsIn.{used_by_start, used_by_starts}
use Rattle.read_rules.specs.StepsIn.{jump_words, AreJumps}

pub start_some : (j k : Used) (e : Tree) → Adds j k (used e) → Adds j k (λ xs. used e xs ++ [])
start_some j k e a = adds_as j k (used e) (λ xs. used e xs ++ []) (λ xs. sym (append-nil (used e xs))) a

pub starts_then : (ts : List Tree) (j k l : Used) (ds : List Declaration) (i : ℕ) (d : Declaration) → d ≡ get_or ds i d → i < length ds → Adds j k (used_by_start (start_at ts d.start))
    → Adds k l (used_by_starts (declarations_at ts (drop (i + 1) ds))) → Adds j l (used_by_starts (declarations_at ts (drop i ds)))
starts_then ts j k l ds i d is less a h =
    adds_as j l _ _ (λ xs. ap (λ (es : List Declaration). used_by_starts (declarations_at ts es) xs) (ap (λ (z : Declaration). z ∷ drop (i + 1) ds) is ∙ sym (drop_more ds i d less)))
    (adds_then j k l (used_by_start (start_at ts d.start)) (used_by_starts (declarations_at ts (drop (i + 1) ds))) a h)

pub starts_done : (ts : List Tree) (k : Used) (ds : List Declaration) (i : ℕ) → length ds ≤ i → Adds k k (used_by_starts (declarations_at ts (drop i ds)))
starts_done ts k ds i less = adds_as k k _ _ (λ xs. ap (λ (es : List Declaration). used_by_starts (declarations_at ts es) xs) (sym (drop_all i ds less))) (adds_none k)

declared_at : (ts : List Tree) (ds : List Declaration) → declared (declarations_at ts ds) ≡ declared_in ds
declared_at ts [] = refl
declared_at ts (d ∷ ds) = ap (λ (xs : List Word). d.name.word ∷ xs) (declared_at ts ds)

-- all names of a procedure
pub names_at : (ts : List Tree) (ds es : List Declaration) → declared (declarations_at ts ds ++ declarations_at ts es) ≡ declared_in ds ++ declared_in es
names_at ts ds es = ap declared (sym (map-append (declaration_at ts) ds es)) ∙ declared_at ts (ds ++ es) ∙ map-append (λ (d : Declaration). d.name.word) ds es

pub jumps_first : (js : List Jump) (ps : List Procedure) (j : Jump) (p : Procedure) → j.name ≡ p.name.word → j.uses.items ≡ used_by_variables p → AreJumps js ps → AreJumps (j ∷ js) (p ∷ ps)
jumps_first js ps j p e u a q = by (bytes_eq p.name.word q.word) ∙ ap (λ (x : Word). cond (bytes_eq x q.word) (words j.uses.items) (jump_words js q.word)) (sym e)
  where
    by : (b : Bool) → words (cond b (used_by_variables p) (used_by_call ps q)) ≡ cond b (words j.uses.items) (jump_words js q.word)
    by true = ap words (sym u)
    by false = a q

-- in the loop: what comes behind these makes the whole
abbrev pub MadeJumps : List Tree → List declared_procedure.Procedure → List Jump → ℕ → Type 0
MadeJumps ts ps js i = (more : List Jump) → AreJumps more (map (procedure_at ts) (drop i ps)) → AreJumps (js ++ more) (map (procedure_at ts) ps)

pub jumps_more : (ts : List Tree) (ps : List declared_procedure.Procedure) (js : List Jump) (i : ℕ) (p : declared_procedure.Procedure) (j : Jump) → p ≡ get_or ps i p → i < length ps → j.name ≡ p.name.word → j.uses.items ≡ used_by_variables (procedure_at ts p)
    → MadeJumps ts ps js i → MadeJumps ts ps (js ++ j ∷ []) (i + 1)
jumps_more ts ps js i p j is less e u m more a =
    subst (λ (ks : List Jump). AreJumps ks (map (procedure_at ts) ps)) (sym (append_assoc js (j ∷ []) more))
    (m (j ∷ more) (subst (λ (qs : List declared_procedure.Procedure). AreJumps (j ∷ more) (map (procedure_at ts) qs)) (ap (λ (z : declared_procedure.Procedure). z ∷ drop (i + 1) ps) is ∙ sym (drop_more ps i p less))
    (jumps_first more (map (procedure_at ts) (drop (i + 1) ps)) j (procedure_at ts p) e u a)))

pub jumps_done : (ts : List Tree) (ps : List declared_procedure.Procedure) (js : List Jump) (i : ℕ) → length ps ≤ i → MadeJumps ts ps js i → AreJumps js (map (procedure_at ts) ps)
jumps_done ts ps js i less m =
    subst (λ (ks : List Jump). AreJumps ks (map (procedure_at ts) ps)) (append-nil js) (m [] (subst (λ (qs : List declared_procedure.Procedure). AreJumps [] (map (procedure_at ts) qs)) (sym (drop_all i ps less)) (λ q. refl)))
