-- Next of what is written of an accepted algorithm is true exactly of its steps, and of the end that stutters, from sound states, where items can be written for each step; and
-- it is a fault for some second state exactly if some process is in trouble.
use Rattle.std.proofs.Common.{◌≡◌, Bool, true, cond, refl, sym, ap, ◌∙◌, subst, inl, inr}
use Rattle.tla_tree.specs.Tree.{Tree}
use Rattle.tla_value.specs.Outside.{Outside}
use Rattle.pcal_tree.specs.Algorithm.{Main, alone, processes, first_process, Algorithm}
use Rattle.pcal_tree.specs.OffencesReads.{processes_of}
use Rattle.pcal_tree.specs.Processes.{OneOf}
use Rattle.pcal_tree.specs.Program.{Program}
use Rattle.pcal_tree.specs.Step.{Step}
use Rattle.pcal_tree.specs.Takers.{each_of, single, lone, Taken, taken_main}
use Rattle.action_builder.specs.laws.Ready.{Readable}
use Rattle.promise.specs.ConstantsAndStates.{IsState}
use Rattle.translation.specs.laws.AcceptedAlgorithm.{IsAcceptedInFile}
use Rattle.translation.specs.laws.AcceptedLaws.{AllSets, ReadyLaw, NextOfRegionLaw, PromiseKept, FaultsAgree, FaultsKept, SetFaults, CanonicalStepLaw}
use Rattle.translation.specs.laws.FreshReads.{readable}
use Rattle.translation.proofs.CanonicalSteps.{end_canonical}
use Rattle.translation.proofs.InitOfRegion.{init_of_region_law}
use Rattle.translation.proofs.KeptPrimes.{nothing_primed}
use Rattle.translation.proofs.NextFaults.{faults_agree, set_troubles}
use Rattle.translation.proofs.NextOfRegion.{HasSingle, next_of_region}
use Rattle.translation.proofs.NextScopes.{numbered_of}
use Rattle.translation.proofs.NextSingle.{single_clear, one_of_at}
use Rattle.translation.proofs.PreparedSteps.{prepared_law}
use Rattle.translation.proofs.PromiseKept.{constants_alike, faults_kept, promise_kept}
use Rattle.translation.proofs.SameProgram.{same_program}
use Rattle.translation.proofs.ReadyAccepted.{ready_law}
use Rattle.translation.proofs.RegionPlaced.{region_placed}

-- of accepted algorithms for whose steps items can be written
module _ (A : Outside → Algorithm → Type 0) (inside : (o : Outside) (g : Algorithm) → A o g → IsAcceptedInFile o g) (U : Algorithm → Readable) (ready : ReadyLaw A U) where
  pub next_where_ready : NextOfRegionLaw A
  next_where_ready = next_of_region A inside U prepared_law ready single_clear

pub faults_where_ready : (A : Outside → Algorithm → Type 0) → ((o : Outside) (g : Algorithm) → A o g → IsAcceptedInFile o g) → (U : Algorithm → Readable) → ReadyLaw A U → FaultsAgree A
faults_where_ready A inside U ready b title o g a values s k is proper = faults_agree (U g) b title o g (inside o g a) values (ready o g a values) s k is proper

no_single : (g : Algorithm) → AllSets g → HasSingle g → ⊥
no_single g sets h = by g.main refl h.among
  where
    lone_single : (e : Tree) → lone ≡ single e → ⊥
    lone_single e q = cc

    set_single : (b : Bool) (i e : Tree) → b ≡ true → cond b (each_of i) (single i) ≡ single e → ⊥
    set_single b i e p q = set_none (sym (ap (λ c. cond c (each_of i) (single i)) p) ∙ q)
      where
        set_none : each_of i ≡ single e → ⊥
        set_none z = cc

    by : (m : Main) → g.main ≡ m → OneOf h.taken (taken_main g m) → ⊥
    by (alone ss) d (inl q) = lone_single h.expression (sym (ap (λ (r : Taken). r.takers) q) ∙ h.is)
    by (alone ss) d (inr q) = q
    by (processes ps) d q =
        let n = numbered_of h.taken (first_process g) ps q in
        set_single n.process.several n.process.identity h.expression
        (sets n.process (subst (λ m. OneOf n.process (processes_of m)) (sym d) (one_of_at n.process n.number ps (first_process g) n.at))) (sym (ap (λ (r : Taken). r.takers) n.is) ∙ h.is)

-- ---- nothing is primed in accepted algorithms, so items can be written for each step

pub items_ready : ReadyLaw IsAcceptedInFile readable
items_ready = ready_law nothing_primed

inside : (o : Outside) (g : Algorithm) → IsAcceptedInFile o g → IsAcceptedInFile o g
inside o g a = a

pub next_law : NextOfRegionLaw IsAcceptedInFile
next_law = next_where_ready IsAcceptedInFile inside readable items_ready

pub faults_law : FaultsAgree IsAcceptedInFile
faults_law = faults_where_ready IsAcceptedInFile inside readable items_ready

pub set_faults_law : SetFaults IsAcceptedInFile
set_faults_law b title o g a sets values s t k is proper f = set_troubles (readable g) b title o g a values (items_ready o g a values) s k (no_single g sets) is proper t f

-- so each module that a translated file is read as keeps the promise
pub kept_law : PromiseKept IsAcceptedInFile
kept_law = promise_kept IsAcceptedInFile next_law init_of_region_law region_placed

pub faults_kept_law : FaultsKept IsAcceptedInFile
faults_kept_law b o g m a same e = faults_kept IsAcceptedInFile region_placed b o g m a same e faults_law

-- and steps keep values in canonical order
pub canonical_steps : CanonicalStepLaw IsAcceptedInFile
canonical_steps o g m a same values s t k is step =
    subst (λ (P : Program). IsState P s → Step P s t → IsState P t) (same_program o g m same values)
    (λ is (v, d, actor, from). end_canonical (readable g) m.title m.region o g a values (items_ready o g a values) (constants_alike o m same m.region values k) s is v actor d (record { actor = actor; routine = from.0.0; label = from.0.1 }) t from.1)
    is step
