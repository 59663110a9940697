-- Where an algorithm has no definitions, none is used late.
use Rattle.std.specs.Prelude.{reverse}
use Rattle.std.specs.List.{flat_map}
use Rattle.std.proofs.Common.{◌≡◌, ℕ, nat_eq, List, [], ◌∷◌, ◌++◌, length, Some, None, true, false, Bool, refl, ap, ◌∙◌, arith}
use Rattle.std.proofs.lemmas.Bool.{eqb-true}
use Rattle.tla_tree.specs.Tree.{Word}
use Rattle.tla_token.specs.declared.rule.Rule.TheVariants.{DefinedStale}
use Rattle.pcal_tree.specs.Algorithm.{Name, Definition, Main, alone, processes, Algorithm}
use Rattle.pcal_tree.specs.Offences.{offence_if}
use Rattle.pcal_tree.specs.OffencesStale.{Looking, stands_for, stale_at, stale_in, stale_in_procedure, stale_in_process, stale_in_main, stale_offences_by}
use Rattle.pcal_tree.specs.Paths.{Path, has_assigned, meets}
use Rattle.pcal_tree.specs.Reads.{Reading, through, readings, readings_of}
use Rattle.pcal_tree.specs.Spots.{Spot}
use Rattle.pcal_tree.specs.Variables.{declared}

-- what is [] for each is [] for all
all_none : {X A : Type 0} (f : X → List A) → ((x : X) → f x ≡ []) → (xs : List X) → flat_map f xs ≡ []
all_none f h [] = refl
all_none f h (x ∷ xs) = λ i. h x i ++ all_none f h xs i

meets_none : (xs : List Word) → meets xs [] ≡ false
meets_none [] = refl
meets_none (x ∷ xs) = meets_none xs

assigned_none : (p : Path) → has_assigned p [] ≡ false
assigned_none None = refl
assigned_none (Some xs) = meets_none xs

none_at : (ns : List Name) (s : Spot) → stale_at [] ns s ≡ []
none_at ns s = all_none (λ n. offence_if (has_assigned s.path (through [] n.word)) DefinedStale n.place) (λ n. ap (λ (b : Bool). offence_if b DefinedStale n.place) (assigned_none s.path)) (stands_for ns s.name)

none_in : (L : Looking) (ns : List Name) (xs : List Word) (b : _) → stale_in L [] ns xs b ≡ []
none_in L ns xs b = all_none (stale_at [] ns) (none_at ns) (L xs b)

none_in_main : (L : Looking) (m : Main) → stale_in_main L [] m ≡ []
none_in_main L (alone b) = none_in L [] [] b
none_in_main L (processes ps) = all_none (stale_in_process L []) (λ p. none_in L _ (declared p.variables) p.body) ps

none_by : (L : Looking) (a : Algorithm) (rs : List Reading) → rs ≡ [] → flat_map (stale_in_procedure L rs) a.procedures ++ stale_in_main L rs a.main ≡ []
none_by L a rs e =
    (λ i. flat_map (stale_in_procedure L (e i)) a.procedures ++ stale_in_main L (e i) a.main)
    ∙ (λ i. all_none (stale_in_procedure L []) (λ p. none_in L [] (declared (p.params ++ p.variables)) p.body) a.procedures i ++ none_in_main L a.main i)

pub none_stale : (L : Looking) (a : Algorithm) → a.definitions ≡ [] → stale_offences_by L a ≡ []
none_stale L a e = none_by L a (readings_of a) (ap (λ (ds : List Definition). readings (declared a.globals) (reverse ds)) e)

pub no_items : {X : Type 0} (xs : List X) (n : ℕ) → nat_eq n 0 ≡ true → n ≡ length xs → xs ≡ []
no_items [] n h e = refl
no_items (x ∷ xs) n h e = (let z : n ≡ 0 = eqb-true n 0 h in absurd (omega (arith, e, z)))
