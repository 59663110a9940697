-- The prepared process of a number among the prepared ones, and what a runner's routine is.
use Rattle.std.proofs.Common.{◌≡◌, inl, inr, ℕ, zero, suc, ◌+◌, ◌<◌, ◌≤◌, List, [], ◌∷◌, length, drop, get_or, map, codes, Bool, true, false, sym, ap, ◌∙◌, true≢false, arith}
use Rattle.tla_tree.specs.Tree.{Tree}
use Rattle.pcal_tree.specs.declared.algorithm.Process as code
use Rattle.pcal_tree.specs.Algorithm.{Process, Main, alone, processes, Routine, process_routine, main_routines, first_process, numbered}
use Rattle.pcal_tree.specs.declared.algorithm.Declaration.{Declaration}
use Rattle.pcal_tree.specs.declared.algorithm.Stmt.{Stmt}
use Rattle.pcal_tree.specs.InMemory.{process_at, declarations_at, statements_at}
use Rattle.pcal_tree.specs.Processes.{OneOf}
use Rattle.pcal_tree.specs.Program.{Program}
use Rattle.step_moves.specs.Prepared.{prepared_process, prepared_main, prepared_routine}

least : (n : ℕ) (ps : List Process) (u : Routine) → OneOf u (numbered process_routine n ps) → n ≤ u.number
least n [] u h = absurd h
least n (p ∷ ps) u (inl e) = let same = ap (λ (r : Routine). r.number) e in omega (arith, same)
least n (p ∷ ps) u (inr h) = let more = least (suc n) ps u h in omega (arith, more)

module _ (ts : List Tree) (P : Program) where
  -- the process of the number i of those in memory
  numbered_own : (n : ℕ) (ps : List Process) (qs : List code.Process) (u : Routine) (i : ℕ) (q : code.Process)
      → map (process_at ts) qs ≡ numbered (prepared_process P) n ps → OneOf u (numbered process_routine n ps) → u.number ≡ n + i → i < length qs → q ≡ get_or qs i q
      → process_routine u.number (process_at ts q) ≡ prepared_routine P u
  numbered_own n [] qs u i q same h k less is = absurd h
  numbered_own n (p ∷ ps) [] u i q same h k less is = absurd (let no : ⊥ = omega (arith, less) in no)
  numbered_own n (p ∷ ps) (r ∷ qs) u zero q same (inl e) k less is =
      let head = ap (λ (l : List Process). get_or l 0 (process_at ts r)) same in
      (λ j. process_routine (e j).number ((ap (process_at ts) is ∙ head) j)) ∙ ap (prepared_routine P) (sym e)
  numbered_own n (p ∷ ps) (r ∷ qs) u zero q same (inr h) k less is = absurd (let more = least (suc n) ps u h in let no : ⊥ = omega (arith, more, k) in no)
  numbered_own n (p ∷ ps) (r ∷ qs) u (suc i) q same (inl e) k less is = absurd (let number = ap (λ (x : Routine). x.number) e in let no : ⊥ = omega (arith, number, k) in no)
  numbered_own n (p ∷ ps) (r ∷ qs) u (suc i) q same (inr h) k less is = numbered_own (suc n) ps qs u i q (ap (drop 1) same) h (omega (arith, k)) (omega (arith, less)) is

  abbrev listed : Main → List Process
  listed (alone ss) = []
  listed (processes ps) = ps

  abbrev is_alone : Main → Bool
  is_alone (alone ss) = true
  is_alone (processes ps) = false

  pub own_prepared : (m : Main) (qs : List code.Process) (u : Routine) (i : ℕ) (q : code.Process) → processes (map (process_at ts) qs) ≡ prepared_main P m → OneOf u (main_routines P.algorithm m)
      → u.number ≡ first_process P.algorithm + i → i < length qs → q ≡ get_or qs i q → process_routine u.number (process_at ts q) ≡ prepared_routine P u
  own_prepared (alone ss) qs u i q same h k less is = absurd (true≢false (sym (ap is_alone same)))
  own_prepared (processes ps) qs u i q same h k less is = numbered_own (first_process P.algorithm) ps qs u i q (ap listed same) h k less is

-- of these variables and statements
abbrev pub made : List Tree → ℕ → code.Process → List Declaration → List Stmt → Routine
made ts n q ds ss = record { number = n; name = q.name; params = []; variables = declarations_at ts ds; spread = q.several; body = statements_at ts ss; exit = codes "Done" }
