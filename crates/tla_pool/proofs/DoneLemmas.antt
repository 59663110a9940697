-- What a graft has made already, as a pool grows and more is made.
use Rattle.std.proofs.Common.{◌≡◌, ℕ, ◌<◌, Bool, true, false, cond, List, [], ◌∷◌, length, refl, sym, ap, ◌∙◌, subst, arith, Some, nat_eq}
use Rattle.std.specs.Map.{lookup}
use Rattle.std.proofs.lemmas.Bool.Decides.{Decides-eqb}
use Rattle.indexmap.specs.IndexMap.{insert_entry}
use Rattle.tla_tree.specs.Tree.{Tree, Graft, graft}
use Rattle.tla_tree.specs.Pool.{Keeps}
use Rattle.tla_pool.specs.Done.{IsMade, AreMade}

pub AreMade-kept : (g : Graft) (ts us : List Tree) (ps : List (ℕ × ℕ)) → Keeps ts us → AreMade g ts ps → AreMade g us ps
AreMade-kept g ts us [] k h = tt
AreMade-kept g ts us (p ∷ ps) k h =
    let m = h.0 in
    let e_in : p.0 < length us = omega (arith, m.0, k.longer) in
    let made_in : p.1 < length us = omega (arith, m.1, k.longer) in
    ((e_in, made_in, k.same p.1 m.1 ∙ m.2 ∙ ap (graft g) (sym (k.same p.0 m.0))), AreMade-kept g ts us ps k h.1)

pub AreMade-keep : (g : Graft) (ts : List Tree) (ps : List (ℕ × ℕ)) (e made : ℕ) → AreMade g ts ps → IsMade g ts e made → AreMade g ts (insert_entry nat_eq ps e made)
AreMade-keep g ts [] e made h m = (m, tt)
AreMade-keep g ts (p ∷ ps) e made h m = by (nat_eq e p.0) refl (AreMade-keep g ts ps e made h.1 m)
  where
    by : (b : Bool) → nat_eq e p.0 ≡ b → AreMade g ts (insert_entry nat_eq ps e made) → AreMade g ts (cond b ((p.0, made) ∷ ps) (p ∷ insert_entry nat_eq ps e made))
    by true q more = (subst (λ i. IsMade g ts i made) ((Decides-eqb e p.0).0 q) m, h.1)
    by false q more = (h.0, more)

pub AreMade-found : (g : Graft) (ts : List Tree) (ps : List (ℕ × ℕ)) (e made : ℕ) → AreMade g ts ps → lookup (nat_eq e) ps ≡ Some made → IsMade g ts e made
AreMade-found g ts [] e made h f = cc
AreMade-found g ts (p ∷ ps) e made h f = by (nat_eq e p.0) refl f (AreMade-found g ts ps e made h.1)
  where
    by : (b : Bool) → nat_eq e p.0 ≡ b → cond b (Some p.1) (lookup (nat_eq e) ps) ≡ Some made → (lookup (nat_eq e) ps ≡ Some made → IsMade g ts e made) → IsMade g ts e made
    by true q f more = let v : p.1 ≡ made = cc in subst (λ i. IsMade g ts i made) (sym ((Decides-eqb e p.0).0 q)) (subst (IsMade g ts p.0) v h.0)
    by false q f more = more f
