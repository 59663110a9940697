-- Routines that get their names one after another.
use Rattle.std.proofs.Common.{◌≡◌, ℕ, ◌+◌, ◌<◌, ◌≤◌, List, [], ◌∷◌, ◌++◌, length, map, take, get_or, replicate, refl, sym, ap, subst, ◌∙◌, append-nil, append_assoc}
use Rattle.std.proofs.lemmas.List.{take_more, take_all, map-append, length-map}
use Rattle.tla_tree.specs.Tree.{Word, Tree}
use Rattle.pcal_tree.specs.declared.algorithm.Algorithm as code
use Rattle.pcal_tree.specs.Algorithm.{first_procedure}
use Rattle.pcal_tree.specs.InMemory.{macro_at, algorithm_at}
use Rattle.pcal_tree.specs.Names.{give, wanted, naming_by}
use Rattle.written_names.specs.declared.naming.UnitNames.{UnitNames}
use Rattle.written_names.specs.Giving.{Known, Knows}
use Rattle.written_names.specs.Units.{no_names, naming_of, Asked, asked, after_unit, after_units, AreUnits, NamesUnit, AddsUnits}
use Rattle.written_names.proofs.LookedUp.{naming_is, wanted_is}

after_both : (extended taken : List Word) (qs rs : List Asked) → after_units extended taken (qs ++ rs) ≡ after_units extended (after_units extended taken qs) rs
after_both extended taken [] rs = refl
after_both extended taken (q ∷ qs) rs = after_both extended (after_unit extended taken q) qs rs

are_both : (extended taken : List Word) (qs rs : List Asked) (us vs : List UnitNames) → AreUnits extended taken qs us → AreUnits extended (after_units extended taken qs) rs vs
    → AreUnits extended taken (qs ++ rs) (us ++ vs)
are_both extended taken [] rs [] vs h k = k
are_both extended taken [] rs (u ∷ us) vs h k = absurd h
are_both extended taken (q ∷ qs) rs [] vs h k = absurd h
are_both extended taken (q ∷ qs) rs (u ∷ us) vs h k = (h.0, are_both extended (after_unit extended taken q) qs rs us vs h.1 k)

pub adds_none : (k : Known) (us : List UnitNames) → AddsUnits k k us us []
adds_none k us = record { more = []; behind = sym (append-nil us); gives = record { names = λ extended taken h. tt; known = λ extended taken h. h } }

pub adds_one : (j k : Known) (us : List UnitNames) (q : Asked) (u : UnitNames) → NamesUnit j k q u → AddsUnits j k us (us ++ u ∷ []) (q ∷ [])
adds_one j k us q u n = record {
  more = u ∷ [];
  behind = refl;
  gives = record { names = λ extended taken h. (n.names extended taken h, tt); known = n.known };
}

pub adds_then : (j k l : Known) (us vs ws : List UnitNames) (qs rs : List Asked) → AddsUnits j k us vs qs → AddsUnits k l vs ws rs → AddsUnits j l us ws (qs ++ rs)
adds_then j k l us vs ws qs rs g h = record {
  more = g.more ++ h.more;
  behind = h.behind ∙ ap (λ (x : List UnitNames). x ++ h.more) g.behind ∙ append_assoc us g.more h.more;
  gives = record {
    names = λ extended taken a.
        are_both extended taken qs rs g.more h.more (g.gives.names extended taken a) (h.gives.names extended (after_units extended taken qs) (g.gives.known extended taken a));
    known = λ extended taken a.
        subst (Knows l extended) (sym (after_both extended taken qs rs)) (h.gives.known extended (after_units extended taken qs) (g.gives.known extended taken a));
  };
}

-- one more in a loop
module _ {A : Type 0} (ask : A → Asked) (xs : List A) where
  pub adds_more : (j k l : Known) (us vs ws : List UnitNames) (i : ℕ) (x : A) (u : UnitNames) → x ≡ get_or xs i x → i < length xs → ws ≡ vs ++ u ∷ []
      → AddsUnits j k us vs (map ask (take i xs)) → NamesUnit k l (ask x) u → AddsUnits j l us ws (map ask (take (i + 1) xs))
  adds_more j k l us vs ws i x u e less w g n =
      subst (λ qs. AddsUnits j l us ws qs)
      (ap (λ (y : A). map ask (take i xs) ++ ask y ∷ []) e ∙ sym (ap (map ask) (take_more xs i x less) ∙ map-append ask (take i xs) (get_or xs i x ∷ [])))
      (adds_then j k l us vs ws (map ask (take i xs)) (ask x ∷ []) g (subst (λ y. AddsUnits k l vs y (ask x ∷ [])) (sym w) (adds_one k l vs (ask x) u n)))

  pub adds_all : (j k : Known) (us vs : List UnitNames) (i : ℕ) → length xs ≤ i → AddsUnits j k us vs (map ask (take i xs)) → AddsUnits j k us vs (map ask xs)
  adds_all j k us vs i less g = subst (λ ys. AddsUnits j k us vs (map ask ys)) (take_all i xs less) g

-- ---- the whole algorithm

pub naming_given : (ts : List Tree) (a : code.Algorithm) (j k : Known) (extended taken : List Word) (n : ℕ) (us vs : List UnitNames)
    → Knows j extended taken → n ≡ length a.macros.items → us ≡ replicate n no_names → AddsUnits j k us vs (asked (algorithm_at ts a))
    → naming_of vs ≡ naming_by (give extended taken (wanted (algorithm_at ts a)))
naming_given ts a j k extended taken n us vs known count none all =
    ap naming_of (all.behind ∙ ap (λ (x : List UnitNames). x ++ all.more) (none ∙ ap (λ m. replicate m no_names) (count ∙ sym (length-map a.macros.items (macro_at ts)))))
    ∙ naming_is extended taken (first_procedure (algorithm_at ts a)) (asked (algorithm_at ts a)) all.more (all.gives.names extended taken known)
    ∙ ap (λ ws. naming_by (give extended taken ws)) (sym (wanted_is (algorithm_at ts a)))
