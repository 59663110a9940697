-- A `;` that turns out to stand where fewer forms are open: a list is within the limits as before, and what is too deep in it is so still.
use Rattle.std.proofs.Common.{◌≡◌, ◌⊎◌, ℕ, ◌≤◌, ◌&&◌, Bool, true, false, List, [], ◌∷◌, ◌++◌, length, Option, Some, None, inl, inr, refl, sym, ap, ◌∙◌, subst, append_assoc, length-append, arith}
use Rattle.std.specs.List.{list_all}
use Rattle.tla_token.specs.declared.place.Place.{Place}
use Rattle.tla_tree.specs.Lexical.{TokenView, Token}
use Rattle.tla_tree.specs.Reader.{Reader}
use Rattle.tla_tree.specs.FirstStop.{Open, is_within}
use Rattle.tla_tree.proofs.Limited.{limited_as}
use Rattle.pcal_tree.specs.GrammarParts.{maybe_semicolon}
use Rattle.pcal_tree.specs.OpenForms.{here, plain}
use Rattle.syntax_reading.proofs.Beside.{Fit, Deep, Late, Sits, fit_both, fit_front, fit_here, BesideAt}
use Rattle.syntax_reading.proofs.BesideAround.{sits_less}
use Rattle.syntax_reading.proofs.Within.{EndsAt}

abbrev at : ℕ → Open
at d = record { expressions = 0; statements = d }

-- what is too deep is so with another count in the place of one, or it is that one
deep_parts : (w : List Open) (o v : Open) (r : List Open) (m : ℕ) → Deep (w ++ o ∷ r) m → Deep (w ++ v ∷ r) m ⊎ ((is_within o ≡ false) × (m ≤ length r))
deep_parts [] o v r m (inl d) = inr d
deep_parts [] o v r m (inr d) = inl (inr d)
deep_parts (c ∷ cs) o v r m (inl (l, k)) = (let a = length-append cs (o ∷ r) in let b = length-append cs (v ∷ r) in inl (inl (l, omega (arith, k, a, b))))
deep_parts (c ∷ cs) o v r m (inr d) = elim (deep_parts cs o v r m d) [
  | inl x ↦ inl (inr x)
  | inr x ↦ inr x
]

unfit_deep : (w y : List Open) (m : ℕ) → list_all is_within w ≡ false → m ≤ length y → Deep (w ++ y) m
unfit_deep [] y m e l = (let both : true ≡ false = e in absurd cc)
unfit_deep (c ∷ cs) y m e l = by (unfit_deep cs y m) (is_within c) refl
  where
    by : (list_all is_within cs ≡ false → m ≤ length y → Deep (cs ++ y) m) → (b : Bool) → is_within c ≡ b → Deep ((c ∷ cs) ++ y) m
    by h true i = inr (h (sym (ap (λ (b : Bool). b && list_all is_within cs) i) ∙ e) l)
    by h false i = inl (i, (let a = length-append cs y in omega (arith, a, l)))

module _ (w : List Open) (n d : ℕ) (l : d ≤ n) (s : Sits n w) where
  lower_fit : Fit (w ++ here n) → Fit (w ++ here d)
  lower_fit f = (let g = fit_front w (here n) f in fit_both w (here d) g (fit_here d ((sits_less d l s).is g)))

  -- where as many forms are too many, some were before
  lower_deep : (r : List Open) (m : ℕ) → Deep ((w ++ here n) ++ r) m → Deep ((w ++ here d) ++ r) m
  lower_deep r m k = back (by (deep_parts w (at n) (at d) r m (subst (λ (z : List Open). Deep z m) (append_assoc w (here n) r) k)))
    where
      back : Deep (w ++ at d ∷ r) m → Deep ((w ++ here d) ++ r) m
      back = subst (λ (z : List Open). Deep z m) (sym (append_assoc w (here d) r))

      early : is_within (at n) ≡ false → m ≤ length r → (b : Bool) → list_all is_within w ≡ b → Deep (w ++ at d ∷ r) m
      early e h false f = unfit_deep w (at d ∷ r) m f (omega (arith, h))
      early e h true f = (let both : true ≡ false = sym (s.is f) ∙ e in absurd cc)

      by : Deep (w ++ at d ∷ r) m ⊎ ((is_within (at n) ≡ false) × (m ≤ length r)) → Deep (w ++ at d ∷ r) m
      by (inl x) = x
      by (inr (e, h)) = early e h (list_all is_within w) refl

  lower_late : (j t : ℕ) → Late (w ++ here n) j t → Late (w ++ here d) j t
  lower_late j t k r m h = lower_deep r m (k r m (let a = length-append w (here n) in h))

  pub lowered_beside : {A : Type 0} {p : Place} {k : TokenView} {Q : A → List Open} {r q : Reader A} (o : Option Place) → BesideAt p k (w ++ plain d (maybe_semicolon o)) Q r q → BesideAt p k (w ++ plain n (maybe_semicolon o)) Q r q
  lowered_beside None h = h
  lowered_beside (Some q) h = record { is = λ ts e. limited_as lower_fit lower_late (λ a f g. g) (λ a us i j m. m) (h.is ts e) }

  pub lowered_ends : {A : Type 0} {p : Place} {k : TokenView} {x : List Token → List Token} {Q : A → Type 0} {put : A → List Token → List Token} {op : A → List Open} {r : Reader A} (o : Option Place)
      → EndsAt p k x Q put (w ++ plain d (maybe_semicolon o)) op r → EndsAt p k x Q put (w ++ plain n (maybe_semicolon o)) op r
  lowered_ends None h = h
  lowered_ends (Some q) h = record {
    is = λ ts e u i.
        (let m = h.is ts e u i in
        record { whole = m.whole; good = m.good; known = m.known; more = m.more; counts = m.counts; fit = λ f. m.fit (lower_fit f); read = m.read; fix = m.fix; long = m.long; parts = m.parts; tokens = m.tokens });
  }
