-- Lists whose images are the same have the same images at each place.
use Rattle.std.specs.Prelude.{◌≡◌, ℕ, ◌<◌, List, length, map, slice_index_or}
use Rattle.std.proofs.Common.{sym, ap, ◌∙◌}
use Rattle.std.proofs.lemmas.List.{get_or-map}

pub same_at : {X Y : Type 0} (f : X → Y) (xs ys : List X) (i : ℕ) (d e : X) → i < length xs → i < length ys → map f xs ≡ map f ys → f (slice_index_or xs i d) ≡ f (slice_index_or ys i e)
same_at f xs ys i d e a b h = sym (get_or-map f xs i d (f d) a) ∙ ap (λ l. slice_index_or l i (f d)) h ∙ get_or-map f ys i e (f d) b
