-- A module's text in the parts in which it is read back: its title, and its tokens before, in and after its translation
-- ("A PlusCal User's Manual", section 2.1; "Specifying Systems", section 15.2).
use Rattle.std.specs.Prelude.{◌≡◌, ℕ, ◌+◌, ◌≤◌, true, [], take, Some, None, is_some}
use Rattle.tla_token.specs.Places.{place_at, after}
use Rattle.tla_token.specs.Tokens.{stretch}
use Rattle.tla_token.specs.TokensSeen.{tokens_seen}
use Rattle.module_tree.specs.TextFront.{Text}
use Rattle.module_tree.specs.Walk.{Located, walk}
use Rattle.module_tree.specs.FileParts.{title, module_end, region_of, before_spot, after_spot, inside_region}
use Rattle.module_tree.specs.FileUnits.{tokens_in}
use Rattle.module_tree.specs.FileOffences.{offences_of}
use Rattle.module_split.specs.declared.stand.Stand.{Stand}
use Rattle.region_reading.specs.Bound.{Bound}
use Rattle.region_reading.specs.ModuleReader.{module_within}
use Rattle.region_split.specs.declared.parts.RegionParts.{RegionParts}

-- the bytes of a segment are where it says
abbrev pub IsPlaced : Text → Stand → Type 0
IsPlaced x d = (k : ℕ) → k ≤ d.len → place_at x (d.at + k) ≡ after d.place (take k (stretch x d.at (d.at + d.len)))

-- nothing is wrong with the segments of the text, nor with those of its translation, and these are its parts
pub record IsParted (x : Text) (p : RegionParts) : Type 0 where
  pub ended : is_some (module_end (walk x)) ≡ true
  pub sound : offences_of (walk x) ≡ []
  pub title : title (walk x) ≡ Some (stretch x p.title.from p.title.to)
  pub region : Located
  pub is_region : region_of (walk x) ≡ Some region
  pub sound_inside : offences_of (inside_region region) ≡ []
  pub open_ended : module_end (inside_region region) ≡ None
  pub before : tokens_seen p.before ≡ tokens_in (before_spot (walk x))
  pub inside : tokens_seen p.inside ≡ tokens_in (inside_region region)
  pub after : tokens_seen p.after ≡ tokens_in (after_spot (walk x))

-- the text is no module, whatever the bound on its forms
abbrev pub IsNoModule : Text → Type 0
IsNoModule x = (m : Bound) → module_within m x ≡ None
