-- What the cutting function gives without faulty parts is the token list of a text, and what it gives otherwise its refusal.
use Rattle.std.proofs.Common.{◌≡◌, ℕ, Bool, List, [], ◌∷◌, map, Some, refl, sym, ap, subst, ◌∙◌}
use Rattle.tla_token.specs.declared.rule.Refusal.{Refusal}
use Rattle.tla_token.specs.Places.{place_at}
use Rattle.tla_token.specs.Tokens.{Piece, AllFit, Fits, tokens_of, stretch, Tok}
use Rattle.tla_token.specs.Offences.{Part, sound, parts_text, PartsFit, offences, least, Offends}
use Rattle.tla_token.specs.Cut.{parts}
use Rattle.tla_token.proofs.Unique.{sound_text}
use Rattle.tla_token.proofs.Cutting.{cut_fits}

pub fit_sound : (ps : List Piece) → PartsFit (map sound ps) → AllFit ps
fit_sound [] h = tt
fit_sound (p ∷ ps) (f, h) = (let F : List ℕ → Type 0 = λ u. Fits p u in (subst F (sound_text ps) f, fit_sound ps h))

pub parts_tok : (text : List ℕ) (from to : ℕ) (ps : List Piece) → parts (stretch text from to) ≡ map sound ps → Tok text from to (tokens_of (place_at text from) from ps)
parts_tok text from to ps e =
    let c = cut_fits (stretch text from to) in
    let F : List Part → Type 0 = λ qs. PartsFit qs in
    record { pieces = ps; cut = sym c.0 ∙ ap parts_text e ∙ sound_text ps; fit = fit_sound ps (subst F e c.1); tokens = refl }

pub parts_offend : (a : Bool) (text : List ℕ) (from to : ℕ) (r : Refusal) (at : ℕ) → least (offences a from (parts (stretch text from to))) ≡ Some (r.rule, at) → r.place ≡ place_at text at
    → Offends a text from to r
parts_offend a text from to r at e p =
    let c = cut_fits (stretch text from to) in
    record { parts = parts (stretch text from to); cut = sym c.0; fit = c.1; at = at; first = e; place = p }
