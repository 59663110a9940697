-- Places in a text: lines end at LF, columns count bytes from 1, and a tab goes to the next column of form 8n + 1.
use Rattle.std.specs.Prelude.{ℕ, ◌+◌, ◌*◌, ◌/◌, List, [], ◌∷◌, nat_eq, take, if◌then◌else◌}
use Rattle.tla_token.specs.declared.place.Place.{Place}

-- where the byte after b is
abbrev pub step : Place → ℕ → Place
step p b =
    if nat_eq b 10 then record { line = p.line + 1; col = 1 }
    else (if nat_eq b 9 then record { line = p.line; col = 8 * ((p.col + 7) / 8) + 1 }
    else record { line = p.line; col = p.col + 1 })

abbrev pub after : Place → List ℕ → Place
after p [] = p
after p (b ∷ bs) = after (step p b) bs

abbrev pub start : Place
start = record { line = 1; col = 1 }

-- the place of what is at no place of a text
abbrev pub nowhere : Place
nowhere = record { line = 0; col = 0 }

-- the place of a byte, or of the text's end
abbrev pub place_at : List ℕ → ℕ → Place
place_at text at = after start (take at text)
