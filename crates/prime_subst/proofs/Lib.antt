-- What a graft leaves alone.
mod LeftAlone
