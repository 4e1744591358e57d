use Rattle.std.specs.Prelude.{◌≢◌, ℕ, List, [], ◌∷◌}

-- not the single byte that stands for the artifact of the same task in the round before
abbrev pub IsNoMark : List ℕ → Type 0
IsNoMark bytes = bytes ≢ 6 ∷ []
