-- What a refused call has appended.
use Rattle.std.specs.Prelude.{◌≡◌, ℕ, List, ◌++◌}

-- a prefix of the text, maybe none or all of it, went to the end
pub record AppendsPrefix (old text new : List ℕ) : Type 0 where
  pub done : List ℕ
  pub rest : List ℕ
  pub whole : text ≡ done ++ rest
  pub appended : new ≡ old ++ done
