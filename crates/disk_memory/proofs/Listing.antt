-- Lists of images as lists of their bytes.
use Rattle.std.proofs.Common.{◌≡◌, ℕ, List, [], ◌∷◌, ◌++◌, ◌∙◌, ap, append_assoc}
use Rattle.std.specs.Prelude.{Vec}
use Rattle.std.specs.declared.alloc.Global.{Global}
use Rattle.std.proofs.lemmas.List.{map-append}
use Rattle.disk_memory.specs.Replay.{contents}

pub contents-push : (images : List (Vec ℕ Global)) (image : Vec ℕ Global) → contents (images ++ image ∷ []) ≡ contents images ++ image.items ∷ []
contents-push images image = map-append (λ (v : Vec ℕ Global). v.items) images (image ∷ [])

pub two_pushed : (old mid new : List (Vec ℕ Global)) (x y : Vec ℕ Global) (a b : List ℕ) → mid ≡ old ++ x ∷ [] → new ≡ mid ++ y ∷ [] → x.items ≡ a → y.items ≡ b → contents new ≡ contents old ++ (a ∷ b ∷ [])
two_pushed old mid new x y a b e f g h =
    let first : contents mid ≡ contents old ++ a ∷ [] = rw (e, ← g) (contents-push old x) in
    let second : contents new ≡ contents mid ++ b ∷ [] = rw (f, ← h) (contents-push mid y) in
    second ∙ (ap (λ (l : List (List ℕ)). l ++ b ∷ []) first ∙ append_assoc (contents old) (a ∷ []) (b ∷ []))
