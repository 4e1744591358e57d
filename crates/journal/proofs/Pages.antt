-- A list that is read in parts.
use Rattle.std.proofs.Common.{◌≡◌, ℕ, ◌-◌, ◌≤◌, List, ◌++◌, length, take, drop, sym, ◌∙◌, arith, take-append-drop}
use Rattle.std.proofs.lemmas.List.{take-take}
use Rattle.std.proofs.lemmas.Slice.{between_is, take-put_mid}
use borrow.Rule.Slice.PartMut.{put_mid}

pub take_split : (list : List ℕ) (i j : ℕ) → i ≤ j → take j list ≡ take i list ++ take (j - i) (drop i list)
take_split list i j le =
    let front : take i (take j list) ≡ take i list = take-take i j list le in
    let back : drop i (take j list) ≡ take (j - i) (drop i list) = sym (between_is list i j) in
    sym (take-append-drop i (take j list)) ∙ (λ k. front k ++ back k)

-- one part more
pub read_more : (source into part : List ℕ) (done end : ℕ) → done ≤ end → done ≤ length into → length part ≡ end - done → take done into ≡ take done source → part ≡ take (end - done) (drop done source)
    → take end (put_mid done (end - done) into part) ≡ take end source
read_more source into part done end le within long front back =
    take-put_mid done (end - done) into part end (omega (arith, le, long)) within ∙ ((λ k. front k ++ back k) ∙ sym (take_split source done end le))
