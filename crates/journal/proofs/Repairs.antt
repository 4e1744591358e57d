-- What a crash leaves while the end of an image is mended.
use Rattle.std.proofs.Common.{◌≡◌, ◌≢◌, ℕ, ◌+◌, ◌<◌, List, [], ◌∷◌, ◌++◌, length, get_or, take, drop, sym, ◌∙◌, ap, subst, arith}
use Rattle.std.proofs.lemmas.List.{take-take, drop_more, drop_all, take_more, get_or-take, get_or-drop, append-nil, take_all}
use Rattle.sv_outside.specs.Disk.{Torn, Cut, Holds}
use Rattle.journal.specs.Endings.{EndsThere, IsCutAt}
use Rattle.journal.specs.Format.{IsClosed}
use Rattle.journal.proofs.Crash.{shut}

-- a closed gate that is not the last byte
gate_shut : (x y : ℕ) (rest : List ℕ) → IsClosed (x ∷ y ∷ rest) → x ≢ 1
gate_shut x y rest closed = closed

module _ (image : List ℕ) (gate : ℕ) where
  abbrev last : ℕ
  last = get_or image gate 0

  is_shut : gate + 1 < length image → IsClosed (drop gate image) → last ≢ 1
  is_shut long closed =
      let second : drop (gate + 1) image ≡ get_or image (gate + 1) 0 ∷ drop (gate + 1 + 1) image = drop_more image (gate + 1) 0 long in
      let tail : drop gate image ≡ last ∷ get_or image (gate + 1) 0 ∷ drop (gate + 1 + 1) image = drop_more image gate 0 (omega (arith, long)) ∙ ap (λ (l : List ℕ). last ∷ l) second in
      gate_shut last (get_or image (gate + 1) 0) (drop (gate + 1 + 1) image) (subst IsClosed tail closed)

  pub cut_ends : (c : List ℕ) → gate + 1 < length image → IsClosed (drop gate image) → Cut (gate + 1) image c → EndsThere gate image c
  cut_ends c long closed cut =
      let inside : gate < length c = omega (arith, long, cut.no_shorter) in
      let here : gate < gate + 1 = omega arith in
      let same : get_or c gate 0 ≡ last = sym (get_or-take (gate + 1) c gate 0 here) ∙ (ap (λ (l : List ℕ). get_or l gate 0) cut.front ∙ get_or-take (gate + 1) image gate 0 here) in
      let tail : drop gate c ≡ last ∷ drop (gate + 1) c = drop_more c gate 0 inside ∙ ap (λ (k : ℕ). k ∷ drop (gate + 1) c) same in
      record {
        front = sym (take-take gate (gate + 1) c (omega arith)) ∙ (ap (take gate) cut.front ∙ take-take gate (gate + 1) image (omega arith));
        closed = subst IsClosed (sym tail) (shut last (drop (gate + 1) c) (is_shut long closed));
        no_longer = cut.no_longer;
      }

  pub cut_done : (c : List ℕ) → gate + 1 < length image → IsClosed (drop gate image) → c ≡ take (gate + 1) image → IsCutAt gate image c
  cut_done c long closed is = record { last = last; shut = is_shut long closed; whole = is ∙ take_more image gate 0 (omega (arith, long)) }

  -- an image whose last byte is the gate
  pub kept_ends : (c : List ℕ) → gate + 1 ≡ length image → take gate c ≡ take gate image → length c ≡ length image → EndsThere gate image c
  kept_ends c size front long =
      let tail : drop gate c ≡ get_or c gate 0 ∷ [] = drop_more c gate 0 (omega (arith, size, long)) ∙ ap (λ (l : List ℕ). get_or c gate 0 ∷ l) (drop_all (gate + 1) c (omega (arith, size, long))) in
      record { front = front; closed = subst IsClosed (sym tail) tt; no_longer = omega (arith, long) }

  pub same_ends : (c : List ℕ) → gate + 1 ≡ length image → c ≡ image → EndsThere gate image c
  same_ends c size is = kept_ends c size (ap (take gate) is) (ap length is)

  pub torn_ends : (c : List ℕ) → gate + 1 ≡ length image → Torn gate 1 image c → EndsThere gate image c
  torn_ends c size torn = kept_ends c size torn.before (omega (arith, size, torn.no_shorter, torn.no_longer))

  pub same_cut : gate + 1 ≡ length image → last ≢ 1 → IsCutAt gate image image
  same_cut size ne =
      let all : take (gate + 1) image ≡ image = take_all (gate + 1) image (omega (arith, size)) in
      record { last = last; shut = ne; whole = sym all ∙ take_more image gate 0 (omega (arith, size)) }

  pub closed_cut : (c : List ℕ) → gate + 1 ≡ length image → Holds image gate (0 ∷ []) c → IsCutAt gate image c
  closed_cut c size holds = record {
    last = 0;
    shut = λ e. omega (arith, e);
    whole = holds ∙ (ap (λ (l : List ℕ). take gate image ++ (0 ∷ []) ++ l) (drop_all (gate + 1) image (omega (arith, size))) ∙ append-nil (take gate image ++ 0 ∷ []));
  }

-- the byte that was read
pub first_of : (image into : List ℕ) (gate : ℕ) → into ≡ take 1 (drop gate image) → get_or into 0 0 ≡ get_or image gate 0
first_of image into gate is =
    let within : 0 < 1 = omega arith in
    ap (λ (l : List ℕ). get_or l 0 0) is ∙ (get_or-take 1 (drop gate image) 0 0 within ∙ (get_or-drop gate image 0 0 ∙ ap (λ (k : ℕ). get_or image k 0) (let e : gate + 0 ≡ gate = omega arith in e)))
