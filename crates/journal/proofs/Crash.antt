-- What a crash leaves in each of the two steps of an append.
use Rattle.std.proofs.Common.{◌≡◌, ◌≢◌, ◌⊎◌, inl, inr, ℕ, ◌+◌, ◌≤◌, ◌^◌, List, [], ◌∷◌, ◌++◌, length, get_or, set, take, drop, refl, sym, ◌∙◌, ap, arith, append_assoc, length-append}
use Rattle.std.proofs.lemmas.List.{take_at, drop_at, drop_more, take_all, drop_all, append-nil, take-append-drop}
use Rattle.std.proofs.lemmas.Bool.Decides.{eqb_tells}
use Rattle.sv_outside.specs.Disk.{Holds, Torn}
use Rattle.journal.specs.Format.{Entry, bytes_of, opened, at_rest, Rests, IsBatch, IsClosed, IsBeforeOrAfter}

-- a gate that is not open, whatever stands behind it
pub shut : (x : ℕ) (rest : List ℕ) → x ≢ 1 → IsClosed (x ∷ rest)
shut x [] n = tt
shut x (y ∷ ys) n = n

-- the record behind the closed gate
abbrev pub staged : List ℕ → ℕ → List ℕ → List ℕ
staged front last body = front ++ last ∷ (body ++ 0 ∷ [])

-- what stands up to the gate, and a closed tail
abbrev pub EndsClosed : List ℕ → List ℕ → Type 0
EndsClosed front image = (tail : List ℕ) × (image ≡ front ++ tail) × IsClosed tail

module _ (front : List ℕ) (gate last : ℕ) (closed : last ≢ 1) (size : length front ≡ gate) where
  length-resting : length (front ++ last ∷ []) ≡ gate + 1
  length-resting = omega (arith, size, length-append front (last ∷ []))

  pub torn_behind : (n : ℕ) (c : List ℕ) → Torn (gate + 1) n (front ++ last ∷ []) c → EndsClosed front c
  torn_behind n c torn =
      let same : take (gate + 1) c ≡ front ++ last ∷ [] = torn.before ∙ take_all (gate + 1) (front ++ last ∷ []) (omega (arith, length-resting)) in
      let whole : c ≡ front ++ last ∷ drop (gate + 1) c =
      sym (take-append-drop (gate + 1) c) ∙ (ap (λ (l : List ℕ). l ++ drop (gate + 1) c) same ∙ append_assoc front (last ∷ []) (drop (gate + 1) c)) in
      (last ∷ drop (gate + 1) c, whole, shut last (drop (gate + 1) c) closed)

  pub written_behind : (body c : List ℕ) → Holds (front ++ last ∷ []) (gate + 1) (body ++ 0 ∷ []) c → c ≡ staged front last body
  written_behind body c holds =
      holds
      ∙ (ap (λ (l : List ℕ). l ++ (body ++ 0 ∷ []) ++ drop (gate + 1 + length (body ++ 0 ∷ [])) (front ++ last ∷ [])) (take_all (gate + 1) (front ++ last ∷ []) (omega (arith, length-resting)))
      ∙ (ap (λ (l : List ℕ). (front ++ last ∷ []) ++ (body ++ 0 ∷ []) ++ l) (drop_all (gate + 1 + length (body ++ 0 ∷ [])) (front ++ last ∷ []) (omega (arith, length-resting)))
      ∙ (append-nil ((front ++ last ∷ []) ++ (body ++ 0 ∷ []))
      ∙ append_assoc front (last ∷ []) (body ++ 0 ∷ []))))

  pub behind_short : (n : ℕ) (c : List ℕ) → gate + 1 + n ≤ 2 ^ 31 → Torn (gate + 1) n (front ++ last ∷ []) c → length c ≤ 2 ^ 31
  behind_short n c le torn = omega (arith, le, torn.no_longer, length-resting)

  length-staged : (body : List ℕ) → length (staged front last body) ≡ gate + 1 + length (body ++ 0 ∷ [])
  length-staged body = omega (arith, size, length-append front (last ∷ (body ++ 0 ∷ [])))

  pub gate_short : (body c : List ℕ) (n : ℕ) → n ≡ length (body ++ 0 ∷ []) → gate + 1 + n ≤ 2 ^ 31 → Torn gate 1 (staged front last body) c → length c ≤ 2 ^ 31
  gate_short body c n is le torn = omega (arith, is, le, torn.no_longer, length-staged body)

  before_gate : (body : List ℕ) → take gate (staged front last body) ≡ front
  before_gate body = take_at front (last ∷ (body ++ 0 ∷ [])) gate size

  behind_gate : (body : List ℕ) → drop (gate + 1) (staged front last body) ≡ body ++ 0 ∷ []
  behind_gate body =
      ap (λ (l : List ℕ). drop (gate + 1) l) (sym (append_assoc front (last ∷ []) (body ++ 0 ∷ []))) ∙ drop_at (front ++ last ∷ []) (body ++ 0 ∷ []) (gate + 1) length-resting

  at_gate : (body : List ℕ) (x : ℕ) (c : List ℕ) → c ≡ front ++ x ∷ (body ++ 0 ∷ []) → EndsClosed front c ⊎ (c ≡ front ++ ((1 ∷ body) ++ 0 ∷ []))
  at_gate body x c e = elim (eqb_tells x 1) [
    | inl h ↦ inr (e ∙ ap (λ (k : ℕ). front ++ k ∷ (body ++ 0 ∷ [])) h.1)
    | inr h ↦ inl (x ∷ (body ++ 0 ∷ []), e, shut x (body ++ 0 ∷ []) h.1)
  ]

  pub torn_gate : (body c : List ℕ) → Torn gate 1 (staged front last body) c → EndsClosed front c ⊎ (c ≡ front ++ ((1 ∷ body) ++ 0 ∷ []))
  torn_gate body c torn =
      let long : length (staged front last body) ≡ gate + 1 + length (body ++ 0 ∷ []) = length-staged body in
      let x = get_or c gate 0 in
      let rest : drop gate c ≡ x ∷ (body ++ 0 ∷ []) = drop_more c gate 0 (omega (arith, torn.no_shorter, long)) ∙ ap (λ (l : List ℕ). x ∷ l) (torn.after ∙ behind_gate body) in
      let whole : c ≡ front ++ x ∷ (body ++ 0 ∷ []) =
      sym (take-append-drop gate c) ∙ (ap (λ (l : List ℕ). l ++ drop gate c) (torn.before ∙ before_gate body) ∙ ap (λ (l : List ℕ). front ++ l) rest) in
      at_gate body x c whole

  pub written_gate : (body c : List ℕ) → Holds (staged front last body) gate (1 ∷ []) c → c ≡ front ++ ((1 ∷ body) ++ 0 ∷ [])
  written_gate body c holds =
      holds
      ∙ (ap (λ (l : List ℕ). l ++ (1 ∷ []) ++ drop (gate + 1) (staged front last body)) (before_gate body)
      ∙ (ap (λ (l : List ℕ). front ++ (1 ∷ []) ++ l) (behind_gate body)
      ∙ append_assoc front (1 ∷ []) (body ++ 0 ∷ [])))

opened-push : (entries : List Entry) (entry : Entry) (rest : List ℕ) → opened (entries ++ entry ∷ []) ++ rest ≡ opened entries ++ ((1 ∷ bytes_of entry) ++ rest)
opened-push [] entry rest = ap (λ (l : List ℕ). (1 ∷ l) ++ rest) (append-nil (bytes_of entry))
opened-push (e ∷ es) entry rest =
    append_assoc (1 ∷ bytes_of e) (opened (es ++ entry ∷ [])) rest ∙ ap (λ (l : List ℕ). (1 ∷ bytes_of e) ++ l) (opened-push es entry rest) ∙ sym (append_assoc (1 ∷ bytes_of e) (opened es) ((1 ∷ bytes_of entry) ++ rest))

-- one record more behind the header
pub front-push : (header : List ℕ) (entries : List Entry) (entry : Entry) (rest : List ℕ) → (header ++ opened (entries ++ entry ∷ [])) ++ rest ≡ (header ++ opened entries) ++ ((1 ∷ bytes_of entry) ++ rest)
front-push header entries entry rest =
    append_assoc header (opened (entries ++ entry ∷ [])) rest ∙ ap (λ (l : List ℕ). header ++ l) (opened-push entries entry rest) ∙ sym (append_assoc header (opened entries) ((1 ∷ bytes_of entry) ++ rest))

-- the records of two lists, one behind the other
opened-append : (entries batch : List Entry) → opened (entries ++ batch) ≡ opened entries ++ opened batch
opened-append [] batch = refl
opened-append (e ∷ es) batch = ap (λ (l : List ℕ). (1 ∷ bytes_of e) ++ l) (opened-append es batch) ∙ sym (append_assoc (1 ∷ bytes_of e) (opened es) (opened batch))

-- a batch more behind the header
front-batch : (header : List ℕ) (entries batch : List Entry) (body rest : List ℕ) → opened batch ≡ 1 ∷ body → (header ++ opened (entries ++ batch)) ++ rest ≡ (header ++ opened entries) ++ ((1 ∷ body) ++ rest)
front-batch header entries batch body rest is =
    let all : header ++ opened (entries ++ batch) ≡ (header ++ opened entries) ++ (1 ∷ body) =
    ap (λ (l : List ℕ). header ++ l) (opened-append entries batch ∙ ap (λ (l : List ℕ). opened entries ++ l) is) ∙ sym (append_assoc header (opened entries) (1 ∷ body)) in
    ap (λ (l : List ℕ). l ++ rest) all ∙ append_assoc (header ++ opened entries) (1 ∷ body) rest

-- what stands behind the gate of a batch
pub record Behind (batch : List Entry) (bytes : List ℕ) : Type 0 where
  pub body : List ℕ
  pub gated : opened batch ≡ 1 ∷ body
  pub whole : bytes ≡ body ++ 0 ∷ []

pub behind : (batch : List Entry) (bytes : List ℕ) → IsBatch batch bytes → Behind batch bytes
behind [] bytes is = let no : 1 ≡ 0 = ap (λ (l : List ℕ). get_or l 0 2) is in absurd (omega (arith, no))
behind (e ∷ es) bytes is = record { body = bytes_of e ++ opened es; gated = refl; whole = ap (drop 1) is }

pub batch_length : (batch : List Entry) (bytes : List ℕ) → IsBatch batch bytes → length (opened batch) ≡ length bytes
batch_length batch bytes is = omega (arith, ap length is, length-append (opened batch) (0 ∷ []))

pub one_length : (entry : Entry) → length (opened (entry ∷ [])) ≡ length (bytes_of entry ++ 0 ∷ [])
one_length entry = omega (arith, length-append (1 ∷ bytes_of entry) [], length-append (bytes_of entry) (0 ∷ []))

pub before_or_after : (header : List ℕ) (entries batch : List Entry) (body c : List ℕ) → opened batch ≡ 1 ∷ body → length c ≤ 2 ^ 31
    → EndsClosed (header ++ opened entries) c ⊎ (c ≡ (header ++ opened entries) ++ ((1 ∷ body) ++ 0 ∷ [])) → IsBeforeOrAfter header entries batch c
before_or_after header entries batch body c is short either = elim either [
  | inl before ↦ (short, inl before)
  | inr after ↦ (short, inr (0 ∷ [], after ∙ sym (front-batch header entries batch body (0 ∷ []) is), tt))
]

pub after_only : (header : List ℕ) (entries batch : List Entry) (body c : List ℕ) → opened batch ≡ 1 ∷ body → c ≡ (header ++ opened entries) ++ ((1 ∷ body) ++ 0 ∷ []) → c ≡ at_rest header (entries ++ batch)
after_only header entries batch body c is after = after ∙ sym (front-batch header entries batch body (0 ∷ []) is)

-- where the next gate stands once a batch more stands
pub gate_after : (header : List ℕ) (entries batch : List Entry) (gate n : ℕ) → length (header ++ opened entries) ≡ gate → length (opened batch) ≡ n → length (header ++ opened (entries ++ batch)) ≡ gate + n
gate_after header entries batch gate n size long =
    omega (arith, size, long, ap length (opened-append entries batch), length-append header (opened (entries ++ batch)), length-append header (opened entries), length-append (opened entries) (opened batch))

pub rests_after : (header : List ℕ) (entries batch : List Entry) → Rests header (entries ++ batch) (at_rest header (entries ++ batch))
rests_after header entries batch = record { last = 0; shut = λ e. omega (arith, e); whole = refl }

set_last : (body : List ℕ) → set (body ++ 0 ∷ []) (length body) 1 ≡ body ++ 1 ∷ []
set_last [] = refl
set_last (x ∷ body) = ap (λ (l : List ℕ). x ∷ l) (set_last body)

-- a record more in a batch, whose last gate is opened for it
pub batch_more : (batch : List Entry) (entry : Entry) (old numbers : List ℕ) (last : ℕ) → last + 1 ≡ length old → bytes_of entry ≡ numbers ++ entry.body → IsBatch batch old
    → IsBatch (batch ++ entry ∷ []) (((set old last 1 ++ numbers) ++ entry.body) ++ 0 ∷ [])
batch_more batch entry old numbers last end is batched =
    let b = behind batch old batched in
    let place : last ≡ length b.body = omega (arith, end, ap length b.whole, length-append b.body (0 ∷ [])) in
    let front : set old last 1 ≡ b.body ++ 1 ∷ [] = (λ i. set (b.whole i) (place i) 1) ∙ set_last b.body in
    let left : ((set old last 1 ++ numbers) ++ entry.body) ++ 0 ∷ [] ≡ b.body ++ ((1 ∷ bytes_of entry) ++ 0 ∷ []) =
    ap (λ (l : List ℕ). ((l ++ numbers) ++ entry.body) ++ 0 ∷ []) front ∙ (append_assoc ((b.body ++ 1 ∷ []) ++ numbers) entry.body (0 ∷ [])
    ∙ (append_assoc (b.body ++ 1 ∷ []) numbers (entry.body ++ 0 ∷ []) ∙ (append_assoc b.body (1 ∷ []) (numbers ++ (entry.body ++ 0 ∷ []))
    ∙ ap (λ (l : List ℕ). b.body ++ 1 ∷ l) (sym (append_assoc numbers entry.body (0 ∷ [])) ∙ ap (λ (l : List ℕ). l ++ 0 ∷ []) (sym is))))) in
    ap (λ (l : List ℕ). 1 ∷ l) left ∙ (ap (λ (l : List ℕ). l ++ ((1 ∷ bytes_of entry) ++ 0 ∷ [])) (sym b.gated) ∙ sym (opened-push batch entry (0 ∷ [])))
